-- LinkInfo: its head and its pieces, each way out of their tests.
use mathlib.Core.Path.{◌≡◌, refl, sym, ap, ◌∙◌}
use mathlib.Core.List.{List, [], ◌∷◌, ◌++◌, map, append_assoc}
use mathlib.Core.Bool.{Bool, true, false, not, ◌&&◌, ◌||◌}
use Prim.Native.Nat.{ℕ, ◌+◌, ◌≤◌}
use native.Mathlib.Omega.{arith}
use lib.ListN.{length}
use lib.Dec.{leb, eqb}
use borrow.Author.Tests.{leb-true, eqb-true}
use Rattle.std.specs.Prelude.{Option, Some, None, Ok, Err}
use Rattle.octets.specs.Numbers.{u32_at}
use Rattle.format.specs.declared.Profile.{Profile}
use Rattle.format.specs.declared.Profile.TheVariants.{Strict, NinetyFive}
use Rattle.format.specs.Tests.{Test}
use Rattle.format.specs.Steps.Wrong.{given}
use Rattle.format.specs.Pieces.{Piece, text_piece, absent_zero, tests_of, each_ok, led, apart_tests}
use Rattle.format.specs.Volume.{volume_piece, volume_rules}
use Rattle.format.specs.Network.{network_piece, network_rules}
use Rattle.format.specs.Info.{info_head, long_head, head_ok, has_local, has_network, info_pieces, leftover_ok, info_head_tests, has_local_unicode}
use Rattle.format.proofs.Bools.{or-true, and-true}
use Rattle.format.proofs.WrongLaws.{none_wrong, given_none}
use Rattle.format.proofs.Holds.{info_piece_tests, info_head_holds}
use Rattle.pieces.specs.declared.Found.{Found}
use Rattle.pieces.specs.declared.NetworkTexts.{NetworkTexts}
use Rattle.pieces.specs.Steps.Found.{field_if, text_found, volume_found, network_found, six_apart}
use Rattle.info.specs.Steps.Found.{ignores_leftovers, volume_is, network_is, text_is, Earlier, Later, earlier_in, later_in, pieces_in}
use Rattle.pieces.proofs.TestLaws.{told, given_lost, given_then, same_lost, same_held, Fields, Fields-most, text_fields, AllFields, pieces_Fields}
use Rattle.pieces.proofs.TextLaws.{text_lost, text_right, text_field, zero_field}
use Rattle.pieces.proofs.StructLaws.{struct_Fields}
use Rattle.pieces.proofs.VolumeLaws.{volume_Fields}
use Rattle.pieces.proofs.NetworkLaws.{network_Fields}

-- ---- the head, field after field

-- the field of a part that is there, or of any where leftovers are ignored, is not looked at
pub forgiven : (profile : Profile) (b : Bool) (o : ℕ) → absent_zero (b || ignores_leftovers profile) o ≡ leftover_ok profile b o
unfolding ignores_leftovers
forgiven Strict true o = refl
forgiven Strict false o = refl
forgiven NinetyFive true o = refl
forgiven NinetyFive false o = refl

pub forgiven_field : (profile : Profile) (b w : Bool) (l : List ℕ) (i : ℕ) → absent_zero (b || ignores_leftovers profile) (field_if w l i) ≡ (not w || leftover_ok profile b (u32_at l i))
forgiven_field profile b w l i = zero_field (b || ignores_leftovers profile) w l i ∙ ap (λ (x : Bool). not w || x) (forgiven profile b (u32_at l i))

pub ruleset leftovers = (forgiven, forgiven_field)

-- a head that passed its tests is right
pub head_passed : (profile : Profile) (l : List ℕ) {x : Unit {0}} → given (info_head_tests profile l) tt ≡ Ok x → head_ok l ≡ true
head_passed profile l e = (info_head_holds profile l (none_wrong (info_head_tests profile l) (given_none (info_head_tests profile l) tt e).0)).head

-- a long one lies inside
pub passed_room : (l : List ℕ) → head_ok l ≡ true → long_head l ≡ true → 0x24 ≤ length l
passed_room l e t =
    or-true (eqb (info_head l) 0x1C) (long_head l && leb (info_head l) (length l)) e
    (λ q. absurd (omega (arith, leb-true 0x24 (info_head l) t, eqb-true (info_head l) 0x1C q)))
    (λ q. omega (arith, leb-true 0x24 (info_head l) t, leb-true (info_head l) (length l) (and-true (long_head l) (leb (info_head l) (length l)) q).1))

-- ---- the pieces: each way out of their tests

each_append : (h : ℕ) (xs ys : List Piece) → each_ok h (xs ++ ys) ≡ each_ok h xs ++ each_ok h ys
each_append h [] ys = refl
each_append h (x ∷ xs) ys = ap (λ (ts : List Test). tests_of h x ++ ts) (each_append h xs ys) ∙ sym (append_assoc (tests_of h x) (each_ok h xs) (each_ok h ys))

module _ (l : List ℕ) where
  abbrev h : ℕ
  h = info_head l

  abbrev volume : Piece
  volume = volume_piece (has_local l) l 12 (u32_at l 12)

  abbrev local : Piece
  local = text_piece (has_local l) false l 16 (u32_at l 16)

  abbrev network : Piece
  network = network_piece (has_network l) l 20 (u32_at l 20)

  abbrev suffix : Piece
  suffix = text_piece true false l 24 (u32_at l 24)

  abbrev local_unicode : Piece
  local_unicode = text_piece (has_local_unicode l) true l 28 (u32_at l 28)

  abbrev suffix_unicode : Piece
  suffix_unicode = text_piece (long_head l) true l 32 (u32_at l 32)

  abbrev firsts : List Piece
  firsts = volume ∷ local ∷ network ∷ []

  abbrev lasts : List Piece
  lasts = suffix ∷ local_unicode ∷ suffix_unicode ∷ []

  abbrev earlier : Earlier
  earlier = (volume_is l, text_is (has_local l) false l 16, network_is l)

  abbrev later : Later
  later = (text_is true false l 24, text_is (has_local_unicode l) true l 28, text_is (long_head l) true l 32)

  -- ---- the first three

  module _ {head : ℕ} (eh : head ≡ h) where
    pub volume_lost : {w : ℕ} → volume_found (has_local l) l head ≡ Err w → earlier_in l ≡ Err w
    unfolding earlier_in volume_found
    volume_lost e = given_lost (tests_of h volume) (each_ok h (local ∷ network ∷ [])) (volume_is l) earlier (rw eh at e)

    module _ {a : Found ℕ} (A : volume_found (has_local l) l head ≡ Ok a) where
      past_volume : earlier_in l ≡ given (each_ok h (local ∷ network ∷ [])) earlier
      unfolding earlier_in volume_found
      past_volume = given_then (tests_of h volume) (each_ok h (local ∷ network ∷ [])) (volume_is l) earlier (rw eh at A)

      volume_right : volume_is l ≡ a
      unfolding volume_found
      volume_right = (given_none (tests_of h volume) (volume_is l) (rw eh at A)).1

      pub local_lost : text_found (has_local l) false l head (u32_at l 16) ≡ None → earlier_in l ≡ Err 16
      local_lost e = past_volume ∙ given_lost (tests_of h local) (each_ok h (network ∷ [])) earlier earlier (text_lost (has_local l) false l h (u32_at l 16) 16 (rw eh at e) earlier)

      module _ {b : Found ℕ} (B : text_found (has_local l) false l head (u32_at l 16) ≡ Some b) where
        local_right : (given (tests_of h local) earlier ≡ Ok earlier) × (b ≡ text_is (has_local l) false l 16)
        local_right = text_right (has_local l) false l h (u32_at l 16) 16 (rw eh at B) earlier

        past_local : earlier_in l ≡ given (each_ok h (network ∷ [])) earlier
        past_local = past_volume ∙ given_then (tests_of h local) (each_ok h (network ∷ [])) earlier earlier local_right.0

        pub network_lost : {w : ℕ} → network_found (has_network l) l head ≡ Err w → earlier_in l ≡ Err w
        unfolding network_found
        network_lost e = past_local ∙ given_lost (tests_of h network) [] (network_is l) earlier (rw eh at e)

        pub earlier_right : {c : Found NetworkTexts} → network_found (has_network l) l head ≡ Ok c → earlier_in l ≡ Ok (a, b, c)
        unfolding network_found
        earlier_right {c} C =
            let k : network_is l ≡ c = (given_none (tests_of h network) (network_is l) (rw eh at C)).1 in
            past_local ∙ given_then (tests_of h network) [] (network_is l) earlier (rw eh at C) ∙ rw (volume_right, local_right.1, k)

  -- ---- those after them

  module _ {head : ℕ} (eh : head ≡ h) where
    pub suffix_lost : text_found true false l head (u32_at l 24) ≡ None → later_in l ≡ Err 24
    unfolding later_in
    suffix_lost e = given_lost (tests_of h suffix) (each_ok h (local_unicode ∷ suffix_unicode ∷ [])) later later (text_lost true false l h (u32_at l 24) 24 (rw eh at e) later)

    module _ {d : Found ℕ} (D : text_found true false l head (u32_at l 24) ≡ Some d) where
      suffix_right : (given (tests_of h suffix) later ≡ Ok later) × (d ≡ text_is true false l 24)
      suffix_right = text_right true false l h (u32_at l 24) 24 (rw eh at D) later

      past_suffix : later_in l ≡ given (each_ok h (local_unicode ∷ suffix_unicode ∷ [])) later
      unfolding later_in
      past_suffix = given_then (tests_of h suffix) (each_ok h (local_unicode ∷ suffix_unicode ∷ [])) later later suffix_right.0

      local_unicode_field : {o : Option (Found ℕ)} → text_found (has_local_unicode l) true l head (field_if (long_head l) l 28) ≡ o → text_found (has_local_unicode l) true l h (u32_at l 28) ≡ o
      local_unicode_field e = sym (text_field (has_local_unicode l) true l h 28 (long_head l) (λ z. rw z)) ∙ rw eh at e

      pub local_unicode_lost : text_found (has_local_unicode l) true l head (field_if (long_head l) l 28) ≡ None → later_in l ≡ Err 28
      local_unicode_lost e =
          past_suffix ∙ given_lost (tests_of h local_unicode) (each_ok h (suffix_unicode ∷ [])) later later
          (text_lost (has_local_unicode l) true l h (u32_at l 28) 28 (local_unicode_field e) later)

      module _ {e : Found ℕ} (E : text_found (has_local_unicode l) true l head (field_if (long_head l) l 28) ≡ Some e) where
        local_unicode_right : (given (tests_of h local_unicode) later ≡ Ok later) × (e ≡ text_is (has_local_unicode l) true l 28)
        local_unicode_right = text_right (has_local_unicode l) true l h (u32_at l 28) 28 (local_unicode_field E) later

        past_local_unicode : later_in l ≡ given (each_ok h (suffix_unicode ∷ [])) later
        past_local_unicode = past_suffix ∙ given_then (tests_of h local_unicode) (each_ok h (suffix_unicode ∷ [])) later later local_unicode_right.0

        suffix_unicode_field : {o : Option (Found ℕ)} → text_found (long_head l) true l head (field_if (long_head l) l 32) ≡ o → text_found (long_head l) true l h (u32_at l 32) ≡ o
        suffix_unicode_field e = sym (text_field (long_head l) true l h 32 (long_head l) (λ z. z)) ∙ rw eh at e

        pub suffix_unicode_lost : text_found (long_head l) true l head (field_if (long_head l) l 32) ≡ None → later_in l ≡ Err 32
        suffix_unicode_lost e =
            past_local_unicode ∙ given_lost (tests_of h suffix_unicode) [] later later (text_lost (long_head l) true l h (u32_at l 32) 32 (suffix_unicode_field e) later)

        pub later_right : {f : Found ℕ} → text_found (long_head l) true l head (field_if (long_head l) l 32) ≡ Some f → later_in l ≡ Ok (d, e, f)
        later_right F =
            let r = text_right (long_head l) true l h (u32_at l 32) 32 (suffix_unicode_field F) later in
            past_local_unicode ∙ given_then (tests_of h suffix_unicode) [] later later r.0 ∙ rw (suffix_right.1, local_unicode_right.1, r.1)

  -- ---- all of them

  pieces_split : pieces_in l ≡ given ((each_ok h firsts ++ each_ok h lasts) ++ apart_tests [] (map led (info_pieces l))) tt
  unfolding pieces_in
  pieces_split = ap (λ (ts : List Test). told (ts ++ apart_tests [] (map led (info_pieces l)))) (each_append h firsts lasts)

  pub earlier_wrong : {w : ℕ} → earlier_in l ≡ Err w → pieces_in l ≡ Err w
  unfolding earlier_in
  earlier_wrong e =
      pieces_split ∙ given_lost (each_ok h firsts ++ each_ok h lasts) (apart_tests [] (map led (info_pieces l))) tt (tt {0}) (given_lost (each_ok h firsts) (each_ok h lasts) earlier (tt {0}) e)

  pub later_are : {d e f : Found ℕ} → later_in l ≡ Ok (d, e, f) → (text_is true false l 24 ≡ d) × (text_is (has_local_unicode l) true l 28 ≡ e) × (text_is (long_head l) true l 32 ≡ f)
  unfolding later_in
  later_are {d} {e} {f} L =
      let k : ◌≡◌ {A = Later} later (d, e, f) = (given_none (each_ok h lasts) later L).1 in
      (ap (λ (x : Later). x.0) k, ap (λ (x : Later). x.1) k, ap (λ (x : Later). x.2) k)

  module _ {a : Found ℕ} {b : Found ℕ} {c : Found NetworkTexts} (E : earlier_in l ≡ Ok (a, b, c)) where
    past_earlier : told (each_ok h firsts ++ each_ok h lasts) ≡ told (each_ok h lasts)
    unfolding earlier_in
    past_earlier = given_then (each_ok h firsts) (each_ok h lasts) earlier tt E

    pub earlier_are : (volume_is l ≡ a) × (text_is (has_local l) false l 16 ≡ b) × (network_is l ≡ c)
    unfolding earlier_in
    earlier_are =
        let k : ◌≡◌ {A = Earlier} earlier (a, b, c) = (given_none (each_ok h firsts) earlier E).1 in
        (ap (λ (x : Earlier). x.0) k, ap (λ (x : Earlier). x.1) k, ap (λ (x : Earlier). x.2) k)

    pub later_wrong : {w : ℕ} → later_in l ≡ Err w → pieces_in l ≡ Err w
    unfolding later_in
    later_wrong e =
        pieces_split
        ∙ given_lost (each_ok h firsts ++ each_ok h lasts) (apart_tests [] (map led (info_pieces l))) tt (tt {0}) (past_earlier ∙ same_lost (each_ok h lasts) later (tt {0}) e)

    module _ {d e f : Found ℕ} (L : later_in l ≡ Ok (d, e, f)) where
      apart_decides : pieces_in l ≡ six_apart a.span b.span c.span d.span e.span f.span
      unfolding later_in six_apart
      apart_decides =
          pieces_split
          ∙ given_then (each_ok h firsts ++ each_ok h lasts) (apart_tests [] (map led (info_pieces l))) tt (tt {0}) (past_earlier ∙ same_held (each_ok h lasts) later (tt {0}) L)
          ∙ rw (← earlier_are.0, ← earlier_are.1, ← earlier_are.2, ← (later_are L).0, ← (later_are L).1, ← (later_are L).2)

      pub share_wrong : {w : ℕ} → six_apart a.span b.span c.span d.span e.span f.span ≡ Err w → pieces_in l ≡ Err w
      share_wrong x = apart_decides ∙ x

      pub pieces_right : {y : Unit {0}} → six_apart a.span b.span c.span d.span e.span f.span ≡ Ok y → pieces_in l ≡ Ok tt
      pieces_right x = apart_decides ∙ x

pub ruleset earlier_read = (volume_lost, local_lost, network_lost)

pub ruleset later_read = (passed_room, suffix_unicode_lost, later_right)

pub ruleset pieces_read = (earlier_wrong, later_wrong, share_wrong, pieces_right)

-- no field at fault is past the end by more than 32
pieces_within : (l : List ℕ) → AllFields (length l + 32) (info_head l) (info_pieces l)
pieces_within l =
    let k : ℕ = length l + 32 in
    let h : ℕ = info_head l in (
      struct_Fields k 12 16 0x11 volume_rules (has_local l) l h (u32_at l 12) (omega arith) (omega arith) volume_Fields,
      (
        text_fields k h (has_local l) false l 16 (u32_at l 16) (omega arith),
        (
          struct_Fields k 20 24 0x14 network_rules (has_network l) l h (u32_at l 20) (omega arith) (omega arith) network_Fields,
          (
            text_fields k h true false l 24 (u32_at l 24) (omega arith),
            (text_fields k h (has_local_unicode l) true l 28 (u32_at l 28) (omega arith), (text_fields k h (long_head l) true l 32 (u32_at l 32) (omega arith), tt)),
          ),
        ),
      ),
    )

pub piece_tests_Fields : (l : List ℕ) → Fields (length l + 32) (info_piece_tests l)
piece_tests_Fields l = pieces_Fields (length l + 32) (info_head l) (info_pieces l) (pieces_within l)

pub pieces_most : (l : List ℕ) {w : ℕ} → pieces_in l ≡ Err w → w ≤ length l + 32
unfolding pieces_in
pieces_most l e = Fields-most (length l + 32) (info_piece_tests l) tt (piece_tests_Fields l) e
