-- The network link: its head, its own bytes, and the piece of LinkInfo.
use mathlib.Core.Path.{◌≡◌, sym, ap, ◌∙◌}
use mathlib.Core.List.{List, [], ◌∷◌, map}
use mathlib.Core.Bool.{Bool, true, false, cond}
use Prim.Native.Nat.{ℕ, ◌+◌, ◌≤◌, ◌<◌}
use native.Mathlib.Omega.{arith}
use lib.ListN.{length, take, drop, get_or}
use lib.Seq.{get_or-take, get_or-drop}
use lib.Dec.{ltb}
use Rattle.std.specs.Prelude.{Some, None, Ok, Err}
use Rattle.octets.specs.Numbers.{u32_at}
use Rattle.format.specs.declared.Place.{Place}
use Rattle.format.specs.Tests.{place, no_place}
use Rattle.format.specs.Steps.Wrong.{given}
use Rattle.format.specs.Presence.{device_there, provider_there, device_unicode_there}
use Rattle.format.specs.Pieces.{Piece, text_piece, text_place, span, tests_of, each_ok, led, apart_tests}
use Rattle.format.specs.Network.{has_device, network_unicode, network_head, network_pieces, network_head_tests, network_rules, network_fields, has_device_unicode}
use Rattle.format.proofs.Holds.{network_piece_tests}
use Rattle.pieces.specs.declared.Found.{Found}
use Rattle.pieces.specs.Steps.Found.{field_if, body_length, text_found, end_at, OwnPart, placed, found, found, four_apart, network_in, network_lengths, no_texts, network_texts_in, network_found}
use Rattle.pieces.proofs.TestLaws.{told, given_lost, given_then, piece_lost, piece_then, Fields, here, Fields-join, Fields-most, text_fields, AllFields, pieces_Fields}
use Rattle.pieces.proofs.TextLaws.{text_lost, text_right, place_length, body_place, place_field, text_field}
use Rattle.pieces.proofs.StructLaws.{struct_absent, struct_lost, struct_placed}

-- ---- all tests are of fields up to 24

head_Fields : (v : List ℕ) → Fields 24 (network_head_tests v)
head_Fields v = (
  here 24 4 (omega arith),
  λ e. (
    here 24 8 (omega arith),
    λ e. (
      here 24 20 (omega arith),
      λ e. (here 24 24 (omega arith), λ e. (here 24 12 (omega arith), λ e. (here 24 24 (omega arith), λ e. tt))),
    ),
  ),
)

pieces_within : (v : List ℕ) → AllFields 24 (network_head (network_unicode v)) (network_pieces v)
pieces_within v =
    let h : ℕ = network_head (network_unicode v) in (
      text_fields 24 h true false v 8 (u32_at v 8) (omega arith),
      (
        text_fields 24 h (has_device v) false v 12 (u32_at v 12) (omega arith),
        (
          text_fields 24 h (network_unicode v) true v 20 (u32_at v 20) (omega arith),
          (text_fields 24 h (has_device_unicode v) true v 24 (u32_at v 24) (omega arith), tt),
        ),
      ),
    )

pub network_Fields : (v : List ℕ) → Fields 24 (network_rules v)
network_Fields v = Fields-join 24 (network_head_tests v) (network_piece_tests v) (head_Fields v) (pieces_Fields 24 (network_head (network_unicode v)) (network_pieces v) (pieces_within v))

pub network_most : (v : List ℕ) {w : ℕ} → network_in v ≡ Err w → w ≤ 24
unfolding network_in
network_most v e = Fields-most 24 (network_rules v) _ (network_Fields v) e

-- ---- the network link's own bytes: each way out of its tests

module _ (v : List ℕ) where
  abbrev h : ℕ
  h = network_head (network_unicode v)

  abbrev net : Piece
  net = text_piece true false v 8 (u32_at v 8)

  abbrev device : Piece
  device = text_piece (has_device v) false v 12 (u32_at v 12)

  abbrev net_unicode : Piece
  net_unicode = text_piece (network_unicode v) true v 20 (u32_at v 20)

  abbrev device_unicode : Piece
  device_unicode = text_piece (has_device_unicode v) true v 24 (u32_at v 24)

  pub head_lost : {w : ℕ} → told (network_head_tests v) ≡ Err w → network_in v ≡ Err w
  unfolding network_in
  head_lost e = given_lost (network_head_tests v) (network_piece_tests v) tt (network_texts_in v) e

  module _ {x : Unit {0}} {head : ℕ} (H : told (network_head_tests v) ≡ Ok x) (eh : head ≡ h) where
    -- the first of the strings that fails
    each_lost : {w : ℕ} → told (each_ok h (network_pieces v)) ≡ Err w → network_in v ≡ Err w
    unfolding network_in
    each_lost e =
        given_then (network_head_tests v) (network_piece_tests v) tt (network_texts_in v) H
        ∙ given_lost (each_ok h (network_pieces v)) (apart_tests [] (map led (network_pieces v))) tt (network_texts_in v) e

    pub net_lost : text_found true false v head (u32_at v 8) ≡ None → network_in v ≡ Err 8
    net_lost e = each_lost (piece_lost h net (device ∷ net_unicode ∷ device_unicode ∷ []) (text_lost true false v h (u32_at v 8) 8 (rw eh at e) tt))

    module _ {a : Found ℕ} (A : text_found true false v head (u32_at v 8) ≡ Some a) where
      net_right : (told (tests_of h net) ≡ Ok tt) × (a ≡ found (span net) (body_length true false v (u32_at v 8)))
      net_right = text_right true false v h (u32_at v 8) 8 (rw eh at A) tt

      pub device_lost : text_found (has_device v) false v head (u32_at v 12) ≡ None → network_in v ≡ Err 12
      device_lost e =
          each_lost (piece_then h net (device ∷ net_unicode ∷ device_unicode ∷ []) net_right.0
          ∙ piece_lost h device (net_unicode ∷ device_unicode ∷ []) (text_lost (has_device v) false v h (u32_at v 12) 12 (rw eh at e) tt))

      module _ {b : Found ℕ} (B : text_found (has_device v) false v head (u32_at v 12) ≡ Some b) where
        device_right : (told (tests_of h device) ≡ Ok tt) × (b ≡ found (span device) (body_length (has_device v) false v (u32_at v 12)))
        device_right = text_right (has_device v) false v h (u32_at v 12) 12 (rw eh at B) tt

        pub net_unicode_lost : text_found (network_unicode v) true v head (field_if (network_unicode v) v 20) ≡ None → network_in v ≡ Err 20
        net_unicode_lost e =
            let k : text_found (network_unicode v) true v h (u32_at v 20) ≡ None = sym (text_field (network_unicode v) true v h 20 (network_unicode v) (λ z. z)) ∙ rw eh at e in
            each_lost (piece_then h net (device ∷ net_unicode ∷ device_unicode ∷ []) net_right.0
            ∙ piece_then h device (net_unicode ∷ device_unicode ∷ []) device_right.0
            ∙ piece_lost h net_unicode (device_unicode ∷ []) (text_lost (network_unicode v) true v h (u32_at v 20) 20 k tt))

        module _ {c : Found ℕ} (C : text_found (network_unicode v) true v head (field_if (network_unicode v) v 20) ≡ Some c) where
          net_unicode_right : (told (tests_of h net_unicode) ≡ Ok tt) × (c ≡ found (span net_unicode) (body_length (network_unicode v) true v (u32_at v 20)))
          net_unicode_right =
              let k : text_found (network_unicode v) true v h (u32_at v 20) ≡ Some c = sym (text_field (network_unicode v) true v h 20 (network_unicode v) (λ z. z)) ∙ rw eh at C in
              text_right (network_unicode v) true v h (u32_at v 20) 20 k tt

          three : told (each_ok h (network_pieces v)) ≡ given (each_ok h (device_unicode ∷ [])) tt
          three =
              piece_then h net (device ∷ net_unicode ∷ device_unicode ∷ []) net_right.0 ∙ piece_then h device (net_unicode ∷ device_unicode ∷ []) device_right.0
              ∙ piece_then h net_unicode (device_unicode ∷ []) net_unicode_right.0

          pub device_unicode_lost : text_found (has_device_unicode v) true v head (field_if (network_unicode v) v 24) ≡ None → network_in v ≡ Err 24
          device_unicode_lost e =
              let k : text_found (has_device_unicode v) true v h (u32_at v 24) ≡ None = sym (text_field (has_device_unicode v) true v h 24 (network_unicode v) (λ z. rw z)) ∙ rw eh at e in
              each_lost (three ∙ piece_lost h device_unicode [] (text_lost (has_device_unicode v) true v h (u32_at v 24) 24 k tt))

          module _ {d : Found ℕ} (D : text_found (has_device_unicode v) true v head (field_if (network_unicode v) v 24) ≡ Some d) where
            device_unicode_right : (told (tests_of h device_unicode) ≡ Ok tt) × (d ≡ found (span device_unicode) (body_length (has_device_unicode v) true v (u32_at v 24)))
            device_unicode_right =
                let k : text_found (has_device_unicode v) true v h (u32_at v 24) ≡ Some d = sym (text_field (has_device_unicode v) true v h 24 (network_unicode v) (λ z. rw z)) ∙ rw eh at D in
                text_right (has_device_unicode v) true v h (u32_at v 24) 24 k tt

            abbrev sharing : List (ℕ × Place)
            sharing = (0, a.span) ∷ (12, b.span) ∷ (20, c.span) ∷ (24, d.span) ∷ []

            -- none of the strings fails, so their being apart decides
            all_right : network_in v ≡ given (apart_tests [] sharing) (network_texts_in v)
            unfolding network_in
            all_right =
                given_then (network_head_tests v) (network_piece_tests v) tt (network_texts_in v) H
                ∙ given_then (each_ok h (network_pieces v)) (apart_tests [] (map led (network_pieces v))) tt (network_texts_in v)
                (three ∙ piece_then h device_unicode [] device_unicode_right.0)
                ∙ rw (net_right.1, device_right.1, net_unicode_right.1, device_unicode_right.1)

            pub share_lost : {w : ℕ} → four_apart 12 a.span b.span c.span d.span ≡ Err w → network_in v ≡ Err w
            unfolding four_apart
            share_lost e = all_right ∙ given_lost (apart_tests [] sharing) [] tt (network_texts_in v) e

            pub texts_right : {y : Unit {0}} → four_apart 12 a.span b.span c.span d.span ≡ Ok y
                → network_in v ≡ Ok (record { net = a.body; device = b.body; net_unicode = c.body; device_unicode = d.body })
            unfolding four_apart
            texts_right e =
                all_right ∙ given_then (apart_tests [] sharing) [] tt (network_texts_in v) e
                ∙ ap Ok (rw (
                  net_right.1,
                  device_right.1,
                  net_unicode_right.1,
                  device_unicode_right.1,
                  place_length (has_device v) false 0 v (u32_at v 12),
                  place_length (network_unicode v) true 0 v (u32_at v 20),
                  place_length (has_device_unicode v) true 0 v (u32_at v 24),
                ))

pub ruleset network_read = (head_lost, net_lost, device_lost, net_unicode_lost, device_unicode_lost, share_lost, texts_right)

-- ---- the piece

module _ (b : Bool) (l : List ℕ) (head : ℕ) where
  pub network_absent : b ≡ false → network_found b l head ≡ Ok (found no_place no_texts)
  unfolding network_found
  network_absent t = struct_absent 20 0x14 network_rules network_texts_in no_texts b l head t

  pub network_lost : {w : ℕ} → b ≡ true → end_at l head 0x14 20 (u32_at l 20) ≡ Err w → network_found b l head ≡ Err w
  unfolding network_found
  network_lost t e = struct_lost 20 0x14 network_rules network_texts_in no_texts b l head t e

  pub network_placed : {o : ℕ} {v : List ℕ} → b ≡ true → OwnPart l head 0x14 20 o v → network_found b l head ≡ placed o (length v) (network_in v)
  unfolding network_found network_in
  network_placed t P = struct_placed 20 0x14 network_rules network_texts_in no_texts b l head t P

pub ruleset network_judged = (network_absent, network_lost, network_placed, network_most)

-- ---- what it says, once it was accepted

network_lengths_lem : (p : ℕ) (v : List ℕ)
    → network_lengths (network_fields p v)
    ≡ body_length true false v (u32_at v 8) ∷ body_length (has_device v) false v (u32_at v 12) ∷ body_length (network_unicode v) true v (u32_at v 20) ∷ body_length (has_device_unicode v) true v (u32_at v 24) ∷ []
network_lengths_lem p v = rw (
  place_length true false p v (u32_at v 8),
  place_length (has_device v) false p v (u32_at v 12),
  place_length (network_unicode v) true p v (u32_at v 20),
  place_length (has_device_unicode v) true p v (u32_at v 24),
)

-- the lengths are the same wherever it starts in the file
pub lengths_anywhere : (p q : ℕ) (v : List ℕ) → network_lengths (network_fields p v) ≡ network_lengths (network_fields q v)
lengths_anywhere p q v = network_lengths_lem p v ∙ sym (network_lengths_lem q v)

-- an element of the row's part that has these lengths
row_length : (row : List ℕ) {lengths : List ℕ} (i : ℕ) → i < 4 → take 4 (drop 2 row) ≡ lengths → get_or row (2 + i) 0 ≡ get_or lengths i 0
row_length row i h e = sym (get_or-take 4 (drop 2 row) i 0 h ∙ get_or-drop 2 row i 0) ∙ ap (λ (l : List ℕ). get_or l i 0) e

pub network_says : (p : ℕ) (v row : List ℕ) {flags name kept provider o₁ o₂ o₃ : ℕ} {t device both : Bool} {a b c d : Place} → take 4 (drop 2 row) ≡ network_lengths (network_fields p v)
    → flags ≡ u32_at v 4 → name ≡ u32_at v 8 → device ≡ device_there flags → both ≡ device_unicode_there (ltb 0x14 name) flags → t ≡ provider_there flags → kept ≡ u32_at v 16
    → provider ≡ cond t kept 0 → a ≡ place (p + name) (get_or row 2 0) → o₁ ≡ u32_at v 12 → b ≡ cond device (place (p + o₁) (get_or row 3 0)) no_place
    → o₂ ≡ field_if (ltb 0x14 name) v 20 → c ≡ cond (ltb 0x14 name) (place (p + o₂) (get_or row 4 0)) no_place
    → o₃ ≡ field_if (ltb 0x14 name) v 24 → d ≡ cond both (place (p + o₃) (get_or row 5 0)) no_place
    → record { flags = flags; provider = provider; unicode = ltb 0x14 name; net = a; device = b; net_unicode = c; device_unicode = d } ≡ network_fields p v
network_says p v row {a = a} {b} {c} {d} e ef en ed et ep ek er ea e₁ eb e₂ ec e₃ ee =
    let u : Bool = network_unicode v in
    let net : a ≡ text_place true false p v (u32_at v 8) = ea ∙ rw en (body_place true false p v (u32_at v 8) (row_length row 0 (omega arith) e)) in
    let device : b ≡ text_place (has_device v) false p v (u32_at v 12) = eb ∙ rw (ed, ef, e₁) (body_place (has_device v) false p v (u32_at v 12) (row_length row 1 (omega arith) e)) in
    let net_unicode : c ≡ text_place u true p v (u32_at v 20)
    = ec ∙ rw (e₂, en) (place_field u p v 20 (get_or row 4 0) u (λ z. z) ∙ body_place u true p v (u32_at v 20) (row_length row 2 (omega arith) e)) in
    let device_unicode : d ≡ text_place (has_device_unicode v) true p v (u32_at v 24)
    = ee ∙ rw (et, e₃, ef, en) (place_field (has_device_unicode v) p v 24 (get_or row 5 0) u (λ z. rw z) ∙ body_place (has_device_unicode v) true p v (u32_at v 24) (row_length row 3 (omega arith) e)) in
    rw (er, ep, ek, ef, en, net, device, net_unicode, device_unicode)
