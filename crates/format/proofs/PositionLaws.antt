-- Every refusal of a reader stands in its section.
use mathlib.Core.Path.{◌≡◌, refl, sym, ap, ◌∙◌}
use mathlib.Core.List.{List, [], ◌∷◌, ◌++◌}
use mathlib.Core.Bool.{Bool, true, false, ◌&&◌, ◌||◌, cond}
use Prim.Native.Nat.{ℕ, zero, suc, ◌+◌, ◌-◌, ◌≤◌, ◌<◌}
use native.Mathlib.Omega.{arith}
use lib.ListN.{length, take, drop, length-drop}
use lib.Seq.{drop-drop, take-take, length-take-le}
use lib.Dec.{leb, eqb}
use borrow.Author.Tests.{leb-true, ltb-true, eqb-true}
use Rattle.octets.specs.Numbers.{number, number_at, u16_at, u32_at, little}
use Rattle.octets.specs.Characters.{bytes_of}
use Rattle.octets.proofs.NumberLaws.{part_inside, number_drop}
use Rattle.format.specs.declared.Profile.{Profile}
use Rattle.format.specs.declared.Fault.{Fault}
use Rattle.format.specs.declared.Fault.TheVariants.{Cut as CUT, Items as ITEMS, Info as INFO, Piece as PIECE, Block as BLOCK, Twice as TWICE, Store as STORE}
use Rattle.format.specs.Tests.{Test, ◌else◌at◌, section, spot_at, tests, Outcome, got, refused, Reader, and_then, chain, ◌then◌, place, no_place}
use Rattle.format.specs.Presence.{items_there, info_there, name_bit, relative_bit, workdir_bit, arguments_bit, icon_bit, string_there, strings_unicode}
use Rattle.format.specs.Header.{header_rules, header_fields, header}
use Rattle.format.specs.Items.{item_tests, items_length, items_rules, items}
use Rattle.format.specs.Pieces.{struct_tests, piece_tests}
use Rattle.format.specs.Volume.{volume_rules}
use Rattle.format.specs.Network.{network_unicode, network_rules}
use Rattle.format.specs.Info.{info_size, info_head, long_head, head_ok, has_local, info_pieces, info_head_tests, info_rules, info_fields, no_info, info}
use Rattle.format.specs.Strings.{string_length, string}
use Rattle.format.specs.Store.{store_tests}
use Rattle.format.specs.Blocks.{slot_of, slot_at, size_fits, path_tests, inside_tests, block_size, block_tests, once, blocks_after, blocks}
use Rattle.format.specs.Shortcut.{Section, found, section_if, string_section, tail, sections}
use Rattle.format.specs.Positions.{size_field, section_end, unended, store_unended, values_unended, link_start, LinkEnds, no_section, no_item_size, no_block_item_size, no_storage_size, no_value_size, no_net_name_field, no_device_name_field, InSection}
use Rattle.format.specs.Steps.ItemWalk.{walk}
use Rattle.format.proofs.Bools.{and-true, or-true, by_order}
use Rattle.format.proofs.Chains.{Pass, Pass-all, drop-take}
use Rattle.format.proofs.Holds.{info_head_holds}
use Rattle.format.proofs.ItemsLaws.{tests_walk}
use Rattle.format.proofs.StoreLaws.{store_anywhere, LastUnended, Each-store}
use Rattle.format.proofs.BlockLaws.{none_left, the_end, later, one_more}
use Rattle.format.proofs.EachLaws.{unless_false, Each, Each-append, Each-below, Each-items, PiecesIn, Each-piece, Each-text, Each-struct, Each-volume, Each-network}

-- ---- numbers and parts

pub number_first : (w p : ℕ) (s : List ℕ) → number_at w (drop p s) 0 ≡ number_at w s p
number_first w p s = let e : p + 0 ≡ p = omega arith in number_drop w p s 0 ∙ ap (number_at w s) e

-- a number inside the n bytes from p on
pub number_part : (w n p : ℕ) (s : List ℕ) (i : ℕ) → i + w ≤ n → number_at w (take n (drop p s)) i ≡ number_at w s (p + i)
unfolding number_at
number_part w n p s i h = ap number (part_inside i w n (drop p s) h ∙ ap (take w) (drop-drop i p s))

pub part_drop : (i n p : ℕ) (s : List ℕ) → i ≤ n → drop i (take n (drop p s)) ≡ take (n - i) (drop (p + i) s)
part_drop i n p s h =
    let e : i + (n - i) ≡ n = omega arith in
    rw e at (drop-take i (n - i) (drop p s)) ∙ ap (take (n - i)) (drop-drop i p s)

-- ---- the readers, over the file s

module _ (profile : Profile) (s : List ℕ) where
  abbrev Stands : ℕ → ℕ → Fault → ℕ → Type 0
  Stands k p f i = InSection s f (spot_at (section k p) i)

  strict : (k p : ℕ) (f : Fault) (i : ℕ) → p + i < section_end s k p → Stands k p f i
  strict k p f i h = record { early = omega arith; late = omega arith; end = λ e. absurd (omega arith) }

  -- a size, a count or all of the section is cut: reported at its start
  cut : (k p : ℕ) → p ≤ length s → 0 < size_field k → Stands k p CUT 0
  cut k p l h = record { early = omega arith; late = omega arith; end = λ e. no_section (omega arith) }

  -- what is read from p on lies inside, and so does a refusal
  abbrev pub Near : {A : Type 0} → ℕ → Outcome A → Type 0
  Near p (got a n) = p + n ≤ length s
  Near p (refused f w) = InSection s f w

  record NearBy {A : Type 0} (P : Reader A) : Type 0 where
    near : (p : ℕ) → p ≤ length s → Near p (P p (drop p s))

  Near-tests : {A : Type 0} (k p : ℕ) (ts : List Test) (r : Outcome A) → Each (Stands k p) ts → (Pass ts → Near p r) → Near p (tests (section k p) ts r)
  Near-tests k p [] r h g = g tt
  Near-tests {A = A} k p (t ∷ ts) r h g = go t.holds refl (λ e. Near-tests k p ts r (h.1 e) (λ c. g (e, c)))
    where
      go : (b : Bool) → t.holds ≡ b → (t.holds ≡ true → Near p (tests (section k p) ts r)) → Near {A = A} p (cond b (tests (section k p) ts r) (refused t.fault (spot_at (section k p) t.field)))
      go true e f = f e
      go false e f = h.0 e

  Near-found : {A : Type 0} (P : Reader A) (p : ℕ) → Near p (P p (drop p s)) → Near p (found P p (drop p s))
  Near-found {A = A} P p h = go (P p (drop p s)) h
    where
      go : (r : Outcome A) → Near p r → Near {A = Section A} p (and_then r (λ a n. got (record { there = true; start = p; len = n; read = a }) n))
      go (got a n) h = h
      go (refused f w) h = h

  Near-chain : {A B : Type 0} (P : Reader A) (Q : A → Reader B) (p : ℕ) → Near p (P p (drop p s)) → ((a : A) → NearBy (Q a)) → Near p (chain P Q p (drop p s))
  Near-chain {A = A} {B = B} P Q p h g = go (P p (drop p s)) h
    where
      next : (a : A) (n : ℕ) (r : Outcome B) → Near (p + n) r → Near {A = A × B} p (and_then r (λ b m. got (a, b) (n + m)))
      next a n (got b m) k = omega arith
      next a n (refused f w) k = k

      go : (r : Outcome A) → Near p r → Near {A = A × B} p (and_then r (λ a n. and_then (Q a (p + n) (drop n (drop p s))) (λ b m. got (a, b) (n + m))))
      go (got a n) h = rw (drop-drop n p s) (next a n (Q a (p + n) (drop (p + n) s)) ((g a).near (p + n) h))
      go (refused f w) h = h

  near_then : {A B : Type 0} {P : Reader A} {Q : Reader B} → NearBy P → NearBy Q → NearBy (P then Q)
  near_then {P = P} {Q = Q} f g = record { near = λ p l. Near-chain P (λ a. Q) p (f.near p l) (λ a. g) }

  near_section : {A : Type 0} (b : Bool) (d : A) (P : Reader A) → NearBy P → NearBy (section_if b d P)
  near_section true d P f = record { near = λ p l. Near-found P p (f.near p l) }
  near_section false d P f = record { near = λ p l. omega arith }

  -- ---- header, items, strings

  Near-header : Near 0 (header profile 0 s)
  Near-header =
      Near-tests 0 0 (leb 76 (length s) else CUT at 0 ∷ header_rules profile (take 76 s)) (got (header_fields (take 76 s)) 76) (
        (λ e. cut 0 0 (omega arith) (omega arith)),
        λ e.
            let h : 76 ≤ length s = leb-true 76 (length s) e in
            Each-below (Stands 0 0) 76 (header_rules profile (take 76 s)) (λ f i q. strict 0 0 f i (omega arith)) refl,
      )
      (λ c. leb-true 76 (length s) c.0)

  -- items fill what is left from i on of a section of n bytes: what it lacks is the end
  fills : (p n i j : ℕ) → i ≤ n → j ≡ n → walk 0 (drop i (take n (drop p s)) ++ 0 ∷ 0 ∷ []) ≡ true → unended s (p + i) (p + j) ≡ true
  fills p n i j h q w =
      let m : p + j - (p + i) ≡ n - i = omega arith in
      let e : take (p + j - (p + i)) (drop (p + i) s) ≡ drop i (take n (drop p s)) = ap (λ (x : ℕ). take x (drop (p + i) s)) m ∙ sym (part_drop i n p s h) in
      tests_walk ITEMS 0 0 (take (p + j - (p + i)) (drop (p + i) s) ++ 0 ∷ 0 ∷ []) ∙ ap (λ (l : List ℕ). walk 0 (l ++ 0 ∷ 0 ∷ [])) e ∙ w

  items_in : (p : ℕ) → p ≤ length s → items_length (drop p s) ≤ length (drop p s) → Each (Stands 1 p) (items_rules (take (items_length (drop p s)) (drop p s)))
  items_in p l h =
      let n : ℕ = items_length (drop p s) in
      let b : List ℕ = take n (drop p s) in
      let z : length (drop 2 b) ≡ n - 2 = length-drop 2 b ∙ ap (λ (x : ℕ). x - 2) (length-take-le n (drop p s) h) in
      let e : section_end s 1 p ≡ p + n = omega (arith, length-drop p s, number_first 2 p s) in
      Each-items (Stands 1 p) ITEMS 2 0 (drop 2 b) (omega arith)
      (λ j q. strict 1 p ITEMS j (omega arith))
      (λ j q w. record { early = omega arith; late = omega arith; end = λ x. no_item_size (fills p n 2 j (omega arith) (omega arith) w) })

  near_items : NearBy items
  near_items = record {
    near = λ p l.
        let b : List ℕ = drop p s in
        Near-tests 1 p (leb 2 (length b) else CUT at 0 ∷ leb (items_length b) (length b) else CUT at 0 ∷ items_rules (take (items_length b) b))
        (got (place (p + 2) (items_length b - 4)) (items_length b))
        ((λ e. cut 1 p l (omega arith)), λ e. ((λ e. cut 1 p l (omega arith)), λ e. items_in p l (leb-true (items_length b) (length b) e)))
        (λ c. omega (arith, leb-true (items_length b) (length b) c.1.0, length-drop p s));
  }

  near_string : (k : ℕ) (u : Bool) → 0 < size_field k → NearBy (string k u)
  near_string k u h = record {
    near = λ p l.
        let b : List ℕ = drop p s in
        Near-tests k p (leb 2 (length b) else CUT at 0 ∷ leb (string_length u b) (length b) else CUT at 0 ∷ []) (got (place (p + 2) (bytes_of u (u16_at b 0))) (string_length u b))
        ((λ e. cut k p l h), λ e. ((λ e. cut k p l h), λ e. tt))
        (λ c. omega (arith, leb-true (string_length u b) (length b) c.1.0, length-drop p s));
  }

  -- ---- LinkInfo

  -- a long head lies inside
  long_in : (l : List ℕ) → head_ok l ≡ true → long_head l ≡ true → 0x24 ≤ length l
  long_in l e u =
      let k : 0x24 ≤ info_head l = leb-true 0x24 (info_head l) u in
      or-true (eqb (info_head l) 0x1C) (long_head l && leb (info_head l) (length l)) e
      (λ q. absurd (omega (arith, eqb-true (info_head l) 0x1C q)))
      (λ q. omega (arith, leb-true (info_head l) (length l) (and-true (long_head l) _ q).1))

  -- l is LinkInfo's own bytes, n of them, from p on
  module _ (p n : ℕ) (l : List ℕ) (is : l ≡ take n (drop p s)) (whole : length l ≡ n) (least : 0x1C ≤ n) (ending : section_end s 2 p ≡ p + n) where
    within : (f : Fault) (i : ℕ) → i < n → Stands 2 p f i
    within f i h = strict 2 p f i (omega arith)

    told : (i : ℕ) → i + 4 ≤ n → u32_at l i ≡ u32_at s (p + i)
    told i h = ap (λ (x : List ℕ). u32_at x i) is ∙ number_part 4 n p s i h

    head_in : Each (Stands 2 p) (info_head_tests profile l)
    head_in = (
      (λ e. within INFO 4 (omega arith)),
      λ a. (
        (λ e. within INFO 8 (omega arith)),
        λ e. (
          (λ e. within INFO 12 (omega arith)),
          λ e. (
            (λ e. within INFO 16 (omega arith)),
            λ e. (
              (λ e. within INFO 20 (omega arith)),
              λ e.
                  ((λ e. within INFO 28 (omega (arith, long_in l a (unless_false (long_head l) _ e)))), λ e. tt),
            ),
          ),
        ),
      ),
    )

    -- a structure o bytes after LinkInfo's start
    module _ (o : ℕ) where
      start_in : 4 ≤ length (drop o l) → Stands 2 p PIECE (o + 0)
      start_in h = within PIECE (o + 0) (omega (arith, length-drop o l))

      size_is : u32_at (drop o l) 0 ≤ length (drop o l) → length (take (u32_at (drop o l) 0) (drop o l)) ≡ u32_at (drop o l) 0
      size_is h = length-take-le (u32_at (drop o l) 0) (drop o l) h

      -- the link ends where a Unicode offset field is due
      link_ends : (m : ℕ) → 0x14 ≤ m → u32_at l 20 ≡ o → u32_at (drop o l) 0 ≤ length (drop o l) → network_unicode (take (u32_at (drop o l) 0) (drop o l)) ≡ true
          → length (take (u32_at (drop o l) 0) (drop o l)) ≡ m → LinkEnds s (link_start s p) m (p + (o + m))
      link_ends m g q h u e =
          let d : u32_at (drop o l) 0 ≡ m = sym (size_is h) ∙ e in
          let r : o + m ≤ n = omega (arith, length-drop o l) in
          let a : u32_at s (p + 20) ≡ o = sym (told 20 (omega arith)) ∙ q in
          let b : u32_at s (p + o) ≡ m = sym (told o (omega arith)) ∙ sym (number_first 4 o l) ∙ d in
          let c : p + (o + 8) ≡ p + o + 8 = omega arith in
          let t : u32_at (take (u32_at (drop o l) 0) (drop o l)) 8 ≡ u32_at s (p + o + 8) = number_part 4 (u32_at (drop o l) 0) o l 8 (omega arith) ∙ told (o + 8) (omega arith) ∙ ap (u32_at s) c in
          let k : 0x14 < u32_at (take (u32_at (drop o l) 0) (drop o l)) 8 = ltb-true 0x14 _ u in
          rw a (record { size = b; unicode = rw t at k; ends = omega arith })

    network_in : Each (Stands 2 p) (struct_tests 20 (u32_at l 20) 0x14 network_rules (drop (u32_at l 20) l))
    network_in =
        let o : ℕ = u32_at l 20 in
        Each-struct (Stands 2 p) 20 o 0x14 network_rules (drop o l) (within PIECE 20 (omega arith)) (start_in o)
        (λ a b.
        let z = size_is o a in
        Each-network (λ f j. Stands 2 p f (o + j)) (take (u32_at (drop o l) 0) (drop o l)) (omega arith)
        (λ j h. within PIECE (o + j) (omega (arith, length-drop o l)))
        (λ u e. record { early = omega arith; late = omega (arith, length-drop o l); end = λ x. no_net_name_field (link_ends o 0x14 (omega arith) refl a u e) })
        (λ u e. record { early = omega arith; late = omega (arith, length-drop o l); end = λ x. no_device_name_field (link_ends o 0x18 (omega arith) refl a u e) }))

    volume_in : Each (Stands 2 p) (struct_tests 12 (u32_at l 12) 0x11 volume_rules (drop (u32_at l 12) l))
    volume_in =
        let o : ℕ = u32_at l 12 in
        Each-struct (Stands 2 p) 12 o 0x11 volume_rules (drop o l) (within PIECE 12 (omega arith)) (start_in o)
        (λ a b.
        let z = size_is o a in
        Each-volume (λ f j. Stands 2 p f (o + j)) (take (u32_at (drop o l) 0) (drop o l)) (omega arith)
        (λ j h. within PIECE (o + j) (omega (arith, length-drop o l))))

    pieces_in : head_ok l ≡ true → PiecesIn (Stands 2 p) (info_pieces l)
    pieces_in c = (
      (λ e. (within PIECE 12 (omega arith), volume_in)),
      (
        (λ e. Each-text (Stands 2 p) 16 false (drop (u32_at l 16) l) (within PIECE 16 (omega arith))),
        (
          (λ e. (within PIECE 20 (omega arith), network_in)),
          (
            (λ e. Each-text (Stands 2 p) 24 false (drop (u32_at l 24) l) (within PIECE 24 (omega arith))),
            (
              (λ e. Each-text (Stands 2 p) 28 true (drop (u32_at l 28) l) (within PIECE 28 (omega (arith, long_in l c (and-true (long_head l) (has_local l) e).0)))),
              ((λ e. Each-text (Stands 2 p) 32 true (drop (u32_at l 32) l) (within PIECE 32 (omega (arith, long_in l c e)))), tt),
            ),
          ),
        ),
      ),
    )

    info_in : Each (Stands 2 p) (info_rules profile l)
    info_in =
        Each-append (Stands 2 p) (info_head_tests profile l) (piece_tests (info_head l) (info_pieces l)) head_in
        (λ c. Each-piece (Stands 2 p) (info_head l) (info_pieces l) (pieces_in (info_head_holds profile l c).head))

  near_info : NearBy (info profile)
  near_info = record {
    near = λ p k.
        let b : List ℕ = drop p s in
        let n : ℕ = info_size b in
        Near-tests 2 p (leb 4 (length b) else CUT at 0 ∷ leb 0x1C n else INFO at 0 ∷ leb n (length b) else CUT at 0 ∷ info_rules profile (take n b)) (got (info_fields p (take n b)) n) (
          (λ e. cut 2 p k (omega arith)),
          λ d.
              let four : 4 ≤ length b = leb-true 4 (length b) d in (
                (λ e. strict 2 p INFO 0 (omega (arith, length-drop p s))),
                λ e. (
                  (λ e. cut 2 p k (omega arith)),
                  λ g.
                      let least : 0x1C ≤ n = leb-true 0x1C n e in
                      let fits : n ≤ length b = leb-true n (length b) g in
                      info_in p n (take n b) refl (length-take-le n b fits) least (omega (arith, length-drop p s, number_first 4 p s)),
                ),
              ),
        )
        (λ c. omega (arith, leb-true n (length b) c.1.1.0, length-drop p s));
  }

  -- ---- blocks

  -- the rows of the path blocks have one size
  path_size : (slot n : ℕ) → size_fits slot n ≡ true → (eqb slot (slot_of 0xA0000001) || eqb slot (slot_of 0xA0000006) || eqb slot (slot_of 0xA0000007)) ≡ true → n ≡ 0x314
  unfolding slot_of size_fits
  path_size slot n f e =
      or-true (eqb slot 0 || eqb slot 5) (eqb slot 6) e
      (λ e. or-true (eqb slot 0) (eqb slot 5) e (λ q. row 0 (eqb-true slot 0 q) (λ x. eqb-true n 0x314 x)) (λ q. row 5 (eqb-true slot 5 q) (λ x. eqb-true n 0x314 x)))
      (λ q. row 6 (eqb-true slot 6 q) (λ x. eqb-true n 0x314 x))
    where
      row : (k : ℕ) → slot ≡ k → (size_fits k n ≡ true → n ≡ 0x314) → n ≡ 0x314
      row k q g = g (rw q at f)

  -- n bytes from p on, and what they hold
  module _ (p n : ℕ) (least : 8 ≤ n) (fits : n ≤ length (drop p s)) (ending : section_end s 8 p ≡ p + n) where
    -- the store's bytes
    abbrev store : List ℕ
    store = drop 8 (take n (drop p s))

    store_from : (j : ℕ) → 8 + j ≤ n → drop j store ≡ take (n - (8 + j)) (drop (p + (8 + j)) s)
    store_from j h = drop-drop j 8 (take n (drop p s)) ∙ part_drop (8 + j) n p s h

    store_long : length store ≡ n - 8
    store_long = length-drop 8 (take n (drop p s)) ∙ ap (λ (x : ℕ). x - 8) (length-take-le n (drop p s) fits)

    store_ends : Pass (store_tests 8 (store ++ little 4 0)) → store_unended s (p + 8) (p + (8 + length store)) ≡ true
    unfolding store_unended
    store_ends h =
        let m : p + (8 + length store) - (p + 8) ≡ n - 8 = omega (arith, store_long) in
        rw (m, ← (part_drop 8 n p s least)) (store_anywhere 0 8 (store ++ little 4 0) ∙ Pass-all (store_tests 8 (store ++ little 4 0)) h)

    values_end : (a : ℕ) → LastUnended store a → (p + (8 + a) + u32_at s (p + (8 + a)) ≡ p + (8 + length store)) × (values_unended s (p + (8 + a)) (p + (8 + length store)) ≡ true)
    unfolding values_unended
    values_end a (low, (ends, h)) =
        let e : u32_at store a ≡ u32_at s (p + (8 + a)) = number_drop 4 8 (take n (drop p s)) a ∙ number_part 4 n p s (8 + a) (omega (arith, store_long)) in
        let m : p + (8 + length store) - (p + (8 + a) + 24) ≡ n - (8 + (a + 24)) = omega (arith, store_long) in
        let i : p + (8 + a) + 24 ≡ p + (8 + (a + 24)) = omega arith in
        let j : p + (8 + a) + 8 ≡ p + (8 + (a + 8)) = omega arith in
        let v : take (n - (8 + (a + 24))) (drop (p + (8 + (a + 24))) s) ≡ drop (a + 24) store = sym (store_from (a + 24) (omega (arith, store_long))) in
        let w : take 16 (drop (a + 8) store) ≡ take 16 (drop (p + (8 + (a + 8))) s)
        = ap (take 16) (store_from (a + 8) (omega (arith, store_long))) ∙ take-take 16 (n - (8 + (a + 8))) (drop (p + (8 + (a + 8))) s) (omega (arith, store_long)) in
        (omega arith, rw (m, i, j, v, ← w) h)

    store_in : slot_of (u32_at s (p + 4)) ≡ slot_of 0xA0000009 → Each (Stands 8 p) (store_tests 8 store)
    store_in kind =
        Each-store (Stands 8 p) 8 store (λ j q. strict 8 p STORE j (omega (arith, store_long)))
        (λ h. record { early = omega arith; late = omega (arith, store_long); end = λ x. no_storage_size kind (store_ends h) })
        (λ a h.
        let (size, unended) = values_end a h in
        record { early = omega arith; late = omega (arith, store_long); end = λ x. no_value_size (p + (8 + a)) kind size unended })

    inside_in : (slot : ℕ) → slot ≡ slot_at (take n (drop p s)) → size_fits slot (length (take n (drop p s))) ≡ true → Each (Stands 8 p) (inside_tests slot (take n (drop p s)))
    unfolding inside_tests
    inside_in slot is f =
        go (eqb slot (slot_of 0xA0000009)) refl (eqb slot (slot_of 0xA0000001) || eqb slot (slot_of 0xA0000006) || eqb slot (slot_of 0xA0000007)) refl (eqb slot (slot_of 0xA000000C)) refl
      where
        size : length (take n (drop p s)) ≡ n
        size = length-take-le n (drop p s) fits

        rest : length (drop 8 (take n (drop p s))) ≡ n - 8
        rest = length-drop 8 (take n (drop p s)) ∙ ap (λ (x : ℕ). x - 8) size

        signature : (x : ℕ) → eqb slot (slot_of x) ≡ true → slot_of (u32_at s (p + 4)) ≡ slot_of x
        signature x e = sym (ap slot_of (number_part 4 n p s 4 (omega arith))) ∙ sym is ∙ eqb-true slot (slot_of x) e

        go : (z : Bool) → eqb slot (slot_of 0xA0000009) ≡ z
            → (x : Bool) → (eqb slot (slot_of 0xA0000001) || eqb slot (slot_of 0xA0000006) || eqb slot (slot_of 0xA0000007)) ≡ x → (y : Bool) → eqb slot (slot_of 0xA000000C) ≡ y
            → Each (Stands 8 p) (cond z (store_tests 8 (drop 8 (take n (drop p s)))) (cond x (path_tests (take n (drop p s))) (cond y (item_tests BLOCK 8 0 (drop 8 (take n (drop p s)))) [])))
        go true d x e y g = store_in (signature 0xA0000009 d)
        go false z true e y d =
            let m : length (take n (drop p s)) ≡ 0x314 = path_size slot (length (take n (drop p s))) f e in
            Each-below (Stands 8 p) 0x314 (path_tests (take n (drop p s))) (λ f i q. strict 8 p f i (omega (arith, size))) refl
        go false z false e true d =
            Each-items (Stands 8 p) BLOCK 8 0 (drop 8 (take n (drop p s))) (omega arith)
            (λ j q. strict 8 p BLOCK j (omega (arith, rest)))
            (λ j q w. record {
              early = omega arith;
              late = omega (arith, rest);
              end = λ x. no_block_item_size (signature 0xA000000C d) (fills p n 8 j (omega arith) (omega (arith, rest)) w);
            })
        go false z false e false d = tt

  block_in : (p : ℕ) → p ≤ length s → 4 ≤ length (drop p s) → 4 ≤ block_size (drop p s) → Each (Stands 8 p) (block_tests (drop p s))
  block_in p k h t =
      let b : List ℕ = drop p s in
      let n : ℕ = block_size b in
      let z : n ≡ u32_at s p = number_first 4 p s in (
        (λ e. strict 8 p BLOCK 0 (omega (arith, length-drop p s))),
        λ c. (
          (λ e. cut 8 p k (omega arith)),
          λ d.
              let least : 8 ≤ n = leb-true 8 n c in
              let fits : n ≤ length b = leb-true n (length b) d in (
                (λ e. strict 8 p BLOCK 0 (omega (arith, length-drop p s))),
                λ e.
                    inside_in p n least fits (omega (arith, length-drop p s)) (slot_at (take n b)) refl e,
              ),
        ),
      )

  -- k bounds what is left
  Near-walk : (k : ℕ) (before : List ℕ) (p : ℕ) → p ≤ length s → length (drop p s) ≤ k → Near p (blocks_after before p (drop p s))
  Near-walk zero before p l m = rw (none_left before p (drop p s) (omega arith)) (cut 9 p l (omega arith))
  Near-walk (suc k) before p l m =
      by_order 4 (length (drop p s))
      (λ h.
      by_order 4 (block_size (drop p s))
      (λ t. rw (one_more before p (drop p s) h t) (Near-tests 8 p (block_tests (drop p s)) _ (block_in p l h t) (λ c. after (later before p n (drop p s)) (next c (λ g q. Near-walk k (slot_at (drop p s) ∷ before) (p + n) g q)))))
      (λ t. rw (the_end before p (drop p s) h t) (omega (arith, length-drop p s))))
      (λ h. rw (none_left before p (drop p s) h) (cut 9 p l (omega arith)))
    where
      n : ℕ
      n = block_size (drop p s)

      -- a refusal at this block, or what is read after it
      AtOrAfter : Outcome (List ℕ) → Type 0
      AtOrAfter (got ls m) = p + n + m ≤ length s
      AtOrAfter (refused f w) = InSection s f w

      after : (r : Outcome (List ℕ)) → AtOrAfter r → Near {A = List ℕ} p (and_then r (λ lengths m. got (n ∷ lengths) (n + m)))
      after (got ls m) h = omega arith
      after (refused f w) h = h

      next : Pass (block_tests (drop p s)) → (p + n ≤ length s → length (drop (p + n) s) ≤ k → Near (p + n) (blocks_after (slot_at (drop p s) ∷ before) (p + n) (drop (p + n) s)))
          → AtOrAfter (later before p n (drop p s))
      next c f =
          let b = leb-true 8 n c.0 in
          let w = leb-true n (length (drop p s)) c.1.0 in
          let z : n ≡ u32_at s p = number_first 4 p s in
          rw (drop-drop n p s)
          (choose (once before (slot_at (drop p s))) (blocks_after (slot_at (drop p s) ∷ before) (p + n) (drop (p + n) s))
          (f (omega (arith, length-drop p s)) (omega (arith, length-drop p s, length-drop (p + n) s)))
          (strict 8 p TWICE 4 (omega (arith, length-drop p s))))
        where
          rest : (r : Outcome (List ℕ)) → Near (p + n) r → AtOrAfter r
          rest (got ls m) h = h
          rest (refused f w) h = h

          choose : (b : Bool) (r : Outcome (List ℕ)) → Near (p + n) r → Stands 8 p TWICE 4 → AtOrAfter (cond b r (refused TWICE (spot_at (section 8 p) 4)))
          choose true r h t = rest r h
          choose false r h t = t

  near_blocks : NearBy (found blocks)
  near_blocks = record { near = λ p l. Near-found blocks p (Near-walk (length (drop p s)) [] p l (omega arith)) }

  -- ---- all of them

  near_strings : (flags k : ℕ) → 0 < size_field (k + 1) → NearBy (string_section flags k)
  near_strings flags k h = near_section (string_there k flags) no_place (string (k + 1) (strings_unicode flags)) (near_string (k + 1) (strings_unicode flags) h)

  near_tail : (flags : ℕ) → NearBy (tail profile flags)
  near_tail flags =
      near_then (near_section (items_there flags) no_place items near_items)
      (near_then (near_section (info_there flags) no_info (info profile) near_info)
      (near_then (near_strings flags name_bit (omega arith))
      (near_then (near_strings flags relative_bit (omega arith))
      (near_then (near_strings flags workdir_bit (omega arith))
      (near_then (near_strings flags arguments_bit (omega arith)) (near_then (near_strings flags icon_bit (omega arith)) near_blocks))))))

  pub Near-sections : Near 0 (sections profile 0 s)
  unfolding sections
  Near-sections = Near-chain (found (header profile)) (λ h. tail profile h.read.flags) 0 (Near-found (header profile) 0 Near-header) (λ h. near_tail h.read.flags)
