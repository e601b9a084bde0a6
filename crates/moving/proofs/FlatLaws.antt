-- The moved record has the lengths of the moved contents, and what is put is their canonical form.
use mathlib.Core.Path.{◌≡◌, refl, sym, ap, ◌∙◌}
use mathlib.Core.List.{List, [], ◌∷◌, ◌++◌, map, append-nil, append_assoc}
use mathlib.Core.Bool.{Bool, true, false, not, ◌&&◌, ◌||◌, cond}
use Prim.Native.Nat.{ℕ, ◌+◌, ◌*◌, ◌/◌, ◌<◌}
use native.Mathlib.Omega.{arith}
use lib.ListN.{length, get_or}
use Rattle.format.specs.declared.Place.{Place}
use Rattle.format.specs.declared.Record.{Record}
use Rattle.format.specs.Tests.{no_place}
use Rattle.format.specs.Presence.{items_there, info_there, strings_unicode}
use Rattle.format.specs.Bodies.{text_kind, string_kind, local_slot, suffix_slot, local_unicode_slot, suffix_unicode_slot}
use Rattle.format.specs.Contents.{Contents, bytes_at, body_in, bodies_of}
use Rattle.format.specs.Writing.{canonical}
use Rattle.format.specs.Codepage.{to_units}
use Rattle.format.specs.Moving.{bodies_from, strings, in_unicode, in_bytes}
use Rattle.format.specs.Steps.Lengths.{written_body, written_row, written_length}
use Rattle.format.specs.Steps.Shape.{Shape, shape_of, row_as, rows_from}
use Rattle.format.specs.Steps.Flat.{row_bytes, slots_bytes, bodies_bytes, info_to, contents_flat}
use Rattle.format.proofs.Bools.{and_no}
use Rattle.format.proofs.BodyLaws.{body_length}
use Rattle.format.proofs.RowLaws.{map_at, bytes_at_lem}
use Rattle.format.proofs.FlatLaws.{contents_flat_lem}
use Rattle.format.proofs.CodepageLaws.{units_long, bytes_long}
use Rattle.codepage.proofs.TextLaws.{units_count}
use Rattle.sizes.proofs.MeasureLaws.{measured, measured_length}
use Rattle.canonical.specs.Steps.Puts.{slots_size}
use Rattle.canonical.proofs.FitsLaws.{info_put, total_parts}
use Rattle.moves.specs.Steps.Moves.{translate, moved, moved_place, gained, unicode_place, moved_flags, in_row, moved_places, moved_record, Inside}
use Rattle.moving.specs.Steps.Pieces.{moved_strings, strings_size, unicode_texts, unicode_size, gain, moved_info, info_size, moved_flat}

-- ---- how long everything is

translated_long : (u : Bool) (x : List ℕ) (p : Place) → length x ≡ p.len → length (translate u x) ≡ (moved_place u p).len
translated_long true x p e = units_long x ∙ ap (λ (n : ℕ). 2 * n) e
translated_long false x p e = bytes_long x ∙ units_count x ∙ ap (λ (n : ℕ). n / 2) e

-- a text of LinkInfo afterwards
unicode_text : Bool → Bool → List ℕ → List ℕ → List ℕ
unicode_text true g x old = cond g (to_units x) old
unicode_text false g x old = []

text_long : (u g : Bool) (x old : List ℕ) (p q : Place) → length x ≡ p.len → length old ≡ q.len → length (unicode_text u g x old) ≡ (unicode_place u g p q).len
unfolding unicode_text
text_long true true x old p q e f = units_long x ∙ ap (λ (n : ℕ). 2 * n) e
text_long true false x old p q e f = f
text_long false g x old p q e f = refl

module _ (d : List ℕ) (r : Record) where
  abbrev c : Contents
  c = bodies_of d r

  body_at : (k : ℕ) → body_in c k ≡ bytes_at d (in_row r.places k)
  body_at k = bytes_at_lem d r.places k

  -- the moved bodies
  abbrev bodies : Bool → List (List ℕ)
  bodies u =
      bodies_from 0 8 c
      ++ (unicode_text u (gained r) (body_in c local_slot) (body_in c local_unicode_slot)
      ∷ unicode_text u (gained r) (body_in c suffix_slot) (body_in c suffix_unicode_slot)
      ∷ map (translate u) (strings c)
      ++ bodies_from 15 2 c)

  moved_is : (u : Bool) → moved u c ≡ record { header = (moved_record u r).header; link = (moved_record u r).link; bodies = bodies u }
  unfolding in_unicode in_bytes unicode_text moved_record
  moved_is true = refl
  moved_is false = refl

  module _ (i : Inside d r.places) where
    long_at : (k : ℕ) → length (body_in c k) ≡ (in_row r.places k).len
    long_at k = ap length (body_at k) ∙ body_length d (in_row r.places k) (i.slot k)

    all_long : (u : Bool) → map length (bodies u) ≡ map (λ (p : Place). p.len) (moved_places u (gained r) r.places)
    unfolding moved_places
    all_long u =
        cc (
          long_at 0,
          long_at 1,
          long_at 2,
          long_at 3,
          long_at 4,
          long_at 5,
          long_at 6,
          long_at 7,
          text_long u (gained r) (body_in c local_slot) (body_in c local_unicode_slot) (in_row r.places 2) (in_row r.places 8) (long_at 2) (long_at 8),
          text_long u (gained r) (body_in c suffix_slot) (body_in c suffix_unicode_slot) (in_row r.places 7) (in_row r.places 9) (long_at 7) (long_at 9),
          translated_long u (body_in c 10) (in_row r.places 10) (long_at 10),
          translated_long u (body_in c 11) (in_row r.places 11) (long_at 11),
          translated_long u (body_in c 12) (in_row r.places 12) (long_at 12),
          translated_long u (body_in c 13) (in_row r.places 13) (long_at 13),
          translated_long u (body_in c 14) (in_row r.places 14) (long_at 14),
          long_at 15,
          long_at 16,
        )

    each_long : (u : Bool) (k : ℕ) → k < 17 → length (get_or (bodies u) k []) ≡ (get_or (moved_places u (gained r) r.places) k no_place).len
    unfolding moved_places
    each_long u k h =
        sym (map_at length (bodies u) k [] 0 h)
        ∙ ap (λ (l : List ℕ). get_or l k 0) (all_long u)
        ∙ map_at (λ (p : Place). p.len) (moved_places u (gained r) r.places) k no_place 0 h

    -- the record measures the moved contents
    pub moved-length : (u : Bool) → length (canonical (moved u c)) ≡ written_length (moved_record u r)
    unfolding moved_record
    moved-length u =
        ap (λ (m : Contents). length (canonical m)) (moved_is u)
        ∙ measured_length (moved_record u r).header (moved_record u r).link (moved_record u r).places (bodies u) (each_long u)

    moved_flat_lem : (u : Bool) → canonical (moved u c)
        ≡ contents_flat (record { header = (moved_record u r).header; link = (moved_record u r).link; bodies = bodies u }) (shape_of (moved_record u r).header.flags (moved_record u r).link) (written_row (moved_record u r))
    unfolding moved_record
    moved_flat_lem u =
        ap canonical (moved_is u)
        ∙ contents_flat_lem (record { header = (moved_record u r).header; link = (moved_record u r).link; bodies = bodies u }) (written_row (moved_record u r))
        (measured (moved_record u r).header (moved_record u r).link (moved_record u r).places (bodies u) (each_long u))

  -- ---- piece by piece

  abbrev q : Bool → Record
  q u = moved_record u r

  abbrev shape : Bool → Shape
  shape u = shape_of (q u).header.flags (q u).link

  gain_is : gain r (q true) ≡ gained r
  unfolding moved_record
  gain_is = go (info_there r.header.flags) r.link.long
    where
      go : (i l : Bool) → (((i && not l) || l) && not l) ≡ (i && not l)
      go true true = refl
      go true false = refl
      go false true = refl
      go false false = refl

  first_texts : (u : Bool) → bodies_bytes (bodies u) 1 (rows_from (row_as text_kind (shape u)) 1 2) ≡ slots_bytes d r.places 1 (rows_from (row_as text_kind (shape u)) 1 2)
  unfolding bodies_bytes slots_bytes
  first_texts u = rw (body_at 1, body_at 2)

  -- the two Unicode texts
  abbrev last_texts : Bool → List ℕ
  last_texts u =
      row_bytes (row_as text_kind (shape u) 8) (unicode_text u (gained r) (body_in c local_slot) (body_in c local_unicode_slot))
      ++ (row_bytes (row_as text_kind (shape u) 9) (unicode_text u (gained r) (body_in c suffix_slot) (body_in c suffix_unicode_slot)) ++ [])

  last_true : (g : Bool)
      → row_bytes (row_as text_kind (shape true) 8) (unicode_text true g (body_in c local_slot) (body_in c local_unicode_slot))
      ++ (row_bytes (row_as text_kind (shape true) 9) (unicode_text true g (body_in c suffix_slot) (body_in c suffix_unicode_slot)) ++ [])
      ≡ unicode_texts g d r.places (shape true)
  unfolding unicode_text unicode_texts slots_bytes shape_of moved_record
  last_true true = rw (body_at local_slot, body_at suffix_slot, append-nil)
  last_true false = rw (body_at local_unicode_slot, body_at suffix_unicode_slot)

  -- with the short head there are none
  last_false : last_texts false ≡ unicode_texts (gain r (q false)) d r.places (shape false)
  unfolding unicode_text unicode_texts slots_bytes shape_of moved_record
  last_false = rw (and_no (info_there (moved_flags false r.header.flags)))

  last_texts_lem : (u : Bool) → last_texts u ≡ unicode_texts (gain r (q u)) d r.places (shape u)
  last_texts_lem true = last_true (gained r) ∙ ap (λ (g : Bool). unicode_texts g d r.places (shape true)) (sym gain_is)
  last_texts_lem false = last_false

  later_texts : (u : Bool) → bodies_bytes (bodies u) 3 (rows_from (row_as text_kind (shape u)) 3 7)
      ≡ slots_bytes d r.places 3 (rows_from (row_as text_kind (shape u)) 3 5) ++ unicode_texts (gain r (q u)) d r.places (shape u)
  unfolding bodies_bytes slots_bytes
  later_texts u = rw (last_texts_lem u, body_at 3, body_at 4, body_at 5, body_at 6, body_at 7) (simp (append_assoc, append-nil))

  -- flag bit 7 is as asked
  module _ (u : Bool) (wide : strings_unicode (moved_flags u r.header.flags) ≡ u) where
    strings_are : bodies_bytes (bodies u) 10 (rows_from (row_as string_kind (shape u)) 10 5) ≡ moved_strings u d r.places (shape u)
    unfolding bodies_bytes moved_strings shape_of moved_record
    strings_are = rw (wide, body_at 10, body_at 11, body_at 12, body_at 13, body_at 14)

    -- what is put is the canonical form of the moved contents
    pub moved_put : Inside d r.places → canonical (moved u c) ≡ moved_flat u d r (q u) (shape u) (written_row (q u))
    unfolding moved_flat moved_info contents_flat
    moved_put i = moved_flat_lem i u ∙ rw (first_texts u, later_texts u, strings_are, body_at 0, body_at 15, body_at 16)

  -- ---- how much is put

  size_true : (g : Bool)
      → written_body (row_as text_kind (shape true) 8) (unicode_place true g (in_row r.places local_slot) (in_row r.places local_unicode_slot))
      + written_body (row_as text_kind (shape true) 9) (unicode_place true g (in_row r.places suffix_slot) (in_row r.places suffix_unicode_slot))
      ≡ unicode_size g r.places (shape true)
  unfolding unicode_size slots_size shape_of moved_record
  size_true true = refl
  size_true false = omega arith

  last_size : (u : Bool)
      → written_body (row_as text_kind (shape u) 8) (unicode_place u (gained r) (in_row r.places local_slot) (in_row r.places local_unicode_slot))
      + written_body (row_as text_kind (shape u) 9) (unicode_place u (gained r) (in_row r.places suffix_slot) (in_row r.places suffix_unicode_slot))
      ≡ unicode_size (gain r (q u)) r.places (shape u)
  unfolding unicode_size slots_size shape_of moved_record
  last_size true = size_true (gained r) ∙ ap (λ (g : Bool). unicode_size g r.places (shape true)) (sym gain_is)
  last_size false = rw (and_no (info_there (moved_flags false r.header.flags)))

  pub info_size_lem : (u : Bool) → info_there (q u).header.flags ≡ true → info_to (q u).link (written_row (q u)) ≡ info_size r (q u) (shape u)
  unfolding info_size slots_size moved_record moved_places
  info_size_lem u i = info_put (q u) refl i refl ∙ omega (arith, last_size u)

  pub total_size : (u : Bool) → written_length (q u)
      ≡ 76
      + (cond (items_there (q u).header.flags) ((in_row r.places 0).len + 4) 0
      + (cond (info_there (q u).header.flags) (info_to (q u).link (written_row (q u))) 0 + (strings_size u r.places (shape u) + ((in_row r.places 15).len + 4))))
  unfolding strings_size slots_size moved_record moved_places
  total_size u = total_parts (q u) refl (info_there (q u).header.flags) refl
