-- What the tests of the numbers tell, and the parts of a record put together.
use mathlib.Core.Path.{◌≡◌, refl, sym, ◌∙◌}
use mathlib.Core.List.{List, [], ◌∷◌}
use mathlib.Core.Bool.{Bool, true, ◌&&◌}
use Prim.Native.Nat.{ℕ, zero, suc, ◌+◌, ◌*◌, ◌<◌}
use native.Mathlib.Omega.{arith}
use native.Mathlib.Nat.{zero-add, add-zero}
use lib.ListN.{length, get_or}
use lib.Seq.{ext_get_or}
use lib.IntN.{ℤ}
use borrow.Author.Tests.{ltb-true}
use Rattle.format.specs.declared.Place.{Place}
use Rattle.format.specs.declared.Header.{Header}
use Rattle.format.specs.declared.Link.{Link}
use Rattle.format.specs.declared.Record.{Record}
use Rattle.format.specs.Tests.{no_place}
use Rattle.format.specs.Header.{signed}
use Rattle.format.proofs.Bools.{and-true, every_out}
use Rattle.fields.specs.Fields.{pairs, word_at, header_numbers, info_numbers, are_record, header_from, link_from, slot_at, row_from, places_from, record_from}

module _ (f : List ℕ) where
  abbrev Word : ℕ → Type 0
  Word i = get_or f i 0 < 4294967296

  word : (i : ℕ) → word_at f i ≡ true → Word i
  word i e = ltb-true (get_or f i 0) 4294967296 e

  pub record HeaderFits : Type 0 where
    pub flags : Word 0
    pub attributes : Word 1
    pub size : Word 5
    pub icon : Word 6
    pub command : Word 7
    pub hotkey : get_or f 8 0 < 65536

  pub header_fits : header_numbers f ≡ true → HeaderFits
  unfolding header_numbers
  header_fits e =
      let (flags, (attributes, (size, (icon, (command, (hotkey, z)))))) = every_out (_ ∷ _ ∷ _ ∷ _ ∷ _ ∷ _ ∷ []) e in
      record {
        flags = word 0 flags;
        attributes = word 1 attributes;
        size = word 5 size;
        icon = word 6 icon;
        command = word 7 command;
        hotkey = ltb-true (get_or f 8 0) 65536 hotkey;
      }

  pub record InfoFits : Type 0 where
    pub flags : Word 9
    pub long : get_or f 10 0 < 2
    pub drive : Word 11
    pub serial : Word 12
    pub kind : get_or f 13 0 < 2
    pub network : Word 14
    pub provider : Word 15
    pub unicode : get_or f 16 0 < 2

  pub info_fits : info_numbers f ≡ true → InfoFits
  unfolding info_numbers
  info_fits e =
      let (flags, (long, (drive, (serial, (kind, (network, (provider, (unicode, z)))))))) = every_out (_ ∷ _ ∷ _ ∷ _ ∷ _ ∷ _ ∷ _ ∷ _ ∷ []) e in
      record {
        flags = word 9 flags;
        long = ltb-true (get_or f 10 0) 2 long;
        drive = word 11 drive;
        serial = word 12 serial;
        kind = ltb-true (get_or f 13 0) 2 kind;
        network = word 14 network;
        provider = word 15 provider;
        unicode = ltb-true (get_or f 16 0) 2 unicode;
      }

  pub both_parts : are_record f ≡ true → (header_numbers f ≡ true) × (info_numbers f ≡ true)
  unfolding are_record
  both_parts e = and-true (header_numbers f) (info_numbers f) e

  pub joined_parts : {a b : Bool} → a ≡ header_numbers f → b ≡ info_numbers f → (a && b) ≡ are_record f
  unfolding are_record
  joined_parts p q = rw (p, q)

  -- ---- the record's parts from theirs

  pub header_is : {z : ℤ} → z ≡ signed (get_or f 6 0)
      → ◌≡◌ {A = Header}
      (record {
        flags = get_or f 0 0;
        attributes = get_or f 1 0;
        creation = get_or f 2 0;
        access = get_or f 3 0;
        write = get_or f 4 0;
        file_size = get_or f 5 0;
        icon_index = z;
        command = get_or f 7 0;
        hotkey = get_or f 8 0;
      }) (header_from f)
  unfolding header_from
  header_is e = rw e

  pub record_is : {h : Header} {l : Link} {ps : List Place} → h ≡ header_from f → l ≡ link_from f → ps ≡ places_from f
      → ◌≡◌ {A = Record} (record { header = h; link = l; places = ps }) (record_from f)
  unfolding record_from
  record_is p q r = rw (p, q, r)

  -- ---- the row of slots

  row_at : (k n j : ℕ) → j < n → get_or (row_from f k n) j no_place ≡ slot_at f (k + j)
  row_at k zero j h = absurd (omega arith)
  row_at k (suc n) zero h = rw add-zero
  row_at k (suc n) (suc j) h =
      let i : k + 1 + j ≡ k + suc j = omega arith in
      rw i at (row_at (k + 1) n j (omega arith))

  -- a row that has them all
  pub row_whole : (row : List Place) → length row ≡ 17 → ((j : ℕ) → j < 17 → get_or row j no_place ≡ slot_at f j) → row ≡ places_from f
  unfolding places_from
  row_whole row l h =
      ext_get_or no_place row (row_from f 0 17) l
      (λ j k. let b : j < 17 = omega arith in h j b ∙ sym (rw zero-add at (row_at 0 17 j b)))

-- ---- the pairs

pub pairs_at : (ps : List Place) (k : ℕ) → get_or (pairs ps) (2 * k) 0 ≡ (get_or ps k no_place).at
pairs_at [] k = refl
pairs_at (p ∷ ps) zero = refl
pairs_at (p ∷ ps) (suc k) = let e : 2 * suc k ≡ suc (suc (2 * k)) = omega arith in rw e (pairs_at ps k)

pub pairs_len : (ps : List Place) (k : ℕ) → get_or (pairs ps) (2 * k + 1) 0 ≡ (get_or ps k no_place).len
pairs_len [] k = refl
pairs_len (p ∷ ps) zero = refl
pairs_len (p ∷ ps) (suc k) = let e : 2 * suc k + 1 ≡ suc (suc (2 * k + 1)) = omega arith in rw e (pairs_len ps k)

pub length-pairs : (ps : List Place) → length (pairs ps) ≡ 2 * length ps
length-pairs [] = refl
length-pairs (p ∷ ps) = omega (arith, length-pairs ps)
