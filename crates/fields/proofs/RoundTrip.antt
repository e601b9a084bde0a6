-- From a record to its numbers and back, and from numbers to their record and back.
use mathlib.Core.Path.{◌≡◌, refl, sym, ap, ◌∙◌}
use mathlib.Core.List.{List, [], ◌∷◌}
use mathlib.Core.Bool.{Bool, true, false}
use Prim.Native.Nat.{ℕ, zero, suc, ◌+◌, ◌*◌, ◌<◌, ◌-◌, ◌^◌}
use native.Mathlib.Omega.{arith}
use lib.ListN.{length, get_or}
use lib.Seq.{get_or-append-add}
use lib.Dec.{ltb, eqb}
use borrow.Author.Tests.{lt-ltb, le-ltb}
use Rattle.format.specs.declared.Record.{Record}
use Rattle.format.specs.Tests.{one_or_0}
use Rattle.format.specs.Header.{signed}
use Rattle.format.specs.Bodies.{place_in}
use Rattle.format.specs.Writing.{bits}
use Rattle.format.proofs.Bools.{by_order}
use Rattle.format.proofs.Ranges.{FitsHeader, FitsRecord}
use Rattle.format.proofs.HeaderLaws.{signed-bits, bits_fit, signed_fits}
use Rattle.fields.specs.Fields.{field_count, numbers_of, pairs, fields_of, header_numbers, info_numbers, are_record, header_from, link_from, slot_at, places_from, record_from}
use Rattle.fields.proofs.Laws.{header_fits, info_fits, both_parts, record_is, row_whole, pairs_at, pairs_len, length-pairs}

-- ---- one number, one choice

flag_back : (b : Bool) → eqb (one_or_0 b) 1 ≡ b
flag_back true = refl
flag_back false = refl

flag_kept : (n : ℕ) → n < 2 → one_or_0 (eqb n 1) ≡ n
flag_kept zero h = refl
flag_kept (suc zero) h = refl
flag_kept (suc (suc n)) h = absurd (omega arith)

bits_kept : (n : ℕ) → n < 4294967296 → bits (signed n) ≡ n
unfolding bits signed
bits_kept n h =
    by_order 2147483648 n
    (λ k. let e : 4294967295 - (4294967295 - n) ≡ n = omega arith in rw (le-ltb n 2147483648 k) e)
    (λ k. rw (lt-ltb n 2147483648 k))

-- ---- the record

header_back : (q : Record) → FitsHeader q.header → q.header ≡ header_from (fields_of q)
unfolding header_from fields_of numbers_of
header_back q t = rw (signed-bits q.header.icon_index t.icon_index)

link_back : (q : Record) → q.link ≡ link_from (fields_of q)
unfolding link_from fields_of numbers_of
link_back q = rw (flag_back q.link.long, flag_back q.link.label_unicode, flag_back q.link.network_unicode)

slot_back : (q : Record) (k : ℕ) → place_in q k ≡ slot_at (fields_of q) k
unfolding fields_of numbers_of
slot_back q k =
    let ps = q.places in
    let a = get_or-append-add (numbers_of q) (pairs ps) (2 * k) 0 ∙ pairs_at ps k in
    let i : 17 + 2 * k + 1 ≡ 17 + (2 * k + 1) = omega arith in
    let n = rw (← i) at (get_or-append-add (numbers_of q) (pairs ps) (2 * k + 1) 0 ∙ pairs_len ps k) in
    sym (rw (a, n))

pub record_back : (q : Record) → FitsRecord q → length q.places ≡ 17 → record_from (fields_of q) ≡ q
record_back q t row =
    sym (record_is (fields_of q) (header_back q t.header) (link_back q) (row_whole (fields_of q) q.places row (λ j h. slot_back q j)))

-- its numbers are as many as there are fields, and are a record
pub fields_counted : (q : Record) → length q.places ≡ 17 → length (fields_of q) ≡ field_count
unfolding fields_of numbers_of
fields_counted q row = omega (arith, length-pairs q.places)

flag_small : (b : Bool) → ltb (one_or_0 b) 2 ≡ true
flag_small true = refl
flag_small false = refl

pub fields_record_lem : (q : Record) → FitsRecord q → are_record (fields_of q) ≡ true
unfolding are_record header_numbers info_numbers fields_of numbers_of
fields_record_lem q t =
    let h = t.header in
    let l = t.link in
    let word : (n : ℕ) → n < 4294967296 → ltb n 4294967296 ≡ true = λ n k. lt-ltb n 4294967296 k in
    rw (
      word q.header.flags h.flags,
      word q.header.attributes h.attributes,
      word q.header.file_size h.file_size,
      word (bits q.header.icon_index) (bits_fit q.header.icon_index h.icon_index),
      word q.header.command h.command,
      lt-ltb q.header.hotkey 65536 h.hotkey,
      word q.link.flags l.flags,
      flag_small q.link.long,
      word q.link.drive l.drive,
      word q.link.serial l.serial,
      flag_small q.link.label_unicode,
      word q.link.network_flags l.network_flags,
      word q.link.provider l.provider,
      flag_small q.link.network_unicode,
    )

-- ---- the numbers

-- each fits 64 bits, as those of a slice do
pub record Longs (f : List ℕ) : Type 0 where
  pub at : (i : ℕ) → get_or f i 0 < 2 ^ 64

-- the record that they are fits
pub record_fits : (f : List ℕ) → Longs f → are_record f ≡ true → FitsRecord (record_from f)
unfolding record_from header_from link_from
record_fits f w e =
    let parts = both_parts f e in
    let h = header_fits f parts.0 in
    let i = info_fits f parts.1 in
    record {
      header = record {
        flags = h.flags;
        attributes = h.attributes;
        creation = w.at 2;
        access = w.at 3;
        write = w.at 4;
        file_size = h.size;
        icon_index = signed_fits (get_or f 6 0) h.icon;
        command = h.command;
        hotkey = h.hotkey;
      };
      link = record { flags = i.flags; drive = i.drive; serial = i.serial; network_flags = i.network; provider = i.provider };
    }

abbrev spelled : (ℕ → ℕ) → ℕ → List ℕ
spelled g zero = []
spelled g (suc n) = g 0 ∷ spelled (λ i. g (suc i)) n

spelled_whole : (f : List ℕ) → spelled (λ i. get_or f i 0) (length f) ≡ f
spelled_whole [] = refl
spelled_whole (x ∷ f) = ap (λ (t : List ℕ). x ∷ t) (spelled_whole f)

pub fields_back : (f : List ℕ) → length f ≡ field_count → are_record f ≡ true → fields_of (record_from f) ≡ f
unfolding record_from header_from link_from places_from fields_of numbers_of
fields_back f l e =
    let parts = both_parts f e in
    let h = header_fits f parts.0 in
    let i = info_fits f parts.1 in
    let s : spelled (λ i. get_or f i 0) field_count ≡ f = rw l at (spelled_whole f) in
    rw (
      bits_kept (get_or f 6 0) h.icon,
      flag_kept (get_or f 10 0) i.long,
      flag_kept (get_or f 13 0) i.kind,
      flag_kept (get_or f 16 0) i.unicode,
    ) s
