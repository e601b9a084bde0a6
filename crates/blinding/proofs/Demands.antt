-- What equal keys say where no bit of 1, 2 and 4 is set, and that no bit is idle. Said of what the calls answer and write.
use mathlib.Core.Path.{◌≡◌, refl, sym, ap, ◌∙◌}
use mathlib.Core.List.{List, [], ◌++◌, map}
use mathlib.Core.Bool.{Bool, true, false, not, ◌&&◌, ◌||◌, cond}
use Prim.Native.Nat.{ℕ}
use lib.ListN.{length, take}
use Rattle.octets.specs.Numbers.{number, number_at, little}
use Rattle.octets.specs.Characters.{units, before_zero}
use Rattle.format.specs.declared.Profile.{Profile}
use Rattle.format.specs.declared.Profile.TheVariants.{Strict, NinetyFive}
use Rattle.format.specs.declared.Record.{Record}
use Rattle.format.specs.Tests.{got}
use Rattle.format.specs.Presence.{relative_bit, local_there}
use Rattle.format.specs.Header.{identifier_ok, signed}
use Rattle.format.specs.Items.{item_tests}
use Rattle.format.specs.Store.{part_tests, is_named, store_tests}
use Rattle.format.specs.Blocks.{slot_of, size_fits, inside_tests, blocks_from}
use Rattle.format.specs.Shortcut.{Sections, sections, shortcut, record_of, reading}
use Rattle.format.specs.Bodies.{items_slot, local_slot, net_slot, suffix_slot, local_unicode_slot, suffix_unicode_slot, string_slot, blocks_slot}
use Rattle.format.specs.Contents.{bytes_at, present, contents}
use Rattle.format.specs.Target.{has_target, joined, target_text}
use Rattle.format.specs.Key.{part_if, Key, block_text, key_of, key_answer, key_output, key_by, key_in, SameParts}
use Rattle.format.specs.StoreList.{per_part, store_rows, rows_of}
use Rattle.format.specs.Codepage.{windows1252, unit_of, to_units}
use Rattle.format.specs.Moving.{translated_part}
use Rattle.format.specs.Demands.{Accepts}
use Rattle.format.specs.PathWriting.{path_block, unicode_text}
use Rattle.format.specs.Blind.{nameless, other_twin, text_in, first_slot, first_twin_slot, first_twin_there, other_target, block_of, is_there, other_environment, has_values, blind_bits, key_blind, key_blind_answer, is_told, unicode_by, environment_unicode, has_twins, target_units, KeyTells, SameDriver, Untold}
use Rattle.format.specs.Probes.{with_section}
use Rattle.format.proofs.Bools.{and-true}
use Rattle.format.proofs.AcceptedLaws.{accepted_Read}
use Rattle.format.proofs.ProfileLaws.{shortcut_within}
use Rattle.format.proofs.CodepageLaws.{units_are}
use Rattle.format.proofs.KeyDemands.{record_Tells, same_key}
use Rattle.blinding.proofs.Rows.{item, one_item, block, local, environment, valued, store, rv32, rv64, garbled, variable32, variable64}
use Rattle.format.proofs.BlindLaws.{Clear, clear, both_false, second_false, twin_translates, translation_is, part_translates, joined_units}
use Rattle.std.specs.Prelude.{Ok}

-- ---- one shortcut

-- an accepted shortcut whose bits 1, 2 and 4 are clear
pub record Unblind (profile : Profile) (s : List ℕ) (r : Record) : Type 0 where
  pub sections : Sections
  pub read : shortcut profile s ≡ got sections (length s)
  pub clear : Clear (nameless (key_in profile s) r) (other_target s r) (other_environment s (block_of s sections 0xA0000001))

module _ (profile : Profile) (s : List ℕ) (r : Record) (bits : ℕ) (a : Accepts profile s r) (e : key_blind_answer profile s ≡ Ok bits) (told : is_told bits ≡ true) where
  unblind : Unblind profile s r
  unfolding Accepts key_blind_answer key_blind blind_bits key_in
  unblind =
      let x = accepted_Read profile s r (length s) a in
      let c = x.sections in
      let v : Ok (blind_bits s c) ≡ Ok bits = rw x.is at e in
      let b : blind_bits s c ≡ bits = cc in
      let h = clear (nameless (key_of s c) (record_of c)) (other_target s (record_of c)) (other_environment s (block_of s c 0xA0000001)) (is_there (block_of s c 0xA0000006) || is_there (block_of s c 0xA000000C)) (has_values (rows_of s c)) (rw (← b) at told) in
      record {
        sections = c;
        read = x.is;
        clear = record {
          named = ap (λ (k : Key). nameless k r) (ap (key_by s) x.is) ∙ ap (nameless (key_of s c)) (sym x.held) ∙ h.named;
          target = ap (other_target s) (sym x.held) ∙ h.target;
          environment = h.environment;
        };
      }

  twins_clear : has_target r ≡ true → (other_twin (first_twin_there r) (text_in s r (first_slot r)) (text_in s r (first_twin_slot r)) ≡ false) × (other_twin r.link.long (text_in s r suffix_slot) (text_in s r suffix_unicode_slot) ≡ false)
  twins_clear t =
      both_false (other_twin (first_twin_there r) (text_in s r (first_slot r)) (text_in s r (first_twin_slot r))) (other_twin r.link.long (text_in s r suffix_slot) (text_in s r suffix_unicode_slot)) (second_false t unblind.clear.target)

  pub key_tells : KeyTells profile s r
  key_tells = record {
    first = λ t there. twin_translates (text_in s r (first_slot r)) (text_in s r (first_twin_slot r)) (twins_clear t).0 there;
    suffix = λ t long. twin_translates (text_in s r suffix_slot) (text_in s r suffix_unicode_slot) (twins_clear t).1 long;
    nothing = λ n. second_false (ap not n) unblind.clear.named;
  }

  -- the environment's Unicode text is the translation of its byte text
  environment_translated : environment_unicode profile s ≡ translated_part to_units (key_in profile s).environment
  unfolding environment_unicode key_in key_of
  environment_translated =
      let u = unblind in
      let b = block_of s u.sections 0xA0000001 in
      ap (unicode_by s) u.read
      ∙ part_translates (is_there b) (block_text s b) (unicode_text (bytes_at s b)) u.clear.environment
      ∙ ap (λ (k : Key). translated_part to_units k.environment) (ap (key_by s) (sym u.read))

  -- the target's Unicode texts are that of its byte texts
  target_translated : has_twins r ≡ true → target_units s r ≡ map unit_of (target_text s r)
  target_translated h =
      let (t, i) = and-true (has_target r) (first_twin_there r && r.link.long) h in
      let (there, long) = and-true (first_twin_there r) r.link.long i in
      let (all, first) = translation_is (text_in s r (first_slot r)) (text_in s r (first_twin_slot r)) (key_tells.first t there) in
      let (_, suffix) = translation_is (text_in s r suffix_slot) (text_in s r suffix_unicode_slot) (key_tells.suffix t long) in
      rw (first, suffix, units_are, units_are) (joined_units (text_in s r (first_slot r)) (text_in s r suffix_slot) all ∙ ap (λ (w : List ℕ). map unit_of (joined w (text_in s r suffix_slot))) (pick (local_there r.link.flags)))
    where
      pick : (b : Bool) → text_in s r (cond b local_slot net_slot) ≡ cond b (text_in s r local_slot) (text_in s r net_slot)
      pick true = refl
      pick false = refl

-- ---- two with one key

pub same_driver : (profile : Profile) (s t out other : List ℕ) (r q : Record) (n m bits more : ℕ) → Accepts profile s r → Accepts profile t q
    → key_answer profile s out ≡ Ok n → key_answer profile t other ≡ Ok m → take n (key_output profile s out) ≡ take m (key_output profile t other)
    → key_blind_answer profile s ≡ Ok bits → key_blind_answer profile t ≡ Ok more → is_told bits ≡ true → is_told more ≡ true
    → SameDriver profile s t r q
same_driver profile s t out other r q n m bits more a b e f same blind dark told known =
    let parts : SameParts (key_in profile s) (key_in profile t) = (same_key profile s t out other n m e f).0 same in
    record {
      parts = parts;
      unicode = environment_translated profile s r bits a blind told ∙ ap (translated_part to_units) parts.environment ∙ sym (environment_translated profile t q more b dark known);
      twins = λ h k.
          target_translated profile s r bits a blind told h
          ∙ ap (map unit_of) (texts parts h k)
          ∙ sym (target_translated profile t q more b dark known k);
    }
  where
    texts : SameParts (key_in profile s) (key_in profile t) → has_twins r ≡ true → has_twins q ≡ true → target_text s r ≡ target_text t q
    texts parts h k =
        let i : part_if (has_target r) (target_text s r) ≡ part_if (has_target q) (target_text t q) = sym (record_Tells profile s r a).target ∙ parts.target ∙ (record_Tells profile t q b).target in
        let j : part_if true (target_text s r) ≡ part_if true (target_text t q) = rw ((and-true (has_target r) _ h).0, (and-true (has_target q) _ k).0) at i in
        cc

-- ---- no bit is idle: for each, two shortcuts with one key that differ in just that

-- what strict accepts 95 reads as the same
same_outcome : (s : List ℕ) → (reading Strict s).verdict ≡ Ok (length s) → shortcut NinetyFive s ≡ shortcut Strict s
unfolding reading
same_outcome s v =
    let e : reading Strict s ≡ record { verdict = Ok (length s); held = (reading Strict s).held } = rw v in
    let x = accepted_Read Strict s (reading Strict s).held (length s) e in
    shortcut_within s x.sections (length s) x.is ∙ sym x.is

under_95 : {bits slot : ℕ} {s t : List ℕ} → Untold Strict bits slot s t → Untold NinetyFive bits slot s t
unfolding reading key_in key_blind key_blind_answer
under_95 {bits} {slot} {s} {t} u =
    let e = same_outcome s u.accepted.0 in
    let f = same_outcome t u.accepted.1 in
    record {
      accepted = (rw e u.accepted.0, rw f u.accepted.1);
      keys = rw (e, f) u.keys;
      blind = (rw e u.blind.0, rw f u.blind.1);
      rest = rw (e, f) u.rest;
      other = rw (e, f) u.other;
    }

-- what was computed under strict holds under each profile
each : (profile : Profile) {bits slot : ℕ} {s t : List ℕ} → Untold Strict bits slot s t → Untold profile bits slot s t
each Strict u = u
each NinetyFive u = under_95 u

-- 1: by the item list alone, by the relative path alone, and by a LinkInfo that flag bit 8 passes over; 2: by the Unicode local path; 4: by the environment's Unicode text;
-- 8: by a block A0000006, and by a block A000000C; 16: by a value of the store
pub never_idle : (profile : Profile)
    → Untold profile 1 items_slot (with_section 1 (one_item rv32)) (with_section 1 (one_item rv64))
    × (Untold profile 1 (string_slot relative_bit) (with_section 8 (little 2 4 ++ rv32)) (with_section 8 (little 2 4 ++ rv64))
    × (Untold profile 1 local_slot (with_section 0x102 (local rv32 [])) (with_section 0x102 (local rv64 []))
    × (Untold profile 2 local_unicode_slot (with_section 2 (garbled 0x4E00)) (with_section 2 (garbled 0x4E8C))
    × (Untold profile 4 blocks_slot (with_section 0 (environment [] (to_units variable32))) (with_section 0 (environment [] (to_units variable64)))
    × (Untold profile 8 blocks_slot (with_section 0 (path_block 0xA0000006 rv32 [])) (with_section 0 (path_block 0xA0000006 rv64 []))
    × (Untold profile 8 blocks_slot (with_section 0 (block 0xA000000C (item rv32))) (with_section 0 (block 0xA000000C (item rv64)))
    × Untold profile 16 blocks_slot (with_section 0 (store (valued rv32))) (with_section 0 (store (valued rv64)))))))))
unfolding number number_at little units before_zero identifier_ok signed item_tests part_tests is_named store_tests slot_of size_fits inside_tests blocks_from sections shortcut reading present contents key_of key_in per_part store_rows rows_of windows1252 unit_of to_units path_block blind_bits key_blind key_blind_answer
never_idle profile = (each profile (record { accepted = (refl, refl); keys = refl; blind = (refl, refl); rest = refl; other = refl }), (each profile (record { accepted = (refl, refl); keys = refl; blind = (refl, refl); rest = refl; other = refl }), (each profile (record { accepted = (refl, refl); keys = refl; blind = (refl, refl); rest = refl; other = refl }), (each profile (record { accepted = (refl, refl); keys = refl; blind = (refl, refl); rest = refl; other = refl }), (each profile (record { accepted = (refl, refl); keys = refl; blind = (refl, refl); rest = refl; other = refl }), (each profile (record { accepted = (refl, refl); keys = refl; blind = (refl, refl); rest = refl; other = refl }), (each profile (record { accepted = (refl, refl); keys = refl; blind = (refl, refl); rest = refl; other = refl }), each profile (record { accepted = (refl, refl); keys = refl; blind = (refl, refl); rest = refl; other = refl }))))))))
