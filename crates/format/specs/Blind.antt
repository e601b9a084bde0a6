-- FORMAT: Blind spots. Where a shortcut can name its driver without the key telling it, as a number with a bit for each.
use Rattle.std.specs.Prelude.{ℕ, ◌+◌, ◌%◌, ◌≡◌, List, [], ◌∷◌, Bool, true, false, not, ◌&&◌, ◌||◌, cond, length, set, leb, eqb, Ok}
use Rattle.octets.specs.Numbers.{same_numbers}
use Rattle.octets.specs.Characters.{units}
use Rattle.format.specs.declared.Profile.{Profile}
use Rattle.format.specs.declared.Place.{Place}
use Rattle.format.specs.declared.Record.{Record}
use Rattle.format.specs.declared.StoreRow.{StoreRow}
use Rattle.format.specs.Tests.{Outcome, got, refused, and_then}
use Rattle.format.specs.Presence.{items_there, info_there, relative_bit, string_there, local_there, local_unicode_there}
use Rattle.format.specs.Blocks.{first_place}
use Rattle.format.specs.Shortcut.{Sections, blocks_of, shortcut, record_of, verdict_of, reading}
use Rattle.format.specs.Bodies.{place_in, local_slot, net_slot, net_unicode_slot, suffix_slot, local_unicode_slot, suffix_unicode_slot}
use Rattle.format.specs.Contents.{Contents, bytes_at, contents}
use Rattle.format.specs.Target.{has_target, joined}
use Rattle.format.specs.Key.{Part, no_part, some_part, part_if, Key, block_text, key_of, key_in, SameParts}
use Rattle.format.specs.StoreList.{rows_of}
use Rattle.format.specs.Codepage.{is_translation}
use Rattle.format.specs.PathWriting.{unicode_text}
use Rattle.format.specs.Verdicts.{Verdict}

-- ---- 1: the key names no driver, and something else could

-- there, and not empty
abbrev pub says_text : Part → Bool
says_text no_part = false
says_text (some_part w) = leb 1 (length w)

abbrev pub names_driver : Key → Bool
names_driver k = says_text k.target || says_text k.environment

-- an item list, a relative path or LinkInfo is there
abbrev pub could_name : Record → Bool
could_name r = let flags = r.header.flags in items_there flags || string_there relative_bit flags || info_there flags

abbrev pub nameless : Key → Record → Bool
nameless k r = not (names_driver k) && could_name r

-- ---- 2 and 4: a Unicode twin is no translation of the byte text that is in the key

-- of a twin that is there; an unassigned byte has no translation
abbrev pub other_twin : Bool → List ℕ → List ℕ → Bool
other_twin there text unicode = there && not (is_translation text unicode)

-- what the record holds in slot k
abbrev pub text_in : List ℕ → Record → ℕ → List ℕ
text_in s r k = bytes_at s (place_in r k)

-- the target's first text is the local path where there is one, else the net name
abbrev pub first_slot : Record → ℕ
first_slot r = cond (local_there r.link.flags) local_slot net_slot

-- its twin, and whether that is there
abbrev pub first_twin_slot : Record → ℕ
first_twin_slot r = cond (local_there r.link.flags) local_unicode_slot net_unicode_slot

abbrev pub first_twin_there : Record → Bool
first_twin_there r = cond (local_there r.link.flags) (local_unicode_there r.link.long r.link.flags) r.link.network_unicode

-- of the first text, or of the suffix
abbrev pub other_target : List ℕ → Record → Bool
other_target s r =
    has_target r
    && (other_twin (first_twin_there r) (text_in s r (first_slot r)) (text_in s r (first_twin_slot r))
    || other_twin r.link.long (text_in s r suffix_slot) (text_in s r suffix_unicode_slot))

-- where the first block of this signature stands, and whether there is one
abbrev pub block_of : List ℕ → Sections → ℕ → Place
block_of s c signature = first_place s signature (blocks_of c).start (blocks_of c).read

abbrev pub is_there : Place → Bool
is_there b = leb 1 b.len

-- of the texts of the environment block
abbrev pub other_environment : List ℕ → Place → Bool
other_environment s b = other_twin (is_there b) (block_text s b) (unicode_text (bytes_at s b))

-- ---- 16: the store has values; a row of kind 0 is a storage

abbrev pub has_values : List StoreRow → Bool
has_values [] = false
has_values (r ∷ rs) = not (eqb r.kind 0) || has_values rs

-- ---- the bits that are set, added up

unfoldable pub blind_bits : List ℕ → Sections → ℕ
unfolding key_of rows_of
blind_bits s c =
    cond (nameless (key_of s c) (record_of c)) 1 0
    + cond (other_target s (record_of c)) 2 0
    + cond (other_environment s (block_of s c 0xA0000001)) 4 0
    + cond (is_there (block_of s c 0xA0000006) || is_there (block_of s c 0xA000000C)) 8 0
    + cond (has_values (rows_of s c)) 16 0

-- ---- the call. Refusals: as for reading, and no other

unfoldable pub key_blind : Profile → List ℕ → Outcome ℕ
unfolding shortcut blind_bits
key_blind profile s = and_then (shortcut profile s) (λ c n. got (blind_bits s c) (blind_bits s c))

-- the answer has the bits for its value
unfoldable pub key_blind_answer : Profile → List ℕ → Verdict
unfolding key_blind
key_blind_answer profile s = verdict_of (key_blind profile s)

-- ---- the words in which the promises are put

-- the bits 1, 2 and 4 are clear
abbrev pub is_told : ℕ → Bool
is_told bits = eqb (bits % 8) 0

-- the environment's Unicode text
abbrev pub unicode_by : List ℕ → Outcome Sections → Part
unicode_by s (got c n) = let b = block_of s c 0xA0000001 in part_if (is_there b) (unicode_text (bytes_at s b))
unicode_by s (refused f p) = no_part

unfoldable pub environment_unicode : Profile → List ℕ → Part
unfolding shortcut
environment_unicode profile s = unicode_by s (shortcut profile s)

-- a target, and a twin of each of its two texts
abbrev pub has_twins : Record → Bool
has_twins r = has_target r && (first_twin_there r && r.link.long)

-- the units of those, joined by the rule of the target text
abbrev pub target_units : List ℕ → Record → List ℕ
target_units s r = joined (units (text_in s r (first_twin_slot r))) (units (text_in s r suffix_unicode_slot))

-- s is a shortcut with the record r whose key tells what could name its driver
pub record KeyTells (profile : Profile) (s : List ℕ) (r : Record) : Type 0 where
  -- the twins of a target's texts are translations, those that are there
  pub first : has_target r ≡ true → first_twin_there r ≡ true → is_translation (text_in s r (first_slot r)) (text_in s r (first_twin_slot r)) ≡ true
  pub suffix : has_target r ≡ true → r.link.long ≡ true → is_translation (text_in s r suffix_slot) (text_in s r suffix_unicode_slot) ≡ true
  -- where no text in the key names a driver, nothing else can
  pub nothing : names_driver (key_in profile s) ≡ false → could_name r ≡ false

-- two such with one key, s with the record r and t with the record q
pub record SameDriver (profile : Profile) (s t : List ℕ) (r q : Record) : Type 0 where
  -- target text, arguments, working directory, and the environment's byte text; then its Unicode text
  pub parts : SameParts (key_in profile s) (key_in profile t)
  pub unicode : environment_unicode profile s ≡ environment_unicode profile t
  -- where all twins stand in both
  pub twins : has_twins r ≡ true → has_twins q ≡ true → target_units s r ≡ target_units t q

-- contents without the body of slot k
abbrev pub without_body : ℕ → Contents → Contents
without_body k c = record { header = c.header; link = c.link; bodies = set c.bodies k [] }

-- two accepted shortcuts with one key, each with these bits and no other, that differ in one body and in nothing else
pub record Untold (profile : Profile) (bits slot : ℕ) (s t : List ℕ) : Type 0 where
  pub accepted : ((reading profile s).verdict ≡ Ok (length s)) × ((reading profile t).verdict ≡ Ok (length t))
  pub keys : key_in profile s ≡ key_in profile t
  pub blind : (key_blind_answer profile s ≡ Ok bits) × (key_blind_answer profile t ≡ Ok bits)
  pub rest : without_body slot (contents s (reading profile s).held) ≡ without_body slot (contents t (reading profile t).held)
  pub other : same_numbers (text_in s (reading profile s).held slot) (text_in t (reading profile t).held slot) ≡ false
