-- FORMAT: Cache key.
use Rattle.std.specs.Prelude.{ℕ, ◌≡◌, List, [], ◌∷◌, ◌++◌, Bool, false, cond, length, take, drop, leb}
use Rattle.octets.specs.Numbers.{little}
use Rattle.octets.specs.Characters.{characters, before_zero}
use Rattle.format.specs.declared.Profile.{Profile}
use Rattle.format.specs.declared.Place.{Place}
use Rattle.format.specs.declared.Record.{Record}
use Rattle.format.specs.declared.Fault.TheVariants.{Room as ROOM}
use Rattle.format.specs.Tests.{Outcome, got, refused, ◌else◌at◌, no_section, tests, and_then, one_or_0}
use Rattle.format.specs.Presence.{workdir_bit, arguments_bit, string_there, strings_unicode}
use Rattle.format.specs.Blocks.{first_place}
use Rattle.format.specs.Shortcut.{Sections, blocks_of, shortcut, record_of, verdict_of}
use Rattle.format.specs.Bodies.{place_in, string_slot}
use Rattle.format.specs.Contents.{bytes_at}
use Rattle.format.specs.Writing.{output_of}
use Rattle.format.specs.Target.{has_target, target_text}
use Rattle.format.specs.Verdicts.{Verdict}

-- ---- what is in the key: flag bit 7 and four parts, each absent or present with its bytes

pub data Part : Type 0 where
  no_part : Part
  some_part : List ℕ → Part

abbrev pub part_if : Bool → List ℕ → Part
part_if there w = cond there (some_part w) no_part

pub record Key : Type 0 where
  pub unicode : Bool
  pub target : Part
  pub arguments : Part
  pub workdir : Part
  pub environment : Part

-- the byte string of the block that stands there, from its byte 8 up to its zero
abbrev pub block_text : List ℕ → Place → List ℕ
block_text s b = let text = drop 8 (bytes_at s b) in take (before_zero text) text

abbrev pub environment : List ℕ → Place → Part
environment s b = part_if (leb 1 b.len) (block_text s b)

-- A missing target is absent. Arguments and working directory are present by their flag bits, the environment by its block
unfoldable pub key_of : List ℕ → Sections → Key
key_of s c =
    let r = record_of c in
    record {
      unicode = strings_unicode r.header.flags;
      target = part_if (has_target r) (target_text s r);
      arguments = part_if (string_there arguments_bit r.header.flags) (bytes_at s (place_in r (string_slot arguments_bit)));
      workdir = part_if (string_there workdir_bit r.header.flags) (bytes_at s (place_in r (string_slot workdir_bit)));
      environment = environment s (first_place s 0xA0000001 (blocks_of c).start (blocks_of c).read);
    }

-- ---- its bytes

-- presence in one byte, length in four, then the bytes; of an absent part five zeros
abbrev pub part_bytes : Part → List ℕ
part_bytes no_part = little 1 0 ++ little 4 0
part_bytes (some_part w) = little 1 1 ++ (little 4 (length w) ++ w)

-- flag bit 7 as a byte, then the parts one after another
unfoldable pub key_bytes : Key → List ℕ
key_bytes k =
    little 1 (one_or_0 k.unicode) ++ (part_bytes k.target ++ (part_bytes k.arguments ++ (part_bytes k.workdir ++ part_bytes k.environment)))

-- ---- the call. Refusals: as for reading, then 12

unfoldable pub key : Profile → List ℕ → ℕ → Outcome (List ℕ)
unfolding shortcut key_of key_bytes
key profile s room =
    and_then (shortcut profile s) (λ c n.
    let w = key_bytes (key_of s c) in
    tests no_section (leb (length w) room else ROOM at 0 ∷ []) (got w (length w)))

-- the answer, and the output buffer afterwards; the room is the buffer's length
unfoldable pub key_answer : Profile → List ℕ → List ℕ → Verdict
unfolding key
key_answer profile s out = verdict_of (key profile s (length out))

unfoldable pub key_output : Profile → List ℕ → List ℕ → List ℕ
unfolding key output_of
key_output profile s out = output_of (key profile s (length out)) out

-- ---- the words in which the promises are put

-- what is in the key of a shortcut. A refused one has no key: what stands here for it is in no promise
abbrev pub key_by : List ℕ → Outcome Sections → Key
key_by s (got c n) = key_of s c
key_by s (refused f p) = record { unicode = false; target = no_part; arguments = no_part; workdir = no_part; environment = no_part }

unfoldable pub key_in : Profile → List ℕ → Key
unfolding shortcut
key_in profile s = key_by s (shortcut profile s)

-- bit 7 and all four parts, presence included, are equal
pub record SameParts (k l : Key) : Type 0 where
  pub unicode : k.unicode ≡ l.unicode
  pub target : k.target ≡ l.target
  pub arguments : k.arguments ≡ l.arguments
  pub workdir : k.workdir ≡ l.workdir
  pub environment : k.environment ≡ l.environment

-- the characters of the arguments, where there are any
abbrev pub arguments_of : List ℕ → Record → Part
arguments_of s r = part_if (string_there arguments_bit r.header.flags) (characters (strings_unicode r.header.flags) (bytes_at s (place_in r (string_slot arguments_bit))))
