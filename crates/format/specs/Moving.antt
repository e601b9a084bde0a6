-- FORMAT: Moving. A shortcut of byte strings as one of Unicode, and home again: when it can be done, the contents that it has then, and the calls.
use Rattle.std.specs.Prelude.{ℕ, zero, suc, ◌+◌, ◌-◌, ◌≡◌, List, [], ◌∷◌, ◌++◌, map, Bool, true, false, not, ◌&&◌, ◌||◌, cond, length, leb, Ok}
use Rattle.octets.specs.Numbers.{Bytes}
use Rattle.octets.specs.Parts.{put}
use Rattle.format.specs.declared.Profile.{Profile}
use Rattle.format.specs.declared.Header.{Header}
use Rattle.format.specs.declared.Link.{Link}
use Rattle.format.specs.declared.Record.{Record}
use Rattle.format.specs.declared.Fault.TheVariants.{NoMap as NOMAP, Unwritable as UNWRITABLE, Room as ROOM}
use Rattle.format.specs.Tests.{Outcome, got, ◌else◌at◌, no_section, tests, and_then}
use Rattle.format.specs.Presence.{info_there, name_bit, strings_unicode}
use Rattle.format.specs.Shortcut.{shortcut, record_of, verdict_of}
use Rattle.format.specs.Bodies.{local_slot, suffix_slot, local_unicode_slot, suffix_unicode_slot, string_slot, blocks_slot, further_slot}
use Rattle.format.specs.Contents.{Contents, body_in, contents}
use Rattle.format.specs.Writing.{every, canonical, writable, output_of}
use Rattle.format.specs.Target.{target}
use Rattle.format.specs.Key.{Part, no_part, some_part, Key, key_in}
use Rattle.format.specs.Demands.{Accepts}
use Rattle.format.specs.Codepage.{to_units, to_bytes, all_assigned, all_in_table, is_translation}
use Rattle.format.specs.Verdicts.{Verdict}

-- ---- what is moved

-- n bodies from slot k on
abbrev pub bodies_from : ℕ → ℕ → Contents → List (List ℕ)
bodies_from k zero c = []
bodies_from k (suc n) c = body_in c k ∷ bodies_from (k + 1) n c

-- StringData
abbrev pub strings : Contents → List (List ℕ)
strings c = bodies_from (string_slot name_bit) 5 c

abbrev pub flags_of : Contents → ℕ
flags_of c = c.header.flags

-- LinkInfo gains its two Unicode texts if its head was short
abbrev pub gains : Contents → Bool
gains c = info_there (flags_of c) && not c.link.long

-- ---- what has to hold, else NOMAP

-- flag bit 7 is clear, and each byte that will be translated is assigned
abbrev pub maps_to_unicode : Contents → Bool
maps_to_unicode c =
    every
    (not (strings_unicode (flags_of c))
    ∷ every (map all_assigned (strings c))
    ∷ (not (gains c) || all_assigned (body_in c local_slot) && all_assigned (body_in c suffix_slot))
    ∷ [])

-- flag bit 7 is set, each unit of StringData is in the table, and the two texts that will be dropped equal the translation
abbrev pub maps_to_bytes : Contents → Bool
maps_to_bytes c =
    every
    (strings_unicode (flags_of c)
    ∷ every (map all_in_table (strings c))
    ∷ (not c.link.long || is_translation (body_in c local_slot) (body_in c local_unicode_slot) && is_translation (body_in c suffix_slot) (body_in c suffix_unicode_slot))
    ∷ [])

-- ---- the contents afterwards

abbrev pub with_flags : ℕ → Header → Header
with_flags flags h = record {
  flags = flags;
  attributes = h.attributes;
  creation = h.creation;
  access = h.access;
  write = h.write;
  file_size = h.file_size;
  icon_index = h.icon_index;
  command = h.command;
  hotkey = h.hotkey;
}

abbrev pub with_long : Bool → Link → Link
with_long long l = record {
  flags = l.flags;
  long = long;
  drive = l.drive;
  serial = l.serial;
  label_unicode = l.label_unicode;
  network_flags = l.network_flags;
  provider = l.provider;
  network_unicode = l.network_unicode;
}

-- with these flags, this head, these two Unicode texts and StringData translated; all else stays
abbrev pub moved_to : ℕ → Bool → List ℕ → List ℕ → (List ℕ → List ℕ) → Contents → Contents
moved_to flags long local_unicode suffix_unicode translate c = record {
  header = with_flags flags c.header;
  link = with_long long c.link;
  bodies = bodies_from 0 local_unicode_slot c ++ (local_unicode ∷ suffix_unicode ∷ map translate (strings c) ++ bodies_from blocks_slot 2 c);
}

-- flag bit 7 is the number 0x80
unfoldable pub in_unicode : Contents → Contents
in_unicode c =
    moved_to (flags_of c + 0x80) (gains c || c.link.long)
    (cond (gains c) (to_units (body_in c local_slot)) (body_in c local_unicode_slot))
    (cond (gains c) (to_units (body_in c suffix_slot)) (body_in c suffix_unicode_slot))
    to_units c

-- the two Unicode texts are dropped, and the head is short; further bytes stay, so that a head which had some is unwritable now
unfoldable pub in_bytes : Contents → Contents
in_bytes c = moved_to (flags_of c - 0x80) false [] [] to_bytes c

-- ---- the calls. Refusals, after reading's: 16, 11, 12; the writer makes the result

unfoldable pub moving : Profile → Bool → Contents → ℕ → Outcome (List ℕ)
unfolding canonical writable
moving profile maps c room =
    let w = canonical c in
    tests no_section (maps else NOMAP at 0 ∷ writable profile c else UNWRITABLE at 0 ∷ leb (length w) room else ROOM at 0 ∷ []) (got w (length w))

unfoldable pub to_unicode : Profile → List ℕ → ℕ → Outcome (List ℕ)
unfolding shortcut contents in_unicode moving
to_unicode profile s room = and_then (shortcut profile s) (λ c n. let before = contents s (record_of c) in moving profile (maps_to_unicode before) (in_unicode before) room)

unfoldable pub to_byte_strings : Profile → List ℕ → ℕ → Outcome (List ℕ)
unfolding shortcut contents in_bytes moving
to_byte_strings profile s room = and_then (shortcut profile s) (λ c n. let before = contents s (record_of c) in moving profile (maps_to_bytes before) (in_bytes before) room)

-- the answer, and the output buffer afterwards; the room is the buffer's length
unfoldable pub to_unicode_answer : Profile → List ℕ → List ℕ → Verdict
unfolding to_unicode
to_unicode_answer profile s out = verdict_of (to_unicode profile s (length out))

unfoldable pub to_unicode_output : Profile → List ℕ → List ℕ → List ℕ
unfolding to_unicode output_of
to_unicode_output profile s out = output_of (to_unicode profile s (length out)) out

unfoldable pub to_bytes_answer : Profile → List ℕ → List ℕ → Verdict
unfolding to_byte_strings
to_bytes_answer profile s out = verdict_of (to_byte_strings profile s (length out))

unfoldable pub to_bytes_output : Profile → List ℕ → List ℕ → List ℕ
unfolding to_byte_strings output_of
to_bytes_output profile s out = output_of (to_byte_strings profile s (length out)) out

-- ---- the words in which the promises are put

-- what the request does not name: the header but for its flags, LinkInfo's numbers and kinds but for its head, the bodies but for its two Unicode texts and StringData
pub record Stays (c m : Contents) : Type 0 where
  pub header : with_flags 0 m.header ≡ with_flags 0 c.header
  pub link : with_long false m.link ≡ with_long false c.link
  pub bodies : bodies_from 0 local_unicode_slot m ≡ bodies_from 0 local_unicode_slot c
  pub blocks : body_in m blocks_slot ≡ body_in c blocks_slot
  pub further : body_in m further_slot ≡ body_in c further_slot

abbrev pub translated_part : (List ℕ → List ℕ) → Part → Part
translated_part translate no_part = no_part
translated_part translate (some_part w) = some_part (translate w)

-- flag bit 7 is now this, arguments and working directory are translated, and the rest of the key is as before
pub record KeyMoved (set : Bool) (translate : List ℕ → List ℕ) (k l : Key) : Type 0 where
  pub unicode : l.unicode ≡ set
  pub target : l.target ≡ k.target
  pub arguments : l.arguments ≡ translated_part translate k.arguments
  pub workdir : l.workdir ≡ translated_part translate k.workdir
  pub environment : l.environment ≡ k.environment

-- the shortcut s with the record r was moved into the lent buffer out: n bytes, which made it x
pub record Moved (profile : Profile) (move : Contents → Contents) (set : Bool) (translate : List ℕ → List ℕ) (s : List ℕ) (r : Record) (out : List ℕ) (n : ℕ) (x : List ℕ) : Type 0 where
  pub form : List ℕ
  pub bytes : Bytes form
  pub long : n ≡ length form
  pub output : x ≡ put out 0 form
  -- what was written is accepted, with what the request names moved and all else as it was
  pub held : Record
  pub accepted : Accepts profile form held
  pub is : contents form held ≡ move (contents s r)
  pub stays : Stays (contents s r) (contents form held)
  -- its target text is the same, into every room, and its key changes as it has to
  pub target : (room : ℕ) → target profile form room ≡ target profile s room
  pub key : KeyMoved set translate (key_in profile s) (key_in profile form)

-- this of every shortcut s that is moved: v is the answer, x the buffer at the end
abbrev pub MovesToUnicode : Profile → List ℕ → List ℕ → Verdict → List ℕ → Type 0
MovesToUnicode profile s out v x = (r : Record) (n : ℕ) → Accepts profile s r → v ≡ Ok n → Moved profile in_unicode true to_units s r out n x

abbrev pub MovesToBytes : Profile → List ℕ → List ℕ → Verdict → List ℕ → Type 0
MovesToBytes profile s out v x = (r : Record) (n : ℕ) → Accepts profile s r → v ≡ Ok n → Moved profile in_bytes false to_bytes s r out n x
