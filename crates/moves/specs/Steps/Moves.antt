-- The two moves as one: u tells the way, true to Unicode. And the record that has the lengths of the moved contents.
use Rattle.std.specs.Prelude.{ℕ, ◌+◌, ◌-◌, ◌*◌, ◌/◌, ◌≤◌, ◌<◌, ◌≡◌, List, [], ◌∷◌, Bool, true, false, not, ◌&&◌, ◌||◌, cond, length, get_or, eqb}
use Rattle.octets.specs.Numbers.{Bytes}
use Rattle.format.specs.declared.Place.{Place}
use Rattle.format.specs.declared.Profile.{Profile}
use Rattle.format.specs.declared.Record.{Record}
use Rattle.format.specs.Tests.{Outcome, place, no_place}
use Rattle.format.specs.Presence.{info_there, name_bit, relative_bit, workdir_bit, arguments_bit, icon_bit, strings_unicode}
use Rattle.format.specs.Shortcut.{most}
use Rattle.format.specs.Bodies.{items_slot, label_slot, local_slot, net_slot, device_slot, net_unicode_slot, device_unicode_slot, suffix_slot, local_unicode_slot, suffix_unicode_slot, string_slot, blocks_slot, further_slot, place_in}
use Rattle.format.specs.Contents.{Contents, bytes_at, body_in}
use Rattle.format.specs.Demands.{Accepts}
use Rattle.format.specs.Steps.Lengths.{written_length}
use Rattle.format.specs.Codepage.{to_units, to_bytes, all_assigned, all_in_table, is_translation}
use Rattle.format.specs.Moving.{gains, maps_to_unicode, maps_to_bytes, with_flags, with_long, in_unicode, in_bytes, to_unicode, to_byte_strings}

abbrev pub translate : Bool → List ℕ → List ℕ
translate true = to_units
translate false = to_bytes

-- how many bytes n bytes become
abbrev pub translated_size : Bool → ℕ → ℕ
translated_size true n = 2 * n
translated_size false n = n / 2

abbrev pub translatable : Bool → List ℕ → Bool
translatable true = all_assigned
translatable false = all_in_table

-- the three tests that decide, each by itself
abbrev pub asked : Bool → ℕ → Bool
asked true flags = not (strings_unicode flags)
asked false flags = strings_unicode flags

abbrev pub texts_map : Bool → Contents → Bool
texts_map true c = not (gains c) || all_assigned (body_in c local_slot) && all_assigned (body_in c suffix_slot)
texts_map false c =
    not c.link.long || is_translation (body_in c local_slot) (body_in c local_unicode_slot) && is_translation (body_in c suffix_slot) (body_in c suffix_unicode_slot)

abbrev pub maps : Bool → Contents → Bool
maps true = maps_to_unicode
maps false = maps_to_bytes

-- on the way home the head has no further bytes
abbrev pub head_fits : Bool → Record → Bool
head_fits u r = u || eqb (place_in r further_slot).len 0

abbrev pub moved : Bool → Contents → Contents
moved true = in_unicode
moved false = in_bytes

abbrev pub call : Profile → Bool → List ℕ → ℕ → Outcome (List ℕ)
call profile true = to_unicode profile
call profile false = to_byte_strings profile

-- ---- the record

-- a translated text's length, at the place where it is translated from
abbrev pub moved_place : Bool → Place → Place
moved_place true p = place p.at (2 * p.len)
moved_place false p = place p.at (p.len / 2)

abbrev pub gained : Record → Bool
gained r = info_there r.header.flags && not r.link.long

-- of a Unicode text of LinkInfo, beside the byte text at p
abbrev pub unicode_place : Bool → Bool → Place → Place → Place
unicode_place true gain p old = cond gain (moved_place true p) old
unicode_place false gain p old = no_place

abbrev pub moved_flags : Bool → ℕ → ℕ
moved_flags true flags = flags + 0x80
moved_flags false flags = flags - 0x80

abbrev pub moved_long : Bool → Record → Bool
moved_long true r = gained r || r.link.long
moved_long false r = false

abbrev pub in_row : List Place → ℕ → Place
in_row ps k = get_or ps k no_place

unfoldable pub moved_places : Bool → Bool → List Place → List Place
moved_places u gain ps =
    in_row ps items_slot
    ∷ in_row ps label_slot
    ∷ in_row ps local_slot
    ∷ in_row ps net_slot
    ∷ in_row ps device_slot
    ∷ in_row ps net_unicode_slot
    ∷ in_row ps device_unicode_slot
    ∷ in_row ps suffix_slot
    ∷ unicode_place u gain (in_row ps local_slot) (in_row ps local_unicode_slot)
    ∷ unicode_place u gain (in_row ps suffix_slot) (in_row ps suffix_unicode_slot)
    ∷ moved_place u (in_row ps (string_slot name_bit))
    ∷ moved_place u (in_row ps (string_slot relative_bit))
    ∷ moved_place u (in_row ps (string_slot workdir_bit))
    ∷ moved_place u (in_row ps (string_slot arguments_bit))
    ∷ moved_place u (in_row ps (string_slot icon_bit))
    ∷ in_row ps blocks_slot
    ∷ in_row ps further_slot
    ∷ []

unfoldable pub moved_record : Bool → Record → Record
unfolding moved_places
moved_record u r = record {
  header = with_flags (moved_flags u r.header.flags) r.header;
  link = with_long (moved_long u r) r.link;
  places = moved_places u (gained r) r.places;
}

-- ---- what is asked on the way

-- flags and lengths with which no sum can wrap
pub record Few (ps : List Place) : Type 0 where
  pub slot : (k : ℕ) → (in_row ps k).len ≤ 65536

pub record Lengths (u : Bool) (r : Record) : Type 0 where
  pub few : Few r.places
  pub flags : r.header.flags ≤ 0x7FFFFFF
  pub set : u ≡ false → 0x80 ≤ r.header.flags

-- every body lies in the shortcut d, absent ones too, since reading puts zeros there
pub record Inside (d : List ℕ) (ps : List Place) : Type 0 where
  pub slot : (k : ℕ) → (in_row ps k).at + (in_row ps k).len ≤ length d

-- on the way home each unit of StringData is in the table
pub record Known (u : Bool) (d : List ℕ) (ps : List Place) : Type 0 where
  pub slot : (k : ℕ) → 10 ≤ k → k < 15 → u ≡ false → all_in_table (bytes_at d (in_row ps k)) ≡ true

-- the moved form has room in out and is no longer than a shortcut can be
pub record Going (u : Bool) (d out : List ℕ) (r : Record) : Type 0 where
  pub inside : Inside d r.places
  pub known : Known u d r.places
  pub few : written_length (moved_record u r) ≤ most
  pub room : written_length (moved_record u r) ≤ length out

-- the record r was read from the shortcut d
pub record ReadFrom (profile : Profile) (d : List ℕ) (r : Record) : Type 0 where
  pub bytes : Bytes d
  pub accepted : Accepts profile d r
