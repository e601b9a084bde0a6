-- FORMAT: Layout, Order of reading, The end. The whole shortcut: LONG first, then the sections in file order, TRAIL last.
use Rattle.std.specs.Prelude.{ℕ, ◌+◌, ◌-◌, List, [], ◌∷◌, ◌++◌, Bool, true, false, length, replicate, leb, eqb, pos, Result, Ok, Err}
use Rattle.format.specs.declared.Profile.{Profile}
use Rattle.format.specs.declared.Fault.TheVariants.{Long as LONG, Trail as TRAIL}
use Rattle.format.specs.declared.Place.{Place}
use Rattle.format.specs.declared.Header.{Header}
use Rattle.format.specs.declared.Info.{Info}
use Rattle.format.specs.declared.Link.{Link}
use Rattle.format.specs.declared.Record.{Record}
use Rattle.format.specs.declared.Reading.{Reading}
use Rattle.format.specs.declared.Refusal.{Refusal}
use Rattle.format.specs.Tests.{◌else◌at◌, section, no_section, tests, Outcome, got, refused, Reader, and_then, chain, ◌then◌, optional, place, no_place}
use Rattle.format.specs.Presence.{items_there, info_there, name_bit, relative_bit, workdir_bit, arguments_bit, icon_bit, string_there, strings_unicode}
use Rattle.format.specs.Header.{header}
use Rattle.format.specs.Items.{items}
use Rattle.format.specs.Info.{info, no_info, link_of, info_places}
use Rattle.format.specs.Strings.{string}
use Rattle.format.specs.Blocks.{blocks}
use Rattle.format.specs.Verdicts.{Verdict, refused_at}

-- the longest shortcut
abbrev pub most : ℕ
most = 65536

-- a section as it was found: whether it is there, its first byte, its length, and what was read
pub record Section (A : Type 0) : Type 0 where
  pub there : Bool
  pub start : ℕ
  pub len : ℕ
  pub read : A

abbrev pub absent : {A : Type 0} → A → Section A
absent d = record { there = false; start = 0; len = 0; read = d }

abbrev pub found : {A : Type 0} → Reader A → Reader (Section A)
found P p s = and_then (P p s) (λ a n. got (record { there = true; start = p; len = n; read = a }) n)

abbrev pub section_if : {A : Type 0} → Bool → A → Reader A → Reader (Section A)
section_if there d P = optional there (absent d) (found P)

-- a string by its flag bit k, its characters by bit 7; in the listing its number is one more
abbrev pub string_section : ℕ → ℕ → Reader (Section Place)
string_section flags k = section_if (string_there k flags) no_place (string (k + 1) (strings_unicode flags))

abbrev pub Tail : Type 0
Tail =
    Section Place
    × (Section Info × (Section Place × (Section Place × (Section Place × (Section Place × (Section Place × Section (List ℕ)))))))

-- the sections after the header, by its LinkFlags: items, LinkInfo, name, relative path, working directory, arguments, icon, blocks
abbrev pub tail : Profile → ℕ → Reader Tail
tail profile flags =
    section_if (items_there flags) no_place items
    then section_if (info_there flags) no_info (info profile)
    then string_section flags name_bit
    then string_section flags relative_bit
    then string_section flags workdir_bit
    then string_section flags arguments_bit
    then string_section flags icon_bit
    then found blocks

abbrev pub Sections : Type 0
Sections = Section Header × Tail

unfoldable pub sections : Profile → Reader Sections
sections profile = chain (found (header profile)) (λ h. tail profile h.read.flags)

abbrev pub blocks_of : Sections → Section (List ℕ)
blocks_of c = c.1.1.1.1.1.1.1.1

-- over 65,536 bytes: LONG; bytes after the terminal block: TRAIL, at the first of them
unfoldable pub shortcut : Profile → List ℕ → Outcome Sections
unfolding sections
shortcut profile s =
    tests no_section (leb (length s) most else LONG at most ∷ [])
    (and_then (sections profile 0 s) (λ c n. tests (section 9 (n - 4)) (eqb n (length s) else TRAIL at 4 ∷ []) (got c n)))

-- ---- the record that reading gives

abbrev pub sum : List ℕ → ℕ
sum [] = 0
sum (n ∷ ns) = n + sum ns

-- the blocks are a single body, from the first one's start to the terminal's
abbrev pub record_of : Sections → Record
record_of c =
    let (header, (items, (info, (name, (relative, (workdir, (arguments, (icon, blocks)))))))) = c in
    record {
      header = header.read;
      link = link_of info.read;
      places =
          items.read
          ∷ info_places info.read
          ++ (name.read ∷ relative.read ∷ workdir.read ∷ arguments.read ∷ icon.read ∷ place blocks.start (sum blocks.read) ∷ info.read.further ∷ []);
    }

abbrev pub no_header : Header
no_header = record {
  flags = 0;
  attributes = 0;
  creation = 0;
  access = 0;
  write = 0;
  file_size = 0;
  icon_index = pos 0;
  command = 0;
  hotkey = 0;
}

abbrev pub no_link : Link
no_link = link_of no_info

abbrev pub no_record : Record
no_record = record { header = no_header; link = no_link; places = replicate 17 no_place }

-- an accepted answer carries the length, a refusal its fault and position
abbrev pub verdict_of : {A : Type 0} → Outcome A → Verdict
verdict_of (got a n) = Ok n
verdict_of (refused f p) = refused_at f p.position

abbrev pub held_by : Outcome Sections → Record
held_by (got c n) = record_of c
held_by (refused f p) = no_record

unfoldable pub reading : Profile → List ℕ → Reading
unfolding shortcut
reading profile s = record { verdict = verdict_of (shortcut profile s); held = held_by (shortcut profile s) }

-- ---- where the fault stands

abbrev pub faulted_by : {A : Type 0} → Outcome A → Result ℕ Refusal
faulted_by (got a n) = Ok n
faulted_by (refused f w) = Err (record { fault = f; spot = w })

-- the verdict of reading with the section at fault, for a block the block's own start
unfoldable pub faulted : Profile → List ℕ → Result ℕ Refusal
unfolding shortcut
faulted profile s = faulted_by (shortcut profile s)
