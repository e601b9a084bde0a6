-- The steps that the reader takes: each section from where the one before it ended, unless that was refused.
use Rattle.std.specs.Prelude.{ℕ, ◌+◌, ◌-◌, List, Bool, cond, length, drop, eqb, Result, Ok, Err}
use Rattle.octets.specs.declared.Cursor.{Cursor}
use Rattle.format.specs.declared.Profile.{Profile}
use Rattle.format.specs.declared.Fault.TheVariants.{Trail as TRAIL}
use Rattle.format.specs.declared.Header.{Header}
use Rattle.format.specs.declared.Refusal.{Refusal}
use Rattle.format.specs.Tests.{section, spot_at}
use Rattle.format.specs.Presence.{items_there, info_there, name_bit, relative_bit, workdir_bit, arguments_bit, icon_bit, string_there, strings_unicode}
use Rattle.format.specs.Items.{items}
use Rattle.format.specs.Strings.{string}
use Rattle.format.specs.Steps.Answers.{refusal, read_from}
use Rattle.blocks.specs.Steps.Walk.{no_firsts, blocks_at, blocks_firsts}
use Rattle.info.specs.Steps.Found.{no_lengths, text_lengths}
use Rattle.info.specs.Steps.Taken.{info_at, info_held}
use Rattle.reader.specs.declared.SectionEnds.{SectionEnds}

-- what comes after a step; a refusal goes through
abbrev pub go_on : {A B : Type 0} → Result A Refusal → (A → Result B Refusal) → Result B Refusal
go_on (Ok a) g = g a
go_on (Err r) g = Err r

-- what a step that is not refused gives; d after a refusal
abbrev pub given : {A B : Type 0} → Result A Refusal → (A → B) → B → B
given (Ok a) g d = g a
given (Err r) g d = d

-- the cursor after a section
abbrev pub after : {A : Type 0} → Result (A × Cursor) Refusal → Result Cursor Refusal
after (Ok x) = Ok x.1
after (Err r) = Err r

-- ---- a section that is there or not

abbrev pub items_on : List ℕ → Bool → Cursor → Result Cursor Refusal
items_on s present c = cond present (after (read_from c.at (items c.at (drop c.at s)))) (Ok c)

-- k is the string's number in the listing
abbrev pub string_on : List ℕ → Bool → ℕ → Bool → Cursor → Result Cursor Refusal
string_on s present k unicode c = cond present (after (read_from c.at (string k unicode c.at (drop c.at s)))) (Ok c)

abbrev pub info_on : Profile → List ℕ → Bool → Cursor → Result Cursor Refusal
info_on profile s present c = cond present (info_at profile s c.at) (Ok c)

-- the lengths of LinkInfo's texts
abbrev pub info_lengths : Profile → List ℕ → Bool → Cursor → List ℕ
info_lengths profile s present c = cond present (text_lengths (info_held profile s c.at)) no_lengths

-- ---- all of them

-- the terminal block ends at c: at the end of the shortcut, n, or bytes are left
abbrev pub ended_at : ℕ → SectionEnds → Cursor → Result SectionEnds Refusal
ended_at n e c = cond (eqb c.at n) (Ok e) (Err (refusal TRAIL (spot_at (section 9 (c.at - 4)) 4)))

-- the sections after the header
abbrev pub outline_from : Profile → List ℕ → Header → Cursor → Result SectionEnds Refusal
outline_from profile s h c =
    let f = h.flags in
    let u = strings_unicode f in
    go_on (items_on s (items_there f) c) (λ items.
    go_on (info_on profile s (info_there f) items) (λ info.
    go_on (string_on s (string_there name_bit f) (name_bit + 1) u info) (λ name.
    go_on (string_on s (string_there relative_bit f) (relative_bit + 1) u name) (λ relative.
    go_on (string_on s (string_there workdir_bit f) (workdir_bit + 1) u relative) (λ workdir.
    go_on (string_on s (string_there arguments_bit f) (arguments_bit + 1) u workdir) (λ arguments.
    go_on (string_on s (string_there icon_bit f) (icon_bit + 1) u arguments) (λ icon.
    go_on (after (blocks_at s icon.at))
    (ended_at (length s)
    (record {
      items = items.at;
      info = info.at;
      name = name.at;
      relative = relative.at;
      workdir = workdir.at;
      arguments = arguments.at;
      icon = icon.at;
    })))))))))

-- the row of lengths after them: zeros where LinkInfo is absent, refused, or not come to
abbrev pub lengths_from : Profile → List ℕ → Header → Cursor → List ℕ
lengths_from profile s h c = given (items_on s (items_there h.flags) c) (info_lengths profile s (info_there h.flags)) no_lengths

-- the row of signatures: zeros where the blocks are refused, or not come to
abbrev pub firsts_from : Profile → List ℕ → Header → Cursor → List ℕ
firsts_from profile s h c =
    let f = h.flags in
    let u = strings_unicode f in
    given (items_on s (items_there f) c) (λ items.
    given (info_on profile s (info_there f) items) (λ info.
    given (string_on s (string_there name_bit f) (name_bit + 1) u info) (λ name.
    given (string_on s (string_there relative_bit f) (relative_bit + 1) u name) (λ relative.
    given (string_on s (string_there workdir_bit f) (workdir_bit + 1) u relative) (λ workdir.
    given (string_on s (string_there arguments_bit f) (arguments_bit + 1) u workdir) (λ arguments.
    given (string_on s (string_there icon_bit f) (icon_bit + 1) u arguments) (λ icon.
    blocks_firsts s icon.at)
    no_firsts)
    no_firsts)
    no_firsts)
    no_firsts)
    no_firsts)
    no_firsts)
    no_firsts
