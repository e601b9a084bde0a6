-- What the first phase answers, and what is known of a shortcut that it accepts.
use Rattle.std.specs.Prelude.{ℕ, ◌+◌, ◌-◌, ◌≡◌, List, map, cond, length, take, drop, leb, Result, Ok, Err}
use Rattle.format.specs.declared.Profile.{Profile}
use Rattle.format.specs.declared.Record.{Record}
use Rattle.format.specs.declared.Refusal.{Refusal}
use Rattle.format.specs.Tests.{Outcome, got, refused}
use Rattle.format.specs.Verdicts.{Verdict, refused_at}
use Rattle.format.specs.Header.{header}
use Rattle.format.specs.Blocks.{blocks}
use Rattle.format.specs.Bodies.{place_in, blocks_slot}
use Rattle.format.specs.Numbers.{number_of}
use Rattle.format.specs.Steps.Firsts.{firsts}
use Rattle.format.specs.Steps.Answers.{refusal, read_from, Answers}
use Rattle.format.specs.Shortcut.{most, Sections, shortcut, reading, no_record}
use Rattle.format.specs.Demands.{Accepts}
use Rattle.blocks.specs.Steps.Walk.{no_firsts}
use Rattle.info.specs.Steps.Found.{no_lengths}
use Rattle.reader.specs.declared.SectionEnds.{SectionEnds}
use Rattle.reader.specs.Steps.EachSection.{given, lengths_from, firsts_from}

-- ---- where the sections end

-- each section is as long as it was found, one after another; an absent one has no bytes
abbrev pub ends_in : Sections → SectionEnds
ends_in c =
    let (header, (items, (info, (name, (relative, (workdir, (arguments, (icon, blocks)))))))) = c in
    let items_end = header.len + items.len in
    let info_end = items_end + info.len in
    let name_end = info_end + name.len in
    let relative_end = name_end + relative.len in
    let workdir_end = relative_end + workdir.len in
    let arguments_end = workdir_end + arguments.len in
    record {
      items = items_end;
      info = info_end;
      name = name_end;
      relative = relative_end;
      workdir = workdir_end;
      arguments = arguments_end;
      icon = arguments_end + icon.len;
    }

-- an accepted shortcut by where its sections end
abbrev pub outlined : Outcome Sections → Result SectionEnds Refusal
outlined (got c n) = Ok (ends_in c)
outlined (refused f q) = Err (refusal f q)

unfoldable pub outline : Profile → List ℕ → Result SectionEnds Refusal
unfolding shortcut
outline profile s = outlined (shortcut profile s)

-- ---- the two rows, of refused shortcuts too

unfoldable pub lengths_read : Profile → List ℕ → List ℕ
lengths_read profile s =
    cond (leb (length s) most) (given (read_from 0 (header profile 0 s)) (λ h. lengths_from profile s h.0 h.1) no_lengths) no_lengths

unfoldable pub firsts_read : Profile → List ℕ → List ℕ
firsts_read profile s =
    cond (leb (length s) most) (given (read_from 0 (header profile 0 s)) (λ h. firsts_from profile s h.0 h.1) no_firsts) no_firsts

-- ---- what is known of an accepted shortcut

-- s is accepted, its sections end at e, and LinkInfo's texts have these lengths
pub record Whole (profile : Profile) (s : List ℕ) (e : SectionEnds) (texts : List ℕ) : Type 0 where
  pub ends : outline profile s ≡ Ok e
  pub lengths : texts ≡ lengths_read profile s

-- LinkInfo's own bytes
abbrev pub info_own : List ℕ → SectionEnds → List ℕ
info_own s e = take (e.info - e.items) (drop e.items s)

-- the lengths of LinkInfo's texts, by their slots
unfoldable pub lengths_in : Record → List ℕ
lengths_in r = map (λ b. b.len) (take 9 (drop 1 r.places))

-- the row is that of the blocks which the record r holds
abbrev pub FirstsOf : List ℕ → Record → List ℕ → Type 0
FirstsOf s r row =
    (lengths : List ℕ) (n : ℕ) → blocks (place_in r blocks_slot).at (drop (place_in r blocks_slot).at s) ≡ got lengths n
    → row ≡ firsts s (place_in r blocks_slot).at lengths

-- what the answer o tells of the reading of s, with the two rows beside it
pub record Told (profile : Profile) (s : List ℕ) (o : Result SectionEnds Refusal) (texts row : List ℕ) : Type 0 where
  pub whole : (e : SectionEnds) → o ≡ Ok e → Whole profile s e texts
  pub accepted : (e : SectionEnds) → o ≡ Ok e → Accepts profile s (reading profile s).held
  pub lengths : (e : SectionEnds) → o ≡ Ok e → texts ≡ lengths_in (reading profile s).held
  pub noted : (e : SectionEnds) → o ≡ Ok e → FirstsOf s (reading profile s).held row
  pub off : (r : Refusal) → o ≡ Err r → shortcut profile s ≡ refused r.fault r.spot
  pub stopped : (r : Refusal) → o ≡ Err r → reading profile s ≡ record { verdict = refused_at r.fault r.spot.position; held = no_record }

-- n is the shortcut's length
abbrev pub next_verdict : ℕ → Result SectionEnds Refusal → Verdict
next_verdict n (Ok e) = Ok n
next_verdict n (Err r) = refused_at r.fault r.spot.position

-- ---- numbers and values of the answers

unfoldable pub next_number : Result SectionEnds Refusal → ℕ
next_number (Ok e) = 0
next_number (Err r) = number_of r.fault

-- where the sections end, n for all of them, or the position of a refusal
unfoldable pub next_value : ℕ → Result SectionEnds Refusal → ℕ
next_value n (Ok e) = n
next_value n (Err r) = r.spot.position

abbrev pub OutlineAnswer : Profile → List ℕ → Result SectionEnds Refusal → Type 0
OutlineAnswer profile s r = Answers next_number (next_value (length s)) 0 (shortcut profile s) (outline profile s) r
