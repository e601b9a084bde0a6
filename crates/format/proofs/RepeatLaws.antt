-- Reading refuses with TWICE, or answers as it would without the rule that a known signature stands once.
use mathlib.Core.List.{List, [], ◌∷◌}
use mathlib.Core.Bool.{Bool, true, false, cond}
use Prim.Native.Nat.{ℕ, zero, suc, ◌+◌, ◌-◌}
use lib.ListN.{length, drop}
use lib.Dec.{leb, eqb}
use Rattle.format.specs.declared.Profile.{Profile}
use Rattle.format.specs.declared.Fault.TheVariants.{Long as LONG, Trail as TRAIL, Twice as TWICE}
use Rattle.format.specs.declared.Spot.{Spot}
use Rattle.format.specs.Tests.{◌else◌at◌, section, no_section, spot_at, tests, Outcome, got, refused, Reader, and_then, chain, no_place}
use Rattle.format.specs.Presence.{items_there, info_there, name_bit, relative_bit, workdir_bit, arguments_bit, icon_bit}
use Rattle.format.specs.Header.{header}
use Rattle.format.specs.Items.{items}
use Rattle.format.specs.Info.{info, no_info}
use Rattle.format.specs.Blocks.{slot_at, block_size, Standing, a_block, a_terminal, block, block_step, once, follow, blocks_from, blocks}
use Rattle.format.specs.Shortcut.{most, found, section_if, string_section, Sections, tail, sections, shortcut}
use Rattle.format.specs.Steps.Repeats as repeats

-- the first is a pair's refusal, or both are one
pub data Kept {A : Type 0} : Outcome A → Outcome A → Type 0 where
  same : {o : Outcome A} → Kept o o
  twice : {w : Spot} {o : Outcome A} → Kept (refused TWICE w) o

-- ---- the walk

Kept-follow : (t : Outcome Standing) {o r : Outcome (List ℕ)} → Kept o r → Kept (follow t o) (follow t r)
Kept-follow t same = same
Kept-follow (got a_block n) twice = twice
Kept-follow (got a_terminal n) twice = same
Kept-follow (refused f w) twice = same

pub Kept-walk : (before : List ℕ) (p k : ℕ) (s : List ℕ) → Kept (blocks_from before p k s) (repeats.blocks_from p k s)
unfolding blocks_from repeats.blocks_from
Kept-walk before p zero [] = same
Kept-walk before p zero (a ∷ l) =
    Kept-follow (block_step p (a ∷ l)) (tested (once before (slot_at (a ∷ l))) (Kept-walk (slot_at (a ∷ l) ∷ before) (p + block_size (a ∷ l)) (block_size (a ∷ l) - 1) l))
  where
    tested : (b : Bool) {o r : Outcome (List ℕ)} → Kept o r → Kept (cond b o (refused TWICE (spot_at (block p) 4))) r
    tested true h = h
    tested false h = twice
Kept-walk before p (suc k) [] = same
Kept-walk before p (suc k) (a ∷ l) = Kept-walk before p k l

-- ---- one section after another

Kept-then : {A B : Type 0} {o r : Outcome A} (f : A → ℕ → Outcome B) → Kept o r → Kept (and_then o f) (and_then r f)
Kept-then f same = same
Kept-then f twice = twice

record KeptBy {A : Type 0} (P Q : Reader A) : Type 0 where
  kept : (p : ℕ) (s : List ℕ) → Kept (P p s) (Q p s)

kept_found : {A : Type 0} {P Q : Reader A} → KeptBy P Q → KeptBy (found P) (found Q)
kept_found h = record { kept = λ p s. Kept-then _ (h.kept p s) }

-- what is read first is read alike
kept_chain : {A B : Type 0} (P : Reader A) {Q R : A → Reader B} → ((a : A) → KeptBy (Q a) (R a)) → KeptBy (chain P Q) (chain P R)
kept_chain {A = A} {B = B} P {Q} {R} h = record { kept = λ p s. go p s (P p s) }
  where
    go : (p : ℕ) (s : List ℕ) (o : Outcome A)
        → Kept {A = A × B} (and_then o (λ a n. and_then (Q a (p + n) (drop n s)) (λ b m. got (a, b) (n + m)))) (and_then o (λ a n. and_then (R a (p + n) (drop n s)) (λ b m. got (a, b) (n + m))))
    go p s (got a n) = Kept-then _ ((h a).kept (p + n) (drop n s))
    go p s (refused f w) = same

kept_tail : (profile : Profile) (flags : ℕ) → KeptBy (tail profile flags) (repeats.tail profile flags)
kept_tail profile flags =
    kept_chain (section_if (items_there flags) no_place items) (λ a.
    kept_chain (section_if (info_there flags) no_info (info profile)) (λ b.
    kept_chain (string_section flags name_bit) (λ c.
    kept_chain (string_section flags relative_bit) (λ d.
    kept_chain (string_section flags workdir_bit) (λ e.
    kept_chain (string_section flags arguments_bit) (λ f.
    kept_chain (string_section flags icon_bit) (λ g.
    kept_found {P = blocks} {Q = repeats.blocks} (record { kept = λ p s. Kept-walk [] p 0 s }))))))))

-- every file: refused with TWICE, or with the sections, the fault and the field of before
pub twice_or_same : (profile : Profile) (s : List ℕ) → Kept (shortcut profile s) (repeats.shortcut profile s)
unfolding sections shortcut repeats.sections repeats.shortcut
twice_or_same profile s = go (leb (length s) most) ((kept_chain (found (header profile)) (λ h. kept_tail profile h.read.flags)).kept 0 s)
  where
    ends : Sections → ℕ → Outcome Sections
    ends c n = tests (section 9 (n - 4)) (eqb n (length s) else TRAIL at 4 ∷ []) (got c n)

    go : (b : Bool) {o r : Outcome Sections} → Kept o r → Kept (cond b (and_then o ends) (refused LONG (spot_at no_section most))) (cond b (and_then r ends) (refused LONG (spot_at no_section most)))
    go true h = Kept-then ends h
    go false h = same
