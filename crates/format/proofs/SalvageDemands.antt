-- Salvage, proved of the definitions: how every call ends, when it gives LOST, and what comes back unchanged.
use mathlib.Core.Path.{◌≡◌, refl, sym, ap, ◌∙◌}
use mathlib.Core.List.{List, [], ◌∷◌, ◌++◌, append-nil}
use mathlib.Core.Logic.{◌↔◌}
use mathlib.Core.Bool.{Bool, true, false, ◌&&◌, cond}
use Prim.Native.Nat.{ℕ, ◌+◌, ◌-◌, ◌≤◌, ◌<◌}
use native.Mathlib.Omega.{arith}
use native.Mathlib.Nat.{zero-add}
use lib.ListN.{length, take, drop, length-append, length-take}
use lib.Seq.{length-take-le, take-take, take_at, take-length, drop_at}
use lib.Dec.{leb, eqb}
use borrow.Author.Tests.{leb-true, leb-false, le-leb, lt-leb, eqb-true, ne_eqb}
use Rattle.octets.specs.Numbers.{little}
use Rattle.octets.specs.Parts.{put}
use Rattle.octets.proofs.NumberLaws.{length-little}
use Rattle.format.specs.declared.Profile.TheVariants.{Strict}
use Rattle.format.specs.declared.Fault.{Fault}
use Rattle.format.specs.declared.Fault.TheVariants.{Long, Cut, Magic, Head, Items, Info, Piece, Block, Trail, Place, Unwritable, Room, NoTarget, Twice, Store, NoMap, Shelf, Entry, Lost as LostFault}
use Rattle.format.specs.declared.Spot.{Spot}
use Rattle.format.specs.declared.Record.{Record}
use Rattle.format.specs.declared.Rescue.{Rescue}
use Rattle.format.specs.Numbers.{number_of, answer_number}
use Rattle.format.specs.Tests.{◌else◌at◌, section, no_section, spot_at, tests, Outcome, got, refused, and_then}
use Rattle.format.specs.Blocks.{block_size}
use Rattle.format.specs.Shortcut.{most, Sections, sections, shortcut, verdict_of, reading, faulted_by, faulted}
use Rattle.format.specs.Writing.{output_of}
use Rattle.format.specs.Demands.{Accepts}
use Rattle.format.specs.Salvage.{at_block, mendable, up_to, before, nothing, refused_by, rescue_of, rescue, rescued, salvaging_by, salvaging, salvaged_by, salvage_verdict, salvage_answer, salvage_output, Saved, Lost, elsewhere, too_long, SalvageEnds, lost, no_room, saved}
use Rattle.format.proofs.Bools.{and-true, or-true, clash}
use Rattle.format.proofs.Chains.{no_true}
use Rattle.format.proofs.BlockLaws.{zero_alone}
use Rattle.format.proofs.AnswerLaws.{nowhere}
use Rattle.format.proofs.VerdictLaws.{same_fault}
use Rattle.format.proofs.AcceptedLaws.{accepted_Read, shortcut-Whole}
use Rattle.format.proofs.PositionDemands.{four_read, positions_small, starts_before}
use Rattle.format.proofs.MendLaws.{refused_elim, no_refusal, Mends-sections, Own-sections}
use Rattle.format.proofs.SalvageLaws as laws
use Rattle.format.specs.Verdicts.{Verdict, refused_at}
use Rattle.std.specs.Prelude.{Option, Some, None, Ok}

-- ---- why a shortcut is refused: too long, or its sections are, or bytes follow its terminal

data Broken (s : List ℕ) : Fault → Spot → Type 0 where
  long : Broken s Long (spot_at no_section most)
  damaged : {f : Fault} {w : Spot} → sections Strict 0 s ≡ refused f w → Broken s f w
  followed : (c : Sections) (n : ℕ) → length s ≤ most → sections Strict 0 s ≡ got c n → Broken s Trail (spot_at (section 9 (n - 4)) 4)

broken : (s : List ℕ) {f : Fault} {w : Spot} → shortcut Strict s ≡ refused f w → Broken s f w
unfolding shortcut
broken s {f} {w} e = go (leb (length s) most) refl (sections Strict 0 s) refl e
  where
    trailed : length s ≤ most → (c : Sections) (n : ℕ) → sections Strict 0 s ≡ got c n → (b : Bool)
        → ◌≡◌ {A = Outcome Sections} (cond b (got c n) (refused Trail (spot_at (section 9 (n - 4)) 4))) (refused f w) → Broken s f w
    trailed l c n i true e = no_refusal e
    trailed l c n i false e = refused_elim (Broken s) e (followed c n l i)

    go : (b : Bool) → leb (length s) most ≡ b → (r : Outcome Sections) → sections Strict 0 s ≡ r
        → ◌≡◌ {A = Outcome Sections} (cond b (and_then r (λ c n. tests (section 9 (n - 4)) (eqb n (length s) else Trail at 4 ∷ []) (got c n))) (refused Long (spot_at no_section most))) (refused f w) → Broken s f w
    go true l (got c n) i e = trailed (leb-true (length s) most l) c n i (eqb n (length s)) e
    go true l (refused x y) i e = refused_elim (Broken s) e (damaged i)
    go false l r i e = refused_elim (Broken s) e long

-- 9 is the number of TRAIL alone
pub nine : (f : Fault) → eqb (number_of f) 9 ≡ true → f ≡ Trail
unfolding number_of
nine Long e = no_true e
nine Cut e = no_true e
nine Magic e = no_true e
nine Head e = no_true e
nine Items e = no_true e
nine Info e = no_true e
nine Piece e = no_true e
nine Block e = no_true e
nine Trail e = refl
nine Place e = no_true e
nine Unwritable e = no_true e
nine Room e = no_true e
nine NoTarget e = no_true e
nine Twice e = no_true e
nine Store e = no_true e
nine NoMap e = no_true e
nine Shelf e = no_true e
nine Entry e = no_true e
nine LostFault e = no_true e

at_block_lem : (k : ℕ) → at_block k ≡ true → 8 ≤ k
at_block_lem k e = or-true (eqb k 8) (eqb k 9) e (λ q. omega (arith, eqb-true k 8 q)) (λ q. omega (arith, eqb-true k 9 q))

-- ---- what can be kept

-- by the outcome of reading
pub rescue_is : (s : List ℕ) (o : Outcome Sections) → shortcut Strict s ≡ o → rescue s ≡ rescue_of (faulted_by o)
unfolding rescue faulted
rescue_is s o e = rw e

-- o is what can be kept of s, which has this verdict
pub record Saves (s : List ℕ) (o : Option Rescue) (v : Verdict) : Type 0 where
  pub saves : (r : Rescue) → o ≡ Some r → (r.number ≡ answer_number v) × (length (rescued s r) ≤ most → Saved s r.kept (rescued s r))

zeros_end : (x : List ℕ) → block_size (drop (length x) (x ++ little 4 0)) < 4
zeros_end x = rw (drop_at x (little 4 0) (length x) refl) zero_alone

-- as many bytes as were there, and a terminal
pub with_terminal : (s : List ℕ) (k : ℕ) → k ≤ length s → length (take k s ++ little 4 0) ≡ k + 4
with_terminal s k h = length-append (take k s) (little 4 0) ∙ rw (length-take-le k s h, length-little)

module _ (s : List ℕ) where
  -- its own terminal ends it
  up_to_lem : (n : ℕ) (c : Sections) → sections Strict 0 s ≡ got c n → length (take n s ++ []) ≤ most → Saved s n (take n s ++ [])
  up_to_lem n c e l =
      let h : n ≤ length s = (Own-sections Strict).inside 0 s c n e in
      let k : length (take n s) ≡ n = length-take-le n s h in
      let z : take n s ++ [] ≡ take n s = append-nil (take n s) in
      let t : take n (take n s) ≡ take n s = take-take n n s (omega arith) in
      let i : sections Strict 0 (take n s) ≡ got c n = (Own-sections Strict).alike 0 s c n e (take n s) t (omega arith) in
      rw z (laws.saved s n (take n s) c (rw k i) (rw z at l) h t (omega arith))

  -- a zero terminal is put behind it
  ended : (k : ℕ) → k ≤ length s → ((t : List ℕ) → take k t ≡ take k s → k + 4 ≤ length t → block_size (drop k t) < 4 → (c : Sections) × (sections Strict 0 t ≡ got c (k + 4)))
      → length (take k s ++ little 4 0) ≤ most → Saved s k (take k s ++ little 4 0)
  ended k h f l =
      let n : length (take k s) ≡ k = length-take-le k s h in
      let t : List ℕ = take k s ++ little 4 0 in
      let m : length t ≡ k + 4 = with_terminal s k h in
      let p : take k t ≡ take k s = take_at (take k s) (little 4 0) k n in
      let (c, i) = f t p (omega arith) (rw n at (zeros_end (take k s))) in
      laws.saved s k t c (i ∙ ap (got c) (sym m)) l h p (omega arith)

  mended : {f : Fault} {w : Spot} → sections Strict 0 s ≡ refused f w → 8 ≤ w.section → length (take w.start s ++ little 4 0) ≤ most → Saved s w.start (take w.start s ++ little 4 0)
  mended e g l =
      let x = ((Mends-sections Strict).mends 0 s e).1 g in
      let b = x.is ∙ zero-add x.count in
      rw b (ended x.count x.within x.ends (rw b at l))

  -- ---- by the outcome of reading

  none : (v : Verdict) → Saves s nothing v
  none v = record { saves = λ r e. cc }

  one : {v : Verdict} (x : Rescue) → x.number ≡ answer_number v → (length (rescued s x) ≤ most → Saved s x.kept (rescued s x)) → Saves s (Some x) v
  one x n f = record { saves = λ r e. let q : r ≡ x = cc in rw q (n, f) }

  taken : (c : Sections) (n : ℕ) → shortcut Strict s ≡ got c n → Saves s (rescue_of (faulted_by (got c n))) (Ok n)
  unfolding rescue_of answer_number
  taken c n i = one (record { number = 0; kept = n; mended = false }) refl (up_to_lem n c (shortcut-Whole Strict s c n i).read)

  given : {f : Fault} {w : Spot} → Broken s f w → Saves s (rescue_of (faulted_by {A = Sections} (refused f w))) (refused_at f w.position)
  unfolding refused_by rescue_of answer_number number_of
  given long = none (refused_at Long most)
  given (followed c n l i) =
      let z : n - 4 + 4 ≡ n = omega (arith, four_read Strict s c n i) in
      rw z (one (record { number = 9; kept = n; mended = false }) refl (up_to_lem n c i))
  given {f} {w} (damaged i) = go (eqb (number_of f) 9) refl (mendable (number_of f) && at_block w.section) refl
    where
      go : (a : Bool) → eqb (number_of f) 9 ≡ a → (b : Bool) → (mendable (number_of f) && at_block w.section) ≡ b
          → Saves s (cond a (up_to (number_of f) (w.start + 4)) (cond b (before (number_of f) w.start) nothing)) (refused_at f w.position)
      go true e b h = absurd (((Mends-sections Strict).mends 0 s i).0 (nine f e))
      go false e true h = one (record { number = number_of f; kept = w.start; mended = true }) refl (mended i (at_block_lem w.section (and-true (mendable (number_of f)) (at_block w.section) h).1))
      go false e false h = none (refused_at f w.position)

  pub rescue-Saves : Saves s (rescue s) (reading Strict s).verdict
  unfolding reading
  rescue-Saves = go (shortcut Strict s) refl
    where
      go : (o : Outcome Sections) → shortcut Strict s ≡ o → Saves s (rescue s) (verdict_of (shortcut Strict s))
      go (got c n) i = rw (rescue_is s (got c n) i, i) (taken c n i)
      go (refused f w) i = rw (rescue_is s (refused f w) i, i) (given (broken s i))

-- ---- LOST

module _ (s : List ℕ) where
  -- what can be kept and is no longer than a shortcut
  abbrev pub fit : Option Rescue → Bool
  fit None = false
  fit (Some r) = leb (length (rescued s r)) most

  own_fits : (n : ℕ) → length s ≤ most → fit (up_to 0 n) ≡ true
  own_fits n h = le-leb (length (take n s ++ [])) most (omega (arith, length-append (take n s) [], length-take n s))

  -- a damaged one by its two tests
  abbrev damaged_rescue : Fault → Spot → Bool → Bool → Option Rescue
  damaged_rescue f w a b = cond a (up_to (number_of f) (w.start + 4)) (cond b (before (number_of f) w.start) nothing)

  start_within : {f : Fault} {w : Spot} → sections Strict 0 s ≡ refused f w → (mendable (number_of f) && at_block w.section) ≡ true → w.start ≤ length s
  start_within {f} {w} i h =
      let x = ((Mends-sections Strict).mends 0 s i).1 (at_block_lem w.section (and-true (mendable (number_of f)) (at_block w.section) h).1) in
      omega (arith, x.is, x.within)

  pub unfit_Lost : fit (rescue s) ≡ false → Lost s
  unfolding refused_by rescue_of number_of
  unfit_Lost h = go (shortcut Strict s) refl
    where
      by : (f : Fault) (w : Spot) → shortcut Strict s ≡ refused f w → sections Strict 0 s ≡ refused f w → (a : Bool) → eqb (number_of f) 9 ≡ a → (b : Bool) → (mendable (number_of f) && at_block w.section) ≡ b
          → fit (damaged_rescue f w a b) ≡ false → Lost s
      by f w i j true e b g z = absurd (((Mends-sections Strict).mends 0 s j).0 (nine f e))
      by f w i j false e true g z = too_long f w i e (omega (arith, leb-false (length (take w.start s ++ little 4 0)) most z, with_terminal s w.start (start_within j g)))
      by f w i j false e false g z = elsewhere f w i e g

      refusal : {f : Fault} {w : Spot} → shortcut Strict s ≡ refused f w → Broken s f w → fit (rescue_of (faulted_by {A = Sections} (refused f w))) ≡ false → Lost s
      refusal i long z = elsewhere Long (spot_at no_section most) i refl refl
      refusal {f} {w} i (damaged j) z = by f w i j (eqb (number_of f) 9) refl (mendable (number_of f) && at_block w.section) refl z
      refusal i (followed c n l j) z = clash (own_fits (n - 4 + 4) l) z

      go : (o : Outcome Sections) → shortcut Strict s ≡ o → Lost s
      go (got c n) i = clash (own_fits n (shortcut-Whole Strict s c n i).limit) (rw (rescue_is s (got c n) i) at h)
      go (refused f w) i = refusal i (broken s i) (rw (rescue_is s (refused f w) i) at h)

  Lost-unfit : Lost s → fit (rescue s) ≡ false
  unfolding refused_by rescue_of number_of
  Lost-unfit (elsewhere f w i e g) = rw (rescue_is s (refused f w) i, e, g)
  Lost-unfit (too_long f w i e h) = rw (rescue_is s (refused f w) i, e) (refusal (broken s i) (mendable (number_of f) && at_block w.section) refl h)
    where
      refusal : {f : Fault} {w : Spot} → Broken s f w → (b : Bool) → (mendable (number_of f) && at_block w.section) ≡ b → most < w.start + 4 → fit (cond b (before (number_of f) w.start) nothing) ≡ false
      refusal x false g h = refl
      refusal long true g h = no_true g
      refusal (followed c n l j) true g h = no_true g
      refusal {f} {w} (damaged j) true g h = lt-leb (length (take w.start s ++ little 4 0)) most (omega (arith, with_terminal s w.start (start_within j g)))

-- ---- what is kept is a beginning of the input, and no longer than a shortcut

abbrev pub kept_of : Option Rescue → ℕ
kept_of None = 0
kept_of (Some r) = r.kept

pub record Begins (s : List ℕ) (o : Option Rescue) : Type 0 where
  pub within : kept_of o ≤ length s
  pub few : kept_of o ≤ most

pub rescue-Begins : (s : List ℕ) → Begins s (rescue s)
unfolding refused_by rescue_of number_of
rescue-Begins s = go (shortcut Strict s) refl
  where
    none : Begins s nothing
    none = record { within = omega arith; few = omega arith }

    by : (f : Fault) (w : Spot) → shortcut Strict s ≡ refused f w → sections Strict 0 s ≡ refused f w → (a : Bool) → eqb (number_of f) 9 ≡ a → (b : Bool) → (mendable (number_of f) && at_block w.section) ≡ b
        → Begins s (damaged_rescue s f w a b)
    by f w i j true e b g = absurd (((Mends-sections Strict).mends 0 s j).0 (nine f e))
    by f w i j false e true g = record { within = start_within s j g; few = omega (arith, starts_before Strict s f w i, positions_small Strict s f w i) }
    by f w i j false e false g = none

    refusal : {f : Fault} {w : Spot} → shortcut Strict s ≡ refused f w → Broken s f w → Begins s (rescue_of (faulted_by {A = Sections} (refused f w)))
    refusal i long = none
    refusal {f} {w} i (damaged j) = by f w i j (eqb (number_of f) 9) refl (mendable (number_of f) && at_block w.section) refl
    refusal i (followed c n l j) =
        let h : n ≤ length s = (Own-sections Strict).inside 0 s c n j in
        let z : n - 4 + 4 ≡ n = omega (arith, four_read Strict s c n j) in
        record { within = omega arith; few = omega arith }

    go : (o : Outcome Sections) → shortcut Strict s ≡ o → Begins s (rescue s)
    go (got c n) i = let x = shortcut-Whole Strict s c n i in rw (rescue_is s (got c n) i) (record { within = omega (arith, x.all); few = omega (arith, x.all, x.limit) })
    go (refused f w) i = rw (rescue_is s (refused f w) i) (refusal i (broken s i))

-- ---- every call

module _ (s out : List ℕ) where
  abbrev ended_by : Option Rescue → Outcome (List ℕ)
  ended_by o = salvaging_by s o (length out)

  abbrev ending : List ℕ → Bool → Bool → Outcome (List ℕ)
  ending w a b = cond a (cond b (got w (length w)) (refused Room nowhere)) (refused LostFault nowhere)

  -- the result is accepted and has all that stands before the damage; kept and dropped add up; LOST and ROOM only as they must
  ends_by : (o : Option Rescue) → rescue s ≡ o → SalvageEnds s out (salvaged_by s o (ended_by o)) (output_of (ended_by o) out)
  unfolding output_of
  ends_by None e = lost (unfit_Lost s (rw e))
  ends_by (Some r) e = go (leb (length w) most) refl (leb (length w) (length out)) refl
    where
      w : List ℕ
      w = rescued s r

      go : (a : Bool) → leb (length w) most ≡ a → (b : Bool) → leb (length w) (length out) ≡ b → SalvageEnds s out (salvaged_by s (Some r) (ending w a b)) (output_of (ending w a b) out)
      go true l true q =
          let (i, f) = (rescue-Saves s).saves r e in
          let x = f (leb-true (length w) most l) in
          rw i (saved r.kept (length s - r.kept) w x (leb-true (length w) (length out) q) (omega (arith, x.within)))
      go true l false q = no_room r.kept w (((rescue-Saves s).saves r e).1 (leb-true (length w) most l)) (leb-false (length w) (length out) q)
      go false l b q = lost (unfit_Lost s (rw e l))

  pub salvage_ends : SalvageEnds s out (salvage_answer s out) (salvage_output s out)
  unfolding salvage_answer salvage_output salvaging
  salvage_ends = ends_by (rescue s) refl

  lost_by : (o : Option Rescue) → rescue s ≡ o → (salvage_verdict (salvaged_by s o (ended_by o)) ≡ refused_at LostFault 0) ↔ Lost s
  lost_by None e = ((λ z. unfit_Lost s (rw e)), λ x. refl)
  lost_by (Some r) e = go (leb (length w) most) refl (leb (length w) (length out))
    where
      w : List ℕ
      w = rescued s r

      go : (a : Bool) → leb (length w) most ≡ a → (b : Bool) → (salvage_verdict (salvaged_by s (Some r) (ending w a b)) ≡ refused_at LostFault 0) ↔ Lost s
      go true l true = ((λ z. absurd (let y : ◌≡◌ {A = ℕ} 0 1 = cc in omega arith)), λ x. clash (rw e l) (Lost-unfit s x))
      go true l false = ((λ z. absurd (let f = same_fault z in let y : ◌≡◌ {A = ℕ} 0 1 = cc in omega arith)), λ x. clash (rw e l) (Lost-unfit s x))
      go false l b = ((λ z. unfit_Lost s (rw e l)), λ x. refl)

  pub Lost-exactly : (salvage_verdict (salvage_answer s out) ≡ refused_at LostFault 0) ↔ Lost s
  unfolding salvage_answer salvaging
  Lost-exactly = lost_by (rescue s) refl

-- ---- what comes back as it was

-- what salvage says of n bytes kept that end with their own terminal
pub record Copies (s : List ℕ) (k n : ℕ) (out : List ℕ) : Type 0 where
  pub answer : salvage_answer s out ≡ Ok (record { len = n; number = k; kept = n; dropped = length s - n })
  pub output : salvage_output s out ≡ put out 0 (take n s)

copied : (s : List ℕ) (k n room : ℕ) → rescue s ≡ up_to k n → n ≤ length s → length s ≤ most → n ≤ room → salvaging s room ≡ got (take n s) n
unfolding salvaging
copied s k n room e h l g = rw (e, append-nil (take n s), length-take-le n s h, le-leb n most (omega arith), le-leb n room g)

copies : (s : List ℕ) (k n : ℕ) (out : List ℕ) → rescue s ≡ up_to k n → n ≤ length s → length s ≤ most → n ≤ length out → Copies s k n out
unfolding salvage_answer salvage_output output_of
copies s k n out e h l room =
    let i = copied s k n (length out) e h l room in
    record { answer = rw (i, e); output = ap (λ (o : Outcome (List ℕ)). output_of o out) i }

-- what is accepted is copied, and nothing of it dropped
pub accepted_copied : (s : List ℕ) (r : Record) (out : List ℕ) → Accepts Strict s r → length s ≤ length out
    → (salvage_answer s out ≡ Ok (record { len = length s; number = 0; kept = length s; dropped = 0 })) × (salvage_output s out ≡ put out 0 s)
unfolding Accepts rescue_of
accepted_copied s r out e h =
    let x = accepted_Read Strict s r (length s) e in
    let y = copies s 0 (length s) out (rescue_is s (got x.sections (length s)) x.is) (omega arith) (shortcut-Whole Strict s x.sections (length s) x.is).limit h in
    let z : length s - length s ≡ 0 = omega arith in
    (y.answer ∙ ap (λ (d : ℕ). Ok (record { len = length s; number = 0; kept = length s; dropped = d })) z, y.output ∙ ap (put out 0) (take-length s))

-- so what was saved is copied when it is salvaged again
pub Saved-copied : (s : List ℕ) (k : ℕ) (w : List ℕ) → Saved s k w → (out : List ℕ) → length w ≤ length out
    → (salvage_answer w out ≡ Ok (record { len = length w; number = 0; kept = length w; dropped = 0 })) × (salvage_output w out ≡ put out 0 w)
Saved-copied s k w x out h = accepted_copied w x.held out x.accepted h

-- an accepted shortcut with bytes behind it, of at most 65,536 in all, is refused with TRAIL
padded : (s : List ℕ) (r : Record) (x : List ℕ) → Accepts Strict s r → 0 < length x → length (s ++ x) ≤ most → shortcut Strict (s ++ x) ≡ refused Trail (spot_at (section 9 (length s - 4)) 4)
unfolding Accepts shortcut
padded s r x e h l =
    let y = accepted_Read Strict s r (length s) e in
    let c : Sections = y.sections in
    let n : length (s ++ x) ≡ length s + length x = length-append s x in
    let z : sections Strict 0 (s ++ x) ≡ got c (length s)
    = (Own-sections Strict).alike 0 s c (length s) (shortcut-Whole Strict s c (length s) y.is).read (s ++ x) (take_at s x (length s) refl ∙ sym (take-length s)) (omega arith) in
    rw (le-leb (length (s ++ x)) most l, z, ne_eqb (length s) (length (s ++ x)) (λ q. omega arith))

-- it comes back as it was
pub padded_back : (s : List ℕ) (r : Record) (x out : List ℕ) → Accepts Strict s r → 0 < length x → length (s ++ x) ≤ most → length s ≤ length out
    → (salvage_answer (s ++ x) out ≡ Ok (record { len = length s; number = 9; kept = length s; dropped = length x })) × (salvage_output (s ++ x) out ≡ put out 0 s)
unfolding Accepts rescue_of number_of
padded_back s r x out e h l room =
    let y = accepted_Read Strict s r (length s) e in
    let z : length s - 4 + 4 ≡ length s = omega (arith, four_read Strict s y.sections (length s) (shortcut-Whole Strict s y.sections (length s) y.is).read) in
    let n : length (s ++ x) ≡ length s + length x = length-append s x in
    let i : rescue (s ++ x) ≡ up_to 9 (length s) = rescue_is (s ++ x) _ (padded s r x e h l) ∙ ap (up_to 9) z in
    let c = copies (s ++ x) 9 (length s) out i (omega arith) l room in
    let d : length (s ++ x) - length s ≡ length x = omega arith in (
      c.answer ∙ ap (λ (d : ℕ). Ok (record { len = length s; number = 9; kept = length s; dropped = d })) d,
      c.output ∙ ap (put out 0) (take_at s x (length s) refl),
    )
