-- One law for each way out of the functions.
use mathlib.Core.Path.{◌≡◌, refl, sym, ap, ◌∙◌}
use mathlib.Core.List.{List, [], ◌++◌}
use mathlib.Core.Bool.{Bool, true, false, ◌&&◌, cond}
use Prim.Native.Nat.{ℕ, ◌+◌, ◌-◌, ◌≤◌, ◌<◌}
use native.Mathlib.Omega.{arith}
use lib.ListN.{length, take, length-append}
use lib.Seq.{length-take-le}
use lib.Dec.{leb, eqb}
use borrow.Author.Tests.{le-leb, lt-leb}
use Rattle.octets.specs.Numbers.{little}
use Rattle.octets.specs.Parts.{put}
use Rattle.octets.specs.Steps.Puts.{Wrote}
use Rattle.octets.proofs.NumberLaws.{length-little}
use Rattle.octets.proofs.WroteLaws.{kept, join, Wrote-number}
use Rattle.format.specs.declared.Profile.TheVariants.{Strict}
use Rattle.format.specs.declared.Fault.{Fault}
use Rattle.format.specs.declared.Fault.TheVariants.{Long, Cut, Magic, Head, Items, Info, Piece, Block, Trail, Place, Unwritable, Room as ROOM, NoTarget, Twice, Store, NoMap, Shelf, Entry, Lost as LOST}
use Rattle.format.specs.declared.Refusal.{Refusal}
use Rattle.format.specs.declared.Refused.{Refused}
use Rattle.format.specs.declared.Rescue.{Rescue}
use Rattle.format.specs.declared.Salvaged.{Salvaged}
use Rattle.format.specs.Numbers.{number_of, Numbered}
use Rattle.format.specs.Tests.{Outcome, got, refused}
use Rattle.format.specs.Shortcut.{most, Sections, shortcut, faulted, faulted_by, verdict_of}
use Rattle.format.specs.Writing.{output_of}
use Rattle.format.specs.Salvage.{at_block, mendable, up_to, before, nothing, refused_by, rescue_of, rescue, rescued, salvaging_by, salvaging, unsaved, salvaged_by, salvage_verdict, salvage_answer, salvage_output, SalvageEnds}
use Rattle.format.proofs.AnswerLaws.{numbered}
use Rattle.format.proofs.PositionDemands.{positions_small, starts_before}
use Rattle.format.proofs.SalvageDemands.{nine, rescue-Begins, salvage_ends}
use Rattle.std.specs.Prelude.{Option, Some, None, Result, Ok, Err}

-- ---- what can be kept

-- any other fault than the four
pub no_mend : (f : Fault) → (f ≡ Cut → ⊥) → (f ≡ Block → ⊥) → (f ≡ Twice → ⊥) → (f ≡ Store → ⊥) → false ≡ mendable (number_of f)
unfolding number_of
no_mend Long a b c d = refl
no_mend Cut a b c d = absurd (a refl)
no_mend Magic a b c d = refl
no_mend Head a b c d = refl
no_mend Items a b c d = refl
no_mend Info a b c d = refl
no_mend Piece a b c d = refl
no_mend Block a b c d = absurd (b refl)
no_mend Trail a b c d = refl
no_mend Place a b c d = refl
no_mend Unwritable a b c d = refl
no_mend ROOM a b c d = refl
no_mend NoTarget a b c d = refl
no_mend Twice a b c d = absurd (c refl)
no_mend Store a b c d = absurd (d refl)
no_mend NoMap a b c d = refl
no_mend Shelf a b c d = refl
no_mend Entry a b c d = refl
no_mend LOST a b c d = refl

module _ (f : Fault) (section start : ℕ) where
  pub by_trail : f ≡ Trail → up_to (number_of f) (start + 4) ≡ refused_by (number_of f) section start
  unfolding refused_by number_of
  by_trail e = rw e

  module _ (other : f ≡ Trail → ⊥) where
    no_trail : eqb (number_of f) 9 ≡ false
    no_trail = go (eqb (number_of f) 9) refl
      where
        go : (t : Bool) → eqb (number_of f) 9 ≡ t → t ≡ false
        go true e = absurd (other (nine f e))
        go false e = refl

    pub by_mending : {m : Bool} → m ≡ mendable (number_of f) → (m && at_block section) ≡ true → before (number_of f) start ≡ refused_by (number_of f) section start
    unfolding refused_by
    by_mending e g = rw (no_trail, ← e, g)

    pub by_nothing : {m : Bool} → m ≡ mendable (number_of f) → (m && at_block section) ≡ false → nothing ≡ refused_by (number_of f) section start
    unfolding refused_by
    by_nothing e g = rw (no_trail, ← e, g)

-- ---- putting

pub put_mended : (s out : List ℕ) (k : ℕ) {x y : List ℕ} → k ≤ length s → k + 4 ≤ length out → x ≡ put out 0 (take k s) → y ≡ put x k (little 4 0) → y ≡ put out 0 (take k s ++ little 4 0)
put_mended s out k {x} {y} h l e f =
    let n : length (take k s) ≡ k = length-take-le k s h in
    let p : Wrote out 0 (take k s) k x k = record { content = e; long = n; next = omega arith; fits = omega arith } in
    (join p (Wrote-number 4 x k 0 f (omega (arith, kept p)))).content

-- there is room for the terminal
pub room_behind : (r : Rescue) (n : ℕ) → r.mended ≡ true → r.kept + cond r.mended 4 0 ≤ n → r.kept + 4 ≤ n
room_behind r n m h = rw m at h

module _ (s out : List ℕ) (r : Rescue) where
  pub put_both : {x y : List ℕ} → r.mended ≡ true → r.kept ≤ length s → r.kept + cond r.mended 4 0 ≤ length out → x ≡ put out 0 (take r.kept s) → y ≡ put x r.kept (little 4 0)
      → y ≡ put out 0 (rescued s r)
  put_both m h l e f = rw m (put_mended s out r.kept h (room_behind r (length out) m l) e f)

-- ---- the call

-- what the call says of its answer v and its buffer x
abbrev pub SalvageCall : List ℕ → List ℕ → Result Salvaged Refused → List ℕ → Type 0
SalvageCall s out v x = (v ≡ salvage_answer s out) × ((x ≡ salvage_output s out) × (Numbered (salvage_verdict v) (salvaging s (length out)) × SalvageEnds s out v x))

told : (s : List ℕ) (o : Option Rescue) (room : ℕ) → salvage_verdict (salvaged_by s o (salvaging_by s o room)) ≡ verdict_of (salvaging_by s o room)
told s None room = refl
told s (Some r) room = go (salvaging_by s (Some r) room)
  where
    go : (o : Outcome (List ℕ)) → salvage_verdict (salvaged_by s (Some r) o) ≡ verdict_of o
    go (got w n) = refl
    go (refused f p) = refl

salvage_call : (s out : List ℕ) {v : Result Salvaged Refused} {x : List ℕ} → v ≡ salvage_answer s out → x ≡ salvage_output s out → SalvageCall s out v x
unfolding salvage_answer salvaging
salvage_call s out {v} a o =
    (a, (o, (numbered (salvaging s (length out)) (ap salvage_verdict a ∙ told s (rescue s) (length out)), rw (a, o) (salvage_ends s out))))

-- the start of a section at fault is small
pub start_small : (s : List ℕ) {r : Refusal} → Err r ≡ faulted Strict s → r.spot.start ≤ 65536
unfolding faulted
start_small s {r} e = go (shortcut Strict s) refl
  where
    go : (o : Outcome Sections) → shortcut Strict s ≡ o → r.spot.start ≤ 65536
    go (got c n) i = let z : Err r ≡ faulted_by (got c n) = e ∙ ap faulted_by i in absurd (let y : ◌≡◌ {A = ℕ} 0 1 = cc in omega arith)
    go (refused f w) i =
        let z : Err r ≡ faulted_by {A = Sections} (refused f w) = e ∙ ap faulted_by i in
        let q : r ≡ record { fault = f; spot = w } = cc in
        rw q (omega (arith, starts_before Strict s f w i, positions_small Strict s f w i))

pub of_accepted : (s : List ℕ) {n : ℕ} → Ok n ≡ faulted Strict s → up_to 0 n ≡ rescue s
unfolding rescue rescue_of
of_accepted s e = rw (← e)

pub of_refused : (s : List ℕ) {r : Refusal} {o : Option Rescue} → Err r ≡ faulted Strict s → o ≡ refused_by (number_of r.fault) r.spot.section r.spot.start → o ≡ rescue s
unfolding rescue rescue_of
of_refused s e h = rw (← e) h

module _ (s : List ℕ) {r : Rescue} (is : Some r ≡ rescue s) where
  pub within : r.kept ≤ length s
  within = rw (← is) at (rescue-Begins s).within

  pub few : r.kept ≤ 65536
  few = rw (← is) at (rescue-Begins s).few

module _ (s out : List ℕ) where
  pub call_nothing : None ≡ rescue s → SalvageCall s out (unsaved LOST 0) out
  unfolding salvage_answer salvage_output salvaging output_of
  call_nothing e = salvage_call s out (rw (← e)) (rw (← e))

  module _ {r : Rescue} (is : Some r ≡ rescue s) {n : ℕ} (l : n ≡ r.kept + cond r.mended 4 0) where
    long : length (rescued s r) ≡ n
    long = length-append (take r.kept s) (cond r.mended (little 4 0) []) ∙ go r.mended l
      where
        go : (b : Bool) → n ≡ r.kept + cond b 4 0 → length (take r.kept s) + length (cond b (little 4 0) []) ≡ n
        go true m = rw (length-take-le r.kept s (within s is), length-little) (sym m)
        go false m = rw (length-take-le r.kept s (within s is)) (sym m)

    pub call_too_long : most < n → SalvageCall s out (unsaved LOST 0) out
    unfolding salvage_answer salvage_output salvaging output_of
    call_too_long h =
        let t : leb (length (rescued s r)) most ≡ false = rw long (lt-leb n most h) in
        salvage_call s out (rw (← is, t)) (rw (← is, t))

    module _ (h : n ≤ most) where
      short : leb (length (rescued s r)) most ≡ true
      short = rw long (le-leb n most h)

      pub call_no_room : length out < n → SalvageCall s out (unsaved ROOM 0) out
      unfolding salvage_answer salvage_output salvaging output_of
      call_no_room m =
          let t : leb (length (rescued s r)) (length out) ≡ false = rw long (lt-leb n (length out) m) in
          salvage_call s out (rw (← is, short, t)) (rw (← is, short, t))

      pub call_saved : {x : List ℕ} → n ≤ length out → x ≡ put out 0 (rescued s r)
          → SalvageCall s out (Ok (record { len = n; number = r.number; kept = r.kept; dropped = length s - r.kept })) x
      unfolding salvage_answer salvage_output salvaging output_of
      call_saved m q =
          let t : leb (length (rescued s r)) (length out) ≡ true = rw long (le-leb n (length out) m) in
          salvage_call s out (rw (← is, short, t, long)) (q ∙ rw (← is, short, t))
