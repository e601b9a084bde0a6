-- One law for each way out of rewriting, and what each keeps.
use mathlib.Core.Path.{◌≡◌, refl, sym, ap, subst, ◌∙◌}
use mathlib.Core.List.{List}
use Prim.Native.Nat.{ℕ, ◌≤◌}
use native.Mathlib.Omega.{arith}
use lib.ListN.{length}
use Rattle.octets.specs.Numbers.{Bytes}
use Rattle.format.specs.declared.Profile.{Profile}
use Rattle.format.specs.declared.Record.{Record}
use Rattle.format.specs.declared.Refused.{Refused}
use Rattle.format.specs.declared.Reading.{Reading}
use Rattle.format.specs.Shortcut.{reading}
use Rattle.format.specs.Numbers.{Numbered}
use Rattle.format.specs.Writing.{writing, output_of, write_answer, write_output}
use Rattle.format.specs.Demands.{Accepts, ReadsAs, Ends, misplaced, unwritable, no_room, written}
use Rattle.format.proofs.Bools.{clash}
use Rattle.format.proofs.AnswerLaws.{numbered}
use Rattle.format.proofs.AcceptedLaws.{accepted_Read, accepted_held, refused_read}
use Rattle.format.proofs.Demands.{bodies_inside, Same-self}
use Rattle.rewriting.specs.Rewrite.{rewriting, rewrite_answer, rewrite_output}
use Rattle.rewriting.specs.Kept.{Kept, Keeps}
use Rattle.format.specs.Verdicts.{Verdict}
use Rattle.std.specs.Prelude.{Ok, Err}

-- the shortcut reads as its own record, so the writer cannot refuse that record where the shortcut itself has room
kept : (profile : Profile) (s : List ℕ) (r : Record) (out : List ℕ) → Accepts profile s r → Bytes s → length s ≤ length out → {v : Verdict} {x : List ℕ} → Ends profile r s out v x → Kept profile s r out v x
kept profile s r out e b l z = go z
  where
    itself : ReadsAs profile s r s
    itself = record { bytes = b; held = r; accepted = e; same = Same-self s r }

    go : {v : Verdict} {x : List ℕ} → Ends profile r s out v x → Kept profile s r out v x
    go (misplaced q) = clash (bodies_inside profile s r e) q
    go (unwritable q h) = absurd (h s itself)
    go (no_room w q y h) = absurd (let z = h s itself in omega arith)
    go (written w q y k h) = record { form = w; reads = y; least = h; short = h s itself; answer = refl; output = refl }

-- what the call says of its answer v and its buffer x
abbrev RewriteCall : Profile → List ℕ → List ℕ → Verdict → List ℕ → Type 0
RewriteCall profile s out v x = (v ≡ rewrite_answer profile s out) × ((x ≡ rewrite_output profile s out) × (Numbered v (rewriting profile s (length out)) × Keeps profile s out v x))

rewrite_call : (profile : Profile) (s out : List ℕ) {v : Verdict} {x : List ℕ} → v ≡ rewrite_answer profile s out → x ≡ rewrite_output profile s out → Keeps profile s out v x → RewriteCall profile s out v x
unfolding rewrite_answer
rewrite_call profile s out a o k = (a, (o, (numbered (rewriting profile s (length out)) a, k)))

module _ (profile : Profile) (s out : List ℕ) {g : Reading} (e : g ≡ reading profile s) where
  held_is : {r : Record} → Accepts profile s r → g ≡ record { verdict = Ok (length s); held = r }
  unfolding Accepts
  held_is a = e ∙ a

  pub rewrite_left : {r : Refused} → g.verdict ≡ Err r → RewriteCall profile s out (Err r) out
  unfolding rewrite_answer rewrite_output rewriting output_of
  rewrite_left {r} q =
      let i = refused_read profile s (ap (λ (x : Reading). x.verdict) (sym e) ∙ q) in
      rewrite_call profile s out (rw (i.is, i.told)) (rw i.is)
      (λ held a l.
      let v : Err r ≡ Ok (length s) = sym q ∙ ap (λ (x : Reading). x.verdict) (held_is a) in
      absurd (let z : ◌≡◌ {A = ℕ} 0 1 = cc in omega arith))

  written_is : {n : ℕ} → g.verdict ≡ Ok n → rewriting profile s (length out) ≡ writing profile g.held s (length out)
  unfolding rewriting
  written_is {n} q =
      let y = accepted_Read profile s g.held n (accepted_held profile s e q) in
      rw y.is (ap (λ (r : Record). writing profile r s (length out)) y.held)

  pub rewrite_written : {n : ℕ} {v : Verdict} {x : List ℕ} → Bytes s → g.verdict ≡ Ok n
      → (v ≡ write_answer profile g.held s out) × ((x ≡ write_output profile g.held s out) × (Numbered v (writing profile g.held s (length out)) × Ends profile g.held s out v x)) → RewriteCall profile s out v x
  unfolding rewrite_answer rewrite_output write_answer write_output
  rewrite_written {n} {v} {x} b q (h, (k, (number, z))) =
      rewrite_call profile s out (rw (written_is q) h) (rw (written_is q) k)
      (λ r a l. kept profile s r out a b l (subst (λ (t : Record). Ends profile t s out v x) (ap (λ (y : Reading). y.held) (held_is a)) z))
