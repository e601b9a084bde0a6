-- What rewriting keeps besides the record.
use mathlib.Core.Path.{◌≡◌, sym, ap, ◌∙◌}
use mathlib.Core.List.{List}
use Prim.Native.Nat.{ℕ}
use lib.ListN.{length}
use Rattle.format.specs.declared.Profile.{Profile}
use Rattle.format.specs.declared.Record.{Record}
use Rattle.format.specs.Bodies.{further_slot, place_in}
use Rattle.format.specs.Contents.{Contents, bytes_at, body_in, bodies_of, contents, Same}
use Rattle.format.specs.Demands.{Accepts}
use Rattle.format.specs.Key.{key_in}
use Rattle.format.proofs.RowLaws.{bytes_at_lem}
use Rattle.format.proofs.AcceptedLaws.{accepted_present}
use Rattle.format.proofs.KeySame.{Same-record_Same_key}
use Rattle.rewriting.specs.Kept.{Kept}
use Rattle.format.specs.Verdicts.{Verdict}

-- the form has the key of the shortcut that it was made of
pub rewrite_keeps_key : (profile : Profile) (s : List ℕ) (r : Record) (out : List ℕ) {v : Verdict} {x : List ℕ} → Accepts profile s r → (k : Kept profile s r out v x) → key_in profile k.form ≡ key_in profile s
rewrite_keeps_key profile s r out e k = Same-record_Same_key profile k.form k.reads.held s r k.reads.accepted e k.reads.same

-- a body of an accepted shortcut is what stands at its place
body_stands : (profile : Profile) (s : List ℕ) (r : Record) → Accepts profile s r → (j : ℕ) → body_in (contents s r) j ≡ bytes_at s (place_in r j)
unfolding Accepts contents
body_stands profile s r e j =
    ap (λ (q : Record). body_in (bodies_of s q) j) (accepted_present profile s r (length s) e) ∙ bytes_at_lem s r.places j

-- each body of the form has the bytes that it had
pub rewrite_keeps_bodies : (profile : Profile) (s : List ℕ) (r : Record) (out : List ℕ) {v : Verdict} {x : List ℕ} → Accepts profile s r → (k : Kept profile s r out v x)
    → (j : ℕ) → bytes_at k.form (place_in k.reads.held j) ≡ bytes_at s (place_in r j)
unfolding Same
rewrite_keeps_bodies profile s r out e k j =
    sym (body_stands profile k.form k.reads.held k.reads.accepted j) ∙ ap (λ (c : Contents). body_in c j) k.reads.same ∙ body_stands profile s r e j

-- so have the head's further bytes
pub rewrite_keeps_further : (profile : Profile) (s : List ℕ) (r : Record) (out : List ℕ) {v : Verdict} {x : List ℕ} → Accepts profile s r → (k : Kept profile s r out v x)
    → bytes_at k.form (place_in k.reads.held further_slot) ≡ bytes_at s (place_in r further_slot)
rewrite_keeps_further profile s r out e k = rewrite_keeps_bodies profile s r out e k further_slot
