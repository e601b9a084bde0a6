-- What was put into an output end to end is put as one.
use mathlib.Core.Path.{◌≡◌, refl, ◌∙◌}
use mathlib.Core.List.{List, [], ◌∷◌, ◌++◌, append-nil}
use Prim.Native.Nat.{ℕ, ◌+◌, ◌≤◌}
use native.Mathlib.Omega.{arith}
use lib.ListN.{length, length-append}
use Rattle.octets.specs.Parts.{put}
use Rattle.octets.specs.Steps.Puts.{Wrote}
use Rattle.octets.proofs.PartLaws.{put-put}
use Rattle.octets.proofs.WroteLaws.{put-nil}
use Rattle.copies.specs.declared.output.Output.{Output}
use Rattle.copies.specs.Steps.Writes.{HasRoom, Writes}

-- where there is room, it is enough that the bytes stand there, and the output after them
pub Writes-made : (o : Output) {x : Output} {a : List ℕ} {n : ℕ} → HasRoom o n → length a ≡ n → x.out.ghost_name ≡ o.out.ghost_name
    → x.out.now ≡ put o.out.now o.at a → x.at ≡ o.at + n → length x.out.now ≡ length o.out.now → Writes o x a n
Writes-made o h l s e t k = record { same = s; content = e; long = l; next = t; fits = omega (arith, h.room); kept = k }

pub Writes-none : (o : Output) → o.at ≤ length o.out.now → Writes o o [] 0
Writes-none o h = record { same = refl; content = put-nil o.out.now o.at; long = refl; next = omega arith; fits = h; kept = refl }

module _ {o x : Output} {n : ℕ} {a : List ℕ} (p : Writes o x a n) where
  pub wrote : Wrote o.out.now o.at a n x.out.now x.at
  wrote = record { content = p.content; long = p.long; next = p.next; fits = omega (arith, p.fits, p.kept) }

  pub join : {y : Output} {b : List ℕ} {m : ℕ} → Writes x y b m → Writes o y (a ++ b) (n + m)
  join {y} {b} {m} q = record {
    same = q.same ∙ p.same;
    content = q.content ∙ rw (p.content, p.next) (put-put o.out.now o.at a b (omega arith) (omega (arith, p.long, p.next, p.kept, q.long, q.next, q.fits, q.kept)));
    long = length-append a b ∙ omega (arith, p.long, q.long);
    next = omega (arith, p.next, q.next);
    fits = q.fits;
    kept = q.kept ∙ p.kept;
  }

  pub last : Writes o x (a ++ []) n
  last = rw append-nil p

  -- the same bytes and the same length, said in other words
  pub reword : {b : List ℕ} {m : ℕ} → a ≡ b → n ≡ m → Writes o x b m
  reword e f = rw (← e, ← f) p

-- the contract leaves no freedom: the place and the content
pub same_put : {o x y : Output} {a : List ℕ} {n : ℕ} → Writes o x a n → Writes o y a n → x.at ∷ x.out.now ≡ y.at ∷ y.out.now
same_put p q = rw (p.next, p.content, q.next, q.content)
