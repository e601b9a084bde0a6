-- The last byte of the first text decides, where both texts have bytes.
use mathlib.Core.Path.{◌≡◌, ◌∙◌}
use mathlib.Core.List.{List}
use Prim.Native.Nat.{ℕ, ◌+◌, ◌-◌}
use native.Mathlib.Omega.{arith}
use lib.ListN.{get_or, drop}
use borrow.Author.Tests.{ne_eqb}
use Rattle.std.proofs.lemmas.List.{get_or-take, get_or-drop}
use Rattle.format.specs.declared.Place.{Place}
use Rattle.format.specs.Contents.{bytes_at}
use Rattle.format.proofs.BodyLaws.{body_length}
use Rattle.target.proofs.separated.Goals as goal

last_is : (s : List ℕ) (a : Place) → (a.len ≡ 0 → ⊥) → get_or (bytes_at s a) (a.len - 1) 0 ≡ get_or s (a.at + a.len - 1) 0
last_is s a some =
    let i : a.at + (a.len - 1) ≡ a.at + a.len - 1 = omega arith in
    get_or-take a.len (drop a.at s) (a.len - 1) 0 (omega arith) ∙ get_or-drop a.at s (a.len - 1) 0 ∙ rw i

pub returns-then-b-eq0 : goal.returns-then-b-eq0
returns-then-b-eq0 c = rw (body_length _ c.args.b c.requires.1 ∙ c.if-b-eq0.true)

pub returns : goal.returns
returns c =
    rw (
      body_length _ c.args.b c.requires.1,
      ne_eqb c.args.b.len 0 c.if-b-eq0.false,
      body_length _ c.args.a c.requires.0,
      ne_eqb c.args.a.len 0 c.if-a-eq0.false,
      last_is _ c.args.a c.if-a-eq0.false,
    )
