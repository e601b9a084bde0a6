-- Two forms of the rules are the same: reading, with its order of tests, and the grammar, which knows of none.
use mathlib.Core.Path.{◌≡◌, sym, ap, ◌∙◌}
use mathlib.Core.List.{List}
use mathlib.Core.Logic.{◌↔◌}
use Prim.Native.Nat.{ℕ}
use native.Mathlib.Omega.{arith}
use lib.ListN.{length}
use Rattle.octets.specs.Numbers.{Bytes}
use Rattle.format.specs.declared.Profile.{Profile}
use Rattle.format.specs.declared.Record.{Record}
use Rattle.format.specs.declared.Reading.{Reading}
use Rattle.format.specs.declared.Fault.{Fault}
use Rattle.format.specs.Shortcut.{reading}
use Rattle.format.specs.Demands.{Accepts}
use Rattle.format.proofs.Demands.{accepted_whole}
use Rattle.grammar.specs.Grammar.{IsShortcut}
use Rattle.grammar.proofs.WholeLaws.{shortcut_told, shortcut_read}
use Rattle.format.specs.Verdicts.{Verdict, refused_at}
use Rattle.std.specs.Prelude.{Ok}

module _ (profile : Profile) (s : List ℕ) (bs : Bytes s) where
  -- reading accepts s as the record r exactly if the grammar says that s is a shortcut of r
  pub Accepts-exactly : (r : Record) → Accepts profile s r ↔ IsShortcut profile s r
  Accepts-exactly r = (shortcut_told profile s r bs, shortcut_read profile s r bs)

  -- so it is a shortcut of one record alone
  pub one_record : (r q : Record) → IsShortcut profile s r → IsShortcut profile s q → r ≡ q
  unfolding Accepts
  one_record r q a b = ap (λ (x : Reading). x.held) (sym (shortcut_read profile s r bs a) ∙ shortcut_read profile s q bs b)

  -- without a record: the answer is OK, with some value, exactly if s is a shortcut of some record
  pub accepted_exactly : ((n : ℕ) × ((reading profile s).verdict ≡ Ok n)) ↔ ((r : Record) × IsShortcut profile s r)
  unfolding Accepts
  accepted_exactly = (
    λ (n, e).
        let held = (reading profile s).held in
        (held, shortcut_told profile s held bs (accepted_whole profile s held n (ap (λ (v : Verdict). record { verdict = v; held = held }) e))),
    λ (r, g). (length s, ap (λ (x : Reading). x.verdict) (shortcut_read profile s r bs g)),
  )

  -- and what is refused is a shortcut of none
  pub refused_none : (f : Fault) (p : ℕ) → (reading profile s).verdict ≡ refused_at f p → (r : Record) → IsShortcut profile s r → ⊥
  unfolding Accepts
  refused_none f p e r g =
      let a : (reading profile s).verdict ≡ Ok (length s) = ap (λ (x : Reading). x.verdict) (shortcut_read profile s r bs g) in
      let z : ◌≡◌ {A = ℕ} 0 1 = cc in
      omega arith
