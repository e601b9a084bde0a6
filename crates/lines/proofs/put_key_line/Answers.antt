-- The buffer has room for every key, so what was refused was refused by reading.
use mathlib.Core.Path.{ap, ◌∙◌}
use mathlib.Core.List.{List, ◌++◌}
use Prim.Native.Nat.{ℕ}
use lib.ListN.{length-replicate}
use native.Mathlib.Omega.{arith}
use Rattle.std.proofs.Common.{rules}
use Rattle.octets.specs.Numbers.{Bytes}
use Rattle.lines.specs.Text.{line_feed, hex_of}
use Rattle.lines.proofs.KeyTexts.{refused_key, accepted_key}
use Rattle.lines.proofs.WindowLaws.{Showed-join, Showed-as, piece_shown}
use Rattle.lines.proofs.put_key_line.Goals as goal

pub returns-in_default : goal.returns-in_default
returns-in_default c =
    let bytes : Bytes c.args.s.now = record { at = λ i. omega (arith, c.type_inv.s i) } in
    let told = refused_key _ c.args.s.now _ bytes (length-replicate {A = ℕ} 65536 0) c.key-v.ensures.answer c.in_default.is in
    let shown = piece_shown (Showed-as c.verdict.ensures told) c.new-w.ensures.out c.new-w.ensures.at c.new-w.ensures.skip in
    record { answer = c.filled.ensures ∙ shown.at; output = search rules }

pub returns : goal.returns
returns c =
    let bytes : Bytes c.args.s.now = record { at = λ i. omega (arith, c.type_inv.s i) } in
    let told = accepted_key _ c.args.s.now _ bytes (length-replicate {A = ℕ} 65536 0) c.key-v.ensures.answer c.in-Ok.is c.key-v.ensures.output in
    let whole = Showed-as (Showed-join c.hex.ensures c.show.ensures) (ap (λ (l : List ℕ). hex_of l ++ line_feed) c.part.ensures ∙ told) in
    let shown = piece_shown whole c.new-w.ensures.out c.new-w.ensures.at c.new-w.ensures.skip in
    record { answer = c.filled-2.ensures ∙ shown.at; output = search rules }
