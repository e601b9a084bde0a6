-- A body's bytes, where its place lies inside the buffer.
use mathlib.Core.Path.{◌≡◌, sym, ap, ◌∙◌}
use mathlib.Core.List.{List}
use Prim.Native.Nat.{ℕ, ◌+◌, ◌≤◌}
use native.Mathlib.Omega.{arith}
use lib.ListN.{length, drop, length-take, length-drop}
use Rattle.octets.specs.Steps.Puts.{part}
use Rattle.octets.proofs.PartLaws.{part_in}
use Rattle.format.specs.declared.Place.{Place}
use Rattle.format.specs.Contents.{bytes_at}

pub body_small : (d : List ℕ) (b : Place) → length (bytes_at d b) ≤ length d
body_small d b = omega (arith, length-take b.len (drop b.at d), length-drop b.at d)

pub body_length : (d : List ℕ) (b : Place) → b.at + b.len ≤ length d → length (bytes_at d b) ≡ b.len
body_length d b h = length-take b.len (drop b.at d) ∙ omega (arith, length-drop b.at d)

pub body_part : (d : List ℕ) (b : Place) → b.at + b.len ≤ length d → part d b.at b.len ≡ bytes_at d b
body_part d b h = sym (part_in d b.at b.len h)

pub part-length : (d : List ℕ) (b : Place) {p : List ℕ} → b.at + b.len ≤ length d → p ≡ part d b.at b.len → length p ≡ b.len
part-length d b h e = ap length (e ∙ body_part d b h) ∙ body_length d b h
