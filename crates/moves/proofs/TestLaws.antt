-- The tests of the strings, one for each.
use mathlib.Core.Path.{◌≡◌, sym, ◌∙◌}
use mathlib.Core.List.{List, map}
use mathlib.Core.Bool.{Bool, true, false, ◌&&◌}
use Prim.Native.Nat.{ℕ, zero, suc, ◌+◌, ◌-◌, ◌≤◌, ◌<◌}
use native.Mathlib.Omega.{arith}
use Rattle.format.specs.declared.Record.{Record}
use Rattle.format.specs.Contents.{bytes_at, bodies_of}
use Rattle.format.specs.Writing.{every}
use Rattle.format.specs.Moving.{strings}
use Rattle.format.proofs.Bools.{and_no}
use Rattle.format.proofs.RowLaws.{bytes_at_lem}
use Rattle.moves.specs.Steps.Moves.{translatable, in_row}

module _ (u : Bool) (d : List ℕ) (r : Record) where
  abbrev maps_at : ℕ → Bool
  maps_at k = translatable u (bytes_at d (in_row r.places k))

  abbrev all_map : Bool
  all_map = every (map (translatable u) (strings (bodies_of d r)))

  told : all_map ≡ (maps_at 10 && (maps_at 11 && (maps_at 12 && (maps_at 13 && (maps_at 14 && true)))))
  told = let at = bytes_at_lem d r.places in rw (at 10, at 11, at 12, at 13, at 14)

  pub strings_each : ((j : ℕ) → 10 ≤ j → j < 15 → maps_at j ≡ true) → true ≡ all_map
  strings_each h =
      sym (told ∙ rw (h 10 (omega arith) (omega arith), h 11 (omega arith) (omega arith), h 12 (omega arith) (omega arith), h 13 (omega arith) (omega arith), h 14 (omega arith) (omega arith)))

  pub strings_one : (j : ℕ) → 10 ≤ j → j < 15 → maps_at j ≡ false → false ≡ all_map
  strings_one j a b e = let i : 10 + (j - 10) ≡ j = omega arith in go (j - 10) (omega arith) (rw i e)
    where
      go : (i : ℕ) → i < 5 → maps_at (10 + i) ≡ false → false ≡ all_map
      go zero h e = sym (told ∙ rw e)
      go (suc zero) h e = sym (told ∙ rw e (and_no (maps_at 10)))
      go (suc (suc zero)) h e = sym (told ∙ simp (e, and_no))
      go (suc (suc (suc zero))) h e = sym (told ∙ simp (e, and_no))
      go (suc (suc (suc (suc zero)))) h e = sym (told ∙ simp (e, and_no))
      go (suc (suc (suc (suc (suc i))))) h e = absurd (omega arith)
