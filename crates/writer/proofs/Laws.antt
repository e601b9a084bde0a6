-- One law for each way out of the writer, and that each of them ends as demand 3 says where no room is left.
use mathlib.Core.Path.{◌≡◌, refl, sym, ap, ◌∙◌}
use mathlib.Core.List.{List}
use mathlib.Core.Bool.{Bool, true, false, not}
use Prim.Native.Nat.{ℕ, ◌+◌, ◌-◌, ◌≤◌, ◌<◌}
use native.Mathlib.Omega.{arith}
use native.Mathlib.Nat.{add-zero}
use lib.ListN.{length}
use lib.Dec.{leb}
use borrow.Author.Tests.{leb-true, leb-false, le-leb, lt-leb, not-true, not-false}
use Rattle.octets.specs.Numbers.{Bytes}
use Rattle.octets.specs.Parts.{put}
use Rattle.format.specs.declared.Profile.{Profile}
use Rattle.format.specs.declared.Record.{Record}
use Rattle.std.proofs.Common.{Result, Ok, Err}
use Rattle.format.specs.declared.Fault.{Fault}
use Rattle.format.specs.declared.Fault.TheVariants.{Place as PLACE, Unwritable as UNWRITABLE, Room as ROOM}
use Rattle.format.specs.Tests.{got, refused}
use Rattle.format.specs.Numbers.{Numbered}
use Rattle.format.specs.Shortcut.{most, verdict_of}
use Rattle.format.specs.Bodies.{placed}
use Rattle.format.specs.Contents.{Contents, contents}
use Rattle.format.specs.Writing.{canonical, writable, writing, output_of, write_answer, write_output}
use Rattle.format.specs.Demands.{Ends}
use Rattle.format.proofs.Holds.{all_writable}
use Rattle.format.proofs.Ranges.{FitsRecord}
use Rattle.format.proofs.AnswerLaws.{nowhere, numbered}
use Rattle.format.proofs.Demands.{the_writer}
use Rattle.sizes.specs.Steps.Sizes.{clipped_length}
use Rattle.writable.proofs.WholeLaws.{short_length, writable_few}
use Rattle.canonical.specs.Steps.Puts.{RoomFor}
use Rattle.writer.specs.declared.Measured.{Measured}
use Rattle.writer.specs.Steps.Leaving.{measured, leaving}
use Rattle.format.specs.Verdicts.{Verdict, refused_at}
use Rattle.std.specs.Prelude.{Ok}

-- ---- with room for more

module _ (profile : Profile) (r : Record) (d : List ℕ) (more : ℕ) (out : List ℕ) where
  abbrev c : Contents
  c = contents d r

  -- an answer and the buffer afterwards, as the definition has them
  abbrev pub Leaves : Verdict → List ℕ → Type 0
  Leaves v x = (v ≡ verdict_of (leaving profile r d more (length out))) × (x ≡ output_of (leaving profile r d more (length out)) out)

  -- how it may end, and what is known then
  pub leaving_ends {ℓ} : (X : Verdict → List ℕ → Type ℓ) → (placed (length d) r ≡ false → X (refused_at PLACE 0) out)
      → (placed (length d) r ≡ true → writable profile c ≡ false → X (refused_at UNWRITABLE 0) out)
      → (placed (length d) r ≡ true → writable profile c ≡ true → most < length (canonical c) + more → X (refused_at UNWRITABLE 0) out)
      → (placed (length d) r ≡ true → writable profile c ≡ true → length (canonical c) + more ≤ most → length out < length (canonical c) + more → X (refused_at ROOM 0) out)
      → (placed (length d) r ≡ true → writable profile c ≡ true → length (canonical c) + more ≤ most → length (canonical c) + more ≤ length out → X (Ok (length (canonical c) + more)) (put out 0 (canonical c)))
      → {v : Verdict} {x : List ℕ} → Leaves v x → X v x
  unfolding leaving output_of
  leaving_ends X f g h k l (e, o) = rw (e, o) (go (placed (length d) r) refl (writable profile c) refl (leb n most) refl (leb n (length out)) refl)
    where
      n : ℕ
      n = length (canonical c) + more

      go : (p : Bool) → placed (length d) r ≡ p → (b : Bool) → writable profile c ≡ b → (t : Bool) → leb n most ≡ t → (u : Bool) → leb n (length out) ≡ u
          → X (verdict_of (leaving profile r d more (length out))) (output_of (leaving profile r d more (length out)) out)
      go false i b j t a u z = rw i (f i)
      go true i false j t a u z = rw (i, j) (g i j)
      go true i true j false a u z = rw (i, j, a) (h i j (leb-false n most a))
      go true i true j true a false z = rw (i, j, a, z) (k i j (leb-true n most a) (leb-false n (length out) z))
      go true i true j true a true z = rw (i, j, a, z) (l i j (leb-true n most a) (leb-true n (length out) z))

  module _ {p : Bool} (i : p ≡ placed (length d) r) where
    pub write_outside : not p ≡ true → Leaves (refused_at PLACE 0) out
    unfolding leaving output_of
    write_outside t =
        let z : leaving profile r d more (length out) ≡ refused PLACE nowhere = rw (sym i ∙ not-true p t) in
        (rw z, rw z)

    module _ (inside : not p ≡ false) where
      pub all_placed : placed (length d) r ≡ true
      all_placed = sym i ∙ not-false p inside

      module _ {b : Bool} (j : b ≡ writable profile c) where
        pub write_unwritable : not b ≡ true → Leaves (refused_at UNWRITABLE 0) out
        unfolding leaving output_of
        write_unwritable t =
            let z : leaving profile r d more (length out) ≡ refused UNWRITABLE nowhere = rw (all_placed, sym j ∙ not-true b t) in
            (rw z, rw z)

        module _ (can : not b ≡ false) {n : ℕ} (count : n ≡ clipped_length r) where
          is_writable : writable profile c ≡ true
          is_writable = sym j ∙ not-false b can

          pub few : n ≤ most
          few = writable_few profile d r all_placed count is_writable

          long : n ≡ length (canonical c)
          long = short_length profile d r all_placed count few

          pub write_long : most - n < more → Leaves (refused_at UNWRITABLE 0) out
          unfolding leaving output_of
          write_long h =
              let k : leb (length (canonical c) + more) most ≡ false = lt-leb (length (canonical c) + more) most (omega (arith, long, few)) in
              let z : leaving profile r d more (length out) ≡ refused UNWRITABLE nowhere = rw (all_placed, is_writable, k) in
              (rw z, rw z)

          module _ (short : more ≤ most - n) where
            fits_most : leb (length (canonical c) + more) most ≡ true
            fits_most = le-leb (length (canonical c) + more) most (omega (arith, long, few))

            pub write_room : length out < n + more → Leaves (refused_at ROOM 0) out
            unfolding leaving output_of
            write_room h =
                let k : leb (length (canonical c) + more) (length out) ≡ false = lt-leb (length (canonical c) + more) (length out) (omega (arith, long)) in
                let z : leaving profile r d more (length out) ≡ refused ROOM nowhere = rw (all_placed, is_writable, fits_most, k) in
                (rw z, rw z)

            pub write_fits : n + more ≤ length out → RoomFor d out r
            write_fits h = record { inside = all_placed; few = omega (arith, few, long); room = omega (arith, long) }

            pub write_written : n + more ≤ length out → {x : List ℕ} → x ≡ put out 0 (canonical c) → Leaves (Ok (n + more)) x
            unfolding leaving output_of
            write_written h e =
                let k : leb (length (canonical c) + more) (length out) ≡ true = le-leb (length (canonical c) + more) (length out) (omega (arith, long)) in
                let z : leaving profile r d more (length out) ≡ got (canonical c) (length (canonical c) + more) = rw (all_placed, is_writable, fits_most, k) in
                (rw z (ap (λ (m : ℕ). Ok (m + more)) long), rw z e)

  -- ---- by what was measured

  abbrev pub MeasuredEnds : Result Measured Fault → Type 0
  MeasuredEnds (Ok m) = RoomFor d out r × ((x : List ℕ) → x ≡ put out 0 (canonical c) → Leaves (Ok m.len) x)
  MeasuredEnds (Err f) = Leaves (refused_at f 0) out

  pub measured_ends : {m : Result Measured Fault} → m ≡ measured profile r d more (length out) → MeasuredEnds m
  measured_ends e = rw e (go (placed (length d) r) refl (writable profile c) refl (leb n most) refl (leb n (length out)) refl)
    where
      n : ℕ
      n = clipped_length r + more

      go : (p : Bool) → placed (length d) r ≡ p → (b : Bool) → writable profile c ≡ b → (t : Bool) → leb n most ≡ t → (u : Bool) → leb n (length out) ≡ u
          → MeasuredEnds (measured profile r d more (length out))
      go false i b j t a u z = rw i (write_outside (sym i) refl)
      go true i false j t a u z = rw (i, j) (write_unwritable (sym i) refl (sym j) refl)
      go true i true j false a u z = rw (i, j, a) (write_long (sym i) refl (sym j) refl refl (omega (arith, leb-false n most a, few (sym i) refl (sym j) refl refl)))
      go true i true j true a false z = rw (i, j, a, z) (write_room (sym i) refl (sym j) refl refl (omega (arith, leb-true n most a)) (leb-false n (length out) z))
      go true i true j true a true z =
          let short : more ≤ most - clipped_length r = omega (arith, leb-true n most a) in
          let room : n ≤ length out = leb-true n (length out) z in
          rw (i, j, a, z) (write_fits (sym i) refl (sym j) refl refl short room, λ x e. write_written (sym i) refl (sym j) refl refl short room e)

-- ---- with no room for more

-- what can be written is no longer than the most anyway
pub none_left : (profile : Profile) (r : Record) (d : List ℕ) (room : ℕ) → leaving profile r d 0 room ≡ writing profile r d room
unfolding leaving writing
none_left profile r d room = go (writable profile (contents d r)) refl
  where
    go : (b : Bool) → writable profile (contents d r) ≡ b → leaving profile r d 0 room ≡ writing profile r d room
    go true e = rw (e, add-zero, (all_writable profile (contents d r) e).short)
    go false e = rw e

-- an outcome of the definitions is an end of demand 3, since the types give that the numbers fit and that bytes are bytes
pub ended : (profile : Profile) (r : Record) (d out : List ℕ) → FitsRecord r × Bytes d → {v : Verdict} {x : List ℕ} → Leaves profile r d 0 out v x
    → (v ≡ write_answer profile r d out) × ((x ≡ write_output profile r d out) × (Numbered v (writing profile r d (length out)) × Ends profile r d out v x))
unfolding write_answer write_output
ended profile r d out (fits, bytes) (p, q) =
    let a : _ ≡ write_answer profile r d out = p ∙ ap verdict_of (none_left profile r d (length out)) in
    let b : _ ≡ write_output profile r d out = q ∙ rw (none_left profile r d (length out)) in
    (a, (b, (numbered (writing profile r d (length out)) a, rw (a, b) (the_writer profile r d fits bytes out))))
