-- Writing that leaves room for more bytes: they count with those of the shortest form, in the tests and in the answer.
use Rattle.std.specs.Prelude.{ℕ, ◌+◌, List, [], ◌∷◌, if◌then◌else◌, length, leb, Result, Ok, Err}
use Rattle.format.specs.declared.Profile.{Profile}
use Rattle.format.specs.declared.Record.{Record}
use Rattle.format.specs.declared.Fault.{Fault}
use Rattle.format.specs.declared.Fault.TheVariants.{Place as PLACE, Unwritable as UNWRITABLE, Room as ROOM}
use Rattle.format.specs.Tests.{Outcome, got, ◌else◌at◌, no_section, tests}
use Rattle.format.specs.Shortcut.{most}
use Rattle.format.specs.Bodies.{placed}
use Rattle.format.specs.Contents.{contents}
use Rattle.format.specs.Writing.{canonical, writable}
use Rattle.writer.specs.declared.Measured.{Measured}
use Rattle.sizes.specs.Steps.Sizes.{sizes_of, clipped_length}

-- what the tests answer, over the lengths as they are counted
abbrev pub measured : Profile → Record → List ℕ → ℕ → ℕ → Result Measured Fault
measured profile r d more room =
    if placed (length d) r then
    (if writable profile (contents d r) then
    (if leb (clipped_length r + more) most then
    (if leb (clipped_length r + more) room then Ok (record { len = clipped_length r + more; sizes = sizes_of r }) else Err ROOM)
    else Err UNWRITABLE)
    else Err UNWRITABLE)
    else Err PLACE

unfoldable pub leaving : Profile → Record → List ℕ → ℕ → ℕ → Outcome (List ℕ)
leaving profile r d more room =
    let w = canonical (contents d r) in
    let n = length w + more in
    tests no_section
    (placed (length d) r else PLACE at 0
    ∷ writable profile (contents d r) else UNWRITABLE at 0
    ∷ leb n most else UNWRITABLE at 0
    ∷ leb n room else ROOM at 0
    ∷ [])
    (got w n)
