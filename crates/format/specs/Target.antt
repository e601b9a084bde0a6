-- FORMAT: Target text.
use Rattle.std.specs.Prelude.{ℕ, ◌-◌, List, [], ◌∷◌, ◌++◌, Bool, not, ◌&&◌, ◌||◌, cond, length, get_or, leb, eqb}
use Rattle.format.specs.declared.Profile.{Profile}
use Rattle.format.specs.declared.Record.{Record}
use Rattle.format.specs.declared.Fault.TheVariants.{Room as ROOM, NoTarget as NOTARGET}
use Rattle.format.specs.Tests.{Outcome, got, ◌else◌at◌, no_section, tests, and_then, bit}
use Rattle.format.specs.Presence.{info_there, local_there, network_there}
use Rattle.format.specs.Shortcut.{shortcut, record_of, verdict_of}
use Rattle.format.specs.Bodies.{place_in, local_slot, net_slot, suffix_slot}
use Rattle.format.specs.Contents.{bytes_at}
use Rattle.format.specs.Writing.{output_of}
use Rattle.format.specs.Verdicts.{Verdict}

-- there is a target unless flag bit 8 is set, LinkInfo is absent, or neither of its bits 0 and 1 is set
abbrev pub targeted : ℕ → ℕ → Bool
targeted flags info_flags = not (bit 8 flags) && info_there flags && (local_there info_flags || network_there info_flags)

abbrev pub has_target : Record → Bool
has_target r = targeted r.header.flags r.link.flags

-- a backslash is wanted between two texts that both have bytes, unless the first brings it
abbrev pub separated : List ℕ → List ℕ → Bool
separated first suffix =
    not (eqb (length suffix) 0) && not (eqb (length first) 0) && not (eqb (get_or first (length first - 1) 0) 0x5C)

abbrev pub backslash : List ℕ
backslash = 0x5C ∷ []

abbrev pub separator : List ℕ → List ℕ → List ℕ
separator first suffix = cond (separated first suffix) backslash []

abbrev pub joined : List ℕ → List ℕ → List ℕ
joined first suffix = first ++ (separator first suffix ++ suffix)

-- the first text is the local path where there is one, else the net name
abbrev pub target_text : List ℕ → Record → List ℕ
target_text s r =
    joined (cond (local_there r.link.flags) (bytes_at s (place_in r local_slot)) (bytes_at s (place_in r net_slot))) (bytes_at s (place_in r suffix_slot))

-- after the tests of reading: 13, then 12
unfoldable pub target : Profile → List ℕ → ℕ → Outcome (List ℕ)
unfolding shortcut
target profile s room =
    and_then (shortcut profile s) (λ c n.
    let w = target_text s (record_of c) in
    tests no_section (has_target (record_of c) else NOTARGET at 0 ∷ leb (length w) room else ROOM at 0 ∷ []) (got w (length w)))

-- the answer, and the output buffer afterwards; the room is the buffer's length
unfoldable pub target_answer : Profile → List ℕ → List ℕ → Verdict
unfolding target
target_answer profile s out = verdict_of (target profile s (length out))

unfoldable pub target_output : Profile → List ℕ → List ℕ → List ℕ
unfolding target output_of
target_output profile s out = output_of (target profile s (length out)) out
