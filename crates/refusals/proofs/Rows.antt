-- What sections need, and where they are due, by computation.
use mathlib.Core.Path.{◌≡◌, refl}
use mathlib.Core.List.{[], ◌∷◌, ◌++◌}
use mathlib.Core.Bool.{true, false}
use lib.ListN.{take}
use Rattle.octets.specs.Numbers.{number, number_at, little}
use Rattle.format.specs.declared.Profile.TheVariants.{Strict}
use Rattle.format.specs.Header.{identifier_ok, signed}
use Rattle.format.specs.Blocks.{blocks_from}
use Rattle.format.specs.Shortcut.{sections, shortcut, faulted}
use Rattle.format.specs.Probes.{header_of, Z, dash_g1}
use Rattle.refusals.specs.Due.{Due, needed, needed_to}

-- a size of LinkInfo without its last byte, below the short head's and not; a block's, below 8 and not; one byte of it; none
pub sizes_need : needed false 2 (0x1B ∷ 0 ∷ 0 ∷ []) ∷ needed false 2 (0x1C ∷ 0 ∷ 0 ∷ []) ∷ needed false 9 (7 ∷ 0 ∷ []) ∷ needed false 9 (8 ∷ 0 ∷ []) ∷ needed false 9 (0xFF ∷ []) ∷ needed false 9 [] ∷ []
    ≡ 4 ∷ 0x1C ∷ 4 ∷ 8 ∷ 0xFF ∷ 4 ∷ []
unfolding number_at number
sizes_need = refl

-- one byte of a count: of an item list, of a string, of a Unicode string
pub counts_need : needed false 1 (3 ∷ []) ∷ needed false 6 (3 ∷ []) ∷ needed true 6 (3 ∷ []) ∷ [] ≡ 5 ∷ 5 ∷ 8 ∷ []
unfolding number_at number
counts_need = refl

-- Z: the header is due at 0, the terminal at 76
pub Due-in_Z : Due Strict Z 0 0 × Due Strict Z 9 76
unfolding faulted shortcut sections identifier_ok signed number_at number little blocks_from
Due-in_Z = (refl, refl)

-- P9: the arguments are due at 76, and need 8 bytes; cut after their count they need them still
pub Due-in_P9 : Due Strict (header_of 0xA0 0 ++ dash_g1) 6 76 × (needed_to (header_of 0xA0 0 ++ take 2 dash_g1) 6 76 ≡ 84)
unfolding faulted shortcut sections identifier_ok signed number_at number little blocks_from
Due-in_P9 = (refl, refl)
