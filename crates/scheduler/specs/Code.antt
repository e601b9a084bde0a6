-- FORMAT: C numbers. Number and value in one number.
use Rattle.std.specs.Prelude.{ℕ, ◌+◌, ◌*◌, Result, Ok, Err}
use Rattle.format.specs.declared.Place.{Place}
use Rattle.format.specs.declared.Refusal.{Refusal}
use Rattle.format.specs.declared.Refused.{Refused}
use Rattle.format.specs.declared.Salvaged.{Salvaged}
use Rattle.format.specs.Numbers.{number_of, answer_number, answer_value}
use Rattle.format.specs.Verdicts.{Verdict}

-- number + 256 x value
unfoldable pub code_of : Verdict → ℕ
unfolding answer_number answer_value
code_of v = answer_number v + 256 * answer_value v

-- of a fault: the value position + 65,537 x (start + 65,537 x number of the section); 0 where there is none
unfoldable pub fault_code : Result ℕ Refusal → ℕ
unfolding number_of
fault_code (Ok n) = 0
fault_code (Err r) = number_of r.fault + 256 * (r.spot.position + 65537 * (r.spot.start + 65537 * r.spot.section))

-- of a section shown: 0 and the value place + 65,537 x length; so 0 for an empty one
unfoldable pub section_code : Place → ℕ
section_code b = 256 * (b.at + 65537 * b.len)

-- of a salvage: 0 and the value number that the shortcut was refused with + 256 x (bytes kept + 131,072 x bytes dropped)
unfoldable pub salvage_code : Result Salvaged Refused → ℕ
unfolding code_of
salvage_code (Ok g) = 256 * (g.number + 256 * (g.kept + 131072 * g.dropped))
salvage_code (Err r) = code_of (Err r)
