-- FORMAT: Salvage call, C numbers. How a salvage may end, by its report: the answer c is its code, and x is the lent buffer afterwards.
use Rattle.std.specs.Prelude.{ℕ, ◌≡◌, List, Result}
use Rattle.format.specs.declared.Refused.{Refused}
use Rattle.format.specs.declared.Salvaged.{Salvaged}
use Rattle.format.specs.Salvage.{SalvageEnds}
use Rattle.scheduler.specs.Code.{salvage_code}

pub record SalvageCodeEnds (s out : List ℕ) (c : ℕ) (x : List ℕ) : Type 0 where
  pub report : Result Salvaged Refused
  pub code : c ≡ salvage_code report
  pub ends : SalvageEnds s out report x
