-- FORMAT: C numbers. An entry of a shelf in one number.
use Rattle.std.specs.Prelude.{ℕ, ◌+◌, ◌*◌, Result, Ok, Err}
use Rattle.format.specs.declared.Place.{Place}
use Rattle.format.specs.declared.Refused.{Refused}
use Rattle.scheduler.specs.Code.{code_of}

-- a start may pass 65,536, so the length is the low part: length + 65,537 x start
unfoldable pub fetch_code : Result Place Refused → ℕ
fetch_code (Ok b) = 256 * (b.len + 65537 * b.at)
fetch_code (Err r) = code_of (Err r)
