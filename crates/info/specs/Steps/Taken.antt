-- What the reader of LinkInfo answers, in terms of reading.
use Rattle.std.specs.Prelude.{ℕ, ◌+◌, ◌≤◌, ◌≡◌, List, length, take, drop, Result, Ok, Err}
use Rattle.octets.specs.Numbers.{u32_at}
use Rattle.octets.specs.declared.Cursor.{Cursor}
use Rattle.format.specs.declared.Profile.{Profile}
use Rattle.format.specs.declared.Refusal.{Refusal}
use Rattle.format.specs.declared.Info.{Info}
use Rattle.format.specs.Tests.{Outcome, got, refused}
use Rattle.format.specs.Info.{info, no_info}
use Rattle.format.specs.Numbers.{number_of}
use Rattle.format.specs.Steps.Answers.{refusal, Answers}

-- LinkInfo from p on
abbrev pub info_taken : ℕ → Outcome Info → Result Cursor Refusal
info_taken p (got i n) = Ok (record { at = p + n })
info_taken p (refused f q) = Err (refusal f q)

unfoldable pub info_at : Profile → List ℕ → ℕ → Result Cursor Refusal
info_at profile s p = info_taken p (info profile p (drop p s))

-- what it says; nothing after a refusal
abbrev pub said_by : Outcome Info → Info
said_by (got i n) = i
said_by (refused f q) = no_info

unfoldable pub info_held : Profile → List ℕ → ℕ → Info
info_held profile s p = said_by (info profile p (drop p s))

unfoldable pub info_number : Result Cursor Refusal → ℕ
info_number (Ok c) = 0
info_number (Err r) = number_of r.fault

-- where LinkInfo ends, or the position of a refusal
unfoldable pub info_value : Result Cursor Refusal → ℕ
info_value (Ok c) = c.at
info_value (Err r) = r.spot.position

abbrev pub InfoAnswer : Profile → List ℕ → ℕ → Result Cursor Refusal → Type 0
InfoAnswer profile s p r = Answers info_number info_value p (info profile p (drop p s)) (info_at profile s p) r

-- of a LinkInfo at p whose size is right: l is its own part of s, and it ends at the cursor d
pub record OwnPart (s : List ℕ) (p : ℕ) (l : List ℕ) (d : Cursor) : Type 0 where
  pub starts : p + 4 ≤ length s
  pub least : 0x1C ≤ u32_at s p
  pub sized : length l ≡ u32_at s p
  pub bytes : l ≡ take (u32_at s p) (drop p s)
  pub after : d.at ≡ p + u32_at s p
  pub inside : d.at ≤ length s
