-- FORMAT: Salvage. Of a damaged shortcut the beginning that still reads, by the strict rules.
use Rattle.std.specs.Prelude.{ℕ, ◌+◌, ◌-◌, ◌≤◌, ◌<◌, ◌≡◌, List, [], ◌∷◌, ◌++◌, Bool, true, false, ◌&&◌, ◌||◌, cond, length, take, leb, eqb, Option, Some, None, Result, Ok, Err}
use Rattle.octets.specs.Numbers.{little}
use Rattle.octets.specs.Parts.{put}
use Rattle.format.specs.declared.Profile.TheVariants.{Strict}
use Rattle.format.specs.declared.Fault.{Fault}
use Rattle.format.specs.declared.Fault.TheVariants.{Lost as LOST, Room as ROOM}
use Rattle.format.specs.declared.Record.{Record}
use Rattle.format.specs.declared.Spot.{Spot}
use Rattle.format.specs.declared.Refusal.{Refusal}
use Rattle.format.specs.declared.Refused.{Refused}
use Rattle.format.specs.declared.Rescue.{Rescue}
use Rattle.format.specs.declared.Salvaged.{Salvaged}
use Rattle.format.specs.Numbers.{number_of, answer_number}
use Rattle.format.specs.Tests.{Outcome, got, refused, ◌else◌at◌, no_section, spot_at, tests}
use Rattle.format.specs.Blocks.{is_among}
use Rattle.format.specs.Shortcut.{most, shortcut, reading, faulted}
use Rattle.format.specs.Contents.{bytes_at}
use Rattle.format.specs.Writing.{output_of}
use Rattle.format.specs.Listing.{Row, listing, EndToEnd, section_place, section_bytes}
use Rattle.format.specs.Demands.{Accepts}
use Rattle.format.specs.Key.{Key, no_part}
use Rattle.format.specs.Verdicts.{Verdict}

-- ---- what can be kept, by the verdict of reading, the section at fault and its start

-- at a block, or where the terminal is missing
abbrev pub at_block : ℕ → Bool
at_block section = eqb section 8 || eqb section 9

-- CUT, BLOCK, TWICE, STORE
abbrev pub mendable : ℕ → Bool
mendable number = is_among number (2 ∷ 8 ∷ 14 ∷ 15 ∷ [])

-- the first n bytes, which end with their own terminal block
abbrev pub up_to : ℕ → ℕ → Option Rescue
up_to number n = Some (record { number = number; kept = n; mended = false })

-- the first n bytes, and behind them a zero terminal
abbrev pub before : ℕ → ℕ → Option Rescue
before number n = Some (record { number = number; kept = n; mended = true })

abbrev pub nothing : Option Rescue
nothing = None

-- with 9 up to the end of the terminal block; with 2, 8, 14 or 15 at a block or the missing terminal up to its start
unfoldable pub refused_by : ℕ → ℕ → ℕ → Option Rescue
refused_by number section start =
    cond (eqb number 9) (up_to number (start + 4))
    (cond (mendable number && at_block section) (before number start)
    nothing)

-- an accepted one whole
unfoldable pub rescue_of : Result ℕ Refusal → Option Rescue
unfolding number_of refused_by
rescue_of (Ok n) = up_to 0 n
rescue_of (Err r) = refused_by (number_of r.fault) r.spot.section r.spot.start

unfoldable pub rescue : List ℕ → Option Rescue
unfolding faulted rescue_of
rescue s = rescue_of (faulted Strict s)

-- ---- the call. 19 for all others and where the result would be too long for a shortcut; then 12

abbrev pub zero_terminal : List ℕ
zero_terminal = little 4 0

abbrev pub rescued : List ℕ → Rescue → List ℕ
rescued s r = take r.kept s ++ cond r.mended zero_terminal []

abbrev pub salvaging_by : List ℕ → Option Rescue → ℕ → Outcome (List ℕ)
salvaging_by s None room = refused LOST (spot_at no_section 0)
salvaging_by s (Some r) room =
    let w = rescued s r in
    tests no_section (leb (length w) most else LOST at 0 ∷ leb (length w) room else ROOM at 0 ∷ []) (got w (length w))

unfoldable pub salvaging : List ℕ → ℕ → Outcome (List ℕ)
unfolding rescue
salvaging s room = salvaging_by s (rescue s) room

abbrev pub unsaved : Fault → ℕ → Result Salvaged Refused
unsaved f p = Err (record { fault = f; position = p })

-- the bytes kept and dropped are bytes of the input
abbrev pub salvaged_by : List ℕ → Option Rescue → Outcome (List ℕ) → Result Salvaged Refused
salvaged_by s (Some r) (got w n) = Ok (record { len = n; number = r.number; kept = r.kept; dropped = length s - r.kept })
salvaged_by s (Some r) (refused f p) = unsaved f p.position
-- never met with bytes: of nothing none are saved
salvaged_by s None (got w n) = unsaved LOST 0
salvaged_by s None (refused f p) = unsaved f p.position

-- the verdict: accepted with the length of the result
abbrev pub salvage_verdict : Result Salvaged Refused → Verdict
salvage_verdict (Ok g) = Ok g.len
salvage_verdict (Err r) = Err r

-- the answer, and the output buffer afterwards; the room is the buffer's length
unfoldable pub salvage_answer : List ℕ → List ℕ → Result Salvaged Refused
unfolding rescue salvaging
salvage_answer s out = salvaged_by s (rescue s) (salvaging s (length out))

unfoldable pub salvage_output : List ℕ → List ℕ → List ℕ
unfolding salvaging output_of
salvage_output s out = output_of (salvaging s (length out)) out

-- ---- the words in which the promises are put

-- w is saved from s, of which the first k bytes are kept
pub record Saved (s : List ℕ) (k : ℕ) (w : List ℕ) : Type 0 where
  -- it is accepted
  pub held : Record
  pub accepted : Accepts Strict w held
  -- it begins as s does, and has no more after that than a terminal
  pub within : k ≤ length s
  pub begins : take k w ≡ take k s
  pub reach : length w ≤ k + 4
  -- its sections and blocks before the terminal fill it up to there
  pub rows : List Row
  pub end : ℕ
  pub listed : listing Strict w ≡ rows ++ record { name = 9; start = end; len = 4 } ∷ []
  pub full : EndToEnd 0 rows end
  -- each has the bytes that stand in s at the same place
  pub same : (name block : ℕ) → name < 9 → section_bytes Strict w name block ≡ bytes_at s (section_place Strict w name block)
  -- and every accepted shortcut that begins with the bytes kept has them too, as its first
  pub first : (u : List ℕ) (r : Record) → Accepts Strict u r → take k u ≡ take k s → (more : List Row) × (listing Strict u ≡ rows ++ more)

-- all other refused shortcuts: nothing of s can be saved
pub data Lost (s : List ℕ) : Type 0 where
  -- refused elsewhere than at a block, or with another number
  elsewhere : (f : Fault) (w : Spot) → shortcut Strict s ≡ refused f w → eqb (number_of f) 9 ≡ false → (mendable (number_of f) && at_block w.section) ≡ false → Lost s
  -- with the zero terminal it would be longer than a shortcut may be
  too_long : (f : Fault) (w : Spot) → shortcut Strict s ≡ refused f w → eqb (number_of f) 9 ≡ false → most < w.start + 4 → Lost s

-- how a call may end that salvages s into the lent buffer out: its answer, and that buffer afterwards
pub data SalvageEnds (s out : List ℕ) : Result Salvaged Refused → List ℕ → Type 0 where
  lost : Lost s → SalvageEnds s out (unsaved LOST 0) out
  no_room : (k : ℕ) (w : List ℕ) → Saved s k w → length out < length w → SalvageEnds s out (unsaved ROOM 0) out
  saved : (k dropped : ℕ) (w : List ℕ) → Saved s k w → length w ≤ length out → k + dropped ≡ length s
      → SalvageEnds s out (Ok (record { len = length w; number = answer_number (reading Strict s).verdict; kept = k; dropped = dropped })) (put out 0 w)

-- the key k of what was saved beside the key l of a shortcut that begins with the bytes kept: only the environment may be gone
pub data EnvironmentKept (k l : Key) : Type 0 where
  own : k.environment ≡ l.environment → EnvironmentKept k l
  gone : k.environment ≡ no_part → EnvironmentKept k l

pub record KeyKept (k l : Key) : Type 0 where
  pub unicode : k.unicode ≡ l.unicode
  pub target : k.target ≡ l.target
  pub arguments : k.arguments ≡ l.arguments
  pub workdir : k.workdir ≡ l.workdir
  pub environment : EnvironmentKept k l
