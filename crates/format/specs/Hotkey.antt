-- FORMAT: Hot key. The groups of its two tables, row for row, and beside them the two house rules.
use Rattle.std.specs.Prelude.{ℕ, ◌/◌, ◌%◌, ◌^◌, Bool, ◌&&◌, ◌||◌, leb, eqb}
use Rattle.format.specs.Tests.{bit}

abbrev pub among : ℕ → ℕ → ℕ → Bool
among a b x = leb a x && leb x b

-- ---- LowByte is one of these

-- 0x30 "0" key to 0x39 "9" key
abbrev pub digit : ℕ → Bool
digit k = among 0x30 0x39 k

-- 0x41 "A" key to 0x5A "Z" key
abbrev pub letter : ℕ → Bool
letter k = among 0x41 0x5A k

-- VK_F1 0x70 "F1" key to VK_F24 0x87 "F24" key
abbrev pub function_key : ℕ → Bool
function_key k = among 0x70 0x87 k

-- VK_NUMLOCK 0x90 "NUM LOCK" key
abbrev pub num_lock : ℕ → Bool
num_lock k = eqb k 0x90

-- VK_SCROLL 0x91 "SCROLL LOCK" key
abbrev pub scroll_lock : ℕ → Bool
scroll_lock k = eqb k 0x91

abbrev pub low_byte_ok : ℕ → Bool
low_byte_ok k = digit k || letter k || function_key k || num_lock k || scroll_lock k

-- ---- HighByte is one or a combination of these

-- HOTKEYF_SHIFT 0x01, the "SHIFT" key
abbrev pub shift_held : ℕ → Bool
shift_held m = bit 0 m

-- HOTKEYF_CONTROL 0x02, the "CTRL" key
abbrev pub ctrl_held : ℕ → Bool
ctrl_held m = bit 1 m

-- HOTKEYF_ALT 0x04, the "ALT" key
abbrev pub alt_held : ℕ → Bool
alt_held m = bit 2 m

-- at least one of them, and no other bit
abbrev pub high_byte_ok : ℕ → Bool
high_byte_ok m = (shift_held m || ctrl_held m || alt_held m) && eqb (m / 2 ^ 3) 0

-- ---- house rules, which have no row in the tables

-- house: 0 as a whole is allowed
abbrev pub no_hotkey : ℕ → Bool
no_hotkey h = eqb h 0

-- house: a key without a modifier is allowed
abbrev pub no_modifier : ℕ → Bool
no_modifier m = eqb m 0

-- ---- the rule

abbrev pub hotkey_ok : ℕ → Bool
hotkey_ok h = no_hotkey h || (low_byte_ok (h % 256) && (no_modifier (h / 256) || high_byte_ok (h / 256)))
