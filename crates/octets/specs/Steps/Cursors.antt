-- What a cursor takes, and where it stands then. An operation that would pass the end answers that the bytes are cut.
use Rattle.std.specs.Prelude.{ℕ, ◌+◌, List, Bool, cond, if◌then◌else◌, length, leb, Result, Ok, Err}
use Rattle.octets.specs.Numbers.{number_at}
use Rattle.octets.specs.declared.Cursor.{Cursor}

-- n bytes stand from the place i on
abbrev pub inside : List ℕ → ℕ → ℕ → Bool
inside s i n = leb (i + n) (length s)

-- a number of w bytes and the next cursor, or the cursor where it stood
abbrev pub taken : ℕ → List ℕ → ℕ → Result (ℕ × Cursor) Cursor
taken w s i = if inside s i w then Ok (number_at w s i, record { at = i + w }) else Err (record { at = i })

-- the cursor n bytes on, or the cursor where it stood
abbrev pub skipped : List ℕ → ℕ → ℕ → Result Cursor Cursor
skipped s i n = if inside s i n then Ok (record { at = i + n }) else Err (record { at = i })

-- ---- numbers and values of the answers

-- 0 OK or 2 CUT
abbrev pub ok_or_cut : Bool → ℕ
ok_or_cut b = cond b 0 2

unfoldable pub took_number : Result (ℕ × Cursor) Cursor → ℕ
took_number (Ok t) = 0
took_number (Err c) = 2

-- the number taken, or where the cursor stays
unfoldable pub took_value : Result (ℕ × Cursor) Cursor → ℕ
took_value (Ok t) = t.0
took_value (Err c) = c.at

unfoldable pub skipped_number : Result Cursor Cursor → ℕ
skipped_number (Ok c) = 0
skipped_number (Err c) = 2

-- where the cursor stands then
unfoldable pub skipped_value : Result Cursor Cursor → ℕ
skipped_value (Ok c) = c.at
skipped_value (Err c) = c.at
