-- What the programs write: the listing, the refusal and the key, in lines that end with a line feed.
use Rattle.std.specs.Prelude.{ℕ, zero, suc, ◌+◌, ◌/◌, ◌%◌, List, [], ◌∷◌, ◌++◌, cond, take, drop, get_or, ltb, Ok, Err}
use Rattle.format.specs.declared.Profile.{Profile}
use Rattle.format.specs.Numbers.{number_of}
use Rattle.format.specs.Tests.{Outcome, got, refused}
use Rattle.format.specs.Shortcut.{Sections, shortcut, reading}
use Rattle.format.specs.Key.{key_of, key_bytes}
use Rattle.format.specs.Listing.{Row, listing}
use Rattle.format.specs.Verdicts.{Verdict, refused_at}

-- ---- words and numbers, in ASCII

-- header, items, info, name, relative, workdir, arguments, icon, block, end
abbrev pub names : List (List ℕ)
names =
    (0x68 ∷ 0x65 ∷ 0x61 ∷ 0x64 ∷ 0x65 ∷ 0x72 ∷ [])
    ∷ (0x69 ∷ 0x74 ∷ 0x65 ∷ 0x6D ∷ 0x73 ∷ [])
    ∷ (0x69 ∷ 0x6E ∷ 0x66 ∷ 0x6F ∷ [])
    ∷ (0x6E ∷ 0x61 ∷ 0x6D ∷ 0x65 ∷ [])
    ∷ (0x72 ∷ 0x65 ∷ 0x6C ∷ 0x61 ∷ 0x74 ∷ 0x69 ∷ 0x76 ∷ 0x65 ∷ [])
    ∷ (0x77 ∷ 0x6F ∷ 0x72 ∷ 0x6B ∷ 0x64 ∷ 0x69 ∷ 0x72 ∷ [])
    ∷ (0x61 ∷ 0x72 ∷ 0x67 ∷ 0x75 ∷ 0x6D ∷ 0x65 ∷ 0x6E ∷ 0x74 ∷ 0x73 ∷ [])
    ∷ (0x69 ∷ 0x63 ∷ 0x6F ∷ 0x6E ∷ [])
    ∷ (0x62 ∷ 0x6C ∷ 0x6F ∷ 0x63 ∷ 0x6B ∷ [])
    ∷ (0x65 ∷ 0x6E ∷ 0x64 ∷ [])
    ∷ []

-- the name that has this number
unfoldable pub name_text : ℕ → List ℕ
name_text k = get_or names k []

abbrev pub ok_word : List ℕ
ok_word = 0x6F ∷ 0x6B ∷ []

abbrev pub refused_word : List ℕ
refused_word = 0x72 ∷ 0x65 ∷ 0x66 ∷ 0x75 ∷ 0x73 ∷ 0x65 ∷ 0x64 ∷ []

abbrev pub space : List ℕ
space = 0x20 ∷ []

abbrev pub line_feed : List ℕ
line_feed = 0x0A ∷ []

-- the decimal digits of n, at most k of them, without zeros in front
abbrev pub digits : ℕ → ℕ → List ℕ
digits zero n = []
digits (suc k) n = cond (ltb n 10) ((0x30 + n) ∷ []) (digits k (n / 10) ++ (0x30 + n % 10) ∷ [])

-- no number of 64 bits has more than twenty
unfoldable pub decimal : ℕ → List ℕ
decimal n = digits 20 n

-- 0 to 9, then a to f
unfoldable pub hex_digit : ℕ → ℕ
hex_digit x = cond (ltb x 10) (0x30 + x) (0x57 + x)

-- two digits for each byte, the higher first
unfoldable pub hex_of : List ℕ → List ℕ
hex_of [] = []
hex_of (a ∷ l) = hex_digit (a / 16) ∷ hex_digit (a % 16) ∷ hex_of l

-- ---- lines

-- name, start, length
unfoldable pub line_of : List ℕ → ℕ → ℕ → List ℕ
line_of name start len = name ++ (space ++ (decimal start ++ (space ++ (decimal len ++ line_feed))))

unfoldable pub row_line : Row → List ℕ
row_line x = line_of (name_text x.name) x.start x.len

unfoldable pub row_lines : List Row → List ℕ
row_lines [] = []
row_lines (x ∷ xs) = row_line x ++ row_lines xs

-- `ok` and the length; or `refused`, the number and the position
unfoldable pub verdict_line : Verdict → List ℕ
verdict_line (Ok n) = ok_word ++ (space ++ (decimal n ++ line_feed))
verdict_line (Err r) = refused_word ++ (space ++ (decimal (number_of r.fault) ++ (space ++ (decimal r.position ++ line_feed))))

-- ---- texts

-- the verdict, then a line per section; a refused shortcut has none
unfoldable pub listing_text : Profile → List ℕ → List ℕ
listing_text profile s = verdict_line (reading profile s).verdict ++ row_lines (listing profile s)

-- the key in hex, or the line of the refusal
abbrev pub key_line : List ℕ → Outcome Sections → List ℕ
key_line s (got c n) = hex_of (key_bytes (key_of s c)) ++ line_feed
key_line s (refused f p) = verdict_line (refused_at f p.position)

unfoldable pub key_text : Profile → List ℕ → List ℕ
key_text profile s = key_line s (shortcut profile s)

-- as much of a text from the place p on as there is room for
unfoldable pub piece : List ℕ → ℕ → ℕ → List ℕ
piece text p room = take room (drop p text)
