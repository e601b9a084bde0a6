-- FORMAT: Property store. What an A0000009 block holds from its byte 8 on.
use Rattle.std.specs.Prelude.{ℕ, zero, suc, ◌+◌, ◌-◌, List, [], ◌∷◌, ◌++◌, Bool, false, cond, length, take, drop, get_or, leb, eqb}
use Rattle.octets.specs.Numbers.{number, number_at, u32_at}
use Rattle.format.specs.declared.Fault.TheVariants.{Store as STORE}
use Rattle.format.specs.Tests.{Test, ◌else◌at◌}

-- ---- parts by their sizes: the storages of a store, and the values of a storage

-- part after part, each with a size of four bytes that counts itself and is no less than the least, up to a zero size, which is the last.
-- A size stands at i, or k bytes of the part before it are still to come; a part's own tests are given its place and its bytes
unfoldable pub part_tests : ℕ → (ℕ → List ℕ → List Test) → ℕ → ℕ → List ℕ → List Test
part_tests least own i zero [] = false else STORE at i ∷ []
part_tests least own i zero (a ∷ l) =
    let s = a ∷ l in
    let n = u32_at s 0 in
    let rest = part_tests least own (i + n) (n - 1) l in
    leb 4 (length s) else STORE at i
    ∷ cond (eqb n 0) (eqb (length s) 4 else STORE at i ∷ [])
    (leb least n else STORE at i ∷ leb n (length s) else STORE at i ∷ own i (take n s) ++ rest)
-- never met: a part's size was tested against what is left
part_tests least own i (suc k) [] = false else STORE at i ∷ []
part_tests least own i (suc k) (a ∷ l) = part_tests least own i k l

-- ---- a value: its size; number or name length; the byte that is zero; its name or none; its raw bytes

-- {D5CDD505-2E9C-101B-9397-08002B2CF9AE}
abbrev pub named_format : List ℕ
named_format =
    0x05 ∷ 0xD5 ∷ 0xCD ∷ 0xD5
    ∷ 0x9C ∷ 0x2E ∷ 0x1B ∷ 0x10
    ∷ 0x93 ∷ 0x97 ∷ 0x08 ∷ 0x00
    ∷ 0x2B ∷ 0x2C ∷ 0xF9 ∷ 0xAE
    ∷ []

-- under the named format the four bytes after the size are the name's length, under others a number, and there is no name
abbrev pub name_length : Bool → List ℕ → ℕ
name_length named v = cond named (u32_at v 4) 0

abbrev pub value_tests : Bool → ℕ → List ℕ → List Test
value_tests named i v = leb (9 + name_length named v) (length v) else STORE at (i + 4) ∷ eqb (get_or v 8 0) 0 else STORE at (i + 8) ∷ []

abbrev pub values_tests : Bool → ℕ → List ℕ → List Test
values_tests named i l = part_tests 9 (value_tests named) i 0 l

-- ---- a storage: size, version, format identifier of 16 bytes, the values

-- for bytes, equal numbers are equal bytes
unfoldable pub is_named : List ℕ → Bool
unfolding number
is_named identifier = eqb (number_at 16 identifier 0) (number named_format)

abbrev pub identifier_of : List ℕ → List ℕ
identifier_of v = take 16 (drop 8 v)

abbrev pub storage_tests : ℕ → List ℕ → List Test
storage_tests i v = eqb (u32_at v 4) 0x53505331 else STORE at (i + 4) ∷ values_tests (is_named (identifier_of v)) (i + 24) (drop 24 v)

-- ---- the store: storages, from i on to its end

unfoldable pub store_tests : ℕ → List ℕ → List Test
unfolding is_named
store_tests i l = part_tests 28 storage_tests i 0 l
