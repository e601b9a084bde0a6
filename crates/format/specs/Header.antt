-- FORMAT: Header. The rule of HotKey is in Hotkey.
use Rattle.std.specs.Prelude.{ℕ, ◌-◌, ◌/◌, ◌^◌, List, [], ◌∷◌, Bool, not, ◌&&◌, cond, length, take, leb, ltb, eqb, ℤ, pos, negsuc}
use Rattle.octets.specs.Numbers.{number, number_at, u16_at, u32_at, u64_at}
use Rattle.format.specs.declared.Profile.{Profile}
use Rattle.format.specs.declared.Profile.TheVariants.{Strict, NinetyFive}
use Rattle.format.specs.declared.Header.{Header}
use Rattle.format.specs.declared.Fault.TheVariants.{Cut as CUT, Magic as MAGIC, Head as HEAD}
use Rattle.format.specs.Tests.{Test, ◌else◌at◌, section, tests, got, Reader, bit}
use Rattle.format.specs.Hotkey.{hotkey_ok}

-- 01 14 02 00, 00 00 00 00, C0 00 00 00, 00 00 00 46
abbrev pub class_identifier : List ℕ
class_identifier =
    0x01 ∷ 0x14 ∷ 0x02 ∷ 0x00
    ∷ 0x00 ∷ 0x00 ∷ 0x00 ∷ 0x00
    ∷ 0xC0 ∷ 0x00 ∷ 0x00 ∷ 0x00
    ∷ 0x00 ∷ 0x00 ∷ 0x00 ∷ 0x46
    ∷ []

-- HeaderSize 0x4C
abbrev pub header_size_ok : ℕ → Bool
header_size_ok n = eqb n 0x4C

-- the class identifier: for bytes, equal numbers are equal bytes
unfoldable pub identifier_ok : List ℕ → Bool
unfolding number
identifier_ok l = eqb (number_at 16 l 4) (number class_identifier)

-- LinkFlags has bits 27 to 31 zero
abbrev pub flags_ok : ℕ → Bool
flags_ok f = eqb (f / 2 ^ 27) 0

-- FileAttributes has all bits clear from here on: 95 keeps bit 15
abbrev pub clear_from : Profile → ℕ
clear_from Strict = 15
clear_from NinetyFive = 16

-- so are bits 3 and 6 (house: bit 7 may be set)
abbrev pub attributes_ok : Profile → ℕ → Bool
attributes_ok profile a = not (bit 3 a) && not (bit 6 a) && eqb (a / 2 ^ clear_from profile) 0

-- one field of ten bytes, from 66 on, all zero
abbrev pub zeros_from_66 : List ℕ → Bool
zeros_from_66 l = eqb (number_at 10 l 66) 0

-- In what follows l is the 76 bytes.
abbrev pub head_tests : Profile → List ℕ → List Test
head_tests profile l =
    flags_ok (u32_at l 20) else HEAD at 20
    ∷ attributes_ok profile (u32_at l 24) else HEAD at 24
    ∷ hotkey_ok (u16_at l 64) else HEAD at 64
    ∷ zeros_from_66 l else HEAD at 66
    ∷ []

abbrev pub header_rules : Profile → List ℕ → List Test
header_rules profile l = header_size_ok (u32_at l 0) else MAGIC at 0 ∷ identifier_ok l else MAGIC at 4 ∷ head_tests profile l

-- 32 bits as a signed number
unfoldable pub signed : ℕ → ℤ
signed x = cond (ltb x 2147483648) (pos x) (negsuc (4294967295 - x))

abbrev pub header_fields : List ℕ → Header
header_fields l = record {
  flags = u32_at l 20;
  attributes = u32_at l 24;
  creation = u64_at l 28;
  access = u64_at l 36;
  write = u64_at l 44;
  file_size = u32_at l 52;
  icon_index = signed (u32_at l 56);
  command = u32_at l 60;
  hotkey = u16_at l 64;
}

abbrev pub header : Profile → Reader Header
header profile p s = tests (section 0 p) (leb 76 (length s) else CUT at 0 ∷ header_rules profile (take 76 s)) (got (header_fields (take 76 s)) 76)

-- a ShowCommand of 3 or 7 is the window shown; every other shows 1
abbrev pub window_shown : ℕ → ℕ
window_shown c = cond (eqb c 3) 3 (cond (eqb c 7) 7 1)
