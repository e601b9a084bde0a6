-- Texts of small shortcuts, by computation.
use mathlib.Core.Path.{◌≡◌, refl}
use mathlib.Core.List.{[], ◌∷◌, ◌++◌}
use lib.ListN.{replicate}
use Rattle.octets.specs.Numbers.{number, number_at, little}
use Rattle.octets.specs.Characters.{units, before_zero}
use Rattle.format.specs.declared.Profile.TheVariants.{Strict}
use Rattle.format.specs.Numbers.{number_of}
use Rattle.format.specs.Header.{identifier_ok, signed}
use Rattle.format.specs.Items.{item_tests}
use Rattle.format.specs.Blocks.{slot_of, size_fits, inside_tests, blocks_from}
use Rattle.format.specs.Shortcut.{sections, shortcut, reading}
use Rattle.format.specs.Key.{key_of, key_bytes}
use Rattle.format.specs.Listing.{listing}
use Rattle.format.specs.Probes.{Z}
use Rattle.lines.specs.Text.{name_text, decimal, hex_digit, hex_of, line_of, row_line, row_lines, verdict_line, listing_text, key_text}

-- `ok 80`, `header 0 76`, `end 76 4`; `refused 2 0`; the key of 21 zero bytes
pub text_rows : listing_text Strict Z ∷ listing_text Strict [] ∷ key_text Strict Z ∷ key_text Strict [] ∷ []
    ≡ (0x6F ∷ 0x6B ∷ 0x20 ∷ 0x38 ∷ 0x30 ∷ 0x0A ∷ 0x68 ∷ 0x65 ∷ 0x61 ∷ 0x64 ∷ 0x65 ∷ 0x72 ∷ 0x20 ∷ 0x30 ∷ 0x20 ∷ 0x37 ∷ 0x36 ∷ 0x0A ∷ 0x65 ∷ 0x6E ∷ 0x64 ∷ 0x20 ∷ 0x37 ∷ 0x36 ∷ 0x20 ∷ 0x34 ∷ 0x0A ∷ [])
    ∷ (0x72 ∷ 0x65 ∷ 0x66 ∷ 0x75 ∷ 0x73 ∷ 0x65 ∷ 0x64 ∷ 0x20 ∷ 0x32 ∷ 0x20 ∷ 0x30 ∷ 0x0A ∷ [])
    ∷ (replicate 42 0x30 ++ 0x0A ∷ [])
    ∷ (0x72 ∷ 0x65 ∷ 0x66 ∷ 0x75 ∷ 0x73 ∷ 0x65 ∷ 0x64 ∷ 0x20 ∷ 0x32 ∷ 0x20 ∷ 0x30 ∷ 0x0A ∷ [])
    ∷ []
unfolding number number_at little units before_zero number_of identifier_ok signed item_tests slot_of size_fits inside_tests blocks_from sections shortcut reading key_of key_bytes listing name_text decimal hex_digit hex_of line_of row_line row_lines verdict_line listing_text key_text
text_rows = refl
