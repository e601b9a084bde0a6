-- Reading without the rule that a known signature stands once.
use Rattle.std.specs.Prelude.{ℕ, zero, suc, ◌+◌, ◌-◌, List, [], ◌∷◌, length, leb, eqb}
use Rattle.format.specs.declared.Profile.{Profile}
use Rattle.format.specs.declared.Fault.TheVariants.{Cut as CUT, Long as LONG, Trail as TRAIL}
use Rattle.format.specs.Tests.{◌else◌at◌, section, no_section, spot_at, tests, Outcome, got, refused, Reader, and_then, chain, ◌then◌, no_place}
use Rattle.format.specs.Presence.{items_there, info_there, name_bit, relative_bit, workdir_bit, arguments_bit, icon_bit}
use Rattle.format.specs.Header.{header}
use Rattle.format.specs.Items.{items}
use Rattle.format.specs.Info.{info, no_info}
use Rattle.format.specs.Blocks.{block_size, terminal, block_step, follow}
use Rattle.format.specs.Shortcut.{most, found, section_if, string_section, Tail, Sections}

unfoldable pub blocks_from : ℕ → ℕ → List ℕ → Outcome (List ℕ)
blocks_from p zero [] = refused CUT (spot_at (terminal p) 0)
blocks_from p zero (a ∷ l) =
    let n = block_size (a ∷ l) in
    follow (block_step p (a ∷ l)) (blocks_from (p + n) (n - 1) l)
blocks_from p (suc k) [] = refused CUT (spot_at (terminal p) 0)
blocks_from p (suc k) (a ∷ l) = blocks_from p k l

abbrev pub blocks : Reader (List ℕ)
blocks p s = blocks_from p 0 s

abbrev pub tail : Profile → ℕ → Reader Tail
tail profile flags =
    section_if (items_there flags) no_place items
    then section_if (info_there flags) no_info (info profile)
    then string_section flags name_bit
    then string_section flags relative_bit
    then string_section flags workdir_bit
    then string_section flags arguments_bit
    then string_section flags icon_bit
    then found blocks

unfoldable pub sections : Profile → Reader Sections
sections profile = chain (found (header profile)) (λ h. tail profile h.read.flags)

unfoldable pub shortcut : Profile → List ℕ → Outcome Sections
unfolding sections
shortcut profile s =
    tests no_section (leb (length s) most else LONG at most ∷ [])
    (and_then (sections profile 0 s) (λ c n. tests (section 9 (n - 4)) (eqb n (length s) else TRAIL at 4 ∷ []) (got c n)))
