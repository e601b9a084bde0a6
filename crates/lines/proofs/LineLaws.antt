-- The lines from their parts.
use mathlib.Core.Path.{◌≡◌, ◌∙◌}
use mathlib.Core.List.{List, [], ◌∷◌, ◌++◌, append_assoc}
use mathlib.Core.Bool.{Bool, true, false}
use Prim.Native.Nat.{ℕ, ◌-◌}
use Rattle.format.specs.declared.Refused.{Refused}
use Rattle.format.specs.Numbers.{number_of}
use Rattle.format.specs.Presence.{items_there, info_there, name_bit, relative_bit, workdir_bit, arguments_bit, icon_bit, string_there}
use Rattle.reader.specs.declared.SectionEnds.{SectionEnds}
use Rattle.lines.specs.Text.{name_text, space, line_feed, decimal, line_of, verdict_line}
use Rattle.lines.specs.Steps.Windows.{line_if, section_lines}
use Rattle.format.specs.Verdicts.{Verdict}
use Rattle.std.specs.Prelude.{Ok, Err}

-- parts one after another are one text
five : (a b c d e : List ℕ) → (((a ++ b) ++ c) ++ d) ++ e ≡ a ++ (b ++ (c ++ (d ++ e)))
five a b c d e = simp append_assoc

pub accepted_line : {v : Verdict} {n : ℕ} → v ≡ Ok n → ((0x6F ∷ 0x6B ∷ 0x20 ∷ []) ++ decimal n) ++ line_feed ≡ verdict_line v
unfolding verdict_line
accepted_line e = rw e

pub refused_line : {v : Verdict} {r : Refused} {k : ℕ} → v ≡ Err r → k ≡ number_of r.fault
    → ((((0x72 ∷ 0x65 ∷ 0x66 ∷ 0x75 ∷ 0x73 ∷ 0x65 ∷ 0x64 ∷ 0x20 ∷ []) ++ decimal k) ++ space) ++ decimal r.position) ++ line_feed ≡ verdict_line v
unfolding verdict_line
refused_line {r = r} e k = rw (e, k) (five (0x72 ∷ 0x65 ∷ 0x66 ∷ 0x75 ∷ 0x73 ∷ 0x65 ∷ 0x64 ∷ 0x20 ∷ []) (decimal (number_of r.fault)) space (decimal r.position) line_feed)

pub line_parts : (name : List ℕ) (p n : ℕ) → ((((name ++ space) ++ decimal p) ++ space) ++ decimal n) ++ line_feed ≡ line_of name p n
unfolding line_of
line_parts name p n = five (name ++ space) (decimal p) space (decimal n) line_feed ∙ append_assoc name space _

pub line_there : {b : Bool} (name : List ℕ) (p e : ℕ) {n : ℕ} → b ≡ true → n ≡ e - p → line_of name p n ≡ line_if b name p e
unfolding line_if
line_there name p e t k = rw (t, k)

pub line_absent : {b : Bool} (name : List ℕ) (p e : ℕ) → b ≡ false → [] ≡ line_if b name p e
unfolding line_if
line_absent name p e t = rw t

eight : (a b c d e f g h : List ℕ) → ((((((a ++ b) ++ c) ++ d) ++ e) ++ f) ++ g) ++ h ≡ a ++ (b ++ (c ++ (d ++ (e ++ (f ++ (g ++ h))))))
eight a b c d e f g h = simp append_assoc

pub section_parts : (f : ℕ) (e : SectionEnds) {b₁ b₂ b₃ b₄ b₅ b₆ b₇ : Bool} → b₁ ≡ items_there f → b₂ ≡ info_there f → b₃ ≡ string_there name_bit f → b₄ ≡ string_there relative_bit f
    → b₅ ≡ string_there workdir_bit f → b₆ ≡ string_there arguments_bit f → b₇ ≡ string_there icon_bit f
    → ((((((line_of (name_text 0) 0 76 ++ line_if b₁ (name_text 1) 76 e.items) ++ line_if b₂ (name_text 2) e.items e.info) ++ line_if b₃ (name_text 3) e.info e.name)
    ++ line_if b₄ (name_text 4) e.name e.relative) ++ line_if b₅ (name_text 5) e.relative e.workdir) ++ line_if b₆ (name_text 6) e.workdir e.arguments)
    ++ line_if b₇ (name_text 7) e.arguments e.icon
    ≡ section_lines f e
unfolding section_lines
section_parts f e t₁ t₂ t₃ t₄ t₅ t₆ t₇ =
    rw (t₁, t₂, t₃, t₄, t₅, t₆, t₇)
    (eight (line_of (name_text 0) 0 76) (line_if (items_there f) (name_text 1) 76 e.items) (line_if (info_there f) (name_text 2) e.items e.info)
    (line_if (string_there name_bit f) (name_text 3) e.info e.name) (line_if (string_there relative_bit f) (name_text 4) e.name e.relative)
    (line_if (string_there workdir_bit f) (name_text 5) e.relative e.workdir) (line_if (string_there arguments_bit f) (name_text 6) e.workdir e.arguments)
    (line_if (string_there icon_bit f) (name_text 7) e.arguments e.icon))
