-- What the tests of LinkInfo find: its pieces, and the lengths of its texts where no field is at fault.
use Rattle.std.specs.Prelude.{ℕ, List, [], ◌∷◌, map, take, drop, Bool, true, false, Result, Ok, Err}
use Rattle.octets.specs.Numbers.{u32_at}
use Rattle.format.specs.declared.Profile.{Profile}
use Rattle.format.specs.declared.Profile.TheVariants.{Strict, NinetyFive}
use Rattle.format.specs.declared.Info.{Info}
use Rattle.format.specs.Steps.Wrong.{given}
use Rattle.format.specs.Pieces.{text_piece, span, each_ok, piece_tests}
use Rattle.format.specs.Volume.{volume_piece}
use Rattle.format.specs.Network.{network_piece}
use Rattle.format.specs.Info.{info_head, info_pieces, long_head, has_local, has_network, has_local_unicode, info_fields, info_places}
use Rattle.pieces.specs.declared.Found.{Found}
use Rattle.pieces.specs.declared.NetworkTexts.{NetworkTexts}
use Rattle.pieces.specs.Steps.Found.{found, body_length, label_bytes, network_texts}

-- whether the offset fields of absent parts are not looked at
unfoldable pub ignores_leftovers : Profile → Bool
ignores_leftovers Strict = false
ignores_leftovers NinetyFive = true

-- how many bytes each text of LinkInfo has, in the order of the slots; none of what is absent
unfoldable pub text_lengths : Info → List ℕ
text_lengths i = map (λ b. b.len) (info_places i)

abbrev pub no_lengths : List ℕ
no_lengths = 0 ∷ 0 ∷ 0 ∷ 0 ∷ 0 ∷ 0 ∷ 0 ∷ 0 ∷ 0 ∷ []

-- a row after the tests: as it was where a field is at fault. Lengths do not depend on where LinkInfo stands
unfoldable pub lengths_after : {A : Type 0} → Result A ℕ → List ℕ → List ℕ → List ℕ
unfolding text_lengths
lengths_after (Ok a) l row = text_lengths (info_fields 0 l)
lengths_after (Err field) l row = row

-- ---- the pieces, once they pass their tests: what each takes, and the lengths of its bodies

abbrev pub volume_is : List ℕ → Found ℕ
volume_is l = found (span (volume_piece (has_local l) l 12 (u32_at l 12))) (label_bytes (has_local l) l (u32_at l 12))

abbrev pub network_is : List ℕ → Found NetworkTexts
network_is l = found (span (network_piece (has_network l) l 20 (u32_at l 20))) (network_texts (has_network l) l (u32_at l 20))

-- to which the field at i leads
abbrev pub text_is : Bool → Bool → List ℕ → ℕ → Found ℕ
text_is present unicode l i = found (span (text_piece present unicode l i (u32_at l i))) (body_length present unicode l (u32_at l i))

abbrev pub Earlier : Type 0
Earlier = Found ℕ × Found ℕ × Found NetworkTexts

abbrev pub Later : Type 0
Later = Found ℕ × Found ℕ × Found ℕ

-- the first three, and those after them, where they pass their own tests
unfoldable pub earlier_in : List ℕ → Result Earlier ℕ
earlier_in l = given (each_ok (info_head l) (take 3 (info_pieces l))) (volume_is l, text_is (has_local l) false l 16, network_is l)

unfoldable pub later_in : List ℕ → Result Later ℕ
later_in l = given (each_ok (info_head l) (drop 3 (info_pieces l))) (text_is true false l 24, text_is (has_local_unicode l) true l 28, text_is (long_head l) true l 32)

-- all tests of pieces
unfoldable pub pieces_in : List ℕ → Result (Unit {0}) ℕ
pieces_in l = given (piece_tests (info_head l) (info_pieces l)) tt
