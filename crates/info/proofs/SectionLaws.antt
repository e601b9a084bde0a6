-- LinkInfo as a section: each way out, and the lengths of its texts.
use mathlib.Core.Path.{◌≡◌, refl, sym, ap, ap₂, ◌∙◌}
use mathlib.Core.List.{List, ◌∷◌}
use mathlib.Core.Bool.{Bool, true, false}
use Prim.Native.Nat.{ℕ, ◌+◌, ◌-◌, ◌≤◌, ◌<◌}
use native.Mathlib.Omega.{arith}
use lib.ListN.{length, take, drop, length-drop}
use lib.Dec.{leb}
use borrow.Author.Tests.{le-leb, lt-leb}
use Rattle.std.specs.Prelude.{Result, Ok, Err}
use Rattle.octets.specs.Numbers.{u32_at}
use Rattle.octets.specs.declared.Cursor.{Cursor}
use Rattle.format.specs.declared.Profile.{Profile}
use Rattle.format.specs.declared.Fault.{Fault}
use Rattle.format.specs.declared.Fault.TheVariants.{Cut as CUT, Info as INFO, Piece as PIECE}
use Rattle.format.specs.declared.Refusal.{Refusal}
use Rattle.format.specs.declared.Info.{Info}
use Rattle.format.specs.Tests.{Site, section, spot_at, Outcome, got, refused, Test, ◌else◌at◌, tests}
use Rattle.format.specs.Numbers.{outcome_number}
use Rattle.format.specs.Steps.Answers.{refusal, outcome_end}
use Rattle.format.specs.Info.{info_size, info_head_tests, info_rules, info_fields, info}
use Rattle.format.proofs.Chains.{tests-append}
use Rattle.format.proofs.WrongLaws.{Faults, Faults-OfFault, one_fault, given_some}
use Rattle.format.proofs.Holds.{info_piece_tests}
use Rattle.info.specs.Steps.Found.{text_lengths, no_lengths, lengths_after, pieces_in}
use Rattle.info.specs.Steps.Taken.{OwnPart, info_taken, info_at, said_by, info_held, info_number, info_value, InfoAnswer}
use Rattle.pieces.proofs.TestLaws.{told, Fields-refused, tests_passed}
use Rattle.pieces.proofs.StructLaws.{first_number}
use Rattle.info.proofs.InfoLaws.{piece_tests_Fields, pieces_most, head_passed}
use Rattle.info.proofs.LengthLaws.{lengths_anywhere, row_kept}

head_Faults : (profile : Profile) (l : List ℕ) → Faults INFO (info_head_tests profile l)
head_Faults profile l = (refl, (omega arith, (refl, (omega arith, (refl, (omega arith, (refl, (omega arith, (refl, (omega arith, (refl, (omega arith, tt))))))))))))

three_pass : {A : Type 0} (w : Site) (a b c : Bool) (f g h : Fault) (ts : List Test) (r : Outcome A) → a ≡ true → b ≡ true → c ≡ true
    → tests w (a else f at 0 ∷ b else g at 0 ∷ c else h at 0 ∷ ts) r ≡ tests w ts r
three_pass w a b c f g h ts r i j k = rw (i, j, k)

module _ (profile : Profile) (s : List ℕ) (p : ℕ) where
  abbrev here : Site
  here = section 2 p

  abbrev reading : Outcome Info
  reading = info profile p (drop p s)

  answered : (o : Outcome Info) → reading ≡ o → info_at profile s p ≡ info_taken p o
  unfolding info_at
  answered o e = ap (info_taken p) e

  -- after a refusal nothing is said
  pub held_nothing : {r : Refusal} → info_at profile s p ≡ Err r → text_lengths (info_held profile s p) ≡ no_lengths
  unfolding info_at info_held text_lengths
  held_nothing {r} = go reading
    where
      go : (o : Outcome Info) → info_taken p o ≡ Err r → text_lengths (said_by o) ≡ no_lengths
      go (got i n) e = cc
      go (refused f q) e = refl

  pub info_cut : length s < p + 4 → info_at profile s p ≡ Err (refusal CUT (spot_at here 0))
  info_cut k = answered (refused CUT (spot_at here 0)) (rw (length-drop p s, lt-leb 4 (length s - p) (omega arith)))

  module _ (f : p + 4 ≤ length s) where
    starts : leb 4 (length (drop p s)) ≡ true
    starts = le-leb 4 (length (drop p s)) (rw length-drop (omega arith))

    pub info_small : u32_at s p < 0x1C → info_at profile s p ≡ Err (refusal INFO (spot_at here 0))
    info_small k = answered (refused INFO (spot_at here 0)) (rw (starts, first_number s p, lt-leb 0x1C (u32_at s p) k))

    module _ (k : 0x1C ≤ u32_at s p) where
      pub info_past : length s < p + u32_at s p → info_at profile s p ≡ Err (refusal CUT (spot_at here 0))
      info_past g =
          let i : leb (u32_at s p) (length (drop p s)) ≡ false = lt-leb (u32_at s p) (length (drop p s)) (rw length-drop (omega arith)) in
          answered (refused CUT (spot_at here 0)) (rw (starts, first_number s p, le-leb 0x1C (u32_at s p) k, i))

  -- ---- of its own part

  module _ {l : List ℕ} {d : Cursor} (P : OwnPart s p l d) where
    abbrev said : Outcome Info
    said = got (info_fields p l) (u32_at s p)

    read_part : reading ≡ tests here (info_rules profile l) said
    read_part =
        let t : List ℕ = drop p s in
        let m : ℕ = info_size t in
        let z : m ≡ u32_at s p = first_number s p in
        let j : take m t ≡ l = ap (λ (i : ℕ). take i t) z ∙ sym P.bytes in
        let b : 0x1C ≤ m = rw z P.least in
        let c : m ≤ length t = rw (z, length-drop) (omega arith) in
        three_pass here (leb 4 (length t)) (leb 0x1C m) (leb m (length t)) CUT INFO CUT (info_rules profile (take m t)) (got (info_fields p (take m t)) m) (starts P.starts) (le-leb 0x1C m b) (le-leb m (length t) c)
        ∙ ap₂ (λ (k : List ℕ) (i : ℕ). tests here (info_rules profile k) (got (info_fields p k) i)) j z

    grouped : reading ≡ tests here (info_head_tests profile l) (tests here (info_piece_tests l) said)
    grouped = read_part ∙ tests-append here (info_head_tests profile l) (info_piece_tests l) said

    pub head_lost : {w : ℕ} → told (info_head_tests profile l) ≡ Err w → info_at profile s p ≡ Err (refusal INFO (spot_at here w))
    head_lost {w} x =
        let n = given_some (info_head_tests profile l) tt x in
        answered (refused INFO (spot_at here w)) (grouped ∙ one_fault INFO here (info_head_tests profile l) (tests here (info_piece_tests l) said) (Faults-OfFault INFO (info_head_tests profile l) (head_Faults profile l)) ∙ rw n)

    pub head_silent : {w : ℕ} → told (info_head_tests profile l) ≡ Err w → text_lengths (info_held profile s p) ≡ no_lengths
    head_silent x = held_nothing (head_lost x)

    module _ {x : Unit {0}} (H : told (info_head_tests profile l) ≡ Ok x) where
      past_head : reading ≡ tests here (info_piece_tests l) said
      past_head = grouped ∙ tests_passed here (info_head_tests profile l) (tests here (info_piece_tests l) said) tt H

      pub piece_lost : {w : ℕ} → pieces_in l ≡ Err w → info_at profile s p ≡ Err (refusal PIECE (spot_at here w))
      unfolding pieces_in
      piece_lost {w} y = answered (refused PIECE (spot_at here w)) (past_head ∙ Fields-refused (length l + 32) here (info_piece_tests l) said tt (piece_tests_Fields l) y)

      pub piece_silent : {w : ℕ} → pieces_in l ≡ Err w → text_lengths (info_held profile s p) ≡ no_lengths
      piece_silent y = held_nothing (piece_lost y)

      module _ {y : Unit {0}} (Q : pieces_in l ≡ Ok y) where
        past_pieces : reading ≡ said
        unfolding pieces_in
        past_pieces = past_head ∙ tests_passed here (info_piece_tests l) said tt Q

        pub info_right : info_at profile s p ≡ Ok d
        info_right = answered said past_pieces ∙ rw (← P.after)

        pub held_right : (row : List ℕ) → lengths_after (Ok y) l row ≡ text_lengths (info_held profile s p)
        unfolding lengths_after info_held
        held_right row = lengths_anywhere 0 p l ∙ ap (λ (o : Outcome Info). text_lengths (said_by o)) (sym past_pieces)

pub ruleset part_read = (info_cut, info_small, info_past)

pub ruleset section_read = (head_passed, pieces_most, head_lost, piece_lost, info_right, held_nothing, held_right, row_kept)

-- ---- the number and the value of the answer

pub info_answered : (profile : Profile) (s : List ℕ) (p : ℕ) {r : Result Cursor Refusal} → r ≡ info_at profile s p → InfoAnswer profile s p r
unfolding info_at info_number info_value
info_answered profile s p e = let o : Outcome Info = reading profile s p in rw e (record { is = refl; number = number o; value = value o })
  where
    number : (o : Outcome Info) → info_number (info_taken p o) ≡ outcome_number o
    number (got i n) = refl
    number (refused f q) = refl

    value : (o : Outcome Info) → info_value (info_taken p o) ≡ outcome_end p o
    value (got i n) = refl
    value (refused f q) = refl
