-- The number and the value of what is answered: 0 where the tests hold, else PIECE and the first field that fails.
use mathlib.Core.Path.{◌≡◌, refl}
use mathlib.Core.List.{List, [], ◌∷◌}
use mathlib.Core.Bool.{Bool, true, false, ◌&&◌, cond}
use Prim.Native.Nat.{ℕ, ◌+◌}
use lib.ListN.{drop}
use Rattle.std.specs.Prelude.{Some, Result, Ok, Err, unwrap_or}
use Rattle.octets.specs.Numbers.{u32_at}
use Rattle.format.specs.declared.Fault.TheVariants.{Piece as PIECE}
use Rattle.format.specs.Tests.{Test, all}
use Rattle.format.specs.Numbers.{number_of}
use Rattle.format.specs.Steps.Wrong.{wrong, given}
use Rattle.format.specs.Volume.{volume_rules}
use Rattle.format.specs.Network.{network_rules}
use Rattle.pieces.specs.Steps.Found.{label_length, network_texts_in, frame_tests, end_at, volume_in, network_in, end_number, end_value, volume_number, volume_value, network_number, network_value}

-- an answer after these tests, with the value right where they hold
pub record Told {A : Type 0} (number_in value_in : Result A ℕ → ℕ) (ts : List Test) (right : ℕ) (r : Result A ℕ) : Type 0 where
  pub number : number_in r ≡ cond (all ts) 0 (number_of PIECE)
  pub value : value_in r ≡ unwrap_or (wrong ts) right

module _ {A : Type 0} (number_in value_in : Result A ℕ → ℕ) (a : A) (right : ℕ) (n : number_in (Ok a) ≡ 0) (m : (i : ℕ) → number_in (Err i) ≡ number_of PIECE)
    (v : value_in (Ok a) ≡ right) (w : (i : ℕ) → value_in (Err i) ≡ i) where
  after : (ts : List Test) → Told number_in value_in ts right (given ts a)
  after [] = record { number = n; value = v }
  after (t ∷ ts) = let g = go t.holds (after ts) in record { number = g.0; value = g.1 }
    where
      go : (b : Bool) → Told number_in value_in ts right (given ts a)
          → (number_in (cond b (given ts a) (Err t.field)) ≡ cond (b && all ts) 0 (number_of PIECE)) × (value_in (cond b (given ts a) (Err t.field)) ≡ unwrap_or (cond b (wrong ts) (Some t.field)) right)
      go true h = (h.number, h.value)
      go false h = (m t.field, w t.field)

pub end_told : (l : List ℕ) (head least i o : ℕ) → Told end_number end_value (frame_tests l head least i o) (o + u32_at (drop o l) 0) (end_at l head least i o)
unfolding end_number end_value
end_told l head least i o = after end_number end_value (o + u32_at (drop o l) 0) (o + u32_at (drop o l) 0) refl (λ w. refl) refl (λ w. refl) (frame_tests l head least i o)

pub volume_told : (v : List ℕ) → Told volume_number volume_value (volume_rules v) 0 (volume_in v)
unfolding volume_number volume_value volume_in
volume_told v = after volume_number volume_value (label_length v) 0 refl (λ w. refl) refl (λ w. refl) (volume_rules v)

pub network_told : (v : List ℕ) → Told network_number network_value (network_rules v) 0 (network_in v)
unfolding network_number network_value network_in
network_told v = after network_number network_value (network_texts_in v) 0 refl (λ w. refl) refl (λ w. refl) (network_rules v)
