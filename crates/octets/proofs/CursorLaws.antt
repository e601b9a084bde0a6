-- What a cursor takes and skips: the number and the value of the answer, and from an answer back to the facts.
use mathlib.Core.Path.{◌≡◌, refl, ap}
use mathlib.Core.List.{List}
use mathlib.Core.Bool.{Bool, true, false, cond}
use Prim.Native.Nat.{ℕ, ◌+◌, ◌≤◌, ◌<◌}
use lib.ListN.{length}
use borrow.Author.Tests.{leb-true, leb-false}
use Rattle.std.specs.Prelude.{Result, Ok, Err}
use Rattle.octets.specs.Numbers.{number_at}
use Rattle.octets.specs.Steps.Cursors.{inside, taken, skipped, ok_or_cut, took_number, took_value, skipped_number, skipped_value}
use Rattle.octets.specs.declared.Cursor.{Cursor}
use Rattle.octets.proofs.ChoiceLaws.{cond_first, cond_second}

-- ---- numbers and values

module _ (w : ℕ) (s : List ℕ) (i : ℕ) where
  pub taken_has_number : took_number (taken w s i) ≡ ok_or_cut (inside s i w)
  unfolding took_number
  taken_has_number = go (inside s i w)
    where
      go : (b : Bool) → took_number (cond b (Ok (number_at w s i, record { at = i + w })) (Err (record { at = i }))) ≡ ok_or_cut b
      go true = refl
      go false = refl

  pub taken_has_value : took_value (taken w s i) ≡ cond (inside s i w) (number_at w s i) i
  unfolding took_value
  taken_has_value = go (inside s i w)
    where
      go : (b : Bool) → took_value (cond b (Ok (number_at w s i, record { at = i + w })) (Err (record { at = i }))) ≡ cond b (number_at w s i) i
      go true = refl
      go false = refl

module _ (s : List ℕ) (i n : ℕ) where
  pub skipped_has_number : skipped_number (skipped s i n) ≡ ok_or_cut (inside s i n)
  unfolding skipped_number
  skipped_has_number = go (inside s i n)
    where
      go : (b : Bool) → skipped_number (cond b (Ok (record { at = i + n })) (Err (record { at = i }))) ≡ ok_or_cut b
      go true = refl
      go false = refl

  pub skipped_has_value : skipped_value (skipped s i n) ≡ cond (inside s i n) (i + n) i
  unfolding skipped_value
  skipped_has_value = go (inside s i n)
    where
      go : (b : Bool) → skipped_value (cond b (Ok (record { at = i + n })) (Err (record { at = i }))) ≡ cond b (i + n) i
      go true = refl
      go false = refl

-- ---- from an answer to the facts

module _ (w : ℕ) (s : List ℕ) (i : ℕ) {t : Result (ℕ × Cursor) Cursor} (e : t ≡ taken w s i) where
  pub take_got : {n : ℕ} {d : Cursor} → t ≡ Ok (n, d) → (i + w ≤ length s) × (n ≡ number_at w s i) × (d.at ≡ i + w)
  take_got {n} {d} h =
      let (b, q) = cond_first (inside s i w) e (λ k. cc) in
      let k : ◌≡◌ {A = ℕ × Cursor} (n, d) (number_at w s i, record { at = i + w }) = cc in
      (leb-true (i + w) (length s) b, ap (λ (x : ℕ × Cursor). x.0) k, ap (λ (x : ℕ × Cursor). x.1.at) k)

  pub take_lost : {d : Cursor} → t ≡ Err d → length s < i + w
  take_lost h = leb-false (i + w) (length s) (cond_second (inside s i w) e (λ c. cc)).0

module _ (s : List ℕ) (i n : ℕ) {t : Result Cursor Cursor} (e : t ≡ skipped s i n) where
  pub skip_got : {d : Cursor} → t ≡ Ok d → (i + n ≤ length s) × (d.at ≡ i + n)
  skip_got {d} h =
      let (b, q) = cond_first (inside s i n) e (λ k. cc) in
      let k : d ≡ record { at = i + n } = cc in
      (leb-true (i + n) (length s) b, ap (λ (x : Cursor). x.at) k)

  pub skip_lost : {d : Cursor} → t ≡ Err d → length s < i + n
  skip_lost h = leb-false (i + n) (length s) (cond_second (inside s i n) e (λ c. cc)).0
