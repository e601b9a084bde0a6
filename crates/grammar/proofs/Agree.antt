-- A reader and a part of the grammar say the same, and so do readers one after another and parts end to end.
use mathlib.Core.Path.{◌≡◌, refl, sym, ap, subst, ◌∙◌}
use mathlib.Core.List.{List, [], ◌∷◌, ◌++◌, append_assoc, append-nil}
use mathlib.Core.Bool.{Bool, true, false}
use Prim.Native.Nat.{ℕ, ◌+◌, ◌≤◌}
use native.Mathlib.Omega.{arith}
use lib.ListN.{length, take, drop, length-append, length-drop}
use lib.Seq.{length-take-le, take-add, take-append_seam, drop-append_seam}
use Rattle.octets.specs.Numbers.{Bytes}
use Rattle.octets.proofs.NumberLaws.{Bytes-drop, Bytes-take}
use Rattle.format.specs.Tests.{Outcome, got, refused, Reader, and_then, chain}
use Rattle.format.specs.Shortcut.{Section, absent, found, section_if}
use Rattle.format.proofs.Chains.{got_elim, no_value, chain_elim}
use Rattle.grammar.specs.Grammar.{FilePart, Joined, AllJoined, PartIf}

-- ---- the bytes of two parts

pub Bytes-left : (x y : List ℕ) → Bytes (x ++ y) → Bytes x
Bytes-left x y bs = rw (take-append_seam x y) at (Bytes-take (length x) (x ++ y) bs)

pub Bytes-right : (x y : List ℕ) → Bytes (x ++ y) → Bytes y
Bytes-right x y bs = rw (drop-append_seam x y) at (Bytes-drop (length x) (x ++ y) bs)

-- ---- a reader and a part

-- what a reader gave for the n first bytes of s
pub record Gave {A : Type 0} (P : Reader A) (Held : ℕ → A → Type 0) (p : ℕ) (s : List ℕ) (n : ℕ) : Type 0 where
  pub value : A
  pub is : P p s ≡ got value n
  pub held : Held p value

-- Held says of a value that it is what the record has
pub record Agrees {A : Type 0} (P : Reader A) (Held : ℕ → A → Type 0) (G : FilePart) : Type 0 where
  pub told : (p : ℕ) (s : List ℕ) (a : A) (n : ℕ) → Bytes s → P p s ≡ got a n → Held p a → (n ≤ length s) × G p (take n s)
  pub read : (p : ℕ) (x r : List ℕ) → Bytes x → G p x → Gave P Held p (x ++ r) (length x)

-- ---- a section as it is found

abbrev pub HeldIn : {A : Type 0} → (ℕ → A → Type 0) → ℕ → Section A → Type 0
HeldIn Held p x = Held x.start x.read

pub found-Agrees : {A : Type 0} {P : Reader A} {Held : ℕ → A → Type 0} {G : FilePart} → Agrees P Held G → Agrees (found P) (HeldIn Held) G
found-Agrees {A = A} {P = P} {Held = Held} {G = G} F = record { told = told; read = read }
  where
    told : (p : ℕ) (s : List ℕ) (x : Section A) (n : ℕ) → Bytes s → found P p s ≡ got x n → Held x.start x.read → (n ≤ length s) × G p (take n s)
    told p s x n bs e = go (P p s) refl e
      where
        go : (o : Outcome A) → P p s ≡ o → and_then o (λ a n. got (record { there = true; start = p; len = n; read = a }) n) ≡ got x n
            → Held x.start x.read → (n ≤ length s) × G p (take n s)
        go (got a m) i h = got_elim (λ x n. Held x.start x.read → (n ≤ length s) × G p (take n s)) h (λ v. F.told p s a m bs i v)
        go (refused f y) i h = no_value h

    read : (p : ℕ) (x r : List ℕ) → Bytes x → G p x → Gave (found P) (HeldIn Held) p (x ++ r) (length x)
    read p x r bs g =
        let y = F.read p x r bs g in
        record { value = record { there = true; start = p; len = length x; read = y.value }; is = rw y.is; held = y.held }

pub there_Agrees : {A : Type 0} {P : Reader A} {Held : ℕ → A → Type 0} {G : FilePart} {Zeros : Type 0} (b : Bool) (d : A) → (Held 0 d → Zeros) → (Zeros → Held 0 d)
    → Agrees P Held G → Agrees (section_if b d P) (HeldIn Held) (PartIf b G Zeros)
there_Agrees true d out back F = found-Agrees F
there_Agrees {P = P} {Held = Held} {G = G} {Zeros = Zeros} false d out back F = record {
  told = λ p s a n bs e. got_elim (λ x n. Held x.start x.read → (n ≤ length s) × ((take n s ≡ []) × Zeros)) e (λ v. (omega arith, (refl, out v)));
  read = λ p x r bs g. record { value = absent d; is = ap (λ (l : List ℕ). got (absent d) (length l)) (sym g.0); held = back g.1 };
}

-- ---- one after another, end to end

module _ {A B : Type 0} {P : Reader A} {Q : A → Reader B} {Held : A → Type 0} {W : B → Type 0} {G H : FilePart}
    (F : Agrees P (λ p. Held) G) (K : (a : A) → Held a → Agrees (Q a) (λ p. W) H) where
  chain_told : (p : ℕ) (s : List ℕ) (c : A × B) (k : ℕ) → Bytes s → chain P Q p s ≡ got c k → Held c.0 × W c.1 → (k ≤ length s) × Joined G H p (take k s)
  chain_told p s c k bs e =
      chain_elim P Q p s (λ c k. Held c.0 × W c.1 → (k ≤ length s) × Joined G H p (take k s))
      (λ a n b m i j v.
      let x = F.told p s a n bs i v.0 in
      let y = (K a v.0).told (p + n) (drop n s) b m (Bytes-drop n s bs) j v.1 in
      let l : length (take n s) ≡ n = length-take-le n s x.0 in (
        omega (arith, length-drop n s),
        record { first = take n s; second = take m (drop n s); is = take-add n m s; is_first = x.1; is_second = rw l y.1 },
      ))
      c k e

  chain_read : (p : ℕ) (x r : List ℕ) → Bytes x → Joined G H p x → Gave (chain P Q) (λ p c. Held c.0 × W c.1) p (x ++ r) (length x)
  chain_read p x r bs g =
      let b : Bytes (g.first ++ g.second) = subst Bytes g.is bs in
      let y = F.read p g.first (g.second ++ r) (Bytes-left g.first g.second b) g.is_first in
      let z = (K y.value y.held).read (p + length g.first) g.second r (Bytes-right g.first g.second b) g.is_second in
      record {
        value = (y.value, z.value);
        is = rw (g.is, append_assoc g.first g.second r, y.is, drop-append_seam g.first (g.second ++ r), z.is, length-append g.first g.second);
        held = (y.held, z.held);
      }

  pub chain-Agrees : Agrees (chain P Q) (λ p c. Held c.0 × W c.1) (Joined G H)
  chain-Agrees = record { told = chain_told; read = chain_read }

-- nothing after the last
pub last_Agrees : {A : Type 0} {P : Reader A} {Held : ℕ → A → Type 0} {G : FilePart} → Agrees P Held G → Agrees P Held (AllJoined (G ∷ []))
last_Agrees {P = P} {Held = Held} {G = G} F = record {
  told = λ p s a n bs e v.
      let x = F.told p s a n bs e v in
      (x.0, record { first = take n s; second = []; is = sym (append-nil (take n s)); is_first = x.1; is_second = refl });
  read = λ p x r bs g.
      let e : x ≡ g.first = g.is ∙ ap (λ (l : List ℕ). g.first ++ l) g.is_second ∙ append-nil g.first in
      rw e (F.read p g.first r (subst Bytes e bs) g.is_first);
}
