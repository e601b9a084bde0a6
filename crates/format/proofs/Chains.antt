-- Chains of tests taken apart and put together, and the laws of a section, which compose.
-- A section is a reader, a writer and a condition; the reader here gives contents, not places.
use mathlib.Core.Path.{◌≡◌, refl, sym, ap, ◌∙◌, subst₂}
use mathlib.Core.List.{List, [], ◌∷◌, ◌++◌, append_assoc}
use mathlib.Core.Bool.{Bool, true, false, ◌&&◌, cond}
use Prim.Native.Nat.{ℕ, zero, suc, ◌+◌, ◌-◌, ◌≤◌, ◌<◌}
use native.Mathlib.Omega.{arith}
use native.Mathlib.Nat.{zero-add, suc-add, add-sub_of_le}
use lib.ListN.{length, take, drop, length-append, length-take, length-drop}
use lib.Seq.{take-take, take-nil, drop-append_seam}
use Rattle.octets.specs.Numbers.{Bytes}
use Rattle.octets.proofs.NumberLaws.{Bytes-drop, Bytes-append, Bytes-nil}
use Rattle.format.specs.declared.Fault.{Fault}
use Rattle.format.specs.declared.Fault.TheVariants.{Cut as CUT}
use Rattle.format.specs.declared.Spot.{Spot}
use Rattle.format.specs.Tests.{Site, spot_at, Outcome, got, refused, Test, tests, all, inside, Reader, and_then, chain, optional}
use Rattle.format.specs.Shortcut.{most}
use Rattle.format.specs.Writing.{if_there, writable_if}
use Rattle.format.proofs.Bools.{and-true, and_both, and_assoc, by_order}

-- ---- tests

-- every test holds: a product of equations, one for each test
abbrev pub Pass : List Test → Type 0
Pass [] = Unit {0}
Pass (t ∷ ts) = (t.holds ≡ true) × Pass ts

choose_got : {A : Type 0} (b : Bool) (r : Outcome A) (f : Fault) (p : Spot) {a : A} {n : ℕ} → cond b r (refused f p) ≡ got a n → (b ≡ true) × (r ≡ got a n)
choose_got true r f p e = (refl, e)
choose_got false r f p e = (cc, cc)

-- in: all tests hold, so the chain is what it leads to
pub pass : {A : Type 0} (w : Site) (ts : List Test) (r : Outcome A) → Pass ts → tests w ts r ≡ r
pass w [] r h = refl
pass w (t ∷ ts) r h = rw h.0 (pass w ts r h.1)

-- out: the chain gave a value, so all tests held
pub passed : {A : Type 0} (w : Site) (ts : List Test) (r : Outcome A) {a : A} {n : ℕ} → tests w ts r ≡ got a n → Pass ts × (r ≡ got a n)
passed w [] r e = (tt, e)
passed w (t ∷ ts) r e =
    let i = choose_got t.holds (tests w ts r) t.fault (spot_at w t.field) e in
    let j = passed w ts r i.1 in
    ((i.0, j.0), j.1)

pub tests-append : {A : Type 0} (w : Site) (ts us : List Test) (r : Outcome A) → tests w (ts ++ us) r ≡ tests w ts (tests w us r)
tests-append w [] us r = refl
tests-append w (t ∷ ts) us r = ap (λ (x : Outcome _). cond t.holds x (refused t.fault (spot_at w t.field))) (tests-append w ts us r)

pub Pass-split : (ts us : List Test) → Pass (ts ++ us) → Pass ts × Pass us
Pass-split [] us h = (tt, h)
Pass-split (t ∷ ts) us h = let i = Pass-split ts us h.1 in ((h.0, i.0), i.1)

pub Pass-join : (ts us : List Test) → Pass ts → Pass us → Pass (ts ++ us)
Pass-join [] us h k = k
Pass-join (t ∷ ts) us h k = (h.0, Pass-join ts us h.1 k)

-- all of them as one test
pub all-Pass : (ts : List Test) → all ts ≡ true → Pass ts
all-Pass [] e = tt
all-Pass (t ∷ ts) e = let i = and-true t.holds (all ts) e in (i.0, all-Pass ts i.1)

pub Pass-all : (ts : List Test) → Pass ts → all ts ≡ true
Pass-all [] h = refl
Pass-all (t ∷ ts) h = and_both t.holds (all ts) h.0 (Pass-all ts h.1)

pub all-append : (ts us : List Test) → all (ts ++ us) ≡ (all ts && all us)
all-append [] us = refl
all-append (t ∷ ts) us = ap (λ (b : Bool). t.holds && b) (all-append ts us) ∙ sym (and_assoc t.holds (all ts) (all us))

-- a structure's tests hold wherever it starts
pub Pass-inside : (o : ℕ) (ts : List Test) → Pass ts → Pass (inside o ts)
Pass-inside o [] h = tt
Pass-inside o (t ∷ ts) h = (h.0, Pass-inside o ts h.1)

pub inside-Pass : (o : ℕ) (ts : List Test) → Pass (inside o ts) → Pass ts
inside-Pass o [] h = tt
inside-Pass o (t ∷ ts) h = (h.0, inside-Pass o ts h.1)

pub all-inside : (o : ℕ) (ts : List Test) → all (inside o ts) ≡ all ts
all-inside o [] = refl
all-inside o (t ∷ ts) = ap (λ (b : Bool). t.holds && b) (all-inside o ts)

-- ---- values

-- two values that are the same outcome: what is known of the one holds of the other
pub got_elim {ℓ} : {A : Type 0} (X : A → ℕ → Type ℓ) {a b : A} {n m : ℕ} → got a n ≡ got b m → X a n → X b m
got_elim X {a} {b} {n} {m} e x =
    let p : a ≡ b = cc in
    let q : n ≡ m = cc in
    subst₂ X p q x

-- a refusal is no value
pub no_value {ℓ} : {A : Type 0} {X : Type ℓ} {f : Fault} {p : Spot} {a : A} {n : ℕ} → refused f p ≡ got a n → X
no_value e = absurd (let z : ◌≡◌ {A = ℕ} 0 1 = cc in omega arith)

-- false is not true
pub no_true {ℓ} : {X : Type ℓ} → false ≡ true → X
no_true e = absurd (let z : ◌≡◌ {A = ℕ} 0 1 = cc in omega arith)

-- a chain of tests that ends in a value: all held, and the value is that one
pub tests_elim {ℓ} : {A : Type 0} (X : A → ℕ → Type ℓ) (w : Site) (ts : List Test) (a : A) (n : ℕ) → (Pass ts → X a n)
    → (b : A) (m : ℕ) → tests w ts (got a n) ≡ got b m → X b m
tests_elim X w ts a n f b m e =
    let i = passed w ts (got a n) e in
    got_elim X i.1 (f i.0)

-- one reader after another gave a value: so did each
pub chain_elim {ℓ} : {A B : Type 0} (P : Reader A) (Q : A → Reader B) (p : ℕ) (s : List ℕ) (X : A × B → ℕ → Type ℓ)
    → ((a : A) (n : ℕ) (b : B) (m : ℕ) → P p s ≡ got a n → Q a (p + n) (drop n s) ≡ got b m → X (a, b) (n + m))
    → (c : A × B) (k : ℕ) → chain P Q p s ≡ got c k → X c k
chain_elim {A = A} {B = B} P Q p s X f c k e = go (P p s) refl e
  where
    go₂ : (a : A) (n : ℕ) → P p s ≡ got a n → (r : Outcome B) → Q a (p + n) (drop n s) ≡ r → and_then r (λ b m. got (a, b) (n + m)) ≡ got c k → X c k
    go₂ a n i (got b m) j h = got_elim X h (f a n b m i j)
    go₂ a n i (refused x y) j h = no_value h

    go : (r : Outcome A) → P p s ≡ r → and_then r (λ a n. and_then (Q a (p + n) (drop n s)) (λ b m. got (a, b) (n + m))) ≡ got c k → X c k
    go (got a n) i h = go₂ a n i (Q a (p + n) (drop n s)) refl h
    go (refused x y) i h = no_value h

pub drop-take : (n k : ℕ) (s : List ℕ) → drop n (take (n + k) s) ≡ take k (drop n s)
drop-take zero k s = rw zero-add
drop-take (suc n) k [] = rw (take-nil (suc n + k), take-nil k)
drop-take (suc n) k (x ∷ s) = rw (suc-add n k) (drop-take n k s)

-- ---- the laws of a section

-- what an accepted section says: it can be written, and no longer than it is
pub record Fits {A : Type 0} (enc : A → List ℕ) (Valid : A → Type 0) (a : A) (n : ℕ) : Type 0 where
  pub valid : Valid a
  pub short : length (enc a) ≤ n

-- refused with CUT, at a position not after the place l
pub record CutBy {A : Type 0} (l : ℕ) (r : Outcome A) : Type 0 where
  pub spot : Spot
  pub early : spot.position ≤ l
  pub is : r ≡ refused CUT spot

pub record Law {A : Type 0} (P : Reader A) (enc : A → List ℕ) (Valid : A → Type 0) : Type 0 where
  pub bytes : (a : A) → Valid a → Bytes (enc a)
  -- what is written reads back, whatever follows
  pub back : (a : A) → Valid a → length (enc a) ≤ most → (p : ℕ) (r : List ℕ) → P p (enc a ++ r) ≡ got a (length (enc a))
  -- what is read lies inside
  pub inside : (p : ℕ) (s : List ℕ) (a : A) (n : ℕ) → P p s ≡ got a n → n ≤ length s
  pub fits : (p : ℕ) (s : List ℕ) (a : A) (n : ℕ) → P p s ≡ got a n → Bytes s → Fits enc Valid a n
  -- only its own bytes matter
  pub alike : (p : ℕ) (s : List ℕ) (a : A) (n : ℕ) → P p s ≡ got a n → (q : ℕ) (t : List ℕ) → take n t ≡ take n s → n ≤ length t → P q t ≡ got a n
  -- every proper beginning is cut
  pub cut : (p : ℕ) (s : List ℕ) (a : A) (n : ℕ) → P p s ≡ got a n → (k : ℕ) → k < n → CutBy (p + k) (P p (take k s))

-- a reader that answers alike has the same laws
pub Law-same : {A : Type 0} {P P' : Reader A} {enc : A → List ℕ} {Valid : A → Type 0} → ((p : ℕ) (s : List ℕ) → P p s ≡ P' p s) → Law P' enc Valid → Law P enc Valid
Law-same {P = P} {enc = enc} e F = record {
  bytes = F.bytes;
  back = λ a v h p r. e p (enc a ++ r) ∙ F.back a v h p r;
  inside = λ p s a n i. F.inside p s a n (sym (e p s) ∙ i);
  fits = λ p s a n i. F.fits p s a n (sym (e p s) ∙ i);
  alike = λ p s a n i q t u h. e q t ∙ F.alike p s a n (sym (e p s) ∙ i) q t u h;
  cut = λ p s a n i k h.
      let z = F.cut p s a n (sym (e p s) ∙ i) k h in
      record { spot = z.spot; early = z.early; is = e p (take k s) ∙ z.is };
}

-- ---- what can be written: what its types give, and a test

pub record Ok {A : Type 0} (Typed : A → Type 0) (test : A → Bool) (a : A) : Type 0 where
  pub typed : Typed a
  pub can : test a ≡ true

-- ---- absent or present

abbrev pub IfThere : {A : Type 0} → Bool → A → (A → Type 0) → A → Type 0
IfThere true d U = U
IfThere false d U = λ a. a ≡ d

module _ {A : Type 0} (T : A → Type 0) (c : A → Bool) where
  pub Ok-there : (b : Bool) (d a : A) → IfThere b d T a → writable_if b c a ≡ true → IfThere b d (Ok T c) a
  Ok-there true d a t e = record { typed = t; can = e }
  Ok-there false d a t e = t

  pub there_Ok : (b : Bool) (d a : A) → IfThere b d (Ok T c) a → IfThere b d T a × (writable_if b c a ≡ true)
  there_Ok true d a v = (v.typed, v.can)
  there_Ok false d a v = (v, refl)

pub optional-Law : {A : Type 0} {P : Reader A} {f : A → List ℕ} {U : A → Type 0} (b : Bool) (d : A) → Law P f U → Law (optional b d P) (if_there b f) (IfThere b d U)
optional-Law true d F = F
optional-Law {f = f} {U = U} false d F = record {
  bytes = λ a v. Bytes-nil;
  back = λ a v h p r. cc;
  inside = λ p s a n e. got_elim (λ a n. n ≤ length s) e (omega arith);
  fits = λ p s a n e bs. got_elim (λ a n. Fits (if_there false f) (IfThere false d U) a n) e (record { valid = refl; short = omega arith });
  alike = λ p s a n e q t u h. e;
  cut = λ p s a n e k h. absurd (got_elim (λ a n. k < n → ⊥) e (λ z. omega arith) h);
}

-- ---- one section after another: the second may depend on the first's value, as sections do on the flags

abbrev pub chain_e : {A B : Type 0} → (A → List ℕ) → (A → B → List ℕ) → A × B → List ℕ
chain_e f g c = f c.0 ++ g c.0 c.1

abbrev pub ChainV : {A B : Type 0} → (A → Type 0) → (A → B → Type 0) → A × B → Type 0
ChainV U W c = U c.0 × W c.0 c.1

module _ {A B : Type 0} {P : Reader A} {Q : A → Reader B} {f : A → List ℕ} {g : A → B → List ℕ} {U : A → Type 0} {W : A → B → Type 0}
    (F : Law P f U) (G : (a : A) → Law (Q a) (g a) (W a)) where
  chain_Bytes : (c : A × B) → ChainV U W c → Bytes (chain_e f g c)
  chain_Bytes c v = Bytes-append (f c.0) (g c.0 c.1) (F.bytes c.0 v.0) ((G c.0).bytes c.1 v.1)

  chain_back : (c : A × B) → ChainV U W c → length (chain_e f g c) ≤ most → (p : ℕ) (r : List ℕ) → chain P Q p (chain_e f g c ++ r) ≡ got c (length (chain_e f g c))
  chain_back c v h p r =
      let a : A = c.0 in
      let b : B = c.1 in
      let l = length-append (f a) (g a b) in
      rw (
        append_assoc (f a) (g a b) r,
        F.back a v.0 (omega arith) p (g a b ++ r),
        drop-append_seam (f a) (g a b ++ r),
        (G a).back b v.1 (omega arith) (p + length (f a)) r,
        l,
      )

  chain_inside : (p : ℕ) (s : List ℕ) (c : A × B) (k : ℕ) → chain P Q p s ≡ got c k → k ≤ length s
  chain_inside p s c k e =
      chain_elim P Q p s (λ c k. k ≤ length s)
      (λ a n b m i j. let x = F.inside p s a n i in let y = (G a).inside (p + n) (drop n s) b m j in omega (arith, length-drop n s))
      c k e

  chain-Fits : (p : ℕ) (s : List ℕ) (c : A × B) (k : ℕ) → chain P Q p s ≡ got c k → Bytes s → Fits (chain_e f g) (ChainV U W) c k
  chain-Fits p s c k e bs =
      chain_elim P Q p s (λ c k. Fits (chain_e f g) (ChainV U W) c k)
      (λ a n b m i j.
      let x = F.fits p s a n i bs in
      let y = (G a).fits (p + n) (drop n s) b m j (Bytes-drop n s bs) in
      record { valid = (x.valid, y.valid); short = rw length-append (omega arith) })
      c k e

  chain_alike : (p : ℕ) (s : List ℕ) (c : A × B) (k : ℕ) → chain P Q p s ≡ got c k → (q : ℕ) (t : List ℕ) → take k t ≡ take k s → k ≤ length t → chain P Q q t ≡ got c k
  chain_alike p s c k e q t =
      chain_elim P Q p s (λ c k. take k t ≡ take k s → k ≤ length t → chain P Q q t ≡ got c k)
      (λ a n b m i j u h.
      let x : take n t ≡ take n s = sym (take-take n (n + m) t (omega arith)) ∙ ap (take n) u ∙ take-take n (n + m) s (omega arith) in
      let y : take m (drop n t) ≡ take m (drop n s) = sym (drop-take n m t) ∙ ap (drop n) u ∙ drop-take n m s in
      rw (F.alike p s a n i q t x (omega arith), (G a).alike (p + n) (drop n s) b m j (q + n) (drop n t) y (omega (arith, length-drop n t))))
      c k e

  chain_cut : (p : ℕ) (s : List ℕ) (c : A × B) (k : ℕ) → chain P Q p s ≡ got c k → (l : ℕ) → l < k → CutBy (p + l) (chain P Q p (take l s))
  chain_cut p s c k e l =
      chain_elim P Q p s (λ c k. l < k → CutBy (p + l) (chain P Q p (take l s)))
      (λ a n b m i j h.
      by_order n l
      (λ o.
      let x = F.inside p s a n i in
      let y = F.alike p s a n i p (take l s) (take-take n l s o) (omega (arith, length-take l s)) in
      let d : drop n (take l s) ≡ take (l - n) (drop n s) = rw add-sub_of_le at (drop-take n (l - n) s) in
      let z = (G a).cut (p + n) (drop n s) b m j (l - n) (omega arith) in
      record { spot = z.spot; early = omega (arith, z.early); is = rw (y, d, z.is) })
      (λ o. let z = F.cut p s a n i l o in record { spot = z.spot; early = z.early; is = rw z.is }))
      c k e

  pub chain-Law : Law (chain P Q) (chain_e f g) (ChainV U W)
  chain-Law = record { bytes = chain_Bytes; back = chain_back; inside = chain_inside; fits = chain-Fits; alike = chain_alike; cut = chain_cut }
