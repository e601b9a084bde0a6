-- Places: what stands at the places that reading gives are the contents; they lie inside; what is absent is zero; the sections lie end to end.
use mathlib.Core.Path.{◌≡◌, refl, sym, ap, ◌∙◌}
use mathlib.Core.List.{List, [], ◌∷◌, ◌++◌}
use mathlib.Core.Bool.{Bool, true, false, cond}
use Prim.Native.Nat.{ℕ, zero, suc, ◌+◌, ◌-◌, ◌≤◌}
use native.Mathlib.Omega.{arith}
use native.Mathlib.Nat.{add_assoc}
use lib.ListN.{length, take, drop, get_or, length-take, length-drop}
use lib.Seq.{drop-drop}
use lib.Dec.{leb}
use borrow.Author.Tests.{leb-true, le-leb}
use Rattle.octets.specs.Characters.{characters}
use Rattle.octets.proofs.NumberLaws.{part_inside}
use Rattle.octets.proofs.CharacterLaws.{before_le, characters_fit, bytes_of-le}
use Rattle.format.specs.declared.Place.{Place}
use Rattle.format.specs.Tests.{Outcome, got, refused, no_place, Test, tests, Reader, and_then, chain, ◌then◌, optional, Site, spot_at}
use Rattle.format.specs.Pieces.{text_length, text_place}
use Rattle.format.specs.Shortcut.{Section, found, section_if}
use Rattle.format.specs.Bodies.{all_inside}
use Rattle.format.specs.Contents.{bytes_at}
use Rattle.format.specs.Listing.{Row, row, EndToEnd}
use Rattle.format.proofs.Bools.{by_order, and-true, and_both}
use Rattle.format.proofs.Chains.{Pass, got_elim, no_value, chain_elim}
use Rattle.format.proofs.PieceLaws.{text_value}

-- ---- parts of a file

-- v is a part of f that starts at q
pub record PartOf (f : List ℕ) (q : ℕ) (v : List ℕ) : Type 0 where
  pub same : (o k : ℕ) → k ≤ length v - o → take k (drop o v) ≡ take k (drop (q + o) f)

no_bytes : (k : ℕ) (s t : List ℕ) → k ≤ 0 → take k s ≡ take k t
no_bytes zero s t h = refl
no_bytes (suc k) s t h = absurd (omega arith)

-- the n bytes from p on
pub part_of : (f : List ℕ) (p n : ℕ) → PartOf f p (take n (drop p f))
part_of f p n = record {
  same = λ o k h.
      let l : length (take n (drop p f)) ≤ n = omega (arith, length-take n (drop p f)) in
      by_order (o + k) n
      (λ j. part_inside o k n (drop p f) j ∙ ap (take k) (drop-drop o p f))
      (λ j. no_bytes k _ _ (omega arith));
}

-- a part of a part
pub part_within : (f : List ℕ) (q : ℕ) (v : List ℕ) (o m : ℕ) → PartOf f q v → PartOf f (q + o) (take m (drop o v))
part_within f q v o m F = record {
  same = λ i k h.
      let l : length (take m (drop o v)) ≤ m = omega (arith, length-take m (drop o v)) in
      let d : length (take m (drop o v)) ≤ length v - o = omega (arith, length-take m (drop o v), length-drop o v) in
      by_order (i + k) m
      (λ j.
      by_order k 0
      (λ z. no_bytes k _ _ z)
      (λ z.
      let e = F.same (o + i) k (omega arith) in
      part_inside i k m (drop o v) j ∙ ap (take k) (drop-drop i o v) ∙ e ∙ ap (λ (x : ℕ). take k (drop x f)) (sym (add_assoc q o i))))
      (λ j. no_bytes k _ _ (omega arith));
}

text_inside : (u : Bool) (s : List ℕ) → text_length u s ≤ length s
text_inside u s =
    let a = bytes_of-le u (before_le (characters u s)) in
    let b = characters_fit u s in
    omega arith

-- a text's place holds the text
pub text_placed : (f : List ℕ) (p : ℕ) (v : List ℕ) (b u : Bool) (o : ℕ) → PartOf f p v
    → bytes_at f (text_place b u p v o) ≡ cond b (text_value u (drop o v)) []
text_placed f p v true u o F = sym (F.same o (text_length u (drop o v)) (omega (arith, text_inside u (drop o v), length-drop o v)))
text_placed f p v false u o F = refl

-- ---- places and contents: P gives places in f, and PC what stands there

abbrev pub mapped : {A B : Type 0} → (A → B) → Outcome A → Outcome B
mapped g r = and_then r (λ a n. got (g a) n)

pub found_elim {ℓ} : {A : Type 0} (P : Reader A) (p : ℕ) (s : List ℕ) (X : Section A → ℕ → Type ℓ)
    → ((a : A) (n : ℕ) → P p s ≡ got a n → X (record { there = true; start = p; len = n; read = a }) n)
    → (c : Section A) (n : ℕ) → found P p s ≡ got c n → X c n
found_elim {A = A} P p s X g c n e = go (P p s) refl e
  where
    go : (r : Outcome A) → P p s ≡ r → and_then r (λ a n. got (record { there = true; start = p; len = n; read = a }) n) ≡ got c n → X c n
    go (got a m) i h = got_elim X h (g a m i)
    go (refused x y) i h = no_value h

EndToEnd-append : (p m q : ℕ) (xs ys : List Row) → EndToEnd p xs m → EndToEnd m ys q → EndToEnd p (xs ++ ys) q
EndToEnd-append p m q [] ys c d = rw c d
EndToEnd-append p m q (x ∷ xs) ys c d = (c.0, EndToEnd-append (p + x.len) m q xs ys c.1 d)

pub inside_append : (n : ℕ) (xs ys : List Place) → all_inside n xs ≡ true → all_inside n ys ≡ true → all_inside n (xs ++ ys) ≡ true
inside_append n [] ys c d = d
inside_append n (x ∷ xs) ys c d =
    let i = and-true (leb (x.at + x.len) n) (all_inside n xs) c in
    and_both (leb (x.at + x.len) n) _ i.0 (inside_append n xs ys i.1 d)

-- the second of them put last
pub inside_last : (n : ℕ) (w x : Place) (xs : List Place) → all_inside n (w ∷ x ∷ xs) ≡ true → all_inside n (w ∷ xs ++ (x ∷ [])) ≡ true
inside_last n w x xs c =
    let i = and-true (leb (w.at + w.len) n) (all_inside n (x ∷ xs)) c in
    let j = and-true (leb (x.at + x.len) n) (all_inside n xs) i.1 in
    and_both (leb (w.at + w.len) n) _ i.0 (inside_append n xs (x ∷ []) j.1 (and_both (leb (x.at + x.len) n) true j.0 refl))

-- the second of them left out
pub inside_without : (n : ℕ) (w x : Place) (xs : List Place) → all_inside n (w ∷ x ∷ xs) ≡ true → all_inside n (w ∷ xs) ≡ true
inside_without n w x xs c =
    let i = and-true (leb (w.at + w.len) n) (all_inside n (x ∷ xs)) c in
    and_both (leb (w.at + w.len) n) (all_inside n xs) i.0 (and-true (leb (x.at + x.len) n) (all_inside n xs) i.1).1

pub inside_more : (m n : ℕ) (xs : List Place) → m ≤ n → all_inside m xs ≡ true → all_inside n xs ≡ true
inside_more m n [] h c = refl
inside_more m n (x ∷ xs) h c =
    let i = and-true (leb (x.at + x.len) m) (all_inside m xs) c in
    let k : x.at + x.len ≤ m = leb-true (x.at + x.len) m i.0 in
    and_both (leb (x.at + x.len) n) _ (le-leb (x.at + x.len) n (omega arith)) (inside_more m n xs h i.1)

-- all of them inside: a product of orders, one for each
pub slot_inside : (n : ℕ) (bs : List Place) (k : ℕ) → all_inside n bs ≡ true → (get_or bs k no_place).at + (get_or bs k no_place).len ≤ n
slot_inside n [] k e = omega arith
slot_inside n (b ∷ bs) zero e = leb-true (b.at + b.len) n (and-true (leb (b.at + b.len) n) (all_inside n bs) e).0
slot_inside n (b ∷ bs) (suc k) e = slot_inside n bs k (and-true (leb (b.at + b.len) n) (all_inside n bs) e).1

abbrev pub both : {A B X Y : Type 0} → (A → X) → (B → Y) → A × B → X × Y
both u v c = (u c.0, v c.1)

module _ (f : List ℕ) where
  pub record Placed {A B : Type 0} (P : Reader A) (view : A → B) (PC : Reader B) : Type 0 where
    pub placed : (p : ℕ) → mapped view (P p (drop p f)) ≡ PC p (drop p f)

  -- the same tests, and under them the same value
  pub tests_placed : {A B : Type 0} (view : A → B) (w : Site) (ts : List Test) (a : A) (b : B) (n : ℕ) → (Pass ts → view a ≡ b)
      → mapped view (tests w ts (got a n)) ≡ tests w ts (got b n)
  tests_placed view w [] a b n e = rw (e tt)
  tests_placed view w (t ∷ ts) a b n e = go t.holds refl (λ q. tests_placed view w ts a b n (λ c. e (q, c)))
    where
      go : (h : Bool) → t.holds ≡ h → (t.holds ≡ true → mapped view (tests w ts (got a n)) ≡ tests w ts (got b n))
          → mapped view (cond h (tests w ts (got a n)) (refused t.fault (spot_at w t.field))) ≡ cond h (tests w ts (got b n)) (refused t.fault (spot_at w t.field))
      go true q rest = rest q
      go false q rest = refl

  pub found-Placed : {A B : Type 0} {P : Reader A} {view : A → B} {PC : Reader B} → Placed P view PC → Placed (found P) (λ c. view c.read) PC
  found-Placed {A = A} {P = P} {view = view} {PC = PC} F = record { placed = λ p. go p (P p (drop p f)) refl }
    where
      go : (p : ℕ) (r : Outcome A) → P p (drop p f) ≡ r
          → mapped (λ (c : Section A). view c.read) (and_then r (λ a n. got (record { there = true; start = p; len = n; read = a }) n)) ≡ PC p (drop p f)
      go p (got a n) i = sym (ap (mapped view) i) ∙ F.placed p
      go p (refused x y) i = sym (ap (mapped view) i) ∙ F.placed p

  pub section_Placed : {A B : Type 0} {P : Reader A} {view : A → B} {PC : Reader B} (b : Bool) (d : A) (e : B) → view d ≡ e → Placed P view PC
      → Placed (section_if b d P) (λ c. view c.read) (optional b e PC)
  section_Placed true d e q F = found-Placed F
  section_Placed false d e q F = record { placed = λ p. rw q }

  pub chain-Placed : {A B X Y : Type 0} {P : Reader A} {Q : A → Reader B} {PC : Reader X} (QC : X → Reader Y) {u : A → X} {v : B → Y}
      → Placed P u PC → ((a : A) → Placed (Q a) v (QC (u a))) → Placed (chain P Q) (both u v) (chain PC QC)
  chain-Placed {A = A} {B = B} {P = P} {Q = Q} {PC = PC} QC {u = u} {v = v} F G = record { placed = λ p. go p (P p (drop p f)) refl }
    where
      go₂ : (p : ℕ) (a : A) (n : ℕ) (r : Outcome B) → Q a (p + n) (drop (p + n) f) ≡ r
          → mapped (both u v) (and_then r (λ b m. got (a, b) (n + m))) ≡ and_then (QC (u a) (p + n) (drop (p + n) f)) (λ b m. got (u a, b) (n + m))
      go₂ p a n (got b m) i =
          let e : QC (u a) (p + n) (drop (p + n) f) ≡ got (v b) m = sym (sym (ap (mapped v) i) ∙ (G a).placed (p + n)) in
          rw e
      go₂ p a n (refused x y) i =
          let e : QC (u a) (p + n) (drop (p + n) f) ≡ refused x y = sym (sym (ap (mapped v) i) ∙ (G a).placed (p + n)) in
          rw e

      go : (p : ℕ) (r : Outcome A) → P p (drop p f) ≡ r
          → mapped (both u v) (and_then r (λ a n. and_then (Q a (p + n) (drop n (drop p f))) (λ b m. got (a, b) (n + m)))) ≡ chain PC QC p (drop p f)
      go p (got a n) i =
          let e : PC p (drop p f) ≡ got (u a) n = sym (sym (ap (mapped u) i) ∙ F.placed p) in
          rw (e, drop-drop n p f) (go₂ p a n (Q a (p + n) (drop (p + n) f)) refl)
      go p (refused x y) i =
          let e : PC p (drop p f) ≡ refused x y = sym (sym (ap (mapped u) i) ∙ F.placed p) in
          rw e

  pub then-Placed : {A B X Y : Type 0} {P : Reader A} {Q : Reader B} {PC : Reader X} {QC : Reader Y} {u : A → X} {v : B → Y}
      → Placed P u PC → Placed Q v QC → Placed (P then Q) (both u v) (PC then QC)
  then-Placed {QC = QC} F G = chain-Placed (λ x. QC) F (λ a. G)

  -- ---- what holds of every value that a reader gives

  pub record Always {A : Type 0} (P : Reader A) (X : A → Type 0) : Type 0 where
    pub always : (p : ℕ) (a : A) (n : ℕ) → P p (drop p f) ≡ got a n → X a

  pub chain-Always : {A B : Type 0} {P : Reader A} (Q : A → Reader B) {X : A → Type 0} (Y : A → B → Type 0)
      → Always P X → ((a : A) → Always (Q a) (Y a)) → Always (chain P Q) (λ c. X c.0 × Y c.0 c.1)
  chain-Always {P = P} Q {X = X} Y F G = record {
    always = λ p c k e.
        chain_elim P Q p (drop p f) (λ c k. X c.0 × Y c.0 c.1)
        (λ a n b m i j. (F.always p a n i, (G a).always (p + n) b m (rw drop-drop at j)))
        c k e;
  }

  pub then-Always : {A B : Type 0} {P : Reader A} {Q : Reader B} {X : A → Type 0} {Y : B → Type 0} → Always P X → Always Q Y → Always (P then Q) (λ c. X c.0 × Y c.1)
  then-Always {Q = Q} {Y = Y} F G = chain-Always (λ a. Q) (λ a. Y) F (λ a. G)

  pub section_Always : {A : Type 0} (P : Reader A) (b : Bool) (d : A) (X : A → Type 0) → (b ≡ false → X d)
      → (b ≡ true → (p : ℕ) (a : A) (n : ℕ) → P p (drop p f) ≡ got a n → X a) → Always (section_if b d P) (λ c. X c.read)
  section_Always P true d X z h = record { always = λ p c n e. found_elim P p (drop p f) (λ c n. X c.read) (λ a n i. h refl p a n i) c n e }
  section_Always P false d X z h = record { always = λ p c n e. got_elim (λ c n. X c.read) e (z refl) }

  -- ---- rows end to end, and bodies inside

  pub record Lies {A : Type 0} (P : Reader A) (rows : A → List Row) (bodies : A → List Place) : Type 0 where
    pub listed : (p : ℕ) (a : A) (n : ℕ) → P p (drop p f) ≡ got a n → EndToEnd p (rows a) (p + n)
    pub inside : (p : ℕ) (a : A) (n : ℕ) → P p (drop p f) ≡ got a n → all_inside (p + n) (bodies a) ≡ true

  pub chain-Lies : {A B : Type 0} {P : Reader A} (Q : A → Reader B) {R : A → List Row} {K : A → List Place} {S : B → List Row} {L : B → List Place}
      → Lies P R K → ((a : A) → Lies (Q a) S L) → Lies (chain P Q) (λ c. R c.0 ++ S c.1) (λ c. K c.0 ++ L c.1)
  chain-Lies {P = P} Q {R = R} {K = K} {S = S} {L = L} F G = record {
    listed = λ p c k e.
        chain_elim P Q p (drop p f) (λ c k. EndToEnd p (R c.0 ++ S c.1) (p + k))
        (λ a n b m i j.
        let x = F.listed p a n i in
        let y = (G a).listed (p + n) b m (rw drop-drop at j) in
        EndToEnd-append p (p + n) (p + (n + m)) (R a) (S b) x (rw add_assoc at y))
        c k e;
    inside = λ p c k e.
        chain_elim P Q p (drop p f) (λ c k. all_inside (p + k) (K c.0 ++ L c.1) ≡ true)
        (λ a n b m i j.
        let x = F.inside p a n i in
        let y = (G a).inside (p + n) b m (rw drop-drop at j) in
        inside_append (p + (n + m)) (K a) (L b) (inside_more (p + n) (p + (n + m)) (K a) (omega arith) x) (rw add_assoc at y))
        c k e;
  }

  pub then-Lies : {A B : Type 0} {P : Reader A} {Q : Reader B} {R : A → List Row} {K : A → List Place} {S : B → List Row} {L : B → List Place}
      → Lies P R K → Lies Q S L → Lies (P then Q) (λ c. R c.0 ++ S c.1) (λ c. K c.0 ++ L c.1)
  then-Lies {Q = Q} F G = chain-Lies (λ a. Q) F (λ a. G)

  pub found-Lies : {A : Type 0} (P : Reader A) (k : ℕ) (K : A → List Place) → ((p : ℕ) (a : A) (n : ℕ) → P p (drop p f) ≡ got a n → all_inside (p + n) (K a) ≡ true)
      → Lies (found P) (row k) (λ c. K c.read)
  found-Lies P k K h = record {
    listed = λ p c n e. found_elim P p (drop p f) (λ c n. EndToEnd p (row k c) (p + n)) (λ a n i. (refl, refl)) c n e;
    inside = λ p c n e. found_elim P p (drop p f) (λ c n. all_inside (p + n) (K c.read) ≡ true) (λ a n i. h p a n i) c n e;
  }

  pub section_Lies : {A : Type 0} (P : Reader A) (k : ℕ) (K : A → List Place) (b : Bool) (d : A) → ((n : ℕ) → all_inside n (K d) ≡ true)
      → ((p : ℕ) (a : A) (n : ℕ) → P p (drop p f) ≡ got a n → all_inside (p + n) (K a) ≡ true) → Lies (section_if b d P) (row k) (λ c. K c.read)
  section_Lies P k K true d z h = found-Lies P k K h
  section_Lies P k K false d z h = record {
    listed = λ p c n e. got_elim (λ c n. EndToEnd p (row k c) (p + n)) e (omega arith);
    inside = λ p c n e. got_elim (λ c n. all_inside (p + n) (K c.read) ≡ true) e (z (p + 0));
  }
