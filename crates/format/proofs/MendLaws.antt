-- A refusal at a block, or where the terminal is missing: what stands before it is read alike whatever follows, and a terminal put there ends it.
use mathlib.Core.Path.{◌≡◌, refl, sym, ap, ◌∙◌, subst₂}
use mathlib.Core.List.{List, [], ◌∷◌}
use mathlib.Core.Bool.{Bool, true, false, cond}
use Prim.Native.Nat.{ℕ, zero, suc, ◌+◌, ◌-◌, ◌≤◌, ◌<◌}
use native.Mathlib.Omega.{arith}
use native.Mathlib.Nat.{add_assoc}
use lib.ListN.{length, take, drop, length-drop}
use lib.Seq.{length-take-le, take-take, drop-drop}
use lib.Dec.{leb, eqb}
use borrow.Author.Tests.{leb-true, le-leb}
use Rattle.octets.specs.Numbers.{u16_at, u32_at}
use Rattle.octets.specs.Characters.{bytes_of}
use Rattle.octets.proofs.NumberLaws.{number_same, number_drop}
use Rattle.format.specs.declared.Profile.{Profile}
use Rattle.format.specs.declared.Fault.{Fault}
use Rattle.format.specs.declared.Fault.TheVariants.{Cut as CUT, Magic as MAGIC, Head as HEAD, Items as ITEMS, Info as INFO, Piece as PIECE, Block as BLOCK, Trail as TRAIL, Twice as TWICE, Store as STORE}
use Rattle.format.specs.declared.Spot.{Spot}
use Rattle.format.specs.declared.Header.{Header}
use Rattle.format.specs.Tests.{◌else◌at◌, Site, section, spot_at, Test, tests, Outcome, got, refused, Reader, and_then, chain, ◌then◌, place, no_place}
use Rattle.format.specs.Presence.{items_there, info_there, name_bit, relative_bit, workdir_bit, arguments_bit, icon_bit, string_there, strings_unicode}
use Rattle.format.specs.Header.{header_rules, header_fields, header}
use Rattle.format.specs.Items.{items_length, items_rules, items}
use Rattle.format.specs.Strings.{string_length, string}
use Rattle.format.specs.Pieces.{struct_tests, piece_tests}
use Rattle.format.specs.Volume.{volume_rules}
use Rattle.format.specs.Network.{network_rules}
use Rattle.format.specs.Info.{info_size, info_head, info_head_tests, info_pieces, info_rules, info_fields, info, no_info}
use Rattle.format.specs.Blocks.{slot_of, slot_at, block_size, inside_tests, block_rules, block_tests, block, once, blocks_after, blocks}
use Rattle.format.specs.Shortcut.{Section, found, section_if, string_section, tail, sections}
use Rattle.format.specs.Steps.Wrong.{held_fault}
use Rattle.format.proofs.Bools.{by_order}
use Rattle.format.proofs.Chains.{Pass, pass, passed, got_elim, tests_elim, chain_elim, drop-take, Law}
use Rattle.format.proofs.WrongLaws.{OfFault}
use Rattle.format.proofs.Sized.{sized_tests, sized_r, sized_holds}
use Rattle.format.proofs.EachLaws.{Each, Each-append, Each-piece, PiecesIn, Each-text, Each-struct, Each-volume, Each-network}
use Rattle.format.proofs.HeaderLaws.{header-Law}
use Rattle.format.proofs.ItemsLaws.{item_OfFault, items_value, items_Law}
use Rattle.format.proofs.StringLaws.{string_Law}
use Rattle.format.proofs.InfoLaws.{info_value, info_Law}
use Rattle.format.proofs.BlockLaws.{inside_OfFault, none_left, the_end, more, more_on, one_more, blocks_Walked, blocks_same, ends_terminal, same_slot}
use Rattle.format.proofs.PlaceLaws.{found_elim}

-- ---- refusals

-- two refusals that are the same outcome: what is known of the one holds of the other
pub refused_elim : {A : Type 0} (Y : Fault → Spot → Type 0) {f g : Fault} {p q : Spot} → ◌≡◌ {A = Outcome A} (refused f p) (refused g q) → Y f p → Y g q
refused_elim Y {f} {g} {p} {q} e y =
    let a : f ≡ g = cc in
    let b : p ≡ q = cc in
    subst₂ Y a b y

-- a value is no refusal
pub no_refusal {ℓ} : {A : Type 0} {X : Type ℓ} {f : Fault} {p : Spot} {a : A} {n : ℕ} → got a n ≡ refused f p → X
no_refusal e = absurd (let z : ◌≡◌ {A = ℕ} 0 1 = cc in omega arith)

-- one of the tests failed, or what follows them refused
pub tests-refused : {A : Type 0} (X : Fault → ℕ → Type 0) (Y : Fault → Spot → Type 0) (w : Site) (ts : List Test) (r : Outcome A) → Each X ts
    → ((f : Fault) (i : ℕ) → X f i → Y f (spot_at w i)) → {f : Fault} {q : Spot} → (Pass ts → r ≡ refused f q → Y f q) → tests w ts r ≡ refused f q → Y f q
tests-refused X Y w [] r h g k e = k tt e
tests-refused {A = A} X Y w (t ∷ ts) r h g {f} {q} k e = go t.holds refl (λ i z. tests-refused X Y w ts r (h.1 i) g (λ c. k (i, c)) z) e
  where
    go : (b : Bool) → t.holds ≡ b → (t.holds ≡ true → tests w ts r ≡ refused f q → Y f q)
        → ◌≡◌ {A = Outcome A} (cond b (tests w ts r) (refused t.fault (spot_at w t.field))) (refused f q) → Y f q
    go true i rest z = rest i z
    go false i rest z = refused_elim Y z (g t.fault t.field (h.0 i))

abbrev pub NoTrail : Fault → Type 0
NoTrail f = f ≡ TRAIL → ⊥

-- at a field of whatever place
abbrev Other : Fault → ℕ → Type 0
Other f i = NoTrail f

-- what holds of a fault holds of all tests that give it
pub Each-fault : (X : Fault → Type 0) (f : Fault) (ts : List Test) → X f → OfFault f ts → Each (λ g i. X g) ts
Each-fault X f [] h g = tt
Each-fault X f (t ∷ ts) h g = ((λ e. rw g.0 h), λ e. Each-fault X f ts h g.1)

-- ---- readers of what stands before the blocks

-- only its own bytes matter: what a reader of places gives at one place
pub record Own {A : Type 0} (P : Reader A) : Type 0 where
  pub inside : (p : ℕ) (s : List ℕ) (a : A) (n : ℕ) → P p s ≡ got a n → n ≤ length s
  pub alike : (p : ℕ) (s : List ℕ) (a : A) (n : ℕ) → P p s ≡ got a n → (t : List ℕ) → take n t ≡ take n s → n ≤ length t → P p t ≡ got a n

pub record Front {A : Type 0} (P : Reader A) : Type 0 where
  pub own : Own P
  -- it refuses at sections before the blocks, and never with TRAIL
  pub early : (p : ℕ) (s : List ℕ) {f : Fault} {w : Spot} → P p s ≡ refused f w → (w.section < 8) × NoTrail f

abbrev Early : Fault → Spot → Type 0
Early f w = (w.section < 8) × NoTrail f

-- tests of the section k, then a value
Early-tests : {A : Type 0} (k p : ℕ) (ts : List Test) (a : A) (n : ℕ) → k < 8 → Each Other ts → {f : Fault} {w : Spot} → tests (section k p) ts (got a n) ≡ refused f w → Early f w
Early-tests k p ts a n h g e = tests-refused Other Early (section k p) ts (got a n) g (λ f i x. (h, x)) (λ c z. no_refusal z) e

not_cut : NoTrail CUT
not_cut e = let z : ◌≡◌ {A = ℕ} 0 1 = cc in omega arith

not_magic : NoTrail MAGIC
not_magic e = let z : ◌≡◌ {A = ℕ} 0 1 = cc in omega arith

not_head : NoTrail HEAD
not_head e = let z : ◌≡◌ {A = ℕ} 0 1 = cc in omega arith

not_items : NoTrail ITEMS
not_items e = let z : ◌≡◌ {A = ℕ} 0 1 = cc in omega arith

not_info : NoTrail INFO
not_info e = let z : ◌≡◌ {A = ℕ} 0 1 = cc in omega arith

not_piece : NoTrail PIECE
not_piece e = let z : ◌≡◌ {A = ℕ} 0 1 = cc in omega arith

not_block : NoTrail BLOCK
not_block e = let z : ◌≡◌ {A = ℕ} 0 1 = cc in omega arith

not_store : NoTrail STORE
not_store e = let z : ◌≡◌ {A = ℕ} 0 1 = cc in omega arith

not_twice : NoTrail TWICE
not_twice e = let z : ◌≡◌ {A = ℕ} 0 1 = cc in omega arith

pub Front-header : (profile : Profile) → Front (header profile)
Front-header profile = record {
  own = record { inside = (header-Law profile).inside; alike = λ p s a n e t u h. (header-Law profile).alike p s a n e p t u h };
  early = λ p s e.
      Early-tests 0 p (leb 76 (length s) else CUT at 0 ∷ header_rules profile (take 76 s)) (header_fields (take 76 s)) 76 (omega arith)
      ((λ z. not_cut), λ z. ((λ z. not_magic), λ z. ((λ z. not_magic), λ z. ((λ z. not_head), λ z. ((λ z. not_head), λ z. ((λ z. not_head), λ z. ((λ z. not_head), λ z. tt)))))))
      e;
}

-- a section that says its own size: what it reads as may go by where it stands
module _ {A B : Type 0} (k h : ℕ) (size : List ℕ → ℕ) (sizes : ℕ → List Test) (rules : List ℕ → List Test) (value : List ℕ → A) (enc : A → List ℕ) (Valid : A → Type 0)
    (F : Law (sized_r k h size sizes rules value) enc Valid) (told : ℕ → List ℕ → B)
    (same : (p : ℕ) (s t : List ℕ) → size t ≡ size s → take (size s) t ≡ take (size s) s → told p t ≡ told p s) (before : k < 8) (no : (s : List ℕ) → Each Other (sized_tests k h size sizes rules value s)) where
  abbrev R : Reader B
  R p s = tests (section k p) (sized_tests k h size sizes rules value s) (got (told p s) (size s))

  sized_alike : (p : ℕ) (s : List ℕ) (b : B) (n : ℕ) → R p s ≡ got b n → (t : List ℕ) → take n t ≡ take n s → n ≤ length t → R p t ≡ got b n
  sized_alike p s b n e t =
      tests_elim (λ b n. take n t ≡ take n s → n ≤ length t → R p t ≡ got b n) (section k p) (sized_tests k h size sizes rules value s) (told p s) (size s)
      (λ c u l.
      let x = pass (section k p) (sized_tests k h size sizes rules value s) (got (value (take (size s) s)) (size s)) c in
      let y = F.alike p s (value (take (size s) s)) (size s) x p t u l in
      let z = passed (section k p) (sized_tests k h size sizes rules value t) (got (value (take (size t) t)) (size t)) y in
      let q : size t ≡ size s = got_elim (λ a n. size t ≡ n) z.1 refl in
      pass (section k p) (sized_tests k h size sizes rules value t) (got (told p t) (size t)) z.0 ∙ rw (q, same p s t q u))
      b n e

  Front-sized : Front R
  Front-sized = record {
    own = record {
      inside = λ p s b n e.
          tests_elim (λ b n. n ≤ length s) (section k p) (sized_tests k h size sizes rules value s) (told p s) (size s) (λ c. (sized_holds k h size sizes rules value s c).within) b n e;
      alike = sized_alike;
    };
    early = λ p s e. Early-tests k p (sized_tests k h size sizes rules value s) (told p s) (size s) before (no s) e;
  }

pub Front-items : Front items
Front-items =
    Front-sized 1 2 items_length (λ n. []) items_rules items_value _ _ items_Law (λ p s. place (p + 2) (items_length s - 4)) (λ p s t e u. rw e) (omega arith)
    (λ s. (
      (λ e. not_cut),
      λ e. ((λ e. not_cut), λ e. Each-fault NoTrail ITEMS (items_rules (take (items_length s) s)) not_items (item_OfFault ITEMS 2 0 (drop 2 (take (items_length s) s)))),
    ))

Front-string : (k : ℕ) (u : Bool) → k < 8 → Front (string k u)
Front-string k u h =
    Front-sized k 2 (string_length u) (λ n. []) (λ l. []) (λ l. drop 2 l) _ _ (string_Law k u) (λ p s. place (p + 2) (bytes_of u (u16_at s 0)))
    (λ p s t e z. let q : bytes_of u (u16_at t 0) ≡ bytes_of u (u16_at s 0) = omega arith in rw q) h
    (λ s. ((λ e. not_cut), λ e. ((λ e. not_cut), λ e. tt)))

-- what LinkInfo's offsets lead to gives PIECE, and its tests before that INFO
pub Each-pieces : (X : Fault → Type 0) → X PIECE → (l : List ℕ) → Each (λ f i. X f) (piece_tests (info_head l) (info_pieces l))
Each-pieces X piece l = Each-piece Every (info_head l) (info_pieces l) pieces
  where
    Every : Fault → ℕ → Type 0
    Every f i = X f

    struct : (i o least : ℕ) (rules : List ℕ → List Test) → ((v : List ℕ) → least ≤ length v → Each Every (rules v)) → Each Every (struct_tests i o least rules (drop o l))
    struct i o least rules g =
        Each-struct Every i o least rules (drop o l) piece (λ h. piece)
        (λ a b. g (take (u32_at (drop o l) 0) (drop o l)) (omega (arith, length-take-le (u32_at (drop o l) 0) (drop o l) a)))

    pieces : PiecesIn Every (info_pieces l)
    pieces = (
      (λ e. (piece, struct 12 (u32_at l 12) 0x11 volume_rules (λ v h. Each-volume Every v h (λ j z. piece)))),
      (
        (λ e. Each-text Every 16 false (drop (u32_at l 16) l) piece),
        (
          (λ e. (piece, struct 20 (u32_at l 20) 0x14 network_rules (λ v h. Each-network Every v h (λ j z. piece) (λ y z. piece) (λ y z. piece)))),
          (
            (λ e. Each-text Every 24 false (drop (u32_at l 24) l) piece),
            (
              (λ e. Each-text Every 28 true (drop (u32_at l 28) l) piece),
              ((λ e. Each-text Every 32 true (drop (u32_at l 32) l) piece), tt),
            ),
          ),
        ),
      ),
    )

pub Each-info : (X : Fault → Type 0) → X INFO → X PIECE → (profile : Profile) (l : List ℕ) → Each (λ f i. X f) (info_rules profile l)
Each-info X head piece profile l =
    Each-append (λ f i. X f) (info_head_tests profile l) (piece_tests (info_head l) (info_pieces l))
    ((λ e. head), λ e. ((λ e. head), λ e. ((λ e. head), λ e. ((λ e. head), λ e. ((λ e. head), λ e. ((λ e. head), λ e. tt))))))
    (λ c. Each-pieces X piece l)

pub Front-info : (profile : Profile) → Front (info profile)
Front-info profile =
    Front-sized 2 4 info_size (λ n. leb 0x1C n else INFO at 0 ∷ []) (info_rules profile) info_value _ _ (info_Law profile) (λ p s. info_fields p (take (info_size s) s))
    (λ p s t e u. ap (λ (l : List ℕ). info_fields p l) (ap (λ (n : ℕ). take n t) e ∙ u)) (omega arith)
    (λ s. ((λ e. not_cut), λ e. ((λ e. not_info), λ e. ((λ e. not_cut), λ e. Each-info NoTrail not_info not_piece profile (take (info_size s) s)))))

Own-found : {A : Type 0} {P : Reader A} → Own P → Own (found P)
Own-found {P = P} F = record {
  inside = λ p s c n e. found_elim P p s (λ c n. n ≤ length s) (λ a n i. F.inside p s a n i) c n e;
  alike = λ p s c n e t. found_elim P p s (λ c n. take n t ≡ take n s → n ≤ length t → found P p t ≡ got c n) (λ a n i u h. rw (F.alike p s a n i t u h)) c n e;
}

pub Front-found : {A : Type 0} {P : Reader A} → Front P → Front (found P)
Front-found {A = A} {P = P} F = record {
  own = Own-found F.own;
  early = λ p s e. go p s (P p s) refl e;
}
  where
    go : (p : ℕ) (s : List ℕ) (r : Outcome A) → P p s ≡ r → {f : Fault} {w : Spot} → ◌≡◌ {A = Outcome (Section A)} (and_then r (λ a n. got (record { there = true; start = p; len = n; read = a }) n)) (refused f w) → Early f w
    go p s (got a n) i e = no_refusal e
    go p s (refused f w) i e = refused_elim Early e (F.early p s i)

pub Front-section : {A : Type 0} {P : Reader A} (b : Bool) (d : A) → Front P → Front (section_if b d P)
Front-section true d F = Front-found F
Front-section false d F = record {
  own = record { inside = λ p s c n e. got_elim (λ c n. n ≤ length s) e (omega arith); alike = λ p s c n e t u h. e };
  early = λ p s e. no_refusal e;
}

-- ---- readers that end with the blocks

-- what is read from p on: the k bytes up to the fault, and a terminal after them
pub record Mended {A : Type 0} (P : Reader A) (p : ℕ) (s : List ℕ) (start : ℕ) : Type 0 where
  pub count : ℕ
  pub is : start ≡ p + count
  pub within : count ≤ length s
  pub ends : (t : List ℕ) → take count t ≡ take count s → count + 4 ≤ length t → block_size (drop count t) < 4 → (a : A) × (P p t ≡ got a (count + 4))

pub record Mends {A : Type 0} (P : Reader A) : Type 0 where
  pub mends : (p : ℕ) (s : List ℕ) {f : Fault} {w : Spot} → P p s ≡ refused f w → NoTrail f × (8 ≤ w.section → Mended P p s w.start)

Mends-found : {A : Type 0} {P : Reader A} → Mends P → Mends (found P)
Mends-found {A = A} {P = P} F = record { mends = λ p s e. go p s (P p s) refl e }
  where
    go : (p : ℕ) (s : List ℕ) (r : Outcome A) → P p s ≡ r → {f : Fault} {w : Spot} → ◌≡◌ {A = Outcome (Section A)} (and_then r (λ a n. got (record { there = true; start = p; len = n; read = a }) n)) (refused f w)
        → NoTrail f × (8 ≤ w.section → Mended (found P) p s w.start)
    go p s (got a n) i e = no_refusal e
    go p s (refused f w) i e =
        refused_elim (λ f w. NoTrail f × (8 ≤ w.section → Mended (found P) p s w.start)) e (
          (F.mends p s i).0,
          λ h.
              let x = (F.mends p s i).1 h in
              record {
                count = x.count;
                is = x.is;
                within = x.within;
                ends = λ t u l z. let (a, j) = x.ends t u l z in (record { there = true; start = p; len = x.count + 4; read = a }, rw j);
              },
        )

Mends-chain : {A B : Type 0} {P : Reader A} (Q : A → Reader B) → Front P → ((a : A) → Mends (Q a)) → Mends (chain P Q)
Mends-chain {A = A} {B = B} {P = P} Q F G = record { mends = λ p s e. go p s (P p s) refl e }
  where
    Ends : ℕ → List ℕ → Fault → Spot → Type 0
    Ends p s f w = NoTrail f × (8 ≤ w.section → Mended (chain P Q) p s w.start)

    mended : (p : ℕ) (s : List ℕ) (a : A) (n : ℕ) → P p s ≡ got a n → {b : ℕ} → Mended (Q a) (p + n) (drop n s) b → Mended (chain P Q) p s b
    mended p s a n i x =
        let j : n ≤ length s = F.own.inside p s a n i in
        let k : ℕ = x.count in
        record {
          count = n + k;
          is = x.is ∙ add_assoc p n k;
          within = omega (arith, x.within, length-drop n s);
          ends = λ t u l z.
              let y : take n t ≡ take n s = sym (take-take n (n + k) t (omega arith)) ∙ ap (take n) u ∙ take-take n (n + k) s (omega arith) in
              let v : take k (drop n t) ≡ take k (drop n s) = sym (drop-take n k t) ∙ ap (drop n) u ∙ drop-take n k s in
              let (b, g) = x.ends (drop n t) v (omega (arith, length-drop n t)) (rw drop-drop z) in
              ((a, b), rw (F.own.alike p s a n i t y (omega arith), g, ← (add_assoc n k 4)));
        }

    next : (p : ℕ) (s : List ℕ) (a : A) (n : ℕ) → P p s ≡ got a n → (r : Outcome B) → Q a (p + n) (drop n s) ≡ r → {f : Fault} {w : Spot}
        → ◌≡◌ {A = Outcome (A × B)} (and_then r (λ b m. got (a, b) (n + m))) (refused f w) → Ends p s f w
    next p s a n i (got b m) j e = no_refusal e
    next p s a n i (refused f w) j e =
        let x = (G a).mends (p + n) (drop n s) j in
        refused_elim (Ends p s) e (x.0, λ h. mended p s a n i (x.1 h))

    go : (p : ℕ) (s : List ℕ) (r : Outcome A) → P p s ≡ r → {f : Fault} {w : Spot}
        → ◌≡◌ {A = Outcome (A × B)} (and_then r (λ a n. and_then (Q a (p + n) (drop n s)) (λ b m. got (a, b) (n + m)))) (refused f w) → Ends p s f w
    go p s (got a n) i e = next p s a n i (Q a (p + n) (drop n s)) refl e
    go p s (refused f w) i e = let x = F.early p s i in refused_elim (Ends p s) e (x.1, λ h. absurd (omega (arith, x.0)))

Mends-then : {A B : Type 0} {P : Reader A} {Q : Reader B} → Front P → Mends Q → Mends (P then Q)
Mends-then {Q = Q} F G = Mends-chain (λ a. Q) F (λ a. G)

-- ---- the blocks

-- a block that passed, in a file that has its bytes too: what follows decides
pub block_again : (before : List ℕ) (p : ℕ) (s : List ℕ) → Pass (block_tests s) → once before (slot_at s) ≡ true → (t : List ℕ) → take (block_size s) t ≡ take (block_size s) s
    → block_size s ≤ length t → (r : Outcome (List ℕ)) → blocks_after (slot_at s ∷ before) (p + block_size s) (drop (block_size s) t) ≡ r
    → blocks_after before p t ≡ and_then r (λ lengths m. got (block_size s ∷ lengths) (block_size s + m))
block_again before p s c o t u l r e =
    let n : ℕ = block_size s in
    let b : 8 ≤ n = leb-true 8 n c.0 in
    let f : block_size t ≡ n = number_same 4 n t s 0 u (omega arith) in
    let x : slot_at t ≡ slot_at s = same_slot n t s u b in
    let d : Pass (block_tests t) = rw (f, u) (c.0, (le-leb n (length t) l, c.1.1)) in
    one_more before p t (omega arith) (omega arith) ∙ pass (block p) (block_tests t) (more before p (block_size t) t) d ∙ ap (λ (j : ℕ). more before p j t) f ∙ more_on before p n t r (rw x o) (rw x e)

-- what a block's rules give is BLOCK or STORE
pub Each-held : (X : Fault → Type 0) → X BLOCK → X STORE → (b : List ℕ) → Each (λ f i. X f) (block_rules b)
unfolding held_fault
Each-held X rule store b = ((λ e. rule), λ e. Each-fault X (held_fault (slot_at b)) (inside_tests (slot_at b) b) (held (eqb (slot_at b) (slot_of 0xA0000009))) (inside_OfFault (slot_at b) b))
  where
    held : (t : Bool) → X (cond t STORE BLOCK)
    held true = store
    held false = rule

block_Other : (s : List ℕ) → Each Other (block_tests s)
block_Other s = ((λ e. not_block), λ e. ((λ e. not_cut), λ e. Each-held NoTrail not_block not_store (take (block_size s) s)))

module _ (before : List ℕ) (p : ℕ) (s : List ℕ) where
  abbrev Stops : Fault → Spot → Type 0
  Stops f w = NoTrail f × Mended (blocks_after before) p s w.start

  -- the block at p itself
  here : Mended (blocks_after before) p s p
  here = record { count = 0; is = omega arith; within = omega arith; ends = λ t u l z. ([], the_end before p t l z) }

  -- one of those after a block that passed
  beyond : Pass (block_tests s) → once before (slot_at s) ≡ true → {b : ℕ} → Mended (blocks_after (slot_at s ∷ before)) (p + block_size s) (drop (block_size s) s) b → Mended (blocks_after before) p s b
  beyond c o x =
      let n : ℕ = block_size s in
      let k : ℕ = x.count in
      let g : n ≤ length s = leb-true n (length s) c.1.0 in
      record {
        count = n + k;
        is = x.is ∙ add_assoc p n k;
        within = omega (arith, x.within, length-drop n s);
        ends = λ t u l z.
            let y : take n t ≡ take n s = sym (take-take n (n + k) t (omega arith)) ∙ ap (take n) u ∙ take-take n (n + k) s (omega arith) in
            let v : take k (drop n t) ≡ take k (drop n s) = sym (drop-take n k t) ∙ ap (drop n) u ∙ drop-take n k s in
            let (a, i) = x.ends (drop n t) v (omega (arith, length-drop n t)) (rw drop-drop z) in
            (n ∷ a, block_again before p s c o t y (omega arith) (got a (k + 4)) i ∙ rw (← (add_assoc n k 4)));
      }

-- k bounds what is left
walk_mends : (k : ℕ) (before : List ℕ) (p : ℕ) (s : List ℕ) → length s ≤ k → {f : Fault} {w : Spot} → blocks_after before p s ≡ refused f w → Stops before p s f w
walk_mends zero before p s l e = refused_elim (Stops before p s) (sym (none_left before p s (omega arith)) ∙ e) (not_cut, here before p s)
walk_mends (suc k) before p s l {f} {w} e =
    by_order 4 (length s)
    (λ h.
    by_order 4 (block_size s)
    (λ t.
    tests-refused Other (Stops before p s) (block p) (block_tests s) (more before p n s) (block_Other s) (λ f i x. (x, here before p s))
    (λ c z. next c (λ o f w j. walk_mends k (slot_at s ∷ before) (p + n) (drop n s) (shorter c) j) (once before (slot_at s)) refl z)
    (sym (one_more before p s h t) ∙ e))
    (λ t. no_refusal (sym (the_end before p s h t) ∙ e)))
    (λ h. refused_elim (Stops before p s) (sym (none_left before p s h) ∙ e) (not_cut, here before p s))
  where
    n : ℕ
    n = block_size s

    shorter : Pass (block_tests s) → length (drop n s) ≤ k
    shorter c = omega (arith, leb-true 8 n c.0, length-drop n s)

    rest : Outcome (List ℕ)
    rest = blocks_after (slot_at s ∷ before) (p + n) (drop n s)

    after : Pass (block_tests s) → once before (slot_at s) ≡ true → ((f : Fault) (w : Spot) → rest ≡ refused f w → Stops (slot_at s ∷ before) (p + n) (drop n s) f w)
        → (r : Outcome (List ℕ)) → rest ≡ r → ◌≡◌ {A = Outcome (List ℕ)} (and_then r (λ lengths m. got (n ∷ lengths) (n + m))) (refused f w) → Stops before p s f w
    after c o g (got ls m) i z = no_refusal z
    after c o g (refused x y) i z = let q = g x y i in refused_elim (Stops before p s) z (q.0, beyond before p s c o q.1)

    next : Pass (block_tests s) → (once before (slot_at s) ≡ true → (f : Fault) (w : Spot) → rest ≡ refused f w → Stops (slot_at s ∷ before) (p + n) (drop n s) f w)
        → (b : Bool) → once before (slot_at s) ≡ b
        → ◌≡◌ {A = Outcome (List ℕ)} (and_then (cond b rest (refused TWICE (spot_at (block p) 4))) (λ lengths m. got (n ∷ lengths) (n + m))) (refused f w) → Stops before p s f w
    next c g true o z = after c o (g o) rest refl z
    next c g false o z = refused_elim (Stops before p s) z (not_twice, here before p s)

Mends-blocks : Mends blocks
Mends-blocks = record { mends = λ p s e. let x = walk_mends (length s) [] p s (omega arith) e in (x.0, λ h. x.1) }

-- ---- all of them

Own-chain : {A B : Type 0} {P : Reader A} (Q : A → Reader B) → Own P → ((a : A) → Own (Q a)) → Own (chain P Q)
Own-chain {P = P} Q F G = record {
  inside = λ p s c k e.
      chain_elim P Q p s (λ c k. k ≤ length s)
      (λ a n b m i j. omega (arith, F.inside p s a n i, (G a).inside (p + n) (drop n s) b m j, length-drop n s))
      c k e;
  alike = λ p s c k e t.
      chain_elim P Q p s (λ c k. take k t ≡ take k s → k ≤ length t → chain P Q p t ≡ got c k)
      (λ a n b m i j u h.
      let x : take n t ≡ take n s = sym (take-take n (n + m) t (omega arith)) ∙ ap (take n) u ∙ take-take n (n + m) s (omega arith) in
      let y : take m (drop n t) ≡ take m (drop n s) = sym (drop-take n m t) ∙ ap (drop n) u ∙ drop-take n m s in
      rw (F.alike p s a n i t x (omega arith), (G a).alike (p + n) (drop n s) b m j (drop n t) y (omega (arith, length-drop n t))))
      c k e;
}

Own-then : {A B : Type 0} {P : Reader A} {Q : Reader B} → Own P → Own Q → Own (P then Q)
Own-then {Q = Q} F G = Own-chain (λ a. Q) F (λ a. G)

Own-blocks : Own blocks
Own-blocks = record {
  inside = λ p s ls n e. (blocks_Walked [] p s ls n e).inside;
  alike = λ p s ls n e t u h.
      let w = blocks_Walked [] p s ls n e in
      let y : take (n - 4) t ≡ take (n - 4) s = sym (take-take (n - 4) n t (omega arith)) ∙ ap (take (n - 4)) u ∙ take-take (n - 4) n s (omega arith) in
      let v : block_size (drop (n - 4) t) ≡ block_size (drop (n - 4) s) = number_drop 4 (n - 4) t 0 ∙ number_same 4 n t s (n - 4 + 0) u (omega (arith, w.adds)) ∙ sym (number_drop 4 (n - 4) s 0) in
      blocks_same [] p s ls n e p t y h (rw v (ends_terminal (length s) [] p s ls n (omega arith) e));
}

pub Front-strings : (flags k : ℕ) → k < 7 → Front (string_section flags k)
Front-strings flags k h = Front-section (string_there k flags) no_place (Front-string (k + 1) (strings_unicode flags) (omega arith))

Mends-tail : (profile : Profile) (flags : ℕ) → Mends (tail profile flags)
Mends-tail profile flags =
    Mends-then (Front-section (items_there flags) no_place Front-items)
    (Mends-then (Front-section (info_there flags) no_info (Front-info profile))
    (Mends-then (Front-strings flags name_bit (omega arith))
    (Mends-then (Front-strings flags relative_bit (omega arith))
    (Mends-then (Front-strings flags workdir_bit (omega arith))
    (Mends-then (Front-strings flags arguments_bit (omega arith)) (Mends-then (Front-strings flags icon_bit (omega arith)) (Mends-found Mends-blocks)))))))

pub Mends-sections : (profile : Profile) → Mends (sections profile)
unfolding sections
Mends-sections profile = Mends-chain (λ (h : Section Header). tail profile h.read.flags) (Front-found (Front-header profile)) (λ h. Mends-tail profile h.read.flags)

Own-tail : (profile : Profile) (flags : ℕ) → Own (tail profile flags)
Own-tail profile flags =
    Own-then (Front-section (items_there flags) no_place Front-items).own
    (Own-then (Front-section (info_there flags) no_info (Front-info profile)).own
    (Own-then (Front-strings flags name_bit (omega arith)).own
    (Own-then (Front-strings flags relative_bit (omega arith)).own
    (Own-then (Front-strings flags workdir_bit (omega arith)).own
    (Own-then (Front-strings flags arguments_bit (omega arith)).own (Own-then (Front-strings flags icon_bit (omega arith)).own (Own-found Own-blocks)))))))

pub Own-sections : (profile : Profile) → Own (sections profile)
unfolding sections
Own-sections profile = Own-chain (λ (h : Section Header). tail profile h.read.flags) (Front-found (Front-header profile)).own (λ h. Own-tail profile h.read.flags)
