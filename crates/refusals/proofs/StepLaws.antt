-- A section by itself, from where it is due: it is cut exactly if bytes that it needs are missing, and else only its own bytes decide.
use mathlib.Core.Path.{◌≡◌, refl, sym, ap, ◌∙◌}
use mathlib.Core.List.{List, [], ◌∷◌}
use mathlib.Core.Bool.{Bool, true, false, cond}
use Prim.Native.Nat.{ℕ, ◌+◌, ◌-◌, ◌≤◌, ◌<◌}
use native.Mathlib.Omega.{arith}
use lib.ListN.{length, take, drop, length-take, length-drop}
use lib.Seq.{take-take}
use lib.Dec.{leb, ltb, eqb}
use borrow.Author.Tests.{le-leb, lt-leb, lt-ltb, le-ltb, eqb-true}
use Rattle.octets.specs.Numbers.{u16_at, u32_at}
use Rattle.octets.specs.Characters.{bytes_of}
use Rattle.octets.proofs.NumberLaws.{number_same}
use Rattle.format.specs.declared.Profile.{Profile}
use Rattle.format.specs.declared.Fault.{Fault}
use Rattle.format.specs.declared.Fault.TheVariants.{Cut as CUT, Magic as MAGIC, Head as HEAD, Items as ITEMS, Info as INFO, Piece as PIECE, Block as BLOCK, Twice as TWICE, Store as STORE}
use Rattle.format.specs.declared.Spot.{Spot}
use Rattle.format.specs.Numbers.{number_of}
use Rattle.format.specs.Tests.{◌else◌at◌, Site, section, spot_at, Test, tests, Outcome, got, refused, Reader, place}
use Rattle.format.specs.Header.{header_rules, header_fields, header}
use Rattle.format.specs.Items.{items_length, items_rules, items}
use Rattle.format.specs.Strings.{string_length, string}
use Rattle.format.specs.Info.{info_size, info_rules, info_fields, info}
use Rattle.format.specs.Blocks.{Standing, a_block, a_terminal, slot_at, block_size, block_rules, block_tests, block, terminal, once_tests}
use Rattle.format.specs.Positions.{is_string}
use Rattle.format.proofs.Bools.{by_order}
use Rattle.format.proofs.Chains.{drop-take}
use Rattle.format.proofs.EachLaws.{Each}
use Rattle.format.proofs.ItemsLaws.{item_OfFault}
use Rattle.format.proofs.BlockLaws.{same_slot}
use Rattle.format.proofs.MendLaws.{tests-refused, refused_elim, no_refusal, Each-fault, Each-info, Each-held}
use Rattle.refusals.specs.Due.{size_or_field, needed}

-- ---- beginnings

-- c begins with b
abbrev pub Begins : List ℕ → List ℕ → Type 0
Begins b c = take (length b) c ≡ b

pub Begins-take : (n : ℕ) (b c : List ℕ) → Begins b c → n ≤ length b → take n c ≡ take n b
Begins-take n b c e h = sym (take-take n (length b) c h) ∙ ap (take n) e

pub Begins-length : (b c : List ℕ) → Begins b c → length b ≤ length c
Begins-length b c e = omega (arith, length-take (length b) c, ap (λ (l : List ℕ). length l) e)

pub Begins-drop : (q : ℕ) (b c : List ℕ) → Begins b c → q ≤ length b → Begins (drop q b) (drop q c)
Begins-drop q b c e h =
    let z : length b ≡ q + length (drop q b) = omega (arith, length-drop q b) in
    sym (drop-take q (length (drop q b)) c) ∙ ap (λ (n : ℕ). drop q (take n c)) (sym z) ∙ ap (drop q) e

-- ---- what is asked of a section

-- cut where it starts
pub record CutHere {A : Type 0} (p : ℕ) (o : Outcome A) : Type 0 where
  pub spot : Spot
  pub is : o ≡ refused CUT spot
  pub start : spot.start ≡ p
  pub position : spot.position ≡ p

abbrev pub NoCut : Fault → Type 0
NoCut f = f ≡ CUT → ⊥

pub record Cuts {A : Type 0} (R : Reader A) (need : List ℕ → ℕ) : Type 0 where
  pub short : (p : ℕ) (b : List ℕ) → length b < need b → CutHere p (R p b)
  pub enough : (p : ℕ) (b : List ℕ) → need b ≤ length b → {f : Fault} {w : Spot} → R p b ≡ refused f w → NoCut f
  pub same : (p : ℕ) (b c : List ℕ) → need b ≤ length b → Begins b c → R p c ≡ R p b
  pub start : (p : ℕ) (b : List ℕ) {f : Fault} {w : Spot} → R p b ≡ refused f w → w.start ≡ p

pub no_magic : NoCut MAGIC
no_magic e = let z : ◌≡◌ {A = ℕ} 0 1 = cc in omega arith

pub no_head : NoCut HEAD
no_head e = let z : ◌≡◌ {A = ℕ} 0 1 = cc in omega arith

pub no_items : NoCut ITEMS
no_items e = let z : ◌≡◌ {A = ℕ} 0 1 = cc in omega arith

pub no_info : NoCut INFO
no_info e = let z : ◌≡◌ {A = ℕ} 0 1 = cc in omega arith

pub no_piece : NoCut PIECE
no_piece e = let z : ◌≡◌ {A = ℕ} 0 1 = cc in omega arith

pub no_block : NoCut BLOCK
no_block e = let z : ◌≡◌ {A = ℕ} 0 1 = cc in omega arith

pub no_twice : NoCut TWICE
no_twice e = let z : ◌≡◌ {A = ℕ} 0 1 = cc in omega arith

pub no_store : NoCut STORE
no_store e = let z : ◌≡◌ {A = ℕ} 0 1 = cc in omega arith

-- tests of faults other than CUT
uncut_tests : {A : Type 0} (w : Site) (ts : List Test) (a : A) (n : ℕ) → Each (λ f i. NoCut f) ts → {f : Fault} {q : Spot} → tests w ts (got a n) ≡ refused f q → NoCut f
uncut_tests w ts a n h e = tests-refused (λ f i. NoCut f) (λ f q. NoCut f) w ts (got a n) h (λ f i x. x) (λ c z. no_refusal z) e

Each-any : (ts : List Test) → Each (λ f i. Unit {0}) ts
Each-any [] = tt
Each-any (t ∷ ts) = ((λ e. tt), λ e. Each-any ts)

-- a refusal stands in the section whose tests they are
tests_start : {A : Type 0} (k p : ℕ) (ts : List Test) (a : A) (n : ℕ) {f : Fault} {w : Spot} → tests (section k p) ts (got a n) ≡ refused f w → w.start ≡ p
tests_start k p ts a n e = tests-refused (λ f i. Unit {0}) (λ f w. w.start ≡ p) (section k p) ts (got a n) (Each-any ts) (λ f i x. refl) (λ c z. no_refusal z) e

cut_here : {A : Type 0} (k p : ℕ) {o : Outcome A} → o ≡ refused CUT (spot_at (section k p) 0) → CutHere p o
cut_here k p e = record { spot = spot_at (section k p) 0; is = e; start = refl; position = omega arith }

-- ---- the header

pub Cuts-header : (profile : Profile) → Cuts (header profile) (λ b. 76)
Cuts-header profile = record {
  short = λ p b h. cut_here 0 p (rw (lt-leb 76 (length b) h));
  enough = λ p b h e. uncut_tests (section 0 p) (header_rules profile (take 76 b)) (header_fields (take 76 b)) 76 ((λ z. no_magic), λ z. ((λ z. no_magic), λ z. ((λ z. no_head), λ z. ((λ z. no_head), λ z. ((λ z. no_head), λ z. ((λ z. no_head), λ z. tt)))))) (rw (le-leb 76 (length b) h) at e);
  same = λ p b c h e. rw (le-leb 76 (length b) h, le-leb 76 (length c) (omega (arith, Begins-length b c e)), Begins-take 76 b c e h);
  start = λ p b e. tests_start 0 p (leb 76 (length b) else CUT at 0 ∷ header_rules profile (take 76 b)) (header_fields (take 76 b)) 76 e;
}

-- ---- sections with a size or count in their first two bytes

module _ {A : Type 0} (k : ℕ) (size : ℕ → ℕ) (rules : List ℕ → List Test) (told : ℕ → ℕ → A) (low : (n : ℕ) → 2 ≤ size n) (no : (l : List ℕ) → Each (λ f i. NoCut f) (rules l)) where
  abbrev R : Reader A
  R p b =
      tests (section k p) (leb 2 (length b) else CUT at 0 ∷ leb (size (u16_at b 0)) (length b) else CUT at 0 ∷ rules (take (size (u16_at b 0)) b))
      (got (told p (u16_at b 0)) (size (u16_at b 0)))

  Cuts-counted : Cuts R (λ b. size (u16_at b 0))
  Cuts-counted = record {
    short = λ p b h.
        by_order 2 (length b)
        (λ g. cut_here k p (rw (le-leb 2 (length b) g, lt-leb (size (u16_at b 0)) (length b) h)))
        (λ g. cut_here k p (rw (lt-leb 2 (length b) g)));
    enough = λ p b h e.
        let g : 2 ≤ length b = omega (arith, low (u16_at b 0)) in
        uncut_tests (section k p) (rules (take (size (u16_at b 0)) b)) (told p (u16_at b 0)) (size (u16_at b 0)) (no (take (size (u16_at b 0)) b))
        (rw (le-leb 2 (length b) g, le-leb (size (u16_at b 0)) (length b) h) at e);
    same = λ p b c h e.
        let n : ℕ = size (u16_at b 0) in
        let g : 2 ≤ length b = omega (arith, low (u16_at b 0)) in
        let l : length b ≤ length c = Begins-length b c e in
        let u : u16_at c 0 ≡ u16_at b 0 = number_same 2 2 c b 0 (Begins-take 2 b c e g) (omega arith) in
        rw (u, le-leb 2 (length b) g, le-leb 2 (length c) (omega arith), le-leb n (length b) h, le-leb n (length c) (omega arith), Begins-take n b c e h);
    start = λ p b e.
        tests_start k p (leb 2 (length b) else CUT at 0 ∷ leb (size (u16_at b 0)) (length b) else CUT at 0 ∷ rules (take (size (u16_at b 0)) b)) (told p (u16_at b 0)) (size (u16_at b 0)) e;
  }

pub Cuts-items : Cuts items (λ b. 2 + u16_at b 0)
Cuts-items =
    Cuts-counted 1 (λ n. 2 + n) items_rules (λ p n. place (p + 2) (2 + n - 4)) (λ n. omega arith)
    (λ l. Each-fault NoCut ITEMS (items_rules l) no_items (item_OfFault ITEMS 2 0 (drop 2 l)))

pub Cuts-string : (k : ℕ) (u : Bool) → Cuts (string k u) (λ b. 2 + bytes_of u (u16_at b 0))
Cuts-string k u = Cuts-counted k (λ n. 2 + bytes_of u n) (λ l. []) (λ p n. place (p + 2) (bytes_of u n)) (λ n. omega arith) (λ l. tt)

-- ---- LinkInfo

-- what three tests that hold leave of a list
first_three : {A : Type 0} (w : Site) (x y z : Test) (ts : List Test) (r : Outcome A) → x.holds ≡ true → y.holds ≡ true → z.holds ≡ true → tests w (x ∷ y ∷ z ∷ ts) r ≡ tests w ts r
first_three w x y z ts r a b c = rw (a, b, c)

pub Cuts-info : (profile : Profile) → Cuts (info profile) (λ b. size_or_field 0x1C (u32_at b 0))
Cuts-info profile = record {
  short = λ p b h.
      by_order 4 (length b)
      (λ g.
      by_order 0x1C (info_size b)
      (λ l.
      let z : length b < info_size b = rw (le-ltb (info_size b) 0x1C l) at h in
      cut_here 2 p (rw (le-leb 4 (length b) g, le-leb 0x1C (info_size b) l, lt-leb (info_size b) (length b) z)))
      (λ l. absurd (let z : length b < 4 = rw (lt-ltb (info_size b) 0x1C l) at h in omega arith)))
      (λ g. cut_here 2 p (rw (lt-leb 4 (length b) g)));
  enough = λ p b h e.
      by_order 0x1C (info_size b)
      (λ l.
      let g : info_size b ≤ length b = rw (le-ltb (info_size b) 0x1C l) at h in
      uncut_tests (section 2 p) (info_rules profile (take (info_size b) b)) (info_fields p (take (info_size b) b)) (info_size b) (Each-info NoCut no_info no_piece profile (take (info_size b) b))
      (rw (le-leb 4 (length b) (omega arith), le-leb 0x1C (info_size b) l, le-leb (info_size b) (length b) g) at e))
      (λ l.
      let g : 4 ≤ length b = rw (lt-ltb (info_size b) 0x1C l) at h in
      refused_elim (λ f w. NoCut f) (rw (le-leb 4 (length b) g, lt-leb 0x1C (info_size b) l) at e) no_info);
  same = λ p b c h e.
      let m : length b ≤ length c = Begins-length b c e in
      by_order 0x1C (info_size b)
      (λ l.
      let g : info_size b ≤ length b = rw (le-ltb (info_size b) 0x1C l) at h in
      let u : info_size c ≡ info_size b = number_same 4 4 c b 0 (Begins-take 4 b c e (omega arith)) (omega arith) in
      let c_low : 0x1C ≤ info_size c = omega (arith, u, l) in
      let c_fits : info_size c ≤ length c = omega (arith, u, g, m) in
      first_three (section 2 p) _ _ _ (info_rules profile (take (info_size c) c)) (got (info_fields p (take (info_size c) c)) (info_size c))
      (le-leb 4 (length c) (omega arith)) (le-leb 0x1C (info_size c) c_low) (le-leb (info_size c) (length c) c_fits)
      ∙ ap (λ (n : ℕ). tests (section 2 p) (info_rules profile (take n c)) (got (info_fields p (take n c)) n)) u
      ∙ ap (λ (x : List ℕ). tests (section 2 p) (info_rules profile x) (got (info_fields p x) (info_size b))) (Begins-take (info_size b) b c e g)
      ∙ sym
      (first_three (section 2 p) _ _ _ (info_rules profile (take (info_size b) b)) (got (info_fields p (take (info_size b) b)) (info_size b))
      (le-leb 4 (length b) (omega arith)) (le-leb 0x1C (info_size b) l) (le-leb (info_size b) (length b) g)))
      (λ l.
      let g : 4 ≤ length b = rw (lt-ltb (info_size b) 0x1C l) at h in
      let u : info_size c ≡ info_size b = number_same 4 4 c b 0 (Begins-take 4 b c e g) (omega arith) in
      rw (u, le-leb 4 (length b) g, le-leb 4 (length c) (omega arith), lt-leb 0x1C (info_size b) l));
  start = λ p b e. tests_start 2 p (leb 4 (length b) else CUT at 0 ∷ leb 0x1C (info_size b) else INFO at 0 ∷ leb (info_size b) (length b) else CUT at 0 ∷ info_rules profile (take (info_size b) b)) (info_fields p (take (info_size b) b)) (info_size b) e;
}

-- ---- a block or the terminal; `before` has the slots of the blocks before it

abbrev pub block_here : List ℕ → Reader Standing
block_here before p b =
    tests (terminal p) (leb 4 (length b) else CUT at 0 ∷ [])
    (cond (ltb (block_size b) 4) (got a_terminal 4) (tests (block p) (block_tests b) (tests (block p) (once_tests before (slot_at b)) (got a_block (block_size b)))))

module _ (before : List ℕ) where
  once_uncut : (p : ℕ) (b : List ℕ) {f : Fault} {w : Spot} → tests (block p) (once_tests before (slot_at b)) (got a_block (block_size b)) ≡ refused f w → NoCut f
  once_uncut p b e = uncut_tests (block p) (once_tests before (slot_at b)) a_block (block_size b) ((λ z. no_twice), λ z. tt) e

  block_enough : (p : ℕ) (b : List ℕ) → size_or_field 8 (block_size b) ≤ length b → {f : Fault} {w : Spot} → block_here before p b ≡ refused f w → NoCut f
  block_enough p b h e =
      by_order 8 (block_size b)
      (λ l.
      let g : block_size b ≤ length b = rw (le-ltb (block_size b) 8 l) at h in
      tests-refused (λ f i. NoCut f) (λ f w. NoCut f) (block p) (block_rules (take (block_size b) b)) _ (Each-held NoCut no_block no_store (take (block_size b) b)) (λ f i x. x)
      (λ c z. once_uncut p b z)
      (rw (le-leb 4 (length b) (omega arith), le-ltb (block_size b) 4 (omega arith), le-leb 8 (block_size b) l, le-leb (block_size b) (length b) g) at e))
      (λ l.
      let g : 4 ≤ length b = rw (lt-ltb (block_size b) 8 l) at h in
      by_order 4 (block_size b)
      (λ m. refused_elim (λ f w. NoCut f) (rw (le-leb 4 (length b) g, le-ltb (block_size b) 4 m, lt-leb 8 (block_size b) l) at e) no_block)
      (λ m. no_refusal (rw (le-leb 4 (length b) g, lt-ltb (block_size b) 4 m) at e)))

  block_same : (p : ℕ) (b c : List ℕ) → size_or_field 8 (block_size b) ≤ length b → Begins b c → block_here before p c ≡ block_here before p b
  block_same p b c h e =
      let m : length b ≤ length c = Begins-length b c e in
      by_order 8 (block_size b)
      (λ l.
      let g : block_size b ≤ length b = rw (le-ltb (block_size b) 8 l) at h in
      let y : take (block_size b) c ≡ take (block_size b) b = Begins-take (block_size b) b c e g in
      let u : block_size c ≡ block_size b = number_same 4 (block_size b) c b 0 y (omega arith) in
      rw (
        u,
        same_slot (block_size b) c b y l,
        le-leb 4 (length b) (omega arith),
        le-leb 4 (length c) (omega arith),
        le-leb (block_size b) (length b) g,
        le-leb (block_size b) (length c) (omega arith),
        y,
      ))
      (λ l.
      let g : 4 ≤ length b = rw (lt-ltb (block_size b) 8 l) at h in
      let u : block_size c ≡ block_size b = number_same 4 4 c b 0 (Begins-take 4 b c e g) (omega arith) in
      by_order 4 (block_size b)
      (λ o. rw (u, le-leb 4 (length b) g, le-leb 4 (length c) (omega arith), le-ltb (block_size b) 4 o, lt-leb 8 (block_size b) l))
      (λ o. rw (u, le-leb 4 (length b) g, le-leb 4 (length c) (omega arith), lt-ltb (block_size b) 4 o)))

  block_start : (p : ℕ) (b : List ℕ) {f : Fault} {w : Spot} → block_here before p b ≡ refused f w → w.start ≡ p
  block_start p b {f} {w} e =
      tests-refused (λ f i. Unit {0}) (λ f w. w.start ≡ p) (terminal p) (leb 4 (length b) else CUT at 0 ∷ []) _ (Each-any (leb 4 (length b) else CUT at 0 ∷ [])) (λ f i x. refl) (λ c z. go (ltb (block_size b) 4) z) e
    where
      go : (t : Bool) → cond t (got a_terminal 4) (tests (block p) (block_tests b) (tests (block p) (once_tests before (slot_at b)) (got a_block (block_size b)))) ≡ refused f w → w.start ≡ p
      go true z = no_refusal z
      go false z =
          tests-refused (λ f i. Unit {0}) (λ f w. w.start ≡ p) (block p) (block_tests b) _ (Each-any (block_tests b)) (λ f i x. refl)
          (λ c y. tests_start 8 p (once_tests before (slot_at b)) a_block (block_size b) y)
          z

  pub Cuts-block : Cuts (block_here before) (λ b. size_or_field 8 (u32_at b 0))
  Cuts-block = record {
    short = λ p b h.
        by_order 4 (length b)
        (λ g.
        by_order 8 (block_size b)
        (λ l.
        let z : length b < block_size b = rw (le-ltb (block_size b) 8 l) at h in
        cut_here 8 p (rw (le-leb 4 (length b) g, le-ltb (block_size b) 4 (omega arith), le-leb 8 (block_size b) l, lt-leb (block_size b) (length b) z)))
        (λ l. absurd (let z : length b < 4 = rw (lt-ltb (block_size b) 8 l) at h in omega arith)))
        (λ g. cut_here 9 p (rw (lt-leb 4 (length b) g)));
    enough = block_enough;
    same = block_same;
    start = block_start;
  }

-- ---- all of them as one, by the number of the section that is due

abbrev pub ended : {A : Type 0} → Outcome A → Outcome (Unit {0})
ended (got a n) = got tt n
ended (refused f w) = refused f w

pub unended : {A : Type 0} (o : Outcome A) {f : Fault} {w : Spot} → ended o ≡ refused f w → o ≡ refused f w
unended {A = A} (got a n) e = no_refusal e
unended {A = A} (refused f w) e = refused_elim (λ g v. ◌≡◌ {A = Outcome A} (refused f w) (refused g v)) e refl

Cuts-ended : {A : Type 0} {R : Reader A} {need : List ℕ → ℕ} → Cuts R need → Cuts (λ p b. ended (R p b)) need
Cuts-ended {R = R} F = record {
  short = λ p b h. let x = F.short p b h in record { spot = x.spot; is = ap ended x.is; start = x.start; position = x.position };
  enough = λ p b h e. F.enough p b h (unended (R p b) e);
  same = λ p b c h e. ap ended (F.same p b c h e);
  start = λ p b e. F.start p b (unended (R p b) e);
}

-- what is read where the section k is due
unfoldable pub step : Profile → Bool → List ℕ → ℕ → Reader (Unit {0})
step profile u before k p b =
    cond (eqb k 0) (ended (header profile p b))
    (cond (eqb k 1) (ended (items p b))
    (cond (eqb k 2) (ended (info profile p b))
    (cond (is_string k) (ended (string k u p b))
    (cond (eqb k 9) (ended (block_here before p b)) (got tt 0)))))

pub Cuts-step : (profile : Profile) (u : Bool) (before : List ℕ) (k : ℕ) → Cuts (step profile u before k) (needed u k)
unfolding step
Cuts-step profile u before k = go (eqb k 0) (eqb k 1) (eqb k 2) (is_string k) (eqb k 9)
  where
    go : (h i n c d : Bool)
        → Cuts (λ p b. cond h (ended (header profile p b)) (cond i (ended (items p b)) (cond n (ended (info profile p b)) (cond c (ended (string k u p b)) (cond d (ended (block_here before p b)) (got tt 0))))))
        (λ b. cond h 76 (cond i (2 + u16_at b 0) (cond n (size_or_field 0x1C (u32_at b 0)) (cond c (2 + bytes_of u (u16_at b 0)) (cond d (size_or_field 8 (u32_at b 0)) 0)))))
    go true i n c d = Cuts-ended (Cuts-header profile)
    go false true n c d = Cuts-ended Cuts-items
    go false false true c d = Cuts-ended (Cuts-info profile)
    go false false false true d = Cuts-ended (Cuts-string k u)
    go false false false false true = Cuts-ended (Cuts-block before)
    go false false false false false = record { short = λ p b h. absurd (omega arith); enough = λ p b h e. no_refusal e; same = λ p b c h e. refl; start = λ p b e. no_refusal e }

-- ---- which faults a section gives

pub data Belongs : ℕ → Fault → Type 0 where
  by_cut : (k : ℕ) → Belongs k CUT
  by_magic : Belongs 0 MAGIC
  by_head : Belongs 0 HEAD
  by_items : Belongs 1 ITEMS
  by_info : Belongs 2 INFO
  by_piece : Belongs 2 PIECE
  by_block : Belongs 9 BLOCK
  by_store : Belongs 9 STORE
  by_twice : Belongs 9 TWICE

-- neither 1 nor 9
pub Belongs-number : {k : ℕ} {f : Fault} → Belongs k f → (1 < number_of f) × (eqb (number_of f) 9 ≡ false)
unfolding number_of
Belongs-number (by_cut k) = (omega arith, refl)
Belongs-number by_magic = (omega arith, refl)
Belongs-number by_head = (omega arith, refl)
Belongs-number by_items = (omega arith, refl)
Belongs-number by_info = (omega arith, refl)
Belongs-number by_piece = (omega arith, refl)
Belongs-number by_block = (omega arith, refl)
Belongs-number by_store = (omega arith, refl)
Belongs-number by_twice = (omega arith, refl)

tests_belong : {A : Type 0} (j : ℕ) (w : Site) (ts : List Test) (a : A) (n : ℕ) → Each (λ f i. Belongs j f) ts → {f : Fault} {q : Spot} → ended (tests w ts (got a n)) ≡ refused f q → Belongs j f
tests_belong j w ts a n h e = tests-refused (λ f i. Belongs j f) (λ f q. Belongs j f) w ts (got a n) h (λ f i x. x) (λ c z. no_refusal z) (unended (tests w ts (got a n)) e)

block_Belongs : (before : List ℕ) (p : ℕ) (b : List ℕ) {f : Fault} {w : Spot} → ended (block_here before p b) ≡ refused f w → Belongs 9 f
block_Belongs before p b {f} {w} e =
    tests-refused (λ f i. Belongs 9 f) (λ f w. Belongs 9 f) (terminal p) (leb 4 (length b) else CUT at 0 ∷ []) _ ((λ z. by_cut 9), λ z. tt) (λ f i x. x) (λ c z. go (ltb (block_size b) 4) z) (unended (block_here before p b) e)
  where
    go : (t : Bool) → cond t (got a_terminal 4) (tests (block p) (block_tests b) (tests (block p) (once_tests before (slot_at b)) (got a_block (block_size b)))) ≡ refused f w → Belongs 9 f
    go true z = no_refusal z
    go false z =
        tests-refused (λ f i. Belongs 9 f) (λ f w. Belongs 9 f) (block p) (block_tests b) _
        ((λ z. by_block), λ z. ((λ z. by_cut 9), λ z. Each-held (Belongs 9) by_block by_store (take (block_size b) b))) (λ f i x. x)
        (λ c y. tests_belong 9 (block p) (once_tests before (slot_at b)) a_block (block_size b) ((λ z. by_twice), λ z. tt) (ap ended y))
        z

pub step-Belongs : (profile : Profile) (u : Bool) (before : List ℕ) (k p : ℕ) (b : List ℕ) {f : Fault} {w : Spot} → step profile u before k p b ≡ refused f w → Belongs k f
unfolding step
step-Belongs profile u before k p b {f} {w} e = go (eqb k 0) refl (eqb k 1) refl (eqb k 2) refl (is_string k) (eqb k 9) refl e
  where
    go : (h : Bool) → eqb k 0 ≡ h → (i : Bool) → eqb k 1 ≡ i → (n : Bool) → eqb k 2 ≡ n → (c : Bool) → (d : Bool) → eqb k 9 ≡ d
        → cond h (ended (header profile p b)) (cond i (ended (items p b)) (cond n (ended (info profile p b)) (cond c (ended (string k u p b)) (cond d (ended (block_here before p b)) (got tt 0))))) ≡ refused f w → Belongs k f
    go true q i x n y c d z e =
        rw (eqb-true k 0 q)
        (tests_belong 0 (section 0 p) (leb 76 (length b) else CUT at 0 ∷ header_rules profile (take 76 b)) (header_fields (take 76 b)) 76
        ((λ z. by_cut 0), λ z. ((λ z. by_magic), λ z. ((λ z. by_magic), λ z. ((λ z. by_head), λ z. ((λ z. by_head), λ z. ((λ z. by_head), λ z. ((λ z. by_head), λ z. tt)))))))
        e)
    go false q true x n y c d z e =
        let m : ℕ = items_length b in
        rw (eqb-true k 1 x)
        (tests_belong 1 (section 1 p) (leb 2 (length b) else CUT at 0 ∷ leb m (length b) else CUT at 0 ∷ items_rules (take m b)) (place (p + 2) (m - 4)) m
        ((λ z. by_cut 1), λ z. ((λ z. by_cut 1), λ z. Each-fault (Belongs 1) ITEMS (items_rules (take m b)) by_items (item_OfFault ITEMS 2 0 (drop 2 (take m b)))))
        e)
    go false q false x true y c d z e =
        let m : ℕ = info_size b in
        rw (eqb-true k 2 y)
        (tests_belong 2 (section 2 p) (leb 4 (length b) else CUT at 0 ∷ leb 0x1C m else INFO at 0 ∷ leb m (length b) else CUT at 0 ∷ info_rules profile (take m b)) (info_fields p (take m b)) m
        ((λ z. by_cut 2), λ z. ((λ z. by_info), λ z. ((λ z. by_cut 2), λ z. Each-info (Belongs 2) by_info by_piece profile (take m b))))
        e)
    go false q false x false y true d z e =
        tests_belong k (section k p) (leb 2 (length b) else CUT at 0 ∷ leb (string_length u b) (length b) else CUT at 0 ∷ []) (place (p + 2) (bytes_of u (u16_at b 0))) (string_length u b)
        ((λ z. by_cut k), λ z. ((λ z. by_cut k), λ z. tt))
        e
    go false q false x false y false true z e = rw (eqb-true k 9 z) (block_Belongs before p b e)
    go false q false x false y false false z e = no_refusal e

-- where a section is due that refuses, nothing at all is cut
pub step_none : (profile : Profile) (u : Bool) (before : List ℕ) (k p : ℕ) (b : List ℕ) {f : Fault} {w : Spot} → step profile u before k p b ≡ refused f w
    → step profile u before k p [] ≡ refused CUT (spot_at (section k p) 0)
unfolding step
step_none profile u before k p b {f} {w} e = go (eqb k 0) refl (eqb k 1) refl (eqb k 2) refl (is_string k) (eqb k 9) refl e
  where
    go : (h : Bool) → eqb k 0 ≡ h → (i : Bool) → eqb k 1 ≡ i → (n : Bool) → eqb k 2 ≡ n → (c : Bool) → (d : Bool) → eqb k 9 ≡ d
        → cond h (ended (header profile p b)) (cond i (ended (items p b)) (cond n (ended (info profile p b)) (cond c (ended (string k u p b)) (cond d (ended (block_here before p b)) (got tt 0))))) ≡ refused f w
        → cond h (ended (header profile p [])) (cond i (ended (items p [])) (cond n (ended (info profile p [])) (cond c (ended (string k u p [])) (cond d (ended (block_here before p [])) (got tt 0))))) ≡ refused CUT (spot_at (section k p) 0)
    go true q i x n y c d z e = rw (eqb-true k 0 q)
    go false q true x n y c d z e = rw (eqb-true k 1 x)
    go false q false x true y c d z e = rw (eqb-true k 2 y)
    go false q false x false y true d z e = refl
    go false q false x false y false true z e = rw (eqb-true k 9 z)
    go false q false x false y false false z e = no_refusal e
