-- From a refusal with one of the numbers that a section gives to that section by itself, and back.
use mathlib.Core.Path.{◌≡◌, refl, sym, ap, ◌∙◌, subst}
use mathlib.Core.List.{List, [], ◌∷◌}
use mathlib.Core.Bool.{Bool, true, false}
use Prim.Native.Nat.{ℕ, ◌≤◌, ◌<◌}
use native.Mathlib.Omega.{arith}
use lib.ListN.{length, take, drop}
use lib.Dec.{leb}
use borrow.Author.Tests.{leb-true, le-leb, lt-leb, lt-ltb, le-ltb}
use Rattle.octets.specs.Numbers.{u32_at}
use Rattle.format.specs.declared.Profile.{Profile}
use Rattle.format.specs.declared.Fault.{Fault}
use Rattle.format.specs.declared.Fault.TheVariants.{Cut as CUT, Info as INFO, Block as BLOCK, Twice as TWICE}
use Rattle.format.specs.declared.Spot.{Spot}
use Rattle.format.specs.Numbers.{number_of}
use Rattle.format.specs.Tests.{◌else◌at◌, section, spot_at, tests, Outcome, got, refused}
use Rattle.format.specs.Presence.{strings_unicode}
use Rattle.format.specs.Header.{header_rules, header_fields, header}
use Rattle.format.specs.Info.{info_size, info_rules, info_fields, info}
use Rattle.format.specs.Blocks.{Standing, a_block, slot_at, block_size, block_rules, block_tests, block, terminal, once, once_tests, is_among}
use Rattle.format.specs.Shortcut.{most}
use Rattle.format.specs.Demands.{Refuses}
use Rattle.format.proofs.Bools.{by_order}
use Rattle.format.proofs.Chains.{Pass, pass, no_true}
use Rattle.format.proofs.MendLaws.{no_refusal}
use Rattle.refusals.specs.Wrong.{FirstFails}
use Rattle.refusals.proofs.StepLaws.{NoCut, block_here, step, Belongs, by_cut, by_magic, by_head, by_items, by_info, by_piece, by_block, by_store, by_twice, Belongs-number}
use Rattle.refusals.proofs.FileLaws.{Origin, too_long, in_section, trailing, origin, DueAt, EarlierIn, reached, resumed}
use Rattle.refusals.proofs.CutLaws.{Refuses-spot, spot_Refuses}
use Rattle.refusals.proofs.FailLaws.{tests_first, first_tests}

-- ---- the section of a fault

-- each fault but CUT is one section's
Belongs-one : {j k : ℕ} {f : Fault} → Belongs j f → Belongs k f → NoCut f → j ≡ k
Belongs-one (by_cut j) (by_cut k) n = absurd (n refl)
Belongs-one by_magic by_magic n = refl
Belongs-one by_head by_head n = refl
Belongs-one by_items by_items n = refl
Belongs-one by_info by_info n = refl
Belongs-one by_piece by_piece n = refl
Belongs-one by_block by_block n = refl
Belongs-one by_store by_store n = refl
Belongs-one by_twice by_twice n = refl

-- the section k is due at `start`, and refuses with f at p
pub record Stage (profile : Profile) (s : List ℕ) (f : Fault) (p k : ℕ) : Type 0 where
  pub start : ℕ
  pub limit : length s ≤ most
  pub due : DueAt profile s k start
  pub early : k ≡ 0 → start ≡ 0
  pub before : List ℕ
  pub spot : Spot
  pub refusal : step profile (strings_unicode (u32_at s 20)) before k start (drop start s) ≡ refused f spot
  pub told : spot.position ≡ p
  pub from : (x : ℕ) → is_among x before ≡ true → EarlierIn profile s start x

pub fault_at : (profile : Profile) (s : List ℕ) (f : Fault) (p k : ℕ) → Belongs k f → NoCut f → Refuses profile s f p → Stage profile s f p k
unfolding number_of
fault_at profile s f p k b n e = let x = Refuses-spot profile s f p e in go (origin profile s x.is) b n x.told
  where
    go : {g : Fault} {w : Spot} → Origin profile s g w → Belongs k g → NoCut g → w.position ≡ p → Stage profile s g p k
    go (too_long h) b n z = absurd (omega (arith, (Belongs-number b).0))
    go (trailing c m l i h) b n z = no_true (sym (Belongs-number b).1)
    go {g} {w} (in_section l i) b n z =
        let y = reached profile (u32_at s 20) s (λ h. refl) l i in
        let j : y.number ≡ k = Belongs-one y.belongs b n in
        record {
          start = w.start;
          limit = l;
          due = subst (λ (k : ℕ). DueAt profile s k w.start) j y.due;
          early = λ q. y.early (j ∙ q);
          before = y.before;
          spot = w;
          refusal = subst (λ (k : ℕ). step profile (strings_unicode (u32_at s 20)) y.before k w.start (drop w.start s) ≡ refused g w) j y.refusal;
          told = z;
          from = y.from;
        }

pub at_fault : (profile : Profile) (s : List ℕ) (f : Fault) (k q p : ℕ) → length s ≤ most → DueAt profile s k q
    → ((before : List ℕ) → (w : Spot) × ((step profile (strings_unicode (u32_at s 20)) before k q (drop q s) ≡ refused f w) × (w.position ≡ p))) → Refuses profile s f p
at_fault profile s f k q p l d g =
    let x = resumed profile (u32_at s 20) s (λ h. refl) l k q d in
    let (w, (e, z)) = g x.before in
    rw z at (spot_Refuses profile s (x.on e))

-- ---- the header

pub header_fails {ℓ} : {X : Type ℓ} (profile : Profile) (q : ℕ) (b : List ℕ) {f : Fault} {w : Spot} → header profile q b ≡ refused f w → NoCut f
    → (76 ≤ length b → (i : ℕ) → FirstFails (header_rules profile (take 76 b)) f i → w ≡ spot_at (section 0 q) i → X) → X
header_fails profile q b e n found =
    tests_first (section 0 q) (leb 76 (length b) else CUT at 0 ∷ header_rules profile (take 76 b)) (got (header_fields (take 76 b)) 76) e
    (λ i x z. by_order 76 (length b) (λ h. found h i (x.0 (le-leb 76 (length b) h)) z) (λ h. absurd (n (sym (x.1 (lt-leb 76 (length b) h)).0))))
    (λ c z. no_refusal z)

pub header_refuses : (profile : Profile) (q : ℕ) (b : List ℕ) (f : Fault) (i : ℕ) → 76 ≤ length b → FirstFails (header_rules profile (take 76 b)) f i → header profile q b ≡ refused f (spot_at (section 0 q) i)
header_refuses profile q b f i h x = rw (le-leb 76 (length b) h) (first_tests (section 0 q) (header_rules profile (take 76 b)) (got (header_fields (take 76 b)) 76) f i x)

-- ---- LinkInfo

module _ (profile : Profile) (q : ℕ) (b : List ℕ) where
  pub info_fails {ℓ} : {X : Type ℓ} {f : Fault} {w : Spot} → info profile q b ≡ refused f w → NoCut f
      → (4 ≤ length b → info_size b < 0x1C → INFO ≡ f → w ≡ spot_at (section 2 q) 0 → X)
      → (0x1C ≤ info_size b → info_size b ≤ length b → (i : ℕ) → FirstFails (info_rules profile (take (info_size b) b)) f i → w ≡ spot_at (section 2 q) i → X) → X
  info_fails {X = X} {f} {w} e n small rule =
      tests_first (section 2 q) (leb 4 (length b) else CUT at 0 ∷ leb 0x1C (info_size b) else INFO at 0 ∷ leb (info_size b) (length b) else CUT at 0 ∷ info_rules profile (take (info_size b) b))
      (got (info_fields q (take (info_size b) b)) (info_size b)) e
      (λ i x z.
      by_order 4 (length b)
      (λ h.
      let y = x.0 (le-leb 4 (length b) h) in
      by_order 0x1C (info_size b)
      (λ k.
      let v = y.0 (le-leb 0x1C (info_size b) k) in
      by_order (info_size b) (length b) (λ g. rule k g i (v.0 (le-leb (info_size b) (length b) g)) z) (λ g. absurd (n (sym (v.1 (lt-leb (info_size b) (length b) g)).0))))
      (λ k. let v = y.1 (lt-leb 0x1C (info_size b) k) in small h k v.0 (z ∙ ap (spot_at (section 2 q)) (sym v.1))))
      (λ h. absurd (n (sym (x.1 (lt-leb 4 (length b) h)).0))))
      (λ c z. no_refusal z)

  pub info_small : 4 ≤ length b → info_size b < 0x1C → info profile q b ≡ refused INFO (spot_at (section 2 q) 0)
  info_small h k = rw (le-leb 4 (length b) h, lt-leb 0x1C (info_size b) k)

  pub info_refuses : (f : Fault) (i : ℕ) → 0x1C ≤ info_size b → info_size b ≤ length b → FirstFails (info_rules profile (take (info_size b) b)) f i → info profile q b ≡ refused f (spot_at (section 2 q) i)
  info_refuses f i k g x =
      rw (le-leb 4 (length b) (omega arith), le-leb 0x1C (info_size b) k, le-leb (info_size b) (length b) g)
      (first_tests (section 2 q) (info_rules profile (take (info_size b) b)) (got (info_fields q (take (info_size b) b)) (info_size b)) f i x)

-- ---- a block

module _ (before : List ℕ) (q : ℕ) (b : List ℕ) where
  pub block_fails {ℓ} : {X : Type ℓ} {f : Fault} {w : Spot} → block_here before q b ≡ refused f w → NoCut f
      → (4 ≤ length b → 4 ≤ block_size b → block_size b < 8 → BLOCK ≡ f → w ≡ spot_at (block q) 0 → X)
      → (8 ≤ block_size b → block_size b ≤ length b → (i : ℕ) → FirstFails (block_rules (take (block_size b) b)) f i → w ≡ spot_at (block q) i → X)
      → (8 ≤ block_size b → block_size b ≤ length b → Pass (block_rules (take (block_size b) b)) → once before (slot_at b) ≡ false → TWICE ≡ f → w ≡ spot_at (block q) 4 → X) → X
  block_fails {X = X} {f} {w} e n small rule second =
      tests_first (terminal q) (leb 4 (length b) else CUT at 0 ∷ []) _ e
      (λ i x z. by_order 4 (length b) (λ h. absurd (x.0 (le-leb 4 (length b) h))) (λ h. absurd (n (sym (x.1 (lt-leb 4 (length b) h)).0))))
      (λ c z. by_order 4 (block_size b) (λ h. standing (leb-true 4 (length b) c.0) h (rw (le-ltb (block_size b) 4 h) at z)) (λ h. no_refusal (rw (lt-ltb (block_size b) 4 h) at z)))
    where
      rest : Outcome Standing
      rest = tests (block q) (once_tests before (slot_at b)) (got a_block (block_size b))

      repeated : Pass (block_tests b) → (i : ℕ) → FirstFails (once_tests before (slot_at b)) f i → w ≡ spot_at (block q) i → (o : Bool) → once before (slot_at b) ≡ o → X
      repeated c i x z true o = absurd (x.0 o)
      repeated c i x z false o =
          let v = x.1 o in
          second (leb-true 8 (block_size b) c.0) (leb-true (block_size b) (length b) c.1.0) c.1.1 o v.0 (z ∙ ap (spot_at (block q)) (sym v.1))

      standing : 4 ≤ length b → 4 ≤ block_size b → tests (block q) (block_tests b) rest ≡ refused f w → X
      standing four h z =
          tests_first (block q) (block_tests b) rest z
          (λ i x y.
          by_order 8 (block_size b)
          (λ k.
          let v = x.0 (le-leb 8 (block_size b) k) in
          by_order (block_size b) (length b) (λ g. rule k g i (v.0 (le-leb (block_size b) (length b) g)) y) (λ g. absurd (n (sym (v.1 (lt-leb (block_size b) (length b) g)).0))))
          (λ k. let v = x.1 (lt-leb 8 (block_size b) k) in small four h k v.0 (y ∙ ap (spot_at (block q)) (sym v.1))))
          (λ c y. tests_first (block q) (once_tests before (slot_at b)) (got a_block (block_size b)) y (λ i x v. repeated c i x v (once before (slot_at b)) refl) (λ d v. no_refusal v))

  pub block_small : 4 ≤ length b → 4 ≤ block_size b → block_size b < 8 → block_here before q b ≡ refused BLOCK (spot_at (block q) 0)
  block_small h k l = rw (le-leb 4 (length b) h, le-ltb (block_size b) 4 k, lt-leb 8 (block_size b) l)

  pub block_refuses : (f : Fault) (i : ℕ) → 8 ≤ block_size b → block_size b ≤ length b → FirstFails (block_rules (take (block_size b) b)) f i → block_here before q b ≡ refused f (spot_at (block q) i)
  block_refuses f i k g x =
      rw (le-leb 4 (length b) (omega arith), le-ltb (block_size b) 4 (omega arith), le-leb 8 (block_size b) k, le-leb (block_size b) (length b) g)
      (first_tests (block q) (block_rules (take (block_size b) b)) (tests (block q) (once_tests before (slot_at b)) (got a_block (block_size b))) f i x)

  pub block_second : 8 ≤ block_size b → block_size b ≤ length b → Pass (block_rules (take (block_size b) b)) → once before (slot_at b) ≡ false → block_here before q b ≡ refused TWICE (spot_at (block q) 4)
  block_second k g c o =
      rw (le-leb 4 (length b) (omega arith), le-ltb (block_size b) 4 (omega arith), le-leb 8 (block_size b) k, le-leb (block_size b) (length b) g)
      (pass (block q) (block_rules (take (block_size b) b)) (tests (block q) (once_tests before (slot_at b)) (got a_block (block_size b))) c ∙ rw o)
