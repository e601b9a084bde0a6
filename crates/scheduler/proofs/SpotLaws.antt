-- The section at fault is one of the listing's ten, and starts at the position or before it: so both fit into the answer.
use mathlib.Core.Path.{◌≡◌, refl}
use mathlib.Core.List.{List, [], ◌∷◌}
use mathlib.Core.Bool.{Bool, true, false, cond}
use Prim.Native.Nat.{ℕ, zero, suc, ◌+◌, ◌-◌, ◌*◌, ◌≤◌}
use native.Mathlib.Omega.{arith}
use lib.ListN.{length, take, drop}
use lib.Dec.{leb, ltb, eqb}
use Rattle.format.specs.declared.Profile.{Profile}
use Rattle.format.specs.declared.Fault.TheVariants.{Long as LONG, Cut as CUT, Info as INFO, Trail as TRAIL}
use Rattle.format.specs.declared.Refusal.{Refusal}
use Rattle.format.specs.Numbers.{number_of}
use Rattle.format.specs.Tests.{Site, section, no_section, spot_at, Test, ◌else◌at◌, tests, Outcome, got, refused, Reader, and_then, chain, ◌then◌, place, no_place}
use Rattle.format.specs.Presence.{items_there, info_there, name_bit, relative_bit, workdir_bit, arguments_bit, icon_bit, string_there, strings_unicode}
use Rattle.octets.specs.Numbers.{u16_at}
use Rattle.octets.specs.Characters.{bytes_of}
use Rattle.format.specs.Header.{header, header_rules, header_fields}
use Rattle.format.specs.Items.{items, items_length, items_rules}
use Rattle.format.specs.Info.{info, no_info, info_size, info_rules, info_fields}
use Rattle.format.specs.Strings.{string, string_length}
use Rattle.format.specs.Blocks.{slot_at, block_size, block, terminal, Standing, a_block, a_terminal, block_tests, block_step, once_tests, follow, blocks_from, blocks}
use Rattle.format.specs.Shortcut.{Section, found, section_if, string_section, tail, Sections, sections, shortcut, faulted_by, faulted, most}
use Rattle.scheduler.specs.Code.{fault_code}
use Rattle.format.proofs.PositionDemands.{positions_small, starts_before}
use Rattle.std.specs.Prelude.{Ok, Err}

-- a refusal in one of the ten sections
abbrev Few : {A : Type 0} → Outcome A → Type 0
Few (got a n) = Unit {0}
Few (refused f w) = w.section ≤ 9

record FewBy {A : Type 0} (P : Reader A) : Type 0 where
  few : (p : ℕ) (s : List ℕ) → Few (P p s)

Few-tests : {A : Type 0} (w : Site) (ts : List Test) (r : Outcome A) → w.number ≤ 9 → Few r → Few (tests w ts r)
Few-tests w [] r h k = k
Few-tests {A = A} w (t ∷ ts) r h k = go t.holds (Few-tests w ts r h k)
  where
    go : (b : Bool) → Few (tests w ts r) → Few {A = A} (cond b (tests w ts r) (refused t.fault (spot_at w t.field)))
    go true z = z
    go false z = h

few_chain : {A B : Type 0} (P : Reader A) (Q : A → Reader B) → FewBy P → ((a : A) → FewBy (Q a)) → FewBy (chain P Q)
few_chain {A = A} {B = B} P Q f g = record { few = λ p s. go p s (P p s) (f.few p s) }
  where
    pair : A → ℕ → B → ℕ → Outcome (A × B)
    pair a n b m = got (a, b) (n + m)

    next : (a : A) (n : ℕ) (r : Outcome B) → Few r → Few (and_then r (pair a n))
    next a n (got b m) k = tt
    next a n (refused e q) k = k

    go : (p : ℕ) (s : List ℕ) (r : Outcome A) → Few r → Few (and_then r (λ a n. and_then (Q a (p + n) (drop n s)) (pair a n)))
    go p s (got a n) k = next a n (Q a (p + n) (drop n s)) ((g a).few (p + n) (drop n s))
    go p s (refused e q) k = k

few_found : {A : Type 0} (P : Reader A) → FewBy P → FewBy (found P)
few_found {A = A} P f = record { few = λ p s. go p (P p s) (f.few p s) }
  where
    section_of : ℕ → A → ℕ → Outcome (Section A)
    section_of p a n = got (record { there = true; start = p; len = n; read = a }) n

    go : (p : ℕ) (r : Outcome A) → Few r → Few (and_then r (section_of p))
    go p (got a n) k = tt
    go p (refused e q) k = k

few_section : {A : Type 0} (b : Bool) (d : A) (P : Reader A) → FewBy P → FewBy (section_if b d P)
few_section true d P f = few_found P f
few_section false d P f = record { few = λ p s. tt }

-- ---- the blocks

Few-step : (p : ℕ) (s : List ℕ) → Few (block_step p s)
Few-step p s = Few-tests (terminal p) (leb 4 (length s) else CUT at 0 ∷ []) _ (omega arith) (go (ltb (block_size s) 4))
  where
    go : (b : Bool) → Few (cond b (got a_terminal 4) (tests (block p) (block_tests s) (got a_block (block_size s))))
    go true = tt
    go false = Few-tests (block p) (block_tests s) (got a_block (block_size s)) (omega arith) tt

Few-follow : (o : Outcome Standing) (r : Outcome (List ℕ)) → Few o → Few r → Few (follow o r)
Few-follow (got a_terminal n) r h k = tt
Few-follow (got a_block n) (got l m) h k = tt
Few-follow (got a_block n) (refused f w) h k = k
Few-follow (refused f w) r h k = h

Few-walk : (before : List ℕ) (p k : ℕ) (s : List ℕ) → Few (blocks_from before p k s)
unfolding blocks_from
Few-walk before p zero [] = omega arith
Few-walk before p zero (a ∷ l) =
    let n = block_size (a ∷ l) in
    let slot = slot_at (a ∷ l) in
    Few-follow (block_step p (a ∷ l)) (tests (block p) (once_tests before slot) (blocks_from (slot ∷ before) (p + n) (n - 1) l)) (Few-step p (a ∷ l))
    (Few-tests (block p) (once_tests before slot) (blocks_from (slot ∷ before) (p + n) (n - 1) l) (omega arith) (Few-walk (slot ∷ before) (p + n) (n - 1) l))
Few-walk before p (suc k) [] = omega arith
Few-walk before p (suc k) (a ∷ l) = Few-walk before p k l

-- ---- the whole

few_header : (profile : Profile) → FewBy (header profile)
few_header profile = record {
  few = λ p s.
      Few-tests (section 0 p) (leb 76 (length s) else CUT at 0 ∷ header_rules profile (take 76 s)) (got (header_fields (take 76 s)) 76) (omega arith) tt;
}

few_items : FewBy items
few_items = record {
  few = λ p s.
      Few-tests (section 1 p) (leb 2 (length s) else CUT at 0 ∷ leb (items_length s) (length s) else CUT at 0 ∷ items_rules (take (items_length s) s))
      (got (place (p + 2) (items_length s - 4)) (items_length s)) (omega arith) tt;
}

few_info : (profile : Profile) → FewBy (info profile)
few_info profile = record {
  few = λ p s.
      Few-tests (section 2 p)
      (leb 4 (length s) else CUT at 0 ∷ leb 0x1C (info_size s) else INFO at 0 ∷ leb (info_size s) (length s) else CUT at 0 ∷ info_rules profile (take (info_size s) s))
      (got (info_fields p (take (info_size s) s)) (info_size s)) (omega arith) tt;
}

few_string : (k : ℕ) (u : Bool) → k ≤ 9 → FewBy (string k u)
few_string k u h = record {
  few = λ p s.
      Few-tests (section k p) (leb 2 (length s) else CUT at 0 ∷ leb (string_length u s) (length s) else CUT at 0 ∷ [])
      (got (place (p + 2) (bytes_of u (u16_at s 0))) (string_length u s)) h tt;
}

few_then : {A B : Type 0} {P : Reader A} {Q : Reader B} → FewBy P → FewBy Q → FewBy (P then Q)
few_then {P = P} {Q = Q} f g = few_chain P (λ a. Q) f (λ a. g)

few_strings : (flags k : ℕ) → k + 1 ≤ 9 → FewBy (string_section flags k)
few_strings flags k h = few_section (string_there k flags) no_place (string (k + 1) (strings_unicode flags)) (few_string (k + 1) (strings_unicode flags) h)

few_tail : (profile : Profile) (flags : ℕ) → FewBy (tail profile flags)
few_tail profile flags =
    few_then (few_section (items_there flags) no_place items few_items)
    (few_then (few_section (info_there flags) no_info (info profile) (few_info profile))
    (few_then (few_strings flags name_bit (omega arith))
    (few_then (few_strings flags relative_bit (omega arith))
    (few_then (few_strings flags workdir_bit (omega arith))
    (few_then (few_strings flags arguments_bit (omega arith))
    (few_then (few_strings flags icon_bit (omega arith)) (few_found blocks (record { few = λ p s. Few-walk [] p 0 s }))))))))

few_sections : (profile : Profile) → FewBy (sections profile)
unfolding sections
few_sections profile = few_chain (found (header profile)) (λ h. tail profile h.read.flags) (few_found (header profile) (few_header profile)) (λ h. few_tail profile h.read.flags)

-- where a refusal stands: one of the ten sections
Few-shortcut : (profile : Profile) (s : List ℕ) → Few (shortcut profile s)
unfolding shortcut
Few-shortcut profile s =
    Few-tests no_section (leb (length s) most else LONG at most ∷ []) (and_then (sections profile 0 s) (λ c n. tests (section 9 (n - 4)) (eqb n (length s) else TRAIL at 4 ∷ []) (got c n))) (omega arith) (go (sections profile 0 s) ((few_sections profile).few 0 s))
  where
    go : (r : Outcome Sections) → Few r → Few (and_then r (λ c n. tests (section 9 (n - 4)) (eqb n (length s) else TRAIL at 4 ∷ []) (got c n)))
    go (got c n) k = Few-tests (section 9 (n - 4)) (eqb n (length s) else TRAIL at 4 ∷ []) (got c n) (omega arith) tt
    go (refused f w) k = k

-- all three parts of the answer are small
pub record SmallFault (r : Refusal) : Type 0 where
  pub position : r.spot.position ≤ 65536
  pub section : r.spot.section ≤ 9
  pub start : r.spot.start ≤ 65536

-- ---- for the code

module _ (profile : Profile) (s : List ℕ) (r : Refusal) (e : Err r ≡ faulted profile s) where
  pub fault_small : SmallFault r
  unfolding faulted
  fault_small = go (shortcut profile s) refl (Few-shortcut profile s) e
    where
      go : (o : Outcome Sections) → shortcut profile s ≡ o → Few o → Err r ≡ faulted_by o → SmallFault r
      go (got c n) i k h = absurd (let z : ◌≡◌ {A = ℕ} 0 1 = cc in omega arith)
      go (refused f w) i k h =
          let z : r ≡ record { fault = f; spot = w } = cc in
          rw z (record { position = positions_small profile s f w i; section = k; start = omega (arith, positions_small profile s f w i, starts_before profile s f w i) })

  pub fault_start : r.spot.start ≤ 65536
  fault_start = fault_small.start

  pub fault_section : r.spot.section ≤ 9
  fault_section = fault_small.section

  pub fault_position : r.spot.position ≤ 65536
  fault_position = fault_small.position

  pub fault_told : number_of r.fault + 256 * (r.spot.position + 65537 * (r.spot.start + 65537 * r.spot.section)) ≡ fault_code (faulted profile s)
  unfolding fault_code
  fault_told = rw (← e)

pub fault_none : (profile : Profile) (s : List ℕ) (n : ℕ) → Ok n ≡ faulted profile s → 0 ≡ fault_code (faulted profile s)
unfolding fault_code
fault_none profile s n e = rw (← e)

-- what the code of a fault rests on
pub ruleset faults = (fault_start, fault_section, fault_position, fault_told, fault_none)
