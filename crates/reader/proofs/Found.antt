-- Sections one after another: each is found where the one before it ended.
use mathlib.Core.Path.{◌≡◌, refl, sym, ap, subst}
use mathlib.Core.List.{List}
use mathlib.Core.Bool.{Bool, true, false}
use Prim.Native.Nat.{ℕ, ◌+◌, ◌-◌}
use native.Mathlib.Omega.{arith}
use native.Mathlib.Nat.{add_assoc}
use lib.ListN.{drop}
use lib.Seq.{drop-drop}
use Rattle.format.specs.declared.Profile.{Profile}
use Rattle.format.specs.declared.Place.{Place}
use Rattle.format.specs.Tests.{got, no_place, Reader, ◌then◌}
use Rattle.format.specs.Presence.{items_there, info_there, name_bit, relative_bit, workdir_bit, arguments_bit, icon_bit, string_there, strings_unicode}
use Rattle.format.specs.Items.{items}
use Rattle.format.specs.Info.{info, no_info}
use Rattle.format.specs.Strings.{string}
use Rattle.format.specs.Blocks.{blocks}
use Rattle.format.specs.Shortcut.{Section, Tail, found, section_if, string_section, absent, tail}
use Rattle.format.proofs.Chains.{got_elim, no_true, chain_elim}
use Rattle.format.proofs.PlaceLaws.{found_elim}
use Rattle.reader.specs.declared.SectionEnds.{SectionEnds}

-- where the sections after the header end, which ends at p
abbrev pub ends_from : ℕ → Tail → SectionEnds
ends_from p v =
    let items = p + v.0.len in
    let info = items + v.1.0.len in
    let name = info + v.1.1.0.len in
    let relative = name + v.1.1.1.0.len in
    let workdir = relative + v.1.1.1.1.0.len in
    let arguments = workdir + v.1.1.1.1.1.0.len in
    record {
      items = items;
      info = info;
      name = name;
      relative = relative;
      workdir = workdir;
      arguments = arguments;
      icon = arguments + v.1.1.1.1.1.1.0.len;
    }

-- a section that stands from p to e, or not at all
abbrev pub section_of : {A : Type 0} → Bool → ℕ → ℕ → A → Section A
section_of true p e a = record { there = true; start = p; len = e - p; read = a }
section_of false p e a = absent a

-- ---- one section

-- from p on the section v was found, that is there or not; d stands for what is absent
pub record FoundAt {A : Type 0} (s : List ℕ) (P : Reader A) (b : Bool) (d : A) (p : ℕ) (v : Section A) : Type 0 where
  pub is : v ≡ section_of b p (p + v.len) v.read
  pub there : b ≡ true → P p (drop p s) ≡ got v.read v.len
  pub lacking : b ≡ false → (v.read ≡ d) × (v.len ≡ 0)

-- what P finds at a place is as long as it says, and X is known of it
pub record Finds {A : Type 0} (s : List ℕ) (P : Reader (Section A)) (X : ℕ → Section A → Type 0) : Type 0 where
  pub finds : (p : ℕ) (v : Section A) (n : ℕ) → P p (drop p s) ≡ got v n → (n ≡ v.len) × X p v

pub section_Finds : {A : Type 0} (s : List ℕ) (P : Reader A) (b : Bool) (d : A) → Finds s (section_if b d P) (FoundAt s P b d)
section_Finds s P true d = record {
  finds = λ p v n e.
      found_elim P p (drop p s) (λ v n. (n ≡ v.len) × FoundAt s P true d p v)
      (λ a n i.
      let z : n ≡ p + n - p = omega arith in
      (refl, record { is = ap (λ (k : ℕ). record { there = true; start = p; len = k; read = a }) z; there = λ t. i; lacking = λ t. no_true (sym t) }))
      v n e;
}
section_Finds s P false d = record {
  finds = λ p v n e.
      got_elim (λ v n. (n ≡ v.len) × FoundAt s P false d p v) e
      (refl, record { is = refl; there = λ t. no_true t; lacking = λ t. (refl, refl) });
}

-- ---- one after another

-- what P reads from a place on, Y is known of, and of where that ends
pub record Along {A : Type 0} (s : List ℕ) (P : Reader A) (Y : ℕ → A → ℕ → Type 0) : Type 0 where
  pub along : (p : ℕ) (a : A) (n : ℕ) → P p (drop p s) ≡ got a n → Y p a (p + n)

then-Along : {A B : Type 0} {s : List ℕ} {P : Reader (Section A)} {Q : Reader B} {X : ℕ → Section A → Type 0} {Y : ℕ → B → ℕ → Type 0}
    → Finds s P X → Along s Q Y → Along s (P then Q) (λ p c q. X p c.0 × Y (p + c.0.len) c.1 q)
then-Along {s = s} {P = P} {Q = Q} {X = X} {Y = Y} F G = record {
  along = λ p c k e.
      chain_elim P (λ a. Q) p (drop p s) (λ c k. X p c.0 × Y (p + c.0.len) c.1 (p + k))
      (λ a n b m i j.
      let f = F.finds p a n i in
      let h : Q (p + n) (drop (p + n) s) ≡ got b m = rw (drop-drop n p s) at j in
      let g : Y (p + a.len) b (p + n + m) = subst (λ (k : ℕ). Y (p + k) b (p + n + m)) f.0 (G.along (p + n) b m h) in
      (f.1, subst (Y (p + a.len) b) (add_assoc p n m) g))
      c k e;
}

-- the blocks, which are always there, from p up to q
pub record BlocksAt (s : List ℕ) (p : ℕ) (v : Section (List ℕ)) (q : ℕ) : Type 0 where
  pub start : v.start ≡ p
  pub is : blocks p (drop p s) ≡ got v.read v.len
  pub last : p + v.len ≡ q

blocks_Along : (s : List ℕ) → Along s (found blocks) (BlocksAt s)
blocks_Along s = record {
  along = λ p v n e. found_elim blocks p (drop p s) (λ v n. BlocksAt s p v (p + n)) (λ ls n i. record { start = refl; is = i; last = refl }) v n e;
}

-- ---- those after the header

string_Finds : (s : List ℕ) (flags k : ℕ) → Finds s (string_section flags k) (FoundAt s (string (k + 1) (strings_unicode flags)) (string_there k flags) no_place)
string_Finds s flags k = section_Finds s (string (k + 1) (strings_unicode flags)) (string_there k flags) no_place

abbrev pub StringAt : List ℕ → ℕ → ℕ → ℕ → Section Place → Type 0
StringAt s flags k p v = FoundAt s (string (k + 1) (strings_unicode flags)) (string_there k flags) no_place p v

-- the sections after the header, from p up to q: each where the one before it ended
pub record TailAt (profile : Profile) (s : List ℕ) (flags p : ℕ) (v : Tail) (q : ℕ) : Type 0 where
  pub items : FoundAt s items (items_there flags) no_place p v.0
  pub info : FoundAt s (info profile) (info_there flags) no_info (ends_from p v).items v.1.0
  pub name : StringAt s flags name_bit (ends_from p v).info v.1.1.0
  pub relative : StringAt s flags relative_bit (ends_from p v).name v.1.1.1.0
  pub workdir : StringAt s flags workdir_bit (ends_from p v).relative v.1.1.1.1.0
  pub arguments : StringAt s flags arguments_bit (ends_from p v).workdir v.1.1.1.1.1.0
  pub icon : StringAt s flags icon_bit (ends_from p v).arguments v.1.1.1.1.1.1.0
  pub blocks : BlocksAt s (ends_from p v).icon v.1.1.1.1.1.1.1 q

pub tail_at : (profile : Profile) (s : List ℕ) (flags p : ℕ) (v : Tail) (n : ℕ) → tail profile flags p (drop p s) ≡ got v n → TailAt profile s flags p v (p + n)
tail_at profile s flags p v n e =
    let (items, (info, (name, (relative, (workdir, (arguments, (icon, blocks)))))))
    = (then-Along (section_Finds s items (items_there flags) no_place)
    (then-Along (section_Finds s (info profile) (info_there flags) no_info)
    (then-Along (string_Finds s flags name_bit)
    (then-Along (string_Finds s flags relative_bit)
    (then-Along (string_Finds s flags workdir_bit)
    (then-Along (string_Finds s flags arguments_bit)
    (then-Along (string_Finds s flags icon_bit) (blocks_Along s)))))))).along p v n e in
    record { items = items; info = info; name = name; relative = relative; workdir = workdir; arguments = arguments; icon = icon; blocks = blocks }
