-- A key tells its parts: equal keys are keys of equal parts.
use mathlib.Core.Path.{◌≡◌, refl, sym, ap, ◌∙◌}
use mathlib.Core.List.{List, [], ◌++◌, append-nil, append_assoc}
use mathlib.Core.Logic.{◌↔◌}
use mathlib.Core.Bool.{Bool, true, false}
use Prim.Native.Nat.{ℕ, ◌^◌, ◌≤◌, ◌<◌}
use native.Mathlib.Omega.{arith}
use lib.ListN.{length, take, drop, length-take, length-drop}
use lib.Dec.{leb}
use lib.Seq.{take_at, drop-append_seam}
use Rattle.octets.specs.Numbers.{number, little}
use Rattle.octets.proofs.NumberLaws.{length-little, number-little}
use Rattle.octets.specs.Characters.{before_zero}
use Rattle.format.specs.declared.Profile.{Profile}
use Rattle.format.specs.Tests.{got, one_or_0}
use Rattle.format.specs.Presence.{workdir_bit, arguments_bit, string_there}
use Rattle.format.specs.Blocks.{first_place}
use Rattle.format.specs.Shortcut.{most, Sections, blocks_of, shortcut, record_of}
use Rattle.format.specs.Bodies.{place_in, string_slot}
use Rattle.format.specs.Contents.{bytes_at}
use Rattle.format.specs.Target.{has_target, target_text}
use Rattle.format.specs.Key.{Part, no_part, some_part, part_if, Key, SameParts, block_text, key_of, part_bytes, key_bytes}
use Rattle.format.proofs.AcceptedLaws.{shortcut-Whole}
use Rattle.format.proofs.BodyLaws.{body_small}
use Rattle.format.proofs.TargetLaws.{text_small}

-- two lists that are joined of pieces of equal length: so are the pieces
pub halves : (a b x y : List ℕ) → length a ≡ length b → a ++ x ≡ b ++ y → (a ≡ b) × (x ≡ y)
halves a b x y l e =
    let p : take (length a) (a ++ x) ≡ take (length a) (b ++ y) = ap (take (length a)) e in
    let q : drop (length a) (a ++ x) ≡ drop (length a) (b ++ y) = ap (drop (length a)) e in
    let back : drop (length a) (b ++ y) ≡ y = rw l (drop-append_seam b y) in
    (sym (take_at a x (length a) refl) ∙ p ∙ take_at b y (length a) (sym l), sym (drop-append_seam a x) ∙ q ∙ back)

-- a number's bytes tell the number
little_same : (w m n : ℕ) → m < 256 ^ w → n < 256 ^ w → little w m ≡ little w n → m ≡ n
little_same w m n h k e = sym (number-little w m h) ∙ ap number e ∙ number-little w n k

little_halves : (w m n : ℕ) (x y : List ℕ) → m < 256 ^ w → n < 256 ^ w → little w m ++ x ≡ little w n ++ y → (m ≡ n) × (x ≡ y)
little_halves w m n x y h k e =
    let i = halves (little w m) (little w n) x y (length-little w m ∙ sym (length-little w n)) e in
    (little_same w m n h k i.0, i.1)

-- ---- one part

-- its length fits in four bytes
abbrev pub PartFits : Part → Type 0
PartFits no_part = Unit {0}
PartFits (some_part w) = length w < 4294967296

no_part_lem : {X : Type 0} (x y : List ℕ) → little 1 0 ++ x ≡ little 1 1 ++ y → X
no_part_lem x y e = absurd (let z : 0 ≡ 1 = (little_halves 1 0 1 x y (omega arith) (omega arith) e).0 in omega arith)

part_told : (p q : Part) → PartFits p → PartFits q → (x y : List ℕ) → part_bytes p ++ x ≡ part_bytes q ++ y → (p ≡ q) × (x ≡ y)
part_told no_part no_part h k x y e = (refl, (halves (part_bytes no_part) (part_bytes no_part) x y refl e).1)
part_told no_part (some_part v) h k x y e =
    no_part_lem (little 4 0 ++ x) ((little 4 (length v) ++ v) ++ y)
    (sym (append_assoc (little 1 0) (little 4 0) x) ∙ e ∙ append_assoc (little 1 1) (little 4 (length v) ++ v) y)
part_told (some_part w) no_part h k x y e =
    no_part_lem (little 4 0 ++ y) ((little 4 (length w) ++ w) ++ x)
    (sym (append_assoc (little 1 0) (little 4 0) y) ∙ sym e ∙ append_assoc (little 1 1) (little 4 (length w) ++ w) x)
part_told (some_part w) (some_part v) h k x y e =
    let i = halves (little 1 1) (little 1 1) (little 4 (length w) ++ (w ++ x)) (little 4 (length v) ++ (v ++ y)) refl (sym (spread w x) ∙ e ∙ spread v y) in
    let j = little_halves 4 (length w) (length v) (w ++ x) (v ++ y) h k i.1 in
    let l = halves w v x y j.0 j.1 in
    (ap some_part l.0, l.1)
  where
    spread : (w x : List ℕ) → part_bytes (some_part w) ++ x ≡ little 1 1 ++ (little 4 (length w) ++ (w ++ x))
    spread w x = append_assoc (little 1 1) (little 4 (length w) ++ w) x ∙ ap (λ (l : List ℕ). little 1 1 ++ l) (append_assoc (little 4 (length w)) w x)

-- ---- the whole key

pub record KeyFits (k : Key) : Type 0 where
  pub target : PartFits k.target
  pub arguments : PartFits k.arguments
  pub workdir : PartFits k.workdir
  pub environment : PartFits k.environment

flag_told : (a b : Bool) → one_or_0 a ≡ one_or_0 b → a ≡ b
flag_told true true e = refl
flag_told true false e = absurd (omega arith)
flag_told false true e = absurd (omega arith)
flag_told false false e = refl

pub flag_small : (a : Bool) → one_or_0 a < 256
flag_small true = omega arith
flag_small false = omega arith

pub key_told : (k l : Key) → KeyFits k → KeyFits l → key_bytes k ≡ key_bytes l → SameParts k l
unfolding key_bytes
key_told k l h g e =
    let a = little_halves 1 (one_or_0 k.unicode) (one_or_0 l.unicode) _ _ (flag_small k.unicode) (flag_small l.unicode) e in
    let b = part_told k.target l.target h.target g.target _ _ a.1 in
    let c = part_told k.arguments l.arguments h.arguments g.arguments _ _ b.1 in
    let d = part_told k.workdir l.workdir h.workdir g.workdir _ _ c.1 in
    let f = part_told k.environment l.environment h.environment g.environment [] [] (ends k.environment l.environment d.1) in
    record { unicode = flag_told k.unicode l.unicode a.0; target = b.0; arguments = c.0; workdir = d.0; environment = f.0 }
  where
    ends : (p q : Part) → part_bytes p ≡ part_bytes q → part_bytes p ++ [] ≡ part_bytes q ++ []
    ends p q e = append-nil (part_bytes p) ∙ e ∙ sym (append-nil (part_bytes q))

pub key_same : (k l : Key) → SameParts k l → key_bytes k ≡ key_bytes l
unfolding key_bytes
key_same k l e = rw (e.unicode, e.target, e.arguments, e.workdir, e.environment)

-- ---- the key of an accepted shortcut

if_fits : (b : Bool) (w : List ℕ) → length w < 4294967296 → PartFits (part_if b w)
if_fits true w h = h
if_fits false w h = tt

-- nothing in it is longer than its length can say
pub key_fits : (s : List ℕ) (c : Sections) → length s ≤ most → KeyFits (key_of s c)
unfolding key_of
key_fits s c h =
    let r = record_of c in
    let b = first_place s 0xA0000001 (blocks_of c).start (blocks_of c).read in
    let text = drop 8 (bytes_at s b) in
    record {
      target = if_fits (has_target r) (target_text s r) (omega (arith, text_small s r));
      arguments = if_fits (string_there arguments_bit r.header.flags) (bytes_at s (place_in r (string_slot arguments_bit))) (omega (arith, body_small s (place_in r (string_slot arguments_bit))));
      workdir = if_fits (string_there workdir_bit r.header.flags) (bytes_at s (place_in r (string_slot workdir_bit))) (omega (arith, body_small s (place_in r (string_slot workdir_bit))));
      environment = if_fits (leb 1 b.len) (block_text s b) (omega (arith, body_small s b, length-drop 8 (bytes_at s b), length-take (before_zero text) text));
    }

-- keys of accepted shortcuts are equal exactly if bit 7 is, and each part with its presence
pub equal_keys : (profile : Profile) (s t : List ℕ) (c d : Sections) (n m : ℕ) → shortcut profile s ≡ got c n → shortcut profile t ≡ got d m
    → (key_bytes (key_of s c) ≡ key_bytes (key_of t d)) ↔ SameParts (key_of s c) (key_of t d)
equal_keys profile s t c d n m e f =
    let k = key_fits s c (shortcut-Whole profile s c n e).limit in
    let l = key_fits t d (shortcut-Whole profile t d m f).limit in
    (key_told (key_of s c) (key_of t d) k l, key_same (key_of s c) (key_of t d))
