-- The laws of LinkInfo.
use mathlib.Core.Path.{◌≡◌, refl, sym, ap, subst, ◌∙◌}
use mathlib.Core.List.{List, [], ◌∷◌, ◌++◌, map}
use mathlib.Core.Bool.{Bool, true, false, not, ◌&&◌, ◌||◌, cond}
use Prim.Native.Nat.{ℕ, ◌+◌, ◌-◌, ◌≤◌}
use native.Mathlib.Omega.{arith}
use lib.ListN.{length, take, drop, length-append, length-take}
use lib.Seq.{take_at}
use lib.Dec.{leb, eqb}
use borrow.Author.Tests.{leb-true, le-leb, lt-leb, eqb-true, eq-eqb}
use Rattle.octets.specs.Numbers.{Bytes, number, number_at, u32_at, little}
use Rattle.octets.proofs.NumberLaws.{Bytes-append, Bytes-take, Bytes-drop, Bytes-nil, Bytes-little, length-little, number_back, number-little, number_same}
use Rattle.format.specs.declared.Profile.{Profile}
use Rattle.format.specs.declared.Profile.TheVariants.{Strict, NinetyFive}
use Rattle.format.specs.declared.Fault.TheVariants.{Info as INFO}
use Rattle.format.specs.Tests.{◌else◌at◌}
use Rattle.format.specs.Pieces.{Piece, absent_zero, text_size, text_tests, text_piece, tests_of, span}
use Rattle.format.specs.Volume.{volume_piece, volume_tests}
use Rattle.format.specs.Network.{network_piece, network_tests}
use Rattle.format.specs.Info.{info_size, info_head, long_head, info_flags, has_local, has_network, info_pieces, leftover_ok, info_head_tests, info_rules, has_local_unicode}
use Rattle.format.specs.Presence.{local_there, network_there, local_unicode_there}
use Rattle.format.specs.Shortcut.{most}
use Rattle.format.specs.Bodies.{written_head}
use Rattle.format.specs.Contents.{VolumeContents, NetworkContents, InfoContents}
use Rattle.format.specs.Writing.{text_bytes, two_fields, volume_bytes, network_bytes, info_volume_bytes, local_bytes, info_network_bytes, suffix_bytes, local_unicode_bytes, suffix_unicode_bytes, volume_start, local_start, network_start, suffix_start, local_unicode_start, suffix_unicode_start, info_length, info_bytes, writable_text, writable_further}
use Rattle.format.specs.Steps.LinkInfo.{writable_volume, writable_network, writable_info}
use Rattle.format.proofs.Bools.{and-true, or-true, or_left, or_right, choose_twice}
use Rattle.format.proofs.Intervals.{total, pack, Ordered, end, Ordered-apart}
use Rattle.format.proofs.Chains.{Pass, Pass-split, Pass-join, Ok, Fits, Law, IfThere, Ok-there, there_Ok}
use Rattle.format.proofs.Holds.{info_piece_tests, info_head_holds, info_head_passes, info_pieces_hold, info_pieces_Pass, InfoWritable, info_writable, writable_info_lem}
use Rattle.format.proofs.Sized.{SizedBack, Sized, sized_r, sized_Law}
use Rattle.format.proofs.PieceLaws.{TextV, text_value, text_law, slot, SlotFits, SlotBack, slot_fits, slot_back, slot_Bytes, spans_Ordered, absent_empty, next}
use Rattle.format.proofs.FieldLaws.{choose_below, field_is, length_two, Bytes-two, first_field, second_field, both_there, zero_absent, zero_either}
use Rattle.format.proofs.VolumeLaws.{VolumeT, VolumeV, volume_value, volume_law}
use Rattle.format.proofs.NetworkLaws.{NetworkT, NetworkV, network_value, network_law}

-- ---- contents

abbrev pub no_volume_c : VolumeContents
no_volume_c = record { drive = 0; serial = 0; unicode = false; label = [] }

abbrev pub no_network_c : NetworkContents
no_network_c = record { flags = 0; provider = 0; unicode = false; net = []; device = []; net_unicode = []; device_unicode = [] }

abbrev text : Bool → Bool → List ℕ → ℕ → List ℕ
text u b l o = slot (text_value u) b [] l o

abbrev struct_size : List ℕ → ℕ
struct_size s = u32_at s 0

abbrev volume_here : List ℕ → VolumeContents
volume_here s = volume_value (take (u32_at s 0) s)

abbrev network_here : List ℕ → NetworkContents
network_here s = network_value (take (u32_at s 0) s)

-- the bytes of a head of h bytes from 0x24 on
abbrev pub further_in : ℕ → List ℕ → List ℕ
further_in h l = cond (leb 0x24 h) (take (h - 0x24) (drop 0x24 l)) []

-- what LinkInfo's own bytes say
abbrev pub info_value : List ℕ → InfoContents
info_value l = record {
  flags = info_flags l;
  long = long_head l;
  volume = slot volume_here (has_local l) no_volume_c l (u32_at l 12);
  local = text false (has_local l) l (u32_at l 16);
  network = slot network_here (has_network l) no_network_c l (u32_at l 20);
  suffix = text false true l (u32_at l 24);
  local_unicode = text true (has_local_unicode l) l (u32_at l 28);
  suffix_unicode = text true (long_head l) l (u32_at l 32);
  further = further_in (info_head l) l;
}

pub record InfoT (i : InfoContents) : Type 0 where
  pub volume : IfThere (local_there i.flags) no_volume_c VolumeT i.volume
  pub local : IfThere (local_there i.flags) [] Bytes i.local
  pub network : IfThere (network_there i.flags) no_network_c NetworkT i.network
  pub suffix : Bytes i.suffix
  pub local_unicode : IfThere (local_unicode_there i.long i.flags) [] Bytes i.local_unicode
  pub suffix_unicode : IfThere i.long [] Bytes i.suffix_unicode
  pub further : Bytes i.further

abbrev pub InfoV : InfoContents → Type 0
InfoV = Ok InfoT writable_info

head_is : (u : Bool) → cond u 0x24 0x1C ≡ 28 + cond u 8 0
head_is true = refl
head_is false = refl

pub length_info : (i : InfoContents) → length (info_bytes i) ≡ info_length i
unfolding info_bytes
length_info i = simp (length-append, length-little, length_two) (omega (arith, head_is i.long))

-- ---- from bytes

-- a long head lies inside
pub head_inside : (h n : ℕ) → (eqb h 0x1C || (leb 0x24 h && leb h n)) ≡ true → leb 0x24 h ≡ true → h ≤ n
head_inside h n e f =
    or-true (eqb h 0x1C) (leb 0x24 h && leb h n) e
    (λ t. absurd (omega (arith, eqb-true h 0x1C t, leb-true 0x24 h f)))
    (λ t. leb-true h n (and-true (leb 0x24 h) (leb h n) t).1)

-- the canonical head is no longer than the one that was read, which is inside
head_fits : (h : ℕ) (l : List ℕ) → 0x1C ≤ length l → (eqb h 0x1C || (leb 0x24 h && leb h (length l))) ≡ true
    → (written_head (leb 0x24 h) + length (further_in h l) ≤ h) × (h ≤ length l)
head_fits h l k e =
    or-true (eqb h 0x1C) (leb 0x24 h && leb h (length l)) e
    (λ t. let q : h ≡ 0x1C = eqb-true _ _ t in rw (lt-leb 0x24 h (omega arith)) (omega arith))
    (λ t.
    let q = and-true (leb 0x24 h) (leb h (length l)) t in
    let f : 0x24 ≤ h = leb-true _ _ q.0 in
    rw q.0 (omega (arith, length-take (h - 0x24) (drop 0x24 l)), leb-true _ _ q.1))

further_Bytes : (h : ℕ) (l : List ℕ) → Bytes l → Bytes (further_in h l)
further_Bytes h l bs = go (leb 0x24 h)
  where
    go : (u : Bool) → Bytes (cond u (take (h - 0x24) (drop 0x24 l)) [])
    go true = Bytes-take (h - 0x24) (drop 0x24 l) (Bytes-drop 0x24 l bs)
    go false = Bytes-nil

-- with a short head there are none
further_can : (u : Bool) (x : List ℕ) → writable_further u (cond u x []) ≡ true
further_can true x = refl
further_can false x = refl

abbrev TextFits : ℕ → Bool → Bool → List ℕ → ℕ → Type 0
TextFits i u b l o = SlotFits i (λ o. text_tests i u) (text_size u) (text_value u) b [] (text_bytes u) (TextV u) (info_head l) l o

info_Fits : (profile : Profile) (l : List ℕ) → Bytes l → 0x1C ≤ length l → Pass (info_rules profile l) → Fits info_bytes InfoV (info_value l) (length l)
info_Fits profile l bs k c =
    let h : ℕ = info_head l in
    let (c₁, c₂) = Pass-split (info_head_tests profile l) (info_piece_tests l) c in
    let x = info_head_holds profile l c₁ in
    let d = info_pieces_hold l c₂ in
    let q = head_fits h l k x.head in
    let s₁ : SlotFits 12 (volume_tests 12) struct_size volume_here (has_local l) no_volume_c volume_bytes VolumeV h l (u32_at l 12)
    = slot_fits 12 _ _ _ (volume_law 12) (has_local l) no_volume_c h l (u32_at l 12) bs d.volume in
    let s₂ : TextFits 16 false (has_local l) l (u32_at l 16) = slot_fits 16 _ _ _ (λ o. text_law 16 false) (has_local l) [] h l (u32_at l 16) bs d.local in
    let s₃ : SlotFits 20 (network_tests 20) struct_size network_here (has_network l) no_network_c network_bytes NetworkV h l (u32_at l 20)
    = slot_fits 20 _ _ _ (network_law 20) (has_network l) no_network_c h l (u32_at l 20) bs d.network in
    let s₄ : TextFits 24 false true l (u32_at l 24) = slot_fits 24 _ _ _ (λ o. text_law 24 false) true [] h l (u32_at l 24) bs d.suffix in
    let s₅ : TextFits 28 true (has_local_unicode l) l (u32_at l 28)
    = slot_fits 28 _ _ _ (λ o. text_law 28 true) (has_local_unicode l) [] h l (u32_at l 28) bs d.local_unicode in
    let s₆ : TextFits 32 true (long_head l) l (u32_at l 32) = slot_fits 32 _ _ _ (λ o. text_law 32 true) (long_head l) [] h l (u32_at l 32) bs d.suffix_unicode in
    let p : h + total (map span (info_pieces l)) ≤ length l
    = pack h (length l) (map span (info_pieces l)) q.1 (s₁.within, (s₂.within, (s₃.within, (s₄.within, (s₅.within, (s₆.within, tt))))))
    d.apart in
    let v₁ = there_Ok VolumeT writable_volume (has_local l) no_volume_c (info_value l).volume s₁.valid in
    let v₂ = there_Ok Bytes (writable_text false) (has_local l) [] (info_value l).local s₂.valid in
    let v₃ = there_Ok NetworkT writable_network (has_network l) no_network_c (info_value l).network s₃.valid in
    let v₅ = there_Ok Bytes (writable_text true) (has_local_unicode l) [] (info_value l).local_unicode s₅.valid in
    let v₆ = there_Ok Bytes (writable_text true) (long_head l) [] (info_value l).suffix_unicode s₆.valid in
    record {
      valid = record {
        typed = record {
          volume = v₁.0;
          local = v₂.0;
          network = v₃.0;
          suffix = s₄.valid.typed;
          local_unicode = v₅.0;
          suffix_unicode = v₆.0;
          further = further_Bytes h l bs;
        };
        can = writable_info_lem (info_value l) (record {
          flags = x.flags;
          volume = v₁.1;
          local = v₂.1;
          network = v₃.1;
          suffix = s₄.valid.can;
          local_unicode = v₅.1;
          suffix_unicode = v₆.1;
          further = further_can (long_head l) (take (h - 0x24) (drop 0x24 l));
        });
      };
      short = rw (length_info (info_value l)) (omega (arith, p, q.0, s₁.short, s₂.short, s₃.short, s₄.short, s₅.short, s₆.short));
    }

-- ---- to bytes

-- a head of these further bytes
module _ (x : List ℕ) where
  long_is : (u : Bool) → writable_further u x ≡ true → leb 0x24 (written_head u + length x) ≡ u
  long_is true e = le-leb 0x24 (0x24 + length x) (omega arith)
  long_is false e = lt-leb 0x24 (0x1C + length x) (omega (arith, eqb-true (length x) 0 e))

  head_good : (u : Bool) (n : ℕ) → writable_further u x ≡ true → written_head u + length x ≤ n
      → (eqb (written_head u + length x) 0x1C || (u && leb (written_head u + length x) n)) ≡ true
  head_good true n e h = or_right (eqb (0x24 + length x) 0x1C) (leb (0x24 + length x) n) (le-leb (0x24 + length x) n h)
  head_good false n e h = or_left (eqb (0x1C + length x) 0x1C) false (eq-eqb (0x1C + length x) 0x1C (omega (arith, eqb-true (length x) 0 e)))

  -- they are read back, whatever follows
  further_back : (u : Bool) (l r : List ℕ) → writable_further u x ≡ true → drop (written_head u) l ≡ x ++ r
      → cond u (take (written_head u + length x - 0x24) (drop 0x24 l)) [] ≡ x
  further_back true l r e d =
      let n : 0x24 + length x - 0x24 ≡ length x = omega arith in
      rw (n, d) (take_at x r (length x) refl)
  further_back false l r e d = none x (eqb-true (length x) 0 e)
    where
      none : (y : List ℕ) → length y ≡ 0 → [] ≡ y
      none [] e = refl
      none (a ∷ y) e = absurd (omega arith)

drop_head : (u : Bool) (a b c d e f g x y : ℕ) (r : List ℕ)
    → drop (written_head u)
    (little 4 a ++ (little 4 b ++ (little 4 c ++ (little 4 d ++ (little 4 e ++ (little 4 f ++ (little 4 g ++ (two_fields u x y ++ r)))))))) ≡ r
unfolding little
drop_head true a b c d e f g x y r = refl
drop_head false a b c d e f g x y r = refl

-- what is 0 is accepted under each profile
pub zero_leftover : (profile : Profile) (b : Bool) (o : ℕ) → absent_zero b o ≡ true → leftover_ok profile b o ≡ true
zero_leftover Strict b o e = e
zero_leftover NinetyFive b o e = refl

pub leftover_either : (profile : Profile) (u b : Bool) (o : ℕ) → (not u || absent_zero b o) ≡ true → (not u || leftover_ok profile b o) ≡ true
leftover_either profile true b o e = zero_leftover profile b o e
leftover_either profile false b o e = refl

module _ (profile : Profile) (i : InfoContents) (v : InfoV i) (m : length (info_bytes i) ≤ most) where
  limit : info_length i ≤ most
  limit = rw (length_info i) at m

  can : InfoWritable i
  can = info_writable i v.can

  at0 : (r : List ℕ) → u32_at (info_bytes i ++ r) 0 ≡ info_length i
  unfolding info_bytes little number_at
  at0 r = number_back 4 (info_length i) [] (omega (arith, limit))

  at4 : u32_at (info_bytes i) 4 ≡ volume_start i
  unfolding info_bytes little number_at number
  at4 = number-little 4 (volume_start i) (omega (arith, limit))

  at8 : u32_at (info_bytes i) 8 ≡ i.flags
  unfolding info_bytes little number_at number
  at8 = number-little 4 i.flags (omega (arith, leb-true i.flags 3 can.flags))

  at12 : u32_at (info_bytes i) 12 ≡ cond (local_there i.flags) (volume_start i) 0
  unfolding info_bytes little number_at number
  at12 = field_is (local_there i.flags) (volume_start i) (omega (arith, limit))

  at16 : u32_at (info_bytes i) 16 ≡ cond (local_there i.flags) (local_start i) 0
  unfolding info_bytes little number_at number
  at16 = field_is (local_there i.flags) (local_start i) (omega (arith, limit))

  at20 : u32_at (info_bytes i) 20 ≡ cond (network_there i.flags) (network_start i) 0
  unfolding info_bytes little number_at number
  at20 = field_is (network_there i.flags) (network_start i) (omega (arith, limit))

  at24 : u32_at (info_bytes i) 24 ≡ suffix_start i
  unfolding info_bytes little number_at number
  at24 = number-little 4 (suffix_start i) (omega (arith, limit))

  pieces : List ℕ
  pieces =
      i.further
      ++ (info_volume_bytes i ++ (local_bytes i ++ (info_network_bytes i ++ (suffix_bytes i ++ (local_unicode_bytes i ++ (suffix_unicode_bytes i ++ []))))))

  at28 : cond i.long (u32_at (info_bytes i) 28) 0 ≡ cond i.long (cond (local_there i.flags) (local_unicode_start i) 0) 0
  unfolding info_bytes little number_at number pieces
  at28 =
      first_field i.long (cond (local_there i.flags) (local_unicode_start i) 0) (suffix_unicode_start i) pieces
      (choose_below (local_there i.flags) (local_unicode_start i) (omega (arith, limit)))

  at32 : cond i.long (u32_at (info_bytes i) 32) 0 ≡ cond i.long (suffix_unicode_start i) 0
  unfolding info_bytes little number_at number pieces
  at32 = second_field i.long (cond (local_there i.flags) (local_unicode_start i) 0) (suffix_unicode_start i) pieces (omega (arith, limit))

  is_long : long_head (info_bytes i) ≡ i.long
  is_long = rw at4 (long_is i.further i.long can.further)

  d₀ : drop (written_head i.long) (info_bytes i) ≡ pieces
  unfolding info_bytes pieces
  d₀ = drop_head i.long (info_length i) (volume_start i) i.flags _ _ _ (suffix_start i) _ _ _

  d₁ : drop (volume_start i) (info_bytes i)
      ≡ info_volume_bytes i ++ (local_bytes i ++ (info_network_bytes i ++ (suffix_bytes i ++ (local_unicode_bytes i ++ (suffix_unicode_bytes i ++ [])))))
  unfolding pieces
  d₁ = next (info_bytes i) i.further _ (written_head i.long) d₀

  d₂ : drop (local_start i) (info_bytes i) ≡ local_bytes i ++ (info_network_bytes i ++ (suffix_bytes i ++ (local_unicode_bytes i ++ (suffix_unicode_bytes i ++ []))))
  d₂ = next (info_bytes i) (info_volume_bytes i) _ (volume_start i) d₁

  d₃ : drop (network_start i) (info_bytes i) ≡ info_network_bytes i ++ (suffix_bytes i ++ (local_unicode_bytes i ++ (suffix_unicode_bytes i ++ [])))
  d₃ = next (info_bytes i) (local_bytes i) _ (local_start i) d₂

  d₄ : drop (suffix_start i) (info_bytes i) ≡ suffix_bytes i ++ (local_unicode_bytes i ++ (suffix_unicode_bytes i ++ []))
  d₄ = next (info_bytes i) (info_network_bytes i) _ (network_start i) d₃

  d₅ : drop (local_unicode_start i) (info_bytes i) ≡ local_unicode_bytes i ++ (suffix_unicode_bytes i ++ [])
  d₅ = next (info_bytes i) (suffix_bytes i) _ (suffix_start i) d₄

  d₆ : drop (suffix_unicode_start i) (info_bytes i) ≡ suffix_unicode_bytes i ++ []
  d₆ = next (info_bytes i) (local_unicode_bytes i) _ (local_unicode_start i) d₅

  abbrev TextBack : ℕ → Bool → Bool → ℕ → ℕ → List ℕ → Type 0
  TextBack k u b o a x = SlotBack k (λ o. text_tests k u) (text_size u) (text_value u) b [] (text_bytes u) (volume_start i) (info_bytes i) o a x

  b₁ : SlotBack 12 (volume_tests 12) struct_size volume_here (local_there i.flags) no_volume_c volume_bytes (volume_start i) (info_bytes i)
      (cond (local_there i.flags) (volume_start i) 0) (volume_start i) i.volume
  b₁ =
      slot_back 12 _ _ _ (volume_law 12) _ no_volume_c _ (info_bytes i) _ _ (volume_start i) i.volume
      (Ok-there VolumeT writable_volume (local_there i.flags) no_volume_c i.volume v.typed.volume can.volume)
      (omega (arith, limit)) (omega arith) (choose_twice (local_there i.flags) (volume_start i) 0) d₁

  b₂ : TextBack 16 false (local_there i.flags) (cond (local_there i.flags) (local_start i) 0) (local_start i) i.local
  b₂ =
      slot_back 16 _ _ _ (λ o. text_law 16 false) _ [] _ (info_bytes i) _ _ (local_start i) i.local
      (Ok-there Bytes (writable_text false) (local_there i.flags) [] i.local v.typed.local can.local)
      (omega (arith, limit)) (omega arith) (choose_twice (local_there i.flags) (local_start i) 0) d₂

  b₃ : SlotBack 20 (network_tests 20) struct_size network_here (network_there i.flags) no_network_c network_bytes (volume_start i) (info_bytes i)
      (cond (network_there i.flags) (network_start i) 0) (network_start i) i.network
  b₃ =
      slot_back 20 _ _ _ (network_law 20) _ no_network_c _ (info_bytes i) _ _ (network_start i) i.network
      (Ok-there NetworkT writable_network (network_there i.flags) no_network_c i.network v.typed.network can.network)
      (omega (arith, limit)) (omega arith) (choose_twice (network_there i.flags) (network_start i) 0) d₃

  b₄ : TextBack 24 false true (suffix_start i) (suffix_start i) i.suffix
  b₄ =
      slot_back 24 _ _ _ (λ o. text_law 24 false) true [] _ (info_bytes i) _ (suffix_start i) (suffix_start i) i.suffix
      (record { typed = v.typed.suffix; can = can.suffix }) (omega (arith, limit)) (omega arith) refl d₄

  b₅ : TextBack 28 true (local_unicode_there i.long i.flags) (u32_at (info_bytes i) 28) (local_unicode_start i) i.local_unicode
  b₅ =
      slot_back 28 _ _ _ (λ o. text_law 28 true) _ [] _ (info_bytes i) _ _ (local_unicode_start i) i.local_unicode
      (Ok-there Bytes (writable_text true) (local_unicode_there i.long i.flags) [] i.local_unicode v.typed.local_unicode can.local_unicode)
      (omega (arith, limit)) (omega arith) (both_there i.long (local_there i.flags) (u32_at (info_bytes i) 28) (local_unicode_start i) at28) d₅

  b₆ : TextBack 32 true i.long (u32_at (info_bytes i) 32) (suffix_unicode_start i) i.suffix_unicode
  b₆ =
      slot_back 32 _ _ _ (λ o. text_law 32 true) _ [] _ (info_bytes i) _ _ (suffix_unicode_start i) i.suffix_unicode
      (Ok-there Bytes (writable_text true) i.long [] i.suffix_unicode v.typed.suffix_unicode can.suffix_unicode)
      (omega (arith, limit)) (omega arith) at32 d₆

  b₇ : cond i.long (take (volume_start i - 0x24) (drop 0x24 (info_bytes i))) [] ≡ i.further
  unfolding pieces
  b₇ = further_back i.further i.long (info_bytes i) _ can.further d₀

  in_order : Ordered (volume_start i)
      (span (volume_piece (local_there i.flags) (info_bytes i) 12 (cond (local_there i.flags) (volume_start i) 0))
      ∷ span (text_piece (local_there i.flags) false (info_bytes i) 16 (cond (local_there i.flags) (local_start i) 0))
      ∷ span (network_piece (network_there i.flags) (info_bytes i) 20 (cond (network_there i.flags) (network_start i) 0))
      ∷ span (text_piece true false (info_bytes i) 24 (suffix_start i))
      ∷ span (text_piece (local_unicode_there i.long i.flags) true (info_bytes i) 28 (u32_at (info_bytes i) 28))
      ∷ span (text_piece i.long true (info_bytes i) 32 (u32_at (info_bytes i) 32))
      ∷ [])
  in_order =
      spans_Ordered (local_there i.flags) _ _ _ _ b₁.spans (absent_empty (local_there i.flags) volume_bytes i.volume)
      (spans_Ordered (local_there i.flags) _ _ _ _ b₂.spans (absent_empty (local_there i.flags) (text_bytes false) i.local)
      (spans_Ordered (network_there i.flags) _ _ _ _ b₃.spans (absent_empty (network_there i.flags) network_bytes i.network)
      (spans_Ordered true _ _ _ _ b₄.spans (absent_empty true (text_bytes false) i.suffix)
      (spans_Ordered (local_unicode_there i.long i.flags) _ _ _ _ b₅.spans (absent_empty (local_unicode_there i.long i.flags) (text_bytes true) i.local_unicode)
      (spans_Ordered i.long _ _ _ _ b₆.spans (absent_empty i.long (text_bytes true) i.suffix_unicode) end)))))

  info_judged : Pass (info_rules profile (info_bytes i))
  info_judged =
      let b : List ℕ = info_bytes i in
      -- the piece of the written flags and offset is that of the bytes
      let network_is : network_piece (network_there i.flags) b 20 (cond (network_there i.flags) (network_start i) 0) ≡ network_piece (has_network b) b 20 (u32_at b 20) =
      sym (ap (λ (f : ℕ). network_piece (network_there f) b 20 (u32_at b 20)) at8 ∙ ap (network_piece (network_there i.flags) b 20) at20)
      in
      Pass-join (info_head_tests profile b) (info_piece_tests b)
      (info_head_passes profile b (record {
        head = rw (is_long, at4) (head_good i.further i.long (length b) can.further (omega (arith, length_info i)));
        flags = rw at8 can.flags;
        volume_offset = rw (at8, at12) (zero_leftover profile _ _ (zero_absent (local_there i.flags) (volume_start i)));
        local_offset = rw (at8, at16) (zero_leftover profile _ _ (zero_absent (local_there i.flags) (local_start i)));
        network_offset = rw (at8, at20) (zero_leftover profile _ _ (zero_absent (network_there i.flags) (network_start i)));
        local_unicode_offset = rw (is_long, at8)
            (leftover_either profile i.long (local_there i.flags) (u32_at b 28) (zero_either i.long (local_there i.flags) (u32_at b 28) (local_unicode_start i) at28));
      }))
      (info_pieces_Pass b (record {
        volume = rw (at4, at8, at12) b₁.good;
        local = rw (at4, at8, at16) b₂.good;
        network = rw at4 (subst (λ (p : Piece). Pass (tests_of (volume_start i) p)) network_is b₃.good);
        suffix = rw (at4, at24) b₄.good;
        local_unicode = rw (is_long, at4, at8) b₅.good;
        suffix_unicode = rw (is_long, at4) b₆.good;
        apart = rw (is_long, at8, at12, at16, at20, at24) (Ordered-apart in_order);
      }))

  info_back : SizedBack info_size (λ n. leb 0x1C n else INFO at 0 ∷ []) (info_rules profile) info_value (info_bytes i) i
  info_back = record {
    sized = λ r. at0 r ∙ sym (length_info i);
    sizable = (le-leb 0x1C (length (info_bytes i)) (omega (arith, length_info i, head_is i.long)), tt);
    judged = info_judged;
    same = rw (is_long, at4, at8, at12, at16, at20, at24, b₁.same, b₂.same, b₃.same, b₄.same, b₅.same, b₆.same, b₇);
  }

info_bytes_lem : (i : InfoContents) → InfoV i → Bytes (info_bytes i)
unfolding info_bytes
info_bytes_lem i v =
    let can = info_writable i v.can in
    let t = v.typed in
    let s₁ = slot_Bytes 0 _ _ _ (volume_law 0) (local_there i.flags) no_volume_c i.volume (Ok-there VolumeT writable_volume (local_there i.flags) no_volume_c i.volume t.volume can.volume) in
    let s₂ = slot_Bytes 0 _ _ _ (λ o. text_law 0 false) (local_there i.flags) [] i.local (Ok-there Bytes (writable_text false) (local_there i.flags) [] i.local t.local can.local) in
    let s₃ = slot_Bytes 0 _ _ _ (network_law 0) (network_there i.flags) no_network_c i.network
    (Ok-there NetworkT writable_network (network_there i.flags) no_network_c i.network t.network can.network) in
    let s₄ = (text_law 0 false).bytes i.suffix (record { typed = t.suffix; can = can.suffix }) in
    let s₅ = slot_Bytes 0 _ _ _ (λ o. text_law 0 true) (local_unicode_there i.long i.flags) [] i.local_unicode
    (Ok-there Bytes (writable_text true) (local_unicode_there i.long i.flags) [] i.local_unicode t.local_unicode can.local_unicode) in
    let s₆ = slot_Bytes 0 _ _ _ (λ o. text_law 0 true) i.long [] i.suffix_unicode
    (Ok-there Bytes (writable_text true) i.long [] i.suffix_unicode t.suffix_unicode can.suffix_unicode) in
    let s₇ = t.further in
    search (Bytes-append, Bytes-little, Bytes-nil, Bytes-two) depth 20

info_Sized : (profile : Profile) → Sized 2 4 info_size (λ n. leb 0x1C n else INFO at 0 ∷ []) (info_rules profile) info_value info_bytes InfoV
info_Sized profile = record {
  first = λ s t e. number_same 4 4 s t 0 e (omega arith);
  low = λ s e. omega (arith, leb-true 0x1C (info_size s) e.0);
  bytes = info_bytes_lem;
  back = info_back profile;
  fits = λ l bs k g c. info_Fits profile l bs (leb-true _ _ g.0) c;
}

pub info_Law : (profile : Profile) → Law (sized_r 2 4 info_size (λ n. leb 0x1C n else INFO at 0 ∷ []) (info_rules profile) info_value) info_bytes InfoV
info_Law profile = sized_Law 2 4 info_size (λ n. leb 0x1C n else INFO at 0 ∷ []) (info_rules profile) info_value (info_Sized profile)
