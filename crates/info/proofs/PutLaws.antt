-- What a LinkInfo that is right says: where its structures stand, its texts by their lengths, and the numbers that are put.
use mathlib.Core.Path.{◌≡◌, refl, sym, ap, ap₂, ◌∙◌}
use mathlib.Core.List.{List, [], ◌∷◌}
use mathlib.Core.Bool.{Bool, true, false, ◌&&◌, ◌||◌, cond}
use Prim.Native.Nat.{ℕ, ◌+◌, ◌-◌, ◌≤◌, ◌<◌}
use native.Mathlib.Omega.{arith}
use lib.Seq.{take-take}
use lib.ListN.{length, take, drop, set, get_or, replicate, length-take, length-drop}
use borrow.Author.Tests.{le-leb, lt-leb}
use Rattle.octets.specs.Numbers.{u32_at}
use Rattle.octets.proofs.NumberLaws.{number_drop, number_same}
use Rattle.format.specs.declared.Place.{Place}
use Rattle.format.specs.declared.Volume.{Volume}
use Rattle.format.specs.declared.Network.{Network}
use Rattle.format.specs.declared.Info.{Info}
use Rattle.format.specs.Tests.{Test, place, no_place, one_or_0}
use Rattle.format.specs.Pieces.{tests_of, text_place}
use Rattle.format.specs.Volume.{label_unicode, label_offset, label_kind, label_place, volume_rules, volume_fields, no_volume}
use Rattle.format.specs.Network.{network_unicode, network_rules, network_fields, network_head_tests, no_network}
use Rattle.format.specs.Presence.{local_there, network_there}
use Rattle.format.specs.Info.{info_head, long_head, has_local, has_network, has_local_unicode, info_fields}
use Rattle.format.proofs.Chains.{Pass, all-Pass, Pass-split, no_true}
use Rattle.format.proofs.Holds.{info_piece_tests, InfoPiecesHold, info_pieces_hold, struct_holds, volume_holds, network_head_holds, network_piece_tests}
use Rattle.pieces.specs.Steps.Found.{label_length, network_lengths}
use Rattle.info.specs.Steps.Found.{text_lengths}
use Rattle.fields.specs.Steps.Putting.{with_place}
use Rattle.info.specs.Steps.Putting.{Right, info_part, with_local, with_network, with_long}
use Rattle.pieces.proofs.TestLaws.{uncut_room}
use Rattle.pieces.proofs.TextLaws.{body_place}
use Rattle.pieces.proofs.StructLaws.{first_number, struct_at}
use Rattle.info.proofs.LengthLaws.{label_place_lem}

-- ---- a structure that is there

pub record Stands (least : ℕ) (rules : List ℕ → List Test) (l : List ℕ) (o : ℕ) : Type 0 where
  pub room : o + 4 ≤ length l
  pub inside : o + u32_at l o ≤ length l
  pub enough : least ≤ u32_at l o
  pub own : Pass (rules (take (u32_at l o) (drop o l)))

present : (b : Bool) (t : Test) (ts : List Test) → b ≡ true → Pass (cond b (t ∷ ts) []) → Pass ts
present true t ts e p = p.1
present false t ts e p = no_true e

stands : (i least h o : ℕ) (rules : List ℕ → List Test) (b : Bool) (l : List ℕ) → b ≡ true → Pass (tests_of h (struct_at i least rules b l o)) → Stands least rules l o
stands i least h o rules b l t p =
    let s = struct_holds i o least rules (drop o l) (present b _ _ t p) in
    let n = first_number l o in
    let k = length-drop o l in
    record { room = omega arith; inside = omega arith; enough = omega arith; own = rw n at s.own }

-- its own bytes, of which the field says n
module _ {least : ℕ} {rules : List ℕ → List Test} (l : List ℕ) {o n : ℕ} (S : Stands least rules l o) (en : n ≡ u32_at l o) where
  abbrev part : List ℕ
  part = take (o + n - o) (drop o l)

  part-length : length part ≡ n
  part-length = simp (length-take, length-drop) (omega (arith, S.inside))

  part_own : Pass (rules part)
  part_own =
      let k : u32_at l o ≡ o + n - o = omega arith in
      rw k at S.own

-- what it says
struct_said : {A : Type 0} (fields : ℕ → List ℕ → A) (none : A) (b : Bool) (l : List ℕ) (start : ℕ) {o p n : ℕ} → b ≡ true → o ≡ p → n ≡ u32_at l o
    → fields (start + o) (take (o + n - o) (drop o l)) ≡ cond b (fields (start + p) (take (u32_at (drop p l) 0) (drop p l))) none
struct_said fields none true l start {o} {p} {n} t eo en =
    let k : o + n - o ≡ u32_at (drop o l) 0 = omega (arith, first_number l o) in
    ap (λ (i : ℕ). fields (start + o) (take i (drop o l))) k ∙ ap (λ (q : ℕ). fields (start + q) (take (u32_at (drop q l) 0) (drop q l))) eo
struct_said fields none false l start t eo en = no_true t

text_said : (b u : Bool) (start : ℕ) (l : List ℕ) {c : Bool} {o p n : ℕ} {y : Place} → c ≡ b → o ≡ p → n ≡ (text_place b u start l p).len → y ≡ cond c (place (start + o) n) no_place
    → y ≡ text_place b u start l p
text_said b u start l {p = p} ec eo en ey = ey ∙ rw (ec, eo) (body_place b u start l p en)

either : (a b : Bool) → (a || b) ≡ true → a ≡ false → b ≡ true
either true b e f = no_true (sym f)
either false b e f = e

module _ (start : ℕ) (l row : List ℕ) (R : Right start l row) where
  abbrev said : Info
  said = info_fields start l

  held : InfoPiecesHold l
  held = info_pieces_hold l (all-Pass (info_piece_tests l) R.pieces)

  -- ---- VolumeID

  module _ {o : ℕ} (t : has_local l ≡ true) (eo : o ≡ u32_at l 12) where
    pub volume_Stands : Stands 0x11 volume_rules l o
    volume_Stands = rw eo (stands 12 0x11 (info_head l) (u32_at l 12) volume_rules (has_local l) l t held.volume)

    module _ {n : ℕ} (en : n ≡ u32_at l o) where
      volume_is : volume_fields (start + o) (part l volume_Stands en) ≡ said.volume
      volume_is = struct_said volume_fields no_volume (has_local l) l start t eo en

      pub volume_asked : ((0x11 ≤ length (part l volume_Stands en)) × ((label_unicode (part l volume_Stands en) ≡ true → 0x14 ≤ length (part l volume_Stands en)) × (start + o ≤ 65536)))
          × (get_or row 0 0 ≡ label_length (part l volume_Stands en))
      unfolding text_lengths
      volume_asked =
          let v : List ℕ = part l volume_Stands en in
          let S = volume_Stands in
          let k = part-length l S en in
          let h = volume_holds v (part_own l S en) in
          let m = R.small in (
            (omega arith, (uncut_room (label_unicode v) 0x14 v h.offset_field, omega arith)),
            ap (λ (r : List ℕ). get_or r 0 0) R.lengths ∙ ap (λ (x : Volume). (label_place x.label).len) (sym volume_is)
                ∙ ap (λ (x : Place). x.len) (label_place_lem (label_unicode v) (place (start + o + label_offset v) (label_length v))),
          )

      pub volume_said : {x : Volume} → x ≡ volume_fields (start + o) (part l volume_Stands en) → x ≡ said.volume
      volume_said e = e ∙ volume_is

  -- ---- the network link

  module _ {o : ℕ} (t : has_network l ≡ true) (eo : o ≡ u32_at l 20) where
    pub network_Stands : Stands 0x14 network_rules l o
    network_Stands = rw eo (stands 20 0x14 (info_head l) (u32_at l 20) network_rules (has_network l) l t held.network)

    module _ {n : ℕ} (en : n ≡ u32_at l o) where
      network_is : network_fields (start + o) (part l network_Stands en) ≡ said.network
      network_is = struct_said network_fields no_network (has_network l) l start t eo en

      pub network_asked : ((0x14 ≤ length (part l network_Stands en)) × ((network_unicode (part l network_Stands en) ≡ true → 0x1C ≤ length (part l network_Stands en)) × (start + o ≤ 65536)))
          × (take 4 (drop 2 row) ≡ network_lengths (network_fields (start + o) (part l network_Stands en)))
      unfolding text_lengths
      network_asked =
          let v : List ℕ = part l network_Stands en in
          let S = network_Stands in
          let k = part-length l S en in
          let h = network_head_holds v (Pass-split (network_head_tests v) (network_piece_tests v) (part_own l S en)).0 in
          let m = R.small in (
            (omega arith, (uncut_room (network_unicode v) 0x1C v h.device_unicode_field, omega arith)),
            ap (λ (r : List ℕ). take 4 (drop 2 r)) R.lengths ∙ ap network_lengths (sym network_is),
          )

      pub network_said : {x : Network} → x ≡ network_fields (start + o) (part l network_Stands en) → x ≡ said.network
      network_said e = e ∙ network_is

    -- the net name's offset is read from LinkInfo
    net_said : {m : ℕ} {y : Place} → m ≡ u32_at l (o + 8) → y ≡ cond true (place (start + o + m) (get_or row 2 0)) no_place → y ≡ said.network.net
    unfolding text_lengths
    net_said {m} em ey =
        let n : ℕ = u32_at l o in
        let v : List ℕ = take (o + n - o) (drop o l) in
        let i : network_fields (start + o) v ≡ said.network = network_is refl in
        let j : m ≡ u32_at v 8
        = em ∙ sym (number_same 4 12 v (drop o l) 8 (take-take 12 (o + n - o) (drop o l) (omega (arith, network_Stands.enough))) (omega arith) ∙ number_drop 4 o l 8) in
        let k : get_or row 2 0 ≡ (network_fields (start + o) v).net.len = ap (λ (r : List ℕ). get_or r 2 0) R.lengths ∙ ap (λ (x : Network). x.net.len) (sym i) in
        ey ∙ ap₂ (λ (a b : ℕ). place (start + o + a) b) j k ∙ ap (λ (x : Network). x.net) i

  -- ---- texts

  pub local_said : {o : ℕ} {y : Place} → has_local l ≡ true → o ≡ u32_at l 16 → y ≡ cond true (place (start + o) (get_or row 1 0)) no_place → y ≡ said.local
  unfolding text_lengths
  local_said t eo = text_said (has_local l) false start l (sym t) eo (ap (λ (r : List ℕ). get_or r 1 0) R.lengths)

  pub suffix_said : {o : ℕ} {y : Place} → o ≡ u32_at l 24 → y ≡ cond true (place (start + o) (get_or row 6 0)) no_place → y ≡ said.suffix
  unfolding text_lengths
  suffix_said eo = text_said true false start l refl eo (ap (λ (r : List ℕ). get_or r 6 0) R.lengths)

  pub first_local : {flags o : ℕ} {x : Bool} {y : Place} → flags ≡ u32_at l 8 → x ≡ local_there flags → x ≡ true → o ≡ u32_at l 16
      → y ≡ cond true (place (start + o) (get_or row 1 0)) no_place → y ≡ cond (has_local l) said.local said.network.net
  first_local ef ex t eo ey =
      let k : has_local l ≡ true = sym (ex ∙ rw ef) ∙ t in
      local_said k eo ey ∙ sym (rw k)

  -- ---- with a long head

  module _ {head : ℕ} (eh : head ≡ info_head l) (h : 0x24 ≤ head) where
    pub is_long : long_head l ≡ true
    is_long = rw (← eh) (le-leb 0x24 head h)

    pub local_unicode_said : {c : Bool} {o : ℕ} {y : Place} → c ≡ has_local l → o ≡ u32_at l 28 → y ≡ cond c (place (start + o) (get_or row 7 0)) no_place → y ≡ said.local_unicode
    unfolding text_lengths
    local_unicode_said ec eo = text_said (has_local_unicode l) true start l (ec ∙ sym (rw is_long)) eo (ap (λ (r : List ℕ). get_or r 7 0) R.lengths)

    pub suffix_unicode_said : {o : ℕ} {y : Place} → o ≡ u32_at l 32 → y ≡ cond true (place (start + o) (get_or row 8 0)) no_place → y ≡ said.suffix_unicode
    unfolding text_lengths
    suffix_unicode_said eo = text_said (long_head l) true start l (sym is_long) eo (ap (λ (r : List ℕ). get_or r 8 0) R.lengths)

    pub further_said : place (start + 0x24) (head - 0x24) ≡ said.further
    further_said = rw (is_long, eh)

  pub is_short : {head : ℕ} → head ≡ info_head l → head < 0x24 → long_head l ≡ false
  is_short {head} eh h = rw (← eh) (lt-leb 0x24 head h)

  -- the net name where there is no local path
  module _ {flags o : ℕ} {x : Bool} (ef : flags ≡ u32_at l 8) (ex : x ≡ local_there flags) (f : x ≡ false) (e : (has_local l || has_network l) ≡ true) (eo : o ≡ u32_at l 20) where
    no_local : has_local l ≡ false
    no_local = sym (ex ∙ rw ef) ∙ f

    linked : has_network l ≡ true
    linked = either (has_local l) (has_network l) e no_local

    pub net_Stands : Stands 0x14 network_rules l o
    net_Stands = network_Stands linked eo

    pub first_net : {m : ℕ} {y : Place} → m ≡ u32_at l (o + 8) → y ≡ cond true (place (start + o + m) (get_or row 2 0)) no_place → y ≡ cond (has_local l) said.local said.network.net
    first_net em ey = net_said linked eo em ey ∙ sym (rw no_local)

  -- ---- what is put

  pub local_put : {x : Volume} {u : Bool} {k : ℕ} {p q : Place} (f : List ℕ) {g h : List ℕ} → x ≡ said.volume → u ≡ label_kind x.label → k ≡ one_or_0 u → p ≡ label_place x.label
      → g ≡ with_place (set (set (set f 11 x.drive) 12 x.serial) 13 k) 1 p → q ≡ said.local → h ≡ with_place g 2 q → h ≡ with_local f said
  unfolding with_local
  local_put f ex eu ek ep eg eq eh = eh ∙ rw (eg, eq, ek, eu, ep, ex)

  pub network_put : {x : Network} {k : ℕ} (f : List ℕ) {g₁ g₂ g₃ g₄ : List ℕ} → x ≡ said.network → k ≡ one_or_0 x.unicode
      → g₁ ≡ with_place (set (set (set f 14 x.flags) 15 x.provider) 16 k) 3 x.net → g₂ ≡ with_place g₁ 4 x.device → g₃ ≡ with_place g₂ 5 x.net_unicode
      → g₄ ≡ with_place g₃ 6 x.device_unicode → g₄ ≡ with_network f said
  unfolding with_network
  network_put f ex ek e₁ e₂ e₃ e₄ = e₄ ∙ rw (e₃, e₂, e₁, ek, ex)

  pub long_put : {x y z : Place} (f : List ℕ) {g₁ g₂ g₃ : List ℕ} → x ≡ said.local_unicode → y ≡ said.suffix_unicode → z ≡ said.further
      → g₁ ≡ with_place (set f 10 1) 8 x → g₂ ≡ with_place g₁ 9 y → g₃ ≡ with_place g₂ 16 z → g₃ ≡ with_long f said
  unfolding with_long
  long_put f ex ey ez e₁ e₂ e₃ = e₃ ∙ rw (e₂, e₁, ex, ey, ez)

-- ---- all steps

-- LinkInfo by what is there of it: VolumeID and the local path, the network link, a long head
abbrev there_of : Bool → Bool → Bool → ℕ → Volume → Place → Network → Place → Place → Place → Place → Info
there_of b c w flags v local n suffix local_unicode suffix_unicode further = record {
  flags = flags;
  long = w;
  volume = cond b v no_volume;
  local = cond b local no_place;
  network = cond c n no_network;
  suffix = suffix;
  local_unicode = cond (w && b) local_unicode no_place;
  suffix_unicode = cond w suffix_unicode no_place;
  further = cond w further no_place;
}

abbrev put_all : Bool → Bool → Bool → Info → List ℕ
put_all b c w i =
    let f = set (replicate 51 0) 9 i.flags in
    let g = cond b (with_local f i) f in
    let h = with_place (cond c (with_network g i) g) 7 i.suffix in
    cond w (with_long h i) h

put_all_lem : (b c w : Bool) (flags : ℕ) (v : Volume) (local : Place) (n : Network) (suffix local_unicode suffix_unicode further : Place)
    → put_all b c w (there_of b c w flags v local n suffix local_unicode suffix_unicode further) ≡ info_part (there_of b c w flags v local n suffix local_unicode suffix_unicode further)
unfolding info_part with_local with_network with_long with_place
put_all_lem true true true flags v x n y z p q = refl
put_all_lem true true false flags v x n y z p q = refl
put_all_lem true false true flags v x n y z p q = refl
put_all_lem true false false flags v x n y z p q = refl
put_all_lem false true true flags v x n y z p q = refl
put_all_lem false true false flags v x n y z p q = refl
put_all_lem false false true flags v x n y z p q = refl
put_all_lem false false false flags v x n y z p q = refl

-- a branch that was taken, or passed over
pub taken : {x : Bool} {f g : List ℕ} (h : List ℕ) → x ≡ true → f ≡ g → f ≡ cond x g h
taken h t e = e ∙ rw t

pub passed : {x : Bool} {f h : List ℕ} (g : List ℕ) → x ≡ false → f ≡ h → f ≡ cond x g h
passed g t e = e ∙ rw t

pub info_put : (start : ℕ) (l : List ℕ) {flags : ℕ} {x y : Bool} {p : Place} (f : List ℕ) {g h k m : List ℕ} → f ≡ replicate 51 0 → flags ≡ u32_at l 8 → x ≡ local_there flags → y ≡ network_there flags
    → g ≡ cond x (with_local (set f 9 flags) (info_fields start l)) (set f 9 flags) → h ≡ cond y (with_network g (info_fields start l)) g → p ≡ (info_fields start l).suffix → k ≡ with_place h 7 p
    → m ≡ cond (long_head l) (with_long k (info_fields start l)) k → m ≡ info_part (info_fields start l)
info_put start l f e ef ex ey eg eh ep ek em =
    em ∙ rw (ek, ep, eh, eg, ey, ex, ef, e) (put_all_lem (has_local l) (has_network l) (long_head l) _ _ _ _ _ _ _ _)
