-- The laws of the network link.
use mathlib.Core.Path.{◌≡◌, refl, sym, ◌∙◌}
use mathlib.Core.List.{List, [], ◌∷◌, ◌++◌, map}
use mathlib.Core.Bool.{Bool, true, false, not, ◌||◌, cond}
use Prim.Native.Nat.{ℕ, ◌+◌, ◌≤◌, ◌<◌, ◌^◌}
use native.Mathlib.Omega.{arith}
use lib.ListN.{length, take, drop, length-append}
use lib.Dec.{leb, ltb}
use borrow.Author.Tests.{leb-true, le-leb}
use Rattle.octets.specs.Numbers.{Bytes, number, number_at, u32_at, little}
use Rattle.octets.proofs.NumberLaws.{Bytes-append, Bytes-nil, Bytes-little, length-little, number_back, number-little, number_below}
use Rattle.format.specs.Pieces.{text_size, text_tests, text_piece, span}
use Rattle.format.specs.Network.{network_flags, has_device, network_unicode, network_head, network_pieces, network_head_tests, network_rules, network_tests, has_device_unicode}
use Rattle.format.specs.Presence.{device_there, provider_there, device_unicode_there}
use Rattle.format.specs.Shortcut.{most}
use Rattle.format.specs.Contents.{NetworkContents}
use Rattle.format.specs.Writing.{text_bytes, two_fields, net_bytes, device_bytes, net_unicode_bytes, device_unicode_bytes, net_start, device_start, net_unicode_start, device_unicode_start, network_length, network_bytes, writable_text}
use Rattle.format.specs.Steps.LinkInfo.{writable_network}
use Rattle.format.proofs.Bools.{choose_twice}
use Rattle.format.proofs.Intervals.{total, pack, Ordered, end, Ordered-apart}
use Rattle.format.proofs.Chains.{Pass, Pass-split, Pass-join, Ok, Fits, IfThere, Ok-there, there_Ok}
use Rattle.format.proofs.Holds.{network_piece_tests, network_head_holds, network_head_passes, network_pieces_hold, network_pieces_Pass, NetworkWritable, network_writable, writable_network_lem}
use Rattle.format.proofs.PieceLaws.{PieceLaw, TextV, text_value, text_law, slot, SlotFits, SlotBack, slot_fits, slot_back, slot_Bytes, spans_Ordered, absent_empty, next, Struct, struct_law}
use Rattle.format.proofs.FieldLaws.{choose_below, field_is, length_two, Bytes-two, first_field, second_field, both_there, zero_absent, zero_either}

-- a text of the link that is there or not
abbrev text : Bool → Bool → List ℕ → ℕ → List ℕ
text u b l o = slot (text_value u) b [] l o

-- what the link's own bytes say
abbrev pub network_value : List ℕ → NetworkContents
network_value l = record {
  flags = network_flags l;
  provider = cond (provider_there (network_flags l)) (u32_at l 16) 0;
  unicode = network_unicode l;
  net = text false true l (u32_at l 8);
  device = text false (has_device l) l (u32_at l 12);
  net_unicode = text true (network_unicode l) l (u32_at l 20);
  device_unicode = text true (has_device_unicode l) l (u32_at l 24);
}

pub record NetworkT (n : NetworkContents) : Type 0 where
  pub provider : n.provider < 2 ^ 32
  pub kept : cond (provider_there n.flags) n.provider 0 ≡ n.provider
  pub net : Bytes n.net
  pub device : IfThere (device_there n.flags) [] Bytes n.device
  pub net_unicode : IfThere n.unicode [] Bytes n.net_unicode
  pub device_unicode : IfThere (device_unicode_there n.unicode n.flags) [] Bytes n.device_unicode

abbrev pub NetworkV : NetworkContents → Type 0
NetworkV = Ok NetworkT writable_network

head_is : (u : Bool) → network_head u ≡ 20 + cond u 8 0
head_is true = refl
head_is false = refl

pub length_network : (n : NetworkContents) → length (network_bytes n) ≡ network_length n
unfolding network_bytes
length_network n = simp (length-append, length-little, length_two) (omega (arith, head_is n.unicode))

-- ---- from bytes

head_inside : (u : Bool) (n : ℕ) → 0x14 ≤ n → (not u || leb 0x1C n) ≡ true → network_head u ≤ n
head_inside true n h e = leb-true 0x1C n e
head_inside false n h e = h

-- and back: a field that ends with the head or before it
field_there : (u : Bool) (i n : ℕ) → i ≤ 0x1C → network_head u ≤ n → (not u || leb i n) ≡ true
field_there true i n k h = le-leb i n (omega arith)
field_there false i n k h = refl

kept_below : (b : Bool) (x : ℕ) → x < 2 ^ 32 → cond b x 0 < 2 ^ 32
kept_below true x h = h
kept_below false x h = omega arith

kept_twice : (b : Bool) (x : ℕ) → cond b (cond b x 0) 0 ≡ cond b x 0
kept_twice true x = refl
kept_twice false x = refl

abbrev TextFits : ℕ → Bool → Bool → List ℕ → ℕ → Type 0
TextFits i u b l o = SlotFits i (λ o. text_tests i u) (text_size u) (text_value u) b [] (text_bytes u) (TextV u) (network_head (network_unicode l)) l o

network_Fits : (l : List ℕ) → Bytes l → 0x14 ≤ length l → Pass (network_rules l) → Fits network_bytes NetworkV (network_value l) (length l)
network_Fits l bs e c =
    let h : ℕ = network_head (network_unicode l) in
    let (c₁, c₂) = Pass-split (network_head_tests l) (network_piece_tests l) c in
    let x = network_head_holds l c₁ in
    let d = network_pieces_hold l c₂ in
    let k : h ≤ length l = head_inside (network_unicode l) (length l) e x.device_unicode_field in
    let s₁ : TextFits 8 false true l (u32_at l 8) = slot_fits 8 _ _ _ (λ o. text_law 8 false) true [] h l (u32_at l 8) bs d.net in
    let s₂ : TextFits 12 false (has_device l) l (u32_at l 12) = slot_fits 12 _ _ _ (λ o. text_law 12 false) (has_device l) [] h l (u32_at l 12) bs d.device in
    let s₃ : TextFits 20 true (network_unicode l) l (u32_at l 20) = slot_fits 20 _ _ _ (λ o. text_law 20 true) (network_unicode l) [] h l (u32_at l 20) bs d.net_unicode in
    let s₄ : TextFits 24 true (has_device_unicode l) l (u32_at l 24)
    = slot_fits 24 _ _ _ (λ o. text_law 24 true) (has_device_unicode l) [] h l (u32_at l 24) bs d.device_unicode in
    let p : h + total (map span (network_pieces l)) ≤ length l
    = pack h (length l) (map span (network_pieces l)) k (s₁.within, (s₂.within, (s₃.within, (s₄.within, tt)))) d.apart in
    let v₂ = there_Ok Bytes (writable_text false) (has_device l) [] (text false (has_device l) l (u32_at l 12)) s₂.valid in
    let v₃ = there_Ok Bytes (writable_text true) (network_unicode l) [] (text true (network_unicode l) l (u32_at l 20)) s₃.valid in
    let v₄ = there_Ok Bytes (writable_text true) (has_device_unicode l) [] (text true (has_device_unicode l) l (u32_at l 24)) s₄.valid in
    record {
      valid = record {
        typed = record {
          provider = kept_below (provider_there (network_flags l)) (u32_at l 16) (number_below 4 l 16 bs);
          kept = kept_twice (provider_there (network_flags l)) (u32_at l 16);
          net = s₁.valid.typed;
          device = v₂.0;
          net_unicode = v₃.0;
          device_unicode = v₄.0;
        };
        can = writable_network_lem (network_value l) (record { flags = x.flags; net = s₁.valid.can; device = v₂.1; net_unicode = v₃.1; device_unicode = v₄.1 });
      };
      short = rw (length_network (network_value l)) (omega (arith, p, s₁.short, s₂.short, s₃.short, s₄.short));
    }

-- ---- to bytes

module _ (n : NetworkContents) (v : NetworkV n) (m : length (network_bytes n) ≤ most) where
  limit : network_length n ≤ most
  limit = rw (length_network n) at m

  can : NetworkWritable n
  can = network_writable n v.can

  flags_few : n.flags ≤ 3
  flags_few = leb-true _ _ can.flags

  at0 : (r : List ℕ) → u32_at (network_bytes n ++ r) 0 ≡ network_length n
  unfolding network_bytes little number_at
  at0 r = number_back 4 (network_length n) [] (omega (arith, limit))

  at4 : u32_at (network_bytes n) 4 ≡ n.flags
  unfolding network_bytes little number_at number
  at4 = number-little 4 n.flags (omega (arith, flags_few))

  at8 : u32_at (network_bytes n) 8 ≡ net_start n
  unfolding network_bytes little number_at number
  at8 = number-little 4 (net_start n) (omega (arith, limit))

  at12 : u32_at (network_bytes n) 12 ≡ cond (device_there n.flags) (device_start n) 0
  unfolding network_bytes little number_at number
  at12 = field_is (device_there n.flags) (device_start n) (omega (arith, limit))

  at16 : u32_at (network_bytes n) 16 ≡ cond (provider_there n.flags) n.provider 0
  unfolding network_bytes little number_at number
  at16 = number-little 4 (cond (provider_there n.flags) n.provider 0) (kept_below (provider_there n.flags) n.provider v.typed.provider)

  texts : List ℕ
  texts = net_bytes n ++ (device_bytes n ++ (net_unicode_bytes n ++ (device_unicode_bytes n ++ [])))

  at20 : cond n.unicode (u32_at (network_bytes n) 20) 0 ≡ cond n.unicode (net_unicode_start n) 0
  unfolding network_bytes little number_at number texts
  at20 = first_field n.unicode (net_unicode_start n) (cond (device_there n.flags) (device_unicode_start n) 0) texts (omega (arith, limit))

  at24 : cond n.unicode (u32_at (network_bytes n) 24) 0 ≡ cond n.unicode (cond (device_there n.flags) (device_unicode_start n) 0) 0
  unfolding network_bytes little number_at number texts
  at24 =
      second_field n.unicode (net_unicode_start n) (cond (device_there n.flags) (device_unicode_start n) 0) texts
      (choose_below (device_there n.flags) (device_unicode_start n) (omega (arith, limit)))

  unicode_is : network_unicode (network_bytes n) ≡ n.unicode
  unicode_is = rw at8 (head_tells n.unicode)
    where
      head_tells : (u : Bool) → ltb 0x14 (network_head u) ≡ u
      head_tells true = refl
      head_tells false = refl

  drop_head : (u : Bool) (a b c d e x y : ℕ) (r : List ℕ)
      → drop (network_head u) (little 4 a ++ (little 4 b ++ (little 4 c ++ (little 4 d ++ (little 4 e ++ (two_fields u x y ++ r)))))) ≡ r
  unfolding little
  drop_head true a b c d e x y r = refl
  drop_head false a b c d e x y r = refl

  d₁ : drop (net_start n) (network_bytes n) ≡ net_bytes n ++ (device_bytes n ++ (net_unicode_bytes n ++ (device_unicode_bytes n ++ [])))
  unfolding network_bytes
  d₁ = drop_head n.unicode (network_length n) n.flags (net_start n) _ _ _ _ _

  d₂ : drop (device_start n) (network_bytes n) ≡ device_bytes n ++ (net_unicode_bytes n ++ (device_unicode_bytes n ++ []))
  d₂ = next (network_bytes n) (net_bytes n) _ (net_start n) d₁

  d₃ : drop (net_unicode_start n) (network_bytes n) ≡ net_unicode_bytes n ++ (device_unicode_bytes n ++ [])
  d₃ = next (network_bytes n) (device_bytes n) _ (device_start n) d₂

  d₄ : drop (device_unicode_start n) (network_bytes n) ≡ device_unicode_bytes n ++ []
  d₄ = next (network_bytes n) (net_unicode_bytes n) _ (net_unicode_start n) d₃

  abbrev TextBack : ℕ → Bool → Bool → ℕ → ℕ → List ℕ → Type 0
  TextBack k u b o a x = SlotBack k (λ o. text_tests k u) (text_size u) (text_value u) b [] (text_bytes u) (network_head n.unicode) (network_bytes n) o a x

  b₁ : TextBack 8 false true (net_start n) (net_start n) n.net
  b₁ =
      slot_back 8 _ _ _ (λ o. text_law 8 false) true [] _ (network_bytes n) _ (net_start n) (net_start n) n.net
      (record { typed = v.typed.net; can = can.net }) (omega (arith, limit)) (omega arith) refl d₁

  b₂ : TextBack 12 false (device_there n.flags) (cond (device_there n.flags) (device_start n) 0) (device_start n) n.device
  b₂ =
      slot_back 12 _ _ _ (λ o. text_law 12 false) _ [] _ (network_bytes n) _ _ (device_start n) n.device
      (Ok-there Bytes (writable_text false) (device_there n.flags) [] n.device v.typed.device can.device)
      (omega (arith, limit)) (omega arith) (choose_twice (device_there n.flags) (device_start n) 0) d₂

  b₃ : TextBack 20 true n.unicode (u32_at (network_bytes n) 20) (net_unicode_start n) n.net_unicode
  b₃ =
      slot_back 20 _ _ _ (λ o. text_law 20 true) _ [] _ (network_bytes n) _ _ (net_unicode_start n) n.net_unicode
      (Ok-there Bytes (writable_text true) n.unicode [] n.net_unicode v.typed.net_unicode can.net_unicode)
      (omega (arith, limit)) (omega arith) at20 d₃

  b₄ : TextBack 24 true (device_unicode_there n.unicode n.flags) (u32_at (network_bytes n) 24) (device_unicode_start n) n.device_unicode
  b₄ =
      slot_back 24 _ _ _ (λ o. text_law 24 true) _ [] _ (network_bytes n) _ _ (device_unicode_start n) n.device_unicode
      (Ok-there Bytes (writable_text true) (device_unicode_there n.unicode n.flags) [] n.device_unicode v.typed.device_unicode can.device_unicode)
      (omega (arith, limit)) (omega arith) (both_there n.unicode (device_there n.flags) (u32_at (network_bytes n) 24) (device_unicode_start n) at24) d₄

  in_order : Ordered (net_start n)
      (span (text_piece true false (network_bytes n) 8 (net_start n))
      ∷ span (text_piece (device_there n.flags) false (network_bytes n) 12 (cond (device_there n.flags) (device_start n) 0))
      ∷ span (text_piece n.unicode true (network_bytes n) 20 (u32_at (network_bytes n) 20))
      ∷ span (text_piece (device_unicode_there n.unicode n.flags) true (network_bytes n) 24 (u32_at (network_bytes n) 24))
      ∷ [])
  in_order =
      spans_Ordered true _ _ _ _ b₁.spans (absent_empty true (text_bytes false) n.net)
      (spans_Ordered (device_there n.flags) _ _ _ _ b₂.spans (absent_empty (device_there n.flags) (text_bytes false) n.device)
      (spans_Ordered n.unicode _ _ _ _ b₃.spans (absent_empty n.unicode (text_bytes true) n.net_unicode)
      (spans_Ordered (device_unicode_there n.unicode n.flags) _ _ _ _ b₄.spans (absent_empty (device_unicode_there n.unicode n.flags) (text_bytes true) n.device_unicode) end)))

  network_judged : Pass (network_rules (network_bytes n))
  network_judged =
      let b : List ℕ = network_bytes n in
      let room : network_head n.unicode ≤ length b = omega (arith, length_network n) in
      Pass-join (network_head_tests b) (network_piece_tests b)
      (network_head_passes b (record {
        flags = rw at4 can.flags;
        net_offset = rw at8 (le-leb 0x14 (net_start n) (omega (arith, head_is n.unicode)));
        net_unicode_field = rw unicode_is (field_there n.unicode 0x18 (length b) (omega arith) room);
        device_unicode_field = rw unicode_is (field_there n.unicode 0x1C (length b) (omega arith) room);
        device_offset = rw (at4, at12) (zero_absent (device_there n.flags) (device_start n));
        device_unicode_offset = rw (unicode_is, at4) (zero_either n.unicode (device_there n.flags) (u32_at b 24) (device_unicode_start n) at24);
      }))
      (network_pieces_Pass b (record {
        net = rw (unicode_is, at8) b₁.good;
        device = rw (unicode_is, at4, at12) b₂.good;
        net_unicode = rw unicode_is b₃.good;
        device_unicode = rw (unicode_is, at4) b₄.good;
        apart = rw (unicode_is, at4, at8, at12) (Ordered-apart in_order);
      }))

  network_same : network_value (network_bytes n) ≡ n
  network_same = rw (unicode_is, at4, at8, at12, at16, b₁.same, b₂.same, b₃.same, b₄.same, kept_twice (provider_there n.flags) n.provider, v.typed.kept)

network_bytes_lem : (n : NetworkContents) → NetworkV n → Bytes (network_bytes n)
unfolding network_bytes
network_bytes_lem n v =
    let can = network_writable n v.can in
    let t = v.typed in
    let s₁ = (text_law 0 false).bytes n.net (record { typed = t.net; can = can.net }) in
    let s₂ = slot_Bytes 0 _ _ _ (λ o. text_law 0 false) (device_there n.flags) [] n.device (Ok-there Bytes (writable_text false) (device_there n.flags) [] n.device t.device can.device) in
    let s₃ = slot_Bytes 0 _ _ _ (λ o. text_law 0 true) n.unicode [] n.net_unicode (Ok-there Bytes (writable_text true) n.unicode [] n.net_unicode t.net_unicode can.net_unicode) in
    let s₄ = slot_Bytes 0 _ _ _ (λ o. text_law 0 true) (device_unicode_there n.unicode n.flags) [] n.device_unicode
    (Ok-there Bytes (writable_text true) (device_unicode_there n.unicode n.flags) [] n.device_unicode t.device_unicode can.device_unicode) in
    search (Bytes-append, Bytes-little, Bytes-nil, Bytes-two) depth 16

network_Struct : Struct 0x14 network_rules network_value network_bytes NetworkV
network_Struct = record {
  low_four = omega arith;
  bytes = network_bytes_lem;
  sized = λ n v m r. at0 n v m r ∙ sym (length_network n);
  long = λ n v. omega (arith, length_network n, head_is n.unicode);
  judged = network_judged;
  same = network_same;
  fits = network_Fits;
}

pub network_law : (i o : ℕ) → PieceLaw (network_tests i o) (λ s. u32_at s 0) (λ s. network_value (take (u32_at s 0) s)) network_bytes NetworkV
network_law = struct_law 0x14 network_rules network_value network_Struct
