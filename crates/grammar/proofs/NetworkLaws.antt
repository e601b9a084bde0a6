-- The network link.
use mathlib.Core.Path.{◌≡◌, refl, sym, subst, ◌∙◌}
use mathlib.Core.List.{List, [], ◌∷◌, map}
use mathlib.Core.Bool.{Bool, true, false, cond}
use Prim.Native.Nat.{ℕ, ◌≤◌}
use native.Mathlib.Omega.{arith}
use lib.ListN.{length, drop}
use borrow.Author.Tests.{leb-true, le-leb, ltb-true, ltb-false, lt-ltb, le-ltb, eqb-true, eq-eqb}
use Rattle.octets.specs.Numbers.{Bytes, u32_at}
use Rattle.format.specs.declared.Place.{Place}
use Rattle.format.specs.Pieces.{text_place, absent_zero, span}
use Rattle.format.specs.Presence.{provider_there}
use Rattle.format.specs.Network.{network_flags, has_device, network_unicode, has_device_unicode, network_pieces}
use Rattle.format.proofs.Bools.{clash}
use Rattle.format.proofs.Holds.{NetworkHeadHolds, NetworkPiecesHold}
use Rattle.format.proofs.Intervals.{all_apart}
use Rattle.grammar.specs.Grammar.{is_set, Bodies, NoneShared, NetworkIs}
use Rattle.grammar.proofs.FieldLaws.{long_rows, Fields-Told, Told-Fields}
use Rattle.grammar.proofs.PieceLaws.{none_shared_lem, shared_none, text_told, text_read, text_span, text_span_lem, text_Solid, text_or, or_text}

-- an offset that leads nowhere is 0
pub absent_zero_lem : (there : Bool) (o : ℕ) → absent_zero there o ≡ true → there ≡ false → o ≡ 0
absent_zero_lem true o h e = clash refl e
absent_zero_lem false o h e = eqb-true o 0 h

pub zero_absent : (there : Bool) (o : ℕ) → (there ≡ false → o ≡ 0) → absent_zero there o ≡ true
zero_absent true o f = refl
zero_absent false o f = eq-eqb o 0 (f refl)

-- where the names stand
pub record Names (b : Bodies) (p : ℕ) (v : List ℕ) : Type 0 where
  pub net : text_place true false p v (u32_at v 8) ≡ b.net
  pub device : text_place (has_device v) false p v (u32_at v 12) ≡ b.device
  pub net_unicode : text_place (network_unicode v) true p v (u32_at v 20) ≡ b.net_unicode
  pub device_unicode : text_place (has_device_unicode v) true p v (u32_at v 24) ≡ b.device_unicode

abbrev spans : Bodies → List ℕ → List Place
spans b v =
    text_span true false (u32_at v 8) b.net
    ∷ text_span (has_device v) false (u32_at v 12) b.device
    ∷ text_span (network_unicode v) true (u32_at v 20) b.net_unicode
    ∷ text_span (has_device_unicode v) true (u32_at v 24) b.device_unicode
    ∷ []

spans_are : (b : Bodies) (p : ℕ) (v : List ℕ) → Names b p v → map span (network_pieces v) ≡ spans b v
spans_are b p v n =
    rw (
      text_span_lem true false p v 8 (u32_at v 8) b.net n.net,
      text_span_lem (has_device v) false p v 12 (u32_at v 12) b.device n.device,
      text_span_lem (network_unicode v) true p v 20 (u32_at v 20) b.net_unicode n.net_unicode,
      text_span_lem (has_device_unicode v) true p v 24 (u32_at v 24) b.device_unicode n.device_unicode,
    )

abbrev provider_of : List ℕ → ℕ
provider_of v = cond (provider_there (network_flags v)) (u32_at v 16) 0

module _ (b : Bodies) (p : ℕ) (v : List ℕ) (bs : Bytes v) (size : u32_at v 0 ≡ length v) (low : 0x14 ≤ length v)
    (h : NetworkHeadHolds v) (c : NetworkPiecesHold v) (n : Names b p v) where
  shares : NoneShared (spans b v)
  shares = subst NoneShared (spans_are b p v n) (none_shared_lem (map span (network_pieces v)) c.apart)

  pub network_told : (u : Bool) → network_unicode v ≡ u → NetworkIs (network_flags v) (provider_of v) u b p v
  network_told true e =
      let long : 0x1C ≤ length v = leb-true 0x1C (length v) (rw e at h.device_unicode_field) in
      record {
        head = 0x1C;
        net_offset = u32_at v 8;
        device_offset = u32_at v 12;
        provider_type = u32_at v 16;
        net_unicode_offset = u32_at v 20;
        device_unicode_offset = u32_at v 24;
        rest = drop 28 v;
        fields =
            Told-Fields ((4, length v) ∷ (4, network_flags v) ∷ (4, u32_at v 8) ∷ (4, u32_at v 12) ∷ (4, u32_at v 16) ∷ long_rows true (u32_at v 20) (u32_at v 24)) v bs long
            (size, (refl, (refl, (refl, (refl, (refl, (refl, tt)))))));
        few_flags = leb-true (network_flags v) 3 h.flags;
        is_head = (refl, ltb-true 0x14 (u32_at v 8) e);
        is_provider = refl;
        is_net = text_told true false 0x1C p v 8 (u32_at v 8) b.net n.net (rw e at c.net);
        is_device =
            text_or (u32_at v 12 ≡ 0) (has_device v) false 0x1C p v 12 (u32_at v 12) b.device n.device (rw e at c.device)
            (absent_zero_lem (has_device v) (u32_at v 12) h.device_offset);
        is_net_unicode = text_told true true 0x1C p v 20 (u32_at v 20) b.net_unicode (rw e at n.net_unicode) (rw e at c.net_unicode);
        is_device_unicode =
            text_or (u32_at v 24 ≡ 0) (has_device v) true 0x1C p v 24 (u32_at v 24) b.device_unicode (rw e at n.device_unicode) (rw e at c.device_unicode)
            (absent_zero_lem (has_device v) (u32_at v 24) (rw e at h.device_unicode_offset));
        none_shared = rw e at shares;
      }
  network_told false e =
      let k : u32_at v 8 ≡ 0x14 = omega (arith, leb-true 0x14 (u32_at v 8) h.net_offset, ltb-false 0x14 (u32_at v 8) e) in
      record {
        head = 0x14;
        net_offset = u32_at v 8;
        device_offset = u32_at v 12;
        provider_type = u32_at v 16;
        net_unicode_offset = u32_at v 20;
        device_unicode_offset = u32_at v 24;
        rest = drop 20 v;
        fields =
            Told-Fields ((4, length v) ∷ (4, network_flags v) ∷ (4, u32_at v 8) ∷ (4, u32_at v 12) ∷ (4, u32_at v 16) ∷ long_rows false (u32_at v 20) (u32_at v 24)) v bs low
            (size, (refl, (refl, (refl, (refl, tt)))));
        few_flags = leb-true (network_flags v) 3 h.flags;
        is_head = (refl, k);
        is_provider = refl;
        is_net = text_told true false 0x14 p v 8 (u32_at v 8) b.net n.net (rw e at c.net);
        is_device =
            text_or (u32_at v 12 ≡ 0) (has_device v) false 0x14 p v 12 (u32_at v 12) b.device n.device (rw e at c.device)
            (absent_zero_lem (has_device v) (u32_at v 12) h.device_offset);
        is_net_unicode = sym (rw e at n.net_unicode);
        is_device_unicode = (tt, sym (rw e at n.device_unicode));
        none_shared = rw e at shares;
      }

-- ---- and back

pub record NetworkRead (flags provider : ℕ) (u : Bool) (b : Bodies) (p : ℕ) (v : List ℕ) : Type 0 where
  pub size : u32_at v 0 ≡ length v
  pub enough : 0x14 ≤ length v
  pub head : NetworkHeadHolds v
  pub pieces : NetworkPiecesHold v
  pub is_flags : network_flags v ≡ flags
  pub is_provider : provider_of v ≡ provider
  pub is_unicode : network_unicode v ≡ u
  pub names : Names b p v

pub network_read : (flags provider : ℕ) (u : Bool) (b : Bodies) (p : ℕ) (v : List ℕ) → NetworkIs flags provider u b p v → NetworkRead flags provider u b p v
network_read flags provider true b p v g =
    let (size, (f, (o8, (o12, (o16, (o20, (o24, z)))))))
    = Fields-Told ((4, length v) ∷ (4, flags) ∷ (4, g.net_offset) ∷ (4, g.device_offset) ∷ (4, g.provider_type) ∷ long_rows true g.net_unicode_offset g.device_unicode_offset) g.rest v g.fields in
    let hd : g.head ≡ 0x1C = g.is_head.0 in
    let e : network_unicode v ≡ true = lt-ltb 0x14 (u32_at v 8) (omega (arith, g.is_head.1)) in
    let d = is_set 0 flags in
    let net = text_read false g.head p v 8 g.net_offset b.net g.is_net in
    let device = or_text (g.device_offset ≡ 0) d false g.head p v 12 g.device_offset b.device g.is_device in
    let net_u = text_read true g.head p v 20 g.net_unicode_offset b.net_unicode g.is_net_unicode in
    let device_u = or_text (g.device_unicode_offset ≡ 0) d true g.head p v 24 g.device_unicode_offset b.device_unicode g.is_device_unicode in
    let w = net.inside in
    let y = g.is_net.outside in
    let names : Names b p v
    = record { net = rw o8 net.held; device = rw (f, o12) device.held; net_unicode = rw (e, o20) net_u.held; device_unicode = rw (e, f, o24) device_u.held } in
    let listed : List Place
    = text_span true false g.net_offset b.net ∷ text_span d false g.device_offset b.device ∷ text_span true true g.net_unicode_offset b.net_unicode ∷ text_span d true g.device_unicode_offset b.device_unicode ∷ [] in
    let same : spans b v ≡ listed = rw (e, f, o8, o12, o20, o24) in
    record {
      size = size;
      enough = omega arith;
      head = record {
        flags = le-leb (network_flags v) 3 (omega (arith, g.few_flags));
        net_offset = le-leb 0x14 (u32_at v 8) (omega (arith, g.is_head.1));
        net_unicode_field = rw e (le-leb 0x18 (length v) (omega arith));
        device_unicode_field = rw e (le-leb 0x1C (length v) (omega arith));
        device_offset = rw (f, o12) (zero_absent d g.device_offset device.unused);
        device_unicode_offset = rw (e, f, o24) (zero_absent d g.device_unicode_offset device_u.unused);
      };
      pieces = record {
        net = rw (e, ← hd, o8) net.passes;
        device = rw (e, ← hd, f, o12) device.passes;
        net_unicode = rw (e, ← hd, o20) net_u.passes;
        device_unicode = rw (e, ← hd, f, o24) device_u.passes;
        apart =
            subst (λ (x : List Place). all_apart x ≡ true) (sym (spans_are b p v names ∙ same))
            (shared_none listed (text_Solid true false g.net_offset b.net, (text_Solid d false g.device_offset b.device, (text_Solid true true g.net_unicode_offset b.net_unicode, (text_Solid d true g.device_unicode_offset b.device_unicode, tt)))) g.none_shared);
      };
      is_flags = f;
      is_provider = rw (f, o16) (sym g.is_provider);
      is_unicode = e;
      names = names;
    }
network_read flags provider false b p v g =
    let (size, (f, (o8, (o12, (o16, z)))))
    = Fields-Told ((4, length v) ∷ (4, flags) ∷ (4, g.net_offset) ∷ (4, g.device_offset) ∷ (4, g.provider_type) ∷ long_rows false g.net_unicode_offset g.device_unicode_offset) g.rest v g.fields in
    let hd : g.head ≡ 0x14 = g.is_head.0 in
    let e : network_unicode v ≡ false = le-ltb 0x14 (u32_at v 8) (omega (arith, g.is_head.1)) in
    let d = is_set 0 flags in
    let net = text_read false g.head p v 8 g.net_offset b.net g.is_net in
    let device = or_text (g.device_offset ≡ 0) d false g.head p v 12 g.device_offset b.device g.is_device in
    let w = net.inside in
    let y = g.is_net.outside in
    let names : Names b p v
    = record { net = rw o8 net.held; device = rw (f, o12) device.held; net_unicode = rw e (sym g.is_net_unicode); device_unicode = rw e (sym g.is_device_unicode.1) } in
    let listed : List Place
    = text_span true false g.net_offset b.net ∷ text_span d false g.device_offset b.device ∷ text_span false true g.net_unicode_offset b.net_unicode ∷ text_span false true g.device_unicode_offset b.device_unicode ∷ [] in
    let same : spans b v ≡ listed = rw (e, f, o8, o12) in
    record {
      size = size;
      enough = omega arith;
      head = record {
        flags = le-leb (network_flags v) 3 (omega (arith, g.few_flags));
        net_offset = le-leb 0x14 (u32_at v 8) (omega (arith, g.is_head.1));
        net_unicode_field = rw e;
        device_unicode_field = rw e;
        device_offset = rw (f, o12) (zero_absent d g.device_offset device.unused);
        device_unicode_offset = rw e;
      };
      pieces = record {
        net = rw (e, ← hd, o8) net.passes;
        device = rw (e, ← hd, f, o12) device.passes;
        net_unicode = rw e tt;
        device_unicode = rw e tt;
        apart =
            subst (λ (x : List Place). all_apart x ≡ true) (sym (spans_are b p v names ∙ same))
            (shared_none listed (text_Solid true false g.net_offset b.net, (text_Solid d false g.device_offset b.device, (text_Solid false true g.net_unicode_offset b.net_unicode, (text_Solid false true g.device_unicode_offset b.device_unicode, tt)))) g.none_shared);
      };
      is_flags = f;
      is_provider = rw (f, o16) (sym g.is_provider);
      is_unicode = e;
      names = names;
    }
