-- What a move makes of contents that were read can be written unless it is too long; and there and back nothing is lost.
use mathlib.Core.Path.{◌≡◌, refl, sym, ap, ◌∙◌}
use mathlib.Core.List.{List, [], ◌∷◌, ◌++◌, map}
use mathlib.Core.Bool.{Bool, true, false, not, ◌&&◌, ◌||◌, cond}
use Prim.Native.Nat.{ℕ, ◌+◌, ◌-◌, ◌*◌, ◌/◌, ◌%◌, ◌^◌, ◌<◌}
use native.Mathlib.Omega.{arith}
use native.Mathlib.Nat.{div-div-eq-div-mul}
use lib.ListN.{length, length-map}
use lib.Dec.{leb, ltb, eqb}
use borrow.Author.Tests.{leb-true, eqb-true, eq-eqb, eqb-false, not-true}
use Rattle.octets.specs.Numbers.{Bytes}
use Rattle.octets.specs.Characters.{units, before_zero}
use Rattle.octets.proofs.NumberLaws.{Bytes-nil}
use Rattle.format.specs.declared.Profile.{Profile}
use Rattle.format.specs.declared.Header.{Header}
use Rattle.format.specs.Tests.{bit}
use Rattle.format.specs.Presence.{items_there, info_there, name_bit, relative_bit, workdir_bit, arguments_bit, icon_bit, string_there, strings_unicode, local_there, local_unicode_there}
use Rattle.format.specs.Header.{flags_ok}
use Rattle.format.specs.Shortcut.{most}
use Rattle.format.specs.Bodies.{local_slot, suffix_slot, local_unicode_slot, suffix_unicode_slot, string_slot, blocks_slot, further_slot}
use Rattle.format.specs.Contents.{InfoContents, Contents, body_in, info_in}
use Rattle.format.specs.Writing.{every, canonical, writable, writable_if, writable_text, writable_further, writable_bodies}
use Rattle.format.specs.Codepage.{unit_of, to_units, all_assigned, to_bytes, all_in_table, is_translation}
use Rattle.format.specs.Moving.{bodies_from, strings, flags_of, gains, maps_to_unicode, maps_to_bytes, with_flags, with_long, in_unicode, in_bytes}
use Rattle.format.proofs.Bools.{every_out, every_in, every_at, and-true, and_both, same_truth, clash, by_order}
use Rattle.format.proofs.RowLaws.{slots_are}
use Rattle.format.proofs.Chains.{no_true, IfThere, Ok-there, there_Ok}
use Rattle.format.proofs.Holds.{all_writable, header_writable, writable_header_lem, info_writable, writable_info_lem}
use Rattle.format.proofs.HeaderLaws.{HeaderV}
use Rattle.format.proofs.PieceLaws.{TextV, plain}
use Rattle.format.proofs.StringLaws.{StringV}
use Rattle.format.proofs.InfoLaws.{InfoV}
use Rattle.format.proofs.LinkLaws.{no_info_c}
use Rattle.format.proofs.WholeLaws.{Valid, Valid-can}
use Rattle.format.proofs.CodepageLaws.{units_long, units_Bytes, units_are, home, home_known, bytes_long, Bytes-Bytes, before_units, is_translation_lem}

-- ---- flag bit 7

-- all other bits that mean something are the same
pub record SameBits (f g : ℕ) : Type 0 where
  pub items : items_there f ≡ items_there g
  pub info : info_there f ≡ info_there g
  pub name : string_there name_bit f ≡ string_there name_bit g
  pub relative : string_there relative_bit f ≡ string_there relative_bit g
  pub workdir : string_there workdir_bit f ≡ string_there workdir_bit g
  pub arguments : string_there arguments_bit f ≡ string_there arguments_bit g
  pub icon : string_there icon_bit f ≡ string_there icon_bit g
  pub no_target : bit 8 f ≡ bit 8 g

same_bit : (p f g : ℕ) → f / p % 2 ≡ g / p % 2 → eqb (f / p % 2) 1 ≡ eqb (g / p % 2) 1
same_bit p f g e = ap (λ (k : ℕ). eqb k 1) e

module _ (g : ℕ) (clear : g / 128 % 2 ≡ 0) where
  -- a carry of bit 7 goes no further
  no_carry : (g + 0x80) / 256 ≡ g / 256
  no_carry =
      let a : (g + 0x80) / 128 ≡ g / 128 + 1 = omega arith in
      let b : (g / 128 + 1) / 2 ≡ g / 128 / 2 = omega arith in
      sym (div-div-eq-div-mul (g + 0x80) 128 2) ∙ rw (a, b) (div-div-eq-div-mul g 128 2)

  pub set_bits : SameBits (g + 0x80) g
  set_bits = record {
    items = same_bit 1 (g + 0x80) g (omega arith);
    info = same_bit 2 (g + 0x80) g (omega arith);
    name = same_bit 4 (g + 0x80) g (omega arith);
    relative = same_bit 8 (g + 0x80) g (omega arith);
    workdir = same_bit 16 (g + 0x80) g (omega arith);
    arguments = same_bit 32 (g + 0x80) g (omega arith);
    icon = same_bit 64 (g + 0x80) g (omega arith);
    no_target = same_bit 256 (g + 0x80) g (ap (λ (k : ℕ). k % 2) no_carry);
  }

  pub set_unicode : strings_unicode (g + 0x80) ≡ true
  set_unicode = eq-eqb ((g + 0x80) / 128 % 2) 1 (omega arith)

  pub set_ok : flags_ok g ≡ true → flags_ok (g + 0x80) ≡ true
  set_ok e = let z : g / 134217728 ≡ 0 = eqb-true (g / 134217728) 0 e in eq-eqb ((g + 0x80) / 134217728) 0 (omega arith)

-- the other way: what is left once the bit is cleared
module _ (f : ℕ) (set : f / 128 % 2 ≡ 1) where
  pub cleared : (f - 0x80) / 128 % 2 ≡ 0
  cleared = omega arith

  back : f - 0x80 + 0x80 ≡ f
  back = omega arith

  pub clear_bits : SameBits (f - 0x80) f
  clear_bits = record {
    items = same_bit 1 (f - 0x80) f (omega arith);
    info = same_bit 2 (f - 0x80) f (omega arith);
    name = same_bit 4 (f - 0x80) f (omega arith);
    relative = same_bit 8 (f - 0x80) f (omega arith);
    workdir = same_bit 16 (f - 0x80) f (omega arith);
    arguments = same_bit 32 (f - 0x80) f (omega arith);
    icon = same_bit 64 (f - 0x80) f (omega arith);
    no_target = same_bit 256 (f - 0x80) f (sym (ap (λ (k : ℕ). k % 2) (rw back at (no_carry (f - 0x80) cleared))));
  }

  pub clear_unicode : strings_unicode (f - 0x80) ≡ false
  clear_unicode = rw cleared

  pub clear_ok : flags_ok f ≡ true → flags_ok (f - 0x80) ≡ true
  clear_ok e = let z : f / 134217728 ≡ 0 = eqb-true (f / 134217728) 0 e in eq-eqb ((f - 0x80) / 134217728) 0 (omega arith)

pub bit_clear : (f : ℕ) → strings_unicode f ≡ false → f / 128 % 2 ≡ 0
bit_clear f e = let k = eqb-false (f / 128 % 2) 1 e in by_order (f / 128 % 2) 0 (λ h. omega arith) (λ h. absurd (k (omega arith)))

pub bit_set : (f : ℕ) → strings_unicode f ≡ true → f / 128 % 2 ≡ 1
bit_set f e = eqb-true (f / 128 % 2) 1 e

-- ---- the parts

header_moved : (profile : Profile) (h : Header) (f : ℕ) → f < 2 ^ 32 → flags_ok f ≡ true → HeaderV profile h → HeaderV profile (with_flags f h)
header_moved profile h f l e v =
    let w = header_writable profile h v.can in
    let t = v.typed in
    record {
      typed = record {
        flags = l;
        attributes = t.attributes;
        creation = t.creation;
        access = t.access;
        write = t.write;
        file_size = t.file_size;
        icon_index = t.icon_index;
        command = t.command;
        hotkey = t.hotkey;
      };
      can = writable_header_lem profile (with_flags f h) (record { flags = e; attributes = w.attributes; hotkey = w.hotkey });
    }

-- a string in units, and in bytes again
string_units : (b : Bool) (x : List ℕ) → IfThere b [] (StringV false) x → IfThere b [] (StringV true) (to_units x)
unfolding to_units
string_units true x v =
    let n : length (units (to_units x)) ≡ length x = ap length (units_are x) ∙ length-map x unit_of in
    let (p, q) = and-true (eqb (length x) (length x)) (ltb (length x) 65536) v.can in
    record {
      typed = units_Bytes x;
      can =
          and_both (eqb (2 * length (units (to_units x))) (length (to_units x))) (ltb (length (units (to_units x))) 65536)
          (eq-eqb (2 * length (units (to_units x))) (length (to_units x)) (omega (arith, units_long x)))
          (rw n q);
    }
string_units false x v = ap to_units v

string_bytes : (b : Bool) (x : List ℕ) → all_in_table x ≡ true → IfThere b [] (StringV true) x → IfThere b [] (StringV false) (to_bytes x)
unfolding to_bytes units
string_bytes true x e v =
    let (p, q) = and-true (eqb (2 * length (units x)) (length x)) (ltb (length (units x)) 65536) v.can in
    record {
      typed = Bytes-Bytes x e;
      can =
          and_both (eqb (length (to_bytes x)) (length (to_bytes x))) (ltb (length (to_bytes x)) 65536)
          (eq-eqb (length (to_bytes x)) (length (to_bytes x)) refl)
          (rw (bytes_long x) q);
    }
string_bytes false x e v = ap to_bytes v

-- a text in units
text_units : (x : List ℕ) → all_assigned x ≡ true → TextV false x → TextV true (to_units x)
text_units x e v =
    let p = plain false x v.can in
    let z : before_zero (units (to_units x)) ≡ length x = ap before_zero (units_are x) ∙ before_units x v.typed e p.no_zero in
    record {
      typed = units_Bytes x;
      can = eq-eqb (2 * before_zero (units (to_units x))) (length (to_units x)) (omega (arith, units_long x));
    }

-- ---- LinkInfo with another head and other Unicode texts

abbrev with_texts : Bool → List ℕ → List ℕ → InfoContents → InfoContents
with_texts long x y i = record {
  flags = i.flags;
  long = long;
  volume = i.volume;
  local = i.local;
  network = i.network;
  suffix = i.suffix;
  local_unicode = x;
  suffix_unicode = y;
  further = i.further;
}

info_with : (i : InfoContents) (long : Bool) (x y : List ℕ) → InfoV i → writable_further long i.further ≡ true → IfThere (local_unicode_there long i.flags) [] (TextV true) x → IfThere long [] (TextV true) y
    → InfoV (with_texts long x y i)
info_with i long x y v f a b =
    let t = v.typed in
    let w = info_writable i v.can in
    let p = there_Ok Bytes (writable_text true) (local_unicode_there long i.flags) [] x a in
    let q = there_Ok Bytes (writable_text true) long [] y b in
    record {
      typed = record { volume = t.volume; local = t.local; network = t.network; suffix = t.suffix; local_unicode = p.0; suffix_unicode = q.0; further = t.further };
      can =
          writable_info_lem (with_texts long x y i) (record {
            flags = w.flags;
            volume = w.volume;
            local = w.local;
            network = w.network;
            suffix = w.suffix;
            local_unicode = p.1;
            suffix_unicode = q.1;
            further = f;
          });
    }

-- a short head becomes long, and the two texts are gained
info_gained : (i : InfoContents) → all_assigned i.local ≡ true → all_assigned i.suffix ≡ true → InfoV i → InfoV (with_texts true (to_units i.local) (to_units i.suffix) i)
unfolding to_units
info_gained i e f v =
    let w = info_writable i v.can in
    let a : IfThere (local_there i.flags) [] (TextV true) (to_units i.local) = local (local_there i.flags) (Ok-there Bytes (writable_text false) (local_there i.flags) [] i.local v.typed.local w.local) in
    info_with i true (to_units i.local) (to_units i.suffix) v refl a (text_units i.suffix f (record { typed = v.typed.suffix; can = w.suffix }))
  where
    local : (b : Bool) → IfThere b [] (TextV false) i.local → IfThere b [] (TextV true) (to_units i.local)
    local true t = text_units i.local e t
    local false t = ap to_units t

-- i tells whether LinkInfo is there
info_units : (i : Bool) (x : InfoContents) → (not (i && not x.long) || all_assigned x.local && all_assigned x.suffix) ≡ true → IfThere i no_info_c InfoV x
    → IfThere i no_info_c InfoV
    (with_texts ((i && not x.long) || x.long) (cond (i && not x.long) (to_units x.local) x.local_unicode) (cond (i && not x.long) (to_units x.suffix) x.suffix_unicode) x)
info_units true x e v = go x.long refl e
  where
    go : (l : Bool) → x.long ≡ l → (not (not l) || all_assigned x.local && all_assigned x.suffix) ≡ true
        → InfoV (with_texts (not l || l) (cond (not l) (to_units x.local) x.local_unicode) (cond (not l) (to_units x.suffix) x.suffix_unicode) x)
    go true k f = rw (← k) v
    go false k f =
        let (p, q) = and-true (all_assigned x.local) (all_assigned x.suffix) f in
        info_gained x p q v
info_units false x e v = v

info_bytes : (i : Bool) (x : InfoContents) → writable_further false x.further ≡ true → IfThere i no_info_c InfoV x → IfThere i no_info_c InfoV (with_texts false [] [] x)
info_bytes true x f v = info_with x false [] [] v f refl refl
info_bytes false x f v = ap (with_texts false [] []) v

-- ---- the whole

-- each of the five strings passes the test
pub record OfStrings (f : List ℕ → Bool) (c : Contents) : Type 0 where
  pub name : f (body_in c (string_slot name_bit)) ≡ true
  pub relative : f (body_in c (string_slot relative_bit)) ≡ true
  pub workdir : f (body_in c (string_slot workdir_bit)) ≡ true
  pub arguments : f (body_in c (string_slot arguments_bit)) ≡ true
  pub icon : f (body_in c (string_slot icon_bit)) ≡ true

pub of_strings : (f : List ℕ → Bool) (c : Contents) → every (map f (strings c)) ≡ true → OfStrings f c
of_strings f c e =
    let (a, (b, (d, (g, (h, z))))) = every_out (_ ∷ _ ∷ _ ∷ _ ∷ _ ∷ []) e in
    record { name = a; relative = b; workdir = d; arguments = g; icon = h }

pub record ToUnicode (c : Contents) : Type 0 where
  pub clear : strings_unicode (flags_of c) ≡ false
  pub strings : OfStrings all_assigned c
  pub texts : (not (gains c) || all_assigned (body_in c local_slot) && all_assigned (body_in c suffix_slot)) ≡ true

pub maps_unicode : (c : Contents) → maps_to_unicode c ≡ true → ToUnicode c
maps_unicode c e =
    let (a, (b, (d, z))) = every_out (_ ∷ _ ∷ _ ∷ []) e in
    record { clear = not-true (strings_unicode (flags_of c)) a; strings = of_strings all_assigned c b; texts = d }

pub unicode_Valid : (profile : Profile) (c : Contents) → Valid profile c → maps_to_unicode c ≡ true → Valid profile (in_unicode c)
unfolding Valid in_unicode
unicode_Valid profile c v e =
    let t = maps_unicode c e in
    let g = flags_of c in
    let z = bit_clear g t.clear in
    let s = set_bits g z in
    let u = set_unicode g z in
    let (header, (items, (info, (name, (relative, (workdir, (arguments, (icon, blocks)))))))) = v.1 in
    let ok = (header_writable profile c.header header.can).flags in
    let few : g / 134217728 ≡ 0 = eqb-true (g / 134217728) 0 ok in (
      refl,
      (
        header_moved profile c.header (g + 0x80) (omega arith) (set_ok g z ok) header,
        (
          rw s.items items,
          (
            rw s.info (info_units (info_there g) (info_in c) t.texts info),
            (
              rw (s.name, u) (string_units (string_there name_bit g) (body_in c (string_slot name_bit)) (rw t.clear at name)),
              (
                rw (s.relative, u) (string_units (string_there relative_bit g) (body_in c (string_slot relative_bit)) (rw t.clear at relative)),
                (
                  rw (s.workdir, u) (string_units (string_there workdir_bit g) (body_in c (string_slot workdir_bit)) (rw t.clear at workdir)),
                  (
                    rw (s.arguments, u) (string_units (string_there arguments_bit g) (body_in c (string_slot arguments_bit)) (rw t.clear at arguments)),
                    (
                      rw (s.icon, u) (string_units (string_there icon_bit g) (body_in c (string_slot icon_bit)) (rw t.clear at icon)),
                      blocks,
                    ),
                  ),
                ),
              ),
            ),
          ),
        ),
      ),
    )

pub record ToBytes (c : Contents) : Type 0 where
  pub set : strings_unicode (flags_of c) ≡ true
  pub strings : OfStrings all_in_table c
  pub texts : (not c.link.long || is_translation (body_in c local_slot) (body_in c local_unicode_slot) && is_translation (body_in c suffix_slot) (body_in c suffix_unicode_slot)) ≡ true

pub maps_bytes : (c : Contents) → maps_to_bytes c ≡ true → ToBytes c
maps_bytes c e =
    let (a, (b, (d, z))) = every_out (_ ∷ _ ∷ _ ∷ []) e in
    record { set = a; strings = of_strings all_in_table c b; texts = d }

-- a head without further bytes can be short
abbrev pub no_further : Contents → Bool
no_further c = writable_further false (body_in c further_slot)

pub bytes_Valid : (profile : Profile) (c : Contents) → Valid profile c → maps_to_bytes c ≡ true → no_further c ≡ true → Valid profile (in_bytes c)
unfolding Valid in_bytes
bytes_Valid profile c v e none =
    let t = maps_bytes c e in
    let f = flags_of c in
    let z = bit_set f t.set in
    let s = clear_bits f z in
    let u = clear_unicode f z in
    let (header, (items, (info, (name, (relative, (workdir, (arguments, (icon, blocks)))))))) = v.1 in
    let ok = (header_writable profile c.header header.can).flags in
    let few = header.typed.flags in (
      refl,
      (
        header_moved profile c.header (f - 0x80) (omega arith) (clear_ok f z ok) header,
        (
          rw s.items items,
          (
            rw s.info (info_bytes (info_there f) (info_in c) none info),
            (
              rw (s.name, u) (string_bytes (string_there name_bit f) (body_in c (string_slot name_bit)) t.strings.name (rw t.set at name)),
              (
                rw (s.relative, u) (string_bytes (string_there relative_bit f) (body_in c (string_slot relative_bit)) t.strings.relative (rw t.set at relative)),
                (
                  rw (s.workdir, u) (string_bytes (string_there workdir_bit f) (body_in c (string_slot workdir_bit)) t.strings.workdir (rw t.set at workdir)),
                  (
                    rw (s.arguments, u) (string_bytes (string_there arguments_bit f) (body_in c (string_slot arguments_bit)) t.strings.arguments (rw t.set at arguments)),
                    (
                      rw (s.icon, u) (string_bytes (string_there icon_bit f) (body_in c (string_slot icon_bit)) t.strings.icon (rw t.set at icon)),
                      blocks,
                    ),
                  ),
                ),
              ),
            ),
          ),
        ),
      ),
    )

-- the length alone decides
pub Valid-writable : (profile : Profile) (c : Contents) → Valid profile c → writable profile c ≡ leb (length (canonical c)) most
Valid-writable profile c v =
    same_truth (writable profile c) (leb (length (canonical c)) most) (λ e. (all_writable profile c e).short) (λ e. Valid-can profile c v (leb-true (length (canonical c)) most e))

-- one with some cannot be written home
pub can_further : (profile : Profile) (c : Contents) → Valid profile c → maps_to_bytes c ≡ true → writable profile (in_bytes c) ≡ true → no_further c ≡ true
unfolding Valid in_bytes
can_further profile c v e w =
    let s = clear_bits (flags_of c) (bit_set (flags_of c) (maps_bytes c e).set) in
    go (info_there (flags_of c)) (rw s.info at (every_at (writable_bodies (in_bytes c)) (all_writable profile (in_bytes c) w).bodies further_slot)) v.1.1.1.0
  where
    go : (i : Bool) → writable_if i (writable_further false) (body_in c further_slot) ≡ true → IfThere i no_info_c InfoV (info_in c) → no_further c ≡ true
    go true r x = r
    go false r x = ap (λ (y : InfoContents). writable_further false y.further) x

pub bytes_writable : (profile : Profile) (c : Contents) → Valid profile c → maps_to_bytes c ≡ true
    → writable profile (in_bytes c) ≡ (no_further c && leb (length (canonical (in_bytes c))) most)
bytes_writable profile c v e = go (no_further c) refl
  where
    go : (b : Bool) → no_further c ≡ b → writable profile (in_bytes c) ≡ (b && leb (length (canonical (in_bytes c))) most)
    go true f = Valid-writable profile (in_bytes c) (bytes_Valid profile c v e f)
    go false f = same_truth (writable profile (in_bytes c)) false (λ w. clash (can_further profile c v e w) f) no_true

-- ---- there and back

-- what is absent is empty, and an empty text is bytes
string_typed : (b u : Bool) (x : List ℕ) → IfThere b [] (StringV u) x → Bytes x
string_typed true u x v = v.typed
string_typed false u x v = rw v Bytes-nil

pub record StringBytes (c : Contents) : Type 0 where
  pub name : Bytes (body_in c (string_slot name_bit))
  pub relative : Bytes (body_in c (string_slot relative_bit))
  pub workdir : Bytes (body_in c (string_slot workdir_bit))
  pub arguments : Bytes (body_in c (string_slot arguments_bit))
  pub icon : Bytes (body_in c (string_slot icon_bit))

Valid-strings : (profile : Profile) (c : Contents) → Valid profile c → StringBytes c
unfolding Valid
Valid-strings profile c v =
    let f = flags_of c in
    let u = strings_unicode f in
    let (header, (items, (info, (name, (relative, (workdir, (arguments, (icon, blocks)))))))) = v.1 in
    record {
      name = string_typed (string_there name_bit f) u (body_in c (string_slot name_bit)) name;
      relative = string_typed (string_there relative_bit f) u (body_in c (string_slot relative_bit)) relative;
      workdir = string_typed (string_there workdir_bit f) u (body_in c (string_slot workdir_bit)) workdir;
      arguments = string_typed (string_there arguments_bit f) u (body_in c (string_slot arguments_bit)) arguments;
      icon = string_typed (string_there icon_bit f) u (body_in c (string_slot icon_bit)) icon;
    }

-- with the short head there are no Unicode texts
pub record Short (c : Contents) : Type 0 where
  pub long : c.link.long ≡ false
  pub local : body_in c local_unicode_slot ≡ []
  pub suffix : body_in c suffix_unicode_slot ≡ []

pub Short-head : (profile : Profile) (c : Contents) → Valid profile c → (info_there (flags_of c) ≡ true → c.link.long ≡ false) → Short c
unfolding Valid
Short-head profile c v h = go (info_there (flags_of c)) refl v.1.1.1.0
  where
    none : (l : Bool) → l ≡ false → IfThere (local_unicode_there l c.link.flags) [] Bytes (body_in c local_unicode_slot) → IfThere l [] Bytes (body_in c suffix_unicode_slot)
        → (body_in c local_unicode_slot ≡ []) × (body_in c suffix_unicode_slot ≡ [])
    none true e a b = clash refl e
    none false e a b = (a, b)

    go : (i : Bool) → info_there (flags_of c) ≡ i → IfThere i no_info_c InfoV (info_in c) → Short c
    go true i x =
        let l = h i in
        let n = none c.link.long l x.typed.local_unicode x.typed.suffix_unicode in
        record { long = l; local = n.0; suffix = n.1 }
    go false i x = record { long = ap (λ (y : InfoContents). y.long) x; local = ap (λ (y : InfoContents). y.local_unicode) x; suffix = ap (λ (y : InfoContents). y.suffix_unicode) x }

module _ (profile : Profile) (c : Contents) (v : Valid profile c) (e : maps_to_unicode c ≡ true) (short : info_there (flags_of c) ≡ true → c.link.long ≡ false) where
  t : ToUnicode c
  t = maps_unicode c e

  bs : StringBytes c
  bs = Valid-strings profile c v

  -- the contents with these flags, this head, these Unicode texts and these strings
  abbrev made : ℕ → Bool → List ℕ → List ℕ → List ℕ → List ℕ → List ℕ → List ℕ → List ℕ → Contents
  made flags long local suffix name relative workdir arguments icon = record {
    header = with_flags flags c.header;
    link = with_long long c.link;
    bodies = bodies_from 0 local_unicode_slot c ++ (local ∷ suffix ∷ name ∷ relative ∷ workdir ∷ arguments ∷ icon ∷ bodies_from blocks_slot 2 c);
  }

  -- the same contents
  pub there_and_back : in_bytes (in_unicode c) ≡ c
  unfolding in_bytes in_unicode Valid
  there_and_back =
      let f : flags_of c + 0x80 - 0x80 ≡ flags_of c = omega arith in
      let h = Short-head profile c v short in
      let string : ℕ → List ℕ = λ k. body_in c (string_slot k) in
      let p : made (flags_of c + 0x80 - 0x80) false [] [] (to_bytes (to_units (string name_bit))) (to_bytes (to_units (string relative_bit))) (to_bytes (to_units (string workdir_bit))) (to_bytes (to_units (string arguments_bit))) (to_bytes (to_units (string icon_bit)))
      ≡ made (flags_of c) c.link.long (body_in c local_unicode_slot) (body_in c suffix_unicode_slot) (string name_bit) (string relative_bit) (string workdir_bit) (string arguments_bit) (string icon_bit)
      = cc (
        h.long,
        h.local,
        h.suffix,
        home (string name_bit) bs.name t.strings.name,
        home (string relative_bit) bs.relative t.strings.relative,
        home (string workdir_bit) bs.workdir t.strings.workdir,
        home (string arguments_bit) bs.arguments t.strings.arguments,
        home (string icon_bit) bs.icon t.strings.icon,
      ) in
      p ∙ ap (λ (x : List (List ℕ)). record { header = c.header; link = c.link; bodies = x }) (slots_are [] 17 0 c.bodies v.0)

  -- and the way back is open
  pub maps_home : maps_to_bytes (in_unicode c) ≡ true
  unfolding in_unicode Valid
  maps_home =
      let z = bit_clear (flags_of c) t.clear in
      every_in (_ ∷ _ ∷ _ ∷ []) (
        set_unicode (flags_of c) z,
        (
          every_in (_ ∷ _ ∷ _ ∷ _ ∷ _ ∷ []) (
            home_known (body_in c (string_slot name_bit)) bs.name t.strings.name,
            (
              home_known (body_in c (string_slot relative_bit)) bs.relative t.strings.relative,
              (
                home_known (body_in c (string_slot workdir_bit)) bs.workdir t.strings.workdir,
                (home_known (body_in c (string_slot arguments_bit)) bs.arguments t.strings.arguments, (home_known (body_in c (string_slot icon_bit)) bs.icon t.strings.icon, tt)),
              ),
            ),
          ),
          (texts (info_there (flags_of c)) c.link.long (Short-head profile c v short).long t.texts, tt),
        ),
      )
    where
      texts : (i l : Bool) → l ≡ false → (not (i && not l) || all_assigned (body_in c local_slot) && all_assigned (body_in c suffix_slot)) ≡ true
          → (not ((i && not l) || l)
          || is_translation (body_in c local_slot) (cond (i && not l) (to_units (body_in c local_slot)) (body_in c local_unicode_slot))
          && is_translation (body_in c suffix_slot) (cond (i && not l) (to_units (body_in c suffix_slot)) (body_in c suffix_unicode_slot)))
          ≡ true
      texts true true e h = clash refl e
      texts true false e h =
          let (p, q) = and-true (all_assigned (body_in c local_slot)) (all_assigned (body_in c suffix_slot)) h in
          and_both (is_translation (body_in c local_slot) (to_units (body_in c local_slot))) (is_translation (body_in c suffix_slot) (to_units (body_in c suffix_slot)))
          (is_translation_lem (body_in c local_slot) p)
          (is_translation_lem (body_in c suffix_slot) q)
      texts false true e h = clash refl e
      texts false false e h = refl
