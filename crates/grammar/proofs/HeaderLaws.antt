-- The header.
use mathlib.Core.Path.{◌≡◌, refl, sym, ap, ◌∙◌, subst}
use mathlib.Core.List.{List, [], ◌∷◌, ◌++◌}
use mathlib.Core.Bool.{Bool, true, false, not, ◌&&◌, ◌||◌}
use Prim.Native.Nat.{ℕ, ◌-◌, ◌/◌, ◌%◌, ◌^◌, ◌≤◌, ◌<◌}
use native.Mathlib.Omega.{arith}
use lib.ListN.{length, take, drop, replicate, length-append, length-drop}
use lib.Seq.{length-take-le, take_all, take_at}
use lib.Dec.{leb, eqb}
use lib.IntN.{ℤ, pos, negsuc}
use borrow.Author.Tests.{leb-true, le-leb, eqb-true, eq-eqb, not-true, ltb-true, lt-ltb, le-ltb}
use Rattle.octets.specs.Numbers.{Bytes, number, u16_at, u32_at, little}
use Rattle.octets.proofs.NumberLaws.{Bytes-take, number_below}
use Rattle.format.specs.declared.Profile.{Profile}
use Rattle.format.specs.declared.Profile.TheVariants.{Strict, NinetyFive}
use Rattle.format.specs.declared.Header.{Header}
use Rattle.format.specs.declared.Fault.TheVariants.{Cut as CUT}
use Rattle.format.specs.Tests.{◌else◌at◌, got, section, bit}
use Rattle.format.specs.Header.{identifier_ok, clear_from, attributes_ok, header_rules, signed, header_fields, header}
use Rattle.format.specs.Hotkey.{among, hotkey_ok}
use Rattle.format.proofs.Bools.{and-true, and_both, or-true, or_left, or_right, by_order}
use Rattle.format.proofs.Chains.{pass, tests_elim}
use Rattle.format.proofs.Holds.{HeaderHolds, header_holds, header_passes}
use Rattle.format.proofs.HotkeyLaws.{hotkey_sentence}
use Rattle.grammar.specs.Grammar.{Signed, KeyByte, digit_key, letter_key, function_key_byte, num_lock_key, scroll_lock_key, HotkeyIs, no_key, held_key, attributes_below, class_bytes, HeaderIs, field_bytes}
use Rattle.grammar.proofs.Agree.{Agrees}
use Rattle.grammar.proofs.FieldLaws.{Told, Told-from, fields_from, Bytes-here}

-- ---- the hot key

abbrev a_key : ℕ → Bool
a_key k = among 0x30 0x39 k || among 0x41 0x5A k || among 0x70 0x87 k || among 0x90 0x91 k

key_told : (k : ℕ) → a_key k ≡ true → KeyByte k
key_told k e =
    or-true (among 0x30 0x39 k || among 0x41 0x5A k || among 0x70 0x87 k) (among 0x90 0x91 k) e
    (λ f. or-true (among 0x30 0x39 k || among 0x41 0x5A k) (among 0x70 0x87 k) f
    (λ g. or-true (among 0x30 0x39 k) (among 0x41 0x5A k) g
    (λ h. let i = and-true (leb 0x30 k) (leb k 0x39) h in digit_key (leb-true _ _ i.0) (leb-true _ _ i.1))
    (λ h. let i = and-true (leb 0x41 k) (leb k 0x5A) h in letter_key (leb-true _ _ i.0) (leb-true _ _ i.1)))
    (λ g. let i = and-true (leb 0x70 k) (leb k 0x87) g in function_key_byte (leb-true _ _ i.0) (leb-true _ _ i.1)))
    (λ f.
    let i = and-true (leb 0x90 k) (leb k 0x91) f in
    let lo = leb-true 0x90 k i.0 in
    let hi = leb-true k 0x91 i.1 in
    by_order k 0x90 (λ h. num_lock_key (omega arith)) (λ h. scroll_lock_key (omega arith)))

key_read : (k : ℕ) → KeyByte k → (k < 256) × (a_key k ≡ true)
key_read k (digit_key a b) = (omega arith, or_left _ _ (or_left _ _ (or_left _ _ (and_both _ _ (le-leb 0x30 k a) (le-leb k 0x39 b)))))
key_read k (letter_key a b) = (omega arith, or_left _ _ (or_left _ _ (or_right (among 0x30 0x39 k) _ (and_both _ _ (le-leb 0x41 k a) (le-leb k 0x5A b)))))
key_read k (function_key_byte a b) = (omega arith, or_left _ _ (or_right (among 0x30 0x39 k || among 0x41 0x5A k) _ (and_both _ _ (le-leb 0x70 k a) (le-leb k 0x87 b))))
key_read k (num_lock_key e) = (omega arith, or_right (among 0x30 0x39 k || among 0x41 0x5A k || among 0x70 0x87 k) _ (and_both _ _ (le-leb 0x90 k (omega arith)) (le-leb k 0x91 (omega arith))))
key_read k (scroll_lock_key e) = (omega arith, or_right (among 0x30 0x39 k || among 0x41 0x5A k || among 0x70 0x87 k) _ (and_both _ _ (le-leb 0x90 k (omega arith)) (le-leb k 0x91 (omega arith))))

hotkey_told : (h : ℕ) → hotkey_ok h ≡ true → HotkeyIs h
hotkey_told h e =
    or-true (eqb h 0) (a_key (h % 256) && leb (h / 256) 7) (sym (hotkey_sentence h) ∙ e)
    (λ f. no_key (eqb-true h 0 f))
    (λ f.
    let i = and-true (a_key (h % 256)) (leb (h / 256) 7) f in
    let m = leb-true (h / 256) 7 i.1 in
    held_key (h % 256) (h / 256) (omega arith) (key_told (h % 256) i.0) (omega arith))

hotkey_read : (h : ℕ) → HotkeyIs h → hotkey_ok h ≡ true
hotkey_read h (no_key e) = hotkey_sentence h ∙ rw (eq-eqb h 0 e)
hotkey_read h (held_key key held e k m) =
    let x = key_read key k in
    let a : h % 256 ≡ key = omega (arith, x.0) in
    let b : h / 256 ≡ held = omega (arith, x.0) in
    hotkey_sentence h ∙ or_right (eqb h 0) (a_key (h % 256) && leb (h / 256) 7) (and_both (a_key (h % 256)) (leb (h / 256) 7) (rw a x.1) (le-leb (h / 256) 7 (omega arith)))

-- ---- signed numbers

signed_told : (x : ℕ) → x < 2 ^ 32 → Signed (signed x) x
unfolding signed
signed_told x h =
    by_order 2147483648 x
    (λ k. rw (le-ltb x 2147483648 k) (omega arith, omega arith))
    (λ k. rw (lt-ltb x 2147483648 k) (refl, k))

signed_read : (i : ℤ) (x : ℕ) → Signed i x → signed x ≡ i
unfolding signed
signed_read (pos n) x (e, h) = rw (lt-ltb x 2147483648 (omega arith), e)
signed_read (negsuc n) x (e, h) = let k : 4294967295 - x ≡ n = omega arith in rw (le-ltb x 2147483648 (omega arith), k)

-- ---- flags and attributes

record AttributesTold (profile : Profile) (a : ℕ) : Type 0 where
  three : bit 3 a ≡ false
  six : bit 6 a ≡ false
  below : a < attributes_below profile

attributes_told : (profile : Profile) (a : ℕ) → attributes_ok profile a ≡ true → AttributesTold profile a
attributes_told profile a e =
    let i = and-true (not (bit 3 a) && not (bit 6 a)) _ e in
    let j = and-true (not (bit 3 a)) (not (bit 6 a)) i.0 in
    record { three = not-true (bit 3 a) j.0; six = not-true (bit 6 a) j.1; below = go profile i.1 }
  where
    go : (profile : Profile) → eqb (a / 2 ^ clear_from profile) 0 ≡ true → a < attributes_below profile
    go Strict e = let k : a / 32768 ≡ 0 = eqb-true (a / 32768) 0 e in omega arith
    go NinetyFive e = let k : a / 65536 ≡ 0 = eqb-true (a / 65536) 0 e in omega arith

attributes_read : (profile : Profile) (a : ℕ) → bit 3 a ≡ false → bit 6 a ≡ false → a < attributes_below profile → attributes_ok profile a ≡ true
attributes_read Strict a x y h = let k : a / 32768 ≡ 0 = omega arith in rw (x, y, k)
attributes_read NinetyFive a x y h = let k : a / 65536 ≡ 0 = omega arith in rw (x, y, k)

-- ---- the header

-- the nine fields
abbrev header_rows : Header → ℕ → List (ℕ × ℕ)
header_rows h icon =
    (4, h.flags)
    ∷ (4, h.attributes)
    ∷ (8, h.creation)
    ∷ (8, h.access)
    ∷ (8, h.write)
    ∷ (4, h.file_size)
    ∷ (4, icon)
    ∷ (4, h.command)
    ∷ (2, h.hotkey)
    ∷ []

-- its fields from the class identifier on, with what their rule is
abbrev rows_of : Header → ℕ → List (ℕ × ℕ)
rows_of h icon = (4, 0x4C) ∷ (16, number class_bytes) ∷ (header_rows h icon ++ (10, 0) ∷ [])

header_told : (profile : Profile) (p : ℕ) (l : List ℕ) → Bytes l → length l ≡ 76 → HeaderHolds profile l → HeaderIs profile (header_fields l) p l
unfolding identifier_ok little number
header_told profile p l bs n h =
    let t : Told (rows_of (header_fields l) (u32_at l 56)) 0 l
    = (eqb-true _ _ h.size, (eqb-true _ _ h.identifier, (refl, (refl, (refl, (refl, (refl, (refl, (refl, (refl, (refl, (eqb-true _ _ h.zeros, tt)))))))))))) in
    let a = attributes_told profile (u32_at l 24) h.attributes in
    let x = fields_from ((4, 0x4C) ∷ (16, number class_bytes) ∷ []) l 0 bs (omega arith) (t.0, (t.1.0, tt)) in
    let y = fields_from (header_rows (header_fields l) (u32_at l 56)) l 20 bs (omega arith) (refl, (refl, (refl, (refl, (refl, (refl, (refl, (refl, (refl, tt))))))))) in
    let z : drop 66 l ≡ replicate 10 0 = sym (take_all 10 (drop 66 l) (omega (arith, length-drop 66 l))) ∙ Bytes-here 10 0 l 66 bs (omega arith) (eqb-true _ _ h.zeros) in
    let k : u32_at l 20 / 2 ^ 27 ≡ 0 = eqb-true (u32_at l 20 / 2 ^ 27) 0 h.flags in
    record {
      numbers = drop 20 l;
      icon_bits = u32_at l 56;
      is = x.1;
      fields = record { fit = y.0; is = rw z at y.1 };
      icon = signed_told (u32_at l 56) (number_below 4 l 56 bs);
      flags = omega arith;
      bit3 = a.three;
      bit6 = a.six;
      attributes = a.below;
      hotkey = hotkey_told (u16_at l 64) h.hotkey;
    }

HeaderHolds-read : (profile : Profile) (h : Header) (p : ℕ) (x : List ℕ) → HeaderIs profile h p x → (length x ≡ 76) × (HeaderHolds profile x × (header_fields x ≡ h))
unfolding identifier_ok little number
HeaderHolds-read profile h p x g =
    let e : x ≡ little 4 0x4C ++ (class_bytes ++ (field_bytes (header_rows h g.icon_bits) ++ replicate 10 0)) = rw (← g.fields.is) g.is in
    let (f1, (f2, (f3, (f4, (f5, (f6, (f7, (f8, (f9, u))))))))) = g.fields.fit in
    let t : Told (rows_of h g.icon_bits) 0 x
    = Told-from (rows_of h g.icon_bits) x 0 [] (omega arith, (ltb-true (number class_bytes) (256 ^ 16) refl, (f1, (f2, (f3, (f4, (f5, (f6, (f7, (f8, (f9, (ltb-true 0 (256 ^ 10) refl, tt)))))))))))) e in
    let (size, (identifier, (flags, (attributes, (creation, (access, (write, (file, (icon, (command, (hotkey, (zeros, w)))))))))))) = t in
    let i : signed (u32_at x 56) ≡ h.icon_index = ap signed icon ∙ signed_read h.icon_index g.icon_bits g.icon in (
      ap length e,
      (
        record {
          size = eq-eqb _ _ size;
          identifier = eq-eqb _ _ identifier;
          flags = let k : u32_at x 20 / 2 ^ 27 ≡ 0 = omega (arith, g.flags) in eq-eqb _ _ k;
          attributes = rw attributes (attributes_read profile h.attributes g.bit3 g.bit6 g.attributes);
          hotkey = rw hotkey (hotkey_read h.hotkey g.hotkey);
          zeros = eq-eqb _ _ zeros;
        },
        rw (flags, attributes, creation, access, write, file, i, command, hotkey),
      ),
    )

pub header-Agrees : (profile : Profile) (h : Header) → Agrees (header profile) (λ p x. x ≡ h) (HeaderIs profile h)
header-Agrees profile h = record {
  told = λ p s a n bs e.
      tests_elim (λ a n. a ≡ h → (n ≤ length s) × HeaderIs profile h p (take n s)) (section 0 p) (leb 76 (length s) else CUT at 0 ∷ header_rules profile (take 76 s))
      (header_fields (take 76 s)) 76
      (λ c v.
      let i = leb-true 76 (length s) c.0 in
      (i, subst (λ (k : Header). HeaderIs profile k p (take 76 s)) v (header_told profile p (take 76 s) (Bytes-take 76 s bs) (length-take-le 76 s i) (header_holds profile (take 76 s) c.1))))
      a n e;
  read = λ p x r bs g.
      let (l, (k, f)) = HeaderHolds-read profile h p x g in
      let t : take 76 (x ++ r) ≡ x = take_at x r 76 l in
      record {
        value = h;
        is =
            pass (section 0 p) (leb 76 (length (x ++ r)) else CUT at 0 ∷ header_rules profile (take 76 (x ++ r))) (got (header_fields (take 76 (x ++ r))) 76)
            (le-leb 76 (length (x ++ r)) (omega (arith, length-append x r)), rw t (header_passes profile x k)) ∙ rw (t, f, l);
        held = refl;
      };
}
