-- What strict accepts 95 accepts, with the same sections, and so every call answers there as it does under strict.
use mathlib.Core.Path.{◌≡◌, refl, sym, ◌∙◌}
use mathlib.Core.List.{List, [], ◌∷◌}
use mathlib.Core.Bool.{Bool, true, false, not, ◌&&◌}
use Prim.Native.Nat.{ℕ, ◌+◌, ◌/◌, ◌^◌}
use native.Mathlib.Omega.{arith}
use lib.ListN.{length, take, drop}
use lib.Dec.{leb, eqb}
use borrow.Author.Tests.{le-leb, eqb-true, eq-eqb}
use Rattle.octets.specs.Numbers.{Bytes, u32_at}
use Rattle.format.specs.declared.Profile.{Profile}
use Rattle.format.specs.declared.Profile.TheVariants.{Strict, NinetyFive}
use Rattle.format.specs.declared.Record.{Record}
use Rattle.format.specs.declared.Fault.TheVariants.{Cut as CUT, Info as INFO, Place as PLACE, Unwritable as UNWRITABLE, Room as ROOM}
use Rattle.format.specs.Tests.{Test, ◌else◌at◌, Site, section, no_section, tests, Outcome, got, Reader, chain, ◌then◌, no_place, bit}
use Rattle.format.specs.Presence.{items_there, info_there, name_bit, relative_bit, workdir_bit, arguments_bit, icon_bit}
use Rattle.format.specs.Header.{attributes_ok, header_rules, header_fields, header}
use Rattle.format.specs.Items.{items}
use Rattle.format.specs.Info.{info_size, long_head, has_local, info_head_tests, info_rules, info_fields, info, no_info}
use Rattle.format.specs.Blocks.{blocks}
use Rattle.format.specs.Shortcut.{Sections, found, section_if, string_section, tail, sections, shortcut, reading}
use Rattle.format.specs.Target.{target}
use Rattle.format.specs.Key.{key, key_in}
use Rattle.format.specs.Listing.{listing}
use Rattle.format.specs.StoreList.{store_list}
use Rattle.format.specs.Bodies.{placed}
use Rattle.format.specs.Contents.{Contents, contents}
use Rattle.format.specs.Writing.{canonical, writable}
use Rattle.format.specs.Demands.{Accepts}
use Rattle.format.specs.PathWriting.{is_path, path_text, path_block, with_path, path_writing}
use Rattle.format.specs.Moving.{maps_to_unicode, maps_to_bytes, in_unicode, in_bytes, moving, to_unicode, to_byte_strings}
use Rattle.format.proofs.Bools.{and-true, and_both}
use Rattle.format.proofs.Chains.{Pass, pass, Pass-split, Pass-join, tests_elim, chain_elim}
use Rattle.format.proofs.Holds.{header_holds, header_passes, info_piece_tests, info_head_holds, info_head_passes, header_writable, writable_header_lem, all_writable, writable_all}
use Rattle.format.proofs.InfoLaws.{leftover_either}
use Rattle.format.proofs.PlaceLaws.{found_elim}
use Rattle.format.proofs.WholeLaws.{Valid}
use Rattle.format.proofs.AcceptedLaws.{accepted_Read, shortcut-Whole}
use Rattle.format.proofs.PathLaws.{Path}
use Rattle.format.proofs.PathDemands.{length_decides}
use Rattle.format.proofs.MoveLaws.{unicode_Valid, bytes_writable, Valid-writable}
use Rattle.format.proofs.MoveDemands.{accepted_Valid, unicode_Move, to_unicode_is, to_bytes_is}

-- ---- the two rules

fewer_bits : (a : ℕ) → eqb (a / 2 ^ 15) 0 ≡ true → eqb (a / 2 ^ 16) 0 ≡ true
fewer_bits a e = let z : a / 2 ^ 15 ≡ 0 = eqb-true _ _ e in eq-eqb (a / 2 ^ 16) 0 (omega arith)

attributes_within : (a : ℕ) → attributes_ok Strict a ≡ true → attributes_ok NinetyFive a ≡ true
attributes_within a e =
    let x = and-true (not (bit 3 a) && not (bit 6 a)) (eqb (a / 2 ^ 15) 0) e in
    and_both (not (bit 3 a) && not (bit 6 a)) (eqb (a / 2 ^ 16) 0) x.0 (fewer_bits a x.1)

header_rules_within : (l : List ℕ) → Pass (header_rules Strict l) → Pass (header_rules NinetyFive l)
header_rules_within l c =
    let x = header_holds Strict l c in
    header_passes NinetyFive l (record {
      size = x.size;
      identifier = x.identifier;
      flags = x.flags;
      attributes = attributes_within (u32_at l 24) x.attributes;
      hotkey = x.hotkey;
      zeros = x.zeros;
    })

info_rules_within : (l : List ℕ) → Pass (info_rules Strict l) → Pass (info_rules NinetyFive l)
info_rules_within l c =
    let (h, p) = Pass-split (info_head_tests Strict l) (info_piece_tests l) c in
    let x = info_head_holds Strict l h in
    Pass-join (info_head_tests NinetyFive l) (info_piece_tests l)
    (info_head_passes NinetyFive l (record {
      head = x.head;
      flags = x.flags;
      volume_offset = refl;
      local_offset = refl;
      network_offset = refl;
      local_unicode_offset = leftover_either NinetyFive (long_head l) (has_local l) (u32_at l 28) x.local_unicode_offset;
    }))
    p

-- ---- readers

-- what the first accepts the second does, and reads the same there
record Within {A : Type 0} (P Q : Reader A) : Type 0 where
  within : (p : ℕ) (s : List ℕ) (a : A) (n : ℕ) → P p s ≡ got a n → Q p s ≡ got a n

same_Within : {A : Type 0} (P : Reader A) → Within P P
same_Within P = record { within = λ p s a n e. e }

tests_within : {A : Type 0} (w : Site) (ts us : List Test) (a : A) (n : ℕ) → (Pass ts → Pass us) → (b : A) (m : ℕ) → tests w ts (got a n) ≡ got b m → tests w us (got a n) ≡ got b m
tests_within w ts us a n f = tests_elim (λ b m. tests w us (got a n) ≡ got b m) w ts a n (λ c. pass w us (got a n) (f c))

found-Within : {A : Type 0} {P Q : Reader A} → Within P Q → Within (found P) (found Q)
found-Within {P = P} {Q} W = record {
  within = λ p s. found_elim P p s (λ c n. found Q p s ≡ got c n) (λ a n i. rw (W.within p s a n i));
}

section_Within : {A : Type 0} {P Q : Reader A} (b : Bool) (d : A) → Within P Q → Within (section_if b d P) (section_if b d Q)
section_Within true d W = found-Within W
section_Within {P = P} {Q} false d W = same_Within (section_if false d P)

chain-Within : {A B : Type 0} {P P' : Reader A} {Q Q' : A → Reader B} → Within P P' → ((a : A) → Within (Q a) (Q' a)) → Within (chain P Q) (chain P' Q')
chain-Within {P = P} {P'} {Q} {Q'} W K = record {
  within = λ p s.
      chain_elim P Q p s (λ c k. chain P' Q' p s ≡ got c k) (λ a n b m i j. rw (W.within p s a n i, (K a).within (p + n) (drop n s) b m j));
}

header-Within : Within (header Strict) (header NinetyFive)
header-Within = record {
  within = λ p s.
      tests_within (section 0 p) (leb 76 (length s) else CUT at 0 ∷ header_rules Strict (take 76 s)) (leb 76 (length s) else CUT at 0 ∷ header_rules NinetyFive (take 76 s))
      (header_fields (take 76 s)) 76 (λ (e, c). (e, header_rules_within (take 76 s) c));
}

info-Within : Within (info Strict) (info NinetyFive)
info-Within = record {
  within = λ p s.
      let l : List ℕ = take (info_size s) s in
      tests_within (section 2 p)
      (leb 4 (length s) else CUT at 0 ∷ leb 0x1C (info_size s) else INFO at 0 ∷ leb (info_size s) (length s) else CUT at 0 ∷ info_rules Strict l)
      (leb 4 (length s) else CUT at 0 ∷ leb 0x1C (info_size s) else INFO at 0 ∷ leb (info_size s) (length s) else CUT at 0 ∷ info_rules NinetyFive l)
      (info_fields p l) (info_size s) (λ (e, (f, (g, c))). (e, (f, (g, info_rules_within l c))));
}

tail-Within : (flags : ℕ) → Within (tail Strict flags) (tail NinetyFive flags)
tail-Within flags =
    let strings =
    string_section flags name_bit
    then string_section flags relative_bit
    then string_section flags workdir_bit
    then string_section flags arguments_bit
    then string_section flags icon_bit
    then found blocks in
    chain-Within (same_Within (section_if (items_there flags) no_place items)) (λ a.
    chain-Within {P = section_if (info_there flags) no_info (info Strict)} {P' = section_if (info_there flags) no_info (info NinetyFive)}
    (section_Within (info_there flags) no_info info-Within) (λ b. same_Within strings))

sections-Within : Within (sections Strict) (sections NinetyFive)
unfolding sections
sections-Within = chain-Within (found-Within header-Within) (λ h. tail-Within h.read.flags)

-- ---- the theorem

pub shortcut_within : (s : List ℕ) (c : Sections) (n : ℕ) → shortcut Strict s ≡ got c n → shortcut NinetyFive s ≡ got c n
unfolding shortcut
shortcut_within s c n e =
    let w = shortcut-Whole Strict s c n e in
    rw (le-leb _ _ w.limit, sections-Within.within 0 s c n w.read, eq-eqb n (length s) w.all)

-- strict accepts it, and so does 95, with the same record, listing, target text, key and store list
pub record SameUnder (s : List ℕ) (r : Record) : Type 0 where
  pub accepted : Accepts NinetyFive s r
  pub listing : listing NinetyFive s ≡ listing Strict s
  pub target : (room : ℕ) → target NinetyFive s room ≡ target Strict s room
  pub key : (room : ℕ) → key NinetyFive s room ≡ key Strict s room
  pub parts : key_in NinetyFive s ≡ key_in Strict s
  pub store : (room : ℕ) → store_list NinetyFive s room ≡ store_list Strict s room

pub strict_within : (s : List ℕ) (r : Record) → Accepts Strict s r → SameUnder s r
unfolding Accepts reading listing target key key_in store_list
strict_within s r e =
    let x = accepted_Read Strict s r (length s) e in
    let y = shortcut_within s x.sections (length s) x.is in
    record {
      accepted = rw (y, x.held);
      listing = rw (y, x.is);
      target = λ room. rw (y, x.is);
      key = λ room. rw (y, x.is);
      parts = rw (y, x.is);
      store = λ room. rw (y, x.is);
    }

-- ---- writing

-- what can be written as strict is written as 95, as the same bytes
pub writable_within : (c : Contents) → writable Strict c ≡ true → writable NinetyFive c ≡ true
writable_within c e =
    let w = all_writable Strict c e in
    let h = header_writable Strict c.header w.header in
    writable_all NinetyFive c (record {
      header = writable_header_lem NinetyFive c.header (record { flags = h.flags; attributes = attributes_within c.header.attributes h.attributes; hotkey = h.hotkey });
      link = w.link;
      bodies = w.bodies;
      short = w.short;
    })

-- ---- path blocks

-- with a record that strict writes the call answers as strict does
pub path_within : (r : Record) (d : List ℕ) (signature : ℕ) (text unicode : List ℕ) (room : ℕ) → Bytes text → Bytes unicode → writable Strict (contents d r) ≡ true
    → path_writing NinetyFive r d signature text unicode room ≡ path_writing Strict r d signature text unicode room
unfolding path_writing
path_within r d signature text unicode room narrow wide can = go (is_path signature) refl (path_text false text) refl (path_text true unicode) refl
  where
    new : Contents
    new = with_path (path_block signature text unicode) (contents d r)

    outcome : Profile → Bool → Bool → Bool → Outcome (List ℕ)
    outcome profile s t u =
        tests no_section
        (placed (length d) r else PLACE at 0
        ∷ s else UNWRITABLE at 0
        ∷ t else UNWRITABLE at 0
        ∷ u else UNWRITABLE at 0
        ∷ writable profile (contents d r) else UNWRITABLE at 0
        ∷ writable profile new else UNWRITABLE at 0
        ∷ leb (length (canonical new)) room else ROOM at 0
        ∷ [])
        (got (canonical new) (length (canonical new)))

    go : (s : Bool) → is_path signature ≡ s → (t : Bool) → path_text false text ≡ t → (u : Bool) → path_text true unicode ≡ u → outcome NinetyFive s t u ≡ outcome Strict s t u
    go true es true et true eu =
        let p : Path signature text unicode = record { sign = es; bytes = (narrow, wide); narrow = et; wide = eu } in
        let could = writable_within (contents d r) can in
        rw (could, can, length_decides NinetyFive r d p could, length_decides Strict r d p can)
    go true es true et false eu = refl
    go true es false et u eu = refl
    go false es t et u eu = refl

-- ---- moves

same_moving : (maps : Bool) (m : Contents) (room : ℕ) → (maps ≡ true → writable NinetyFive m ≡ writable Strict m) → moving NinetyFive maps m room ≡ moving Strict maps m room
unfolding moving
same_moving true m room h = rw (h refl)
same_moving false m room h = refl

same_writable : (m : Contents) → Valid NinetyFive m → Valid Strict m → writable NinetyFive m ≡ writable Strict m
same_writable m v w = Valid-writable NinetyFive m v ∙ sym (Valid-writable Strict m w)

-- both ways
pub record SameMoves (s : List ℕ) : Type 0 where
  pub unicode : (room : ℕ) → to_unicode NinetyFive s room ≡ to_unicode Strict s room
  pub bytes : (room : ℕ) → to_byte_strings NinetyFive s room ≡ to_byte_strings Strict s room

pub moves_within : (s : List ℕ) (r : Record) → Bytes s → Accepts Strict s r → SameMoves s
moves_within s r bs a =
    let b = (strict_within s r a).accepted in
    let c = contents s r in
    let v = accepted_Valid NinetyFive (unicode_Move NinetyFive) s r bs b in
    let w = accepted_Valid Strict (unicode_Move Strict) s r bs a in
    record {
      unicode = λ room.
          to_unicode_is NinetyFive s r b room
          ∙ same_moving (maps_to_unicode c) (in_unicode c) room (λ e. same_writable (in_unicode c) (unicode_Valid NinetyFive c v e) (unicode_Valid Strict c w e))
          ∙ sym (to_unicode_is Strict s r a room);
      bytes = λ room.
          to_bytes_is NinetyFive s r b room
          ∙ same_moving (maps_to_bytes c) (in_bytes c) room (λ e. bytes_writable NinetyFive c v e ∙ sym (bytes_writable Strict c w e))
          ∙ sym (to_bytes_is Strict s r a room);
    }
