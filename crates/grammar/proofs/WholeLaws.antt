-- The whole shortcut: section after section, and the record that they make.
use mathlib.Core.Path.{◌≡◌, refl, sym, ap, subst, ◌∙◌}
use mathlib.Core.List.{List, [], ◌∷◌, ◌++◌, append-nil}
use Prim.Native.Nat.{ℕ, ◌+◌}
use native.Mathlib.Omega.{arith}
use lib.ListN.{length, take}
use lib.Seq.{take_all}
use borrow.Author.Tests.{le-leb, eq-eqb}
use Rattle.octets.specs.Numbers.{Bytes}
use Rattle.format.specs.declared.Profile.{Profile}
use Rattle.format.specs.declared.Place.{Place}
use Rattle.format.specs.declared.Header.{Header}
use Rattle.format.specs.declared.Link.{Link}
use Rattle.format.specs.declared.Record.{Record}
use Rattle.format.specs.Tests.{got, no_place, place}
use Rattle.format.specs.Presence.{items_there, info_there, string_there, strings_unicode}
use Rattle.format.specs.Header.{header}
use Rattle.format.specs.Items.{items}
use Rattle.format.specs.Volume.{label_place}
use Rattle.format.specs.Info.{info, no_info, link_of}
use Rattle.format.specs.Blocks.{blocks}
use Rattle.format.specs.Shortcut.{Section, found, section_if, string_section, Tail, tail, Sections, sections, most, shortcut, sum, record_of, reading}
use Rattle.format.specs.Demands.{Accepts}
use Rattle.format.proofs.AcceptedLaws.{shortcut-Whole, accepted_Read}
use Rattle.grammar.specs.Grammar.{nowhere, Bodies, row_of, is_set, FilePart, AllJoined, PartIf, ItemsIs, NoInfo, InfoIs, BlocksIs, StringIf, layout, IsShortcut}
use Rattle.grammar.proofs.Agree.{Agrees, found-Agrees, there_Agrees, chain-Agrees, last_Agrees}
use Rattle.grammar.proofs.HeaderLaws.{header-Agrees}
use Rattle.grammar.proofs.ItemLaws.{items-Agrees}
use Rattle.grammar.proofs.StringLaws.{string-Agrees}
use Rattle.grammar.proofs.BlocksLaws.{blocks-Agrees}
use Rattle.grammar.proofs.InfoLaws.{Holds, info-Agrees}

-- ---- an absent LinkInfo

no_info_told : (k : Link) (b : Bodies) → Holds k b no_info → NoInfo k b
no_info_told k b h =
    let l = h.link in
    let q = h.places in (
      ap (λ (x : Link). x.flags) (sym l),
      (
        ap (λ (x : Link). x.long) (sym l),
        (
          (ap (λ (x : Link). x.drive) (sym l), (ap (λ (x : Link). x.serial) (sym l), (ap (λ (x : Link). x.label_unicode) (sym l), cc))),
          (
            (ap (λ (x : Link). x.network_flags) (sym l), (ap (λ (x : Link). x.provider) (sym l), (ap (λ (x : Link). x.network_unicode) (sym l), (cc, (cc, (cc, (cc, tt))))))),
            (cc, (cc, (cc, (cc, (sym h.further, tt))))),
          ),
        ),
      ),
    )

no_info_read : (k : Link) (b : Bodies) → NoInfo k b → Holds k b no_info
no_info_read k b (flags, (long, ((drive, (serial, (kind, label))), ((nflags, (provider, (unicode, (net, (device, (net_u, (device_u, y))))))), (local, (suffix, (local_u, (suffix_u, (further, z))))))))) = record {
  link = rw (flags, long, drive, serial, kind, nflags, provider, unicode);
  places = rw (label, local, net, device, net_u, device_u, suffix, local_u, suffix_u);
  further = sym further;
}

-- ---- the sections

module _ (profile : Profile) (h : Header) (k : Link) (b : Bodies) where
  abbrev PlaceHeld : Place → Section Place → Type 0
  PlaceHeld body x = x.read ≡ body

  -- what the record has of the sections after the header
  abbrev TailHeld : Tail → Type 0
  TailHeld c =
      let (items, (info, (name, (relative, (workdir, (arguments, (icon, blocks))))))) = c in
      PlaceHeld b.items items
      × (Holds k b info.read
      × (PlaceHeld b.name name
      × (PlaceHeld b.relative relative
      × (PlaceHeld b.workdir workdir
      × (PlaceHeld b.arguments arguments
      × (PlaceHeld b.icon icon
      × (place blocks.start (sum blocks.read) ≡ b.blocks)))))))

  string_part : (j : ℕ) (body : Place) → Agrees (string_section h.flags j) (λ p. PlaceHeld body) (StringIf h j body)
  string_part j body = there_Agrees (string_there j h.flags) no_place (λ e. sym e) (λ e. sym e) (string-Agrees (j + 1) (strings_unicode h.flags) body)

  items_part : Agrees (section_if (items_there h.flags) no_place items) (λ p. PlaceHeld b.items) (PartIf (is_set 0 h.flags) (ItemsIs b.items) (b.items ≡ nowhere))
  items_part = there_Agrees (items_there h.flags) no_place (λ e. sym e) (λ e. sym e) (items-Agrees b.items)

  info_part : Agrees (section_if (info_there h.flags) no_info (info profile)) (λ p x. Holds k b x.read) (PartIf (is_set 1 h.flags) (InfoIs profile k b) (NoInfo k b))
  info_part = there_Agrees (info_there h.flags) no_info (no_info_told k b) (no_info_read k b) (info-Agrees profile k b)

  blocks_part : Agrees (found blocks) (λ p x. place x.start (sum x.read) ≡ b.blocks) (AllJoined (BlocksIs b.blocks ∷ []))
  blocks_part = last_Agrees (found-Agrees (blocks-Agrees b.blocks))

  abbrev tail_layout : List FilePart
  tail_layout =
      PartIf (is_set 0 h.flags) (ItemsIs b.items) (b.items ≡ nowhere)
      ∷ PartIf (is_set 1 h.flags) (InfoIs profile k b) (NoInfo k b)
      ∷ StringIf h 2 b.name
      ∷ StringIf h 3 b.relative
      ∷ StringIf h 4 b.workdir
      ∷ StringIf h 5 b.arguments
      ∷ StringIf h 6 b.icon
      ∷ BlocksIs b.blocks
      ∷ []

  tail-Agrees : Agrees (tail profile h.flags) (λ p. TailHeld) (AllJoined tail_layout)
  tail-Agrees =
      chain-Agrees items_part (λ a v.
      chain-Agrees info_part (λ a v.
      chain-Agrees (string_part 2 b.name) (λ a v.
      chain-Agrees (string_part 3 b.relative) (λ a v.
      chain-Agrees (string_part 4 b.workdir) (λ a v.
      chain-Agrees (string_part 5 b.arguments) (λ a v.
      chain-Agrees (string_part 6 b.icon) (λ a v. blocks_part)))))))

  -- what it has of them all
  abbrev pub AllHeld : Sections → Type 0
  AllHeld c = (c.0.read ≡ h) × TailHeld c.1

  pub sections_agree : Agrees (sections profile) (λ p. AllHeld) (AllJoined (layout profile h k b))
  unfolding sections
  sections_agree =
      chain-Agrees (found-Agrees (header-Agrees profile h)) (λ a v.
      subst (λ (x : Header). Agrees (tail profile x.flags) (λ p. TailHeld) (AllJoined tail_layout)) (sym v) tail-Agrees)

-- ---- from reading to the grammar

abbrev bodies_of : Sections → Bodies
bodies_of c =
    let (header, (items, (info, (name, (relative, (workdir, (arguments, (icon, blocks)))))))) = c in
    record {
      items = items.read;
      label = label_place info.read.volume.label;
      local = info.read.local;
      net = info.read.network.net;
      device = info.read.network.device;
      net_unicode = info.read.network.net_unicode;
      device_unicode = info.read.network.device_unicode;
      suffix = info.read.suffix;
      local_unicode = info.read.local_unicode;
      suffix_unicode = info.read.suffix_unicode;
      name = name.read;
      relative = relative.read;
      workdir = workdir.read;
      arguments = arguments.read;
      icon = icon.read;
      blocks = place blocks.start (sum blocks.read);
      further = info.read.further;
    }

whole_told : (profile : Profile) (s : List ℕ) (c : Sections) (n : ℕ) → Bytes s → shortcut profile s ≡ got c n → IsShortcut profile s (record_of c)
whole_told profile s c n bs e =
    let w = shortcut-Whole profile s c n e in
    let i = c.1.1.0.read in
    let held : AllHeld profile c.0.read (link_of i) (bodies_of c) c = (refl, (refl, (record { link = refl; places = refl; further = refl }, (refl, (refl, (refl, (refl, (refl, refl)))))))) in
    let t = (sections_agree profile c.0.read (link_of i) (bodies_of c)).told 0 s c n bs w.read held in
    let a : take n s ≡ s = take_all n s (omega (arith, w.all)) in
    record { bodies = bodies_of c; places = refl; short = w.limit; sections = rw a at t.1 }

pub shortcut_told : (profile : Profile) (s : List ℕ) (r : Record) → Bytes s → Accepts profile s r → IsShortcut profile s r
unfolding Accepts
shortcut_told profile s r bs e =
    let x = accepted_Read profile s r (length s) e in
    subst (IsShortcut profile s) x.held (whole_told profile s x.sections (length s) bs x.is)

-- ---- and back

same_record : {h i : Header} {k l : Link} {x y : List Place} → h ≡ i → k ≡ l → x ≡ y
    → ◌≡◌ {A = Record} (record { header = h; link = k; places = x }) (record { header = i; link = l; places = y })
same_record e f g = rw (e, f, g)

record_is : (profile : Profile) (r : Record) (b : Bodies) (c : Sections) → r.places ≡ row_of b → AllHeld profile r.header r.link b c → record_of c ≡ r
record_is profile r b c q (header, (items, (l, (name, (relative, (workdir, (arguments, (icon, blocks)))))))) =
    let (h, (it, (info, (na, (re, (wo, (ar, (ic, bl)))))))) = c in
    let behind : List Place
    = na.read ∷ re.read ∷ wo.read ∷ ar.read ∷ ic.read ∷ place bl.start (sum bl.read) ∷ info.read.further ∷ [] in
    let e : (record_of c).places ≡ row_of b
    = ap (λ (x : List Place). it.read ∷ x ++ behind) l.places ∙ rw (items, name, relative, workdir, arguments, icon, blocks, l.further) in
    same_record header l.link (e ∙ sym q)

pub shortcut_read : (profile : Profile) (s : List ℕ) (r : Record) → Bytes s → IsShortcut profile s r → Accepts profile s r
unfolding Accepts reading shortcut
shortcut_read profile s r bs g =
    let y = (sections_agree profile r.header r.link g.bodies).read 0 s [] bs g.sections in
    let e : sections profile 0 s ≡ got y.value (length s) = rw append-nil at y.is in
    let q : record_of y.value ≡ r = record_is profile r g.bodies y.value g.places y.held in
    rw (le-leb (length s) most g.short, e, eq-eqb (length s) (length s) refl, q)
