-- What the call that puts in a path block promises: it gives up only when it has to, and of what it is given it changes the block alone.
use mathlib.Core.Path.{◌≡◌, refl, sym, ap, ◌∙◌}
use mathlib.Core.List.Memᴰ
use mathlib.Core.List.{List, [], ◌∷◌, ◌++◌, append_assoc, append-nil, Memᴰ}
use mathlib.Core.Logic.{⊎_elim}
use mathlib.Core.Bool.{Bool, true, false, cond}
use Prim.Native.Nat.{ℕ, ◌≤◌}
use native.Mathlib.Omega.{arith}
use lib.ListN.{length}
use lib.Seq.{take-append_seam, drop-append_seam, set-set, get_or-set_other}
use lib.Dec.{leb, eqb}
use borrow.Author.Tests.{leb-true, leb-false, le-leb, eq-eqb}
use Rattle.octets.specs.Numbers.{Bytes}
use Rattle.octets.proofs.NumberLaws.{Bytes-append, Bytes-take, Bytes-drop, Bytes-nil}
use Rattle.format.specs.declared.Profile.{Profile}
use Rattle.format.specs.declared.Record.{Record}
use Rattle.format.specs.declared.Fault.TheVariants.{Place as PLACE, Unwritable as UNWRITABLE, Room as ROOM}
use Rattle.format.specs.Tests.{Outcome, got, refused, Test, ◌else◌at◌, no_section, tests}
use Rattle.format.specs.Presence.{items_there, info_there, name_bit, relative_bit, workdir_bit, arguments_bit, icon_bit}
use Rattle.format.specs.Blocks.{slot_of, slot_at, known, is_among}
use Rattle.format.specs.Shortcut.{most, verdict_of}
use Rattle.format.specs.Bodies.{items_slot, blocks_slot, placed}
use Rattle.format.specs.Contents.{Contents, body_in, info_in, present, contents}
use Rattle.format.specs.Writing.{end_to_end, if_there, header_bytes, items_bytes, info_bytes, string_part, blocks_bytes, canonical, writable_blocks, writable_bodies, writable, output_of}
use Rattle.format.specs.Demands.{Accepts}
use Rattle.format.specs.PathWriting.{is_path, path_text, path_block, blocks_in, signature_of, with_block, with_path, path_writing, path_answer, path_output, blocks_held, other_than, byte_text, unicode_text, ReadsWith, PathEnds, misplaced, unwritable, no_room, written}
use Rattle.format.proofs.Ranges.{FitsRecord}
use Rattle.format.proofs.Bools.{and_no, clash, same_truth, every_out, every_in}
use Rattle.format.proofs.Holds.{all_writable, writable_all}
use Rattle.format.proofs.Chains.{pass, passed, got_elim}
use Rattle.format.proofs.OnceLaws.{none_before, neither}
use Rattle.format.proofs.AnswerLaws.{nowhere}
use Rattle.format.proofs.WholeLaws.{Typed, shortest, writes, refuses, can_Valid, canonical-Bytes}
use Rattle.format.proofs.TypedLaws.{record_Typed}
use Rattle.format.proofs.AcceptedLaws.{accepted_decode, decode_accepted}
use Rattle.format.proofs.Demands.{bodies_inside, unwritable_none}
use Rattle.format.proofs.PathLaws.{Wholes, body_Parted, wholes_in, wholes_writable, with_whole, with_twice, Path, new_signature, new_known, new_Whole, new_text, new_unicode, new_Bytes}

-- ---- the blocks

-- bytes stay bytes
with_Bytes : (b : List ℕ) → Bytes b → (bs : List (List ℕ)) → Bytes (end_to_end bs) → Bytes (end_to_end (with_block b bs))
unfolding with_block
with_Bytes b h [] k = Bytes-append b [] h Bytes-nil
with_Bytes b h (x ∷ xs) k =
    let front : Bytes x = rw (take-append_seam x (end_to_end xs)) at (Bytes-take (length x) (x ++ end_to_end xs) k) in
    let rest : Bytes (end_to_end xs) = rw (drop-append_seam x (end_to_end xs)) at (Bytes-drop (length x) (x ++ end_to_end xs) k) in
    go front rest (with_Bytes b h xs rest) (eqb (signature_of x) (signature_of b))
  where
    go : Bytes x → Bytes (end_to_end xs) → Bytes (end_to_end (with_block b xs)) → (t : Bool) → Bytes (end_to_end (cond t (b ∷ xs) (x ∷ with_block b xs)))
    go f r i true = Bytes-append b (end_to_end xs) h r
    go f r i false = Bytes-append x (end_to_end (with_block b xs)) f i

-- ---- the contents, r over the body buffer d, before and after

module _ (profile : Profile) (r : Record) (d : List ℕ) where
  abbrev old : Contents
  old = contents d r

  abbrev body : List ℕ
  body = body_in old blocks_slot

  -- all sections but the blocks
  abbrev pub front : List ℕ
  front =
      end_to_end
      (header_bytes old.header
      ∷ if_there (items_there old.header.flags) items_bytes (body_in old items_slot)
      ∷ if_there (info_there old.header.flags) info_bytes (info_in old)
      ∷ string_part old name_bit
      ∷ string_part old relative_bit
      ∷ string_part old workdir_bit
      ∷ string_part old arguments_bit
      ∷ string_part old icon_bit
      ∷ [])

  pub before_blocks : canonical old ≡ front ++ blocks_bytes body
  unfolding canonical
  before_blocks = simp (append_assoc, append-nil)

  pub body-writable : writable profile old ≡ true → writable_blocks body ≡ true
  body-writable e =
      let (items, (label, (local, (net, (device, (net_unicode, (device_unicode, (suffix, (local_unicode, (suffix_unicode, strings)))))))))) = every_out (writable_bodies old) (all_writable profile old e).bodies in
      let (name, (relative, (workdir, (arguments, (icon, (blocks, y)))))) = strings in
      blocks

  module _ (b : List ℕ) where
    abbrev pub changed : List ℕ
    changed = end_to_end (with_block b (blocks_in body))

    abbrev new : Contents
    new = with_path b old

    -- every section but the blocks is byte for byte what is written of the record as it was
    pub after_blocks : canonical new ≡ front ++ blocks_bytes changed
    unfolding canonical with_path contents present
    after_blocks = simp (append_assoc, append-nil)

    -- every other field and body is the same
    pub others_stay : (k : ℕ) → (k ≡ blocks_slot → ⊥) → body_in new k ≡ body_in old k
    unfolding with_path
    others_stay k h = get_or-set_other old.bodies blocks_slot k changed [] h

    pub fields_stay : (new.header ≡ old.header) × (new.link ≡ old.link)
    unfolding with_path
    fields_stay = (refl, refl)

    pub blocks_change : body_in new blocks_slot ≡ changed
    unfolding with_path contents present
    blocks_change = refl

    new-Typed : Typed old → Bytes changed → Typed new
    unfolding with_path contents present
    new-Typed t h =
        let (items, (label, (local, (net, (device, (net_unicode, (device_unicode, (suffix, (local_unicode, (suffix_unicode, strings)))))))))) = t.bodies in
        let (name, (relative, (workdir, (arguments, (icon, (blocks, y)))))) = strings in
        record {
          header = t.header;
          fits = t.fits;
          zeros = t.zeros;
          row = refl;
          bodies = (items, (label, (local, (net, (device, (net_unicode, (device_unicode, (suffix, (local_unicode, (suffix_unicode, (name, (relative, (workdir, (arguments, (icon, (h, y))))))))))))))));
        }

    -- what can be written stays so, but for the length
    new-writable : writable profile old ≡ true → writable_blocks changed ≡ true → leb (length (canonical new)) most ≡ true → writable profile new ≡ true
    unfolding with_path contents present
    new-writable e h short =
        let can = all_writable profile old e in
        let (items, (label, (local, (net, (device, (net_unicode, (device_unicode, (suffix, (local_unicode, (suffix_unicode, strings)))))))))) = every_out (writable_bodies old) can.bodies in
        let (name, (relative, (workdir, (arguments, (icon, (blocks, y)))))) = strings in
        writable_all profile new (record {
          header = can.header;
          link = can.link;
          bodies = every_in (writable_bodies new) (items, (label, (local, (net, (device, (net_unicode, (device_unicode, (suffix, (local_unicode, (suffix_unicode, (name, (relative, (workdir, (arguments, (icon, (h, y))))))))))))))));
          short = short;
        })

  -- a block that the call may put in
  module _ {signature : ℕ} {text unicode : List ℕ} (p : Path signature text unicode) where
    abbrev b : List ℕ
    b = path_block signature text unicode

    abbrev after : Contents
    after = with_path b old

    pub Wholes-after : writable profile old ≡ true → Wholes [] (with_block b (blocks_in body))
    Wholes-after e = with_whole b (new_Whole p) (new_known p) (blocks_in body) [] (body_Parted body (body-writable e)).wholes (rw (and_no (known (slot_at b))))

    -- after the tests before it, the length alone decides whether the changed record can be written
    pub length_decides : writable profile old ≡ true → writable profile after ≡ leb (length (canonical after)) most
    length_decides e =
        same_truth (writable profile after) (leb (length (canonical after)) most)
        (λ w. (all_writable profile after w).short)
        (new-writable b e (wholes_writable (with_block b (blocks_in body)) (Wholes-after e)))

    pub held_blocks : writable profile old ≡ true → blocks_in (body_in after blocks_slot) ≡ with_block b (blocks_in body)
    held_blocks e = ap blocks_in (blocks_change b) ∙ wholes_in (with_block b (blocks_in body)) (Wholes-after e)

    -- put in twice is put in once
    pub after_again : writable profile old ≡ true → with_path b after ≡ after
    unfolding with_path
    after_again e =
        rw (held_blocks e, with_twice b (blocks_in body), set-set old.bodies blocks_slot (changed b) (changed b))

    module _ (fits : FitsRecord r) (bytes : Bytes d) where
      after_Typed : writable profile old ≡ true → Typed after
      after_Typed e =
          let x : Bytes body = (record_Typed d bytes r fits).bodies.1.1.1.1.1.1.1.1.1.1.1.1.1.1.1.0 in
          let parted = body_Parted body (body-writable e) in
          new-Typed b (record_Typed d bytes r fits) (with_Bytes b (new_Bytes p) (blocks_in body) (rw parted.joined x))

      -- what is written reads as the record with the block
      pub reads_with : writable profile old ≡ true → writable profile after ≡ true → ReadsWith profile (canonical after) r d signature text unicode
      unfolding Accepts
      reads_with e f =
          let t = after_Typed e in
          let g = decode_accepted profile (canonical after) after (length (canonical after)) (writes profile after t f) in
          record { bytes = canonical-Bytes profile after (can_Valid profile after t f).0; held = g.held; accepted = g.is; same = g.same }

    none_shorter : (s : List ℕ) → ReadsWith profile s r d signature text unicode → length (canonical after) ≤ length s
    unfolding Accepts
    none_shorter s x =
        let e = accepted_decode profile s x.held (length s) x.accepted in
        rw x.same at (shortest profile s (contents s x.held) (length s) x.bytes e).short

    -- one that reads as the changed record shows that it can be written
    read_writable : (s : List ℕ) → ReadsWith profile s r d signature text unicode → writable profile after ≡ false → ⊥
    unfolding Accepts
    read_writable s x e =
        let i = accepted_decode profile s x.held (length s) x.accepted in
        refuses profile after e s (length s) x.bytes (rw x.same at i)

-- ---- the call

module _ (profile : Profile) (r : Record) (d : List ℕ) (signature : ℕ) (text unicode : List ℕ) (fits : FitsRecord r) (bytes : Bytes d) (narrow : Bytes text) (wide : Bytes unicode) where
  abbrev made : Contents
  made = with_path (path_block signature text unicode) (contents d r)

  abbrev w : List ℕ
  w = canonical made

  path : is_path signature ≡ true → path_text false text ≡ true → path_text true unicode ≡ true → Path signature text unicode
  path s t u = record { sign = s; bytes = (narrow, wide); narrow = t; wide = u }

  -- it ends as the demand on writing says, whatever the room
  pub path_ends : (out : List ℕ) → PathEnds profile r d signature text unicode out (path_answer profile r d signature text unicode out) (path_output profile r d signature text unicode out)
  unfolding path_writing path_answer path_output output_of
  path_ends out =
      go (placed (length d) r) refl (is_path signature) refl (path_text false text) refl (path_text true unicode) refl (writable profile (contents d r)) refl (writable profile made) refl (leb (length w) (length out)) refl
    where
      no : Outcome (List ℕ)
      no = refused UNWRITABLE nowhere

      outcome : Bool → Bool → Bool → Bool → Bool → Bool → Bool → Outcome (List ℕ)
      outcome a s t u e f g = cond a (cond s (cond t (cond u (cond e (cond f (cond g (got w (length w)) (refused ROOM nowhere)) no) no) no) no) no) (refused PLACE nowhere)

      go : (a : Bool) → placed (length d) r ≡ a → (s : Bool) → is_path signature ≡ s → (t : Bool) → path_text false text ≡ t → (u : Bool) → path_text true unicode ≡ u
          → (e : Bool) → writable profile (contents d r) ≡ e → (f : Bool) → writable profile made ≡ f → (g : Bool) → leb (length w) (length out) ≡ g
          → PathEnds profile r d signature text unicode out (verdict_of (outcome a s t u e f g)) (output_of (outcome a s t u e f g) out)
      go false ea s es t et u eu e ee f ef g eg = misplaced ea
      go true ea false es t et u eu e ee f ef g eg = unwritable ea (λ s t u x i y j. clash s es)
      go true ea true es false et u eu e ee f ef g eg = unwritable ea (λ s t u x i y j. clash t et)
      go true ea true es true et false eu e ee f ef g eg = unwritable ea (λ s t u x i y j. clash u eu)
      go true ea true es true et true eu false ee f ef g eg = unwritable ea (λ s t u x i y j. unwritable_none profile r d ee x i)
      go true ea true es true et true eu true ee false ef g eg = unwritable ea (λ s t u x i y j. read_writable profile r d (path es et eu) y j ef)
      go true ea true es true et true eu true ee true ef false eg =
          no_room w ea (reads_with profile r d (path es et eu) fits bytes ee ef)
          (λ s x. let k = none_shorter profile r d (path es et eu) s x in omega (arith, leb-false (length w) (length out) eg))
      go true ea true es true et true eu true ee true ef true eg =
          written w ea (reads_with profile r d (path es et eu) fits bytes ee ef) (leb-true (length w) (length out) eg) (none_shorter profile r d (path es et eu))

-- its tests, over the contents before and after
module _ (profile : Profile) (r : Record) (d : List ℕ) (signature : ℕ) (text unicode : List ℕ) (room : ℕ) (before after : Contents) where
  abbrev call_tests : List Test
  call_tests =
      placed (length d) r else PLACE at 0
      ∷ is_path signature else UNWRITABLE at 0
      ∷ path_text false text else UNWRITABLE at 0
      ∷ path_text true unicode else UNWRITABLE at 0
      ∷ writable profile before else UNWRITABLE at 0
      ∷ writable profile after else UNWRITABLE at 0
      ∷ leb (length (canonical after)) room else ROOM at 0
      ∷ []

  abbrev outcome : Outcome (List ℕ)
  outcome = tests no_section call_tests (got (canonical after) (length (canonical after)))

-- ---- what is written, in the words of the request

-- w is what was written of the record r over the body buffer d
pub record PathMade (profile : Profile) (r : Record) (d : List ℕ) (signature : ℕ) (text unicode w : List ℕ) : Type 0 where
  -- it is accepted
  pub held : Record
  pub accepted : Accepts profile w held
  -- it has a block of that signature, no other, and this has the texts up to their zeros
  pub block : List ℕ
  pub there : Memᴰ block (blocks_held w held)
  pub sign : signature_of block ≡ signature
  pub only : (x : List ℕ) → Memᴰ x (blocks_held w held) → signature_of x ≡ signature → x ≡ block
  pub bytes : byte_text block ≡ text
  pub units : unicode_text block ≡ unicode
  -- the other blocks have the bytes and the order that they had
  pub others : other_than signature (blocks_held w held) ≡ other_than signature (blocks_held d r)
  -- every other field and body of the record is the same
  pub header : (contents w held).header ≡ (contents d r).header
  pub link : (contents w held).link ≡ (contents d r).link
  pub bodies : (k : ℕ) → (k ≡ blocks_slot → ⊥) → body_in (contents w held) k ≡ body_in (contents d r) k
  -- what is written of the old record is some bytes and its blocks section, and this is the same bytes and another blocks section
  pub sections : List ℕ
  pub was : canonical (contents d r) ≡ sections ++ blocks_bytes (body_in (contents d r) blocks_slot)
  pub is : w ≡ sections ++ blocks_bytes (body_in (contents w held) blocks_slot)
  -- doing it again changes nothing
  pub again : (room : ℕ) → length w ≤ room → path_writing profile held w signature text unicode room ≡ got w (length w)

-- the block is among the blocks
put_there : (b : List ℕ) (bs : List (List ℕ)) → Memᴰ b (with_block b bs)
unfolding with_block
put_there b [] = Memᴰ.head refl
put_there b (x ∷ xs) = go (put_there b xs) (eqb (signature_of x) (signature_of b))
  where
    go : Memᴰ b (with_block b xs) → (t : Bool) → Memᴰ b (cond t (b ∷ xs) (x ∷ with_block b xs))
    go i true = Memᴰ.head refl
    go i false = Memᴰ.tail i

-- a known signature stands once, so none of the blocks before has it
fresh : (ws : List (List ℕ)) (before : List ℕ) → Wholes before ws → (x : List ℕ) → Memᴰ x ws → known (slot_at x) ≡ true → is_among (slot_at x) before ≡ false
fresh [] before w x i kn = absurd (Memᴰ.not-nil i)
fresh (y ∷ ys) before w x i kn =
    ⊎_elim
    (λ q. none_before (known (slot_at x)) (is_among (slot_at x) before) kn (rw q w.1.0))
    (λ j. (neither (eqb (slot_at x) (slot_at y)) (is_among (slot_at x) before) (fresh ys (slot_at y ∷ before) w.1.1 x j kn)).1)
    (Memᴰ.cases_cons i)

-- the first of some blocks and a later one are of two signatures
apart : (y : List ℕ) (ys : List (List ℕ)) (before : List ℕ) → Wholes before (y ∷ ys) → (x : List ℕ) → Memᴰ x ys → known (slot_at x) ≡ true → signature_of x ≡ signature_of y → ⊥
apart y ys before w x i kn q =
    clash (eq-eqb (slot_at x) (slot_at y) (ap slot_of q)) (neither (eqb (slot_at x) (slot_at y)) (is_among (slot_at x) before) (fresh ys (slot_at y ∷ before) w.1.1 x i kn)).0

-- two of one known signature are one
one_of_each : (ws : List (List ℕ)) (before : List ℕ) → Wholes before ws → (x b : List ℕ) → Memᴰ x ws → Memᴰ b ws → known (slot_at b) ≡ true → signature_of x ≡ signature_of b → x ≡ b
one_of_each [] before w x b i j kn q = absurd (Memᴰ.not-nil i)
one_of_each (y ∷ ys) before w x b i j kn q =
    ⊎_elim
    (λ e.
    ⊎_elim
    (λ f. e ∙ sym f)
    (λ f. absurd (apart y ys before w b f kn (sym q ∙ ap signature_of e)))
    (Memᴰ.cases_cons j))
    (λ e.
    ⊎_elim
    (λ f. absurd (apart y ys before w x e (rw q kn) (q ∙ ap signature_of f)))
    (λ f. one_of_each ys (slot_at y ∷ before) w.1.1 x b e f kn q)
    (Memᴰ.cases_cons j))
    (Memᴰ.cases_cons i)

others_same : (b : List ℕ) (bs : List (List ℕ)) → other_than (signature_of b) (with_block b bs) ≡ other_than (signature_of b) bs
unfolding with_block
others_same b [] = rw (eq-eqb (signature_of b) (signature_of b) refl)
others_same b (x ∷ xs) = go (others_same b xs) (eqb (signature_of x) (signature_of b)) refl
  where
    go : other_than (signature_of b) (with_block b xs) ≡ other_than (signature_of b) xs → (t : Bool) → eqb (signature_of x) (signature_of b) ≡ t
        → other_than (signature_of b) (cond t (b ∷ xs) (x ∷ with_block b xs)) ≡ cond t (other_than (signature_of b) xs) (x ∷ other_than (signature_of b) xs)
    go f true e = rw (eq-eqb (signature_of b) (signature_of b) refl)
    go f false e = rw (e, f)

module _ (profile : Profile) (r : Record) (d : List ℕ) {signature : ℕ} {text unicode : List ℕ} (p : Path signature text unicode) (fits : FitsRecord r) (bytes : Bytes d)
    (can : writable profile (contents d r) ≡ true) (could : writable profile (with_path (path_block signature text unicode) (contents d r)) ≡ true) where
  abbrev b₀ : List ℕ
  b₀ = path_block signature text unicode

  abbrev c₀ : Contents
  c₀ = with_path b₀ (contents d r)

  reads : ReadsWith profile (canonical c₀) r d signature text unicode
  reads = reads_with profile r d p fits bytes can could

  abbrev q₀ : Record
  q₀ = reads.held

  its_blocks : blocks_held (canonical c₀) q₀ ≡ with_block b₀ (blocks_held d r)
  its_blocks = ap (λ (c : Contents). blocks_in (body_in c blocks_slot)) reads.same ∙ held_blocks profile r d p can

  its_again : (room : ℕ) → length (canonical c₀) ≤ room → path_writing profile q₀ (canonical c₀) signature text unicode room ≡ got (canonical c₀) (length (canonical c₀))
  unfolding path_writing
  its_again room h =
      let w : List ℕ = canonical c₀ in
      ap (λ (c : Contents). outcome profile q₀ w signature text unicode room c (with_path b₀ c)) reads.same
      ∙ ap (λ (e : Contents). outcome profile q₀ w signature text unicode room c₀ e) (after_again profile r d p can)
      ∙ pass no_section (call_tests profile q₀ w signature text unicode room c₀ c₀) (got w (length w))
      (bodies_inside profile w q₀ reads.accepted, (p.sign, (p.narrow, (p.wide, (could, (could, (le-leb (length w) room h, tt)))))))

  is_made : PathMade profile r d signature text unicode (canonical c₀)
  is_made = record {
    held = q₀;
    accepted = reads.accepted;
    block = b₀;
    there = rw its_blocks (put_there b₀ (blocks_held d r));
    sign = new_signature p;
    only = λ x i e. one_of_each (with_block b₀ (blocks_held d r)) [] (Wholes-after profile r d p can) x b₀ (rw its_blocks at i) (put_there b₀ (blocks_held d r)) (new_known p) (e ∙ sym (new_signature p));
    bytes = new_text p;
    units = new_unicode p;
    others = ap (other_than signature) its_blocks ∙ rw (new_signature p) at (others_same b₀ (blocks_held d r));
    header = ap (λ (c : Contents). c.header) reads.same ∙ (fields_stay profile r d b₀).0;
    link = ap (λ (c : Contents). c.link) reads.same ∙ (fields_stay profile r d b₀).1;
    bodies = λ k h. ap (λ (c : Contents). body_in c k) reads.same ∙ others_stay profile r d b₀ k h;
    sections = front profile r d;
    was = before_blocks profile r d;
    is = after_blocks profile r d b₀ ∙ ap (λ (x : List ℕ). front profile r d ++ blocks_bytes x) (sym (ap (λ (c : Contents). body_in c blocks_slot) reads.same ∙ blocks_change profile r d b₀));
    again = its_again;
  }

-- whenever the call writes something
pub path_made : (profile : Profile) (r : Record) (d : List ℕ) (signature : ℕ) (text unicode : List ℕ) (room : ℕ) (w : List ℕ) (n : ℕ) → FitsRecord r → Bytes d → Bytes text → Bytes unicode
    → path_writing profile r d signature text unicode room ≡ got w n → PathMade profile r d signature text unicode w × (n ≡ length w)
unfolding path_writing
path_made profile r d signature text unicode room w n fits bytes narrow wide e =
    let c : Contents = with_path (path_block signature text unicode) (contents d r) in
    let (h, i) = passed no_section (call_tests profile r d signature text unicode room (contents d r) c) (got (canonical c) (length (canonical c))) e in
    let (inside, (s, (t, (u, (can, (could, rest)))))) = h in
    let p : Path signature text unicode = record { sign = s; bytes = (narrow, wide); narrow = t; wide = u } in
    got_elim (λ w n. PathMade profile r d signature text unicode w × (n ≡ length w)) i (is_made profile r d p fits bytes can could, refl)
