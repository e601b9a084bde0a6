-- What a move promises, proved of the definitions: the result is accepted, what is not named stays, target text and key follow, and there and back the record is the same.
use mathlib.Core.Path.{◌≡◌, refl, sym, ap, subst, ◌∙◌}
use mathlib.Core.List.{List, [], ◌∷◌}
use mathlib.Core.Bool.{Bool, true, false, cond}
use Prim.Native.Nat.{ℕ, ◌+◌, ◌≤◌}
use native.Mathlib.Omega.{arith}
use lib.ListN.{length, take, drop, get_or}
use lib.Seq.{take-append_seam}
use lib.Dec.{leb}
use borrow.Author.Tests.{leb-true, le-leb}
use Rattle.octets.specs.Numbers.{Bytes}
use Rattle.octets.specs.Parts.{put}
use Rattle.format.specs.declared.Profile.{Profile}
use Rattle.format.specs.declared.Link.{Link}
use Rattle.format.specs.declared.Record.{Record}
use Rattle.format.specs.declared.Fault.TheVariants.{Unwritable as UNWRITABLE, Room as ROOM, NoTarget as NOTARGET, NoMap as NOMAP}
use Rattle.format.specs.Tests.{Outcome, got, refused, ◌else◌at◌, no_section, tests}
use Rattle.format.specs.Presence.{info_there, workdir_bit, arguments_bit, string_there, strings_unicode}
use Rattle.format.specs.Shortcut.{most, record_of, verdict_of}
use Rattle.format.specs.Bodies.{local_slot, net_slot, suffix_slot, local_unicode_slot, string_slot}
use Rattle.format.specs.Contents.{Contents, body_in, info_in, present, bodies_of, contents, Same}
use Rattle.format.specs.Writing.{canonical, writable, output_of}
use Rattle.format.specs.Target.{targeted, target}
use Rattle.format.specs.Key.{Part, part_if, key_in}
use Rattle.format.specs.Demands.{Accepts, ReadsAs}
use Rattle.format.specs.Codepage.{to_units, to_bytes}
use Rattle.format.specs.Moving.{bodies_from, flags_of, maps_to_unicode, maps_to_bytes, in_unicode, in_bytes, moving, to_unicode, to_byte_strings, to_unicode_answer, to_unicode_output, to_bytes_answer, to_bytes_output, Stays, translated_part, KeyMoved, Moved, MovesToUnicode, MovesToBytes}
use Rattle.format.proofs.AnswerLaws.{nowhere}
use Rattle.format.proofs.WholeLaws.{Valid, shortest, read_back, canonical-Bytes}
use Rattle.format.proofs.AcceptedLaws.{accepted_Read, accepted_present, accepted_decode, decode_accepted}
use Rattle.format.proofs.KeyRoom.{whole_text, key_from, environment_of, made}
use Rattle.format.proofs.KeySame.{same_environment}
use Rattle.format.proofs.MoveLaws.{SameBits, set_bits, set_unicode, clear_bits, clear_unicode, bit_clear, bit_set, maps_unicode, unicode_Valid, maps_bytes, bytes_Valid, can_further, Valid-writable, there_and_back, maps_home}
use Rattle.std.specs.Prelude.{Ok}

-- ---- target text and key by the contents

abbrev target_from : Contents → ℕ → Outcome (List ℕ)
target_from c room =
    let w = whole_text (info_in c) in
    tests no_section (targeted (flags_of c) c.link.flags else NOTARGET at 0 ∷ leb (length w) room else ROOM at 0 ∷ []) (got w (length w))

target_from_lem : (profile : Profile) (s : List ℕ) (r : Record) → Accepts profile s r → (room : ℕ) → target profile s room ≡ target_from (contents s r) room
unfolding Accepts target contents
target_from_lem profile s r a room =
    let x = accepted_Read profile s r (length s) a in
    let c : bodies_of s (record_of x.sections) ≡ contents s r = ap (bodies_of s) (x.held ∙ sym (accepted_present profile s r (length s) a)) in
    rw x.is (ap (λ (c : Contents). target_from c room) c)

part_moved : (b : Bool) (translate : List ℕ → List ℕ) (x : List ℕ) → part_if b (translate x) ≡ translated_part translate (part_if b x)
part_moved true translate x = refl
part_moved false translate x = refl

-- m has the contents c moved: its flags, and what became of arguments and working directory
module _ (c m : Contents) (translate : List ℕ → List ℕ) (bits : SameBits (flags_of m) (flags_of c)) (stays : Stays c m)
    (arguments : body_in m (string_slot arguments_bit) ≡ translate (body_in c (string_slot arguments_bit)))
    (workdir : body_in m (string_slot workdir_bit) ≡ translate (body_in c (string_slot workdir_bit))) where
  flags : m.link.flags ≡ c.link.flags
  flags = ap (λ (l : Link). l.flags) stays.link

  stayed : (k : ℕ) → get_or (bodies_from 0 local_unicode_slot m) k [] ≡ get_or (bodies_from 0 local_unicode_slot c) k []
  stayed k = ap (λ (l : List (List ℕ)). get_or l k []) stays.bodies

  target_moved : (room : ℕ) → target_from m room ≡ target_from c room
  target_moved room = rw (bits.no_target, bits.info, flags, stayed local_slot, stayed net_slot, stayed suffix_slot)

  key_moved : (e : Part) → KeyMoved (strings_unicode (flags_of m)) translate (key_from c e) (key_from m e)
  key_moved e = record {
    unicode = refl;
    target = rw (bits.no_target, bits.info, flags, stayed local_slot, stayed net_slot, stayed suffix_slot);
    arguments = rw (bits.arguments, arguments) (part_moved (string_there arguments_bit (flags_of c)) translate (body_in c (string_slot arguments_bit)));
    workdir = rw (bits.workdir, workdir) (part_moved (string_there workdir_bit (flags_of c)) translate (body_in c (string_slot workdir_bit)));
    environment = refl;
  }

-- ---- a call that has moved

-- how a move can end
pub data Ended (profile : Profile) (maps : Bool) (m : Contents) (room : ℕ) : Outcome (List ℕ) → Type 0 where
  no_map : maps ≡ false → Ended profile maps m room (refused NOMAP nowhere)
  unwritable : maps ≡ true → writable profile m ≡ false → Ended profile maps m room (refused UNWRITABLE nowhere)
  no_room : maps ≡ true → writable profile m ≡ true → leb (length (canonical m)) room ≡ false → Ended profile maps m room (refused ROOM nowhere)
  moved : maps ≡ true → writable profile m ≡ true → leb (length (canonical m)) room ≡ true → Ended profile maps m room (got (canonical m) (length (canonical m)))

pub ends : (profile : Profile) (maps : Bool) (m : Contents) (room : ℕ) → Ended profile maps m room (moving profile maps m room)
unfolding moving
ends profile maps m room = go maps refl (writable profile m) refl (leb (length (canonical m)) room) refl
  where
    go : (a : Bool) → maps ≡ a → (b : Bool) → writable profile m ≡ b → (d : Bool) → leb (length (canonical m)) room ≡ d
        → Ended profile maps m room (cond a (cond b (cond d (got (canonical m) (length (canonical m))) (refused ROOM nowhere)) (refused UNWRITABLE nowhere)) (refused NOMAP nowhere))
    go true p true q true e = moved p q e
    go true p true q false e = no_room p q e
    go true p false q d e = unwritable p q
    go false p b q d e = no_map p

-- the two moves have this in common
pub record Move (profile : Profile) (move : Contents → Contents) (maps : Contents → Bool) (set : Bool) (translate : List ℕ → List ℕ) : Type 0 where
  pub valid : (c : Contents) → Valid profile c → maps c ≡ true → writable profile (move c) ≡ true → Valid profile (move c)
  pub bits : (c : Contents) → maps c ≡ true → SameBits (flags_of (move c)) (flags_of c)
  pub unicode : (c : Contents) → maps c ≡ true → strings_unicode (flags_of (move c)) ≡ set
  pub stays : (c : Contents) → Stays c (move c)
  pub arguments : (c : Contents) → body_in (move c) (string_slot arguments_bit) ≡ translate (body_in c (string_slot arguments_bit))
  pub workdir : (c : Contents) → body_in (move c) (string_slot workdir_bit) ≡ translate (body_in c (string_slot workdir_bit))

pub unicode_Move : (profile : Profile) → Move profile in_unicode maps_to_unicode true to_units
unfolding in_unicode
unicode_Move profile = record {
  valid = λ c v e w. unicode_Valid profile c v e;
  bits = λ c e. set_bits (flags_of c) (bit_clear (flags_of c) (maps_unicode c e).clear);
  unicode = λ c e. set_unicode (flags_of c) (bit_clear (flags_of c) (maps_unicode c e).clear);
  stays = λ c. record { header = refl; link = refl; bodies = refl; blocks = refl; further = refl };
  arguments = λ c. refl;
  workdir = λ c. refl;
}

pub bytes_Move : (profile : Profile) → Move profile in_bytes maps_to_bytes false to_bytes
unfolding in_bytes
bytes_Move profile = record {
  valid = λ c v e w. bytes_Valid profile c v e (can_further profile c v e w);
  bits = λ c e. clear_bits (flags_of c) (bit_set (flags_of c) (maps_bytes c e).set);
  unicode = λ c e. clear_unicode (flags_of c) (bit_set (flags_of c) (maps_bytes c e).set);
  stays = λ c. record { header = refl; link = refl; bodies = refl; blocks = refl; further = refl };
  arguments = λ c. refl;
  workdir = λ c. refl;
}

module _ (profile : Profile) {move : Contents → Contents} {maps : Contents → Bool} {set : Bool} {translate : List ℕ → List ℕ} (M : Move profile move maps set translate)
    (s : List ℕ) (r : Record) (bs : Bytes s) (a : Accepts profile s r) where
  abbrev c : Contents
  c = contents s r

  pub accepted_Valid : Valid profile c
  unfolding Accepts
  accepted_Valid = (shortest profile s c (length s) bs (accepted_decode profile s r (length s) a)).valid

  -- what is written is accepted, and all that was promised of it
  pub has_Moved : (out : List ℕ) → maps c ≡ true → writable profile (move c) ≡ true → Moved profile move set translate s r out (length (canonical (move c))) (put out 0 (canonical (move c)))
  unfolding Accepts
  has_Moved out e w =
      let m = move c in
      let v = M.valid c accepted_Valid e w in
      let few : leb (length (canonical m)) most ≡ true = sym (Valid-writable profile m v) ∙ w in
      let f = decode_accepted profile (canonical m) m (length (canonical m)) (read_back profile m v (leb-true (length (canonical m)) most few)) in
      let stays : Stays c (contents (canonical m) f.held) = rw f.same (M.stays c) in
      let x = made profile s r a in
      let y = made profile (canonical m) f.held f.is in
      let e₁ : environment_of (canonical m) y.start y.lengths ≡ environment_of s x.start x.lengths = same_environment profile y x stays.blocks in
      let k : key_in profile (canonical m) ≡ key_from m (environment_of s x.start x.lengths)
      = y.is ∙ ap (λ (c : Contents). key_from c (environment_of (canonical m) y.start y.lengths)) f.same ∙ ap (key_from m) e₁ in
      let changed = key_moved c m translate (M.bits c e) (M.stays c) (M.arguments c) (M.workdir c) (environment_of s x.start x.lengths) in
      record {
        form = canonical m;
        bytes = canonical-Bytes profile m v;
        long = refl;
        output = refl;
        held = f.held;
        accepted = f.is;
        is = f.same;
        stays = stays;
        target = λ room.
            target_from_lem profile (canonical m) f.held f.is room
            ∙ ap (λ (c : Contents). target_from c room) f.same
            ∙ target_moved c m translate (M.bits c e) (M.stays c) (M.arguments c) (M.workdir c) room
            ∙ sym (target_from_lem profile s r a room);
        key = rw (k, x.is, ← M.unicode c e) changed;
      }

  -- so it is of every call that answers with a length
  moves : (out : List ℕ) (n : ℕ) {o : Outcome (List ℕ)} → Ended profile (maps c) (move c) (length out) o → verdict_of o ≡ Ok n → Moved profile move set translate s r out n (output_of o out)
  unfolding output_of
  moves out n (no_map p) e = absurd (let z : ◌≡◌ {A = ℕ} 0 1 = cc in omega arith)
  moves out n (unwritable p q) e = absurd (let z : ◌≡◌ {A = ℕ} 0 1 = cc in omega arith)
  moves out n (no_room p q d) e = absurd (let z : ◌≡◌ {A = ℕ} 0 1 = cc in omega arith)
  moves out n (moved p q d) e =
      let l : length (canonical (move c)) ≡ n = cc in
      subst (λ (k : ℕ). Moved profile move set translate s r out k (put out 0 (canonical (move c)))) l (has_Moved out p q)

-- ---- the two calls

pub to_unicode_is : (profile : Profile) (s : List ℕ) (r : Record) → Accepts profile s r → (room : ℕ) → to_unicode profile s room ≡ moving profile (maps_to_unicode (contents s r)) (in_unicode (contents s r)) room
unfolding Accepts to_unicode
to_unicode_is profile s r a room =
    let x = accepted_Read profile s r (length s) a in
    rw x.is (ap (λ (q : Record). moving profile (maps_to_unicode (contents s q)) (in_unicode (contents s q)) room) x.held)

pub to_bytes_is : (profile : Profile) (s : List ℕ) (r : Record) → Accepts profile s r → (room : ℕ) → to_byte_strings profile s room ≡ moving profile (maps_to_bytes (contents s r)) (in_bytes (contents s r)) room
unfolding Accepts to_byte_strings
to_bytes_is profile s r a room =
    let x = accepted_Read profile s r (length s) a in
    rw x.is (ap (λ (q : Record). moving profile (maps_to_bytes (contents s q)) (in_bytes (contents s q)) room) x.held)

pub moves_to_unicode : (profile : Profile) (s : List ℕ) → Bytes s → (out : List ℕ) → MovesToUnicode profile s out (to_unicode_answer profile s out) (to_unicode_output profile s out)
unfolding to_unicode_answer to_unicode_output
moves_to_unicode profile s bs out r n a e =
    let c = contents s r in
    let i = to_unicode_is profile s r a (length out) in
    rw i (moves profile (unicode_Move profile) s r bs a out n (ends profile (maps_to_unicode c) (in_unicode c) (length out)) (rw i at e))

pub moves_to_bytes : (profile : Profile) (s : List ℕ) → Bytes s → (out : List ℕ) → MovesToBytes profile s out (to_bytes_answer profile s out) (to_bytes_output profile s out)
unfolding to_bytes_answer to_bytes_output
moves_to_bytes profile s bs out r n a e =
    let c = contents s r in
    let i = to_bytes_is profile s r a (length out) in
    rw i (moves profile (bytes_Move profile) s r bs a out n (ends profile (maps_to_bytes c) (in_bytes c) (length out)) (rw i at e))

-- ---- there and back

-- what a call answered that has moved
maps_then : (profile : Profile) {maps : Bool} {m : Contents} {room n : ℕ} {o : Outcome (List ℕ)} → Ended profile maps m room o → verdict_of o ≡ Ok n → maps ≡ true
maps_then profile (no_map p) e = absurd (let z : ◌≡◌ {A = ℕ} 0 1 = cc in omega arith)
maps_then profile (unwritable p q) e = p
maps_then profile (no_room p q d) e = p
maps_then profile (moved p q d) e = p

-- the first bytes of a buffer after a put at its start
front : (out w : List ℕ) {n : ℕ} {x : List ℕ} → n ≡ length w → x ≡ put out 0 w → take n x ≡ w
unfolding put
front out w e f = rw (e, f) (take-append_seam w (drop (0 + length w) out))

head_kept : (s : List ℕ) (r : Record) → (info_there r.header.flags ≡ true → r.link.long ≡ false) → info_there (flags_of (contents s r)) ≡ true → (contents s r).link.long ≡ false
unfolding contents present
head_kept s r short e = rw e (short e)

-- a shortcut whose LinkInfo, if it has one, has the short head, and which was moved to Unicode, into t
module _ (profile : Profile) (s : List ℕ) (r : Record) (bs : Bytes s) (a : Accepts profile s r) (short : info_there r.header.flags ≡ true → r.link.long ≡ false)
    (out : List ℕ) (n : ℕ) (e : to_unicode_answer profile s out ≡ Ok n) where
  abbrev c₀ : Contents
  c₀ = contents s r

  abbrev pub t : List ℕ
  t = take n (to_unicode_output profile s out)

  went : Moved profile in_unicode true to_units s r out n (to_unicode_output profile s out)
  went = moves_to_unicode profile s bs out r n a e

  valid : Valid profile c₀
  valid = accepted_Valid profile (unicode_Move profile) s r bs a

  limit : length (canonical c₀) ≤ most
  unfolding Accepts
  limit = let x = shortest profile s c₀ (length s) bs (accepted_decode profile s r (length s) a) in omega (arith, x.short, x.limit)

  fits : (room : ℕ) → length (canonical c₀) ≤ room → moving profile true c₀ room ≡ got (canonical c₀) (length (canonical c₀))
  unfolding moving
  fits room h =
      let w : writable profile c₀ ≡ true = Valid-writable profile c₀ valid ∙ le-leb (length (canonical c₀)) most limit in
      rw (w, le-leb (length (canonical c₀)) room h)

  back_is : (room : ℕ) → length (canonical c₀) ≤ room → to_byte_strings profile t room ≡ got (canonical c₀) (length (canonical c₀))
  unfolding to_unicode_answer
  back_is room h =
      let x = went in
      let there : maps_to_unicode c₀ ≡ true
      = maps_then profile (ends profile (maps_to_unicode c₀) (in_unicode c₀) (length out)) (sym (ap verdict_of (to_unicode_is profile s r a (length out))) ∙ e) in
      let k = head_kept s r short in
      rw (front out x.form x.long x.output)
      (to_bytes_is profile x.form x.held x.accepted room
      ∙ ap (λ (c : Contents). moving profile (maps_to_bytes c) (in_bytes c) room) x.is
      ∙ ap (λ (b : Bool). moving profile b (in_bytes (in_unicode c₀)) room) (maps_home profile c₀ valid there k)
      ∙ ap (λ (c : Contents). moving profile true c room) (there_and_back profile c₀ valid there k)
      ∙ fits room h)

  -- moved home, with room enough, it reads as the same record
  pub home_again : (home : List ℕ) → length (canonical (contents s r)) ≤ length home
      → (m : ℕ) × ((to_bytes_answer profile t home ≡ Ok m) × ReadsAs profile (take m (to_bytes_output profile t home)) r s)
  unfolding to_bytes_answer to_bytes_output output_of Accepts Same
  home_again home h =
      let i = back_is (length home) h in
      let w = canonical c₀ in
      let f = decode_accepted profile w c₀ (length w) (read_back profile c₀ valid limit) in
      let o : take (length w) (output_of (to_byte_strings profile t (length home)) home) ≡ w = front home w refl (ap (λ (o : Outcome (List ℕ)). output_of o home) i) in
      (length w, (ap verdict_of i, rw o (record { bytes = canonical-Bytes profile c₀ valid; held = f.held; accepted = f.is; same = f.same })))
