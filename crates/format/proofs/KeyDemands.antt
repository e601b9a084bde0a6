-- What the farm rests on: two shortcuts share a key only if all that is in it is equal. Said of what the call answers and writes.
use mathlib.Core.Path.{◌≡◌, refl, sym, ap, ◌∙◌}
use mathlib.Core.List.{List}
use mathlib.Core.Logic.{◌↔◌}
use mathlib.Core.Bool.{Bool, true, false, cond}
use Prim.Native.Nat.{ℕ, ◌+◌, ◌<◌}
use native.Mathlib.Omega.{arith}
use lib.ListN.{length, take, drop, get_or}
use lib.Seq.{take-append_seam}
use lib.Dec.{leb}
use Rattle.octets.specs.Characters.{characters}
use Rattle.octets.specs.Parts.{put}
use Rattle.format.specs.declared.Profile.{Profile}
use Rattle.format.specs.declared.Record.{Record}
use Rattle.format.specs.declared.Reading.{Reading}
use Rattle.format.specs.declared.Fault.{Fault}
use Rattle.format.specs.declared.Fault.TheVariants.{Cut as CUT, Room as ROOM}
use Rattle.format.specs.declared.Spot.{Spot}
use Rattle.format.specs.Tests.{Outcome, got, refused}
use Rattle.format.proofs.AnswerLaws.{nowhere}
use Rattle.format.specs.Presence.{workdir_bit, arguments_bit, string_there, strings_unicode}
use Rattle.format.specs.Shortcut.{Sections, shortcut, verdict_of}
use Rattle.format.specs.Bodies.{place_in, string_slot}
use Rattle.format.specs.Contents.{bytes_at}
use Rattle.format.specs.Writing.{output_of}
use Rattle.format.specs.Demands.{Accepts, Refuses}
use Rattle.format.specs.Target.{has_target, target_text}
use Rattle.format.specs.Key.{Part, no_part, some_part, part_if, Key, key_of, key_bytes, key, key_answer, key_output, key_by, key_in, SameParts, arguments_of}
use Rattle.format.proofs.AcceptedLaws.{accepted_Read, refused_read}
use Rattle.format.proofs.Demands.{beginning_cut}
use Rattle.format.proofs.KeyLaws.{equal_keys}
use Rattle.format.specs.Verdicts.{refused_at}
use Rattle.std.specs.Prelude.{Ok}

-- ---- what a call wrote

pub record Keyed (profile : Profile) (s out : List ℕ) (n : ℕ) : Type 0 where
  pub sections : Sections
  pub count : ℕ
  pub is : shortcut profile s ≡ got sections count
  pub parts : key_in profile s ≡ key_of s sections
  pub written : take n (key_output profile s out) ≡ key_bytes (key_of s sections)

key_of_lem : (profile : Profile) (s : List ℕ) (c : Sections) (k room : ℕ) → shortcut profile s ≡ got c k → (b : Bool) → leb (length (key_bytes (key_of s c))) room ≡ b
    → key profile s room ≡ cond b (got (key_bytes (key_of s c)) (length (key_bytes (key_of s c)))) (refused ROOM nowhere)
unfolding key
key_of_lem profile s c k room e b h = rw (e, h)

key-refused : (profile : Profile) (s : List ℕ) (room : ℕ) {f : Fault} {p : Spot} → shortcut profile s ≡ refused f p → verdict_of (key profile s room) ≡ refused_at f p.position
unfolding key
key-refused profile s room e = rw e

pub keyed : (profile : Profile) (s out : List ℕ) (n : ℕ) → key_answer profile s out ≡ Ok n → Keyed profile s out n
unfolding key_answer key_output key_in output_of put
keyed profile s out n e = go (shortcut profile s) refl
  where
    none : {f : Fault} {p : ℕ} → refused_at f p ≡ Ok n → ⊥
    none v = let z : ◌≡◌ {A = ℕ} 0 1 = cc in omega arith

    fits : (c : Sections) (k : ℕ) → shortcut profile s ≡ got c k → key profile s (length out) ≡ got (key_bytes (key_of s c)) (length (key_bytes (key_of s c))) → Keyed profile s out n
    fits c k i q =
        let w = key_bytes (key_of s c) in
        let v : Ok (length w) ≡ Ok n = ap verdict_of (sym q) ∙ e in
        let l : length w ≡ n = cc in
        let o : output_of (key profile s (length out)) out ≡ put out 0 w = ap (λ (x : Outcome (List ℕ)). output_of x out) q in
        record { sections = c; count = k; is = i; parts = ap (key_by s) i; written = ap (take n) o ∙ rw (← l) (take-append_seam w (drop (0 + length w) out)) }

    room : (c : Sections) (k : ℕ) → shortcut profile s ≡ got c k → (b : Bool) → leb (length (key_bytes (key_of s c))) (length out) ≡ b → Keyed profile s out n
    room c k i true h = fits c k i (key_of_lem profile s c k (length out) i true h)
    room c k i false h = absurd (none (ap verdict_of (sym (key_of_lem profile s c k (length out) i false h)) ∙ e))

    go : (o : Outcome Sections) → shortcut profile s ≡ o → Keyed profile s out n
    go (got c k) i = room c k i (leb (length (key_bytes (key_of s c))) (length out)) refl
    go (refused f p) i = absurd (none (sym (key-refused profile s (length out) i) ∙ e))

-- ---- keys of accepted shortcuts are equal exactly if all that they are made of is: bit 7, and each part with its presence

pub same_key : (profile : Profile) (s t out other : List ℕ) (n m : ℕ) → key_answer profile s out ≡ Ok n → key_answer profile t other ≡ Ok m
    → (take n (key_output profile s out) ≡ take m (key_output profile t other)) ↔ SameParts (key_in profile s) (key_in profile t)
same_key profile s t out other n m e f =
    let x = keyed profile s out n e in
    let y = keyed profile t other m f in
    let i = equal_keys profile s t x.sections y.sections x.count y.count x.is y.is in
    rw (x.written, y.written, x.parts, y.parts) i

-- ---- in plain words

abbrev in_characters : Bool → Part → Part
in_characters u no_part = no_part
in_characters u (some_part x) = some_part (characters u x)

-- what the record says of the key
pub record Tells (profile : Profile) (s : List ℕ) (r : Record) : Type 0 where
  pub unicode : (key_in profile s).unicode ≡ strings_unicode r.header.flags
  pub target : (key_in profile s).target ≡ part_if (has_target r) (target_text s r)
  pub arguments : (key_in profile s).arguments ≡ part_if (string_there arguments_bit r.header.flags) (bytes_at s (place_in r (string_slot arguments_bit)))
  pub workdir : (key_in profile s).workdir ≡ part_if (string_there workdir_bit r.header.flags) (bytes_at s (place_in r (string_slot workdir_bit)))

pub record_Tells : (profile : Profile) (s : List ℕ) (r : Record) → Accepts profile s r → Tells profile s r
unfolding Accepts key_in key_of
record_Tells profile s r e =
    let x = accepted_Read profile s r (length s) e in
    let k : key_by s (shortcut profile s) ≡ key_of s x.sections = ap (key_by s) x.is in
    let string_part : ℕ → Record → Part = λ b q. part_if (string_there b q.header.flags) (bytes_at s (place_in q (string_slot b))) in
    record {
      unicode = ap (λ (k : Key). k.unicode) k ∙ rw x.held;
      target = ap (λ (k : Key). k.target) k ∙ ap (λ (q : Record). part_if (has_target q) (target_text s q)) x.held;
      arguments = ap (λ (k : Key). k.arguments) k ∙ ap (string_part arguments_bit) x.held;
      workdir = ap (λ (k : Key). k.workdir) k ∙ ap (string_part workdir_bit) x.held;
    }

-- two shortcuts whose arguments differ, in being there, in length or in any character, have different keys
pub other_arguments : (profile : Profile) (s t out other : List ℕ) (r q : Record) (n m : ℕ) → Accepts profile s r → Accepts profile t q → (arguments_of s r ≡ arguments_of t q → ⊥)
    → key_answer profile s out ≡ Ok n → key_answer profile t other ≡ Ok m → take n (key_output profile s out) ≡ take m (key_output profile t other) → ⊥
other_arguments profile s t out other r q n m a b differ e f same =
    let p = (same_key profile s t out other n m e f).0 same in
    let k = record_Tells profile s r a in
    let l = record_Tells profile t q b in
    let u : strings_unicode r.header.flags ≡ strings_unicode q.header.flags = sym k.unicode ∙ p.unicode ∙ l.unicode in
    let w = sym k.arguments ∙ p.arguments ∙ l.arguments in
    differ
    (read_as (strings_unicode r.header.flags) (string_there arguments_bit r.header.flags) (bytes_at s (place_in r (string_slot arguments_bit)))
    ∙ ap (in_characters (strings_unicode r.header.flags)) w
    ∙ rw (← u) (sym (read_as (strings_unicode r.header.flags) (string_there arguments_bit q.header.flags) (bytes_at t (place_in q (string_slot arguments_bit))))))
  where
    read_as : (u b : Bool) (x : List ℕ) → part_if b (characters u x) ≡ in_characters u (part_if b x)
    read_as u true x = refl
    read_as u false x = refl

-- so do two that differ in one character of the arguments
pub one_character : (profile : Profile) (s t out other : List ℕ) (r q : Record) (n m i : ℕ) (x y : List ℕ) → Accepts profile s r → Accepts profile t q
    → arguments_of s r ≡ some_part x → arguments_of t q ≡ some_part y → (get_or x i 0 ≡ get_or y i 0 → ⊥)
    → key_answer profile s out ≡ Ok n → key_answer profile t other ≡ Ok m → take n (key_output profile s out) ≡ take m (key_output profile t other) → ⊥
one_character profile s t out other r q n m i x y a b ex ey differ =
    other_arguments profile s t out other r q n m a b (λ z.
    let w : some_part x ≡ some_part y = sym ex ∙ z ∙ ey in
    let v : x ≡ y = cc in
    differ (rw v))

-- a shortcut cut short never has a key: it is refused with 2, and the buffer stays as it was
pub cut_no_key : (profile : Profile) (s out : List ℕ) (r : Record) (k : ℕ) → Accepts profile s r → k < length s → (p : ℕ) × ((key_answer profile (take k s) out ≡ refused_at CUT p) × (key_output profile (take k s) out ≡ out))
unfolding key_answer key_output key output_of Refuses
cut_no_key profile s out r k e h =
    let z = beginning_cut profile s r e k h in
    let i = refused_read profile (take k s) (ap (λ (x : Reading). x.verdict) z.refusal) in
    (z.position, (rw (i.is, i.told), rw i.is))
