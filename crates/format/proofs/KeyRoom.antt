-- A key is never longer than its shortcut, so a buffer as long as the shortcut always has room for it.
use mathlib.Core.Path.{◌≡◌, refl, sym, ap, ◌∙◌}
use mathlib.Core.List.{List, [], ◌∷◌, ◌++◌}
use mathlib.Core.Bool.{Bool, true, false, not, ◌&&◌, ◌||◌, cond}
use Prim.Native.Nat.{ℕ, ◌+◌, ◌≤◌}
use native.Mathlib.Omega.{arith}
use lib.ListN.{length, take, drop, length-append, length-take, length-drop}
use lib.Seq.{length-take-le}
use lib.Dec.{leb, eqb}
use borrow.Author.Tests.{le-leb}
use Rattle.octets.specs.Numbers.{Bytes, u32_at}
use Rattle.octets.specs.Characters.{before_zero}
use Rattle.octets.proofs.NumberLaws.{length-little}
use Rattle.format.specs.declared.Profile.{Profile}
use Rattle.format.specs.declared.Place.{Place}
use Rattle.format.specs.declared.Record.{Record}
use Rattle.format.specs.Tests.{got, bit, place}
use Rattle.format.specs.Presence.{info_there, workdir_bit, arguments_bit, string_there, strings_unicode, local_there, network_there}
use Rattle.format.specs.Blocks.{blocks, first_place}
use Rattle.format.specs.Shortcut.{blocks_of, sum, record_of}
use Rattle.format.specs.Bodies.{place_in, string_slot, blocks_slot}
use Rattle.format.specs.Contents.{InfoContents, Contents, bytes_at, body_in, info_in, bodies_of, contents}
use Rattle.format.specs.Writing.{if_there, text_bytes, network_bytes, info_bytes, bytes_of_string, string_part, canonical}
use Rattle.format.specs.Demands.{Accepts}
use Rattle.format.specs.Target.{targeted, has_target, separator, joined, target_text}
use Rattle.format.specs.Key.{Part, no_part, some_part, part_if, Key, block_text, environment, key_of, part_bytes, key_bytes, key, key_answer, key_by, key_in}
use Rattle.format.proofs.Chains.{no_true}
use Rattle.format.proofs.NetworkLaws.{length_network}
use Rattle.format.proofs.InfoLaws.{length_info}
use Rattle.format.proofs.BlockLaws.{blocks_Walked}
use Rattle.format.proofs.WholeLaws.{shortest}
use Rattle.format.proofs.FoundLaws.{read_Walk}
use Rattle.format.proofs.AcceptedLaws.{shortcut-Whole, accepted_Read, accepted_present, accepted_decode}
use Rattle.format.proofs.TargetLaws.{separator_few}
use Rattle.format.proofs.KeyDemands.{record_Tells}
use Rattle.std.specs.Prelude.{Ok}

-- ---- what a key is made of: the contents, and the text of a block

-- what stands before the suffix
abbrev first_bytes : InfoContents → List ℕ
first_bytes i = cond (local_there i.flags) i.local i.network.net

abbrev pub whole_text : InfoContents → List ℕ
whole_text i = joined (first_bytes i) i.suffix

abbrev pub key_from : Contents → Part → Key
key_from c e = record {
  unicode = strings_unicode c.header.flags;
  target =
      part_if (targeted c.header.flags c.link.flags) (whole_text (info_in c));
  arguments = part_if (string_there arguments_bit c.header.flags) (body_in c (string_slot arguments_bit));
  workdir = part_if (string_there workdir_bit c.header.flags) (body_in c (string_slot workdir_bit));
  environment = e;
}

-- the environment, where blocks of these lengths stand from p on
abbrev pub environment_of : List ℕ → ℕ → List ℕ → Part
environment_of s p lengths = environment s (first_place s 0xA0000001 p lengths)

-- the blocks as reading walked over them, and the key
pub record Made (profile : Profile) (s : List ℕ) (r : Record) : Type 0 where
  pub start : ℕ
  pub at : (place_in r blocks_slot).at ≡ start
  pub lengths : List ℕ
  pub count : ℕ
  pub walk : blocks start (drop start s) ≡ got lengths count
  pub body : body_in (contents s r) blocks_slot ≡ take (sum lengths) (drop start s)
  pub is : key_in profile s ≡ key_from (contents s r) (environment_of s start lengths)

pub made : (profile : Profile) (s : List ℕ) (r : Record) → Accepts profile s r → Made profile s r
unfolding Accepts key_in key_of contents
made profile s r e =
    let x = accepted_Read profile s r (length s) e in
    let b = blocks_of x.sections in
    let c : bodies_of s (record_of x.sections) ≡ contents s r = ap (bodies_of s) (x.held ∙ sym (accepted_present profile s r (length s) e)) in
    record {
      start = b.start;
      at = ap (λ (q : Record). (place_in q blocks_slot).at) (sym x.held);
      lengths = b.read;
      count = b.len;
      walk = read_Walk profile s x.sections (length s) (shortcut-Whole profile s x.sections (length s) x.is).read;
      body = ap (λ (c : Contents). body_in c blocks_slot) (sym c);
      is = ap (key_by s) x.is ∙ ap (λ (c : Contents). key_from c (environment_of s b.start b.read)) c;
    }

-- the blocks' lengths add up to their body's
pub body_long : (profile : Profile) {s : List ℕ} {r : Record} (m : Made profile s r) → length (body_in (contents s r) blocks_slot) ≡ sum m.lengths
body_long profile {s} m =
    let w = blocks_Walked [] m.start (drop m.start s) m.lengths m.count m.walk in
    ap length m.body ∙ length-take-le (sum m.lengths) (drop m.start s) (omega (arith, w.adds, w.inside))

-- ---- how long it is

-- the bytes that a part has beyond its presence byte and its length
abbrev bytes_in : Part → ℕ
bytes_in no_part = 0
bytes_in (some_part w) = length w

length_part : (p : Part) → length (part_bytes p) ≡ 5 + bytes_in p
length_part no_part = simp (length-append, length-little)
length_part (some_part w) = simp (length-append, length-little) (omega arith)

length_key : (k : Key)
    → length (key_bytes k) ≡ 21 + bytes_in k.target + bytes_in k.arguments + bytes_in k.workdir + bytes_in k.environment
unfolding key_bytes
length_key k = simp (length-append, length-little, length_part) (omega arith)

-- ---- each part is no longer than what holds it

part_few : (b : Bool) (w : List ℕ) → bytes_in (part_if b w) ≤ length w
part_few true w = omega arith
part_few false w = omega arith

string_few : (b u : Bool) (x : List ℕ) → bytes_in (part_if b x) ≤ length (if_there b (bytes_of_string u) x)
unfolding bytes_of_string
string_few true u x = simp length-append (omega arith)
string_few false u x = omega arith

-- LinkInfo holds both texts, and the suffix's terminator has room for the separator
text_few : (i : InfoContents) → (local_there i.flags || network_there i.flags) ≡ true → length (whole_text i) ≤ length (info_bytes i)
text_few i e =
    let first = first_bytes i in
    let between = separator first i.suffix in
    let h = go (local_there i.flags) (network_there i.flags) e in
    omega (
      arith,
      length-append first (between ++ i.suffix),
      length-append between i.suffix,
      separator_few first i.suffix,
      length_info i,
      length-append i.suffix (0 ∷ []),
    )
  where
    go : (b c : Bool) → (b || c) ≡ true
        → length (cond b i.local i.network.net) ≤ length (if_there b (text_bytes false) i.local) + length (if_there c network_bytes i.network)
    go true c e = omega (arith, length-append i.local (0 ∷ []))
    go false true e = omega (arith, length_network i.network, length-append i.network.net (0 ∷ []))
    go false false e = no_true e

target_few : (a b : Bool) (i : InfoContents)
    → bytes_in (part_if (a && b && (local_there i.flags || network_there i.flags)) (whole_text i)) ≤ length (if_there b info_bytes i)
target_few true true i = go (local_there i.flags || network_there i.flags) refl
  where
    go : (d : Bool) → (local_there i.flags || network_there i.flags) ≡ d → bytes_in (part_if d (whole_text i)) ≤ length (info_bytes i)
    go true e = text_few i e
    go false e = omega arith
target_few true false i = omega arith
target_few false b i = omega arith

-- no block is longer than all of them
first_few : (s : List ℕ) (signature p : ℕ) (lengths : List ℕ) → (first_place s signature p lengths).len ≤ sum lengths
first_few s signature p [] = omega arith
first_few s signature p (n ∷ ns) = go (eqb (u32_at s (p + 4)) signature) (first_place s signature (p + n) ns) (first_few s signature (p + n) ns)
  where
    go : (b : Bool) (later : Place) → later.len ≤ sum ns → (cond b (place p n) later).len ≤ n + sum ns
    go true later h = omega arith
    go false later h = omega arith

environment_few : (s : List ℕ) (p : ℕ) (lengths : List ℕ) → bytes_in (environment_of s p lengths) ≤ sum lengths
environment_few s p lengths =
    let b = first_place s 0xA0000001 p lengths in
    let text = drop 8 (bytes_at s b) in
    omega (
      arith,
      first_few s 0xA0000001 p lengths,
      part_few (leb 1 b.len) (block_text s b),
      length-take (before_zero text) text,
      length-drop 8 (bytes_at s b),
      length-take b.len (drop b.at s),
    )

-- ---- the whole

-- what holds the parts, after a header that is longer than all else in a key
held_few : (c : Contents)
    → 76 + length (if_there (info_there c.header.flags) info_bytes (info_in c)) + length (string_part c workdir_bit) + length (string_part c arguments_bit) + length (body_in c blocks_slot)
    ≤ length (canonical c)
unfolding canonical
held_few c = simp (length-append, length-little) (omega arith)

key_few : (c : Contents) (e : Part) → bytes_in e ≤ length (body_in c blocks_slot) → length (key_bytes (key_from c e)) ≤ length (canonical c)
key_few c e h =
    let f = c.header.flags in
    omega (
      arith,
      length_key (key_from c e),
      target_few (not (bit 8 f)) (info_there f) (info_in c),
      string_few (string_there arguments_bit f) (strings_unicode f) (body_in c (string_slot arguments_bit)),
      string_few (string_there workdir_bit f) (strings_unicode f) (body_in c (string_slot workdir_bit)),
      held_few c,
    )

-- a key is never longer than its shortcut: what is written for the contents has room for it, and is no longer than the shortcut
pub key_short : (profile : Profile) (s : List ℕ) (r : Record) → Bytes s → Accepts profile s r → length (key_bytes (key_in profile s)) ≤ length s
unfolding Accepts
key_short profile s r bs e =
    let m = made profile s r e in
    let t = environment_of s m.start m.lengths in
    let k = key_few (contents s r) t (omega (arith, environment_few s m.start m.lengths, body_long profile m)) in
    let w = shortest profile s (contents s r) (length s) bs (accepted_decode profile s r (length s) e) in
    rw m.is (omega (arith, k, w.short))

-- nor is a target text, which its key has in it
pub target_short : (profile : Profile) (s : List ℕ) (r : Record) → Bytes s → Accepts profile s r → has_target r ≡ true → length (target_text s r) ≤ length s
target_short profile s r bs e h =
    let k : length (key_bytes (key_in profile s)) ≤ length s = key_short profile s r bs e in
    let t : (key_in profile s).target ≡ some_part (target_text s r) = (record_Tells profile s r e).target ∙ ap (λ (b : Bool). part_if b (target_text s r)) h in
    omega (arith, length_key (key_in profile s), ap bytes_in t)

-- a buffer as long as the shortcut always has room for its key
pub room_enough : (profile : Profile) (s out : List ℕ) (r : Record) → Bytes s → Accepts profile s r → length s ≤ length out → key_answer profile s out ≡ Ok (length (key_bytes (key_in profile s)))
unfolding Accepts key_answer key key_in
room_enough profile s out r bs e h =
    let x = accepted_Read profile s r (length s) e in
    let k = rw x.is at (key_short profile s r bs e) in
    rw (x.is, le-leb (length (key_bytes (key_of s x.sections))) (length out) (omega arith))
