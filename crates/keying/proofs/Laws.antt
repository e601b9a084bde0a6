-- Where the parts of a key stand, what is written of them, and one law for each way out of the call.
use mathlib.Core.Path.{◌≡◌, refl, sym, ap, ◌∙◌}
use mathlib.Core.List.{List, ◌++◌, append-nil, append_assoc}
use mathlib.Core.Bool.{Bool, true, false, cond}
use Prim.Native.Nat.{ℕ, ◌+◌, ◌-◌, ◌≤◌, ◌<◌}
use native.Mathlib.Omega.{arith}
use lib.ListN.{length, take, drop, get_or, drop_of_length-le, length-append, length-take, length-drop}
use lib.Seq.{take-take, drop-drop}
use lib.Dec.{leb}
use borrow.Author.Tests.{le-leb, lt-leb, ltb-false}
use Rattle.octets.specs.Numbers.{little}
use Rattle.octets.specs.Characters.{before_zero, has_zero}
use Rattle.octets.specs.Steps.Scans.{zero_from}
use Rattle.octets.specs.Parts.{put}
use Rattle.octets.specs.Steps.Puts.{part}
use Rattle.octets.proofs.NumberLaws.{length-little}
use Rattle.octets.proofs.CharacterLaws.{before_le}
use Rattle.copies.specs.declared.output.Output.{Output}
use Rattle.copies.specs.Steps.Writes.{Writes}
use Rattle.copies.proofs.OutputLaws.{join, reword}
use Rattle.format.specs.declared.Profile.{Profile}
use Rattle.format.specs.declared.Place.{Place}
use Rattle.format.specs.declared.Record.{Record}
use Rattle.format.specs.declared.Fault.TheVariants.{Room as ROOM}
use Rattle.format.specs.declared.Refusal.{Refusal}
use Rattle.format.specs.Tests.{got, refused, one_or_0, place, no_place}
use Rattle.format.specs.Numbers.{Numbered}
use Rattle.format.specs.Presence.{workdir_bit, arguments_bit, string_there, strings_unicode}
use Rattle.format.specs.Blocks.{blocks}
use Rattle.format.specs.Steps.Firsts.{first_field, firsts}
use Rattle.format.specs.Shortcut.{most}
use Rattle.format.specs.Bodies.{place_in, string_slot, blocks_slot}
use Rattle.format.specs.Contents.{bytes_at}
use Rattle.format.specs.Writing.{output_of}
use Rattle.format.specs.Target.{has_target}
use Rattle.format.specs.Key.{no_part, some_part, part_if, Key, block_text, environment, part_bytes, key_bytes, key, key_answer, key_output, key_in}
use Rattle.format.specs.Demands.{Accepts}
use Rattle.format.proofs.AnswerLaws.{nowhere, numbered}
use Rattle.format.proofs.BodyLaws.{body_part, body_length as length_of_body}
use Rattle.format.proofs.Chains.{drop-take}
use Rattle.format.proofs.AcceptedLaws.{accepted_Read, accepted_bodies, accepted_limit}
use Rattle.format.proofs.KeyDemands.{record_Tells}
use Rattle.format.proofs.KeyRoom.{made}
use Rattle.blocks.specs.Steps.Walk.{block_from}
use Rattle.blocks.proofs.FirstLaws.{First-block, place_from}
use Rattle.reader.specs.Steps.Finish.{FirstsOf, outline}
use Rattle.reader.proofs.OutlineLaws.{outline_refused}
use Rattle.target.specs.declared.Texts.{Texts}
use Rattle.target.specs.Steps.Texts.{Stands, texts_bytes, texts_of}
use Rattle.target.proofs.Laws.{texts_stand, texts_are, texts_long, texts_few}
use Rattle.keying.specs.declared.KeyParts.{KeyParts}
use Rattle.keying.specs.Steps.KeyParts.{target_part, target_shown, target_length, TargetStands, body_shown, body_length, BodyStands, TextOf, BlockAt, EnvironmentOf, key_shown, key_length, KeyStands}
use Rattle.format.specs.Verdicts.{Verdict, refused_at}
use Rattle.std.specs.Prelude.{Option, Some, None, Ok, Err, if◌then◌else◌, unwrap_or}
use Rattle.std.specs.Bool.{then_some}

-- ---- one part

module _ (s : List ℕ) where
  target_shown_if : (there : Bool) (t : Texts) → target_shown s (then_some there t) ≡ part_if there (texts_bytes s t)
  target_shown_if true t = refl
  target_shown_if false t = refl

  target_stands_if : (there : Bool) (t : Texts) → length s ≤ most → Stands s t → TargetStands s (then_some there t)
  target_stands_if true t small h = (h, small)
  target_stands_if false t small h = tt

  body_shown_if : (there : Bool) (b : Place) → body_shown s (then_some there b) ≡ part_if there (bytes_at s b)
  body_shown_if true b = refl
  body_shown_if false b = refl

  body_stands_if : (there : Bool) (b : Place) → length s ≤ most → b.at + b.len ≤ length s → BodyStands s (then_some there b)
  body_stands_if true b small h = (h, small)
  body_stands_if false b small h = tt

  -- how long the bytes of a part are
  target_long : (t : Option Texts) → TargetStands s t → length (part_bytes (target_shown s t)) ≡ target_length t
  target_long (Some t) h = simp (length-append, length-little, texts_long s t h.0) (omega arith)
  target_long None h = simp (length-append, length-little)

  body_long : (b : Option Place) → BodyStands s b → length (part_bytes (body_shown s b)) ≡ body_length b
  body_long (Some b) h = simp (length-append, length-little, length_of_body s b h.0) (omega arith)
  body_long None h = simp (length-append, length-little)

-- ---- the environment

module _ (s : List ℕ) (a : Place) (h : a.at + a.len ≤ length s) (long : 8 ≤ a.len) {w : List ℕ} (e : w ≡ part s a.at a.len) where
  abbrev text : List ℕ
  text = drop 8 (bytes_at s a)

  -- the block after its first eight bytes
  text_is : text ≡ take (a.len - 8) (drop (a.at + 8) s)
  text_is =
      let n : 8 + (a.len - 8) ≡ a.len = omega arith in
      ap (λ (k : ℕ). drop 8 (take k (drop a.at s))) (sym n) ∙ drop-take 8 (a.len - 8) (drop a.at s) ∙ rw (drop-drop 8 a.at s)

  scanned : drop 8 w ≡ text
  scanned = ap (drop 8) (e ∙ body_part s a h)

  found : {n : ℕ} → n ≡ before_zero text → n ≤ a.len - 8 → TextOf s a (place (a.at + 8) n)
  found {n} i k = record {
    inside = omega arith;
    is = sym (take-take n (a.len - 8) (drop (a.at + 8) s) k) ∙ rw (← text_is, i);
  }

  text_few : length text ≤ a.len - 8
  text_few = omega (arith, length-drop 8 (bytes_at s a), length-take a.len (drop a.at s))

  -- up to the first zero, or to the end where there is none
  pub text_at : {n : ℕ} → n ≡ unwrap_or (zero_from false w 8) (a.len - 8) → TextOf s a (place (a.at + 8) n)
  text_at {n} f = go (has_zero text) refl (f ∙ ap (λ (l : List ℕ). unwrap_or (if has_zero l then Some (before_zero l) else None) (a.len - 8)) scanned)
    where
      go : (b : Bool) → has_zero text ≡ b → n ≡ unwrap_or (if b then Some (before_zero text) else None) (a.len - 8) → TextOf s a (place (a.at + 8) n)
      go true i j = found j (omega (arith, j, before_le text, text_few))
      go false i j =
          let whole : length text ≤ before_zero text = ltb-false (before_zero text) (length text) i in
          let l : length text ≡ a.len - 8 = omega (arith, length-drop 8 (bytes_at s a), length-take a.len (drop a.at s), length-drop a.at s) in
          found (omega (arith, before_le text)) (omega arith)

  pub text_ended : {n : ℕ} → zero_from false w 8 ≡ Some n → TextOf s a (place (a.at + 8) n)
  text_ended z = text_at (rw z)

no_block : (s : List ℕ) (b : Place) → b.len ≡ 0 → no_part ≡ environment s b
no_block s b e = rw e

a_block : (s : List ℕ) (b : Place) → (b.len ≡ 0 → ⊥) → some_part (block_text s b) ≡ environment s b
a_block s b e = rw (le-leb 1 b.len (omega arith))

module _ (s : List ℕ) {field : ℕ} (B : BlockAt s field) where
  pub environment_absent : (4 ≤ field → ⊥) → EnvironmentOf s (block_from s field) None
  environment_absent z = rw (← place_from s field None z) (record { stands = tt; is = no_block s no_place refl })

  module _ {b : Place} (f : b ≡ block_from s field) where
    pub environment_there : {a : Place} → (b.len ≡ 0 → ⊥) → TextOf s b a → EnvironmentOf s (block_from s field) (Some a)
    environment_there {a} z x = rw (← f) (record { stands = (x.inside, B.small); is = ap some_part x.is ∙ a_block s b z })

    -- what the text of the block asks
    pub text_stands : (4 ≤ field → 8 ≤ (block_from s field).len) → 4 ≤ field → (b.at + b.len ≤ length s) × (8 ≤ b.len)
    text_stands long z = (rw f B.inside, rw f (long z))

-- ---- what is in the key of an accepted shortcut

first_slot : (s : List ℕ) {row : List ℕ} (a start : ℕ) (lengths : List ℕ) (n : ℕ) → a ≡ start → ((ls : List ℕ) (m : ℕ) → blocks a (drop a s) ≡ got ls m → row ≡ firsts s a ls)
    → blocks start (drop start s) ≡ got lengths n → get_or row 0 0 ≡ first_field s 0xA0000001 start lengths
unfolding firsts
first_slot s {row} a start lengths n q h w =
    let k : (ls : List ℕ) (m : ℕ) → blocks start (drop start s) ≡ got ls m → row ≡ firsts s start ls = rw q at h in
    ap (λ (l : List ℕ). get_or l 0 0) (k lengths n w)

-- the row leads to the first block of its first slot
pub record Leads (profile : Profile) (s : List ℕ) (field : ℕ) : Type 0 where
  pub block : BlockAt s field
  pub there : 4 ≤ field → 8 ≤ (block_from s field).len
  pub is : environment s (block_from s field) ≡ (key_in profile s).environment

module _ (profile : Profile) (s : List ℕ) (r : Record) (e : Accepts profile s r) where
  accepted_small : length s ≤ most
  unfolding Accepts
  accepted_small = accepted_limit profile s r (length s) e

  pub row_block : {row : List ℕ} → FirstsOf s r row → Leads profile s (get_or row 0 0)
  row_block {row} h =
      let m = made profile s r e in
      let start = m.start in
      let field = first_slot s (place_in r blocks_slot).at start m.lengths m.count m.at h m.walk in
      let F = First-block s 0xA0000001 start m.lengths m.count m.walk in
      rw field
      (record {
        block = record {
          small = accepted_small;
          reached = F.field;
          inside = rw F.block F.inside;
          sized = rw F.block F.sized;
        };
        there = rw F.block F.there;
        is = ap (environment s) F.block ∙ ap (λ (y : Key). y.environment) (sym m.is);
      })

  module _ {f : ℕ} (flags : f ≡ r.header.flags) {k : KeyParts} (unicode : k.unicode ≡ strings_unicode f) (target : k.target ≡ target_part s r)
      {u v : Bool} {pa pw : Place} (hu : u ≡ string_there arguments_bit f) (ia : pa ≡ place_in r (string_slot arguments_bit)) (arguments : k.arguments ≡ then_some u pa)
      (hv : v ≡ string_there workdir_bit f) (iw : pw ≡ place_in r (string_slot workdir_bit)) (workdir : k.workdir ≡ then_some v pw)
      {row : List ℕ} (noted : FirstsOf s r row) (environment : EnvironmentOf s (block_from s (get_or row 0 0)) k.environment) where
    arguments_are : k.arguments ≡ then_some (string_there arguments_bit r.header.flags) (place_in r (string_slot arguments_bit))
    arguments_are = arguments ∙ rw (hu, ia, flags)

    workdir_is : k.workdir ≡ then_some (string_there workdir_bit r.header.flags) (place_in r (string_slot workdir_bit))
    workdir_is = workdir ∙ rw (hv, iw, flags)

    parts_shown : key_shown s k ≡ key_in profile s
    unfolding key_shown
    parts_shown =
        let x = record_Tells profile s r e in
        let g = r.header.flags in
        let a₁ = unicode ∙ ap strings_unicode flags ∙ sym x.unicode in
        let a₂ : target_shown s k.target ≡ (key_in profile s).target
        = rw target (target_shown_if s (has_target r) (texts_of s r) ∙ ap (part_if (has_target r)) (sym (texts_are s r)) ∙ sym x.target) in
        let a₃ : body_shown s k.arguments ≡ (key_in profile s).arguments = rw arguments_are (body_shown_if s (string_there arguments_bit g) (place_in r (string_slot arguments_bit)) ∙ sym x.arguments) in
        let a₄ : body_shown s k.workdir ≡ (key_in profile s).workdir = rw workdir_is (body_shown_if s (string_there workdir_bit g) (place_in r (string_slot workdir_bit)) ∙ sym x.workdir) in
        let a₅ : body_shown s k.environment ≡ (key_in profile s).environment = environment.is ∙ (row_block noted).is in
        rw (a₁, a₂, a₃, a₄, a₅)

    parts_stand : KeyStands s k
    unfolding Accepts
    parts_stand =
        let small = accepted_small in
        let inside = accepted_bodies profile s r (length s) e in
        let g = r.header.flags in
        record {
          target = rw target (target_stands_if s (has_target r) (texts_of s r) small (texts_stand profile s r e));
          arguments = rw arguments_are (body_stands_if s (string_there arguments_bit g) (place_in r (string_slot arguments_bit)) small (inside (string_slot arguments_bit)));
          workdir = rw workdir_is (body_stands_if s (string_there workdir_bit g) (place_in r (string_slot workdir_bit)) small (inside (string_slot workdir_bit)));
          environment = environment.stands;
        }

    pub parts_are : (key_shown s k ≡ key_in profile s) × KeyStands s k
    parts_are = (parts_shown, parts_stand)

-- ---- the bytes of the key

-- presence and length adjoin
pub head_put : {o x y : Output} {a b : List ℕ} → Writes o x a 1 → Writes x y b 4 → Writes o y (a ++ b) 5
head_put p q = join p q

-- so do they and the bytes
pub some_put : {o x y : Output} {w : List ℕ} {n : ℕ} → length w ≡ n → Writes o x (little 1 1 ++ little 4 n) 5 → Writes x y w n → Writes o y (part_bytes (some_part w)) (5 + n)
some_put {w = w} {n = n} long p q = reword (join p q) (append_assoc (little 1 1) (little 4 n) w ∙ rw long) refl

-- an absent part has no bytes, and its length is 0
pub none_put : {o x : Output} → Writes o x (little 1 0 ++ little 4 0) 5 → Writes o x (part_bytes no_part) 5
none_put p = p

-- a part that is there or absent
pub part_put : {o x y : Output} {w : List ℕ} {n : ℕ} (there : Bool) → length w ≡ n → (there ≡ false → n ≡ 0)
    → Writes o x (little 1 (one_or_0 there) ++ little 4 n) 5 → Writes x y w n → Writes o y (part_bytes (part_if there w)) (5 + n)
part_put true long empty p q = some_put long p q
part_put {w = w} {n = n} false long empty p q =
    let z = empty refl in
    reword (join p q) (append_assoc (little 1 0) (little 4 n) w ∙ rw (z, drop_of_length-le w {i = 0} (omega (arith, long)), append-nil (little 4 0))) refl

module _ (s : List ℕ) (k : KeyParts) where
  pub key_put : {o x₁ x₂ x₃ x₄ x₅ : Output} → Writes o x₁ (little 1 (one_or_0 k.unicode)) 1
      → Writes x₁ x₂ (part_bytes (target_shown s k.target)) (target_length k.target)
      → Writes x₂ x₃ (part_bytes (body_shown s k.arguments)) (body_length k.arguments)
      → Writes x₃ x₄ (part_bytes (body_shown s k.workdir)) (body_length k.workdir)
      → Writes x₄ x₅ (part_bytes (body_shown s k.environment)) (body_length k.environment)
      → Writes o x₅ (key_bytes (key_shown s k)) (key_length k)
  unfolding key_bytes key_shown
  key_put unicode target arguments workdir environment = join unicode (join target (join arguments (join workdir environment)))

  key_long : KeyStands s k → length (key_bytes (key_shown s k)) ≡ key_length k
  unfolding key_bytes key_shown
  key_long h =
      simp (
        length-append,
        length-little,
        target_long s k.target h.target,
        body_long s k.arguments h.arguments,
        body_long s k.workdir h.workdir,
        body_long s k.environment h.environment,
      )

  pub key_few : KeyStands s k → key_length k ≤ 4294967295
  key_few h = omega (arith, target_few k.target h.target, body_few k.arguments h.arguments, body_few k.workdir h.workdir, body_few k.environment h.environment)
    where
      target_few : (t : Option Texts) → TargetStands s t → target_length t ≤ 131078
      target_few (Some t) h = omega (arith, texts_few s t h.0, h.1)
      target_few None h = omega arith

      body_few : (b : Option Place) → BodyStands s b → body_length b ≤ 65541
      body_few (Some b) h = omega (arith, h.0, h.1)
      body_few None h = omega arith

-- ---- the ways out

-- what the call says of its answer v and its buffer x
abbrev KeyCall : Profile → List ℕ → List ℕ → Verdict → List ℕ → Type 0
KeyCall profile s out v x = (v ≡ key_answer profile s out) × ((x ≡ key_output profile s out) × Numbered v (key profile s (length out)))

key_call : (profile : Profile) (s out : List ℕ) {v : Verdict} {x : List ℕ} → v ≡ key_answer profile s out → x ≡ key_output profile s out → KeyCall profile s out v x
unfolding key_answer
key_call profile s out a o = (a, (o, numbered (key profile s (length out)) a))

module _ (profile : Profile) (s out : List ℕ) where
  -- leaving with the refusal
  pub key_left : {r : Refusal} → Err r ≡ outline profile s → KeyCall profile s out (refused_at r.fault r.spot.position) out
  unfolding key_answer key_output key output_of
  key_left e = let z = outline_refused profile s (sym e) in key_call profile s out (rw z) (rw z)

  module _ (r : Record) (e : Accepts profile s r) where
    -- the key of what was read
    key_is : key profile s (length out) ≡ cond (leb (length (key_bytes (key_in profile s))) (length out)) (got (key_bytes (key_in profile s)) (length (key_bytes (key_in profile s)))) (refused ROOM nowhere)
    unfolding key key_in Accepts
    key_is = let x = accepted_Read profile s r (length s) e in rw x.is

    module _ {k : KeyParts} {m : ℕ} (shown : key_shown s k ≡ key_in profile s) (stands : KeyStands s k) (is : m ≡ key_length k) where
      long : length (key_bytes (key_in profile s)) ≡ m
      long = ap (λ (x : Key). length (key_bytes x)) (sym shown) ∙ key_long s k stands ∙ sym is

      pub key_room : length out < m → KeyCall profile s out (refused_at ROOM 0) out
      unfolding key_answer key_output output_of
      key_room o = let z : key profile s (length out) ≡ refused ROOM nowhere = key_is ∙ rw (long, lt-leb m (length out) o) in key_call profile s out (rw z) (rw z)

      pub key_written : m ≤ length out → KeyCall profile s out (Ok m) (put out 0 (key_bytes (key_shown s k)))
      unfolding key_answer key_output output_of
      key_written o =
          let z : key profile s (length out) ≡ got (key_bytes (key_in profile s)) m = key_is ∙ rw (long, le-leb m (length out) o) in
          key_call profile s out (rw z) (rw (z, shown))
