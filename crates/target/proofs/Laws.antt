-- One law for each way out of the target call.
use mathlib.Core.Path.{◌≡◌, refl, sym, ap, ◌∙◌}
use mathlib.Core.List.{List, [], ◌++◌, append-nil, append_assoc}
use mathlib.Core.Bool.{Bool, true, false, not, cond, ◌&&◌, ◌||◌}
use Prim.Native.Nat.{ℕ, ◌+◌, ◌-◌, ◌≤◌, ◌<◌}
use native.Mathlib.Omega.{arith}
use lib.ListN.{length, take, drop, length-append}
use lib.Dec.{leb}
use borrow.Author.Tests.{le-leb, lt-leb}
use Rattle.octets.specs.Parts.{put}
use Rattle.copies.specs.declared.output.Output.{Output}
use Rattle.copies.specs.Steps.Writes.{Writes}
use Rattle.copies.proofs.OutputLaws.{join, reword}
use Rattle.format.specs.declared.Profile.{Profile}
use Rattle.format.specs.declared.Place.{Place}
use Rattle.format.specs.declared.Record.{Record}
use Rattle.format.specs.declared.Fault.TheVariants.{Room as ROOM, NoTarget as NOTARGET}
use Rattle.format.specs.declared.Refusal.{Refusal}
use Rattle.format.specs.Tests.{got, refused, bit, one_or_0}
use Rattle.format.specs.Numbers.{Numbered}
use Rattle.format.specs.Presence.{info_there, local_there, network_there}
use Rattle.format.specs.Shortcut.{reading}
use Rattle.format.specs.Contents.{bytes_at}
use Rattle.format.specs.Writing.{output_of}
use Rattle.format.specs.Demands.{Accepts}
use Rattle.format.specs.Target.{targeted, has_target, separated, backslash, separator, joined, target_text, target, target_answer, target_output}
use Rattle.format.proofs.Bools.{and-true}
use Rattle.format.proofs.AnswerLaws.{nowhere, numbered}
use Rattle.format.proofs.BodyLaws.{body_length}
use Rattle.format.specs.Bodies.{place_in, local_slot, net_slot, suffix_slot}
use Rattle.format.proofs.AcceptedLaws.{accepted_Read, accepted_bodies, accepted_limit}
use Rattle.reader.specs.declared.SectionEnds.{SectionEnds}
use Rattle.reader.specs.Steps.Finish.{outline, next_verdict}
use Rattle.reader.proofs.OutlineLaws.{outline_refused}
use Rattle.target.specs.declared.Texts.{Texts}
use Rattle.target.specs.Steps.Texts.{first_text, texts_of, Stands, texts_length, texts_bytes}
use Rattle.format.specs.Verdicts.{Verdict, refused_at}
use Rattle.std.specs.Prelude.{Result, Ok, Err}

one_or_0_small : (b : Bool) → one_or_0 b ≤ 1
one_or_0_small true = omega arith
one_or_0_small false = omega arith

-- a length that fits
pub texts_few : (s : List ℕ) (t : Texts) → Stands s t → length s ≤ 65536 → texts_length t ≤ 131073
texts_few s t h small = omega (arith, h.0, h.1, one_or_0_small t.separated)

-- ---- where the texts stand

pub record TextsInside (s : List ℕ) (r : Record) : Type 0 where
  pub first : (first_text r).at + (first_text r).len ≤ length s
  pub suffix : (place_in r suffix_slot).at + (place_in r suffix_slot).len ≤ length s
  pub small : length s ≤ 65536

module _ (profile : Profile) (s : List ℕ) (r : Record) (e : Accepts profile s r) where
  pub texts_inside : TextsInside s r
  unfolding first_text Accepts
  texts_inside =
      let inside = accepted_bodies profile s r (length s) e in
      record {
        first = either (local_there r.link.flags) (place_in r local_slot) (place_in r net_slot) (inside local_slot) (inside net_slot);
        suffix = inside suffix_slot;
        small = accepted_limit profile s r (length s) e;
      }
    where
      either : (b : Bool) (x y : Place) → x.at + x.len ≤ length s → y.at + y.len ≤ length s → (cond b x y).at + (cond b x y).len ≤ length s
      either true x y p q = p
      either false x y p q = q

  pub texts_stand : Stands s (texts_of s r)
  unfolding texts_of
  texts_stand = (texts_inside.first, texts_inside.suffix)

  -- where the code has the text, the numbers are small
  pub record Found (t : Texts) : Type 0 where
    pub stands : Stands s t
    pub few : texts_length t ≤ 4294967295

  pub found : {t : Texts} → t ≡ texts_of s r → Found t
  found {t} is = record { stands = stands; few = omega (arith, texts_few s t stands texts_inside.small) }
    where
      stands : Stands s t
      stands = rw is texts_stand

-- where there is a target, so are LinkInfo and one of its texts
pub record TargetThere (r : Record) : Type 0 where
  pub info : info_there r.header.flags ≡ true
  pub either : local_there r.link.flags || network_there r.link.flags ≡ true

module _ (profile : Profile) (s : List ℕ) where
  pub target_there : has_target (reading profile s).held ≡ true → TargetThere (reading profile s).held
  target_there h =
      let f = (reading profile s).held.header.flags in
      let i = (reading profile s).held.link.flags in
      let (unbarred, either) = and-true (not (bit 8 f) && info_there f) (local_there i || network_there i) h in
      record { info = (and-true (not (bit 8 f)) (info_there f) unbarred).1; either = either }

  -- by the two flags that were asked for
  pub target_asked : {f i : ℕ} {k : Bool} → f ≡ (reading profile s).held.header.flags → i ≡ (reading profile s).held.link.flags → k ≡ targeted f i → k ≡ has_target (reading profile s).held
  target_asked ef ei e = e ∙ rw (ef, ei)

-- ---- the text

-- the separator is as many bytes 5C as are counted
pub counted : (first suffix : List ℕ) → take (length (separator first suffix)) backslash ≡ separator first suffix
counted first suffix = go (separated first suffix)
  where
    go : (b : Bool) → take (length (cond b backslash [])) backslash ≡ cond b backslash []
    go true = refl
    go false = refl

pub texts_are : (s : List ℕ) (r : Record) → target_text s r ≡ texts_bytes s (texts_of s r)
unfolding first_text texts_of texts_bytes
texts_are s r = go (local_there r.link.flags)
  where
    suffix : List ℕ
    suffix = bytes_at s (place_in r suffix_slot)

    go : (b : Bool) → joined (cond b (bytes_at s (place_in r local_slot)) (bytes_at s (place_in r net_slot))) suffix ≡ joined (bytes_at s (cond b (place_in r local_slot) (place_in r net_slot))) suffix
    go true = refl
    go false = refl

separator_long : (b : Bool) → length (cond b backslash []) ≡ one_or_0 b
separator_long true = refl
separator_long false = refl

pub texts_long : (s : List ℕ) (t : Texts) → Stands s t → length (texts_bytes s t) ≡ texts_length t
unfolding texts_bytes
texts_long s t h =
    let p = bytes_at s t.first in
    let q = cond t.separated backslash [] in
    let w = bytes_at s t.suffix in
    omega (arith, length-append p (q ++ w), length-append q w, body_length s t.first h.0, separator_long t.separated, body_length s t.suffix h.1)

-- ---- the ways out

-- what the call says of its answer v and its buffer x
abbrev TargetCall : Profile → List ℕ → List ℕ → Verdict → List ℕ → Type 0
TargetCall profile s out v x = (v ≡ target_answer profile s out) × ((x ≡ target_output profile s out) × Numbered v (target profile s (length out)))

target_call : (profile : Profile) (s out : List ℕ) {v : Verdict} {x : List ℕ} → v ≡ target_answer profile s out → x ≡ target_output profile s out → TargetCall profile s out v x
unfolding target_answer
target_call profile s out a o = (a, (o, numbered (target profile s (length out)) a))

module _ (profile : Profile) (s out : List ℕ) where
  -- leaving with the refusal
  pub target_left : {o : Result SectionEnds Refusal} {r : Refusal} {v : Verdict} → o ≡ outline profile s → o ≡ Err r → v ≡ next_verdict (length s) o → TargetCall profile s out v out
  unfolding target_answer target_output target output_of
  target_left i k e =
      let z = outline_refused profile s (sym i ∙ k) in
      target_call profile s out (e ∙ ap (next_verdict (length s)) k ∙ rw z) (rw z)

  module _ (r : Record) (e : Accepts profile s r) where
    -- the target of what was read
    target_is : target profile s (length out) ≡ cond (has_target r) (cond (leb (length (target_text s r)) (length out)) (got (target_text s r) (length (target_text s r))) (refused ROOM nowhere)) (refused NOTARGET nowhere)
    unfolding target Accepts
    target_is =
        let x = accepted_Read profile s r (length s) e in
        rw x.is
        (ap (λ (q : Record). cond (has_target q) (cond (leb (length (target_text s q)) (length out)) (got (target_text s q) (length (target_text s q))) (refused ROOM nowhere)) (refused NOTARGET nowhere))
        x.held)

    module _ {k : Bool} (h : k ≡ has_target r) where
      pub target_none : k ≡ false → TargetCall profile s out (refused_at NOTARGET 0) out
      unfolding target_answer target_output output_of
      target_none t =
          let z : target profile s (length out) ≡ refused NOTARGET nowhere = target_is ∙ rw (sym h ∙ t) in
          target_call profile s out (rw z) (rw z)

      module _ (has : k ≡ true) {t : Texts} {m : ℕ} (is : t ≡ texts_of s r) (sum : m ≡ texts_length t) where
        target_text_lem : target_text s r ≡ texts_bytes s t
        target_text_lem = texts_are s r ∙ rw (← is)

        long : length (texts_bytes s t) ≡ m
        long = texts_long s t (found profile s r e is).stands ∙ sym sum

        pub target_room : length out < m → TargetCall profile s out (refused_at ROOM 0) out
        unfolding target_answer target_output output_of
        target_room o =
            let z : target profile s (length out) ≡ refused ROOM nowhere
            = target_is ∙ rw (target_text_lem, long, sym h ∙ has, lt-leb m (length out) o) in
            target_call profile s out (rw z) (rw z)

        pub target_written : m ≤ length out → TargetCall profile s out (Ok m) (put out 0 (texts_bytes s t))
        unfolding target_answer target_output output_of
        target_written o =
            let z : target profile s (length out) ≡ got (texts_bytes s t) m
            = target_is ∙ rw (target_text_lem, long, sym h ∙ has, le-leb m (length out) o) in
            target_call profile s out (rw z) (rw z)

-- ---- putting the text

-- what is cut out from a body's place to its end
pub body_cut : (s : List ℕ) (b : Place) → b.at + b.len ≤ length s → take (b.at + b.len - b.at) (drop b.at s) ≡ bytes_at s b
body_cut s b h = let l : b.at + b.len - b.at ≡ b.len = omega arith in rw l

module _ {o x : Output} (s : List ℕ) (t : Texts) (p : Writes o x (bytes_at s t.first ++ cond t.separated backslash []) (t.first.len + one_or_0 t.separated)) where
  -- with a second text, or with none
  pub texts_put : {y : Output} → Writes x y (bytes_at s t.suffix) t.suffix.len → Writes o y (texts_bytes s t) (texts_length t)
  unfolding texts_bytes
  texts_put q = reword (join p q) (append_assoc (bytes_at s t.first) (cond t.separated backslash []) (bytes_at s t.suffix)) refl

  pub texts_put-one : t.suffix.len ≡ 0 → Writes o x (texts_bytes s t) (texts_length t)
  unfolding texts_bytes
  texts_put-one z = reword p (rw (z, append-nil (cond t.separated backslash []))) (omega arith)
