-- The first phase answers as the shortcut reads, and fills its rows by what it reads.
use mathlib.Core.Path.{◌≡◌, refl, sym, ap, subst, ◌∙◌}
use mathlib.Core.List.{List, [], ◌∷◌}
use mathlib.Core.Bool.{Bool, true, false, cond}
use Prim.Native.Nat.{ℕ, ◌+◌, ◌≤◌, ◌<◌, ◌-◌}
use native.Mathlib.Omega.{arith}
use native.Mathlib.Nat.{zero-add}
use lib.ListN.{length, drop}
use lib.Dec.{eqb}
use borrow.Author.Tests.{le-leb, lt-leb, eqb-true, eq-eqb}
use Rattle.std.specs.Prelude.{Result, Ok, Err}
use Rattle.octets.specs.declared.Cursor.{Cursor}
use Rattle.format.specs.declared.Profile.{Profile}
use Rattle.format.specs.declared.Fault.TheVariants.{Long as LONG, Trail as TRAIL}
use Rattle.format.specs.declared.Header.{Header}
use Rattle.format.specs.declared.Info.{Info}
use Rattle.format.specs.declared.Place.{Place}
use Rattle.format.specs.declared.Record.{Record}
use Rattle.format.specs.declared.Refusal.{Refusal}
use Rattle.format.specs.Tests.{Outcome, got, refused, place, no_place, no_section, section, spot_at, Reader, and_then, ◌else◌at◌, tests}
use Rattle.format.specs.Presence.{items_there, info_there, name_bit, relative_bit, workdir_bit, arguments_bit, icon_bit, string_there, strings_unicode}
use Rattle.format.specs.Verdicts.{Verdict}
use Rattle.format.specs.Numbers.{Numbered}
use Rattle.format.specs.Header.{header}
use Rattle.format.specs.Info.{info, no_info}
use Rattle.format.specs.Items.{items}
use Rattle.format.specs.Strings.{string}
use Rattle.format.specs.Bodies.{place_in, blocks_slot}
use Rattle.format.specs.Steps.Answers.{refusal, read_from}
use Rattle.format.specs.Steps.Firsts.{firsts}
use Rattle.format.specs.Shortcut.{Section, Tail, Sections, sum, blocks_of, most, found, tail, sections, shortcut, record_of, no_record, reading, verdict_of, faulted_by, faulted}
use Rattle.format.specs.Demands.{Accepts}
use Rattle.format.proofs.Chains.{chain_elim, got_elim, no_true}
use Rattle.format.proofs.PlaceLaws.{found_elim}
use Rattle.format.proofs.HeaderLaws.{header_size}
use Rattle.format.proofs.BlockLaws.{blocks_Walked}
use Rattle.format.specs.Blocks.{blocks}
use Rattle.format.proofs.AcceptedLaws.{shortcut-Whole}
use Rattle.format.proofs.AnswerLaws.{numbered}
use Rattle.blocks.specs.Steps.Walk.{no_firsts, blocks_taken, blocks_at, blocks_firsts}
use Rattle.info.specs.Steps.Found.{no_lengths, text_lengths}
use Rattle.info.specs.Steps.Taken.{info_at, info_held}
use Rattle.reader.specs.declared.SectionEnds.{SectionEnds}
use Rattle.reader.specs.Steps.EachSection.{go_on, given, after, string_on, info_on, info_lengths, ended_at, outline_from, lengths_from, firsts_from}
use Rattle.reader.specs.Steps.Finish.{ends_in, outlined, outline, lengths_read, firsts_read, Whole, lengths_in, FirstsOf, Told, next_verdict, next_number, next_value, OutlineAnswer}
use Rattle.reader.proofs.Found.{ends_from, FoundAt, StringAt, BlocksAt, TailAt, tail_at}
use Rattle.reader.proofs.StepLaws.{led, sections_end, tail_led, steps_led}

-- ---- the answer

pub long_shortcut : (profile : Profile) (s : List ℕ) → most < length s → shortcut profile s ≡ refused LONG (spot_at no_section most)
unfolding shortcut
long_shortcut profile s h = rw (lt-leb (length s) most h)

module _ (profile : Profile) (s : List ℕ) where
  -- too long
  pub outline_long : most < length s → Err (refusal LONG (spot_at no_section most)) ≡ outline profile s
  unfolding outline
  outline_long h = ap outlined (sym (long_shortcut profile s h))

  -- else the header, and the sections after it
  pub outline_step : length s ≤ most → {r : Result (Header × Cursor) Refusal} → r ≡ read_from 0 (header profile 0 s) → go_on r (λ x. outline_from profile s x.0 x.1) ≡ outline profile s
  unfolding outline shortcut
  outline_step h e = rw e (steps_led profile s ∙ sym (rw (le-leb (length s) most h) (go (sections profile 0 s))))
    where
      trailing : (b : Bool) (c : Sections) (n : ℕ)
          → outlined (cond b (got c n) (refused TRAIL (spot_at (section 9 (n - 4)) 4))) ≡ cond b (Ok (ends_in c)) (Err (refusal TRAIL (spot_at (section 9 (n - 4)) 4)))
      trailing true c n = refl
      trailing false c n = refl

      go : (o : Outcome Sections) → outlined (and_then o (λ c n. tests (section 9 (n - 4)) (eqb n (length s) else TRAIL at 4 ∷ []) (got c n))) ≡ led (sections_end s) o
      go (got c n) = trailing (eqb n (length s)) c n
      go (refused f q) = refl

  -- ---- the two rows

  pub lengths_long : most < length s → no_lengths ≡ lengths_read profile s
  unfolding lengths_read
  lengths_long h = rw (lt-leb (length s) most h)

  pub lengths_step : length s ≤ most → {r : Result (Header × Cursor) Refusal} → r ≡ read_from 0 (header profile 0 s) → given r (λ x. lengths_from profile s x.0 x.1) no_lengths ≡ lengths_read profile s
  unfolding lengths_read
  lengths_step h e = rw (e, le-leb (length s) most h)

  pub firsts_long : most < length s → no_firsts ≡ firsts_read profile s
  unfolding firsts_read
  firsts_long h = rw (lt-leb (length s) most h)

  pub firsts_step : length s ≤ most → {r : Result (Header × Cursor) Refusal} → r ≡ read_from 0 (header profile 0 s) → given r (λ x. firsts_from profile s x.0 x.1) no_firsts ≡ firsts_read profile s
  unfolding firsts_read
  firsts_step h e = rw (e, le-leb (length s) most h)

-- the terminal block has four bytes
pub four_after : (s : List ℕ) (p : ℕ) {b : Place} {c : Cursor} → Ok (b, c) ≡ blocks_at s p → 4 ≤ c.at
unfolding blocks_at
four_after s p {b} {c} e = go (blocks p (drop p s)) refl e
  where
    go : (o : Outcome (List ℕ)) → blocks p (drop p s) ≡ o → Ok (b, c) ≡ blocks_taken p o → 4 ≤ c.at
    go (got ls n) i h =
        let z : (b, c) ≡ (place p (sum ls), record { at = p + n }) = cc in
        let m : c.at ≡ p + n = ap (λ (x : Place × Cursor). x.1.at) z in
        omega (arith, (blocks_Walked [] p (drop p s) ls n i).adds)
    go (refused f q) i h = absurd (let z : ◌≡◌ {A = ℕ} 0 1 = cc in omega arith)

-- ---- a step over a section that was found goes on at its end

place_step : {s : List ℕ} (P : Reader Place) (b : Bool) (p : ℕ) {v : Section Place} → FoundAt s P b no_place p v
    → cond b (after (read_from p (P p (drop p s)))) (Ok (record { at = p })) ≡ Ok (record { at = p + v.len })
place_step P true p F = rw (F.there refl)
place_step P false p {v} F = let z : p ≡ p + v.len = omega (arith, (F.lacking refl).1) in ap (λ (q : ℕ). Ok (record { at = q })) z

module _ (profile : Profile) {s : List ℕ} where
  info_step : (b : Bool) (p : ℕ) {v : Section Info} → FoundAt s (info profile) b no_info p v → info_on profile s b (record { at = p }) ≡ Ok (record { at = p + v.len })
  unfolding info_at
  info_step true p F = rw (F.there refl)
  info_step false p {v} F = let z : p ≡ p + v.len = omega (arith, (F.lacking refl).1) in ap (λ (q : ℕ). Ok (record { at = q })) z

  info_said : (b : Bool) (p : ℕ) {v : Section Info} → FoundAt s (info profile) b no_info p v → info_lengths profile s b (record { at = p }) ≡ text_lengths v.read
  unfolding info_held text_lengths
  info_said true p F = rw (F.there refl)
  info_said false p F = sym (ap text_lengths (F.lacking refl).0)

blocks_noted : {s : List ℕ} {p q : ℕ} {v : Section (List ℕ)} → BlocksAt s p v q → blocks_firsts s p ≡ firsts s v.start v.read
unfolding blocks_firsts
blocks_noted F = rw (F.is, F.start)

-- the rows, where the sections after the header are known
module _ {profile : Profile} {s : List ℕ} (h : Header) {p q : ℕ} {v : Tail} (T : TailAt profile s h.flags p v q) where
  lengths_tail : lengths_from profile s h (record { at = p }) ≡ text_lengths v.1.0.read
  lengths_tail = rw (place_step items (items_there h.flags) p T.items) (info_said profile (info_there h.flags) _ T.info)

  string_step : (k p : ℕ) {v : Section Place} → StringAt s h.flags k p v
      → string_on s (string_there k h.flags) (k + 1) (strings_unicode h.flags) (record { at = p }) ≡ Ok (record { at = p + v.len })
  string_step k p F = place_step (string (k + 1) (strings_unicode h.flags)) (string_there k h.flags) p F

  firsts_tail : firsts_from profile s h (record { at = p }) ≡ firsts s v.1.1.1.1.1.1.1.start v.1.1.1.1.1.1.1.read
  firsts_tail =
      let e = ends_from p v in
      rw (
        place_step items (items_there h.flags) p T.items,
        info_step profile (info_there h.flags) e.items T.info,
        string_step name_bit e.info T.name,
        string_step relative_bit e.name T.relative,
        string_step workdir_bit e.relative T.workdir,
        string_step arguments_bit e.workdir T.arguments,
        string_step icon_bit e.arguments T.icon,
      )
      (blocks_noted T.blocks)

-- ---- the sections after the header

-- they were read as the tail v of n bytes, each where the one before it ended; the rows are those of its LinkInfo and of its blocks
pub record Outlined (profile : Profile) (s : List ℕ) (h : Header) (v : Tail) (n : ℕ) : Type 0 where
  pub is : tail profile h.flags 76 (drop 76 s) ≡ got v n
  pub found : TailAt profile s h.flags 76 v (76 + n)
  pub lengths : lengths_from profile s h (record { at = 76 }) ≡ text_lengths v.1.0.read
  pub firsts : firsts_from profile s h (record { at = 76 }) ≡ firsts s v.1.1.1.1.1.1.1.start v.1.1.1.1.1.1.1.read

-- how the steps r over them run: up to the end, up to a terminal block with bytes after it, or to a refusal, which is that of reading them
pub data Runs (profile : Profile) (s : List ℕ) (h : Header) (r : Result SectionEnds Refusal) : Type 0 where
  whole : (v : Tail) (n : ℕ) → Outlined profile s h v n → 76 + n ≡ length s → r ≡ Ok (ends_from 76 v) → Runs profile s h r
  trailing : (v : Tail) (n : ℕ) → Outlined profile s h v n → (76 + n ≡ length s → ⊥) → r ≡ Err (refusal TRAIL (spot_at (section 9 (76 + n - 4)) 4)) → Runs profile s h r
  stopped : (x : Refusal) → tail profile h.flags 76 (drop 76 s) ≡ refused x.fault x.spot → r ≡ Err x → Runs profile s h r

pub outline_Runs : (profile : Profile) (s : List ℕ) (h : Header) → Runs profile s h (outline_from profile s h (record { at = 76 }))
outline_Runs profile s h = go (tail profile h.flags 76 (drop 76 s)) refl (tail_led profile s h 76)
  where
    ended : (v : Tail) (n : ℕ) → Outlined profile s h v n → (b : Bool) → eqb (76 + n) (length s) ≡ b
        → outline_from profile s h (record { at = 76 }) ≡ ended_at (length s) (ends_from 76 v) (record { at = 76 + n }) → Runs profile s h (outline_from profile s h (record { at = 76 }))
    ended v n w true q e = whole v n w (eqb-true (76 + n) (length s) q) (e ∙ rw q)
    ended v n w false q e = trailing v n w (λ z. no_true (sym q ∙ eq-eqb (76 + n) (length s) z)) (e ∙ rw q)

    go : (o : Outcome Tail) → tail profile h.flags 76 (drop 76 s) ≡ o → outline_from profile s h (record { at = 76 }) ≡ led (λ v n. ended_at (length s) (ends_from 76 v) (record { at = 76 + n })) o
        → Runs profile s h (outline_from profile s h (record { at = 76 }))
    go (got v n) i e =
        let t : TailAt profile s h.flags 76 v (76 + n) = tail_at profile s h.flags 76 v n i in
        ended v n (record { is = i; found = t; lengths = lengths_tail h t; firsts = firsts_tail h t }) (eqb (76 + n) (length s)) refl e
    go (refused f q) i e = stopped (refusal f q) i e

-- ---- an accepted shortcut

-- the sections c were read, up to q
pub record Reads (profile : Profile) (s : List ℕ) (c : Sections) (q : ℕ) : Type 0 where
  pub header : header profile 0 s ≡ got c.0.read c.0.len
  pub head : c.0.len ≡ 76
  pub first : c.0 ≡ record { there = true; start = 0; len = 76; read = c.0.read }
  pub tail : TailAt profile s c.0.read.flags c.0.len c.1 q

sections_read : (profile : Profile) (s : List ℕ) (c : Sections) (n : ℕ) → sections profile 0 s ≡ got c n → Reads profile s c n
unfolding sections
sections_read profile s c n e =
    chain_elim (found (header profile)) (λ (h : Section Header). tail profile h.read.flags) 0 s (Reads profile s)
    (λ a k b m i j. found_elim (header profile) 0 s (λ a k. tail profile a.read.flags (0 + k) (drop k s) ≡ got b m → Reads profile s (a, b) (k + m)) (from b m) a k i j) c n e
  where
    from : (b : Tail) (m : ℕ) (h : Header) (k : ℕ) → header profile 0 s ≡ got h k → tail profile h.flags (0 + k) (drop k s) ≡ got b m
        → Reads profile s (record { there = true; start = 0; len = k; read = h }, b) (k + m)
    from b m h k i j =
        let z : tail profile h.flags k (drop k s) ≡ got b m = subst (λ (p : ℕ). tail profile h.flags p (drop k s) ≡ got b m) (zero-add k) j in
        let size = header_size profile 0 s h k i in
        record { header = i; head = size; first = ap (λ (n : ℕ). record { there = true; start = 0; len = n; read = h }) size; tail = tail_at profile s h.flags k b m z }

-- s reads as the sections c, all of it
pub record Whole_is (profile : Profile) (s : List ℕ) (c : Sections) : Type 0 where
  pub small : length s ≤ most
  pub is : shortcut profile s ≡ got c (length s)
  pub reads : Reads profile s c (length s)

pub whole_is : (profile : Profile) (s : List ℕ) {c : Sections} {n : ℕ} → shortcut profile s ≡ got c n → Whole_is profile s c
whole_is profile s {c} {n} e =
    let W = shortcut-Whole profile s c n e in
    record { small = W.limit; is = e ∙ ap (got c) W.all; reads = subst (Reads profile s c) W.all (sections_read profile s c n W.read) }

module _ {profile : Profile} {s : List ℕ} {c : Sections} (W : Whole_is profile s c) where
  pub whole_held : (reading profile s).held ≡ record_of c
  unfolding reading
  whole_held = rw W.is

  whole_Accepts : Accepts profile s (reading profile s).held
  unfolding Accepts reading
  whole_Accepts = rw W.is

  abbrev the_header : List ℕ → Header → ℕ → Type 0
  the_header s h n = read_from 0 (header profile 0 s) ≡ Ok (h, record { at = n })

  header_step : the_header s c.0.read c.0.len
  header_step = let z = zero-add c.0.len in rw (W.reads.header, z)

  whole_lengths : lengths_read profile s ≡ lengths_in (reading profile s).held
  unfolding lengths_read lengths_in text_lengths
  whole_lengths = rw (le-leb (length s) most W.small, header_step, whole_held) (lengths_tail c.0.read W.reads.tail)

  -- the row of signatures is that of the blocks
  whole_firsts : firsts_read profile s ≡ firsts s (blocks_of c).start (blocks_of c).read
  unfolding firsts_read
  whole_firsts = rw (le-leb (length s) most W.small, header_step) (firsts_tail c.0.read W.reads.tail)

  whole_noted : FirstsOf s (reading profile s).held (firsts_read profile s)
  whole_noted lengths n e =
      let b = W.reads.tail.blocks in
      let start : (place_in (reading profile s).held blocks_slot).at ≡ (blocks_of c).start = ap (λ (r : Record). (place_in r blocks_slot).at) whole_held in
      rw start (whole_firsts ∙ got_elim (λ ls n. firsts s (blocks_of c).start (blocks_of c).read ≡ firsts s (blocks_of c).start ls) (sym b.is ∙ rw (start, b.start) at e) refl)

-- ---- what the answer tells

module _ {profile : Profile} {s : List ℕ} {e : SectionEnds} {texts : List ℕ} (w : Whole profile s e texts) where
  -- an accepted shortcut by its sections
  pub record Sectioned : Type 0 where
    pub sections : Sections
    pub ends : e ≡ ends_in sections
    pub whole : Whole_is profile s sections

  pub sectioned : Sectioned
  unfolding outline
  sectioned = go (shortcut profile s) refl w.ends
    where
      go : (o : Outcome Sections) → shortcut profile s ≡ o → outlined o ≡ Ok e → Sectioned
      go (got c n) i h =
          let z : ends_in c ≡ e = cc in
          record { sections = c; ends = sym z; whole = whole_is profile s i }
      go (refused f q) i h = absurd (let z : ◌≡◌ {A = ℕ} 0 1 = cc in omega arith)

  pub accepted : Accepts profile s (reading profile s).held
  accepted = whole_Accepts sectioned.whole

  pub lengths_held : texts ≡ lengths_in (reading profile s).held
  lengths_held = w.lengths ∙ whole_lengths sectioned.whole

abbrev pub faults_in : ℕ → Result SectionEnds Refusal → Result ℕ Refusal
faults_in n (Ok e) = Ok n
faults_in n (Err r) = Err r

-- of the answer itself
module _ (profile : Profile) (s : List ℕ) where
  pub outline_refused : {r : Refusal} → outline profile s ≡ Err r → shortcut profile s ≡ refused r.fault r.spot
  unfolding outline
  outline_refused {r} h = go (shortcut profile s) refl h
    where
      go : (o : Outcome Sections) → shortcut profile s ≡ o → outlined o ≡ Err r → shortcut profile s ≡ refused r.fault r.spot
      go (got c n) i h = absurd (let z : ◌≡◌ {A = ℕ} 0 1 = cc in omega arith)
      go (refused f q) i h =
          let z : refusal f q ≡ r = cc in
          i ∙ ap (λ (x : Refusal). refused x.fault x.spot) z

  -- the code's answer o accepts, with the row of signatures beside it
  module _ {o : Result SectionEnds Refusal} {e : SectionEnds} (i : o ≡ outline profile s) (k : o ≡ Ok e) where
    accepting : Whole profile s e (lengths_read profile s)
    accepting = record { ends = sym i ∙ k; lengths = refl }

    pub outline_accepted : Accepts profile s (reading profile s).held
    outline_accepted = accepted accepting

    pub outline_noted : {row : List ℕ} → row ≡ firsts_read profile s → FirstsOf s (reading profile s).held row
    outline_noted r = rw r (whole_noted (sectioned accepting).whole)

  -- the verdict of the outline is that of reading
  pub outline_verdict : next_verdict (length s) (outline profile s) ≡ (reading profile s).verdict
  unfolding outline reading
  outline_verdict = go (shortcut profile s) refl
    where
      go : (o : Outcome Sections) → shortcut profile s ≡ o → next_verdict (length s) (outlined o) ≡ verdict_of o
      go (got c n) i = ap Ok (sym (shortcut-Whole profile s c n i).all)
      go (refused f q) i = refl

  pub read_Numbered : {v : Verdict} → v ≡ (reading profile s).verdict → Numbered v (shortcut profile s)
  unfolding reading
  read_Numbered e = numbered (shortcut profile s) e

  -- the code's answer o, and what it gives for it
  module _ {o : Result SectionEnds Refusal} (is : o ≡ outline profile s) {v : Verdict} (verdict : v ≡ next_verdict (length s) o) where
    pub verdict_held : v ≡ (reading profile s).verdict
    verdict_held = verdict ∙ ap (next_verdict (length s)) is ∙ outline_verdict

    pub read_accepted : {r : Record} → r ≡ (reading profile s).held → record { verdict = v; held = r } ≡ reading profile s
    read_accepted e = rw (verdict_held, e)

    pub read_refused : {r : Refusal} → o ≡ Err r → record { verdict = v; held = no_record } ≡ reading profile s
    unfolding reading
    read_refused e = rw (verdict_held, outline_refused (sym is ∙ e))

  -- the shortcut's length, or the refusal as it is
  pub outline_fault : {o : Result SectionEnds Refusal} → o ≡ outline profile s → faults_in (length s) o ≡ faulted profile s
  unfolding outline faulted
  outline_fault e = ap (faults_in (length s)) e ∙ go (shortcut profile s) refl
    where
      go : (o : Outcome Sections) → shortcut profile s ≡ o → faults_in (length s) (outlined o) ≡ faulted_by o
      go (got c n) i = ap Ok (sym (shortcut-Whole profile s c n i).all)
      go (refused f q) i = refl

  -- its number and its value are those of the shortcut's reading
  pub outline_answers : {o : Result SectionEnds Refusal} → o ≡ outline profile s → OutlineAnswer profile s o
  unfolding outline next_number next_value
  outline_answers e = rw e (go (shortcut profile s) refl)
    where
      go : (o : Outcome Sections) → shortcut profile s ≡ o → OutlineAnswer profile s (outlined o)
      go (got c n) i = record { is = ap outlined (sym i); number = rw i; value = rw (i, (shortcut-Whole profile s c n i).all) (sym (zero-add (length s))) }
      go (refused f q) i = record { is = ap outlined (sym i); number = rw i; value = rw i }

  -- all that the first phase tells
  pub told : {o : Result SectionEnds Refusal} {texts row : List ℕ} → o ≡ outline profile s → texts ≡ lengths_read profile s → row ≡ firsts_read profile s → Told profile s o texts row
  unfolding reading
  told {o} {texts} {row} i t r = record {
    whole = λ e k. is_whole e k;
    accepted = λ e k. accepted (is_whole e k);
    lengths = λ e k. lengths_held (is_whole e k);
    noted = λ e k. rw r (whole_noted (sectioned (is_whole e k)).whole);
    off = λ x k. outline_refused (sym i ∙ k);
    stopped = λ x k. rw (outline_refused (sym i ∙ k));
  }
    where
      is_whole : (e : SectionEnds) → o ≡ Ok e → Whole profile s e texts
      is_whole e k = record { ends = sym i ∙ k; lengths = t }
