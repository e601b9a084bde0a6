-- One law for each way out of the call, and what is known on the way there.
use mathlib.Core.Path.{◌≡◌, refl, sym, ap, ◌∙◌}
use mathlib.Core.List.{List, ◌++◌}
use mathlib.Core.Bool.{Bool, true, false, ◌&&◌, cond}
use Prim.Native.Nat.{ℕ, ◌+◌, ◌-◌, ◌≤◌, ◌<◌}
use native.Mathlib.Omega.{arith}
use lib.ListN.{length, length-append}
use lib.Dec.{leb}
use borrow.Author.Tests.{le-leb, lt-leb}
use Rattle.octets.specs.Numbers.{Bytes, little}
use Rattle.octets.specs.Parts.{put}
use Rattle.octets.specs.Steps.Puts.{part}
use Rattle.octets.proofs.NumberLaws.{length-little}
use Rattle.format.specs.declared.Profile.{Profile}
use Rattle.format.specs.declared.Record.{Record}
use Rattle.format.specs.declared.Fault.{Fault}
use Rattle.format.specs.declared.Fault.TheVariants.{Place as PLACE, Unwritable as UNWRITABLE, Room as ROOM}
use Rattle.format.specs.Tests.{got, refused}
use Rattle.format.specs.Numbers.{Numbered}
use Rattle.format.specs.Shortcut.{most}
use Rattle.format.specs.Bodies.{blocks_slot, place_in, zeroed, table_of, placed}
use Rattle.format.specs.Contents.{Contents, body_in, present, contents}
use Rattle.format.specs.Writing.{end_to_end, blocks_bytes, canonical, writable, output_of}
use Rattle.format.specs.PathWriting.{is_path, path_text, path_block, blocks_in, with_block, with_path, path_writing, path_answer, path_output, PathEnds}
use Rattle.format.proofs.Ranges.{FitsRecord}
use Rattle.format.proofs.Bools.{and-true}
use Rattle.format.proofs.BodyLaws.{body_part}
use Rattle.format.proofs.PlaceLaws.{slot_inside}
use Rattle.format.proofs.AnswerLaws.{nowhere, numbered}
use Rattle.format.proofs.PathLaws.{Path, path_text_lem, new_length, new_signature}
use Rattle.format.proofs.PathDemands.{front, before_blocks, after_blocks, body-writable, length_decides, path_ends}
use Rattle.writer.proofs.Laws.{Leaves, leaving_ends}
use Rattle.pathing.specs.Steps.Places.{block_place, path_fits, Found}
use Rattle.pathing.proofs.PutLaws.{length_over, over_part}
use Rattle.pathing.proofs.WalkLaws.{put_in}
use Rattle.format.specs.Verdicts.{Verdict, refused_at}
use Rattle.std.specs.Prelude.{Ok}

-- three tests, of which one fails
one_fails : {A : Type 0} (a b c : Bool) (x y : A) → (a && b && c) ≡ false → cond a (cond b (cond c x y) y) y ≡ y
one_fails true true true x y e = absurd (let z : ◌≡◌ {A = ℕ} 0 1 = cc in omega arith)
one_fails true true false x y e = refl
one_fails true false c x y e = refl
one_fails false b c x y e = refl

-- ---- the blocks of a record whose bodies are placed

module _ (r : Record) (d : List ℕ) where
  abbrev body : List ℕ
  body = body_in (contents d r) blocks_slot

  body_shown : placed (length d) r ≡ true → {x : List ℕ} → x ≡ part d (place_in r blocks_slot).at (place_in r blocks_slot).len → x ≡ body
  unfolding placed contents present
  body_shown inside e = e ∙ body_part d (place_in r blocks_slot) (slot_inside (length d) (zeroed (table_of r) r.places) blocks_slot inside)

-- ---- the call

module _ (profile : Profile) (r : Record) (d : List ℕ) (signature : ℕ) (text unicode out : List ℕ) where
  abbrev old : Contents
  old = contents d r

  abbrev block : List ℕ
  block = path_block signature text unicode

  abbrev new : Contents
  new = with_path block old

  -- an answer and the buffer afterwards, as the definition has them
  abbrev Told : Verdict → List ℕ → Type 0
  Told v x = (v ≡ path_answer profile r d signature text unicode out) × (x ≡ path_output profile r d signature text unicode out)

  -- an outcome of the definitions is an end of the demand, since the types give that the numbers fit and that bytes are bytes
  pub ended : FitsRecord r × (Bytes d × (Bytes text × Bytes unicode)) → {v : Verdict} {x : List ℕ} → Told v x
      → (v ≡ path_answer profile r d signature text unicode out)
      × ((x ≡ path_output profile r d signature text unicode out)
      × (Numbered v (path_writing profile r d signature text unicode (length out)) × PathEnds profile r d signature text unicode out v x))
  unfolding path_answer
  ended (fits, (bytes, (narrow, wide))) (p, q) =
      (p, (q, (numbered (path_writing profile r d signature text unicode (length out)) p, rw (p, q) (path_ends profile r d signature text unicode fits bytes narrow wide out))))

  path_outside : placed (length d) r ≡ false → Told (refused_at PLACE 0) out
  unfolding path_writing path_answer path_output output_of
  path_outside t =
      let z : path_writing profile r d signature text unicode (length out) ≡ refused PLACE nowhere = rw t in
      (rw z, rw z)

  module _ (inside : placed (length d) r ≡ true) where
    path_unfit : path_fits signature text unicode ≡ false → Told (refused_at UNWRITABLE 0) out
    unfolding path_writing path_answer path_output output_of path_fits
    path_unfit t =
        let z : path_writing profile r d signature text unicode (length out) ≡ refused UNWRITABLE nowhere
        = rw inside (one_fails (is_path signature) (path_text false text) (path_text true unicode) _ _ t) in
        (rw z, rw z)

    module _ (fit : path_fits signature text unicode ≡ true) where
      signed : is_path signature ≡ true
      unfolding path_fits
      signed = (and-true (is_path signature) (path_text false text) (and-true (is_path signature && path_text false text) (path_text true unicode) fit).0).0

      narrowed : path_text false text ≡ true
      unfolding path_fits
      narrowed = (and-true (is_path signature) (path_text false text) (and-true (is_path signature && path_text false text) (path_text true unicode) fit).0).1

      widened : path_text true unicode ≡ true
      unfolding path_fits
      widened = (and-true (is_path signature && path_text false text) (path_text true unicode) fit).1

      path_unwritable : writable profile old ≡ false → Told (refused_at UNWRITABLE 0) out
      unfolding path_writing path_answer path_output output_of
      path_unwritable t =
          let z : path_writing profile r d signature text unicode (length out) ≡ refused UNWRITABLE nowhere
          = rw (inside, signed, narrowed, widened, t) in
          (rw z, rw z)

      -- the texts and the record have passed: x are the record's blocks, and the block's place in them is `at`
      module _ (can : writable profile old ≡ true) (bytes : Bytes text × Bytes unicode) {x : List ℕ} (shown : x ≡ body r d) {at : ℕ} (found : Found signature x at) where
        path : Path signature text unicode
        path = record { sign = signed; bytes = bytes; narrow = narrowed; wide = widened }

        front_is : length (front profile r d) + (length x + 4) ≡ length (canonical old)
        front_is = omega (arith, ap length shown, ap length (before_blocks profile r d), length-append (front profile r d) (blocks_bytes (body r d)), length-append (body r d) (little 4 0), length-little 4 0)

        in_body : at ≤ length (body r d)
        in_body = omega (arith, found.inside, ap length shown)

        changed : end_to_end (with_block block (blocks_in (body r d))) ≡ put (body r d) at block
        changed =
            let whole = body-writable profile r d can in
            let place : at ≡ block_place signature (body r d) = rw shown at found.place whole in
            put_in (body r d) block whole (new_signature path) signed (new_length path) ∙ rw (← place)

        written : canonical new ≡ front profile r d ++ blocks_bytes (put (body r d) at block)
        written = after_blocks profile r d block ∙ ap (λ (y : List ℕ). front profile r d ++ blocks_bytes y) changed

        body_after : length (put (body r d) at block) ≡ length x + (at + 788 - length x)
        body_after = omega (arith, rw (new_length path) at (length_over (body r d) block at in_body), ap length shown)

        total_is : length (canonical old) + (at + 788 - length x) ≡ length (canonical new)
        total_is =
            omega (
              arith,
              front_is,
              body_after,
              ap length written,
              length-append (front profile r d) (blocks_bytes (put (body r d) at block)),
              length-append (put (body r d) at block) (little 4 0),
              length-little 4 0,
            )

        decides : writable profile new ≡ leb (length (canonical new)) most
        decides = length_decides profile r d path can

        path_long : most < length (canonical old) + (at + 788 - length x) → Told (refused_at UNWRITABLE 0) out
        unfolding path_writing path_answer path_output output_of
        path_long h =
            let no : writable profile new ≡ false = decides ∙ lt-leb (length (canonical new)) most (omega (arith, total_is)) in
            let z : path_writing profile r d signature text unicode (length out) ≡ refused UNWRITABLE nowhere
            = rw (inside, signed, narrowed, widened, can, no) in
            (rw z, rw z)

        module _ (short : length (canonical old) + (at + 788 - length x) ≤ most) where
          could : writable profile new ≡ true
          could = decides ∙ le-leb (length (canonical new)) most (omega (arith, total_is))

          path_room : length out < length (canonical old) + (at + 788 - length x) → Told (refused_at ROOM 0) out
          unfolding path_writing path_answer path_output output_of
          path_room h =
              let no : leb (length (canonical new)) (length out) ≡ false = lt-leb (length (canonical new)) (length out) (omega (arith, total_is)) in
              let z : path_writing profile r d signature text unicode (length out) ≡ refused ROOM nowhere
              = rw (inside, signed, narrowed, widened, can, could, no) in
              (rw z, rw z)

          path_put : length (canonical old) + (at + 788 - length x) ≤ length out → {n more : ℕ} → n ≡ length (canonical old) + more → more ≡ at + 788 - length x
              → {b y z : List ℕ} → y ≡ put out 0 (canonical old) → b ≡ block → z ≡ put (put y (n - more - 4 - length x + at) b) (n - 4) (little 4 0) → Told (Ok n) z
          unfolding path_writing path_answer path_output output_of
          path_put h {n} {more} sum m e f g =
              let yes : leb (length (canonical new)) (length out) ≡ true = le-leb (length (canonical new)) (length out) (omega (arith, total_is)) in
              let z : path_writing profile r d signature text unicode (length out) ≡ got (canonical new) (length (canonical new))
              = rw (inside, signed, narrowed, widened, can, could, yes) in
              let k : n ≡ length (canonical new) = omega (arith, sum, m, total_is) in
              let p : n - more - 4 - length x + at ≡ length (front profile r d) + at = omega (arith, sum, front_is) in
              let q : n - 4 ≡ length (front profile r d) + length (put (body r d) at block) = omega (arith, sum, m, front_is, body_after) in
              (rw z (ap Ok k), rw z (g ∙ rw (e, f, p, q, before_blocks profile r d, written) (over_part out (front profile r d) (body r d) (little 4 0) block at in_body)))

  -- ---- the ways out

  -- what an accepted call knows: where the parts stand
  pub record Stand (n more : ℕ) (x : List ℕ) (at : ℕ) : Type 0 where
    pub texts : (length text ≤ 260) × (length unicode ≤ 520)
    pub before : more + (length x + 4) ≤ n
    pub room : n ≤ length out
    pub place : n - more - 4 - length x + at + 788 ≤ length out

  module _ (bytes : Bytes text × Bytes unicode) {x : List ℕ} (e : x ≡ part d (place_in r blocks_slot).at (place_in r blocks_slot).len) {at : ℕ} (found : Found signature x at)
      {k : Bool} (j : k ≡ path_fits signature text unicode) {more : ℕ} (m : more ≡ cond k (at + 788 - length x) 65537) where
    -- what does not fit adds more than the most
    by_fit {ℓ} : (X : Type ℓ) → (path_fits signature text unicode ≡ true → more ≡ at + 788 - length x → X) → (path_fits signature text unicode ≡ false → most < more → X) → X
    by_fit X f g = go k j m
      where
        go : (t : Bool) → t ≡ path_fits signature text unicode → more ≡ cond t (at + 788 - length x) 65537 → X
        go true a b = f (sym a) b
        go false a b = g (sym a) (omega arith)

    pub path_refused : {v : Verdict} {y : List ℕ} → Leaves profile r d more out v y → {f : Fault} {p : ℕ} → v ≡ refused_at f p → Told v y
    path_refused l q =
        leaving_ends profile r d more out (λ v y. (f : Fault) (p : ℕ) → v ≡ refused_at f p → Told v y)
        (λ i f p z. path_outside i)
        (λ i n f p z. by_fit _ (λ t a. path_unwritable i t n) (λ t a. path_unfit i t))
        (λ i c h f p z. by_fit _ (λ t a. path_long i t c bytes (body_shown r d i e) found (rw a at h)) (λ t a. path_unfit i t))
        (λ i c s h f p z. by_fit _ (λ t a. path_room i t c bytes (body_shown r d i e) found (rw a at s) (rw a at h)) (λ t a. absurd (omega arith)))
        (λ i c s h f p z. absurd (let o : ◌≡◌ {A = ℕ} 0 1 = cc in omega arith))
        l _ _ q

    pub path_left : {v : Verdict} {y : List ℕ} → Leaves profile r d more out v y → {n : ℕ} → v ≡ Ok n
        → Stand n more x at
        × ((b z : List ℕ) → b ≡ block → z ≡ put (put y (n - more - 4 - length x + at) b) (n - 4) (little 4 0) → Told (Ok n) z)
    path_left l q =
        leaving_ends profile r d more out
        (λ v y. (n : ℕ) → v ≡ Ok n → Stand n more x at × ((b z : List ℕ) → b ≡ block → z ≡ put (put y (n - more - 4 - length x + at) b) (n - 4) (little 4 0) → Told (Ok n) z))
        (λ i n z. absurd (let o : ◌≡◌ {A = ℕ} 0 1 = cc in omega arith))
        (λ i c n z. absurd (let o : ◌≡◌ {A = ℕ} 0 1 = cc in omega arith))
        (λ i c h n z. absurd (let o : ◌≡◌ {A = ℕ} 0 1 = cc in omega arith))
        (λ i c s h n z. absurd (let o : ◌≡◌ {A = ℕ} 0 1 = cc in omega arith))
        (λ i c s h n z.
        let sum : n ≡ length (canonical old) + more = cc in
        by_fit _
        (λ t a.
        let shown = body_shown r d i e in
        let stand = front_is i t c bytes shown found in (
          record {
            texts = (omega (arith, (path_text_lem false text (narrowed i t)).short), omega (arith, (path_text_lem true unicode (widened i t)).short));
            before = omega arith;
            room = omega arith;
            place = omega (arith, found.inside);
          },
          λ b y f g. path_put i t c bytes shown found (rw a at s) (rw a at h) sum a refl f g,
        ))
        (λ t a. absurd (omega arith)))
        l _ q
