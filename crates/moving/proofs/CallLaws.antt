-- One law for each way out of a move.
use mathlib.Core.Path.{◌≡◌, refl, sym, ap, ◌∙◌}
use mathlib.Core.List.{List, []}
use mathlib.Core.Bool.{Bool, true, false, not}
use Prim.Native.Nat.{ℕ, ◌/◌, ◌≤◌, ◌<◌}
use native.Mathlib.Omega.{arith}
use lib.ListN.{length, get_or}
use lib.Dec.{leb, eqb}
use borrow.Author.Tests.{le-leb, lt-leb, eqb-true, not-true, not-false}
use Rattle.octets.specs.Numbers.{Bytes}
use Rattle.octets.specs.Parts.{put}
use Rattle.format.specs.declared.Profile.{Profile}
use Rattle.format.specs.declared.Record.{Record}
use Rattle.format.specs.declared.Fault.{Fault}
use Rattle.format.specs.declared.Fault.TheVariants.{Unwritable as UNWRITABLE, Room as ROOM, NoMap as NOMAP}
use Rattle.format.specs.declared.Reading.{Reading}
use Rattle.format.specs.Tests.{Outcome, refused}
use Rattle.format.specs.Presence.{info_there, strings_unicode}
use Rattle.format.specs.Numbers.{Numbered}
use Rattle.format.specs.Shortcut.{most, reading, verdict_of}
use Rattle.format.specs.Bodies.{further_slot, place_in}
use Rattle.format.specs.Contents.{Contents, present, bodies_of, contents}
use Rattle.format.specs.Writing.{canonical, writable, output_of}
use Rattle.format.specs.Demands.{Accepts}
use Rattle.format.specs.Codepage.{all_in_table}
use Rattle.format.specs.Moving.{flags_of, moving, to_unicode, to_byte_strings, to_unicode_answer, to_unicode_output, to_bytes_answer, to_bytes_output, MovesToUnicode, MovesToBytes}
use Rattle.format.specs.Steps.Lengths.{written_row, written_length}
use Rattle.format.specs.Steps.Shape.{Shape, shape_of}
use Rattle.format.specs.Steps.Flat.{info_to}
use Rattle.format.proofs.AnswerLaws.{nowhere, numbered}
use Rattle.format.proofs.Bools.{clash, by_order}
use Rattle.format.proofs.Holds.{header_writable}
use Rattle.format.proofs.BodyLaws.{body_length}
use Rattle.format.proofs.RowLaws.{bytes_at_lem}
use Rattle.format.proofs.WholeLaws.{Valid, shortest}
use Rattle.format.proofs.AcceptedLaws.{accepted_held, accepted_present, accepted_decode, accepted_bodies, accepted_limit, RefusedWith, refused_read}
use Rattle.format.proofs.MoveLaws.{OfStrings, bit_clear, bit_set, set_unicode, clear_unicode, maps_unicode, maps_bytes, unicode_Valid, no_further, bytes_Valid, bytes_writable, Valid-writable}
use Rattle.format.proofs.Demands.{accepted_whole}
use Rattle.format.proofs.MoveDemands.{to_unicode_is, to_bytes_is, moves_to_unicode, moves_to_bytes}
use Rattle.sizes.specs.Steps.Sizes.{sizes_of, clipped_length}
use Rattle.sizes.proofs.WholeLaws.{exact_row, exact_length, over_length}
use Rattle.moves.specs.Steps.Moves.{maps, head_fits, moved, call, moved_flags, in_row, moved_record, Few, Lengths, Inside, Known, Going, ReadFrom}
use Rattle.moving.specs.Steps.Pieces.{info_size, moved_total, moved_flat}
use Rattle.moving.proofs.FlatLaws.{moved-length, moved_put, info_size_lem, total_size}
use Rattle.format.specs.Verdicts.{Verdict, refused_at}
use Rattle.std.specs.Prelude.{Ok}

-- ---- a refused shortcut stays refused

left_unicode : (profile : Profile) (s out : List ℕ) {f : Fault} {p : ℕ} → RefusedWith profile s f p → (refused_at f p ≡ verdict_of (to_unicode profile s (length out))) × (out ≡ output_of (to_unicode profile s (length out)) out)
unfolding to_unicode output_of
left_unicode profile s out i = (rw (i.is, i.told), rw i.is)

left_bytes : (profile : Profile) (s out : List ℕ) {f : Fault} {p : ℕ} → RefusedWith profile s f p → (refused_at f p ≡ verdict_of (to_byte_strings profile s (length out))) × (out ≡ output_of (to_byte_strings profile s (length out)) out)
unfolding to_byte_strings output_of
left_bytes profile s out i = (rw (i.is, i.told), rw i.is)

-- ---- what a shortcut that was read gives

module _ (profile : Profile) {d : List ℕ} {r : Record} (x : ReadFrom profile d r) where
  pub contents_are : contents d r ≡ bodies_of d r
  unfolding contents Accepts
  contents_are = ap (bodies_of d) (accepted_present profile d r (length d) x.accepted)

  pub is_Inside : Inside d r.places
  unfolding Accepts
  is_Inside = record { slot = λ k. accepted_bodies profile d r (length d) x.accepted k }

  is_Valid : Valid profile (contents d r)
  unfolding Accepts
  is_Valid = (shortest profile d (contents d r) (length d) x.bytes (accepted_decode profile d r (length d) x.accepted)).valid

  few_flags : r.header.flags ≤ 0x7FFFFFF
  unfolding Valid contents present
  few_flags =
      let z = eqb-true (r.header.flags / 134217728) 0 (header_writable profile r.header is_Valid.1.0.can).flags in
      omega arith

  is_Few : Few r.places
  unfolding Accepts
  is_Few = record { slot = λ k. omega (arith, accepted_bodies profile d r (length d) x.accepted k, accepted_limit profile d r (length d) x.accepted) }

  flags_are : flags_of (contents d r) ≡ r.header.flags
  unfolding contents present
  flags_are = refl

  -- a head that fits has no further bytes, or stays long
  further_are : no_further (contents d r) ≡ eqb (place_in r further_slot).len 0
  further_are =
      ap (λ (c : Contents). no_further c) contents_are
      ∙ ap (λ (x : List ℕ). eqb (length x) 0) (bytes_at_lem d r.places further_slot)
      ∙ ap (λ (n : ℕ). eqb n 0) (body_length d (in_row r.places further_slot) (is_Inside.slot further_slot))

  module _ (u : Bool) (m : maps u (contents d r) ≡ true) where
    pub has_Lengths : Lengths u r
    has_Lengths = record { few = is_Few; flags = few_flags; set = λ e. go u m e }
      where
        go : (b : Bool) → maps b (contents d r) ≡ true → b ≡ false → 0x80 ≤ r.header.flags
        go true n e = clash refl e
        go false n e = let k = bit_set (flags_of (contents d r)) (maps_bytes (contents d r) n).set in omega (arith, flags_are)

    -- flag bit 7 is as asked
    is_wide : strings_unicode (moved_flags u r.header.flags) ≡ u
    unfolding contents present
    is_wide = go u m
      where
        go : (b : Bool) → maps b (contents d r) ≡ true → strings_unicode (moved_flags b r.header.flags) ≡ b
        go true n = set_unicode r.header.flags (bit_clear r.header.flags (maps_unicode (contents d r) n).clear)
        go false n = clear_unicode r.header.flags (bit_set r.header.flags (maps_bytes (contents d r) n).set)

    is_Known : Known u d r.places
    is_Known = record { slot = λ k l h e. rw (← bytes_at_lem d r.places k) (go u m e k l h) }
      where
        pick : (k : ℕ) → 10 ≤ k → k < 15 → OfStrings all_in_table (bodies_of d r) → all_in_table (get_or (bodies_of d r).bodies k []) ≡ true
        pick k l h o =
            by_order k 10 (λ a. let e : k ≡ 10 = omega arith in rw e o.name) (λ n.
            by_order k 11 (λ a. let e : k ≡ 11 = omega arith in rw e o.relative) (λ m.
            by_order k 12 (λ a. let e : k ≡ 12 = omega arith in rw e o.workdir) (λ w.
            by_order k 13 (λ a. let e : k ≡ 13 = omega arith in rw e o.arguments) (λ v.
            let e : k ≡ 14 = omega arith in
            rw e o.icon))))

        go : (b : Bool) → maps b (contents d r) ≡ true → b ≡ false → (k : ℕ) → 10 ≤ k → k < 15 → all_in_table (get_or (bodies_of d r).bodies k []) ≡ true
        go true n e = clash refl e
        go false n e = λ k l h. pick k l h (maps_bytes (bodies_of d r) (rw contents_are at n)).strings

    -- ---- the ways out

    abbrev result : Contents
    result = moved u (contents d r)

    pub moved_headed : (out : List ℕ) → head_fits u r ≡ false
        → (refused_at UNWRITABLE 0 ≡ verdict_of (moving profile true result (length out))) × (out ≡ output_of (moving profile true result (length out)) out)
    unfolding moving output_of
    moved_headed out h = let w = go u m h in (rw w, rw w)
      where
        go : (b : Bool) → maps b (contents d r) ≡ true → head_fits b r ≡ false → writable profile (moved b (contents d r)) ≡ false
        go true n e = clash refl e
        go false n e = bytes_writable profile (contents d r) is_Valid n ∙ rw (further_are ∙ e)

    length_is : length (canonical result) ≡ written_length (moved_record u r)
    length_is = ap (λ (c : Contents). length (canonical (moved u c))) contents_are ∙ moved-length d r is_Inside u

    module _ (h : head_fits u r ≡ true) where
      moved_Valid : Valid profile result
      moved_Valid = go u m h
        where
          go : (b : Bool) → maps b (contents d r) ≡ true → head_fits b r ≡ true → Valid profile (moved b (contents d r))
          go true n e = unicode_Valid profile (contents d r) is_Valid n
          go false n e = bytes_Valid profile (contents d r) is_Valid n (further_are ∙ e)

      module _ {q : Record} (e : q ≡ moved_record u r) {end : ℕ} (counted : end ≡ clipped_length q) where
        pub moved_long : (out : List ℕ) → most < end
            → (refused_at UNWRITABLE 0 ≡ verdict_of (moving profile true result (length out))) × (out ≡ output_of (moving profile true result (length out)) out)
        unfolding moving output_of
        moved_long out h =
            let l : most < length (canonical result) = omega (arith, over_length q, length_is, ap written_length e) in
            let w : writable profile result ≡ false = Valid-writable profile result moved_Valid ∙ lt-leb (length (canonical result)) most l in
            (rw w, rw w)

        module _ (few : end ≤ most) where
          end_is : end ≡ length (canonical result)
          end_is = counted ∙ exact_length q (omega arith) ∙ ap written_length e ∙ sym length_is

          is_writable : writable profile result ≡ true
          is_writable = Valid-writable profile result moved_Valid ∙ le-leb (length (canonical result)) most (omega (arith, end_is))

          pub moved_short : (out : List ℕ) → length out < end
              → (refused_at ROOM 0 ≡ verdict_of (moving profile true result (length out))) × (out ≡ output_of (moving profile true result (length out)) out)
          unfolding moving output_of
          moved_short out h =
              let k : leb (length (canonical result)) (length out) ≡ false = lt-leb (length (canonical result)) (length out) (omega (arith, end_is)) in
              (rw (is_writable, k), rw (is_writable, k))

          pub moved_Going : (out : List ℕ) → end ≤ length out → Going u d out r
          moved_Going out h = record { inside = is_Inside; known = is_Known; few = omega (arith, end_is, length_is); room = omega (arith, end_is, length_is) }

          pub moved_sized : {sizes : List ℕ} → sizes ≡ sizes_of q → sizes ≡ written_row q
          moved_sized f = f ∙ exact_row q (omega arith)

          pub moved_written : (out : List ℕ) → end ≤ length out → {s : Shape} {sizes x : List ℕ} {n : ℕ} → s ≡ shape_of q.header.flags q.link → sizes ≡ sizes_of q
              → n ≡ length (moved_flat u d r q s sizes) → x ≡ put out 0 (moved_flat u d r q s sizes)
              → (Ok n ≡ verdict_of (moving profile true result (length out))) × (x ≡ output_of (moving profile true result (length out)) out)
          unfolding moving output_of
          moved_written out h {s} {sizes} {x} {n} f g v o =
              let k : leb (length (canonical result)) (length out) ≡ true = le-leb (length (canonical result)) (length out) (omega (arith, end_is)) in
              let flat : moved_flat u d r q s sizes ≡ canonical result = rw (f, moved_sized g, e) (sym (ap (λ (c : Contents). canonical (moved u c)) contents_are ∙ moved_put d r u is_wide is_Inside)) in
              (rw (is_writable, k) (ap Ok (v ∙ ap length flat)), rw (is_writable, k) (o ∙ ap (put out 0) flat))

-- ---- each part has room where the whole has

module _ (d : List ℕ) (r : Record) (u : Bool) {q : Record} {s : Shape} {sizes : List ℕ} (e : q ≡ moved_record u r) (f : s ≡ shape_of q.header.flags q.link) (g : sizes ≡ written_row q) where
  pub info_fits : info_there q.header.flags ≡ true → info_to q.link sizes ≡ info_size r q s
  info_fits i = rw (f, g, e) (info_size_lem d r u (rw e at i))

  pub total_fits : moved_total u r q s sizes ≡ written_length q
  total_fits = sym (rw (f, g, e) (total_size d r u))

  module _ {out : List ℕ} (o : Going u d out r) where
    pub total_room : moved_total u r q s sizes ≤ length out
    total_room = let l = ap written_length e in omega (arith, total_fits, o.room)

    pub total_few : moved_total u r q s sizes ≤ most
    total_few = let l = ap written_length e in omega (arith, total_fits, o.few)

-- ---- the call

module _ (profile : Profile) (u : Bool) (s out : List ℕ) {g : Reading} (e : g ≡ reading profile s) where
  pub move_left : {f : Fault} {p : ℕ} → g.verdict ≡ refused_at f p → (refused_at f p ≡ verdict_of (call profile u s (length out))) × (out ≡ output_of (call profile u s (length out)) out)
  move_left {f} {p} q = go u
    where
      i : RefusedWith profile s f p
      i = refused_read profile s (ap (λ (x : Reading). x.verdict) (sym e) ∙ q)

      go : (b : Bool) → (refused_at f p ≡ verdict_of (call profile b s (length out))) × (out ≡ output_of (call profile b s (length out)) out)
      go true = left_unicode profile s out i
      go false = left_bytes profile s out i

  module _ {n : ℕ} (q : g.verdict ≡ Ok n) (bs : Bytes s) where
    pub is_read : ReadFrom profile s g.held
    unfolding Accepts
    is_read = record { bytes = bs; accepted = accepted_whole profile s g.held n (accepted_held profile s e q) }

    call_is : call profile u s (length out) ≡ moving profile (maps u (contents s g.held)) (moved u (contents s g.held)) (length out)
    call_is = go u
      where
        go : (b : Bool) → call profile b s (length out) ≡ moving profile (maps b (contents s g.held)) (moved b (contents s g.held)) (length out)
        go true = to_unicode_is profile s g.held is_read.accepted (length out)
        go false = to_bytes_is profile s g.held is_read.accepted (length out)

    maps_are : {b : Bool} → b ≡ maps u (bodies_of s g.held) → b ≡ maps u (contents s g.held)
    maps_are f = f ∙ ap (maps u) (sym (contents_are profile is_read))

    pub move_none : {b : Bool} → b ≡ maps u (bodies_of s g.held) → not b ≡ true → (refused_at NOMAP 0 ≡ verdict_of (call profile u s (length out))) × (out ≡ output_of (call profile u s (length out)) out)
    unfolding moving output_of
    move_none {b} f t =
        let z : call profile u s (length out) ≡ refused NOMAP nowhere = call_is ∙ rw (sym (maps_are f) ∙ not-true b t) in
        (rw z, rw z)

    pub move_maps : {b : Bool} → b ≡ maps u (bodies_of s g.held) → not b ≡ false → maps u (contents s g.held) ≡ true
    move_maps {b} f t = sym (maps_are f) ∙ not-false b t

    pub move_made : maps u (contents s g.held) ≡ true → {v : Verdict} {x : List ℕ}
        → v ≡ verdict_of (moving profile true (moved u (contents s g.held)) (length out)) → x ≡ output_of (moving profile true (moved u (contents s g.held)) (length out)) out
        → (v ≡ verdict_of (call profile u s (length out))) × (x ≡ output_of (call profile u s (length out)) out)
    move_made m p o =
        let z : call profile u s (length out) ≡ moving profile true (moved u (contents s g.held)) (length out) = call_is ∙ ap (λ (b : Bool). moving profile b (moved u (contents s g.held)) (length out)) m in
        (p ∙ ap verdict_of (sym z), o ∙ ap (λ (y : Outcome (List ℕ)). output_of y out) (sym z))

    pub move_headed : maps u (contents s g.held) ≡ true → {b : Bool} → b ≡ head_fits u g.held → not b ≡ true
        → (refused_at UNWRITABLE 0 ≡ verdict_of (call profile u s (length out))) × (out ≡ output_of (call profile u s (length out)) out)
    move_headed m {b} f t = let z = moved_headed profile is_read u m out (sym f ∙ not-true b t) in move_made m z.0 z.1

-- what each of the two calls says of its answer v and its buffer x
pub unicode_call : (profile : Profile) (s out : List ℕ) → Bytes s → {v : Verdict} {x : List ℕ} → v ≡ verdict_of (to_unicode profile s (length out)) → x ≡ output_of (to_unicode profile s (length out)) out
    → (v ≡ to_unicode_answer profile s out) × ((x ≡ to_unicode_output profile s out) × (Numbered v (to_unicode profile s (length out)) × MovesToUnicode profile s out v x))
unfolding to_unicode_answer to_unicode_output
unicode_call profile s out bs a o = (a, (o, (numbered (to_unicode profile s (length out)) a, rw (a, o) (moves_to_unicode profile s bs out))))

pub Bytes-call : (profile : Profile) (s out : List ℕ) → Bytes s → {v : Verdict} {x : List ℕ} → v ≡ verdict_of (to_byte_strings profile s (length out)) → x ≡ output_of (to_byte_strings profile s (length out)) out
    → (v ≡ to_bytes_answer profile s out) × ((x ≡ to_bytes_output profile s out) × (Numbered v (to_byte_strings profile s (length out)) × MovesToBytes profile s out v x))
unfolding to_bytes_answer to_bytes_output
Bytes-call profile s out bs a o = (a, (o, (numbered (to_byte_strings profile s (length out)) a, rw (a, o) (moves_to_bytes profile s bs out))))
