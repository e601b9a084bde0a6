-- The rules of LinkInfo's numbers and of the bodies hold of a record where they hold of its contents, and all of them put together.
use mathlib.Core.Path.{◌≡◌, refl, sym, ap, ◌∙◌}
use mathlib.Core.List.{List, [], ◌∷◌}
use mathlib.Core.Bool.{Bool, true, false, ◌&&◌, cond}
use Prim.Native.Nat.{ℕ}
use lib.Dec.{leb}
use Rattle.format.specs.declared.Profile.{Profile}
use Rattle.format.specs.declared.Link.{Link}
use Rattle.format.specs.declared.Record.{Record}
use Rattle.format.specs.Tests.{no_place}
use Rattle.format.specs.Presence.{info_there, local_there, network_there}
use Rattle.format.specs.Shortcut.{no_link}
use Rattle.format.specs.Bodies.{table_of, along}
use Rattle.format.specs.Contents.{present_link, present, contents}
use Rattle.format.specs.Writing.{every, writable_if, writable_header, writable_link, writable_row, writable_bodies}
use Rattle.format.specs.Steps.Shape.{Shape, shape_of}
use Rattle.format.proofs.Bools.{joined-every, and_assoc, and_yes}
use Rattle.format.proofs.RowLaws.{along-contents}
use Rattle.writable.specs.Steps.Slots.{row_ok, slots_ok, bodies_ok}

-- ---- LinkInfo's numbers

-- by the record as by its zeros
numbers_same : (flags : ℕ) (l : Link) (i : Bool) → info_there flags ≡ i → writable_link flags (cond i (present_link l) no_link) ≡ writable_link flags l
numbers_same flags l true e =
    rw (e, kept (local_there l.flags) (λ n. leb n 6) l.drive, kept (network_there l.flags) (λ n. leb n 3) l.network_flags)
  where
    kept : (t : Bool) (f : ℕ → Bool) (n : ℕ) → writable_if t f (cond t n 0) ≡ writable_if t f n
    kept true f n = refl
    kept false f n = refl
numbers_same flags l false e = rw e

link_same : (d : List ℕ) (q : Record) → writable_link q.header.flags (contents d q).link ≡ writable_link q.header.flags q.link
unfolding contents present
link_same d q = numbers_same q.header.flags q.link (info_there q.header.flags) refl

-- ---- the bodies

bodies_kinds : (d : List ℕ) (q : Record) → every (along no_place (row_ok d) 0 (table_of q) q.places) ≡ bodies_ok d q.places (shape_of q.header.flags q.link) q.link.long
unfolding bodies_ok slots_ok shape_of
bodies_kinds d q = simp (and_assoc, and_yes)

pub bodies_same : (d : List ℕ) (q : Record) → every (writable_bodies (contents d q)) ≡ bodies_ok d q.places (shape_of q.header.flags q.link) q.link.long
unfolding contents
bodies_same d q = ap every (along-contents writable_row true (λ k x. refl) d q) ∙ bodies_kinds d q

-- ---- together

pub sections_are : (profile : Profile) (d : List ℕ) (q : Record) {s : Shape} {h l b : Bool} → s ≡ shape_of q.header.flags q.link → h ≡ writable_header profile q.header
    → l ≡ writable_link q.header.flags q.link → b ≡ bodies_ok d q.places s q.link.long
    → (h && l && b) ≡ every (writable_header profile (contents d q).header ∷ writable_link (contents d q).header.flags (contents d q).link ∷ every (writable_bodies (contents d q)) ∷ [])
unfolding contents present
sections_are profile d q {s} {h} {l} {b} e eh el eb =
    let m : b ≡ every (writable_bodies (contents d q)) = eb ∙ ap (λ (z : Shape). bodies_ok d q.places z q.link.long) e ∙ sym (bodies_same d q) in
    let n : l ≡ writable_link q.header.flags (contents d q).link = el ∙ sym (link_same d q) in
    joined-every h (l ∷ b ∷ []) ∙ rw (eh, m, n)
