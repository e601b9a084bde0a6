-- Which records can be written, by the length of the whole and by the rest.
use mathlib.Core.Path.{◌≡◌, sym, ◌∙◌}
use mathlib.Core.List.{List, [], ◌∷◌}
use mathlib.Core.Bool.{Bool, true, false}
use Prim.Native.Nat.{ℕ, ◌≤◌, ◌<◌}
use native.Mathlib.Omega.{arith}
use lib.ListN.{length}
use lib.Dec.{leb}
use borrow.Author.Tests.{le-leb, lt-leb}
use Rattle.format.specs.declared.Profile.{Profile}
use Rattle.format.specs.declared.Record.{Record}
use Rattle.format.specs.Shortcut.{most}
use Rattle.format.specs.Bodies.{placed}
use Rattle.format.specs.Contents.{contents}
use Rattle.format.specs.Writing.{every, canonical, writable_header, writable_link, writable_bodies, writable}
use Rattle.format.proofs.Bools.{by_order, clash, and_no, and_yes}
use Rattle.sizes.specs.Steps.Sizes.{clipped_length}
use Rattle.sizes.proofs.WholeLaws.{canonical-length, exact_length, over_length}
use Rattle.writable.proofs.TestLaws.{every_last}

module _ (profile : Profile) (d : List ℕ) (q : Record) (inside : placed (length d) q ≡ true) where
  abbrev rules : List Bool
  rules = writable_header profile (contents d q).header ∷ writable_link (contents d q).header.flags (contents d q).link ∷ every (writable_bodies (contents d q)) ∷ []

  -- the count of the whole decides first
  module _ {n : ℕ} (count : n ≡ clipped_length q) where
    pub writable_long : most < n → false ≡ writable profile (contents d q)
    unfolding writable
    writable_long h =
        let long : most < length (canonical (contents d q)) = rw (canonical-length d q inside) (omega (arith, over_length q)) in
        let t : leb (length (canonical (contents d q))) most ≡ false = lt-leb (length (canonical (contents d q))) most long in
        sym (every_last rules (leb (length (canonical (contents d q))) most) ∙ rw t (and_no (every rules)))

    -- else it is the length
    pub short_length : n ≤ most → n ≡ length (canonical (contents d q))
    short_length h = count ∙ exact_length q (omega arith) ∙ sym (canonical-length d q inside)

    pub writable_short : n ≤ most → {r : Bool} → r ≡ every rules → r ≡ writable profile (contents d q)
    unfolding writable
    writable_short h e =
        let t : leb (length (canonical (contents d q))) most ≡ true = le-leb (length (canonical (contents d q))) most (omega (arith, short_length h)) in
        e ∙ sym (every_last rules (leb (length (canonical (contents d q))) most) ∙ rw t (and_yes (every rules)))

    -- for a record that can be written the count is no more than the most
    pub writable_few : writable profile (contents d q) ≡ true → n ≤ most
    writable_few e = by_order n most (λ h. h) (λ h. clash e (sym (writable_long h)))
