-- What a record's types give its contents: bytes are bytes, numbers fit, what is absent is zero.
use mathlib.Core.Path.{◌≡◌, refl, sym, ap, ◌∙◌}
use mathlib.Core.List.{List, [], ◌∷◌, map}
use mathlib.Core.Bool.{Bool, true, false, ◌&&◌, cond}
use Prim.Native.Nat.{ℕ, ◌+◌, ◌<◌, ◌^◌}
use native.Mathlib.Omega.{arith}
use native.Mathlib.Nat.{add-zero}
use lib.ListN.{drop, get_or}
use lib.Seq.{get_or-drop, drop-drop}
use Rattle.octets.specs.Numbers.{Bytes}
use Rattle.octets.proofs.NumberLaws.{Bytes-take, Bytes-drop}
use Rattle.format.specs.declared.Place.{Place}
use Rattle.format.specs.declared.Link.{Link}
use Rattle.format.specs.declared.Record.{Record}
use Rattle.format.specs.Tests.{no_place}
use Rattle.format.specs.Presence.{info_there, local_there, network_there, provider_there}
use Rattle.format.specs.Shortcut.{no_link}
use Rattle.format.specs.Bodies.{BodyRow, table_of, along, kept}
use Rattle.format.specs.Contents.{present_link, present, bytes_at, contents}
use Rattle.format.proofs.Ranges.{FitsLink, FitsRecord}
use Rattle.format.proofs.RowLaws.{Each, present_link_lem, present-Alike, Each-Alike}
use Rattle.format.proofs.Chains.{IfThere}
use Rattle.format.proofs.WholeLaws.{Typed}

pub kept_below : (t : Bool) (x : ℕ) → x < 2 ^ 32 → cond t x 0 < 2 ^ 32
kept_below true x h = h
kept_below false x h = omega arith

link_below : (i : Bool) (l : Link) → FitsLink l → FitsLink (cond i (present_link l) no_link)
link_below true l h = record {
  flags = h.flags;
  drive = kept_below (local_there l.flags) l.drive h.drive;
  serial = kept_below (local_there l.flags) l.serial h.serial;
  network_flags = kept_below (network_there l.flags) l.network_flags h.network_flags;
  provider = kept_below (network_there l.flags && provider_there l.network_flags) l.provider h.provider;
}
link_below false l h = record { flags = omega arith; drive = omega arith; serial = omega arith; network_flags = omega arith; provider = omega arith }

module _ (d : List ℕ) (bs : Bytes d) where
  body_there : (t : Bool) (b : Place) → IfThere t [] Bytes (bytes_at d (cond t b no_place))
  body_there true b = Bytes-take b.len (drop b.at d) (Bytes-drop b.at d bs)
  body_there false b = refl

  bodies_there : (k : ℕ) (rows : List BodyRow) (ps : List Place) (xs : List (List ℕ)) → drop k xs ≡ map (bytes_at d) (along no_place kept k rows ps)
      → Each [] (λ b. IfThere b.there [] Bytes) k rows xs
  bodies_there k [] ps xs e = tt
  bodies_there k (b ∷ rows) ps xs e =
      let x : get_or xs k [] ≡ bytes_at d (kept b (get_or ps k no_place)) = rw add-zero at (sym (get_or-drop k xs 0 []) ∙ ap (λ (l : List (List ℕ)). get_or l 0 []) e) in
      (rw x (body_there b.there (get_or ps k no_place)), bodies_there (k + 1) rows ps xs (rw drop-drop at (ap (drop 1) e)))

  pub record_Typed : (r : Record) → FitsRecord r → Typed (contents d r)
  unfolding contents present
  record_Typed r t = record {
    header = t.header;
    fits = link_below (info_there r.header.flags) r.link t.link;
    zeros = present_link_lem (info_there r.header.flags) r.link;
    row = refl;
    bodies =
        Each-Alike [] (λ there. IfThere there [] Bytes) 0 (table_of (present r)) (table_of r) (contents d r).bodies (present-Alike r)
        (bodies_there 0 (table_of r) r.places (contents d r).bodies refl);
  }
