-- Contents and a record beside them that has the lengths of their bodies: the sizes by the record are those of the contents as written.
use mathlib.Core.Path.{◌≡◌, refl, sym, ap, ◌∙◌}
use mathlib.Core.List.{List, [], ◌∷◌, map}
use mathlib.Core.Bool.{Bool, true, false}
use Prim.Native.Nat.{ℕ, ◌+◌, ◌≤◌, ◌<◌}
use native.Mathlib.Omega.{arith}
use lib.ListN.{length, get_or, length-append}
use Rattle.octets.proofs.NumberLaws.{length-little}
use Rattle.format.specs.declared.Place.{Place}
use Rattle.format.specs.declared.Header.{Header}
use Rattle.format.specs.declared.Link.{Link}
use Rattle.format.specs.declared.Record.{Record}
use Rattle.format.specs.Tests.{no_place}
use Rattle.format.specs.Presence.{info_there, local_there, network_there}
use Rattle.format.specs.Shortcut.{sum}
use Rattle.format.specs.Bodies.{BodyKind, BodyRow, body_row, body_table, further_slot, along}
use Rattle.format.specs.Contents.{Contents, body_in}
use Rattle.format.specs.Writing.{header_bytes, canonical}
use Rattle.format.specs.Steps.Lengths.{beside, written_body, written_row, written_heads, written_length}
use Rattle.format.specs.Steps.Shape.{shape_of}
use Rattle.format.specs.Steps.Flat.{row_bytes, bodies_bytes, volume_head_bytes, network_head_bytes, contents_flat}
use Rattle.format.proofs.RowLaws.{map_at}
use Rattle.format.proofs.FlatLaws.{SizedOf, contents_flat_lem, length_info_head, length_volume_head, length-network_head}
use Rattle.sizes.proofs.WholeLaws.{kind_length, head_if}

module _ (h : Header) (l : Link) (ps : List Place) (bs : List (List ℕ)) (long : (k : ℕ) → k < 17 → length (get_or bs k []) ≡ (get_or ps k no_place).len) where
  abbrev c : Contents
  c = record { header = h; link = l; bodies = bs }

  abbrev q : Record
  q = record { header = h; link = l; places = ps }

  abbrev put : List (List ℕ)
  put = along [] row_bytes 0 (body_table h.flags l) bs

  rows_length : (k : ℕ) (rows : List BodyRow) → k + length rows ≤ 17 → map length (along [] row_bytes k rows bs) ≡ along no_place written_body k rows ps
  rows_length k [] e = refl
  rows_length k (b ∷ rows) e = rw (one b.there b.kind (get_or bs k []) (get_or ps k no_place) (long k (omega arith)), rows_length (k + 1) rows (omega arith))
    where
      one : (t : Bool) (j : BodyKind) (x : List ℕ) (p : Place) → length x ≡ p.len → length (row_bytes (body_row t j) x) ≡ written_body (body_row t j) p
      one true j x p e = kind_length j x ∙ ap (λ (n : ℕ). n + beside j) e
      one false j x p e = refl

  row_measured : map length put ≡ written_row q
  row_measured = rows_length 0 (body_table h.flags l) (omega arith)

  pub measured : SizedOf c (written_row q)
  measured k e = ap (λ (w : List ℕ). get_or w k 0) (sym row_measured) ∙ map_at length put k [] 0 e

  flat_length : (w : List ℕ) (i : Bool) → info_there h.flags ≡ i → length (contents_flat c (shape_of h.flags l) w) ≡ 76 + written_heads q + sum (map length put)
  unfolding contents_flat bodies_bytes shape_of header_bytes
  flat_length w true i =
      rw i
      (simp (length-append (body_in c further_slot), length-append, length-little)
      (omega (
        arith,
        length_info_head l w,
        head_if (local_there l.flags) (volume_head_bytes l w) (length_volume_head l w),
        head_if (network_there l.flags) (network_head_bytes l w) (length-network_head l w),
      )))
  flat_length w false i = rw i (simp (length-append, length-little) (omega arith))

  pub measured_length : length (canonical c) ≡ written_length q
  unfolding written_length
  measured_length =
      ap length (contents_flat_lem c (written_row q) measured)
      ∙ flat_length (written_row q) (info_there h.flags) refl
      ∙ ap (λ (w : List ℕ). 76 + written_heads q + sum w) row_measured
