-- LinkInfo's part of a record as numbers, put there of one whose tests hold.
use Rattle.std.specs.Prelude.{ℕ, ◌+◌, ◌≤◌, ◌≡◌, List, [], ◌∷◌, ◌++◌, true, length, set, replicate}
use Rattle.format.specs.declared.Place.{Place}
use Rattle.format.specs.declared.Link.{Link}
use Rattle.format.specs.declared.Info.{Info}
use Rattle.format.specs.Tests.{all, one_or_0}
use Rattle.format.specs.Pieces.{piece_tests}
use Rattle.format.specs.Volume.{label_place}
use Rattle.format.specs.Info.{head_ok, info_head, info_pieces, info_fields, link_of, info_places}
use Rattle.format.specs.Bodies.{label_slot, local_slot, net_slot, device_slot, net_unicode_slot, device_unicode_slot, local_unicode_slot, suffix_unicode_slot, further_slot}
use Rattle.fields.specs.Steps.Putting.{with_place}
use Rattle.info.specs.Steps.Found.{text_lengths}

-- l keeps the rules and starts at start in the file, and the row has the lengths of its texts
pub record Right (start : ℕ) (l row : List ℕ) : Type 0 where
  pub least : 0x1C ≤ length l
  pub small : start + length l ≤ 65536
  pub head : head_ok l ≡ true
  pub pieces : all (piece_tests (info_head l) (info_pieces l)) ≡ true
  pub lengths : row ≡ text_lengths (info_fields start l)

-- ---- a record of LinkInfo alone, as numbers

abbrev pub link_numbers : Link → List ℕ
link_numbers l =
    l.flags
    ∷ one_or_0 l.long
    ∷ l.drive
    ∷ l.serial
    ∷ one_or_0 l.label_unicode
    ∷ l.network_flags
    ∷ l.provider
    ∷ one_or_0 l.network_unicode
    ∷ []

abbrev pub place_pairs : List Place → List ℕ
place_pairs [] = []
place_pairs (b ∷ bs) = b.at ∷ b.len ∷ place_pairs bs

-- nine of the header, then LinkInfo's, items, its places, strings and blocks, the further bytes
unfoldable pub info_part : Info → List ℕ
info_part i = replicate 9 0 ++ (link_numbers (link_of i) ++ (0 ∷ 0 ∷ place_pairs (info_places i) ++ (replicate 12 0 ++ (i.further.at ∷ i.further.len ∷ []))))

-- ---- each step of the way there

unfoldable pub with_local : List ℕ → Info → List ℕ
unfolding with_place
with_local f i =
    let link = link_of i in
    with_place (with_place (set (set (set f 11 link.drive) 12 link.serial) 13 (one_or_0 link.label_unicode)) label_slot (label_place i.volume.label)) local_slot i.local

unfoldable pub with_network : List ℕ → Info → List ℕ
unfolding with_place
with_network f i =
    let n = i.network in
    let g = set (set (set f 14 n.flags) 15 n.provider) 16 (one_or_0 n.unicode) in
    with_place (with_place (with_place (with_place g net_slot n.net) device_slot n.device) net_unicode_slot n.net_unicode) device_unicode_slot n.device_unicode

unfoldable pub with_long : List ℕ → Info → List ℕ
unfolding with_place
with_long f i = with_place (with_place (with_place (set f 10 1) local_unicode_slot i.local_unicode) suffix_unicode_slot i.suffix_unicode) further_slot i.further
