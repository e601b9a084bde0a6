-- The lengths of LinkInfo's texts: they are the same wherever it stands, and none is more than its bytes.
use mathlib.Core.Path.{◌≡◌, refl, sym, ap, ◌∙◌}
use mathlib.Core.List.{List, [], ◌∷◌}
use mathlib.Core.Bool.{Bool, true, false}
use Prim.Native.Nat.{ℕ, ◌+◌, ◌≤◌}
use native.Mathlib.Omega.{arith}
use lib.ListN.{length, take, drop, length-take, length-drop}
use Rattle.std.specs.Prelude.{Ok, Err}
use Rattle.octets.specs.Numbers.{u32_at}
use Rattle.octets.specs.Characters.{bytes_of, characters, before_zero}
use Rattle.octets.proofs.CharacterLaws.{before_le, characters_fit, bytes_of-le}
use Rattle.format.specs.declared.Place.{Place}
use Rattle.format.specs.Tests.{place}
use Rattle.format.specs.Pieces.{text_length, text_place}
use Rattle.format.specs.Volume.{volume_size, label_unicode, label_offset, label_of, label_place, volume_at}
use Rattle.format.specs.Network.{network_size, has_device, network_unicode, has_device_unicode, network_at}
use Rattle.format.specs.Info.{long_head, has_local, has_network, has_local_unicode, info_fields}
use Rattle.pieces.specs.declared.Found.{Found}
use Rattle.pieces.specs.declared.NetworkTexts.{NetworkTexts}
use Rattle.pieces.specs.Steps.Found.{body_length, label_length, label_bytes, network_texts}
use Rattle.info.specs.Steps.Found.{text_lengths, lengths_after, earlier_in, later_in}
use Rattle.pieces.proofs.TextLaws.{place_length}
use Rattle.info.proofs.InfoLaws.{earlier_are, later_are}

-- ---- wherever it stands

abbrev pub row_of : ℕ → ℕ → NetworkTexts → ℕ → ℕ → ℕ → List ℕ
row_of a b n d e f = a ∷ b ∷ n.net ∷ n.device ∷ n.net_unicode ∷ n.device_unicode ∷ d ∷ e ∷ f ∷ []

-- what each piece of l says, by its length
abbrev pub length_row : List ℕ → List ℕ
length_row l =
    row_of (label_bytes (has_local l) l (u32_at l 12)) (body_length (has_local l) false l (u32_at l 16)) (network_texts (has_network l) l (u32_at l 20)) (body_length true false l (u32_at l 24))
    (body_length (has_local_unicode l) true l (u32_at l 28)) (body_length (long_head l) true l (u32_at l 32))

pub label_place_lem : (u : Bool) (x : Place) → label_place (label_of u x) ≡ x
label_place_lem true x = refl
label_place_lem false x = refl

label_length_lem : (b : Bool) (p : ℕ) (l : List ℕ) (o : ℕ) → (label_place (volume_at b p l o).label).len ≡ label_bytes b l o
label_length_lem true p l o =
    let v : List ℕ = take (volume_size (drop o l)) (drop o l) in
    ap (λ (x : Place). x.len) (label_place_lem (label_unicode v) (place (p + o + label_offset v) (label_length v)))
label_length_lem false p l o = refl

-- the four of the network link
module _ (p : ℕ) (l : List ℕ) (o : ℕ) where
  abbrev link : List ℕ
  link = take (network_size (drop o l)) (drop o l)

  net_length : (b : Bool) → (network_at b p l o).net.len ≡ (network_texts b l o).net
  net_length true = refl
  net_length false = refl

  device_length : (b : Bool) → (network_at b p l o).device.len ≡ (network_texts b l o).device
  device_length true = place_length (has_device link) false (p + o) link (u32_at link 12) ∙ sym (place_length (has_device link) false 0 link (u32_at link 12))
  device_length false = refl

  net_unicode_length : (b : Bool) → (network_at b p l o).net_unicode.len ≡ (network_texts b l o).net_unicode
  net_unicode_length true = place_length (network_unicode link) true (p + o) link (u32_at link 20) ∙ sym (place_length (network_unicode link) true 0 link (u32_at link 20))
  net_unicode_length false = refl

  device_unicode_length : (b : Bool) → (network_at b p l o).device_unicode.len ≡ (network_texts b l o).device_unicode
  device_unicode_length true = place_length (has_device_unicode link) true (p + o) link (u32_at link 24) ∙ sym (place_length (has_device_unicode link) true 0 link (u32_at link 24))
  device_unicode_length false = refl

nine : {a b c d e f g h i a' b' c' d' e' f' g' h' i' : ℕ} → a ≡ a' → b ≡ b' → c ≡ c' → d ≡ d' → e ≡ e' → f ≡ f' → g ≡ g' → h ≡ h' → i ≡ i'
    → ◌≡◌ {A = List ℕ} (a ∷ b ∷ c ∷ d ∷ e ∷ f ∷ g ∷ h ∷ i ∷ []) (a' ∷ b' ∷ c' ∷ d' ∷ e' ∷ f' ∷ g' ∷ h' ∷ i' ∷ [])
nine p q r s t u v w x = rw (p, q, r, s, t, u, v, w, x)

pub lengths_are : (p : ℕ) (l : List ℕ) → text_lengths (info_fields p l) ≡ length_row l
unfolding text_lengths
lengths_are p l =
    let o : ℕ = u32_at l 20 in
    let b : Bool = has_network l in
    nine (label_length_lem (has_local l) p l (u32_at l 12)) (place_length (has_local l) false p l (u32_at l 16)) (net_length p l o b) (device_length p l o b) (net_unicode_length p l o b)
    (device_unicode_length p l o b) refl (place_length (has_local_unicode l) true p l (u32_at l 28)) (place_length (long_head l) true p l (u32_at l 32))

pub lengths_anywhere : (p q : ℕ) (l : List ℕ) → text_lengths (info_fields p l) ≡ text_lengths (info_fields q l)
lengths_anywhere p q l = lengths_are p l ∙ sym (lengths_are q l)

-- ---- none is more than the bytes there are

text_most : (u : Bool) (s : List ℕ) → text_length u s ≤ length s
text_most u s =
    let c : List ℕ = characters u s in
    let b : bytes_of u (before_zero c) ≤ bytes_of u (length c) = bytes_of-le u (before_le c) in
    omega (arith, characters_fit u s)

bytes_most : (b u : Bool) (l : List ℕ) (o : ℕ) → body_length b u l o ≤ length l
bytes_most true u l o = omega (arith, text_most u (drop o l), length-drop o l)
bytes_most false u l o = omega arith

-- in a structure at the offset o, and in that at the offset q
place_most : (b u : Bool) (n o : ℕ) (l : List ℕ) (q : ℕ) → body_length b u (take n (drop o l)) q ≤ length l
place_most b u n o l q = omega (arith, bytes_most b u (take n (drop o l)) q, length-take n (drop o l), length-drop o l)

-- the same of each text of the network link
pub record Small (n : NetworkTexts) (k : ℕ) : Type 0 where
  pub net : n.net ≤ k
  pub device : n.device ≤ k
  pub net_unicode : n.net_unicode ≤ k
  pub device_unicode : n.device_unicode ≤ k

label_most : (b : Bool) (l : List ℕ) (o : ℕ) → label_bytes b l o ≤ length l
label_most true l o = let v : List ℕ = take (volume_size (drop o l)) (drop o l) in place_most true (label_unicode v) (volume_size (drop o l)) o l (label_offset v)
label_most false l o = omega arith

network_Small : (b : Bool) (l : List ℕ) (o : ℕ) → Small (network_texts b l o) (length l)
network_Small true l o =
    record {
      net = one true false (u32_at v 8);
      device = one (has_device v) false (u32_at v 12);
      net_unicode = one (network_unicode v) true (u32_at v 20);
      device_unicode = one (has_device_unicode v) true (u32_at v 24);
    }
  where
    v : List ℕ
    v = take (network_size (drop o l)) (drop o l)

    one : (x u : Bool) (q : ℕ) → (text_place x u 0 v q).len ≤ length l
    one x u q = rw (place_length x u 0 v q) (place_most x u (network_size (drop o l)) o l q)
network_Small false l o = record { net = omega arith; device = omega arith; net_unicode = omega arith; device_unicode = omega arith }

module _ (l : List ℕ) where
  pub earlier_small : {a : Found ℕ} {b : Found ℕ} {c : Found NetworkTexts} → earlier_in l ≡ Ok (a, b, c) → (a.body ≤ length l) × (b.body ≤ length l) × Small c.body (length l)
  earlier_small E =
      let (p, q, r) = earlier_are l E in
      (rw (← p) (label_most (has_local l) l (u32_at l 12)), rw (← q) (bytes_most (has_local l) false l (u32_at l 16)), rw (← r) (network_Small (has_network l) l (u32_at l 20)))

  pub later_small : {d e f : Found ℕ} → later_in l ≡ Ok (d, e, f) → (d.body ≤ length l) × (e.body ≤ length l) × (f.body ≤ length l)
  later_small L =
      let (p, q, r) = later_are l L in
      (rw (← p) (bytes_most true false l (u32_at l 24)), rw (← q) (bytes_most (has_local_unicode l) true l (u32_at l 28)), rw (← r) (bytes_most (long_head l) true l (u32_at l 32)))

  -- ---- the row

  pub row_kept : (w : ℕ) (row : List ℕ) → lengths_after {A = Unit {0}} (Err w) l row ≡ row
  unfolding lengths_after
  row_kept w row = refl

  pub row_filled : {a : Found ℕ} {b : Found ℕ} {c : Found NetworkTexts} {d e f : Found ℕ} {y : Unit {0}} (row : List ℕ) → earlier_in l ≡ Ok (a, b, c) → later_in l ≡ Ok (d, e, f)
      → lengths_after (Ok y) l row ≡ row_of a.body b.body c.body d.body e.body f.body
  unfolding lengths_after
  row_filled row E L = let (p, q, r) = earlier_are l E in let (x, y, z) = later_are l L in lengths_are 0 l ∙ rw (← p, ← q, ← r, ← x, ← y, ← z)

pub ruleset lengths = (earlier_small, later_small, row_kept)
