-- The row of slots: what holds of each, a row that is its slots, and zeros for what is absent put twice.
use mathlib.Core.Path.{◌≡◌, refl, sym, ap, ◌∙◌}
use mathlib.Core.List.{List, [], ◌∷◌, ◌++◌, map}
use mathlib.Core.Bool.{Bool, true, false, ◌&&◌, cond}
use Prim.Native.Nat.{ℕ, zero, suc, ◌+◌, ◌-◌, ◌≤◌, ◌<◌}
use native.Mathlib.Omega.{arith}
use native.Mathlib.Numerals.{add-one}
use native.Mathlib.Nat.{add-zero, zero-add}
use lib.ListN.{length, drop, get_or, set, length-drop}
use lib.Seq.{drop-cons, drop-drop, get_or-drop, get_or-set_same, get_or-set_other}
use borrow.Author.Count.{below_more}
use Rattle.format.specs.declared.Place.{Place}
use Rattle.format.specs.declared.Link.{Link}
use Rattle.format.specs.declared.Record.{Record}
use Rattle.format.specs.Presence.{info_there, local_there, network_there, local_unicode_there, device_there, provider_there, device_unicode_there}
use Rattle.format.specs.Shortcut.{no_link}
use Rattle.format.specs.Tests.{no_place}
use Rattle.format.specs.Bodies.{BodyKind, text_kind, further_kind, BodyRow, body_row, table_of, along, kept}
use Rattle.format.specs.Writing.{every}
use Rattle.format.specs.Contents.{present_link, present, bytes_at, contents}
use Rattle.format.specs.Steps.Shape.{rows_from}
use Rattle.format.proofs.Bools.{Every, every_out, choose_twice}
use Rattle.format.proofs.Chains.{no_true}

-- ---- what holds of each slot, from k on

abbrev pub Each : {A : Type 0} → A → (BodyRow → A → Type 0) → ℕ → List BodyRow → List A → Type 0
Each d X k [] xs = Unit {0}
Each d X k (b ∷ bs) xs = X b (get_or xs k d) × Each d X (k + 1) bs xs

module _ {A : Type 0} (d : A) where
  pub Each-with : {X Y Z : BodyRow → A → Type 0} → ((b : BodyRow) (a : A) → X b a → Y b a → Z b a)
      → (k : ℕ) (bs : List BodyRow) (xs : List A) → Each d X k bs xs → Each d Y k bs xs → Each d Z k bs xs
  Each-with f k [] xs h g = tt
  Each-with f k (b ∷ bs) xs h g = (f b (get_or xs k d) h.0 g.0, Each-with f (k + 1) bs xs h.1 g.1)

  -- tests along the row
  pub Each-test : (f : BodyRow → A → Bool) (k : ℕ) (bs : List BodyRow) (xs : List A) → every (along d f k bs xs) ≡ true
      → Each d (λ b a. f b a ≡ true) k bs xs
  Each-test f k bs xs e = go k bs (every_out (along d f k bs xs) e)
    where
      go : (k : ℕ) (bs : List BodyRow) → Every (along d f k bs xs) → Each d (λ b a. f b a ≡ true) k bs xs
      go k [] h = tt
      go k (b ∷ bs) h = (h.0, go (k + 1) bs h.1)

  -- a row that has as many as it lists is its slots
  abbrev pub slots_from : ℕ → ℕ → List A → List A
  slots_from k zero xs = []
  slots_from k (suc n) xs = get_or xs k d ∷ slots_from (k + 1) n xs

  pub slots_are : (n k : ℕ) (xs : List A) → length (drop k xs) ≡ n → slots_from k n xs ≡ drop k xs
  slots_are zero k xs e = sym (none (drop k xs) e)
    where
      none : (ys : List A) → length ys ≡ 0 → ys ≡ []
      none [] e = refl
      none (y ∷ ys) e = absurd (omega arith)
  slots_are (suc n) k xs e =
      let l = length-drop k xs in
      let h : k < length xs = omega arith in
      let m : length (drop (suc k) xs) ≡ n = omega (arith, length-drop (suc k) xs) in
      rw (add-one k, slots_are n (suc k) xs m, drop-cons xs k d)

-- ---- one slot of a row

pub map_at : {A B : Type 0} (g : A → B) (xs : List A) (j : ℕ) (d : A) (e : B) → j < length xs → get_or (map g xs) j e ≡ g (get_or xs j d)
map_at g [] j d e h = absurd (omega arith)
map_at g (x ∷ xs) zero d e h = refl
map_at g (x ∷ xs) (suc j) d e h = map_at g xs j d e (omega arith)

pub along_at : {A B : Type 0} (d : A) (f : BodyRow → A → B) (k : ℕ) (bs : List BodyRow) (xs : List A) (j : ℕ) (b : BodyRow) (e : B) → j < length bs
    → get_or (along d f k bs xs) j e ≡ f (get_or bs j b) (get_or xs (k + j) d)
along_at d f k [] xs j b e h = absurd (omega arith)
along_at d f k (c ∷ bs) xs zero b e h = rw add-zero
along_at d f k (c ∷ bs) xs (suc j) b e h =
    let i : k + 1 + j ≡ k + suc j = omega arith in
    rw i at (along_at d f (k + 1) bs xs j b e (omega arith))

-- one slot more has its value
pub set_more : {A : Type 0} (d : A) (xs : List A) (k : ℕ) (v : A) (f : ℕ → A) → k < length xs → ((j : ℕ) → j < k → get_or xs j d ≡ f j) → v ≡ f k
    → (j : ℕ) → j < k + 1 → get_or (set xs k v) j d ≡ f j
set_more d xs k v f h old e =
    below_more (λ j. get_or (set xs k v) j d ≡ f j) k (λ j l. get_or-set_other xs k j v d (λ q. omega arith) ∙ old j l) (get_or-set_same xs k v d h ∙ e)

-- ---- zeros put twice

-- a number or a kind that belongs to a part
kept_twice : {A : Type 0} (n : Bool) (P : ℕ → Bool) (x : ℕ) (a z : A) → cond (n && P (cond n x 0)) (cond (n && P x) a z) z ≡ cond (n && P x) a z
kept_twice true P x a z = choose_twice (P x) a z
kept_twice false P x a z = refl

pub link_twice : (l : Link) → present_link (present_link l) ≡ present_link l
link_twice l =
    let f = l.flags in
    rw (
      choose_twice (local_there f) l.drive 0,
      choose_twice (local_there f) l.serial 0,
      choose_twice (local_there f) l.label_unicode false,
      kept_twice (network_there f) provider_there l.network_flags l.provider 0,
      choose_twice (network_there f) l.network_flags 0,
      choose_twice (network_there f) l.network_unicode false,
    )

pub present_link_lem : (i : Bool) (l : Link) → cond i (present_link (cond i (present_link l) no_link)) no_link ≡ cond i (present_link l) no_link
present_link_lem true l = link_twice l
present_link_lem false l = refl

-- ---- what is there after zeros were put

module _ (l : Link) where
  in_info : (i : Bool) (X : Link → Bool) → X (present_link l) ≡ X l → (i && X (cond i (present_link l) no_link)) ≡ (i && X l)
  in_info true X e = e
  in_info false X e = refl

  in_network : (n : Bool) (P : Bool → ℕ → Bool) → (n && P (cond n l.network_unicode false) (cond n l.network_flags 0)) ≡ (n && P l.network_unicode l.network_flags)
  in_network true P = refl
  in_network false P = refl

  -- the label's kind counts only with the label
  label_kept : (i : Bool) → (i && local_there l.flags) ≡ true → (cond i (present_link l) no_link).label_unicode ≡ l.label_unicode
  label_kept true e = rw e
  label_kept false e = no_true e

  -- the head's with LinkInfo
  long_kept : (i : Bool) → i ≡ true → (cond i (present_link l) no_link).long ≡ l.long
  long_kept true e = refl
  long_kept false e = no_true e

-- one row as good as another: there if that is, and then of its kind
abbrev pub Alike : List BodyRow → List BodyRow → Type 0
Alike [] [] = Unit {0}
Alike [] (c ∷ cs) = ⊥
Alike (b ∷ bs) [] = ⊥
Alike (b ∷ bs) (c ∷ cs) = ((b.there ≡ c.there) × (c.there ≡ true → b.kind ≡ c.kind)) × Alike bs cs

pub present-Alike : (r : Record) → Alike (table_of (present r)) (table_of r)
unfolding present
present-Alike r =
    let l = r.link in
    let i = info_there r.header.flags in
    let n = network_there l.flags in
    let local = in_info l i (λ q. local_there q.flags) refl in
    let network = in_info l i (λ q. network_there q.flags) refl in
    let device = in_info l i (λ q. network_there q.flags && device_there q.network_flags) (in_network l n (λ u k. device_there k)) in
    let net_unicode = in_info l i (λ q. network_there q.flags && q.network_unicode) (in_network l n (λ u k. u)) in
    let device_unicode = in_info l i (λ q. network_there q.flags && device_unicode_there q.network_unicode q.network_flags) (in_network l n device_unicode_there) in
    let local_unicode = in_info l i (λ q. local_unicode_there q.long q.flags) refl in
    let long = in_info l i (λ q. q.long) refl in
    let strings : Alike (drop 10 (table_of (present r))) (drop 10 (table_of r))
    = ((refl, λ e. refl), ((refl, λ e. refl), ((refl, λ e. refl), ((refl, λ e. refl), ((refl, λ e. refl), ((refl, λ e. refl), ((refl, λ e. ap further_kind (long_kept l i e)), tt))))))) in (
      (refl, λ e. refl),
      (
        (local, λ e. ap text_kind (label_kept l i e)),
        (
          (local, λ e. refl),
          (
            (network, λ e. refl),
            (
              (device, λ e. refl),
              (
                (net_unicode, λ e. refl),
                ((device_unicode, λ e. refl), ((refl, λ e. refl), ((local_unicode, λ e. refl), ((long, λ e. refl), strings)))),
              ),
            ),
          ),
        ),
      ),
    )

-- what goes by presence alone
pub Each-Alike : {A : Type 0} (d : A) (X : Bool → A → Type 0) (k : ℕ) (bs cs : List BodyRow) (xs : List A) → Alike bs cs
    → Each d (λ b. X b.there) k cs xs → Each d (λ b. X b.there) k bs xs
Each-Alike d X k [] [] xs a h = tt
Each-Alike d X k [] (c ∷ cs) xs a h = absurd a
Each-Alike d X k (b ∷ bs) [] xs a h = absurd a
Each-Alike d X k (b ∷ bs) (c ∷ cs) xs a h = (rw a.0.0 h.0, Each-Alike d X (k + 1) bs cs xs a.1 h.1)

-- what is the same of all that is absent goes by the record as by its zeros
module _ {B : Type 0} (F : BodyRow → Place → B) (z : B) (gone : (k : BodyKind) (p : Place) → F (body_row false k) p ≡ z) where
  one_alike : (t u : Bool) (j k : BodyKind) (p : Place) → t ≡ u → (u ≡ true → j ≡ k) → F (body_row t j) (cond u p no_place) ≡ F (body_row u k) p
  one_alike t true j k p e f = rw (e, f refl)
  one_alike t false j k p e f = rw e (gone j no_place ∙ sym (gone k p))

  along-Alike : (k : ℕ) (bs cs : List BodyRow) (ps qs : List Place) → Alike bs cs → drop k qs ≡ along no_place kept k cs ps → along no_place F k bs qs ≡ along no_place F k cs ps
  along-Alike k [] [] ps qs a e = refl
  along-Alike k [] (c ∷ cs) ps qs a e = absurd a
  along-Alike k (b ∷ bs) [] ps qs a e = absurd a
  along-Alike k (b ∷ bs) (c ∷ cs) ps qs a e =
      let x : get_or qs k no_place ≡ kept c (get_or ps k no_place) = rw add-zero at (sym (get_or-drop k qs 0 no_place) ∙ ap (λ (l : List Place). get_or l 0 no_place) e) in
      let y = along-Alike (k + 1) bs cs ps qs a.1 (rw drop-drop at (ap (drop 1) e)) in
      rw (x, y) (ap (λ (w : B). w ∷ along no_place F (k + 1) cs ps) (one_alike b.there c.there b.kind c.kind (get_or ps k no_place) a.0.0 a.0.1))

  pub along-present : (r : Record) → along no_place F 0 (table_of (present r)) (present r).places ≡ along no_place F 0 (table_of r) r.places
  unfolding present
  along-present r = along-Alike 0 (table_of (present r)) (table_of r) r.places (present r).places (present-Alike r) refl

-- the bytes at the places
pub bytes_at_lem : (d : List ℕ) (ps : List Place) (k : ℕ) → get_or (map (bytes_at d) ps) k [] ≡ bytes_at d (get_or ps k no_place)
bytes_at_lem d [] k = refl
bytes_at_lem d (p ∷ ps) zero = refl
bytes_at_lem d (p ∷ ps) (suc k) = bytes_at_lem d ps k

pub along_bytes : {B : Type 0} (G : BodyRow → List ℕ → B) (d : List ℕ) (k : ℕ) (bs : List BodyRow) (ps : List Place)
    → along [] G k bs (map (bytes_at d) ps) ≡ along no_place (λ b p. G b (bytes_at d p)) k bs ps
along_bytes G d k [] ps = refl
along_bytes G d k (b ∷ bs) ps = rw (bytes_at_lem d ps k, along_bytes G d (k + 1) bs ps)

pub along-contents : {B : Type 0} (G : BodyRow → List ℕ → B) (z : B) → ((k : BodyKind) (x : List ℕ) → G (body_row false k) x ≡ z) → (d : List ℕ) (r : Record)
    → along [] G 0 (table_of (present r)) (contents d r).bodies ≡ along no_place (λ b p. G b (bytes_at d p)) 0 (table_of r) r.places
unfolding contents
along-contents G z gone d r =
    along_bytes G d 0 (table_of (present r)) (present r).places ∙ along-present (λ b p. G b (bytes_at d p)) z (λ k p. gone k (bytes_at d p)) r

-- ---- rows from a slot on, up to the slot m

pub rows_pick : (row : ℕ → BodyRow) (k m : ℕ) → k < m → rows_from row k (m - k) ≡ row k ∷ rows_from row (k + 1) (m - (k + 1))
rows_pick row k m h =
    let e : m - k ≡ suc (m - (k + 1)) = omega arith in
    rw e

pub rows_none : (row : ℕ → BodyRow) (k m : ℕ) → m ≤ k → rows_from row k (m - k) ≡ []
rows_none row k m h =
    let e : m - k ≡ 0 = omega arith in
    rw e

-- the first a of them, and then b more
pub along_split : {A B : Type 0} (d : A) (F : BodyRow → A → B) (row : ℕ → BodyRow) (xs : List A) (k a b : ℕ)
    → along d F k (rows_from row k (a + b)) xs ≡ along d F k (rows_from row k a) xs ++ along d F (k + a) (rows_from row (k + a) b) xs
along_split d F row xs k zero b = rw (zero-add, add-zero)
along_split d F row xs k (suc a) b =
    let e : suc a + b ≡ suc (a + b) = omega arith in
    let f : k + 1 + a ≡ k + suc a = omega arith in
    rw (e, along_split d F row xs (k + 1) a b, f)
