-- Refused with 6 and 7: LinkInfo is due, its size is there, and this is wrong with it.
use mathlib.Core.Path.{◌≡◌, refl, sym, ap, ◌∙◌, subst}
use mathlib.Core.List.{List}
use mathlib.Core.Logic.{◌↔◌}
use mathlib.Core.Bool.{Bool, true, false}
use Prim.Native.Nat.{ℕ, ◌+◌, ◌-◌, ◌≤◌, ◌<◌}
use native.Mathlib.Omega.{arith}
use lib.ListN.{length, take, drop, length-drop}
use lib.Seq.{length-take-le}
use Rattle.octets.specs.Numbers.{u32_at}
use Rattle.format.specs.declared.Profile.{Profile}
use Rattle.format.specs.declared.Fault.{Fault}
use Rattle.format.specs.declared.Fault.TheVariants.{Info as INFO, Piece as PIECE}
use Rattle.format.specs.declared.Spot.{Spot}
use Rattle.format.specs.Tests.{Test, section, spot_at, refused}
use Rattle.format.specs.Presence.{strings_unicode}
use Rattle.format.specs.Pieces.{struct_tests, piece_tests}
use Rattle.format.specs.Volume.{volume_rules}
use Rattle.format.specs.Network.{network_rules}
use Rattle.format.specs.Info.{info_size, info_head, info_pieces, info_head_tests, info_rules, info}
use Rattle.format.specs.Shortcut.{most}
use Rattle.format.specs.Demands.{Refuses}
use Rattle.format.proofs.Chains.{all-Pass, Pass-all}
use Rattle.format.proofs.EachLaws.{Each, PiecesIn, Each-piece, Each-text, Each-struct, Each-volume, Each-network}
use Rattle.format.proofs.MendLaws.{Each-pieces}
use Rattle.format.proofs.PositionLaws.{number_first}
use Rattle.refusals.specs.Due.{Due}
use Rattle.refusals.specs.Wrong.{FirstFails, WrongInfo, small, rule, WrongPieces, WrongPiece, PieceField, offset, volume, network}
use Rattle.refusals.proofs.StepLaws.{no_info, no_piece, ended, unended, step, by_info, by_piece}
use Rattle.refusals.proofs.FileLaws.{DueAt, due_at, at_Due, due_within}
use Rattle.refusals.proofs.FailLaws.{first_Each, first_split, first_left, first_right}
use Rattle.refusals.proofs.FaultLaws.{fault_at, at_fault, info_fails, info_small, info_refuses}

info-step : (profile : Profile) (u : Bool) (before : List ℕ) (q : ℕ) (b : List ℕ) → step profile u before 2 q b ≡ ended (info profile q b)
unfolding step
info-step profile u before q b = refl

module _ (profile : Profile) (s : List ℕ) (q : ℕ) (d : DueAt profile s 2 q) where
  abbrev b : List ℕ
  b = drop q s

  long : length b ≡ length s - q
  long = length-drop q s

  within : q ≤ length s
  within = due_within profile s 2 q d

  size : info_size b ≡ u32_at s q
  size = number_first 4 q s

  abbrev l : List ℕ
  l = take (u32_at s q) b

  rules : (f : Fault) (i : ℕ) → FirstFails (info_rules profile (take (info_size b) b)) f i → FirstFails (info_rules profile l) f i
  rules f i x = subst (λ (n : ℕ). FirstFails (info_rules profile (take n b)) f i) size x

  back : (f : Fault) (i : ℕ) → FirstFails (info_rules profile l) f i → FirstFails (info_rules profile (take (info_size b) b)) f i
  back f i x = subst (λ (n : ℕ). FirstFails (info_rules profile (take n b)) f i) (sym size) x

  -- INFO comes from the fixed head, PIECE from what follows
  head_rule : (i : ℕ) → FirstFails (info_rules profile l) INFO i → FirstFails (info_head_tests profile l) INFO i
  head_rule i x =
      first_split (info_head_tests profile l) (piece_tests (info_head l) (info_pieces l)) INFO i x (λ y. y)
      (λ c y. absurd (let v = first_Each (λ f i. f ≡ PIECE) (piece_tests (info_head l) (info_pieces l)) INFO i (Each-pieces (λ f. f ≡ PIECE) refl l) y in let z : ◌≡◌ {A = ℕ} 0 1 = cc in omega arith))

  piece_rule : (i : ℕ) → FirstFails (info_rules profile l) PIECE i → WrongPieces profile l i
  piece_rule i x =
      first_split (info_head_tests profile l) (piece_tests (info_head l) (info_pieces l)) PIECE i x
      (λ y. absurd (let v = first_Each (λ f i. f ≡ INFO) (info_head_tests profile l) PIECE i Each-head y in let z : ◌≡◌ {A = ℕ} 0 1 = cc in omega arith))
      (λ c y. record { head = Pass-all (info_head_tests profile l) c; first = y })
    where
      Each-head : Each (λ f i. f ≡ INFO) (info_head_tests profile l)
      Each-head = ((λ e. refl), λ e. ((λ e. refl), λ e. ((λ e. refl), λ e. ((λ e. refl), λ e. ((λ e. refl), λ e. ((λ e. refl), λ e. tt))))))

  wrong_info : (p : ℕ) {w : Spot} → info profile q b ≡ refused INFO w → w.position ≡ p → WrongInfo profile s q p
  wrong_info p e z =
      info_fails profile q b e no_info
      (λ h k f v. subst (WrongInfo profile s q) (omega (arith, ap (λ (w : Spot). w.position) v)) (small (omega (arith, long, within)) (omega (arith, size))))
      (λ h k i x v. subst (WrongInfo profile s q) (sym (ap (λ (w : Spot). w.position) v) ∙ z) (rule i (omega (arith, size)) (omega (arith, long, within, size)) (head_rule i (rules INFO i x))))

  info_wrong : (u : Bool) (p : ℕ) → WrongInfo profile s q p → (before : List ℕ) → (w : Spot) × ((step profile u before 2 q b ≡ refused INFO w) × (w.position ≡ p))
  info_wrong u p (small h k) before =
      (spot_at (section 2 q) 0, (info-step profile u before q b ∙ ap ended (info_small profile q b (omega (arith, long, within)) (omega (arith, size))), omega arith))
  info_wrong u p (rule i h k x) before =
      (spot_at (section 2 q) i, (info-step profile u before q b ∙ ap ended (info_refuses profile q b INFO i (omega (arith, size)) (omega (arith, long, within, size)) (back INFO i (first_left (info_head_tests profile l) (piece_tests (info_head l) (info_pieces l)) INFO i x))), refl))

  wrong_piece : (p : ℕ) {w : Spot} → info profile q b ≡ refused PIECE w → w.position ≡ p → WrongPiece profile s q p
  wrong_piece p e z =
      info_fails profile q b e no_piece
      (λ h k f v. absurd (let y : ◌≡◌ {A = ℕ} 0 1 = cc in omega arith))
      (λ h k i x v. subst (WrongPiece profile s q) (sym (ap (λ (w : Spot). w.position) v) ∙ z) (rule i (omega (arith, size)) (omega (arith, long, within, size)) (piece_rule i (rules PIECE i x))))

  piece_wrong : (u : Bool) (p : ℕ) → WrongPiece profile s q p → (before : List ℕ) → (w : Spot) × ((step profile u before 2 q b ≡ refused PIECE w) × (w.position ≡ p))
  piece_wrong u p (rule i h k x) before =
      (spot_at (section 2 q) i, (info-step profile u before q b ∙ ap ended (info_refuses profile q b PIECE i (omega (arith, size)) (omega (arith, long, within, size)) (back PIECE i (first_right (info_head_tests profile l) (piece_tests (info_head l) (info_pieces l)) PIECE i (all-Pass (info_head_tests profile l) x.head) x.first))), refl))

-- refused with 6 exactly if LinkInfo is due, its size is there, and the first rule that it breaks is one of its fixed head
pub info_exactly : (profile : Profile) (s : List ℕ) (p : ℕ) → Refuses profile s INFO p ↔ ((length s ≤ most) × ((q : ℕ) × (Due profile s 2 q × WrongInfo profile s q p)))
info_exactly profile s p = (
  (λ e.
      let x = fault_at profile s INFO p 2 by_info no_info e in
      let q : ℕ = x.start in
      let i = unended (info profile q (drop q s)) (sym (info-step profile (strings_unicode (u32_at s 20)) x.before q (drop q s)) ∙ x.refusal) in
      (x.limit, (q, (at_Due profile s 2 q x.due, wrong_info profile s q x.due p i x.told)))),
  λ (l, (q, (d, x))). at_fault profile s INFO 2 q p l (due_at profile s 2 q d) (info_wrong profile s q (due_at profile s 2 q d) (strings_unicode (u32_at s 20)) p x),
)

-- refused with 7 exactly if LinkInfo is due and lies in the file, its fixed head is right, and the first rule that is broken is one of what its offsets lead to
pub piece_exactly : (profile : Profile) (s : List ℕ) (p : ℕ) → Refuses profile s PIECE p ↔ ((length s ≤ most) × ((q : ℕ) × (Due profile s 2 q × WrongPiece profile s q p)))
piece_exactly profile s p = (
  (λ e.
      let x = fault_at profile s PIECE p 2 by_piece no_piece e in
      let q : ℕ = x.start in
      let i = unended (info profile q (drop q s)) (sym (info-step profile (strings_unicode (u32_at s 20)) x.before q (drop q s)) ∙ x.refusal) in
      (x.limit, (q, (at_Due profile s 2 q x.due, wrong_piece profile s q x.due p i x.told)))),
  λ (l, (q, (d, x))). at_fault profile s PIECE 2 q p l (due_at profile s 2 q d) (piece_wrong profile s q (due_at profile s 2 q d) (strings_unicode (u32_at s 20)) p x),
)

-- ---- where a piece can be found wrong

module _ (l : List ℕ) where
  abbrev Field : Fault → ℕ → Type 0
  Field f i = PieceField l i

  -- the structure to which the field i leads by the offset o, and its own rules
  struct : (i o least : ℕ) (rules : List ℕ → List Test) → 4 ≤ least → Field PIECE i → ((j : ℕ) → j < length l → o ≤ j → Field PIECE j)
      → ((v : List ℕ) → least ≤ length v → o + length v ≤ length l → Each (λ f j. Field f (o + j)) (rules v)) → Each Field (struct_tests i o least rules (drop o l))
  struct i o least rules four x here g =
      Each-struct Field i o least rules (drop o l) x (λ h. here (o + 0) (omega (arith, length-drop o l)) (omega arith))
      (λ a b.
      let n : length (take (u32_at (drop o l) 0) (drop o l)) ≡ u32_at (drop o l) 0 = length-take-le (u32_at (drop o l) 0) (drop o l) a in
      g (take (u32_at (drop o l) 0) (drop o l)) (omega arith) (omega (arith, length-drop o l)))

  pieces_in : PiecesIn Field (info_pieces l)
  pieces_in = (
    (λ e. (
      offset refl,
      struct 12 (u32_at l 12) 0x11 volume_rules (omega arith) (offset refl) (λ j h k. volume e k h) (λ v h k. Each-volume (λ f j. Field f (u32_at l 12 + j)) v h (λ j z. volume e (omega arith) (omega arith))),
    )),
    (
      (λ e. Each-text Field 16 false (drop (u32_at l 16) l) (offset refl)),
      (
        (λ e. (
          offset refl,
          struct 20 (u32_at l 20) 0x14 network_rules (omega arith) (offset refl) (λ j h k. network e k (omega arith))
              (λ v h k. Each-network (λ f j. Field f (u32_at l 20 + j)) v h (λ j z. network e (omega arith) (omega arith)) (λ y z. network e (omega arith) (omega arith)) (λ y z. network e (omega arith) (omega arith))),
        )),
        (
          (λ e. Each-text Field 24 false (drop (u32_at l 24) l) (offset refl)),
          ((λ e. Each-text Field 28 true (drop (u32_at l 28) l) (offset refl)), ((λ e. Each-text Field 32 true (drop (u32_at l 32) l) (offset refl)), tt)),
        ),
      ),
    ),
  )

  piece_field : (i : ℕ) → FirstFails (piece_tests (info_head l) (info_pieces l)) PIECE i → PieceField l i
  piece_field i x = first_Each Field (piece_tests (info_head l) (info_pieces l)) PIECE i (Each-piece Field (info_head l) (info_pieces l) pieces_in) x

-- refused with 7 at p: p is one of LinkInfo's own offset fields, or stands from VolumeID's or the network link's start on
pub piece_stands : (profile : Profile) (s : List ℕ) (p : ℕ) → Refuses profile s PIECE p → (q : ℕ) × (Due profile s 2 q × ((i : ℕ) × ((q + i ≡ p) × PieceField (take (u32_at s q) (drop q s)) i)))
piece_stands profile s p e =
    let (l, (q, (d, x))) = (piece_exactly profile s p).0 e in
    (q, (d, go q p x))
  where
    go : (q r : ℕ) → WrongPiece profile s q r → (i : ℕ) × ((q + i ≡ r) × PieceField (take (u32_at s q) (drop q s)) i)
    go q r (rule i h k x) = (i, (refl, piece_field (take (u32_at s q) (drop q s)) i x.first))
