-- The bits from the record and the row of signatures, and one law for each way out of the call.
use mathlib.Core.Path.{◌≡◌, refl, sym, ap, ◌∙◌}
use mathlib.Core.List.{List}
use mathlib.Core.Bool.{Bool, not, ◌&&◌, ◌||◌, cond}
use Prim.Native.Nat.{ℕ, ◌+◌, ◌≤◌}
use native.Mathlib.Omega.{arith}
use lib.ListN.{length, drop, get_or}
use lib.Dec.{eqb}
use borrow.Author.Tests.{eqb-true, ne_eqb}
use Rattle.format.specs.declared.Profile.{Profile}
use Rattle.format.specs.declared.Place.{Place}
use Rattle.format.specs.declared.Record.{Record}
use Rattle.format.specs.declared.StoreRow.{StoreRow}
use Rattle.format.specs.declared.Refusal.{Refusal}
use Rattle.format.specs.Tests.{got, no_place}
use Rattle.format.specs.Numbers.{Numbered}
use Rattle.format.specs.Blocks.{slot_of, size_fits, blocks, first_place}
use Rattle.format.specs.Shortcut.{Sections, blocks_of, shortcut, record_of}
use Rattle.format.specs.Bodies.{place_in, blocks_slot}
use Rattle.format.specs.Contents.{bytes_at}
use Rattle.format.specs.Demands.{Accepts}
use Rattle.format.specs.Key.{key_of}
use Rattle.format.specs.StoreList.{block_rows, rows_of, rows_by}
use Rattle.format.specs.Blind.{could_name, other_target, block_of, other_environment, has_values, blind_bits, key_blind, key_blind_answer}
use Rattle.format.specs.Steps.Firsts.{first_field, firsts}
use Rattle.format.proofs.AnswerLaws.{numbered}
use Rattle.format.proofs.AcceptedLaws.{accepted_Read, accepted_bodies, shortcut-Whole}
use Rattle.format.proofs.FoundLaws.{read_Walk}
use Rattle.format.proofs.HeldLaws.{first_held}
use Rattle.blocks.specs.Steps.Walk.{block_from}
use Rattle.blocks.proofs.FirstLaws.{First-block}
use Rattle.reader.specs.Steps.Finish.{FirstsOf, outline}
use Rattle.reader.proofs.OutlineLaws.{outline_refused}
use Rattle.storing.specs.Steps.Stored.{Holds}
use Rattle.storing.proofs.ListLaws.{store_field}
use Rattle.blinding.specs.Steps.Bits.{AllInside, PathAt, PathBlock, names_in, bits_from, bits_by, bits_in}
use Rattle.blinding.proofs.TextLaws.{not_none}
use Rattle.format.specs.Verdicts.{Verdict, refused_at}
use Rattle.std.specs.Prelude.{Option, Some, None, Ok, Err, is_some, SomeIff, IfSome, unwrap_or}

-- ---- where the blocks stand

-- a field of the row of signatures leads to the first block of its signature
pub record Leads (s : List ℕ) (c : Sections) (signature field : ℕ) : Type 0 where
  pub reached : field ≤ length s
  pub is : block_from s field ≡ block_of s c signature
  pub there : 4 ≤ field → 8 ≤ (block_from s field).len

-- what an accepted shortcut has
pub record Read (profile : Profile) (s : List ℕ) (r : Record) (row : List ℕ) : Type 0 where
  pub sections : Sections
  pub is : shortcut profile s ≡ got sections (length s)
  pub held : record_of sections ≡ r
  pub inside : AllInside s r
  pub environment : Leads s sections 0xA0000001 (get_or row 0 0)
  pub darwin : Leads s sections 0xA0000006 (get_or row 5 0)
  pub items : Leads s sections 0xA000000C (get_or row 10 0)
  pub path : PathAt s (block_of s sections 0xA0000001)
  pub reached : get_or row 8 0 ≤ length s
  pub rows : block_rows s (block_from s (get_or row 8 0)) ≡ rows_of s sections
  pub store : 4 ≤ get_or row 8 0 → Holds s (block_from s (get_or row 8 0))

-- a block that is there has bytes
pub there_is : {s : List ℕ} {c : Sections} {signature field : ℕ} → Leads s c signature field → (b : Option Place) → SomeIff b (4 ≤ field) (block_from s field) → is_some b ≡ not (eqb (unwrap_or b no_place).len 0)
there_is L (Some x) h = let long = L.there h.0 in rw (ne_eqb x.len 0 (λ z. omega (arith, ap (λ (p : Place). p.len) h.1)))
there_is L None h = refl

-- by the table of signatures it has one size
path_at : (s : List ℕ) (start : ℕ) (lengths : List ℕ) (n : ℕ) → blocks start (drop start s) ≡ got lengths n → PathAt s (first_place s 0xA0000001 start lengths)
unfolding size_fits slot_of
path_at s start lengths n walk = record {
  inside = (First-block s 0xA0000001 start lengths n walk).inside;
  long = λ z.
      let h = first_held s 0xA0000001 start lengths n walk z in
      let fits = rw h.slot at h.rules.0 in
      omega (arith, h.long, eqb-true (length (bytes_at s (first_place s 0xA0000001 start lengths))) 0x314 fits);
}

-- ---- the bits

from_sections : (s : List ℕ) (c : Sections) → bits_from s (record_of c) (block_of s c 0xA0000001) (block_of s c 0xA0000006) (block_of s c 0xA000000C) (rows_of s c) ≡ blind_bits s c
unfolding bits_from blind_bits names_in key_of
from_sections s c = refl

same_bits : (s : List ℕ) {r q : Record} {b d i x y z : Place} {rows others : List StoreRow} → r ≡ q → b ≡ x → d ≡ y → i ≡ z → rows ≡ others → bits_from s r b d i rows ≡ bits_from s q x y z others
same_bits s e f g h k = rw (e, f, g, h, k)

module _ (profile : Profile) (s : List ℕ) (r : Record) (a : Accepts profile s r) {row : List ℕ} (noted : FirstsOf s r row) where
  pub accepted_bits : Read profile s r row
  unfolding Accepts firsts
  accepted_bits =
      let x = accepted_Read profile s r (length s) a in
      let c = x.sections in
      let start = (blocks_of c).start in
      let lengths = (blocks_of c).read in
      let walk = read_Walk profile s c (length s) (shortcut-Whole profile s c (length s) x.is).read in
      let same : (place_in r blocks_slot).at ≡ start = ap (λ (q : Record). (place_in q blocks_slot).at) (sym x.held) in
      let all : (ls : List ℕ) (m : ℕ) → blocks start (drop start s) ≡ got ls m → row ≡ firsts s start ls = rw same at noted in
      let is : row ≡ firsts s start lengths = all lengths _ walk in
      let leads : (k signature : ℕ) → get_or (firsts s start lengths) k 0 ≡ first_field s signature start lengths → Leads s c signature (get_or row k 0) = λ k signature e.
      let F = First-block s signature start lengths _ walk in
      let field : get_or row k 0 ≡ first_field s signature start lengths = ap (λ (l : List ℕ). get_or l k 0) is ∙ e in
      record { reached = rw field F.field; is = ap (block_from s) field ∙ F.block; there = rw field (rw F.block F.there) } in
      let S = store_field profile s r a noted in
      record {
        sections = c;
        is = x.is;
        held = x.held;
        inside = record { body = accepted_bodies profile s r (length s) a };
        environment = leads 0 0xA0000001 refl;
        darwin = leads 5 0xA0000006 refl;
        items = leads 10 0xA000000C refl;
        path = path_at s start lengths _ walk;
        reached = S.reached;
        rows = S.rows ∙ ap (rows_by s) x.is;
        store = S.holds;
      }

  -- what is asked of a block that is there
  pub path_ready : (b : Option Place) → SomeIff b (4 ≤ get_or row 0 0) (block_from s (get_or row 0 0)) → IfSome b (PathBlock s)
  path_ready (Some x) h =
      let R = accepted_bits in
      let long : 8 ≤ (block_of s R.sections 0xA0000001).len = rw R.environment.is at (R.environment.there h.0) in
      rw (h.1 ∙ R.environment.is) (record { inside = R.path.inside; long = R.path.long (λ z. omega arith) })
  path_ready None h = tt

  pub store_ready : (b : Option Place) → SomeIff b (4 ≤ get_or row 8 0) (block_from s (get_or row 8 0)) → IfSome b (Holds s)
  store_ready (Some x) h = rw h.1 (accepted_bits.store h.0)
  store_ready None h = tt

  module _ {b d i st : Place} (eb : b ≡ block_from s (get_or row 0 0)) (ed : d ≡ block_from s (get_or row 5 0)) (es : st ≡ block_from s (get_or row 8 0)) (ei : i ≡ block_from s (get_or row 10 0)) where
    bits_are : bits_from s r b d i (block_rows s st) ≡ bits_in profile s
    unfolding bits_in
    bits_are =
        let R = accepted_bits in
        same_bits s (sym R.held) (eb ∙ R.environment.is) (ed ∙ R.darwin.is) (ei ∙ R.items.is) (ap (block_rows s) es ∙ R.rows) ∙ from_sections s R.sections ∙ ap (bits_by s) (sym R.is)

    pub bits_told : {names could target other value : Bool} {n₁ n₂ n₃ n₄ n₅ : ℕ} → names ≡ names_in s r b → could ≡ could_name r → n₁ ≡ cond (not names && could) 1 0
        → target ≡ other_target s r → n₂ ≡ cond target 2 0 → other ≡ other_environment s b → n₃ ≡ cond other 4 0
        → n₄ ≡ cond (not (eqb d.len 0) || not (eqb i.len 0)) 8 0
        → value ≡ has_values (block_rows s st) → n₅ ≡ cond value 16 0
        → n₁ + n₂ + n₃ + n₄ + n₅ ≡ bits_in profile s
    unfolding bits_from
    bits_told names could e₁ target e₂ other e₃ e₄ value e₅ =
        rw (e₁, e₂, e₃, e₄, e₅, names, could, target, other, value, not_none d.len, not_none i.len) bits_are

-- ---- the ways out

-- what the call says of its answer v
abbrev BlindCall : Profile → List ℕ → Verdict → Type 0
BlindCall profile s v = (v ≡ key_blind_answer profile s) × Numbered v (key_blind profile s)

blind_call : (profile : Profile) (s : List ℕ) {v : Verdict} → v ≡ key_blind_answer profile s → BlindCall profile s v
unfolding key_blind_answer
blind_call profile s e = (e, numbered (key_blind profile s) e)

module _ (profile : Profile) (s : List ℕ) where
  -- leaving with the refusal
  pub blind_left : {r : Refusal} → Err r ≡ outline profile s → BlindCall profile s (refused_at r.fault r.spot.position)
  unfolding key_blind_answer key_blind
  blind_left e = let z = outline_refused profile s (sym e) in blind_call profile s (rw z)

  pub blind_told : (r : Record) → Accepts profile s r → {bits : ℕ} → bits ≡ bits_in profile s → BlindCall profile s (Ok bits)
  unfolding key_blind_answer key_blind bits_in Accepts
  blind_told r a {bits} i =
      let x = accepted_Read profile s r (length s) a in
      let b : bits ≡ blind_bits s x.sections = i ∙ ap (bits_by s) x.is in
      blind_call profile s (rw (x.is, b))
