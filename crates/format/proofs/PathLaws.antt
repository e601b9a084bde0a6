-- The blocks of a body one by one, what a path block put among them changes, and the path block itself.
use mathlib.Core.Path.{◌≡◌, refl, sym, ap, ◌∙◌}
use mathlib.Core.List.{List, [], ◌∷◌, ◌++◌, append_assoc, append-nil, map}
use mathlib.Core.Bool.{Bool, true, false, ◌||◌, cond}
use Prim.Native.Nat.{ℕ, zero, suc, ◌+◌, ◌-◌, ◌≤◌, ◌<◌, ◌^◌}
use native.Mathlib.Omega.{arith}
use lib.ListN.{length, take, drop, replicate, length-append, length-drop, length-replicate, replicate-append-replicate}
use lib.Seq.{length-take-le, take-take, take_at, drop_at, drop-drop, take-add, take-append_seam}
use lib.Dec.{ltb, eqb}
use borrow.Author.Tests.{leb-true, le-leb, ltb-true, eqb-true, eqb-false, eq-eqb, ne_eqb}
use Rattle.octets.specs.Numbers.{Bytes, u32_at, little}
use Rattle.octets.specs.Characters.{bytes_of, characters}
use Rattle.octets.proofs.NumberLaws.{Bytes-append, Bytes-little, Bytes-nil, Bytes-cons, length-little, number_back, number_drop, number_same}
use Rattle.octets.proofs.CharacterLaws.{bytes_of-le, bytes_of-add}
use Rattle.format.specs.Tests.{got}
use Rattle.format.specs.Pieces.{text_ends, text_size, text_tests}
use Rattle.format.specs.Blocks.{SizeRule, signatures, slot_in, slot_of, size_fits, path_tests, inside_tests, slot_at, block_rules, block_size, block_tests, block, known, once, blocks_after, blocks}
use Rattle.format.specs.Shortcut.{sum}
use Rattle.format.specs.Writing.{end_to_end, text_bytes, blocks_bytes, writable_text, writable_blocks}
use Rattle.format.specs.PathWriting.{is_path, path_text, padded, path_block, parts_of, blocks_in, signature_of, with_block}
use Rattle.format.proofs.Bools.{and-true, or-true}
use Rattle.format.proofs.Chains.{Pass, pass, no_value}
use Rattle.format.proofs.PieceLaws.{text_value, PieceBack, plain, text_law}
use Rattle.format.proofs.BlockLaws.{none_left, the_end, more, more_on, one_more, step_elim, blocks_Walked, takes_elim, zero_alone}

-- ---- whole blocks

-- a block by itself: its size is its length, and it keeps the rules of its signature
pub record Whole (b : List ℕ) : Type 0 where
  pub size : block_size b ≡ length b
  pub least : 8 ≤ length b
  pub rules : Pass (block_rules b)

-- such blocks after others of these slots, none of them the second of a known signature
abbrev pub Wholes : List ℕ → List (List ℕ) → Type 0
Wholes before [] = Unit {0}
Wholes before (b ∷ bs) = Whole b × ((once before (slot_at b) ≡ true) × Wholes (slot_at b ∷ before) bs)

pub record Parted (before : List ℕ) (bs : List (List ℕ)) (x : List ℕ) : Type 0 where
  pub wholes : Wholes before bs
  pub joined : end_to_end bs ≡ x

-- what the walk passes; k bounds what is left
parts_whole : (k : ℕ) (before : List ℕ) (p : ℕ) (s lengths : List ℕ) (n : ℕ) → length s ≤ k → blocks_after before p s ≡ got lengths n
    → Parted before (parts_of lengths s) (take (sum lengths) s)
parts_whole zero before p s lengths n l e = no_value (sym (none_left before p s (omega arith)) ∙ e)
parts_whole (suc k) before p s lengths n l e =
    step_elim before p s (λ lengths n. Parted before (parts_of lengths s) (take (sum lengths) s))
    (λ h t. record { wholes = tt; joined = refl })
    (λ c o ls m i.
    let n : ℕ = block_size s in
    let b : List ℕ = take n s in
    let least : 8 ≤ n = leb-true 8 n c.0 in
    let long : length b ≡ n = length-take-le n s (leb-true n (length s) c.1.0) in
    let own : take n b ≡ take n s = take-take n n s (omega arith) in
    let slot : slot_at b ≡ slot_at s = ap slot_of (number_same 4 n b s 4 own (omega arith)) in
    let r = parts_whole k (slot_at s ∷ before) (p + n) (drop n s) ls m (omega (arith, length-drop n s)) i in
    record {
      wholes = (record { size = number_same 4 n b s 0 own (omega arith) ∙ sym long; least = omega arith; rules = c.1.1 }, (rw slot o, rw slot r.wholes));
      joined = ap (λ (x : List ℕ). b ++ x) r.joined ∙ sym (take-add n (sum ls) s);
    })
    lengths n e

-- they are read again, with a terminal block after them
Wholes-read : (bs : List (List ℕ)) (before : List ℕ) (p : ℕ) (t : List ℕ) → Wholes before bs → 4 ≤ length t → block_size t < 4
    → blocks_after before p (end_to_end bs ++ t) ≡ got (map length bs) (length (end_to_end bs) + 4)
Wholes-read [] before p t w h z = the_end before p t h z
Wholes-read (b ∷ bs) before p t w h z =
    let n : ℕ = length b in
    let r : List ℕ = end_to_end bs ++ t in
    let s : List ℕ = b ++ r in
    let least = w.0.least in
    let long : length s ≡ n + length r = length-append b r in
    let own : take n s ≡ b = take-append_seam b r in
    let same : take n s ≡ take n b = own ∙ sym (take_at b [] n refl) ∙ ap (take n) (append-nil b) in
    let size : block_size s ≡ n = number_same 4 n s b 0 same (omega arith) ∙ w.0.size in
    let slot : slot_at s ≡ slot_at b = ap slot_of (number_same 4 n s b 4 same (omega arith)) in
    let tested : Pass (block_tests s) = rw (size, own) (le-leb 8 n least, (le-leb n (length s) (omega arith), w.0.rules)) in
    let next : blocks_after (slot_at s ∷ before) (p + n) (drop n s) ≡ got (map length bs) (length (end_to_end bs) + 4)
    = rw (slot, drop_at b r n refl) (Wholes-read bs (slot_at b ∷ before) (p + n) t w.1.1 h z) in
    let all : n + (length (end_to_end bs) + 4) ≡ length (b ++ end_to_end bs) + 4 = omega (arith, length-append b (end_to_end bs)) in
    ap (blocks_after before p) (append_assoc b (end_to_end bs) t)
    ∙ one_more before p s (omega arith) (omega arith)
    ∙ pass (block p) (block_tests s) (more before p (block_size s) s) tested
    ∙ ap (λ (j : ℕ). more before p j s) size
    ∙ more_on before p n s (got (map length bs) (length (end_to_end bs) + 4)) (rw slot w.1.0) next
    ∙ ap (got (n ∷ map length bs)) all

parts_again : (bs : List (List ℕ)) (t : List ℕ) → parts_of (map length bs) (end_to_end bs ++ t) ≡ bs
parts_again [] t = refl
parts_again (b ∷ bs) t =
    rw (append_assoc b (end_to_end bs) t, take_at b (end_to_end bs ++ t) (length b) refl, drop_at b (end_to_end bs ++ t) (length b) refl, parts_again bs t)

-- a body that can be written is whole blocks
pub body_Parted : (x : List ℕ) → writable_blocks x ≡ true → Parted [] (blocks_in x) x
unfolding blocks_in
body_Parted x e =
    takes_elim (length x + 4) (blocks 0 (blocks_bytes x)) e (λ ls i.
    let w = blocks_Walked [] 0 (blocks_bytes x) ls (length x + 4) i in
    let z : sum ls ≡ length x = omega (arith, w.adds) in
    let r = parts_whole (length (blocks_bytes x)) [] 0 (blocks_bytes x) ls (length x + 4) (omega arith) i in
    rw i (record { wholes = r.wholes; joined = r.joined ∙ rw z (take-append_seam x (little 4 0)) }))

-- and whole blocks are one
module _ (bs : List (List ℕ)) (w : Wholes [] bs) where
  again : blocks 0 (blocks_bytes (end_to_end bs)) ≡ got (map length bs) (length (end_to_end bs) + 4)
  again = Wholes-read bs [] 0 (little 4 0) w (rw (length-little 4 0) (omega arith)) zero_alone

  pub wholes_in : blocks_in (end_to_end bs) ≡ bs
  unfolding blocks_in
  wholes_in = rw again (parts_again bs (little 4 0))

  pub wholes_writable : writable_blocks (end_to_end bs) ≡ true
  wholes_writable = rw again (eq-eqb (length (end_to_end bs) + 4) (length (end_to_end bs) + 4) refl)

-- ---- a block put among them

-- the table has each signature once
slot_tells : (t : List (ℕ × SizeRule)) (x y : ℕ) → slot_in t x ≡ slot_in t y → slot_in t y < length t → x ≡ y
slot_tells [] x y e h = absurd (omega arith)
slot_tells (r ∷ rs) x y e h = go (slot_tells rs x y) (eqb x r.0) refl (eqb y r.0) refl e h
  where
    go : (slot_in rs x ≡ slot_in rs y → slot_in rs y < length rs → x ≡ y) → (a : Bool) → eqb x r.0 ≡ a → (b : Bool) → eqb y r.0 ≡ b → cond a 0 (suc (slot_in rs x)) ≡ cond b 0 (suc (slot_in rs y)) → cond b 0 (suc (slot_in rs y)) < suc (length rs) → x ≡ y
    go f true p true q e h = eqb-true x r.0 p ∙ sym (eqb-true y r.0 q)
    go f true p false q e h = absurd (omega arith)
    go f false p true q e h = absurd (omega arith)
    go f false p false q e h = f (omega arith) (omega arith)

pub known_tells : (x y : ℕ) → known (slot_of y) ≡ true → slot_of x ≡ slot_of y → x ≡ y
unfolding slot_of
known_tells x y k e = slot_tells signatures x y e (ltb-true (slot_in signatures y) 11 k)

module _ (b : List ℕ) (new : Whole b) (kn : known (slot_at b) ≡ true) where
  once_more : (before : List ℕ) (x : List ℕ) → once before (slot_at b) ≡ true → (signature_of x ≡ signature_of b → ⊥) → once (slot_at x ∷ before) (slot_at b) ≡ true
  once_more before x o differ = rw (ne_eqb (slot_at b) (slot_at x) (λ e. differ (known_tells (signature_of x) (signature_of b) kn (sym e)))) o

  -- whole blocks again
  pub with_whole : (bs : List (List ℕ)) (before : List ℕ) → Wholes before bs → once before (slot_at b) ≡ true → Wholes before (with_block b bs)
  unfolding with_block
  with_whole [] before w o = (new, (o, tt))
  with_whole (x ∷ xs) before w o = go (with_whole xs (slot_at x ∷ before) w.1.1) (eqb (signature_of x) (signature_of b)) refl
    where
      go : (once (slot_at x ∷ before) (slot_at b) ≡ true → Wholes (slot_at x ∷ before) (with_block b xs)) → (t : Bool) → eqb (signature_of x) (signature_of b) ≡ t → Wholes before (cond t (b ∷ xs) (x ∷ with_block b xs))
      go f true e =
          let slot : slot_at x ≡ slot_at b = ap slot_of (eqb-true (signature_of x) (signature_of b) e) in
          (new, (o, rw slot at w.1.1))
      go f false e = (w.0, (w.1.0, f (once_more before x o (eqb-false (signature_of x) (signature_of b) e))))

-- put in twice is put in once
pub with_twice : (b : List ℕ) (bs : List (List ℕ)) → with_block b (with_block b bs) ≡ with_block b bs
unfolding with_block
with_twice b [] = rw (eq-eqb (signature_of b) (signature_of b) refl)
with_twice b (x ∷ xs) = go (with_twice b xs) (eqb (signature_of x) (signature_of b)) refl
  where
    go : with_block b (with_block b xs) ≡ with_block b xs → (t : Bool) → eqb (signature_of x) (signature_of b) ≡ t → with_block b (cond t (b ∷ xs) (x ∷ with_block b xs)) ≡ cond t (b ∷ xs) (x ∷ with_block b xs)
    go f true e = rw (eq-eqb (signature_of b) (signature_of b) refl)
    go f false e = rw (e, f)

-- ---- the path block

pub path_cases {ℓ} : (X : ℕ → Type ℓ) (signature : ℕ) → is_path signature ≡ true → X 0xA0000001 → X 0xA0000006 → X 0xA0000007 → X signature
path_cases X signature e a b c =
    or-true (eqb signature 0xA0000001 || eqb signature 0xA0000006) (eqb signature 0xA0000007) e
    (λ h.
    or-true (eqb signature 0xA0000001) (eqb signature 0xA0000006) h
    (λ h. rw (eqb-true signature 0xA0000001 h) a)
    (λ h. rw (eqb-true signature 0xA0000006 h) b))
    (λ h. rw (eqb-true signature 0xA0000007 h) c)

-- what the table says of the three signatures
pub record PathSlot (signature : ℕ) : Type 0 where
  pub below : signature < 2 ^ 32
  pub known : known (slot_of signature) ≡ true
  pub size : size_fits (slot_of signature) 788 ≡ true
  pub exact : (n : ℕ) → size_fits (slot_of signature) n ≡ true → n ≡ 788
  pub inside : (b : List ℕ) → inside_tests (slot_of signature) b ≡ path_tests b

pub path_slot : (signature : ℕ) → is_path signature ≡ true → PathSlot signature
unfolding slot_of size_fits inside_tests
path_slot signature e =
    path_cases PathSlot signature e
    (record { below = omega arith; known = refl; size = refl; exact = λ n e. eqb-true n 788 e; inside = λ b. refl })
    (record { below = omega arith; known = refl; size = refl; exact = λ n e. eqb-true n 788 e; inside = λ b. refl })
    (record { below = omega arith; known = refl; size = refl; exact = λ n e. eqb-true n 788 e; inside = λ b. refl })

pub length-padded : (n : ℕ) (x : List ℕ) → length x ≤ n → length (padded n x) ≡ n
length-padded n x h = simp (length-append, length-replicate) (omega arith)

Bytes-zeros : (n : ℕ) → Bytes (replicate n 0)
Bytes-zeros zero = Bytes-nil
Bytes-zeros (suc n) = Bytes-cons (omega arith) (Bytes-zeros n)

-- a text in its room of 260 characters: it has space there, and ends where it ends
pub record PathText (u : Bool) (x : List ℕ) : Type 0 where
  pub short : length x + bytes_of u 1 ≤ bytes_of u 260
  pub can : writable_text u x ≡ true

pub path_text_lem : (u : Bool) (x : List ℕ) → path_text u x ≡ true → PathText u x
path_text_lem u x e =
    let (t, l) = and-true (writable_text u x) (ltb (length (characters u x)) 260) e in
    let few : length (characters u x) + 1 ≤ 260 = omega (arith, ltb-true (length (characters u x)) 260 l) in
    record { short = omega (arith, bytes_of-le u few, bytes_of-add u (length (characters u x)) 1, (plain u x t).whole); can = t }

module _ (u : Bool) (x : List ℕ) (bytes : Bytes x) (t : PathText u x) where
  abbrev left : ℕ
  left = bytes_of u 260 - length x - bytes_of u 1

  abbrev room : List ℕ
  room = padded (bytes_of u 260) x

  padded_text : room ≡ text_bytes u x ++ replicate left 0
  padded_text =
      let n : bytes_of u 260 - length x ≡ bytes_of u 1 + left = omega (arith, t.short) in
      ap (λ (k : ℕ). x ++ replicate k 0) n
      ∙ ap (λ (l : List ℕ). x ++ l) (sym (replicate-append-replicate {A = ℕ} (bytes_of u 1) left 0))
      ∙ sym (append_assoc x (replicate (bytes_of u 1) 0) (replicate left 0))

  small : (u : Bool) → bytes_of u 260 ≤ 520
  small true = omega arith
  small false = omega arith

  text_read : PieceBack (text_tests 0 u) (text_size u) (text_value u) (text_bytes u x ++ replicate left 0) x (length (text_bytes u x))
  text_read =
      (text_law 0 u).back x (record { typed = bytes; can = t.can })
      (omega (arith, length-append x (replicate (bytes_of u 1) 0), length-replicate {A = ℕ} (bytes_of u 1) 0, small u, t.short))
      (replicate left 0)

  pub text_ends_lem : text_ends u room ≡ true
  text_ends_lem = rw padded_text text_read.passes.0

  pub text_held : text_value u room ≡ x
  text_held = rw padded_text text_read.same

module _ (signature : ℕ) (text unicode : List ℕ) (narrow : length text ≤ 260) (wide : length unicode ≤ 520) where
  abbrev b : List ℕ
  b = path_block signature text unicode

  rest : drop 4 b ≡ little 4 signature ++ (padded 260 text ++ (padded 520 unicode ++ []))
  unfolding path_block
  rest = drop_at (little 4 788) _ 4 (length-little 4 788)

  held : drop 8 b ≡ padded 260 text ++ (padded 520 unicode ++ [])
  held = sym (drop-drop 4 4 b) ∙ ap (drop 4) rest ∙ drop_at (little 4 signature) _ 4 (length-little 4 signature)

  pub path_length : length b ≡ 788
  unfolding path_block
  path_length = simp (append-nil, length-append, length-little, length-replicate) (omega arith)

  pub path_size : block_size b ≡ 788
  unfolding path_block
  path_size = number_back 4 788 _ (omega arith)

  pub path_signature : signature < 2 ^ 32 → signature_of b ≡ signature
  path_signature h = sym (number_drop 4 4 b 0) ∙ ap (λ (x : List ℕ). u32_at x 0) rest ∙ number_back 4 signature _ h

  pub path_bytes_held : take 260 (drop 8 b) ≡ padded 260 text
  path_bytes_held = ap (take 260) held ∙ take_at (padded 260 text) _ 260 (length-padded 260 text narrow)

  pub path_units_held : take 520 (drop 268 b) ≡ padded 520 unicode
  path_units_held =
      ap (take 520) (sym (drop-drop 260 8 b) ∙ ap (drop 260) held ∙ drop_at (padded 260 text) _ 260 (length-padded 260 text narrow))
      ∙ take_at (padded 520 unicode) [] 520 (length-padded 520 unicode wide)

-- one that the call may put in
pub record Path (signature : ℕ) (text unicode : List ℕ) : Type 0 where
  pub sign : is_path signature ≡ true
  pub bytes : Bytes text × Bytes unicode
  pub narrow : path_text false text ≡ true
  pub wide : path_text true unicode ≡ true

module _ {signature : ℕ} {text unicode : List ℕ} (p : Path signature text unicode) where
  abbrev new : List ℕ
  new = path_block signature text unicode

  narrow_short : length text ≤ 260
  narrow_short = omega (arith, (path_text_lem false text p.narrow).short)

  wide_short : length unicode ≤ 520
  wide_short = omega (arith, (path_text_lem true unicode p.wide).short)

  pub new_length : length new ≡ 788
  new_length = path_length signature text unicode narrow_short wide_short

  pub new_signature : signature_of new ≡ signature
  new_signature = path_signature signature text unicode narrow_short wide_short (path_slot signature p.sign).below

  pub new_known : known (slot_at new) ≡ true
  new_known = rw new_signature (path_slot signature p.sign).known

  pub new_Whole : Whole new
  new_Whole =
      let slot = path_slot signature p.sign in
      let bytes : text_ends false (take 260 (drop 8 new)) ≡ true
      = rw (path_bytes_held signature text unicode narrow_short wide_short) (text_ends_lem false text p.bytes.0 (path_text_lem false text p.narrow)) in
      let units : text_ends true (take 520 (drop 268 new)) ≡ true
      = rw (path_units_held signature text unicode narrow_short wide_short) (text_ends_lem true unicode p.bytes.1 (path_text_lem true unicode p.wide)) in
      record {
        size = path_size signature text unicode narrow_short wide_short ∙ sym new_length;
        least = omega (arith, new_length);
        rules = rw (new_signature, new_length, slot.size, slot.inside new) (refl, (bytes, (units, tt)));
      }

  -- the texts up to their zeros are those that were given
  pub new_text : text_value false (take 260 (drop 8 new)) ≡ text
  new_text = rw (path_bytes_held signature text unicode narrow_short wide_short) (text_held false text p.bytes.0 (path_text_lem false text p.narrow))

  pub new_unicode : text_value true (take 520 (drop 268 new)) ≡ unicode
  new_unicode = rw (path_units_held signature text unicode narrow_short wide_short) (text_held true unicode p.bytes.1 (path_text_lem true unicode p.wide))

  pub new_Bytes : Bytes new
  unfolding path_block
  new_Bytes =
      Bytes-append (little 4 788) _ (Bytes-little 4 788)
      (Bytes-append (little 4 signature) _ (Bytes-little 4 signature)
      (Bytes-append (padded 260 text) _ (Bytes-append text _ p.bytes.0 (Bytes-zeros (260 - length text)))
      (Bytes-append (padded 520 unicode) [] (Bytes-append unicode _ p.bytes.1 (Bytes-zeros (520 - length unicode))) Bytes-nil)))
