-- The block as it is put together, and its texts as they are tested.
use mathlib.Core.Path.{◌≡◌, refl, sym, ap, ◌∙◌}
use mathlib.Core.List.{List, [], ◌++◌, append_assoc, append-nil}
use mathlib.Core.Bool.{Bool, true, false, cond}
use Prim.Native.Nat.{ℕ, ◌+◌, ◌-◌, ◌≤◌, ◌<◌}
use native.Mathlib.Omega.{arith}
use lib.ListN.{length, replicate, length-append, length-replicate, replicate-append-replicate}
use borrow.Author.Tests.{lt-ltb, le-ltb}
use Rattle.octets.specs.Numbers.{little}
use Rattle.octets.specs.Characters.{characters}
use Rattle.octets.specs.Parts.{put}
use Rattle.octets.proofs.NumberLaws.{length-little}
use Rattle.format.specs.Writing.{writable_text}
use Rattle.format.specs.PathWriting.{path_text, path_block}
use Rattle.format.proofs.Bools.{and_yes, and_no}
use Rattle.writable.proofs.TextLaws.{count_is}
use Rattle.pathing.proofs.PutLaws.{put_part}

-- ---- the texts

many : (u : Bool) (x : List ℕ) → cond u 519 259 < length x → 260 ≤ length (characters u x)
many true x h = rw (← (count_is true x)) (omega arith)
many false x h = omega arith

few : (u : Bool) (x : List ℕ) → length x ≤ cond u 519 259 → length (characters u x) < 260
few true x h = rw (← (count_is true x)) (omega arith)
few false x h = omega arith

module _ (u : Bool) (x : List ℕ) {n : ℕ} (most : n ≡ cond u 519 259) where
  pub text_long : n < length x → false ≡ path_text u x
  text_long h = sym (rw (le-ltb (length (characters u x)) 260 (many u x (rw most at h))) (and_no (writable_text u x)))

  pub text_short : length x ≤ n → {r : Bool} → r ≡ writable_text u x → r ≡ path_text u x
  text_short h e = e ∙ sym (rw (lt-ltb (length (characters u x)) 260 (few u x (rw most at h))) (and_yes (writable_text u x)))

-- ---- the block

abbrev zeros : ℕ → List ℕ
zeros n = replicate n 0

module _ (signature : ℕ) (text unicode : List ℕ) (narrow : length text ≤ 260) (wide : length unicode ≤ 520) where
  abbrev a : List ℕ
  a = little 4 788

  abbrev g : List ℕ
  g = little 4 signature

  abbrev after_text : List ℕ
  after_text = zeros (260 - length text)

  abbrev after-unicode : List ℕ
  after-unicode = zeros (520 - length unicode)

  split : (n m : ℕ) → m ≤ n → zeros n ≡ zeros m ++ zeros (n - m)
  split n m h = let e : m + (n - m) ≡ n = omega arith in sym (replicate-append-replicate {A = ℕ} m (n - m) 0 ∙ ap (λ (k : ℕ). zeros k) e)

  -- zeros, by what will stand in their place
  parts : zeros 788 ≡ zeros 4 ++ (zeros 4 ++ (zeros (length text) ++ (after_text ++ (zeros (length unicode) ++ after-unicode))))
  parts =
      split 788 4 (omega arith)
      ∙ ap (λ (l : List ℕ). zeros 4 ++ l)
      (split 784 4 (omega arith)
      ∙ ap (λ (l : List ℕ). zeros 4 ++ l)
      (split 780 260 (omega arith)
      ∙ ap (λ (l : List ℕ). l ++ zeros 520) (split 260 (length text) narrow)
      ∙ append_assoc (zeros (length text)) after_text (zeros 520)
      ∙ ap (λ (l : List ℕ). zeros (length text) ++ (after_text ++ l)) (split 520 (length unicode) wide)))

  as_many : (w : List ℕ) → length (zeros (length w)) ≡ length w
  as_many w = length-replicate {A = ℕ} (length w) 0

  abbrev t₀ : List ℕ
  t₀ = zeros (length text)

  abbrev u₀ : List ℕ
  u₀ = zeros (length unicode)

  abbrev front : List ℕ
  front = a ++ (g ++ (text ++ after_text))

  -- size, signature, the one text and the other
  with_size : put (zeros 788) 0 a ≡ a ++ (zeros 4 ++ (t₀ ++ (after_text ++ (u₀ ++ after-unicode))))
  with_size = ap (λ (l : List ℕ). put l 0 a) parts ∙ put_part [] (zeros 4) a _ refl (sym (length-little 4 788))

  with_signature : put (a ++ (zeros 4 ++ (t₀ ++ (after_text ++ (u₀ ++ after-unicode))))) 4 g ≡ (a ++ g) ++ (t₀ ++ (after_text ++ (u₀ ++ after-unicode)))
  with_signature = put_part a (zeros 4) g _ (length-little 4 788) (sym (length-little 4 signature)) ∙ sym (append_assoc a g (t₀ ++ (after_text ++ (u₀ ++ after-unicode))))

  with_text : put ((a ++ g) ++ (t₀ ++ (after_text ++ (u₀ ++ after-unicode)))) 8 text ≡ front ++ (u₀ ++ after-unicode)
  with_text = put_part (a ++ g) t₀ text _ (length-append a g ∙ simp length-little) (as_many text) ∙ simp append_assoc

  with_unicode : put (front ++ (u₀ ++ after-unicode)) 268 unicode ≡ front ++ (unicode ++ after-unicode)
  with_unicode = put_part front u₀ unicode after-unicode (simp (length-append, length-little, length-replicate) (omega arith)) (as_many unicode)

  pub block_made : {b c d e : List ℕ} → b ≡ put (zeros 788) 0 a → c ≡ put b 4 g → d ≡ put c 8 text → e ≡ put d 268 unicode → e ≡ path_block signature text unicode
  unfolding path_block
  block_made p q r s =
      s
      ∙ ap (λ (l : List ℕ). put l 268 unicode) (r ∙ ap (λ (l : List ℕ). put l 8 text) (q ∙ ap (λ (l : List ℕ). put l 4 g) (p ∙ with_size) ∙ with_signature) ∙ with_text)
      ∙ with_unicode
      ∙ simp (append_assoc, append-nil)
