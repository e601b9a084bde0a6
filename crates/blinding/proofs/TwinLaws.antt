-- One law for each way out of the functions that compare a text with its twin.
use mathlib.Core.Path.{◌≡◌, refl, sym, ap, ◌∙◌}
use mathlib.Core.List.{List}
use mathlib.Core.Bool.{Bool, true, false, not, ◌&&◌, ◌||◌, cond}
use Prim.Native.Nat.{ℕ, ◌+◌, ◌≤◌}
use native.Mathlib.Omega.{arith}
use lib.ListN.{length}
use lib.Dec.{leb}
use borrow.Author.Tests.{le-leb, not-true, not-false}
use Rattle.octets.specs.Steps.Puts.{part}
use Rattle.std.specs.Prelude.{Option, Some, None, is_some, IfSome, unwrap_or}
use Rattle.format.specs.declared.Place.{Place}
use Rattle.format.specs.Tests.{no_place}
use Rattle.format.specs.declared.Record.{Record}
use Rattle.format.specs.Presence.{local_there, local_unicode_there}
use Rattle.format.specs.Bodies.{local_slot, net_slot, net_unicode_slot, suffix_slot, local_unicode_slot, suffix_unicode_slot}
use Rattle.format.specs.Contents.{bytes_at}
use Rattle.format.specs.Target.{has_target}
use Rattle.format.specs.Key.{block_text}
use Rattle.format.specs.Codepage.{is_translation}
use Rattle.format.specs.PathWriting.{unicode_text}
use Rattle.format.specs.Blind.{other_twin, text_in, other_target, other_environment}
use Rattle.format.proofs.Bools.{clash}
use Rattle.format.proofs.BodyLaws.{body_part}
use Rattle.blinding.specs.Steps.Bits.{PathBlock, first_twin}

no_and : (a b : Bool) → a ≡ false → false ≡ (a && b)
no_and a b e = rw e

yes_and : (a b : Bool) → a ≡ true → b ≡ (a && b)
yes_and a b e = rw e

-- ---- two texts

module _ (s : List ℕ) (there : Bool) (text unicode : Place) where
  pub twin_absent : not there ≡ true → false ≡ other_twin there (bytes_at s text) (bytes_at s unicode)
  twin_absent e = no_and there (not (is_translation (bytes_at s text) (bytes_at s unicode))) (not-true there e)

  pub twin_told : (text.at + text.len ≤ length s) × (unicode.at + unicode.len ≤ length s) → not there ≡ false → {x y : List ℕ} {t : Bool}
      → x ≡ part s text.at text.len → y ≡ part s unicode.at unicode.len → t ≡ is_translation x y → not t ≡ other_twin there (bytes_at s text) (bytes_at s unicode)
  twin_told h e {x} {y} {t} f g i =
      let same : t ≡ is_translation (bytes_at s text) (bytes_at s unicode) = i ∙ rw (f ∙ body_part s text h.0, g ∙ body_part s unicode h.1) in
      ap not same ∙ yes_and there (not (is_translation (bytes_at s text) (bytes_at s unicode))) (not-false there e)

-- ---- the target's

module _ (s : List ℕ) (r : Record) where
  pub first_local : {local there t : Bool} → local ≡ local_there r.link.flags → local ≡ true → there ≡ local_unicode_there r.link.long r.link.flags
      → t ≡ other_twin there (text_in s r local_slot) (text_in s r local_unicode_slot) → t ≡ first_twin s r
  unfolding first_twin
  first_local {t = t} e l i k = go (local_there r.link.flags) (sym e ∙ l)
    where
      go : (b : Bool) → b ≡ true
          → t ≡ other_twin (cond b (local_unicode_there r.link.long r.link.flags) r.link.network_unicode) (text_in s r (cond b local_slot net_slot)) (text_in s r (cond b local_unicode_slot net_unicode_slot))
      go true z = k ∙ ap (λ (x : Bool). other_twin x (text_in s r local_slot) (text_in s r local_unicode_slot)) i
      go false z = clash z refl

  pub first_net : {local t : Bool} → local ≡ local_there r.link.flags → local ≡ false → t ≡ other_twin r.link.network_unicode (text_in s r net_slot) (text_in s r net_unicode_slot) → t ≡ first_twin s r
  unfolding first_twin
  first_net {t = t} e l k = go (local_there r.link.flags) (sym e ∙ l)
    where
      go : (b : Bool) → b ≡ false
          → t ≡ other_twin (cond b (local_unicode_there r.link.long r.link.flags) r.link.network_unicode) (text_in s r (cond b local_slot net_slot)) (text_in s r (cond b local_unicode_slot net_unicode_slot))
      go true z = clash refl z
      go false z = k

  -- of the first text, or of the suffix
  abbrev either : Bool
  either = first_twin s r || other_twin r.link.long (text_in s r suffix_slot) (text_in s r suffix_unicode_slot)

  otherwise : other_target s r ≡ (has_target r && either)
  unfolding first_twin
  otherwise = refl

  pub no_target : {has : Bool} → has ≡ has_target r → not has ≡ true → false ≡ other_target s r
  no_target {has} e k = no_and (has_target r) either (sym e ∙ not-true has k) ∙ sym otherwise

  pub target_told : {has first suffix : Bool} → has ≡ has_target r → not has ≡ false → first ≡ first_twin s r → suffix ≡ other_twin r.link.long (text_in s r suffix_slot) (text_in s r suffix_unicode_slot)
      → (first || suffix) ≡ other_target s r
  target_told {has} e k f g = rw (f, g) (yes_and (has_target r) either (sym e ∙ not-false has k) ∙ sym otherwise)

-- ---- the environment's

module _ (s : List ℕ) (b : Place) where
  pub no_environment : b.len ≡ 0 → false ≡ other_environment s b
  no_environment z = rw z

  pub environment_told : (b.len ≡ 0 → ⊥) → {x y : List ℕ} {t : Bool} → x ≡ block_text s b → y ≡ unicode_text (bytes_at s b) → t ≡ is_translation x y → not t ≡ other_environment s b
  environment_told z {x} {y} {t} e f i =
      let same : t ≡ is_translation (block_text s b) (unicode_text (bytes_at s b)) = i ∙ rw (e, f) in
      ap not same ∙ yes_and (leb 1 b.len) (not (is_translation (block_text s b) (unicode_text (bytes_at s b)))) (le-leb 1 b.len (omega arith))

module _ (s : List ℕ) where
  pub environment_none : {n : Bool} → (b : Option Place) → is_some b ≡ not n → n ≡ true → false ≡ other_environment s (unwrap_or b no_place)
  environment_none None e k = no_environment s no_place refl
  environment_none (Some x) e k = clash refl (e ∙ rw k)

  -- a path block has bytes
  pub environment_some : {n : Bool} → (b : Option Place) → IfSome b (PathBlock s) → is_some b ≡ not n → n ≡ false → (unwrap_or b no_place).len ≡ 0 → ⊥
  environment_some (Some x) P e k z = omega (arith, P.long)
  environment_some None P e k z = clash (e ∙ rw k) refl
