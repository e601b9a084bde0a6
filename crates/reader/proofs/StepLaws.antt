-- The reader's steps lead to what reading says, refusals too.
use mathlib.Core.Path.{◌≡◌, refl, sym, ap, ◌∙◌}
use mathlib.Core.List.{List}
use mathlib.Core.Bool.{Bool, true, false, cond}
use Prim.Native.Nat.{ℕ, ◌+◌}
use native.Mathlib.Omega.{arith}
use native.Mathlib.Nat.{zero-add}
use lib.ListN.{length, drop}
use lib.Seq.{drop-drop}
use Rattle.std.specs.Prelude.{Result, Ok, Err}
use Rattle.octets.specs.declared.Cursor.{Cursor}
use Rattle.format.specs.declared.Profile.{Profile}
use Rattle.format.specs.declared.Header.{Header}
use Rattle.format.specs.declared.Info.{Info}
use Rattle.format.specs.declared.Place.{Place}
use Rattle.format.specs.declared.Refusal.{Refusal}
use Rattle.format.specs.Tests.{Outcome, got, refused, no_place, Reader, and_then, chain, ◌then◌}
use Rattle.format.specs.Presence.{items_there, info_there, name_bit, relative_bit, workdir_bit, arguments_bit, icon_bit, string_there, strings_unicode}
use Rattle.format.specs.Header.{header}
use Rattle.format.specs.Items.{items}
use Rattle.format.specs.Info.{info, no_info}
use Rattle.format.specs.Strings.{string}
use Rattle.format.specs.Blocks.{blocks}
use Rattle.format.specs.Shortcut.{Section, Sections, found, section_if, string_section, tail, sections}
use Rattle.format.specs.Steps.Answers.{refusal, read_from}
use Rattle.blocks.specs.Steps.Walk.{blocks_taken, blocks_at}
use Rattle.info.specs.Steps.Taken.{info_taken, info_at}
use Rattle.reader.specs.declared.SectionEnds.{SectionEnds}
use Rattle.reader.specs.Steps.EachSection.{go_on, after, string_on, info_on, ended_at, outline_from}
use Rattle.reader.specs.Steps.Finish.{ends_in}
use Rattle.format.proofs.PlaceLaws.{found_elim}
use Rattle.reader.proofs.Found.{ends_from, Finds, section_Finds}

-- what an outcome leads to, by what is made of a value; a refusal is the same
abbrev pub led : {A C : Type 0} → (A → ℕ → Result C Refusal) → Outcome A → Result C Refusal
led w (got a n) = w a n
led w (refused f q) = Err (refusal f q)

led-map : {A B C : Type 0} (w : B → ℕ → Result C Refusal) (g : A → ℕ → B) (k : ℕ) (o : Outcome A)
    → led w (and_then o (λ a m. got (g a m) (k + m))) ≡ led (λ a m. w (g a m) (k + m)) o
led-map w g k (got a m) = refl
led-map w g k (refused f q) = refl

-- a section, and what follows it from its end on
module _ {A B C R : Type 0} {s : List ℕ} {P : Reader (Section A)} {X : ℕ → Section A → Type 0} (F : Finds s P X) (Q : Section A → Reader B) (p : ℕ)
    (w : Section A × B → ℕ → Result C Refusal) (k : Section A → R) (g : R → Result C Refusal) where
  chain_led : {r : Result R Refusal} → r ≡ led (λ a n. Ok (k a)) (P p (drop p s))
      → ((a : Section A) → g (k a) ≡ led (λ b m. w (a, b) (a.len + m)) (Q a (p + a.len) (drop (p + a.len) s)))
      → go_on r g ≡ led w (chain P Q p (drop p s))
  chain_led {r} e h = ap (λ (x : Result R Refusal). go_on x g) e ∙ go (P p (drop p s)) refl
    where
      go : (o : Outcome (Section A)) → P p (drop p s) ≡ o
          → go_on (led (λ a n. Ok (k a)) o) g ≡ led w (and_then o (λ a n. and_then (Q a (p + n) (drop n (drop p s))) (λ b m. got (a, b) (n + m))))
      go (got a n) i =
          let z : n ≡ a.len = (F.finds p a n i).0 in
          h a ∙ sym (rw (z, drop-drop a.len p s) (led-map w (λ b m. (a, b)) a.len (Q a (p + a.len) (drop (p + a.len) s))))
      go (refused f q) i = refl

-- ---- each step

-- the cursor at the end of a section that starts at p
abbrev end : {A : Type 0} → ℕ → Section A → Cursor
end p v = record { at = p + v.len }

absent_led : {A : Type 0} (p : ℕ) (d : A) → ◌≡◌ {A = Result Cursor Refusal} (Ok (record { at = p })) (Ok (record { at = p + 0 }))
absent_led p d = let z : p ≡ p + 0 = omega arith in ap (λ (q : ℕ). Ok (record { at = q })) z

place_led : (P : Reader Place) (b : Bool) (d : Place) (p : ℕ) (l : List ℕ) → cond b (after (read_from p (P p l))) (Ok (record { at = p })) ≡ led (λ (v : Section Place) n. Ok (end p v)) (section_if b d P p l)
place_led P true d p l = go (P p l)
  where
    go : (o : Outcome Place) → after (read_from p o) ≡ led (λ (v : Section Place) n. Ok (end p v)) (and_then o (λ a n. got (record { there = true; start = p; len = n; read = a }) n))
    go (got a n) = refl
    go (refused f q) = refl
place_led P false d p l = absent_led p d

info_led : (profile : Profile) (s : List ℕ) (b : Bool) (p : ℕ)
    → info_on profile s b (record { at = p }) ≡ led (λ (v : Section Info) n. Ok (end p v)) (section_if b no_info (info profile) p (drop p s))
unfolding info_at
info_led profile s true p = go (info profile p (drop p s))
  where
    go : (o : Outcome Info) → info_taken p o ≡ led (λ (v : Section Info) n. Ok (end p v)) (and_then o (λ a n. got (record { there = true; start = p; len = n; read = a }) n))
    go (got a n) = refl
    go (refused f q) = refl
info_led profile s false p = absent_led p no_info

blocks_led : {C : Type 0} (s : List ℕ) (p : ℕ) (g : Cursor → Result C Refusal) (w : Section (List ℕ) → ℕ → Result C Refusal)
    → ((v : Section (List ℕ)) → g (end p v) ≡ w v v.len) → go_on (after (blocks_at s p)) g ≡ led w (found blocks p (drop p s))
unfolding blocks_at
blocks_led {C} s p g w h = go (blocks p (drop p s))
  where
    go : (o : Outcome (List ℕ)) → go_on (after (blocks_taken p o)) g ≡ led w (and_then o (λ a n. got (record { there = true; start = p; len = n; read = a }) n))
    go (got ls n) = h (record { there = true; start = p; len = n; read = ls })
    go (refused f q) = refl

header_Finds : (profile : Profile) (s : List ℕ) → Finds s (found (header profile)) (λ p v. Unit {0})
header_Finds profile s = record {
  finds = λ p v n e. found_elim (header profile) p (drop p s) (λ v n. (n ≡ v.len) × Unit {0}) (λ h n i. (refl, tt)) v n e;
}

header_led : (profile : Profile) (s : List ℕ) → read_from 0 (header profile 0 s) ≡ led (λ v n. Ok (v.read, record { at = v.len })) (found (header profile) 0 s)
header_led profile s = go (header profile 0 s)
  where
    go : (o : Outcome Header)
        → read_from 0 o ≡ led (λ (v : Section Header) n. Ok (v.read, record { at = v.len })) (and_then o (λ h n. got (record { there = true; start = 0; len = n; read = h }) n))
    go (got h n) = ap (λ (q : ℕ). Ok (h, record { at = q })) (zero-add n)
    go (refused f q) = refl

-- ---- all of them

module _ (profile : Profile) (s : List ℕ) (h : Header) where
  abbrev string_at : ℕ → Reader Place
  string_at k = string (k + 1) (strings_unicode h.flags)

  abbrev Made : Type 0 → Type 0
  Made B = B → ℕ → Result SectionEnds Refusal

  -- over the string of flag bit k, and what follows it
  string_step : {B : Type 0} (k : ℕ) (Q : Reader B) (p : ℕ) (w : Made (Section Place × B)) (g : Cursor → Result SectionEnds Refusal)
      → ((v : Section Place) → g (end p v) ≡ led (λ b m. w (v, b) (v.len + m)) (Q (p + v.len) (drop (p + v.len) s)))
      → go_on (string_on s (string_there k h.flags) (k + 1) (strings_unicode h.flags) (record { at = p })) g ≡ led w ((string_section h.flags k then Q) p (drop p s))
  string_step k Q p w g =
      chain_led (section_Finds s (string_at k) (string_there k h.flags) no_place) (λ a. Q) p w (end p) g
      (place_led (string_at k) (string_there k h.flags) no_place p (drop p s))

  pub tail_led : (p : ℕ) → outline_from profile s h (record { at = p }) ≡ led (λ v n. ended_at (length s) (ends_from p v) (record { at = p + n })) (tail profile h.flags p (drop p s))
  tail_led p =
      chain_led (section_Finds s items (items_there h.flags) no_place) (λ a. after_items) p (λ v n. ended_at (length s) (ends_from p v) (record { at = p + n })) (end p) _
      (place_led items (items_there h.flags) no_place p (drop p s))
      (λ v₀. let p₀ = p + v₀.len in chain_led (section_Finds s (info profile) (info_there h.flags) no_info) (λ a. after_info) p₀ (λ v n. ended_at (length s) (ends_from p (v₀, v)) (record { at = p + (v₀.len + n) })) (end p₀) _ (info_led profile s (info_there h.flags) p₀)
      (λ v₁. let p₁ = p₀ + v₁.len in string_step name_bit after_name p₁ _ _
      (λ v₂. let p₂ = p₁ + v₂.len in string_step relative_bit after_relative p₂ _ _
      (λ v₃. let p₃ = p₂ + v₃.len in string_step workdir_bit after_workdir p₃ _ _
      (λ v₄. let p₄ = p₃ + v₄.len in string_step arguments_bit after_arguments p₄ _ _
      (λ v₅. let p₅ = p₄ + v₅.len in string_step icon_bit (found blocks) p₅ _ _
      (λ v₆. let p₆ = p₅ + v₆.len in blocks_led s p₆ _ _
      (λ v₇.
      let sum : p₆ + v₇.len ≡ p + (v₀.len + (v₁.len + (v₂.len + (v₃.len + (v₄.len + (v₅.len + (v₆.len + v₇.len))))))) = omega arith in
      ap (λ (q : ℕ). ended_at (length s) (ends_from p (v₀, (v₁, (v₂, (v₃, (v₄, (v₅, (v₆, v₇)))))))) (record { at = q })) sum))))))))
    where
      after_arguments : Reader (Section Place × Section (List ℕ))
      after_arguments = string_section h.flags icon_bit then found blocks

      after_workdir : Reader (Section Place × (Section Place × Section (List ℕ)))
      after_workdir = string_section h.flags arguments_bit then after_arguments

      after_relative : Reader (Section Place × (Section Place × (Section Place × Section (List ℕ))))
      after_relative = string_section h.flags workdir_bit then after_workdir

      after_name : Reader (Section Place × (Section Place × (Section Place × (Section Place × Section (List ℕ)))))
      after_name = string_section h.flags relative_bit then after_relative

      after_info : Reader (Section Place × (Section Place × (Section Place × (Section Place × (Section Place × Section (List ℕ))))))
      after_info = string_section h.flags name_bit then after_name

      after_items : Reader (Section Info × (Section Place × (Section Place × (Section Place × (Section Place × (Section Place × Section (List ℕ)))))))
      after_items = section_if (info_there h.flags) no_info (info profile) then after_info

-- what is made of all sections and how many bytes they take
abbrev pub sections_end : List ℕ → Sections → ℕ → Result SectionEnds Refusal
sections_end s c n = ended_at (length s) (ends_in c) (record { at = n })

pub steps_led : (profile : Profile) (s : List ℕ) → go_on (read_from 0 (header profile 0 s)) (λ x. outline_from profile s x.0 x.1) ≡ led (sections_end s) (sections profile 0 s)
unfolding sections
steps_led profile s =
    chain_led (header_Finds profile s) (λ (v : Section Header). tail profile v.read.flags) 0 (sections_end s) (λ (v : Section Header). (v.read, record { at = v.len }))
    (λ (x : Header × Cursor). outline_from profile s x.0 x.1) (header_led profile s)
    (λ v. rw (zero-add v.len) (tail_led profile s v.read v.len))
