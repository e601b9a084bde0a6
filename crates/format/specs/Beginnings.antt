-- FORMAT: Beginnings. What the calls answer to a shortcut that was cut short, and what salvage makes of it.
use Rattle.std.specs.Prelude.{ℕ, ◌+◌, ◌-◌, ◌≤◌, ◌<◌, ◌≡◌, List, [], ◌∷◌, ◌++◌, length, take, Ok}
use Rattle.octets.specs.Parts.{put}
use Rattle.format.specs.declared.Profile.{Profile}
use Rattle.format.specs.declared.Profile.TheVariants.{Strict}
use Rattle.format.specs.declared.Fault.TheVariants.{Cut as CUT}
use Rattle.format.specs.Listing.{Row, listing}
use Rattle.format.specs.Demands.{Refuses}
use Rattle.format.specs.Target.{target_answer, target_output}
use Rattle.format.specs.Key.{key_in, key_answer, key_output}
use Rattle.format.specs.StoreList.{store_list_answer, store_list_output}
use Rattle.format.specs.Moving.{to_unicode_answer, to_unicode_output, to_bytes_answer, to_bytes_output}
use Rattle.format.specs.Salvage.{zero_terminal, salvage_answer, salvage_output, KeyKept}
use Rattle.format.specs.Verdicts.{Verdict, refused_at}

-- a call refuses with CUT at p, and its buffer is as it was
abbrev pub StopsAt : ℕ → (List ℕ → Verdict) → (List ℕ → List ℕ) → Type 0
StopsAt p answer output = (out : List ℕ) → (answer out ≡ refused_at CUT p) × (output out ≡ out)

-- so do all calls that read s under this profile; nothing of it is listed, and so no section is shown
pub record Stopped (profile : Profile) (s : List ℕ) (p : ℕ) : Type 0 where
  pub read : Refuses profile s CUT p
  pub listed : listing profile s ≡ []
  pub target : StopsAt p (target_answer profile s) (target_output profile s)
  pub key : StopsAt p (key_answer profile s) (key_output profile s)
  pub stores : StopsAt p (store_list_answer profile s) (store_list_output profile s)
  pub to_unicode : StopsAt p (to_unicode_answer profile s) (to_unicode_output profile s)
  pub to_bytes : StopsAt p (to_bytes_answer profile s) (to_bytes_output profile s)

-- the first k bytes of s are stopped, at a position not after the cut
pub record BeginningStopped (profile : Profile) (s : List ℕ) (k : ℕ) : Type 0 where
  pub position : ℕ
  pub early : position ≤ k
  pub stopped : Stopped profile (take k s) position

-- the first k bytes of s, cut among its blocks, are salvaged: all that stands before the block that was hit, or before the terminal, is kept
pub record BeginningSaved (s : List ℕ) (k : ℕ) : Type 0 where
  pub before : List Row
  pub hit : Row
  pub after : List Row
  pub listed : listing Strict s ≡ before ++ hit ∷ after
  -- the cut lies in it
  pub starts : hit.start ≤ k
  pub ends : k < hit.start + hit.len
  pub answer : (out : List ℕ) → hit.start + 4 ≤ length out
      → salvage_answer (take k s) out ≡ Ok (record { len = hit.start + 4; number = 2; kept = hit.start; dropped = k - hit.start })
  pub output : (out : List ℕ) → hit.start + 4 ≤ length out → salvage_output (take k s) out ≡ put out 0 (take hit.start s ++ zero_terminal)
  -- the key is that of s, but that the environment may be gone
  pub key : KeyKept (key_in Strict (take hit.start s ++ zero_terminal)) (key_in Strict s)
