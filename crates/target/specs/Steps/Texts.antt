-- Where the target's two texts stand, and whether a separator stands between them.
use Rattle.std.specs.Prelude.{ℕ, ◌+◌, ◌≤◌, List, [], ◌++◌, cond, length}
use Rattle.format.specs.declared.Place.{Place}
use Rattle.format.specs.declared.Record.{Record}
use Rattle.format.specs.Tests.{one_or_0}
use Rattle.format.specs.Presence.{local_there}
use Rattle.format.specs.Bodies.{place_in, local_slot, net_slot, suffix_slot}
use Rattle.format.specs.Contents.{bytes_at}
use Rattle.format.specs.Target.{backslash, separated}
use Rattle.target.specs.declared.Texts.{Texts}

unfoldable pub first_text : Record → Place
first_text r = cond (local_there r.link.flags) (place_in r local_slot) (place_in r net_slot)

unfoldable pub texts_of : List ℕ → Record → Texts
texts_of s r = record {
  first = first_text r;
  separated = separated (bytes_at s (first_text r)) (bytes_at s (place_in r suffix_slot));
  suffix = place_in r suffix_slot;
}

abbrev pub Stands : List ℕ → Texts → Type 0
Stands s t = (t.first.at + t.first.len ≤ length s) × (t.suffix.at + t.suffix.len ≤ length s)

abbrev pub texts_length : Texts → ℕ
texts_length t = t.first.len + one_or_0 t.separated + t.suffix.len

unfoldable pub texts_bytes : List ℕ → Texts → List ℕ
texts_bytes s t = bytes_at s t.first ++ (cond t.separated backslash [] ++ bytes_at s t.suffix)
