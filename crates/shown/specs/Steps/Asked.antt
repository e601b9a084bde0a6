-- A section asked for by name, in terms of the outline.
use Rattle.std.specs.Prelude.{ℕ, ◌-◌, Bool, cond}
use Rattle.format.specs.declared.Place.{Place}
use Rattle.format.specs.Tests.{place, no_place}

-- from p to e where it is there
abbrev pub between : Bool → ℕ → ℕ → Place
between there p e = cond there (place p (e - p)) no_place
