-- What is known of every answer to a fetch, so that it fits in one number.
use Rattle.std.specs.Prelude.{◌≤◌, ◌<◌, Result}
use Rattle.std.specs.Result.{result_unwrap_or}
use Rattle.format.specs.declared.Place.{Place}
use Rattle.format.specs.declared.Refused.{Refused}
use Rattle.format.specs.Numbers.{answer_value}
use Rattle.format.specs.Tests.{no_place}
use Rattle.format.specs.Shortcut.{most}
use Rattle.shelving.specs.Shelf.{fetch_verdict}

pub record FetchSmall (f : Result Place Refused) : Type 0 where
  pub value : answer_value (fetch_verdict f) ≤ most
  pub start : (result_unwrap_or f no_place).at < 4294967296
  pub long : (result_unwrap_or f no_place).len ≤ most
