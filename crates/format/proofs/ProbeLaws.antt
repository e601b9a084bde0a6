-- The probe table holds, by one computation for each profile.
use mathlib.Core.Path.{◌≡◌, refl}
use mathlib.Core.Bool.{true, ◌&&◌}
use Rattle.octets.specs.Numbers.{number, number_at, little}
use Rattle.octets.specs.Characters.{units, before_zero}
use Rattle.octets.specs.Parts.{put}
use Rattle.format.specs.declared.Profile.TheVariants.{Strict, NinetyFive}
use Rattle.format.specs.Numbers.{number_of, answer_number, answer_value}
use Rattle.format.specs.Header.{identifier_ok, signed}
use Rattle.format.specs.Items.{item_tests}
use Rattle.format.specs.Blocks.{slot_of, size_fits, inside_tests, blocks_from}
use Rattle.format.specs.Shortcut.{sections, shortcut, reading}
use Rattle.format.specs.Bodies.{placed}
use Rattle.format.specs.Contents.{present, contents}
use Rattle.format.specs.Writing.{bits, header_bytes, items_bytes, volume_bytes, network_bytes, info_bytes, bytes_of_string, canonical, writable, writing, output_of, write_answer, write_output}
use Rattle.format.specs.Listing.{listing}
use Rattle.format.specs.Probes.{holds, all_hold, table}

pub probes_hold : all_hold Strict table && all_hold NinetyFive table ≡ true
unfolding all_hold holds table number number_at little units before_zero put number_of answer_number answer_value identifier_ok signed item_tests slot_of size_fits inside_tests blocks_from sections shortcut reading present placed contents bits header_bytes items_bytes volume_bytes network_bytes info_bytes bytes_of_string canonical writable writing output_of write_answer write_output listing
probes_hold = refl
