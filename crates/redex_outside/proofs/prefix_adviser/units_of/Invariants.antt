use Rattle.std.proofs.Common.{◌≡◌, take}
use Rattle.std.specs.Char.Escape.{encode_utf16}
use Rattle.std.specs.List.{flat_map}
use Rattle.redex_outside.proofs.prefix_adviser.units_of.Given as goal

abbrev pub invariant-loop-character : goal.invariant-loop-character
invariant-loop-character l = l.units.items ≡ flat_map encode_utf16 (take l.character-index l.characters)
