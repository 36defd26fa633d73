use Rattle.std.proofs.Common.{◌≡◌, ◌++◌, take, map}
use Rattle.std.specs.List.{AllByRecursion}
use Rattle.dex_write.specs.Plans.{spot_of}
use Rattle.dex_write.specs.Codes.{IsPart}
use Rattle.dex_write.proofs.codes.push_parts.Given as goal

abbrev pub invariant-loop-spot : goal.invariant-loop-spot
invariant-loop-spot l = record {
  spots : map spot_of l.parts.items ≡ map spot_of l.fn.parts.items ++ take l.spot-index l.places;
  coded : AllByRecursion (IsPart l.program l.numbers l.class) l.fn.parts.items → AllByRecursion (IsPart l.program l.numbers l.class) l.parts.items;
}
