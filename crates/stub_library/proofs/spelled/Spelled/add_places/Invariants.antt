use Rattle.std.proofs.Common.{◌≡◌, ◌++◌, take}
use Rattle.std.specs.List.{flat_map}
use Rattle.stub_library.specs.Spelling.{spelled_one}
use Rattle.stub_library.proofs.spelled.Spelled.add_places.Given as goal

abbrev pub invariant-loop-place : goal.invariant-loop-place
invariant-loop-place l = l.out.items ≡ l.initial.out.items ++ flat_map (spelled_one l.self.program.now l.self.numbers.items l.proto) (take l.place-index l.places)
