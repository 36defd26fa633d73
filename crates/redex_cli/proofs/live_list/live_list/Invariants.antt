use Rattle.std.proofs.Common.{◌≡◌, take}
use Rattle.std.specs.List.{flat_map}
use Rattle.redex_cli.specs.Lists.{live_class}
use Rattle.redex_cli.proofs.live_list.live_list.Given as goal

abbrev pub invariant-loop-class : goal.invariant-loop-class
invariant-loop-class l = l.out.items ≡ flat_map (live_class l.program l.live) (take l.class-index l.program.classes)
