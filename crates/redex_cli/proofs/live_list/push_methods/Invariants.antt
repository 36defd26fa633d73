use Rattle.std.proofs.Common.{◌≡◌, ◌++◌, take}
use Rattle.std.specs.List.{flat_map}
use Rattle.redex_cli.specs.Lists.{live_method}
use Rattle.redex_cli.proofs.live_list.push_methods.Given as goal

abbrev pub invariant-loop-method : goal.invariant-loop-method
invariant-loop-method l = l.out.items ≡ l.initial.out.items ++ flat_map (live_method l.program l.live l.class.name) (take l.method-index l.class.methods)
