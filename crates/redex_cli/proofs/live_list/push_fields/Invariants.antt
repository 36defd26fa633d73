use Rattle.std.proofs.Common.{◌≡◌, ◌++◌, take}
use Rattle.std.specs.List.{flat_map}
use Rattle.redex_cli.specs.Lists.{live_field}
use Rattle.redex_cli.proofs.live_list.push_fields.Given as goal

abbrev pub invariant-loop-field : goal.invariant-loop-field
invariant-loop-field l = l.out.items ≡ l.initial.out.items ++ flat_map (live_field l.program l.live l.class.name) (take l.field-index l.class.fields)
