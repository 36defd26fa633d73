use Rattle.std.proofs.Common.{◌≡◌, drop}
use Rattle.std.specs.List.{list_all}
use Rattle.hierarchy.specs.Shapes.{IsOf}
use Rattle.premises.specs.Plain.{is_listable}
use Rattle.premises.proofs.plain.are_listable.Given as goal

abbrev pub invariant-loop-kind : goal.invariant-loop-kind
invariant-loop-kind l = IsOf l.program l.hierarchy → list_all (is_listable l.program) (drop l.kind-index l.kinds) ≡ list_all (is_listable l.program) l.kinds
