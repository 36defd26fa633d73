use Rattle.std.proofs.Common.{◌≡◌, drop}
use Rattle.std.specs.List.{list_all}
use Rattle.hierarchy.specs.Shapes.{IsOf}
use Rattle.premises.specs.Plain.{is_plain_class}
use Rattle.premises.proofs.plain.are_plain_classes.Given as goal

abbrev pub invariant-loop-class : goal.invariant-loop-class
invariant-loop-class l = IsOf l.program l.hierarchy → list_all (is_plain_class l.program) (drop l.class-index l.classes) ≡ list_all (is_plain_class l.program) l.classes
