use Rattle.std.proofs.Common.{◌≡◌, length, take, sum_by}
use Rattle.program_model.specs.Cells.{capped}
use Rattle.redex_cli.proofs.check_line.count_methods.Given as goal

abbrev pub invariant-loop-class : goal.invariant-loop-class
invariant-loop-class l = l.total ≡ capped (sum_by (λ class. length class.methods) (take l.class-index l.program.classes))
