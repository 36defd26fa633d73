use Rattle.std.proofs.Common.{◌∙◌}
use Rattle.rewrite_pass.proofs.Counting.{none_written}
use Rattle.rewrite_pass.proofs.write.write_plan.Goals as goal

pub returns : goal.returns
returns c = record { program = c.in_ok-write_all.ensures; count = c.count_all.ensures; origins = c.new.ensures; same = λ z. c.in_ok-write_all.ensures ∙ none_written c.args.plan.now c.args.program c.count_all.result c.count_all.ensures z }
