use Rattle.class_defs.specs.Finding.{finds_super}
use Rattle.loose_methods.proofs.candidates.Judged.found_super.Goals as goal

pub returns : goal.returns
returns c = λ j. c.number_bound.ensures (finds_super c.args.self.now.program.now c.args.caller c.args.called) (c.in_ok-target.ensures j.resolved.of j.formed)
