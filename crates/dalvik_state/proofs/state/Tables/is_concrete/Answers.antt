use Rattle.std.proofs.Common.{ap, not, ◌∙◌}
use Rattle.std.specs.Prelude.{◌&&◌}
use Rattle.dalvik_lookups.specs.Tables.{class_has}
use Rattle.dalvik_state.proofs.Faced.{concrete_some}
use Rattle.dalvik_state.proofs.state.Tables.is_concrete.Goals as goal

pub returns-then-has_flag : goal.returns-then-has_flag
returns-then-has_flag c = λ t r e.
    let l = c.args.self.now.lookups in
    ap (λ b. not b && not (class_has l.program.now c.args.class 1024)) c.if-has_flag.ensures ∙ concrete_some l r t c.args.class e

pub returns : goal.returns
returns c = λ t r e.
    (λ i. not (c.if-has_flag.ensures i) && not (c.has_flag-2.ensures i)) ∙ concrete_some c.args.self.now.lookups r t c.args.class e
