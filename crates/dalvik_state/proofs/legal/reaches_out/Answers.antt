use Rattle.std.proofs.Common.{ap, ◌∙◌}
use Rattle.std.specs.Prelude.{◌||◌}
use Rattle.dalvik_lookups.specs.Facing.{run_face}
use Rattle.dalvik_lookups.specs.Views.{type_text}
use Rattle.dalvik_state.proofs.Judging.{or_false, or_true}
use Rattle.dalvik_state.proofs.Results.{if_ok}
use Rattle.dalvik_state.proofs.legal.reaches_out.Goals as goal

pub returns-then-is_common-clause-is : goal.returns-then-is_common-clause-is
returns-then-is_common-clause-is c = λ q r k i e.
    let l = c.args.tables.now.lookups in
    let out = (run_face l).outward (type_text l.types c.args.receiver) in
    or_true out ∙ ap (λ b. out || b) (c.if-is_common.ensures q r e)

pub returns-clause-is : goal.returns-clause-is
returns-clause-is c = λ q r k i e.
    let l = c.args.tables.now.lookups in
    let out = (run_face l).outward (type_text l.types c.args.receiver) in
    if_ok c.is_outward.result _ _ (c.is_outward.ensures.is r k i) (λ b f. f ∙ or_false out ∙ ap (λ x. out || x) (c.if-is_common.ensures q r e))
