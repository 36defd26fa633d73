use Rattle.std.proofs.Common.{sym}
use Rattle.dalvik_lookups.specs.Views.{type_text}
use Rattle.dalvik_lookups.proofs.Facing.{class_of}
use Rattle.dalvik_state.proofs.Judging.{outward_none, outward_some}
use Rattle.dalvik_state.proofs.Results.{if_ok}
use Rattle.dalvik_state.proofs.legal.is_outward.Goals as goal

pub returns-in-Some-clause-is : goal.returns-in-Some-clause-is
returns-in-Some-clause-is c = λ r k i.
    let l = c.args.tables.now.lookups in
    let t = type_text l.types c.args.receiver in
    let q = class_of l.program.now t c.in-Some.class (sym (c.in-Some.ensures r i)) in
    if_ok c.is_outward.result _ _ (c.is_outward.ensures.is q.class r k q.is) (λ b e. outward_some l r t c.in-Some.class q b e)

pub returns-in-None-clause-is : goal.returns-in-None-clause-is
returns-in-None-clause-is c = λ r k i.
    let l = c.args.tables.now.lookups in
    outward_none l r (type_text l.types c.args.receiver) (sym (c.in-None.ensures r i))
