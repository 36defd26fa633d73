use Rattle.std.proofs.lemmas.List.{take_all}
use Rattle.hierarchy.proofs.Splits.{notes_none, notes_method, notes_all}
use Rattle.hierarchy.proofs.split.note_all.Goals as goal

pub loop-method-init : goal.loop-method-init
loop-method-init c = λ o e t. notes_none c.args.program.now c.args.keys.now c.args.special.now o c.args.class c.methods_at-method-items.result.now c.args.above t

pub loop-method-preserved : goal.loop-method-preserved
loop-method-preserved c = λ o e t. notes_method c.args.program.now c.args.keys.now c.args.special.now o c.args.class c.methods_at-method-items.result.now c.loop-method.method-index c.method-item.result c.loop-method.map c.in_ok-map.map
    c.method-item.is c.loop-method-test.true c.in_ok-map.ensures (c.loop-method.invariant o e t)

pub returns : goal.returns
returns c = λ o e t. notes_all c.args.program.now c.args.keys.now c.args.special.now o c.args.class c.methods_at-method-items.result.now c.loop-method.method-index c.loop-method.map e c.methods_at-method-items.ensures
    (take_all c.loop-method.method-index c.methods_at-method-items.result.now c.loop-method-test.false) (c.loop-method.invariant o e t)
