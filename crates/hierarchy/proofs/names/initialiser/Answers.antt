use Rattle.std.proofs.Common.{◌∙◌, sym, arith}
use Rattle.hierarchy.proofs.Indexed.{AtPlace, at_place}
use Rattle.hierarchy.proofs.Started.{runs_at}
use Rattle.hierarchy.proofs.names.initialiser.Goals as goal

pub returns-then-is_initialiser : goal.returns-then-is_initialiser
returns-then-is_initialiser c = λ short.
    let at : AtPlace c.args.class.now.methods c.loop-place.place c.method-item.result = at_place c.args.class.now.methods c.as_slice-method-items.result.now c.loop-place.place c.method-item.result c.as_slice-method-items.ensures c.method-item.is c.loop-place-test.true in
    c.running.ensures (omega (arith, at.short, short)) ∙ runs_at c.args.program.now c.args.class.now.methods c.loop-place.place c.method-item.result c.loop-place.invariant at.got (sym c.is_initialiser.ensures ∙ c.if-is_initialiser.true)
