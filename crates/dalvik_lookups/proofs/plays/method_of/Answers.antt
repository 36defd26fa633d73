use Rattle.dalvik_lookups.proofs.Playing.{method_known, ready}
use Rattle.dalvik_lookups.proofs.plays.method_of.Goals as goal

pub returns-clause-is : goal.returns-clause-is
returns-clause-is c = λ p k.
    let r = ready p c.args.names.now c.args.declared.now k in
    let a = c.in_ok-owner.ensures.grows r in
    method_known p c.args.names.now c.add_type.new.names c.add_text.new.names c.args.declared.now k a (c.in_ok-text.ensures.grows a.ready) c.in_ok-owner.owner c.in_ok-text.text c.args.class.now c.args.name.now c.units.result.now c.units-2.result.now c.args.proto.now c.units-3.result.now
    (c.in_ok-owner.ensures.is r) (c.in_ok-text.ensures.is a.ready) c.units.ensures c.units-2.ensures c.units-3.ensures c.method.result c.method.ensures
