use Rattle.dalvik_lookups.proofs.Playing.{field_known, ready}
use Rattle.dalvik_lookups.proofs.plays.field_of.Goals as goal

pub returns-clause-is : goal.returns-clause-is
returns-clause-is c = λ p k.
    let r = ready p c.args.names.now c.args.declared.now k in
    let a = c.in_ok-owner.ensures.grows r in
    let b = c.in_ok-text.ensures.grows a.ready in
    let g = c.in_ok-of.ensures.grows b.ready in
    field_known p c.args.names.now c.add_type.new.names c.add_text.new.names c.add_type-2.new.names c.args.declared.now k a b g c.in_ok-owner.owner c.in_ok-of.of c.in_ok-text.text c.args.class.now c.args.name.now c.args.kind.now c.units.result.now c.units-2.result.now c.units-3.result.now
    (c.in_ok-owner.ensures.is r) (c.in_ok-text.ensures.is a.ready) (c.in_ok-of.ensures.is b.ready) c.units.ensures c.units-2.ensures c.units-3.ensures c.field.result c.field.ensures c.with_kind.result c.with_kind.ensures
