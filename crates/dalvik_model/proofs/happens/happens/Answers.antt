use Rattle.dalvik_model.proofs.Coming.{came_by, comes_reached, fruitless_by_result}
use Rattle.dalvik_model.proofs.happens.happens.Goals as goal

pub returns-clause-ok : goal.returns-clause-ok
returns-clause-ok c = λ o floats script steps f run table top next.
    let l = c.args.tables.now.lookups in
    let e = c.in_ok-effect.effect in
    let r = c.in_ok-effect.ensures.ok floats steps f table run top next in
    came_by l floats steps c.effect_of.new.memo c.comes.new.memo c.args.state.now c.effect_of.new.state c.comes.new.state f e o script c.comes.result r (c.comes.ensures.ok o floats script steps r.frame r.ahead)
    (comes_reached l o floats script c.args.state.now f steps c.effect_of.new.memo e c.effect_of.new.state r)

pub returns-clause-err : goal.returns-clause-err
returns-clause-err c = λ floats steps f run table top next.
    let l = c.args.tables.now.lookups in
    let e = c.in_ok-effect.effect in
    let r = c.in_ok-effect.ensures.ok floats steps f table run top next in
    fruitless_by_result l floats steps c.effect_of.new.memo c.comes.new.memo c.args.state.now c.effect_of.new.state c.comes.new.state f e c.comes.result run.on top r (c.comes.ensures.err steps r.frame r.ahead)
