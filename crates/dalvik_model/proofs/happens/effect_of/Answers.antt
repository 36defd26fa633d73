use Rattle.dalvik_model.proofs.Reaching.{in_run, reached_err, reached_ok}
use Rattle.dalvik_model.proofs.happens.effect_of.Goals as goal

pub returns-clause-ok : goal.returns-clause-ok
returns-clause-ok c = λ floats steps f table run top next.
    let l = c.args.tables.now.lookups in
    let here = in_run l c.args.memo.now steps c.args.state.now f run top next in
    reached_ok l floats steps c.args.memo.now c.acts_on.new.memo c.args.state.now c.acts_on.new.world c.acts_on.new.stack f c.acts_on.result run top (c.acts_on.ensures.memo steps f top here) (c.acts_on.ensures.ok floats steps f top table here)

pub returns-clause-err : goal.returns-clause-err
returns-clause-err c = λ steps f run top next.
    let l = c.args.tables.now.lookups in
    let here = in_run l c.args.memo.now steps c.args.state.now f run top next in
    reached_err l steps c.args.memo.now c.acts_on.new.memo c.args.state.now c.acts_on.new.world c.acts_on.new.stack f c.acts_on.result run top (c.acts_on.ensures.memo steps f top here) (c.acts_on.ensures.err f top)
