use Rattle.std.proofs.Common.{sym}
use Rattle.dalvik_model.proofs.Formed.{acting, formed_by, formless}
use Rattle.dalvik_model.proofs.happens.acts_at.Goals as goal

pub returns-in-Some-clause-ok : goal.returns-in-Some-clause-ok
returns-in-Some-clause-ok c = λ floats steps table run.
    let l = c.args.tables.now.lookups in
    let is = sym c.in-Some.ensures in
    let x = c.in-Some.insn.now in
    formed_by l c.args.memo.now floats steps c.args.world.now c.act.new.world c.args.frame.now c.act.new.frame x c.act.result run is
    (c.act.ensures.acted floats steps table (acting l c.args.memo.now steps c.args.world.now c.args.frame.now x run is)) c.act.ensures.ok c.act.ensures.kept

pub returns-in-Some-clause-memo : goal.returns-in-Some-clause-memo
returns-in-Some-clause-memo c = λ steps run. c.act.ensures.memo steps (acting c.args.tables.now.lookups c.args.memo.now steps c.args.world.now c.args.frame.now c.in-Some.insn.now run (sym c.in-Some.ensures))

pub returns-in-None-clause-ok : goal.returns-in-None-clause-ok
returns-in-None-clause-ok c = λ floats steps table run. formless c.args.tables.now.lookups c.args.memo.now floats steps c.args.world.now c.args.frame.now run (sym c.in-None.ensures)
