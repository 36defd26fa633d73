use Rattle.dalvik_act.proofs.Acts.{acted_by, asking_of, fits_of}
use Rattle.dalvik_act.proofs.acting.act.Goals as goal

pub returns-clause-acted : goal.returns-clause-acted
returns-clause-acted c = λ floats steps table a.
    let t = c.args.tables.now in
    let m = c.args.memo.now in
    let w = c.args.world.now in
    let f = c.args.frame.now in
    let x = c.args.insn.now in
    let r = c.act_by_form.ensures in
    acted_by t m steps w c.act_by_form.new.world f c.act_by_form.new.frame x c.act_by_form.result floats table a r.acts r.still r.measures r.constants r.arrays r.gets r.tests r.locks
    (r.safe (asking_of t.lookups m steps w f x a) (fits_of t.lookups m steps w f x a) a.array)

pub returns-clause-memo : goal.returns-clause-memo
returns-clause-memo c = λ steps a.
    let l = c.args.tables.now.lookups in
    c.act_by_form.ensures.memo (asking_of l c.args.memo.now steps c.args.world.now c.args.frame.now c.args.insn.now a) (fits_of l c.args.memo.now steps c.args.world.now c.args.frame.now c.args.insn.now a)
