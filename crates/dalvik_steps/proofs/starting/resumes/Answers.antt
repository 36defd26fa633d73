use Rattle.std.proofs.Common.{◌≡◌, suc, length, arith}
use Rattle.dalvik_state.specs.Runs.{classes_in, script_in, world_in}
use Rattle.dalvik_steps.proofs.Resumed.{resumes_left}
use Rattle.dalvik_steps.proofs.starting.resumes.Goals as goal

pub returns-in-Some-clause-ok : goal.returns-in-Some-clause-ok
returns-in-Some-clause-ok c = λ steps script r run on.
    let l = c.args.tables.now.lookups in
    let old = c.args.state.now in
    let place = c.in-Some.place in
    let long : suc (suc place) ≡ length old.stack.items = omega arith in
    resumes_left l steps script (script_in script old) c.goes_on.new.state c.goes_on.result (world_in l old) (classes_in l old) old.stack.items place long
    (λ class above next there. c.goes_on.ensures.class steps script class above next r run on there) (λ low other. c.goes_on.ensures.other steps script r run on low other)
