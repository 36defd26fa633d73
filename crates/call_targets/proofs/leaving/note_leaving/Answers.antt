use Rattle.std.proofs.Common.{◌≡◌, ap, subst, length, arith, get_or}
use Rattle.program_model.specs.declared.pools.MethodName.{MethodName}
use Rattle.call_targets.specs.Adding.{Adds}
use Rattle.call_targets.specs.Leaving.{name_notes, all_name_notes}
use Rattle.call_targets.proofs.Adding.{adds_none}
use Rattle.call_targets.proofs.Contained.{at_get}
use Rattle.call_targets.proofs.Stepping.{names_step, over_all}
use Rattle.call_targets.proofs.leaving.note_leaving.Goals as goal

pub loop-method-init : goal.loop-method-init
loop-method-init c = λ is few. adds_none c.args.targets.now

pub loop-method-preserved : goal.loop-method-preserved
loop-method-preserved c = λ is few.
    let p = c.args.at.now.program.now in
    let slice = c.as_slice-name-items.result.now in
    let x : MethodName = get_or slice c.loop-method.method (record { class = 0; proto = 0; name = 0 }) in
    let long = ap length c.as_slice-name-items.ensures in
    let word : c.word.result ≡ c.loop-method.method = c.word.ensures (omega (arith, c.loop-method-test.true, long, few)) in
    names_step c.args.targets.now c.loop-method.targets c.note_name.new.targets p p.methods c.loop-method.method x
    (at_get p.methods slice c.loop-method.method (record { class = 0; proto = 0; name = 0 }) c.as_slice-name-items.ensures c.loop-method-test.true) (c.loop-method.invariant is few)
    (subst (λ n. Adds (name_notes p n x) c.loop-method.targets c.note_name.new.targets) word (c.note_name.ensures is (omega (arith, c.loop-method-test.true, long, few, word))))

pub returns : goal.returns
returns c = λ is few. over_all (all_name_notes c.args.at.now.program.now 0) c.args.targets.now c.loop-method.targets c.args.at.now.program.now.methods c.loop-method.method (let l = c.loop-method-test.false in let e = ap length c.as_slice-name-items.ensures in omega (arith, l, e)) (c.loop-method.invariant is few)
