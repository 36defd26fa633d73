use Rattle.std.proofs.Common.{◌≡◌, ◌∙◌, ap, arith}
use Rattle.staticise.specs.Loosened.{target_of}
use Rattle.staticise.proofs.Few.{few_methods}
use Rattle.staticise.proofs.Targeted.{all_targeted, none_targeted, one_targeted}
use Rattle.staticise.proofs.loosening.targets.Goals as goal

pub loop-method-init : goal.loop-method-init
loop-method-init c = λ wf res. none_targeted c.args.program.now c.args.given.now _ c.new-targets.ensures.items

pub loop-method-preserved : goal.loop-method-preserved
loop-method-preserved c = λ wf res.
    let p = c.args.program.now in
    let few = few_methods p wf in
    let lt = c.loop-method-test.true in
    let long = c.len-method-end.ensures in
    let word : c.word.result ≡ c.loop-method.method = c.word.ensures (omega (arith, few, lt, long)) in
    one_targeted p c.args.given.now c.loop-method.method c.loop-method.targets.items c.push.new.self.items c.target_of.result (c.loop-method.invariant wf res) (c.target_of.ensures res ∙ ap (target_of p c.args.given.now) word) c.in_ok-push.ensures.items

pub returns : goal.returns
returns c = λ wf res.
    let ge = c.loop-method-test.false in
    let long = c.len-method-end.ensures in
    all_targeted c.args.program.now c.args.given.now c.loop-method.method c.loop-method.targets.items (omega (arith, ge, long)) (c.loop-method.invariant wf res)
