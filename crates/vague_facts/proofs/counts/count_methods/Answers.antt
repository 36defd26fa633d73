use Rattle.std.proofs.Common.{◌≡◌, Some, refl, arith}
use Rattle.std.specs.Prelude.{slice_get}
use Rattle.std.proofs.lemmas.Option.{slice_get_read}
use Rattle.vague_facts.proofs.Counting.{same_rises, rises_on, one_method, none_to}
use Rattle.vague_facts.proofs.counts.count_methods.Goals as goal

pub loop-method-init : goal.loop-method-init
loop-method-init c = record { rises = same_rises c.args.counts.now; counted = none_to c.args.counts.now c.args.methods.now }

pub loop-method-preserved : goal.loop-method-preserved
loop-method-preserved c =
    let at : slice_get c.args.methods.now c.loop-method.method-index ≡ Some c.method-item.result = slice_get_read c.args.methods.now _ c.loop-method.method-index c.method-item.result refl c.loop-method-test.true c.method-item.is in
    record {
      rises = rises_on c.args.counts.now c.loop-method.counts c.count_method.new.counts c.loop-method.invariant.rises c.count_method.ensures.rises;
      counted = one_method c.loop-method.counts c.count_method.new.counts c.loop-method.method-index c.args.methods.now c.method-item.result at c.count_method.ensures.rises c.count_method.ensures.counted c.loop-method.invariant.counted;
    }

pub returns-clause-counted : goal.returns-clause-counted
returns-clause-counted c = λ i m lt e. c.loop-method.invariant.counted i m (omega (arith, lt, c.loop-method-test.false)) e
