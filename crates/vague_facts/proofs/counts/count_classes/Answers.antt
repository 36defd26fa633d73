use Rattle.std.proofs.Common.{◌≡◌, List, length, Some, refl, subst, arith}
use Rattle.std.specs.Prelude.{slice_get}
use Rattle.std.proofs.lemmas.Option.{slice_get_read}
use Rattle.program_model.specs.declared.program.Method.{Method}
use Rattle.vague_facts.specs.Counting.{CountsTo}
use Rattle.vague_facts.proofs.Counting.{same_rises, rises_on, one_class, none_classes}
use Rattle.vague_facts.proofs.counts.count_classes.Goals as goal

pub loop-class-init : goal.loop-class-init
loop-class-init c = record { rises = same_rises c.args.counts.now; counted = none_classes c.args.counts.now c.args.classes.now }

pub loop-class-preserved : goal.loop-class-preserved
loop-class-preserved c =
    let at : slice_get c.args.classes.now c.loop-class.class-index ≡ Some c.class-item.result = slice_get_read c.args.classes.now _ c.loop-class.class-index c.class-item.result refl c.loop-class-test.true c.class-item.is in
    record {
      rises = rises_on c.args.counts.now c.loop-class.counts c.count_methods.new.counts c.loop-class.invariant.rises c.count_methods.ensures.rises;
      counted = one_class c.loop-class.counts c.count_methods.new.counts c.loop-class.class-index c.args.classes.now c.class-item.result at c.count_methods.ensures.rises
          (subst (λ (ms : List Method). CountsTo c.count_methods.new.counts (length ms) ms) c.as_slice.ensures c.count_methods.ensures.counted) c.loop-class.invariant.counted;
    }

pub returns-clause-counted : goal.returns-clause-counted
returns-clause-counted c = λ i m lt e. c.loop-class.invariant.counted i m (omega (arith, lt, c.loop-class-test.false)) e
