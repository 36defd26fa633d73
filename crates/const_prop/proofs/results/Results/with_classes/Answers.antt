use Rattle.std.proofs.Common.{ap, ◌∙◌, take_all}
use Rattle.std.specs.Prelude.{fold}
use Rattle.const_prop.specs.Given.{with_class}
use Rattle.const_prop.proofs.Finding.{fold_step}
use Rattle.const_prop.proofs.results.Results.with_classes.Goals as goal

pub loop-class-preserved : goal.loop-class-preserved
loop-class-preserved c = record {
  ready = λ r. c.with_class.ensures.ready (c.loop-class.invariant.ready r);
  is = λ k r name proto is.
      fold_step (with_class c.args.self.now.program.now c.args.self.now.facts.now name proto) c.args.first c.args.classes.now c.loop-class.class-index c.loop-class.known c.in_ok-known.known c.loop-class-test.true
      (c.loop-class.invariant.is k r name proto is) (c.in_ok-known.ensures.is k (c.loop-class.invariant.ready r) name proto is);
}

pub returns : goal.returns
returns c = λ k r name proto is.
    c.loop-class.invariant.is k r name proto is
    ∙ ap (fold (with_class c.args.self.now.program.now c.args.self.now.facts.now name proto) c.args.first) (take_all c.loop-class.class-index c.args.classes.now c.loop-class-test.false)
