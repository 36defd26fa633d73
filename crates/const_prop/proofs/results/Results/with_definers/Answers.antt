use Rattle.std.proofs.Common.{ap, ◌∙◌, take_all}
use Rattle.std.specs.Prelude.{fold}
use Rattle.const_prop.specs.Given.{with_definer}
use Rattle.const_prop.proofs.Finding.{definers_more}
use Rattle.const_prop.proofs.results.Results.with_definers.Goals as goal

pub loop-definer-preserved : goal.loop-definer-preserved
loop-definer-preserved c = definers_more c.args.self.now c.args.class c.args.key c.args.first c.args.definers.now c.loop-definer.definer-index c.loop-definer.known c.in_ok-known.known c.loop-definer.invariant c.loop-definer-test.true c.in_ok-known.ensures

pub returns : goal.returns
returns c = λ k name proto is lt below.
    c.loop-definer.invariant k name proto is lt below
    ∙ ap (fold (with_definer c.args.self.now.program.now c.args.self.now.facts.now name proto c.args.class) c.args.first) (take_all c.loop-definer.definer-index c.args.definers.now c.loop-definer-test.false)
