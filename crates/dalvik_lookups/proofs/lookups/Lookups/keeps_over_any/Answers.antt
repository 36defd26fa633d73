use Rattle.std.proofs.Common.{refl, sym, ◌∙◌}
use Rattle.dalvik_lookups.specs.Views.{type_text}
use Rattle.dalvik_lookups.specs.Reached.{keeps_over}
use Rattle.dalvik_lookups.proofs.Keeping.{any_here, any_before, any_none}
use Rattle.dalvik_lookups.proofs.lookups.Lookups.keeps_over_any.Goals as goal

pub loop-class-init : goal.loop-class-init
loop-class-init c = record {
  kept = λ o name proto w m h. m;
  none = λ o name proto w m h. refl;
}

pub loop-class-preserved : goal.loop-class-preserved
loop-class-preserved c =
    let i = c.loop-class.invariant in
    record {
      kept = λ o name proto w m h. c.keeps_over.ensures.kept o name proto w (i.kept o name proto w m h) h;
      none = λ o name proto w m h.
          any_before (keeps_over c.args.self.now.program.now c.args.self.now.framework.now o name proto (type_text c.args.self.now.types c.args.lower)) c.args.classes.now c.loop-class.class-index c.loop-class-test.true (i.none o name proto w m h)
          (sym (c.in_ok-keeps_over.ensures.is o name proto w (i.kept o name proto w m h) h) ∙ c.if-branch.false);
    }

pub returns-then-branch-clause-kept : goal.returns-then-branch-clause-kept
returns-then-branch-clause-kept c = λ o name proto w m h. c.keeps_over.ensures.kept o name proto w (c.loop-class.invariant.kept o name proto w m h) h

pub returns-then-branch-clause-is : goal.returns-then-branch-clause-is
returns-then-branch-clause-is c = λ o name proto w m h.
    any_here (keeps_over c.args.self.now.program.now c.args.self.now.framework.now o name proto (type_text c.args.self.now.types c.args.lower)) c.args.classes.now c.loop-class.class-index c.loop-class-test.true
    (sym (c.in_ok-keeps_over.ensures.is o name proto w (c.loop-class.invariant.kept o name proto w m h) h) ∙ c.if-branch.true)

pub returns-in_err-keeps_over-clause-kept : goal.returns-in_err-keeps_over-clause-kept
returns-in_err-keeps_over-clause-kept c = λ o name proto w m h. c.keeps_over.ensures.kept o name proto w (c.loop-class.invariant.kept o name proto w m h) h

pub returns-clause-is : goal.returns-clause-is
returns-clause-is c = λ o name proto w m h.
    any_none (keeps_over c.args.self.now.program.now c.args.self.now.framework.now o name proto (type_text c.args.self.now.types c.args.lower)) c.args.classes.now c.loop-class.class-index c.loop-class-test.false (c.loop-class.invariant.none o name proto w m h)
