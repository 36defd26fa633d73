use Rattle.std.proofs.Common.{◌∙◌, sym, ap, subst}
use Rattle.stub_library.specs.Spelling.{IsSpelled}
use Rattle.stub_library.specs.Meeting.{IsDeclared, AreMet}
use Rattle.stub_library.proofs.narrowing.above_of.Goals as goal

pub of_library-requires : goal.of_library-requires
of_library-requires c = subst (λ p. IsSpelled p c.in_ok-spelled.spelled) (sym c.in_ok-spelled.ensures.program) c.in_ok-spelled.ensures.is

pub of_classes-requires-clause-same : goal.of_classes-requires-clause-same
of_classes-requires-clause-same c = ap (λ s. s.program.now) c.in_ok-declared.ensures.spelled ∙ c.in_ok-spelled.ensures.program

pub of_classes-requires-clause-declared : goal.of_classes-requires-clause-declared
of_classes-requires-clause-declared c =
    let d = c.in_ok-declared.declared in
    subst (λ l. IsDeclared c.args.program.now l d) (sym c.in_ok-declared.ensures.is.library) (subst (λ p. IsDeclared p c.args.library.now d) c.in_ok-spelled.ensures.program c.in_ok-declared.ensures.is)

pub returns : goal.returns
returns c = subst (λ l. AreMet c.args.program.now l c.in_ok-above.above.opens.items c.in_ok-above.above.numbers.items) c.in_ok-declared.ensures.is.library c.in_ok-above.ensures
