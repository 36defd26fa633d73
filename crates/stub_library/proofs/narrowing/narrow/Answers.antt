use Rattle.std.proofs.Common.{◌∙◌, ap, arith}
use Rattle.class_defs.proofs.WellFormed.{few_classes}
use Rattle.stub_library.specs.Marking.{is_on}
use Rattle.stub_library.proofs.Shut.{narrowed, narrowed_is}
use Rattle.stub_library.proofs.narrowing.narrow.Goals as goal

pub shut_marks-requires-clause-counted : goal.shut_marks-requires-clause-counted
shut_marks-requires-clause-counted c =
    let few = few_classes c.args.program.now c.requires.formed in
    let size = c.len-classes.ensures in
    c.word-count.ensures.same (omega (arith, few, size)) ∙ size

pub returns-clause-is : goal.returns-clause-is
returns-clause-is c =
    let small = c.requires.resolved.of.named.method_keys.small in
    let long = c.len-methods.ensures in
    narrowed_is c.args.program.now c.args.outside.now c.args.library.now c.as_slice.result.now c.word-size.result c.in_ok-shut.shut.items c.with_shut.result c.with_shut.ensures c.in_ok-shut.ensures
    (c.word-size.ensures.same (omega (arith, small, long)) ∙ long)
    (λ n. ap (λ ms. is_on ms n) c.as_slice.ensures.value ∙ c.in_ok-marks.ensures c.args.library.now c.in_ok-above.ensures n)

pub returns-clause-numbers : goal.returns-clause-numbers
returns-clause-numbers c =
    let most = c.word-size.ensures.most in
    let long = c.len-methods.ensures in
    narrowed c.args.program.now c.args.outside.now c.as_slice.result.now c.word-size.result c.in_ok-shut.shut.items c.with_shut.result c.with_shut.ensures c.in_ok-shut.ensures (omega (arith, most, long))
