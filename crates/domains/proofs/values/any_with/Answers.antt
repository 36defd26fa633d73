use Rattle.std.proofs.Common.{◌≡◌, sym, subst, rules, true, false}
use Rattle.domains.specs.declared.numbers.Word.TheVariants.{Any}
use Rattle.domains.specs.Values.{Parts, IsReduced}
use Rattle.domains.specs.Reducing.{any_number}
use Rattle.domains.specs.ReducingLaws.{number_reduced}
use Rattle.domains.proofs.values.any_with.Goals as goal

pub invariant_of-t-6 : goal.invariant_of-t-6
invariant_of-t-6 c = rw (c.with_zero.ensures, c.has.ensures.is) (number_reduced true Any c.args.interval c.args.classes c.has.ensures.ends)

pub invariant_of-result : goal.invariant_of-result
invariant_of-result c = rw c.without_zero.ensures.is (number_reduced false Any c.args.interval c.args.classes c.without_zero.ensures.ends)
