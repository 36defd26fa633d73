use Rattle.std.proofs.Common.{◌∙◌, ap, refl, take_all}
use Rattle.std.specs.Prelude.{◌&&◌, not}
use Rattle.std.specs.List.{list_any}
use Rattle.loose_methods.specs.Loose.{names_it}
use Rattle.loose_methods.specs.Marking.{is_on}
use Rattle.loose_methods.proofs.Barred.{named_more, named_none}
use Rattle.loose_methods.proofs.candidates.Judged.bar_named.Goals as goal

pub loop-number-init : goal.loop-number-init
loop-number-init c = record { long = refl; are = λ j n. named_none (is_on c.args.marks.now n) }

pub loop-number-preserved : goal.loop-number-preserved
loop-number-preserved c = record {
  long = c.bar.ensures.long ∙ c.loop-number.invariant.long;
  are = λ j n. named_more c.args.self.now.program.now n c.args.numbers.now c.loop-number.number-index (is_on c.args.marks.now n) (is_on c.loop-number.marks n) (is_on c.bar.new.marks n) c.named.result c.loop-number-test.true (c.named.ensures j)
      (c.loop-number.invariant.are j n) (c.bar.ensures.are n);
}

pub returns-clause-long : goal.returns-clause-long
returns-clause-long c = c.loop-number.invariant.long

pub returns-clause-are : goal.returns-clause-are
returns-clause-are c = λ j n. c.loop-number.invariant.are j n ∙ ap (λ xs. is_on c.args.marks.now n && not (list_any (names_it c.args.self.now.program.now n) xs)) (take_all c.loop-number.number-index c.args.numbers.now c.loop-number-test.false)
