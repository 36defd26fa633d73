use Rattle.std.proofs.Common.{◌∙◌, ap}
use Rattle.std.specs.Prelude.{◌&&◌, not}
use Rattle.std.specs.List.{list_any}
use Rattle.loose_methods.specs.Loose.{names_it}
use Rattle.loose_methods.specs.Marking.{is_on}
use Rattle.loose_methods.proofs.candidates.Judged.bar_mentioned.Goals as goal

pub returns : goal.returns
returns c = λ j. (
  c.bar_named.ensures.long,
  λ n.
      c.bar_named.ensures.are j n ∙ ap (λ xs. is_on c.args.marks.now n && not (list_any (names_it c.args.self.now.program.now n) xs)) (c.as_slice.ensures.value ∙ c.in_ok-numbers.ensures),
)
