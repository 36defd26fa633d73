use Rattle.std.proofs.Common.{◌≡◌, sym, subst, rules}
use Rattle.domains.specs.declared.numbers.Word.TheVariants.{Known}
use Rattle.domains.specs.Values.{Parts, constant_value, IsReduced}
use Rattle.domains.specs.ValueLaws.{constant_reduced}
use Rattle.domains.proofs.values.Value.constant.Goals as goal

pub invariant_of-result : goal.invariant_of-result
invariant_of-result c =
    let v : Parts = record { word = Known c.args.word; interval = c.of_word.result; nullness = c.nullness_of.result; classes = c.none.result } in
    let e : v ≡ constant_value c.args.word = search rules in
    subst IsReduced (sym e) (constant_reduced c.args.word)
