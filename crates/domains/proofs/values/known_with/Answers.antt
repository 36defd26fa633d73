use Rattle.std.proofs.Common.{◌≡◌, sym, subst, rules}
use Rattle.domains.specs.declared.numbers.Word.TheVariants.{Known}
use Rattle.domains.specs.Values.{Parts, IsReduced}
use Rattle.domains.specs.Reducing.{known_value}
use Rattle.domains.specs.ReducingLaws.{known_reduced}
use Rattle.domains.proofs.values.known_with.Goals as goal

pub invariant_of-result : goal.invariant_of-result
invariant_of-result c =
    let v : Parts = record { word = Known c.args.word; interval = c.of_word.result; nullness = c.nullness_with-nullness.result; classes = c.args.classes } in
    let e : v ≡ known_value c.args.word c.args.classes = search rules in
    subst IsReduced (sym e) (known_reduced c.args.word c.args.classes)
