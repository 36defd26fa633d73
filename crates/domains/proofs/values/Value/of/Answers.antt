use Rattle.std.proofs.Common.{◌≡◌, sym, subst, rules}
use Rattle.domains.specs.Values.{Parts, HoldAlike}
use Rattle.domains.specs.Reducing.{reduced}
use Rattle.domains.specs.ReducingLaws.{reduced_alike}
use Rattle.domains.proofs.values.Value.of.Goals as goal

pub returns-in-NotNull-clause-alike : goal.returns-in-NotNull-clause-alike
returns-in-NotNull-clause-alike c =
    let v : Parts = record { word = c.args.word; interval = c.args.interval; nullness = c.args.nullness; classes = c.args.classes } in
    let e : c.with_number.result ≡ reduced v = search rules in
    subst (λ r. HoldAlike r v) (sym e) (reduced_alike v)

pub returns-in-Any-clause-alike : goal.returns-in-Any-clause-alike
returns-in-Any-clause-alike c =
    let v : Parts = record { word = c.args.word; interval = c.args.interval; nullness = c.args.nullness; classes = c.args.classes } in
    let e : c.with_number-in-Any.result ≡ reduced v = search rules in
    subst (λ r. HoldAlike r v) (sym e) (reduced_alike v)
