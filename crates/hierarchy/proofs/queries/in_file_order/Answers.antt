use Rattle.std.proofs.Common.{eqb, sym, subst}
use Rattle.std.proofs.lemmas.List.Filters.{dedup_is}
use Rattle.std.proofs.lemmas.List.Kept.{Contains-dedup_nat, Contains-from_dedup}
use Rattle.std.proofs.lemmas.List.Sorted.{Contains-permutation, IsPermutation-sym}
use Rattle.std.proofs.lemmas.Map.Keys.{IsStrictlyIncreasing-dedup}
use Rattle.std.specs.Prelude.{Contains}
use Rattle.std.specs.List.Sorted.{IsStrictlyIncreasing}
use Rattle.hierarchy.proofs.queries.in_file_order.Goals as goal

pub returns-clause-rising : goal.returns-clause-rising
returns-clause-rising c =
    let e = dedup_is eqb c.sort_unstable.new.self.items c.dedup.new.self.items c.dedup.ensures.filtered in
    subst IsStrictlyIncreasing (sym e) (IsStrictlyIncreasing-dedup c.sort_unstable.new.self.items c.sort_unstable.ensures.sorted)

pub returns-clause-kept : goal.returns-clause-kept
returns-clause-kept c = λ x h.
    let e = dedup_is eqb c.sort_unstable.new.self.items c.dedup.new.self.items c.dedup.ensures.filtered in
    subst (λ l. Contains l x) (sym e) (Contains-dedup_nat c.sort_unstable.new.self.items x (Contains-permutation c.args.classes.items c.sort_unstable.new.self.items x c.sort_unstable.ensures.permutation h))

pub returns-clause-from : goal.returns-clause-from
returns-clause-from c = λ x h.
    let e = dedup_is eqb c.sort_unstable.new.self.items c.dedup.new.self.items c.dedup.ensures.filtered in
    Contains-permutation c.sort_unstable.new.self.items c.args.classes.items x (IsPermutation-sym c.args.classes.items c.sort_unstable.new.self.items c.sort_unstable.ensures.permutation) (Contains-from_dedup eqb c.sort_unstable.new.self.items x (subst (λ l. Contains l x) e h))
