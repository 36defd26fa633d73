use Rattle.std.proofs.Common.{sym, subst}
use Rattle.std.proofs.lemmas.List.Filters.{dedup_is}
use Rattle.std.proofs.lemmas.List.Kept.{Contains-dedup, Contains-from_dedup}
use Rattle.std.proofs.lemmas.List.Sorted.{Contains-permutation, IsPermutation-sym}
use Rattle.std.specs.Prelude.{Contains}
use Rattle.call_targets.proofs.Pairs.{link_eq, link_equiv, link_same}
use Rattle.call_targets.proofs.table.each_once.Goals as goal

pub returns-clause-kept : goal.returns-clause-kept
returns-clause-kept c = λ x h.
    let e = dedup_is link_eq c.sort_unstable.new.self.items c.dedup.new.self.items c.dedup.ensures.filtered in
    subst (λ l. Contains l x) (sym e) (Contains-dedup link_equiv link_same c.sort_unstable.new.self.items x (Contains-permutation c.args.links.items c.sort_unstable.new.self.items x c.sort_unstable.ensures.permutation h))

pub returns-clause-from : goal.returns-clause-from
returns-clause-from c = λ x h.
    let e = dedup_is link_eq c.sort_unstable.new.self.items c.dedup.new.self.items c.dedup.ensures.filtered in
    Contains-permutation c.sort_unstable.new.self.items c.args.links.items x (IsPermutation-sym c.args.links.items c.sort_unstable.new.self.items c.sort_unstable.ensures.permutation) (Contains-from_dedup link_eq c.sort_unstable.new.self.items x (subst (λ l. Contains l x) e h))
