use Rattle.std.proofs.Common.{◌≡◌, subst, true}
use Rattle.keep_rules.specs.Table.{has_pair}
use Rattle.keep_rules.proofs.EntryLemmas.{pair_far, pair_there, pair_near}
use Rattle.keep_rules.proofs.outside.add_pair.Goals as goal

pub returns-then-not-below : goal.returns-then-not-below
returns-then-not-below c = pair_far c.args.class c.args.owner c.args.size c.are_below-below.result c.args.pairs.now c.are_below-below.ensures c.if-not-below.true

pub returns-then-last : goal.returns-then-last
returns-then-last c = pair_there c.args.class c.args.owner c.args.size c.args.pairs.now (subst (λ l. has_pair l c.args.class c.args.owner ≡ true) c.as_slice.ensures (c.is_last-last.ensures c.if-last.true))

pub returns : goal.returns
returns c = pair_near c.args.class c.args.owner c.args.size c.are_below-below.result c.args.pairs.now _ c.are_below-below.ensures c.if-not-below.false c.in_ok-push.ensures.ok
