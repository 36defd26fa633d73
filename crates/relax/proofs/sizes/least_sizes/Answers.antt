use Rattle.std.proofs.Common.{rules, ◌≡◌, ◌↔◌, length, IsTrue, sym, ap, ◌∙◌}
use Rattle.relax.specs.Sizes.{grown}
use Rattle.relax.proofs.Least.{smaller, next_room, grown_below, length_grown, firsts_below, length_firsts, least_small}
use Rattle.relax.proofs.sizes.least_sizes.Goals as goal

pub loop-settled-init : goal.loop-settled-init
loop-settled-init c = record {
  long = ap length c.in_ok-sizes.ensures ∙ length_firsts c.args.steps.now;
  least = λ others room. rw c.in_ok-sizes.ensures (firsts_below others 0 c.args.steps.now others room);
  room = λ e. absurd cc;
}

pub loop-settled-smaller : goal.loop-settled-smaller
loop-settled-smaller c =
    let next : c.in_ok-next.next.items ≡ grown c.loop-settled.sizes.items 0 c.args.steps.now c.loop-settled.sizes.items = search rules in
    let same : IsTrue c.same-settled.result ↔ (c.in_ok-next.next.items ≡ c.loop-settled.sizes.items) = search rules in
    smaller c.args.steps.now c.loop-settled.sizes.items c.in_ok-next.next.items c.same-settled.result c.loop-settled.settled (sym c.loop-settled.invariant.long) next same (search rules)

pub loop-settled-preserved : goal.loop-settled-preserved
loop-settled-preserved c =
    let sizes = c.loop-settled.sizes.items in
    let len : length c.args.steps.now ≡ length c.loop-settled.sizes.items = sym c.loop-settled.invariant.long in
    let next : c.in_ok-next.next.items ≡ grown c.loop-settled.sizes.items 0 c.args.steps.now c.loop-settled.sizes.items = search rules in
    let same : IsTrue c.same-settled.result ↔ (c.in_ok-next.next.items ≡ c.loop-settled.sizes.items) = search rules in
    record {
      long = ap length next ∙ length_grown sizes 0 c.args.steps.now sizes len ∙ c.loop-settled.invariant.long;
      least = λ others room. rw next (grown_below sizes others 0 c.args.steps.now sizes others (c.loop-settled.invariant.least others room) room (c.loop-settled.invariant.least others room));
      room = next_room c.args.steps.now sizes c.in_ok-next.next.items c.same-settled.result len next same;
    }

pub starts_of-requires : goal.starts_of-requires
starts_of-requires c = rw c.deref.ensures.value (least_small c.args.steps.now c.loop-settled.sizes.items c.requires c.loop-settled.invariant.least)

pub returns-clause-small : goal.returns-clause-small
returns-clause-small c = least_small c.args.steps.now c.loop-settled.sizes.items c.requires c.loop-settled.invariant.least
