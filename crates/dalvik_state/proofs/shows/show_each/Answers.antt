use Rattle.std.proofs.Common.{arith, sym, ◌∙◌}
use Rattle.std.proofs.lemmas.Iterator.Adapters.{YieldsList-from_vec}
use Rattle.std.proofs.lemmas.Iterator.Consumers.{YieldsList-end}
use Rattle.dalvik_state.proofs.Showing.{each_begins, each_ends, each_goes_on, same_list}
use Rattle.dalvik_state.proofs.shows.show_each.Goals as goal

pub loop-draft-init : goal.loop-draft-init
loop-draft-init c = each_begins c.args.world.now c.args.shown

pub loop-draft-preserved : goal.loop-draft-preserved
loop-draft-preserved c =
    each_goes_on c.args.world.now c.loop-draft.world c.show-one.new.world c.args.shown c.loop-draft.shown c.push_one.new.list c.loop-draft.yielded c.in-Some.draft c.show-one.result c.loop-draft.invariant
    c.show-one.ensures.shown c.show-one.ensures.room c.push_one.ensures.items c.push_one.ensures.len c.push_one.ensures.capacity

pub returns : goal.returns
returns c =
    let all = c.args.drafts.items in
    let start = c.into_iter-draft-iterator.ensures.into_iter_gives in
    let end = YieldsList-end (YieldsList-from_vec all start.0 (omega (arith, start.1, c.args.drafts.ok))) c.loop-draft.yielded c.loop-draft.draft-iterator c.loop-draft.yielded_by c.next.result c.next.new.self c.in-None.is c.next.ensures.steps in
    each_ends c.args.world.now c.loop-draft.world c.args.shown c.loop-draft.shown c.loop-draft.yielded all (sym (same_list c.loop-draft.yielded) ∙ end.0) (omega (arith, c.args.shown.ok)) c.loop-draft.invariant
