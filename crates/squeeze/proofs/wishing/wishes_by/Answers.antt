use Rattle.std.proofs.Common.{◌∙◌, ap, arith}
use Rattle.walk_marks.specs.Walks.{is_on}
use Rattle.squeeze.specs.Skipping.{wish_for}
use Rattle.thin_pass.proofs.Wished.{wished_none, wished_more, wished_all}
use Rattle.squeeze.proofs.wishing.wishes_by.Goals as goal

pub loop-position-init : goal.loop-position-init
loop-position-init c = wished_none (λ n i. wish_for (is_on c.args.reached.now n) n i) c.args.insns.now c.in_ok-wishes.wishes.items c.in_ok-wishes.ensures.items

pub loop-position-preserved : goal.loop-position-preserved
loop-position-preserved c = wished_more (λ n i. wish_for (is_on c.args.reached.now n) n i) c.args.insns.now c.loop-position.wishes.items c.push.new.self.items c.loop-position.position c.index-insns-position.result c.wish.result
    c.loop-position.invariant (c.wish.ensures ∙ ap (wish_for (is_on c.args.reached.now c.loop-position.position) c.loop-position.position) c.index-insns-position.is) c.in_ok-push.ensures.items

pub returns : goal.returns
returns c = wished_all (λ n i. wish_for (is_on c.args.reached.now n) n i) c.args.insns.now c.loop-position.wishes.items c.loop-position.position (omega arith) c.loop-position.invariant
