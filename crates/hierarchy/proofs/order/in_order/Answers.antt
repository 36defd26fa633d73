use Rattle.std.proofs.Common.{◌≡◌, ◌∙◌, ◌<◌, ◌+◌, [], ℕ, List, sym, ap, subst, length, ◌∷◌}
use Rattle.hierarchy.specs.Climbing.{todo, ups}
use Rattle.hierarchy.proofs.Climbs.{follow_on, fewer_tasks, same_sizes, cost}
use Rattle.hierarchy.proofs.Climbed.{new_free, new_walks, pushed_free, pushed_walks, popped_walks, round_circle, walked_order}
use Rattle.hierarchy.proofs.Deep.{weight}
use Rattle.hierarchy.proofs.order.in_order.Goals as goal

pub loop-class-init : goal.loop-class-init
loop-class-init c =
    let up : ℕ → List ℕ = ups c.args.supers.now c.args.lists.now.rows in
    let n = length c.args.supers.now in
    record {
      same = c.in_ok-climb.ensures.seen ∙ sym c.in_ok-climb.ensures.left;
      free = new_free up n (todo c.in_ok-climb.climb) c.in_ok-climb.ensures.nothing;
      going = new_walks up n c.in_ok-climb.climb c.in_ok-climb.ensures;
    }

pub loop-class-preserved : goal.loop-class-preserved
loop-class-preserved c =
    let up : ℕ → List ℕ = ups c.args.supers.now c.args.lists.now.rows in
    let n = length c.args.supers.now in
    record {
      same = ap (λ v. length v.items) c.in_ok-push.ensures.seen ∙ c.loop-class.invariant.same ∙ sym (ap (λ v. length v.items) c.in_ok-push.ensures.left);
      free = pushed_free up n c.loop-class.class c.loop-class.climb c.push.new.self c.in_ok-push.ensures.todo c.loop-class.invariant.free;
      going = pushed_walks up n c.loop-class.class c.loop-class.climb c.push.new.self c.in_ok-push.ensures.todo c.in_ok-push.ensures.seen c.in_ok-push.ensures.left c.in_ok-push.ensures.order c.loop-class.invariant.free c.loop-class.invariant.going;
    }

pub returns-then-not-branch : goal.returns-then-not-branch
returns-then-not-branch c = λ few.
    let up : ℕ → List ℕ = ups c.args.supers.now c.args.lists.now.rows in
    let n = length c.args.supers.now in
    round_circle c.args.supers.now c.args.lists.now.rows n c.pop.new.self c.follow.new.self c.in-Some.task c.in_ok-follow.field-0 c.if-not-branch.true c.in_ok-follow.ensures
    (popped_walks up n n c.loop-task.climb c.pop.new.self (c.in-Some.task ∷ todo c.pop.new.self) c.in-Some.ensures.todo c.in-Some.ensures.seen c.in-Some.ensures.left c.in-Some.ensures.order (c.loop-task.invariant.going few))

pub loop-task-smaller : goal.loop-task-smaller
loop-task-smaller c =
    let up : ℕ → List ℕ = ups c.args.supers.now c.args.lists.now.rows in
    let same : length c.pop.new.self.seen.items ≡ length c.pop.new.self.left.items = ap (λ v. length v.items) c.in-Some.ensures.seen ∙ c.loop-task.invariant.same ∙ sym (ap (λ v. length v.items) c.in-Some.ensures.left) in
    let less = fewer_tasks up c.pop.new.self c.follow.new.self c.in-Some.task c.in_ok-follow.field-0 c.if-not-branch.false same c.in_ok-follow.ensures in
    subst (λ v. weight (cost up) 0 c.follow.new.self.seen.items + length (todo c.follow.new.self) < weight (cost up) 0 v.items + length (todo c.loop-task.climb)) c.in-Some.ensures.seen
    (subst (λ l. weight (cost up) 0 c.follow.new.self.seen.items + length (todo c.follow.new.self) < weight (cost up) 0 c.pop.new.self.seen.items + length l) (sym c.in-Some.ensures.todo) less)

pub loop-task-preserved : goal.loop-task-preserved
loop-task-preserved c =
    let up : ℕ → List ℕ = ups c.args.supers.now c.args.lists.now.rows in
    let n = length c.args.supers.now in
    let same : length c.pop.new.self.seen.items ≡ length c.pop.new.self.left.items = ap (λ v. length v.items) c.in-Some.ensures.seen ∙ c.loop-task.invariant.same ∙ sym (ap (λ v. length v.items) c.in-Some.ensures.left) in
    record {
      same = same_sizes up c.pop.new.self c.follow.new.self c.in-Some.task c.in_ok-follow.field-0 c.if-not-branch.false same c.in_ok-follow.ensures;
      going = λ few. follow_on up n n c.pop.new.self c.follow.new.self c.in-Some.task c.in_ok-follow.field-0 c.if-not-branch.false c.in_ok-follow.ensures
          (popped_walks up n n c.loop-task.climb c.pop.new.self (c.in-Some.task ∷ todo c.pop.new.self) c.in-Some.ensures.todo c.in-Some.ensures.seen c.in-Some.ensures.left c.in-Some.ensures.order (c.loop-task.invariant.going few));
    }

pub returns : goal.returns
returns c = λ few.
    let up : ℕ → List ℕ = ups c.args.supers.now c.args.lists.now.rows in
    let n = length c.args.supers.now in
    walked_order c.args.supers.now c.args.lists.now.rows c.pop.new.self (popped_walks up n n c.loop-task.climb c.pop.new.self [] c.in_default.ensures.todo c.in_default.ensures.seen c.in_default.ensures.left c.in_default.ensures.order (c.loop-task.invariant.going few))
