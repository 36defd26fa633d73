use Rattle.std.proofs.Common.{◌≡◌, ◌+◌, ◌*◌, ◌≤◌, ap, arith, ℕ, suc, length, ◌∙◌}
use Rattle.std.proofs.lemmas.List.{length_push}
use Rattle.relax.specs.Sizes.{start}
use Rattle.relax.proofs.Starts.{start_more, start_small, push_place}
use Rattle.relax.proofs.sizes.starts_of.Goals as goal

pub overflow_add-at : goal.overflow_add-at
overflow_add-at c =
    let one : c.loop-size.size-index + 1 ≡ suc c.loop-size.size-index = omega arith in
    let more : c.loop-size.at + c.from-at.result ≡ start c.args.sizes.now (suc c.loop-size.size-index) = omega (arith, start_more c.args.sizes.now c.loop-size.size-index c.loop-size-test.true, c.from-at.ensures, c.loop-size.invariant.at) in
    let few : c.loop-size.at + c.from-at.result ≤ 5 * suc c.loop-size.size-index = omega (arith, more, start_small c.args.sizes.now (suc c.loop-size.size-index) c.requires) in
    omega (arith, few)

pub loop-size-preserved : goal.loop-size-preserved
loop-size-preserved c =
    let one : c.loop-size.size-index + 1 ≡ suc c.loop-size.size-index = omega arith in
    let long : length c.loop-size.starts.items ≡ c.loop-size.size-index = c.loop-size.invariant.long in
    record {
      long = rw c.in_ok-push.ensures.items (length_push c.loop-size.starts.items c.loop-size.at ∙ ap (λ (n : ℕ). n + 1) long);
      at = rw one (omega (arith, start_more c.args.sizes.now c.loop-size.size-index c.loop-size-test.true, c.from-at.ensures, c.loop-size.invariant.at));
      each = λ k lt. rw c.in_ok-push.ensures.items (push_place c.loop-size.starts.items c.loop-size.at k (start c.args.sizes.now) (λ j l. c.loop-size.invariant.each j (omega (arith, l, long))) (rw long c.loop-size.invariant.at) (omega (arith, lt, long)));
    }
