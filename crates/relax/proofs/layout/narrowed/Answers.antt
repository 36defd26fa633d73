use Rattle.std.proofs.Common.{◌≡◌, ◌+◌, ap, arith, ℕ, length, slice_index, ◌∙◌}
use Rattle.std.proofs.lemmas.List.{length_push}
use Rattle.relax.specs.Payloads.{capped_place}
use Rattle.relax.proofs.Starts.{push_place}
use Rattle.relax.proofs.layout.narrowed.Goals as goal

pub loop-at-preserved : goal.loop-at-preserved
loop-at-preserved c =
    let long : length c.loop-at.narrow.items ≡ c.loop-at.at = c.loop-at.invariant.long in
    record {
      long = rw c.in_ok-push.ensures.items (length_push c.loop-at.narrow.items c.capped_place.result ∙ ap (λ (n : ℕ). n + 1) long);
      each = λ k lt. rw c.in_ok-push.ensures.items (push_place c.loop-at.narrow.items c.capped_place.result k (λ j. capped_place (slice_index c.args.starts.now j)) (λ j l. c.loop-at.invariant.each j (omega (arith, l, long))) (rw long c.capped_place.ensures) (omega (arith, lt, long)));
    }
