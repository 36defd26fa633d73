use Rattle.std.proofs.Common.{◌≡◌, ◌+◌, ◌<◌, ◌^◌, arith, ap, ◌∙◌}
use Rattle.dalvik_defs.specs.Effect.{Goes, next, register, write}
use Rattle.dalvik_state.specs.Views.{frame_of, value_of}
use Rattle.dalvik_act.proofs.Goes.{on_pair}
use Rattle.dalvik_act.proofs.Outward.{held}
use Rattle.dalvik_act.proofs.Safe.{held_fine, on_pair as safe_pair}
use Rattle.dalvik_act.proofs.going.moves_pair.Goals as goal

pub returns-clause-does : goal.returns-clause-does
returns-clause-does c = λ n k h w.
    let f = c.args.frame.now in
    let below : c.set_pair.new.self.position < 2 ^ 63 = omega (arith, c.set_pair.ensures.position) in
    let low : value_of n c.get-low.result ≡ register (frame_of n f) c.args.from = ap (value_of n) c.get-low.ensures ∙ held n f c.args.from in
    let high : value_of n c.get_second-high.result ≡ register (frame_of n f) (c.args.from + 1) = ap (value_of n) c.get_second-high.ensures ∙ held n f (c.args.from + 1) in
    on_pair n f c.set_pair.new.self c.next.new.self w (c.next.ensures below) c.args.to c.get-low.result c.get_second-high.result c.set_pair.ensures
    ∙ (λ i. Goes w (next (write (write (frame_of n f) c.args.to (low i)) (c.args.to + 1) (high i))))

pub returns-clause-safe : goal.returns-clause-safe
returns-clause-safe c = λ l size low k.
    let f = c.args.frame.now in
    safe_pair l size f c.set_pair.new.self c.next.new.self c.args.to c.get-low.result c.get_second-high.result (held_fine l size f c.args.from c.get-low.result k c.get-low.ensures) (held_fine l size f (c.args.from + 1) c.get_second-high.result k c.get_second-high.ensures) low k c.set_pair.ensures c.next.ensures
