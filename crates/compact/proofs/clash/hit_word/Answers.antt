use Rattle.std.proofs.Common.{ℕ, ◌+◌, min, slice_get, subst}
use Rattle.live_regs.specs.Live.{is_live}
use Rattle.live_regs.specs.Liveness.{writes_at}
use Rattle.live_regs.specs.Words.{IsMask}
use Rattle.live_regs.proofs.Masks.{or_is}
use Rattle.compact.proofs.clash.hit_word.Goals as goal

pub returns : goal.returns
returns c = or_is (is_live c.args.live.now (min (c.args.position + 1) 4294967295)) (λ s. writes_at s (slice_get c.args.insns.now c.args.position)) c.word.result c.written_word.result
    (subst (λ (n : ℕ). IsMask (is_live c.args.live.now n) c.word.result) c.saturating_add.ensures c.word.ensures) c.written_word.ensures
