use Rattle.std.proofs.Common.{ℕ, List, bit_or, sym, subst}
use Rattle.std.specs.List.{list_any}
use Rattle.program_model.specs.declared.body.Handler.{Handler}
use Rattle.flow_cfg.specs.Walks.{handlers_in}
use Rattle.live_regs.specs.Words.{has, IsMask, word_at, has_any}
use Rattle.live_regs.proofs.Masks.{rest_some}
use Rattle.live_regs.proofs.sweeps.handlers_word.Goals as goal

pub returns-in-Some : goal.returns-in-Some
returns-in-Some c = subst (λ (w : ℕ). IsMask (λ r. has_any c.args.words.now r (handlers_in c.args.region.now)) (bit_or c.caught_word-word.result w)) (sym c.word_at.ensures)
    (rest_some c.args.words.now c.args.region.now c.in-Some.position c.caught_word-word.result c.in-Some.is
    (subst (λ (l : List Handler). IsMask (λ r. list_any (λ h. has (word_at c.args.words.now h.position) r) l) c.caught_word-word.result) c.as_slice.ensures c.caught_word-word.ensures))
