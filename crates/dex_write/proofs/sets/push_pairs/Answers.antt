use Rattle.std.proofs.Common.{sym, ap, ◌∙◌, ◌++◌, ◌∷◌, [], get_or, append-nil}
use Rattle.dex_write.specs.Plans.{Numbered}
use Rattle.dex_write.proofs.SetLemmas.{words_step, words_nil}
use Rattle.dex_write.proofs.TakeLemmas.{by_itself}
use Rattle.dex_write.proofs.sets.push_pairs.Goals as goal

pub loop-pair-init : goal.loop-pair-init
loop-pair-init c = sym (ap (λ l. c.args.out.now.items ++ l) words_nil ∙ append-nil c.args.out.now.items)

pub loop-pair-preserved : goal.loop-pair-preserved
loop-pair-preserved c = words_step {X = Numbered} (λ pair. pair.0 ∷ pair.1 ∷ []) c.args.pairs.now c.loop-pair.pair-index (get_or c.args.pairs.now c.loop-pair.pair-index (0, 0)) c.args.out.now.items c.loop-pair.out.items c.push_words.new.out.items c.loop-pair-test.true (by_itself c.args.pairs.now c.loop-pair.pair-index (0, 0) c.loop-pair-test.true) c.loop-pair.invariant c.in_ok-push_words.ensures
