use Rattle.std.proofs.Common.{length, [], ◌∷◌}
use Rattle.dex_write.proofs.SetLemmas.{filled_added}
use Rattle.dex_write.proofs.sets.push_filled.Goals as goal

pub returns : goal.returns
returns c = filled_added c.push_pairs-3.result (c.args.own ∷ length c.args.fields.now ∷ length c.args.methods.now ∷ length c.args.parameters.now ∷ []) _ _ _ _ _ _ _ _
    (rw (c.in_ok-word_of.ensures, c.in_ok-word_of-2.ensures, c.in_ok-word_of-3.ensures) at c.in_ok-push_words.ensures) c.in_ok-push_pairs.ensures c.in_ok-push_pairs-2.ensures c.push_pairs-3.ensures
