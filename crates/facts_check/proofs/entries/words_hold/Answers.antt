use Rattle.std.proofs.Common.{◌≡◌, ℕ, refl, subst}
use Rattle.domains.specs.Values.{Parts}
use Rattle.dom_frame.specs.Registers.{value_at}
use Rattle.closed_facts.specs.Tables.{IsBelow}
use Rattle.facts_check.proofs.Loops.{one_item}
use Rattle.facts_check.proofs.entries.words_hold.Goals as goal

pub loop-word-preserved : goal.loop-word-preserved
loop-word-preserved c =
    let here : c.value_at.result ≡ value_at c.args.pool.now c.loop-word.word = cc in
    one_item (λ (i : ℕ) (v : Parts). IsBelow (value_at c.args.pool.now i) v) c.args.words.now c.loop-word.word c.index-words-word.result c.index-words-word.is
    (subst (λ (v : Parts). IsBelow v c.index-words-word.result) here (c.if-not-is_below.ensures refl)) c.loop-word.invariant
