use Rattle.std.proofs.Common.{◌≡◌, length, replicate, rules}
use Rattle.live_regs.proofs.Sweeping.{first_words, words_of_few}
use Rattle.live_regs.proofs.sweeps.words_by_sweeps.Goals as goal

pub settle-requires-clause-so_far : goal.settle-requires-clause-so_far
settle-requires-clause-so_far c =
    let caught : c.in_ok-caught.caught.items ≡ replicate (length c.args.body.now.regions) 0 = search rules in
    let words : c.in_ok-words.words.items ≡ replicate (length c.args.body.now.insns) 0 = search rules in
    first_words c.args.body.now c.in_ok-caught.caught.items c.in_ok-words.words.items caught words

pub returns-then-settle : goal.returns-then-settle
returns-then-settle c = words_of_few c.args.body.now c.settle.new.words.items c.if-body-gt64.false (c.settle.ensures c.if-settle.true)
