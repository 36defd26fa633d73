use Rattle.keep_rules.proofs.SilentLemmas.{numbers_unnamed, numbers_named}
use Rattle.keep_rules.proofs.assume.silence_numbers.Goals as goal

pub returns-then-not-named : goal.returns-then-not-named
returns-then-not-named c = λ k ready l is. numbers_unnamed c.args.view.now.program.now k c.args.kind c.args.numbers.now c.in_ok-named.named c.args.silent.now.items (c.in_ok-named.ensures k ready l is) c.if-not-named.true

pub returns : goal.returns
returns c = λ k ready l is. numbers_named c.args.view.now.program.now k c.args.kind c.args.numbers.now c.in_ok-named.named c.args.silent.now.items _ (c.in_ok-named.ensures k ready l is) c.if-not-named.false (c.in_ok-silence_methods.ensures k ready.formed is)
