use Rattle.loose_methods.proofs.calls.Sifter.judge_super.Goals as goal

pub returns : goal.returns
returns c = λ o q j e s. c.judge_found.ensures.above o q j e s (c.in_ok-found.ensures j)
