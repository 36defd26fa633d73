use Rattle.std.proofs.Common.{◌∙◌, Some, None, sym, subst, arith}
use Rattle.stub_library.proofs.ByText.{Walked, walked_none, walked_short, walked_more, walked_out, walked_all}
use Rattle.stub_library.proofs.listed.Listed.all.Goals as goal

pub loop-done-init : goal.loop-done-init
loop-done-init c = λ texts n are. subst (λ xs. Walked texts c.args.text.now n c.number_of-at.result xs 0) (sym c.new-numbers.ensures.items) (walked_none texts c.args.text.now n c.number_of-at.result (c.number_of-at.ensures ∙ are.last c.args.text.now))

pub loop-done-preserved : goal.loop-done-preserved
loop-done-preserved c = λ texts n are.
    let t = c.args.text.now in
    let w : Walked texts t n (Some c.in-Some.number) c.loop-done.numbers.items c.loop-done.done = subst (λ o. Walked texts t n o c.loop-done.numbers.items c.loop-done.done) c.in-Some.is (c.loop-done.invariant texts n are) in
    walked_more texts t n c.in-Some.number c.loop-done.numbers.items c.loop-done.done c.earlier-at.result c.push.new.self.items w
    (c.earlier-at.ensures texts n are (walked_short texts t n c.in-Some.number c.loop-done.numbers.items c.loop-done.done w)) c.in_ok-push.ensures.items

pub returns-in-None : goal.returns-in-None
returns-in-None c = λ texts n are. walked_out texts c.args.text.now n c.loop-done.numbers.items c.loop-done.done (subst (λ o. Walked texts c.args.text.now n o c.loop-done.numbers.items c.loop-done.done) c.in-None.is (c.loop-done.invariant texts n are))

pub returns : goal.returns
returns c = λ texts n are.
    let le = c.loop-done-test.false in
    let size = are.size in
    let long = c.len-done-end.ensures in
    let ok = c.args.self.now.before.ok in
    walked_all texts c.args.text.now n c.loop-done.at c.loop-done.numbers.items c.loop-done.done (omega (arith, le, size, long, ok)) (c.loop-done.invariant texts n are)
