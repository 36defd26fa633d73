use Rattle.std.proofs.Common.{arith}
use Rattle.stub_library.proofs.ByText.{listed_more}
use Rattle.stub_library.proofs.listed.Listed.add.Goals as goal

pub returns : goal.returns
returns c = λ texts n are is.
    let size = are.size in
    let ok = c.args.self.now.before.ok in
    let long = c.len-number.ensures in
    listed_more texts n c.args.self.now _ c.args.text.now c.len-number.result c.in_ok-earlier.earlier are is (omega (arith, size, ok, long))
    (λ t. c.in_ok-earlier.ensures.updates.0 (record c.args.text { now = t })) c.in_ok-earlier.ensures.old c.in_ok-push.ensures.items
