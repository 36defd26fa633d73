use Rattle.std.proofs.lemmas.Result.{IfOk-weaker}
use Rattle.redex_cli.proofs.Traced.{table_for}
use Rattle.redex_cli.proofs.work.closed_outside.Goals as goal

pub returns : goal.returns
returns c = λ text reading. IfOk-weaker c.close.result _ _
    (λ outside closes. table_for c.args.rules.now text c.args.program.now c.args.hierarchy.now _ outside c.requires.formed c.requires.resolved
    c.in_ok-open.ensures reading closes) (c.close.ensures c.requires.formed c.requires.resolved)
