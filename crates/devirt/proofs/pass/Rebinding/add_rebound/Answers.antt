use Rattle.std.proofs.Common.{◌≡◌, ◌++◌}
use Rattle.std.specs.Prelude.{All}
use Rattle.std.proofs.lemmas.Result.{IfOk-weaker}
use Rattle.devirt.specs.Rebound.{IsRecalledAt, edit_at}
use Rattle.devirt.proofs.Recalled.{recalled_more}
use Rattle.devirt.proofs.pass.Rebinding.add_rebound.Goals as goal

pub returns-clause-calls : goal.returns-clause-calls
returns-clause-calls c = λ b there a.
    IfOk-weaker c.add_edit.result (λ _. c.add_edit.new.edits.items ≡ c.args.edits.now.items ++ edit_at c.args.position c.in_ok-found.found) (λ _. All (IsRecalledAt b) c.add_edit.new.edits.items)
    (λ v h. recalled_more b c.args.position c.args.insn.now c.in_ok-found.found c.args.edits.now.items c.add_edit.new.edits.items there c.in_ok-found.ensures.calls a h) c.add_edit.ensures
