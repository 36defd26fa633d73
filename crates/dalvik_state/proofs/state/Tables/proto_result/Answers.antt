use Rattle.std.proofs.Common.{ap, Some, ◌≡◌, ◌∙◌}
use Rattle.program_model.specs.declared.pools.Proto.{Proto}
use Rattle.dalvik_lookups.specs.Tables.{kind_in}
use Rattle.dalvik_state.proofs.state.Tables.proto_result.Goals as goal

pub returns-in-Some : goal.returns-in-Some
returns-in-Some c = λ q e.
    let same : c.in-Some.named.now ≡ q = (let x : Some c.in-Some.named.now ≡ Some q = c.in-Some.ensures ∙ e in cc) in
    c.kind.ensures.table ∙ ap (λ (x : Proto). kind_in c.args.self.now.lookups.kinds.items x.result) same

pub returns-in-None : goal.returns-in-None
returns-in-None c = λ q e. absurd (let x = c.in-None.ensures ∙ e in cc)
