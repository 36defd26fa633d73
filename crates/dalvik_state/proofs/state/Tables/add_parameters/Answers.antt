use Rattle.std.proofs.Common.{ap, subst, List, ℕ, Some, ◌≡◌, ◌∙◌}
use Rattle.std.specs.Prelude.{OnOk, ◌++◌, map}
use Rattle.program_model.specs.declared.pools.Proto.{Proto}
use Rattle.dalvik_lookups.specs.Tables.{kind_in}
use Rattle.dalvik_state.proofs.state.Tables.add_parameters.Goals as goal

pub returns-in-Some : goal.returns-in-Some
returns-in-Some c = λ q e.
    let same : c.in-Some.named.now ≡ q = (let x : Some c.in-Some.named.now ≡ Some q = c.in-Some.ensures ∙ e in cc) in
    subst (λ (ns : List ℕ). OnOk c.add_kinds.result (c.add_kinds.new.kinds.items ≡ c.args.kinds.now.items ++ map (kind_in c.args.self.now.lookups.kinds.items) ns)) (c.as_slice.ensures ∙ ap (λ (x : Proto). x.parameters) same) c.add_kinds.ensures

pub returns-in-None : goal.returns-in-None
returns-in-None c = λ q e. absurd (let x = c.in-None.ensures ∙ e in cc)
