use Rattle.std.proofs.Common.{◌≡◌, ◌∙◌, true, sym, subst}
use Rattle.std.specs.Prelude.{◌||◌}
use Rattle.program_model.specs.Lookups.{method_at}
use Rattle.class_defs.specs.Finding.{Finds, finds_at}
use Rattle.call_targets.specs.declared.bound.Target.TheVariants as target
use Rattle.call_targets.specs.Adding.{Adds}
use Rattle.call_targets.specs.Bound.{target_found}
use Rattle.call_targets.specs.Noting.{answer_notes, is_called_back}
use Rattle.call_targets.specs.Targeted.{is_on}
use Rattle.call_targets.proofs.Noted.{or_left, or_right}
use Rattle.call_targets.proofs.Turning.{one_found, virtual_found}
use Rattle.call_targets.proofs.entered.enter_found.Goals as goal
use Rattle.call_targets.proofs.entered.enter_found.Goals.{then-keeps-via-then-keeps, then-keeps-via-else-keeps+then-is_called_back}

pub returns-in-One-clause-adds : goal.returns-in-One-clause-adds
returns-in-One-clause-adds c = λ is r q e.
    let p = c.args.at.now.program.now in
    let k = c.args.kept.now in
    let number = c.args.number in
    let outer = c.args.made.outer in
    let class = c.args.made.class in
    let old = c.args.targets.now in
    let new = c.enter_answer.new.targets in
    let found : target.One c.in-One.found ≡ target_found (finds_at p class q.name q.proto) = sym c.in-One.is ∙ c.in_ok-found.ensures.is is r q.name q.proto (c.key_of_method-key.ensures.is p q e) in
    let any : (is_on k.methods.items number || is_called_back p k outer number q) ≡ true = elim c.then-keeps.branch [
      | then-keeps-via-then-keeps w ↦ or_left (is_on k.methods.items number) (is_called_back p k outer number q) (sym c.keeps_method-keeps.ensures ∙ w.if-keeps.true)
      | then-keeps-via-else-keeps+then-is_called_back w ↦ or_right (is_on k.methods.items number) (is_called_back p k outer number q) (sym (w.is_called_back.ensures is q e) ∙ w.if-is_called_back.true)
    ] in
    virtual_found old new p class k outer number q (Finds c.in-One.found) e any (one_found (finds_at p class q.name q.proto) c.in-One.found found)
    (subst (λ b. Adds (answer_notes b number (method_at p c.in-One.found)) old new) c.keeps_method-keeps.ensures c.enter_answer.ensures)
