use Rattle.std.proofs.Common.{◌∙◌, true, false, sym, subst}
use Rattle.call_targets.specs.Adding.{Adds}
use Rattle.call_targets.specs.Noting.{enter_notes, virtual_notes}
use Rattle.call_targets.proofs.Adding.{adds_then}
use Rattle.call_targets.proofs.Noted.{not_false}
use Rattle.program_model.specs.MemberRules.{is_direct}
use Rattle.call_targets.proofs.Turning.{method_held}
use Rattle.call_targets.proofs.entered.enter_method.Goals as goal
use Rattle.call_targets.proofs.entered.enter_method.Goals.{then-keeps_method, else-keeps_method}

pub returns-in_ok-enter_virtual-clause-adds : goal.returns-in_ok-enter_virtual-clause-adds
returns-in_ok-enter_virtual-clause-adds c = λ is r.
    let p = c.args.at.now.program.now in
    let k = c.args.kept.now in
    let m = c.args.method.now in
    let outer = c.args.made.outer in
    let class = c.args.made.class in
    let old = c.args.targets.now in
    let mid = c.if-keeps_method.targets in
    let new = c.enter_virtual.new.targets in
    let held = sym c.has.ensures ∙ c.if-has.false in
    let direct = not_false (is_direct p m) (sym (c.is_virtual.ensures p is) ∙ c.if-is_virtual.true) in
    elim c.if-keeps_method.branch [
      | then-keeps_method w ↦ method_held old new p class k outer m true false held (sym c.keeps_method.ensures ∙ w.if-keeps_method.true) direct
          (adds_then (enter_notes m) (virtual_notes p k class outer m.name) old mid new (subst (λ t. Adds (enter_notes m) old t) (sym w.targets-is) w.enter.ensures) (c.in_ok-enter_virtual.ensures.adds is r))
      | else-keeps_method w ↦ method_held old new p class k outer m false false held (sym c.keeps_method.ensures ∙ w.if-keeps_method.false) direct
          (subst (λ t. Adds (virtual_notes p k class outer m.name) t new) w.targets-is (c.in_ok-enter_virtual.ensures.adds is r))
    ]
