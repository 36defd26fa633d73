use Rattle.std.proofs.Common.{ap, subst, map, refl, ◌∙◌, ◌∷◌, [], option_to_list}
use Rattle.std.proofs.lemmas.List.{map-append}
use Rattle.dex_write.specs.Plans.{plan_in}
use Rattle.dex_write.specs.Written.{MorePlans}
use Rattle.dex_write.proofs.Files.{one_planned, none_planned}
use Rattle.dex_write.proofs.writer.push_class.Goals as goal

pub returns-in_ok-push : goal.returns-in_ok-push
returns-in_ok-push c = subst (λ o. MorePlans c.args.program.now c.args.numbers.now (option_to_list o) (map plan_in c.args.order.now.items) (map plan_in c.push.new.self.items)) c.in-Some.ensures
    (one_planned c.args.program.now c.args.numbers.now c.in-Some.class.now (plan_in c.in_ok-order_class.field-0) _ _ (ap (map plan_in) c.in_ok-push.ensures.items ∙ map-append plan_in c.args.order.now.items (c.in_ok-order_class.field-0 ∷ [])) c.in_ok-order_class.ensures)

pub returns-in_default : goal.returns-in_default
returns-in_default c = subst (λ o. MorePlans c.args.program.now c.args.numbers.now (option_to_list o) (map plan_in c.args.order.now.items) (map plan_in c.args.order.now.items)) c.in_default.ensures (none_planned c.args.program.now c.args.numbers.now _ _ refl)
