use Rattle.std.proofs.Common.{◌∙◌, ◌++◌, ap, subst}
use Rattle.call_graph.specs.Follows.{method_types, all_named}
use Rattle.call_graph.specs.Stays.{Stays}
use Rattle.call_graph.specs.Closed.{FindsSuper}
use Rattle.call_graph.specs.Least.{AddsOnly}
use Rattle.call_graph.proofs.rules.follow_method.Goals as goal

pub returns-clause-stays : goal.returns-clause-stays
returns-clause-stays c = λ is.
    subst (λ l. Stays l c.add_supers_of.new.out.items)
    (c.in_ok-add_of_method.ensures is ∙ ap (λ b. c.args.out.now.items ++ (method_types c.args.at.now.program.now b c.args.number ++ all_named c.args.at.now.program.now b c.as_slice-2.result.now)) c.as_slice.ensures.value
    ∙ ap (λ ns. c.args.out.now.items ++ (method_types c.args.at.now.program.now c.args.tables.now.bases.items c.args.number ++ all_named c.args.at.now.program.now c.args.tables.now.bases.items ns)) (c.as_slice-2.ensures.value ∙ c.in_ok-names.ensures is))
    c.in_ok-add_supers_of.ensures.stays

pub returns-clause-only : goal.returns-clause-only
returns-clause-only c = λ is fits are.
    subst (λ l. AddsOnly (FindsSuper c.args.at.now.program.now c.args.number) l c.add_supers_of.new.out.items)
    (c.in_ok-add_of_method.ensures is ∙ ap (λ b. c.args.out.now.items ++ (method_types c.args.at.now.program.now b c.args.number ++ all_named c.args.at.now.program.now b c.as_slice-2.result.now)) c.as_slice.ensures.value
    ∙ ap (λ ns. c.args.out.now.items ++ (method_types c.args.at.now.program.now c.args.tables.now.bases.items c.args.number ++ all_named c.args.at.now.program.now c.args.tables.now.bases.items ns)) (c.as_slice-2.ensures.value ∙ c.in_ok-names.ensures is))
    (c.in_ok-add_supers_of.ensures.only is fits are (c.as_slice-3.ensures.value ∙ c.in_ok-names.ensures is))
