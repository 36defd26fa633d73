use Rattle.std.proofs.Common.{◌∙◌, true≢false, sym, subst}
use Rattle.std.specs.Prelude.{Contains}
use Rattle.call_graph.specs.Objects.{FindsOpen, InheritsOf}
use Rattle.call_graph.proofs.Calling.{called_back, open_stays}
use Rattle.call_graph.specs.Least.{AreCommon, CallsOn, Common, Inherits, FoundCommon, InheritedAmong}
use Rattle.call_graph.proofs.Reaching.{adds_then, adds_as, outer_among}
use Rattle.call_graph.proofs.objects.add_callbacks.Goals as goal

pub returns-in_ok-add_all_inherited-clause-called_back : goal.returns-in_ok-add_all_inherited-clause-called_back
returns-in_ok-add_all_inherited-clause-called_back c = λ is fits has kind y place above b.
    called_back c.args.at.now.program.now fits c.args.tables.now.shut.items c.args.class c.add_all_inherited.new.out.items c.args.at.now.hierarchy.now c.args.tables.now.object kind c.args.tables.now.of_object.items c.args.above.now y place above has
    (λ key i. open_stays c.args.at.now.program.now c.args.at.now.hierarchy.now c.args.tables.now.shut.items c.args.class key c.add_common.new.out.items c.add_all_inherited.new.out.items c.in_ok-add_all_inherited.ensures.stays
    (subst (λ l. FindsOpen c.args.at.now.program.now c.args.at.now.hierarchy.now l c.args.class key c.add_common.new.out.items) c.as_slice-2.ensures.value
    (c.in_ok-add_common.ensures.common is key (subst (λ l. Contains l key) (sym c.as_slice.ensures.value) i))))
    (λ h u i. subst (λ l. InheritsOf c.args.at.now.program.now l c.args.class u c.add_all_inherited.new.out.items) c.as_slice-then-has_outer.ensures.value (c.in_ok-add_all_inherited.ensures.inherits is u i)) b

pub returns-else-has_outer-clause-called_back : goal.returns-else-has_outer-clause-called_back
returns-else-has_outer-clause-called_back c = λ is fits has kind y place above b.
    called_back c.args.at.now.program.now fits c.args.tables.now.shut.items c.args.class c.add_common.new.out.items c.args.at.now.hierarchy.now c.args.tables.now.object kind c.args.tables.now.of_object.items c.args.above.now y place above has
    (λ key i. subst (λ l. FindsOpen c.args.at.now.program.now c.args.at.now.hierarchy.now l c.args.class key c.add_common.new.out.items) c.as_slice-2.ensures.value
    (c.in_ok-add_common.ensures.common is key (subst (λ l. Contains l key) (sym c.as_slice.ensures.value) i)))
    (λ h u i. absurd (true≢false (sym h ∙ sym (c.has_outer.ensures is) ∙ c.if-has_outer.false))) b

pub returns-in_ok-add_all_inherited-clause-only : goal.returns-in_ok-add_all_inherited-clause-only
returns-in_ok-add_all_inherited-clause-only c = λ is formed common.
    let p = c.args.at.now.program.now in
    let shut = c.args.tables.now.shut.items in
    let calls = CallsOn p c.args.tables.now.object shut c.args.class c.args.above.now in
    let top = outer_among p c.args.tables.now.object c.args.above.now (sym (c.has_outer.ensures is) ∙ c.if-has_outer.true) in
    adds_then (FoundCommon p c.as_slice-2.result.now c.args.class) (InheritedAmong p c.as_slice-then-has_outer.result.now c.args.class c.args.above.now) calls c.args.out.now.items c.add_common.new.out.items c.add_all_inherited.new.out.items
    (λ y f. Common y (subst (λ l. FoundCommon p l c.args.class y) c.as_slice-2.ensures.value f))
    (λ y f. Inherits top.0 y top.1.0 top.1.1 (subst (λ l. InheritedAmong p l c.args.class c.args.above.now y) c.as_slice-then-has_outer.ensures.value f))
    (c.in_ok-add_common.ensures.only is (subst (AreCommon p c.args.at.now.hierarchy.now) (sym c.as_slice.ensures.value) common))
    (c.in_ok-add_all_inherited.ensures.only is formed)

pub returns-else-has_outer-clause-only : goal.returns-else-has_outer-clause-only
returns-else-has_outer-clause-only c = λ is formed common.
    let p = c.args.at.now.program.now in
    adds_as (FoundCommon p c.as_slice-2.result.now c.args.class) (CallsOn p c.args.tables.now.object c.args.tables.now.shut.items c.args.class c.args.above.now) c.args.out.now.items c.add_common.new.out.items
    (λ y f. Common y (subst (λ l. FoundCommon p l c.args.class y) c.as_slice-2.ensures.value f))
    (c.in_ok-add_common.ensures.only is (subst (AreCommon p c.args.at.now.hierarchy.now) (sym c.as_slice.ensures.value) common))
