use Rattle.std.proofs.Common.{sym, subst}
use Rattle.call_graph.specs.Supers.{AddsSupers}
use Rattle.call_graph.proofs.Following.{supers_forced, short_class}
use Rattle.call_graph.specs.Closed.{FindsSuper}
use Rattle.call_graph.specs.Least.{SuperFrom}
use Rattle.call_graph.proofs.Reaching.{adds_as, super_found}
use Rattle.call_graph.proofs.rules.add_supers_of.Goals as goal

pub returns-in_ok-add_supers-in-Some-place_of-clause-finds : goal.returns-in_ok-add_supers-in-Some-place_of-clause-finds
returns-in_ok-add_supers-in-Some-place_of-clause-finds c = λ is fits are same.
    let place = sym (c.in-Some-place_of.ensures.is c.args.at.now.program.now is.of) in
    supers_forced c.args.at.now.program.now c.args.number c.in-Some-place_of.place c.in-Some.name.now c.add_supers.new.out.items (sym c.in-Some.ensures) place
    (subst (λ ns. AddsSupers c.args.at.now.program.now c.in-Some.name.now.class c.in-Some-place_of.place ns c.add_supers.new.out.items) same
    (c.in_ok-add_supers-in-Some-place_of.ensures.finds is fits are (short_class c.args.at.now.program.now fits c.in-Some.name.now.class c.in-Some-place_of.place place)))

pub returns-in_ok-add_supers-in-Some-place_of-clause-only : goal.returns-in_ok-add_supers-in-Some-place_of-clause-only
returns-in_ok-add_supers-in-Some-place_of-clause-only c = λ is fits are same.
    let p = c.args.at.now.program.now in
    let name = c.in-Some.name.now in
    let place = sym (c.in-Some-place_of.ensures.is p is.of) in
    adds_as (SuperFrom p name.class c.in-Some-place_of.place c.args.names.now) (FindsSuper p c.args.number) c.args.out.now.items c.add_supers.new.out.items
    (λ y f. super_found p c.args.number c.in-Some-place_of.place name y (sym c.in-Some.ensures) place (subst (λ ns. SuperFrom p name.class c.in-Some-place_of.place ns y) same f))
    (c.in_ok-add_supers-in-Some-place_of.ensures.only is fits are (short_class p fits name.class c.in-Some-place_of.place place))
