use Rattle.std.proofs.Common.{◌∙◌, true, false, sym, ap, subst, append-nil}
use Rattle.std.specs.Prelude.{Decides}
use Rattle.program_model.specs.Lookups.{class_place}
use Rattle.call_graph.specs.Supers.{ListsAbove}
use Rattle.call_graph.proofs.SuperCalls.{adds_class, adds_outside}
use Rattle.call_graph.proofs.supers.add_super_037.Goals as goal

pub returns-then-branch-clause-finds : goal.returns-then-branch-clause-finds
returns-then-branch-clause-finds c = λ is fits are short q same key new.
    adds_outside c.args.at.now.program.now c.args.caller.0 c.args.caller.1 q true c.args.out.now.items c.args.out.now.items new
    (ap (λ m. class_place c.args.at.now.program.now m.class) same ∙ sym (c.in-None.ensures.is c.args.at.now.program.now is.of))
    (subst (λ m. Decides true (ListsAbove c.args.at.now.program.now c.args.caller.0 m.class)) (sym same) (subst (λ b. Decides b (ListsAbove c.args.at.now.program.now c.args.caller.0 c.args.name.now.class)) c.if-branch.true (c.in_ok-lists_above-in-None.ensures.decides is fits are.kinds_size are.kinds short)))
    (sym (append-nil c.args.out.now.items))

pub returns-in_ok-add_super_of_class-in-Some-clause-finds : goal.returns-in_ok-add_super_of_class-in-Some-clause-finds
returns-in_ok-add_super_of_class-in-Some-clause-finds c = λ is fits are short q same key new.
    adds_class c.args.at.now.program.now c.args.caller.0 c.args.caller.1 c.in-Some.named q c.args.out.now.items c.add_super_of_class.new.out.items new
    (ap (λ m. class_place c.args.at.now.program.now m.class) same ∙ sym (c.in-Some.ensures.is c.args.at.now.program.now is.of))
    (c.in_ok-add_super_of_class-in-Some.ensures.adds is are.walk q key)

pub returns-in_ok-add_above-in-None-clause-finds : goal.returns-in_ok-add_above-in-None-clause-finds
returns-in_ok-add_above-in-None-clause-finds c = λ is fits are short q same key new.
    adds_outside c.args.at.now.program.now c.args.caller.0 c.args.caller.1 q false c.args.out.now.items c.add_above.new.out.items new
    (ap (λ m. class_place c.args.at.now.program.now m.class) same ∙ sym (c.in-None.ensures.is c.args.at.now.program.now is.of))
    (subst (λ m. Decides false (ListsAbove c.args.at.now.program.now c.args.caller.0 m.class)) (sym same) (subst (λ b. Decides b (ListsAbove c.args.at.now.program.now c.args.caller.0 c.args.name.now.class)) c.if-branch.false (c.in_ok-lists_above-in-None.ensures.decides is fits are.kinds_size are.kinds short)))
    (c.in_ok-add_above-in-None.ensures.adds is q key)
