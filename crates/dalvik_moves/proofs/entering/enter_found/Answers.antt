use Rattle.std.proofs.Common.{◌∙◌, ◌∷◌, ap, map, subst, sym}
use Rattle.std.specs.Prelude.{IfOk, None, Option, Some}
use Rattle.dalvik_defs.specs.Moves.{enter}
use Rattle.dalvik_defs.specs.State.{Next}
use Rattle.dalvik_defs.specs.declared.events.Event.{Event}
use Rattle.dalvik_state.specs.Drafts.{given_world}
use Rattle.dalvik_state.specs.Runs.{bodies_in, classes_in, setting_in, stack_in, world_in, IsNext}
use Rattle.dalvik_state.specs.Views.{names_in, value_of}
use Rattle.dalvik_state.specs.declared.state.State.{State}
use Rattle.dalvik_moves.specs.Moving.{freed_in, datums_of}
use Rattle.dalvik_moves.proofs.Entered.{values_named}
use Rattle.dalvik_moves.proofs.Framed.{enter_illegal, enter_legal, moves_with}
use Rattle.dalvik_moves.proofs.Moved.{on_err, over_as, undone_itself}
use Rattle.dalvik_moves.proofs.entering.enter_found.Goals as goal

pub returns-in_err-values-clause-err : goal.returns-in_err-values-clause-err
returns-in_err-values-clause-err c = λ o script steps owes first rest f gs h each m.
    on_err _ _ (undone_itself c.args.tables.now.lookups steps c.args.memo.now c.args.state.now h.run.kept h.run.state h.run.on)

pub returns-in_err-legal-clause-err : goal.returns-in_err-legal-clause-err
returns-in_err-legal-clause-err c = λ o script steps owes first rest f gs h each m.
    let all = c.in_ok-values.ensures o gs h.run.right h.reach h.run.state.world each in
    on_err _ _ (undone_itself c.args.tables.now.lookups steps c.may_enter.new.memo c.args.state.now (c.may_enter.ensures.kept o f gs h.run.right h.reach h.run.kept all m) h.run.state h.run.on)

pub returns-then-legal-clause-ok : goal.returns-then-legal-clause-ok
returns-then-legal-clause-ok c = λ o floats script steps owes first rest f gs h each m.
    let l = c.args.tables.now.lookups in
    let n = names_in l in
    let old = c.args.state.now in
    let v = c.in_ok-values.values in
    let vs = map (value_of n) (datums_of v.taken.items) in
    let all = c.in_ok-values.ensures o gs h.run.right h.reach h.run.state.world each in
    let kept = c.may_enter.ensures.kept o f gs h.run.right h.reach h.run.kept all m in
    let legal = sym c.if-legal.true ∙ c.in_ok-legal.ensures.is o f gs h.run.right h.reach h.run.kept all m in
    let got = all.got ∙ ap (λ xs. (given_world n old.world v.gifts, xs)) (values_named n v.taken.items) in
    subst (λ (to : Next). IfOk c.entered.result (λ (e : Option Event). IsNext l steps script c.entered.new.memo c.entered.new.state e to))
    (enter_legal (setting_in l o floats) (bodies_in l) (world_in l old) (given_world n old.world v.gifts) (classes_in l old) f gs vs (stack_in l script old) (freed_in l script old) rest got legal)
    (c.entered.ensures.ok o floats script steps owes first rest f gs (moves_with l o c.args.memo.now c.may_enter.new.memo script steps old owes first rest h kept) all m)

pub returns-then-legal-clause-err : goal.returns-then-legal-clause-err
returns-then-legal-clause-err c = λ o script steps owes first rest f gs h each m.
    let l = c.args.tables.now.lookups in
    let old = c.args.state.now in
    let all = c.in_ok-values.ensures o gs h.run.right h.reach h.run.state.world each in
    let kept = c.may_enter.ensures.kept o f gs h.run.right h.reach h.run.kept all m in
    c.entered.ensures.err o script steps owes first rest f (moves_with l o c.args.memo.now c.may_enter.new.memo script steps old owes first rest h kept) m

pub returns-else-legal-clause-ok : goal.returns-else-legal-clause-ok
returns-else-legal-clause-ok c = λ o floats script steps owes first rest f gs h each m.
    let l = c.args.tables.now.lookups in
    let n = names_in l in
    let old = c.args.state.now in
    let v = c.in_ok-values.values in
    let vs = map (value_of n) (datums_of v.taken.items) in
    let all = c.in_ok-values.ensures o gs h.run.right h.reach h.run.state.world each in
    let kept = c.may_enter.ensures.kept o f gs h.run.right h.reach h.run.kept all m in
    let legal = sym c.if-legal.false ∙ c.in_ok-legal.ensures.is o f gs h.run.right h.reach h.run.kept all m in
    let got = all.got ∙ ap (λ xs. (given_world n old.world v.gifts, xs)) (values_named n v.taken.items) in
    let to = enter (setting_in l o floats) (bodies_in l) (world_in l old) (classes_in l old) (Some f) gs (stack_in l script old) (freed_in l script old) rest in
    subst (λ (s : State). IsNext l steps script c.may_enter.new.memo s None to) (sym c.end.ensures)
    (over_as l steps script c.may_enter.new.memo old to kept (enter_illegal (setting_in l o floats) (bodies_in l) (world_in l old) (given_world n old.world v.gifts) (classes_in l old) f gs vs (stack_in l script old) (freed_in l script old) rest got legal))
