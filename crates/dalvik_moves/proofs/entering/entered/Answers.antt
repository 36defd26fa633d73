use Rattle.std.proofs.Common.{◌∙◌, ◌∷◌, map, subst, sym}
use Rattle.std.specs.Prelude.{IfOk, None, Option}
use Rattle.dalvik_defs.specs.State.{Next}
use Rattle.dalvik_defs.specs.declared.events.Event.{Event}
use Rattle.dalvik_state.specs.Drafts.{given_world}
use Rattle.dalvik_state.specs.Runs.{bodies_in, classes_in, setting_in, stack_in, world_in, IsNext}
use Rattle.dalvik_state.specs.Views.{names_in, value_of}
use Rattle.dalvik_moves.specs.Moving.{freed_in, datums_of}
use Rattle.dalvik_moves.proofs.Admitted.{member, member_static}
use Rattle.dalvik_moves.proofs.Framed.{entered_plain, entered_static}
use Rattle.dalvik_moves.proofs.Moved.{next_as, on_err, undone_kept}
use Rattle.dalvik_moves.proofs.entering.entered.Goals as goal

pub returns-then-has-clause-ok : goal.returns-then-has-clause-ok
returns-then-has-clause-ok c = λ o floats script steps owes first rest f gs h all m.
    let l = c.args.tables.now.lookups in
    let n = names_in l in
    let old = c.args.state.now in
    let at = c.args.found.0 in
    let own = c.args.found.1.now in
    let v = c.args.values in
    subst (λ (to : Next). IfOk c.enters_static.result (λ (e : Option Event). IsNext l steps script c.enters_static.new.memo c.enters_static.new.state e to))
    (entered_static (setting_in l o floats) (bodies_in l) (world_in l old) (given_world n old.world v.gifts) (classes_in l old) f gs (map (value_of n) (datums_of v.taken.items)) (stack_in l script old) (freed_in l script old) rest
    (sym c.if-has.true ∙ c.has.ensures ∙ member_static l h.run.right at own f (member l h.run.right at own f m)))
    (c.enters_static.ensures.ok o floats script steps owes first rest own f gs h all m)

pub returns-then-has-clause-err : goal.returns-then-has-clause-err
returns-then-has-clause-err c = λ o script steps owes first rest f h m. c.enters_static.ensures.err o script steps owes first rest c.args.found.1.now f h m

pub returns-clause-ok : goal.returns-clause-ok
returns-clause-ok c = λ o floats script steps owes first rest f gs h all m.
    let l = c.args.tables.now.lookups in
    let n = names_in l in
    let old = c.args.state.now in
    let at = c.args.found.0 in
    let own = c.args.found.1.now in
    let v = c.args.values in
    next_as l steps script c.args.memo.now c.enters_now.new.state None _ _ h.run.kept
    (entered_plain (setting_in l o floats) (bodies_in l) (world_in l old) (given_world n old.world v.gifts) (classes_in l old) f gs (map (value_of n) (datums_of v.taken.items)) (stack_in l script old) (freed_in l script old) rest
    (sym c.if-has.false ∙ c.has.ensures ∙ member_static l h.run.right at own f (member l h.run.right at own f m)))
    (c.in_ok-enters_now.ensures.ok o c.args.memo.now script steps owes first rest own f gs h all m)

pub returns-in_err-enters_now-clause-err : goal.returns-in_err-enters_now-clause-err
returns-in_err-enters_now-clause-err c = λ o script steps owes first rest f h m.
    on_err _ _ (undone_kept c.args.tables.now.lookups steps c.args.memo.now c.args.state.now c.enters_now.new.state h.run.kept (c.in_err-enters_now.ensures.err steps h.run.state h.run.on))
