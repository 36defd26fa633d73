use Rattle.std.proofs.Common.{◌∙◌, ◌∷◌, sym, subst}
use Rattle.std.specs.Prelude.{IfOk, None, Option}
use Rattle.dalvik_defs.specs.Moves.{make}
use Rattle.dalvik_defs.specs.State.{Next}
use Rattle.dalvik_defs.specs.declared.events.Event.{Event}
use Rattle.dalvik_state.specs.Runs.{bodies_in, classes_in, setting_in, stack_in, world_in, IsNext}
use Rattle.dalvik_state.specs.declared.state.State.{State}
use Rattle.dalvik_moves.specs.Moving.{freed_in}
use Rattle.dalvik_moves.proofs.Created.{make_illegal, make_legal}
use Rattle.dalvik_moves.proofs.Moved.{over_as}
use Rattle.dalvik_moves.proofs.entering.make_found.Goals as goal

pub returns-then-legal-clause-ok : goal.returns-then-legal-clause-ok
returns-then-legal-clause-ok c = λ o floats script steps owes first rest t h there.
    let l = c.args.tables.now.lookups in
    let old = c.args.state.now in
    subst (λ (to : Next). IfOk c.makes_ready.result (λ (e : Option Event). IsNext l steps script c.makes_ready.new.memo c.makes_ready.new.state e to))
    (make_legal (setting_in l o floats) (bodies_in l) (world_in l old) (classes_in l old) t (stack_in l script old) (freed_in l script old) rest (sym c.if-legal.true ∙ c.may_make-legal.ensures o t h.run.right h.reach there))
    (c.makes_ready.ensures.ok o floats script steps owes first rest t h there)

pub returns-else-legal-clause-ok : goal.returns-else-legal-clause-ok
returns-else-legal-clause-ok c = λ o floats script steps owes first rest t h there.
    let l = c.args.tables.now.lookups in
    let old = c.args.state.now in
    let to = make (setting_in l o floats) (bodies_in l) (world_in l old) (classes_in l old) t (stack_in l script old) (freed_in l script old) rest in
    subst (λ (s : State). IsNext l steps script c.args.memo.now s None to) (sym c.end.ensures)
    (over_as l steps script c.args.memo.now old to h.run.kept
    (make_illegal (setting_in l o floats) (bodies_in l) (world_in l old) (classes_in l old) t (stack_in l script old) (freed_in l script old) rest (sym c.if-legal.false ∙ c.may_make-legal.ensures o t h.run.right h.reach there)))
