use Rattle.std.proofs.Common.{◌∙◌, ◌∷◌, sym, subst}
use Rattle.std.specs.Prelude.{None}
use Rattle.dalvik_defs.specs.Moves.{make}
use Rattle.dalvik_state.specs.Runs.{bodies_in, classes_in, setting_in, stack_in, world_in, IsNext}
use Rattle.dalvik_state.specs.declared.state.State.{State}
use Rattle.dalvik_moves.specs.Moving.{freed_in}
use Rattle.dalvik_moves.proofs.Created.{make_illegal, makes_unfound}
use Rattle.dalvik_moves.proofs.Moved.{over_as}
use Rattle.dalvik_moves.proofs.entering.make.Goals as goal

pub returns-in-Some-clause-ok : goal.returns-in-Some-clause-ok
returns-in-Some-clause-ok c = λ o floats script steps owes first rest t h e. c.make_found.ensures.ok o floats script steps owes first rest t h (sym e ∙ c.in-Some.is)

pub returns-in-Some-clause-err : goal.returns-in-Some-clause-err
returns-in-Some-clause-err c = λ o script steps owes first rest t h e. c.make_found.ensures.err o script steps owes first rest t h (sym e ∙ c.in-Some.is)

pub returns-in-None-clause-ok : goal.returns-in-None-clause-ok
returns-in-None-clause-ok c = λ o floats script steps owes first rest t h e.
    let l = c.args.tables.now.lookups in
    let old = c.args.state.now in
    let to = make (setting_in l o floats) (bodies_in l) (world_in l old) (classes_in l old) t (stack_in l script old) (freed_in l script old) rest in
    subst (λ (s : State). IsNext l steps script c.args.memo.now s None to) (sym c.end.ensures)
    (over_as l steps script c.args.memo.now old to h.run.kept
    (make_illegal (setting_in l o floats) (bodies_in l) (world_in l old) (classes_in l old) t (stack_in l script old) (freed_in l script old) rest (makes_unfound l h.run.right o t (sym e ∙ c.in-None.is))))
