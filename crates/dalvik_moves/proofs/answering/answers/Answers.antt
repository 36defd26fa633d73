use Rattle.std.proofs.Common.{refl, sym, subst}
use Rattle.std.specs.Prelude.{IfOk, None, Option}
use Rattle.std.specs.Option.{option_map}
use Rattle.dalvik_defs.specs.Moves.{answers}
use Rattle.dalvik_lookups.specs.Views.{type_text}
use Rattle.dalvik_lookups.specs.declared.types.Kind.{Kind}
use Rattle.dalvik_state.specs.Runs.{below_in, bodies_in, classes_in, setting_in, world_in, IsNext}
use Rattle.dalvik_state.specs.declared.state.State.{State}
use Rattle.dalvik_moves.specs.Moving.{IsMoving}
use Rattle.dalvik_moves.proofs.Moved.{over_as}
use Rattle.dalvik_moves.proofs.answering.answers.Goals as goal

pub returns-in-Some-clause-ok : goal.returns-in-Some-clause-ok
returns-in-Some-clause-ok c = λ o floats script steps first rest g h are.
    let l = c.args.tables.now.lookups in
    let old = c.args.state.now in
    subst (λ (k : Option Kind). IfOk c.answers_owed.result (λ e. IsNext l steps script c.answers_owed.new.memo c.answers_owed.new.state e (answers (setting_in l o floats) (bodies_in l) (world_in l old) (classes_in l old) (option_map (type_text l.types) k) g (below_in l script old) rest))) (sym c.in-Some.is)
    (c.answers_owed.ensures.ok o floats script steps first rest g (subst (λ (k : Option Kind). IsMoving l o c.args.memo.now script steps old k first rest) c.in-Some.is h) are)

pub returns-in-Some-clause-err : goal.returns-in-Some-clause-err
returns-in-Some-clause-err c = λ o script steps first rest g h are.
    let l = c.args.tables.now.lookups in
    c.answers_owed.ensures.err o script steps first rest g (subst (λ (k : Option Kind). IsMoving l o c.args.memo.now script steps c.args.state.now k first rest) c.in-Some.is h) are

pub returns-in-None-clause-ok : goal.returns-in-None-clause-ok
returns-in-None-clause-ok c = λ o floats script steps first rest g h are.
    let l = c.args.tables.now.lookups in
    let old = c.args.state.now in
    subst (λ (k : Option Kind). IsNext l steps script c.args.memo.now c.end.new.self None (answers (setting_in l o floats) (bodies_in l) (world_in l old) (classes_in l old) (option_map (type_text l.types) k) g (below_in l script old) rest)) (sym c.in-None.is)
    (subst (λ (s : State). IsNext l steps script c.args.memo.now s None (answers (setting_in l o floats) (bodies_in l) (world_in l old) (classes_in l old) None g (below_in l script old) rest)) (sym c.end.ensures)
    (over_as l steps script c.args.memo.now old (answers (setting_in l o floats) (bodies_in l) (world_in l old) (classes_in l old) None g (below_in l script old) rest) h.run.kept refl))
