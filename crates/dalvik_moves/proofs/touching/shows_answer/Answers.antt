use Rattle.std.proofs.Common.{sym, subst}
use Rattle.std.specs.Prelude.{Option, Some}
use Rattle.dalvik_defs.specs.Moves.{shows_value}
use Rattle.dalvik_defs.specs.declared.events.Event.{Event}
use Rattle.dalvik_lookups.specs.Views.{type_text}
use Rattle.dalvik_state.specs.Drafts.{given_world}
use Rattle.dalvik_state.specs.Runs.{classes_in, IsEvent}
use Rattle.dalvik_state.specs.Views.{names_in, value_of}
use Rattle.dalvik_moves.specs.Moving.{freed_in}
use Rattle.dalvik_moves.proofs.Moved.{on_err}
use Rattle.dalvik_moves.proofs.Touched.{answer_shown, world_undone}
use Rattle.dalvik_moves.proofs.touching.shows_answer.Goals as goal

pub returns-clause-ok : goal.returns-clause-ok
returns-clause-ok c = λ o memo script steps owes first rest h given fine.
    let l = c.args.tables.now.lookups in
    let old = c.args.state.now in
    let g = c.args.gifts in
    let kind = type_text l.types c.args.kind in
    let to = shows_value (given_world (names_in l) old.world g) (classes_in l old) kind (Some (value_of (names_in l) c.args.datum)) (freed_in l script old) rest in
    let is = answer_shown l o memo script steps old owes first rest g kind c.args.datum c.shows_given.new.world c.done.new.state c.in_ok-shown.shown h (c.in_ok-shown.ensures.ok h.run.right given fine) c.done.ensures.done in
    subst (λ (e : Option Event). IsEvent l steps script c.done.new.state e to) (sym c.answer_of.ensures) is

pub returns-in_err-shown-clause-err : goal.returns-in_err-shown-clause-err
returns-in_err-shown-clause-err c = λ o memo script steps owes first rest h.
    on_err _ _ (world_undone c.args.tables.now.lookups steps c.args.state.now c.shows_given.new.world h.run.state h.run.on c.in_err-shown.ensures.err)
