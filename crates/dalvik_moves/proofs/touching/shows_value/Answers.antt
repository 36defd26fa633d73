use Rattle.std.proofs.Common.{sym, subst}
use Rattle.std.specs.Prelude.{IfOk, None, Option}
use Rattle.std.specs.Option.{option_map}
use Rattle.dalvik_defs.specs.Moves.{shows_value}
use Rattle.dalvik_lookups.specs.Views.{type_text}
use Rattle.dalvik_state.specs.Drafts.{given_world}
use Rattle.dalvik_state.specs.Runs.{classes_in, IsEvent}
use Rattle.dalvik_state.specs.Views.{names_in, value_of}
use Rattle.dalvik_state.specs.declared.datum.Datum.{Datum}
use Rattle.dalvik_state.specs.declared.state.State.{State}
use Rattle.dalvik_steps.specs.Entries.{AreGivenFine}
use Rattle.dalvik_moves.specs.Moving.{freed_in}
use Rattle.dalvik_moves.proofs.Moved.{over_event}
use Rattle.dalvik_moves.proofs.touching.shows_value.Goals as goal

pub returns-in-Some-clause-ok : goal.returns-in-Some-clause-ok
returns-in-Some-clause-ok c = λ o memo script steps owes first rest h given fine.
    let l = c.args.tables.now.lookups in
    let n = names_in l in
    let old = c.args.state.now in
    subst (λ (v : Option Datum). IfOk c.shows_answer.result (λ e. IsEvent l steps script c.shows_answer.new.state e (shows_value (given_world n old.world c.args.gifts) (classes_in l old) (type_text l.types c.args.kind) (option_map (value_of n) v) (freed_in l script old) rest))) (sym c.in-Some.is)
    (c.shows_answer.ensures.ok o memo script steps owes first rest h given (subst (AreGivenFine l old.world c.args.gifts) c.in-Some.is fine))

pub returns-in-None-clause-ok : goal.returns-in-None-clause-ok
returns-in-None-clause-ok c = λ o memo script steps owes first rest h given fine.
    let l = c.args.tables.now.lookups in
    let n = names_in l in
    let old = c.args.state.now in
    subst (λ (v : Option Datum). IsEvent l steps script c.end.new.self None (shows_value (given_world n old.world c.args.gifts) (classes_in l old) (type_text l.types c.args.kind) (option_map (value_of n) v) (freed_in l script old) rest)) (sym c.in-None.is)
    (subst (λ (s : State). IsEvent l steps script s None (shows_value (given_world n old.world c.args.gifts) (classes_in l old) (type_text l.types c.args.kind) None (freed_in l script old) rest)) (sym c.end.ensures)
    (over_event l steps script old))
