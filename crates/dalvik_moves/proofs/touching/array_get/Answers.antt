use Rattle.std.proofs.Common.{◌∙◌, true, ap, sym, subst}
use Rattle.std.specs.Prelude.{None, Some}
use Rattle.std.specs.Option.{option_map}
use Rattle.std.proofs.lemmas.Result.{IfOk-weaker}
use Rattle.dalvik_defs.specs.Moves.{array_get, shows_value}
use Rattle.dalvik_defs.specs.State.{World}
use Rattle.dalvik_lookups.specs.Views.{type_text}
use Rattle.dalvik_state.specs.Runs.{classes_in, world_in, IsEvent}
use Rattle.dalvik_state.specs.Views.{names_in, value_of}
use Rattle.dalvik_state.specs.Worlds.{shape_at, spots_of}
use Rattle.dalvik_state.specs.declared.datum.Datum.{Datum}
use Rattle.dalvik_state.specs.declared.state.State.{State}
use Rattle.dalvik_moves.specs.Moving.{freed_in, item_in}
use Rattle.dalvik_moves.proofs.Moved.{event_as, over_event}
use Rattle.dalvik_moves.proofs.Taken.{none_given, nothing_given}
use Rattle.dalvik_moves.proofs.Touched.{array_read, item_fine}
use Rattle.dalvik_moves.proofs.touching.array_get.Goals as goal

pub returns-in-Some-clause-ok : goal.returns-in-Some-clause-ok
returns-in-Some-clause-ok c = λ o memo script steps owes first rest g h is.
    let l = c.args.tables.now.lookups in
    let n = names_in l in
    let old = c.args.state.now in
    let w = old.world in
    let e = c.in-Some.ensures ∙ ap (λ (d : Datum). item_in c.args.place (shape_at (spots_of w) d)) c.exposed-array.ensures in
    let start = none_given l w c.new.result h.run.state.world c.new.ensures in
    let read = array_read l w (classes_in l old) g c.args.place (freed_in l script old) rest c.args.on is (Some (c.in-Some.kind, c.in-Some.value)) e in
    IfOk-weaker c.shows_value.result _ _ (λ x event. event_as l steps script c.shows_value.new.state x _ _
    (ap (λ (v : World). shows_value v (classes_in l old) (type_text l.types c.in-Some.kind) (option_map (value_of n) c.in-Some.value) (freed_in l script old) rest) (nothing_given l w c.new.result c.new.ensures) ∙ sym read) event)
    (c.shows_value.ensures.ok o memo script steps owes first rest h start (item_fine l w c.new.result c.args.place c.exposed-array.result c.in-Some.kind c.in-Some.value h.run.state.world c.new.ensures c.in-Some.ensures))

pub returns-in-None-clause-ok : goal.returns-in-None-clause-ok
returns-in-None-clause-ok c = λ o memo script steps owes first rest g h is.
    let l = c.args.tables.now.lookups in
    let old = c.args.state.now in
    let e = c.in-None.ensures ∙ ap (λ (d : Datum). item_in c.args.place (shape_at (spots_of old.world) d)) c.exposed-array.ensures in
    let read = array_read l old.world (classes_in l old) g c.args.place (freed_in l script old) rest c.args.on is None e in
    let to = array_get (world_in l old) (classes_in l old) g c.args.place (freed_in l script old) rest in
    subst (λ (s : State). IsEvent l steps script s None to) (sym c.end.ensures) (event_as l steps script (record old { ended = true }) None _ to (sym read) (over_event l steps script old))
