use Rattle.std.proofs.Common.{◌∙◌, ap, sym}
use Rattle.std.specs.Option.{option_map}
use Rattle.std.proofs.lemmas.Result.{IfOk-weaker}
use Rattle.dalvik_defs.specs.Moves.{shows_value}
use Rattle.dalvik_defs.specs.Names.{Text}
use Rattle.dalvik_defs.specs.State.{World}
use Rattle.dalvik_lookups.specs.Views.{type_text}
use Rattle.dalvik_state.specs.Runs.{classes_in, world_in}
use Rattle.dalvik_state.specs.Views.{names_in, value_of}
use Rattle.dalvik_state.specs.Worlds.{shape_at, spots_of}
use Rattle.dalvik_state.specs.declared.datum.Datum.{Datum}
use Rattle.dalvik_moves.specs.Moving.{freed_in, length_in}
use Rattle.dalvik_moves.proofs.Moved.{event_as}
use Rattle.dalvik_moves.proofs.Taken.{none_given, nothing_given}
use Rattle.dalvik_moves.proofs.Touched.{array_measured, int_text, length_fine}
use Rattle.dalvik_moves.proofs.touching.array_length.Goals as goal

pub returns-clause-ok : goal.returns-clause-ok
returns-clause-ok c = λ o memo script steps owes first rest g h is.
    let l = c.args.tables.now.lookups in
    let n = names_in l in
    let old = c.args.state.now in
    let w = old.world in
    let d = c.length_of-length.result in
    let e = c.length_of-length.ensures ∙ ap (λ (d : Datum). length_in (shape_at (spots_of w) d)) c.exposed.ensures in
    let start = none_given l w c.new.result h.run.state.world c.new.ensures in
    let read = array_measured l w (classes_in l old) g 0 (freed_in l script old) rest c.args.on is h.run.state.world.short d e in
    let text = ap (type_text l.types) c.plain-kind.ensures ∙ int_text l h.run.right.tabled.named.types in
    IfOk-weaker c.shows_value.result _ _ (λ x event. event_as l steps script c.shows_value.new.state x _ _
    (ap (λ (v : World). shows_value v (classes_in l old) (type_text l.types c.plain-kind.result) (option_map (value_of n) d) (freed_in l script old) rest) (nothing_given l w c.new.result c.new.ensures)
    ∙ ap (λ (t : Text). shows_value (world_in l old) (classes_in l old) t (option_map (value_of n) d) (freed_in l script old) rest) text ∙ sym read) event)
    (c.shows_value.ensures.ok o memo script steps owes first rest h start (length_fine l w c.new.result (shape_at (spots_of w) c.exposed.result) d c.length_of-length.ensures))
