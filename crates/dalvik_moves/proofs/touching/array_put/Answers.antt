use Rattle.std.proofs.Common.{◌∙◌, ap}
use Rattle.std.specs.Prelude.{None, Some}
use Rattle.std.proofs.lemmas.Result.{IfOk-weaker}
use Rattle.dalvik_defs.specs.Moves.{array_put, writes_item}
use Rattle.dalvik_defs.specs.State.{Items}
use Rattle.dalvik_state.specs.Runs.{classes_in, setting_in, world_in}
use Rattle.dalvik_state.specs.Views.{names_in, value_of, values_of}
use Rattle.dalvik_state.specs.Worlds.{shape_at, spots_of}
use Rattle.dalvik_state.specs.declared.datum.Datum.{Datum}
use Rattle.dalvik_moves.specs.Moving.{freed_in, item_in}
use Rattle.dalvik_moves.specs.Touching.{kind_there}
use Rattle.dalvik_moves.proofs.FieldMoves.{next_at}
use Rattle.dalvik_moves.proofs.ItemMoves.{array_written, next_same, shape_same}
use Rattle.dalvik_moves.proofs.Moved.{over_as}
use Rattle.dalvik_moves.proofs.touching.array_put.Goals as goal

pub returns-in-Some-clause-ok : goal.returns-in-Some-clause-ok
returns-in-Some-clause-ok c = λ o floats script steps owes first rest g what h is given.
    let l = c.args.tables.now.lookups in
    let old = c.args.state.now in
    let w = old.world in
    let s = setting_in l o floats in
    let place = c.args.place in
    let e = c.in-Some.ensures ∙ ap kind_there (c.item_of.ensures ∙ ap (λ (d : Datum). item_in place (shape_at (spots_of w) d)) c.exposed-array.ensures) in
    let puts = array_written l w s (classes_in l old) g what place (freed_in l script old) rest c.args.on is (Some c.in-Some.kind) e in
    let shape = ap (shape_at (spots_of w)) c.exposed-array.ensures ∙ puts.shape in
    IfOk-weaker c.puts_fitting.result _ _ (λ x next. next_same l steps script c.puts_fitting.new.memo c.puts_fitting.new.state x _ _
    (ap (λ (d : Datum). writes_item s (world_in l old) (classes_in l old) (value_of (names_in l) d) (Some (Items ((names_in l).kind c.in-Some.kind) (values_of (names_in l) puts.items))) place what (freed_in l script old) rest) c.exposed-array.ensures ∙ puts.is) next)
    (c.puts_fitting.ensures.ok o floats script steps owes first rest what puts.items h given shape puts.low)

pub returns-in-Some-clause-err : goal.returns-in-Some-clause-err
returns-in-Some-clause-err c = λ o script steps owes first rest g what h is given.
    let w = c.args.state.now.world in
    let shape = shape_same w c.args.place c.exposed-array.result c.in-Some.kind (c.in-Some.ensures ∙ ap kind_there c.item_of.ensures) in
    c.puts_fitting.ensures.err o script steps owes first rest what shape.0 h given shape.1

pub returns-in-None-clause-ok : goal.returns-in-None-clause-ok
returns-in-None-clause-ok c = λ o floats script steps owes first rest g what h is given.
    let l = c.args.tables.now.lookups in
    let old = c.args.state.now in
    let w = old.world in
    let s = setting_in l o floats in
    let place = c.args.place in
    let e = c.in-None.ensures ∙ ap kind_there (c.item_of.ensures ∙ ap (λ (d : Datum). item_in place (shape_at (spots_of w) d)) c.exposed-array.ensures) in
    let to = array_put s (world_in l old) (classes_in l old) g place what (freed_in l script old) rest in
    next_at l steps script c.args.memo.now _ c.end.new.self None to c.end.ensures
    (over_as l steps script c.args.memo.now old to h.run.kept (array_written l w s (classes_in l old) g what place (freed_in l script old) rest c.args.on is None e))
