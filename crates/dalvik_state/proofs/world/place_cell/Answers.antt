use Rattle.std.proofs.Common.{◌≡◌, ◌≤◌, ◌<◌, length, arith, refl, sym, ◌∙◌, ap}
use Rattle.std.specs.Prelude.{Some, slice_get}
use Rattle.std.proofs.lemmas.Option.{slice_get-get_or}
use Rattle.dalvik_state.specs.declared.world.Cell.{Cell}
use Rattle.dalvik_state.proofs.Heaps.{placed, placed_past}
use Rattle.dalvik_state.proofs.world.place_cell.Goals as goal

pub returns-then-number-len : goal.returns-then-number-len
returns-then-number-len c =
    let cells = c.args.heap.now.items in
    let cell = c.index_mut.result.now in
    let inside : c.args.number < length cells = omega arith in
    let there : slice_get cells c.args.number ≡ Some cell = slice_get-get_or cells c.args.number cell inside ∙ ap (λ (x : Cell). Some x) (sym c.index_mut.ensures.value) in
    placed c.args.place cells c.args.number cell (record cell { place = Some c.args.place }) there refl refl

pub returns-else-number-len : goal.returns-else-number-len
returns-else-number-len c =
    let past : length c.args.heap.now.items ≤ c.args.number = omega arith in
    sym (placed_past c.args.place c.args.heap.now.items c.args.number past)
