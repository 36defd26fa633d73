use Rattle.std.proofs.Common.{◌≡◌, ◌≤◌, ◌<◌, length, arith, refl, sym, ◌∙◌, ap}
use Rattle.std.specs.Prelude.{Some, slice_get}
use Rattle.std.proofs.lemmas.Option.{slice_get-get_or}
use Rattle.dalvik_state.specs.declared.world.Cell.{Cell}
use Rattle.dalvik_state.specs.Worlds.{fill_shape}
use Rattle.dalvik_state.proofs.Heaps.{reshaped, reshaped_past}
use Rattle.dalvik_state.proofs.world.fill_at.Goals as goal

pub returns-then-number-len : goal.returns-then-number-len
returns-then-number-len c =
    let cells = c.args.heap.now.items in
    let cell = c.index_mut.result.now in
    let inside : c.args.number < length cells = omega arith in
    let there : slice_get cells c.args.number ≡ Some cell = slice_get-get_or cells c.args.number cell inside ∙ ap (λ (x : Cell). Some x) (sym c.index_mut.ensures.value) in
    reshaped (fill_shape c.args.item c.args.numbers.now) cells c.args.number cell (record cell { thing = c.fill_thing.new.thing }) there c.fill_thing.ensures refl

pub returns-else-number-len : goal.returns-else-number-len
returns-else-number-len c =
    let past : length c.args.heap.now.items ≤ c.args.number = omega arith in
    sym (reshaped_past (fill_shape c.args.item c.args.numbers.now) c.args.heap.now.items c.args.number past)
