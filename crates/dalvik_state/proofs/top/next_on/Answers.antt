use Rattle.std.proofs.Common.{◌≡◌, ◌≤◌, ◌<◌, ◌-◌, length, arith, sym, ◌∙◌, ap}
use Rattle.std.specs.Prelude.{Some, slice_get}
use Rattle.std.proofs.lemmas.Option.{slice_get-get_or}
use Rattle.dalvik_state.specs.declared.frame.Frame.{Frame}
use Rattle.dalvik_state.specs.declared.state.Waiting.{Waiting}
use Rattle.dalvik_state.specs.Frames.{GoesOn}
use Rattle.dalvik_state.proofs.Tops.{changes_at, changes_none}
use Rattle.dalvik_state.proofs.top.next_on.Goals as goal

pub returns-then-count-gt0 : goal.returns-then-count-gt0
returns-then-count-gt0 c =
    let entries = c.args.stack.now.items in
    let last = c.len-count.result - 1 in
    let top = c.index_mut.result.now in
    let is : last ≡ length entries - 1 = omega arith in
    let inside : last < length entries = omega arith in
    let there : slice_get entries last ≡ Some top = slice_get-get_or entries last top inside ∙ ap (λ (x : Waiting). Some x) (sym c.index_mut.ensures.value) in
    changes_at (λ (f g : Frame). GoesOn f g f.registers.items) entries last top c.next_in.new.waiting is there c.next_in.ensures

pub returns-else-count-gt0 : goal.returns-else-count-gt0
returns-else-count-gt0 c =
    let none : length c.args.stack.now.items ≤ 0 = omega arith in
    changes_none (λ (f g : Frame). GoesOn f g f.registers.items) c.args.stack.now.items none
