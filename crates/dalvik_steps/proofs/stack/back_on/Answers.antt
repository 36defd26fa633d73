use Rattle.std.proofs.Common.{◌≡◌, ◌≤◌, ◌<◌, ◌-◌, length, arith, sym, ◌∙◌, ap}
use Rattle.std.specs.Prelude.{Some, slice_get}
use Rattle.std.proofs.lemmas.Option.{slice_get-get_or}
use Rattle.dalvik_state.specs.declared.state.Waiting.{Waiting}
use Rattle.dalvik_state.proofs.Tops.{changes_at, changes_none}
use Rattle.dalvik_steps.specs.Backs.{Backs}
use Rattle.dalvik_steps.proofs.stack.back_on.Goals as goal

pub returns-then-count-gt0 : goal.returns-then-count-gt0
returns-then-count-gt0 c =
    let entries = c.args.stack.now.items in
    let last = c.len-count.result - 1 in
    let top = c.index_mut.result.now in
    let is : last ≡ length entries - 1 = omega arith in
    let inside : last < length entries = omega arith in
    let there : slice_get entries last ≡ Some top = slice_get-get_or entries last top inside ∙ ap (λ (x : Waiting). Some x) (sym c.index_mut.ensures.value) in
    changes_at (Backs c.args.value) entries last top c.back_in.new.waiting is there c.back_in.ensures

pub returns-else-count-gt0 : goal.returns-else-count-gt0
returns-else-count-gt0 c =
    let none : length c.args.stack.now.items ≤ 0 = omega arith in
    changes_none (Backs c.args.value) c.args.stack.now.items none
