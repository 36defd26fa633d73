use Rattle.std.proofs.Common.{◌≡◌, ◌≤◌, ◌<◌, length, arith, refl, sym, ◌∙◌, ap, true}
use Rattle.std.specs.Prelude.{Some, slice_get}
use Rattle.std.proofs.lemmas.Option.{slice_get-get_or}
use Rattle.dalvik_state.specs.declared.world.Exposed.{Exposed}
use Rattle.dalvik_state.proofs.Heaps.{printed_there, printed_past}
use Rattle.dalvik_state.proofs.world.mark_printed.Goals as goal

pub returns-then-place-len-clause-exposed : goal.returns-then-place-len-clause-exposed
returns-then-place-len-clause-exposed c =
    let es = c.args.exposed.now.items in
    let one = c.index_mut.result.now in
    let inside : c.args.place < length es = omega arith in
    let there : slice_get es c.args.place ≡ Some one = slice_get-get_or es c.args.place one inside ∙ ap (λ (x : Exposed). Some x) (sym c.index_mut.ensures.value) in
    printed_there es c.args.place one (record one { printed = true }) there refl refl

pub returns-else-place-len-clause-exposed : goal.returns-else-place-len-clause-exposed
returns-else-place-len-clause-exposed c =
    let past : length c.args.exposed.now.items ≤ c.args.place = omega arith in
    sym (printed_past c.args.exposed.now.items c.args.place past)
