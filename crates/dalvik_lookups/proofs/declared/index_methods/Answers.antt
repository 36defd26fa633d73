use Rattle.std.proofs.Common.{◌≡◌, ◌∙◌}
use Rattle.dalvik_lookups.specs.Declaring.{found_in, method_key, method_row}
use Rattle.dalvik_lookups.proofs.Indexed.{AtPlace, at_place, class_more, row_short}
use Rattle.dalvik_lookups.proofs.declared.index_methods.Goals as goal

pub loop-place-preserved : goal.loop-place-preserved
loop-place-preserved c = λ few.
    let at : AtPlace c.args.program.now.classes c.loop-place.place c.class-item.result = at_place c.args.program.now.classes c.as_slice-class-items.result.now c.loop-place.place c.class-item.result c.as_slice-class-items.ensures c.class-item.is c.loop-place-test.true in
    let is : c.as_slice.result.now ≡ method_row c.args.program.now c.args.strings.now c.args.protos.now c.class-item.result = c.as_slice.ensures.value ∙ c.in_ok-keys.ensures in
    class_more (method_row c.args.program.now c.args.strings.now c.args.protos.now) c.args.program.now.classes c.loop-place.place c.word.result c.class-item.result c.as_slice.result.now (found_in c.loop-place.index) (found_in c.add_class.new.self) few.classes at c.word.ensures is
    (c.loop-place.invariant few)
    (c.in_ok-add_class.ensures (row_short (λ k. k.methods) (method_key c.args.program.now c.args.strings.now c.args.protos.now) c.args.program.now.classes c.loop-place.place c.class-item.result c.as_slice.result.now few at is))
