use Rattle.std.proofs.Common.{◌≡◌, ◌∙◌, ℕ, refl, sym, ap, subst, length, slice_index, replicate}
use Rattle.std.specs.FinMap as finite
use Rattle.class_defs.specs.Places.{super_place}
use Rattle.hierarchy.specs.Splitting.{TellsAll, map_of}
use Rattle.hierarchy.proofs.AlongOrder.{got_index}
use Rattle.hierarchy.proofs.Splits.{maps_none, maps_more, maps_all, above_tells}
use Rattle.hierarchy.proofs.split.hidden_maps.Goals as goal

pub loop-class-init : goal.loop-class-init
loop-class-init c = λ rows ups long o. maps_none c.args.program.now c.args.keys.now c.args.special.now (length c.args.program.now.classes) c.args.order.now c.in_ok-maps.maps.items
    (c.in_ok-maps.ensures ∙ ap (λ n. replicate n finite.empty) long)

pub loop-class-preserved : goal.loop-class-preserved
loop-class-preserved c = λ rows ups long o.
    let x : ℕ = slice_index c.args.order.now c.loop-class.class-index in
    let here = got_index c.args.order.now c.loop-class.class-index c.loop-class-test.true in
    let f = c.loop-class.invariant rows ups long o in
    let above : c.in_ok-above.above ≡ map_of c.loop-class.maps.items (super_place c.args.program.now x) = c.in_ok-above.ensures ∙ ap (λ l. map_of l c.read.result) c.as_slice.ensures.value ∙ ap (map_of c.loop-class.maps.items) (c.read.ensures ∙ ups x) in
    maps_more c.args.program.now c.args.keys.now c.args.special.now c.args.supers.now rows c.args.order.now ups long o c.loop-class.maps.items c.set_map.new.maps.items c.loop-class.class-index x c.in_ok-map.map here c.set_map.ensures
    (c.in_ok-map.ensures (super_place c.args.program.now x) refl
    (subst (TellsAll c.args.program.now c.args.keys.now c.args.special.now (super_place c.args.program.now x)) (sym above)
    (above_tells c.args.program.now c.args.keys.now c.args.special.now c.args.supers.now rows c.args.order.now ups long o c.loop-class.maps.items c.loop-class.class-index x here f))) f

pub returns : goal.returns
returns c = λ rows ups long o. maps_all c.args.program.now c.args.keys.now c.args.special.now c.args.supers.now rows c.args.order.now ups long o c.loop-class.maps.items c.loop-class.class-index c.loop-class-test.false (c.loop-class.invariant rows ups long o)
