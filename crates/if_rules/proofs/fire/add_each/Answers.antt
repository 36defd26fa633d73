use Rattle.std.proofs.Common.{◌≡◌, ◌<◌, ◌∙◌, Some, slice_get, length, ap, refl, sym, arith}
use Rattle.std.proofs.lemmas.Option.{slice_get-get_or}
use Rattle.if_rules.proofs.Rounds.{contains_at, left_one, round_none, round_one}
use Rattle.if_rules.proofs.fire.add_each.Goals as goal

pub loop-place-init : goal.loop-place-init
loop-place-init c = (refl, omega arith, omega arith, λ rs formed are is. round_none c.args.program.now c.args.live.now rs c.args.instances.now c.args.added.now c.args.entries.now.items)

pub loop-place-preserved : goal.loop-place-preserved
loop-place-preserved c =
    let inside : c.loop-place.place < length c.args.instances.now = c.loop-place-test.true in
    let within : c.loop-place.place < length c.loop-place.added = omega (arith, inside, c.loop-place.invariant.0, c.requires) in
    let at : slice_get c.args.instances.now c.loop-place.place ≡ Some c.index-instances-place.result = slice_get-get_or c.args.instances.now c.loop-place.place c.index-instances-place.result inside ∙ ap (λ i. Some i) (sym c.index-instances-place.is) in (
      c.note-count.ensures.size ∙ c.loop-place.invariant.0,
      omega (arith, c.note-count.ensures.few, c.loop-place.invariant.1),
      omega (arith, left_one c.loop-place.place c.note-count.result c.loop-place.added c.note-count.new.added _ c.in_ok-one.one refl within c.in_ok-one.ensures.fresh c.note-count.ensures.on c.note-count.ensures.counts c.note-count.ensures.off c.note-count.ensures.none, c.loop-place.invariant.2),
      λ rs formed are is. round_one c.args.program.now c.args.live.now rs c.args.instances.now c.loop-place.place c.loop-place.count c.note-count.result c.args.added.now c.loop-place.added c.note-count.new.added c.args.entries.now.items c.loop-place.entries.items c.add_one.new.entries.items
          c.index-instances-place.result _ c.in_ok-one.one at (is c.index-instances-place.result (contains_at c.args.instances.now c.loop-place.place c.index-instances-place.result at)) refl within (c.in_ok-one.ensures.tells rs formed are)
          c.in_ok-one.ensures.adds c.in_ok-one.ensures.stays c.note-count.ensures.on c.note-count.ensures.counts c.note-count.ensures.off c.note-count.ensures.none (c.loop-place.invariant.3 rs formed are is),
    )
