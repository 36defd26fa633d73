use Rattle.std.proofs.Common.{◌≡◌, ap, subst, length, arith}
use Rattle.call_targets.specs.Adding.{AddsBy}
use Rattle.call_targets.specs.Following.{OfMade}
use Rattle.call_targets.proofs.Contained.{at_place}
use Rattle.call_targets.proofs.Following.{places_none, places_at, places_all}
use Rattle.call_targets.proofs.made.follow_made.Goals as goal

pub loop-place-init : goal.loop-place-init
loop-place-init c = record { open_walks = λ is. c.in_ok-walks.ensures is; adds = λ is few object. places_none c.args.at.now.program.now c.args.tables.now c.args.made.now c.args.targets.now }

pub loop-place-preserved : goal.loop-place-preserved
loop-place-preserved c = record {
  open_walks = λ is. c.in_ok-follow_place.ensures.open_walks is (c.loop-place.invariant.open_walks is);
  adds = λ is few object.
      let p = c.args.at.now.program.now in
      let slice = c.as_slice-class-items.result.now in
      let long = ap length c.as_slice-class-items.ensures in
      let word : c.word.result ≡ c.loop-place.place = c.word.ensures (omega (arith, c.loop-place-test.true, long, few)) in
      places_at p c.args.tables.now c.args.made.now c.args.targets.now c.loop-place.targets c.follow_place.new.targets c.loop-place.place c.class-item.result
      (at_place p.classes slice c.loop-place.place c.class-item.result c.as_slice-class-items.ensures c.class-item.is c.loop-place-test.true).got (c.loop-place.invariant.adds is few object)
      (subst (λ n. AddsBy (OfMade p c.args.tables.now c.args.made.now n c.class-item.result.name) c.loop-place.targets c.follow_place.new.targets) word (c.in_ok-follow_place.ensures.adds is object (c.loop-place.invariant.open_walks is)));
}

pub returns : goal.returns
returns c = λ is few object. places_all c.args.at.now.program.now c.args.tables.now c.args.made.now c.args.targets.now c.loop-place.targets c.loop-place.place (let l = c.loop-place-test.false in let e = ap length c.as_slice-class-items.ensures in omega (arith, l, e)) (c.loop-place.invariant.adds is few object)
