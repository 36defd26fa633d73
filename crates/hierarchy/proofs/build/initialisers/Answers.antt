use Rattle.std.proofs.Common.{◌∙◌, ap, Some}
use Rattle.class_defs.specs.Starts.{initialiser_of}
use Rattle.hierarchy.specs.Starting.{place_or_none}
use Rattle.hierarchy.proofs.Indexed.{AtPlace, at_place, mapped_more}
use Rattle.hierarchy.proofs.build.initialisers.Goals as goal

pub loop-class-preserved : goal.loop-class-preserved
loop-class-preserved c = λ few.
    let at : AtPlace c.args.program.now.classes c.loop-class.class-index c.class-item.result = at_place c.args.program.now.classes c.as_slice-class-items.result.now c.loop-class.class-index c.class-item.result c.as_slice-class-items.ensures c.class-item.is c.loop-class-test.true in
    mapped_more (λ k. place_or_none (initialiser_of c.args.program.now (Some k))) c.args.program.now.classes c.as_slice-class-items.result.now c.loop-class.class-index c.class-item.result c.loop-class.places.items c.push.new.self.items c.place_or_none.result
    c.as_slice-class-items.ensures c.class-item.is c.loop-class-test.true c.in_ok-push.ensures.items (c.place_or_none.ensures ∙ ap place_or_none (c.initialiser.ensures (few c.loop-class.class-index c.class-item.result at.got))) (c.loop-class.invariant few)
