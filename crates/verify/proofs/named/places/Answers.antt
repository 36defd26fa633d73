use Rattle.std.proofs.Common.{◌∙◌, Some, None, ap, arith}
use Rattle.std.specs.Prelude.{cond}
use Rattle.std.specs.Option.{option_or}
use Rattle.verify.specs.Descriptors.{same_text, number_of, is_class_of}
use Rattle.verify.proofs.Along.{AtPlace, at_place, number_more}
use Rattle.verify.proofs.named.places.Goals as goal

pub loop-class-preserved : goal.loop-class-preserved
loop-class-preserved c =
    let i = c.loop-class.invariant in
    let e = c.saturating_add-at.ensures in
    record {
      at = grind (arith, e, i.at);
      known = λ t.
          let at : AtPlace c.args.program.now.classes c.loop-class.class-index c.class-item.result = at_place c.args.program.now.classes c.as_slice-class-items.result.now c.loop-class.class-index c.class-item.result c.as_slice-class-items.ensures c.class-item.is c.loop-class-test.true in
          number_more (is_class_of c.args.program.now t) c.args.program.now.classes c.loop-class.class-index c.loop-class.at c.class-item.result (number_of c.loop-class.numbers t) (number_of c.give.new.numbers t) at i.at (i.known t)
          (c.in_ok-give.ensures t ∙ ap (λ u. option_or (number_of c.loop-class.numbers t) (cond (same_text u t) (Some c.loop-class.at) None)) c.descriptor.ensures);
    }
