use Rattle.std.proofs.Common.{refl, ap, ◌∙◌}
use Rattle.dalvik_lookups.specs.Tables.{place_named, AreReady}
use Rattle.dalvik_lookups.proofs.Making.{has_names_stay}
use Rattle.dalvik_lookups.proofs.Declaring.{class_named_in}
use Rattle.dalvik_lookups.proofs.plays.make_of.Goals as goal

pub returns-clause-is : goal.returns-clause-is
returns-clause-is c = λ p w h.
    let r : AreReady c.args.names.now = record { types = h.types; texts = h.texts } in
    let n = has_names_stay p c.args.names.now c.add_type.new.names h (c.in_ok-kind.ensures.grows r) in
    record {
      class = c.args.class.now;
      is = refl;
      found = class_named_in p w c.add_type.new.names n c.in_ok-kind.kind c.units.result.now c.as_slice.result.now c.class_in.result (c.in_ok-kind.ensures.is r) c.as_slice.ensures.value c.class_in.ensures ∙ ap (place_named p) c.units.ensures;
    }
