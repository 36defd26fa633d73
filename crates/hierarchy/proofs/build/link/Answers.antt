use Rattle.std.proofs.Common.{◌∙◌, ap, map}
use Rattle.hierarchy.specs.Placing.{known_places}
use Rattle.std.specs.Prelude.{slice_index_or}
use Rattle.hierarchy.proofs.Circled.{circled}
use Rattle.hierarchy.proofs.build.link.Goals as goal

pub returns-in-Err-clause-stops : goal.returns-in-Err-clause-stops
returns-in-Err-clause-stops c = λ placed. record {
  table = c.args.places.items;
  is = placed;
  first = circled c.args.program.now c.args.places.items c.as_slice-4.result.now c.in_ok-lists.lists.rows c.as_slice-classes.result.now c.in_ok-order.field-0 c.in-Err.class c.as_slice-classes.ensures
      (c.as_slice-4.ensures.value ∙ c.in_ok-supers.ensures ∙ ap (λ t. map (λ k. slice_index_or t k.superclass 4294967295) c.as_slice-classes.result.now) c.as_slice.ensures.value)
      (c.in_ok-lists.ensures ∙ ap (λ t. map (λ k. known_places t k.interfaces) c.as_slice-classes.result.now) c.as_slice-2.ensures.value) c.in-Err.is c.in_ok-order.ensures.circle;
}
