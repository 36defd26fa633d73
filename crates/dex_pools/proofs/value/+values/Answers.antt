use Rattle.std.proofs.Common.{◌≡◌, ◌/◌, ◌%◌, true, rules, arith}
use Rattle.std.proofs.lemmas.Grind.{common_steps}
use Rattle.std.proofs.lemmas.Result.{err_from_is_err_and}
use Rattle.dex_pools.specs.Value.{is_within, most_argument, value_at}
use Rattle.dex_pools.proofs.Loop.{goes_on, ends}
use Rattle.dex_pools.proofs.Ranges.{array_fits, note_fits_lem}
use Rattle.dex_pools.proofs.Tags.{by_kind}
use Rattle.dex_pools.proofs.value.+values.Goals as goal

pub kind_of-returns-in_ok-values-in-28-clause-range : goal.kind_of-returns-in_ok-values-in-28-clause-range
kind_of-returns-in_ok-values-in-28-clause-range t c = array_fits c.args.sizes c.of_vec.result (rw c.of_vec.ensures c.in_ok-values-in-28.ensures.range)

pub note_of-returns-clause-range : goal.note_of-returns-clause-range
note_of-returns-clause-range t c = note_fits_lem c.args.sizes c.in_ok-class.class c.of_vec-elements.result c.in_ok-class.ensures.below (rw c.of_vec-elements.ensures c.in_ok-elements.ensures.range)

pub tagged_of-returns-clause-gives : goal.tagged_of-returns-clause-gives
tagged_of-returns-clause-gives t c =
    let within : is_within (c.in_ok-tag.tag / 32) (most_argument (c.in_ok-tag.tag % 32)) ≡ true = search rules in
    rw (by_kind (value_at c.args.depth c.args.bytes.now c.args.sizes) c.args.bytes.now c.args.sizes (c.args.at, c.args.left.now) c.in_ok-tag.tag c.in_ok-tag.ensures.gives within) c.kind_of.ensures.gives

pub values_of-returns-in_err-value-clause-gives : goal.values_of-returns-in_err-value-clause-gives
values_of-returns-in_err-value-clause-gives t c =
    let p = err_from_is_err_and c.from_residual.result c.from_residual.ensures.1 in
    rw (p.1, p.2) (ends _ _ _ _ _ _ _ _ c.values.invariant.reads c.values-test.true (c.in_err-value.ensures.gives c.values.counter))

pub values_of-values-preserved : goal.values_of-values-preserved
values_of-values-preserved t c = record {
  reads = goes_on _ _ _ _ _ _ _ _ _ c.values.invariant.reads c.values-test.true (c.in_ok-value.ensures.gives c.values.counter) c.in_ok-push.ensures.items;
  range = grind (arith, common_steps, c.in_ok-value.ensures.range);
  behind = omega (arith, c.in_ok-value.ensures.behind);
  inside = c.in_ok-value.ensures.inside;
}

pub elements_of-returns-in_err-element-clause-gives : goal.elements_of-returns-in_err-element-clause-gives
elements_of-returns-in_err-element-clause-gives t c =
    let p = err_from_is_err_and c.from_residual.result c.from_residual.ensures.1 in
    rw (p.1, p.2) (ends _ _ _ _ _ _ _ _ c.elements.invariant.reads c.elements-test.true (c.in_err-element.ensures.gives c.elements.counter))

pub elements_of-elements-preserved : goal.elements_of-elements-preserved
elements_of-elements-preserved t c = record {
  reads = goes_on _ _ _ _ _ _ _ _ _ c.elements.invariant.reads c.elements-test.true (c.in_ok-element.ensures.gives c.elements.counter) c.in_ok-push.ensures.items;
  sized = grind (arith, common_steps, c.in_ok-push.ensures.items);
  range = grind (arith, common_steps, c.in_ok-element.ensures.range);
  behind = omega (arith, c.in_ok-element.ensures.behind);
  inside = c.in_ok-element.ensures.inside;
}
