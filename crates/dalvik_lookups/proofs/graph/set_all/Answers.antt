use Rattle.std.proofs.Common.{ap, refl, subst, ◌∙◌, ◌≡◌, get_or, arith, nat_eq}
use Rattle.std.specs.Prelude.{position}
use Rattle.dalvik_lookups.specs.Rows.{set_empty}
use Rattle.dalvik_lookups.proofs.Standing.{set_step, set_long, all_of}
use Rattle.dalvik_lookups.proofs.graph.set_all.Goals as goal

pub loop-number-init : goal.loop-number-init
loop-number-init c = record { size = refl; count = refl; placed = λ none n l. none n }

pub loop-number-preserved : goal.loop-number-preserved
loop-number-preserved c = record {
  size = set_long c.loop-number.places c.set_first.new.places _ c.loop-number.place _ c.set_first.ensures c.loop-number.invariant.size;
  count = omega (arith, c.loop-number.invariant.count);
  placed = λ none n l.
      set_step c.args.numbers.now c.loop-number.places c.set_first.new.places (get_or c.args.numbers.now c.loop-number.number-index 0) c.loop-number.number-index n 0
      (subst (λ i. c.set_first.new.places ≡ set_empty c.loop-number.places (get_or c.args.numbers.now c.loop-number.number-index 0) i) c.loop-number.invariant.count c.set_first.ensures) refl c.loop-number-test.true (omega (arith, l, c.loop-number.invariant.size)) (c.loop-number.invariant.placed none n l);
}

pub returns-clause-placed : goal.returns-clause-placed
returns-clause-placed c = λ none n l. c.loop-number.invariant.placed none n l ∙ ap (position (nat_eq n)) (all_of c.args.numbers.now c.args.numbers.now c.loop-number.number-index refl c.loop-number-test.false)
