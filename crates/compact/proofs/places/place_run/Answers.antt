use Rattle.std.proofs.Common.{ℕ, List, length, length-append, ap, sym, subst, arith}
use Rattle.compact.specs.Placed.{Placed, IsTop, IsRun, counted}
use Rattle.compact.proofs.Placing.{placed_more, length-counted}
use Rattle.compact.proofs.places.place_run.Goals as goal

pub returns-clause-within : goal.returns-clause-within
returns-clause-within c = omega (arith, ap length c.in_ok-add_run.ensures.numbers, length-append c.args.places.now.numbers.items (counted c.in_ok-number.number c.run_from-size.result), length-counted c.in_ok-number.number c.run_from-size.result, c.run_from-size.ensures.within)

pub returns-clause-more : goal.returns-clause-more
returns-clause-more c = omega (arith, ap length c.in_ok-add_run.ensures.numbers, length-append c.args.places.now.numbers.items (counted c.in_ok-number.number c.run_from-size.result), length-counted c.in_ok-number.number c.run_from-size.result, c.run_from-size.ensures.some)

pub returns-clause-placed : goal.returns-clause-placed
returns-clause-placed c = subst (λ (l : List ℕ). Placed c.args.clash.now c.args.ties.now c.args.used.now l c.add_run.new.places.top) (sym c.in_ok-add_run.ensures.numbers)
    (placed_more c.args.clash.now c.args.ties.now c.args.used.now c.args.places.now.numbers.items c.args.places.now.top c.add_run.new.places.top c.in_ok-number.number c.run_from-size.result c.args.floor c.requires.placed (subst (λ n. IsRun c.args.ties.now n c.args.floor c.run_from-size.result) (omega (arith, c.len.ensures)) c.run_from-size.ensures) c.requires.meets
    c.in_ok-number.ensures.short c.in_ok-number.ensures.clear c.in_ok-number.ensures.least
    (subst (λ (l : List ℕ). IsTop c.args.used.now l c.add_run.new.places.top) c.in_ok-add_run.ensures.numbers (c.in_ok-add_run.ensures.top c.requires.placed.is_top)))
