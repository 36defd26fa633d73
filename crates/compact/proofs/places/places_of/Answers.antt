use Rattle.std.proofs.Common.{ℕ, List, length, sym, ap, subst, arith}
use Rattle.compact.specs.Placed.{Placed}
use Rattle.compact.proofs.Placing.{placed_none}
use Rattle.compact.proofs.places.places_of.Goals as goal

pub runs-init : goal.runs-init
runs-init c = record {
  within = omega (arith, ap length c.in_ok-with_capacity.ensures.items);
  placed = subst (λ (l : List ℕ). Placed c.args.clash.now c.args.ties.now c.args.used.now l 0) (sym c.in_ok-with_capacity.ensures.items) (placed_none c.args.clash.now c.args.ties.now c.args.used.now);
}
