use Rattle.std.proofs.Common.{ℕ, ◌≤◌, List, length, sym, subst, arith}
use Rattle.compact.specs.Packed.{locals}
use Rattle.compact.specs.Placed.{Placed, IsFloor}
use Rattle.compact.proofs.Placing.{top_low}
use Rattle.compact.proofs.Chosen.{meets_used}
use Rattle.compact.proofs.pass.numbers_for.Goals as goal

pub places_of-requires-clause-meets : goal.places_of-requires-clause-meets
places_of-requires-clause-meets c = meets_used c.args.body.now c.args.used.now c.in_ok-clash.clash c.floor_of-floor.result c.requires.used c.in_ok-clash.ensures (omega (arith, c.floor_of-floor.ensures.low, c.locals.ensures))

pub returns : goal.returns
returns c =
    let low : c.in_ok-places.places.top ≤ length c.in_ok-places.places.numbers.items = top_low c.in_ok-clash.clash c.as_slice-2.result.now c.args.used.now c.in_ok-places.places.numbers.items c.in_ok-places.places.top c.in_ok-places.ensures.placed in
    record {
      clash = c.in_ok-clash.clash;
      ties = c.in_ok-ties.ties.items;
      top = c.in_ok-places.places.top;
      is_clash = c.in_ok-clash.ensures;
      are_ties = c.in_ok-ties.ensures.ties;
      ties_long = c.in_ok-ties.ensures.long;
      are_used = c.requires.used;
      placed = subst (λ (t : List (List ℕ)). Placed c.in_ok-clash.clash t c.args.used.now c.in_ok-places.places.numbers.items c.in_ok-places.places.top) c.as_slice-2.ensures.value c.in_ok-places.ensures.placed;
      is_floor = subst (λ n. IsFloor c.in_ok-ties.ties.items (locals c.args.body.now) n) (sym c.in_ok-places.ensures.long)
          (subst (λ n. IsFloor c.in_ok-ties.ties.items n c.floor_of-floor.result) c.locals.ensures (subst (λ (t : List (List ℕ)). IsFloor t c.locals.result c.floor_of-floor.result) c.as_slice.ensures.value c.floor_of-floor.ensures));
      fits = low;
      is_shift = omega (arith, low, c.in_ok-places.ensures.long);
    }
