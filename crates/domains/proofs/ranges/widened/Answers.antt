use Rattle.std.proofs.Common.{◌≡◌, arith, rules, subst, sym}
use Rattle.std.specs.Prelude.{FitsSigned}
use mir.Val.{to_z, of_z}
use Rattle.std.specs.Int.{w32}
use Rattle.std.proofs.lemmas.Int.{ints}
use Rattle.domains.specs.Ranges.{AreWords, Bounds, Widens, range_widened, range_widens}
use Rattle.domains.proofs.ranges.widened.Goals as goal

pub returns-else-is_empty-2-clause-widens : goal.returns-else-is_empty-2-clause-widens
returns-else-is_empty-2-clause-widens c =
    let al : FitsSigned w32 c.a.inside.low = search rules in
    let ah : FitsSigned w32 c.a.inside.high = search rules in
    let bl : FitsSigned w32 c.b.inside.low = search rules in
    let bh : FitsSigned w32 c.b.inside.high = search rules in
    let a : AreWords c.args.a = rw (← c.a.view_is) (record { from_first = omega (arith, ints); to_last = omega (arith, ints) }) in
    let b : AreWords c.args.b = rw (← c.b.view_is) (record { from_first = omega (arith, ints); to_last = omega (arith, ints) }) in
    let w : Bounds = record { low = to_z w32 (of_z w32 c.moved_low.result); high = to_z w32 (of_z w32 c.moved_high.result) } in
    let e : w ≡ range_widened c.args.a c.args.b = search rules in
    subst (Widens c.args.a c.args.b) (sym e) (range_widens c.args.a c.args.b a b)
