-- Values and registers in order.
use Rattle.std.proofs.Common.{ℕ, ◌+◌, Bool, true, false, Option, Some, None, sym, subst, arith}
use Rattle.std.specs.Prelude.{if◌then◌else◌, ◌==◌}
use Rattle.std.specs.FinMap as finite
use Rattle.std.proofs.lemmas.Int.{ints}
use Rattle.std.specs.Option.{unwrap_or}
use Rattle.domains.specs.Datum.{Datum, Plain, Single, Double, Object, Within}
use Rattle.domains.specs.Values.{Parts, value_holds, any_value, least_value}
use Rattle.domains.specs.ValueLaws.{of_nothing_at_all}
use Rattle.pat_map.specs.Trees.{BelowAt}
use Rattle.pat_map.specs.Trees as maps
use Rattle.dom_frame.specs.Registers.{Registers, value_at, put, put_sized}
use Rattle.dom_frame.proofs.Reading.{value_put}
use Rattle.closed_facts.specs.Tables.{IsBelow, AreBelow}

pub same_below : (x : Parts) → IsBelow x x
same_below x d h = h

pub below_trans : (x y z : Parts) → IsBelow x y → IsBelow y z → IsBelow x z
below_trans x y z f g d h = g d (f d h)

any_holds : (d : Datum) → value_holds any_value d
any_holds (Plain (Single w)) = ((tt, (omega (arith, ints), omega (arith, ints))), tt)
any_holds (Plain (Double w)) = (tt, tt)
any_holds (Object c) = (tt, tt)

pub below_any : (x : Parts) → IsBelow x any_value
below_any x d h = any_holds d

pub below_all_trans : (x y z : Registers) → AreBelow x y → AreBelow y z → AreBelow x z
below_all_trans x y z f g r d h = g r d (f r d h)

at_below : (a b : Option Parts) → BelowAt (Within value_holds) a b → (d : Datum) → value_holds (unwrap_or a least_value) d → value_holds (unwrap_or b least_value) d
at_below None b h d e = absurd (of_nothing_at_all d e)
at_below (Some v) None h d e = absurd h
at_below (Some v) (Some w) h d e = h d e

-- maps in order are registers in order
pub are_below : (x y : Registers) → maps.IsBelow (Within value_holds) x y → AreBelow x y
are_below x y h r d e = at_below (finite.get x r) (finite.get y r) (h r) d e

-- a register that is written holds more where more is written
put_below : (to : ℕ) (v w : Parts) (x y : Registers) → IsBelow v w → AreBelow x y → AreBelow (put to v x) (put to w y)
put_below to v w x y below h r = subst (λ a. IsBelow a (value_at (put to w y) r)) (sym (value_put to v x r)) (subst (λ b. IsBelow (if r == to then v else value_at x r) b) (sym (value_put to w y r)) (by (r == to)))
  where
    by : (b : Bool) → IsBelow (if b then v else value_at x r) (if b then w else value_at y r)
    by true = below
    by false = h r

pub put_sized_below : (wide : Bool) (to : ℕ) (x : Registers) (v w : Parts) → IsBelow v w → AreBelow (put_sized wide to v x) (put_sized wide to w x)
put_sized_below true to x v w h = put_below (to + 1) any_value any_value (put to v x) (put to w x) (same_below any_value) (put_below to v w x x h (λ r d e. e))
put_sized_below false to x v w h = put_below to v w x x h (λ r d e. e)
