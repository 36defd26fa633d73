-- Registers that hold nothing past a count.
use Rattle.std.proofs.Common.{◌≡◌, ℕ, zero, suc, ◌+◌, ◌<◌, ◌≤◌, Bool, true, false, Option, Some, None, inl, inr, refl, sym, ◌∙◌, subst, arith, eqb-true, ltb-true}
use Rattle.std.specs.Prelude.{if◌then◌else◌, ◌==◌, nat_lt}
use Rattle.std.specs.Option.{option_map}
use Rattle.std.proofs.lemmas.Bool.{cases_lt, eqb-false}
use Rattle.std.proofs.lemmas.Int.{ints}
use Rattle.insn_set.specs.declared.ops.Slot.{Slot}
use Rattle.insn_set.specs.declared.ops.Slot.TheVariants as slot
use Rattle.insn_set.specs.Widths.{is_wide_slot}
use Rattle.program_model.specs.OperandRules.{has_room}
use Rattle.domains.specs.Datum.{Datum, Plain, Single, Double, Object}
use Rattle.domains.specs.Values.{Parts, value_holds, any_value, least_value}
use Rattle.domains.specs.ValueLaws.{of_nothing_at_all}
use Rattle.dom_frame.specs.Registers.{Registers, value_at, filled, put, put_sized, moved, refined, refined_both, then_put}
use Rattle.dom_frame.proofs.Reading.{value_put, value_none}
use Rattle.closed_facts.specs.Tables.{IsBelow, AreBelow}
use Rattle.vague_facts.specs.Vague.{anything}

any_holds : (d : Datum) → value_holds any_value d
any_holds (Plain (Single w)) = ((tt, (omega (arith, ints), omega (arith, ints))), tt)
any_holds (Plain (Double w)) = (tt, tt)
any_holds (Object c) = (tt, tt)

pub below_any : (x : Parts) → IsBelow x any_value
below_any x d h = any_holds d

-- ---- the same value in so many registers

pub filled_low : (n : ℕ) (v : Parts) (r : ℕ) → r < n → value_at (filled n v) r ≡ v
filled_low zero v r lt = absurd (omega (arith, lt))
filled_low (suc n) v r lt = value_put n v (filled n v) r ∙ by (filled_low n v r) (r == n) refl
  where
    by : (r < n → value_at (filled n v) r ≡ v) → (b : Bool) → (r == n) ≡ b → (if b then v else value_at (filled n v) r) ≡ v
    by lower true e = refl
    by lower false e = elim (cases_lt r n) [
      | inl below ↦ lower below
      | inr above ↦ absurd (eqb-false r n e (omega (arith, lt, above)))
    ]

pub filled_high : (n : ℕ) (v : Parts) (r : ℕ) → n ≤ r → value_at (filled n v) r ≡ least_value
filled_high zero v r le = value_none r
filled_high (suc n) v r le = value_put n v (filled n v) r ∙ by (filled_high n v r (omega (arith, le))) (r == n) refl
  where
    by : value_at (filled n v) r ≡ least_value → (b : Bool) → (r == n) ≡ b → (if b then v else value_at (filled n v) r) ≡ least_value
    by lower true e = absurd (let s : r ≡ n = eqb-true r n e in omega (arith, s, le))
    by lower false e = lower

-- ---- nothing past a count

module _ (size : ℕ) where
  abbrev pub Short : Registers → Type 0
  Short x = (r : ℕ) → size ≤ r → value_at x r ≡ least_value

  abbrev pub ShortIf : Option Registers → Type 0
  ShortIf None = Unit {0}
  ShortIf (Some x) = Short x

  pub short_anything : Short (anything size)
  short_anything r le = filled_high size any_value r le

  pub below_anything : (x : Registers) → Short x → AreBelow x (anything size)
  below_anything x h r = elim (cases_lt r size) [
    | inl below ↦ subst (IsBelow (value_at x r)) (sym (filled_low size any_value r below)) (below_any (value_at x r))
    | inr above ↦ subst (λ v. IsBelow v (value_at (anything size) r)) (sym (h r above)) (λ d e. absurd (of_nothing_at_all d e))
  ]

  pub any_there : (r : ℕ) → r < size → IsBelow any_value (value_at (anything size) r)
  any_there r lt = subst (IsBelow any_value) (sym (filled_low size any_value r lt)) (below_any any_value)

  pub put_short : (to : ℕ) (v : Parts) (x : Registers) → to < size → Short x → Short (put to v x)
  put_short to v x lt h r le = value_put to v x r ∙ by (r == to) refl
    where
      by : (b : Bool) → (r == to) ≡ b → (if b then v else value_at x r) ≡ least_value
      by true e = absurd (let s : r ≡ to = eqb-true r to e in omega (arith, s, lt, le))
      by false e = h r le

  pub refined_short : (r : ℕ) (o : Option Parts) (x : Registers) → r < size → Short x → ShortIf (refined r o x)
  refined_short r None x lt h = tt
  refined_short r (Some v) x lt h = put_short r v x lt h

  pub both_short : (r q : ℕ) (o : Option (Parts × Parts)) (x : Registers) → r < size → q < size → Short x → ShortIf (refined_both r q o x)
  both_short r q None x lt l h = tt
  both_short r q (Some v) x lt l h = put_short q v.1 (put r v.0 x) l (put_short r v.0 x lt h)

  pub some_put : (to : ℕ) (o : Option Parts) (x : Registers) → to < size → Short x → ShortIf (option_map (λ v. put to v x) o)
  some_put to None x lt h = tt
  some_put to (Some v) x lt h = put_short to v x lt h

  module _ (count : ℕ) (fits : count ≤ size) where
    pub low : (r : ℕ) → nat_lt r count ≡ true → r < size
    low r h = let lt : r < count = ltb-true r count h in omega (arith, lt, fits)

    pub sized_short : (wide : Bool) (to : ℕ) (v : Parts) (x : Registers) → has_room wide to count ≡ true → Short x → Short (put_sized wide to v x)
    sized_short true to v x h s =
        let lt : to + 1 < size = low (to + 1) h in
        put_short (to + 1) any_value (put to v x) lt (put_short to v x (omega (arith, lt)) s)
    sized_short false to v x h s = put_short to v x (low to h) s

    pub then_short : (wide : Bool) (to : ℕ) (v : Parts) (o : Option Registers) → has_room wide to count ≡ true → ShortIf o → ShortIf (then_put wide to v o)
    then_short wide to v None h s = tt
    then_short wide to v (Some x) h s = sized_short wide to v x h s

    pub some_sized : (wide : Bool) (to : ℕ) (o : Option Parts) (x : Registers) → has_room wide to count ≡ true → Short x → ShortIf (option_map (λ v. put_sized wide to v x) o)
    some_sized wide to None x h s = tt
    some_sized wide to (Some v) x h s = sized_short wide to v x h s

    pub moved_short : (s : Slot) (to from : ℕ) (x : Registers) → has_room (is_wide_slot s) to count ≡ true → Short x → Short (moved s to from x)
    moved_short slot.Wide to from x h s =
        let lt : to + 1 < size = low (to + 1) h in
        put_short (to + 1) (value_at x (from + 1)) (put to (value_at x from) x) lt (put_short to (value_at x from) x (omega (arith, lt)) s)
    moved_short slot.Word to from x h s = put_short to (value_at x from) x (low to h) s
    moved_short slot.Object to from x h s = put_short to (value_at x from) x (low to h) s
