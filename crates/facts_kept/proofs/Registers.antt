-- Registers that are written are the same functions, by number and by names.
use Rattle.std.proofs.Common.{◌≡◌, ℕ, ◌+◌, Bool, true, false, Option, Some, None, refl, sym, ap, ◌∙◌}
use std.Path.{fun_ext}
use Rattle.std.specs.Option.{option_map}
use Rattle.insn_set.specs.declared.ops.Slot.{Slot}
use Rattle.insn_set.specs.declared.ops.Slot.TheVariants as slot
use Rattle.domains.specs.Values.{Parts, any_value}
use Rattle.dom_frame.specs.Registers as number
use Rattle.dom_frame.specs.Registers.{Registers, value_at}
use Rattle.dom_frame.proofs.Reading.{value_put}
use Rattle.pass_defs.specs.Analysis.{Analysis}
use Rattle.run_facts.specs.Closed as name
use Rattle.facts_kept.specs.Names.{values_of}

module _ (a : Analysis Parts) (any : a.any ≡ any_value) where
  pub put_same : (to : ℕ) (v : Parts) (x : Registers) → name.put a to v (values_of x) ≡ values_of (number.put to v x)
  put_same to v x = fun_ext (λ r. sym (value_put to v x r))

  pub wide_same : (to : ℕ) (v : Parts) (x : Registers) → name.put_wide a to v (values_of x) ≡ values_of (number.put_wide to v x)
  wide_same to v x = ap (λ f. name.put a (to + 1) a.any f) (put_same to v x) ∙ ap (λ w. name.put a (to + 1) w (values_of (number.put to v x))) any ∙ put_same (to + 1) any_value (number.put to v x)

  pub sized_same : (wide : Bool) (to : ℕ) (v : Parts) (x : Registers) → name.put_sized a wide to v (values_of x) ≡ values_of (number.put_sized wide to v x)
  sized_same true to v x = wide_same to v x
  sized_same false to v x = put_same to v x

  both_moved : (to from : ℕ) (x : Registers) → name.put a (to + 1) (value_at x (from + 1)) (name.put a to (value_at x from) (values_of x)) ≡ values_of (number.put (to + 1) (value_at x (from + 1)) (number.put to (value_at x from) x))
  both_moved to from x = ap (name.put a (to + 1) (value_at x (from + 1))) (put_same to (value_at x from) x) ∙ put_same (to + 1) (value_at x (from + 1)) (number.put to (value_at x from) x)

  pub moved_same : (s : Slot) (to from : ℕ) (x : Registers) → name.moved a s to from (values_of x) ≡ values_of (number.moved s to from x)
  moved_same slot.Wide to from x = both_moved to from x
  moved_same s to from x = put_same to (value_at x from) x

  -- ---- where an operation answers

  abbrev pub Alike : Option (ℕ → Parts) → Option Registers → Type 0
  Alike o q = o ≡ option_map values_of q

  pub refined_same : (r : ℕ) (o : Option Parts) (x : Registers) → Alike (name.refined a r o (values_of x)) (number.refined r o x)
  refined_same r None x = refl
  refined_same r (Some v) x = ap Some (put_same r v x)

  pub refined_both_same : (r s : ℕ) (o : Option (Parts × Parts)) (x : Registers) → Alike (name.refined_both a r s o (values_of x)) (number.refined_both r s o x)
  refined_both_same r s None x = refl
  refined_both_same r s (Some v) x = ap Some (ap (name.put a s v.1) (put_same r v.0 x) ∙ put_same s v.1 (number.put r v.0 x))

  pub then_same : (wide : Bool) (to : ℕ) (v : Parts) (o : Option (ℕ → Parts)) (q : Option Registers) → Alike o q → Alike (name.then_put a wide to v o) (number.then_put wide to v q)
  then_same wide to v o None e = ap (name.then_put a wide to v) e
  then_same wide to v o (Some x) e = ap (name.then_put a wide to v) e ∙ ap Some (sized_same wide to v x)

  -- the value of an operation, where it answers, in a register
  pub answered_same : (wide : Bool) (to : ℕ) (o : Option Parts) (x : Registers) → Alike (option_map (λ v. name.put_sized a wide to v (values_of x)) o) (option_map (λ v. number.put_sized wide to v x) o)
  answered_same wide to None x = refl
  answered_same wide to (Some v) x = ap Some (sized_same wide to v x)
