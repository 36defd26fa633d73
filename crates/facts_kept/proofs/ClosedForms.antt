-- What a form leaves in registers, by names, is what its instruction leaves, by number.
use Rattle.std.proofs.Common.{◌≡◌, ℕ, ◌<◌, Bool, true, false, List, [], ◌∷◌, length, Option, Some, refl, ap, ◌∙◌}
use Rattle.std.specs.Option.{option_map}
use Rattle.insn_set.specs.Widths.{binary_is_wide, is_wide_item, unary_writes_wide}
use Rattle.insn_set.specs.declared.form.Insn.{Insn}
use Rattle.insn_set.specs.declared.form.Insn.TheVariants as insn
use Rattle.insn_set.specs.declared.ops.InvokeKind.{InvokeKind}
use Rattle.insn_set.specs.declared.ops.InvokeKind.TheVariants as call
use Rattle.insn_set.specs.declared.ops.Item.{Item}
use Rattle.program_model.specs.OperandRules.{numbers_fit}
use Rattle.program_model.specs.declared.program.Program.{Program}
use Rattle.class_defs.specs.ClassGraph.{IsTwice}
use Rattle.class_defs.proofs.WellFormed.{Sound, below}
use Rattle.dalvik_defs.specs.Names.{object_type}
use Rattle.dalvik_defs.specs.Naming.{field_at, form_of, named, type_at}
use Rattle.dalvik_defs.specs.Under.{defines}
use Rattle.domains.specs.Values.{Parts, any_value}
use Rattle.value_ops.specs.Left.{goes_on, held_value}
use Rattle.value_ops.specs.Numbers.{binary_value, literal_value}
use Rattle.dom_frame.specs.Registers as number
use Rattle.dom_frame.specs.Registers.{Registers, value_at}
use Rattle.dom_frame.specs.Steps as step
use Rattle.run_facts.specs.Closed as name
use Rattle.pass_defs.specs.Facts.{Facts}
use Rattle.pass_defs.specs.Typed.{receiver_register}
use Rattle.facts_kept.specs.Names.{values, values_of}
use Rattle.facts_kept.proofs.Registers.{Alike, moved_same, put_same, sized_same, wide_same, refined_same, then_same, answered_same}
use Rattle.facts_kept.proofs.Values.{cast_same, held_same, made_same}

-- a form of which `after` tells all: no branch, and none that takes a result
abbrev pub IsPlain : Insn → Type 0
IsPlain (insn.MoveResult slot to) = ⊥
IsPlain (insn.Goto target) = ⊥
IsPlain (insn.PackedSwitch on first targets) = ⊥
IsPlain (insn.SparseSwitch on keys targets) = ⊥
IsPlain (insn.If test a b target) = ⊥
IsPlain (insn.IfZero test a target) = ⊥
IsPlain i = Unit {0}

module _ (p : Program) where
  receiver_same : (args : List ℕ) → receiver_register args ≡ step.receiver args
  receiver_same [] = refl
  receiver_same (r ∷ rs) = refl

  -- a register that was used as an object
  pub used_same : (r : ℕ) (x : Registers) → Alike (values p) refl (name.refined (values p) r ((values p).held (value_at x r)) (values_of x)) (step.used r x)
  used_same r x = ap (λ o. name.refined (values p) r o (values_of x)) (held_same (value_at x r)) ∙ refined_same (values p) refl r (goes_on (held_value (value_at x r))) x

  used_on : (args : List ℕ) (x : Registers) → Alike (values p) refl (name.refined (values p) (receiver_register args) ((values p).held (value_at x (receiver_register args))) (values_of x)) (step.used (step.receiver args) x)
  used_on args x = used_same (receiver_register args) x ∙ ap (λ r. option_map values_of (step.used r x)) (receiver_same args)

  called_same : (kind : InvokeKind) (args : List ℕ) (x : Registers) → Alike (values p) refl (name.called (values p) kind args (values_of x)) (step.called kind args x)
  called_same call.Static args x = refl
  called_same kind args x = used_on args x

  -- an array's item, a length and a field's value, behind a use
  behind_use : (wide : Bool) (to r : ℕ) (v : Parts) (x : Registers)
      → Alike (values p) refl (name.then_put (values p) wide to v (name.refined (values p) r ((values p).held (value_at x r)) (values_of x))) (number.then_put wide to v (step.used r x))
  behind_use wide to r v x = then_same (values p) refl wide to v (name.refined (values p) r ((values p).held (value_at x r)) (values_of x)) (step.used r x) (used_same r x)

  with_word : (to : ℕ) (o : Option Parts) (x : Registers) → Alike (values p) refl (option_map (λ v. name.put (values p) to v (values_of x)) o) (option_map (λ v. number.put to v x) o)
  with_word to o x = answered_same (values p) refl false to o x

  module _ (s : Sound p) (once : (class : ℕ) → IsTwice p class → ⊥) (no_object : defines (named p) object_type ≡ false) (t : Facts Parts) (given : Insn → Parts) where
    -- the types that an instruction names are of the table
    cast_low : (on kind : ℕ) → numbers_fit (insn.CheckCast on kind) p ≡ true → kind < length p.types
    unfolding numbers_fit
    cast_low on kind h = below kind (length p.types) h

    new_low : (to kind : ℕ) → numbers_fit (insn.NewInstance to kind) p ≡ true → kind < length p.types
    unfolding numbers_fit
    new_low to kind h = below kind (length p.types) h

    array_low : (to size kind : ℕ) → numbers_fit (insn.NewArray to size kind) p ≡ true → kind < length p.types
    unfolding numbers_fit
    array_low to size kind h = below kind (length p.types) h

    made_in : (to kind : ℕ) → kind < length p.types → (x : Registers) → Alike (values p) refl (Some (name.put (values p) to ((values p).made (type_at p kind)) (values_of x))) (step.made p to kind x)
    made_in to kind low x = ap (λ v. Some (name.put (values p) to v (values_of x))) (made_same p s kind low) ∙ ap Some (put_same (values p) refl to _ x)

    -- what is got is what the facts by names say of the field
    abbrev pub Gets : Type 0
    Gets = ((i : Item) (to on field : ℕ) → numbers_fit (insn.InstanceGet i to on field) p ≡ true → name.field_value (values p) (named p) t (field_at p field) ≡ given (insn.InstanceGet i to on field))
        × ((i : Item) (to field : ℕ) → numbers_fit (insn.StaticGet i to field) p ≡ true → name.field_value (values p) (named p) t (field_at p field) ≡ given (insn.StaticGet i to field))

    pub after_same : Gets → (i : Insn) → IsPlain i → numbers_fit i p ≡ true → (x : Registers) → Alike (values p) refl (name.after (values p) (named p) t (form_of p i) (values_of x)) (step.after p i (given i) x)
    after_same gets insn.Nop h fits x = refl
    after_same gets (insn.Move slot to from) h fits x = ap Some (moved_same (values p) refl slot to from x)
    after_same gets (insn.MoveResult slot to) h fits x = absurd h
    after_same gets (insn.MoveException to) h fits x = ap Some (put_same (values p) refl to _ x)
    after_same gets insn.ReturnVoid h fits x = refl
    after_same gets (insn.Return slot from) h fits x = refl
    after_same gets (insn.Const to value) h fits x = ap Some (put_same (values p) refl to _ x)
    after_same gets (insn.ConstWide to value) h fits x = ap Some (wide_same (values p) refl to _ x)
    after_same gets (insn.ConstString to string) h fits x = ap Some (put_same (values p) refl to _ x)
    after_same gets (insn.ConstClass to kind) h fits x = ap Some (put_same (values p) refl to _ x)
    after_same gets (insn.MonitorEnter on) h fits x = used_same on x
    after_same gets (insn.MonitorExit on) h fits x = used_same on x
    after_same gets (insn.CheckCast on kind) h fits x = ap (λ v. Some (name.put (values p) on v (values_of x))) (cast_same p s once no_object kind (cast_low on kind fits) (value_at x on)) ∙ ap Some (put_same (values p) refl on _ x)
    after_same gets (insn.InstanceOf to from kind) h fits x = ap Some (put_same (values p) refl to _ x)
    after_same gets (insn.ArrayLength to from) h fits x = behind_use false to from _ x
    after_same gets (insn.NewInstance to kind) h fits x = made_in to kind (new_low to kind fits) x
    after_same gets (insn.NewArray to size kind) h fits x = made_in to kind (array_low to size kind fits) x
    after_same gets (insn.FilledNewArray kind args) h fits x = refl
    after_same gets (insn.FillArray on width items) h fits x = used_same on x
    after_same gets (insn.Throw on) h fits x = refl
    after_same gets (insn.Goto target) h fits x = absurd h
    after_same gets (insn.PackedSwitch on first targets) h fits x = absurd h
    after_same gets (insn.SparseSwitch on keys targets) h fits x = absurd h
    after_same gets (insn.Cmp op to a b) h fits x = ap Some (put_same (values p) refl to _ x)
    after_same gets (insn.If test a b target) h fits x = absurd h
    after_same gets (insn.IfZero test a target) h fits x = absurd h
    after_same gets (insn.ArrayGet item to array index) h fits x = behind_use (is_wide_item item) to array any_value x
    after_same gets (insn.ArrayPut item from array index) h fits x = used_same array x
    after_same gets (insn.InstanceGet item to on field) h fits x =
        ap (λ v. name.then_put (values p) (is_wide_item item) to v (name.refined (values p) on ((values p).held (value_at x on)) (values_of x))) (gets.0 item to on field fits)
        ∙ behind_use (is_wide_item item) to on (given (insn.InstanceGet item to on field)) x
    after_same gets (insn.InstancePut item from on field) h fits x = used_same on x
    after_same gets (insn.StaticGet item to field) h fits x =
        ap (λ v. Some (name.put_sized (values p) (is_wide_item item) to v (values_of x))) (gets.1 item to field fits)
        ∙ ap Some (sized_same (values p) refl (is_wide_item item) to (given (insn.StaticGet item to field)) x)
    after_same gets (insn.StaticPut item from field) h fits x = refl
    after_same gets (insn.Invoke kind method args) h fits x = called_same kind args x
    after_same gets (insn.Unary op to from) h fits x = ap Some (sized_same (values p) refl (unary_writes_wide op) to _ x)
    after_same gets (insn.Binary op to a b) h fits x = answered_same (values p) refl (binary_is_wide op) to (binary_value op (value_at x a) (value_at x b)) x
    after_same gets (insn.Literal op to a value) h fits x = with_word to (literal_value op (value_at x a) value) x
