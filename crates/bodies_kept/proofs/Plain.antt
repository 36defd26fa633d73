-- What a pure form leaves: all other registers hold what they held, but for halves of wides that are gone.
use Rattle.std.proofs.Common.{◌≡◌, ◌⊎◌, inl, inr, ℕ, ◌+◌, Bool, true, false, true≢false, if◌then◌else◌, length, refl, sym, ap, ◌∙◌, subst, arith, nat_eq, eq-eqb}
use Rattle.std.specs.Prelude.{◌&&◌, ◌||◌, not, ℤ, pos, List, [], ◌∷◌}
use Rattle.std.specs.List.{list_all}
use Rattle.std.specs.Ordering.{int_eq}
use Rattle.std.proofs.lemmas.Bool.{eqb-true, or_cases}
use Rattle.lemmas.proofs.Bools.{not_false, or_false_left}
use Rattle.insn_set.specs.Registers.{in_operand}
use Rattle.insn_set.specs.Widths.{is_wide_slot, is_wide_item, unary_writes_wide, binary_is_wide}
use Rattle.insn_set.specs.declared.ops.Slot.{Slot}
use Rattle.insn_set.specs.declared.ops.Slot.TheVariants as slot
use Rattle.insn_set.specs.declared.ops.Item.{Item}
use Rattle.insn_set.specs.declared.ops.Item.TheVariants as item
use Rattle.dalvik_defs.specs.Names.{Text, is_word, is_wide, is_reference, is_array}
use Rattle.dalvik_defs.specs.declared.forms.Form.{Form}
use Rattle.dalvik_defs.specs.declared.forms.Form.TheVariants as form
use Rattle.dalvik_defs.specs.declared.program.NamedClass.{NamedClass}
use Rattle.dalvik_defs.specs.declared.program.NamedMethod.{NamedMethod}
use Rattle.dalvik_defs.specs.declared.program.NamedProgram.{NamedProgram}
use Rattle.pass_defs.specs.Bare.{writes, continues}
use Rattle.pass_defs.specs.Kinds.{Kind, Undefined, Zero, Word, Low, Class, Reference, Array, kind_of, kind_of_reference, is_plain}
use Rattle.pass_defs.specs.Registers.{Kinds, kind_at, written, written_kinds}
use Rattle.pass_defs.specs.Demands.{meets, demands, slot_demand, is_moved, result_fits, place_allowed, is_allowed}
use Rattle.pass_defs.specs.Pure.{is_pure}
use Rattle.pass_defs.specs.Typed.{number_kind, constant_kind, moved, after, wrong_item, wrong_field, wrong_first, is_wrong}
use Rattle.program_laws.proofs.ChangedLists.{and_left}
use Rattle.bodies_kept.proofs.Agreeing.{written_or, written_long}

pub record Keeps (f : Form) (a b : Kinds) : Type 0 where
  pub long : length b.registers ≡ length a.registers
  pub others : (x : ℕ) → writes f x ≡ false → (kind_at b.registers x ≡ kind_at a.registers x) ⊎ (kind_at b.registers x ≡ Undefined)
  pub result : b.result ≡ a.result
  pub caught : b.caught ≡ a.caught
  pub receiver : b.receiver ≡ a.receiver

-- ---- what is no low half

moved_wide : (s : Slot) (k : Kind) → (p : NamedProgram) (c : NamedClass) (ks : List Kind) (r : ℕ) → k ≡ kind_at ks r → meets p c ks r (slot_demand s) ≡ true → moved s k ≡ Low → is_wide_slot s ≡ true
moved_wide slot.Wide k p c ks r d e l = refl
moved_wide slot.Word k p c ks r d e l = absurd (true≢false (sym e ∙ ap is_moved (sym d ∙ l)))
moved_wide slot.Object k p c ks r d e l = absurd (true≢false (sym e ∙ ap is_moved (sym d ∙ l)))

result_wide : (s : Slot) (k : Kind) → result_fits s k ≡ true → k ≡ Low → is_wide_slot s ≡ true
result_wide slot.Wide k e l = refl
result_wide slot.Word k e l = absurd (true≢false (sym e ∙ ap (result_fits slot.Word) l))
result_wide slot.Object k e l = absurd (true≢false (sym e ∙ ap (result_fits slot.Object) l))

number_wide : (b : Bool) → number_kind b ≡ Low → b ≡ true
number_wide true e = refl
number_wide false e = absurd (cc)

no_constant : (b : Bool) → (if b then Zero else Word) ≡ Low → ⊥
no_constant true e = cc
no_constant false e = cc

no_reference : (a b : Bool) (t : Text) → (if a then Array t else if b then Class t else Reference) ≡ Low → ⊥
no_reference true b t e = cc
no_reference false true t e = cc
no_reference false false t e = cc

low_wide : (p : NamedProgram) (t : Text) → kind_of p t ≡ Low → is_wide t ≡ true
low_wide p t e = by (is_word t) (is_wide t) (is_reference t) e
  where
    by : (a b d : Bool) → (if a then Word else if b then Low else if d then kind_of_reference p t else Undefined) ≡ Low → b ≡ true
    by true b d h = absurd (cc)
    by false true d h = refl
    by false false true h = absurd (no_reference (is_array t) (is_plain p t) t h)
    by false false false h = absurd (cc)

wide_reference : (t : Text) → is_wide t ≡ true → is_reference t ≡ true → ⊥
wide_reference [] e d = true≢false (sym e)
wide_reference (u ∷ us) e d = elim (or_cases (nat_eq u 74) (nat_eq u 68) e) [
  | inl z ↦ (let f : is_reference (u ∷ us) ≡ false = subst (λ (v : ℕ). is_reference (v ∷ us) ≡ false) (sym (eqb-true u 74 z)) refl in true≢false (sym d ∙ f))
  | inr z ↦ (let f : is_reference (u ∷ us) ≡ false = subst (λ (v : ℕ). is_reference (v ∷ us) ≡ false) (sym (eqb-true u 68 z)) refl in true≢false (sym d ∙ f))
]

item_wide : (p : NamedProgram) (i : Item) (t : Text) → wrong_item i t ≡ false → kind_of p t ≡ Low → is_wide_item i ≡ true
item_wide p item.Wide t e l = refl
item_wide p item.Object t e l = absurd (wide_reference t (low_wide p t l) (not_false (is_reference t) e))
item_wide p i t e l = absurd (true≢false (sym (low_wide p t l) ∙ or_false_left (is_wide t) (is_reference t) e))

-- ---- forms

written_keeps : (f : Form) (wide : Bool) (to : ℕ) (k : Kind) (a : Kinds) → ((x : ℕ) → writes f x ≡ in_operand wide to x) → (k ≡ Low → wide ≡ true) → Keeps f a (written to k a)
written_keeps f wide to k a w low = record {
  long = written_long to k a.registers;
  others = λ x e. written_or to x k a.registers (λ l d. second wide (low l) x d (sym (w x) ∙ e)) (λ d. here wide x d (sym (w x) ∙ e));
  result = refl;
  caught = refl;
  receiver = refl;
}
  where
    here : (b : Bool) (x : ℕ) → x ≡ to → in_operand b to x ≡ false → ⊥
    here false x d e = true≢false (sym (eq-eqb x to d) ∙ e)
    here true x d e = true≢false (sym (ap (λ b. b || nat_eq x (to + 1)) (eq-eqb x to d)) ∙ e)

    or_second : (a b : Bool) → b ≡ true → (a || b) ≡ true
    or_second true b e = refl
    or_second false b e = e

    second : (b : Bool) → b ≡ true → (x : ℕ) → x ≡ to + 1 → in_operand b to x ≡ false → ⊥
    second true s x d e = true≢false (sym (or_second (nat_eq x to) (nat_eq x (to + 1)) (eq-eqb x (to + 1) d)) ∙ e)
    second false s x d e = true≢false (sym s)

module _ (p : NamedProgram) (c : NamedClass) (m : NamedMethod) (n : ℕ) (a : Kinds) where
  pub pure_keeps : (f : Form) → is_pure p f ≡ true → is_allowed p c m a f ≡ true → is_wrong p c m a f ≡ false → Keeps f a (after p c n f a)
  pure_keeps form.Nop e allowed right = record { long = refl; others = λ x w. inl refl; result = refl; caught = refl; receiver = refl }
  pure_keeps (form.Move t to from) e allowed right = written_keeps (form.Move t to from) (is_wide_slot t) to (moved t (kind_at a.registers from)) a (λ x. refl)
      (moved_wide t (kind_at a.registers from) p c a.registers from refl (and_left (meets p c a.registers from (slot_demand t)) true allowed))
  pure_keeps (form.MoveResult t to) e allowed right = written_keeps (form.MoveResult t to) (is_wide_slot t) to a.result a (λ x. refl) (result_wide t a.result (and_left (result_fits t a.result) true allowed))
  pure_keeps (form.MoveException to) e allowed right = written_keeps (form.MoveException to) false to a.caught a (λ x. refl) (λ l. absurd (true≢false (sym (and_left (place_allowed a (form.MoveException to)) true allowed) ∙ ap (λ k. place_allowed (record a { caught = k }) (form.MoveException to)) l)))
  pure_keeps (form.Const to value) e allowed right = written_keeps (form.Const to value) false to (constant_kind value) a (λ x. refl) (λ l. absurd (no_constant (int_eq value (pos 0)) l))
  pure_keeps (form.ConstWide to value) e allowed right = written_keeps (form.ConstWide to value) true to Low a (λ x. refl) (λ l. refl)
  pure_keeps (form.ConstString to text) e allowed right = written_keeps (form.ConstString to text) false to Reference a (λ x. refl) (λ l. absurd (cc))
  pure_keeps (form.ConstClass to kind) e allowed right = written_keeps (form.ConstClass to kind) false to Reference a (λ x. refl) (λ l. absurd (cc))
  pure_keeps (form.InstanceOf to from kind) e allowed right = written_keeps (form.InstanceOf to from kind) false to Word a (λ x. refl) (λ l. absurd (cc))
  pure_keeps (form.Cmp op to x y) e allowed right = written_keeps (form.Cmp op to x y) false to Word a (λ x. refl) (λ l. absurd (cc))
  pure_keeps (form.StaticGet i to field) e allowed right = written_keeps (form.StaticGet i to field) (is_wide_item i) to (kind_of p field.kind) a (λ x. refl)
      (item_wide p i field.kind (or_false_left (wrong_item i field.kind) (wrong_field p true field) (or_false_left (wrong_item i field.kind || wrong_field p true field) (wrong_first p field) right)))
  pure_keeps (form.Unary op to from) e allowed right = written_keeps (form.Unary op to from) (unary_writes_wide op) to (number_kind (unary_writes_wide op)) a (λ x. refl) (number_wide (unary_writes_wide op))
  pure_keeps (form.Binary op to x y) e allowed right = written_keeps (form.Binary op to x y) (binary_is_wide op) to (number_kind (binary_is_wide op)) a (λ x. refl) (number_wide (binary_is_wide op))
  pure_keeps (form.Literal op to x value) e allowed right = written_keeps (form.Literal op to x value) false to Word a (λ x. refl) (λ l. absurd (cc))
  pure_keeps f e allowed right = absurd (true≢false (sym e))

-- a pure form goes on
pub pure_continues : (p : NamedProgram) (f : Form) → is_pure p f ≡ true → continues f ≡ true
pure_continues p form.ReturnVoid e = absurd (true≢false (sym e))
pure_continues p (form.Return t from) e = absurd (true≢false (sym e))
pure_continues p (form.Throw on) e = absurd (true≢false (sym e))
pure_continues p (form.Goto t) e = absurd (true≢false (sym e))
pure_continues p f e = refl
