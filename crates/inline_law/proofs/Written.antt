-- A register that is undefined stays so until it is written.
use Rattle.std.proofs.Common.{◌≡◌, ◌⊎◌, inl, inr, ℕ, zero, suc, ◌+◌, ◌-◌, Bool, true, false, true≢false, List, [], ◌∷◌, if◌then◌else◌, refl, sym, ap, ◌∙◌, subst, nat_eq, eq-eqb}
use Rattle.std.specs.Prelude.{◌&&◌, ◌||◌, not, map, ℤ, pos, slice_set}
use Rattle.std.specs.List.{list_all}
use Rattle.std.specs.Ordering.{int_eq}
use Rattle.std.proofs.lemmas.Bool.{eqb-true, or_cases}
use Rattle.lemmas.proofs.Bools.{and_left, and_right, clash, not_false, or_false_left, or_left, or_right}
use Rattle.insn_set.specs.Registers.{in_operand}
use Rattle.insn_set.specs.Widths.{is_wide_slot, is_wide_item, unary_writes_wide, binary_is_wide}
use Rattle.insn_set.specs.declared.ops.InvokeKind.{InvokeKind}
use Rattle.insn_set.specs.declared.ops.Slot.{Slot}
use Rattle.insn_set.specs.declared.ops.Slot.TheVariants as slot
use Rattle.insn_set.specs.declared.ops.Item.{Item}
use Rattle.insn_set.specs.declared.ops.Item.TheVariants as item
use Rattle.dalvik_defs.specs.Names.{Text, is_word, is_wide, is_reference, is_array, item_of}
use Rattle.dalvik_defs.specs.Items.{item_of_type, small_item}
use Rattle.dalvik_defs.specs.declared.names.MethodKey.{MethodKey}
use Rattle.dalvik_defs.specs.declared.forms.Form.{Form}
use Rattle.dalvik_defs.specs.declared.forms.Form.TheVariants as form
use Rattle.dalvik_defs.specs.declared.program.NamedClass.{NamedClass}
use Rattle.dalvik_defs.specs.declared.program.NamedMethod.{NamedMethod}
use Rattle.dalvik_defs.specs.declared.program.NamedProgram.{NamedProgram}
use Rattle.pass_defs.specs.Bare.{writes}
use Rattle.pass_defs.specs.Kinds.{Kind, Undefined, Zero, Word, Low, High, Class, Array, Reference, Fresh, FreshThis, kind_eq, is_initialised, kind_of, kind_of_reference, is_plain}
use Rattle.pass_defs.specs.Registers.{Kinds, kind_at, cleared, split, written_one, written_pair, written_kinds, written, replaced, replace, forgotten, forget}
use Rattle.pass_defs.specs.Demands.{meets, demands, slot_demand, is_moved, item_eq, is_array_where, result_fits, place_allowed, is_allowed, is_constructor_name}
use Rattle.pass_defs.specs.Typed.{number_kind, constant_kind, got, moved, constructed, receiver_register, is_static_call, called, after, wrong_item, wrong_field, wrong_first, is_wrong}

-- ---- lists of kinds

abbrev pub Lacks : List Kind → ℕ → Type 0
Lacks ks r = kind_at ks r ≡ Undefined

set_lacks : (ks : List Kind) (q r : ℕ) → Lacks ks r → Lacks (slice_set ks q Undefined) r
set_lacks [] q r e = e
set_lacks (k ∷ ks) zero zero e = refl
set_lacks (k ∷ ks) zero (suc r) e = e
set_lacks (k ∷ ks) (suc q) zero e = e
set_lacks (k ∷ ks) (suc q) (suc r) e = set_lacks ks q r e

other_lacks : (ks : List Kind) (q r : ℕ) (k : Kind) → (r ≡ q → ⊥) → Lacks ks r → Lacks (slice_set ks q k) r
other_lacks [] q r k d e = e
other_lacks (x ∷ ks) zero zero k d e = absurd (d refl)
other_lacks (x ∷ ks) zero (suc r) k d e = e
other_lacks (x ∷ ks) (suc q) zero k d e = e
other_lacks (x ∷ ks) (suc q) (suc r) k d e = other_lacks ks q r k (λ i. d (ap suc i)) e

clear_lacks : (q r : ℕ) (half : Kind) (ks : List Kind) → Lacks ks r → Lacks (cleared q half ks) r
clear_lacks q r half ks e = by (kind_eq (kind_at ks q) half)
  where
    by : (b : Bool) → Lacks (if b then slice_set ks q Undefined else ks) r
    by true = set_lacks ks q r e
    by false = e

split_lacks : (q r : ℕ) (ks : List Kind) → Lacks ks r → Lacks (split q ks) r
split_lacks q r ks e = clear_lacks (q - 1) r Low (cleared (q + 1) High ks) (clear_lacks (q + 1) r High ks e)

one_lacks : (q r : ℕ) (k : Kind) (ks : List Kind) → (r ≡ q → ⊥) → Lacks ks r → Lacks (written_one q k ks) r
one_lacks q r k ks d e = other_lacks (split q ks) q r k d (split_lacks q r ks e)

pair_lacks : (q r : ℕ) (ks : List Kind) → (r ≡ q → ⊥) → (r ≡ q + 1 → ⊥) → Lacks ks r → Lacks (written_pair q ks) r
pair_lacks q r ks d f e = other_lacks (slice_set (split (q + 1) (split q ks)) q Low) (q + 1) r High f
    (other_lacks (split (q + 1) (split q ks)) q r Low d (split_lacks (q + 1) r (split q ks) (split_lacks q r ks e)))

apart : (wide : Bool) (q r : ℕ) → in_operand wide q r ≡ false → r ≡ q → ⊥
apart false q r e d = true≢false (sym (eq-eqb r q d) ∙ e)
apart true q r e d = true≢false (sym (or_left (nat_eq r q) (nat_eq r (q + 1)) (eq-eqb r q d)) ∙ e)

beyond : (wide : Bool) (q r : ℕ) → wide ≡ true → in_operand wide q r ≡ false → r ≡ q + 1 → ⊥
beyond false q r w e d = true≢false (sym w)
beyond true q r w e d = true≢false (sym (or_right (nat_eq r q) (nat_eq r (q + 1)) (eq-eqb r (q + 1) d)) ∙ e)

kinds_lack : (wide : Bool) (q r : ℕ) (k : Kind) (ks : List Kind) → (k ≡ Low → wide ≡ true) → in_operand wide q r ≡ false → Lacks ks r → Lacks (written_kinds q k ks) r
kinds_lack wide q r Low ks l o e = pair_lacks q r ks (apart wide q r o) (beyond wide q r (l refl) o) e
kinds_lack wide q r k ks l o e = one_lacks q r k ks (apart wide q r o) e

map_lacks : (g : Kind → Kind) → g Undefined ≡ Undefined → (ks : List Kind) (r : ℕ) → Lacks ks r → Lacks (map g ks) r
map_lacks g h [] r e = refl
map_lacks g h (k ∷ ks) zero e = ap g e ∙ h
map_lacks g h (k ∷ ks) (suc r) e = map_lacks g h ks r e

-- ---- what is no low half

moved_wide : (s : Slot) (k : Kind) (p : NamedProgram) (c : NamedClass) (ks : List Kind) (r : ℕ) → k ≡ kind_at ks r → meets p c ks r (slot_demand s) ≡ true → moved s k ≡ Low → is_wide_slot s ≡ true
moved_wide slot.Wide k p c ks r d e l = refl
moved_wide slot.Word k p c ks r d e l = absurd (true≢false (sym e ∙ ap is_moved (sym d ∙ l)))
moved_wide slot.Object k p c ks r d e l = absurd (true≢false (sym e ∙ ap is_moved (sym d ∙ l)))

result_wide : (s : Slot) (k : Kind) → result_fits s k ≡ true → k ≡ Low → is_wide_slot s ≡ true
result_wide slot.Wide k e l = refl
result_wide slot.Word k e l = absurd (true≢false (sym e ∙ ap (result_fits slot.Word) l))
result_wide slot.Object k e l = absurd (true≢false (sym e ∙ ap (result_fits slot.Object) l))

number_wide : (b : Bool) → number_kind b ≡ Low → b ≡ true
number_wide true e = refl
number_wide false e = absurd (cc)

no_constant : (b : Bool) → (if b then Zero else Word) ≡ Low → ⊥
no_constant true e = cc
no_constant false e = cc

no_reference : (a b : Bool) (t : Text) → (if a then Array t else if b then Class t else Reference) ≡ Low → ⊥
no_reference true b t e = cc
no_reference false true t e = cc
no_reference false false t e = cc

low_wide : (p : NamedProgram) (t : Text) → kind_of p t ≡ Low → is_wide t ≡ true
low_wide p t e = by (is_word t) (is_wide t) (is_reference t) e
  where
    by : (a b d : Bool) → (if a then Word else if b then Low else if d then kind_of_reference p t else Undefined) ≡ Low → b ≡ true
    by true b d h = absurd (cc)
    by false true d h = refl
    by false false true h = absurd (no_reference (is_array t) (is_plain p t) t h)
    by false false false h = absurd (cc)

wide_reference : (t : Text) → is_wide t ≡ true → is_reference t ≡ true → ⊥
wide_reference [] e d = true≢false (sym e)
wide_reference (u ∷ us) e d = elim (or_cases (nat_eq u 74) (nat_eq u 68) e) [
  | inl z ↦ (let f : is_reference (u ∷ us) ≡ false = subst (λ (v : ℕ). is_reference (v ∷ us) ≡ false) (sym (eqb-true u 74 z)) refl in true≢false (sym d ∙ f))
  | inr z ↦ (let f : is_reference (u ∷ us) ≡ false = subst (λ (v : ℕ). is_reference (v ∷ us) ≡ false) (sym (eqb-true u 68 z)) refl in true≢false (sym d ∙ f))
]

item_wide : (p : NamedProgram) (i : Item) (t : Text) → wrong_item i t ≡ false → kind_of p t ≡ Low → is_wide_item i ≡ true
item_wide p item.Wide t e l = refl
item_wide p item.Object t e l = absurd (wide_reference t (low_wide p t l) (not_false (is_reference t) e))
item_wide p i t e l = absurd (true≢false (sym (low_wide p t l) ∙ or_false_left (is_wide t) (is_reference t) e))

-- an item that is an object is no low half
object_item : (t : Text) → is_wide t ≡ true → item_eq (item_of_type t) item.Object ≡ true → ⊥
object_item [] e d = true≢false (sym e)
object_item (u ∷ us) e d = by (is_wide (u ∷ us)) (if is_reference (u ∷ us) then item.Object else small_item u) e d
  where
    by : (w : Bool) (rest : Item) → w ≡ true → item_eq (if w then item.Wide else rest) item.Object ≡ true → ⊥
    by true rest i j = true≢false (sym j)
    by false rest i j = true≢false (sym i)

got_wide : (p : NamedProgram) (i : Item) (k : Kind) → is_array_where (λ t. item_eq (item_of_type t) i) k ≡ true → got p i k ≡ Low → is_wide_item i ≡ true
got_wide p item.Object (Array t) e l = absurd (object_item (item_of t) (low_wide p (item_of t) l) e)
got_wide p item.Object k e l = absurd (cc)
got_wide p item.Wide k e l = refl
got_wide p item.Plain k e l = absurd (cc)
got_wide p item.Boolean k e l = absurd (cc)
got_wide p item.Byte k e l = absurd (cc)
got_wide p item.Char k e l = absurd (cc)
got_wide p item.Short k e l = absurd (cc)

-- ---- forms

module _ (p : NamedProgram) (c : NamedClass) (m : NamedMethod) (n : ℕ) (a : Kinds) (r : ℕ) (lacks : Lacks a.registers r) where
  replace_lacks : (old new : Kind) → replaced old new Undefined ≡ Undefined → Lacks (replace old new a).registers r
  replace_lacks old new h = map_lacks (replaced old new) h a.registers r lacks

  constructed_lacks : (k : Kind) → Lacks (constructed p c k a).registers r
  constructed_lacks (Fresh t i) = replace_lacks (Fresh t i) (kind_of p t) refl
  constructed_lacks FreshThis = replace_lacks FreshThis (kind_of p c.name) refl
  constructed_lacks k = lacks

  called_lacks : (kind : InvokeKind) (k : MethodKey) (rs : List ℕ) → Lacks (called p c kind k rs a).registers r
  called_lacks kind k rs = by (is_constructor_name k.name && not (is_static_call kind))
    where
      by : (b : Bool) → Lacks (if b then constructed p c (kind_at a.registers (receiver_register rs)) a else a).registers r
      by true = constructed_lacks (kind_at a.registers (receiver_register rs))
      by false = lacks

  initialised_else : (on : ℕ) → is_initialised (kind_at a.registers on) ≡ true → r ≡ on → ⊥
  initialised_else on e d = true≢false (sym e ∙ ap is_initialised (ap (kind_at a.registers) (sym d) ∙ lacks))

  cast_lacks : (on : ℕ) (k : Kind) → is_initialised (kind_at a.registers on) ≡ true → (k ≡ Low → ⊥) → Lacks (written_kinds on k a.registers) r
  cast_lacks on Low e d = absurd (d refl)
  cast_lacks on k e d = one_lacks on r k a.registers (initialised_else on e) lacks

  pub after_lacks : (f : Form) → is_allowed p c m a f ≡ true → is_wrong p c m a f ≡ false → writes f r ≡ false → Lacks (after p c n f a).registers r
  after_lacks (form.Move t to from) e w o = kinds_lack (is_wide_slot t) to r (moved t (kind_at a.registers from)) a.registers (moved_wide t (kind_at a.registers from) p c a.registers from refl (and_left (meets p c a.registers from (slot_demand t)) true e)) o lacks
  after_lacks (form.MoveResult t to) e w o = kinds_lack (is_wide_slot t) to r a.result a.registers (result_wide t a.result (and_left (result_fits t a.result) true e)) o lacks
  after_lacks (form.MoveException to) e w o = kinds_lack false to r a.caught a.registers (λ l. absurd (true≢false (sym (and_left (is_initialised a.caught) true e) ∙ ap is_initialised l))) o lacks
  after_lacks (form.Const to value) e w o = kinds_lack false to r (constant_kind value) a.registers (λ l. absurd (no_constant (int_eq value (pos 0)) l)) o lacks
  after_lacks (form.ConstWide to value) e w o = kinds_lack true to r Low a.registers (λ l. refl) o lacks
  after_lacks (form.ConstString to text) e w o = kinds_lack false to r Reference a.registers (λ l. absurd (cc)) o lacks
  after_lacks (form.ConstClass to kind) e w o = kinds_lack false to r Reference a.registers (λ l. absurd (cc)) o lacks
  after_lacks (form.CheckCast on kind) e w o = cast_lacks on (kind_of_reference p kind) (and_left (is_initialised (kind_at a.registers on)) true e) (no_reference (is_array kind) (is_plain p kind) kind)
  after_lacks (form.InstanceOf to from kind) e w o = kinds_lack false to r Word a.registers (λ l. absurd (cc)) o lacks
  after_lacks (form.ArrayLength to from) e w o = kinds_lack false to r Word a.registers (λ l. absurd (cc)) o lacks
  after_lacks (form.NewInstance to kind) e w o = kinds_lack false to r (Fresh kind n) (forget n a).registers (λ l. absurd (cc)) o (map_lacks (forgotten n) refl a.registers r lacks)
  after_lacks (form.NewArray to size kind) e w o = kinds_lack false to r (Array kind) a.registers (λ l. absurd (cc)) o lacks
  after_lacks (form.FilledNewArray kind args) e w o = lacks
  after_lacks (form.Cmp op to x y) e w o = kinds_lack false to r Word a.registers (λ l. absurd (cc)) o lacks
  after_lacks (form.ArrayGet i to array index) e w o = kinds_lack (is_wide_item i) to r (got p i (kind_at a.registers array)) a.registers
      (got_wide p i (kind_at a.registers array) (and_left (is_array_where (λ t. item_eq (item_of_type t) i) (kind_at a.registers array)) _ e)) o lacks
  after_lacks (form.InstanceGet i to on field) e w o = kinds_lack (is_wide_item i) to r (kind_of p field.kind) a.registers (item_wide p i field.kind (or_false_left (wrong_item i field.kind) (wrong_field p false field) w)) o lacks
  after_lacks (form.StaticGet i to field) e w o = kinds_lack (is_wide_item i) to r (kind_of p field.kind) a.registers
      (item_wide p i field.kind (or_false_left (wrong_item i field.kind) (wrong_field p true field) (or_false_left (wrong_item i field.kind || wrong_field p true field) (wrong_first p field) w))) o lacks
  after_lacks (form.Invoke kind k rs) e w o = called_lacks kind k rs
  after_lacks (form.Unary op to from) e w o = kinds_lack (unary_writes_wide op) to r (number_kind (unary_writes_wide op)) a.registers (number_wide (unary_writes_wide op)) o lacks
  after_lacks (form.Binary op to x y) e w o = kinds_lack (binary_is_wide op) to r (number_kind (binary_is_wide op)) a.registers (number_wide (binary_is_wide op)) o lacks
  after_lacks (form.Literal op to x value) e w o = kinds_lack false to r Word a.registers (λ l. absurd (cc)) o lacks
  after_lacks f e w o = lacks
