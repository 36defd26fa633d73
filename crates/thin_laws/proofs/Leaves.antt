-- What a form leaves of renamed kinds is what it leaves, renamed.
use Rattle.std.proofs.Common.{◌≡◌, ℕ, zero, suc, ◌+◌, ◌-◌, Bool, true, false, List, [], ◌∷◌, ◌++◌, refl, sym, ap, ap₂, ◌∙◌}
use Rattle.std.specs.Prelude.{◌&&◌, not, map, nat_eq, if◌then◌else◌, slice_set, replicate}
use Rattle.lemmas.proofs.Lists.{map_append}
use Rattle.insn_set.specs.Widths.{is_wide_item, unary_writes_wide, binary_is_wide}
use Rattle.insn_set.specs.declared.ops.Slot.{Slot}
use Rattle.insn_set.specs.declared.ops.Slot.TheVariants as slot
use Rattle.insn_set.specs.declared.ops.Item.{Item}
use Rattle.insn_set.specs.declared.ops.Item.TheVariants as item
use Rattle.insn_set.specs.declared.ops.InvokeKind.{InvokeKind}
use Rattle.dalvik_defs.specs.Names.{Text, item_of}
use Rattle.dalvik_defs.specs.Flags.{is_static, is_interface}
use Rattle.dalvik_defs.specs.declared.names.MethodKey.{MethodKey}
use Rattle.dalvik_defs.specs.declared.forms.Form.{Form}
use Rattle.dalvik_defs.specs.declared.forms.Form.TheVariants as form
use Rattle.dalvik_defs.specs.declared.program.NamedBody.{NamedBody}
use Rattle.dalvik_defs.specs.declared.program.NamedMethod.{NamedMethod}
use Rattle.dalvik_defs.specs.declared.program.NamedClass.{NamedClass}
use Rattle.dalvik_defs.specs.declared.program.NamedProgram.{NamedProgram}
use Rattle.pass_defs.specs.Kinds.{Kind, Undefined, Zero, Word, Low, High, Class, Array, Reference, Fresh, FreshThis, kind_eq, kind_of_reference, kind_of}
use Rattle.pass_defs.specs.Registers.{Kinds, kind_at, cleared, split, written_one, written_pair, written_kinds, written, replaced, replace, forgotten, forget}
use Rattle.pass_defs.specs.Demands.{is_constructor_name}
use Rattle.pass_defs.specs.Remade.{retargeted}
use Rattle.pass_defs.specs.Typed.{is_constructor, receiver_kind, halves, parameter_kinds, argument_kinds, begun, number_kind, constant_kind, got, moved, constructed, receiver_register, is_static_call, called, after}
use Rattle.thin_laws.specs.Renamed.{KeepsApart, renamed, kinds_renamed}
use Rattle.thin_laws.proofs.Orders.{eq_kept, eq_plain, fixed_if, reference_fixed, kind_fixed, at_kept}

module _ (s : ℕ → ℕ) (apart : KeepsApart s) where
  abbrev mv : Kind → Kind
  mv = renamed s

  abbrev mvs : Kinds → Kinds
  mvs = kinds_renamed s

  -- ---- writes

  set_kept : (ks : List Kind) (r : ℕ) (k : Kind) → slice_set (map mv ks) r (mv k) ≡ map mv (slice_set ks r k)
  set_kept [] r k = refl
  set_kept (l ∷ ls) zero k = refl
  set_kept (l ∷ ls) (suc r) k = ap (λ x. mv l ∷ x) (set_kept ls r k)

  cleared_kept : (r : ℕ) (h : Kind) (ks : List Kind) → mv h ≡ h → cleared r h (map mv ks) ≡ map mv (cleared r h ks)
  cleared_kept r h ks e = ap (λ b. if b then slice_set (map mv ks) r Undefined else map mv ks) (ap (λ k. kind_eq k h) (at_kept s apart ks r) ∙ eq_plain s apart (kind_at ks r) h e) ∙ by (kind_eq (kind_at ks r) h)
    where
      by : (b : Bool) → (if b then slice_set (map mv ks) r Undefined else map mv ks) ≡ map mv (if b then slice_set ks r Undefined else ks)
      by true = set_kept ks r Undefined
      by false = refl

  split_kept : (r : ℕ) (ks : List Kind) → split r (map mv ks) ≡ map mv (split r ks)
  split_kept r ks = ap (cleared (r - 1) Low) (cleared_kept (r + 1) High ks refl) ∙ cleared_kept (r - 1) Low (cleared (r + 1) High ks) refl

  one_kept : (r : ℕ) (k : Kind) (ks : List Kind) → written_one r (mv k) (map mv ks) ≡ map mv (written_one r k ks)
  one_kept r k ks = ap (λ l. slice_set l r (mv k)) (split_kept r ks) ∙ set_kept (split r ks) r k

  pair_kept : (r : ℕ) (ks : List Kind) → written_pair r (map mv ks) ≡ map mv (written_pair r ks)
  pair_kept r ks = ap (λ l. slice_set (slice_set (split (r + 1) l) r Low) (r + 1) High) (split_kept r ks)
      ∙ ap (λ l. slice_set (slice_set l r Low) (r + 1) High) (split_kept (r + 1) (split r ks))
      ∙ ap (λ l. slice_set l (r + 1) High) (set_kept (split (r + 1) (split r ks)) r Low)
      ∙ set_kept (slice_set (split (r + 1) (split r ks)) r Low) (r + 1) High

  list_kept : (r : ℕ) (k : Kind) (ks : List Kind) → written_kinds r (mv k) (map mv ks) ≡ map mv (written_kinds r k ks)
  list_kept r Low ks = pair_kept r ks
  list_kept r k ks = one_kept r k ks

  written_kept : (r : ℕ) (k : Kind) (a : Kinds) → written r (mv k) (mvs a) ≡ mvs (written r k a)
  written_kept r k a = ap (λ l. record (mvs a) { registers = l }) (list_kept r k a.registers)

  -- where the kind that is written has no position
  written_plain : (r : ℕ) (k : Kind) (a : Kinds) → mv k ≡ k → written r k (mvs a) ≡ mvs (written r k a)
  written_plain r k a e = ap (λ x. written r x (mvs a)) (sym e) ∙ written_kept r k a

  -- ---- objects

  replaced_kept : (old new k : Kind) → replaced (mv old) (mv new) (mv k) ≡ mv (replaced old new k)
  replaced_kept old new k = ap (λ b. elim b as (λ b. Kind) [ true ↦ mv new | false ↦ mv k ]) (eq_kept s apart k old) ∙ by (kind_eq k old)
    where
      by : (b : Bool) → elim b as (λ b. Kind) [ true ↦ mv new | false ↦ mv k ] ≡ mv (elim b as (λ b. Kind) [ true ↦ new | false ↦ k ])
      by true = refl
      by false = refl

  all_replaced : (old new : Kind) (ks : List Kind) → map (replaced (mv old) (mv new)) (map mv ks) ≡ map mv (map (replaced old new) ks)
  all_replaced old new [] = refl
  all_replaced old new (k ∷ ks) = ap₂ (λ x xs. x ∷ xs) (replaced_kept old new k) (all_replaced old new ks)

  replace_kept : (old new : Kind) (a : Kinds) → replace (mv old) (mv new) (mvs a) ≡ mvs (replace old new a)
  replace_kept old new a = ap₂ (λ l k. record (mvs a) { registers = l; receiver = k }) (all_replaced old new a.registers) (replaced_kept old new a.receiver)

  forgotten_kept : (n : ℕ) (k : Kind) → forgotten (s n) (mv k) ≡ mv (forgotten n k)
  forgotten_kept n (Fresh t m) = ap (λ b. elim b as (λ b. Kind) [ true ↦ Undefined | false ↦ Fresh t (s m) ]) (apart n m) ∙ by (nat_eq n m)
    where
      by : (b : Bool) → elim b as (λ b. Kind) [ true ↦ Undefined | false ↦ Fresh t (s m) ] ≡ mv (elim b as (λ b. Kind) [ true ↦ Undefined | false ↦ Fresh t m ])
      by true = refl
      by false = refl
  forgotten_kept n k = refl

  all_forgotten : (n : ℕ) (ks : List Kind) → map (forgotten (s n)) (map mv ks) ≡ map mv (map (forgotten n) ks)
  all_forgotten n [] = refl
  all_forgotten n (k ∷ ks) = ap₂ (λ x xs. x ∷ xs) (forgotten_kept n k) (all_forgotten n ks)

  forget_kept : (n : ℕ) (a : Kinds) → forget (s n) (mvs a) ≡ mvs (forget n a)
  forget_kept n a = ap (λ l. record (mvs a) { registers = l }) (all_forgotten n a.registers)

  -- ---- forms

  slot_kept : (t : Slot) (k : Kind) → moved t (mv k) ≡ mv (moved t k)
  slot_kept slot.Wide k = refl
  slot_kept slot.Word k = refl
  slot_kept slot.Object k = refl

  number_fixed : (b : Bool) → mv (number_kind b) ≡ number_kind b
  number_fixed b = fixed_if s apart b Low Word refl refl

  module _ (p : NamedProgram) (c : NamedClass) where
    got_kept : (i : Item) (k : Kind) → got p i (mv k) ≡ mv (got p i k)
    got_kept item.Object (Array t) = sym (kind_fixed s apart p (item_of t))
    got_kept item.Object (Fresh t n) = refl
    got_kept item.Object k = refl
    got_kept i k = sym (number_fixed (is_wide_item i))

    constructed_kept : (k : Kind) (a : Kinds) → constructed p c (mv k) (mvs a) ≡ mvs (constructed p c k a)
    constructed_kept (Fresh t n) a = ap (λ k. replace (Fresh t (s n)) k (mvs a)) (sym (kind_fixed s apart p t)) ∙ replace_kept (Fresh t n) (kind_of p t) a
    constructed_kept FreshThis a = ap (λ k. replace FreshThis k (mvs a)) (sym (kind_fixed s apart p c.name)) ∙ replace_kept FreshThis (kind_of p c.name) a
    constructed_kept k a = refl

    first_same : (rs : List ℕ) → receiver_register (map (λ r. r) rs) ≡ receiver_register rs
    first_same [] = refl
    first_same (r ∷ rs) = refl

    called_kept : (kind : InvokeKind) (k : MethodKey) (rs : List ℕ) (a : Kinds) → called p c kind k (map (λ r. r) rs) (mvs a) ≡ mvs (called p c kind k rs a)
    called_kept kind k rs a = ap (λ x. record (if is_constructor_name k.name && not (is_static_call kind) then constructed p c (kind_at (map mv a.registers) x) (mvs a) else mvs a) { result = kind_of p k.signature.result }) (first_same rs)
        ∙ by (is_constructor_name k.name && not (is_static_call kind))
      where
        by : (b : Bool) → record (if b then constructed p c (kind_at (map mv a.registers) (receiver_register rs)) (mvs a) else mvs a) { result = kind_of p k.signature.result }
            ≡ mvs (record (if b then constructed p c (kind_at a.registers (receiver_register rs)) a else a) { result = kind_of p k.signature.result })
        by true = ap (λ x. record (constructed p c x (mvs a)) { result = kind_of p k.signature.result }) (at_kept s apart a.registers (receiver_register rs))
            ∙ ap (λ (x : Kinds). record x { result = kind_of p k.signature.result }) (constructed_kept (kind_at a.registers (receiver_register rs)) a)
            ∙ ap (λ x. record (mvs (constructed p c (kind_at a.registers (receiver_register rs)) a)) { result = x }) (sym (kind_fixed s apart p k.signature.result))
        by false = ap (λ x. record (mvs a) { result = x }) (sym (kind_fixed s apart p k.signature.result))

    module _ (at : ℕ → ℕ) where
      pub after_kept : (n : ℕ) (f : Form) (a : Kinds) → after p c (s n) (retargeted at f) (mvs a) ≡ mvs (after p c n f a)
      after_kept n (form.Move t to from) a = ap (λ k. written to (moved t k) (mvs a)) (at_kept s apart a.registers from) ∙ ap (λ k. written to k (mvs a)) (slot_kept t (kind_at a.registers from)) ∙ written_kept to (moved t (kind_at a.registers from)) a
      after_kept n (form.MoveResult t to) a = written_kept to a.result a
      after_kept n (form.MoveException to) a = written_kept to a.caught a
      after_kept n (form.Const to value) a = written_plain to (constant_kind value) a (fixed_if s apart _ Zero Word refl refl)
      after_kept n (form.ConstWide to value) a = written_plain to Low a refl
      after_kept n (form.ConstString to text) a = written_plain to Reference a refl
      after_kept n (form.ConstClass to kind) a = written_plain to Reference a refl
      after_kept n (form.CheckCast on kind) a = written_plain on (kind_of_reference p kind) a (reference_fixed s apart p kind)
      after_kept n (form.InstanceOf to from kind) a = written_plain to Word a refl
      after_kept n (form.ArrayLength to from) a = written_plain to Word a refl
      after_kept n (form.NewInstance to kind) a = ap (λ x. written to (Fresh kind (s n)) x) (forget_kept n a) ∙ written_kept to (Fresh kind n) (forget n a)
      after_kept n (form.NewArray to size kind) a = written_plain to (Array kind) a refl
      after_kept n (form.FilledNewArray kind args) a = refl
      after_kept n (form.Cmp op to x y) a = written_plain to Word a refl
      after_kept n (form.ArrayGet i to array index) a = ap (λ k. written to (got p i k) (mvs a)) (at_kept s apart a.registers array) ∙ ap (λ k. written to k (mvs a)) (got_kept i (kind_at a.registers array)) ∙ written_kept to (got p i (kind_at a.registers array)) a
      after_kept n (form.InstanceGet i to on field) a = written_plain to (kind_of p field.kind) a (kind_fixed s apart p field.kind)
      after_kept n (form.StaticGet i to field) a = written_plain to (kind_of p field.kind) a (kind_fixed s apart p field.kind)
      after_kept n (form.Invoke kind method args) a = called_kept kind method args a
      after_kept n (form.Unary op to from) a = written_plain to (number_kind (unary_writes_wide op)) a (number_fixed (unary_writes_wide op))
      after_kept n (form.Binary op to x y) a = written_plain to (number_kind (binary_is_wide op)) a (number_fixed (binary_is_wide op))
      after_kept n (form.Literal op to x value) a = written_plain to Word a refl
      after_kept n f a = refl

    -- ---- the entry

    halves_kept : (k : Kind) → map mv (halves k) ≡ halves (mv k)
    halves_kept Low = refl
    halves_kept (Fresh t n) = refl
    halves_kept k = refl

    parameters_fixed : (ts : List Text) → map mv (parameter_kinds p ts) ≡ parameter_kinds p ts
    parameters_fixed [] = refl
    parameters_fixed (t ∷ ts) = map_append mv (halves (kind_of p t)) (parameter_kinds p ts) ∙ ap₂ (λ x y. x ++ y) (halves_kept (kind_of p t) ∙ ap halves (kind_fixed s apart p t)) (parameters_fixed ts)

    receiver_fixed : (m : NamedMethod) → mv (receiver_kind c m) ≡ receiver_kind c m
    receiver_fixed m = fixed_if s apart (is_constructor m) FreshThis (if is_interface c.flags then Reference else Class c.name) refl (fixed_if s apart (is_interface c.flags) Reference (Class c.name) refl refl)

    arguments_fixed : (m : NamedMethod) → map mv (argument_kinds p c m) ≡ argument_kinds p c m
    arguments_fixed m = by (is_static m.flags)
      where
        by : (b : Bool) → map mv (elim b as (λ b. List Kind) [ true ↦ parameter_kinds p m.signature.parameters | false ↦ receiver_kind c m ∷ parameter_kinds p m.signature.parameters ])
            ≡ elim b as (λ b. List Kind) [ true ↦ parameter_kinds p m.signature.parameters | false ↦ receiver_kind c m ∷ parameter_kinds p m.signature.parameters ]
        by true = parameters_fixed m.signature.parameters
        by false = ap₂ (λ x xs. x ∷ xs) (receiver_fixed m) (parameters_fixed m.signature.parameters)

    undefined_fixed : (n : ℕ) → map mv (replicate n Undefined) ≡ replicate n Undefined
    undefined_fixed zero = refl
    undefined_fixed (suc n) = ap (λ l. Undefined ∷ l) (undefined_fixed n)

    pub begun_kept : (m : NamedMethod) (b : NamedBody) → mvs (begun p c m b) ≡ begun p c m b
    begun_kept m b = ap₂ (λ l k. record (begun p c m b) { registers = l; receiver = k })
        (map_append mv (replicate (b.registers - b.ins) Undefined) (argument_kinds p c m) ∙ ap₂ (λ x y. x ++ y) (undefined_fixed (b.registers - b.ins)) (arguments_fixed m))
        (fixed_if s apart (is_constructor m) FreshThis Undefined refl refl)
