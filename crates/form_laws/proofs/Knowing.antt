-- What is known behind a form of a register that it doesn't write was known before.
use Rattle.std.proofs.Common.{◌≡◌, ℕ, ◌+◌, Bool, true, false, List, refl, sym, ap, ◌∙◌, subst, inl, inr, arith}
use Rattle.std.specs.Prelude.{◌⊎◌, ◌&&◌, ◌||◌, not, map, slice_set, if◌then◌else◌}
use Rattle.std.specs.List.{list_all}
use Rattle.lemmas.proofs.Bools.{and_left, neither_of}
use Rattle.insn_set.specs.Widths.{is_wide_item, unary_writes_wide, binary_is_wide}
use Rattle.insn_set.specs.declared.ops.Slot.TheVariants as slot
use Rattle.insn_set.specs.declared.ops.InvokeKind.{InvokeKind}
use Rattle.dalvik_defs.specs.Names.{Text}
use Rattle.dalvik_defs.specs.Items.{item_of_type}
use Rattle.dalvik_defs.specs.declared.names.MethodKey.{MethodKey}
use Rattle.dalvik_defs.specs.declared.forms.Form.{Form}
use Rattle.dalvik_defs.specs.declared.forms.Form.TheVariants as form
use Rattle.dalvik_defs.specs.declared.program.NamedClass.{NamedClass}
use Rattle.dalvik_defs.specs.declared.program.NamedMethod.{NamedMethod}
use Rattle.dalvik_defs.specs.declared.program.NamedProgram.{NamedProgram}
use Rattle.pass_defs.specs.Bare.{writes}
use Rattle.pass_defs.specs.Kinds.{Kind, Undefined, Low, High, Word, Reference, Array, Fresh, FreshThis, kind_eq, is_number, is_initialised, kind_of, kind_of_reference}
use Rattle.pass_defs.specs.Registers.{Kinds, kind_at, split, written_one, written_pair, written_kinds, written, replaced, forgotten}
use Rattle.pass_defs.specs.Demands.{is_constructor_name, is_moved, item_eq, is_array_where, meets, demands, place_allowed, is_allowed}
use Rattle.pass_defs.proofs.Writes.{right_true}
use Rattle.pass_defs.specs.Typed.{got, number_kind, constant_kind, constructed, receiver_register, is_static_call, called, after, wrong_item, wrong_field, wrong_first, is_wrong}
use Rattle.form_laws.specs.Changes.{destination, width}
use Rattle.form_laws.proofs.Uses.{writes_at}
use Rattle.form_laws.proofs.Onward.{clash}
use Rattle.form_laws.proofs.Held.{is_known, whole_known, same_or, split_from, set_other, mapped}
use Rattle.form_laws.proofs.Asking.{moved_whole, number_whole, initialised_whole}
use Rattle.form_laws.proofs.Widths.{Takes, whole_takes, constant_takes, number_takes, reference_whole, type_takes, item_width, got_takes}
use Rattle.form_laws.proofs.Asking.{low_is}
use Rattle.form_laws.specs.Kinds.{is_whole}
use Rattle.form_laws.proofs.Stepping.{one_kind}

-- what is known of a register beside a write was known
one_known : (r : ℕ) (k : Kind) (ks : List Kind) (o : ℕ) → (o ≡ r → ⊥) → is_known (kind_at (written_one r k ks) o) ≡ true → is_known (kind_at ks o) ≡ true
one_known r k ks o ne h = let e = set_other (split r ks) r o k ne in let z = sym (ap is_known e) ∙ h in sym (ap is_known (split_from r o ks z)) ∙ z

pair_known : (r : ℕ) (ks : List Kind) (o : ℕ) → (o ≡ r → ⊥) → (o ≡ r + 1 → ⊥) → is_known (kind_at (written_pair r ks) o) ≡ true → is_known (kind_at ks o) ≡ true
pair_known r ks o ne ne' h =
    let e = set_other (slice_set (split (r + 1) (split r ks)) r Low) (r + 1) o High ne' ∙ set_other (split (r + 1) (split r ks)) r o Low ne in
    let y = sym (ap is_known e) ∙ h in
    let z = sym (ap is_known (split_from (r + 1) o (split r ks) y)) ∙ y in
    sym (ap is_known (split_from r o ks z)) ∙ z

forgotten_known : (n : ℕ) (k : Kind) → is_known (forgotten n k) ≡ true → is_known k ≡ true
forgotten_known n Undefined e = e
forgotten_known n k e = refl

replaced_known : (old new k : Kind) → kind_eq Undefined old ≡ false → is_known (replaced old new k) ≡ true → is_known k ≡ true
replaced_known old new Undefined u e = ap (λ b. is_known (elim b as (λ b. Kind) [ true ↦ new | false ↦ Undefined ])) (sym u) ∙ e
replaced_known old new k u e = refl

module _ (p : NamedProgram) (c : NamedClass) (n : ℕ) (a : Kinds) (o : ℕ) where
  abbrev Known : Kinds → Type 0
  Known x = is_known (kind_at x.registers o) ≡ true

  -- a write of one register or of two, to others
  wrote : (f : Form) (k : Kind) (ks : List Kind) → Takes k (width f) → writes f o ≡ false → is_known (kind_at (written_kinds (destination f) k ks) o) ≡ true → is_known (kind_at ks o) ≡ true
  wrote f k ks (inl h) w e = one_known (destination f) k ks o (beside 0 h.1) (sym (ap (λ x. is_known (kind_at x o)) (one_kind (destination f) k ks h.0)) ∙ e)
    where
      beside : (i : ℕ) → width f ≡ 1 → o ≡ destination f → ⊥
      beside i z q = clash (writes f o) (ap (writes f) (q ∙ omega arith) ∙ writes_at f 0 (omega (arith, z))) w
  wrote f k ks (inr h) w e = pair_known (destination f) ks o (first h.1) (second h.1) (ap (λ x. is_known (kind_at (written_kinds (destination f) x ks) o)) (sym h.0) ∙ e)
    where
      first : width f ≡ 2 → o ≡ destination f → ⊥
      first z q = clash (writes f o) (ap (writes f) (q ∙ omega arith) ∙ writes_at f 0 (omega (arith, z))) w

      second : width f ≡ 2 → o ≡ destination f + 1 → ⊥
      second z q = clash (writes f o) (ap (writes f) q ∙ writes_at f 1 (omega (arith, z))) w

  built : (k : Kind) → Known (constructed p c k a) → Known a
  built (Fresh t m) e = replaced_known (Fresh t m) (kind_of p t) (kind_at a.registers o) refl (ap is_known (sym (mapped (replaced (Fresh t m) (kind_of p t)) refl a.registers o)) ∙ e)
  built FreshThis e = replaced_known FreshThis (kind_of p c.name) (kind_at a.registers o) refl (ap is_known (sym (mapped (replaced FreshThis (kind_of p c.name)) refl a.registers o)) ∙ e)
  built k e = e

  called_known : (kind : InvokeKind) (k : MethodKey) (rs : List ℕ) → Known (called p c kind k rs a) → Known a
  called_known kind k rs e = by (is_constructor_name k.name && not (is_static_call kind)) e
    where
      by : (b : Bool) → is_known (kind_at (if b then constructed p c (kind_at a.registers (receiver_register rs)) a else a).registers o) ≡ true → Known a
      by true e = built (kind_at a.registers (receiver_register rs)) e
      by false e = e

  made_known : (to : ℕ) (kind : Text) → writes (form.NewInstance to kind) o ≡ false → Known (after p c n (form.NewInstance to kind) a) → Known a
  made_known to kind w e = forgotten_known n (kind_at a.registers o) (ap is_known (sym (mapped (forgotten n) refl a.registers o)) ∙ wrote (form.NewInstance to kind) (Fresh kind n) (map (forgotten n) a.registers) (inl (refl, refl)) w e)

  -- ---- all forms

  module _ (m : NamedMethod) where
    -- what a form does to the kinds of registers
    data Does (f : Form) : Type 0 where
      Nothing : after p c n f a ≡ a → Does f
      Writes : (k : Kind) → Takes k (width f) → after p c n f a ≡ written (destination f) k a → Does f

    asked : (f : Form) → is_allowed p c m a f ≡ true → list_all (λ d. meets p c a.registers d.0 d.1) (demands p c m a.registers f) ≡ true
    asked f e = right_true (place_allowed a f) _ e

    does : (f : Form) → Does f → writes f o ≡ false → Known (after p c n f a) → Known a
    does f (Nothing e) w h = subst Known e h
    does f (Writes k t e) w h = wrote f k a.registers t w (subst Known e h)

    moved_does : (to from : ℕ) (k : Kind) → is_moved k ≡ true → Takes k 1
    moved_does to from k e = whole_takes k (moved_whole k e)

    -- what is known behind a form that is right of a register that it doesn't write was known before
    pub after_known : (f : Form) → is_allowed p c m a f ≡ true → is_wrong p c m a f ≡ false → writes f o ≡ false → Known (after p c n f a) → Known a
    after_known (form.Move slot.Word to from) x y = does (form.Move slot.Word to from) (Writes (kind_at a.registers from) (moved_does to from (kind_at a.registers from) (and_left (is_moved (kind_at a.registers from)) true (asked (form.Move slot.Word to from) x))) refl)
    after_known (form.Move slot.Object to from) x y = does (form.Move slot.Object to from) (Writes (kind_at a.registers from) (moved_does to from (kind_at a.registers from) (and_left (is_moved (kind_at a.registers from)) true (asked (form.Move slot.Object to from) x))) refl)
    after_known (form.Move slot.Wide to from) x y = does (form.Move slot.Wide to from) (Writes Low (inr (refl, refl)) refl)
    after_known (form.MoveResult slot.Word to) x y = does (form.MoveResult slot.Word to) (Writes a.result (whole_takes a.result (number_whole a.result (and_left (is_number a.result) true x))) refl)
    after_known (form.MoveResult slot.Object to) x y = does (form.MoveResult slot.Object to) (Writes a.result (whole_takes a.result (initialised_whole a.result (and_left (is_initialised a.result) true x))) refl)
    after_known (form.MoveResult slot.Wide to) x y = does (form.MoveResult slot.Wide to) (Writes a.result (inr (low_is a.result (and_left (kind_eq a.result Low) true x), refl)) refl)
    after_known (form.MoveException to) x y = does (form.MoveException to) (Writes a.caught (whole_takes a.caught (initialised_whole a.caught (and_left (is_initialised a.caught) true x))) refl)
    after_known (form.Const to value) x y = does (form.Const to value) (Writes (constant_kind value) (constant_takes value) refl)
    after_known (form.ConstWide to value) x y = does (form.ConstWide to value) (Writes Low (inr (refl, refl)) refl)
    after_known (form.ConstString to text) x y = does (form.ConstString to text) (Writes Reference (inl (refl, refl)) refl)
    after_known (form.ConstClass to kind) x y = does (form.ConstClass to kind) (Writes Reference (inl (refl, refl)) refl)
    after_known (form.CheckCast on kind) x y = λ w h. cast (same_or o on) h
      where
        narrow : (k : Kind) → is_whole k ≡ true → kind_eq k Low ≡ false
        narrow Low e = clash false e refl
        narrow k e = refl

        cast : (o ≡ on) ⊎ (o ≡ on → ⊥) → Known (after p c n (form.CheckCast on kind) a) → Known a
        cast (inl e) h = ap (λ z. is_known (kind_at a.registers z)) e ∙ whole_known (kind_at a.registers on) (initialised_whole (kind_at a.registers on) (and_left (is_initialised (kind_at a.registers on)) true (asked (form.CheckCast on kind) x)))
        cast (inr ne) h = one_known on (kind_of_reference p kind) a.registers o ne (sym (ap (λ z. is_known (kind_at z o)) (one_kind on (kind_of_reference p kind) a.registers (narrow (kind_of_reference p kind) (reference_whole p kind)))) ∙ h)
    after_known (form.InstanceOf to from kind) x y = does (form.InstanceOf to from kind) (Writes Word (inl (refl, refl)) refl)
    after_known (form.ArrayLength to from) x y = does (form.ArrayLength to from) (Writes Word (inl (refl, refl)) refl)
    after_known (form.NewInstance to kind) x y = made_known to kind
    after_known (form.NewArray to size kind) x y = does (form.NewArray to size kind) (Writes (Array kind) (inl (refl, refl)) refl)
    after_known (form.FilledNewArray kind args) x y = λ w h. h
    after_known (form.Cmp op to u v) x y = does (form.Cmp op to u v) (Writes Word (inl (refl, refl)) refl)
    after_known (form.ArrayGet item to array index) x y = does (form.ArrayGet item to array index) (Writes (got p item (kind_at a.registers array))
        (got_takes p item (kind_at a.registers array) (and_left (is_array_where (λ t. item_eq (item_of_type t) item) (kind_at a.registers array)) _ (asked (form.ArrayGet item to array index) x))) refl)
    after_known (form.InstanceGet item to on field) x y = does (form.InstanceGet item to on field) (Writes (kind_of p field.kind)
        (type_takes p field.kind (is_wide_item item) (item_width p item field.kind (neither_of (wrong_item item field.kind) (wrong_field p false field) y).0)) refl)
    after_known (form.StaticGet item to field) x y = does (form.StaticGet item to field) (Writes (kind_of p field.kind)
        (type_takes p field.kind (is_wide_item item) (item_width p item field.kind (neither_of (wrong_item item field.kind) (wrong_field p true field) (neither_of (wrong_item item field.kind || wrong_field p true field) (wrong_first p field) y).0).0)) refl)
    after_known (form.Invoke kind method args) x y = λ w. called_known kind method args
    after_known (form.Unary op to from) x y = does (form.Unary op to from) (Writes (number_kind (unary_writes_wide op)) (number_takes (unary_writes_wide op)) refl)
    after_known (form.Binary op to u v) x y = does (form.Binary op to u v) (Writes (number_kind (binary_is_wide op)) (number_takes (binary_is_wide op)) refl)
    after_known (form.Literal op to u value) x y = does (form.Literal op to u value) (Writes Word (inl (refl, refl)) refl)
    after_known f x y = does f (Nothing refl)
