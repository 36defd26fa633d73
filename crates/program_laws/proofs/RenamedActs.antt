-- What a form does in a frame doesn't depend on the frame's method.
use Rattle.std.proofs.Common.{◌≡◌, ℕ, Bool, true, false, true≢false, List, Option, Some, None, refl, ap}
use Rattle.dalvik_defs.specs.Known.{out_of_bounds}
use Rattle.std.specs.Prelude.{ℤ, pos, negsuc, nat_eq, nat_lt, length, ◌||◌}
use Rattle.std.specs.Int.{w32, cast_unsigned}
use Rattle.insn_set.specs.declared.ops.Slot.{Slot}
use Rattle.insn_set.specs.declared.ops.Slot.TheVariants as slot
use Rattle.insn_set.specs.declared.ops.Item.{Item}
use Rattle.insn_set.specs.declared.ops.Item.TheVariants as item
use Rattle.dalvik_defs.specs.Names.{Text}
use Rattle.dalvik_defs.specs.State.{World, Thing, Instance, Items, is_null, thing_at}
use Rattle.dalvik_defs.specs.declared.state.Value.{Value}
use Rattle.dalvik_defs.specs.declared.state.Frame.{Frame}
use Rattle.dalvik_defs.specs.declared.state.Value.TheVariants.{Word}
use Rattle.dalvik_defs.specs.Effect.{Effect, Goes, Faults, Calls, register, write_slot, write_item, unless_null, next}
use Rattle.dalvik_defs.specs.ActPlain.{move_slot, is_instance, branch, goes_to, switch_target, packed_target}
use Rattle.dalvik_defs.specs.ActArray.{measures, new_array, fills, item_at, reads_item, array_get, may_store, writes_item, put_item, array_put}
use Rattle.dalvik_defs.specs.ActNumber.{number, word, gives_word, gives_wide, binary, sets_number}
use Rattle.dalvik_defs.specs.Operators.{Sort, OnWord, OnWide, Shifts, OnFloat, OnDouble, sort_of, Number, OneWord, OneWide, unary_answer}
use Rattle.dalvik_defs.specs.Arith.{answer, literal_answer, passes, signed}
use Rattle.dalvik_defs.specs.Act.{act}
use Rattle.dalvik_defs.specs.declared.names.MethodKey.{MethodKey}
use Rattle.dalvik_defs.specs.declared.forms.Form.{Form}
use Rattle.dalvik_defs.specs.declared.forms.Form.TheVariants as form
use Rattle.dalvik_defs.specs.declared.tables.Floats.{Floats}
use Rattle.program_laws.specs.Renames.{is_invoke, frame_named, effect_named}

abbrev pub is_call : Effect → Bool
is_call (Calls kind k vs) = true
is_call e = false

module _ (rename : MethodKey → MethodKey) where
  abbrev other : Frame → Frame
  other = frame_named rename

  abbrev same : Effect → Effect
  same = effect_named rename

  slot_named : (x : Slot) (f : Frame) (to from : ℕ) → move_slot x (other f) to from ≡ other (move_slot x f to from)
  slot_named slot.Word f to from = refl
  slot_named slot.Object f to from = refl
  slot_named slot.Wide f to from = refl

  write_named : (x : Slot) (f : Frame) (to : ℕ) (v : Value) → write_slot x (other f) to v ≡ other (write_slot x f to v)
  write_named slot.Word f to v = refl
  write_named slot.Object f to v = refl
  write_named slot.Wide f to v = refl

  pub item_named : (i : Item) (f : Frame) (to : ℕ) (v : Value) → write_item i (other f) to v ≡ other (write_item i f to v)
  item_named item.Wide f to v = refl
  item_named i f to v = refl

  -- the same in the other frame, and no call
  abbrev pub Same : Effect → Effect → Type 0
  Same e' e = (e' ≡ same e) × (is_call e ≡ false)

  if_named : (b : Bool) (x y x' y' : Effect) → Same x' x → Same y' y → Same (elim b as (λ b. Effect) [ true ↦ x' | false ↦ y' ]) (elim b as (λ b. Effect) [ true ↦ x | false ↦ y ])
  if_named true x y x' y' d e = d
  if_named false x y x' y' d e = e

  null_named : (v : Value) (e e' : Effect) → Same e' e → Same (unless_null v e') (unless_null v e)
  null_named v e e' h = if_named (is_null v) _ _ _ _ (refl, refl) h

  module _ (w : World) (f : Frame) where
    branch_named : (b : Bool) (target : ℕ) → Same (branch b w (other f) target) (branch b w f target)
    branch_named true target = (refl, refl)
    branch_named false target = (refl, refl)

    goes_named : (o : Option ℕ) → Same (goes_to o w (other f)) (goes_to o w f)
    goes_named None = (refl, refl)
    goes_named (Some t) = (refl, refl)

    measures_named : (o : Option Thing) (to : ℕ) → Same (measures o w (other f) to) (measures o w f to)
    measures_named None to = (refl, refl)
    measures_named (Some (Items k vs)) to = (refl, refl)
    measures_named (Some (Instance c fs)) to = (refl, refl)

    array_named : (z : ℤ) (kind : Text) (to : ℕ) → Same (new_array z kind w (other f) to) (new_array z kind w f to)
    array_named (pos n) kind to = (refl, refl)
    array_named (negsuc n) kind to = (refl, refl)

    fills_named : (o : Option Thing) (on : Value) (ns : List ℕ) → Same (fills o w (other f) on ns) (fills o w f on ns)
    fills_named None on ns = (refl, refl)
    fills_named (Some (Instance c fs)) on ns = (refl, refl)
    fills_named (Some (Items k vs)) on ns = if_named (nat_lt (length vs) (length ns)) _ _ _ _ (refl, refl) (refl, refl)

    reads_named : (i : Item) (o : Option Value) (to : ℕ) → Same (reads_item i o w (other f) to) (reads_item i o w f to)
    reads_named i None to = (refl, refl)
    reads_named i (Some v) to = (ap (λ g. Goes w (next g)) (item_named i f to v), refl)

    get_named : (i : Item) (o : Option Thing) (to : ℕ) (at : ℤ) → Same (array_get i o w (other f) to at) (array_get i o w f to at)
    get_named i None to at = (refl, refl)
    get_named i (Some (Instance c fs)) to at = (refl, refl)
    get_named i (Some (Items k vs)) to at = reads_named i (item_at vs at) to

    writes_named : (b : Bool) (on : Value) (t : Thing) → Same (writes_item b w (other f) on t) (writes_item b w f on t)
    writes_named true on t = (refl, refl)
    writes_named false on t = (refl, refl)

    put_named : (under : Text → Text → Bool) (i : Item) (o : Option Thing) (v on : Value) (at : ℤ) → Same (array_put under i o w (other f) v on at) (array_put under i o w f v on at)
    put_named under i None v on at = (refl, refl)
    put_named under i (Some (Instance c fs)) v on at = (refl, refl)
    put_named under i (Some (Items k vs)) v on at = by (item_at vs at)
      where
        put : Frame → Option Value → Effect
        put g o = elim o as (λ o. Effect) [ Some old ↦ writes_item (may_store under w i v k) w g on (put_item i k vs at v) | None ↦ Faults out_of_bounds ]

        by : (o : Option Value) → Same (put (other f) o) (put f o)
        by None = (refl, refl)
        by (Some old) = writes_named (may_store under w i v k) on (put_item i k vs at v)

    word_named : (o : Option ℕ) (to : ℕ) → Same (gives_word o w (other f) to) (gives_word o w f to)
    word_named None to = (refl, refl)
    word_named (Some n) to = (refl, refl)

    wide_named : (o : Option ℕ) (to : ℕ) → Same (gives_wide o w (other f) to) (gives_wide o w f to)
    wide_named None to = (refl, refl)
    wide_named (Some n) to = (refl, refl)

    binary_named : (floats : Floats) (x : Sort) (to a b : ℕ) → Same (binary floats x w (other f) to a b) (binary floats x w f to a b)
    binary_named floats (OnWord k) to a b = word_named (answer k false (word f a) (word f b)) to
    binary_named floats (OnWide k) to a b = wide_named (answer k true (number f a) (number f b)) to
    binary_named floats (Shifts k) to a b = wide_named (answer k true (number f a) (number f b)) to
    binary_named floats (OnFloat op) to a b = (refl, refl)
    binary_named floats (OnDouble op) to a b = (refl, refl)

    number_named : (x : Number) (to : ℕ) → Same (sets_number x w (other f) to) (sets_number x w f to)
    number_named (OneWord n) to = (refl, refl)
    number_named (OneWide n) to = (refl, refl)

  module _ (under : Text → Text → Bool) (floats : Floats) (w : World) (f : Frame) where
    by_form : (x : Form) → is_invoke x ≡ false → Same (act under floats x w (other f)) (act under floats x w f)
    by_form (form.Move s to from) q = (ap (λ g. Goes w (next g)) (slot_named s f to from), refl)
    by_form (form.MoveResult s to) q = (ap (λ g. Goes w (next g)) (write_named s f to f.result), refl)
    by_form (form.MonitorEnter on) q = null_named (register f on) _ _ (refl, refl)
    by_form (form.MonitorExit on) q = null_named (register f on) _ _ (if_named (nat_eq (w.locks (register f on)) 0) _ _ _ _ (refl, refl) (refl, refl))
    by_form (form.CheckCast on kind) q = if_named (is_null (register f on) || is_instance under w (register f on) kind) _ _ _ _ (refl, refl) (refl, refl)
    by_form (form.ArrayLength to from) q = null_named (register f from) _ _ (measures_named w f (thing_at w (register f from)) to)
    by_form (form.NewArray to size kind) q = array_named w f (signed false (number f size)) kind to
    by_form (form.FillArray on width items) q = null_named (register f on) _ _ (fills_named w f (thing_at w (register f on)) (register f on) items)
    by_form (form.Throw on) q = null_named (register f on) _ _ (refl, refl)
    by_form (form.PackedSwitch on first targets) q = goes_named w f (packed_target (number f on) first targets)
    by_form (form.SparseSwitch on keys targets) q = goes_named w f (switch_target (signed false (number f on)) keys targets)
    by_form (form.If test a b target) q = branch_named w f (passes test (register f a) (register f b)) target
    by_form (form.IfZero test a target) q = branch_named w f (passes test (register f a) (Word 0)) target
    by_form (form.ArrayGet i to array index) q = null_named (register f array) _ _ (get_named w f i (thing_at w (register f array)) to (signed false (number f index)))
    by_form (form.ArrayPut i from array index) q = null_named (register f array) _ _ (put_named w f under i (thing_at w (register f array)) (register f from) (register f array) (signed false (number f index)))
    by_form (form.InstanceGet i to on field) q = null_named (register f on) _ _ (refl, refl)
    by_form (form.InstancePut i from on field) q = null_named (register f on) _ _ (refl, refl)
    by_form (form.Unary op to from) q = number_named w f (unary_answer floats op (number f from)) to
    by_form (form.Binary op to a b) q = binary_named w f floats (sort_of op) to a b
    by_form (form.Literal op to a value) q = word_named w f (literal_answer op (word f a) (cast_unsigned w32 value)) to
    by_form (form.Invoke kind k args) q = absurd (true≢false q)
    by_form x q = (refl, refl)

pub act_named : (rename : MethodKey → MethodKey) (under : Text → Text → Bool) (floats : Floats) (x : Form) (w : World) (f : Frame) → is_invoke x ≡ false
    → (act under floats x w (frame_named rename f) ≡ effect_named rename (act under floats x w f)) × (is_call (act under floats x w f) ≡ false)
act_named rename under floats x w f q = by_form rename under floats w f x q
