-- No form changes how many registers a frame has.
use Rattle.std.proofs.Common.{◌≡◌, ℕ, zero, suc, ◌+◌, ◌-◌, ℤ, pos, negsuc, Bool, true, false, List, [], ◌∷◌, Option, Some, None, refl, sym, ap, ◌∙◌}
use Rattle.std.specs.Prelude.{◌&&◌, ◌||◌, nat_lt, nat_eq, length, slice_set, slice_index_or, map}
use Rattle.insn_set.specs.declared.ops.Item.{Item}
use Rattle.insn_set.specs.declared.ops.Item.TheVariants as item
use Rattle.insn_set.specs.declared.ops.Slot.{Slot}
use Rattle.insn_set.specs.declared.ops.Slot.TheVariants as slot
use Rattle.insn_set.specs.declared.ops.InvokeKind.{InvokeKind}
use Rattle.insn_set.specs.declared.ops.InvokeKind.TheVariants as call
use Rattle.std.specs.Int.{w32, cast_unsigned}
use Rattle.dalvik_defs.specs.Names.{Text, method_eq, object_constructor}
use Rattle.dalvik_defs.specs.Flags.{is_static, is_native}
use Rattle.dalvik_defs.specs.Known.{null_pointer, bad_cast, bad_monitor, out_of_bounds, abstract_method}
use Rattle.dalvik_defs.specs.Arith.{signed, passes, answer, literal_answer}
use Rattle.dalvik_defs.specs.Operators.{Number, OneWord, OneWide, Sort, unary_answer, sort_of, OnWord, OnWide, Shifts, OnFloat, OnDouble, float_word, float_wide}
use Rattle.dalvik_defs.specs.Items.{fill, stored}
use Rattle.dalvik_defs.specs.Find.{Found, Search, Nothing, Clash, Finds}
use Rattle.dalvik_defs.specs.Face.{Face, Place, Bodies, is_defined}
use Rattle.dalvik_defs.specs.Fields.{with_instance, key_at, static_value, instance_value, with_static}
use Rattle.dalvik_defs.specs.State.{World, Thing, Instance, Items, is_null, word_of, kind_of, thing_at, put_thing, with_thing, next_object, fresh, put_field}
use Rattle.dalvik_defs.specs.declared.state.Value.{Value}
use Rattle.dalvik_defs.specs.declared.state.Value.TheVariants.{Word, Low, High}
use Rattle.dalvik_defs.specs.declared.state.Frame.{Frame}
use Rattle.dalvik_defs.specs.declared.names.MethodKey.{MethodKey}
use Rattle.dalvik_defs.specs.declared.names.FieldKey.{FieldKey}
use Rattle.dalvik_defs.specs.declared.events.Event.TheVariants as event
use Rattle.dalvik_defs.specs.declared.forms.Form.{Form}
use Rattle.dalvik_defs.specs.declared.forms.Form.TheVariants as form
use Rattle.dalvik_defs.specs.declared.tables.Floats.{Floats}
use Rattle.dalvik_defs.specs.Show.{show}
use Rattle.dalvik_defs.specs.Effect.{Effect, Goes, Faults, Throws, Gives, Calls, Makes, Reads, Writes, Locks, Unlocks, Stuck, register, write, write_slot, write_item, next, unless_null}
use Rattle.dalvik_defs.specs.ActPlain.{move_slot, exits, is_instance, truth, branch, goes_to, switch_target, packed_target}
use Rattle.dalvik_defs.specs.ActArray.{measures, new_array, fills, item_at, reads_item, array_get, may_store, writes_item, put_item, array_put}
use Rattle.dalvik_defs.specs.ActNumber.{number, word, gives_word, gives_wide, sets_number, binary}
use Rattle.dalvik_defs.specs.Act.{act}
use Rattle.dalvik_defs.specs.Outcome.{Outcome, Stays, Enters, Need, Ready, Fresh, Broken, faults, when_ready, calls_out, native_kind, takes_no_receiver, calls_uncoded, calls_found, is_direct, calls_by, receiver, on_receiver, calls, makes, reads_value, reads_static, reads_instance, reads, writes_out, written, writes_static, writes_instance, writes, outcome}
use Rattle.dalvik_defs.specs.Happens.{Setting, effect_of, outcome_at}
use Rattle.dalvik_defs.specs.Stack.{form_at, receives, back}

set_length : (xs : List Value) (n : ℕ) (v : Value) → length (slice_set xs n v) ≡ length xs
set_length [] n v = refl
set_length (x ∷ xs) zero v = refl
set_length (x ∷ xs) (suc n) v = ap suc (set_length xs n v)

pub item_length : (i : Item) (f : Frame) (to : ℕ) (v : Value) → length (write_item i f to v).registers ≡ length f.registers
item_length item.Wide f to v = set_length (slice_set f.registers to (Low (word_of v))) (to + 1) (High (word_of v)) ∙ set_length f.registers to (Low (word_of v))
item_length i f to v = set_length f.registers to v

receives_length : (o : Option Form) (f : Frame) (v : Value) → length (receives o f v).registers ≡ length f.registers
receives_length (Some (form.InstanceGet i to on field)) f v = item_length i f to v
receives_length (Some (form.StaticGet i to field)) f v = item_length i f to v
receives_length o f v = refl

pub back_length : (find : Bodies) (f : Frame) (v : Option Value) → length (back find f v).registers ≡ length f.registers
back_length find f (Some v) = receives_length (form_at find f) f v
back_length find f None = refl

module _ (w : World) (f : Frame) where
  -- ---- effects

  abbrev pub EffectSized : Effect → Type 0
  EffectSized (Goes w1 f1) = length f1.registers ≡ length f.registers
  EffectSized e = Unit {0}

  one : (to : ℕ) (v : Value) → length (slice_set f.registers to v) ≡ length f.registers
  one to v = set_length f.registers to v

  pair : (to : ℕ) (a b : Value) → length (slice_set (slice_set f.registers to a) (to + 1) b) ≡ length f.registers
  pair to a b = set_length (slice_set f.registers to a) (to + 1) b ∙ set_length f.registers to a

  if_both : (b : Bool) (x y : Effect) → EffectSized x → EffectSized y → EffectSized (elim b as (λ b. Effect) [ true ↦ x | false ↦ y ])
  if_both true x y g h = g
  if_both false x y g h = h

  if_held : (v : Value) (x : Effect) → EffectSized x → EffectSized (unless_null v x)
  if_held v x g = if_both (is_null v) (Faults null_pointer) x tt g

  moves : (i : Slot) (to from : ℕ) → length (move_slot i f to from).registers ≡ length f.registers
  moves slot.Word to from = one to (register f from)
  moves slot.Object to from = one to (register f from)
  moves slot.Wide to from = pair to (register f from) (register f (from + 1))

  slots : (i : Slot) (to : ℕ) (v : Value) → length (write_slot i f to v).registers ≡ length f.registers
  slots slot.Word to v = one to v
  slots slot.Object to v = one to v
  slots slot.Wide to v = pair to (Low (word_of v)) (High (word_of v))

  measured : (o : Option Thing) (to : ℕ) → EffectSized (measures o w f to)
  measured (Some (Items k vs)) to = one to (Word (length vs))
  measured (Some (Instance c fs)) to = tt
  measured None to = tt

  arrays : (z : ℤ) (kind : Text) (to : ℕ) → EffectSized (new_array z kind w f to)
  arrays (negsuc n) kind to = tt
  arrays (pos n) kind to = one to (next_object w)

  filled : (o : Option Thing) (on : Value) (ns : List ℕ) → EffectSized (fills o w f on ns)
  filled (Some (Items k vs)) on ns = if_both (nat_lt (length vs) (length ns)) (Faults out_of_bounds) (Goes (put_thing w on (Items k (fill k ns vs))) (next f)) tt refl
  filled (Some (Instance c fs)) on ns = tt
  filled None on ns = tt

  read_item : (i : Item) (o : Option Value) (to : ℕ) → EffectSized (reads_item i o w f to)
  read_item i None to = tt
  read_item i (Some v) to = item_length i f to v

  got : (i : Item) (o : Option Thing) (to : ℕ) (at : ℤ) → EffectSized (array_get i o w f to at)
  got i (Some (Items k vs)) to at = read_item i (item_at vs at) to
  got i (Some (Instance c fs)) to at = tt
  got i None to at = tt

  put : (under : Text → Text → Bool) (i : Item) (o : Option Thing) (v on : Value) (at : ℤ) → EffectSized (array_put under i o w f v on at)
  put under i (Some (Items k vs)) v on at = by (item_at vs at)
    where
      done : (b : Bool) → EffectSized (writes_item b w f on (put_item i k vs at v))
      done true = refl
      done false = tt

      by : (x : Option Value) → EffectSized (elim x as (λ x. Effect) [ Some old ↦ writes_item (may_store under w i v k) w f on (put_item i k vs at v) | None ↦ Faults out_of_bounds ])
      by None = tt
      by (Some old) = done (may_store under w i v k)
  put under i (Some (Instance c fs)) v on at = tt
  put under i None v on at = tt

  branches : (b : Bool) (q : ℕ) → EffectSized (branch b w f q)
  branches true q = refl
  branches false q = refl

  jumps : (o : Option ℕ) → EffectSized (goes_to o w f)
  jumps None = refl
  jumps (Some q) = refl

  numbers : (n : Number) (to : ℕ) → EffectSized (sets_number n w f to)
  numbers (OneWord n) to = one to (Word n)
  numbers (OneWide n) to = pair to (Low n) (High n)

  words : (n : Option ℕ) (to : ℕ) → EffectSized (gives_word n w f to)
  words None to = tt
  words (Some n) to = one to (Word n)

  wides : (n : Option ℕ) (to : ℕ) → EffectSized (gives_wide n w f to)
  wides None to = tt
  wides (Some n) to = pair to (Low n) (High n)

  sorts : (floats : Floats) (x : Sort) (to a b : ℕ) → EffectSized (binary floats x w f to a b)
  sorts floats (OnWord k) to a b = words (answer k false (word f a) (word f b)) to
  sorts floats (OnWide k) to a b = wides (answer k true (number f a) (number f b)) to
  sorts floats (Shifts k) to a b = wides (answer k true (number f a) (number f b)) to
  sorts floats (OnFloat op) to a b = words (Some (float_word floats op (number f a) (number f b))) to
  sorts floats (OnDouble op) to a b = wides (Some (float_wide floats op (number f a) (number f b))) to

  act_sized : (under : Text → Text → Bool) (floats : Floats) (x : Form) → EffectSized (act under floats x w f)
  act_sized under floats form.Nop = refl
  act_sized under floats (form.Move slot to from) = moves slot to from
  act_sized under floats (form.MoveResult slot to) = slots slot to f.result
  act_sized under floats (form.MoveException to) = one to f.caught
  act_sized under floats form.ReturnVoid = tt
  act_sized under floats (form.Return slot from) = tt
  act_sized under floats (form.Const to value) = one to _
  act_sized under floats (form.ConstWide to value) = pair to _ _
  act_sized under floats (form.ConstString to text) = one to _
  act_sized under floats (form.ConstClass to kind) = one to _
  act_sized under floats (form.MonitorEnter on) = if_held (register f on) (Locks (register f on)) tt
  act_sized under floats (form.MonitorExit on) = if_held (register f on) (exits w (register f on)) (if_both (nat_eq (w.locks (register f on)) 0) (Faults bad_monitor) (Unlocks (register f on)) tt tt)
  act_sized under floats (form.CheckCast on kind) = if_both (is_null (register f on) || is_instance under w (register f on) kind) (Goes w (next f)) (Faults bad_cast) refl tt
  act_sized under floats (form.InstanceOf to from kind) = one to (truth (is_instance under w (register f from) kind))
  act_sized under floats (form.ArrayLength to from) = if_held (register f from) (measures (thing_at w (register f from)) w f to) (measured (thing_at w (register f from)) to)
  act_sized under floats (form.NewInstance to kind) = tt
  act_sized under floats (form.NewArray to size kind) = arrays (signed false (number f size)) kind to
  act_sized under floats (form.FilledNewArray kind args) = refl
  act_sized under floats (form.FillArray on width items) = if_held (register f on) (fills (thing_at w (register f on)) w f (register f on) items) (filled (thing_at w (register f on)) (register f on) items)
  act_sized under floats (form.Throw on) = if_held (register f on) (Throws (register f on)) tt
  act_sized under floats (form.Goto target) = refl
  act_sized under floats (form.PackedSwitch on first targets) = jumps (packed_target (number f on) first targets)
  act_sized under floats (form.SparseSwitch on keys targets) = jumps (switch_target (signed false (number f on)) keys targets)
  act_sized under floats (form.Cmp op to a b) = one to _
  act_sized under floats (form.If test a b target) = branches (passes test (register f a) (register f b)) target
  act_sized under floats (form.IfZero test a target) = branches (passes test (register f a) (Word 0)) target
  act_sized under floats (form.ArrayGet item to array index) =
      if_held (register f array) (array_get item (thing_at w (register f array)) w f to (signed false (number f index))) (got item (thing_at w (register f array)) to (signed false (number f index)))
  act_sized under floats (form.ArrayPut item from array index) =
      if_held (register f array) (array_put under item (thing_at w (register f array)) w f (register f from) (register f array) (signed false (number f index)))
      (put under item (thing_at w (register f array)) (register f from) (register f array) (signed false (number f index)))
  act_sized under floats (form.InstanceGet item to on field) = if_held (register f on) (Reads item to field (Some (register f on))) tt
  act_sized under floats (form.InstancePut item from on field) = if_held (register f on) (Writes field (Some (register f on)) (stored item (register f from))) tt
  act_sized under floats (form.StaticGet item to field) = tt
  act_sized under floats (form.StaticPut item from field) = tt
  act_sized under floats (form.Invoke kind method args) = tt
  act_sized under floats (form.Unary op to from) = numbers (unary_answer floats op (number f from)) to
  act_sized under floats (form.Binary op to a b) = sorts floats (sort_of op) to a b
  act_sized under floats (form.Literal op to a value) = words (literal_answer op (word f a) (cast_unsigned w32 value)) to

  -- ---- outcomes

  abbrev pub OutcomeSized : Outcome → Type 0
  OutcomeSized (Stays w1 f1 e) = length f1.registers ≡ length f.registers
  OutcomeSized o = Unit {0}

  one_of : (b : Bool) (x y : Outcome) → OutcomeSized x → OutcomeSized y → OutcomeSized (elim b as (λ b. Outcome) [ true ↦ x | false ↦ y ])
  one_of true x y g h = g
  one_of false x y g h = h

  readied : (n : Need) (t : Text) (x : Outcome) → OutcomeSized x → OutcomeSized (when_ready n w t x)
  readied Ready t x g = g
  readied Fresh t x g = tt
  readied Broken t x g = tt

  founds : (kind : InvokeKind) (g : Found) (vs : List Value) → OutcomeSized (calls_found kind g vs w)
  founds kind g vs = one_of g.coded (Enters g.key vs) (calls_uncoded kind g vs w) tt
      (one_of (is_native g.flags) (calls_out (native_kind kind) (takes_no_receiver kind) g.key vs w) (faults w abstract_method) tt tt)

  searched : (need : Text → Need) (kind : InvokeKind) (k : MethodKey) (vs : List Value) (x : Search) → OutcomeSized (calls_by need kind k vs w f x)
  searched need kind k vs Nothing = one_of (is_direct kind && method_eq k object_constructor) (Stays w (next (record f { result = Word 0 })) None) (calls_out kind (takes_no_receiver kind) k vs w) refl tt
  searched need kind k vs Clash = tt
  searched need kind k vs (Finds g) = one_of (is_static g.flags) (when_ready (need g.key.class) w g.key.class (calls_found kind g vs w)) (calls_found kind g vs w)
      (readied (need g.key.class) g.key.class (calls_found kind g vs w) (founds kind g vs)) (founds kind g vs)

  received : (vs : List Value) (x : Outcome) → OutcomeSized x → OutcomeSized (on_receiver vs w x)
  received vs x g = one_of (is_null (receiver vs)) (faults w null_pointer) x tt g

  called : (face : Face) (need : Text → Need) (kind : InvokeKind) (k : MethodKey) (vs : List Value) → OutcomeSized (calls face need kind k vs w f)
  called face need call.Static k vs = searched need call.Static k vs (face.statically k)
  called face need call.Direct k vs = received vs (calls_by need call.Direct k vs w f (face.statically k)) (searched need call.Direct k vs (face.statically k))
  called face need call.Super k vs = received vs (calls_by need call.Super k vs w f (face.above f.method.class k)) (searched need call.Super k vs (face.above f.method.class k))
  called face need call.Virtual k vs = received vs (calls_by need call.Virtual k vs w f (face.virtually (kind_of w (receiver vs)) k)) (searched need call.Virtual k vs (face.virtually (kind_of w (receiver vs)) k))
  called face need call.Interface k vs = received vs (calls_by need call.Interface k vs w f (face.virtually (kind_of w (receiver vs)) k)) (searched need call.Interface k vs (face.virtually (kind_of w (receiver vs)) k))

  made : (face : Face) (need : Text → Need) (to : ℕ) (t : Text) → OutcomeSized (makes face need to t w f)
  made face need to t =
      let new = with_thing w (fresh t) in let g = next (write f to (next_object w)) in
      one_of (is_defined face t) (when_ready (need t) w t (Stays new g None)) (Stays (show new t (next_object w)).0 g (Some (event.Make (show new t (next_object w)).1)))
      (readied (need t) t (Stays new g None) (one to (next_object w))) (one to (next_object w))

  value_read : (i : Item) (to : ℕ) (o : Option Value) → OutcomeSized (reads_value i to o w f)
  value_read i to (Some v) = item_length i f to v
  value_read i to None = tt

  field_reads : (face : Face) (need : Text → Need) (i : Item) (to : ℕ) (k : FieldKey) (on : Option Value) → OutcomeSized (reads face need i to k on w f)
  field_reads face need i to k None = by (face.field k)
    where
      by : (o : Option Place) → OutcomeSized (reads_static need i to k w f o)
      by (Some place) = readied (need place.class) place.class (reads_value i to (Some (static_value w k place)) w f) (value_read i to (Some (static_value w k place)))
      by None = tt
  field_reads face need i to k (Some on) = by (face.field k)
    where
      by : (o : Option Place) → OutcomeSized (reads_instance i to k on w f o)
      by (Some place) = value_read i to (instance_value k place (thing_at w on))
      by None = tt

  puts : (o : Option World) → OutcomeSized (written o f)
  puts None = tt
  puts (Some w1) = refl

  field_puts : (face : Face) (need : Text → Need) (k : FieldKey) (on : Option Value) (v : Value) → OutcomeSized (writes face need k on v w f)
  field_puts face need k None v = by (face.field k)
    where
      by : (o : Option Place) → OutcomeSized (writes_static need k v w f o)
      by (Some place) = readied (need place.class) place.class (Stays (with_static w (key_at k place) v) (next f) None) refl
      by None = refl
  field_puts face need k (Some on) v = by (face.field k)
    where
      by : (o : Option Place) → OutcomeSized (writes_instance k on v w f o)
      by (Some place) = puts (with_instance w (key_at k place) on v (thing_at w on))
      by None = refl

  outcome_sized : (face : Face) (need : Text → Need) (e : Effect) → EffectSized e → OutcomeSized (outcome face need e w f)
  outcome_sized face need (Goes w1 f1) h = h
  outcome_sized face need (Faults t) h = tt
  outcome_sized face need (Throws v) h = tt
  outcome_sized face need (Gives v) h = tt
  outcome_sized face need (Calls kind k vs) h = called face need kind k vs
  outcome_sized face need (Makes to t) h = made face need to t
  outcome_sized face need (Reads i to k on) h = field_reads face need i to k on
  outcome_sized face need (Writes k on v) h = field_puts face need k on v
  outcome_sized face need (Locks v) h = refl
  outcome_sized face need (Unlocks v) h = refl
  outcome_sized face need Stuck h = tt

  pub step_sized : (s : Setting) (find : Bodies) (need : Text → Need) → OutcomeSized (outcome_at s find need w f)
  step_sized s find need = outcome_sized s.face need (effect_of s (form_at find f) w f) (by (form_at find f))
    where
      by : (o : Option Form) → EffectSized (effect_of s o w f)
      by None = tt
      by (Some x) = act_sized s.face.under s.floats x
