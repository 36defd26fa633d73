-- What each form and each outcome leaves refers to what there is.
use Rattle.std.proofs.Common.{◌≡◌, ℕ, ◌+◌, ◌-◌, ℤ, pos, negsuc, Bool, true, false, true≢false, List, Option, Some, None, refl, ap, ◌∙◌, subst}
use Rattle.std.specs.Prelude.{◌&&◌, ◌||◌, nat_lt, nat_eq, length, map, slice_get, slice_set, drop, ◌%◌, ◌^◌}
use Rattle.insn_set.specs.declared.ops.Item.{Item}
use Rattle.insn_set.specs.declared.ops.Item.TheVariants as item
use Rattle.insn_set.specs.declared.ops.Slot.{Slot}
use Rattle.insn_set.specs.declared.ops.Slot.TheVariants as slot
use Rattle.insn_set.specs.declared.ops.InvokeKind.{InvokeKind}
use Rattle.insn_set.specs.declared.ops.InvokeKind.TheVariants as call
use Rattle.dalvik_defs.specs.Names.{Text, method_eq, item_of, is_wide, object_constructor}
use Rattle.dalvik_defs.specs.Flags.{is_static, is_native}
use Rattle.dalvik_defs.specs.Known.{null_pointer, bad_cast, out_of_bounds, bad_monitor, abstract_method, class_change, no_class}
use Rattle.dalvik_defs.specs.Arith.{signed, passes, answer, literal_answer}
use Rattle.std.specs.Int.{w32, w64, cast_unsigned}
use Rattle.lemmas.proofs.Options.{none_some, some_same}
use Rattle.dalvik_defs.specs.declared.events.Event.TheVariants as event
use Rattle.dalvik_defs.specs.Operators.{Number, OneWord, OneWide, Sort, unary_answer, sort_of, OnWord, OnWide, Shifts, OnFloat, OnDouble, float_word, float_wide, comparison}
use Rattle.dalvik_defs.specs.Items.{fill, filled, stored, item_of_type}
use Rattle.dalvik_defs.specs.Find.{Found, Search, Nothing, Clash, Finds}
use Rattle.dalvik_defs.specs.Face.{Face, Place, Bodies, is_defined}
use Rattle.dalvik_defs.specs.Fields.{with_instance, key_at, static_value, instance_value, with_static, first_of, written_or}
use Rattle.dalvik_defs.specs.State.{World, Thing, Instance, Items, is_null, word_of, kind_of, kind_of_thing, thing_at, put_thing, with_thing, next_object, fresh, put_field, zero_of}
use Rattle.dalvik_defs.specs.declared.state.Value.{Value}
use Rattle.dalvik_defs.specs.declared.state.Value.TheVariants.{Word, Low, High, Literal, Class}
use Rattle.dalvik_defs.specs.declared.state.Frame.{Frame}
use Rattle.dalvik_defs.specs.Show.{show, show_option}
use Rattle.dalvik_defs.specs.Effect.{Effect, Goes, Faults, Throws, Gives, Calls, Makes, Reads, Writes, Locks, Unlocks, Stuck, register, write, write_slot, write_item, next, go, sets, sets_wide, unless_null}
use Rattle.dalvik_defs.specs.ActPlain.{move_slot, word_constant, exits, is_instance, truth, branch, goes_to, switch_target, packed_target}
use Rattle.dalvik_defs.specs.ActArray.{measures, zeros, new_array, fills, item_at, reads_item, array_get, may_store, writes_item, put_item, array_put}
use Rattle.dalvik_defs.specs.ActNumber.{number, word, gives_word, gives_wide, sets_number, binary}
use Rattle.dalvik_defs.specs.Act.{act}
use Rattle.dalvik_defs.specs.Outcome.{Outcome, Stays, Enters, Leaves, Ends, Raises, Need, Ready, Fresh, Broken, faults, when_ready, passed_types, calls_out, native_kind, takes_no_receiver, calls_uncoded, calls_found, is_direct, calls_by, receiver, on_receiver, calls, makes, reads_value, reads_static, reads_instance, reads, writes_out, written, writes_static, writes_instance, writes, with_lock, outcome}
use Rattle.dalvik_defs.specs.Happens.{Setting, effect_of, outcome_at}
use Rattle.dalvik_defs.specs.Stack.{form_at}
use Rattle.dalvik_defs.specs.declared.names.MethodKey.{MethodKey}
use Rattle.dalvik_defs.specs.declared.names.FieldKey.{FieldKey}
use Rattle.dalvik_defs.specs.declared.forms.Form.{Form}
use Rattle.dalvik_defs.specs.declared.forms.Form.TheVariants as form
use Rattle.dalvik_defs.specs.declared.tables.Floats.{Floats}
use Rattle.run_laws.specs.Invariant.{Grows}
use Rattle.run_laws.specs.Holds.{Each}
use Rattle.run_laws.specs.Fine.{IsThere, MaybeThere, FineThing, FineWorld, FineFrame}
use Rattle.run_laws.proofs.Growing.{grows_same, grows_with, grows_put, show_heap, option_heap, there_later}
use Rattle.run_laws.proofs.Fine.{frame_later, fine_with, fine_put, new_there, at_there, fine_show, fine_option, fine_all, zero_there, stored_there, fresh_fine, zeros_fine, put_there, each_set, each_get, each_or, each_join, each_drop, each_map}

module _ (w : World) (f : Frame) (fw : FineWorld w) (ff : FineFrame w f) where
  abbrev pub EffectFine : Effect → Type 0
  EffectFine (Goes w1 f1) = FineWorld w1 × FineFrame w1 f1
  EffectFine (Throws v) = IsThere w v
  EffectFine (Gives v) = MaybeThere w v
  EffectFine (Calls kind k vs) = Each (IsThere w) vs
  EffectFine (Reads i to k on) = MaybeThere w on
  EffectFine (Writes k on v) = MaybeThere w on × IsThere w v
  EffectFine (Locks v) = IsThere w v
  EffectFine (Unlocks v) = IsThere w v
  EffectFine e = Unit {0}

  reg : (r : ℕ) → IsThere w (register f r)
  reg r = each_or (IsThere w) f.registers r (Word 0) ff.registers tt

  -- the frame with registers
  with_registers : (vs : List Value) → Each (IsThere w) vs → FineFrame w (record f { registers = vs })
  with_registers vs h = record { registers = h; result = ff.result; caught = ff.caught }

  one : (to : ℕ) (v : Value) → IsThere w v → EffectFine (sets w f to v)
  one to v h = (fw, record { registers = each_set (IsThere w) f.registers to v ff.registers h; result = ff.result; caught = ff.caught })

  pair : (to n : ℕ) → EffectFine (sets_wide w f to n)
  pair to n = (fw, record { registers = each_set (IsThere w) (slice_set f.registers to (Low n)) (to + 1) (High n) (each_set (IsThere w) f.registers to (Low n) ff.registers tt) tt; result = ff.result; caught = ff.caught })

  here : (q : ℕ) → EffectFine (Goes w (go f q))
  here q = (fw, record { registers = ff.registers; result = ff.result; caught = ff.caught })

  in_world : (w1 : World) → Grows w w1 → FineWorld w1 → EffectFine (Goes w1 (next f))
  in_world w1 g h = let k = frame_later w w1 f g ff in (h, record { registers = k.registers; result = k.result; caught = k.caught })

  if_both : (b : Bool) (x y : Effect) → EffectFine x → EffectFine y → EffectFine (elim b as (λ b. Effect) [ true ↦ x | false ↦ y ])
  if_both true x y g h = g
  if_both false x y g h = h

  if_held : (v : Value) (x : Effect) → EffectFine x → EffectFine (unless_null v x)
  if_held v x g = if_both (is_null v) (Faults null_pointer) x tt g

  moves : (s : Slot) (to from : ℕ) → EffectFine (Goes w (next (move_slot s f to from)))
  moves slot.Word to from = one to (register f from) (reg from)
  moves slot.Object to from = one to (register f from) (reg from)
  moves slot.Wide to from = (fw, record { registers = each_set (IsThere w) (slice_set f.registers to (register f from)) (to + 1) (register f (from + 1)) (each_set (IsThere w) f.registers to (register f from) ff.registers (reg from)) (reg (from + 1)); result = ff.result; caught = ff.caught })

  slots : (s : Slot) (to : ℕ) (v : Value) → IsThere w v → EffectFine (Goes w (next (write_slot s f to v)))
  slots slot.Word to v h = one to v h
  slots slot.Object to v h = one to v h
  slots slot.Wide to v h = pair to (word_of v)

  item_to : (i : Item) (to : ℕ) (v : Value) → IsThere w v → EffectFine (Goes w (next (write_item i f to v)))
  item_to item.Wide to v h = pair to (word_of v)
  item_to i to v h = one to v h

  measured : (o : Option Thing) (to : ℕ) → EffectFine (measures o w f to)
  measured (Some (Items k vs)) to = one to (Word (length vs)) tt
  measured (Some (Instance c fs)) to = tt
  measured None to = tt

  arrays : (z : ℤ) (kind : Text) (to : ℕ) → EffectFine (new_array z kind w f to)
  arrays (negsuc n) kind to = tt
  arrays (pos n) kind to = let t = zeros (item_of kind) n in let w1 = with_thing w t in let k = frame_later w w1 f (grows_with w t) ff in
      (fine_with w t fw (zeros_fine w (item_of kind) n), record { registers = each_set (IsThere w1) f.registers to (next_object w) k.registers (new_there w t); result = k.result; caught = k.caught })

  listed : (rs : List ℕ) → Each (IsThere w) (map (register f) rs)
  listed rs = each_map (IsThere w) (register f) reg rs

  filled_there : (k : Text) (n : ℕ) → IsThere w (filled k n)
  filled_there k n = by (is_wide k)
    where
      by : (b : Bool) → IsThere w (elim b as (λ b. Value) [ true ↦ Low n | false ↦ stored (item_of_type k) (Word (n % 2 ^ 32)) ])
      by true = tt
      by false = stored_there w (item_of_type k) (Word (n % 2 ^ 32)) tt

  fills_fine : (o : Option Thing) (on : Value) (ns : List ℕ) → thing_at w on ≡ o → EffectFine (fills o w f on ns)
  fills_fine (Some (Items k vs)) on ns e = let t = Items k (fill k ns vs) in
      if_both (nat_lt (length vs) (length ns)) (Faults out_of_bounds) (Goes (put_thing w on t) (next f)) tt
      (in_world (put_thing w on t) (grows_put w on (Items k vs) t e refl) (fine_put w on (Items k vs) t e refl fw
      (each_join (IsThere w) (map (filled k) ns) (drop (length ns) vs) (each_map (IsThere w) (filled k) (filled_there k) ns) (each_drop (IsThere w) (length ns) vs (at_there w on (Items k vs) fw e)))))
  fills_fine (Some (Instance c fs)) on ns e = tt
  fills_fine None on ns e = tt

  item_there : (vs : List Value) (at : ℤ) → Each (IsThere w) vs → MaybeThere w (item_at vs at)
  item_there vs (negsuc n) h = tt
  item_there vs (pos n) h = by (slice_get vs n) refl
    where
      by : (o : Option Value) → slice_get vs n ≡ o → MaybeThere w o
      by None e = tt
      by (Some v) e = each_get (IsThere w) vs n v h e

  reads_fine : (i : Item) (o : Option Value) (to : ℕ) → MaybeThere w o → EffectFine (reads_item i o w f to)
  reads_fine i None to h = tt
  reads_fine i (Some v) to h = item_to i to v h

  get_fine : (i : Item) (on : Value) (o : Option Thing) (to : ℕ) (at : ℤ) → thing_at w on ≡ o → EffectFine (array_get i o w f to at)
  get_fine i on (Some (Items k vs)) to at e = reads_fine i (item_at vs at) to (item_there vs at (at_there w on (Items k vs) fw e))
  get_fine i on (Some (Instance c fs)) to at e = tt
  get_fine i on None to at e = tt

  put_kind : (i : Item) (k : Text) (vs : List Value) (at : ℤ) (v : Value) → kind_of_thing (put_item i k vs at v) ≡ kind_of_thing (Items k vs)
  put_kind i k vs (pos n) v = refl
  put_kind i k vs (negsuc n) v = refl

  put_item_fine : (i : Item) (k : Text) (vs : List Value) (at : ℤ) (v : Value) → Each (IsThere w) vs → IsThere w v → FineThing w (put_item i k vs at v)
  put_item_fine i k vs (pos n) v h j = each_set (IsThere w) vs n (stored i v) h (stored_there w i v j)
  put_item_fine i k vs (negsuc n) v h j = h

  put_fine : (under : Text → Text → Bool) (i : Item) (o : Option Thing) (v on : Value) (at : ℤ) → thing_at w on ≡ o → IsThere w v → EffectFine (array_put under i o w f v on at)
  put_fine under i (Some (Items k vs)) v on at e h = by (item_at vs at)
    where
      written_fine : (b : Bool) → EffectFine (writes_item b w f on (put_item i k vs at v))
      written_fine true = let t = put_item i k vs at v in in_world (put_thing w on t) (grows_put w on (Items k vs) t e (put_kind i k vs at v)) (fine_put w on (Items k vs) t e (put_kind i k vs at v) fw (put_item_fine i k vs at v (at_there w on (Items k vs) fw e) h))
      written_fine false = tt

      by : (x : Option Value) → EffectFine (elim x as (λ x. Effect) [ Some old ↦ writes_item (may_store under w i v k) w f on (put_item i k vs at v) | None ↦ Faults out_of_bounds ])
      by None = tt
      by (Some old) = written_fine (may_store under w i v k)
  put_fine under i (Some (Instance c fs)) v on at e h = tt
  put_fine under i None v on at e h = tt

  branches : (b : Bool) (q : ℕ) → EffectFine (branch b w f q)
  branches true q = here q
  branches false q = here (f.position + 1)

  goes_fine : (o : Option ℕ) → EffectFine (goes_to o w f)
  goes_fine None = here (f.position + 1)
  goes_fine (Some q) = here q

  numbers : (n : Number) (to : ℕ) → EffectFine (sets_number n w f to)
  numbers (OneWord n) to = one to (Word n) tt
  numbers (OneWide n) to = pair to n

  words : (n : Option ℕ) (to : ℕ) → EffectFine (gives_word n w f to)
  words None to = tt
  words (Some n) to = one to (Word n) tt

  wides : (n : Option ℕ) (to : ℕ) → EffectFine (gives_wide n w f to)
  wides None to = tt
  wides (Some n) to = pair to n

  sorts : (floats : Floats) (x : Sort) (to a b : ℕ) → EffectFine (binary floats x w f to a b)
  sorts floats (OnWord k) to a b = words (answer k false (word f a) (word f b)) to
  sorts floats (OnWide k) to a b = wides (answer k true (number f a) (number f b)) to
  sorts floats (Shifts k) to a b = wides (answer k true (number f a) (number f b)) to
  sorts floats (OnFloat op) to a b = words (Some (float_word floats op (number f a) (number f b))) to
  sorts floats (OnDouble op) to a b = wides (Some (float_wide floats op (number f a) (number f b))) to

  truths : (to : ℕ) (b : Bool) → EffectFine (sets w f to (truth b))
  truths to true = one to (Word 1) tt
  truths to false = one to (Word 0) tt

  pub act_fine : (under : Text → Text → Bool) (floats : Floats) (x : Form) → EffectFine (act under floats x w f)
  act_fine under floats form.Nop = here (f.position + 1)
  act_fine under floats (form.Move slot to from) = moves slot to from
  act_fine under floats (form.MoveResult slot to) = slots slot to f.result ff.result
  act_fine under floats (form.MoveException to) = one to f.caught ff.caught
  act_fine under floats form.ReturnVoid = tt
  act_fine under floats (form.Return slot from) = reg from
  act_fine under floats (form.Const to value) = one to (word_constant value) tt
  act_fine under floats (form.ConstWide to value) = pair to (cast_unsigned w64 value)
  act_fine under floats (form.ConstString to text) = one to (Literal text) tt
  act_fine under floats (form.ConstClass to kind) = one to (Class kind) tt
  act_fine under floats (form.MonitorEnter on) = if_held (register f on) (Locks (register f on)) (reg on)
  act_fine under floats (form.MonitorExit on) = if_held (register f on) (exits w (register f on)) (if_both (nat_eq (w.locks (register f on)) 0) (Faults bad_monitor) (Unlocks (register f on)) tt (reg on))
  act_fine under floats (form.CheckCast on kind) = if_both (is_null (register f on) || is_instance under w (register f on) kind) (Goes w (next f)) (Faults bad_cast) (here (f.position + 1)) tt
  act_fine under floats (form.InstanceOf to from kind) = truths to (is_instance under w (register f from) kind)
  act_fine under floats (form.ArrayLength to from) = if_held (register f from) (measures (thing_at w (register f from)) w f to) (measured (thing_at w (register f from)) to)
  act_fine under floats (form.NewInstance to kind) = tt
  act_fine under floats (form.NewArray to size kind) = arrays (signed false (number f size)) kind to
  act_fine under floats (form.FilledNewArray kind args) = let t = Items (item_of kind) (map (register f) args) in let k = frame_later w (with_thing w t) f (grows_with w t) ff in
      (fine_with w t fw (listed args), record { registers = k.registers; result = new_there w t; caught = k.caught })
  act_fine under floats (form.FillArray on width items) = if_held (register f on) (fills (thing_at w (register f on)) w f (register f on) items) (fills_fine (thing_at w (register f on)) (register f on) items refl)
  act_fine under floats (form.Throw on) = if_held (register f on) (Throws (register f on)) (reg on)
  act_fine under floats (form.Goto target) = here target
  act_fine under floats (form.PackedSwitch on first targets) = goes_fine (packed_target (number f on) first targets)
  act_fine under floats (form.SparseSwitch on keys targets) = goes_fine (switch_target (signed false (number f on)) keys targets)
  act_fine under floats (form.Cmp op to a b) = one to (Word (comparison floats op (number f a) (number f b))) tt
  act_fine under floats (form.If test a b target) = branches (passes test (register f a) (register f b)) target
  act_fine under floats (form.IfZero test a target) = branches (passes test (register f a) (Word 0)) target
  act_fine under floats (form.ArrayGet item to array index) = if_held (register f array) (array_get item (thing_at w (register f array)) w f to (signed false (number f index)))
      (get_fine item (register f array) (thing_at w (register f array)) to (signed false (number f index)) refl)
  act_fine under floats (form.ArrayPut item from array index) =
      if_held (register f array) (array_put under item (thing_at w (register f array)) w f (register f from) (register f array) (signed false (number f index)))
      (put_fine under item (thing_at w (register f array)) (register f from) (register f array) (signed false (number f index)) refl (reg from))
  act_fine under floats (form.InstanceGet item to on field) = if_held (register f on) (Reads item to field (Some (register f on))) (reg on)
  act_fine under floats (form.InstancePut item from on field) = if_held (register f on) (Writes field (Some (register f on)) (stored item (register f from))) (reg on, stored_there w item (register f from) (reg from))
  act_fine under floats (form.StaticGet item to field) = tt
  act_fine under floats (form.StaticPut item from field) = (tt, stored_there w item (register f from) (reg from))
  act_fine under floats (form.Invoke kind method args) = listed args
  act_fine under floats (form.Unary op to from) = numbers (unary_answer floats op (number f from)) to
  act_fine under floats (form.Binary op to a b) = sorts floats (sort_of op) to a b
  act_fine under floats (form.Literal op to a value) = words (literal_answer op (word f a) (cast_unsigned w32 value)) to

  -- ---- outcomes

  abbrev pub OutcomeFine : Outcome → Type 0
  OutcomeFine (Stays w1 f1 e) = FineWorld w1 × FineFrame w1 f1
  OutcomeFine (Enters k vs) = Each (IsThere w) vs
  OutcomeFine (Leaves w1 owes e) = FineWorld w1
  OutcomeFine (Ends v) = MaybeThere w v
  OutcomeFine (Raises w1 v) = FineWorld w1 × IsThere w1 v
  OutcomeFine o = Unit {0}

  faulted : (t : Text) → OutcomeFine (faults w t)
  faulted t = (fine_with w (fresh t) fw (fresh_fine w t), new_there w (fresh t))

  one_of : (b : Bool) (x y : Outcome) → OutcomeFine x → OutcomeFine y → OutcomeFine (elim b as (λ b. Outcome) [ true ↦ x | false ↦ y ])
  one_of true x y g h = g
  one_of false x y g h = h

  readied : (n : Need) (t : Text) (x : Outcome) → OutcomeFine x → OutcomeFine (when_ready n w t x)
  readied Ready t x g = g
  readied Fresh t x g = tt
  readied Broken t x g = faulted no_class

  outs : (kind : InvokeKind) (static : Bool) (k : MethodKey) (vs : List Value) → Each (IsThere w) vs → OutcomeFine (calls_out kind static k vs w)
  outs kind static k vs h = fine_all (passed_types static k) w vs fw h

  founds : (kind : InvokeKind) (g : Found) (vs : List Value) → Each (IsThere w) vs → OutcomeFine (calls_found kind g vs w)
  founds kind g vs h = one_of g.coded (Enters g.key vs) (calls_uncoded kind g vs w) h
      (one_of (is_native g.flags) (calls_out (native_kind kind) (takes_no_receiver kind) g.key vs w) (faults w abstract_method) (outs (native_kind kind) (takes_no_receiver kind) g.key vs h) (faulted abstract_method))

  searched : (need : Text → Need) (kind : InvokeKind) (k : MethodKey) (vs : List Value) (x : Search) → Each (IsThere w) vs → OutcomeFine (calls_by need kind k vs w f x)
  searched need kind k vs Nothing h = one_of (is_direct kind && method_eq k object_constructor) (Stays w (next (record f { result = Word 0 })) None) (calls_out kind (takes_no_receiver kind) k vs w)
      (fw, record { registers = ff.registers; result = tt; caught = ff.caught }) (outs kind (takes_no_receiver kind) k vs h)
  searched need kind k vs Clash h = faulted class_change
  searched need kind k vs (Finds g) h = one_of (is_static g.flags) (when_ready (need g.key.class) w g.key.class (calls_found kind g vs w)) (calls_found kind g vs w)
      (readied (need g.key.class) g.key.class (calls_found kind g vs w) (founds kind g vs h)) (founds kind g vs h)

  received : (vs : List Value) (x : Outcome) → OutcomeFine x → OutcomeFine (on_receiver vs w x)
  received vs x g = one_of (is_null (receiver vs)) (faults w null_pointer) x (faulted null_pointer) g

  called : (face : Face) (need : Text → Need) (kind : InvokeKind) (k : MethodKey) (vs : List Value) → Each (IsThere w) vs → OutcomeFine (calls face need kind k vs w f)
  called face need call.Static k vs h = searched need call.Static k vs (face.statically k) h
  called face need call.Direct k vs h = received vs (calls_by need call.Direct k vs w f (face.statically k)) (searched need call.Direct k vs (face.statically k) h)
  called face need call.Super k vs h = received vs (calls_by need call.Super k vs w f (face.above f.method.class k)) (searched need call.Super k vs (face.above f.method.class k) h)
  called face need call.Virtual k vs h = received vs (calls_by need call.Virtual k vs w f (face.virtually (kind_of w (receiver vs)) k)) (searched need call.Virtual k vs (face.virtually (kind_of w (receiver vs)) k) h)
  called face need call.Interface k vs h = received vs (calls_by need call.Interface k vs w f (face.virtually (kind_of w (receiver vs)) k)) (searched need call.Interface k vs (face.virtually (kind_of w (receiver vs)) k) h)

  -- a frame with a register for a new object
  made_frame : (t : Text) (to : ℕ) → FineFrame (with_thing w (fresh t)) (next (write f to (next_object w)))
  made_frame t to = let w1 = with_thing w (fresh t) in let k = frame_later w w1 f (grows_with w (fresh t)) ff in
      record { registers = each_set (IsThere w1) f.registers to (next_object w) k.registers (new_there w (fresh t)); result = k.result; caught = k.caught }

  makes_fine : (face : Face) (need : Text → Need) (to : ℕ) (t : Text) → OutcomeFine (makes face need to t w f)
  makes_fine face need to t =
      let made = with_thing w (fresh t) in let g = next (write f to (next_object w)) in let fm = fine_with w (fresh t) fw (fresh_fine w t) in
      one_of (is_defined face t) (when_ready (need t) w t (Stays made g None)) (Stays (show made t (next_object w)).0 g (Some (event.Make (show made t (next_object w)).1)))
      (readied (need t) t (Stays made g None) (fm, made_frame t to))
      (fine_show made t (next_object w) fm (new_there w (fresh t)), frame_later made (show made t (next_object w)).0 g (grows_same made (show made t (next_object w)).0 (show_heap made t (next_object w))) (made_frame t to))

  value_read : (i : Item) (to : ℕ) (o : Option Value) → MaybeThere w o → OutcomeFine (reads_value i to o w f)
  value_read i to (Some v) h = item_to i to v h
  value_read i to None h = tt

  maybe : (o : Option Value) → MaybeThere w o → (v : Value) → o ≡ Some v → IsThere w v
  maybe None h v e = none_some v e
  maybe (Some u) h v e = subst (IsThere w) (some_same u v e) h

  or_there : (o : Option Value) (z : Value) → ((v : Value) → o ≡ Some v → IsThere w v) → IsThere w z → IsThere w (written_or o z)
  or_there (Some v) z h k = h v refl
  or_there None z h k = k

  -- the first values of fields refer to no object
  module _ (firsts : (k : FieldKey) (place : Place) → IsThere w (first_of k place)) where
    static_there : (k : FieldKey) (place : Place) → IsThere w (static_value w k place)
    static_there k place = or_there (w.statics (key_at k place)) (first_of k place) (λ v e. fw.statics (key_at k place) v e) (firsts k place)

    instance_there : (k : FieldKey) (place : Place) (on : Value) (o : Option Thing) → thing_at w on ≡ o → MaybeThere w (instance_value k place o)
    instance_there k place on (Some (Instance c fields)) e = or_there (fields (key_at k place)) (zero_of k.kind) (λ v i. at_there w on (Instance c fields) fw e (key_at k place) v i) (zero_there w k.kind)
    instance_there k place on (Some (Items kind vs)) e = tt
    instance_there k place on None e = tt

    read_out : (k : FieldKey) (on : Option Value) → MaybeThere w on → FineWorld (show_option w k.class on).0
    read_out k on h = fine_option w k.class on fw (maybe on h)

    field_reads : (face : Face) (need : Text → Need) (i : Item) (to : ℕ) (k : FieldKey) (on : Option Value) → MaybeThere w on → OutcomeFine (reads face need i to k on w f)
    field_reads face need i to k None h = by (face.field k)
      where
        by : (o : Option Place) → OutcomeFine (reads_static need i to k w f o)
        by (Some place) = readied (need place.class) place.class (reads_value i to (Some (static_value w k place)) w f) (value_read i to (Some (static_value w k place)) (static_there k place))
        by None = read_out k None tt
    field_reads face need i to k (Some on) h = by (face.field k)
      where
        by : (o : Option Place) → OutcomeFine (reads_instance i to k on w f o)
        by (Some place) = value_read i to (instance_value k place (thing_at w on)) (instance_there k place on (thing_at w on) refl)
        by None = read_out k (Some on) h

    statics_put : (k : FieldKey) (v : Value) → IsThere w v → FineWorld (with_static w k v)
    statics_put k v h = record { statics = λ j u e. put_there w k v w.statics (λ i z q. fw.statics i z q) h j u e; things = fw.things; exposed = fw.exposed }

    frame_shown : (w1 : World) → w1.heap ≡ w.heap → FineFrame w1 (next f)
    frame_shown w1 e = let k = frame_later w w1 f (grows_same w w1 e) ff in record { registers = k.registers; result = k.result; caught = k.caught }

    put_out : (k : FieldKey) (on : Option Value) (v : Value) → MaybeThere w on → IsThere w v → OutcomeFine (writes_out k on v w f)
    put_out k on v h i = let w1 = (show_option w k.class on).0 in (
      fine_show w1 k.kind v (fine_option w k.class on fw (maybe on h)) (there_later w w1 (grows_same w w1 (option_heap w k.class on)) v i),
      frame_shown (show w1 k.kind v).0 (show_heap w1 k.kind v ∙ option_heap w k.class on),
    )

    instance_put : (k : FieldKey) (on v : Value) (o : Option Thing) → thing_at w on ≡ o → IsThere w v → OutcomeFine (written (with_instance w k on v o) f)
    instance_put k on v (Some (Instance c fields)) e i = let t = Instance c (put_field k v fields) in
        in_world (put_thing w on t) (grows_put w on (Instance c fields) t e refl) (fine_put w on (Instance c fields) t e refl fw (put_there w k v fields (at_there w on (Instance c fields) fw e) i))
    instance_put k on v (Some (Items kind vs)) e i = tt
    instance_put k on v None e i = tt

    field_puts : (face : Face) (need : Text → Need) (k : FieldKey) (on : Option Value) (v : Value) → MaybeThere w on → IsThere w v → OutcomeFine (writes face need k on v w f)
    field_puts face need k None v h i = by (face.field k)
      where
        by : (o : Option Place) → OutcomeFine (writes_static need k v w f o)
        by (Some place) = readied (need place.class) place.class (Stays (with_static w (key_at k place) v) (next f) None) (statics_put (key_at k place) v i, frame_shown (with_static w (key_at k place) v) refl)
        by None = put_out k None v tt i
    field_puts face need k (Some on) v h i = by (face.field k)
      where
        by : (o : Option Place) → OutcomeFine (writes_instance k on v w f o)
        by (Some place) = instance_put (key_at k place) on v (thing_at w on) refl i
        by None = put_out k (Some on) v h i

    lock_fine : (v : Value) (n : ℕ) → IsThere w v → FineWorld (with_lock (show w (kind_of w v) v).0 v n)
    lock_fine v n h = let k = fine_show w (kind_of w v) v fw h in record { statics = k.statics; things = k.things; exposed = k.exposed }

    outcome_fine : (face : Face) (need : Text → Need) (e : Effect) → EffectFine e → OutcomeFine (outcome face need e w f)
    outcome_fine face need (Goes w1 f1) h = h
    outcome_fine face need (Faults t) h = faulted t
    outcome_fine face need (Throws v) h = (fw, h)
    outcome_fine face need (Gives v) h = h
    outcome_fine face need (Calls kind k vs) h = called face need kind k vs h
    outcome_fine face need (Makes to t) h = makes_fine face need to t
    outcome_fine face need (Reads i to k on) h = field_reads face need i to k on h
    outcome_fine face need (Writes k on v) h = field_puts face need k on v h.0 h.1
    outcome_fine face need (Locks v) h = (lock_fine v (w.locks v + 1) h, frame_shown (with_lock (show w (kind_of w v) v).0 v (w.locks v + 1)) (show_heap w (kind_of w v) v))
    outcome_fine face need (Unlocks v) h = (lock_fine v (w.locks v - 1) h, frame_shown (with_lock (show w (kind_of w v) v).0 v (w.locks v - 1)) (show_heap w (kind_of w v) v))
    outcome_fine face need Stuck h = tt

    pub step_fine : (s : Setting) (find : Bodies) (need : Text → Need) → OutcomeFine (outcome_at s find need w f)
    step_fine s find need = outcome_fine s.face need (effect_of s (form_at find f) w f) (by (form_at find f))
      where
        by : (o : Option Form) → EffectFine (effect_of s o w f)
        by None = tt
        by (Some x) = act_fine s.face.under s.floats x
