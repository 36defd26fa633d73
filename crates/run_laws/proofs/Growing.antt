-- What a step in a frame leaves: a world in which each thing that there was has its kind, and a frame of the same method.
use Rattle.std.proofs.Common.{◌≡◌, ℕ, zero, suc, ◌+◌, ◌-◌, ℤ, pos, negsuc, Bool, true, false, true≢false, List, [], ◌∷◌, ◌++◌, Option, Some, None, refl, sym, ◌∙◌, subst}
use Rattle.std.specs.Prelude.{◌&&◌, ◌||◌, nat_lt, nat_eq, length, map, slice_get, slice_set, is_some}
use Rattle.insn_set.specs.declared.ops.Item.{Item}
use Rattle.insn_set.specs.declared.ops.Item.TheVariants as item
use Rattle.insn_set.specs.declared.ops.Slot.{Slot}
use Rattle.insn_set.specs.declared.ops.Slot.TheVariants as slot
use Rattle.insn_set.specs.declared.ops.InvokeKind.{InvokeKind}
use Rattle.insn_set.specs.declared.ops.InvokeKind.TheVariants as call
use Rattle.dalvik_defs.specs.Names.{Text, method_eq, item_of, object_constructor}
use Rattle.dalvik_defs.specs.Flags.{is_static, is_native}
use Rattle.dalvik_defs.specs.Known.{null_pointer, bad_cast, out_of_bounds, bad_monitor, abstract_method, class_change, no_class}
use Rattle.dalvik_defs.specs.Arith.{signed, passes, answer, literal_answer}
use Rattle.std.specs.Int.{w32, cast_unsigned}
use Rattle.dalvik_defs.specs.declared.events.Event.TheVariants as event
use Rattle.dalvik_defs.specs.Operators.{Number, OneWord, OneWide, Sort, unary_answer, sort_of, OnWord, OnWide, Shifts, OnFloat, OnDouble}
use Rattle.dalvik_defs.specs.Items.{fill, stored}
use Rattle.dalvik_defs.specs.Find.{Found, Search, Nothing, Clash, Finds}
use Rattle.dalvik_defs.specs.Face.{Face, Place, Bodies, is_defined}
use Rattle.dalvik_defs.specs.Fields.{with_instance, key_at, static_value, instance_value, with_static}
use Rattle.dalvik_defs.specs.State.{World, Thing, Instance, Items, is_null, kind_of, kind_of_thing, thing_at, put_thing, with_thing, next_object, fresh, put_field}
use Rattle.dalvik_defs.specs.declared.state.Value.{Value}
use Rattle.dalvik_defs.specs.declared.state.Value.TheVariants.{Word, Object}
use Rattle.dalvik_defs.specs.declared.state.Frame.{Frame}
use Rattle.dalvik_defs.specs.declared.events.Shown.{Shown}
use Rattle.dalvik_defs.specs.declared.events.Shown.TheVariants as shown
use Rattle.dalvik_defs.specs.Show.{place_in, mark_printed, is_printed, show_at, show, show_all, skip, show_option}
use Rattle.dalvik_defs.specs.Effect.{Effect, Goes, Faults, Throws, Gives, Calls, Makes, Reads, Writes, Locks, Unlocks, Stuck, register, write, write_slot, write_item, next, unless_null}
use Rattle.dalvik_defs.specs.ActPlain.{move_slot, exits, is_instance, branch, goes_to, switch_target, packed_target}
use Rattle.dalvik_defs.specs.ActArray.{measures, zeros, new_array, fills, item_at, reads_item, array_get, may_store, writes_item, put_item, array_put}
use Rattle.dalvik_defs.specs.ActNumber.{number, word, gives_word, gives_wide, sets_number, binary}
use Rattle.dalvik_defs.specs.Act.{act}
use Rattle.dalvik_defs.specs.Outcome.{Outcome, Stays, Enters, Leaves, Raises, Need, Ready, Fresh, Broken, faults, when_ready, passed_types, calls_out, native_kind, takes_no_receiver, calls_uncoded, calls_found, is_direct, calls_by, receiver, on_receiver, calls, makes, reads_value, reads_static, reads_instance, reads, writes_out, written, writes_static, writes_instance, writes, with_lock, outcome}
use Rattle.dalvik_defs.specs.Happens.{Setting, effect_of, outcome_at}
use Rattle.dalvik_defs.specs.Stack.{form_at, receives, back}
use Rattle.dalvik_defs.specs.declared.names.MethodKey.{MethodKey}
use Rattle.dalvik_defs.specs.declared.names.FieldKey.{FieldKey}
use Rattle.dalvik_defs.specs.declared.forms.Form.{Form}
use Rattle.dalvik_defs.specs.declared.forms.Form.TheVariants as form
use Rattle.dalvik_defs.specs.declared.tables.Floats.{Floats}
use Rattle.run_laws.specs.Invariant.{HasKind, Longer, Grows}
use Rattle.run_laws.specs.Fine.{IsThere}

-- ---- things

longer_append : (xs : List Thing) (t : Thing) → Longer xs (xs ++ t ∷ [])
longer_append [] t n k h = absurd h
longer_append (x ∷ xs) t zero k h = h
longer_append (x ∷ xs) t (suc n) k h = longer_append xs t n k h

longer_set : (xs : List Thing) (m : ℕ) (t : Thing) → ((k : Text) → HasKind k (slice_get xs m) → kind_of_thing t ≡ k) → Longer xs (slice_set xs m t)
longer_set [] m t e n k h = h
longer_set (x ∷ xs) zero t e zero k h = e k h
longer_set (x ∷ xs) zero t e (suc n) k h = h
longer_set (x ∷ xs) (suc m) t e zero k h = h
longer_set (x ∷ xs) (suc m) t e (suc n) k h = longer_set xs m t e n k h

pub grows_same : (w w1 : World) → w1.heap ≡ w.heap → Grows w w1
grows_same w w1 e = record { things = λ n k h. subst (λ xs. HasKind k (slice_get xs n)) (sym e) h }

pub grows_then : (w w1 w2 : World) → Grows w w1 → Grows w1 w2 → Grows w w2
grows_then w w1 w2 g h = record { things = λ n k x. h.things n k (g.things n k x) }

pub grows_with : (w : World) (t : Thing) → Grows w (with_thing w t)
grows_with w t = record { things = longer_append w.heap t }

pub grows_put : (w : World) (v : Value) (old t : Thing) → thing_at w v ≡ Some old → kind_of_thing t ≡ kind_of_thing old → Grows w (put_thing w v t)
grows_put w (Object n) old t e i = record { things = longer_set w.heap n t (λ k h. i ∙ subst (HasKind k) e h) }
grows_put w v old t e i = grows_same w (put_thing w v t) refl

one_kind : (o : Option Thing) (k l : Text) → HasKind k o → HasKind l o → k ≡ l
one_kind None k l g h = absurd g
one_kind (Some t) k l g h = sym g ∙ h

-- another thing of its kind in a later world
pub grows_over : (w w1 : World) (v : Value) (old t : Thing) → Grows w w1 → thing_at w v ≡ Some old → kind_of_thing t ≡ kind_of_thing old → Grows w1 (put_thing w1 v t)
grows_over w w1 (Object n) old t g e i = record {
  things = longer_set w1.heap n t (λ k h. i ∙ one_kind (slice_get w1.heap n) (kind_of_thing old) k
      (g.things n (kind_of_thing old) (subst (HasKind (kind_of_thing old)) (sym e) refl)) h);
}
grows_over w w1 v old t g e i = grows_same w1 (put_thing w1 v t) refl

-- what an object, a text or a class is of, it stays
pub kept_kind : (w w1 : World) → Grows w w1 → (n : ℕ) (k : Text) → HasKind k (slice_get w.heap n) → kind_of w1 (Object n) ≡ kind_of w (Object n)
kept_kind w w1 g n k h = by (slice_get w1.heap n) (g.things n k h) ∙ sym (by (slice_get w.heap n) h)
  where
    by : (o : Option Thing) → HasKind k o → (elim o as (λ o. Text) [ Some t ↦ kind_of_thing t | None ↦ [] ]) ≡ k
    by None h = absurd h
    by (Some t) h = h

-- what is referred to stays there, and of its kind
there_kind : (o : Option Thing) → is_some o ≡ true → HasKind (elim o as (λ o. Text) [ Some t ↦ kind_of_thing t | None ↦ [] ]) o
there_kind None e = absurd (true≢false (sym e))
there_kind (Some t) e = refl

there_then : (o : Option Thing) (k : Text) → HasKind k o → is_some o ≡ true
there_then None k h = absurd h
there_then (Some t) k h = refl

pub there_later : (w w1 : World) → Grows w w1 → (v : Value) → IsThere w v → IsThere w1 v
there_later w w1 g (Object n) h = there_then (slice_get w1.heap n) (kind_of w (Object n)) (g.things n (kind_of w (Object n)) (there_kind (slice_get w.heap n) h))
there_later w w1 g v h = tt

pub kind_later : (w w1 : World) → Grows w w1 → (v : Value) → IsThere w v → kind_of w1 v ≡ kind_of w v
kind_later w w1 g (Object n) h = kept_kind w w1 g n (kind_of w (Object n)) (there_kind (slice_get w.heap n) h)
kind_later w w1 g v h = refl

-- ---- showing changes no thing

by_printed : (w : World) (n i : ℕ) (b : Bool) → (elim b as (λ b. World × Shown) [ true ↦ (w, shown.Again i) | false ↦ (record w { exposed = mark_printed n w.exposed }, shown.First i (kind_of w (Object n))) ]).0.heap ≡ w.heap
by_printed w n i true = refl
by_printed w n i false = refl

at_heap : (w : World) (n : ℕ) (o : Option ℕ) → (show_at w n o).0.heap ≡ w.heap
at_heap w n (Some i) = by_printed w n i (is_printed w.exposed i)
at_heap w n None = refl

pub show_heap : (w : World) (kind : Text) (v : Value) → (show w kind v).0.heap ≡ w.heap
show_heap w kind (Object n) = at_heap w n (place_in w.exposed n)
show_heap w kind v = refl

pub option_heap : (w : World) (kind : Text) (o : Option Value) → (show_option w kind o).0.heap ≡ w.heap
option_heap w kind None = refl
option_heap w kind (Some v) = show_heap w kind v

pub all_heap : (ks : List Text) (w : World) (vs : List Value) → (show_all w ks vs).0.heap ≡ w.heap
all_heap [] w vs = refl
all_heap (k ∷ ks) w [] = refl
all_heap (k ∷ ks) w (v ∷ vs) = all_heap ks (show w k v).0 (skip k vs) ∙ show_heap w k v

-- ---- a frame that a value comes back to is of the same method

written_method : (i : Item) (f : Frame) (to : ℕ) (v : Value) → (write_item i f to v).method ≡ f.method
written_method item.Wide f to v = refl
written_method i f to v = refl

receives_method : (o : Option Form) (f : Frame) (v : Value) → (receives o f v).method ≡ f.method
receives_method (Some (form.InstanceGet i to on field)) f v = written_method i f to v
receives_method (Some (form.StaticGet i to field)) f v = written_method i f to v
receives_method o f v = refl

pub back_method : (find : Bodies) (f : Frame) (v : Option Value) → (back find f v).method ≡ f.method
back_method find f (Some v) = receives_method (form_at find f) f v
back_method find f None = refl

-- ---- effects

module _ (w : World) (f : Frame) where
  abbrev pub EffectGrows : Effect → Type 0
  EffectGrows (Goes w1 f1) = Grows w w1 × (f1.method ≡ f.method)
  EffectGrows e = Unit {0}

  same_world : Grows w w
  same_world = grows_same w w refl

  stays_here : (g : Frame) → g.method ≡ f.method → EffectGrows (Goes w g)
  stays_here g e = (same_world, e)

  if_both : (b : Bool) (x y : Effect) → EffectGrows x → EffectGrows y → EffectGrows (elim b as (λ b. Effect) [ true ↦ x | false ↦ y ])
  if_both true x y g h = g
  if_both false x y g h = h

  if_held : (v : Value) (x : Effect) → EffectGrows x → EffectGrows (unless_null v x)
  if_held v x g = if_both (is_null v) (Faults null_pointer) x tt g

  item_method : (i : Item) (to : ℕ) (v : Value) → (write_item i f to v).method ≡ f.method
  item_method item.Wide to v = refl
  item_method i to v = refl

  slot_method : (i : Slot) (to : ℕ) (v : Value) → (write_slot i f to v).method ≡ f.method
  slot_method slot.Word to v = refl
  slot_method slot.Object to v = refl
  slot_method slot.Wide to v = refl

  move_method : (i : Slot) (to from : ℕ) → (move_slot i f to from).method ≡ f.method
  move_method slot.Word to from = refl
  move_method slot.Object to from = refl
  move_method slot.Wide to from = refl

  exits_grow : (v : Value) → EffectGrows (exits w v)
  exits_grow v = if_both (nat_eq (w.locks v) 0) (Faults bad_monitor) (Unlocks v) tt tt

  measures_grow : (o : Option Thing) (to : ℕ) → EffectGrows (measures o w f to)
  measures_grow (Some (Items k vs)) to = (same_world, refl)
  measures_grow (Some (Instance c fs)) to = tt
  measures_grow None to = tt

  array_grows : (z : ℤ) (kind : Text) (to : ℕ) → EffectGrows (new_array z kind w f to)
  array_grows (negsuc n) kind to = tt
  array_grows (pos n) kind to = (grows_with w (zeros (item_of kind) n), refl)

  fills_grow : (o : Option Thing) (on : Value) (ns : List ℕ) → thing_at w on ≡ o → EffectGrows (fills o w f on ns)
  fills_grow (Some (Items k vs)) on ns e = if_both (nat_lt (length vs) (length ns)) (Faults out_of_bounds) (Goes (put_thing w on (Items k (fill k ns vs))) (next f)) tt (grows_put w on (Items k vs) (Items k (fill k ns vs)) e refl, refl)
  fills_grow (Some (Instance c fs)) on ns e = tt
  fills_grow None on ns e = tt

  reads_grow : (i : Item) (o : Option Value) (to : ℕ) → EffectGrows (reads_item i o w f to)
  reads_grow i None to = tt
  reads_grow i (Some v) to = stays_here (next (write_item i f to v)) (item_method i to v)

  get_grows : (i : Item) (o : Option Thing) (to : ℕ) (at : ℤ) → EffectGrows (array_get i o w f to at)
  get_grows i (Some (Items k vs)) to at = reads_grow i (item_at vs at) to
  get_grows i (Some (Instance c fs)) to at = tt
  get_grows i None to at = tt

  put_kind : (i : Item) (k : Text) (vs : List Value) (at : ℤ) (v : Value) → kind_of_thing (put_item i k vs at v) ≡ kind_of_thing (Items k vs)
  put_kind i k vs (pos n) v = refl
  put_kind i k vs (negsuc n) v = refl

  puts_grow : (b : Bool) (on : Value) (old t : Thing) → thing_at w on ≡ Some old → kind_of_thing t ≡ kind_of_thing old → EffectGrows (writes_item b w f on t)
  puts_grow true on old t e i = (grows_put w on old t e i, refl)
  puts_grow false on old t e i = tt

  put_grows : (under : Text → Text → Bool) (i : Item) (o : Option Thing) (v on : Value) (at : ℤ) → thing_at w on ≡ o → EffectGrows (array_put under i o w f v on at)
  put_grows under i (Some (Items k vs)) v on at e = by (item_at vs at)
    where
      by : (x : Option Value) → EffectGrows (elim x as (λ x. Effect) [ Some old ↦ writes_item (may_store under w i v k) w f on (put_item i k vs at v) | None ↦ Faults out_of_bounds ])
      by None = tt
      by (Some old) = puts_grow (may_store under w i v k) on (Items k vs) (put_item i k vs at v) e (put_kind i k vs at v)
  put_grows under i (Some (Instance c fs)) v on at e = tt
  put_grows under i None v on at e = tt

  branch_grows : (b : Bool) (target : ℕ) → EffectGrows (branch b w f target)
  branch_grows true target = (same_world, refl)
  branch_grows false target = (same_world, refl)

  goes_grow : (o : Option ℕ) → EffectGrows (goes_to o w f)
  goes_grow None = (same_world, refl)
  goes_grow (Some t) = (same_world, refl)

  number_grows : (n : Number) (to : ℕ) → EffectGrows (sets_number n w f to)
  number_grows (OneWord n) to = (same_world, refl)
  number_grows (OneWide n) to = (same_world, refl)

  word_grows : (n : Option ℕ) (to : ℕ) → EffectGrows (gives_word n w f to)
  word_grows None to = tt
  word_grows (Some n) to = (same_world, refl)

  wide_grows : (n : Option ℕ) (to : ℕ) → EffectGrows (gives_wide n w f to)
  wide_grows None to = tt
  wide_grows (Some n) to = (same_world, refl)

  sort_grows : (floats : Floats) (x : Sort) (to a b : ℕ) → EffectGrows (binary floats x w f to a b)
  sort_grows floats (OnWord k) to a b = word_grows (answer k false (word f a) (word f b)) to
  sort_grows floats (OnWide k) to a b = wide_grows (answer k true (number f a) (number f b)) to
  sort_grows floats (Shifts k) to a b = wide_grows (answer k true (number f a) (number f b)) to
  sort_grows floats (OnFloat op) to a b = (same_world, refl)
  sort_grows floats (OnDouble op) to a b = (same_world, refl)

  pub act_grows : (under : Text → Text → Bool) (floats : Floats) (x : Form) → EffectGrows (act under floats x w f)
  act_grows under floats (form.Move slot to from) = stays_here (next (move_slot slot f to from)) (move_method slot to from)
  act_grows under floats (form.MoveResult slot to) = stays_here (next (write_slot slot f to f.result)) (slot_method slot to f.result)
  act_grows under floats (form.MonitorEnter on) = if_held (register f on) (Locks (register f on)) tt
  act_grows under floats (form.MonitorExit on) = if_held (register f on) (exits w (register f on)) (exits_grow (register f on))
  act_grows under floats (form.CheckCast on kind) = if_both (is_null (register f on) || is_instance under w (register f on) kind) (Goes w (next f)) (Faults bad_cast) (same_world, refl) tt
  act_grows under floats (form.ArrayLength to from) = if_held (register f from) (measures (thing_at w (register f from)) w f to) (measures_grow (thing_at w (register f from)) to)
  act_grows under floats (form.NewArray to size kind) = array_grows (signed false (number f size)) kind to
  act_grows under floats (form.FilledNewArray kind args) = (grows_with w (Items (item_of kind) (map (register f) args)), refl)
  act_grows under floats (form.FillArray on width items) = if_held (register f on) (fills (thing_at w (register f on)) w f (register f on) items) (fills_grow (thing_at w (register f on)) (register f on) items refl)
  act_grows under floats (form.Throw on) = if_held (register f on) (Throws (register f on)) tt
  act_grows under floats (form.PackedSwitch on first targets) = goes_grow (packed_target (number f on) first targets)
  act_grows under floats (form.SparseSwitch on keys targets) = goes_grow (switch_target (signed false (number f on)) keys targets)
  act_grows under floats (form.If test a b target) = branch_grows (passes test (register f a) (register f b)) target
  act_grows under floats (form.IfZero test a target) = branch_grows (passes test (register f a) (Word 0)) target
  act_grows under floats (form.ArrayGet item to array index) =
      if_held (register f array) (array_get item (thing_at w (register f array)) w f to (signed false (number f index))) (get_grows item (thing_at w (register f array)) to (signed false (number f index)))
  act_grows under floats (form.ArrayPut item from array index) =
      if_held (register f array) (array_put under item (thing_at w (register f array)) w f (register f from) (register f array) (signed false (number f index)))
      (put_grows under item (thing_at w (register f array)) (register f from) (register f array) (signed false (number f index)) refl)
  act_grows under floats (form.InstanceGet item to on field) = if_held (register f on) (Reads item to field (Some (register f on))) tt
  act_grows under floats (form.InstancePut item from on field) = if_held (register f on) (Writes field (Some (register f on)) (stored item (register f from))) tt
  act_grows under floats (form.Unary op to from) = number_grows (unary_answer floats op (number f from)) to
  act_grows under floats (form.Binary op to a b) = sort_grows floats (sort_of op) to a b
  act_grows under floats (form.Literal op to a value) = word_grows (literal_answer op (word f a) (cast_unsigned w32 value)) to
  act_grows under floats form.ReturnVoid = tt
  act_grows under floats (form.Return slot from) = tt
  act_grows under floats (form.NewInstance to kind) = tt
  act_grows under floats (form.StaticGet item to field) = tt
  act_grows under floats (form.StaticPut item from field) = tt
  act_grows under floats (form.Invoke kind method args) = tt
  act_grows under floats x = (same_world, refl)

  -- ---- outcomes

  abbrev pub OutcomeGrows : Outcome → Type 0
  OutcomeGrows (Stays w1 f1 e) = Grows w w1 × (f1.method ≡ f.method)
  OutcomeGrows (Leaves w1 owes e) = Grows w w1
  OutcomeGrows (Raises w1 v) = Grows w w1
  OutcomeGrows o = Unit {0}

  faults_grow : (t : Text) → OutcomeGrows (faults w t)
  faults_grow t = grows_with w (fresh t)

  one_of : (b : Bool) (x y : Outcome) → OutcomeGrows x → OutcomeGrows y → OutcomeGrows (elim b as (λ b. Outcome) [ true ↦ x | false ↦ y ])
  one_of true x y g h = g
  one_of false x y g h = h

  ready_grows : (n : Need) (t : Text) (x : Outcome) → OutcomeGrows x → OutcomeGrows (when_ready n w t x)
  ready_grows Ready t x g = g
  ready_grows Fresh t x g = tt
  ready_grows Broken t x g = faults_grow no_class

  out_grows : (kind : InvokeKind) (static : Bool) (k : MethodKey) (vs : List Value) → OutcomeGrows (calls_out kind static k vs w)
  out_grows kind static k vs = grows_same w (show_all w (passed_types static k) vs).0 (all_heap (passed_types static k) w vs)

  found_grows : (kind : InvokeKind) (g : Found) (vs : List Value) → OutcomeGrows (calls_found kind g vs w)
  found_grows kind g vs = one_of g.coded (Enters g.key vs) (calls_uncoded kind g vs w) tt
      (one_of (is_native g.flags) (calls_out (native_kind kind) (takes_no_receiver kind) g.key vs w) (faults w abstract_method) (out_grows (native_kind kind) (takes_no_receiver kind) g.key vs) (faults_grow abstract_method))

  by_grows : (need : Text → Need) (kind : InvokeKind) (k : MethodKey) (vs : List Value) (x : Search) → OutcomeGrows (calls_by need kind k vs w f x)
  by_grows need kind k vs Nothing = one_of (is_direct kind && method_eq k object_constructor) (Stays w (next (record f { result = Word 0 })) None) (calls_out kind (takes_no_receiver kind) k vs w) (same_world, refl) (out_grows kind (takes_no_receiver kind) k vs)
  by_grows need kind k vs Clash = faults_grow class_change
  by_grows need kind k vs (Finds g) = one_of (is_static g.flags) (when_ready (need g.key.class) w g.key.class (calls_found kind g vs w)) (calls_found kind g vs w)
      (ready_grows (need g.key.class) g.key.class (calls_found kind g vs w) (found_grows kind g vs)) (found_grows kind g vs)

  on_grows : (vs : List Value) (x : Outcome) → OutcomeGrows x → OutcomeGrows (on_receiver vs w x)
  on_grows vs x g = one_of (is_null (receiver vs)) (faults w null_pointer) x (faults_grow null_pointer) g

  calls_grow : (face : Face) (need : Text → Need) (kind : InvokeKind) (k : MethodKey) (vs : List Value) → OutcomeGrows (calls face need kind k vs w f)
  calls_grow face need call.Static k vs = by_grows need call.Static k vs (face.statically k)
  calls_grow face need call.Direct k vs = on_grows vs (calls_by need call.Direct k vs w f (face.statically k)) (by_grows need call.Direct k vs (face.statically k))
  calls_grow face need call.Super k vs = on_grows vs (calls_by need call.Super k vs w f (face.above f.method.class k)) (by_grows need call.Super k vs (face.above f.method.class k))
  calls_grow face need call.Virtual k vs = on_grows vs (calls_by need call.Virtual k vs w f (face.virtually (kind_of w (receiver vs)) k)) (by_grows need call.Virtual k vs (face.virtually (kind_of w (receiver vs)) k))
  calls_grow face need call.Interface k vs = on_grows vs (calls_by need call.Interface k vs w f (face.virtually (kind_of w (receiver vs)) k)) (by_grows need call.Interface k vs (face.virtually (kind_of w (receiver vs)) k))

  shown_grows : (w1 : World) (kind : Text) (v : Value) → Grows w w1 → Grows w (show w1 kind v).0
  shown_grows w1 kind v g = grows_then w w1 (show w1 kind v).0 g (grows_same w1 (show w1 kind v).0 (show_heap w1 kind v))

  option_grows : (kind : Text) (o : Option Value) → Grows w (show_option w kind o).0
  option_grows kind o = grows_same w (show_option w kind o).0 (option_heap w kind o)

  makes_grow : (face : Face) (need : Text → Need) (to : ℕ) (t : Text) → OutcomeGrows (makes face need to t w f)
  makes_grow face need to t =
      let made = with_thing w (fresh t) in let g = next (write f to (next_object w)) in
      one_of (is_defined face t) (when_ready (need t) w t (Stays made g None)) (Stays (show made t (next_object w)).0 g (Some (event.Make (show made t (next_object w)).1)))
      (ready_grows (need t) t (Stays made g None) (grows_with w (fresh t), refl)) (shown_grows made t (next_object w) (grows_with w (fresh t)), refl)

  value_grows : (i : Item) (to : ℕ) (o : Option Value) → OutcomeGrows (reads_value i to o w f)
  value_grows i to (Some v) = (same_world, item_method i to v)
  value_grows i to None = tt

  static_grows : (need : Text → Need) (i : Item) (to : ℕ) (k : FieldKey) (o : Option Place) → OutcomeGrows (reads_static need i to k w f o)
  static_grows need i to k (Some place) = ready_grows (need place.class) place.class (reads_value i to (Some (static_value w k place)) w f) (value_grows i to (Some (static_value w k place)))
  static_grows need i to k None = option_grows k.class None

  instance_grows : (i : Item) (to : ℕ) (k : FieldKey) (on : Value) (o : Option Place) → OutcomeGrows (reads_instance i to k on w f o)
  instance_grows i to k on (Some place) = value_grows i to (instance_value k place (thing_at w on))
  instance_grows i to k on None = option_grows k.class (Some on)

  field_grows : (face : Face) (need : Text → Need) (i : Item) (to : ℕ) (k : FieldKey) (on : Option Value) → OutcomeGrows (reads face need i to k on w f)
  field_grows face need i to k None = static_grows need i to k (face.field k)
  field_grows face need i to k (Some on) = instance_grows i to k on (face.field k)

  puts_out : (k : FieldKey) (on : Option Value) (v : Value) → OutcomeGrows (writes_out k on v w f)
  puts_out k on v = (shown_grows (show_option w k.class on).0 k.kind v (option_grows k.class on), refl)

  static_puts : (need : Text → Need) (k : FieldKey) (v : Value) (o : Option Place) → OutcomeGrows (writes_static need k v w f o)
  static_puts need k v (Some place) = ready_grows (need place.class) place.class (Stays (with_static w (key_at k place) v) (next f) None) (grows_same w (with_static w (key_at k place) v) refl, refl)
  static_puts need k v None = puts_out k None v

  instance_put : (k : FieldKey) (on v : Value) (o : Option Thing) → thing_at w on ≡ o → OutcomeGrows (written (with_instance w k on v o) f)
  instance_put k on v (Some (Instance c fields)) e = (grows_put w on (Instance c fields) (Instance c (put_field k v fields)) e refl, refl)
  instance_put k on v (Some (Items kind vs)) e = tt
  instance_put k on v None e = tt

  instance_puts : (k : FieldKey) (on v : Value) (o : Option Place) → OutcomeGrows (writes_instance k on v w f o)
  instance_puts k on v (Some place) = instance_put (key_at k place) on v (thing_at w on) refl
  instance_puts k on v None = puts_out k (Some on) v

  field_puts : (face : Face) (need : Text → Need) (k : FieldKey) (on : Option Value) (v : Value) → OutcomeGrows (writes face need k on v w f)
  field_puts face need k None v = static_puts need k v (face.field k)
  field_puts face need k (Some on) v = instance_puts k on v (face.field k)

  outcome_grows : (face : Face) (need : Text → Need) (e : Effect) → EffectGrows e → OutcomeGrows (outcome face need e w f)
  outcome_grows face need (Goes w1 f1) h = h
  outcome_grows face need (Faults t) h = faults_grow t
  outcome_grows face need (Throws v) h = same_world
  outcome_grows face need (Gives v) h = tt
  outcome_grows face need (Calls kind k vs) h = calls_grow face need kind k vs
  outcome_grows face need (Makes to t) h = makes_grow face need to t
  outcome_grows face need (Reads i to k on) h = field_grows face need i to k on
  outcome_grows face need (Writes k on v) h = field_puts face need k on v
  outcome_grows face need (Locks v) h = (grows_same w (with_lock (show w (kind_of w v) v).0 v (w.locks v + 1)) (show_heap w (kind_of w v) v), refl)
  outcome_grows face need (Unlocks v) h = (grows_same w (with_lock (show w (kind_of w v) v).0 v (w.locks v - 1)) (show_heap w (kind_of w v) v), refl)
  outcome_grows face need Stuck h = tt

-- What a step in a frame leaves: things keep their kinds, and the frame its method.
pub step_grows : (s : Setting) (find : Bodies) (need : Text → Need) (w : World) (f : Frame) → OutcomeGrows w f (outcome_at s find need w f)
step_grows s find need w f = outcome_grows w f s.face need (effect_of s (form_at find f) w f) (by (form_at find f))
  where
    by : (o : Option Form) → EffectGrows w f (effect_of s o w f)
    by None = tt
    by (Some x) = act_grows w f s.face.under s.floats x
