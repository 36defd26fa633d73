-- What a step leaves has words of 32 bits, where its form's numbers have.
use Rattle.std.proofs.lemmas.Int.{ints}
use Rattle.std.proofs.Common.{◌≡◌, ℕ, ◌+◌, ◌-◌, ℤ, pos, negsuc, Bool, true, false, true≢false, List, Option, Some, None, refl, ap, ◌∙◌, subst, sym, arith, replicate, ◌<◌, ◌∷◌, [], suc, zero}
use Rattle.std.specs.Prelude.{◌&&◌, ◌||◌, nat_lt, nat_eq, length, map, slice_get, slice_set, drop, ◌%◌, ◌^◌}
use Rattle.insn_set.specs.declared.ops.Item.{Item}
use Rattle.insn_set.specs.declared.ops.Item.TheVariants as item
use Rattle.insn_set.specs.declared.ops.Slot.{Slot}
use Rattle.insn_set.specs.declared.ops.Slot.TheVariants as slot
use Rattle.insn_set.specs.declared.ops.InvokeKind.{InvokeKind}
use Rattle.insn_set.specs.declared.ops.InvokeKind.TheVariants as call
use Rattle.dalvik_defs.specs.Names.{field_eq, Text, method_eq, item_of, is_wide, object_constructor}
use Rattle.dalvik_defs.specs.Flags.{is_static, is_native}
use Rattle.dalvik_defs.specs.Known.{null_pointer, bad_cast, out_of_bounds, bad_monitor, abstract_method, class_change, no_class}
use Rattle.dalvik_defs.specs.Arith.{signed, passes, answer, literal_answer}
use Rattle.std.specs.Int.{w32, w64, cast_unsigned}
use Rattle.dalvik_defs.specs.declared.events.Event.TheVariants as event
use Rattle.dalvik_defs.specs.Operators.{Number, OneWord, OneWide, Sort, unary_answer, sort_of, OnWord, OnWide, Shifts, OnFloat, OnDouble, float_word, float_wide, comparison}
use Rattle.dalvik_defs.specs.Items.{fill, filled, stored, item_of_type}
use Rattle.dalvik_defs.specs.Find.{Found, Search, Nothing, Clash, Finds}
use Rattle.dalvik_defs.specs.Face.{Face, Place, is_defined}
use Rattle.dalvik_defs.specs.Fields.{with_instance, key_at, static_value, instance_value, with_static, first_of, written_or}
use Rattle.dalvik_defs.specs.State.{World, Thing, Instance, Items, is_null, word_of, kind_of, kind_of_thing, thing_at, put_thing, with_thing, next_object, fresh, put_field, zero_of}
use Rattle.dalvik_defs.specs.declared.state.Value.{Value}
use Rattle.dalvik_defs.specs.declared.state.Value.TheVariants.{Object, Word, Low, High, Literal, Class}
use Rattle.dalvik_defs.specs.declared.state.Frame.{Frame}
use Rattle.dalvik_defs.specs.Show.{show_all, show, show_option}
use Rattle.dalvik_defs.specs.Effect.{Effect, Goes, Faults, Throws, Gives, Calls, Makes, Reads, Writes, Locks, Unlocks, Stuck, register, write, write_slot, write_item, next, go, sets, sets_wide, unless_null}
use Rattle.dalvik_defs.specs.ActPlain.{move_slot, word_constant, exits, is_instance, truth, branch, goes_to, switch_target, packed_target}
use Rattle.dalvik_defs.specs.ActArray.{measures, zeros, new_array, fills, item_at, reads_item, array_get, may_store, writes_item, put_item, array_put}
use Rattle.dalvik_defs.specs.ActNumber.{number, word, gives_word, gives_wide, sets_number, binary}
use Rattle.dalvik_defs.specs.Act.{act}
use Rattle.dalvik_defs.specs.Outcome.{Outcome, Stays, Enters, Leaves, Ends, Raises, Need, Ready, Fresh, Broken, faults, when_ready, passed_types, calls_out, native_kind, takes_no_receiver, calls_uncoded, calls_found, is_direct, calls_by, receiver, on_receiver, calls, makes, reads_value, reads_static, reads_instance, reads, writes_out, written, writes_static, writes_instance, writes, with_lock, outcome}
use Rattle.dalvik_defs.specs.Happens.{Setting, effect_of}
use Rattle.dalvik_defs.specs.declared.names.MethodKey.{MethodKey}
use Rattle.dalvik_defs.specs.declared.names.FieldKey.{FieldKey}
use Rattle.dalvik_defs.specs.declared.forms.Form.{Form}
use Rattle.dalvik_defs.specs.declared.forms.Form.TheVariants as form
use Rattle.dalvik_defs.specs.declared.tables.Floats.{Floats}
use Rattle.run_laws.specs.Holds.{Each}
use Rattle.run_laws.proofs.Growing.{show_heap, option_heap, all_heap}
use Rattle.run_laws.proofs.Fine.{each_append, each_set, each_get, each_or, each_join, each_drop, each_map, each_same}
use Rattle.std.proofs.lemmas.Bool.{ltb-true, lt-ltb}
use Rattle.dalvik_defs.specs.Operators.{float_answer}
use Rattle.pass_defs.specs.Analysis.{IsRanged}
use Rattle.run_laws.proofs.Climbs.{none_some, some_one}
use Rattle.cover_law.specs.Coverable.{IsFormed}
use Rattle.cover_law.specs.Sound.{IsSmall}
use Rattle.cover_law.specs.Known.{MaybeRanged, RangedThing, RangedWorld, RangedFrame}
use Rattle.cover_law.proofs.Numbers.{stored_ranged, cut, MaybeLess, answer_less, literal_less, NumberLess, unary_less, compared_less, new_size}
use Rattle.cover_law.proofs.Worlds.{show_statics, option_statics, all_statics}

-- ---- worlds

pub ranged_same : (w w1 : World) → w1.heap ≡ w.heap → w1.statics ≡ w.statics → RangedWorld w → RangedWorld w1
ranged_same w w1 e i h = record { statics = λ k v l. h.statics k v (ap (λ m. m k) (sym i) ∙ l); things = subst (Each RangedThing) (sym e) h.things }

pub ranged_show : (w : World) (t : Text) (v : Value) → RangedWorld w → RangedWorld (show w t v).0
ranged_show w t v h = ranged_same w (show w t v).0 (show_heap w t v) (show_statics w t v) h

pub ranged_option : (w : World) (t : Text) (o : Option Value) → RangedWorld w → RangedWorld (show_option w t o).0
ranged_option w t o h = ranged_same w (show_option w t o).0 (option_heap w t o) (option_statics w t o) h

ranged_all : (ks : List Text) (w : World) (vs : List Value) → RangedWorld w → RangedWorld (show_all w ks vs).0
ranged_all ks w vs h = ranged_same w (show_all w ks vs).0 (all_heap ks w vs) (all_statics ks w vs) h

pub ranged_with : (w : World) (t : Thing) → RangedWorld w → RangedThing t → RangedWorld (with_thing w t)
ranged_with w t h k = record { statics = h.statics; things = each_append RangedThing w.heap t h.things k }

pub ranged_put : (w : World) (v : Value) (t : Thing) → RangedWorld w → RangedThing t → RangedWorld (put_thing w v t)
ranged_put w (Object n) t h k = record { statics = h.statics; things = each_set RangedThing w.heap n t h.things k }
ranged_put w v t h k = h

pub at_ranged : (w : World) (v : Value) (t : Thing) → RangedWorld w → thing_at w v ≡ Some t → RangedThing t
at_ranged w (Object n) t h e = each_get RangedThing w.heap n t h.things e
at_ranged w v t h e = none_some t e

pub fresh_ranged : (t : Text) → RangedThing (fresh t)
fresh_ranged t k v e = none_some v e

pub zero_ranged : (t : Text) → IsRanged (zero_of t)
zero_ranged t = by (is_wide t)
  where
    by : (b : Bool) → IsRanged (elim b as (λ b. Value) [ true ↦ Low 0 | false ↦ Word 0 ])
    by true = tt
    by false = omega arith

same_length : (n : ℕ) (v : Value) → length (replicate n v) ≡ n
same_length zero v = refl
same_length (suc n) v = ap suc (same_length n v)

pub zeros_ranged : (t : Text) (n : ℕ) → n < 2 ^ 31 → RangedThing (zeros t n)
zeros_ranged t n l = (subst (λ m. m < 2 ^ 31) (sym (same_length n (zero_of t))) l, each_same IsRanged n (zero_of t) (zero_ranged t))

pub set_length : (vs : List Value) (n : ℕ) (v : Value) → length (slice_set vs n v) ≡ length vs
set_length [] n v = refl
set_length (u ∷ vs) zero v = refl
set_length (u ∷ vs) (suc n) v = ap suc (set_length vs n v)

filled_length : (k : Text) (ns : List ℕ) (vs : List Value) → nat_lt (length vs) (length ns) ≡ false → length (fill k ns vs) ≡ length vs
filled_length k [] vs e = refl
filled_length k (n ∷ ns) [] e = absurd (true≢false (sym (lt-ltb 0 (suc (length ns)) (omega arith)) ∙ e))
filled_length k (n ∷ ns) (v ∷ vs) e = ap suc (filled_length k ns vs (below (nat_lt (length vs) (length ns)) refl))
  where
    below : (b : Bool) → nat_lt (length vs) (length ns) ≡ b → b ≡ false
    below false i = refl
    below true i = let l = ltb-true (length vs) (length ns) i in absurd (true≢false (sym (lt-ltb (suc (length vs)) (suc (length ns)) (omega (arith, l))) ∙ e))

pub put_ranged : (k : FieldKey) (v : Value) (fields : FieldKey → Option Value) → ((j : FieldKey) (u : Value) → fields j ≡ Some u → IsRanged u) → IsRanged v → (j : FieldKey) (u : Value) → put_field k v fields j ≡ Some u → IsRanged u
put_ranged k v fields h i j u e = by (field_eq j k) e
  where
    by : (b : Bool) → (elim b as (λ b. Option Value) [ true ↦ Some v | false ↦ fields j ]) ≡ Some u → IsRanged u
    by true e = subst IsRanged (some_one v u e) i
    by false e = h j u e

-- ---- effects

pub small_bits : (z : ℤ) → IsSmall z → cast_unsigned w32 z < 2 ^ 32
small_bits z h = let l = h.0 in let r = h.1 in omega (arith, ints, l, r)

module _ (w : World) (f : Frame) (fw : RangedWorld w) (ff : RangedFrame f) where
  abbrev pub EffectRanged : Effect → Type 0
  EffectRanged (Goes w1 f1) = RangedWorld w1 × RangedFrame f1
  EffectRanged (Throws v) = IsRanged v
  EffectRanged (Gives v) = MaybeRanged v
  EffectRanged (Calls kind k vs) = Each IsRanged vs
  EffectRanged (Reads i to k on) = MaybeRanged on
  EffectRanged (Writes k on v) = MaybeRanged on × IsRanged v
  EffectRanged (Locks v) = IsRanged v
  EffectRanged (Unlocks v) = IsRanged v
  EffectRanged e = Unit {0}

  reg : (r : ℕ) → IsRanged (register f r)
  reg r = each_or IsRanged f.registers r (Word 0) ff.registers (omega arith)

  -- the frame with registers
  with_registers : (vs : List Value) → Each IsRanged vs → RangedFrame (record f { registers = vs })
  with_registers vs h = record { registers = h; result = ff.result; caught = ff.caught }

  one : (to : ℕ) (v : Value) → IsRanged v → EffectRanged (sets w f to v)
  one to v h = (fw, record { registers = each_set IsRanged f.registers to v ff.registers h; result = ff.result; caught = ff.caught })

  pair : (to n : ℕ) → EffectRanged (sets_wide w f to n)
  pair to n = (fw, record { registers = each_set IsRanged (slice_set f.registers to (Low n)) (to + 1) (High n) (each_set IsRanged f.registers to (Low n) ff.registers tt) tt; result = ff.result; caught = ff.caught })

  here : (q : ℕ) → EffectRanged (Goes w (go f q))
  here q = (fw, record { registers = ff.registers; result = ff.result; caught = ff.caught })

  in_world : (w1 : World) → RangedWorld w1 → EffectRanged (Goes w1 (next f))
  in_world w1 h = let k = ff in (h, record { registers = k.registers; result = k.result; caught = k.caught })

  if_both : (b : Bool) (x y : Effect) → EffectRanged x → EffectRanged y → EffectRanged (elim b as (λ b. Effect) [ true ↦ x | false ↦ y ])
  if_both true x y g h = g
  if_both false x y g h = h

  if_held : (v : Value) (x : Effect) → EffectRanged x → EffectRanged (unless_null v x)
  if_held v x g = if_both (is_null v) (Faults null_pointer) x tt g

  moves : (s : Slot) (to from : ℕ) → EffectRanged (Goes w (next (move_slot s f to from)))
  moves slot.Word to from = one to (register f from) (reg from)
  moves slot.Object to from = one to (register f from) (reg from)
  moves slot.Wide to from = (fw, record { registers = each_set IsRanged (slice_set f.registers to (register f from)) (to + 1) (register f (from + 1)) (each_set IsRanged f.registers to (register f from) ff.registers (reg from)) (reg (from + 1)); result = ff.result; caught = ff.caught })

  slots : (s : Slot) (to : ℕ) (v : Value) → IsRanged v → EffectRanged (Goes w (next (write_slot s f to v)))
  slots slot.Word to v h = one to v h
  slots slot.Object to v h = one to v h
  slots slot.Wide to v h = pair to (word_of v)

  item_to : (i : Item) (to : ℕ) (v : Value) → IsRanged v → EffectRanged (Goes w (next (write_item i f to v)))
  item_to item.Wide to v h = pair to (word_of v)
  item_to i to v h = one to v h

  measured : (on : Value) (o : Option Thing) (to : ℕ) → thing_at w on ≡ o → EffectRanged (measures o w f to)
  measured on (Some (Items k vs)) to e = one to (Word (length vs)) (let l = (at_ranged w on (Items k vs) fw e).0 in omega (arith, l))
  measured on (Some (Instance c fs)) to e = tt
  measured on None to e = tt

  arrays : (z : ℤ) (kind : Text) (to : ℕ) → ((n : ℕ) → z ≡ pos n → n < 2 ^ 31) → EffectRanged (new_array z kind w f to)
  arrays (negsuc n) kind to l = tt
  arrays (pos n) kind to l = let t = zeros (item_of kind) n in let w1 = with_thing w t in let k = ff in
      (ranged_with w t fw (zeros_ranged (item_of kind) n (l n refl)), record { registers = each_set IsRanged f.registers to (next_object w) k.registers tt; result = k.result; caught = k.caught })

  map_length : (rs : List ℕ) → length (map (register f) rs) ≡ length rs
  map_length [] = refl
  map_length (r ∷ rs) = ap suc (map_length rs)

  listed : (rs : List ℕ) → Each IsRanged (map (register f) rs)
  listed rs = each_map IsRanged (register f) reg rs

  filled_ranged : (k : Text) (n : ℕ) → IsRanged (filled k n)
  filled_ranged k n = by (is_wide k)
    where
      by : (b : Bool) → IsRanged (elim b as (λ b. Value) [ true ↦ Low n | false ↦ stored (item_of_type k) (Word (n % 2 ^ 32)) ])
      by true = tt
      by false = stored_ranged (item_of_type k) (Word (n % 2 ^ 32)) (cut n)

  fills_ranged : (o : Option Thing) (on : Value) (ns : List ℕ) → thing_at w on ≡ o → EffectRanged (fills o w f on ns)
  fills_ranged (Some (Items k vs)) on ns e = by (nat_lt (length vs) (length ns)) refl
    where
      long : nat_lt (length vs) (length ns) ≡ false → length (fill k ns vs) ≡ length vs
      long i = filled_length k ns vs i

      by : (b : Bool) → nat_lt (length vs) (length ns) ≡ b → EffectRanged (elim b as (λ b. Effect) [ true ↦ Faults out_of_bounds | false ↦ Goes (put_thing w on (Items k (fill k ns vs))) (next f) ])
      by true i = tt
      by false i = in_world (put_thing w on (Items k (fill k ns vs))) (ranged_put w on (Items k (fill k ns vs)) fw
          (subst (λ n. n < 2 ^ 31) (sym (long i)) (at_ranged w on (Items k vs) fw e).0, each_join IsRanged (map (filled k) ns) (drop (length ns) vs) (each_map IsRanged (filled k) (filled_ranged k) ns) (each_drop IsRanged (length ns) vs (at_ranged w on (Items k vs) fw e).1)))
  fills_ranged (Some (Instance c fs)) on ns e = tt
  fills_ranged None on ns e = tt

  items_ranged : (vs : List Value) (at : ℤ) → Each IsRanged vs → MaybeRanged (item_at vs at)
  items_ranged vs (negsuc n) h = tt
  items_ranged vs (pos n) h = by (slice_get vs n) refl
    where
      by : (o : Option Value) → slice_get vs n ≡ o → MaybeRanged o
      by None e = tt
      by (Some v) e = each_get IsRanged vs n v h e

  reads_ranged : (i : Item) (o : Option Value) (to : ℕ) → MaybeRanged o → EffectRanged (reads_item i o w f to)
  reads_ranged i None to h = tt
  reads_ranged i (Some v) to h = item_to i to v h

  get_ranged : (i : Item) (on : Value) (o : Option Thing) (to : ℕ) (at : ℤ) → thing_at w on ≡ o → EffectRanged (array_get i o w f to at)
  get_ranged i on (Some (Items k vs)) to at e = reads_ranged i (item_at vs at) to (items_ranged vs at (at_ranged w on (Items k vs) fw e).1)
  get_ranged i on (Some (Instance c fs)) to at e = tt
  get_ranged i on None to at e = tt

  put_kind : (i : Item) (k : Text) (vs : List Value) (at : ℤ) (v : Value) → kind_of_thing (put_item i k vs at v) ≡ kind_of_thing (Items k vs)
  put_kind i k vs (pos n) v = refl
  put_kind i k vs (negsuc n) v = refl

  put_item_ranged : (i : Item) (k : Text) (vs : List Value) (at : ℤ) (v : Value) → RangedThing (Items k vs) → IsRanged v → RangedThing (put_item i k vs at v)
  put_item_ranged i k vs (pos n) v h j = (subst (λ l. l < 2 ^ 31) (sym (set_length vs n (stored i v))) h.0, each_set IsRanged vs n (stored i v) h.1 (stored_ranged i v j))
  put_item_ranged i k vs (negsuc n) v h j = h

  store_ranged : (under : Text → Text → Bool) (i : Item) (o : Option Thing) (v on : Value) (at : ℤ) → thing_at w on ≡ o → IsRanged v → EffectRanged (array_put under i o w f v on at)
  store_ranged under i (Some (Items k vs)) v on at e h = by (item_at vs at)
    where
      written_ranged : (b : Bool) → EffectRanged (writes_item b w f on (put_item i k vs at v))
      written_ranged true = in_world (put_thing w on (put_item i k vs at v)) (ranged_put w on (put_item i k vs at v) fw (put_item_ranged i k vs at v (at_ranged w on (Items k vs) fw e) h))
      written_ranged false = tt

      by : (x : Option Value) → EffectRanged (elim x as (λ x. Effect) [ Some old ↦ writes_item (may_store under w i v k) w f on (put_item i k vs at v) | None ↦ Faults out_of_bounds ])
      by None = tt
      by (Some old) = written_ranged (may_store under w i v k)
  store_ranged under i (Some (Instance c fs)) v on at e h = tt
  store_ranged under i None v on at e h = tt

  branches : (b : Bool) (q : ℕ) → EffectRanged (branch b w f q)
  branches true q = here q
  branches false q = here (f.position + 1)

  goes_ranged : (o : Option ℕ) → EffectRanged (goes_to o w f)
  goes_ranged None = here (f.position + 1)
  goes_ranged (Some q) = here q

  numbers : (n : Number) (to : ℕ) → NumberLess n → EffectRanged (sets_number n w f to)
  numbers (OneWord n) to h = one to (Word n) h
  numbers (OneWide n) to h = pair to n

  words : (n : Option ℕ) (to : ℕ) → MaybeLess n → EffectRanged (gives_word n w f to)
  words None to h = tt
  words (Some n) to h = one to (Word n) h

  wides : (n : Option ℕ) (to : ℕ) → EffectRanged (gives_wide n w f to)
  wides None to = tt
  wides (Some n) to = pair to n

  sorts : (floats : Floats) (x : Sort) (to a b : ℕ) → EffectRanged (binary floats x w f to a b)
  sorts floats (OnWord k) to a b = words (answer k false (word f a) (word f b)) to (answer_less k (word f a) (word f b) (cut (number f a)) (cut (number f b)))
  sorts floats (OnWide k) to a b = wides (answer k true (number f a) (number f b)) to
  sorts floats (Shifts k) to a b = wides (answer k true (number f a) (number f b)) to
  sorts floats (OnFloat op) to a b = words (Some (float_word floats op (number f a) (number f b))) to (cut (float_answer floats op (number f a) (number f b)))
  sorts floats (OnDouble op) to a b = wides (Some (float_wide floats op (number f a) (number f b))) to

  truths : (to : ℕ) (b : Bool) → EffectRanged (sets w f to (truth b))
  truths to true = one to (Word 1) (omega arith)
  truths to false = one to (Word 0) (omega arith)

  pub act_ranged : (under : Text → Text → Bool) (floats : Floats) (x : Form) → IsFormed x → EffectRanged (act under floats x w f)
  act_ranged under floats form.Nop formed = here (f.position + 1)
  act_ranged under floats (form.Move slot to from) formed = moves slot to from
  act_ranged under floats (form.MoveResult slot to) formed = slots slot to f.result ff.result
  act_ranged under floats (form.MoveException to) formed = one to f.caught ff.caught
  act_ranged under floats form.ReturnVoid formed = tt
  act_ranged under floats (form.Return slot from) formed = reg from
  act_ranged under floats (form.Const to value) formed = one to (word_constant value) formed
  act_ranged under floats (form.ConstWide to value) formed = pair to (cast_unsigned w64 value)
  act_ranged under floats (form.ConstString to text) formed = one to (Literal text) tt
  act_ranged under floats (form.ConstClass to kind) formed = one to (Class kind) tt
  act_ranged under floats (form.MonitorEnter on) formed = if_held (register f on) (Locks (register f on)) (reg on)
  act_ranged under floats (form.MonitorExit on) formed = if_held (register f on) (exits w (register f on)) (if_both (nat_eq (w.locks (register f on)) 0) (Faults bad_monitor) (Unlocks (register f on)) tt (reg on))
  act_ranged under floats (form.CheckCast on kind) formed = if_both (is_null (register f on) || is_instance under w (register f on) kind) (Goes w (next f)) (Faults bad_cast) (here (f.position + 1)) tt
  act_ranged under floats (form.InstanceOf to from kind) formed = truths to (is_instance under w (register f from) kind)
  act_ranged under floats (form.ArrayLength to from) formed = if_held (register f from) (measures (thing_at w (register f from)) w f to) (measured (register f from) (thing_at w (register f from)) to refl)
  act_ranged under floats (form.NewInstance to kind) formed = tt
  act_ranged under floats (form.NewArray to size kind) formed = arrays (signed false (number f size)) kind to (λ n e. new_size (number f size) n e)
  act_ranged under floats (form.FilledNewArray kind args) formed = let t = Items (item_of kind) (map (register f) args) in let k = ff in
      (ranged_with w t fw (subst (λ n. n < 2 ^ 31) (sym (map_length args)) formed, listed args), record { registers = k.registers; result = tt; caught = k.caught })
  act_ranged under floats (form.FillArray on width items) formed = if_held (register f on) (fills (thing_at w (register f on)) w f (register f on) items) (fills_ranged (thing_at w (register f on)) (register f on) items refl)
  act_ranged under floats (form.Throw on) formed = if_held (register f on) (Throws (register f on)) (reg on)
  act_ranged under floats (form.Goto target) formed = here target
  act_ranged under floats (form.PackedSwitch on first targets) formed = goes_ranged (packed_target (number f on) first targets)
  act_ranged under floats (form.SparseSwitch on keys targets) formed = goes_ranged (switch_target (signed false (number f on)) keys targets)
  act_ranged under floats (form.Cmp op to a b) formed = one to (Word (comparison floats op (number f a) (number f b))) (compared_less floats op (number f a) (number f b))
  act_ranged under floats (form.If test a b target) formed = branches (passes test (register f a) (register f b)) target
  act_ranged under floats (form.IfZero test a target) formed = branches (passes test (register f a) (Word 0)) target
  act_ranged under floats (form.ArrayGet item to array index) formed = if_held (register f array) (array_get item (thing_at w (register f array)) w f to (signed false (number f index)))
      (get_ranged item (register f array) (thing_at w (register f array)) to (signed false (number f index)) refl)
  act_ranged under floats (form.ArrayPut item from array index) formed =
      if_held (register f array) (array_put under item (thing_at w (register f array)) w f (register f from) (register f array) (signed false (number f index)))
      (store_ranged under item (thing_at w (register f array)) (register f from) (register f array) (signed false (number f index)) refl (reg from))
  act_ranged under floats (form.InstanceGet item to on field) formed = if_held (register f on) (Reads item to field (Some (register f on))) (reg on)
  act_ranged under floats (form.InstancePut item from on field) formed = if_held (register f on) (Writes field (Some (register f on)) (stored item (register f from))) (reg on, stored_ranged item (register f from) (reg from))
  act_ranged under floats (form.StaticGet item to field) formed = tt
  act_ranged under floats (form.StaticPut item from field) formed = (tt, stored_ranged item (register f from) (reg from))
  act_ranged under floats (form.Invoke kind method args) formed = listed args
  act_ranged under floats (form.Unary op to from) formed = numbers (unary_answer floats op (number f from)) to (unary_less floats op (number f from))
  act_ranged under floats (form.Binary op to a b) formed = sorts floats (sort_of op) to a b
  act_ranged under floats (form.Literal op to a value) formed = words (literal_answer op (word f a) (cast_unsigned w32 value)) to (literal_less op (word f a) (cast_unsigned w32 value) (cut (number f a)) (small_bits value formed))

  -- ---- outcomes

  abbrev pub OutcomeRanged : Outcome → Type 0
  OutcomeRanged (Stays w1 f1 e) = RangedWorld w1 × RangedFrame f1
  OutcomeRanged (Enters k vs) = Each IsRanged vs
  OutcomeRanged (Leaves w1 owes e) = RangedWorld w1
  OutcomeRanged (Ends v) = MaybeRanged v
  OutcomeRanged (Raises w1 v) = RangedWorld w1 × IsRanged v
  OutcomeRanged o = Unit {0}

  faulted : (t : Text) → OutcomeRanged (faults w t)
  faulted t = (ranged_with w (fresh t) fw (fresh_ranged t), tt)

  one_of : (b : Bool) (x y : Outcome) → OutcomeRanged x → OutcomeRanged y → OutcomeRanged (elim b as (λ b. Outcome) [ true ↦ x | false ↦ y ])
  one_of true x y g h = g
  one_of false x y g h = h

  readied : (n : Need) (t : Text) (x : Outcome) → OutcomeRanged x → OutcomeRanged (when_ready n w t x)
  readied Ready t x g = g
  readied Fresh t x g = tt
  readied Broken t x g = faulted no_class

  outs : (kind : InvokeKind) (static : Bool) (k : MethodKey) (vs : List Value) → Each IsRanged vs → OutcomeRanged (calls_out kind static k vs w)
  outs kind static k vs h = ranged_all (passed_types static k) w vs fw

  founds : (kind : InvokeKind) (g : Found) (vs : List Value) → Each IsRanged vs → OutcomeRanged (calls_found kind g vs w)
  founds kind g vs h = one_of g.coded (Enters g.key vs) (calls_uncoded kind g vs w) h
      (one_of (is_native g.flags) (calls_out (native_kind kind) (takes_no_receiver kind) g.key vs w) (faults w abstract_method) (outs (native_kind kind) (takes_no_receiver kind) g.key vs h) (faulted abstract_method))

  searched : (need : Text → Need) (kind : InvokeKind) (k : MethodKey) (vs : List Value) (x : Search) → Each IsRanged vs → OutcomeRanged (calls_by need kind k vs w f x)
  searched need kind k vs Nothing h = one_of (is_direct kind && method_eq k object_constructor) (Stays w (next (record f { result = Word 0 })) None) (calls_out kind (takes_no_receiver kind) k vs w)
      (fw, record { registers = ff.registers; result = omega arith; caught = ff.caught }) (outs kind (takes_no_receiver kind) k vs h)
  searched need kind k vs Clash h = faulted class_change
  searched need kind k vs (Finds g) h = one_of (is_static g.flags) (when_ready (need g.key.class) w g.key.class (calls_found kind g vs w)) (calls_found kind g vs w)
      (readied (need g.key.class) g.key.class (calls_found kind g vs w) (founds kind g vs h)) (founds kind g vs h)

  received : (vs : List Value) (x : Outcome) → OutcomeRanged x → OutcomeRanged (on_receiver vs w x)
  received vs x g = one_of (is_null (receiver vs)) (faults w null_pointer) x (faulted null_pointer) g

  called : (face : Face) (need : Text → Need) (kind : InvokeKind) (k : MethodKey) (vs : List Value) → Each IsRanged vs → OutcomeRanged (calls face need kind k vs w f)
  called face need call.Static k vs h = searched need call.Static k vs (face.statically k) h
  called face need call.Direct k vs h = received vs (calls_by need call.Direct k vs w f (face.statically k)) (searched need call.Direct k vs (face.statically k) h)
  called face need call.Super k vs h = received vs (calls_by need call.Super k vs w f (face.above f.method.class k)) (searched need call.Super k vs (face.above f.method.class k) h)
  called face need call.Virtual k vs h = received vs (calls_by need call.Virtual k vs w f (face.virtually (kind_of w (receiver vs)) k)) (searched need call.Virtual k vs (face.virtually (kind_of w (receiver vs)) k) h)
  called face need call.Interface k vs h = received vs (calls_by need call.Interface k vs w f (face.virtually (kind_of w (receiver vs)) k)) (searched need call.Interface k vs (face.virtually (kind_of w (receiver vs)) k) h)

  -- a frame with a register for a new object
  made_frame : (t : Text) (to : ℕ) → RangedFrame (next (write f to (next_object w)))
  made_frame t to = let w1 = with_thing w (fresh t) in let k = ff in
      record { registers = each_set IsRanged f.registers to (next_object w) k.registers tt; result = k.result; caught = k.caught }

  makes_ranged : (face : Face) (need : Text → Need) (to : ℕ) (t : Text) → OutcomeRanged (makes face need to t w f)
  makes_ranged face need to t =
      let made = with_thing w (fresh t) in let g = next (write f to (next_object w)) in let fm = ranged_with w (fresh t) fw (fresh_ranged t) in
      one_of (is_defined face t) (when_ready (need t) w t (Stays made g None)) (Stays (show made t (next_object w)).0 g (Some (event.Make (show made t (next_object w)).1)))
      (readied (need t) t (Stays made g None) (fm, made_frame t to))
      (ranged_show made t (next_object w) fm, made_frame t to)

  value_read : (i : Item) (to : ℕ) (o : Option Value) → MaybeRanged o → OutcomeRanged (reads_value i to o w f)
  value_read i to (Some v) h = item_to i to v h
  value_read i to None h = tt

  or_ranged : (o : Option Value) (z : Value) → ((v : Value) → o ≡ Some v → IsRanged v) → IsRanged z → IsRanged (written_or o z)
  or_ranged (Some v) z h k = h v refl
  or_ranged None z h k = k

  -- the first values of fields refer to no object
  module _ (face : Face) (firsts : (k : FieldKey) (place : Place) → face.field k ≡ Some place → IsRanged (first_of k place)) where
    static_ranged : (k : FieldKey) (place : Place) → face.field k ≡ Some place → IsRanged (static_value w k place)
    static_ranged k place i = or_ranged (w.statics (key_at k place)) (first_of k place) (λ v e. fw.statics (key_at k place) v e) (firsts k place i)

    instance_ranged : (k : FieldKey) (place : Place) (on : Value) (o : Option Thing) → thing_at w on ≡ o → MaybeRanged (instance_value k place o)
    instance_ranged k place on (Some (Instance c fields)) e = or_ranged (fields (key_at k place)) (zero_of k.kind) (λ v i. (at_ranged w on (Instance c fields) fw e) (key_at k place) v i) (zero_ranged k.kind)
    instance_ranged k place on (Some (Items kind vs)) e = tt
    instance_ranged k place on None e = tt

    read_out : (k : FieldKey) (on : Option Value) → MaybeRanged on → RangedWorld (show_option w k.class on).0
    read_out k on h = ranged_option w k.class on fw

    field_reads : (need : Text → Need) (i : Item) (to : ℕ) (k : FieldKey) (on : Option Value) → MaybeRanged on → OutcomeRanged (reads face need i to k on w f)
    field_reads need i to k None h = by (face.field k) refl
      where
        by : (o : Option Place) → face.field k ≡ o → OutcomeRanged (reads_static need i to k w f o)
        by (Some place) e = readied (need place.class) place.class (reads_value i to (Some (static_value w k place)) w f) (value_read i to (Some (static_value w k place)) (static_ranged k place e))
        by None e = read_out k None tt
    field_reads need i to k (Some on) h = by (face.field k)
      where
        by : (o : Option Place) → OutcomeRanged (reads_instance i to k on w f o)
        by (Some place) = value_read i to (instance_value k place (thing_at w on)) (instance_ranged k place on (thing_at w on) refl)
        by None = read_out k (Some on) h

    statics_put : (k : FieldKey) (v : Value) → IsRanged v → RangedWorld (with_static w k v)
    statics_put k v h = record { statics = λ j u e. put_ranged k v w.statics (λ i z q. fw.statics i z q) h j u e; things = fw.things }

    frame_shown : RangedFrame (next f)
    frame_shown = let k = ff in record { registers = k.registers; result = k.result; caught = k.caught }

    put_out : (k : FieldKey) (on : Option Value) (v : Value) → MaybeRanged on → IsRanged v → OutcomeRanged (writes_out k on v w f)
    put_out k on v h i = let w1 = (show_option w k.class on).0 in (ranged_show w1 k.kind v (ranged_option w k.class on fw), frame_shown)

    instance_put : (k : FieldKey) (on v : Value) (o : Option Thing) → thing_at w on ≡ o → IsRanged v → OutcomeRanged (written (with_instance w k on v o) f)
    instance_put k on v (Some (Instance c fields)) e i = in_world (put_thing w on (Instance c (put_field k v fields))) (ranged_put w on (Instance c (put_field k v fields)) fw (put_ranged k v fields (at_ranged w on (Instance c fields) fw e) i))
    instance_put k on v (Some (Items kind vs)) e i = tt
    instance_put k on v None e i = tt

    field_puts : (need : Text → Need) (k : FieldKey) (on : Option Value) (v : Value) → MaybeRanged on → IsRanged v → OutcomeRanged (writes face need k on v w f)
    field_puts need k None v h i = by (face.field k)
      where
        by : (o : Option Place) → OutcomeRanged (writes_static need k v w f o)
        by (Some place) = readied (need place.class) place.class (Stays (with_static w (key_at k place) v) (next f) None) (statics_put (key_at k place) v i, frame_shown)
        by None = put_out k None v tt i
    field_puts need k (Some on) v h i = by (face.field k)
      where
        by : (o : Option Place) → OutcomeRanged (writes_instance k on v w f o)
        by (Some place) = instance_put (key_at k place) on v (thing_at w on) refl i
        by None = put_out k (Some on) v h i

    lock_ranged : (v : Value) (n : ℕ) → IsRanged v → RangedWorld (with_lock (show w (kind_of w v) v).0 v n)
    lock_ranged v n h = let k = ranged_show w (kind_of w v) v fw in record { statics = k.statics; things = k.things }

    outcome_ranged : (need : Text → Need) (e : Effect) → EffectRanged e → OutcomeRanged (outcome face need e w f)
    outcome_ranged need (Goes w1 f1) h = h
    outcome_ranged need (Faults t) h = faulted t
    outcome_ranged need (Throws v) h = (fw, h)
    outcome_ranged need (Gives v) h = h
    outcome_ranged need (Calls kind k vs) h = called face need kind k vs h
    outcome_ranged need (Makes to t) h = makes_ranged face need to t
    outcome_ranged need (Reads i to k on) h = field_reads need i to k on h
    outcome_ranged need (Writes k on v) h = field_puts need k on v h.0 h.1
    outcome_ranged need (Locks v) h = (lock_ranged v (w.locks v + 1) h, frame_shown)
    outcome_ranged need (Unlocks v) h = (lock_ranged v (w.locks v - 1) h, frame_shown)
    outcome_ranged need Stuck h = tt

    pub step_ranged : (s : Setting) (need : Text → Need) (x : Form) → IsFormed x → OutcomeRanged (outcome face need (effect_of s (Some x) w f) w f)
    step_ranged s need x formed = outcome_ranged need (effect_of s (Some x) w f) (act_ranged s.face.under s.floats x formed)
