-- What the forms on arrays leave.
use Rattle.std.proofs.Common.{◌≡◌, ℕ, zero, suc, ◌+◌, ℤ, pos, negsuc, Bool, true, false, true≢false, List, [], ◌∷◌, ◌++◌, Option, Some, None, ◌⊎◌, inl, inr, refl, sym, ap, ◌∙◌, subst, arith}
use Rattle.std.specs.Prelude.{◌&&◌, ◌||◌, not, ◌%◌, ◌^◌, nat_lt, length, map, drop, replicate, codes, slice_get, if◌then◌else◌}
use Rattle.std.specs.Int.{w8, w16}
use Rattle.std.specs.List.{list_all}
use Rattle.insn_set.specs.declared.ops.Item.{Item}
use Rattle.insn_set.specs.declared.ops.Item.TheVariants as item
use Rattle.dalvik_defs.proofs.Calm.{text_sound}
use Rattle.dalvik_defs.specs.Names.{Text, text_eq, is_word, is_wide, is_reference, is_array, item_of}
use Rattle.dalvik_defs.specs.Known.{bad_store, out_of_bounds, negative_size}
use Rattle.dalvik_defs.specs.Arith.{signed, low_signed}
use Rattle.dalvik_defs.specs.Face.{face_of}
use Rattle.dalvik_defs.specs.Outer.{Outer}
use Rattle.dalvik_defs.specs.Items.{stored, fill, filled, item_of_type}
use Rattle.dalvik_defs.specs.State.{World, Classes, Thing, Items, is_null, word_of, kind_of, kind_of_thing, thing_at, put_thing, zero_of, with_thing, next_object}
use Rattle.dalvik_defs.specs.Effect.{Effect, Goes, Faults, register, write, write_item, next}
use Rattle.dalvik_defs.specs.ActArray.{zeros, new_array, fills, item_at, reads_item, array_get, may_store, writes_item, put_item, array_put}
use Rattle.dalvik_defs.specs.ActNumber.{number}
use Rattle.dalvik_defs.specs.Act.{act}
use Rattle.dalvik_defs.specs.declared.state.Value.{Value}
use Rattle.dalvik_defs.specs.declared.state.Value.TheVariants.{Word, Low}
use Rattle.dalvik_defs.specs.declared.state.Frame.{Frame}
use Rattle.dalvik_defs.specs.declared.forms.Form.{Form}
use Rattle.dalvik_defs.specs.declared.forms.Form.TheVariants as form
use Rattle.dalvik_defs.specs.declared.tables.Floats.{Floats}
use Rattle.dalvik_defs.specs.declared.tables.Framework.{Framework}
use Rattle.dalvik_defs.specs.declared.program.NamedProgram.{NamedProgram}
use Rattle.pass_defs.specs.Kinds.{Kind, kind_eq, is_number, is_initialised, kind_of_reference, fits}
use Rattle.pass_defs.specs.Kinds as kind
use Rattle.pass_defs.specs.Registers.{Kinds, kind_at, written}
use Rattle.pass_defs.specs.Demands.{Demand, Pair, Fits, meets, item_eq, is_array_where, has_width, put_item as put_demand}
use Rattle.pass_defs.specs.Typed.{after, got}
use Rattle.run_laws.specs.Holds.{Each}
use Rattle.run_laws.proofs.Growing.{grows_with}
use Rattle.run_laws.proofs.Fine.{each_set, each_get, each_join, each_drop, each_map}
use Rattle.run_laws.specs.TypedStates.{IsObject, item_kind, KindHolds, ItemOf, TypedFrame, TypedThing, TypedWorld, ArrayFits}
use Rattle.run_laws.proofs.Settled.{IsSettled}
use Rattle.run_laws.proofs.Registers.{and_left, and_right, IsSingle}
use Rattle.run_laws.proofs.Sorts.{Sorted, OfWord, OfWide, OfReference, OfNone, sorted, not_wide, wide_alone}
use Rattle.run_laws.proofs.Climbs.{none_some, or_cases}
use Rattle.run_laws.proofs.Arrays.{true_false}
use Rattle.run_laws.proofs.Orders.{number_held, reference_held, fits_held}
use Rattle.run_laws.proofs.Worlds.{state_later, typed_with, at_typed, zeros_typed, new_object}
use Rattle.run_laws.proofs.Values.{ItemSort, AWide, AReference, ANumber, item_sort, ref_kind, ref_single, ArrayThing, ItemFits, demanded_array, reads_number, reads_object, stores_wide, stores_number, stores_object}
use Rattle.run_laws.proofs.Forms.{first_in, null_is, or_left, or_right, any_class, Does, Is, reg_held, low_held, stays, puts, puts_in, puts_wide, held, changes, throws_new}

at_end : (xs : List Thing) (y : Thing) (m : ℕ) → m ≡ length xs → slice_get (xs ++ y ∷ []) m ≡ Some y
at_end [] y zero e = refl
at_end [] y (suc m) e = absurd (omega (arith, e))
at_end (x ∷ xs) y zero e = absurd (omega (arith, e))
at_end (x ∷ xs) y (suc m) e = at_end xs y m (omega (arith, e))

pub kind_new : (w : World) (y : Thing) → kind_of (with_thing w y) (next_object w) ≡ kind_of_thing y
kind_new w y = ap (λ o. elim o as (λ o. Text) [ Some x ↦ kind_of_thing x | None ↦ [] ]) (at_end w.heap y (length w.heap) refl)

pub untrue2 : (b : Bool) → not b ≡ false → b ≡ true
untrue2 true e = refl
untrue2 false e = absurd (true≢false e)

module _ (p : NamedProgram) (o : Outer) (f : Framework) (floats : Floats) (reg : IsSettled p) where
  -- a new array is of its type
  pub array_new : (c : Text) (w : World) (u : Text) (vs : List Value) → is_array u ≡ true → KindHolds p f c (with_thing w (Items (item_of u) vs)) (kind.Array u) (next_object w)
  array_new c w [] vs e = absurd (true≢false (sym e))
  array_new c w (x ∷ us) vs e = inr (new_object w (Items us vs), subst (λ z. ArrayFits p f z (x ∷ us)) (sym (kind_new w (Items us vs))) (refl, (e, inl refl)))

  module _ (w : World) (cs : Classes) (g : Frame) (tw : TypedWorld p f w) (t : TypedFrame p f w g) where
    abbrev class : Text
    class = t.in_method.class.name

    abbrev a : Kinds
    a = t.kinds

    abbrev n : ℕ
    n = g.position

    abbrev D : Effect → Type 0
    D = Does p o f floats reg w cs g tw t

    abbrev I : Form → Type 0
    I = Is p o f floats reg w cs g tw t

    pub news : (to size : ℕ) (u : Text) → I (form.NewArray to size u) → D (act (face_of p f).under floats (form.NewArray to size u) w g)
    news to size u h = by (signed false (number g size))
      where
        by : (z : ℤ) → D (new_array z u w g to)
        by (negsuc m) = throws_new p o f floats reg w cs g tw t (form.NewArray to size u) h negative_size refl refl
        by (pos m) = let th = zeros (item_of u) m in puts_in p o f floats reg w cs g tw t (form.NewArray to size u) h (with_thing w th) (grows_with w th) (typed_with p f w th tw (zeros_typed p f w (item_of u) m)) None to (kind.Array u) (next_object w) refl (first_in (n + 1) []) (λ r ks. refl)
            (array_new class w u (replicate m (zero_of (item_of u))) (untrue2 (is_array u) h.right))

    -- an argument of a filled array
    fitting_items : (u : Text) → (u ≡ codes "I") ⊎ (is_reference u ≡ true) → (rs : List ℕ) → list_all (λ (d : ℕ × Demand). meets p t.in_method.class a.registers d.0 d.1) (map (λ r. (r, Fits u)) rs) ≡ true → Each (ItemOf p f w u) (map (register g) rs)
    fitting_items u k [] e = tt
    fitting_items u k (r ∷ rs) e = (one k, fitting_items u k rs (and_right (fits p (kind_at a.registers r) u) (list_all (λ (d : ℕ × Demand). meets p t.in_method.class a.registers d.0 d.1) (map (λ r. (r, Fits u)) rs)) e))
      where
        fit : is_wide u ≡ false → KindHolds p f class w (kind.kind_of p u) (register g r)
        fit i = fits_held p f reg class w (kind_at a.registers r) u (register g r) i (and_left (fits p (kind_at a.registers r) u) (list_all (λ (d : ℕ × Demand). meets p t.in_method.class a.registers d.0 d.1) (map (λ r. (r, Fits u)) rs)) e) (reg_held p o f floats reg w cs g tw t r)

        same_item : is_word u ≡ true ⊎ is_reference u ≡ true → kind.kind_of p u ≡ item_kind p u
        same_item k = by (sorted p u) k
          where
            by : Sorted p u → is_word u ≡ true ⊎ is_reference u ≡ true → kind.kind_of p u ≡ item_kind p u
            by (OfWord i x b j l) k = j ∙ sym l
            by (OfWide i x b j l) k = j ∙ sym l
            by (OfReference i x b j l) k = j ∙ sym l
            by (OfNone i x b j l) (inl k) = true_false k i
            by (OfNone i x b j l) (inr k) = true_false k b

        one : (u ≡ codes "I") ⊎ (is_reference u ≡ true) → ItemOf p f w u (register g r)
        one (inl k) d = subst (λ k. KindHolds p f d w k (register g r)) (same_item (inl (ap is_word k))) (any_class p f reg class d w u (register g r) (fit (ap is_wide k)))
        one (inr k) d = subst (λ k. KindHolds p f d w k (register g r)) (same_item (inr k)) (any_class p f reg class d w u (register g r) (fit (not_wide u k)))

    pub filled_news : (u : Text) (args : List ℕ) → I (form.FilledNewArray u args) → D (act (face_of p f).under floats (form.FilledNewArray u args) w g)
    filled_news u args h = let th = Items (item_of u) (map (register g) args) in let w1 = with_thing w th in let z = state_later p f class w w1 (grows_with w th) a g t.holds in
        let arr = untrue2 (is_array u) (or_left (not (is_array u)) (not (text_eq (item_of u) (codes "I") || is_reference (item_of u))) h.right) in
        let fit = untrue2 (text_eq (item_of u) (codes "I") || is_reference (item_of u)) (or_right (not (is_array u)) (not (text_eq (item_of u) (codes "I") || is_reference (item_of u))) h.right) in
        stays p o f floats reg w cs g tw t (form.FilledNewArray u args) h (n + 1) (first_in (n + 1) []) w1
        (typed_with p f w th tw (fitting_items (item_of u) (by (or_cases (text_eq (item_of u) (codes "I")) (is_reference (item_of u)) fit)) args h.allowed)) (next (record g { result = next_object w })) None t.of refl
        (record { registers = z.registers; result = array_new class w u (map (register g) args) arr; caught = z.caught })
      where
        by : (text_eq (item_of u) (codes "I") ≡ true) ⊎ (is_reference (item_of u) ≡ true) → (item_of u ≡ codes "I") ⊎ (is_reference (item_of u) ≡ true)
        by (inl k) = inl (text_sound (item_of u) (codes "I") k)
        by (inr k) = inr k

    -- ---- items

    item_in : (z : Text) (vs : List Value) (at : ℤ) (v : Value) → Each (ItemOf p f w z) vs → item_at vs at ≡ Some v → ItemOf p f w z v
    item_in z vs (negsuc m) v h e = none_some v e
    item_in z vs (pos m) v h e = each_get (ItemOf p f w z) vs m v h e

    abbrev Array : ℕ → Item → Type 0
    Array r i = (u : Text) × ((kind_at a.registers r ≡ kind.Array u) × ((item_eq (item_of_type (item_of u)) i ≡ true) × ArrayThing p f w (register g r) u))

    got_number : (i : Item) (to array index : ℕ) → item_eq item.Wide i ≡ false → item_eq item.Object i ≡ false → I (form.ArrayGet i to array index) → after p t.in_method.class n (form.ArrayGet i to array index) a ≡ written to kind.Word a
        → ((v : Value) → D (Goes w (next (write g to v))) → D (Goes w (next (write_item i g to v)))) → Array array i → (at : ℤ) → D (array_get i (thing_at w (register g array)) w g to at)
    got_number i to array index no_wide no_object h l same (u, (k, (e, th))) at = subst (λ y. D (array_get i y w g to at)) (sym th.at) (by (item_at th.items at) refl)
      where
        by : (y : Option Value) → item_at th.items at ≡ y → D (reads_item i y w g to)
        by None j = throws_new p o f floats reg w cs g tw t (form.ArrayGet i to array index) h out_of_bounds refl refl
        by (Some v) j = let m = reads_number p f reg w tw th.item (item_of u) i v e no_wide no_object th.fits (item_in th.item th.items at v (at_typed p f w (register g array) (Items th.item th.items) tw th.at) j) in
            same v (puts p o f floats reg w cs g tw t (form.ArrayGet i to array index) h to kind.Word v l (first_in (n + 1) []) (λ r ks. refl) m)

    got_wide : (to array index : ℕ) → I (form.ArrayGet item.Wide to array index) → Array array item.Wide → (at : ℤ) → D (array_get item.Wide (thing_at w (register g array)) w g to at)
    got_wide to array index h (u, (k, (e, th))) at = subst (λ y. D (array_get item.Wide y w g to at)) (sym th.at) (by (item_at th.items at))
      where
        by : (y : Option Value) → D (reads_item item.Wide y w g to)
        by None = throws_new p o f floats reg w cs g tw t (form.ArrayGet item.Wide to array index) h out_of_bounds refl refl
        by (Some v) = puts_wide p o f floats reg w cs g tw t (form.ArrayGet item.Wide to array index) h to (word_of v) refl (first_in (n + 1) [])

    got_object : (to array index : ℕ) → I (form.ArrayGet item.Object to array index) → Array array item.Object → (at : ℤ) → D (array_get item.Object (thing_at w (register g array)) w g to at)
    got_object to array index h (u, (k, (e, th))) at = subst (λ y. D (array_get item.Object y w g to at)) (sym th.at) (by (item_at th.items at) refl)
      where
        single : ItemSort p f reg w tw (item_of u) (item_of_type (item_of u)) → IsSingle p f class w (kind.kind_of p (item_of u))
        single (AWide x i) = absurd (true≢false (sym e ∙ ap (λ x. item_eq x item.Object) i))
        single (ANumber x b i l) = true_false e l
        single (AReference x b i) = subst (IsSingle p f class w) (sym (ref_kind p f reg w tw (item_of u) b)) (ref_single p f class w (item_of u))

        by : (y : Option Value) → item_at th.items at ≡ y → D (reads_item item.Object y w g to)
        by None j = throws_new p o f floats reg w cs g tw t (form.ArrayGet item.Object to array index) h out_of_bounds refl refl
        by (Some v) j = puts p o f floats reg w cs g tw t (form.ArrayGet item.Object to array index) h to (kind.kind_of p (item_of u)) v (ap (λ k. written to (got p item.Object k) a) k) (first_in (n + 1) []) (single (item_sort p f reg w tw (item_of u)))
            (reads_object p f reg w tw class th.item (item_of u) v e th.fits (item_in th.item th.items at v (at_typed p f w (register g array) (Items th.item th.items) tw th.at) j))

    -- the array that an instruction demands
    demanded : (i : Item) (array : ℕ) → is_array_where (λ u. item_eq (item_of_type u) i) (kind_at a.registers array) ≡ true → is_null (register g array) ≡ false → Array array i
    demanded i array e j = demanded_array p f reg w tw class (λ u. item_eq (item_of_type u) i) (kind_at a.registers array) (register g array) e (reg_held p o f floats reg w cs g tw t array) j

    pub gets : (i : Item) (to array index : ℕ) → I (form.ArrayGet i to array index) → D (act (face_of p f).under floats (form.ArrayGet i to array index) w g)
    gets i to array index h = held p o f floats reg w cs g tw t (form.ArrayGet i to array index) h (register g array) (array_get i (thing_at w (register g array)) w g to (signed false (number g index))) refl
        (λ j. by i h (demanded i array (and_left (is_array_where (λ u. item_eq (item_of_type u) i) (kind_at a.registers array)) (is_number (kind_at a.registers index) && true) h.allowed) j) (signed false (number g index)))
      where
        by : (i : Item) → I (form.ArrayGet i to array index) → Array array i → (at : ℤ) → D (array_get i (thing_at w (register g array)) w g to at)
        by item.Wide h d at = got_wide to array index h d at
        by item.Object h d at = got_object to array index h d at
        by item.Plain h d at = got_number item.Plain to array index refl refl h refl (λ v x. x) d at
        by item.Boolean h d at = got_number item.Boolean to array index refl refl h refl (λ v x. x) d at
        by item.Byte h d at = got_number item.Byte to array index refl refl h refl (λ v x. x) d at
        by item.Char h d at = got_number item.Char to array index refl refl h refl (λ v x. x) d at
        by item.Short h d at = got_number item.Short to array index refl refl h refl (λ v x. x) d at

    -- ---- items that are put

    put_kind : (i : Item) (k : Text) (vs : List Value) (at : ℤ) (v : Value) → kind_of_thing (put_item i k vs at v) ≡ kind_of_thing (Items k vs)
    put_kind i k vs (pos m) v = refl
    put_kind i k vs (negsuc m) v = refl

    put_typed : (i : Item) (k : Text) (vs : List Value) (at : ℤ) (v : Value) → Each (ItemOf p f w k) vs → ItemOf p f w k (stored i v) → TypedThing p f w (put_item i k vs at v)
    put_typed i k vs (pos m) v h j = each_set (ItemOf p f w k) vs m (stored i v) h j
    put_typed i k vs (negsuc m) v h j = h

    put_in : (i : Item) (from array index : ℕ) (h : I (form.ArrayPut i from array index)) (d : Array array i) → (may_store (face_of p f).under w i (register g from) d.1.1.1.item ≡ true → ItemOf p f w d.1.1.1.item (stored i (register g from)))
        → (at : ℤ) → D (array_put (face_of p f).under i (thing_at w (register g array)) w g (register g from) (register g array) at)
    put_in i from array index h (u, (k, (e, th))) ok at = subst (λ y. D (array_put (face_of p f).under i y w g (register g from) (register g array) at)) (sym th.at) (by (item_at th.items at))
      where
        store : (b : Bool) → may_store (face_of p f).under w i (register g from) th.item ≡ b → D (writes_item b w g (register g array) (put_item i th.item th.items at (register g from)))
        store true j = changes p o f floats reg w cs g tw t (form.ArrayPut i from array index) h refl (first_in (n + 1) []) (register g array) (Items th.item th.items) (put_item i th.item th.items at (register g from)) th.at (put_kind i th.item th.items at (register g from))
            (put_typed i th.item th.items at (register g from) (at_typed p f w (register g array) (Items th.item th.items) tw th.at) (ok j))
        store false j = throws_new p o f floats reg w cs g tw t (form.ArrayPut i from array index) h bad_store refl refl

        by : (y : Option Value) → D (elim y as (λ y. Effect) [ Some old ↦ writes_item (may_store (face_of p f).under w i (register g from) th.item) w g (register g array) (put_item i th.item th.items at (register g from)) | None ↦ Faults out_of_bounds ])
        by None = throws_new p o f floats reg w cs g tw t (form.ArrayPut i from array index) h out_of_bounds refl refl
        by (Some old) = store (may_store (face_of p f).under w i (register g from) th.item) refl

    stored_word : (i : Item) (m : ℕ) → (k : ℕ) × (stored i (Word m) ≡ Word k)
    stored_word item.Plain m = (m, refl)
    stored_word item.Wide m = (m, refl)
    stored_word item.Object m = (m, refl)
    stored_word item.Boolean m = (m % 2 ^ 8, refl)
    stored_word item.Char m = (m % 2 ^ 16, refl)
    stored_word item.Byte m = (low_signed w8 8 m, refl)
    stored_word item.Short m = (low_signed w16 16 m, refl)

    put_number : (i : Item) (from array index : ℕ) → item_eq item.Wide i ≡ false → item_eq item.Object i ≡ false → I (form.ArrayPut i from array index) → is_number (kind_at a.registers from) ≡ true → Array array i → (at : ℤ) → D (array_put (face_of p f).under i (thing_at w (register g array)) w g (register g from) (register g array) at)
    put_number i from array index no_wide no_object h num (u, (k, (e, th))) at = let m = number_held p f reg class w (kind_at a.registers from) (register g from) num (reg_held p o f floats reg w cs g tw t from) in
        let s = stored_word i m.0 in
        put_in i from array index h (u, (k, (e, th))) (λ j. subst (ItemOf p f w th.item) (sym (ap (stored i) m.1 ∙ s.1)) (stores_number p f reg w tw th.item (item_of u) i s.0 e no_wide no_object th.fits)) at

    put_wide : (from array index : ℕ) → I (form.ArrayPut item.Wide from array index) → meets p t.in_method.class a.registers from Pair ≡ true → Array array item.Wide → (at : ℤ) → D (array_put (face_of p f).under item.Wide (thing_at w (register g array)) w g (register g from) (register g array) at)
    put_wide from array index h pair (u, (k, (e, th))) at = let m = (low_held p o f floats reg w cs g tw t from pair).0 in
        put_in item.Wide from array index h (u, (k, (e, th))) (λ j. subst (ItemOf p f w th.item) (sym m.1) (stores_wide p f reg w tw th.item (item_of u) m.0 e th.fits)) at

    put_object : (from array index : ℕ) → I (form.ArrayPut item.Object from array index) → is_initialised (kind_at a.registers from) ≡ true → Array array item.Object → (at : ℤ) → D (array_put (face_of p f).under item.Object (thing_at w (register g array)) w g (register g from) (register g array) at)
    put_object from array index h ini (u, (k, (e, th))) at = put_in item.Object from array index h (u, (k, (e, th))) (λ j. stores_object p f reg w tw th.item (item_of u) (register g from) e th.fits (by (or_cases (is_null (register g from)) ((face_of p f).under (kind_of w (register g from)) th.item) j)
        (reference_held p f reg class w (kind_at a.registers from) (register g from) ini (reg_held p o f floats reg w cs g tw t from)))) at
      where
        by : (is_null (register g from) ≡ true) ⊎ ((face_of p f).under (kind_of w (register g from)) th.item ≡ true) → (register g from ≡ Word 0) ⊎ IsObject w (register g from) → (register g from ≡ Word 0) ⊎ (IsObject w (register g from) × ((face_of p f).under (kind_of w (register g from)) th.item ≡ true))
        by (inl i) x = inl (null_is (register g from) i)
        by (inr i) (inl x) = inl x
        by (inr i) (inr x) = inr (x, i)

    pub puts_items : (i : Item) (from array index : ℕ) → I (form.ArrayPut i from array index) → D (act (face_of p f).under floats (form.ArrayPut i from array index) w g)
    puts_items i from array index h = held p o f floats reg w cs g tw t (form.ArrayPut i from array index) h (register g array) (array_put (face_of p f).under i (thing_at w (register g array)) w g (register g from) (register g array) (signed false (number g index))) refl
        (λ j. let rest = is_array_where (λ u. item_eq (item_of_type u) i) (kind_at a.registers array) && (is_number (kind_at a.registers index) && true) in
        by i h (and_left (meets p t.in_method.class a.registers from (put_demand i)) rest h.allowed) (demanded i array (and_left (is_array_where (λ u. item_eq (item_of_type u) i) (kind_at a.registers array)) (is_number (kind_at a.registers index) && true) (and_right (meets p t.in_method.class a.registers from (put_demand i)) rest h.allowed)) j) (signed false (number g index)))
      where
        by : (i : Item) → I (form.ArrayPut i from array index) → meets p t.in_method.class a.registers from (put_demand i) ≡ true → Array array i → (at : ℤ) → D (array_put (face_of p f).under i (thing_at w (register g array)) w g (register g from) (register g array) at)
        by item.Wide h e d at = put_wide from array index h e d at
        by item.Object h e d at = put_object from array index h e d at
        by item.Plain h e d at = put_number item.Plain from array index refl refl h e d at
        by item.Boolean h e d at = put_number item.Boolean from array index refl refl h e d at
        by item.Byte h e d at = put_number item.Byte from array index refl refl h e d at
        by item.Char h e d at = put_number item.Char from array index refl refl h e d at
        by item.Short h e d at = put_number item.Short from array index refl refl h e d at

    -- ---- arrays that are filled

    filled_item : (z u : Text) (width : ℕ) (m : ℕ) → has_width width (item_of_type u) ≡ true → ItemFits p f z u → ItemOf p f w z (filled z m)
    filled_item z u width m e k d = by (item_sort p f reg w tw u) k
      where
        flat : (b : Bool) → is_wide z ≡ b → is_reference z ≡ false → KindHolds p f d w (item_kind p z) (elim b as (λ b. Value) [ true ↦ Low m | false ↦ stored (item_of_type z) (Word (m % 2 ^ 32)) ])
        flat true i r = subst (λ k. KindHolds p f d w k (Low m)) (sym (ap (λ b. if b then kind.Low else if is_reference z then kind_of_reference p z else kind.Word) i)) (m, refl)
        flat false i r = subst (λ k. KindHolds p f d w k (stored (item_of_type z) (Word (m % 2 ^ 32)))) (sym (ap (λ b. if b then kind.Low else if is_reference z then kind_of_reference p z else kind.Word) i ∙ ap (λ b. if b then kind_of_reference p z else kind.Word) r)) (stored_word (item_of_type z) (m % 2 ^ 32))

        as_is : z ≡ u → is_reference u ≡ false → KindHolds p f d w (item_kind p z) (filled z m)
        as_is j r = flat (is_wide z) refl (subst (λ x. is_reference x ≡ false) (sym j) r)

        by : ItemSort p f reg w tw u (item_of_type u) → ItemFits p f z u → KindHolds p f d w (item_kind p z) (filled z m)
        by (AWide x i) (inl j) = as_is j (wide_alone u x)
        by (AWide x i) (inr j) = true_false j.1.0 (wide_alone u x)
        by (ANumber x b i l) (inl j) = as_is j b
        by (ANumber x b i l) (inr j) = true_false j.1.0 b
        by (AReference x b i) j = absurd (true≢false (sym e ∙ ap (has_width width) i))

    pub fills_held : (on width : ℕ) (items : List ℕ) → I (form.FillArray on width items) → D (act (face_of p f).under floats (form.FillArray on width items) w g)
    fills_held on width items h = held p o f floats reg w cs g tw t (form.FillArray on width items) h (register g on) (fills (thing_at w (register g on)) w g (register g on) items) refl
        (λ j. by (demanded_array p f reg w tw class (λ u. has_width width (item_of_type u)) (kind_at a.registers on) (register g on) (and_left (is_array_where (λ u. has_width width (item_of_type u)) (kind_at a.registers on)) true h.allowed) (reg_held p o f floats reg w cs g tw t on) j))
      where
        by : (u : Text) × ((kind_at a.registers on ≡ kind.Array u) × ((has_width width (item_of_type (item_of u)) ≡ true) × ArrayThing p f w (register g on) u)) → D (fills (thing_at w (register g on)) w g (register g on) items)
        by (u, (k, (e, th))) = subst (λ y. D (fills y w g (register g on) items)) (sym th.at) (one (nat_lt (length th.items) (length items)))
          where
            one : (b : Bool) → D (elim b as (λ b. Effect) [ true ↦ Faults out_of_bounds | false ↦ Goes (put_thing w (register g on) (Items th.item (fill th.item items th.items))) (next g) ])
            one true = throws_new p o f floats reg w cs g tw t (form.FillArray on width items) h out_of_bounds refl refl
            one false = changes p o f floats reg w cs g tw t (form.FillArray on width items) h refl (first_in (n + 1) []) (register g on) (Items th.item th.items) (Items th.item (fill th.item items th.items)) th.at refl
                (each_join (ItemOf p f w th.item) (map (filled th.item) items) (drop (length items) th.items) (each_map (ItemOf p f w th.item) (filled th.item) (λ m. filled_item th.item (item_of u) width m e th.fits) items) (each_drop (ItemOf p f w th.item) (length items) th.items (at_typed p f w (register g on) (Items th.item th.items) tw th.at)))
