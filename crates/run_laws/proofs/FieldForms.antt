-- What the forms leave that make an object or name a field.
use Rattle.std.proofs.Common.{◌≡◌, ℕ, zero, suc, ◌+◌, Bool, true, false, true≢false, [], ◌∷◌, ◌++◌, Option, Some, None, ◌⊎◌, inl, inr, refl, sym, ap, ◌∙◌, subst}
use Rattle.std.specs.Prelude.{◌&&◌, ◌||◌, not, ◌%◌, ◌^◌, nat_eq, length, map, Contains}
use Rattle.std.specs.Int.{w8, w16}
use Rattle.std.specs.Option.{option_map, option_or}
use Rattle.insn_set.specs.declared.ops.Item.{Item}
use Rattle.insn_set.specs.declared.ops.Item.TheVariants as item
use Rattle.dalvik_defs.specs.Names.{Text, is_wide, is_reference, is_class_type}
use Rattle.dalvik_defs.specs.Known.{no_class}
use Rattle.dalvik_defs.specs.Arith.{low_signed}
use Rattle.dalvik_defs.specs.Face.{face_of, Place, place_of, is_defined}
use Rattle.dalvik_defs.specs.Fields.{key_at, static_value, instance_value, written_or, first_of, with_static, with_instance}
use Rattle.dalvik_defs.specs.Find.{finds_field, field_from, field_in, first_field}
use Rattle.dalvik_defs.specs.Under.{class_named, defines}
use Rattle.dalvik_defs.specs.Flags.{is_interface, is_abstract}
use Rattle.dalvik_defs.specs.Outer.{Outer}
use Rattle.dalvik_defs.specs.Items.{stored}
use Rattle.dalvik_defs.specs.Show.{show, show_option}
use Rattle.dalvik_defs.specs.State.{World, Classes, Instance, is_null, word_of, kind_of, thing_at, put_field, fresh, zero_of, with_thing, next_object}
use Rattle.dalvik_defs.specs.Effect.{Effect, Reads, Writes, register, write, write_item, next}
use Rattle.dalvik_defs.specs.Outcome.{Outcome, Stays, Need, Ready, Fresh, Broken, need_of, when_ready, reads_value, reads_static, reads_instance, reads_out, writes_out, written as written_to, writes_static, writes_instance}
use Rattle.dalvik_defs.specs.Act.{act}
use Rattle.dalvik_defs.specs.declared.names.FieldKey.{FieldKey}
use Rattle.dalvik_defs.specs.declared.program.NamedClass.{NamedClass}
use Rattle.dalvik_defs.specs.declared.program.NamedField.{NamedField}
use Rattle.dalvik_defs.specs.declared.state.Value.{Value}
use Rattle.dalvik_defs.specs.declared.state.Value.TheVariants.{Word}
use Rattle.dalvik_defs.specs.declared.state.Frame.{Frame}
use Rattle.dalvik_defs.specs.declared.events.Event.{Event}
use Rattle.dalvik_defs.specs.declared.events.Event.TheVariants as event
use Rattle.dalvik_defs.specs.declared.forms.Form.{Form}
use Rattle.dalvik_defs.specs.declared.forms.Form.TheVariants as form
use Rattle.dalvik_defs.specs.declared.tables.Floats.{Floats}
use Rattle.dalvik_defs.specs.declared.tables.Framework.{Framework}
use Rattle.dalvik_defs.specs.declared.program.NamedProgram.{NamedProgram}
use Rattle.pass_defs.specs.Bare.{may_throw}
use Rattle.pass_defs.specs.Walks.{onward}
use Rattle.pass_defs.specs.Kinds.{Kind, is_plain, is_program_interface, kind_of_reference, fits, fits_holder}
use Rattle.pass_defs.specs.Kinds as kind
use Rattle.pass_defs.specs.Registers.{Kinds, kind_at, written, forget, forgotten}
use Rattle.pass_defs.specs.Demands.{of_type, meets, holds_field}
use Rattle.pass_defs.specs.Typed.{after, wrong_field, wrong_first, wrong_item}
use Rattle.run_laws.specs.Invariant.{Above, Begun, Owing}
use Rattle.run_laws.specs.Fine.{IsThere}
use Rattle.run_laws.proofs.Growing.{grows_same, grows_with, show_heap, option_heap, there_later}
use Rattle.run_laws.specs.TypedStates.{IsObject, KindHolds, ValueOf, StateHolds, AskedOf, IsUnder, TypedFrame, TypedWaiting, TypedWorld}
use Rattle.run_laws.proofs.Settled.{IsSettled}
use Rattle.run_laws.proofs.Registers.{KeepsHalves, and_left, and_right, there_held, all_written, all_map, IsSingle}
use Rattle.run_laws.proofs.Sorts.{RefSort, AnArray, APlain, AnAny, ref_sort, Sorted, OfWord, OfWide, OfReference, OfNone, sorted, class_alone, not_wide}
use Rattle.run_laws.proofs.Climbs.{plain_defined, defined_by, plain_by, none_some, some_one}
use Rattle.run_laws.proofs.Arrays.{true_false}
use Rattle.run_laws.proofs.Orders.{fits_held}
use Rattle.run_laws.proofs.Worlds.{state_later, typed_with, at_typed, typed_show, typed_option, typed_static, put_typed, fresh_typed, zero_value, waiting_later, new_object, object_there}
use Rattle.run_laws.proofs.Values.{instance_thing, ref_single}
use Rattle.run_laws.proofs.FirstValues.{first_held}
use Rattle.run_laws.proofs.Forms.{wide_kind, typed_value, shown, first_in, or_left, or_right, Leads, Does, Is, reg_held, stays, puts, puts_wide, held, changes, throws_new}
use Rattle.run_laws.proofs.ArrayForms.{kind_new, untrue2}

forget_held : (p : NamedProgram) (f : Framework) (c : Text) (w : World) (m : ℕ) (k : Kind) (v : Value) → KindHolds p f c w k v → KindHolds p f c w (forgotten m k) v × KeepsHalves k (forgotten m k)
forget_held p f c w m (kind.Fresh u q) v h = by (nat_eq m q)
  where
    by : (b : Bool) → KindHolds p f c w (elim b as (λ b. Kind) [ true ↦ kind.Undefined | false ↦ kind.Fresh u q ]) v × KeepsHalves (kind.Fresh u q) (elim b as (λ b. Kind) [ true ↦ kind.Undefined | false ↦ kind.Fresh u q ])
    by true = (object_there w v h.0, (λ i. i, λ i. i))
    by false = (h, (λ i. i, λ i. i))
forget_held p f c w m k v h = (h, (λ i. i, λ i. i))

module _ (p : NamedProgram) (o : Outer) (f : Framework) (floats : Floats) (reg : IsSettled p) where
  holder : (c : NamedClass) (k : FieldKey) (q : Kind) → holds_field p c k q ≡ true → (q ≡ kind.FreshThis) ⊎ (fits_holder p q k.class ≡ true)
  holder c k kind.FreshThis e = inl refl
  holder c k q e = inr e

  pub field_defined : (m : ℕ) (k : FieldKey) (u : Text) (y : Text × NamedField) → field_from m p k u ≡ Some y → defines p u ≡ true
  field_defined zero k u y e = none_some y e
  field_defined (suc m) k u y e = by (class_named p u) refl
    where
      by : (z : Option NamedClass) → class_named p u ≡ z → defines p u ≡ true
      by (Some c) i = defined_by p u (Some c) i
      by None i = none_some y (sym (ap (λ z. elim z as (λ z. Option (Text × NamedField)) [
        | Some c ↦ option_or (option_map (λ f. (c.name, f)) (field_in c k.name k.kind)) (first_field (map (field_from m p k) (c.interfaces ++ c.superclass ∷ [])))
        | None ↦ None
      ]) i) ∙ e)

  module _ (w : World) (cs : Classes) (g : Frame) (tw : TypedWorld p f w) (t : TypedFrame p f w g) where
    abbrev class : Text
    class = t.in_method.class.name

    abbrev a : Kinds
    a = t.kinds

    abbrev n : ℕ
    n = g.position

    abbrev L : Outcome → Type 0
    L = Leads p o f floats reg w cs g tw t

    abbrev D : Effect → Type 0
    D = Does p o f floats reg w cs g tw t

    abbrev I : Form → Type 0
    I = Is p o f floats reg w cs g tw t

    abbrev need : Text → Need
    need = need_of (face_of p f) cs

    module _ (x : Form) (h : I x) (thr : may_throw x ≡ true) where
      pub waits : (above : Above) → AskedOf p f x above → TypedWaiting p f w above g
      waits above e = record { frame = t; form = x; has_form = h.has; asks = e; throws = thr }

      pub waits_in : (w1 : World) → w1.heap ≡ w.heap → (above : Above) → AskedOf p f x above → TypedWaiting p f w1 above g
      waits_in w1 heap above e = waiting_later p f w w1 above g (grows_same w w1 heap) (waits above e)

      pub readied : (y : Need) (u : Text) (now : Outcome) → L now → L (when_ready y w u now)
      readied Ready u now l = l
      readied Fresh u now l = (tt, waits (Begun u) tt)
      readied Broken u now l = throws_new p o f floats reg w cs g tw t x h no_class refl thr

    pub makes_held : (to : ℕ) (u : Text) → I (form.NewInstance to u) → D (act (face_of p f).under floats (form.NewInstance to u) w g)
    makes_held to u h = by (is_defined (face_of p f) u)
      where
        named : is_class_type u ≡ true
        named = untrue2 (is_class_type u) (or_left (not (is_class_type u)) (elim (class_named p u) as (λ z. Bool) [ Some c ↦ is_abstract c.flags || is_interface c.flags | None ↦ false ]) h.right)

        w1 : World
        w1 = with_thing w (fresh u)

        t1 : TypedWorld p f w1
        t1 = typed_with p f w (fresh u) tw (fresh_typed p f w u named)

        s1 : StateHolds p f class w1 (written to (kind.Fresh u n) (forget n a)) (next (write g to (next_object w)))
        s1 = let z = state_later p f class w w1 (grows_with w (fresh u)) a g t.holds in record {
          registers = all_written p f class w1 (map (forgotten n) a.registers) g.registers to (kind.Fresh u n) (next_object w) (λ r ks. refl) (all_map p f class w1 (forgotten n) (forget_held p f class w1 n) a.registers g.registers z.registers) (new_object w (fresh u), (kind_new w (fresh u), named));
          result = z.result;
          caught = z.caught;
        }

        by : (b : Bool) → L (elim b as (λ b. Outcome) [ true ↦ when_ready (need u) w u (Stays w1 (next (write g to (next_object w))) None) | false ↦ Stays (show w1 u (next_object w)).0 (next (write g to (next_object w))) (Some (event.Make (show w1 u (next_object w)).1)) ])
        by true = readied (form.NewInstance to u) h refl (need u) u (Stays w1 (next (write g to (next_object w))) None) (stays p o f floats reg w cs g tw t (form.NewInstance to u) h (n + 1) (first_in (n + 1) []) w1 t1 (next (write g to (next_object w))) None t.of refl s1)
        by false = let w2 = (show w1 u (next_object w)).0 in stays p o f floats reg w cs g tw t (form.NewInstance to u) h (n + 1) (first_in (n + 1) []) w2 (typed_show p f w1 u (next_object w) t1 (object_there w1 (next_object w) (new_object w (fresh u)))) (next (write g to (next_object w))) (Some (event.Make (show w1 u (next_object w)).1)) t.of refl
            (state_later p f class w1 w2 (grows_same w1 w2 (show_heap w1 u (next_object w))) (written to (kind.Fresh u n) (forget n a)) (next (write g to (next_object w))) s1)

    -- ---- a value of a type that an item writes

    pub item_written : (x : Form) → I x → (i : Item) (to : ℕ) (u : Text) (v : Value) (e : Option Event) → wrong_item i u ≡ false → ValueOf p f w u v → after p t.in_method.class n x a ≡ written to (kind.kind_of p u) a → Contains (onward x n) (n + 1) → L (Stays w (next (write_item i g to v)) None)
    item_written x h i to u v e wrong held l c = by i wrong
      where
        low : is_wide u ≡ true → L (Stays w (next (write_item item.Wide g to v)) None)
        low k = puts_wide p o f floats reg w cs g tw t x h to (word_of v) (l ∙ ap (λ k. written to k a) (wide_kind p f reg u k)) c

        single : Sorted p u → is_wide u ≡ false → IsSingle p f class w (kind.kind_of p u)
        single (OfWord q b d j m) k = subst (IsSingle p f class w) (sym j) (λ r ks. refl)
        single (OfWide q b d j m) k = true_false b k
        single (OfReference q b d j m) k = subst (IsSingle p f class w) (sym j) (ref_single p f class w u)
        single (OfNone q b d j m) k = subst (IsSingle p f class w) (sym j) (λ r ks. refl)

        one : is_wide u ≡ false → L (Stays w (next (write g to v)) None)
        one k = puts p o f floats reg w cs g tw t x h to (kind.kind_of p u) v l c (single (sorted p u) k) (held class)

        by : (i : Item) → wrong_item i u ≡ false → L (Stays w (next (write_item i g to v)) None)
        by item.Wide k = low (untrue2 (is_wide u) k)
        by item.Object k = one (not_wide u (untrue2 (is_reference u) k))
        by item.Plain k = one (or_left (is_wide u) (is_reference u) k)
        by item.Boolean k = one (or_left (is_wide u) (is_reference u) k)
        by item.Byte k = one (or_left (is_wide u) (is_reference u) k)
        by item.Char k = one (or_left (is_wide u) (is_reference u) k)
        by item.Short k = one (or_left (is_wide u) (is_reference u) k)

    small : (u : Text) (m : ℕ) → is_wide u ≡ false → is_reference u ≡ false → ValueOf p f w u (Word m)
    small u m i j d = by (sorted p u)
      where
        by : Sorted p u → KindHolds p f d w (kind.kind_of p u) (Word m)
        by (OfWord q b c e l) = subst (λ k. KindHolds p f d w k (Word m)) (sym e) (m, refl)
        by (OfWide q b c e l) = true_false b i
        by (OfReference q b c e l) = true_false c j
        by (OfNone q b c e l) = subst (λ k. KindHolds p f d w k (Word m)) (sym e) tt

    pub stored_value : (i : Item) (u : Text) (v : Value) → wrong_item i u ≡ false → ValueOf p f w u v → ValueOf p f w u (stored i v)
    stored_value item.Plain u v e h = h
    stored_value item.Wide u v e h = h
    stored_value item.Object u v e h = h
    stored_value item.Boolean u v e h = small u (word_of v % 2 ^ 8) (or_left (is_wide u) (is_reference u) e) (or_right (is_wide u) (is_reference u) e)
    stored_value item.Byte u v e h = small u (low_signed w8 8 (word_of v)) (or_left (is_wide u) (is_reference u) e) (or_right (is_wide u) (is_reference u) e)
    stored_value item.Char u v e h = small u (word_of v % 2 ^ 16) (or_left (is_wide u) (is_reference u) e) (or_right (is_wide u) (is_reference u) e)
    stored_value item.Short u v e h = small u (low_signed w16 16 (word_of v)) (or_left (is_wide u) (is_reference u) e) (or_right (is_wide u) (is_reference u) e)

    -- ---- what holds a field

    pub fitting : (u : Text) → is_plain p u ≡ true → (r : ℕ) → fits p (kind_at a.registers r) u ≡ true → is_null (register g r) ≡ false → IsObject w (register g r) × ((face_of p f).under (kind_of w (register g r)) u ≡ true)
    fitting u pl r e z = by (sorted p u) (ref_sort p u)
      where
        named : is_class_type u ≡ true
        named = reg.regular.class_types u (plain_defined p u pl)

        v : Value
        v = register g r

        now : IsUnder p f w v u → IsObject w v × ((face_of p f).under (kind_of w v) u ≡ true)
        now (inl i) = true_false (ap is_null i) z
        now (inr i) = i

        kind_held : KindHolds p f class w (kind.kind_of p u) v
        kind_held = fits_held p f reg class w (kind_at a.registers r) u v (not_wide u (class_alone u named).0) e (reg_held p o f floats reg w cs g tw t r)

        by : Sorted p u → RefSort p u → IsObject w v × ((face_of p f).under (kind_of w v) u ≡ true)
        by (OfReference q b d j m) (APlain k l i) = now (subst (λ k. KindHolds p f class w k v) (j ∙ i) kind_held)
        by (OfReference q b d j m) (AnArray k i) = true_false k (class_alone u named).1
        by (OfReference q b d j m) (AnAny k l i) = true_false pl l
        by (OfWord q b d j m) s = true_false (class_alone u named).0 d
        by (OfWide q b d j m) s = true_false (class_alone u named).0 d
        by (OfNone q b d j m) s = true_false (class_alone u named).0 d

    -- an object that holds a field is of no interface's kind
    null_kind : (q : Kind) (v : Value) → kind.is_null q ≡ true → KindHolds p f class w q v → v ≡ Word 0
    null_kind kind.Zero v e h = h
    null_kind kind.Null v e h = h
    null_kind q v e h = absurd (true≢false (sym e))

    no_interface : (k : FieldKey) (r : ℕ) → fits_holder p (kind_at a.registers r) k.class ≡ true → is_null (register g r) ≡ false → is_program_interface p k.class ≡ false
    no_interface k r e z = by (is_program_interface p k.class) (and_right (fits p (kind_at a.registers r) k.class) (not (is_program_interface p k.class) || kind.is_null (kind_at a.registers r)) e)
      where
        by : (b : Bool) → (not b || kind.is_null (kind_at a.registers r)) ≡ true → b ≡ false
        by false i = refl
        by true i = true_false (ap is_null (null_kind (kind_at a.registers r) (register g r) i (reg_held p o f floats reg w cs g tw t r))) z

    plain_holder : (k : FieldKey) (y : Text × NamedField) → finds_field p k ≡ Some y → is_program_interface p k.class ≡ false → is_plain p k.class ≡ true
    plain_holder k y e outside = by (class_named p k.class) refl outside
      where
        by : (z : Option NamedClass) → class_named p k.class ≡ z → (elim z as (λ z. Bool) [ Some c ↦ is_interface c.flags | None ↦ false ]) ≡ false → is_plain p k.class ≡ true
        by None i j = true_false (field_defined (length p.classes) k k.class y e) (defined_by p k.class None i)
        by (Some c) i j = plain_by p k.class (Some c) i ∙ ap not j

    abbrev Thing_at : Value → Type 0
    Thing_at v = (c : Text) × ((fields : FieldKey → Option Value) × (thing_at w v ≡ Some (Instance c fields)))

    pub holds_instance : (k : FieldKey) (y : Text × NamedField) → finds_field p k ≡ Some y → (r : ℕ) → fits_holder p (kind_at a.registers r) k.class ≡ true → is_null (register g r) ≡ false → Thing_at (register g r)
    holds_instance k y e r i z = let pl = plain_holder k y e (no_interface k r i z) in
        let u = fitting k.class pl r (and_left (fits p (kind_at a.registers r) k.class) (not (is_program_interface p k.class) || kind.is_null (kind_at a.registers r)) i) z in
        instance_thing p f reg w tw (register g r) k.class u.0 (plain_defined p k.class pl) u.1

    pub puts_instance : (k : FieldKey) (y : Text × NamedField) → finds_field p k ≡ Some y → (r : ℕ) → holds_field p t.in_method.class k (kind_at a.registers r) ≡ true → is_null (register g r) ≡ false → Thing_at (register g r)
    puts_instance k y e r i z = by (holder t.in_method.class k (kind_at a.registers r) i)
      where
        by : (kind_at a.registers r ≡ kind.FreshThis) ⊎ (fits_holder p (kind_at a.registers r) k.class ≡ true) → Thing_at (register g r)
        by (inr j) = holds_instance k y e r j z
        by (inl j) = let u = subst (λ q. KindHolds p f class w q (register g r)) j (reg_held p o f floats reg w cs g tw t r) in
            instance_thing p f reg w tw (register g r) class u.0 (defined_by p class (Some t.in_method.class) (reg.regular.named t.in_method.class t.in_method.class_in)) u.1

    -- ---- reads

    maybe_there : (y : Option Value) → ((v : Value) → y ≡ Some v → IsThere w v) → (k : FieldKey) → TypedWorld p f (show_option w k.class y).0
    maybe_there y i k = typed_option p f w k.class y tw i

    read_out : (x : Form) (h : I x) (thr : may_throw x ≡ true) (k : FieldKey) (on : Option Value) → ((v : Value) → on ≡ Some v → IsThere w v) → AskedOf p f x (Owing k.kind) → L (reads_out k on w)
    read_out x h thr k on there e = (maybe_there on there k, waits_in x h thr (show_option w k.class on).0 (option_heap w k.class on) (Owing k.kind) e)

    pub or_value : (u : Text) (y : Option Value) (z : Value) → ((v : Value) → y ≡ Some v → ValueOf p f w u v) → ValueOf p f w u z → ValueOf p f w u (written_or y z)
    or_value u (Some v) z i j = i v refl
    or_value u None z i j = j

    pub instance_gets : (i : Item) (to on : ℕ) (k : FieldKey) → I (form.InstanceGet i to on k) → D (act (face_of p f).under floats (form.InstanceGet i to on k) w g)
    instance_gets i to on k h = held p o f floats reg w cs g tw t (form.InstanceGet i to on k) h (register g on) (Reads i to k (Some (register g on))) refl (λ z. by z (finds_field p k) refl)
      where
        wrong : wrong_item i k.kind ≡ false
        wrong = or_left (wrong_item i k.kind) (wrong_field p false k) h.right

        value : (z : Value) → Thing_at z → (place : Place) → L (reads_value i to (instance_value k place (thing_at w z)) w g)
        value z (c, (fields, e)) place = subst (λ y. L (reads_value i to (instance_value k place y) w g)) (sym e)
            (item_written (form.InstanceGet i to on k) h i to k.kind (written_or (fields (key_at k place)) (zero_of k.kind)) None wrong
            (or_value k.kind (fields (key_at k place)) (zero_of k.kind) (λ v j. (at_typed p f w z (Instance c fields) tw e).1 (key_at k place) v j) (zero_value p f w k.kind)) refl (first_in (n + 1) []))

        by : is_null (register g on) ≡ false → (y : Option (Text × NamedField)) → finds_field p k ≡ y → L (reads_instance i to k (register g on) w g (option_map (λ c. place_of c.0 c.1) (finds_field p k)))
        by z None e = subst (λ y. L (reads_instance i to k (register g on) w g (option_map (λ c. place_of c.0 c.1) y))) (sym e) (read_out (form.InstanceGet i to on k) h refl k (Some (register g on)) (λ v j. subst (IsThere w) (some_one (register g on) v j) (there_held p f class w (kind_at a.registers on) (register g on) (reg_held p o f floats reg w cs g tw t on))) refl)
        by z (Some y) e = subst (λ y. L (reads_instance i to k (register g on) w g (option_map (λ c. place_of c.0 c.1) y))) (sym e) (value (register g on) (holds_instance k y e on (and_left (fits_holder p (kind_at a.registers on) k.class) true h.allowed) z) (place_of y.0 y.1))

    pub static_gets : (i : Item) (to : ℕ) (k : FieldKey) → I (form.StaticGet i to k) → D (act (face_of p f).under floats (form.StaticGet i to k) w g)
    static_gets i to k h = by (finds_field p k) refl
      where
        by : (y : Option (Text × NamedField)) → finds_field p k ≡ y → L (reads_static need i to k w g (option_map (λ c. place_of c.0 c.1) (finds_field p k)))
        by None e = subst (λ y. L (reads_static need i to k w g (option_map (λ c. place_of c.0 c.1) y))) (sym e) (read_out (form.StaticGet i to k) h refl k None (λ v j. none_some v j) refl)
        by (Some y) e = let place = place_of y.0 y.1 in subst (λ y. L (reads_static need i to k w g (option_map (λ c. place_of c.0 c.1) y))) (sym e)
            (readied (form.StaticGet i to k) h refl (need place.class) place.class (reads_value i to (Some (static_value w k place)) w g)
            (item_written (form.StaticGet i to k) h i to k.kind (static_value w k place) None (or_left (wrong_item i k.kind) (wrong_field p true k) (or_left (wrong_item i k.kind || wrong_field p true k) (wrong_first p k) h.right))
            (or_value k.kind (w.statics (key_at k place)) (first_of k place) (λ v j. tw.statics (key_at k place) v j) (first_held p f reg w k y e (or_right (wrong_item i k.kind || wrong_field p true k) (wrong_first p k) h.right))) refl (first_in (n + 1) [])))

    -- ---- writes

    write_out : (x : Form) (h : I x) → after p t.in_method.class n x a ≡ a → Contains (onward x n) (n + 1) → (k : FieldKey) (on : Option Value) (v : Value) → ((u : Value) → on ≡ Some u → IsThere w u) → IsThere w v → L (writes_out k on v w g)
    write_out x h l c k on v i j = let w1 = (show_option w k.class on).0 in
        shown p o f floats reg w cs g tw t x h l c (show w1 k.kind v).0 (show_heap w1 k.kind v ∙ option_heap w k.class on) (typed_show p f w1 k.kind v (typed_option p f w k.class on tw i) (there_later w w1 (grows_same w w1 (option_heap w k.class on)) v j)) (Some (event.Put k.class k.name k.kind (show_option w k.class on).1 (show w1 k.kind v).1))

    value_there : (u : Text) (v : Value) → ValueOf p f w u v → IsThere w v
    value_there u v h = there_held p f [] w (kind.kind_of p u) v (h [])

    pub instance_puts : (i : Item) (from on : ℕ) (k : FieldKey) → I (form.InstancePut i from on k) → D (act (face_of p f).under floats (form.InstancePut i from on k) w g)
    instance_puts i from on k h = held p o f floats reg w cs g tw t (form.InstancePut i from on k) h (register g on) (Writes k (Some (register g on)) (stored i (register g from))) refl (λ z. by z (finds_field p k) refl)
      where
        second : Bool
        second = holds_field p t.in_method.class k (kind_at a.registers on)

        v : Value
        v = stored i (register g from)

        fit : ValueOf p f w k.kind v
        fit = stored_value i k.kind (register g from) (or_left (wrong_item i k.kind) (wrong_field p false k) h.right) (typed_value p o f floats reg w cs g tw t from k.kind (and_left (meets p t.in_method.class a.registers from (of_type k.kind)) (second && true) h.allowed))

        value : (z : Value) → Thing_at z → (place : Place) → L (written_to (with_instance w (key_at k place) z v (thing_at w z)) g)
        value z (c, (fields, e)) place = let new = Instance c (put_field (key_at k place) v fields) in subst (λ y. L (written_to (with_instance w (key_at k place) z v y) g)) (sym e)
            (changes p o f floats reg w cs g tw t (form.InstancePut i from on k) h refl (first_in (n + 1) []) z (Instance c fields) new e refl
            ((at_typed p f w z (Instance c fields) tw e).0, put_typed p f w (key_at k place) v fields (at_typed p f w z (Instance c fields) tw e).1 fit))

        by : is_null (register g on) ≡ false → (y : Option (Text × NamedField)) → finds_field p k ≡ y → L (writes_instance k (register g on) v w g (option_map (λ c. place_of c.0 c.1) (finds_field p k)))
        by z None e = subst (λ y. L (writes_instance k (register g on) v w g (option_map (λ c. place_of c.0 c.1) y))) (sym e) (write_out (form.InstancePut i from on k) h refl (first_in (n + 1) []) k (Some (register g on)) v (λ u j. subst (IsThere w) (some_one (register g on) u j) (there_held p f class w (kind_at a.registers on) (register g on) (reg_held p o f floats reg w cs g tw t on))) (value_there k.kind v fit))
        by z (Some y) e = subst (λ y. L (writes_instance k (register g on) v w g (option_map (λ c. place_of c.0 c.1) y))) (sym e) (value (register g on) (puts_instance k y e on (and_left second true (and_right (meets p t.in_method.class a.registers from (of_type k.kind)) (second && true) h.allowed)) z) (place_of y.0 y.1))

    pub static_puts : (i : Item) (from : ℕ) (k : FieldKey) → I (form.StaticPut i from k) → D (act (face_of p f).under floats (form.StaticPut i from k) w g)
    static_puts i from k h = by (finds_field p k) refl
      where
        v : Value
        v = stored i (register g from)

        fit : ValueOf p f w k.kind v
        fit = stored_value i k.kind (register g from) (or_left (wrong_item i k.kind) (wrong_field p true k) h.right) (typed_value p o f floats reg w cs g tw t from k.kind (and_left (meets p t.in_method.class a.registers from (of_type k.kind)) true h.allowed))

        by : (y : Option (Text × NamedField)) → finds_field p k ≡ y → L (writes_static need k v w g (option_map (λ c. place_of c.0 c.1) (finds_field p k)))
        by None e = subst (λ y. L (writes_static need k v w g (option_map (λ c. place_of c.0 c.1) y))) (sym e) (write_out (form.StaticPut i from k) h refl (first_in (n + 1) []) k None v (λ u j. none_some u j) (value_there k.kind v fit))
        by (Some y) e = let place = place_of y.0 y.1 in subst (λ y. L (writes_static need k v w g (option_map (λ c. place_of c.0 c.1) y))) (sym e)
            (readied (form.StaticPut i from k) h refl (need place.class) place.class (Stays (with_static w (key_at k place) v) (next g) None)
            (shown p o f floats reg w cs g tw t (form.StaticPut i from k) h refl (first_in (n + 1) []) (with_static w (key_at k place) v) refl (typed_static p f w (key_at k place) v tw fit) None))
