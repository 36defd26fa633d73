-- All that the law of invariants asks is met: a typed program is never stuck.
use Rattle.std.proofs.Common.{◌≡◌, ℕ, true, false, true≢false, List, [], ◌∷◌, Option, Some, None, ◌⊎◌, inl, inr, refl, sym, ap, ◌∙◌, subst}
use Rattle.std.specs.Prelude.{◌&&◌, not, ◌%◌, ◌^◌, nat_lt, length, map, slice_set}
use Rattle.std.specs.Int.{w8, w16}
use Rattle.std.specs.List.{list_all, list_any}
use Rattle.std.specs.Option.{option_map}
use Rattle.insn_set.specs.declared.ops.Item.{Item}
use Rattle.insn_set.specs.declared.ops.Item.TheVariants as item
use Rattle.dalvik_defs.specs.Known.{known_rows, no_class, initialiser_error}
use Rattle.dalvik_defs.specs.Names.{object_type, Text, is_wide, is_reference, is_class_type, string_type, class_type, throwable_type}
use Rattle.dalvik_defs.specs.Arith.{low_signed}
use Rattle.dalvik_defs.specs.Face.{face_of, bodies_of, Place, place_of}
use Rattle.dalvik_defs.specs.Fields.{key_at, static_value, instance_value, written_or, first_of, with_instance}
use Rattle.dalvik_defs.specs.Under.{class_named, defines}
use Rattle.dalvik_defs.specs.Flags.{is_static}
use Rattle.dalvik_defs.specs.Outer.{Outer}
use Rattle.dalvik_defs.specs.Items.{stored, item_of_type}
use Rattle.dalvik_defs.specs.State.{World, Classes, Thing, Instance, Items, is_null, word_of, kind_of, kind_of_thing, thing_at, put_thing, put_field, zero_of, Ended, opening_world, opening}
use Rattle.dalvik_defs.specs.Step.{step, after as after_steps, setting_of}
use Rattle.dalvik_defs.specs.Happens.{Setting}
use Rattle.dalvik_defs.specs.Shown.{Fit, fit_move}
use Rattle.dalvik_defs.specs.MayGo.{may_go}
use Rattle.dalvik_defs.specs.Gives.{gets, may_give, is_on, fits as given_fits}
use Rattle.dalvik_defs.specs.Legal.{on_fits}
use Rattle.dalvik_defs.specs.Moves.{got as given_option, field_value, with_field, with_item, key_of}
use Rattle.dalvik_defs.specs.Find.{defined_field, field_in}
use Rattle.dalvik_defs.specs.declared.names.FieldKey.{FieldKey}
use Rattle.dalvik_defs.specs.declared.program.NamedClass.{NamedClass}
use Rattle.dalvik_defs.specs.declared.state.Value.{Value}
use Rattle.dalvik_defs.specs.declared.state.Value.TheVariants.{Word, Object}
use Rattle.dalvik_defs.specs.declared.tables.Floats.{Floats}
use Rattle.dalvik_defs.specs.declared.tables.Framework.{Framework}
use Rattle.dalvik_defs.specs.declared.program.NamedProgram.{NamedProgram}
use Rattle.dalvik_defs.specs.declared.program.NamedField.{NamedField}
use Rattle.dalvik_defs.specs.declared.script.Move.{Move}
use Rattle.dalvik_defs.specs.declared.script.Given.{Given}
use Rattle.pass_defs.specs.Kinds.{Kind, is_plain, kind_eq, is_number, is_initialised, kind_of_reference, fits}
use Rattle.pass_defs.specs.Kinds as kind
use Rattle.pass_defs.specs.Demands.{item_eq}
use Rattle.run_laws.specs.Invariant.{Owing, Invariant, Grows}
use Rattle.run_laws.specs.Fine.{IsThere}
use Rattle.run_laws.specs.Holds.{Each, Holds as HoldsBy}
use Rattle.run_laws.proofs.Growing.{grows_same, grows_over}
use Rattle.run_laws.proofs.Plain.{grown, keeps_plainly, KeptPlainly, gets_grow, got_grows, ShownPlainly, WrittenPlainly}
use Rattle.run_laws.proofs.Fine.{each_set, each_get, each_to}
use Rattle.run_laws.proofs.Invariants.{Holds, holds_after, never_stuck, opens_with}
use Rattle.run_laws.proofs.FineFirsts.{firsts_there}
use Rattle.run_laws.specs.TypedStates.{IsObject, item_kind, KindHolds, ValueOf, ItemOf, MaybeOf, TypedThing, TypedWorld, typed_states}
use Rattle.run_laws.specs.Regular.{IsRegular}
use Rattle.run_laws.specs.NeverStuck.{IsNeverStuck}
use Rattle.run_laws.proofs.Settled.{IsSettled, FindsRegularly}
use Rattle.run_laws.proofs.Registers.{and_left, and_right, there_held}
use Rattle.run_laws.proofs.Sorts.{Sorted, OfWord, OfWide, OfReference, OfNone, sorted}
use Rattle.run_laws.proofs.Climbs.{defined_by, none_some, some_one}
use Rattle.run_laws.proofs.Arrays.{true_false}
use Rattle.run_laws.proofs.Worlds.{typed_put, at_typed, typed_show, typed_option, put_typed, zero_value, waiting_later, object_there, object_later, same_later, value_later, thing_later, typed_static}
use Rattle.run_laws.proofs.Here.{setting, states}
use Rattle.run_laws.proofs.Values.{instance_thing, ItemSort, AWide, AReference, ANumber, item_sort}
use Rattle.run_laws.proofs.Forms.{or_left, or_right}
use Rattle.run_laws.proofs.Steps.{steps_typed}
use Rattle.run_laws.proofs.Backs.{lands_typed, returns_typed, answers_typed, faults_typed, initialiser_typed}
use Rattle.run_laws.proofs.Given.{GivenTyped, gets_typed, gives_first, given_typed, throws_given, answers_given}
use Rattle.run_laws.proofs.Framework.{each_classes, object_under, enters_typed, makes_typed}
use Rattle.run_laws.proofs.Searches.{finds_regularly}

wrong : {A : Type 0} → true ≡ false → A
wrong e = absurd (true≢false e)

module _ (p : NamedProgram) (o : Outer) (f : Framework) (floats : Floats) (reg : IsSettled p) (finds : FindsRegularly p f) where
  -- ---- what is stored

  value_there : (w : World) (u : Text) (v : Value) → ValueOf p f w u v → IsThere w v
  value_there w u v h = there_held p f [] w (kind.kind_of p u) v (h [])

  small : (w : World) (u : Text) (m : ℕ) → is_wide u ≡ false → is_reference u ≡ false → (ValueOf p f w u (Word m)) × ItemOf p f w u (Word m)
  small w u m i j = (λ d. value d (sorted p u), λ d. items d (sorted p u))
    where
      value : (d : Text) → Sorted p u → KindHolds p f d w (kind.kind_of p u) (Word m)
      value d (OfWord q b c e l) = subst (λ k. KindHolds p f d w k (Word m)) (sym e) (m, refl)
      value d (OfWide q b c e l) = true_false b i
      value d (OfReference q b c e l) = true_false c j
      value d (OfNone q b c e l) = subst (λ k. KindHolds p f d w k (Word m)) (sym e) tt

      items : (d : Text) → Sorted p u → KindHolds p f d w (item_kind p u) (Word m)
      items d (OfWord q b c e l) = subst (λ k. KindHolds p f d w k (Word m)) (sym l) (m, refl)
      items d (OfWide q b c e l) = true_false b i
      items d (OfReference q b c e l) = true_false c j
      items d (OfNone q b c e l) = subst (λ k. KindHolds p f d w k (Word m)) (sym l) (m, refl)

  -- a value is stored as its type says
  stored_both : (w : World) (tw : TypedWorld p f w) (u : Text) (v : Value) → (ValueOf p f w u v) × ItemOf p f w u v → (ValueOf p f w u (stored (item_of_type u) v)) × ItemOf p f w u (stored (item_of_type u) v)
  stored_both w tw u v h = by (item_of_type u) (item_sort p f reg w tw u)
    where
      by : (i : Item) → ItemSort p f reg w tw u i → (ValueOf p f w u (stored i v)) × ItemOf p f w u (stored i v)
      by item.Plain s = h
      by item.Wide s = h
      by item.Object s = h
      by item.Boolean (ANumber a b i l) = small w u (word_of v % 2 ^ 8) a b
      by item.Byte (ANumber a b i l) = small w u (low_signed w8 8 (word_of v)) a b
      by item.Char (ANumber a b i l) = small w u (word_of v % 2 ^ 16) a b
      by item.Short (ANumber a b i l) = small w u (low_signed w16 16 (word_of v)) a b
      by item.Boolean (AWide a i) = wrong (ap (λ x. item_eq x item.Boolean) i)
      by item.Byte (AWide a i) = wrong (ap (λ x. item_eq x item.Byte) i)
      by item.Char (AWide a i) = wrong (ap (λ x. item_eq x item.Char) i)
      by item.Short (AWide a i) = wrong (ap (λ x. item_eq x item.Short) i)
      by item.Boolean (AReference a b i) = wrong (ap (λ x. item_eq x item.Boolean) i)
      by item.Byte (AReference a b i) = wrong (ap (λ x. item_eq x item.Byte) i)
      by item.Char (AReference a b i) = wrong (ap (λ x. item_eq x item.Char) i)
      by item.Short (AReference a b i) = wrong (ap (λ x. item_eq x item.Short) i)

  -- ---- fields

  pub own_defined : (k : FieldKey) (place : Place) → option_map (place_of k.class) (defined_field p k) ≡ Some place → defines p k.class ≡ true
  own_defined k place e = by (class_named p k.class) refl e
    where
      by : (y : Option NamedClass) → class_named p k.class ≡ y → option_map (place_of k.class) (elim y as (λ y. Option NamedField) [ Some c ↦ field_in c k.name k.kind | None ↦ None ]) ≡ Some place → defines p k.class ≡ true
      by (Some c) i j = defined_by p k.class (Some c) i
      by None i j = none_some place j

  abbrev Holder_at : World → Value → Type 0
  Holder_at w v = (c : Text) × ((fields : FieldKey → Option Value) × (thing_at w v ≡ Some (Instance c fields)))

  holder_of : (w : World) (k : FieldKey) (v : Value) → TypedWorld p f w → defines p k.class ≡ true → is_on (face_of p f) w v k.class ≡ true → Holder_at w v
  holder_of w k v tw d e = let u = and_right (not (is_null v)) ((face_of p f).under (kind_of w v) k.class) e in instance_thing p f reg w tw v k.class (object_under p o f floats reg finds w v k.class u) d u

  abbrev Shows : Classes → World → Text → Option Value → Type 0
  Shows = ShownPlainly (setting p o f floats reg) (bodies_of p) (states p o f floats reg)

  abbrev Writes_to : Classes → Option World → Type 0
  Writes_to = WrittenPlainly (setting p o f floats reg) (bodies_of p) (states p o f floats reg)

  reads_typed : (w : World) (cs : Classes) (k : FieldKey) (place : Place) (on : Option Given) → TypedWorld p f w → option_map (place_of k.class) (defined_field p k) ≡ Some place → on_fits (face_of p f) o w (given_option w on).0 k place on (given_option w on).1 ≡ true
      → Shows cs (given_option w on).0 k.kind (field_value (given_option w on).0 k place (given_option w on).1)
  reads_typed w cs k place None tw d e = typed_show p f w k.kind (static_value w k place) tw (by (w.statics (key_at k place)) (λ v i. value_there w k.kind v (tw.statics (key_at k place) v i)))
    where
      by : (y : Option Value) → ((v : Value) → y ≡ Some v → IsThere w v) → IsThere w (written_or y (first_of k place))
      by (Some v) h = h v refl
      by None h = firsts_there w k place
  reads_typed w cs k place (Some g) tw d e = value (holder_of w1 k v t1 (own_defined k place d) (and_right (not (is_static place.flags) && may_give (face_of p f) o w g) (is_on (face_of p f) w1 v k.class) e))
    where
      w1 : World
      w1 = (gets w g).0

      v : Value
      v = (gets w g).1

      t1 : TypedWorld p f w1
      t1 = gets_typed p o f floats reg w g (and_right (not (is_static place.flags)) (may_give (face_of p f) o w g) (and_left (not (is_static place.flags) && may_give (face_of p f) o w g) (is_on (face_of p f) w1 v k.class) e)) tw

      value : Holder_at w1 v → Shows cs w1 k.kind (instance_value k place (thing_at w1 v))
      value (c, (fields, i)) = subst (λ y. Shows cs w1 k.kind (instance_value k place y)) (sym i) (typed_show p f w1 k.kind (written_or (fields (key_at k place)) (zero_of k.kind)) t1 (value_there w1 k.kind (written_or (fields (key_at k place)) (zero_of k.kind))
          (by (fields (key_at k place)) (λ u j. (at_typed p f w1 v (Instance c fields) t1 i).1 (key_at k place) u j))))
        where
          by : (y : Option Value) → ((u : Value) → y ≡ Some u → ValueOf p f w1 k.kind u) → ValueOf p f w1 k.kind (written_or y (zero_of k.kind))
          by (Some u) h = h u refl
          by None h = zero_value p f w1 k.kind

  writes_typed : (w : World) (cs : Classes) (k : FieldKey) (place : Place) (on : Option Given) (g : Given) → TypedWorld p f w → option_map (place_of k.class) (defined_field p k) ≡ Some place
      → on_fits (face_of p f) o w (given_option w on).0 k place on (given_option w on).1 ≡ true → given_fits (face_of p f) o (given_option w on).0 (gets (given_option w on).0 g).0 g (gets (given_option w on).0 g).1 k.kind ≡ true
      → Writes_to cs (with_field (gets (given_option w on).0 g).0 k (given_option w on).1 (stored (item_of_type k.kind) (gets (given_option w on).0 g).1))
  writes_typed w cs k place None g tw d e i = let w1 = (gets w g).0 in let t1 = gets_typed p o f floats reg w g (gives_first p o f floats reg w w1 g (gets w g).1 k.kind i) tw in let x = given_typed p o f floats reg w w1 g k.kind tw (grows_same w1 w1 refl) i in
      typed_static p f w1 k (stored (item_of_type k.kind) (gets w g).1) t1 (stored_both w1 t1 k.kind (gets w g).1 (x.value, x.item)).0
  writes_typed w cs k place (Some h) g tw d e i = value (holder_of w2 k on t2 (own_defined k place d) later_on)
    where
      w1 : World
      w1 = (gets w h).0

      on : Value
      on = (gets w h).1

      w2 : World
      w2 = (gets w1 g).0

      v : Value
      v = (gets w1 g).1

      now : is_on (face_of p f) w1 on k.class ≡ true
      now = and_right (not (is_static place.flags) && may_give (face_of p f) o w h) (is_on (face_of p f) w1 on k.class) e

      t1 : TypedWorld p f w1
      t1 = gets_typed p o f floats reg w h (and_right (not (is_static place.flags)) (may_give (face_of p f) o w h) (and_left (not (is_static place.flags) && may_give (face_of p f) o w h) (is_on (face_of p f) w1 on k.class) e)) tw

      t2 : TypedWorld p f w2
      t2 = gets_typed p o f floats reg w1 g (gives_first p o f floats reg w1 w2 g v k.kind i) t1

      later_on : is_on (face_of p f) w2 on k.class ≡ true
      later_on = ap (λ u. not (is_null on) && (face_of p f).under u k.class) (same_later w1 w2 (gets_grow w1 g) on (object_under p o f floats reg finds w1 on k.class (and_right (not (is_null on)) ((face_of p f).under (kind_of w1 on) k.class) now))) ∙ now

      value : Holder_at w2 on → Writes_to cs (with_instance w2 k on (stored (item_of_type k.kind) v) (thing_at w2 on))
      value (c, (fields, j)) = subst (λ y. Writes_to cs (with_instance w2 k on (stored (item_of_type k.kind) v) y)) (sym j)
          (let x = given_typed p o f floats reg w1 w2 g k.kind t1 (grows_same w2 w2 refl) i in
          typed_put p f w2 on (Instance c fields) (Instance c (put_field k (stored (item_of_type k.kind) v) fields)) j refl t2 ((at_typed p f w2 on (Instance c fields) t2 j).0, put_typed p f w2 k (stored (item_of_type k.kind) v) fields (at_typed p f w2 on (Instance c fields) t2 j).1 (stored_both w2 t2 k.kind v (x.value, x.item)).0))

  -- ---- items

  typed_put_over : (w w1 : World) (v : Value) (old th : Thing) → Grows w w1 → thing_at w v ≡ Some old → kind_of_thing th ≡ kind_of_thing old → TypedWorld p f w1 → TypedThing p f w1 th → TypedWorld p f (put_thing w1 v th)
  typed_put_over w w1 (Object m) old th gr e i tw k = let w2 = put_thing w1 (Object m) th in let g2 = grows_over w w1 (Object m) old th gr e i in record {
    statics = λ j u l. value_later p f w1 w2 g2 j.kind u (tw.statics j u l);
    things = each_set (TypedThing p f w2) w1.heap m th (each_to (TypedThing p f w1) (TypedThing p f w2) (thing_later p f w1 w2 g2) w1.heap tw.things) (thing_later p f w1 w2 g2 th k);
    exposed = each_to (λ e. IsObject w1 (Object e.number)) (λ e. IsObject w2 (Object e.number)) (λ e. object_later w1 w2 g2 (Object e.number)) w1.exposed tw.exposed;
  }
  typed_put_over w w1 v old th gr e i tw k = tw

  items_typed : (w : World) (cs : Classes) (on : Value) (g : Given) (m : ℕ) (u : Text) (vs : List Value) → TypedWorld p f w → thing_at w on ≡ Some (Items u vs) → given_fits (face_of p f) o w (gets w g).0 g (gets w g).1 u ≡ true → nat_lt m (length vs) ≡ true
      → Writes_to cs (with_item (gets w g).0 on u vs m (gets w g).1)
  items_typed w cs on g m u vs tw e i l = subst (λ b. Writes_to cs (elim b as (λ b. Option World) [ true ↦ Some (put_thing w1 on (Items u (slice_set vs m (stored (item_of_type u) (gets w g).1)))) | false ↦ None ])) (sym l)
      (typed_put_over w w1 on (Items u vs) (Items u (slice_set vs m (stored (item_of_type u) (gets w g).1))) (gets_grow w g) e refl t1
      (each_set (ItemOf p f w1 u) vs m (stored (item_of_type u) (gets w g).1) (thing_later p f w w1 (gets_grow w g) (Items u vs) (at_typed p f w on (Items u vs) tw e)) (stored_both w1 t1 u (gets w g).1 (x.value, x.item)).1))
    where
      w1 : World
      w1 = (gets w g).0

      t1 : TypedWorld p f w1
      t1 = gets_typed p o f floats reg w g (gives_first p o f floats reg w w1 g (gets w g).1 u i) tw

      x : GivenTyped p o f floats reg w1 u (gets w g).1
      x = given_typed p o f floats reg w w1 g u tw (grows_same w1 w1 refl) i

  maybe_there : (w : World) (u : Text) (y : Option Value) → MaybeOf p f w u y → (v : Value) → y ≡ Some v → IsThere w v
  maybe_there w u None h v e = none_some v e
  maybe_there w u (Some x) h v e = subst (IsThere w) (some_one x v e) (value_there w u x h)

  item_there : (w : World) (u : Text) (v : Value) → ItemOf p f w u v → IsThere w v
  item_there w u v h = there_held p f [] w (item_kind p u) v (h [])

  -- ---- all that the law asks

  pub keeps_typed : KeptPlainly (setting p o f floats reg) (bodies_of p) (states p o f floats reg)
  keeps_typed = record {
    steps = λ w cs g tw t. steps_typed p o f floats reg finds w cs g tw t;
    later = λ w w1 above g gr t. waiting_later p f w w1 above g gr t;
    returns = λ w cs k g v tw t h. returns_typed p o f floats reg w cs g tw k t v h;
    retries = λ w cs u g tw t. t.frame;
    lands = λ w cs above g v tw t h. lands_typed p o f floats reg w cs g tw above t v h;
    faults = λ w cs u e tw. faults_typed p o f floats reg w u (fault_class u e) tw;
    statuses = λ w cs u s tw c. tw;
    firsts = λ u c. each_classes ((face_of p f).first u);
    initialisers = λ w cs u k tw c e. initialiser_typed p o f floats reg w cs u k e;
    shows_result = λ w cs k v tw h. typed_option p f w k.signature.result v tw (maybe_there w k.signature.result v h);
    shows_thrown = λ w cs v tw h. typed_show p f w throwable_type v tw (object_there w v h);
    enters = λ w cs u n q gs d tw m e l. let x = enters_typed p o f floats reg finds w cs u n q gs d tw e l in (x.0, λ s. tt, x.1);
    makes = λ w cs u tw m l. (tt, makes_typed p o f floats reg finds w u tw l);
    answers = λ w cs u y g tw m t l. let x = answers_given p o f floats reg w u y tw l in (x.0, answers_typed p o f floats reg (given_option w y).0 cs g x.0 u (waiting_later p f w (given_option w y).0 (Owing u) g (got_grows w y) t) (given_option w y).1 x.1);
    throws = λ w cs g tw m l. throws_given p o f floats reg w g tw l;
    reads = λ w cs u n k place on tw m e l. reads_typed w cs (key_of u n k) place on tw e (and_right (o.fields (key_of u n k)) (on_fits (face_of p f) o w (given_option w on).0 (key_of u n k) place on (given_option w on).1) l);
    writes = λ w cs u n k place on g tw m e l. let fit = given_fits (face_of p f) o (given_option w on).0 (gets (given_option w on).0 g).0 g (gets (given_option w on).0 g).1 k in let held = on_fits (face_of p f) o w (given_option w on).0 (key_of u n k) place on (given_option w on).1 in
        writes_typed w cs (key_of u n k) place on g tw e (and_right (o.fields (key_of u n k)) held (and_left (o.fields (key_of u n k) && held) fit l)) (and_right (o.fields (key_of u n k) && held) fit l);
    reads_items = λ w cs g n u vs v tw m b e i. typed_show p f w u v tw (item_there w u v (each_get (ItemOf p f w u) vs n v (at_typed p f w (gets w g).1 (Items u vs) tw e) i));
    writes_items = λ w cs on g n u vs tw m b e i l. items_typed w cs (gets w on).1 g n u vs tw e i l;
  }
    where
      fault_class : (u : Text) → (u ≡ no_class) ⊎ (u ≡ initialiser_error) → is_class_type u ≡ true
      fault_class u (inl e) = ap is_class_type e
      fault_class u (inr e) = ap is_class_type e

  pub typed_opening : TypedWorld p f opening_world
  typed_opening = record { statics = λ k v e. none_some v e; things = tt; exposed = tt }

  -- a typed program is never stuck: a run goes on from each state that it reaches, unless the next move isn't legal
  abbrev s : Setting
  s = setting p o f floats reg

  abbrev i : Invariant
  i = states p o f floats reg

  pub each_move : (xs : List Move) → list_all (fit_move p o) xs ≡ true → Each (λ x. fit_move p o x ≡ true) xs
  each_move [] e = tt
  each_move (x ∷ xs) e = (and_left (fit_move p o x) (list_all (fit_move p o) xs) e, each_move xs (and_right (fit_move p o x) (list_all (fit_move p o) xs) e))

  -- every state that a run reaches is typed
  pub typed_always : (script : List Move) → Fit p o f script → (n : ℕ) → (after_steps s (bodies_of p) (opening script) n ≡ Ended) ⊎ Holds s (bodies_of p) (grown s (bodies_of p) i) (after_steps s (bodies_of p) (opening script) n)
  typed_always script fit n = holds_after s (bodies_of p) (grown s (bodies_of p) i) (keeps_plainly s (bodies_of p) i keeps_typed) n (opening script)
      (opens_with s (bodies_of p) (grown s (bodies_of p) i) (keeps_plainly s (bodies_of p) i keeps_typed) script typed_opening (each_move script fit.values))

  pub never_stuck_typed : (script : List Move) → Fit p o f script → IsNeverStuck s (bodies_of p) (opening script)
  never_stuck_typed script fit n = by (typed_always script fit n)
    where
      by : (after_steps s (bodies_of p) (opening script) n ≡ Ended) ⊎ Holds s (bodies_of p) (grown s (bodies_of p) i) (after_steps s (bodies_of p) (opening script) n)
          → (after_steps s (bodies_of p) (opening script) n ≡ Ended) ⊎ ((step s (bodies_of p) (after_steps s (bodies_of p) (opening script) n)).0 ≡ Ended → may_go s (after_steps s (bodies_of p) (opening script) n) ≡ false)
      by (inl e) = inl e
      by (inr h) = inr (λ e. never_stuck s (bodies_of p) (grown s (bodies_of p) i) (keeps_plainly s (bodies_of p) i keeps_typed) (λ x. x) (after_steps s (bodies_of p) (opening script) n) h e)

-- A framework that fits a program leaves it none of the types of which the machine makes objects itself.
pub settled : (p : NamedProgram) (o : Outer) (f : Framework) (script : List Move) → IsRegular p → Fit p o f script → IsSettled p
settled p o f script regular fit = record {
  regular = regular;
  objects = or_left (defines p object_type) (list_any (defines p) (string_type ∷ class_type ∷ others)) fit.classes;
  texts = or_left (defines p string_type) (list_any (defines p) (class_type ∷ others)) behind_object;
  classes = or_left (defines p class_type) (list_any (defines p) others) (or_right (defines p string_type) (list_any (defines p) (class_type ∷ others)) behind_object);
}
  where
    others : List Text
    others = map (λ r. r.name) known_rows

    behind_object : list_any (defines p) (string_type ∷ class_type ∷ others) ≡ false
    behind_object = or_right (defines p object_type) (list_any (defines p) (string_type ∷ class_type ∷ others)) fit.classes

-- A run of a regular program goes on from each state that it reaches, unless the framework's next move isn't legal.
pub never_stuck_regular : (p : NamedProgram) (o : Outer) (f : Framework) (floats : Floats) (script : List Move) → IsRegular p → Fit p o f script → IsNeverStuck (setting_of p o f floats) (bodies_of p) (opening script)
never_stuck_regular p o f floats script regular fit = let reg = settled p o f script regular fit in never_stuck_typed p o f floats reg (finds_regularly p f reg) script fit

-- And in each of these states the kinds of a typing hold.
pub typed_regular : (p : NamedProgram) (o : Outer) (f : Framework) (floats : Floats) (script : List Move) (n : ℕ) → IsRegular p → Fit p o f script
    → (after_steps (setting_of p o f floats) (bodies_of p) (opening script) n ≡ Ended) ⊎ HoldsBy (typed_states p f o) (after_steps (setting_of p o f floats) (bodies_of p) (opening script) n)
typed_regular p o f floats script n regular fit = let reg = settled p o f script regular fit in typed_always p o f floats reg (finds_regularly p f reg) script fit n
