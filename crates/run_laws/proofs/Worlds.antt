-- Kinds hold in later worlds, and what new objects, writes and showing leave is typed.
use Rattle.std.proofs.Common.{◌≡◌, ℕ, Bool, true, false, List, [], ◌∷◌, ◌++◌, Option, Some, None, inl, inr, refl, sym, ap, ◌∙◌, subst}
use Rattle.std.specs.Prelude.{◌&&◌, nat_eq, drop}
use Rattle.dalvik_defs.proofs.Calm.{text_sound}
use Rattle.dalvik_defs.specs.Fields.{with_static}
use Rattle.dalvik_defs.specs.Names.{Text, text_eq, is_wide, is_class_type, field_eq}
use Rattle.dalvik_defs.specs.Face.{face_of}
use Rattle.dalvik_defs.specs.State.{World, Exposed, Thing, Instance, Items, zero_of, kind_of_thing, kind_of, thing_at, put_thing, with_thing, next_object, fresh, put_field}
use Rattle.dalvik_defs.specs.ActArray.{zeros}
use Rattle.dalvik_defs.specs.Show.{place_in, mark_printed, is_printed, show_at, show, show_all, show_option, skip}
use Rattle.dalvik_defs.specs.declared.state.Value.{Value}
use Rattle.dalvik_defs.specs.declared.state.Value.TheVariants.{Word, Low, High, Object, Literal, Class}
use Rattle.dalvik_defs.specs.declared.state.Frame.{Frame}
use Rattle.dalvik_defs.specs.declared.names.FieldKey.{FieldKey}
use Rattle.dalvik_defs.specs.declared.events.Shown.{Shown}
use Rattle.dalvik_defs.specs.declared.events.Shown.TheVariants as shown
use Rattle.dalvik_defs.specs.declared.program.NamedProgram.{NamedProgram}
use Rattle.dalvik_defs.specs.declared.tables.Framework.{Framework}
use Rattle.pass_defs.specs.Kinds.{Kind}
use Rattle.pass_defs.specs.Kinds as kind
use Rattle.pass_defs.specs.Registers.{Kinds}
use Rattle.run_laws.specs.Invariant.{Above, Grows}
use Rattle.run_laws.specs.Fine.{IsThere}
use Rattle.run_laws.specs.Holds.{Each}
use Rattle.run_laws.proofs.Growing.{grows_same, grows_with, grows_put, show_heap, there_later, kind_later}
use Rattle.run_laws.proofs.Fine.{each_append, each_set, each_get, each_drop, each_same, each_to, new_there, same_there}
use Rattle.run_laws.specs.TypedStates.{IsObject, IsUnder, IsArrayOf, ArrayFits, KindHolds, ValueOf, ItemOf, item_kind, StateHolds, TypedFrame, TypedWaiting, TypedThing, TypedWorld}
use Rattle.run_laws.proofs.Registers.{all_later, and_right}
use Rattle.run_laws.proofs.Sorts.{RefSort, AnArray, APlain, AnAny, ref_sort, Sorted, OfWord, OfWide, OfReference, OfNone, sorted}
use Rattle.run_laws.proofs.Climbs.{none_some, some_one}

pub object_there : (w : World) (v : Value) → IsObject w v → IsThere w v
object_there w (Object n) h = h
object_there w v h = tt

pub object_later : (w w1 : World) → Grows w w1 → (v : Value) → IsObject w v → IsObject w1 v
object_later w w1 g (Object n) h = there_later w w1 g (Object n) h
object_later w w1 g (Literal t) h = tt
object_later w w1 g (Class t) h = tt
object_later w w1 g (Word n) h = absurd h
object_later w w1 g (Low n) h = absurd h
object_later w w1 g (High n) h = absurd h

pub same_later : (w w1 : World) → Grows w w1 → (v : Value) → IsObject w v → kind_of w1 v ≡ kind_of w v
same_later w w1 g v h = kind_later w w1 g v (object_there w v h)

pub new_object : (w : World) (t : Thing) → IsObject (with_thing w t) (next_object w)
new_object w t = new_there w t

module _ (p : NamedProgram) (f : Framework) where
  abbrev under : Text → Text → Bool
  under = (face_of p f).under

  under_later : (w w1 : World) → Grows w w1 → (v : Value) (t : Text) → IsUnder p f w v t → IsUnder p f w1 v t
  under_later w w1 g v t (inl e) = inl e
  under_later w w1 g v t (inr h) = inr (object_later w w1 g v h.0, ap (λ k. under k t) (same_later w w1 g v h.0) ∙ h.1)

  array_later : (w w1 : World) → Grows w w1 → (v : Value) (t : Text) → IsArrayOf p f w v t → IsArrayOf p f w1 v t
  array_later w w1 g v t (inl e) = inl e
  array_later w w1 g v t (inr h) = inr (object_later w w1 g v h.0, subst (λ k. ArrayFits p f k t) (sym (same_later w w1 g v h.0)) h.1)

  pub holds_later : (c : Text) (w w1 : World) → Grows w w1 → (k : Kind) (v : Value) → KindHolds p f c w k v → KindHolds p f c w1 k v
  holds_later c w w1 g kind.Undefined v h = there_later w w1 g v h
  holds_later c w w1 g kind.Zero v h = h
  holds_later c w w1 g kind.Word v h = h
  holds_later c w w1 g kind.Low v h = h
  holds_later c w w1 g kind.High v h = h
  holds_later c w w1 g kind.Null v h = h
  holds_later c w w1 g (kind.Class t) v h = under_later w w1 g v t h
  holds_later c w w1 g (kind.Array t) v h = array_later w w1 g v t h
  holds_later c w w1 g kind.Reference v (inl e) = inl e
  holds_later c w w1 g kind.Reference v (inr h) = inr (object_later w w1 g v h)
  holds_later c w w1 g (kind.Fresh t n) v h = (object_later w w1 g v h.0, (same_later w w1 g v h.0 ∙ h.1.0, h.1.1))
  holds_later c w w1 g kind.FreshThis v h = (object_later w w1 g v h.0, ap (λ k. under k c) (same_later w w1 g v h.0) ∙ h.1)

  pub value_later : (w w1 : World) → Grows w w1 → (t : Text) (v : Value) → ValueOf p f w t v → ValueOf p f w1 t v
  value_later w w1 g t v h c = holds_later c w w1 g (kind.kind_of p t) v (h c)

  pub item_later : (w w1 : World) → Grows w w1 → (t : Text) (v : Value) → ItemOf p f w t v → ItemOf p f w1 t v
  item_later w w1 g t v h c = holds_later c w w1 g (item_kind p t) v (h c)

  pub state_later : (c : Text) (w w1 : World) → Grows w w1 → (a : Kinds) (x : Frame) → StateHolds p f c w a x → StateHolds p f c w1 a x
  state_later c w w1 g a x h = record {
    registers = all_later p f c w w1 (λ k v. holds_later c w w1 g k v) a.registers x.registers h.registers;
    result = holds_later c w w1 g a.result x.result h.result;
    caught = record { there = there_later w w1 g x.caught h.caught.there; object = λ i. object_later w w1 g x.caught (h.caught.object i); held = λ i. holds_later c w w1 g a.caught x.caught (h.caught.held i) };
  }

  pub frame_later : (w w1 : World) (x : Frame) → Grows w w1 → TypedFrame p f w x → TypedFrame p f w1 x
  frame_later w w1 x g h = record { key = h.key; of = h.of; in_method = h.in_method; kinds = h.kinds; state = h.state; holds = state_later h.in_method.class.name w w1 g h.kinds x h.holds }

  pub waiting_later : (w w1 : World) (a : Above) (x : Frame) → Grows w w1 → TypedWaiting p f w a x → TypedWaiting p f w1 a x
  unfolding frame_later
  waiting_later w w1 a x g h = record { frame = frame_later w w1 x g h.frame; form = h.form; has_form = h.has_form; asks = h.asks; throws = h.throws }

  pub thing_later : (w w1 : World) → Grows w w1 → (t : Thing) → TypedThing p f w t → TypedThing p f w1 t
  thing_later w w1 g (Instance c fields) h = (h.0, λ k v e. value_later w w1 g k.kind v (h.1 k v e))
  thing_later w w1 g (Items k vs) h = each_to (ItemOf p f w k) (ItemOf p f w1 k) (item_later w w1 g k) vs h

  -- a world with the same things but for what its heap has more
  typed_over : (w w1 : World) → Grows w w1 → TypedWorld p f w → w1.statics ≡ w.statics → w1.exposed ≡ w.exposed → Each (TypedThing p f w1) w1.heap → TypedWorld p f w1
  typed_over w w1 g h s x t = record {
    statics = λ k v e. value_later w w1 g k.kind v (h.statics k v (ap (λ y. y k) (sym s) ∙ e));
    things = t;
    exposed = subst (λ es. Each (λ e. IsObject w1 (Object e.number)) es) (sym x) (each_to (λ e. IsObject w (Object e.number)) (λ e. IsObject w1 (Object e.number)) (λ e. object_later w w1 g (Object e.number)) w.exposed h.exposed);
  }

  pub typed_with : (w : World) (t : Thing) → TypedWorld p f w → TypedThing p f w t → TypedWorld p f (with_thing w t)
  typed_with w t h k = let w1 = with_thing w t in let g = grows_with w t in
      typed_over w w1 g h refl refl (each_append (TypedThing p f w1) w.heap t (each_to (TypedThing p f w) (TypedThing p f w1) (thing_later w w1 g) w.heap h.things) (thing_later w w1 g t k))

  pub typed_put : (w : World) (v : Value) (old t : Thing) → thing_at w v ≡ Some old → kind_of_thing t ≡ kind_of_thing old → TypedWorld p f w → TypedThing p f w t → TypedWorld p f (put_thing w v t)
  typed_put w (Object n) old t e i h k = let w1 = put_thing w (Object n) t in let g = grows_put w (Object n) old t e i in
      typed_over w w1 g h refl refl (each_set (TypedThing p f w1) w.heap n t (each_to (TypedThing p f w) (TypedThing p f w1) (thing_later w w1 g) w.heap h.things) (thing_later w w1 g t k))
  typed_put w v old t e i h k = h

  pub at_typed : (w : World) (v : Value) (t : Thing) → TypedWorld p f w → thing_at w v ≡ Some t → TypedThing p f w t
  at_typed w (Object n) t h e = each_get (TypedThing p f w) w.heap n t h.things e
  at_typed w v t h e = none_some t e

  -- ---- first values

  pub zero_value : (w : World) (t : Text) → ValueOf p f w t (zero_of t)
  zero_value w t c = by (sorted p t)
    where
      ref : RefSort p t → KindHolds p f c w (kind.kind_of_reference p t) (Word 0)
      ref (AnArray a e) = subst (λ k. KindHolds p f c w k (Word 0)) (sym e) (inl refl)
      ref (APlain a b e) = subst (λ k. KindHolds p f c w k (Word 0)) (sym e) (inl refl)
      ref (AnAny a b e) = subst (λ k. KindHolds p f c w k (Word 0)) (sym e) (inl refl)

      at_zero : is_wide t ≡ false → KindHolds p f c w (kind.kind_of p t) (Word 0) → KindHolds p f c w (kind.kind_of p t) (zero_of t)
      at_zero e h = subst (KindHolds p f c w (kind.kind_of p t)) (sym (ap (λ b. elim b as (λ b. Value) [ true ↦ Low 0 | false ↦ Word 0 ]) e)) h

      by : Sorted p t → KindHolds p f c w (kind.kind_of p t) (zero_of t)
      by (OfWord i a b j l) = at_zero a (subst (λ k. KindHolds p f c w k (Word 0)) (sym j) (0, refl))
      by (OfWide i a b j l) = subst (KindHolds p f c w (kind.kind_of p t)) (sym (ap (λ b. elim b as (λ b. Value) [ true ↦ Low 0 | false ↦ Word 0 ]) a)) (subst (λ k. KindHolds p f c w k (Low 0)) (sym j) (0, refl))
      by (OfReference i a b j l) = at_zero a (subst (λ k. KindHolds p f c w k (Word 0)) (sym j) (ref (ref_sort p t)))
      by (OfNone i a b j l) = at_zero a (subst (λ k. KindHolds p f c w k (Word 0)) (sym j) tt)

  pub zero_item : (w : World) (t : Text) → ItemOf p f w t (zero_of t)
  zero_item w t c = by (sorted p t) (zero_value w t c)
    where
      by : Sorted p t → KindHolds p f c w (kind.kind_of p t) (zero_of t) → KindHolds p f c w (item_kind p t) (zero_of t)
      by (OfWord i a b j l) h = subst (λ k. KindHolds p f c w k (zero_of t)) (j ∙ sym l) h
      by (OfWide i a b j l) h = subst (λ k. KindHolds p f c w k (zero_of t)) (j ∙ sym l) h
      by (OfReference i a b j l) h = subst (λ k. KindHolds p f c w k (zero_of t)) (j ∙ sym l) h
      by (OfNone i a b j l) h = subst (λ k. KindHolds p f c w k (zero_of t)) (sym l) (0, ap (λ b. elim b as (λ b. Value) [ true ↦ Low 0 | false ↦ Word 0 ]) a)

  pub fresh_typed : (w : World) (t : Text) → is_class_type t ≡ true → TypedThing p f w (fresh t)
  fresh_typed w t e = (e, λ k v i. none_some v i)

  pub zeros_typed : (w : World) (t : Text) (n : ℕ) → TypedThing p f w (zeros t n)
  zeros_typed w t n = each_same (ItemOf p f w t) n (zero_of t) (zero_item w t)

  pub put_typed : (w : World) (k : FieldKey) (v : Value) (fields : FieldKey → Option Value) → ((j : FieldKey) (u : Value) → fields j ≡ Some u → ValueOf p f w j.kind u) → ValueOf p f w k.kind v → (j : FieldKey) (u : Value) → put_field k v fields j ≡ Some u → ValueOf p f w j.kind u
  put_typed w k v fields h i j u e = by (field_eq j k) refl e
    where
      by : (b : Bool) → field_eq j k ≡ b → (elim b as (λ b. Option Value) [ true ↦ Some v | false ↦ fields j ]) ≡ Some u → ValueOf p f w j.kind u
      by true l e = subst (λ t. ValueOf p f w t u) (sym (text_sound j.kind k.kind (and_right (text_eq j.class k.class && text_eq j.name k.name) (text_eq j.kind k.kind) l))) (subst (ValueOf p f w k.kind) (some_one v u e) i)
      by false l e = h j u e

  -- ---- showing

  marked : (w : World) (m : ℕ) (es : List Exposed) → Each (λ e. IsObject w (Object e.number)) es → Each (λ e. IsObject w (Object e.number)) (mark_printed m es)
  marked w m [] h = tt
  marked w m (x ∷ es) h = by (nat_eq x.number m) (marked w m es h.1)
    where
      by : (b : Bool) → Each (λ e. IsObject w (Object e.number)) (mark_printed m es) → Each (λ e. IsObject w (Object e.number)) (elim b as (λ b. List Exposed) [ true ↦ record x { printed = true } ∷ es | false ↦ x ∷ mark_printed m es ])
      by true k = h
      by false k = (h.0, k)

  pub typed_exposed : (w : World) (es : List Exposed) → TypedWorld p f w → Each (λ e. IsObject w (Object e.number)) es → TypedWorld p f (record w { exposed = es })
  typed_exposed w es h k = let w1 = record w { exposed = es } in let g = grows_same w w1 refl in record {
    statics = λ j v e. value_later w w1 g j.kind v (h.statics j v e);
    things = each_to (TypedThing p f w) (TypedThing p f w1) (thing_later w w1 g) w.heap h.things;
    exposed = each_to (λ e. IsObject w (Object e.number)) (λ e. IsObject w1 (Object e.number)) (λ e. object_later w w1 g (Object e.number)) es k;
  }

  printed : (w : World) (m i : ℕ) (b : Bool) (k : Text) → TypedWorld p f w → TypedWorld p f (elim b as (λ b. World × Shown) [ true ↦ (w, shown.Again i) | false ↦ (record w { exposed = mark_printed m w.exposed }, shown.First i k) ]).0
  printed w m i true k h = h
  printed w m i false k h = typed_exposed w (mark_printed m w.exposed) h (marked w m w.exposed h.exposed)

  shows_at : (w : World) (m : ℕ) (o : Option ℕ) → TypedWorld p f w → IsObject w (Object m) → TypedWorld p f (show_at w m o).0
  shows_at w m (Some i) h j = printed w m i (is_printed w.exposed i) (kind_of w (Object m)) h
  shows_at w m None h j = typed_exposed w (w.exposed ++ record { number = m; printed = true } ∷ []) h (each_append (λ e. IsObject w (Object e.number)) w.exposed (record { number = m; printed = true }) h.exposed j)

  pub typed_show : (w : World) (t : Text) (v : Value) → TypedWorld p f w → IsThere w v → TypedWorld p f (show w t v).0
  typed_show w t (Object n) h i = shows_at w n (place_in w.exposed n) h i
  typed_show w t v h i = h

  pub typed_option : (w : World) (t : Text) (o : Option Value) → TypedWorld p f w → ((v : Value) → o ≡ Some v → IsThere w v) → TypedWorld p f (show_option w t o).0
  typed_option w t None h i = h
  typed_option w t (Some v) h i = typed_show w t v h (i v refl)

  skip_there : (w : World) (k : Text) (vs : List Value) → Each (IsThere w) vs → Each (IsThere w) (skip k vs)
  skip_there w k vs h = by (is_wide k)
    where
      by : (b : Bool) → Each (IsThere w) (elim b as (λ b. List Value) [ true ↦ drop 1 vs | false ↦ vs ])
      by true = each_drop (IsThere w) 1 vs h
      by false = h

  pub typed_all : (ks : List Text) (w : World) (vs : List Value) → TypedWorld p f w → Each (IsThere w) vs → TypedWorld p f (show_all w ks vs).0
  typed_all [] w vs h i = h
  typed_all (k ∷ ks) w [] h i = h
  typed_all (k ∷ ks) w (v ∷ vs) h i = typed_all ks (show w k v).0 (skip k vs) (typed_show w k v h i.0) (skip_there (show w k v).0 k vs (same_there w (show w k v).0 (show_heap w k v) vs i.1))

  pub typed_static : (w : World) (k : FieldKey) (v : Value) → TypedWorld p f w → ValueOf p f w k.kind v → TypedWorld p f (with_static w k v)
  typed_static w k v h i = let w1 = with_static w k v in let g = grows_same w w1 refl in record {
    statics = λ j u e. value_later w w1 g j.kind u (put_typed w k v w.statics (λ j z q. h.statics j z q) i j u e);
    things = each_to (TypedThing p f w) (TypedThing p f w1) (thing_later w w1 g) w.heap h.things;
    exposed = each_to (λ e. IsObject w (Object e.number)) (λ e. IsObject w1 (Object e.number)) (λ e. object_later w w1 g (Object e.number)) w.exposed h.exposed;
  }

  pub typed_lock : (w : World) (locks : Value → ℕ) → TypedWorld p f w → TypedWorld p f (record w { locks = locks })
  typed_lock w locks h = let w1 = record w { locks = locks } in let g = grows_same w w1 refl in record {
    statics = λ j u e. value_later w w1 g j.kind u (h.statics j u e);
    things = each_to (TypedThing p f w) (TypedThing p f w1) (thing_later w w1 g) w.heap h.things;
    exposed = each_to (λ e. IsObject w (Object e.number)) (λ e. IsObject w1 (Object e.number)) (λ e. object_later w w1 g (Object e.number)) w.exposed h.exposed;
  }
