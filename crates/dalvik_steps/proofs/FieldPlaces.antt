-- What fields hold, by numbers and by names.
use Rattle.std.proofs.Common.{◌≡◌, ℕ, zero, suc, ◌+◌, ◌<◌, ◌≤◌, ◌⊎◌, inl, inr, Bool, true, false, true≢false, List, [], ◌∷◌, length, map, nat_eq, arith, ap, refl, sym, subst, ◌∙◌, eqb-true, eq-eqb}
use Rattle.std.specs.Prelude.{◌&&◌, Option, Some, None, cond, position, slice_get, slice_set, option_and_then}
use Rattle.std.specs.Map.{lookup}
use Rattle.std.specs.Option.{option_map}
use Rattle.class_defs.proofs.Positions.{PlaceFits, both, place_entry, position_step, same_test}
use Rattle.class_defs.proofs.WellFormed.{and_left, and_right, class_parts, sound, FieldFits, Sound}
use Rattle.program_model.specs.declared.program.Class.{Class}
use Rattle.program_model.specs.declared.program.Field.{Field}
use Rattle.program_model.specs.declared.program.Program.{Program}
use Rattle.program_model.specs.ProgramRules.{is_well_formed}
use Rattle.name_bridge.specs.Named.{field_at_place, field_of, field_there}
use Rattle.name_bridge.proofs.Tables.{field_is}
use Rattle.dalvik_defs.specs.Face.{Place, place_of}
use Rattle.dalvik_defs.specs.Fields.{key_at, with_instance, with_static, written_or}
use Rattle.dalvik_defs.specs.Names.{Text, field_eq, text_eq}
use Rattle.dalvik_defs.specs.Naming.{field_at, named_field, type_at}
use Rattle.dalvik_defs.specs.State.{Instance, Items, Thing, World as NamedWorld, put_field, put_thing, thing_at}
use Rattle.dalvik_defs.specs.declared.names.FieldKey.{FieldKey}
use Rattle.dalvik_defs.specs.declared.program.NamedField.{NamedField}
use Rattle.dalvik_defs.specs.declared.state.Value.{Value}
use Rattle.dalvik_defs.specs.declared.state.Value.TheVariants.{Object}
use Rattle.dalvik_lookups.specs.Declaring.{declared_field, field_place, fields_in, is_typed}
use Rattle.dalvik_lookups.specs.Facing.{place_at}
use Rattle.dalvik_lookups.specs.Slots.{slot_of, slots_after}
use Rattle.dalvik_lookups.specs.Tables.{place_named, IsRight}
use Rattle.dalvik_lookups.specs.declared.lookups.Lookups.{Lookups}
use Rattle.dalvik_lookups.specs.declared.types.Kind.{Kind}
use Rattle.dalvik_lookups.proofs.Calls.{class_there}
use Rattle.dalvik_lookups.proofs.Interned.{text_same, text_sound}
use Rattle.dalvik_state.specs.declared.datum.Datum.{Datum}
use Rattle.dalvik_state.specs.declared.datum.Datum.TheVariants as datum
use Rattle.dalvik_state.specs.declared.world.World.{World}
use Rattle.dalvik_state.specs.States.{IsSound}
use Rattle.dalvik_state.specs.Views.{Names, exposed_of, field_in, is_at, lock_in, names_in, place_of_field, static_in, thing_of, things_from, value_of, world_of}
use Rattle.dalvik_state.specs.Worlds.{Plain, Array, Shape, Spot, spots_of}
use Rattle.dalvik_state.proofs.Places.{unlike}
use Rattle.dalvik_steps.specs.Reaching.{IsFieldOf}
use Rattle.dalvik_steps.proofs.Slots.{key_itself, key_sound, one_place, slot_inside, slot_named}

-- ---- the field that was found

-- tests that agree on the entries of a list have the same first place
pub position_same : {X : Type 0} (f g : X → Bool) (xs : List X) → ((i : ℕ) (x : X) → slice_get xs i ≡ Some x → f x ≡ g x) → position f xs ≡ position g xs
position_same f g [] h = refl
position_same f g (x ∷ xs) h =
    position_step f x xs
    ∙ ap (λ (b : Bool). cond b (Some 0) (option_map suc (position f xs))) (h 0 x refl)
    ∙ ap (λ (o : Option ℕ). cond (g x) (Some 0) (option_map suc o)) (position_same f g xs (λ i y e. h (suc i) y e))
    ∙ sym (position_step g x xs)

-- the class and the field at the places
pub record FieldStands (p : Program) (at : Place) (class index : ℕ) : Type 0 where
  pub class_is : Class
  pub field : Field
  pub within : slice_get p.classes class ≡ Some class_is
  pub is : slice_get class_is.fields index ≡ Some field
  pub named : at ≡ place_of (type_at p class_is.name) (named_field p field)

field_stands : (p : Program) (at : Place) (class index : ℕ) → place_at p (class, index) ≡ Some at → FieldStands p at class index
field_stands p at class index e = by_class (slice_get p.classes class) refl e
  where
    by_field : (c : Class) → slice_get p.classes class ≡ Some c → (o : Option Field) → slice_get c.fields index ≡ o → option_map (λ (z : Text × NamedField). place_of z.0 z.1) (field_there p c o) ≡ Some at → FieldStands p at class index
    by_field c g None h f = absurd (cc)
    by_field c g (Some d) h f = record { class_is = c; field = d; within = g; is = h; named = (let same : place_of (type_at p c.name) (named_field p d) ≡ at = cc in sym same) }

    by_class : (o : Option Class) → slice_get p.classes class ≡ o → option_map (λ (z : Text × NamedField). place_of z.0 z.1) (field_of p index o) ≡ Some at → FieldStands p at class index
    by_class None g f = absurd (cc)
    by_class (Some c) g f = by_field c g (slice_get c.fields index) refl f

-- what a class declares under a name and a type, by the class's place and the field's
pub record IsDeclaredAt (p : Program) (t n q : Text) (class index : ℕ) : Type 0 where
  pub class_is : Class
  pub placed : place_named p t ≡ Some class
  pub within : slice_get p.classes class ≡ Some class_is
  pub named : type_at p class_is.name ≡ t
  pub first : position (is_typed p n q) class_is.fields ≡ Some index

declared_at : (p : Program) (t n q : Text) (class index : ℕ) → declared_field p t n q ≡ Some (class, index) → IsDeclaredAt p t n q class index
declared_at p t n q class index e = by_class (place_named p t) refl e
  where
    by_index : (c : ℕ) → place_named p t ≡ Some c → (o : Option ℕ) → field_place p c n q ≡ o → ◌≡◌ {A = Option (ℕ × ℕ)} (option_map (λ (place : ℕ). (c, place)) o) (Some (class, index)) → IsDeclaredAt p t n q class index
    by_index c g None h f = absurd (cc)
    by_index c g (Some i) h f =
        let pair : ◌≡◌ {A = ℕ × ℕ} (c, i) (class, index) = cc in
        let class_same : c ≡ class = ap (λ (z : ℕ × ℕ). z.0) pair in
        let index_same : i ≡ index = ap (λ (z : ℕ × ℕ). z.1) pair in
        let k = class_there p t c g in
        record {
          class_is = k.entry;
          placed = g ∙ ap (λ (m : ℕ). Some m) class_same;
          within = ap (slice_get p.classes) (sym class_same) ∙ k.is;
          named = text_sound (type_at p k.entry.name) t k.passes;
          first = ap (λ o. position (is_typed p n q) (fields_in o)) (sym k.is) ∙ h ∙ ap (λ (m : ℕ). Some m) index_same;
        }

    by_class : (o : Option ℕ) → place_named p t ≡ o → ◌≡◌ {A = Option (ℕ × ℕ)} (option_and_then (λ (c : ℕ). option_map (λ (place : ℕ). (c, place)) (field_place p c n q)) o) (Some (class, index)) → IsDeclaredAt p t n q class index
    by_class None g f = absurd (cc)
    by_class (Some c) g f = by_index c g (field_place p c n q) refl f

-- a field of a class has the class's name
key_in_class : (p : Program) (s : Sound p) (class : ℕ) (c : Class) (k : FieldKey) → slice_get p.classes class ≡ Some c → type_at p c.name ≡ k.class → (i : ℕ) (f : Field) → slice_get c.fields i ≡ Some f → field_eq (field_at p f.name) k ≡ is_typed p k.name k.kind f
key_in_class p s class c k e t i f g =
    let fits = (class_parts p s class c e).fields i f g in
    let own : (field_at p f.name).class ≡ k.class = ap (λ (x : FieldKey). x.class) (field_is p s f.name fits.entry fits.is) ∙ ap (type_at p) fits.owner ∙ t in
    ap (λ (b : Bool). b && text_eq (field_at p f.name).name k.name && text_eq (field_at p f.name).kind k.kind) (ap (λ (x : Text). text_eq x k.class) own ∙ text_same k.class)

-- the place of the field that was found, by names
pub field_placed : (l : Lookups) → IsRight l → (k : FieldKey) (at : Place) (class index : ℕ) → IsFieldOf l k at class index → place_of_field l.program.now (key_at k at) ≡ Some (slot_of l.program.now class index)
field_placed l r k at class index h =
    let p = l.program.now in
    let d = declared_at p at.class k.name k.kind class index h.declared in
    slot_named p r.well (key_at k at) class index d.class_is d.placed d.within
    (position_same (λ (f : Field). field_eq (field_at p f.name) (key_at k at)) (is_typed p k.name k.kind) d.class_is.fields (key_in_class p (sound p r.well) class d.class_is (key_at k at) d.within d.named) ∙ d.first)

pub field_stands_at : (l : Lookups) (k : FieldKey) (at : Place) (class index : ℕ) → IsFieldOf l k at class index → FieldStands l.program.now at class index
field_stands_at l k at class index h = field_stands l.program.now at class index h.place

-- ---- static fields

module _ (n : Names) where
  abbrev static_at : List (Option Datum) → Option ℕ → Option Value
  static_at statics o = option_and_then (λ (place : ℕ). option_and_then (option_map (value_of n)) (slice_get statics place)) o

  pub static_found : (statics : List (Option Datum)) (k : FieldKey) (slot : ℕ) → place_of_field n.program k ≡ Some slot → static_in n statics k ≡ option_and_then (option_map (value_of n)) (slice_get statics slot)
  static_found statics k slot e = ap (static_at statics) e

  set_here : {X : Type 0} (xs : List X) (i : ℕ) (x : X) → i < length xs → slice_get (slice_set xs i x) i ≡ Some x
  set_here [] i x h = absurd (omega (arith, h))
  set_here (y ∷ ys) zero x h = refl
  set_here (y ∷ ys) (suc i) x h = set_here ys i x (omega (arith, h))

  set_apart : {X : Type 0} (xs : List X) (i j : ℕ) (x : X) → (j ≡ i → ⊥) → slice_get (slice_set xs i x) j ≡ slice_get xs j
  set_apart [] i j x h = refl
  set_apart (y ∷ ys) zero zero x h = absurd (h refl)
  set_apart (y ∷ ys) zero (suc j) x h = refl
  set_apart (y ∷ ys) (suc i) zero x h = refl
  set_apart (y ∷ ys) (suc i) (suc j) x h = set_apart ys i j x (λ e. h (ap suc e))

  -- another field has another place
  apart : (k x : FieldKey) (slot s : ℕ) → place_of_field n.program k ≡ Some slot → place_of_field n.program x ≡ Some s → field_eq x k ≡ false → s ≡ slot → ⊥
  apart k x slot s e f t same =
      let one = one_place n.program 0 k x n.program.classes slot e (f ∙ ap (λ (m : ℕ). Some m) same) in
      absurd (true≢false (sym (key_itself k) ∙ ap (λ (y : FieldKey). field_eq y k) (sym one) ∙ t))

  static_put : (statics : List (Option Datum)) (k x : FieldKey) (slot : ℕ) (d : Datum) → place_of_field n.program k ≡ Some slot → slot < length statics → (b : Bool) → field_eq x k ≡ b
      → static_in n (slice_set statics slot (Some d)) x ≡ elim b as (λ b. Option Value) [ true ↦ Some (value_of n d) | false ↦ static_in n statics x ]
  static_put statics k x slot d e low true t =
      ap (λ (y : FieldKey). static_in n (slice_set statics slot (Some d)) y) (key_sound x k t)
      ∙ ap (static_at (slice_set statics slot (Some d))) e
      ∙ ap (option_and_then (option_map (value_of n))) (set_here statics slot (Some d) low)
  static_put statics k x slot d e low false t = by (place_of_field n.program x) refl
    where
      by : (o : Option ℕ) → place_of_field n.program x ≡ o → static_at (slice_set statics slot (Some d)) o ≡ static_at statics o
      by None f = refl
      by (Some s) f = ap (option_and_then (option_map (value_of n))) (set_apart statics slot s (Some d) (apart k x slot s e f t))

  pub statics_put : (statics : List (Option Datum)) (k : FieldKey) (slot : ℕ) (d : Datum) → place_of_field n.program k ≡ Some slot → slot < length statics → static_in n (slice_set statics slot (Some d)) ≡ put_field k (value_of n d) (static_in n statics)
  statics_put statics k slot d e low = λ i x. static_put statics k x slot d e low (field_eq x k) refl i

-- ---- fields of objects

-- a place of an object holds this, and all others what they held
pub record PutsAt (old new : List ((ℕ × ℕ) × Datum)) (number slot : ℕ) (d : Datum) : Type 0 where
  pub at : (m s : ℕ) → lookup (is_at m s) new ≡ cond (nat_eq number m && nat_eq slot s) (Some d) (lookup (is_at m s) old)

module _ (n : Names) (old new : List ((ℕ × ℕ) × Datum)) (number slot : ℕ) (d : Datum) (puts : PutsAt old new number slot d) where
  abbrev held_at : List ((ℕ × ℕ) × Datum) → ℕ → Option ℕ → Option Value
  held_at fields m o = option_and_then (λ (place : ℕ). option_map (value_of n) (lookup (is_at m place) fields)) o

  same_object : (k x : FieldKey) → place_of_field n.program k ≡ Some slot → (b : Bool) → field_eq x k ≡ b → field_in n new number x ≡ elim b as (λ b. Option Value) [ true ↦ Some (value_of n d) | false ↦ field_in n old number x ]
  same_object k x e true t =
      ap (λ (y : FieldKey). field_in n new number y) (key_sound x k t)
      ∙ ap (held_at new number) e
      ∙ ap (option_map (value_of n)) (puts.at number slot ∙ ap (λ (b : Bool). cond b (Some d) (lookup (is_at number slot) old)) (both (nat_eq number number) (nat_eq slot slot) (eq-eqb number number refl) (eq-eqb slot slot refl)))
  same_object k x e false t = by (place_of_field n.program x) refl
    where
      by : (o : Option ℕ) → place_of_field n.program x ≡ o → held_at new number o ≡ held_at old number o
      by None f = refl
      by (Some s) f =
          let away : nat_eq slot s ≡ false = unlike slot s (λ same. apart n k x slot s e f t (sym same)) in
          ap (option_map (value_of n)) (puts.at number s ∙ ap (λ (b : Bool). cond (nat_eq number number && b) (Some d) (lookup (is_at number s) old)) away ∙ none (nat_eq number number) s)
        where
          none : (b : Bool) (s : ℕ) → cond (b && false) (Some d) (lookup (is_at number s) old) ≡ lookup (is_at number s) old
          none true s = refl
          none false s = refl

  pub fields_put : (k : FieldKey) → place_of_field n.program k ≡ Some slot → field_in n new number ≡ put_field k (value_of n d) (field_in n old number)
  fields_put k e = λ i x. same_object k x e (field_eq x k) refl i

  other_object : (m : ℕ) → (number ≡ m → ⊥) → field_in n new m ≡ field_in n old m
  other_object m h = λ i x. by (place_of_field n.program x) i
    where
      by : (o : Option ℕ) → held_at new m o ≡ held_at old m o
      by None = refl
      by (Some s) = ap (option_map (value_of n)) (puts.at m s ∙ ap (λ (b : Bool). cond (b && nat_eq slot s) (Some d) (lookup (is_at m s) old)) (unlike number m h))

  other_thing : (m : ℕ) (s : Shape) → (number ≡ m → ⊥) → thing_of n new m s ≡ thing_of n old m s
  other_thing m (Plain kind) h = ap (Instance (n.kind kind)) (other_object m h)
  other_thing m (Array kind items) h = refl

  things_past : (k : ℕ) (ss : List Spot) → number < k → things_from n new k ss ≡ things_from n old k ss
  things_past k [] h = refl
  things_past k (s ∷ ss) h = λ i. other_thing k s.shape (λ e. absurd (omega (arith, e, h))) i ∷ things_past (suc k) ss (omega (arith, h)) i

  pub things_put : (key : FieldKey) (kind : Kind) → place_of_field n.program key ≡ Some slot → (k : ℕ) (ss : List Spot) (i : ℕ) (s : Spot) → slice_get ss i ≡ Some s → s.shape ≡ Plain kind → k + i ≡ number
      → things_from n new k ss ≡ slice_set (things_from n old k ss) i (Instance (n.kind kind) (put_field key (value_of n d) (field_in n old number)))
  things_put key kind e k [] i s g h z = refl
  things_put key kind e k (x ∷ ss) zero s g h z =
      let same : x ≡ s = cc in
      let here : k ≡ number = omega (arith, z) in
      let shape : x.shape ≡ Plain kind = ap (λ (y : Spot). y.shape) same ∙ h in
      λ i. (ap (thing_of n new k) shape ∙ ap (λ (m : ℕ). Instance (n.kind kind) (field_in n new m)) here ∙ ap (Instance (n.kind kind)) (fields_put key e)) i ∷ things_past (suc k) ss (omega (arith, here)) i
  things_put key kind e k (x ∷ ss) (suc i) s g h z =
      λ j. other_thing k x.shape (λ f. absurd (omega (arith, f, z))) j ∷ things_put key kind e (suc k) ss i s g h (omega (arith, z)) j
