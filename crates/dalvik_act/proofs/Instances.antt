-- Tests of the types of values, by names.
use Rattle.std.proofs.Common.{◌≡◌, ℕ, zero, suc, ◌+◌, ◌<◌, ◌≤◌, Bool, true, false, List, [], ◌∷◌, ◌++◌, length, map, min, replicate, arith, ap, refl, sym, subst, ◌∙◌}
use Rattle.std.specs.Prelude.{◌&&◌, ◌||◌, ◌^◌, not, Option, Some, None, slice_get}
use Rattle.std.specs.Option.{option_map}
use Rattle.insn_set.specs.declared.ops.Item.{Item}
use Rattle.insn_set.specs.declared.ops.Item.TheVariants as item
use Rattle.dalvik_lookups.specs.declared.lookups.Lookups.{Lookups}
use Rattle.dalvik_lookups.specs.declared.types.Kind.{Kind}
use Rattle.dalvik_lookups.specs.Facing.{run_face}
use Rattle.dalvik_lookups.specs.Views.{name_at, type_text, AreTypes, IsKind}
use Rattle.dalvik_lookups.proofs.Descriptors.{known_at}
use Rattle.dalvik_defs.specs.ActArray.{may_store}
use Rattle.dalvik_defs.specs.ActPlain.{is_instance}
use Rattle.dalvik_defs.specs.Names.{Text, array_of, class_type, string_type}
use Rattle.dalvik_defs.specs.Naming.{named}
use Rattle.dalvik_defs.specs.State.{Thing, World, is_null, kind_of, kind_of_thing}
use Rattle.dalvik_defs.specs.Under.{is_under}
use Rattle.dalvik_defs.specs.declared.state.Value.{Value}
use Rattle.dalvik_state.specs.declared.datum.Datum.{Datum}
use Rattle.dalvik_state.specs.declared.datum.Datum.TheVariants as datum
use Rattle.dalvik_state.specs.declared.world.World.{World as OwnWorld}
use Rattle.dalvik_state.specs.Frames.{is_null_in}
use Rattle.dalvik_state.specs.States.{kind_within, AreKinds, IsFineKind, IsSound}
use Rattle.dalvik_state.specs.Views.{IsFine, names_in, thing_of, value_of, world_of}
use Rattle.dalvik_state.specs.Worlds.{Shape, Plain, Array, Spot, kind_in, kind_of_shape, spots_of}
use Rattle.dalvik_state.proofs.Gifted.{kind_there, on_none, on_some}
use Rattle.dalvik_state.proofs.Named.{null_named}
use Rattle.dalvik_state.proofs.Things.{thing_named}

abbrev text_by : Option Thing → Text
text_by o = elim o as (λ o. Text) [ Some t ↦ kind_of_thing t | None ↦ [] ]

module _ (l : Lookups) where
  deeper : (k : Kind) → IsFineKind l k → array_of (type_text l.types k) ≡ type_text l.types (record { depth = min (k.depth + 1) 18446744073709551615; base = k.base })
  deeper k f =
      let low = f.deep in
      let e : suc k.depth ≡ min (k.depth + 1) 18446744073709551615 = omega (arith, low) in
      ap (λ (d : ℕ). replicate d 91 ++ name_at l.types k.base) e

  thing_text : (w : OwnWorld) (i : ℕ) (s : Shape) → IsFineKind l (kind_within s) → kind_of_thing (thing_of (names_in l) w.fields.entries i s) ≡ type_text l.types (kind_of_shape s)
  thing_text w i (Plain kind) f = refl
  thing_text w i (Array kind items) f = deeper kind f

  spot_text : (w : OwnWorld) (i : ℕ) (o : Option Spot) (k : Kind) → ((s : Spot) → o ≡ Some s → IsFineKind l (kind_within s.shape)) → option_map (λ (s : Spot). kind_of_shape s.shape) o ≡ Some k
      → text_by (option_map (λ (s : Spot). thing_of (names_in l) w.fields.entries i s.shape) o) ≡ type_text l.types k
  spot_text w i None k h e = absurd (cc)
  spot_text w i (Some s) k h e = let same : kind_of_shape s.shape ≡ k = cc in thing_text w i s.shape (h s refl) ∙ ap (type_text l.types) same

  -- the type of a value by names
  pub kind_named : (w : OwnWorld) (d : Datum) (k : Kind) → AreTypes l.types → AreKinds l (spots_of w) → kind_in (spots_of w) d ≡ Some k → kind_of (world_of (names_in l) w) (value_of (names_in l) d) ≡ type_text l.types k
  kind_named w (datum.Object x) k a h e =
      let at : 0 + x ≡ x = omega arith in
      ap text_by (thing_named (names_in l) w.fields.entries 0 (spots_of w) x ∙ ap (λ (j : ℕ). option_map (λ (s : Spot). thing_of (names_in l) w.fields.entries j s.shape) (slice_get (spots_of w) x)) at)
      ∙ spot_text w x (slice_get (spots_of w) x) k (h.at x) e
  kind_named w (datum.Literal x) k a h e = let same : record { depth = 0; base = 1 } ≡ k = cc in sym (known_at l.types a 1 string_type refl) ∙ ap (type_text l.types) same
  kind_named w (datum.Class x) k a h e = let same : record { depth = 0; base = 2 } ≡ k = cc in sym (known_at l.types a 2 class_type refl) ∙ ap (type_text l.types) same
  kind_named w (datum.Word x) k a h e = absurd (cc)
  kind_named w (datum.Low x) k a h e = absurd (cc)
  kind_named w (datum.High x) k a h e = absurd (cc)

  -- null is no instance
  pub instance_null : (w : World) (d : Datum) (t : Text) → is_null_in d ≡ true → false ≡ is_instance (run_face l).under w (value_of (names_in l) d) t
  instance_null w d t h = sym (ap (λ (b : Bool). not b && (run_face l).under (kind_of w (value_of (names_in l) d)) t) (null_named (names_in l) d ∙ h))

  -- nor is a number
  pub instance_none : (w : World) (spots : List Spot) (d : Datum) (t : Text) → IsFine (names_in l) (length spots) d → kind_in spots d ≡ None → false ≡ is_instance (run_face l).under w (value_of (names_in l) d) t
  instance_none w spots d t f e = on_none l w spots d t f e

  -- anything else is one by its type
  pub instance_some : (w : OwnWorld) (d : Datum) (k kind : Kind) (answer : Bool) → AreTypes l.types → AreKinds l (spots_of w) → kind_in (spots_of w) d ≡ Some k → answer ≡ is_under (named l.program.now) l.framework.now (type_text l.types k) (type_text l.types kind)
      → answer ≡ is_instance (run_face l).under (world_of (names_in l) w) (value_of (names_in l) d) (type_text l.types kind)
  instance_some w d k kind answer a h e is = is ∙ on_some l (world_of (names_in l) w) (spots_of w) d k (type_text l.types kind) e (kind_named w d k a h e)

  pub kind_stands : (w : OwnWorld) (d : Datum) (k : Kind) → AreTypes l.types → IsSound l w → kind_in (spots_of w) d ≡ Some k → IsKind l.types k
  kind_stands w d k a s e = kind_there l (spots_of w) d k a s.kinds e

-- ---- stores

either_way : (b u : Bool) → b ≡ false → not b && u ≡ b || u
either_way b u h = ap (λ (c : Bool). not c && u) h ∙ sym (ap (λ (c : Bool). c || u) h)

-- an object is stored where it is null or an instance
pub stores_null : (under : Text → Text → Bool) (w : World) (v : Value) (kind : Text) → is_null v ≡ true → true ≡ may_store under w item.Object v kind
stores_null under w v kind h = sym (ap (λ (b : Bool). b || under (kind_of w v) kind) h)

pub stores_instance : (under : Text → Text → Bool) (w : World) (v : Value) (kind : Text) (answer : Bool) → is_null v ≡ false → answer ≡ is_instance under w v kind → answer ≡ may_store under w item.Object v kind
stores_instance under w v kind answer h e = e ∙ either_way (is_null v) (under (kind_of w v) kind) h

-- and anything else
pub stores_other : (under : Text → Text → Bool) (w : World) (i : Item) (v : Value) (kind : Text) → (i ≡ item.Object → ⊥) → true ≡ may_store under w i v kind
stores_other under w item.Object v kind h = absurd (h refl)
stores_other under w item.Plain v kind h = refl
stores_other under w item.Wide v kind h = refl
stores_other under w item.Boolean v kind h = refl
stores_other under w item.Byte v kind h = refl
stores_other under w item.Char v kind h = refl
stores_other under w item.Short v kind h = refl

pub stores_as : (under : Text → Text → Bool) (w : World) (i : Item) (v : Value) (kind : Text) (answer : Bool) → i ≡ item.Object → answer ≡ may_store under w item.Object v kind → answer ≡ may_store under w i v kind
stores_as under w i v kind answer h e = e ∙ ap (λ (j : Item). may_store under w j v kind) (sym h)
