-- What is read and written, by numbers and by names.
use Rattle.std.proofs.Common.{◌≡◌, ℕ, zero, suc, ◌+◌, ◌<◌, ◌≤◌, ◌^◌, Bool, true, false, true≢false, List, [], ◌∷◌, length, map, nat_eq, arith, ap, refl, sym, subst, ◌∙◌}
use Rattle.std.specs.Prelude.{◌&&◌, Option, Some, None, cond, drop, slice_get}
use Rattle.std.specs.Map.{lookup}
use Rattle.std.specs.Option.{option_and_then, option_copied, option_map}
use Rattle.insn_set.specs.declared.ops.Item.{Item}
use Rattle.program_model.specs.declared.pass.Outside.{Outside}
use Rattle.program_model.specs.declared.pools.FieldName.{FieldName}
use Rattle.program_model.specs.declared.program.Class.{Class}
use Rattle.program_model.specs.declared.program.Field.{Field}
use Rattle.program_model.specs.declared.program.Program.{Program}
use Rattle.dalvik_defs.specs.Effect.{next, write_item}
use Rattle.dalvik_defs.specs.Face.{Face, Place}
use Rattle.dalvik_defs.specs.Fields.{first_of, instance_value, key_at, static_value, with_instance, written_or}
use Rattle.dalvik_defs.specs.Names.{Text, is_wide}
use Rattle.dalvik_defs.specs.Naming.{field_at, type_at}
use Rattle.dalvik_defs.specs.Outcome.{Need, reads, reads_out, reads_static, reads_instance, reads_value, writes, writes_out, writes_static, writes_instance, Stays}
use Rattle.dalvik_defs.specs.State.{Thing, Instance, Items, World as NamedWorld, thing_at, zero_of}
use Rattle.dalvik_defs.specs.declared.state.Frame.{Frame as NamedFrame}
use Rattle.dalvik_defs.specs.declared.state.Value.{Value}
use Rattle.dalvik_defs.specs.declared.names.FieldKey.{FieldKey}
use Rattle.dalvik_defs.specs.declared.script.Move.{Move}
use Rattle.dalvik_defs.specs.declared.state.Value.TheVariants.{Word, Low}
use Rattle.dalvik_defs.specs.declared.tables.Floats.{Floats}
use Rattle.dalvik_lookups.specs.Facing.{run_face, place_at}
use Rattle.dalvik_lookups.specs.Slots.{slot_of}
use Rattle.dalvik_lookups.specs.Tables.{IsRight}
use Rattle.dalvik_lookups.specs.Views.{type_text}
use Rattle.dalvik_lookups.specs.declared.lookups.Lookups.{Lookups}
use Rattle.dalvik_lookups.specs.declared.types.Kind.{Kind}
use Rattle.dalvik_lookups.proofs.Interned.{got_short}
use Rattle.dalvik_state.specs.declared.datum.Datum.{Datum}
use Rattle.dalvik_state.specs.declared.datum.Datum.TheVariants as datum
use Rattle.dalvik_state.specs.declared.frame.Frame.{Frame}
use Rattle.dalvik_state.specs.declared.state.State.{State}
use Rattle.dalvik_state.specs.declared.world.World.{World}
use Rattle.dalvik_state.specs.Frames.{with_item, zero_in, GoesOn}
use Rattle.dalvik_state.specs.Runs.{classes_in, comes_of, need_in, script_in, world_in, IsEvent, IsLeft}
use Rattle.dalvik_state.specs.States.{state_of, top_frame, ChangesTop, IsRunning, IsSound, KeepsRest}
use Rattle.dalvik_state.specs.Views.{field_in, frame_of, is_at, names_in, place_of_field, static_in, thing_of, value_of, world_of, IsFine, Names}
use Rattle.dalvik_state.specs.Worlds.{shape_at, spots_of, Plain, Array, Shape, Spot}
use Rattle.dalvik_state.proofs.Fine.{fine_zero}
use Rattle.dalvik_state.proofs.Things.{thing_named}
use Rattle.dalvik_steps.specs.Reaching.{object_in, plain_number, FineMaybe, IsFieldOf, IsStep, Turns}
use Rattle.dalvik_steps.proofs.FieldPlaces.{field_placed, static_found}
use Rattle.dalvik_steps.proofs.Leaving.{ended_left, goes_on_left, goes_with_left}
use Rattle.dalvik_steps.proofs.Written.{shape_is}

-- ---- values of fields

zero_by : (n : Names) (w : Bool) → value_of n (zero_in w) ≡ elim w as (λ w. Value) [ true ↦ Low 0 | false ↦ Word 0 ]
zero_by n true = refl
zero_by n false = refl

pub zero_named : (n : Names) (kind : Text) → value_of n (zero_in (is_wide kind)) ≡ zero_of kind
zero_named n kind = zero_by n (is_wide kind)

-- what was written to a static field
pub static_there : (l : Lookups) → IsRight l → (w : World) (k : FieldKey) (at : Place) (class index : ℕ) → IsFieldOf l k at class index
    → (world_of (names_in l) w).statics (key_at k at) ≡ option_and_then (option_map (value_of (names_in l))) (slice_get w.statics.items (slot_of l.program.now class index))
static_there l r w k at class index h = static_found (names_in l) w.statics.items (key_at k at) (slot_of l.program.now class index) (field_placed l r k at class index h)

both_of : (n : Names) (o : Option (Option Datum)) → option_and_then (option_map (value_of n)) o ≡ option_map (value_of n) (option_and_then (λ (d : Option Datum). d) o)
both_of n None = refl
both_of n (Some d) = refl

pub static_some : (l : Lookups) → IsRight l → (w : World) (k : FieldKey) (at : Place) (class index : ℕ) (d : Datum) → IsFieldOf l k at class index → Some d ≡ option_and_then (λ (d : Option Datum). d) (slice_get w.statics.items (slot_of l.program.now class index))
    → value_of (names_in l) d ≡ static_value (world_of (names_in l) w) k at
static_some l r w k at class index d h e =
    let n = names_in l in
    sym (ap (λ (o : Option Value). written_or o (first_of k at)) (static_there l r w k at class index h ∙ both_of n (slice_get w.statics.items (slot_of l.program.now class index)) ∙ ap (option_map (value_of n)) (sym e)))

pub static_none : (l : Lookups) → IsRight l → (w : World) (k : FieldKey) (at : Place) (class index : ℕ) (v : Value) → IsFieldOf l k at class index → None ≡ option_and_then (λ (d : Option Datum). d) (slice_get w.statics.items (slot_of l.program.now class index))
    → v ≡ first_of k at → v ≡ static_value (world_of (names_in l) w) k at
static_none l r w k at class index v h e f =
    let n = names_in l in
    f ∙ sym (ap (λ (o : Option Value). written_or o (first_of k at)) (static_there l r w k at class index h ∙ both_of n (slice_get w.statics.items (slot_of l.program.now class index)) ∙ ap (option_map (value_of n)) (sym e)))

written_at : (o : Option (Option Datum)) (d : Datum) → Some d ≡ option_and_then (λ (d : Option Datum). d) o → o ≡ Some (Some d)
written_at None d e = absurd (cc)
written_at (Some None) d e = absurd (cc)
written_at (Some (Some x)) d e = (let same : d ≡ x = cc in ap (λ (y : Datum). Some (Some y)) (sym same))

pub static_fine : (l : Lookups) (w : World) (slot : ℕ) (d : Datum) → IsSound l w → Some d ≡ option_and_then (λ (d : Option Datum). d) (slice_get w.statics.items slot) → IsFine (names_in l) (length (spots_of w)) d
static_fine l w slot d s e = s.fine.statics slot d (written_at (slice_get w.statics.items slot) d e)

-- ---- values in objects

-- an object that has fields
pub record HasFields (spots : List Spot) (on : Datum) (number : ℕ) : Type 0 where
  pub kind : Kind
  pub is : on ≡ datum.Object number
  pub shape : shape_at spots on ≡ Some (Plain kind)

plain_is : (spots : List Spot) (x number : ℕ) (o : Option Shape) → shape_at spots (datum.Object x) ≡ o → plain_number x o ≡ Some number → HasFields spots (datum.Object x) number
plain_is spots x number None e h = absurd (cc)
plain_is spots x number (Some (Array kind items)) e h = absurd (cc)
plain_is spots x number (Some (Plain kind)) e h = record { kind = kind; is = (let same : x ≡ number = cc in ap datum.Object same); shape = e }

pub has_fields : (spots : List Spot) (on : Datum) (number : ℕ) → object_in spots on ≡ Some number → HasFields spots on number
has_fields spots (datum.Object x) number h = plain_is spots x number (shape_at spots (datum.Object x)) refl h
has_fields spots (datum.Word x) number h = absurd (cc)
has_fields spots (datum.Low x) number h = absurd (cc)
has_fields spots (datum.High x) number h = absurd (cc)
has_fields spots (datum.Literal x) number h = absurd (cc)
has_fields spots (datum.Class x) number h = absurd (cc)

-- by names an object has the fields that were written
pub fields_named : (n : Names) (w : World) (on : Datum) (number : ℕ) (h : HasFields (spots_of w) on number) → thing_at (world_of n w) (value_of n on) ≡ Some (Instance (n.kind h.kind) (field_in n w.fields.entries number))
fields_named n w on number h =
    let found = shape_is (slice_get (spots_of w) number) (Plain h.kind) (ap (shape_at (spots_of w)) (sym h.is) ∙ h.shape) in
    ap (λ (x : Datum). thing_at (world_of n w) (value_of n x)) h.is
    ∙ thing_named n w.fields.entries 0 (spots_of w) number
    ∙ ap (option_map (λ (s : Spot). thing_of n w.fields.entries (0 + number) s.shape)) found.1
    ∙ ap (λ (x : Shape). Some (thing_of n w.fields.entries (0 + number) x)) found.2
    ∙ ap (λ (j : ℕ). Some (Instance (n.kind h.kind) (field_in n w.fields.entries j))) (omega arith)

-- another thing has none
no_fields : (n : Names) (w : World) (k : FieldKey) (at : Place) (x : ℕ) (o : Option Spot) → slice_get (spots_of w) x ≡ o → plain_number x (option_map (λ (s : Spot). s.shape) o) ≡ None
    → instance_value k at (option_map (λ (s : Spot). thing_of n w.fields.entries (0 + x) s.shape) o) ≡ None
no_fields n w k at x None e h = refl
no_fields n w k at x (Some s) e h = by s.shape h
  where
    by : (y : Shape) → plain_number x (Some y) ≡ None → instance_value k at (Some (thing_of n w.fields.entries (0 + x) y)) ≡ None
    by (Plain kind) g = absurd (cc)
    by (Array kind items) g = refl

pub instance_none : (n : Names) (w : World) (k : FieldKey) (at : Place) (on : Datum) → object_in (spots_of w) on ≡ None → instance_value k at (thing_at (world_of n w) (value_of n on)) ≡ None
instance_none n w k at (datum.Object x) h = ap (instance_value k at) (thing_named n w.fields.entries 0 (spots_of w) x) ∙ no_fields n w k at x (slice_get (spots_of w) x) refl h
instance_none n w k at (datum.Word x) h = refl
instance_none n w k at (datum.Low x) h = refl
instance_none n w k at (datum.High x) h = refl
instance_none n w k at (datum.Literal x) h = refl
instance_none n w k at (datum.Class x) h = refl

abbrev held_by : Names → List ((ℕ × ℕ) × Datum) → ℕ → Option ℕ → Option Value
held_by n fields number o = option_and_then (λ (place : ℕ). option_map (value_of n) (lookup (is_at number place) fields)) o

pub instance_there : (l : Lookups) → IsRight l → (w : World) (k : FieldKey) (at : Place) (class index : ℕ) (on : Datum) (number : ℕ) → IsFieldOf l k at class index → object_in (spots_of w) on ≡ Some number
    → instance_value k at (thing_at (world_of (names_in l) w) (value_of (names_in l) on)) ≡ Some (written_or (option_map (value_of (names_in l)) (lookup (is_at number (slot_of l.program.now class index)) w.fields.entries)) (zero_of k.kind))
instance_there l r w k at class index on number h e =
    let n = names_in l in
    ap (instance_value k at) (fields_named n w on number (has_fields (spots_of w) on number e))
    ∙ ap (λ (o : Option ℕ). Some (written_or (held_by n w.fields.entries number o) (zero_of k.kind))) (field_placed l r k at class index h)

looked_up : {K X : Type 0} (test : K → Bool) (es : List (K × X)) (x : X) → lookup test es ≡ Some x → (i : ℕ) × ((e : K × X) × ((slice_get es i ≡ Some e) × (e.1 ≡ x)))
looked_up test [] x h = absurd (cc)
looked_up {K = K} {X = X} test (e ∷ es) x h = by (test e.0) h (looked_up test es x)
  where
    by : (b : Bool) → cond b (Some e.1) (lookup test es) ≡ Some x → (lookup test es ≡ Some x → (i : ℕ) × ((e : K × X) × ((slice_get es i ≡ Some e) × (e.1 ≡ x)))) → (i : ℕ) × ((y : K × X) × ((slice_get (e ∷ es) i ≡ Some y) × (y.1 ≡ x)))
    by true g more = (0, (e, (refl, (let same : e.1 ≡ x = cc in same))))
    by false g more = (let r = more g in (suc r.0, (r.1.0, r.1.1)))

pub field_fine : (l : Lookups) (w : World) (number slot : ℕ) (d : Datum) → IsSound l w → lookup (is_at number slot) w.fields.entries ≡ Some d → IsFine (names_in l) (length (spots_of w)) d
field_fine l w number slot d s e =
    let r = looked_up (is_at number slot) w.fields.entries d e in
    subst (IsFine (names_in l) (length (spots_of w))) r.1.1.1 (s.fine.fields r.0 r.1.0 r.1.1.0)

-- ---- steps that show nothing

-- nothing has changed yet
pub turns_same : (l : Lookups) (steps : ℕ) (s : State) → IsRunning l steps s → Turns l steps s s (world_in l s)
turns_same l steps s r = record {
  named = refl;
  sound = r.world;
  more = omega arith;
  held = λ i e g. let h = r.held i e g in omega (arith, h);
  stack = refl;
  statuses = refl;
  next = refl;
  ended = refl;
}

pub value_read : (l : Lookups) (o : Outside) (floats : Floats) (script : List Move) (steps : ℕ) (f : Frame) (item : Item) (to : ℕ) (d : Datum) (old new : State) → IsStep l steps old f → IsFine (names_in l) (length (spots_of old.world)) d
    → ChangesTop (λ (f g : Frame). GoesOn f g (with_item item f.registers.items to d)) old.stack.items new.stack.items → KeepsRest old new
    → IsEvent l steps script new None (comes_of l o floats script old f (reads_value item to (Some (value_of (names_in l) d)) (world_in l old) (frame_of (names_in l) f)))
value_read l o floats script steps f item to d old new h fine changes k = record {
  left = goes_with_left l steps script old old new (world_in l old) h.state h.early h.on (turns_same l steps old h.state) f h.top item to d fine changes k;
  shown = refl;
}

pub value_none : (l : Lookups) (o : Outside) (floats : Floats) (script : List Move) (steps : ℕ) (f : Frame) (item : Item) (to : ℕ) (old : State)
    → IsEvent l steps script (record old { ended = true }) None (comes_of l o floats script old f (reads_value item to None (world_in l old) (frame_of (names_in l) f)))
value_none l o floats script steps f item to old = record { left = ended_left l steps script old; shown = refl }

-- ---- the program's answer

pub reads_unfound : (face : Face) (need : Text → Need) (item : Item) (to : ℕ) (k : FieldKey) (on : Option Value) (w : NamedWorld) (f : NamedFrame) → face.field k ≡ None → reads face need item to k on w f ≡ reads_out k on w
reads_unfound face need item to k None w f e = ap (reads_static need item to k w f) e
reads_unfound face need item to k (Some on) w f e = ap (reads_instance item to k on w f) e

pub writes_unfound : (face : Face) (need : Text → Need) (k : FieldKey) (on : Option Value) (v : Value) (w : NamedWorld) (f : NamedFrame) → face.field k ≡ None → writes face need k on v w f ≡ writes_out k on v w f
writes_unfound face need k None v w f e = ap (writes_static need k v w f) e
writes_unfound face need k (Some on) v w f e = ap (writes_instance k on v w f) e

-- ---- another thing has no fields that are written

no_write : (n : Names) (w : World) (k : FieldKey) (u : NamedWorld) (on v : Value) (x : ℕ) (o : Option Spot) → slice_get (spots_of w) x ≡ o → plain_number x (option_map (λ (s : Spot). s.shape) o) ≡ None
    → with_instance u k on v (option_map (λ (s : Spot). thing_of n w.fields.entries (0 + x) s.shape) o) ≡ None
no_write n w k u on v x None e h = refl
no_write n w k u on v x (Some s) e h = by s.shape h
  where
    by : (y : Shape) → plain_number x (Some y) ≡ None → with_instance u k on v (Some (thing_of n w.fields.entries (0 + x) y)) ≡ None
    by (Plain kind) g = absurd (cc)
    by (Array kind items) g = refl

pub with_none : (n : Names) (w : World) (k : FieldKey) (u : NamedWorld) (at v : Value) (on : Datum) → object_in (spots_of w) on ≡ None → with_instance u k at v (thing_at (world_of n w) (value_of n on)) ≡ None
with_none n w k u at v (datum.Object x) h = ap (with_instance u k at v) (thing_named n w.fields.entries 0 (spots_of w) x) ∙ no_write n w k u at v x (slice_get (spots_of w) x) refl h
with_none n w k u at v (datum.Word x) h = refl
with_none n w k u at v (datum.Low x) h = refl
with_none n w k u at v (datum.High x) h = refl
with_none n w k u at v (datum.Literal x) h = refl
with_none n w k u at v (datum.Class x) h = refl
