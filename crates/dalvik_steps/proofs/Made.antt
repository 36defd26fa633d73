-- New objects, by numbers and by names.
use Rattle.std.proofs.Common.{◌≡◌, ℕ, zero, suc, ◌+◌, ◌<◌, ◌≤◌, inl, inr, Bool, true, false, List, [], ◌∷◌, ◌++◌, length, map, nat_eq, arith, ap, refl, sym, subst, ◌∙◌, length-append, eqb-true}
use Rattle.std.specs.Prelude.{◌&&◌, Option, Some, None, cond, slice_get}
use Rattle.std.specs.Map.{lookup}
use Rattle.std.specs.Option.{option_and_then, option_map}
use Rattle.dalvik_lookups.specs.Views.{type_text}
use Rattle.dalvik_lookups.specs.declared.lookups.Lookups.{Lookups}
use Rattle.dalvik_lookups.specs.declared.types.Kind.{Kind}
use Rattle.dalvik_lookups.proofs.Interned.{got_last}
use Rattle.dalvik_defs.specs.Names.{Text}
use Rattle.dalvik_defs.specs.Show.{place_in}
use Rattle.dalvik_defs.specs.State.{Instance, Thing, World as NamedWorld, fresh, kind_of, kind_of_thing, next_object, with_thing}
use Rattle.dalvik_defs.specs.declared.names.FieldKey.{FieldKey}
use Rattle.dalvik_defs.specs.declared.state.Value.{Value}
use Rattle.dalvik_defs.specs.declared.state.Value.TheVariants.{Object}
use Rattle.dalvik_state.specs.declared.datum.Datum.{Datum}
use Rattle.dalvik_state.specs.declared.shows.Draft.TheVariants as draft
use Rattle.dalvik_state.specs.declared.world.Exposed.{Exposed}
use Rattle.dalvik_state.specs.declared.world.Thing.{Thing as OwnThing}
use Rattle.dalvik_state.specs.declared.world.Thing.TheVariants as thing
use Rattle.dalvik_state.specs.declared.world.World.{World}
use Rattle.dalvik_state.specs.Drafts.{IsDraft}
use Rattle.dalvik_state.specs.States.{kind_within, AreKinds, ArePlaced, AreWritten, IsFineKind, IsSound}
use Rattle.dalvik_state.specs.Views.{exposed_of, field_in, is_at, names_in, place_of_field, thing_of, things_from, value_of, world_of, Names}
use Rattle.dalvik_state.specs.Worlds.{Plain, Spot, new_spot, spots_of, IsHeap, IsShort, IsShortShape}
use Rattle.dalvik_state.proofs.Fine.{fine_added}
use Rattle.dalvik_state.proofs.Places.{place_past, unlike}
use Rattle.dalvik_state.proofs.Things.{heap_named, more_named, next_is, things_long}

-- ---- nothing is written to a new object yet

unwritten : (size place : ℕ) (es : List ((ℕ × ℕ) × Datum)) → ((i : ℕ) (e : (ℕ × ℕ) × Datum) → slice_get es i ≡ Some e → e.0.0 < size) → lookup (is_at size place) es ≡ None
unwritten size place [] h = refl
unwritten size place (e ∷ es) h =
    let low = h 0 e refl in
    ap (λ (b : Bool). cond (b && nat_eq place e.0.1) (Some e.1) (lookup (is_at size place) es)) (unlike size e.0.0 (λ same. absurd (omega (arith, low, same))))
    ∙ unwritten size place es (λ i x f. h (suc i) x f)

no_fields : (n : Names) (size : ℕ) (es : List ((ℕ × ℕ) × Datum)) → ((i : ℕ) (e : (ℕ × ℕ) × Datum) → slice_get es i ≡ Some e → e.0.0 < size) → field_in n es size ≡ (λ (k : FieldKey). None)
no_fields n size es h = λ i k. by (place_of_field n.program k) i
  where
    by : (o : Option ℕ) → option_and_then (λ (place : ℕ). option_map (value_of n) (lookup (is_at size place) es)) o ≡ None
    by None = refl
    by (Some place) = ap (option_map (value_of n)) (unwritten size place es h)

-- an object is added
pub instance_named : (n : Names) (old new : World) (kind : Kind) → IsHeap old new (spots_of old ++ new_spot (thing.Instance kind) ∷ []) → AreWritten (length (spots_of old)) old.fields.entries
    → world_of n new ≡ with_thing (world_of n old) (fresh (n.kind kind))
instance_named n old new kind h w =
    heap_named n old new (spots_of old ++ new_spot (thing.Instance kind) ∷ []) h
    ∙ ap (λ (hs : List Thing). record (world_of n old) { heap = hs })
    (more_named n old.fields.entries 0 (spots_of old) (new_spot (thing.Instance kind))
    ∙ ap (λ (j : ℕ). things_from n old.fields.entries 0 (spots_of old) ++ Instance (n.kind kind) (field_in n old.fields.entries j) ∷ []) (let same : 0 + length (spots_of old) ≡ length (spots_of old) = omega arith in same)
    ∙ ap (λ (f : FieldKey → Option Value). things_from n old.fields.entries 0 (spots_of old) ++ Instance (n.kind kind) f ∷ []) (no_fields n (length (spots_of old)) old.fields.entries w.at))

-- ---- what a run keeps

pub instance_sound : (l : Lookups) (old new : World) (kind : Kind) → IsHeap old new (spots_of old ++ new_spot (thing.Instance kind) ∷ []) → IsFineKind l kind → IsSound l old → IsSound l new
instance_sound l old new kind h fine w =
    let spot = new_spot (thing.Instance kind) in
    let long = length-append (spots_of old) (spot ∷ []) in
    let size : length (spots_of new) ≡ length (spots_of old ++ spot ∷ []) = ap length h.heap in
    let seen : new.exposed.items ≡ old.exposed.items = ap (λ v. v.items) h.exposed in
    record {
      fine = fine_added (names_in l) old new (thing.Instance kind) h tt w.fine;
      kinds = record {
        at = λ i x e. elim (got_last (spots_of old) spot x i (ap (λ (ss : List Spot). slice_get ss i) (sym h.heap) ∙ e)) [
          | inl was ↦ w.kinds.at i x was
          | inr new ↦ subst (λ (y : Spot). IsFineKind l (kind_within y.shape)) (sym new.1) fine
        ];
      };
      placed = record {
        below = λ i e g. let low = w.placed.below i e (ap (λ (es : List Exposed). slice_get es i) (sym seen) ∙ g) in omega (arith, low, size, long);
        at = λ i x e. elim (got_last (spots_of old) spot x i (ap (λ (ss : List Spot). slice_get ss i) (sym h.heap) ∙ e)) [
          | inl was ↦ w.placed.at i x was ∙ ap (λ (es : List Exposed). place_in (map exposed_of es) i) (sym seen)
          | inr new ↦ ap (λ (y : Spot). y.place) new.1 ∙ sym (ap (λ (es : List Exposed). place_in (map exposed_of es) i) seen ∙ place_past (length (spots_of old)) old.exposed.items w.placed.below i (let same = new.0 in omega (arith, same)))
        ];
      };
      written = record { at = λ i e g. let low = w.written.at i e (ap (λ m. slice_get m.entries i) (sym h.fields) ∙ g) in omega (arith, low, size, long) };
      short = record {
        at = λ i x e. elim (got_last (spots_of old) spot x i (ap (λ (ss : List Spot). slice_get ss i) (sym h.heap) ∙ e)) [
          | inl was ↦ w.short.at i x was
          | inr new ↦ subst (λ (y : Spot). IsShortShape y.shape) (sym new.1) tt
        ];
      };
      statics = ap (λ v. length v.items) h.statics ∙ w.statics;
    }

-- ---- what is shown of it

last_there : (ts : List Thing) (t : Thing) → slice_get (ts ++ t ∷ []) (length ts) ≡ Some t
last_there [] t = refl
last_there (x ∷ xs) t = last_there xs t

abbrev kind_by : Option Thing → Text
kind_by o = elim o as (λ o. Text) [ Some t ↦ kind_of_thing t | None ↦ [] ]

-- by names the new object is of its type
pub made_kind : (w : NamedWorld) (c : Text) → kind_of (with_thing w (fresh c)) (next_object w) ≡ c
made_kind w c = ap kind_by (last_there w.heap (fresh c))

pub made_draft : (n : Names) (old : World) (u : NamedWorld) (c text declared : Text) → u ≡ with_thing (world_of n old) (fresh c) → text ≡ c → IsDraft u declared (next_object (world_of n old)) (draft.Object (length (spots_of old)) (Some text))
made_draft n old u c text declared e t = subst (λ (v : NamedWorld). IsDraft v declared (next_object (world_of n old)) (draft.Object (length (spots_of old)) (Some text))) (sym e) (record {
  drafts = record {
    is = next_is n old;
    there = (let long = length-append (world_of n old).heap (fresh c ∷ []) in let size = things_long n old.fields.entries 0 (spots_of old) in omega (arith, long, size));
    typed = t ∙ sym (made_kind (world_of n old) c) ∙ ap (kind_of (with_thing (world_of n old) (fresh c))) (next_is n old);
  };
})
