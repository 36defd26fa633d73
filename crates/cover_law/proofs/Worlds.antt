-- Worlds whose fields hold what they held, so that facts go on to hold of them.
use Rattle.std.proofs.Common.{◌≡◌, ℕ, zero, suc, Bool, true, false, List, [], ◌∷◌, ◌++◌, Option, Some, None, ◌⊎◌, inl, inr, refl, sym, ap, ◌∙◌, subst}
use Rattle.std.specs.Prelude.{slice_get, slice_set}
use Rattle.dalvik_defs.specs.Names.{Text}
use Rattle.dalvik_defs.specs.Find.{defined_field}
use Rattle.dalvik_defs.specs.Outer.{Outer}
use Rattle.dalvik_defs.specs.Outcome.{with_lock}
use Rattle.dalvik_defs.specs.State.{World, Thing, Instance, Items, thing_at, put_thing, with_thing, kind_of, kind_of_thing}
use Rattle.dalvik_defs.specs.Show.{show, show_option, show_all, show_at, mark_printed, is_printed, place_in, skip}
use Rattle.dalvik_defs.specs.declared.state.Value.{Value}
use Rattle.dalvik_defs.specs.declared.state.Value.TheVariants.{Object}
use Rattle.dalvik_defs.specs.declared.names.FieldKey.{FieldKey}
use Rattle.dalvik_defs.specs.declared.events.Shown.{Shown}
use Rattle.dalvik_defs.specs.declared.events.Shown.TheVariants as shown
use Rattle.dalvik_defs.specs.declared.program.NamedField.{NamedField}
use Rattle.dalvik_defs.specs.declared.program.NamedProgram.{NamedProgram}
use Rattle.dalvik_defs.specs.declared.tables.Framework.{Framework}
use Rattle.pass_defs.specs.Analysis.{Analysis}
use Rattle.pass_defs.specs.Facts.{Facts}
use Rattle.pass_defs.specs.Kinds as kind
use Rattle.run_laws.specs.Fine.{IsThere}
use Rattle.run_laws.specs.Invariant.{Grows}
use Rattle.run_laws.proofs.Growing.{grows_same, grows_then, grows_with, grows_put, grows_over, there_later, show_heap, option_heap, all_heap}
use Rattle.run_laws.proofs.Fine.{each_get}
use Rattle.run_facts.specs.Covered.{CoversWorld}
use Rattle.run_laws.specs.TypedStates.{ValueOf, TypedThing, TypedWorld}
use Rattle.run_laws.proofs.Registers.{there_held}
use Rattle.run_laws.proofs.Climbs.{none_some, some_one}
use Rattle.cover_law.proofs.Along.{sees_later}

-- ---- showing writes no field

printed_statics : (w : World) (n i : ℕ) (b : Bool) → (elim b as (λ b. World × Shown) [ true ↦ (w, shown.Again i) | false ↦ (record w { exposed = mark_printed n w.exposed }, shown.First i (kind_of w (Object n))) ]).0.statics ≡ w.statics
printed_statics w n i true = refl
printed_statics w n i false = refl

at_statics : (w : World) (n : ℕ) (o : Option ℕ) → (show_at w n o).0.statics ≡ w.statics
at_statics w n (Some i) = printed_statics w n i (is_printed w.exposed i)
at_statics w n None = refl

pub show_statics : (w : World) (k : Text) (v : Value) → (show w k v).0.statics ≡ w.statics
show_statics w k (Object n) = at_statics w n (place_in w.exposed n)
show_statics w k v = refl

pub option_statics : (w : World) (k : Text) (o : Option Value) → (show_option w k o).0.statics ≡ w.statics
option_statics w k None = refl
option_statics w k (Some v) = show_statics w k v

pub all_statics : (ks : List Text) (w : World) (vs : List Value) → (show_all w ks vs).0.statics ≡ w.statics
all_statics [] w vs = refl
all_statics (k ∷ ks) w [] = refl
all_statics (k ∷ ks) w (v ∷ vs) = all_statics ks (show w k v).0 (skip k vs) ∙ show_statics w k v

-- ---- fields that hold what they held

pub record SameFields (w w1 : World) : Type 0 where
  pub grows : Grows w w1
  pub statics : w1.statics ≡ w.statics
  -- each object holds nothing, or is as it was
  pub things : (n : ℕ) (c : Text) (fs : FieldKey → Option Value) → slice_get w1.heap n ≡ Some (Instance c fs) → ((k : FieldKey) → fs k ≡ None) ⊎ (slice_get w.heap n ≡ Some (Instance c fs))

pub same_heap : (w w1 : World) → w1.heap ≡ w.heap → w1.statics ≡ w.statics → SameFields w w1
same_heap w w1 e i = record { grows = grows_same w w1 e; statics = i; things = λ n c fs j. inr (ap (λ h. slice_get h n) (sym e) ∙ j) }

pub same_world : (w : World) → SameFields w w
same_world w = same_heap w w refl refl

pub same_then : (w w1 w2 : World) → SameFields w w1 → SameFields w1 w2 → SameFields w w2
same_then w w1 w2 g h = record { grows = grows_then w w1 w2 g.grows h.grows; statics = h.statics ∙ g.statics; things = λ n c fs e. by n c fs (h.things n c fs e) }
  where
    by : (n : ℕ) (c : Text) (fs : FieldKey → Option Value) → ((k : FieldKey) → fs k ≡ None) ⊎ (slice_get w1.heap n ≡ Some (Instance c fs)) → ((k : FieldKey) → fs k ≡ None) ⊎ (slice_get w.heap n ≡ Some (Instance c fs))
    by n c fs (inl i) = inl i
    by n c fs (inr i) = g.things n c fs i

pub same_show : (w : World) (k : Text) (v : Value) → SameFields w (show w k v).0
same_show w k v = same_heap w (show w k v).0 (show_heap w k v) (show_statics w k v)

pub same_option : (w : World) (k : Text) (o : Option Value) → SameFields w (show_option w k o).0
same_option w k o = same_heap w (show_option w k o).0 (option_heap w k o) (option_statics w k o)

pub same_all : (ks : List Text) (w : World) (vs : List Value) → SameFields w (show_all w ks vs).0
same_all ks w vs = same_heap w (show_all w ks vs).0 (all_heap ks w vs) (all_statics ks w vs)

pub same_lock : (w : World) (v : Value) (n : ℕ) → SameFields w (with_lock (show w (kind_of w v) v).0 v n)
same_lock w v n = same_heap w (with_lock (show w (kind_of w v) v).0 v n) (show_heap w (kind_of w v) v) (show_statics w (kind_of w v) v)

-- a thing that holds no field
abbrev pub IsBare : Thing → Type 0
IsBare (Instance c fs) = (k : FieldKey) → fs k ≡ None
IsBare (Items k vs) = Unit {0}

bare_at : (xs : List Thing) (t : Thing) → IsBare t → (n : ℕ) (c : Text) (fs : FieldKey → Option Value) → slice_get (xs ++ t ∷ []) n ≡ Some (Instance c fs) → ((k : FieldKey) → fs k ≡ None) ⊎ (slice_get xs n ≡ Some (Instance c fs))
bare_at [] t b zero c fs e = inl (subst IsBare (some_one t (Instance c fs) e) b)
bare_at [] t b (suc n) c fs e = none_some (Instance c fs) e
bare_at (x ∷ xs) t b zero c fs e = inr e
bare_at (x ∷ xs) t b (suc n) c fs e = bare_at xs t b n c fs e

pub same_with : (w : World) (t : Thing) → IsBare t → SameFields w (with_thing w t)
same_with w t b = record { grows = grows_with w t; statics = refl; things = bare_at w.heap t b }

set_at : (xs : List Thing) (m : ℕ) (t : Thing) → IsBare t → (n : ℕ) (c : Text) (fs : FieldKey → Option Value) → slice_get (slice_set xs m t) n ≡ Some (Instance c fs) → ((k : FieldKey) → fs k ≡ None) ⊎ (slice_get xs n ≡ Some (Instance c fs))
set_at [] m t b n c fs e = inr e
set_at (x ∷ xs) zero t b zero c fs e = inl (subst IsBare (some_one t (Instance c fs) e) b)
set_at (x ∷ xs) zero t b (suc n) c fs e = inr e
set_at (x ∷ xs) (suc m) t b zero c fs e = inr e
set_at (x ∷ xs) (suc m) t b (suc n) c fs e = set_at xs m t b n c fs e

pub same_put : (w : World) (v : Value) (old t : Thing) → thing_at w v ≡ Some old → kind_of_thing t ≡ kind_of_thing old → IsBare t → SameFields w (put_thing w v t)
same_put w (Object m) old t e i b = record { grows = grows_put w (Object m) old t e i; statics = refl; things = set_at w.heap m t b }
same_put w v old t e i b = none_some old e

-- a thing of its kind is put over another in a later world
pub same_put_over : (w w1 : World) (v : Value) (old t : Thing) → Grows w w1 → thing_at w v ≡ Some old → kind_of_thing t ≡ kind_of_thing old → IsBare t → SameFields w1 (put_thing w1 v t)
same_put_over w w1 (Object m) old t g e i b = record { grows = grows_over w w1 (Object m) old t g e i; statics = refl; things = set_at w1.heap m t b }
same_put_over w w1 v old t g e i b = none_some old e

-- ---- what fields hold is there

pub record FieldsThere (w : World) : Type 0 where
  pub statics : (k : FieldKey) (v : Value) → w.statics k ≡ Some v → IsThere w v
  pub instances : (n : ℕ) (c : Text) (fs : FieldKey → Option Value) (k : FieldKey) (v : Value) → slice_get w.heap n ≡ Some (Instance c fs) → fs k ≡ Some v → IsThere w v

pub fields_over : (w w1 : World) → SameFields w w1 → FieldsThere w → FieldsThere w1
fields_over w w1 s h = record {
  statics = λ k v e. there_later w w1 s.grows v (h.statics k v (ap (λ m. m k) (sym s.statics) ∙ e));
  instances = λ n c fs k v e i. by n c fs k v i (s.things n c fs e);
}
  where
    by : (n : ℕ) (c : Text) (fs : FieldKey → Option Value) (k : FieldKey) (v : Value) → fs k ≡ Some v → ((k : FieldKey) → fs k ≡ None) ⊎ (slice_get w.heap n ≡ Some (Instance c fs)) → IsThere w1 v
    by n c fs k v i (inl j) = none_some v (sym (j k) ∙ i)
    by n c fs k v i (inr j) = there_later w w1 s.grows v (h.instances n c fs k v j i)

module _ (p : NamedProgram) (f : Framework) where
  pub value_there : (w : World) (u : Text) (v : Value) → ValueOf p f w u v → IsThere w v
  value_there w u v h = there_held p f [] w (kind.kind_of p u) v (h [])

  static_there : (w : World) (k : FieldKey) (v : Value) → TypedWorld p f w → w.statics k ≡ Some v → IsThere w v
  static_there w k v tw e = value_there w k.kind v (tw.statics k v e)

  field_there : (w : World) (n : ℕ) (c : Text) (fs : FieldKey → Option Value) (k : FieldKey) (v : Value) → TypedWorld p f w → slice_get w.heap n ≡ Some (Instance c fs) → fs k ≡ Some v → IsThere w v
  field_there w n c fs k v tw e i = value_there w k.kind v ((each_get (TypedThing p f w) w.heap n (Instance c fs) tw.things e).1 k v i)

  -- what a typed world's fields hold is there
  pub typed_fields : (w : World) → TypedWorld p f w → FieldsThere w
  typed_fields w tw = record { statics = λ k v e. static_there w k v tw e; instances = λ n c fs k v e i. field_there w n c fs k v tw e i }

module _ (p : NamedProgram) {V : Type 0} (a : Analysis V) (o : Outer) (facts : Facts V) where
  pub covers_over : (w w1 : World) → FieldsThere w → SameFields w w1 → CoversWorld a p o facts w → CoversWorld a p o facts w1
  covers_over w w1 ft s h = record {
    statics = λ k d v e i. let j = ap (λ m. m k) (sym s.statics) ∙ i in sees_later a p facts w w1 (facts.fields k) v s.grows (ft.statics k v j) (h.statics k d v e j);
    instances = λ k d v n c fs e i j. by k d v n c fs e j (s.things n c fs i);
  }
    where
      by : (k : FieldKey) (d : NamedField) (v : Value) (n : ℕ) (c : Text) (fs : FieldKey → Option Value) → defined_field p k ≡ Some d → fs k ≡ Some v
          → ((k : FieldKey) → fs k ≡ None) ⊎ (slice_get w.heap n ≡ Some (Instance c fs)) → a.holds (facts.fields k) (kind_of w1 v) v
      by k d v n c fs e j (inl i) = none_some v (sym (i k) ∙ j)
      by k d v n c fs e j (inr i) = sees_later a p facts w w1 (facts.fields k) v s.grows (ft.instances n c fs k v i j) (h.instances k d v n c fs e i j)
