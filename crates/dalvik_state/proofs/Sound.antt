-- Worlds in which objects are exposed and printed.
use Rattle.std.proofs.Common.{◌≡◌, ℕ, zero, suc, ◌+◌, ◌<◌, ◌≤◌, Bool, List, [], ◌∷◌, ◌++◌, length, map, arith, ap, refl, sym, subst, ◌∙◌}
use Rattle.std.specs.Prelude.{Option, Some, None, slice_get}
use Rattle.dalvik_lookups.specs.declared.lookups.Lookups.{Lookups}
use Rattle.dalvik_defs.specs.Show.{expose, mark_printed, place_in}
use Rattle.dalvik_defs.specs.State.{Thing, World, Exposed as Seen}
use Rattle.dalvik_state.specs.declared.datum.Datum.{Datum}
use Rattle.dalvik_state.specs.declared.world.Exposed.{Exposed}
use Rattle.dalvik_state.specs.declared.world.World.{World as OwnWorld}
use Rattle.dalvik_state.specs.Worlds.{Spot, place_at, place_spot, print_at, spots_of, IsExposed, IsShortShape}
use Rattle.dalvik_state.specs.States.{kind_within, AreKinds, ArePlaced, AreWritten, IsFineKind, IsSound}
use Rattle.dalvik_state.specs.Views.{AreFineLocks, AreFineSpots, IsFine, IsFineShape, IsFineWorld, Names, names_in, exposed_of, lock_in, static_in, thing_of, things_from, world_of}
use Rattle.dalvik_state.proofs.Fine.{fine_more, shape_more}
use Rattle.dalvik_state.proofs.Places.{as_long, placed_more, placed_printed, placing, print_named, seen_more}

-- ---- by names

pub exposing_named : (n : Names) (old new : OwnWorld) (spots : List Spot) (exposed : List Exposed) → IsExposed old new spots exposed
    → world_of n new ≡ record (world_of n old) { heap = things_from n old.fields.entries 0 spots; exposed = map exposed_of exposed }
exposing_named n old new spots exposed h = λ i. record {
  heap = things_from n (h.fields i).entries 0 (h.heap i);
  locks = lock_in n (h.locks i).entries;
  statics = static_in n (h.statics i).items;
  exposed = map exposed_of (h.exposed i);
}

placed_things : (n : Names) (fields : List ((ℕ × ℕ) × Datum)) (k place : ℕ) (ss : List Spot) (i : ℕ) → things_from n fields k (place_spot place ss i) ≡ things_from n fields k ss
placed_things n fields k place [] i = refl
placed_things n fields k place (s ∷ ss) zero = refl
placed_things n fields k place (s ∷ ss) (suc i) = ap (λ (ts : List Thing). thing_of n fields k s.shape ∷ ts) (placed_things n fields (suc k) place ss i)

pub expose_named : (n : Names) (old new : OwnWorld) (e : Exposed) → IsExposed old new (place_spot (length old.exposed.items) (spots_of old) e.number) (old.exposed.items ++ e ∷ []) → world_of n new ≡ expose (world_of n old) e.number e.printed
expose_named n old new e h =
    exposing_named n old new (place_spot (length old.exposed.items) (spots_of old) e.number) (old.exposed.items ++ e ∷ []) h
    ∙ (λ i. record (world_of n old) { heap = placed_things n old.fields.entries 0 (length old.exposed.items) (spots_of old) e.number i; exposed = seen_more old.exposed.items (e ∷ []) i })

pub printing_named : (n : Names) (old new : OwnWorld) (number place : ℕ) → IsExposed old new (spots_of old) (print_at old.exposed.items place) → place_in (map exposed_of old.exposed.items) number ≡ Some place
    → world_of n new ≡ record (world_of n old) { exposed = mark_printed number (map exposed_of old.exposed.items) }
printing_named n old new number place h p =
    exposing_named n old new (spots_of old) (print_at old.exposed.items place) h
    ∙ ap (λ (es : List Seen). record (world_of n old) { exposed = es }) (print_named number old.exposed.items place p)

-- ---- what a run keeps

-- the same things, whatever their places are
pub record SameShapes (olds news : List Spot) : Type 0 where
  pub long : length news ≡ length olds
  pub at : (i : ℕ) (s : Spot) → slice_get news i ≡ Some s → (x : Spot) × (slice_get olds i ≡ Some x) × (x.shape ≡ s.shape)

pub shapes_same : (ss : List Spot) → SameShapes ss ss
shapes_same ss = record { long = refl; at = λ i s e. (s, e, refl) }

pub shapes_placed : (place : ℕ) (ss : List Spot) (n : ℕ) → SameShapes ss (place_spot place ss n)
shapes_placed place ss n = record {
  long = as_long place ss n;
  at = λ i s e. let r = placing place ss n i s e in (r.old, r.was, r.shape);
}

pub sound_exposed : (l : Lookups) (old new : OwnWorld) (spots : List Spot) (exposed : List Exposed) → IsExposed old new spots exposed → SameShapes (spots_of old) spots → ArePlaced spots exposed → IsSound l old → IsSound l new
sound_exposed l old new spots exposed h s p w =
    let size : length (spots_of new) ≡ length (spots_of old) = ap length h.heap ∙ s.long in
    let more : length (spots_of old) ≤ length (spots_of new) = omega (arith, size) in
    let n = names_in l in
    record {
      fine = record {
        arrays = record {
          at = λ i x e.
              let r = s.at i x (ap (λ (ss : List Spot). slice_get ss i) (sym h.heap) ∙ e) in
              shape_more n (length (spots_of old)) (length (spots_of new)) x.shape more (subst (IsFineShape n (length (spots_of old))) r.2 (w.fine.arrays.at i r.0 r.1));
        };
        fields = λ i e g. fine_more n (length (spots_of old)) (length (spots_of new)) e.1 more (w.fine.fields i e (ap (λ m. slice_get m.entries i) (sym h.fields) ∙ g));
        statics = λ i d g. fine_more n (length (spots_of old)) (length (spots_of new)) d more (w.fine.statics i d (ap (λ v. slice_get v.items i) (sym h.statics) ∙ g));
        locks = record { at = λ i e g. fine_more n (length (spots_of old)) (length (spots_of new)) e.0 more (w.fine.locks.at i e (ap (λ m. slice_get m.entries i) (sym h.locks) ∙ g)) };
      };
      kinds = record {
        at = λ i x e.
            let r = s.at i x (ap (λ (ss : List Spot). slice_get ss i) (sym h.heap) ∙ e) in
            subst (λ y. IsFineKind l (kind_within y)) r.2 (w.kinds.at i r.0 r.1);
      };
      placed = subst (λ es. ArePlaced (spots_of new) es) (sym h.exposed) (subst (λ (ss : List Spot). ArePlaced ss exposed) (sym h.heap) p);
      written = record { at = λ i e g. let low = w.written.at i e (ap (λ m. slice_get m.entries i) (sym h.fields) ∙ g) in omega (arith, low, more) };
      short = record {
        at = λ i x e.
            let r = s.at i x (ap (λ (ss : List Spot). slice_get ss i) (sym h.heap) ∙ e) in
            subst IsShortShape r.2 (w.short.at i r.0 r.1);
      };
      statics = ap (λ v. length v.items) h.statics ∙ w.statics;
    }

pub sound_expose : (l : Lookups) (old new : OwnWorld) (e : Exposed) → IsExposed old new (place_spot (length old.exposed.items) (spots_of old) e.number) (old.exposed.items ++ e ∷ []) → e.number < length (spots_of old) → place_at (spots_of old) e.number ≡ None → IsSound l old → IsSound l new
sound_expose l old new e h low none w =
    sound_exposed l old new (place_spot (length old.exposed.items) (spots_of old) e.number) (old.exposed.items ++ e ∷ []) h (shapes_placed (length old.exposed.items) (spots_of old) e.number) (placed_more (spots_of old) old.exposed.items e w.placed low none) w

pub sound_print : (l : Lookups) (old new : OwnWorld) (place : ℕ) → IsExposed old new (spots_of old) (print_at old.exposed.items place) → IsSound l old → IsSound l new
sound_print l old new place h w = sound_exposed l old new (spots_of old) (print_at old.exposed.items place) h (shapes_same (spots_of old)) (placed_printed (spots_of old) old.exposed.items place w.placed) w
