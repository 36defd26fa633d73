-- What calls find at receivers, by numbers and by names, and the types of values.
use Rattle.std.proofs.Common.{◌≡◌, ℕ, zero, suc, ◌+◌, ◌<◌, ◌≤◌, Bool, true, false, true≢false, List, [], ◌∷◌, ◌++◌, length, map, min, replicate, arith, ap, refl, sym, subst, ◌∙◌}
use Rattle.std.specs.Prelude.{Option, Some, None, position, slice_get}
use Rattle.std.specs.Option.{option_map}
use Rattle.class_defs.proofs.Positions.{entry_at}
use Rattle.class_defs.proofs.WellFormed.{class_parts, sound}
use Rattle.program_model.specs.declared.pools.MethodName.{MethodName}
use Rattle.program_model.specs.declared.program.Class.{Class}
use Rattle.program_model.specs.declared.program.Program.{Program}
use Rattle.name_bridge.specs.Named.{finds}
use Rattle.class_defs.specs.Finding.{finds_super}
use Rattle.dalvik_defs.specs.Find as name
use Rattle.dalvik_defs.specs.Names.{Text, array_of, class_type, string_type, text_eq}
use Rattle.dalvik_defs.specs.Naming.{method_at, type_at}
use Rattle.dalvik_defs.specs.State.{Thing, World as NamedWorld, kind_of, kind_of_thing}
use Rattle.dalvik_defs.specs.declared.state.Value.{Value}
use Rattle.dalvik_lookups.specs.Facing.{named_search, run_face}
use Rattle.dalvik_lookups.specs.Tables.{place_named, IsRight}
use Rattle.dalvik_lookups.specs.Views.{name_at, type_text, AreTypes, IsKind}
use Rattle.dalvik_lookups.specs.Walks.{found_of, search_by}
use Rattle.dalvik_lookups.specs.declared.finds.Search.{Search}
use Rattle.dalvik_lookups.specs.declared.finds.Search.TheVariants as find
use Rattle.dalvik_lookups.specs.declared.lookups.Lookups.{Lookups}
use Rattle.dalvik_lookups.specs.declared.types.Kind.{Kind}
use Rattle.dalvik_lookups.proofs.Calls.{class_there}
use Rattle.dalvik_lookups.proofs.Descriptors.{known_at}
use Rattle.dalvik_lookups.proofs.Facing.{right_face}
use Rattle.dalvik_lookups.proofs.Interned.{text_sound}
use Rattle.dalvik_state.specs.declared.datum.Datum.{Datum}
use Rattle.dalvik_state.specs.declared.datum.Datum.TheVariants as datum
use Rattle.dalvik_state.specs.declared.gifts.Gifts.{Gifts}
use Rattle.dalvik_state.specs.declared.world.World.{World}
use Rattle.dalvik_state.specs.Drafts.{gift_spots, given_things, given_world, give_all, kind_text}
use Rattle.dalvik_state.specs.States.{class_text, kind_within, AreKinds, IsFineKind, IsSound}
use Rattle.dalvik_state.specs.Views.{names_in, thing_of, value_of, world_of, Names}
use Rattle.dalvik_state.specs.Worlds.{kind_in, kind_of_shape, new_spot, spots_of, Plain, Array, Shape, Spot}
use Rattle.dalvik_steps.proofs.Depths.{never_empty}
use Rattle.dalvik_state.proofs.Things.{thing_named}

-- ---- no objects of a move

nothing_more : (spots : List Spot) → spots ++ [] ≡ spots
nothing_more [] = refl
nothing_more (s ∷ ss) = ap (λ (xs : List Spot). s ∷ xs) (nothing_more ss)

pub none_given : (n : Names) (w : World) (g : Gifts) → g.things.items ≡ [] → given_world n w g ≡ world_of n w
none_given n w g e = ap (λ ts. give_all (world_of n w) (given_things n ts)) e

pub none_spots : (w : World) (g : Gifts) → g.things.items ≡ [] → gift_spots w g ≡ spots_of w
none_spots w g e = ap (λ ts. spots_of w ++ map new_spot ts) e ∙ nothing_more (spots_of w)

-- ---- the types of values

kind_deep : (l : Lookups) (k : Kind) → IsFineKind l k → array_of (type_text l.types k) ≡ type_text l.types (record { depth = min (k.depth + 1) 18446744073709551615; base = k.base })
kind_deep l k f =
    let low = f.deep in
    let e : suc k.depth ≡ min (k.depth + 1) 18446744073709551615 = omega (arith, low) in
    ap (λ (d : ℕ). replicate d 91 ++ name_at l.types k.base) e

thing_kind : (l : Lookups) (fields : List ((ℕ × ℕ) × Datum)) (k : ℕ) (s : Shape) → IsFineKind l (kind_within s) → kind_of_thing (thing_of (names_in l) fields k s) ≡ type_text l.types (kind_of_shape s)
thing_kind l fields k (Plain kind) f = refl
thing_kind l fields k (Array kind items) f = kind_deep l kind f

abbrev kind_by : Option Thing → Text
kind_by o = elim o as (λ o. Text) [ Some t ↦ kind_of_thing t | None ↦ [] ]

spot_kind : (l : Lookups) (fields : List ((ℕ × ℕ) × Datum)) (k x : ℕ) (spots : List Spot) → AreKinds l spots → (o : Option Spot) → slice_get spots x ≡ o
    → kind_by (option_map (λ (s : Spot). thing_of (names_in l) fields k s.shape) o) ≡ kind_text l (option_map (λ (s : Spot). kind_of_shape s.shape) o)
spot_kind l fields k x spots h None e = refl
spot_kind l fields k x spots h (Some s) e = thing_kind l fields k s.shape (h.at x s e)

pub kind_named : (l : Lookups) (w : World) (d : Datum) → AreTypes l.types → AreKinds l (spots_of w) → kind_of (world_of (names_in l) w) (value_of (names_in l) d) ≡ kind_text l (kind_in (spots_of w) d)
kind_named l w (datum.Object x) a h = ap kind_by (thing_named (names_in l) w.fields.entries 0 (spots_of w) x) ∙ spot_kind l w.fields.entries (0 + x) x (spots_of w) h (slice_get (spots_of w) x) refl
kind_named l w (datum.Literal x) a h = sym (known_at l.types a 1 string_type refl)
kind_named l w (datum.Class x) a h = sym (known_at l.types a 2 class_type refl)
kind_named l w (datum.Word x) a h = refl
kind_named l w (datum.Low x) a h = refl
kind_named l w (datum.High x) a h = refl

-- ---- what calls find

no_class_empty : (l : Lookups) → IsRight l → (o : Option ℕ) → place_named l.program.now [] ≡ o → o ≡ None
no_class_empty l r None e = refl
no_class_empty l r (Some c) e =
    let p = l.program.now in
    let k = class_there p [] c e in
    absurd (never_empty p (sound p r.well) k.entry.name (class_parts p (sound p r.well) c k.entry k.is).name (text_sound (type_at p k.entry.name) [] k.passes))

-- at no object
pub virtually_none : (l : Lookups) → IsRight l → (w : World) (d : Datum) (m : ℕ) → IsSound l w → m < length l.program.now.methods → kind_in (spots_of w) d ≡ None
    → named_search l.program.now find.Nothing ≡ (run_face l).virtually (kind_of (world_of (names_in l) w) (value_of (names_in l) d)) (method_at l.program.now m)
virtually_none l r w d m s low e =
    let q = entry_at l.program.now.methods m low in
    sym (ap (λ (t : Text). (run_face l).virtually t (method_at l.program.now m)) (kind_named l w d r.tabled.named.types s.kinds ∙ ap (kind_text l) e)
    ∙ (right_face l r).virtually [] m q.0 q.1
    ∙ ap (λ (o : Option ℕ). named_search l.program.now (found_of l o q.0)) (no_class_empty l r (place_named l.program.now []) refl))

pub virtually_some : (l : Lookups) → IsRight l → (w : World) (d : Datum) (k : Kind) (m : ℕ) (found : Search) → IsSound l w → m < length l.program.now.methods → kind_in (spots_of w) d ≡ Some k
    → ((q : MethodName) → slice_get l.program.now.methods m ≡ Some q → found ≡ found_of l (place_named l.program.now (type_text l.types k)) q)
    → named_search l.program.now found ≡ (run_face l).virtually (kind_of (world_of (names_in l) w) (value_of (names_in l) d)) (method_at l.program.now m)
virtually_some l r w d k m found s low e h =
    let q = entry_at l.program.now.methods m low in
    ap (named_search l.program.now) (h q.0 q.1)
    ∙ sym (ap (λ (t : Text). (run_face l).virtually t (method_at l.program.now m)) (kind_named l w d r.tabled.named.types s.kinds ∙ ap (kind_text l) e)
    ∙ (right_face l r).virtually (type_text l.types k) m q.0 q.1)

pub super_named : (l : Lookups) → IsRight l → (c m : ℕ) (found : Search) → c < length l.program.now.classes → m < length l.program.now.methods → found ≡ search_by (finds_super l.program.now c m)
    → named_search l.program.now found ≡ (run_face l).above (class_text l.program.now c) (method_at l.program.now m)
super_named l r c m found lc lm e =
    let k = entry_at l.program.now.classes c lc in
    ap (named_search l.program.now) e
    ∙ sym (ap (λ (t : Text). (run_face l).above t (method_at l.program.now m)) (ap (λ o. elim o as (λ o. Text) [ Some d ↦ type_at l.program.now d.name | None ↦ [] ]) k.1)
    ∙ (right_face l r).above c m k.0 k.1 lm)
