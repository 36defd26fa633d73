-- Whether a type stands in an interface list above a class, by walks of numbers and by the test for super calls.
use Rattle.std.proofs.Common.{◌≡◌, ℕ, suc, ◌<◌, Bool, true, false, nat_eq, List, [], ◌∷◌, length, Option, Some, None, refl, sym, ap, ◌∙◌, subst}
use Rattle.std.specs.Prelude.{◌&&◌, Contains, Decides, slice_get, option_and_then}
use Rattle.std.specs.List.{list_any}
use Rattle.std.specs.Option.{option_map}
use Rattle.lemmas.proofs.Options.{some_same}
use Rattle.program_model.specs.declared.program.Class.{Class}
use Rattle.program_model.specs.declared.program.Program.{Program}
use Rattle.program_model.specs.declared.pass.Outside.{Outside}
use Rattle.program_model.specs.Lookups.{class_place}
use Rattle.class_defs.specs.Finding.{reaches, lists_interface}
use Rattle.class_defs.proofs.Positions.{both}
use Rattle.class_defs.proofs.WellFormed.{class_parts}
use Rattle.call_graph.specs.declared.live_set.LiveSet.{LiveSet}
use Rattle.call_graph.specs.Above.{above_of, above_kinds, Climbs}
use Rattle.call_graph.specs.Supers.{interfaces_in, ListsAbove}
use Rattle.dalvik_defs.specs.Names.{Text, text_eq}
use Rattle.dalvik_defs.specs.Naming.{type_at, named_class, named}
use Rattle.dalvik_defs.specs.Under.{own_above, walks, is_own_under}
use Rattle.name_bridge.specs.Named.{class_at}
use Rattle.name_bridge.proofs.Classes.{class_by_number}
use Rattle.name_bridge.proofs.Above.{defined, own_place, under_by_number}
use Rattle.removal_law.proofs.Lists.{In, clash, in_map, and_left, and_behind}
use Rattle.removal_law.proofs.Walks.{choice, text_same}
use Rattle.removal_law.proofs.Climbs.{climb_under as walk_under}
use Rattle.removal_law.proofs.Outward.{any_here, any_where}
use Rattle.reach_bridge.specs.Names.{family_of}
use Rattle.reach.specs.Marked.{IsMarked}
use Rattle.reach_bridge.proofs.Held.{stands, at_stands, placed_at}
use Rattle.reach_bridge.proofs.Based.{S, regular}
use Rattle.reach_bridge.proofs.Mentioned.{nothing_in}
use Rattle.reach_bridge.proofs.Upward.{keeps_above}
use Rattle.reach_bridge.proofs.Climbing.{climbs}

module _ (p : Program) (o : Outside) (s : LiveSet) (g : IsMarked p o s) where
  -- ---- a climb by number is a walk by name

  above_named : (x : Option Class) (v : ℕ) → In v (above_of x) → In (type_at p v) (elim (option_map (named_class p) x) as (λ x. List Text) [ Some c ↦ c.superclass ∷ c.interfaces | None ↦ [] ])
  above_named None v i = nothing_in v i
  above_named (Some c) v i = in_map (type_at p) v (c.superclass ∷ c.interfaces) i

  above_placed : (x : Option ℕ) (v : ℕ) → In v (above_of (option_and_then (slice_get p.classes) x)) → In (type_at p v) (elim (option_and_then (class_at p) x) as (λ x. List Text) [ Some c ↦ c.superclass ∷ c.interfaces | None ↦ [] ])
  above_placed None v i = nothing_in v i
  above_placed (Some c) v i = above_named (slice_get p.classes c) v i

  step_named : (k v : ℕ) → k < length p.types → Contains (above_kinds p k) v → In (type_at p v) (own_above (named p) (type_at p k))
  step_named k v lt h = subst (λ x. In (type_at p v) (elim x as (λ x. List Text) [ Some c ↦ c.superclass ∷ c.interfaces | None ↦ [] ])) (sym (class_by_number p (S p o s g) k lt)) (above_placed (class_place p k) v (stands (above_kinds p k) v h))

  abbrev Walks : Text → Text → Type 0
  Walks t u = (n : ℕ) × (walks (own_above (named p)) n t u ≡ true)

  walk_on : (t v u : Text) → In v (own_above (named p) t) → Walks v u → Walks t u
  walk_on t v u i w = (suc w.0, by (text_eq t u))
    where
      by : (b : Bool) → choice b (list_any (λ v. walks (own_above (named p)) w.0 v u) (own_above (named p) t)) ≡ true
      by true = refl
      by false = any_here (λ v. walks (own_above (named p)) w.0 v u) v (own_above (named p) t) i w.1

  climb_named : (a b : ℕ) → Climbs p a b → Walks (type_at p a) (type_at p b)
  climb_named a b (Climbs.Itself k) = (0, text_same (type_at p k))
  climb_named a b (Climbs.Through k v top lt i more) = walk_on (type_at p k) (type_at p v) (type_at p top) (step_named k v lt i) (climb_named v top more)

  climb_under : (a b : ℕ) → Climbs p a b → is_own_under (named p) (type_at p a) (type_at p b) ≡ true
  climb_under a b c = walk_under (named p) (family_of p s) (keeps_above p o s g) (regular p o s g) (type_at p a) (type_at p b) (climb_named a b c)

  -- ---- the class with the list

  module _ (kind caller : ℕ) (hk : kind < length p.types) (own : class_place p kind ≡ Some caller) (one : ℕ) where
    abbrev lists : Class → Bool
    lists k = reaches p caller (class_place p k.name) && list_any (nat_eq one) k.interfaces

    -- the class at a place is under as its type is
    reaches_is : (i : ℕ) (k : Class) → slice_get p.classes i ≡ Some k → reaches p caller (class_place p k.name) ≡ is_own_under (named p) (type_at p kind) (type_at p k.name)
    reaches_is i k e = ap (reaches p caller) (own_place p g.once i k e)
        ∙ sym (under_by_number p (S p o s g) kind k.name caller i hk (class_parts p (S p o s g) i k e).name own (own_place p g.once i k e))

    listed_above : lists_interface p caller one ≡ true → ListsAbove p kind one
    listed_above e =
        let r = any_where lists p.classes e in
        let k = r.0 in
        let at = placed_at p.classes k r.1.0 in
        let short = (class_parts p (S p o s g) at.0 k at.1).name in
        let under = sym (reaches_is at.0 k at.1) ∙ and_left (reaches p caller (class_place p k.name)) (list_any (nat_eq one) k.interfaces) r.1.1 in
        record {
          top = k.name;
          climbs = climbs p o s g (length (named p).classes) kind k.name hk short under;
          lists = ap (λ x. list_any (nat_eq one) (interfaces_in (option_and_then (slice_get p.classes) x))) (own_place p g.once at.0 k at.1) ∙ ap (λ x. list_any (nat_eq one) (interfaces_in x)) at.1
              ∙ and_behind (reaches p caller (class_place p k.name)) (list_any (nat_eq one) k.interfaces) r.1.1;
        }

    above_listed : ListsAbove p kind one → lists_interface p caller one ≡ true
    above_listed l = by_place (class_place p l.top) refl l.lists
      where
        by_class : (i : ℕ) (x : Option Class) → class_place p l.top ≡ Some i → slice_get p.classes i ≡ x → list_any (nat_eq one) (interfaces_in x) ≡ true → lists_interface p caller one ≡ true
        by_class i None at e h = clash (list_any (nat_eq one) []) h refl
        by_class i (Some k) at e h =
            let d = defined p l.top i at in
            let same : l.top ≡ k.name = sym (ap (λ x. x.name) (some_same k d.class (sym e ∙ d.is)) ∙ d.named) in
            any_here lists k p.classes (at_stands p.classes i k e) (both (reaches p caller (class_place p k.name)) (list_any (nat_eq one) k.interfaces)
            (reaches_is i k e ∙ climb_under kind k.name (subst (Climbs p kind) same l.climbs)) h)

        by_place : (x : Option ℕ) → class_place p l.top ≡ x → list_any (nat_eq one) (interfaces_in (option_and_then (slice_get p.classes) x)) ≡ true → lists_interface p caller one ≡ true
        by_place None at h = clash (list_any (nat_eq one) []) h refl
        by_place (Some i) at h = by_class i (slice_get p.classes i) at refl h

    pub lists_decided : Decides (lists_interface p caller one) (ListsAbove p kind one)
    lists_decided = (listed_above, above_listed)
