-- A class that by name stands under a type that the program doesn't define has one above it that lists the type, by number.
use Rattle.std.proofs.Common.{◌≡◌, ◌⊎◌, inl, inr, ℕ, zero, suc, ◌+◌, ◌<◌, Bool, true, false, true≢false, nat_eq, List, [], ◌∷◌, length, map, Option, Some, None, refl, sym, ap, ◌∙◌, subst, arith, lt-ltb}
use Rattle.std.specs.Prelude.{◌&&◌, ◌||◌, slice_get, if◌then◌else◌}
use Rattle.std.specs.List.{list_all, list_any, range_with_len}
use Rattle.std.specs.Option.{option_and_then}
use Rattle.lemmas.proofs.Bools.{and_both, clash, or_left, or_right}
use Rattle.lemmas.proofs.Lists.{all_at, got_short}
use Rattle.lemmas.proofs.Options.{none_some, some_same}
use Rattle.program_model.specs.Lookups.{class_place}
use Rattle.program_model.specs.ProgramRules.{is_well_formed}
use Rattle.program_model.specs.Texts.{has_type}
use Rattle.program_model.specs.declared.program.Class.{Class}
use Rattle.program_model.specs.declared.program.Program.{Program}
use Rattle.class_defs.specs.ClassGraph.{IsAncestor, IsTwice}
use Rattle.class_defs.specs.Places.{above_places, is_under, walks}
use Rattle.class_defs.proofs.Positions.{number_test}
use Rattle.class_defs.proofs.WellFormed.{Sound, below, class_parts, sound}
use Rattle.dalvik_defs.proofs.Calm.{text_sound}
use Rattle.dalvik_defs.specs.Names.{Text, text_eq}
use Rattle.dalvik_defs.specs.Naming.{named, named_class, type_at}
use Rattle.dalvik_defs.specs.Under.{class_named, is_own_under, own_above}
use Rattle.dalvik_defs.specs.Under as name
use Rattle.dalvik_defs.specs.declared.program.NamedClass.{NamedClass}
use Rattle.dalvik_defs.specs.declared.program.NamedProgram.{NamedProgram}
use Rattle.name_bridge.specs.Named.{class_at}
use Rattle.name_bridge.proofs.Above.{Defined, defined, own_place, under_by_number}
use Rattle.name_bridge.proofs.Classes.{class_by_number}
use Rattle.name_bridge.proofs.Tables.{type_once}
use Rattle.pass_defs.specs.Live.{KeepsAbove, everything}
use Rattle.removal_law.specs.Reach as reach
use Rattle.removal_law.proofs.Climbs.{climb_under}
use Rattle.removal_law.proofs.Lists.{In, here, there}
use Rattle.removal_law.proofs.Outward.{any_here, any_where}
use Rattle.removal_law.proofs.Walks.{text_same}
use Rattle.removal_bridge.proofs.Formed as upright
use Rattle.removal_bridge.proofs.Members.{class_known}
use Rattle.receivers.specs.Receiving.{lists, lists_above}

-- ---- places

pub in_range : (n a i : ℕ) → i < n → In (a + i) (range_with_len a n)
in_range zero a i h = absurd (omega (arith, h))
in_range (suc n) a zero h = subst (λ k. In k (a ∷ range_with_len (a + 1) n)) (let z : a ≡ a + 0 = omega arith in z) (here (range_with_len (a + 1) n))
in_range (suc n) a (suc i) h = there a (range_with_len (a + 1) n) (subst (λ k. In k (range_with_len (a + 1) n)) (let z : (a + 1) + i ≡ a + suc i = omega arith in z) (in_range n (a + 1) i (omega (arith, h))))

-- the place of a class is one of all places
pub in_places : (p : Program) (i : ℕ) (d : Class) → slice_get p.classes i ≡ Some d → In i (range_with_len 0 (length p.classes))
in_places p i d e = subst (λ k. In k (range_with_len 0 (length p.classes))) (let z : 0 + i ≡ i = omega arith in z) (in_range (length p.classes) 0 i (got_short p.classes i d e))

-- a class stands under itself
pub itself_under : (p : Program) (c : ℕ) → is_under p c c ≡ true
itself_under p c = by (length p.classes) (number_test c c refl)
  where
    by : (n : ℕ) → nat_eq c c ≡ true → walks (above_places p) n c c ≡ true
    by zero e = e
    by (suc n) e = ap (λ b. if b then true else list_any (λ u. walks (above_places p) n u c) (above_places p c)) e

-- ---- walks that go on by one step

walk_first : (p : NamedProgram) (m : ℕ) (t x v : Text) → In x (own_above p t) → name.walks (own_above p) m x v ≡ true → name.walks (own_above p) (suc m) t v ≡ true
walk_first p m t x v j a = by (text_eq t v)
  where
    by : (b : Bool) → (elim b as (λ b. Bool) [ true ↦ true | false ↦ list_any (λ x. name.walks (own_above p) m x v) (own_above p t) ]) ≡ true
    by true = refl
    by false = any_here (λ x. name.walks (own_above p) m x v) x (own_above p t) j a

walk_on : (p : NamedProgram) (n : ℕ) (t u v : Text) → name.walks (own_above p) n t u ≡ true → In v (own_above p u) → (m : ℕ) × (name.walks (own_above p) m t v ≡ true)
walk_on p zero t u v e i = (1, walk_first p 0 t v v (subst (λ x. In v (own_above p x)) (sym (text_sound t u e)) i) (text_same v))
walk_on p (suc n) t u v e i = by (text_eq t u) refl e (λ x a. walk_on p n x u v a i)
  where
    by : (b : Bool) → text_eq t u ≡ b → (elim b as (λ b. Bool) [ true ↦ true | false ↦ list_any (λ x. name.walks (own_above p) n x u) (own_above p t) ]) ≡ true
        → ((x : Text) → name.walks (own_above p) n x u ≡ true → (m : ℕ) × (name.walks (own_above p) m x v ≡ true)) → (m : ℕ) × (name.walks (own_above p) m t v ≡ true)
    by true j a more = (1, walk_first p 0 t v v (subst (λ x. In v (own_above p x)) (sym (text_sound t u j)) i) (text_same v))
    by false j a more = let r = any_where (λ x. name.walks (own_above p) n x u) (own_above p t) a in let m = more r.0 r.1.1 in (suc m.0, walk_first p m.0 t r.0 v r.1.0 m.1)

all_above : (p : NamedProgram) → KeepsAbove p everything
all_above p = record { above = λ t c e h u i d. refl; initialisers = λ t k h e. refl; defaults = λ t c m v e h i j k l. refl }

module _ (p : Program) (w : is_well_formed p ≡ true) (once : (class : ℕ) → IsTwice p class → ⊥) (ancestor : (class : ℕ) → IsAncestor p class class → ⊥) where
  s : Sound p
  s = sound p w

  r : reach.IsRegular (named p)
  r = upright.regular_program p w once ancestor

  -- under goes on by one step
  pub under_on : (t u v : Text) → is_own_under (named p) t u ≡ true → In v (own_above (named p) u) → is_own_under (named p) t v ≡ true
  under_on t u v e i = climb_under (named p) everything (all_above (named p)) r t v (walk_on (named p) (length (named p).classes) t u v e i)

  pub class_short : (j : ℕ) (d : Class) → slice_get p.classes j ≡ Some d → d.name < length p.types
  class_short j d e = (class_parts p s j d e).name

  pub under_named : (j k : ℕ) (d g : Class) → slice_get p.classes j ≡ Some d → slice_get p.classes k ≡ Some g → is_own_under (named p) (type_at p d.name) (type_at p g.name) ≡ is_under p j k
  under_named j k d g e f = under_by_number p s d.name g.name j k (class_short j d e) (class_short k g f) (own_place p once j d e) (own_place p once k g f)

  -- the types directly above a class, by name
  pub above_named : (j : ℕ) (d : Class) → slice_get p.classes j ≡ Some d → own_above (named p) (type_at p d.name) ≡ map (type_at p) (d.superclass ∷ d.interfaces)
  above_named j d e = ap (λ o. elim o as (λ o. List Text) [ Some c ↦ c.superclass ∷ c.interfaces | None ↦ [] ]) (class_known p s once j d e)

  -- one of some types
  pub record OfTypes (ks : List ℕ) (t : Text) : Type 0 where
    pub kind : ℕ
    pub is_in : In kind ks
    pub is : type_at p kind ≡ t

  pub of_types : (ks : List ℕ) (t : Text) → In t (map (type_at p) ks) → OfTypes ks t
  of_types [] t i = elim i [ ]
  of_types (k ∷ ks) t (here ts) = record { kind = k; is_in = here ks; is = refl }
  of_types (k ∷ ks) t (there u ts i) = let x = of_types ks t i in record { kind = x.kind; is_in = there k ks x.is_in; is = x.is }

  pub above_short : (j : ℕ) (d : Class) (k : ℕ) → slice_get p.classes j ≡ Some d → In k (d.superclass ∷ d.interfaces) → k < length p.types
  above_short j d k e i = by (d.superclass ∷ d.interfaces) i (and_both (has_type p d.superclass) (list_all (has_type p) d.interfaces) (lt-ltb d.superclass (length p.types) (class_parts p s j d e).superclass) (class_parts p s j d e).interfaces)
    where
      by : (ks : List ℕ) → In k ks → list_all (has_type p) ks ≡ true → k < length p.types
      by [] i h = elim i [ ]
      by (y ∷ ks) (here zs) h = below k (length p.types) (all_at (has_type p) (k ∷ zs) 0 k h refl)
      by (y ∷ ks) (there z zs i) h = by zs i (rest (has_type p z) (list_all (has_type p) zs) h)
        where
          rest : (a b : Bool) → (a && b) ≡ true → b ≡ true
          rest true b e = e
          rest false b e = clash false e refl

  -- ---- a type that isn't the program's

  module _ (kind : ℕ) (short : kind < length p.types) (none : class_place p kind ≡ None) (low : ℕ) (start : Class) (is_start : slice_get p.classes low ≡ Some start) where
    pub record Lists : Type 0 where
      pub place : ℕ
      pub class : Class
      pub is_class : slice_get p.classes place ≡ Some class
      pub under : is_under p low place ≡ true
      pub lists_it : lists (Some class) kind ≡ true

    not_class : {A : Type 0} (j : ℕ) (d : Class) → slice_get p.classes j ≡ Some d → text_eq (type_at p d.name) (type_at p kind) ≡ true → A
    not_class j d e h = none_some j (sym none ∙ (ap (class_place p) (sym (type_once p s d.name kind (class_short j d e) short (text_sound (type_at p d.name) (type_at p kind) h))) ∙ own_place p once j d e))

    lists_in : (j : ℕ) (d : Class) → slice_get p.classes j ≡ Some d → is_own_under (named p) (type_at p start.name) (type_at p d.name) ≡ true → In kind (d.superclass ∷ d.interfaces) → Lists
    lists_in j d e u i = record { place = j; class = d; is_class = e; under = sym (under_named low j start d is_start e) ∙ u; lists_it = any (d.superclass ∷ d.interfaces) i }
      where
        any : (ks : List ℕ) → In kind ks → list_any (λ k. nat_eq k kind) ks ≡ true
        any ks i = any_here (λ k. nat_eq k kind) kind ks i (number_test kind kind refl)

    walk_lists : (n j : ℕ) (d : Class) → slice_get p.classes j ≡ Some d → is_own_under (named p) (type_at p start.name) (type_at p d.name) ≡ true
        → name.walks (own_above (named p)) n (type_at p d.name) (type_at p kind) ≡ true → Lists
    walk_lists zero j d e u h = not_class j d e h
    walk_lists (suc n) j d e u h = by (text_eq (type_at p d.name) (type_at p kind)) refl h (λ i c f v a. walk_lists n i c f v a)
      where
        by : (b : Bool) → text_eq (type_at p d.name) (type_at p kind) ≡ b
            → (elim b as (λ b. Bool) [ true ↦ true | false ↦ list_any (λ v. name.walks (own_above (named p)) n v (type_at p kind)) (own_above (named p) (type_at p d.name)) ]) ≡ true
            → ((i : ℕ) (c : Class) → slice_get p.classes i ≡ Some c → is_own_under (named p) (type_at p start.name) (type_at p c.name) ≡ true → name.walks (own_above (named p)) n (type_at p c.name) (type_at p kind) ≡ true → Lists) → Lists
        by true i a more = not_class j d e i
        by false i a more = next (class_place p v.kind) refl
          where
            x : (v : Text) × (In v (own_above (named p) (type_at p d.name)) × (name.walks (own_above (named p)) n v (type_at p kind) ≡ true))
            x = any_where (λ v. name.walks (own_above (named p)) n v (type_at p kind)) (own_above (named p) (type_at p d.name)) a

            v : OfTypes (d.superclass ∷ d.interfaces) x.0
            v = of_types (d.superclass ∷ d.interfaces) x.0 (subst (In x.0) (above_named j d e) x.1.0)

            walk : name.walks (own_above (named p)) n (type_at p v.kind) (type_at p kind) ≡ true
            walk = subst (λ t. name.walks (own_above (named p)) n t (type_at p kind) ≡ true) (sym v.is) x.1.1

            on : is_own_under (named p) (type_at p start.name) (type_at p v.kind) ≡ true
            on = under_on (type_at p start.name) (type_at p d.name) (type_at p v.kind) u (subst (λ t. In t (own_above (named p) (type_at p d.name))) (sym v.is) x.1.0)

            outer : class_named (named p) (type_at p v.kind) ≡ None → (m : ℕ) → name.walks (own_above (named p)) m (type_at p v.kind) (type_at p kind) ≡ true → text_eq (type_at p v.kind) (type_at p kind) ≡ true
            outer g zero a = a
            outer g (suc m) a = at (text_eq (type_at p v.kind) (type_at p kind)) refl a
              where
                at : (b : Bool) → text_eq (type_at p v.kind) (type_at p kind) ≡ b
                    → (elim b as (λ b. Bool) [ true ↦ true | false ↦ list_any (λ u. name.walks (own_above (named p)) m u (type_at p kind)) (own_above (named p) (type_at p v.kind)) ]) ≡ true → text_eq (type_at p v.kind) (type_at p kind) ≡ true
                at true k a = k
                at false k a = clash false (sym (ap (λ o. list_any (λ u. name.walks (own_above (named p)) m u (type_at p kind)) (elim o as (λ o. List Text) [ Some c ↦ c.superclass ∷ c.interfaces | None ↦ [] ])) g) ∙ a) refl

            next : (o : Option ℕ) → class_place p v.kind ≡ o → Lists
            next (Some i) g = let c : Defined p v.kind i = defined p v.kind i g in
                more i c.class c.is (subst (λ k. is_own_under (named p) (type_at p start.name) (type_at p k) ≡ true) (sym c.named) on)
                (subst (λ k. name.walks (own_above (named p)) n (type_at p k) (type_at p kind) ≡ true) (sym c.named) walk)
            next None g =
                let undefined : class_named (named p) (type_at p v.kind) ≡ None = class_by_number p s v.kind (above_short j d v.kind e v.is_in) ∙ ap (option_and_then (class_at p)) g in
                lists_in j d e u (subst (λ k. In k (d.superclass ∷ d.interfaces)) (type_once p s v.kind kind (above_short j d v.kind e v.is_in) short (text_sound (type_at p v.kind) (type_at p kind) (outer undefined n walk))) v.is_in)

    pub under_lists : is_own_under (named p) (type_at p start.name) (type_at p kind) ≡ true → lists_above p low kind ≡ true
    under_lists h =
        let x = walk_lists (length (named p).classes) low start is_start (under_named low low start start is_start is_start ∙ itself_under p low) h in
        any_here (λ d. is_under p low d && lists (slice_get p.classes d) kind) x.place (range_with_len 0 (length p.classes)) (in_places p x.place x.class x.is_class)
        (and_both (is_under p low x.place) (lists (slice_get p.classes x.place) kind) x.under (ap (λ o. lists o kind) x.is_class ∙ x.lists_it))
