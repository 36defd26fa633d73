-- What an object of a class finds by the program's own lists it finds in every framework, and by the method's own name too.
use Rattle.std.proofs.Common.{◌≡◌, ℕ, zero, suc, ◌≤◌, Bool, true, false, true≢false, List, [], ◌∷◌, Option, Some, None, refl, sym, ap, ap₂, ◌∙◌, subst, arith}
use Rattle.std.specs.Prelude.{◌&&◌, ◌||◌, not, length, flat_map, is_some}
use Rattle.std.specs.List.{list_any}
use Rattle.dalvik_defs.proofs.Same.{or_more}
use Rattle.dalvik_defs.specs.Names.{Text, text_eq, is_array, is_reference, is_class_type, object_type}
use Rattle.dalvik_defs.specs.Face.{finds_virtually}
use Rattle.dalvik_defs.specs.Find.{Found, Search, Nothing, Finds, finds_at, first_method, is_virtual_method, finds_among, chain_of}
use Rattle.dalvik_defs.specs.Under.{class_named, defines, own_above, above_in, directly_above, walks, walk_bound, class_under, under_types, is_under, is_own_under}
use Rattle.dalvik_defs.specs.declared.names.MethodKey.{MethodKey}
use Rattle.dalvik_defs.specs.declared.names.Signature.{Signature}
use Rattle.dalvik_defs.specs.declared.program.NamedClass.{NamedClass}
use Rattle.dalvik_defs.specs.declared.program.NamedProgram.{NamedProgram}
use Rattle.dalvik_defs.specs.declared.tables.Framework.{Framework}
use Rattle.pass_defs.specs.Live.{KeepsAbove, everything}
use Rattle.removal_law.specs.Reach.{IsRegular}
use Rattle.removal_law.proofs.Climbs.{climb_under, answer_climbs}
use Rattle.removal_law.proofs.Searches.{nothing_finds, at_in}
use Rattle.run_laws.proofs.Settled.{IsFound}
use Rattle.run_laws.proofs.Sorts.{class_alone}
use Rattle.rebind_law.specs.Receivers.{finds_listed}

clash : {A : Type 0} → true ≡ false → A
clash e = absurd (true≢false e)

any_more : (f g : Text → Bool) → ((x : Text) → f x ≡ true → g x ≡ true) → (xs : List Text) → list_any f xs ≡ true → list_any g xs ≡ true
any_more f g h [] e = e
any_more f g h (x ∷ xs) e = or_more (f x) (list_any f xs) (g x) (list_any g xs) (h x) (any_more f g h xs) e

-- ---- under by the program's own lists

module _ (p : NamedProgram) (f : Framework) where
  above_more : (s : Text) (test other : Text → Bool) → ((x : Text) → test x ≡ true → other x ≡ true) → list_any test (own_above p s) ≡ true → list_any other (directly_above p f s) ≡ true
  above_more s test other h e = by (class_named p s) refl e
    where
      by : (o : Option NamedClass) → class_named p s ≡ o → list_any test (elim o as (λ o. List Text) [ Some c ↦ c.superclass ∷ c.interfaces | None ↦ [] ]) ≡ true → list_any other (directly_above p f s) ≡ true
      by (Some c) i j = subst (λ o. list_any other (above_in p f s o) ≡ true) (sym i) (any_more test other h (c.superclass ∷ c.interfaces) j)
      by None i j = clash (sym j)

  walks_more : (n m : ℕ) (s u : Text) → n ≤ m → walks (own_above p) n s u ≡ true → walks (directly_above p f) m s u ≡ true
  walks_more zero zero s u l e = e
  walks_more zero (suc m) s u l e = ap (λ b. elim b as (λ b. Bool) [ true ↦ true | false ↦ list_any (λ x. walks (directly_above p f) m x u) (directly_above p f s) ]) e
  walks_more (suc n) zero s u l e = absurd (omega (arith, l))
  walks_more (suc n) (suc m) s u l e = by (text_eq s u) e (λ x i. walks_more n m x u (omega (arith, l)) i)
    where
      by : (b : Bool) → (elim b as (λ b. Bool) [ true ↦ true | false ↦ list_any (λ x. walks (own_above p) n x u) (own_above p s) ]) ≡ true → ((x : Text) → walks (own_above p) n x u ≡ true → walks (directly_above p f) m x u ≡ true)
          → (elim b as (λ b. Bool) [ true ↦ true | false ↦ list_any (λ x. walks (directly_above p f) m x u) (directly_above p f s) ]) ≡ true
      by true i more = refl
      by false i more = above_more s (λ x. walks (own_above p) n x u) (λ x. walks (directly_above p f) m x u) more i

  -- of types that are no arrays the walks decide
  by_walks : (s t : Text) → is_class_type s ≡ true → is_class_type t ≡ true → is_under p f s t ≡ class_under p f s t
  by_walks [] t i j = clash (sym i)
  by_walks (u ∷ s) [] i j = clash (sym j)
  by_walks (u ∷ s) (v ∷ t) i j = by (is_array (u ∷ s)) (is_array (v ∷ t)) (class_alone (u ∷ s) i).1 (class_alone (v ∷ t) j).1
    where
      by : (a b : Bool) → a ≡ false → b ≡ false → (elim a as (λ a. Bool) [
        | false ↦ not b && class_under p f (u ∷ s) (v ∷ t)
        | true ↦ text_eq (u ∷ s) (v ∷ t) || text_eq (v ∷ t) object_type || (b && is_reference s && is_reference t && under_types (class_under p f) s t)
      ]) ≡ class_under p f (u ∷ s) (v ∷ t)
      by true b x y = clash x
      by false true x y = clash y
      by false false x y = refl

  pub listed_under : (s t : Text) → is_class_type s ≡ true → is_class_type t ≡ true → is_own_under p s t ≡ true → is_under p f s t ≡ true
  listed_under s t i j e = by_walks s t i j ∙ walks_more (length p.classes) (walk_bound p f) s t (omega arith) e

-- ---- what is found

pub listed_both : (p : NamedProgram) (t : Text) (k : MethodKey) (g : Found) → finds_listed p t k ≡ Finds g → (is_own_under p t k.class ≡ true) × (finds_at p t k ≡ Finds g)
listed_both p t k g e = by (is_own_under p t k.class) refl e
  where
    by : (b : Bool) → is_own_under p t k.class ≡ b → (elim b as (λ b. Search) [ true ↦ finds_at p t k | false ↦ Nothing ]) ≡ Finds g → (is_own_under p t k.class ≡ true) × (finds_at p t k ≡ Finds g)
    by true i j = (i, j)
    by false i j = nothing_finds g j

pub listed_virtually : (p : NamedProgram) (f : Framework) → ((t : Text) → defines p t ≡ true → is_class_type t ≡ true) → (t : Text) (k : MethodKey) (g : Found) → defines p t ≡ true → is_class_type k.class ≡ true → finds_listed p t k ≡ Finds g
    → finds_virtually p f t k ≡ Finds g
listed_virtually p f types t k g d c e = let b = listed_both p t k g e in
    ap₂ (λ x y. elim (x && y) as (λ b. Search) [ true ↦ finds_at p t k | false ↦ Nothing ]) (there (class_named p t) d) (listed_under p f t k.class (types t d) c b.0) ∙ b.1
  where
    there : (o : Option NamedClass) → (elim o as (λ o. Bool) [ Some c ↦ true | None ↦ false ]) ≡ true → is_some o ≡ true
    there (Some c) i = refl
    there None i = i

-- ---- by the name of the method that is found

module _ (p : NamedProgram) (regular : IsRegular p) where
  all_above : KeepsAbove p everything
  all_above = record {
    above = λ t c e h u i d. refl;
    initialisers = λ t k h e. refl;
    defaults = λ t c m v e h i j k l. refl;
  }

  abbrev found_by : Text → Text → Signature → Search
  found_by t n s = elim (first_method is_virtual_method n s (chain_of p t)) as (λ o. Search) [ Some x ↦ Finds x | None ↦ finds_among p (flat_map (λ c. c.interfaces) (chain_of p t)) n s ]

  -- a method that an object finds by some name it finds by the method's own
  pub found_itself : (t : Text) (k : MethodKey) (g : Found) → IsFound p k g → finds_listed p t k ≡ Finds g → finds_listed p t g.key ≡ Finds g
  found_itself t k g is e =
      let b = listed_both p t k g e in
      let up : is_own_under p t g.key.class ≡ true = climb_under p everything all_above regular t g.key.class (answer_climbs p everything all_above regular k.name k.signature t g (at_in p everything all_above regular t k g b.1)) in
      let name : g.key.name ≡ k.name = ap (λ x. x.key.name) is.is ∙ is.name in
      let signature : g.key.signature ≡ k.signature = ap (λ x. x.key.signature) is.is ∙ is.signature in
      ap (λ b. elim b as (λ b. Search) [ true ↦ finds_at p t g.key | false ↦ Nothing ]) up ∙ (ap₂ (found_by t) name signature ∙ b.1)
