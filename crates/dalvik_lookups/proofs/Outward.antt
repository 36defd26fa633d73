-- A class stands under the framework by number just where it does by name.
use Rattle.std.proofs.Common.{◌≡◌, ℕ, zero, suc, ◌+◌, ◌<◌, Bool, true, false, true≢false, List, [], ◌∷◌, map, take, get_or, length, Option, Some, None, refl, sym, ap, subst, ◌∙◌, arith}
use Rattle.std.specs.Prelude.{◌&&◌, ◌||◌, not, is_some, slice_get, option_and_then}
use Rattle.std.specs.List.{list_any, list_all}
use Rattle.std.specs.Option.{option_map}
use Rattle.program_model.specs.declared.program.Class.{Class}
use Rattle.program_model.specs.declared.program.Program.{Program}
use Rattle.program_model.specs.Lookups.{class_place}
use Rattle.program_model.specs.Texts.{has_type}
use Rattle.class_defs.specs.ClassGraph.{IsTwice}
use Rattle.class_defs.specs.Places.{placed, places_of, listed}
use Rattle.dalvik_defs.specs.Names.{Text, text_eq, object_type}
use Rattle.dalvik_defs.specs.Naming.{type_at, named_class, named}
use Rattle.dalvik_defs.specs.Under as name
use Rattle.dalvik_defs.specs.Under.{class_named, defines, touches_framework}
use Rattle.dalvik_defs.specs.declared.program.NamedClass.{NamedClass}
use Rattle.name_bridge.specs.Named.{class_at}
use Rattle.name_bridge.proofs.Tables.{and_left, and_right, all_at, below, Sound}
use Rattle.name_bridge.proofs.Lists.{find_place, find_named}
use Rattle.name_bridge.proofs.Classes.{class_parts, class_by_number}
use Rattle.name_bridge.proofs.Above.{length_map, own_place}
use Rattle.dalvik_lookups.specs.Tables.{place_named}
use Rattle.dalvik_lookups.specs.Reached.{is_framework_type, touches, touches_at, reaches_framework}
use Rattle.dalvik_lookups.proofs.Calls.{class_there}

pub defines_place : (p : Program) (t : Text) → defines (named p) t ≡ is_some (place_named p t)
defines_place p t =
    ap (λ o. elim o as (λ o. Bool) [ Some c ↦ true | None ↦ false ])
    (find_named (λ c. text_eq c.name t) (λ c. text_eq (type_at p c.name) t) (named_class p) p.classes (λ i c e. refl) ∙ ap (option_map (named_class p)) (find_place (λ c. text_eq (type_at p c.name) t) p.classes))
    ∙ by_place (place_named p t) refl
  where
    by_place : (o : Option ℕ) → place_named p t ≡ o → elim (option_map (named_class p) (option_and_then (slice_get p.classes) o)) as (λ o. Bool) [ Some c ↦ true | None ↦ false ] ≡ is_some o
    by_place None e = refl
    by_place (Some c) e = ap (λ o. elim (option_map (named_class p) o) as (λ o. Bool) [ Some c ↦ true | None ↦ false ]) (class_there p t c e).is

-- a type that the program defines, and one that it doesn't
pub defined_type : (p : Program) (t u : Text) (o : Option ℕ) (c : ℕ) → o ≡ place_named p u → u ≡ t → o ≡ Some c → false ≡ is_framework_type (named p) t
defined_type p t u o c e f g = sym (ap (λ b. not b && not (text_eq t object_type)) (defines_place p t ∙ ap is_some (sym (ap (place_named p) f) ∙ sym e ∙ g)))

pub outside_type : (p : Program) (t u : Text) (o : Option ℕ) (b : Bool) → o ≡ place_named p u → u ≡ t → o ≡ None → b ≡ text_eq u object_type → not b ≡ is_framework_type (named p) t
outside_type p t u o b e f g h =
    ap not (h ∙ ap (λ x. text_eq x object_type) f) ∙ sym (ap (λ b. not b && not (text_eq t object_type)) (defines_place p t ∙ ap is_some (sym (ap (place_named p) f) ∙ sym e ∙ g)))

-- ---- tests along a list

got : {X : Type 0} (xs : List X) (i : ℕ) (d : X) → i < length xs → slice_get xs i ≡ Some (get_or xs i d)
got [] i d lt = absurd (omega (arith, lt))
got (x ∷ xs) zero d lt = refl
got (x ∷ xs) (suc i) d lt = got xs i d (omega (arith, lt))

pub all_here : (p : Program) (ks : List ℕ) (i : ℕ) → i < length ks → list_all (has_type p) ks ≡ true → get_or ks i 0 < length p.types
all_here p ks i lt h = below (get_or ks i 0) (length p.types) (all_at (has_type p) ks i (get_or ks i 0) h (got ks i 0 lt))

pub any_here : (f : ℕ → Text) (t : Text → Bool) (xs : List ℕ) (i : ℕ) → i < length xs → t (f (get_or xs i 0)) ≡ true → true ≡ list_any t (map f xs)
any_here f t [] i lt e = absurd (omega (arith, lt))
any_here f t (x ∷ xs) zero lt e = sym (ap (λ b. b || list_any t (map f xs)) e)
any_here f t (x ∷ xs) (suc i) lt e = full (t (f x)) (list_any t (map f xs)) (any_here f t xs i (omega (arith, lt)) e)
  where
    full : (a b : Bool) → true ≡ b → true ≡ (a || b)
    full true b g = refl
    full false b g = g

pub any_before : (f : ℕ → Text) (t : Text → Bool) (xs : List ℕ) (i : ℕ) → i < length xs → list_any t (map f (take i xs)) ≡ false → t (f (get_or xs i 0)) ≡ false → list_any t (map f (take (i + 1) xs)) ≡ false
any_before f t [] i lt h e = absurd (omega (arith, lt))
any_before f t (x ∷ xs) zero lt h e = ap (λ b. b || false) e
any_before f t (x ∷ xs) (suc i) lt h e =
    let n : suc i + 1 ≡ suc (i + 1) = omega arith in
    subst (λ k. list_any t (map f (take k (x ∷ xs))) ≡ false) (sym n) (by_test (λ k. any_before f t xs i (omega (arith, lt)) k e) (t (f x)) refl h)
  where
    by_test : (list_any t (map f (take i xs)) ≡ false → list_any t (map f (take (i + 1) xs)) ≡ false) → (b : Bool) → t (f x) ≡ b → (b || list_any t (map f (take i xs))) ≡ false → (t (f x) || list_any t (map f (take (i + 1) xs))) ≡ false
    by_test more true g k = absurd (true≢false k)
    by_test more false g k = ap (λ b. b || list_any t (map f (take (i + 1) xs))) g ∙ more k

-- what stands directly above a class
pub touch_first : (p : Program) (c : ℕ) (k : Class) (b : Bool) → slice_get p.classes c ≡ Some k → b ≡ is_framework_type (named p) (type_at p k.superclass) → b ≡ true → b ≡ touches_at p c
touch_first p c k b e g f = f ∙ sym (ap (touches p) e ∙ ap (λ x. x || list_any (is_framework_type (named p)) (map (type_at p) k.interfaces)) (sym g ∙ f))

pub touch_rest : (p : Program) (c : ℕ) (k : Class) (b x : Bool) → slice_get p.classes c ≡ Some k → b ≡ is_framework_type (named p) (type_at p k.superclass) → b ≡ false → x ≡ list_any (is_framework_type (named p)) (map (type_at p) k.interfaces) → x ≡ touches_at p c
touch_rest p c k b x e g f h = h ∙ sym (ap (touches p) e ∙ ap (λ y. y || list_any (is_framework_type (named p)) (map (type_at p) k.interfaces)) (sym g ∙ f))

abbrev reach_of : ℕ → Program → Option ℕ → Bool
reach_of n p None = false
reach_of n p (Some c) = reaches_framework n p c

abbrev from_class : ℕ → Program → Option NamedClass → Bool
from_class n p o = elim o [ Some c ↦ touches_framework (named p) c || list_any (name.reaches_framework n (named p)) (c.superclass ∷ c.interfaces) | None ↦ false ]

module _ (p : Program) (s : Sound p) where
  abbrev Reach : ℕ → Type 0
  Reach n = (k : ℕ) → k < length p.types → name.reaches_framework n (named p) (type_at p k) ≡ reach_of n p (class_place p k)

  any_steps : (n : ℕ) → Reach n → (ks : List ℕ) → list_all (has_type p) ks ≡ true → list_any (name.reaches_framework n (named p)) (map (type_at p) ks) ≡ list_any (reaches_framework n p) (places_of p ks)
  any_steps n more [] h = refl
  any_steps n more (k ∷ ks) h =
      ap (λ x. x || list_any (name.reaches_framework n (named p)) (map (type_at p) ks)) (more k (below k (length p.types) (and_left (has_type p k) (list_all (has_type p) ks) h)))
      ∙ ap (λ x. reach_of n p (class_place p k) || x) (any_steps n more ks (and_right (has_type p k) (list_all (has_type p) ks) h))
      ∙ joined (class_place p k)
    where
      joined : (o : Option ℕ) → (reach_of n p o || list_any (reaches_framework n p) (places_of p ks)) ≡ list_any (reaches_framework n p) (placed o (places_of p ks))
      joined None = refl
      joined (Some c) = refl

  by_class : (n : ℕ) → Reach n → (c : ℕ) (o : Option Class) → slice_get p.classes c ≡ o
      → from_class n p (option_map (named_class p) o) ≡ (touches p o || list_any (reaches_framework n p) (placed (option_and_then (λ k. class_place p k.superclass) o) (listed p o)))
  by_class n more c None e = refl
  by_class n more c (Some k) e =
      let f = class_parts p s c k e in
      ap (λ x. touches p (Some k) || (x || list_any (name.reaches_framework n (named p)) (map (type_at p) k.interfaces))) (more k.superclass f.superclass)
      ∙ ap (λ x. touches p (Some k) || (reach_of n p (class_place p k.superclass) || x)) (any_steps n more k.interfaces f.interfaces)
      ∙ ap (λ x. touches p (Some k) || x) (joined (class_place p k.superclass))
    where
      joined : (o : Option ℕ) → (reach_of n p o || list_any (reaches_framework n p) (places_of p k.interfaces)) ≡ list_any (reaches_framework n p) (placed o (places_of p k.interfaces))
      joined None = refl
      joined (Some c) = refl

  reach_steps : (n : ℕ) → Reach n
  reach_steps zero k h = nothing (class_place p k)
    where
      nothing : (o : Option ℕ) → false ≡ reach_of zero p o
      nothing None = refl
      nothing (Some c) = refl
  reach_steps (suc n) k h = ap (from_class n p) (class_by_number p s k h) ∙ by_place (reach_steps n) (class_place p k)
    where
      by_place : Reach n → (o : Option ℕ) → from_class n p (option_and_then (class_at p) o) ≡ reach_of (suc n) p o
      by_place more None = refl
      by_place more (Some c) = by_class n more c (slice_get p.classes c) refl

  pub outward_by_number : ((class : ℕ) → IsTwice p class → ⊥) → (i : ℕ) (c : Class) → slice_get p.classes i ≡ Some c → name.is_outward (named p) (type_at p c.name) ≡ reaches_framework (length p.classes) p i
  outward_by_number once i c e =
      ap (λ n. name.reaches_framework n (named p) (type_at p c.name)) (length_map (named_class p) p.classes)
      ∙ reach_steps (length p.classes) c.name (class_parts p s i c e).name
      ∙ ap (reach_of (length p.classes) p) (own_place p once i c e)
