-- The nearest common superclass by number is that by name.
use Rattle.std.proofs.Common.{◌≡◌, ℕ, zero, suc, ◌<◌, Bool, true, false, nat_eq, List, [], ◌∷◌, length, Option, Some, None, refl, sym, ap, ◌∙◌}
use Rattle.std.specs.Prelude.{◌||◌, cond, slice_get, find, option_and_then}
use Rattle.std.specs.List.{list_any}
use Rattle.std.specs.Option.{option_map}
use Rattle.program_model.specs.declared.program.Class.{Class}
use Rattle.program_model.specs.declared.program.Program.{Program}
use Rattle.program_model.specs.Lookups.{class_place}
use Rattle.class_defs.specs.ClassGraph.{IsTwice}
use Rattle.class_defs.specs.Places.{super_place, chain_from, chain_of}
use Rattle.class_defs.specs.Nearest.{nearest_place}
use Rattle.dalvik_defs.specs.Names.{Text, text_eq}
use Rattle.dalvik_defs.specs.Naming.{type_at, named_class, named}
use Rattle.dalvik_defs.specs.Find as name
use Rattle.dalvik_defs.specs.declared.program.NamedClass.{NamedClass}
use Rattle.name_bridge.specs.Named.{with_class, classes_at, name_at}
use Rattle.name_bridge.proofs.Tables.{Sound}
use Rattle.name_bridge.proofs.Lists.{same_test, number_test, number_of}
use Rattle.name_bridge.proofs.Classes.{class_parts, type_test}
use Rattle.name_bridge.proofs.Above.{Defined, defined, own_place, chain_by_number}

-- each of these places has a class
pub record HasClass (p : Program) (c : ℕ) : Type 0 where
  pub class : Class
  pub is : slice_get p.classes c ≡ Some class

abbrev pub Each : Program → List ℕ → Type 0
Each p [] = Unit {0}
Each p (c ∷ cs) = HasClass p c × Each p cs

has_class : (p : Program) (kind c : ℕ) → class_place p kind ≡ Some c → HasClass p c
has_class p kind c e = let d = defined p kind c e in record { class = d.class; is = d.is }

super_has : (p : Program) (c u : ℕ) → super_place p c ≡ Some u → HasClass p u
super_has p c u e = by_class (slice_get p.classes c) e
  where
    by_class : (o : Option Class) → option_and_then (λ k. class_place p k.superclass) o ≡ Some u → HasClass p u
    by_class None e = cc
    by_class (Some k) e = has_class p k.superclass u e

each_chain : (p : Program) (n : ℕ) (o : Option ℕ) → ((c : ℕ) → o ≡ Some c → HasClass p c) → Each p (chain_from (super_place p) n o)
each_chain p zero o h = tt
each_chain p (suc n) None h = tt
each_chain p (suc n) (Some c) h = (h c refl, each_chain p n (super_place p c) (super_has p c))

module _ (p : Program) (s : Sound p) (once : (class : ℕ) → IsTwice p class → ⊥) where
  same_class : (c d : ℕ) (x : HasClass p c) (y : HasClass p d) → text_eq (type_at p x.class.name) (type_at p y.class.name) ≡ nat_eq c d
  same_class c d x y =
      type_test p s x.class.name y.class.name (class_parts p s c x.class x.is).name (class_parts p s d y.class y.is).name
      ∙ same_test (nat_eq x.class.name y.class.name) (nat_eq c d)
      (λ h. let e : Some c ≡ Some d = sym (own_place p once c x.class x.is) ∙ ap (class_place p) (number_of _ _ h) ∙ own_place p once d y.class y.is in number_test c d cc)
      (λ h. let e : Some x.class ≡ Some y.class = sym x.is ∙ ap (slice_get p.classes) (number_of _ _ h) ∙ y.is in let w : x.class ≡ y.class = cc in number_test x.class.name y.class.name (ap (λ k. k.name) w))

  any_class : (c : ℕ) (x : HasClass p c) (ds : List ℕ) → Each p ds → list_any (λ d. text_eq (type_at p x.class.name) d.name) (classes_at p ds) ≡ list_any (nat_eq c) ds
  any_class c x [] h = refl
  any_class c x (d ∷ ds) h =
      ap (λ o. list_any (λ d. text_eq (type_at p x.class.name) d.name) (with_class p o (classes_at p ds))) h.0.is
      ∙ ap (λ b. b || list_any (λ d. text_eq (type_at p x.class.name) d.name) (classes_at p ds)) (same_class c d x h.0)
      ∙ ap (λ b. nat_eq c d || b) (any_class c x ds h.1)

  first_common : (cs ds : List ℕ) → Each p cs → Each p ds
      → option_map (λ c. c.name) (find (λ c. list_any (λ d. text_eq c.name d.name) (classes_at p ds)) (classes_at p cs)) ≡ option_and_then (name_at p) (find (λ c. list_any (nat_eq c) ds) cs)
  first_common [] ds h k = refl
  first_common (c ∷ cs) ds h k =
      ap (λ o. option_map (λ c. c.name) (find (λ c. list_any (λ d. text_eq c.name d.name) (classes_at p ds)) (with_class p o (classes_at p cs)))) h.0.is
      ∙ ap (λ b. option_map (λ c. c.name) (cond b (Some (named_class p h.0.class)) (find (λ c. list_any (λ d. text_eq c.name d.name) (classes_at p ds)) (classes_at p cs)))) (any_class c h.0 ds k)
      ∙ by_test (list_any (nat_eq c) ds) (first_common cs ds h.1 k)
    where
      by_test : (b : Bool) → option_map (λ c. c.name) (find (λ c. list_any (λ d. text_eq c.name d.name) (classes_at p ds)) (classes_at p cs)) ≡ option_and_then (name_at p) (find (λ c. list_any (nat_eq c) ds) cs)
          → option_map (λ c. c.name) (cond b (Some (named_class p h.0.class)) (find (λ c. list_any (λ d. text_eq c.name d.name) (classes_at p ds)) (classes_at p cs)))
          ≡ option_and_then (name_at p) (cond b (Some c) (find (λ c. list_any (nat_eq c) ds) cs))
      by_test true r = sym (ap (option_map (λ k. type_at p k.name)) h.0.is)
      by_test false r = r

  -- the nearest common program superclass of the classes of two types
  pub nearest_by_number : (t u : ℕ) → t < length p.types → u < length p.types
      → option_map (λ c. c.name) (find (λ c. list_any (λ d. text_eq c.name d.name) (name.chain_of (named p) (type_at p u))) (name.chain_of (named p) (type_at p t)))
      ≡ option_and_then (name_at p) (nearest_place p (class_place p t) (class_place p u))
  nearest_by_number t u ht hu =
      ap (λ cs. option_map (λ c. c.name) (find (λ c. list_any (λ d. text_eq c.name d.name) (name.chain_of (named p) (type_at p u))) cs)) (chain_by_number p s t ht)
      ∙ ap (λ ds. option_map (λ c. c.name) (find (λ c. list_any (λ d. text_eq c.name d.name) ds) (classes_at p (chain_of p (class_place p t))))) (chain_by_number p s u hu)
      ∙ first_common (chain_of p (class_place p t)) (chain_of p (class_place p u)) (each_chain p (length p.classes) (class_place p t) (λ c e. has_class p t c e)) (each_chain p (length p.classes) (class_place p u) (λ c e. has_class p u c e))
