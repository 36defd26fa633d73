-- What stands above a class by number is what stands above it by name.
use Rattle.std.proofs.Common.{◌≡◌, ℕ, zero, suc, ◌<◌, Bool, true, false, true≢false, nat_eq, List, [], ◌∷◌, ◌++◌, map, length, Option, Some, None, refl, sym, ap, ◌∙◌, inl, inr}
use Rattle.std.specs.Prelude.{◌||◌, cond, slice_get, option_and_then, flat_map}
use Rattle.std.specs.List.{list_all, list_any}
use Rattle.std.specs.Option.{option_map}
use Rattle.program_model.specs.declared.program.Class.{Class}
use Rattle.program_model.specs.declared.program.Program.{Program}
use Rattle.program_model.specs.Lookups.{class_place}
use Rattle.program_model.specs.Texts.{has_type}
use Rattle.class_defs.specs.Places.{super_place, placed, places_of, listed, interface_places, above_places, chain_from, chain_of, walks, is_under}
use Rattle.class_defs.specs.ClassGraph.{IsTwice}
use Rattle.dalvik_defs.specs.Names.{Text}
use Rattle.dalvik_defs.specs.Naming.{type_at, named_class, named}
use Rattle.dalvik_defs.specs.Under as name
use Rattle.dalvik_defs.specs.Under.{class_named, own_above, is_own_under}
use Rattle.dalvik_defs.specs.Find as find
use Rattle.dalvik_defs.specs.declared.program.NamedClass.{NamedClass}
use Rattle.name_bridge.specs.Named.{class_at, with_class, classes_at}
use Rattle.name_bridge.proofs.Tables.{and_left, and_right, below, Sound}
use Rattle.name_bridge.proofs.Lists.{same_test, both, number_test, number_of, place_entry, place_first}
use Rattle.name_bridge.proofs.Classes.{class_parts, type_test, class_by_number}

pub length_map : {A B : Type 0} (f : A → B) (xs : List A) → length (map f xs) ≡ length xs
length_map f [] = refl
length_map f (x ∷ xs) = ap suc (length_map f xs)

pub map_append : {A B : Type 0} (f : A → B) (xs ys : List A) → map f (xs ++ ys) ≡ map f xs ++ map f ys
map_append f [] ys = refl
map_append f (x ∷ xs) ys = ap (λ zs. f x ∷ zs) (map_append f xs ys)

-- a program class of a type
pub record Defined (p : Program) (kind c : ℕ) : Type 0 where
  pub class : Class
  pub is : slice_get p.classes c ≡ Some class
  pub named : class.name ≡ kind

pub defined : (p : Program) (kind c : ℕ) → class_place p kind ≡ Some c → Defined p kind c
defined p kind c e = let r = place_entry (λ k. nat_eq k.name kind) p.classes c e in record { class = r.entry; is = r.is; named = number_of r.entry.name kind r.passes }

-- where no class is defined twice, a class is that of its type
pub own_place : (p : Program) → ((class : ℕ) → IsTwice p class → ⊥) → (c : ℕ) (k : Class) → slice_get p.classes c ≡ Some k → class_place p k.name ≡ Some c
own_place p once c k e =
    let r = place_first (λ d. nat_eq d.name k.name) p.classes c k e (number_test k.name k.name refl) in
    let d = defined p k.name r.place r.is in
    elim r.first [
      | inl l ↦ absurd (once c (record { earlier = r.place; before = l; one = d.class; other = k; is_one = d.is; is_other = e; same = d.named }))
      | inr same ↦ r.is ∙ ap (λ n. Some n) same
    ]

-- ---- lists of types and the classes among them

pub places_append : (p : Program) (xs ys : List ℕ) → places_of p (xs ++ ys) ≡ places_of p xs ++ places_of p ys
places_append p [] ys = refl
places_append p (x ∷ xs) ys = step (class_place p x) (places_append p xs ys)
  where
    step : (o : Option ℕ) → places_of p (xs ++ ys) ≡ places_of p xs ++ places_of p ys → placed o (places_of p (xs ++ ys)) ≡ placed o (places_of p xs) ++ places_of p ys
    step None r = r
    step (Some c) r = ap (λ cs. c ∷ cs) r

pub all_append : (p : Program) (xs ys : List ℕ) → list_all (has_type p) xs ≡ true → list_all (has_type p) ys ≡ true → list_all (has_type p) (xs ++ ys) ≡ true
all_append p [] ys h k = k
all_append p (x ∷ xs) ys h k = both (has_type p x) (list_all (has_type p) (xs ++ ys)) (and_left (has_type p x) (list_all (has_type p) xs) h) (all_append p xs ys (and_right (has_type p x) (list_all (has_type p) xs) h) k)

-- the interface types of some classes
abbrev pub types_behind : Option Class → List ℕ → List ℕ
types_behind None ks = ks
types_behind (Some k) ks = k.interfaces ++ ks

abbrev pub types_listed : Program → List ℕ → List ℕ
types_listed p [] = []
types_listed p (c ∷ cs) = types_behind (slice_get p.classes c) (types_listed p cs)

pub names_listed : (p : Program) (cs : List ℕ) → flat_map (λ c. c.interfaces) (classes_at p cs) ≡ map (type_at p) (types_listed p cs)
names_listed p [] = refl
names_listed p (c ∷ cs) = step (names_listed p cs) (slice_get p.classes c)
  where
    step : flat_map (λ c. c.interfaces) (classes_at p cs) ≡ map (type_at p) (types_listed p cs) → (o : Option Class) → flat_map (λ c. c.interfaces) (with_class p o (classes_at p cs)) ≡ map (type_at p) (types_behind o (types_listed p cs))
    step r None = r
    step r (Some k) = ap (λ l. map (type_at p) k.interfaces ++ l) r ∙ sym (map_append (type_at p) k.interfaces (types_listed p cs))

pub places_listed : (p : Program) (cs : List ℕ) → places_of p (types_listed p cs) ≡ flat_map (interface_places p) cs
places_listed p [] = refl
places_listed p (c ∷ cs) = step (places_listed p cs) (slice_get p.classes c)
  where
    step : places_of p (types_listed p cs) ≡ flat_map (interface_places p) cs → (o : Option Class) → places_of p (types_behind o (types_listed p cs)) ≡ listed p o ++ flat_map (interface_places p) cs
    step r None = r
    step r (Some k) = places_append p k.interfaces (types_listed p cs) ∙ ap (λ l. places_of p k.interfaces ++ l) r

module _ (p : Program) (s : Sound p) where
  pub types_fit_listed : (cs : List ℕ) → list_all (has_type p) (types_listed p cs) ≡ true
  types_fit_listed [] = refl
  types_fit_listed (c ∷ cs) = step (types_fit_listed cs) (slice_get p.classes c) refl
    where
      step : list_all (has_type p) (types_listed p cs) ≡ true → (o : Option Class) → slice_get p.classes c ≡ o → list_all (has_type p) (types_behind o (types_listed p cs)) ≡ true
      step r None e = r
      step r (Some k) e = all_append p k.interfaces (types_listed p cs) (class_parts p s c k e).interfaces r

  -- ---- chains

  chain_none : (n : ℕ) → chain_from (super_place p) n None ≡ []
  chain_none zero = refl
  chain_none (suc n) = refl

  chain_steps : (n k : ℕ) → k < length p.types → find.chain_from n (named p) (type_at p k) ≡ classes_at p (chain_from (super_place p) n (class_place p k))
  chain_steps zero k h = refl
  chain_steps (suc n) k h = ap (λ o. elim o as (λ o. List NamedClass) [ Some c ↦ c ∷ find.chain_from n (named p) c.superclass | None ↦ [] ]) (class_by_number p s k h) ∙ by_place (chain_steps n) (class_place p k)
    where
      at_class : ((j : ℕ) → j < length p.types → find.chain_from n (named p) (type_at p j) ≡ classes_at p (chain_from (super_place p) n (class_place p j))) → (c : ℕ) (o : Option Class) → slice_get p.classes c ≡ o
          → elim (option_map (named_class p) o) as (λ o. List NamedClass) [ Some c ↦ c ∷ find.chain_from n (named p) c.superclass | None ↦ [] ] ≡ with_class p o (classes_at p (chain_from (super_place p) n (option_and_then (λ d. class_place p d.superclass) o)))
      at_class more c None e = sym (ap (classes_at p) (chain_none n))
      at_class more c (Some d) e = ap (λ l. named_class p d ∷ l) (more d.superclass (class_parts p s c d e).superclass)

      by_place : ((j : ℕ) → j < length p.types → find.chain_from n (named p) (type_at p j) ≡ classes_at p (chain_from (super_place p) n (class_place p j))) → (o : Option ℕ) → elim (option_and_then (class_at p) o) as (λ o. List NamedClass) [ Some c ↦ c ∷ find.chain_from n (named p) c.superclass | None ↦ [] ] ≡ classes_at p (chain_from (super_place p) (suc n) o)
      by_place more None = refl
      by_place more (Some c) = at_class more c (slice_get p.classes c) refl

  -- a class and its superclasses
  pub chain_by_number : (k : ℕ) → k < length p.types → find.chain_of (named p) (type_at p k) ≡ classes_at p (chain_of p (class_place p k))
  chain_by_number k h = ap (λ n. find.chain_from n (named p) (type_at p k)) (length_map (named_class p) p.classes) ∙ chain_steps (length p.classes) k h

  -- ---- walks

  -- a walk from the class of a type, if it has one
  abbrev pub reach_from : ℕ → ℕ → Option ℕ → Bool
  reach_from n d None = false
  reach_from n d (Some c) = walks (above_places p) n c d

  same_class : (u b d : ℕ) (o : Option ℕ) → class_place p u ≡ o → class_place p b ≡ Some d → nat_eq u b ≡ reach_from zero d o
  same_class u b d None e f = same_test (nat_eq u b) false (λ h. let x : None ≡ Some d = sym e ∙ ap (class_place p) (number_of u b h) ∙ f in cc) (λ h. absurd (true≢false (sym h)))
  same_class u b d (Some c) e f = same_test (nat_eq u b) (nat_eq c d)
      (λ h. let x : Some c ≡ Some d = sym e ∙ ap (class_place p) (number_of u b h) ∙ f in number_test c d cc)
      (λ h. let x = defined p u c e in let y = defined p b d f in
      let z : Some x.class ≡ Some y.class = sym x.is ∙ ap (slice_get p.classes) (number_of c d h) ∙ y.is in
      let w : x.class ≡ y.class = cc in
      number_test u b (sym x.named ∙ ap (λ k. k.name) w ∙ y.named))

  among : (n d : ℕ) (ks : List ℕ) → list_any (λ k. reach_from n d (class_place p k)) ks ≡ list_any (λ u. walks (above_places p) n u d) (places_of p ks)
  among n d [] = refl
  among n d (k ∷ ks) = step (among n d ks) (class_place p k)
    where
      step : list_any (λ k. reach_from n d (class_place p k)) ks ≡ list_any (λ u. walks (above_places p) n u d) (places_of p ks) → (o : Option ℕ) → (reach_from n d o || list_any (λ k. reach_from n d (class_place p k)) ks) ≡ list_any (λ u. walks (above_places p) n u d) (placed o (places_of p ks))
      step r None = r
      step r (Some c) = ap (λ x. walks (above_places p) n c d || x) r

  -- a walk from each type of the program
  abbrev Steps : ℕ → ℕ → ℕ → Type 0
  Steps n b d = (u : ℕ) → u < length p.types → name.walks (own_above (named p)) n (type_at p u) (type_at p b) ≡ reach_from n d (class_place p u)

  any_steps : (n b d : ℕ) → Steps n b d → (ks : List ℕ) → list_all (has_type p) ks ≡ true
      → list_any (λ t. name.walks (own_above (named p)) n t (type_at p b)) (map (type_at p) ks) ≡ list_any (λ k. reach_from n d (class_place p k)) ks
  any_steps n b d more [] h = refl
  any_steps n b d more (k ∷ ks) h =
      ap (λ x. x || list_any (λ t. name.walks (own_above (named p)) n t (type_at p b)) (map (type_at p) ks)) (more k (below k (length p.types) (and_left (has_type p k) (list_all (has_type p) ks) h)))
      ∙ ap (λ x. reach_from n d (class_place p k) || x) (any_steps n b d more ks (and_right (has_type p k) (list_all (has_type p) ks) h))

  abbrev types_above : Option NamedClass → List Text
  types_above None = []
  types_above (Some c) = c.superclass ∷ c.interfaces

  own_above_is : (o : Option NamedClass) → elim o as (λ o. List Text) [ Some c ↦ c.superclass ∷ c.interfaces | None ↦ [] ] ≡ types_above o
  own_above_is None = refl
  own_above_is (Some c) = refl

  above_class : (n b d : ℕ) → Steps n b d → (c : ℕ) (o : Option Class) → slice_get p.classes c ≡ o
      → list_any (λ t. name.walks (own_above (named p)) n t (type_at p b)) (types_above (option_map (named_class p) o))
      ≡ list_any (λ u. walks (above_places p) n u d) (placed (option_and_then (λ k. class_place p k.superclass) o) (listed p o))
  above_class n b d more c None e = refl
  above_class n b d more c (Some k) e = ap (λ x. x || list_any (λ t. name.walks (own_above (named p)) n t (type_at p b)) (map (type_at p) k.interfaces)) (more k.superclass (class_parts p s c k e).superclass)
      ∙ ap (λ x. reach_from n d (class_place p k.superclass) || x) (any_steps n b d more k.interfaces (class_parts p s c k e).interfaces)
      ∙ among n d (k.superclass ∷ k.interfaces)

  above_type : (n b d u : ℕ) → Steps n b d → u < length p.types → (o : Option ℕ) → class_place p u ≡ o → (x : Bool) → reach_from zero d o ≡ x
      → elim x as (λ x. Bool) [ true ↦ true | false ↦ list_any (λ t. name.walks (own_above (named p)) n t (type_at p b)) (own_above (named p) (type_at p u)) ] ≡ reach_from (suc n) d o
  above_type n b d u more hu None e true f = absurd (true≢false (sym f))
  above_type n b d u more hu None e false f = ap (list_any (λ t. name.walks (own_above (named p)) n t (type_at p b))) (own_above_is (class_named (named p) (type_at p u)) ∙ ap types_above (class_by_number p s u hu ∙ ap (option_and_then (class_at p)) e))
  above_type n b d u more hu (Some c) e true f = ap (λ x. cond x true (list_any (λ u. walks (above_places p) n u d) (above_places p c))) (sym f)
  above_type n b d u more hu (Some c) e false f =
      ap (list_any (λ t. name.walks (own_above (named p)) n t (type_at p b))) (own_above_is (class_named (named p) (type_at p u)) ∙ ap types_above (class_by_number p s u hu ∙ ap (option_and_then (class_at p)) e))
      ∙ above_class n b d more c (slice_get p.classes c) refl
      ∙ ap (λ x. cond x true (list_any (λ u. walks (above_places p) n u d) (above_places p c))) (sym f)

  walk_steps : (n b d : ℕ) → b < length p.types → class_place p b ≡ Some d → Steps n b d
  walk_steps zero b d hb f u hu = type_test p s u b hu hb ∙ same_class u b d (class_place p u) refl f
  walk_steps (suc n) b d hb f u hu =
      ap (λ x. elim x as (λ x. Bool) [ true ↦ true | false ↦ list_any (λ t. name.walks (own_above (named p)) n t (type_at p b)) (own_above (named p) (type_at p u)) ]) (type_test p s u b hu hb ∙ same_class u b d (class_place p u) refl f)
      ∙ above_type n b d u (walk_steps n b d hb f) hu (class_place p u) refl (reach_from zero d (class_place p u)) refl

  -- whether a program class is under another, by their types
  pub under_by_number : (u b c d : ℕ) → u < length p.types → b < length p.types → class_place p u ≡ Some c → class_place p b ≡ Some d
      → is_own_under (named p) (type_at p u) (type_at p b) ≡ is_under p c d
  under_by_number u b c d hu hb e f =
      ap (λ n. name.walks (own_above (named p)) n (type_at p u) (type_at p b)) (length_map (named_class p) p.classes)
      ∙ walk_steps (length p.classes) b d hb f u hu
      ∙ ap (reach_from (length p.classes) d) e
