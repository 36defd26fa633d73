-- What is walked through above a live type, in a program and in what is left of it.
use Rattle.std.proofs.Common.{◌≡◌, ℕ, zero, suc, Bool, true, false, List, [], ◌∷◌, length, refl, sym, ap, ◌∙◌, subst}
use Rattle.std.specs.Prelude.{◌&&◌, ◌||◌, not, Option, Some, None, map}
use Rattle.std.specs.List.{list_any, list_all}
use Rattle.std.specs.Option.{option_map}
use Rattle.dalvik_defs.specs.Names.{Text, text_eq, object_type}
use Rattle.dalvik_defs.specs.Under.{class_named, defines, own_above, walks, is_own_under, touches_framework, reaches_framework, is_outward}
use Rattle.dalvik_defs.specs.Find.{chain_from}
use Rattle.dalvik_defs.specs.declared.program.NamedClass.{NamedClass}
use Rattle.dalvik_defs.specs.declared.program.NamedProgram.{NamedProgram}
use Rattle.dalvik_defs.proofs.Calm.{text_sound}
use Rattle.pass_defs.specs.Live.{Family, KeepsAbove}
use Rattle.removal_law.specs.Left.{left_in, left_of}
use Rattle.removal_law.specs.Reach.{ends, IsRegular}
use Rattle.removal_law.proofs.Lists.{clash, In, here, there, any_same, all_in, contained, found_in}
use Rattle.removal_law.proofs.Walks.{choice, choice_false}
use Rattle.removal_law.proofs.Classes.{Kept, class_left, left_less}
use Rattle.removal_law.proofs.Levels.{all_same, enough_steps}

pub class_name : (p : NamedProgram) (t : Text) (c : NamedClass) → class_named p t ≡ Some c → c.name ≡ t
class_name p t c e = text_sound c.name t (found_in (λ c. text_eq c.name t) p.classes c e).passes

pub class_in : (p : NamedProgram) (t : Text) (c : NamedClass) → class_named p t ≡ Some c → In c p.classes
class_in p t c e = (found_in (λ c. text_eq c.name t) p.classes c e).is_in

abbrev is_there : Option NamedClass → Bool
is_there o = elim o as (λ o. Bool) [ Some c ↦ true | None ↦ false ]

pub defined : (p : NamedProgram) (t : Text) (c : NamedClass) → class_named p t ≡ Some c → defines p t ≡ true
defined p t c e = ap is_there e

pub undefined : (p : NamedProgram) (t : Text) → class_named p t ≡ None → defines p t ≡ false
undefined p t e = ap is_there e

pub defines_class : (p : NamedProgram) (t : Text) → defines p t ≡ true → (c : NamedClass) × (class_named p t ≡ Some c)
defines_class p t e = by (class_named p t) refl e
  where
    by : (o : Option NamedClass) → class_named p t ≡ o → is_there o ≡ true → (c : NamedClass) × (class_named p t ≡ Some c)
    by (Some c) i e = (c, i)
    by None i e = clash false e refl

pub defines_none : (p : NamedProgram) (t : Text) → defines p t ≡ false → class_named p t ≡ None
defines_none p t e = by (class_named p t) refl e
  where
    by : (o : Option NamedClass) → class_named p t ≡ o → is_there o ≡ false → class_named p t ≡ None
    by (Some c) i e = clash true refl e
    by None i e = i

module _ (p : NamedProgram) (s : Family) (above : KeepsAbove p s) where
  abbrev q : NamedProgram
  q = left_of s p

  -- ---- one step up

  there_same : (o : Option NamedClass) → is_there (option_map (left_in s) o) ≡ is_there o
  there_same None = refl
  there_same (Some c) = refl

  pub defines_same : (t : Text) → Kept s p t → defines q t ≡ defines p t
  defines_same t h = ap is_there (class_left s p t h) ∙ there_same (class_named p t)

  above_of : Option NamedClass → List Text
  above_of None = []
  above_of (Some c) = c.superclass ∷ c.interfaces

  pub class_kept : (t : Text) (c : NamedClass) → class_named p t ≡ Some c → Kept s p t → class_named q t ≡ Some (left_in s c)
  class_kept t c e h = class_left s p t h ∙ ap (option_map (left_in s)) e

  pub up_kept : (t : Text) (c : NamedClass) → class_named p t ≡ Some c → Kept s p t → (u : Text) → In u (c.superclass ∷ c.interfaces) → Kept s p u
  up_kept t c e h u i = λ d. above.above t c e (h (defined p t c e)) u (contained u (c.superclass ∷ c.interfaces) i) d

  pub own_above_some : (r : NamedProgram) (t : Text) (c : NamedClass) → class_named r t ≡ Some c → own_above r t ≡ c.superclass ∷ c.interfaces
  own_above_some r t c e = ap (λ o. elim o as (λ o. List Text) [ Some c ↦ c.superclass ∷ c.interfaces | None ↦ [] ]) e

  pub own_above_none : (r : NamedProgram) (t : Text) → class_named r t ≡ None → own_above r t ≡ []
  own_above_none r t e = ap (λ o. elim o as (λ o. List Text) [ Some c ↦ c.superclass ∷ c.interfaces | None ↦ [] ]) e

  -- a walk ends after as many steps in both
  pub ends_same : (n : ℕ) (t : Text) → Kept s p t → ends q n t ≡ ends p n t
  ends_same zero t h = ap not (defines_same t h)
  ends_same (suc n) t h = by (class_named p t) refl (λ u k. ends_same n u k)
    where
      by : (o : Option NamedClass) → class_named p t ≡ o → ((u : Text) → Kept s p u → ends q n u ≡ ends p n u) → ends q (suc n) t ≡ ends p (suc n) t
      by None e ih = ap (list_all (ends q n)) (own_above_none q t (left_less s p t (undefined p t e))) ∙ sym (ap (list_all (ends p n)) (own_above_none p t e))
      by (Some c) e ih = ap (list_all (ends q n)) (own_above_some q t (left_in s c) (class_kept t c e h))
          ∙ all_same (ends q n) (ends p n) (c.superclass ∷ c.interfaces) (λ u i. ih u (up_kept t c e h u i))
          ∙ sym (ap (list_all (ends p n)) (own_above_some p t c e))

  -- ---- all that is above a type: n steps suffice in what is left, and m in the program

  pub data Tree : ℕ → ℕ → Text → Type 0 where
    absent : (n m : ℕ) (t : Text) → class_named p t ≡ None → class_named q t ≡ None → Tree n m t
    present : (n m : ℕ) (t : Text) (c : NamedClass) → class_named p t ≡ Some c → class_named q t ≡ Some (left_in s c) → ((u : Text) → In u (c.superclass ∷ c.interfaces) → Tree n m u) → Tree (suc n) (suc m) t

  pub nothing : (t : Text) → ends p zero t ≡ true → class_named p t ≡ None
  nothing t e = by (class_named p t) refl e
    where
      by : (o : Option NamedClass) → class_named p t ≡ o → not (is_there o) ≡ true → class_named p t ≡ None
      by None i e = i
      by (Some c) i e = clash false e refl

  alone : (n m : ℕ) (t : Text) → class_named p t ≡ None → Tree n m t
  alone n m t e = absent n m t e (left_less s p t (undefined p t e))

  grow : (n m : ℕ) (t : Text) → Kept s p t → ends p n t ≡ true → ends p m t ≡ true → Tree n m t
  grow zero zero t h a b = alone zero zero t (nothing t a)
  grow zero (suc m) t h a b = alone zero (suc m) t (nothing t a)
  grow (suc n) zero t h a b = alone (suc n) zero t (nothing t b)
  grow (suc n) (suc m) t h a b = by (class_named p t) refl (λ u k x y. grow n m u k x y)
    where
      by : (o : Option NamedClass) → class_named p t ≡ o → ((u : Text) → Kept s p u → ends p n u ≡ true → ends p m u ≡ true → Tree n m u) → Tree (suc n) (suc m) t
      by None e ih = alone (suc n) (suc m) t e
      by (Some c) e ih = present n m t c e (class_kept t c e h) (λ u i. ih u (up_kept t c e h u i)
          (all_in (ends p n) (c.superclass ∷ c.interfaces) (sym (ap (list_all (ends p n)) (own_above_some p t c e)) ∙ a) u i)
          (all_in (ends p m) (c.superclass ∷ c.interfaces) (sym (ap (list_all (ends p m)) (own_above_some p t c e)) ∙ b) u i))

  pub tree : IsRegular p → (t : Text) → Kept s p t → Tree (length q.classes) (length p.classes) t
  tree regular t h =
      let g = regular.grounded t in
      grow (length q.classes) (length p.classes) t h
      (sym (ends_same (length q.classes) t h) ∙ enough_steps q t g.0 (ends_same g.0 t h ∙ g.1))
      (enough_steps p t g.0 g.1)

  pub tree_defines : (n m : ℕ) (t : Text) → Tree n m t → defines q t ≡ defines p t
  tree_defines n m t (absent k l u e i) = undefined q u i ∙ sym (undefined p u e)
  tree_defines (suc n) (suc m) t (present k l u c e i sub) = defined q u (left_in s c) i ∙ sym (defined p u c e)

  -- ---- superclasses

  chain_none : (r : NamedProgram) (n : ℕ) (t : Text) → class_named r t ≡ None → chain_from n r t ≡ []
  chain_none r zero t e = refl
  chain_none r (suc n) t e = ap (λ o. elim o as (λ o. List NamedClass) [ Some c ↦ c ∷ chain_from n r c.superclass | None ↦ [] ]) e

  chain_some : (r : NamedProgram) (n : ℕ) (t : Text) (c : NamedClass) → class_named r t ≡ Some c → chain_from (suc n) r t ≡ c ∷ chain_from n r c.superclass
  chain_some r n t c e = ap (λ o. elim o as (λ o. List NamedClass) [ Some c ↦ c ∷ chain_from n r c.superclass | None ↦ [] ]) e

  pub chain_left : (n m : ℕ) (t : Text) → Tree n m t → chain_from n q t ≡ map (left_in s) (chain_from m p t)
  chain_left n m t (absent k l u e i) = chain_none q n t i ∙ sym (ap (map (left_in s)) (chain_none p m t e))
  chain_left (suc n) (suc m) t (present k l u c e i sub) = chain_some q n t (left_in s c) i
      ∙ ap (λ cs. left_in s c ∷ cs) (chain_left n m c.superclass (sub c.superclass (here c.interfaces)))
      ∙ sym (ap (map (left_in s)) (chain_some p m t c e))

  -- each of them stands in the program under its name, and what is above it has been walked through
  pub chain_head : (m : ℕ) (t : Text) (c : NamedClass) (P : Type 0) → ((d : NamedClass) → class_named p t ≡ Some d → c ≡ d → P) → ((d : NamedClass) → class_named p t ≡ Some d → In c (chain_from m p d.superclass) → P)
      → In c (chain_from (suc m) p t) → P
  chain_head m t c P here_case there_case i = by (class_named p t) refl i
    where
      head : (d : NamedClass) → class_named p t ≡ Some d → In c (d ∷ chain_from m p d.superclass) → P
      head d e (here ds) = here_case d e refl
      head d e (there y ds j) = there_case d e j

      by : (o : Option NamedClass) → class_named p t ≡ o → In c (elim o as (λ o. List NamedClass) [ Some c ↦ c ∷ chain_from m p c.superclass | None ↦ [] ]) → P
      by None e j = elim j [ ]
      by (Some d) e j = head d e j

  pub chain_named : (m : ℕ) (t : Text) (c : NamedClass) → In c (chain_from m p t) → class_named p c.name ≡ Some c
  chain_named zero t c i = elim i [ ]
  chain_named (suc m) t c i = chain_head m t c (class_named p c.name ≡ Some c)
      (λ d e j. ap (λ x. class_named p x.name) j ∙ ap (class_named p) (class_name p t d e) ∙ e ∙ ap Some (sym j)) (λ d e j. chain_named m d.superclass c j) i

  pub chain_kept : (m : ℕ) (t : Text) (c : NamedClass) → Kept s p t → In c (chain_from m p t) → Kept s p c.name
  chain_kept zero t c h i = elim i [ ]
  chain_kept (suc m) t c h i = chain_head m t c (Kept s p c.name)
      (λ d e j. subst (Kept s p) (sym (ap (λ x. x.name) j ∙ class_name p t d e)) h) (λ d e j. chain_kept m d.superclass c (up_kept t d e h d.superclass (here d.interfaces)) j) i

  -- ---- what is under what by the program's own lists

  walks_none : (r : NamedProgram) (n : ℕ) (t u : Text) → class_named r t ≡ None → walks (own_above r) n t u ≡ text_eq t u
  walks_none r zero t u e = refl
  walks_none r (suc n) t u e = ap (λ us. choice (text_eq t u) (list_any (λ v. walks (own_above r) n v u) us)) (own_above_none r t e) ∙ choice_false (text_eq t u)

  pub walks_left : (n m : ℕ) (t u : Text) → Tree n m t → walks (own_above q) n t u ≡ walks (own_above p) m t u
  walks_left n m t u (absent k l v e i) = walks_none q n t u i ∙ sym (walks_none p m t u e)
  walks_left (suc n) (suc m) t u (present k l v c e i sub) =
      ap (λ us. choice (text_eq t u) (list_any (λ v. walks (own_above q) n v u) us)) (own_above_some q t (left_in s c) i)
      ∙ ap (choice (text_eq t u)) (any_same (λ v. walks (own_above q) n v u) (λ v. walks (own_above p) m v u) (c.superclass ∷ c.interfaces) (λ v j. walks_left n m v u (sub v j)))
      ∙ sym (ap (λ us. choice (text_eq t u) (list_any (λ v. walks (own_above p) m v u) us)) (own_above_some p t c e))

  pub own_under_left : IsRegular p → (t u : Text) → Kept s p t → is_own_under q t u ≡ is_own_under p t u
  own_under_left regular t u h = walks_left (length q.classes) (length p.classes) t u (tree regular t h)

  -- a walk from a kept type comes to kept types
  pub walk_kept : (n : ℕ) (t u : Text) → Kept s p t → walks (own_above p) n t u ≡ true → Kept s p u
  walk_kept zero t u h e = subst (Kept s p) (text_sound t u e) h
  walk_kept (suc n) t u h e = by (text_eq t u) refl e (λ v k i. walk_kept n v u k i)
    where
      up : (us : List Text) → ((v : Text) → In v us → Kept s p v) → ((v : Text) → Kept s p v → walks (own_above p) n v u ≡ true → Kept s p u)
          → list_any (λ v. walks (own_above p) n v u) us ≡ true → Kept s p u
      up [] k ih i = clash false i refl
      up (v ∷ us) k ih i = step (walks (own_above p) n v u) refl i (up us (λ x y. k x (there v us y)) ih)
        where
          step : (b : Bool) → walks (own_above p) n v u ≡ b → (b || list_any (λ v. walks (own_above p) n v u) us) ≡ true
              → (list_any (λ v. walks (own_above p) n v u) us ≡ true → Kept s p u) → Kept s p u
          step true j i rest = ih v (k v (here us)) j
          step false j i rest = rest i

      over : (o : Option NamedClass) → class_named p t ≡ o → ((v : Text) → Kept s p v → walks (own_above p) n v u ≡ true → Kept s p u)
          → list_any (λ v. walks (own_above p) n v u) (own_above p t) ≡ true → Kept s p u
      over None d ih i = clash false (sym (ap (list_any (λ v. walks (own_above p) n v u)) (own_above_none p t d)) ∙ i) refl
      over (Some c) d ih i = up (c.superclass ∷ c.interfaces) (up_kept t c d h) ih (sym (ap (list_any (λ v. walks (own_above p) n v u)) (own_above_some p t c d)) ∙ i)

      by : (b : Bool) → text_eq t u ≡ b → choice b (list_any (λ v. walks (own_above p) n v u) (own_above p t)) ≡ true
          → ((v : Text) → Kept s p v → walks (own_above p) n v u ≡ true → Kept s p u) → Kept s p u
      by true i e ih = subst (Kept s p) (text_sound t u i) h
      by false i e ih = over (class_named p t) refl ih e

  -- ---- framework ancestors

  abbrev outside : NamedProgram → Text → Bool
  outside r t = not (defines r t) && not (text_eq t object_type)

  reaches_none : (r : NamedProgram) (n : ℕ) (t : Text) → class_named r t ≡ None → reaches_framework n r t ≡ false
  reaches_none r zero t e = refl
  reaches_none r (suc n) t e = ap (λ o. elim o as (λ o. Bool) [ Some c ↦ touches_framework r c || list_any (reaches_framework n r) (c.superclass ∷ c.interfaces) | None ↦ false ]) e

  reaches_some : (r : NamedProgram) (n : ℕ) (t : Text) (c : NamedClass) → class_named r t ≡ Some c
      → reaches_framework (suc n) r t ≡ (touches_framework r c || list_any (reaches_framework n r) (c.superclass ∷ c.interfaces))
  reaches_some r n t c e = ap (λ o. elim o as (λ o. Bool) [ Some c ↦ touches_framework r c || list_any (reaches_framework n r) (c.superclass ∷ c.interfaces) | None ↦ false ]) e

  pub reaches_left : (n m : ℕ) (t : Text) → Tree n m t → reaches_framework n q t ≡ reaches_framework m p t
  reaches_left n m t (absent k l u e i) = reaches_none q n t i ∙ sym (reaches_none p m t e)
  reaches_left (suc n) (suc m) t (present k l u c e i sub) =
      reaches_some q n t (left_in s c) i
      ∙ ap (λ b. b || list_any (reaches_framework n q) (c.superclass ∷ c.interfaces))
      (any_same (outside q) (outside p) (c.superclass ∷ c.interfaces) (λ v j. ap (λ b. not b && not (text_eq v object_type)) (tree_defines n m v (sub v j))))
      ∙ ap (λ b. touches_framework p c || b) (any_same (reaches_framework n q) (reaches_framework m p) (c.superclass ∷ c.interfaces) (λ v j. reaches_left n m v (sub v j)))
      ∙ sym (reaches_some p m t c e)

  pub outward_left : IsRegular p → (t : Text) → Kept s p t → is_outward q t ≡ is_outward p t
  outward_left regular t h = reaches_left (length q.classes) (length p.classes) t (tree regular t h)
