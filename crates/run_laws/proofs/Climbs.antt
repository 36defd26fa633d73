-- Which types stand above which: along a class's line and chain, and what no plain class stands above.
use Rattle.std.proofs.Common.{◌≡◌, ℕ, zero, suc, ◌+◌, ◌<◌, Bool, true, false, true≢false, List, [], ◌∷◌, ◌++◌, Option, Some, None, ◌⊎◌, inl, inr, refl, sym, ap, ◌∙◌, subst, arith}
use Rattle.std.specs.Prelude.{◌&&◌, ◌||◌, not, nat_eq, length, map, find, if◌then◌else◌, Contains}
use Rattle.std.specs.List.{list_any}
use Rattle.std.specs.Option.{option_map}
use Rattle.std.proofs.lemmas.Bool.{eq-eqb}
use Rattle.dalvik_defs.proofs.Calm.{text_sound}
use Rattle.dalvik_defs.specs.Names.{Text, text_eq, is_array, is_reference, is_class_type, object_type}
use Rattle.dalvik_defs.specs.Flags.{is_interface}
use Rattle.dalvik_defs.specs.Known.{known_rows}
use Rattle.dalvik_defs.specs.Under.{class_named, defines, row_named, outer_type, above_row, above_in, directly_above, walks, walk_bound, class_under, under_types, is_under}
use Rattle.dalvik_defs.specs.Find.{chain_from}
use Rattle.dalvik_defs.specs.declared.program.NamedClass.{NamedClass}
use Rattle.dalvik_defs.specs.declared.program.NamedProgram.{NamedProgram}
use Rattle.dalvik_defs.specs.declared.tables.Framework.{Framework}
use Rattle.dalvik_defs.specs.declared.tables.FrameworkType.{FrameworkType}
use Rattle.pass_defs.specs.Kinds.{is_plain, line_from, line_of, nearest}
use Rattle.run_laws.specs.Holds.{Each}
use Rattle.run_laws.proofs.Settled.{IsSettled}
use Rattle.run_laws.proofs.Transitive.{under_transitive}
use Rattle.run_laws.proofs.Sorts.{class_alone}

pub none_some : {A B : Type 0} (x : A) → None ≡ Some x → B
none_some x e = absurd (true≢false (ap (λ o. elim o as (λ o. Bool) [ Some z ↦ false | None ↦ true ]) e))

pub some_one : {A : Type 0} (x y : A) → Some x ≡ Some y → x ≡ y
some_one x y e = ap (λ o. elim o [ Some z ↦ z | None ↦ x ]) e

pub text_same : (t : Text) → text_eq t t ≡ true
text_same [] = refl
text_same (u ∷ us) = by (nat_eq u u) (eq-eqb u u refl) (text_same us)
  where
    by : (b : Bool) → b ≡ true → text_eq us us ≡ true → (b && text_eq us us) ≡ true
    by true e more = more
    by false e more = absurd (true≢false (sym e))

pub found_each : {A : Type 0} (P : A → Type 0) (test : A → Bool) (xs : List A) (x : A) → Each P xs → find test xs ≡ Some x → P x
found_each P test [] x h e = none_some x e
found_each P test (y ∷ ys) x h e = by (test y) e (λ i. found_each P test ys x h.1 i)
  where
    by : (b : Bool) → (if b then Some y else find test ys) ≡ Some x → (find test ys ≡ Some x → P x) → P x
    by true i more = subst P (some_one y x i) h.0
    by false i more = more i

pub found_passes : {A : Type 0} (test : A → Bool) (xs : List A) (x : A) → find test xs ≡ Some x → test x ≡ true
found_passes test [] x e = none_some x e
found_passes test (y ∷ ys) x e = by (test y) refl e (λ i. found_passes test ys x i)
  where
    by : (b : Bool) → test y ≡ b → (if b then Some y else find test ys) ≡ Some x → (find test ys ≡ Some x → test x ≡ true) → test x ≡ true
    by true j i more = subst (λ z. test z ≡ true) (some_one y x i) j
    by false j i more = more i

pub found_in_list : {A : Type 0} (test : A → Bool) (xs : List A) (x : A) → find test xs ≡ Some x → Contains xs x
found_in_list test [] x e = none_some x e
found_in_list test (y ∷ ys) x e = by (test y) e (λ i. found_in_list test ys x i)
  where
    by : (b : Bool) → (if b then Some y else find test ys) ≡ Some x → (find test ys ≡ Some x → Contains ys x) → Contains (y ∷ ys) x
    by true i more = (0, omega arith, some_one y x i)
    by false i more = let h = more i in (suc h.0, omega (arith, h.1), h.2)

pub or_cases : (a b : Bool) → (a || b) ≡ true → (a ≡ true) ⊎ (b ≡ true)
or_cases true b e = inl refl
or_cases false b e = inr e

nowhere : (t : Text) → Contains [] t → ⊥
nowhere t h = let lt : h.0 < length {A = Text} [] = h.1 in omega arith

module _ (p : NamedProgram) where
  pub name_of : (t : Text) (c : NamedClass) → class_named p t ≡ Some c → c.name ≡ t
  name_of t c e = text_sound c.name t (found_passes (λ c. text_eq c.name t) p.classes c e)

  pub class_in : (t : Text) (c : NamedClass) → class_named p t ≡ Some c → Contains p.classes c
  class_in t c e = found_in_list (λ c. text_eq c.name t) p.classes c e

  pub defined_by : (t : Text) (o : Option NamedClass) → class_named p t ≡ o → defines p t ≡ (elim o [ Some c ↦ true | None ↦ false ])
  defined_by t o e = ap (λ o. elim o as (λ o. Bool) [ Some c ↦ true | None ↦ false ]) e

  pub plain_by : (t : Text) (o : Option NamedClass) → class_named p t ≡ o → is_plain p t ≡ (elim o [ Some c ↦ not (is_interface c.flags) | None ↦ false ])
  plain_by t o e = ap (λ o. elim o as (λ o. Bool) [ Some c ↦ not (is_interface c.flags) | None ↦ false ]) e

  pub plain_defined : (t : Text) → is_plain p t ≡ true → defines p t ≡ true
  plain_defined t e = by (class_named p t) e
    where
      by : (o : Option NamedClass) → (elim o as (λ o. Bool) [ Some c ↦ not (is_interface c.flags) | None ↦ false ]) ≡ true → (elim o as (λ o. Bool) [ Some c ↦ true | None ↦ false ]) ≡ true
      by (Some c) i = refl
      by None i = i

module _ (p : NamedProgram) (f : Framework) (reg : IsSettled p) where
  abbrev under : Text → Text → Bool
  under = is_under p f

  abbrev pub Up : Text → Text → Type 0
  Up t u = (z : Text) → under z t ≡ true → under z u ≡ true

  defined_class : (t : Text) → defines p t ≡ true → is_array t ≡ false
  defined_class t e = (class_alone t (reg.regular.class_types t e)).1

  -- of types that are no arrays the walks decide
  by_walks : (s t : Text) → is_class_type s ≡ true → is_class_type t ≡ true → under s t ≡ class_under p f s t
  by_walks [] t i j = absurd (true≢false (sym i))
  by_walks (u ∷ s) [] i j = absurd (true≢false (sym j))
  by_walks (u ∷ s) (v ∷ t) i j = by (is_array (u ∷ s)) (is_array (v ∷ t)) (class_alone (u ∷ s) i).1 (class_alone (v ∷ t) j).1
    where
      by : (a b : Bool) → a ≡ false → b ≡ false → (elim a as (λ a. Bool) [
        | false ↦ not b && class_under p f (u ∷ s) (v ∷ t)
        | true ↦ text_eq (u ∷ s) (v ∷ t) || text_eq (v ∷ t) object_type || (b && is_reference s && is_reference t && under_types (class_under p f) s t)
      ]) ≡ class_under p f (u ∷ s) (v ∷ t)
      by true b x y = absurd (true≢false x)
      by false true x y = absurd (true≢false y)
      by false false x y = refl

  walks_self : (n : ℕ) (t : Text) → walks (directly_above p f) n t t ≡ true
  walks_self zero t = text_same t
  walks_self (suc n) t = ap (λ b. elim b as (λ b. Bool) [ true ↦ true | false ↦ list_any (λ u. walks (directly_above p f) n u t) (directly_above p f t) ]) (text_same t)

  pub under_self : (t : Text) → is_class_type t ≡ true → under t t ≡ true
  under_self t i = by_walks t t i i ∙ walks_self (walk_bound p f) t

  any_self : (n : ℕ) (t : Text) (xs : List Text) → Contains xs t → list_any (λ u. walks (directly_above p f) n u t) xs ≡ true
  any_self n t [] h = absurd (nowhere t h)
  any_self n t (x ∷ xs) (zero, lt, e) = ap (λ b. b || list_any (λ u. walks (directly_above p f) n u t) xs) (subst (λ u. walks (directly_above p f) n u t ≡ true) (sym e) (walks_self n t))
  any_self n t (x ∷ xs) (suc m, lt, e) = by (walks (directly_above p f) n x t) (any_self n t xs (m, omega (arith, lt), e))
    where
      by : (b : Bool) → list_any (λ u. walks (directly_above p f) n u t) xs ≡ true → (b || list_any (λ u. walks (directly_above p f) n u t) xs) ≡ true
      by true i = refl
      by false i = i

  walks_step : (n : ℕ) (s t : Text) → Contains (directly_above p f s) t → walks (directly_above p f) (suc n) s t ≡ true
  walks_step n s t h = by (text_eq s t)
    where
      by : (b : Bool) → (elim b as (λ b. Bool) [ true ↦ true | false ↦ list_any (λ u. walks (directly_above p f) n u t) (directly_above p f s) ]) ≡ true
      by true = refl
      by false = any_self n t (directly_above p f s) h

  bound_is : walk_bound p f ≡ suc (length p.classes + (length (known_rows ++ f.rows) + 1))
  bound_is = omega arith

  above_of : (t : Text) (c : NamedClass) → class_named p t ≡ Some c → directly_above p f t ≡ c.superclass ∷ c.interfaces
  above_of t c e = ap (above_in p f t) e

  pub step_under : (t u : Text) (c : NamedClass) → class_named p t ≡ Some c → Contains (c.superclass ∷ c.interfaces) u → defines p u ≡ true → under t u ≡ true
  step_under t u c e h d = by_walks t u (reg.regular.class_types t (defined_by p t (Some c) e)) (reg.regular.class_types u d)
      ∙ (ap (λ n. walks (directly_above p f) n t u) bound_is ∙ walks_step (length p.classes + (length (known_rows ++ f.rows) + 1)) t u (subst (λ xs. Contains xs u) (sym (above_of t c e)) h))

  pub step_up : (t u : Text) (c : NamedClass) → class_named p t ≡ Some c → Contains (c.superclass ∷ c.interfaces) u → defines p u ≡ true → Up t u
  step_up t u c e h d z i = under_transitive p f reg.objects z t u i (step_under t u c e h d)

  -- ---- lines and chains

  same_up : (t : Text) (c : NamedClass) → class_named p t ≡ Some c → Up t c.name
  same_up t c e z i = subst (λ u. under z u ≡ true) (sym (name_of p t c e)) i

  each_to : {A : Type 0} (P Q : A → Type 0) → ((x : A) → P x → Q x) → (xs : List A) → Each P xs → Each Q xs
  each_to P Q g [] h = tt
  each_to P Q g (x ∷ xs) h = (g x h.0, each_to P Q g xs h.1)

  first_of_two : (x : Text) (xs : List Text) → Contains (x ∷ xs) x
  first_of_two x xs = (0, omega arith, refl)

  pub line_up : (n : ℕ) (t : Text) → Each (λ d. Up t d.name) (line_from n p t)
  line_up zero t = tt
  line_up (suc n) t = by (class_named p t) refl (λ u. line_up n u)
    where
      by : (o : Option NamedClass) → class_named p t ≡ o → ((u : Text) → Each (λ d. Up u d.name) (line_from n p u))
          → Each (λ d. Up t d.name) (elim o as (λ o. List NamedClass) [ Some c ↦ c ∷ (if is_interface c.flags then [] else line_from n p c.superclass) | None ↦ [] ])
      by None e more = tt
      by (Some c) e more = (same_up t c e, rest (is_interface c.flags))
        where
          up : (n : ℕ) (o : Option NamedClass) → class_named p c.superclass ≡ o → Each (λ d. Up c.superclass d.name) (line_from n p c.superclass) → Each (λ d. Up t d.name) (line_from n p c.superclass)
          up zero o i h = tt
          up (suc n) None i h = subst (λ o. Each (λ d. Up t d.name) (elim o as (λ o. List NamedClass) [ Some c ↦ c ∷ (if is_interface c.flags then [] else line_from n p c.superclass) | None ↦ [] ])) (sym i) tt
          up (suc n) (Some d) i h = each_to (λ d. Up c.superclass d.name) (λ d. Up t d.name) (λ x g z j. g z (step_up t c.superclass c e (first_of_two c.superclass c.interfaces) (defined_by p c.superclass (Some d) i) z j)) (line_from (suc n) p c.superclass) h

          rest : (b : Bool) → Each (λ d. Up t d.name) (if b then [] else line_from n p c.superclass)
          rest true = tt
          rest false = up n (class_named p c.superclass) refl (more c.superclass)

  pub chain_up : (n : ℕ) (t : Text) → Each (λ d. Up t d.name × (class_named p d.name ≡ Some d)) (chain_from n p t)
  chain_up zero t = tt
  chain_up (suc n) t = by (class_named p t) refl (λ u. chain_up n u)
    where
      by : (o : Option NamedClass) → class_named p t ≡ o → ((u : Text) → Each (λ d. Up u d.name × (class_named p d.name ≡ Some d)) (chain_from n p u))
          → Each (λ d. Up t d.name × (class_named p d.name ≡ Some d)) (elim o as (λ o. List NamedClass) [ Some c ↦ c ∷ chain_from n p c.superclass | None ↦ [] ])
      by None e more = tt
      by (Some c) e more = ((same_up t c e, reg.regular.named c (class_in p t c e)), up n (class_named p c.superclass) refl (more c.superclass))
        where
          up : (n : ℕ) (o : Option NamedClass) → class_named p c.superclass ≡ o → Each (λ d. Up c.superclass d.name × (class_named p d.name ≡ Some d)) (chain_from n p c.superclass) → Each (λ d. Up t d.name × (class_named p d.name ≡ Some d)) (chain_from n p c.superclass)
          up zero o i h = tt
          up (suc n) None i h = subst (λ o. Each (λ d. Up t d.name × (class_named p d.name ≡ Some d)) (elim o as (λ o. List NamedClass) [ Some c ↦ c ∷ chain_from n p c.superclass | None ↦ [] ])) (sym i) tt
          up (suc n) (Some d) i h = each_to (λ d. Up c.superclass d.name × (class_named p d.name ≡ Some d)) (λ d. Up t d.name × (class_named p d.name ≡ Some d))
              (λ x g. (λ z j. g.0 z (step_up t c.superclass c e (first_of_two c.superclass c.interfaces) (defined_by p c.superclass (Some d) i) z j), g.1)) (chain_from (suc n) p c.superclass) h

  -- what is nearest stands above the first
  pub nearest_up : (s t k : Text) → nearest p s t ≡ Some k → Up s k
  nearest_up s t k e = by (find (λ c. list_any (λ d. text_eq c.name d.name) (line_of p t)) (line_of p s)) refl e
    where
      by : (o : Option NamedClass) → find (λ c. list_any (λ d. text_eq c.name d.name) (line_of p t)) (line_of p s) ≡ o → option_map (λ c. c.name) o ≡ Some k → Up s k
      by None i j = none_some k j
      by (Some c) i j = subst (Up s) (some_one c.name k j) (found_each (λ d. Up s d.name) (λ c. list_any (λ d. text_eq c.name d.name) (line_of p t)) (line_of p s) c (line_up (length p.classes) s) i)

  -- ---- what stands above what has no answer

  module _ (ok : Text → Bool) (kept : (s : Text) → ok s ≡ false → Each (λ u. ok u ≡ false) (directly_above p f s)) where
    none_walks : (n : ℕ) (s t : Text) → ok s ≡ false → walks (directly_above p f) n s t ≡ true → ok t ≡ false
    none_walks zero s t i e = subst (λ u. ok u ≡ false) (text_sound s t e) i
    none_walks (suc n) s t i e = by (text_eq s t) refl e (λ x h k. none_walks n x t h k)
      where
        any : ((x : Text) → ok x ≡ false → walks (directly_above p f) n x t ≡ true → ok t ≡ false) → (xs : List Text) → Each (λ u. ok u ≡ false) xs → list_any (λ u. walks (directly_above p f) n u t) xs ≡ true → ok t ≡ false
        any less [] h j = absurd (true≢false (sym j))
        any less (x ∷ xs) h j = one (or_cases (walks (directly_above p f) n x t) (list_any (λ u. walks (directly_above p f) n u t) xs) j) (λ k. any less xs h.1 k) (λ k. less x h.0 k)
          where
            one : (walks (directly_above p f) n x t ≡ true) ⊎ (list_any (λ u. walks (directly_above p f) n u t) xs ≡ true) → (list_any (λ u. walks (directly_above p f) n u t) xs ≡ true → ok t ≡ false) → (walks (directly_above p f) n x t ≡ true → ok t ≡ false) → ok t ≡ false
            one (inl k) more now = now k
            one (inr k) more now = more k

        by : (b : Bool) → text_eq s t ≡ b → (elim b as (λ b. Bool) [ true ↦ true | false ↦ list_any (λ u. walks (directly_above p f) n u t) (directly_above p f s) ]) ≡ true → ((x : Text) → ok x ≡ false → walks (directly_above p f) n x t ≡ true → ok t ≡ false) → ok t ≡ false
        by true j k less = subst (λ u. ok u ≡ false) (text_sound s t j) i
        by false j k less = any less (directly_above p f s) (kept s i) k

  undefined_above : (s : Text) → class_named p s ≡ None → Each (λ u. defines p u ≡ false) (directly_above p f s)
  undefined_above s e = subst (λ o. Each (λ u. defines p u ≡ false) (above_in p f s o)) (sym e) (by (text_eq s object_type) (row_named f s))
    where
      outer : (t : Text) → defines p (outer_type p t) ≡ false
      outer t = one (defines p t) refl
        where
          one : (b : Bool) → defines p t ≡ b → defines p (elim b as (λ b. Text) [ true ↦ object_type | false ↦ t ]) ≡ false
          one true i = reg.objects
          one false i = i

      outers : (ts : List Text) → Each (λ u. defines p u ≡ false) (map (outer_type p) ts)
      outers [] = tt
      outers (t ∷ ts) = (outer t, outers ts)

      by : (b : Bool) (o : Option FrameworkType) → Each (λ u. defines p u ≡ false) (elim b as (λ b. List Text) [ true ↦ [] | false ↦ above_row p s o ])
      by true o = tt
      by false (Some r) = outers (r.superclass ∷ r.interfaces)
      by false None = (reg.objects, tt)

  pub undefined_none : (s : Text) → defines p s ≡ false → class_named p s ≡ None
  undefined_none s e = by (class_named p s) e
    where
      by : (o : Option NamedClass) → (elim o as (λ o. Bool) [ Some c ↦ true | None ↦ false ]) ≡ false → o ≡ None
      by (Some c) i = absurd (true≢false i)
      by None i = refl

  plain_below_defined : (us : List Text) → Each (λ u. defines p u ≡ false) us → Each (λ u. is_plain p u ≡ false) us
  plain_below_defined [] h = tt
  plain_below_defined (u ∷ us) h = (plain_by p u None (undefined_none u h.0), plain_below_defined us h.1)

  plain_kept : (s : Text) → is_plain p s ≡ false → Each (λ u. is_plain p u ≡ false) (directly_above p f s)
  plain_kept s e = by (class_named p s) refl
    where
      interface_not : (c : NamedClass) → class_named p s ≡ Some c → is_interface c.flags ≡ true
      interface_not c i = one (is_interface c.flags) (sym (plain_by p s (Some c) i) ∙ e)
        where
          one : (b : Bool) → not b ≡ false → b ≡ true
          one true j = refl
          one false j = absurd (true≢false j)

      by : (o : Option NamedClass) → class_named p s ≡ o → Each (λ u. is_plain p u ≡ false) (directly_above p f s)
      by (Some c) i = subst (λ us. Each (λ u. is_plain p u ≡ false) us) (sym (above_of s c i)) (reg.regular.above_interfaces s c i (interface_not c i))
      by None i = plain_below_defined (directly_above p f s) (undefined_above s i)

  -- an array is under no class that the program defines
  array_under_none : (z t : Text) → is_array z ≡ true → defines p t ≡ true → under z t ≡ true → ⊥
  array_under_none [] t a d e = absurd (true≢false (sym a))
  array_under_none (u ∷ s) [] a d e = absurd (true≢false (sym e))
  array_under_none (u ∷ s) (v ∷ t) a d e = by (is_array (u ∷ s)) (is_array (v ∷ t)) (text_eq (u ∷ s) (v ∷ t)) (text_eq (v ∷ t) object_type) refl refl refl a (defined_class (v ∷ t) d) e
    where
      by : (x y same top : Bool) → is_array (u ∷ s) ≡ x → text_eq (u ∷ s) (v ∷ t) ≡ same → text_eq (v ∷ t) object_type ≡ top → x ≡ true → y ≡ false → (elim x as (λ a. Bool) [
        | false ↦ not y && class_under p f (u ∷ s) (v ∷ t)
        | true ↦ same || top || (y && is_reference s && is_reference t && under_types (class_under p f) s t)
      ]) ≡ true → ⊥
      by false y same top j k l m n i = true≢false (sym m)
      by true true same top j k l m n i = true≢false n
      by true false true top j k l m n i = true≢false (sym a ∙ (ap is_array (text_sound (u ∷ s) (v ∷ t) k) ∙ defined_class (v ∷ t) d))
      by true false false true j k l m n i = true≢false (sym d ∙ (ap (defines p) (text_sound (v ∷ t) object_type l) ∙ reg.objects))
      by true false false false j k l m n i = true≢false (sym i)

  -- a class type that is under what the program defines is defined, and one under a plain class is plain
  pub defined_below : (z t : Text) → is_class_type z ≡ true → defines p t ≡ true → under z t ≡ true → defines p z ≡ true
  defined_below z t i d e = by (defines p z) refl
    where
      by : (b : Bool) → defines p z ≡ b → b ≡ true
      by true j = refl
      by false j = absurd (true≢false (sym d ∙ none_walks (defines p) (λ s k. undefined_above s (undefined_none s k)) (walk_bound p f) z t j (sym (by_walks z t i (reg.regular.class_types t d)) ∙ e)))

  pub plain_below : (z t : Text) → is_class_type z ≡ true → is_plain p t ≡ true → under z t ≡ true → is_plain p z ≡ true
  plain_below z t i d e = by (is_plain p z) refl
    where
      by : (b : Bool) → is_plain p z ≡ b → b ≡ true
      by true j = refl
      by false j = absurd (true≢false (sym d ∙ none_walks (is_plain p) plain_kept (walk_bound p f) z t j (sym (by_walks z t i (reg.regular.class_types t (plain_defined p t d))) ∙ e)))

  pub not_array_below : (z t : Text) → defines p t ≡ true → under z t ≡ true → is_array z ≡ false
  not_array_below z t d e = by (is_array z) refl
    where
      by : (b : Bool) → is_array z ≡ b → b ≡ false
      by true j = absurd (array_under_none z t j d e)
      by false j = refl
