-- A class that is under a type, but not by the program's own lists, has a framework ancestor.
use Rattle.std.proofs.Common.{◌≡◌, ℕ, zero, suc, Bool, true, false, List, [], ◌∷◌, length, refl, sym, ap, ◌∙◌, subst}
use Rattle.std.specs.Prelude.{◌&&◌, ◌||◌, not, Option, Some, None, map, nat_eq}
use Rattle.std.specs.List.{list_any, list_all}
use Rattle.dalvik_defs.specs.Names.{Text, text_eq, object_type, is_array, is_class_type, is_reference}
use Rattle.dalvik_defs.specs.Under.{class_named, defines, row_named, outer_type, above_row, above_in, directly_above, walks, walk_bound, class_under, under_types, is_under, own_above, touches_framework, reaches_framework}
use Rattle.dalvik_defs.specs.declared.program.NamedClass.{NamedClass}
use Rattle.dalvik_defs.specs.declared.program.NamedProgram.{NamedProgram}
use Rattle.dalvik_defs.specs.declared.tables.FrameworkType.{FrameworkType}
use Rattle.dalvik_defs.specs.declared.tables.Framework.{Framework}
use Rattle.dalvik_defs.proofs.Calm.{text_sound}
use Rattle.removal_law.specs.Left.{NamesNone}
use Rattle.removal_law.specs.Reach.{ends, IsRegular}
use Rattle.removal_law.proofs.Lists.{clash, In, here, there, all_in, and_behind}
use Rattle.removal_law.proofs.Walks.{choice}
use Rattle.removal_law.proofs.Levels.{enough_steps}
use Rattle.removal_law.proofs.Trees.{defines_class, defines_none}

pub any_here : {A : Type 0} (f : A → Bool) (x : A) (xs : List A) → In x xs → f x ≡ true → list_any f xs ≡ true
any_here f x [] i e = elim i [ ]
any_here f x (y ∷ xs) (here ys) e = ap (λ b. b || list_any f xs) e
any_here f x (y ∷ xs) (there z ys i) e = by (f y) (any_here f x xs i e)
  where
    by : (b : Bool) → list_any f xs ≡ true → (b || list_any f xs) ≡ true
    by true h = refl
    by false h = h

pub any_where : {A : Type 0} (f : A → Bool) (xs : List A) → list_any f xs ≡ true → (x : A) × (In x xs × (f x ≡ true))
any_where f [] e = clash false e refl
any_where {A} f (y ∷ xs) e = by (f y) refl e (any_where f xs)
  where
    by : (b : Bool) → f y ≡ b → (b || list_any f xs) ≡ true → (list_any f xs ≡ true → (x : A) × (In x xs × (f x ≡ true))) → (x : A) × (In x (y ∷ xs) × (f x ≡ true))
    by true i j h = (y, (here xs, i))
    by false i j h = let r = h j in (r.0, (there y xs r.1.0, r.1.1))

pub no_bracket : (x : ℕ) → nat_eq x 76 ≡ true → nat_eq x 91 ≡ false
no_bracket x e = subst (λ y. nat_eq y 91 ≡ false) (sym (ap (λ l. elim l as (λ l. ℕ) [ [] ↦ x | y ∷ ys ↦ y ]) (text_sound (x ∷ []) (76 ∷ []) (ap (λ b. b && true) e)))) refl

module _ (p : NamedProgram) (f : Framework) (none : NamesNone p f) (regular : IsRegular p) where
  -- ---- walks outside

  outer_out : (t : Text) (b : Bool) → defines p t ≡ b → defines p (elim b as (λ b. Text) [ true ↦ object_type | false ↦ t ]) ≡ false
  outer_out t true e = none.object
  outer_out t false e = e

  mapped_out : (ts : List Text) (u : Text) → In u (map (outer_type p) ts) → defines p u ≡ false
  mapped_out [] u i = elim i [ ]
  mapped_out (t ∷ ts) u (here us) = outer_out t (defines p t) refl
  mapped_out (t ∷ ts) u (there v us i) = mapped_out ts u i

  row_out : (t u : Text) (o : Option FrameworkType) → In u (above_row p t o) → defines p u ≡ false
  row_out t u (Some r) i = mapped_out (r.superclass ∷ r.interfaces) u i
  row_out t u None (here us) = none.object
  row_out t u None (there v us i) = elim i [ ]

  above_out : (t u : Text) → defines p t ≡ false → In u (directly_above p f t) → defines p u ≡ false
  above_out t u e i = by (text_eq t object_type) (subst (λ o. In u (above_in p f t o)) (defines_none p t e) i)
    where
      by : (b : Bool) → In u (elim b as (λ b. List Text) [ true ↦ [] | false ↦ above_row p t (row_named f t) ]) → defines p u ≡ false
      by true j = elim j [ ]
      by false j = row_out t u (row_named f t) j

  walk_out : (k : ℕ) (t u : Text) → defines p t ≡ false → walks (directly_above p f) k t u ≡ true → defines p u ≡ false
  walk_out zero t u e i = subst (λ x. defines p x ≡ false) (text_sound t u i) e
  walk_out (suc k) t u e i = by (text_eq t u) refl i (λ v a b. walk_out k v u a b)
    where
      by : (b : Bool) → text_eq t u ≡ b → choice b (list_any (λ v. walks (directly_above p f) k v u) (directly_above p f t)) ≡ true
          → ((v : Text) → defines p v ≡ false → walks (directly_above p f) k v u ≡ true → defines p u ≡ false) → defines p u ≡ false
      by true j a ih = subst (λ x. defines p x ≡ false) (text_sound t u j) e
      by false j a ih = let w = any_where (λ v. walks (directly_above p f) k v u) (directly_above p f t) a in ih w.0 (above_out t w.0 e w.1.0) w.1.1

  -- nothing is above Object
  object_walk : (k : ℕ) (u : Text) → walks (directly_above p f) k object_type u ≡ true → text_eq u object_type ≡ true
  object_walk zero u i = subst (λ x. text_eq x object_type ≡ true) (text_sound object_type u i) refl
  object_walk (suc k) u i = by (text_eq object_type u) refl i
    where
      nothing : directly_above p f object_type ≡ []
      nothing = ap (above_in p f object_type) (defines_none p object_type none.object)

      by : (b : Bool) → text_eq object_type u ≡ b → choice b (list_any (λ v. walks (directly_above p f) k v u) (directly_above p f object_type)) ≡ true → text_eq u object_type ≡ true
      by true j a = subst (λ x. text_eq x object_type ≡ true) (text_sound object_type u j) refl
      by false j a = clash false (sym (ap (list_any (λ v. walks (directly_above p f) k v u)) nothing) ∙ a) refl

  -- ---- a walk from a class

  -- by the program's own lists, or through a framework type to one that isn't the program's, or to Object
  pub data Up (m : ℕ) (t u : Text) : Type 0 where
    inside : walks (own_above p) m t u ≡ true → Up m t u
    through : reaches_framework m p t ≡ true → defines p u ≡ false → Up m t u
    object : text_eq u object_type ≡ true → Up m t u

  own_above_some : (t : Text) (c : NamedClass) → class_named p t ≡ Some c → own_above p t ≡ c.superclass ∷ c.interfaces
  own_above_some t c e = ap (λ o. elim o as (λ o. List Text) [ Some c ↦ c.superclass ∷ c.interfaces | None ↦ [] ]) e

  directly_some : (t : Text) (c : NamedClass) → class_named p t ≡ Some c → directly_above p f t ≡ c.superclass ∷ c.interfaces
  directly_some t c e = ap (above_in p f t) e

  own_step : (m : ℕ) (t u v : Text) (c : NamedClass) → class_named p t ≡ Some c → In v (c.superclass ∷ c.interfaces) → walks (own_above p) m v u ≡ true → walks (own_above p) (suc m) t u ≡ true
  own_step m t u v c e i j = by (text_eq t u)
    where
      by : (b : Bool) → choice b (list_any (λ v. walks (own_above p) m v u) (own_above p t)) ≡ true
      by true = refl
      by false = ap (list_any (λ v. walks (own_above p) m v u)) (own_above_some t c e) ∙ any_here (λ v. walks (own_above p) m v u) v (c.superclass ∷ c.interfaces) i j

  own_here : (m : ℕ) (t u : Text) → text_eq t u ≡ true → walks (own_above p) m t u ≡ true
  own_here zero t u e = e
  own_here (suc m) t u e = ap (λ b. choice b (list_any (λ v. walks (own_above p) m v u) (own_above p t))) e

  or_true : (a b : Bool) → b ≡ true → (a || b) ≡ true
  or_true true b e = refl
  or_true false b e = e

  reaches_some : (m : ℕ) (t : Text) (c : NamedClass) → class_named p t ≡ Some c → reaches_framework (suc m) p t ≡ (touches_framework p c || list_any (reaches_framework m p) (c.superclass ∷ c.interfaces))
  reaches_some m t c e = ap (λ o. elim o as (λ o. Bool) [ Some c ↦ touches_framework p c || list_any (reaches_framework m p) (c.superclass ∷ c.interfaces) | None ↦ false ]) e

  reach_step : (m : ℕ) (t v : Text) (c : NamedClass) → class_named p t ≡ Some c → In v (c.superclass ∷ c.interfaces) → reaches_framework m p v ≡ true → reaches_framework (suc m) p t ≡ true
  reach_step m t v c e i j = reaches_some m t c e ∙ or_true (touches_framework p c) (list_any (reaches_framework m p) (c.superclass ∷ c.interfaces)) (any_here (reaches_framework m p) v (c.superclass ∷ c.interfaces) i j)

  reach_touch : (m : ℕ) (t v : Text) (c : NamedClass) → class_named p t ≡ Some c → In v (c.superclass ∷ c.interfaces) → defines p v ≡ false → text_eq v object_type ≡ false → reaches_framework (suc m) p t ≡ true
  reach_touch m t v c e i a b = reaches_some m t c e ∙ ap (λ x. x || list_any (reaches_framework m p) (c.superclass ∷ c.interfaces))
      (any_here (λ t. not (defines p t) && not (text_eq t object_type)) v (c.superclass ∷ c.interfaces) i (ap (λ x. not x && not (text_eq v object_type)) a ∙ ap not b))

  up_step : (m k : ℕ) (t u v : Text) (c : NamedClass) → class_named p t ≡ Some c → In v (c.superclass ∷ c.interfaces) → walks (directly_above p f) k v u ≡ true
      → (defines p v ≡ true → Up m v u) → Up (suc m) t u
  up_step m k t u v c e i w ih = by (defines p v) refl
    where
      inner : Up m v u → Up (suc m) t u
      inner (inside a) = inside (own_step m t u v c e i a)
      inner (through a d) = through (reach_step m t v c e i a) d
      inner (object a) = object a

      outer : defines p v ≡ false → (b : Bool) → text_eq v object_type ≡ b → Up (suc m) t u
      outer d true o = object (object_walk k u (subst (λ x. walks (directly_above p f) k x u ≡ true) (text_sound v object_type o) w))
      outer d false o = through (reach_touch m t v c e i d o) (walk_out k v u d w)

      by : (b : Bool) → defines p v ≡ b → Up (suc m) t u
      by true d = inner (ih d)
      by false d = outer d (text_eq v object_type) refl

  up : (k m : ℕ) (t u : Text) → defines p t ≡ true → ends p m t ≡ true → walks (directly_above p f) k t u ≡ true → Up m t u
  up k zero t u d e w = clash (defines p t) d (not_true (defines p t) e)
    where
      not_true : (b : Bool) → not b ≡ true → b ≡ false
      not_true true e = clash true refl (sym e)
      not_true false e = refl
  up zero (suc m) t u d e w = inside (own_here (suc m) t u w)
  up (suc k) (suc m) t u d e w = by (text_eq t u) refl w (λ v a b x. up k m v u a b x)
    where
      c : (c : NamedClass) × (class_named p t ≡ Some c)
      c = defines_class p t d

      by : (b : Bool) → text_eq t u ≡ b → choice b (list_any (λ v. walks (directly_above p f) k v u) (directly_above p f t)) ≡ true
          → ((v : Text) → defines p v ≡ true → ends p m v ≡ true → walks (directly_above p f) k v u ≡ true → Up m v u) → Up (suc m) t u
      by true j a ih = inside (own_here (suc m) t u j)
      by false j a ih = let r = any_where (λ v. walks (directly_above p f) k v u) (c.0.superclass ∷ c.0.interfaces) (sym (ap (list_any (λ v. walks (directly_above p f) k v u)) (directly_some t c.0 c.1)) ∙ a) in
          up_step m k t u r.0 c.0 c.1 r.1.0 r.1.1 (λ x. ih r.0 x (all_in (ends p m) (c.0.superclass ∷ c.0.interfaces) (sym (ap (list_all (ends p m)) (own_above_some t c.0 c.1)) ∙ e) r.0 r.1.0) r.1.1)

  -- a class is no array
  class_only : (t u : Text) → is_class_type t ≡ true → is_under p f t u ≡ true → class_under p f t u ≡ true
  class_only [] u e i = clash false e refl
  class_only (x ∷ t) [] e i = clash false i refl
  class_only (x ∷ t) (y ∷ u) e i = by (nat_eq x 91) refl i
    where
      by : (b : Bool) → nat_eq x 91 ≡ b → (elim b as (λ b. Bool) [ false ↦ not (is_array (y ∷ u)) && class_under p f (x ∷ t) (y ∷ u) | true ↦ text_eq (x ∷ t) (y ∷ u) || text_eq (y ∷ u) object_type || (is_array (y ∷ u) && is_reference t && is_reference u && under_types (class_under p f) t u) ]) ≡ true
          → class_under p f (x ∷ t) (y ∷ u) ≡ true
      by true j a = clash (nat_eq x 91) j (no_bracket x e)
      by false j a = and_behind (not (is_array (y ∷ u))) (class_under p f (x ∷ t) (y ∷ u)) a

  pub under_up : (t u : Text) → defines p t ≡ true → is_under p f t u ≡ true → Up (length p.classes) t u
  under_up t u d i = let g = regular.grounded t in up (walk_bound p f) (length p.classes) t u d (enough_steps p t g.0 g.1) (class_only t u (regular.names t d) i)
