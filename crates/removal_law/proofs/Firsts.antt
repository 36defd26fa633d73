-- The initialiser of a live class, and the classes that are initialised before it, in what is left of a program.
use Rattle.std.proofs.Common.{◌≡◌, ℕ, zero, suc, Bool, true, false, List, [], ◌∷◌, ◌++◌, length, refl, sym, ap, ◌∙◌, subst, inl, inr}
use Rattle.std.specs.Prelude.{◌⊎◌, ◌&&◌, ◌||◌, not, cond, Option, Some, None, is_some, is_none, filter, flat_map}
use Rattle.std.specs.List.{list_any}
use Rattle.std.specs.Option.{option_map}
use Rattle.lemmas.proofs.Options.{none_some, some_same}
use Rattle.dalvik_defs.specs.Names.{Text, text_eq, void, initialiser_name}
use Rattle.dalvik_defs.specs.Flags.{is_interface}
use Rattle.dalvik_defs.specs.Under.{class_named, defines}
use Rattle.dalvik_defs.specs.Find.{method_in, is_virtual_method, interface_named, is_037}
use Rattle.dalvik_defs.specs.Initialised.{initialiser_key, is_initialiser, initialiser_in, initialiser_of, has_default, only_if, interfaces_before, firsts, interfaces_first, first_of_class, initialised_first}
use Rattle.dalvik_defs.proofs.Firsts.{filter_firsts}
use Rattle.dalvik_defs.specs.declared.names.MethodKey.{MethodKey}
use Rattle.dalvik_defs.specs.declared.program.NamedMethod.{NamedMethod}
use Rattle.dalvik_defs.specs.declared.program.NamedClass.{NamedClass}
use Rattle.dalvik_defs.specs.declared.program.NamedProgram.{NamedProgram}
use Rattle.pass_defs.specs.Live.{Family, KeepsAbove}
use Rattle.removal_law.specs.Left.{left_in, left_of}
use Rattle.removal_law.specs.Agree.{sieve}
use Rattle.removal_law.specs.Reach.{is_idle, IsRegular}
use Rattle.dalvik_defs.specs.Silence.{key_in}
use Rattle.removal_law.proofs.Lists.{clash, In, here, there, in_either, contained}
use Rattle.removal_law.proofs.Classes.{Kept, class_left, dead_found}
use Rattle.removal_law.proofs.Members.{method_left}
use Rattle.removal_law.proofs.Trees.{Tree, absent, class_name, class_kept, up_kept, defined, tree, defines_same}
use Rattle.removal_law.proofs.Finds.{in_unfiltered, flat_same, flat_none, out_of_flat, dead_method, interface_left, interface_class, trees_up, Trees}

-- a test that only kept elements pass
any_filter : {A : Type 0} (f keep : A → Bool) (xs : List A) → ((x : A) → In x xs → f x ≡ true → keep x ≡ true) → list_any f (filter keep xs) ≡ list_any f xs
any_filter f keep [] h = refl
any_filter f keep (x ∷ xs) h = by (keep x) refl (f x) refl (any_filter f keep xs (λ y i. h y (there x xs i)))
  where
    by : (b : Bool) → keep x ≡ b → (d : Bool) → f x ≡ d → list_any f (filter keep xs) ≡ list_any f xs → list_any f (filter keep (x ∷ xs)) ≡ list_any f (x ∷ xs)
    by true e d i r = ap (λ b. list_any f (cond b (x ∷ filter keep xs) (filter keep xs))) e ∙ ap (λ b. f x || b) r
    by false e true i r = clash (keep x) (h x (here xs) i) e
    by false e false i r = ap (λ b. list_any f (cond b (x ∷ filter keep xs) (filter keep xs))) e ∙ r ∙ sym (ap (λ b. b || list_any f xs) i)

module _ (p : NamedProgram) (s : Family) (above : KeepsAbove p s) (regular : IsRegular p) where
  abbrev q : NamedProgram
  q = left_of s p

  -- ---- initialisers

  abbrev initialiser_from : NamedClass → Option NamedMethod → Option MethodKey
  initialiser_from c o = elim o as (λ o. Option MethodKey) [ Some m ↦ elim (is_initialiser m) as (λ b. Option MethodKey) [ true ↦ Some (initialiser_key c.name) | false ↦ None ] | None ↦ None ]

  abbrev initialiser_at : Option NamedClass → Option MethodKey
  initialiser_at o = elim o as (λ o. Option MethodKey) [ Some c ↦ initialiser_in c | None ↦ None ]

  from_key : (c : NamedClass) (o : Option NamedMethod) (k : MethodKey) → initialiser_from c o ≡ Some k → initialiser_key c.name ≡ k
  from_key c None k e = none_some k e
  from_key c (Some m) k e = by (is_initialiser m) e
    where
      by : (b : Bool) → (elim b as (λ b. Option MethodKey) [ true ↦ Some (initialiser_key c.name) | false ↦ None ]) ≡ Some k → initialiser_key c.name ≡ k
      by true i = some_same (initialiser_key c.name) k i
      by false i = none_some k i

  -- an initialiser is of the class
  pub initialiser_class : (t : Text) (k : MethodKey) → initialiser_of p t ≡ Some k → (k.class ≡ t) × (defines p t ≡ true)
  initialiser_class t k e = by (class_named p t) refl e
    where
      by : (o : Option NamedClass) → class_named p t ≡ o → initialiser_at o ≡ Some k → (k.class ≡ t) × (defines p t ≡ true)
      by None i j = none_some k j
      by (Some c) i j = (sym (ap (λ x. x.class) (from_key c (method_in c initialiser_name void) k j)) ∙ class_name p t c i, defined p t c i)

  -- where the method goes, there was no initialiser
  gone : (c : NamedClass) → ((k : MethodKey) → initialiser_in c ≡ Some k → s.methods k ≡ true) → initialiser_in (left_in s c) ≡ initialiser_in c
  gone c l = by (s.methods (initialiser_key c.name)) refl
    where
      none : (o : Option MethodKey) → initialiser_in c ≡ o → s.methods (initialiser_key c.name) ≡ false → initialiser_in c ≡ None
      none None e i = e
      none (Some k) e i = clash (s.methods (initialiser_key c.name)) (ap s.methods (from_key c (method_in c initialiser_name void) k e) ∙ l k e) i

      by : (b : Bool) → s.methods (initialiser_key c.name) ≡ b → initialiser_in (left_in s c) ≡ initialiser_in c
      by true e = ap (initialiser_from c) (method_left s c initialiser_name void e)
      by false e = ap (initialiser_from c) (dead_method s c initialiser_name void e) ∙ sym (none (initialiser_in c) refl e)

  pub initialiser_left : (t : Text) → Kept s p t → initialiser_of q t ≡ initialiser_of p t
  initialiser_left t h = ap initialiser_at (class_left s p t h) ∙ by (class_named p t) refl
    where
      by : (o : Option NamedClass) → class_named p t ≡ o → initialiser_at (option_map (left_in s) o) ≡ initialiser_at o
      by None e = refl
      by (Some c) e = gone c (λ k i. above.initialisers t k (h (defined p t c e)) (ap initialiser_at e ∙ i))

  pub initialiser_lives : (t : Text) (k : MethodKey) → Kept s p t → initialiser_of p t ≡ Some k → s.methods k ≡ true
  initialiser_lives t k h e = above.initialisers t k (h (initialiser_class t k e).1) e

  -- ---- classes that come before one, without idle interfaces

  abbrev calm : Text → Bool
  calm = is_idle p

  interface_some : (t : Text) (c : NamedClass) → interface_named p t ≡ Some c → is_interface c.flags ≡ true
  interface_some t c e = by (class_named p t) e
    where
      at : (d : NamedClass) (b : Bool) → is_interface d.flags ≡ b → (elim b as (λ b. Option NamedClass) [ true ↦ Some d | false ↦ None ]) ≡ Some c → is_interface c.flags ≡ true
      at d true i j = subst (λ x. is_interface x.flags ≡ true) (some_same d c j) i
      at d false i j = none_some c j

      by : (o : Option NamedClass) → (elim o as (λ o. Option NamedClass) [ Some c ↦ elim (is_interface c.flags) as (λ b. Option NamedClass) [ true ↦ Some c | false ↦ None ] | None ↦ None ]) ≡ Some c → is_interface c.flags ≡ true
      by None i = none_some c i
      by (Some d) i = at d (is_interface d.flags) refl i

  -- an interface with an initialiser keeps its methods with code
  default_left : is_037 p.version ≡ true → (t : Text) (c : NamedClass) → interface_named p t ≡ Some c → Kept s p t → is_some (initialiser_of p t) ≡ true → has_default (left_in s c) ≡ has_default c
  default_left v t c e h i = any_filter (λ m. is_virtual_method m && is_some m.body) (λ m. s.methods (key_in c m)) c.methods
      (λ m j k. above.defaults t c m v d (h (defined p t c d)) (interface_some t c e) i (contained m c.methods j) k)
    where
      d : class_named p t ≡ Some c
      d = interface_class p s above regular t c e

  idle_of : (t : Text) (c : NamedClass) → interface_named p t ≡ Some c → calm t ≡ is_none (initialiser_of p t)
  idle_of t c e = ap (λ o. elim o as (λ o. Bool) [ Some c ↦ is_none (initialiser_of p t) | None ↦ false ]) e

  busy_some : (o : Option MethodKey) → is_none o ≡ false → is_some o ≡ true
  busy_some None e = clash true refl e
  busy_some (Some k) e = refl

  idle_same : is_037 p.version ≡ true → (t : Text) (c : NamedClass) → interface_named p t ≡ Some c → Kept s p t → sieve calm (only_if (has_default (left_in s c)) t) ≡ sieve calm (only_if (has_default c) t)
  idle_same v t c e h = by (calm t) refl
    where
      idle : (b : Bool) → calm t ≡ true → sieve calm (only_if b t) ≡ []
      idle true i = ap (λ b. cond (not b) (t ∷ []) []) i
      idle false i = refl

      by : (b : Bool) → calm t ≡ b → sieve calm (only_if (has_default (left_in s c)) t) ≡ sieve calm (only_if (has_default c) t)
      by true i = idle (has_default (left_in s c)) i ∙ sym (idle (has_default c) i)
      by false i = ap (λ b. sieve calm (only_if b t)) (default_left v t c e h (busy_some (initialiser_of p t) (sym (idle_of t c e) ∙ i)))

  sieve_append : (xs ys : List Text) → sieve calm (xs ++ ys) ≡ sieve calm xs ++ sieve calm ys
  sieve_append [] ys = refl
  sieve_append (x ∷ xs) ys = by (calm x) (sieve_append xs ys)
    where
      by : (b : Bool) → sieve calm (xs ++ ys) ≡ sieve calm xs ++ sieve calm ys → cond (not b) (x ∷ sieve calm (xs ++ ys)) (sieve calm (xs ++ ys)) ≡ cond (not b) (x ∷ sieve calm xs) (sieve calm xs) ++ sieve calm ys
      by true h = h
      by false h = ap (λ l. x ∷ l) h

  sieve_flat : (f : Text → List Text) (ts : List Text) → sieve calm (flat_map f ts) ≡ flat_map (λ t. sieve calm (f t)) ts
  sieve_flat f [] = refl
  sieve_flat f (t ∷ ts) = sieve_append (f t) (flat_map f ts) ∙ ap (λ l. sieve calm (f t) ++ l) (sieve_flat f ts)

  module _ (v : is_037 p.version ≡ true) where
    abbrev before_of : NamedProgram → ℕ → Text → Option NamedClass → List Text
    before_of r n t o = elim o as (λ o. List Text) [ Some c ↦ interfaces_before n r c.interfaces ++ only_if (has_default c) t | None ↦ [] ]

    zero_left : (m : ℕ) (t : Text) → Tree p s above zero m t → class_named p t ≡ None
    zero_left m t (absent k l u e i) = e

    zero_right : (n : ℕ) (t : Text) → Tree p s above n zero t → class_named p t ≡ None
    zero_right n t (absent k l u e i) = e

    no_interface : (t : Text) → class_named p t ≡ None → interface_named p t ≡ None
    no_interface t e = ap (λ o. elim o as (λ o. Option NamedClass) [ Some c ↦ elim (is_interface c.flags) as (λ b. Option NamedClass) [ true ↦ Some c | false ↦ None ] | None ↦ None ]) e

    before_left : (n m : ℕ) (ts : List Text) → Trees p s above regular n m ts → ((t : Text) → In t ts → Kept s p t) → sieve calm (interfaces_before n q ts) ≡ sieve calm (interfaces_before m p ts)
    before_left zero zero ts h l = refl
    before_left zero (suc m) ts h l = ap (sieve calm) (sym (flat_none (λ t. before_of p m t (interface_named p t)) ts (λ t i. ap (before_of p m t) (no_interface t (zero_left (suc m) t (h t i))))))
    before_left (suc n) zero ts h l = ap (sieve calm) (flat_none (λ t. before_of q n t (interface_named q t)) ts
        (λ t i. ap (before_of q n t) (interface_left p s above regular (suc n) zero t (h t i) ∙ ap (option_map (left_in s)) (no_interface t (zero_right (suc n) t (h t i))))))
    before_left (suc n) (suc m) ts h l = sieve_flat (λ t. before_of q n t (interface_named q t)) ts
        ∙ flat_same (λ t. sieve calm (before_of q n t (interface_named q t))) (λ t. sieve calm (before_of p m t (interface_named p t))) ts (λ t i. at t i (λ us a b. before_left n m us a b))
        ∙ sym (sieve_flat (λ t. before_of p m t (interface_named p t)) ts)
      where
        at : (t : Text) → In t ts → ((us : List Text) → Trees p s above regular n m us → ((t : Text) → In t us → Kept s p t) → sieve calm (interfaces_before n q us) ≡ sieve calm (interfaces_before m p us))
            → sieve calm (before_of q n t (interface_named q t)) ≡ sieve calm (before_of p m t (interface_named p t))
        at t i ih = ap (λ o. sieve calm (before_of q n t o)) (interface_left p s above regular (suc n) (suc m) t (h t i)) ∙ by (interface_named p t) refl
          where
            by : (o : Option NamedClass) → interface_named p t ≡ o → sieve calm (before_of q n t (option_map (left_in s) o)) ≡ sieve calm (before_of p m t o)
            by None e = refl
            by (Some c) e = let d = interface_class p s above regular t c e in
                sieve_append (interfaces_before n q c.interfaces) (only_if (has_default (left_in s c)) t)
                ∙ ap (λ us. sieve calm (interfaces_before n q c.interfaces) ++ us) (idle_same v t c e (l t i))
                ∙ ap (λ us. us ++ sieve calm (only_if (has_default c) t)) (ih c.interfaces (λ u a. trees_up p s above regular n m t c (h t i) d u (there c.superclass c.interfaces a))
                (λ u a. up_kept p s above t c d (l t i) u (there c.superclass c.interfaces a)))
                ∙ sym (sieve_append (interfaces_before m p c.interfaces) (only_if (has_default c) t))

  interfaces_left : (t : Text) (c : NamedClass) → class_named p t ≡ Some c → Kept s p t → sieve calm (interfaces_first q (left_in s c)) ≡ sieve calm (interfaces_first p c)
  interfaces_left t c e h = by (is_037 p.version) refl
    where
      ups : (u : Text) → In u c.interfaces → Kept s p u
      ups u i = up_kept p s above t c e h u (there c.superclass c.interfaces i)

      by : (b : Bool) → is_037 p.version ≡ b → sieve calm (elim b as (λ b. List Text) [ true ↦ firsts (interfaces_before (length q.classes) q c.interfaces) | false ↦ [] ])
          ≡ sieve calm (elim b as (λ b. List Text) [ true ↦ firsts (interfaces_before (length p.classes) p c.interfaces) | false ↦ [] ])
      by true v = filter_firsts (λ t. not (calm t)) (interfaces_before (length q.classes) q c.interfaces)
          ∙ ap firsts (before_left v (length q.classes) (length p.classes) c.interfaces (λ u i. tree p s above regular u (ups u i)) ups)
          ∙ sym (filter_firsts (λ t. not (calm t)) (interfaces_before (length p.classes) p c.interfaces))
      by false v = refl

  abbrev first_at : NamedProgram → Option NamedClass → List Text
  first_at r o = elim o as (λ o. List Text) [ Some c ↦ first_of_class r c | None ↦ [] ]

  class_first : (t : Text) (c : NamedClass) → class_named p t ≡ Some c → Kept s p t → sieve calm (first_of_class q (left_in s c)) ≡ sieve calm (first_of_class p c)
  class_first t c e h = by (is_interface c.flags)
    where
      tail : sieve calm (only_if (defines q c.superclass) c.superclass ++ interfaces_first q (left_in s c)) ≡ sieve calm (only_if (defines p c.superclass) c.superclass ++ interfaces_first p c)
      tail = ap (λ b. sieve calm (only_if b c.superclass ++ interfaces_first q (left_in s c))) (defines_same p s above c.superclass (up_kept p s above t c e h c.superclass (here c.interfaces)))
          ∙ sieve_append (only_if (defines p c.superclass) c.superclass) (interfaces_first q (left_in s c))
          ∙ ap (λ ts. sieve calm (only_if (defines p c.superclass) c.superclass) ++ ts) (interfaces_left t c e h)
          ∙ sym (sieve_append (only_if (defines p c.superclass) c.superclass) (interfaces_first p c))

      by : (b : Bool) → sieve calm (elim b as (λ b. List Text) [ true ↦ [] | false ↦ only_if (defines q c.superclass) c.superclass ++ interfaces_first q (left_in s c) ])
          ≡ sieve calm (elim b as (λ b. List Text) [ true ↦ [] | false ↦ only_if (defines p c.superclass) c.superclass ++ interfaces_first p c ])
      by true = refl
      by false = tail

  pub first_left : (t : Text) → Kept s p t → sieve calm (initialised_first q t) ≡ sieve calm (initialised_first p t)
  first_left t h = ap (λ o. sieve calm (first_at q o)) (class_left s p t h) ∙ by (class_named p t) refl
    where
      by : (o : Option NamedClass) → class_named p t ≡ o → sieve calm (first_at q (option_map (left_in s) o)) ≡ sieve calm (first_at p o)
      by None e = refl
      by (Some c) e = class_first t c e h

  -- ---- idle interfaces initialise nothing, also in what is left

  -- an idle interface is one of the program
  pub idle_interface : (t : Text) → calm t ≡ true → (c : NamedClass) × ((interface_named p t ≡ Some c) × (initialiser_of p t ≡ None))
  idle_interface t e = by (interface_named p t) refl e
    where
      no_one : (o : Option MethodKey) → is_none o ≡ true → o ≡ None
      no_one None i = refl
      no_one (Some k) i = clash false i refl

      by : (o : Option NamedClass) → interface_named p t ≡ o → (elim o as (λ o. Bool) [ Some c ↦ is_none (initialiser_of p t) | None ↦ false ]) ≡ true → (c : NamedClass) × ((interface_named p t ≡ Some c) × (initialiser_of p t ≡ None))
      by None i a = clash false a refl
      by (Some c) i a = (c, (i, no_one (initialiser_of p t) a))

  pub idle_first : (t : Text) → calm t ≡ true → initialised_first p t ≡ []
  idle_first t e = let w = idle_interface t e in ap (first_at p) (interface_class p s above regular t w.0 w.1.0)
      ∙ ap (λ b. elim b as (λ b. List Text) [ true ↦ [] | false ↦ only_if (defines p w.0.superclass) w.0.superclass ++ interfaces_first p w.0 ]) (interface_some t w.0 w.1.0)

  pub idle_left : (t : Text) → calm t ≡ true → (initialiser_of q t ≡ None) × (initialised_first q t ≡ [])
  idle_left t e = by (s.classes t) refl
    where
      w : (c : NamedClass) × ((interface_named p t ≡ Some c) × (initialiser_of p t ≡ None))
      w = idle_interface t e

      by : (b : Bool) → s.classes t ≡ b → (initialiser_of q t ≡ None) × (initialised_first q t ≡ [])
      by true l = (
        initialiser_left t (λ d. l) ∙ w.1.1,
        ap (first_at q) (class_kept p s above t w.0 (interface_class p s above regular t w.0 w.1.0) (λ d. l))
            ∙ ap (λ b. elim b as (λ b. List Text) [ true ↦ [] | false ↦ only_if (defines q w.0.superclass) w.0.superclass ++ interfaces_first q (left_in s w.0) ]) (interface_some t w.0 w.1.0),
      )
      by false l = (ap initialiser_at (dead_found s t l p.classes), ap (first_at q) (dead_found s t l p.classes))

  -- ---- they are live

  abbrev Stands : Text → Type 0
  Stands t = (defines p t ≡ true) × (s.classes t ≡ true)

  stands : (t : Text) (c : NamedClass) → class_named p t ≡ Some c → Kept s p t → Stands t
  stands t c e h = (defined p t c e, h (defined p t c e))

  one_if : (b : Bool) (t u : Text) → In u (only_if b t) → (u ≡ t) × (b ≡ true)
  one_if true t u i = (same t u i, refl)
    where
      same : (t u : Text) → In u (t ∷ []) → u ≡ t
      same t u (here ys) = refl
      same t u (there y ys j) = elim j [ ]
  one_if false t u i = elim i [ ]

  abbrev step_of : ℕ → Text → Option NamedClass → List Text
  step_of n t o = elim o as (λ o. List Text) [ Some c ↦ interfaces_before n p c.interfaces ++ only_if (has_default c) t | None ↦ [] ]

  before_kept : (n : ℕ) (ts : List Text) → ((t : Text) → In t ts → Kept s p t) → (u : Text) → In u (interfaces_before n p ts) → Stands u
  before_kept zero ts h u i = elim i [ ]
  before_kept (suc n) ts h u i = by (interface_named p w.0) refl w.1.1 (λ us a b. before_kept n us a u b)
    where
      w : (t : Text) × (In t ts × In u (step_of n t (interface_named p t)))
      w = out_of_flat (λ t. step_of n t (interface_named p t)) u ts i

      by : (o : Option NamedClass) → interface_named p w.0 ≡ o → In u (step_of n w.0 o) → ((us : List Text) → ((t : Text) → In t us → Kept s p t) → In u (interfaces_before n p us) → Stands u) → Stands u
      by None e a ih = elim a [ ]
      by (Some c) e a ih = either (in_either u (interfaces_before n p c.interfaces) (only_if (has_default c) w.0) a)
        where
          either : In u (interfaces_before n p c.interfaces) ⊎ In u (only_if (has_default c) w.0) → Stands u
          either (inl b) = ih c.interfaces (λ v j. up_kept p s above w.0 c (interface_class p s above regular w.0 c e) (h w.0 w.1.0) v (there c.superclass c.interfaces j)) b
          either (inr b) = subst Stands (sym (one_if (has_default c) w.0 u b).0) (stands w.0 c (interface_class p s above regular w.0 c e) (h w.0 w.1.0))

  out_of_firsts : (u : Text) (ts : List Text) → In u (firsts ts) → In u ts
  out_of_firsts u [] i = i
  out_of_firsts u (t ∷ ts) (here ys) = here ts
  out_of_firsts u (t ∷ ts) (there y ys j) = there t ts (out_of_firsts u ts (in_unfiltered (λ v. not (text_eq v t)) u (firsts ts) j))

  pub first_stands : (t : Text) → Kept s p t → (u : Text) → In u (initialised_first p t) → Stands u
  first_stands t h u i = by (class_named p t) refl i
    where
      inner : (c : NamedClass) → class_named p t ≡ Some c → (b : Bool) → In u (elim b as (λ b. List Text) [ true ↦ firsts (interfaces_before (length p.classes) p c.interfaces) | false ↦ [] ]) → Stands u
      inner c e true j = before_kept (length p.classes) c.interfaces (λ v k. up_kept p s above t c e h v (there c.superclass c.interfaces k)) u (out_of_firsts u (interfaces_before (length p.classes) p c.interfaces) j)
      inner c e false j = elim j [ ]

      parts : (c : NamedClass) → class_named p t ≡ Some c → In u (only_if (defines p c.superclass) c.superclass) ⊎ In u (interfaces_first p c) → Stands u
      parts c e (inl j) = let r = one_if (defines p c.superclass) c.superclass u j in subst Stands (sym r.0) (r.1, up_kept p s above t c e h c.superclass (here c.interfaces) r.1)
      parts c e (inr j) = inner c e (is_037 p.version) j

      flagged : (c : NamedClass) → class_named p t ≡ Some c → (b : Bool) → In u (elim b as (λ b. List Text) [ true ↦ [] | false ↦ only_if (defines p c.superclass) c.superclass ++ interfaces_first p c ]) → Stands u
      flagged c e true j = elim j [ ]
      flagged c e false j = parts c e (in_either u (only_if (defines p c.superclass) c.superclass) (interfaces_first p c) j)

      by : (o : Option NamedClass) → class_named p t ≡ o → In u (elim o as (λ o. List Text) [ Some c ↦ first_of_class p c | None ↦ [] ]) → Stands u
      by None e j = elim j [ ]
      by (Some c) e j = flagged c e (is_interface c.flags) j
