-- Lines of classes: what is nearest to two is transitive.
use Rattle.std.proofs.Common.{◌≡◌, ℕ, zero, suc, Bool, true, false, true≢false, List, [], ◌∷◌, ◌++◌, length, refl, sym, ap, ◌∙◌, subst}
use Rattle.std.specs.Prelude.{◌||◌, Option, Some, None, find, if◌then◌else◌}
use Rattle.std.specs.List.{list_any}
use Rattle.std.specs.Option.{option_map}
use Rattle.lemmas.proofs.Lists.{any_right}
use Rattle.lemmas.proofs.Options.{none_some, some_same}
use mathlib.Core.Bool.{cond}
use Rattle.dalvik_defs.specs.Names.{Text, text_eq, is_class_type, object_type}
use Rattle.dalvik_defs.specs.Flags.{is_interface}
use Rattle.dalvik_defs.specs.Quiet.{EndsWithin}
use Rattle.dalvik_defs.specs.Under.{class_named}
use Rattle.dalvik_defs.specs.declared.program.NamedClass.{NamedClass}
use Rattle.dalvik_defs.specs.declared.program.NamedProgram.{NamedProgram}
use Rattle.dalvik_defs.proofs.Calm.{text_sound}
use Rattle.pass_defs.specs.Kinds.{line_from, line_of, nearest}
use Rattle.program_laws.specs.Rooted.{IsRooted}

find_passes : {X : Type 0} (test : X → Bool) (xs : List X) (x : X) → find test xs ≡ Some x → test x ≡ true
find_passes test [] x e = none_some x e
find_passes {X} test (y ∷ xs) x e = by (test y) refl e (find_passes test xs x)
  where
    by : (b : Bool) → test y ≡ b → cond b (Some y) (find test xs) ≡ Some x → (find test xs ≡ Some x → test x ≡ true) → test x ≡ true
    by true t i h = subst (λ z. test z ≡ true) (some_same y x i) t
    by false t i h = h i

find_behind : {X : Type 0} (f : X → Bool) (ps xs : List X) → list_any f ps ≡ false → find f (ps ++ xs) ≡ find f xs
find_behind f [] xs e = refl
find_behind {X} f (q ∷ ps) xs e = by (f q) e (find_behind f ps xs)
  where
    by : (b : Bool) → (b || list_any f ps) ≡ false → (list_any f ps ≡ false → find f (ps ++ xs) ≡ find f xs) → cond b (Some q) (find f (ps ++ xs)) ≡ find f xs
    by true e h = absurd (true≢false e)
    by false e h = h e

none_more : {X : Type 0} (f g : X → Bool) (xs : List X) → ((x : X) → g x ≡ true → f x ≡ true) → list_any f xs ≡ false → list_any g xs ≡ false
none_more f g [] h e = refl
none_more f g (x ∷ xs) h e = by (f x) (g x) (h x) e (none_more f g xs h)
  where
    by : (b c : Bool) → (c ≡ true → b ≡ true) → (b || list_any f xs) ≡ false → (list_any f xs ≡ false → list_any g xs ≡ false) → (c || list_any g xs) ≡ false
    by true c k e i = absurd (true≢false e)
    by false true k e i = absurd (true≢false (sym (k refl)))
    by false false k e i = i e

module _ (p : NamedProgram) (regular : IsRooted p) where
  abbrev tail : ℕ → NamedClass → Bool → List NamedClass
  tail n c b = if b then [] else line_from n p c.superclass

  abbrev line_by : ℕ → Option NamedClass → List NamedClass
  line_by n o = elim o as (λ o. List NamedClass) [ Some c ↦ c ∷ tail n c (is_interface c.flags) | None ↦ [] ]

  -- a line is as long as it is, whatever is allowed
  enough : (n m : ℕ) (t : Text) → EndsWithin p n t → EndsWithin p m t → line_from n p t ≡ line_from m p t
  enough zero zero t h k = refl
  enough zero (suc m) t h k = sym (ap (line_by m) h)
  enough (suc n) zero t h k = ap (line_by n) k
  enough (suc n) (suc m) t h k = by (class_named p t) refl (λ u. enough n m u)
    where
      ends : (c : NamedClass) (b : Bool) → line_from n p c.superclass ≡ line_from m p c.superclass → tail n c b ≡ tail m c b
      ends c true e = refl
      ends c false e = e

      by : (o : Option NamedClass) → class_named p t ≡ o → ((u : Text) → EndsWithin p n u → EndsWithin p m u → line_from n p u ≡ line_from m p u) → line_by n o ≡ line_by m o
      by None e again = refl
      by (Some c) e again = ap (λ l. c ∷ l) (ends c (is_interface c.flags) (again c.superclass (h c e) (k c e)))

  own_name : (t : Text) (c : NamedClass) → class_named p t ≡ Some c → c.name ≡ t
  own_name t c e = text_sound c.name t (find_passes (λ c. text_eq c.name t) p.classes c e)

  -- where the first of a line that passes a test stands
  pub record Splits (f : NamedClass → Bool) (xs : List NamedClass) (x : NamedClass) : Type 0 where
    pub front : List NamedClass
    pub none : list_any f front ≡ false
    pub same : xs ≡ front ++ line_of p x.name
    pub found : class_named p x.name ≡ Some x

  splits : (n : ℕ) (t : Text) → EndsWithin p n t → (f : NamedClass → Bool) (x : NamedClass) → find f (line_from n p t) ≡ Some x → Splits f (line_from n p t) x
  splits zero t h f x e = none_some x e
  splits (suc n) t h f x e = by (class_named p t) refl e (λ u k d. splits n u k f x d)
    where
      Again : Type 0
      Again = (u : Text) → EndsWithin p n u → find f (line_from n p u) ≡ Some x → Splits f (line_from n p u) x

      further : (c : NamedClass) (b : Bool) → f c ≡ false → EndsWithin p n c.superclass → find f (tail n c b) ≡ Some x → Again → Splits f (c ∷ tail n c b) x
      further c true g k d again = none_some x d
      further c false g k d again = let r = again c.superclass k d in
          record { front = c ∷ r.front; none = ap (λ b. b || list_any f r.front) g ∙ r.none; same = ap (λ l. c ∷ l) r.same; found = r.found }

      here : (c : NamedClass) → class_named p t ≡ Some c → c ≡ x → Splits f (line_by n (Some c)) x
      here c e i = record {
        front = [];
        none = refl;
        same = ap (line_by n) (sym e) ∙ enough (suc n) (length p.classes) t h (regular.ends t) ∙ ap (line_of p) (sym (own_name t c e) ∙ ap (λ c. c.name) i);
        found = ap (class_named p) (ap (λ c. c.name) (sym i) ∙ own_name t c e) ∙ e ∙ ap Some i;
      }

      by_test : (c : NamedClass) → class_named p t ≡ Some c → (b : Bool) → f c ≡ b → cond b (Some c) (find f (tail n c (is_interface c.flags))) ≡ Some x → Again → Splits f (line_by n (Some c)) x
      by_test c e true g d again = here c e (some_same c x d)
      by_test c e false g d again = further c (is_interface c.flags) g (h c e) d again

      by : (o : Option NamedClass) → class_named p t ≡ o → find f (line_by n o) ≡ Some x → Again → Splits f (line_by n o) x
      by None e d again = none_some x d
      by (Some c) e d again = by_test c e (f c) refl d again

  abbrev shares : Text → NamedClass → Bool
  shares t c = list_any (λ d. text_eq c.name d.name) (line_of p t)

  abbrev pub Near : Text → Text → Type 0
  Near s t = nearest p s t ≡ Some t

  -- the class that is nearest
  pub record Nearest (s t c : Text) : Type 0 where
    pub class : NamedClass
    pub finds : find (shares t) (line_of p s) ≡ Some class
    pub name : class.name ≡ c
    pub split : Splits (shares t) (line_of p s) class

  pub nearest_class : (s t c : Text) → nearest p s t ≡ Some c → Nearest s t c
  nearest_class s t c e = by (find (shares t) (line_of p s)) refl e
    where
      by : (o : Option NamedClass) → find (shares t) (line_of p s) ≡ o → option_map (λ (c : NamedClass). c.name) o ≡ Some c → Nearest s t c
      by None i d = none_some c d
      by (Some x) i d = record { class = x; finds = i; name = some_same x.name c d; split = splits (length p.classes) s (regular.ends s) (shares t) x i }

  pub near_trans : (s t v : Text) → Near s t → Near t v → Near s v
  near_trans s t v e d =
      let a = nearest_class s t t e in
      let b = nearest_class t v v d in
      let line : line_of p s ≡ a.split.front ++ line_of p t = a.split.same ∙ ap (λ u. a.split.front ++ line_of p u) a.name in
      let below : line_of p t ≡ b.split.front ++ line_of p v = b.split.same ∙ ap (λ u. b.split.front ++ line_of p u) b.name in
      ap (λ l. option_map (λ (c : NamedClass). c.name) (find (shares v) l)) line
      ∙ ap (option_map (λ (c : NamedClass). c.name)) (find_behind (shares v) a.split.front (line_of p t)
      (none_more (shares t) (shares v) a.split.front (λ c i. ap (list_any (λ d. text_eq c.name d.name)) below ∙ any_right (λ d. text_eq c.name d.name) b.split.front (line_of p v) i) a.split.none))
      ∙ d

  -- what has something near is a class's name, and so is what is near
  pub near_named : (s t c : Text) → nearest p s t ≡ Some c → is_class_type c ≡ true
  near_named s t c e = let a = nearest_class s t c e in subst (λ z. is_class_type z ≡ true) a.name (regular.named a.class.name a.class a.split.found)

  no_line : (n : ℕ) (t : Text) → class_named p t ≡ None → line_from n p t ≡ []
  no_line zero t e = refl
  no_line (suc n) t e = ap (line_by n) e

  pub from_named : (s t c : Text) → nearest p s t ≡ Some c → is_class_type s ≡ true
  from_named s t c e = by (class_named p s) refl
    where
      by : (o : Option NamedClass) → class_named p s ≡ o → is_class_type s ≡ true
      by None i = none_some c (sym (ap (λ l. option_map (λ (c : NamedClass). c.name) (find (shares t) l)) (no_line (length p.classes) s i)) ∙ e)
      by (Some x) i = regular.named s x i

  none_found : (xs : List NamedClass) → find (λ (c : NamedClass). false) xs ≡ None
  none_found [] = refl
  none_found (x ∷ xs) = none_found xs

  pub none_to_object : (s : Text) → nearest p s object_type ≡ None
  none_to_object s = ap (λ l. option_map (λ (c : NamedClass). c.name) (find (λ c. list_any (λ d. text_eq c.name d.name) l) (line_of p s))) (no_line (length p.classes) object_type regular.rooted)
      ∙ ap (option_map (λ (c : NamedClass). c.name)) (none_found (line_of p s))

  pub none_from_object : (t : Text) → nearest p object_type t ≡ None
  none_from_object t = ap (λ l. option_map (λ (c : NamedClass). c.name) (find (shares t) l)) (no_line (length p.classes) object_type regular.rooted)
