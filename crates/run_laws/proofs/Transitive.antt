-- A type that is under another is under all that this is under, whatever the lists of the program and the rows of the
-- framework say, where the program doesn't define Object. The walks that decide it are bounded. So of a walk as long as two
-- together what lies between two visits of a type is left out: then it meets each class and each row at most once, and at
-- most one step more leads from a type without a row to Object, from where none goes on.
use Rattle.std.proofs.Common.{◌≡◌, ℕ, zero, suc, ◌+◌, ◌<◌, ◌≤◌, Bool, true, false, true≢false, List, [], ◌∷◌, ◌++◌, Option, Some, None, ◌⊎◌, inl, inr, refl, sym, ap, ◌∙◌, subst, arith, length-append}
use Rattle.std.specs.Prelude.{◌&&◌, ◌||◌, not, length, map, find, if◌then◌else◌}
use Rattle.std.specs.List.{list_any, AllByRecursion, IsDistinct}
use Rattle.std.specs.Cmp.{IsEquivalence}
use Rattle.std.proofs.lemmas.List.{length-map}
use Rattle.std.proofs.lemmas.Map.Made.{length-le_from_is_member}
use Rattle.std.specs.Cmp.Lexicographic.{bytes_decides}
use Rattle.dalvik_defs.proofs.Calm.{text_sound}
use Rattle.dalvik_defs.specs.Names.{Text, text_eq, is_array, is_reference, object_type}
use Rattle.dalvik_defs.specs.Known.{known_rows}
use Rattle.dalvik_defs.specs.Under.{class_named, defines, row_named, above_row, above_in, directly_above, walks, walk_bound, class_under, is_under}
use Rattle.dalvik_defs.specs.declared.program.NamedClass.{NamedClass}
use Rattle.dalvik_defs.specs.declared.program.NamedProgram.{NamedProgram}
use Rattle.dalvik_defs.specs.declared.tables.Framework.{Framework}
use Rattle.dalvik_defs.specs.declared.tables.FrameworkType.{FrameworkType}

-- ---- lists of texts

abbrev has : Text → List Text → Bool
has t ts = list_any (text_eq t) ts

text_same : (t : Text) → text_eq t t ≡ true
text_same t = (bytes_decides t t).1 refl

or_cases : (a b : Bool) → (a || b) ≡ true → (a ≡ true) ⊎ (b ≡ true)
or_cases true b e = inl refl
or_cases false b e = inr e

or_here : (a b : Bool) → a ≡ true → (a || b) ≡ true
or_here true b e = refl
or_here false b e = absurd (true≢false (sym e))

or_there : (a b : Bool) → b ≡ true → (a || b) ≡ true
or_there true b e = refl
or_there false b e = e

both_false : (a b : Bool) → (a || b) ≡ false → (a ≡ false) × (b ≡ false)
both_false true b e = absurd (true≢false e)
both_false false b e = (refl, e)

text_turns : (s t : Text) → text_eq s t ≡ text_eq t s
text_turns s t = by (text_eq s t) (text_eq t s) refl refl
  where
    by : (a b : Bool) → text_eq s t ≡ a → text_eq t s ≡ b → a ≡ b
    by true true i j = refl
    by false false i j = refl
    by true false i j = absurd (true≢false (sym (text_same t) ∙ (ap (λ x. text_eq t x) (sym (text_sound s t i)) ∙ j)))
    by false true i j = absurd (true≢false (sym (text_same s) ∙ (ap (λ x. text_eq s x) (sym (text_sound t s j)) ∙ i)))

text_laws : IsEquivalence text_eq
text_laws = record { refl = text_same; symm = text_turns; congr = λ s t u e. ap (λ x. text_eq x u) (text_sound s t e) }

-- no text stands twice
abbrev Once : List Text → Type 0
Once [] = Unit {0}
Once (t ∷ ts) = (has t ts ≡ false) × Once ts

apart : (t : Text) (ts : List Text) → has t ts ≡ false → AllByRecursion (λ u. text_eq t u ≡ false) ts
apart t [] e = tt
apart t (u ∷ ts) e = let h = both_false (text_eq t u) (has t ts) e in (h.0, apart t ts h.1)

distinct : (ts : List Text) → Once ts → IsDistinct text_eq ts
unfolding IsDistinct
distinct [] h = tt
distinct (t ∷ ts) h = (apart t ts h.0, distinct ts h.1)

no_more : (ts us : List Text) → Once ts → ((t : Text) → has t ts ≡ true → has t us ≡ true) → length ts ≤ length us
no_more ts us h in_more = length-le_from_is_member text_laws ts us (distinct ts h) in_more

has_left : (t : Text) (ts us : List Text) → has t ts ≡ true → has t (ts ++ us) ≡ true
has_left t [] us e = absurd (true≢false (sym e))
has_left t (x ∷ ts) us e = by (text_eq t x) e (has_left t ts us)
  where
    by : (b : Bool) → (b || has t ts) ≡ true → (has t ts ≡ true → has t (ts ++ us) ≡ true) → (b || has t (ts ++ us)) ≡ true
    by true i more = refl
    by false i more = more i

has_right : (t : Text) (ts us : List Text) → has t us ≡ true → has t (ts ++ us) ≡ true
has_right t [] us e = e
has_right t (x ∷ ts) us e = or_there (text_eq t x) (has t (ts ++ us)) (has_right t ts us e)

-- what is found by its name has it among the names
named_there : {A : Type 0} (name : A → Text) (t : Text) (xs : List A) (x : A) → find (λ x. text_eq (name x) t) xs ≡ Some x → has t (map name xs) ≡ true
named_there name t [] x e = absurd (true≢false (ap (λ o. elim o as (λ o. Bool) [ Some z ↦ false | None ↦ true ]) e))
named_there name t (y ∷ ys) x e = by (text_eq (name y) t) refl e (named_there name t ys x)
  where
    by : (b : Bool) → text_eq (name y) t ≡ b → (if b then Some y else find (λ x. text_eq (name x) t) ys) ≡ Some x → (find (λ x. text_eq (name x) t) ys ≡ Some x → has t (map name ys) ≡ true) → (text_eq t (name y) || has t (map name ys)) ≡ true
    by true i j more = or_here (text_eq t (name y)) (has t (map name ys)) (text_turns t (name y) ∙ i)
    by false i j more = or_there (text_eq t (name y)) (has t (map name ys)) (more j)

module _ (p : NamedProgram) (f : Framework) (none : defines p object_type ≡ false) where
  abbrev above : Text → List Text
  above = directly_above p f

  -- the types that have a class or a row
  abbrev names : List Text
  names = map (λ c. c.name) p.classes ++ map (λ r. r.name) (known_rows ++ f.rows)

  names_long : length names ≡ length p.classes + length (known_rows ++ f.rows)
  names_long = length-append (map (λ c. c.name) p.classes) (map (λ r. r.name) (known_rows ++ f.rows))
      ∙ (ap (λ n. n + length (map (λ r. r.name) (known_rows ++ f.rows))) (length-map p.classes (λ c. c.name)) ∙ ap (λ n. length p.classes + n) (length-map (known_rows ++ f.rows) (λ r. r.name)))

  class_there : (t : Text) (c : NamedClass) → class_named p t ≡ Some c → has t names ≡ true
  class_there t c e = has_left t (map (λ c. c.name) p.classes) (map (λ r. r.name) (known_rows ++ f.rows)) (named_there (λ c. c.name) t p.classes c e)

  row_there : (t : Text) (r : FrameworkType) → row_named f t ≡ Some r → has t names ≡ true
  row_there t r e = has_right t (map (λ c. c.name) p.classes) (map (λ r. r.name) (known_rows ++ f.rows)) (named_there (λ r. r.name) t (known_rows ++ f.rows) r e)

  -- nothing stands above Object, and Object alone above a type without a class and a row
  over_object : (u : Text) → has u (above object_type) ≡ true → ⊥
  over_object u h = by (class_named p object_type) none h
    where
      by : (o : Option NamedClass) → (elim o as (λ o. Bool) [ Some c ↦ true | None ↦ false ]) ≡ false → has u (above_in p f object_type o) ≡ true → ⊥
      by (Some c) i j = true≢false i
      by None i j = true≢false (sym j)

  over_unnamed : (s u : Text) → has s names ≡ false → has u (above s) ≡ true → u ≡ object_type
  over_unnamed s u e h = by (class_named p s) refl h
    where
      by : (o : Option NamedClass) → class_named p s ≡ o → has u (above_in p f s o) ≡ true → u ≡ object_type
      by (Some c) i j = absurd (true≢false (sym (class_there s c i) ∙ e))
      by None i j = two (text_eq s object_type) (row_named f s) refl j
        where
          two : (b : Bool) (r : Option FrameworkType) → row_named f s ≡ r → has u (elim b as (λ b. List Text) [ true ↦ [] | false ↦ above_row p s r ]) ≡ true → u ≡ object_type
          two true r k l = absurd (true≢false (sym l))
          two false (Some r) k l = absurd (true≢false (sym (row_there s r k) ∙ e))
          two false None k l = one (or_cases (text_eq u object_type) false l)
            where
              one : (text_eq u object_type ≡ true) ⊎ (false ≡ true) → u ≡ object_type
              one (inl m) = text_sound u object_type m
              one (inr m) = absurd (true≢false (sym m))

  -- ---- walks by the named types that they meet; one step more may lead to the end

  abbrev Walk : Text → Text → List Text → Type 0
  Walk t s [] = (s ≡ t) ⊎ (has t (above s) ≡ true)
  Walk t s (v ∷ vs) = (s ≡ v) × ((has s names ≡ true) × ((u : Text) × ((has u (above s) ≡ true) × Walk t u vs)))

  record Short (t s : Text) : Type 0 where
    pub met : List Text
    pub walk : Walk t s met
    pub once : Once met

  -- from a type that is met on the way
  cut : (t s u : Text) (vs : List Text) → Walk t u vs → Once vs → has s vs ≡ true → Short t s
  cut t s u [] k o e = absurd (true≢false (sym e))
  cut t s u (v ∷ vs) (i, (n, (x, (h, k)))) o e = by (text_eq s v) refl e (cut t s x vs k o.1)
    where
      by : (b : Bool) → text_eq s v ≡ b → (b || has s vs) ≡ true → (has s vs ≡ true → Short t s) → Short t s
      by true j l more = let same : s ≡ u = text_sound s v j ∙ sym i in
          record { met = v ∷ vs; walk = (text_sound s v j, (subst (λ y. has y names ≡ true) (sym same) n, (x, (subst (λ y. has x (above y) ≡ true) (sym same) h, k)))); once = o }
      by false j l more = more l

  -- a step more in front
  longer : (t s u : Text) → has u (above s) ≡ true → Short t u → Short t s
  longer t s u h k = by (has s k.met) (has s names) refl refl
    where
      -- Object is the end
      at_object : u ≡ object_type → (vs : List Text) → Walk t u vs → Short t s
      at_object e [] (inl i) = record { met = []; walk = inr (subst (λ y. has y (above s) ≡ true) i h); once = tt }
      at_object e [] (inr i) = absurd (over_object t (subst (λ y. has t (above y) ≡ true) e i))
      at_object e (v ∷ vs) (i, (n, (x, (j, l)))) = absurd (over_object x (subst (λ y. has x (above y) ≡ true) e j))

      by : (a b : Bool) → has s k.met ≡ a → has s names ≡ b → Short t s
      by true b i j = cut t s u k.met k.walk k.once i
      by false true i j = record { met = s ∷ k.met; walk = (refl, (j, (u, (h, k.walk)))); once = (i, k.once) }
      by false false i j = at_object (over_unnamed s u j h) k.met k.walk

  some_above : (n : ℕ) (t : Text) (xs : List Text) → list_any (λ u. walks above n u t) xs ≡ true → (u : Text) × ((has u xs ≡ true) × (walks above n u t ≡ true))
  some_above n t [] e = absurd (true≢false (sym e))
  some_above n t (x ∷ xs) e = by (or_cases (walks above n x t) (list_any (λ u. walks above n u t) xs) e) (some_above n t xs)
    where
      by : (walks above n x t ≡ true) ⊎ (list_any (λ u. walks above n u t) xs ≡ true) → (list_any (λ u. walks above n u t) xs ≡ true → (u : Text) × ((has u xs ≡ true) × (walks above n u t ≡ true)))
          → (u : Text) × ((has u (x ∷ xs) ≡ true) × (walks above n u t ≡ true))
      by (inl i) more = (x, (or_here (text_eq x x) (has x xs) (text_same x), i))
      by (inr i) more = let h = more i in (h.0, (or_there (text_eq h.0 x) (has h.0 xs) h.1.0, h.1.1))

  -- a walk, and then what is known from its end
  shortened : (n : ℕ) (s t u : Text) → walks above n s t ≡ true → Short u t → Short u s
  shortened zero s t u e k = subst (Short u) (sym (text_sound s t e)) k
  shortened (suc n) s t u e k = by (text_eq s t) refl e (λ x i. shortened n x t u i k)
    where
      by : (b : Bool) → text_eq s t ≡ b → (elim b as (λ b. Bool) [ true ↦ true | false ↦ list_any (λ u. walks above n u t) (above s) ]) ≡ true → ((x : Text) → walks above n x t ≡ true → Short u x) → Short u s
      by true i j more = subst (Short u) (sym (text_sound s t i)) k
      by false i j more = let h = some_above n t (above s) j in longer u s h.0 h.1.0 (more h.0 h.1.1)

  -- ---- back to bounded walks

  self : (n : ℕ) (t : Text) → walks above n t t ≡ true
  self zero t = text_same t
  self (suc n) t = ap (λ b. elim b as (λ b. Bool) [ true ↦ true | false ↦ list_any (λ u. walks above n u t) (above t) ]) (text_same t)

  any_above : (n : ℕ) (t u : Text) (xs : List Text) → has u xs ≡ true → walks above n u t ≡ true → list_any (λ x. walks above n x t) xs ≡ true
  any_above n t u [] e k = absurd (true≢false (sym e))
  any_above n t u (x ∷ xs) e k = by (text_eq u x) refl e (λ i. any_above n t u xs i k)
    where
      by : (b : Bool) → text_eq u x ≡ b → (b || has u xs) ≡ true → (has u xs ≡ true → list_any (λ x. walks above n x t) xs ≡ true) → (walks above n x t || list_any (λ x. walks above n x t) xs) ≡ true
      by true i j more = or_here (walks above n x t) (list_any (λ x. walks above n x t) xs) (subst (λ y. walks above n y t ≡ true) (text_sound u x i) k)
      by false i j more = or_there (walks above n x t) (list_any (λ x. walks above n x t) xs) (more j)

  stepped : (n : ℕ) (s t u : Text) → has u (above s) ≡ true → walks above n u t ≡ true → walks above (suc n) s t ≡ true
  stepped n s t u h k = by (text_eq s t)
    where
      by : (b : Bool) → (elim b as (λ b. Bool) [ true ↦ true | false ↦ list_any (λ u. walks above n u t) (above s) ]) ≡ true
      by true = refl
      by false = any_above n t u (above s) h k

  bounded : (n : ℕ) (vs : List Text) (t s : Text) → Walk t s vs → length vs < n → walks above n s t ≡ true
  bounded zero vs t s k l = absurd (omega (arith, l))
  bounded (suc n) [] t s (inl i) l = subst (λ y. walks above (suc n) s y ≡ true) i (self (suc n) s)
  bounded (suc n) [] t s (inr i) l = stepped n s t t i (self n t)
  bounded (suc n) (v ∷ vs) t s (i, (m, (u, (h, k)))) l = stepped n s t u h (bounded n vs t u k (omega (arith, l)))

  all_named : (vs : List Text) (t s : Text) → Walk t s vs → (v : Text) → has v vs ≡ true → has v names ≡ true
  all_named [] t s k v e = absurd (true≢false (sym e))
  all_named (x ∷ vs) t s (i, (m, (u, (h, k)))) v e = by (or_cases (text_eq v x) (has v vs) e) (all_named vs t u k v)
    where
      by : (text_eq v x ≡ true) ⊎ (has v vs ≡ true) → (has v vs ≡ true → has v names ≡ true) → has v names ≡ true
      by (inl j) more = subst (λ y. has y names ≡ true) (i ∙ sym (text_sound v x j)) m
      by (inr j) more = more j

  class_transitive : (s t u : Text) → class_under p f s t ≡ true → class_under p f t u ≡ true → class_under p f s u ≡ true
  class_transitive s t u e i = let k = shortened (walk_bound p f) s t u e (shortened (walk_bound p f) t u u i (record { met = []; walk = inl refl; once = tt })) in
      let l = no_more k.met names k.once (all_named k.met u s k.walk) in
      bounded (walk_bound p f) k.met u s k.walk (omega (arith, l, names_long))

  -- ---- types

  object_top : (u : Text) → class_under p f object_type u ≡ true → u ≡ object_type
  object_top u e = by (shortened (walk_bound p f) object_type u u e (record { met = []; walk = inl refl; once = tt }))
    where
      at : (vs : List Text) → Walk u object_type vs → u ≡ object_type
      at [] (inl i) = sym i
      at [] (inr i) = absurd (over_object u i)
      at (v ∷ vs) (i, (m, (x, (h, k)))) = absurd (over_object x h)

      by : Short u object_type → u ≡ object_type
      by k = at k.met k.walk

  -- what an array is under: itself, Object, or an array with an item type above its own
  data Over (x : ℕ) (s t : Text) : Type 0 where
    Same : x ∷ s ≡ t → Over x s t
    Top : t ≡ object_type → Over x s t
    Items : (y : ℕ) (u : Text) → t ≡ y ∷ u → is_array (y ∷ u) ≡ true → is_reference s ≡ true → is_reference u ≡ true → is_under p f s u ≡ true → Over x s t

  array_under : (x : ℕ) (s : Text) (y : ℕ) (t : Text) → is_array (x ∷ s) ≡ true
      → is_under p f (x ∷ s) (y ∷ t) ≡ (text_eq (x ∷ s) (y ∷ t) || text_eq (y ∷ t) object_type || (is_array (y ∷ t) && is_reference s && is_reference t && is_under p f s t))
  array_under x s y t a = ap (λ b. elim b as (λ b. Bool) [
    | false ↦ not (is_array (y ∷ t)) && class_under p f (x ∷ s) (y ∷ t)
    | true ↦ text_eq (x ∷ s) (y ∷ t) || text_eq (y ∷ t) object_type || (is_array (y ∷ t) && is_reference s && is_reference t && is_under p f s t)
  ]) a

  class_alone_under : (x : ℕ) (s : Text) (y : ℕ) (t : Text) → is_array (x ∷ s) ≡ false → is_under p f (x ∷ s) (y ∷ t) ≡ (not (is_array (y ∷ t)) && class_under p f (x ∷ s) (y ∷ t))
  class_alone_under x s y t a = ap (λ b. elim b as (λ b. Bool) [
    | false ↦ not (is_array (y ∷ t)) && class_under p f (x ∷ s) (y ∷ t)
    | true ↦ text_eq (x ∷ s) (y ∷ t) || text_eq (y ∷ t) object_type || (is_array (y ∷ t) && is_reference s && is_reference t && is_under p f s t)
  ]) a

  both_true : (a b : Bool) → (a && b) ≡ true → (a ≡ true) × (b ≡ true)
  both_true true b e = (refl, e)
  both_true false b e = absurd (true≢false (sym e))

  and_both : (a b : Bool) → a ≡ true → b ≡ true → (a && b) ≡ true
  and_both true b e i = i
  and_both false b e i = absurd (true≢false (sym e))

  over : (x : ℕ) (s t : Text) → is_array (x ∷ s) ≡ true → is_under p f (x ∷ s) t ≡ true → Over x s t
  over x s [] a e = absurd (true≢false (sym e))
  over x s (y ∷ t) a e = by (or_cases (text_eq (x ∷ s) (y ∷ t) || text_eq (y ∷ t) object_type) (is_array (y ∷ t) && is_reference s && is_reference t && is_under p f s t) (sym (array_under x s y t a) ∙ e))
    where
      first : (text_eq (x ∷ s) (y ∷ t) ≡ true) ⊎ (text_eq (y ∷ t) object_type ≡ true) → Over x s (y ∷ t)
      first (inl i) = Same (text_sound (x ∷ s) (y ∷ t) i)
      first (inr i) = Top (text_sound (y ∷ t) object_type i)

      by : ((text_eq (x ∷ s) (y ∷ t) || text_eq (y ∷ t) object_type) ≡ true) ⊎ ((is_array (y ∷ t) && is_reference s && is_reference t && is_under p f s t) ≡ true) → Over x s (y ∷ t)
      by (inl i) = first (or_cases (text_eq (x ∷ s) (y ∷ t)) (text_eq (y ∷ t) object_type) i)
      by (inr i) = let h = both_true (is_array (y ∷ t) && is_reference s && is_reference t) (is_under p f s t) i in
          let k = both_true (is_array (y ∷ t) && is_reference s) (is_reference t) h.0 in
          let l = both_true (is_array (y ∷ t)) (is_reference s) k.0 in Items y t refl l.0 l.1 k.1 h.1

  over_under : (x : ℕ) (s t : Text) → is_array (x ∷ s) ≡ true → Over x s t → is_under p f (x ∷ s) t ≡ true
  over_under x s t a (Same e) = subst (λ y. is_under p f (x ∷ s) y ≡ true) e (array_under x s x s a
      ∙ or_here (text_eq (x ∷ s) (x ∷ s) || text_eq (x ∷ s) object_type) (is_array (x ∷ s) && is_reference s && is_reference s && is_under p f s s) (or_here (text_eq (x ∷ s) (x ∷ s)) (text_eq (x ∷ s) object_type) (text_same (x ∷ s))))
  over_under x s t a (Top e) = subst (λ y. is_under p f (x ∷ s) y ≡ true) (sym e) (by object_type refl)
    where
      by : (o : Text) → o ≡ object_type → is_under p f (x ∷ s) o ≡ true
      by [] i = absurd (true≢false (ap (λ y. elim y as (λ y. Bool) [ [] ↦ true | z ∷ zs ↦ false ]) i))
      by (y ∷ o) i = array_under x s y o a ∙ or_here (text_eq (x ∷ s) (y ∷ o) || text_eq (y ∷ o) object_type) (is_array (y ∷ o) && is_reference s && is_reference o && is_under p f s o)
          (or_there (text_eq (x ∷ s) (y ∷ o)) (text_eq (y ∷ o) object_type) (subst (λ z. text_eq (y ∷ o) z ≡ true) i (text_same (y ∷ o))))
  over_under x s t a (Items y u e b r q i) = subst (λ z. is_under p f (x ∷ s) z ≡ true) (sym e) (array_under x s y u a ∙ or_there (text_eq (x ∷ s) (y ∷ u) || text_eq (y ∷ u) object_type) (is_array (y ∷ u) && is_reference s && is_reference u && is_under p f s u)
      (and_both (is_array (y ∷ u) && is_reference s && is_reference u) (is_under p f s u) (and_both (is_array (y ∷ u) && is_reference s) (is_reference u) (and_both (is_array (y ∷ u)) (is_reference s) b r) q) i))

  not_true : (b : Bool) → not b ≡ true → b ≡ false
  not_true true e = absurd (true≢false (sym e))
  not_true false e = refl

  over_top : (u : Text) → is_under p f object_type u ≡ true → u ≡ object_type
  over_top [] e = absurd (true≢false (sym e))
  over_top (y ∷ u) e = object_top (y ∷ u) (both_true (not (is_array (y ∷ u))) (class_under p f object_type (y ∷ u)) e).1

  pub under_transitive : (s t u : Text) → is_under p f s t ≡ true → is_under p f t u ≡ true → is_under p f s u ≡ true
  under_transitive [] t u e i = absurd (true≢false (sym e))
  under_transitive (x ∷ s) t u e i = by (is_array (x ∷ s)) refl (λ t u j k. under_transitive s t u j k)
    where
      arrays : is_array (x ∷ s) ≡ true → ((t u : Text) → is_under p f s t ≡ true → is_under p f t u ≡ true → is_under p f s u ≡ true) → Over x s t → is_under p f (x ∷ s) u ≡ true
      arrays a more (Same j) = subst (λ y. is_under p f y u ≡ true) (sym j) i
      arrays a more (Top j) = over_under x s u a (Top (over_top u (subst (λ y. is_under p f y u ≡ true) j i)))
      arrays a more (Items y v j b r q k) = on (over y v u b (subst (λ z. is_under p f z u ≡ true) j i))
        where
          on : Over y v u → is_under p f (x ∷ s) u ≡ true
          on (Same l) = over_under x s u a (Items y v (sym l) b r q k)
          on (Top l) = over_under x s u a (Top l)
          on (Items z w l c m n h) = over_under x s u a (Items z w l c r n (more v w k h))

      classes : is_array (x ∷ s) ≡ false → (t u : Text) → is_under p f (x ∷ s) t ≡ true → is_under p f t u ≡ true → is_under p f (x ∷ s) u ≡ true
      classes a [] u j k = absurd (true≢false (sym j))
      classes a (y ∷ t) [] j k = absurd (true≢false (sym k))
      classes a (y ∷ t) (z ∷ u) j k = class_alone_under x s z u a ∙ and_both (not (is_array (z ∷ u))) (class_under p f (x ∷ s) (z ∷ u)) second.0 (class_transitive (x ∷ s) (y ∷ t) (z ∷ u) first.1 second.1)
        where
          first : (not (is_array (y ∷ t)) ≡ true) × (class_under p f (x ∷ s) (y ∷ t) ≡ true)
          first = both_true (not (is_array (y ∷ t))) (class_under p f (x ∷ s) (y ∷ t)) (sym (class_alone_under x s y t a) ∙ j)

          second : (not (is_array (z ∷ u)) ≡ true) × (class_under p f (y ∷ t) (z ∷ u) ≡ true)
          second = both_true (not (is_array (z ∷ u))) (class_under p f (y ∷ t) (z ∷ u)) (sym (class_alone_under y t z u (not_true (is_array (y ∷ t)) first.0)) ∙ k)

      by : (b : Bool) → is_array (x ∷ s) ≡ b → ((t u : Text) → is_under p f s t ≡ true → is_under p f t u ≡ true → is_under p f s u ≡ true) → is_under p f (x ∷ s) u ≡ true
      by true a more = arrays a more (over x s t a e)
      by false a more = classes a t u e i
