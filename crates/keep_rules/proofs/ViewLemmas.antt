-- The tables of a view.
use Rattle.std.proofs.Common.{◌≡◌, ℕ, zero, suc, ◌+◌, ◌<◌, ◌≤◌, Bool, true, false, true≢false, nat_eq, List, [], ◌∷◌, ◌++◌, length, set, get_or, take, Option, Some, None, refl, sym, ap, subst, ◌∙◌, arith, ◌⊎◌, inl, inr, lt-ltb, ltb-true}
use Rattle.std.specs.Prelude.{◌&&◌, ◌||◌, cond, slice_get, nat_lt, Vec}
use Rattle.std.specs.List.{list_any}
use Rattle.std.specs.Cmp.Lexicographic.{bytes_decides}
use Rattle.std.specs.HashMap.{HashMap}
use Rattle.std.proofs.Common.{Bor}
use Rattle.std.specs.declared.alloc.Global.{Global}
use Rattle.std.proofs.lemmas.Bool.{cases_lt}
use Rattle.std.proofs.lemmas.List.{length-set, length_push, take_all}
use Rattle.std.proofs.lemmas.List.Folds.{list_any_more}
use Rattle.std.proofs.lemmas.Option.{slice_get_past}
use Rattle.program_model.specs.declared.pools.MethodName.{MethodName}
use Rattle.program_model.specs.declared.program.Class.{Class}
use Rattle.program_model.specs.declared.program.Program.{Program}
use Rattle.dalvik_defs.specs.Names.{text_eq}
use Rattle.dalvik_defs.specs.Naming.{type_at}
use Rattle.class_defs.proofs.Positions.{same_test, number_of, number_test}
use Rattle.class_defs.proofs.WellFormed.{Sound}
use Rattle.name_bridge.proofs.Tables.{type_once}
use Rattle.keep_rules.specs.Table.{has}
use Rattle.keep_rules.specs.Rows.{row_in}
use Rattle.keep_rules.specs.View.{AreRows, AreEmpty, AddsTo, AddsEach, is_below, is_method_of, kind_of, last_type, IsTypes}
use Rattle.keep_rules.proofs.AnyLemmas.{has_last}

-- ---- types by their descriptors

last_is : (p : Program) (t : List ℕ) (n k : ℕ) → last_type p t n ≡ Some k → (k < n) × (type_at p k ≡ t)
last_is p t zero k e = cc
last_is p t (suc n) k e = step (text_eq (type_at p n) t) refl e (last_is p t n k)
  where
    step : (b : Bool) → text_eq (type_at p n) t ≡ b → cond b (Some n) (last_type p t n) ≡ Some k → (last_type p t n ≡ Some k → (k < n) × (type_at p k ≡ t)) → (k < suc n) × (type_at p k ≡ t)
    step true h g r = let s : n ≡ k = cc in (omega (arith, s), ap (type_at p) (sym s) ∙ (bytes_decides (type_at p n) t).0 h)
    step false h g r = let x = r g in let l = x.0 in (omega (arith, l), x.1)

last_has : (p : Program) → Sound p → (k : ℕ) → k < length p.types → (n : ℕ) → n ≤ length p.types → k < n → last_type p (type_at p k) n ≡ Some k
last_has p s k h zero l lt = absurd (omega (arith, lt))
last_has p s k h (suc n) l lt = step (λ less. last_has p s k h n (omega (arith, l)) less) (text_eq (type_at p n) (type_at p k)) refl
  where
    inside : n < length p.types
    inside = omega (arith, l)

    less : text_eq (type_at p n) (type_at p k) ≡ false → k < n
    less e = elim (cases_lt k n) [
      | inl g ↦ g
      | inr g ↦ let same : n ≡ k = omega (arith, lt, g) in absurd (true≢false (sym ((bytes_decides (type_at p n) (type_at p k)).1 (ap (type_at p) same)) ∙ e))
    ]

    step : (k < n → last_type p (type_at p k) n ≡ Some k) → (b : Bool) → text_eq (type_at p n) (type_at p k) ≡ b → cond b (Some n) (last_type p (type_at p k) n) ≡ Some k
    step more true e = ap (λ m. Some m) (type_once p s n k inside h ((bytes_decides (type_at p n) (type_at p k)).0 e))
    step more false e = more (less e)

pub last_more : (p : Program) (t : List ℕ) (k : ℕ) (o new : Option ℕ) → o ≡ last_type p t k → new ≡ cond (text_eq (type_at p k) t) (Some k) o → new ≡ last_type p t (k + 1)
last_more p t k o new e s = s ∙ ap (λ x. cond (text_eq (type_at p k) t) (Some k) x) e ∙ ap (last_type p t) (let z : suc k ≡ k + 1 = omega arith in z)

pub types_are : {S : Type 0} (p : Program) → Sound p → (types : HashMap (Bor (List ℕ)) ℕ S) → ((t : List ℕ) → kind_of types t ≡ last_type p t (length p.types)) → IsTypes p types
types_are p s types h = record {
  sound = λ t k e. last_is p t (length p.types) k (sym (h t) ∙ e);
  whole = λ k l. h (type_at p k) ∙ last_has p s k l (length p.types) (omega arith) l;
}

-- ---- rows

get_set_same : {A : Type 0} (xs : List A) (k : ℕ) (x : A) → k < length xs → slice_get (set xs k x) k ≡ Some x
get_set_same [] k x h = absurd (omega arith)
get_set_same (y ∷ ys) zero x h = refl
get_set_same (y ∷ ys) (suc k) x h = get_set_same ys k x (omega arith)

get_set_other : {A : Type 0} (xs : List A) (k j : ℕ) (x : A) → (j ≡ k → ⊥) → slice_get (set xs k x) j ≡ slice_get xs j
get_set_other [] k j x h = refl
get_set_other (y ∷ ys) zero zero x h = absurd (h refl)
get_set_other (y ∷ ys) zero (suc j) x h = refl
get_set_other (y ∷ ys) (suc k) zero x h = refl
get_set_other (y ∷ ys) (suc k) (suc j) x h = get_set_other ys k j x (λ e. h (ap suc e))

or_none : (a : Bool) → (a || false) ≡ a
or_none true = refl
or_none false = refl

unequal : (a b : ℕ) → (a ≡ b → ⊥) → nat_eq a b ≡ false
unequal a b h = step (nat_eq a b) refl
  where
    step : (x : Bool) → nat_eq a b ≡ x → x ≡ false
    step true e = absurd (h (number_of a b e))
    step false e = refl

abbrev pub items_of : Option (Vec ℕ Global) → List ℕ
items_of None = []
items_of (Some row) = row.items

pub row_added : (old new : List (Vec ℕ Global)) (k n : ℕ) (row : Vec ℕ Global) → k < length old → new ≡ set old k row → row.items ≡ row_in old k ++ n ∷ [] → AddsTo k n old new
row_added old new k n row h e is = record {
  size = ap length e ∙ length-set old k row;
  are = λ j m l. ap (λ rows. has (row_in rows j) m) e ∙ step j m (nat_eq j k) refl;
}
  where
    step : (j m : ℕ) → (b : Bool) → nat_eq j k ≡ b → has (row_in (set old k row) j) m ≡ (has (row_in old j) m || (b && nat_eq m n))
    step j m true g = let same : j ≡ k = number_of j k g in
        ap (λ i. has (row_in (set old k row) i) m) same
        ∙ ap (λ o. has (elim o as (λ o. List ℕ) [ Some r ↦ r.items | None ↦ [] ]) m) (get_set_same old k row h)
        ∙ ap (λ l. has l m) is
        ∙ has_last (row_in old k) n m
        ∙ ap (λ i. has (row_in old i) m || nat_eq m n) (sym same)
    step j m false g = ap (λ o. has (elim o as (λ o. List ℕ) [ Some r ↦ r.items | None ↦ [] ]) m) (get_set_other old k j row (λ s. true≢false (sym (number_test j k s) ∙ g)))
        ∙ sym (or_none (has (row_in old j) m))

pub row_value : (rows : List (Vec ℕ Global)) (k : ℕ) (row : Vec ℕ Global) → k < length rows → row ≡ get_or rows k row → row_in rows k ≡ row.items
row_value [] k row h e = absurd (omega (arith, h))
row_value (x ∷ xs) zero row h e = ap (λ (r : Vec ℕ Global). r.items) (sym e)
row_value (x ∷ xs) (suc k) row h e = row_value xs k row (omega (arith, h)) e

pub row_past : (old : List (Vec ℕ Global)) (k n : ℕ) → length old ≤ k → AddsTo k n old old
row_past old k n h = record {
  size = refl;
  are = λ j m l. sym (ap (λ b. has (row_in old j) m || (b && nat_eq m n)) (unequal j k (λ e. let w : k < length old = omega (arith, l, e) in absurd (omega (arith, h, w)))) ∙ or_none (has (row_in old j) m));
}

pub each_none : (n : ℕ) (old : List (Vec ℕ Global)) → AddsEach [] n old old
each_none n old = record { size = refl; are = λ j m l. sym (or_none (has (row_in old j) m)) }

joined : (h a e m : Bool) → ((h || (a && m)) || (e && m)) ≡ (h || ((a || e) && m))
joined true a e m = refl
joined false true e true = refl
joined false true true false = refl
joined false true false false = refl
joined false false e m = refl

pub each_more : (ks : List ℕ) (i k n : ℕ) (old mid new : List (Vec ℕ Global)) → i < length ks → k ≡ get_or ks i k → AddsEach (take i ks) n old mid → AddsTo k n mid new → AddsEach (take (i + 1) ks) n old new
each_more ks i k n old mid new h e a b = record {
  size = b.size ∙ a.size;
  are = λ j m l. b.are j m (subst (λ x. j < x) (sym a.size) l)
      ∙ ap (λ x. x || (nat_eq j k && nat_eq m n)) (a.are j m l)
      ∙ joined (has (row_in old j) m) (list_any (nat_eq j) (take i ks)) (nat_eq j k) (nat_eq m n)
      ∙ ap (λ x. has (row_in old j) m || (x && nat_eq m n)) (ap (λ x. list_any (nat_eq j) (take i ks) || nat_eq j x) e ∙ sym (list_any_more (nat_eq j) ks i k h));
}

pub each_end : (ks : List ℕ) (i n : ℕ) (old new : List (Vec ℕ Global)) → length ks ≤ i → AddsEach (take i ks) n old new → AddsEach ks n old new
each_end ks i n old new h a = subst (λ l. AddsEach l n old new) (take_all i ks h) a

pub each_first : (k : ℕ) (ks : List ℕ) (n : ℕ) (old mid new : List (Vec ℕ Global)) → AddsTo k n old mid → AddsEach ks n mid new → AddsEach (k ∷ ks) n old new
each_first k ks n old mid new a b = record {
  size = b.size ∙ a.size;
  are = λ j m l. b.are j m (subst (λ x. j < x) (sym a.size) l)
      ∙ ap (λ x. x || (list_any (nat_eq j) ks && nat_eq m n)) (a.are j m l)
      ∙ joined (has (row_in old j) m) (nat_eq j k) (list_any (nat_eq j) ks) (nat_eq m n);
}

-- the numbers below the bound
pub record AreRowsTo (test : ℕ → ℕ → Bool) (count bound : ℕ) (rows : List (Vec ℕ Global)) : Type 0 where
  pub size : length rows ≡ count
  pub are : (k n : ℕ) → k < count → has (row_in rows k) n ≡ (nat_lt n bound && test k n)

never_less : (n : ℕ) → nat_lt n 0 ≡ false
never_less n = step (nat_lt n 0) refl
  where
    step : (b : Bool) → nat_lt n 0 ≡ b → b ≡ false
    step true e = let l = ltb-true n 0 e in absurd (omega (arith, l))
    step false e = refl

pub rows_start : (test : ℕ → ℕ → Bool) (size : ℕ) (rows : List (Vec ℕ Global)) → AreEmpty size rows → AreRowsTo test size 0 rows
rows_start test size rows e = record {
  size = e.size;
  are = λ k n h. ap (λ l. has l n) (e.none k) ∙ sym (ap (λ b. b && test k n) (never_less n));
}

pub rows_more : (test : ℕ → ℕ → Bool) (size i : ℕ) (x : ℕ → Bool) (mid new : List (Vec ℕ Global)) → ((k : ℕ) → test k i ≡ x k) → AreRowsTo test size i mid
    → length new ≡ length mid → ((k n : ℕ) → k < length mid → has (row_in new k) n ≡ (has (row_in mid k) n || (x k && nat_eq n i))) → AreRowsTo test size (i + 1) new
rows_more test size i x mid new is a same adds = record {
  size = same ∙ a.size;
  are = λ k n h. adds k n (subst (λ y. k < y) (sym a.size) h) ∙ ap (λ b. b || (x k && nat_eq n i)) (a.are k n h) ∙ step k n (nat_eq n i) refl;
}
  where
    last : (b : Bool) → (b && true) ≡ b
    last true = refl
    last false = refl

    none : (b c : Bool) → (b || (c && false)) ≡ b
    none true c = refl
    none false true = refl
    none false false = refl

    self : nat_lt i i ≡ false
    self = same_test (nat_lt i i) false (λ e. let l = ltb-true i i e in absurd (omega (arith, l))) (λ e. absurd (true≢false (sym e)))

    step : (k n : ℕ) → (b : Bool) → nat_eq n i ≡ b → ((nat_lt n i && test k n) || (x k && b)) ≡ (nat_lt n (i + 1) && test k n)
    step k n true e =
        let s : n ≡ i = number_of n i e in
        ap (λ m. (nat_lt m i && test k m) || (x k && true)) s
        ∙ ap (λ b. (b && test k i) || (x k && true)) self
        ∙ last (x k)
        ∙ sym (is k)
        ∙ ap (λ b. b && test k i) (sym (lt-ltb i (i + 1) (omega arith)))
        ∙ ap (λ m. nat_lt m (i + 1) && test k m) (sym s)
    step k n false e = none (nat_lt n i && test k n) (x k)
        ∙ ap (λ b. b && test k n) (same_test (nat_lt n i) (nat_lt n (i + 1)) (λ h. let l = ltb-true n i h in lt-ltb n (i + 1) (omega (arith, l)))
        (λ h. let l = ltb-true n (i + 1) h in elim (cases_lt n i) [ inl g ↦ lt-ltb n i g | inr g ↦ let s : n ≡ i = omega (arith, l, g) in absurd (true≢false (sym (number_test n i s) ∙ e)) ]))

pub rows_end : (test : ℕ → ℕ → Bool) (size bound : ℕ) (rows : List (Vec ℕ Global)) → ((k n : ℕ) → bound ≤ n → test k n ≡ false) → AreRowsTo test size bound rows → AreRows test size rows
rows_end test size bound rows past a = record { size = a.size; are = λ k n h. a.are k n h ∙ by k n (cases_lt n bound) }
  where
    by : (k n : ℕ) → (n < bound) ⊎ (bound ≤ n) → (nat_lt n bound && test k n) ≡ test k n
    by k n (inl l) = ap (λ b. b && test k n) (lt-ltb n bound l)
    by k n (inr g) = ap (λ b. nat_lt n bound && b) (past k n g) ∙ none (nat_lt n bound) ∙ sym (past k n g)
      where
        none : (b : Bool) → (b && false) ≡ false
        none true = refl
        none false = refl

pub below_past : (p : Program) (k n : ℕ) → length p.classes ≤ n → is_below p k n ≡ false
below_past p k n h = ap (λ o. elim o as (λ o. Bool) [ Some c ↦ list_any (nat_eq k) (c.superclass ∷ c.interfaces) | None ↦ false ]) (slice_get_past p.classes n h)

pub method_past : (p : Program) (k n : ℕ) → length p.methods ≤ n → is_method_of p k n ≡ false
method_past p k n h = ap (λ o. elim o as (λ o. Bool) [ Some m ↦ nat_eq k m.class | None ↦ false ]) (slice_get_past p.methods n h)

pub below_at : (p : Program) (k n : ℕ) (c : Class) → slice_get p.classes n ≡ Some c → is_below p k n ≡ list_any (nat_eq k) (c.superclass ∷ c.interfaces)
below_at p k n c e = ap (λ o. elim o as (λ o. Bool) [ Some c ↦ list_any (nat_eq k) (c.superclass ∷ c.interfaces) | None ↦ false ]) e

pub method_of_at : (p : Program) (k n : ℕ) (m : MethodName) → slice_get p.methods n ≡ Some m → is_method_of p k n ≡ nat_eq k m.class
method_of_at p k n m e = ap (λ o. elim o as (λ o. Bool) [ Some m ↦ nat_eq k m.class | None ↦ false ]) e

-- one more class, one more method
got_or : {A : Type 0} (xs : List A) (i : ℕ) (d : A) → i < length xs → slice_get xs i ≡ Some (get_or xs i d)
got_or [] i d h = absurd (omega (arith, h))
got_or (x ∷ xs) zero d h = refl
got_or (x ∷ xs) (suc i) d h = got_or xs i d (omega (arith, h))

pub below_more : (p : Program) (size i : ℕ) (classes : List Class) (c : Class) (mid new : List (Vec ℕ Global)) → classes ≡ p.classes → i < length classes → c ≡ get_or classes i c
    → AreRowsTo (is_below p) size i mid → AddsEach (c.superclass ∷ c.interfaces) i mid new → AreRowsTo (is_below p) size (i + 1) new
below_more p size i classes c mid new e h is a adds =
    let at : slice_get p.classes i ≡ Some c = subst (λ l. slice_get l i ≡ Some c) e (got_or classes i c h ∙ ap (λ (d : Class). Some d) (sym is)) in
    rows_more (is_below p) size i (λ k. list_any (nat_eq k) (c.superclass ∷ c.interfaces)) mid new (λ k. below_at p k i c at) a adds.size adds.are

pub methods_more : (p : Program) (size i : ℕ) (names : List MethodName) (d : MethodName) (mid new : List (Vec ℕ Global)) → names ≡ p.methods → i < length names
    → AreRowsTo (is_method_of p) size i mid → AddsTo (get_or names i d).class i mid new → AreRowsTo (is_method_of p) size (i + 1) new
methods_more p size i names d mid new e h a adds =
    let m : MethodName = get_or names i d in
    let at : slice_get p.methods i ≡ Some m = subst (λ l. slice_get l i ≡ Some m) e (got_or names i d h) in
    rows_more (is_method_of p) size i (λ k. nat_eq k m.class) mid new (λ k. method_of_at p k i m at) a adds.size adds.are

-- ---- empty rows

pub empty_start : (rows : List (Vec ℕ Global)) → rows ≡ [] → AreEmpty 0 rows
empty_start rows e = record { size = ap length e; none = λ k. ap (λ l. row_in l k) e }

pub empty_more : (count : ℕ) (old new : List (Vec ℕ Global)) (row : Vec ℕ Global) → AreEmpty count old → row.items ≡ [] → new ≡ old ++ row ∷ [] → AreEmpty (count + 1) new
empty_more count old new row a e s = record {
  size = ap length s ∙ length_push old row ∙ ap (λ n. n + 1) a.size;
  none = λ k. ap (λ l. row_in l k) s ∙ behind old k (a.none k);
}
  where
    alone : (k : ℕ) → row_in (row ∷ []) k ≡ []
    alone zero = e
    alone (suc k) = refl

    behind : (xs : List (Vec ℕ Global)) (k : ℕ) → row_in xs k ≡ [] → row_in (xs ++ row ∷ []) k ≡ []
    behind [] k h = alone k
    behind (x ∷ xs) zero h = h
    behind (x ∷ xs) (suc k) h = behind xs k h
