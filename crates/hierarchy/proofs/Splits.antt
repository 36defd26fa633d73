-- What is known of the classes along a chain that hide a method.
use Rattle.std.proofs.Common.{◌≡◌, ℕ, zero, suc, ◌+◌, ◌<◌, ◌≤◌, ◌⊎◌, inl, inr, Bool, true, false, true≢false, nat_eq, nat_cmp, List, [], ◌∷◌, take, get_or, length, Option, Some, None, refl, sym, ap, subst, ◌∙◌, arith, eqb-true, eq-eqb, replicate}
use Rattle.std.specs.Prelude.{◌&&◌, ◌||◌, ◌==◌, not, cond, slice_get, slice_set}
use Rattle.std.specs.Cmp.{nat_cmp_total, unsigned_tied}
use Rattle.std.specs.Cmp.Lexicographic.{pointwise, same_text, other_text}
use Rattle.std.specs.FinMap as finite
use Rattle.std.proofs.lemmas.List.Folds.{list_any_more}
use Rattle.lattice_core.specs.declared.flat_values.Flat.{Flat}
use Rattle.lattice_core.specs.declared.flat_values.Flat.TheVariants.{Bottom, Known, Any}
use Rattle.program_model.specs.declared.program.Method.{Method}
use Rattle.program_model.specs.declared.program.Program.{Program}
use Rattle.class_defs.specs.ClassGraph.{StepsTo}
use Rattle.class_defs.specs.Finding.{beside}
use Rattle.class_defs.specs.Places.{super_place}
use Rattle.hierarchy.specs.Climbing.{IsBefore, IsOrder}
use Rattle.hierarchy.specs.Membership.{key_at}
use Rattle.hierarchy.specs.Splitting.{package_at, same_package, is_hidden_by, hides, methods_at, IsNext, Climbs, OnChain, OnChainOf, Tells, with_class, with_key, with_method, Map, Hiding, TellsAll, HasMaps, is_apart, map_or_empty, map_of}
use Rattle.hierarchy.specs.Tables.{read_at, row_of}
use Rattle.hierarchy.proofs.Above.{in_right, beside_in, super_short}
use Rattle.hierarchy.proofs.Marks.{before_or_at}

equal_texts : (xs ys : List ℕ) → xs ≡ ys → pointwise nat_eq xs ys ≡ true
equal_texts xs ys e = by_test (pointwise nat_eq xs ys) refl
  where
    by_test : (b : Bool) → pointwise nat_eq xs ys ≡ b → b ≡ true
    by_test true f = refl
    by_test false f = absurd (other_text xs ys (sym f) e)

module _ (p : Program) where
  tells_same : (A B : ℕ → Type 0) (o : Option (Flat ℕ)) → ((d : ℕ) → A d → B d) → ((d : ℕ) → B d → A d) → Tells p A o → Tells p B o
  tells_same A B None f g t = λ d b. t d (g d b)
  tells_same A B (Some Bottom) f g t = t
  tells_same A B (Some (Known q)) f g t = (f q t.0, λ d b. t.1 d (g d b))
  tells_same A B (Some Any) f g t = λ x. let w = t x in (w.0, (f w.0 w.1.0, w.1.1))

  tells_with : (A : ℕ → Type 0) (o : Option (Flat ℕ)) (class : ℕ) → Tells p A o → Tells p (λ d. A d ⊎ (d ≡ class)) (Some (with_class p o class))
  tells_with A None class t = (inr refl, λ d i. elim i as (λ _. package_at p d ≡ package_at p class) [ inl a ↦ absurd (t d a) | inr s ↦ ap (package_at p) s ])
  tells_with A (Some Bottom) class t = absurd t
  tells_with A (Some (Known q)) class t = by_test (same_package p q class) refl
    where
      away : same_package p q class ≡ false → (x : List ℕ) → (b : Bool) → pointwise nat_eq (package_at p q) x ≡ b → (d : ℕ) × ((A d ⊎ (d ≡ class)) × (package_at p d ≡ x → ⊥))
      away f x true e = (class, (inr refl, λ s. other_text (package_at p q) (package_at p class) (sym f) (same_text (package_at p q) x (sym e) ∙ sym s)))
      away f x false e = (q, (inl t.0, λ s. other_text (package_at p q) x (sym e) s))

      by_test : (b : Bool) → same_package p q class ≡ b → Tells p (λ d. A d ⊎ (d ≡ class)) (Some (cond b (Known q) Any))
      by_test true f = (inl t.0, λ d i. elim i as (λ _. package_at p d ≡ package_at p q) [ inl a ↦ t.1 d a | inr s ↦ ap (package_at p) s ∙ sym (same_text (package_at p q) (package_at p class) (sym f)) ])
      by_test false f = λ x. away f x (pointwise nat_eq (package_at p q) x) refl
  tells_with A (Some Any) class t = λ x. let w = t x in (w.0, (inl w.1.0, w.1.1))

  -- ---- a class of another package

  pub record Apart (A : ℕ → Type 0) (class : ℕ) : Type 0 where
    pub upper : ℕ
    pub is : A upper
    pub apart : package_at p upper ≡ package_at p class → ⊥

  not_true : (b : Bool) → not b ≡ true → b ≡ false
  not_true false e = refl
  not_true true e = absurd (true≢false (sym e))

  not_false : (b : Bool) → not b ≡ false → b ≡ true
  not_false true e = refl
  not_false false e = absurd (true≢false e)

  pub some_apart : (A : ℕ → Type 0) (o : Option (Flat ℕ)) (class : ℕ) → Tells p A o → is_apart p o class ≡ true → Apart A class
  some_apart A None class t e = absurd (true≢false (sym e))
  some_apart A (Some Bottom) class t e = absurd t
  some_apart A (Some (Known q)) class t e = record { upper = q; is = t.0; apart = λ s. other_text (package_at p q) (package_at p class) (sym (not_true (same_package p q class) e)) s }
  some_apart A (Some Any) class t e = let w = t (package_at p class) in record { upper = w.0; is = w.1.0; apart = w.1.1 }

  pub none_apart : (A : ℕ → Type 0) (o : Option (Flat ℕ)) (class d : ℕ) → Tells p A o → is_apart p o class ≡ false → A d → package_at p d ≡ package_at p class
  none_apart A None class d t e a = absurd (t d a)
  none_apart A (Some Bottom) class d t e a = absurd t
  none_apart A (Some (Known q)) class d t e a = t.1 d a ∙ same_text (package_at p q) (package_at p class) (sym (not_false (same_package p q class) e))
  none_apart A (Some Any) class d t e a = absurd (true≢false e)

  -- ---- the methods of a class

  module _ (keys : List ℕ) (special : List Bool) where
    abbrev pub Noting : Option ℕ → ℕ → List Method → ℕ → ℕ → Type 0
    Noting o class ms k d = Hiding p keys special o k d ⊎ ((d ≡ class) × (hides keys special ms k ≡ true))

    pub record NotedTo (o : Option ℕ) (class : ℕ) (ms : List Method) (i : ℕ) (m : Map) : Type 0 where
      pub each : (k : ℕ) → Tells p (Noting o class (take i ms) k) (finite.get m k)

    pub notes_none : (o : Option ℕ) (class : ℕ) (ms : List Method) (m : Map) → TellsAll p keys special o m → NotedTo o class ms 0 m
    notes_none o class ms m t = record { each = λ k. tells_same (Hiding p keys special o k) (Noting o class [] k) (finite.get m k) (λ d h. inl h) (λ d h. back k d h) (t.each k) }
      where
        back : (k d : ℕ) → Noting o class [] k d → Hiding p keys special o k d
        back k d (inl h) = h
        back k d (inr h) = absurd (true≢false (sym h.1))

    hides_more : (ms : List Method) (i : ℕ) (x : Method) (k : ℕ) → x ≡ get_or ms i x → i < length ms → hides keys special (take (i + 1) ms) k ≡ (hides keys special (take i ms) k || (is_hidden_by special x && nat_eq (key_at keys x.name) k))
    hides_more ms i x k is lt = list_any_more (λ m. is_hidden_by special m && nat_eq (key_at keys m.name) k) ms i x lt
        ∙ ap (λ y. hides keys special (take i ms) k || (is_hidden_by special y && nat_eq (key_at keys y.name) k)) (sym is)

    or_false : (a b : Bool) → b ≡ false → (a || b) ≡ a
    or_false true b e = refl
    or_false false b e = e

    or_true : (a b : Bool) → b ≡ true → (a || b) ≡ true
    or_true true b e = refl
    or_true false b e = e

    or_left : (a b : Bool) → a ≡ true → (a || b) ≡ true
    or_left true b e = refl
    or_left false b e = absurd (true≢false (sym e))

    and_none : (a b : Bool) → a ≡ false → (a && b) ≡ false
    and_none false b e = refl
    and_none true b e = absurd (true≢false e)

    and_last : (a b : Bool) → b ≡ false → (a && b) ≡ false
    and_last false b e = refl
    and_last true b e = e

    noting_same : (o : Option ℕ) (class : ℕ) (ms ms' : List Method) (k : ℕ) (v : Option (Flat ℕ)) → hides keys special ms' k ≡ hides keys special ms k → Tells p (Noting o class ms k) v → Tells p (Noting o class ms' k) v
    noting_same o class ms ms' k v e t = tells_same (Noting o class ms k) (Noting o class ms' k) v on back t
      where
        on : (d : ℕ) → Noting o class ms k d → Noting o class ms' k d
        on d (inl h) = inl h
        on d (inr h) = inr (h.0, e ∙ h.1)

        back : (d : ℕ) → Noting o class ms' k d → Noting o class ms k d
        back d (inl h) = inl h
        back d (inr h) = inr (h.0, sym e ∙ h.1)

    pub notes_other : (o : Option ℕ) (class : ℕ) (ms : List Method) (i : ℕ) (x : Method) (m : Map) → x ≡ get_or ms i x → i < length ms → is_hidden_by special x ≡ false → NotedTo o class ms i m → NotedTo o class ms (i + 1) m
    notes_other o class ms i x m is lt h n = record {
      each = λ k. noting_same o class (take i ms) (take (i + 1) ms) k (finite.get m k)
          (hides_more ms i x k is lt ∙ or_false (hides keys special (take i ms) k) (is_hidden_by special x && nat_eq (key_at keys x.name) k) (and_none (is_hidden_by special x) (nat_eq (key_at keys x.name) k) h)) (n.each k);
    }

    pub notes_one : (o : Option ℕ) (class : ℕ) (ms : List Method) (i : ℕ) (x : Method) (m more : Map) → x ≡ get_or ms i x → i < length ms → is_hidden_by special x ≡ true → more ≡ finite.insert m (key_at keys x.name) (with_class p (finite.get m (key_at keys x.name)) class)
        → NotedTo o class ms i m → NotedTo o class ms (i + 1) more
    notes_one o class ms i x m more is lt h set n = record {
      each = λ k. subst (λ v. Tells p (Noting o class (take (i + 1) ms) k) v)
          (sym (ap (λ t. finite.get t k) set ∙ finite.get-insert nat_cmp_total m (key_at keys x.name) (with_class p (finite.get m (key_at keys x.name)) class) k ∙ ap (λ b. cond b (Some (with_class p (finite.get m (key_at keys x.name)) class)) (finite.get m k)) (unsigned_tied k (key_at keys x.name))))
          (by_test k (k == key_at keys x.name) refl);
    }
      where
        key : ℕ
        key = key_at keys x.name

        at_key : (k : ℕ) → k ≡ key_at keys x.name → Tells p (Noting o class (take (i + 1) ms) k) (Some (with_class p (finite.get m (key_at keys x.name)) class))
        at_key k s = tells_same (λ d. Noting o class (take i ms) k d ⊎ (d ≡ class)) (Noting o class (take (i + 1) ms) k) (Some (with_class p (finite.get m (key_at keys x.name)) class)) on back
            (tells_with (Noting o class (take i ms) k) (finite.get m (key_at keys x.name)) class (subst (λ j. Tells p (Noting o class (take i ms) k) (finite.get m j)) s (n.each k)))
          where
            there : hides keys special (take (i + 1) ms) k ≡ true
            there = hides_more ms i x k is lt ∙ or_true (hides keys special (take i ms) k) (is_hidden_by special x && nat_eq (key_at keys x.name) k) (ap (λ b. b && nat_eq (key_at keys x.name) k) h ∙ eq-eqb (key_at keys x.name) k (sym s))

            on : (d : ℕ) → Noting o class (take i ms) k d ⊎ (d ≡ class) → Noting o class (take (i + 1) ms) k d
            on d (inl (inl a)) = inl a
            on d (inl (inr a)) = inr (a.0, there)
            on d (inr a) = inr (a, there)

            back : (d : ℕ) → Noting o class (take (i + 1) ms) k d → Noting o class (take i ms) k d ⊎ (d ≡ class)
            back d (inl a) = inl (inl a)
            back d (inr a) = inr a.0

        by_test : (k : ℕ) (b : Bool) → (k == key_at keys x.name) ≡ b → Tells p (Noting o class (take (i + 1) ms) k) (cond b (Some (with_class p (finite.get m (key_at keys x.name)) class)) (finite.get m k))
        by_test k true e = at_key k (eqb-true k (key_at keys x.name) e)
        by_test k false e = noting_same o class (take i ms) (take (i + 1) ms) k (finite.get m k)
            (hides_more ms i x k is lt ∙ or_false (hides keys special (take i ms) k) (is_hidden_by special x && nat_eq (key_at keys x.name) k) (and_last (is_hidden_by special x) (nat_eq (key_at keys x.name) k) (other (nat_eq (key_at keys x.name) k) refl))) (n.each k)
          where
            other : (c : Bool) → nat_eq (key_at keys x.name) k ≡ c → c ≡ false
            other false f = refl
            other true f = absurd (true≢false (sym (eq-eqb k (key_at keys x.name) (sym (eqb-true (key_at keys x.name) k f))) ∙ e))

    pub notes_method : (o : Option ℕ) (class : ℕ) (ms : List Method) (i : ℕ) (x : Method) (m more : Map) → x ≡ get_or ms i x → i < length ms → more ≡ with_method p keys special class x m → NotedTo o class ms i m → NotedTo o class ms (i + 1) more
    notes_method o class ms i x m more is lt set n = by_test (is_hidden_by special x) refl
      where
        by_test : (b : Bool) → is_hidden_by special x ≡ b → NotedTo o class ms (i + 1) more
        by_test true e = notes_one o class ms i x m more is lt e (set ∙ ap (λ b. cond b (with_key p class (key_at keys x.name) m) m) e) n
        by_test false e = subst (NotedTo o class ms (i + 1)) (sym (set ∙ ap (λ b. cond b (with_key p class (key_at keys x.name) m) m) e)) (notes_other o class ms i x m is lt e n)

    -- ---- one class up the chain

    up_chain : (o : Option ℕ) (class d : ℕ) → super_place p class ≡ o → OnChainOf p o d → OnChain p class d
    up_chain None class d e h = absurd h
    up_chain (Some s) class d e (inl t) = inr (record { mids = []; steps = e ∙ ap (λ v. Some v) (sym t) })
    up_chain (Some s) class d e (inr c) = inr (record { mids = s ∷ c.mids; steps = (e, c.steps) })

    pub down_chain : (o : Option ℕ) (class d : ℕ) → super_place p class ≡ o → Climbs p class d → OnChainOf p o d
    down_chain o class d e c = by_steps c.mids c.steps
      where
        by_steps : (mids : List ℕ) → StepsTo (IsNext p) class mids d → OnChainOf p o d
        by_steps [] s = subst (λ w. OnChainOf p w d) (sym s ∙ e) (inl refl)
        by_steps (m ∷ ms) s = subst (λ w. OnChainOf p w d) (sym s.0 ∙ e) (inr (record { mids = ms; steps = s.1 }))

    pub notes_all : (o : Option ℕ) (class : ℕ) (ms : List Method) (i : ℕ) (m : Map) → super_place p class ≡ o → ms ≡ methods_at p class → take i ms ≡ ms → NotedTo o class ms i m → TellsAll p keys special (Some class) m
    notes_all o class ms i m e same whole n = record { each = λ k. tells_same (Noting o class (take i ms) k) (Hiding p keys special (Some class) k) (finite.get m k) (on k) (back k) (n.each k) }
      where
        all : take i ms ≡ methods_at p class
        all = whole ∙ same

        on : (k d : ℕ) → Noting o class (take i ms) k d → Hiding p keys special (Some class) k d
        on k d (inl h) = (up_chain o class d e h.0, h.1)
        on k d (inr h) = (inl h.0, ap (λ c. hides keys special (methods_at p c) k) h.0 ∙ sym (ap (λ l. hides keys special l k) all) ∙ h.1)

        back : (k d : ℕ) → Hiding p keys special (Some class) k d → Noting o class (take i ms) k d
        back k d h = by_place h.0 h.1
          where
            by_place : OnChain p class d → hides keys special (methods_at p d) k ≡ true → Noting o class (take i ms) k d
            by_place (inl s) f = inr (s, ap (λ l. hides keys special l k) all ∙ sym (ap (λ c. hides keys special (methods_at p c) k) s) ∙ f)
            by_place (inr c) f = inl (down_chain o class d e c, f)

    -- ---- all classes along an order

    pub record MapsTo (n : ℕ) (order : List ℕ) (maps : List Map) (i : ℕ) : Type 0 where
      pub size : length maps ≡ n
      pub is : (j c : ℕ) → j < i → slice_get order j ≡ Some c → TellsAll p keys special (Some c) (map_of maps (Some c))

    pub empty_tells : TellsAll p keys special None finite.empty
    empty_tells = record { each = λ k. subst (Tells p (Hiding p keys special None k)) (sym (finite.get-empty nat_cmp k)) (λ d h. h.0) }

    got_set_here : (maps : List Map) (x : ℕ) (m : Map) → x < length maps → slice_get (slice_set maps x m) x ≡ Some m
    got_set_here [] x m l = absurd (omega (arith, l))
    got_set_here (y ∷ ys) zero m l = refl
    got_set_here (y ∷ ys) (suc x) m l = got_set_here ys x m (omega (arith, l))

    got_set_other : (maps : List Map) (x c : ℕ) (m : Map) → (x ≡ c → ⊥) → slice_get (slice_set maps x m) c ≡ slice_get maps c
    got_set_other [] x c m h = refl
    got_set_other (y ∷ ys) zero zero m h = absurd (h refl)
    got_set_other (y ∷ ys) zero (suc c) m h = refl
    got_set_other (y ∷ ys) (suc x) zero m h = refl
    got_set_other (y ∷ ys) (suc x) (suc c) m h = got_set_other ys x c m (λ e. h (ap suc e))

    set_long : (maps : List Map) (x : ℕ) (m : Map) → length (slice_set maps x m) ≡ length maps
    set_long [] x m = refl
    set_long (y ∷ ys) zero m = refl
    set_long (y ∷ ys) (suc x) m = ap suc (set_long ys x m)

    empty_long : (n : ℕ) → length {A = Map} (replicate n finite.empty) ≡ n
    empty_long zero = refl
    empty_long (suc n) = ap suc (empty_long n)

    pub maps_none : (n : ℕ) (order : List ℕ) (maps : List Map) → maps ≡ replicate n finite.empty → MapsTo n order maps 0
    maps_none n order maps e = record { size = ap length e ∙ empty_long n; is = λ j c l. absurd (omega (arith, l)) }

    module _ (supers : List ℕ) (rows : List (List ℕ)) (order : List ℕ) (ups_are : (c : ℕ) → read_at supers c ≡ super_place p c) (long : length supers ≡ length p.classes) (o : IsOrder supers rows order) where
      -- what the map of the superclass tells
      pub above_tells : (maps : List Map) (i x : ℕ) → slice_get order i ≡ Some x → MapsTo (length p.classes) order maps i → TellsAll p keys special (super_place p x) (map_of maps (super_place p x))
      above_tells maps i x here f = by_super (super_place p x) refl
        where
          by_super : (w : Option ℕ) → super_place p x ≡ w → TellsAll p keys special w (map_of maps w)
          by_super None e = empty_tells
          by_super (Some s) e =
              let lt = super_short p x s e in
              let b : IsBefore order i s = o.behind i x s here (in_right s (row_of rows x) (beside (read_at supers x)) (beside_in s (read_at supers x) (ups_are x ∙ e))) (omega (arith, lt, long)) in
              f.is b.at s b.before b.is

      pub maps_more : (maps more : List Map) (i x : ℕ) (m : Map) → slice_get order i ≡ Some x → more ≡ slice_set maps x m → TellsAll p keys special (Some x) m → MapsTo (length p.classes) order maps i → MapsTo (length p.classes) order more (i + 1)
      maps_more maps more i x m here set t f = record {
        size = ap length set ∙ set_long maps x m ∙ f.size;
        is = λ j c l e. by_place j c e (before_or_at j i l);
      }
        where
          by_place : (j c : ℕ) → slice_get order j ≡ Some c → (j < i) ⊎ (j ≡ i) → TellsAll p keys special (Some c) (map_of more (Some c))
          by_place j c e (inl b) = subst (λ v. TellsAll p keys special (Some c) (map_or_empty v))
              (sym (ap (λ l. slice_get l c) set ∙ got_set_other maps x c m (λ s. let same : j ≡ i = o.once j i c e (here ∙ ap (λ w. Some w) s) in omega (arith, b, same)))) (f.is j c b e)
          by_place j c e (inr s) =
              let got : Some x ≡ Some c = sym here ∙ ap (slice_get order) (sym s) ∙ e in
              let t' : x ≡ c = cc in
              let short = o.short i x here in
              let size = f.size in
              subst (λ d. TellsAll p keys special (Some d) (map_of more (Some d))) t'
              (subst (λ v. TellsAll p keys special (Some x) (map_or_empty v)) (sym (ap (λ l. slice_get l x) set ∙ got_set_here maps x m (omega (arith, short, long, size)))) t)

      pub maps_all : (maps : List Map) (i : ℕ) → length order ≤ i → MapsTo (length p.classes) order maps i → HasMaps p keys special maps
      maps_all maps i end f = record { each = λ c l. let b = o.all c (omega (arith, l, long)) in let k = b.before in f.is b.at c (omega (arith, k, end)) b.is }
