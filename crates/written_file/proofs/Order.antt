-- The order in which classes are written is the one that the written program has, and each stands in it behind those above it.
use Rattle.std.proofs.Common.{◌≡◌, ◌≤◌, ◌<◌, ◌+◌, ◌⊎◌, inl, inr, ⊎_elim, ℕ, zero, suc, Bool, true, false, not, cond, List, [], ◌∷◌, ◌++◌, length, replicate, refl, sym, ap, subst, ◌∙◌, append_assoc, append-nil, arith, Option, Some, None, get_or, set, length-set, get_or-set_same, get_or-set_other}
use Rattle.std.specs.Prelude.{nat_eq, nat_lt, slice_get, slice_set, slice_index_or, ◌||◌, if◌then◌else◌, sum_by}
use Rattle.std.proofs.lemmas.Bool.{eqb-true, eqb-false, eq-eqb, lt-ltb, or_cases}
use Rattle.std.proofs.lemmas.Option.{slice_get-get_or, slice_get_within, get_or_from_slice_get}
use Rattle.std.proofs.lemmas.List.{length-replicate, get_or-replicate, get_or_past}
use Rattle.std.proofs.lemmas.List.Sums.{sum_by-set}
use Rattle.std.proofs.lemmas.List.Folds.{list_any-append, sum_by-replicate}
use Rattle.lemmas.proofs.Bools.{clash, or_left, or_right, none_or, neither_of}
use Rattle.program_model.specs.declared.program.Class.{Class}
use Rattle.program_model.specs.declared.program.Program.{Program}
use Rattle.class_defs.specs.ClassGraph.{IsTwice, IsAbove, StepsTo, IsAncestor}
use Rattle.dex_write.specs.Order.{is_fresh, in_fresh, above, Follows, Done, Skip, Enter, counting, IsOrder}
use Rattle.dex_defs.specs.Written.{above_class, one_by_one, write_class, places_below, class_order}
use Rattle.written_file.specs.Behind.{Behind, AllBehind}
use Rattle.written_file.proofs.Places.{has, within, below_tells, KindsFit, same_above, above_is, is_above}

pub has_append : (k : ℕ) (xs ys : List ℕ) → has k (xs ++ ys) ≡ (has k xs || has k ys)
has_append k xs ys = list_any-append (nat_eq k) xs ys

-- how many classes were not begun yet
abbrev waiting : List Bool → ℕ
waiting begun = sum_by (λ b. cond b 0 1) begun

begun_now : (begun : List Bool) (k : ℕ) → k < length begun → slice_index_or begun k false ≡ false → waiting (slice_set begun k true) + 1 ≡ waiting begun
begun_now begun k lt e =
    let s = sum_by-set (λ (b : Bool). cond b 0 1) begun k true false lt in
    let one : ◌≡◌ {A = ℕ} (cond (get_or begun k false) 0 1) 1 = rw e refl in
    omega (arith, s, one)

-- ---- what stands behind what

pub behind_both : (p : Program) (before xs ys : List ℕ) → AllBehind p before xs → AllBehind p (before ++ xs) ys → AllBehind p before (xs ++ ys)
behind_both p before [] ys a b = subst (λ l. AllBehind p l ys) (append-nil before) b
behind_both p before (x ∷ xs) ys a b = (a.0, behind_both p (before ++ x ∷ []) xs ys a.1 (subst (λ l. AllBehind p l ys) (sym (append_assoc before (x ∷ []) xs)) b))

steps_join : (Is : ℕ → ℕ → Type 0) (class : ℕ) (mids : List ℕ) (mid upper : ℕ) → StepsTo Is class mids mid → Is mid upper → StepsTo Is class (mids ++ mid ∷ []) upper
steps_join Is class [] mid upper s i = (s, i)
steps_join Is class (m ∷ ms) mid upper s i = (s.0, steps_join Is m ms mid upper s.1 i)

ancestor_more : (p : Program) (class mid upper : ℕ) → IsAncestor p class mid → IsAbove p mid upper → IsAncestor p class upper
ancestor_more p class mid upper a i = record { mids = a.mids ++ mid ∷ []; steps = steps_join (IsAbove p) class a.mids mid upper a.steps i }

-- ---- the walk

module _ (p : Program) (fit : (class : ℕ) (c : Class) → slice_get p.classes class ≡ Some c → KindsFit p c) (once : (class : ℕ) → IsTwice p class → ⊥) (acyclic : (class : ℕ) → IsAncestor p class class → ⊥) where
  abbrev n : ℕ
  n = length p.classes

  -- just what is written, and what is on the way, was begun
  record Stage (begun : List Bool) (done way : List ℕ) : Type 0 where
    long : length begun ≡ n
    flags : (k : ℕ) → k < n → slice_index_or begun k false ≡ (has k done || has k way)

  -- all that is asked for stands above all on the way
  abbrev Under : List ℕ → List ℕ → Type 0
  Under way asks = (w a : ℕ) → has w way ≡ true → has a asks ≡ true → IsAncestor p w a

  record Walked (fuel : ℕ) (begun : List Bool) (asks : List ℕ) (end : List Bool) (out done way : List ℕ) : Type 0 where
    is : one_by_one (write_class fuel p) done (within n asks) ≡ done ++ out
    stage : Stage end (done ++ out) way
    few : waiting end ≤ waiting begun
    asked : (a : ℕ) → has a (within n asks) ≡ true → has a (done ++ out) ≡ true
    behind : AllBehind p done out
    new : (k : ℕ) → has k out ≡ true → slice_index_or begun k false ≡ false

  fresh_there : (begun : List Bool) (class : ℕ) → is_fresh begun class ≡ true → (class < length begun) × (slice_index_or begun class false ≡ false)
  fresh_there begun class f = by_flag (slice_get begun class) refl
    where
      by_flag : (o : Option Bool) → slice_get begun class ≡ o → (class < length begun) × (slice_index_or begun class false ≡ false)
      by_flag None e = clash (is_fresh begun class) f (ap in_fresh e)
      by_flag (Some true) e = clash (is_fresh begun class) f (ap in_fresh e)
      by_flag (Some false) e = (slice_get_within begun class false e, get_or_from_slice_get begun class false false e)

  stale_there : (begun : List Bool) (class : ℕ) → class < length begun → is_fresh begun class ≡ false → slice_index_or begun class false ≡ true
  stale_there begun class lt f = by_flag (slice_get begun class) refl
    where
      by_flag : (o : Option Bool) → slice_get begun class ≡ o → slice_index_or begun class false ≡ true
      by_flag None e = let s : Some (get_or begun class false) ≡ None = sym (slice_get-get_or begun class false lt) ∙ e in absurd cc
      by_flag (Some true) e = get_or_from_slice_get begun class true false e
      by_flag (Some false) e = clash (is_fresh begun class) (ap in_fresh e) f

  -- what the tail of what is asked for has, the whole has
  tail_asked : (class : ℕ) (rest : List ℕ) (a : ℕ) → has a (within n rest) ≡ true → has a (within n (class ∷ rest)) ≡ true
  tail_asked class rest a h = either (nat_lt class n)
    where
      either : (t : Bool) → has a (if t then class ∷ within n rest else within n rest) ≡ true
      either true = or_right (nat_eq a class) (has a (within n rest)) h
      either false = h

  -- a class that was begun before: it is written, since it cannot be on the way
  skipped : (fuel : ℕ) (begun : List Bool) (class : ℕ) (rest : List ℕ) (end : List Bool) (out done way : List ℕ) → is_fresh begun class ≡ false → Stage begun done way → Under way (within n (class ∷ rest)) → Walked (suc fuel) begun rest end out done way → Walked (suc fuel) begun (class ∷ rest) end out done way
  skipped fuel begun class rest end out done way f s u w = by_place (below_tells class n)
    where
      by_place : ((nat_lt class n ≡ true) × (class < n)) ⊎ ((nat_lt class n ≡ false) × (n ≤ class)) → Walked (suc fuel) begun (class ∷ rest) end out done way
      by_place (inr z) = record { is = rw z.0 w.is; stage = w.stage; few = w.few; asked = λ a. asked a; behind = w.behind; new = w.new }
        where
          asked : (a : ℕ) → has a (within n (class ∷ rest)) ≡ true → has a (done ++ out) ≡ true
          asked a h = w.asked a (rw z.0 at h)
      by_place (inl y) = record { is = rw y.0 (ap (λ (l : List ℕ). one_by_one (write_class (suc fuel) p) l (within n rest)) (ap (λ (b : Bool). if b then done else (one_by_one (write_class fuel p) done (above_class p (slice_get p.classes class)) ++ class ∷ [])) written) ∙ w.is); stage = w.stage; few = w.few; asked = λ a. asked a; behind = w.behind; new = w.new }
        where
          flag : (has class done || has class way) ≡ true
          flag = sym (s.flags class y.1) ∙ stale_there begun class (omega (arith, y.1, s.long)) f

          written : has class done ≡ true
          written = ⊎_elim (λ d. d) (λ v. absurd (acyclic class (u class class v (rw y.0 (or_left (nat_eq class class) (has class (within n rest)) (eq-eqb class class refl)))))) (or_cases (has class done) (has class way) flag)

          asked : (a : ℕ) → has a (within n (class ∷ rest)) ≡ true → has a (done ++ out) ≡ true
          asked a h = by_head (nat_eq a class) refl (rw y.0 at h)
            where
              by_head : (b : Bool) → nat_eq a class ≡ b → (nat_eq a class || has a (within n rest)) ≡ true → has a (done ++ out) ≡ true
              by_head true b j = subst (λ (k : ℕ). has k (done ++ out) ≡ true) (sym (eqb-true a class b)) (has_append class done out ∙ or_left (has class done) (has class out) written)
              by_head false b j = w.asked a (subst (λ (x : Bool). (x || has a (within n rest)) ≡ true) b j)

  -- a class that was not begun, on its way up
  entered : (begun : List Bool) (class : ℕ) (done way : List ℕ) → class < n → class < length begun → Stage begun done way → Stage (slice_set begun class true) done (class ∷ way)
  entered begun class done way lt l s = record { long = length-set begun class true ∙ s.long; flags = λ k m. flags k m (nat_eq k class) refl }
    where
      flags : (k : ℕ) → k < n → (b : Bool) → nat_eq k class ≡ b → slice_index_or (slice_set begun class true) k false ≡ (has k done || (nat_eq k class || has k way))
      flags k m true b =
          let same : k ≡ class = eqb-true k class b in
          let now : slice_index_or (slice_set begun class true) k false ≡ true = ap (λ (j : ℕ). get_or (set begun class true) j false) same ∙ get_or-set_same begun class true false l in
          now ∙ sym (or_right (has k done) (nat_eq k class || has k way) (or_left (nat_eq k class) (has k way) b))
      flags k m false b = get_or-set_other begun class k true false (eqb-false k class b) ∙ s.flags k m ∙ ap (λ (x : Bool). has k done || (x || has k way)) (sym b)

  -- and when it is written
  left_behind : (begun : List Bool) (class : ℕ) (all way : List ℕ) → Stage begun all (class ∷ way) → Stage begun (all ++ class ∷ []) way
  left_behind begun class all way s = record { long = s.long; flags = λ k m. s.flags k m ∙ same k }
    where
      turn : (a b c : Bool) → (a || (b || c)) ≡ ((a || (b || false)) || c)
      turn true b c = refl
      turn false true c = refl
      turn false false c = refl

      same : (k : ℕ) → (has k all || (nat_eq k class || has k way)) ≡ (has k (all ++ class ∷ []) || has k way)
      same k = turn (has k all) (nat_eq k class) (has k way) ∙ ap (λ (x : Bool). x || has k way) (sym (has_append k all (class ∷ [])))

  entering : (fuel : ℕ) (begun : List Bool) (class : ℕ) (rest : List ℕ) (mid end : List Bool) (inner out done way : List ℕ) → is_fresh begun class ≡ true → waiting begun < suc fuel → Stage begun done way → Under way (within n (class ∷ rest))
      → (waiting (slice_set begun class true) < fuel → Stage (slice_set begun class true) done (class ∷ way) → Under (class ∷ way) (within n (above p class)) → Walked fuel (slice_set begun class true) (above p class) mid inner done (class ∷ way))
      → ((done2 : List ℕ) → waiting mid < suc fuel → Stage mid done2 way → Under way (within n rest) → Walked (suc fuel) mid rest end out done2 way)
      → Walked (suc fuel) begun (class ∷ rest) end (inner ++ class ∷ out) done way
  entering fuel begun class rest mid end inner out done way f few s u up on =
      let there = fresh_there begun class f in
      let lt : class < n = omega (arith, there.0, s.long) in
      let t : nat_lt class n ≡ true = lt-ltb class n lt in
      let less = begun_now begun class there.0 there.1 in
      let neither = neither_of (has class done) (has class way) (sym (s.flags class lt) ∙ there.1) in
      let in_asks : has class (within n (class ∷ rest)) ≡ true = rw t (or_left (nat_eq class class) (has class (within n rest)) (eq-eqb class class refl)) in
      let w : Walked fuel (slice_set begun class true) (above p class) mid inner done (class ∷ way) = up (omega (arith, less, few)) (entered begun class done way lt there.0 s) (λ v a. under v a in_asks) in
      let done2 : List ℕ = (done ++ inner) ++ class ∷ [] in
      let v : Walked (suc fuel) mid rest end out done2 way = on done2 (omega (arith, w.few, less, few)) (left_behind mid class (done ++ inner) way w.stage) (λ x a h i. u x a h (tail_asked class rest a i)) in
      let whole : done2 ++ out ≡ done ++ (inner ++ class ∷ out) = append_assoc (done ++ inner) (class ∷ []) out ∙ append_assoc done inner (class ∷ out) in
      let written : write_class (suc fuel) p done class ≡ done2 = ap (λ (b : Bool). if b then done else (one_by_one (write_class fuel p) done (above_class p (slice_get p.classes class)) ++ class ∷ [])) neither.0 ∙ (ap (λ (l : List ℕ). one_by_one (write_class fuel p) done l ++ class ∷ []) (same_above p class (fit class)) ∙ ap (λ (l : List ℕ). l ++ class ∷ []) w.is) in
      let own : Behind p (done ++ inner) class = record { inside = lt; once = new_here w there.0 neither.0; above = λ x i. w.asked x (is_above p once class x (fit class) i) } in
      record {
        is = rw t (ap (λ (l : List ℕ). one_by_one (write_class (suc fuel) p) l (within n rest)) written ∙ v.is ∙ whole);
        stage = subst (λ l. Stage end l way) whole v.stage;
        few = omega (arith, v.few, w.few, less);
        asked = λ a h. subst (λ l. has a l ≡ true) whole (asked a v (nat_eq a class) refl (rw t at h));
        behind = behind_both p done inner (class ∷ out) w.behind (own, v.behind);
        new = λ k h. new k w v there.1 (or_cases (has k inner) (has k (class ∷ out)) (sym (has_append k inner (class ∷ out)) ∙ h));
      }
    where
      under : (v a : ℕ) → has class (within n (class ∷ rest)) ≡ true → has v (class ∷ way) ≡ true → has a (within n (above p class)) ≡ true → IsAncestor p v a
      under v a c h i = by_head (nat_eq v class) refl h
        where
          directly : IsAbove p class a
          directly = by_class (slice_get p.classes class) refl
            where
              by_class : (o : Option Class) → slice_get p.classes class ≡ o → IsAbove p class a
              by_class None e = let there = fresh_there begun class f in let q : Some (get_or p.classes class blank) ≡ None = sym (slice_get-get_or p.classes class blank (omega (arith, there.0, s.long))) ∙ e in absurd cc
                where
                  blank : Class
                  blank = record { name = 0; flags = record { 0 = 0 }; superclass = 0; interfaces = []; source = None; marks = []; fields = []; methods = [] }
              by_class (Some k) e = above_is p class a k e (fit class k e) i

          by_head : (b : Bool) → nat_eq v class ≡ b → (nat_eq v class || has v way) ≡ true → IsAncestor p v a
          by_head true b j = subst (λ (k : ℕ). IsAncestor p k a) (sym (eqb-true v class b)) (record { mids = []; steps = directly })
          by_head false b j = ancestor_more p v class a (u v class (subst (λ (x : Bool). (x || has v way) ≡ true) b j) c) directly

      -- it was not written by those above it, behind which it was begun
      new_here : Walked fuel (slice_set begun class true) (above p class) mid inner done (class ∷ way) → class < length begun → has class done ≡ false → has class (done ++ inner) ≡ false
      new_here w l d = has_append class done inner ∙ none_or (has class done) (has class inner) d (by_inner (has class inner) refl)
        where
          by_inner : (t : Bool) → has class inner ≡ t → has class inner ≡ false
          by_inner true e = clash (slice_index_or (slice_set begun class true) class false) (get_or-set_same begun class true false l) (w.new class e)
          by_inner false e = e

      -- what was not begun in the middle was not begun before
      back : (k : ℕ) → Walked fuel (slice_set begun class true) (above p class) mid inner done (class ∷ way) → slice_index_or mid k false ≡ false → slice_index_or begun k false ≡ false
      back k w h = by_place (below_tells k n)
        where
          by_place : ((nat_lt k n ≡ true) × (k < n)) ⊎ ((nat_lt k n ≡ false) × (n ≤ k)) → slice_index_or begun k false ≡ false
          by_place (inl y) =
              let both = neither_of (has k (done ++ inner)) (nat_eq k class || has k way) (sym (w.stage.flags k y.1) ∙ h) in
              let d = neither_of (has k done) (has k inner) (sym (has_append k done inner) ∙ both.0) in
              let v = neither_of (nat_eq k class) (has k way) both.1 in
              s.flags k y.1 ∙ none_or (has k done) (has k way) d.0 v.1
          by_place (inr z) = get_or_past begun k false (omega (arith, z.1, s.long))

      new : (k : ℕ) → Walked fuel (slice_set begun class true) (above p class) mid inner done (class ∷ way) → Walked (suc fuel) mid rest end out ((done ++ inner) ++ class ∷ []) way → slice_index_or begun class false ≡ false → (has k inner ≡ true) ⊎ (has k (class ∷ out) ≡ true) → slice_index_or begun k false ≡ false
      new k w v g (inl i) = by_head (nat_eq k class) refl
        where
          by_head : (b : Bool) → nat_eq k class ≡ b → slice_index_or begun k false ≡ false
          by_head true b = subst (λ (j : ℕ). slice_index_or begun j false ≡ false) (sym (eqb-true k class b)) g
          by_head false b = sym (get_or-set_other begun class k true false (eqb-false k class b)) ∙ w.new k i
      new k w v g (inr i) = by_head (nat_eq k class) refl i
        where
          by_head : (b : Bool) → nat_eq k class ≡ b → (nat_eq k class || has k out) ≡ true → slice_index_or begun k false ≡ false
          by_head true b j = subst (λ (m : ℕ). slice_index_or begun m false ≡ false) (sym (eqb-true k class b)) g
          by_head false b j = back k w (v.new k (subst (λ (x : Bool). (x || has k out) ≡ true) b j))

      asked : (a : ℕ) → Walked (suc fuel) mid rest end out ((done ++ inner) ++ class ∷ []) way → (b : Bool) → nat_eq a class ≡ b → (nat_eq a class || has a (within n rest)) ≡ true → has a (((done ++ inner) ++ class ∷ []) ++ out) ≡ true
      asked a v true b j = has_append a ((done ++ inner) ++ class ∷ []) out ∙ or_left (has a ((done ++ inner) ++ class ∷ [])) (has a out) (has_append a (done ++ inner) (class ∷ []) ∙ or_right (has a (done ++ inner)) (nat_eq a class || false) (or_left (nat_eq a class) false b))
      asked a v false b j = v.asked a (subst (λ (x : Bool). (x || has a (within n rest)) ≡ true) b j)

  follow : (begun : List Bool) (asks : List ℕ) (end : List Bool) (out : List ℕ) → Follows p begun asks end out → (fuel : ℕ) (done way : List ℕ) → waiting begun < fuel → Stage begun done way → Under way (within n asks) → Walked fuel begun asks end out done way
  follow _ _ _ _ f zero done way few s u = absurd (omega (arith, few))
  follow _ _ _ _ (Done b) (suc fuel) done way few s u = record {
    is = sym (append-nil done);
    stage = subst (λ l. Stage b l way) (sym (append-nil done)) s;
    few = omega arith;
    asked = λ a h. clash false h refl;
    behind = tt;
    new = λ k h. clash false h refl;
  }
  follow _ _ _ _ (Skip b c rest e o f k) (suc fuel) done way few s u = skipped fuel b c rest e o done way f s u (follow b rest e o k (suc fuel) done way few s (λ w a h i. u w a h (tail_asked c rest a i)))
  follow _ _ _ _ (Enter b c rest mid e inner o f h k) (suc fuel) done way few s u =
      entering fuel b c rest mid e inner o done way f few s u
      (λ less t v. follow (slice_set b c true) (above p c) mid inner h fuel done (c ∷ way) less t v)
      (λ done2 less t v. follow mid rest e o k (suc fuel) done2 way less t v)

  -- ---- from the start

  all_fresh : Stage (replicate n false) [] []
  all_fresh = record { long = length-replicate n false; flags = λ k lt. get_or-replicate n k false false (omega (arith, lt)) }

  none_way : Under [] (within n (counting 0 n))
  none_way w a h i = clash false h refl

  counted : (from many : ℕ) → from + many ≡ n → within n (counting from many) ≡ places_below from many
  counted from zero e = refl
  counted from (suc many) e = let t : nat_lt from n ≡ true = lt-ltb from n (omega (arith, e)) in rw t (ap (λ (l : List ℕ). from ∷ l) (counted (suc from) many (omega (arith, e))))

  walked : (order : List ℕ) (h : IsOrder p order) → Walked (suc n) (replicate n false) (counting 0 n) h.begun order [] []
  walked order h = follow (replicate n false) (counting 0 n) h.begun order h.follows (suc n) [] [] (omega (arith, sum_by-replicate (λ (b : Bool). cond b 0 1) n false)) all_fresh none_way

  pub order_is : (order : List ℕ) → IsOrder p order → class_order p ≡ order
  order_is order h = ap (λ (l : List ℕ). one_by_one (write_class (suc n) p) [] l) (sym (counted 0 n (omega arith))) ∙ (walked order h).is

  pub order_behind : (order : List ℕ) → IsOrder p order → AllBehind p [] order
  order_behind order h = (walked order h).behind

  counts_all : (from many k : ℕ) → from ≤ k → k < from + many → has k (places_below from many) ≡ true
  counts_all from zero k le lt = absurd (omega (arith, le, lt))
  counts_all from (suc many) k le lt = by_head (nat_eq k from) refl (λ more. counts_all (suc from) many k more (omega (arith, lt)))
    where
      by_head : (b : Bool) → nat_eq k from ≡ b → (suc from ≤ k → has k (places_below (suc from) many) ≡ true) → (nat_eq k from || has k (places_below (suc from) many)) ≡ true
      by_head true b on = or_left (nat_eq k from) (has k (places_below (suc from) many)) b
      by_head false b on = let other = eqb-false k from b in or_right (nat_eq k from) (has k (places_below (suc from) many)) (on (omega (arith, other, le)))

  -- no class is left out
  pub order_every : (order : List ℕ) → IsOrder p order → (k : ℕ) → k < n → has k order ≡ true
  order_every order h k lt = (walked order h).asked k (subst (λ l. has k l ≡ true) (sym (counted 0 n (omega arith))) (counts_all 0 n k (omega arith) (omega (arith, lt))))
