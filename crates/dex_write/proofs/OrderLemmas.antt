-- The search for the order of the classes.
use Rattle.std.specs.declared.alloc.AllocError.{AllocError}
use Rattle.std.proofs.Common.{Result, Ok, Err, OnOk, ◌≡◌, ℕ, zero, suc, ◌+◌, ◌-◌, ◌<◌, ◌≤◌, List, [], ◌∷◌, ◌++◌, length, reverse, drop, replicate, Bool, true, false, nat_eq, nat_lt, Option, Some, None, slice_get, slice_set, slice_index_or, if◌then◌else◌, refl, sym, ap, subst, ◌∙◌, ⊎_elim, ◌⊎◌, inl, inr, true≢false, append_assoc, append-nil, is_some, unwrap_or, arith, not-suc-le-zero, le_of_suc-le-suc}
use Rattle.std.proofs.lemmas.Bool.{cases_Bool}
use Rattle.std.proofs.lemmas.Bool.Decides.{nat_tests, leb_tells}
use Rattle.std.proofs.lemmas.List.{reverse-append}
use Rattle.program_model.specs.declared.program.Program.{Program}
use Rattle.dex_write.proofs.TakeLemmas.{drop_past}
use Rattle.dex_write.specs.declared.class_order.Visit.{Visit}
use Rattle.dex_write.specs.declared.class_order.Search.{Search}
use Rattle.dex_write.specs.Order.{first_from, place_of, ArePlaces, above, is_fresh, Follows, Done, Skip, Enter, counting, IsOrder, IsOnlyOrder, visit, begin_where, begin_at, pushed, step_to, step_from, Then, Ends, Drained, Asked}

-- ---- the places of the types

abbrev pub or_else : ℕ → ℕ → ℕ → ℕ
or_else none a b = if nat_eq a none then b else a

pub record PlacesSoFar (p : Program) (place : ℕ) (places : List ℕ) : Type 0 where
  pub long : length places ≡ length p.types
  pub each : (kind : ℕ) → kind < length p.types → or_else (length p.classes) (slice_index_or places kind (length p.classes)) (first_from (length p.classes) kind place (drop place p.classes)) ≡ first_from (length p.classes) kind 0 p.classes

same_either : (none a : ℕ) → or_else none a none ≡ a
same_either none a = grind (arith, nat_tests)

get_past : (xs : List ℕ) (k d : ℕ) → length xs ≤ k → slice_index_or xs k d ≡ d
get_past [] k d le = refl
get_past (x ∷ xs) zero d le = absurd (not-suc-le-zero le)
get_past (x ∷ xs) (suc k) d le = get_past xs k d (le_of_suc-le-suc le)

below_tells : (a b : ℕ) → ((nat_lt a b ≡ true) × (a < b)) ⊎ ((nat_lt a b ≡ false) × (b ≤ a))
below_tells a b = ⊎_elim (λ y. inl (y.0, y.1)) (λ n. inr (n.0, le_of_suc-le-suc n.1)) (leb_tells (suc a) b)

pub places_all : (p : Program) (place : ℕ) (places : List ℕ) → PlacesSoFar p place places → drop place p.classes ≡ [] → ArePlaces p places
unfolding place_of
places_all p place places h none_left = record {
  at = λ kind.
      let none : ℕ = length p.classes in
      ⊎_elim
      (λ yes. rw yes.0 (sym (same_either none (slice_index_or places kind none)) ∙ subst (λ l. or_else none (slice_index_or places kind none) (first_from none kind place l) ≡ first_from none kind 0 p.classes) none_left (h.each kind yes.1)))
      (λ no. rw no.0 (get_past places kind none (subst (λ n. n ≤ kind) (sym h.long) no.1)))
      (below_tells kind (length p.types));
}

-- ---- what is left of a list

get_none : (xs : List ℕ) (k : ℕ) → slice_get xs k ≡ None → drop k xs ≡ []
get_none [] zero e = refl
get_none [] (suc k) e = refl
get_none (x ∷ xs) zero e = absurd (true≢false (ap is_some e))
get_none (x ∷ xs) (suc k) e = get_none xs k e

get_some : (xs : List ℕ) (k x : ℕ) → slice_get xs k ≡ Some x → drop k xs ≡ x ∷ drop (suc k) xs
get_some [] zero x e = absurd (true≢false (sym (ap is_some e)))
get_some [] (suc k) x e = absurd (true≢false (sym (ap is_some e)))
get_some (y ∷ xs) zero x e = ap (λ n. n ∷ xs) (ap (λ o. unwrap_or o y) e)
get_some (y ∷ xs) (suc k) x e = get_some xs k x e

-- ---- a step of the search

pub record Progress (p : Program) (s t : Search) : Type 0 where
  pub done : List ℕ
  pub order : t.order ≡ s.order ++ done
  pub on : (end : List Bool) (out : List ℕ) → Ends p t.begun (reverse t.way) end out → Ends p s.begun (reverse s.way) end (done ++ out)

-- what a step writes, and that what is left behind it is what was left
record Stepped (p : Program) (v : Visit) (s t : Search) : Type 0 where
  pub done : List ℕ
  pub order : t.order ≡ s.order ++ done
  pub on : (end : List Bool) (out : List ℕ) → Ends p t.begun (reverse t.way) end out → Ends p s.begun (v ∷ reverse s.way) end (done ++ out)

reverse_push : (way : List Visit) (v : Visit) → reverse (way ++ v ∷ []) ≡ v ∷ reverse way
reverse_push way v = reverse-append way (v ∷ [])

step_writes : (p : Program) (v : Visit) (s : Search) → slice_get (above p v.class) v.looked ≡ None → Stepped p v s (step_to None v s)
step_writes p v s e = record {
  done = v.class ∷ [];
  order = refl;
  on = λ end out h. record { mid = s.begun; inner = []; more = out; follows = rw (get_none (above p v.class) v.looked e) (Done s.begun); goes_on = h; is = refl };
}

-- a class above that was begun
step_skips : (p : Program) (v : Visit) (s : Search) (class : ℕ) → slice_get (above p v.class) v.looked ≡ Some class → is_fresh s.begun class ≡ false → Stepped p v s (pushed (visit v.class (suc v.looked)) s)
step_skips p v s class e f = record {
  done = [];
  order = sym (append-nil s.order);
  on = λ end out h.
      let w : Visit = visit v.class (suc v.looked) in
      let k : Then p s.begun w (λ mid more. Ends p mid (reverse s.way) end more) out = subst (λ l. Ends p s.begun l end out) (reverse_push s.way w) h in
      record {
        mid = k.mid;
        inner = k.inner;
        more = k.more;
        follows = rw (get_some (above p v.class) v.looked class e) (Skip s.begun class (drop (suc v.looked) (above p v.class)) k.mid k.inner f k.follows);
        goes_on = k.goes_on;
        is = k.is;
      };
}

-- a class above that was not begun
step_enters : (p : Program) (v : Visit) (s : Search) (class : ℕ) → slice_get (above p v.class) v.looked ≡ Some class → is_fresh s.begun class ≡ true → Stepped p v s (begin_where true class (pushed (visit v.class (suc v.looked)) s))
step_enters p v s class e f = record {
  done = [];
  order = sym (append-nil s.order);
  on = λ end out h.
      let w : Visit = visit v.class (suc v.looked) in
      let x : Visit = visit class 0 in
      let begun : List Bool = slice_set s.begun class true in
      let turned : reverse ((s.way ++ w ∷ []) ++ x ∷ []) ≡ x ∷ (w ∷ reverse s.way) = reverse_push (s.way ++ w ∷ []) x ∙ ap (λ (l : List Visit). x ∷ l) (reverse_push s.way w) in
      let k : Then p begun x (λ mid more. Ends p mid (w ∷ reverse s.way) end more) out = subst (λ l. Ends p begun l end out) turned h in
      let m : Then p k.mid w (λ mid more. Ends p mid (reverse s.way) end more) k.more = k.goes_on in
      record {
        mid = m.mid;
        inner = k.inner ++ class ∷ m.inner;
        more = m.more;
        follows = rw (get_some (above p v.class) v.looked class e) (Enter s.begun class (drop (suc v.looked) (above p v.class)) k.mid m.mid k.inner m.inner f k.follows m.follows);
        goes_on = m.goes_on;
        is = k.is ∙ ap (λ (l : List ℕ). k.inner ++ class ∷ l) m.is ∙ sym (append_assoc k.inner (class ∷ m.inner) (v.class ∷ m.more));
      };
}

step_over : (p : Program) (v : Visit) (s : Search) (o : Option ℕ) → slice_get (above p v.class) v.looked ≡ o → Stepped p v s (step_to o v s)
step_over p v s None e = step_writes p v s e
step_over p v s (Some class) e = ⊎_elim
    (λ t. subst (λ b. Stepped p v s (begin_where b class (pushed (visit v.class (suc v.looked)) s))) (sym t) (step_enters p v s class e t))
    (λ f. subst (λ b. Stepped p v s (begin_where b class (pushed (visit v.class (suc v.looked)) s))) (sym f) (step_skips p v s class e f))
    (cases_Bool (is_fresh s.begun class))

pub progress_none : (p : Program) (s : Search) → Progress p s s
progress_none p s = record { done = []; order = sym (append-nil s.order); on = λ end out h. h }

pub progress_more : (p : Program) (s t u w : Search) (v : Visit) → Progress p s t → t.way ≡ u.way ++ v ∷ [] → u.begun ≡ t.begun → u.order ≡ t.order → w ≡ step_from p v u → Progress p s w
progress_more p s t u w v h way begun order e =
    let one : Stepped p v u w = subst (λ x. Stepped p v u x) (sym e) (step_over p v u (slice_get (above p v.class) v.looked) refl) in
    record {
      done = h.done ++ one.done;
      order = one.order ∙ ap (λ (l : List ℕ). l ++ one.done) (order ∙ h.order) ∙ append_assoc s.order h.done one.done;
      on = λ end out k.
          let back : Ends p t.begun (v ∷ reverse u.way) end (one.done ++ out) = subst (λ b. Ends p b (v ∷ reverse u.way) end (one.done ++ out)) begun (one.on end out k) in
          let turned : Ends p t.begun (reverse t.way) end (one.done ++ out) = subst (λ l. Ends p t.begun l end (one.done ++ out)) (sym (ap reverse way ∙ reverse_push u.way v)) back in
          subst (λ l. Ends p s.begun (reverse s.way) end l) (sym (append_assoc h.done one.done out)) (h.on end (one.done ++ out) turned);
    }

pub progress_drained : (p : Program) (s t u : Search) → Progress p s t → t.way ≡ [] → t.way ≡ u.way ++ [] → u.begun ≡ t.begun → u.order ≡ t.order → Drained p (reverse s.way) s u
progress_drained p s t u h empty way begun order = record {
  empty = sym (append-nil u.way) ∙ sym way ∙ empty;
  inner = h.done ++ [];
  order = order ∙ h.order ∙ ap (λ (l : List ℕ). s.order ++ l) (sym (append-nil h.done));
  ends = h.on u.begun [] (subst (λ l. Ends p t.begun l u.begun []) (sym (ap reverse empty)) (begun, refl));
}

-- ---- a class that is asked for

begun_ends : (p : Program) (class : ℕ) (s t : Search) → s.way ≡ [] → is_fresh s.begun class ≡ true → Drained p (reverse (begin_where true class s).way) (begin_where true class s) t → Asked p class s t
begun_ends p class s t none f d =
    let x : Visit = visit class 0 in
    let begun : List Bool = slice_set s.begun class true in
    let turned : reverse (s.way ++ x ∷ []) ≡ x ∷ [] = reverse_push s.way x ∙ ap (λ (l : List Visit). x ∷ reverse l) none in
    let k : Then p begun x (λ mid more. Ends p mid [] t.begun more) d.inner = subst (λ l. Ends p begun l t.begun d.inner) turned d.ends in
    let last : (t.begun ≡ k.mid) × (k.more ≡ []) = k.goes_on in
    let is : d.inner ≡ k.inner ++ class ∷ [] = k.is ∙ ap (λ (l : List ℕ). k.inner ++ class ∷ l) last.1 in
    record {
      empty = d.empty;
      inner = k.inner ++ class ∷ [];
      order = d.order ∙ ap (λ (l : List ℕ). s.order ++ l) is;
      on = λ rest end out h.
          let on : Follows p k.mid rest end out = subst (λ b. Follows p b rest end out) last.0 h in
          subst (λ l. Follows p s.begun (class ∷ rest) end l) (sym (append_assoc k.inner (class ∷ []) out)) (Enter s.begun class rest k.mid end k.inner out f k.follows on);
    }

known_ends : (p : Program) (class : ℕ) (s t : Search) → s.way ≡ [] → is_fresh s.begun class ≡ false → Drained p (reverse s.way) s t → Asked p class s t
known_ends p class s t none f d =
    let last : (t.begun ≡ s.begun) × (d.inner ≡ []) = subst (λ l. Ends p s.begun l t.begun d.inner) (ap reverse none) d.ends in
    record {
      empty = d.empty;
      inner = [];
      order = d.order ∙ ap (λ (l : List ℕ). s.order ++ l) last.1;
      on = λ rest end out h. Skip s.begun class rest end out f (subst (λ b. Follows p b rest end out) last.0 h);
    }

pub drained_asked : (p : Program) (class : ℕ) (s t u : Search) → s.way ≡ [] → t ≡ begin_at class s → Drained p (reverse t.way) t u → Asked p class s u
drained_asked p class s t u none e d =
    let k : Drained p (reverse (begin_at class s).way) (begin_at class s) u = subst (λ x. Drained p (reverse x.way) x u) e d in
    ⊎_elim
    (λ y. begun_ends p class s u none y (subst (λ b. Drained p (reverse (begin_where b class s).way) (begin_where b class s) u) y k))
    (λ n. known_ends p class s u none n (subst (λ b. Drained p (reverse (begin_where b class s).way) (begin_where b class s) u) n k))
    (cases_Bool (is_fresh s.begun class))

-- ---- all of them

pub record OrderSoFar (p : Program) (class : ℕ) (s : Search) : Type 0 where
  pub empty : s.way ≡ []
  pub on : (end : List Bool) (out : List ℕ) → Follows p s.begun (counting class (length p.classes - class)) end out
      → Follows p (replicate (length p.classes) false) (counting 0 (length p.classes)) end (s.order ++ out)

sub-zero : (n : ℕ) → n - 0 ≡ n
sub-zero n = omega arith

pub order_none : (p : Program) (s : Search) → s.way ≡ [] → s.order ≡ [] → s.begun ≡ replicate (length p.classes) false → OrderSoFar p 0 s
order_none p s empty order begun = record {
  empty = empty;
  on = λ end out h. subst (λ l. Follows p (replicate (length p.classes) false) (counting 0 (length p.classes)) end (l ++ out)) (sym order) (subst (λ n. Follows p (replicate (length p.classes) false) (counting 0 n) end out) (sub-zero (length p.classes)) (subst (λ b. Follows p b (counting 0 (length p.classes - 0)) end out) begun h));
}

pub order_more : (p : Program) (class : ℕ) (s t : Search) → OrderSoFar p class s → class < length p.classes → Asked p class s t → OrderSoFar p (suc class) t
order_more p class s t h lt a = record {
  empty = a.empty;
  on = λ end out k.
      let left : length p.classes - class ≡ suc (length p.classes - suc class) = omega (arith, lt) in
      let here : Follows p s.begun (counting class (length p.classes - class)) end (a.inner ++ out) = rw left (a.on (counting (suc class) (length p.classes - suc class)) end out k) in
      subst (λ l. Follows p (replicate (length p.classes) false) (counting 0 (length p.classes)) end l) (sym (append_assoc s.order a.inner out) ∙ ap (λ (l : List ℕ). l ++ out) (sym a.order)) (h.on end (a.inner ++ out) here);
}

pub asked_ok : (p : Program) (class : ℕ) (r : Result Unit AllocError) (s t u : Search) → s.way ≡ [] → t ≡ begin_at class s → OnOk r (Drained p (reverse t.way) t u) → OnOk r (Asked p class s u)
asked_ok p class (Ok x) s t u none e d = drained_asked p class s t u none e d
asked_ok p class (Err x) s t u none e d = tt

pub order_step : (p : Program) (class : ℕ) (s t : Search) → OrderSoFar p class s → class < length p.classes → Asked p class s t → OrderSoFar p (class + 1) t
order_step p class s t h lt a = let e : class + 1 ≡ suc class = omega arith in rw e (order_more p class s t h lt a)

pub order_end : (p : Program) (class : ℕ) (s : Search) → OrderSoFar p class s → length p.classes ≤ class → IsOrder p s.order
order_end p class s h le =
    let none : length p.classes - class ≡ 0 = omega (arith, le) in
    let nothing : Follows p s.begun (counting class (length p.classes - class)) s.begun [] = rw none (Done s.begun) in
    record { begun = s.begun; follows = subst (λ l. Follows p (replicate (length p.classes) false) (counting 0 (length p.classes)) s.begun l) (append-nil s.order) (h.on s.begun [] nothing) }

pub places_end : (p : Program) (place : ℕ) (places : List ℕ) → PlacesSoFar p place places → length p.classes ≤ place → ArePlaces p places
places_end p place places h le = places_all p place places h (drop_past p.classes place le)

-- ---- there is one order

follows_once : (p : Program) (begun : List Bool) (asked : List ℕ) (e f : List Bool) (o q : List ℕ) → Follows p begun asked e o → Follows p begun asked f q → (e ≡ f) × (o ≡ q)
follows_once p _ _ _ _ _ _ (Done b) (Done _) = (refl, refl)
follows_once p _ _ _ _ _ _ (Skip b c r e o n h) (Skip _ _ _ f q m k) = follows_once p b r e f o q h k
follows_once p _ _ _ _ _ _ (Skip b c r e o n h) (Enter _ _ _ mid f inner q t k l) = absurd (true≢false (sym t ∙ n))
follows_once p _ _ _ _ _ _ (Enter b c r mid e inner o t h k) (Skip _ _ _ f q n l) = absurd (true≢false (sym t ∙ n))
follows_once p _ _ _ _ _ _ (Enter b c r mid e inner o t h k) (Enter _ _ _ mid2 f inner2 q t2 h2 k2) =
    let a : (mid ≡ mid2) × (inner ≡ inner2) = follows_once p (slice_set b c true) (above p c) mid mid2 inner inner2 h h2 in
    let d : (e ≡ f) × (o ≡ q) = follows_once p mid r e f o q k (subst (λ x. Follows p x r f q) (sym a.0) k2) in
    (d.0, λ i. a.1 i ++ c ∷ d.1 i)

pub only_order : (p : Program) (order : List ℕ) → IsOrder p order → IsOnlyOrder p order
only_order p order h = record { one = λ other k. (follows_once p (replicate (length p.classes) false) (counting 0 (length p.classes)) k.begun h.begun other order k.follows h.follows).1 }
