-- What stands directly above a class by tables that are those of a program, and by the program's own lists.
use Rattle.std.proofs.Common.{◌≡◌, ℕ, zero, suc, ◌<◌, ◌⊎◌, inl, inr, Bool, true, false, true≢false, nat_eq, List, [], ◌∷◌, ◌++◌, length, Option, Some, None, refl, sym, ap, subst, ◌∙◌, arith, lt-ltb}
use Rattle.std.specs.Prelude.{◌&&◌, ◌||◌, slice_get, nat_lt, option_and_then, cond}
use Rattle.std.specs.List.{list_any, list_all}
use Rattle.program_model.specs.declared.program.Class.{Class}
use Rattle.program_model.specs.declared.program.Program.{Program}
use Rattle.program_model.specs.Lookups.{class_place}
use Rattle.class_defs.specs.Places.{super_place, placed, places_of, listed, interface_places}
use Rattle.class_defs.specs.ClassGraph.{IsTwice, IsAbove, StepsTo, IsAncestor, IsCycle}
use Rattle.class_defs.specs.Finding.{beside}
use Rattle.class_defs.proofs.Positions.{both, number_test, number_of, place_entry}
use Rattle.class_defs.proofs.WellFormed.{and_left, and_right}
use Rattle.hierarchy.specs.Climbing.{In, IsUp, IsCircle, IsBefore, IsOrder, ups}
use Rattle.hierarchy.specs.Circling.{IsFirst}
use Rattle.hierarchy.specs.Ranks.{is_lower, is_lower_all, is_behind, IsRanked}
use Rattle.hierarchy.specs.Tables.{read_at, row_of}
use Rattle.hierarchy.proofs.Acyclic.{own_place}
use Rattle.hierarchy.proofs.Keyed.{got_short}

-- ---- members of lists

pub in_left : (u : ℕ) (xs ys : List ℕ) → In u xs → In u (xs ++ ys)
in_left u [] ys i = absurd i
in_left u (x ∷ xs) ys (inl s) = inl s
in_left u (x ∷ xs) ys (inr i) = inr (in_left u xs ys i)

pub in_right : (u : ℕ) (xs ys : List ℕ) → In u ys → In u (xs ++ ys)
in_right u [] ys i = i
in_right u (x ∷ xs) ys i = inr (in_right u xs ys i)

pub in_split : (u : ℕ) (xs ys : List ℕ) → In u (xs ++ ys) → In u xs ⊎ In u ys
in_split u [] ys i = inr i
in_split u (x ∷ xs) ys (inl s) = inl (inl s)
in_split u (x ∷ xs) ys (inr i) = elim (in_split u xs ys i) [ inl j ↦ inl (inr j) | inr j ↦ inr j ]

pub all_in : (t : ℕ → Bool) (us : List ℕ) (u : ℕ) → list_all t us ≡ true → In u us → t u ≡ true
all_in t [] u h i = absurd i
all_in t (x ∷ xs) u h (inl s) = ap t s ∙ and_left (t x) (list_all t xs) h
all_in t (x ∷ xs) u h (inr i) = all_in t xs u (and_right (t x) (list_all t xs) h) i

pub all_of : (t : ℕ → Bool) (us : List ℕ) → ((u : ℕ) → In u us → t u ≡ true) → list_all t us ≡ true
all_of t [] h = refl
all_of t (x ∷ xs) h = both (t x) (list_all t xs) (h x (inl refl)) (all_of t xs (λ u i. h u (inr i)))

pub in_beside : (u : ℕ) (o : Option ℕ) → In u (beside o) → o ≡ Some u
in_beside u None i = absurd i
in_beside u (Some c) (inl s) = ap (λ x. Some x) (sym s)
in_beside u (Some c) (inr i) = absurd i

pub beside_in : (u : ℕ) (o : Option ℕ) → o ≡ Some u → In u (beside o)
beside_in u o e = subst (λ w. In u (beside w)) (sym e) (inl refl)

-- ---- places of classes

pub place_short : (p : Program) (k u : ℕ) → class_place p k ≡ Some u → u < length p.classes
place_short p k u e = let x = place_entry (λ c. nat_eq c.name k) p.classes u e in got_short p.classes u x.entry x.is

-- a type of the list is that of the class
pub record Lists (p : Program) (ks : List ℕ) (u : ℕ) : Type 0 where
  pub kind : ℕ
  pub there : In kind ks
  pub is : class_place p kind ≡ Some u

pub lists_of : (p : Program) (ks : List ℕ) (u : ℕ) → In u (places_of p ks) → Lists p ks u
lists_of p [] u i = absurd i
lists_of p (k ∷ ks) u i = by_place (class_place p k) refl i (lists_of p ks u)
  where
    more : Lists p ks u → Lists p (k ∷ ks) u
    more l = record { kind = l.kind; there = inr l.there; is = l.is }

    by_place : (o : Option ℕ) → class_place p k ≡ o → In u (placed o (places_of p ks)) → (In u (places_of p ks) → Lists p ks u) → Lists p (k ∷ ks) u
    by_place None e j rest = more (rest j)
    by_place (Some c) e (inl s) rest = record { kind = k; there = inl refl; is = e ∙ ap (λ x. Some x) (sym s) }
    by_place (Some c) e (inr j) rest = more (rest j)

pub in_lists : (p : Program) (ks : List ℕ) (kind u : ℕ) → In kind ks → class_place p kind ≡ Some u → In u (places_of p ks)
in_lists p [] kind u i e = absurd i
in_lists p (k ∷ ks) kind u (inl s) e = subst (λ o. In u (placed o (places_of p ks))) (sym (sym (ap (class_place p) s) ∙ e)) (inl refl)
in_lists p (k ∷ ks) kind u (inr i) e = by_place (class_place p k) (in_lists p ks kind u i e)
  where
    by_place : (o : Option ℕ) → In u (places_of p ks) → In u (placed o (places_of p ks))
    by_place None j = j
    by_place (Some c) j = inr j

any_in : (n : ℕ) (ks : List ℕ) → list_any (λ k. nat_eq k n) ks ≡ true → In n ks
any_in n [] e = absurd (true≢false (sym e))
any_in n (k ∷ ks) e = by_test (nat_eq k n) refl e (any_in n ks)
  where
    by_test : (b : Bool) → nat_eq k n ≡ b → (b || list_any (λ k. nat_eq k n) ks) ≡ true → (list_any (λ k. nat_eq k n) ks ≡ true → In n ks) → In n (k ∷ ks)
    by_test true f g more = inl (sym (number_of k n f))
    by_test false f g more = inr (more g)

in_any : (n : ℕ) (ks : List ℕ) → In n ks → list_any (λ k. nat_eq k n) ks ≡ true
in_any n [] i = absurd i
in_any n (k ∷ ks) (inl s) = ap (λ b. b || list_any (λ k. nat_eq k n) ks) (number_test k n (sym s))
in_any n (k ∷ ks) (inr i) = by_test (nat_eq k n) (in_any n ks i)
  where
    by_test : (b : Bool) → list_any (λ k. nat_eq k n) ks ≡ true → (b || list_any (λ k. nat_eq k n) ks) ≡ true
    by_test true g = refl
    by_test false g = g

pub or_right : (a b : Bool) → b ≡ true → (a || b) ≡ true
or_right true b e = refl
or_right false b e = e

-- the first place of a number in a list
abbrev pub index_of : List ℕ → ℕ → ℕ
index_of [] c = 0
index_of (x ∷ xs) c = cond (nat_eq x c) 0 (suc (index_of xs c))

pub found_at : (order : List ℕ) (i c : ℕ) → slice_get order i ≡ Some c → slice_get order (index_of order c) ≡ Some c
found_at [] i c e = cc
found_at (x ∷ xs) i c e = by_test (nat_eq x c) refl i e (λ j. found_at xs j c)
  where
    by_test : (b : Bool) → nat_eq x c ≡ b → (i : ℕ) → slice_get (x ∷ xs) i ≡ Some c → ((j : ℕ) → slice_get xs j ≡ Some c → slice_get xs (index_of xs c) ≡ Some c) → slice_get (x ∷ xs) (cond b 0 (suc (index_of xs c))) ≡ Some c
    by_test true f i e more = ap (λ w. Some w) (number_of x c f)
    by_test false f zero e more = let s : x ≡ c = cc in absurd (true≢false (sym (number_test x c s) ∙ f))
    by_test false f (suc i) e more = more i e

pub super_short : (p : Program) (c u : ℕ) → super_place p c ≡ Some u → u < length p.classes
super_short p c u e = by_class (slice_get p.classes c) e
  where
    by_class : (o : Option Class) → option_and_then (λ k. class_place p k.superclass) o ≡ Some u → u < length p.classes
    by_class None f = cc
    by_class (Some k) f = place_short p k.superclass u f

pub interface_short : (p : Program) (c u : ℕ) → In u (interface_places p c) → u < length p.classes
interface_short p c u i = by_class (slice_get p.classes c) i
  where
    by_class : (o : Option Class) → In u (listed p o) → u < length p.classes
    by_class None j = absurd j
    by_class (Some k) j = let l = lists_of p k.interfaces u j in place_short p l.kind u l.is

pub steps_map : (A B : ℕ → ℕ → Type 0) (c u : ℕ) (mids : List ℕ) → ((a b : ℕ) → A a b → B a b) → StepsTo A c mids u → StepsTo B c mids u
steps_map A B c u [] f s = f c u s
steps_map A B c u (m ∷ ms) f s = (f c m s.0, steps_map A B m u ms f s.1)

-- ---- tables of a program

module _ (p : Program) (supers : List ℕ) (rows : List (List ℕ)) (ups_are : (c : ℕ) → read_at supers c ≡ super_place p c) (lists_are : (c : ℕ) → row_of rows c ≡ interface_places p c) (long : length supers ≡ length p.classes) where
  by_program : (c u : ℕ) → In u (ups supers rows c) → In u (interface_places p c) ⊎ (super_place p c ≡ Some u)
  by_program c u i = elim (in_split u (row_of rows c) (beside (read_at supers c)) i) [
    | inl j ↦ inl (subst (In u) (lists_are c) j)
    | inr j ↦ inr (sym (ups_are c) ∙ in_beside u (read_at supers c) j)
  ]

  pub up_above : (c u : ℕ) → IsUp (ups supers rows) (length supers) c u → IsAbove p c u
  up_above c u i = by_class (slice_get p.classes c) refl (by_program c u i.there)
    where
      above_of : (k : Class) (kind : ℕ) → slice_get p.classes c ≡ Some k → class_place p kind ≡ Some u → (k.superclass ≡ kind) ⊎ In kind k.interfaces → IsAbove p c u
      above_of k kind e at named =
          let x = place_entry (λ d. nat_eq d.name kind) p.classes u at in
          let name : x.entry.name ≡ kind = number_of x.entry.name kind x.passes in
          record { c = k; u = x.entry; is_class = e; is_upper = x.is; names = by_name k.superclass k.interfaces x.entry.name kind name named }
        where
          by_name : (super : ℕ) (list : List ℕ) (name kind : ℕ) → name ≡ kind → (super ≡ kind) ⊎ In kind list → (nat_eq super name || list_any (λ k. nat_eq k name) list) ≡ true
          by_name super list name kind n (inl s) = ap (λ b. b || list_any (λ k. nat_eq k name) list) (number_test super name (s ∙ sym n))
          by_name super list name kind n (inr j) = or_right (nat_eq super name) (list_any (λ k. nat_eq k name) list) (in_any name list (subst (λ w. In w list) (sym n) j))

      by_class : (o : Option Class) → slice_get p.classes c ≡ o → In u (listed p o) ⊎ (option_and_then (λ k. class_place p k.superclass) o ≡ Some u) → IsAbove p c u
      by_class None e (inl j) = absurd j
      by_class None e (inr s) = cc
      by_class (Some k) e (inl j) = let l = lists_of p k.interfaces u j in above_of k l.kind e l.is (inr l.there)
      by_class (Some k) e (inr s) = above_of k k.superclass e s (inl refl)

  module _ (once : (class : ℕ) → IsTwice p class → ⊥) where
    pub above_up : (c u : ℕ) → IsAbove p c u → IsUp (ups supers rows) (length supers) c u
    above_up c u i = record { there = by_names (nat_eq i.c.superclass i.u.name) refl i.names; short = (let s = got_short p.classes u i.u i.is_upper in omega (arith, s, long)) }
      where
        at : class_place p i.u.name ≡ Some u
        at = own_place p once u i.u i.is_upper

        by_names : (b : Bool) → nat_eq i.c.superclass i.u.name ≡ b → (b || list_any (λ k. nat_eq k i.u.name) i.c.interfaces) ≡ true → In u (ups supers rows c)
        by_names true e n = in_right u (row_of rows c) (beside (read_at supers c)) (beside_in u (read_at supers c)
            (ups_are c ∙ ap (option_and_then (λ k. class_place p k.superclass)) i.is_class ∙ ap (class_place p) (number_of i.c.superclass i.u.name e) ∙ at))
        by_names false e n = in_left u (row_of rows c) (beside (read_at supers c)) (subst (In u) (sym (lists_are c ∙ ap (listed p) i.is_class)) (in_lists p i.c.interfaces i.u.name u (any_in i.u.name i.c.interfaces n) at))

    pub circle_ancestor : (c : ℕ) → IsCircle supers rows c → IsAncestor p c c
    circle_ancestor c i = record { mids = i.mids; steps = steps_map (IsUp (ups supers rows) (length supers)) (IsAbove p) c c i.mids up_above i.steps }

    pub ancestor_circle : (c : ℕ) → IsAncestor p c c → IsCircle supers rows c
    ancestor_circle c i = record { mids = i.mids; steps = steps_map (IsAbove p) (IsUp (ups supers rows) (length supers)) c c i.mids above_up i.steps }

    pub first_cycle : (class : ℕ) → IsFirst supers rows class → IsCycle p class
    first_cycle class f = record { own = circle_ancestor class f.own; first = λ other l a. f.first other l (ancestor_circle other a) }

  -- ---- ranks by an order

  pub ranked_by : (order : List ℕ) → IsOrder supers rows order → IsRanked p
  ranked_by order o = record { rank = index_of order; each = λ c l. behind c l }
    where
      lower : (c u : ℕ) (b : IsBefore order (length order) c) → In u (ups supers rows c) → u < length p.classes → nat_lt (index_of order u) (index_of order c) ≡ true
      lower c u b i l =
          let a : IsBefore order b.at u = o.behind b.at c u b.is i (omega (arith, l, long)) in
          let x : index_of order u ≡ a.at = o.once (index_of order u) a.at u (found_at order a.at u a.is) a.is in
          let y : index_of order c ≡ b.at = o.once (index_of order c) b.at c (found_at order b.at c b.is) b.is in
          let z = a.before in
          lt-ltb (index_of order u) (index_of order c) (omega (arith, x, y, z))

      by_super : (c : ℕ) (b : IsBefore order (length order) c) (w : Option ℕ) → super_place p c ≡ w → is_lower (index_of order) (index_of order c) w ≡ true
      by_super c b None e = refl
      by_super c b (Some u) e = lower c u b (in_right u (row_of rows c) (beside (read_at supers c)) (beside_in u (read_at supers c) (ups_are c ∙ e))) (super_short p c u e)

      behind : (c : ℕ) → c < length p.classes → is_behind (index_of order) (length p.classes) c (super_place p c) (interface_places p c) ≡ true
      behind c l =
          let b = o.all c (omega (arith, l, long)) in
          let y : index_of order c ≡ b.at = o.once (index_of order c) b.at c (found_at order b.at c b.is) b.is in
          let z = b.before in
          let s = o.size in
          both (nat_lt (index_of order c) (length p.classes) && is_lower (index_of order) (index_of order c) (super_place p c)) (is_lower_all (index_of order) (index_of order c) (interface_places p c))
          (both (nat_lt (index_of order c) (length p.classes)) (is_lower (index_of order) (index_of order c) (super_place p c)) (lt-ltb (index_of order c) (length p.classes) (omega (arith, y, z, s, long))) (by_super c b (super_place p c) refl))
          (all_of (λ u. nat_lt (index_of order u) (index_of order c)) (interface_places p c) (λ u i. lower c u b (in_left u (row_of rows c) (beside (read_at supers c)) (subst (In u) (sym (lists_are c)) i)) (interface_short p c u i)))
