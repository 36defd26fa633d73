-- Classes that are initialised trivially, along an order of the classes.
use Rattle.std.proofs.Common.{◌≡◌, ℕ, zero, suc, ◌+◌, ◌<◌, ◌≤◌, inl, inr, Bool, true, false, List, [], ◌∷◌, length, Option, Some, None, refl, sym, ap, subst, ◌∙◌, arith, ltb-true, take, drop, ◌++◌, slice_index}
use Rattle.std.proofs.lemmas.List.{take_at}
use Rattle.std.specs.Prelude.{◌&&◌, not, is_some, slice_get, slice_index_or, slice_set, nat_lt}
use Rattle.std.specs.List.{list_all}
use Rattle.program_model.specs.declared.program.Program.{Program}
use Rattle.class_defs.specs.Places.{super_place, interface_places, chain_from}
use Rattle.class_defs.specs.Finding.{beside}
use Rattle.class_defs.specs.Starts.{initialiser_place, interfaces_quiet, is_trivial}
use Rattle.hierarchy.specs.Climbing.{In, IsOrder, ups}
use Rattle.hierarchy.specs.Quieting.{is_quiet, Serves, Marks}
use Rattle.hierarchy.specs.Ranks.{IsRanked}
use Rattle.hierarchy.specs.Tables.{read_at, row_of}
use Rattle.hierarchy.proofs.Above.{in_left, in_right, all_in, beside_in, super_short, interface_short}
use Rattle.hierarchy.proofs.Marks.{set_size, before_or_at}
use Rattle.hierarchy.proofs.Resolving.{list_lower, super_lower, short}

-- ---- a table that is filled along an order

set_here : (l : List Bool) (x : ℕ) (v : Bool) → x < length l → slice_index_or (slice_set l x v) x false ≡ v
set_here [] x v lt = absurd (omega (arith, lt))
set_here (b ∷ bs) zero v lt = refl
set_here (b ∷ bs) (suc x) v lt = set_here bs x v (omega (arith, lt))

set_other : (l : List Bool) (x c : ℕ) (v : Bool) → (c ≡ x → ⊥) → slice_index_or (slice_set l x v) c false ≡ slice_index_or l c false
set_other [] x c v h = refl
set_other (b ∷ bs) zero zero v h = absurd (h refl)
set_other (b ∷ bs) zero (suc c) v h = refl
set_other (b ∷ bs) (suc x) zero v h = refl
set_other (b ∷ bs) (suc x) (suc c) v h = set_other bs x c v (λ e. h (ap suc e))

-- the table says what the test says of the classes in front of a place of the order
pub record FilledTo (n : ℕ) (test : ℕ → Bool) (order : List ℕ) (table : List Bool) (i : ℕ) : Type 0 where
  pub size : length table ≡ n
  pub is : (j c : ℕ) → j < i → slice_get order j ≡ Some c → slice_index_or table c false ≡ test c

pub fills : (n : ℕ) (test : ℕ → Bool) (order : List ℕ) (table more : List Bool) (i x : ℕ) (v : Bool) → ((a b c : ℕ) → slice_get order a ≡ Some c → slice_get order b ≡ Some c → a ≡ b) → x < n → slice_get order i ≡ Some x → more ≡ slice_set table x v → v ≡ test x
    → FilledTo n test order table i → FilledTo n test order more (i + 1)
fills n test order table more i x v once lt here set is f = record {
  size = ap length set ∙ set_size table x v ∙ f.size;
  is = λ j c l e. ap (λ t. slice_index_or t c false) set ∙ elim (before_or_at j i l) as (λ _. slice_index_or (slice_set table x v) c false ≡ test c) [
    | inl b ↦ set_other table x c v (λ s. let same : j ≡ i = once j i c e (here ∙ ap (λ w. Some w) (sym s)) in omega (arith, b, same)) ∙ f.is j c b e
    | inr s ↦ (
        let same : Some x ≡ Some c = sym here ∙ ap (slice_get order) (sym s) ∙ e in
        let t : x ≡ c = cc in
        ap (λ w. slice_index_or (slice_set table x v) w false) (sym t) ∙ set_here table x v (let z = f.size in omega (arith, lt, z)) ∙ is ∙ ap test t
        )
  ];
}

pub filled_none : (n : ℕ) (test : ℕ → Bool) (order : List ℕ) (table : List Bool) → length table ≡ n → FilledTo n test order table 0
filled_none n test order table e = record { size = e; is = λ j c l. absurd (omega (arith, l)) }

pub filled_all : (supers : List ℕ) (rows : List (List ℕ)) (test : ℕ → Bool) (order : List ℕ) (table : List Bool) (n i : ℕ) → length supers ≡ n → IsOrder supers rows order → length order ≤ i → FilledTo n test order table i → Marks n test table
filled_all supers rows test order table n i long o end f = record {
  is = λ c l. let b = o.all c (omega (arith, l, long)) in let k = b.before in f.is b.at c (omega (arith, k, end)) b.is;
}

-- what the table says of those above
pub filled_above : (supers : List ℕ) (rows : List (List ℕ)) (test : ℕ → Bool) (order : List ℕ) (table : List Bool) (n i x u : ℕ) → length supers ≡ n → IsOrder supers rows order → slice_get order i ≡ Some x → In u (ups supers rows x) → u < n → FilledTo n test order table i
    → slice_index_or table u false ≡ test u
filled_above supers rows test order table n i x u long o here above lt f = let b = o.behind i x u here above (omega (arith, lt, long)) in f.is b.at u b.before b.is

all_same : (f g : ℕ → Bool) (us : List ℕ) → ((u : ℕ) → In u us → f u ≡ g u) → list_all f us ≡ list_all g us
all_same f g [] h = refl
all_same f g (u ∷ us) h = ap (λ b. b && list_all f us) (h u (inl refl)) ∙ ap (λ b. g u && b) (all_same f g us (λ v i. h v (inr i)))

-- ---- what the definitions say, one step up

module _ (p : Program) (r : IsRanked p) where
  abbrev quiet_in : ℕ → ℕ → Bool
  quiet_in m c = not (is_some (initialiser_place p c)) && interfaces_quiet m p (interface_places p c)

  pub list_below : (c u : ℕ) → In u (interface_places p c) → r.rank u < r.rank c
  list_below c u i = ltb-true (r.rank u) (r.rank c) (all_in (λ v. nat_lt (r.rank v) (r.rank c)) (interface_places p c) u (list_lower p r c) i)

  pub super_below : (c u : ℕ) → super_place p c ≡ Some u → r.rank u < r.rank c
  super_below c u e = ltb-true (r.rank u) (r.rank c) (all_in (λ v. nat_lt (r.rank v) (r.rank c)) (beside (super_place p c)) u (super_lower p r c) (beside_in u (super_place p c) e))

  quiet_stable : (m m' c : ℕ) → r.rank c < m → r.rank c < m' → quiet_in m c ≡ quiet_in m' c
  quiet_stable zero m' c l k = absurd (omega (arith, l))
  quiet_stable (suc m) zero c l k = absurd (omega (arith, k))
  quiet_stable (suc m) (suc m') c l k = ap (λ b. not (is_some (initialiser_place p c)) && b) (all_same (quiet_in m) (quiet_in m') (interface_places p c)
      (λ u i. let b = list_below c u i in quiet_stable m m' u (omega (arith, b, l)) (omega (arith, b, k))))

  quiet_by : (m c : ℕ) → r.rank c < m → quiet_in m c ≡ (not (is_some (initialiser_place p c)) && list_all (quiet_in m) (interface_places p c))
  quiet_by zero c l = absurd (omega (arith, l))
  quiet_by (suc m) c l = ap (λ b. not (is_some (initialiser_place p c)) && b) (all_same (quiet_in m) (quiet_in (suc m)) (interface_places p c)
      (λ u i. let b = list_below c u i in quiet_stable m (suc m) u (omega (arith, b, l)) (omega (arith, b, l))))

  pub quiet_up : (c : ℕ) → c < length p.classes → is_quiet p c ≡ (not (is_some (initialiser_place p c)) && list_all (is_quiet p) (interface_places p c))
  quiet_up c lt = quiet_by (length p.classes) c (short p r c lt)

  chain_stable : (m m' c : ℕ) → r.rank c < m → r.rank c < m' → list_all (is_quiet p) (chain_from (super_place p) m (Some c)) ≡ list_all (is_quiet p) (chain_from (super_place p) m' (Some c))
  chain_stable zero m' c l k = absurd (omega (arith, l))
  chain_stable (suc m) zero c l k = absurd (omega (arith, k))
  chain_stable (suc m) (suc m') c l k = ap (λ b. is_quiet p c && b) (by_super (super_place p c) refl (λ s e. let b = super_below c s e in chain_stable m m' s (omega (arith, b, l)) (omega (arith, b, k))))
    where
      none : (m : ℕ) → list_all (is_quiet p) (chain_from (super_place p) m None) ≡ true
      none zero = refl
      none (suc m) = refl

      by_super : (o : Option ℕ) → super_place p c ≡ o → ((s : ℕ) → super_place p c ≡ Some s → list_all (is_quiet p) (chain_from (super_place p) m (Some s)) ≡ list_all (is_quiet p) (chain_from (super_place p) m' (Some s)))
          → list_all (is_quiet p) (chain_from (super_place p) m o) ≡ list_all (is_quiet p) (chain_from (super_place p) m' o)
      by_super None e h = none m ∙ sym (none m')
      by_super (Some s) e h = h s e

  trivial_by : (m c : ℕ) → r.rank c < m → m ≡ length p.classes → list_all (is_quiet p) (chain_from (super_place p) m (Some c)) ≡ (is_quiet p c && list_all (is_trivial p) (beside (super_place p c)))
  trivial_by zero c l e = absurd (omega (arith, l))
  trivial_by (suc m) c l e = ap (λ b. is_quiet p c && b) (by_super (super_place p c) refl)
    where
      none : (m : ℕ) → list_all (is_quiet p) (chain_from (super_place p) m None) ≡ true
      none zero = refl
      none (suc m) = refl

      and_true : (b : Bool) → b ≡ (b && true)
      and_true true = refl
      and_true false = refl

      by_super : (o : Option ℕ) → super_place p c ≡ o → list_all (is_quiet p) (chain_from (super_place p) m o) ≡ list_all (is_trivial p) (beside o)
      by_super None f = none m
      by_super (Some s) f = let b = super_below c s f in
          chain_stable m (suc m) s (omega (arith, b, l)) (omega (arith, b, l)) ∙ ap (λ k. list_all (is_quiet p) (chain_from (super_place p) k (Some s))) e ∙ and_true (is_trivial p s)

  pub trivial_up : (c : ℕ) → c < length p.classes → is_trivial p c ≡ (is_quiet p c && list_all (is_trivial p) (beside (super_place p c)))
  trivial_up c lt = trivial_by (length p.classes) c (short p r c lt) refl

-- ---- what the tables say, one step up

module _ (p : Program) (starts supers : List ℕ) (rows : List (List ℕ)) (order : List ℕ) (s : Serves p starts supers rows order) where
  pub quiet_here : (table : List Bool) (i x : ℕ) → slice_get order i ≡ Some x → FilledTo (length p.classes) (is_quiet p) order table i
      → (not (is_some (read_at starts x)) && list_all (λ u. slice_index_or table u false) (row_of rows x)) ≡ is_quiet p x
  quiet_here table i x here f =
      ap (λ o. not (is_some o) && list_all (λ u. slice_index_or table u false) (row_of rows x)) (s.starts_are.is x)
      ∙ ap (λ b. not (is_some (initialiser_place p x)) && b) (all_same (λ u. slice_index_or table u false) (is_quiet p) (row_of rows x)
      (λ u j. filled_above supers rows (is_quiet p) order table (length p.classes) i x u s.long s.ordered here (in_left u (row_of rows x) (beside (read_at supers x)) j) (interface_short p x u (subst (In u) (s.lists_are x) j)) f)
      ∙ ap (list_all (is_quiet p)) (s.lists_are x))
      ∙ sym (quiet_up p s.ranked x (let l = s.ordered.short i x here in let z = s.long in omega (arith, l, z)))

  pub trivial_here : (quiet table : List Bool) (i x : ℕ) → Marks (length p.classes) (is_quiet p) quiet → slice_get order i ≡ Some x → FilledTo (length p.classes) (is_trivial p) order table i
      → (slice_index_or quiet x false && list_all (λ u. slice_index_or table u false) (beside (read_at supers x))) ≡ is_trivial p x
  trivial_here quiet table i x q here f =
      let short_x : x < length p.classes = let l = s.ordered.short i x here in let z = s.long in omega (arith, l, z) in
      ap (λ b. b && list_all (λ u. slice_index_or table u false) (beside (read_at supers x))) (q.is x short_x)
      ∙ ap (λ b. is_quiet p x && b) (all_same (λ u. slice_index_or table u false) (is_trivial p) (beside (read_at supers x))
      (λ u j. filled_above supers rows (is_trivial p) order table (length p.classes) i x u s.long s.ordered here (in_right u (row_of rows x) (beside (read_at supers x)) j) (super_short p x u (by_beside u (read_at supers x) j (s.supers_are x))) f)
      ∙ ap (λ o. list_all (is_trivial p) (beside o)) (s.supers_are x))
      ∙ sym (trivial_up p s.ranked x short_x)
    where
      by_beside : (u : ℕ) (o : Option ℕ) → In u (beside o) → o ≡ super_place p x → super_place p x ≡ Some u
      by_beside u None j e = absurd j
      by_beside u (Some v) (inl t) e = sym e ∙ ap (λ w. Some w) (sym t)
      by_beside u (Some v) (inr t) e = absurd t

pub got_index : (order : List ℕ) (i : ℕ) → i < length order → slice_get order i ≡ Some (slice_index order i)
got_index [] i l = absurd (omega (arith, l))
got_index (x ∷ xs) zero l = refl
got_index (x ∷ xs) (suc i) l = got_index xs i (omega (arith, l))

-- one class more of the order in a table that is changed in place
pub fills_in_place : (n : ℕ) (test : ℕ → Bool) (order : List ℕ) (table slice changed : List Bool) (len i : ℕ) (v : Bool) → ((a b c : ℕ) → slice_get order a ≡ Some c → slice_get order b ≡ Some c → a ≡ b) → slice_index order i < n → i < length order → len ≡ length table
    → slice ≡ table → changed ≡ slice_set slice (slice_index order i) v → v ≡ test (slice_index order i) → FilledTo n test order table i → FilledTo n test order (take len (changed ++ drop (length changed) table)) (i + 1)
fills_in_place n test order table slice changed len i v once lt here whole same set is f =
    let new : changed ≡ slice_set table (slice_index order i) v = set ∙ ap (λ l. slice_set l (slice_index order i) v) same in
    let size : length changed ≡ length table = ap length new ∙ set_size table (slice_index order i) v in
    fills n test order table (take len (changed ++ drop (length changed) table)) i (slice_index order i) v once lt (got_index order i here)
    (take_at changed (drop (length changed) table) len (omega (arith, size, whole)) ∙ new) is f

pub order_short : (supers : List ℕ) (rows : List (List ℕ)) (order : List ℕ) (n i : ℕ) → length supers ≡ n → IsOrder supers rows order → i < length order → slice_index order i < n
order_short supers rows order n i long o l = let s = o.short i (slice_index order i) (got_index order i l) in omega (arith, s, long)
