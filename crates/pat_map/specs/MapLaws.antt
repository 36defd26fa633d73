-- Trees as finite maps.
use Rattle.std.specs.Prelude.{◌≡◌, ℕ, Bool, true, false, ◌==◌, ◌/◌, ◌^◌, ◌↔◌, cond, List, [], ◌∷◌, ◌++◌, map, Option, Some, None, refl}
use Rattle.std.proofs.Common.{sym, ◌∙◌, arith, subst, ap}
use Rattle.std.specs.Ordering.{nat_cmp, eq_by_cmp}
use Rattle.std.specs.Cmp.{nat_cmp_total, unsigned_tied}
use Rattle.std.specs.FinMap as finite
use Rattle.pat_map.specs.declared.nodes.Node.{Node, Leaf, Branch'}
use Rattle.pat_map.specs.Trees.{WordMap, at, IsTree, entries_of, map_of, one_of, with_other, either, BelowAt, IsBelow, union}
use Rattle.pat_map.specs.TreeLaws.{parity, same_or_not, one_none, Sets, Joins, Below, some_key}

module _ {V : Type 0} where
  find_append : (k : ℕ) (xs ys : List (ℕ × V)) → finite.find nat_cmp k (xs ++ ys) ≡ one_of (finite.find nat_cmp k xs) (finite.find nat_cmp k ys)
  find_append k [] ys = refl
  find_append k (x ∷ xs) ys = by (eq_by_cmp nat_cmp k x.0) (find_append k xs ys)
    where
      by : (b : Bool) → finite.find nat_cmp k (xs ++ ys) ≡ one_of (finite.find nat_cmp k xs) (finite.find nat_cmp k ys)
          → cond b (Some x.1) (finite.find nat_cmp k (xs ++ ys)) ≡ one_of (cond b (Some x.1) (finite.find nat_cmp k xs)) (finite.find nat_cmp k ys)
      by true h = refl
      by false h = h

  find_at : (n : Node V) → IsTree n → (k : ℕ) → finite.find nat_cmp k (entries_of n) ≡ at n k
  find_at (Leaf key value) t k = ap (λ b. cond b (Some value) None) (unsigned_tied k key)
  find_at (Branch' bit block p low q high) t k = find_append k (entries_of low) (entries_of high) ∙ by (find_at low t.1 k) (find_at high t.2 k)
    where
      by : finite.find nat_cmp k (entries_of low) ≡ at low k → finite.find nat_cmp k (entries_of high) ≡ at high k
          → one_of (finite.find nat_cmp k (entries_of low)) (finite.find nat_cmp k (entries_of high)) ≡ at (Branch' bit block p low q high) k
      by l h = parity (k / 2 ^ bit)
          (λ e r. let none : at high k ≡ None = t.0.high_in k (λ s. absurd (omega arith)) in rw (l, h, none, e) (one_none (at low k)))
          (λ e r. let none : at low k ≡ None = t.0.low_in k (λ s. absurd (omega arith)) in rw (l, h, none, e) refl)

  -- the map of a tree has what the tree has
  pub get_map : (n : Node V) → IsTree n → (k : ℕ) → finite.get (map_of n) k ≡ at n k
  get_map n t k = finite.get-from_entries nat_cmp_total (entries_of n) k ∙ find_at n t k

  get_set : (m : WordMap V) (key : ℕ) (v : V) (k : ℕ) → finite.get (finite.insert m key v) k ≡ cond (k == key) (Some v) (finite.get m k)
  get_set m key v k = finite.get-insert nat_cmp_total m key v k ∙ ap (λ b. cond b (Some v) (finite.get m k)) (unsigned_tied k key)

  same : (m n : WordMap V) → ((k : ℕ) → finite.get m k ≡ finite.get n k) → m ≡ n
  same m n = finite.same_map nat_cmp_total finite.nat_cmp-IsAntisymmetric m n

  pub map_set : (n t : Node V) (key : ℕ) (v : V) → IsTree n → IsTree t → Sets key v n t → map_of t ≡ finite.insert (map_of n) key v
  map_set n t key v tn tt' s = same _ _ (λ k. get_map t tt' k ∙ s k ∙ ap (cond (k == key) (Some v)) (sym (get_map n tn k)) ∙ sym (get_set (map_of n) key v k))

  -- what a union has at a key
  pub get_union : (f : V → V → V) (m n : WordMap V) (k : ℕ) → finite.get (union f m n) k ≡ either f (finite.get m k) (finite.get n k)
  get_union f m n k =
      finite.get-from_entries nat_cmp_total _ k
      ∙ find_append k (map (λ e. (e.0, with_other f (finite.get m e.0) e.1)) (finite.entries n)) (finite.entries m)
      ∙ ap (one_of (finite.find nat_cmp k (map (λ e. (e.0, with_other f (finite.get m e.0) e.1)) (finite.entries n)))) (sym (finite.get-entries m k))
      ∙ mapped (finite.entries n)
      ∙ ap (either f (finite.get m k)) (sym (finite.get-entries n k))
    where
      mapped : (xs : List (ℕ × V)) → one_of (finite.find nat_cmp k (map (λ e. (e.0, with_other f (finite.get m e.0) e.1)) xs)) (finite.get m k) ≡ either f (finite.get m k) (finite.find nat_cmp k xs)
      mapped [] = refl
      mapped (x ∷ xs) = by (eq_by_cmp nat_cmp k x.0) refl (mapped xs)
        where
          by : (b : Bool) → eq_by_cmp nat_cmp k x.0 ≡ b
              → one_of (finite.find nat_cmp k (map (λ e. (e.0, with_other f (finite.get m e.0) e.1)) xs)) (finite.get m k) ≡ either f (finite.get m k) (finite.find nat_cmp k xs)
              → one_of (cond b (Some (with_other f (finite.get m x.0) x.1)) (finite.find nat_cmp k (map (λ e. (e.0, with_other f (finite.get m e.0) e.1)) xs))) (finite.get m k) ≡ either f (finite.get m k) (cond b (Some x.1) (finite.find nat_cmp k xs))
          by true e h = same_or_not k x.0 (λ t i. ap (λ j. Some (with_other f (finite.get m j) x.1)) (sym i)) (λ t i. let c : true ≡ false = sym e ∙ unsigned_tied k x.0 ∙ t in absurd (cc))
          by false e h = h

  pub map_union : (f : V → V → V) (x y t : Node V) → IsTree x → IsTree y → IsTree t → Joins f x y t → map_of t ≡ union f (map_of x) (map_of y)
  map_union f x y t tx ty tt' j = same _ _ (λ k. get_map t tt' k ∙ j k ∙ ap (λ o. either f o (at y k)) (sym (get_map x tx k)) ∙ ap (either f (finite.get (map_of x) k)) (sym (get_map y ty k)) ∙ sym (get_union f (map_of x) (map_of y) k))

  -- with an empty map on one side the other stays
  pub union_none : (f : V → V → V) (m : WordMap V) → m ≡ union f m finite.empty
  union_none f m = same _ _ (λ k. ap (either f (finite.get m k)) (sym (finite.get-empty nat_cmp k)) ∙ sym (get_union f m finite.empty k))

  pub none_union : (f : V → V → V) (n : WordMap V) → n ≡ union f finite.empty n
  none_union f n = same _ _ (λ k. sym (get_union f finite.empty n k ∙ ap (λ o. either f o (finite.get n k)) (finite.get-empty nat_cmp k) ∙ alone (finite.get n k)))
    where
      alone : (o : Option V) → either f None o ≡ o
      alone None = refl
      alone (Some w) = refl

  pub map_below : (below : V → V → Type 0) (x y : Node V) → IsTree x → IsTree y → Below below x y ↔ IsBelow below (map_of x) (map_of y)
  map_below below x y tx ty =
      (λ h k. rw (get_map x tx k, get_map y ty k) (h k), λ h k. rw (get_map x tx k, get_map y ty k) at (h k))

  pub none_below : (below : V → V → Type 0) (n : WordMap V) → IsBelow below finite.empty n
  none_below below n k = subst (λ o. BelowAt below o (finite.get n k)) (sym (finite.get-empty nat_cmp k)) tt

  pub not_below_none : (below : V → V → Type 0) (x : Node V) → IsTree x → IsBelow below (map_of x) finite.empty → ⊥
  not_below_none below x t h =
      let s = some_key x t in
      let own : finite.get (map_of x) s.key ≡ Some s.value = get_map x t s.key ∙ s.is in
      subst (BelowAt below (Some s.value)) (finite.get-empty nat_cmp s.key) (subst (λ o. BelowAt below o (finite.get (finite.empty {K = ℕ} {X = V} {R = nat_cmp}) s.key)) own (h s.key))
