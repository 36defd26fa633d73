-- Maps as an order: each key of one is in the other, at or above.
use Rattle.std.specs.Prelude.{◌≡◌, ℕ, Bool, true, ◌<◌, ◌≤◌, ◌/◌, ◌^◌, ◌⊎◌, Option, Some, None, refl}
use Rattle.std.proofs.Common.{sym, ◌∙◌, arith, subst, ap, inl, inr}
use Rattle.std.proofs.lemmas.Bool.{cases_lt}
use Rattle.std.specs.Ordering.{nat_cmp}
use Rattle.std.specs.FinMap as finite
use Rattle.lattice_core.specs.Laws.{IsUpper, IsWidened}
use Rattle.lattice_core.specs.Places.{total, total_falls}
use Rattle.pat_map.specs.declared.nodes.Node.{Node, Leaf, Branch'}
use Rattle.pat_map.specs.Trees.{WordMap, at, IsTree, map_of, map_from, either, BelowAt, IsBelow, union}
use Rattle.std.specs.Prelude.{IfSome}
use Rattle.std.specs.Option.{option_map}
use Rattle.pat_map.specs.TreeLaws.{same_or_not, Joins}
use Rattle.pat_map.specs.MapLaws.{get_map, get_union, map_union, union_none, none_union}
use Rattle.pat_map.specs.Pours.{MadeIf, Made, WidensTo}

-- a map describes a thing at a key: its value there does
abbrev pub HoldsAt : {V M : Type 0} → (V → M → Type 0) → Option V → M → Type 0
HoldsAt holds None m = ⊥
HoldsAt holds (Some v) m = holds v m

-- how far the value at a key may still rise, where `most` is above each rank
abbrev pub rank_at : {V : Type 0} → (V → ℕ) → ℕ → Option V → ℕ
rank_at rank most None = most
rank_at rank most (Some v) = rank v

-- the sum over all keys that are words
abbrev pub map_rank : {V : Type 0} → (V → ℕ) → ℕ → WordMap V → ℕ
map_rank rank most m = total (λ k. rank_at rank most (finite.get m k)) (2 ^ 32)

-- no key that isn't a word
pub record HasWords {V : Type 0} (m : WordMap V) : Type 0 where
  pub words : (k : ℕ) → 2 ^ 32 ≤ k → finite.get m k ≡ None

module _ {V : Type 0} where
  at_none : (n : Node V) → IsTree n → (k : ℕ) → 2 ^ 32 ≤ k → at n k ≡ None
  at_none (Leaf key value) t k le = same_or_not k key (λ e r. absurd (omega (arith, t, r))) (λ e r. rw e refl)
  at_none (Branch' bit block p low q high) t k le = by (at_none low t.1 k le) (at_none high t.2 k le)
    where
      by : at low k ≡ None → at high k ≡ None → at (Branch' bit block p low q high) k ≡ None
      by l h = rw (l, h) (grind arith)

  pub tree_words : (n : Node V) → IsTree n → HasWords (map_of n)
  tree_words n t = record { words = λ k le. get_map n t k ∙ at_none n t k le }

  pub empty_words : HasWords (finite.empty {K = ℕ} {X = V} {R = nat_cmp})
  empty_words = record { words = λ k le. finite.get-empty nat_cmp k }

  module _ (below : V → V → Type 0) where
    at_reflexive : ((x : V) → below x x) → (o : Option V) → BelowAt below o o
    at_reflexive f None = tt
    at_reflexive f (Some v) = f v

    at_transitive : ((x y z : V) → below x y → below y z → below x z) → (a b c : Option V) → BelowAt below a b → BelowAt below b c → BelowAt below a c
    at_transitive f None b c h k = tt
    at_transitive f (Some v) None c h k = absurd h
    at_transitive f (Some v) (Some w) None h k = k
    at_transitive f (Some v) (Some w) (Some u) h k = f v w u h k

    pub map_reflexive : ((x : V) → below x x) → (m : WordMap V) → IsBelow below m m
    map_reflexive f m k = at_reflexive f (finite.get m k)

    pub map_transitive : ((x y z : V) → below x y → below y z → below x z) → (m n o : WordMap V) → IsBelow below m n → IsBelow below n o → IsBelow below m o
    map_transitive f m n o h i k = at_transitive f (finite.get m k) (finite.get n k) (finite.get o k) (h k) (i k)

    at_grows : {M : Type 0} (holds : V → M → Type 0) → ((x y : V) (m : M) → below x y → holds x m → holds y m) → (a b : Option V) (m : M) → BelowAt below a b → HoldsAt holds a m → HoldsAt holds b m
    at_grows holds f None b m h k = absurd k
    at_grows holds f (Some v) None m h k = absurd h
    at_grows holds f (Some v) (Some w) m h k = f v w m h k

    pub map_grows : {M : Type 0} (holds : V → M → Type 0) → ((x y : V) (m : M) → below x y → holds x m → holds y m) → (x y : WordMap V) (m : ℕ × M) → IsBelow below x y → HoldsAt holds (finite.get x m.0) m.1 → HoldsAt holds (finite.get y m.0) m.1
    map_grows holds f x y m h = at_grows holds f (finite.get x m.0) (finite.get y m.0) m.1 (h m.0)

    -- ---- upper bounds

    at_upper : ((x : V) → below x x) → (f : V → V → V) (a b : Option V) → MadeIf (IsUpper below) f a b → BelowAt below a (either f a b) × BelowAt below b (either f a b)
    at_upper r f None None h = (tt, tt)
    at_upper r f None (Some w) h = (tt, r w)
    at_upper r f (Some v) None h = (r v, tt)
    at_upper r f (Some v) (Some w) h = (h.first, h.second)

    pub map_upper : ((x : V) → below x x) → (f : V → V → V) (m n : WordMap V) → ((k : ℕ) → MadeIf (IsUpper below) f (finite.get m k) (finite.get n k)) → IsUpper (IsBelow below) m n (union f m n)
    map_upper r f m n h = record {
      first = λ k. subst (BelowAt below (finite.get m k)) (sym (get_union f m n k)) (at_upper r f (finite.get m k) (finite.get n k) (h k)).0;
      second = λ k. subst (BelowAt below (finite.get n k)) (sym (get_union f m n k)) (at_upper r f (finite.get m k) (finite.get n k) (h k)).1;
    }

    at_least : (f : V → V → V) → ((x y z : V) → below x z → below y z → below (f x y) z) → (a b c : Option V) → BelowAt below a c → BelowAt below b c → BelowAt below (either f a b) c
    at_least f l None None c h k = tt
    at_least f l None (Some w) c h k = k
    at_least f l (Some v) None c h k = h
    at_least f l (Some v) (Some w) None h k = h
    at_least f l (Some v) (Some w) (Some u) h k = l v w u h k

    pub map_join_least : (f : V → V → V) → ((x y z : V) → below x z → below y z → below (f x y) z) → (m n o : WordMap V) → IsBelow below m o → IsBelow below n o → IsBelow below (union f m n) o
    map_join_least f l m n o h i k = subst (λ a. BelowAt below a (finite.get o k)) (sym (get_union f m n k)) (at_least f l (finite.get m k) (finite.get n k) (finite.get o k) (h k) (i k))

    -- ---- widenings

    module _ (rank : V → ℕ) (most : ℕ) (exact : Bool) (joined f : V → V → V) (same : (x : V) → below x x) (bounded : (x : V) → rank x < most) where
      abbrev pub MadeWide : Option V → Option V → Type 0
      MadeWide a b = MadeIf (WidensTo below rank exact joined) f a b

      over_only : (a b : Option V) → MadeWide a b → MadeIf (IsUpper below) f a b
      over_only None b h = tt
      over_only (Some v) None h = tt
      over_only (Some v) (Some w) h = h.over

      no_rise : (a b : Option V) → MadeWide a b → rank_at rank most (either f a b) ≤ rank_at rank most a
      no_rise None None h = omega arith
      no_rise None (Some w) h = omega (arith, bounded w)
      no_rise (Some v) None h = omega arith
      no_rise (Some v) (Some w) h = h.falls.no_rise

      falls : (a b : Option V) → MadeWide a b → BelowAt below (either f a b) a ⊎ rank_at rank most (either f a b) < rank_at rank most a
      falls None None h = inl tt
      falls None (Some w) h = inr (bounded w)
      falls (Some v) None h = inl (same v)
      falls (Some v) (Some w) h = h.falls.falls

      tight : exact ≡ true → (a b : Option V) → MadeWide a b → BelowAt below (either f a b) (either joined a b)
      tight e None None h = tt
      tight e None (Some w) h = same w
      tight e (Some v) None h = same v
      tight e (Some v) (Some w) h = h.falls.tight e

      module _ (m n : WordMap V) (all : (k : ℕ) → MadeWide (finite.get m k) (finite.get n k)) where
        pub widens_over : IsUpper (IsBelow below) m n (union f m n)
        widens_over = map_upper same f m n (λ k. over_only (finite.get m k) (finite.get n k) (all k))

        pub widens_falls : HasWords m → HasWords n → IsWidened (IsBelow below) (map_rank rank most) exact (union joined m n) m (union f m n)
        widens_falls wm wn = record {
          no_rise = both.0;
          falls = elim both.1 [ inl h ↦ inl (everywhere h) | inr h ↦ inr h ];
          tight = λ e k. subst (λ a. BelowAt below a (finite.get (union joined m n) k)) (sym (get_union f m n k)) (subst (BelowAt below (either f (finite.get m k) (finite.get n k))) (sym (get_union joined m n k)) (tight e (finite.get m k) (finite.get n k) (all k)));
        }
          where
            both : (map_rank rank most (union f m n) ≤ map_rank rank most m) × (((k : ℕ) → k < 2 ^ 32 → BelowAt below (finite.get (union f m n) k) (finite.get m k)) ⊎ map_rank rank most (union f m n) < map_rank rank most m)
            both = total_falls (λ k. rank_at rank most (finite.get m k)) (λ k. rank_at rank most (finite.get (union f m n) k)) (λ k. BelowAt below (finite.get (union f m n) k) (finite.get m k)) (2 ^ 32)
                (λ k lt. subst (λ a. rank_at rank most a ≤ rank_at rank most (finite.get m k)) (sym (get_union f m n k)) (no_rise (finite.get m k) (finite.get n k) (all k)))
                (λ k lt. subst (λ a. BelowAt below a (finite.get m k) ⊎ rank_at rank most a < rank_at rank most (finite.get m k)) (sym (get_union f m n k)) (falls (finite.get m k) (finite.get n k) (all k)))

            nowhere : (a b : Option V) → a ≡ None → b ≡ None → BelowAt below (either f a b) a
            nowhere a b e i = rw (e, i) tt

            everywhere : ((k : ℕ) → k < 2 ^ 32 → BelowAt below (finite.get (union f m n) k) (finite.get m k)) → IsBelow below (union f m n) m
            everywhere h k = elim (cases_lt k (2 ^ 32)) [
              | inl lt ↦ h k lt
              | inr ge ↦ subst (λ a. BelowAt below a (finite.get m k)) (sym (get_union f m n k)) (nowhere (finite.get m k) (finite.get n k) (wm.words k ge) (wn.words k ge))
            ]

  -- ---- from trees to maps

  pub made_map : (made : V → V → V → Type 0) (f : V → V → V) (x y : Node V) → IsTree x → IsTree y → Made made f x y → (k : ℕ) → MadeIf made f (finite.get (map_of x) k) (finite.get (map_of y) k)
  made_map made f x y tx ty h k = rw (get_map x tx k, get_map y ty k) (h k)

  pub none_first : (made : V → V → V → Type 0) (f : V → V → V) (n : WordMap V) (k : ℕ) → MadeIf made f (finite.get (finite.empty {K = ℕ} {X = V} {R = nat_cmp}) k) (finite.get n k)
  none_first made f n k = subst (λ a. MadeIf made f a (finite.get n k)) (sym (finite.get-empty nat_cmp k)) tt

  pub none_second : (made : V → V → V → Type 0) (f : V → V → V) (m : WordMap V) (k : ℕ) → MadeIf made f (finite.get m k) (finite.get (finite.empty {K = ℕ} {X = V} {R = nat_cmp}) k)
  none_second made f m k = subst (MadeIf made f (finite.get m k)) (sym (finite.get-empty nat_cmp k)) (by (finite.get m k))
    where
      by : (o : Option V) → MadeIf made f o None
      by None = tt
      by (Some v) = tt

  pub holds_none : {M : Type 0} (holds : V → M → Type 0) (m : ℕ × M) → HoldsAt holds (finite.get (finite.empty {K = ℕ} {X = V} {R = nat_cmp}) m.0) m.1 → ⊥
  holds_none holds m h = subst (λ a. HoldsAt holds a m.1) (finite.get-empty nat_cmp m.0) h

  -- ---- two maps as one

  pub record IsMerge (made : V → V → V → Type 0) (f : V → V → V) (m n w : WordMap V) : Type 0 where
    pub is : w ≡ union f m n
    pub each : (k : ℕ) → MadeIf made f (finite.get m k) (finite.get n k)

  pub merge_none : (made : V → V → V → Type 0) (f : V → V → V) (m n w : WordMap V) → finite.empty ≡ n → w ≡ m → IsMerge made f m n w
  merge_none made f m n w e i = record {
    is = i ∙ union_none f m ∙ ap (union f m) e;
    each = λ k. subst (λ n. MadeIf made f (finite.get m k) (finite.get n k)) e (none_second made f m k);
  }

  pub none_merge : (made : V → V → V → Type 0) (f : V → V → V) (m n w : WordMap V) → finite.empty ≡ m → w ≡ n → IsMerge made f m n w
  none_merge made f m n w e i = record {
    is = i ∙ none_union f n ∙ ap (λ m. union f m n) e;
    each = λ k. subst (λ m. MadeIf made f (finite.get m k) (finite.get n k)) e (none_first made f n k);
  }

  pub trees_merge : (made : V → V → V → Type 0) (f : V → V → V) (m n : WordMap V) (x y t : Node V) → map_of x ≡ m → map_of y ≡ n → IsTree x → IsTree y → IsTree t → Joins f x y t → Made made f x y → IsMerge made f m n (map_of t)
  trees_merge made f m n x y t e i tx ty tt' j h = record {
    is = map_union f x y t tx ty tt' j ∙ ap (λ m. union f m (map_of y)) e ∙ ap (union f m) i;
    each = λ k. subst (λ m. MadeIf made f (finite.get m k) (finite.get n k)) e (subst (λ n. MadeIf made f (finite.get (map_of x) k) (finite.get n k)) i (made_map made f x y tx ty h k));
  }

  pub root_words : {R : Type 0} (value : R → Node V) (o : Option R) (m : WordMap V) → IfSome o (λ r. IsTree (value r)) → map_from (option_map value o) ≡ m → HasWords m
  root_words value None m t e = subst HasWords e empty_words
  root_words value (Some r) m t e = subst HasWords e (tree_words (value r) t)

  pub merge_upper : (below : V → V → Type 0) → ((x : V) → below x x) → (f : V → V → V) (m n w : WordMap V) → IsMerge (IsUpper below) f m n w → IsUpper (IsBelow below) m n w
  merge_upper below r f m n w h = subst (IsUpper (IsBelow below) m n) (sym h.is) (map_upper below r f m n h.each)

  module _ (below : V → V → Type 0) (rank : V → ℕ) (most : ℕ) (exact : Bool) (joined f : V → V → V) (same : (x : V) → below x x) (bounded : (x : V) → rank x < most) (m n w : WordMap V) where
    pub merge_over : IsMerge (WidensTo below rank exact joined) f m n w → IsUpper (IsBelow below) m n w
    merge_over h = subst (IsUpper (IsBelow below) m n) (sym h.is) (widens_over below rank most exact joined f same bounded m n h.each)

    pub merge_falls : HasWords m → HasWords n → IsMerge (WidensTo below rank exact joined) f m n w → IsWidened (IsBelow below) (map_rank rank most) exact (union joined m n) m w
    merge_falls wm wn h = subst (IsWidened (IsBelow below) (map_rank rank most) exact (union joined m n) m) (sym h.is) (widens_falls below rank most exact joined f same bounded m n h.each wm wn)
