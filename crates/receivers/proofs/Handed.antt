-- What a class hands down is what all classes under it find.
use Rattle.std.proofs.Common.{◌≡◌, ◌⊎◌, inl, inr, ℕ, ◌<◌, Bool, true, false, true≢false, nat_eq, List, length, Option, Some, None, refl, sym, ap, ◌∙◌, subst, arith, eqb-true}
use Rattle.std.specs.Prelude.{◌&&◌, cond, flat_map, is_some, not}
use Rattle.std.specs.List.{range_with_len}
use Rattle.lemmas.proofs.Bools.{and_left, and_right, and_both, clash, not_of_false, not_true, untrue}
use Rattle.lemmas.proofs.Options.{some_same}
use Rattle.program_model.specs.declared.pools.MethodName.{MethodName}
use Rattle.program_model.specs.declared.program.MethodAt.{MethodAt}
use Rattle.program_model.specs.declared.program.Program.{Program}
use Rattle.class_defs.specs.Finding.{Search, finds_among, finds_at, finds_virtual, found_or}
use Rattle.class_defs.specs.Members.{own_method, own_virtual}
use Rattle.class_defs.specs.Places.{chain_of, interface_places, is_under}
use Rattle.class_defs.proofs.Positions.{same_test}
use Rattle.hierarchy.specs.Climbing.{In}
use Rattle.hierarchy.specs.Naming.{definers_of}
use Rattle.hierarchy.specs.Ranks.{IsRanked}
use Rattle.hierarchy.specs.Touring.{subclasses_of}
use Rattle.receivers.specs.Receiving.{only, found_by, is_at, all_find, agreed_on, agreed_under, stands_under, interface_at, is_straight, overrides, is_overridden, handed_down}
use Rattle.receivers.proofs.Owned.{at_itself, own_class, found_along, finds_own, defines}
use Rattle.receivers.proofs.Ranges.{numbers_in, in_numbers, in_filter, filter_in, all_pass, passes_all}
use Rattle.receivers.proofs.Stands.{stands_down}
use Rattle.receivers.proofs.Walks.{any_of, of_any}
use Rattle.receivers.proofs.Covered.{Lower, finds_covered}

module _ (p : Program) (straight : is_straight p ≡ true) (r : IsRanked p) (q : MethodName) (class : ℕ) (short : class < length p.classes) (plain : interface_at p class ≡ false)
    (target : MethodAt) (found : finds_virtual p q.name q.proto class ≡ Some target) where
  abbrev among : ℕ → Search
  among c = finds_among p (flat_map (interface_places p) (chain_of p (Some c))) q.name q.proto

  -- what a class finds that stands under the named type, by the virtual method along it
  found_so : (c : ℕ) (at : MethodAt) → stands_under p c q.class ≡ true → finds_virtual p q.name q.proto c ≡ Some at → found_by p q c ≡ Some at
  found_so c at s e = ap (λ b. cond b (only (finds_at p c q.name q.proto)) None) s ∙ ap (λ o. only (found_or o (among c))) e

  -- the classes strictly under it
  record Below (d : ℕ) : Type 0 where
    low : d < length p.classes
    under : is_under p d class ≡ true
    apart : nat_eq d class ≡ false

  below : (d : ℕ) → In d (subclasses_of p class) → Below d
  below d i =
      let f = in_filter (λ c. is_under p c class && not (nat_eq c class)) (range_with_len 0 (length p.classes)) d i in
      let n = (in_numbers 0 (length p.classes) d f.0).1 in
      record { low = omega (arith, n); under = and_left (is_under p d class) (not (nat_eq d class)) f.1; apart = not_true (nat_eq d class) (and_right (is_under p d class) (not (nat_eq d class)) f.1) }

  among_below : (d : ℕ) → d < length p.classes → is_under p d class ≡ true → nat_eq d class ≡ false → In d (subclasses_of p class)
  among_below d l u a = filter_in (λ c. is_under p c class && not (nat_eq c class)) (range_with_len 0 (length p.classes)) d (numbers_in 0 (length p.classes) d (omega arith) (omega (arith, l)))
      (and_both (is_under p d class) (not (nat_eq d class)) u (not_of_false (nat_eq d class) a))

  own_of_target : own_virtual p q.name q.proto target.class ≡ Some target
  own_of_target = (found_along p q.name q.proto (chain_of p (Some class)) target found).own

  some_classes : 0 < length p.classes
  some_classes = omega (arith, short)

  some_at : (o : Option MethodAt) → is_some o ≡ true → (x : MethodAt) × (o ≡ Some x)
  some_at None e = absurd (true≢false (sym e))
  some_at (Some x) e = (x, refl)

  -- a class that overrides finds another method
  clashing : {A : Type 0} (d : ℕ) → In d (definers_of p q.name q.proto) → overrides p q class target d ≡ true → stands_under p class q.class ≡ true → all_find p q target (subclasses_of p class) ≡ true → A
  clashing {A} d i o s all =
      let front = and_left (not (nat_eq d target.class) && is_under p d class) (is_some (own_virtual p q.name q.proto d)) o in
      let other : nat_eq d target.class ≡ false = not_true (nat_eq d target.class) (and_left (not (nat_eq d target.class)) (is_under p d class) front) in
      let under : is_under p d class ≡ true = and_right (not (nat_eq d target.class)) (is_under p d class) front in
      let x = some_at (own_virtual p q.name q.proto d) (and_right (not (nat_eq d target.class) && is_under p d class) (is_some (own_virtual p q.name q.proto d)) o) in
      let l : d < length p.classes = (let n = (in_numbers 0 (length p.classes) d (in_filter (λ c. is_some (own_method_at c)) (range_with_len 0 (length p.classes)) d i).0).1 in omega (arith, n)) in
      by (nat_eq d class) refl other under x.0 x.1 l
    where
      own_method_at : ℕ → Option MethodAt
      own_method_at c = own_method p q.name q.proto c

      by : (b : Bool) → nat_eq d class ≡ b → nat_eq d target.class ≡ false → is_under p d class ≡ true → (x : MethodAt) → own_virtual p q.name q.proto d ≡ Some x → d < length p.classes → A
      by true e other under x own l =
          let here : own_virtual p q.name q.proto class ≡ Some x = subst (λ c. own_virtual p q.name q.proto c ≡ Some x) (eqb-true d class e) own in
          let same : target ≡ x = some_same target x (sym found ∙ finds_own p q.name q.proto class x some_classes here) in
          let named : target.class ≡ class = ap (λ (y : MethodAt). y.class) same ∙ own_class p q.name q.proto class x here in
          clash (nat_eq d target.class) (ap (nat_eq d) named ∙ e) other
      by false e other under x own l =
          let hit : is_at target (found_by p q d) ≡ true = passes_all (λ c. is_at target (found_by p q c)) (subclasses_of p class) d all (among_below d l under e) in
          let finds : found_by p q d ≡ Some x = found_so d x (stands_down p r d class q.class under s) (finds_own p q.name q.proto d x some_classes own) in
          let at : is_at target (Some x) ≡ true = ap (is_at target) (sym finds) ∙ hit in
          let named : nat_eq x.class target.class ≡ true = and_left (nat_eq x.class target.class) (nat_eq x.place target.place) at in
          clash (nat_eq d target.class) (ap (λ c. nat_eq c target.class) (sym (own_class p q.name q.proto d x own)) ∙ named) other

  -- where none overrides, each class under it finds the method
  finds_target : stands_under p class q.class ≡ true → is_overridden p q class target ≡ false → (d : ℕ) → In d (subclasses_of p class) → is_at target (found_by p q d) ≡ true
  finds_target s none d i =
      let b = below d i in
      let stands : stands_under p d q.class ≡ true = stands_down p r d class q.class b.under s in
      ap (is_at target) (found_so d target stands (by (finds_covered p straight r q.name q.proto class short plain d b.low b.under))) ∙ at_itself target
    where
      by : (finds_virtual p q.name q.proto d ≡ finds_virtual p q.name q.proto class) ⊎ Lower p straight r q.name q.proto class short plain (finds_virtual p q.name q.proto d) → finds_virtual p q.name q.proto d ≡ Some target
      by (inl e) = e ∙ found
      by (inr h) = test (nat_eq h.class target.class) refl
        where
          test : (b : Bool) → nat_eq h.class target.class ≡ b → finds_virtual p q.name q.proto d ≡ Some target
          test true e =
              let here : own_virtual p q.name q.proto target.class ≡ Some h.at = subst (λ c. own_virtual p q.name q.proto c ≡ Some h.at) (eqb-true h.class target.class e) h.there in
              h.is ∙ (sym here ∙ own_of_target)
          test false e =
              let over : overrides p q class target h.class ≡ true =
              and_both (not (nat_eq h.class target.class) && is_under p h.class class) (is_some (own_virtual p q.name q.proto h.class))
              (and_both (not (nat_eq h.class target.class)) (is_under p h.class class) (not_of_false (nat_eq h.class target.class) e) h.under) (ap is_some h.there) in
              clash (is_overridden p q class target) (of_any (overrides p q class target) (definers_of p q.name q.proto) h.class (defines p q.name q.proto h.class h.at h.short h.there) over) none

  all_or_overridden : stands_under p class q.class ≡ true → not (is_overridden p q class target) ≡ all_find p q target (subclasses_of p class)
  all_or_overridden s = same_test (not (is_overridden p q class target)) (all_find p q target (subclasses_of p class))
      (λ e. all_pass (λ c. is_at target (found_by p q c)) (subclasses_of p class) (finds_target s (not_true (is_overridden p q class target) e)))
      (λ e. not_of_false (is_overridden p q class target) (untrue (is_overridden p q class target) (λ o. let x = any_of (overrides p q class target) (definers_of p q.name q.proto) o in clashing x.at x.there x.is s e)))

  -- what it hands down is what it and all under it agree on
  pub handed : handed_down p q class target ≡ agreed_under p q class
  handed = by (stands_under p class q.class) refl
    where
      subs : List ℕ
      subs = subclasses_of p class

      by : (b : Bool) → stands_under p class q.class ≡ b → cond (b && not (is_overridden p q class target)) (Some target) None ≡ agreed_on p q subs (found_by p q class)
      by true e = ap (λ t. cond t (Some target) None) (all_or_overridden e) ∙ ap (agreed_on p q subs) (sym (found_so class target e found))
      by false e = ap (agreed_on p q subs) (sym (ap (λ b. cond b (only (finds_at p class q.name q.proto)) None) e))
