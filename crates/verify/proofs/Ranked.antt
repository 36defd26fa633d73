-- The chains that are made of a program's classes are theirs.
use Rattle.std.proofs.Common.{◌≡◌, ℕ, ◌<◌, ◌≤◌, Bool, true, false, ◌&&◌, nat_lt, min, List, length, Option, Some, None, inl, inr, refl, sym, ap, ◌∙◌, subst, arith}
use Rattle.std.specs.Prelude.{slice_index_or, slice_get, cond}
use Rattle.std.proofs.lemmas.Bool.{cases_lt, ltb-true}
use Rattle.std.proofs.lemmas.Option.{slice_get_within}
use Rattle.class_defs.specs.Members.{is_interface}
use Rattle.class_defs.specs.Places.{super_place, interface_places}
use Rattle.hierarchy.specs.declared.build.Hierarchy.{Hierarchy}
use Rattle.hierarchy.specs.Ranks.{is_lower, is_lower_all, IsRanked}
use Rattle.hierarchy.specs.Shapes.{IsOf}
use Rattle.program_model.specs.declared.program.Program.{Program}
use Rattle.verify.specs.declared.chains.Chains.{Chains}
use Rattle.verify.specs.Building.{class_above, AreChainsOf, IsSettled, IsDoneBelow, IsSoundFor}
use Rattle.verify.specs.Chains.{above, longest, IsChains}
use Rattle.verify.specs.Flow.{greatest}
use Rattle.verify.proofs.Chained.{past}
use Rattle.verify.proofs.Links.{sound_for}
use Rattle.verify.proofs.Lattice.{left_true, right_true}

slice_past : {A : Type 0} (xs : List A) (k : ℕ) → length xs ≤ k → slice_get xs k ≡ None
slice_past {A = A} xs k h = go (slice_get xs k) refl
  where
    go : (o : Option A) → slice_get xs k ≡ o → o ≡ None
    go None e = refl
    go (Some x) e = absurd (let l = slice_get_within xs k x e in omega (arith, l, h))

pub above_past : (p : Program) (k : ℕ) → length p.classes ≤ k → class_above p k ≡ None
above_past p k h = let e : slice_get p.classes k ≡ None = slice_past p.classes k h in rw e refl

pub above_super : (p : Program) (k u : ℕ) → class_above p k ≡ Some u → super_place p k ≡ Some u
above_super p k u e = go (is_interface (slice_get p.classes k)) e
  where
    go : (b : Bool) → cond b None (super_place p k) ≡ Some u → super_place p k ≡ Some u
    go true e = absurd (cc)
    go false e = e

module _ (p : Program) (q : IsRanked p) where
  front : (k : ℕ) → k < length p.classes → (nat_lt (q.rank k) (length p.classes) && is_lower q.rank (q.rank k) (super_place p k)) ≡ true
  front k h = left_true (nat_lt (q.rank k) (length p.classes) && is_lower q.rank (q.rank k) (super_place p k)) (is_lower_all q.rank (q.rank k) (interface_places p k)) (q.each k h)

  pub rank_below : (k : ℕ) → k < length p.classes → q.rank k < length p.classes
  rank_below k h = ltb-true (q.rank k) (length p.classes) (left_true (nat_lt (q.rank k) (length p.classes)) (is_lower q.rank (q.rank k) (super_place p k)) (front k h))

  pub rank_falls : (k u : ℕ) → k < length p.classes → super_place p k ≡ Some u → q.rank u < q.rank k
  rank_falls k u h e = ltb-true (q.rank u) (q.rank k) (subst (λ o. is_lower q.rank (q.rank k) o ≡ true) e (right_true (nat_lt (q.rank k) (length p.classes)) (is_lower q.rank (q.rank k) (super_place p k)) (front k h)))

pub made_of : (p : Program) (h : Hierarchy) (n : ℕ) (supers : List (Option ℕ)) (c d e : Chains) → IsOf p h → length p.classes < longest → n ≡ min (length p.classes) greatest → length supers ≡ n
    → ((k : ℕ) → k < n → slice_index_or supers k None ≡ class_above p k) → c.supers.items ≡ supers
    → ((m : ℕ) (r : ℕ → ℕ) → length supers ≡ m → ((k q : ℕ) → slice_index_or supers k None ≡ Some q → r q < r k) → ((k : ℕ) → k < m → r k < m) → IsSettled m r c)
    → ((r : ℕ → ℕ) → IsSettled n r c → IsDoneBelow n r d n) → d.supers ≡ c.supers → (IsSoundFor n d → e ≡ d) → IsChains e → AreChainsOf p e
made_of p h n supers c d e of small en size is same settled done more kept sound = record { sound = sound; above = all }
  where
    count : n ≡ length p.classes
    count = omega (arith, en, small)

    q : IsRanked p
    q = of.ranked

    each : (k : ℕ) → slice_index_or supers k None ≡ class_above p k
    each k = elim (cases_lt k n) [
      | inl x ↦ is k x
      | inr x ↦ past supers k None (omega (arith, size, x)) ∙ sym (above_past p k (omega (arith, count, x)))
    ]

    falls : (k u : ℕ) → slice_index_or supers k None ≡ Some u → q.rank u < q.rank k
    falls k u f = elim (cases_lt k n) [
      | inl x ↦ rank_falls p q k u (omega (arith, count, x)) (above_super p k u (sym (each k) ∙ f))
      | inr x ↦ absurd (let z : None ≡ Some u = sym (above_past p k (omega (arith, count, x))) ∙ sym (each k) ∙ f in cc)
    ]

    bound : (k : ℕ) → k < n → q.rank k < n
    bound k x = let y = rank_below p q k (omega (arith, count, x)) in omega (arith, count, y)

    all_done : IsDoneBelow n q.rank d n
    all_done = done q.rank (settled n q.rank size falls bound)

    stays : e ≡ d
    stays = kept (sound_for n q.rank d all_done (omega (arith, count, small)))

    all : (k : ℕ) → above e k ≡ class_above p k
    all k = ap (λ x. above x k) stays ∙ ap (λ x. slice_index_or x.items k None) more ∙ ap (λ x. slice_index_or x k None) same ∙ each k
