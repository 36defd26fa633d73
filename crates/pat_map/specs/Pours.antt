-- What becomes of a tree into which another is poured.
use Rattle.std.specs.Prelude.{◌≡◌, ℕ, Bool, ◌==◌, ◌+◌, ◌*◌, ◌/◌, ◌%◌, ◌^◌, Option, Some, None, refl}
use Rattle.std.proofs.Common.{sym, ◌∙◌, arith, subst, ap}
use Rattle.lattice_core.specs.Laws.{IsUpper, IsWidened}
use Rattle.pat_map.specs.declared.nodes.Node.{Node, Leaf, Branch'}
use Rattle.pat_map.specs.Trees.{at, Halves, IsTree, IsBranch, with_other, either}
use Rattle.pat_map.specs.TreeLaws.{parity, same_or_not, over, parts_of, Sets, Joins}

-- a value that is answered, or that stays
abbrev pub Becomes : {V : Type 0} → V → Option V → Option V → Type 0
Becomes u old None = old ≡ Some u
Becomes u old (Some v) = v ≡ u

abbrev pub PutsMaybe : {V : Type 0} → ℕ → Option V → Node V → Node V → Type 0
PutsMaybe key None x t = t ≡ x
PutsMaybe key (Some v) x t = Sets key v x t

-- what is known of the value that is made of two, where there are two
abbrev pub MadeIf : {V : Type 0} → (V → V → V → Type 0) → (V → V → V) → Option V → Option V → Type 0
MadeIf made f None o = Unit {0}
MadeIf made f (Some v) None = Unit {0}
MadeIf made f (Some v) (Some w) = made v w (f v w)

abbrev pub Made : {V : Type 0} → (V → V → V → Type 0) → (V → V → V) → Node V → Node V → Type 0
Made made f x y = (k : ℕ) → MadeIf made f (at x k) (at y k)

-- a value that is widened
pub record WidensTo {V : Type 0} (below : V → V → Type 0) (rank : V → ℕ) (exact : Bool) (joined : V → V → V) (v w j : V) : Type 0 where
  pub over : IsUpper below v w j
  pub falls : IsWidened below rank exact (joined v w) v j

module _ {V : Type 0} where
  pub puts_so : (key : ℕ) (u : V) (o : Option V) (x t : Node V) → Becomes u (at x key) o → PutsMaybe key o x t → Sets key u x t
  puts_so key u None x t b p = λ k. ap (λ n. at n k) p ∙ same_or_not k key
      (λ e r. rw e (ap (at x) r ∙ b))
      (λ e r. rw e refl)
  puts_so key u (Some v) x t b p = subst (λ v. Sets key v x t) b p

  none_made : (made : V → V → V → Type 0) (f : V → V → V) (o : Option V) → MadeIf made f o None
  none_made made f None = tt
  none_made made f (Some v) = tt

  pub made_leaf : (made : V → V → V → Type 0) (f : V → V → V) (x n : Node V) (key : ℕ) (w : V) → n ≡ Leaf key w → MadeIf made f (at x key) (Some w) → Made made f x n
  made_leaf made f x n key w i h k = same_or_not k key
      (λ e r. rw (i, e) (subst (λ m. MadeIf made f (at x m) (Some w)) (sym r) h))
      (λ e r. rw (i, e) (none_made made f (at x k)))

  pub made_branch : (made : V → V → V → Type 0) (f : V → V → V) (bit block : ℕ) (x low high n t : Node V) → IsBranch bit block low high n → IsTree n → Joins f x low t → Made made f x low → Made made f t high → Made made f x n
  made_branch made f bit block x low high n t e tree i a b k = over (λ m. MadeIf made f (at x k) (at m k)) bit block low high n e (λ p q. parity (k / 2 ^ bit)
      (λ s r. rw s (a k))
      (λ s r.
      let none : at low k ≡ None = h.low_in k (λ z. absurd (omega arith)) in
      let same : at t k ≡ at x k = i k ∙ rw none refl in
      rw s (subst (λ o. MadeIf made f o (at high k)) same (b k))))
    where
      h : Halves bit block low high
      h = (parts_of bit block low high n e tree).0
