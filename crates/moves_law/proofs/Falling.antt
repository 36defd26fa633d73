-- What a propagated instruction reads went through fewer Moves.
use Rattle.std.proofs.Common.{◌≡◌, ◌⊎◌, inl, inr, ℕ, ◌<◌, Bool, List, [], ◌∷◌, Some, refl, sym, ap, ap₂, ◌∙◌, subst, arith}
use Rattle.std.specs.Prelude.{map, sum_by}
use Rattle.std.proofs.lemmas.List.Sums.{sum_by-cons}
use Rattle.insn_set.specs.declared.form.Insn.{Insn}
use Rattle.insn_set.specs.declared.form.Insn.TheVariants as insn
use Rattle.program_model.specs.declared.body.Body.{Body}
use Rattle.insn_regs.specs.Remade.{remade, operands_of}
use Rattle.body_graph.specs.Walks.{insn_at}
use Rattle.copy_prop.specs.Rereading.{IsReread}
use Rattle.copy_prop.specs.Rereading as pass
use Rattle.copy_prop.specs.Propagated.{IsPropagated}
use Rattle.moves_law.specs.Histories.{Step, IsPath, moves}
use Rattle.moves_law.proofs.Standing.{some_same}
use Rattle.moves_law.proofs.HistoriesPropagated.{same_or_fewer}

abbrev first : List ℕ → ℕ
first [] = 0
first (x ∷ xs) = x

abbrev second : List ℕ → ℕ
second [] = 0
second (x ∷ xs) = first xs

abbrev third : List ℕ → ℕ
third [] = 0
third (x ∷ xs) = second xs

module _ (s : ℕ → ℕ) where
  operands_map : (f : Insn) → operands_of (remade s (λ r. r) f) ≡ map s (operands_of f)
  operands_map insn.Nop = refl
  operands_map f = refl

  -- an instruction that reads the same is the same
  pub kept : (f : Insn) → map s (operands_of f) ≡ operands_of f → remade s (λ r. r) f ≡ f
  kept (insn.Move slot to from) e = ap (λ x. insn.Move slot to x) (ap first e)
  kept (insn.Return slot from) e = ap (λ x. insn.Return slot x) (ap first e)
  kept (insn.MonitorEnter on) e = ap (λ x. insn.MonitorEnter x) (ap first e)
  kept (insn.MonitorExit on) e = ap (λ x. insn.MonitorExit x) (ap first e)
  kept (insn.CheckCast on kind) e = ap (λ x. insn.CheckCast x kind) (ap first e)
  kept (insn.InstanceOf to from kind) e = ap (λ x. insn.InstanceOf to x kind) (ap first e)
  kept (insn.ArrayLength to from) e = ap (λ x. insn.ArrayLength to x) (ap first e)
  kept (insn.NewArray to size kind) e = ap (λ x. insn.NewArray to x kind) (ap first e)
  kept (insn.FilledNewArray kind args) e = ap (λ l. insn.FilledNewArray kind l) e
  kept (insn.FillArray on width items) e = ap (λ x. insn.FillArray x width items) (ap first e)
  kept (insn.Throw on) e = ap (λ x. insn.Throw x) (ap first e)
  kept (insn.PackedSwitch on key targets) e = ap (λ x. insn.PackedSwitch x key targets) (ap first e)
  kept (insn.SparseSwitch on keys targets) e = ap (λ x. insn.SparseSwitch x keys targets) (ap first e)
  kept (insn.Cmp op to a b) e = ap₂ (λ x y. insn.Cmp op to x y) (ap first e) (ap second e)
  kept (insn.If test a b target) e = ap₂ (λ x y. insn.If test x y target) (ap first e) (ap second e)
  kept (insn.IfZero test a target) e = ap (λ x. insn.IfZero test x target) (ap first e)
  kept (insn.ArrayGet item to array index) e = ap₂ (λ x y. insn.ArrayGet item to x y) (ap first e) (ap second e)
  kept (insn.ArrayPut item from array index) e = ap₂ (λ x y. insn.ArrayPut item x y (s index)) (ap first e) (ap second e) ∙ ap (λ z. insn.ArrayPut item from array z) (ap third e)
  kept (insn.InstanceGet item to on field) e = ap (λ x. insn.InstanceGet item to x field) (ap first e)
  kept (insn.InstancePut item from on field) e = ap₂ (λ x y. insn.InstancePut item x y field) (ap first e) (ap second e)
  kept (insn.StaticPut item from field) e = ap (λ x. insn.StaticPut item x field) (ap first e)
  kept (insn.Invoke kind method args) e = ap (λ l. insn.Invoke kind method l) e
  kept (insn.Unary op to from) e = ap (λ x. insn.Unary op to x) (ap first e)
  kept (insn.Binary op to a b) e = ap₂ (λ x y. insn.Binary op to x y) (ap first e) (ap second e)
  kept (insn.Literal op to a value) e = ap (λ x. insn.Literal op to x value) (ap first e)
  kept insn.Nop e = refl
  kept f e = refl

  module _ (m : ℕ → ℕ) (each : (x : ℕ) → (s x ≡ x) ⊎ (m (s x) < m x)) where
    same_or_less : (xs : List ℕ) → (map s xs ≡ xs) ⊎ (sum_by m (map s xs) < sum_by m xs)
    same_or_less [] = inl refl
    same_or_less (x ∷ xs) = by (each x) (same_or_less xs)
      where
        by : (s x ≡ x) ⊎ (m (s x) < m x) → (map s xs ≡ xs) ⊎ (sum_by m (map s xs) < sum_by m xs) → (map s (x ∷ xs) ≡ x ∷ xs) ⊎ (sum_by m (map s (x ∷ xs)) < sum_by m (x ∷ xs))
        by (inl i) (inl j) = inl (ap₂ (λ y ys. y ∷ ys) i j)
        by (inl i) (inr l) = inr (let e = ap m i in omega (arith, e, l, sum_by-cons m (s x) (map s xs), sum_by-cons m x xs))
        by (inr k) (inl j) = inr (let e = ap (sum_by m) j in omega (arith, e, k, sum_by-cons m (s x) (map s xs), sum_by-cons m x xs))
        by (inr k) (inr l) = inr (omega (arith, k, l, sum_by-cons m (s x) (map s xs), sum_by-cons m x xs))

-- an instruction stays the same, or what it reads went through fewer Moves
pub same_or_falls : (w : List (List Bool)) (b d : Body) → IsPropagated w b d → (n : ℕ) (f g : Insn) → insn_at b n ≡ Some f → insn_at d n ≡ Some g → (ss : List Step) → IsPath b ss n
    → (g ≡ f) ⊎ (sum_by (moves b ss) (operands_of g) < sum_by (moves b ss) (operands_of f))
same_or_falls w b d x n f g e i ss path =
    let u = x.insns n f e in
    let y : IsReread w b n f u.0 = u.2 in
    let s = pass.substituted y.copies in
    let same : u.0 ≡ g = some_same u.0 g (sym u.1 ∙ i) in
    let each = same_or_fewer pass.substituted (λ c. c.at) (λ c. c.slot) (λ c. c.to) (λ c. c.from) (λ r. refl) (λ c cs r. refl) w b n f ss path y.copies y.stale in
    elim (same_or_less s (moves b ss) each (operands_of f)) [
      | inl k ↦ inl (sym same ∙ y.form ∙ kept s f k)
      | inr l ↦ inr (subst (λ h. sum_by (moves b ss) (operands_of h) < sum_by (moves b ss) (operands_of f)) (sym y.form ∙ same)
          (subst (λ os. sum_by (moves b ss) os < sum_by (moves b ss) (operands_of f)) (sym (operands_map s f)) l))
    ]

pub falls : (w : List (List Bool)) (b d : Body) → IsPropagated w b d → (n : ℕ) (f g : Insn) → insn_at b n ≡ Some f → insn_at d n ≡ Some g → (g ≡ f → ⊥) → (ss : List Step) → IsPath b ss n
    → sum_by (moves b ss) (operands_of g) < sum_by (moves b ss) (operands_of f)
falls w b d x n f g e i differs ss path = elim (same_or_falls w b d x n f g e i ss path) [
  | inl k ↦ absurd (differs k)
  | inr l ↦ l
]
