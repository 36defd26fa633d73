-- Sums whose terms don't rise, and bodies whose instructions stay the same.
use Rattle.std.proofs.Common.{◌≡◌, inl, inr, ℕ, zero, suc, ◌+◌, ◌<◌, ◌≤◌, List, [], ◌∷◌, length, map, refl, sym, ap₂, ◌∙◌, subst, arith}
use Rattle.std.specs.Prelude.{sum_by, slice_get}
use Rattle.std.proofs.lemmas.Bool.{cases_lt, cases_order}
use Rattle.std.proofs.lemmas.List.Sums.{sum_by-cons}
use Rattle.insn_set.specs.declared.form.Insn.{Insn}
use Rattle.program_model.specs.declared.body.Body.{Body}
use Rattle.moves_law.specs.Measure.{moves_at, moves_below}
use Rattle.moves_law.proofs.Lists.{some_same}

-- no more by a measure, and the same where it is as much
pub record NoMore {A : Type 0} (g : A → ℕ) (x y : A) : Type 0 where
  pub most : g y ≤ g x
  pub same : g y ≡ g x → y ≡ x

pub itself : {A : Type 0} (g : A → ℕ) (x y : A) → y ≡ x → NoMore g x y
itself g x y e = subst (λ z. NoMore g x z) (sym e) (record { most = omega arith; same = λ k. refl })

pub fewer : {A : Type 0} (g : A → ℕ) (x y : A) → NoMore g x y → (y ≡ x → ⊥) → g y < g x
fewer g x y h differs = elim (cases_lt (g y) (g x)) [
  | inl lt ↦ lt
  | inr le ↦ absurd (differs (h.same (let m = h.most in omega (arith, m, le))))
]

both_same : (a b c d : ℕ) → a ≤ b → c ≤ d → a + c ≡ b + d → (a ≡ b) × (c ≡ d)
both_same a b c d l m e = (omega (arith, l, m, e), omega (arith, l, m, e))

pub added : {A : Type 0} (g : A → ℕ) (x y : A) (xs ys : List A) → NoMore g x y → NoMore (λ l. sum_by g l) xs ys → NoMore (λ l. sum_by g l) (x ∷ xs) (y ∷ ys)
added g x y xs ys h t =
    let l : g y ≤ g x = h.most in
    let m : sum_by g ys ≤ sum_by g xs = t.most in
    record {
      most = omega (arith, l, m, sum_by-cons g y ys, sum_by-cons g x xs);
      same = λ e.
          let k = both_same (g y) (g x) (sum_by g ys) (sum_by g xs) l m (sym (sum_by-cons g y ys) ∙ e ∙ sum_by-cons g x xs) in
          ap₂ (λ z zs. z ∷ zs) (h.same k.0) (t.same k.1);
    }

-- the sum over what is put in place of the terms
pub mapped_most : (h k s : ℕ → ℕ) → ((r : ℕ) → h (s r) ≤ k r) → (xs : List ℕ) → sum_by h (map s xs) ≤ sum_by k xs
mapped_most h k s le [] = omega arith
mapped_most h k s le (x ∷ xs) = omega (arith, le x, mapped_most h k s le xs, sum_by-cons h (s x) (map s xs), sum_by-cons k x xs)

pub some_most : (h k : ℕ → ℕ) → ((r : ℕ) → h r ≤ k r) → (xs : List ℕ) → sum_by h xs ≤ sum_by k xs
some_most h k le [] = omega arith
some_most h k le (x ∷ xs) = omega (arith, le x, some_most h k le xs, sum_by-cons h x xs, sum_by-cons k x xs)

-- ---- bodies

module _ (b d : Body) where
  pub below_most : ((n : ℕ) → moves_at d n ≤ moves_at b n) → (k : ℕ) → moves_below d k ≤ moves_below b k
  below_most each zero = omega arith
  below_most each (suc k) = omega (arith, each k, below_most each k)

  pub below_equal : ((n : ℕ) → moves_at d n ≡ moves_at b n) → (k : ℕ) → moves_below d k ≡ moves_below b k
  below_equal each zero = refl
  below_equal each (suc k) = ap₂ (λ x y. x + y) (below_equal each k) (each k)

  -- where the sums are equal, each term is
  pub below_same : ((n : ℕ) → moves_at d n ≤ moves_at b n) → (k : ℕ) → moves_below d k ≡ moves_below b k → (n : ℕ) → n < k → moves_at d n ≡ moves_at b n
  below_same each zero e n lt = absurd (omega (arith, lt))
  below_same each (suc k) e n lt =
      let u = both_same (moves_below d k) (moves_below b k) (moves_at d k) (moves_at b k) (below_most each k) (each k) e in
      elim (cases_order n k) [
        | inl i ↦ subst (λ j. moves_at d j ≡ moves_at b j) (sym i) u.1
        | inr o ↦ elim o [ inl l ↦ below_same each k u.0 n l | inr g ↦ absurd (omega (arith, lt, g)) ]
      ]

  -- the same instructions at the same places
  all_same : (xs ys : List Insn) → length ys ≡ length xs → ((n : ℕ) → n < length xs → slice_get ys n ≡ slice_get xs n) → ys ≡ xs
  all_same [] [] e h = refl
  all_same [] (y ∷ ys) e h = absurd (omega (arith, e))
  all_same (x ∷ xs) [] e h = absurd (omega (arith, e))
  all_same (x ∷ xs) (y ∷ ys) e h = ap₂ (λ z zs. z ∷ zs) (some_same y x (h 0 (omega arith)))
      (all_same xs ys (let f : suc (length ys) ≡ suc (length xs) = e in omega (arith, f)) (λ n lt. h (suc n) (omega (arith, lt))))

  pub same_body : d.registers ≡ b.registers → d.ins ≡ b.ins → d.regions ≡ b.regions → length d.insns ≡ length b.insns → ((n : ℕ) → n < length b.insns → slice_get d.insns n ≡ slice_get b.insns n) → d ≡ b
  same_body r i h long each = let f : d.insns ≡ b.insns = all_same b.insns d.insns long each in λ k. record { registers = r k; ins = i k; insns = f k; regions = h k }
