-- Marks that lie within others.
use Rattle.std.proofs.Common.{◌≡◌, ◌⊎◌, ℕ, zero, suc, Bool, true, false, true≢false, List, [], ◌∷◌, replicate, refl, sym, ap, ◌∙◌, subst, inl, inr}
use Rattle.std.proofs.Math.ListN.{set}
use Rattle.std.specs.Prelude.{◌&&◌, not, slice_index_or}
use Rattle.std.specs.Cmp.Lexicographic.{pointwise}
use Rattle.pipeline.specs.Passes.{AreWithin}

one_up : (bs : List Bool) (m n : ℕ) → (m ≡ n) ⊎ (slice_index_or bs n false ≡ true) → (suc m ≡ suc n) ⊎ (slice_index_or bs n false ≡ true)
one_up bs m n (inl e) = inl (ap suc e)
one_up bs m n (inr h) = inr h

marked_set : (marks : List Bool) (m n : ℕ) → slice_index_or (set marks m true) n false ≡ true → (m ≡ n) ⊎ (slice_index_or marks n false ≡ true)
marked_set [] m n h = inr h
marked_set (b ∷ bs) zero zero h = inl refl
marked_set (b ∷ bs) zero (suc n) h = inr h
marked_set (b ∷ bs) (suc m) zero h = inr h
marked_set (b ∷ bs) (suc m) (suc n) h = one_up bs m n (marked_set bs m n h)

none_at : (k n : ℕ) → slice_index_or (replicate k false) n false ≡ false
none_at zero n = refl
none_at (suc k) zero = refl
none_at (suc k) (suc n) = none_at k n

true_false : true ≡ false → ⊥
true_false e = cc

pub none_within : (k : ℕ) (admitted : List Bool) → AreWithin (replicate k false) admitted
none_within k admitted = λ n h. absurd (true_false (sym h ∙ none_at k n))

pub marked_within : (marks admitted : List Bool) (m : ℕ) → AreWithin marks admitted → slice_index_or admitted m false ≡ true → AreWithin (set marks m true) admitted
marked_within marks admitted m within is = λ n h. by n (marked_set marks m n h)
  where
    by : (n : ℕ) → (m ≡ n) ⊎ (slice_index_or marks n false ≡ true) → slice_index_or admitted n false ≡ true
    by n (inl same) = subst (λ (k : ℕ). slice_index_or admitted k false ≡ true) same is
    by n (inr was) = within n was

pub same_within : (admitted : List Bool) → AreWithin admitted admitted
same_within admitted = λ n h. h

-- ---- whether marks are the same, and what is due

pub same_marks : (test : Bool → Bool → Bool) → test true false ≡ false → test false true ≡ false → (xs ys : List Bool) → pointwise test xs ys ≡ true → xs ≡ ys
same_marks test a b [] [] e = refl
same_marks test a b [] (y ∷ ys) e = absurd (true≢false (sym e))
same_marks test a b (x ∷ xs) [] e = absurd (true≢false (sym e))
same_marks test a b (x ∷ xs) (y ∷ ys) e = by x y (test x y) refl e (same_marks test a b xs ys)
  where
    by : (u v t : Bool) → test u v ≡ t → (t && pointwise test xs ys) ≡ true → (pointwise test xs ys ≡ true → xs ≡ ys) → u ∷ xs ≡ v ∷ ys
    by true true true f g more = ap (λ (l : List Bool). true ∷ l) (more g)
    by false false true f g more = ap (λ (l : List Bool). false ∷ l) (more g)
    by true false true f g more = absurd (true≢false (sym f ∙ a))
    by false true true f g more = absurd (true≢false (sym f ∙ b))
    by u v false f g more = absurd (true≢false (sym g))

-- what is due changed nothing
pub due_none : (all none same : Bool) → (all && none && not same) ≡ true → none ≡ true
due_none true true same e = refl
due_none true false same e = e
due_none false none same e = absurd (true≢false (sym e))

-- where nothing is due of what all is to be looked at, and nothing changed, all was looked at
pub not_due : (all none same : Bool) → (all && none && not same) ≡ false → all ≡ true → none ≡ true → same ≡ true
not_due true true true e h k = refl
not_due true true false e h k = absurd (true≢false e)
not_due true false same e h k = absurd (true≢false (sym k))
not_due false none same e h k = absurd (true≢false (sym h))
