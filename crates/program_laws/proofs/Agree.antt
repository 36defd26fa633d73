-- Registers that agree stay so where the same is written, and are read alike.
use Rattle.std.proofs.Common.{◌≡◌, ℕ, zero, suc, false, true≢false, List, [], ◌∷◌, refl, sym, ◌∙◌}
use Rattle.std.specs.Prelude.{slice_set, slice_index_or, nat_eq}
use lib.Dec.{eqb-suc-suc, eqb-suc-zero, eqb-zero-suc}
use Rattle.dalvik_defs.specs.declared.state.Value.{Value}
use Rattle.program_laws.specs.Agree.{Agree}

pub agree_refl : (P : ℕ → Type 0) (xs : List Value) → Agree P xs xs
agree_refl P [] = tt
agree_refl P (x ∷ xs) = (λ h. refl, agree_refl (λ r. P (suc r)) xs)

pub agree_sym : (P : ℕ → Type 0) (xs ys : List Value) → Agree P xs ys → Agree P ys xs
agree_sym P [] [] a = tt
agree_sym P [] (y ∷ ys) a = absurd a
agree_sym P (x ∷ xs) [] a = absurd a
agree_sym P (x ∷ xs) (y ∷ ys) a = (λ h. sym (a.0 h), agree_sym (λ r. P (suc r)) xs ys a.1)

pub agree_fewer : (P Q : ℕ → Type 0) → ((r : ℕ) → Q r → P r) → (xs ys : List Value) → Agree P xs ys → Agree Q xs ys
agree_fewer P Q h [] [] a = tt
agree_fewer P Q h [] (y ∷ ys) a = absurd a
agree_fewer P Q h (x ∷ xs) [] a = absurd a
agree_fewer P Q h (x ∷ xs) (y ∷ ys) a = (λ q. a.0 (h 0 q), agree_fewer (λ r. P (suc r)) (λ r. Q (suc r)) (λ r. h (suc r)) xs ys a.1)

pub agree_on : (P Q : ℕ → Type 0) → ((r : ℕ) → Q r → P r) → (xs ys zs : List Value) → Agree P xs ys → Agree Q ys zs → Agree Q xs zs
agree_on P Q h [] [] [] a b = tt
agree_on P Q h [] [] (z ∷ zs) a b = absurd b
agree_on P Q h [] (y ∷ ys) zs a b = absurd a
agree_on P Q h (x ∷ xs) [] zs a b = absurd a
agree_on P Q h (x ∷ xs) (y ∷ ys) [] a b = absurd b
agree_on P Q h (x ∷ xs) (y ∷ ys) (z ∷ zs) a b = (λ q. a.0 (h 0 q) ∙ b.0 q, agree_on (λ r. P (suc r)) (λ r. Q (suc r)) (λ r. h (suc r)) xs ys zs a.1 b.1)

pub agree_at : (P : ℕ → Type 0) (xs ys : List Value) (r : ℕ) (d : Value) → P r → Agree P xs ys → slice_index_or xs r d ≡ slice_index_or ys r d
agree_at P [] [] r d h a = refl
agree_at P [] (y ∷ ys) r d h a = absurd a
agree_at P (x ∷ xs) [] r d h a = absurd a
agree_at P (x ∷ xs) (y ∷ ys) zero d h a = a.0 h
agree_at P (x ∷ xs) (y ∷ ys) (suc r) d h a = agree_at (λ r. P (suc r)) xs ys r d h a.1

-- the same is written to both
pub agree_set : (P Q : ℕ → Type 0) (xs ys : List Value) (to : ℕ) (v : Value) → ((r : ℕ) → Q r → nat_eq r to ≡ false → P r) → Agree P xs ys → Agree Q (slice_set xs to v) (slice_set ys to v)
agree_set P Q [] [] to v h a = tt
agree_set P Q [] (y ∷ ys) to v h a = absurd a
agree_set P Q (x ∷ xs) [] to v h a = absurd a
agree_set P Q (x ∷ xs) (y ∷ ys) zero v h a = (λ q. refl, agree_fewer (λ r. P (suc r)) (λ r. Q (suc r)) (λ r q. h (suc r) q (eqb-suc-zero r)) xs ys a.1)
agree_set P Q (x ∷ xs) (y ∷ ys) (suc to) v h a = (λ q. a.0 (h 0 q (eqb-zero-suc to)), agree_set (λ r. P (suc r)) (λ r. Q (suc r)) xs ys to v (λ r q e. h (suc r) q (eqb-suc-suc r to ∙ e)) a.1)

-- one of them is written
pub agree_write : (P : ℕ → Type 0) (xs : List Value) (to : ℕ) (v : Value) → ((r : ℕ) → P r → nat_eq r to ≡ false) → Agree P xs (slice_set xs to v)
agree_write P [] to v h = tt
agree_write P (x ∷ xs) zero v h = (λ q. absurd (true≢false (h 0 q)), agree_refl (λ r. P (suc r)) xs)
agree_write P (x ∷ xs) (suc to) v h = (λ q. refl, agree_write (λ r. P (suc r)) xs to v (λ r q. sym (eqb-suc-suc r to) ∙ h (suc r) q))
