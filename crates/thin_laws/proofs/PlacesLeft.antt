-- Places of instructions that are left.
use Rattle.std.proofs.Common.{◌≡◌, ℕ, zero, suc, ◌+◌, ◌<◌, ◌≤◌, Bool, true, List, [], ◌∷◌, length, refl, sym, ap, ◌∙◌, subst, arith}
use Rattle.std.specs.Prelude.{Some, None, slice_get, Contains}
use Rattle.std.specs.List.{list_all, enumerate_from}
use Rattle.lemmas.proofs.Bools.{and_right}
use Rattle.lemmas.proofs.Lists.{contains_here, contains_there}
use Rattle.lemmas.proofs.Options.{none_some, some_same}
use Rattle.insn_set.specs.declared.form.Insn.{Insn}
use Rattle.insn_set.specs.declared.form.Insn.TheVariants as insn
use Rattle.program_model.specs.Neighbours.{neighbours}
use Rattle.pass_defs.specs.Thinned.{Fate, Stays, Empties, Goes, place, insn_retargeted, insns_left}
use Rattle.program_laws.proofs.ChangedLists.{and_left, and_both}
use Rattle.thin_laws.proofs.Places.{IsLeft}

-- ---- entries of lists

pub get_none : {A : Type 0} (xs : List A) (n : ℕ) → slice_get xs n ≡ None → length xs ≤ n
get_none [] n e = omega arith
get_none (y ∷ ys) zero e = none_some y (sym e)
get_none (y ∷ ys) (suc n) e = let l = get_none ys n e in omega (arith, l)

pub all_with : {A : Type 0} (f g : A → Bool) (xs : List A) → ((x : A) → Contains xs x → f x ≡ true → g x ≡ true) → list_all f xs ≡ true → list_all g xs ≡ true
all_with f g [] h e = refl
all_with f g (x ∷ xs) h e = and_both (g x) (list_all g xs) (h x (contains_here x xs) (and_left (f x) (list_all f xs) e))
    (all_with f g xs (λ y i k. h y (contains_there x xs y i) k) (and_right (f x) (list_all f xs) e))

-- with their numbers
pub numbered_at : {A : Type 0} (f : ℕ × A → Bool) (xs : List A) (k n : ℕ) (x : A) → list_all f (enumerate_from k xs) ≡ true → slice_get xs n ≡ Some x → f (k + n, x) ≡ true
numbered_at f [] k n x h e = none_some x e
numbered_at f (y ∷ ys) k zero x h e = ap (λ i. f (i, x)) (plus_none k) ∙ ap (λ z. f (k, z)) (sym (some_same y x e)) ∙ and_left (f (k, y)) (list_all f (enumerate_from (k + 1) ys)) h
  where
    plus_none : (k : ℕ) → k + 0 ≡ k
    plus_none k = omega arith
numbered_at f (y ∷ ys) k (suc n) x h e = ap (λ i. f (i, x)) (shifted k n) ∙ numbered_at f ys (k + 1) n x (and_right (f (k, y)) (list_all f (enumerate_from (k + 1) ys)) h) e
  where
    shifted : (k n : ℕ) → k + suc n ≡ (k + 1) + n
    shifted k n = omega arith

pub all_numbered : {A : Type 0} (f : ℕ × A → Bool) (xs : List A) (k : ℕ) → ((n : ℕ) (x : A) → slice_get xs n ≡ Some x → f (k + n, x) ≡ true) → list_all f (enumerate_from k xs) ≡ true
all_numbered f [] k h = refl
all_numbered f (y ∷ ys) k h = and_both (f (k, y)) (list_all f (enumerate_from (k + 1) ys)) (ap (λ i. f (i, y)) (plus_none k) ∙ h zero y refl)
    (all_numbered f ys (k + 1) (λ n x e. ap (λ i. f (i, x)) (shifted k n) ∙ h (suc n) x e))
  where
    plus_none : (k : ℕ) → k ≡ k + 0
    plus_none k = omega arith

    shifted : (k n : ℕ) → (k + 1) + n ≡ k + suc n
    shifted k n = omega arith

-- with those behind them
pub beside : {A : Type 0} (f : A × A → Bool) (xs : List A) (n : ℕ) (x y : A) → list_all f (neighbours xs) ≡ true → slice_get xs n ≡ Some x → slice_get xs (suc n) ≡ Some y → f (x, y) ≡ true
beside f [] n x y h e d = none_some x e
beside f (a ∷ []) n x y h e d = none_some y d
beside f (a ∷ (b ∷ bs)) zero x y h e d = ap (λ z. f (z, y)) (sym (some_same a x e)) ∙ ap (λ z. f (a, z)) (sym (some_same b y d)) ∙ and_left (f (a, b)) (list_all f (neighbours (b ∷ bs))) h
beside f (a ∷ (b ∷ bs)) (suc n) x y h e d = beside f (b ∷ bs) n x y (and_right (f (a, b)) (list_all f (neighbours (b ∷ bs))) h) e d

pub all_beside : {A : Type 0} (f : A × A → Bool) (xs : List A) → ((n : ℕ) (x y : A) → slice_get xs n ≡ Some x → slice_get xs (suc n) ≡ Some y → f (x, y) ≡ true) → list_all f (neighbours xs) ≡ true
all_beside f [] h = refl
all_beside f (a ∷ []) h = refl
all_beside f (a ∷ (b ∷ bs)) h = and_both (f (a, b)) (list_all f (neighbours (b ∷ bs))) (h zero a b refl refl) (all_beside f (b ∷ bs) (λ n x y e d. h (suc n) x y e d))

-- ---- places

abbrev pub left_insn : (ℕ → ℕ) → Fate → Insn → Insn
left_insn at Stays i = insn_retargeted at i
left_insn at Empties i = insn.Nop
left_insn at Goes i = i

pub insn_left : (at : ℕ → ℕ) (fs : List Fate) (xs : List Insn) (n : ℕ) (f : Fate) (i : Insn) → slice_get fs n ≡ Some f → slice_get xs n ≡ Some i → IsLeft (Some f)
    → slice_get (insns_left at fs xs) (place fs n) ≡ Some (left_insn at f i)
insn_left at [] xs n f i h e l = none_some f h
insn_left at (k ∷ fs) [] n f i h e l = none_some i e
insn_left at (Stays ∷ fs) (y ∷ xs) zero f i h e l = ap Some (ap (λ z. insn_retargeted at z) (some_same y i e) ∙ ap (λ k. left_insn at k i) (some_same Stays f h))
insn_left at (Empties ∷ fs) (y ∷ xs) zero f i h e l = ap (λ k. Some (left_insn at k i)) (some_same Empties f h)
insn_left at (Goes ∷ fs) (y ∷ xs) zero f i h e l = absurd (subst (λ k. IsLeft (Some k)) (sym (some_same Goes f h)) l)
insn_left at (Stays ∷ fs) (y ∷ xs) (suc n) f i h e l = insn_left at fs xs n f i h e l
insn_left at (Empties ∷ fs) (y ∷ xs) (suc n) f i h e l = insn_left at fs xs n f i h e l
insn_left at (Goes ∷ fs) (y ∷ xs) (suc n) f i h e l = insn_left at fs xs n f i h e l

-- where an instruction that is left comes from
pub record From (at : ℕ → ℕ) (fs : List Fate) (xs : List Insn) (j : ℕ) (y : Insn) : Type 0 where
  pub position : ℕ
  pub fate : Fate
  pub insn : Insn
  pub has_fate : slice_get fs position ≡ Some fate
  pub has_insn : slice_get xs position ≡ Some insn
  pub is_left : IsLeft (Some fate)
  pub there : place fs position ≡ j
  pub same : y ≡ left_insn at fate insn

pub come_from : (at : ℕ → ℕ) (fs : List Fate) (xs : List Insn) (j : ℕ) (y : Insn) → slice_get (insns_left at fs xs) j ≡ Some y → From at fs xs j y
come_from at fs [] j y e = none_some y e
come_from at [] (x ∷ xs) j y e = none_some y e
come_from at (Stays ∷ fs) (x ∷ xs) zero y e = record { position = 0; fate = Stays; insn = x; has_fate = refl; has_insn = refl; is_left = tt; there = refl; same = sym (some_same (insn_retargeted at x) y e) }
come_from at (Stays ∷ fs) (x ∷ xs) (suc j) y e = let r = come_from at fs xs j y e in
    record { position = suc r.position; fate = r.fate; insn = r.insn; has_fate = r.has_fate; has_insn = r.has_insn; is_left = r.is_left; there = ap suc r.there; same = r.same }
come_from at (Empties ∷ fs) (x ∷ xs) zero y e = record { position = 0; fate = Empties; insn = x; has_fate = refl; has_insn = refl; is_left = tt; there = refl; same = sym (some_same insn.Nop y e) }
come_from at (Empties ∷ fs) (x ∷ xs) (suc j) y e = let r = come_from at fs xs j y e in
    record { position = suc r.position; fate = r.fate; insn = r.insn; has_fate = r.has_fate; has_insn = r.has_insn; is_left = r.is_left; there = ap suc r.there; same = r.same }
come_from at (Goes ∷ fs) (x ∷ xs) j y e = let r = come_from at fs xs j y e in
    record { position = suc r.position; fate = r.fate; insn = r.insn; has_fate = r.has_fate; has_insn = r.has_insn; is_left = r.is_left; there = r.there; same = r.same }

-- two positions that are left have two places
pub place_same : (fs : List Fate) (n m : ℕ) → IsLeft (slice_get fs n) → IsLeft (slice_get fs m) → place fs n ≡ place fs m → n ≡ m
place_same [] n m h k e = e
place_same (f ∷ fs) zero zero h k e = refl
place_same (Stays ∷ fs) zero (suc m) h k e = let g : ⊥ = omega (arith, e) in absurd g
place_same (Empties ∷ fs) zero (suc m) h k e = let g : ⊥ = omega (arith, e) in absurd g
place_same (Goes ∷ fs) zero (suc m) h k e = absurd h
place_same (Stays ∷ fs) (suc n) zero h k e = let g : ⊥ = omega (arith, e) in absurd g
place_same (Empties ∷ fs) (suc n) zero h k e = let g : ⊥ = omega (arith, e) in absurd g
place_same (Goes ∷ fs) (suc n) zero h k e = absurd k
place_same (Stays ∷ fs) (suc n) (suc m) h k e = ap suc (place_same fs n m h k (omega (arith, e)))
place_same (Empties ∷ fs) (suc n) (suc m) h k e = ap suc (place_same fs n m h k (omega (arith, e)))
place_same (Goes ∷ fs) (suc n) (suc m) h k e = ap suc (place_same fs n m h k e)

pub place_rises : (fs : List Fate) (n m : ℕ) → n ≤ m → place fs n ≤ place fs m
place_rises [] n m l = l
place_rises (f ∷ fs) zero m l = omega arith
place_rises (f ∷ fs) (suc n) zero l = let g : ⊥ = omega (arith, l) in absurd g
place_rises (Stays ∷ fs) (suc n) (suc m) l = let r = place_rises fs n m (omega (arith, l)) in omega (arith, r)
place_rises (Empties ∷ fs) (suc n) (suc m) l = let r = place_rises fs n m (omega (arith, l)) in omega (arith, r)
place_rises (Goes ∷ fs) (suc n) (suc m) l = place_rises fs n m (omega (arith, l))

-- the place of the end is the end
pub place_end : (at : ℕ → ℕ) (fs : List Fate) (xs : List Insn) → length fs ≡ length xs → place fs (length xs) ≡ length (insns_left at fs xs)
place_end at [] [] l = refl
place_end at (f ∷ fs) [] l = refl
place_end at [] (x ∷ xs) l = let g : ⊥ = omega (arith, l) in absurd g
place_end at (Stays ∷ fs) (x ∷ xs) l = ap suc (place_end at fs xs (omega (arith, l)))
place_end at (Empties ∷ fs) (x ∷ xs) l = ap suc (place_end at fs xs (omega (arith, l)))
place_end at (Goes ∷ fs) (x ∷ xs) l = place_end at fs xs (omega (arith, l))
