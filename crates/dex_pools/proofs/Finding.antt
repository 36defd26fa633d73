-- How readings that find exactly what stands there are put together.
use Rattle.std.proofs.Common.{◌≡◌, ℕ, zero, suc, Bool, true, false, cond, List, [], ◌∷◌, length, Result, Ok, Err, refl, sym, ap, subst, ◌∙◌, arith}
use Rattle.dex_base.specs.Reading.{◌>>=◌, raise, each}
use Rattle.dex_base.specs.Decides.{Decides, Each}
use Rattle.dex_base.proofs.Decides.{ok_is, not_both}
use Rattle.dex_pools.specs.Finds.{Finds, RunOf}
use Rattle.dex_pools.specs.Run.{run}

pub finds : {Y F : Type 0} {Is : Y → Type 0} {Has : F → Type 0} (read : Result Y F) → Decides Is Has read → Finds Is read
finds read d = record { found = d.found; again = d.again }

-- the same in other words
pub same : {Y F : Type 0} {Is Is' : Y → Type 0} (read : Result Y F) → Finds Is read → ((y : Y) → Is y → Is' y) → ((y : Y) → Is' y → Is y) → Finds Is' read
same read d to from = record { found = λ y h. to y (d.found y h); again = λ y h. d.again y (from y h) }

pub pure : {Y F : Type 0} (v : Y) → Finds {F = F} (λ y. y ≡ v) (Ok v)
pure v = record { found = λ y h. sym (ok_is v y h); again = λ y h. ap Ok (sym h) }

pub guard : {Y F : Type 0} (b : Bool) (v : Y) (d : F) → Finds (λ y. (b ≡ true) × (y ≡ v)) (cond b (Ok v) (Err d))
guard true v d = record { found = λ y h. (refl, sym (ok_is v y h)); again = λ y h. ap Ok (sym h.1) }
guard false v d = record { found = λ y h. absurd (not_both d y h); again = λ y h. absurd cc }

-- one reading behind another
pub then : {X Y F : Type 0} {Is : X → Type 0} {Is' : X → Y → Type 0} (read : Result X F) (f : X → Result Y F) → Finds Is read → ((x : X) → Is x → Finds (Is' x) (f x))
    → Finds (λ y. (x : X) × Is x × Is' x y) (read >>= f)
then (Ok x) f d g = record {
  found = λ y h. (x, d.found x refl, (g x (d.found x refl)).found y h);
  again = λ y p. ap f (ok_is x p.0 (d.again p.0 p.1)) ∙ (g p.0 p.1).again y p.2;
}
then (Err k) f d g = record {
  found = λ y h. absurd (not_both k y h);
  again = λ y p. absurd (not_both k p.0 (d.again p.0 p.1));
}

-- with its fault in the words of a layer above
pub raised : {Y F G : Type 0} {Is : Y → Type 0} (up : F → G) (read : Result Y F) → Finds Is read → Finds Is (raise up read)
raised {Is = Is} up (Ok x) d = record { found = λ y h. subst Is (ok_is x y h) (d.found x refl); again = λ y p. ap Ok (ok_is x y (d.again y p)) }
raised up (Err k) d = record { found = λ y h. absurd (not_both (up k) y h); again = λ y p. absurd (not_both k y (d.again y p)) }

-- ---- entries of a table

abbrev Shaped : {X : Type 0} → (ℕ → X → Type 0) → ℕ → ℕ → List X → Type 0
Shaped Is from n xs = (length xs ≡ n) × Each Is from xs

each_apart : {X : Type 0} (Is : ℕ → X → Type 0) (from n : ℕ) (ys : List X) → Shaped Is from (suc n) ys → (x : X) × Is from x × ((xs : List X) × Shaped Is (suc from) n xs × (ys ≡ x ∷ xs))
each_apart Is from n [] h = absurd cc
each_apart Is from n (y ∷ ys) h = (y, h.1.0, (ys, (omega (arith, h.0), h.1.1), refl))

each_none : {X : Type 0} (Is : ℕ → X → Type 0) (from : ℕ) (ys : List X) → Shaped Is from 0 ys → ys ≡ []
each_none Is from [] h = refl
each_none Is from (y ∷ ys) h = absurd cc

pub finds_each : {X F : Type 0} (Is : ℕ → X → Type 0) (f : ℕ → Result X F) → ((i : ℕ) → Finds (Is i) (f i)) → (from n : ℕ) → Finds (λ xs. (length xs ≡ n) × Each Is from xs) (each f from n)
finds_each Is f d from zero = same (each f from zero) (pure []) (λ ys p. subst (Shaped Is from 0) (sym p) (refl, tt)) (each_none Is from)
finds_each Is f d from (suc n) = same (each f from (suc n))
    (then (f from) (λ x. each f (suc from) n >>= λ xs. Ok (x ∷ xs)) (d from) (λ x h. then (each f (suc from) n) (λ xs. Ok (x ∷ xs)) (finds_each Is f d (suc from) n) (λ xs g. pure (x ∷ xs))))
    (λ ys p. subst (Shaped Is from (suc n)) (sym p.2.2) (ap suc p.2.1.0, (p.1, p.2.1.1)))
    (each_apart Is from n)

-- ---- entries that hand on what is left

abbrev both : {X S : Type 0} → List X → S → List X × S
both xs stop = (xs, stop)

abbrev Lasting : {X S : Type 0} → (ℕ → S → X × S → Type 0) → ℕ → ℕ → S → List X × S → Type 0
Lasting Is from n s r = (length r.0 ≡ n) × RunOf Is from s r.0 r.1

run_apart : {X S : Type 0} (Is : ℕ → S → X × S → Type 0) (from n : ℕ) (s : S) (xs : List X) (stop : S) → Lasting Is from (suc n) s (xs, stop)
    → (x : X × S) × Is from s x × ((r : List X × S) × Lasting Is (suc from) n x.1 r × (both xs stop ≡ both (x.0 ∷ r.0) r.1))
run_apart Is from n s [] stop h = absurd cc
run_apart Is from n s (x ∷ xs) stop h = ((x, h.1.0), h.1.1, ((xs, stop), (omega (arith, h.0), h.1.2), refl))

run_none : {X S : Type 0} (Is : ℕ → S → X × S → Type 0) (from : ℕ) (s : S) (xs : List X) (stop : S) → Lasting Is from 0 s (xs, stop) → both xs stop ≡ both [] s
run_none {X = X} {S = S} Is from s [] stop h = ap (λ (t : S). both {X = X} [] t) h.1
run_none Is from s (x ∷ xs) stop h = absurd cc

pub finds_run : {X S F : Type 0} (Is : ℕ → S → X × S → Type 0) (f : ℕ → S → Result (X × S) F) → ((i : ℕ) (s : S) → Finds (Is i s) (f i s)) → (from n : ℕ) (s : S)
    → Finds (λ r. (length r.0 ≡ n) × RunOf Is from s r.0 r.1) (run f from n s)
finds_run Is f d from zero s = same (run f from zero s) (pure ([], s)) (λ r p. subst (Lasting Is from 0 s) (sym p) (refl, refl)) (λ r p. run_none Is from s r.0 r.1 p)
finds_run Is f d from (suc n) s = same (run f from (suc n) s)
    (then (f from s) (λ x. run f (suc from) n x.1 >>= λ xs. Ok (x.0 ∷ xs.0, xs.1)) (d from s) (λ x _. then (run f (suc from) n x.1) (λ xs. Ok (x.0 ∷ xs.0, xs.1)) (finds_run Is f d (suc from) n x.1) (λ xs _. pure (x.0 ∷ xs.0, xs.1))))
    (λ r p. subst (Lasting Is from (suc n) s) (sym p.2.2) (ap suc p.2.1.0, (p.0.1, p.1, p.2.1.1)))
    (λ r p. run_apart Is from n s r.0 r.1 p)
