-- How readings are put together whose results stand there.
use Rattle.std.proofs.Common.{◌≡◌, ℕ, zero, suc, Bool, true, false, cond, List, [], ◌∷◌, length, Result, Ok, Err, refl, sym, ap, subst}
use Rattle.dex_base.specs.Reading.{◌>>=◌, raise}
use Rattle.dex_base.proofs.Decides.{ok_is, not_both}
use Rattle.dex_pools.specs.Finds.{Finds, RunOf}
use Rattle.dex_pools.specs.Run.{run}
use Rattle.file_laws.specs.Founds.{Founds}

pub known : {Y F : Type 0} {Is : Y → Type 0} {read : Result Y F} → Finds Is read → Founds Is read
known d = record { found = d.found }

pub weaker : {Y F : Type 0} {Is Is' : Y → Type 0} (read : Result Y F) → Founds Is read → ((y : Y) → Is y → Is' y) → Founds Is' read
weaker read d to = record { found = λ y h. to y (d.found y h) }

pub done : {Y F : Type 0} (v : Y) → Founds {F = F} (λ y. y ≡ v) (Ok v)
done v = record { found = λ y h. sym (ok_is v y h) }

pub failed : {Y F : Type 0} {Is : Y → Type 0} (e : F) → Founds Is (Err e)
failed e = record { found = λ y h. absurd (not_both e y h) }

-- a reading where a test holds, else a fault
pub when : {Y F : Type 0} {Is : Y → Type 0} {b : Bool} {read : Result Y F} (e : F) → Founds Is read → Founds (λ y. (b ≡ true) × Is y) (cond b read (Err e))
when {b = true} e d = record { found = λ y h. (refl, d.found y h) }
when {b = false} e d = record { found = λ y h. absurd (not_both e y h) }

-- one of two readings by a test
pub either : {Y F : Type 0} {Is : Y → Type 0} {b : Bool} {read other : Result Y F} → (b ≡ true → Founds Is read) → (b ≡ false → Founds Is other) → Founds Is (cond b read other)
either {b = true} d g = d refl
either {b = false} d g = g refl

-- one reading behind another
pub next : {X Y F : Type 0} {Is : X → Type 0} {Is' : X → Y → Type 0} {read : Result X F} {f : X → Result Y F} → Founds Is read → ((x : X) → Is x → Founds (Is' x) (f x))
    → Founds (λ y. (x : X) × Is x × Is' x y) (read >>= f)
next {read = Ok x} d g = record { found = λ y h. (x, d.found x refl, (g x (d.found x refl)).found y h) }
next {read = Err e} d g = record { found = λ y h. absurd (not_both e y h) }

pub lifted : {Y F G : Type 0} {Is : Y → Type 0} {read : Result Y F} (up : F → G) → Founds Is read → Founds Is (raise up read)
lifted {Is = Is} {read = Ok x} up d = record { found = λ y h. subst Is (ok_is x y h) (d.found x refl) }
lifted {read = Err e} up d = record { found = λ y h. absurd (not_both (up e) y h) }

-- entries one behind another that hand on what is left
abbrev Lasting : {X S : Type 0} → (ℕ → S → X × S → Type 0) → ℕ → ℕ → S → List X × S → Type 0
Lasting Is from n s r = (length r.0 ≡ n) × RunOf Is from s r.0 r.1

pub founds_run : {X S F : Type 0} (Is : ℕ → S → X × S → Type 0) (f : ℕ → S → Result (X × S) F) → ((i : ℕ) (s : S) → Founds (Is i s) (f i s)) → (from n : ℕ) (s : S)
    → Founds (λ r. (length r.0 ≡ n) × RunOf Is from s r.0 r.1) (run f from n s)
founds_run Is f d from zero s = weaker (run f from zero s) (done ([], s)) (λ r p. subst (Lasting Is from 0 s) (sym p) (refl, refl))
founds_run Is f d from (suc n) s = weaker (run f from (suc n) s)
    (next (d from s) (λ x _. next (founds_run Is f d (suc from) n x.1) (λ xs _. done (x.0 ∷ xs.0, xs.1))))
    (λ r p. subst (Lasting Is from (suc n) s) (sym p.2.2) (ap suc p.2.1.0, (p.0.1, p.1, p.2.1.1)))
