-- How readings are put together of whose results something is known.
use Rattle.std.proofs.Common.{◌≡◌, ℕ, zero, suc, Bool, true, false, cond, List, [], ◌∷◌, Result, Ok, Err, refl, sym, subst}
use Rattle.std.specs.Prelude.{◌&&◌}
use Rattle.dex_base.specs.Reading.{◌>>=◌, raise}
use Rattle.dex_base.proofs.Decides.{ok_is, not_both}
use Rattle.dex_pools.specs.Finds.{RunOf}
use Rattle.dex_pools.specs.Run.{run}

-- what is read is so
pub record Reads {Y F : Type 0} (Is : Y → Type 0) (read : Result Y F) : Type 0 where
  pub found : (y : Y) → read ≡ Ok y → Is y

pub anything : {Y F : Type 0} (read : Result Y F) → Reads (λ y. Unit {0}) read
anything read = record { found = λ y h. tt }

pub weaker : {Y F : Type 0} {Is Is' : Y → Type 0} (read : Result Y F) → Reads Is read → ((y : Y) → Is y → Is' y) → Reads Is' read
weaker read d to = record { found = λ y h. to y (d.found y h) }

pub done : {Y F : Type 0} (v : Y) → Reads {F = F} (λ y. y ≡ v) (Ok v)
done v = record { found = λ y h. sym (ok_is v y h) }

pub failed : {Y F : Type 0} {Is : Y → Type 0} (e : F) → Reads Is (Err e)
failed e = record { found = λ y h. absurd (not_both e y h) }

-- a reading where a test holds, else a fault
pub when : {Y F : Type 0} {Is : Y → Type 0} {b : Bool} {read : Result Y F} (e : F) → Reads Is read → Reads (λ y. (b ≡ true) × Is y) (cond b read (Err e))
when {b = true} e d = record { found = λ y h. (refl, d.found y h) }
when {b = false} e d = record { found = λ y h. absurd (not_both e y h) }

-- one of two readings by a test
pub either : {Y F : Type 0} {Is : Y → Type 0} {b : Bool} {read other : Result Y F} → (b ≡ true → Reads Is read) → (b ≡ false → Reads Is other) → Reads Is (cond b read other)
either {b = true} d g = d refl
either {b = false} d g = g refl

-- one reading behind another
pub next : {X Y F : Type 0} {Is : X → Type 0} {Is' : X → Y → Type 0} {read : Result X F} {f : X → Result Y F} → Reads Is read → ((x : X) → Is x → Reads (Is' x) (f x))
    → Reads (λ y. (x : X) × Is x × Is' x y) (read >>= f)
next {read = Ok x} d g = record { found = λ y h. (x, d.found x refl, (g x (d.found x refl)).found y h) }
next {read = Err e} d g = record { found = λ y h. absurd (not_both e y h) }

pub lifted : {Y F G : Type 0} {Is : Y → Type 0} {read : Result Y F} (up : F → G) → Reads Is read → Reads Is (raise up read)
lifted {Is = Is} {read = Ok x} up d = record { found = λ y h. subst Is (ok_is x y h) (d.found x refl) }
lifted {read = Err e} up d = record { found = λ y h. absurd (not_both (up e) y h) }

-- entries one behind another that hand on what is left
pub reads_run : {X S F : Type 0} (Is : ℕ → S → X × S → Type 0) (f : ℕ → S → Result (X × S) F) → ((i : ℕ) (s : S) → Reads (Is i s) (f i s)) → (from n : ℕ) (s : S)
    → Reads (λ r. RunOf Is from s r.0 r.1) (run f from n s)
reads_run Is f d from zero s = weaker (run f from zero s) (done ([], s)) (λ r p. subst (λ (r : List _ × _). RunOf Is from s r.0 r.1) (sym p) refl)
reads_run Is f d from (suc n) s = weaker (run f from (suc n) s)
    (next (d from s) (λ x _. next (reads_run Is f d (suc from) n x.1) (λ xs _. done (x.0 ∷ xs.0, xs.1))))
    (λ r p. subst (λ (r : List _ × _). RunOf Is from s r.0 r.1) (sym p.2.2) (p.0.1, p.1, p.2.1))

-- ---- tests

-- what is read, by its reading alone
pub itself : {Y F : Type 0} (read : Result Y F) → Reads (λ y. read ≡ Ok y) read
itself read = record { found = λ y h. h }
