-- How readings are put together whose faults are just.
use Rattle.std.proofs.Common.{◌≡◌, ◌<◌, ℕ, zero, suc, ◌+◌, Bool, true, false, cond, List, [], ◌∷◌, Some, Result, Ok, Err, refl, sym, ap, subst, ◌∙◌, arith}
use Rattle.std.specs.Prelude.{slice_get}
use Rattle.lemmas.proofs.Options.{some_same}
use Rattle.dex_base.specs.Reading.{◌>>=◌, raise, each}
use Rattle.dex_base.specs.Decides.{Decides, Each}
use Rattle.dex_base.proofs.Decides.{err_is, not_both}
use Rattle.dex_pools.specs.declared.fault.Table.{Table}
use Rattle.dex_pools.specs.declared.fault.PoolFault.{PoolFault}
use Rattle.dex_pools.specs.declared.fault.PoolFault.TheVariants.{Order}
use Rattle.dex_pools.specs.Finds.{Finds}
use Rattle.dex_pools.specs.Order.{ascends_from, ascends_in}
use Rattle.dex_pools.specs.Run.{run}

-- a fault that is read is so
pub record Fails {Y F : Type 0} (Has : F → Type 0) (read : Result Y F) : Type 0 where
  pub fault : (e : F) → read ≡ Err e → Has e

pub sound : {Y F : Type 0} {Has : F → Type 0} (v : Y) → Fails Has (Ok v)
sound v = record { fault = λ e h. absurd (not_both e v (sym h)) }

pub fails_with : {Y F : Type 0} {Has : F → Type 0} (d : F) → Has d → Fails {Y = Y} Has (Err d)
fails_with {Y = Y} {Has = Has} d h = record { fault = λ e is. subst Has (err_is {A = Y} d e is) h }

-- what isn't read where it stands
pub never : {Y F : Type 0} {Has : F → Type 0} (read : Result Y F) (y : Y) → read ≡ Ok y → Fails Has read
never read y g = record { fault = λ e h. absurd (not_both e y (sym h ∙ g)) }

pub stands : {Y F : Type 0} {Is : Y → Type 0} {Has : F → Type 0} (read : Result Y F) → Finds Is read → (y : Y) → Is y → Fails Has read
stands read d y h = never read y (d.again y h)

pub unless : {Y F : Type 0} {Has : F → Type 0} {b : Bool} {read : Result Y F} (e : F) → (b ≡ false → Has e) → (b ≡ true → Fails Has read) → Fails Has (cond b read (Err e))
unless {b = true} e f g = g refl
unless {b = false} e f g = fails_with e (f refl)

pub fails_either : {Y F : Type 0} {Has : F → Type 0} {b : Bool} {read other : Result Y F} → (b ≡ true → Fails Has read) → (b ≡ false → Fails Has other) → Fails Has (cond b read other)
fails_either {b = true} f g = f refl
fails_either {b = false} f g = g refl

pub fails_next : {X Y F : Type 0} {Has : F → Type 0} {read : Result X F} {f : X → Result Y F} → Fails Has read → ((x : X) → read ≡ Ok x → Fails Has (f x)) → Fails Has (read >>= f)
fails_next {read = Ok x} d g = g x refl
fails_next {Y = Y} {Has = Has} {read = Err k} d g = record { fault = λ e h. subst Has (err_is {A = Y} k e h) (d.fault k refl) }

pub fails_lifted : {Y F G : Type 0} {Has : G → Type 0} {read : Result Y F} (up : F → G) → Fails (λ e. Has (up e)) read → Fails Has (raise up read)
fails_lifted {read = Ok x} up d = sound x
fails_lifted {Y = Y} {Has = Has} {read = Err k} up d = record { fault = λ e h. subst Has (err_is {A = Y} (up k) e h) (d.fault k refl) }

pub fails_more : {Y F : Type 0} {Has More : F → Type 0} {read : Result Y F} → ((e : F) → Has e → More e) → Fails Has read → Fails More read
fails_more to d = record { fault = λ e h. to e (d.fault e h) }

pub fails_by : {Y F : Type 0} {Is : Y → Type 0} {Has More : F → Type 0} (read : Result Y F) → Decides Is Has read → ((e : F) → Has e → More e) → Fails More read
fails_by read d to = record { fault = λ e h. to e (d.fault e h) }

-- ---- entries

pub fails_each : {X F : Type 0} {Has : F → Type 0} (f : ℕ → Result X F) (from n : ℕ) → ((i : ℕ) → i < from + n → Fails Has (f i)) → Fails Has (each f from n)
fails_each f from zero h = sound []
fails_each f from (suc n) h = fails_next (h from (omega arith)) (λ x _. fails_next (fails_each f (suc from) n (λ i less. h i (omega (arith, less)))) (λ xs _. sound (x ∷ xs)))

pub fails_run : {X S F : Type 0} {Has : F → Type 0} (f : ℕ → S → Result (X × S) F) (from n : ℕ) (s : S) → ((i : ℕ) (s : S) → i < from + n → Fails Has (f i s)) → Fails Has (run f from n s)
fails_run f from zero s h = sound ([], s)
fails_run f from (suc n) s h = fails_next (h from s (omega arith)) (λ x _. fails_next (fails_run f (suc from) n x.1 (λ i s less. h i s (omega (arith, less)))) (λ xs _. sound (x.0 ∷ xs.0, xs.1)))

each_behind : {X : Type 0} (Is : ℕ → X → Type 0) (from : ℕ) (xs : List X) (k : ℕ) (x : X) → Each Is from xs → slice_get xs k ≡ Some x → Is (from + k) x
each_behind Is from [] k x h e = absurd cc
each_behind Is from (y ∷ ys) zero x h e =
    let at : from ≡ from + 0 = omega arith in
    subst (λ (n : ℕ). Is n x) at (subst (Is from) (some_same y x e) h.0)
each_behind Is from (y ∷ ys) (suc k) x h e =
    let at : suc from + k ≡ from + suc k = omega arith in
    subst (λ (n : ℕ). Is n x) at (each_behind Is (suc from) ys k x h.1 e)

pub each_at : {X : Type 0} (Is : ℕ → X → Type 0) (xs : List X) (k : ℕ) (x : X) → Each Is 0 xs → slice_get xs k ≡ Some x → Is k x
each_at Is xs k x h e = let at : 0 + k ≡ k = omega arith in subst (λ (n : ℕ). Is n x) at (each_behind Is 0 xs k x h e)

-- ---- order

-- two entries one behind the other don't ascend
pub record NotAscends {X : Type 0} (below : X → X → Bool) (table : Table) (xs : List X) (e : PoolFault) : Type 0 where
  pub place : ℕ
  pub x : X
  pub y : X
  pub first : slice_get xs place ≡ Some x
  pub second : slice_get xs (suc place) ≡ Some y
  pub not_below : below x y ≡ false
  pub is : e ≡ Order table (suc place)

module _ {X : Type 0} (below : X → X → Bool) (table : Table) (zs : List X) where
  next_place : (k i : ℕ) (xs : List X) (x : X) → ((i : ℕ) → slice_get zs (suc k + i) ≡ slice_get (x ∷ xs) i) → slice_get zs (suc (suc k) + i) ≡ slice_get xs i
  next_place k i xs x h = let at : suc (suc k) + i ≡ suc k + suc i = omega arith in ap (slice_get zs) at ∙ h (suc i)

  behind_fails : (k : ℕ) (b : X) (xs : List X) → slice_get zs k ≡ Some b → ((i : ℕ) → slice_get zs (suc k + i) ≡ slice_get xs i) → Fails (NotAscends below table zs) (ascends_from below table (Some b) (suc k) xs)
  behind_fails k b [] at h = sound tt
  behind_fails k b (x ∷ xs) at h =
      let here : slice_get zs (suc k) ≡ Some x = (let same : suc k ≡ suc k + 0 = omega arith in ap (slice_get zs) same ∙ h 0) in
      unless (Order table (suc k)) (λ no. record { place = k; x = b; y = x; first = at; second = here; not_below = no; is = refl })
      (λ _. behind_fails (suc k) x xs here (λ i. next_place k i xs x h))

pub fails_ascending : {X : Type 0} (below : X → X → Bool) (table : Table) (xs : List X) → Fails (NotAscends below table xs) (ascends_in below table xs)
fails_ascending below table [] = sound tt
fails_ascending below table (x ∷ xs) = behind_fails below table (x ∷ xs) 0 x xs refl (λ i. let at : suc 0 + i ≡ suc i = omega arith in ap (slice_get (x ∷ xs)) at)
