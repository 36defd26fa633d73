-- What holds of all that a reading yields.
use Rattle.std.proofs.Common.{◌≡◌, ℕ, zero, suc, Bool, true, false, Result, Ok, subst, ◌∙◌, refl, if◌then◌else◌}
use Rattle.dex_base.specs.Reading.{◌>>=◌}
use Rattle.dex_base.proofs.Decides.{ok_is}
use Rattle.dex_read.specs.Steps.{steps}
use Rattle.dex_read.proofs.Rising.{then_ok}

pub record Yields {Y F : Type 0} (Is : Y → Type 0) (read : Result Y F) : Type 0 where
  pub found : (y : Y) → read ≡ Ok y → Is y

-- a value
pub made : {Y F : Type 0} {Is : Y → Type 0} (v : Y) → Is v → Yields {F = F} Is (Ok v)
made {F = F} {Is = Is} v h = record { found = λ y e. subst Is (ok_is {F = F} v y e) h }

-- one reading behind another
pub after : {X Y F : Type 0} {First : X → Type 0} {Is : Y → Type 0} {read : Result X F} {f : X → Result Y F} → Yields First read → ((x : X) → First x → Yields Is (f x)) → Yields Is (read >>= f)
after {read = read} {f = f} d g = record { found = λ y h. let p = then_ok read f y h in (g p.0 (d.found p.0 p.1)).found y p.2 }

-- one behind another of which nothing has to be known
pub past : {X Y F : Type 0} {Is : Y → Type 0} {f : X → Result Y F} (read : Result X F) → ((x : X) → Yields Is (f x)) → Yields Is (read >>= f)
past {f = f} read g = record { found = λ y h. let p = then_ok read f y h in (g p.0).found y p.2 }

-- one of two
pub either : {Y F : Type 0} {Is : Y → Type 0} {one other : Result Y F} (b : Bool) → Yields Is one → Yields Is other → Yields Is (if b then one else other)
either true d g = d
either false d g = g

-- what each step leaves as it is, all of them do
pub steps_keep : {S F : Type 0} (f : ℕ → S → Result S F) (weight : S → ℕ) → ((i : ℕ) (s : S) → Yields (λ t. weight t ≡ weight s) (f i s)) → (from n : ℕ) (s : S) → Yields (λ t. weight t ≡ weight s) (steps f from n s)
steps_keep f weight h from zero s = made s refl
steps_keep f weight h from (suc n) s = after (h from s) (λ t kept. record { found = λ u e. (steps_keep f weight h (suc from) n t).found u e ∙ kept })
