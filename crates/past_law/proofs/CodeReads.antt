-- How readings are put together of which both is known: what is read, and what a passed limit says.
use Rattle.std.proofs.Common.{◌≡◌, Bool, true, false, cond, Result, Ok, Err, refl, sym, subst}
use Rattle.dex_base.specs.Reading.{◌>>=◌, raise}
use Rattle.dex_base.proofs.Decides.{ok_is, err_is, not_both}
use Rattle.program_model.specs.declared.limits.LimitFault.{LimitFault}
use Rattle.code_read.specs.declared.fault.CodeFault.{CodeFault}
use Rattle.code_read.specs.declared.fault.CodeFault.TheVariants as code
use Rattle.dex_read.specs.declared.fault.DexFault.{DexFault}
use Rattle.dex_read.specs.declared.fault.DexFault.TheVariants as dex
use Rattle.file_laws.specs.Founds.{Founds}
use Rattle.refused_law.proofs.Failing.{Fails}
use Rattle.past_law.specs.Code.{OnPast}

pub record Reads {Y F : Type 0} (Is : Y → Type 0) (Has : F → Type 0) (read : Result Y F) : Type 0 where
  pub found : (y : Y) → read ≡ Ok y → Is y
  pub fault : (e : F) → read ≡ Err e → Has e

pub gives : {Y F : Type 0} {Is : Y → Type 0} {Has : F → Type 0} (v : Y) → Is v → Reads Is Has (Ok v)
gives {Is = Is} v h = record { found = λ y e. subst Is (ok_is v y e) h; fault = λ k e. absurd (not_both k v (sym e)) }

pub refuses : {Y F : Type 0} {Is : Y → Type 0} {Has : F → Type 0} (d : F) → Has d → Reads Is Has (Err d)
refuses {Y = Y} {Has = Has} d h = record { found = λ y e. absurd (not_both d y e); fault = λ k e. subst Has (err_is {A = Y} d k e) h }

pub by_test : {Y F : Type 0} {Is : Y → Type 0} {Has : F → Type 0} {b : Bool} {read other : Result Y F} → (b ≡ true → Reads Is Has read) → (b ≡ false → Reads Is Has other) → Reads Is Has (cond b read other)
by_test {b = true} f g = f refl
by_test {b = false} f g = g refl

pub then : {X Y F : Type 0} {Was : X → Type 0} {Is : Y → Type 0} {Has : F → Type 0} {read : Result X F} {f : X → Result Y F} → Reads Was Has read → ((x : X) → read ≡ Ok x → Was x → Reads Is Has (f x)) → Reads Is Has (read >>= f)
then {read = Ok x} d g = g x refl (d.found x refl)
then {Y = Y} {Has = Has} {read = Err k} d g = refuses k (d.fault k refl)

pub lifted : {Y F G : Type 0} {Is : Y → Type 0} {Has : G → Type 0} {read : Result Y F} (up : F → G) → Reads Is (λ e. Has (up e)) read → Reads Is Has (raise up read)
lifted {read = Ok x} up d = gives x (d.found x refl)
lifted {read = Err k} up d = refuses (up k) (d.fault k refl)

pub reads_more : {Y F : Type 0} {Is Was : Y → Type 0} {Has Had : F → Type 0} {read : Result Y F} → ((y : Y) → Was y → Is y) → ((e : F) → Had e → Has e) → Reads Was Had read → Reads Is Has read
reads_more to up d = record { found = λ y h. to y (d.found y h); fault = λ e h. up e (d.fault e h) }

pub both_known : {Y F : Type 0} {Is : Y → Type 0} {Has : F → Type 0} {read : Result Y F} → Founds Is read → Fails Has read → Reads Is Has read
both_known d g = record { found = d.found; fault = g.fault }

-- nothing is asked of what is read
pub any_read : {Y F : Type 0} {Has : F → Type 0} {read : Result Y F} → Fails Has read → Reads (λ y. Unit {0}) Has read
any_read g = record { found = λ y h. tt; fault = g.fault }

-- ---- what is said of a passed limit, and nothing of any other fault

abbrev pub OnLimit : (LimitFault → Type 0) → CodeFault → Type 0
OnLimit Says (code.Limit limit) = Says limit
OnLimit Says fault = Unit {0}

pub limit_more : (Says More : LimitFault → Type 0) → ((limit : LimitFault) → Says limit → More limit) → (fault : CodeFault) → OnLimit Says fault → OnLimit More fault
limit_more Says More to (code.Limit limit) h = to limit h
limit_more Says More to code.NoMemory h = tt
limit_more Says More to (code.Opcode unit) h = tt
limit_more Says More to (code.Cut unit) h = tt
limit_more Says More to (code.Target unit) h = tt
limit_more Says More to (code.Payload unit) h = tt
limit_more Says More to (code.Operand unit) h = tt
limit_more Says More to (code.Region place) h = tt
limit_more Says More to (code.Handler place) h = tt
limit_more Says More to (code.FallsOff unit) h = tt
limit_more Says More to (code.Misplaced unit) h = tt

pub past_more : (Says More : LimitFault → Type 0) → ((limit : LimitFault) → Says limit → More limit) → (fault : DexFault) → OnPast Says fault → OnPast More fault
past_more Says More to (dex.Limit limit) h = to limit h
past_more Says More to dex.NoMemory h = tt
past_more Says More to (dex.Short at) h = tt
past_more Says More to dex.Magic h = tt
past_more Says More to (dex.Header at) h = tt
past_more Says More to (dex.Checksum stored computed) h = tt
past_more Says More to (dex.Pool fault) h = tt
past_more Says More to (dex.Code method fault) h = tt
past_more Says More to (dex.Member class place) h = tt
past_more Says More to (dex.Root class) h = tt
past_more Says More to (dex.FrameSize method) h = tt
