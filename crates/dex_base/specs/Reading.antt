-- What a reader gives, and readings put together.
use Rattle.std.specs.Prelude.{◌≡◌, Bool, true, false, ℕ, zero, suc, List, [], ◌∷◌, Result, Ok, Err}
use Rattle.dex_base.specs.declared.fault.BaseFault.{BaseFault}
use Rattle.dex_base.specs.declared.fault.BaseFault.TheVariants.{NoMemory, Short, LongLeb, BadText, BadDescriptor}

-- one reading behind another
infixl 10 ◌>>=◌
abbrev pub ◌>>=◌ : {A B F : Type 0} → Result A F → (A → Result B F) → Result B F
(Ok x) >>= f = f x
(Err e) >>= f = Err e

-- the same reading with its fault in the words of a layer above
abbrev pub raise : {A F G : Type 0} → (F → G) → Result A F → Result A G
raise up (Ok x) = Ok x
raise up (Err e) = Err (up e)

-- the fault is that of the reading, unless it is free, as want of memory is
abbrev pub FailsIf : {Y F : Type 0} → Bool → F → Result Y F → Type 0
FailsIf true e read = Unit {0}
FailsIf false e read = read ≡ Err e

-- What a function returned, seen by view, is what reading gives, unless its fault is free.
abbrev pub Gives : {X Y F : Type 0} → (F → Bool) → (X → Y) → Result X F → Result Y F → Type 0
Gives free view (Ok x) read = read ≡ Ok (view x)
Gives free view (Err e) read = FailsIf (free e) e read

-- want of memory
abbrev pub is_no_memory : BaseFault → Bool
is_no_memory NoMemory = true
is_no_memory (Short at) = false
is_no_memory (LongLeb at) = false
is_no_memory (BadText at) = false
is_no_memory (BadDescriptor at) = false

-- the entries from this one on, so many
abbrev pub each : {X F : Type 0} → (ℕ → Result X F) → ℕ → ℕ → Result (List X) F
each f from zero = Ok []
each f from (suc n) = f from >>= λ x. each f (suc from) n >>= λ xs. Ok (x ∷ xs)

-- so many items one behind another, each of which says where it ends, and the place behind the last
abbrev pub chain : {X F : Type 0} → (ℕ → Result (X × ℕ) F) → ℕ → ℕ → Result (List X × ℕ) F
chain f zero at = Ok ([], at)
chain f (suc n) at = f at >>= λ x. chain f n x.1 >>= λ xs. Ok (x.0 ∷ xs.0, xs.1)
