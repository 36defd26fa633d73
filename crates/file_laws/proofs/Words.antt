-- Readings of numbers with the faults of the whole file, and how readings are put together.
use Rattle.std.proofs.Common.{◌≡◌, ℕ, ◌+◌, ◌≤◌, Bool, true, cond, leb, List, length, Result, Ok, Err, refl}
use Rattle.std.proofs.lemmas.Bool.{leb-true, le-leb}
use Rattle.dex_base.specs.Reading.{◌>>=◌}
use Rattle.dex_base.specs.Word.{Is16, Is32, u16_at, u32_at}
use Rattle.dex_base.specs.Leb.{IsUlebAt, uleb_at}
use Rattle.dex_base.proofs.Words.{is_16, is_32}
use Rattle.dex_base.proofs.LebReading.{is_uleb}
use Rattle.dex_pools.specs.Finds.{Finds}
use Rattle.dex_pools.proofs.Finding.{finds, same, guard, then, raised}
use Rattle.dex_read.specs.declared.fault.DexFault.TheVariants as fault
use Rattle.dex_read.specs.Faults.{of_base}
use Rattle.dex_read.specs.Header.{need_at}
use Rattle.dex_read.specs.Word.{half_at, word_at, number_at}

pub finds_word : (bytes : List ℕ) (at : ℕ) → Finds (Is32 bytes at) (word_at bytes at)
finds_word bytes at = raised of_base (u32_at bytes at) (finds (u32_at bytes at) (is_32 bytes at))

pub finds_half : (bytes : List ℕ) (at : ℕ) → Finds (Is16 bytes at) (half_at bytes at)
finds_half bytes at = raised of_base (u16_at bytes at) (finds (u16_at bytes at) (is_16 bytes at))

pub finds_number : (bytes : List ℕ) (at : ℕ) → Finds (IsUlebAt bytes at) (number_at bytes at)
finds_number bytes at = raised of_base (uleb_at bytes at) (finds (uleb_at bytes at) (is_uleb bytes at))

abbrev unit : Unit {0}
unit = tt

-- a test of something that is proved both ways
pub tested : {F : Type 0} {Is : Type 0} (b : Bool) (e : F) → (b ≡ true → Is) → (Is → b ≡ true) → Finds (λ u. Is) (cond b (Ok unit) (Err e))
tested {Is = Is} b e to from = same (cond b (Ok unit) (Err e)) (guard b unit e) (λ y p. to p.0) (λ y p. (from p, refl))

pub finds_need : (bytes : List ℕ) (at count : ℕ) → Finds (λ u. at + count ≤ length bytes) (need_at bytes at count)
unfolding need_at
finds_need bytes at count = tested (leb (at + count) (length bytes)) (fault.Short at) (leb-true _ _) (le-leb _ _)

-- one reading behind another
pub step : {X Y F : Type 0} {Is : X → Type 0} {Is' : X → Y → Type 0} {read : Result X F} {f : X → Result Y F} → Finds Is read → ((x : X) → Is x → Finds (Is' x) (f x))
    → Finds (λ y. (x : X) × Is x × Is' x y) (read >>= f)
step {read = read} {f = f} d g = then read f d g
