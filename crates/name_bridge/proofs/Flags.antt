-- Flags by the bits of a number and by their remainders.
use Rattle.std.proofs.Common.{◌≡◌, ℕ, zero, suc, ◌*◌, ◌<◌, false, true≢false, nat_eq, sym, arith, eqb-true, eq-eqb}
use Rattle.std.specs.Prelude.{◌==◌}
use Rattle.std.specs.Int.RustNames.{bit_and}
use Rattle.std.specs.Int.{bit_at}
use Rattle.std.proofs.lemmas.Nat.Bits.{and_pow, bit_at-lt}
use Rattle.program_model.specs.declared.flags.Flags.{Flags}
use Rattle.program_model.specs.MemberRules.{has_flag}
use Rattle.dalvik_defs.specs.Flags as remainder
use Rattle.name_bridge.proofs.Lists.{same_test}

test : (x m b : ℕ) → x ≡ b * m → 0 < m → b < 2 → (x == m) ≡ nat_eq b 1
test x m zero e pos lt = same_test (x == m) false (λ h. absurd (let k = eqb-true x m h in omega (arith, k))) (λ h. absurd (true≢false (sym h)))
test x m (suc zero) e pos lt = eq-eqb x m (omega (arith, e))
test x m (suc (suc b)) e pos lt = absurd (omega arith)

pub private_flag : (f : Flags) → has_flag f 2 ≡ remainder.is_private f.0
private_flag f = test (bit_and f.0 2) 2 (bit_at f.0 1) (and_pow f.0 1) (omega arith) (bit_at-lt f.0 1)

pub static_flag : (f : Flags) → has_flag f 8 ≡ remainder.is_static f.0
static_flag f = test (bit_and f.0 8) 8 (bit_at f.0 3) (and_pow f.0 3) (omega arith) (bit_at-lt f.0 3)

pub native_flag : (f : Flags) → has_flag f 256 ≡ remainder.is_native f.0
native_flag f = test (bit_and f.0 256) 256 (bit_at f.0 8) (and_pow f.0 8) (omega arith) (bit_at-lt f.0 8)

pub interface_flag : (f : Flags) → has_flag f 512 ≡ remainder.is_interface f.0
interface_flag f = test (bit_and f.0 512) 512 (bit_at f.0 9) (and_pow f.0 9) (omega arith) (bit_at-lt f.0 9)

pub abstract_flag : (f : Flags) → has_flag f 1024 ≡ remainder.is_abstract f.0
abstract_flag f = test (bit_and f.0 1024) 1024 (bit_at f.0 10) (and_pow f.0 10) (omega arith) (bit_at-lt f.0 10)
