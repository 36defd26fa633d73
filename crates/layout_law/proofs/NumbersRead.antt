-- Numbers in LEB128 that stand in a file: one stands at a place, and no spelling of it is shorter than the shortest.
use Rattle.std.proofs.Common.{◌≡◌, ℕ, ◌+◌, ◌<◌, ◌≤◌, List, length, sym, ◌∙◌, subst, arith}
use Rattle.std.specs.Prelude.{ℤ, FitsSigned}
use Rattle.std.specs.Int.{w32}
use Rattle.std.proofs.lemmas.Int.{SFits-int_wrap}
use Rattle.dex_base.specs.declared.fault.BaseFault.{BaseFault}
use Rattle.dex_base.specs.Leb.{IsUlebAt, IsSlebAt, wide_signed, sleb_value, uleb_text, sleb_text}
use Rattle.dex_base.proofs.Decides.{ok_is}
use Rattle.dex_base.proofs.LebReading.{some_byte, is_uleb, is_sleb}
use Rattle.dex_base.proofs.Written.{uleb_shortest, sleb_shortest}

pub uleb_one : (bytes : List ℕ) (at : ℕ) (r s : ℕ × ℕ) → IsUlebAt bytes at r → IsUlebAt bytes at s → r ≡ s
uleb_one bytes at r s h k = ok_is {F = BaseFault} r s (sym ((is_uleb bytes at).again r h) ∙ (is_uleb bytes at).again s k)

pub sleb_one : (bytes : List ℕ) (at : ℕ) (r s : ℤ × ℕ) → IsSlebAt bytes at r → IsSlebAt bytes at s → r ≡ s
sleb_one bytes at r s h k = ok_is {F = BaseFault} r s (sym ((is_sleb bytes at).again r h) ∙ (is_sleb bytes at).again s k)

pub uleb_rises : (bytes : List ℕ) (at : ℕ) (r : ℕ × ℕ) → IsUlebAt bytes at r → at ≤ r.1
uleb_rises bytes at r h = omega (arith, h.behind)

pub sleb_rises : (bytes : List ℕ) (at : ℕ) (r : ℤ × ℕ) → IsSlebAt bytes at r → at < r.1
sleb_rises bytes at r h = omega (arith, h.behind, some_byte h.text h.stands.is.ends)

pub uleb_room : (bytes : List ℕ) (at : ℕ) (r : ℕ × ℕ) → IsUlebAt bytes at r → at + length (uleb_text r.0) ≤ r.1
uleb_room bytes at r h = omega (arith, h.behind, uleb_shortest r.0 h.text (record { is = h.stands.is; value = h.value }))

pub sleb_room : (bytes : List ℕ) (at : ℕ) (r : ℤ × ℕ) → IsSlebAt bytes at r → at + length (sleb_text r.0) ≤ r.1
sleb_room bytes at r h =
    let fits : FitsSigned w32 r.0 = subst (FitsSigned w32) (sym h.value) (SFits-int_wrap w32 (wide_signed h.text)) in
    omega (arith, h.behind, sleb_shortest r.0 h.text fits (record { is = h.stands.is; value = h.value }))
