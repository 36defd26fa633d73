-- Numbers of fixed width, as readings.
use Rattle.std.proofs.Common.{◌≡◌, ℕ, ◌+◌, ◌^◌, ◌<◌, ◌≤◌, List, ◌++◌, length, take, drop, Result, Ok, Err, leb, refl, sym, ap, ◌∙◌, append_assoc, arith}
use Rattle.std.specs.Int.{w16, w32, from_le_bytes, to_le_bytes}
use Rattle.std.proofs.lemmas.Bool.{leb-true, leb-false, le-leb, lt-leb}
use Rattle.std.proofs.lemmas.Nat.{from_le_bytes-to_le_bytes_2, from_le_bytes-to_le_bytes_4}
use Rattle.std.proofs.lemmas.List.{take_at, drop_at, length-append}
use Rattle.dex_base.specs.Word.{u16_at, u32_at, Is16, Is32, IsShort}
use Rattle.dex_base.specs.Decides.{Decides}
use Rattle.dex_base.specs.declared.fault.BaseFault.TheVariants.{Short}
use Rattle.dex_base.proofs.Decides.{same, guard}

pub is_16 : (bytes : List ℕ) (at : ℕ) → Decides (Is16 bytes at) (IsShort bytes at 2) (u16_at bytes at)
unfolding u16_at
is_16 bytes at = same (u16_at bytes at) (guard (leb (at + 2) (length bytes)) (from_le_bytes w16 (take 2 (drop at bytes))) (Short at))
    (λ y p. record { inside = leb-true _ _ p.0; spelled = p.1 }) (λ y p. (le-leb _ _ p.inside, p.spelled))
    (λ e p. (leb-false _ _ p.0, p.1)) (λ e p. (lt-leb _ _ p.0, p.1))

pub is_32 : (bytes : List ℕ) (at : ℕ) → Decides (Is32 bytes at) (IsShort bytes at 4) (u32_at bytes at)
unfolding u32_at
is_32 bytes at = same (u32_at bytes at) (guard (leb (at + 4) (length bytes)) (from_le_bytes w32 (take 4 (drop at bytes))) (Short at))
    (λ y p. record { inside = leb-true _ _ p.0; spelled = p.1 }) (λ y p. (le-leb _ _ p.inside, p.spelled))
    (λ e p. (leb-false _ _ p.0, p.1)) (λ e p. (lt-leb _ _ p.0, p.1))

pub again_16 : (front rest : List ℕ) (n : ℕ) → n < 2 ^ 16 → u16_at (front ++ to_le_bytes w16 n ++ rest) (length front) ≡ Ok n
again_16 front rest n fits =
    let here : drop (length front) (front ++ to_le_bytes w16 n ++ rest) ≡ to_le_bytes w16 n ++ rest = ap (drop (length front)) (append_assoc front (to_le_bytes w16 n) rest) ∙ drop_at front (to_le_bytes w16 n ++ rest) (length front) refl in
    (is_16 (front ++ to_le_bytes w16 n ++ rest) (length front)).again n (record {
      inside = omega (arith, length-append (front ++ to_le_bytes w16 n) rest, length-append front (to_le_bytes w16 n));
      spelled = sym (from_le_bytes-to_le_bytes_2 n fits) ∙ ap (from_le_bytes w16) (sym (ap (take 2) here ∙ take_at (to_le_bytes w16 n) rest 2 refl));
    })

pub again_32 : (front rest : List ℕ) (n : ℕ) → n < 2 ^ 32 → u32_at (front ++ to_le_bytes w32 n ++ rest) (length front) ≡ Ok n
again_32 front rest n fits =
    let here : drop (length front) (front ++ to_le_bytes w32 n ++ rest) ≡ to_le_bytes w32 n ++ rest = ap (drop (length front)) (append_assoc front (to_le_bytes w32 n) rest) ∙ drop_at front (to_le_bytes w32 n ++ rest) (length front) refl in
    (is_32 (front ++ to_le_bytes w32 n ++ rest) (length front)).again n (record {
      inside = omega (arith, length-append (front ++ to_le_bytes w32 n) rest, length-append front (to_le_bytes w32 n));
      spelled = sym (from_le_bytes-to_le_bytes_4 n fits) ∙ ap (from_le_bytes w32) (sym (ap (take 4) here ∙ take_at (to_le_bytes w32 n) rest 4 refl));
    })
