-- What is written spells its number, with no more bytes than it needs.
use Rattle.std.proofs.Common.{◌≡◌, Bool, true, false, ltb, leb, ℕ, zero, suc, ◌+◌, ◌-◌, ◌*◌, ◌/◌, ◌%◌, ◌^◌, ◌<◌, ◌≤◌, ◌⊎◌, inl, inr, List, [], ◌∷◌, ◌++◌, length, take, drop, Result, Ok, Err, refl, sym, ap, subst, ◌∙◌, append_assoc, arith}
use Rattle.std.specs.Prelude.{ℤ, FitsSigned, pos, negsuc, neg_ℤ, ◌+ℤ◌, ◌-ℤ◌, ◌*ℤ◌, nat_lt, if◌then◌else◌, ◌||◌}
use Rattle.std.proofs.lemmas.Bool.{cases_lt, lt-ltb, le-ltb, le-leb, lt-leb}
use Rattle.std.proofs.lemmas.List.{take_at, drop_at, length-append, length-drop}
use Rattle.std.specs.Int.{w32, cast_signed, cast_unsigned, int_wrap}
use Rattle.std.proofs.lemmas.Int.{ints, to_z_pos, to_z-of_z}
use Rattle.std.proofs.Math.Facts.{Fits-of_z}
use Rattle.dex_base.proofs.LebReading.{is_uleb, is_sleb}
use Rattle.dex_base.proofs.Signed.{IsBetween, seven_between, wraps_one, wraps_two, wraps_three, wraps_four, wraps_five}
use Rattle.dex_base.specs.Leb.{EndsLeb, IsLeb, IsLebAt, IsUlebAt, IsSlebAt, uleb_at, sleb_at, SpellsUleb, SpellsSleb, is_near, wide_signed, last_seven, last_four, sleb_value, sleb_text, bits_text, wide, uleb_value, uleb_text, more}

-- the shortest spelling, by the number of its bytes
data UlebText (n : ℕ) : Type 0 where
  In1 : n < 128 → uleb_text n ≡ n ∷ [] → UlebText n
  In2 : 128 ≤ n → n < 16384 → uleb_text n ≡ more n 0 ∷ (n / 2 ^ 7) ∷ [] → UlebText n
  In3 : 16384 ≤ n → n < 2097152 → uleb_text n ≡ more n 0 ∷ more n 7 ∷ (n / 2 ^ 14) ∷ [] → UlebText n
  In4 : 2097152 ≤ n → n < 268435456 → uleb_text n ≡ more n 0 ∷ more n 7 ∷ more n 14 ∷ (n / 2 ^ 21) ∷ [] → UlebText n
  In5 : 268435456 ≤ n → uleb_text n ≡ more n 0 ∷ more n 7 ∷ more n 14 ∷ more n 21 ∷ (n / 2 ^ 28) ∷ [] → UlebText n

uleb_cases : (n : ℕ) → UlebText n
unfolding uleb_text
uleb_cases n =
    elim (cases_lt n 128) [
      | inl a ↦ In1 a (rw (lt-ltb n 128 a) refl)
      | inr b ↦ elim (cases_lt n 16384) [
        | inl c ↦ In2 b c (rw (le-ltb n 128 b, lt-ltb n 16384 c) refl)
        | inr d ↦ elim (cases_lt n 2097152) [
          | inl e ↦ In3 d e (rw (le-ltb n 128 b, le-ltb n 16384 d, lt-ltb n 2097152 e) refl)
          | inr f ↦ elim (cases_lt n 268435456) [
            | inl g ↦ In4 f g (rw (le-ltb n 128 b, le-ltb n 16384 d, le-ltb n 2097152 f, lt-ltb n 268435456 g) refl)
            | inr h ↦ In5 h (rw (le-ltb n 128 b, le-ltb n 16384 d, le-ltb n 2097152 f, le-ltb n 268435456 h) refl)
          ]
        ]
      ]
    ]

spelled : (n : ℕ) (text : List ℕ) → uleb_text n ≡ text → length text ≤ 5 → EndsLeb text → n ≡ uleb_value text → SpellsUleb (uleb_text n) n
spelled n text e few ends value = subst (λ (xs : List ℕ). SpellsUleb xs n) (sym e) (record { is = record { few = few; ends = ends }; value = value })

pub uleb_spelled : (n : ℕ) → n < 2 ^ 32 → SpellsUleb (uleb_text n) n
uleb_spelled n fits =
    elim (uleb_cases n) [
      | In1 a e ↦ spelled n _ e (omega arith) a (omega arith)
      | In2 a b e ↦ spelled n _ e (omega arith) (omega arith, omega arith) (omega arith)
      | In3 a b e ↦ spelled n _ e (omega arith) (omega arith, (omega arith, omega arith)) (omega arith)
      | In4 a b e ↦ spelled n _ e (omega arith) (omega arith, (omega arith, (omega arith, omega arith))) (omega arith)
      | In5 a e ↦ spelled n _ e (omega arith) (omega arith, (omega arith, (omega arith, (omega arith, omega arith)))) (omega arith)
    ]

pub uleb_shortest : (n : ℕ) (other : List ℕ) → SpellsUleb other n → length (uleb_text n) ≤ length other
uleb_shortest n other s =
    elim (uleb_cases n) [
      | In1 a e ↦ omega (arith, ap length e, one other s)
      | In2 a b e ↦ omega (arith, ap length e, two other s)
      | In3 a b e ↦ omega (arith, ap length e, three other s)
      | In4 a b e ↦ omega (arith, ap length e, four other s)
      | In5 a e ↦ omega (arith, ap length e, five other s)
    ]
  where
    one : (other : List ℕ) → SpellsUleb other n → 1 ≤ length other
    one [] s = absurd s.is.ends
    one (a ∷ xs) s = omega arith

    two : (other : List ℕ) → SpellsUleb other n → 128 ≤ n → 2 ≤ length other
    two [] s least = absurd s.is.ends
    two (a ∷ []) s least = absurd (omega (arith, s.value))
    two (a ∷ b ∷ xs) s least = omega arith

    three : (other : List ℕ) → SpellsUleb other n → 16384 ≤ n → 3 ≤ length other
    three [] s least = absurd s.is.ends
    three (a ∷ []) s least = absurd (omega (arith, s.value))
    three (a ∷ b ∷ []) s least = absurd (omega (arith, s.value))
    three (a ∷ b ∷ c ∷ xs) s least = omega arith

    four : (other : List ℕ) → SpellsUleb other n → 2097152 ≤ n → 4 ≤ length other
    four [] s least = absurd s.is.ends
    four (a ∷ []) s least = absurd (omega (arith, s.value))
    four (a ∷ b ∷ []) s least = absurd (omega (arith, s.value))
    four (a ∷ b ∷ c ∷ []) s least = absurd (omega (arith, s.value))
    four (a ∷ b ∷ c ∷ d ∷ xs) s least = omega arith

    five : (other : List ℕ) → SpellsUleb other n → 268435456 ≤ n → 5 ≤ length other
    five [] s least = absurd s.is.ends
    five (a ∷ []) s least = absurd (omega (arith, s.value))
    five (a ∷ b ∷ []) s least = absurd (omega (arith, s.value))
    five (a ∷ b ∷ c ∷ []) s least = absurd (omega (arith, s.value))
    five (a ∷ b ∷ c ∷ d ∷ []) s least = absurd (omega (arith, s.value))
    five (a ∷ b ∷ c ∷ d ∷ e ∷ xs) s least = omega arith

-- ---- signed

abbrev IsNear : ℕ → ℕ → Type 0
IsNear bound n = (n < bound) ⊎ (4294967296 - bound ≤ n)

record IsFar (bound n : ℕ) : Type 0 where
  pub least : bound ≤ n
  pub most : n < 4294967296 - bound

near_cases : (bound n : ℕ) → IsNear bound n ⊎ IsFar bound n
near_cases bound n =
    elim (cases_lt n bound) [
      | inl lt ↦ inl (inl lt)
      | inr ge ↦ elim (cases_lt n (4294967296 - bound)) [ inl lt ↦ inr (record { least = ge; most = lt }) | inr le ↦ inl (inr le) ]
    ]

or-true : (b : Bool) → (b || true) ≡ true
or-true true = refl
or-true false = refl

near_yes : (bound n : ℕ) → IsNear bound n → is_near bound n ≡ true
near_yes bound n (inl lt) = rw (lt-ltb n bound lt) refl
near_yes bound n (inr le) = rw (le-leb (4294967296 - bound) n le) (or-true (ltb n bound))

near_no : (bound n : ℕ) → IsFar bound n → is_near bound n ≡ false
near_no bound n far = rw (le-ltb n bound far.least, lt-leb (4294967296 - bound) n far.most) refl

-- the shortest signed spelling, by the number of its bytes
data BitsText (n : ℕ) : Type 0 where
  Bits1 : IsNear 64 n → bits_text n ≡ (n % 128) ∷ [] → BitsText n
  Bits2 : IsFar 64 n → IsNear 8192 n → bits_text n ≡ more n 0 ∷ (n / 2 ^ 7 % 128) ∷ [] → BitsText n
  Bits3 : IsFar 8192 n → IsNear 1048576 n → bits_text n ≡ more n 0 ∷ more n 7 ∷ (n / 2 ^ 14 % 128) ∷ [] → BitsText n
  Bits4 : IsFar 1048576 n → IsNear 134217728 n → bits_text n ≡ more n 0 ∷ more n 7 ∷ more n 14 ∷ (n / 2 ^ 21 % 128) ∷ [] → BitsText n
  Bits5 : IsFar 134217728 n → bits_text n ≡ more n 0 ∷ more n 7 ∷ more n 14 ∷ more n 21 ∷ (n / 2 ^ 28 + (if nat_lt n (2 ^ 31) then 0 else 112)) ∷ [] → BitsText n

bits_cases : (n : ℕ) → BitsText n
unfolding bits_text
bits_cases n =
    elim (near_cases 64 n) [
      | inl a ↦ Bits1 a (rw (near_yes 64 n a) refl)
      | inr b ↦ elim (near_cases 8192 n) [
        | inl c ↦ Bits2 b c (rw (near_no 64 n b, near_yes 8192 n c) refl)
        | inr d ↦ elim (near_cases 1048576 n) [
          | inl e ↦ Bits3 d e (rw (near_no 64 n b, near_no 8192 n d, near_yes 1048576 n e) refl)
          | inr f ↦ elim (near_cases 134217728 n) [
            | inl g ↦ Bits4 f g (rw (near_no 64 n b, near_no 8192 n d, near_no 1048576 n f, near_yes 134217728 n g) refl)
            | inr h ↦ Bits5 h (rw (near_no 64 n b, near_no 8192 n d, near_no 1048576 n f, near_no 134217728 n h) refl)
          ]
        ]
      ]
    ]

seven_low : (b : ℕ) → b < 64 → last_seven b ≡ pos b
unfolding last_seven
seven_low b lt = rw (lt-ltb b 64 lt) refl

seven_high : (b : ℕ) → 64 ≤ b → last_seven b ≡ pos b -ℤ pos 128
unfolding last_seven
seven_high b ge = rw (le-ltb b 64 ge) refl

signed_low : (n : ℕ) → n < 2147483648 → cast_signed w32 n ≡ pos n
signed_low n lt = to_z_pos w32 n lt

signed_high : (n : ℕ) → 2147483648 ≤ n → n < 4294967296 → cast_signed w32 n ≡ pos n -ℤ pos 4294967296
signed_high n ge lt =
    let e : cast_signed w32 n ≡ negsuc (4294967296 - suc n) = rw (le-ltb n 2147483648 ge) refl in
    omega (arith, ints, e)

bits_one : (n : ℕ) → n < 2 ^ 32 → IsNear 64 n → cast_signed w32 n ≡ last_seven (n % 128)
bits_one n fits (inl lt) = omega (arith, ints, signed_low n (omega arith), seven_low (n % 128) (omega arith))
bits_one n fits (inr le) = omega (arith, ints, signed_high n (omega arith) fits, seven_high (n % 128) (omega arith))

bits_two : (n : ℕ) → n < 2 ^ 32 → IsNear 8192 n → cast_signed w32 n ≡ pos (more n 0 % 128) +ℤ pos 128 *ℤ last_seven (n / 2 ^ 7 % 128)
bits_two n fits (inl lt) = omega (arith, ints, signed_low n (omega arith), seven_low (n / 2 ^ 7 % 128) (omega arith))
bits_two n fits (inr le) = omega (arith, ints, signed_high n (omega arith) fits, seven_high (n / 2 ^ 7 % 128) (omega arith))

bits_three : (n : ℕ) → n < 2 ^ 32 → IsNear 1048576 n → cast_signed w32 n ≡ pos (more n 0 % 128) +ℤ pos 128 *ℤ (pos (more n 7 % 128) +ℤ pos 128 *ℤ last_seven (n / 2 ^ 14 % 128))
bits_three n fits (inl lt) = omega (arith, ints, signed_low n (omega arith), seven_low (n / 2 ^ 14 % 128) (omega arith))
bits_three n fits (inr le) = omega (arith, ints, signed_high n (omega arith) fits, seven_high (n / 2 ^ 14 % 128) (omega arith))

bits_four : (n : ℕ) → n < 2 ^ 32 → IsNear 134217728 n
    → cast_signed w32 n ≡ pos (more n 0 % 128) +ℤ pos 128 *ℤ (pos (more n 7 % 128) +ℤ pos 128 *ℤ (pos (more n 14 % 128) +ℤ pos 128 *ℤ last_seven (n / 2 ^ 21 % 128)))
bits_four n fits (inl lt) = omega (arith, ints, signed_low n (omega arith), seven_low (n / 2 ^ 21 % 128) (omega arith))
bits_four n fits (inr le) = omega (arith, ints, signed_high n (omega arith) fits, seven_high (n / 2 ^ 21 % 128) (omega arith))

four_low : (b : ℕ) → b % 16 < 8 → last_four b ≡ pos (b % 16)
unfolding last_four
four_low b lt = rw (lt-ltb (b % 16) 8 lt) refl

four_high : (b : ℕ) → 8 ≤ b % 16 → last_four b ≡ pos (b % 16) -ℤ pos 16
unfolding last_four
four_high b ge = rw (le-ltb (b % 16) 8 ge) refl

abbrev top : ℕ → ℕ
top n = n / 2 ^ 28 + (if nat_lt n 2147483648 then 0 else 112)

top_low : (n : ℕ) → n < 2147483648 → top n ≡ n / 268435456
top_low n lt = rw (lt-ltb n 2147483648 lt) (omega arith)

top_high : (n : ℕ) → 2147483648 ≤ n → top n ≡ n / 268435456 + 112
top_high n ge = rw (le-ltb n 2147483648 ge) refl

top_below : (n : ℕ) → n < 4294967296 → top n < 128
top_below n fits = elim (cases_lt n 2147483648) [ inl lt ↦ omega (arith, top_low n lt) | inr ge ↦ omega (arith, top_high n ge) ]

bits_five : (n : ℕ) → n < 2 ^ 32
    → cast_signed w32 n ≡ pos (more n 0 % 128) +ℤ pos 128 *ℤ (pos (more n 7 % 128) +ℤ pos 128 *ℤ (pos (more n 14 % 128) +ℤ pos 128 *ℤ (pos (more n 21 % 128) +ℤ pos 128 *ℤ last_four (top n))))
bits_five n fits =
    elim (cases_lt n 2147483648) [
      | inl lt ↦ let t = top_low n lt in omega (arith, ints, signed_low n lt, four_low (top n) (omega (arith, t)), t)
      | inr ge ↦ let t = top_high n ge in omega (arith, ints, signed_high n ge fits, four_high (top n) (omega (arith, t)), t)
    ]

signs : (n : ℕ) (text : List ℕ) → bits_text n ≡ text → length text ≤ 5 → EndsLeb text → cast_signed w32 n ≡ sleb_value text → SpellsSleb (bits_text n) (cast_signed w32 n)
signs n text e few ends value = subst (λ (xs : List ℕ). SpellsSleb xs (cast_signed w32 n)) (sym e) (record { is = record { few = few; ends = ends }; value = value })

pub bits_spelled : (n : ℕ) → n < 2 ^ 32 → SpellsSleb (bits_text n) (cast_signed w32 n)
bits_spelled n fits =
    elim (bits_cases n) [
      | Bits1 a e ↦ signs n _ e (omega arith) (omega arith) (bits_one n fits a ∙ sym (wraps_one (n % 128) (omega arith)))
      | Bits2 _ a e ↦ signs n _ e (omega arith) (omega arith, omega arith) (bits_two n fits a ∙ sym (wraps_two (more n 0) (n / 2 ^ 7 % 128) (omega arith)))
      | Bits3 _ a e ↦ signs n _ e (omega arith) (omega arith, (omega arith, omega arith)) (bits_three n fits a ∙ sym (wraps_three (more n 0) (more n 7) (n / 2 ^ 14 % 128) (omega arith)))
      | Bits4 _ a e ↦ signs n _ e (omega arith) (omega arith, (omega arith, (omega arith, omega arith))) (bits_four n fits a ∙ sym (wraps_four (more n 0) (more n 7) (more n 14) (n / 2 ^ 21 % 128) (omega arith)))
      | Bits5 _ e ↦ signs n _ e (omega arith) (omega arith, (omega arith, (omega arith, (omega arith, top_below n fits))))
          (bits_five n fits ∙ sym (wraps_five (more n 0) (more n 7) (more n 14) (more n 21) (top n) (top_below n fits)))
    ]

-- a spelling of so many bytes is near
near_bound : (bound n : ℕ) (z : ℤ) → 0 < bound → bound ≤ 2147483648 → n < 4294967296 → cast_signed w32 n ≡ z → IsBetween (neg_ℤ (pos bound)) (pos bound) z → IsFar bound n → ⊥
near_bound bound n z some small fits e between far =
    elim (cases_lt n 2147483648) [
      | inl lt ↦ omega (arith, ints, signed_low n lt, e, between.above, between.below, far.least, far.most)
      | inr ge ↦ omega (arith, ints, signed_high n ge fits, e, between.above, between.below, far.least, far.most)
    ]

one_between : (a : ℕ) → a < 128 → IsBetween (neg_ℤ (pos 64)) (pos 64) (sleb_value (a ∷ []))
one_between a lt = let h = seven_between a lt in rw (wraps_one a lt) (record { above = h.above; below = h.below })

two_between : (a b : ℕ) → b < 128 → IsBetween (neg_ℤ (pos 8192)) (pos 8192) (sleb_value (a ∷ b ∷ []))
two_between a b lt = let h = seven_between b lt in rw (wraps_two a b lt) (record { above = omega (arith, ints, h.above, h.below); below = omega (arith, ints, h.above, h.below) })

three_between : (a b c : ℕ) → c < 128 → IsBetween (neg_ℤ (pos 1048576)) (pos 1048576) (sleb_value (a ∷ b ∷ c ∷ []))
three_between a b c lt = let h = seven_between c lt in rw (wraps_three a b c lt) (record { above = omega (arith, ints, h.above, h.below); below = omega (arith, ints, h.above, h.below) })

four_between' : (a b c d : ℕ) → d < 128 → IsBetween (neg_ℤ (pos 134217728)) (pos 134217728) (sleb_value (a ∷ b ∷ c ∷ d ∷ []))
four_between' a b c d lt = let h = seven_between d lt in rw (wraps_four a b c d lt) (record { above = omega (arith, ints, h.above, h.below); below = omega (arith, ints, h.above, h.below) })

far_one : (n : ℕ) (other : List ℕ) → n < 4294967296 → SpellsSleb other (cast_signed w32 n) → 1 ≤ length other
far_one n [] fits s = absurd s.is.ends
far_one n (a ∷ xs) fits s = omega arith

far_two : (n : ℕ) (other : List ℕ) → n < 4294967296 → SpellsSleb other (cast_signed w32 n) → IsFar 64 n → 2 ≤ length other
far_two n [] fits s far = absurd s.is.ends
far_two n (a ∷ []) fits s far = absurd (near_bound 64 n _ (omega arith) (omega arith) fits s.value (one_between a s.is.ends) far)
far_two n (a ∷ b ∷ xs) fits s far = omega arith

far_three : (n : ℕ) (other : List ℕ) → n < 4294967296 → SpellsSleb other (cast_signed w32 n) → IsFar 8192 n → 3 ≤ length other
far_three n [] fits s far = absurd s.is.ends
far_three n (a ∷ []) fits s far = absurd (near_bound 64 n _ (omega arith) (omega arith) fits s.value (one_between a s.is.ends) (record { least = omega (arith, far.least); most = omega (arith, far.most) }))
far_three n (a ∷ b ∷ []) fits s far = absurd (near_bound 8192 n _ (omega arith) (omega arith) fits s.value (two_between a b s.is.ends.1) far)
far_three n (a ∷ b ∷ c ∷ xs) fits s far = omega arith

far_four : (n : ℕ) (other : List ℕ) → n < 4294967296 → SpellsSleb other (cast_signed w32 n) → IsFar 1048576 n → 4 ≤ length other
far_four n [] fits s far = absurd s.is.ends
far_four n (a ∷ []) fits s far = absurd (near_bound 64 n _ (omega arith) (omega arith) fits s.value (one_between a s.is.ends) (record { least = omega (arith, far.least); most = omega (arith, far.most) }))
far_four n (a ∷ b ∷ []) fits s far = absurd (near_bound 8192 n _ (omega arith) (omega arith) fits s.value (two_between a b s.is.ends.1) (record { least = omega (arith, far.least); most = omega (arith, far.most) }))
far_four n (a ∷ b ∷ c ∷ []) fits s far = absurd (near_bound 1048576 n _ (omega arith) (omega arith) fits s.value (three_between a b c s.is.ends.1.1) far)
far_four n (a ∷ b ∷ c ∷ d ∷ xs) fits s far = omega arith

far_five : (n : ℕ) (other : List ℕ) → n < 4294967296 → SpellsSleb other (cast_signed w32 n) → IsFar 134217728 n → 5 ≤ length other
far_five n [] fits s far = absurd s.is.ends
far_five n (a ∷ []) fits s far = absurd (near_bound 64 n _ (omega arith) (omega arith) fits s.value (one_between a s.is.ends) (record { least = omega (arith, far.least); most = omega (arith, far.most) }))
far_five n (a ∷ b ∷ []) fits s far = absurd (near_bound 8192 n _ (omega arith) (omega arith) fits s.value (two_between a b s.is.ends.1) (record { least = omega (arith, far.least); most = omega (arith, far.most) }))
far_five n (a ∷ b ∷ c ∷ []) fits s far = absurd (near_bound 1048576 n _ (omega arith) (omega arith) fits s.value (three_between a b c s.is.ends.1.1) (record { least = omega (arith, far.least); most = omega (arith, far.most) }))
far_five n (a ∷ b ∷ c ∷ d ∷ []) fits s far = absurd (near_bound 134217728 n _ (omega arith) (omega arith) fits s.value (four_between' a b c d s.is.ends.1.1.1) far)
far_five n (a ∷ b ∷ c ∷ d ∷ e ∷ xs) fits s far = omega arith

pub bits_shortest : (n : ℕ) (other : List ℕ) → n < 2 ^ 32 → SpellsSleb other (cast_signed w32 n) → length (bits_text n) ≤ length other
bits_shortest n other fits s =
    elim (bits_cases n) [
      | Bits1 _ e ↦ omega (arith, ap length e, far_one n other fits s)
      | Bits2 far _ e ↦ omega (arith, ap length e, far_two n other fits s far)
      | Bits3 far _ e ↦ omega (arith, ap length e, far_three n other fits s far)
      | Bits4 far _ e ↦ omega (arith, ap length e, far_four n other fits s far)
      | Bits5 far e ↦ omega (arith, ap length e, far_five n other fits s far)
    ]

pub sleb_spelled : (z : ℤ) → FitsSigned w32 z → SpellsSleb (sleb_text z) z
sleb_spelled z fits = subst (SpellsSleb (sleb_text z)) (to_z-of_z w32 z fits) (bits_spelled (cast_unsigned w32 z) (Fits-of_z fits).fits)

pub sleb_shortest : (z : ℤ) (other : List ℕ) → FitsSigned w32 z → SpellsSleb other z → length (sleb_text z) ≤ length other
sleb_shortest z other fits s = bits_shortest (cast_unsigned w32 z) other (Fits-of_z fits).fits (subst (SpellsSleb other) (sym (to_z-of_z w32 z fits)) s)

-- ---- what was written is read again, whatever follows it

placed : (front text rest : List ℕ) → IsLeb text → IsLebAt (front ++ text ++ rest) (length front) text
placed front text rest is =
    let here : drop (length front) (front ++ text ++ rest) ≡ text ++ rest = ap (drop (length front)) (append_assoc front text rest) ∙ drop_at front (text ++ rest) (length front) refl in
    record {
      is = is;
      inside = omega (arith, length-append (front ++ text) rest, length-append front text);
      here = ap (take (length text)) here ∙ take_at text rest (length text) refl;
    }

abbrev to_place : {A : Type 0} → A → ℕ → A × ℕ
to_place n place = (n, place)

pub uleb_again : (front text rest : List ℕ) (n : ℕ) → SpellsUleb text n → uleb_at (front ++ text ++ rest) (length front) ≡ Ok (to_place n (length front + length text))
uleb_again front text rest n s =
    (is_uleb (front ++ text ++ rest) (length front)).again (n, length front + length text) (record { text = text; stands = placed front text rest s.is; value = s.value; behind = refl })

pub sleb_again : (front text rest : List ℕ) (z : ℤ) → SpellsSleb text z → sleb_at (front ++ text ++ rest) (length front) ≡ Ok (to_place z (length front + length text))
sleb_again front text rest z s =
    (is_sleb (front ++ text ++ rest) (length front)).again (z, length front + length text) (record { text = text; stands = placed front text rest s.is; value = s.value; behind = refl })
