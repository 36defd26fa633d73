-- Numbers in LEB128 as they are written: one behind another, they can be read back, and a lower one is no longer.
use Rattle.std.proofs.Common.{◌≡◌, inl, inr, ℕ, zero, suc, ◌+◌, ◌-◌, ◌*◌, ◌/◌, ◌%◌, ◌^◌, ◌<◌, ◌≤◌, Bool, true, false, List, [], ◌∷◌, ◌++◌, length, refl, sym, ap, ◌∙◌, subst, arith}
use Rattle.std.specs.Prelude.{nat_lt, if◌then◌else◌}
use Rattle.std.proofs.lemmas.Bool.{cases_lt, lt-ltb, le-ltb}
use Rattle.dex_base.specs.Leb.{uleb_text, bits_text, is_near, more}

-- The bytes of one number: all but the last have the top bit set, and the last hasn't where fewer than so many stand before it.
abbrev pub IsOne : ℕ → List ℕ → Type 0
IsOne k [] = ⊥
IsOne zero (b ∷ []) = Unit {0}
IsOne zero (b ∷ c ∷ bs) = ⊥
IsOne (suc k) (b ∷ []) = b < 128
IsOne (suc k) (b ∷ c ∷ bs) = (128 ≤ b) × IsOne k (c ∷ bs)

head_is : (a b : ℕ) (xs ys : List ℕ) → a ∷ xs ≡ b ∷ ys → a ≡ b
head_is a b xs ys e = cc

tail_is : (a b : ℕ) (xs ys : List ℕ) → a ∷ xs ≡ b ∷ ys → xs ≡ ys
tail_is a b xs ys e = cc

-- where two begin alike, they are the same, and so is what stands behind them
pub split_one : (k : ℕ) (s t xs ys : List ℕ) → IsOne k s → IsOne k t → s ++ xs ≡ t ++ ys → (s ≡ t) × (xs ≡ ys)
split_one k [] t xs ys o p e = absurd o
split_one k (a ∷ s) [] xs ys o p e = absurd p
split_one zero (a ∷ []) (b ∷ []) xs ys o p e = (ap (λ c. c ∷ []) (head_is a b xs ys e), tail_is a b xs ys e)
split_one zero (a ∷ []) (b ∷ d ∷ t) xs ys o p e = absurd p
split_one zero (a ∷ c ∷ s) (b ∷ t) xs ys o p e = absurd o
split_one (suc k) (a ∷ []) (b ∷ []) xs ys o p e = (ap (λ c. c ∷ []) (head_is a b xs ys e), tail_is a b xs ys e)
split_one (suc k) (a ∷ []) (b ∷ d ∷ t) xs ys o p e = absurd (omega (arith, o, p.0, head_is a b xs ((d ∷ t) ++ ys) e))
split_one (suc k) (a ∷ c ∷ s) (b ∷ []) xs ys o p e = absurd (omega (arith, o.0, p, head_is a b ((c ∷ s) ++ xs) ys e))
split_one (suc k) (a ∷ c ∷ s) (b ∷ d ∷ t) xs ys o p e =
    let r = split_one k (c ∷ s) (d ∷ t) xs ys o.1 p.1 (tail_is a b ((c ∷ s) ++ xs) ((d ∷ t) ++ ys) e) in
    (ap (λ h. h ∷ c ∷ s) (head_is a b ((c ∷ s) ++ xs) ((d ∷ t) ++ ys) e) ∙ ap (λ h. b ∷ h) r.0, r.1)

-- ---- unsigned

-- the shortest spelling, by the number of its bytes
data Spelled (n : ℕ) : Type 0 where
  In1 : n < 128 → uleb_text n ≡ n ∷ [] → Spelled n
  In2 : 128 ≤ n → n < 16384 → uleb_text n ≡ more n 0 ∷ (n / 2 ^ 7) ∷ [] → Spelled n
  In3 : 16384 ≤ n → n < 2097152 → uleb_text n ≡ more n 0 ∷ more n 7 ∷ (n / 2 ^ 14) ∷ [] → Spelled n
  In4 : 2097152 ≤ n → n < 268435456 → uleb_text n ≡ more n 0 ∷ more n 7 ∷ more n 14 ∷ (n / 2 ^ 21) ∷ [] → Spelled n
  In5 : 268435456 ≤ n → uleb_text n ≡ more n 0 ∷ more n 7 ∷ more n 14 ∷ more n 21 ∷ (n / 2 ^ 28) ∷ [] → Spelled n

spelled : (n : ℕ) → Spelled n
unfolding uleb_text
spelled n =
    elim (cases_lt n 128) [
      | inl a ↦ In1 a (rw (lt-ltb n 128 a) refl)
      | inr b ↦ elim (cases_lt n 16384) [
        | inl c ↦ In2 b c (rw (le-ltb n 128 b, lt-ltb n 16384 c) refl)
        | inr d ↦ elim (cases_lt n 2097152) [
          | inl e ↦ In3 d e (rw (le-ltb n 128 b, le-ltb n 16384 d, lt-ltb n 2097152 e) refl)
          | inr f ↦ elim (cases_lt n 268435456) [
            | inl g ↦ In4 f g (rw (le-ltb n 128 b, le-ltb n 16384 d, le-ltb n 2097152 f, lt-ltb n 268435456 g) refl)
            | inr h ↦ In5 h (rw (le-ltb n 128 b, le-ltb n 16384 d, le-ltb n 2097152 f, le-ltb n 268435456 h) refl)
          ]
        ]
      ]
    ]

pub uleb_one : (n : ℕ) → IsOne 4 (uleb_text n)
uleb_one n =
    elim (spelled n) [
      | In1 a e ↦ subst (IsOne 4) (sym e) a
      | In2 a b e ↦ subst (IsOne 4) (sym e) (omega arith, omega arith)
      | In3 a b e ↦ subst (IsOne 4) (sym e) (omega arith, (omega arith, omega arith))
      | In4 a b e ↦ subst (IsOne 4) (sym e) (omega arith, (omega arith, (omega arith, omega arith)))
      | In5 a e ↦ subst (IsOne 4) (sym e) (omega arith, (omega arith, (omega arith, (omega arith, tt))))
    ]

-- what a text says
abbrev value : List ℕ → ℕ
value [] = 0
value (b ∷ []) = b
value (b ∷ c ∷ bs) = (b - 128) + 128 * value (c ∷ bs)

value_is : (n : ℕ) → value (uleb_text n) ≡ n
value_is n =
    elim (spelled n) [
      | In1 a e ↦ ap value e
      | In2 a b e ↦ ap value e ∙ two
      | In3 a b e ↦ ap value e ∙ three
      | In4 a b e ↦ ap value e ∙ four
      | In5 a e ↦ ap value e ∙ five
    ]
  where
    two : value (more n 0 ∷ (n / 2 ^ 7) ∷ []) ≡ n
    two = omega arith

    three : value (more n 0 ∷ more n 7 ∷ (n / 2 ^ 14) ∷ []) ≡ n
    three = omega arith

    four : value (more n 0 ∷ more n 7 ∷ more n 14 ∷ (n / 2 ^ 21) ∷ []) ≡ n
    four = omega arith

    five : value (more n 0 ∷ more n 7 ∷ more n 14 ∷ more n 21 ∷ (n / 2 ^ 28) ∷ []) ≡ n
    five = omega arith

pub uleb_same : (a b : ℕ) → uleb_text a ≡ uleb_text b → a ≡ b
uleb_same a b e = sym (value_is a) ∙ ap value e ∙ value_is b

-- how many bytes
data Takes (n : ℕ) : ℕ → Type 0 where
  Of1 : n < 128 → Takes n 1
  Of2 : 128 ≤ n → n < 16384 → Takes n 2
  Of3 : 16384 ≤ n → n < 2097152 → Takes n 3
  Of4 : 2097152 ≤ n → n < 268435456 → Takes n 4
  Of5 : 268435456 ≤ n → Takes n 5

takes : (n : ℕ) → Takes n (length (uleb_text n))
takes n =
    elim (spelled n) [
      | In1 a e ↦ subst (Takes n) (sym (ap length e)) (Of1 a)
      | In2 a b e ↦ subst (Takes n) (sym (ap length e)) (Of2 a b)
      | In3 a b e ↦ subst (Takes n) (sym (ap length e)) (Of3 a b)
      | In4 a b e ↦ subst (Takes n) (sym (ap length e)) (Of4 a b)
      | In5 a e ↦ subst (Takes n) (sym (ap length e)) (Of5 a)
    ]

no_more : (a b k l : ℕ) → a ≤ b → Takes a k → Takes b l → k ≤ l
no_more a b k l le (Of1 x0) (Of1 y0) = omega arith
no_more a b k l le (Of1 x0) (Of2 y0 y1) = omega arith
no_more a b k l le (Of1 x0) (Of3 y0 y1) = omega arith
no_more a b k l le (Of1 x0) (Of4 y0 y1) = omega arith
no_more a b k l le (Of1 x0) (Of5 y0) = omega arith
no_more a b k l le (Of2 x0 x1) (Of1 y0) = absurd (omega (arith, le, x0, y0))
no_more a b k l le (Of2 x0 x1) (Of2 y0 y1) = omega arith
no_more a b k l le (Of2 x0 x1) (Of3 y0 y1) = omega arith
no_more a b k l le (Of2 x0 x1) (Of4 y0 y1) = omega arith
no_more a b k l le (Of2 x0 x1) (Of5 y0) = omega arith
no_more a b k l le (Of3 x0 x1) (Of1 y0) = absurd (omega (arith, le, x0, y0))
no_more a b k l le (Of3 x0 x1) (Of2 y0 y1) = absurd (omega (arith, le, x0, y1))
no_more a b k l le (Of3 x0 x1) (Of3 y0 y1) = omega arith
no_more a b k l le (Of3 x0 x1) (Of4 y0 y1) = omega arith
no_more a b k l le (Of3 x0 x1) (Of5 y0) = omega arith
no_more a b k l le (Of4 x0 x1) (Of1 y0) = absurd (omega (arith, le, x0, y0))
no_more a b k l le (Of4 x0 x1) (Of2 y0 y1) = absurd (omega (arith, le, x0, y1))
no_more a b k l le (Of4 x0 x1) (Of3 y0 y1) = absurd (omega (arith, le, x0, y1))
no_more a b k l le (Of4 x0 x1) (Of4 y0 y1) = omega arith
no_more a b k l le (Of4 x0 x1) (Of5 y0) = omega arith
no_more a b k l le (Of5 x0) (Of1 y0) = absurd (omega (arith, le, x0, y0))
no_more a b k l le (Of5 x0) (Of2 y0 y1) = absurd (omega (arith, le, x0, y1))
no_more a b k l le (Of5 x0) (Of3 y0 y1) = absurd (omega (arith, le, x0, y1))
no_more a b k l le (Of5 x0) (Of4 y0 y1) = absurd (omega (arith, le, x0, y1))
no_more a b k l le (Of5 x0) (Of5 y0) = omega arith

pub uleb_rises : (a b : ℕ) → a ≤ b → length (uleb_text a) ≤ length (uleb_text b)
uleb_rises a b le = no_more a b (length (uleb_text a)) (length (uleb_text b)) le (takes a) (takes b)

-- ---- signed

pub bits_one : (n : ℕ) → IsOne 4 (bits_text n)
unfolding bits_text
bits_one n = by (is_near (2 ^ 6) n) (is_near (2 ^ 13) n) (is_near (2 ^ 20) n) (is_near (2 ^ 27) n)
  where
    by : (a b c d : Bool) → IsOne 4 (if a then (n % 128) ∷ []
        else if b then more n 0 ∷ (n / 2 ^ 7 % 128) ∷ []
        else if c then more n 0 ∷ more n 7 ∷ (n / 2 ^ 14 % 128) ∷ []
        else if d then more n 0 ∷ more n 7 ∷ more n 14 ∷ (n / 2 ^ 21 % 128) ∷ []
        else more n 0 ∷ more n 7 ∷ more n 14 ∷ more n 21 ∷ (n / 2 ^ 28 + (if nat_lt n (2 ^ 31) then 0 else 112)) ∷ [])
    by true b c d = omega arith
    by false true c d = (omega arith, omega arith)
    by false false true d = (omega arith, (omega arith, omega arith))
    by false false false true = (omega arith, (omega arith, (omega arith, omega arith)))
    by false false false false = (omega arith, (omega arith, (omega arith, (omega arith, tt))))
