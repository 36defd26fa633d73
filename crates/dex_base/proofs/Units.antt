-- Which bytes begin a unit, and which do not.
use Rattle.std.proofs.Common.{◌≡◌, ℕ, zero, suc, ◌+◌, ◌-◌, ◌*◌, ◌/◌, ◌%◌, ◌^◌, ◌<◌, ◌≤◌, ◌⊎◌, inl, inr, List, [], ◌∷◌, ◌++◌, length, take, get_or, Result, Ok, Err, refl, sym, ap, subst, ◌∙◌, arith}
use Rattle.std.proofs.lemmas.Bool.{cases_lt, lt-ltb, le-ltb, le-leb, lt-leb, ne_eqb}
use Rattle.std.proofs.lemmas.Bool.Decides.{nat_tests}
use Rattle.dex_base.specs.declared.fault.BaseFault.{BaseFault}
use Rattle.dex_base.specs.declared.fault.BaseFault.TheVariants.{Short, BadText}
use Rattle.dex_base.specs.Reading.{◌>>=◌}
use Rattle.dex_base.specs.Mutf8.{unit_bytes, six_bits_in, double_in, triple_in, unit_in}

-- the bytes are the front of a unit's, which has more
pub record BeginsUnit (bytes : List ℕ) : Type 0 where
  pub unit : ℕ
  pub rest : List ℕ
  pub fits : unit < 2 ^ 16
  pub more : 0 < length rest
  pub begins : unit_bytes unit ≡ bytes ++ rest

-- no unit's bytes, whatever follows them, begin like this
abbrev pub NoUnitBegins : List ℕ → Type 0
NoUnitBegins bytes = (unit : ℕ) (after rest : List ℕ) → unit < 2 ^ 16 → unit_bytes unit ++ after ≡ bytes ++ rest → ⊥

pub unit_one : (u : ℕ) → 0 < u → u < 128 → unit_bytes u ≡ u ∷ []
unfolding unit_bytes
unit_one u low high = grind (arith, nat_tests)

pub unit_two : (u : ℕ) → (0 < u → 128 ≤ u) → u < 2048 → unit_bytes u ≡ (192 + u / 64) ∷ (128 + u % 64) ∷ []
unfolding unit_bytes
unit_two u low high = grind (arith, nat_tests)

pub unit_three : (u : ℕ) → 2048 ≤ u → unit_bytes u ≡ (224 + u / 4096) ∷ (128 + u / 64 % 64) ∷ (128 + u % 64) ∷ []
unfolding unit_bytes
unit_three u low = grind (arith, nat_tests)

pub record IsOne (u : ℕ) : Type 0 where
  pub low : 0 < u
  pub high : u < 128
  pub is : unit_bytes u ≡ u ∷ []

pub record IsTwo (u : ℕ) : Type 0 where
  pub low : (u ≡ 0) ⊎ (128 ≤ u)
  pub high : u < 2048
  pub is : unit_bytes u ≡ (192 + u / 64) ∷ (128 + u % 64) ∷ []

pub record IsThree (u : ℕ) : Type 0 where
  pub low : 2048 ≤ u
  pub is : unit_bytes u ≡ (224 + u / 4096) ∷ (128 + u / 64 % 64) ∷ (128 + u % 64) ∷ []

pub unit_cases : (u : ℕ) → IsOne u ⊎ (IsTwo u ⊎ IsThree u)
unit_cases zero = inr (inl (record { low = inl refl; high = omega arith; is = unit_two 0 (λ h. omega arith) (omega arith) }))
unit_cases (suc n) =
    let u = suc n in
    elim (cases_lt u 128) [
      | inl lt ↦ inl (record { low = omega arith; high = lt; is = unit_one u (omega arith) lt })
      | inr ge ↦ elim (cases_lt u 2048) [
        | inl lt ↦ inr (inl (record { low = inr ge; high = lt; is = unit_two u (λ _. ge) lt }))
        | inr le ↦ inr (inr (record { low = le; is = unit_three u le }))
      ]
    ]

-- the least and the greatest byte behind the first of two, and of three
abbrev pub DoubleRange : ℕ → ℕ → Type 0
DoubleRange a high = ((a ≡ 192) × (high ≡ 128)) ⊎ ((194 ≤ a) × (high ≡ 191))

abbrev pub TripleRange : ℕ → ℕ → Type 0
TripleRange a low = ((a ≡ 224) × (low ≡ 160)) ⊎ ((225 ≤ a) × (low ≡ 128))

double_value : (u a b high : ℕ) → IsTwo u → DoubleRange a high → ((b < 128) ⊎ (high < b)) → 192 + u / 64 ≡ a → 128 + u % 64 ≡ b → ⊥
double_value u a b high two range (inl small) h g = omega arith
double_value u a b high two (inr range) (inr large) h g = omega (arith, range.1)
double_value u a b high two (inl range) (inr large) h g =
    elim two.low [ inl none ↦ omega (arith, range.0, range.1, none) | inr some ↦ omega (arith, range.0, some) ]

-- the second byte does not fit the first of two
pub none_double : (a b high : ℕ) → a < 224 → DoubleRange a high → ((b < 128) ⊎ (high < b)) → NoUnitBegins (a ∷ b ∷ [])
none_double a b high below range wrong u after rest fits e =
    elim (unit_cases u) [
      | inl one ↦ let f = rw one.is at e in let h : u ≡ a = cc in elim range [ inl z ↦ omega (arith, one.high, z.0) | inr z ↦ omega (arith, one.high, z.0) ]
      | inr more ↦ elim more [
        | inl two ↦ let f = rw two.is at e in double_value u a b high two range wrong (cc) (cc)
        | inr three ↦ let f = rw three.is at e in let h : 224 + u / 4096 ≡ a = cc in omega arith
      ]
    ]

triple_value : (u a b low : ℕ) → 2048 ≤ u → TripleRange a low → ((b < low) ⊎ (191 < b)) → 224 + u / 4096 ≡ a → 128 + u / 64 % 64 ≡ b → ⊥
triple_value u a b low long range (inr large) h g = omega arith
triple_value u a b low long (inl range) (inl small) h g = omega (arith, range.0, range.1)
triple_value u a b low long (inr range) (inl small) h g = omega (arith, range.1)

-- the second byte does not fit the first of three
pub none_triple : (a b low : ℕ) → 224 ≤ a → TripleRange a low → ((b < low) ⊎ (191 < b)) → NoUnitBegins (a ∷ b ∷ [])
none_triple a b low from range wrong u after rest fits e =
    elim (unit_cases u) [
      | inl one ↦ let f = rw one.is at e in let h : u ≡ a = cc in omega (arith, one.high)
      | inr more ↦ elim more [
        | inl two ↦ let f = rw two.is at e in let h : 192 + u / 64 ≡ a = cc in omega (arith, two.high)
        | inr three ↦ let f = rw three.is at e in triple_value u a b low three.low range wrong (cc) (cc)
      ]
    ]

-- the third byte does not fit
pub none_third : (a b c : ℕ) → 224 ≤ a → ((c < 128) ⊎ (191 < c)) → NoUnitBegins (a ∷ b ∷ c ∷ [])
none_third a b c from wrong u after rest fits e =
    elim (unit_cases u) [
      | inl one ↦ let f = rw one.is at e in let h : u ≡ a = cc in omega (arith, one.high)
      | inr more ↦ elim more [
        | inl two ↦ let f = rw two.is at e in let h : 192 + u / 64 ≡ a = cc in omega (arith, two.high)
        | inr three ↦
            let f = rw three.is at e in
            let g : 128 + u % 64 ≡ c = cc in
            elim wrong [ inl small ↦ omega arith | inr large ↦ omega arith ]
      ]
    ]

begins : (u : ℕ) (bytes rest : List ℕ) → u < 2 ^ 16 → 0 < length rest → unit_bytes u ≡ bytes ++ rest → BeginsUnit bytes
begins u bytes rest fits more e = record { unit = u; rest = rest; fits = fits; more = more; begins = e }

pub begins_empty : BeginsUnit []
begins_empty = begins 1 [] (1 ∷ []) (omega arith) (omega arith) (unit_one 1 (omega arith) (omega arith))

pub begins_zero : BeginsUnit (192 ∷ [])
begins_zero = begins 0 (192 ∷ []) (128 ∷ []) (omega arith) (omega arith) (unit_two 0 (λ h. omega arith) (omega arith))

begins_double : (a high : ℕ) → a < 224 → DoubleRange a high → BeginsUnit (a ∷ [])
begins_double a high below (inl range) = rw range.0 begins_zero
begins_double a high below (inr range) =
    let u = (a - 192) * 64 in
    let h : 192 + u / 64 ≡ a = omega (arith, range.0) in
    begins u (a ∷ []) ((128 + u % 64) ∷ []) (omega arith) (omega arith) (unit_two u (λ _. omega (arith, range.0)) (omega arith) ∙ ap (λ (x : ℕ). x ∷ (128 + u % 64) ∷ []) h)

triple_low : (a b low : ℕ) → 224 ≤ a → TripleRange a low → low ≤ b → (128 ≤ b) × (2048 ≤ (a - 224) * 4096 + (b - 128) * 64)
triple_low a b low from (inl range) least = (omega (arith, range.1), omega (arith, range.1))
triple_low a b low from (inr range) least = (omega (arith, range.1), omega (arith, range.0, range.1))

begins_triple : (a b low : ℕ) → 224 ≤ a → a < 240 → TripleRange a low → low ≤ b → b < 192 → BeginsUnit (a ∷ b ∷ [])
begins_triple a b low from below range least most =
    let u = (a - 224) * 4096 + (b - 128) * 64 in
    let bounds = triple_low a b low from range least in
    let b_low : 128 ≤ b = bounds.0 in
    let h : 224 + u / 4096 ≡ a = omega arith in
    let g : 128 + u / 64 % 64 ≡ b = omega arith in
    begins u (a ∷ b ∷ []) ((128 + u % 64) ∷ []) (omega arith) (omega arith) (unit_three u bounds.1 ∙ cc)

pub begins_first : (a : ℕ) → 224 ≤ a → a < 240 → BeginsUnit (a ∷ [])
begins_first a from below =
    let u = (a - 224) * 4096 + 2048 in
    let h : 224 + u / 4096 ≡ a = omega arith in
    begins u (a ∷ []) ((128 + u / 64 % 64) ∷ (128 + u % 64) ∷ []) (omega arith) (omega arith) (unit_three u (omega arith) ∙ cc)

-- what the six bits behind a lead byte are, or why there are none
data SixBits (begin place low high : ℕ) (bytes : List ℕ) (read : Result ℕ BaseFault) : Type 0 where
  Fits : (b : ℕ) (rest : List ℕ) → bytes ≡ b ∷ rest → low ≤ b → b ≤ high → read ≡ Ok (b - 128) → SixBits begin place low high bytes read
  Missing : bytes ≡ [] → read ≡ Err (Short begin) → SixBits begin place low high bytes read
  Outside : (b : ℕ) (rest : List ℕ) → bytes ≡ b ∷ rest → (b < low) ⊎ (high < b) → read ≡ Err (BadText place) → SixBits begin place low high bytes read

six_cases : (begin place low high : ℕ) (bytes : List ℕ) → SixBits begin place low high bytes (six_bits_in begin place low high bytes)
six_cases begin place low high [] = Missing refl refl
six_cases begin place low high (b ∷ bs) =
    elim (cases_lt b low) [
      | inl lt ↦ Outside b bs refl (inl lt) (rw (lt-leb low b lt) refl)
      | inr ge ↦ elim (cases_lt high b) [
        | inl gt ↦ Outside b bs refl (inr gt) (rw (le-leb low b ge, lt-leb b high gt) refl)
        | inr le ↦ Fits b bs refl ge le (rw (le-leb low b ge, le-leb b high le) refl)
      ]
    ]

-- the unit that is read at the front, or why there is none
pub data UnitRead (begin place : ℕ) (bytes : List ℕ) (read : Result (ℕ × ℕ) BaseFault) : Type 0 where
  IsRead : (u : ℕ) (rest : List ℕ) → u < 2 ^ 16 → bytes ≡ unit_bytes u ++ rest → read ≡ Ok (u, length (unit_bytes u)) → UnitRead begin place bytes read
  IsCut : BeginsUnit bytes → read ≡ Err (Short begin) → UnitRead begin place bytes read
  IsWrong : (behind : ℕ) → behind < length bytes → BeginsUnit (take behind bytes) → NoUnitBegins (take (suc behind) bytes) → read ≡ Err (BadText (place + behind)) → UnitRead begin place bytes read

-- what the first byte says
data Lead (begin place a : ℕ) (bs : List ℕ) : Type 0 where
  One : 0 < a → a < 128 → unit_in begin place (a ∷ bs) ≡ Ok (a, 1) → Lead begin place a bs
  Two : (high : ℕ) → a < 224 → DoubleRange a high → unit_in begin place (a ∷ bs) ≡ double_in begin place high (a ∷ bs) → Lead begin place a bs
  Three : (low : ℕ) → 224 ≤ a → a < 240 → TripleRange a low → unit_in begin place (a ∷ bs) ≡ triple_in begin place low (a ∷ bs) → Lead begin place a bs
  Other : NoUnitBegins (a ∷ []) → unit_in begin place (a ∷ bs) ≡ Err (BadText place) → Lead begin place a bs

in_one : (begin place a : ℕ) (bs : List ℕ) → 0 < a → a < 128 → unit_in begin place (a ∷ bs) ≡ Ok (a, 1)
unfolding unit_in
in_one begin place a bs some low = rw (lt-ltb 0 a some, lt-ltb a 128 low) refl

in_zero : (begin place : ℕ) (bs : List ℕ) → unit_in begin place (192 ∷ bs) ≡ double_in begin place 128 (192 ∷ bs)
unfolding unit_in
in_zero begin place bs = refl

in_two : (begin place a : ℕ) (bs : List ℕ) → 194 ≤ a → a < 224 → unit_in begin place (a ∷ bs) ≡ double_in begin place 191 (a ∷ bs)
unfolding unit_in
in_two begin place a bs from below = rw (lt-ltb 0 a (omega arith), le-ltb a 128 (omega arith), ne_eqb a 192 (omega arith), le-leb 194 a from, lt-ltb a 224 below) refl

in_e0 : (begin place : ℕ) (bs : List ℕ) → unit_in begin place (224 ∷ bs) ≡ triple_in begin place 160 (224 ∷ bs)
unfolding unit_in
in_e0 begin place bs = refl

in_three : (begin place a : ℕ) (bs : List ℕ) → 225 ≤ a → a < 240 → unit_in begin place (a ∷ bs) ≡ triple_in begin place 128 (a ∷ bs)
unfolding unit_in
in_three begin place a bs from below =
    rw (lt-ltb 0 a (omega arith), le-ltb a 128 (omega arith), ne_eqb a 192 (omega arith), le-leb 194 a (omega arith), le-ltb a 224 (omega arith), ne_eqb a 224 (omega arith), le-leb 225 a from, lt-ltb a 240 below) refl

in_low : (begin place a : ℕ) (bs : List ℕ) → (a ≡ 0) ⊎ (128 ≤ a) → a < 194 → (a ≡ 192 → ⊥) → unit_in begin place (a ∷ bs) ≡ Err (BadText place)
unfolding unit_in
in_low begin place a bs (inl is) below not = rw is refl
in_low begin place a bs (inr from) below not =
    rw (lt-ltb 0 a (omega arith), le-ltb a 128 from, ne_eqb a 192 not, lt-leb 194 a below, ne_eqb a 224 (omega arith), lt-leb 225 a (omega arith)) refl

in_high : (begin place a : ℕ) (bs : List ℕ) → 240 ≤ a → unit_in begin place (a ∷ bs) ≡ Err (BadText place)
unfolding unit_in
in_high begin place a bs from =
    rw (lt-ltb 0 a (omega arith), le-ltb a 128 (omega arith), ne_eqb a 192 (omega arith), le-leb 194 a (omega arith), le-ltb a 224 (omega arith), ne_eqb a 224 (omega arith), le-leb 225 a (omega arith), le-ltb a 240 from) refl

none_first : (a : ℕ) → (((a ≡ 0) ⊎ (128 ≤ a)) × ((a < 192) ⊎ (a ≡ 193))) ⊎ (240 ≤ a) → NoUnitBegins (a ∷ [])
none_first a range u after rest fits e =
    elim (unit_cases u) [
      | inl one ↦ let f = rw one.is at e in let h : u ≡ a = cc in omega (arith, one.low, one.high, range)
      | inr more ↦ elim more [
        | inl two ↦ let f = rw two.is at e in let h : 192 + u / 64 ≡ a = cc in omega (arith, two.low, two.high, range)
        | inr three ↦ let f = rw three.is at e in let h : 224 + u / 4096 ≡ a = cc in omega (arith, three.low, range)
      ]
    ]

lead_low : (begin place a : ℕ) (bs : List ℕ) → 128 ≤ a → a < 224 → Lead begin place a bs
lead_low begin place a bs from below =
    elim (cases_lt a 192) [
      | inl lt ↦ Other (none_first a (inl (inr from, inl lt))) (in_low begin place a bs (inr from) (omega arith) (λ e. omega arith))
      | inr ge ↦ elim (cases_lt a 194) [
        | inl lt ↦ elim (cases_lt a 193) [
          | inl l ↦ let e : 192 ≡ a = omega arith in subst (λ (n : ℕ). Lead begin place n bs) e (Two 128 (omega arith) (inl (refl, refl)) (in_zero begin place bs))
          | inr g ↦ Other (none_first a (inl (inr from, inr (omega arith)))) (in_low begin place a bs (inr from) lt (λ e. omega arith))
        ]
        | inr more ↦ Two 191 below (inr (more, refl)) (in_two begin place a bs more below)
      ]
    ]

lead_high : (begin place a : ℕ) (bs : List ℕ) → 224 ≤ a → Lead begin place a bs
lead_high begin place a bs from =
    elim (cases_lt a 240) [
      | inl lt ↦ elim (cases_lt a 225) [
        | inl l ↦ let e : 224 ≡ a = omega arith in subst (λ (n : ℕ). Lead begin place n bs) e (Three 160 (omega arith) (omega arith) (inl (refl, refl)) (in_e0 begin place bs))
        | inr g ↦ Three 128 from lt (inr (g, refl)) (in_three begin place a bs g lt)
      ]
      | inr ge ↦ Other (none_first a (inr ge)) (in_high begin place a bs ge)
    ]

lead_of : (begin place a : ℕ) (bs : List ℕ) → Lead begin place a bs
lead_of begin place zero bs = Other (none_first 0 (inl (inl refl, inl (omega arith)))) (in_low begin place 0 bs (inl refl) (omega arith) (λ e. omega arith))
lead_of begin place (suc n) bs =
    elim (cases_lt (suc n) 128) [
      | inl lt ↦ One (omega arith) lt (in_one begin place (suc n) bs (omega arith) lt)
      | inr ge ↦ elim (cases_lt (suc n) 224) [ inl lt ↦ lead_low begin place (suc n) bs ge lt | inr more ↦ lead_high begin place (suc n) bs more ]
    ]

double_fits : (a b high : ℕ) → DoubleRange a high → 128 ≤ b → b ≤ high → a < 224 → ((a - 192) * 64 + (b - 128) < 2048) × (0 < (a - 192) * 64 + (b - 128) → 128 ≤ (a - 192) * 64 + (b - 128))
double_fits a b high (inl range) from to below = (omega (arith, range.0, range.1), λ h. omega (arith, range.0, range.1))
double_fits a b high (inr range) from to below = (omega (arith, range.0, range.1), λ h. omega (arith, range.0, range.1))

double_bytes : (a b high : ℕ) → DoubleRange a high → 128 ≤ b → b ≤ high → a < 224 → unit_bytes ((a - 192) * 64 + (b - 128)) ≡ a ∷ b ∷ []
double_bytes a b high range from to below =
    let u = (a - 192) * 64 + (b - 128) in
    let fits = double_fits a b high range from to below in
    let least : 192 ≤ a = elim range [ inl r ↦ omega (arith, r.0) | inr r ↦ omega (arith, r.0) ] in
    let most : b < 192 = elim range [ inl r ↦ omega (arith, r.1) | inr r ↦ omega (arith, r.1) ] in
    let h : 192 + u / 64 ≡ a = omega arith in
    let g : 128 + u % 64 ≡ b = omega arith in
    unit_two u fits.1 fits.0 ∙ cc

-- a unit of two bytes
double_read : (begin place a high : ℕ) (bs : List ℕ) → a < 224 → DoubleRange a high → SixBits begin (place + 1) 128 high bs (six_bits_in begin (place + 1) 128 high bs)
    → UnitRead begin place (a ∷ bs) (double_in begin place high (a ∷ bs))
double_read begin place a high bs below range (Fits b rest e from to is) =
    let u = (a - 192) * 64 + (b - 128) in
    let text = double_bytes a b high range from to below in
    IsRead u rest (omega (arith, (double_fits a b high range from to below).0)) (rw (text, e) refl) (rw (is, text) refl)
double_read begin place a high bs below range (Missing e is) = IsCut (rw e (begins_double a high below range)) (rw is refl)
double_read begin place a high bs below range (Outside b rest e out is) =
    IsWrong 1 (rw e (omega arith)) (begins_double a high below range) (rw e (none_double a b high below range out)) (rw is refl)

triple_bytes : (a b c low : ℕ) → 224 ≤ a → a < 240 → TripleRange a low → low ≤ b → b ≤ 191 → 128 ≤ c → c ≤ 191 → unit_bytes ((a - 224) * 4096 + (b - 128) * 64 + (c - 128)) ≡ a ∷ b ∷ c ∷ []
triple_bytes a b c low from below range least most c_from c_to =
    let u = (a - 224) * 4096 + (b - 128) * 64 + (c - 128) in
    let bounds = triple_low a b low from range least in
    let b_low : 128 ≤ b = bounds.0 in
    let h : 224 + u / 4096 ≡ a = omega arith in
    let g : 128 + u / 64 % 64 ≡ b = omega arith in
    let k : 128 + u % 64 ≡ c = omega arith in
    unit_three u (omega (arith, bounds.1)) ∙ cc

abbrev triple : ℕ → ℕ → ℕ → ℕ × ℕ
triple a b c = ((a - 224) * 4096 + (b - 128) * 64 + c, 3)

in_none : (begin place : ℕ) → unit_in begin place [] ≡ Err (Short begin)
unfolding unit_in
in_none begin place = refl

-- a unit of three bytes, of which two are read
triple_third : (begin place a b low : ℕ) (bs : List ℕ) → 224 ≤ a → a < 240 → TripleRange a low → low ≤ b → b ≤ 191 → SixBits begin (place + 2) 128 191 bs (six_bits_in begin (place + 2) 128 191 bs)
    → UnitRead begin place (a ∷ b ∷ bs) (six_bits_in begin (place + 2) 128 191 bs >>= λ c. Ok (triple a b c))
triple_third begin place a b low bs from below range least most (Fits c rest e c_from c_to is) =
    let text = triple_bytes a b c low from below range least most c_from c_to in
    IsRead ((a - 224) * 4096 + (b - 128) * 64 + (c - 128)) rest (omega arith) (rw (text, e) refl) (rw (is, text) refl)
triple_third begin place a b low bs from below range least most (Missing e is) = IsCut (rw e (begins_triple a b low from below range least (omega arith))) (rw is refl)
triple_third begin place a b low bs from below range least most (Outside c rest e out is) =
    IsWrong 2 (rw e (omega arith)) (begins_triple a b low from below range least (omega arith)) (rw e (none_third a b c from out)) (rw is refl)

triple_read : (begin place a low : ℕ) (bs : List ℕ) → 224 ≤ a → a < 240 → TripleRange a low → SixBits begin (place + 1) low 191 bs (six_bits_in begin (place + 1) low 191 bs)
    → UnitRead begin place (a ∷ bs) (triple_in begin place low (a ∷ bs))
triple_read begin place a low bs from below range (Fits b rest e least most is) =
    let third = triple_third begin place a b low rest from below range least most (six_cases begin (place + 2) 128 191 rest) in
    rw (is, e) third
triple_read begin place a low bs from below range (Missing e is) = IsCut (rw e (begins_first a from below)) (rw is refl)
triple_read begin place a low bs from below range (Outside b rest e out is) =
    IsWrong 1 (rw e (omega arith)) (begins_first a from below) (rw e (none_triple a b low from range out)) (rw is refl)

-- what is read at the front of the bytes
pub unit_read : (begin place : ℕ) (bytes : List ℕ) → UnitRead begin place bytes (unit_in begin place bytes)
unit_read begin place [] = IsCut begins_empty (in_none begin place)
unit_read begin place (a ∷ bs) =
    elim (lead_of begin place a bs) [
      | One some low is ↦ IsRead a bs (omega arith) (rw (unit_one a some low) refl) (rw (is, unit_one a some low) refl)
      | Two high below range is ↦ rw is (double_read begin place a high bs below range (six_cases begin (place + 1) 128 high bs))
      | Three low from below range is ↦ rw is (triple_read begin place a low bs from below range (six_cases begin (place + 1) low 191 bs))
      | Other none is ↦ IsWrong 0 (omega arith) begins_empty none (is ∙ ap (λ (n : ℕ). Err (BadText n)) (omega arith))
    ]
