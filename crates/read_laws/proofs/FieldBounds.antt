-- How large the fields of an instruction are, by its format.
use Rattle.std.proofs.Common.{◌≡◌, ℕ, zero, suc, ◌<◌, ◌≤◌, ◌+◌, ◌-◌, Bool, true, false, cond, List, [], ◌∷◌, drop, refl, sym, subst, arith}
use Rattle.std.specs.Prelude.{◌==◌, nat_le, slice_index, unwrap_or, Option, Some, None}
use Rattle.std.specs.List.{list_all}
use Rattle.std.specs.Option.{option_and_then}
use Rattle.std.proofs.lemmas.Bool.{eqb-true, eqb-false, leb-true}
use Rattle.lemmas.proofs.Bools.{and_left, and_right, clash}
use Rattle.insn_set.specs.declared.format.Format.{Format}
use Rattle.insn_set.specs.declared.format.Format.TheVariants.{F12x, F11n, F20t, F23x, F22b, F22t, F22s, F22c, F32x}
use Rattle.insn_set.specs.Formats.{format_units}
use Rattle.code_read.specs.declared.fields.Fields.{Fields}
use Rattle.code_read.specs.Decoded.{opcode_at, fields_at}
use Rattle.code_read.specs.Fields.{fields, in_one, in_two, in_three, in_five, of_units, fields_in}
use Rattle.code_read.specs.Opcodes.{from_to, format_at}

-- each of these is a unit
abbrev pub AreUnits : List ℕ → Type 0
AreUnits units = (i : ℕ) → slice_index units i < 65536

pub units_behind : (n : ℕ) (units : List ℕ) → AreUnits units → AreUnits (drop n units)
units_behind zero units h i = h i
units_behind (suc n) [] h i = omega arith
units_behind (suc n) (u ∷ us) h i = units_behind n us (λ k. h (suc k)) i

-- ---- fields of so many units

abbrev nothing : Fields
nothing = fields 0 0 0 0

-- what holds of the fields of so many units, and of none
record Holds (Is : Fields → Type 0) (n : ℕ) (format : Format) : Type 0 where
  none : Is nothing
  one : n ≡ 1 → (u : ℕ) → u < 65536 → Is (in_one format u)
  two : n ≡ 2 → (u v : ℕ) → u < 65536 → v < 65536 → Is (in_two format u v)
  three : n ≡ 3 → (u v w : ℕ) → u < 65536 → v < 65536 → w < 65536 → Is (in_three format u v w)
  five : n ≡ 5 → (u v w x y : ℕ) → u < 65536 → Is (in_five u v w x y)

abbrev taken : Option Fields → Fields
taken read = unwrap_or read nothing

eq_true : (m n : ℕ) → (m == n) ≡ true → m ≡ n
eq_true m n e = eqb-true m n e

pick : (Is : Fields → Type 0) (b : Bool) (x y : Option Fields) → (b ≡ true → Is (taken x)) → Is (taken y) → Is (taken (cond b x y))
pick Is true x y h g = h refl
pick Is false x y h g = g

by_units : (Is : Fields → Type 0) (n : ℕ) (format : Format) (units : List ℕ) → AreUnits units → Holds Is n format → Is (taken (of_units n format units))
by_units Is n format [] h k = k.none
by_units Is n format (u ∷ []) h k = pick Is (n == 1) (Some (in_one format u)) None (λ e. k.one (eq_true n 1 e) u (h 0)) k.none
by_units Is n format (u ∷ v ∷ []) h k = pick Is (n == 1) _ _ (λ e. k.one (eq_true n 1 e) u (h 0))
    (pick Is (n == 2) _ _ (λ e. k.two (eq_true n 2 e) u v (h 0) (h 1)) k.none)
by_units Is n format (u ∷ v ∷ w ∷ []) h k = pick Is (n == 1) _ _ (λ e. k.one (eq_true n 1 e) u (h 0))
    (pick Is (n == 2) _ _ (λ e. k.two (eq_true n 2 e) u v (h 0) (h 1))
    (pick Is (n == 3) _ _ (λ e. k.three (eq_true n 3 e) u v w (h 0) (h 1) (h 2)) k.none))
by_units Is n format (u ∷ v ∷ w ∷ x ∷ []) h k = pick Is (n == 1) _ _ (λ e. k.one (eq_true n 1 e) u (h 0))
    (pick Is (n == 2) _ _ (λ e. k.two (eq_true n 2 e) u v (h 0) (h 1))
    (pick Is (n == 3) _ _ (λ e. k.three (eq_true n 3 e) u v w (h 0) (h 1) (h 2)) k.none))
by_units Is n format (u ∷ v ∷ w ∷ x ∷ y ∷ rest) h k = pick Is (n == 1) _ _ (λ e. k.one (eq_true n 1 e) u (h 0))
    (pick Is (n == 2) _ _ (λ e. k.two (eq_true n 2 e) u v (h 0) (h 1))
    (pick Is (n == 3) _ _ (λ e. k.three (eq_true n 3 e) u v w (h 0) (h 1) (h 2))
    (pick Is (n == 5) _ _ (λ e. k.five (eq_true n 5 e) u v w x y (h 0)) k.none)))

-- ---- what formats have

-- the first two fields have four bits
pub record Narrow (f : Fields) : Type 0 where
  pub a : f.a < 16
  pub b : f.b < 16

-- the first three have eight
pub record Bytes (f : Fields) : Type 0 where
  pub a : f.a < 256
  pub b : f.b < 256
  pub c : f.c < 256

pub record First (f : Fields) : Type 0 where
  pub a : f.a < 256

pub record Third (f : Fields) : Type 0 where
  pub c : f.c < 65536

abbrev pub is_narrow : Option Format → Bool
is_narrow None = true
is_narrow (Some F12x) = true
is_narrow (Some F11n) = true
is_narrow (Some F22t) = true
is_narrow (Some F22s) = true
is_narrow (Some F22c) = true
is_narrow (Some format) = false

abbrev pub has_bytes : Option Format → Bool
has_bytes None = true
has_bytes (Some F12x) = true
has_bytes (Some F23x) = true
has_bytes (Some F22b) = true
has_bytes (Some format) = false

-- all but two formats have no register of sixteen bits
abbrev pub has_first : Option Format → Bool
has_first (Some F20t) = false
has_first (Some F32x) = false
has_first o = true

abbrev held : Option Format → List ℕ → Fields
held o units = taken (option_and_then (λ format. fields_in format units) o)

other : {A : Type 0} (m n : ℕ) → (m == n) ≡ false → m ≡ n → A
other m n d e = absurd (eqb-false m n d e)

narrow_one : (format : Format) → is_narrow (Some format) ≡ true → Holds Narrow (format_units format) format
narrow_one F12x h = record { none = record { a = omega arith; b = omega arith }; one = λ e u p. record { a = omega (arith, p); b = omega (arith, p) }; two = λ e. other 1 2 refl e; three = λ e. other 1 3 refl e; five = λ e. other 1 5 refl e }
narrow_one F11n h = record { none = record { a = omega arith; b = omega arith }; one = λ e u p. record { a = omega (arith, p); b = omega (arith, p) }; two = λ e. other 1 2 refl e; three = λ e. other 1 3 refl e; five = λ e. other 1 5 refl e }
narrow_one F22t h = record { none = record { a = omega arith; b = omega arith }; one = λ e. other 2 1 refl e; two = λ e u v p q. record { a = omega (arith, p); b = omega (arith, p) }; three = λ e. other 2 3 refl e; five = λ e. other 2 5 refl e }
narrow_one F22s h = record { none = record { a = omega arith; b = omega arith }; one = λ e. other 2 1 refl e; two = λ e u v p q. record { a = omega (arith, p); b = omega (arith, p) }; three = λ e. other 2 3 refl e; five = λ e. other 2 5 refl e }
narrow_one F22c h = record { none = record { a = omega arith; b = omega arith }; one = λ e. other 2 1 refl e; two = λ e u v p q. record { a = omega (arith, p); b = omega (arith, p) }; three = λ e. other 2 3 refl e; five = λ e. other 2 5 refl e }
narrow_one format h = clash false h refl

bytes_one : (format : Format) → has_bytes (Some format) ≡ true → Holds Bytes (format_units format) format
bytes_one F12x h = record { none = record { a = omega arith; b = omega arith; c = omega arith }; one = λ e u p. record { a = omega (arith, p); b = omega (arith, p); c = omega arith }; two = λ e. other 1 2 refl e; three = λ e. other 1 3 refl e; five = λ e. other 1 5 refl e }
bytes_one F23x h = record { none = record { a = omega arith; b = omega arith; c = omega arith }; one = λ e. other 2 1 refl e; two = λ e u v p q. record { a = omega (arith, p); b = omega (arith, q); c = omega (arith, q) }; three = λ e. other 2 3 refl e; five = λ e. other 2 5 refl e }
bytes_one F22b h = record { none = record { a = omega arith; b = omega arith; c = omega arith }; one = λ e. other 2 1 refl e; two = λ e u v p q. record { a = omega (arith, p); b = omega (arith, q); c = omega (arith, q) }; three = λ e. other 2 3 refl e; five = λ e. other 2 5 refl e }
bytes_one format h = clash false h refl

first_one : (format : Format) → has_first (Some format) ≡ true → Holds First (format_units format) format
first_one F20t h = clash false h refl
first_one F32x h = clash false h refl
first_one format h = record {
  none = record { a = omega arith };
  one = λ e u p. record { a = omega (arith, p) };
  two = λ e u v p q. record { a = omega (arith, p) };
  three = λ e u v w p q r. record { a = omega (arith, p) };
  five = λ e u v w x y p. record { a = omega (arith, p) };
}

third_one : (format : Format) → Holds Third (format_units format) format
third_one F12x = record {
  none = record { c = omega arith };
  one = λ e u p. record { c = omega (arith, p) };
  two = λ e u v p q. record { c = omega (arith, p, q) };
  three = λ e u v w p q r. record { c = omega (arith, p, q, r) };
  five = λ e u v w x y p. record { c = omega (arith, p) };
}
third_one format = record {
  none = record { c = omega arith };
  one = λ e u p. record { c = omega (arith, p) };
  two = λ e u v p q. record { c = omega (arith, p, q) };
  three = λ e u v w p q r. record { c = omega (arith, p, q, r) };
  five = λ e u v w x y p. record { c = omega (arith, p) };
}

narrow_held : (o : Option Format) (units : List ℕ) → AreUnits units → is_narrow o ≡ true → Narrow (held o units)
narrow_held None units h n = record { a = omega arith; b = omega arith }
narrow_held (Some format) units h n = by_units Narrow (format_units format) format units h (narrow_one format n)

bytes_held : (o : Option Format) (units : List ℕ) → AreUnits units → has_bytes o ≡ true → Bytes (held o units)
bytes_held None units h n = record { a = omega arith; b = omega arith; c = omega arith }
bytes_held (Some format) units h n = by_units Bytes (format_units format) format units h (bytes_one format n)

first_held : (o : Option Format) (units : List ℕ) → AreUnits units → has_first o ≡ true → First (held o units)
first_held None units h n = record { a = omega arith }
first_held (Some format) units h n = by_units First (format_units format) format units h (first_one format n)

third_held : (o : Option Format) (units : List ℕ) → AreUnits units → Third (held o units)
third_held None units h = record { c = omega arith }
third_held (Some format) units h = by_units Third (format_units format) format units h (third_one format)

-- ---- and opcodes

-- from a number on, so many
abbrev span : ℕ → ℕ → List ℕ
span from zero = []
span from (suc n) = from ∷ span (suc from) n

in_span : (test : ℕ → Bool) (from n op : ℕ) → list_all test (span from n) ≡ true → from ≤ op → op < from + n → test op ≡ true
in_span test from zero op h le lt = absurd (omega (arith, le, lt))
in_span test from (suc n) op h le lt = by (op == from) refl (λ apart. in_span test (suc from) n op (and_right (test from) (list_all test (span (suc from) n)) h) (omega (arith, le, apart)) (omega (arith, lt)))
  where
    by : (b : Bool) → (op == from) ≡ b → ((op ≡ from → ⊥) → test op ≡ true) → test op ≡ true
    by true e later = subst (λ (o : ℕ). test o ≡ true) (sym (eq_true op from e)) (and_left (test from) (list_all test (span (suc from) n)) h)
    by false e later = later (eqb-false op from e)

-- a test of all opcodes from one to another
pub of_span : (test : ℕ → Bool) (low high : ℕ) (op : ℕ) → list_all test (span low (suc high - low)) ≡ true → from_to op low high ≡ true → test op ≡ true
of_span test low high op h e =
    let lo : low ≤ op = leb-true low op (and_left (nat_le low op) (nat_le op high) e) in
    let hi : op ≤ high = leb-true op high (and_right (nat_le low op) (nat_le op high) e) in
    in_span test low (suc high - low) op h lo (omega (arith, lo, hi))

abbrev pub format_passes : (Option Format → Bool) → ℕ → Bool
format_passes test op = test (format_at op)

module _ (units : List ℕ) (are : AreUnits units) (start : ℕ) where
  pub narrow_at : is_narrow (format_at (opcode_at units start)) ≡ true → Narrow (fields_at units start)
  unfolding fields_at
  narrow_at h = narrow_held (format_at (opcode_at units start)) (drop start units) (units_behind start units are) h

  pub bytes_at : has_bytes (format_at (opcode_at units start)) ≡ true → Bytes (fields_at units start)
  unfolding fields_at
  bytes_at h = bytes_held (format_at (opcode_at units start)) (drop start units) (units_behind start units are) h

  pub first_at : has_first (format_at (opcode_at units start)) ≡ true → First (fields_at units start)
  unfolding fields_at
  first_at h = first_held (format_at (opcode_at units start)) (drop start units) (units_behind start units are) h

  pub third_at : Third (fields_at units start)
  unfolding fields_at
  third_at = third_held (format_at (opcode_at units start)) (drop start units) (units_behind start units are)
