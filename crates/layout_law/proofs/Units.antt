-- The least spelling of an instruction that was read has no more units than the one that was read.
use Rattle.std.proofs.Common.{◌≡◌, ◌⊎◌, inl, inr, ℕ, suc, ◌+◌, ◌-◌, ◌*◌, ◌<◌, ◌≤◌, Bool, true, false, cond, List, [], ◌∷◌, length, Option, Some, None, refl, sym, ap, subst, ◌∙◌, arith}
use Rattle.std.specs.Prelude.{◌&&◌, ◌||◌, ◌==◌, ℤ, pos, nat_lt, nat_le, nat_eq}
use Rattle.std.specs.Int.{w64, cast_signed}
use Rattle.std.proofs.lemmas.Bool.{lt-ltb, ltb-true, ltb-false, le-leb, eqb-true, eqb-false, eq-eqb}
use Rattle.lemmas.proofs.Bools.{and_both, or_cases, and_parts, none_or}
use Rattle.lemmas.proofs.Options.{some_same, none_some}
use Rattle.insn_set.specs.declared.format.Format.{Format}
use Rattle.insn_set.specs.declared.format.Format.TheVariants.{F10x, F12x, F11n, F20t, F22x, F32x, F21s, F21h, F31i, F51l, F21c, F31c, F23x, F35c, F3rc, F22b, F22s}
use Rattle.insn_set.specs.Formats.{format_units}
use Rattle.insn_set.specs.Spelling.{units_of, fits_nibble, fits_short, fits_int, is_multiple, fits_byte, fit_nibbles, shortest_move, shortest_const, shortest_wide, shortest_string, shortest_binary, shortest_literal, shortest_call}
use Rattle.insn_set.specs.declared.form.Insn.{Insn}
use Rattle.insn_set.specs.declared.form.Insn.TheVariants as insn
use Rattle.code_read.specs.declared.fields.Fields.{Fields}
use Rattle.code_read.specs.Branches.{is_branch, is_call, is_range, words_form, call_form}
use Rattle.code_read.specs.Fields.{in_two, of_units, fields_in}
use Rattle.code_read.specs.Forms.{nibble, short, word, number, byte, move_form, const_form, wide_form, object_form, array_form, field_form, operation_form, plain}
use Rattle.code_read.specs.Opcodes.{from_to, format_at}
use Rattle.code_read.specs.Payloads.{has_payload}
use Rattle.read_laws.proofs.FieldBounds.{AreUnits, Narrow, First, is_narrow, has_first, of_span, format_passes}
use Rattle.read_laws.proofs.Spelled.{behind}
use Rattle.layout_law.specs.Shorter.{condition_of, is_goto}
use Rattle.layout_law.proofs.Literals.{nibble_fits, short_fits, word_fits, word_high, long_high}

-- ---- the units of a format, by the text that it has

pub fields_long : (n : ℕ) (format : Format) (text : List ℕ) (f : Fields) → of_units n format text ≡ Some f → n ≤ length text
fields_long n format [] f e = none_some f e
fields_long n format (u ∷ []) f e = one (n == 1) _ refl e
  where
    one : (b : Bool) (o : Option Fields) → (n == 1) ≡ b → cond b o None ≡ Some f → n ≤ 1
    one true o h e = omega (arith, eqb-true n 1 h)
    one false o h e = none_some f e
fields_long n format (u ∷ v ∷ []) f e = two (n == 1) (n == 2) _ _ refl refl e
  where
    two : (a b : Bool) (o p : Option Fields) → (n == 1) ≡ a → (n == 2) ≡ b → cond a o (cond b p None) ≡ Some f → n ≤ 2
    two true b o p h g e = omega (arith, eqb-true n 1 h)
    two false true o p h g e = omega (arith, eqb-true n 2 g)
    two false false o p h g e = none_some f e
fields_long n format (u ∷ v ∷ w ∷ []) f e = three (n == 1) (n == 2) (n == 3) _ _ _ refl refl refl e
  where
    three : (a b c : Bool) (o p q : Option Fields) → (n == 1) ≡ a → (n == 2) ≡ b → (n == 3) ≡ c → cond a o (cond b p (cond c q None)) ≡ Some f → n ≤ 3
    three true b c o p q h g k e = omega (arith, eqb-true n 1 h)
    three false true c o p q h g k e = omega (arith, eqb-true n 2 g)
    three false false true o p q h g k e = omega (arith, eqb-true n 3 k)
    three false false false o p q h g k e = none_some f e
fields_long n format (u ∷ v ∷ w ∷ x ∷ []) f e = four (n == 1) (n == 2) (n == 3) _ _ _ refl refl refl e
  where
    four : (a b c : Bool) (o p q : Option Fields) → (n == 1) ≡ a → (n == 2) ≡ b → (n == 3) ≡ c → cond a o (cond b p (cond c q None)) ≡ Some f → n ≤ 4
    four true b c o p q h g k e = omega (arith, eqb-true n 1 h)
    four false true c o p q h g k e = omega (arith, eqb-true n 2 g)
    four false false true o p q h g k e = omega (arith, eqb-true n 3 k)
    four false false false o p q h g k e = none_some f e
fields_long n format (u ∷ v ∷ w ∷ x ∷ y ∷ rest) f e = five (n == 1) (n == 2) (n == 3) (n == 5) _ _ _ _ refl refl refl refl e
  where
    five : (a b c d : Bool) (o p q r : Option Fields) → (n == 1) ≡ a → (n == 2) ≡ b → (n == 3) ≡ c → (n == 5) ≡ d → cond a o (cond b p (cond c q (cond d r None))) ≡ Some f
        → n ≤ suc (suc (suc (suc (suc (length rest)))))
    five true b c d o p q r h g k l e = omega (arith, eqb-true n 1 h)
    five false true c d o p q r h g k l e = omega (arith, eqb-true n 2 g)
    five false false true d o p q r h g k l e = omega (arith, eqb-true n 3 k)
    five false false false true o p q r h g k l e = omega (arith, eqb-true n 5 l)
    five false false false false o p q r h g k l e = none_some f e

-- the fields of two units
pub record Small (f : Fields) : Type 0 where
  pub a : f.a < 65536
  pub b : f.b < 65536
  pub c : f.c < 65536

small_two : (format : Format) (u v : ℕ) → u < 65536 → v < 65536 → Small (in_two format u v)
small_two F20t u v p q = record { a = omega (arith, p, q); b = omega (arith, p, q); c = omega (arith, p, q) }
small_two format u v p q = record { a = omega (arith, p, q); b = omega (arith, p, q); c = omega (arith, p, q) }

pub all_small : (format : Format) (text : List ℕ) (f : Fields) → AreUnits text → of_units 2 format text ≡ Some f → Small f
all_small format [] f are e = none_some f e
all_small format (u ∷ []) f are e = none_some f e
all_small format (u ∷ v ∷ []) f are e = subst Small (some_same (in_two format u v) f e) (small_two format u v (are 0) (are 1))
all_small format (u ∷ v ∷ w ∷ []) f are e = subst Small (some_same (in_two format u v) f e) (small_two format u v (are 0) (are 1))
all_small format (u ∷ v ∷ w ∷ x ∷ []) f are e = subst Small (some_same (in_two format u v) f e) (small_two format u v (are 0) (are 1))
all_small format (u ∷ v ∷ w ∷ x ∷ y ∷ rest) f are e = subst Small (some_same (in_two format u v) f e) (small_two format u v (are 0) (are 1))

-- ---- tests of formats

abbrev pub has_room : ℕ → Option Format → Bool
has_room k None = true
has_room k (Some format) = nat_le k (format_units format)

abbrev pub is_two : Option Format → Bool
is_two None = true
is_two (Some format) = nat_eq (format_units format) 2

one_there : (o : Option Format) → has_room 1 o ≡ true
one_there None = refl
one_there (Some F10x) = refl
one_there (Some format) = refl

-- ---- an instruction that has so many units at most, and is no branch

pub record Fits (n : ℕ) (i : Insn) : Type 0 where
  pub units : units_of i (pos 0) ≤ n
  pub no_goto : is_goto i ≡ false
  pub no_condition : condition_of i ≡ None

or : {n : ℕ} {x y : Insn} (b : Bool) → (b ≡ true → Fits n x) → (b ≡ false → Fits n y) → Fits n (cond b x y)
or true h g = h refl
or false h g = g refl

range : (low high op : ℕ) → low ≤ op → op ≤ high → from_to op low high ≡ true
range low high op h g = and_both (nat_le low op) (nat_le op high) (le-leb low op h) (le-leb op high g)

below : (op n : ℕ) → nat_lt op n ≡ true → op < n
below op n e = ltb-true op n e

not_below : (op n : ℕ) → nat_lt op n ≡ false → n ≤ op
not_below op n e = ltb-false op n e

at_most_two : (p : Bool) → format_units (cond p F12x F22x) ≤ 2
at_most_two true = omega arith
at_most_two false = omega arith

move_narrow : (a b : ℕ) → a < 16 → b < 16 → format_units (shortest_move a b) ≤ 1
move_narrow a b h g = rw (lt-ltb a 16 h, lt-ltb b 16 g) (omega arith)

move_first : (a b : ℕ) → a < 256 → format_units (shortest_move a b) ≤ 2
move_first a b h = rw (lt-ltb a 256 h) (at_most_two (nat_lt a 16 && nat_lt b 16))

move_any : (a b : ℕ) → format_units (shortest_move a b) ≤ 3
move_any a b = by (nat_lt a 16 && nat_lt b 16) (nat_lt a 256)
  where
    by : (p q : Bool) → format_units (cond p F12x (cond q F22x F32x)) ≤ 3
    by true q = omega arith
    by false true = omega arith
    by false false = omega arith

const_narrow : (a : ℕ) (z : ℤ) → a < 16 → fits_nibble z ≡ true → format_units (shortest_const a z) ≤ 1
const_narrow a z h e = rw (lt-ltb a 16 h, e) (omega arith)

const_short : (a : ℕ) (z : ℤ) → fits_short z ≡ true → format_units (shortest_const a z) ≤ 2
const_short a z e = rw e (by (nat_lt a 16 && fits_nibble z))
  where
    by : (p : Bool) → format_units (cond p F11n F21s) ≤ 2
    by true = omega arith
    by false = omega arith

const_high : (a : ℕ) (z : ℤ) → is_multiple z 65536 ≡ true → format_units (shortest_const a z) ≤ 2
const_high a z e = rw e (by (nat_lt a 16 && fits_nibble z) (fits_short z))
  where
    by : (p q : Bool) → format_units (cond p F11n (cond q F21s F21h)) ≤ 2
    by true q = omega arith
    by false true = omega arith
    by false false = omega arith

const_any : (a : ℕ) (z : ℤ) → format_units (shortest_const a z) ≤ 3
const_any a z = by (nat_lt a 16 && fits_nibble z) (fits_short z) (is_multiple z 65536)
  where
    by : (p q r : Bool) → format_units (cond p F11n (cond q F21s (cond r F21h F31i))) ≤ 3
    by true q r = omega arith
    by false true r = omega arith
    by false false true = omega arith
    by false false false = omega arith

wide_short : (z : ℤ) → fits_short z ≡ true → format_units (shortest_wide z) ≤ 2
wide_short z e = rw e (omega arith)

wide_high : (z : ℤ) → is_multiple z 281474976710656 ≡ true → format_units (shortest_wide z) ≤ 2
wide_high z e = rw e (by (fits_short z))
  where
    by : (p : Bool) → format_units (cond p F21s F21h) ≤ 2
    by true = omega arith
    by false = omega arith

wide_int : (z : ℤ) → fits_int z ≡ true → format_units (shortest_wide z) ≤ 3
wide_int z e = rw e (by (fits_short z) (is_multiple z 281474976710656))
  where
    by : (p q : Bool) → format_units (cond p F21s (cond q F21h F31i)) ≤ 3
    by true q = omega arith
    by false true = omega arith
    by false false = omega arith

wide_any : (z : ℤ) → format_units (shortest_wide z) ≤ 5
wide_any z = by (fits_short z) (is_multiple z 281474976710656) (fits_int z)
  where
    by : (p q r : Bool) → format_units (cond p F21s (cond q F21h (cond r F31i F51l))) ≤ 5
    by true q r = omega arith
    by false true r = omega arith
    by false false true = omega arith
    by false false false = omega arith

string_low : (n : ℕ) → n < 65536 → format_units (shortest_string n) ≤ 2
string_low n h = rw (lt-ltb n 65536 h) (omega arith)

string_any : (n : ℕ) → format_units (shortest_string n) ≤ 3
string_any n = by (nat_lt n 65536)
  where
    by : (p : Bool) → format_units (cond p F21c F31c) ≤ 3
    by true = omega arith
    by false = omega arith

binary_any : (to a b : ℕ) → format_units (shortest_binary to a b) ≤ 2
binary_any to a b = by (nat_eq to a && (nat_lt to 16 && nat_lt b 16))
  where
    by : (p : Bool) → format_units (cond p F12x F23x) ≤ 2
    by true = omega arith
    by false = omega arith

binary_narrow : (a b : ℕ) → a < 16 → b < 16 → format_units (shortest_binary a a b) ≤ 1
binary_narrow a b h g = rw (eq-eqb a a refl, lt-ltb a 16 h, lt-ltb b 16 g) (omega arith)

literal_any : (to a : ℕ) (z : ℤ) → format_units (shortest_literal to a z) ≤ 2
literal_any to a z = by (nat_lt to 256 && (nat_lt a 256 && fits_byte z))
  where
    by : (p : Bool) → format_units (cond p F22b F22s) ≤ 2
    by true = omega arith
    by false = omega arith

call_any : (words : List ℕ) → format_units (shortest_call words) ≤ 3
call_any words = by (fit_nibbles words)
  where
    by : (p : Bool) → format_units (cond p F35c F3rc) ≤ 3
    by true = omega arith
    by false = omega arith

abbrev at_least : ℕ → ℕ → Bool
at_least k op = format_passes (has_room k) op

abbrev moves : ℕ → Bool
moves op = format_passes is_narrow op || ((format_passes has_first op && at_least 2 op) || at_least 3 op)

abbrev arrays : ℕ → Bool
arrays op = (is_branch op || has_payload op) || at_least 2 op

abbrev operates : ℕ → Bool
operates op = (is_call op || (from_to op 0x7b 0x8f || (from_to op 0xb0 0xcf || from_to op 0xd0 0xd7))) || at_least 2 op

-- what is known of the text of an opcode, which has so many units
module _ (op : ℕ) (f : Fields) (n : ℕ) (low : op < 256) (narrow : format_passes is_narrow op ≡ true → Narrow f) (first : format_passes has_first op ≡ true → First f)
    (second : format_passes is_two op ≡ true → Small f) (room : (k : ℕ) → format_passes (has_room k) op ≡ true → k ≤ n)
  where
    one : 1 ≤ n
    one = room 1 (one_there (format_at op))

    exactly : (test : ℕ → Bool) (m : ℕ) → (op == m) ≡ true → test m ≡ true → test op ≡ true
    exactly test m e h = let same : m ≡ op = sym (eqb-true op m e) in subst (λ (o : ℕ). test o ≡ true) same h

    fixed : {i : Insn} → units_of i (pos 0) ≤ n → is_goto i ≡ false → condition_of i ≡ None → Fits n i
    fixed u g c = record { units = u; no_goto = g; no_condition = c }

    move : op < 0x12 → Fits n (move_form op f)
    unfolding format_at
    move lo = or (op == 0x00) (λ e. fixed one refl refl) (λ e. or (from_to op 0x01 0x09) (λ e. fixed (units (of_span moves 1 9 op refl e)) refl refl)
        (λ far. or (from_to op 0x0a 0x0c) (λ e. fixed one refl refl) (λ e. or (op == 0x0d) (λ e. fixed one refl refl) (λ e. or (op == 0x0e) (λ e. fixed one refl refl) (λ e. fixed one refl refl)))))
      where
        wider : (format_passes has_first op && at_least 2 op) ≡ true → format_units (shortest_move f.a f.b) ≤ n
        wider h = let p = and_parts (format_passes has_first op) (at_least 2 op) h in omega (arith, move_first f.a f.b (first p.0).a, room 2 p.1)

        units : moves op ≡ true → format_units (shortest_move f.a f.b) ≤ n
        units h = elim (or_cases (format_passes is_narrow op) ((format_passes has_first op && at_least 2 op) || at_least 3 op) h) [
          | inl e ↦ (let w = narrow e in omega (arith, move_narrow f.a f.b w.a w.b, one))
          | inr e ↦ elim (or_cases (format_passes has_first op && at_least 2 op) (at_least 3 op) e) [
            | inl g ↦ wider g
            | inr g ↦ omega (arith, move_any f.a f.b, room 3 g)
          ]
        ]

    -- the last of four opcodes
    fourth : (m : ℕ) → m ≤ op → op < m + 4 → (op == m) ≡ false → (op == m + 1) ≡ false → (op == m + 2) ≡ false → (op == m + 3) ≡ true
    fourth m lo hi a b c = eq-eqb op (m + 3) (omega (arith, lo, hi, eqb-false op m a, eqb-false op (m + 1) b, eqb-false op (m + 2) c))

    const : 0x12 ≤ op → op < 0x16 → Fits n (const_form op f)
    unfolding format_at
    const lo hi =
        or (op == 0x12) (λ e. let w = narrow (exactly (format_passes is_narrow) 0x12 e refl) in fixed (omega (arith, const_narrow f.a (nibble f.b) w.a (nibble_fits f.b w.b), one)) refl refl)
        (λ e1. or (op == 0x13) (λ e. fixed (omega (arith, const_short f.a (short f.b) (short_fits f.b (second (exactly (format_passes is_two) 0x13 e refl)).b), room 2 (exactly (at_least 2) 0x13 e refl))) refl refl)
        (λ e2. or (op == 0x14) (λ e. fixed (omega (arith, const_any f.a (word f.wide), room 3 (exactly (at_least 3) 0x14 e refl))) refl refl)
        (λ e3. let e : (op == 0x15) ≡ true = fourth 0x12 lo hi e1 e2 e3 in
        fixed (omega (arith, const_high f.a (word (f.b * 65536)) (word_high f.b (second (exactly (format_passes is_two) 0x15 e refl)).b), room 2 (exactly (at_least 2) 0x15 e refl))) refl refl)))

    wide : 0x16 ≤ op → op < 0x1a → Fits n (wide_form op f)
    unfolding format_at
    wide lo hi =
        or (op == 0x16) (λ e. fixed (omega (arith, wide_short (short f.b) (short_fits f.b (second (exactly (format_passes is_two) 0x16 e refl)).b), room 2 (exactly (at_least 2) 0x16 e refl))) refl refl)
        (λ e1. or (op == 0x17) (λ e. fixed (omega (arith, wide_int (word f.wide) (word_fits f.wide), room 3 (exactly (at_least 3) 0x17 e refl))) refl refl)
        (λ e2. or (op == 0x18) (λ e. fixed (omega (arith, wide_any (cast_signed w64 f.wide), room 5 (exactly (at_least 5) 0x18 e refl))) refl refl)
        (λ e3. let e : (op == 0x19) ≡ true = fourth 0x16 lo hi e1 e2 e3 in
        fixed (omega (arith, wide_high (cast_signed w64 (f.b * 281474976710656)) (long_high f.b (second (exactly (format_passes is_two) 0x19 e refl)).b), room 2 (exactly (at_least 2) 0x19 e refl))) refl refl)))

    two_at : (m : ℕ) → (op == m) ≡ true → at_least 2 m ≡ true → 2 ≤ n
    two_at m e h = room 2 (exactly (at_least 2) m e h)

    object : Fits n (object_form op f)
    unfolding format_at
    object =
        or (op == 0x1a) (λ e. fixed (omega (arith, string_low f.b (second (exactly (format_passes is_two) 0x1a e refl)).b, two_at 0x1a e refl)) refl refl)
        (λ _. or (op == 0x1b) (λ e. fixed (omega (arith, string_any (number f.wide), room 3 (exactly (at_least 3) 0x1b e refl))) refl refl)
        (λ _. or (op == 0x1c) (λ e. fixed (two_at 0x1c e refl) refl refl)
        (λ _. or (op == 0x1d) (λ _. fixed one refl refl)
        (λ _. or (op == 0x1e) (λ _. fixed one refl refl)
        (λ _. or (op == 0x1f) (λ e. fixed (two_at 0x1f e refl) refl refl)
        (λ _. or (op == 0x20) (λ e. fixed (two_at 0x20 e refl) refl refl)
        (λ _. or (op == 0x21) (λ _. fixed one refl refl)
        (λ _. or (op == 0x22) (λ e. fixed (two_at 0x22 e refl) refl refl)
        (λ _. or (op == 0x23) (λ e. fixed (two_at 0x23 e refl) refl refl)
        (λ _. fixed one refl refl))))))))))

    array : 0x28 ≤ op → op < 0x52 → is_branch op ≡ false → has_payload op ≡ false → Fits n (array_form op f)
    unfolding format_at
    array lo hi no_branch no_payload =
        let two = room 2 (behind (is_branch op || has_payload op) (at_least 2 op) (of_span arrays 0x28 0x51 op refl (range 0x28 0x51 op lo (omega (arith, hi)))) (none_or (is_branch op) (has_payload op) no_branch no_payload)) in
        or (from_to op 0x2d 0x31) (λ _. fixed two refl refl) (λ _. or (from_to op 0x44 0x4a) (λ _. fixed two refl refl) (λ _. fixed two refl refl))

    field : 0x52 ≤ op → op < 0x6e → Fits n (field_form op f)
    unfolding format_at
    field lo hi =
        let two = room 2 (of_span (at_least 2) 0x52 0x6d op refl (range 0x52 0x6d op lo (omega (arith, hi)))) in
        or (from_to op 0x52 0x58) (λ _. fixed two refl refl) (λ _. or (from_to op 0x59 0x5f) (λ _. fixed two refl refl) (λ _. or (from_to op 0x60 0x66) (λ _. fixed two refl refl) (λ _. fixed two refl refl)))

    operation : 0x6e ≤ op → is_call op ≡ false → Fits n (operation_form op f)
    unfolding format_at
    operation lo no_call =
        let there : operates op ≡ true = of_span operates 0x6e 0xff op refl (range 0x6e 0xff op lo (omega (arith, low))) in
        or (from_to op 0x7b 0x8f) (λ _. fixed one refl refl) (λ not_one.
        or (from_to op 0x90 0xaf) (λ e. fixed (omega (arith, binary_any f.a f.b f.c, room 2 (of_span (at_least 2) 0x90 0xaf op refl e))) refl refl) (λ _.
        or (from_to op 0xb0 0xcf) (λ e. let w = narrow (of_span (format_passes is_narrow) 0xb0 0xcf op refl e) in fixed (omega (arith, binary_narrow f.a f.b w.a w.b, one)) refl refl) (λ not_two.
        or (from_to op 0xd0 0xd7) (λ e. fixed (omega (arith, literal_any f.a f.b (short f.c), room 2 (of_span (at_least 2) 0xd0 0xd7 op refl e))) refl refl) (λ not_three.
        let two = room 2 (behind (is_call op || (from_to op 0x7b 0x8f || (from_to op 0xb0 0xcf || from_to op 0xd0 0xd7))) (at_least 2 op) there
        (none_or (is_call op) (from_to op 0x7b 0x8f || (from_to op 0xb0 0xcf || from_to op 0xd0 0xd7)) no_call
        (none_or (from_to op 0x7b 0x8f) (from_to op 0xb0 0xcf || from_to op 0xd0 0xd7) not_one (none_or (from_to op 0xb0 0xcf) (from_to op 0xd0 0xd7) not_two not_three)))) in
        fixed (omega (arith, literal_any f.a f.b (byte f.c), two)) refl refl))))

    pub plain_fits : is_call op ≡ false → is_branch op ≡ false → has_payload op ≡ false → Fits n (plain op f)
    unfolding plain
    plain_fits no_call no_branch no_payload =
        or (nat_lt op 0x12) (λ e. move (below op 0x12 e)) (λ e1.
        or (nat_lt op 0x16) (λ e. const (not_below op 0x12 e1) (below op 0x16 e)) (λ e2.
        or (nat_lt op 0x1a) (λ e. wide (not_below op 0x16 e2) (below op 0x1a e)) (λ e3.
        or (nat_lt op 0x28) (λ _. object) (λ e4.
        or (nat_lt op 0x52) (λ e. array (not_below op 0x28 e4) (below op 0x52 e) no_branch no_payload) (λ e5.
        or (nat_lt op 0x6e) (λ e. field (not_below op 0x52 e5) (below op 0x6e e)) (λ e6. operation (not_below op 0x6e e6) no_call))))))

    -- calls have three units, and so have instructions with a payload
    pub call_fits : is_call op ≡ true → Fits n (call_form op f)
    unfolding format_at
    call_fits is =
        let three = room 3 (by (from_to op 0x24 0x25) (from_to op 0x6e 0x72) refl refl is) in
        let words = words_form op f in
        or (from_to op 0x24 0x25) (λ _. fixed (omega (arith, call_any words, three)) refl refl) (λ _. or (is_range op) (λ _. fixed (omega (arith, call_any words, three)) refl refl) (λ _. fixed (omega (arith, call_any words, three)) refl refl))
      where
        by : (a b : Bool) → from_to op 0x24 0x25 ≡ a → from_to op 0x6e 0x72 ≡ b → (a || (b || from_to op 0x74 0x78)) ≡ true → at_least 3 op ≡ true
        by true b e g h = of_span (at_least 3) 0x24 0x25 op refl e
        by false true e g h = of_span (at_least 3) 0x6e 0x72 op refl g
        by false false e g h = of_span (at_least 3) 0x74 0x78 op refl h

    pub three_at : (m : ℕ) → op ≡ m → at_least 3 m ≡ true → 3 ≤ n
    three_at m e h = room 3 (subst (λ (o : ℕ). at_least 3 o ≡ true) (sym e) h)
