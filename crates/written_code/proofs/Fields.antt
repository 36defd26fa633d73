-- The fields that are written in the units of a format are read of them.
use Rattle.std.proofs.Common.{◌≡◌, ◌<◌, ◌+◌, ◌*◌, ◌-◌, ◌%◌, ◌/◌, ◌^◌, ℕ, Bool, List, [], ◌∷◌, length, Some, refl, ap, arith}
use Rattle.std.specs.Prelude.{slice_index, ◌&&◌, nat_le, if◌then◌else◌}
use Rattle.std.specs.List.{AllByRecursion}
use Rattle.std.proofs.lemmas.Bool.{ne_eqb}
use Rattle.insn_set.specs.Formats.{format_units}
use Rattle.insn_set.specs.declared.format.Format.{Format}
use Rattle.insn_set.specs.declared.format.Format.TheVariants.{F10x, F12x, F11n, F11x, F10t, F20t, F22x, F21t, F21s, F21h, F21c, F23x, F22b, F22t, F22s, F22c, F30t, F32x, F31i, F31t, F31c, F35c, F3rc, F51l}
use Rattle.code_read.specs.declared.fields.Fields.{Fields}
use Rattle.code_read.specs.Fields.{fields, fields_in}
use Rattle.code_read.specs.Sweep.{payload_kind}
use Rattle.code_write.specs.Fields.{three}
use Rattle.code_write.specs.Units.{byte_unit, nibble_unit, units_in}
use Rattle.dex_defs.specs.CodeTexts.{units_of}

-- the units are read as an instruction of this format, with this opcode and these fields, and have them in the shortest way
pub record Read (format : Format) (op : ℕ) (text : List ℕ) (f : Fields) : Type 0 where
  pub opcode : slice_index text 0 % 256 ≡ op
  pub kind : payload_kind (slice_index text 0) ≡ 0
  pub long : length text ≡ format_units format
  pub fields_are : fields_in format text ≡ Some f
  pub again : text ≡ units_of format op f
  pub fits : AllByRecursion (λ u. u < 65536) text

-- ---- the first unit

pub record First (u op : ℕ) : Type 0 where
  pub opcode : u % 256 ≡ op
  pub kind : payload_kind u ≡ 0
  pub fits : u < 65536

pub none_begins : (u op : ℕ) → u % 256 ≡ op → 0 < op → payload_kind u ≡ 0
none_begins u op e lt = ap (λ (b : Bool). if b && nat_le (u / 256) 3 then u / 256 else 0) (ne_eqb (u % 256) 0 (λ z. omega (arith, e, lt, z)))

pub first_byte : (op a : ℕ) → 0 < op → op < 256 → First (byte_unit op a) op
first_byte op a some lt =
    let e : (op + 256 * (a % 256)) % 256 ≡ op = omega (arith, lt) in
    record { opcode = e; kind = none_begins (op + 256 * (a % 256)) op e some; fits = omega (arith, lt) }

pub first_nibbles : (op a b : ℕ) → 0 < op → op < 256 → First (nibble_unit op a b) op
first_nibbles op a b some lt =
    let e : (op + 256 * (a % 16) + 4096 * (b % 16)) % 256 ≡ op = omega (arith, lt) in
    record { opcode = e; kind = none_begins (op + 256 * (a % 16) + 4096 * (b % 16)) op e some; fits = omega (arith, lt) }

pub first_alone : (op : ℕ) → 0 < op → op < 256 → First op op
first_alone op some lt =
    let e : op % 256 ≡ op = omega (arith, lt) in
    record { opcode = e; kind = none_begins op op e some; fits = omega (arith, lt) }

-- ---- formats of three small fields

abbrev pub Narrow : Format → Type 0
Narrow F35c = ⊥
Narrow F51l = ⊥
Narrow format = Unit {0}

abbrev pub back : Format → ℕ → ℕ → ℕ → Fields
back F10x a b c = fields 0 0 0 0
back F12x a b c = fields (a % 16) (b % 16) 0 0
back F11n a b c = fields (a % 16) (b % 16) 0 0
back F11x a b c = fields (a % 256) 0 0 0
back F10t a b c = fields (a % 256) 0 0 0
back F20t a b c = fields (b % 65536) 0 0 0
back F23x a b c = fields (a % 256) (b % 256) (c % 256) 0
back F22b a b c = fields (a % 256) (b % 256) (c % 256) 0
back F22t a b c = fields (a % 16) (b % 16) (c % 65536) 0
back F22s a b c = fields (a % 16) (b % 16) (c % 65536) 0
back F22c a b c = fields (a % 16) (b % 16) (c % 65536) 0
back F30t a b c = fields 0 0 0 b
back F32x a b c = fields (a % 65536) (b % 65536) 0 0
back F31i a b c = fields (a % 256) 0 0 b
back F31t a b c = fields (a % 256) 0 0 b
back F31c a b c = fields (a % 256) 0 0 b
back F3rc a b c = fields (a % 256) (b % 65536) (c % 65536) 0
back format a b c = fields (a % 256) (b % 65536) 0 0

pub some_fields : (a a' b b' c c' w w' : ℕ) → a ≡ a' → b ≡ b' → c ≡ c' → w ≡ w' → Some (fields a b c w) ≡ Some (fields a' b' c' w')
some_fields a a' b b' c c' w w' ea eb ec ew = rw (ea, eb, ec, ew) refl

high_byte : (op a : ℕ) → op < 256 → (op + 256 * (a % 256)) / 256 ≡ a % 256
high_byte op a lt = omega (arith, lt)

low_nibble : (op a b : ℕ) → op < 256 → (op + 256 * (a % 16) + 4096 * (b % 16)) / 256 % 16 ≡ a % 16
low_nibble op a b lt = omega (arith, lt)

high_nibble : (op a b : ℕ) → op < 256 → (op + 256 * (a % 16) + 4096 * (b % 16)) / 4096 ≡ b % 16
high_nibble op a b lt = omega (arith, lt)

whole_word : (b : ℕ) → b % 65536 + 65536 * (b / 65536) ≡ b
whole_word b = omega arith

half : (b : ℕ) → b % 65536 < 65536
half b = omega arith

upper : (b : ℕ) → b < 2 ^ 32 → b / 65536 < 65536
upper b lt = omega (arith, lt)

two_low : (b c : ℕ) → (b % 256 + 256 * (c % 256)) % 256 ≡ b % 256
two_low b c = omega arith

two_high : (b c : ℕ) → (b % 256 + 256 * (c % 256)) / 256 ≡ c % 256
two_high b c = omega arith

two_fit : (b c : ℕ) → b % 256 + 256 * (c % 256) < 65536
two_fit b c = omega arith

module _ (op a b c : ℕ) (some : 0 < op) (lt : op < 256) (few : b < 2 ^ 32) where
  byte : First (byte_unit op a) op
  byte = first_byte op a some lt

  nibbles : First (nibble_unit op a b) op
  nibbles = first_nibbles op a b some lt

  alone : First op op
  alone = first_alone op some lt

  abbrev Is : Format → Type 0
  Is format = Read format op (units_in format op (three a b c)) (back format a b c)

  one_byte : fields_in F11x (units_in F11x op (three a b c)) ≡ Some (back F11x a b c)
  one_byte = some_fields ((op + 256 * (a % 256)) / 256) (a % 256) 0 0 0 0 0 0 (high_byte op a lt) refl refl refl

  one_nibbles : fields_in F12x (units_in F12x op (three a b c)) ≡ Some (back F12x a b c)
  one_nibbles = some_fields ((op + 256 * (a % 16) + 4096 * (b % 16)) / 256 % 16) (a % 16) ((op + 256 * (a % 16) + 4096 * (b % 16)) / 4096) (b % 16) 0 0 0 0 (low_nibble op a b lt) (high_nibble op a b lt) refl refl

  two_bytes : fields_in F21c (units_in F21c op (three a b c)) ≡ Some (back F21c a b c)
  two_bytes = some_fields ((op + 256 * (a % 256)) / 256) (a % 256) (b % 65536) (b % 65536) 0 0 0 0 (high_byte op a lt) refl refl refl

  three_bytes : fields_in F23x (units_in F23x op (three a b c)) ≡ Some (back F23x a b c)
  three_bytes = some_fields ((op + 256 * (a % 256)) / 256) (a % 256) ((b % 256 + 256 * (c % 256)) % 256) (b % 256) ((b % 256 + 256 * (c % 256)) / 256) (c % 256) 0 0 (high_byte op a lt) (two_low b c) (two_high b c) refl

  two_nibbles : fields_in F22c (units_in F22c op (three a b c)) ≡ Some (back F22c a b c)
  two_nibbles = some_fields ((op + 256 * (a % 16) + 4096 * (b % 16)) / 256 % 16) (a % 16) ((op + 256 * (a % 16) + 4096 * (b % 16)) / 4096) (b % 16) (c % 65536) (c % 65536) 0 0 (low_nibble op a b lt) (high_nibble op a b lt) refl refl

  byte_word : fields_in F31i (units_in F31i op (three a b c)) ≡ Some (back F31i a b c)
  byte_word = some_fields ((op + 256 * (a % 256)) / 256) (a % 256) 0 0 0 0 (b % 65536 + 65536 * (b / 65536)) b (high_byte op a lt) refl refl (whole_word b)

  pub narrow : (format : Format) → Narrow format → Is format
  narrow F10x n = record { opcode = alone.opcode; kind = alone.kind; long = refl; fields_are = refl; again = refl; fits = (alone.fits, tt) }
  narrow F12x n = record { opcode = nibbles.opcode; kind = nibbles.kind; long = refl; fields_are = one_nibbles; again = refl; fits = (nibbles.fits, tt) }
  narrow F11n n = record { opcode = nibbles.opcode; kind = nibbles.kind; long = refl; fields_are = one_nibbles; again = refl; fits = (nibbles.fits, tt) }
  narrow F11x n = record { opcode = byte.opcode; kind = byte.kind; long = refl; fields_are = one_byte; again = refl; fits = (byte.fits, tt) }
  narrow F10t n = record { opcode = byte.opcode; kind = byte.kind; long = refl; fields_are = one_byte; again = refl; fits = (byte.fits, tt) }
  narrow F20t n = record { opcode = alone.opcode; kind = alone.kind; long = refl; fields_are = refl; again = refl; fits = (alone.fits, (half b, tt)) }
  narrow F22x n = record { opcode = byte.opcode; kind = byte.kind; long = refl; fields_are = two_bytes; again = refl; fits = (byte.fits, (half b, tt)) }
  narrow F21t n = record { opcode = byte.opcode; kind = byte.kind; long = refl; fields_are = two_bytes; again = refl; fits = (byte.fits, (half b, tt)) }
  narrow F21s n = record { opcode = byte.opcode; kind = byte.kind; long = refl; fields_are = two_bytes; again = refl; fits = (byte.fits, (half b, tt)) }
  narrow F21h n = record { opcode = byte.opcode; kind = byte.kind; long = refl; fields_are = two_bytes; again = refl; fits = (byte.fits, (half b, tt)) }
  narrow F21c n = record { opcode = byte.opcode; kind = byte.kind; long = refl; fields_are = two_bytes; again = refl; fits = (byte.fits, (half b, tt)) }
  narrow F23x n = record { opcode = byte.opcode; kind = byte.kind; long = refl; fields_are = three_bytes; again = refl; fits = (byte.fits, (two_fit b c, tt)) }
  narrow F22b n = record { opcode = byte.opcode; kind = byte.kind; long = refl; fields_are = three_bytes; again = refl; fits = (byte.fits, (two_fit b c, tt)) }
  narrow F22t n = record { opcode = nibbles.opcode; kind = nibbles.kind; long = refl; fields_are = two_nibbles; again = refl; fits = (nibbles.fits, (half c, tt)) }
  narrow F22s n = record { opcode = nibbles.opcode; kind = nibbles.kind; long = refl; fields_are = two_nibbles; again = refl; fits = (nibbles.fits, (half c, tt)) }
  narrow F22c n = record { opcode = nibbles.opcode; kind = nibbles.kind; long = refl; fields_are = two_nibbles; again = refl; fits = (nibbles.fits, (half c, tt)) }
  narrow F30t n = record { opcode = alone.opcode; kind = alone.kind; long = refl; fields_are = ap (λ (w : ℕ). Some (fields 0 0 0 w)) (whole_word b); again = refl; fits = (alone.fits, (half b, (upper b few, tt))) }
  narrow F32x n = record { opcode = alone.opcode; kind = alone.kind; long = refl; fields_are = refl; again = refl; fits = (alone.fits, (half a, (half b, tt))) }
  narrow F31i n = record { opcode = byte.opcode; kind = byte.kind; long = refl; fields_are = byte_word; again = refl; fits = (byte.fits, (half b, (upper b few, tt))) }
  narrow F31t n = record { opcode = byte.opcode; kind = byte.kind; long = refl; fields_are = byte_word; again = refl; fits = (byte.fits, (half b, (upper b few, tt))) }
  narrow F31c n = record { opcode = byte.opcode; kind = byte.kind; long = refl; fields_are = byte_word; again = refl; fits = (byte.fits, (half b, (upper b few, tt))) }
  narrow F35c n = absurd n
  narrow F3rc n = record { opcode = byte.opcode; kind = byte.kind; long = refl; fields_are = some_fields ((op + 256 * (a % 256)) / 256) (a % 256) (b % 65536) (b % 65536) (c % 65536) (c % 65536) 0 0 (high_byte op a lt) refl refl refl; again = refl; fits = (byte.fits, (half b, (half c, tt))) }
  narrow F51l n = absurd n

-- no field at all, and the opcode 0
pub read_nop : Read F10x 0 (0 ∷ []) (fields 0 0 0 0)
read_nop = record { opcode = refl; kind = refl; long = refl; fields_are = refl; again = refl; fits = (omega arith, tt) }
