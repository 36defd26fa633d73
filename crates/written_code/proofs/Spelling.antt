-- The units of each instruction are those of its shortest spelling.
use Rattle.std.proofs.Common.{◌≡◌, ◌<◌, ◌+◌, ◌*◌, ◌-◌, ◌%◌, ◌/◌, ◌^◌, ℕ, ℤ, pos, ◌-ℤ◌, Bool, true, false, List, [], ◌∷◌, length, Some, refl, sym, ap, subst, ◌∙◌, arith, ltb-true}
use Rattle.std.specs.Prelude.{FitsSigned, nat_lt, nat_eq, ◌||◌, ◌&&◌, if◌then◌else◌}
use Rattle.std.specs.Ordering.{int_eq}
use Rattle.std.specs.Int.{w16, w32, w64, cast_unsigned, cast_signed}
use Rattle.std.specs.List.{AllByRecursion, list_all}
use Rattle.std.specs.Cmp.{signed_Decides}
use Rattle.std.proofs.lemmas.Bool.{and_parts, eqb-true}
use Rattle.lemmas.proofs.Bools.{clash}
use Rattle.insn_set.specs.Spelling.{shortest, shortest_goto, shortest_move, shortest_const, shortest_wide, shortest_string, shortest_call, shortest_binary, shortest_literal, fits_nibble, fits_byte, fits_short, fits_int, is_multiple, fit_nibbles, fit_call, is_width, fits_width, keys_ascend, takes_short, is_encodable}
use Rattle.insn_set.specs.declared.format.Format.{Format}
use Rattle.insn_set.specs.declared.format.Format.TheVariants.{F10x, F12x, F11n, F11x, F10t, F20t, F22x, F21t, F21s, F21h, F21c, F23x, F22b, F22t, F22s, F22c, F30t, F32x, F31i, F31t, F31c, F35c, F3rc, F51l}
use Rattle.insn_set.specs.declared.ops.LiteralOp.{LiteralOp}
use Rattle.insn_set.specs.declared.ops.BinaryOp.{BinaryOp}
use Rattle.insn_set.specs.declared.ops.InvokeKind.{InvokeKind}
use Rattle.insn_set.specs.declared.ops.Slot.{Slot}
use Rattle.insn_set.specs.declared.form.Insn.{Insn}
use Rattle.insn_set.specs.declared.form.Insn.TheVariants.{Nop, Move, MoveResult, MoveException, ReturnVoid, Return, Const, ConstWide, ConstString, ConstClass, MonitorEnter, MonitorExit, CheckCast, InstanceOf, ArrayLength, NewInstance, NewArray, FilledNewArray, FillArray, Throw, Goto, PackedSwitch, SparseSwitch, Cmp, If, IfZero, ArrayGet, ArrayPut, InstanceGet, InstancePut, StaticGet, StaticPut, Invoke, Unary, Binary, Literal}
use Rattle.program_model.specs.declared.pass.Renumber.{Renumber}
use Rattle.code_read.specs.declared.fields.Fields.{Fields}
use Rattle.code_read.specs.Fields.{fields}
use Rattle.code_read.specs.Opcodes.{format_at}
use Rattle.code_read.specs.Forms.{nibble, byte, short, word, plain}
use Rattle.relax.specs.Steps.{renumbered as old_number}
use Rattle.code_write.specs.Places.{slot_place, item_place, cmp_place, test_place, kind_place, unary_place, binary_place, literal_place}
use Rattle.code_write.specs.Opcodes.{opcode_of}
use Rattle.code_write.specs.Fields.{three, fields_of}
use Rattle.code_write.specs.Units.{byte_unit, units_in}
use Rattle.code_write.specs.Code.{far_of, insn_units}
use Rattle.dex_pools.specs.Written.{renumbered}
use Rattle.dex_defs.specs.Written.{new_string, new_type, new_field, new_method, new_insn}
use Rattle.written_code.proofs.Signed.{Near, near_byte, near_short, near_int, near_nibble, near_word, near_long, near_half, few_bits, long_bits, nibble_back, short_back, word_back, high_back, wide_short, wide_word, wide_high, long_back, half_back, low_back, far_few, far_word, far_short, far_byte, near_spans, zero_near}
use Rattle.written_code.proofs.Fields.{Read, First, first_byte, Narrow, back, some_fields, narrow, read_nop}
use Rattle.written_code.proofs.Forms
use Rattle.written_code.proofs.Forms.{Form, APlain, ABranch, AFill, APacked, ASparse, Spelt, InWidth, Renamed, NumbersFit, HasRoom, BranchRow, of_row, distance, IsBranchTo}
use Rattle.written_code.proofs.Calls.{by_nibbles, by_range}

-- ---- choices

yes : (a : Bool) (x y : Format) → a ≡ true → x ≡ (if a then x else y)
yes a x y e = sym (ap (λ (t : Bool). if t then x else y) e)

no : (a : Bool) (x y z : Format) → a ≡ false → z ≡ y → z ≡ (if a then x else y)
no a x y z e same = same ∙ sym (ap (λ (t : Bool). if t then x else y) e)

nibble_low : (a : ℕ) → a < 16 → a % 16 ≡ a
nibble_low a lt = omega (arith, lt)

byte_low : (a : ℕ) → a < 256 → a % 256 ≡ a
byte_low a lt = omega (arith, lt)

half_low : (a : ℕ) → a < 65536 → a % 65536 ≡ a
half_low a lt = omega (arith, lt)

few_half : (a : ℕ) → a < 65536 → a < 2 ^ 32
few_half a lt = omega (arith, lt)

few_byte : (a : ℕ) → a < 256 → a < 2 ^ 32
few_byte a lt = omega (arith, lt)

few_none : 0 < 2 ^ 32
few_none = omega arith

-- the number that the units have
abbrev kind_of : Renumber → ℕ → ℕ
kind_of r n = old_number r.types.items n

abbrev field_of : Renumber → ℕ → ℕ
field_of r n = old_number r.fields.items n

abbrev method_of : Renumber → ℕ → ℕ
method_of r n = old_number r.methods.items n

abbrev string_of : Renumber → ℕ → ℕ
string_of r n = old_number r.strings.items n

renamed_low : (table : List ℕ) (n bound : ℕ) → Renamed table n bound → old_number table n < bound
renamed_low table n bound h = subst (λ k. k < bound) (sym h.same) h.low

few_same : (table : List ℕ) (n : ℕ) → Renamed table n 65536 → old_number table n < 2 ^ 32
few_same table n h = few_half (old_number table n) (renamed_low table n 65536 h)

half_same : (table : List ℕ) (n : ℕ) → (h : Renamed table n 65536) → old_number table n % 65536 ≡ renumbered table n
half_same table n h = half_low (old_number table n) (renamed_low table n 65536 h) ∙ h.same

same_1 : (form : ℕ → Insn) (a a' : ℕ) → a ≡ a' → form a ≡ form a'
same_1 form a a' e = ap form e

same_2 : (form : ℕ → ℕ → Insn) (a a' b b' : ℕ) → a ≡ a' → b ≡ b' → form a b ≡ form a' b'
same_2 form a a' b b' e g = rw (e, g) refl

same_3 : (form : ℕ → ℕ → ℕ → Insn) (a a' b b' c c' : ℕ) → a ≡ a' → b ≡ b' → c ≡ c' → form a b c ≡ form a' b' c'
same_3 form a a' b b' c c' e g h = rw (e, g, h) refl

same_value : (form : ℕ → ℤ → Insn) (a a' : ℕ) (z z' : ℤ) → a ≡ a' → z ≡ z' → form a z ≡ form a' z'
same_value form a a' z z' e g = rw (e, g) refl

same_literal : (form : ℕ → ℕ → ℤ → Insn) (a a' b b' : ℕ) (z z' : ℤ) → a ≡ a' → b ≡ b' → z ≡ z' → form a b z ≡ form a' b' z'
same_literal form a a' b b' z z' e g h = rw (e, g, h) refl

two_low : (a b : ℕ) (m n : ℕ) → (nat_lt a m && nat_lt b n) ≡ true → (a < m) × (b < n)
two_low a b m n h = let both = and_parts (nat_lt a m) (nat_lt b n) h in (ltb-true a m both.0, ltb-true b n both.1)

three_low : (a b c : ℕ) → (nat_lt a 256 && (nat_lt b 256 && nat_lt c 256)) ≡ true → (a < 256) × ((b < 256) × (c < 256))
three_low a b c h = let both = and_parts (nat_lt a 256) (nat_lt b 256 && nat_lt c 256) h in (ltb-true a 256 both.0, two_low b c 256 256 both.1)

-- ---- what is written in this format

abbrev As : Renumber → ℕ → ℕ → Insn → Format → Type 0
As r from to x format = Spelt (new_insn r x) from to (units_in format (opcode_of x format) (fields_of x format r (far_of from to)))

-- ---- moves

moves : (r : Renumber) (fr far : ℕ) (slot : Slot) (to from : ℕ) → (to < 65536) × (from < 65536) → As r fr far (Move slot to from) (shortest_move to from)
moves r fr far slot to from wide = by (nat_lt to 16 && nat_lt from 16) (nat_lt to 256) refl refl
  where
    by : (a b : Bool) → (nat_lt to 16 && nat_lt from 16) ≡ a → nat_lt to 256 ≡ b → As r fr far (Move slot to from) (if a then F12x else if b then F22x else F32x)
    by true b ea eb =
        let low = two_low to from 16 16 ea in
        of_row (Move slot to from) fr far F12x (1 + 3 * slot_place slot) to from 0 (λ f. Move slot f.a f.b) (Forms.move_row slot) tt (few_half from wide.1) (yes (nat_lt to 16 && nat_lt from 16) F12x (if nat_lt to 256 then F22x else F32x) ea) (same_2 (Move slot) (to % 16) to (from % 16) from (nibble_low to low.0) (nibble_low from low.1))
    by false true ea eb = of_row (Move slot to from) fr far F22x (2 + 3 * slot_place slot) to from 0 (λ f. Move slot f.a f.b) (Forms.move_from_row slot) tt (few_half from wide.1) (no (nat_lt to 16 && nat_lt from 16) F12x (if nat_lt to 256 then F22x else F32x) F22x ea (yes (nat_lt to 256) F22x F32x eb))
        (same_2 (Move slot) (to % 256) to (from % 65536) from (byte_low to (ltb-true to 256 eb)) (half_low from wide.1))
    by false false ea eb = of_row (Move slot to from) fr far F32x (3 + 3 * slot_place slot) to from 0 (λ f. Move slot f.a f.b) (Forms.move_16_row slot) tt (few_half from wide.1) (no (nat_lt to 16 && nat_lt from 16) F12x (if nat_lt to 256 then F22x else F32x) F32x ea (no (nat_lt to 256) F22x F32x F32x eb refl))
        (same_2 (Move slot) (to % 65536) to (from % 65536) from (half_low to wide.0) (half_low from wide.1))

-- ---- literals

consts : (r : Renumber) (fr far to : ℕ) (value : ℤ) → to < 256 → FitsSigned w32 value → As r fr far (Const to value) (shortest_const to value)
consts r fr far to value low wide = by (nat_lt to 16 && fits_nibble value) (fits_short value) (is_multiple value 65536) refl refl refl
  where
    near : Near 2147483648 value
    near = near_word value wide

    bits : cast_unsigned w32 value < 2 ^ 32
    bits = few_bits value near

    by : (a b c : Bool) → (nat_lt to 16 && fits_nibble value) ≡ a → fits_short value ≡ b → is_multiple value 65536 ≡ c → As r fr far (Const to value) (if a then F11n else if b then F21s else if c then F21h else F31i)
    by true b c ea eb ec =
        let both = and_parts (nat_lt to 16) (fits_nibble value) ea in
        of_row (Const to value) fr far F11n 0x12 to (cast_unsigned w32 value) 0 (λ f. Const f.a (nibble f.b)) Forms.const_4_row tt bits (yes (nat_lt to 16 && fits_nibble value) F11n (if fits_short value then F21s else if is_multiple value 65536 then F21h else F31i) ea)
        (same_value Const (to % 16) to (nibble (cast_unsigned w32 value % 16)) value (nibble_low to (ltb-true to 16 both.0)) (nibble_back value (near_nibble value both.1)))
    by false true c ea eb ec = of_row (Const to value) fr far F21s 0x13 to (cast_unsigned w32 value) 0 (λ f. Const f.a (short f.b)) Forms.const_16_row tt bits
        (no (nat_lt to 16 && fits_nibble value) F11n (if fits_short value then F21s else if is_multiple value 65536 then F21h else F31i) F21s ea (yes (fits_short value) F21s (if is_multiple value 65536 then F21h else F31i) eb))
        (same_value Const (to % 256) to (short (cast_unsigned w32 value % 65536)) value (byte_low to low) (short_back value (near_short value eb)))
    by false false true ea eb ec = of_row (Const to value) fr far F21h 0x15 to (cast_unsigned w32 value / 65536) 0 (λ f. Const f.a (word (f.b * 65536))) Forms.const_high_row tt (omega (arith, bits))
        (no (nat_lt to 16 && fits_nibble value) F11n (if fits_short value then F21s else if is_multiple value 65536 then F21h else F31i) F21h ea (no (fits_short value) F21s (if is_multiple value 65536 then F21h else F31i) F21h eb (yes (is_multiple value 65536) F21h F31i ec)))
        (same_value Const (to % 256) to (word (cast_unsigned w32 value / 65536 % 65536 * 65536)) value (byte_low to low) (high_back value near ec))
    by false false false ea eb ec = of_row (Const to value) fr far F31i 0x14 to (cast_unsigned w32 value) 0 (λ f. Const f.a (word f.wide)) Forms.const_row tt bits
        (no (nat_lt to 16 && fits_nibble value) F11n (if fits_short value then F21s else if is_multiple value 65536 then F21h else F31i) F31i ea (no (fits_short value) F21s (if is_multiple value 65536 then F21h else F31i) F31i eb (no (is_multiple value 65536) F21h F31i F31i ec refl)))
        (same_value Const (to % 256) to (word (cast_unsigned w32 value)) value (byte_low to low) (word_back value near))

-- the units of a literal of 64 bits
same_five : (u v w x y v' y' : ℕ) → v ≡ v' → y ≡ y' → (u ∷ v ∷ w ∷ x ∷ y ∷ []) ≡ (u ∷ v' ∷ w ∷ x ∷ y' ∷ [])
same_five u v w x y v' y' e g = rw (e, g) refl

long_read : (op a long : ℕ) → 0 < op → op < 256 → long < 2 ^ 64 → Read F51l op (byte_unit op a ∷ (long / 1 % 65536) ∷ (long / 65536 % 65536) ∷ (long / 4294967296 % 65536) ∷ (long / 281474976710656 % 65536) ∷ []) (fields (a % 256) 0 0 long)
long_read op a long some lt few =
    let first : First (byte_unit op a) op = first_byte op a some lt in
    let low : long / 1 % 65536 ≡ long % 65536 = omega arith in
    let high : long / 281474976710656 % 65536 ≡ long / 281474976710656 = omega (arith, few) in
    record {
      opcode = first.opcode;
      kind = first.kind;
      long = refl;
      fields_are = some_fields ((op + 256 * (a % 256)) / 256) (a % 256) 0 0 0 0 ((long / 1 % 65536 + 65536 * (long / 65536 % 65536)) + 4294967296 * (long / 4294967296 % 65536 + 65536 * (long / 281474976710656 % 65536))) long (omega (arith, lt)) refl refl (omega (arith, few));
      again = same_five (op + 256 * (a % 256)) (long / 1 % 65536) (long / 65536 % 65536) (long / 4294967296 % 65536) (long / 281474976710656 % 65536) (long % 65536) (long / 281474976710656) low high;
      fits = (first.fits, (omega arith, (omega arith, (omega arith, (omega arith, tt)))));
    }

wides : (r : Renumber) (fr far to : ℕ) (value : ℤ) → to < 256 → FitsSigned w64 value → As r fr far (ConstWide to value) (shortest_wide value)
wides r fr far to value low wide = by (fits_short value) (is_multiple value 281474976710656) (fits_int value) refl refl refl
  where
    bits : cast_unsigned w64 value < 2 ^ 64
    bits = long_bits value (near_long value wide)

    by : (a b c : Bool) → fits_short value ≡ a → is_multiple value 281474976710656 ≡ b → fits_int value ≡ c → As r fr far (ConstWide to value) (if a then F21s else if b then F21h else if c then F31i else F51l)
    by true b c ea eb ec = of_row (ConstWide to value) fr far F21s 0x16 to (cast_unsigned w64 value % 4294967296) 0 (λ f. ConstWide f.a (short f.b)) Forms.wide_16_row tt (omega arith)
        (yes (fits_short value) F21s (if is_multiple value 281474976710656 then F21h else if fits_int value then F31i else F51l) ea)
        (same_value ConstWide (to % 256) to (short (cast_unsigned w64 value % 4294967296 % 65536)) value (byte_low to low) (wide_short value (near_short value ea)))
    by false true c ea eb ec = of_row (ConstWide to value) fr far F21h 0x19 to (cast_unsigned w64 value / 281474976710656) 0 (λ f. ConstWide f.a (cast_signed w64 (f.b * 281474976710656))) Forms.wide_high_row tt (omega (arith, bits))
        (no (fits_short value) F21s (if is_multiple value 281474976710656 then F21h else if fits_int value then F31i else F51l) F21h ea (yes (is_multiple value 281474976710656) F21h (if fits_int value then F31i else F51l) eb))
        (same_value ConstWide (to % 256) to (cast_signed w64 (cast_unsigned w64 value / 281474976710656 % 65536 * 281474976710656)) value (byte_low to low) (wide_high value (near_long value wide) eb))
    by false false true ea eb ec = of_row (ConstWide to value) fr far F31i 0x17 to (cast_unsigned w64 value % 4294967296) 0 (λ f. ConstWide f.a (word f.wide)) Forms.wide_32_row tt (omega arith)
        (no (fits_short value) F21s (if is_multiple value 281474976710656 then F21h else if fits_int value then F31i else F51l) F31i ea (no (is_multiple value 281474976710656) F21h (if fits_int value then F31i else F51l) F31i eb (yes (fits_int value) F31i F51l ec)))
        (same_value ConstWide (to % 256) to (word (cast_unsigned w64 value % 4294967296)) value (byte_low to low) (wide_word value (near_int value ec)))
    by false false false ea eb ec = record {
      format = F51l;
      op = 0x18;
      f = fields (to % 256) 0 0 (cast_unsigned w64 value);
      read = long_read 0x18 to (cast_unsigned w64 value) (omega arith) (omega arith) bits;
      row = Forms.wide_row.row;
      least = no (fits_short value) F21s (if is_multiple value 281474976710656 then F21h else if fits_int value then F31i else F51l) F51l ea (no (is_multiple value 281474976710656) F21h (if fits_int value then F31i else F51l) F51l eb (no (fits_int value) F31i F51l F51l ec refl));
      form = APlain Forms.wide_row.kind (sym (Forms.wide_row.is (fields (to % 256) 0 0 (cast_unsigned w64 value)) ∙ same_value ConstWide (to % 256) to (cast_signed w64 (cast_unsigned w64 value)) value (byte_low to low) (long_back value (near_long value wide))));
    }

strings : (r : Renumber) (fr far to string : ℕ) → to < 256 → Renamed r.strings.items string (2 ^ 32) → As r fr far (ConstString to string) (shortest_string (string_of r string))
strings r fr far to string low h = by (nat_lt (string_of r string) 65536) refl
  where
    few : string_of r string < 2 ^ 32
    few = renamed_low r.strings.items string (2 ^ 32) h

    renamed : shortest_string (string_of r string) ≡ shortest_string (new_string r string)
    renamed = ap shortest_string h.same

    by : (a : Bool) → nat_lt (string_of r string) 65536 ≡ a → As r fr far (ConstString to string) (if a then F21c else F31c)
    by true ea = of_row (ConstString to (new_string r string)) fr far F21c 0x1a to (string_of r string) 0 (λ f. ConstString f.a f.b) Forms.string_row tt few (yes (nat_lt (string_of r string) 65536) F21c F31c ea ∙ renamed) (same_2 ConstString (to % 256) to (string_of r string % 65536) (new_string r string) (byte_low to low) (half_low (string_of r string) (ltb-true (string_of r string) 65536 ea) ∙ h.same))
    by false ea =
        let same : string_of r string % 4294967296 ≡ string_of r string = omega (arith, few) in
        of_row (ConstString to (new_string r string)) fr far F31c 0x1b to (string_of r string) 0 (λ f. ConstString f.a (f.wide % 4294967296)) Forms.jumbo_row tt few (no (nat_lt (string_of r string) 65536) F21c F31c F31c ea refl ∙ renamed) (same_2 ConstString (to % 256) to (string_of r string % 4294967296) (new_string r string) (byte_low to low) (same ∙ h.same))

-- ---- branches

branch : (x : Insn) (from to target : ℕ) (format : Format) (op a b c : ℕ) (form : Fields → ℕ → Insn) (offset : Fields → ℤ) → BranchRow op format form offset → Narrow format → b < 2 ^ 32 → format ≡ shortest x (distance x from to)
    → IsBranchTo x target → form (back format a b c) target ≡ x → offset (back format a b c) ≡ (pos to -ℤ pos from) → ((pos to -ℤ pos from) ≡ pos 0 → op ≡ 0x2a) → Spelt x from to (units_in format op (three a b c))
branch x from to target format op a b c form offset r n few least goes is off moves = record {
  format = format;
  op = op;
  f = back format a b c;
  read = narrow op a b c r.some r.small few format n;
  row = r.row;
  least = least;
  form = ABranch target r.kind goes (sym (r.is (back format a b c) target ∙ is)) (r.offset_is (back format a b c) ∙ off) moves;
}

gotos : (r : Renumber) (from to target : ℕ) → from < 2 ^ 31 → to < 2 ^ 31 → As r from to (Goto target) (shortest_goto (pos to -ℤ pos from))
gotos r from to target lf lt = by (int_eq d (pos 0)) (fits_byte d) (fits_short d) refl refl refl
  where
    d : ℤ
    d = pos to -ℤ pos from

    few : far_of from to < 2 ^ 32
    few = far_few from to lf lt

    elsewhere : {op : ℕ} → int_eq d (pos 0) ≡ false → d ≡ pos 0 → op ≡ 0x2a
    elsewhere e z = clash (int_eq d (pos 0)) ((signed_Decides d (pos 0)).1 z) e

    by : (a b c : Bool) → int_eq d (pos 0) ≡ a → fits_byte d ≡ b → fits_short d ≡ c → As r from to (Goto target) (if a then F30t else if b then F10t else if c then F20t else F30t)
    by true b c ea eb ec = branch (Goto target) from to target F30t 0x2a (far_of from to) (far_of from to) 0 (λ f t. Goto t) (λ f. word f.wide) Forms.goto_32_row tt few (yes (int_eq d (pos 0)) F30t (if fits_byte d then F10t else if fits_short d then F20t else F30t) ea) refl refl (far_word from to lf lt) (λ z. refl)
    by false true c ea eb ec = branch (Goto target) from to target F10t 0x28 (far_of from to) (far_of from to) 0 (λ f t. Goto t) (λ f. byte f.a) Forms.goto_row tt few
        (no (int_eq d (pos 0)) F30t (if fits_byte d then F10t else if fits_short d then F20t else F30t) F10t ea (yes (fits_byte d) F10t (if fits_short d then F20t else F30t) eb)) refl refl (far_byte from to (near_byte d eb)) (elsewhere ea)
    by false false true ea eb ec = branch (Goto target) from to target F20t 0x29 (far_of from to) (far_of from to) 0 (λ f t. Goto t) (λ f. short f.a) Forms.goto_16_row tt few
        (no (int_eq d (pos 0)) F30t (if fits_byte d then F10t else if fits_short d then F20t else F30t) F20t ea (no (fits_byte d) F10t (if fits_short d then F20t else F30t) F20t eb (yes (fits_short d) F20t F30t ec))) refl refl (far_short from to (near_short d ec)) (elsewhere ea)
    by false false false ea eb ec = branch (Goto target) from to target F30t 0x2a (far_of from to) (far_of from to) 0 (λ f t. Goto t) (λ f. word f.wide) Forms.goto_32_row tt few
        (no (int_eq d (pos 0)) F30t (if fits_byte d then F10t else if fits_short d then F20t else F30t) F30t ea (no (fits_byte d) F10t (if fits_short d then F20t else F30t) F30t eb (no (fits_short d) F20t F30t F30t ec refl))) refl refl (far_word from to lf lt) (λ z. refl)

-- ---- calls

filled : (r : Renumber) (fr far kind : ℕ) (args : List ℕ) → fit_call args ≡ true → AllByRecursion (λ a. a < 65536) args → Renamed r.types.items kind 65536 → As r fr far (FilledNewArray kind args) (shortest_call args)
filled r fr far kind args fit wide few = by (fit_nibbles args) refl
  where
    by : (a : Bool) → fit_nibbles args ≡ a → As r fr far (FilledNewArray kind args) (if a then F35c else F3rc)
    by true ea = by_nibbles (FilledNewArray (new_type r kind) args) fr far 0x24 (kind_of r kind) args FilledNewArray Forms.filled_row (renamed_low r.types.items kind 65536 few) ea (yes (fit_nibbles args) F35c F3rc ea) (ap (λ (k : ℕ). FilledNewArray k args) few.same)
    by false ea = by_range (FilledNewArray (new_type r kind) args) fr far 0x25 (kind_of r kind) args FilledNewArray Forms.filled_range_row (renamed_low r.types.items kind 65536 few) fit ea wide (no (fit_nibbles args) F35c F3rc F3rc ea refl) (ap (λ (k : ℕ). FilledNewArray k args) few.same)

invokes : (r : Renumber) (fr far : ℕ) (kind : InvokeKind) (method : ℕ) (args : List ℕ) → fit_call args ≡ true → AllByRecursion (λ a. a < 65536) args → Renamed r.methods.items method 65536 → As r fr far (Invoke kind method args) (shortest_call args)
invokes r fr far kind method args fit wide few = by (fit_nibbles args) refl
  where
    by : (a : Bool) → fit_nibbles args ≡ a → As r fr far (Invoke kind method args) (if a then F35c else F3rc)
    by true ea = by_nibbles (Invoke kind (new_method r method) args) fr far (0x6e + kind_place kind) (method_of r method) args (Invoke kind) (Forms.invoke_row kind) (renamed_low r.methods.items method 65536 few) ea (yes (fit_nibbles args) F35c F3rc ea) (ap (λ (k : ℕ). Invoke kind k args) few.same)
    by false ea = by_range (Invoke kind (new_method r method) args) fr far (0x74 + kind_place kind) (method_of r method) args (Invoke kind) (Forms.invoke_range_row kind) (renamed_low r.methods.items method 65536 few) fit ea wide (no (fit_nibbles args) F35c F3rc F3rc ea refl) (ap (λ (k : ℕ). Invoke kind k args) few.same)

-- ---- operations

binaries : (r : Renumber) (fr far : ℕ) (op : BinaryOp) (to a b : ℕ) → (nat_lt to 256 && (nat_lt a 256 && nat_lt b 256)) ≡ true → As r fr far (Binary op to a b) (shortest_binary to a b)
binaries r fr far op to a b h = by (nat_eq to a && (nat_lt to 16 && nat_lt b 16)) refl
  where
    low : (to < 256) × ((a < 256) × (b < 256))
    low = three_low to a b h

    by : (t : Bool) → (nat_eq to a && (nat_lt to 16 && nat_lt b 16)) ≡ t → As r fr far (Binary op to a b) (if t then F12x else F23x)
    by true e =
        let both = and_parts (nat_eq to a) (nat_lt to 16 && nat_lt b 16) e in
        let small = two_low to b 16 16 both.1 in
        of_row (Binary op to a b) fr far F12x (0xb0 + binary_place op) to b 0 (λ f. Binary op f.a f.a f.b) (Forms.short_binary_row op) tt (few_byte b low.1.1) (yes (nat_eq to a && (nat_lt to 16 && nat_lt b 16)) F12x F23x e)
        (same_3 (Binary op) (to % 16) to (to % 16) a (b % 16) b (nibble_low to small.0) (nibble_low to small.0 ∙ eqb-true to a both.0) (nibble_low b small.1))
    by false e = of_row (Binary op to a b) fr far F23x (0x90 + binary_place op) to a b (λ f. Binary op f.a f.b f.c) (Forms.binary_row op) tt (few_byte a low.1.0) (no (nat_eq to a && (nat_lt to 16 && nat_lt b 16)) F12x F23x F23x e refl)
        (same_3 (Binary op) (to % 256) to (a % 256) a (b % 256) b (byte_low to low.0) (byte_low a low.1.0) (byte_low b low.1.1))

literals : (r : Renumber) (fr far : ℕ) (op : LiteralOp) (to a : ℕ) (value : ℤ) → ((nat_lt to 256 && (nat_lt a 256 && fits_byte value)) || (nat_lt to 16 && (nat_lt a 16 && takes_short op))) ≡ true → FitsSigned w16 value → As r fr far (Literal op to a value) (shortest_literal to a value)
literals r fr far op to a value h wide = by (nat_lt to 256 && (nat_lt a 256 && fits_byte value)) refl
  where
    by : (t : Bool) → (nat_lt to 256 && (nat_lt a 256 && fits_byte value)) ≡ t → As r fr far (Literal op to a value) (if t then F22b else F22s)
    by true e =
        let one = and_parts (nat_lt to 256) (nat_lt a 256 && fits_byte value) e in
        let two = and_parts (nat_lt a 256) (fits_byte value) one.1 in
        let la : a < 256 = ltb-true a 256 two.0 in
        of_row (Literal op to a value) fr far F22b (0xd8 + literal_place op) to a (cast_unsigned w16 value) (λ f. Literal op f.a f.b (byte f.c)) (Forms.literal_row op) tt (few_byte a la) (yes (nat_lt to 256 && (nat_lt a 256 && fits_byte value)) F22b F22s e)
        (same_literal (Literal op) (to % 256) to (a % 256) a (byte (cast_unsigned w16 value % 256)) value (byte_low to (ltb-true to 256 one.0)) (byte_low a la) (low_back value (near_byte value two.1)))
    by false e =
        let other : (nat_lt to 16 && (nat_lt a 16 && takes_short op)) ≡ true = ap (λ (t : Bool). t || (nat_lt to 16 && (nat_lt a 16 && takes_short op))) (sym e) ∙ h in
        let one = and_parts (nat_lt to 16) (nat_lt a 16 && takes_short op) other in
        let two = and_parts (nat_lt a 16) (takes_short op) one.1 in
        let la : a < 16 = ltb-true a 16 two.0 in
        of_row (Literal op to a value) fr far F22s (0xd0 + literal_place op) to a (cast_unsigned w16 value) (λ f. Literal op f.a f.b (short f.c)) (Forms.literal_16_row op two.1) tt (omega (arith, la)) (no (nat_lt to 256 && (nat_lt a 256 && fits_byte value)) F22b F22s F22s e refl)
        (same_literal (Literal op) (to % 16) to (a % 16) a (short (cast_unsigned w16 value % 65536)) value (nibble_low to (ltb-true to 16 one.0)) (nibble_low a la) (half_back value (near_half value wide)))

-- ---- all of them

table : (x : Insn) (from to on op : ℕ) → 0 < op → op < 256 → format_at op ≡ Some F31t → F31t ≡ shortest x (distance x from to) → from < 2 ^ 31 → to < 2 ^ 31 → Form x op (back F31t on (far_of from to) 0) (pos to -ℤ pos from) → Spelt x from to (units_in F31t op (three on (far_of from to) 0))
table x from to on op some lt row least lf lt2 form = record { format = F31t; op = op; f = back F31t on (far_of from to) 0; read = narrow op on (far_of from to) 0 some lt (far_few from to lf lt2) F31t tt; row = row; least = least; form = form }

fill_row : format_at 0x26 ≡ Some F31t
unfolding format_at
fill_row = refl

packed_row : format_at 0x2b ≡ Some F31t
unfolding format_at
packed_row = refl

sparse_row : format_at 0x2c ≡ Some F31t
unfolding format_at
sparse_row = refl

nop_row : format_at 0 ≡ Some F10x
unfolding format_at
nop_row = refl

nop_plain : Nop ≡ plain 0 (fields 0 0 0 0)
unfolding plain
nop_plain = refl

pub spelt : (r : Renumber) (x : Insn) (from to : ℕ) → is_encodable x ≡ true → InWidth x → NumbersFit r x → HasRoom x from to → from < 2 ^ 31 → to < 2 ^ 31 → Spelt (new_insn r x) from to (insn_units r from to x)
spelt r Nop from to e w n h lf lt = record { format = F10x; op = 0; f = fields 0 0 0 0; read = read_nop; row = nop_row; least = refl; form = APlain refl nop_plain }
spelt r (Move slot t f) from to e w n h lf lt = moves r from to slot t f w
spelt r (MoveResult slot t) from to e w n h lf lt = of_row (MoveResult slot t) from to F11x (0x0a + slot_place slot) t 0 0 (λ f. MoveResult slot f.a) (Forms.result_row slot) tt few_none refl (same_1 (MoveResult slot) (t % 256) t (byte_low t (ltb-true t 256 e)))
spelt r (MoveException t) from to e w n h lf lt = of_row (MoveException t) from to F11x 0x0d t 0 0 (λ f. MoveException f.a) Forms.exception_row tt few_none refl (same_1 MoveException (t % 256) t (byte_low t (ltb-true t 256 e)))
spelt r ReturnVoid from to e w n h lf lt = of_row ReturnVoid from to F10x 0x0e 0 0 0 (λ f. ReturnVoid) Forms.void_row tt few_none refl refl
spelt r (Return slot t) from to e w n h lf lt = of_row (Return slot t) from to F11x (0x0f + slot_place slot) t 0 0 (λ f. Return slot f.a) (Forms.return_row slot) tt few_none refl (same_1 (Return slot) (t % 256) t (byte_low t (ltb-true t 256 e)))
spelt r (Const t value) from to e w n h lf lt = consts r from to t value (ltb-true t 256 e) w
spelt r (ConstWide t value) from to e w n h lf lt = wides r from to t value (ltb-true t 256 e) w
spelt r (ConstString t string) from to e w n h lf lt = strings r from to t string (ltb-true t 256 e) n
spelt r (ConstClass t kind) from to e w n h lf lt = of_row (ConstClass t (new_type r kind)) from to F21c 0x1c t (kind_of r kind) 0 (λ f. ConstClass f.a f.b) Forms.class_row tt (few_same r.types.items kind n) refl (same_2 ConstClass (t % 256) t (kind_of r kind % 65536) (new_type r kind) (byte_low t (ltb-true t 256 e)) (half_same r.types.items kind n))
spelt r (MonitorEnter t) from to e w n h lf lt = of_row (MonitorEnter t) from to F11x 0x1d t 0 0 (λ f. MonitorEnter f.a) Forms.enter_row tt few_none refl (same_1 MonitorEnter (t % 256) t (byte_low t (ltb-true t 256 e)))
spelt r (MonitorExit t) from to e w n h lf lt = of_row (MonitorExit t) from to F11x 0x1e t 0 0 (λ f. MonitorExit f.a) Forms.exit_row tt few_none refl (same_1 MonitorExit (t % 256) t (byte_low t (ltb-true t 256 e)))
spelt r (CheckCast t kind) from to e w n h lf lt = of_row (CheckCast t (new_type r kind)) from to F21c 0x1f t (kind_of r kind) 0 (λ f. CheckCast f.a f.b) Forms.cast_row tt (few_same r.types.items kind n) refl (same_2 CheckCast (t % 256) t (kind_of r kind % 65536) (new_type r kind) (byte_low t (ltb-true t 256 e)) (half_same r.types.items kind n))
spelt r (InstanceOf t f kind) from to e w n h lf lt =
    let low = two_low t f 16 16 e in
    of_row (InstanceOf t f (new_type r kind)) from to F22c 0x20 t f (kind_of r kind) (λ f. InstanceOf f.a f.b f.c) Forms.instance_row tt (omega (arith, low.1)) refl (same_3 InstanceOf (t % 16) t (f % 16) f (kind_of r kind % 65536) (new_type r kind) (nibble_low t low.0) (nibble_low f low.1) (half_same r.types.items kind n))
spelt r (ArrayLength t f) from to e w n h lf lt =
    let low = two_low t f 16 16 e in
    of_row (ArrayLength t f) from to F12x 0x21 t f 0 (λ f. ArrayLength f.a f.b) Forms.length_row tt (omega (arith, low.1)) refl (same_2 ArrayLength (t % 16) t (f % 16) f (nibble_low t low.0) (nibble_low f low.1))
spelt r (NewInstance t kind) from to e w n h lf lt = of_row (NewInstance t (new_type r kind)) from to F21c 0x22 t (kind_of r kind) 0 (λ f. NewInstance f.a f.b) Forms.new_row tt (few_same r.types.items kind n) refl (same_2 NewInstance (t % 256) t (kind_of r kind % 65536) (new_type r kind) (byte_low t (ltb-true t 256 e)) (half_same r.types.items kind n))
spelt r (NewArray t size kind) from to e w n h lf lt =
    let low = two_low t size 16 16 e in
    of_row (NewArray t size (new_type r kind)) from to F22c 0x23 t size (kind_of r kind) (λ f. NewArray f.a f.b f.c) Forms.new_array_row tt (omega (arith, low.1)) refl (same_3 NewArray (t % 16) t (size % 16) size (kind_of r kind % 65536) (new_type r kind) (nibble_low t low.0) (nibble_low size low.1) (half_same r.types.items kind n))
spelt r (FilledNewArray kind args) from to e w n h lf lt = filled r from to kind args e w n
spelt r (FillArray on width items) from to e w n h lf lt =
    let low : on < 256 = ltb-true on 256 (and_parts (nat_lt on 256) (is_width width && (nat_lt (length items) 4294967296 && list_all (λ item. fits_width width item) items)) e).0 in
    table (FillArray on width items) from to on 0x26 (omega arith) (omega arith) fill_row refl lf lt (AFill on width items refl refl (sym (byte_low on low)) (far_word from to lf lt))
spelt r (Throw t) from to e w n h lf lt = of_row (Throw t) from to F11x 0x27 t 0 0 (λ f. Throw f.a) Forms.throw_row tt few_none refl (same_1 Throw (t % 256) t (byte_low t (ltb-true t 256 e)))
spelt r (Goto target) from to e w n h lf lt = gotos r from to target lf lt
spelt r (PackedSwitch on first targets) from to e w n h lf lt =
    let low : on < 256 = ltb-true on 256 (and_parts (nat_lt on 256) (nat_lt (length targets) 65536) e).0 in
    table (PackedSwitch on first targets) from to on 0x2b (omega arith) (omega arith) packed_row refl lf lt (APacked on first targets refl refl (sym (byte_low on low)) (far_word from to lf lt))
spelt r (SparseSwitch on keys targets) from to e w n h lf lt =
    let low : on < 256 = ltb-true on 256 (and_parts (nat_lt on 256) (nat_lt (length targets) 65536 && (nat_eq (length keys) (length targets) && keys_ascend keys)) e).0 in
    table (SparseSwitch on keys targets) from to on 0x2c (omega arith) (omega arith) sparse_row refl lf lt (ASparse on keys targets refl refl (sym (byte_low on low)) (far_word from to lf lt))
spelt r (Cmp op t a b) from to e w n h lf lt =
    let low = three_low t a b e in
    of_row (Cmp op t a b) from to F23x (0x2d + cmp_place op) t a b (λ f. Cmp op f.a f.b f.c) (Forms.cmp_row op) tt (few_byte a low.1.0) refl (same_3 (Cmp op) (t % 256) t (a % 256) a (b % 256) b (byte_low t low.0) (byte_low a low.1.0) (byte_low b low.1.1))
spelt r (If test a b target) from to e w n h lf lt =
    let low = two_low a b 16 16 e in
    branch (If test a b target) from to target F22t (0x32 + test_place test) a b (far_of from to) (λ f t. If test f.a f.b t) (λ f. short f.c) (Forms.if_row test) tt (omega (arith, low.1)) refl refl (same_2 (λ x y. If test x y target) (a % 16) a (b % 16) b (nibble_low a low.0) (nibble_low b low.1)) (far_short from to (near_spans from to h.0)) (λ z. absurd (h.1 (zero_near from to z)))
spelt r (IfZero test a target) from to e w n h lf lt =
    branch (IfZero test a target) from to target F21t (0x38 + test_place test) a (far_of from to) 0 (λ f t. IfZero test f.a t) (λ f. short f.b) (Forms.if_zero_row test) tt (far_few from to lf lt) refl refl (same_1 (λ x. IfZero test x target) (a % 256) a (byte_low a (ltb-true a 256 e))) (far_short from to (near_spans from to h.0)) (λ z. absurd (h.1 (zero_near from to z)))
spelt r (ArrayGet item t a b) from to e w n h lf lt =
    let low = three_low t a b e in
    of_row (ArrayGet item t a b) from to F23x (0x44 + item_place item) t a b (λ f. ArrayGet item f.a f.b f.c) (Forms.get_row item) tt (few_byte a low.1.0) refl (same_3 (ArrayGet item) (t % 256) t (a % 256) a (b % 256) b (byte_low t low.0) (byte_low a low.1.0) (byte_low b low.1.1))
spelt r (ArrayPut item t a b) from to e w n h lf lt =
    let low = three_low t a b e in
    of_row (ArrayPut item t a b) from to F23x (0x4b + item_place item) t a b (λ f. ArrayPut item f.a f.b f.c) (Forms.put_row item) tt (few_byte a low.1.0) refl (same_3 (ArrayPut item) (t % 256) t (a % 256) a (b % 256) b (byte_low t low.0) (byte_low a low.1.0) (byte_low b low.1.1))
spelt r (InstanceGet item t on field) from to e w n h lf lt =
    let low = two_low t on 16 16 e in
    of_row (InstanceGet item t on (new_field r field)) from to F22c (0x52 + item_place item) t on (field_of r field) (λ f. InstanceGet item f.a f.b f.c) (Forms.iget_row item) tt (omega (arith, low.1)) refl (same_3 (InstanceGet item) (t % 16) t (on % 16) on (field_of r field % 65536) (new_field r field) (nibble_low t low.0) (nibble_low on low.1) (half_same r.fields.items field n))
spelt r (InstancePut item t on field) from to e w n h lf lt =
    let low = two_low t on 16 16 e in
    of_row (InstancePut item t on (new_field r field)) from to F22c (0x59 + item_place item) t on (field_of r field) (λ f. InstancePut item f.a f.b f.c) (Forms.iput_row item) tt (omega (arith, low.1)) refl (same_3 (InstancePut item) (t % 16) t (on % 16) on (field_of r field % 65536) (new_field r field) (nibble_low t low.0) (nibble_low on low.1) (half_same r.fields.items field n))
spelt r (StaticGet item t field) from to e w n h lf lt = of_row (StaticGet item t (new_field r field)) from to F21c (0x60 + item_place item) t (field_of r field) 0 (λ f. StaticGet item f.a f.b) (Forms.sget_row item) tt (few_same r.fields.items field n) refl (same_2 (StaticGet item) (t % 256) t (field_of r field % 65536) (new_field r field) (byte_low t (ltb-true t 256 e)) (half_same r.fields.items field n))
spelt r (StaticPut item t field) from to e w n h lf lt = of_row (StaticPut item t (new_field r field)) from to F21c (0x67 + item_place item) t (field_of r field) 0 (λ f. StaticPut item f.a f.b) (Forms.sput_row item) tt (few_same r.fields.items field n) refl (same_2 (StaticPut item) (t % 256) t (field_of r field % 65536) (new_field r field) (byte_low t (ltb-true t 256 e)) (half_same r.fields.items field n))
spelt r (Invoke kind method args) from to e w n h lf lt = invokes r from to kind method args e w n
spelt r (Unary op t f) from to e w n h lf lt =
    let low = two_low t f 16 16 e in
    of_row (Unary op t f) from to F12x (0x7b + unary_place op) t f 0 (λ f. Unary op f.a f.b) (Forms.unary_row op) tt (omega (arith, low.1)) refl (same_2 (Unary op) (t % 16) t (f % 16) f (nibble_low t low.0) (nibble_low f low.1))
spelt r (Binary op t a b) from to e w n h lf lt = binaries r from to op t a b e
spelt r (Literal op t a value) from to e w n h lf lt = literals r from to op t a value e w
