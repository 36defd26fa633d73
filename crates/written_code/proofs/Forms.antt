-- Each instruction is read of the units in which it is written.
use Rattle.std.proofs.Common.{◌≡◌, ◌<◌, ◌≤◌, ◌+◌, ◌*◌, ◌-◌, ◌%◌, ◌^◌, ℕ, ℤ, pos, ◌-ℤ◌, true, false, List, Some, refl, sym, ◌∙◌, arith}
use Rattle.std.specs.Prelude.{◌||◌}
use Rattle.std.specs.Int.{w64, cast_signed}
use Rattle.insn_set.specs.Spelling.{shortest, takes_short}
use Rattle.insn_set.specs.declared.format.Format.{Format}
use Rattle.insn_set.specs.declared.format.Format.TheVariants.{F10x, F12x, F11n, F11x, F10t, F20t, F22x, F21t, F21s, F21h, F21c, F23x, F22b, F22t, F22s, F22c, F30t, F32x, F31i, F31c, F35c, F3rc, F51l}
use Rattle.insn_set.specs.declared.ops.Slot.{Slot}
use Rattle.insn_set.specs.declared.ops.Slot.TheVariants as slot_
use Rattle.insn_set.specs.declared.ops.Item.{Item}
use Rattle.insn_set.specs.declared.ops.Item.TheVariants as item_
use Rattle.insn_set.specs.declared.ops.CmpOp.{CmpOp}
use Rattle.insn_set.specs.declared.ops.CmpOp.TheVariants as cmp_
use Rattle.insn_set.specs.declared.ops.Test.{Test}
use Rattle.insn_set.specs.declared.ops.Test.TheVariants as test_
use Rattle.insn_set.specs.declared.ops.InvokeKind.{InvokeKind}
use Rattle.insn_set.specs.declared.ops.InvokeKind.TheVariants as kind_
use Rattle.insn_set.specs.declared.ops.UnaryOp.{UnaryOp}
use Rattle.insn_set.specs.declared.ops.UnaryOp.TheVariants as unary_
use Rattle.insn_set.specs.declared.ops.BinaryOp.{BinaryOp}
use Rattle.insn_set.specs.declared.ops.BinaryOp.TheVariants as binary_
use Rattle.insn_set.specs.declared.ops.LiteralOp.{LiteralOp}
use Rattle.insn_set.specs.declared.ops.LiteralOp.TheVariants as literal_
use Rattle.insn_set.specs.declared.form.Insn.{Insn}
use Rattle.insn_set.specs.declared.form.Insn.TheVariants.{Move, MoveResult, MoveException, ReturnVoid, Return, Const, ConstWide, ConstString, ConstClass, MonitorEnter, MonitorExit, CheckCast, InstanceOf, ArrayLength, NewInstance, NewArray, FilledNewArray, FillArray, Throw, Goto, PackedSwitch, SparseSwitch, Cmp, If, IfZero, ArrayGet, ArrayPut, InstanceGet, InstancePut, StaticGet, StaticPut, Invoke, Unary, Binary, Literal}
use Rattle.program_model.specs.declared.pass.Renumber.{Renumber}
use Rattle.code_read.specs.declared.fields.Fields.{Fields}
use Rattle.code_read.specs.Fields.{fields}
use Rattle.code_read.specs.Opcodes.{format_at, unary_at, binary_at}
use Rattle.code_read.specs.Forms.{nibble, byte, short, word, plain}
use Rattle.code_read.specs.Branches.{is_branch, is_call, offset_form, branch_form, nibbles_form, registers_from, words_form, most_words, call_form}
use Rattle.code_read.specs.Payloads.{has_payload}
use Rattle.relax.specs.Steps.{renumbered as old_number}
use Rattle.dex_pools.specs.Written.{renumbered}
use Rattle.relax.specs.Far.{spans_far}
use Rattle.code_write.specs.Places.{slot_place, item_place, cmp_place, test_place, kind_place, unary_place, binary_place, literal_place}
use Rattle.code_write.specs.Fields.{three}
use Rattle.code_write.specs.Units.{units_in}
pub use Rattle.widths.specs.Code.{InWidth}
use Rattle.written_code.proofs.Fields.{Read, Narrow, back, narrow}

-- ---- what an instruction is

-- how far a goto goes
abbrev pub distance : Insn → ℕ → ℕ → ℤ
distance (Goto target) from to = pos to -ℤ pos from
distance insn from to = pos 0

-- a goto or a conditional branch to this position
abbrev pub IsBranchTo : Insn → ℕ → Type 0
IsBranchTo (Goto to) target = to ≡ target
IsBranchTo (If test a b to) target = to ≡ target
IsBranchTo (IfZero test a to) target = to ≡ target
IsBranchTo insn target = ⊥

-- by its opcode and its fields; a branch or a payload lies so far
pub data Form (x : Insn) (op : ℕ) (f : Fields) (far : ℤ) : Type 0 where
  APlain : (is_branch op || (is_call op || has_payload op)) ≡ false → x ≡ plain op f → Form x op f far
  ABranch : (target : ℕ) → is_branch op ≡ true → IsBranchTo x target → x ≡ branch_form op f target → offset_form op f ≡ far → (far ≡ pos 0 → op ≡ 0x2a) → Form x op f far
  ACall : is_call op ≡ true → f.a ≤ most_words op f → x ≡ call_form op f → Form x op f far
  AFill : (on width : ℕ) (items : List ℕ) → op ≡ 0x26 → x ≡ FillArray on width items → on ≡ f.a → word f.wide ≡ far → Form x op f far
  APacked : (on : ℕ) (first : ℤ) (targets : List ℕ) → op ≡ 0x2b → x ≡ PackedSwitch on first targets → on ≡ f.a → word f.wide ≡ far → Form x op f far
  ASparse : (on : ℕ) (keys : List ℤ) (targets : List ℕ) → op ≡ 0x2c → x ≡ SparseSwitch on keys targets → on ≡ f.a → word f.wide ≡ far → Form x op f far

-- the units are those of an instruction at a place that goes to another
pub record Spelt (x : Insn) (from to : ℕ) (text : List ℕ) : Type 0 where
  pub format : Format
  pub op : ℕ
  pub f : Fields
  pub read : Read format op text f
  pub row : format_at op ≡ Some format
  pub least : format ≡ shortest x (distance x from to)
  pub form : Form x op f (pos to -ℤ pos from)

-- ---- what it needs

-- a new number that the units have room for, in the writer's words and in those of the written program
pub record Renamed (table : List ℕ) (n bound : ℕ) : Type 0 where
  pub same : old_number table n ≡ renumbered table n
  pub low : renumbered table n < bound

abbrev pub NumbersFit : Renumber → Insn → Type 0
NumbersFit r (ConstString to string) = Renamed r.strings.items string (2 ^ 32)
NumbersFit r (ConstClass to kind) = Renamed r.types.items kind 65536
NumbersFit r (CheckCast on kind) = Renamed r.types.items kind 65536
NumbersFit r (InstanceOf to from kind) = Renamed r.types.items kind 65536
NumbersFit r (NewInstance to kind) = Renamed r.types.items kind 65536
NumbersFit r (NewArray to size kind) = Renamed r.types.items kind 65536
NumbersFit r (FilledNewArray kind args) = Renamed r.types.items kind 65536
NumbersFit r (InstanceGet item to on field) = Renamed r.fields.items field 65536
NumbersFit r (InstancePut item from on field) = Renamed r.fields.items field 65536
NumbersFit r (StaticGet item to field) = Renamed r.fields.items field 65536
NumbersFit r (StaticPut item from field) = Renamed r.fields.items field 65536
NumbersFit r (Invoke kind method args) = Renamed r.methods.items method 65536
NumbersFit r insn = Unit {0}

-- a conditional branch goes elsewhere, and not too far
abbrev pub HasRoom : Insn → ℕ → ℕ → Type 0
HasRoom (If test a b target) from to = (spans_far from to ≡ false) × (from ≡ to → ⊥)
HasRoom (IfZero test a target) from to = (spans_far from to ≡ false) × (from ≡ to → ⊥)
HasRoom insn from to = Unit {0}

-- ---- rows of the table of opcodes

pub record Row (op : ℕ) (format : Format) (form : Fields → Insn) : Type 0 where
  pub some : 0 < op
  pub small : op < 256
  pub row : format_at op ≡ Some format
  pub kind : (is_branch op || (is_call op || has_payload op)) ≡ false
  pub is : (f : Fields) → plain op f ≡ form f

pub record BranchRow (op : ℕ) (format : Format) (form : Fields → ℕ → Insn) (offset : Fields → ℤ) : Type 0 where
  pub some : 0 < op
  pub small : op < 256
  pub row : format_at op ≡ Some format
  pub kind : is_branch op ≡ true
  pub is : (f : Fields) (target : ℕ) → branch_form op f target ≡ form f target
  pub offset_is : (f : Fields) → offset_form op f ≡ offset f

pub record CallRow (op : ℕ) (format : Format) (form : ℕ → List ℕ → Insn) (words : Fields → List ℕ) (most : Fields → ℕ) : Type 0 where
  pub some : 0 < op
  pub small : op < 256
  pub row : format_at op ≡ Some format
  pub kind : is_call op ≡ true
  pub is : (f : Fields) → call_form op f ≡ form f.b (words_form op f)
  pub words_are : (f : Fields) → words_form op f ≡ words f
  pub most_is : (f : Fields) → most_words op f ≡ most f

pub of_row : (x : Insn) (from to : ℕ) (format : Format) (op a b c : ℕ) (form : Fields → Insn) → Row op format form → Narrow format → b < 2 ^ 32 → format ≡ shortest x (distance x from to) → form (back format a b c) ≡ x → Spelt x from to (units_in format op (three a b c))
of_row x from to format op a b c form r n few least is = record {
  format = format;
  op = op;
  f = back format a b c;
  read = narrow op a b c r.some r.small few format n;
  row = r.row;
  least = least;
  form = APlain r.kind (sym (r.is (back format a b c) ∙ is));
}

pub move_row : (slot : Slot) → Row (1 + 3 * slot_place slot) F12x (λ f. Move slot f.a f.b)
unfolding format_at plain
move_row slot_.Word = record { some = omega arith; small = omega arith; row = refl; kind = refl; is = λ f. refl }
move_row slot = record { some = omega arith; small = omega arith; row = refl; kind = refl; is = λ f. refl }

pub move_from_row : (slot : Slot) → Row (2 + 3 * slot_place slot) F22x (λ f. Move slot f.a f.b)
unfolding format_at plain
move_from_row slot_.Word = record { some = omega arith; small = omega arith; row = refl; kind = refl; is = λ f. refl }
move_from_row slot = record { some = omega arith; small = omega arith; row = refl; kind = refl; is = λ f. refl }

pub move_16_row : (slot : Slot) → Row (3 + 3 * slot_place slot) F32x (λ f. Move slot f.a f.b)
unfolding format_at plain
move_16_row slot_.Word = record { some = omega arith; small = omega arith; row = refl; kind = refl; is = λ f. refl }
move_16_row slot = record { some = omega arith; small = omega arith; row = refl; kind = refl; is = λ f. refl }

pub result_row : (slot : Slot) → Row (0x0a + slot_place slot) F11x (λ f. MoveResult slot f.a)
unfolding format_at plain
result_row slot_.Word = record { some = omega arith; small = omega arith; row = refl; kind = refl; is = λ f. refl }
result_row slot = record { some = omega arith; small = omega arith; row = refl; kind = refl; is = λ f. refl }

pub return_row : (slot : Slot) → Row (0x0f + slot_place slot) F11x (λ f. Return slot f.a)
unfolding format_at plain
return_row slot_.Word = record { some = omega arith; small = omega arith; row = refl; kind = refl; is = λ f. refl }
return_row slot = record { some = omega arith; small = omega arith; row = refl; kind = refl; is = λ f. refl }

pub exception_row : Row 0x0d F11x (λ f. MoveException f.a)
unfolding format_at plain
exception_row = record { some = omega arith; small = omega arith; row = refl; kind = refl; is = λ f. refl }

pub void_row : Row 0x0e F10x (λ f. ReturnVoid)
unfolding format_at plain
void_row = record { some = omega arith; small = omega arith; row = refl; kind = refl; is = λ f. refl }

pub const_4_row : Row 0x12 F11n (λ f. Const f.a (nibble f.b))
unfolding format_at plain
const_4_row = record { some = omega arith; small = omega arith; row = refl; kind = refl; is = λ f. refl }

pub const_16_row : Row 0x13 F21s (λ f. Const f.a (short f.b))
unfolding format_at plain
const_16_row = record { some = omega arith; small = omega arith; row = refl; kind = refl; is = λ f. refl }

pub const_row : Row 0x14 F31i (λ f. Const f.a (word f.wide))
unfolding format_at plain
const_row = record { some = omega arith; small = omega arith; row = refl; kind = refl; is = λ f. refl }

pub const_high_row : Row 0x15 F21h (λ f. Const f.a (word (f.b * 65536)))
unfolding format_at plain
const_high_row = record { some = omega arith; small = omega arith; row = refl; kind = refl; is = λ f. refl }

pub wide_16_row : Row 0x16 F21s (λ f. ConstWide f.a (short f.b))
unfolding format_at plain
wide_16_row = record { some = omega arith; small = omega arith; row = refl; kind = refl; is = λ f. refl }

pub wide_32_row : Row 0x17 F31i (λ f. ConstWide f.a (word f.wide))
unfolding format_at plain
wide_32_row = record { some = omega arith; small = omega arith; row = refl; kind = refl; is = λ f. refl }

pub wide_row : Row 0x18 F51l (λ f. ConstWide f.a (cast_signed w64 f.wide))
unfolding format_at plain
wide_row = record { some = omega arith; small = omega arith; row = refl; kind = refl; is = λ f. refl }

pub wide_high_row : Row 0x19 F21h (λ f. ConstWide f.a (cast_signed w64 (f.b * 281474976710656)))
unfolding format_at plain
wide_high_row = record { some = omega arith; small = omega arith; row = refl; kind = refl; is = λ f. refl }

pub string_row : Row 0x1a F21c (λ f. ConstString f.a f.b)
unfolding format_at plain
string_row = record { some = omega arith; small = omega arith; row = refl; kind = refl; is = λ f. refl }

pub jumbo_row : Row 0x1b F31c (λ f. ConstString f.a (f.wide % 4294967296))
unfolding format_at plain
jumbo_row = record { some = omega arith; small = omega arith; row = refl; kind = refl; is = λ f. refl }

pub class_row : Row 0x1c F21c (λ f. ConstClass f.a f.b)
unfolding format_at plain
class_row = record { some = omega arith; small = omega arith; row = refl; kind = refl; is = λ f. refl }

pub enter_row : Row 0x1d F11x (λ f. MonitorEnter f.a)
unfolding format_at plain
enter_row = record { some = omega arith; small = omega arith; row = refl; kind = refl; is = λ f. refl }

pub exit_row : Row 0x1e F11x (λ f. MonitorExit f.a)
unfolding format_at plain
exit_row = record { some = omega arith; small = omega arith; row = refl; kind = refl; is = λ f. refl }

pub cast_row : Row 0x1f F21c (λ f. CheckCast f.a f.b)
unfolding format_at plain
cast_row = record { some = omega arith; small = omega arith; row = refl; kind = refl; is = λ f. refl }

pub instance_row : Row 0x20 F22c (λ f. InstanceOf f.a f.b f.c)
unfolding format_at plain
instance_row = record { some = omega arith; small = omega arith; row = refl; kind = refl; is = λ f. refl }

pub length_row : Row 0x21 F12x (λ f. ArrayLength f.a f.b)
unfolding format_at plain
length_row = record { some = omega arith; small = omega arith; row = refl; kind = refl; is = λ f. refl }

pub new_row : Row 0x22 F21c (λ f. NewInstance f.a f.b)
unfolding format_at plain
new_row = record { some = omega arith; small = omega arith; row = refl; kind = refl; is = λ f. refl }

pub new_array_row : Row 0x23 F22c (λ f. NewArray f.a f.b f.c)
unfolding format_at plain
new_array_row = record { some = omega arith; small = omega arith; row = refl; kind = refl; is = λ f. refl }

pub throw_row : Row 0x27 F11x (λ f. Throw f.a)
unfolding format_at plain
throw_row = record { some = omega arith; small = omega arith; row = refl; kind = refl; is = λ f. refl }

pub cmp_row : (op : CmpOp) → Row (0x2d + cmp_place op) F23x (λ f. Cmp op f.a f.b f.c)
unfolding format_at plain
cmp_row cmp_.CmplFloat = record { some = omega arith; small = omega arith; row = refl; kind = refl; is = λ f. refl }
cmp_row op = record { some = omega arith; small = omega arith; row = refl; kind = refl; is = λ f. refl }

pub get_row : (item : Item) → Row (0x44 + item_place item) F23x (λ f. ArrayGet item f.a f.b f.c)
unfolding format_at plain
get_row item_.Plain = record { some = omega arith; small = omega arith; row = refl; kind = refl; is = λ f. refl }
get_row item = record { some = omega arith; small = omega arith; row = refl; kind = refl; is = λ f. refl }

pub put_row : (item : Item) → Row (0x4b + item_place item) F23x (λ f. ArrayPut item f.a f.b f.c)
unfolding format_at plain
put_row item_.Plain = record { some = omega arith; small = omega arith; row = refl; kind = refl; is = λ f. refl }
put_row item = record { some = omega arith; small = omega arith; row = refl; kind = refl; is = λ f. refl }

pub iget_row : (item : Item) → Row (0x52 + item_place item) F22c (λ f. InstanceGet item f.a f.b f.c)
unfolding format_at plain
iget_row item_.Plain = record { some = omega arith; small = omega arith; row = refl; kind = refl; is = λ f. refl }
iget_row item = record { some = omega arith; small = omega arith; row = refl; kind = refl; is = λ f. refl }

pub iput_row : (item : Item) → Row (0x59 + item_place item) F22c (λ f. InstancePut item f.a f.b f.c)
unfolding format_at plain
iput_row item_.Plain = record { some = omega arith; small = omega arith; row = refl; kind = refl; is = λ f. refl }
iput_row item = record { some = omega arith; small = omega arith; row = refl; kind = refl; is = λ f. refl }

pub sget_row : (item : Item) → Row (0x60 + item_place item) F21c (λ f. StaticGet item f.a f.b)
unfolding format_at plain
sget_row item_.Plain = record { some = omega arith; small = omega arith; row = refl; kind = refl; is = λ f. refl }
sget_row item = record { some = omega arith; small = omega arith; row = refl; kind = refl; is = λ f. refl }

pub sput_row : (item : Item) → Row (0x67 + item_place item) F21c (λ f. StaticPut item f.a f.b)
unfolding format_at plain
sput_row item_.Plain = record { some = omega arith; small = omega arith; row = refl; kind = refl; is = λ f. refl }
sput_row item = record { some = omega arith; small = omega arith; row = refl; kind = refl; is = λ f. refl }

pub unary_row : (op : UnaryOp) → Row (0x7b + unary_place op) F12x (λ f. Unary op f.a f.b)
unfolding format_at plain unary_at
unary_row unary_.NegInt = record { some = omega arith; small = omega arith; row = refl; kind = refl; is = λ f. refl }
unary_row op = record { some = omega arith; small = omega arith; row = refl; kind = refl; is = λ f. refl }

pub binary_row : (op : BinaryOp) → Row (0x90 + binary_place op) F23x (λ f. Binary op f.a f.b f.c)
unfolding format_at plain binary_at
binary_row binary_.AddInt = record { some = omega arith; small = omega arith; row = refl; kind = refl; is = λ f. refl }
binary_row op = record { some = omega arith; small = omega arith; row = refl; kind = refl; is = λ f. refl }

pub short_binary_row : (op : BinaryOp) → Row (0xb0 + binary_place op) F12x (λ f. Binary op f.a f.a f.b)
unfolding format_at plain binary_at
short_binary_row binary_.AddInt = record { some = omega arith; small = omega arith; row = refl; kind = refl; is = λ f. refl }
short_binary_row op = record { some = omega arith; small = omega arith; row = refl; kind = refl; is = λ f. refl }

pub literal_row : (op : LiteralOp) → Row (0xd8 + literal_place op) F22b (λ f. Literal op f.a f.b (byte f.c))
unfolding format_at plain
literal_row literal_.AddInt = record { some = omega arith; small = omega arith; row = refl; kind = refl; is = λ f. refl }
literal_row op = record { some = omega arith; small = omega arith; row = refl; kind = refl; is = λ f. refl }

pub literal_16_row : (op : LiteralOp) → takes_short op ≡ true → Row (0xd0 + literal_place op) F22s (λ f. Literal op f.a f.b (short f.c))
unfolding format_at plain
literal_16_row literal_.ShlInt h = absurd cc
literal_16_row literal_.ShrInt h = absurd cc
literal_16_row literal_.UshrInt h = absurd cc
literal_16_row op h = record { some = omega arith; small = omega arith; row = refl; kind = refl; is = λ f. refl }

pub goto_row : BranchRow 0x28 F10t (λ f target. Goto target) (λ f. byte f.a)
unfolding format_at
goto_row = record { some = omega arith; small = omega arith; row = refl; kind = refl; is = λ f target. refl; offset_is = λ f. refl }

pub goto_16_row : BranchRow 0x29 F20t (λ f target. Goto target) (λ f. short f.a)
unfolding format_at
goto_16_row = record { some = omega arith; small = omega arith; row = refl; kind = refl; is = λ f target. refl; offset_is = λ f. refl }

pub goto_32_row : BranchRow 0x2a F30t (λ f target. Goto target) (λ f. word f.wide)
unfolding format_at
goto_32_row = record { some = omega arith; small = omega arith; row = refl; kind = refl; is = λ f target. refl; offset_is = λ f. refl }

pub if_row : (test : Test) → BranchRow (0x32 + test_place test) F22t (λ f target. If test f.a f.b target) (λ f. short f.c)
unfolding format_at
if_row test_.Eq = record { some = omega arith; small = omega arith; row = refl; kind = refl; is = λ f target. refl; offset_is = λ f. refl }
if_row test = record { some = omega arith; small = omega arith; row = refl; kind = refl; is = λ f target. refl; offset_is = λ f. refl }

pub if_zero_row : (test : Test) → BranchRow (0x38 + test_place test) F21t (λ f target. IfZero test f.a target) (λ f. short f.b)
unfolding format_at
if_zero_row test_.Eq = record { some = omega arith; small = omega arith; row = refl; kind = refl; is = λ f target. refl; offset_is = λ f. refl }
if_zero_row test = record { some = omega arith; small = omega arith; row = refl; kind = refl; is = λ f target. refl; offset_is = λ f. refl }

pub filled_row : CallRow 0x24 F35c FilledNewArray nibbles_form (λ f. 5)
unfolding format_at
filled_row = record { some = omega arith; small = omega arith; row = refl; kind = refl; is = λ f. refl; words_are = λ f. refl; most_is = λ f. refl }

pub filled_range_row : CallRow 0x25 F3rc FilledNewArray (λ f. registers_from f.c f.a) (λ f. 65536 - f.c)
unfolding format_at
filled_range_row = record { some = omega arith; small = omega arith; row = refl; kind = refl; is = λ f. refl; words_are = λ f. refl; most_is = λ f. refl }

pub invoke_row : (kind : InvokeKind) → CallRow (0x6e + kind_place kind) F35c (Invoke kind) nibbles_form (λ f. 5)
unfolding format_at
invoke_row kind_.Virtual = record { some = omega arith; small = omega arith; row = refl; kind = refl; is = λ f. refl; words_are = λ f. refl; most_is = λ f. refl }
invoke_row kind = record { some = omega arith; small = omega arith; row = refl; kind = refl; is = λ f. refl; words_are = λ f. refl; most_is = λ f. refl }

pub invoke_range_row : (kind : InvokeKind) → CallRow (0x74 + kind_place kind) F3rc (Invoke kind) (λ f. registers_from f.c f.a) (λ f. 65536 - f.c)
unfolding format_at
invoke_range_row kind_.Virtual = record { some = omega arith; small = omega arith; row = refl; kind = refl; is = λ f. refl; words_are = λ f. refl; most_is = λ f. refl }
invoke_range_row kind = record { some = omega arith; small = omega arith; row = refl; kind = refl; is = λ f. refl; words_are = λ f. refl; most_is = λ f. refl }
