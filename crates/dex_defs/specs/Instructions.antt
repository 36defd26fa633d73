-- Which instruction a piece is (Dalvik bytecode, "Summary of bytecode set", "Instruction formats" and the payloads). The tables of opcodes,
-- formats and forms are code_read's.
use Rattle.std.specs.Prelude.{◌≡◌, ◌+◌, ◌*◌, ◌/◌, ◌%◌, ◌≤◌, ℕ, ℤ, pos, ◌+ℤ◌, List, [], ◌∷◌, length, take, drop, slice_index, slice_get, true, false, ◌||◌, ◌==◌, Some}
use Rattle.std.specs.Int.{w32, w64, cast_signed, from_le_bytes}
use Rattle.std.specs.List.{flat_map, list_any}
use Rattle.dex_base.specs.Decides.{Each}
use Rattle.insn_set.specs.Spelling.{is_width, keys_ascend}
use Rattle.insn_set.specs.declared.format.Format.{Format}
use Rattle.insn_set.specs.declared.form.Insn.{Insn}
use Rattle.insn_set.specs.declared.form.Insn.TheVariants.{FillArray, PackedSwitch, SparseSwitch}
use Rattle.code_read.specs.declared.fields.Fields.{Fields}
use Rattle.code_read.specs.Opcodes.{format_at}
use Rattle.code_read.specs.Fields.{fields_in}
use Rattle.code_read.specs.Forms.{word, plain}
use Rattle.code_read.specs.Branches.{offset_form, branch_form}
pub use Rattle.code_read.specs.Branches.{is_branch, is_call, registers_from, is_range, words_form, most_words, call_form}
pub use Rattle.code_read.specs.Payloads.{has_payload}
use Rattle.dex_defs.specs.Sweep.{Piece, Places, first_unit}

abbrev pub opcode : Piece → ℕ
opcode p = first_unit p % 256

-- the fields of a piece, by the format of its opcode
pub record HasFields (p : Piece) (f : Fields) : Type 0 where
  pub format : Format
  pub row : format_at (opcode p) ≡ Some format
  pub fields : fields_in format p.text ≡ Some f

-- an offset in units from the instruction leads to a position
pub record GoesTo (places : Places) (from : ℕ) (offset : ℤ) (target : ℕ) : Type 0 where
  pub unit : ℕ
  pub is : pos unit ≡ pos from +ℤ offset
  pub begins : slice_get places.starts target ≡ Some unit

-- a branch; the offset 0 is that of a goto/32 alone
pub record IsBranch (places : Places) (p : Piece) (f : Fields) (insn : Insn) : Type 0 where
  pub target : ℕ
  pub goes : GoesTo places p.start (offset_form (opcode p) f) target
  pub moves : offset_form (opcode p) f ≡ pos 0 → opcode p ≡ 0x2a
  pub is : insn ≡ branch_form (opcode p) f target

-- ---- payloads

-- the payload of this kind that an instruction names, and the number of its first unit, which is even
pub record IsPayloadOf (places : Places) (from : ℕ) (f : Fields) (code unit : ℕ) : Type 0 where
  pub is : pos unit ≡ pos from +ℤ word f.wide
  pub even : unit % 2 ≡ 0
  pub begins : list_any (λ u. u == unit) places.payloads ≡ true
  pub kind : slice_index places.units unit ≡ 256 * code

-- the number in two units, unsigned and signed
abbrev pub double_at : List ℕ → ℕ → ℕ
double_at units i = slice_index units i + 65536 * slice_index units (i + 1)

abbrev pub signed_at : List ℕ → ℕ → ℤ
signed_at units i = cast_signed w32 (double_at units i)

-- targets by their offsets, the first of which has this unit
abbrev pub AreTargets : Places → ℕ → ℕ → List ℕ → Type 0
AreTargets places from unit targets = Each (λ i target. GoesTo places from (signed_at places.units (unit + 2 * i)) target) 0 targets

pub record IsPacked (places : Places) (p : Piece) (f : Fields) (insn : Insn) : Type 0 where
  pub unit : ℕ
  pub payload : IsPayloadOf places p.start f 1 unit
  pub targets : List ℕ
  pub size : slice_index places.units (unit + 1) ≡ length targets
  pub are : AreTargets places p.start (unit + 4) targets
  pub is : insn ≡ PackedSwitch f.a (signed_at places.units (unit + 2)) targets

pub record IsSparse (places : Places) (p : Piece) (f : Fields) (insn : Insn) : Type 0 where
  pub unit : ℕ
  pub payload : IsPayloadOf places p.start f 2 unit
  pub keys : List ℤ
  pub targets : List ℕ
  pub many : length keys ≡ length targets
  pub size : slice_index places.units (unit + 1) ≡ length targets
  pub are_keys : Each (λ i key. key ≡ signed_at places.units (unit + 2 + 2 * i)) 0 keys
  pub ascend : keys_ascend keys ≡ true
  pub are : AreTargets places p.start (unit + 2 + 2 * length targets) targets
  pub is : insn ≡ SparseSwitch f.a keys targets

-- the two bytes of a unit
abbrev pub unit_bytes : ℕ → List ℕ
unit_bytes unit = (unit % 256) ∷ (unit / 256) ∷ []

-- an item of so many bytes
abbrev pub item_at : List ℕ → ℕ → ℕ → ℕ
item_at bytes width i = from_le_bytes w64 (take width (drop (width * i) bytes))

pub record IsFill (places : Places) (p : Piece) (f : Fields) (insn : Insn) : Type 0 where
  pub unit : ℕ
  pub payload : IsPayloadOf places p.start f 3 unit
  pub items : List ℕ
  pub width : is_width (slice_index places.units (unit + 1)) ≡ true
  pub size : double_at places.units (unit + 2) ≡ length items
  pub are : Each (λ i item. item ≡ item_at (flat_map unit_bytes (drop (unit + 4) places.units)) (slice_index places.units (unit + 1)) i) 0 items
  pub is : insn ≡ FillArray f.a (slice_index places.units (unit + 1)) items

-- ---- all instructions

pub data IsInsn (places : Places) (p : Piece) (insn : Insn) : Type 0 where
  Plain : (f : Fields) → HasFields p f → (is_branch (opcode p) || (is_call (opcode p) || has_payload (opcode p))) ≡ false → insn ≡ plain (opcode p) f → IsInsn places p insn
  Branch : (f : Fields) → HasFields p f → is_branch (opcode p) ≡ true → IsBranch places p f insn → IsInsn places p insn
  Call : (f : Fields) → HasFields p f → is_call (opcode p) ≡ true → f.a ≤ most_words (opcode p) f → insn ≡ call_form (opcode p) f → IsInsn places p insn
  Fill : (f : Fields) → HasFields p f → opcode p ≡ 0x26 → IsFill places p f insn → IsInsn places p insn
  Packed : (f : Fields) → HasFields p f → opcode p ≡ 0x2b → IsPacked places p f insn → IsInsn places p insn
  Sparse : (f : Fields) → HasFields p f → opcode p ≡ 0x2c → IsSparse places p f insn → IsInsn places p insn

-- the instructions of a body, piece by piece
abbrev pub AreInsns : Places → List Piece → List Insn → Type 0
AreInsns places [] [] = Unit {0}
AreInsns places [] (insn ∷ insns) = ⊥
AreInsns places (p ∷ ps) [] = ⊥
AreInsns places (p ∷ ps) (insn ∷ insns) = IsInsn places p insn × AreInsns places ps insns
