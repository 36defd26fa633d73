-- Registers that stay side by side, and those that an instruction writes.
use Rattle.std.specs.Prelude.{◌↔◌, ℕ, ◌+◌, ◌<◌, Bool, true, false, not, nat_eq, if◌then◌else◌, List, [], ◌++◌, length, Option, Some, None, Contains}
use Rattle.std.specs.List.{list_any, filter}
use Rattle.insn_set.specs.Widths.{is_wide_slot, is_wide_item, unary_writes_wide, binary_is_wide}
use Rattle.insn_set.specs.Spelling.{fit_nibbles}
use Rattle.insn_set.specs.declared.form.Insn.{Insn}
use Rattle.insn_set.specs.declared.form.Insn.TheVariants.{Move, MoveResult, MoveException, Const, ConstWide, ConstString, ConstClass, InstanceOf, ArrayLength, NewInstance, NewArray, FilledNewArray, Cmp, ArrayGet, InstanceGet, StaticGet, Invoke, Unary, Binary, Literal}
use Rattle.program_model.specs.declared.body.Body.{Body}
use Rattle.insn_regs.specs.Wides.{wides_read}
use Rattle.walk_marks.specs.Walks.{row_of}
use Rattle.body_graph.specs.Walks.{insn_at}
use Rattle.live_regs.specs.Liveness.{operand}
use Rattle.compact.specs.Packed.{wides_written}

-- ---- ties

-- whether the register behind one is among these
abbrev pub has_next : List ℕ → ℕ → Bool
has_next words a = list_any (λ b. nat_eq b (a + 1)) words

-- the registers of a call by a range that have the one behind them there too
abbrev pub tied_words : List ℕ → List ℕ
tied_words words = if fit_nibbles words then [] else filter (has_next words) words

abbrev pub range_ties : Insn → List ℕ
range_ties (FilledNewArray kind args) = tied_words args
range_ties (Invoke kind method args) = tied_words args
range_ties f = []

-- the registers that an instruction ties to the ones behind them
abbrev pub ties_of : List (List Bool) → Insn → List ℕ
ties_of w f = (wides_written f ++ wides_read w f) ++ range_ties f

abbrev pub ties_at : List (List Bool) → Option Insn → List ℕ
ties_at w None = []
ties_at w (Some f) = ties_of w f

-- ---- writes

abbrev pub write_list : Insn → List ℕ
write_list (Move slot to from) = operand (is_wide_slot slot) to
write_list (MoveResult slot to) = operand (is_wide_slot slot) to
write_list (MoveException to) = operand false to
write_list (Const to value) = operand false to
write_list (ConstWide to value) = operand true to
write_list (ConstString to string) = operand false to
write_list (ConstClass to kind) = operand false to
write_list (InstanceOf to from kind) = operand false to
write_list (ArrayLength to from) = operand false to
write_list (NewInstance to kind) = operand false to
write_list (NewArray to size kind) = operand false to
write_list (Cmp op to a b) = operand false to
write_list (ArrayGet item to array index) = operand (is_wide_item item) to
write_list (InstanceGet item to on field) = operand (is_wide_item item) to
write_list (StaticGet item to field) = operand (is_wide_item item) to
write_list (Unary op to from) = operand (unary_writes_wide op) to
write_list (Binary op to a b) = operand (binary_is_wide op) to
write_list (Literal op to a value) = operand false to
write_list f = []

abbrev pub write_list_at : Option Insn → List ℕ
write_list_at None = []
write_list_at (Some f) = write_list f

-- ---- where they stand

-- for each register the positions that tie it to the one behind it, or that write it
abbrev pub AreTies : List (List Bool) → Body → List (List ℕ) → Type 0
AreTies w b rows = (r n : ℕ) → r < b.registers → Contains (row_of rows r) n ↔ Contains (ties_at w (insn_at b n)) r

abbrev pub AreWriters : Body → List (List ℕ) → Type 0
AreWriters b rows = (r n : ℕ) → r < b.registers → Contains (row_of rows r) n ↔ Contains (write_list_at (insn_at b n)) r

-- whether a row isn't empty
abbrev pub has_some : List (List ℕ) → ℕ → Bool
has_some rows r = not (nat_eq (length (row_of rows r)) 0)
