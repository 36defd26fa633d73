-- Which registers are live, and what is looked at to know it.
use Rattle.std.specs.Prelude.{◌≡◌, ◌↔◌, ℕ, ◌+◌, ◌<◌, Bool, true, false, not, ◌&&◌, nat_lt, List, [], ◌∷◌, ◌++◌, length, Option, Some, None, Contains}
use Rattle.insn_set.specs.Widths.{is_wide_slot, is_wide_item, compares_wide, unary_reads_wide, binary_is_wide, second_is_wide}
use Rattle.insn_set.specs.declared.form.Insn.{Insn}
use Rattle.insn_set.specs.declared.form.Insn.TheVariants as insn
use Rattle.insn_set.specs.Registers.{reads_of, writes_of}
use Rattle.program_model.specs.declared.body.Body.{Body}
use Rattle.walk_marks.specs.Walks.{row_of, is_on}
use Rattle.body_graph.specs.Walks.{insn_at, IsRead}
use Rattle.body_graph.specs.Graph.{node_row}

-- ---- the registers that a form reads

abbrev pub operand : Bool → ℕ → List ℕ
operand false at = at ∷ []
operand true at = at ∷ (at + 1) ∷ []

abbrev pub single_list : Insn → List ℕ
single_list (insn.Move slot to from) = operand (is_wide_slot slot) from
single_list (insn.Return slot from) = operand (is_wide_slot slot) from
single_list (insn.MonitorEnter on) = operand false on
single_list (insn.MonitorExit on) = operand false on
single_list (insn.CheckCast on kind) = operand false on
single_list (insn.InstanceOf to from kind) = operand false from
single_list (insn.ArrayLength to from) = operand false from
single_list (insn.NewArray to size kind) = operand false size
single_list (insn.FilledNewArray kind args) = args
single_list (insn.FillArray on width items) = operand false on
single_list (insn.Throw on) = operand false on
single_list (insn.PackedSwitch on first targets) = operand false on
single_list (insn.SparseSwitch on keys targets) = operand false on
single_list (insn.IfZero test a target) = operand false a
single_list (insn.InstanceGet item to on field) = operand false on
single_list (insn.StaticPut item from field) = operand (is_wide_item item) from
single_list (insn.Invoke kind method args) = args
single_list (insn.Unary op to from) = operand (unary_reads_wide op) from
single_list (insn.Literal op to a value) = operand false a
single_list i = []

abbrev pub several_list : Insn → List ℕ
several_list (insn.Cmp op to a b) = operand (compares_wide op) a ++ operand (compares_wide op) b
several_list (insn.If test a b target) = operand false a ++ operand false b
several_list (insn.ArrayGet item to array index) = operand false array ++ operand false index
several_list (insn.ArrayPut item from array index) = (operand (is_wide_item item) from ++ operand false array) ++ operand false index
several_list (insn.InstancePut item from on field) = operand (is_wide_item item) from ++ operand false on
several_list (insn.Binary op to a b) = operand (binary_is_wide op) a ++ operand (second_is_wide op) b
several_list i = []

abbrev pub read_list : Insn → List ℕ
read_list i = single_list i ++ several_list i

abbrev pub read_list_at : Option Insn → List ℕ
read_list_at None = []
read_list_at (Some i) = read_list i

-- ---- what reads a register, and from where a read is seen

abbrev pub reads_at : ℕ → Option Insn → Bool
reads_at r None = false
reads_at r (Some i) = reads_of i r

abbrev pub writes_at : ℕ → Option Insn → Bool
writes_at r None = false
writes_at r (Some i) = writes_of i r

-- these positions read the register, and no others
abbrev pub ReadIt : Body → ℕ → List ℕ → Type 0
ReadIt b r readers = (n : ℕ) → Contains readers n ↔ (reads_at r (insn_at b n) ≡ true)

abbrev pub AreReaders : Body → List (List ℕ) → Type 0
AreReaders b readers = (r : ℕ) → r < b.registers → ReadIt b r (row_of readers r)

-- Along an edge that is turned round, a read of the register is seen, unless the edge leads from a position to one that
-- writes the register.
abbrev pub sees : Body → ℕ → ℕ → ℕ → Bool
sees b r from to = not (nat_lt from (length b.insns) && writes_at r (insn_at b to))

-- the edges of the body's graph, turned round
abbrev pub IsBack : Body → List (List ℕ) → Type 0
IsBack b back = (n m : ℕ) → m < length b.insns + length b.regions → Contains (row_of back m) n ↔ Contains (node_row b n) m

-- ---- what is live

-- the positions before which the register is live, each marked; where none is, there may be no mark at all
abbrev pub AreMarks : Body → ℕ → List Bool → Type 0
AreMarks b r marks = (n : ℕ) → (is_on marks n ≡ true) ↔ IsRead b r n
