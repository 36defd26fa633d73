-- The registers that a body names, in numbers.
use Rattle.std.specs.Prelude.{◌≡◌, ℕ, ◌+◌, ◌≤◌, Bool, List, [], ◌∷◌, sum, sum_by, Option, Some, None}
use Rattle.insn_set.specs.declared.form.Insn.{Insn}
use Rattle.insn_set.specs.declared.form.Insn.TheVariants.{Move, MoveResult, MoveException, Return, Const, ConstWide, ConstString, ConstClass, MonitorEnter, MonitorExit, CheckCast, InstanceOf, ArrayLength, NewInstance, NewArray, FilledNewArray, FillArray, Throw, PackedSwitch, SparseSwitch, Cmp, If, IfZero, ArrayGet, ArrayPut, InstanceGet, InstancePut, StaticGet, StaticPut, Invoke, Unary, Binary, Literal}
use Rattle.program_model.specs.declared.body.Body.{Body}
use Rattle.program_model.specs.declared.program.Method.{Method}
use Rattle.program_model.specs.declared.program.Class.{Class}
use Rattle.program_model.specs.declared.program.Program.{Program}
use Rattle.compact.specs.Renamed.{IsCompacted}

-- the registers that an instruction names, of a wide one the first
abbrev pub numbers_of : Insn → List ℕ
numbers_of (Move slot to from) = to ∷ from ∷ []
numbers_of (MoveResult slot to) = to ∷ []
numbers_of (MoveException to) = to ∷ []
numbers_of (Return slot from) = from ∷ []
numbers_of (Const to value) = to ∷ []
numbers_of (ConstWide to value) = to ∷ []
numbers_of (ConstString to string) = to ∷ []
numbers_of (ConstClass to kind) = to ∷ []
numbers_of (MonitorEnter on) = on ∷ []
numbers_of (MonitorExit on) = on ∷ []
numbers_of (CheckCast on kind) = on ∷ []
numbers_of (InstanceOf to from kind) = to ∷ from ∷ []
numbers_of (ArrayLength to from) = to ∷ from ∷ []
numbers_of (NewInstance to kind) = to ∷ []
numbers_of (NewArray to size kind) = to ∷ size ∷ []
numbers_of (FilledNewArray kind args) = args
numbers_of (FillArray on width items) = on ∷ []
numbers_of (Throw on) = on ∷ []
numbers_of (PackedSwitch on first targets) = on ∷ []
numbers_of (SparseSwitch on keys targets) = on ∷ []
numbers_of (Cmp op to a b) = to ∷ a ∷ b ∷ []
numbers_of (If test a b target) = a ∷ b ∷ []
numbers_of (IfZero test a target) = a ∷ []
numbers_of (ArrayGet item to array index) = to ∷ array ∷ index ∷ []
numbers_of (ArrayPut item from array index) = from ∷ array ∷ index ∷ []
numbers_of (InstanceGet item to on field) = to ∷ on ∷ []
numbers_of (InstancePut item from on field) = from ∷ on ∷ []
numbers_of (StaticGet item to field) = to ∷ []
numbers_of (StaticPut item from field) = from ∷ []
numbers_of (Invoke kind method args) = args
numbers_of (Unary op to from) = to ∷ from ∷ []
numbers_of (Binary op to a b) = to ∷ a ∷ b ∷ []
numbers_of (Literal op to a value) = to ∷ a ∷ []
numbers_of f = []

abbrev pub number_sum : Body → ℕ
number_sum b = sum_by (λ f. sum (numbers_of f)) b.insns

-- what becomes lower: the register count, or else the sum of the numbers; where neither does, the body stays the same
pub record IsLower (b d : Body) : Type 0 where
  pub registers : d.registers ≤ b.registers
  pub numbers : number_sum d ≤ number_sum b
  pub same : d.registers ≡ b.registers → number_sum d ≡ number_sum b → d ≡ b

abbrev pub LowersByNumber : Type 0
LowersByNumber = (w : List (List Bool)) (b d : Body) → IsCompacted w b d → IsLower b d

-- the registers of all bodies, and the numbers that their instructions name
abbrev pub body_numbers : Option Body → ℕ
body_numbers None = 0
body_numbers (Some b) = b.registers + number_sum b

abbrev pub method_numbers : Method → ℕ
method_numbers m = body_numbers m.body

abbrev pub class_numbers : Class → ℕ
class_numbers c = sum_by method_numbers c.methods

abbrev pub numbers_in : Program → ℕ
numbers_in p = sum_by class_numbers p.classes
