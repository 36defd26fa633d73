-- Which operands are wide, those of calls too (Dalvik bytecode, "Summary of bytecode set").
use Rattle.std.specs.Prelude.{ℕ, Bool, true, false, ◌&&◌, not, nat_eq, List, [], ◌∷◌, ◌++◌, map, take, drop, Option, Some, None, slice_get, slice_index_or}
use Rattle.std.specs.List.{list_any}
use Rattle.insn_set.specs.Registers.{in_operand, reads_of}
use Rattle.insn_set.specs.Widths.{is_wide_slot, is_wide_item, compares_wide, unary_reads_wide, binary_is_wide, second_is_wide}
use Rattle.insn_set.specs.declared.ops.Slot.{Slot}
use Rattle.insn_set.specs.declared.ops.InvokeKind.{InvokeKind}
use Rattle.insn_set.specs.declared.ops.InvokeKind.TheVariants as call
use Rattle.insn_set.specs.declared.form.Insn.{Insn}
use Rattle.insn_set.specs.declared.form.Insn.TheVariants.{Move, Return, Cmp, ArrayPut, InstancePut, StaticPut, Invoke, Unary, Binary}
use Rattle.program_model.specs.Texts.{letter_of, is_wide}
use Rattle.program_model.specs.declared.pools.MethodName.{MethodName}
use Rattle.program_model.specs.declared.pools.Proto.{Proto}
use Rattle.program_model.specs.declared.program.Program.{Program}

-- ---- the arguments of a method

abbrev pub is_wide_type : Program → ℕ → Bool
is_wide_type p kind = is_wide (letter_of p kind)

abbrev pub parameters_in : Option Proto → List ℕ
parameters_in None = []
parameters_in (Some proto) = proto.parameters

-- whether the receiver that a method may have is wide, and each of its parameters
abbrev pub widths_in : Program → MethodName → List Bool
widths_in p m = map (is_wide_type p) (m.class ∷ parameters_in (slice_get p.protos m.proto))

-- those of all methods, by number
abbrev pub widths_of : Program → List (List Bool)
widths_of p = map (widths_in p) p.methods

-- the first registers of wide arguments
abbrev pub wide_arguments : List Bool → List ℕ → List ℕ
wide_arguments [] rs = []
wide_arguments (w ∷ ws) [] = []
wide_arguments (w ∷ ws) (r ∷ rs) = elim w [ true ↦ r ∷ wide_arguments ws (drop 1 rs) | false ↦ wide_arguments ws rs ]

-- the first register of an argument where it is wide, and the registers behind the argument
abbrev pub first_wide : Bool → List ℕ → List ℕ
first_wide true rs = take 1 rs
first_wide false rs = []

abbrev pub behind_argument : Bool → List ℕ → List ℕ
behind_argument true rs = drop 1 (drop 1 rs)
behind_argument false rs = drop 1 rs

-- a static call passes no receiver
abbrev pub wide_passed : InvokeKind → List Bool → List ℕ → List ℕ
wide_passed call.Static ws rs = wide_arguments (drop 1 ws) rs
wide_passed kind ws rs = wide_arguments ws rs

-- ---- operands

abbrev pub first_if : Bool → ℕ → List ℕ
first_if true r = r ∷ []
first_if false r = []

-- the first registers of the wide operands that an instruction reads
abbrev pub wides_read : List (List Bool) → Insn → List ℕ
wides_read w (Move slot to from) = first_if (is_wide_slot slot) from
wides_read w (Return slot from) = first_if (is_wide_slot slot) from
wides_read w (Cmp op to a b) = first_if (compares_wide op) a ++ first_if (compares_wide op) b
wides_read w (ArrayPut item from array index) = first_if (is_wide_item item) from
wides_read w (InstancePut item from on field) = first_if (is_wide_item item) from
wides_read w (StaticPut item from field) = first_if (is_wide_item item) from
wides_read w (Invoke kind method args) = wide_passed kind (slice_index_or w method []) args
wides_read w (Unary op to from) = first_if (unary_reads_wide op) from
wides_read w (Binary op to a b) = first_if (binary_is_wide op) a ++ first_if (second_is_wide op) b
wides_read w insn = []

-- whether an instruction reads an operand as wide as the slot that begins at the register
abbrev pub reads_as : List (List Bool) → Slot → Insn → ℕ → Bool
reads_as w slot insn r = elim (is_wide_slot slot) [
  | true ↦ list_any (nat_eq r) (wides_read w insn)
  | false ↦ reads_of insn r && not (list_any (λ at. in_operand true at r) (wides_read w insn))
]
