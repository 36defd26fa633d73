-- Which instruction begins at a unit (Dalvik bytecode, "Summary of bytecode set" and "Instruction formats").
use Rattle.std.specs.Prelude.{ℕ, ◌%◌, ◌==◌, ◌&&◌, ◌-◌, not, Bool, nat_le, nat_lt, pos, List, [], ◌∷◌, drop, slice_index, unwrap_or, Option, Some, None, Result, Ok, Err, if◌then◌else◌}
use Rattle.std.specs.Option.{option_and_then}
use Rattle.std.specs.Ordering.{int_eq}
use Rattle.dex_base.specs.Reading.{◌>>=◌}
use Rattle.insn_set.specs.declared.form.Insn.{Insn}
use Rattle.program_model.specs.declared.limits.Counted.TheVariants.{Cells}
use Rattle.code_read.specs.declared.fault.CodeFault.{CodeFault}
use Rattle.code_read.specs.declared.fault.CodeFault.TheVariants.{Payload, Operand}
use Rattle.code_read.specs.declared.fields.Fields.{Fields}
use Rattle.code_read.specs.declared.sizes.Sizes.{Sizes}
use Rattle.code_read.specs.Branches.{is_branch, is_call, offset_form, branch_form, most_words, call_form}
use Rattle.code_read.specs.Checks.{operands_inside}
use Rattle.code_read.specs.Fault.{passed}
use Rattle.code_read.specs.Fields.{fields, fields_in}
use Rattle.code_read.specs.Forms.{word, plain}
use Rattle.code_read.specs.Opcodes.{format_at}
use Rattle.code_read.specs.Payloads.{has_payload, is_right, size_of, table_form}
use Rattle.code_read.specs.Positions.{unit_from, payload_at, target_from, nowhere}
use Rattle.code_read.specs.Sweep.{Places}

-- the opcode of the instruction at this unit, and its fields; 0 where no instruction is there
abbrev pub opcode_at : List ℕ → ℕ → ℕ
opcode_at units start = slice_index units start % 256

unfoldable pub fields_at : List ℕ → ℕ → Fields
fields_at units start = unwrap_or (option_and_then (λ format. fields_in format (drop start units)) (format_at (opcode_at units start))) (fields 0 0 0 0)

-- ---- payloads

abbrev pub units_from : List ℕ → Option ℕ → List ℕ
units_from units None = []
units_from units (Some unit) = drop unit units

-- the units from the payload on that an instruction names; none where it names no payload
unfoldable pub payload_of : Places → ℕ → Fields → List ℕ
payload_of places start f = units_from places.units (payload_at places.payloads (unit_from start (word f.wide)))

-- how many entries the payload has that the instruction at this unit needs, 0 where it needs none
abbrev pub entries_of : Places → ℕ → ℕ → Fields → Result ℕ CodeFault
entries_of places start op f = if has_payload op
    then (if is_right op (payload_of places start f) then Ok (size_of op (payload_of places start f)) else Err (Payload start))
    else Ok 0

unfoldable pub entries_at : Places → ℕ → Result ℕ CodeFault
entries_at places start = entries_of places start (opcode_at places.units start) (fields_at places.units start)

-- That each instruction that needs a payload has a right one, and that all together have no more entries than are left of the
-- cells of a program.
abbrev pub check_payloads : Places → ℕ → List ℕ → Result (Unit {0}) CodeFault
check_payloads places left [] = Ok tt
check_payloads places left (s ∷ ss) = entries_at places s >>= λ n. if nat_lt left n then Err (passed Cells) else check_payloads places (left - n) ss

-- ---- instructions

-- the branch: the offset 0 is that of a goto/32 alone
abbrev pub branch_at : List ℕ → ℕ → ℕ → Fields → Insn
branch_at starts start op f = branch_form op f (if int_eq (offset_form op f) (pos 0) && not (op == 0x2a) then nowhere else target_from starts start (offset_form op f))

abbrev pub call_at : ℕ → ℕ → Fields → Result Insn CodeFault
call_at start op f = if nat_le f.a (most_words op f) then Ok (call_form op f) else Err (Operand start)

abbrev pub insn_of : Places → ℕ → ℕ → Fields → Result Insn CodeFault
insn_of places start op f = if is_call op then call_at start op f
    else if is_branch op then Ok (branch_at places.starts start op f)
    else if has_payload op then Ok (table_form op f.a (target_from places.starts start) (payload_of places start f))
    else Ok (plain op f)

-- the instruction at this unit; a branch that goes to no position is given nowhere
unfoldable pub insn_at : Places → ℕ → Result Insn CodeFault
insn_at places start = insn_of places start (opcode_at places.units start) (fields_at places.units start)

-- the same, where its registers and table numbers are in range
unfoldable pub checked_at : Places → Sizes → ℕ → Result Insn CodeFault
checked_at places sizes start = insn_at places start >>= λ insn. if operands_inside sizes insn then Ok insn else Err (Operand start)

abbrev pub insns_from : Places → Sizes → List ℕ → Result (List Insn) CodeFault
insns_from places sizes [] = Ok []
insns_from places sizes (s ∷ ss) = checked_at places sizes s >>= λ insn. insns_from places sizes ss >>= λ insns. Ok (insn ∷ insns)

-- the instructions of a body
abbrev pub insns_of : Places → Sizes → Result (List Insn) CodeFault
insns_of places sizes = insns_from places sizes places.starts
