-- The moves of what a call passes into the registers of a method's arguments.
use Rattle.std.specs.Prelude.{ℕ, ◌-◌, if◌then◌else◌, List, [], ◌∷◌, ◌++◌, map, drop, Option, Some, None, slice_get, option_and_then}
use Rattle.insn_set.specs.Widths.{is_wide_slot}
use Rattle.insn_set.specs.declared.ops.Slot.{Slot}
use Rattle.insn_set.specs.declared.ops.Slot.TheVariants as slot
use Rattle.insn_set.specs.declared.form.Insn.{Insn}
use Rattle.insn_set.specs.declared.form.Insn.TheVariants as insn
use Rattle.program_model.specs.MemberRules.{has_flag}
use Rattle.program_model.specs.Texts.{letter_of, is_wide, is_reference}
use Rattle.program_model.specs.declared.pools.Proto.{Proto}
use Rattle.program_model.specs.declared.program.Method.{Method}
use Rattle.program_model.specs.declared.program.Program.{Program}
use Rattle.splice.specs.Shifted.{shifted}
use Rattle.splice.specs.declared.callee.Callee.{Callee}

-- what a register holds of a type, by the letter that its descriptor begins with
abbrev pub slot_for : ℕ → Slot
slot_for letter = if is_wide letter then slot.Wide else if is_reference letter then slot.Object else slot.Word

abbrev pub slot_of : Program → ℕ → Slot
slot_of p kind = slot_for (letter_of p kind)

-- the types of the parameters of a method
abbrev pub parameters_in : Option Proto → List ℕ
parameters_in None = []
parameters_in (Some proto) = proto.parameters

abbrev pub parameters_of : Program → ℕ → List ℕ
parameters_of p method = parameters_in (option_and_then (λ m. slice_get p.protos m.proto) (slice_get p.methods method))

-- what a method's arguments are held in: the receiver's word, unless it is static, and each parameter
abbrev pub receiver_slots : Method → List Slot
receiver_slots m = if has_flag m.flags 8 then [] else slot.Object ∷ []

abbrev pub passed_slots : Program → Method → List Slot
passed_slots p m = receiver_slots m ++ map (slot_of p) (parameters_of p m.name)

-- ---- one argument

-- its move, if it has a register
abbrev pub first_move : ℕ → Slot → ℕ → List ℕ → List Insn
first_move shift s to [] = []
first_move shift s to (r ∷ rs) = insn.Move s to (shifted shift r) ∷ []

-- how many registers it takes, where the next one goes, and what stands behind its registers
abbrev pub words_of : Slot → ℕ
words_of s = if is_wide_slot s then 2 else 1

abbrev pub behind_to : Slot → ℕ → ℕ
behind_to s to = shifted (words_of s) to

abbrev pub behind_args : Slot → List ℕ → List ℕ
behind_args s [] = []
behind_args s (r ∷ rs) = if is_wide_slot s then drop 1 rs else rs

-- ---- all arguments

-- one move for each argument that has a register, from registers so many higher
abbrev pub moves_to : ℕ → List Slot → ℕ → List ℕ → List Insn
moves_to shift [] to rs = []
moves_to shift (s ∷ ss) to rs = first_move shift s to rs ++ moves_to shift ss (behind_to s to) (behind_args s rs)

-- the moves before a copy, of the registers that the call passes
abbrev pub moves_of : Program → ℕ → Callee → List ℕ → List Insn
moves_of p shift c args = moves_to shift (passed_slots p c.method.now) (c.body.now.registers - c.body.now.ins) args
