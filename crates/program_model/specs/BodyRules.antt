-- What a body has to be (Dalvik executable format, "code_item", and Dalvik bytecode).
use Rattle.std.specs.Prelude.{ℕ, ◌-◌, List, length, Bool, true, false, not, ◌&&◌, ◌||◌, nat_eq, Option, Some, None, slice_get}
use Rattle.std.specs.List.{list_all, list_any, enumerate_from}
use Rattle.insn_set.specs.Flow.{goes_on, targets_of}
use Rattle.insn_set.specs.Spelling.{is_encodable}
use Rattle.insn_set.specs.declared.form.Insn.{Insn}
use Rattle.insn_set.specs.declared.form.Insn.TheVariants.{MoveResult, MoveException, FilledNewArray, Invoke, If, IfZero}
use Rattle.program_model.specs.Neighbours.{neighbours}
use Rattle.program_model.specs.OperandRules.{registers_fit, numbers_fit}
use Rattle.program_model.specs.RegionRules.{may_begin, regions_fit}
use Rattle.program_model.specs.declared.body.Region.{Region}
use Rattle.program_model.specs.declared.body.Body.{Body}
use Rattle.program_model.specs.declared.program.Program.{Program}

-- there is a last instruction, and it does not continue
abbrev pub ends : Option Insn → Bool
ends None = false
ends (Some insn) = not (goes_on insn)

-- calls and filled arrays, behind which a move-result may stand
abbrev pub has_result : Insn → Bool
has_result (FilledNewArray kind args) = true
has_result (Invoke kind method args) = true
has_result insn = false

-- which instruction may stand directly behind which: a move-result behind what gives a result, a move-exception behind what
-- does not continue
abbrev pub may_follow : Insn → Insn → Bool
may_follow before (MoveResult slot to) = has_result before
may_follow before (MoveException to) = not (goes_on before)
may_follow before insn = true

abbrev pub follows : Insn × Insn → Bool
follows pair = may_follow pair.0 pair.1

-- a branch may go to a position that is neither a move-result nor a move-exception
abbrev pub may_enter : Option Insn → Bool
may_enter None = false
may_enter (Some (MoveResult slot to)) = false
may_enter (Some (MoveException to)) = false
may_enter (Some insn) = true

abbrev pub targets_fit : List Insn → Insn → Bool
targets_fit insns insn = list_all (λ target. may_enter (slice_get insns target)) (targets_of insn)

-- a conditional branch does not go to its own position
abbrev pub leaves : ℕ → Insn → Bool
leaves position (If test a b target) = not (nat_eq target position)
leaves position (IfZero test a target) = not (nat_eq target position)
leaves position insn = true

-- a handler of the region begins at the position
abbrev pub is_rest : ℕ → Option ℕ → Bool
is_rest position None = false
is_rest position (Some rest) = nat_eq rest position

abbrev pub handles_at : ℕ → Region → Bool
handles_at position region = list_any (λ handler. nat_eq handler.position position) region.handlers || is_rest position region.rest

-- a handler begins at a move-exception
abbrev pub is_caught : List Region → ℕ → Insn → Bool
is_caught regions position (MoveException to) = list_any (handles_at position) regions
is_caught regions position insn = true

-- what an instruction has to be, with its position
unfoldable pub insn_fits : Program → Body → ℕ × Insn → Bool
insn_fits p body at = (is_encodable at.1 && (registers_fit at.1 body.registers && numbers_fit at.1 p))
    && (targets_fit body.insns at.1 && (leaves at.0 at.1 && is_caught body.regions at.0 at.1))

unfoldable pub body_fits : Program → Body → Bool
body_fits p body = (may_begin (slice_get body.insns 0) && ends (slice_get body.insns (length body.insns - 1)))
    && (list_all follows (neighbours body.insns)
    && (list_all (insn_fits p body) (enumerate_from 0 body.insns) && regions_fit p body.insns body.regions))
