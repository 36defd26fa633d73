-- Which instruction may be the last, and where a move-result or a move-exception may stand.
use Rattle.std.specs.Prelude.{ℕ, ◌-◌, ◌==◌, Bool, true, false, not, ◌&&◌, ◌||◌, List, length, Option, Some, None, slice_get, replicate, if◌then◌else◌}
use Rattle.std.specs.List.{list_all, enumerate_from}
use Rattle.insn_set.specs.Flow.{goes_on}
use Rattle.insn_set.specs.declared.form.Insn.{Insn}
use Rattle.insn_set.specs.declared.form.Insn.TheVariants.{MoveResult, MoveException, FilledNewArray, Invoke}
use Rattle.program_model.specs.declared.body.Region.{Region}
use Rattle.code_read.specs.Marks.{set_targets, set_regions, is_marked}

-- whether there is a last instruction, and it does not continue
abbrev pub ends : Option Insn → Bool
ends None = false
ends (Some insn) = not (goes_on insn)

-- calls and filled arrays, behind which a move-result may stand
abbrev pub has_result : Insn → Bool
has_result (FilledNewArray kind args) = true
has_result (Invoke kind method args) = true
has_result insn = false

abbrev pub some_result : Option Insn → Bool
some_result None = false
some_result (Some insn) = has_result insn

abbrev pub some_goes_on : Option Insn → Bool
some_goes_on None = false
some_goes_on (Some insn) = goes_on insn

-- the instruction before a place: whether it gives a result, and whether it continues
abbrev pub result_before : List Insn → ℕ → Bool
result_before insns place = if place == 0 then false else some_result (slice_get insns (place - 1))

abbrev pub continues_into : List Insn → ℕ → Bool
continues_into insns place = if place == 0 then false else some_goes_on (slice_get insns (place - 1))

-- A move-result follows what gives a result, and no branch goes to it. No branch goes to a move-exception, and nothing
-- continues into it.
abbrev pub may_follow : List Insn → ℕ → Bool → Insn → Bool
may_follow insns place targeted (MoveResult slot to) = not targeted && result_before insns place
may_follow insns place targeted (MoveException to) = not targeted && not (continues_into insns place)
may_follow insns place targeted insn = true

-- no handler begins at a move-result, one does at a move-exception
abbrev pub may_handle : Bool → Insn → Bool
may_handle handled (MoveResult slot to) = not handled
may_handle handled (MoveException to) = handled
may_handle handled insn = true

-- whether an instruction may stand at its place, with marks for what branches go to and, if known, where handlers begin
abbrev pub stands : List Insn → List Bool → List Bool → Bool → ℕ × Insn → Bool
stands insns targets handlers known p = may_follow insns p.0 (is_marked targets p.0) p.1
    && (not known || may_handle (is_marked handlers p.0) p.1)

-- whether each move-result and move-exception may stand where it does
abbrev pub all_placed : List Insn → List Region → Bool
all_placed insns regions = list_all (λ p. stands insns (set_targets (replicate (length insns) false) insns) (set_regions (replicate (length insns) false) regions) true p) (enumerate_from 0 insns)
