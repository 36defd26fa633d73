-- The body that the units and the try items of a method spell, or the fault for which they are refused (Dalvik bytecode, and
-- Dalvik executable format, "code_item").
use Rattle.std.specs.Prelude.{ℕ, ◌+◌, ◌-◌, ◌==◌, ◌&&◌, Bool, true, false, not, nat_lt, List, [], length, replicate, position, slice_get, slice_index, Option, Some, None, Result, Ok, Err, if◌then◌else◌}
use Rattle.std.specs.List.{enumerate_from}
use Rattle.std.specs.Option.{option_map}
use Rattle.dex_base.specs.Reading.{◌>>=◌}
use Rattle.insn_set.specs.Flow.{goes_on}
use Rattle.insn_set.specs.Formats.{format_units}
use Rattle.insn_set.specs.declared.form.Insn.{Insn}
use Rattle.program_model.specs.declared.body.Body.{Body}
use Rattle.program_model.specs.declared.body.Region.{Region}
use Rattle.code_read.specs.declared.fault.CodeFault.{CodeFault}
use Rattle.code_read.specs.declared.fault.CodeFault.TheVariants as fault
use Rattle.code_read.specs.declared.sizes.Sizes.{Sizes}
use Rattle.code_read.specs.Checks.{targets_inside}
use Rattle.code_read.specs.Decoded.{opcode_at, check_payloads, insns_of}
use Rattle.code_read.specs.Fault.{refuse}
use Rattle.code_read.specs.Marks.{set_targets, set_regions}
use Rattle.code_read.specs.Opcodes.{format_at}
use Rattle.code_read.specs.Order.{ends, stands}
use Rattle.code_read.specs.Regions.{regions_of}
use Rattle.code_read.specs.Sweep.{Places, sweep_of}

-- ---- branches go to positions

abbrev pub first_outside : List Insn → Option ℕ
first_outside insns = position (λ insn. not (targets_inside (length insns) insn)) insns

abbrev pub check_targets : List ℕ → List Insn → Result (Unit {0}) CodeFault
check_targets starts insns = refuse (λ k. fault.Target (slice_index starts k)) (first_outside insns)

-- ---- no instruction continues into none

abbrev pub units_or_none : Option ℕ → ℕ
units_or_none None = 0
units_or_none (Some n) = n

-- how many units the instruction at this unit has
abbrev pub size_at : List ℕ → ℕ → ℕ
size_at units start = units_or_none (option_map format_units (format_at (opcode_at units start)))

-- whether an instruction that another follows continues, and the other doesn't begin directly behind it
abbrev pub is_gap : List ℕ → List ℕ → ℕ × Insn → Bool
is_gap units starts p = nat_lt p.0 (length starts - 1)
    && (goes_on p.1 && not (slice_index starts p.0 + size_at units (slice_index starts p.0) == slice_index starts (p.0 + 1)))

abbrev pub first_gap : List ℕ → List ℕ → List Insn → Option ℕ
first_gap units starts insns = position (is_gap units starts) (enumerate_from 0 insns)

-- the last instruction doesn't continue, and there is one
abbrev pub check_last : List ℕ → List Insn → Result (Unit {0}) CodeFault
check_last starts insns = if ends (slice_get insns (length insns - 1)) then Ok tt else Err (fault.FallsOff (slice_index starts (length insns - 1)))

abbrev pub check_flow : List ℕ → List ℕ → List Insn → Result (Unit {0}) CodeFault
check_flow units starts insns = refuse (λ k. fault.FallsOff (slice_index starts k)) (first_gap units starts insns) >>= λ _. check_last starts insns

-- ---- moves of results and exceptions

-- the first move-result or move-exception that may not stand where it does: as the handlers are, where they are known, else whatever they are
abbrev pub first_astray : List Insn → List Region → Bool → Option ℕ
first_astray insns regions known = position
    (λ p. not (stands insns (set_targets (replicate (length insns) false) insns) (set_regions (replicate (length insns) false) regions) known p))
    (enumerate_from 0 insns)

abbrev pub check_places : List ℕ → List Insn → List Region → Bool → Result (Unit {0}) CodeFault
check_places starts insns regions known = refuse (λ k. fault.Misplaced (slice_index starts k)) (first_astray insns regions known)

-- the regions, where all of these stand right; a fault of the regions comes behind what holds whatever the handlers are
abbrev pub placed : List ℕ → List Insn → Result (List Region) CodeFault → Result (List Region) CodeFault
placed starts insns (Ok regions) = check_places starts insns regions true >>= λ _. Ok regions
placed starts insns (Err e) = check_places starts insns [] false >>= λ _. Err e

-- ---- the body

abbrev pub body : Sizes → List Insn → List Region → Body
body sizes insns regions = record { registers = sizes.registers; ins = sizes.ins; insns = insns; regions = regions }

-- the body whose instructions and payloads begin there
unfoldable pub body_at : List ℕ → Sizes → Places → Result Body CodeFault
body_at tries sizes places = do
  checked ← check_payloads places 67108864 places.starts
  insns ← insns_of places sizes
  inside ← check_targets places.starts insns
  flows ← check_flow places.units places.starts insns
  regions ← placed places.starts insns (regions_of tries sizes places)
  Ok (body sizes insns regions)

-- The body that the units and the try items spell, or its fault. The faults come in this order: Opcode and Cut by unit; then Payload,
-- Operand, Target, FallsOff and Misplaced, each by position; then Region, Handler and the Limit of items, try item by try item.
-- The Limit of cells comes among Payload.
unfoldable pub body_of : List ℕ → List ℕ → Sizes → Result Body CodeFault
body_of units tries sizes = sweep_of units >>= λ places. body_at tries sizes places

-- the same with the units where its instructions begin
unfoldable pub code_of : List ℕ → List ℕ → Sizes → Result (Body × List ℕ) CodeFault
code_of units tries sizes = sweep_of units >>= λ places. body_at tries sizes places >>= λ body. Ok (body, places.starts)
