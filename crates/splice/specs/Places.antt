-- How much room each position of a caller takes in the new body, and where it begins.
use Rattle.std.specs.Prelude.{ℕ, suc, ◌+◌, Bool, true, if◌then◌else◌, List, [], ◌∷◌, map, length, sum_by, Option, Some, None, is_some, slice_get}
use Rattle.insn_set.specs.declared.form.Insn.{Insn}
use Rattle.insn_set.specs.declared.form.Insn.TheVariants as insn
use Rattle.program_model.specs.declared.program.Program.{Program}
use Rattle.splice.specs.declared.callee.Callee.{Callee}
use Rattle.splice.specs.Shifted.{word}
use Rattle.splice.specs.Callees.{chosen_at, taken_by, is_dropped, args_of}
use Rattle.splice.specs.Moves.{moves_of}

-- a return whose result is taken becomes a move and a goto, any other instruction stays one
abbrev pub copy_size : Bool → Insn → ℕ
copy_size true (insn.Return slot from) = 2
copy_size taken i = 1

abbrev pub callee_size : Program → ℕ → Bool → Callee → List ℕ → ℕ
callee_size p shift taken c args = word (length (moves_of p shift c args) + sum_by (copy_size taken) c.body.now.insns)

-- how many instructions stand for one
abbrev pub size_by : Program → ℕ → Bool → Bool → Insn → Option Callee → ℕ
size_by p shift taken dropped i (Some c) = callee_size p shift taken c (args_of i)
size_by p shift taken dropped i None = if dropped then 0 else 1

abbrev pub size_at : Program → List (Option Callee) → ℕ → List Insn → ℕ → Insn → ℕ
size_at p chosen shift insns n i = size_by p shift (is_some (taken_by (slice_get insns (suc n)))) (is_dropped chosen insns n) i (chosen_at chosen n)

-- those of the positions from one on
abbrev pub sizes_from : Program → List (Option Callee) → ℕ → List Insn → ℕ → List Insn → List ℕ
sizes_from p chosen shift insns n [] = []
sizes_from p chosen shift insns n (i ∷ is) = size_at p chosen shift insns n i ∷ sizes_from p chosen shift insns (suc n) is

-- where positions of these sizes begin from a place on, and the place behind them
abbrev pub places_from : ℕ → List ℕ → List ℕ
places_from at [] = at ∷ []
places_from at (s ∷ ss) = at ∷ places_from (word (at + s)) ss

-- where each position of a caller begins; behind the last one stands the end
abbrev pub places_of : Program → List (Option Callee) → ℕ → List Insn → List ℕ
places_of p chosen shift insns = places_from 0 (sizes_from p chosen shift insns 0 insns)

-- where the positions of a method begin in a copy of it
abbrev pub inner_places : ℕ → Bool → List Insn → List ℕ
inner_places first taken insns = places_from first (map (copy_size taken) insns)
