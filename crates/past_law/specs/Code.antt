-- What the code of a class's methods takes of what is counted.
use Rattle.std.specs.Prelude.{◌≡◌, ◌≤◌, ◌-◌, ◌⊎◌, ℕ, suc, List, slice_index}
use Rattle.program_model.specs.Limits.{limit_of}
use Rattle.program_model.specs.declared.limits.Counted.TheVariants.{Cells, Items}
use Rattle.program_model.specs.declared.limits.LimitFault.{LimitFault}
use Rattle.dex_defs.specs.Limits.{IsCell, IsItem}
use Rattle.dex_read.specs.declared.fault.DexFault.{DexFault}
use Rattle.dex_read.specs.declared.fault.DexFault.TheVariants as dex
use Rattle.dex_read.specs.declared.members.Budget.{Budget}
use Rattle.past_law.specs.Told.{Told, one_past}

-- items of the code of this class: opcodes of its lines, and its handlers
abbrev pub OfCode : ℕ → List ℕ → Type 0
OfCode class way = (6 ≤ slice_index way 0) × (slice_index way 1 ≡ class)

-- cells of the code of this class
abbrev pub CellsOf : ℕ → List ℕ → Type 0
CellsOf class way = slice_index way 0 ≡ class

-- what was taken of a budget stands in the bytes, with names of these shapes
pub record Took (bytes : List ℕ) (InItems InCells : List ℕ → Type 0) (before behind : Budget) : Type 0 where
  pub items : Told (IsItem bytes) InItems (before.items - behind.items)
  pub cells : Told (IsCell bytes) InCells (behind.cells - before.cells)

-- one thing more than a budget leaves stands there
abbrev pub PassesBudget : List ℕ → (List ℕ → Type 0) → (List ℕ → Type 0) → Budget → LimitFault → Type 0
PassesBudget bytes InItems InCells before fault = ((fault ≡ one_past Items) × Told (IsItem bytes) InItems (suc before.items)) ⊎ ((fault ≡ one_past Cells) × Told (IsCell bytes) InCells (suc (limit_of Cells) - before.cells))

-- what is said of a passed limit, and nothing of any other fault
abbrev pub OnPast : (LimitFault → Type 0) → DexFault → Type 0
OnPast Says (dex.Limit fault) = Says fault
OnPast Says fault = Unit {0}

-- what the methods of a class take, and where their code passes a limit
abbrev pub CodeTakes : List ℕ → ℕ → Budget → Budget → Type 0
CodeTakes bytes class before behind = Took bytes (OfCode class) (CellsOf class) before behind

abbrev pub PastCode : List ℕ → ℕ → Budget → DexFault → Type 0
PastCode bytes class before fault = OnPast (PassesBudget bytes (OfCode class) (CellsOf class) before) fault
