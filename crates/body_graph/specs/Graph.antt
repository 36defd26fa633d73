-- The graph of the code of a method: its positions, and behind them its regions.
use Rattle.std.specs.Prelude.{ℕ, suc, ◌+◌, ◌-◌, Bool, true, false, ◌&&◌, nat_lt, if◌then◌else◌, List, [], ◌∷◌, ◌++◌, length, Option, Some, None, slice_get}
use Rattle.std.specs.List.{filter}
use Rattle.insn_set.specs.declared.form.Insn.{Insn}
use Rattle.insn_set.specs.Flow.{throws, targets_of}
use Rattle.program_model.specs.declared.body.Body.{Body}
use Rattle.program_model.specs.declared.body.Region.{Region}
use Rattle.flow_cfg.specs.Walks.{next_of, handlers_in, covers}

-- the place of the first region that covers a position, the number of regions where none does
abbrev pub covering : List Region → ℕ → ℕ
covering [] n = 0
covering (r ∷ rs) n = if covers n r then 0 else suc (covering rs n)

-- the numbers that are below a count
abbrev pub within : ℕ → List ℕ → List ℕ
within count ns = filter (λ n. nat_lt n count) ns

-- the node of the region at a place, where there is one and the instruction may throw
abbrev pub thrown_row : Body → ℕ → Insn → List ℕ
thrown_row b k i = if throws i && nat_lt k (length b.regions) then (length b.insns + k) ∷ [] else []

abbrev pub position_row : Body → ℕ → Insn → List ℕ
position_row b n i = (within (length b.insns) (next_of n i) ++ within (length b.insns) (targets_of i)) ++ thrown_row b (covering b.regions n) i

abbrev pub region_row : ℕ → Region → List ℕ
region_row count r = within count (handlers_in r)

abbrev pub region_row_at : ℕ → Option Region → List ℕ
region_row_at count None = []
region_row_at count (Some r) = region_row count r

abbrev pub row_at : Body → ℕ → Option Insn → List ℕ
row_at b n (Some i) = position_row b n i
row_at b n None = region_row_at (length b.insns) (slice_get b.regions (n - length b.insns))

-- the nodes to which an edge leads from a node
abbrev pub node_row : Body → ℕ → List ℕ
node_row b n = row_at b n (slice_get b.insns n)
