-- The layout of a body.
use Rattle.std.specs.Prelude.{◌≡◌, ℕ, ◌<◌, List, length, map, slice_index, Some, None}
use Rattle.program_model.specs.declared.body.Body.{Body}
use Rattle.program_model.specs.declared.pass.Renumber.{Renumber}
use Rattle.relax.specs.declared.layout.Layout.{Layout}
use Rattle.relax.specs.declared.fault.LayFault.{LayFault}
use Rattle.relax.specs.declared.fault.LayFault.TheVariants.{NoMemory, FarBranch}
use Rattle.relax.specs.Steps.{step_of}
use Rattle.relax.specs.Sizes.{start, IsLeast}
use Rattle.relax.specs.Payloads.{capped_place, payload_places, payload_end}
use Rattle.relax.specs.Far.{first_far}

-- the sizes of the body's instructions are the least ones with room
abbrev pub HaveLeast : Renumber → Body → List ℕ → Type 0
HaveLeast numbers body sizes = IsLeast (map (step_of numbers) body.insns) sizes

-- the layout is the least one, and each conditional branch has room
pub record IsLaidOut (numbers : Renumber) (body : Body) (layout : Layout) : Type 0 where
  pub sizes : List ℕ
  pub least : HaveLeast numbers body sizes
  pub near : first_far sizes 0 body.insns ≡ None
  pub long : length layout.starts.items ≡ length body.insns
  pub starts : (k : ℕ) → k < length body.insns → slice_index layout.starts.items k ≡ capped_place (start sizes k)
  pub payloads : layout.payloads.items ≡ payload_places (start sizes (length body.insns)) body.insns
  pub size : layout.size ≡ capped_place (payload_end (start sizes (length body.insns)) body.insns)

-- in the least layout this branch goes too far, the first one that does
pub record IsFarAt (numbers : Renumber) (body : Body) (position : ℕ) : Type 0 where
  pub sizes : List ℕ
  pub least : HaveLeast numbers body sizes
  pub place : ℕ
  pub far : first_far sizes 0 body.insns ≡ Some place
  pub is : position ≡ capped_place place

abbrev pub IsLayFault : Renumber → Body → LayFault → Type 0
IsLayFault numbers body NoMemory = Unit {0}
IsLayFault numbers body (FarBranch position) = IsFarAt numbers body position
