-- Where a walk through the code of a method goes.
use Rattle.std.specs.Prelude.{ℕ, ◌+◌, Bool, Option, None, Some, List, [], ◌∷◌, ◌++◌, map, slice_get, option_to_list, nat_le, nat_lt, ◌&&◌, if◌then◌else◌}
use Rattle.insn_set.specs.declared.form.Insn.{Insn}
use Rattle.insn_set.specs.Flow.{throws, goes_on, targets_of}
use Rattle.program_model.specs.declared.body.Body.{Body}
use Rattle.program_model.specs.declared.body.Region.{Region}

-- the next position where the instruction goes on
abbrev pub next_of : ℕ → Insn → List ℕ
next_of at insn = if goes_on insn then (at + 1) ∷ [] else []

-- the handlers of a region in the order in which they are tried, and its catch-all
abbrev pub handlers_in : Region → List ℕ
handlers_in r = map (λ h. h.position) r.handlers ++ option_to_list r.rest

abbrev pub covers : ℕ → Region → Bool
covers at r = nat_le r.first at && nat_lt at r.end

-- the handlers of the first region that covers a position
abbrev pub handlers_at : List Region → ℕ → List ℕ
handlers_at [] at = []
handlers_at (r ∷ rs) at = if covers at r then handlers_in r else handlers_at rs at

-- where a throw at a position goes
abbrev pub thrown_to : List Region → ℕ → Insn → List ℕ
thrown_to rs at insn = if throws insn then handlers_at rs at else []

abbrev pub steps_of : List Region → ℕ → Option Insn → List ℕ
steps_of rs at None = []
steps_of rs at (Some insn) = next_of at insn ++ targets_of insn ++ thrown_to rs at insn

-- the positions to which a walk goes in one step
abbrev pub successors_of : Body → ℕ → List ℕ
successors_of b at = steps_of b.regions at (slice_get b.insns at)
