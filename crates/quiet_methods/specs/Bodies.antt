-- What the positions of a body ask for. A position without registers is one to which no run comes: it asks for nothing.
use Rattle.std.specs.Prelude.{◌≡◌, ◌<◌, ◌≤◌, ◌^◌, ℕ, zero, suc, Bool, true, false, nat_lt, if◌then◌else◌, is_some, List, [], ◌∷◌, ◌++◌, length, Option, Some, None, slice_get, slice_index_or, Contains}
use Rattle.std.specs.List.{list_all}
use Rattle.insn_set.specs.Flow.{targets_of}
use Rattle.insn_set.specs.declared.form.Insn.{Insn}
use Rattle.program_model.specs.declared.program.Program.{Program}
use Rattle.dom_frame.specs.declared.frames.Frame.{Frame}
use Rattle.quiet_methods.specs.declared.ranks.Node.{Node}
use Rattle.quiet_methods.specs.declared.forms.Demand.{Demand}
use Rattle.quiet_methods.specs.declared.forms.Demand.TheVariants.{Nothing, Call, Loud}
use Rattle.quiet_methods.specs.Forms.{demand, ways}
use Rattle.quiet_methods.specs.Settled.{rank_at, IsLower, IsSettled}

abbrev pub frame_in : List (Option Frame) → ℕ → Option Frame
frame_in frames n = slice_index_or frames n None

-- what a form at a position asks for
abbrev pub demand_in : Program → Option Frame → Insn → Demand
demand_in p (Some f) i = demand p f.registers i
demand_in p None i = Nothing

-- Where a run goes on behind it. A switch with more targets is loud, so no run comes to it in a quiet method.
abbrev pub ways_in : Option Frame → Insn → ℕ → List ℕ
ways_in (Some f) i n = if nat_lt (length (targets_of i)) 4294967296 then ways i n f.registers else []
ways_in None i n = []

-- ---- as they are collected, position by position

abbrev pub node_of : Option Frame → Option Insn → ℕ → Node
node_of o (Some i) n = record { may = true; needs = ways_in o i n }
node_of o None n = record { may = true; needs = [] }

abbrev pub nodes_upto : List Insn → List (Option Frame) → ℕ → List Node
nodes_upto is fs zero = []
nodes_upto is fs (suc k) = nodes_upto is fs k ++ node_of (frame_in fs k) (slice_get is k) k ∷ []

abbrev pub with_demand : Option (List ℕ) → Demand → Option (List ℕ)
with_demand None d = None
with_demand (Some calls) Nothing = Some calls
with_demand (Some calls) (Call method) = Some (calls ++ method ∷ [])
with_demand (Some calls) Loud = None

abbrev pub demand_of : Program → Option Frame → Option Insn → Demand
demand_of p o (Some i) = demand_in p o i
demand_of p o None = Nothing

-- the methods that the first positions call, none where one of them is loud
abbrev pub calls_upto : Program → List Insn → List (Option Frame) → ℕ → Option (List ℕ)
calls_upto p is fs zero = Some []
calls_upto p is fs (suc k) = with_demand (calls_upto p is fs k) (demand_of p (frame_in fs k) (slice_get is k))

-- ---- a body by itself

-- the positions have ranks where they can have any
pub record IsRanked (is : List Insn) (fs : List (Option Frame)) (calls : List ℕ) (node : Node) (ranks : List (Option ℕ)) : Type 0 where
  pub needs : node.needs ≡ calls
  pub settled : IsSettled (nodes_upto is fs (length is)) ranks
  pub may : node.may ≡ list_all is_some ranks
  pub few : length is < 2 ^ 32

-- what a form asks for is met by these calls
abbrev pub IsMetBy : List ℕ → Demand → Type 0
IsMetBy calls Nothing = Unit {0}
IsMetBy calls (Call method) = Contains calls method
IsMetBy calls Loud = ⊥

-- a form at a position is quiet but for what it calls
pub record IsCalmAt (p : Program) (o : Option Frame) (calls : List ℕ) (ranks : List (Option ℕ)) (n : ℕ) (i : Insn) : Type 0 where
  pub rank : ℕ
  pub is : rank_at ranks n ≡ Some rank
  pub short : rank < 2 ^ 32
  pub met : IsMetBy calls (demand_in p o i)
  pub lower : (m : ℕ) → Contains (ways_in o i n) m → IsLower ranks rank m

-- a position with a loud form
pub record IsLoudAt (p : Program) (is : List Insn) (fs : List (Option Frame)) : Type 0 where
  pub n : ℕ
  pub form : Insn
  pub there : slice_get is n ≡ Some form
  pub loud : demand_in p (frame_in fs n) form ≡ Loud

-- a position whose form calls a method
pub record IsCalledIn (p : Program) (is : List Insn) (fs : List (Option Frame)) (method : ℕ) : Type 0 where
  pub n : ℕ
  pub form : Insn
  pub there : slice_get is n ≡ Some form
  pub called : demand_in p (frame_in fs n) form ≡ Call method

-- positions from each of which a way leads to another one of them, or out of the body
pub record IsCircling (is : List Insn) (fs : List (Option Frame)) : Type 0 where
  pub stuck : ℕ → Bool
  pub first : ℕ
  pub within : first < length is
  pub begins : stuck first ≡ true
  pub goes : (n : ℕ) (i : Insn) → slice_get is n ≡ Some i → stuck n ≡ true → (m : ℕ) × Contains (ways_in (frame_in fs n) i n) m × (stuck m ≡ true)

-- why a body isn't quiet whatever the methods that it calls are
pub data IsLoudSelf (p : Program) (is : List Insn) (fs : List (Option Frame)) : Type 0 where
  LoudAt : IsLoudAt p is fs → IsLoudSelf p is fs
  Circles : IsCircling is fs → IsLoudSelf p is fs
  TooLong : 4294967295 ≤ length is → IsLoudSelf p is fs

-- what is known of a body by itself
pub record IsOwn (p : Program) (is : List Insn) (fs : List (Option Frame)) (node : Node) (ranks : List (Option ℕ)) : Type 0 where
  pub calm : node.may ≡ true → (n : ℕ) (i : Insn) → slice_get is n ≡ Some i → IsCalmAt p (frame_in fs n) node.needs ranks n i
  pub called : (m : ℕ) → Contains node.needs m → IsCalledIn p is fs m
  pub loud : node.may ≡ false → IsLoudSelf p is fs
