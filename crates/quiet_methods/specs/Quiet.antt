-- Quiet methods, by number: a method is quiet where each position to which a run comes has a quiet form, where no way among these
-- positions comes back to where it was, and where each call finds a quiet method and no calls come back to the method (this
-- project's profile).
use Rattle.std.specs.Prelude.{◌≡◌, ◌<◌, ◌^◌, ℕ, Bool, true, false, List, [], length, Option, Some, is_some, slice_get, slice_index_or, Contains}
use Rattle.insn_set.specs.declared.form.Insn.{Insn}
use Rattle.program_model.specs.declared.body.Body.{Body}
use Rattle.program_model.specs.declared.program.Class.{Class}
use Rattle.program_model.specs.declared.program.Method.{Method}
use Rattle.program_model.specs.declared.program.Program.{Program}
use Rattle.dom_frame.specs.declared.frames.Frame.{Frame}
use Rattle.quiet_methods.specs.declared.forms.Demand.{Demand}
use Rattle.quiet_methods.specs.declared.forms.Demand.TheVariants.{Nothing, Call, Loud}
use Rattle.quiet_methods.specs.Bodies.{frame_in, demand_in, ways_in, IsLoudSelf, IsCalledIn}
use Rattle.quiet_methods.specs.Settled.{rank_at, IsLower}

abbrev pub is_on : List Bool → ℕ → Bool
is_on marks n = slice_index_or marks n false

-- the frames of a method
abbrev pub frames_of : List (List (Option Frame)) → ℕ → List (Option Frame)
frames_of frames k = slice_index_or frames k []

-- the ranks of a method's positions
abbrev pub ranks_of : List (List (Option ℕ)) → ℕ → List (Option ℕ)
ranks_of ranks k = slice_index_or ranks k []

-- a method of the program with code
pub record IsCode (p : Program) (m : Method) (b : Body) : Type 0 where
  pub at : ℕ
  pub place : ℕ
  pub class : Class
  pub defines : slice_get p.classes at ≡ Some class
  pub there : slice_get class.methods place ≡ Some m
  pub coded : m.body ≡ Some b

-- ---- what is marked is quiet

-- what a form asks for is met in a method of this level
abbrev pub IsMet : List (Option ℕ) → ℕ → Demand → Type 0
IsMet levels level Nothing = Unit {0}
IsMet levels level (Call method) = IsLower levels level method
IsMet levels level Loud = ⊥

-- A form at a position is quiet: the way goes on at positions of lower rank, and the method that it calls is of a lower level.
pub record IsQuietAt (p : Program) (o : Option Frame) (levels : List (Option ℕ)) (level : ℕ) (ranks : List (Option ℕ)) (n : ℕ) (i : Insn) : Type 0 where
  pub rank : ℕ
  pub is : rank_at ranks n ≡ Some rank
  pub short : rank < 2 ^ 32
  pub met : IsMet levels level (demand_in p o i)
  pub lower : (m : ℕ) → Contains (ways_in o i n) m → IsLower ranks rank m

pub record IsQuietBody (p : Program) (b : Body) (fs : List (Option Frame)) (levels : List (Option ℕ)) (level : ℕ) (ranks : List (Option ℕ)) : Type 0 where
  pub forms : (n : ℕ) (i : Insn) → slice_get b.insns n ≡ Some i → IsQuietAt p (frame_in fs n) levels level ranks n i

-- ---- what isn't marked isn't quiet

-- why a body isn't quiet where these methods are
pub data IsLoudBody (p : Program) (b : Body) (fs : List (Option Frame)) (marks : List Bool) : Type 0 where
  LoudSelf : IsLoudSelf p b.insns fs → IsLoudBody p b fs marks
  CallsLoud : (k : ℕ) → IsCalledIn p b.insns fs k → is_on marks k ≡ false → IsLoudBody p b fs marks

-- all methods with code of its number are this one
abbrev pub IsAlone : Program → Method → Body → Type 0
IsAlone p m b = (m' : Method) (b' : Body) → IsCode p m' b' → m'.name ≡ m.name → (m' ≡ m) × (b' ≡ b)

-- The marks are those of the quiet methods: methods have levels and their positions ranks, so that a run in a marked method goes on
-- at a lower one until it ends; and what isn't marked is loud, circles, or calls what isn't marked.
pub record AreQuiet (p : Program) (frames : List (List (Option Frame))) (marks : List Bool) : Type 0 where
  pub levels : List (Option ℕ)
  pub ranks : List (List (Option ℕ))
  pub long : length marks ≡ length p.methods
  pub marked : (k : ℕ) → is_on marks k ≡ is_some (rank_at levels k)
  pub coded : (k : ℕ) → is_on marks k ≡ true → (m : Method) × (b : Body) × IsCode p m b × (m.name ≡ k)
  pub quiet : (m : Method) (b : Body) (level : ℕ) → IsCode p m b → IsAlone p m b → rank_at levels m.name ≡ Some level → IsQuietBody p b (frames_of frames m.name) levels level (ranks_of ranks m.name)
  pub loud : (m : Method) (b : Body) → IsCode p m b → IsAlone p m b → m.name < length p.methods → is_on marks m.name ≡ false → IsLoudBody p b (frames_of frames m.name) marks
