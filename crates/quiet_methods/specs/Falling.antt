-- One rank for each position of each method, which falls with each step and with each call in quiet methods.
use Rattle.std.specs.Prelude.{◌≡◌, ◌<◌, ◌+◌, ◌*◌, ℕ, Bool, true, List, Option, Some, slice_get, Contains}
use Rattle.std.specs.Option.{unwrap_or}
use Rattle.insn_set.specs.declared.form.Insn.{Insn}
use Rattle.program_model.specs.declared.body.Body.{Body}
use Rattle.program_model.specs.declared.program.Method.{Method}
use Rattle.program_model.specs.declared.program.Program.{Program}
use Rattle.dom_frame.specs.declared.frames.Frame.{Frame}
use Rattle.quiet_methods.specs.declared.forms.Demand.TheVariants.{Call}
use Rattle.quiet_methods.specs.Settled.{rank_at}
use Rattle.quiet_methods.specs.Bodies.{frame_in, demand_in, ways_in}
use Rattle.quiet_methods.specs.Quiet.{is_on, frames_of, ranks_of, IsCode, IsAlone, AreQuiet}

-- the rank of a position by the level of its method and its own rank there
abbrev pub rank_of : List (Option ℕ) → List (List (Option ℕ)) → ℕ → ℕ → ℕ
rank_of levels ranks k n = unwrap_or (rank_at levels k) 0 * 4294967296 + unwrap_or (rank_at (ranks_of ranks k) n) 0

-- in marked methods each way leads to a lower rank, and each call begins at a lower one, in a marked method
pub record Falls (p : Program) (frames : List (List (Option Frame))) (marks : List Bool) (rank : ℕ → ℕ → ℕ) : Type 0 where
  pub way : (m : Method) (b : Body) → IsCode p m b → IsAlone p m b → is_on marks m.name ≡ true → (n : ℕ) (i : Insn) → slice_get b.insns n ≡ Some i
      → (t : ℕ) → Contains (ways_in (frame_in (frames_of frames m.name) n) i n) t → rank m.name t < rank m.name n
  pub marked : (m : Method) (b : Body) → IsCode p m b → IsAlone p m b → is_on marks m.name ≡ true → (n : ℕ) (i : Insn) → slice_get b.insns n ≡ Some i
      → (k : ℕ) → demand_in p (frame_in (frames_of frames m.name) n) i ≡ Call k → is_on marks k ≡ true
  pub call : (m : Method) (b : Body) → IsCode p m b → IsAlone p m b → is_on marks m.name ≡ true → (n : ℕ) (i : Insn) → slice_get b.insns n ≡ Some i
      → (m' : Method) (b' : Body) (f : Insn) → IsCode p m' b' → IsAlone p m' b' → slice_get b'.insns 0 ≡ Some f
      → demand_in p (frame_in (frames_of frames m.name) n) i ≡ Call m'.name → rank m'.name 0 < rank m.name n

abbrev pub RanksFall : Type 0
RanksFall = (p : Program) (frames : List (List (Option Frame))) (marks : List Bool) (q : AreQuiet p frames marks) → Falls p frames marks (rank_of q.levels q.ranks)
