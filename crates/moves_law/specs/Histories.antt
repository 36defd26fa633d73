-- Through how many Moves what a register holds went, along a path through a body (this project's profile).
use Rattle.std.specs.Prelude.{◌≡◌, ℕ, suc, ◌+◌, ◌≤◌, Bool, true, false, List, [], ◌∷◌, Option, Some, None, Contains, if◌then◌else◌}
use Rattle.insn_set.specs.Registers.{writes_of}
use Rattle.insn_set.specs.declared.ops.Slot.TheVariants.{Wide}
use Rattle.insn_set.specs.declared.form.Insn.{Insn}
use Rattle.insn_set.specs.declared.form.Insn.TheVariants.{Move}
use Rattle.program_model.specs.declared.body.Body.{Body}
use Rattle.insn_regs.specs.Remade.{remade}
use Rattle.body_graph.specs.Walks.{insn_at, onward, caught}
use Rattle.copy_prop.specs.Stale.{instead}

-- a position that was left, and whether by a throw, which writes nothing
pub record Step : Type 0 where
  pub position : ℕ
  pub thrown : Bool

-- the steps of a walk from the entry to a position, the last one first
pub data IsPath (b : Body) : List Step → ℕ → Type 0 where
  Begins : IsPath b [] 0
  On : (ss : List Step) (n m : ℕ) (f : Insn) → IsPath b ss n → insn_at b n ≡ Some f → Contains (onward f n) m → IsPath b (record { position = n; thrown = false } ∷ ss) m
  Thrown : (ss : List Step) (n m : ℕ) (f : Insn) → IsPath b ss n → insn_at b n ≡ Some f → Contains (caught b f n) m → IsPath b (record { position = n; thrown = true } ∷ ss) m

-- what an instruction writes: one Move more than the original, or anew
abbrev pub written : Insn → (ℕ → ℕ) → ℕ → ℕ
written (Move slot to from) h r = suc (h (instead slot to from r))
written f h r = 0

abbrev pub left_by : Option Insn → (ℕ → ℕ) → ℕ → ℕ
left_by None h r = h r
left_by (Some f) h r = if writes_of f r then written f h r else h r

-- through how many Moves what a register holds behind some steps went
abbrev pub moves : Body → List Step → ℕ → ℕ
moves b [] r = 0
moves b (s ∷ ss) r = if s.thrown then moves b ss r else left_by (insn_at b s.position) (moves b ss) r

-- In the second body instructions read other registers, which hold what went through no more Moves along each path. Halves
-- of a wide are moved together.
pub record ReadsNoLater (b d : Body) : Type 0 where
  pub new : ℕ → ℕ → ℕ
  pub insns : (n : ℕ) (f : Insn) → insn_at b n ≡ Some f → insn_at d n ≡ Some (remade (new n) (λ r. r) f)
  pub fewer : (ss : List Step) (n : ℕ) → IsPath b ss n → (r : ℕ) → moves b ss (new n r) ≤ moves b ss r
  pub pairs : (n to from : ℕ) → insn_at b n ≡ Some (Move Wide to from) → new n (from + 1) ≡ new n from + 1
