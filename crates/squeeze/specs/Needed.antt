-- Positions at which nothing stands that a squeeze takes out.
use Rattle.std.specs.Prelude.{◌≡◌, ℕ, ◌+◌, Bool, true, nat_eq, List, Option, Some, slice_get, slice_index_or, false, Contains}
use Rattle.std.specs.List.{list_any}
use Rattle.insn_set.specs.Flow.{targets_of}
use Rattle.insn_set.specs.declared.form.Insn.{Insn}
use Rattle.insn_set.specs.declared.form.Insn.TheVariants as insn
use Rattle.program_model.specs.declared.body.Body.{Body}
use Rattle.program_model.specs.declared.program.Class.{Class}
use Rattle.program_model.specs.declared.program.Method.{Method}
use Rattle.program_model.specs.declared.program.Program.{Program}
use Rattle.body_graph.specs.Walks.{IsReached}
use Rattle.thin_pass.specs.Wishing.{is_small}

-- the instruction behind a position has it as a target
abbrev pub IsHeld : ℕ → Option Insn → Type 0
IsHeld n next = (j : Insn) × ((next ≡ Some j) × (list_any (nat_eq n) (targets_of j) ≡ true))

-- a walk comes to the position, its instruction is no goto to the next one, and where it is a nop the branch behind it goes to it
pub record IsNeeded (b : Body) (n : ℕ) (i : Insn) : Type 0 where
  pub reached : IsReached b n
  pub no_skip : i ≡ insn.Goto (n + 1) → ⊥
  pub held : i ≡ insn.Nop → IsHeld n (slice_get b.insns (n + 1))

-- all is needed in the bodies of admitted methods whose positions and regions 32 bits number
abbrev pub NothingLeft : List Bool → Program → Type 0
NothingLeft admitted p = (c : Class) (m : Method) (b : Body) → Contains p.classes c → Contains c.methods m → slice_index_or admitted m.name false ≡ true → is_small m ≡ true → m.body ≡ Some b
    → (n : ℕ) (i : Insn) → slice_get b.insns n ≡ Some i → IsNeeded b n i
