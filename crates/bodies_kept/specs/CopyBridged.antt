-- What is said of a propagated body by number, and of its named body.
use Rattle.std.specs.Prelude.{◌≡◌, ℕ, ◌<◌, ◌^◌, ◌||◌, Bool, true, List, Some, Contains}
use Rattle.insn_set.specs.Registers.{reads_of, writes_of}
use Rattle.insn_set.specs.declared.form.Insn.{Insn}
use Rattle.program_model.specs.declared.body.Body.{Body}
use Rattle.program_model.specs.declared.program.Class.{Class}
use Rattle.program_model.specs.declared.program.Method.{Method}
use Rattle.program_model.specs.declared.program.Program.{Program}
use Rattle.dalvik_defs.specs.Naming.{body_of}
use Rattle.insn_regs.specs.Wides.{widths_of}
use Rattle.walk_marks.specs.Walks.{is_on}
use Rattle.body_graph.specs.Walks.{insn_at}
use Rattle.copy_prop.specs.Propagated.{IsPropagated, HasPairs}
use Rattle.copy_prop.specs.Stale as numbered
use Rattle.pass_defs.specs.Stale as named
use Rattle.form_laws.specs.Reread.{AreReread}

abbrev pub ReadsByNumber : Type 0
ReadsByNumber = (p : Program) (b d : Body) → IsPropagated (widths_of p) b d → AreReread (body_of p b) (body_of p d)

abbrev pub StaleByNumber : Type 0
StaleByNumber = (p : Program) (b : Body) (n : ℕ) → named.IsStale (body_of p b) n → numbered.IsStale (widths_of p) b n

abbrev pub SettlesByNumber : Type 0
SettlesByNumber = (p : Program) (b d : Body) → HasPairs b → IsPropagated (widths_of p) b d → d ≡ b → (n : ℕ) → named.IsStale (body_of p b) n → ⊥

-- instructions use registers that the body has
abbrev pub HasRoom : Body → Type 0
HasRoom b = (n r : ℕ) (f : Insn) → insn_at b n ≡ Some f → (reads_of f r || writes_of f r) ≡ true → r < b.registers

abbrev pub PairsByNumber : Type 0
PairsByNumber = (b : Body) → b.registers < 2 ^ 16 → HasRoom b → HasPairs b

-- no read in the body of an admitted method is stale, by name, where 16 bits number the body's registers
abbrev pub AllFresh : List Bool → Program → Type 0
AllFresh admitted p = (c : Class) (m : Method) (b : Body) (n : ℕ) → Contains p.classes c → Contains c.methods m → is_on admitted m.name ≡ true → m.body ≡ Some b → b.registers < 2 ^ 16 → named.IsStale (body_of p b) n → ⊥
