-- Programs whose code is rewritten in place: instruction by instruction, with other registers.
use Rattle.std.specs.Prelude.{◌≡◌, ℕ, ◌≤◌, true, Some}
use Rattle.insn_set.specs.Spelling.{is_encodable}
use Rattle.insn_set.specs.declared.form.Insn.{Insn}
use Rattle.program_model.specs.BodyRules.{body_fits}
use Rattle.program_model.specs.OperandRules.{registers_fit}
use Rattle.program_model.specs.declared.body.Body.{Body}
use Rattle.program_model.specs.declared.program.Method.{Method}
use Rattle.program_model.specs.declared.program.Class.{Class}
use Rattle.program_model.specs.declared.program.Program.{Program}
use Rattle.insn_regs.specs.Remade.{remade}
use Rattle.program_laws.specs.Others.{Pairwise}

-- An instruction with other registers, which can be spelled where the old one could, and whose registers are among so many
-- where those of the old one were among its body's.
pub record IsRewritten (old new : ℕ) (i j : Insn) : Type 0 where
  pub reads : ℕ → ℕ
  pub writes : ℕ → ℕ
  pub form : j ≡ remade reads writes i
  pub encodable : is_encodable i ≡ true → is_encodable j ≡ true
  pub registers : registers_fit i old ≡ true → registers_fit j new ≡ true

-- A body of such instructions, with no more registers, and room for its arguments where there was.
pub record RewritesBody (b d : Body) : Type 0 where
  pub insns : Pairwise (IsRewritten b.registers d.registers) b.insns d.insns
  pub regions : d.regions ≡ b.regions
  pub ins : d.ins ≡ b.ins
  pub registers : d.registers ≤ b.registers
  pub frame : b.ins ≤ b.registers → d.ins ≤ d.registers

pub data RewrittenMethod (p : Program) : Method → Method → Type 0 where
  Untouched : (m : Method) → RewrittenMethod p m m
  Rewritten : (m : Method) (b d : Body) → m.body ≡ Some b → (body_fits p b ≡ true → RewritesBody b d) → RewrittenMethod p m (record m { body = Some d })

pub record RewrittenClass (p : Program) (c d : Class) : Type 0 where
  pub same : d ≡ record c { methods = d.methods }
  pub methods : Pairwise (RewrittenMethod p) c.methods d.methods

pub record RewrittenProgram (p q : Program) : Type 0 where
  pub same : q ≡ record p { classes = q.classes }
  pub classes : Pairwise (RewrittenClass p) p.classes q.classes
