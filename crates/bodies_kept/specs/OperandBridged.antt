-- What is said of an instruction, and of its form.
use Rattle.std.specs.Prelude.{◌≡◌, ℕ}
use Rattle.insn_set.specs.declared.form.Insn.{Insn}
use Rattle.program_model.specs.declared.program.Program.{Program}
use Rattle.dalvik_defs.specs.declared.forms.Form.{Form}
use Rattle.dalvik_defs.specs.Naming.{form_of}
use Rattle.insn_regs.specs.Remade as numbered
use Rattle.insn_regs.specs.Wides as wide
use Rattle.pass_defs.specs.Remade as named
use Rattle.pass_defs.specs.Packed.{wides_read}

abbrev pub IsRemadeByNumber : Type 0
IsRemadeByNumber = (p : Program) (r w : ℕ → ℕ) (i : Insn) → form_of p (numbered.remade r w i) ≡ named.remade r w (λ t. t) (form_of p i)

abbrev pub AreWidesByNumber : Type 0
AreWidesByNumber = (p : Program) (i : Insn) → wides_read (form_of p i) ≡ wide.wides_read (wide.widths_of p) i

abbrev pub IsSameForm : Type 0
IsSameForm = (f : Form) → named.remade (λ r. r) (λ r. r) (λ t. t) f ≡ f
