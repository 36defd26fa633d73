-- Bodies that keep to their registers and to fields of values, as those of well-formed programs do.
use Rattle.std.specs.Prelude.{◌≡◌, ℕ, ◌<◌, true, Some, Contains}
use Rattle.dalvik_defs.specs.declared.forms.Form.{Form}
use Rattle.dalvik_defs.specs.declared.program.NamedBody.{NamedBody}
use Rattle.dalvik_defs.specs.declared.program.NamedMethod.{NamedMethod}
use Rattle.dalvik_defs.specs.declared.program.NamedClass.{NamedClass}
use Rattle.dalvik_defs.specs.declared.program.NamedProgram.{NamedProgram}
use Rattle.pass_defs.specs.Packed.{uses}
use Rattle.pass_defs.specs.Walks.{form_at}
use Rattle.form_laws.specs.Rewriting.{ReadsFields}

-- forms use registers that the body has
abbrev pub HasRoom : NamedBody → Type 0
HasRoom b = (n : ℕ) (f : Form) (r : ℕ) → form_at b n ≡ Some f → uses f r ≡ true → r < b.registers

pub record IsSolid (b : NamedBody) : Type 0 where
  pub room : HasRoom b
  pub fields : ReadsFields b

abbrev pub AllSolid : NamedProgram → Type 0
AllSolid p = (c : NamedClass) (m : NamedMethod) (b : NamedBody) → Contains p.classes c → Contains c.methods m → m.body ≡ Some b → IsSolid b
