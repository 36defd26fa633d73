-- A program with other bodies, and other source lines, in its methods.
use Rattle.std.specs.Prelude.{◌≡◌, ℕ, List, Option, map, is_some}
use Rattle.dalvik_defs.specs.declared.program.NamedBody.{NamedBody}
use Rattle.dalvik_defs.specs.declared.program.NamedMethod.{NamedMethod}
use Rattle.dalvik_defs.specs.declared.program.NamedClass.{NamedClass}
use Rattle.dalvik_defs.specs.declared.program.NamedProgram.{NamedProgram}

-- a body with its source lines
pub record Code : Type 0 where
  pub body : Option NamedBody
  pub lines : List ℕ

-- what each method of each class has instead
abbrev pub Change : Type 0
Change = NamedClass → NamedMethod → Code

-- the source lines stay
abbrev pub same_lines : NamedMethod → Option NamedBody → Code
same_lines m b = record { body = b; lines = m.lines }

abbrev pub method_changed : Change → NamedClass → NamedMethod → NamedMethod
method_changed new c m = record m { body = (new c m).body; lines = (new c m).lines }

abbrev pub class_changed : Change → NamedClass → NamedClass
class_changed new c = record c { methods = map (method_changed new c) c.methods }

abbrev pub changed : Change → NamedProgram → NamedProgram
changed new p = record p { classes = map (class_changed new) p.classes }

-- a method has code exactly where it had
abbrev pub KeepsCode : Change → Type 0
KeepsCode new = (c : NamedClass) (m : NamedMethod) → is_some (new c m).body ≡ is_some m.body
