-- Tables of what the framework may reach that differ in silent and shut methods.
use Rattle.std.specs.Prelude.{◌≡◌, Bool, true, Some, Contains}
use Rattle.dalvik_defs.specs.Find.{is_virtual_method}
use Rattle.dalvik_defs.specs.Names.{Text}
use Rattle.dalvik_defs.specs.Outer.{Outer}
use Rattle.dalvik_defs.specs.Silence.{key_in}
use Rattle.dalvik_defs.specs.Under.{class_named}
use Rattle.dalvik_defs.specs.declared.names.MethodKey.{MethodKey}
use Rattle.dalvik_defs.specs.declared.program.NamedClass.{NamedClass}
use Rattle.dalvik_defs.specs.declared.program.NamedMethod.{NamedMethod}
use Rattle.dalvik_defs.specs.declared.program.NamedProgram.{NamedProgram}

-- two tests of shut methods answer the same of the virtual methods of a program
abbrev pub ShutsAlike : NamedProgram → (MethodKey → Bool) → (MethodKey → Bool) → Type 0
ShutsAlike p a b = (t : Text) (c : NamedClass) (m : NamedMethod) → class_named p t ≡ Some c → Contains c.methods m → is_virtual_method m ≡ true → b (key_in c m) ≡ a (key_in c m)

-- a table with other silent and shut methods
abbrev pub with_shut : Outer → (MethodKey → Bool) → (MethodKey → Bool) → Outer
with_shut o silent shut = record o { silent = silent; shut = shut }
