-- Programs whose virtual methods are some of those that stood before.
use Rattle.std.specs.Prelude.{◌≡◌, true, Some, Contains}
use Rattle.dalvik_defs.specs.Find.{is_virtual_method}
use Rattle.dalvik_defs.specs.Names.{Text}
use Rattle.dalvik_defs.specs.Silence.{key_in}
use Rattle.dalvik_defs.specs.Under.{class_named}
use Rattle.dalvik_defs.specs.declared.names.MethodKey.{MethodKey}
use Rattle.dalvik_defs.specs.declared.program.NamedClass.{NamedClass}
use Rattle.dalvik_defs.specs.declared.program.NamedMethod.{NamedMethod}
use Rattle.dalvik_defs.specs.declared.program.NamedProgram.{NamedProgram}

-- a virtual method of a program has this name
pub record HasVirtual (p : NamedProgram) (k : MethodKey) : Type 0 where
  pub type : Text
  pub class : NamedClass
  pub method : NamedMethod
  pub named : class_named p type ≡ Some class
  pub is_in : Contains class.methods method
  pub virtual : is_virtual_method method ≡ true
  pub key : key_in class method ≡ k

-- each virtual method of the second program has the name of one of the first
abbrev pub VirtualsStay : NamedProgram → NamedProgram → Type 0
VirtualsStay p q = (t : Text) (c : NamedClass) (m : NamedMethod) → class_named q t ≡ Some c → Contains c.methods m → is_virtual_method m ≡ true → HasVirtual p (key_in c m)
