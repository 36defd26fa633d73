-- Programs whose classes stand in lines that end outside the program.
use Rattle.std.specs.Prelude.{◌≡◌, true, length, Some, None}
use Rattle.dalvik_defs.specs.Names.{Text, is_class_type, object_type}
use Rattle.dalvik_defs.specs.Quiet.{EndsWithin}
use Rattle.dalvik_defs.specs.Under.{class_named}
use Rattle.dalvik_defs.specs.declared.program.NamedClass.{NamedClass}
use Rattle.dalvik_defs.specs.declared.program.NamedProgram.{NamedProgram}

-- no class is its own ancestor, each has a class's name, and Object isn't defined
pub record IsRooted (p : NamedProgram) : Type 0 where
  pub ends : (t : Text) → EndsWithin p (length p.classes) t
  pub named : (t : Text) (c : NamedClass) → class_named p t ≡ Some c → is_class_type t ≡ true
  pub rooted : class_named p object_type ≡ None
