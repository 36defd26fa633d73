-- The change that makes one program of another.
use Rattle.std.specs.Prelude.{Bool, true, false, Option, Some, None, find, is_some, if◌then◌else◌}
use Rattle.std.specs.Option.{option_and_then}
use Rattle.dalvik_defs.specs.Names.{text_eq, same_name}
use Rattle.dalvik_defs.specs.declared.program.NamedMethod.{NamedMethod}
use Rattle.dalvik_defs.specs.declared.program.NamedClass.{NamedClass}
use Rattle.dalvik_defs.specs.declared.program.NamedProgram.{NamedProgram}
use Rattle.program_laws.specs.Bodies.{Code, Change}

abbrev pub code_of : NamedMethod → Code
code_of m = record { body = m.body; lines = m.lines }

-- the method of the same name and signature in the class of the same name
abbrev pub in_class : NamedMethod → NamedClass → Option NamedMethod
in_class m d = find (λ n. same_name n.name n.signature m.name m.signature) d.methods

abbrev pub counterpart : NamedProgram → NamedClass → NamedMethod → Option NamedMethod
counterpart q c m = option_and_then (in_class m) (find (λ d. text_eq d.name c.name) q.classes)

abbrev pub same_bool : Bool → Bool → Bool
same_bool true b = b
same_bool false true = false
same_bool false false = true

-- its code, where it has code exactly if the method has
abbrev pub code_from : NamedMethod → Option NamedMethod → Code
code_from m None = code_of m
code_from m (Some n) = if same_bool (is_some n.body) (is_some m.body) then code_of n else code_of m

abbrev pub change_to : NamedProgram → Change
change_to q c m = code_from m (counterpart q c m)
