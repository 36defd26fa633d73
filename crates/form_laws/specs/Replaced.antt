-- What stands in a program with other bodies in place of a method's body.
use Rattle.std.specs.Prelude.{◌≡◌, Some, Contains}
use Rattle.dalvik_defs.specs.Face.{bodies_of}
use Rattle.dalvik_defs.specs.declared.names.MethodKey.{MethodKey}
use Rattle.dalvik_defs.specs.declared.program.NamedBody.{NamedBody}
use Rattle.dalvik_defs.specs.declared.program.NamedMethod.{NamedMethod}
use Rattle.dalvik_defs.specs.declared.program.NamedClass.{NamedClass}
use Rattle.dalvik_defs.specs.declared.program.NamedProgram.{NamedProgram}
use Rattle.program_laws.specs.Bodies.{Change, changed}

-- a method with code, and what stands in place of its body
pub record Replaced (new : Change) (p : NamedProgram) (k : MethodKey) (b : NamedBody) : Type 0 where
  pub class : NamedClass
  pub method : NamedMethod
  pub in_program : Contains p.classes class
  pub in_class : Contains class.methods method
  pub body : method.body ≡ Some b
  pub other : bodies_of (changed new p) k ≡ (new class method).body
