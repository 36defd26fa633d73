-- What the proofs know of a program: that it is regular, that a framework which fits it leaves it no class of which the
-- machine makes objects itself, and what look-ups find.
use Rattle.std.specs.Prelude.{◌≡◌, true, false, Contains, Some}
use Rattle.dalvik_defs.specs.Names.{Text, object_type, string_type, class_type}
use Rattle.dalvik_defs.specs.Flags.{is_virtual}
use Rattle.dalvik_defs.specs.Under.{defines, is_under}
use Rattle.dalvik_defs.specs.Find.{Found, Finds, found_in, finds_statically, finds_super, finds_at, resolves_method}
use Rattle.dalvik_defs.specs.declared.names.MethodKey.{MethodKey}
use Rattle.dalvik_defs.specs.declared.program.NamedClass.{NamedClass}
use Rattle.dalvik_defs.specs.declared.program.NamedMethod.{NamedMethod}
use Rattle.dalvik_defs.specs.declared.program.NamedProgram.{NamedProgram}
use Rattle.dalvik_defs.specs.declared.tables.Framework.{Framework}
use Rattle.pass_defs.specs.Kinds.{is_plain}
use Rattle.run_laws.specs.Regular.{IsRegular}

pub record IsSettled (p : NamedProgram) : Type 0 where
  pub regular : IsRegular p
  pub objects : defines p object_type ≡ false
  pub texts : defines p string_type ≡ false
  pub classes : defines p class_type ≡ false

-- a method of the program that a look-up finds by a name and a signature
pub record IsFound (p : NamedProgram) (k : MethodKey) (g : Found) : Type 0 where
  pub class : NamedClass
  pub method : NamedMethod
  pub class_in : Contains p.classes class
  pub method_in : Contains class.methods method
  pub is : g ≡ found_in class method
  pub signature : method.signature ≡ k.signature
  pub name : method.name ≡ k.name

-- what look-ups find
pub record FindsRegularly (p : NamedProgram) (f : Framework) : Type 0 where
  pub statically : (k : MethodKey) (g : Found) → finds_statically p k ≡ Finds g → IsFound p k g × ((z : Text) → is_under p f z k.class ≡ true → is_under p f z g.key.class ≡ true)
  pub resolved : (k : MethodKey) (g : Found) → finds_statically p k ≡ Finds g → (resolves_method p k ≡ Some g) × (defines p k.class ≡ true)
  pub super : (t : Text) (k : MethodKey) (g : Found) → finds_super p t k ≡ Finds g → IsFound p k g
  pub virtually : (t : Text) (k : MethodKey) (g : Found) → finds_at p t k ≡ Finds g → IsFound p k g × ((is_virtual g.flags g.key.name ≡ true) × ((z : Text) → is_plain p g.key.class ≡ true → is_under p f z t ≡ true → is_under p f z g.key.class ≡ true))
