-- Programs in which a name is had once (Dalvik executable format, "class_def_item" and "class_data_item").
use Rattle.std.specs.Prelude.{◌≡◌, ℕ, true, Some, slice_get}
use Rattle.dalvik_defs.specs.Names.{text_eq, same_name}
use Rattle.dalvik_defs.specs.declared.program.NamedMethod.{NamedMethod}
use Rattle.dalvik_defs.specs.declared.program.NamedClass.{NamedClass}
use Rattle.dalvik_defs.specs.declared.program.NamedProgram.{NamedProgram}

-- no two classes have one name, and no two methods of a class one name and signature
pub record IsUnique (p : NamedProgram) : Type 0 where
  pub classes : (i j : ℕ) (c d : NamedClass) → slice_get p.classes i ≡ Some c → slice_get p.classes j ≡ Some d → text_eq c.name d.name ≡ true → i ≡ j
  pub methods : (k i j : ℕ) (c : NamedClass) (m n : NamedMethod) → slice_get p.classes k ≡ Some c → slice_get c.methods i ≡ Some m → slice_get c.methods j ≡ Some n → same_name m.name m.signature n.name n.signature ≡ true → i ≡ j
