-- What of a program stays when methods are made static (this project's profile).
use Rattle.std.specs.Prelude.{◌≡◌, ℕ, Bool, true, false, List, None, Option, Some, is_some, length, slice_get, slice_index_or}
use Rattle.dex_base.specs.declared.text.Text.{Text}
use Rattle.program_model.specs.declared.body.Body.{Body}
use Rattle.program_model.specs.declared.pools.MethodName.{MethodName}
use Rattle.program_model.specs.declared.pools.Proto.{Proto}
use Rattle.program_model.specs.declared.program.Class.{Class}
use Rattle.program_model.specs.declared.program.Method.{Method}
use Rattle.program_model.specs.declared.program.Program.{Program}
use Rattle.staticise.specs.Loosened.{flags_loosened, marks_loosened}

-- the item stands somewhere in a list
abbrev pub Stands : {A : Type 0} → List A → A → Type 0
Stands xs x = (place : ℕ) × (slice_get xs place ≡ Some x)

-- code where there was some, with as many registers, of which as many are arguments
abbrev pub SameFrame : Option Body → Option Body → Type 0
SameFrame None None = Unit {0}
SameFrame (Some b) (Some d) = (d.registers ≡ b.registers) × (d.ins ≡ b.ins)
SameFrame old new = ⊥

-- A method keeps its number, annotations and lines, and one that isn't made static also its flags and its parameters' annotations. One
-- that is made static is so by its flags, and its new parameter has no annotations. Where a method isn't admitted its code stays.
pub record MethodStaysBut (given : ℕ → Option ℕ) (admitted : List Bool) (m n : Method) : Type 0 where
  pub rest : n ≡ record m { flags = n.flags; parameter_marks = n.parameter_marks; body = n.body }
  pub plain : is_some (given m.name) ≡ false → n ≡ record m { body = n.body }
  pub turned : is_some (given m.name) ≡ true → (n.flags ≡ flags_loosened m.flags) × (n.parameter_marks ≡ marks_loosened m.parameter_marks)
  pub refused : slice_index_or admitted m.name false ≡ false → n.body ≡ m.body
  pub frame : SameFrame m.body n.body

-- A class keeps all but its methods, which come each of one that it had.
pub record ClassStaysBut (given : ℕ → Option ℕ) (admitted : List Bool) (c d : Class) : Type 0 where
  pub rest : d ≡ record c { methods = d.methods }
  pub methods : (n : Method) → Stands d.methods n → (m : Method) × (Stands c.methods m × MethodStaysBut given admitted m n)

-- A program keeps its version, types and fields and what stood in the tables of strings and protos, it has as many method numbers, one
-- that isn't given a proto names what it named, and its classes stay at their places.
pub record StaysBut (given : ℕ → Option ℕ) (admitted : List Bool) (p q : Program) : Type 0 where
  pub rest : q ≡ record p { strings = q.strings; protos = q.protos; methods = q.methods; classes = q.classes }
  pub strings : (n : ℕ) (t : Text) → slice_get p.strings n ≡ Some t → slice_get q.strings n ≡ Some t
  pub protos : (n : ℕ) (x : Proto) → slice_get p.protos n ≡ Some x → slice_get q.protos n ≡ Some x
  pub long : length q.methods ≡ length p.methods
  pub names : (n : ℕ) (m : MethodName) → slice_get p.methods n ≡ Some m → is_some (given n) ≡ false → slice_get q.methods n ≡ Some m
  pub as_many : length q.classes ≡ length p.classes
  pub classes : (place : ℕ) (c : Class) → slice_get p.classes place ≡ Some c → (d : Class) × ((slice_get q.classes place ≡ Some d) × ClassStaysBut given admitted c d)
