-- What of a program stays when passes ran over it, also ones that make methods static (this project's profile).
use Rattle.std.specs.Prelude.{◌≡◌, ℕ, Bool, true, false, List, ◌∷◌, Option, Some, length, slice_get, slice_index_or}
use Rattle.program_model.specs.MemberRules.{is_static}
use Rattle.program_model.specs.declared.body.Body.{Body}
use Rattle.program_model.specs.declared.pools.MethodName.{MethodName}
use Rattle.program_model.specs.declared.pools.Proto.{Proto}
use Rattle.program_model.specs.declared.program.Class.{Class}
use Rattle.program_model.specs.declared.program.Field.{Field}
use Rattle.program_model.specs.declared.program.Method.{Method}
use Rattle.program_model.specs.declared.program.Program.{Program}
use Rattle.staticise.specs.Loosened.{flags_loosened, marks_loosened}
use Rattle.bodies_kept.specs.Stays.{FewRegisters, NoMoreRegisters, Stands}

-- A method keeps its number and annotations, and has code where it had some, with so many registers as is said. One that isn't made
-- static keeps its flags and its parameters' annotations; one that is had a receiver, is static, and has no annotations of its new
-- parameter. One that isn't admitted keeps its code and lines.
pub record MethodStaysAlongBy (registers_are : Option Body → Option Body → Type 0) (made : ℕ → Bool) (admitted : List Bool) (m n : Method) : Type 0 where
  pub rest : n ≡ record m { flags = n.flags; parameter_marks = n.parameter_marks; body = n.body; lines = n.lines }
  pub plain : made m.name ≡ false → (n.flags ≡ m.flags) × (n.parameter_marks ≡ m.parameter_marks)
  pub receiver : made m.name ≡ true → is_static m.flags ≡ false
  pub turned : made m.name ≡ true → (n.flags ≡ flags_loosened m.flags) × (n.parameter_marks ≡ marks_loosened m.parameter_marks)
  pub refused : slice_index_or admitted m.name false ≡ false → (n.body ≡ m.body) × (n.lines ≡ m.lines)
  pub registers : registers_are m.body n.body

-- A class keeps its number, superclass, interfaces, flags, annotations and first values; its fields are some of those that it had,
-- and its methods come each of one that it had.
pub record ClassStaysAlongBy (registers_are : Option Body → Option Body → Type 0) (made : ℕ → Bool) (admitted : List Bool) (c d : Class) : Type 0 where
  pub rest : d ≡ record c { fields = d.fields; methods = d.methods }
  pub fields : (f : Field) → Stands d.fields f → Stands c.fields f
  pub methods : (n : Method) → Stands d.methods n → (m : Method) × (Stands c.methods m × MethodStaysAlongBy registers_are made admitted m n)

-- A number that named a method names it with its class in front of the parameters.
pub record NameMade (p q : Program) (m x : MethodName) : Type 0 where
  pub class : x.class ≡ m.class
  pub name : x.name ≡ m.name
  pub proto : (old : Proto) → slice_get p.protos m.proto ≡ Some old → (new : Proto) × ((slice_get q.protos x.proto ≡ Some new) × ((new.result ≡ old.result) × (new.parameters ≡ m.class ∷ old.parameters)))

-- The program has a method of the number, with a receiver.
pub record HadReceiver (p : Program) (n : ℕ) : Type 0 where
  pub class : Class
  pub method : Method
  pub is_class : Stands p.classes class
  pub is_method : Stands class.methods method
  pub number : method.name ≡ n
  pub receiver : is_static method.flags ≡ false

-- A program keeps its version, types and fields, what stood in the tables of strings and protos, and as many method numbers, so that
-- each is admitted still as it was. A number names what it named, but that of a method made static, which names it so. Its classes come
-- each of one that it had.
pub record StaysAlongBy (registers_are : Option Body → Option Body → Type 0) (admitted : List Bool) (p q : Program) : Type 0 where
  pub made : ℕ → Bool
  pub rest : q ≡ record p { strings = q.strings; protos = q.protos; methods = q.methods; classes = q.classes }
  pub strings : (n : ℕ) (t : List ℕ) → slice_get p.strings n ≡ Some t → slice_get q.strings n ≡ Some t
  pub protos : (n : ℕ) (x : Proto) → slice_get p.protos n ≡ Some x → slice_get q.protos n ≡ Some x
  pub long : length q.methods ≡ length p.methods
  pub names : (n : ℕ) (m : MethodName) → slice_get p.methods n ≡ Some m → made n ≡ false → slice_get q.methods n ≡ Some m
  pub named : (n : ℕ) (m : MethodName) → slice_get p.methods n ≡ Some m → made n ≡ true → (x : MethodName) × ((slice_get q.methods n ≡ Some x) × NameMade p q m x)
  pub had : (n : ℕ) → made n ≡ true → HadReceiver p n
  pub classes : (d : Class) → Stands q.classes d → (c : Class) × (Stands p.classes c × ClassStaysAlongBy registers_are made admitted c d)

-- No body has more registers.
abbrev pub MethodStaysAlong : (ℕ → Bool) → List Bool → Method → Method → Type 0
MethodStaysAlong made admitted m n = MethodStaysAlongBy NoMoreRegisters made admitted m n

abbrev pub ClassStaysAlong : (ℕ → Bool) → List Bool → Class → Class → Type 0
ClassStaysAlong made admitted c d = ClassStaysAlongBy NoMoreRegisters made admitted c d

abbrev pub StaysAlong : List Bool → Program → Program → Type 0
StaysAlong admitted p q = StaysAlongBy NoMoreRegisters admitted p q

-- Where calls are inlined, a body has no more, or at most 16.
abbrev pub StaysAlongInlined : List Bool → Program → Program → Type 0
StaysAlongInlined admitted p q = StaysAlongBy FewRegisters admitted p q
