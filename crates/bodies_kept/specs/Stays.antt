-- What of a program stays when passes ran over it (this project's profile).
use Rattle.std.specs.Prelude.{◌≡◌, ◌≤◌, ℕ, Bool, false, List, Option, Some, None, max, slice_get, slice_index_or}
use Rattle.program_model.specs.declared.body.Body.{Body}
use Rattle.program_model.specs.declared.program.Class.{Class}
use Rattle.program_model.specs.declared.program.Field.{Field}
use Rattle.program_model.specs.declared.program.Method.{Method}
use Rattle.program_model.specs.declared.program.Program.{Program}

-- the item stands somewhere in a list
abbrev pub Stands : {A : Type 0} → List A → A → Type 0
Stands xs x = (place : ℕ) × (slice_get xs place ≡ Some x)

-- a body has no more registers than before, and takes as many words
abbrev pub NoMoreRegisters : Option Body → Option Body → Type 0
NoMoreRegisters None None = Unit {0}
NoMoreRegisters (Some b) (Some d) = (d.registers ≤ b.registers) × (d.ins ≡ b.ins)
NoMoreRegisters old new = ⊥

-- a body has no more registers than before, or at most 16, and takes as many words
abbrev pub FewRegisters : Option Body → Option Body → Type 0
FewRegisters None None = Unit {0}
FewRegisters (Some b) (Some d) = (d.registers ≤ max b.registers 16) × (d.ins ≡ b.ins)
FewRegisters old new = ⊥

-- A method keeps its number, flags and annotations, and has code where it had some, with so many registers as is said. One that isn't
-- admitted stays whole.
pub record MethodStaysBy (registers_are : Option Body → Option Body → Type 0) (admitted : List Bool) (m n : Method) : Type 0 where
  pub rest : n ≡ record m { body = n.body; lines = n.lines }
  pub refused : slice_index_or admitted m.name false ≡ false → n ≡ m
  pub registers : registers_are m.body n.body

-- A class keeps its number, superclass, interfaces, flags, annotations and first values; its fields are some of those that it had,
-- and its methods come each of one that it had.
pub record ClassStaysBy (registers_are : Option Body → Option Body → Type 0) (admitted : List Bool) (c d : Class) : Type 0 where
  pub rest : d ≡ record c { fields = d.fields; methods = d.methods }
  pub fields : (f : Field) → Stands d.fields f → Stands c.fields f
  pub methods : (n : Method) → Stands d.methods n → (m : Method) × (Stands c.methods m × MethodStaysBy registers_are admitted m n)

-- A program keeps its tables and version, and its classes come each of one that it had.
pub record StaysBy (registers_are : Option Body → Option Body → Type 0) (admitted : List Bool) (p q : Program) : Type 0 where
  pub rest : q ≡ record p { classes = q.classes }
  pub classes : (d : Class) → Stands q.classes d → (c : Class) × (Stands p.classes c × ClassStaysBy registers_are admitted c d)

-- No body has more registers.
abbrev pub MethodStays : List Bool → Method → Method → Type 0
MethodStays admitted m n = MethodStaysBy NoMoreRegisters admitted m n

abbrev pub ClassStays : List Bool → Class → Class → Type 0
ClassStays admitted c d = ClassStaysBy NoMoreRegisters admitted c d

abbrev pub Stays : List Bool → Program → Program → Type 0
Stays admitted p q = StaysBy NoMoreRegisters admitted p q

-- Where calls are inlined, a body has no more, or at most 16.
abbrev pub StaysInlined : List Bool → Program → Program → Type 0
StaysInlined admitted p q = StaysBy FewRegisters admitted p q
