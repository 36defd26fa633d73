-- The numbers in the values of a program as values of their types, and lists that 32 bits count: what every program has that was
-- read.
use Rattle.std.specs.Prelude.{◌<◌, ◌^◌, ℕ, zero, suc, List, length, Option, Some, None, FitsSigned}
use Rattle.std.specs.Int.{w8, w16, w32, w64}
use Rattle.std.specs.List.{AllByRecursion}
use Rattle.program_model.specs.declared.value.EncValue.{EncValue, EncValue-F, out-EncValue}
use Rattle.program_model.specs.declared.value.EncValue.TheOpen as layer
use Rattle.program_model.specs.declared.value.Element.{Element}
use Rattle.program_model.specs.declared.value.Note.{Note, out-Note}
use Rattle.program_model.specs.declared.value.Mark.{Mark}
use Rattle.program_model.specs.declared.program.Field.{Field}
use Rattle.program_model.specs.declared.program.Method.{Method}
use Rattle.program_model.specs.declared.program.Class.{Class}
use Rattle.program_model.specs.declared.program.Program.{Program}

abbrev pub IsWideNote : (EncValue → Type 0) → Note → Type 0
IsWideNote Inner n = (length (out-Note n).elements < 2 ^ 32) × AllByRecursion (λ e. Inner e.value) (out-Note n).elements

abbrev pub IsWideLayer : (EncValue → Type 0) → EncValue-F EncValue Element Note → Type 0
IsWideLayer Inner (layer.Byte z) = FitsSigned w8 z
IsWideLayer Inner (layer.Short z) = FitsSigned w16 z
IsWideLayer Inner (layer.Char n) = n < 2 ^ 16
IsWideLayer Inner (layer.Int z) = FitsSigned w32 z
IsWideLayer Inner (layer.Long z) = FitsSigned w64 z
IsWideLayer Inner (layer.Float n) = n < 2 ^ 32
IsWideLayer Inner (layer.Double n) = n < 2 ^ 64
IsWideLayer Inner (layer.Str n) = Unit {0}
IsWideLayer Inner (layer.Class n) = Unit {0}
IsWideLayer Inner (layer.Field n) = Unit {0}
IsWideLayer Inner (layer.Method n) = Unit {0}
IsWideLayer Inner (layer.Enum n) = Unit {0}
IsWideLayer Inner (layer.Array vs) = (length vs < 2 ^ 32) × AllByRecursion Inner vs
IsWideLayer Inner (layer.Annotation n) = IsWideNote Inner n
IsWideLayer Inner layer.Null = Unit {0}
IsWideLayer Inner (layer.Bool b) = Unit {0}

-- down to this depth
abbrev pub IsWide : ℕ → EncValue → Type 0
IsWide zero v = Unit {0}
IsWide (suc depth) v = IsWideLayer (IsWide depth) (out-EncValue v)

abbrev pub IsWideMark : Mark → Type 0
IsWideMark m = IsWideNote (IsWide 64) m.note

abbrev pub AreWide : List Mark → Type 0
AreWide marks = AllByRecursion IsWideMark marks

abbrev pub IsWideFirst : Option EncValue → Type 0
IsWideFirst None = Unit {0}
IsWideFirst (Some v) = IsWide 1 v

pub record WideField (f : Field) : Type 0 where
  pub first : IsWideFirst f.first
  pub marks : AreWide f.marks

pub record WideMethod (m : Method) : Type 0 where
  pub marks : AreWide m.marks
  pub parameter_marks : AllByRecursion AreWide m.parameter_marks

pub record WideClass (c : Class) : Type 0 where
  pub marks : AreWide c.marks
  pub fields : AllByRecursion WideField c.fields
  pub methods : AllByRecursion WideMethod c.methods

abbrev pub HasWideValues : Program → Type 0
HasWideValues p = AllByRecursion WideClass p.classes
