-- The numbers of values as values of their types.
use Rattle.std.specs.Prelude.{◌<◌, ◌^◌, ℕ, zero, suc, List, Option, Some, None, FitsSigned}
use Rattle.std.specs.Int.{w8, w16, w32, w64}
use Rattle.std.specs.List.{AllByRecursion}
use Rattle.program_model.specs.declared.value.EncValue.{EncValue, EncValue-F, out-EncValue}
use Rattle.program_model.specs.declared.value.EncValue.TheOpen as layer
use Rattle.program_model.specs.declared.value.Element.{Element}
use Rattle.program_model.specs.declared.value.Note.{Note, out-Note}
use Rattle.program_model.specs.declared.value.Mark.{Mark}

abbrev pub NoteInWidth : (EncValue → Type 0) → Note → Type 0
NoteInWidth Inner n = AllByRecursion (λ e. Inner e.value) (out-Note n).elements

abbrev pub LayerInWidth : (EncValue → Type 0) → EncValue-F EncValue Element Note → Type 0
LayerInWidth Inner (layer.Byte z) = FitsSigned w8 z
LayerInWidth Inner (layer.Short z) = FitsSigned w16 z
LayerInWidth Inner (layer.Char n) = n < 65536
LayerInWidth Inner (layer.Int z) = FitsSigned w32 z
LayerInWidth Inner (layer.Long z) = FitsSigned w64 z
LayerInWidth Inner (layer.Float n) = n < 2 ^ 32
LayerInWidth Inner (layer.Double n) = n < 2 ^ 64
LayerInWidth Inner (layer.Array vs) = AllByRecursion Inner vs
LayerInWidth Inner (layer.Annotation n) = NoteInWidth Inner n
LayerInWidth Inner v = Unit {0}

-- down to this depth
abbrev pub ValueInWidth : ℕ → EncValue → Type 0
ValueInWidth zero v = Unit {0}
ValueInWidth (suc depth) v = LayerInWidth (ValueInWidth depth) (out-EncValue v)

abbrev pub FirstInWidth : Option EncValue → Type 0
FirstInWidth None = Unit {0}
FirstInWidth (Some v) = ValueInWidth 1 v

pub record MarkInWidth (m : Mark) : Type 0 where
  pub visibility : m.visibility < 256
  pub note : NoteInWidth (ValueInWidth 64) m.note

abbrev pub MarksInWidth : List Mark → Type 0
MarksInWidth marks = AllByRecursion MarkInWidth marks
