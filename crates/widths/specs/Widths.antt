-- The numbers of a program as values of their types: what every program in memory has.
use Rattle.std.specs.Prelude.{◌<◌, ◌^◌, ℕ, List}
use Rattle.std.specs.List.{AllByRecursion}
use Rattle.program_model.specs.declared.program.Field.{Field}
use Rattle.program_model.specs.declared.program.Method.{Method}
use Rattle.program_model.specs.declared.program.Class.{Class}
use Rattle.program_model.specs.declared.program.Program.{Program}
use Rattle.widths.specs.Code.{WideCode}
use Rattle.widths.specs.Values.{FirstInWidth, MarksInWidth}

abbrev pub TextInWidth : List ℕ → Type 0
TextInWidth text = AllByRecursion (λ u. u < 65536) text

pub record FieldInWidth (f : Field) : Type 0 where
  pub flags : f.flags.0 < 2 ^ 32
  pub first : FirstInWidth f.first
  pub marks : MarksInWidth f.marks

pub record MethodInWidth (m : Method) : Type 0 where
  pub flags : m.flags.0 < 2 ^ 32
  pub marks : MarksInWidth m.marks
  pub parameter_marks : AllByRecursion MarksInWidth m.parameter_marks
  pub code : WideCode m.body

pub record ClassInWidth (c : Class) : Type 0 where
  pub flags : c.flags.0 < 2 ^ 32
  pub marks : MarksInWidth c.marks
  pub fields : AllByRecursion FieldInWidth c.fields
  pub methods : AllByRecursion MethodInWidth c.methods

pub record IsInWidth (p : Program) : Type 0 where
  pub strings : AllByRecursion TextInWidth p.strings
  pub classes : AllByRecursion ClassInWidth p.classes
