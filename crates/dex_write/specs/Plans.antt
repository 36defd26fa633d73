-- A class as it is written: its members in order, and the code of its methods (Dalvik executable format, "class_data_item").
use Rattle.std.specs.Prelude.{ℕ, suc, List, [], ◌∷◌, ◌++◌, Bool, true, false, not, Option, Some, None, slice_get}
pub use Rattle.code_write.specs.Pairs.{Numbered, is_before, insert, in_order}
use Rattle.dex_pools.specs.Written.{renumbered}
use Rattle.program_model.specs.MemberRules.{is_static, is_direct}
use Rattle.program_model.specs.declared.pass.Renumber.{Renumber}
use Rattle.program_model.specs.declared.value.Mark.{Mark}
use Rattle.program_model.specs.declared.program.Field.{Field}
use Rattle.program_model.specs.declared.program.Method.{Method}
use Rattle.program_model.specs.declared.program.Class.{Class}
use Rattle.program_model.specs.declared.program.Program.{Program}
use Rattle.dex_write.specs.declared.ordered.MethodPart.{MethodPart}
use Rattle.dex_write.specs.declared.ordered.Ordered.{Ordered}

-- ---- new numbers with places, in order

abbrev pub is_same : Bool → Bool → Bool
is_same true b = b
is_same false b = not b

abbrev pub spot : ℕ → ℕ → Numbered
spot number place = (number, place)

abbrev pub spot_where : Bool → Numbered → List Numbered
spot_where true one = one ∷ []
spot_where false one = []

-- the fields that are static, or those that are not; the first one has this place
abbrev pub fields_from : List ℕ → Bool → ℕ → List Field → List Numbered
fields_from numbers wanted place [] = []
fields_from numbers wanted place (f ∷ fs) = spot_where (is_same wanted (is_static f.flags)) (spot (renumbered numbers f.name) place) ++ fields_from numbers wanted (suc place) fs

-- the methods that are direct, or those that are not
abbrev pub methods_from : List ℕ → Program → Bool → ℕ → List Method → List Numbered
methods_from numbers p wanted place [] = []
methods_from numbers p wanted place (m ∷ ms) = spot_where (is_same wanted (is_direct p m)) (spot (renumbered numbers m.name) place) ++ methods_from numbers p wanted (suc place) ms

unfoldable pub ordered_fields : Renumber → Class → Bool → List Numbered
ordered_fields r c wanted = in_order (fields_from r.fields.items wanted 0 c.fields)

unfoldable pub ordered_methods : Renumber → Program → Class → Bool → List Numbered
ordered_methods r p c wanted = in_order (methods_from r.methods.items p wanted 0 c.methods)

-- ---- what stands at a place of a class

abbrev pub flags_in : Option Field → ℕ
flags_in None = 0
flags_in (Some f) = f.flags.0

abbrev pub method_flags_in : Option Method → ℕ
method_flags_in None = 0
method_flags_in (Some m) = m.flags.0

abbrev pub marks_in : Option Field → List Mark
marks_in None = []
marks_in (Some f) = f.marks

abbrev pub method_marks_in : Option Method → List Mark
method_marks_in None = []
method_marks_in (Some m) = m.marks

abbrev pub parameters_in : Option Method → List (List Mark)
parameters_in None = []
parameters_in (Some m) = m.parameter_marks

abbrev pub field_flags : Class → ℕ → ℕ
field_flags c place = flags_in (slice_get c.fields place)

abbrev pub method_flags : Class → ℕ → ℕ
method_flags c place = method_flags_in (slice_get c.methods place)

abbrev pub field_marks : Class → ℕ → List Mark
field_marks c place = marks_in (slice_get c.fields place)

abbrev pub method_marks : Class → ℕ → List Mark
method_marks c place = method_marks_in (slice_get c.methods place)

abbrev pub parameter_marks : Class → ℕ → List (List Mark)
parameter_marks c place = parameters_in (slice_get c.methods place)

-- ---- the plan of a class

-- static fields before the others and direct methods before virtual ones, and how many of each come first
pub record Plan : Type 0 where
  pub class : Class
  pub statics : ℕ
  pub fields : List Numbered
  pub directs : ℕ
  pub methods : List MethodPart

abbrev pub plan_in : Ordered → Plan
plan_in o = record { class = o.class.now; statics = o.statics; fields = o.fields; directs = o.directs; methods = o.methods }

abbrev pub spot_of : MethodPart → Numbered
spot_of m = spot m.number m.place
