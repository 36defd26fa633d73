-- Programs whose methods are given new bodies. A row has a new body or none for each method of a class, and there is a row for
-- each class.
use Rattle.std.specs.Prelude.{List, [], ◌∷◌, Option, Some, None}
use Rattle.program_model.specs.declared.program.Method.{Method}
use Rattle.program_model.specs.declared.program.Class.{Class}
use Rattle.program_model.specs.declared.program.Program.{Program}
use Rattle.inline_calls.specs.declared.editing.Edit.{Edit}

-- a method with a new body, if there is one
abbrev pub method_by : Option Edit → Method → Method
method_by None m = m
method_by (Some e) m = record m { body = Some e.body; lines = e.lines }

-- each item of a list by what is at its place, from the front
abbrev pub each_by : {A E : Type 0} → (E → A → A) → List E → List A → List A
each_by by [] xs = xs
each_by by (e ∷ es) [] = []
each_by by (e ∷ es) (x ∷ xs) = by e x ∷ each_by by es xs

abbrev pub class_by : List (Option Edit) → Class → Class
class_by row c = record c { methods = each_by method_by row c.methods }

abbrev pub program_by : List (List (Option Edit)) → Program → Program
program_by rows p = record p { classes = each_by class_by rows p.classes }
