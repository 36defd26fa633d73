-- What is written over the instructions of a program. A plan has for each class, and for each of its methods, what is written
-- there.
use Rattle.std.specs.Prelude.{◌≡◌, ℕ, ◌<◌, Bool, true, false, List, [], ◌∷◌, length, min, sum_by, Option, Some, None, slice_get, slice_set, slice_index_or}
use Rattle.insn_set.specs.declared.form.Insn.{Insn}
use Rattle.program_model.specs.Cells.{capped}
use Rattle.program_model.specs.declared.body.Body.{Body}
use Rattle.program_model.specs.declared.program.Method.{Method}
use Rattle.program_model.specs.declared.program.MethodAt.{MethodAt}
use Rattle.program_model.specs.declared.program.Class.{Class}
use Rattle.program_model.specs.declared.program.Program.{Program}
use Rattle.program_model.specs.declared.pass.Changed.{Changed}
use Rattle.rewrite_pass.specs.declared.edit.Edit.{Edit}

-- ---- what is written

-- instructions written one after the other, each at its position where there is one
abbrev pub edited : List Edit → List Insn → List Insn
edited [] is = is
edited (e ∷ es) is = edited es (slice_set is e.position e.insn)

abbrev pub body_edited : List Edit → Body → Body
body_edited es b = record b { insns = edited es b.insns }

abbrev pub code_edited : List Edit → Option Body → Option Body
code_edited es None = None
code_edited es (Some b) = Some (body_edited es b)

-- a method by what is written over it; where nothing is, it is the same
abbrev pub method_by : List Edit → Method → Method
method_by [] m = m
method_by (e ∷ es) m = record m { body = code_edited (e ∷ es) m.body }

-- what is written over each item of a list, from the front
abbrev pub each_by : {A E : Type 0} → (List E → A → A) → List (List E) → List A → List A
each_by by [] xs = xs
each_by by (es ∷ plan) [] = []
each_by by (es ∷ plan) (x ∷ xs) = by es x ∷ each_by by plan xs

abbrev pub methods_by : List (List Edit) → List Method → List Method
methods_by plan ms = each_by method_by plan ms

abbrev pub class_by : List (List Edit) → Class → Class
class_by plan c = record c { methods = methods_by plan c.methods }

abbrev pub classes_by : List (List (List Edit)) → List Class → List Class
classes_by plan cs = each_by class_by plan cs

abbrev pub program_by : List (List (List Edit)) → Program → Program
program_by plan p = record p { classes = classes_by plan p.classes }

-- ---- how much is written

abbrev pub class_edits : List (List Edit) → ℕ
class_edits plan = sum_by length plan

abbrev pub all_edits : List (List (List Edit)) → ℕ
all_edits plan = sum_by class_edits plan

-- The program after a plan: what was written is counted up to the greatest number of 64 bits, and there are no origins.
pub record IsWritten (plan : List (List (List Edit))) (p : Program) (c : Changed) : Type 0 where
  pub program : c.program ≡ program_by plan p
  pub count : c.count ≡ capped (all_edits plan)
  pub origins : c.origins ≡ []
  pub same : c.count ≡ 0 → c.program ≡ p

-- ---- what a pass asks for

-- a place as a number of 32 bits
abbrev pub word : ℕ → ℕ
word n = min n 4294967295

-- what is written over a method that is admitted, nothing where it isn't or has no code
abbrev pub HasEdits : (MethodAt → Method → Body → List Edit → Type 0) → Bool → MethodAt → Method → Option Body → List Edit → Type 0
HasEdits writes true at m (Some b) es = writes at m b es
HasEdits writes admitted at m o es = es ≡ []

-- the first items have what is written over them
pub record ArePlanned {A E : Type 0} (P : ℕ → A → List E → Type 0) (count : ℕ) (xs : List A) (plan : List (List E)) : Type 0 where
  pub long : length plan ≡ count
  pub each : (k : ℕ) (x : A) → k < count → slice_get xs k ≡ Some x → P k x (slice_index_or plan k [])

abbrev pub HasPlan : (MethodAt → Method → Body → List Edit → Type 0) → List Bool → ℕ → List Method → List (List Edit) → Type 0
HasPlan writes admitted class ms plan =
    ArePlanned (λ k (m : Method) es. HasEdits writes (slice_index_or admitted m.name false) (record { class = class; place = word k }) m m.body es) (length ms) ms plan

abbrev pub IsPlan : (MethodAt → Method → Body → List Edit → Type 0) → List Bool → List Class → List (List (List Edit)) → Type 0
IsPlan writes admitted cs plan = ArePlanned (λ k (c : Class) ps. HasPlan writes admitted (word k) c.methods ps) (length cs) cs plan

-- What a pass makes of a program: what it asks for is written over the admitted bodies, and all else stays.
pub record IsRewrittenBy (writes : MethodAt → Method → Body → List Edit → Type 0) (admitted : List Bool) (p : Program) (c : Changed) : Type 0 where
  pub plan : List (List (List Edit))
  pub asked : IsPlan writes admitted p.classes plan
  pub written : IsWritten plan p c
