-- A program whose bodies are thinned. A plan has for each class, and for each of its methods, the fates of its positions.
use Rattle.std.specs.Prelude.{◌≡◌, ℕ, zero, suc, ◌+◌, ◌<◌, ◌^◌, Bool, true, false, not, nat_eq, nat_lt, if◌then◌else◌, List, [], ◌∷◌, length, map, replicate, sum_by, count_by, Option, Some, None, slice_set}
use Rattle.std.specs.List.{AllZip, list_any}
use Rattle.program_model.specs.Cells.{capped}
use Rattle.program_model.specs.declared.body.Body.{Body}
use Rattle.program_model.specs.declared.program.Method.{Method}
use Rattle.program_model.specs.declared.program.Class.{Class}
use Rattle.program_model.specs.declared.program.Program.{Program}
use Rattle.program_model.specs.declared.pass.Origin.{Origin}
use Rattle.program_model.specs.declared.pass.Changed.{Changed}
use Rattle.pass_defs.specs.Thinned.{left, body_thinned}
use Rattle.body_edit.specs.declared.fate.Fate.{Fate}
use Rattle.body_edit.specs.declared.fate.Fate.TheVariants.{Stays, Empties, Goes}
use Rattle.body_edit.specs.Fates.{fates_of, origins_of}
use Rattle.thin_pass.specs.Wishing.{HasFates}

abbrev pub changes : Fate → Bool
changes Stays = false
changes f = true

-- ---- methods

-- the lines that are left, none where no line is among them
abbrev pub lines_of : List ℕ → List ℕ
lines_of ls = if list_any (λ line. not (nat_eq line 0)) ls then ls else []

abbrev pub lines_left : List Fate → List ℕ → List ℕ
lines_left fs ls = lines_of (left (fates_of fs) ls)

abbrev pub positions_in : Option Body → ℕ
positions_in None = 0
positions_in (Some b) = length b.insns

abbrev pub positions_of : Method → ℕ
positions_of m = positions_in m.body

-- a method whose body is what its fates leave; one without a body stays
abbrev pub method_thinned : List Fate → Method → Method
method_thinned fs m = elim m.body [ Some b ↦ record m { body = Some (body_thinned (fates_of fs) b); lines = lines_left fs m.lines } | None ↦ m ]

-- how many positions change
abbrev pub changed_in : List Fate → ℕ
changed_in fs = count_by changes fs

abbrev pub class_changes : List (List Fate) → ℕ
class_changes plan = sum_by changed_in plan

abbrev pub all_changes : List (List (List Fate)) → ℕ
all_changes plan = sum_by class_changes plan

-- a method by its fates; where nothing changes it is the same
abbrev pub method_by : List Fate → Method → Method
method_by fs m = if nat_eq (changed_in fs) 0 then m else method_thinned fs m

abbrev pub methods_by : List (List Fate) → List Method → List Method
methods_by [] ms = ms
methods_by (fs ∷ plan) [] = []
methods_by (fs ∷ plan) (m ∷ ms) = method_by fs m ∷ methods_by plan ms

abbrev pub class_by : List (List Fate) → Class → Class
class_by plan c = record c { methods = methods_by plan c.methods }

abbrev pub classes_by : List (List (List Fate)) → List Class → List Class
classes_by [] cs = cs
classes_by (ps ∷ plan) [] = []
classes_by (ps ∷ plan) (c ∷ cs) = class_by ps c ∷ classes_by plan cs

abbrev pub program_by : List (List (List Fate)) → Program → Program
program_by plan p = record p { classes = classes_by plan p.classes }

-- these are the fates of the methods
abbrev pub AreFor : (Method → List Fate → Type 0) → List Method → List (List Fate) → Type 0
AreFor thins ms plan = AllZip thins ms plan

abbrev pub AreForClasses : (Method → List Fate → Type 0) → List Class → List (List (List Fate)) → Type 0
AreForClasses thins cs plan = AllZip (λ (c : Class) ps. AreFor thins c.methods ps) cs plan

-- a list of fates for each method
abbrev pub AreLong : List Class → List (List (List Fate)) → Type 0
AreLong cs plan = AllZip (λ (c : Class) ps. length c.methods ≡ length ps) cs plan

-- ---- origins

-- with the origins of a method, as far as 32 bits number them
abbrev pub noted : ℕ → List Fate → List (List Origin) → List (List Origin)
noted k fs os = if nat_lt (length fs) (2 ^ 32) then slice_set os k (origins_of k (fates_of fs)) else os

-- the origins of each method by its number
abbrev pub class_origins : List Method → List (List Fate) → List (List Origin) → List (List Origin)
class_origins [] plan os = os
class_origins (m ∷ ms) [] os = os
class_origins (m ∷ ms) (fs ∷ plan) os = class_origins ms plan (noted m.name fs os)

abbrev pub all_origins : List Class → List (List (List Fate)) → List (List Origin) → List (List Origin)
all_origins [] plan os = os
all_origins (c ∷ cs) [] os = os
all_origins (c ∷ cs) (ps ∷ plan) os = all_origins cs plan (class_origins c.methods ps os)

-- a list for each method number, or none at all where no position moved
abbrev pub program_origins : List (List (List Fate)) → Program → List (List Origin)
program_origins plan p = if nat_eq (all_changes plan) 0 then [] else all_origins p.classes plan (replicate (length p.methods) [])

-- A program that was thinned: each admitted body is what the fates that come of the wishes leave of it, all else stays, the
-- positions that changed are counted up to the greatest number of 64 bits, and the origins are those of the positions that
-- are left.
pub record IsThinnedBy (wishes : Body → List Fate → Type 0) (admitted : List Bool) (p : Program) (c : Changed) : Type 0 where
  pub plan : List (List (List Fate))
  pub fates : AreForClasses (HasFates wishes admitted) p.classes plan
  pub program : c.program ≡ program_by plan p
  pub count : c.count ≡ capped (all_changes plan)
  pub origins : c.origins ≡ program_origins plan c.program
