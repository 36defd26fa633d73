-- What is left of a program.
use Rattle.std.specs.Prelude.{ℕ, ◌+◌, ◌-◌, Bool, false, List, filter, map, length, sum_by, slice_index_or}
use Rattle.call_graph.specs.declared.live_set.LiveSet.{LiveSet}
use Rattle.program_model.specs.declared.program.Program.{Program}
use Rattle.program_model.specs.declared.program.Class.{Class}

abbrev pub is_marked : List Bool → ℕ → Bool
is_marked marks n = slice_index_or marks n false

-- a class with its live members
abbrev pub kept_in : LiveSet → Class → Class
kept_in s c = record c { fields = filter (λ f. is_marked s.fields.items f.name) c.fields; methods = filter (λ m. is_marked s.methods.items m.name) c.methods }

-- the live ones of some classes
abbrev pub live_classes : LiveSet → List Class → List Class
live_classes s cs = filter (λ c. is_marked s.classes.items c.name) cs

-- the live classes with their live members
abbrev pub kept_of : LiveSet → Program → Program
kept_of s p = record p { classes = map (kept_in s) (live_classes s p.classes) }

-- how many members of a class go
abbrev pub removed_in : LiveSet → Class → ℕ
removed_in s c = (length c.fields - length (kept_in s c).fields) + (length c.methods - length (kept_in s c).methods)

-- how many classes go, and how many members of the others
abbrev pub removed_from : LiveSet → Program → ℕ
removed_from s p = (length p.classes - length (live_classes s p.classes)) + sum_by (removed_in s) (live_classes s p.classes)

-- a class counts once, and each of its members
abbrev pub class_size : Class → ℕ
class_size c = 1 + length c.fields + length c.methods

-- how many classes and members there are
abbrev pub size_of : Program → ℕ
size_of p = sum_by class_size p.classes
