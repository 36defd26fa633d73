-- What is noted of each class before any object is made.
use Rattle.std.specs.Prelude.{ℕ, suc, Bool, true, false, not, ◌&&◌, ◌||◌, List, [], ◌∷◌, ◌++◌, Option, Some, None, is_some, nat_eq, cond, slice_get}
use Rattle.std.specs.List.{list_any}
use Rattle.program_model.specs.declared.program.Class.{Class}
use Rattle.program_model.specs.declared.program.Method.{Method}
use Rattle.program_model.specs.declared.program.MethodAt.{MethodAt}
use Rattle.program_model.specs.declared.program.Program.{Program}
use Rattle.program_model.specs.Lookups.{method_or}
use Rattle.program_model.specs.MemberRules.{is_static}
use Rattle.class_defs.specs.Starts.{initialiser_place}
use Rattle.call_graph.specs.Follows.{can_be_made}
use Rattle.call_targets.specs.Adding.{Note, Enters, Needs}
use Rattle.call_targets.specs.Targeted.{is_on, is_constructor_name}
use Rattle.call_targets.specs.declared.kept.Kept.{Kept}

abbrev pub is_place : Option MethodAt → ℕ → Bool
is_place None own = false
is_place (Some at) own = nat_eq at.place own

-- a kept static method with code that isn't the initialiser
abbrev pub is_entered : Kept → Option MethodAt → ℕ → Method → Bool
is_entered k initialiser own m = is_static m.flags && (is_some m.body && (is_on k.methods.items m.name && not (is_place initialiser own)))

-- the methods of a class that are entered so, of which the first has this place
abbrev pub static_notes : Kept → Option MethodAt → ℕ → List Method → List Note
static_notes k initialiser own [] = []
static_notes k initialiser own (m ∷ ms) = cond (is_entered k initialiser own m) (Enters m.name ∷ []) [] ++ static_notes k initialiser (suc own) ms

abbrev pub is_empty : List Note → Bool
is_empty [] = true
is_empty (x ∷ xs) = false

abbrev pub keeps_constructor_by : Program → Kept → List Method → Bool
keeps_constructor_by p k ms = list_any (λ m. is_on k.methods.items m.name && is_constructor_name p (slice_get p.methods m.name)) ms

abbrev pub may_be_made_by : Program → Kept → Class → Bool
may_be_made_by p k c = can_be_made c && (is_on k.classes.items c.name || keeps_constructor_by p k c.methods)

abbrev pub class_notes : Program → Kept → ℕ → Class → List Note
class_notes p k place c = static_notes k (method_or place (initialiser_place p place) None) 0 c.methods
    ++ cond (not (is_empty (static_notes k (method_or place (initialiser_place p place) None) 0 c.methods)) || may_be_made_by p k c) (Needs place ∷ []) []

-- the classes, of which the first has this place
abbrev pub all_class_notes : Program → Kept → ℕ → List Class → List Note
all_class_notes p k place [] = []
all_class_notes p k place (c ∷ cs) = class_notes p k place c ++ all_class_notes p k (suc place) cs
