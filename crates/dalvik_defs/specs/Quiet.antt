-- Classes whose initialisation does nothing (this project's profile): runs that begin with these classes done.
use Rattle.std.specs.Prelude.{◌≡◌, ℕ, zero, suc, Bool, true, false, ◌&&◌, List, [], ◌∷◌, Some, None, is_none}
use Rattle.std.specs.List.{list_all}
use Rattle.dalvik_defs.specs.Names.{Text}
use Rattle.dalvik_defs.specs.Under.{class_named}
use Rattle.dalvik_defs.specs.Face.{Face}
use Rattle.dalvik_defs.specs.State.{Status, New, Done, Classes, Outside, State, On, opening_world}
use Rattle.dalvik_defs.specs.declared.program.NamedClass.{NamedClass}
use Rattle.dalvik_defs.specs.declared.program.NamedProgram.{NamedProgram}
use Rattle.dalvik_defs.specs.declared.script.Move.{Move}

-- neither a class nor any that comes before it, within so many levels, has an initialiser
abbrev pub quiet_within : Face → ℕ → Text → Bool
quiet_within face zero t = false
quiet_within face (suc n) t = is_none (face.initialiser t) && list_all (quiet_within face n) (face.first t)

-- the superclasses of a class end within so many levels
abbrev pub EndsWithin : NamedProgram → ℕ → Text → Type 0
EndsWithin p zero t = class_named p t ≡ None
EndsWithin p (suc n) t = (c : NamedClass) → class_named p t ≡ Some c → EndsWithin p n c.superclass

-- the opening state in which some classes are done
abbrev pub status_if : Bool → Status
status_if true = Done
status_if false = New

abbrev pub calm_classes : (Text → Bool) → Classes
calm_classes calm t = status_if (calm t)

abbrev pub calm_opening : (Text → Bool) → List Move → State
calm_opening calm script = On opening_world (calm_classes calm) (Outside None None ∷ []) script
