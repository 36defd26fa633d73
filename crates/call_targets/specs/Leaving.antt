-- What is noted of the calls that leave by their name alone.
use Rattle.std.specs.Prelude.{ℕ, suc, Bool, true, false, List, [], ◌∷◌, ◌++◌, Option, Some, None, cond, slice_get}
use Rattle.program_model.specs.declared.pools.MethodName.{MethodName}
use Rattle.program_model.specs.declared.program.Program.{Program}
use Rattle.program_model.specs.Lookups.{class_place}
use Rattle.class_defs.specs.Members.{is_interface}
use Rattle.call_targets.specs.Adding.{Note, Leaves}
use Rattle.call_targets.specs.Targeted.{call_at}

-- The receiver of a virtual call needn't stand under the type that the call names, which the class at a place defines, if any: the
-- program doesn't define it, or it is an interface.
abbrev pub admits_any : Program → Option ℕ → Bool
admits_any p None = true
admits_any p (Some place) = is_interface (slice_get p.classes place)

-- a call of an interface, and a virtual one whose receiver needn't stand under the type that it names
abbrev pub name_notes : Program → ℕ → MethodName → List Note
name_notes p method q = Leaves (call_at method true) ∷ cond (admits_any p (class_place p q.class)) (Leaves (call_at method false) ∷ []) []

-- the methods, of which the first has this number
abbrev pub all_name_notes : Program → ℕ → List MethodName → List Note
all_name_notes p method [] = []
all_name_notes p method (q ∷ qs) = name_notes p method q ++ all_name_notes p (suc method) qs
