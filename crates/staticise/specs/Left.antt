-- That no method is loose, and how many methods have a receiver: so many rounds may make one static (this project's profile).
use Rattle.std.specs.Prelude.{◌≡◌, ℕ, ◌&&◌, not, Bool, true, false, List, sum_by, Some, is_some, slice_get}
use Rattle.std.specs.List.{count_by}
use Rattle.program_model.specs.declared.program.Class.{Class}
use Rattle.program_model.specs.declared.program.Method.{Method}
use Rattle.program_model.specs.declared.program.Program.{Program}
use Rattle.program_model.specs.declared.pass.Outside.{Outside}
use Rattle.program_model.specs.MemberRules.{is_static}
use Rattle.facts.specs.declared.facts.Facts.{Facts}
use Rattle.static_protos.specs.Tables.{tables_of}
use Rattle.staticise.specs.Judging.{is_loose_at}

-- Nothing loose is left: no method of the program is loose, with nothing made static in front of it.
abbrev pub NoneLeft : Program → Facts → Outside → List Bool → Type 0
NoneLeft p facts o admitted = (place i : ℕ) (k : Class) (m : Method) → slice_get p.classes place ≡ Some k → slice_get k.methods i ≡ Some m
    → o.optimise ≡ true → is_loose_at p facts o admitted (tables_of p) place k m ≡ false

-- ---- the measure

-- a method with code that isn't static
abbrev pub has_receiver_word : Method → Bool
has_receiver_word m = is_some m.body && not (is_static m.flags)

abbrev pub class_receivers : Class → ℕ
class_receivers c = count_by has_receiver_word c.methods

-- how many methods with code there are that aren't static
abbrev pub receivers_in : Program → ℕ
receivers_in p = sum_by class_receivers p.classes
