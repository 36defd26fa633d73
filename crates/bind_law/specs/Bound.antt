-- Programs of which no call is bindable by name in admitted methods.
use Rattle.std.specs.Prelude.{◌≡◌, ℕ, Bool, true, false, List, Some, slice_get, slice_index_or}
use Rattle.program_model.specs.declared.program.Class.{Class}
use Rattle.program_model.specs.declared.program.Method.{Method}
use Rattle.program_model.specs.declared.program.Program.{Program}
use Rattle.class_defs.specs.Places.{super_place}
use Rattle.dalvik_defs.specs.Find.{Found}
use Rattle.dalvik_defs.specs.Naming.{named, named_class, named_method}
use Rattle.pass_defs.specs.Bindable.{IsBindable}
use Rattle.pass_defs.specs.Kinds.{is_plain}
use Rattle.receivers.specs.Receiving.{interface_at}

-- The superclass of a class that is no interface is none either.
abbrev pub IsUpright : Program → Type 0
IsUpright p = (c u : ℕ) → interface_at p c ≡ false → super_place p c ≡ Some u → interface_at p u ≡ false

-- No position of an admitted method is bindable.
abbrev pub NothingBindable : Program → List Bool → Type 0
NothingBindable p admitted = (k j : ℕ) (c : Class) (m : Method) → slice_get p.classes k ≡ Some c → slice_get c.methods j ≡ Some m → slice_index_or admitted m.name false ≡ true
    → (n : ℕ) (found : Found) → IsBindable (named p) (named_class p c) (named_method p m) n found → ⊥

-- No position of an admitted method is bindable by the kind of a class that is no interface.
abbrev pub NoneBindable : Program → List Bool → Type 0
NoneBindable p admitted = (k j : ℕ) (c : Class) (m : Method) → slice_get p.classes k ≡ Some c → slice_get c.methods j ≡ Some m → slice_index_or admitted m.name false ≡ true
    → (n : ℕ) (found : Found) (y : IsBindable (named p) (named_class p c) (named_method p m) n found) → is_plain (named p) y.class ≡ true → ⊥
