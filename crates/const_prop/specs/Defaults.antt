-- Whether a class may find the method of an interface by a name and a proto (Dalvik executable format, version 037).
use Rattle.std.specs.Prelude.{ℕ, Bool, false, ◌&&◌, Option, Some, None, slice_get}
use Rattle.std.specs.List.{list_any}
use Rattle.program_model.specs.declared.program.MethodAt.{MethodAt}
use Rattle.program_model.specs.declared.program.Program.{Program}
use Rattle.program_model.specs.Lookups.{method_at}
use Rattle.class_defs.specs.Finding.{is_037}
use Rattle.class_defs.specs.Members.{own_virtual, has_code, is_interface}
use Rattle.hierarchy.specs.Naming.{definers_of}

-- a method was found that has code
abbrev pub is_coded : Program → Option MethodAt → Bool
is_coded p (Some at) = has_code (method_at p at)
is_coded p None = false

-- an interface that defines such a virtual method with code
abbrev pub is_default : Program → ℕ → ℕ → ℕ → Bool
is_default p name proto class = is_interface (slice_get p.classes class) && is_coded p (own_virtual p name proto class)

abbrev pub has_default : Program → ℕ → ℕ → Bool
has_default p name proto = is_037 p.version && list_any (is_default p name proto) (definers_of p name proto)
