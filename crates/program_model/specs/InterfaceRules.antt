-- What interfaces may stand on (Dalvik executable format, "class_def_item"; this project's profile).
use Rattle.std.specs.Prelude.{ℕ, Bool, not, ◌&&◌, ◌||◌, nat_eq}
use Rattle.std.specs.List.{list_all, list_any}
use Rattle.program_model.specs.MemberRules.{has_flag}
use Rattle.program_model.specs.declared.program.Class.{Class}
use Rattle.program_model.specs.declared.program.Program.{Program}

abbrev pub is_plain_class : Class → Bool
is_plain_class class = not (has_flag class.flags 512)

-- a class that is no interface defines the type
abbrev pub defines_so : ℕ → Class → Bool
defines_so kind class = nat_eq class.name kind && is_plain_class class

abbrev pub defines_plain : Program → ℕ → Bool
defines_plain p kind = list_any (defines_so kind) p.classes

-- neither the superclass nor an interface of an interface is a class of the program that is no interface
abbrev pub stands_free : Program → Class → Bool
stands_free p class = is_plain_class class || (not (defines_plain p class.superclass) && list_all (λ kind. not (defines_plain p kind)) class.interfaces)

unfoldable pub interfaces_stand_free : Program → Bool
interfaces_stand_free p = list_all (stands_free p) p.classes
