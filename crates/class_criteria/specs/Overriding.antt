-- Classes that define a method themselves, by number.
use Rattle.std.specs.Prelude.{◌&&◌, not, ℕ, Bool, nat_eq, is_some}
use Rattle.program_model.specs.declared.pools.MethodName.{MethodName}
use Rattle.program_model.specs.declared.program.MethodAt.{MethodAt}
use Rattle.program_model.specs.declared.program.Program.{Program}
use Rattle.class_defs.specs.Members.{own_virtual}
use Rattle.class_defs.specs.Places.{is_under}

-- a class under another one, but the one of a method, defines such a virtual method itself
abbrev pub overrides : Program → MethodName → ℕ → MethodAt → ℕ → Bool
overrides p q class target d = not (nat_eq d target.class) && is_under p d class && is_some (own_virtual p q.name q.proto d)
