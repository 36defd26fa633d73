-- Classes that start without code, by number.
use Rattle.std.specs.Prelude.{ℕ, Bool, ◌&&◌, nat_lt, length}
use Rattle.program_model.specs.declared.program.Program.{Program}
use Rattle.class_defs.specs.Starts.{is_trivial}

-- a class of the program, initialising which runs no code
abbrev pub starts_quietly : Program → ℕ → Bool
starts_quietly p class = nat_lt class (length p.classes) && is_trivial p class
