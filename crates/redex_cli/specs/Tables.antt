-- The table of what the framework may reach of a program: by the text of the rules, and by a library where there is one.
use Rattle.std.specs.Prelude.{◌≡◌, ℕ, List, Option, None, Some, Ok}
use Rattle.if_rules.specs.Fired.{IsRuled}
use Rattle.program_model.specs.declared.pass.Outside.{Outside}
use Rattle.program_model.specs.declared.program.Program.{Program}
use Rattle.reach.specs.Closing.{Closes}
use Rattle.stub_library.specs.Shut.{IsNarrowed}
use Rattle.stub_library.specs.Stubs.{library_at}
use Rattle.stub_library.specs.declared.library.Library.{Library}

-- The text spells rules, some of which may have a condition, and the table closes the one that these rules make of the program.
pub record IsTableFor (rules : List ℕ) (program : Program) (outside : Outside) : Type 0 where
  pub ruled : Outside
  pub table : IsRuled rules program ruled
  pub closes : Closes program ruled outside

-- It is such a table, but for the methods that are shut: those of the definition of shut methods, where the framework declares
-- what a library of these bytes does.
pub record IsTableBy (rules bytes : List ℕ) (program : Program) (outside : Outside) : Type 0 where
  pub closed : Outside
  pub table : IsTableFor rules program closed
  pub library : Library
  pub declares : library_at bytes ≡ Ok library
  pub narrowed : IsNarrowed program closed library outside

-- The same of a library that there may be.
abbrev pub IsTableWith : List ℕ → Option (List ℕ) → Program → Outside → Type 0
IsTableWith rules None program outside = IsTableFor rules program outside
IsTableWith rules (Some bytes) program outside = IsTableBy rules bytes program outside
