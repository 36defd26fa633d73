-- The statuses as numbers, which a process ends with.
use Rattle.std.specs.Prelude.{ℕ}
use Rattle.redex_cli.specs.declared.status.Status.{Status}
use Rattle.redex_cli.specs.declared.status.Status.TheVariants.{Done, Usage, BadRules, BadDex, Limit, ReadFault, WriteFault, NoMemory, BadScript}

abbrev pub code_of : Status → ℕ
code_of Done = 0
code_of Usage = 1
code_of (BadRules fault) = 2
code_of (BadDex fault) = 3
code_of (Limit fault) = 4
code_of ReadFault = 5
code_of WriteFault = 6
code_of NoMemory = 7
code_of (BadScript line) = 8
