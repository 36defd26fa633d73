-- Registers that are no arguments.
use Rattle.std.specs.Prelude.{ℕ, ◌-◌}
use Rattle.program_model.specs.declared.body.Body.{Body}

-- how many registers are no arguments: these have the numbers below
abbrev pub locals : Body → ℕ
locals b = b.registers - b.ins
