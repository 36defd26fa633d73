-- Registers of which one number is known, by what a run has in them.
use Rattle.std.specs.Prelude.{◌≡◌, ℕ, List, [], ◌∷◌}
use Rattle.dalvik_defs.specs.Names.{Text}
use Rattle.dalvik_defs.specs.declared.state.Value.{Value}
use Rattle.dalvik_defs.specs.declared.state.Value.TheVariants as machine
use Rattle.dalvik_defs.specs.declared.program.NamedProgram.{NamedProgram}
use Rattle.domains.specs.Values.{Parts, value_holds}
use Rattle.run_facts.specs.ValueAnalysis.{datum_of}
use Rattle.const_prop.specs.declared.numbers.Number.{Number}
use Rattle.const_prop.specs.declared.numbers.Number.TheVariants.{Word, Wide}

-- what a constant of a number writes
abbrev pub values_of : Number → List Value
values_of (Word n) = machine.Word n ∷ []
values_of (Wide n) = machine.Low n ∷ machine.High n ∷ []

-- a register holds the number, or a half of it
abbrev pub IsNumber : Number → Value → Type 0
IsNumber (Word n) u = u ≡ machine.Word n
IsNumber (Wide n) (machine.Low m) = m ≡ n
IsNumber (Wide n) (machine.High m) = m ≡ n
IsNumber (Wide n) u = ⊥

-- a value holds of the number alone
abbrev pub Only : NamedProgram → Parts → Number → Type 0
Only p v n = (k : Text) (u : Value) → value_holds v (datum_of p k u) → IsNumber n u
