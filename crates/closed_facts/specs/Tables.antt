-- What a table of facts says at a number, and where it says that a run comes.
use Rattle.std.specs.Prelude.{◌≡◌, ℕ, true, Option, Some, None, is_some, slice_get, slice_index_or}
use Rattle.std.specs.Option.{option_map}
use Rattle.insn_set.specs.declared.form.Insn.{Insn}
use Rattle.program_model.specs.declared.body.Body.{Body}
use Rattle.program_model.specs.declared.program.Method.{Method}
use Rattle.program_model.specs.declared.program.MethodAt.{MethodAt}
use Rattle.program_model.specs.declared.program.Program.{Program}
use Rattle.program_model.specs.Lookups.{method_at}
use Rattle.domains.specs.Datum.{Within}
use Rattle.domains.specs.Values.{Parts, value_holds, any_value}
use Rattle.dom_frame.specs.Registers.{Registers, value_at}
use Rattle.facts.specs.Lent.{frame_at, word_at}
use Rattle.facts.specs.declared.facts.Facts.{Facts}

-- the second value holds of all that the first one holds of
abbrev pub IsBelow : Parts → Parts → Type 0
IsBelow x y = Within value_holds x y

-- the same of each register
abbrev pub AreBelow : Registers → Registers → Type 0
AreBelow x y = (r : ℕ) → IsBelow (value_at x r) (value_at y r)

-- registers that come to a position are among those that are known there
abbrev pub Arrives : Registers → Option Registers → Type 0
Arrives x None = ⊥
Arrives x (Some y) = AreBelow x y

-- the registers at a position of a method, none where the facts say that no run comes there
abbrev pub registers_at : Facts → ℕ → ℕ → Option Registers
registers_at t method position = option_map (λ f. f.registers) (frame_at t.frames.items method position)

abbrev pub parameter_at : Facts → ℕ → ℕ → Parts
parameter_at t method word = word_at t.any t.parameters.items method word

abbrev pub result_at : Facts → ℕ → Parts
result_at t method = slice_index_or t.results.items method t.any

abbrev pub field_at : Facts → ℕ → Parts
field_at t field = slice_index_or t.fields.items field t.any

-- a position of a method's code that is reached, with its instruction and its registers
pub record At (p : Program) (t : Facts) (at : MethodAt) (n : ℕ) : Type 0 where
  pub method : Method
  pub body : Body
  pub insn : Insn
  pub registers : Registers
  pub has_method : method_at p at ≡ Some method
  pub has_body : method.body ≡ Some body
  pub has_insn : slice_get body.insns n ≡ Some insn
  pub reached : registers_at t method.name n ≡ Some registers

-- a run may come to the first position of a method, and with any parameters
abbrev pub IsEntered : Facts → ℕ → Type 0
IsEntered t method = is_some (registers_at t method 0) ≡ true

pub record IsOpen (t : Facts) (method : ℕ) : Type 0 where
  pub entered : IsEntered t method
  pub parameters : (i : ℕ) → IsBelow any_value (parameter_at t method i)
