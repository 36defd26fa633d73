-- Registers that facts know as not null, by number and of a method by its name.
use Rattle.std.specs.Prelude.{◌≡◌, ℕ, ◌<◌, Bool, true, false, Option, Some, None, slice_get, Contains}
use Rattle.program_model.specs.declared.body.Body.{Body}
use Rattle.program_model.specs.declared.program.Class.{Class}
use Rattle.program_model.specs.declared.program.Method.{Method}
use Rattle.program_model.specs.declared.program.Program.{Program}
use Rattle.dalvik_defs.specs.Naming.{named_class, named_method}
use Rattle.dalvik_defs.specs.Silence.{key_in}
use Rattle.dalvik_defs.specs.declared.names.MethodKey.{MethodKey}
use Rattle.domains.specs.declared.nulls.Nullness.{Nullness}
use Rattle.domains.specs.declared.nulls.Nullness.TheVariants as null
use Rattle.dom_frame.specs.Registers.{value_at}
use Rattle.dom_frame.specs.declared.frames.Frame.{Frame}
use Rattle.facts.specs.Lent.{frame_at}
use Rattle.facts.specs.declared.facts.Facts.{Facts}

abbrev pub is_not_null : Nullness → Bool
is_not_null null.Bottom = true
is_not_null null.NotNull = true
is_not_null n = false

-- a register is known as not null: also where no run comes
abbrev pub holds_no_null : Option Frame → ℕ → Bool
holds_no_null None register = true
holds_no_null (Some frame) register = is_not_null (value_at frame.registers register).nullness

abbrev pub knows_not_null : Facts → ℕ → ℕ → ℕ → Bool
knows_not_null facts method position register = holds_no_null (frame_at facts.frames.items method position) register

-- Facts know a register of a method's body as not null at a position. Past its registers nothing is known.
pub record KnowsNotNull (p : Program) (facts : Facts) (k : MethodKey) (n r : ℕ) : Type 0 where
  pub place : ℕ
  pub class : Class
  pub method : Method
  pub body : Body
  pub is_class : slice_get p.classes place ≡ Some class
  pub in_class : Contains class.methods method
  pub key : k ≡ key_in (named_class p class) (named_method p method)
  pub has : method.body ≡ Some body
  pub short : r < body.registers
  pub knows : knows_not_null facts method.name n r ≡ true
