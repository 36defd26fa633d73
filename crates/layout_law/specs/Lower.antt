-- Bodies with new numbers of strings and types, none of which needs more room: a writer gives them lower ones that numbers the used
-- entries of sorted tables, and 16 bits hold all where a table has few entries.
use Rattle.std.specs.Prelude.{◌≡◌, ◌⊎◌, ℕ, ◌<◌, ◌≤◌, Some, slice_get, Contains}
use Rattle.insn_set.specs.declared.form.Insn.TheVariants.{ConstString}
use Rattle.program_model.specs.declared.body.Body.{Body}
use Rattle.program_model.specs.declared.body.Handler.{Handler}
use Rattle.program_model.specs.declared.body.Region.{Region}
use Rattle.program_model.specs.declared.pass.Renumber.{Renumber}
use Rattle.dex_defs.specs.Written.{new_string, new_type}

-- each string that an instruction brings gets no higher number, or one of 16 bits, and each type that a handler names no higher one
pub record NumbersFall (r : Renumber) (b : Body) : Type 0 where
  pub strings : (n to string : ℕ) → slice_get b.insns n ≡ Some (ConstString to string) → (new_string r string ≤ string) ⊎ (new_string r string < 65536)
  pub types : (q : Region) (h : Handler) → Contains b.regions q → Contains q.handlers h → new_type r h.kind ≤ h.kind
