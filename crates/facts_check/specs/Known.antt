-- What is known beside the frames.
use Rattle.std.specs.Prelude.{◌≡◌, ℕ, Bool, true, false, List, slice_index_or}
use Rattle.std.specs.FinMap as finite
use Rattle.program_model.specs.ProgramRules.{is_well_formed}
use Rattle.hierarchy.specs.Shapes.{IsResolved}
use Rattle.domains.specs.Values.{Parts, any_value}
use Rattle.dom_frame.specs.Classes.{AreClasses}
use Rattle.dom_frame.specs.Registers.{Registers}
use Rattle.facts_check.specs.declared.known.Known.{Known}

-- the tables are those of the program, and what is answered past a table is anything
pub record AreKnown (k : Known) : Type 0 where
  pub formed : is_well_formed k.program.now ≡ true
  pub resolved : IsResolved k.program.now k.hierarchy.now
  pub classes : AreClasses k.program.now k.classes
  pub any : k.facts.now.any ≡ any_value

abbrev pub is_marked : List Bool → ℕ → Bool
is_marked marks n = slice_index_or marks n false

-- a run may come to a call of a number
abbrev pub is_made : Known → ℕ → Bool
is_made k call = is_marked k.pools.now.reached.items call

-- what calls of a number pass, and what they get back
abbrev pub pool_at : Known → ℕ → Registers
pool_at k call = slice_index_or k.pools.now.calls.items call finite.empty

abbrev pub answer_at : Known → ℕ → Parts
answer_at k call = slice_index_or k.pools.now.answers.items call any_value
