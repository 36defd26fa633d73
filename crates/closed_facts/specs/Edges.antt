-- Where an instruction goes on, and with what registers.
use Rattle.std.specs.Prelude.{ℕ, ◌+◌, true, false, List, [], ◌∷◌, ◌++◌, Option, Some, None}
use Rattle.insn_set.specs.declared.form.Insn.{Insn}
use Rattle.insn_set.specs.declared.form.Insn.TheVariants as insn
use Rattle.program_model.specs.declared.program.Program.{Program}
use Rattle.domains.specs.Values.{Parts, any_value, least_value}
use Rattle.dom_frame.specs.Registers.{Registers}
use Rattle.dom_frame.specs.Steps.{after, branched, switched, unswitched}
use Rattle.facts.specs.declared.facts.Facts.{Facts}
use Rattle.closed_facts.specs.Tables.{field_at}
use Rattle.closed_facts.specs.Found.{own_number}

-- what a field is that a number names
abbrev pub value_by : Facts → Option ℕ → Parts
value_by t None = any_value
value_by t (Some field) = field_at t field

abbrev pub field_value : Program → Facts → ℕ → Parts
field_value p t field = value_by t (own_number p field)

-- what a get takes; no other form is asked
abbrev pub given : Program → Facts → Insn → Parts
given p t (insn.InstanceGet item to on field) = field_value p t field
given p t (insn.StaticGet item to field) = field_value p t field
given p t i = least_value

abbrev pub arm : ℕ → Option Registers → List (ℕ × Registers)
arm q None = []
arm q (Some x) = (q, x) ∷ []

-- the targets of a switch, of which the first has this place
abbrev pub cases_from : ℕ → Insn → List ℕ → Registers → List (ℕ × Registers)
cases_from place i [] x = []
cases_from place i (target ∷ targets) x = arm target (switched place i x) ++ cases_from (place + 1) i targets x

abbrev pub both_ways : ℕ → Insn → ℕ → Registers → List (ℕ × Registers)
both_ways n i target x = arm (n + 1) (branched false i x) ++ arm target (branched true i x)

-- The positions to which an instruction goes that doesn't throw. What a move of a result takes is told by `Results` of
-- `Flows`.
abbrev pub edges : Program → Facts → ℕ → Insn → Registers → List (ℕ × Registers)
edges p t n (insn.Goto target) x = (target, x) ∷ []
edges p t n (insn.If test a b target) x = both_ways n (insn.If test a b target) target x
edges p t n (insn.IfZero test a target) x = both_ways n (insn.IfZero test a target) target x
edges p t n (insn.PackedSwitch on first targets) x = arm (n + 1) (unswitched (insn.PackedSwitch on first targets) x) ++ cases_from 0 (insn.PackedSwitch on first targets) targets x
edges p t n (insn.SparseSwitch on keys targets) x = arm (n + 1) (unswitched (insn.SparseSwitch on keys targets) x) ++ cases_from 0 (insn.SparseSwitch on keys targets) targets x
edges p t n (insn.MoveResult slot to) x = []
edges p t n i x = arm (n + 1) (after p i (given p t i) x)
