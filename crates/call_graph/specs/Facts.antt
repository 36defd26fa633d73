-- How the facts grow.
use Rattle.std.specs.Prelude.{◌≡◌, ℕ, ◌+◌, ◌≤◌, length, vec_len}
use Rattle.call_graph.specs.declared.facts.Facts.{Facts}
use Rattle.call_graph.specs.declared.live_set.LiveSet.{LiveSet}
use Rattle.program_model.specs.declared.program.Program.{Program}
use Rattle.call_graph.specs.Marks.{left}

-- how many facts aren't known yet or wait
abbrev pub weight : Facts → ℕ
weight f = left f.classes + left f.made + left f.fields + left f.methods + left f.called

-- the tables stay as long, and no more facts are left
abbrev pub Grows : Facts → Facts → Type 0
Grows f g = (weight g ≤ weight f) × (vec_len g.classes.marks ≡ vec_len f.classes.marks) × (vec_len g.made.marks ≡ vec_len f.made.marks)
    × (vec_len g.fields.marks ≡ vec_len f.fields.marks) × (vec_len g.methods.marks ≡ vec_len f.methods.marks) × (vec_len g.called.marks ≡ vec_len f.called.marks)

-- a set has a mark for each type, type, field and method number
pub record Fits (p : Program) (s : LiveSet) : Type 0 where
  pub classes : vec_len s.classes ≡ length p.types
  pub made : vec_len s.made ≡ length p.types
  pub fields : vec_len s.fields ≡ length p.fields
  pub methods : vec_len s.methods ≡ length p.methods

-- the tables are as long as those of the program
abbrev pub Sized : Program → Facts → Type 0
Sized p f = (vec_len f.classes.marks ≡ length p.types) × (vec_len f.made.marks ≡ length p.types) × (vec_len f.fields.marks ≡ length p.fields) × (vec_len f.methods.marks ≡ length p.methods) × (vec_len f.called.marks ≡ length p.methods)
