-- Whether advisers are asked about a program, and what they said.
use Rattle.std.specs.Prelude.{◌≡◌, ◌⊎◌, ℕ, Bool, true, false, List, Option, MatchOption}
use Rattle.program_model.specs.declared.pass.Outside.{Outside}
use Rattle.program_model.specs.declared.program.Program.{Program}
use Rattle.call_graph.specs.declared.live_set.LiveSet.{LiveSet}
use Rattle.call_graph.specs.Least.{IsLeastSet}
use Rattle.reach.specs.Marked.{IsMarked}
use Rattle.pipeline.specs.declared.asks.Advice.{Advice}
use Rattle.pipeline.specs.Asks.{Verdict, asked, no_verdict, AreAnswered}
use Rattle.pipeline.specs.Graph.{HasGraphFault}

abbrev pub verdict : Advice → Verdict
verdict a = record { admitted = a.admitted.methods.items; spared = a.spared }

-- marks that are closed under what the outside keeps, and the least ones
pub record IsLeastMarked (o : Outside) (p : Program) (s : LiveSet) : Type 0 where
  pub marked : IsMarked p o s
  pub least : IsLeastSet p o s

-- such marks, or none of a program whose class graph has a fault
abbrev pub AreMarks : Outside → Program → Option LiveSet → Type 0
AreMarks o p found = MatchOption found (HasGraphFault p) (IsLeastMarked o p)

-- The least marks that are closed under what the outside keeps say which methods the advisers are asked about.
pub record IsAsked (o : Outside) (p : Program) (advisers : ℕ) (before after : List Bool) (v : Verdict) : Type 0 where
  pub allowed : o.optimise ≡ true
  pub marks : LiveSet
  pub marked : IsMarked p o marks
  pub least : IsLeastSet p o marks
  pub answered : AreAnswered advisers (asked marks p) before after (no_verdict p) v

-- The rules forbid all rewriting, or the class graph has a fault: no adviser is asked, and no method admitted.
pub record IsUnasked (o : Outside) (p : Program) (before after : List Bool) (v : Verdict) : Type 0 where
  pub barred : (o.optimise ≡ false) ⊎ HasGraphFault p
  pub none : after ≡ before
  pub nothing : v ≡ no_verdict p

abbrev pub IsAdvised : Outside → Program → ℕ → List Bool → List Bool → Verdict → Type 0
IsAdvised o p advisers before after v = IsAsked o p advisers before after v ⊎ IsUnasked o p before after v
