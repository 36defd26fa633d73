-- The places of the classes that a class specification matches.
use Rattle.std.specs.Prelude.{◌≡◌, ◌⊎◌, ◌<◌, ℕ, true, List, Some, slice_get, Contains}
use Rattle.program_model.specs.declared.program.Class.{Class}
use Rattle.program_model.specs.declared.program.Program.{Program}
use Rattle.dalvik_defs.specs.Naming.{named, named_class}
use Rattle.rule_text.specs.Rules.{ClassRule}
use Rattle.rule_defs.specs.Kept.{matches_class}

-- a class stands at the place, and the specification matches it
pub record IsMatchedAt (p : Program) (k : ClassRule) (place : ℕ) : Type 0 where
  pub class : Class
  pub is : slice_get p.classes place ≡ Some class
  pub fits : matches_class (named p) k (named_class p class) ≡ true

-- just the matched classes among those before a place
pub record MatchedBefore (p : Program) (k : ClassRule) (past : ℕ) (places : List ℕ) : Type 0 where
  pub sound : (n : ℕ) → Contains places n → IsMatchedAt p k n
  pub complete : (n : ℕ) → n < past → IsMatchedAt p k n → Contains places n

-- just the matched classes
pub record AreMatched (p : Program) (k : ClassRule) (places : List ℕ) : Type 0 where
  pub sound : (n : ℕ) → Contains places n → IsMatchedAt p k n
  pub complete : (n : ℕ) → IsMatchedAt p k n → Contains places n

-- the place was added, if its class is matched
pub record AddsPlace (p : Program) (k : ClassRule) (place : ℕ) (old new : List ℕ) : Type 0 where
  pub kept : (n : ℕ) → Contains old n → Contains new n
  pub sound : (n : ℕ) → Contains new n → Contains old n ⊎ IsMatchedAt p k n
  pub complete : IsMatchedAt p k place → Contains new place
