-- Lists that only grow.
use Rattle.std.specs.Prelude.{List, Contains}
use Rattle.call_graph.specs.declared.facts.Fact.{Fact}

-- each fact of the first list is one of the second
pub record Stays (xs ys : List Fact) : Type 0 where
  pub has : (x : Fact) → Contains xs x → Contains ys x
