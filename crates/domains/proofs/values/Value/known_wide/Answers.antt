use Rattle.domains.specs.ValueLaws.{known_wide_then, known_wide_else}
use Rattle.domains.proofs.values.Value.known_wide.Goals as goal

pub returns-then-is_empty : goal.returns-then-is_empty
returns-then-is_empty c = rw (← c.self.view_is) (known_wide_then _ c.self.invariant _ c.if-is_empty.ensures c.known_wide.ensures)

pub returns-else-is_empty : goal.returns-else-is_empty
returns-else-is_empty c = rw (← c.self.view_is) (known_wide_else _ c.self.invariant c.if-is_empty.ensures)
