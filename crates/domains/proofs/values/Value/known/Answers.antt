use Rattle.domains.specs.ValueLaws.{known_then, known_else}
use Rattle.domains.proofs.values.Value.known.Goals as goal

pub returns-then-is_empty : goal.returns-then-is_empty
returns-then-is_empty c = rw (← c.self.view_is) (known_then _ c.self.invariant _ c.if-is_empty.ensures c.known.ensures)

pub returns-else-is_empty : goal.returns-else-is_empty
returns-else-is_empty c = rw (← c.self.view_is) (known_else _ c.self.invariant c.if-is_empty.ensures)
