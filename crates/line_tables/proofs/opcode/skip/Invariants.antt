use Rattle.std.proofs.Common.{◌≡◌, ◌-◌}
use Rattle.line_tables.specs.Item.{skip_at}
use Rattle.line_tables.proofs.opcode.skip.Given as goal

abbrev pub invariant-loop : goal.invariant-loop
invariant-loop l = skip_at l.bytes (l.count - l.counter) l.next ≡ skip_at l.bytes l.count l.fn.at
