use Rattle.dex_base.proofs.TextReading.{HasUnits}
use Rattle.dex_base.proofs.mutf8.read_text.Given as goal

abbrev pub invariant-loop : goal.invariant-loop
invariant-loop l = HasUnits l.bytes l.at l.units l.counter l.next l.rest l.text.items
