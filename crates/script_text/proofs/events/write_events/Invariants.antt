use Rattle.std.proofs.Common.{◌≡◌, take}
use Rattle.text_defs.specs.EventLines.{event_lines}
use Rattle.script_text.proofs.events.write_events.Given as goal

abbrev pub invariant-loop-event : goal.invariant-loop-event
invariant-loop-event l = l.out.items ≡ event_lines (take l.event-index l.events)
