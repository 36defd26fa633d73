use Rattle.std.proofs.Common.{◌≡◌, ◌<◌, drop, length, IfSome}
use Rattle.text_defs.specs.Values.{later, last_colon}
use Rattle.script_text.proofs.values.last_colon.Given as goal

abbrev pub invariant-loop-place : goal.invariant-loop-place
invariant-loop-place l = record {
  place : later (last_colon l.place (drop l.place l.text)) l.found ≡ last_colon 0 l.text;
  below : IfSome l.found (λ place. place < length l.text);
}
