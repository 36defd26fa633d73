use Rattle.std.proofs.Common.{◌≡◌, ◌+◌, map, drop}
use Rattle.text_defs.specs.Plays.{no_play, play_from}
use Rattle.script_text.specs.Named.{Knows}
use Rattle.script_text.proofs.script.read_lines.Given as goal

abbrev pub invariant-loop-place : goal.invariant-loop-place
invariant-loop-place l = record {
  knows : Knows l.names l.play.framework.rows;
  play : play_from (l.place + 1) l.play (map (λ line. line.now) (drop l.place l.lines)) ≡ play_from 1 no_play (map (λ line. line.now) l.lines);
}
