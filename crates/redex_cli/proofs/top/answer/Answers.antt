use Rattle.std.proofs.Common.{List, ℕ, map, string_bytes, subst}
use Rattle.redex_cli.specs.Said.{SaysResult}
use Rattle.redex_cli.proofs.RunLemmas.{result_ends, status_ends}
use Rattle.redex_cli.proofs.top.answer.Goals as goal

pub returns-in-Ok : goal.returns-in-Ok
returns-in-Ok g c =
    result_ends (map string_bytes c.args.words.now) _ _ _ _ _ _ _ _ _ _ _ _ _ c.in-Ok.text.items _ c.in-Ok.ensures.given
    (subst (λ (text : List ℕ). SaysResult text (g.N.Notes.tells c.args.notes.now) (g.N.Notes.faults c.args.notes.now) (g.N.Notes.faults c.say_result.new.notes) (g.N.Notes.said c.args.notes.now) (g.N.Notes.said c.say_result.new.notes) c.say_result.result) c.as_slice.ensures.value c.say_result.ensures)

pub returns-in-Err : goal.returns-in-Err
returns-in-Err g c =
    status_ends (map string_bytes c.args.words.now) _ _ _ _ _ _ _ _ _ _ _ _ _ c.in-Err.status _ c.in-Err.ensures.refused c.say_status.ensures
