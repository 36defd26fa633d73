use Rattle.std.proofs.Common.{◌≡◌, ◌∙◌, List, [], ◌+◌, ap, sym, subst}
use Rattle.std.specs.Prelude.{drop, slice_get, IfOk, None, Option, Some}
use Rattle.std.specs.Option.{option_copied, option_map}
use Rattle.dalvik_defs.specs.Moves.{framework_turn}
use Rattle.dalvik_defs.specs.declared.events.Event.{Event}
use Rattle.dalvik_defs.specs.declared.script.Move.{Move}
use Rattle.dalvik_lookups.specs.Playing.{IsPlay}
use Rattle.dalvik_lookups.specs.Views.{type_text}
use Rattle.dalvik_state.specs.Runs.{below_in, bodies_in, classes_in, setting_in, world_in, IsNext}
use Rattle.dalvik_state.specs.declared.state.State.{State}
use Rattle.dalvik_moves.proofs.Moved.{over}
use Rattle.dalvik_moves.proofs.Played.{left_from, left_past, next_begins, nothing_there, stands_for}
use Rattle.dalvik_moves.proofs.framework.takes_next.Goals as goal

pub returns-in-Some-clause-ok : goal.returns-in-Some-clause-ok
returns-in-Some-clause-ok c = λ o floats script steps run reach each few top.
    let l = c.args.tables.now.lookups in
    let old = c.args.state.now in
    let plays = c.args.tables.now.plays.items in
    let play = c.in-Some.play.now in
    let there : slice_get plays old.next ≡ Some play = sym c.play_at.ensures ∙ ap option_copied c.in-Some.is in
    let t = stands_for (IsPlay l.program.now l.types l.texts) script plays old.next play each there in
    let h = next_begins l o c.args.memo.now script plays steps old c.args.owes few run reach each c.args.pending t.first top t.there in
    subst (λ (ms : List Move). IfOk c.takes.result (λ (e : Option Event). IsNext l steps script c.takes.new.memo c.takes.new.state e (framework_turn (setting_in l o floats) (bodies_in l) (world_in l old) (classes_in l old) (option_map (type_text l.types) c.args.owes) None (below_in l script old) ms))) (sym (left_from script old.next t.first t.there))
    (c.takes.ensures.ok o floats script steps t.first (drop (old.next + 1) script) h t.is)

pub returns-in-Some-clause-err : goal.returns-in-Some-clause-err
returns-in-Some-clause-err c = λ o script steps run reach each few top.
    let l = c.args.tables.now.lookups in
    let old = c.args.state.now in
    let plays = c.args.tables.now.plays.items in
    let play = c.in-Some.play.now in
    let there : slice_get plays old.next ≡ Some play = sym c.play_at.ensures ∙ ap option_copied c.in-Some.is in
    let t = stands_for (IsPlay l.program.now l.types l.texts) script plays old.next play each there in
    c.takes.ensures.err o script steps t.first (drop (old.next + 1) script) (next_begins l o c.args.memo.now script plays steps old c.args.owes few run reach each c.args.pending t.first top t.there) t.is

pub returns-in-None-clause-ok : goal.returns-in-None-clause-ok
returns-in-None-clause-ok c = λ o floats script steps run reach each few top.
    let l = c.args.tables.now.lookups in
    let old = c.args.state.now in
    let plays = c.args.tables.now.plays.items in
    let none : slice_get plays old.next ≡ None = sym c.play_at.ensures ∙ ap option_copied c.in-None.is in
    let left : drop old.next script ≡ [] = left_past script old.next (nothing_there (IsPlay l.program.now l.types l.texts) script plays old.next each none) in
    subst (λ (ms : List Move). IsNext l steps script c.args.memo.now c.end.new.self None (framework_turn (setting_in l o floats) (bodies_in l) (world_in l old) (classes_in l old) (option_map (type_text l.types) c.args.owes) None (below_in l script old) ms)) (sym left)
    (subst (λ (s : State). IsNext l steps script c.args.memo.now s None (framework_turn (setting_in l o floats) (bodies_in l) (world_in l old) (classes_in l old) (option_map (type_text l.types) c.args.owes) None (below_in l script old) [])) (sym c.end.ensures)
    (over l steps script c.args.memo.now old run.kept))
