use Rattle.std.proofs.Common.{◌≡◌, ◌∙◌, ◌<◌, length, arith, ap, sym, subst}
use Rattle.std.specs.Prelude.{◌^◌, IfOk, None, Option, Some}
use Rattle.std.specs.Option.{option_copied, option_map}
use Rattle.dalvik_defs.specs.Moves.{framework_turn}
use Rattle.dalvik_defs.specs.declared.events.Event.{Event}
use Rattle.dalvik_defs.specs.declared.script.Move.{Move}
use Rattle.dalvik_lookups.specs.Playing.{IsPlay}
use Rattle.dalvik_lookups.specs.Views.{type_text}
use Rattle.dalvik_state.specs.Runs.{below_in, bodies_in, classes_in, script_in, setting_in, world_in, IsNext}
use Rattle.dalvik_state.specs.States.{move_of}
use Rattle.dalvik_moves.specs.Moving.{play_of}
use Rattle.dalvik_moves.proofs.Played.{waiting_moves, waits_at, waits_none}
use Rattle.dalvik_moves.proofs.framework.moves.Goals as goal

pub returns-in-Some-clause-ok : goal.returns-in-Some-clause-ok
returns-in-Some-clause-ok c = λ o floats script steps run reach each top.
    let l = c.args.tables.now.lookups in
    let old = c.args.state.now in
    let plays = c.args.tables.now.plays.items in
    let play = c.in-Some.play.now in
    let there : play_of plays c.args.pending ≡ Some play = sym c.waiting_play.ensures ∙ ap option_copied c.in-Some.is in
    let few : length plays < 2 ^ 64 = omega arith in
    let t = waits_at (IsPlay l.program.now l.types l.texts) script plays c.args.pending play each there in
    let h = waiting_moves l o c.args.memo.now script plays steps old c.args.owes few run reach each c.args.pending t.place t.first top t.is_at t.there in
    subst (λ (m : Option Move). IfOk c.plays.result (λ (e : Option Event). IsNext l steps script c.plays.new.memo c.plays.new.state e (framework_turn (setting_in l o floats) (bodies_in l) (world_in l old) (classes_in l old) (option_map (type_text l.types) c.args.owes) m (below_in l script old) (script_in script old))))
    (sym (ap (move_of script) t.is_at ∙ t.there))
    (c.plays.ensures.ok o floats script steps t.first (script_in script old) h t.is)

pub returns-in-Some-clause-err : goal.returns-in-Some-clause-err
returns-in-Some-clause-err c = λ o script steps run reach each top.
    let l = c.args.tables.now.lookups in
    let old = c.args.state.now in
    let plays = c.args.tables.now.plays.items in
    let play = c.in-Some.play.now in
    let there : play_of plays c.args.pending ≡ Some play = sym c.waiting_play.ensures ∙ ap option_copied c.in-Some.is in
    let few : length plays < 2 ^ 64 = omega arith in
    let t = waits_at (IsPlay l.program.now l.types l.texts) script plays c.args.pending play each there in
    c.plays.ensures.err o script steps t.first (script_in script old) (waiting_moves l o c.args.memo.now script plays steps old c.args.owes few run reach each c.args.pending t.place t.first top t.is_at t.there) t.is

pub returns-in-None-clause-ok : goal.returns-in-None-clause-ok
returns-in-None-clause-ok c = λ o floats script steps run reach each top.
    let l = c.args.tables.now.lookups in
    let old = c.args.state.now in
    let plays = c.args.tables.now.plays.items in
    let none : play_of plays c.args.pending ≡ None = sym c.waiting_play.ensures ∙ ap option_copied c.in-None.is in
    let few : length plays < 2 ^ 64 = omega arith in
    subst (λ (m : Option Move). IfOk c.takes_next.result (λ (e : Option Event). IsNext l steps script c.takes_next.new.memo c.takes_next.new.state e (framework_turn (setting_in l o floats) (bodies_in l) (world_in l old) (classes_in l old) (option_map (type_text l.types) c.args.owes) m (below_in l script old) (script_in script old))))
    (sym (waits_none (IsPlay l.program.now l.types l.texts) script plays c.args.pending each none))
    (c.takes_next.ensures.ok o floats script steps run reach each few top)

pub returns-in-None-clause-err : goal.returns-in-None-clause-err
returns-in-None-clause-err c = λ o script steps run reach each top.
    let few : length c.args.tables.now.plays.items < 2 ^ 64 = omega arith in
    c.takes_next.ensures.err o script steps run reach each few top
