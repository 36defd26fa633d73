use Rattle.std.proofs.Common.{List, subst}
use Rattle.std.specs.Option.{option_map}
use Rattle.std.specs.Prelude.{IfOk, Option}
use Rattle.dalvik_defs.specs.Stack.{gives}
use Rattle.dalvik_defs.specs.declared.events.Event.{Event}
use Rattle.dalvik_defs.specs.declared.script.Move.{Move}
use Rattle.dalvik_lookups.specs.Views.{type_text}
use Rattle.dalvik_state.specs.Drafts.{given_world}
use Rattle.dalvik_state.specs.Runs.{below_in, bodies_in, classes_in, IsEvent}
use Rattle.dalvik_state.specs.Views.{names_in, value_of}
use Rattle.dalvik_moves.proofs.answering.answers_legally.Goals as goal

pub returns-clause-ok : goal.returns-clause-ok
returns-clause-ok c = λ o memo script steps owes first rest h given fine.
    let l = c.args.tables.now.lookups in
    let n = names_in l in
    let old = c.args.state.now in
    subst (λ (ms : List Move). IfOk c.gives.result (λ (e : Option Event). IsEvent l steps script c.gives.new.state e (gives (bodies_in l) (type_text l.types c.args.kind) (given_world n old.world c.args.gifts) (classes_in l old) (option_map (value_of n) c.args.value) (below_in l script old) ms))) h.left
    (c.gives.ensures.ok steps script h.run.early h.run.right h.run.state h.run.on given fine)

pub returns-clause-err : goal.returns-clause-err
returns-clause-err c = λ o memo script steps owes first rest h. c.gives.ensures.err steps h.run.right h.run.state h.run.on
