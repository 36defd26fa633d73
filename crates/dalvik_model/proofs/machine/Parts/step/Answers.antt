use Rattle.std.proofs.Common.{sym, ◌∙◌, refl}
use Rattle.dalvik_state.specs.Runs.{setting_in}
use Rattle.dalvik_state.specs.declared.state.Waiting.TheVariants.{Ending, Initialiser, Method, Outside}
use Rattle.dalvik_steps.proofs.Undone.{on_err}
use Rattle.dalvik_model.proofs.Standing.{class_low, ending_top, frame_top, initialiser_top, is_run, method_top, next_of, outside_top, stepped_end, stepped_on, stepped_over, unstepped, unstepped_end}
use Rattle.dalvik_model.proofs.machine.Parts.step.Goals as goal

pub returns-in-Nothing-clause-ok : goal.returns-in-Nothing-clause-ok
returns-in-Nothing-clause-ok c = λ s steps from early run makes. stepped_over s steps c.args.self.now from run c.end.new.self (sym c.top_of.ensures ∙ c.in-Nothing.is) c.end.ensures

pub returns-in-Method-clause-ok : goal.returns-in-Method-clause-ok
returns-in-Method-clause-ok c = λ s steps from early run makes.
    let p = c.args.self.now in
    let t = method_top p.state (sym c.top_of.ensures ∙ c.in-Method.is) in
    let f = t.frame in
    stepped_on s steps p from run (Method f) t.stands.on t.stands.there c.happens.new.memo c.happens.new.state c.happens.result
    (c.happens.ensures.ok s.outside s.floats s.script steps f (is_run s steps p from run t.stands.on early) run.tables.floats (frame_top s steps p from run f t.stands) (next_of s steps p from run f t.stands.on t.stands.there makes))

pub returns-in-Method-clause-err : goal.returns-in-Method-clause-err
returns-in-Method-clause-err c = λ s steps from early run makes.
    let p = c.args.self.now in
    let t = method_top p.state (sym c.top_of.ensures ∙ c.in-Method.is) in
    let f = t.frame in
    unstepped s steps p from run c.happens.new.memo c.happens.new.state c.happens.result
    (c.happens.ensures.err s.floats steps f (is_run s steps p from run t.stands.on early) run.tables.floats (frame_top s steps p from run f t.stands) (next_of s steps p from run f t.stands.on t.stands.there makes))

pub returns-in-Initialiser-clause-ok : goal.returns-in-Initialiser-clause-ok
returns-in-Initialiser-clause-ok c = λ s steps from early run makes.
    let p = c.args.self.now in
    let t = initialiser_top p.state (sym c.top_of.ensures ∙ c.in-Initialiser.is) in
    stepped_on s steps p from run (Initialiser t.class t.above t.next) t.stands.on t.stands.there c.initialises.new.memo c.initialises.new.state c.initialises.result
    (c.initialises.ensures.ok steps s.script (setting_in p.tables.lookups s.outside s.floats) t.class t.above t.next refl (is_run s steps p from run t.stands.on early) t.stands.there)

pub returns-in-Initialiser-clause-err : goal.returns-in-Initialiser-clause-err
returns-in-Initialiser-clause-err c = λ s steps from early run makes.
    let p = c.args.self.now in
    let t = initialiser_top p.state (sym c.top_of.ensures ∙ c.in-Initialiser.is) in
    unstepped s steps p from run c.initialises.new.memo c.initialises.new.state c.initialises.result
    (c.initialises.ensures.err steps t.class t.above t.next (is_run s steps p from run t.stands.on early) t.stands.there)

pub returns-in_ok-ends-in-Ending-clause-ok : goal.returns-in_ok-ends-in-Ending-clause-ok
returns-in_ok-ends-in-Ending-clause-ok c = λ s steps from early run makes.
    let p = c.args.self.now in
    let class = c.in-Ending.class in
    let t = ending_top p.state class (sym c.top_of.ensures ∙ c.in-Ending.is) in
    stepped_end s steps p from run class c.ends.new.state t
    (c.in_ok-ends-in-Ending.ensures.ok steps s.script run.tables.right (run.running t.on) t.on (class_low s steps p from run class t))

pub returns-in_err-ends-in-Ending-clause-err : goal.returns-in_err-ends-in-Ending-clause-err
returns-in_err-ends-in-Ending-clause-err c = λ s steps from early run makes.
    let p = c.args.self.now in
    let class = c.in-Ending.class in
    let t = ending_top p.state class (sym c.top_of.ensures ∙ c.in-Ending.is) in
    on_err _ _ (unstepped_end s steps p from run c.ends.new.state
    (c.in_err-ends-in-Ending.ensures.err steps run.tables.right (run.running t.on) t.on (class_low s steps p from run class t)))

pub returns-in-Outside-clause-ok : goal.returns-in-Outside-clause-ok
returns-in-Outside-clause-ok c = λ s steps from early run makes.
    let p = c.args.self.now in
    let owes = c.in-Outside.owes in
    let pending = c.in-Outside.pending in
    let t = outside_top p.state owes pending (sym c.top_of.ensures ∙ c.in-Outside.is) in
    stepped_on s steps p from run (Outside owes pending) t.on t.there c.moves.new.memo c.moves.new.state c.moves.result
    (c.moves.ensures.ok s.outside s.floats s.script steps (is_run s steps p from run t.on early) run.tables.reach run.tables.plays t.there)

pub returns-in-Outside-clause-err : goal.returns-in-Outside-clause-err
returns-in-Outside-clause-err c = λ s steps from early run makes.
    let p = c.args.self.now in
    let owes = c.in-Outside.owes in
    let pending = c.in-Outside.pending in
    let t = outside_top p.state owes pending (sym c.top_of.ensures ∙ c.in-Outside.is) in
    unstepped s steps p from run c.moves.new.memo c.moves.new.state c.moves.result
    (c.moves.ensures.err s.outside s.script steps (is_run s steps p from run t.on early) run.tables.reach run.tables.plays t.there)
