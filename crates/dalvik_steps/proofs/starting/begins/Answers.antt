use Rattle.std.proofs.Common.{◌≡◌, ◌∙◌, ◌<◌, ◌≤◌, ◌++◌, ◌∷◌, [], List, length, drop, ap, refl, sym, subst, arith, rules}
use Rattle.dalvik_defs.specs.Stack.{runs}
use Rattle.dalvik_defs.specs.declared.state.Waiting.{Waiting as NamedWaiting}
use Rattle.dalvik_lookups.specs.Facing.{run_face}
use Rattle.dalvik_state.specs.Runs.{bodies_in, classes_in, script_in, world_in, IsLeft}
use Rattle.dalvik_state.specs.States.{class_text, stack_of}
use Rattle.dalvik_state.specs.Views.{names_in}
use Rattle.dalvik_state.specs.declared.state.Waiting.TheVariants as waiting
use Rattle.dalvik_state.proofs.Running.{running_paced, running_stack}
use Rattle.std.proofs.lemmas.Result.{IfOk-weaker}
use Rattle.dalvik_steps.specs.Turns.{left_in}
use Rattle.dalvik_steps.proofs.Begun.{take_all}
use Rattle.dalvik_steps.proofs.Stacked.{nothing_left, wait_left}
use Rattle.dalvik_steps.proofs.Started.{classes_with}
use Rattle.dalvik_steps.proofs.Turning.{nothing_more}
use Rattle.dalvik_steps.proofs.starting.begins.Goals as goal

pub returns-in_ok-push-clause-ok : goal.returns-in_ok-push-clause-ok
returns-in_ok-push-clause-ok c = λ steps script r run on low are.
    let l = c.args.tables.now.lookups in
    let old = c.args.state.now in
    let above = c.args.above in
    let next = c.left_of-next.result in
    let inside : next < length above.items = omega arith in
    let v = c.as_slice.ensures.value in
    let left = ap (drop next) (sym v) ∙ c.left_of-next.ensures ∙ ap (left_in old.statuses.items) v in
    let stack : c.push.new.self.items ≡ old.stack.items ++ waiting.Initialiser c.args.class above next ∷ [] = search rules in
    wait_left l r steps script old run on _ old.stack.items c.args.class next 0 above (record { world = refl; statuses = refl; next = refl; ended = refl }) (running_stack l steps old run) (running_paced l steps old run) (classes_with l c.args.class above.items low are) stack left inside

pub returns-else-next-len-clause-ok : goal.returns-else-next-len-clause-ok
returns-else-next-len-clause-ok c = λ steps script r run on low are.
    let l = c.args.tables.now.lookups in
    let old = c.args.state.now in
    let above = c.args.above in
    let next = c.left_of-next.result in
    let v = c.as_slice.ensures.value in
    let left = ap (drop next) (sym v) ∙ c.left_of-next.ensures ∙ ap (left_in old.statuses.items) v in
    let none : length above.items ≤ next = omega arith in
    let count : c.len-count.result ≡ length old.stack.items = omega arith in
    let all = ap (stack_of (names_in l) script) (take_all old.stack.items c.len-count.result count) in
    IfOk-weaker c.turns.result _ _ (λ x h. nothing_left l r steps script old run on _ c.args.class 0 above (stack_of (names_in l) script old.stack.items) (classes_with l c.args.class above.items low are) (sym left ∙ nothing_more next above.items none)
    (subst (λ (ws : List NamedWaiting). IsLeft l steps script c.turns.new.state (runs (bodies_in l) (world_in l old) (classes_in l old) (class_text l.program.now c.args.class) ((run_face l).initialiser (class_text l.program.now c.args.class)) ws (script_in script old))) all h)) (c.turns.ensures.ok steps script r run on low)
