use Rattle.std.proofs.Common.{◌≡◌, ◌∙◌, ◌+◌, ◌<◌, ◌∷◌, ℕ, length, take, drop, ap, sym, subst, refl, arith}
use Rattle.std.specs.Prelude.{slice_get}
use Rattle.std.proofs.lemmas.Result.{IfOk-weaker}
use Rattle.dalvik_defs.specs.Stack.{runs}
use Rattle.dalvik_lookups.specs.Facing.{run_face}
use Rattle.dalvik_state.specs.Runs.{bodies_in, classes_in, script_in, world_in, IsLeft}
use Rattle.dalvik_state.specs.States.{class_text, stack_of, AreClasses}
use Rattle.dalvik_state.specs.Views.{names_in}
use Rattle.dalvik_state.specs.Worlds.{spots_of}
use Rattle.dalvik_state.specs.declared.state.Waiting.TheVariants as waiting
use Rattle.dalvik_state.proofs.Running.{paced_below, running_paced, running_stack, sound_below}
use Rattle.dalvik_steps.specs.Turns.{left_in, LeftAt}
use Rattle.dalvik_steps.proofs.Stacked.{below_left, found_is, looks_is, nothing_left, wait_left}
use Rattle.dalvik_steps.proofs.starting.goes_on.Goals as goal

pub returns-in-Some-default-None-clause-class : goal.returns-in-Some-default-None-clause-class
returns-in-Some-default-None-clause-class c = λ steps script class above next r run on there.
    let l = c.args.tables.now.lookups in
    let old = c.args.state.now in
    let place = c.args.place in
    let from = next + c.args.more in
    let own = c.in-Some-default-None.class in
    let look = looks_is old.statuses.items c.args.more (slice_get old.stack.items place) c.left_at.result class above next c.left_at.ensures there in
    let found = found_is old.statuses.items class above.items from c.left_at.result own c.in-Some-default-None.field-0-1 look c.in-Some-default-None.is in
    let are : AreClasses l (class ∷ above.items) = run.stack place (waiting.Initialiser class above next) there in
    let low : own < length l.program.now.classes = subst (λ (k : ℕ). k < length l.program.now.classes) (sym found.same) (are.at 0 class refl) in
    let left = subst (LeftAt above.items (left_in old.statuses.items (drop from above.items))) c.in-Some-default-None.field-0-1-is found.left in
    IfOk-weaker c.turns.result _ _ (λ x h. nothing_left l r steps script old run on c.turns.new.state class from above (stack_of (names_in l) script (take place old.stack.items)) are left
    (subst (λ (k : ℕ). IsLeft l steps script c.turns.new.state (runs (bodies_in l) (world_in l old) (classes_in l old) (class_text l.program.now k) ((run_face l).initialiser (class_text l.program.now k)) (stack_of (names_in l) script (take place old.stack.items)) (script_in script old))) found.same h)) (c.turns.ensures.ok steps script r run on low)

pub returns-in-Some-default-Some-clause-class : goal.returns-in-Some-default-Some-clause-class
returns-in-Some-default-Some-clause-class c = λ steps script class above next r run on there.
    let l = c.args.tables.now.lookups in
    let old = c.args.state.now in
    let place = c.args.place in
    let from = next + c.args.more in
    let at = c.in-Some-default-Some.next in
    let look = looks_is old.statuses.items c.args.more (slice_get old.stack.items place) c.left_at.result class above next c.left_at.ensures there in
    let found = found_is old.statuses.items class above.items from c.left_at.result c.in-Some-default-Some.field-0-0 c.in-Some-default-Some.field-0-1 look c.in-Some-default-Some.is in
    let are : AreClasses l (class ∷ above.items) = run.stack place (waiting.Initialiser class above next) there in
    let left = subst (LeftAt above.items (left_in old.statuses.items (drop from above.items))) c.in-Some-default-Some.field-0-1-is found.left in
    let size = length (spots_of old.world) in
    wait_left l r steps script old run on _ (take place old.stack.items) class at from above (record { world = refl; statuses = refl; next = refl; ended = refl }) (sound_below l size place old.stack.items (running_stack l steps old run)) (paced_below _ place old.stack.items (running_paced l steps old run)) are
    (c.wait_on.ensures (waiting.Initialiser class above next) there) left.0 left.1

pub returns-in-None-clause-other : goal.returns-in-None-clause-other
returns-in-None-clause-other c = λ steps script r run on low other.
    let l = c.args.tables.now.lookups in
    let old = c.args.state.now in
    let k : c.saturating_add.result ≡ c.args.place + 1 = omega (arith, low) in
    below_left l r steps script old run on _ (c.args.place + 1) (record { world = refl; statuses = refl; next = refl; ended = refl }) (c.truncate.ensures.items ∙ ap (λ (n : ℕ). take n old.stack.items) k)
