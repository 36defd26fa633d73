use Rattle.std.proofs.Common.{◌∙◌, ◌∷◌, [], sym, subst, arith}
use Rattle.std.specs.Prelude.{Contains}
use Rattle.hierarchy.specs.Shapes.{IsOf}
use Rattle.call_targets.specs.Walking.{IsClean, IsWalked}
use Rattle.call_targets.proofs.Climbing.{both_wait, climb_from, clean_again, both_from, waits_both}
use Rattle.call_targets.proofs.above.climb.Goals as goal

walked : (c : goal.After-clear) → IsOf c.args.at.now.program.now c.args.at.now.hierarchy.now → IsClean c.args.marks.now → IsWalked c.args.at.now.program.now c.walk_up.new.marks c.in_ok-above.above.items
walked c is clean = c.in_ok-above.ensures.walked is (both_wait c.args.marks.now c.mark.new.self c.mark-2.new.self clean c.in_ok-mark.ensures.keeps c.in_ok-mark-2.ensures.keeps)

pub returns-clause-clean : goal.returns-clause-clean
returns-clause-clean c = λ is clean.
    clean_again c.args.at.now.program.now c.walk_up.new.marks c.clear.new.self c.in_ok-above.above.items (walked c is clean) c.in_ok-above.ensures.idle c.clear.ensures.idle
    (λ n h. let f = c.clear.ensures.unmarked n h in (f.0, λ i. f.1 (subst (λ l. Contains l n) (sym c.as_slice.ensures.value) i)))

pub returns-clause-above : goal.returns-clause-above
returns-clause-above c = λ is long clean.
    climb_from c.args.at.now.program.now c.mark-2.new.self c.walk_up.new.marks c.args.object c.args.kind c.in_ok-above.above.items (c.in_ok-mark-2.ensures.keeps.reached c.args.object c.in_ok-mark.ensures.marked) c.in_ok-mark-2.ensures.marked c.in_ok-above.ensures.met
    (omega (arith, long, c.in_ok-above.ensures.size, c.in_ok-mark-2.ensures.swells.0, c.in_ok-mark.ensures.swells.0, c.walk_up.new.marks.marks.ok)) (walked c is clean)

pub returns-clause-from : goal.returns-clause-from
returns-clause-from c = λ is long clean.
    c.in_ok-above.ensures.from is (c.in_ok-mark-2.ensures.swells.0 ∙ c.in_ok-mark.ensures.swells.0 ∙ long) c.args.object c.args.kind
    (both_from c.args.at.now.program.now c.args.marks.now c.mark.new.self c.mark-2.new.self c.args.object c.args.kind (c.in_ok-mark-2.ensures.swells.0 ∙ c.in_ok-mark.ensures.swells.0 ∙ long) clean (waits_both c.args.marks.now c.mark.new.self c.mark-2.new.self c.args.object (c.args.kind ∷ []) c.in_ok-mark.ensures.from c.in_ok-mark-2.ensures.from c.in_ok-mark-2.ensures.swells.0))
