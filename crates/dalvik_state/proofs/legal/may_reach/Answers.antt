use Rattle.std.proofs.Common.{ap, sym, ◌∙◌}
use Rattle.std.specs.Prelude.{◌||◌}
use Rattle.name_bridge.proofs.Tables.{sound}
use Rattle.dalvik_defs.specs.Legal.{answers_kept, calls_back}
use Rattle.dalvik_defs.specs.Outer.{methods_in, outer_of}
use Rattle.dalvik_lookups.specs.Facing.{run_face}
use Rattle.dalvik_lookups.specs.Views.{type_text}
use Rattle.dalvik_state.proofs.Judging.{method_low, method_there}
use Rattle.dalvik_state.proofs.Marked.{method_marked}
use Rattle.dalvik_state.proofs.Results.{if_ok}
use Rattle.dalvik_state.proofs.legal.may_reach.Goals as goal

pub returns-then-keeps_method-clause-is : goal.returns-then-keeps_method-clause-is
returns-then-keeps_method-clause-is c = λ o f r reach k i at e.
    let l = c.args.tables.now.lookups in
    let m = c.args.method.now in
    let t = type_text l.types c.args.receiver in
    let h = method_there l r c.args.at f m e at in
    let kept = c.if-keeps_method.ensures l.program.now o reach.members ∙ method_marked l.program.now (sound l.program.now r.well) o.methods m.name (method_low l r c.args.at m f h) ∙ ap (methods_in l.program.now o.methods) (sym h.key) in
    ap (λ b. (b || answers_kept (run_face l) (outer_of l.program.now o) t f) || calls_back (run_face l) (outer_of l.program.now o) t f) kept

pub returns-in_err-answers-clause-kept : goal.returns-in_err-answers-clause-kept
returns-in_err-answers-clause-kept c = λ o r reach k i at. c.answers_kept.ensures.kept o r reach k i at

pub returns-then-answers-clause-kept : goal.returns-then-answers-clause-kept
returns-then-answers-clause-kept c = λ o r reach k i at. c.answers_kept.ensures.kept o r reach k i at

pub returns-then-answers-clause-is : goal.returns-then-answers-clause-is
returns-then-answers-clause-is c = λ o f r reach k i at e.
    let l = c.args.tables.now.lookups in
    let m = c.args.method.now in
    let t = type_text l.types c.args.receiver in
    let h = method_there l r c.args.at f m e at in
    let kept = c.if-keeps_method.ensures l.program.now o reach.members ∙ method_marked l.program.now (sound l.program.now r.well) o.methods m.name (method_low l r c.args.at m f h) ∙ ap (methods_in l.program.now o.methods) (sym h.key) in
    let answers = sym c.if-answers.true ∙ c.in_ok-answers.ensures.is o f r reach k i at e in
    λ j. (kept j || answers j) || calls_back (run_face l) (outer_of l.program.now o) t f

pub returns-clause-kept : goal.returns-clause-kept
returns-clause-kept c = λ o r reach k i at. c.calls_back.ensures.kept r (c.answers_kept.ensures.kept o r reach k i at) i at

pub returns-clause-is : goal.returns-clause-is
returns-clause-is c = λ o f r reach k i at e.
    let l = c.args.tables.now.lookups in
    let m = c.args.method.now in
    let t = type_text l.types c.args.receiver in
    let h = method_there l r c.args.at f m e at in
    let kept = c.if-keeps_method.ensures l.program.now o reach.members ∙ method_marked l.program.now (sound l.program.now r.well) o.methods m.name (method_low l r c.args.at m f h) ∙ ap (methods_in l.program.now o.methods) (sym h.key) in
    let answers = sym c.if-answers.false ∙ c.in_ok-answers.ensures.is o f r reach k i at e in
    if_ok c.calls_back.result _ _ (c.calls_back.ensures.is o f r reach (c.answers_kept.ensures.kept o r reach k i at) i at e)
    (λ b q. q ∙ (λ j. (kept j || answers j) || calls_back (run_face l) (outer_of l.program.now o) t f))
