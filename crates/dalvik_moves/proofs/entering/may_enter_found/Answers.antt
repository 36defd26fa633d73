use Rattle.std.proofs.Common.{◌∙◌, ap, map, sym}
use Rattle.std.proofs.lemmas.Result.{IfOk-weaker}
use Rattle.name_bridge.proofs.Tables.{sound}
use Rattle.dalvik_defs.specs.Outer.{methods_in, outer_of}
use Rattle.dalvik_lookups.specs.Facing.{run_face}
use Rattle.dalvik_state.specs.Drafts.{given_world}
use Rattle.dalvik_state.specs.Views.{names_in, value_of, world_of}
use Rattle.dalvik_state.proofs.Judging.{method_low}
use Rattle.dalvik_state.proofs.Marked.{method_marked}
use Rattle.dalvik_moves.specs.Moving.{datums_of}
use Rattle.dalvik_moves.proofs.Admitted.{enters_kept, enters_on, enters_unfit, member, member_static}
use Rattle.dalvik_moves.proofs.entering.may_enter_found.Goals as goal

pub returns-in_err-fit-clause-kept : goal.returns-in_err-fit-clause-kept
returns-in_err-fit-clause-kept c = λ o f gs r reach k all m. c.values_fit.ensures.kept o c.args.found.0 f gs r k all m

pub returns-then-not-fit-clause-kept : goal.returns-then-not-fit-clause-kept
returns-then-not-fit-clause-kept c = λ o f gs r reach k all m. c.values_fit.ensures.kept o c.args.found.0 f gs r k all m

pub returns-then-not-fit-clause-is : goal.returns-then-not-fit-clause-is
returns-then-not-fit-clause-is c = λ o f gs r reach k all m.
    let l = c.args.tables.now.lookups in
    let n = names_in l in
    let w = c.args.state.now.world in
    let v = c.args.values.now in
    enters_unfit (run_face l) (outer_of l.program.now o) (world_of n w) (given_world n w v.gifts) f gs (map (value_of n) (datums_of v.taken.items))
    (sym c.if-not-fit.true ∙ c.in_ok-fit.ensures.is o c.args.found.0 f gs r k all m)

pub returns-then-has-clause-kept : goal.returns-then-has-clause-kept
returns-then-has-clause-kept c = λ o f gs r reach k all m. c.values_fit.ensures.kept o c.args.found.0 f gs r k all m

pub returns-then-has-clause-is : goal.returns-then-has-clause-is
returns-then-has-clause-is c = λ o f gs r reach k all m.
    let l = c.args.tables.now.lookups in
    let n = names_in l in
    let w = c.args.state.now.world in
    let v = c.args.values.now in
    let at = c.args.found.0 in
    let own = c.args.found.1.now in
    let h = member l r at own f m in
    let kept = c.keeps_method.ensures l.program.now o reach.members ∙ method_marked l.program.now (sound l.program.now r.well) o.methods own.name (method_low l r at own f h) ∙ ap (methods_in l.program.now o.methods) (sym h.key) in
    enters_kept (run_face l) (outer_of l.program.now o) (world_of n w) (given_world n w v.gifts) f gs (map (value_of n) (datums_of v.taken.items)) c.keeps_method.result
    (sym c.if-has.true ∙ c.has.ensures ∙ member_static l r at own f h) (sym c.if-not-fit.false ∙ c.in_ok-fit.ensures.is o at f gs r k all m) kept

pub returns-clause-kept : goal.returns-clause-kept
returns-clause-kept c = λ o f gs r reach k all m.
    c.is_on_receiver.ensures.kept o r reach (c.values_fit.ensures.kept o c.args.found.0 f gs r k all m) all.given m.there

pub returns-clause-is : goal.returns-clause-is
returns-clause-is c = λ o f gs r reach k all m.
    let l = c.args.tables.now.lookups in
    let n = names_in l in
    let w = c.args.state.now.world in
    let v = c.args.values.now in
    let at = c.args.found.0 in
    let own = c.args.found.1.now in
    let h = member l r at own f m in
    IfOk-weaker c.is_on_receiver.result _ _ (λ b e. enters_on (run_face l) (outer_of l.program.now o) (world_of n w) (given_world n w v.gifts) f gs (map (value_of n) (datums_of v.taken.items)) b
    (sym c.if-has.false ∙ c.has.ensures ∙ member_static l r at own f h) (sym c.if-not-fit.false ∙ c.in_ok-fit.ensures.is o at f gs r k all m) e)
    (c.is_on_receiver.ensures.is o f gs r reach (c.values_fit.ensures.kept o at f gs r k all m) all m)
