use Rattle.std.proofs.Common.{◌∙◌, ap, map, subst, sym}
use Rattle.std.proofs.lemmas.Result.{IfOk-weaker}
use Rattle.dalvik_defs.specs.Gives.{all_fit}
use Rattle.dalvik_defs.specs.Outcome.{passed_types}
use Rattle.dalvik_defs.specs.Outer.{outer_of}
use Rattle.dalvik_lookups.specs.Facing.{run_face}
use Rattle.dalvik_lookups.specs.Views.{type_text}
use Rattle.dalvik_lookups.specs.declared.plays.Gift.{Gift}
use Rattle.dalvik_state.specs.declared.gifts.Taken.{Taken}
use Rattle.dalvik_state.specs.Drafts.{given_world}
use Rattle.dalvik_state.specs.Giving.{AreTakenFrom}
use Rattle.dalvik_state.specs.States.{AreFineKinds}
use Rattle.dalvik_state.specs.Views.{names_in, value_of, world_of}
use Rattle.dalvik_state.proofs.Judging.{method_low}
use Rattle.dalvik_moves.proofs.Admitted.{member, member_static}
use Rattle.dalvik_moves.proofs.Entered.{values_named}
use Rattle.dalvik_moves.proofs.entering.values_fit.Goals as goal

pub returns-clause-kept : goal.returns-clause-kept
returns-clause-kept c = λ o at f gs r k all m.
    let l = c.args.tables.now.lookups in
    let low = method_low l r at c.args.method.now f (member l r at c.args.method.now f m) in
    c.all_fit.ensures.kept r k all.given (subst (AreFineKinds l) (sym c.as_slice-2.ensures.value) (c.in_ok-kinds.ensures.fine r low))

pub returns-clause-is : goal.returns-clause-is
returns-clause-is c = λ o at f gs r k all m.
    let l = c.args.tables.now.lookups in
    let n = names_in l in
    let w = c.args.state.now.world in
    let v = c.args.values.now in
    let own = c.args.method.now in
    let h = member l r at own f m in
    let low = method_low l r at own f h in
    let static = c.has-is_static.ensures ∙ member_static l r at own f h in
    let types = ap (map (type_text l.types)) c.as_slice-2.ensures.value ∙ c.in_ok-kinds.ensures.named r low ∙ (λ i. passed_types (static i) (sym h.key i)) in
    let values = ap (map (λ (t : Gift × Taken). value_of n t.1.datum)) c.as_slice.ensures.value ∙ values_named n v.taken.items in
    IfOk-weaker c.all_fit.result _ _ (λ b e. e ∙ (λ i. all_fit (run_face l) (outer_of l.program.now o) (world_of n w) (given_world n w v.gifts) gs (values i) (types i)))
    (c.all_fit.ensures.is o (world_of n w) gs r k all.given (subst (AreTakenFrom l o w (world_of n w) v.gifts gs) (sym c.as_slice.ensures.value) all.taken) (subst (AreFineKinds l) (sym c.as_slice-2.ensures.value) (c.in_ok-kinds.ensures.fine r low)))
