use Rattle.std.proofs.Common.{◌∙◌, map}
use Rattle.std.proofs.lemmas.Result.{IfOk-weaker}
use Rattle.dalvik_defs.specs.Outer.{outer_of}
use Rattle.dalvik_lookups.specs.Facing.{run_face}
use Rattle.dalvik_state.specs.Drafts.{given_world}
use Rattle.dalvik_state.specs.Views.{names_in, value_of, world_of}
use Rattle.dalvik_moves.specs.Moving.{datums_of}
use Rattle.dalvik_moves.proofs.Admitted.{enters_found, enters_initialiser, enters_uncoded, member, member_coded}
use Rattle.dalvik_moves.proofs.entering.may_enter.Goals as goal

pub returns-then-not-is_coded-clause-is : goal.returns-then-not-is_coded-clause-is
returns-then-not-is_coded-clause-is c = λ o f gs r reach k all m.
    let l = c.args.tables.now.lookups in
    let n = names_in l in
    let w = c.args.state.now.world in
    let v = c.args.values.now in
    let at = c.args.found.0 in
    let own = c.args.found.1.now in
    enters_uncoded (run_face l) (outer_of l.program.now o) (world_of n w) (given_world n w v.gifts) f gs (map (value_of n) (datums_of v.taken.items))
    (c.if-not-is_coded.ensures ∙ member_coded l r at own f (member l r at own f m))

pub returns-then-is_initialiser-clause-is : goal.returns-then-is_initialiser-clause-is
returns-then-is_initialiser-clause-is c = λ o f gs r reach k all m.
    let l = c.args.tables.now.lookups in
    let n = names_in l in
    let w = c.args.state.now.world in
    let v = c.args.values.now in
    let at = c.args.found.0 in
    let own = c.args.found.1.now in
    enters_initialiser (run_face l) (outer_of l.program.now o) (world_of n w) (given_world n w v.gifts) f gs (map (value_of n) (datums_of v.taken.items))
    (c.if-not-is_coded.ensures ∙ member_coded l r at own f (member l r at own f m)) (c.if-is_initialiser.ensures own f r m)

pub returns-clause-is : goal.returns-clause-is
returns-clause-is c = λ o f gs r reach k all m.
    let l = c.args.tables.now.lookups in
    let n = names_in l in
    let w = c.args.state.now.world in
    let v = c.args.values.now in
    let at = c.args.found.0 in
    let own = c.args.found.1.now in
    IfOk-weaker c.may_enter_found.result _ _ (λ b e. enters_found (run_face l) (outer_of l.program.now o) (world_of n w) (given_world n w v.gifts) f gs (map (value_of n) (datums_of v.taken.items)) b
    (c.if-not-is_coded.ensures ∙ member_coded l r at own f (member l r at own f m)) (c.if-is_initialiser.ensures own f r m) e)
    (c.may_enter_found.ensures.is o f gs r reach k all m)
