use Rattle.std.proofs.Common.{sym, subst}
use Rattle.std.specs.Prelude.{IfOk, OnErr}
use Rattle.dalvik_state.specs.States.{IsInMethod}
use Rattle.dalvik_state.specs.declared.effect.Effect.{Effect}
use Rattle.dalvik_state.specs.declared.frame.Frame.{Frame}
use Rattle.dalvik_state.specs.declared.state.Waiting.TheVariants.{Method}
use Rattle.dalvik_model.specs.Doing.{IsForm, IsInRun, IsUndoneIn}
use Rattle.dalvik_model.proofs.Formed.{formed_in, method_same, unformed_in}
use Rattle.dalvik_model.proofs.happens.acts_in.Goals as goal

pub returns-in-Method-clause-ok : goal.returns-in-Method-clause-ok
returns-in-Method-clause-ok c = λ floats steps f is table run.
    let l = c.args.tables.now.lookups in
    let own = c.in-Method.frame in
    let same = method_same c.args.waiting.now own f c.in-Method.is is in
    let g = c.acts_at.new.frame in
    let there = subst (IsInRun l c.args.memo.now steps c.args.world.now) (sym same) run in
    subst (λ (x : Frame). IfOk c.acts_at.result (λ (e : Effect). IsInMethod (λ (h : Frame). IsForm l floats steps c.args.world.now c.acts_at.new.world x h e) (Method g))) same
    (formed_in l floats steps c.args.world.now c.acts_at.new.world own g c.acts_at.result (c.acts_at.ensures.ok floats steps table there))

pub returns-in-Method-clause-memo : goal.returns-in-Method-clause-memo
returns-in-Method-clause-memo c = λ steps f is run.
    let l = c.args.tables.now.lookups in
    let same = method_same c.args.waiting.now c.in-Method.frame f c.in-Method.is is in
    c.acts_at.ensures.memo steps (subst (IsInRun l c.args.memo.now steps c.args.world.now) (sym same) run)

pub returns-in-Method-clause-err : goal.returns-in-Method-clause-err
returns-in-Method-clause-err c = λ f is.
    let same = method_same c.args.waiting.now c.in-Method.frame f c.in-Method.is is in
    subst (λ (x : Frame). OnErr c.acts_at.result (IsInMethod (IsUndoneIn c.args.world.now c.acts_at.new.world x) (Method c.acts_at.new.frame))) same
    (unformed_in c.args.world.now c.acts_at.new.world c.in-Method.frame c.acts_at.new.frame c.acts_at.result c.acts_at.ensures.err)
