use Rattle.std.proofs.Common.{◌∙◌, true, false, ap, sym, subst}
use Rattle.std.specs.Prelude.{Some, None}
use Rattle.dalvik_lookups.specs.Facing.{run_face}
use Rattle.dalvik_lookups.specs.Views.{type_text, IsKind}
use Rattle.dalvik_lookups.specs.declared.types.Kind.{Kind}
use Rattle.dalvik_state.specs.Drafts.{kind_text}
use Rattle.dalvik_state.specs.States.{IsSoundWaiting}
use Rattle.dalvik_state.specs.declared.state.Waiting.{Waiting}
use Rattle.dalvik_steps.specs.Flights.{Meets}
use Rattle.dalvik_steps.specs.declared.throwing.Landing.TheVariants as landing
use Rattle.dalvik_steps.specs.declared.throwing.Met.TheVariants as met
use Rattle.dalvik_steps.proofs.Flying.{error_kind, lands_same, meets_handler, meets_none, meets_other, meets_under, under_same}
use Rattle.dalvik_steps.proofs.throwing.meets.Goals as goal

pub returns-in_err-is_kind_under-in-Ending-clause-kept : goal.returns-in_err-is_kind_under-in-Ending-clause-kept
returns-in_err-is_kind_under-in-Ending-clause-kept c = λ size r k m s.
    let l = c.args.tables.now.lookups in
    c.is_kind_under.ensures.kept r k m (subst (IsKind l.types) (sym c.plain-error.ensures) (error_kind l r.tabled.named.types))

pub returns-in-Some-clause-is : goal.returns-in-Some-clause-is
returns-in-Some-clause-is c = λ size w v r k s i f.
    let l = c.args.tables.now.lookups in
    let place = c.args.waiting.1 in
    let frame = c.in-Method.frame in
    let at = c.in-Some.position in
    let sound = subst (IsSoundWaiting l size) c.in-Method.is s in
    let h = sym c.in-Some.is ∙ c.in_ok-position-in-Method.ensures.is size r k f.known sound in
    subst (λ (x : Waiting). Meets l w v x place (met.Lands (landing.Handler place at))) (sym c.in-Method.is)
    (meets_handler l w v frame place at (lands_same l w v frame c.args.flying.kind (Some at) f.kind h))

pub returns-in-None-clause-is : goal.returns-in-None-clause-is
returns-in-None-clause-is c = λ size w v r k s i f.
    let l = c.args.tables.now.lookups in
    let place = c.args.waiting.1 in
    let frame = c.in-Method.frame in
    let sound = subst (IsSoundWaiting l size) c.in-Method.is s in
    let h = sym c.in-None.is ∙ c.in_ok-position-in-Method.ensures.is size r k f.known sound in
    subst (λ (x : Waiting). Meets l w v x place met.Passes) (sym c.in-Method.is)
    (meets_none l w v frame place (lands_same l w v frame c.args.flying.kind None f.kind h))

pub returns-then-branch-clause-kept : goal.returns-then-branch-clause-kept
returns-then-branch-clause-kept c = λ size r k m s.
    let l = c.args.tables.now.lookups in
    c.is_kind_under.ensures.kept r k m (subst (IsKind l.types) (sym c.plain-error.ensures) (error_kind l r.tabled.named.types))

pub returns-else-branch-clause-kept : goal.returns-else-branch-clause-kept
returns-else-branch-clause-kept c = λ size r k m s.
    let l = c.args.tables.now.lookups in
    c.is_kind_under.ensures.kept r k m (subst (IsKind l.types) (sym c.plain-error.ensures) (error_kind l r.tabled.named.types))

pub returns-then-branch-clause-is : goal.returns-then-branch-clause-is
returns-then-branch-clause-is c = λ size w v r k s i f.
    let l = c.args.tables.now.lookups in
    let kind = c.args.flying.kind in
    let error = subst (IsKind l.types) (sym c.plain-error.ensures) (error_kind l r.tabled.named.types) in
    let asked = c.in_ok-is_kind_under-in-Ending.ensures.is r k f.known error ∙ ap (λ (u : Kind). (run_face l).under (kind_text l kind) (type_text l.types u)) c.plain-error.ensures in
    let under = under_same l r w v kind _ true f.kind asked c.if-branch.true in
    subst (λ (x : Waiting). Meets l w v x c.args.waiting.1 met.Passes) (sym c.in-Ending.is) (meets_under l w v c.in-Ending.class c.args.waiting.1 under)

pub returns-else-branch-clause-is : goal.returns-else-branch-clause-is
returns-else-branch-clause-is c = λ size w v r k s i f.
    let l = c.args.tables.now.lookups in
    let kind = c.args.flying.kind in
    let error = subst (IsKind l.types) (sym c.plain-error.ensures) (error_kind l r.tabled.named.types) in
    let asked = c.in_ok-is_kind_under-in-Ending.ensures.is r k f.known error ∙ ap (λ (u : Kind). (run_face l).under (kind_text l kind) (type_text l.types u)) c.plain-error.ensures in
    let under = under_same l r w v kind _ false f.kind asked c.if-branch.false in
    subst (λ (x : Waiting). Meets l w v x c.args.waiting.1 met.Wrapped) (sym c.in-Ending.is) (meets_other l w v c.in-Ending.class c.args.waiting.1 under)
