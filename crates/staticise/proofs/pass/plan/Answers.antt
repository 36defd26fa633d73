use Rattle.std.proofs.Common.{◌∙◌, ap, subst, sym}
use Rattle.std.specs.Prelude.{count_by, is_some, nat_eq}
use Rattle.static_protos.specs.Growing.{IsGrowth, grown}
use Rattle.staticise.proofs.Whole.{none_planned, none_wanted, some_counted, some_planned}
use Rattle.staticise.proofs.pass.plan.Goals as goal

pub returns-then-not-optimise-clause-planned : goal.returns-then-not-optimise-clause-planned
returns-then-not-optimise-clause-planned c = λ wf res. none_wanted c.args.program.now c.args.facts.now c.args.outside.now c.args.admitted.now.methods.items c.if-not-optimise.true

pub returns-then-is_none_given-clause-planned : goal.returns-then-is_none_given-clause-planned
returns-then-is_none_given-clause-planned c = λ wf res.
    let p = c.args.program.now in
    let marks = c.in_ok-loose.loose.items in
    none_planned p c.args.facts.now c.args.outside.now c.args.admitted.now.methods.items marks c.in_ok-growth.growth c.if-not-optimise.false (c.in_ok-loose.ensures wf res)
    (subst (λ xs. IsGrowth p (grown p xs) c.in_ok-growth.growth) c.as_slice.ensures.value (c.in_ok-growth.ensures wf))
    (ap (λ xs. nat_eq (count_by is_some xs) 0) (sym c.as_slice-2.ensures.value) ∙ (sym c.is_none_given.ensures ∙ c.if-is_none_given.true))

pub returns-clause-planned : goal.returns-clause-planned
returns-clause-planned c = λ wf res.
    let p = c.args.program.now in
    let marks = c.in_ok-loose.loose.items in
    some_planned p c.args.facts.now c.args.outside.now c.args.admitted.now.methods.items marks c.in_ok-growth.growth c.if-not-optimise.false (c.in_ok-loose.ensures wf res)
    (subst (λ xs. IsGrowth p (grown p xs) c.in_ok-growth.growth) c.as_slice.ensures.value (c.in_ok-growth.ensures wf))
    (ap (λ xs. nat_eq (count_by is_some xs) 0) (sym c.as_slice-2.ensures.value) ∙ (sym c.is_none_given.ensures ∙ c.if-is_none_given.false))

pub returns-clause-some : goal.returns-clause-some
returns-clause-some c =
    some_counted c.args.program.now c.args.facts.now c.args.outside.now c.args.admitted.now.methods.items c.in_ok-growth.growth (ap (λ xs. nat_eq (count_by is_some xs) 0) (sym c.as_slice-2.ensures.value) ∙ (sym c.is_none_given.ensures ∙ c.if-is_none_given.false))
