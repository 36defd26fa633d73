use Rattle.std.proofs.Common.{◌∙◌, ap, subst}
use Rattle.std.specs.Prelude.{count_by, is_some}
use Rattle.staticise.specs.Planned.{IsPlanned}
use Rattle.staticise.proofs.Whole.{none_staticised, nothing_left, some_changes, some_falls, some_none, some_staticised}
use Rattle.staticise.proofs.pass.apply.Goals as goal

pub returns-in_ok-write-in-Some-clause-staticised : goal.returns-in_ok-write-in-Some-clause-staticised
returns-in_ok-write-in-Some-clause-staticised c = λ wf res.
    let p = c.args.program in
    let facts = c.args.facts.now in
    let o = c.args.outside.now in
    let admitted = c.args.admitted.now.methods.items in
    let planned = subst (IsPlanned p facts o admitted) c.in-Some.is (c.in_ok-planned.ensures.planned wf res) in
    some_staticised p facts o admitted c.in-Some.growth c.write.new.program c.count_given-count.result _ planned (c.count_given-count.ensures ∙ ap (count_by is_some) c.as_slice.ensures.value) c.new-origins.ensures (c.in_ok-write-in-Some.ensures _ wf res planned.0)

pub returns-in_ok-write-in-Some-clause-none_left : goal.returns-in_ok-write-in-Some-clause-none_left
returns-in_ok-write-in-Some-clause-none_left c = λ wf res none.
    let p = c.args.program in
    let facts = c.args.facts.now in
    let o = c.args.outside.now in
    let admitted = c.args.admitted.now.methods.items in
    let planned = subst (IsPlanned p facts o admitted) c.in-Some.is (c.in_ok-planned.ensures.planned wf res) in
    absurd (some_none p facts o admitted c.in-Some.growth c.count_given-count.result planned (c.count_given-count.ensures ∙ ap (count_by is_some) c.as_slice.ensures.value) none)

pub returns-in_ok-write-in-Some-clause-changes : goal.returns-in_ok-write-in-Some-clause-changes
returns-in_ok-write-in-Some-clause-changes c = λ wf res.
    let p = c.args.program in
    let facts = c.args.facts.now in
    let o = c.args.outside.now in
    let admitted = c.args.admitted.now.methods.items in
    let planned = subst (IsPlanned p facts o admitted) c.in-Some.is (c.in_ok-planned.ensures.planned wf res) in
    some_changes p facts o admitted c.in-Some.growth c.write.new.program c.count_given-count.result _ planned (c.count_given-count.ensures ∙ ap (count_by is_some) c.as_slice.ensures.value) c.new-origins.ensures (c.in_ok-write-in-Some.ensures _ wf res planned.0)

pub returns-in_ok-write-in-Some-clause-falls : goal.returns-in_ok-write-in-Some-clause-falls
returns-in_ok-write-in-Some-clause-falls c = λ wf res.
    let p = c.args.program in
    let facts = c.args.facts.now in
    let o = c.args.outside.now in
    let admitted = c.args.admitted.now.methods.items in
    let planned = subst (IsPlanned p facts o admitted) c.in-Some.is (c.in_ok-planned.ensures.planned wf res) in
    some_falls p facts o admitted c.in-Some.growth c.write.new.program c.count_given-count.result _ planned (c.count_given-count.ensures ∙ ap (count_by is_some) c.as_slice.ensures.value) c.new-origins.ensures (c.in_ok-write-in-Some.ensures _ wf res planned.0)

pub returns-in-None-clause-staticised : goal.returns-in-None-clause-staticised
returns-in-None-clause-staticised c = λ wf res.
    let p = c.args.program in
    let planned = subst (IsPlanned p c.args.facts.now c.args.outside.now c.args.admitted.now.methods.items) c.in-None.is (c.in_ok-planned.ensures.planned wf res) in
    none_staticised p c.args.facts.now c.args.outside.now c.args.admitted.now.methods.items _ planned c.new-origins.ensures

pub returns-in-None-clause-none_left : goal.returns-in-None-clause-none_left
returns-in-None-clause-none_left c = λ wf res none.
    let p = c.args.program in
    let planned = subst (IsPlanned p c.args.facts.now c.args.outside.now c.args.admitted.now.methods.items) c.in-None.is (c.in_ok-planned.ensures.planned wf res) in
    nothing_left p c.args.facts.now c.args.outside.now c.args.admitted.now.methods.items _ planned c.new-origins.ensures
