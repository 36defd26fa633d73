use Rattle.std.proofs.Common.{◌∙◌, sym}
use Rattle.premises.specs.Makers.{MakersAreOwn}
use Rattle.premises.specs.Plain.{ListsPlainly}
use Rattle.pipeline.specs.Passes.{NoneAdmitted, NotOwn, NotPlain}
use Rattle.pipeline.proofs.Analysed.{analysed, none}
use Rattle.pipeline.proofs.passes.facts_by.Goals as goal

pub returns-then-not-is_any_admitted : goal.returns-then-not-is_any_admitted
returns-then-not-is_any_admitted c = λ graph. none c.args.outside.now c.args.admitted.now.methods.items c.args.program.now (λ formed. NoneAdmitted (sym c.is_any_admitted.ensures ∙ c.if-not-is_any_admitted.true))

pub returns-then-not-own : goal.returns-then-not-own
returns-then-not-own c = λ graph. none c.args.outside.now c.args.admitted.now.methods.items c.args.program.now (λ formed. NotOwn (c.makers_are_own-own.ensures.exact formed (graph formed).resolved.of c.if-not-own.true))

pub returns-then-not-plain : goal.returns-then-not-plain
returns-then-not-plain c = λ graph. none c.args.outside.now c.args.admitted.now.methods.items c.args.program.now (λ formed. NotPlain (sym (c.lists_plainly-plain.ensures.is (graph formed).resolved.of) ∙ c.if-not-plain.true))

pub returns : goal.returns
returns c = λ graph. analysed c.args.outside.now c.args.admitted.now.methods.items c.args.program.now c.in_ok-facts.facts c.in_ok-facts.ensures.formed (λ formed.
    let own : MakersAreOwn c.args.program.now c.args.outside.now = c.makers_are_own-own.ensures.sound (graph formed).resolved.of c.if-not-own.false in
    let plain : ListsPlainly c.args.program.now = c.lists_plainly-plain.ensures.sound (graph formed).resolved.of c.if-not-plain.false in
    c.in_ok-facts.ensures.known own plain formed (graph formed).resolved)
