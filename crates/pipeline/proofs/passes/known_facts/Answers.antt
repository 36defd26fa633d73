use Rattle.std.proofs.Common.{◌∙◌, sym, true≢false}
use Rattle.pipeline.proofs.passes.known_facts.Goals as goal

pub returns-then-not-formed-clause-known : goal.returns-then-not-formed-clause-known
returns-then-not-formed-clause-known c = λ own plain formed resolved. true≢false (sym formed ∙ sym c.well_formed-formed.ensures ∙ c.if-not-formed.true)

pub returns-clause-formed : goal.returns-clause-formed
returns-clause-formed c = sym c.well_formed-formed.ensures ∙ c.if-not-formed.false

pub returns-clause-known : goal.returns-clause-known
returns-clause-known c = λ own plain formed resolved. record { certified = c.in_ok-facts.ensures formed resolved; words = c.numbers_have_bits-bits.ensures.all; makers = own; plain = plain }
