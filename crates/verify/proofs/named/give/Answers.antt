use Rattle.std.proofs.Common.{◌∙◌, ap, sym}
use Rattle.verify.specs.Descriptors.{same_text, number_of}
use Rattle.verify.proofs.Descriptions.{text_is, given_new}
use Rattle.verify.proofs.named.give.Goals as goal

pub returns-in_ok-insert : goal.returns-in_ok-insert
returns-in_ok-insert c = λ t. given_new (number_of c.args.numbers.now t) (number_of c.insert.new.self t) (same_text c.args.text.now t) c.args.number
    (λ e. ap (number_of c.args.numbers.now) (sym (text_is c.args.text.now t e)) ∙ sym c.number_of.ensures ∙ c.in-None.is)
    (c.in_ok-insert.ensures.updates.0 (record c.args.text { now = t }))
