use Rattle.std.proofs.Common.{length, rules}
use Rattle.if_text.specs.Faults.{AreMasked, HaltsItems}
use Rattle.if_text.specs.Steps.{ReadsFew}
use Rattle.if_text.proofs.Items.{whole_text}
use Rattle.if_text.proofs.Texts.{fault_in}
use Rattle.if_text.proofs.read.read_tokens.Goals as goal

pub returns-in-Ok-clause-ok : goal.returns-in-Ok-clause-ok
returns-in-Ok-clause-ok c = λ text characters are.
    let masked : AreMasked c.args.tokens.now.items.items c.in_ok-hidden.hidden.items = search rules in
    let few : ReadsFew c.args.tokens.now.items.items c.in_ok-hidden.hidden.items (length c.args.tokens.now.items.items) c.read_items.new.rules = search rules in
    whole_text text c.args.tokens.now c.in_ok-hidden.hidden.items c.read_items.new.rules characters are masked few.reads few.few

pub returns-clause-fault : goal.returns-clause-fault
returns-clause-fault c = λ text characters are.
    let masked : AreMasked c.args.tokens.now.items.items c.in_ok-hidden.hidden.items = search rules in
    let halts : HaltsItems c.args.tokens.now.items.items c.in_ok-hidden.hidden.items c.read_items.new.at c.in-Err.halt = search rules in
    fault_in text c.args.tokens.now c.in_ok-hidden.hidden.items c.fault_of.result characters are masked (c.fault_of.ensures c.in_ok-hidden.hidden.items halts)
