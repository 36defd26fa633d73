use Rattle.std.proofs.Common.{◌≡◌, ◌++◌, subst}
use Rattle.std.specs.Prelude.{OnOk}
use Rattle.if_rules.proofs.Takes.{of_type}
use Rattle.if_rules.specs.Lists.{lists_of}
use Rattle.if_rules.specs.Matched.{item_texts}
use Rattle.if_rules.proofs.texts.type_texts.Goals as goal

pub returns : goal.returns
returns c = λ w is. of_type (λ ts. OnOk c.item_texts.result (lists_of c.item_texts.new.out.items ≡ lists_of c.args.out.now.items ++ ts)) c.args.kind.now w c.args.descriptor.now is
    (λ v of. subst (λ t. OnOk c.item_texts.result (lists_of c.item_texts.new.out.items ≡ lists_of c.args.out.now.items ++ item_texts v t)) c.behind_units-item.ensures (c.item_texts.ensures v of))
