use Rattle.std.proofs.Common.{◌≡◌, ◌++◌, ◌∙◌, ap, subst, sym}
use Rattle.std.specs.Prelude.{OnOk}
use Rattle.std.proofs.lemmas.List.{append-nil}
use Rattle.rule_text.specs.declared.pattern.Named.TheVariants as named
use Rattle.if_rules.specs.Lists.{lists_of}
use Rattle.if_rules.specs.Matched.{name_texts}
use Rattle.if_rules.proofs.Takes.{only_name, other_names}
use Rattle.if_rules.proofs.texts.push_class_texts.Goals as goal

pub returns-then-not-one : goal.returns-then-not-one
returns-then-not-one c = λ ws are. sym (append-nil (lists_of c.args.out.now.items)) ∙ ap (λ ts. lists_of c.args.out.now.items ++ ts) (other_names c.args.names.now ws c.args.descriptor.now c.if-not-one.true are)

pub returns : goal.returns
returns c = λ ws are. only_name (λ ts. OnOk c.name_texts.result (lists_of c.name_texts.new.out.items ≡ lists_of c.args.out.now.items ++ ts)) c.args.names.now c.index-names-0.result ws c.args.descriptor.now c.if-not-one.false c.index-names-0.is are
    (λ w of. subst (λ t. OnOk c.name_texts.result (lists_of c.name_texts.new.out.items ≡ lists_of c.args.out.now.items ++ name_texts named.Class w t)) c.inside.ensures (c.name_texts.ensures w of))
