use Rattle.std.proofs.Common.{◌≡◌, ◌++◌, subst}
use Rattle.std.specs.Prelude.{OnOk}
use Rattle.rule_text.specs.declared.pattern.Named.TheVariants as named
use Rattle.if_rules.proofs.Takes.{any_item, primitive_item, class_item}
use Rattle.if_rules.specs.Lists.{lists_of}
use Rattle.if_rules.specs.Matched.{name_texts}
use Rattle.if_rules.proofs.texts.item_texts.Goals as goal

pub returns-in-Any : goal.returns-in-Any
returns-in-Any c = λ w is. any_item (λ ts. OnOk c.push_java.result (lists_of c.push_java.new.out.items ≡ lists_of c.args.out.now.items ++ ts)) c.args.item.now w c.args.descriptor.now c.in-Any.is is c.push_java.ensures

pub returns-in-Primitive : goal.returns-in-Primitive
returns-in-Primitive c = λ w is. primitive_item (λ ts. OnOk c.push_java-in-Primitive.result (lists_of c.push_java-in-Primitive.new.out.items ≡ lists_of c.args.out.now.items ++ ts)) c.args.item.now w c.args.descriptor.now c.in-Primitive.is is c.push_java-in-Primitive.ensures

pub returns-in-Class : goal.returns-in-Class
returns-in-Class c = λ w is. class_item (λ ts. OnOk c.name_texts.result (lists_of c.name_texts.new.out.items ≡ lists_of c.args.out.now.items ++ ts)) c.args.item.now c.in-Class.pattern w c.args.descriptor.now c.in-Class.is is
    (λ of. subst (λ t. OnOk c.name_texts.result (lists_of c.name_texts.new.out.items ≡ lists_of c.args.out.now.items ++ name_texts named.Class w t)) c.inside.ensures (c.name_texts.ensures w of))
