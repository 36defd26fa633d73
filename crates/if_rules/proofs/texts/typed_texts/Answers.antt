use Rattle.std.proofs.Common.{◌++◌, ◌∙◌, ap}
use Rattle.std.proofs.lemmas.Result.{on_ok_weaker}
use Rattle.dalvik_defs.specs.Naming.{text_at, type_at}
use Rattle.rule_text.specs.declared.pattern.Named.TheVariants as named
use Rattle.if_rules.specs.Lists.{lists_of}
use Rattle.if_rules.specs.Matched.{name_texts, type_texts}
use Rattle.if_rules.proofs.Takes.{both_added}
use Rattle.if_rules.proofs.texts.typed_texts.Goals as goal

pub returns : goal.returns
returns c = λ k w of is. on_ok_weaker c.name_texts.result
    (λ more. both_added (lists_of c.args.out.now.items) (lists_of c.type_texts.new.out.items) (lists_of c.name_texts.new.out.items) (type_texts k (type_at c.args.program.now c.args.own)) (name_texts named.Member w (text_at c.args.program.now c.args.string))
    (c.in_ok-type_texts.ensures k of ∙ ap (λ d. lists_of c.args.out.now.items ++ type_texts k d) c.descriptor.ensures) (more ∙ ap (λ u. lists_of c.type_texts.new.out.items ++ name_texts named.Member w u) c.string_units-units.ensures))
    (c.name_texts.ensures w is)
