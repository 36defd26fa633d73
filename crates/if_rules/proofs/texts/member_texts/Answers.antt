use Rattle.std.proofs.Common.{◌++◌, ◌∙◌, ap, map}
use Rattle.std.proofs.lemmas.Result.{on_ok_weaker}
use Rattle.dalvik_defs.specs.Naming.{text_at, type_at}
use Rattle.rule_text.specs.declared.pattern.Named.TheVariants as named
use Rattle.if_rules.specs.Lists.{lists_of}
use Rattle.if_rules.specs.Matched.{argument_texts, name_texts, type_texts}
use Rattle.if_rules.proofs.Takes.{three_added}
use Rattle.if_rules.proofs.texts.member_texts.Goals as goal

pub returns : goal.returns
returns c = λ k w a of is are. on_ok_weaker c.argument_texts.result
    (λ more. three_added (lists_of c.args.out.now.items) (lists_of c.typed_texts.new.out.items) (lists_of c.argument_texts.new.out.items) (type_texts k (type_at c.args.program.now c.args.proto.now.result)) (name_texts named.Member w (text_at c.args.program.now c.args.string))
    (argument_texts a (map (type_at c.args.program.now) c.args.proto.now.parameters)) (c.in_ok-typed_texts.ensures k w of is) (more ∙ ap (λ ks. lists_of c.typed_texts.new.out.items ++ argument_texts a (map (type_at c.args.program.now) ks)) c.as_slice-kinds.ensures))
    (c.argument_texts.ensures a are)
