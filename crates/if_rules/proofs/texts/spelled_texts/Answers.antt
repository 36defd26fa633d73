use Rattle.std.proofs.Common.{◌≡◌, ◌++◌, map, subst}
use Rattle.std.specs.Prelude.{OnOk}
use Rattle.dalvik_defs.specs.Naming.{text_at, type_at}
use Rattle.keep_rules.specs.Fits.{signature_of}
use Rattle.if_rules.proofs.Takes.{init_texts, spelled_method}
use Rattle.if_rules.specs.Lists.{lists_of}
use Rattle.if_rules.specs.Matched.{argument_texts}
use Rattle.if_rules.proofs.texts.spelled_texts.Goals as goal

pub returns-in-Init : goal.returns-in-Init
returns-in-Init c = λ w is. init_texts (λ ts. OnOk c.argument_texts.result (lists_of c.argument_texts.new.out.items ≡ lists_of c.args.out.now.items ++ ts)) c.args.what.now c.in-Init.arguments w (text_at c.args.program.now c.args.string) (signature_of c.args.program.now c.args.proto.now) c.in-Init.is is
    (λ a are. subst (λ ks. OnOk c.argument_texts.result (lists_of c.argument_texts.new.out.items ≡ lists_of c.args.out.now.items ++ argument_texts a (map (type_at c.args.program.now) ks))) c.as_slice-kinds.ensures (c.argument_texts.ensures a are))

pub returns-in-Method : goal.returns-in-Method
returns-in-Method c = λ w is. spelled_method (λ ts. OnOk c.member_texts.result (lists_of c.member_texts.new.out.items ≡ lists_of c.args.out.now.items ++ ts)) c.args.what.now c.in-Method.result c.in-Method.name c.in-Method.arguments w (text_at c.args.program.now c.args.string) (signature_of c.args.program.now c.args.proto.now) c.in-Method.is is
    c.member_texts.ensures
