use Rattle.std.proofs.Common.{◌++◌, ◌∙◌, slice_index, ap, arith}
use Rattle.dalvik_defs.specs.Naming.{type_at}
use Rattle.if_rules.specs.Lists.{lists_of}
use Rattle.if_rules.specs.Matched.{type_texts}
use Rattle.if_rules.proofs.Lives.{split_first, split_number}
use Rattle.if_rules.proofs.Takes.{types_more}
use Rattle.if_rules.proofs.texts.types_texts.Goals as goal

pub loop-left-preserved : goal.loop-left-preserved
loop-left-preserved c = λ ws are. types_more (type_at c.args.program.now) c.pattern-item.result c.loop-left.left.now _ (slice_index c.loop-left.rest.now 0) c.loop-left.rest.now _ (lists_of c.loop-left.out.items) (lists_of c.type_texts.new.out.items) (lists_of c.args.out.now.items) ws c.args.kinds.now
    (split_first c.loop-left.left.now c.pattern-item.result (omega (arith, c.in-len1-up.len_at_least)) c.pattern-item.is) (split_number c.loop-left.rest.now (omega (arith, c.in-len1-up-rest.len_at_least)))
    (λ w of. c.in_ok-type_texts.ensures w of ∙ ap (λ d. lists_of c.loop-left.out.items ++ type_texts w d) c.descriptor.ensures) (c.loop-left.invariant ws are)
