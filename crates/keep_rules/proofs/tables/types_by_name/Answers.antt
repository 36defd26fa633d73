use Rattle.std.proofs.Common.{◌∙◌, ap}
use Rattle.std.specs.Prelude.{cond, Some}
use Rattle.dalvik_defs.specs.Names.{text_eq}
use Rattle.keep_rules.specs.View.{kind_of}
use Rattle.keep_rules.proofs.ViewLemmas.{last_more}
use Rattle.keep_rules.proofs.tables.types_by_name.Goals as goal

pub loop-kind-preserved : goal.loop-kind-preserved
loop-kind-preserved c = λ t. last_more c.args.program.now t c.loop-kind.kind (kind_of c.loop-kind.types t) _ (c.loop-kind.invariant t)
    (c.in_ok-insert.ensures.updates.0 (record c.descriptor.result { now = t }) ∙ ap (λ u. cond (text_eq u t) (Some c.loop-kind.kind) (kind_of c.loop-kind.types t)) c.descriptor.ensures)
