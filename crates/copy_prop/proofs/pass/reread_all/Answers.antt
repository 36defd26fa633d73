use Rattle.std.proofs.Common.{◌∙◌, [], refl, arith}
use Rattle.std.proofs.lemmas.List.{get_or_read}
use Rattle.copy_prop.proofs.Reread.{reread_more}
use Rattle.copy_prop.proofs.pass.reread_all.Goals as goal

pub loop-place-preserved : goal.loop-place-preserved
loop-place-preserved c = reread_more c.args.table.now c.loop-place.place c.loop-place.count c.in_ok-more.more c.args.insns.now c.loop-place.insns _ _ c.reread_one.new.insn c.as_slice.result.now (omega arith) refl
    (c.as_slice.ensures ∙ get_or_read c.args.table.now c.loop-place.place c.index-table-place.result (omega arith) c.index-table-place.is []) c.in_ok-more.ensures.is c.in_ok-more.ensures.count c.loop-place.invariant
