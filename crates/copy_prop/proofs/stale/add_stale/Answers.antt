use Rattle.std.proofs.Common.{Bool, List, subst}
use Rattle.copy_prop.specs.Searches.{Adds}
use Rattle.copy_prop.proofs.Table.{copies_more}
use Rattle.copy_prop.proofs.stale.add_stale.Goals as goal

pub returns-in_ok-add_copy : goal.returns-in_ok-add_copy
returns-in_ok-add_copy c =
    let P : List Bool → Type 0 = λ xs. Adds c.in-Some.copy xs c.args.table.now.items c.add_copy.new.table.items in
    copies_more c.args.widths.now c.args.body.now c.args.at c.in-Some.copy c.insn_at.result.now c.insn_at.ensures c.in-Some.ensures c.in_ok-marks.marks.items c.in_ok-marks.ensures c.args.table.now.items c.add_copy.new.table.items (subst P c.as_slice.ensures.value c.in_ok-add_copy.ensures) c.requires.copies
