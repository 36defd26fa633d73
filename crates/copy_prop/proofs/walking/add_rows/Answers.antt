use Rattle.std.proofs.Common.{◌∙◌, ap, length, drop, refl}
use Rattle.copy_prop.proofs.Rows.{rows_pushed}
use Rattle.copy_prop.proofs.walking.add_rows.Goals as goal

pub returns-clause-rows : goal.returns-clause-rows
returns-clause-rows c = rows_pushed c.args.body.now c.args.position (length c.as_slice-goes.result.now) _ _ _ _ _ _ c.in_ok-row.row.items c.in_ok-front.front.items c.in_ok-back.back.items c.as_slice-goes.result.now c.insn_at-insn.result.now c.insn_at-insn.ensures c.in_ok-row.ensures c.in_ok-front.ensures c.as_slice-goes.ensures.value refl (c.in_ok-back.ensures.items ∙ c.behind.ensures ∙ ap (λ xs. drop (length c.as_slice-goes.result.now) xs) c.as_slice.ensures.value) c.requires.rows c.in_ok-push_row.ensures c.in_ok-push_row-2.ensures c.in_ok-push_row-3.ensures
