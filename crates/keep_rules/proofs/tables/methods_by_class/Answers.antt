use native.Mathlib.Omega.{arith}
use Rattle.std.proofs.Common.{length, subst, ap}
use Rattle.keep_rules.specs.View.{is_method_of, AreEmpty}
use Rattle.keep_rules.proofs.ViewLemmas.{methods_more, rows_start, rows_end, method_past}
use Rattle.keep_rules.proofs.tables.methods_by_class.Goals as goal

pub loop-number-init : goal.loop-number-init
loop-number-init c = rows_start (is_method_of c.args.program.now) (length c.args.program.now.types) c.in_ok-methods.methods.items (subst (λ n. AreEmpty n c.in_ok-methods.methods.items) c.len.ensures c.in_ok-methods.ensures)

pub loop-number-preserved : goal.loop-number-preserved
loop-number-preserved c = methods_more c.args.program.now (length c.args.program.now.types) c.loop-number.number c.as_slice-names.result.now _ c.loop-number.methods.items _ c.as_slice-names.ensures
    c.loop-number-test.true c.loop-number.invariant c.in_ok-add_to.ensures

pub returns : goal.returns
returns c = rows_end (is_method_of c.args.program.now) (length c.args.program.now.types) c.loop-number.number c.loop-number.methods.items
    (λ k n h. let past = c.loop-number-test.false in let size = ap length c.as_slice-names.ensures in method_past c.args.program.now k n (omega (arith, h, past, size)))
    c.loop-number.invariant
