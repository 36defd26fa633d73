use Rattle.std.proofs.Common.{nat_eq, subst}
use Rattle.std.specs.Prelude.{◌&&◌}
use Rattle.std.specs.List.{list_any}
use Rattle.keep_rules.specs.Fits.{has_field_name}
use Rattle.keep_rules.specs.Marks.{is_always}
use Rattle.keep_rules.specs.Grown.{is_describing, lined_field, GrewMembers}
use Rattle.keep_rules.proofs.MemberLemmas.{read_all}
use Rattle.keep_rules.proofs.KeepLemmas.{members_start, field_more, field_end, lined_field_is}
use Rattle.keep_rules.proofs.keep.keep_fields.Goals as goal

pub loop-field-init : goal.loop-field-init
loop-field-init c = λ k is known. members_start (is_always c.args.hold) (is_describing k) (λ n. list_any (lined_field c.args.program.now k n) c.args.fields.now) c.args.marks.now

pub loop-field-preserved : goal.loop-field-preserved
loop-field-preserved c = λ k is known. field_more c.args.program.now k (is_always c.args.hold) (is_describing k) c.args.fields.now c.loop-field.field-index c.field-item.result c.in_ok-fits.fits c.args.marks.now c.loop-field.marks c.keep_where.new.self c.loop-field-test.true c.field-item.is
    (λ n. lined_field_is c.args.program.now k n c.field-item.result c.in_ok-fits.fits (c.in_ok-fits.ensures _ (read_all (has_field_name c.args.program.now) c.args.fields.now c.loop-field.field-index _ known c.loop-field-test.true c.field-item.is) (c.lines_of.ensures k.class is.class)))
    (c.loop-field.invariant k is known)
    (subst (λ d. GrewMembers (is_always c.args.hold) d (λ n. nat_eq n c.field-item.result.name && c.in_ok-fits.fits) c.loop-field.marks c.keep_where.new.self) (c.describes-described.ensures k is) c.keep_where.ensures)

pub returns : goal.returns
returns c = λ k is known. field_end c.args.program.now k (is_always c.args.hold) (is_describing k) c.args.fields.now c.loop-field.field-index c.args.marks.now c.loop-field.marks c.loop-field-test.false (c.loop-field.invariant k is known)
