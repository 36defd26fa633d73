use Rattle.keep_rules.proofs.EachLemmas.{named_end, named_found, named_passed}
use Rattle.keep_rules.proofs.MemberLemmas.{read_all}
use Rattle.dalvik_defs.specs.Naming.{named_field}
use Rattle.rule_defs.specs.Members.{matches_field}
use Rattle.keep_rules.specs.Fits.{has_field_name}
use Rattle.keep_rules.proofs.members.has_field.Goals as goal

pub returns-then-fits : goal.returns-then-fits
returns-then-fits c = λ m known is. named_found (named_field c.args.program.now) (matches_field m) c.args.fields.now c.loop-field.field-index _ _ c.loop-field-test.true c.field-item.is (c.in_ok-fits.ensures m (read_all (has_field_name c.args.program.now) c.args.fields.now c.loop-field.field-index _ known c.loop-field-test.true c.field-item.is) is) c.if-fits.true (c.loop-field.invariant m known is)

pub loop-field-preserved : goal.loop-field-preserved
loop-field-preserved c = λ m known is. named_passed (named_field c.args.program.now) (matches_field m) c.args.fields.now c.loop-field.field-index _ _ c.loop-field-test.true c.field-item.is (c.in_ok-fits.ensures m (read_all (has_field_name c.args.program.now) c.args.fields.now c.loop-field.field-index _ known c.loop-field-test.true c.field-item.is) is) c.if-fits.false (c.loop-field.invariant m known is)

pub returns : goal.returns
returns c = λ m known is. named_end (named_field c.args.program.now) (matches_field m) c.args.fields.now _ c.loop-field-test.false (c.loop-field.invariant m known is)
