use Rattle.std.proofs.Common.{◌≡◌, ◌-◌, ◌∷◌, ◌&&◌, drop, length, take, arith}
use Rattle.dalvik_defs.specs.Naming.{named_field}
use Rattle.keep_rules.specs.Fits.{has_field_name}
use Rattle.rule_defs.specs.Members.{matches_field}
use Rattle.if_rules.specs.Instances.{is_on}
use Rattle.if_rules.proofs.Lives.{AnyLeft, any_known, any_passed, split_first}
use Rattle.if_rules.proofs.live.has_field.Goals as goal

pub loop-rest-preserved : goal.loop-rest-preserved
loop-rest-preserved c = λ m known of.
    let left : AnyLeft (has_field_name c.args.program.now) (λ d. is_on c.args.marks.now d.name && matches_field m (named_field c.args.program.now d)) c.loop-rest.rest.now c.args.fields.now = c.loop-rest.invariant m known of in
    let first : c.loop-rest.rest.now ≡ c.field-item.result ∷ take (length c.loop-rest.rest.now - 1) (drop 1 c.loop-rest.rest.now) = split_first c.loop-rest.rest.now c.field-item.result (omega arith) c.field-item.is in
    any_passed (has_field_name c.args.program.now) (λ d. is_on c.args.marks.now d.name && matches_field m (named_field c.args.program.now d)) c.field-item.result c.loop-rest.rest.now _ c.args.fields.now c.in_ok-found.found first left
    (c.in_ok-found.ensures m (any_known (has_field_name c.args.program.now) (λ d. is_on c.args.marks.now d.name && matches_field m (named_field c.args.program.now d)) c.field-item.result c.loop-rest.rest.now _ c.args.fields.now first left) of)
    c.if-found.false
