use Rattle.std.proofs.Common.{◌≡◌, ℕ, length, subst, arith}
use Rattle.dead_code.specs.Dead.{AreQuiet}
use Rattle.dead_code.proofs.Quieted.{quiet_none, quiet_more}
use Rattle.dead_code.proofs.quiet.quiet_fields.Goals as goal

pub loop-field-init : goal.loop-field-init
loop-field-init c = quiet_none c.args.hierarchy.now c.in_ok-quiet.quiet.items c.in_ok-quiet.ensures.items

pub loop-field-preserved : goal.loop-field-preserved
loop-field-preserved c = quiet_more c.args.hierarchy.now c.loop-field.field c.loop-field.quiet.items c.push.new.self.items c.is_quiet_field.result c.loop-field.invariant c.is_quiet_field.ensures c.in_ok-push.ensures.items

pub returns : goal.returns
returns c = let all : c.loop-field.field ≡ length c.args.program.now.fields = omega arith in subst (λ (n : ℕ). AreQuiet c.args.hierarchy.now n c.loop-field.quiet.items) all c.loop-field.invariant
