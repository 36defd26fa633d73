use Rattle.std.proofs.Common.{Option, subst}
use Rattle.std.specs.Prelude.{IfSome}
use Rattle.std.specs.Option.{option_copied}
use Rattle.dom_frame.specs.Registers.{Registers}
use Rattle.facts_check.specs.Tables.{IsHanded}
use Rattle.facts_check.proofs.Placing.{placed_by}
use Rattle.facts_check.proofs.positions.placed_at.Goals as goal

pub returns : goal.returns
returns c = λ known.
    let k = c.args.known.now in
    let s = c.args.site.now in
    placed_by k s.class s.number s.body.now s.starts.now c.args.position (option_copied c.args.before) c.args.insn.now c.args.registers.now c.in-Some.next (c.in_ok-is_known.ensures known c.if-not-branch.false)
    (subst (λ (o : Option (Option Registers)). IfSome o (λ next. IsHanded k s.class s.starts.now c.args.position (option_copied c.args.before) c.args.insn.now c.args.registers.now next)) c.in-Some.is (c.in_ok-next.ensures known c.args.position))
