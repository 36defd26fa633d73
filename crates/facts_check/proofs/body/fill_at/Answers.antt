use Rattle.std.proofs.Common.{Option, subst}
use Rattle.std.specs.Prelude.{IfSome}
use Rattle.std.specs.Option.{option_copied}
use Rattle.dom_frame.specs.Registers.{Registers}
use Rattle.facts_check.specs.declared.starts.Start.{Start}
use Rattle.facts_check.specs.Bodies.{IsArrived, IsStep}
use Rattle.facts_check.proofs.Filling.{next_filled}
use Rattle.facts_check.proofs.body.fill_at.Goals as goal

pub returns : goal.returns
returns c = λ known filling.
    let k = c.args.known.now in
    let s = c.args.site.now in
    next_filled k s.class s.number s.body.now s.starts.now c.args.frames.now.items c.push.new.self.items c.args.position c.args.next c.in-Some.here c.in-Some-2.after c.frame_of.result filling
    (subst (λ (o : Option Start). IsArrived o c.args.next c.in-Some.here) c.start_at.ensures
    (subst (λ (o : Option (Option Registers)). IfSome o (λ here. IsArrived (option_copied c.start_at.result) c.args.next here)) c.in-Some.is c.in_ok-here.ensures))
    (subst (λ (o : Option Registers). IsStep k s.class s.number s.body.now s.starts.now c.args.position o c.in-Some-2.after) c.as_ref.ensures.value
    (subst (λ (o : Option (Option Registers)). IfSome o (λ next. IsStep k s.class s.number s.body.now s.starts.now c.args.position (option_copied c.as_ref.result) next)) c.in-Some-2.is (c.in_ok-after.ensures known)))
    c.frame_of.ensures c.in_ok-push.ensures.items
