use Rattle.std.proofs.Common.{refl, sym, subst}
use Rattle.dalvik_state.specs.declared.frame.Frame.{Frame}
use Rattle.dalvik_state.specs.declared.state.Waiting.{Waiting}
use Rattle.dalvik_state.specs.declared.state.Waiting.TheVariants.{Method}
use Rattle.dalvik_state.specs.Frames.{with_item, GoesOn}
use Rattle.dalvik_state.specs.States.{ChangesIn}
use Rattle.dalvik_state.proofs.top.next_with_in.Goals as goal

pub returns-in-Method : goal.returns-in-Method
returns-in-Method c =
    let after = c.next_with.new.self in
    subst (λ (w : Waiting). ChangesIn (λ (f g : Frame). GoesOn f g (with_item c.args.item f.registers.items c.args.register c.args.datum)) w (Method after)) (sym c.in-Method.is) (record { frame = after; is = refl; so = c.next_with.ensures })
