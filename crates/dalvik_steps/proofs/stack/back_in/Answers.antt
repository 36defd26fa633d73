use Rattle.std.proofs.Common.{refl, sym, subst}
use Rattle.dalvik_state.specs.declared.frame.Frame.{Frame}
use Rattle.dalvik_state.specs.declared.state.Waiting.{Waiting}
use Rattle.dalvik_state.specs.declared.state.Waiting.TheVariants.{Method}
use Rattle.dalvik_state.specs.States.{ChangesIn}
use Rattle.dalvik_steps.specs.Backs.{Backs}
use Rattle.dalvik_steps.proofs.stack.back_in.Goals as goal

pub returns-in-Method : goal.returns-in-Method
returns-in-Method c =
    let after = c.back.new.frame in
    subst (λ (w : Waiting). ChangesIn (Backs c.args.value) w (Method after)) (sym c.in-Method.is) (record { frame = after; is = refl; so = c.back.ensures })
