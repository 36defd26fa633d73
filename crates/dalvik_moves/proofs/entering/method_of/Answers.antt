use Rattle.std.proofs.Common.{◌≡◌, ◌∙◌, ap, sym, subst}
use Rattle.std.specs.Prelude.{None, Option, option_and_then}
use Rattle.name_bridge.specs.Named.{found_at}
use Rattle.dalvik_defs.specs.Find.{Found}
use Rattle.dalvik_lookups.specs.Facing.{run_face}
use Rattle.dalvik_lookups.proofs.Facing.{right_face}
use Rattle.dalvik_moves.specs.Moving.{MemberMaybe}
use Rattle.dalvik_moves.proofs.entering.method_of.Goals as goal

pub returns-in-Some : goal.returns-in-Some
returns-in-Some c = λ class name proto r is.
    let l = c.args.tables.now.lookups in
    c.method_there.ensures ((run_face l).declared class name proto) ((right_face l r).declared class name proto ∙ ap (option_and_then (found_at l.program.now)) (sym is ∙ c.in-Some.is))

pub returns-in-None : goal.returns-in-None
returns-in-None c = λ class name proto r is.
    let l = c.args.tables.now.lookups in
    let none : (run_face l).declared class name proto ≡ None = (right_face l r).declared class name proto ∙ ap (option_and_then (found_at l.program.now)) (sym is ∙ c.in-None.is) in
    subst (λ (a : Option Found). MemberMaybe l a None) (sym none) tt
