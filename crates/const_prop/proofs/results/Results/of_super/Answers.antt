use Rattle.std.proofs.Common.{◌≡◌, [], ◌∷◌, ◌∙◌, sym, subst}
use Rattle.std.specs.Prelude.{IfOk, slice_get}
use Rattle.class_defs.specs.Finding.{candidates, is_037}
use Rattle.class_defs.specs.Members.{is_interface}
use Rattle.class_defs.specs.Places.{super_place}
use Rattle.domains.specs.Values.{Parts}
use Rattle.const_prop.specs.Given.{among_value, above_value, super_value}
use Rattle.const_prop.proofs.Finding.{both_on, first_off, second_off}
use Rattle.const_prop.proofs.results.Results.of_super.Goals as goal
use Rattle.const_prop.proofs.results.Results.of_super.Goals.{else-is_interface-via-then-is_interface+else-is_037, else-is_interface-via-else-is_interface}

pub returns-then-is_037 : goal.returns-then-is_037
returns-then-is_037 c = λ k name proto is.
    let p = c.args.self.now.program.now in
    let f = c.args.self.now.facts.now in
    subst (λ (x : Parts). IfOk c.of_interface.result (λ v. v ≡ x))
    (both_on (is_interface (slice_get p.classes c.args.class)) (is_037 p.version) (among_value p f (candidates p (c.args.class ∷ []) name proto)) (above_value p f name proto (super_place p c.args.caller))
    (sym c.is_interface.ensures ∙ c.if-is_interface.true) (sym c.is_037.ensures ∙ c.if-is_037.true))
    (c.of_interface.ensures k name proto is)

pub returns-else-is_interface : goal.returns-else-is_interface
returns-else-is_interface c = λ k name proto is.
    let p = c.args.self.now.program.now in
    let f = c.args.self.now.facts.now in
    let a = is_interface (slice_get p.classes c.args.class) in
    let b = is_037 p.version in
    let x = among_value p f (candidates p (c.args.class ∷ []) name proto) in
    let y = above_value p f name proto (super_place p c.args.caller) in
    let same : y ≡ super_value p f c.args.caller name proto c.args.class = elim c.else-is_interface.branch [
      | else-is_interface-via-then-is_interface+else-is_037 w ↦ second_off a b x y (sym w.is_037.ensures ∙ w.if-is_037.false)
      | else-is_interface-via-else-is_interface w ↦ first_off a b x y (sym c.is_interface.ensures ∙ w.if-is_interface.false)
    ] in
    subst (λ (x : Parts). IfOk c.of_above.result (λ v. v ≡ x)) same (c.of_above.ensures k name proto is)
