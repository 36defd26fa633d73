use Rattle.std.proofs.Common.{◌≡◌, None, Some, slice_get, ◌∙◌, ap, sym}
use Rattle.std.specs.Option.{option_copied}
use Rattle.keep_rules.proofs.KeepLemmas.{class_has_names}
use Rattle.if_rules.proofs.Grows.{given, no_class}
use Rattle.if_rules.proofs.instances.push_place.Goals as goal

pub returns-in-Some : goal.returns-in-Some
returns-in-Some c = λ rs r formed is of m.
    let at : slice_get c.args.program.now.classes c.args.at.now.class ≡ Some c.in-Some.class.now = sym c.class_there.ensures ∙ ap option_copied c.in-Some.is in
    c.push_class.ensures rs (given c.args.program.now rs c.args.at.now.rule.now c.args.at.now.number c.args.at.now.class c.in-Some.class.now r is of m at) (class_has_names c.args.program.now formed c.args.at.now.class c.in-Some.class.now at)

pub returns-in-None : goal.returns-in-None
returns-in-None c = λ rs r formed is of m.
    let at : slice_get c.args.program.now.classes c.args.at.now.class ≡ None = sym c.class_there.ensures ∙ ap option_copied c.in-None.is in
    absurd (no_class c.args.program.now r c.args.at.now.class at m)
