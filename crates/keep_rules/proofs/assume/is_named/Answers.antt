use Rattle.std.proofs.Common.{◌∙◌, sym, subst}
use Rattle.rule_text.specs.Related.{AreEach, IsMemberOf}
use Rattle.class_defs.proofs.WellFormed.{sound}
use Rattle.keep_rules.proofs.SilentLemmas.{named_by, named_none, proto_there}
use Rattle.keep_rules.proofs.assume.is_named.Goals as goal

pub returns-in_ok-named-in-Some : goal.returns-in_ok-named-in-Some
returns-in_ok-named-in-Some c = λ k formed is. let p = c.args.program.now in
    c.in_ok-named-in-Some.ensures k.members (proto_there p (sound p formed) c.args.number c.in-Some.method.now c.in-Some.ensures) (subst (λ l. AreEach IsMemberOf l k.members) (sym c.as_slice.ensures.value) is.members) ∙ named_by p k c.args.number c.in-Some.method.now c.in-Some.ensures

pub returns-in-None : goal.returns-in-None
returns-in-None c = λ k formed is. named_none c.args.program.now k c.args.number c.in-None.ensures
