use Rattle.std.proofs.Common.{◌≡◌, subst, ap, ◌∙◌, true, nat_eq}
use Rattle.std.specs.List.{list_any}
use Rattle.class_defs.proofs.WellFormed.{sound}
use Rattle.keep_rules.specs.Tried.{HasDescriptor, class_descriptor}
use Rattle.keep_rules.proofs.TriedLemmas.{some_row, none_row, no_candidates, named_candidates}
use Rattle.keep_rules.proofs.names.plain_candidates.Goals as goal

pub returns-in-Some : goal.returns-in-Some
returns-in-Some c = λ w ready is plain star.
    let p = c.args.view.now.program.now in
    named_candidates p (sound p ready.formed) c.args.pattern.now w is plain star c.type_named.result
    (subst (λ t. HasDescriptor p t c.type_named.result) (c.as_slice-in-Some.ensures.value ∙ some_row (λ l. l ≡ class_descriptor c.as_slice.result.now) c.in_ok-units.field-0 c.in-Some.units c.in-Some.is c.in_ok-units.ensures.some ∙ ap class_descriptor c.as_slice.ensures.value) (c.type_named.ensures ready))

pub returns-in-None : goal.returns-in-None
returns-in-None c = λ w ready is plain star. let p = c.args.view.now.program.now in no_candidates p (sound p ready.formed) c.args.pattern.now w is plain star
    (subst (λ l. list_any (nat_eq 47) l ≡ true) c.as_slice.ensures.value (none_row (list_any (nat_eq 47) c.as_slice.result.now ≡ true) c.in_ok-units.field-0 c.in-None.is c.in_ok-units.ensures.none))
