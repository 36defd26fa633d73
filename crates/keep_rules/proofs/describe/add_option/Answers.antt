use Rattle.std.proofs.Common.{subst}
use Rattle.keep_rules.specs.Described.{is_class_named, IsClassOf}
use Rattle.keep_rules.proofs.DescribedLemmas.{listed_none, listed_one}
use Rattle.keep_rules.proofs.describe.add_option.Goals as goal

pub returns-in_ok-push-in-Some : goal.returns-in_ok-push-in-Some
returns-in_ok-push-in-Some c = λ p t is. listed_one p (λ n. is_class_named p n t) c.args.out.now.items _ c.in-Some.kind c.in_ok-push-in-Some.ensures.items (subst (IsClassOf p t) c.in-Some.is is)

pub returns-in-None : goal.returns-in-None
returns-in-None c = λ p t is. listed_none p (λ n. is_class_named p n t) c.args.out.now.items (subst (IsClassOf p t) c.in-None.is is)
