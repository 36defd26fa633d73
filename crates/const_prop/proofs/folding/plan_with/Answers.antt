use Rattle.std.proofs.Common.{ap, ◌∙◌, refl}
use Rattle.std.proofs.lemmas.Result.{IfOk-weaker}
use Rattle.dom_frame.specs.declared.classes.Classes.{Classes}
use Rattle.class_places.specs.Words.{word_of}
use Rattle.class_places.proofs.Places.{known_classes}
use Rattle.rewrite_pass.specs.Plans.{IsPlan}
use Rattle.const_prop.specs.Folds.{FoldsWell, IsFoldPlan}
use Rattle.const_prop.proofs.Judging.{plan_becomes, plan_folds}
use Rattle.const_prop.proofs.folding.plan_with.Goals as goal

pub returns-clause-becomes : goal.returns-clause-becomes
returns-clause-becomes c =
    let p = c.args.program.now in
    let h = c.args.hierarchy.now in
    let f = c.args.facts.now in
    let l : Classes = record { places = c.args.places; count = c.word.result; hierarchy = c.args.hierarchy } in
    let a = c.args.admitted.now.methods.items in
    IfOk-weaker c.plan_program.result (IsPlan (FoldsWell p h f l) a p.classes) _ (plan_becomes p h f l a) c.plan_program.ensures

pub returns-clause-folded : goal.returns-clause-folded
returns-clause-folded c = λ well resolved.
    let p = c.args.program.now in
    let h = c.args.hierarchy.now in
    let f = c.args.facts.now in
    let l : Classes = record { places = c.args.places; count = c.word.result; hierarchy = c.args.hierarchy } in
    let a = c.args.admitted.now.methods.items in
    IfOk-weaker c.plan_program.result (IsPlan (FoldsWell p h f l) a p.classes) (IsFoldPlan p h f a) (λ plan all. plan_folds p h f l a plan all resolved (known_classes p h l well resolved c.requires (c.word.ensures ∙ ap word_of c.len.ensures) refl)) c.plan_program.ensures
