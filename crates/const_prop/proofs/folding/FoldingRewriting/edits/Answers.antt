use Rattle.std.proofs.Common.{◌≡◌, ap, ◌∙◌}
use Rattle.std.specs.List.{list_any}
use Rattle.std.specs.Option.{option_copied}
use Rattle.std.proofs.lemmas.Result.{IfOk-weaker}
use Rattle.const_prop.specs.Folds.{is_asked, edits_of, table_of, FoldsWell}
use Rattle.const_prop.proofs.Judging.{folds_well}
use Rattle.const_prop.proofs.folding.FoldingRewriting.edits.Goals as goal

pub returns : goal.returns
returns c =
    let s = c.args.self.now.results in
    let m = c.args.method.now in
    let b = c.args.body.now in
    let xs = c.in_ok-folds.folds.items in
    let t = table_of c.in_ok-typings.typings in
    IfOk-weaker c.typed.result (λ v. v.items ≡ edits_of (table_of (option_copied c.as_ref.result)) b c.deref-2.result.now) (λ v. FoldsWell s.program.now s.hierarchy.now s.facts.now s.classes c.args.at m b v.items)
    (λ v e. folds_well s c.args.self.now.verifier c.args.at m b xs t v.items c.requires c.in_ok-folds.ensures.found c.in_ok-folds.ensures.are
    (λ y. c.in_ok-typings.ensures (c.is_any_asked-asked.ensures ∙ (ap (list_any (is_asked b)) c.deref.ensures.value ∙ y)))
    (e ∙ (ap (λ o. edits_of (table_of o) b c.deref-2.result.now) c.as_ref.ensures.value ∙ ap (edits_of t b) c.deref-2.ensures.value)))
    c.typed.ensures
