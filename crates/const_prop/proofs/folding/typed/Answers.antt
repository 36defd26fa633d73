use Rattle.std.proofs.Common.{◌≡◌, [], ◌∷◌, ◌++◌, Some, ap, ◌∙◌, sym}
use Rattle.std.specs.Prelude.{slice_get}
use Rattle.std.specs.Option.{option_copied}
use Rattle.std.proofs.lemmas.Option.{slice_get-get_or}
use Rattle.const_prop.specs.Folds.{edits_of, table_of}
use Rattle.const_prop.proofs.Found.{typed_more}
use Rattle.const_prop.proofs.folding.typed.Goals as goal

pub loop-fold-preserved : goal.loop-fold-preserved
loop-fold-preserved c =
    let t = table_of (option_copied c.args.typings) in
    let b = c.args.body.now in
    let xs = c.args.folds.now in
    let i = c.loop-fold.fold-index in
    let x = c.fold-item.result in
    let there : slice_get xs i ≡ Some x = slice_get-get_or xs i x c.loop-fold-test.true ∙ ap (λ y. Some y) (sym c.fold-item.is) in
    c.in_ok-add_typed.ensures ∙ (ap (λ l. l ++ edits_of t b (x ∷ [])) c.loop-fold.invariant ∙ sym (typed_more t b xs i x there))
