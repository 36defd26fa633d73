use Rattle.std.proofs.Common.{◌≡◌, ◌∙◌, None, Some, ap, sym}
use Rattle.std.specs.Prelude.{slice_get}
use Rattle.std.specs.Option.{option_copied}
use Rattle.lemmas.proofs.Options.{none_some, some_same}
use Rattle.loose_methods.specs.Marking.{tested}
use Rattle.loose_methods.proofs.candidates.Judged.is_candidate.Goals as goal

pub returns-in-Some : goal.returns-in-Some
returns-in-Some c = λ q j e under outward.
    let p = c.args.self.now.program.now in
    let m = c.args.method.now in
    let there : slice_get p.methods m.name ≡ Some c.in-Some.name.now = sym c.name_at.ensures ∙ ap option_copied c.in-Some.is in
    c.is_candidate_named.ensures j there under outward ∙ ap (λ x. tested p c.args.kept.now c.args.place.now.class x m) (some_same c.in-Some.name.now q (sym there ∙ e))

pub returns-in-None : goal.returns-in-None
returns-in-None c = λ q j e under outward.
    let p = c.args.self.now.program.now in
    let m = c.args.method.now in
    let none : slice_get p.methods m.name ≡ None = sym c.name_at.ensures ∙ ap option_copied c.in-None.is in
    none_some q (sym none ∙ e)
