use Rattle.std.proofs.Common.{◌≡◌, ◌∙◌, ap, refl, sym, true}
use Rattle.lemmas.proofs.Bools.{clash}
use Rattle.class_defs.proofs.Positions.{number_test}
use Rattle.loose_methods.specs.Loose.{is_it, is_this, number_found}
use Rattle.loose_methods.specs.Marking.{is_on}
use Rattle.loose_methods.proofs.Plain.{one_plain, plain_known}
use Rattle.loose_methods.proofs.candidates.Judged.keeps_number.Goals as goal

pub returns-then-not-is_on : goal.returns-then-not-is_on
returns-then-not-is_on c = λ o j e cand static number.
    let p = c.args.self.now.program.now in
    one_plain p c.args.self.now.hierarchy.now j.formed j.resolved o c.args.loose.now cand c.args.called c.args.name.now e c.args.number (ap (number_found p) static ∙ number)
    (λ m. clash (is_on c.args.loose.now c.args.number) m (sym c.is_on.ensures ∙ c.if-not-is_on.true))

pub returns : goal.returns
returns c = λ o j e cand static number.
    let p = c.args.self.now.program.now in
    let on = sym c.is_on.ensures ∙ c.if-not-is_on.false in
    let it : is_it p c.args.number c.args.at ≡ true = ap (is_this c.args.number) number ∙ number_test c.args.number c.args.number refl in
    plain_known p c.args.self.now.hierarchy.now j.formed j.resolved o c.args.loose.now cand c.args.called c.args.name.now e c.args.number (ap (number_found p) static ∙ number) c.in_ok-plain.plain
    (c.in_ok-plain.ensures j e static o c.args.number (cand c.args.number on) it)
