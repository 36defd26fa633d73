use Rattle.std.proofs.Common.{◌≡◌, ◌∙◌, ℕ, None, Option, ap, refl, sym}
use Rattle.program_model.specs.declared.program.MethodAt.{MethodAt}
use Rattle.program_model.specs.declared.program.Program.{Program}
use Rattle.class_defs.specs.Finding.{Search, Nothing, Clash, Finds}
use Rattle.call_targets.specs.Bound.{target_found}
use Rattle.call_targets.specs.declared.bound.Target.TheVariants as target
use Rattle.loose_methods.specs.Loose.{number_at}
use Rattle.loose_methods.specs.Sifting.{number_searched}
use Rattle.loose_methods.proofs.candidates.Judged.number_bound.Goals as goal

one : (p : Program) (at : MethodAt) (s : Search) (r : Option ℕ) → r ≡ number_at p at → target.One at ≡ target_found s → r ≡ number_searched p s
one p at Nothing r e f = absurd (cc)
one p at Clash r e f = absurd (cc)
one p at (Finds x) r e f = let z : at ≡ x = cc in e ∙ ap (number_at p) z

none : (p : Program) (s : Search) → target.Nothing ≡ target_found s → None ≡ number_searched p s
none p Nothing f = refl
none p Clash f = refl
none p (Finds x) f = absurd (cc)

clash : (p : Program) (s : Search) → target.Clash ≡ target_found s → None ≡ number_searched p s
clash p Nothing f = refl
clash p Clash f = refl
clash p (Finds x) f = absurd (cc)

pub returns-in-One : goal.returns-in-One
returns-in-One c = λ s e. one c.args.self.now.program.now c.in-One.at s c.number_at.result c.number_at.ensures (sym c.in-One.is ∙ e)

pub returns-in-Nothing : goal.returns-in-Nothing
returns-in-Nothing c = λ s e. none c.args.self.now.program.now s (sym c.in-Nothing.is ∙ e)

pub returns-in-Clash : goal.returns-in-Clash
returns-in-Clash c = λ s e. clash c.args.self.now.program.now s (sym c.in-Clash.is ∙ e)
