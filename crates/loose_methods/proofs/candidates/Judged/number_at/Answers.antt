use Rattle.std.proofs.Common.{◌∙◌, ap, sym}
use Rattle.std.specs.Option.{option_copied, option_map}
use Rattle.program_model.specs.declared.program.Method.{Method}
use Rattle.loose_methods.proofs.candidates.Judged.number_at.Goals as goal

pub returns-in-Some : goal.returns-in-Some
returns-in-Some c = sym (ap (option_map (λ (m : Method). m.name)) (sym c.method_at.ensures ∙ ap option_copied c.in-Some.is))

pub returns-in-None : goal.returns-in-None
returns-in-None c = sym (ap (option_map (λ (m : Method). m.name)) (sym c.method_at.ensures ∙ ap option_copied c.in-None.is))
