use Rattle.std.proofs.Common.{◌∙◌, ap, false}
use Rattle.std.specs.Prelude.{slice_index_or}
use Rattle.dalvik_lookups.proofs.Spelled.{default_at}
use Rattle.dalvik_lookups.proofs.lookups.Lookups.has_default.Goals as goal

pub returns : goal.returns
returns c = λ r. c.is_on.ensures ∙ ap (λ v. slice_index_or v c.args.class false) (c.as_slice.ensures.value ∙ r.defaults) ∙ default_at c.args.self.now.program.now c.args.class
