use Rattle.std.proofs.Common.{sym, ◌∙◌}
use Rattle.verify.proofs.Chained.{chains_of}
use Rattle.verify.proofs.chains.Chains.is_sound.Goals as goal

pub returns-in-None-clause-sound : goal.returns-in-None-clause-sound
returns-in-None-clause-sound c = λ e. chains_of c.args.self.now c.args.classes (sym c.args.self.now.supers.ok.0 ∙ sym c.len.ensures ∙ c.if-len-count.false) (sym c.args.self.now.depths.ok.0 ∙ sym c.len-else-len-count.ensures ∙ c.if-len-count-2.false) (sym c.args.self.now.jumps.ok.0 ∙ sym c.len-else-len-count-2.ensures ∙ c.if-len-count-3.false) c.in-None.ensures.none
