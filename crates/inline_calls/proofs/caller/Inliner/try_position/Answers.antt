use Rattle.std.proofs.Common.{refl, sym, ap, ◌∙◌}
use Rattle.std.specs.Option.{option_copied}
use Rattle.inline_calls.proofs.Accepting.{stays}
use Rattle.inline_calls.proofs.Candidates.{no_insn}
use Rattle.inline_calls.proofs.Asks.{no_asks, on_err}
use Rattle.inline_calls.proofs.caller.Inliner.try_position.Goals as goal

pub returns-in-None-clause-asked : goal.returns-in-None-clause-asked
returns-in-None-clause-asked g c =
    no_asks _ _ _ (stays c.args.self.now c.args.caller c.args.cells c.args.position c.args.accepted (no_insn c.args.self.now.known c.args.caller c.args.position (sym c.insn_at.ensures ∙ ap option_copied c.in-None.is)))

pub candidate-requires : goal.candidate-requires
candidate-requires g c = sym c.insn_at.ensures ∙ ap option_copied c.in-Some.is

pub returns-in-None-candidate-clause-asked : goal.returns-in-None-candidate-clause-asked
returns-in-None-candidate-clause-asked g c = no_asks _ _ _ (stays c.args.self.now c.args.caller c.args.cells c.args.position c.args.accepted c.in-None-candidate.ensures)
