use Rattle.class_defs.proofs.WellFormed.{sound}
use Rattle.facts_kept.proofs.Begun.{firsts_named, opened_named}
use Rattle.facts_kept.proofs.Fits.{all_fit}
use Rattle.facts_kept.proofs.Holding.{puts_named}
use Rattle.facts_kept.proofs.closed_bridge.fields_law.Goals as goal

pub returns : goal.returns
returns c p fits outside t holds = record {
  firsts = firsts_named p (sound p fits) outside t holds;
  opened = opened_named p (sound p fits) outside t holds;
  puts = puts_named p (sound p fits) outside t (all_fit p (sound p fits) t) holds;
}
