use Rattle.class_defs.proofs.WellFormed.{sound}
use Rattle.removal_bridge.proofs.Formed.{no_object}
use Rattle.facts_kept.specs.Names.{named_facts}
use Rattle.facts_kept.proofs.Edges.{edges_same}
use Rattle.facts_kept.proofs.Fielding.{gets_same}
use Rattle.facts_kept.proofs.closed_bridge.edges_law.Goals as goal

pub returns : goal.returns
returns c p fits once t n i h x = edges_same p (sound p fits) once (no_object p fits) (named_facts p t) t (gets_same p (sound p fits) t once (no_object p fits)) n i h x
