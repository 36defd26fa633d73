use Rattle.rule_laws.proofs.Plain.{no_plain_fault}
use Rattle.rule_laws.proofs.Refuted.{no_item_fault}
use Rattle.rule_laws.proofs.laws.one_outcome_law.Goals as goal

pub returns : goal.returns
returns c = record { plain = no_plain_fault; all = no_item_fault }
