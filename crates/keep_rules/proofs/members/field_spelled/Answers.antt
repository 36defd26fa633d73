use Rattle.keep_rules.proofs.MemberLemmas.{both_texts}
use Rattle.keep_rules.proofs.members.field_spelled.Goals as goal

pub returns : goal.returns
returns c = λ n k is of. both_texts n k c.name_and_type.result _ _ _ _ c.string_units-units.ensures c.descriptor.ensures (c.name_and_type.ensures n k is of)
