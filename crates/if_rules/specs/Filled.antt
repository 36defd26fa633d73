-- Texts as they are found.
use Rattle.if_rules.specs.Instances.{Texts}
use Rattle.if_rules.specs.Lists.{lists_of}
use Rattle.if_rules.specs.declared.fill.Texts.{Texts as Found}

abbrev pub texts_in : Found → Texts
texts_in x = record { name = lists_of x.name.items; line = lists_of x.line.items }
