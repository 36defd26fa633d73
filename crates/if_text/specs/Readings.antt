-- What was read of a text with conditions.
use Rattle.std.specs.Prelude.{◌≡◌, ℕ, List, map}
use Rattle.rule_text.specs.Related.{AreEach, IsClassOf, AreEntriesOf}
use Rattle.if_text.specs.Parts.{parts_of}
use Rattle.if_text.specs.Wildcards.{slots}
use Rattle.if_text.specs.Items.{IfRule, Item, SpellsItems, plain_of, ifs_of}
use Rattle.if_text.specs.declared.rules.IfRule.{IfRule as ReadIf}
use Rattle.if_text.specs.declared.rules.IfRules.{IfRules}

pub record IsIfOf (read : ReadIf) (r : IfRule) : Type 0 where
  pub condition : IsClassOf read.condition r.condition
  pub slots : read.slots.items ≡ slots r.condition
  pub words : map (λ parts. parts.items) read.words.items ≡ map parts_of r.words

-- the rules and options that these items are, those with a condition apart
pub record AreRead (items : List Item) (rules : IfRules) : Type 0 where
  pub plain : AreEntriesOf rules.plain.entries.items (plain_of items)
  pub ifs : AreEach IsIfOf rules.ifs.items (ifs_of items)

-- the rules that the text spells were read
pub record IsIfReading (text : List ℕ) (rules : IfRules) : Type 0 where
  pub items : List Item
  pub spells : SpellsItems text items
  pub read : AreRead items rules
