-- What rules keep of a program where some of them have a condition: the table of the rules without one and of the instances that hold where
-- something is live by such a table, the least such rules.
use Rattle.std.specs.Prelude.{◌≡◌, ◌⊎◌, ℕ, List, [], ◌++◌, Contains}
use Rattle.call_graph.specs.Closed.{IsClosedSet}
use Rattle.call_graph.specs.Least.{IsLeastSet}
use Rattle.call_graph.specs.declared.live_set.LiveSet.{LiveSet}
use Rattle.keep_rules.specs.Table.{IsTable}
use Rattle.program_model.specs.declared.pass.Outside.{Outside}
use Rattle.program_model.specs.declared.program.Program.{Program}
use Rattle.rule_text.specs.Faults.{SpellsRules, HasRuleFault}
use Rattle.rule_text.specs.Rules.{Entry}
use Rattle.rule_text.specs.declared.fault.RuleFault.{RuleFault}
use Rattle.if_text.specs.Items.{IfRule, Item, SpellsItems, plain_of, ifs_of}
use Rattle.if_rules.specs.Instances.{Holds, Texts, instance_text}

-- rules that the texts of instances spell which hold where these are live
pub data ComeFrom (p : Program) (s : LiveSet) (ifs : List IfRule) : List Entry → Type 0 where
  Nowhere : ComeFrom p s ifs []
  Behind : (before es : List Entry) (r : IfRule) (x : Texts) → ComeFrom p s ifs before → Contains ifs r → Holds p s r x → SpellsRules (instance_text r x) es → ComeFrom p s ifs (before ++ es)

-- What is live by a table: the least set that holds all that the table keeps and all that something in it entails.
pub record IsLiveBy (p : Program) (o : Outside) (s : LiveSet) : Type 0 where
  pub closed : IsClosedSet p o s
  pub least : IsLeastSet p o s

-- The rules without a condition, and behind them in turn instances that hold where something is live by the table of those before.
pub data Fires (p : Program) (plain : List Entry) (ifs : List IfRule) : List Entry → Type 0 where
  Plain : Fires p plain ifs plain
  Round : (before new : List Entry) (o : Outside) (s : LiveSet) → Fires p plain ifs before → IsTable p before o → IsLiveBy p o s → ComeFrom p s ifs new → Fires p plain ifs (before ++ new)

-- the text spells rules that are among these
pub record AreAdded (text : List ℕ) (entries : List Entry) : Type 0 where
  pub rules : List Entry
  pub spells : SpellsRules text rules
  pub among : (e : Entry) → Contains rules e → Contains entries e

-- the text spells no rules: this fault stands in it
pub record SpellsNone (text : List ℕ) : Type 0 where
  pub fault : RuleFault
  pub has : HasRuleFault text fault

-- No instance is left that holds by the table.
pub record IsSettled (p : Program) (plain : List Entry) (ifs : List IfRule) (o : Outside) : Type 0 where
  pub entries : List Entry
  pub fires : Fires p plain ifs entries
  pub table : IsTable p entries o
  pub live : LiveSet
  pub is_live : IsLiveBy p o live
  pub none : (r : IfRule) (x : Texts) → Contains ifs r → Holds p live r x → AreAdded (instance_text r x) entries ⊎ SpellsNone (instance_text r x)

-- the table of rules some of which may have a condition
pub data IsTableOf (p : Program) (items : List Item) (o : Outside) : Type 0 where
  Without : ifs_of items ≡ [] → IsTable p (plain_of items) o → IsTableOf p items o
  With : IsSettled p (plain_of items) (ifs_of items) o → IsTableOf p items o

-- the table of the rules that a text spells
pub record IsRuled (text : List ℕ) (p : Program) (o : Outside) : Type 0 where
  pub items : List Item
  pub spells : SpellsItems text items
  pub table : IsTableOf p items o
