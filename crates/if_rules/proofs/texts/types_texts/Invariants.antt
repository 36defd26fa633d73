use Rattle.std.proofs.Common.{List, length}
use Rattle.dalvik_defs.specs.Naming.{type_at}
use Rattle.rule_text.specs.Related.{AreEach, IsTypeOf}
use Rattle.rule_text.specs.Tokens.{Word}
use Rattle.if_rules.proofs.Takes.{LeftTypes}
use Rattle.if_rules.specs.Lists.{lists_of}
use Rattle.if_rules.proofs.texts.types_texts.Given as goal

abbrev pub invariant-loop-left : goal.invariant-loop-left
invariant-loop-left l = (ws : List Word) → AreEach IsTypeOf l.fn.patterns ws → LeftTypes (type_at l.fn.program) l.left l.rest (lists_of l.out.items) (lists_of l.fn.out.items) ws l.fn.kinds

abbrev pub decreases-loop-left : goal.decreases-loop-left
decreases-loop-left l = length l.left
