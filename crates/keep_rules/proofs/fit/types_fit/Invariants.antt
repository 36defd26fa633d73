use Rattle.std.proofs.Common.{◌≡◌, List, drop, map}
use Rattle.rule_text.specs.Tokens.{Word}
use Rattle.rule_text.specs.Related.{AreEach, IsTypeOf}
use Rattle.dalvik_defs.specs.Naming.{type_at}
use Rattle.rule_defs.specs.Patterns.{types_fit}
use Rattle.keep_rules.proofs.fit.types_fit.Given as goal

-- those gone through fit
abbrev pub invariant-loop-place : goal.invariant-loop-place
invariant-loop-place l = (ws : List Word) → AreEach IsTypeOf l.patterns ws → types_fit (drop l.place ws) (map (type_at l.program) (drop l.place l.kinds)) ≡ types_fit ws (map (type_at l.program) l.kinds)
