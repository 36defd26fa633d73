use Rattle.std.proofs.Common.{◌≡◌, subst, map}
use Rattle.std.specs.Prelude.{IfOk}
use Rattle.class_defs.proofs.WellFormed.{sound}
use Rattle.dalvik_defs.specs.Naming.{mark_of}
use Rattle.rule_defs.specs.Members.{has_mark}
use Rattle.keep_rules.proofs.PlaceLemmas.{mark_there, mark_nowhere}
use Rattle.keep_rules.proofs.above.has_mark_there.Goals as goal

pub returns-in-Some : goal.returns-in-Some
returns-in-Some c = λ w ready l is. let p = c.args.view.now.program.now in
    mark_there p (sound p ready.formed) c.args.kind l w c.in-Some.class.now c.mark_holds.result (c.in-Some.ensures ready.of) (subst (λ ms. IfOk c.mark_holds.result (λ b. b ≡ has_mark w (map (mark_of p) ms))) c.as_slice.ensures (c.mark_holds.ensures w is))

pub returns-in-None : goal.returns-in-None
returns-in-None c = λ w ready l is. let p = c.args.view.now.program.now in mark_nowhere p (sound p ready.formed) c.args.kind l w (c.in-None.ensures ready.of)
