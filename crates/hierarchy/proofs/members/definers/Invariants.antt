use Rattle.hierarchy.specs.Membership.{AreShort}
use Rattle.hierarchy.proofs.Definers.{DefinersTo}
use Rattle.hierarchy.proofs.members.definers.Given as goal

abbrev pub invariant-loop-place : goal.invariant-loop-place
invariant-loop-place l = AreShort l.rows.rows → DefinersTo l.rows.rows l.count l.place l.definers.rows
