use Rattle.std.proofs.Common.{◌≤◌, List, subst}
use Rattle.std.specs.Prelude.{length}
use Rattle.program_model.specs.declared.program.Class.{Class}
use Rattle.facts_check.proofs.Tabling.{all_added}
use Rattle.facts_check.proofs.methods.fill.Goals as goal

pub returns : goal.returns
returns c = λ known. all_added c.args.known.now c.loop-place.table c.loop-place.place (subst (λ (xs : List Class). length xs ≤ c.loop-place.place) c.as_slice-classes.ensures c.loop-place-test.false) (c.loop-place.invariant known)
