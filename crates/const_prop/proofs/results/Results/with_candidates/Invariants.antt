use Rattle.std.proofs.Common.{◌≡◌, take}
use Rattle.std.specs.Prelude.{fold}
use Rattle.const_prop.specs.Given.{with_found}
use Rattle.const_prop.proofs.results.Results.with_candidates.Given as goal

abbrev pub invariant-loop-candidate : goal.invariant-loop-candidate
invariant-loop-candidate l = l.known ≡ fold (with_found l.self.program.now l.self.facts.now) l.fn.first (take l.candidate-index l.candidates)
