use Rattle.std.proofs.Common.{◌≡◌, take}
use Rattle.std.specs.Prelude.{◌&&◌, not, filter}
use Rattle.program_model.specs.Lookups.{method_at}
use Rattle.class_defs.specs.Members.{has_code}
use Rattle.class_defs.specs.Finding.{verdict}
use Rattle.hierarchy.specs.Giving.{search_given}
use Rattle.hierarchy.specs.Walking.{is_seen}
use Rattle.hierarchy.proofs.find.given_unseen.Given as goal

abbrev pub invariant-loop-candidate : goal.invariant-loop-candidate
invariant-loop-candidate l = search_given l.given ≡ verdict (filter (λ f. has_code (method_at l.program f) && not (is_seen l.walk f.class)) (take l.candidate-index l.candidates))
