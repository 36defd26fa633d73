use Rattle.std.proofs.Common.{◌≡◌, ℕ, ◌<◌, Some, None}
use Rattle.std.specs.Prelude.{slice_get}
use Rattle.program_model.specs.declared.program.Method.{Method}
use Rattle.facts_check.specs.Tables.{IsOpenEnded}
use Rattle.facts_check.specs.Known.{AreKnown}
use Rattle.facts_check.proofs.entries.are_bare.Given as goal

abbrev pub invariant-loop-method : goal.invariant-loop-method
invariant-loop-method l = AreKnown l.known → (i : ℕ) (m : Method) → i < l.method-index → slice_get l.methods i ≡ Some m → m.body ≡ None → IsOpenEnded l.known m.name
