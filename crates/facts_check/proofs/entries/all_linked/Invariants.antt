use Rattle.std.proofs.Common.{◌≡◌, ℕ, ◌<◌, Some}
use Rattle.std.specs.Prelude.{slice_get}
use Rattle.call_targets.specs.declared.table.Link.{Link}
use Rattle.facts_check.specs.Tables.{IsLinkHeld}
use Rattle.facts_check.specs.Known.{AreKnown}
use Rattle.facts_check.proofs.entries.all_linked.Given as goal

abbrev pub invariant-loop-link : goal.invariant-loop-link
invariant-loop-link l = AreKnown l.known → (i : ℕ) (link : Link) → i < l.link-index → slice_get l.known.targets.now.links.items i ≡ Some link → IsLinkHeld l.known link
