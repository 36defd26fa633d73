-- Why a script is refused.
use Rattle.std.proofs.Common.{ℕ, List, inl, inr}
use Rattle.text_defs.specs.Plays.{IsRefusal}
use Rattle.text_defs.specs.declared.fault.ScriptFault.TheVariants as fault
use Rattle.redex_cli.specs.Refusals.{TraceRefused}
use Rattle.redex_cli.specs.declared.fetching.Inputs.{Inputs}
use Rattle.redex_cli.specs.declared.status.Status.TheVariants.{BadScript}

pub line_refuses : (inputs : Inputs) (text : List ℕ) (line : ℕ) → IsRefusal text (fault.Line line) → TraceRefused inputs text (BadScript line)
line_refuses inputs text line (inl e) = cc
line_refuses inputs text line (inr e) = e
