use Rattle.std.proofs.Common.{◌≡◌, None, take}
use Rattle.std.specs.Prelude.{position}
use Rattle.program_model.specs.Texts.{string_text}
use Rattle.call_graph.specs.Bases.{same_text, object_text}
use Rattle.call_targets.proofs.looks.object_kind.Given as goal

abbrev pub invariant-loop-string : goal.invariant-loop-string
invariant-loop-string l = record {
  at_string : l.place ≡ l.string-index;
  none : position (λ s. same_text (string_text l.at.program.now s) object_text) (take l.string-index l.at.program.now.types) ≡ None;
}
