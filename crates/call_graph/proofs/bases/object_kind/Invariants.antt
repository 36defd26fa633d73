use Rattle.std.proofs.Common.{◌≡◌, None, take}
use Rattle.std.specs.Prelude.{position}
use Rattle.program_model.specs.Texts.{string_text}
use Rattle.call_graph.specs.Bases.{same_text, object_text}
use Rattle.call_graph.proofs.bases.object_kind.Given as goal

abbrev pub invariant-loop-string : goal.invariant-loop-string
invariant-loop-string l = record {
  at_string : l.place ≡ l.string-index;
  none : position (λ s. same_text (string_text l.program s) object_text) (take l.string-index l.program.types) ≡ None;
}
