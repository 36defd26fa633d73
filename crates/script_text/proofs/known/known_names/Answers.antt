use Rattle.std.proofs.Common.{◌∙◌, ◌==◌, ap, map}
use Rattle.std.specs.List.{slice_split}
use Rattle.script_text.proofs.NameLemmas.{all_known}
use Rattle.script_text.proofs.known.known_names.Goals as goal

pub returns : goal.returns
returns c = λ name. c.loop-known.invariant name ∙ all_known name c.deref-known-items.result.now c.loop-known.known-index c.loop-known-test.false
    (ap (map (λ k. k.now)) c.deref-known-items.ensures.value ∙ c.in_ok-pieces.ensures ∙ ap (slice_split (λ x. x == 10)) c.as_bytes.ensures.value)
