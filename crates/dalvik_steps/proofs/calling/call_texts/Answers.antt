use Rattle.std.proofs.Common.{sym, ◌∙◌}
use Rattle.dalvik_steps.proofs.calling.call_texts.Goals as goal

pub returns : goal.returns
returns c = λ r low. record {
  class = c.in_ok-class.ensures ∙ (c.class_of_method.ensures r low).text;
  name = c.in_ok-name.ensures;
  proto = c.in_ok-proto.ensures.is r low;
}
