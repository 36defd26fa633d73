use Rattle.std.proofs.Common.{inl, inr, sym, ◌∙◌}
use Rattle.call_graph.proofs.tables.add_key.Goals as goal

pub returns-in_ok-add_once-clause-only : goal.returns-in_ok-add_once-clause-only
returns-in_ok-add_once-clause-only c = λ name all key i. elim (c.in_ok-add_once.ensures.only key i) [
  | inl old ↦ all key old
  | inr same ↦ record {
    number = c.args.number;
    name = c.args.name.now;
    is_name = name;
    common = sym c.is_common.ensures ∙ c.if-is_common.true;
    keyed = same ∙ c.key_of_method.ensures.table;
  }
]
