use Rattle.class_defs.proofs.WellFormed.{sound}
use Rattle.keep_rules.proofs.ViewLemmas.{types_are}
use Rattle.keep_rules.proofs.tables.view_of.Goals as goal

pub returns-clause-ready : goal.returns-clause-ready
returns-clause-ready c = λ formed of. record {
  formed = formed;
  of = of;
  types = types_are c.args.program.now (sound c.args.program.now formed) c.in_ok-types_by_name.field-0 c.in_ok-types_by_name.ensures;
  below = c.in_ok-classes_below.ensures;
  methods = c.in_ok-methods_by_class.ensures;
}
