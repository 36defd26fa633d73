-- What the code makes of numbers and of the operands of tests and switches.
use Rattle.run_facts.specs.ValueAnalysis.{Numbers}
use Rattle.value_ops.specs.Numbers.{binary_value, compared_value, literal_value, stored_value, unary_value}
use Rattle.value_ops.specs.Tests.{keyed_value, tested_values, unkeyed_value}

abbrev pub operators : Numbers
operators = record {
  unary = unary_value;
  binary = binary_value;
  literal = literal_value;
  compared = compared_value;
  stored = stored_value;
  tested = tested_values;
  keyed = keyed_value;
  unkeyed = unkeyed_value;
}
