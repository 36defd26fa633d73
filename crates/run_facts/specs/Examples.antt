-- What the examples of `examples.rt` say of: a program without code, and an analysis that knows nothing of sums and of tests only what null says.
use Rattle.std.specs.Prelude.{ℕ, List, [], ◌∷◌, map, Some, None}
use Rattle.program_model.specs.declared.program.Version.TheVariants.{V035}
use Rattle.dalvik_defs.specs.Examples.{a_type, b_type, class, program}
use Rattle.dalvik_defs.specs.declared.forms.Form.{Form}
use Rattle.dalvik_defs.specs.declared.program.NamedProgram.{NamedProgram}
use Rattle.domains.specs.Values.{Parts, any_value}
use Rattle.pass_defs.specs.Facts.{Facts}
use Rattle.pass_defs.specs.Analysis.{Analysis}
use Rattle.run_facts.specs.Closed.{edges}
use Rattle.run_facts.specs.ValueAnalysis.{Numbers, tested_values, value_analysis}

-- LB; under LA;
abbrev pub two_classes : NamedProgram
two_classes = program V035 (class a_type 1 [] [] [] ∷ record (class b_type 1 [] [] []) { superclass = a_type } ∷ [])

abbrev pub any_numbers : Numbers
any_numbers = record {
  unary = λ op x. any_value;
  binary = λ op x y. Some any_value;
  literal = λ op x z. Some any_value;
  compared = λ op x y. any_value;
  stored = λ i x. x;
  tested = tested_values;
  keyed = λ z x. Some x;
  unkeyed = λ zs x. Some x;
}

abbrev pub values : Analysis Parts
values = value_analysis two_classes any_numbers

abbrev pub no_facts : Facts Parts
no_facts = record { parameters = λ k i. any_value; results = λ k. any_value; registers = λ k n. None; fields = λ k. any_value }

-- where a form at position 3 goes on, with a value in each register
abbrev pub goes_to : Form → Parts → List ℕ
goes_to f x = map (λ e. e.0) (edges values two_classes no_facts 3 f (λ r. x))

-- and what it then has in register 0
abbrev pub goes_with : Form → Parts → List Parts
goes_with f x = map (λ e. e.1 0) (edges values two_classes no_facts 3 f (λ r. x))
