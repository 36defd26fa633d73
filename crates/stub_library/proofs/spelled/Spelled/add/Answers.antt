use Rattle.std.proofs.Common.{◌∙◌, sym}
use Rattle.stub_library.proofs.spelled.Spelled.add.Goals as goal

pub returns-clause-names : goal.returns-clause-names
returns-clause-names c = λ texts n are is. c.in_ok-add.ensures texts n are (is ∙ sym c.name_units.ensures)
