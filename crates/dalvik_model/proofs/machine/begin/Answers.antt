use Rattle.std.proofs.Common.{subst}
use Rattle.std.specs.Prelude.{Option}
use Rattle.dalvik_lookups.specs.Accepting.{IsAccepted}
use Rattle.dalvik_state.specs.declared.state.Tables.{Tables}
use Rattle.dalvik_model.specs.Standing.{AreTables, AreTablesOf}
use Rattle.dalvik_model.proofs.machine.begin.Goals as goal

pub returns-in_ok-parts-in-Some : goal.returns-in_ok-parts-in-Some
returns-in_ok-parts-in-Some c = λ s are.
    let both : IsAccepted s.program × AreTablesOf s c.in-Some.tables = subst (λ (o : Option Tables). AreTables s o) c.in-Some.is are in
    (both.0, c.in_ok-parts-in-Some.ensures s both.1)
