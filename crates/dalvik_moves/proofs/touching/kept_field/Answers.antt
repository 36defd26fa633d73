use Rattle.std.proofs.Common.{subst}
use Rattle.std.specs.Prelude.{Option}
use Rattle.dalvik_lookups.specs.Playing.{IsField}
use Rattle.dalvik_lookups.specs.declared.plays.FieldAt.{FieldAt}
use Rattle.dalvik_moves.proofs.KeptFields.{kept_none}
use Rattle.dalvik_moves.proofs.touching.kept_field.Goals as goal

pub returns-in-Some : goal.returns-in-Some
returns-in-Some c = λ o class name kind r reach f.
    let l = c.args.tables.now.lookups in
    c.kept_at.ensures o class name kind r reach (subst (λ (x : Option FieldAt). IsField l.program.now l.types class name kind x) c.in-Some.is f)

pub returns-in-None : goal.returns-in-None
returns-in-None c = λ o class name kind r reach f. kept_none c.args.tables.now.lookups r class name kind o c.args.at f c.in-None.is
