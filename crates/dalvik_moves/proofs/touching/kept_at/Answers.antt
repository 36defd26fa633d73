use Rattle.std.proofs.Common.{◌∙◌, refl, sym}
use Rattle.std.specs.Prelude.{Some}
use Rattle.dalvik_moves.proofs.KeptFields.{field_there_at, kept_not, kept_nowhere, kept_some}
use Rattle.dalvik_moves.proofs.touching.kept_at.Goals as goal

pub returns-then-keeps_field : goal.returns-then-keeps_field
returns-then-keeps_field c = λ o class name kind r reach f.
    let l = c.args.tables.now.lookups in
    kept_some l r class name kind o (Some c.args.at) c.args.at c.in-Some.field.now f refl (field_there_at l.program.now c.args.at c.in-Some.field.now c.in-Some.ensures) (sym (c.keeps_field.ensures l.program.now o reach.members) ∙ c.if-keeps_field.true)

pub returns-else-keeps_field : goal.returns-else-keeps_field
returns-else-keeps_field c = λ o class name kind r reach f.
    let l = c.args.tables.now.lookups in
    kept_not l r class name kind o (Some c.args.at) c.args.at c.in-Some.field.now f refl (field_there_at l.program.now c.args.at c.in-Some.field.now c.in-Some.ensures) (sym (c.keeps_field.ensures l.program.now o reach.members) ∙ c.if-keeps_field.false)

pub returns-in-None : goal.returns-in-None
returns-in-None c = λ o class name kind r reach f.
    kept_nowhere c.args.tables.now.lookups r class name kind o (Some c.args.at) c.args.at f refl c.in-None.ensures
