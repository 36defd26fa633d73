use Rattle.std.proofs.Common.{ap, ◌∙◌, is_none}
use Rattle.std.specs.Prelude.{◌||◌}
use Rattle.dalvik_lookups.specs.Tables.{place_named}
use Rattle.dalvik_lookups.specs.Views.{type_text}
use Rattle.dalvik_state.proofs.gifts.is_kept_or_free.Goals as goal

pub returns-then-keeps_class : goal.returns-then-keeps_class
returns-then-keeps_class c = λ o r reach k.
    let l = c.args.tables.now.lookups in
    let t = type_text l.types c.args.kind in
    c.if-keeps_class.true ∙ ap (λ b. b || is_none (place_named l.program.now t)) (c.if-keeps_class.ensures l.program.now o l.types reach.classes k)

pub returns-else-keeps_class : goal.returns-else-keeps_class
returns-else-keeps_class c = λ o r reach k.
    let l = c.args.tables.now.lookups in
    let t = type_text l.types c.args.kind in
    c.is_free.ensures r k ∙ ap (λ b. b || is_none (place_named l.program.now t)) (c.if-keeps_class.ensures l.program.now o l.types reach.classes k)
