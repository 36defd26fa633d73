use Rattle.std.proofs.Common.{ap, ◌∙◌, is_none}
use Rattle.std.specs.Prelude.{◌&&◌}
use Rattle.dalvik_lookups.specs.Tables.{place_named}
use Rattle.dalvik_lookups.specs.Views.{type_text}
use Rattle.dalvik_state.proofs.Taking.{new_named}
use Rattle.dalvik_state.proofs.gifts.Gifts.may_give_new.Goals as goal

pub returns-then-is_class_type : goal.returns-then-is_class_type
returns-then-is_class_type c = λ o w r k.
    let l = c.args.tables.now.lookups in
    let t = type_text l.types c.args.kind in
    c.is_free.ensures r k
    ∙ ap (λ b. b && is_none (place_named l.program.now t)) (c.if-is_class_type.ensures r.tabled.named.types)
    ∙ new_named l r o w t
