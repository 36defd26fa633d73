use Rattle.std.proofs.Common.{refl, true, false, ◌∙◌}
use Rattle.dalvik_lookups.specs.Views.{type_text}
use Rattle.dalvik_state.specs.Giving.{kept_or_free}
use Rattle.dalvik_state.proofs.Taking.{array_class, array_primitive, base_there}
use Rattle.dalvik_state.proofs.gifts.Gifts.may_give_array.Goals as goal

pub returns-then-is_primitive : goal.returns-then-is_primitive
returns-then-is_primitive c = λ o w size r reach k.
    array_primitive c.args.tables.now.lookups r o w c.args.item size k c.plain-base.result c.plain-base.ensures (c.if-is_primitive.ensures r.tabled.named.types)

pub returns-then-is_class_type : goal.returns-then-is_class_type
returns-then-is_class_type c = λ o w size r reach k.
    let l = c.args.tables.now.lookups in
    array_class l r o w c.args.item size k c.plain-base.result c.plain-base.ensures true c.is_kept_or_free.result
    (c.if-is_primitive.ensures r.tabled.named.types) (c.if-is_class_type.ensures r.tabled.named.types)
    (c.is_kept_or_free.ensures o r reach (base_there l r o w c.args.item size k c.plain-base.result c.plain-base.ensures))

pub returns-else-is_class_type : goal.returns-else-is_class_type
returns-else-is_class_type c = λ o w size r reach k.
    let l = c.args.tables.now.lookups in
    c.if-is_class_type.false ∙ array_class l r o w c.args.item size k c.plain-base.result c.plain-base.ensures false (kept_or_free l o (type_text l.types c.plain-base.result))
    (c.if-is_primitive.ensures r.tabled.named.types) (c.if-is_class_type.ensures r.tabled.named.types) refl
