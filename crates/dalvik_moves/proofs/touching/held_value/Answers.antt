use Rattle.std.proofs.Common.{sym, ◌∙◌}
use Rattle.dalvik_lookups.specs.Views.{type_text}
use Rattle.dalvik_defs.specs.Names.{is_wide}
use Rattle.dalvik_moves.proofs.FieldMoves.{fine_given, value_new, value_other, zero_given}
use Rattle.dalvik_moves.proofs.touching.held_value.Goals as goal

pub returns-then-is_new-clause-named : goal.returns-then-is_new-clause-named
returns-then-is_new-clause-named c = λ o k field g all r kept are h.
    let l = c.args.tables.now.lookups in
    value_new l o c.args.world.now k kept.place g c.args.on all c.args.taken h are c.zero_of.result (type_text l.types c.args.at.kind) (sym c.is_new.ensures ∙ c.if-is_new.true) (c.zero_of.ensures r.tabled.named.types) kept.text

pub returns-then-is_new-clause-fine : goal.returns-then-is_new-clause-fine
returns-then-is_new-clause-fine c = λ o k field all r sound kept.
    let l = c.args.tables.now.lookups in
    zero_given l c.args.world.now all c.zero_of.result (is_wide (type_text l.types c.args.at.kind)) (c.zero_of.ensures r.tabled.named.types)

pub returns-else-is_new-clause-named : goal.returns-else-is_new-clause-named
returns-else-is_new-clause-named c = λ o k field g all r kept are h.
    value_other c.args.tables.now.lookups o c.args.world.now k kept.place g c.args.on all c.args.taken h are c.field_value.result (sym c.is_new.ensures ∙ c.if-is_new.false) (c.field_value.ensures.named o k field r kept)

pub returns-else-is_new-clause-fine : goal.returns-else-is_new-clause-fine
returns-else-is_new-clause-fine c = λ o k field all r sound kept.
    fine_given c.args.tables.now.lookups c.args.world.now all c.field_value.result (c.field_value.ensures.fine o k field r sound kept)
