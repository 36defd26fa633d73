use Rattle.std.proofs.Common.{◌≡◌, true, sym, ◌∙◌}
use Rattle.std.specs.Prelude.{Some, None}
use Rattle.std.proofs.lemmas.Result.{IfOk-weaker}
use Rattle.dalvik_lookups.specs.Views.{type_text}
use Rattle.dalvik_state.specs.Views.{names_in, world_of}
use Rattle.dalvik_state.specs.Worlds.{kind_in, spots_of}
use Rattle.dalvik_act.proofs.Instances.{instance_none, instance_null, instance_some, kind_stands}
use Rattle.dalvik_act.proofs.plain.is_instance.Goals as goal

pub returns-then-is_null-clause-answer : goal.returns-then-is_null-clause-answer
returns-then-is_null-clause-answer c = λ t.
    let l = c.args.tables.now.lookups in
    instance_null l (world_of (names_in l) c.args.world.now) c.args.datum (type_text l.types c.args.kind) (sym c.is_null.ensures ∙ c.if-is_null.true)

pub returns-in-Some-clause-answer : goal.returns-in-Some-clause-answer
returns-in-Some-clause-answer c = λ t.
    let l = c.args.tables.now.lookups in
    let w = c.args.world.now in
    let d = c.args.datum in
    let types = t.right.tabled.named.types in
    let there : kind_in (spots_of w) d ≡ Some c.in-Some.own = cc in
    IfOk-weaker c.is_under.result _ _ (λ r e. instance_some l w d c.in-Some.own c.args.kind r types t.sound.kinds there e)
    (c.is_under.ensures.answer t.right t.kept (kind_stands l w d c.in-Some.own types t.sound there) t.kind)

pub returns-in-Some-clause-kept : goal.returns-in-Some-clause-kept
returns-in-Some-clause-kept c = λ t.
    let l = c.args.tables.now.lookups in
    let w = c.args.world.now in
    let d = c.args.datum in
    let there : kind_in (spots_of w) d ≡ Some c.in-Some.own = cc in
    c.is_under.ensures.kept t.right t.kept (kind_stands l w d c.in-Some.own t.right.tabled.named.types t.sound there) t.kind

pub returns-in-None-clause-answer : goal.returns-in-None-clause-answer
returns-in-None-clause-answer c = λ t.
    let l = c.args.tables.now.lookups in
    let w = c.args.world.now in
    let nothing : kind_in (spots_of w) c.args.datum ≡ None = cc in
    instance_none l (world_of (names_in l) w) (spots_of w) c.args.datum (type_text l.types c.args.kind) t.fine nothing
