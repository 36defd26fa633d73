use Rattle.std.proofs.Common.{◌≡◌, ap, subst, sym, ◌∙◌}
use Rattle.std.specs.Prelude.{IfOk}
use Rattle.class_defs.proofs.Positions.{entry_at}
use Rattle.dalvik_defs.specs.Naming.{method_at}
use Rattle.dalvik_defs.specs.State.{kind_of}
use Rattle.dalvik_lookups.specs.Facing.{named_search, run_face}
use Rattle.dalvik_lookups.specs.declared.finds.Search.{Search}
use Rattle.dalvik_state.specs.Views.{names_in, value_of, world_of}
use Rattle.dalvik_state.specs.Worlds.{kind_in, spots_of}
use Rattle.dalvik_state.specs.declared.datum.Datum.{Datum}
use Rattle.dalvik_state.proofs.Gifted.{kind_there}
use Rattle.dalvik_steps.specs.Invoking.{receiver_in}
use Rattle.dalvik_steps.proofs.Searching.{virtually_none}
use Rattle.dalvik_steps.proofs.Sought.{virtually_of}
use Rattle.dalvik_steps.proofs.calling.finds_virtually.Goals as goal

pub returns-in-Some-clause-kept : goal.returns-in-Some-clause-kept
returns-in-Some-clause-kept c = λ r kept sound low.
    let l = c.args.tables.now.lookups in
    let q = entry_at l.program.now.methods c.args.call.now.method low in
    c.virtually.ensures.kept q.0 r kept (kind_there l (spots_of c.args.world.now) c.receiver_of.result c.in-Some.kind r.tabled.named.types sound.kinds (sym c.in-Some.ensures)) q.1

pub returns-in-Some-clause-is : goal.returns-in-Some-clause-is
returns-in-Some-clause-is c = λ r kept sound low.
    let l = c.args.tables.now.lookups in
    let w = c.args.world.now in
    let m = c.args.call.now.method in
    let is = sym c.in-Some.ensures in
    subst (λ (d : Datum). IfOk c.virtually.result (λ (s : Search). named_search l.program.now s ≡ (run_face l).virtually (kind_of (world_of (names_in l) w) (value_of (names_in l) d)) (method_at l.program.now m))) (c.receiver_of.ensures ∙ ap receiver_in c.as_slice.ensures.value)
    (virtually_of l r w c.receiver_of.result c.in-Some.kind m sound low is c.virtually.result
    (λ q e. c.virtually.ensures.is q r kept (kind_there l (spots_of w) c.receiver_of.result c.in-Some.kind r.tabled.named.types sound.kinds is) e))

pub returns-in-None-clause-is : goal.returns-in-None-clause-is
returns-in-None-clause-is c = λ r kept sound low.
    let l = c.args.tables.now.lookups in
    virtually_none l r c.args.world.now (receiver_in c.args.call.now.values.items) c.args.call.now.method sound low (ap (kind_in (spots_of c.args.world.now)) (sym (c.receiver_of.ensures ∙ ap receiver_in c.as_slice.ensures.value)) ∙ sym c.in-None.ensures)
