use Rattle.std.proofs.Common.{sym, subst}
use Rattle.std.specs.Prelude.{IfOk}
use Rattle.dalvik_lookups.specs.Views.{type_text}
use Rattle.dalvik_state.specs.declared.datum.Datum.{Datum}
use Rattle.dalvik_state.specs.declared.shows.Draft.{Draft}
use Rattle.dalvik_state.specs.Drafts.{given_world, IsDraft, IsDrawn}
use Rattle.dalvik_state.specs.Views.{names_in, value_of}
use Rattle.dalvik_state.proofs.shows.drafted.Goals as goal

pub returns-in-Object : goal.returns-in-Object
returns-in-Object c = λ d.
    let l = c.args.tables.now.lookups in
    let w = c.args.world.now in
    let g = c.args.gifts.now in
    let t = type_text l.types c.args.kind in
    subst (λ (x : Datum). IfOk c.draft_object.result (λ (y : Draft). IsDraft (given_world (names_in l) w g) t (value_of (names_in l) x) y)) (sym c.in-Object.is)
    (c.draft_object.ensures t (subst (IsDrawn l w g) c.in-Object.is d))
