use Rattle.std.proofs.Common.{ap, length, subst, sym, ◌∙◌, []}
use Rattle.std.specs.Prelude.{IfOk}
use Rattle.dalvik_defs.specs.Names.{Text}
use Rattle.dalvik_lookups.specs.Views.{type_text}
use Rattle.dalvik_state.specs.Drafts.{kind_text, IsDraft}
use Rattle.dalvik_state.specs.Views.{names_in, value_of, world_of}
use Rattle.dalvik_state.specs.Worlds.{spots_of}
use Rattle.dalvik_state.specs.declared.shows.Draft.{Draft}
use Rattle.dalvik_steps.proofs.LockDrafts.{number_draft, ok_map}
use Rattle.dalvik_steps.proofs.Searching.{kind_named}
use Rattle.dalvik_steps.proofs.objects.draft_locked.Goals as goal

pub returns-in-Some : goal.returns-in-Some
returns-in-Some c = λ r w fine some.
    let l = c.args.tables.now.lookups in
    let n = names_in l in
    subst (λ (t : Text). IfOk c.draft_as.result (λ (x : Draft). IsDraft (world_of n c.args.world.now) t (value_of n c.args.datum) x)) (sym (kind_named l c.args.world.now c.args.datum r.tabled.named.types w.kinds ∙ ap (kind_text l) (sym c.in-Some.ensures)))
    (c.draft_as.ensures r w fine)

pub returns-in-None : goal.returns-in-None
returns-in-None c = λ r w fine some.
    let l = c.args.tables.now.lookups in
    let n = names_in l in
    let v = value_of n c.args.datum in
    let t = type_text l.types c.plain.result in
    subst (λ (t : Text). IfOk c.draft_as-in-None.result (λ (x : Draft). IsDraft (world_of n c.args.world.now) t v x)) (sym (kind_named l c.args.world.now c.args.datum r.tabled.named.types w.kinds ∙ ap (kind_text l) (sym c.in-None.ensures)))
    (ok_map (λ (x : Draft). IsDraft (world_of n c.args.world.now) t v x) (λ (x : Draft). IsDraft (world_of n c.args.world.now) [] v x) c.draft_as-in-None.result (λ x h. number_draft n (world_of n c.args.world.now) t (spots_of c.args.world.now) c.args.datum x (sym c.in-None.ensures) fine some h) (c.draft_as-in-None.ensures r w fine))
