use Rattle.std.proofs.Common.{ap, refl, sym, ◌∙◌, ◌+◌, ◌≤◌, subst, length, length-append, ◌∷◌, []}
use Rattle.std.specs.Prelude.{ℕ, Some, vec_capacity, vec_len}
use Rattle.dalvik_defs.specs.Show.{show}
use Rattle.dalvik_defs.specs.State.{World as NamedWorld, fresh, next_object, with_thing}
use Rattle.dalvik_lookups.specs.Views.{type_text}
use Rattle.dalvik_state.specs.Drafts.{IsDraft}
use Rattle.dalvik_state.specs.Views.{names_in, world_of}
use Rattle.dalvik_state.specs.Worlds.{new_spot, spots_of}
use Rattle.dalvik_state.specs.declared.shows.Draft.TheVariants as draft
use Rattle.dalvik_state.specs.declared.world.Thing.TheVariants as thing
use Rattle.dalvik_steps.proofs.Made.{instance_named, instance_sound, made_draft}
use Rattle.dalvik_steps.proofs.Nexts.{err_of}
use Rattle.dalvik_steps.proofs.Reserved.{items_heap}
use Rattle.dalvik_steps.proofs.objects.add_shown.Goals as goal

pub returns-clause-made : goal.returns-clause-made
returns-clause-made c = λ l room w fine text.
    let n = names_in l in
    let old = c.args.world.now in
    let mid = c.add.new.self in
    let k = type_text l.types c.args.kind in
    let heap = c.in_ok-reference.ensures.heap in
    let named = instance_named n old mid c.args.kind heap w.written in
    let size = ap length heap.heap ∙ length-append (spots_of old) (new_spot (thing.Instance c.args.kind) ∷ []) in
    let drafted = subst (λ (x : ℕ). IsDraft (world_of n mid) k (next_object (world_of n old)) (draft.Object x (Some c.args.text))) (sym c.next_number-number.ensures.is) (made_draft n old (world_of n mid) k c.args.text k named text) in
    let shown = c.show.ensures.shown l k (next_object (world_of n old)) (instance_sound l old mid c.args.kind heap fine w) (record { room = subst (λ v. vec_len v + 1 ≤ vec_capacity v) (sym heap.exposed) room.room }) drafted in
    record {
      reference = c.in_ok-reference.ensures.datum;
      shown = ap (λ (u : NamedWorld). show u k (next_object (world_of n old))) (sym named) ∙ shown.shown;
      sound = shown.sound;
      size = shown.stands.size ∙ size;
      locks = ap (λ m. m.entries) (shown.stands.locks ∙ heap.locks);
    }

pub returns-in_err-reference-clause-err : goal.returns-in_err-reference-clause-err
returns-in_err-reference-clause-err c = err_of _ _ (items_heap c.args.world.now c.add.new.self c.in_err-reference.ensures.err)
