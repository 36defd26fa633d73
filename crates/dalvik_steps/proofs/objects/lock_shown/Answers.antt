use Rattle.std.proofs.Common.{ap, refl, sym, ◌∙◌, ◌+◌, ◌≤◌, subst}
use Rattle.std.specs.Prelude.{vec_capacity, vec_len}
use Rattle.dalvik_defs.specs.State.{kind_of}
use Rattle.dalvik_state.specs.Views.{names_in, value_of, world_of}
use Rattle.dalvik_steps.proofs.Locked.{lock_shown, locked_draft, locked_sound}
use Rattle.dalvik_steps.proofs.objects.lock_shown.Goals as goal

pub returns-clause-ok : goal.returns-clause-ok
returns-clause-ok c = λ l steps room r w fine drafted.
    let n = names_in l in
    let old = c.args.world.now in
    let mid = c.write_lock.new.world in
    let puts = c.in_ok-write_lock.ensures.put in
    let kind = kind_of (world_of n old) (value_of n c.args.datum) in
    let v = value_of n c.args.datum in
    let shown = c.show.ensures.shown l kind v (locked_sound l r old mid c.args.datum c.args.count puts w fine) (record { room = subst (λ x. vec_len x + 1 ≤ vec_capacity x) (sym puts.exposed) room.room }) (locked_draft l r old mid c.args.datum c.args.count puts w fine kind v c.args.draft drafted) in
    lock_shown l r old mid c.show.new.world c.args.datum c.args.count c.show.result puts w fine shown
