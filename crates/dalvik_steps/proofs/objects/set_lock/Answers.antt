use Rattle.std.proofs.Common.{subst, sym, refl}
use Rattle.dalvik_defs.specs.State.{kind_of, World as NamedWorld}
use Rattle.dalvik_state.specs.Drafts.{IsDraft}
use Rattle.dalvik_state.specs.Views.{names_in, value_of, IsFine}
use Rattle.dalvik_state.specs.Worlds.{spots_of, Spot}
use Rattle.std.proofs.Common.{List, length}
use Rattle.dalvik_steps.proofs.Born.{lock_from, locked_goes}
use Rattle.dalvik_steps.proofs.Reserved.{items_named, items_sound}
use Rattle.dalvik_steps.proofs.objects.set_lock.Goals as goal

pub returns-clause-ok : goal.returns-clause-ok
returns-clause-ok c = λ o floats script steps f h fine some most.
    let l = c.args.tables.now.lookups in
    let n = names_in l in
    let old = c.args.state.now.world in
    let mid = c.reserve_exposed.new.world in
    let same = c.in_ok-reserve_exposed.ensures.same in
    let v = value_of n c.args.datum in
    let drafted = subst (λ (w : NamedWorld). IsDraft w (kind_of w v) v c.in_ok-draft.draft) (sym (items_named n old mid same)) (c.in_ok-draft.ensures h.right h.state.world fine some) in
    let there = subst (λ (ss : List Spot). IsFine n (length ss) c.args.datum) (sym same.heap) fine in
    let locked = lock_from l old mid c.lock_shown.new.world c.args.datum c.args.count c.in_ok-shown.shown same (c.in_ok-shown.ensures.ok l steps c.in_ok-reserve_exposed.ensures.room h.right (items_sound l old mid same h.state.world) there drafted) in
    (locked.shown, λ e. locked_goes l o floats script steps f c.args.state.now h (record c.args.state.now { world = c.lock_shown.new.world }) c.go_on.new.self c.args.datum c.args.count c.in_ok-shown.shown e locked most refl refl refl refl c.go_on.ensures.stack c.go_on.ensures.rest)
