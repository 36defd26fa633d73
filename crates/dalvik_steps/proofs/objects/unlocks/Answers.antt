use Rattle.std.proofs.Common.{◌≡◌, ℕ, ◌+◌, ◌-◌, arith, subst, sym, ap, ◌∙◌}
use Rattle.std.specs.Prelude.{Some}
use Rattle.dalvik_defs.specs.Effect.{next}
use Rattle.dalvik_defs.specs.Outcome.{with_lock, Stays}
use Rattle.dalvik_defs.specs.Show.{show}
use Rattle.dalvik_defs.specs.State.{kind_of}
use Rattle.dalvik_defs.specs.declared.events.Event.TheVariants as event
use Rattle.dalvik_defs.specs.declared.events.Shown.{Shown}
use Rattle.dalvik_state.specs.Runs.{comes_of, world_in, IsEvent}
use Rattle.dalvik_state.specs.Views.{frame_of, names_in, value_of}
use Rattle.dalvik_steps.proofs.LockDrafts.{count_of}
use Rattle.dalvik_steps.proofs.objects.unlocks.Goals as goal

pub returns-clause-ok : goal.returns-clause-ok
returns-clause-ok c = λ o floats script steps f h fine some.
    let l = c.args.tables.now.lookups in
    let n = names_in l in
    let w = world_in l c.args.state.now in
    let v = value_of n c.args.datum in
    let s = show w (kind_of w v) v in
    let was = count_of l steps c.args.state.now c.args.datum c.locked.result h.right h.state fine c.locked.ensures in
    let low = was.most in
    let early = h.early in
    let is = c.saturating_sub-count.ensures in
    let count : c.saturating_sub-count.result ≡ c.locked.result - 1 = omega (arith, low, early, is) in
    let done = c.in_ok-value.ensures.ok o floats script steps f h fine some (omega (arith, count, low)) in
    subst (λ (x : ℕ). IsEvent l steps script c.set_lock.new.state (Some (event.Unlock c.in_ok-value.value)) (comes_of l o floats script c.args.state.now f (Stays (with_lock s.0 v (x - 1)) (next (frame_of n f)) (Some (event.Unlock s.1))))) was.named
    (subst (λ (x : ℕ). IsEvent l steps script c.set_lock.new.state (Some (event.Unlock c.in_ok-value.value)) (comes_of l o floats script c.args.state.now f (Stays (with_lock s.0 v x) (next (frame_of n f)) (Some (event.Unlock s.1))))) count
    (subst (λ (x : Shown). IsEvent l steps script c.set_lock.new.state (Some (event.Unlock c.in_ok-value.value)) (comes_of l o floats script c.args.state.now f (Stays (with_lock s.0 v c.saturating_sub-count.result) (next (frame_of n f)) (Some (event.Unlock x))))) done.0 (done.1 (event.Unlock c.in_ok-value.value))))
