use Rattle.std.proofs.Common.{◌≡◌, ℕ, true, false, nat_eq, arith, ap, sym, ◌∙◌}
use Rattle.std.specs.Prelude.{length}
use Rattle.std.proofs.lemmas.Bool.Decides.{nat_tests}
use Rattle.dalvik_defs.specs.Effect.{Faults}
use Rattle.dalvik_state.specs.Views.{lock_in, value_of, world_of}
use Rattle.dalvik_state.specs.Worlds.{spots_of}
use Rattle.dalvik_state.proofs.Locks.{lock_named}
use Rattle.dalvik_act.proofs.Typed.{exits_by}
use Rattle.dalvik_act.proofs.plain.exits.Goals as goal

pub returns-then-locked-eq0-clause-acts : goal.returns-then-locked-eq0-clause-acts
returns-then-locked-eq0-clause-acts c = λ n k apart locks fine f.
    let w = c.args.world.now in
    let count : lock_in n w.locks.entries (value_of n c.args.datum) ≡ c.locked.result = lock_named n (length (spots_of w)) apart c.args.datum fine w.locks.entries locks ∙ sym c.locked.ensures in
    ap Faults k.monitor ∙ sym (exits_by (world_of n w) (value_of n c.args.datum) true (ap (λ (x : ℕ). nat_eq x 0) (count ∙ c.if-locked-eq0.true)))

pub returns-else-locked-eq0-clause-acts : goal.returns-else-locked-eq0-clause-acts
returns-else-locked-eq0-clause-acts c = λ n k apart locks fine f.
    let w = c.args.world.now in
    let count : lock_in n w.locks.entries (value_of n c.args.datum) ≡ c.locked.result = lock_named n (length (spots_of w)) apart c.args.datum fine w.locks.entries locks ∙ sym c.locked.ensures in
    let held : nat_eq c.locked.result 0 ≡ false = grind (arith, nat_tests) in
    sym (exits_by (world_of n w) (value_of n c.args.datum) false (ap (λ (x : ℕ). nat_eq x 0) count ∙ held))
