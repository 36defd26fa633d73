use Rattle.std.proofs.Common.{◌≡◌, ℕ, ◌⊎◌, inl, inr, refl}
use Rattle.dalvik_state.specs.contracts.datum.DatumPartialEq.TheImpl.{ghosts}
use Rattle.dalvik_state.specs.declared.datum.Datum.{Datum}
use Rattle.dalvik_steps.specs.Reaching.{HasCount, HasKey, SameItems}
use Rattle.dalvik_steps.proofs.Alike.{put_count}
use Rattle.dalvik_steps.proofs.Nexts.{err_of}
use Rattle.dalvik_steps.proofs.Written.{puts_each}
use Rattle.dalvik_steps.proofs.objects.write_lock.Goals as goal

pub returns-in_err-insert-clause-err : goal.returns-in_err-insert-clause-err
returns-in_err-insert-clause-err c =
    let same : SameItems c.args.world.now (record c.args.world.now { locks = c.insert.new.self }) = record { heap = refl; fields = refl; statics = refl; locks = c.in_err-insert.ensures.err; exposed = refl } in
    err_of _ _ same

pub returns-clause-put : goal.returns-clause-put
returns-clause-put c = record {
  puts = put_count c.args.world.now.locks.entries c.insert.new.self.entries c.args.datum c.args.count (λ q. c.in_ok-insert.ensures.updates.0 q);
  keys = puts_each ghosts.eq (λ (e : Datum × ℕ). (e.0 ≡ c.args.datum) ⊎ HasKey c.args.world.now.locks.entries e.0) c.args.world.now.locks c.insert.new.self c.args.datum c.args.count c.in_ok-insert.field-0 c.in_ok-insert.ensures.entries (λ e p. p) (inl refl) (λ i e g. inr (i, (e.1, g)));
  counts = puts_each ghosts.eq (λ (e : Datum × ℕ). (e.1 ≡ c.args.count) ⊎ HasCount c.args.world.now.locks.entries e.1) c.args.world.now.locks c.insert.new.self c.args.datum c.args.count c.in_ok-insert.field-0 c.in_ok-insert.ensures.entries (λ e p. inl refl) (inl refl) (λ i e g. inr (i, (e.0, g)));
  heap = refl;
  fields = refl;
  statics = refl;
  exposed = refl;
}
