use Rattle.std.proofs.Common.{ap, refl, ◌∙◌}
use Rattle.std.specs.Prelude.{ℕ, Some, slice_set}
use Rattle.dalvik_steps.proofs.Written.{static_written}
use Rattle.dalvik_steps.proofs.fields.put_static.Goals as goal

pub returns : goal.returns
returns c = λ k at r w h fine.
    static_written c.args.tables.now.lookups r c.args.world.now _ k at c.args.class c.args.place c.args.datum w h fine (c.write_static.ensures ∙ ap (λ (s : ℕ). slice_set c.args.world.now.statics.items s (Some c.args.datum)) (c.slot-slot.ensures r)) refl refl refl refl
