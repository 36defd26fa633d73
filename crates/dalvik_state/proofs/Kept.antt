-- A frame and a world that nothing touches are left as they were, whatever comes of it.
use Rattle.std.specs.Prelude.{refl}
use Rattle.dalvik_state.specs.declared.frame.Frame.{Frame}
use Rattle.dalvik_state.specs.declared.effect.Effect.{Effect}
use Rattle.dalvik_state.specs.declared.effect.Effect.TheVariants as effect
use Rattle.dalvik_state.specs.Frames.{Leaves, IsMoved, kept_by}
use Rattle.dalvik_state.specs.declared.world.World.{World}
use Rattle.dalvik_state.specs.Worlds.{IsHeap, LeavesWorld, keeps_world, spots_of}

pub same : (f : Frame) → IsMoved f f f.position
same f = record { registers = refl; position = refl; result = refl; caught = refl; code = record { at = refl; method = refl; body = refl } }

same_kept : (e : Effect) (f : Frame) → kept_by e f f
same_kept effect.Goes f = tt
same_kept e f = same f

pub leaves_same : (e : Effect) (f : Frame) → Leaves e f f
leaves_same e f = record { kept = same_kept e f }

-- ---- worlds

pub same_world : (w : World) → IsHeap w w (spots_of w)
same_world w = record { heap = refl; fields = refl; statics = refl; locks = refl; exposed = refl }

same_world_kept : (e : Effect) (w : World) → keeps_world e w w
same_world_kept effect.Goes w = tt
same_world_kept e w = same_world w

pub leaves_world : (e : Effect) (w : World) → LeavesWorld e w w
leaves_world e w = record { kept = same_world_kept e w }

pub goes_world : (old new : World) → LeavesWorld effect.Goes old new
goes_world old new = record { kept = tt }
