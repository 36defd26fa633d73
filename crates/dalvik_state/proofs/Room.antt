-- Room on the heap and among what was exposed.
use Rattle.std.proofs.Common.{◌≡◌, ℕ, ◌+◌, ◌≤◌, arith}
use Rattle.std.specs.Prelude.{vec_len, vec_capacity}
use Rattle.dalvik_state.specs.declared.world.World.{World}
use Rattle.dalvik_state.specs.States.{HasRoom, HasSpace}

pub room_less : (old new : World) (count : ℕ) → vec_len new.exposed ≤ vec_len old.exposed + 1 → vec_capacity old.exposed ≤ vec_capacity new.exposed → HasRoom old (count + 1) → HasRoom new count
room_less old new count a b h = let r = h.room in record { room = omega (arith, a, b, r) }

pub room_same : (old new : World) (count : ℕ) → vec_len new.exposed ≡ vec_len old.exposed → vec_capacity new.exposed ≡ vec_capacity old.exposed → HasRoom old count → HasRoom new count
room_same old new count a b h = let r = h.room in record { room = omega (arith, a, b, r) }

pub room_more : (w : World) (count : ℕ) → HasRoom w (count + 1) → HasRoom w count
room_more w count h = let r = h.room in record { room = omega (arith, r) }

-- what has room for more than one has room for one
pub room_one : (w : World) (count : ℕ) → HasRoom w (count + 1) → HasRoom w 1
room_one w count h = let r = h.room in record { room = omega (arith, r) }

-- ---- room on the heap

pub space_less : (old new : World) (count : ℕ) → vec_len new.heap ≤ vec_len old.heap + 1 → vec_capacity old.heap ≤ vec_capacity new.heap → HasSpace old (count + 1) → HasSpace new count
space_less old new count a b h = let r = h.space in record { space = omega (arith, a, b, r) }
