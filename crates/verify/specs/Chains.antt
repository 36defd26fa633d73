-- Steps up the chain of a class's program superclasses.
use Rattle.std.specs.Prelude.{◌≡◌, ℕ, zero, suc, ◌+◌, ◌-◌, ◌<◌, Bool, true, ◌&&◌, not, nat_eq, nat_lt, nat_le, min, length, Option, Some, None, slice_index, slice_index_or, if◌then◌else◌}
use Rattle.verify.specs.declared.chains.Chains.{Chains}

-- the program superclass of a class
abbrev pub above : Chains → ℕ → Option ℕ
above c k = slice_index_or c.supers.items k None

-- how many program classes stand above a class
abbrev pub depth : Chains → ℕ → ℕ
depth c k = slice_index c.depths.items k

-- a class further up
abbrev pub jump : Chains → ℕ → ℕ
jump c k = slice_index_or c.jumps.items k k

abbrev pub above_or : Option ℕ → ℕ → ℕ
above_or (Some k) other = k
above_or None other = other

-- one step up, by a jump if that doesn't pass the depth
abbrev pub step : Chains → ℕ → ℕ → ℕ
step c k d = if nat_le d (depth c (jump c k)) && nat_lt (depth c (jump c k)) (depth c k) then jump c k else above_or (above c k) k

-- at most so many steps up, to the depth
abbrev pub lifted : ℕ → Chains → ℕ → ℕ → ℕ
lifted zero c k d = k
lifted (suc n) c k d = if nat_le (depth c k) d then k else lifted n c (step c k d) d

abbrev pub lift : Chains → ℕ → ℕ → ℕ
lift c k d = lifted (length c.supers.items + 1) c k d

abbrev pub is_in_chain : Chains → ℕ → ℕ → Bool
is_in_chain c lower upper = nat_eq (lift c lower (depth c upper)) upper

abbrev pub both_above : Option ℕ → Option ℕ → Option (ℕ × ℕ)
both_above (Some a) (Some b) = Some (a, b)
both_above a b = None

-- one step up for two classes of one depth, by jumps where these end at different classes
abbrev pub stepped_both : Chains → ℕ → ℕ → Option (ℕ × ℕ)
stepped_both c a b =
    if nat_eq (depth c a) 0 then None
    else if not (nat_eq (jump c a) (jump c b)) then Some (jump c a, jump c b)
    else both_above (above c a) (above c b)

-- the two go up together until they meet, at most so many steps
abbrev pub meets : ℕ → Chains → ℕ → ℕ → Option ℕ
meets zero c a b = None
meets (suc n) c a b = if nat_eq a b then Some a else elim (stepped_both c a b) [ Some q ↦ meets n c q.0 q.1 | None ↦ None ]

-- where the chains of two classes meet
abbrev pub nearest : Chains → ℕ → ℕ → Option ℕ
nearest c a b = meets (length c.supers.items + 1) c (lift c a (min (depth c a) (depth c b))) (lift c b (min (depth c a) (depth c b)))

-- ---- chains that are sound

-- no chain is longer
abbrev pub longest : ℕ
longest = 2147483000

-- the jump of a class directly below this one: where the two jumps from here are equally long, their end
abbrev pub jump_over : Chains → ℕ → ℕ
jump_over c p = if nat_eq (depth c p - depth c (jump c p)) (depth c (jump c p) - depth c (jump c (jump c p))) then jump c (jump c p) else p

-- a class stands right below what is above it
abbrev pub is_linked : Chains → ℕ → Option ℕ → Bool
is_linked c k None = nat_eq (depth c k) 0 && nat_eq (jump c k) k
is_linked c k (Some p) = (nat_lt 0 (depth c k) && nat_eq (depth c k - 1) (depth c p)) && nat_eq (jump c k) (jump_over c p)

abbrev pub is_sound_at : Chains → ℕ → Bool
is_sound_at c k = (is_linked c k (above c k) && nat_le (depth c k) (length c.supers.items)) && nat_lt (depth c k) longest

pub record IsChains (c : Chains) : Type 0 where
  pub sound : (k : ℕ) → is_sound_at c k ≡ true

abbrev pub SoundBelow : Chains → ℕ → Type 0
SoundBelow c n = (k : ℕ) → k < n → is_sound_at c k ≡ true
