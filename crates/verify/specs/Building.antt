-- How the chains of classes come about, class by class.
use Rattle.std.specs.Prelude.{◌≡◌, ℕ, zero, suc, ◌+◌, ◌<◌, ◌≤◌, Bool, true, min, List, [], ◌∷◌, ◌++◌, length, Option, Some, None, slice_get, slice_index_or, slice_set, nat_eq, find, cond, if◌then◌else◌}
use Rattle.std.specs.List.{list_any}
use Rattle.class_defs.specs.Members.{is_interface}
use Rattle.class_defs.specs.Places.{super_place, chain_from}
use Rattle.program_model.specs.declared.program.Program.{Program}
use Rattle.verify.specs.declared.chains.Chains.{Chains}
use Rattle.verify.specs.Chains.{above, depth, jump, jump_over, is_in_chain, nearest, IsChains, SoundBelow}
use Rattle.verify.specs.Flow.{greatest}

-- the class above a class: its program superclass; none stands above an interface
abbrev pub class_above : Program → ℕ → Option ℕ
class_above p c = cond (is_interface (slice_get p.classes c)) None (super_place p c)

-- the chains of the classes of a program
pub record AreChainsOf (p : Program) (c : Chains) : Type 0 where
  pub sound : IsChains c
  pub above : (k : ℕ) → above c k ≡ class_above p k

-- what is known of a class; all is of what is no class
abbrev pub is_done : Chains → ℕ → Bool
is_done c k = slice_index_or c.done.items k true

-- a class and those above it that are not done, the lowest first, at most so many
abbrev pub climbed : ℕ → Chains → Option ℕ → List ℕ
climbed zero c o = []
climbed (suc n) c None = []
climbed (suc n) c (Some k) = if is_done c k then [] else k ∷ climbed n c (above c k)

-- what a class below another one is given
abbrev pub depth_under : Chains → Option ℕ → ℕ
depth_under c None = 0
depth_under c (Some p) = min (depth c p + 1) greatest

abbrev pub jump_under : Chains → ℕ → Option ℕ → ℕ
jump_under c k None = k
jump_under c k (Some p) = jump_over c p

-- one class is noted
pub record Notes (c c' : Chains) (k d j : ℕ) : Type 0 where
  pub supers : c'.supers ≡ c.supers
  pub depths : c'.depths.items ≡ slice_set c.depths.items k d
  pub jumps : c'.jumps.items ≡ slice_set c.jumps.items k j
  pub done : c'.done.items ≡ slice_set c.done.items k true

-- what is above it is done, or stands next
abbrev pub Leads : Chains → ℕ → List ℕ → Type 0
Leads c k [] = (p : ℕ) → above c k ≡ Some p → is_done c p ≡ true
Leads c k (x ∷ xs) = above c k ≡ Some x

-- each class of a list stands below the next one, the last below one that is done
abbrev pub IsPath : ℕ → Chains → List ℕ → Type 0
IsPath n c [] = Unit
IsPath n c (x ∷ xs) = (x < n) × (Leads c x xs × IsPath n c xs)

abbrev pub IsLinkedAt : Chains → ℕ → Option ℕ → Type 0
IsLinkedAt c k None = (depth c k ≡ 0) × (jump c k ≡ k)
IsLinkedAt c k (Some p) = (depth c k ≡ suc (depth c p)) × (jump c k ≡ jump_over c p)

-- So many classes, of which those that are done are linked, and nothing stands above them that isn't done. Ranks fall
-- from each class to that above it.
pub record IsSettled (n : ℕ) (r : ℕ → ℕ) (c : Chains) : Type 0 where
  pub supers : length c.supers.items ≡ n
  pub depths : length c.depths.items ≡ n
  pub jumps : length c.jumps.items ≡ n
  pub long : length c.done.items ≡ n
  pub falls : (k p : ℕ) → above c k ≡ Some p → r p < r k
  pub bound : (k : ℕ) → k < n → r k < n
  pub low : (k : ℕ) → is_done c k ≡ true → depth c k ≤ r k
  pub linked : (k : ℕ) → is_done c k ≡ true → IsLinkedAt c k (above c k)
  pub up : (k p : ℕ) → is_done c k ≡ true → above c k ≡ Some p → is_done c p ≡ true
  pub jumped : (k : ℕ) → is_done c k ≡ true → is_done c (jump c k) ≡ true

pub record Settles (n : ℕ) (r : ℕ → ℕ) (c c' : Chains) : Type 0 where
  pub settled : IsSettled n r c'
  pub supers : c'.supers ≡ c.supers
  pub kept : (k : ℕ) → is_done c k ≡ true → is_done c' k ≡ true

-- all classes of a list are done
abbrev pub AllDone : Chains → List ℕ → Type 0
AllDone c [] = Unit
AllDone c (k ∷ ks) = (is_done c k ≡ true) × AllDone c ks

-- the classes of a path are done from its end on: these are left of it
pub record Goes (n : ℕ) (r : ℕ → ℕ) (c c' : Chains) (path left : List ℕ) : Type 0 where
  pub settles : Settles n r c c'
  pub rest : List ℕ
  pub is : path ≡ left ++ rest
  pub done : AllDone c' rest
  pub path_left : IsPath n c' left

-- the classes below one are done
pub record IsDoneBelow (n : ℕ) (r : ℕ → ℕ) (c : Chains) (k : ℕ) : Type 0 where
  pub settled : IsSettled n r c
  pub done : (j : ℕ) → j < k → is_done c j ≡ true

-- so many classes, all sound
pub record IsSoundFor (n : ℕ) (c : Chains) : Type 0 where
  pub supers : length c.supers.items ≡ n
  pub depths : length c.depths.items ≡ n
  pub jumps : length c.jumps.items ≡ n
  pub below : SoundBelow c n

-- a class and those above it, the class first
abbrev pub chain_above : Program → ℕ → List ℕ
chain_above p k = chain_from (class_above p) (length p.classes) (Some k)

abbrev pub is_among : List ℕ → ℕ → Bool
is_among ks k = list_any (nat_eq k) ks

-- Of each class of the program the chains have those above it, and two classes meet at the first class above the one that is
-- above the other too.
pub record FollowsClasses (p : Program) (c : Chains) : Type 0 where
  pub in_chain : (a b : ℕ) → a < length p.classes → is_in_chain c a b ≡ is_among (chain_above p a) b
  pub meets : (a b : ℕ) → a < length p.classes → b < length p.classes → nearest c a b ≡ find (is_among (chain_above p b)) (chain_above p a)
