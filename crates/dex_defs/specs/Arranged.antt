-- How items lie: one behind another, each where it is named, behind zeros alone.
use Rattle.std.specs.Prelude.{◌≡◌, ◌+◌, ◌%◌, ◌<◌, ◌≤◌, ℕ, zero, suc, List, [], ◌∷◌, length, slice_get, Some}
use Rattle.dex_defs.specs.Here.{Here, AreZeros}

-- the first multiple from a place on
pub record IsNext (align from at : ℕ) : Type 0 where
  pub behind : from ≤ at
  pub near : at < from + align
  pub aligned : at % align ≡ 0

-- What an offset names, behind what ends at a place, and where it ends: its text stands at the next multiple, behind zeros. Where the
-- text is empty nothing stands, and the offset is 0.
pub data IsAt (bytes : List ℕ) (align from offset : ℕ) (text : List ℕ) (stop : ℕ) : Type 0 where
  Nothing : offset ≡ 0 → text ≡ [] → stop ≡ from → IsAt bytes align from offset text stop
  Something : 0 < offset → 0 < length text → IsNext align from offset → AreZeros bytes from offset → Here bytes offset text → stop ≡ offset + length text → IsAt bytes align from offset text stop

-- the items of one kind, in the order in which they are named
abbrev pub Lie : List ℕ → ℕ → ℕ → List ℕ → List (List ℕ) → ℕ → Type 0
Lie bytes align from [] [] to = to ≡ from
Lie bytes align from [] (t ∷ ts) to = ⊥
Lie bytes align from (o ∷ os) [] to = ⊥
Lie bytes align from (o ∷ os) (t ∷ ts) to = (mid : ℕ) × IsAt bytes align from o t mid × Lie bytes align mid os ts to

-- one of each list, pair by pair
abbrev pub Both : {X Y : Type 0} → (X → Y → Type 0) → List X → List Y → Type 0
Both Is [] [] = Unit {0}
Both Is [] (y ∷ ys) = ⊥
Both Is (x ∷ xs) [] = ⊥
Both Is (x ∷ xs) (y ∷ ys) = Is x y × Both Is xs ys

-- the offsets other than 0
abbrev pub named : List ℕ → List ℕ
named [] = []
named (zero ∷ os) = named os
named (suc o ∷ os) = suc o ∷ named os

-- the map's entry of items that are named so: their kind, how many there are, and where the first one stands
abbrev pub first_row : ℕ → List ℕ → List ℕ
first_row code [] = []
first_row code (o ∷ os) = code ∷ (length (o ∷ os) ∷ (o ∷ []))

abbrev pub row_of : ℕ → List ℕ → List ℕ
row_of code offsets = first_row code (named offsets)

-- a list that is not empty is one of these, and its offset says where it stands; the empty one has 0
pub data LeadsTo (lists : List (List ℕ)) (starts list : List ℕ) (offset : ℕ) : Type 0 where
  ToNone : list ≡ [] → offset ≡ 0 → LeadsTo lists starts list offset
  ToOne : (place : ℕ) → 0 < length list → slice_get lists place ≡ Some list → slice_get starts place ≡ Some offset → LeadsTo lists starts list offset
