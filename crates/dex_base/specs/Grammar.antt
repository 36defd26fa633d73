-- The grammar of descriptors.
use Rattle.std.specs.Prelude.{◌≡◌, ℕ, suc, ◌<◌, ◌≤◌, List, [], ◌∷◌, ◌++◌, length, take, replicate, IsTrue}
use Rattle.std.specs.List.{AllByRecursion, concat, join_with_byte}
use Rattle.dex_base.specs.declared.fault.BaseFault.{BaseFault}
use Rattle.dex_base.specs.declared.fault.BaseFault.TheVariants.{BadDescriptor}
use Rattle.dex_base.specs.declared.descriptor.Descriptor.{Descriptor}
use Rattle.dex_base.specs.declared.descriptor.Descriptor.TheVariants.{Void, Primitive, Class, Array}
use Rattle.dex_base.specs.Descriptor.{is_primitive, is_alone, is_high, is_low}

-- a character of a name: one unit, or the two halves of a surrogate pair
abbrev pub IsCharacter : List ℕ → Type 0
IsCharacter [] = ⊥
IsCharacter (u ∷ []) = IsTrue (is_alone u)
IsCharacter (u ∷ v ∷ []) = IsTrue (is_high u) × IsTrue (is_low v)
IsCharacter (u ∷ v ∷ w ∷ us) = ⊥

-- a name is one or more characters
pub record IsName (name : List ℕ) : Type 0 where
  pub characters : List (List ℕ)
  pub some : 0 < length characters
  pub are : AllByRecursion IsCharacter characters
  pub is : name ≡ concat characters

-- one or more names with one / between two, and a semicolon
pub record AreNames (text : List ℕ) : Type 0 where
  pub names : List (List ℕ)
  pub some : 0 < length names
  pub are : AllByRecursion IsName names
  pub is : text ≡ join_with_byte 47 names ++ 59 ∷ []

-- a primitive type or a class
pub data IsElement (text : List ℕ) (kind : Descriptor) : Type 0 where
  OfLetter : (u : ℕ) → IsTrue (is_primitive u) → text ≡ u ∷ [] → kind ≡ Primitive u → IsElement text kind
  OfClass : (names : List ℕ) → AreNames names → text ≡ 76 ∷ names → kind ≡ Class → IsElement text kind

-- the type that a text describes
pub data IsDescriptor (text : List ℕ) (kind : Descriptor) : Type 0 where
  OfVoid : text ≡ 86 ∷ [] → kind ≡ Void → IsDescriptor text kind
  OfElement : IsElement text kind → IsDescriptor text kind
  OfArray : (depth : ℕ) (element : List ℕ) (of : Descriptor) → 0 < depth → depth ≤ 255 → text ≡ replicate depth 91 ++ element → IsElement element of → kind ≡ Array depth → IsDescriptor text kind

-- the units are the front of a descriptor, which may have more
pub record BeginsDescriptor (units : List ℕ) : Type 0 where
  pub rest : List ℕ
  pub kind : Descriptor
  pub is : IsDescriptor (units ++ rest) kind

-- Up to that place the units begin a descriptor, and with the unit there they don't; or the text ends there, before its descriptor does.
pub data BadDescriptorIn (text : List ℕ) (fault : BaseFault) : Type 0 where
  Wrong : (place : ℕ) → place < length text → BeginsDescriptor (take place text) → (BeginsDescriptor (take (suc place) text) → ⊥) → fault ≡ BadDescriptor place → BadDescriptorIn text fault
  Early : (rest : List ℕ) (kind : Descriptor) → 0 < length rest → IsDescriptor (text ++ rest) kind → fault ≡ BadDescriptor (length text) → BadDescriptorIn text fault
