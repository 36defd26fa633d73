-- Walks up from a type by the rows of types, and what is kept of walks.
use Rattle.std.specs.Prelude.{◌≡◌, ◌⊎◌, ◌<◌, ◌≤◌, ℕ, ◌+◌, Bool, true, false, not, List, [], ◌++◌, length, take, count_by, Option, Some, None, slice_get, slice_index_or, vec_len, Contains, cond}
use Rattle.program_model.specs.declared.pools.MethodName.{MethodName}
use Rattle.program_model.specs.declared.program.Class.{Class}
use Rattle.program_model.specs.declared.program.Program.{Program}
use Rattle.class_defs.specs.Finding.{finds_at, finds_super}
use Rattle.class_defs.specs.Finding as look
use Rattle.hierarchy.specs.Walking.{IsFair}
use Rattle.dalvik_defs.specs.Names.{Text}
use Rattle.dalvik_defs.specs.Naming.{type_at, named}
use Rattle.dalvik_defs.specs.Under.{class_under, is_under}
use Rattle.dalvik_lookups.specs.declared.finds.Search.{Search}
use Rattle.dalvik_lookups.specs.declared.finds.Search.TheVariants as find
use Rattle.dalvik_lookups.specs.declared.memo.Recent.{Recent}
use Rattle.dalvik_lookups.specs.declared.graph.Above.{Above}
use Rattle.dalvik_lookups.specs.declared.marks.Marks.{Marks}
use Rattle.dalvik_lookups.specs.declared.memo.Asked.{Asked}
use Rattle.dalvik_lookups.specs.declared.memo.Memo.{Memo}
use Rattle.dalvik_lookups.specs.declared.lookups.Lookups.{Lookups}
use Rattle.dalvik_lookups.specs.Views.{names_of, name_at}
use Rattle.dalvik_lookups.specs.Tables.{row_at}

-- a walk up from one type to another
pub data Climbs (a : Above) : ℕ → ℕ → Type 0 where
  Itself : (n : ℕ) → Climbs a n n
  Through : (n next top : ℕ) → Contains (row_at a n) next → Climbs a next top → Climbs a n top

-- a number is marked, and it is marked or past the table
abbrev pub is_on : Marks → ℕ → Bool
is_on m n = slice_index_or m.marks.items n false

abbrev pub is_met : Marks → ℕ → Bool
is_met m n = slice_index_or m.marks.items n true

-- how many numbers aren't marked, and how many are listed
abbrev pub left : Marks → ℕ
left m = count_by not m.marks.items + vec_len m.listed

-- a list with more behind it
pub record Extends (xs ys : List ℕ) : Type 0 where
  pub more : List ℕ
  pub is : ys ≡ xs ++ more

-- Marks grow: what is marked or past the table stays so, what is newly marked is listed, and more is listed behind the
-- rest, which are some of these numbers.
pub record Grow (m m' : Marks) (numbers : List ℕ) : Type 0 where
  pub size : vec_len m'.marks ≡ vec_len m.marks
  pub less : left m' ≤ left m
  pub reached : (n : ℕ) → is_met m n ≡ true → is_met m' n ≡ true
  pub new : (n : ℕ) → is_on m' n ≡ true → (is_on m n ≡ true) ⊎ Contains m'.listed.items n
  pub more : Extends m.listed.items m'.listed.items
  pub each : (n : ℕ) → Contains m'.listed.items n → Contains m.listed.items n ⊎ Contains numbers n

-- nothing is marked, and nothing is listed
pub record IsClean (m : Marks) : Type 0 where
  pub unmarked : (n : ℕ) → is_on m n ≡ true → ⊥
  pub idle : m.listed.items ≡ []

-- each marked number is listed, and what stands above one of the first so many listed numbers is marked
pub record IsWalking (a : Above) (m : Marks) (done : ℕ) : Type 0 where
  pub marked : (n : ℕ) → is_on m n ≡ true → Contains m.listed.items n
  pub above : (n u : ℕ) → Contains (take done m.listed.items) n → Contains (row_at a n) u → is_met m u ≡ true

-- each of some numbers stands above one
abbrev pub AllAbove : Above → ℕ → List ℕ → Type 0
AllAbove a x ns = (n : ℕ) → Contains ns n → Climbs a x n

-- all that is marked stands above a type, and all that stands above it is marked or past the table
pub record IsWalked (a : Above) (m : Marks) (x : ℕ) : Type 0 where
  pub from : (n : ℕ) → is_on m n ≡ true → Climbs a x n
  pub met : (n : ℕ) → Climbs a x n → is_met m n ≡ true

-- all that the first so many rows have is below so many
pub record IsInside (a : Above) (size : ℕ) : Type 0 where
  pub below : (n u : ℕ) → n < size → Contains (row_at a n) u → u < size

-- ---- what calls find, and what is kept of it

-- an answer of a look-up by number
abbrev pub search_by : look.Search → Search
search_by look.Nothing = find.Nothing
search_by look.Clash = find.Clash
search_by (look.Finds at) = find.Finds at

abbrev pub type_of_class : Program → Option Class → Text
type_of_class p None = []
type_of_class p (Some k) = type_at p k.name

-- the type of the class at a place
abbrev pub class_text : Program → ℕ → Text
class_text p c = type_of_class p (slice_get p.classes c)

-- what a virtual or interface call of a name finds at a receiver of a class, where that is under the class that it names
abbrev pub found_at : Lookups → ℕ → MethodName → Search
found_at l c q = cond (is_under (named l.program.now) l.framework.now (class_text l.program.now c) (type_at l.program.now q.class)) (search_by (finds_at l.program.now c q.name q.proto)) find.Nothing

abbrev pub found_of : Lookups → Option ℕ → MethodName → Search
found_of l None q = find.Nothing
found_of l (Some c) q = found_at l c q

-- what is kept of virtual and interface calls is what they find
pub record AreFound (l : Lookups) (calls : List Recent) : Type 0 where
  pub is : (i c : ℕ) (found : Search) (q : MethodName) → slice_get calls i ≡ Some (record { class = Some c; found = found }) → slice_get l.program.now.methods i ≡ Some q → found ≡ found_at l c q

-- what is kept of super calls is what they find
pub record AreFromSuper (p : Program) (calls : List Recent) : Type 0 where
  pub is : (i c : ℕ) (found : Search) → slice_get calls i ≡ Some (record { class = Some c; found = found }) → found ≡ search_by (finds_super p c i)

-- What is kept of the tests whether types are under others and of calls is right, and no mark is left of a walk up; a walk over
-- classes has a mark for each.
pub record IsKept (l : Lookups) (m : Memo) : Type 0 where
  pub fair : IsFair m.walk
  pub long : length m.walk.seen.items ≡ length l.program.now.classes
  pub virtuals : AreFound l m.virtual_calls.items
  pub supers : AreFromSuper l.program.now m.super_calls.items
  pub size : vec_len m.marks.marks ≡ length (names_of l.types)
  pub clean : IsClean m.marks
  pub under : (u : ℕ) (a : Asked) → slice_get m.under.items u ≡ Some (Some a) → a.answer ≡ class_under (named l.program.now) l.framework.now (name_at l.types a.lower) (name_at l.types u)

-- one more answer is kept
pub record KeepsUnder (old new : Memo) (lower upper : ℕ) (answer : Bool) : Type 0 where
  pub marks : new.marks ≡ old.marks
  pub walk : new.walk ≡ old.walk
  pub virtuals : new.virtual_calls ≡ old.virtual_calls
  pub supers : new.super_calls ≡ old.super_calls
  pub under : (u : ℕ) (a : Asked) → slice_get new.under.items u ≡ Some (Some a) → (slice_get old.under.items u ≡ Some (Some a)) ⊎ ((u ≡ upper) × (a ≡ record { lower = lower; answer = answer }))

-- the marks, the walk and the answers whether types are under others stay
pub record Rests (old new : Memo) : Type 0 where
  pub marks : new.marks ≡ old.marks
  pub walk : new.walk ≡ old.walk
  pub under : new.under ≡ old.under
