-- Which classes stand below a type that is asked for.
use Rattle.std.specs.Prelude.{◌≡◌, ◌<◌, ◌⊎◌, ◌++◌, ℕ, Bool, true, false, ◌||◌, List, [], ◌∷◌, Option, Some, None, length, slice_get, if◌then◌else◌}
use Rattle.std.specs.List.{list_any}
use Rattle.program_model.specs.declared.program.Class.{Class}
use Rattle.program_model.specs.declared.program.Program.{Program}
use Rattle.dalvik_defs.specs.Names.{Text}
use Rattle.dalvik_defs.specs.Naming.{type_at, named}
use Rattle.dalvik_defs.specs.Under.{class_named}
use Rattle.dalvik_defs.specs.declared.program.NamedProgram.{NamedProgram}
use Rattle.rule_text.specs.Tokens.{Word}
use Rattle.rule_text.specs.Rules.{Above}
use Rattle.rule_defs.specs.Members.{has_mark}
use Rattle.rule_defs.specs.Kept.{is_asked_above, types_above, stands_below}
use Rattle.keep_rules.specs.Marks.{is_on}
use Rattle.keep_rules.specs.Table.{has}
use Rattle.keep_rules.specs.View.{is_below}

-- whether the class of a type has an annotation, and whether it has the one that is asked for
abbrev pub has_mark_there : NamedProgram → Word → Text → Bool
has_mark_there p w t = elim (class_named p t) [ Some c ↦ has_mark w c.marks | None ↦ false ]

abbrev pub mark_holds_there : NamedProgram → Option Word → Text → Bool
mark_holds_there p None t = true
mark_holds_there p (Some w) t = has_mark_there p w t

-- whether a type is what is asked for
abbrev pub is_asked : Program → Above → ℕ → Bool
is_asked p a k = is_asked_above (named p) a (type_at p k)

-- whether the types above one, on so many steps, have one that is asked for
abbrev pub is_under_in : Program → Above → ℕ → ℕ → Bool
is_under_in p a n k = list_any (is_asked_above (named p) a) (types_above n (named p) (type_at p k))

abbrev pub is_under : Program → Above → ℕ → Bool
is_under p a k = stands_below (named p) (Some a) (type_at p k)

-- ---- the types that are asked for

abbrev pub AddsAsked : Program → Above → ℕ → List ℕ → List ℕ → Type 0
AddsAsked p a k old new = new ≡ (if is_asked p a k then old ++ k ∷ [] else old)

-- it is added, or it isn't asked for, or nothing stands below it
pub record AddsAbove (p : Program) (a : Above) (kind : ℕ) (old new : List ℕ) : Type 0 where
  pub asked : (k : ℕ) → has new k ≡ true → (has old k ≡ true) ⊎ (is_asked p a k ≡ true)
  pub stays : (k : ℕ) → has old k ≡ true → has new k ≡ true
  pub added : (place : ℕ) → is_below p kind place ≡ true → is_asked p a kind ≡ true → has new kind ≡ true

-- those of the types that are asked for, if they stand above any class
pub record AreWanted (p : Program) (a : Above) (kinds : List ℕ) : Type 0 where
  pub asked : (k : ℕ) → has kinds k ≡ true → is_asked p a k ≡ true
  pub all : (k place : ℕ) → is_below p k place ≡ true → is_asked p a k ≡ true → has kinds k ≡ true

-- those of the types below a number
pub record AreWantedTo (p : Program) (a : Above) (kinds : List ℕ) (bound : ℕ) : Type 0 where
  pub asked : (k : ℕ) → has kinds k ≡ true → is_asked p a k ≡ true
  pub all : (k place : ℕ) → k < bound → is_below p k place ≡ true → is_asked p a k ≡ true → has kinds k ≡ true

-- ---- the classes below them

abbrev pub AddsClass : Program → ℕ → List ℕ → List ℕ → Type 0
AddsClass p place old new = new ≡ elim (slice_get p.classes place) [ Some c ↦ old ++ c.name ∷ [] | None ↦ old ]

-- the type of one of the classes at these places
pub record IsOne (p : Program) (places : List ℕ) (k : ℕ) : Type 0 where
  pub place : ℕ
  pub class : Class
  pub among : has places place ≡ true
  pub is : slice_get p.classes place ≡ Some class
  pub named : class.name ≡ k

-- the classes at these places are marked, and the types of those that weren't are added
pub record MarksSome (p : Program) (places : List ℕ) (old new : List Bool) (kinds next : List ℕ) : Type 0 where
  pub size : length new ≡ length old
  pub marks : (place : ℕ) → place < length old → is_on new place ≡ (is_on old place || has places place)
  pub more : List ℕ
  pub is : next ≡ kinds ++ more
  pub named : (place : ℕ) (c : Class) → slice_get p.classes place ≡ Some c → is_on new place ≡ true → (is_on old place ≡ true) ⊎ (has more c.name ≡ true)
  pub from : (k : ℕ) → has more k ≡ true → IsOne p places k

-- what is marked stands below, and so does what stands below the types that are to be gone through; the first of them have been
pub record IsSearch (p : Program) (a : Above) (marks : List Bool) (kinds : List ℕ) (at : ℕ) : Type 0 where
  pub size : length marks ≡ length p.classes
  pub sound : (place : ℕ) (c : Class) → slice_get p.classes place ≡ Some c → is_on marks place ≡ true → is_under p a c.name ≡ true
  pub sources : (k : ℕ) → has kinds k ≡ true → (is_asked p a k || is_under p a k) ≡ true
  pub wanted : (k place : ℕ) → is_below p k place ≡ true → is_asked p a k ≡ true → has kinds k ≡ true
  pub named : (place : ℕ) (c : Class) → slice_get p.classes place ≡ Some c → is_on marks place ≡ true → has kinds c.name ≡ true
  pub done : (i k place : ℕ) → i < at → slice_get kinds i ≡ Some k → is_below p k place ≡ true → is_on marks place ≡ true

-- marked are just the classes that stand below
abbrev pub AreUnder : Program → Above → List Bool → Type 0
AreUnder p a marks = (place : ℕ) (c : Class) → slice_get p.classes place ≡ Some c → is_on marks place ≡ is_under p a c.name
