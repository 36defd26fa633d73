-- What the tables of a program's names say.
use Rattle.std.specs.Prelude.{◌≡◌, ℕ, ◌<◌, ◌&&◌, Bool, true, false, List, [], map, length, Option, Some, None, nat_eq, cond, position, slice_get, slice_index_or, Vec}
use Rattle.std.specs.declared.alloc.Global.{Global}
use Rattle.program_model.specs.declared.program.Program.{Program}
use Rattle.program_model.specs.declared.program.MethodAt.{MethodAt}
use Rattle.program_model.specs.ProgramRules.{is_well_formed}
use Rattle.program_model.specs.MemberRules.{has_flag}
use Rattle.hierarchy.specs.Shapes.{IsResolved}
use Rattle.dalvik_lookups.specs.declared.finds.Search.{Search}
use Rattle.dalvik_lookups.specs.declared.finds.Search.TheVariants as find
use Rattle.dalvik_defs.specs.Names.{Text, text_eq}
use Rattle.dalvik_defs.specs.Naming.{type_at, text_at, named}
use Rattle.dalvik_defs.specs.Under.{directly_above}
use Rattle.dalvik_defs.specs.declared.tables.Framework.{Framework}
use Rattle.dalvik_lookups.specs.declared.types.Kind.{Kind}
use Rattle.dalvik_lookups.specs.declared.types.Types.{Types}
use Rattle.dalvik_lookups.specs.declared.texts.Texts.{Texts}
use Rattle.dalvik_lookups.specs.declared.graph.Above.{Above}
use Rattle.dalvik_lookups.specs.declared.lookups.Names.{Names}
use Rattle.dalvik_lookups.specs.declared.lookups.Lookups.{Lookups}
use Rattle.dalvik_lookups.specs.Spelling.{is_constructor}
use Rattle.dalvik_lookups.specs.Starting.{class_default}
use Rattle.dalvik_lookups.specs.Slots.{slots_from, slots_after}
use Rattle.dalvik_lookups.specs.Views.{names_of, texts_of, AreKept, AreTypes, AreTexts, IsType, IsText, IsNamed, Stays}

-- the type of a type number, and the number of a string number's text
abbrev pub kind_in : List Kind → ℕ → Kind
kind_in kinds n = slice_index_or kinds n (record { depth = 0; base = 0 })

abbrev pub string_in : List ℕ → ℕ → ℕ
string_in strings n = slice_index_or strings n 18446744073709551615

-- the entry of a table of texts, or an empty one
abbrev pub text_among : List Text → ℕ → Text
text_among ts n = elim (slice_get ts n) [ Some t ↦ t | None ↦ [] ]

-- so many type numbers have their types
pub record KindsMade (p : Program) (old new : Types) (kinds : List Kind) (done : ℕ) : Type 0 where
  pub kept : AreKept new
  pub stays : Stays (names_of old) (names_of new)
  pub long : length kinds ≡ done
  pub at : (n : ℕ) → n < done → IsType new (kind_in kinds n) (type_at p n)

-- so many string numbers have the numbers of their texts
pub record StringsMade (p : Program) (new : Texts) (strings : List ℕ) (done : ℕ) : Type 0 where
  pub are : AreTexts new
  pub long : length strings ≡ done
  pub at : (n : ℕ) → n < done → IsText new (string_in strings n) (text_at p n)

-- ---- classes by type

-- the type with this number, which is no array
abbrev pub is_plain : ℕ → Kind → Bool
is_plain base k = nat_eq k.depth 0 && nat_eq k.base base

-- a place, or the number that stands for none
abbrev pub place_or_none : Option ℕ → ℕ
place_or_none (Some c) = c
place_or_none None = 4294967295

abbrev pub place_of : ℕ → Option ℕ
place_of n = cond (nat_eq n 4294967295) None (Some n)

-- the types stand among so many
pub record AreBelow (count : ℕ) (kinds : List Kind) : Type 0 where
  pub below : (i : ℕ) (k : Kind) → slice_get kinds i ≡ Some k → k.base < count

-- the table has the place of the first class of each type
pub record ArePlaces (kinds : List Kind) (table : List ℕ) : Type 0 where
  pub is : (base : ℕ) → slice_index_or table base 4294967295 ≡ place_or_none (position (is_plain base) kinds)

-- the place of the first class of a name
abbrev pub place_named : Program → Text → Option ℕ
place_named p t = position (λ c. text_eq (type_at p c.name) t) p.classes

-- ---- all names of a program

pub record HasNames (p : Program) (n : Names) : Type 0 where
  pub types : AreTypes n.types
  pub texts : AreTexts n.texts
  pub kinds : (i : ℕ) → i < length p.types → IsType n.types (kind_in n.kinds.items i) (type_at p i)
  pub strings : (i : ℕ) → i < length p.strings → IsText n.texts (string_in n.strings.items i) (text_at p i)
  pub own : n.class_kinds.items ≡ map (λ c. kind_in n.kinds.items c.name) p.classes
  pub places : ArePlaces n.class_kinds.items n.class_of.items

-- the tables to which a script and a framework add names
pub record AreReady (n : Names) : Type 0 where
  pub types : AreTypes n.types
  pub texts : AreTexts n.texts

-- what was there before keeps its number
pub record Grows (old new : Names) : Type 0 where
  pub ready : AreReady new
  pub types : Stays (names_of old.types) (names_of new.types)
  pub texts : Stays (texts_of old.texts) (texts_of new.texts)
  pub kinds : new.kinds ≡ old.kinds
  pub strings : new.strings ≡ old.strings
  pub class_of : new.class_of ≡ old.class_of
  pub class_kinds : new.class_kinds ≡ old.class_kinds

-- the tables of a run are those of its program
pub record IsTabled (l : Lookups) : Type 0 where
  pub named : IsNamed l
  pub own : l.class_kinds.items ≡ map (λ c. kind_in l.kinds.items c.name) l.program.now.classes
  pub places : ArePlaces l.class_kinds.items l.class_of.items

-- what stands in a table of types keeps its number
pub record GrowsTypes (old new : Types) : Type 0 where
  pub are : AreTypes new
  pub stays : Stays (names_of old) (names_of new)

-- ---- what stands above a type

-- each number is that of its text
pub record Stand (ts : List Text) (ns : List ℕ) (xs : List Text) : Type 0 where
  pub at : map (slice_get ts) ns ≡ map (λ x. Some x) xs

-- a row of a table, none past its end
abbrev pub row_in : List (Vec ℕ Global) → ℕ → List ℕ
row_in rows n = elim (slice_get rows n) [ Some row ↦ row.items | None ↦ [] ]

abbrev pub row_at : Above → ℕ → List ℕ
row_at a n = row_in a.rows.items n

-- the row of each type has the types that stand directly above it, by the program's lists and the framework's rows
pub record AreAbove (p : Program) (f : Framework) (t : Types) (a : Above) : Type 0 where
  pub above : (n : ℕ) (x : Text) → slice_get (names_of t) n ≡ Some x → Stand (names_of t) (row_at a n) (directly_above (named p) f x)

-- the tables of a run are over these names
pub record IsOver (p : Program) (n : Names) (l : Lookups) : Type 0 where
  pub program : l.program.now ≡ p
  pub types : l.types ≡ n.types
  pub texts : l.texts ≡ n.texts
  pub kinds : l.kinds ≡ n.kinds
  pub strings : l.strings ≡ n.strings
  pub class_of : l.class_of ≡ n.class_of
  pub class_kinds : l.class_kinds ≡ n.class_kinds

-- The tables of a run are those of its program, which is well-formed. Each query is exact for such tables.
pub record IsRight (l : Lookups) : Type 0 where
  pub tabled : IsTabled l
  pub well : is_well_formed l.program.now ≡ true
  pub resolved : IsResolved l.program.now l.hierarchy
  pub above : AreAbove l.program.now l.framework.now l.types l.above
  pub slots : l.slots.items ≡ slots_from 0 l.program.now.classes
  pub count : l.slot_count ≡ slots_after 0 l.program.now.classes
  pub defaults : l.defaults.items ≡ map (class_default l.program.now) l.program.now.classes
  pub constructors : l.constructors.items ≡ map (is_constructor l.program.now) l.program.now.methods

-- what was found along superclasses
abbrev pub search_of : Option MethodAt → Search
search_of None = find.Nothing
search_of (Some at) = find.Finds at

-- whether the class at a place has all bits of a flag
abbrev pub class_has : Program → ℕ → ℕ → Bool
class_has p class bit = elim (slice_get p.classes class) [ Some c ↦ has_flag c.flags bit | None ↦ false ]
