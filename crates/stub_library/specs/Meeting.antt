-- What is met on the walks upwards from types of the framework.
use Rattle.std.specs.Prelude.{◌≡◌, ℕ, zero, suc, ◌<◌, ◌≤◌, ◌^◌, ◌⊎◌, ◌&&◌, ◌||◌, not, Bool, true, false, List, [], ◌∷◌, ◌++◌, map, length, flat_map, Option, Some, None, slice_get, cond}
use Rattle.std.specs.List.{list_any, list_all}
use Rattle.std.specs.HashSet.{HashSet}
use Rattle.std.proofs.Common.{Bor}
use Rattle.indexmap.specs.IndexSet.{contains_by}
use Rattle.program_model.specs.MemberRules.{is_object}
use Rattle.program_model.specs.Texts.{string_text}
use Rattle.program_model.specs.declared.pools.MethodName.{MethodName}
use Rattle.program_model.specs.declared.program.Class.{Class}
use Rattle.program_model.specs.declared.program.Program.{Program}
use Rattle.class_defs.specs.Members.{names_method}
use Rattle.stub_library.specs.Stubs.{proto_text}
use Rattle.stub_library.specs.Shut.{declares, declares_method, has_method, type_clear}
use Rattle.stub_library.specs.Lists.{In}
use Rattle.stub_library.specs.Listing.{same_text, AreListed}
use Rattle.stub_library.specs.Spelling.{spelled_as}
use Rattle.stub_library.specs.declared.library.LibraryMethod.{LibraryMethod}
use Rattle.stub_library.specs.declared.library.LibraryClass.{LibraryClass}
use Rattle.stub_library.specs.declared.library.Library.{Library}
use Rattle.stub_library.specs.declared.declared.Declared.{Declared}
use Rattle.stub_library.specs.declared.declared.Met.{Met}

-- ---- lists of texts

abbrev pub texts_of : List (Bor (List ℕ)) → List (List ℕ)
texts_of us = map (λ u. u.now) us

abbrev pub is_seen : {S : Type 0} → HashSet (Bor (List ℕ)) S → List ℕ → Bool
is_seen s t = contains_by (λ u. same_text t u.now) s

-- those of some texts that weren't seen are added to a list, and are seen then
pub record Adds (texts : List (List ℕ)) (old new : List ℕ → Bool) (before after : List (List ℕ)) : Type 0 where
  pub stays : (t : List ℕ) → In t before → In t after
  pub from : (t : List ℕ) → In t after → In t before ⊎ In t texts
  pub got : (t : List ℕ) → In t texts → (old t ≡ true) ⊎ In t after
  pub seen : (t : List ℕ) → new t ≡ true → (old t ≡ true) ⊎ In t after
  pub more : (t : List ℕ) → old t ≡ true → new t ≡ true

-- ---- methods that are met

-- whether one of some method numbers has the name and the proto of an entry
abbrev pub names_any : Program → MethodName → List ℕ → Bool
names_any p q ns = list_any (λ n. names_method q.name q.proto (slice_get p.methods n)) ns

-- all types that were met are known, and none declares the method
abbrev pub clear_by : Program → MethodName → Bool → List ℕ → Bool
clear_by p q whole ns = whole && not (names_any p q ns)

abbrev pub is_clear : Program → Met → MethodName → Bool
is_clear p met q = clear_by p q met.whole met.numbers.items

-- for each method of the program, what is met now says of it what was met before says, and this test
pub record MeetsEntry (p : Program) (test : MethodName → Bool) (old new : Met) : Type 0 where
  pub is : (i : ℕ) (q : MethodName) → slice_get p.methods i ≡ Some q → is_clear p new q ≡ (is_clear p old q && test q)

-- the same for a test of the texts of a name and a proto
abbrev pub Meets : Program → (List ℕ → List ℕ → Bool) → Met → Met → Type 0
Meets p test old new = MeetsEntry p (λ q. test (string_text p q.name) (proto_text p q.proto)) old new

-- ---- the tables of a library

abbrev pub class_text : Option LibraryClass → List ℕ
class_text None = []
class_text (Some c) = c.name

-- the text of the type of a declaration
abbrev pub text_at : Library → ℕ → List ℕ
text_at l j = class_text (slice_get l.classes j)

-- those of some method numbers that have the name and proto of a method that is declared
abbrev pub declared_among : Program → List ℕ → List LibraryMethod → List ℕ
declared_among p ns ms = flat_map (λ m. spelled_as p ns m.name m.proto) ms

abbrev pub declared_by : Program → List ℕ → LibraryClass → List ℕ
declared_by p ns c = declared_among p ns c.methods

-- a row for a declaration, which has the program's methods with the name and proto of one that it declares
pub record IsRow (p : Program) (c : LibraryClass) (row : List ℕ) : Type 0 where
  pub names : (i : ℕ) (q : MethodName) → slice_get p.methods i ≡ Some q → names_any p q row ≡ has_method (string_text p q.name) (proto_text p q.proto) c

pub record HasRow (p : Program) (c : LibraryClass) (rows : List (List ℕ)) (j : ℕ) : Type 0 where
  pub row : List ℕ
  pub is : slice_get rows j ≡ Some row
  pub are : IsRow p c row

pub record AreRows (p : Program) (cs : List LibraryClass) (rows : List (List ℕ)) : Type 0 where
  pub size : length rows ≡ length cs
  pub at : (j : ℕ) (c : LibraryClass) → slice_get cs j ≡ Some c → HasRow p c rows j

pub record IsDeclared (p : Program) (l : Library) (d : Declared) : Type 0 where
  pub library : d.library.now ≡ l
  pub listed : AreListed (text_at l) (length l.classes) d.classes
  pub rows : AreRows p l.classes d.numbers.items

-- what one type of the walk says
abbrev pub local_clear : Library → List ℕ → List ℕ → List ℕ → Bool
local_clear l n q t = (is_object t || declares l t) && not (declares_method l t n q)

-- ---- what is met above the classes of the program

-- what is met above the types that a class lists
pub record IsMet (p : Program) (l : Library) (k : Class) (whole : Bool) (numbers : List ℕ) : Type 0 where
  pub is : (i : ℕ) (q : MethodName) → slice_get p.methods i ≡ Some q → clear_by p q whole numbers ≡ list_all (type_clear p l q) (k.superclass ∷ k.interfaces)

pub record HasMet (p : Program) (l : Library) (k : Class) (opens : List Bool) (rows : List (List ℕ)) (e : ℕ) : Type 0 where
  pub open_here : Bool
  pub row : List ℕ
  pub is_open : slice_get opens e ≡ Some open_here
  pub is_row : slice_get rows e ≡ Some row
  pub met : IsMet p l k (not open_here) row

pub record AreMet (p : Program) (l : Library) (opens : List Bool) (rows : List (List ℕ)) : Type 0 where
  pub open_size : length opens ≡ length p.classes
  pub row_size : length rows ≡ length p.classes
  pub at : (e : ℕ) (k : Class) → slice_get p.classes e ≡ Some k → HasMet p l k opens rows e

-- ---- the tables on the way

-- so many declarations have rows
pub record DeclaredTo (p : Program) (l : Library) (d : Declared) (done : ℕ) : Type 0 where
  pub library : d.library.now ≡ l
  pub listed : AreListed (text_at l) done d.classes
  pub size : length d.numbers.items ≡ done
  pub rows : (j : ℕ) (c : LibraryClass) → j < done → slice_get l.classes j ≡ Some c → HasRow p c d.numbers.items j

abbrev pub row_or_none : Option (List ℕ) → List ℕ
row_or_none None = []
row_or_none (Some row) = row

abbrev pub has_any : List ℕ → Bool
has_any [] = false
has_any (j ∷ js) = true

-- the methods of some declarations, and what stands directly above by them
abbrev pub rows_at : List (List ℕ) → List ℕ → List ℕ
rows_at rows places = flat_map (λ j. row_or_none (slice_get rows j)) places

abbrev pub class_above : Option LibraryClass → List (List ℕ)
class_above None = []
class_above (Some c) = c.above

abbrev pub above_by : Library → List ℕ → List (List ℕ)
above_by l places = flat_map (λ j. class_above (slice_get l.classes j)) places

-- so many classes have what is met above them
pub record MetTo (p : Program) (l : Library) (opens : List Bool) (rows : List (List ℕ)) (done : ℕ) : Type 0 where
  pub open_size : length opens ≡ done
  pub row_size : length rows ≡ done
  pub at : (e : ℕ) (k : Class) → e < done → slice_get p.classes e ≡ Some k → HasMet p l k opens rows e
