-- Marks on numbers, and which methods are marked on the way.
use Rattle.std.specs.Prelude.{◌≡◌, ◌<◌, ℕ, ◌&&◌, ◌||◌, not, Bool, true, false, nat_eq, List, [], ◌∷◌, length, Some, is_some, slice_get, slice_index_or, slice_set}
use Rattle.std.specs.List.{list_any}
use Rattle.program_model.specs.declared.pass.Outside.{Outside}
use Rattle.program_model.specs.declared.pools.MethodName.{MethodName}
use Rattle.program_model.specs.declared.program.Class.{Class}
use Rattle.program_model.specs.declared.program.Method.{Method}
use Rattle.program_model.specs.declared.program.Program.{Program}
use Rattle.program_model.specs.MemberRules.{is_direct}
use Rattle.class_defs.specs.Members.{own_virtual}
use Rattle.receivers.specs.Receiving.{interface_at}
use Rattle.loose_methods.specs.Loose.{classes_under, is_alone}
use Rattle.loose_methods.specs.Candidates.{takes_receiver, is_candidate}

abbrev pub is_on : List Bool → ℕ → Bool
is_on marks n = slice_index_or marks n false

abbrev pub turned_on : List Bool → List ℕ → List Bool
turned_on marks [] = marks
turned_on marks (n ∷ ns) = turned_on (slice_set marks n true) ns

abbrev pub is_any_on : List Bool → List ℕ → Bool
is_any_on marks numbers = list_any (is_on marks) numbers

-- just so many numbers have a mark, which says what a test says
pub record IsTable (size : ℕ) (test : ℕ → Bool) (marks : List Bool) : Type 0 where
  pub long : length marks ≡ size
  pub are : (n : ℕ) → n < size → is_on marks n ≡ test n

-- ---- the classes under one

-- just the classes under one are in the list
pub record AreUnder (p : Program) (class : ℕ) (under : List ℕ) : Type 0 where
  pub all : (t : ℕ → Bool) → list_any t under ≡ list_any t (classes_under p class)
  pub short : (k c : ℕ) → slice_get under k ≡ Some c → c < length p.classes

-- a definer of a name and a proto that keeps a method of a class from being alone where it stands above a class under that
abbrev pub keeps_from : Program → MethodName → ℕ → ℕ → Bool
keeps_from p q class u = (not (nat_eq u class) && is_some (own_virtual p q.name q.proto u)) || interface_at p u

-- ---- candidates

-- what is tested of a method of a class that may have candidates
abbrev pub tested : Program → List Bool → ℕ → MethodName → Method → Bool
tested p kept place q m = takes_receiver p q m && not (is_on kept m.name) && (is_direct p m || is_alone p q place)

-- a method that other methods let be static
pub record IsCandidate (p : Program) (o : Outside) (n : ℕ) : Type 0 where
  pub place : ℕ
  pub class : Class
  pub at : ℕ
  pub method : Method
  pub name : MethodName
  pub is_class : slice_get p.classes place ≡ Some class
  pub is_method : slice_get class.methods at ≡ Some method
  pub is_number : method.name ≡ n
  pub is_name : slice_get p.methods n ≡ Some name
  pub holds : is_candidate p o place class name method ≡ true
