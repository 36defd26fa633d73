-- Which methods have marks, and how marks come and go.
use Rattle.std.specs.Prelude.{ℕ, zero, suc, ◌&&◌, not, Bool, true, false, List, [], ◌∷◌, ◌++◌, length, replicate, flat_map, Option, Some, None, nat_eq, is_some, slice_get, slice_set, slice_index_or, option_and_then, cond}
use Rattle.std.specs.Option.{option_map}
use Rattle.program_model.specs.Lookups.{method_at}
use Rattle.program_model.specs.MemberRules.{is_direct}
use Rattle.program_model.specs.declared.program.Method.{Method}
use Rattle.program_model.specs.declared.program.MethodAt.{MethodAt}
use Rattle.program_model.specs.declared.program.Class.{Class}
use Rattle.program_model.specs.declared.program.Program.{Program}
use Rattle.class_defs.specs.Places.{chain_of}
use Rattle.class_defs.specs.Finding.{finds_virtual, by_entry}
use Rattle.hierarchy.specs.Touring.{subclasses_of}

-- ---- marks

abbrev pub is_on : List Bool → ℕ → Bool
is_on marks n = slice_index_or marks n false

-- some numbers are marked, or their marks are taken
abbrev pub set_all : Bool → List Bool → List ℕ → List Bool
set_all on marks [] = marks
set_all on marks (n ∷ ns) = set_all on (slice_set marks n on) ns

-- what the numbers below a bound bring along
abbrev pub up_to : {A : Type 0} → (ℕ → List A) → ℕ → List A
up_to f zero = []
up_to f (suc n) = up_to f n ++ f n

-- ---- what classes find

abbrev pub number_at : Program → MethodAt → Option ℕ
number_at p at = option_map (λ m. m.name) (method_at p at)

-- the number of the method that a class finds along itself and its superclasses by the name and the proto of a method number
abbrev pub found_by : Program → ℕ → ℕ → Option ℕ
found_by p class method = by_entry (λ q. option_and_then (number_at p) (finds_virtual p q.name q.proto class)) (slice_get p.methods method)

abbrev pub number_list : Option ℕ → List ℕ
number_list None = []
number_list (Some n) = n ∷ []

abbrev pub found_list : Program → ℕ → ℕ → List ℕ
found_list p class method = number_list (found_by p class method)

-- a class and all others under it
abbrev pub below_of : Program → ℕ → List ℕ
below_of p class = class ∷ subclasses_of p class

-- ---- what is taken

-- the virtual ones of some methods by number, and those of them that are kept
abbrev pub virtual_among : Program → List Method → List ℕ
virtual_among p ms = flat_map (λ m. cond (not (is_direct p m)) (m.name ∷ []) []) ms

abbrev pub kept_among : Program → List Bool → List Method → List ℕ
kept_among p kept ms = flat_map (λ m. cond (not (is_direct p m) && is_on kept m.name) (m.name ∷ []) []) ms

abbrev pub virtual_numbers : Program → Class → List ℕ
virtual_numbers p k = virtual_among p k.methods

abbrev pub kept_numbers : Program → List Bool → Class → List ℕ
kept_numbers p kept k = kept_among p kept k.methods

abbrev pub at_class : {A : Type 0} → (Class → List A) → Option Class → List A
at_class f None = []
at_class f (Some k) = f k

abbrev pub row_or_none : Option (List ℕ) → List ℕ
row_or_none None = []
row_or_none (Some row) = row

-- the method numbers by which classes below one are entered: those kept in it, and those in its row
abbrev pub entering : Program → List Bool → List (List ℕ) → ℕ → List ℕ
entering p kept rows e = at_class (kept_numbers p kept) (slice_get p.classes e) ++ row_or_none (slice_get rows e)

-- what is entered by what stands at one class
abbrev pub entered_at : Program → List Bool → List (List ℕ) → ℕ → List ℕ
entered_at p kept rows e = flat_map (λ d. flat_map (found_list p d) (entering p kept rows e)) (below_of p e)

-- the classes below an open one
abbrev pub opened_at : Program → List Bool → ℕ → List ℕ
opened_at p here e = cond (is_on here e) (below_of p e) []

-- the virtual methods of classes, and of a class and its superclasses
abbrev pub virtual_along : Program → List ℕ → List ℕ
virtual_along p cs = flat_map (λ c. at_class (virtual_numbers p) (slice_get p.classes c)) cs

abbrev pub numbers_along : Program → ℕ → List ℕ
numbers_along p d = virtual_along p (chain_of p (Some d))

-- all that an open class finds
abbrev pub found_along : Program → ℕ → List ℕ
found_along p d = flat_map (found_list p d) (numbers_along p d)

abbrev pub found_open : Program → List Bool → ℕ → List ℕ
found_open p opens d = cond (is_on opens d) (found_along p d) []

-- the classes that are open, by those that are open by themselves
abbrev pub open_marks : Program → List Bool → List Bool
open_marks p here = set_all true (replicate (length p.classes) false) (up_to (opened_at p here) (length p.classes))

-- the marks without those of what is entered
abbrev pub entered : Program → List Bool → List Bool → List (List ℕ) → List Bool → List Bool
entered p kept here rows marks =
    set_all false (set_all false marks (up_to (entered_at p kept rows) (length p.classes))) (up_to (found_open p (open_marks p here)) (length p.classes))

-- ---- what methods wait for

-- a method that a class finds by another one
abbrev pub pair_with : List Bool → ℕ → Option ℕ → List (ℕ × ℕ)
pair_with left x None = []
pair_with left x (Some f) = cond (not (nat_eq f x) && is_on left f) ((f, x) ∷ []) []

abbrev pub pairs_by : Program → List Bool → List ℕ → ℕ → List (ℕ × ℕ)
pairs_by p left ds x = flat_map (λ d. pair_with left x (found_by p d x)) ds

-- whether it is a virtual method with code that isn't kept
abbrev pub is_binding : Program → List Bool → Method → Bool
is_binding p kept m = not (is_direct p m) && (is_some m.body && not (is_on kept m.name))

abbrev pub pairs_among : Program → List Bool → List Bool → List ℕ → List Method → List (ℕ × ℕ)
pairs_among p kept left ds ms = flat_map (λ m. cond (is_binding p kept m) (pairs_by p left ds m.name) []) ms

abbrev pub pairs_of : Program → List Bool → List Bool → ℕ → Class → List (ℕ × ℕ)
pairs_of p kept left e k = pairs_among p kept left (below_of p e) k.methods

abbrev pub pairs_at : Program → List Bool → List Bool → ℕ → List (ℕ × ℕ)
pairs_at p kept left e = at_class (pairs_of p kept left e) (slice_get p.classes e)

abbrev pub all_pairs : Program → List Bool → List Bool → List (ℕ × ℕ)
all_pairs p kept left = up_to (pairs_at p kept left) (length p.classes)

-- ---- rounds

abbrev pub waiting : List Bool → ℕ × ℕ → List ℕ
waiting marks q = cond (is_on marks q.1) [] (q.0 ∷ [])

-- a round takes the marks from what waits for a method without one
abbrev pub round : List Bool → List (ℕ × ℕ) → List Bool → List Bool
round base pairs marks = set_all false base (flat_map (waiting marks) pairs)

abbrev pub rounds : List Bool → List (ℕ × ℕ) → ℕ → List Bool
rounds base pairs zero = replicate (length base) false
rounds base pairs (suc n) = round base pairs (rounds base pairs n)
