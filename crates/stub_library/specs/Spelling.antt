-- The methods of a program by the texts of their names and protos.
use Rattle.std.specs.Prelude.{◌≡◌, ℕ, ◌<◌, ◌≤◌, Bool, true, false, List, [], ◌∷◌, length, flat_map, Option, Some, None, slice_get, slice_index_or, option_and_then, cond}
use Rattle.program_model.specs.MemberRules.{name_of_method}
use Rattle.program_model.specs.declared.pools.MethodName.{MethodName}
use Rattle.program_model.specs.declared.program.Program.{Program}
use Rattle.class_defs.specs.Members.{names_method}
use Rattle.hierarchy.specs.Membership.{key_at}
use Rattle.hierarchy.specs.declared.build.Hierarchy.{Hierarchy}
use Rattle.stub_library.specs.Stubs.{proto_text}
use Rattle.stub_library.specs.Listing.{same_text, all_below, AreListed}
use Rattle.stub_library.specs.declared.spelled.Spelled.{Spelled}

abbrev pub proto_of_entry : Program → Option MethodName → List ℕ
proto_of_entry p None = []
proto_of_entry p (Some q) = proto_text p q.proto

-- the text of the proto of a method number
abbrev pub proto_of_number : Program → ℕ → List ℕ
proto_of_number p n = proto_of_entry p (slice_get p.methods n)

-- the text of the name of the method number at a place of a list
abbrev pub name_in : Program → List ℕ → ℕ → List ℕ
name_in p ns j = name_of_method p (option_and_then (slice_get p.methods) (slice_get ns j))

abbrev pub proto_passes : Program → List ℕ → Option ℕ → List ℕ
proto_passes p proto None = []
proto_passes p proto (Some n) = cond (same_text (proto_of_number p n) proto) (n ∷ []) []

-- the method number at a place, where its proto has the text
abbrev pub spelled_one : Program → List ℕ → List ℕ → ℕ → List ℕ
spelled_one p ns proto j = proto_passes p proto (slice_get ns j)

-- those of some method numbers that have these texts as name and proto
abbrev pub spelled_as : Program → List ℕ → List ℕ → List ℕ → List ℕ
spelled_as p ns name proto = flat_map (spelled_one p ns proto) (all_below (name_in p ns) name (length ns))

-- a method number of the list with the name and the proto of an entry
pub record HasNumber (p : Program) (ns : List ℕ) (q : MethodName) : Type 0 where
  pub place : ℕ
  pub number : ℕ
  pub is : slice_get ns place ≡ Some number
  pub named : names_method q.name q.proto (slice_get p.methods number) ≡ true

-- method numbers, one of each name and proto of the program's, by the texts of the names
pub record IsSpelled (p : Program) (s : Spelled) : Type 0 where
  pub program : s.program.now ≡ p
  pub listed : AreListed (name_in p s.numbers.items) (length s.numbers.items) s.names
  pub all : (i : ℕ) (q : MethodName) → slice_get p.methods i ≡ Some q → HasNumber p s.numbers.items q

-- a method number of the list with this key
pub record HasKey (p : Program) (h : Hierarchy) (ns : List ℕ) (key : ℕ) : Type 0 where
  pub place : ℕ
  pub number : ℕ
  pub entry : MethodName
  pub is : slice_get ns place ≡ Some number
  pub is_entry : slice_get p.methods number ≡ Some entry
  pub keyed : key_at h.named.method_keys.keys.items number ≡ key

-- so many of the program's methods are seen by their keys
pub record SpelledTo (p : Program) (h : Hierarchy) (seen : List Bool) (s : Spelled) (done : ℕ) : Type 0 where
  pub program : s.program.now ≡ p
  pub listed : AreListed (name_in p s.numbers.items) (length s.numbers.items) s.names
  pub short : length s.numbers.items ≤ done
  pub long : length seen ≡ length p.methods
  pub known : (key : ℕ) → slice_index_or seen key false ≡ true → HasKey p h s.numbers.items key
  pub all : (i : ℕ) (q : MethodName) → i < done → slice_get p.methods i ≡ Some q → slice_index_or seen (key_at h.named.method_keys.keys.items i) false ≡ true
