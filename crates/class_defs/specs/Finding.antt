-- What a name resolves to and what a call finds, by number (this project's profile: the bytecode page gives no order of
-- resolution).
use Rattle.std.specs.Prelude.{ℕ, zero, suc, ◌&&◌, not, Bool, true, false, List, [], ◌∷◌, ◌++◌, length, filter, flat_map, Option, Some, None, nat_eq, slice_get, option_and_then, cond}
use Rattle.std.specs.List.{list_any}
use Rattle.std.specs.Option.{option_or}
use Rattle.program_model.specs.declared.pools.FieldName.{FieldName}
use Rattle.program_model.specs.declared.pools.MethodName.{MethodName}
use Rattle.program_model.specs.declared.program.MethodAt.{MethodAt}
use Rattle.program_model.specs.declared.program.Program.{Program}
use Rattle.program_model.specs.declared.program.Version.{Version}
use Rattle.program_model.specs.declared.program.Version.TheVariants.{V035, V037}
use Rattle.program_model.specs.Lookups.{class_place, method_at}
use Rattle.class_defs.specs.Places.{super_place, interface_places, chain_of, is_under}
use Rattle.class_defs.specs.Members.{own_method, own_virtual, has_code, is_interface, is_common, own_field}

-- the first answer along some classes
abbrev pub first_among : {A : Type 0} → (ℕ → Option A) → List ℕ → Option A
first_among f [] = None
first_among f (c ∷ cs) = option_or (f c) (first_among f cs)

-- what a look-up answers: none, several that clash, or one
pub data Search : Type 0 where
  Nothing : Search
  Clash : Search
  Finds : (at : MethodAt) → Search

abbrev pub search_of : Option MethodAt → Search
search_of None = Nothing
search_of (Some at) = Finds at

-- the first method of a name and a proto along a class and its superclasses
abbrev pub finds_from : Program → ℕ → ℕ → Option ℕ → Option MethodAt
finds_from p name proto o = first_among (own_method p name proto) (chain_of p o)

abbrev pub by_entry : {A : Type 0} → (MethodName → Option A) → Option MethodName → Option A
by_entry f None = None
by_entry f (Some q) = f q

-- what a static or direct call of a method number finds
abbrev pub finds_static : Program → ℕ → Option MethodAt
finds_static p method = by_entry (λ q. finds_from p q.name q.proto (class_place p q.class)) (slice_get p.methods method)

-- the first virtual method of a name and a proto along a class and its superclasses
abbrev pub finds_virtual : Program → ℕ → ℕ → ℕ → Option MethodAt
finds_virtual p name proto c = first_among (own_virtual p name proto) (chain_of p (Some c))

-- ---- the candidates of interfaces

abbrev pub one_or_none : Option MethodAt → List MethodAt
one_or_none None = []
one_or_none (Some at) = at ∷ []

-- the virtual methods of a name and a proto in interfaces and in all above them
abbrev pub candidates_from : ℕ → Program → ℕ → ℕ → List ℕ → List MethodAt
candidates_from zero p name proto cs = []
candidates_from (suc n) p name proto cs = flat_map (λ c. cond (is_interface (slice_get p.classes c)) (one_or_none (own_virtual p name proto c) ++ candidates_from n p name proto (interface_places p c)) []) cs

-- each of them once
abbrev pub without_repeats : List MethodAt → List MethodAt
without_repeats [] = []
without_repeats (f ∷ fs) = f ∷ filter (λ g. not (nat_eq g.class f.class)) (without_repeats fs)

abbrev pub is_037 : Version → Bool
is_037 V035 = false
is_037 V037 = true

-- the candidates of the interfaces at some places
abbrev pub candidates : Program → List ℕ → ℕ → ℕ → List MethodAt
candidates p cs name proto = cond (is_037 p.version && not (is_common p name proto)) (without_repeats (candidates_from (length p.classes) p name proto cs)) []

-- no other candidate's interface is under its own
abbrev pub is_lowest : Program → List MethodAt → MethodAt → Bool
is_lowest p fs f = not (list_any (λ g. not (nat_eq g.class f.class) && is_under p g.class f.class) fs)

abbrev pub lowest : Program → List MethodAt → List MethodAt
lowest p fs = filter (λ f. has_code (method_at p f) && is_lowest p fs f) fs

-- the candidates give one method, clash, or find none
abbrev pub verdict : List MethodAt → Search
verdict [] = Nothing
verdict (f ∷ []) = Finds f
verdict (f ∷ g ∷ fs) = Clash

abbrev pub finds_among : Program → List ℕ → ℕ → ℕ → Search
finds_among p cs name proto = verdict (lowest p (candidates p cs name proto))

abbrev pub found_or : Option MethodAt → Search → Search
found_or None other = other
found_or (Some at) other = Finds at

-- What a virtual or interface call finds at a receiver of a class: the first virtual method along the class and its superclasses;
-- if there is none, what the candidates of the interfaces of all these classes give.
abbrev pub finds_at : Program → ℕ → ℕ → ℕ → Search
finds_at p c name proto = found_or (finds_virtual p name proto c) (finds_among p (flat_map (interface_places p) (chain_of p (Some c))) name proto)

-- ---- super calls

abbrev pub reaches : Program → ℕ → Option ℕ → Bool
reaches p class None = false
reaches p class (Some c) = is_under p class c

-- whether a type stands in the interface list of a class or of a program class above it
abbrev pub lists_interface : Program → ℕ → ℕ → Bool
lists_interface p class kind = list_any (λ k. reaches p class (class_place p k.name) && list_any (nat_eq kind) k.interfaces) p.classes

abbrev pub finds_above : Program → ℕ → MethodName → Search
finds_above p class q = search_of (finds_from p q.name q.proto (super_place p class))

abbrev pub finds_super_037 : Program → ℕ → MethodName → Option ℕ → Search
finds_super_037 p class q None = cond (lists_interface p class q.class) Nothing (finds_above p class q)
finds_super_037 p class q (Some c) = cond (is_interface (slice_get p.classes c)) (finds_among p (c ∷ []) q.name q.proto) (finds_above p class q)

abbrev pub finds_super_of : Program → ℕ → Option MethodName → Search
finds_super_of p class None = Nothing
finds_super_of p class (Some q) = cond (is_037 p.version) (finds_super_037 p class q (class_place p q.class)) (finds_above p class q)

-- what a super call of a method number finds from a class: in version 037 one that names a program interface finds what its
-- candidates give, and one that names another type of an interface list belongs to the framework; every other begins at the
-- superclass
abbrev pub finds_super : Program → ℕ → ℕ → Search
finds_super p class method = finds_super_of p class (slice_get p.methods method)

-- ---- resolution

-- some classes, each followed by those above it by interface lists
abbrev pub interfaces_from : ℕ → Program → List ℕ → List ℕ
interfaces_from zero p cs = []
interfaces_from (suc n) p cs = flat_map (λ c. c ∷ interfaces_from n p (interface_places p c)) cs

-- where a method resolves: the class and its superclasses, then their interfaces
abbrev pub resolution_of : Program → Option ℕ → List ℕ
resolution_of p o = chain_of p o ++ interfaces_from (length p.classes) p (flat_map (interface_places p) (chain_of p o))

abbrev pub resolves_method : Program → ℕ → Option MethodAt
resolves_method p method = by_entry (λ q. first_among (own_method p q.name q.proto) (resolution_of p (class_place p q.class))) (slice_get p.methods method)

-- the class, then its interfaces, then its superclass, each in turn
abbrev pub beside : Option ℕ → List ℕ
beside None = []
beside (Some c) = c ∷ []

abbrev pub field_from : ℕ → Program → ℕ → ℕ → ℕ → Option (ℕ × ℕ)
field_from zero p name kind c = None
field_from (suc n) p name kind c = option_or (own_field p name kind c) (first_among (field_from n p name kind) (interface_places p c ++ beside (super_place p c)))

abbrev pub field_by : Program → Option FieldName → Option (ℕ × ℕ)
field_by p None = None
field_by p (Some q) = option_and_then (field_from (length p.classes) p q.name q.kind) (class_place p q.class)

-- the class and the place of the field that a field number resolves to
abbrev pub resolves_field : Program → ℕ → Option (ℕ × ℕ)
resolves_field p field = field_by p (slice_get p.fields field)
