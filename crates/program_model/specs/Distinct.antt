-- Tables without two equal entries.
use Rattle.std.specs.Prelude.{ℕ, List, [], ◌∷◌, ◌++◌, Bool, true, false, nat_eq, Option, Some, None, if◌then◌else◌}
use Rattle.std.specs.List.{list_any}
use Rattle.std.specs.Ordering.{is_lt, nat_cmp}
use Rattle.std.specs.Cmp.Lexicographic.{pointwise, slice_cmp}
use Rattle.program_model.specs.declared.pools.Proto.{Proto}
use Rattle.program_model.specs.declared.pools.FieldName.{FieldName}
use Rattle.program_model.specs.declared.pools.MethodName.{MethodName}
use Rattle.program_model.specs.declared.program.Field.{Field}
use Rattle.program_model.specs.declared.program.Method.{Method}

-- what an entry is told apart by, as a list of numbers in the order of the table

abbrev pub text_key : List ℕ → List ℕ
text_key text = text

abbrev pub type_key : ℕ → List ℕ
type_key string = string ∷ []

abbrev pub proto_key : Proto → List ℕ
proto_key proto = proto.result ∷ proto.parameters

abbrev pub field_key : FieldName → List ℕ
field_key field = field.class ∷ field.name ∷ field.kind ∷ []

abbrev pub method_key : MethodName → List ℕ
method_key method = method.class ∷ method.name ∷ method.proto ∷ []

-- the members of a class are told apart by their numbers
abbrev pub own_field_key : Field → List ℕ
own_field_key field = field.name ∷ []

abbrev pub own_method_key : Method → List ℕ
own_method_key method = method.name ∷ []

-- whether two entries are the same, and whether the second comes behind the first in the order of the table
abbrev pub same_entry : {X : Type 0} → (X → List ℕ) → X → X → Bool
same_entry key x y = pointwise nat_eq (key x) (key y)

abbrev pub is_behind : {X : Type 0} → (X → List ℕ) → Option X → X → Bool
is_behind key None y = true
is_behind key (Some x) y = is_lt (slice_cmp nat_cmp (key x) (key y))

-- none of these entries is the same as one before it, which are `before` and the ones in front of it here
abbrev pub differ_from : {X : Type 0} → (X → List ℕ) → List X → List X → Bool
differ_from key before [] = true
differ_from key before (x ∷ xs) = if list_any (λ y. same_entry key y x) before then false else differ_from key (before ++ x ∷ []) xs

-- no two entries are the same
abbrev pub all_differ : {X : Type 0} → (X → List ℕ) → List X → Bool
all_differ key xs = differ_from key [] xs
