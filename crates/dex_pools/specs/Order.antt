-- Tables whose entries ascend.
use Rattle.std.specs.Prelude.{ℕ, suc, List, [], ◌∷◌, Bool, true, false, Option, Some, None, Result, Ok, Err, if◌then◌else◌, nat_lt, ◌==◌, ◌&&◌, ◌||◌}
use Rattle.std.specs.Ordering.{nat_cmp}
use Rattle.std.specs.Cmp.Lexicographic.{slice_cmp}
use Rattle.std.specs.declared.cmp.Ordering.{Ordering}
use Rattle.std.specs.declared.cmp.Ordering.TheVariants.{Less, Equal, Greater}
use Rattle.program_model.specs.declared.pools.Proto.{Proto}
use Rattle.program_model.specs.declared.pools.FieldName.{FieldName}
use Rattle.program_model.specs.declared.pools.MethodName.{MethodName}
use Rattle.dex_pools.specs.declared.fault.Table.{Table}
use Rattle.dex_pools.specs.declared.fault.PoolFault.{PoolFault}
use Rattle.dex_pools.specs.declared.fault.PoolFault.TheVariants.{Order}

abbrev pub is_less : Ordering → Bool
is_less Less = true
is_less Equal = false
is_less Greater = false

-- the second is above the first, if there is one
abbrev pub is_above : {X : Type 0} → (X → X → Bool) → Option X → X → Bool
is_above below None x = true
is_above below (Some before) x = below before x

-- each entry is above the one before it, the first, which has this place, above what stands before
abbrev pub ascends_from : {X : Type 0} → (X → X → Bool) → Table → Option X → ℕ → List X → Result (Unit {0}) PoolFault
ascends_from below table before place [] = Ok tt
ascends_from below table before place (x ∷ xs) = if is_above below before x then ascends_from below table (Some x) (suc place) xs else Err (Order table place)

abbrev pub ascends_in : {X : Type 0} → (X → X → Bool) → Table → List X → Result (Unit {0}) PoolFault
ascends_in below table xs = ascends_from below table None 0 xs

-- one list of numbers stands before another: texts by their units, parameters by their types
abbrev pub list_below : List ℕ → List ℕ → Bool
list_below a b = is_less (slice_cmp nat_cmp a b)

-- by the first number that differs
abbrev pub three_below : ℕ → ℕ → ℕ → ℕ → ℕ → ℕ → Bool
three_below a b c x y z = nat_lt a x || (a == x && (nat_lt b y || (b == y && nat_lt c z)))

-- by the result, then the parameters
abbrev pub proto_below : Proto → Proto → Bool
proto_below p q = nat_lt p.result q.result || (p.result == q.result && list_below p.parameters q.parameters)

-- by the class, then the name, then the type
abbrev pub field_below : FieldName → FieldName → Bool
field_below f g = three_below f.class f.name f.kind g.class g.name g.kind

-- by the class, then the name, then the proto
abbrev pub method_below : MethodName → MethodName → Bool
method_below m n = three_below m.class m.name m.proto n.class n.name n.proto
