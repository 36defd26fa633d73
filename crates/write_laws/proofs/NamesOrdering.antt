-- The numbers of the entries in order are numbers of the tables.
use Rattle.std.proofs.Common.{◌≡◌, ◌<◌, ◌+◌, ℕ, suc, Bool, true, false, List, [], ◌∷◌, length, refl, ◌∙◌, arith}
use Rattle.std.specs.Prelude.{nat_lt, ◌&&◌}
use Rattle.std.specs.List.{AllByRecursion, flat_map}
use Rattle.std.specs.List.Sorted.{IsPermutation}
use Rattle.std.proofs.lemmas.List.{length-set, length-replicate}
use Rattle.std.proofs.lemmas.List.Sorted.{All-permutation}
use Rattle.std.proofs.lemmas.List.Elements.{All-from_recursion, recursion_from_All}
use Rattle.dex_pools.specs.declared.interner.Interner.{Interner}
use Rattle.dex_pools.specs.declared.used.Named.{Named}
use Rattle.dex_pools.specs.declared.used.Named.TheVariants as named
use Rattle.dex_pools.specs.declared.used.Used.{Used}
use Rattle.dex_pools.specs.Used.{mark_name, marked, no_use, program_names}
use Rattle.dex_pools.specs.Numbering.{numbers_from, numbers_of, close_methods, close_fields, close_protos, close_types, names_of_type, names_of_proto, names_of_field, names_of_method, used_in}
use Rattle.dex_pools.specs.Interned.{IsInterned}
use Rattle.program_model.specs.declared.program.Program.{Program}
use Rattle.write_laws.specs.Used.{AllIn}
use Rattle.write_laws.specs.Orders.{OrdersIn}

-- the flags are as many as the entries
pub record AsMany (p : Program) (u : Used) : Type 0 where
  pub strings : length u.strings ≡ length p.strings
  pub types : length u.types ≡ length p.types
  pub protos : length u.protos ≡ length p.protos
  pub fields : length u.fields ≡ length p.fields
  pub methods : length u.methods ≡ length p.methods

one_marked : (p : Program) (u : Used) (n : Named) → AsMany p u → AsMany p (mark_name u n)
one_marked p u (named.Text n) h = record { strings = length-set u.strings n true ∙ h.strings; types = h.types; protos = h.protos; fields = h.fields; methods = h.methods }
one_marked p u (named.Kind n) h = record { strings = h.strings; types = length-set u.types n true ∙ h.types; protos = h.protos; fields = h.fields; methods = h.methods }
one_marked p u (named.Proto n) h = record { strings = h.strings; types = h.types; protos = length-set u.protos n true ∙ h.protos; fields = h.fields; methods = h.methods }
one_marked p u (named.Field n) h = record { strings = h.strings; types = h.types; protos = h.protos; fields = length-set u.fields n true ∙ h.fields; methods = h.methods }
one_marked p u (named.Method n) h = record { strings = h.strings; types = h.types; protos = h.protos; fields = h.fields; methods = length-set u.methods n true ∙ h.methods }

pub all_marked : (p : Program) (u : Used) (ns : List Named) → AsMany p u → AsMany p (marked u ns)
all_marked p u [] h = h
all_marked p u (n ∷ ns) h = all_marked p (mark_name u n) ns (one_marked p u n h)

pub none_marked : (p : Program) → AsMany p (no_use p)
unfolding no_use
none_marked p = record { strings = length-replicate (length p.strings) false; types = length-replicate (length p.types) false; protos = length-replicate (length p.protos) false; fields = length-replicate (length p.fields) false; methods = length-replicate (length p.methods) false }

pub methods_marked : (p : Program) (u : Used) → AsMany p u → AsMany p (close_methods p u)
unfolding close_methods
methods_marked p u h = all_marked p u (flat_map (names_of_method p.methods) (numbers_of u.methods)) h

pub fields_marked : (p : Program) (u : Used) → AsMany p u → AsMany p (close_fields p u)
unfolding close_fields
fields_marked p u h = all_marked p u (flat_map (names_of_field p.fields) (numbers_of u.fields)) h

pub protos_marked : (p : Program) (u : Used) → AsMany p u → AsMany p (close_protos p u)
unfolding close_protos
protos_marked p u h = all_marked p u (flat_map (names_of_proto p.protos) (numbers_of u.protos)) h

pub types_marked : (p : Program) (u : Used) → AsMany p u → AsMany p (close_types p u)
unfolding close_types
types_marked p u h = all_marked p u (flat_map (names_of_type p.types) (numbers_of u.types)) h

pub used_marked : (p : Program) → AsMany p (used_in p)
unfolding used_in
used_marked p =
    let u0 : Used = marked (no_use p) (program_names p) in
    let u1 : Used = close_methods p u0 in
    let u2 : Used = close_fields p u1 in
    let u3 : Used = close_protos p u2 in
    types_marked p u3 (protos_marked p u2 (fields_marked p u1 (methods_marked p u0 (all_marked p (no_use p) (program_names p) (none_marked p)))))

-- ---- the numbers of flags that are set

from_below : (n : ℕ) (flags : List Bool) (size : ℕ) → n + length flags ≡ size → AllByRecursion (λ k. k < size) (numbers_from n flags)
from_below n [] size e = tt
from_below n (flag ∷ flags) size e = by_test (flag && nat_lt n 4294967295) refl (from_below (suc n) flags size (omega (arith, e)))
  where
    by_test : (t : Bool) → (flag && nat_lt n 4294967295) ≡ t → AllByRecursion (λ k. k < size) (numbers_from (suc n) flags) → AllByRecursion (λ k. k < size) (numbers_from n (flag ∷ flags))
    by_test true t h = rw t (omega (arith, e), h)
    by_test false t h = rw t h

ordered_in : {X : Type 0} (table : List X) (flags : List Bool) (order : List ℕ) → length flags ≡ length table → IsPermutation (numbers_of flags) order → AllIn table order
unfolding numbers_of
ordered_in table flags order e h = recursion_from_All (λ k. k < length table) order (All-permutation (λ k. k < length table) (numbers_from 0 flags) order h (All-from_recursion (λ k. k < length table) (numbers_from 0 flags) (from_below 0 flags (length table) (omega (arith, e)))))

pub orders_in : (p : Program) (i : Interner) → IsInterned p i → OrdersIn p i
orders_in p i h =
    let u : AsMany p (used_in p) = used_marked p in
    record {
      strings = ordered_in p.strings (used_in p).strings i.order.strings.items u.strings h.strings.in_order.same;
      types = ordered_in p.types (used_in p).types i.order.types.items u.types h.types.in_order.same;
      protos = ordered_in p.protos (used_in p).protos i.order.protos.items u.protos h.protos.in_order.same;
      fields = ordered_in p.fields (used_in p).fields i.order.fields.items u.fields h.fields.in_order.same;
      methods = ordered_in p.methods (used_in p).methods i.order.methods.items u.methods h.methods.in_order.same;
    }
