-- What a used entry names is used.
use Rattle.std.proofs.Common.{◌≡◌, ◌<◌, ◌+◌, ◌^◌, ℕ, List, [], ◌∷◌, ◌++◌, length, refl, ap, subst, ◌∙◌, arith, map}
use Rattle.std.specs.Prelude.{Bool, true, nat_eq, slice_get, Option, Some, None}
use Rattle.std.specs.List.{AllByRecursion, flat_map, list_any}
use Rattle.std.proofs.lemmas.Option.{slice_get_within}
use Rattle.dex_pools.specs.declared.used.Named.{Named}
use Rattle.dex_pools.specs.declared.used.Named.TheVariants as named
use Rattle.dex_pools.specs.declared.used.Used.{Used}
use Rattle.dex_pools.specs.Used.{mark_name, marked, no_use, program_names}
use Rattle.dex_pools.specs.Numbering.{numbers_from, numbers_of, kinds, type_entry, proto_entry, field_entry, method_entry, close_methods, close_fields, close_protos, close_types, names_of_type, names_of_proto, names_of_field, names_of_method, used_in}
use Rattle.program_model.specs.declared.pools.Proto.{Proto}
use Rattle.program_model.specs.declared.pools.FieldName.{FieldName}
use Rattle.program_model.specs.declared.pools.MethodName.{MethodName}
use Rattle.program_model.specs.declared.program.Program.{Program}
use Rattle.write_laws.specs.Used.{IsSet, IsUsed, UsesProto, UsesField, UsesMethod, IsClosed, IsShort}
use Rattle.write_laws.proofs.Marking.{stays, all_marked as all_used, all_at, all_weaker, is_number}
use Rattle.write_laws.proofs.NamesOrdering.{AsMany, all_marked as as_many, none_marked, methods_marked, fields_marked, protos_marked}

-- ---- which tables a name leaves alone

abbrev pub IsBelowMethod : Named → Type 0
IsBelowMethod (named.Text n) = Unit {0}
IsBelowMethod (named.Kind n) = Unit {0}
IsBelowMethod (named.Proto n) = Unit {0}
IsBelowMethod (named.Field n) = ⊥
IsBelowMethod (named.Method n) = ⊥

abbrev pub IsBelowProto : Named → Type 0
IsBelowProto (named.Text n) = Unit {0}
IsBelowProto (named.Kind n) = Unit {0}
IsBelowProto (named.Proto n) = ⊥
IsBelowProto (named.Field n) = ⊥
IsBelowProto (named.Method n) = ⊥

abbrev pub IsBelowType : Named → Type 0
IsBelowType (named.Text n) = Unit {0}
IsBelowType (named.Kind n) = ⊥
IsBelowType (named.Proto n) = ⊥
IsBelowType (named.Field n) = ⊥
IsBelowType (named.Method n) = ⊥

-- fields and methods stay; protos too; types too
record SameMembers (u v : Used) : Type 0 where
  pub fields : v.fields ≡ u.fields
  pub methods : v.methods ≡ u.methods

record SameProtos (u v : Used) : Type 0 where
  pub protos : v.protos ≡ u.protos
  pub members : SameMembers u v

record SameTypes (u v : Used) : Type 0 where
  pub types : v.types ≡ u.types
  pub protos : SameProtos u v

members_stay : (u : Used) (ns : List Named) → AllByRecursion IsBelowMethod ns → SameMembers u (marked u ns)
members_stay u [] h = record { fields = refl; methods = refl }
members_stay u (n ∷ ns) h = one n h.0 (members_stay (mark_name u n) ns h.1)
  where
    one : (n : Named) → IsBelowMethod n → SameMembers (mark_name u n) (marked (mark_name u n) ns) → SameMembers u (marked (mark_name u n) ns)
    one (named.Text n) x s = record { fields = s.fields; methods = s.methods }
    one (named.Kind n) x s = record { fields = s.fields; methods = s.methods }
    one (named.Proto n) x s = record { fields = s.fields; methods = s.methods }
    one (named.Field n) x s = absurd x
    one (named.Method n) x s = absurd x

protos_stay : (u : Used) (ns : List Named) → AllByRecursion IsBelowProto ns → SameProtos u (marked u ns)
protos_stay u [] h = record { protos = refl; members = record { fields = refl; methods = refl } }
protos_stay u (n ∷ ns) h = one n h.0 (protos_stay (mark_name u n) ns h.1)
  where
    one : (n : Named) → IsBelowProto n → SameProtos (mark_name u n) (marked (mark_name u n) ns) → SameProtos u (marked (mark_name u n) ns)
    one (named.Text n) x s = record { protos = s.protos; members = record { fields = s.members.fields; methods = s.members.methods } }
    one (named.Kind n) x s = record { protos = s.protos; members = record { fields = s.members.fields; methods = s.members.methods } }
    one (named.Proto n) x s = absurd x
    one (named.Field n) x s = absurd x
    one (named.Method n) x s = absurd x

types_stay : (u : Used) (ns : List Named) → AllByRecursion IsBelowType ns → SameTypes u (marked u ns)
types_stay u [] h = record { types = refl; protos = record { protos = refl; members = record { fields = refl; methods = refl } } }
types_stay u (n ∷ ns) h = one n h.0 (types_stay (mark_name u n) ns h.1)
  where
    one : (n : Named) → IsBelowType n → SameTypes (mark_name u n) (marked (mark_name u n) ns) → SameTypes u (marked (mark_name u n) ns)
    one (named.Text n) x s = record { types = s.types; protos = record { protos = s.protos.protos; members = record { fields = s.protos.members.fields; methods = s.protos.members.methods } } }
    one (named.Kind n) x s = absurd x
    one (named.Proto n) x s = absurd x
    one (named.Field n) x s = absurd x
    one (named.Method n) x s = absurd x

-- ---- what the entries name is below them

all_made : {X : Type 0} (P : X → Type 0) (f : ℕ → List X) (ns : List ℕ) → ((n : ℕ) → AllByRecursion P (f n)) → AllByRecursion P (flat_map f ns)
all_made P f [] h = tt
all_made {X = X} P f (n ∷ ns) h = both (f n) (h n) (all_made P f ns h)
  where
    both : (xs : List X) → AllByRecursion P xs → AllByRecursion P (flat_map f ns) → AllByRecursion P (xs ++ flat_map f ns)
    both [] a b = b
    both (x ∷ xs) a b = (a.0, both xs a.1 b)

method_below : (o : Option MethodName) → AllByRecursion IsBelowMethod (method_entry o)
method_below None = tt
method_below (Some m) = (tt, (tt, (tt, tt)))

field_below : (o : Option FieldName) → AllByRecursion IsBelowProto (field_entry o)
field_below None = tt
field_below (Some f) = (tt, (tt, (tt, tt)))

kinds_below : (ns : List ℕ) → AllByRecursion IsBelowProto (kinds ns)
kinds_below [] = tt
kinds_below (n ∷ ns) = (tt, kinds_below ns)

proto_below : (o : Option Proto) → AllByRecursion IsBelowProto (proto_entry o)
proto_below None = tt
proto_below (Some x) = (tt, (tt, kinds_below x.parameters))

type_below : (o : Option ℕ) → AllByRecursion IsBelowType (type_entry o)
type_below None = tt
type_below (Some string) = (tt, tt)

methods_same : (p : Program) (u : Used) → SameMembers u (close_methods p u)
unfolding close_methods names_of_method
methods_same p u = members_stay u _ (all_made IsBelowMethod (names_of_method p.methods) (numbers_of u.methods) (λ n. method_below (slice_get p.methods n)))

fields_same : (p : Program) (u : Used) → SameProtos u (close_fields p u)
unfolding close_fields names_of_field
fields_same p u = protos_stay u _ (all_made IsBelowProto (names_of_field p.fields) (numbers_of u.fields) (λ n. field_below (slice_get p.fields n)))

protos_same : (p : Program) (u : Used) → SameProtos u (close_protos p u)
unfolding close_protos names_of_proto
protos_same p u = protos_stay u _ (all_made IsBelowProto (names_of_proto p.protos) (numbers_of u.protos) (λ n. proto_below (slice_get p.protos n)))

types_same : (p : Program) (u : Used) → SameTypes u (close_types p u)
unfolding close_types names_of_type
types_same p u = types_stay u _ (all_made IsBelowType (names_of_type p.types) (numbers_of u.types) (λ n. type_below (slice_get p.types n)))

-- ---- each closing

-- the number of an entry whose flag is set
number_of : {X : Type 0} (table : List X) (flags : List Bool) (n : ℕ) (x : X) → length flags ≡ length table → length table < 2 ^ 32 → slice_get table n ≡ Some x → IsSet flags n → list_any (nat_eq n) (numbers_of flags) ≡ true
unfolding numbers_of
number_of table flags n x many few e h =
    let inside : n < length table = slice_get_within table n x e in
    let same : 0 + n ≡ n = omega arith in
    subst (λ k. list_any (nat_eq k) (numbers_from 0 flags) ≡ true) same (is_number 0 n flags (omega (arith, inside, many)) (omega (arith, few, many)) (h (omega (arith, inside, many))))

methods_use : (p : Program) (u : Used) (n : ℕ) (x : MethodName) → length u.methods ≡ length p.methods → length p.methods < 2 ^ 32 → slice_get p.methods n ≡ Some x → IsUsed u (named.Method n) → UsesMethod (close_methods p u) x
unfolding close_methods names_of_method
methods_use p u n x many few e h =
    let v : Used = marked u (flat_map (names_of_method p.methods) (numbers_of u.methods)) in
    let all : AllByRecursion (IsUsed v) (names_of_method p.methods n) = all_at (IsUsed v) (names_of_method p.methods) n (numbers_of u.methods) (number_of p.methods u.methods n x many few e h) (all_used u (flat_map (names_of_method p.methods) (numbers_of u.methods))) in
    let own : AllByRecursion (IsUsed v) (method_entry (Some x)) = subst (λ o. AllByRecursion (IsUsed v) (method_entry o)) e all in
    record { class = own.0; proto = own.1.0; name = own.1.1.0 }

fields_use : (p : Program) (u : Used) (n : ℕ) (x : FieldName) → length u.fields ≡ length p.fields → length p.fields < 2 ^ 32 → slice_get p.fields n ≡ Some x → IsUsed u (named.Field n) → UsesField (close_fields p u) x
unfolding close_fields names_of_field
fields_use p u n x many few e h =
    let v : Used = marked u (flat_map (names_of_field p.fields) (numbers_of u.fields)) in
    let all : AllByRecursion (IsUsed v) (names_of_field p.fields n) = all_at (IsUsed v) (names_of_field p.fields) n (numbers_of u.fields) (number_of p.fields u.fields n x many few e h) (all_used u (flat_map (names_of_field p.fields) (numbers_of u.fields))) in
    let own : AllByRecursion (IsUsed v) (field_entry (Some x)) = subst (λ o. AllByRecursion (IsUsed v) (field_entry o)) e all in
    record { class = own.0; kind = own.1.0; name = own.1.1.0 }

kinds_used : (u : Used) (ns : List ℕ) → AllByRecursion (IsUsed u) (kinds ns) → AllByRecursion (λ n. IsUsed u (named.Kind n)) ns
kinds_used u [] h = tt
kinds_used u (n ∷ ns) h = (h.0, kinds_used u ns h.1)

protos_use : (p : Program) (u : Used) (n : ℕ) (x : Proto) → length u.protos ≡ length p.protos → length p.protos < 2 ^ 32 → slice_get p.protos n ≡ Some x → IsUsed u (named.Proto n) → UsesProto (close_protos p u) x
unfolding close_protos names_of_proto
protos_use p u n x many few e h =
    let v : Used = marked u (flat_map (names_of_proto p.protos) (numbers_of u.protos)) in
    let all : AllByRecursion (IsUsed v) (names_of_proto p.protos n) = all_at (IsUsed v) (names_of_proto p.protos) n (numbers_of u.protos) (number_of p.protos u.protos n x many few e h) (all_used u (flat_map (names_of_proto p.protos) (numbers_of u.protos))) in
    let own : AllByRecursion (IsUsed v) (proto_entry (Some x)) = subst (λ o. AllByRecursion (IsUsed v) (proto_entry o)) e all in
    record { shorty = own.0; result = own.1.0; parameters = kinds_used v x.parameters own.1.1 }

types_use : (p : Program) (u : Used) (n string : ℕ) → length u.types ≡ length p.types → length p.types < 2 ^ 32 → slice_get p.types n ≡ Some string → IsUsed u (named.Kind n) → IsUsed (close_types p u) (named.Text string)
unfolding close_types names_of_type
types_use p u n string many few e h =
    let v : Used = marked u (flat_map (names_of_type p.types) (numbers_of u.types)) in
    let all : AllByRecursion (IsUsed v) (names_of_type p.types n) = all_at (IsUsed v) (names_of_type p.types) n (numbers_of u.types) (number_of p.types u.types n string many few e h) (all_used u (flat_map (names_of_type p.types) (numbers_of u.types))) in
    let own : AllByRecursion (IsUsed v) (type_entry (Some string)) = subst (λ o. AllByRecursion (IsUsed v) (type_entry o)) e all in
    own.0

-- ---- what a closing keeps

pub record Keeps (u v : Used) : Type 0 where
  pub name : (n : Named) → IsUsed u n → IsUsed v n

methods_keep : (p : Program) (u : Used) → Keeps u (close_methods p u)
unfolding close_methods
methods_keep p u = record { name = λ n h. stays u (flat_map (names_of_method p.methods) (numbers_of u.methods)) n h }

fields_keep : (p : Program) (u : Used) → Keeps u (close_fields p u)
unfolding close_fields
fields_keep p u = record { name = λ n h. stays u (flat_map (names_of_field p.fields) (numbers_of u.fields)) n h }

protos_keep : (p : Program) (u : Used) → Keeps u (close_protos p u)
unfolding close_protos
protos_keep p u = record { name = λ n h. stays u (flat_map (names_of_proto p.protos) (numbers_of u.protos)) n h }

types_keep : (p : Program) (u : Used) → Keeps u (close_types p u)
unfolding close_types
types_keep p u = record { name = λ n h. stays u (flat_map (names_of_type p.types) (numbers_of u.types)) n h }

method_kept : (u v : Used) (x : MethodName) → Keeps u v → UsesMethod u x → UsesMethod v x
method_kept u v x k h = record { class = k.name (named.Kind x.class) h.class; proto = k.name (named.Proto x.proto) h.proto; name = k.name (named.Text x.name) h.name }

field_kept : (u v : Used) (x : FieldName) → Keeps u v → UsesField u x → UsesField v x
field_kept u v x k h = record { class = k.name (named.Kind x.class) h.class; kind = k.name (named.Kind x.kind) h.kind; name = k.name (named.Text x.name) h.name }

proto_kept : (u v : Used) (x : Proto) → Keeps u v → UsesProto u x → UsesProto v x
proto_kept u v x k h = record { shorty = k.name (named.Text x.shorty) h.shorty; result = k.name (named.Kind x.result) h.result; parameters = all_weaker (λ n. IsUsed u (named.Kind n)) (λ n. IsUsed v (named.Kind n)) x.parameters (λ n g. k.name (named.Kind n) g) h.parameters }

-- ---- the whole

pub used_closed : (p : Program) → IsShort p → IsClosed p (used_in p)
unfolding used_in
used_closed p few =
    let u0 : Used = marked (no_use p) (program_names p) in
    let u1 : Used = close_methods p u0 in
    let u2 : Used = close_fields p u1 in
    let u3 : Used = close_protos p u2 in
    let u4 : Used = close_types p u3 in
    let m0 : AsMany p u0 = as_many p (no_use p) (program_names p) (none_marked p) in
    let m1 : AsMany p u1 = methods_marked p u0 m0 in
    let m2 : AsMany p u2 = fields_marked p u1 m1 in
    let m3 : AsMany p u3 = protos_marked p u2 m2 in
    let s1 : SameMembers u0 u1 = methods_same p u0 in
    let s2 : SameProtos u1 u2 = fields_same p u1 in
    let s3 : SameProtos u2 u3 = protos_same p u2 in
    let s4 : SameTypes u3 u4 = types_same p u3 in
    let k2 : Keeps u1 u2 = fields_keep p u1 in
    let k3 : Keeps u2 u3 = protos_keep p u2 in
    let k4 : Keeps u3 u4 = types_keep p u3 in
    record {
      types = λ n string e h. types_use p u3 n string m3.types few.types e (subst (λ l. IsSet l n) s4.types h);
      protos = λ n x e h. proto_kept u3 u4 x k4 (protos_use p u2 n x m2.protos few.protos e (subst (λ l. IsSet l n) (s4.protos.protos ∙ s3.protos) h));
      fields = λ n x e h. field_kept u3 u4 x k4 (field_kept u2 u3 x k3 (fields_use p u1 n x m1.fields few.fields e (subst (λ l. IsSet l n) (s4.protos.members.fields ∙ (s3.members.fields ∙ s2.members.fields)) h)));
      methods = λ n x e h. method_kept u3 u4 x k4 (method_kept u2 u3 x k3 (method_kept u1 u2 x k2 (methods_use p u0 n x m0.methods few.methods e (subst (λ l. IsSet l n) (s4.protos.members.methods ∙ (s3.members.methods ∙ (s2.members.methods ∙ s1.methods))) h))));
    }

-- what the classes name is used
pub names_used : (p : Program) → AllByRecursion (IsUsed (used_in p)) (program_names p)
unfolding used_in
names_used p =
    let u0 : Used = marked (no_use p) (program_names p) in
    let u1 : Used = close_methods p u0 in
    let u2 : Used = close_fields p u1 in
    let u3 : Used = close_protos p u2 in
    all_weaker (IsUsed u0) (IsUsed (close_types p u3)) (program_names p) (λ n h. (types_keep p u3).name n ((protos_keep p u2).name n ((fields_keep p u1).name n ((methods_keep p u0).name n h)))) (all_used (no_use p) (program_names p))
