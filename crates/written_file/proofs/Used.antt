-- Each entry of the written program's tables is used.
use Rattle.std.proofs.Common.{◌≡◌, ◌<◌, ◌≤◌, ◌+◌, ◌^◌, ◌⊎◌, inl, inr, ⊎_elim, ℕ, zero, suc, Bool, true, false, cond, List, [], ◌∷◌, ◌++◌, length, map, replicate, refl, sym, ap, subst, ◌∙◌, arith, Option, Some, None, get_or, set, get_or-set_same, get_or-set_other}
use Rattle.std.specs.Prelude.{slice_get, slice_set, slice_index_or, nat_eq, nat_lt, ◌&&◌, sum_by}
use Rattle.std.specs.Option.{option_map}
use Rattle.std.specs.List.{flat_map, list_any, AllByRecursion}
use Rattle.std.proofs.lemmas.Bool.{eqb-true, eqb-false, eq-eqb, and_parts}
use Rattle.std.proofs.lemmas.List.Sums.{sum_by-cons}
use Rattle.std.proofs.lemmas.Option.{slice_get_within}
use Rattle.lemmas.proofs.Lists.{get_there}
use Rattle.lemmas.proofs.Options.{some_same}
use Rattle.lemmas.proofs.Bools.{clash}
use Rattle.dex_pools.specs.declared.interner.Interner.{Interner}
use Rattle.dex_pools.specs.declared.used.Named.{Named}
use Rattle.dex_pools.specs.declared.used.Named.TheVariants as named
use Rattle.dex_pools.specs.declared.used.Used.{Used}
use Rattle.dex_pools.specs.Used.{mark_name, marked, no_use, class_names, program_names}
use Rattle.dex_pools.specs.Interned.{IsInterned}
use Rattle.dex_pools.specs.Written.{renumbered}
use Rattle.dex_pools.specs.Numbering.{numbers_from, numbers_of, type_entry, proto_entry, field_entry, method_entry, kinds, names_of_type, names_of_proto, names_of_field, names_of_method, close_methods, close_fields, close_protos, close_types, used_in, string_key, type_key, proto_key, field_key, method_key, IsNumbered}
use Rattle.program_model.specs.declared.pass.Renumber.{Renumber}
use Rattle.program_model.specs.declared.pools.Proto.{Proto}
use Rattle.program_model.specs.declared.pools.FieldName.{FieldName}
use Rattle.program_model.specs.declared.pools.MethodName.{MethodName}
use Rattle.program_model.specs.declared.program.Class.{Class}
use Rattle.program_model.specs.declared.program.Program.{Program}
use Rattle.dex_defs.specs.Written.{one_entry, entries, new_string, new_type, new_proto, new_field, new_method, written_proto, written_field_name, written_method_name, written_class, class_order, written_by}
use Rattle.dex_defs.specs.Valid.{AllUsed, all_names}
use Rattle.write_laws.specs.Used.{IsSet, IsUsed, IsShort}
use Rattle.write_laws.specs.Carried.{renamed}
use Rattle.write_laws.specs.Orders.{OrdersIn}
use Rattle.write_laws.proofs.Marking.{stays}
use Rattle.write_laws.proofs.NamesOrdering.{AsMany, used_marked, orders_in}
use Rattle.write_laws.proofs.Owning.{order_set}
use Rattle.write_laws.proofs.Ascending.{is_at, once}
use Rattle.write_laws.proofs.Carried.{used_at, carried, entries_long}
use Rattle.written_file.proofs.In.{In, in_left, in_right, in_split, in_map, Source, in_source, in_flat, in_got, Place, place_in, in_contains, has_in, all_in}
use Rattle.written_file.proofs.Naming.{class_in}

-- ---- which name set a flag

abbrev Flag : Used → Named → Type 0
Flag u (named.Text n) = slice_index_or u.strings n false ≡ true
Flag u (named.Kind n) = slice_index_or u.types n false ≡ true
Flag u (named.Proto n) = slice_index_or u.protos n false ≡ true
Flag u (named.Field n) = slice_index_or u.fields n false ≡ true
Flag u (named.Method n) = slice_index_or u.methods n false ≡ true

set_source : (flags : List Bool) (m k : ℕ) → slice_index_or (slice_set flags m true) k false ≡ true → (m ≡ k) ⊎ (slice_index_or flags k false ≡ true)
set_source flags m k f = by_test (nat_eq k m) refl
  where
    by_test : (t : Bool) → nat_eq k m ≡ t → (m ≡ k) ⊎ (slice_index_or flags k false ≡ true)
    by_test true e = inl (sym (eqb-true k m e))
    by_test false e = inr (sym (get_or-set_other flags m k true false (eqb-false k m e)) ∙ f)

one_source : (u : Used) (m n : Named) → Flag (mark_name u m) n → (m ≡ n) ⊎ Flag u n
one_source u (named.Text m) (named.Text k) f = elim (set_source u.strings m k f) [ inl e ↦ inl (ap (λ (j : ℕ). named.Text j) e) | inr g ↦ inr g ]
one_source u (named.Kind m) (named.Kind k) f = elim (set_source u.types m k f) [ inl e ↦ inl (ap (λ (j : ℕ). named.Kind j) e) | inr g ↦ inr g ]
one_source u (named.Proto m) (named.Proto k) f = elim (set_source u.protos m k f) [ inl e ↦ inl (ap (λ (j : ℕ). named.Proto j) e) | inr g ↦ inr g ]
one_source u (named.Field m) (named.Field k) f = elim (set_source u.fields m k f) [ inl e ↦ inl (ap (λ (j : ℕ). named.Field j) e) | inr g ↦ inr g ]
one_source u (named.Method m) (named.Method k) f = elim (set_source u.methods m k f) [ inl e ↦ inl (ap (λ (j : ℕ). named.Method j) e) | inr g ↦ inr g ]
one_source u m n f = inr f

marked_source : (u : Used) (ms : List Named) (n : Named) → Flag (marked u ms) n → In n ms ⊎ Flag u n
marked_source u [] n f = inr f
marked_source u (m ∷ ms) n f = elim (marked_source (mark_name u m) ms n f) [ inl i ↦ inl (inr i) | inr g ↦ by_one (one_source u m n g) ]
  where
    by_one : (m ≡ n) ⊎ Flag u n → In n (m ∷ ms) ⊎ Flag u n
    by_one (inl e) = inl (inl e)
    by_one (inr g) = inr g

unset : (k n : ℕ) → slice_index_or (replicate k false) n false ≡ false
unset zero n = refl
unset (suc k) zero = refl
unset (suc k) (suc n) = unset k n

none_set : (p : Program) (n : Named) → Flag (no_use p) n → ⊥
unfolding no_use
none_set p (named.Text n) f = clash (slice_index_or (replicate (length p.strings) false) n false) f (unset (length p.strings) n)
none_set p (named.Kind n) f = clash (slice_index_or (replicate (length p.types) false) n false) f (unset (length p.types) n)
none_set p (named.Proto n) f = clash (slice_index_or (replicate (length p.protos) false) n false) f (unset (length p.protos) n)
none_set p (named.Field n) f = clash (slice_index_or (replicate (length p.fields) false) n false) f (unset (length p.fields) n)
none_set p (named.Method n) f = clash (slice_index_or (replicate (length p.methods) false) n false) f (unset (length p.methods) n)

flag_used : (u : Used) (n : Named) → Flag u n → IsUsed u n
flag_used u (named.Text n) f = λ lt. f
flag_used u (named.Kind n) f = λ lt. f
flag_used u (named.Proto n) f = λ lt. f
flag_used u (named.Field n) f = λ lt. f
flag_used u (named.Method n) f = λ lt. f

-- ---- which entry named it

record Number (from : ℕ) (flags : List Bool) (k : ℕ) : Type 0 where
  at : ℕ
  is : k ≡ from + at
  flag : slice_index_or flags at false ≡ true

number_flag : (from : ℕ) (flags : List Bool) (k : ℕ) → In k (numbers_from from flags) → Number from flags k
number_flag from [] k i = absurd i
number_flag from (flag ∷ flags) k i = by_test (flag && nat_lt from 4294967295) refl (λ j. number_flag (suc from) flags k j)
  where
    further : Number (suc from) flags k → Number from (flag ∷ flags) k
    further n = record { at = suc n.at; is = omega (arith, n.is); flag = n.flag }

    by_head : flag ≡ true → (from ≡ k) ⊎ In k (numbers_from (suc from) flags) → (In k (numbers_from (suc from) flags) → Number (suc from) flags k) → Number from (flag ∷ flags) k
    by_head f (inl e) on = record { at = 0; is = omega (arith, e); flag = f }
    by_head f (inr j) on = further (on j)

    by_test : (t : Bool) → (flag && nat_lt from 4294967295) ≡ t → (In k (numbers_from (suc from) flags) → Number (suc from) flags k) → Number from (flag ∷ flags) k
    by_test true e on = by_head (and_parts flag (nat_lt from 4294967295) e).0 (rw e at i) on
    by_test false e on = further (on (rw e at i))

-- a flagged entry that names it
record Entry {X : Type 0} (table : List X) (entry : Option X → List Named) (flags : List Bool) (n : Named) : Type 0 where
  k : ℕ
  x : X
  flag : slice_index_or flags k false ≡ true
  is : slice_get table k ≡ Some x
  has : In n (entry (Some x))

closing : {X : Type 0} (table : List X) (entry : Option X → List Named) → entry None ≡ [] → (flags : List Bool) (n : Named) → In n (flat_map (λ k. entry (slice_get table k)) (numbers_of flags)) → Entry table entry flags n
unfolding numbers_of
closing {X = X} table entry none flags n i =
    let s : Source (λ k. entry (slice_get table k)) n (numbers_from 0 flags) = in_source (λ k. entry (slice_get table k)) n (numbers_from 0 flags) i in
    let f : Number 0 flags s.x = number_flag 0 flags s.x s.is in
    by_entry s.x (subst (λ (k : ℕ). slice_index_or flags k false ≡ true) (omega (arith, f.is)) f.flag) (slice_get table s.x) refl s.has
  where
    by_entry : (k : ℕ) → slice_index_or flags k false ≡ true → (o : Option X) → slice_get table k ≡ o → In n (entry (slice_get table k)) → Entry table entry flags n
    by_entry k f None e j = absurd (subst (λ l. In n l) (ap entry e ∙ none) j)
    by_entry k f (Some x) e j = record { k = k; x = x; flag = f; is = e; has = subst (λ o. In n (entry o)) e j }

-- ---- back from new numbers

at_least : (xs : List ℕ) (k m : ℕ) → slice_get xs k ≡ Some m → 1 ≤ sum_by (is_at m) xs
at_least [] k m e = absurd cc
at_least (x ∷ xs) zero m e =
    let same : x ≡ m = some_same x m e in
    let one : ◌≡◌ {A = ℕ} (cond (nat_eq m x) 1 0) 1 = let t : nat_eq m x ≡ true = eq-eqb m x (sym same) in rw t refl in
    omega (arith, sum_by-cons (is_at m) x xs, one)
at_least (x ∷ xs) (suc k) m e = omega (arith, sum_by-cons (is_at m) x xs, at_least xs k m e)

only_place : (xs : List ℕ) (a b m : ℕ) → sum_by (is_at m) xs ≤ 1 → slice_get xs a ≡ Some m → slice_get xs b ≡ Some m → a ≡ b
only_place [] a b m le e f = absurd cc
only_place (x ∷ xs) zero zero m le e f = refl
only_place (x ∷ xs) zero (suc b) m le e f =
    let one : ◌≡◌ {A = ℕ} (cond (nat_eq m x) 1 0) 1 = let t : nat_eq m x ≡ true = eq-eqb m x (sym (some_same x m e)) in rw t refl in
    absurd (omega (arith, le, sum_by-cons (is_at m) x xs, one, at_least xs b m f))
only_place (x ∷ xs) (suc a) zero m le e f =
    let one : ◌≡◌ {A = ℕ} (cond (nat_eq m x) 1 0) 1 = let t : nat_eq m x ≡ true = eq-eqb m x (sym (some_same x m f)) in rw t refl in
    absurd (omega (arith, le, sum_by-cons (is_at m) x xs, one, at_least xs a m e))
only_place (x ∷ xs) (suc a) (suc b) m le e f = ap suc (only_place xs a b m (omega (arith, le, sum_by-cons (is_at m) x xs)) e f)

-- the used entry with a new number
record Back (flags : List Bool) (numbers : List ℕ) (count n : ℕ) : Type 0 where
  m : ℕ
  below : m < count
  flag : slice_index_or flags m false ≡ true
  new : renumbered numbers m ≡ n

back : (flags : List Bool) (key : ℕ → List ℕ) (count : ℕ) (order numbers : List ℕ) → IsNumbered key flags count order numbers → length flags ≡ count → count < 2 ^ 32 → AllByRecursion (λ k. k < count) order → (n : ℕ) → n < length order → Back flags numbers count n
back flags key count order numbers h many few all n lt =
    let there = get_there order n lt in
    let below : there.0 < count = all_in (λ k. k < count) there.0 order all (in_got order n there.0 there.1) in
    let set : IsSet flags there.0 = all_in (IsSet flags) there.0 order (order_set flags key count order numbers h) (in_got order n there.0 there.1) in
    record {
      m = there.0;
      below = below;
      flag = set (omega (arith, below, many));
      new = only_place order (renumbered numbers there.0) n there.0 (once flags key count order numbers h there.0) (used_at flags key count order numbers h many few there.0 below set).stands there.1;
    }

kinds_in : (r : Renumber) (ks : List ℕ) (n : Named) → In n (kinds ks) → In (renamed r n) (kinds (map (new_type r) ks))
kinds_in r [] n i = absurd i
kinds_in r (k ∷ ks) n (inl e) = inl (ap (renamed r) e)
kinds_in r (k ∷ ks) n (inr i) = inr (kinds_in r ks n i)

-- ---- the whole

module _ (p : Program) (i : Interner) (few : IsShort p) (h : IsInterned p i) (every : (k : ℕ) → k < length p.classes → list_any (nat_eq k) (class_order p) ≡ true) where
  abbrev q : Program
  q = written_by i p

  abbrev r : Renumber
  r = i.numbers

  abbrev u : Used
  u = used_in p

  many : AsMany p (used_in p)
  many = used_marked p

  orders : OrdersIn p i
  orders = orders_in p i h

  names_in : (n : Named) → In n (program_names p) → In (renamed r n) (program_names q)
  names_in n j =
      let s : Source class_names n p.classes = in_source class_names n p.classes j in
      let k : Place s.x p.classes = place_in s.x p.classes s.is in
      let there : In k.at (class_order p) = has_in k.at (class_order p) (every k.at (slice_get_within p.classes k.at s.x k.is)) in
      let own : In (written_class r p s.x) (one_entry (written_class r p) (slice_get p.classes k.at)) = rw k.is (inl refl) in
      in_flat class_names (renamed r n) (written_class r p s.x) q.classes (in_flat (λ m. one_entry (written_class r p) (slice_get p.classes m)) (written_class r p s.x) k.at (class_order p) there own) (class_in r p s.x n s.has)

  -- where a name is from
  pub data Reached (n : Named) : Type 0 where
    ByClass : In n (program_names p) → Reached n
    ByType : (k x : ℕ) → IsUsed u (named.Kind k) → slice_get p.types k ≡ Some x → In n (type_entry (Some x)) → Reached n
    ByProto : (k : ℕ) (x : Proto) → IsUsed u (named.Proto k) → slice_get p.protos k ≡ Some x → In n (proto_entry (Some x)) → Reached n
    ByField : (k : ℕ) (x : FieldName) → IsUsed u (named.Field k) → slice_get p.fields k ≡ Some x → In n (field_entry (Some x)) → Reached n
    ByMethod : (k : ℕ) (x : MethodName) → IsUsed u (named.Method k) → slice_get p.methods k ≡ Some x → In n (method_entry (Some x)) → Reached n

  reached : (n : Named) → Flag u n → Reached n
  unfolding used_in close_methods close_fields close_protos close_types names_of_type names_of_proto names_of_field names_of_method
  reached n f = by_types (marked_source u3 (flat_map (λ k. type_entry (slice_get p.types k)) (numbers_of u3.types)) n f)
    where
      u0 : Used
      u0 = marked (no_use p) (program_names p)

      u1 : Used
      u1 = marked u0 (flat_map (λ k. method_entry (slice_get p.methods k)) (numbers_of u0.methods))

      u2 : Used
      u2 = marked u1 (flat_map (λ k. field_entry (slice_get p.fields k)) (numbers_of u1.fields))

      u3 : Used
      u3 = marked u2 (flat_map (λ k. proto_entry (slice_get p.protos k)) (numbers_of u2.protos))

      on3 : (m : Named) → IsUsed u3 m → IsUsed u m
      on3 m g = stays u3 (flat_map (λ k. type_entry (slice_get p.types k)) (numbers_of u3.types)) m g

      on2 : (m : Named) → IsUsed u2 m → IsUsed u m
      on2 m g = on3 m (stays u2 (flat_map (λ k. proto_entry (slice_get p.protos k)) (numbers_of u2.protos)) m g)

      on1 : (m : Named) → IsUsed u1 m → IsUsed u m
      on1 m g = on2 m (stays u1 (flat_map (λ k. field_entry (slice_get p.fields k)) (numbers_of u1.fields)) m g)

      on0 : (m : Named) → IsUsed u0 m → IsUsed u m
      on0 m g = on1 m (stays u0 (flat_map (λ k. method_entry (slice_get p.methods k)) (numbers_of u0.methods)) m g)

      by_classes : In n (program_names p) ⊎ Flag (no_use p) n → Reached n
      by_classes (inl j) = ByClass j
      by_classes (inr g) = absurd (none_set p n g)

      by_methods : In n (flat_map (λ k. method_entry (slice_get p.methods k)) (numbers_of u0.methods)) ⊎ Flag u0 n → Reached n
      by_methods (inl j) = let e : Entry p.methods method_entry u0.methods n = closing p.methods method_entry refl u0.methods n j in ByMethod e.k e.x (on0 (named.Method e.k) (flag_used u0 (named.Method e.k) e.flag)) e.is e.has
      by_methods (inr g) = by_classes (marked_source (no_use p) (program_names p) n g)

      by_fields : In n (flat_map (λ k. field_entry (slice_get p.fields k)) (numbers_of u1.fields)) ⊎ Flag u1 n → Reached n
      by_fields (inl j) = let e : Entry p.fields field_entry u1.fields n = closing p.fields field_entry refl u1.fields n j in ByField e.k e.x (on1 (named.Field e.k) (flag_used u1 (named.Field e.k) e.flag)) e.is e.has
      by_fields (inr g) = by_methods (marked_source u0 (flat_map (λ k. method_entry (slice_get p.methods k)) (numbers_of u0.methods)) n g)

      by_protos : In n (flat_map (λ k. proto_entry (slice_get p.protos k)) (numbers_of u2.protos)) ⊎ Flag u2 n → Reached n
      by_protos (inl j) = let e : Entry p.protos proto_entry u2.protos n = closing p.protos proto_entry refl u2.protos n j in ByProto e.k e.x (on2 (named.Proto e.k) (flag_used u2 (named.Proto e.k) e.flag)) e.is e.has
      by_protos (inr g) = by_fields (marked_source u1 (flat_map (λ k. field_entry (slice_get p.fields k)) (numbers_of u1.fields)) n g)

      by_types : In n (flat_map (λ k. type_entry (slice_get p.types k)) (numbers_of u3.types)) ⊎ Flag u3 n → Reached n
      by_types (inl j) = let e : Entry p.types type_entry u3.types n = closing p.types type_entry refl u3.types n j in ByType e.k e.x (on3 (named.Kind e.k) (flag_used u3 (named.Kind e.k) e.flag)) e.is e.has
      by_types (inr g) = by_protos (marked_source u2 (flat_map (λ k. proto_entry (slice_get p.protos k)) (numbers_of u2.protos)) n g)

  type_in : (x : ℕ) (n : Named) → In n (type_entry (Some x)) → In (renamed r n) (type_entry (Some (new_string r x)))
  type_in x n (inl e) = inl (ap (renamed r) e)
  type_in x n (inr j) = absurd j

  proto_in : (x : Proto) (n : Named) → In n (proto_entry (Some x)) → In (renamed r n) (proto_entry (Some (written_proto r x)))
  proto_in x n (inl e) = inl (ap (renamed r) e)
  proto_in x n (inr (inl e)) = inr (inl (ap (renamed r) e))
  proto_in x n (inr (inr j)) = inr (inr (kinds_in r x.parameters n j))

  field_in : (x : FieldName) (n : Named) → In n (field_entry (Some x)) → In (renamed r n) (field_entry (Some (written_field_name r x)))
  field_in x n (inl e) = inl (ap (renamed r) e)
  field_in x n (inr (inl e)) = inr (inl (ap (renamed r) e))
  field_in x n (inr (inr (inl e))) = inr (inr (inl (ap (renamed r) e)))
  field_in x n (inr (inr (inr j))) = absurd j

  method_in : (x : MethodName) (n : Named) → In n (method_entry (Some x)) → In (renamed r n) (method_entry (Some (written_method_name r x)))
  method_in x n (inl e) = inl (ap (renamed r) e)
  method_in x n (inr (inl e)) = inr (inl (ap (renamed r) e))
  method_in x n (inr (inr (inl e))) = inr (inr (inl (ap (renamed r) e)))
  method_in x n (inr (inr (inr j))) = absurd j

  abbrev type_part : List Named
  type_part = flat_map (λ string. type_entry (Some string)) q.types

  abbrev proto_part : List Named
  proto_part = flat_map (λ x. proto_entry (Some x)) q.protos

  abbrev field_part : List Named
  field_part = flat_map (λ f. field_entry (Some f)) q.fields

  abbrev method_part : List Named
  method_part = flat_map (λ m. method_entry (Some m)) q.methods

  all_in_names : (n : Named) → Reached n → In (renamed r n) (all_names q)
  all_in_names n (ByClass j) = in_left (renamed r n) (program_names q) (type_part ++ (proto_part ++ (field_part ++ method_part))) (names_in n j)
  all_in_names n (ByType k x g e j) =
      let at : slice_get q.types (new_type r k) ≡ Some (new_string r x) = carried (new_string r) p.types u.types (type_key r.strings.items p.types) i.order.types.items r.types.items h.types orders.types many.types few.types k g ∙ ap (option_map (new_string r)) e in
      in_right (renamed r n) (program_names q) (type_part ++ (proto_part ++ (field_part ++ method_part))) (in_left (renamed r n) type_part (proto_part ++ (field_part ++ method_part)) (in_flat (λ string. type_entry (Some string)) (renamed r n) (new_string r x) q.types (in_got q.types (new_type r k) (new_string r x) at) (type_in x n j)))
  all_in_names n (ByProto k x g e j) =
      let at : slice_get q.protos (new_proto r k) ≡ Some (written_proto r x) = carried (written_proto r) p.protos u.protos (proto_key r.types.items p.protos) i.order.protos.items r.protos.items h.protos orders.protos many.protos few.protos k g ∙ ap (option_map (written_proto r)) e in
      in_right (renamed r n) (program_names q) (type_part ++ (proto_part ++ (field_part ++ method_part))) (in_right (renamed r n) type_part (proto_part ++ (field_part ++ method_part)) (in_left (renamed r n) proto_part (field_part ++ method_part) (in_flat (λ x. proto_entry (Some x)) (renamed r n) (written_proto r x) q.protos (in_got q.protos (new_proto r k) (written_proto r x) at) (proto_in x n j))))
  all_in_names n (ByField k x g e j) =
      let at : slice_get q.fields (new_field r k) ≡ Some (written_field_name r x) = carried (written_field_name r) p.fields u.fields (field_key r.strings.items r.types.items p.fields) i.order.fields.items r.fields.items h.fields orders.fields many.fields few.fields k g ∙ ap (option_map (written_field_name r)) e in
      in_right (renamed r n) (program_names q) (type_part ++ (proto_part ++ (field_part ++ method_part))) (in_right (renamed r n) type_part (proto_part ++ (field_part ++ method_part)) (in_right (renamed r n) proto_part (field_part ++ method_part) (in_left (renamed r n) field_part method_part (in_flat (λ f. field_entry (Some f)) (renamed r n) (written_field_name r x) q.fields (in_got q.fields (new_field r k) (written_field_name r x) at) (field_in x n j)))))
  all_in_names n (ByMethod k x g e j) =
      let at : slice_get q.methods (new_method r k) ≡ Some (written_method_name r x) = carried (written_method_name r) p.methods u.methods (method_key r.strings.items r.types.items r.protos.items p.methods) i.order.methods.items r.methods.items h.methods orders.methods many.methods few.methods k g ∙ ap (option_map (written_method_name r)) e in
      in_right (renamed r n) (program_names q) (type_part ++ (proto_part ++ (field_part ++ method_part))) (in_right (renamed r n) type_part (proto_part ++ (field_part ++ method_part)) (in_right (renamed r n) proto_part (field_part ++ method_part) (in_right (renamed r n) field_part method_part (in_flat (λ m. method_entry (Some m)) (renamed r n) (written_method_name r x) q.methods (in_got q.methods (new_method r k) (written_method_name r x) at) (method_in x n j)))))

  found : (n : Named) → Flag u n → In (renamed r n) (all_names q)
  found n f = all_in_names n (reached n f)

  pub all_used : AllUsed q
  all_used = record {
    strings = λ n lt.
        let b : Back u.strings r.strings.items (length p.strings) n = back u.strings (string_key p.strings) (length p.strings) i.order.strings.items r.strings.items h.strings many.strings few.strings orders.strings n (omega (arith, lt, entries_long (λ text. text) p.strings i.order.strings.items orders.strings)) in
        in_contains (named.Text n) (all_names q) (subst (λ k. In (named.Text k) (all_names q)) b.new (found (named.Text b.m) b.flag));
    types = λ n lt.
        let b : Back u.types r.types.items (length p.types) n = back u.types (type_key r.strings.items p.types) (length p.types) i.order.types.items r.types.items h.types many.types few.types orders.types n (omega (arith, lt, entries_long (new_string r) p.types i.order.types.items orders.types)) in
        in_contains (named.Kind n) (all_names q) (subst (λ k. In (named.Kind k) (all_names q)) b.new (found (named.Kind b.m) b.flag));
    protos = λ n lt.
        let b : Back u.protos r.protos.items (length p.protos) n = back u.protos (proto_key r.types.items p.protos) (length p.protos) i.order.protos.items r.protos.items h.protos many.protos few.protos orders.protos n (omega (arith, lt, entries_long (written_proto r) p.protos i.order.protos.items orders.protos)) in
        in_contains (named.Proto n) (all_names q) (subst (λ k. In (named.Proto k) (all_names q)) b.new (found (named.Proto b.m) b.flag));
    fields = λ n lt.
        let b : Back u.fields r.fields.items (length p.fields) n = back u.fields (field_key r.strings.items r.types.items p.fields) (length p.fields) i.order.fields.items r.fields.items h.fields many.fields few.fields orders.fields n (omega (arith, lt, entries_long (written_field_name r) p.fields i.order.fields.items orders.fields)) in
        in_contains (named.Field n) (all_names q) (subst (λ k. In (named.Field k) (all_names q)) b.new (found (named.Field b.m) b.flag));
    methods = λ n lt.
        let b : Back u.methods r.methods.items (length p.methods) n = back u.methods (method_key r.strings.items r.types.items r.protos.items p.methods) (length p.methods) i.order.methods.items r.methods.items h.methods many.methods few.methods orders.methods n (omega (arith, lt, entries_long (written_method_name r) p.methods i.order.methods.items orders.methods)) in
        in_contains (named.Method n) (all_names q) (subst (λ k. In (named.Method k) (all_names q)) b.new (found (named.Method b.m) b.flag));
  }
