-- Looking up the methods of a class by key.
use Rattle.std.proofs.Common.{◌≡◌, ℕ, zero, suc, ◌+◌, ◌-◌, ◌<◌, ◌≤◌, Bool, true, false, nat_eq, List, [], ◌∷◌, map, length, Option, Some, None, refl, sym, ap, ◌∙◌, arith}
use Rattle.std.specs.Prelude.{◌&&◌, ◌||◌, ◌==◌, not, cond, slice_get, slice_index_or, position, option_and_then}
use Rattle.std.specs.Option.{option_map, option_or}
use Rattle.std.proofs.lemmas.Option.{slice_get-map}
use Rattle.program_model.specs.declared.pools.MethodName.{MethodName}
use Rattle.program_model.specs.declared.program.Method.{Method}
use Rattle.program_model.specs.declared.program.MethodAt.{MethodAt}
use Rattle.program_model.specs.declared.program.Class.{Class}
use Rattle.program_model.specs.declared.program.Program.{Program}
use Rattle.program_model.specs.Texts.{first_unit}
use Rattle.program_model.specs.Lookups.{class_place}
use Rattle.program_model.specs.MemberRules.{is_static, is_private, is_direct, name_of_method}
use Rattle.class_defs.specs.Places.{super_place, chain_from}
use Rattle.class_defs.specs.Members.{names_method, is_method, method_of_class, own_method}
use Rattle.class_defs.specs.Finding.{first_among, finds_from, finds_static, by_entry}
use Rattle.class_defs.proofs.Positions.{both, number_test, number_of, same_test, position_step}
use Rattle.class_defs.proofs.WellFormed.{and_left, and_right}
use Rattle.hierarchy.specs.declared.build.Hierarchy.{Hierarchy}
use Rattle.hierarchy.specs.Membership.{key_at, method_pair, found_in, is_virtual_by}
use Rattle.hierarchy.specs.Naming.{IsNamed, IsKey, is_special}
use Rattle.hierarchy.specs.Shapes.{IsOf}

-- ---- the first place by another test

pub same_place : {X Y : Type 0} (t : Y → Bool) (u : X → Bool) (f : X → Y) → ((x : X) → t (f x) ≡ u x) → (xs : List X) → position t (map f xs) ≡ position u xs
same_place t u f h [] = refl
same_place t u f h (x ∷ xs) =
    position_step t (f x) (map f xs) ∙ ap (λ b. cond b (Some 0) (option_map suc (position t (map f xs)))) (h x) ∙ ap (λ o. cond (u x) (Some 0) (option_map suc o)) (same_place t u f h xs)
    ∙ sym (position_step u x xs)

pub past_key : (keys : List ℕ) (i : ℕ) → length keys ≤ i → key_at keys i ≡ 4294967295
past_key [] i h = refl
past_key (k ∷ ks) zero h = absurd (omega (arith, h))
past_key (k ∷ ks) (suc i) h = past_key ks i (omega (arith, h))

pub past_entry : {X : Type 0} (xs : List X) (i : ℕ) → slice_get xs i ≡ None → length xs ≤ i
past_entry [] i e = omega arith
past_entry (x ∷ xs) zero e = cc
past_entry (x ∷ xs) (suc i) e = let h = past_entry xs i e in omega (arith, h)

module _ (p : Program) (h : Hierarchy) (is : IsNamed p h.named) (key name proto : ℕ) (k : IsKey p h key name proto) where
  test_is : (m : Method) (o : Option MethodName) → slice_get p.methods m.name ≡ o → nat_eq (key_at h.named.method_keys.keys.items m.name) key ≡ names_method name proto o
  test_is m None e = by_test (nat_eq (key_at h.named.method_keys.keys.items m.name) key) refl
    where
      by_test : (b : Bool) → nat_eq (key_at h.named.method_keys.keys.items m.name) key ≡ b → b ≡ false
      by_test false f = refl
      by_test true f =
          let keys = is.method_keys in
          let s = number_of (key_at h.named.method_keys.keys.items m.name) key f in
          let past = past_key h.named.method_keys.keys.items m.name (let l = past_entry p.methods m.name e in let n = keys.long in omega (arith, l, n)) in
          let b = keys.below k.number k.entry k.is in
          let few = keys.few in
          let small = keys.small in
          let same = k.keyed in
          absurd (omega (arith, s, past, b, few, small, same))
  test_is m (Some q) e = same_test (nat_eq (key_at h.named.method_keys.keys.items m.name) key) (nat_eq q.name name && nat_eq q.proto proto)
      (λ f.
      let s : key_at h.named.method_keys.keys.items m.name ≡ key_at h.named.method_keys.keys.items k.number = number_of (key_at h.named.method_keys.keys.items m.name) key f ∙ k.keyed in
      let pairs : (q.name, q.proto) ≡ (k.entry.name, k.entry.proto) = is.method_keys.one m.name k.number q k.entry e k.is s in
      both (nat_eq q.name name) (nat_eq q.proto proto) (number_test q.name name (ap (λ (r : ℕ × ℕ). r.0) pairs ∙ k.name_is)) (number_test q.proto proto (ap (λ (r : ℕ × ℕ). r.1) pairs ∙ k.proto_is)))
      (λ f.
      let n : q.name ≡ k.entry.name = number_of q.name name (and_left (nat_eq q.name name) (nat_eq q.proto proto) f) ∙ sym k.name_is in
      let r : q.proto ≡ k.entry.proto = number_of q.proto proto (and_right (nat_eq q.name name) (nat_eq q.proto proto) f) ∙ sym k.proto_is in
      let pairs : method_pair q ≡ method_pair k.entry = ap (λ (x : ℕ). (x, q.proto)) n ∙ ap (λ (x : ℕ). (k.entry.name, x)) r in
      number_test (key_at h.named.method_keys.keys.items m.name) key (is.method_keys.same m.name k.number q k.entry e k.is pairs ∙ sym k.keyed))

  pub found_is : (class : ℕ) → option_map (λ i. record { class = class; place = i }) (found_in h.named.methods class key) ≡ own_method p name proto class
  found_is class = ap (option_map (λ i. record { class = class; place = i })) (is.methods class key ∙ ap (option_and_then (position (λ x. nat_eq x key))) (slice_get-map (λ c. map (λ m. key_at h.named.method_keys.keys.items m.name) c.methods) p.classes class))
      ∙ by_class (slice_get p.classes class)
    where
      by_class : (o : Option Class) → option_map (λ i. record { class = class; place = i }) (option_and_then (position (λ x. nat_eq x key)) (option_map (λ c. map (λ m. key_at h.named.method_keys.keys.items m.name) c.methods) o))
          ≡ method_of_class p name proto class o
      by_class None = refl
      by_class (Some c) = ap (option_map (λ i. record { class = class; place = i })) (same_place (λ x. nat_eq x key) (is_method p name proto) (λ m. key_at h.named.method_keys.keys.items m.name) (λ m. test_is m (slice_get p.methods m.name) refl) c.methods)

pub found_some : (p : Program) (h : Hierarchy) (key name proto class place : ℕ) → IsOf p h → IsKey p h key name proto → found_in h.named.methods class key ≡ Some place → Some (record { class = class; place = place }) ≡ own_method p name proto class
found_some p h key name proto class place is k e = ap (option_map (λ i. record { class = class; place = i })) (sym e) ∙ found_is p h is.named key name proto k class

pub found_none : (p : Program) (h : Hierarchy) (key name proto class : ℕ) → IsOf p h → IsKey p h key name proto → found_in h.named.methods class key ≡ None → None ≡ own_method p name proto class
found_none p h key name proto class is k e = ap (option_map (λ i. record { class = class; place = i })) (sym e) ∙ found_is p h is.named key name proto k class

-- ---- virtual methods

marked_is : (p : Program) (ms : List MethodName) (n : ℕ) → slice_index_or (map (is_special p) ms) n false ≡ (first_unit (name_of_method p (slice_get ms n)) == 60)
marked_is p [] n = refl
marked_is p (m ∷ ms) zero = refl
marked_is p (m ∷ ms) (suc n) = marked_is p ms n

not_or : (a b c : Bool) → (not a && not b && not c) ≡ not ((a || b) || c)
not_or true b c = refl
not_or false true c = refl
not_or false false c = refl

pub virtual_by : (p : Program) (special : List Bool) (m : Method) → special ≡ map (is_special p) p.methods → is_virtual_by special m ≡ not (is_direct p m)
unfolding is_direct
virtual_by p special m is = not_or (is_static m.flags) (is_private m.flags) (slice_index_or special m.name false)
    ∙ ap (λ b. not ((is_static m.flags || is_private m.flags) || b)) (ap (λ l. slice_index_or l m.name false) is ∙ marked_is p p.methods m.name)

pub virtual_is : (p : Program) (h : Hierarchy) (m : Method) → IsOf p h → is_virtual_by h.named.special.items m ≡ not (is_direct p m)
virtual_is p h m is = virtual_by p h.named.special.items m is.named.special

-- ---- along a chain

pub among_on : (f : ℕ → Option MethodAt) (up : ℕ → Option ℕ) (n d one : ℕ) (at next : Option ℕ) (whole : Option MethodAt) → d < n → at ≡ Some one → next ≡ up one → f one ≡ None → first_among f (chain_from up (n - d) at) ≡ whole
    → first_among f (chain_from up (n - (d + 1)) next) ≡ whole
among_on f up n d one at next whole lt is goes none h =
    ap (λ o. first_among f (chain_from up (n - (d + 1)) o)) goes
    ∙ sym (ap (λ o. option_or o (first_among f (chain_from up (n - (d + 1)) (up one)))) none)
    ∙ ap (λ k. first_among f (chain_from up k (Some one))) (let e : suc (n - (d + 1)) ≡ n - d = omega arith in e)
    ∙ ap (λ o. first_among f (chain_from up (n - d) o)) (sym is)
    ∙ h

pub among_found : (f : ℕ → Option MethodAt) (up : ℕ → Option ℕ) (n d one : ℕ) (at : Option ℕ) (found : MethodAt) (whole : Option MethodAt) → d < n → at ≡ Some one → f one ≡ Some found → first_among f (chain_from up (n - d) at) ≡ whole → Some found ≡ whole
among_found f up n d one at found whole lt is some h =
    sym (ap (λ o. option_or o (first_among f (chain_from up (n - (d + 1)) (up one)))) some)
    ∙ ap (λ k. first_among f (chain_from up k (Some one))) (let e : suc (n - (d + 1)) ≡ n - d = omega arith in e)
    ∙ ap (λ o. first_among f (chain_from up (n - d) o)) (sym is)
    ∙ h

pub among_done : (f : ℕ → Option MethodAt) (up : ℕ → Option ℕ) (n d : ℕ) (at : Option ℕ) (whole : Option MethodAt) → n ≤ d → first_among f (chain_from up (n - d) at) ≡ whole → None ≡ whole
among_done f up n d at whole le h = ap (λ k. first_among f (chain_from up k at)) (let e : 0 ≡ n - d = omega arith in e) ∙ h

none_chain : (up : ℕ → Option ℕ) (n : ℕ) → chain_from up n None ≡ []
none_chain up zero = refl
none_chain up (suc n) = refl

pub among_none : (f : ℕ → Option MethodAt) (up : ℕ → Option ℕ) (n : ℕ) (at : Option ℕ) (whole : Option MethodAt) → at ≡ None → first_among f (chain_from up n at) ≡ whole → None ≡ whole
among_none f up n at whole is h = ap (first_among f) (sym (none_chain up n)) ∙ ap (λ o. first_among f (chain_from up n o)) (sym is) ∙ h

pub static_none : (p : Program) (method : ℕ) (q : MethodName) → slice_get p.methods method ≡ Some q → class_place p q.class ≡ None → None ≡ finds_static p method
static_none p method q e none =
    ap (first_among (own_method p q.name q.proto)) (sym (none_chain (super_place p) (length p.classes)))
    ∙ sym (ap (λ o. finds_from p q.name q.proto o) none)
    ∙ sym (ap (by_entry (λ r. finds_from p r.name r.proto (class_place p r.class))) e)
