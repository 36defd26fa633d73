-- In a well-formed program a kept constructor that its class defines is found there.
use Rattle.std.proofs.Common.{◌≡◌, ℕ, Bool, true, false, nat_eq, [], ◌∷◌, Option, Some, None, refl, sym, ap, ◌∙◌}
use Rattle.std.specs.Prelude.{◌&&◌, ◌||◌, not, codes, Contains, slice_get, option_and_then}
use Rattle.std.specs.List.{list_all}
use Rattle.std.specs.Option.{option_map}
use Rattle.lemmas.proofs.Bools.{and_left, and_right}
use Rattle.lemmas.proofs.Lists.{all_of}
use Rattle.program_model.specs.Distinct.{method_key}
use Rattle.program_model.specs.declared.pass.Outside.{Outside}
use Rattle.program_model.specs.declared.pools.MethodName.{MethodName}
use Rattle.program_model.specs.declared.program.Class.{Class}
use Rattle.program_model.specs.declared.program.Method.{Method}
use Rattle.program_model.specs.declared.program.Program.{Program}
use Rattle.program_model.specs.Lookups.{class_place, method_at}
use Rattle.class_defs.specs.Members.{is_method, method_of_class, names_method, string_is}
use Rattle.class_defs.proofs.Positions.{number_of, number_test, place_entry, place_first}
use Rattle.class_defs.proofs.WellFormed.{Sound, class_parts}
use Rattle.name_bridge.proofs.Tables.{same_number}
use Rattle.premises.specs.Makers.{MakersAreOwn, can_be_made}
use Rattle.premises.specs.Owning.{defines, has_number, is_own, owns, owns_at, owns_maker}

module _ (p : Program) (s : Sound p) (o : Outside) (own : MakersAreOwn p o) where
  module _ (n : ℕ) (kept : Contains o.methods n) (q : MethodName) (entry : slice_get p.methods n ≡ Some q) where
    named : (a b : ℕ) → a ≡ b → nat_eq a b ≡ true
    named = number_test

    -- a method of the class that has the name and the proto has the number
    numbered : (c : ℕ) (k : Class) → slice_get p.classes c ≡ Some k → k.name ≡ q.class → (i : ℕ) (m : Method) → slice_get k.methods i ≡ Some m → is_method p q.name q.proto m ≡ true → m.name ≡ n
    numbered c k is same i m at fits =
        let f = (class_parts p s c k is).methods i m at in
        let both : (nat_eq f.entry.name q.name && nat_eq f.entry.proto q.proto) ≡ true = sym (ap (names_method q.name q.proto) f.is) ∙ fits in
        let name : f.entry.name ≡ q.name = number_of f.entry.name q.name (and_left (nat_eq f.entry.name q.name) (nat_eq f.entry.proto q.proto) both) in
        let proto : f.entry.proto ≡ q.proto = number_of f.entry.proto q.proto (and_right (nat_eq f.entry.name q.name) (nat_eq f.entry.proto q.proto) both) in
        let class : f.entry.class ≡ q.class = f.owner ∙ same in
        same_number method_key p.methods m.name n f.entry q s.methods f.is entry
        (ap (λ x. x ∷ f.entry.name ∷ f.entry.proto ∷ []) class ∙ ap (λ x. q.class ∷ x ∷ f.entry.proto ∷ []) name ∙ ap (λ x. q.class ∷ q.name ∷ x ∷ []) proto)

    -- so what is found is the method of the number
    finds : (c : ℕ) (k : Class) → slice_get p.classes c ≡ Some k → k.name ≡ q.class → (j : ℕ) (m : Method) → slice_get k.methods j ≡ Some m → m.name ≡ n → defines p n q c ≡ true
    finds c k is same j m at name =
        let fits : is_method p q.name q.proto m ≡ true = ap (λ x. names_method q.name q.proto (slice_get p.methods x)) name ∙ ap (names_method q.name q.proto) entry ∙ itself in
        let first = place_first (is_method p q.name q.proto) k.methods j m at fits in
        let there = place_entry (is_method p q.name q.proto) k.methods first.place first.is in
        ap (λ o. has_number n (option_and_then (method_at p) (method_of_class p q.name q.proto c o))) is
        ∙ ap (λ o. has_number n (option_and_then (method_at p) (option_map (λ i. record { class = c; place = i }) o))) first.is
        ∙ ap (λ (o : Option Class). has_number n (option_and_then (λ c. slice_get c.methods first.place) o)) is
        ∙ ap (has_number n) there.is
        ∙ number_test there.entry.name n (numbered c k is same first.place there.entry there.is there.passes)
      where
        itself : (nat_eq q.name q.name && nat_eq q.proto q.proto) ≡ true
        itself = ap (λ b. b && nat_eq q.proto q.proto) (number_test q.name q.name refl) ∙ number_test q.proto q.proto refl

    class_owns : string_is p q.name (codes "<init>") ≡ true → (c : ℕ) (k : Class) → slice_get p.classes c ≡ Some k → k.name ≡ q.class → (b : Bool) → can_be_made k ≡ b → (not b || defines p n q c) ≡ true
    class_owns init c k is same false made = refl
    class_owns init c k is same true made = let m = own n q c k kept entry init is same made in finds c k is same m.0 m.1.0 m.1.1.0 m.1.1.1

    type_owns : string_is p q.name (codes "<init>") ≡ true → (o : Option ℕ) → class_place p q.class ≡ o → owns_at p n q o ≡ true
    type_owns init None e = refl
    type_owns init (Some c) e =
        let there = place_entry (λ k. nat_eq k.name q.class) p.classes c e in
        ap (owns p n q c) there.is ∙ class_owns init c there.entry there.is (number_of there.entry.name q.class there.passes) (can_be_made there.entry) refl

    maker_owns : (b : Bool) → string_is p q.name (codes "<init>") ≡ b → (not b || owns_at p n q (class_place p q.class)) ≡ true
    maker_owns false e = refl
    maker_owns true e = type_owns e (class_place p q.class) refl

  each_own : (n : ℕ) → Contains o.methods n → (x : Option MethodName) → slice_get p.methods n ≡ x → owns_maker p n x ≡ true
  each_own n kept None e = refl
  each_own n kept (Some q) e = maker_owns n kept q e (string_is p q.name (codes "<init>")) refl

  pub makers_found : list_all (is_own p) o.methods ≡ true
  makers_found = all_of (is_own p) o.methods (λ n kept. each_own n kept (slice_get p.methods n) refl)
