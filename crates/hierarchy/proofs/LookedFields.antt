-- Looking up the fields of a class by key.
use Rattle.std.proofs.Common.{◌≡◌, ℕ, Bool, true, false, nat_eq, map, Option, Some, None, refl, sym, ap, ◌∙◌, arith}
use Rattle.std.specs.Prelude.{◌&&◌, slice_get, position, option_and_then}
use Rattle.std.specs.Option.{option_map}
use Rattle.std.proofs.lemmas.Option.{slice_get-map}
use Rattle.program_model.specs.declared.pools.FieldName.{FieldName}
use Rattle.program_model.specs.declared.program.Field.{Field}
use Rattle.program_model.specs.declared.program.Class.{Class}
use Rattle.program_model.specs.declared.program.Program.{Program}
use Rattle.class_defs.specs.Members.{names_field, is_field, field_of_class, own_field}
use Rattle.class_defs.proofs.Positions.{both, number_test, number_of, same_test}
use Rattle.class_defs.proofs.WellFormed.{and_left, and_right}
use Rattle.hierarchy.specs.declared.build.Hierarchy.{Hierarchy}
use Rattle.hierarchy.specs.Membership.{key_at, field_pair, found_in}
use Rattle.hierarchy.specs.Naming.{IsNamed, IsFieldKey}
use Rattle.hierarchy.specs.Shapes.{IsOf}
use Rattle.hierarchy.proofs.Looked.{same_place, past_key, past_entry}

module _ (p : Program) (h : Hierarchy) (is : IsNamed p h.named) (key name kind : ℕ) (k : IsFieldKey p h key name kind) where
  field_test : (m : Field) (o : Option FieldName) → slice_get p.fields m.name ≡ o → nat_eq (key_at h.named.field_keys.keys.items m.name) key ≡ names_field name kind o
  field_test m None e = by_test (nat_eq (key_at h.named.field_keys.keys.items m.name) key) refl
    where
      by_test : (b : Bool) → nat_eq (key_at h.named.field_keys.keys.items m.name) key ≡ b → b ≡ false
      by_test false f = refl
      by_test true f =
          let keys = is.field_keys in
          let s = number_of (key_at h.named.field_keys.keys.items m.name) key f in
          let past = past_key h.named.field_keys.keys.items m.name (let l = past_entry p.fields m.name e in let n = keys.long in omega (arith, l, n)) in
          let b = keys.below k.number k.entry k.is in
          let few = keys.few in
          let small = keys.small in
          let same = k.keyed in
          absurd (omega (arith, s, past, b, few, small, same))
  field_test m (Some q) e = same_test (nat_eq (key_at h.named.field_keys.keys.items m.name) key) (nat_eq q.name name && nat_eq q.kind kind)
      (λ f.
      let s : key_at h.named.field_keys.keys.items m.name ≡ key_at h.named.field_keys.keys.items k.number = number_of (key_at h.named.field_keys.keys.items m.name) key f ∙ k.keyed in
      let pairs : (q.name, q.kind) ≡ (k.entry.name, k.entry.kind) = is.field_keys.one m.name k.number q k.entry e k.is s in
      both (nat_eq q.name name) (nat_eq q.kind kind) (number_test q.name name (ap (λ (r : ℕ × ℕ). r.0) pairs ∙ k.name_is)) (number_test q.kind kind (ap (λ (r : ℕ × ℕ). r.1) pairs ∙ k.kind_is)))
      (λ f.
      let n : q.name ≡ k.entry.name = number_of q.name name (and_left (nat_eq q.name name) (nat_eq q.kind kind) f) ∙ sym k.name_is in
      let r : q.kind ≡ k.entry.kind = number_of q.kind kind (and_right (nat_eq q.name name) (nat_eq q.kind kind) f) ∙ sym k.kind_is in
      let pairs : field_pair q ≡ field_pair k.entry = ap (λ (x : ℕ). (x, q.kind)) n ∙ ap (λ (x : ℕ). (k.entry.name, x)) r in
      number_test (key_at h.named.field_keys.keys.items m.name) key (is.field_keys.same m.name k.number q k.entry e k.is pairs ∙ sym k.keyed))

  pub field_is : (class : ℕ) → option_map (λ i. (class, i)) (found_in h.named.fields class key) ≡ own_field p name kind class
  field_is class = ap (option_map (λ i. (class, i))) (is.fields class key ∙ ap (option_and_then (position (λ x. nat_eq x key))) (slice_get-map (λ c. map (λ m. key_at h.named.field_keys.keys.items m.name) c.fields) p.classes class))
      ∙ by_class (slice_get p.classes class)
    where
      by_class : (o : Option Class) → option_map (λ i. (class, i)) (option_and_then (position (λ x. nat_eq x key)) (option_map (λ c. map (λ m. key_at h.named.field_keys.keys.items m.name) c.fields) o))
          ≡ field_of_class p name kind class o
      by_class None = refl
      by_class (Some c) = ap (option_map (λ i. (class, i))) (same_place (λ x. nat_eq x key) (is_field p name kind) (λ m. key_at h.named.field_keys.keys.items m.name) (λ m. field_test m (slice_get p.fields m.name) refl) c.fields)

pub field_some : (p : Program) (h : Hierarchy) (key name kind class place : ℕ) → IsOf p h → IsFieldKey p h key name kind → found_in h.named.fields class key ≡ Some place → Some ((class, place)) ≡ own_field p name kind class
field_some p h key name kind class place is k e = ap (option_map (λ i. (class, i))) (sym e) ∙ field_is p h is.named key name kind k class

pub field_none : (p : Program) (h : Hierarchy) (key name kind class : ℕ) → IsOf p h → IsFieldKey p h key name kind → found_in h.named.fields class key ≡ None → None ≡ own_field p name kind class
field_none p h key name kind class is k e = ap (option_map (λ i. (class, i))) (sym e) ∙ field_is p h is.named key name kind k class
