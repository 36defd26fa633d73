-- A method number is defined once, and names a method of its class.
use Rattle.std.proofs.Common.{◌≡◌, ℕ, inl, inr, true, nat_eq, [], ◌∷◌, Option, Some, None, refl, sym, ap, subst, ◌∙◌}
use Rattle.std.specs.Prelude.{◌&&◌, slice_get, option_and_then}
use Rattle.std.specs.Option.{option_map}
use Rattle.std.proofs.lemmas.Bool.{cases_order}
use Rattle.lemmas.proofs.Options.{none_some, some_same}
use Rattle.program_model.specs.declared.pools.MethodName.{MethodName}
use Rattle.program_model.specs.declared.program.Method.{Method}
use Rattle.program_model.specs.declared.program.MethodAt.{MethodAt}
use Rattle.program_model.specs.declared.program.Class.{Class}
use Rattle.program_model.specs.declared.program.Program.{Program}
use Rattle.program_model.specs.Distinct.{method_key, own_method_key}
use Rattle.program_model.specs.Lookups.{method_at}
use Rattle.program_model.specs.MemberRules.{class_fits}
use Rattle.program_model.specs.ProgramRules.{is_well_formed}
use Rattle.class_defs.specs.ClassGraph.{IsTwice}
use Rattle.class_defs.specs.Members.{names_method}
use Rattle.class_defs.proofs.Positions.{number_of}
use Rattle.class_defs.proofs.WellFormed.{MethodFits, sound, class_parts, all_at, and_left, and_right}
use Rattle.loose_methods.specs.Loose.{is_this, is_it}
use Rattle.loose_methods.proofs.Differ.{methods_differ, same_number}

-- a method that stands in a class
pub record Owns (p : Program) (c : ℕ) (k : Class) (i : ℕ) (m : Method) : Type 0 where
  pub is_class : slice_get p.classes c ≡ Some k
  pub is_method : slice_get k.methods i ≡ Some m

pub record Same (c d i j : ℕ) (m x : Method) : Type 0 where
  pub class : c ≡ d
  pub place : i ≡ j
  pub method : m ≡ x

-- methods of one class and one number stand at one place
pub own_once : (p : Program) → is_well_formed p ≡ true → (c i j : ℕ) (k : Class) (m x : Method) → slice_get p.classes c ≡ Some k → slice_get k.methods i ≡ Some m → slice_get k.methods j ≡ Some x → m.name ≡ x.name → i ≡ j
own_once p wf c i j k m x e f g h = same_number own_method_key k.methods i j m x (methods_differ p k (all_at (class_fits p) p.classes c k (sound p wf).classes_fit e)) f g (ap (λ n. n ∷ []) h)

module _ (p : Program) (wf : is_well_formed p ≡ true) (once : (class : ℕ) → IsTwice p class → ⊥) where
  pub fits : (c : ℕ) (k : Class) (i : ℕ) (m : Method) → Owns p c k i m → MethodFits p k.name m
  fits c k i m o = (class_parts p (sound p wf) c k o.is_class).methods i m o.is_method

  pub class_once : (c d : ℕ) (k u : Class) → slice_get p.classes c ≡ Some k → slice_get p.classes d ≡ Some u → k.name ≡ u.name → c ≡ d
  class_once c d k u e f g = elim (cases_order c d) [
    | inl same ↦ same
    | inr (inl lt) ↦ absurd (once d (record { earlier = c; before = lt; one = k; other = u; is_one = e; is_other = f; same = g }))
    | inr (inr gt) ↦ absurd (once c (record { earlier = d; before = gt; one = u; other = k; is_one = f; is_other = e; same = sym g }))
  ]

  -- a number is defined once
  pub number_once : (c d i j : ℕ) (k u : Class) (m x : Method) → Owns p c k i m → Owns p d u j x → m.name ≡ x.name → Same c d i j m x
  number_once c d i j k u m x a b h =
      let one = fits c k i m a in
      let two = fits d u j x b in
      let z : Some one.entry ≡ Some two.entry = sym one.is ∙ ap (slice_get p.methods) h ∙ two.is in
      let entries : one.entry ≡ two.entry = cc in
      let classes : c ≡ d = class_once c d k u a.is_class b.is_class (sym one.owner ∙ ap (λ q. q.class) entries ∙ two.owner) in
      let y : Some k ≡ Some u = sym a.is_class ∙ ap (slice_get p.classes) classes ∙ b.is_class in
      let same : k ≡ u = cc in
      let there : slice_get k.methods j ≡ Some x = subst (λ w. slice_get w.methods j ≡ Some x) (sym same) b.is_method in
      let places : i ≡ j = own_once p wf c i j k m x a.is_class a.is_method there h in
      record { class = classes; place = places; method = some_same m x (sym a.is_method ∙ ap (slice_get k.methods) places ∙ there) }

  -- a class has one method of a name and a proto
  pub key_once : (c i j : ℕ) (k : Class) (m x : Method) (q : MethodName) → Owns p c k i m → Owns p c k j x → slice_get p.methods m.name ≡ Some q
      → names_method q.name q.proto (slice_get p.methods x.name) ≡ true → x.name ≡ m.name
  key_once c i j k m x q a b e h =
      let one = fits c k i m a in
      let two = fits c k j x b in
      let z : Some one.entry ≡ Some q = sym one.is ∙ e in
      let entry : one.entry ≡ q = cc in
      let test : (nat_eq two.entry.name q.name && nat_eq two.entry.proto q.proto) ≡ true = ap (names_method q.name q.proto) (sym two.is) ∙ h in
      let names : two.entry.name ≡ q.name = number_of two.entry.name q.name (and_left (nat_eq two.entry.name q.name) (nat_eq two.entry.proto q.proto) test) in
      let protos : two.entry.proto ≡ q.proto = number_of two.entry.proto q.proto (and_right (nat_eq two.entry.name q.name) (nat_eq two.entry.proto q.proto) test) in
      let owners : two.entry.class ≡ q.class = two.owner ∙ sym one.owner ∙ ap (λ w. w.class) entry in
      let keys : method_key two.entry ≡ method_key q =
      ap (λ n. n ∷ two.entry.name ∷ two.entry.proto ∷ []) owners ∙ ap (λ n. q.class ∷ n ∷ two.entry.proto ∷ []) names ∙ ap (λ n. q.class ∷ q.name ∷ n ∷ []) protos in
      same_number method_key p.methods x.name m.name two.entry q (sound p wf).methods two.is e keys

-- ---- the method at a place

pub record Stands (p : Program) (at : MethodAt) (n : ℕ) : Type 0 where
  pub class : Class
  pub method : Method
  pub owns : Owns p at.class class at.place method
  pub is_number : method.name ≡ n

pub there : (p : Program) (at : MethodAt) (m : Method) → method_at p at ≡ Some m → (k : Class) × Owns p at.class k at.place m
there p at m e = by (slice_get p.classes at.class) refl e
  where
    by : (o : Option Class) → slice_get p.classes at.class ≡ o → option_and_then (λ c. slice_get c.methods at.place) o ≡ Some m → (k : Class) × Owns p at.class k at.place m
    by None f h = none_some m h
    by (Some k) f h = (k, record { is_class = f; is_method = h })

pub stands : (p : Program) (at : MethodAt) (n : ℕ) → is_it p n at ≡ true → Stands p at n
stands p at n e = by (method_at p at) refl e
  where
    by : (o : Option Method) → method_at p at ≡ o → is_this n (option_map (λ (m : Method). m.name) o) ≡ true → Stands p at n
    by None f h = absurd (cc)
    by (Some m) f h = let t = there p at m f in record { class = t.0; method = m; owns = t.1; is_number = number_of m.name n h }

pub at_there : (p : Program) (at : MethodAt) (k : Class) (m : Method) → Owns p at.class k at.place m → method_at p at ≡ Some m
at_there p at k m o = ap (option_and_then (λ (c : Class). slice_get c.methods at.place)) o.is_class ∙ o.is_method
