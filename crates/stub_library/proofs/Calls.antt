-- The keys of the methods that a program calls on framework types.
use Rattle.std.proofs.Common.{◌≡◌, ℕ, ◌+◌, ◌<◌, ◌≤◌, inl, inr, Bool, true, false, true≢false, nat_eq, List, [], ◌∷◌, length, replicate, Option, Some, None, refl, sym, ap, subst, ◌∙◌, arith}
use Rattle.std.specs.Prelude.{◌⊎◌, ◌&&◌, not, is_none, cond, slice_get, slice_index_or}
use Rattle.std.specs.List.{flat_map, list_any}
use Rattle.std.proofs.lemmas.Option.{slice_get_within}
use Rattle.insn_set.specs.declared.form.Insn.{Insn}
use Rattle.insn_set.specs.declared.form.Insn.TheVariants as insn
use Rattle.insn_set.specs.declared.ops.InvokeKind.{InvokeKind}
use Rattle.insn_set.specs.declared.ops.InvokeKind.TheVariants as call
use Rattle.program_model.specs.Lookups.{class_place}
use Rattle.program_model.specs.MemberRules.{is_object}
use Rattle.program_model.specs.Texts.{type_text}
use Rattle.program_model.specs.declared.pools.MethodName.{MethodName}
use Rattle.program_model.specs.declared.body.Body.{Body}
use Rattle.program_model.specs.declared.program.Method.{Method}
use Rattle.program_model.specs.declared.program.Class.{Class}
use Rattle.program_model.specs.declared.program.Program.{Program}
use Rattle.class_defs.proofs.Positions.{same_test, both, number_of, number_test}
use Rattle.class_defs.proofs.WellFormed.{and_left, and_right}
use Rattle.hierarchy.specs.Membership.{key_at, method_pair}
use Rattle.hierarchy.specs.Naming.{IsNamed}
use Rattle.hierarchy.specs.declared.build.Hierarchy.{Hierarchy}
use Rattle.stub_library.specs.Marking.{is_on, set_all}
use Rattle.stub_library.specs.Calling.{called_by, names_outside, keys_of_call, keys_of_insn, keys_of_body, keys_of_method, keys_of_class, AreCalled}
use Rattle.stub_library.specs.Shut.{if_entry, is_outside, calls_outside, called_outside}
use Rattle.stub_library.specs.Lists.{In}
use Rattle.stub_library.proofs.Marked.{none_on, replicate_long, given_from, given_to}
use Rattle.stub_library.proofs.Lists.{in_flat, from_flat, any_in, any_from}

module _ (p : Program) (h : Hierarchy) (n : IsNamed p h.named) (i : ℕ) (q : MethodName) (e : slice_get p.methods i ≡ Some q) where
  abbrev key : ℕ → ℕ
  key j = key_at h.named.method_keys.keys.items j

  -- a call whose key is that of the method names it on the framework
  abbrev test : Option ℕ → Bool
  test None = false
  test (Some j) = if_entry (is_outside p q) (slice_get p.methods j)

  call_from : (o : Option ℕ) → In (key i) (keys_of_call p h o) → test o ≡ true
  call_from None k = absurd k
  call_from (Some j) k = by (slice_get p.methods j) refl k
    where
      by_test : (r : MethodName) → slice_get p.methods j ≡ Some r → (b : Bool) → (is_none (class_place p r.class) && not (is_object (type_text p r.class))) ≡ b → In (key i) (cond b (key j ∷ []) []) → is_outside p q r ≡ true
      by_test r g true t (inl s) =
          let pairs : method_pair r ≡ method_pair q = n.method_keys.one j i r q g e s in
          both (nat_eq r.name q.name && nat_eq r.proto q.proto && is_none (class_place p r.class)) (not (is_object (type_text p r.class)))
          (both (nat_eq r.name q.name && nat_eq r.proto q.proto) (is_none (class_place p r.class))
          (both (nat_eq r.name q.name) (nat_eq r.proto q.proto) (number_test r.name q.name (ap (λ (x : ℕ × ℕ). x.0) pairs)) (number_test r.proto q.proto (ap (λ (x : ℕ × ℕ). x.1) pairs)))
          (and_left (is_none (class_place p r.class)) (not (is_object (type_text p r.class))) t))
          (and_right (is_none (class_place p r.class)) (not (is_object (type_text p r.class))) t)
      by_test r g true t (inr s) = absurd s
      by_test r g false t s = absurd s

      by : (o : Option MethodName) → slice_get p.methods j ≡ o → In (key i) (cond (names_outside p o) (key j ∷ []) []) → if_entry (is_outside p q) o ≡ true
      by None g s = absurd s
      by (Some r) g s = by_test r g (is_none (class_place p r.class) && not (is_object (type_text p r.class))) refl s

  call_to : (o : Option ℕ) → test o ≡ true → In (key i) (keys_of_call p h o)
  call_to None t = absurd (true≢false (sym t))
  call_to (Some j) t = by (slice_get p.methods j) refl t
    where
      by : (o : Option MethodName) → slice_get p.methods j ≡ o → if_entry (is_outside p q) o ≡ true → In (key i) (cond (names_outside p o) (key j ∷ []) [])
      by None g s = absurd (true≢false (sym s))
      by (Some r) g s =
          let three = and_left (nat_eq r.name q.name && nat_eq r.proto q.proto && is_none (class_place p r.class)) (not (is_object (type_text p r.class))) s in
          let two = and_left (nat_eq r.name q.name && nat_eq r.proto q.proto) (is_none (class_place p r.class)) three in
          let pairs : method_pair r ≡ method_pair q = ap (λ (x : ℕ). (x, r.proto)) (number_of r.name q.name (and_left (nat_eq r.name q.name) (nat_eq r.proto q.proto) two))
          ∙ ap (λ (x : ℕ). (q.name, x)) (number_of r.proto q.proto (and_right (nat_eq r.name q.name) (nat_eq r.proto q.proto) two)) in
          subst (λ b. In (key i) (cond b (key j ∷ []) [])) (sym (both (is_none (class_place p r.class)) (not (is_object (type_text p r.class)))
          (and_right (nat_eq r.name q.name && nat_eq r.proto q.proto) (is_none (class_place p r.class)) three)
          (and_right (nat_eq r.name q.name && nat_eq r.proto q.proto && is_none (class_place p r.class)) (not (is_object (type_text p r.class))) s)))
          (inl (n.method_keys.same j i r q g e pairs))

  tested : (x : Insn) → test (called_by x) ≡ calls_outside p q x
  tested (insn.Invoke call.Virtual method args) = refl
  tested (insn.Invoke call.Interface method args) = refl
  tested (insn.Invoke call.Super method args) = refl
  tested (insn.Invoke call.Direct method args) = refl
  tested (insn.Invoke call.Static method args) = refl
  tested other = refl

  body_from : (o : Option Body) → In (key i) (keys_of_body p h o) → (elim o as (λ o. Bool) [ Some b ↦ list_any (calls_outside p q) b.insns | None ↦ false ]) ≡ true
  body_from None k = absurd k
  body_from (Some b) k =
      let one = from_flat (keys_of_insn p h) b.insns (key i) k in
      any_in (calls_outside p q) b.insns one.one one.is_in (sym (tested one.one) ∙ call_from (called_by one.one) one.has)

  body_to : (o : Option Body) → (elim o as (λ o. Bool) [ Some b ↦ list_any (calls_outside p q) b.insns | None ↦ false ]) ≡ true → In (key i) (keys_of_body p h o)
  body_to None t = absurd (true≢false (sym t))
  body_to (Some b) t =
      let one = any_from (calls_outside p q) b.insns t in
      in_flat (keys_of_insn p h) b.insns one.one (key i) one.is_in (call_to (called_by one.one) (tested one.one ∙ one.passes))

  abbrev method_calls : Method → Bool
  method_calls m = elim m.body [ Some b ↦ list_any (calls_outside p q) b.insns | None ↦ false ]

  abbrev class_calls : Class → Bool
  class_calls k = list_any (λ m. elim m.body [ Some b ↦ list_any (calls_outside p q) b.insns | None ↦ false ]) k.methods

  keys_from : In (key i) (flat_map (keys_of_class p h) p.classes) → called_outside p q ≡ true
  keys_from k =
      let one = from_flat (keys_of_class p h) p.classes (key i) k in
      let two = from_flat (keys_of_method p h) one.one.methods (key i) one.has in
      any_in class_calls p.classes one.one one.is_in (any_in method_calls one.one.methods two.one two.is_in (body_from two.one.body two.has))

  keys_to : called_outside p q ≡ true → In (key i) (flat_map (keys_of_class p h) p.classes)
  keys_to t =
      let one = any_from class_calls p.classes t in
      let two = any_from method_calls one.one.methods one.passes in
      in_flat (keys_of_class p h) p.classes one.one (key i) one.is_in (in_flat (keys_of_method p h) one.one.methods two.one (key i) two.is_in (body_to two.one.body two.passes))

  key_called : (marks : List Bool) → marks ≡ set_all true (replicate (length p.methods) false) (flat_map (keys_of_class p h) p.classes) → is_on marks (key i) ≡ called_outside p q
  key_called marks made = ap (λ l. is_on l (key i)) made ∙ same_test (is_on (set_all true (replicate (length p.methods) false) (flat_map (keys_of_class p h) p.classes)) (key i)) (called_outside p q)
      (λ f. elim (given_from (replicate (length p.methods) false) (flat_map (keys_of_class p h) p.classes) (key i) f) [ inl g ↦ absurd (none_on (length p.methods) (key i) g) | inr k ↦ keys_from k ])
      (λ f. given_to (replicate (length p.methods) false) (flat_map (keys_of_class p h) p.classes) (key i)
      (let a = replicate_long (length p.methods) in let b = n.method_keys.below i q e in let c = n.method_keys.few in omega (arith, a, b, c)) (keys_to f))

pub are_called : (p : Program) (h : Hierarchy) → IsNamed p h.named → (marks : List Bool) → marks ≡ set_all true (replicate (length p.methods) false) (flat_map (keys_of_class p h) p.classes) → AreCalled p h marks
are_called p h n marks made = record { are = λ i q e. key_called p h n i q e marks made }
