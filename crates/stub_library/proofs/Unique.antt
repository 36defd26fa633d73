-- A method number is defined once, and names a method of its class.
use Rattle.std.proofs.Common.{◌≡◌, ℕ, zero, suc, ◌+◌, inl, inr, Bool, true, false, nat_eq, List, [], ◌∷◌, Option, Some, None, refl, sym, ap, subst, ◌∙◌, arith}
use Rattle.std.specs.Prelude.{◌&&◌, slice_get, position}
use Rattle.std.proofs.lemmas.Bool.{cases_order}
use Rattle.program_model.specs.declared.pools.MethodName.{MethodName}
use Rattle.program_model.specs.declared.program.Method.{Method}
use Rattle.program_model.specs.declared.program.MethodAt.{MethodAt}
use Rattle.program_model.specs.declared.program.Class.{Class}
use Rattle.program_model.specs.declared.program.Program.{Program}
use Rattle.program_model.specs.Distinct.{method_key, own_method_key}
use Rattle.program_model.specs.Lookups.{method_or, method_from, method_place}
use Rattle.program_model.specs.MemberRules.{class_fits}
use Rattle.program_model.specs.ProgramRules.{is_well_formed}
use Rattle.class_defs.specs.ClassGraph.{IsTwice}
use Rattle.class_defs.specs.Members.{names_method}
use Rattle.class_defs.proofs.Positions.{place_entry, place_first, number_of, number_test}
use Rattle.class_defs.proofs.WellFormed.{MethodFits, sound, class_parts, all_at, and_left, and_right}
use Rattle.stub_library.proofs.Differ.{methods_differ, same_number}
use Rattle.stub_library.specs.Shut.{is_shut, shut_there, shut_at}
use Rattle.stub_library.specs.declared.library.Library.{Library}
use Rattle.program_model.specs.declared.pass.Outside.{Outside}

-- a method that stands in a class
pub record Owns (p : Program) (c : ℕ) (k : Class) (i : ℕ) (m : Method) : Type 0 where
  pub is_class : slice_get p.classes c ≡ Some k
  pub is_method : slice_get k.methods i ≡ Some m

-- ---- where a number is defined

pub record Placed (cs : List Class) (start n : ℕ) (at : MethodAt) : Type 0 where
  pub place : ℕ
  pub class : Class
  pub method : Method
  pub is_class : slice_get cs place ≡ Some class
  pub is_place : at.class ≡ start + place
  pub is_method : slice_get class.methods at.place ≡ Some method
  pub named : method.name ≡ n

pub from_some : (cs : List Class) (start n : ℕ) (at : MethodAt) → method_from start cs n ≡ Some at → Placed cs start n at
from_some [] start n at e = cc
from_some (c ∷ cs) start n at e = by (position (λ m. nat_eq m.name n) c.methods) refl e (from_some cs (start + 1) n at)
  where
    by : (o : Option ℕ) → position (λ m. nat_eq m.name n) c.methods ≡ o → method_or start o (method_from (start + 1) cs n) ≡ Some at
        → (method_from (start + 1) cs n ≡ Some at → Placed cs (start + 1) n at) → Placed (c ∷ cs) start n at
    by None f g more =
        let r = more g in
        record { place = suc r.place; class = r.class; method = r.method; is_class = r.is_class; is_place = (let z = r.is_place in omega (arith, z)); is_method = r.is_method; named = r.named }
    by (Some i) f g more =
        let fits = place_entry (λ m. nat_eq m.name n) c.methods i f in
        let z : record { class = start; place = i } ≡ at = cc in
        record {
          place = 0;
          class = c;
          method = fits.entry;
          is_class = refl;
          is_place = ap (λ a. a.class) (sym z) ∙ (let y : start ≡ start + 0 = omega arith in y);
          is_method = ap (λ a. slice_get c.methods a.place) (sym z) ∙ fits.is;
          named = number_of fits.entry.name n fits.passes;
        }

pub from_none : (cs : List Class) (start n j i : ℕ) (c : Class) (m : Method) → slice_get cs j ≡ Some c → slice_get c.methods i ≡ Some m → m.name ≡ n → method_from start cs n ≡ None → ⊥
from_none [] start n j i c m e f g h = absurd (cc)
from_none (d ∷ cs) start n zero i c m e f g h =
    let same : d ≡ c = cc in
    let first = place_first (λ x. nat_eq x.name n) d.methods i m (subst (λ k. slice_get k.methods i ≡ Some m) (sym same) f) (number_test m.name n g) in
    let z : Some (record { class = start; place = first.place }) ≡ None = ap (λ o. method_or start o (method_from (start + 1) cs n)) (sym first.is) ∙ h in
    absurd (cc)
from_none (d ∷ cs) start n (suc j) i c m e f g h = by (position (λ x. nat_eq x.name n) d.methods) h (from_none cs (start + 1) n j i c m e f g)
  where
    by : (o : Option ℕ) → method_or start o (method_from (start + 1) cs n) ≡ None → (method_from (start + 1) cs n ≡ None → ⊥) → ⊥
    by None k more = more k
    by (Some q) k more = absurd (cc)

pub record Same (c d : ℕ) (m x : Method) : Type 0 where
  pub class : c ≡ d
  pub method : m ≡ x

module _ (p : Program) (wf : is_well_formed p ≡ true) (once : (class : ℕ) → IsTwice p class → ⊥) where
  pub fits : (c : ℕ) (k : Class) (i : ℕ) (m : Method) → Owns p c k i m → MethodFits p k.name m
  fits c k i m o = (class_parts p (sound p wf) c k o.is_class).methods i m o.is_method

  pub class_once : (c d : ℕ) (k u : Class) → slice_get p.classes c ≡ Some k → slice_get p.classes d ≡ Some u → k.name ≡ u.name → c ≡ d
  class_once c d k u e f g = elim (cases_order c d) [
    | inl same ↦ same
    | inr (inl lt) ↦ absurd (once d (record { earlier = c; before = lt; one = k; other = u; is_one = e; is_other = f; same = g }))
    | inr (inr gt) ↦ absurd (once c (record { earlier = d; before = gt; one = u; other = k; is_one = f; is_other = e; same = sym g }))
  ]

  -- methods of one class and one number are one
  own_once : (c i j : ℕ) (k : Class) (m x : Method) → slice_get p.classes c ≡ Some k → slice_get k.methods i ≡ Some m → slice_get k.methods j ≡ Some x → m.name ≡ x.name → m ≡ x
  own_once c i j k m x e f g h =
      let same : i ≡ j = same_number own_method_key k.methods i j m x (methods_differ p k (all_at (class_fits p) p.classes c k (sound p wf).classes_fit e)) f g (ap (λ n. n ∷ []) h) in
      let z : Some m ≡ Some x = sym f ∙ ap (slice_get k.methods) same ∙ g in
      cc

  -- a number is defined once
  pub number_once : (c d i j : ℕ) (k u : Class) (m x : Method) → Owns p c k i m → Owns p d u j x → m.name ≡ x.name → Same c d m x
  number_once c d i j k u m x a b h =
      let one = fits c k i m a in
      let two = fits d u j x b in
      let z : Some one.entry ≡ Some two.entry = sym one.is ∙ ap (slice_get p.methods) h ∙ two.is in
      let entries : one.entry ≡ two.entry = cc in
      let classes : c ≡ d = class_once c d k u a.is_class b.is_class (sym one.owner ∙ ap (λ q. q.class) entries ∙ two.owner) in
      let y : Some k ≡ Some u = sym a.is_class ∙ ap (slice_get p.classes) classes ∙ b.is_class in
      let same : k ≡ u = cc in
      record { class = classes; method = own_once c i j k m x a.is_class a.is_method (subst (λ w. slice_get w.methods j ≡ Some x) (sym same) b.is_method) h }

  -- a class has one method of a name and a proto
  pub key_once : (c i j : ℕ) (k : Class) (m x : Method) (q : MethodName) → Owns p c k i m → Owns p c k j x → slice_get p.methods m.name ≡ Some q
      → names_method q.name q.proto (slice_get p.methods x.name) ≡ true → x.name ≡ m.name
  key_once c i j k m x q a b e h =
      let one = fits c k i m a in
      let two = fits c k j x b in
      let z : Some one.entry ≡ Some q = sym one.is ∙ e in
      let entry : one.entry ≡ q = cc in
      let test : (nat_eq two.entry.name q.name && nat_eq two.entry.proto q.proto) ≡ true = ap (names_method q.name q.proto) (sym two.is) ∙ h in
      let names : two.entry.name ≡ q.name = number_of two.entry.name q.name (and_left (nat_eq two.entry.name q.name) (nat_eq two.entry.proto q.proto) test) in
      let protos : two.entry.proto ≡ q.proto = number_of two.entry.proto q.proto (and_right (nat_eq two.entry.name q.name) (nat_eq two.entry.proto q.proto) test) in
      let owners : two.entry.class ≡ q.class = two.owner ∙ sym one.owner ∙ ap (λ w. w.class) entry in
      let keys : method_key two.entry ≡ method_key q =
      ap (λ n. n ∷ two.entry.name ∷ two.entry.proto ∷ []) owners ∙ ap (λ n. q.class ∷ n ∷ two.entry.proto ∷ []) names ∙ ap (λ n. q.class ∷ q.name ∷ n ∷ []) protos in
      same_number method_key p.methods x.name m.name two.entry q (sound p wf).methods two.is e keys

  -- what is shut at the place of a number
  pub shut_here : (n : ℕ) (o : Outside) (l : Library) (c i : ℕ) (k : Class) (m : Method) → Owns p c k i m → shut_at n p o l (method_place p m.name) ≡ is_shut n p o l c k m
  shut_here n o l c i k m a = by (method_place p m.name) refl
    where
      by_place : (at : MethodAt) → Placed p.classes 0 m.name at → shut_at n p o l (Some at) ≡ is_shut n p o l c k m
      by_place at w =
          let owns : Owns p w.place w.class at.place w.method = record { is_class = w.is_class; is_method = w.is_method } in
          let same = number_once w.place c at.place i w.class k w.method m owns a w.named in
          let at_is : at.class ≡ c = w.is_place ∙ (let z : 0 + w.place ≡ w.place = omega arith in z) ∙ same.class in
          ap (λ d. shut_there n p o l d at.place (slice_get p.classes d)) at_is
          ∙ ap (shut_there n p o l c at.place) a.is_class
          ∙ (let y : Some w.class ≡ Some k = sym w.is_class ∙ ap (slice_get p.classes) same.class ∙ a.is_class in
          let classes : w.class ≡ k = cc in
          let here : slice_get k.methods at.place ≡ Some m = subst (λ u. slice_get u.methods at.place ≡ Some w.method) classes w.is_method ∙ ap (λ x. Some x) same.method in
          ap (λ x. elim x as (λ x. Bool) [ Some m ↦ is_shut n p o l c k m | None ↦ false ]) here)

      by : (x : Option MethodAt) → method_place p m.name ≡ x → shut_at n p o l x ≡ is_shut n p o l c k m
      by None e = absurd (from_none p.classes 0 m.name c i k m a.is_class a.is_method refl e)
      by (Some at) e = by_place at (from_some p.classes 0 m.name at e)
