-- A virtual method that a class itself defines, and the first one along some classes.
use Rattle.std.proofs.Common.{◌≡◌, inl, inr, ℕ, zero, suc, ◌<◌, Bool, true, false, nat_eq, List, [], ◌∷◌, length, Option, Some, None, refl, sym, ap, ◌∙◌, subst, arith}
use Rattle.std.specs.Prelude.{cond, is_some, position, slice_get}
use Rattle.std.specs.List.{range_with_len}
use Rattle.std.specs.Option.{option_or}
use Rattle.lemmas.proofs.Bools.{and_both}
use Rattle.lemmas.proofs.Numbers.{same_number}
use Rattle.lemmas.proofs.Options.{before_map, none_some, some_same}
use Rattle.program_model.specs.declared.program.Class.{Class}
use Rattle.program_model.specs.declared.program.MethodAt.{MethodAt}
use Rattle.program_model.specs.declared.program.Program.{Program}
use Rattle.program_model.specs.Lookups.{method_at}
use Rattle.class_defs.specs.Finding.{finds_virtual, first_among}
use Rattle.class_defs.specs.Members.{is_method, is_virtual, method_of_class, own_method, own_virtual, virtual_only}
use Rattle.class_defs.specs.Places.{chain_from, super_place}
use Rattle.hierarchy.specs.Climbing.{In}
use Rattle.hierarchy.specs.Naming.{definers_of}
use Rattle.receivers.specs.Receiving.{is_at}
use Rattle.receivers.proofs.Ranges.{at_in, filter_in, in_filter, in_numbers, numbers_in}

pub at_itself : (at : MethodAt) → is_at at (Some at) ≡ true
at_itself at = and_both (nat_eq at.class at.class) (nat_eq at.place at.place) (same_number at.class) (same_number at.place)

module _ (p : Program) (name proto : ℕ) where
  method_class : (c : ℕ) (x : MethodAt) → own_method p name proto c ≡ Some x → x.class ≡ c
  method_class c x e = by (slice_get p.classes c) e
    where
      by : (o : Option Class) → method_of_class p name proto c o ≡ Some x → x.class ≡ c
      by None f = none_some x f
      by (Some k) f = let r = before_map (λ i. record { class = c; place = i }) (position (is_method p name proto) k.methods) x f in sym (ap (λ (y : MethodAt). y.class) r.1.1)

  pub record Owns (c : ℕ) (at : MethodAt) : Type 0 where
    pub method : own_method p name proto c ≡ Some at
    pub virtual : is_virtual p (method_at p at) ≡ true
    pub class : at.class ≡ c

  -- the class defines it, and it is a virtual one
  pub owns : (c : ℕ) (at : MethodAt) → own_virtual p name proto c ≡ Some at → Owns c at
  owns c at e = by (own_method p name proto c) refl e
    where
      by : (o : Option MethodAt) → own_method p name proto c ≡ o → virtual_only p o ≡ Some at → Owns c at
      by None i f = none_some at f
      by (Some x) i f = test (is_virtual p (method_at p x)) refl f
        where
          test : (b : Bool) → is_virtual p (method_at p x) ≡ b → cond b (Some x) None ≡ Some at → Owns c at
          test true j g = let same : x ≡ at = some_same x at g in
              let there : own_method p name proto c ≡ Some at = i ∙ g in record { method = there; virtual = subst (λ y. is_virtual p (method_at p y) ≡ true) same j; class = method_class c at there }
          test false j g = none_some at g

  pub own_class : (c : ℕ) (at : MethodAt) → own_virtual p name proto c ≡ Some at → at.class ≡ c
  own_class c at e = (owns c at e).class

  -- what is found along some classes is that of one of them
  pub record Along (cs : List ℕ) (at : MethodAt) : Type 0 where
    pub own : own_virtual p name proto at.class ≡ Some at
    pub there : In at.class cs

  pub found_along : (cs : List ℕ) (at : MethodAt) → first_among (own_virtual p name proto) cs ≡ Some at → Along cs at
  found_along [] at e = none_some at e
  found_along (c ∷ cs) at e = by (own_virtual p name proto c) refl e (found_along cs at)
    where
      by : (o : Option MethodAt) → own_virtual p name proto c ≡ o → option_or o (first_among (own_virtual p name proto) cs) ≡ Some at → (first_among (own_virtual p name proto) cs ≡ Some at → Along cs at) → Along (c ∷ cs) at
      by None i f more = let r = more f in record { own = r.own; there = inr r.there }
      by (Some x) i f more =
          let there : own_virtual p name proto c ≡ Some at = i ∙ f in
          let same : at.class ≡ c = own_class c at there in
          record { own = subst (λ d. own_virtual p name proto d ≡ Some at) (sym same) there; there = inl same }

  -- a class finds what it defines itself
  pub finds_own : (c : ℕ) (at : MethodAt) → 0 < length p.classes → own_virtual p name proto c ≡ Some at → finds_virtual p name proto c ≡ Some at
  finds_own c at few e = by (length p.classes) few
    where
      by : (n : ℕ) → 0 < n → first_among (own_virtual p name proto) (chain_from (super_place p) n (Some c)) ≡ Some at
      by zero l = absurd (omega (arith, l))
      by (suc n) l = ap (λ o. option_or o (first_among (own_virtual p name proto) (chain_from (super_place p) n (super_place p c)))) e

  some_method : (o : Option MethodAt) (at : MethodAt) → virtual_only p o ≡ Some at → is_some o ≡ true
  some_method None at e = none_some at e
  some_method (Some x) at e = refl

  -- it is among those that define such a method
  pub defines : (c : ℕ) (at : MethodAt) → c < length p.classes → own_virtual p name proto c ≡ Some at → In c (definers_of p name proto)
  defines c at l e = filter_in (λ d. is_some (own_method p name proto d)) (range_with_len 0 (length p.classes)) c (numbers_in 0 (length p.classes) c (omega arith) (omega (arith, l)))
      (some_method (own_method p name proto c) at e)

  pub definers_short : (k c : ℕ) → slice_get (definers_of p name proto) k ≡ Some c → c < length p.classes
  definers_short k c e =
      let i = at_in (definers_of p name proto) k c e in
      let n = (in_numbers 0 (length p.classes) c (in_filter (λ d. is_some (own_method p name proto d)) (range_with_len 0 (length p.classes)) c i).0).1 in
      omega (arith, n)
