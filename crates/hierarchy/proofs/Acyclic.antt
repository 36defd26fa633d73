-- Where classes have ranks, none is its own ancestor.
use Rattle.std.proofs.Common.{◌≡◌, ℕ, ◌<◌, inl, inr, Bool, true, false, true≢false, nat_eq, List, [], ◌∷◌, length, Option, Some, None, Result, Ok, Err, refl, sym, ap, ◌∙◌, arith, ltb-true}
use Rattle.std.specs.Prelude.{◌&&◌, ◌||◌, slice_get, nat_lt, option_and_then, IfOk}
use Rattle.std.specs.List.{list_any, list_all}
use Rattle.program_model.specs.declared.program.Class.{Class}
use Rattle.program_model.specs.declared.program.Program.{Program}
use Rattle.program_model.specs.Lookups.{class_place}
use Rattle.class_defs.specs.Places.{super_place, placed, places_of, listed, interface_places}
use Rattle.class_defs.specs.ClassGraph.{IsTwice, IsAbove, StepsTo}
use Rattle.class_defs.proofs.Positions.{number_test, number_of, place_entry, place_first}
use Rattle.class_defs.proofs.WellFormed.{and_left, and_right}
use Rattle.hierarchy.specs.declared.build.Hierarchy.{Hierarchy}
use Rattle.hierarchy.specs.declared.fault.HierarchyFault.{HierarchyFault}
use Rattle.hierarchy.specs.Ranks.{is_lower, is_lower_all, IsRanked}
use Rattle.hierarchy.specs.Shapes.{IsOf, IsAcyclic}
use Rattle.hierarchy.proofs.Keyed.{got_short}

-- the place of a class by its type
pub own_place : (p : Program) → ((class : ℕ) → IsTwice p class → ⊥) → (b : ℕ) (u : Class) → slice_get p.classes b ≡ Some u → class_place p u.name ≡ Some b
own_place p once b u e =
    let f = place_first (λ k. nat_eq k.name u.name) p.classes b u e (number_test u.name u.name refl) in
    elim f.first [
      | inr same ↦ f.is ∙ ap (λ n. Some n) same
      | inl before ↦ (
          let x = place_entry (λ k. nat_eq k.name u.name) p.classes f.place f.is in
          absurd (once b (record { earlier = f.place; before = before; one = x.entry; other = u; is_one = x.is; is_other = e; same = number_of x.entry.name u.name x.passes }))
          )
    ]

module _ (p : Program) (once : (class : ℕ) → IsTwice p class → ⊥) (r : IsRanked p) where
  lower_of : (n : ℕ) (t : ℕ → Bool) (ks : List ℕ) (b : ℕ) → class_place p n ≡ Some b → list_all t (places_of p ks) ≡ true → list_any (λ k. nat_eq k n) ks ≡ true → t b ≡ true
  lower_of n t [] b e h f = absurd (true≢false (sym f))
  lower_of n t (k ∷ ks) b e h f = by_test (nat_eq k n) refl f (λ g f. lower_of n t ks b e g f)
    where
      rest_of : (o : Option ℕ) → list_all t (placed o (places_of p ks)) ≡ true → list_all t (places_of p ks) ≡ true
      rest_of None g = g
      rest_of (Some c) g = and_right (t c) (list_all t (places_of p ks)) g

      here : (o : Option ℕ) → o ≡ Some b → list_all t (placed o (places_of p ks)) ≡ true → t b ≡ true
      here None s g = cc
      here (Some c) s g = let w : c ≡ b = cc in ap t (sym w) ∙ and_left (t c) (list_all t (places_of p ks)) g

      by_test : (x : Bool) → nat_eq k n ≡ x → (x || list_any (λ k. nat_eq k n) ks) ≡ true → (list_all t (places_of p ks) ≡ true → list_any (λ k. nat_eq k n) ks ≡ true → t b ≡ true) → t b ≡ true
      by_test true s g more = here (class_place p k) (ap (class_place p) (number_of k n s) ∙ e) h
      by_test false s g more = more (rest_of (class_place p k) h) g

  above_lower : (a b : ℕ) → IsAbove p a b → r.rank b < r.rank a
  above_lower a b i =
      let short : a < length p.classes = got_short p.classes a i.c i.is_class in
      let at : class_place p i.u.name ≡ Some b = own_place p once b i.u i.is_upper in
      let all = r.each a short in
      let front = and_left (nat_lt (r.rank a) (length p.classes) && is_lower r.rank (r.rank a) (super_place p a)) (is_lower_all r.rank (r.rank a) (interface_places p a)) all in
      ltb-true (r.rank b) (r.rank a) (by_names (nat_eq i.c.superclass i.u.name) refl i.names at
      (and_right (nat_lt (r.rank a) (length p.classes)) (is_lower r.rank (r.rank a) (super_place p a)) front)
      (and_right (nat_lt (r.rank a) (length p.classes) && is_lower r.rank (r.rank a) (super_place p a)) (is_lower_all r.rank (r.rank a) (interface_places p a)) all))
    where
      by_names : (x : Bool) → nat_eq i.c.superclass i.u.name ≡ x → (x || list_any (λ kind. nat_eq kind i.u.name) i.c.interfaces) ≡ true → class_place p i.u.name ≡ Some b → is_lower r.rank (r.rank a) (super_place p a) ≡ true
          → is_lower_all r.rank (r.rank a) (interface_places p a) ≡ true → nat_lt (r.rank b) (r.rank a) ≡ true
      by_names true s n at up list =
          let is : super_place p a ≡ Some b = ap (option_and_then (λ k. class_place p k.superclass)) i.is_class ∙ ap (class_place p) (number_of i.c.superclass i.u.name s) ∙ at in
          sym (ap (is_lower r.rank (r.rank a)) is) ∙ up
      by_names false s n at up list =
          let is : interface_places p a ≡ places_of p i.c.interfaces = ap (listed p) i.is_class in
          lower_of i.u.name (λ u. nat_lt (r.rank u) (r.rank a)) i.c.interfaces b at (sym (ap (is_lower_all r.rank (r.rank a)) is) ∙ list) n

  steps_lower : (class : ℕ) (mids : List ℕ) (upper : ℕ) → StepsTo (IsAbove p) class mids upper → r.rank upper < r.rank class
  steps_lower class [] upper s = above_lower class upper s
  steps_lower class (mid ∷ mids) upper s = let one = above_lower class mid s.0 in let more = steps_lower mid mids upper s.1 in omega (arith, one, more)

  pub acyclic : IsAcyclic p
  acyclic class i = let l = steps_lower class i.mids class i.steps in omega (arith, l)

pub built_acyclic : (p : Program) (r : Result Hierarchy HierarchyFault) → IfOk r (λ h. IsOf p h) → IfOk r (λ h. IsAcyclic p)
built_acyclic p (Err e) h = h
built_acyclic p (Ok x) h = acyclic p h.once h.ranked
