-- Members of one class have different keys.
use Rattle.std.proofs.Common.{◌≡◌, ℕ, zero, suc, ◌<◌, ◌⊎◌, inl, inr, Bool, true, false, true≢false, nat_eq, List, [], ◌∷◌, ◌++◌, map, Option, Some, None, refl, sym, ap, ◌∙◌, arith}
use Rattle.std.specs.Prelude.{◌||◌, slice_get, if◌then◌else◌}
use Rattle.std.specs.List.{list_any}
use Rattle.std.specs.Option.{option_map}
use Rattle.std.specs.Cmp.Lexicographic.{pointwise, nat_list_eq_equiv}
use Rattle.std.proofs.lemmas.Bool.{cases_lt}
use Rattle.std.proofs.lemmas.List.Folds.{list_any-append}
use Rattle.std.proofs.lemmas.Option.{slice_get-map}
use Rattle.program_model.specs.declared.program.Method.{Method}
use Rattle.program_model.specs.declared.program.Class.{Class}
use Rattle.program_model.specs.declared.program.Program.{Program}
use Rattle.program_model.specs.Distinct.{same_entry, differ_from, all_differ, method_key, own_method_key}
use Rattle.program_model.specs.MemberRules.{class_fits}
use Rattle.program_model.specs.ProgramRules.{is_well_formed}
use Rattle.class_defs.proofs.WellFormed.{all_at, sound, class_parts, Sound, ClassFits}
use Rattle.hierarchy.specs.Membership.{key_at, method_pair, AreKeys, StandOnce, method_rows}
use Rattle.hierarchy.proofs.Short.{members_differ}

or_left : (a b : Bool) → (a || b) ≡ false → a ≡ false
or_left true b e = e
or_left false b e = refl

or_right : (a b : Bool) → (a || b) ≡ false → b ≡ false
or_right true b e = absurd (true≢false e)
or_right false b e = e

-- ---- entries that differ

module _ {X : Type 0} (key : X → List ℕ) where
  branch : (b c : Bool) → (if b then false else c) ≡ true → (b ≡ false) × (c ≡ true)
  branch true c h = absurd (true≢false (sym h))
  branch false c h = (refl, h)

  -- an entry is none of those before it
  apart_before : (before xs : List X) (i : ℕ) (y : X) → differ_from key before xs ≡ true → slice_get xs i ≡ Some y → list_any (λ b. same_entry key b y) before ≡ false
  apart_before before [] i y h e = cc
  apart_before before (x ∷ xs) zero y h e = ap (λ z. list_any (λ b. same_entry key b z) before) (let s : y ≡ x = cc in s) ∙ (branch _ _ h).0
  apart_before before (x ∷ xs) (suc i) y h e =
      or_left _ _ (sym (list_any-append (λ b. same_entry key b y) before (x ∷ [])) ∙ apart_before (before ++ x ∷ []) xs i y (branch _ _ h).1 e)

  apart : (before xs : List X) (i j : ℕ) (x y : X) → differ_from key before xs ≡ true → slice_get xs i ≡ Some x → slice_get xs j ≡ Some y → i < j → same_entry key x y ≡ false
  apart before [] i j x y h e f lt = cc
  apart before (z ∷ zs) zero zero x y h e f lt = absurd (omega arith)
  apart before (z ∷ zs) zero (suc j) x y h e f lt =
      let s : x ≡ z = cc in
      let a = or_right (list_any (λ b. same_entry key b y) before) _ (sym (list_any-append (λ b. same_entry key b y) before (z ∷ [])) ∙ apart_before (before ++ z ∷ []) zs j y (branch _ _ h).1 f) in
      ap (λ w. same_entry key w y) s ∙ or_left _ _ a
  apart before (z ∷ zs) (suc i) zero x y h e f lt = absurd (omega arith)
  apart before (z ∷ zs) (suc i) (suc j) x y h e f lt = apart (before ++ z ∷ []) zs i j x y (branch _ _ h).1 e f (omega arith)

  self : (x y : X) → key x ≡ key y → same_entry key x y ≡ false → ⊥
  self x y e f = true≢false (sym (nat_list_eq_equiv.refl (key x)) ∙ ap (pointwise nat_eq (key x)) e ∙ f)

  compare : (i j : ℕ) → (i < j) ⊎ ((i ≡ j) ⊎ (j < i))
  compare i j = elim (cases_lt i j) [ inl l ↦ inl l | inr g ↦ elim (cases_lt j i) [ inl l ↦ inr (inr l) | inr k ↦ inr (inl (omega arith)) ] ]

  -- entries of one key have one number
  same_number : (xs : List X) (i j : ℕ) (x y : X) → all_differ key xs ≡ true → slice_get xs i ≡ Some x → slice_get xs j ≡ Some y → key x ≡ key y → i ≡ j
  same_number xs i j x y h e f k = elim (compare i j) [
    | inl lt ↦ absurd (self x y k (apart [] xs i j x y h e f lt))
    | inr (inl eq) ↦ eq
    | inr (inr gt) ↦ absurd (self y x (sym k) (apart [] xs j i y x h f e gt))
  ]

-- ---- the keys of the methods of a class

module _ (p : Program) (wf : is_well_formed p ≡ true) (keys : List ℕ) (count : ℕ) (keyed : AreKeys method_pair p.methods keys count) where
  one_place : (c : Class) (at : ℕ) → slice_get p.classes at ≡ Some c → (i j : ℕ) (a b : Method) → slice_get c.methods i ≡ Some a → slice_get c.methods j ≡ Some b → key_at keys a.name ≡ key_at keys b.name → i ≡ j
  one_place c at e i j a b f g k =
      let s : Sound p = sound p wf in
      let fits : ClassFits p c = class_parts p s at c e in
      let x = fits.methods i a f in
      let y = fits.methods j b g in
      let pairs : method_pair x.entry ≡ method_pair y.entry = keyed.one a.name b.name x.entry y.entry x.is y.is k in
      let owner : x.entry.class ≡ y.entry.class = x.owner ∙ sym y.owner in
      let same : method_key x.entry ≡ method_key y.entry = ap (λ n. n ∷ x.entry.name ∷ x.entry.proto ∷ []) owner ∙ ap (λ (q : ℕ × ℕ). y.entry.class ∷ q.0 ∷ q.1 ∷ []) pairs in
      let number : a.name ≡ b.name = same_number method_key p.methods a.name b.name x.entry y.entry s.methods x.is y.is same in
      same_number own_method_key c.methods i j a b (members_differ p c (all_at (class_fits p) p.classes at c s.classes_fit e)).1 f g (ap (λ n. n ∷ []) number)

  pub rows_once : StandOnce (method_rows keys p.classes)
  rows_once = record { once = λ c i j k row e f g. by_class c i j k row (slice_get p.classes c) refl (sym (slice_get-map (λ d. map (λ m. key_at keys m.name) d.methods) p.classes c) ∙ e) f g }
    where
      by_methods : (c i j k : ℕ) (d : Class) → slice_get p.classes c ≡ Some d → (a b : Option Method) → slice_get d.methods i ≡ a → slice_get d.methods j ≡ b → option_map (λ m. key_at keys m.name) a ≡ Some k → option_map (λ m. key_at keys m.name) b ≡ Some k → i ≡ j
      by_methods c i j k d e None b x y f g = cc
      by_methods c i j k d e (Some a) None x y f g = cc
      by_methods c i j k d e (Some a) (Some b) x y f g = one_place d c e i j a b x y (let s : key_at keys a.name ≡ k = cc in let t : key_at keys b.name ≡ k = cc in s ∙ sym t)

      by_class : (c i j k : ℕ) (row : List ℕ) (o : Option Class) → slice_get p.classes c ≡ o → option_map (λ d. map (λ m. key_at keys m.name) d.methods) o ≡ Some row → slice_get row i ≡ Some k → slice_get row j ≡ Some k → i ≡ j
      by_class c i j k row None e h f g = cc
      by_class c i j k row (Some d) e h f g =
          let r : map (λ m. key_at keys m.name) d.methods ≡ row = cc in
          by_methods c i j k d e (slice_get d.methods i) (slice_get d.methods j) refl refl
          (sym (slice_get-map (λ m. key_at keys m.name) d.methods i) ∙ ap (λ l. slice_get l i) r ∙ f)
          (sym (slice_get-map (λ m. key_at keys m.name) d.methods j) ∙ ap (λ l. slice_get l j) r ∙ g)
