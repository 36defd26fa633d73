-- Protos of types of the program with their short forms fit.
use Rattle.std.proofs.Common.{◌≡◌, ◌⊎◌, inl, inr, ℕ, zero, suc, Bool, true, false, true≢false, nat_eq, List, [], ◌∷◌, ◌++◌, length, map, Option, Some, None, refl, sym, ap, ◌∙◌, lt-ltb}
use Rattle.std.specs.Prelude.{◌&&◌, ◌||◌, not, slice_get, if◌then◌else◌}
use Rattle.std.specs.List.{list_all, zip}
use Rattle.lemmas.proofs.Bools.{and_left, and_right, and_both}
use Rattle.lemmas.proofs.Lists.{all_at, got_short, map_long}
use Rattle.lemmas.proofs.Options.{none_some, some_same}
use Rattle.program_model.specs.MemberRules.{is_class_type}
use Rattle.program_model.specs.ProgramRules.{is_well_formed}
use Rattle.program_model.specs.TableRules.{is_shorty, proto_fits, stands_for, stands_for_parameter}
use Rattle.program_model.specs.Texts.{has_string, has_type, is_class, is_void, letter_of, string_text}
use Rattle.program_model.specs.declared.pools.Proto.{Proto}
use Rattle.program_model.specs.declared.program.Program.{Program}
use Rattle.class_defs.proofs.Positions.{number_of, number_test}
use Rattle.class_defs.proofs.WellFormed.{sound}
use Rattle.static_protos.specs.Tables.{Tables, letter_at, shorty, protos_with, proto_of, with_new, proto_at}
use Rattle.static_protos.specs.declared.tables.Wanted.{Wanted}
use Rattle.static_kept.proofs.Extended.{Extends, letter_same, type_same}
use Rattle.static_kept.proofs.Lists.{index_there}

-- a parameter's type is one of the program, and not void
abbrev pub may_be_passed : Program → ℕ → Bool
may_be_passed p kind = has_type p kind && not (is_void (letter_of p kind))

pub record IsOfTypes (p : Program) (x : Proto) : Type 0 where
  pub result : has_type p x.result ≡ true
  pub parameters : list_all (may_be_passed p) x.parameters ≡ true

abbrev pub AreOfTypes : Program → List Proto → Type 0
AreOfTypes p xs = (n : ℕ) (x : Proto) → slice_get xs n ≡ Some x → IsOfTypes p x

-- ---- those of a well-formed program

module _ (p : Program) where
  passed : (units kinds : List ℕ) → nat_eq (length units) (length kinds) ≡ true → list_all (stands_for_parameter p) (zip units kinds) ≡ true → list_all (has_type p) kinds ≡ true → list_all (may_be_passed p) kinds ≡ true
  passed units [] e h t = refl
  passed [] (k ∷ ks) e h t = absurd (let z : 0 ≡ suc (length ks) = number_of 0 (suc (length ks)) e in cc)
  passed (u ∷ us) (k ∷ ks) e h t =
      let l : suc (length us) ≡ suc (length ks) = number_of (suc (length us)) (suc (length ks)) e in
      let s : length us ≡ length ks = cc in
      let first = and_left (stands_for_parameter p (u, k)) (list_all (stands_for_parameter p) (zip us ks)) h in
      and_both (may_be_passed p k) (list_all (may_be_passed p) ks)
      (and_both (has_type p k) (not (is_void (letter_of p k))) (and_left (has_type p k) (list_all (has_type p) ks) t) (and_right (stands_for u (letter_of p k)) (not (is_void (letter_of p k))) first))
      (passed us ks (number_test (length us) (length ks) s) (and_right (stands_for_parameter p (u, k)) (list_all (stands_for_parameter p) (zip us ks)) h) (and_right (has_type p k) (list_all (has_type p) ks) t))

  by_shorty : (text : List ℕ) (result : ℕ) (kinds : List ℕ) → is_shorty p text result kinds ≡ true → list_all (has_type p) kinds ≡ true → list_all (may_be_passed p) kinds ≡ true
  by_shorty [] result kinds h t = absurd (true≢false (sym h))
  by_shorty (u ∷ us) result kinds h t =
      let r = and_right (stands_for u (letter_of p result)) (nat_eq (length us) (length kinds) && list_all (stands_for_parameter p) (zip us kinds)) h in
      passed us kinds (and_left (nat_eq (length us) (length kinds)) (list_all (stands_for_parameter p) (zip us kinds)) r) (and_right (nat_eq (length us) (length kinds)) (list_all (stands_for_parameter p) (zip us kinds)) r) t

  pub first_typed : is_well_formed p ≡ true → AreOfTypes p p.protos
  first_typed wf n x e =
      let fits = all_at (proto_fits p) p.protos n x (sound p wf).protos_fit e in
      let a = has_string p x.shorty in
      let b = has_type p x.result in
      let c = list_all (has_type p) x.parameters in
      let d = is_shorty p (string_text p x.shorty) x.result x.parameters in
      let r = and_right (a && b) (c && d) fits in
      record { result = and_right a b (and_left (a && b) (c && d) fits); parameters = by_shorty (string_text p x.shorty) x.result x.parameters (and_right c d r) (and_left c d r) }

  -- ---- one more

  at_end : (xs : List Proto) (y : Proto) (n : ℕ) (x : Proto) → slice_get (xs ++ y ∷ []) n ≡ Some x → (slice_get xs n ≡ Some x) ⊎ (y ≡ x)
  at_end [] y zero x f = inr (some_same y x f)
  at_end [] y (suc n) x f = none_some x f
  at_end (z ∷ xs) y zero x f = inl f
  at_end (z ∷ xs) y (suc n) x f = at_end xs y n x f

  pub more_typed : (t : Tables) (w : Wanted) → AreOfTypes p t.protos → has_type p w.result ≡ true → list_all (may_be_passed p) w.parameters ≡ true → AreOfTypes p (with_new t w).protos
  more_typed t w a result parameters n x e = by (proto_at t w) e
    where
      new : (y : Proto) → proto_of t w ≡ y → IsOfTypes p y
      new y s = record { result = ap (λ (z : Proto). has_type p z.result) (sym s) ∙ result; parameters = ap (λ (z : Proto). list_all (may_be_passed p) z.parameters) (sym s) ∙ parameters }

      by : (o : Option ℕ) → slice_get (protos_with t.protos (proto_of t w) o) n ≡ Some x → IsOfTypes p x
      by (Some i) f = a n x f
      by None f = elim (at_end t.protos (proto_of t w) n x f) [ inl g ↦ a n x g | inr s ↦ new x s ]

  -- the class of a method in front of the parameters of its proto
  pub class_passed : (class : ℕ) (kinds : List ℕ) → is_class_type p class ≡ true → list_all (may_be_passed p) kinds ≡ true → list_all (may_be_passed p) (class ∷ kinds) ≡ true
  class_passed class kinds h f =
      let l : letter_of p class ≡ 76 = number_of (letter_of p class) 76 (and_right (has_type p class) (is_class (letter_of p class)) h) in
      and_both (may_be_passed p class) (list_all (may_be_passed p) kinds) (and_both (has_type p class) (not (is_void (letter_of p class))) (and_left (has_type p class) (is_class (letter_of p class)) h) (ap (λ x. not (is_void x)) l)) f

-- ---- with their short forms

module _ (p q : Program) (wf : is_well_formed p ≡ true) (e : Extends p q) where
  stands_by : (l : ℕ) (a b : Bool) → nat_eq l 76 ≡ a → nat_eq l 91 ≡ b → (if b then nat_eq (if (a || b) then 76 else l) 76 else nat_eq (if (a || b) then 76 else l) l) ≡ true
  stands_by l true true f g = refl
  stands_by l false true f g = refl
  stands_by l true false f g = number_test 76 l (sym (number_of l 76 f))
  stands_by l false false f g = number_test l l refl

  stands : (kind : ℕ) → stands_for (letter_at p kind) (letter_of p kind) ≡ true
  stands kind = stands_by (letter_of p kind) (nat_eq (letter_of p kind) 76) (nat_eq (letter_of p kind) 91) refl refl

  stands_now : (kind : ℕ) → stands_for (letter_at p kind) (letter_of q kind) ≡ true
  stands_now kind = ap (stands_for (letter_at p kind)) (letter_same p q wf e kind) ∙ stands kind

  parameters_stand : (kinds : List ℕ) → list_all (may_be_passed p) kinds ≡ true → list_all (stands_for_parameter q) (zip (map (letter_at p) kinds) kinds) ≡ true
  parameters_stand [] h = refl
  parameters_stand (k ∷ ks) h =
      let a = and_right (has_type p k) (not (is_void (letter_of p k))) (and_left (may_be_passed p k) (list_all (may_be_passed p) ks) h) in
      and_both (stands_for_parameter q (letter_at p k, k)) (list_all (stands_for_parameter q) (zip (map (letter_at p) ks) ks))
      (and_both (stands_for (letter_at p k) (letter_of q k)) (not (is_void (letter_of q k))) (stands_now k) (ap (λ l. not (is_void l)) (letter_same p q wf e k) ∙ a))
      (parameters_stand ks (and_right (may_be_passed p k) (list_all (may_be_passed p) ks) h))

  types_there : (kinds : List ℕ) → list_all (may_be_passed p) kinds ≡ true → list_all (has_type q) kinds ≡ true
  types_there [] h = refl
  types_there (k ∷ ks) h =
      and_both (has_type q k) (list_all (has_type q) ks)
      (type_same p q wf e k ∙ and_left (has_type p k) (not (is_void (letter_of p k))) (and_left (may_be_passed p k) (list_all (may_be_passed p) ks) h))
      (types_there ks (and_right (may_be_passed p k) (list_all (may_be_passed p) ks) h))

  shorty_fits : (result : ℕ) (kinds : List ℕ) → list_all (may_be_passed p) kinds ≡ true → is_shorty q (shorty p result kinds) result kinds ≡ true
  shorty_fits result kinds h =
      and_both (stands_for (letter_at p result) (letter_of q result)) (nat_eq (length (map (letter_at p) kinds)) (length kinds) && list_all (stands_for_parameter q) (zip (map (letter_at p) kinds) kinds))
      (stands_now result)
      (and_both (nat_eq (length (map (letter_at p) kinds)) (length kinds)) (list_all (stands_for_parameter q) (zip (map (letter_at p) kinds) kinds)) (number_test (length (map (letter_at p) kinds)) (length kinds) (map_long (letter_at p) kinds)) (parameters_stand kinds h))

  pub proto_formed : (x : Proto) → IsOfTypes p x → slice_get q.strings x.shorty ≡ Some (shorty p x.result x.parameters) → proto_fits q x ≡ true
  proto_formed x a s =
      let text : string_text q x.shorty ≡ shorty p x.result x.parameters = index_there q.strings x.shorty (shorty p x.result x.parameters) s in
      and_both (has_string q x.shorty && has_type q x.result) (list_all (has_type q) x.parameters && is_shorty q (string_text q x.shorty) x.result x.parameters)
      (and_both (has_string q x.shorty) (has_type q x.result) (lt-ltb x.shorty (length q.strings) (got_short q.strings x.shorty (shorty p x.result x.parameters) s)) (type_same p q wf e x.result ∙ a.result))
      (and_both (list_all (has_type q) x.parameters) (is_shorty q (string_text q x.shorty) x.result x.parameters) (types_there x.parameters a.parameters)
      (ap (λ u. is_shorty q u x.result x.parameters) text ∙ shorty_fits x.result x.parameters a.parameters))
