-- What a call asks of its arguments it asks of kinds that agree in them.
use Rattle.std.proofs.Common.{◌≡◌, ◌⊎◌, inl, inr, ℕ, zero, suc, ◌+◌, Bool, true, false, true≢false, if◌then◌else◌, List, [], ◌∷◌, ◌++◌, length, map, drop, refl, sym, ap, ap₂, ◌∙◌, subst, arith, nat_eq, eq-eqb}
use Rattle.std.specs.Prelude.{◌&&◌, ◌||◌, not}
use Rattle.std.specs.List.{list_all, list_any}
use Rattle.std.proofs.lemmas.Bool.{eqb-true}
use Rattle.lemmas.proofs.Bools.{and_right}
use Rattle.lemmas.proofs.Lists.{all_append, all_first, all_last}
use Rattle.insn_set.specs.declared.ops.InvokeKind.{InvokeKind}
use Rattle.insn_set.specs.declared.ops.InvokeKind.TheVariants as call
use Rattle.dalvik_defs.specs.Names.{Text, is_wide}
use Rattle.dalvik_defs.specs.Items.{item_of_type}
use Rattle.dalvik_defs.specs.Find.{finds_super}
use Rattle.dalvik_defs.specs.declared.names.MethodKey.{MethodKey}
use Rattle.dalvik_defs.specs.declared.program.NamedClass.{NamedClass}
use Rattle.dalvik_defs.specs.declared.program.NamedProgram.{NamedProgram}
use Rattle.pass_defs.specs.Kinds.{Kind, Low, High, kind_eq, is_number, is_initialised, fits, fits_holder}
use Rattle.pass_defs.specs.Registers.{kind_at}
use Rattle.pass_defs.specs.Demands.{Demand, Moved, Number, Pair, Behind, Initialised, Either, Fits, Receiver, Holder, Constructed, AnArray, ArrayOf, Filled, meets, is_moved, holds_field, is_constructed, is_array_where, item_eq, has_width, is_constructor_name, found_class, passed_wide, passed, receiver_demands, call_demands}
use Rattle.pass_defs.specs.Typed.{is_static_call, words_of, passed_words}
use Rattle.program_laws.proofs.ChangedLists.{and_left, and_both, all_map}

module _ (p : NamedProgram) (c : NamedClass) (ks ls : List Kind) where
  -- a demand on a register that holds the same, of a wide both halves
  meets_same : (r : ℕ) (d : Demand) → kind_at ls r ≡ kind_at ks r → (d ≡ Pair → kind_at ls (r + 1) ≡ kind_at ks (r + 1)) → meets p c ls r d ≡ meets p c ks r d
  meets_same r Moved e s = ap is_moved e
  meets_same r Number e s = ap is_number e
  meets_same r Pair e s = ap₂ (λ a b. kind_eq a Low && kind_eq b High) e (s refl)
  meets_same r (Behind q) e s = refl
  meets_same r Initialised e s = ap is_initialised e
  meets_same r Either e s = ap (λ k. is_number k || is_initialised k) e
  meets_same r (Fits t) e s = ap (λ k. fits p k t) e
  meets_same r (Receiver t) e s = ap (λ k. fits_holder p k t) e
  meets_same r (Holder k) e s = ap (holds_field p c k) e
  meets_same r (Constructed t) e s = ap (is_constructed c t) e
  meets_same r AnArray e s = ap (is_array_where (λ t. true)) e
  meets_same r (ArrayOf i) e s = ap (is_array_where (λ t. item_eq (item_of_type t) i)) e
  meets_same r (Filled n) e s = ap (is_array_where (λ t. has_width n (item_of_type t))) e

  abbrev met : ℕ × Demand → Bool
  met d = meets p c ks d.0 d.1

  abbrev met_there : ℕ × Demand → Bool
  met_there d = meets p c ls d.0 d.1

  abbrev Same : List ℕ → Type 0
  Same rs = (r : ℕ) → list_any (λ x. nat_eq x r) rs ≡ true → kind_at ls r ≡ kind_at ks r

  first_same : (r : ℕ) (rs : List ℕ) → Same (r ∷ rs) → kind_at ls r ≡ kind_at ks r
  first_same r rs h = h r (ap (λ b. b || list_any (λ x. nat_eq x r) rs) (eq-eqb r r refl))

  rest_same : (r : ℕ) (rs : List ℕ) → Same (r ∷ rs) → Same rs
  rest_same r rs h x e = h x (or_second (nat_eq r x) (list_any (λ y. nat_eq y x) rs) e)
    where
      or_second : (a b : Bool) → b ≡ true → (a || b) ≡ true
      or_second true b e = refl
      or_second false b e = e

  no_single : (r : ℕ) (demand : Demand) → (demand ≡ Pair → ⊥) → kind_at ls r ≡ kind_at ks r → met (r, demand) ≡ true → met_there (r, demand) ≡ true
  no_single r d n s e = meets_same r d s (λ z. absurd (n z)) ∙ e

  passed_there : (ts : List Text) (rs : List ℕ) → length rs ≡ words_of ts → Same rs → list_all met (passed ts rs) ≡ true → list_all met_there (passed ts rs) ≡ true
  passed_there [] rs l h e = refl
  passed_there (t ∷ ts) [] l h e = refl
  passed_there (t ∷ ts) (r ∷ rs) l h e = by (is_wide t) rs l (first_same r rs h) (rest_same r rs h) (λ xs z i d. passed_there ts xs z i d) e
    where
      Again : Type 0
      Again = (xs : List ℕ) → length xs ≡ words_of ts → Same xs → list_all met (passed ts xs) ≡ true → list_all met_there (passed ts xs) ≡ true

      by : (w : Bool) (xs : List ℕ) → suc (length xs) ≡ (if w then 2 else 1) + words_of ts → kind_at ls r ≡ kind_at ks r → Same xs → Again
          → list_all met (elim w as (λ b. List (ℕ × Demand)) [ true ↦ passed_wide r xs ++ passed ts (drop 1 xs) | false ↦ (r, Fits t) ∷ passed ts xs ]) ≡ true
          → list_all met_there (elim w as (λ b. List (ℕ × Demand)) [ true ↦ passed_wide r xs ++ passed ts (drop 1 xs) | false ↦ (r, Fits t) ∷ passed ts xs ]) ≡ true
      by false xs l s h again e = and_both (met_there (r, Fits t)) (list_all met_there (passed ts xs)) (no_single r (Fits t) (λ d. absurd (cc)) s (and_left (met (r, Fits t)) (list_all met (passed ts xs)) e))
          (again xs (omega (arith, l)) h (and_right (met (r, Fits t)) (list_all met (passed ts xs)) e))
      by true [] l s h again e = let f : ⊥ = omega (arith, l) in absurd f
      by true (x ∷ xs) l s h again e =
          let rest = and_right (met (r, Pair)) (met (x, Behind r) && list_all met (passed ts xs)) e in
          let next : x ≡ r + 1 = eqb-true x (r + 1) (and_left (met (x, Behind r)) (list_all met (passed ts xs)) rest) in
          let second : kind_at ls (r + 1) ≡ kind_at ks (r + 1) = subst (λ (y : ℕ). kind_at ls y ≡ kind_at ks y) next (first_same x xs h) in
          and_both (met_there (r, Pair)) (met_there (x, Behind r) && list_all met_there (passed ts xs)) (meets_same r Pair s (λ d. second) ∙ and_left (met (r, Pair)) (met (x, Behind r) && list_all met (passed ts xs)) e)
          (and_both (met_there (x, Behind r)) (list_all met_there (passed ts xs)) (and_left (met (x, Behind r)) (list_all met (passed ts xs)) rest)
          (again xs (omega (arith, l)) (rest_same x xs h) (and_right (met (x, Behind r)) (list_all met (passed ts xs)) rest)))

  -- ---- receivers

  abbrev NoPair : List Demand → Type 0
  NoPair [] = Unit {0}
  NoPair (d ∷ ds) = (d ≡ Pair → ⊥) × NoPair ds

  fits_no_pair : (ts : List Text) → NoPair (map Fits ts)
  fits_no_pair [] = tt
  fits_no_pair (t ∷ ts) = ((λ d. absurd (cc)), fits_no_pair ts)

  receiver_no_pair : (kind : InvokeKind) (k : MethodKey) → NoPair (receiver_demands p c kind k)
  receiver_no_pair call.Super k = ((λ d. absurd (cc)), fits_no_pair (found_class (finds_super p c.name k)))
  receiver_no_pair kind k = (by (is_constructor_name k.name), tt)
    where
      by : (b : Bool) → (if b then Constructed k.class else Fits k.class) ≡ Pair → ⊥
      by true d = absurd (cc)
      by false d = absurd (cc)

  receivers_there : (r : ℕ) (ds : List Demand) → NoPair ds → kind_at ls r ≡ kind_at ks r → list_all met (map (λ d. (r, d)) ds) ≡ true → list_all met_there (map (λ d. (r, d)) ds) ≡ true
  receivers_there r [] n s e = refl
  receivers_there r (d ∷ ds) n s e = and_both (met_there (r, d)) (list_all met_there (map (λ d. (r, d)) ds)) (no_single r d n.0 s (and_left (met (r, d)) (list_all met (map (λ d. (r, d)) ds)) e))
      (receivers_there r ds n.1 s (and_right (met (r, d)) (list_all met (map (λ d. (r, d)) ds)) e))

  not_false : (b : Bool) → not b ≡ false → b ≡ true
  not_false true e = refl
  not_false false e = absurd (true≢false e)

  pub call_there : (kind : InvokeKind) (k : MethodKey) (rs : List ℕ) → not (nat_eq (length rs) (passed_words kind k)) ≡ false → Same rs → list_all met (call_demands p c kind k rs) ≡ true → list_all met_there (call_demands p c kind k rs) ≡ true
  call_there call.Static k rs w h e = let l : length rs ≡ 0 + words_of k.signature.parameters = eqb-true (length rs) (passed_words call.Static k) (not_false (nat_eq (length rs) (passed_words call.Static k)) w) in
      passed_there k.signature.parameters rs (omega (arith, l)) h e
  call_there kind k [] w h e = refl
  call_there kind k (r ∷ rs) w h e = let l : suc (length rs) ≡ 1 + words_of k.signature.parameters = eqb-true (length (r ∷ rs)) (passed_words kind k) (not_false (nat_eq (length (r ∷ rs)) (passed_words kind k)) w) in
      all_append met_there (map (λ d. (r, d)) (receiver_demands p c kind k)) (passed k.signature.parameters rs)
      (receivers_there r (receiver_demands p c kind k) (receiver_no_pair kind k) (first_same r rs h) (all_first met (map (λ d. (r, d)) (receiver_demands p c kind k)) (passed k.signature.parameters rs) e))
      (passed_there k.signature.parameters rs (omega (arith, l)) (rest_same r rs h) (all_last met (map (λ d. (r, d)) (receiver_demands p c kind k)) (passed k.signature.parameters rs) e))
