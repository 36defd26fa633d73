-- Entries that are told apart by the order of their keys.
use Rattle.std.proofs.Common.{◌≡◌, ℕ, List, [], ◌∷◌, ◌++◌, Bool, true, false, ◌||◌, Option, Some, None, nat_eq, refl, sym, ◌∙◌, ap, drop, take, length, ◌<◌, get_or, drop-cons, add-one, suc, ◌+◌, true≢false, if◌then◌else◌}
use Rattle.std.specs.List.{list_any}
use Rattle.std.specs.Ordering.{is_lt, is_eq, nat_cmp}
use Rattle.std.specs.declared.cmp.Ordering.{Ordering}
use Rattle.std.specs.declared.cmp.Ordering.TheVariants.{Less, Equal, Greater}
use Rattle.std.specs.Cmp.Lexicographic.{pointwise, slice_cmp, texts_ties, same_text, nat_list_cmp_total, nat_list_eq_equiv}
use Rattle.std.proofs.lemmas.Grind.{take_at_read}
use Rattle.std.proofs.lemmas.List.Folds.{list_any-append}
use Rattle.program_model.specs.Distinct.{same_entry, is_behind, differ_from}

-- two keys are the same where their order says so
pub tied_is_same : (xs ys : List ℕ) → is_eq (slice_cmp nat_cmp xs ys) ≡ pointwise nat_eq xs ys
tied_is_same xs ys = sym (texts_ties xs ys)

first_denied : (b c : Bool) → (b || c) ≡ false → b ≡ false
first_denied false c e = refl
first_denied true c e = absurd (true≢false e)

second_denied : (b c : Bool) → (b || c) ≡ false → c ≡ false
second_denied false c e = e
second_denied true c e = absurd (true≢false e)

denied : (b c : Bool) → (b ≡ true → c ≡ true) → c ≡ false → b ≡ false
denied false c h e = refl
denied true c h e = absurd (true≢false (sym (h refl) ∙ e))

less : (r : Ordering) → is_lt r ≡ true → r ≡ Less
less Less e = refl
less Equal e = absurd (true≢false (sym e))
less Greater e = absurd (true≢false (sym e))

behind_both : (xs ys zs : List ℕ) → is_lt (slice_cmp nat_cmp xs ys) ≡ true → is_lt (slice_cmp nat_cmp ys zs) ≡ true → is_lt (slice_cmp nat_cmp xs zs) ≡ true
behind_both xs ys zs h k = ap is_lt (nat_list_cmp_total.trans xs ys zs (less _ h) (less _ k))

not_behind_itself : (xs : List ℕ) → is_lt (slice_cmp nat_cmp xs xs) ≡ false
not_behind_itself xs = ap is_lt (tied xs)
  where
    equal : (r : Ordering) → is_eq r ≡ true → r ≡ Equal
    equal Equal e = refl
    equal Less e = absurd (true≢false (sym e))
    equal Greater e = absurd (true≢false (sym e))

    tied : (ys : List ℕ) → slice_cmp nat_cmp ys ys ≡ Equal
    tied ys = equal _ (tied_is_same ys ys ∙ nat_list_eq_equiv.refl ys)

module _ {X : Type 0} (key : X → List ℕ) where
  -- where a test of none is true, one that entails it is true of none
  none_entailed : (p q : X → Bool) → ((y : X) → p y ≡ true → q y ≡ true) → (xs : List X) → list_any q xs ≡ false → list_any p xs ≡ false
  none_entailed p q h [] e = refl
  none_entailed p q h (x ∷ xs) e =
      ap (λ b. b || list_any p xs) (denied (p x) (q x) (h x) (first_denied (q x) (list_any q xs) e))
      ∙ none_entailed p q h xs (second_denied (q x) (list_any q xs) e)

  further : (greatest : Option X) (e y : X) → is_behind key greatest e ≡ true → is_behind key (Some e) y ≡ true → is_behind key greatest y ≡ true
  further None e y h k = refl
  further (Some g) e y h k = behind_both (key g) (key e) (key y) h k

  as_far : (greatest : Option X) (e y : X) → is_behind key greatest e ≡ true → same_entry key y e ≡ true → is_behind key greatest y ≡ true
  as_far None e y h k = refl
  as_far (Some g) e y h k = ap (λ l. is_lt (slice_cmp nat_cmp (key g) l)) (same_text (key y) (key e) (sym k)) ∙ h

  -- an entry behind all of these is the greatest with them
  new_greatest : (greatest : Option X) (e : X) (xs : List X) → list_any (is_behind key greatest) xs ≡ false → is_behind key greatest e ≡ true
      → list_any (is_behind key (Some e)) (xs ++ e ∷ []) ≡ false
  new_greatest greatest e xs bound behind =
      list_any-append (is_behind key (Some e)) xs (e ∷ [])
      ∙ ap (λ b. b || (is_behind key (Some e) e || false)) (none_entailed (is_behind key (Some e)) (is_behind key greatest) (λ y. further greatest e y behind) xs bound)
      ∙ ap (λ b. b || false) (not_behind_itself (key e))

  -- one that is not behind them leaves the greatest
  same_greatest : (greatest : Option X) (e : X) (xs : List X) → list_any (is_behind key greatest) xs ≡ false → is_behind key greatest e ≡ false
      → list_any (is_behind key greatest) (xs ++ e ∷ []) ≡ false
  same_greatest greatest e xs bound aside =
      list_any-append (is_behind key greatest) xs (e ∷ [])
      ∙ ap (λ b. b || (is_behind key greatest e || false)) bound
      ∙ ap (λ b. b || false) aside

  -- an entry behind all of these is none of them
  pub behind_is_new : (greatest : Option X) (e : X) (xs : List X) → list_any (is_behind key greatest) xs ≡ false → is_behind key greatest e ≡ true
      → list_any (λ y. same_entry key y e) xs ≡ false
  behind_is_new greatest e xs bound behind = none_entailed (λ y. same_entry key y e) (is_behind key greatest) (λ y. as_far greatest e y behind) xs bound

  -- the bounds with one more entry
  pub bound_behind : (greatest new : Option X) (e : X) (xs : List X) (i : ℕ) → i < length xs → e ≡ get_or xs i e → new ≡ Some e
      → list_any (is_behind key greatest) (take i xs) ≡ false → is_behind key greatest e ≡ true → list_any (is_behind key new) (take (i + 1) xs) ≡ false
  bound_behind greatest new e xs i inside is made bound behind =
      ap (λ n. list_any (is_behind key n) (take (i + 1) xs)) made
      ∙ ap (list_any (is_behind key (Some e))) ((take_at_read xs i e inside).1 ∙ ap (λ x. take i xs ++ x ∷ []) (sym is))
      ∙ new_greatest greatest e (take i xs) bound behind

  pub bound_aside : (greatest new : Option X) (e : X) (xs : List X) (i : ℕ) → i < length xs → e ≡ get_or xs i e → new ≡ greatest
      → list_any (is_behind key greatest) (take i xs) ≡ false → is_behind key greatest e ≡ false → list_any (is_behind key new) (take (i + 1) xs) ≡ false
  bound_aside greatest new e xs i inside is made bound aside =
      ap (λ n. list_any (is_behind key n) (take (i + 1) xs)) made
      ∙ ap (list_any (is_behind key greatest)) ((take_at_read xs i e inside).1 ∙ ap (λ x. take i xs ++ x ∷ []) (sym is))
      ∙ same_greatest greatest e (take i xs) bound aside

  -- an entry that is none before it is passed
  pub passes : (xs : List X) (i : ℕ) (e : X) → i < length xs → e ≡ get_or xs i e → list_any (λ y. same_entry key y e) (take i xs) ≡ false
      → differ_from key (take i xs) (drop i xs) ≡ differ_from key (take (i + 1) xs) (drop (i + 1) xs)
  passes xs i e inside is new =
      rw (drop-cons xs i e, ← is) (
      ap (λ b. if b then false else differ_from key (take i xs ++ e ∷ []) (drop (suc i) xs)) new
      ∙ ap (λ l. differ_from key l (drop (suc i) xs)) (ap (λ x. take i xs ++ x ∷ []) is ∙ sym ((take_at_read xs i e inside).1))
      ∙ ap (λ k. differ_from key (take (i + 1) xs) (drop k xs)) (sym (add-one i)))
