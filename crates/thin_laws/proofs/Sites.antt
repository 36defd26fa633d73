-- Sites tell positions apart, and what is left of a table.
use Rattle.std.proofs.Common.{◌≡◌, ℕ, zero, suc, ◌+◌, ◌<◌, Bool, true, false, true≢false, List, [], ◌∷◌, length, refl, sym, ap, ◌∙◌, subst, arith, eq-eqb, eqb-true, nat_eq}
use Rattle.std.specs.Prelude.{Some, None, slice_get, map, if◌then◌else◌}
use Rattle.std.specs.Option.{option_map}
use Rattle.lemmas.proofs.Options.{none_some, some_same}
use Rattle.dalvik_defs.specs.declared.forms.Form.{Form}
use Rattle.dalvik_defs.specs.declared.forms.Form.TheVariants as form
use Rattle.pass_defs.specs.Registers.{Kinds}
use Rattle.pass_defs.specs.Thinned.{Fate, Stays, Empties, Goes, place, left, forms_left}
use Rattle.pass_defs.specs.Typed.{Table, state_at}
use Rattle.thin_laws.proofs.Places.{IsLeft}
use Rattle.thin_laws.specs.Renamed.{KeepsApart}
use Rattle.thin_laws.specs.Squeezed.{is_left, site, marked}

place_low : (fs : List Fate) (n : ℕ) → is_left (slice_get fs n) ≡ true → place fs n < length fs
place_low [] n e = absurd (true≢false (sym e))
place_low (Stays ∷ fs) zero e = omega arith
place_low (Empties ∷ fs) zero e = omega arith
place_low (Goes ∷ fs) zero e = absurd (true≢false (sym e))
place_low (Stays ∷ fs) (suc n) e = let l = place_low fs n e in omega (arith, l)
place_low (Empties ∷ fs) (suc n) e = let l = place_low fs n e in omega (arith, l)
place_low (Goes ∷ fs) (suc n) e = let l = place_low fs n e in omega (arith, l)

place_apart : (fs : List Fate) (n m : ℕ) → is_left (slice_get fs n) ≡ true → is_left (slice_get fs m) ≡ true → place fs n ≡ place fs m → n ≡ m
place_apart [] n m h k e = absurd (true≢false (sym h))
place_apart (f ∷ fs) zero zero h k e = refl
place_apart (Stays ∷ fs) zero (suc m) h k e = let g : ⊥ = omega (arith, e) in absurd g
place_apart (Empties ∷ fs) zero (suc m) h k e = let g : ⊥ = omega (arith, e) in absurd g
place_apart (Goes ∷ fs) zero (suc m) h k e = absurd (true≢false (sym h))
place_apart (Stays ∷ fs) (suc n) zero h k e = let g : ⊥ = omega (arith, e) in absurd g
place_apart (Empties ∷ fs) (suc n) zero h k e = let g : ⊥ = omega (arith, e) in absurd g
place_apart (Goes ∷ fs) (suc n) zero h k e = absurd (true≢false (sym k))
place_apart (Stays ∷ fs) (suc n) (suc m) h k e = ap suc (place_apart fs n m h k (omega (arith, e)))
place_apart (Empties ∷ fs) (suc n) (suc m) h k e = ap suc (place_apart fs n m h k (omega (arith, e)))
place_apart (Goes ∷ fs) (suc n) (suc m) h k e = ap suc (place_apart fs n m h k e)

-- numbers that are the same where others are
eq_by : (a b n m : ℕ) → (a ≡ b → n ≡ m) → (n ≡ m → a ≡ b) → nat_eq a b ≡ nat_eq n m
eq_by a b n m f g = by (nat_eq a b) (nat_eq n m) refl refl
  where
    by : (x y : Bool) → nat_eq a b ≡ x → nat_eq n m ≡ y → x ≡ y
    by true true e d = refl
    by false false e d = refl
    by true false e d = absurd (true≢false (sym (eq-eqb n m (f (eqb-true a b e))) ∙ d))
    by false true e d = absurd (true≢false (sym (eq-eqb a b (g (eqb-true n m d))) ∙ e))

low_high : {A : Type 0} (a b n : ℕ) → a < b → a ≡ b + n → A
low_high a b n l e = let f : ⊥ = omega (arith, l, e) in absurd f

same_sum : (a n m : ℕ) → a + n ≡ a + m → n ≡ m
same_sum a n m e = omega (arith, e)

pub sites_apart : (fs : List Fate) → KeepsApart (site fs)
sites_apart fs n m = eq_by (site fs n) (site fs m) n m (λ e. by (is_left (slice_get fs n)) (is_left (slice_get fs m)) refl refl e) (ap (site fs))
  where
    by : (x y : Bool) → is_left (slice_get fs n) ≡ x → is_left (slice_get fs m) ≡ y → (if x then place fs n else length fs + n) ≡ (if y then place fs m else length fs + m) → n ≡ m
    by true true h k e = place_apart fs n m h k e
    by false false h k e = same_sum (length fs) n m e
    by true false h k e = low_high (place fs n) (length fs) m (place_low fs n h) e
    by false true h k e = low_high (place fs m) (length fs) n (place_low fs m k) (sym e)

pub left_true : (fs : List Fate) (n : ℕ) (f : Fate) → slice_get fs n ≡ Some f → IsLeft (Some f) → is_left (slice_get fs n) ≡ true
left_true fs n Stays h l = ap is_left h
left_true fs n Empties h l = ap is_left h
left_true fs n Goes h l = absurd l

pub site_left : (fs : List Fate) (n : ℕ) (f : Fate) → slice_get fs n ≡ Some f → IsLeft (Some f) → site fs n ≡ place fs n
site_left fs n f h l = ap (λ b. if b then place fs n else length fs + n) (left_true fs n f h l)

-- ---- tables

pub marked_at : (marks : ℕ → Bool) (t : Table) (n : ℕ) → marks n ≡ true → state_at (marked marks t) n ≡ state_at t n
marked_at marks [] n e = refl
marked_at marks (a ∷ t) zero e = ap (λ b. if b then a else None) e
marked_at marks (a ∷ t) (suc n) e = marked_at (λ k. marks (suc k)) t n e

pub mapped_at : (g : Kinds → Kinds) (t : Table) (n : ℕ) → state_at (map (option_map g) t) n ≡ option_map g (state_at t n)
mapped_at g [] n = refl
mapped_at g (a ∷ t) zero = refl
mapped_at g (a ∷ t) (suc n) = mapped_at g t n

pub left_state : (fs : List Fate) (t : Table) (n : ℕ) (f : Fate) → slice_get fs n ≡ Some f → IsLeft (Some f) → state_at (left fs t) (place fs n) ≡ state_at t n
left_state [] t n f h l = none_some f h
left_state (k ∷ fs) [] n f h l = refl
left_state (Stays ∷ fs) (a ∷ t) zero f h l = refl
left_state (Empties ∷ fs) (a ∷ t) zero f h l = refl
left_state (Goes ∷ fs) (a ∷ t) zero f h l = absurd (subst (λ k. IsLeft (Some k)) (sym (some_same Goes f h)) l)
left_state (Stays ∷ fs) (a ∷ t) (suc n) f h l = left_state fs t n f h l
left_state (Empties ∷ fs) (a ∷ t) (suc n) f h l = left_state fs t n f h l
left_state (Goes ∷ fs) (a ∷ t) (suc n) f h l = left_state fs t n f h l

pub marked_long : (marks : ℕ → Bool) (t : Table) → length (marked marks t) ≡ length t
marked_long marks [] = refl
marked_long marks (a ∷ t) = ap suc (marked_long (λ n. marks (suc n)) t)

pub left_long : (at : ℕ → ℕ) (fs : List Fate) (t : Table) (xs : List Form) → length t ≡ length xs → length (left fs t) ≡ length (forms_left at fs xs)
left_long at fs [] [] e = refl
left_long at fs [] (x ∷ xs) e = let g : ⊥ = omega (arith, e) in absurd g
left_long at fs (a ∷ t) [] e = let g : ⊥ = omega (arith, e) in absurd g
left_long at [] (a ∷ t) (x ∷ xs) e = refl
left_long at (Stays ∷ fs) (a ∷ t) (x ∷ xs) e = ap suc (left_long at fs t xs (omega (arith, e)))
left_long at (Empties ∷ fs) (a ∷ t) (x ∷ xs) e = ap suc (left_long at fs t xs (omega (arith, e)))
left_long at (Goes ∷ fs) (a ∷ t) (x ∷ xs) e = left_long at fs t xs (omega (arith, e))

-- ---- forms

pub record From (at : ℕ → ℕ) (fs : List Fate) (xs : List Form) (j : ℕ) : Type 0 where
  pub position : ℕ
  pub fate : Fate
  pub form : Form
  pub has_fate : slice_get fs position ≡ Some fate
  pub has_form : slice_get xs position ≡ Some form
  pub is_left : IsLeft (Some fate)
  pub there : place fs position ≡ j

pub come_from : (at : ℕ → ℕ) (fs : List Fate) (xs : List Form) (j : ℕ) → j < length (forms_left at fs xs) → From at fs xs j
come_from at fs [] j l = let g : ⊥ = omega (arith, l) in absurd g
come_from at [] (x ∷ xs) j l = let g : ⊥ = omega (arith, l) in absurd g
come_from at (Stays ∷ fs) (x ∷ xs) zero l = record { position = 0; fate = Stays; form = x; has_fate = refl; has_form = refl; is_left = tt; there = refl }
come_from at (Stays ∷ fs) (x ∷ xs) (suc j) l = let r = come_from at fs xs j (omega (arith, l)) in
    record { position = suc r.position; fate = r.fate; form = r.form; has_fate = r.has_fate; has_form = r.has_form; is_left = r.is_left; there = ap suc r.there }
come_from at (Empties ∷ fs) (x ∷ xs) zero l = record { position = 0; fate = Empties; form = x; has_fate = refl; has_form = refl; is_left = tt; there = refl }
come_from at (Empties ∷ fs) (x ∷ xs) (suc j) l = let r = come_from at fs xs j (omega (arith, l)) in
    record { position = suc r.position; fate = r.fate; form = r.form; has_fate = r.has_fate; has_form = r.has_form; is_left = r.is_left; there = ap suc r.there }
come_from at (Goes ∷ fs) (x ∷ xs) j l = let r = come_from at fs xs j l in
    record { position = suc r.position; fate = r.fate; form = r.form; has_fate = r.has_fate; has_form = r.has_form; is_left = r.is_left; there = r.there }
