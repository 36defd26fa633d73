-- The classes below a class.
use Rattle.std.proofs.Common.{◌≡◌, ℕ, zero, suc, ◌+◌, ◌<◌, inl, inr, Bool, true, false, true≢false, nat_eq, List, [], ◌∷◌, length, Some, refl, sym, ap, subst, ◌∙◌, arith}
use Rattle.std.specs.Prelude.{◌⊎◌, ◌&&◌, not, cond, slice_get, filter}
use Rattle.std.specs.List.{list_any, range_with_len}
use Rattle.program_model.specs.declared.program.Program.{Program}
use Rattle.class_defs.specs.Places.{above_places, walks, is_under}
use Rattle.class_defs.proofs.Positions.{both, number_of, number_test}
use Rattle.class_defs.proofs.WellFormed.{and_left}
use Rattle.stub_library.specs.Marking.{below_of}
use Rattle.stub_library.specs.Lists.{In}
use Rattle.stub_library.proofs.Marked.{same_or}

in_range : (a n i : ℕ) → i < n → In (a + i) (range_with_len a n)
in_range a zero i lt = absurd (omega (arith, lt))
in_range a (suc n) zero lt = inl (let z : a ≡ a + 0 = omega arith in z)
in_range a (suc n) (suc i) lt = inr (subst (λ k. In k (range_with_len (a + 1) n)) (let z : (a + 1) + i ≡ a + suc i = omega arith in z) (in_range (a + 1) n i (omega (arith, lt))))

range_short : (a n i : ℕ) → In i (range_with_len a n) → i < a + n
range_short a zero i j = absurd j
range_short a (suc n) i (inl e) = omega (arith, e)
range_short a (suc n) i (inr j) = let l = range_short (a + 1) n i j in omega (arith, l)

filter_to : (test : ℕ → Bool) (xs : List ℕ) (x : ℕ) → In x xs → test x ≡ true → In x (filter test xs)
filter_to test [] x i e = absurd i
filter_to test (y ∷ ys) x i e = by (test y) refl i (filter_to test ys x)
  where
    by : (b : Bool) → test y ≡ b → (y ≡ x) ⊎ In x ys → (In x ys → test x ≡ true → In x (filter test ys)) → In x (cond b (y ∷ filter test ys) (filter test ys))
    by true f (inl s) more = inl s
    by true f (inr j) more = inr (more j e)
    by false f (inl s) more = absurd (true≢false (sym e ∙ ap test (sym s) ∙ f))
    by false f (inr j) more = more j e

pub record Kept (test : ℕ → Bool) (xs : List ℕ) (x : ℕ) : Type 0 where
  pub is_in : In x xs
  pub passes : test x ≡ true

pub filter_from : (test : ℕ → Bool) (xs : List ℕ) (x : ℕ) → In x (filter test xs) → Kept test xs x
filter_from test [] x i = absurd i
filter_from test (y ∷ ys) x i = by (test y) refl i (filter_from test ys x)
  where
    by : (b : Bool) → test y ≡ b → In x (cond b (y ∷ filter test ys) (filter test ys)) → (In x (filter test ys) → Kept test ys x) → Kept test (y ∷ ys) x
    by true f (inl s) more = record { is_in = inl s; passes = ap test (sym s) ∙ f }
    by true f (inr j) more = let r = more j in record { is_in = inr r.is_in; passes = r.passes }
    by false f j more = let r = more j in record { is_in = inr r.is_in; passes = r.passes }

pub record IsBelow (p : Program) (e d : ℕ) : Type 0 where
  pub short : d < length p.classes
  pub under : is_under p d e ≡ true

walks_self : (above : ℕ → List ℕ) (n c d : ℕ) → c ≡ d → walks above n c d ≡ true
walks_self above zero c d e = number_test c d e
walks_self above (suc n) c d e = ap (λ b. cond b true (list_any (λ u. walks above n u d) (above c))) (number_test c d e)

module _ (p : Program) where
  pub below_from : (e d : ℕ) → e < length p.classes → In d (below_of p e) → IsBelow p e d
  below_from e d lt (inl s) = record { short = omega (arith, lt, s); under = walks_self (above_places p) (length p.classes) d e (sym s) }
  below_from e d lt (inr i) =
      let r = filter_from (λ c. is_under p c e && not (nat_eq c e)) (range_with_len 0 (length p.classes)) d i in
      record { short = (let l = range_short 0 (length p.classes) d r.is_in in omega (arith, l)); under = and_left (is_under p d e) (not (nat_eq d e)) r.passes }

  pub below_to : (e d : ℕ) → d < length p.classes → is_under p d e ≡ true → In d (below_of p e)
  below_to e d lt u = elim (same_or e d) [
    | inl s ↦ inl s
    | inr h ↦ inr (filter_to (λ c. is_under p c e && not (nat_eq c e)) (range_with_len 0 (length p.classes)) d (subst (λ k. In k (range_with_len 0 (length p.classes))) (let z : 0 + d ≡ d = omega arith in z) (in_range 0 (length p.classes) d lt))
        (both (is_under p d e) (not (nat_eq d e)) u (apart (nat_eq d e) refl h)))
  ]
    where
      apart : (b : Bool) → nat_eq d e ≡ b → (e ≡ d → ⊥) → not b ≡ true
      apart true f h = absurd (h (sym (number_of d e f)))
      apart false f h = refl
