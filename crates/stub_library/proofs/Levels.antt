-- One more of the texts that loops go over.
use Rattle.std.proofs.Common.{◌≡◌, ℕ, zero, suc, ◌+◌, ◌<◌, arith, Bool, true, false, true≢false, List, [], ◌∷◌, ◌++◌, length, take, get_or, Some, refl, sym, ap, subst, ◌∙◌}
use Rattle.std.proofs.Common.{Bor}
use Rattle.std.specs.Prelude.{◌&&◌, not, cond, slice_get}
use Rattle.std.specs.List.{flat_map, list_all}
use Rattle.std.proofs.lemmas.List.{take_more, append-nil}
use Rattle.std.proofs.lemmas.List.Folds.{list_all-append}
use Rattle.std.proofs.lemmas.Grind.{flat_map-append}
use Rattle.program_model.specs.declared.pools.MethodName.{MethodName}
use Rattle.program_model.specs.declared.program.Program.{Program}
use Rattle.stub_library.specs.Meeting.{Adds, MeetsEntry, is_clear, texts_of}
use Rattle.stub_library.specs.declared.declared.Met.{Met}
use Rattle.stub_library.specs.Listing.{same_text}
use Rattle.stub_library.proofs.ByText.{text_is}
use Rattle.stub_library.proofs.Adding.{adds_more}

and_true : (a : Bool) → a ≡ (a && true)
and_true true = refl
and_true false = refl

and_more : (a b c : Bool) → ((a && b) && c) ≡ (a && (b && c))
and_more true b c = refl
and_more false b c = refl

pub not_false : (b : Bool) → not b ≡ false → b ≡ true
not_false true e = refl
not_false false e = absurd (true≢false e)

-- ---- the list

pub one_taken : {X : Type 0} (xs slice : List X) (i : ℕ) (x d : X) → slice ≡ xs → x ≡ get_or slice i d → i < length slice → take (i + 1) xs ≡ take i xs ++ x ∷ []
one_taken xs slice i x d same is lt = subst (λ l. take (i + 1) l ≡ take i l ++ x ∷ []) same (take_more slice i d lt ∙ ap (λ y. take i slice ++ y ∷ []) (sym is))

pub texts_append : (us vs : List (Bor (List ℕ))) → texts_of (us ++ vs) ≡ texts_of us ++ texts_of vs
texts_append [] vs = refl
texts_append (u ∷ us) vs = ap (λ l. u.now ∷ l) (texts_append us vs)

pub text_taken : (us : List (Bor (List ℕ))) (i : ℕ) (d : Bor (List ℕ)) → i < length us → texts_of (take (i + 1) us) ≡ texts_of (take i us) ++ (get_or us i d).now ∷ []
text_taken us i d lt = ap texts_of (take_more us i d lt) ∙ texts_append (take i us) (get_or us i d ∷ [])

pub got_at : {X : Type 0} (xs : List X) (i : ℕ) (x d : X) → x ≡ get_or xs i d → i < length xs → slice_get xs i ≡ Some x
got_at [] i x d e lt = absurd (omega (arith, lt))
got_at (y ∷ ys) zero x d e lt = ap (λ z. Some z) (sym e)
got_at (y ∷ ys) (suc i) x d e lt = got_at ys i x d e (omega (arith, lt))

-- ---- what is added and met

pub texts_one : (xs ys : List (List ℕ)) (x : List ℕ) (old mid new : List ℕ → Bool) (a b c : List (List ℕ)) → ys ≡ xs ++ x ∷ [] → Adds xs old mid a b → Adds (x ∷ []) mid new b c → Adds ys old new a c
texts_one xs ys x old mid new a b c made so_far step = subst (λ s. Adds s old new a c) (sym made) (adds_more xs (x ∷ []) old mid new a b c so_far step)

pub adds_one : {X : Type 0} (f : X → List (List ℕ)) (xs ys : List X) (x : X) (old mid new : List ℕ → Bool) (a b c : List (List ℕ)) → ys ≡ xs ++ x ∷ [] → Adds (flat_map f xs) old mid a b → Adds (f x) mid new b c → Adds (flat_map f ys) old new a c
adds_one f xs ys x old mid new a b c made so_far step =
    subst (λ s. Adds s old new a c) (sym (ap (flat_map f) made ∙ flat_map-append f xs (x ∷ []) ∙ ap (λ l. flat_map f xs ++ l) (append-nil (f x)))) (adds_more (flat_map f xs) (f x) old mid new a b c so_far step)

pub meets_one : {X : Type 0} (p : Program) (test : MethodName → X → Bool) (xs ys : List X) (x : X) (old mid new : Met) → ys ≡ xs ++ x ∷ [] → MeetsEntry p (λ q. list_all (test q) xs) old mid → MeetsEntry p (λ q. test q x) mid new
    → MeetsEntry p (λ q. list_all (test q) ys) old new
meets_one p test xs ys x old mid new made so_far step = record {
  is = λ i q e. step.is i q e ∙ ap (λ b. b && test q x) (so_far.is i q e) ∙ and_more (is_clear p old q) (list_all (test q) xs) (test q x)
      ∙ ap (λ b. is_clear p old q && b) (ap (λ b. list_all (test q) xs && b) (and_true (test q x)) ∙ sym (list_all-append (test q) xs (x ∷ [])) ∙ ap (list_all (test q)) (sym made));
}

-- a text that is another
pub text_given : (t u : List ℕ) (old new : List ℕ → Bool) (a b : List (List ℕ)) → t ≡ u → Adds (t ∷ []) old new a b → Adds (u ∷ []) old new a b
text_given t u old new a b e adds = subst (λ x. Adds (x ∷ []) old new a b) e adds

-- a text that is seen where only one was
pub seen_first : (t u : List ℕ) (old new : Bool) → new ≡ cond (same_text t u) true old → old ≡ false → new ≡ true → t ≡ u
seen_first t u old new put none is = by (same_text t u) refl (sym put ∙ is)
  where
    by : (b : Bool) → same_text t u ≡ b → cond b true old ≡ true → t ≡ u
    by true e f = text_is t u e
    by false e f = absurd (true≢false (sym f ∙ none))
