-- Lists of which each is one of each: the entry at a place, and the end.
use Rattle.std.proofs.Common.{◌≡◌, ℕ, zero, suc, ◌+◌, ◌<◌, ◌≤◌, Bool, true, false, List, [], ◌∷◌, length, map, drop, get_or, refl, sym, subst, ap, ◌∙◌, arith}
use Rattle.std.specs.Prelude.{◌&&◌, ◌||◌}
use Rattle.std.specs.List.{list_any, list_all}
use Rattle.std.proofs.lemmas.List.{drop_more, drop_all}
use Rattle.rule_text.specs.Related.{AreEach}

-- the entry that belongs to the one at a place
pub record EachAt {R S : Type 0} (P : R → S → Type 0) (rs : List R) (ss : List S) (i : ℕ) : Type 0 where
  pub one : S
  pub next : drop i ss ≡ one ∷ drop (i + 1) ss
  pub is : (r : R) → r ≡ get_or rs i r → P r one

further : (i : ℕ) → suc (i + 1) ≡ suc i + 1
further i = omega arith

pub each_at : {R S : Type 0} (P : R → S → Type 0) (rs : List R) (ss : List S) (i : ℕ) → AreEach P rs ss → i < length rs → EachAt P rs ss i
each_at P [] ss i are h = absurd (omega arith)
each_at P (r ∷ rs) [] i are h = absurd are
each_at P (r ∷ rs) (s ∷ ss) zero are h = record { one = s; next = refl; is = λ x e. subst (λ y. P y s) (sym e) are.0 }
each_at P (r ∷ rs) (s ∷ ss) (suc i) are h =
    let more = each_at P rs ss i are.1 (omega arith) in
    record { one = more.one; next = more.next ∙ ap (λ k. more.one ∷ drop k (s ∷ ss)) (further i); is = more.is }

pub each_length : {R S : Type 0} (P : R → S → Type 0) (rs : List R) (ss : List S) → AreEach P rs ss → length rs ≡ length ss
each_length P [] [] are = refl
each_length P [] (s ∷ ss) are = absurd are
each_length P (r ∷ rs) [] are = absurd are
each_length P (r ∷ rs) (s ∷ ss) are = ap suc (each_length P rs ss are.1)

pub each_end : {R S : Type 0} (P : R → S → Type 0) (rs : List R) (ss : List S) (i : ℕ) → AreEach P rs ss → length rs ≤ i → drop i ss ≡ []
each_end P rs ss i are h = let e = each_length P rs ss are in drop_all i ss (omega (arith, e, h))

-- ---- loops that look for one that passes a test, or for one that doesn't

module _ {R S : Type 0} (P : R → S → Type 0) (t : S → Bool) (rs : List R) (ss : List S) (i : ℕ) (r : R) (b : Bool) (are : AreEach P rs ss) (h : i < length rs) (e : r ≡ get_or rs i r) (says : (s : S) → P r s → b ≡ t s) where
  here : (c : Bool) → b ≡ c → EachAt P rs ss i → list_any t (drop i ss) ≡ list_any t ss → (c || list_any t (drop (i + 1) ss)) ≡ list_any t ss
  here c v at inv = ap (λ x. x || list_any t (drop (i + 1) ss)) (sym v ∙ says at.one (at.is r e)) ∙ ap (list_any t) (sym at.next) ∙ inv

  pub any_found : b ≡ true → list_any t (drop i ss) ≡ list_any t ss → true ≡ list_any t ss
  any_found v inv = here true v (each_at P rs ss i are h) inv

  pub any_passed : b ≡ false → list_any t (drop i ss) ≡ list_any t ss → list_any t (drop (i + 1) ss) ≡ list_any t ss
  any_passed v inv = here false v (each_at P rs ss i are h) inv

  there : (c : Bool) → b ≡ c → EachAt P rs ss i → list_all t (drop i ss) ≡ list_all t ss → (c && list_all t (drop (i + 1) ss)) ≡ list_all t ss
  there c v at inv = ap (λ x. x && list_all t (drop (i + 1) ss)) (sym v ∙ says at.one (at.is r e)) ∙ ap (list_all t) (sym at.next) ∙ inv

  pub all_failed : b ≡ false → list_all t (drop i ss) ≡ list_all t ss → false ≡ list_all t ss
  all_failed v inv = there false v (each_at P rs ss i are h) inv

  pub all_passed : b ≡ true → list_all t (drop i ss) ≡ list_all t ss → list_all t (drop (i + 1) ss) ≡ list_all t ss
  all_passed v inv = there true v (each_at P rs ss i are h) inv

pub any_end : {R S : Type 0} (P : R → S → Type 0) (t : S → Bool) (rs : List R) (ss : List S) (i : ℕ) → AreEach P rs ss → length rs ≤ i → list_any t (drop i ss) ≡ list_any t ss → false ≡ list_any t ss
any_end P t rs ss i are h inv = ap (list_any t) (sym (each_end P rs ss i are h)) ∙ inv

pub all_end : {R S : Type 0} (P : R → S → Type 0) (t : S → Bool) (rs : List R) (ss : List S) (i : ℕ) → AreEach P rs ss → length rs ≤ i → list_all t (drop i ss) ≡ list_all t ss → true ≡ list_all t ss
all_end P t rs ss i are h inv = ap (list_all t) (sym (each_end P rs ss i are h)) ∙ inv

-- ---- loops over a list that is renamed

module _ {R S : Type 0} (g : R → S) (t : S → Bool) (rs : List R) (i : ℕ) (r : R) (b : Bool) (h : i < length rs) (e : r ≡ get_or rs i r) (says : b ≡ t (g r)) where
  this : (c : Bool) → b ≡ c → list_any t (map g (drop i rs)) ≡ list_any t (map g rs) → (c || list_any t (map g (drop (i + 1) rs))) ≡ list_any t (map g rs)
  this c v inv = ap (λ x. x || list_any t (map g (drop (i + 1) rs))) (sym v ∙ says ∙ ap (λ x. t (g x)) e) ∙ ap (λ l. list_any t (map g l)) (sym (drop_more rs i r h)) ∙ inv

  pub named_found : b ≡ true → list_any t (map g (drop i rs)) ≡ list_any t (map g rs) → true ≡ list_any t (map g rs)
  named_found v inv = this true v inv

  pub named_passed : b ≡ false → list_any t (map g (drop i rs)) ≡ list_any t (map g rs) → list_any t (map g (drop (i + 1) rs)) ≡ list_any t (map g rs)
  named_passed v inv = this false v inv

pub named_end : {R S : Type 0} (g : R → S) (t : S → Bool) (rs : List R) (i : ℕ) → length rs ≤ i → list_any t (map g (drop i rs)) ≡ list_any t (map g rs) → false ≡ list_any t (map g rs)
named_end g t rs i h inv = ap (λ l. list_any t (map g l)) (sym (drop_all i rs h)) ∙ inv
