-- Numbers by text.
use Rattle.std.proofs.Common.{◌≡◌, ℕ, zero, suc, ◌+◌, ◌<◌, ◌≤◌, inl, inr, Bool, true, false, true≢false, List, [], ◌∷◌, ◌++◌, length, Option, Some, None, refl, sym, ap, subst, ◌∙◌, arith, add-one}
use Rattle.std.specs.Prelude.{cond, slice_get, ◌⊎◌}
use Rattle.std.specs.Cmp.Lexicographic.{bytes_decides}
use Rattle.std.proofs.lemmas.List.{append_assoc, append-nil}
use Rattle.stub_library.specs.Listing.{same_text, number_of, last_below, all_below, AreListed}
use Rattle.stub_library.specs.declared.listed.Listed.{Listed}

pub text_same : (t : List ℕ) → same_text t t ≡ true
text_same t = (bytes_decides t t).1 refl

pub text_is : (t u : List ℕ) → same_text t u ≡ true → t ≡ u
text_is t u = (bytes_decides t u).0

-- ---- one more of a list

pub got_front : {X : Type 0} (xs ys : List X) (i : ℕ) → i < length xs → slice_get (xs ++ ys) i ≡ slice_get xs i
got_front [] ys i lt = absurd (omega (arith, lt))
got_front (x ∷ xs) ys zero lt = refl
got_front (x ∷ xs) ys (suc i) lt = got_front xs ys i (omega (arith, lt))

pub got_last : {X : Type 0} (xs : List X) (y : X) → slice_get (xs ++ y ∷ []) (length xs) ≡ Some y
got_last [] y = refl
got_last (x ∷ xs) y = got_last xs y

pub one_longer : {X : Type 0} (xs : List X) (y : X) → length (xs ++ y ∷ []) ≡ length xs + 1
one_longer [] y = refl
one_longer (x ∷ xs) y = let z = one_longer xs y in omega (arith, z)

pub before_or_at : (i n : ℕ) → i < n + 1 → (i < n) ⊎ (i ≡ n)
before_or_at zero zero lt = inr refl
before_or_at zero (suc n) lt = inl (omega arith)
before_or_at (suc i) zero lt = absurd (omega (arith, lt))
before_or_at (suc i) (suc n) lt = elim (before_or_at i n (omega (arith, lt))) [ inl l ↦ inl (omega (arith, l)) | inr e ↦ inr (ap suc e) ]

-- ---- adding

module _ (texts : ℕ → List ℕ) (n : ℕ) (old new : Listed) (text : List ℕ) (number : ℕ) (earlier : Option ℕ) (are : AreListed texts n old) (is : texts n ≡ text) (at : number ≡ n)
    (put : (t : List ℕ) → number_of new.last t ≡ cond (same_text text t) (Some number) (number_of old.last t)) (was : earlier ≡ number_of old.last text)
    (pushed : new.before.items ≡ old.before.items ++ earlier ∷ []) where
  here : slice_get new.before.items n ≡ Some (last_below texts (texts n) n)
  here = ap (λ xs. slice_get xs n) pushed ∙ ap (slice_get (old.before.items ++ earlier ∷ [])) (sym are.size) ∙ got_last old.before.items earlier ∙ ap (λ o. Some o) (was ∙ are.last text ∙ ap (λ t. last_below texts t n) (sym is))

  front : (i : ℕ) → i < n → slice_get new.before.items i ≡ Some (last_below texts (texts i) i)
  front i lt = ap (λ xs. slice_get xs i) pushed ∙ got_front old.before.items (earlier ∷ []) i (let s = are.size in omega (arith, lt, s)) ∙ are.before i lt

  pub listed_more : AreListed texts (n + 1) new
  listed_more = record {
    last = λ t. put t ∙ ap (λ u. cond (same_text u t) (Some number) (number_of old.last t)) (sym is) ∙ ap (λ m. cond (same_text (texts n) t) (Some m) (number_of old.last t)) at
        ∙ ap (cond (same_text (texts n) t) (Some n)) (are.last t) ∙ ap (last_below texts t) (sym (add-one n));
    size = ap length pushed ∙ one_longer old.before.items earlier ∙ ap (λ m. m + 1) are.size;
    before = λ i lt. elim (before_or_at i n lt) [
      | inl l ↦ front i l
      | inr e ↦ subst (λ j. slice_get new.before.items j ≡ Some (last_below texts (texts j) j)) (sym e) here
    ];
  }

-- ---- going through

pub record FoundLast (texts : ℕ → List ℕ) (t : List ℕ) (bound number : ℕ) : Type 0 where
  pub short : number < bound
  pub same : texts number ≡ t
  pub all : all_below texts t bound ≡ number ∷ all_below texts t number

pub found_last : (texts : ℕ → List ℕ) (t : List ℕ) (bound number : ℕ) → last_below texts t bound ≡ Some number → FoundLast texts t bound number
found_last texts t zero number e = cc
found_last texts t (suc b) number e = by (same_text (texts b) t) refl e (found_last texts t b number)
  where
    by : (c : Bool) → same_text (texts b) t ≡ c → cond c (Some b) (last_below texts t b) ≡ Some number → (last_below texts t b ≡ Some number → FoundLast texts t b number) → FoundLast texts t (suc b) number
    by true f g more =
        let z : b ≡ number = cc in
        record {
          short = omega (arith, z);
          same = ap texts (sym z) ∙ text_is (texts b) t f;
          all = ap (λ c. cond c (b ∷ all_below texts t b) (all_below texts t b)) f ∙ ap (λ m. m ∷ all_below texts t m) z;
        }
    by false f g more =
        let r = more g in
        record {
          short = (let s = r.short in omega (arith, s));
          same = r.same;
          all = ap (λ c. cond c (b ∷ all_below texts t b) (all_below texts t b)) f ∙ r.all;
        }

pub none_below : (texts : ℕ → List ℕ) (t : List ℕ) (bound : ℕ) → last_below texts t bound ≡ None → all_below texts t bound ≡ []
none_below texts t zero e = refl
none_below texts t (suc b) e = by (same_text (texts b) t) refl e (none_below texts t b)
  where
    by : (c : Bool) → same_text (texts b) t ≡ c → cond c (Some b) (last_below texts t b) ≡ None → (last_below texts t b ≡ None → all_below texts t b ≡ []) → all_below texts t (suc b) ≡ []
    by true f g more = cc
    by false f g more = ap (λ c. cond c (b ∷ all_below texts t b) (all_below texts t b)) f ∙ more g

-- the numbers with a text that are still to come
pub record Walked (texts : ℕ → List ℕ) (t : List ℕ) (n : ℕ) (at : Option ℕ) (out : List ℕ) (done : ℕ) : Type 0 where
  pub bound : ℕ
  pub few : bound + done ≤ n
  pub at_is : at ≡ last_below texts t bound
  pub rest : out ++ all_below texts t bound ≡ all_below texts t n

pub walked_none : (texts : ℕ → List ℕ) (t : List ℕ) (n : ℕ) (at : Option ℕ) → at ≡ last_below texts t n → Walked texts t n at [] 0
walked_none texts t n at e = record { bound = n; few = omega arith; at_is = e; rest = refl }

pub walked_short : (texts : ℕ → List ℕ) (t : List ℕ) (n number : ℕ) (out : List ℕ) (done : ℕ) → Walked texts t n (Some number) out done → number < n
walked_short texts t n number out done w = let f = found_last texts t w.bound number (sym w.at_is) in let s = f.short in let l = w.few in omega (arith, s, l)

pub walked_same : (texts : ℕ → List ℕ) (t : List ℕ) (n number : ℕ) (out : List ℕ) (done : ℕ) → Walked texts t n (Some number) out done → texts number ≡ t
walked_same texts t n number out done w = (found_last texts t w.bound number (sym w.at_is)).same

pub walked_more : (texts : ℕ → List ℕ) (t : List ℕ) (n number : ℕ) (out : List ℕ) (done : ℕ) (next : Option ℕ) (more : List ℕ) → Walked texts t n (Some number) out done
    → next ≡ last_below texts (texts number) number → more ≡ out ++ number ∷ [] → Walked texts t n next more (done + 1)
walked_more texts t n number out done next more w e pushed =
    let f = found_last texts t w.bound number (sym w.at_is) in
    let s = f.short in
    let l = w.few in
    record {
      bound = number;
      few = omega (arith, s, l);
      at_is = e ∙ ap (λ u. last_below texts u number) f.same;
      rest = ap (λ xs. xs ++ all_below texts t number) pushed ∙ append_assoc out (number ∷ []) (all_below texts t number) ∙ ap (λ xs. out ++ xs) (sym f.all) ∙ w.rest;
    }

pub walked_out : (texts : ℕ → List ℕ) (t : List ℕ) (n : ℕ) (out : List ℕ) (done : ℕ) → Walked texts t n None out done → out ≡ all_below texts t n
walked_out texts t n out done w = sym (append-nil out) ∙ ap (λ xs. out ++ xs) (sym (none_below texts t w.bound (sym w.at_is))) ∙ w.rest

pub walked_all : (texts : ℕ → List ℕ) (t : List ℕ) (n : ℕ) (at : Option ℕ) (out : List ℕ) (done : ℕ) → n ≤ done → Walked texts t n at out done → out ≡ all_below texts t n
walked_all texts t n at out done le w =
    let l = w.few in
    let z : w.bound ≡ 0 = omega (arith, l, le) in
    sym (append-nil out) ∙ ap (λ b. out ++ all_below texts t b) (sym z) ∙ w.rest
