-- Keys for pairs of numbers.
use Rattle.std.proofs.Common.{◌≡◌, ℕ, zero, suc, ◌+◌, ◌-◌, ◌^◌, ◌<◌, ◌≤◌, ◌⊎◌, inl, inr, Bool, true, false, true≢false, nat_eq, List, [], ◌∷◌, ◌++◌, length, Some, refl, sym, ap, subst, ◌∙◌, arith}
use Rattle.std.proofs.lemmas.List.{length_push}
use Rattle.std.specs.Prelude.{◌&&◌, ◌||◌, not, cond, slice_get, slice_index_or, if◌then◌else◌}
use Rattle.std.specs.List.{list_any, position_or_len}
use Rattle.indexmap.specs.IndexSet.{insert_key}
use Rattle.class_defs.proofs.Positions.{number_test, number_of}
use Rattle.class_defs.proofs.WellFormed.{and_left, and_right}
use Rattle.hierarchy.specs.Membership.{key_at, same_pair, AreKeys}
use Rattle.hierarchy.proofs.Indexed.{AtPlace}

pub same_of : (a b : ℕ × ℕ) → same_pair a b ≡ true → a ≡ b
same_of a b e =
    let f : a.0 ≡ b.0 = number_of a.0 b.0 (and_left (nat_eq a.0 b.0) (nat_eq a.1 b.1) e) in
    let g : a.1 ≡ b.1 = number_of a.1 b.1 (and_right (nat_eq a.0 b.0) (nat_eq a.1 b.1) e) in
    ap (λ (n : ℕ). (n, a.1)) f ∙ ap (λ (n : ℕ). (b.0, n)) g

pub same_itself : (a : ℕ × ℕ) → same_pair a a ≡ true
same_itself a = ap (λ t. t && nat_eq a.1 a.1) (number_test a.0 a.0 refl) ∙ number_test a.1 a.1 refl

pub got_short : {X : Type 0} (xs : List X) (i : ℕ) (x : X) → slice_get xs i ≡ Some x → i < length xs
got_short [] i x e = cc
got_short (z ∷ zs) zero x e = omega arith
got_short (z ∷ zs) (suc i) x e = let h = got_short zs i x e in omega arith

got_left : {X : Type 0} (xs ys : List X) (i : ℕ) (x : X) → slice_get xs i ≡ Some x → slice_get (xs ++ ys) i ≡ Some x
got_left [] ys i x e = cc
got_left (z ∷ zs) ys zero x e = e
got_left (z ∷ zs) ys (suc i) x e = got_left zs ys i x e

got_last : {X : Type 0} (xs : List X) (y x : X) (j : ℕ) → slice_get (xs ++ y ∷ []) j ≡ Some x → (slice_get xs j ≡ Some x) ⊎ ((j ≡ length xs) × (x ≡ y))
got_last [] y x zero e = inr (refl, (let s : y ≡ x = cc in sym s))
got_last [] y x (suc j) e = cc
got_last (z ∷ zs) y x zero e = inl e
got_last (z ∷ zs) y x (suc j) e = elim (got_last zs y x j e) [ inl f ↦ inl f | inr f ↦ inr (ap suc f.0, f.1) ]

-- each pair stands once
pub record StandOnce (known : List (ℕ × ℕ)) : Type 0 where
  pub once : (i j : ℕ) (q : ℕ × ℕ) → slice_get known i ≡ Some q → slice_get known j ≡ Some q → i ≡ j

unknown : (known : List (ℕ × ℕ)) (q : ℕ × ℕ) (i : ℕ) → list_any (same_pair q) known ≡ false → slice_get known i ≡ Some q → ⊥
unknown [] q i h e = cc
unknown (x ∷ xs) q zero h e = by_test (same_pair q x) refl h
  where
    by_test : (b : Bool) → same_pair q x ≡ b → (b || list_any (same_pair q) xs) ≡ false → ⊥
    by_test true f g = true≢false g
    by_test false f g = let s : x ≡ q = cc in true≢false (sym (same_itself q) ∙ ap (same_pair q) (sym s) ∙ f)
unknown (x ∷ xs) q (suc i) h e = by_test (same_pair q x) h (λ g. unknown xs q i g e)
  where
    by_test : (b : Bool) → (b || list_any (same_pair q) xs) ≡ false → (list_any (same_pair q) xs ≡ false → ⊥) → ⊥
    by_test true g rest = true≢false g
    by_test false g rest = rest g

-- where a known pair stands
stands_at : (known : List (ℕ × ℕ)) (q : ℕ × ℕ) → list_any (same_pair q) known ≡ true → slice_get known (position_or_len (same_pair q) known) ≡ Some q
stands_at [] q h = absurd (true≢false (sym h))
stands_at (x ∷ xs) q h = by_test (same_pair q x) refl h (λ g. stands_at xs q g)
  where
    by_test : (b : Bool) → same_pair q x ≡ b → (b || list_any (same_pair q) xs) ≡ true → (list_any (same_pair q) xs ≡ true → slice_get xs (position_or_len (same_pair q) xs) ≡ Some q) → slice_get (x ∷ xs) (cond (not b) (1 + position_or_len (same_pair q) xs) 0) ≡ Some q
    by_test true f g rest = ap (λ y. Some y) (sym (same_of q x f))
    by_test false f g rest = ap (slice_get (x ∷ xs)) (let e : 1 + position_or_len (same_pair q) xs ≡ suc (position_or_len (same_pair q) xs) = omega arith in e) ∙ rest g

stands_last : (known : List (ℕ × ℕ)) (q : ℕ × ℕ) → list_any (same_pair q) known ≡ false → slice_get (known ++ q ∷ []) (position_or_len (same_pair q) known) ≡ Some q
stands_last [] q h = refl
stands_last (x ∷ xs) q h = by_test (same_pair q x) refl h (λ g. stands_last xs q g)
  where
    by_test : (b : Bool) → same_pair q x ≡ b → (b || list_any (same_pair q) xs) ≡ false → (list_any (same_pair q) xs ≡ false → slice_get (xs ++ q ∷ []) (position_or_len (same_pair q) xs) ≡ Some q) → slice_get (x ∷ xs ++ q ∷ []) (cond (not b) (1 + position_or_len (same_pair q) xs) 0) ≡ Some q
    by_test true f g rest = absurd (true≢false g)
    by_test false f g rest = ap (slice_get (x ∷ xs ++ q ∷ [])) (let e : 1 + position_or_len (same_pair q) xs ≡ suc (position_or_len (same_pair q) xs) = omega arith in e) ∙ rest g

-- what inserting a pair does
pub record Inserted (known more : List (ℕ × ℕ)) (q : ℕ × ℕ) (key : ℕ) : Type 0 where
  pub there : slice_get more key ≡ Some q
  pub stay : (i : ℕ) (x : ℕ × ℕ) → slice_get known i ≡ Some x → slice_get more i ≡ Some x
  pub longer : length more ≤ length known + 1
  pub once : StandOnce more

pub inserted : (known : List (ℕ × ℕ)) (q : ℕ × ℕ) → StandOnce known → Inserted known (insert_key same_pair known q) q (position_or_len (same_pair q) known)
inserted known q s = by_test (list_any (same_pair q) known) refl
  where
    by_test : (b : Bool) → list_any (same_pair q) known ≡ b → Inserted known (if b then known else known ++ q ∷ []) q (position_or_len (same_pair q) known)
    by_test true e = record { there = stands_at known q e; stay = λ i x f. f; longer = omega arith; once = s }
    by_test false e = record {
      there = stands_last known q e;
      stay = λ i x f. got_left known (q ∷ []) i x f;
      longer = omega (arith, length_push known q);
      once = record { once = λ i j x f g. both i j x (got_last known q x i f) (got_last known q x j g) };
    }
      where
        both : (i j : ℕ) (x : ℕ × ℕ) → (slice_get known i ≡ Some x) ⊎ ((i ≡ length known) × (x ≡ q)) → (slice_get known j ≡ Some x) ⊎ ((j ≡ length known) × (x ≡ q)) → i ≡ j
        both i j x (inl f) (inl g) = s.once i j x f g
        both i j x (inl f) (inr g) = absurd (unknown known q i e (f ∙ ap (λ y. Some y) g.1))
        both i j x (inr f) (inl g) = absurd (unknown known q j e (g ∙ ap (λ y. Some y) f.1))
        both i j x (inr f) (inr g) = f.0 ∙ sym g.0

-- ---- so many entries have their keys

pub record KeyedSoFar {X : Type 0} (pair : X → ℕ × ℕ) (entries : List X) (known : List (ℕ × ℕ)) (keys : List ℕ) (done : ℕ) : Type 0 where
  pub long : length keys ≡ done
  pub few : length known ≤ done
  pub at : (i : ℕ) (x : X) → i < done → slice_get entries i ≡ Some x → slice_get known (key_at keys i) ≡ Some (pair x)
  pub once : StandOnce known

pub keyed_none : {X : Type 0} (pair : X → ℕ × ℕ) (entries : List X) → KeyedSoFar pair entries [] [] 0
keyed_none pair entries = record { long = refl; few = omega arith; at = λ i x lt e. absurd (omega (arith, lt)); once = record { once = λ i j q f g. cc } }

push_get : (keys : List ℕ) (key i d : ℕ) → (i < length keys) → slice_index_or (keys ++ key ∷ []) i d ≡ slice_index_or keys i d
push_get [] key i d lt = absurd (omega (arith, lt))
push_get (x ∷ xs) key zero d lt = refl
push_get (x ∷ xs) key (suc i) d lt = push_get xs key i d (omega (arith, lt))

push_here : (keys : List ℕ) (key d : ℕ) → slice_index_or (keys ++ key ∷ []) (length keys) d ≡ key
push_here [] key d = refl
push_here (x ∷ xs) key d = push_here xs key d

before_or_here : (i n : ℕ) → i < n + 1 → (i < n) ⊎ (i ≡ n)
before_or_here zero zero lt = inr refl
before_or_here zero (suc n) lt = inl (omega arith)
before_or_here (suc i) zero lt = absurd (omega (arith, lt))
before_or_here (suc i) (suc n) lt = elim (before_or_here i n (omega (arith, lt))) [ inl l ↦ inl (omega (arith, l)) | inr e ↦ inr (ap suc e) ]

pub keyed_more : {X : Type 0} (pair : X → ℕ × ℕ) (entries : List X) (known more : List (ℕ × ℕ)) (keys keys' : List ℕ) (done key word : ℕ) (x : X) → length entries < 2 ^ 32 - 1 → AtPlace entries done x → KeyedSoFar pair entries known keys done
    → more ≡ insert_key same_pair known (pair x) → key ≡ position_or_len (same_pair (pair x)) known → (key < 2 ^ 32 → word ≡ key) → keys' ≡ keys ++ word ∷ [] → KeyedSoFar pair entries more keys' (done + 1)
keyed_more pair entries known more keys keys' done key word x small p k is is_key is_word pushed =
    let ins : Inserted known more (pair x) key = subst (λ n. Inserted known more (pair x) n) (sym is_key) (subst (λ l. Inserted known l (pair x) (position_or_len (same_pair (pair x)) known)) (sym is) (inserted known (pair x) k.once)) in
    let short = got_short more key (pair x) ins.there in
    let word_is : word ≡ key = is_word (omega (arith, short, ins.longer, k.few, p.short, small)) in
    record {
      long = omega (arith, ap length pushed, length_push keys word, k.long);
      few = omega (arith, ins.longer, k.few);
      at = λ i y lt e. elim (before_or_here i done lt) [
        | inl l ↦ ap (slice_get more) (ap (λ ks. key_at ks i) pushed ∙ push_get keys word i 4294967295 (omega (arith, l, k.long))) ∙ ins.stay (key_at keys i) (pair y) (k.at i y l e)
        | inr s ↦ ap (slice_get more) (ap (λ ks. key_at ks i) pushed ∙ ap (slice_index_or (keys ++ word ∷ []) i) {x = 4294967295} refl ∙ ap (λ n. slice_index_or (keys ++ word ∷ []) n 4294967295) (s ∙ sym k.long) ∙ push_here keys word 4294967295 ∙ word_is)
            ∙ ins.there ∙ ap (λ z. Some (pair z)) (let z : Some x ≡ Some y = sym p.got ∙ ap (slice_get entries) (sym s) ∙ e in let w : x ≡ y = cc in w)
      ];
      once = ins.once;
    }

pub all_keyed : {X : Type 0} (pair : X → ℕ × ℕ) (entries : List X) (known : List (ℕ × ℕ)) (keys : List ℕ) (done count : ℕ) → length entries < 2 ^ 32 - 1 → length entries ≤ done → done ≤ length entries → count ≡ length known → KeyedSoFar pair entries known keys done → AreKeys pair entries keys count
all_keyed pair entries known keys done count small all within counted k = record {
  long = omega (arith, k.long, all, within);
  small = small;
  few = omega (arith, counted, k.few, within);
  below = λ i x e. omega (arith, counted, got_short known (key_at keys i) (pair x) (k.at i x (before i x e) e));
  one = λ i j x y e f s. let z : Some (pair x) ≡ Some (pair y) = sym (k.at i x (before i x e) e) ∙ ap (slice_get known) s ∙ k.at j y (before j y f) f in let w : pair x ≡ pair y = cc in w;
  same = λ i j x y e f s. k.once.once (key_at keys i) (key_at keys j) (pair y) (k.at i x (before i x e) e ∙ ap (λ q. Some q) s) (k.at j y (before j y f) f);
}
  where
    before : (i : ℕ) (x : _) → slice_get entries i ≡ Some x → i < done
    before i x e = let l = got_short entries i x e in omega (arith, l, all)
