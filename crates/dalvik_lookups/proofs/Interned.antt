-- Texts that are kept once each, in the order of their first coming.
use Rattle.std.proofs.Common.{◌≡◌, ℕ, zero, suc, ◌+◌, ◌<◌, ◌⊎◌, inl, inr, Bool, true, false, true≢false, List, [], ◌∷◌, ◌++◌, map, length, Some, refl, sym, ap, subst, ◌∙◌, arith, get_or, take}
use Rattle.std.proofs.lemmas.List.{map_push, take_more}
use Rattle.std.specs.Prelude.{◌||◌, not, cond, slice_get, if◌then◌else◌, None, fold, position}
use Rattle.std.specs.Cmp.Lexicographic.{bytes_decides}
use Rattle.std.specs.List.{list_any, position_or_len}
use Rattle.indexmap.specs.IndexSet.{insert_key}
use Rattle.class_defs.proofs.Positions.{FirstPlace, place_entry, place_first}
use Rattle.dalvik_defs.specs.Names.{Text, text_eq}
use Rattle.dalvik_lookups.specs.Views.{text_in, insert_text, StandOnce, Stays}

pub text_same : (t : Text) → text_eq t t ≡ true
text_same t = (bytes_decides t t).1 refl

pub text_sound : (t u : Text) → text_eq t u ≡ true → t ≡ u
text_sound t u = (bytes_decides t u).0

pub got_short : {X : Type 0} (xs : List X) (i : ℕ) (x : X) → slice_get xs i ≡ Some x → i < length xs
got_short [] i x e = cc
got_short (z ∷ zs) zero x e = omega arith
got_short (z ∷ zs) (suc i) x e = let h = got_short zs i x e in omega arith

pub got_left : {X : Type 0} (xs ys : List X) (i : ℕ) (x : X) → slice_get xs i ≡ Some x → slice_get (xs ++ ys) i ≡ Some x
got_left [] ys i x e = cc
got_left (z ∷ zs) ys zero x e = e
got_left (z ∷ zs) ys (suc i) x e = got_left zs ys i x e

pub got_last : {X : Type 0} (xs : List X) (y x : X) (j : ℕ) → slice_get (xs ++ y ∷ []) j ≡ Some x → (slice_get xs j ≡ Some x) ⊎ ((j ≡ length xs) × (x ≡ y))
got_last [] y x zero e = inr (refl, (let s : y ≡ x = cc in sym s))
got_last [] y x (suc j) e = cc
got_last (z ∷ zs) y x zero e = inl e
got_last (z ∷ zs) y x (suc j) e = elim (got_last zs y x j e) [ inl f ↦ inl f | inr f ↦ inr (ap suc f.0, f.1) ]

-- a number below the length has an entry
pub entry_in : (ts : List Text) (i : ℕ) → i < length ts → slice_get ts i ≡ Some (text_in ts i)
entry_in [] i h = absurd (omega (arith, h))
entry_in (t ∷ ts) zero h = refl
entry_in (t ∷ ts) (suc i) h = entry_in ts i (omega (arith, h))

pub entry_is : (ts : List Text) (i : ℕ) (x : Text) → slice_get ts i ≡ Some x → text_in ts i ≡ x
entry_is [] i x e = cc
entry_is (t ∷ ts) zero x e = cc
entry_is (t ∷ ts) (suc i) x e = entry_is ts i x e

-- numbers of one text are equal
pub same_number : (ts : List Text) → StandOnce ts → (i j : ℕ) → i < length ts → j < length ts → text_in ts i ≡ text_in ts j → i ≡ j
same_number ts o i j h k e = o.once i j (text_in ts j) (entry_in ts i h ∙ ap (λ t. Some t) e) (entry_in ts j k)

pub stays_same : (ts : List Text) → Stays ts ts
stays_same ts = record { stays = λ i x e. e }

pub stays_on : (ts us vs : List Text) → Stays ts us → Stays us vs → Stays ts vs
stays_on ts us vs h k = record { stays = λ i x e. k.stays i x (h.stays i x e) }

-- what stays keeps its text
pub stays_in : (ts us : List Text) → Stays ts us → (i : ℕ) → i < length ts → text_in us i ≡ text_in ts i
stays_in ts us s i h = entry_is us i (text_in ts i) (s.stays i (text_in ts i) (entry_in ts i h))

pub stays_below : (ts us : List Text) → Stays ts us → (i : ℕ) → i < length ts → i < length us
stays_below ts us s i h = got_short us i (text_in ts i) (s.stays i (text_in ts i) (entry_in ts i h))

-- ---- adding a text

abbrev pub place_of_text : List Text → Text → ℕ
place_of_text ts q = position_or_len (text_eq q) ts

unknown : (known : List Text) (q : Text) (i : ℕ) → list_any (text_eq q) known ≡ false → slice_get known i ≡ Some q → ⊥
unknown [] q i h e = cc
unknown (x ∷ xs) q zero h e = by_test (text_eq q x) refl h
  where
    by_test : (b : Bool) → text_eq q x ≡ b → (b || list_any (text_eq q) xs) ≡ false → ⊥
    by_test true f g = true≢false g
    by_test false f g = let s : x ≡ q = cc in true≢false (sym (text_same q) ∙ ap (text_eq q) (sym s) ∙ f)
unknown (x ∷ xs) q (suc i) h e = by_test (text_eq q x) h (λ g. unknown xs q i g e)
  where
    by_test : (b : Bool) → (b || list_any (text_eq q) xs) ≡ false → (list_any (text_eq q) xs ≡ false → ⊥) → ⊥
    by_test true g rest = true≢false g
    by_test false g rest = rest g

stands_at : (known : List Text) (q : Text) → list_any (text_eq q) known ≡ true → slice_get known (place_of_text known q) ≡ Some q
stands_at [] q h = absurd (true≢false (sym h))
stands_at (x ∷ xs) q h = by_test (text_eq q x) refl h (λ g. stands_at xs q g)
  where
    by_test : (b : Bool) → text_eq q x ≡ b → (b || list_any (text_eq q) xs) ≡ true → (list_any (text_eq q) xs ≡ true → slice_get xs (place_of_text xs q) ≡ Some q) → slice_get (x ∷ xs) (cond (not b) (1 + place_of_text xs q) 0) ≡ Some q
    by_test true f g rest = ap (λ y. Some y) (sym (text_sound q x f))
    by_test false f g rest = ap (slice_get (x ∷ xs)) (let e : 1 + place_of_text xs q ≡ suc (place_of_text xs q) = omega arith in e) ∙ rest g

stands_last : (known : List Text) (q : Text) → list_any (text_eq q) known ≡ false → slice_get (known ++ q ∷ []) (place_of_text known q) ≡ Some q
stands_last [] q h = refl
stands_last (x ∷ xs) q h = by_test (text_eq q x) refl h (λ g. stands_last xs q g)
  where
    by_test : (b : Bool) → text_eq q x ≡ b → (b || list_any (text_eq q) xs) ≡ false → (list_any (text_eq q) xs ≡ false → slice_get (xs ++ q ∷ []) (place_of_text xs q) ≡ Some q) → slice_get (x ∷ xs ++ q ∷ []) (cond (not b) (1 + place_of_text xs q) 0) ≡ Some q
    by_test true f g rest = absurd (true≢false g)
    by_test false f g rest = ap (slice_get (x ∷ xs ++ q ∷ [])) (let e : 1 + place_of_text xs q ≡ suc (place_of_text xs q) = omega arith in e) ∙ rest g

-- what adding a text does
pub record Inserted (known more : List Text) (q : Text) (key : ℕ) : Type 0 where
  pub there : slice_get more key ≡ Some q
  pub stays : Stays known more
  pub once : StandOnce more

pub inserted_text : (known : List Text) (q : Text) → StandOnce known → Inserted known (insert_text known q) q (place_of_text known q)
inserted_text known q s = by_test (list_any (text_eq q) known) refl
  where
    by_test : (b : Bool) → list_any (text_eq q) known ≡ b → Inserted known (if b then known else known ++ q ∷ []) q (place_of_text known q)
    by_test true e = record { there = stands_at known q e; stays = stays_same known; once = s }
    by_test false e = record {
      there = stands_last known q e;
      stays = record { stays = λ i x f. got_left known (q ∷ []) i x f };
      once = record { once = λ i j x f g. both i j x (got_last known q x i f) (got_last known q x j g) };
    }
      where
        both : (i j : ℕ) (x : Text) → (slice_get known i ≡ Some x) ⊎ ((i ≡ length known) × (x ≡ q)) → (slice_get known j ≡ Some x) ⊎ ((j ≡ length known) × (x ≡ q)) → i ≡ j
        both i j x (inl f) (inl g) = s.once i j x f g
        both i j x (inl f) (inr g) = absurd (unknown known q i e (f ∙ ap (λ y. Some y) g.1))
        both i j x (inr f) (inl g) = absurd (unknown known q j e (g ∙ ap (λ y. Some y) f.1))
        both i j x (inr f) (inr g) = f.0 ∙ sym g.0

-- ---- the same where the texts stand behind something else

module _ {B : Type 0} (now : B → Text) (eq : B → B → Bool) (same : (a b : B) → eq a b ≡ text_eq (now a) (now b)) where
  pub known_any : (known : List B) (q : B) → list_any (eq q) known ≡ list_any (text_eq (now q)) (map now known)
  known_any [] q = refl
  known_any (x ∷ xs) q = ap (λ b. b || list_any (eq q) xs) (same q x) ∙ ap (λ b. text_eq (now q) (now x) || b) (known_any xs q)

  pub known_place : (known : List B) (q : B) → position_or_len (eq q) known ≡ place_of_text (map now known) (now q)
  known_place [] q = refl
  known_place (x ∷ xs) q = ap (λ b. cond (not b) (1 + position_or_len (eq q) xs) 0) (same q x) ∙ ap (λ n. cond (not (text_eq (now q) (now x))) (1 + n) 0) (known_place xs q)

  pub known_more : (known : List B) (q : B) → map now (insert_key eq known q) ≡ insert_text (map now known) (now q)
  known_more known q = by_test (list_any (eq q) known) ∙ ap (λ b. if b then map now known else map now known ++ now q ∷ []) (known_any known q)
    where
      by_test : (b : Bool) → map now (if b then known else known ++ q ∷ []) ≡ (if b then map now known else map now known ++ now q ∷ [])
      by_test true = refl
      by_test false = map_push now known q

  -- adding one
  pub added_text : (known more : List B) (q : B) (n : ℕ) → StandOnce (map now known) → more ≡ insert_key eq known q → n ≡ position_or_len (eq q) known → Inserted (map now known) (map now more) (now q) n
  added_text known more q n s m p = subst (λ us. Inserted (map now known) us (now q) n) (sym (ap (map now) m ∙ known_more known q))
      (subst (λ k. Inserted (map now known) (insert_text (map now known) (now q)) (now q) k) (sym (p ∙ known_place known q)) (inserted_text (map now known) (now q) s))

  pub more_is : (known more : List B) (q : B) → more ≡ insert_key eq known q → map now more ≡ insert_text (map now known) (now q)
  more_is known more q m = ap (map now) m ∙ known_more known q

  -- one that wasn't there stands last
  pub stands_behind : (known more : List B) (q : B) → more ≡ insert_key eq known q → list_any (eq q) known ≡ false → map now more ≡ map now known ++ now q ∷ []
  stands_behind known more q m e = ap (map now) (m ∙ ap (λ b. if b then known else known ++ q ∷ []) e) ∙ map_push now known q

  pub stands_there : (known more : List B) (q : B) → more ≡ insert_key eq known q → list_any (eq q) known ≡ true → map now more ≡ map now known
  stands_there known more q m e = ap (map now) (m ∙ ap (λ b. if b then known else known ++ q ∷ []) e)

  -- where one stands
  pub found_there : (known : List B) (q : B) (n : ℕ) → position (eq q) known ≡ Some n → slice_get (map now known) n ≡ Some (now q)
  found_there known q n e = let r = place_entry (eq q) known n e in got_map known n r.entry r.is ∙ ap (λ t. Some t) (sym (text_sound (now q) (now r.entry) (sym (same q r.entry) ∙ r.passes)))
    where
      got_map : (xs : List B) (i : ℕ) (x : B) → slice_get xs i ≡ Some x → slice_get (map now xs) i ≡ Some (now x)
      got_map [] i x f = cc
      got_map (y ∷ ys) zero x f = let g : y ≡ x = cc in ap (λ z. Some (now z)) g
      got_map (y ∷ ys) (suc i) x f = got_map ys i x f

  record Behind (xs : List B) (q : B) (i : ℕ) : Type 0 where
    entry : B
    is : slice_get xs i ≡ Some entry
    passes : eq q entry ≡ true

  pub found_nowhere : (known : List B) (q : B) → position (eq q) known ≡ None → (n : ℕ) → slice_get (map now known) n ≡ Some (now q) → ⊥
  found_nowhere known q e n f =
      let r : Behind known q n = entry_behind known n f in
      let p : FirstPlace (eq q) known n = place_first (eq q) known n r.entry r.is r.passes in
      let g : None ≡ Some p.place = sym e ∙ p.is in
      cc
    where
      entry_behind : (xs : List B) (i : ℕ) → slice_get (map now xs) i ≡ Some (now q) → Behind xs q i
      entry_behind [] i f = cc
      entry_behind (y ∷ ys) zero f = let g : now y ≡ now q = cc in record { entry = y; is = refl; passes = same q y ∙ ap (text_eq (now q)) g ∙ text_same (now q) }
      entry_behind (y ∷ ys) (suc i) f = let r = entry_behind ys i f in record { entry = r.entry; is = r.is; passes = r.passes }

  -- all of a list, one after the other
  pub texts_added : (start : List Text) (us : List B) (i : ℕ) (d : B) → i < length us → insert_text (fold insert_text start (map now (take i us))) (now (get_or us i d)) ≡ fold insert_text start (map now (take (i + 1) us))
  texts_added start us i d h = sym (ap (λ vs. fold insert_text start (map now vs)) (take_more us i d h) ∙ ap (fold insert_text start) (map_push now (take i us) (get_or us i d)) ∙ fold_last (map now (take i us)) start (now (get_or us i d)))
    where
      fold_last : (vs ws : List Text) (u : Text) → fold insert_text ws (vs ++ u ∷ []) ≡ insert_text (fold insert_text ws vs) u
      fold_last [] ws u = refl
      fold_last (v ∷ vs) ws u = fold_last vs (insert_text ws v) u

  pub texts_more : (start here next : List Text) (us : List B) (i : ℕ) (d : B) → i < length us → next ≡ insert_text here (now (get_or us i d)) → here ≡ fold insert_text start (map now (take i us)) → next ≡ fold insert_text start (map now (take (i + 1) us))
  texts_more start here next us i d h n e = n ∙ ap (λ ts. insert_text ts (now (get_or us i d))) e ∙ texts_added start us i d h
