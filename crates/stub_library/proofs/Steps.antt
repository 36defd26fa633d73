-- Loops that mark numbers.
use Rattle.std.proofs.Common.{◌≡◌, ℕ, zero, suc, ◌+◌, ◌-◌, ◌<◌, ◌≤◌, Bool, true, false, true≢false, List, [], ◌∷◌, ◌++◌, length, take, drop, get_or, refl, sym, ap, subst, ◌∙◌, arith, add-one}
use Rattle.std.specs.Prelude.{◌&&◌, slice_set}
use Rattle.std.specs.Cmp.Lexicographic.{pointwise}
use Rattle.std.specs.List.{flat_map}
use Rattle.std.proofs.lemmas.List.{take_more, take_at, append-nil}
use Rattle.std.proofs.lemmas.Grind.{flat_map-append}
use Rattle.stub_library.specs.Marking.{set_all, up_to, round, rounds}

pub set_all-append : (on : Bool) (marks : List Bool) (ms ns : List ℕ) → set_all on marks (ms ++ ns) ≡ set_all on (set_all on marks ms) ns
set_all-append on marks [] ns = refl
set_all-append on marks (m ∷ ms) ns = set_all-append on (slice_set marks m on) ms ns

-- one more of a list of numbers
pub set_taken : (on : Bool) (old now new : List Bool) (ns : List ℕ) (i d : ℕ) → i < length ns → now ≡ set_all on old (take i ns) → new ≡ slice_set now (get_or ns i d) on → new ≡ set_all on old (take (i + 1) ns)
set_taken on old now new ns i d lt so_far step =
    step ∙ ap (λ m. slice_set m (get_or ns i d) on) so_far
    ∙ sym (set_all-append on old (take i ns) (get_or ns i d ∷ []))
    ∙ ap (set_all on old) (sym (take_more ns i d lt))

flat_one : {X : Type 0} (f : X → List ℕ) (xs : List X) (x : X) → flat_map f (xs ++ x ∷ []) ≡ flat_map f xs ++ f x
flat_one f xs x = flat_map-append f xs (x ∷ []) ∙ ap (λ l. flat_map f xs ++ l) (append-nil (f x))

-- what one more of a list brings along
pub flat_taken : {X : Type 0} (on : Bool) (f : X → List ℕ) (old now new : List Bool) (xs slice : List X) (i : ℕ) (x d : X) → slice ≡ xs → x ≡ get_or slice i d → i < length slice
    → now ≡ set_all on old (flat_map f (take i xs)) → new ≡ set_all on now (f x) → new ≡ set_all on old (flat_map f (take (i + 1) xs))
flat_taken on f old now new xs slice i x d same is lt so_far step =
    let more : take (i + 1) slice ≡ take i slice ++ x ∷ [] = take_more slice i d lt ∙ ap (λ y. take i slice ++ y ∷ []) (sym is) in
    let here : flat_map f (take (i + 1) xs) ≡ flat_map f (take i xs) ++ f x = subst (λ l. flat_map f (take (i + 1) l) ≡ flat_map f (take i l) ++ f x) same (ap (flat_map f) more ∙ flat_one f (take i slice) x) in
    step ∙ ap (λ m. set_all on m (f x)) so_far
    ∙ sym (set_all-append on old (flat_map f (take i xs)) (f x))
    ∙ ap (set_all on old) (sym here)

-- what one more number below a bound brings along
pub up_taken : (on : Bool) (f : ℕ → List ℕ) (old now new : List Bool) (i n : ℕ) → n ≡ i → now ≡ set_all on old (up_to f i) → new ≡ set_all on now (f n) → new ≡ set_all on old (up_to f (i + 1))
up_taken on f old now new i n e so_far step =
    step ∙ ap (λ m. set_all on m (f n)) so_far ∙ ap (λ k. set_all on (set_all on old (up_to f i)) (f k)) e
    ∙ sym (set_all-append on old (up_to f i) (f i))
    ∙ ap (λ k. set_all on old (up_to f k)) (sym (add-one i))

-- ---- a whole table

set_long : (on : Bool) (ms : List Bool) (x : ℕ) → length (slice_set ms x on) ≡ length ms
set_long on [] x = refl
set_long on (m ∷ ms) zero = refl
set_long on (m ∷ ms) (suc x) = ap suc (set_long on ms x)

pub all_long : (on : Bool) (ms : List Bool) (ns : List ℕ) → length (set_all on ms ns) ≡ length ms
all_long on ms [] = refl
all_long on ms (n ∷ ns) = all_long on (slice_set ms n on) ns ∙ set_long on ms n

-- what is written over a slice of the whole of a vector is what the vector has then
pub whole : (on : Bool) (old slice new : List Bool) (ns : List ℕ) (len : ℕ) → slice ≡ old → new ≡ set_all on slice ns → length old ≡ len → take len (new ++ drop (length new) old) ≡ set_all on old ns
whole on old slice new ns len same is long =
    let made : new ≡ set_all on old ns = is ∙ ap (λ ms. set_all on ms ns) same in
    take_at new (drop (length new) old) len (ap length made ∙ all_long on old ns ∙ long) ∙ made

-- the same of two writes
pub whole_twice : (old slice new : List Bool) (ms ns : List ℕ) (len : ℕ) → slice ≡ old → new ≡ set_all false (set_all false slice ms) ns → length old ≡ len
    → take len (new ++ drop (length new) old) ≡ set_all false (set_all false old ms) ns
whole_twice old slice new ms ns len same is long =
    whole false old slice new (ms ++ ns) len same (is ∙ sym (set_all-append false slice ms ns)) long ∙ set_all-append false old ms ns

-- ---- rounds

pub same_marks : (test : Bool → Bool → Bool) → test true false ≡ false → test false true ≡ false → (xs ys : List Bool) → pointwise test xs ys ≡ true → xs ≡ ys
same_marks test a b [] [] e = refl
same_marks test a b [] (y ∷ ys) e = absurd (true≢false (sym e))
same_marks test a b (x ∷ xs) [] e = absurd (true≢false (sym e))
same_marks test a b (x ∷ xs) (y ∷ ys) e = by x y (test x y) refl e (same_marks test a b xs ys)
  where
    by : (u v t : Bool) → test u v ≡ t → (t && pointwise test xs ys) ≡ true → (pointwise test xs ys ≡ true → xs ≡ ys) → u ∷ xs ≡ v ∷ ys
    by true true true f g more = ap (λ (l : List Bool). true ∷ l) (more g)
    by false false true f g more = ap (λ (l : List Bool). false ∷ l) (more g)
    by true false true f g more = absurd (true≢false (sym f ∙ a))
    by false true true f g more = absurd (true≢false (sym f ∙ b))
    by u v false f g more = absurd (true≢false (sym g))

still : (base : List Bool) (ps : List (ℕ × ℕ)) (n k : ℕ) → round base ps (rounds base ps n) ≡ rounds base ps n → rounds base ps (k + n) ≡ rounds base ps n
still base ps n zero e = ap (rounds base ps) (let z : 0 + n ≡ n = omega arith in z)
still base ps n (suc k) e = ap (rounds base ps) (let z : suc k + n ≡ suc (k + n) = omega arith in z) ∙ ap (round base ps) (still base ps n k e) ∙ e

-- where a round changes nothing, none after it does
pub rounds_still : (base : List Bool) (ps : List (ℕ × ℕ)) (marks next : List Bool) (done most : ℕ) → done ≤ most → marks ≡ rounds base ps done → next ≡ round base ps marks → next ≡ marks → marks ≡ rounds base ps most
rounds_still base ps marks next done most le is step same =
    let k = most - done in
    let e : k + done ≡ most = omega (arith, le) in
    let fixed : round base ps (rounds base ps done) ≡ rounds base ps done = ap (round base ps) (sym is) ∙ sym step ∙ same ∙ is in
    is ∙ sym (still base ps done k fixed) ∙ ap (rounds base ps) e
