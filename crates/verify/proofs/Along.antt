-- What a loop over a list has come to.
use Rattle.std.proofs.Common.{◌≡◌, ℕ, zero, suc, ◌+◌, ◌<◌, ◌≤◌, Bool, true, false, List, [], ◌∷◌, ◌++◌, length, take, map, get_or, Option, Some, None, refl, sym, ap, subst, ◌∙◌, arith}
use Rattle.std.specs.Prelude.{cond, slice_get, position}
use Rattle.std.specs.Option.{option_map, option_or}
use Rattle.std.proofs.lemmas.List.{take_more, take_all, length-take-le, map_more}
use Rattle.class_defs.proofs.Positions.{position_snoc}
use Rattle.verify.specs.Descriptors.{short, first_number}

-- what is known of the item at a place
pub record AtPlace {X : Type 0} (items : List X) (place : ℕ) (item : X) : Type 0 where
  pub more : take (place + 1) items ≡ take place items ++ item ∷ []
  pub got : slice_get items place ≡ Some item
  pub before : place < length items

pub got_item : {X : Type 0} (items : List X) (place : ℕ) (item : X) → place < length items → slice_get items place ≡ Some (get_or items place item)
got_item [] place item lt = absurd (omega (arith, lt))
got_item (x ∷ xs) zero item lt = refl
got_item (x ∷ xs) (suc place) item lt = got_item xs place item (omega (arith, lt))

pub at_place : {X : Type 0} (items slice : List X) (place : ℕ) (item : X) → slice ≡ items → item ≡ get_or slice place item → place < length slice → AtPlace items place item
at_place items slice place item same is lt = subst (λ l. AtPlace l place item) same (record {
  more = take_more slice place item lt ∙ ap (λ x. take place slice ++ x ∷ []) (sym is);
  got = got_item slice place item lt ∙ ap (λ x. Some x) (sym is);
  before = lt;
})

-- ---- the first place of which a test is true, as a number

mapped : (o : Option ℕ) (b : Bool) (n m : ℕ) → m ≡ short n → option_or (option_map short o) (cond b (Some m) None) ≡ option_map short (option_or o (cond b (Some n) None))
mapped None true n m e = ap (λ x. Some x) e
mapped None false n m e = refl
mapped (Some i) b n m e = refl

pub number_more : {X : Type 0} (test : X → Bool) (xs : List X) (i at : ℕ) (x : X) (old new : Option ℕ) → AtPlace xs i x → at ≡ short i → old ≡ first_number test (take i xs)
    → new ≡ option_or old (cond (test x) (Some at) None) → new ≡ first_number test (take (i + 1) xs)
number_more test xs i at x old new p e so_far step =
    step ∙ ap (λ o. option_or o (cond (test x) (Some at) None)) so_far
    ∙ mapped (position test (take i xs)) (test x) (length (take i xs)) at (e ∙ ap short (sym (length-take-le i xs (omega (arith, p.before)))))
    ∙ ap (option_map short) (sym (position_snoc test (take i xs) x)) ∙ ap (first_number test) (sym p.more)

pub number_all : {X : Type 0} (test : X → Bool) (xs : List X) (i : ℕ) (o : Option ℕ) → length xs ≤ i → o ≡ first_number test (take i xs) → o ≡ first_number test xs
number_all test xs i o le e = e ∙ ap (first_number test) (take_all i xs le)

-- ---- a list made by one of each item

pub mapped_more : {X Y : Type 0} (f : X → Y) (xs slice : List X) (i : ℕ) (d : X) (old new : List Y) (y : Y) → slice ≡ xs → i < length slice → old ≡ map f (take i xs)
    → new ≡ old ++ y ∷ [] → y ≡ f (get_or slice i d) → new ≡ map f (take (i + 1) xs)
mapped_more f xs slice i d old new y same lt so_far pushed is =
    subst (λ l. old ≡ map f (take i l) → new ≡ map f (take (i + 1) l)) same (λ e. pushed ∙ ap (λ l. l ++ y ∷ []) e ∙ ap (λ z. map f (take i slice) ++ z ∷ []) is ∙ sym (map_more f slice i d lt)) so_far
