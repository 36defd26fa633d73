-- Lists of different things, put together.
use Rattle.std.proofs.Common.{◌≡◌, ◌≤◌, ◌<◌, ◌⊎◌, inl, inr, ℕ, zero, suc, ◌+◌, List, [], ◌∷◌, ◌++◌, length, refl, sym, ap, subst, arith}
use Rattle.std.specs.Prelude.{Contains}
use Rattle.std.specs.List.{All, AllByRecursion}
use Rattle.std.proofs.lemmas.List.{length-append}
use Rattle.program_model.specs.Limits.{limit_of}
use Rattle.program_model.specs.declared.limits.Counted.{Counted}
use Rattle.program_model.specs.declared.limits.LimitFault.{LimitFault}
use Rattle.dex_defs.specs.Limits.{AllDiffer, Counts, IsPast}
use Rattle.past_law.specs.Told.{Told, one_past}

-- ---- elements

first_or_later : (y : List ℕ) (ys : List (List ℕ)) (x : List ℕ) → Contains (y ∷ ys) x → (y ≡ x) ⊎ Contains ys x
first_or_later y ys x (zero, less, e) = inl e
first_or_later y ys x (suc k, less, e) = inr (k, omega (arith, less), e)

is_first : (x : List ℕ) (xs : List (List ℕ)) → Contains (x ∷ xs) x
is_first x xs = (0, omega arith, refl)

is_later : (y : List ℕ) (ys : List (List ℕ)) (x : List ℕ) → Contains ys x → Contains (y ∷ ys) x
is_later y ys x (k, less, e) = (suc k, omega (arith, less), e)

in_one : (xs ys : List (List ℕ)) (x : List ℕ) → Contains (xs ++ ys) x → Contains xs x ⊎ Contains ys x
in_one [] ys x h = inr h
in_one (y ∷ xs) ys x h = elim (first_or_later y (xs ++ ys) x h) [
  | inl e ↦ inl (0, omega arith, e)
  | inr c ↦ elim (in_one xs ys x c) [
    | inl d ↦ inl (is_later y xs x d)
    | inr d ↦ inr d
  ]
]

one_of_all : (P : List ℕ → Type 0) (xs : List (List ℕ)) (x : List ℕ) → AllByRecursion P xs → Contains xs x → P x
one_of_all P [] x h (k, less, e) = absurd (omega (arith, less))
one_of_all P (y ∷ ys) x h c = elim (first_or_later y ys x c) [
  | inl e ↦ subst P e h.0
  | inr d ↦ one_of_all P ys x h.1 d
]

all_more : (P Q : List ℕ → Type 0) (xs : List (List ℕ)) → ((x : List ℕ) → P x → Q x) → AllByRecursion P xs → AllByRecursion Q xs
all_more P Q [] to h = tt
all_more P Q (x ∷ xs) to h = (to x h.0, all_more P Q xs to h.1)

all_both : (P : List ℕ → Type 0) (xs ys : List (List ℕ)) → AllByRecursion P xs → AllByRecursion P ys → AllByRecursion P (xs ++ ys)
all_both P [] ys h g = g
all_both P (x ∷ xs) ys h g = (h.0, all_both P xs ys h.1 g)

differ_both : (xs ys : List (List ℕ)) → AllDiffer xs → AllDiffer ys → ((x : List ℕ) → Contains xs x → Contains ys x → ⊥) → AllDiffer (xs ++ ys)
differ_both [] ys h g apart = g
differ_both (x ∷ xs) ys h g apart = (
  λ c. elim (in_one xs ys x c) [
    | inl d ↦ h.0 d
    | inr d ↦ apart x (is_first x xs) d
  ],
  differ_both xs ys h.1 g (λ z c d. apart z (is_later x xs z c) d),
)

-- ---- lists of different things

pub none : {Is In : List ℕ → Type 0} → Told Is In 0
none = record { things = []; differ = tt; are = tt; within = tt; many = omega arith }

-- the things of two parts that have no name in common
pub together : {Is A B C : List ℕ → Type 0} {n m : ℕ} → Told Is A n → Told Is B m → ((w : List ℕ) → A w → B w → ⊥) → ((w : List ℕ) → A w → C w) → ((w : List ℕ) → B w → C w) → Told Is C (n + m)
together {A = A} {B = B} {C = C} {n = n} {m = m} a b apart left right = record {
  things = a.things ++ b.things;
  differ = differ_both a.things b.things a.differ b.differ (λ w c d. apart w (one_of_all A a.things w a.within c) (one_of_all B b.things w b.within d));
  are = all_both _ a.things b.things a.are b.are;
  within = all_both C a.things b.things (all_more A C a.things left a.within) (all_more B C b.things right b.within);
  many = let long = length-append a.things b.things in let x = a.many in let y = b.many in omega (arith, long, x, y);
}

pub wider : {Is A B : List ℕ → Type 0} {n : ℕ} → Told Is A n → ((w : List ℕ) → A w → B w) → Told Is B n
wider {A = A} {B = B} a to = record { things = a.things; differ = a.differ; are = a.are; within = all_more A B a.things to a.within; many = a.many }

pub other : {Is Are A : List ℕ → Type 0} {n : ℕ} → Told Is A n → ((w : List ℕ) → Is w → Are w) → Told Are A n
other {Is = Is} {Are = Are} a to = record { things = a.things; differ = a.differ; are = all_more Is Are a.things to a.are; within = a.within; many = a.many }

pub fewer : {Is A : List ℕ → Type 0} {n : ℕ} (m : ℕ) → Told Is A n → m ≤ n → Told Is A m
fewer m a less = record { things = a.things; differ = a.differ; are = a.are; within = a.within; many = let many = a.many in omega (arith, many, less) }

-- ---- things by their number

abbrev named : (ℕ → List ℕ) → ℕ → List (List ℕ)
named name zero = []
named name (suc n) = name n ∷ named name n

named_one : (name : ℕ → List ℕ) (n : ℕ) (x : List ℕ) → Contains (named name n) x → (k : ℕ) × (k < n) × (x ≡ name k)
named_one name zero x (k, less, e) = absurd (omega (arith, less))
named_one name (suc n) x c = elim (first_or_later (name n) (named name n) x c) [
  | inl e ↦ (n, omega arith, sym e)
  | inr d ↦ (let r = named_one name n x d in let low = r.1 in (r.0, omega (arith, low), r.2))
]

named_differ : (name : ℕ → List ℕ) → ((i j : ℕ) → name i ≡ name j → i ≡ j) → (n : ℕ) → AllDiffer (named name n)
named_differ name own zero = tt
named_differ name own (suc n) = (λ c. let r = named_one name n (name n) c in let low = r.1 in let same = own n r.0 r.2 in omega (arith, low, same), named_differ name own n)

named_all : (name : ℕ → List ℕ) (P : List ℕ → Type 0) (n : ℕ) → ((i : ℕ) → i < n → P (name i)) → AllByRecursion P (named name n)
named_all name P zero h = tt
named_all name P (suc n) h = (h n (omega arith), named_all name P n (λ i less. h i (omega (arith, less))))

named_long : (name : ℕ → List ℕ) (n : ℕ) → length (named name n) ≡ n
named_long name zero = refl
named_long name (suc n) = ap suc (named_long name n)

-- so many things, each of which has its own number
pub numbered : {Is A : List ℕ → Type 0} (name : ℕ → List ℕ) (n : ℕ) → ((i j : ℕ) → name i ≡ name j → i ≡ j) → ((i : ℕ) → i < n → Is (name i)) → ((i : ℕ) → i < n → A (name i)) → Told Is A n
numbered {Is = Is} {A = A} name n own are within = record {
  things = named name n;
  differ = named_differ name own n;
  are = named_all name Is n are;
  within = named_all name A n within;
  many = let long = named_long name n in omega (arith, long);
}

pub one : {Is A : List ℕ → Type 0} (w : List ℕ) → Is w → A w → Told Is A 1
one w is within = record { things = w ∷ []; differ = (λ (c : Contains [] w). let less = c.1 in omega (arith, less), tt); are = (is, tt); within = (within, tt); many = omega arith }

-- ---- a limit that is passed

abbrev front : ℕ → List (List ℕ) → List (List ℕ)
front zero xs = []
front (suc n) [] = []
front (suc n) (x ∷ xs) = x ∷ front n xs

front_one : (n : ℕ) (xs : List (List ℕ)) (x : List ℕ) → Contains (front n xs) x → Contains xs x
front_one zero xs x (k, less, e) = absurd (omega (arith, less))
front_one (suc n) [] x (k, less, e) = absurd (omega (arith, less))
front_one (suc n) (y ∷ ys) x c = elim (first_or_later y (front n ys) x c) [
  | inl e ↦ (0, omega arith, e)
  | inr d ↦ is_later y ys x (front_one n ys x d)
]

front_differ : (n : ℕ) (xs : List (List ℕ)) → AllDiffer xs → AllDiffer (front n xs)
front_differ zero xs h = tt
front_differ (suc n) [] h = tt
front_differ (suc n) (x ∷ xs) h = (λ c. h.0 (front_one n xs x c), front_differ n xs h.1)

front_long : (n : ℕ) (xs : List (List ℕ)) → n ≤ length xs → length (front n xs) ≡ n
front_long zero xs h = refl
front_long (suc n) [] h = absurd (omega (arith, h))
front_long (suc n) (x ∷ xs) h = ap suc (front_long n xs (omega (arith, h)))

front_all : (P : List ℕ → Type 0) (n : ℕ) (xs : List (List ℕ)) → AllByRecursion P xs → AllByRecursion P (front n xs)
front_all P zero xs h = tt
front_all P (suc n) [] h = tt
front_all P (suc n) (x ∷ xs) h = (h.0, front_all P n xs h.1)

all_by_place : (P : List ℕ → Type 0) (xs : List (List ℕ)) → AllByRecursion P xs → All P xs
all_by_place P [] h k d less = absurd (omega (arith, less))
all_by_place P (x ∷ xs) h zero d less = h.0
all_by_place P (x ∷ xs) h (suc k) d less = all_by_place P xs h.1 k d (omega (arith, less))

-- one thing more than the limit
pub is_past : (bytes : List ℕ) (kind : Counted) {A : List ℕ → Type 0} → Told (Counts bytes kind) A (limit_of kind + 1) → (fault : LimitFault) → fault ≡ one_past kind → IsPast bytes fault
is_past bytes kind a fault e = subst (IsPast bytes) (sym e) (record {
  things = front (limit_of kind + 1) a.things;
  differ = front_differ (limit_of kind + 1) a.things a.differ;
  are = all_by_place (Counts bytes kind) (front (limit_of kind + 1) a.things) (front_all (Counts bytes kind) (limit_of kind + 1) a.things a.are);
  many = front_long (limit_of kind + 1) a.things a.many;
  number = refl;
})
