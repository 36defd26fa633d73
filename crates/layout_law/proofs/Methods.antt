-- Programs lay out class by class, method by method.
use Rattle.std.proofs.Common.{◌≡◌, ℕ, zero, suc, Bool, true, false, cond, List, [], ◌∷◌, length, filter, Some, refl, sym, ◌∙◌, subst, arith, All}
use Rattle.std.specs.Prelude.{Contains, slice_get}
use Rattle.std.proofs.lemmas.List.Elements.{All-nil, All-cons, All-head, All-tail}
use Rattle.lemmas.proofs.Lists.{got_short, get_there, contains_here, contains_there}
use Rattle.lemmas.proofs.Options.{some_same, none_some}
use Rattle.program_model.specs.declared.program.Class.{Class}
use Rattle.program_model.specs.declared.program.Method.{Method}
use Rattle.dex_defs.specs.LaysOut.{LaysOutMethod}

abbrev pub MethodLies : Method → Type 0
MethodLies m = LaysOutMethod m.body

abbrev pub ClassLies : Class → Type 0
ClassLies c = All MethodLies c.methods

-- ---- lists

pub got_all : {A : Type 0} (P : A → Type 0) (xs : List A) (n : ℕ) (x : A) → All P xs → slice_get xs n ≡ Some x → P x
got_all P [] n x a e = none_some x e
got_all P (y ∷ ys) zero x a e = subst P (some_same y x e) (All-head P y ys a)
got_all P (y ∷ ys) (suc n) x a e = got_all P ys n x (All-tail P y ys a) e

pub all_got : {A : Type 0} (P : A → Type 0) (xs : List A) → ((n : ℕ) (x : A) → slice_get xs n ≡ Some x → P x) → All P xs
all_got P [] h = All-nil P
all_got P (x ∷ xs) h = All-cons P x xs (h zero x refl) (all_got P xs (λ n y e. h (suc n) y e))

pub all_filter : {A : Type 0} (P : A → Type 0) (f : A → Bool) (xs : List A) → All P xs → All P (filter f xs)
all_filter P f [] a = a
all_filter P f (x ∷ xs) a = by (f x) (all_filter P f xs (All-tail P x xs a))
  where
    by : (b : Bool) → All P (filter f xs) → All P (cond b (x ∷ filter f xs) (filter f xs))
    by true r = All-cons P x (filter f xs) (All-head P x xs a) r
    by false r = r

pub contained : {A : Type 0} (xs : List A) (n : ℕ) (x : A) → slice_get xs n ≡ Some x → Contains xs x
contained [] n x e = none_some x e
contained (y ∷ ys) zero x e = subst (Contains (y ∷ ys)) (some_same y x e) (contains_here y ys)
contained (y ∷ ys) (suc n) x e = contains_there y ys x (contained ys n x e)

-- lists as long whose items go together
pub all_beside : {A : Type 0} (P : A → Type 0) (R : A → A → Type 0) → ((x y : A) → R x y → P x → P y) → (xs ys : List A) → length ys ≡ length xs
    → ((n : ℕ) (x : A) → slice_get xs n ≡ Some x → (y : A) × (slice_get ys n ≡ Some y) × R x y) → All P xs → All P ys
all_beside P R step xs ys long each a = all_got P ys (λ n y e.
    let short = got_short ys n y e in
    let x = get_there xs n (omega (arith, short, long)) in
    let z = each n x.0 x.1 in
    subst P (some_same z.0 y (sym z.1 ∙ e)) (step x.0 z.0 z.2 (got_all P xs n x.0 a x.1)))
