-- Chains of which only the classes above are known, and lists that grow.
use Rattle.std.proofs.Common.{◌≡◌, ℕ, zero, suc, ◌+◌, ◌-◌, ◌<◌, ◌≤◌, true, false, List, [], ◌∷◌, ◌++◌, length, replicate, Option, Some, None, ◌⊎◌, inl, inr, refl, sym, ap, ◌∙◌, subst, arith}
use Rattle.std.specs.Prelude.{slice_index_or}
use Rattle.std.proofs.lemmas.Bool.{cases_lt}
use Rattle.std.proofs.lemmas.List.{length_push}
use Rattle.verify.specs.declared.chains.Chains.{Chains}
use Rattle.verify.specs.Building.{is_done, climbed, IsLinkedAt, IsPath, IsSettled, Goes, IsDoneBelow}
use Rattle.verify.specs.Chains.{above, depth, jump}
use Rattle.verify.specs.Flow.{greatest}
use Rattle.verify.proofs.Chained.{past}
use Rattle.verify.proofs.Paths.{some_same, climbed_none, climbed_done, climbed_on, climbed_path, done_on}

in_replicate : {A : Type 0} (n : ℕ) (v d : A) (k : ℕ) → k < n → slice_index_or (replicate n v) k d ≡ v
in_replicate zero v d k h = absurd (omega (arith, h))
in_replicate (suc n) v d zero h = refl
in_replicate (suc n) v d (suc k) h = in_replicate n v d k (omega (arith, h))

replicate_long : {A : Type 0} (n : ℕ) (v : A) → length (replicate n v) ≡ n
replicate_long zero v = refl
replicate_long (suc n) v = ap suc (replicate_long n v)

pub bare_settled : (n : ℕ) (r : ℕ → ℕ) (c : Chains) → length c.supers.items ≡ n → c.depths.items ≡ replicate n 0 → c.jumps.items ≡ replicate n 0 → c.done.items ≡ replicate n false
    → ((k p : ℕ) → above c k ≡ Some p → r p < r k) → ((k : ℕ) → k < n → r k < n) → IsSettled n r c
bare_settled n r c es ed ej en falls bound = record {
  supers = es;
  depths = ap length ed ∙ replicate_long {A = ℕ} n 0;
  jumps = ap length ej ∙ replicate_long {A = ℕ} n 0;
  long = ap length en ∙ replicate_long n false;
  falls = falls;
  bound = bound;
  low = λ k d. let e = depth_past k (late k d) in omega (arith, e);
  linked = λ k d. subst (IsLinkedAt c k) (sym (above_past k (late k d))) (depth_past k (late k d), jump_past k (late k d));
  up = λ k p d a. absurd (let e : None ≡ Some p = sym (above_past k (late k d)) ∙ a in cc);
  jumped = λ k d. subst (λ x. is_done c x ≡ true) (sym (jump_past k (late k d))) d;
}
  where
    late : (k : ℕ) → is_done c k ≡ true → n ≤ k
    late k d = elim (cases_lt k n) [
      | inl h ↦ absurd (let e : is_done c k ≡ false = ap (λ x. slice_index_or x k true) en ∙ in_replicate n false true k h in cc)
      | inr h ↦ h
    ]

    above_past : (k : ℕ) → n ≤ k → above c k ≡ None
    above_past k h = past c.supers.items k None (omega (arith, es, h))

    depth_past : (k : ℕ) → n ≤ k → depth c k ≡ 0
    depth_past k h = let l = replicate_long {A = ℕ} n 0 in past c.depths.items k 0 (let e = ap length ed in omega (arith, e, l, h))

    jump_past : (k : ℕ) → n ≤ k → jump c k ≡ k
    jump_past k h = let l = replicate_long {A = ℕ} n 0 in past c.jumps.items k k (let e = ap length ej in omega (arith, e, l, h))

-- one more is listed
last_of : {A : Type 0} (xs : List A) (x d : A) (n : ℕ) → length xs ≡ n → slice_index_or (xs ++ x ∷ []) n d ≡ x
last_of [] x d zero e = refl
last_of [] x d (suc n) e = absurd (omega (arith, e))
last_of (y ∷ xs) x d zero e = absurd (omega (arith, e))
last_of (y ∷ xs) x d (suc n) e = last_of xs x d n (omega (arith, e))

earlier_of : {A : Type 0} (xs : List A) (x d : A) (k : ℕ) → k < length xs → slice_index_or (xs ++ x ∷ []) k d ≡ slice_index_or xs k d
earlier_of [] x d k h = absurd (omega (arith, h))
earlier_of (y ∷ xs) x d zero h = refl
earlier_of (y ∷ xs) x d (suc k) h = earlier_of xs x d k (omega (arith, h))

pub listed_on : {A : Type 0} (f : ℕ → A) (xs ys : List A) (x d : A) (n : ℕ) → ys ≡ xs ++ x ∷ [] → length xs ≡ n → x ≡ f n → ((k : ℕ) → k < n → slice_index_or xs k d ≡ f k) → (k : ℕ) → k < n + 1 → slice_index_or ys k d ≡ f k
listed_on f xs ys x d n e l g h k lt = ap (λ z. slice_index_or z k d) e ∙ elim (cases_lt k n) [
  | inl p ↦ earlier_of xs x d k (omega (arith, l, p)) ∙ h k p
  | inr p ↦ (let q : k ≡ n = omega (arith, lt, p) in subst (λ z. slice_index_or (xs ++ x ∷ []) z d ≡ f z) (sym q) (last_of xs x d n l ∙ g))
]

-- ---- a climb

push_on : (xs : List ℕ) (x : ℕ) (zs : List ℕ) → (xs ++ x ∷ []) ++ zs ≡ xs ++ x ∷ zs
push_on [] x zs = refl
push_on (y ∷ xs) x zs = ap (λ l. y ∷ l) (push_on xs x zs)

append_none : (xs : List ℕ) → xs ++ [] ≡ xs
append_none [] = refl
append_none (x ∷ xs) = ap (λ l. x ∷ l) (append_none xs)

-- one more class is listed
pub climb_on : (c : Chains) (m j k : ℕ) (o up : Option ℕ) (xs ys all : List ℕ) → m ≡ suc j → o ≡ Some k → up ≡ above c k → is_done c k ≡ false → ys ≡ xs ++ k ∷ [] → xs ++ climbed m c o ≡ all → ys ++ climbed j c up ≡ all
climb_on c m j k o up xs ys all e a u d f inv =
    let h : xs ++ climbed (suc j) c (Some k) ≡ all = subst (λ z. xs ++ climbed z c (Some k) ≡ all) e (subst (λ z. xs ++ climbed m c z ≡ all) a inv) in
    ap (λ z. ys ++ climbed j c z) u ∙ ap (λ z. z ++ climbed j c (above c k)) f ∙ push_on xs k (climbed j c (above c k)) ∙ ap (λ z. xs ++ z) (sym (climbed_on j c k d)) ∙ h

pub climb_stops : (c : Chains) (m : ℕ) (o : Option ℕ) (xs all : List ℕ) → (o ≡ None) ⊎ ((k : ℕ) → o ≡ Some k → is_done c k ≡ true) → xs ++ climbed m c o ≡ all → xs ≡ all
climb_stops c m o xs all h inv = sym (append_none xs) ∙ ap (λ z. xs ++ z) (sym (stops o h)) ∙ inv
  where
    stops : (o : Option ℕ) → (o ≡ None) ⊎ ((k : ℕ) → o ≡ Some k → is_done c k ≡ true) → climbed m c o ≡ []
    stops None h = climbed_none m c
    stops (Some k) (inl e) = absurd (cc)
    stops (Some k) (inr f) = climbed_done m c k (f k refl)

pub climb_ends : (c : Chains) (m : ℕ) (o : Option ℕ) (xs all : List ℕ) → m ≡ 0 → xs ++ climbed m c o ≡ all → xs ≡ all
climb_ends c m o xs all e inv =
    let i : xs ++ [] ≡ all = rw e at inv in
    sym (append_none xs) ∙ i

pub some_done : (c : Chains) (o : Option ℕ) (k : ℕ) → o ≡ Some k → is_done c k ≡ true → (j : ℕ) → o ≡ Some j → is_done c j ≡ true
some_done c o k e d j f = subst (λ x. is_done c x ≡ true) (some_same k j (sym e ∙ f)) d

-- ---- all classes of a list are done

no_length : {A : Type 0} (xs : List A) → length xs ≡ 0 → xs ≡ []
no_length [] e = refl
no_length (x ∷ xs) e = absurd (omega (arith, e))

pub goes_end : (n : ℕ) (r : ℕ → ℕ) (c d : Chains) (path left : List ℕ) (k end : ℕ) → length left ≡ end - k → end ≤ k → Goes n r c d path left → Goes n r c d path []
goes_end n r c d path left k end e le g = subst (Goes n r c d path) (no_length left (omega (arith, e, le))) g

-- one more class is done, as the code does it
pub class_done : (n : ℕ) (r : ℕ → ℕ) (c c' : Chains) (k m : ℕ) (path : List ℕ) → n ≤ greatest → k < n → path ≡ climbed m c (Some k) → m ≡ length c.supers.items → ((n : ℕ) (r : ℕ → ℕ) → n ≤ greatest → IsSettled n r c → IsPath n c path → Goes n r c c' path []) → IsDoneBelow n r c k → IsDoneBelow n r c' (k + 1)
class_done n r c c' k m path small lt e f goes w =
    let g : path ≡ climbed n c (Some k) = e ∙ ap (λ x. climbed x c (Some k)) (f ∙ w.settled.supers) in
    done_on n r c c' k small lt (subst (λ x. Goes n r c c' x []) g (goes n r small w.settled (subst (IsPath n c) (sym g) (climbed_path n r c w.settled k)))) w

pub pop_left : (xs ys : List ℕ) (x k end : ℕ) → xs ≡ ys ++ x ∷ [] → k < end → length xs ≡ end - k → length ys ≡ end - (k + 1)
pop_left xs ys x k end e lt l = let p = ap length e in let q = length_push ys x in omega (arith, p, q, lt, l)

pub none_done : (n : ℕ) (r : ℕ → ℕ) (c : Chains) → IsSettled n r c → IsDoneBelow n r c 0
none_done n r c w = record { settled = w; done = λ j h. absurd (omega (arith, h)) }

pub all_done : (n : ℕ) (r : ℕ → ℕ) (c : Chains) (k : ℕ) → n ≤ k → IsDoneBelow n r c k → IsDoneBelow n r c n
all_done n r c k le w = record { settled = w.settled; done = λ j h. w.done j (omega (arith, h, le)) }
