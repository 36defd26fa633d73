-- The classes above one that are not done, and what is left when the last of them is.
use Rattle.std.proofs.Common.{◌≡◌, ℕ, zero, suc, ◌+◌, ◌<◌, ◌≤◌, Bool, true, false, List, [], ◌∷◌, ◌++◌, Option, Some, None, inl, inr, refl, sym, ap, ◌∙◌, subst, arith}
use Rattle.std.specs.Prelude.{slice_index_or, if◌then◌else◌}
use Rattle.std.proofs.lemmas.Bool.{cases_lt}
use Rattle.verify.specs.declared.chains.Chains.{Chains}
use Rattle.verify.specs.Building.{is_done, climbed, depth_under, jump_under, Notes, Leads, IsPath, IsSettled, Settles, AllDone, Goes, IsDoneBelow}
use Rattle.verify.specs.Chains.{above}
use Rattle.verify.specs.Flow.{greatest}
use Rattle.verify.proofs.Chained.{past}
use Rattle.verify.proofs.Links.{noted, done_here}

number_of : Option ℕ → ℕ
number_of None = 0
number_of (Some n) = n

pub some_same : (a b : ℕ) → Some a ≡ Some b → a ≡ b
unfolding number_of
some_same a b e = ap number_of e

-- ---- what is climbed

pub climbed_none : (m : ℕ) (c : Chains) → climbed m c None ≡ []
climbed_none zero c = refl
climbed_none (suc m) c = refl

pub climbed_done : (m : ℕ) (c : Chains) (k : ℕ) → is_done c k ≡ true → climbed m c (Some k) ≡ []
climbed_done zero c k e = refl
climbed_done (suc m) c k e = rw e refl

pub climbed_on : (m : ℕ) (c : Chains) (k : ℕ) → is_done c k ≡ false → climbed (suc m) c (Some k) ≡ k ∷ climbed m c (above c k)
climbed_on m c k e = rw e refl

module _ (n : ℕ) (r : ℕ → ℕ) (c : Chains) (w : IsSettled n r c) where
  within : (k : ℕ) → is_done c k ≡ false → k < n
  within k e = elim (cases_lt k n) [
    | inl h ↦ h
    | inr h ↦ absurd (let p : is_done c k ≡ true = past c.done.items k true (let l = w.long in omega (arith, l, h)) in cc)
  ]

  leads_to : (m k : ℕ) (o : Option ℕ) → above c k ≡ o → r k < suc m → Leads c k (climbed m c o)
  leads_to m k None a l = subst (Leads c k) (sym (climbed_none m c)) (λ p f. let g : None ≡ Some p = sym a ∙ f in absurd (cc))
  leads_to zero k (Some q) a l = absurd (let f = w.falls k q a in omega (arith, f, l))
  leads_to (suc m) k (Some q) a l = go (is_done c q) refl
    where
      go : (b : Bool) → is_done c q ≡ b → Leads c k (if b then [] else q ∷ climbed m c (above c q))
      go true e = λ p f. subst (λ x. is_done c x ≡ true) (some_same q p (sym a ∙ f)) e
      go false e = a

  path_above : (m k : ℕ) (o : Option ℕ) → above c k ≡ o → r k < suc m → ((p : ℕ) → (is_done c p ≡ false → r p < m) → IsPath n c (climbed m c (Some p))) → IsPath n c (climbed m c o)
  path_above m k None a x on = subst (IsPath n c) (sym (climbed_none m c)) tt
  path_above m k (Some p) a x on = on p (λ d. let f = w.falls k p a in omega (arith, f, x))

  path_step : (m k : ℕ) (b : Bool) → is_done c k ≡ b → (is_done c k ≡ false → r k < suc m) → ((p : ℕ) → (is_done c p ≡ false → r p < m) → IsPath n c (climbed m c (Some p))) → IsPath n c (if b then [] else k ∷ climbed m c (above c k))
  path_step m k true e l on = tt
  path_step m k false e l on = (within k e, (leads_to m k (above c k) refl (l e), path_above m k (above c k) refl (l e) on))

  path_in : (m k : ℕ) → (is_done c k ≡ false → r k < m) → IsPath n c (climbed m c (Some k))
  path_in zero k l = tt
  path_in (suc m) k l = path_step m k (is_done c k) refl l (λ p h. path_in m p h)

  pub climbed_path : (k : ℕ) → IsPath n c (climbed n c (Some k))
  climbed_path k = path_in n k (λ e. w.bound k (within k e))

  -- where a class and those above it are done, it is
  pub head_done : (c' : Chains) (m k : ℕ) → AllDone c' (climbed (suc m) c (Some k)) → ((j : ℕ) → is_done c j ≡ true → is_done c' j ≡ true) → is_done c' k ≡ true
  head_done c' m k all kept = go (is_done c k) refl all
    where
      go : (b : Bool) → is_done c k ≡ b → AllDone c' (if b then [] else k ∷ climbed m c (above c k)) → is_done c' k ≡ true
      go true e a = kept k e
      go false e a = a.0

-- ---- the end of a path

pub path_last : (n : ℕ) (c : Chains) (ys : List ℕ) (x : ℕ) → IsPath n c (ys ++ x ∷ []) → (x < n) × ((p : ℕ) → above c x ≡ Some p → is_done c p ≡ true)
path_last n c [] x h = (h.0, h.1.0)
path_last n c (y ∷ ys) x h = path_last n c ys x h.1.1

leads_less : (c c' : Chains) (y : ℕ) (ys : List ℕ) (x : ℕ) → ((q : ℕ) → above c' q ≡ above c q) → is_done c' x ≡ true → Leads c y (ys ++ x ∷ []) → Leads c' y ys
leads_less c c' y [] x same d h = λ p f. subst (λ z. is_done c' z ≡ true) (some_same x p (sym h ∙ sym (same y) ∙ f)) d
leads_less c c' y (z ∷ zs) x same d h = same y ∙ h

path_less : (n : ℕ) (c c' : Chains) (ys : List ℕ) (x : ℕ) → ((q : ℕ) → above c' q ≡ above c q) → is_done c' x ≡ true → IsPath n c (ys ++ x ∷ []) → IsPath n c' ys
path_less n c c' [] x same d h = tt
path_less n c c' (y ∷ ys) x same d h = (h.0, (leads_less c c' y ys x same d h.1.0, path_less n c c' ys x same d h.1.1))

all_kept : (c c' : Chains) (ks : List ℕ) → ((q : ℕ) → is_done c q ≡ true → is_done c' q ≡ true) → AllDone c ks → AllDone c' ks
all_kept c c' [] f a = tt
all_kept c c' (k ∷ ks) f a = (f k a.0, all_kept c c' ks f a.1)

append_on : (ys : List ℕ) (x : ℕ) (zs : List ℕ) → (ys ++ x ∷ []) ++ zs ≡ ys ++ x ∷ zs
append_on [] x zs = refl
append_on (y ∷ ys) x zs = ap (λ l. y ∷ l) (append_on ys x zs)

pub goes_first : (n : ℕ) (r : ℕ → ℕ) (c : Chains) (path : List ℕ) → IsSettled n r c → IsPath n c path → Goes n r c c path path
goes_first n r c path w h = record {
  settles = record { settled = w; supers = refl; kept = λ k d. d };
  rest = [];
  is = append_none path;
  done = tt;
  path_left = h;
}
  where
    append_none : (xs : List ℕ) → xs ≡ xs ++ []
    append_none [] = refl
    append_none (x ∷ xs) = ap (λ l. x ∷ l) (append_none xs)

-- the last class of what is left is noted
pub goes_on : (n : ℕ) (r : ℕ → ℕ) (c d d' : Chains) (path left ys : List ℕ) (x : ℕ) → n ≤ greatest → left ≡ ys ++ x ∷ [] → Goes n r c d path left → Notes d d' x (depth_under d (above d x)) (jump_under d x (above d x)) → Goes n r c d' path ys
goes_on n r c d d' path left ys x small e g k =
    let p : IsPath n d (ys ++ x ∷ []) = subst (IsPath n d) e g.path_left in
    let l = path_last n d ys x p in
    let s : Settles n r d d' = noted n r d d' x g.settles.settled small l.0 l.1 k in
    let h : is_done d' x ≡ true = done_here n r d d' x g.settles.settled small l.0 l.1 k in
    record {
      settles = record { settled = s.settled; supers = s.supers ∙ g.settles.supers; kept = λ j q. s.kept j (g.settles.kept j q) };
      rest = x ∷ g.rest;
      is = g.is ∙ ap (λ z. z ++ g.rest) e ∙ append_on ys x g.rest;
      done = (h, all_kept d d' g.rest s.kept g.done);
      path_left = path_less n d d' ys x (λ q. ap (λ z. slice_index_or z.items q None) s.supers) h p;
    }

-- one more class is done
pub done_on : (n : ℕ) (r : ℕ → ℕ) (c c' : Chains) (k : ℕ) → n ≤ greatest → k < n → Goes n r c c' (climbed n c (Some k)) [] → IsDoneBelow n r c k → IsDoneBelow n r c' (k + 1)
done_on zero r c c' k small lt g w = absurd (omega (arith, lt))
done_on (suc m) r c c' k small lt g w = record { settled = g.settles.settled; done = done }
  where
    here : is_done c' k ≡ true
    here = head_done (suc m) r c w.settled c' m k (subst (AllDone c') (sym g.is) g.done) g.settles.kept

    done : (j : ℕ) → j < k + 1 → is_done c' j ≡ true
    done j h = elim (cases_lt j k) [
      | inl x ↦ g.settles.kept j (w.done j x)
      | inr x ↦ (let e : j ≡ k = omega (arith, h, x) in subst (λ z. is_done c' z ≡ true) (sym e) here)
    ]
