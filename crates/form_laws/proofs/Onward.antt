-- Where a position goes on to, and where it is caught.
use Rattle.std.proofs.Common.{◌≡◌, ℕ, suc, ◌+◌, Bool, true, false, true≢false, List, [], ◌∷◌, ◌++◌, Option, Some, None, refl, sym, ap, ◌∙◌, subst, arith}
use Rattle.std.specs.Prelude.{cond, find, map, Contains}
use Rattle.std.specs.Option.{option_and_then}
use Rattle.dalvik_defs.specs.Names.{Text}
use Rattle.dalvik_defs.specs.Stack.{handler_in, handler_at}
use Rattle.dalvik_defs.specs.declared.forms.Form.{Form}
use Rattle.dalvik_defs.specs.declared.program.NamedBody.{NamedBody}
use Rattle.dalvik_defs.specs.declared.program.NamedRegion.{NamedRegion}
use Rattle.dalvik_defs.specs.declared.program.NamedHandler.{NamedHandler}
use Rattle.pass_defs.specs.Bare.{continues, targets}
use Rattle.pass_defs.specs.Walks.{region_at, listed, handlers_of, handlers_at, next_position, onward, Walk}
use Rattle.form_laws.specs.Changes.{In, here, there}

pub clash : (b : Bool) {A : Type 0} → b ≡ true → b ≡ false → A
clash b e f = absurd (true≢false (sym e ∙ f))

-- ---- lists

pub in_front : {A : Type 0} (x : A) (xs ys : List A) → In x xs → In x (xs ++ ys)
in_front x [] ys c = elim c [ ]
in_front x (y ∷ xs) ys (here zs) = here (xs ++ ys)
in_front x (y ∷ xs) ys (there z zs c) = there y (xs ++ ys) (in_front x xs ys c)

pub in_back : {A : Type 0} (x : A) (xs ys : List A) → In x ys → In x (xs ++ ys)
in_back x [] ys c = c
in_back x (y ∷ xs) ys c = there y (xs ++ ys) (in_back x xs ys c)

pub contained : {A : Type 0} (x : A) (xs : List A) → In x xs → Contains xs x
contained x [] c = elim c [ ]
contained x (y ∷ xs) (here ys) = (0, omega arith, refl)
contained x (y ∷ xs) (there z ys c) = let h = contained x xs c in let lt = h.1 in (suc h.0, omega (arith, lt), h.2)

pub walk_on : (step : ℕ → List ℕ) (a n m : ℕ) → Walk step a n → Contains (step n) m → Walk step a m
walk_on step a n m (Walk.Stays k) c = Walk.Goes k m m c (Walk.Stays m)
walk_on step a n m (Walk.Goes k j l d r) c = Walk.Goes k j m d (walk_on step j l m r c)

-- the next position is onward where the form goes on
pub next_onward : (f : Form) (n : ℕ) → continues f ≡ true → In (n + 1) (onward f n)
next_onward f n e = in_front (n + 1) (next_position (continues f) n) (targets f) (subst (λ b. In (n + 1) (next_position b n)) (sym e) (here []))

found_position : (p : NamedHandler → Bool) (hs : List NamedHandler) (h : NamedHandler) → find p hs ≡ Some h → In h.position (map (λ h. h.position) hs)
found_position p [] h e = clash true refl (ap (λ o. elim o as (λ o. Bool) [ Some y ↦ false | None ↦ true ]) e)
found_position p (y ∷ hs) h e = by (p y) (found_position p hs h) e
  where
    by : (b : Bool) → (find p hs ≡ Some h → In h.position (map (λ h. h.position) hs)) → cond b (Some y) (find p hs) ≡ Some h → In h.position (map (λ h. h.position) (y ∷ hs))
    by true k e = subst (λ z. In z (map (λ h. h.position) (y ∷ hs))) (ap (λ o. elim o as (λ o. ℕ) [ Some z ↦ z.position | None ↦ y.position ]) e) (here (map (λ h. h.position) hs))
    by false k e = there y.position (map (λ h. h.position) hs) (k e)

-- where a thrown object is caught is a handler of the position
pub caught_in : (above : Text → Bool) (n m : ℕ) (b : NamedBody) → handler_at above n b ≡ Some m → In m (handlers_at b n)
caught_in above n m b e = at (region_at b n) e
  where
    rest_in : (o : Option ℕ) → o ≡ Some m → In m (listed o)
    rest_in None e = clash true refl (ap (λ o. elim o as (λ o. Bool) [ Some y ↦ false | None ↦ true ]) e)
    rest_in (Some x) e = subst (λ z. In m (z ∷ [])) (sym (ap (λ o. elim o as (λ o. ℕ) [ Some z ↦ z | None ↦ m ]) e)) (here [])

    in_region : (r : NamedRegion) (o : Option NamedHandler) → find (λ h. above h.kind) r.handlers ≡ o → (elim o as (λ o. Option ℕ) [ Some h ↦ Some h.position | None ↦ r.rest ]) ≡ Some m → In m (handlers_of (Some r))
    in_region r None i e = in_back m (map (λ h. h.position) r.handlers) (listed r.rest) (rest_in r.rest e)
    in_region r (Some h) i e = in_front m (map (λ h. h.position) r.handlers) (listed r.rest)
        (subst (λ z. In z (map (λ h. h.position) r.handlers)) (ap (λ o. elim o as (λ o. ℕ) [ Some z ↦ z | None ↦ m ]) e) (found_position (λ h. above h.kind) r.handlers h i))

    at : (o : Option NamedRegion) → option_and_then (handler_in above) o ≡ Some m → In m (handlers_of o)
    at None e = clash true refl (ap (λ o. elim o as (λ o. Bool) [ Some y ↦ false | None ↦ true ]) e)
    at (Some r) e = in_region r (find (λ h. above h.kind) r.handlers) refl e
