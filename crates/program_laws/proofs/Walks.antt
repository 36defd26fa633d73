-- Where walks and handlers go.
use Rattle.std.proofs.Common.{◌≡◌, ℕ, ◌+◌, Bool, true, false, List, [], ◌∷◌, ◌++◌, sym, ap, subst}
use Rattle.std.specs.Prelude.{Option, Some, None, find, Contains, map}
use Rattle.std.specs.Option.{option_and_then}
use Rattle.std.proofs.lemmas.List.Elements.{Contains-append_left, Contains-append_right}
use Rattle.lemmas.proofs.Lists.{contains_here, contains_there}
use Rattle.lemmas.proofs.Options.{none_some, some_same}
use mathlib.Core.Bool.{cond}
use Rattle.dalvik_defs.specs.Names.{Text}
use Rattle.dalvik_defs.specs.Stack.{covers, handler_in, handler_at}
use Rattle.dalvik_defs.specs.declared.forms.Form.{Form}
use Rattle.dalvik_defs.specs.declared.program.NamedBody.{NamedBody}
use Rattle.dalvik_defs.specs.declared.program.NamedRegion.{NamedRegion}
use Rattle.dalvik_defs.specs.declared.program.NamedHandler.{NamedHandler}
use Rattle.pass_defs.specs.Bare.{may_throw, continues, targets}
use Rattle.pass_defs.specs.Walks.{form_at, onward, caught, successors, next_position, handlers_at, handlers_of, listed, region_at, Walk, Stays as Arrives, Goes as Steps}

pub walk_on : (succ : ℕ → List ℕ) (a n m : ℕ) → Walk succ a n → Contains (succ n) m → Walk succ a m
walk_on succ a n m (Arrives _) i = Steps n m m i (Arrives m)
walk_on succ a n m (Steps _ k _ j w) i = Steps a k m j (walk_on succ k n m w i)

module _ (b : NamedBody) (n : ℕ) (x : Form) (here : form_at b n ≡ Some x) where
  pub goes_onward : (m : ℕ) → Contains (onward x n) m → Contains (successors b n) m
  goes_onward m i = subst (λ o. Contains (elim o as (λ o. List ℕ) [ Some f ↦ onward f n ++ caught b f n | None ↦ [] ]) m) (sym here) (Contains-append_left (onward x n) (caught b x n) m i)

  pub goes_caught : (m : ℕ) → Contains (caught b x n) m → Contains (successors b n) m
  goes_caught m i = subst (λ o. Contains (elim o as (λ o. List ℕ) [ Some f ↦ onward f n ++ caught b f n | None ↦ [] ]) m) (sym here) (Contains-append_right (onward x n) (caught b x n) m i)

pub goes_next : (x : Form) (n : ℕ) → continues x ≡ true → Contains (onward x n) (n + 1)
goes_next x n e = subst (λ b. Contains (next_position b n ++ targets x) (n + 1)) (sym e) (contains_here (n + 1) (targets x))

pub goes_there : (x : Form) (n m : ℕ) → Contains (targets x) m → Contains (onward x n) m
goes_there x n m i = Contains-append_right (next_position (continues x) n) (targets x) m i

-- ---- handlers

handler_listed : (above : Text → Bool) (rest : Option ℕ) (hs : List NamedHandler) (m : ℕ)
    → elim (find (λ h. above h.kind) hs) as (λ o. Option ℕ) [ Some h ↦ Some h.position | None ↦ rest ] ≡ Some m → Contains (map (λ h. h.position) hs ++ listed rest) m
handler_listed above None [] m e = none_some m e
handler_listed above (Some k) [] m e = subst (λ z. Contains (k ∷ []) z) (some_same k m e) (contains_here k [])
handler_listed above rest (h ∷ hs) m e = by (above h.kind) e (handler_listed above rest hs m)
  where
    by : (b : Bool) → elim (cond b (Some h) (find (λ h. above h.kind) hs)) as (λ o. Option ℕ) [ Some h ↦ Some h.position | None ↦ rest ] ≡ Some m
        → (elim (find (λ h. above h.kind) hs) as (λ o. Option ℕ) [ Some h ↦ Some h.position | None ↦ rest ] ≡ Some m → Contains (map (λ h. h.position) hs ++ listed rest) m)
        → Contains (map (λ h. h.position) (h ∷ hs) ++ listed rest) m
    by true i k = subst (λ z. Contains (map (λ h. h.position) (h ∷ hs) ++ listed rest) z) (some_same h.position m i) (contains_here h.position (map (λ h. h.position) hs ++ listed rest))
    by false i k = contains_there h.position (map (λ h. h.position) hs ++ listed rest) m (k i)

pub handler_caught : (above : Text → Bool) (b : NamedBody) (n : ℕ) (x : Form) (m : ℕ) → may_throw x ≡ true → handler_at above n b ≡ Some m → Contains (caught b x n) m
handler_caught above b n x m t e = subst (λ z. Contains (elim z as (λ z. List ℕ) [ true ↦ handlers_at b n | false ↦ [] ]) m) (sym t) (by (region_at b n) e)
  where
    by : (o : Option NamedRegion) → option_and_then (handler_in above) o ≡ Some m → Contains (handlers_of o) m
    by None e = none_some m e
    by (Some r) e = handler_listed above r.rest r.handlers m e

pub no_handler : (above : Text → Bool) (b : NamedBody) (n : ℕ) → b.regions ≡ [] → handler_at above n b ≡ None
no_handler above b n e = ap (λ rs. option_and_then (handler_in above) (find (covers n) rs)) e
