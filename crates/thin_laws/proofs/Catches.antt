-- What catches at a position that is left, caught there before.
use Rattle.std.proofs.Common.{◌≡◌, ℕ, suc, ◌<◌, Bool, true, false, true≢false, List, [], ◌∷◌, ◌++◌, length, refl, sym, ap, ◌∙◌, subst, arith, lt-ltb}
use Rattle.std.specs.Prelude.{◌&&◌, Option, Some, None, slice_get, find, filter, map, nat_lt, nat_le, Contains}
use Rattle.std.specs.List.{list_all}
use Rattle.std.specs.Option.{option_map, option_and_then}
use mathlib.Core.Bool.{cond}
use Rattle.std.proofs.lemmas.Bool.{leb-true, le-leb}
use Rattle.std.proofs.lemmas.List.Elements.{Contains-append_left, Contains-append_right}
use Rattle.lemmas.proofs.Lists.{contains_here, contains_there}
use Rattle.dalvik_defs.specs.Names.{Text}
use Rattle.dalvik_defs.specs.Stack.{covers, handler_in, handler_at}
use Rattle.dalvik_defs.specs.declared.program.NamedBody.{NamedBody}
use Rattle.dalvik_defs.specs.declared.program.NamedRegion.{NamedRegion}
use Rattle.dalvik_defs.specs.declared.program.NamedHandler.{NamedHandler}
use Rattle.pass_defs.specs.Thinned.{Fate, place, forms_left, moved_handler, moved, rest_before, has_room, thinned}
use Rattle.pass_defs.specs.Walks.{listed, handlers_of, handlers_at}
use Rattle.program_laws.proofs.ChangedLists.{and_both}
use Rattle.thin_laws.proofs.Places.{IsLeft, at_least, before}

-- some positions come to stand before an end
abbrev pub AreBefore : List Fate → ℕ → List ℕ → Type 0
AreBefore fs end ns = (m : ℕ) → Contains ns m → place fs m < end

module _ (fs : List Fate) (end n : ℕ) (left : IsLeft (slice_get fs n)) where
  covers_same : (r : NamedRegion) → covers (place fs n) (moved (place fs) r) ≡ covers n r
  covers_same r = ap (λ b. b && nat_lt (place fs n) (place fs r.end)) (at_least fs n r.first left) ∙ ap (λ b. nat_le r.first n && b) (before fs n r.end left)

  both_left : (a b : Bool) → (a && b) ≡ true → a ≡ true
  both_left true b e = refl
  both_left false b e = e

  both_right : (a b : Bool) → (a && b) ≡ true → b ≡ true
  both_right true b e = e
  both_right false b e = absurd (true≢false (sym e))

  handlers_before : (hs : List NamedHandler) → AreBefore fs end (map (λ h. h.position) hs) → list_all (λ (h : NamedHandler). nat_lt h.position end) (map (moved_handler (place fs)) hs) ≡ true
  handlers_before [] i = refl
  handlers_before (h ∷ hs) i = and_both (nat_lt (place fs h.position) end) (list_all (λ (h : NamedHandler). nat_lt h.position end) (map (moved_handler (place fs)) hs))
      (lt-ltb (place fs h.position) end (i h.position (contains_here h.position (map (λ h. h.position) hs))))
      (handlers_before hs (λ m c. i m (contains_there h.position (map (λ h. h.position) hs) m c)))

  rest_is_before : (o : Option ℕ) → AreBefore fs end (listed o) → rest_before end (option_map (place fs) o) ≡ true
  rest_is_before None i = refl
  rest_is_before (Some k) i = lt-ltb (place fs k) end (i k (contains_here k []))

  room : (r : NamedRegion) → covers n r ≡ true → AreBefore fs end (handlers_of (Some r)) → has_room end (moved (place fs) r) ≡ true
  room r e i =
      let a = leb-true (place fs r.first) (place fs n) (at_least fs n r.first left ∙ both_left (nat_le r.first n) (nat_lt n r.end) e) in
      let b = leb-true (suc (place fs n)) (place fs r.end) (before fs n r.end left ∙ both_right (nat_le r.first n) (nat_lt n r.end) e) in
      and_both (nat_lt (place fs r.first) (place fs r.end)) (list_all (λ (h : NamedHandler). nat_lt h.position end) (map (moved_handler (place fs)) r.handlers) && rest_before end (option_map (place fs) r.rest))
      (le-leb (suc (place fs r.first)) (place fs r.end) (omega (arith, a, b)))
      (and_both (list_all (λ (h : NamedHandler). nat_lt h.position end) (map (moved_handler (place fs)) r.handlers)) (rest_before end (option_map (place fs) r.rest))
      (handlers_before r.handlers (λ m c. i m (Contains-append_left (map (λ h. h.position) r.handlers) (listed r.rest) m c)))
      (rest_is_before r.rest (λ m c. i m (Contains-append_right (map (λ h. h.position) r.handlers) (listed r.rest) m c))))

  abbrev kept : List NamedRegion → List NamedRegion
  kept rs = filter (has_room end) (map (moved (place fs)) rs)

  -- the handlers of the region that covers the position stand before the end, so that it is left
  pub region_same : (rs : List NamedRegion) → ((r : NamedRegion) → find (covers n) rs ≡ Some r → AreBefore fs end (handlers_of (Some r))) → find (covers (place fs n)) (kept rs) ≡ option_map (moved (place fs)) (find (covers n) rs)
  region_same [] i = refl
  region_same (r ∷ rs) i = by (covers n r) (has_room end (moved (place fs) r)) refl refl (region_same rs)
    where
      first : covers n r ≡ true → find (covers n) (r ∷ rs) ≡ Some r
      first e = ap (λ z. cond z (Some r) (find (covers n) rs)) e

      further : covers n r ≡ false → (s : NamedRegion) → find (covers n) rs ≡ Some s → AreBefore fs end (handlers_of (Some s))
      further e s k = i s (ap (λ z. cond z (Some r) (find (covers n) rs)) e ∙ k)

      by : (b d : Bool) → covers n r ≡ b → has_room end (moved (place fs) r) ≡ d
          → (((s : NamedRegion) → find (covers n) rs ≡ Some s → AreBefore fs end (handlers_of (Some s))) → find (covers (place fs n)) (kept rs) ≡ option_map (moved (place fs)) (find (covers n) rs))
          → find (covers (place fs n)) (cond (has_room end (moved (place fs) r)) (moved (place fs) r ∷ kept rs) (kept rs)) ≡ option_map (moved (place fs)) (cond (covers n r) (Some r) (find (covers n) rs))
      by true d e _ k = ap (λ z. find (covers (place fs n)) (cond z (moved (place fs) r ∷ kept rs) (kept rs))) (room r e (i r (first e)))
          ∙ ap (λ z. cond z (Some (moved (place fs) r)) (find (covers (place fs n)) (kept rs))) (covers_same r ∙ e)
          ∙ ap (λ z. option_map (moved (place fs)) (cond z (Some r) (find (covers n) rs))) (sym e)
      by false true e d k = ap (λ z. find (covers (place fs n)) (cond z (moved (place fs) r ∷ kept rs) (kept rs))) d
          ∙ ap (λ z. cond z (Some (moved (place fs) r)) (find (covers (place fs n)) (kept rs))) (covers_same r ∙ e)
          ∙ k (further e) ∙ ap (λ z. option_map (moved (place fs)) (cond z (Some r) (find (covers n) rs))) (sym e)
      by false false e d k = ap (λ z. find (covers (place fs n)) (cond z (moved (place fs) r ∷ kept rs) (kept rs))) d
          ∙ k (further e) ∙ ap (λ z. option_map (moved (place fs)) (cond z (Some r) (find (covers n) rs))) (sym e)

moved_in : (at : ℕ → ℕ) (above : Text → Bool) (rest : Option ℕ) (hs : List NamedHandler)
    → elim (find (λ h. above h.kind) (map (moved_handler at) hs)) as (λ o. Option ℕ) [ Some h ↦ Some h.position | None ↦ option_map at rest ] ≡ option_map at (elim (find (λ h. above h.kind) hs) as (λ o. Option ℕ) [ Some h ↦ Some h.position | None ↦ rest ])
moved_in at above rest [] = refl
moved_in at above rest (h ∷ hs) = by (above h.kind) (moved_in at above rest hs)
  where
    by : (b : Bool) → elim (find (λ h. above h.kind) (map (moved_handler at) hs)) as (λ o. Option ℕ) [ Some h ↦ Some h.position | None ↦ option_map at rest ] ≡ option_map at (elim (find (λ h. above h.kind) hs) as (λ o. Option ℕ) [ Some h ↦ Some h.position | None ↦ rest ])
        → elim (cond b (Some (moved_handler at h)) (find (λ h. above h.kind) (map (moved_handler at) hs))) as (λ o. Option ℕ) [ Some h ↦ Some h.position | None ↦ option_map at rest ]
        ≡ option_map at (elim (cond b (Some h) (find (λ h. above h.kind) hs)) as (λ o. Option ℕ) [ Some h ↦ Some h.position | None ↦ rest ])
    by true k = refl
    by false k = k

-- how many positions are left
abbrev pub end_of : List Fate → NamedBody → ℕ
end_of fs b = length (forms_left (place fs) fs b.forms)

-- the handlers at a position are those of its region
pub region_before : (fs : List Fate) (b : NamedBody) (n : ℕ) → AreBefore fs (end_of fs b) (handlers_at b n) → (r : NamedRegion) → find (covers n) b.regions ≡ Some r → AreBefore fs (end_of fs b) (handlers_of (Some r))
region_before fs b n i r e = subst (λ o. AreBefore fs (end_of fs b) (handlers_of o)) e i

pub handlers_same : (fs : List Fate) (b : NamedBody) (n : ℕ) → IsLeft (slice_get fs n) → AreBefore fs (end_of fs b) (handlers_at b n)
    → (above : Text → Bool) → handler_at above (place fs n) (thinned fs b) ≡ option_map (place fs) (handler_at above n b)
handlers_same fs b n left i above = ap (option_and_then (handler_in above)) (region_same fs (end_of fs b) n left b.regions (region_before fs b n i)) ∙ by (find (covers n) b.regions)
  where
    by : (o : Option NamedRegion) → option_and_then (handler_in above) (option_map (moved (place fs)) o) ≡ option_map (place fs) (option_and_then (handler_in above) o)
    by None = refl
    by (Some r) = moved_in (place fs) above r.rest r.handlers
