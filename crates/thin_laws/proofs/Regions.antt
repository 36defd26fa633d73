-- Regions of a thinned body: those that cover something still, in their order.
use Rattle.std.proofs.Common.{◌≡◌, ℕ, zero, suc, ◌<◌, ◌≤◌, eq-eqb, Bool, true, false, List, [], ◌∷◌, length, refl, ap, ◌∙◌, subst, arith}
use Rattle.std.specs.Prelude.{◌&&◌, ◌||◌, not, Option, Some, None, map, filter, nat_eq, nat_lt, nat_le, slice_get, is_some, Contains}
use Rattle.std.specs.List.{list_all, list_any}
use Rattle.std.specs.Option.{option_map}
use Rattle.std.proofs.lemmas.Bool.{leb-true, le-leb, eqb-true}
use Rattle.lemmas.proofs.Bools.{and_right}
use Rattle.lemmas.proofs.Lists.{contains_here, contains_there, map_long}
use Rattle.lemmas.proofs.Numbers.{itself}
use mathlib.Core.Bool.{cond}
use Rattle.insn_set.specs.declared.form.Insn.{Insn}
use Rattle.program_model.specs.Neighbours.{neighbours}
use Rattle.program_model.specs.Texts.{has_type}
use Rattle.program_model.specs.RegionRules.{may_begin, handler_fits, rest_fits, catches, region_fits, are_apart, regions_fit}
use Rattle.program_model.specs.BodyRules.{handles_at, is_rest}
use Rattle.program_model.specs.declared.body.Handler.{Handler}
use Rattle.program_model.specs.declared.body.Region.{Region}
use Rattle.program_model.specs.declared.program.Program.{Program}
use Rattle.pass_defs.specs.Thinned.{Fate, place, insns_left, handler_moved, region_moved, rest_before, region_has_room}
use Rattle.program_laws.proofs.ChangedLists.{and_left, and_both}
use Rattle.thin_laws.proofs.PlacesLeft.{place_rises, place_end}

-- a region's handlers begin where handlers may
abbrev pub handlers_begin : List Insn → Region → Bool
handlers_begin insns r = list_all (λ h. may_begin (slice_get insns h.position)) r.handlers

abbrev pub rest_begins : List Insn → Region → Bool
rest_begins insns r = rest_fits insns r.rest

-- ---- order

-- regions that begin at a number or behind it, each with its end at its beginning or behind it, one behind another
abbrev Rising : ℕ → List Region → Type 0
Rising low [] = Unit {0}
Rising low (r ∷ rs) = (low ≤ r.first) × ((r.first ≤ r.end) × Rising r.end rs)

abbrev Begins : ℕ → List Region → Type 0
Begins low [] = Unit {0}
Begins low (r ∷ rs) = low ≤ r.first

least : (n : ℕ) → 0 ≤ n
least n = omega arith

upwards : (a b c : ℕ) → a ≤ b → b ≤ c → a ≤ c
upwards a b c l m = omega arith

below : (a b : ℕ) → nat_lt a b ≡ true → a ≤ b
below a b e = let l = leb-true _ b e in omega (arith, l)

rising_apart : (low : ℕ) (rs : List Region) → Rising low rs → list_all are_apart (neighbours rs) ≡ true
rising_apart low [] h = refl
rising_apart low (r ∷ []) h = refl
rising_apart low (r ∷ (s ∷ rs)) h = and_both (nat_le r.end s.first) (list_all are_apart (neighbours (s ∷ rs))) (le-leb r.end s.first h.1.1.0) (rising_apart r.end (s ∷ rs) h.1.1)

none_there : {A : Type 0} (k : ℕ) → k < 0 → A
none_there k l = let f : ⊥ = omega (arith, l) in absurd f

less : (k a : ℕ) → suc k < suc a → k < a
less k a l = omega arith

module _ (p : Program) (old : List Insn) (fs : List Fate) where
  abbrev at : ℕ → ℕ
  at = place fs

  abbrev new : List Insn
  new = insns_left at fs old

  -- a region that is left
  abbrev pub has_room : Region → Bool
  has_room r = region_has_room (length new) (region_moved at r)

  abbrev kept : List Region → List Region
  kept rs = filter (region_has_room (length new)) (map (region_moved at) rs)

  covers : (r : Region) → region_fits p old r ≡ true → (nat_lt r.first r.end && nat_le r.end (length old)) ≡ true
  covers r e = and_left (nat_lt r.first r.end && nat_le r.end (length old)) (catches r && (list_all (handler_fits p old) r.handlers && rest_fits old r.rest)) e

  rising_from : (low : ℕ) (rs : List Region) → Begins low rs → list_all (region_fits p old) rs ≡ true → list_all are_apart (neighbours rs) ≡ true → Rising low rs
  rising_from low [] l e a = tt
  rising_from low (r ∷ []) l e a = (l, (below r.first r.end (and_left (nat_lt r.first r.end) (nat_le r.end (length old)) (covers r (and_left (region_fits p old r) true e))), tt))
  rising_from low (r ∷ (s ∷ rs)) l e a = (
    l,
    (
      below r.first r.end (and_left (nat_lt r.first r.end) (nat_le r.end (length old)) (covers r (and_left (region_fits p old r) (list_all (region_fits p old) (s ∷ rs)) e))),
      rising_from r.end (s ∷ rs) (leb-true r.end s.first (and_left (nat_le r.end s.first) (list_all are_apart (neighbours (s ∷ rs))) a))
          (and_right (region_fits p old r) (list_all (region_fits p old) (s ∷ rs)) e) (and_right (nat_le r.end s.first) (list_all are_apart (neighbours (s ∷ rs))) a),
    ),
  )

  rising_kept : (low a : ℕ) → a ≤ at low → (rs : List Region) → Rising low rs → Rising a (kept rs)
  rising_kept low a l [] h = tt
  rising_kept low a l (r ∷ rs) h =
      let first : a ≤ at r.first = upwards a (at low) (at r.first) l (place_rises fs low r.first h.0) in
      let end : at r.first ≤ at r.end = place_rises fs r.first r.end h.1.0 in
      by (has_room r) first end (rising_kept r.end (at r.end) (itself (at r.end)) rs h.1.1) (rising_kept r.end a (upwards a (at r.first) (at r.end) first end) rs h.1.1)
    where
      by : (c : Bool) → a ≤ at r.first → at r.first ≤ at r.end → Rising (at r.end) (kept rs) → Rising a (kept rs) → Rising a (cond c (region_moved at r ∷ kept rs) (kept rs))
      by true first end k d = (first, (end, k))
      by false first end k d = d

  -- what holds of each region that covers something still
  pub kept_all : (f : Region → Bool) (rs : List Region) → ((r : Region) → Contains rs r → has_room r ≡ true → f (region_moved at r) ≡ true) → list_all f (kept rs) ≡ true
  kept_all f [] h = refl
  kept_all f (r ∷ rs) h = by (has_room r) refl (kept_all f rs (λ s i e. h s (contains_there r rs s i) e))
    where
      by : (c : Bool) → has_room r ≡ c → list_all f (kept rs) ≡ true → list_all f (cond c (region_moved at r ∷ kept rs) (kept rs)) ≡ true
      by true e k = and_both (f (region_moved at r)) (list_all f (kept rs)) (h r (contains_here r rs) e) k
      by false e k = k

  or_first : (a b : Bool) → a ≡ true → (a || b) ≡ true
  or_first a b e = ap (λ z. z || b) e

  or_second : (a b : Bool) → b ≡ true → (a || b) ≡ true
  or_second true b e = refl
  or_second false b e = e

  pub kept_any : (f : Region → Bool) (rs : List Region) (r : Region) → Contains rs r → has_room r ≡ true → f (region_moved at r) ≡ true → list_any f (kept rs) ≡ true
  kept_any f [] r (k, l, e) d h = none_there k l
  kept_any f (s ∷ rs) r (zero, l, e) d h = ap (λ c. list_any f (cond c (region_moved at s ∷ kept rs) (kept rs))) (ap (λ z. has_room z) e ∙ d)
      ∙ or_first (f (region_moved at s)) (list_any f (kept rs)) (ap (λ z. f (region_moved at z)) e ∙ h)
  kept_any f (s ∷ rs) r (suc k, l, e) d h = by (has_room s) (kept_any f rs r (k, less k (length rs) l, e) d h)
    where
      by : (c : Bool) → list_any f (kept rs) ≡ true → list_any f (cond c (region_moved at s ∷ kept rs) (kept rs)) ≡ true
      by true k = or_second (f (region_moved at s)) (list_any f (kept rs)) k
      by false k = k

  -- a handler that stands at a position stands at its place
  pub handles_there : (n : ℕ) (r : Region) → handles_at n r ≡ true → handles_at (at n) (region_moved at r) ≡ true
  handles_there n r e = by_rest r.rest (moved_any r.handlers) e
    where
      same_place : (k : ℕ) → nat_eq k n ≡ true → nat_eq (at k) (at n) ≡ true
      same_place k e = eq-eqb (at k) (at n) (ap at (eqb-true k n e))

      moved_any : (hs : List Handler) → list_any (λ (h : Handler). nat_eq h.position n) hs ≡ true → list_any (λ (h : Handler). nat_eq h.position (at n)) (map (handler_moved at) hs) ≡ true
      moved_any [] e = e
      moved_any (h ∷ hs) e = by (nat_eq h.position n) refl e (moved_any hs)
        where
          by : (c : Bool) → nat_eq h.position n ≡ c → (c || list_any (λ (h : Handler). nat_eq h.position n) hs) ≡ true
              → (list_any (λ (h : Handler). nat_eq h.position n) hs ≡ true → list_any (λ (h : Handler). nat_eq h.position (at n)) (map (handler_moved at) hs) ≡ true)
              → (nat_eq (at h.position) (at n) || list_any (λ (h : Handler). nat_eq h.position (at n)) (map (handler_moved at) hs)) ≡ true
          by true c e k = or_first (nat_eq (at h.position) (at n)) (list_any (λ (h : Handler). nat_eq h.position (at n)) (map (handler_moved at) hs)) (same_place h.position c)
          by false c e k = or_second (nat_eq (at h.position) (at n)) (list_any (λ (h : Handler). nat_eq h.position (at n)) (map (handler_moved at) hs)) (k e)

      rest_there : (o : Option ℕ) → is_rest n o ≡ true → is_rest (at n) (option_map at o) ≡ true
      rest_there None e = e
      rest_there (Some k) e = same_place k e

      by_rest : (o : Option ℕ) → (list_any (λ (h : Handler). nat_eq h.position n) r.handlers ≡ true → list_any (λ (h : Handler). nat_eq h.position (at n)) (map (handler_moved at) r.handlers) ≡ true)
          → (list_any (λ (h : Handler). nat_eq h.position n) r.handlers || is_rest n o) ≡ true → (list_any (λ (h : Handler). nat_eq h.position (at n)) (map (handler_moved at) r.handlers) || is_rest (at n) (option_map at o)) ≡ true
      by_rest o k e = by (list_any (λ (h : Handler). nat_eq h.position n) r.handlers) refl e
        where
          by : (c : Bool) → list_any (λ (h : Handler). nat_eq h.position n) r.handlers ≡ c → (c || is_rest n o) ≡ true
              → (list_any (λ (h : Handler). nat_eq h.position (at n)) (map (handler_moved at) r.handlers) || is_rest (at n) (option_map at o)) ≡ true
          by true c e = or_first (list_any (λ (h : Handler). nat_eq h.position (at n)) (map (handler_moved at) r.handlers)) (is_rest (at n) (option_map at o)) (k c)
          by false c e = or_second (list_any (λ (h : Handler). nat_eq h.position (at n)) (map (handler_moved at) r.handlers)) (is_rest (at n) (option_map at o)) (rest_there o e)

  -- ---- what regions are

  handlers_fit : (hs : List Handler) → list_all (handler_fits p old) hs ≡ true → list_all (λ (h : Handler). may_begin (slice_get new h.position)) (map (handler_moved at) hs) ≡ true → list_all (handler_fits p new) (map (handler_moved at) hs) ≡ true
  handlers_fit [] e d = refl
  handlers_fit (h ∷ hs) e d = and_both (has_type p h.kind && may_begin (slice_get new (at h.position))) (list_all (handler_fits p new) (map (handler_moved at) hs))
      (and_both (has_type p h.kind) (may_begin (slice_get new (at h.position)))
      (and_left (has_type p h.kind) (may_begin (slice_get old h.position)) (and_left (handler_fits p old h) (list_all (handler_fits p old) hs) e))
      (and_left (may_begin (slice_get new (at h.position))) (list_all (λ (h : Handler). may_begin (slice_get new h.position)) (map (handler_moved at) hs)) d))
      (handlers_fit hs (and_right (handler_fits p old h) (list_all (handler_fits p old) hs) e)
      (and_right (may_begin (slice_get new (at h.position))) (list_all (λ (h : Handler). may_begin (slice_get new h.position)) (map (handler_moved at) hs)) d))

  still_some : (o : Option ℕ) → is_some (option_map at o) ≡ is_some o
  still_some None = refl
  still_some (Some n) = refl

  catches_same : (r : Region) → catches (region_moved at r) ≡ catches r
  catches_same r = ap (λ n. not (nat_eq n 0) || is_some (option_map at r.rest)) (map_long (handler_moved at) r.handlers)
      ∙ ap (λ b. not (nat_eq (length r.handlers) 0) || b) (still_some r.rest)

  module _ (long : length fs ≡ length old) where
    ends_within : (n : ℕ) → nat_le n (length old) ≡ true → nat_le (at n) (length new) ≡ true
    ends_within n e = le-leb (at n) (length new) (subst (λ k. at n ≤ k) (place_end at fs old long) (place_rises fs n (length old) (leb-true n (length old) e)))

    covers_left : (r : Region) → has_room r ≡ true → nat_lt (at r.first) (at r.end) ≡ true
    covers_left r c = and_left (nat_lt (at r.first) (at r.end)) (list_all (λ (h : Handler). nat_lt h.position (length new)) (map (handler_moved at) r.handlers) && rest_before (length new) (option_map at r.rest)) c

    one_fits : (r : Region) → region_fits p old r ≡ true → has_room r ≡ true → handlers_begin new (region_moved at r) ≡ true → rest_begins new (region_moved at r) ≡ true → region_fits p new (region_moved at r) ≡ true
    one_fits r e c h d =
        let inner = and_right (nat_lt r.first r.end && nat_le r.end (length old)) (catches r && (list_all (handler_fits p old) r.handlers && rest_fits old r.rest)) e in
        and_both (nat_lt (at r.first) (at r.end) && nat_le (at r.end) (length new)) (catches (region_moved at r) && (list_all (handler_fits p new) (map (handler_moved at) r.handlers) && rest_fits new (option_map at r.rest)))
        (and_both (nat_lt (at r.first) (at r.end)) (nat_le (at r.end) (length new)) (covers_left r c) (ends_within r.end (and_right (nat_lt r.first r.end) (nat_le r.end (length old)) (covers r e))))
        (and_both (catches (region_moved at r)) (list_all (handler_fits p new) (map (handler_moved at) r.handlers) && rest_fits new (option_map at r.rest))
        (catches_same r ∙ and_left (catches r) (list_all (handler_fits p old) r.handlers && rest_fits old r.rest) inner)
        (and_both (list_all (handler_fits p new) (map (handler_moved at) r.handlers)) (rest_fits new (option_map at r.rest))
        (handlers_fit r.handlers (and_left (list_all (handler_fits p old) r.handlers) (rest_fits old r.rest) (and_right (catches r) (list_all (handler_fits p old) r.handlers && rest_fits old r.rest) inner)) h) d))

    each_kept : (rs : List Region) → list_all (region_fits p old) rs ≡ true → list_all (handlers_begin new) (kept rs) ≡ true → list_all (rest_begins new) (kept rs) ≡ true → list_all (region_fits p new) (kept rs) ≡ true
    each_kept [] e h d = refl
    each_kept (r ∷ rs) e h d = by (has_room r) refl h d (each_kept rs (and_right (region_fits p old r) (list_all (region_fits p old) rs) e))
      where
        x : Region
        x = region_moved at r

        by : (c : Bool) → has_room r ≡ c → list_all (handlers_begin new) (cond c (x ∷ kept rs) (kept rs)) ≡ true → list_all (rest_begins new) (cond c (x ∷ kept rs) (kept rs)) ≡ true
            → (list_all (handlers_begin new) (kept rs) ≡ true → list_all (rest_begins new) (kept rs) ≡ true → list_all (region_fits p new) (kept rs) ≡ true) → list_all (region_fits p new) (cond c (x ∷ kept rs) (kept rs)) ≡ true
        by true c h d k = and_both (region_fits p new x) (list_all (region_fits p new) (kept rs))
            (one_fits r (and_left (region_fits p old r) (list_all (region_fits p old) rs) e) c (and_left (handlers_begin new x) (list_all (handlers_begin new) (kept rs)) h) (and_left (rest_begins new x) (list_all (rest_begins new) (kept rs)) d))
            (k (and_right (handlers_begin new x) (list_all (handlers_begin new) (kept rs)) h) (and_right (rest_begins new x) (list_all (rest_begins new) (kept rs)) d))
        by false c h d k = k h d

    pub each_region_fits : (rs : List Region) → regions_fit p old rs ≡ true → list_all (region_fits p old) rs ≡ true
    unfolding regions_fit
    each_region_fits rs e = and_left (list_all (region_fits p old) rs) (list_all are_apart (neighbours rs)) e

    pub regions_left : (rs : List Region) → regions_fit p old rs ≡ true → list_all (handlers_begin new) (kept rs) ≡ true → list_all (rest_begins new) (kept rs) ≡ true → regions_fit p new (kept rs) ≡ true
    unfolding regions_fit
    regions_left rs e h d =
        let each = and_left (list_all (region_fits p old) rs) (list_all are_apart (neighbours rs)) e in
        let apart = and_right (list_all (region_fits p old) rs) (list_all are_apart (neighbours rs)) e in
        and_both (list_all (region_fits p new) (kept rs)) (list_all are_apart (neighbours (kept rs))) (each_kept rs each h d)
        (rising_apart 0 (kept rs) (rising_kept 0 0 (least (at 0)) rs (rising_from 0 rs (begins_low rs) each apart)))
      where
        begins_low : (rs : List Region) → Begins 0 rs
        begins_low [] = tt
        begins_low (r ∷ rs) = least r.first
