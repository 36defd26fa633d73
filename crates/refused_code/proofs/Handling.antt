-- Where the handlers of regions that are read begin, handlers begin, and nowhere else.
use Rattle.std.proofs.Common.{◌≡◌, ◌≤◌, ◌⊎◌, inl, inr, ℕ, zero, suc, ◌+◌, ◌*◌, Bool, true, false, cond, eqb, List, [], ◌∷◌, drop, Option, Some, None, Ok, refl, sym, ap, subst, ◌∙◌, arith, true≢false}
use Rattle.std.specs.Prelude.{slice_get}
use Rattle.std.specs.List.{list_any}
use Rattle.std.proofs.lemmas.Bool.{eqb-true, eq-eqb}
use Rattle.lemmas.proofs.Bools.{or_left, or_right, or_cases}
use Rattle.lemmas.proofs.Lists.{any_at}
use Rattle.lemmas.proofs.Options.{some_same}
use Rattle.dex_base.specs.Decides.{Entries}
use Rattle.program_model.specs.declared.body.Handler.{Handler}
use Rattle.program_model.specs.declared.body.Region.{Region}
use Rattle.code_read.specs.declared.sizes.Sizes.{Sizes}
use Rattle.code_read.specs.Marks.{is_rest, catches_at, is_handler}
use Rattle.code_read.specs.Regions.{regions_of}
use Rattle.dex_defs.specs.Sweep.{Places}
use Rattle.dex_defs.specs.Handlers.{Try, IsTry, Catches, covers, covering, IsHandler, AreHandlers, IsRest, IsRegion, AreRegions}
use Rattle.dex_defs.specs.CodeItems.{Frame, tries_at, lists_at}
use Rattle.dex_defs.specs.CodeFaults.{HasTries, HasCatches, IsHandlerAt}
use Rattle.dex_defs.specs.CodeFaults as bad
use Rattle.file_laws.proofs.Trying.{founds_regions}
use Rattle.spelled_law.proofs.Once.{each_once}
use Rattle.spelled_law.proofs.OnceCode.{catches_once, try_once}
use Rattle.refused_code.proofs.Caught.{any_got}
use Rattle.refused_code.proofs.Trying.{RisesFrom}

-- ---- one position for one unit

above : (low : ℕ) (ss : List ℕ) (i u : ℕ) → RisesFrom low ss → slice_get ss i ≡ Some u → low ≤ u
above low [] i u h e = absurd cc
above low (s ∷ ss) zero u h e = let same = some_same s u e in omega (arith, same, h.0)
above low (s ∷ ss) (suc i) u h e = let up = above (suc s) ss i u h.1 e in omega (arith, up, h.0)

one_place : (low : ℕ) (ss : List ℕ) (i j u : ℕ) → RisesFrom low ss → slice_get ss i ≡ Some u → slice_get ss j ≡ Some u → i ≡ j
one_place low [] i j u h a b = absurd cc
one_place low (s ∷ ss) zero zero u h a b = refl
one_place low (s ∷ ss) zero (suc j) u h a b = let same = some_same s u a in let up = above (suc s) ss j u h.1 b in absurd (omega (arith, same, up))
one_place low (s ∷ ss) (suc i) zero u h a b = let same = some_same s u b in let up = above (suc s) ss i u h.1 a in absurd (omega (arith, same, up))
one_place low (s ∷ ss) (suc i) (suc j) u h a b = ap suc (one_place (suc s) ss i j u h.1 a b)

-- ---- try items that cover positions

covering_got : (places : Places) (ts : List Try) (i : ℕ) (t : Try) → slice_get (covering places ts) i ≡ Some t → (place : ℕ) × (slice_get ts place ≡ Some t) × (covers places t ≡ true)
covering_got places [] i t h = absurd cc
covering_got places (x ∷ xs) i t h = by_cover (covers places x) refl i h (λ j. covering_got places xs j t)
  where
    by_cover : (b : Bool) → covers places x ≡ b → (i : ℕ) → slice_get (cond b (x ∷ covering places xs) (covering places xs)) i ≡ Some t → ((j : ℕ) → slice_get (covering places xs) j ≡ Some t → (place : ℕ) × (slice_get xs place ≡ Some t) × (covers places t ≡ true))
        → (place : ℕ) × (slice_get (x ∷ xs) place ≡ Some t) × (covers places t ≡ true)
    by_cover true e zero g later = let same : x ≡ t = some_same x t g in (0, g, subst (λ (y : Try). covers places y ≡ true) same e)
    by_cover true e (suc i) g later = let rest = later i g in (suc rest.0, rest.1, rest.2)
    by_cover false e i g later = let rest = later i g in (suc rest.0, rest.1, rest.2)

in_covering : (places : Places) (ts : List Try) (place : ℕ) (t : Try) → slice_get ts place ≡ Some t → covers places t ≡ true → (i : ℕ) × (slice_get (covering places ts) i ≡ Some t)
in_covering places [] place t h does = absurd cc
in_covering places (x ∷ xs) zero t h does =
    let same : x ≡ t = some_same x t h in
    (0, ap (λ (b : Bool). slice_get (cond b (x ∷ covering places xs) (covering places xs)) 0) (subst (λ (y : Try). covers places y ≡ true) (sym same) does) ∙ h)
in_covering places (x ∷ xs) (suc place) t h does = by_cover (covers places x) (in_covering places xs place t h does)
  where
    by_cover : (b : Bool) → (i : ℕ) × (slice_get (covering places xs) i ≡ Some t) → (i : ℕ) × (slice_get (cond b (x ∷ covering places xs) (covering places xs)) i ≡ Some t)
    by_cover true rest = (suc rest.0, rest.1)
    by_cover false rest = rest

module _ (bytes : List ℕ) (places : Places) (rises : RisesFrom 0 places.starts) (lists types : ℕ) where
  region_of : (ts : List Try) (rs : List Region) → AreRegions bytes places lists types ts rs → (i : ℕ) (r : Region) → slice_get rs i ≡ Some r → (t : Try) × (slice_get ts i ≡ Some t) × IsRegion bytes places lists types t r
  region_of [] [] h i r got = absurd cc
  region_of [] (x ∷ xs) h i r got = absurd h
  region_of (t ∷ ts) [] h i r got = absurd cc
  region_of (t ∷ ts) (x ∷ xs) h zero r got = (t, refl, subst (IsRegion bytes places lists types t) (some_same x r got) h.0)
  region_of (t ∷ ts) (x ∷ xs) h (suc i) r got = region_of ts xs h.1 i r got

  of_region : (ts : List Try) (rs : List Region) → AreRegions bytes places lists types ts rs → (i : ℕ) (t : Try) → slice_get ts i ≡ Some t → (r : Region) × (slice_get rs i ≡ Some r) × IsRegion bytes places lists types t r
  of_region [] [] h i t got = absurd cc
  of_region [] (x ∷ xs) h i t got = absurd h
  of_region (y ∷ ys) [] h i t got = absurd h
  of_region (y ∷ ys) (x ∷ xs) h zero t got = (x, refl, subst (λ (z : Try). IsRegion bytes places lists types z x) (some_same y t got) h.0)
  of_region (y ∷ ys) (x ∷ xs) h (suc i) t got = of_region ys xs h.1 i t got

  pair_of : (pairs : List (ℕ × ℕ)) (hs : List Handler) → AreHandlers places types pairs hs → (i : ℕ) (x : Handler) → slice_get hs i ≡ Some x → (pair : ℕ × ℕ) × (slice_get pairs i ≡ Some pair) × IsHandler places types pair x
  pair_of [] [] h i x got = absurd cc
  pair_of [] (y ∷ ys) h i x got = absurd h
  pair_of (p ∷ ps) [] h i x got = absurd cc
  pair_of (p ∷ ps) (y ∷ ys) h zero x got = (p, refl, subst (IsHandler places types p) (some_same y x got) h.0)
  pair_of (p ∷ ps) (y ∷ ys) h (suc i) x got = pair_of ps ys h.1 i x got

  handler_of : (pairs : List (ℕ × ℕ)) (hs : List Handler) → AreHandlers places types pairs hs → (i : ℕ) (pair : ℕ × ℕ) → slice_get pairs i ≡ Some pair → (x : Handler) × (slice_get hs i ≡ Some x) × IsHandler places types pair x
  handler_of [] [] h i pair got = absurd cc
  handler_of [] (y ∷ ys) h i pair got = absurd h
  handler_of (p ∷ ps) [] h i pair got = absurd h
  handler_of (p ∷ ps) (y ∷ ys) h zero pair got = (y, refl, subst (λ (q : ℕ × ℕ). IsHandler places types q y) (some_same p pair got) h.0)
  handler_of (p ∷ ps) (y ∷ ys) h (suc i) pair got = handler_of ps ys h.1 i pair got

  -- ---- a unit and its position

  module _ (k unit : ℕ) (begins : slice_get places.starts k ≡ Some unit) where
    -- a handler of the list begins at the unit
    abbrev HandledBy : Catches → Type 0
    HandledBy c = ((i kind : ℕ) × (slice_get c.pairs i ≡ Some (kind, unit))) ⊎ (c.rest ≡ Some unit)

    unit_is : (j u : ℕ) → slice_get places.starts j ≡ Some u → eqb j k ≡ true → u ≡ unit
    unit_is j u h e = some_same u unit (sym h ∙ ap (λ (n : ℕ). slice_get places.starts n) (eqb-true j k e) ∙ begins)

    place_is : (j u : ℕ) → slice_get places.starts j ≡ Some u → u ≡ unit → eqb j k ≡ true
    place_is j u h e = eq-eqb j k (one_place 0 places.starts j k unit rises (h ∙ ap (λ (n : ℕ). Some n) e) begins)

    rest_handles : (o r : Option ℕ) → IsRest places o r → is_rest r k ≡ true → o ≡ Some unit
    rest_handles None None h e = absurd cc
    rest_handles None (Some p) h e = absurd h
    rest_handles (Some u) None h e = absurd h
    rest_handles (Some u) (Some p) h e = ap (λ (n : ℕ). Some n) (unit_is p u h e)

    rest_marked : (o r : Option ℕ) → IsRest places o r → o ≡ Some unit → is_rest r k ≡ true
    rest_marked None r h e = absurd cc
    rest_marked (Some u) None h e = absurd h
    rest_marked (Some u) (Some p) h e = place_is p u h (some_same u unit e)

    handles : (c : Catches) (r : Region) → AreHandlers places types c.pairs r.handlers → IsRest places c.rest r.rest → catches_at k r ≡ true → HandledBy c
    handles c r are rest h = by_either (or_cases (list_any (λ (x : Handler). eqb x.position k) r.handlers) (is_rest r.rest k) h)
      where
        by_either : (list_any (λ (x : Handler). eqb x.position k) r.handlers ≡ true) ⊎ (is_rest r.rest k ≡ true) → HandledBy c
        by_either (inl e) =
            let g = any_got (λ (x : Handler). eqb x.position k) r.handlers e in
            let p = pair_of c.pairs r.handlers are g.0 g.1 g.2 in
            inl (g.0, p.0.0, p.1 ∙ ap (λ (u : ℕ). Some (p.0.0, u)) (unit_is g.1.position p.0.1 p.2.position g.3))
        by_either (inr e) = inr (rest_handles c.rest r.rest rest e)

    marked : (c : Catches) (r : Region) → AreHandlers places types c.pairs r.handlers → IsRest places c.rest r.rest → HandledBy c → catches_at k r ≡ true
    marked c r are rest (inl h) =
        let x = handler_of c.pairs r.handlers are h.0 (h.1, unit) h.2 in
        or_left (list_any (λ (x : Handler). eqb x.position k) r.handlers) (is_rest r.rest k) (any_at (λ (x : Handler). eqb x.position k) r.handlers h.0 x.0 x.1 (place_is x.0.position unit x.2.position refl))
    marked c r are rest (inr e) = or_right (list_any (λ (x : Handler). eqb x.position k) r.handlers) (is_rest r.rest k) (rest_marked c.rest r.rest rest e)

-- ---- all regions

module _ (bytes : List ℕ) (at : ℕ) (f : Frame) (places : Places) (rises : RisesFrom 0 places.starts) (sizes : Sizes) (many : sizes.tries ≡ f.tries) (regions : List Region) (read : regions_of (drop (tries_at at f) bytes) sizes places ≡ Ok regions) where
  abbrev tries : List Try
  tries = ((founds_regions bytes (tries_at at f) sizes places).found regions read).tries

  has : HasTries bytes at f tries
  has = record { are = subst (λ (n : ℕ). Entries n (λ i. IsTry bytes (tries_at at f + 8 * i)) tries) many ((founds_regions bytes (tries_at at f) sizes places).found regions read).are_tries }

  are_regions : AreRegions bytes places (lists_at at f) sizes.types (covering places tries) regions
  are_regions = subst (λ (n : ℕ). AreRegions bytes places (tries_at at f + 8 * n) sizes.types (covering places tries) regions) many ((founds_regions bytes (tries_at at f) sizes places).found regions read).regions_are

  module _ (k unit : ℕ) (begins : slice_get places.starts k ≡ Some unit) where
    pub is_handled : is_handler regions k ≡ true → IsHandlerAt bytes at f places unit
    is_handled h =
        let g = any_got (catches_at k) regions h in
        let t = region_of bytes places rises (lists_at at f) sizes.types (covering places tries) regions are_regions g.0 g.1 g.2 in
        let place = covering_got places tries g.0 t.0 t.1 in
        let r = t.2 in
        let catches : HasCatches bytes at f places r.catches = record { tries = tries; has = has; place = place.0; t = t.0; is = place.1; covers = place.2; are = r.are } in
        elim (handles bytes places rises (lists_at at f) sizes.types k unit begins r.catches g.1 r.handlers r.rest g.3) [
          | inl p ↦ bad.OfType r.catches p.0 p.1 catches p.2
          | inr e ↦ bad.OfAll r.catches catches e
        ]

    caught : (c : Catches) → HasCatches bytes at f places c → HandledBy bytes places rises (lists_at at f) sizes.types k unit begins c → is_handler regions k ≡ true
    caught c h by =
        let same : h.tries ≡ tries = each_once (λ i. IsTry bytes (tries_at at f + 8 * i)) (λ i. try_once bytes (tries_at at f + 8 * i)) 0 h.tries tries (h.has.are.0 ∙ sym has.are.0) h.has.are.1 has.are.1 in
        let i = in_covering places tries h.place h.t (subst (λ (ts : List Try). slice_get ts h.place ≡ Some h.t) same h.is) h.covers in
        let r = of_region bytes places rises (lists_at at f) sizes.types (covering places tries) regions are_regions i.0 h.t i.1 in
        let region = r.2 in
        let one : c ≡ region.catches = catches_once bytes (lists_at at f + h.t.offset) c region.catches h.are.stop region.are.stop h.are.are region.are.are in
        any_at (catches_at k) regions i.0 r.0 r.1 (marked bytes places rises (lists_at at f) sizes.types k unit begins region.catches r.0 region.handlers region.rest
        (subst (λ (x : Catches). HandledBy bytes places rises (lists_at at f) sizes.types k unit begins x) one by))

    handler_marked : IsHandlerAt bytes at f places unit → is_handler regions k ≡ true
    handler_marked (bad.OfType c i kind h got) = caught c h (inl (i, kind, got))
    handler_marked (bad.OfAll c h got) = caught c h (inr got)

    pub none_handled : is_handler regions k ≡ false → IsHandlerAt bytes at f places unit → ⊥
    none_handled lacks h = true≢false (sym (handler_marked h) ∙ lacks)
