-- Regions that are read have no fault of a try item or of a handler list.
use Rattle.std.proofs.Common.{◌≡◌, ◌≤◌, ℕ, zero, suc, ◌+◌, ◌-◌, ◌*◌, Bool, true, false, cond, ltb, leb, eqb, List, [], ◌∷◌, ◌++◌, length, take, drop, Option, Some, None, Result, Ok, Err, refl, sym, ap, subst, ◌∙◌, arith}
use Rattle.std.specs.Prelude.{◌&&◌, slice_get}
use Rattle.std.specs.List.{list_any}
use Rattle.std.specs.Result.{result_ok}
use Rattle.std.proofs.lemmas.Bool.{ltb-false, leb-true, eq-eqb}
use Rattle.lemmas.proofs.Bools.{and_left, and_right, and_both, clash}
use Rattle.lemmas.proofs.Lists.{any_at}
use Rattle.lemmas.proofs.Options.{some_same}
use Rattle.dex_base.specs.Decides.{Entries}
use Rattle.dex_base.specs.Word.{u16_at, u32_at}
use Rattle.program_model.specs.declared.body.Handler.{Handler}
use Rattle.program_model.specs.declared.body.Region.{Region}
use Rattle.line_tables.specs.Item.{count_below}
use Rattle.code_read.specs.declared.fault.CodeFault.{CodeFault}
use Rattle.code_read.specs.declared.fault.CodeFault.TheVariants as code
use Rattle.code_read.specs.declared.sizes.Sizes.{Sizes}
use Rattle.code_read.specs.Handlers.{◌>?=◌, has_list, caught_at, caught_count}
use Rattle.code_read.specs.Positions.{begins_with}
use Rattle.code_read.specs.Regions.{are_apart, try_at, try_item, first_of, end_of, lies_right, region, with_handlers, region_of, region_at, keep, regions_from, regions_of}
use Rattle.dex_defs.specs.Sweep.{Places}
use Rattle.dex_defs.specs.Handlers.{Try, IsTry, Catches, AreCatchesAt, covers, covering, end_position, IsHandler, AreHandlers, IsRest, IsRegion, AreRegions}
use Rattle.dex_defs.specs.CodeItems.{Frame, tries_at, lists_at}
use Rattle.dex_defs.specs.CodeFaults.{NoPosition, HasTries, BadRegion, BadCatches, BadTry}
use Rattle.dex_defs.specs.CodeFaults as bad
use Rattle.file_laws.specs.Founds.{Founds}
use Rattle.file_laws.proofs.Founding.{weaker, done, failed, when, either, next}
use Rattle.file_laws.proofs.Trying.{founds_regions}
use Rattle.spelled_law.proofs.Once.{each_once}
use Rattle.spelled_law.proofs.OnceCode.{catches_once, try_once}
use Rattle.refused_code.proofs.Trying.{RisesFrom}

-- ---- regions that are read lie one behind another

founds_with : (place first end left : ℕ) (o : Option (List Handler × Option ℕ)) → Founds (λ r. (caught : List Handler × Option ℕ) × (r ≡ Some (region first end caught.0 caught.1))) (with_handlers place first end left o)
founds_with place first end left None = failed _
founds_with place first end left (Some caught) = weaker (with_handlers place first end left (Some caught)) (when _ (done (Some (region first end caught.0 caught.1)))) (λ y p. (caught, p.1))

abbrev IsBehind : ℕ → Option Region → Type 0
IsBehind from None = Unit {0}
IsBehind from (Some r) = leb from r.first ≡ true

lies_behind : (places : Places) (s c o from : ℕ) → lies_right places (try_item s c o) from ≡ true → leb from (first_of places (try_item s c o)) ≡ true
lies_behind places s c o from h =
    let begins : Bool = begins_with (slice_get places.starts (first_of places (try_item s c o))) s in
    let room : Bool = leb (s + c) (length places.units) in
    let rest : Bool = leb from (first_of places (try_item s c o)) in
    and_right room rest (and_right begins (room && rest) h)

founds_item : (lists : List ℕ) (types : ℕ) (places : Places) (place from left s c o : ℕ) → Founds (IsBehind from) (region_of lists types places place from left (Some (try_item s c o)))
founds_item lists types places place from left s c o =
    let first : ℕ = first_of places (try_item s c o) in
    let end : ℕ = end_of places (try_item s c o) in
    let caught : Result (Option Region) CodeFault = with_handlers place first end left (caught_at lists places.starts types o) in
    let listed : Result (Option Region) CodeFault = cond (has_list lists o) caught (Err (code.Handler place)) in
    either {b = ltb first end} {read = cond (lies_right places (try_item s c o) from) listed (Err (code.Region place))} {other = Ok None}
    (λ _. weaker (cond (lies_right places (try_item s c o) from) listed (Err (code.Region place)))
    (when (code.Region place) (when (code.Handler place) (founds_with place first end left (caught_at lists places.starts types o))))
    (λ y p. subst (IsBehind from) (sym p.1.1.1) (lies_behind places s c o from p.0)))
    (λ _. weaker (Ok None) (done None) (λ y p. subst (IsBehind from) (sym p) tt))

founds_read : (lists : List ℕ) (types : ℕ) (places : Places) (place from left : ℕ) (a b c : Option ℕ) → Founds (IsBehind from) (region_of lists types places place from left (a >?= λ start. b >?= λ count. c >?= λ offset. Some (try_item start count offset)))
founds_read lists types places place from left None b c = failed _
founds_read lists types places place from left (Some start) None c = failed _
founds_read lists types places place from left (Some start) (Some count) None = failed _
founds_read lists types places place from left (Some start) (Some count) (Some offset) = founds_item lists types places place from left start count offset

founds_region : (tries lists : List ℕ) (types : ℕ) (places : Places) (place from left : ℕ) → Founds (IsBehind from) (region_at tries lists types places place from left)
unfolding region_at try_at
founds_region tries lists types places place from left =
    founds_read lists types places place from left (result_ok (u32_at tries (8 * place))) (result_ok (u16_at tries (8 * place + 4))) (result_ok (u16_at tries (8 * place + 6)))

founds_apart : (tries lists : List ℕ) (types : ℕ) (places : Places) (n place from left : ℕ) → Founds (λ rs. are_apart from rs ≡ true) (regions_from tries lists types places n place from left)
founds_apart tries lists types places zero place from left = weaker (Ok []) (done []) (λ y p. subst (λ (rs : List Region). are_apart from rs ≡ true) (sym p) refl)
founds_apart tries lists types places (suc n) place from left = weaker (regions_from tries lists types places (suc n) place from left)
    (next (founds_region tries lists types places place from left) (λ kept h. by_kept kept h (λ f l. founds_apart tries lists types places n (suc place) f l)))
    (λ y p. p.2)
  where
    by_kept : (kept : Option Region) → IsBehind from kept → ((f l : ℕ) → Founds (λ rs. are_apart f rs ≡ true) (regions_from tries lists types places n (suc place) f l))
        → Founds (λ rs. are_apart from rs ≡ true) (keep kept (λ f l. regions_from tries lists types places n (suc place) f l) from left)
    by_kept None h more = more from left
    by_kept (Some r) h more = weaker (keep (Some r) (λ f l. regions_from tries lists types places n (suc place) f l) from left)
        (next (more r.end (left - caught_count r.handlers r.rest)) (λ rs _. done (r ∷ rs)))
        (λ y p. subst (λ (rs : List Region). are_apart from rs ≡ true) (sym p.2) (and_both (leb from r.first) (are_apart r.end p.0) h p.1))

founds_all_apart : (tries : List ℕ) (sizes : Sizes) (places : Places) → Founds (λ rs. are_apart 0 rs ≡ true) (regions_of tries sizes places)
unfolding regions_of
founds_all_apart tries sizes places = founds_apart tries (drop (8 * sizes.tries) tries) sizes.types places sizes.tries 0 0 sizes.items

-- ---- positions

lowest : (low : ℕ) (ss : List ℕ) (i u : ℕ) → RisesFrom low ss → slice_get ss i ≡ Some u → low ≤ u
lowest low [] i u h e = absurd cc
lowest low (s ∷ ss) zero u h e = let same = some_same s u e in let first = h.0 in omega (arith, same, first)
lowest low (s ∷ ss) (suc i) u h e = let up = lowest (suc s) ss i u h.1 e in let first = h.0 in omega (arith, up, first)

-- a position that isn't among those below a unit begins at it or behind it
not_below : (unit low : ℕ) (ss : List ℕ) (i u : ℕ) → RisesFrom low ss → count_below unit ss ≤ i → slice_get ss i ≡ Some u → unit ≤ u
not_below unit low [] i u h le e = absurd cc
not_below unit low (s ∷ ss) i u h le e = by_test (ltb s unit) refl i le e (λ j. not_below unit (suc s) ss j u h.1)
  where
    by_test : (b : Bool) → ltb s unit ≡ b → (i : ℕ) → cond b (suc (count_below unit ss)) 0 ≤ i → slice_get (s ∷ ss) i ≡ Some u → ((j : ℕ) → count_below unit ss ≤ j → slice_get ss j ≡ Some u → unit ≤ u) → unit ≤ u
    by_test true g zero le e rest = absurd (omega (arith, le))
    by_test true g (suc j) le e rest = rest j (omega (arith, le)) e
    by_test false g i le e rest = let over = ltb-false s unit g in let up = lowest s (s ∷ ss) i u (omega arith, h.1) e in omega (arith, over, up)

is_position : (places : Places) (i unit : ℕ) → slice_get places.starts i ≡ Some unit → NoPosition places unit → ⊥
is_position places i unit e none = clash (list_any (λ u. eqb u unit) places.starts) (any_at (λ u. eqb u unit) places.starts i unit e (eq-eqb unit unit refl)) none

-- ---- the region of a try item that covers positions

covered : (places : Places) (ts : List Try) (place : ℕ) (t : Try) → slice_get ts place ≡ Some t → covers places t ≡ true → (ys : List Try) × (covering places ts ≡ covering places (take place ts) ++ t ∷ ys)
covered places [] place t h does = absurd cc
covered places (x ∷ xs) zero t h does =
    let same : x ≡ t = some_same x t h in
    (covering places xs, ap (λ (b : Bool). cond b (x ∷ covering places xs) (covering places xs)) (subst (λ (y : Try). covers places y ≡ true) (sym same) does) ∙ ap (λ (y : Try). y ∷ covering places xs) same)
covered places (x ∷ xs) (suc place) t h does = by_cover (covers places x) (covered places xs place t h does)
  where
    by_cover : (b : Bool) → (ys : List Try) × (covering places xs ≡ covering places (take place xs) ++ t ∷ ys)
        → (ys : List Try) × (cond b (x ∷ covering places xs) (covering places xs) ≡ cond b (x ∷ covering places (take place xs)) (covering places (take place xs)) ++ t ∷ ys)
    by_cover true rest = (rest.0, ap (λ (zs : List Try). x ∷ zs) rest.1)
    by_cover false rest = rest

module _ (bytes : List ℕ) (places : Places) (lists types : ℕ) where
  abbrev Are : List Try → List Region → Type 0
  Are ts rs = AreRegions bytes places lists types ts rs

  region_there : (xs : List Try) (t : Try) (ys : List Try) (rs : List Region) → Are (xs ++ t ∷ ys) rs → (r : Region) × IsRegion bytes places lists types t r
  region_there [] t ys [] h = absurd h
  region_there [] t ys (r ∷ rs) h = (r, h.0)
  region_there (x ∷ xs) t ys [] h = absurd h
  region_there (x ∷ xs) t ys (r ∷ rs) h = region_there xs t ys rs h.1

  -- with the one before it
  region_behind : (xs : List Try) (before t : Try) (ys : List Try) (from : ℕ) (rs : List Region) → Are ((xs ++ before ∷ []) ++ t ∷ ys) rs → are_apart from rs ≡ true
      → (r : Region) × IsRegion bytes places lists types t r × (end_position places before ≤ r.first)
  region_behind [] before t ys from [] h a = absurd h
  region_behind [] before t ys from (q ∷ []) h a = absurd h.1
  region_behind [] before t ys from (q ∷ r ∷ rs) h a =
      let le = leb-true q.end r.first (and_left (leb q.end r.first) (are_apart r.end rs) (and_right (leb from q.first) (leb q.end r.first && are_apart r.end rs) a)) in
      let ends = h.0.ends in
      (r, h.1.0, omega (arith, le, ends))
  region_behind (x ∷ xs) before t ys from [] h a = absurd h
  region_behind (x ∷ xs) before t ys from (q ∷ rs) h a = region_behind xs before t ys q.end rs h.1 (and_right (leb from q.first) (are_apart q.end rs) a)

  handler_there : (pairs : List (ℕ × ℕ)) (hs : List Handler) → AreHandlers places types pairs hs → (i : ℕ) (pair : ℕ × ℕ) → slice_get pairs i ≡ Some pair → (x : Handler) × IsHandler places types pair x
  handler_there [] hs h i pair got = absurd cc
  handler_there (p ∷ ps) [] h i pair got = absurd h
  handler_there (p ∷ ps) (y ∷ ys) h zero pair got = (y, subst (λ (q : ℕ × ℕ). IsHandler places types q y) (some_same p pair got) h.0)
  handler_there (p ∷ ps) (y ∷ ys) h (suc i) pair got = handler_there ps ys h.1 i pair got

  rest_there : (o r : Option ℕ) → IsRest places o r → (unit : ℕ) → o ≡ Some unit → (i : ℕ) × (slice_get places.starts i ≡ Some unit)
  rest_there None r h unit e = absurd cc
  rest_there (Some u) None h unit e = absurd h
  rest_there (Some u) (Some p) h unit e = (p, h ∙ ap (λ (n : ℕ). Some n) (some_same u unit e))

  no_catches : (c : Catches) (hs : List Handler) (rest : Option ℕ) → AreHandlers places types c.pairs hs → IsRest places c.rest rest → BadCatches places types c → ⊥
  no_catches c hs rest are is (bad.Kind i kind unit got over) = let x = handler_there c.pairs hs are i (kind, unit) got in let below = x.1.below in omega (arith, over, below)
  no_catches c hs rest are is (bad.Unit i kind unit got none) = let x = handler_there c.pairs hs are i (kind, unit) got in is_position places x.0.position unit x.1.position none
  no_catches c hs rest are is (bad.Rest unit e none) = let p = rest_there c.rest rest is unit e in is_position places p.0 unit p.1 none

-- ---- all of them

module _ (bytes : List ℕ) (at : ℕ) (f : Frame) (places : Places) (rises : RisesFrom 0 places.starts) (sizes : Sizes) (many : sizes.tries ≡ f.tries) (regions : List Region) (read : regions_of (drop (tries_at at f) bytes) sizes places ≡ Ok regions) where
  abbrev lists : ℕ
  lists = lists_at at f

  tries : List Try
  tries = ((founds_regions bytes (tries_at at f) sizes places).found regions read).tries

  has : HasTries bytes at f tries
  unfolding tries
  has = record { are = subst (λ (n : ℕ). Entries n (λ i. IsTry bytes (tries_at at f + 8 * i)) tries) many ((founds_regions bytes (tries_at at f) sizes places).found regions read).are_tries }

  are_regions : AreRegions bytes places lists sizes.types (covering places tries) regions
  unfolding tries
  are_regions = subst (λ (n : ℕ). AreRegions bytes places (tries_at at f + 8 * n) sizes.types (covering places tries) regions) many ((founds_regions bytes (tries_at at f) sizes places).found regions read).regions_are

  apart : are_apart 0 regions ≡ true
  apart = (founds_all_apart (drop (tries_at at f) bytes) sizes places).found regions read

  tries_same : (ts : List Try) → HasTries bytes at f ts → ts ≡ tries
  tries_same ts h = each_once (λ i. IsTry bytes (tries_at at f + 8 * i)) (λ i. try_once bytes (tries_at at f + 8 * i)) 0 ts tries (h.are.0 ∙ sym has.are.0) h.are.1 has.are.1

  module _ (ts : List Try) (place : ℕ) (t : Try) (listed : HasTries bytes at f ts) (there : slice_get ts place ≡ Some t) (does : covers places t ≡ true) where
    all_regions : AreRegions bytes places lists sizes.types (covering places ts) regions
    all_regions = subst (λ (xs : List Try). AreRegions bytes places lists sizes.types (covering places xs) regions) (sym (tries_same ts listed)) are_regions

    its_region : (r : Region) × IsRegion bytes places lists sizes.types t r
    its_region =
        let split = covered places ts place t there does in
        region_there bytes places lists sizes.types (covering places (take place ts)) t split.0 regions (subst (λ (xs : List Try). AreRegions bytes places lists sizes.types xs regions) split.1 all_regions)

    no_region : BadRegion places ts place t → ⊥
    no_region (bad.Begins none) = let r = its_region in is_position places r.0.first t.start r.1.begins none
    no_region (bad.Ends over) = let r = its_region in let inside = r.1.inside in omega (arith, over, inside)
    no_region (bad.Behind before is less) =
        let split = covered places ts place t there does in
        let front : covering places ts ≡ (is.front ++ before ∷ []) ++ t ∷ split.0 = split.1 ∙ ap (λ (xs : List Try). xs ++ t ∷ split.0) is.are in
        let r = region_behind bytes places lists sizes.types is.front before t split.0 0 regions (subst (λ (xs : List Try). AreRegions bytes places lists sizes.types xs regions) front all_regions) apart in
        let up = not_below (before.start + before.count) 0 places.starts r.0.first t.start rises r.2 r.1.begins in
        omega (arith, less, up)

    no_list : (c : Catches) → AreCatchesAt bytes lists t.offset c → BadCatches places sizes.types c → ⊥
    no_list c is b =
        let r = its_region in
        let same : c ≡ r.1.catches = catches_once bytes (lists + t.offset) c r.1.catches is.stop r.1.are.stop is.are r.1.are.are in
        no_catches bytes places lists sizes.types r.1.catches r.0.handlers r.0.rest r.1.handlers r.1.rest (subst (λ (x : Catches). BadCatches places sizes.types x) same b)

  pub no_try : (fault : CodeFault) → BadTry bytes at sizes.types f places fault → ⊥
  no_try fault (bad.Lies ts place t listed there does wrong is) = no_region ts place t listed there does wrong
  no_try fault (bad.Missing ts place t listed there does none is) = let r = its_region ts place t listed there does in none r.1.catches r.1.are
  no_try fault (bad.Catch ts place t c listed there does are wrong is) = no_list ts place t listed there does c are wrong
