-- A fault of a region or of its handlers that is answered stands in the code item.
use Rattle.std.proofs.Common.{◌≡◌, ◌≤◌, ◌<◌, ◌⊎◌, inl, inr, ℕ, zero, suc, ◌+◌, ◌-◌, ◌*◌, Bool, true, false, cond, ltb, leb, eqb, List, [], ◌∷◌, ◌++◌, length, take, drop, Option, Some, None, Result, Ok, Err, refl, sym, ap, subst, ◌∙◌, arith, append-nil}
use Rattle.std.specs.Prelude.{◌&&◌, ◌||◌, slice_get}
use Rattle.std.specs.Int.{w16, w32, from_le_bytes}
use Rattle.std.specs.List.{list_any}
use Rattle.std.specs.Result.{result_ok}
use Rattle.std.proofs.lemmas.Bool.{ltb-true, ltb-false, leb-false, cases_lt}
use Rattle.std.proofs.lemmas.List.{length-drop, drop-drop}
use Rattle.lemmas.proofs.Options.{some_same}
use Rattle.dex_base.specs.declared.fault.BaseFault.{BaseFault}
use Rattle.dex_base.specs.Decides.{Each}
use Rattle.dex_base.specs.Leb.{IsUlebAt}
use Rattle.dex_base.specs.Word.{u16_at, u32_at}
use Rattle.dex_base.proofs.Words.{is_16, is_32}
use Rattle.line_tables.specs.Item as line
use Rattle.program_model.specs.declared.body.Handler.{Handler}
use Rattle.program_model.specs.declared.body.Region.{Region}
use Rattle.program_model.specs.declared.limits.Counted.TheVariants.{Items}
use Rattle.code_read.specs.declared.fault.CodeFault.{CodeFault}
use Rattle.code_read.specs.declared.fault.CodeFault.TheVariants as code
use Rattle.code_read.specs.declared.sizes.Sizes.{Sizes}
use Rattle.code_read.specs.Fault.{passed}
use Rattle.code_read.specs.Handlers.{◌>?=◌, list_end, has_list, caught_at, caught_count}
use Rattle.code_read.specs.Positions.{count_below, begins_with}
use Rattle.code_read.specs.Regions.{try_at, try_item, first_of, end_of, lies_right, region, with_handlers, region_of, region_at, keep, regions_from, regions_of}
use Rattle.code_read.specs.Sweep.{Piece}
use Rattle.dex_defs.specs.Sweep.{Places, starts_of}
use Rattle.dex_defs.specs.Handlers.{Try, IsTry, Catches, AreCatches, AreCatchesAt, covers, covering, first_position, end_position}
use Rattle.dex_defs.specs.CodeItems.{Frame, tries_at, lists_at}
use Rattle.dex_defs.specs.CodeFaults.{HasTries, IsBefore, BadRegion, BadTry}
use Rattle.dex_defs.specs.CodeFaults as bad
use Rattle.file_laws.specs.Founds.{Founds}
use Rattle.file_laws.proofs.Founding.{weaker, done, failed, when, either}
use Rattle.file_laws.proofs.Catches.{HasLists, has_lists, sees_end}
use Rattle.file_laws.proofs.Shifts.{shift_uleb, shift_chain, shift_catches}
use Rattle.refused_law.proofs.Defs.{and_none}
use Rattle.refused_law.proofs.Failing.{Fails, sound, fails_with, unless, fails_either, fails_next}
use Rattle.refused_code.proofs.Flowing.{ApartFrom, unequal}
use Rattle.refused_code.proofs.Caught.{is_found, list_end_is, caught_wrong}

-- ---- starts that rise

abbrev pub RisesFrom : ℕ → List ℕ → Type 0
RisesFrom low [] = Unit {0}
RisesFrom low (s ∷ ss) = (low ≤ s) × RisesFrom (suc s) ss

lower : (low high : ℕ) (ss : List ℕ) → low ≤ high → RisesFrom high ss → RisesFrom low ss
lower low high [] le h = tt
lower low high (s ∷ ss) le h = (omega (arith, le, h.0), h.1)

pub they_rise : (low : ℕ) (ps : List Piece) → ApartFrom low ps → RisesFrom low (starts_of ps)
they_rise low [] h = tt
they_rise low (p ∷ ps) h = (h.0, lower (suc p.start) (p.start + length p.text) (starts_of ps) (omega (arith, h.1)) (they_rise (p.start + length p.text) ps h.2))

above_none : (unit low : ℕ) (ss : List ℕ) → RisesFrom low ss → unit < low → list_any (λ u. eqb u unit) ss ≡ false
above_none unit low [] h less = refl
above_none unit low (s ∷ ss) h less = ap (λ (b : Bool). b || list_any (λ u. eqb u unit) ss) (unequal s unit (λ is. omega (arith, is, less, h.0))) ∙ above_none unit (suc s) ss h.1 (omega (arith, less, h.0))

-- a unit at which what lies there doesn't begin is no start
none_there : (unit low : ℕ) (ss : List ℕ) → RisesFrom low ss → begins_with (slice_get ss (count_below unit ss)) unit ≡ false → list_any (λ u. eqb u unit) ss ≡ false
none_there unit low [] h e = refl
none_there unit low (s ∷ ss) h e = by_test (ltb s unit) refl e (none_there unit (suc s) ss h.1)
  where
    by_test : (b : Bool) → ltb s unit ≡ b → begins_with (slice_get (s ∷ ss) (cond b (suc (count_below unit ss)) 0)) unit ≡ false → (begins_with (slice_get ss (count_below unit ss)) unit ≡ false → list_any (λ u. eqb u unit) ss ≡ false)
        → list_any (λ u. eqb u unit) (s ∷ ss) ≡ false
    by_test true is g rest = let less = ltb-true s unit is in ap (λ (b : Bool). b || list_any (λ u. eqb u unit) ss) (unequal s unit (λ same. omega (arith, same, less))) ∙ rest g
    by_test false is g rest = let le = ltb-false s unit is in ap (λ (b : Bool). b || list_any (λ u. eqb u unit) ss) g ∙ above_none unit (suc s) ss h.1 (omega (arith, le))

fewer_below : (a b : ℕ) (ss : List ℕ) → a ≤ b → count_below a ss ≤ count_below b ss
fewer_below a b [] le = omega arith
fewer_below a b (s ∷ ss) le = by_tests (ltb s a) (ltb s b) refl refl (fewer_below a b ss le)
  where
    by_tests : (x y : Bool) → ltb s a ≡ x → ltb s b ≡ y → count_below a ss ≤ count_below b ss → cond x (suc (count_below a ss)) 0 ≤ cond y (suc (count_below b ss)) 0
    by_tests false y ex ey rest = omega arith
    by_tests true true ex ey rest = omega (arith, rest)
    by_tests true false ex ey rest = let less = ltb-true s a ex in let over = ltb-false s b ey in absurd (omega (arith, less, over, le))

below_only : (a b : ℕ) (ss : List ℕ) → count_below a ss < count_below b ss → a < b
below_only a b ss h = elim (cases_lt a b) [ inl less ↦ less | inr le ↦ absurd (omega (arith, h, fewer_below b a ss le)) ]

below_same : (unit : ℕ) (ss : List ℕ) → count_below unit ss ≡ line.count_below unit ss
below_same unit [] = refl
below_same unit (s ∷ ss) = ap (λ (n : ℕ). cond (ltb s unit) (suc n) 0) (below_same unit ss)

-- ---- try items

abbrev at_32 : List ℕ → ℕ → ℕ
at_32 bytes at = from_le_bytes w32 (take 4 (drop at bytes))

abbrev at_16 : List ℕ → ℕ → ℕ
at_16 bytes at = from_le_bytes w16 (take 2 (drop at bytes))

-- the try item of this number
abbrev pub try_of : List ℕ → ℕ → ℕ → Try
try_of bytes base i = record { start = at_32 bytes (base + 8 * i); count = at_16 bytes (base + (8 * i + 4)); offset = at_16 bytes (base + (8 * i + 6)) }

abbrev pub tries_from : List ℕ → ℕ → ℕ → ℕ → List Try
tries_from bytes base i zero = []
tries_from bytes base i (suc n) = try_of bytes base i ∷ tries_from bytes base (suc i) n

is_try : (bytes : List ℕ) (base i all : ℕ) → i < all → base + 8 * all ≤ length bytes → IsTry bytes (base + 8 * i) (try_of bytes base i)
is_try bytes base i all less room =
    let four : base + (8 * i + 4) ≡ base + 8 * i + 4 = omega arith in
    let six : base + (8 * i + 6) ≡ base + 8 * i + 6 = omega arith in
    record {
      start = record { inside = omega (arith, less, room); spelled = refl };
      count = record { inside = omega (arith, less, room); spelled = ap (λ (n : ℕ). at_16 bytes n) four };
      offset = record { inside = omega (arith, less, room); spelled = ap (λ (n : ℕ). at_16 bytes n) six };
    }

tries_long : (bytes : List ℕ) (base i n : ℕ) → length (tries_from bytes base i n) ≡ n
tries_long bytes base i zero = refl
tries_long bytes base i (suc n) = ap suc (tries_long bytes base (suc i) n)

tries_are : (bytes : List ℕ) (base i n all : ℕ) → i + n ≤ all → base + 8 * all ≤ length bytes → Each (λ i t. IsTry bytes (base + 8 * i) t) i (tries_from bytes base i n)
tries_are bytes base i zero all less room = tt
tries_are bytes base i (suc n) all less room = (is_try bytes base i all (omega (arith, less)) room, tries_are bytes base (suc i) n all (omega (arith, less)) room)

try_there : (bytes : List ℕ) (base i n k : ℕ) → k < n → slice_get (tries_from bytes base i n) k ≡ Some (try_of bytes base (i + k))
try_there bytes base i zero k less = absurd (omega (arith, less))
try_there bytes base i (suc n) zero less = let on : i ≡ i + 0 = omega arith in ap (λ (j : ℕ). Some (try_of bytes base j)) on
try_there bytes base i (suc n) (suc k) less = let on : suc i + k ≡ i + suc k = omega arith in try_there bytes base (suc i) n k (omega (arith, less)) ∙ ap (λ (j : ℕ). Some (try_of bytes base j)) on

word_there : (bytes : List ℕ) (base at : ℕ) → base + at + 4 ≤ length bytes → result_ok (u32_at (drop base bytes) at) ≡ Some (at_32 bytes (base + at))
word_there bytes base at room = ap (λ (r : Result ℕ BaseFault). result_ok r) ((is_32 (drop base bytes) at).again (at_32 bytes (base + at))
    (record { inside = omega (arith, room, length-drop base bytes); spelled = ap (λ (bs : List ℕ). from_le_bytes w32 (take 4 bs)) (sym (drop-drop at base bytes)) }))

half_there : (bytes : List ℕ) (base at : ℕ) → base + at + 2 ≤ length bytes → result_ok (u16_at (drop base bytes) at) ≡ Some (at_16 bytes (base + at))
half_there bytes base at room = ap (λ (r : Result ℕ BaseFault). result_ok r) ((is_16 (drop base bytes) at).again (at_16 bytes (base + at))
    (record { inside = omega (arith, room, length-drop base bytes); spelled = ap (λ (bs : List ℕ). from_le_bytes w16 (take 2 bs)) (sym (drop-drop at base bytes)) }))

try_at_is : (bytes : List ℕ) (base i all : ℕ) → i < all → base + 8 * all ≤ length bytes
    → try_at (drop base bytes) (8 * i) ≡ Some (try_item (at_32 bytes (base + 8 * i)) (at_16 bytes (base + (8 * i + 4))) (at_16 bytes (base + (8 * i + 6))))
unfolding try_at
try_at_is bytes base i all less room =
    let s : ℕ = at_32 bytes (base + 8 * i) in
    let c : ℕ = at_16 bytes (base + (8 * i + 4)) in
    let bs : List ℕ = drop base bytes in
    ap (λ (o : Option ℕ). o >?= λ start. result_ok (u16_at bs (8 * i + 4)) >?= λ count. result_ok (u16_at bs (8 * i + 6)) >?= λ offset. Some (try_item start count offset)) (word_there bytes base (8 * i) (omega (arith, less, room)))
    ∙ ap (λ (o : Option ℕ). o >?= λ count. result_ok (u16_at bs (8 * i + 6)) >?= λ offset. Some (try_item s count offset)) (half_there bytes base (8 * i + 4) (omega (arith, less, room)))
    ∙ ap (λ (o : Option ℕ). o >?= λ offset. Some (try_item s c offset)) (half_there bytes base (8 * i + 6) (omega (arith, less, room)))

-- ---- those that cover positions

take_more : {X : Type 0} (xs : List X) (k : ℕ) (x : X) → slice_get xs k ≡ Some x → take (suc k) xs ≡ take k xs ++ x ∷ []
take_more [] k x h = absurd cc
take_more (y ∷ ys) zero x h = ap (λ z. z ∷ []) (some_same y x h)
take_more (y ∷ ys) (suc k) x h = ap (λ zs. y ∷ zs) (take_more ys k x h)

kept_append : (b : Bool) (x : Try) (all xs ys : List Try) → all ≡ xs ++ ys → cond b (x ∷ all) all ≡ cond b (x ∷ xs) xs ++ ys
kept_append true x all xs ys e = ap (λ zs. x ∷ zs) e
kept_append false x all xs ys e = e

covering_append : (places : Places) (xs ys : List Try) → covering places (xs ++ ys) ≡ covering places xs ++ covering places ys
covering_append places [] ys = refl
covering_append places (x ∷ xs) ys = kept_append (covers places x) x (covering places (xs ++ ys)) (covering places xs) (covering places ys) (covering_append places xs ys)

covering_more : (places : Places) (tries : List Try) (k : ℕ) (t : Try) → slice_get tries k ≡ Some t → covering places (take (suc k) tries) ≡ covering places (take k tries) ++ cond (covers places t) (t ∷ []) []
covering_more places tries k t h = ap (λ (ts : List Try). covering places ts) (take_more tries k t h) ∙ covering_append places (take k tries) (t ∷ [])

-- where the region before a place ends
data IsFrom (places : Places) (tries : List Try) (place from : ℕ) : Type 0 where
  AtNone : from ≡ 0 → IsFrom places tries place from
  AtEnd : (before : Try) → IsBefore places tries place before → from ≡ end_position places before → IsFrom places tries place from

next_same : (places : Places) (tries : List Try) (place from : ℕ) (t : Try) → slice_get tries place ≡ Some t → covers places t ≡ false → IsFrom places tries place from → IsFrom places tries (suc place) from
next_same places tries place from t there lacks (AtNone e) = AtNone e
next_same places tries place from t there lacks (AtEnd before is e) = AtEnd before (record {
  front = is.front;
  are = covering_more places tries place t there ∙ ap (λ (b : Bool). covering places (take place tries) ++ cond b (t ∷ []) []) lacks ∙ append-nil (covering places (take place tries)) ∙ is.are;
}) e

next_more : (places : Places) (tries : List Try) (place from : ℕ) (t : Try) → slice_get tries place ≡ Some t → covers places t ≡ true → from ≡ end_position places t → IsFrom places tries (suc place) from
next_more places tries place from t there does e = AtEnd t (record {
  front = covering places (take place tries);
  are = covering_more places tries place t there ∙ ap (λ (b : Bool). covering places (take place tries) ++ cond b (t ∷ []) []) does;
}) e

-- ---- one region

abbrev the_try : ℕ → ℕ → ℕ → Try
the_try start count offset = record { start = start; count = count; offset = offset }

covers_same : (places : Places) (s c o : ℕ) → ltb (first_of places (try_item s c o)) (end_of places (try_item s c o)) ≡ covers places (the_try s c o)
covers_same places s c o = ap (λ (n : ℕ). ltb n (end_of places (try_item s c o))) (below_same s places.starts) ∙ ap (λ (n : ℕ). ltb (first_position places (the_try s c o)) n) (below_same (s + c) places.starts)

abbrev Keeps : Places → Try → Option Region → Type 0
Keeps places t None = covers places t ≡ false
Keeps places t (Some r) = (covers places t ≡ true) × (r.end ≡ end_position places t)

founds_with : (place first end left : ℕ) (o : Option (List Handler × Option ℕ)) → Founds (λ r. (caught : List Handler × Option ℕ) × (r ≡ Some (region first end caught.0 caught.1))) (with_handlers place first end left o)
founds_with place first end left None = failed _
founds_with place first end left (Some caught) = weaker (with_handlers place first end left (Some caught)) (when _ (done (Some (region first end caught.0 caught.1)))) (λ y p. (caught, p.1))

founds_keeps : (lists : List ℕ) (types : ℕ) (places : Places) (place from left s c o : ℕ) → Founds (Keeps places (the_try s c o)) (region_of lists types places place from left (Some (try_item s c o)))
founds_keeps lists types places place from left s c o =
    let first : ℕ = first_of places (try_item s c o) in
    let end : ℕ = end_of places (try_item s c o) in
    either
    (λ is. weaker (cond (lies_right places (try_item s c o) from) (cond (has_list lists o) (with_handlers place first end left (caught_at lists places.starts types o)) (Err _)) (Err _))
    (when _ (when _ (founds_with place first end left (caught_at lists places.starts types o))))
    (λ y p. subst (Keeps places (the_try s c o)) (sym p.1.1.1) (sym (covers_same places s c o) ∙ is, below_same (s + c) places.starts)))
    (λ lacks. weaker (Ok None) (done None) (λ y p. subst (Keeps places (the_try s c o)) (sym p) (sym (covers_same places s c o) ∙ lacks)))

-- the list that begins at an offset is that of the bytes behind the try items
catches_there : (bytes : List ℕ) (lists offset : ℕ) (c : Catches) (stop : ℕ) → HasLists (drop lists bytes) offset → AreCatches (drop lists bytes) offset (c, stop) → AreCatchesAt bytes lists offset c
catches_there bytes lists offset c stop has is =
    let zeroth : lists + 0 ≡ lists = omega arith in
    record {
      count = has.count;
      begin = lists + has.begin;
      stop = lists + stop;
      is_count = subst (λ k. IsUlebAt bytes k (has.count, lists + has.begin)) zeroth (shift_uleb bytes lists 0 has.count has.begin has.is_count);
      before = has.before;
      fewer = has.fewer;
      behind = shift_chain (AreCatches (drop lists bytes)) (AreCatches bytes) lists (shift_catches bytes lists) has.begin has.before offset has.chain;
      are = shift_catches bytes lists offset c stop is;
    }

none_some : {X : Type 0} {x : X} → None ≡ Some x → ⊥
none_some e = absurd cc

module _ (bytes : List ℕ) (at types : ℕ) (f : Frame) (places : Places) (rises : RisesFrom 0 places.starts) (room : tries_at at f + 8 * f.tries ≤ length bytes)
    (Has : CodeFault → Type 0) (wrong : (e : CodeFault) → BadTry bytes at types f places e → Has e) (limit : Has (passed Items)) where
  abbrev base : ℕ
  base = tries_at at f

  abbrev lists : ℕ
  lists = lists_at at f

  abbrev tries : List Try
  tries = tries_from bytes base 0 f.tries

  has : HasTries bytes at f tries
  has = record { are = (tries_long bytes base 0 f.tries, tries_are bytes base 0 f.tries f.tries (omega arith) room) }

  there : (place : ℕ) → place < f.tries → slice_get tries place ≡ Some (try_of bytes base place)
  there place less = try_there bytes base 0 f.tries place less ∙ (let on : 0 + place ≡ place = omega arith in ap (λ (j : ℕ). Some (try_of bytes base j)) on)

  -- ---- the region of a try item

  module _ (place from left : ℕ) (t : Try) (got : slice_get tries place ≡ Some t) (does : covers places t ≡ true) (is_from : IsFrom places tries place from) where
    bad_region : BadRegion places tries place t → Has (code.Region place)
    bad_region b = wrong (code.Region place) (bad.Lies tries place t has got does b refl)

    behind : IsFrom places tries place from → first_of places (try_item t.start t.count t.offset) < from → Has (code.Region place)
    behind (AtNone e) less = absurd (omega (arith, e, less))
    behind (AtEnd before is e) less = bad_region (bad.Behind before is (below_only t.start (before.start + before.count) places.starts
        (let same : end_position places before ≡ count_below (before.start + before.count) places.starts = sym (below_same (before.start + before.count) places.starts) in omega (arith, less, e, same))))

    lies_wrong : lies_right places (try_item t.start t.count t.offset) from ≡ false → Has (code.Region place)
    lies_wrong untrue = by_first (and_none (begins_with (slice_get places.starts (first_of places (try_item t.start t.count t.offset))) t.start) (leb (t.start + t.count) (length places.units) && leb from (first_of places (try_item t.start t.count t.offset))) untrue)
      where
        by_rest : (leb (t.start + t.count) (length places.units) ≡ false) ⊎ (leb from (first_of places (try_item t.start t.count t.offset)) ≡ false) → Has (code.Region place)
        by_rest (inl e) = bad_region (bad.Ends (leb-false (t.start + t.count) (length places.units) e))
        by_rest (inr e) = behind is_from (leb-false from (first_of places (try_item t.start t.count t.offset)) e)

        by_first : (begins_with (slice_get places.starts (first_of places (try_item t.start t.count t.offset))) t.start ≡ false) ⊎ ((leb (t.start + t.count) (length places.units) && leb from (first_of places (try_item t.start t.count t.offset))) ≡ false) → Has (code.Region place)
        by_first (inl e) = bad_region (bad.Begins (none_there t.start 0 places.starts rises e))
        by_first (inr e) = by_rest (and_none (leb (t.start + t.count) (length places.units)) (leb from (first_of places (try_item t.start t.count t.offset))) e)

    missing : ((c : Catches) → AreCatchesAt bytes lists t.offset c → ⊥) → Has (code.Handler place)
    missing none = wrong (code.Handler place) (bad.Missing tries place t has got does none refl)

    unlisted : has_list (drop lists bytes) t.offset ≡ false → Has (code.Handler place)
    unlisted lacks = missing (λ c is. let found = is_found bytes lists t.offset c is in none_true (sym found.listed ∙ lacks))
      where
        none_true : true ≡ false → ⊥
        none_true e = absurd cc

    uncaught : has_list (drop lists bytes) t.offset ≡ true → caught_at (drop lists bytes) places.starts types t.offset ≡ None → Has (code.Handler place)
    uncaught listed none = by_end (list_end (drop lists bytes) t.offset) refl
      where
        by_end : (o : Option ℕ) → list_end (drop lists bytes) t.offset ≡ o → Has (code.Handler place)
        by_end None e = missing (λ c is. let found = is_found bytes lists t.offset c is in none_some (sym e ∙ list_end_is (drop lists bytes) t.offset c found.end found.is))
        by_end (Some stop) e =
            let c = (sees_end (drop lists bytes) t.offset).found stop e in
            wrong (code.Handler place) (bad.Catch tries place t c.0 has got does (catches_there bytes lists t.offset c.0 stop (has_lists (drop lists bytes) t.offset listed) c.1) (caught_wrong (drop lists bytes) places types t.offset c.0 stop c.1 none) refl)

    fails_with_handlers : (first end : ℕ) (o : Option (List Handler × Option ℕ)) → has_list (drop lists bytes) t.offset ≡ true → caught_at (drop lists bytes) places.starts types t.offset ≡ o → Fails Has (with_handlers place first end left o)
    fails_with_handlers first end None listed e = fails_with (code.Handler place) (uncaught listed e)
    fails_with_handlers first end (Some caught) listed e = unless (passed Items) (λ _. limit) (λ _. sound (Some (region first end caught.0 caught.1)))

  fails_item : (place from left s c o : ℕ) → slice_get tries place ≡ Some (the_try s c o) → IsFrom places tries place from → Fails Has (region_of (drop lists bytes) types places place from left (Some (try_item s c o)))
  fails_item place from left s c o got is_from =
      let first : ℕ = first_of places (try_item s c o) in
      let end : ℕ = end_of places (try_item s c o) in
      let caught : Result (Option Region) CodeFault = with_handlers place first end left (caught_at (drop lists bytes) places.starts types o) in
      let listed : Result (Option Region) CodeFault = cond (has_list (drop lists bytes) o) caught (Err (code.Handler place)) in
      fails_either {b = ltb first end} {read = cond (lies_right places (try_item s c o) from) listed (Err (code.Region place))} {other = Ok None}
      (λ some. let does : covers places (the_try s c o) ≡ true = sym (covers_same places s c o) ∙ some in
      unless {b = lies_right places (try_item s c o) from} {read = listed} (code.Region place) (λ untrue. lies_wrong place from left (the_try s c o) got does is_from untrue)
      (λ _. unless {b = has_list (drop lists bytes) o} {read = caught} (code.Handler place) (λ untrue. unlisted place from left (the_try s c o) got does is_from untrue)
      (λ is. fails_with_handlers place from left (the_try s c o) got does is_from first end (caught_at (drop lists bytes) places.starts types o) is refl)))
      (λ _. sound None)

  fails_region : (place from left : ℕ) → place < f.tries → IsFrom places tries place from → Fails Has (region_at (drop base bytes) (drop lists bytes) types places place from left)
  unfolding region_at
  fails_region place from left less is_from =
      subst (λ o. Fails Has (region_of (drop lists bytes) types places place from left o)) (sym (try_at_is bytes base place f.tries less room))
      (fails_item place from left (at_32 bytes (base + 8 * place)) (at_16 bytes (base + (8 * place + 4))) (at_16 bytes (base + (8 * place + 6))) (there place less) is_from)

  founds_region : (place from left : ℕ) → place < f.tries → Founds (Keeps places (try_of bytes base place)) (region_at (drop base bytes) (drop lists bytes) types places place from left)
  unfolding region_at
  founds_region place from left less =
      subst (λ o. Founds (Keeps places (try_of bytes base place)) (region_of (drop lists bytes) types places place from left o)) (sym (try_at_is bytes base place f.tries less room))
      (founds_keeps (drop lists bytes) types places place from left (at_32 bytes (base + 8 * place)) (at_16 bytes (base + (8 * place + 4))) (at_16 bytes (base + (8 * place + 6))))

  -- ---- all regions

  fails_from : (n place from left : ℕ) → place + n ≡ f.tries → IsFrom places tries place from → Fails Has (regions_from (drop base bytes) (drop lists bytes) types places n place from left)
  fails_from zero place from left all is_from = sound []
  fails_from (suc n) place from left all is_from =
      let less : place < f.tries = omega (arith, all) in
      fails_next (fails_region place from left less is_from) (λ kept h. by_kept kept ((founds_region place from left less).found kept h) (λ f l at. fails_from n (suc place) f l (omega (arith, all)) at))
    where
      by_kept : (kept : Option Region) → Keeps places (try_of bytes base place) kept → ((f l : ℕ) → IsFrom places tries (suc place) f → Fails Has (regions_from (drop base bytes) (drop lists bytes) types places n (suc place) f l))
          → Fails Has (keep kept (λ f l. regions_from (drop base bytes) (drop lists bytes) types places n (suc place) f l) from left)
      by_kept None lacks more = more from left (next_same places tries place from (try_of bytes base place) (there place (omega (arith, all))) lacks is_from)
      by_kept (Some r) does more = fails_next (more r.end (left - caught_count r.handlers r.rest) (next_more places tries place r.end (try_of bytes base place) (there place (omega (arith, all))) does.0 does.1)) (λ rs _. sound (r ∷ rs))

  pub fails_regions : (sizes : Sizes) → sizes.tries ≡ f.tries → sizes.types ≡ types → Fails Has (regions_of (drop base bytes) sizes places)
  unfolding regions_of
  fails_regions sizes many kinds =
      let behind_tries : drop lists bytes ≡ drop (8 * sizes.tries) (drop base bytes) = ap (λ (n : ℕ). drop (base + 8 * n) bytes) (sym many) ∙ sym (drop-drop (8 * sizes.tries) base bytes) in
      subst (λ (ls : List ℕ). Fails Has (regions_from (drop base bytes) ls sizes.types places sizes.tries 0 0 sizes.items)) behind_tries
      (subst (λ (n : ℕ). Fails Has (regions_from (drop base bytes) (drop lists bytes) n places sizes.tries 0 0 sizes.items)) (sym kinds)
      (subst (λ (n : ℕ). Fails Has (regions_from (drop base bytes) (drop lists bytes) types places n 0 0 sizes.items)) (sym many)
      (fails_from f.tries 0 0 sizes.items (omega arith) (AtNone refl))))
