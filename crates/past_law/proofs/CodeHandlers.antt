-- The handlers of the regions that a body keeps stand in its code, also where they are more than are left.
use Rattle.std.proofs.Common.{◌≡◌, ◌≤◌, ◌<◌, ◌⊎◌, inl, inr, ℕ, zero, suc, ◌+◌, ◌-◌, ◌*◌, true, cond, ltb, leb, List, [], ◌∷◌, length, take, drop, Option, Some, None, Result, Ok, Err, refl, sym, ap, subst, ◌∙◌, arith}
use Rattle.std.specs.Prelude.{slice_get, slice_index, sum_by}
use Rattle.std.specs.Int.{w16, w32, from_le_bytes}
use Rattle.std.specs.Result.{result_ok}
use Rattle.std.proofs.lemmas.Bool.{leb-false}
use Rattle.std.proofs.lemmas.List.{length-drop, drop-drop}
use Rattle.std.proofs.lemmas.List.Sums.{sum_by-cons}
use Rattle.dex_base.specs.declared.fault.BaseFault.{BaseFault}
use Rattle.dex_base.specs.Decides.{Each}
use Rattle.dex_base.specs.Leb.{IsUlebAt}
use Rattle.dex_base.specs.Word.{u16_at, u32_at}
use Rattle.dex_base.proofs.Words.{is_16, is_32}
use Rattle.line_tables.specs.Item as line
use Rattle.program_model.specs.Items.{rest_items, region_items}
use Rattle.program_model.specs.declared.body.Handler.{Handler}
use Rattle.program_model.specs.declared.body.Region.{Region}
use Rattle.program_model.specs.declared.limits.Counted.TheVariants.{Items}
use Rattle.program_model.specs.declared.limits.LimitFault.{LimitFault}
use Rattle.code_read.specs.declared.fault.CodeFault.{CodeFault}
use Rattle.code_read.specs.declared.fault.CodeFault.TheVariants as code
use Rattle.code_read.specs.declared.sizes.Sizes.{Sizes}
use Rattle.code_read.specs.Fault.{passed}
use Rattle.code_read.specs.Handlers.{◌>?=◌, has_list, caught_at, rest_count, caught_count}
use Rattle.code_read.specs.Positions.{count_below}
use Rattle.code_read.specs.Regions.{try_at, try_item, first_of, end_of, lies_right, region, with_handlers, region_of, region_at, keep, regions_from, regions_of}
use Rattle.code_read.specs.Sweep.{Piece}
use Rattle.dex_defs.specs.Sweep.{Places, places_of}
use Rattle.dex_defs.specs.Handlers.{Try, IsTry, Catches, AreCatches, AreCatchesAt, AreHandlers, IsRest, covers, first_position}
use Rattle.dex_defs.specs.CodeItems.{Frame, tries_at, lists_at}
use Rattle.dex_defs.specs.CodeFaults.{HasTries, HasCatches}
use Rattle.dex_defs.specs.Limits.{IsMethodCode, IsItem, handlers_in}
use Rattle.dex_defs.specs.Limits as limits
use Rattle.file_laws.proofs.Catches.{HasLists, has_lists, sees_caught}
use Rattle.file_laws.proofs.Shifts.{shift_uleb, shift_chain, shift_catches}
use Rattle.refused_code.proofs.Trying.{try_of, tries_from}
use Rattle.past_law.specs.Told.{Told, one_past}
use Rattle.past_law.proofs.Told.{none as nothing}
use Rattle.past_law.proofs.CodeReads.{Reads, gives, refuses, by_test, then, reads_more, OnLimit, limit_more}
use Rattle.past_law.proofs.CodeTold.{WithKey, total, renamed, piled, lined}

-- ---- try items

abbrev at_32 : List ℕ → ℕ → ℕ
at_32 bytes at = from_le_bytes w32 (take 4 (drop at bytes))

abbrev at_16 : List ℕ → ℕ → ℕ
at_16 bytes at = from_le_bytes w16 (take 2 (drop at bytes))

is_try : (bytes : List ℕ) (base i all : ℕ) → i < all → base + 8 * all ≤ length bytes → IsTry bytes (base + 8 * i) (try_of bytes base i)
is_try bytes base i all less room =
    let four : base + (8 * i + 4) ≡ base + 8 * i + 4 = omega arith in
    let six : base + (8 * i + 6) ≡ base + 8 * i + 6 = omega arith in
    record {
      start = record { inside = omega (arith, less, room); spelled = refl };
      count = record { inside = omega (arith, less, room); spelled = ap (λ (n : ℕ). at_16 bytes n) four };
      offset = record { inside = omega (arith, less, room); spelled = ap (λ (n : ℕ). at_16 bytes n) six };
    }

tries_long : (bytes : List ℕ) (base i n : ℕ) → length (tries_from bytes base i n) ≡ n
tries_long bytes base i zero = refl
tries_long bytes base i (suc n) = ap suc (tries_long bytes base (suc i) n)

tries_are : (bytes : List ℕ) (base i n all : ℕ) → i + n ≤ all → base + 8 * all ≤ length bytes → Each (λ i t. IsTry bytes (base + 8 * i) t) i (tries_from bytes base i n)
tries_are bytes base i zero all less room = tt
tries_are bytes base i (suc n) all less room = (is_try bytes base i all (omega (arith, less)) room, tries_are bytes base (suc i) n all (omega (arith, less)) room)

try_there : (bytes : List ℕ) (base i n k : ℕ) → k < n → slice_get (tries_from bytes base i n) k ≡ Some (try_of bytes base (i + k))
try_there bytes base i zero k less = absurd (omega (arith, less))
try_there bytes base i (suc n) zero less = let on : i ≡ i + 0 = omega arith in ap (λ (j : ℕ). Some (try_of bytes base j)) on
try_there bytes base i (suc n) (suc k) less = let on : suc i + k ≡ i + suc k = omega arith in try_there bytes base (suc i) n k (omega (arith, less)) ∙ ap (λ (j : ℕ). Some (try_of bytes base j)) on

word_there : (bytes : List ℕ) (base at : ℕ) → base + at + 4 ≤ length bytes → result_ok (u32_at (drop base bytes) at) ≡ Some (at_32 bytes (base + at))
word_there bytes base at room = ap (λ (r : Result ℕ BaseFault). result_ok r) ((is_32 (drop base bytes) at).again (at_32 bytes (base + at))
    (record { inside = omega (arith, room, length-drop base bytes); spelled = ap (λ (bs : List ℕ). from_le_bytes w32 (take 4 bs)) (sym (drop-drop at base bytes)) }))

half_there : (bytes : List ℕ) (base at : ℕ) → base + at + 2 ≤ length bytes → result_ok (u16_at (drop base bytes) at) ≡ Some (at_16 bytes (base + at))
half_there bytes base at room = ap (λ (r : Result ℕ BaseFault). result_ok r) ((is_16 (drop base bytes) at).again (at_16 bytes (base + at))
    (record { inside = omega (arith, room, length-drop base bytes); spelled = ap (λ (bs : List ℕ). from_le_bytes w16 (take 2 bs)) (sym (drop-drop at base bytes)) }))

try_at_is : (bytes : List ℕ) (base i all : ℕ) → i < all → base + 8 * all ≤ length bytes
    → try_at (drop base bytes) (8 * i) ≡ Some (try_item (at_32 bytes (base + 8 * i)) (at_16 bytes (base + (8 * i + 4))) (at_16 bytes (base + (8 * i + 6))))
unfolding try_at
try_at_is bytes base i all less room =
    let s : ℕ = at_32 bytes (base + 8 * i) in
    let c : ℕ = at_16 bytes (base + (8 * i + 4)) in
    let bs : List ℕ = drop base bytes in
    ap (λ (o : Option ℕ). o >?= λ start. result_ok (u16_at bs (8 * i + 4)) >?= λ count. result_ok (u16_at bs (8 * i + 6)) >?= λ offset. Some (try_item start count offset)) (word_there bytes base (8 * i) (omega (arith, less, room)))
    ∙ ap (λ (o : Option ℕ). o >?= λ count. result_ok (u16_at bs (8 * i + 6)) >?= λ offset. Some (try_item s count offset)) (half_there bytes base (8 * i + 4) (omega (arith, less, room)))
    ∙ ap (λ (o : Option ℕ). o >?= λ offset. Some (try_item s c offset)) (half_there bytes base (8 * i + 6) (omega (arith, less, room)))

-- ---- what a try item covers

abbrev the_try : ℕ → ℕ → ℕ → Try
the_try start count offset = record { start = start; count = count; offset = offset }

below_same : (unit : ℕ) (ss : List ℕ) → count_below unit ss ≡ line.count_below unit ss
below_same unit [] = refl
below_same unit (s ∷ ss) = ap (λ (n : ℕ). cond (ltb s unit) (suc n) 0) (below_same unit ss)

covers_same : (places : Places) (s c o : ℕ) → ltb (first_of places (try_item s c o)) (end_of places (try_item s c o)) ≡ covers places (the_try s c o)
covers_same places s c o = ap (λ (n : ℕ). ltb n (end_of places (try_item s c o))) (below_same s places.starts) ∙ ap (λ (n : ℕ). ltb (first_position places (the_try s c o)) n) (below_same (s + c) places.starts)

-- ---- handler lists

-- the list that begins at an offset is that of the bytes behind the try items
catches_there : (bytes : List ℕ) (lists offset : ℕ) (c : Catches) (stop : ℕ) → HasLists (drop lists bytes) offset → AreCatches (drop lists bytes) offset (c, stop) → AreCatchesAt bytes lists offset c
catches_there bytes lists offset c stop has is =
    let zeroth : lists + 0 ≡ lists = omega arith in
    record {
      count = has.count;
      begin = lists + has.begin;
      stop = lists + stop;
      is_count = subst (λ k. IsUlebAt bytes k (has.count, lists + has.begin)) zeroth (shift_uleb bytes lists 0 has.count has.begin has.is_count);
      before = has.before;
      fewer = has.fewer;
      behind = shift_chain (AreCatches (drop lists bytes)) (AreCatches bytes) lists (shift_catches bytes lists) has.begin has.before offset has.chain;
      are = shift_catches bytes lists offset c stop is;
    }

as_many : (places : Places) (types : ℕ) (pairs : List (ℕ × ℕ)) (hs : List Handler) → AreHandlers places types pairs hs → length hs ≡ length pairs
as_many places types [] [] h = refl
as_many places types [] (x ∷ xs) h = absurd h
as_many places types (p ∷ ps) [] h = absurd h
as_many places types (p ∷ ps) (x ∷ xs) h = ap suc (as_many places types ps xs h.1)

rest_same : (places : Places) (pairs : List (ℕ × ℕ)) (hs : List Handler) (rest found : Option ℕ) → length hs ≡ length pairs → IsRest places rest found → caught_count hs found ≡ handlers_in (record { pairs = pairs; rest = rest })
rest_same places pairs hs None None long h = ap (λ (n : ℕ). n + 0) long
rest_same places pairs hs None (Some p) long h = absurd h
rest_same places pairs hs (Some u) None long h = absurd h
rest_same places pairs hs (Some u) (Some p) long h = ap (λ (n : ℕ). n + 1) long

same_items : (r : Region) → region_items r ≡ caught_count r.handlers r.rest
same_items r = ap (λ (n : ℕ). length r.handlers + n) (by_rest r.rest)
  where
    by_rest : (o : Option ℕ) → rest_items o ≡ rest_count o
    by_rest None = refl
    by_rest (Some p) = refl

abbrev pub kept_count : Option Region → ℕ
kept_count None = 0
kept_count (Some r) = caught_count r.handlers r.rest

module _ (bytes : List ℕ) (at : ℕ) (f : Frame) (places : Places) where
  abbrev base : ℕ
  base = tries_at at f

  abbrev lists : ℕ
  lists = lists_at at f

  abbrev tries : List Try
  tries = tries_from bytes base 0 f.tries

  -- the try item of this number is kept with so many handlers
  pub record IsKept (place count : ℕ) : Type 0 where
    pub catches : Catches
    pub has : HasCatches bytes at f places catches
    pub at_place : has.place ≡ place
    pub many : count ≡ handlers_in catches

  abbrev pub MayKeep : ℕ → ℕ → Type 0
  MayKeep place count = (count ≡ 0) ⊎ IsKept place count

  -- the try items from this one on have more handlers than are left
  pub record PastHandlers (place left : ℕ) : Type 0 where
    pub counts : List ℕ
    pub are : Each MayKeep place counts
    pub many : left < total counts

  abbrev pub PassesHandlers : ℕ → ℕ → LimitFault → Type 0
  PassesHandlers place left limit = (limit ≡ one_past Items) × PastHandlers place left

  -- the handlers of regions that were read of the try items from this one on
  pub record AreKept (place : ℕ) (rs : List Region) : Type 0 where
    pub counts : List ℕ
    pub are : Each MayKeep place counts
    pub many : sum_by region_items rs ≤ total counts

  module _ (room : tries_at at f + 8 * f.tries ≤ length bytes) (types : ℕ) where
    has_tries : HasTries bytes at f tries
    has_tries = record { are = (tries_long bytes base 0 f.tries, tries_are bytes base 0 f.tries f.tries (omega arith) room) }

    there : (place : ℕ) → place < f.tries → slice_get tries place ≡ Some (try_of bytes base place)
    there place less = try_there bytes base 0 f.tries place less ∙ (let on : 0 + place ≡ place = omega arith in ap (λ (j : ℕ). Some (try_of bytes base j)) on)

    -- ---- one region

    abbrev OneFails : ℕ → ℕ → CodeFault → Type 0
    OneFails place left fault = OnLimit (PassesHandlers place left) fault

    module _ (place left : ℕ) (t : Try) (got : slice_get tries place ≡ Some t) (does : covers places t ≡ true) (listed : has_list (drop lists bytes) t.offset ≡ true) where
      is_kept : (caught : List Handler × Option ℕ) → caught_at (drop lists bytes) places.starts types t.offset ≡ Some caught → IsKept place (caught_count caught.0 caught.1)
      is_kept caught e =
          let c = (sees_caught (drop lists bytes) places types t.offset).found caught e in
          record {
            catches = c.catches;
            has = record { tries = tries; has = has_tries; place = place; t = t; is = got; covers = does; are = catches_there bytes lists t.offset c.catches c.stop (has_lists (drop lists bytes) t.offset listed) c.are };
            at_place = refl;
            many = rest_same places c.catches.pairs caught.0 c.catches.rest caught.1 (as_many places types c.catches.pairs caught.0 c.handlers) c.rest;
          }

      one_over : (n : ℕ) → IsKept place n → left < n → PassesHandlers place left (one_past Items)
      one_over n kept over = (refl, record { counts = n ∷ []; are = (inr kept, tt); many = omega (arith, over) })

      reads_with : (first end : ℕ) (o : Option (List Handler × Option ℕ)) → caught_at (drop lists bytes) places.starts types t.offset ≡ o → Reads (λ kept. MayKeep place (kept_count kept)) (OneFails place left) (with_handlers place first end left o)
      reads_with first end None e = refuses (code.Handler place) tt
      reads_with first end (Some caught) e = by_test {b = leb (caught_count caught.0 caught.1) left}
          (λ _. gives (Some (region first end caught.0 caught.1)) (inr (is_kept caught e)))
          (λ over. refuses (passed Items) (one_over (caught_count caught.0 caught.1) (is_kept caught e) (leb-false (caught_count caught.0 caught.1) left over)))

    reads_item : (place from left s c o : ℕ) → slice_get tries place ≡ Some (the_try s c o) → Reads (λ kept. MayKeep place (kept_count kept)) (OneFails place left) (region_of (drop lists bytes) types places place from left (Some (try_item s c o)))
    reads_item place from left s c o got =
        let first : ℕ = first_of places (try_item s c o) in
        let end : ℕ = end_of places (try_item s c o) in
        let caught : Result (Option Region) CodeFault = with_handlers place first end left (caught_at (drop lists bytes) places.starts types o) in
        let listed : Result (Option Region) CodeFault = cond (has_list (drop lists bytes) o) caught (Err (code.Handler place)) in
        by_test {b = ltb first end} {read = cond (lies_right places (try_item s c o) from) listed (Err (code.Region place))} {other = Ok None}
        (λ some. by_test {b = lies_right places (try_item s c o) from} {read = listed} {other = Err (code.Region place)}
        (λ _. by_test {b = has_list (drop lists bytes) o} {read = caught} {other = Err (code.Handler place)}
        (λ is. reads_with place left (the_try s c o) got (sym (covers_same places s c o) ∙ some) is first end (caught_at (drop lists bytes) places.starts types o) refl)
        (λ _. refuses (code.Handler place) tt))
        (λ _. refuses (code.Region place) tt))
        (λ _. gives None (inl refl))

    reads_region : (place from left : ℕ) → place < f.tries → Reads (λ kept. MayKeep place (kept_count kept)) (OneFails place left) (region_at (drop base bytes) (drop lists bytes) types places place from left)
    unfolding region_at
    reads_region place from left less =
        subst (λ o. Reads (λ kept. MayKeep place (kept_count kept)) (OneFails place left) (region_of (drop lists bytes) types places place from left o)) (sym (try_at_is bytes base place f.tries less room))
        (reads_item place from left (at_32 bytes (base + 8 * place)) (at_16 bytes (base + (8 * place + 4))) (at_16 bytes (base + (8 * place + 6))) (there place less))

    -- ---- all regions

    none_more : (place : ℕ) (rs : List Region) → MayKeep place 0 → AreKept (suc place) rs → AreKept place rs
    none_more place rs may h = record { counts = 0 ∷ h.counts; are = (may, h.are); many = (let many = h.many in omega (arith, many)) }

    none_past : (place left : ℕ) → MayKeep place 0 → (limit : LimitFault) → PassesHandlers (suc place) left limit → PassesHandlers place left limit
    none_past place left may limit h = (h.0, record { counts = 0 ∷ h.1.counts; are = (may, h.1.are); many = (let many = h.1.many in omega (arith, many)) })

    one_more : (place : ℕ) (r : Region) (rs : List Region) → MayKeep place (caught_count r.handlers r.rest) → AreKept (suc place) rs → AreKept place (r ∷ rs)
    one_more place r rs may h = record {
      counts = caught_count r.handlers r.rest ∷ h.counts;
      are = (may, h.are);
      many = (let many = h.many in let sum = sum_by-cons region_items r rs in let same = same_items r in omega (arith, many, sum, same));
    }

    one_past_more : (place left n : ℕ) → MayKeep place n → (limit : LimitFault) → PassesHandlers (suc place) (left - n) limit → PassesHandlers place left limit
    one_past_more place left n may limit h = (h.0, record { counts = n ∷ h.1.counts; are = (may, h.1.are); many = (let many = h.1.many in omega (arith, many)) })

    reads_from : (n place from left : ℕ) → place + n ≡ f.tries → Reads (AreKept place) (OnLimit (PassesHandlers place left)) (regions_from (drop base bytes) (drop lists bytes) types places n place from left)
    reads_from zero place from left all = gives [] (record { counts = []; are = tt; many = omega arith })
    reads_from (suc n) place from left all =
        then (reads_region place from left (omega (arith, all))) (λ kept _ may. by_kept kept may (λ f l. reads_from n (suc place) f l (omega (arith, all))))
      where
        by_kept : (kept : Option Region) → MayKeep place (kept_count kept) → ((f l : ℕ) → Reads (AreKept (suc place)) (OnLimit (PassesHandlers (suc place) l)) (regions_from (drop base bytes) (drop lists bytes) types places n (suc place) f l))
            → Reads (AreKept place) (OnLimit (PassesHandlers place left)) (keep kept (λ f l. regions_from (drop base bytes) (drop lists bytes) types places n (suc place) f l) from left)
        by_kept None may more = reads_more (λ rs h. none_more place rs may h) (λ e h. limit_more (PassesHandlers (suc place) left) (PassesHandlers place left) (none_past place left may) e h) (more from left)
        by_kept (Some r) may more =
            let taken : ℕ = caught_count r.handlers r.rest in
            then (reads_more {Is = AreKept (suc place)} {Has = OnLimit (PassesHandlers place left)} (λ rs h. h) (λ e h. limit_more (PassesHandlers (suc place) (left - taken)) (PassesHandlers place left) (one_past_more place left taken may) e h) (more r.end (left - taken)))
            (λ rs _ h. gives (r ∷ rs) (one_more place r rs may h))

    pub reads_regions : (sizes : Sizes) → sizes.tries ≡ f.tries → sizes.types ≡ types → Reads (AreKept 0) (OnLimit (PassesHandlers 0 sizes.items)) (regions_of (drop base bytes) sizes places)
    unfolding regions_of
    reads_regions sizes many kinds =
        let behind_tries : drop lists bytes ≡ drop (8 * sizes.tries) (drop base bytes) = ap (λ (n : ℕ). drop (base + 8 * n) bytes) (sym many) ∙ sym (drop-drop (8 * sizes.tries) base bytes) in
        let All : ℕ → ℕ → List ℕ → Type 0 = λ types n ls. Reads (AreKept 0) (OnLimit (PassesHandlers 0 sizes.items)) (regions_from (drop base bytes) ls types places n 0 0 sizes.items) in
        subst (All sizes.types sizes.tries) behind_tries
        (subst (λ (n : ℕ). All n sizes.tries (drop lists bytes)) (sym kinds)
        (subst (λ (n : ℕ). All types n (drop lists bytes)) (sym many)
        (reads_from f.tries 0 0 sizes.items (omega arith))))

-- ---- all handlers of a method

-- names of items of this kind of this method: 6 of lines, 7 of handlers
abbrev pub ItemName : ℕ → ℕ → ℕ → ℕ → List ℕ → Type 0
ItemName kind class which place way = (slice_index way 0 ≡ kind) × (slice_index way 1 ≡ class) × (slice_index way 2 ≡ which) × (slice_index way 3 ≡ place)

abbrev fifth : List ℕ → ℕ
fifth way = slice_index way 4

abbrev sixth : List ℕ → ℕ
sixth way = slice_index way 5

module _ (bytes : List ℕ) (class which place at : ℕ) (f : Frame) (pieces : List Piece) (its : IsMethodCode bytes class which place at f pieces) where
  abbrev Named : List ℕ → Type 0
  Named way = ItemName 7 class which place way

  handlers : (k n : ℕ) → MayKeep bytes at f (places_of its.units pieces) k n → Told (IsItem bytes) (WithKey Named fifth k) n
  handlers k n (inl e) = renamed n (nothing {In = WithKey Named fifth k}) (λ way h. h) (omega (arith, e))
  handlers k n (inr kept) = renamed n
      (lined (WithKey Named fifth k) sixth (λ i. 7 ∷ class ∷ which ∷ place ∷ kept.has.place ∷ i ∷ []) 0 n
      (λ i low few. (limits.OfHandlers class which place at i f pieces kept.catches its kept.has (let many = kept.many in omega (arith, few, many)), ((refl, refl, refl, refl), kept.at_place), refl)))
      (λ way h. h.0) (omega arith)

  each_kept : (from : ℕ) (counts : List ℕ) → Each (MayKeep bytes at f (places_of its.units pieces)) from counts → Each (λ k n. Told (IsItem bytes) (WithKey Named fifth k) n) from counts
  each_kept from [] h = tt
  each_kept from (n ∷ ns) h = (handlers from n h.0, each_kept (suc from) ns h.1)

  pub all_handlers : (counts : List ℕ) → Each (MayKeep bytes at f (places_of its.units pieces)) 0 counts → Told (IsItem bytes) Named (total counts)
  all_handlers counts h = renamed (total counts) (piled Named fifth 0 counts (each_kept 0 counts h)) (λ way h. h.0) (omega arith)
