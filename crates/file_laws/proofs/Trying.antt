-- What is read of regions stands there.
use Rattle.std.proofs.Common.{◌≡◌, ℕ, zero, suc, ◌+◌, ◌*◌, Bool, true, false, cond, ltb, leb, List, [], ◌∷◌, length, drop, Option, Some, None, Result, Ok, Err, refl, sym, ap, subst, ◌∙◌, arith}
use Rattle.std.specs.Prelude.{◌&&◌, slice_get}
use Rattle.std.specs.Result.{result_ok}
use Rattle.std.proofs.lemmas.Bool.{eqb-true, leb-true}
use Rattle.std.proofs.lemmas.List.{drop-drop}
use Rattle.class_defs.proofs.WellFormed.{and_left, and_right}
use Rattle.dex_base.specs.Decides.{Each}
use Rattle.dex_base.specs.Leb.{IsUlebAt}
use Rattle.dex_base.specs.Word.{Is16, Is32, u16_at, u32_at}
use Rattle.dex_base.proofs.Words.{is_16, is_32}
use Rattle.line_tables.specs.Item as line
use Rattle.program_model.specs.declared.body.Handler.{Handler}
use Rattle.program_model.specs.declared.body.Region.{Region}
use Rattle.code_read.specs.declared.fault.CodeFault.{CodeFault}
use Rattle.code_read.specs.declared.sizes.Sizes.{Sizes}
use Rattle.code_read.specs.Handlers.{◌>?=◌, has_list, caught_at}
use Rattle.code_read.specs.Positions.{count_below, begins_with}
use Rattle.code_read.specs.Regions.{try_at, try_item, first_of, end_of, lies_right, region, with_handlers, region_of, region_at, keep, regions_from, regions_of}
use Rattle.dex_defs.specs.Sweep.{Places}
use Rattle.dex_defs.specs.Handlers.{Try, IsTry, AreCatches, AreCatchesAt, covers, covering, first_position, IsRegion, AreRegions}
use Rattle.file_laws.specs.Founds.{Founds}
use Rattle.file_laws.specs.Regions.{AreRegionsAt}
use Rattle.file_laws.proofs.Founding.{weaker, done, failed, when, either, next}
use Rattle.file_laws.proofs.Catches.{Sees, sees, has, read_ok, HasLists, has_lists, AreCaught, sees_caught}
use Rattle.file_laws.proofs.Shifts.{shift_16, shift_32, shift_uleb, shift_chain, shift_catches}

-- ---- try items

abbrev the_try : ℕ → ℕ → ℕ → Try
the_try start count offset = record { start = start; count = count; offset = offset }

sees_32 : (bytes : List ℕ) (from at : ℕ) → Sees (Is32 bytes (from + at)) (result_ok (u32_at (drop from bytes) at))
sees_32 bytes from at = sees (result_ok (u32_at (drop from bytes) at)) (read_ok (u32_at (drop from bytes) at) (is_32 (drop from bytes) at)) (λ n h. shift_32 bytes from at n h)

sees_16 : (bytes : List ℕ) (from at : ℕ) → Sees (Is16 bytes (from + at)) (result_ok (u16_at (drop from bytes) at))
sees_16 bytes from at = sees (result_ok (u16_at (drop from bytes) at)) (read_ok (u16_at (drop from bytes) at) (is_16 (drop from bytes) at)) (λ n h. shift_16 bytes from at n h)

-- ---- positions

below_same : (unit : ℕ) (starts : List ℕ) → count_below unit starts ≡ line.count_below unit starts
below_same unit [] = refl
below_same unit (s ∷ ss) = ap (λ (n : ℕ). cond (ltb s unit) (suc n) 0) (below_same unit ss)

begins : (o : Option ℕ) (unit : ℕ) → begins_with o unit ≡ true → o ≡ Some unit
begins None unit h = absurd cc
begins (Some start) unit h = ap (λ (n : ℕ). Some n) (eqb-true start unit h)

covers_same : (places : Places) (s c o : ℕ) → ltb (first_of places (try_item s c o)) (end_of places (try_item s c o)) ≡ covers places (the_try s c o)
covers_same places s c o = ap (λ (n : ℕ). ltb n (end_of places (try_item s c o))) (below_same s places.starts) ∙ ap (λ (n : ℕ). ltb (first_position places (the_try s c o)) n) (below_same (s + c) places.starts)

-- ---- one region

record IsWith (first end : ℕ) (o : Option (List Handler × Option ℕ)) (r : Option Region) : Type 0 where
  caught : List Handler × Option ℕ
  is : o ≡ Some caught
  region_is : r ≡ Some (region first end caught.0 caught.1)

founds_with : (place first end left : ℕ) (o : Option (List Handler × Option ℕ)) → Founds (IsWith first end o) (with_handlers place first end left o)
founds_with place first end left None = failed _
founds_with place first end left (Some caught) = weaker (with_handlers place first end left (Some caught)) (when _ (done (Some (region first end caught.0 caught.1)))) (λ y p. record { caught = caught; is = refl; region_is = p.1 })

abbrev Keeps : List ℕ → ℕ → Places → ℕ → Try → Option Region → Type 0
Keeps bytes lists places types t None = covers places t ≡ false
Keeps bytes lists places types t (Some r) = (covers places t ≡ true) × IsRegion bytes places lists types t r

are_catches : (bytes : List ℕ) (places : Places) (lists types offset : ℕ) (read : List Handler × Option ℕ) → HasLists (drop lists bytes) offset → (c : AreCaught (drop lists bytes) places types offset read) → AreCatchesAt bytes lists offset c.catches
are_catches bytes places lists types offset read has c =
    let start : lists + 0 ≡ lists = omega arith in
    record {
      count = has.count;
      begin = lists + has.begin;
      stop = lists + c.stop;
      is_count = subst (λ k. IsUlebAt bytes k (has.count, lists + has.begin)) start (shift_uleb bytes lists 0 has.count has.begin has.is_count);
      before = has.before;
      fewer = has.fewer;
      behind = shift_chain (AreCatches (drop lists bytes)) (AreCatches bytes) lists (shift_catches bytes lists) has.begin has.before offset has.chain;
      are = shift_catches bytes lists offset c.catches c.stop c.are;
    }

is_region : (bytes : List ℕ) (places : Places) (lists types from s c o : ℕ) → lies_right places (try_item s c o) from ≡ true → has_list (drop lists bytes) o ≡ true → (caught : List Handler × Option ℕ) → caught_at (drop lists bytes) places.starts types o ≡ Some caught
    → IsRegion bytes places lists types (the_try s c o) (region (first_of places (try_item s c o)) (end_of places (try_item s c o)) caught.0 caught.1)
is_region bytes places lists types from s c o lies listed caught is =
    let first : ℕ = first_of places (try_item s c o) in
    let start : Bool = begins_with (slice_get places.starts first) s in
    let room : Bool = leb (s + c) (length places.units) in
    let rest : Bool = leb from first in
    let found = (sees_caught (drop lists bytes) places types o).found caught is in
    record {
      begins = begins (slice_get places.starts first) s (and_left start (room && rest) lies);
      inside = leb-true _ _ (and_left room rest (and_right start (room && rest) lies));
      ends = below_same (s + c) places.starts;
      catches = found.catches;
      are = are_catches bytes places lists types o caught (has_lists (drop lists bytes) o listed) found;
      handlers = found.handlers;
      rest = found.rest;
    }

record IsKept (bytes : List ℕ) (lists : ℕ) (places : Places) (types at : ℕ) (r : Option Region) : Type 0 where
  t : Try
  is : IsTry bytes at t
  keeps : Keeps bytes lists places types t r

by_item : (bytes : List ℕ) (lists : ℕ) (places : Places) (types at place from left s c o : ℕ) → IsTry bytes at (the_try s c o) → Founds (IsKept bytes lists places types at) (region_of (drop lists bytes) types places place from left (Some (try_item s c o)))
by_item bytes lists places types at place from left s c o stands =
    let first : ℕ = first_of places (try_item s c o) in
    let end : ℕ = end_of places (try_item s c o) in
    either
    (λ is. weaker (cond (lies_right places (try_item s c o) from) (cond (has_list (drop lists bytes) o) (with_handlers place first end left (caught_at (drop lists bytes) places.starts types o)) (Err _)) (Err _))
    (when _ (when _ (founds_with place first end left (caught_at (drop lists bytes) places.starts types o))))
    (λ y p. let w = p.1.1 in subst (IsKept bytes lists places types at) (sym w.region_is) (record {
      t = the_try s c o;
      is = stands;
      keeps = (sym (covers_same places s c o) ∙ is, is_region bytes places lists types from s c o p.0 p.1.0 w.caught w.is);
    })))
    (λ no_position. weaker (Ok None) (done None) (λ y p. subst (IsKept bytes lists places types at) (sym p) (record { t = the_try s c o; is = stands; keeps = sym (covers_same places s c o) ∙ no_position })))

founds_kept : (bytes : List ℕ) (lists : ℕ) (places : Places) (types at place from left : ℕ) (a b c : Option ℕ) → Sees (Is32 bytes at) a → Sees (Is16 bytes (at + 4)) b → Sees (Is16 bytes (at + 6)) c
    → Founds (IsKept bytes lists places types at) (region_of (drop lists bytes) types places place from left (a >?= λ start. b >?= λ count. c >?= λ offset. Some (try_item start count offset)))
founds_kept bytes lists places types at place from left None b c x y z = failed _
founds_kept bytes lists places types at place from left (Some start) None c x y z = failed _
founds_kept bytes lists places types at place from left (Some start) (Some count) None x y z = failed _
founds_kept bytes lists places types at place from left (Some start) (Some count) (Some offset) x y z
    = by_item bytes lists places types at place from left start count offset (record { start = x.found start refl; count = y.found count refl; offset = z.found offset refl })

-- ---- all regions

abbrev with_kept : Option Region → List Region → List Region
with_kept None rs = rs
with_kept (Some r) rs = r ∷ rs

founds_keep : {Is : List Region → Type 0} (kept : Option Region) (more : ℕ → ℕ → Result (List Region) CodeFault) (from left : ℕ) → ((f l : ℕ) → Founds Is (more f l)) → Founds (λ rs. (rest : List Region) × Is rest × (rs ≡ with_kept kept rest)) (keep kept more from left)
founds_keep None more from left d = weaker (more from left) (d from left) (λ y h. (y, h, refl))
founds_keep (Some r) more from left d = next (d r.end _) (λ rs _. done (r ∷ rs))

record AreTried (bytes : List ℕ) (at lists : ℕ) (places : Places) (types n place : ℕ) (rs : List Region) : Type 0 where
  tries : List Try
  many : length tries ≡ n
  are : Each (λ i t. IsTry bytes (at + 8 * i) t) place tries
  regions : AreRegions bytes places lists types (covering places tries) rs

more_regions : (bytes : List ℕ) (lists : ℕ) (places : Places) (types : ℕ) (t : Try) (ts : List Try) (kept : Option Region) (rs : List Region) → Keeps bytes lists places types t kept → AreRegions bytes places lists types (covering places ts) rs
    → AreRegions bytes places lists types (covering places (t ∷ ts)) (with_kept kept rs)
more_regions bytes lists places types t ts None rs h rest = subst (λ b. AreRegions bytes places lists types (cond b (t ∷ covering places ts) (covering places ts)) rs) (sym h) rest
more_regions bytes lists places types t ts (Some r) rs h rest = subst (λ b. AreRegions bytes places lists types (cond b (t ∷ covering places ts) (covering places ts)) (r ∷ rs)) (sym h.0) (h.1, rest)

founds_at : (bytes : List ℕ) (at lists : ℕ) (places : Places) (types place from left : ℕ) → Founds (IsKept bytes lists places types (at + 8 * place)) (region_at (drop at bytes) (drop lists bytes) types places place from left)
unfolding region_at try_at
founds_at bytes at lists places types place from left =
    let four : at + (8 * place + 4) ≡ at + 8 * place + 4 = omega arith in
    let six : at + (8 * place + 6) ≡ at + 8 * place + 6 = omega arith in
    let count = result_ok (u16_at (drop at bytes) (8 * place + 4)) in
    let offset = result_ok (u16_at (drop at bytes) (8 * place + 6)) in
    founds_kept bytes lists places types (at + 8 * place) place from left (result_ok (u32_at (drop at bytes) (8 * place))) count offset
    (sees_32 bytes at (8 * place))
    (subst (λ k. Sees (Is16 bytes k) count) four (sees_16 bytes at (8 * place + 4)))
    (subst (λ k. Sees (Is16 bytes k) offset) six (sees_16 bytes at (8 * place + 6)))

founds_from : (bytes : List ℕ) (at lists : ℕ) (places : Places) (types n place from left : ℕ) → Founds (AreTried bytes at lists places types n place) (regions_from (drop at bytes) (drop lists bytes) types places n place from left)
founds_from bytes at lists places types zero place from left = weaker (Ok []) (done []) (λ y p. subst (AreTried bytes at lists places types 0 place) (sym p) (record { tries = []; many = refl; are = tt; regions = tt }))
founds_from bytes at lists places types (suc n) place from left = weaker (regions_from (drop at bytes) (drop lists bytes) types places (suc n) place from left)
    (next (founds_at bytes at lists places types place from left) (λ kept _. founds_keep kept (λ f l. regions_from (drop at bytes) (drop lists bytes) types places n (suc place) f l) from left (λ f l. founds_from bytes at lists places types n (suc place) f l)))
    (λ y p.
    let rest = p.2.1 in
    subst (AreTried bytes at lists places types (suc n) place) (sym p.2.2) (record {
      tries = p.1.t ∷ rest.tries;
      many = ap suc rest.many;
      are = (p.1.is, rest.are);
      regions = more_regions bytes lists places types p.1.t rest.tries p.0 p.2.0 p.1.keeps rest.regions;
    }))

pub founds_regions : (bytes : List ℕ) (at : ℕ) (sizes : Sizes) (places : Places) → Founds (AreRegionsAt bytes at sizes places) (regions_of (drop at bytes) sizes places)
unfolding regions_of
founds_regions bytes at sizes places = weaker (regions_of (drop at bytes) sizes places)
    (subst (λ lists. Founds (AreTried bytes at (at + 8 * sizes.tries) places sizes.types sizes.tries 0) (regions_from (drop at bytes) lists sizes.types places sizes.tries 0 0 sizes.items)) (sym (drop-drop (8 * sizes.tries) at bytes))
    (founds_from bytes at (at + 8 * sizes.tries) places sizes.types sizes.tries 0 0 sizes.items))
    (λ rs h. record { tries = h.tries; are_tries = (h.many, h.are); regions_are = h.regions })
