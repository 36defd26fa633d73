-- A body that was read lays out: the sizes with which its instructions stood have room, so that no distance is greater in the least ones.
use Rattle.std.proofs.Common.{◌≡◌, ℕ, zero, suc, ◌+◌, ◌-◌, ◌*◌, ◌^◌, ◌<◌, ◌≤◌, Bool, true, false, cond, ltb, List, [], ◌∷◌, length, take, drop, map, Option, Some, None, Ok, refl, sym, ap, subst, ◌∙◌, arith, All}
use Rattle.std.specs.Prelude.{slice_get, slice_index}
use Rattle.std.specs.Int.{w16, from_le_bytes}
use Rattle.std.proofs.lemmas.Bool.{ltb-true}
use Rattle.std.proofs.lemmas.List.Elements.{All-nil, All-cons, All-weaker}
use Rattle.lemmas.proofs.Options.{some_same, none_some}
use Rattle.dex_base.specs.Decides.{Each, Entries}
use Rattle.dex_base.specs.Word.{Is16}
use Rattle.line_tables.specs.Item.{count_below}
use Rattle.insn_set.specs.declared.form.Insn.{Insn}
use Rattle.relax.specs.Sizes.{start, Below}
use Rattle.relax.specs.Far.{is_far, first_far}
use Rattle.program_model.specs.declared.body.Body.{Body}
use Rattle.program_model.specs.declared.body.Region.{Region}
use Rattle.code_read.specs.declared.sizes.Sizes.{Sizes}
use Rattle.code_read.specs.Code.{code_of}
use Rattle.dex_defs.specs.LaysOut.{step_of, IsNear, list_begins, LaysOutBody}
use Rattle.dex_defs.specs.Sweep.{Piece, Places, instructions, starts_of, places_of}
use Rattle.dex_defs.specs.Handlers.{Try, IsTry, covers, covering, first_position, end_position, IsRegion, AreRegions}
use Rattle.file_laws.specs.Code.{IsBody}
use Rattle.file_laws.specs.Regions.{AreRegionsAt}
use Rattle.file_laws.proofs.Bodies.{founds_code}
use Rattle.file_laws.proofs.Trying.{founds_regions}
use Rattle.read_laws.proofs.Bounds.{AreBytes, taken, dropped}
use Rattle.read_laws.proofs.FieldBounds.{AreUnits}
use Rattle.layout_law.specs.Shorter.{condition_of}
use Rattle.layout_law.proofs.Least.{least_under}
use Rattle.layout_law.proofs.Nearer.{Shrinks, below_shrinks, begins_lower, begins_same, stays_near, reaches}
use Rattle.layout_law.proofs.Steps.{goes_far, far_by, none_far, none_further}
use Rattle.layout_law.proofs.Chains.{Lower}
use Rattle.layout_law.proofs.Low.{Listing, listed_low}
use Rattle.layout_law.proofs.Gaps.{Behind, pieces_behind, gaps, gaps_begin, AllLie, all_lie}

-- ---- two bytes

of_two : (bytes : List ℕ) → from_le_bytes w16 bytes ≡ slice_index bytes 0 + 256 * slice_index bytes 1
of_two bytes = omega arith

pub half_small : (bytes : List ℕ) (at n : ℕ) → AreBytes bytes → Is16 bytes at n → n < 65536
half_small bytes at n are is =
    let two = taken 2 (drop at bytes) (dropped at bytes are) in
    omega (arith, is.spelled, of_two (take 2 (drop at bytes)), two 0, two 1)

-- ---- where positions begin

base_of : List Piece → ℕ
base_of [] = 0
base_of (p ∷ ps) = p.start

all_begin : (ps : List Piece) (low stop : ℕ) → Behind low ps stop → (k u : ℕ) → slice_get (starts_of ps) k ≡ Some u → start (gaps ps stop) k + base_of ps ≡ u
unfolding base_of
all_begin [] low stop b k u e = none_some u e
all_begin (p ∷ ps) low stop b k u e = gaps_begin p ps low stop b k u e

-- ---- branches

far_still : (ss ts : List ℕ) → Shrinks (λ n. n) ss ts → (n : ℕ) (is : List Insn) → first_far ss n is ≡ None → first_far ts n is ≡ None
far_still ss ts s n [] e = refl
far_still ss ts s n (i ∷ is) e =
    let o = none_far ss n i is e in
    none_further ts n i is (far_by ts n i ∙ by (condition_of i) (sym (far_by ss n i) ∙ o.0)) (far_still ss ts s (suc n) is o.1)
  where
    by : (c : Option ℕ) → goes_far ss n c ≡ false → goes_far ts n c ≡ false
    by None d = refl
    by (Some t) d = reaches (λ n. n) ss ts s n t d

-- ---- regions

-- the last of the positions that begin before a unit
below_last : (unit : ℕ) (ss : List ℕ) (m : ℕ) → count_below unit ss ≡ suc m → (u : ℕ) × (slice_get ss m ≡ Some u) × (u < unit)
below_last unit [] m e = absurd (omega (arith, e))
below_last unit (s ∷ ss) m e = by (ltb s unit) refl e (λ k. below_last unit ss k)
  where
    further : (m : ℕ) → count_below unit ss ≡ m → s < unit → ((k : ℕ) → count_below unit ss ≡ suc k → (u : ℕ) × (slice_get ss k ≡ Some u) × (u < unit)) → (u : ℕ) × (slice_get (s ∷ ss) m ≡ Some u) × (u < unit)
    further zero e lt later = (s, refl, lt)
    further (suc m) e lt later = later m e

    by : (b : Bool) → ltb s unit ≡ b → cond b (suc (count_below unit ss)) 0 ≡ suc m → ((k : ℕ) → count_below unit ss ≡ suc k → (u : ℕ) × (slice_get ss k ≡ Some u) × (u < unit)) → (u : ℕ) × (slice_get (s ∷ ss) m ≡ Some u) × (u < unit)
    by true h g later = further m (omega (arith, g)) (ltb-true s unit h) later
    by false h g later = absurd (omega (arith, g))

module _ (bytes : List ℕ) (are : AreBytes bytes) (places : Places) (lists types : ℕ) (ss : List ℕ) (base : ℕ) (begins : (k u : ℕ) → slice_get places.starts k ≡ Some u → start ss k + base ≡ u) where
  region_near : (t : Try) (r : Region) → t.count < 65536 → covers places t ≡ true → IsRegion bytes places lists types t r → IsNear ss r
  region_near t r small covered is = by r.end refl
    where
      from : start ss r.first + base ≡ t.start
      from = begins r.first t.start is.begins

      by : (n : ℕ) → r.end ≡ n → start ss (r.end - 1) ≤ start ss r.first + 65534
      by zero e = absurd (omega (arith, ltb-true (first_position places t) (end_position places t) covered, is.ends, e))
      by (suc m) e =
          let last = below_last (t.start + t.count) places.starts m (sym is.ends ∙ e) in
          let at = begins m last.0 last.1 in
          let same : r.end - 1 ≡ m = omega (arith, e) in
          rw same (omega (arith, at, last.2, from, small))

  -- each region with the list of its handlers
  record Listed (n : ℕ) (rs : List Region) : Type 0 where
    pub listings : List (Listing bytes places lists types)
    pub are_regions : map (λ (l : Listing bytes places lists types). l.region) listings ≡ rs
    pub near : All (IsNear ss) rs
    pub few : length rs ≤ n

  abbrev listing : (t : Try) (r : Region) → t.offset < 65536 → IsRegion bytes places lists types t r → Listing bytes places lists types
  listing t r small is = record {
    region = r;
    offset = t.offset;
    low = omega (arith, small);
    catches = is.catches;
    are = is.are;
    gives = record { are = is.are.are; handlers = is.handlers; rest = is.rest };
  }

  one_listed : (at n : ℕ) (t : Try) (r : Region) (rs : List Region) → IsTry bytes at t → covers places t ≡ true → IsRegion bytes places lists types t r → Listed n rs → Listed (suc n) (r ∷ rs)
  one_listed at n t r rs tried covered is l =
      let offset = half_small bytes (at + 6) t.offset are tried.offset in
      let count = half_small bytes (at + 4) t.count are tried.count in
      record {
        listings = listing t r offset is ∷ l.listings;
        are_regions = ap (λ xs. r ∷ xs) l.are_regions;
        near = All-cons (IsNear ss) r rs (region_near t r count covered is) l.near;
        few = omega (arith, l.few);
      }

  all_listed : (place : ℕ → ℕ) (from : ℕ) (ts : List Try) (rs : List Region) → Each (λ i t. IsTry bytes (place i) t) from ts → AreRegions bytes places lists types (covering places ts) rs → Listed (length ts) rs
  all_listed place from [] [] e a = record { listings = []; are_regions = refl; near = All-nil (IsNear ss); few = omega arith }
  all_listed place from [] (r ∷ rs) e a = absurd a
  all_listed place from (t ∷ ts) rs e a = by (covers places t) refl rs a (λ qs. all_listed place (suc from) ts qs e.1)
    where
      further : (rs : List Region) → Listed (length ts) rs → Listed (suc (length ts)) rs
      further rs l = record { listings = l.listings; are_regions = l.are_regions; near = l.near; few = omega (arith, l.few) }

      by : (b : Bool) → covers places t ≡ b → (rs : List Region) → AreRegions bytes places lists types (cond b (t ∷ covering places ts) (covering places ts)) rs
          → ((qs : List Region) → AreRegions bytes places lists types (covering places ts) qs → Listed (length ts) qs) → Listed (suc (length ts)) rs
      by true h [] a rest = absurd a
      by true h (r ∷ qs) a rest = one_listed (place from) (length ts) t r qs e.0 h a.0 (rest qs a.1)
      by false h qs a rest = further qs (rest qs a)

-- ---- the body

module _ (bytes : List ℕ) (are : AreBytes bytes) (at : ℕ) (sizes : Sizes) (few : sizes.tries < 65536) (units : List ℕ) (are_units : AreUnits units) (b : Body) (starts : List ℕ) (is : IsBody units (drop at bytes) sizes (b, starts)) where
  abbrev ps : List Piece
  ps = instructions is.pieces

  abbrev places : Places
  places = places_of units is.pieces

  abbrev ss : List ℕ
  ss = gaps ps (length units)

  behind : Behind 0 ps (length units)
  behind = pieces_behind units are_units 0 0 is.pieces (length units) (omega arith) is.swept

  begins : (k u : ℕ) → slice_get places.starts k ≡ Some u → start ss k + base_of ps ≡ u
  begins k u e = all_begin ps 0 (length units) behind k u e

  lie : AllLie places ss (base_of ps) begins 0 ps (length units) b.insns
  lie = all_lie places ss (base_of ps) begins 0 0 (length units) ps b.insns behind is.insns (λ i. let e : 0 + i ≡ i = omega arith in ap (λ j. slice_get places.starts j) e)

  lower : (ts : List ℕ) → Shrinks (λ n. n) ss ts → Lower places ts
  lower ts s = record {
    low = λ k u e. (let f = begins k u e in let l = begins_lower (λ n. n) ss ts s k in omega (arith, f, l));
    same = λ i k u e g. (let f = begins i u e in let h = begins k u g in begins_same (λ n. n) ss ts s i k (omega (arith, f, h)));
  }

  laid_out : LaysOutBody b
  laid_out =
      let found : AreRegionsAt bytes at sizes places b.regions = (founds_regions bytes at sizes places).found b.regions is.regions in
      let listed = all_listed bytes are places (at + 8 * sizes.tries) sizes.types ss (base_of ps) begins (λ i. at + 8 * i) 0 found.tries b.regions found.are_tries.1 found.regions_are in
      let t = least_under (map step_of b.insns) ss lie.room in
      let s = below_shrinks ss t.0 t.2 in
      record {
        sizes = t.0;
        least = t.1;
        branches = far_still ss t.0 s 0 b.insns lie.near;
        regions = All-weaker (IsNear ss) (IsNear t.0) (λ r n. stays_near (λ n. n) ss t.0 s r.first r.end n) b.regions listed.near;
        few = omega (arith, listed.few, found.are_tries.0, few);
        lists = subst (λ rs. All (λ at. at ≤ 65535) (list_begins t.0 rs)) listed.are_regions (listed_low bytes places (at + 8 * sizes.tries) sizes.types t.0 (lower t.0 s) listed.listings);
      }

-- what is read of units of 16 bits, with at most so many try items
pub body_lies : (bytes : List ℕ) → AreBytes bytes → (at : ℕ) (sizes : Sizes) → sizes.tries < 65536 → (units : List ℕ) → AreUnits units → length units < 2 ^ 32 → (r : Body × List ℕ) → code_of units (drop at bytes) sizes ≡ Ok r → LaysOutBody r.0
body_lies bytes are at sizes few units are_units short r e = laid_out bytes are at sizes few units are_units r.0 r.1 ((founds_code units (drop at bytes) sizes short).found r e)
