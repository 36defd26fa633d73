-- What is read of handler lists stands there.
use Rattle.std.proofs.Common.{◌≡◌, ◌<◌, ℕ, zero, suc, ◌+◌, ◌*◌, Bool, true, false, cond, ltb, eqb, List, [], ◌∷◌, length, Option, Some, None, Result, Ok, Err, refl, sym, ap, subst, ◌∙◌, arith}
use Rattle.std.specs.Prelude.{◌||◌, ℤ, pos, negsuc, unsigned_abs, slice_get}
use Rattle.std.specs.List.{list_any}
use Rattle.std.specs.Result.{result_ok}
use Rattle.std.proofs.lemmas.Bool.{ltb-true, eqb-true}
use Rattle.std.proofs.lemmas.List.Quantifiers.{position-Some}
use Rattle.std.proofs.lemmas.Option.{slice_get-get_or}
use Rattle.dex_base.specs.Leb.{IsUlebAt, IsSlebAt, uleb_at, sleb_at}
use Rattle.dex_base.specs.Decides.{Decides, ChainOf}
use Rattle.dex_base.proofs.LebReading.{is_uleb, is_sleb}
use Rattle.program_model.specs.declared.body.Handler.{Handler}
use Rattle.code_read.specs.Handlers.{◌>?=◌, number_at, size_at, has_rest, skip_numbers, list_end, lists_behind, lists_from, counted_lists, lists_in, has_list, address_at, handler_at, handlers_at, rest_at, caught_at}
use Rattle.code_read.specs.Positions.{position_of}
use Rattle.dex_defs.specs.Sweep.{Places}
use Rattle.dex_defs.specs.Handlers.{Catches, IsPair, magnitude, IsRestAt, AreCatches, IsHandler, AreHandlers, IsRest}

-- what is looked up stands there
pub record Sees {Y : Type 0} (Is : Y → Type 0) (o : Option Y) : Type 0 where
  pub found : (y : Y) → o ≡ Some y → Is y

abbrev some : {Y : Type 0} → Y → Option Y
some y = Some y

some_is : {Y : Type 0} (x y : Y) → some x ≡ some y → x ≡ y
some_is x y e = cc

none_is : {Y : Type 0} (y : Y) → None ≡ some y → ⊥
none_is y e = absurd cc

pub sees : {Y : Type 0} {Is Is' : Y → Type 0} (o : Option Y) → Sees Is o → ((y : Y) → Is y → Is' y) → Sees Is' o
sees o d to = record { found = λ y h. to y (d.found y h) }

pub has : {Y : Type 0} (v : Y) → Sees (λ y. y ≡ v) (Some v)
has v = record { found = λ y h. sym (some_is v y h) }

pub has_none : {Y : Type 0} {Is : Y → Type 0} → Sees Is None
has_none = record { found = λ y h. absurd (none_is y h) }

pub then : {X Y : Type 0} {Is : X → Type 0} {Is' : X → Y → Type 0} {o : Option X} {f : X → Option Y} → Sees Is o → ((x : X) → Is x → Sees (Is' x) (f x)) → Sees (λ y. (x : X) × Is x × Is' x y) (o >?= f)
then {o = Some x} d g = record { found = λ y h. (x, d.found x refl, (g x (d.found x refl)).found y h) }
then {o = None} d g = record { found = λ y h. absurd (none_is y h) }

pub sees_if : {Y : Type 0} {Is : Y → Type 0} (b : Bool) (o : Option Y) → Sees Is o → Sees (λ y. (b ≡ true) × Is y) (cond b o None)
sees_if true o d = record { found = λ y h. (refl, d.found y h) }
sees_if false o d = record { found = λ y h. absurd (none_is y h) }

pub read_ok : {X F : Type 0} {Is : X → Type 0} {Has : F → Type 0} (read : Result X F) → Decides Is Has read → Sees Is (result_ok read)
read_ok {Is = Is} (Ok x) d = record { found = λ y h. subst Is (some_is x y h) (d.found x refl) }
read_ok (Err e) d = has_none

-- ---- numbers

sees_number : (bytes : List ℕ) (at : ℕ) → Sees (IsUlebAt bytes at) (number_at bytes at)
sees_number bytes at = read_ok (uleb_at bytes at) (is_uleb bytes at)

sees_size : (bytes : List ℕ) (at : ℕ) → Sees (IsSlebAt bytes at) (size_at bytes at)
sees_size bytes at = read_ok (sleb_at bytes at) (is_sleb bytes at)

-- ---- lists that are skipped

record ArePairs (bytes : List ℕ) (m rest at stop : ℕ) : Type 0 where
  pairs : List (ℕ × ℕ)
  mid : ℕ
  many : length pairs ≡ m
  chain : ChainOf (IsPair bytes) at pairs mid
  behind : skip_numbers bytes rest mid ≡ Some stop

sees_pairs : (bytes : List ℕ) (m rest at : ℕ) → Sees (ArePairs bytes m rest at) (skip_numbers bytes (2 * m + rest) at)
sees_pairs bytes zero rest at = record { found = λ stop h. record { pairs = []; mid = at; many = refl; chain = refl; behind = ap (λ (n : ℕ). skip_numbers bytes n at) (no_more rest) ∙ h } }
  where
    no_more : (rest : ℕ) → rest ≡ 2 * 0 + rest
    no_more rest = omega arith
sees_pairs bytes (suc m) rest at =
    let more : suc (suc (2 * m + rest)) ≡ 2 * suc m + rest = omega arith in
    subst (λ n. Sees (ArePairs bytes (suc m) rest at) (skip_numbers bytes n at)) more
    (sees (skip_numbers bytes (suc (suc (2 * m + rest))) at)
    (then (sees_number bytes at) (λ kind _. then (sees_number bytes kind.1) (λ unit _. sees_pairs bytes m rest unit.1)))
    (λ stop p.
    let rest_is = p.2.2 in record {
      pairs = (p.0.0, p.2.0.0) ∷ rest_is.pairs;
      mid = rest_is.mid;
      many = ap suc rest_is.many;
      chain = (p.2.0.1, record { mid = p.0.1; kind = p.1; unit = p.2.1 }, rest_is.chain);
      behind = rest_is.behind;
    }))

record HasRest (bytes : List ℕ) (size : ℤ) (at stop : ℕ) : Type 0 where
  rest : Option ℕ
  is : IsRestAt bytes size at rest stop

none_skipped : (bytes : List ℕ) (at stop : ℕ) (b : Bool) → b ≡ false → skip_numbers bytes (cond b 1 0) at ≡ Some stop → stop ≡ at
none_skipped bytes at stop false e h = sym (some_is at stop h)
none_skipped bytes at stop true e h = absurd cc

one_skipped : (bytes : List ℕ) (at : ℕ) → Sees (λ stop. (unit : ℕ) × IsUlebAt bytes at (unit, stop)) (skip_numbers bytes 1 at)
one_skipped bytes at = sees (skip_numbers bytes 1 at) (then (sees_number bytes at) (λ read _. has read.1)) (λ stop p. subst (λ s. (unit : ℕ) × IsUlebAt bytes at (unit, s)) (sym p.2) (p.0.0, p.1))

positive : (n : ℕ) → has_rest (pos (suc n)) ≡ false
positive n = grind arith

sees_rest : (bytes : List ℕ) (size : ℤ) (at stop : ℕ) → skip_numbers bytes (cond (has_rest size) 1 0) at ≡ Some stop → HasRest bytes size at stop
sees_rest bytes (pos (suc n)) at stop h = record { rest = None; is = (refl, none_skipped bytes at stop (has_rest (pos (suc n))) (positive n) h) }
sees_rest bytes (pos zero) at stop h = let r = (one_skipped bytes at).found stop h in record { rest = Some r.0; is = (r.0, r.1, refl) }
sees_rest bytes (negsuc n) at stop h = let r = (one_skipped bytes at).found stop h in record { rest = Some r.0; is = (r.0, r.1, refl) }

magnitude_is : (z : ℤ) → unsigned_abs z ≡ magnitude z
magnitude_is (pos n) = refl
magnitude_is (negsuc n) = refl

pub sees_end : (bytes : List ℕ) (at : ℕ) → Sees (λ stop. (catches : Catches) × AreCatches bytes at (catches, stop)) (list_end bytes at)
unfolding list_end
sees_end bytes at = sees (list_end bytes at)
    (then (sees_size bytes at) (λ size _. sees_pairs bytes (unsigned_abs size.0) (cond (has_rest size.0) 1 0) size.1))
    (λ stop p.
    let pairs = p.2 in
    let rest = sees_rest bytes p.0.0 pairs.mid stop pairs.behind in (
      record { pairs = pairs.pairs; rest = rest.rest },
      record { size = p.0.0; begin = p.0.1; mid = pairs.mid; is_size = p.1; many = pairs.many ∙ magnitude_is p.0.0; pairs = pairs.chain; rest = rest.is },
    ))

-- ---- one of the lists begins at an offset

record AreBefore (bytes : List ℕ) (n at target : ℕ) : Type 0 where
  before : List Catches
  fewer : length before < n
  chain : ChainOf (AreCatches bytes) at before target

by_end : (bytes : List ℕ) (n at target : ℕ) (o : Option ℕ) → Sees (λ stop. (catches : Catches) × AreCatches bytes at (catches, stop)) o → ((next : ℕ) → list_any (λ place. eqb place target) (lists_from n bytes next) ≡ true → AreBefore bytes n next target)
    → list_any (λ place. eqb place target) (lists_behind o (λ next. lists_from n bytes next)) ≡ true → AreBefore bytes (suc n) at target
by_end bytes n at target None d g h = absurd cc
by_end bytes n at target (Some next) d g h =
    let c = d.found next refl in
    let rest = g next h in
    record { before = c.0 ∷ rest.before; fewer = omega (arith, rest.fewer); chain = (next, c.1, rest.chain) }

by_place : (bytes : List ℕ) (n at target : ℕ) (b c : Bool) → b ≡ eqb at target → (b || c) ≡ true → (c ≡ true → AreBefore bytes (suc n) at target) → AreBefore bytes (suc n) at target
by_place bytes n at target true c e h g = record { before = []; fewer = omega arith; chain = sym (eqb-true at target (sym e)) }
by_place bytes n at target false c e h g = g h

are_before : (bytes : List ℕ) (n at target : ℕ) → list_any (λ place. eqb place target) (lists_from n bytes at) ≡ true → AreBefore bytes n at target
are_before bytes zero at target h = absurd cc
are_before bytes (suc n) at target h = by_place bytes n at target (eqb at target) (list_any (λ place. eqb place target) (lists_behind (list_end bytes at) (λ next. lists_from n bytes next))) refl h
    (λ g. by_end bytes n at target (list_end bytes at) (sees_end bytes at) (λ next. are_before bytes n next target) g)

pub record HasLists (bytes : List ℕ) (offset : ℕ) : Type 0 where
  pub count : ℕ
  pub begin : ℕ
  pub is_count : IsUlebAt bytes 0 (count, begin)
  pub before : List Catches
  pub fewer : length before < count
  pub chain : ChainOf (AreCatches bytes) begin before offset

by_count : (bytes : List ℕ) (offset : ℕ) (o : Option (ℕ × ℕ)) → Sees (IsUlebAt bytes 0) o → list_any (λ place. eqb place offset) (counted_lists bytes o) ≡ true → HasLists bytes offset
by_count bytes offset None d h = absurd cc
by_count bytes offset (Some read) d h = let b = are_before bytes read.0 read.1 offset h in record { count = read.0; begin = read.1; is_count = d.found read refl; before = b.before; fewer = b.fewer; chain = b.chain }

pub has_lists : (bytes : List ℕ) (offset : ℕ) → has_list bytes offset ≡ true → HasLists bytes offset
unfolding lists_in
has_lists bytes offset h = by_count bytes offset (number_at bytes 0) (sees_number bytes 0) h

-- ---- what a list says

record IsAddress (bytes starts : List ℕ) (at : ℕ) (read : ℕ × ℕ) : Type 0 where
  unit : ℕ
  is : IsUlebAt bytes at (unit, read.1)
  begins : slice_get starts read.0 ≡ Some unit

sees_position : (starts : List ℕ) (unit : ℕ) → Sees (λ k. slice_get starts k ≡ Some unit) (position_of starts unit)
sees_position starts unit = record {
  found = λ k h.
      let q = position-Some (λ s. eqb s unit) starts k 0 h in
      slice_get-get_or starts k 0 q.0 ∙ ap (λ (u : ℕ). Some u) (eqb-true _ _ q.1);
}

sees_address : (bytes starts : List ℕ) (at : ℕ) → Sees (IsAddress bytes starts at) (address_at bytes starts at)
unfolding address_at
sees_address bytes starts at = sees (address_at bytes starts at)
    (then (sees_number bytes at) (λ read _. then (sees_position starts read.0) (λ k _. has (k, read.1))))
    (λ y p. subst (IsAddress bytes starts at) (sym p.2.2) (record { unit = p.0.0; is = p.1; begins = p.2.1 }))

record IsRead (bytes : List ℕ) (places : Places) (types at : ℕ) (read : Handler × ℕ) : Type 0 where
  pair : ℕ × ℕ
  is : IsPair bytes at (pair, read.1)
  handler : IsHandler places types pair read.0

sees_handler : (bytes : List ℕ) (places : Places) (types at : ℕ) → Sees (IsRead bytes places types at) (handler_at bytes places.starts types at)
unfolding handler_at
sees_handler bytes places types at = sees (handler_at bytes places.starts types at)
    (then (sees_number bytes at) (λ kind _. then (sees_address bytes places.starts kind.1) (λ address _. sees_if (ltb kind.0 types) (Some (record { kind = kind.0; position = address.0 }, address.1)) (has _))))
    (λ y p. subst (IsRead bytes places types at) (sym p.2.2.1) (record {
      pair = (p.0.0, p.2.1.unit);
      is = record { mid = p.0.1; kind = p.1; unit = p.2.1.is };
      handler = record { kind = refl; below = ltb-true _ _ p.2.2.0; position = p.2.1.begins };
    }))

record AreRead (bytes : List ℕ) (places : Places) (types n at : ℕ) (read : List Handler × ℕ) : Type 0 where
  pairs : List (ℕ × ℕ)
  many : length pairs ≡ n
  chain : ChainOf (IsPair bytes) at pairs read.1
  handlers : AreHandlers places types pairs read.0

sees_handlers : (bytes : List ℕ) (places : Places) (types n at : ℕ) → Sees (AreRead bytes places types n at) (handlers_at bytes places.starts types n at)
sees_handlers bytes places types zero at = sees (handlers_at bytes places.starts types zero at) (has ([], at)) (λ y p. subst (AreRead bytes places types 0 at) (sym p) (record { pairs = []; many = refl; chain = refl; handlers = tt }))
sees_handlers bytes places types (suc n) at = sees (handlers_at bytes places.starts types (suc n) at)
    (then (sees_handler bytes places types at) (λ h _. then (sees_handlers bytes places types n h.1) (λ hs _. has (h.0 ∷ hs.0, hs.1))))
    (λ y p. subst (AreRead bytes places types (suc n) at) (sym p.2.2) (record {
      pairs = p.1.pair ∷ p.2.1.pairs;
      many = ap suc p.2.1.many;
      chain = (p.0.1, p.1.is, p.2.1.chain);
      handlers = (p.1.handler, p.2.1.handlers);
    }))

-- the catch-all of a list, by its size
record IsLast (bytes : List ℕ) (places : Places) (size : ℤ) (at : ℕ) (read : Option ℕ) : Type 0 where
  rest : Option ℕ
  stop : ℕ
  is : IsRestAt bytes size at rest stop
  position : IsRest places rest read

abbrev none : Option ℕ
none = None

no_last : (bytes : List ℕ) (places : Places) (at : ℕ) (read : Option ℕ) (b : Bool) → b ≡ false → rest_at bytes places.starts b at ≡ Some read → read ≡ none
no_last bytes places at read false e h = sym (some_is none read h)
no_last bytes places at read true e h = absurd cc

one_last : (bytes : List ℕ) (places : Places) (at : ℕ) → Sees (λ read. (unit stop : ℕ) × IsUlebAt bytes at (unit, stop) × IsRest places (Some unit) read) (rest_at bytes places.starts true at)
one_last bytes places at = sees (rest_at bytes places.starts true at) (then (sees_address bytes places.starts at) (λ address _. has (Some address.0)))
    (λ y p. subst (λ r. (unit stop : ℕ) × IsUlebAt bytes at (unit, stop) × IsRest places (Some unit) r) (sym p.2) (p.1.unit, p.0.1, p.1.is, p.1.begins))

sees_last : (bytes : List ℕ) (places : Places) (size : ℤ) (at : ℕ) → Sees (IsLast bytes places size at) (rest_at bytes places.starts (has_rest size) at)
sees_last bytes places (pos (suc n)) at = record { found = λ y h. subst (IsLast bytes places (pos (suc n)) at) (sym (no_last bytes places at y (has_rest (pos (suc n))) (positive n) h)) (record { rest = None; stop = at; is = (refl, refl); position = tt }) }
sees_last bytes places (pos zero) at = sees (rest_at bytes places.starts true at) (one_last bytes places at) (λ y p. record { rest = Some p.0; stop = p.1; is = (p.0, p.2, refl); position = p.3 })
sees_last bytes places (negsuc n) at = sees (rest_at bytes places.starts true at) (one_last bytes places at) (λ y p. record { rest = Some p.0; stop = p.1; is = (p.0, p.2, refl); position = p.3 })

pub record AreCaught (bytes : List ℕ) (places : Places) (types at : ℕ) (read : List Handler × Option ℕ) : Type 0 where
  pub catches : Catches
  pub stop : ℕ
  pub are : AreCatches bytes at (catches, stop)
  pub handlers : AreHandlers places types catches.pairs read.0
  pub rest : IsRest places catches.rest read.1

pub sees_caught : (bytes : List ℕ) (places : Places) (types at : ℕ) → Sees (AreCaught bytes places types at) (caught_at bytes places.starts types at)
unfolding caught_at
sees_caught bytes places types at = sees (caught_at bytes places.starts types at)
    (then (sees_size bytes at) (λ size _. then (sees_handlers bytes places types (unsigned_abs size.0) size.1) (λ hs _. then (sees_last bytes places size.0 hs.1) (λ rest _. has (hs.0, rest)))))
    (λ y p.
    let hs = p.2.1 in let last = p.2.2.1 in
    subst (AreCaught bytes places types at) (sym p.2.2.2) (record {
      catches = record { pairs = hs.pairs; rest = last.rest };
      stop = last.stop;
      are = record { size = p.0.0; begin = p.0.1; mid = p.2.0.1; is_size = p.1; many = hs.many ∙ magnitude_is p.0.0; pairs = hs.chain; rest = last.is };
      handlers = hs.handlers;
      rest = last.position;
    }))
