-- A handler list that stands is found, and what is not read of one is wrong.
use Rattle.std.proofs.Common.{◌≡◌, ◌≤◌, ◌<◌, ◌⊎◌, inl, inr, ℕ, zero, suc, ◌+◌, ◌*◌, Bool, true, false, cond, ltb, eqb, List, [], ◌∷◌, length, take, drop, Option, Some, None, Result, refl, sym, ap, subst, ◌∙◌, arith}
use Rattle.std.specs.Prelude.{ℤ, pos, negsuc, unsigned_abs, slice_get}
use Rattle.std.specs.List.{list_any, position_or_len}
use Rattle.std.specs.Result.{result_ok}
use Rattle.std.proofs.lemmas.Bool.{ltb-false, lt-ltb, eq-eqb}
use Rattle.std.proofs.lemmas.List.{length-drop, drop-drop}
use Rattle.lemmas.proofs.Bools.{or_left, or_right, or_cases, untrue}
use Rattle.lemmas.proofs.Options.{some_same}
use Rattle.dex_base.specs.declared.fault.BaseFault.{BaseFault}
use Rattle.dex_base.specs.Decides.{ChainOf}
use Rattle.dex_base.specs.Leb.{IsLebAt, IsUlebAt, IsSlebAt}
use Rattle.dex_base.proofs.LebReading.{is_uleb, is_sleb}
use Rattle.program_model.specs.declared.body.Handler.{Handler}
use Rattle.code_read.specs.Handlers.{◌>?=◌, number_at, size_at, has_rest, numbers_behind, skip_numbers, list_end, lists_behind, lists_from, counted_lists, lists_in, has_list, address_at, handler, handler_at, handlers_at, rest_at, caught_at}
use Rattle.code_read.specs.Positions.{position_of}
use Rattle.dex_defs.specs.Sweep.{Places}
use Rattle.dex_defs.specs.Handlers.{Catches, IsPair, magnitude, IsRestAt, AreCatches, AreCatchesAt}
use Rattle.dex_defs.specs.CodeFaults.{NoPosition, BadCatches}
use Rattle.dex_defs.specs.CodeFaults as bad
use Rattle.refused_code.proofs.Targeting.{found_first}

-- ---- what stands in all bytes stands in those from a place on

pub record Back {X : Type 0} (There : X × ℕ → Type 0) (from : ℕ) (x : X) (stop : ℕ) : Type 0 where
  pub end : ℕ
  pub same : stop ≡ from + end
  pub is : There (x, end)

leb_back : (bytes : List ℕ) (from at : ℕ) (text : List ℕ) → IsLebAt bytes (from + at) text → IsLebAt (drop from bytes) at text
leb_back bytes from at text h = record {
  is = h.is;
  inside = omega (arith, h.inside, length-drop from bytes);
  here = ap (λ (bs : List ℕ). take (length text) bs) (drop-drop at from bytes) ∙ h.here;
}

uleb_back : (bytes : List ℕ) (from at n stop : ℕ) → IsUlebAt bytes (from + at) (n, stop) → Back (IsUlebAt (drop from bytes) at) from n stop
uleb_back bytes from at n stop h = record {
  end = at + length h.text;
  same = omega (arith, h.behind);
  is = record { text = h.text; stands = leb_back bytes from at h.text h.stands; value = h.value; behind = refl };
}

sleb_back : (bytes : List ℕ) (from at : ℕ) (z : ℤ) (stop : ℕ) → IsSlebAt bytes (from + at) (z, stop) → Back (IsSlebAt (drop from bytes) at) from z stop
sleb_back bytes from at z stop h = record {
  end = at + length h.text;
  same = omega (arith, h.behind);
  is = record { text = h.text; stands = leb_back bytes from at h.text h.stands; value = h.value; behind = refl };
}

chain_back : {X : Type 0} (Is There : ℕ → X × ℕ → Type 0) (from : ℕ) → ((at : ℕ) (x : X) (stop : ℕ) → Is (from + at) (x, stop) → Back (There at) from x stop)
    → (at : ℕ) (xs : List X) (stop : ℕ) → ChainOf Is (from + at) xs stop → (end : ℕ) × (stop ≡ from + end) × ChainOf There at xs end
chain_back Is There from g at [] stop h = (at, h, refl)
chain_back Is There from g at (x ∷ xs) stop h =
    let b = g at x h.0 h.1 in
    let rest = chain_back Is There from g b.end xs stop (subst (λ (n : ℕ). ChainOf Is n xs stop) b.same h.2) in
    (rest.0, rest.1, (b.end, b.is, rest.2))

pair_back : (bytes : List ℕ) (from at : ℕ) (x : ℕ × ℕ) (stop : ℕ) → IsPair bytes (from + at) (x, stop) → Back (IsPair (drop from bytes) at) from x stop
pair_back bytes from at x stop h =
    let k = uleb_back bytes from at x.0 h.mid h.kind in
    let u = uleb_back bytes from k.end x.1 stop (subst (λ (n : ℕ). IsUlebAt bytes n (x.1, stop)) k.same h.unit) in
    record { end = u.end; same = u.same; is = record { mid = k.end; kind = k.is; unit = u.is } }

-- a catch-all with the place behind it
abbrev RestTo : List ℕ → ℤ → ℕ → Option ℕ × ℕ → Type 0
RestTo bytes size at read = IsRestAt bytes size at read.0 read.1

rest_back : (bytes : List ℕ) (from : ℕ) (size : ℤ) (at : ℕ) (rest : Option ℕ) (stop : ℕ) → IsRestAt bytes size (from + at) rest stop → Back (RestTo (drop from bytes) size at) from rest stop
rest_back bytes from (pos (suc n)) at rest stop h = record { end = at; same = h.1; is = (h.0, refl) }
rest_back bytes from (pos zero) at rest stop h = let u = uleb_back bytes from at h.0 stop h.1 in record { end = u.end; same = u.same; is = (h.0, u.is, h.2) }
rest_back bytes from (negsuc n) at rest stop h = let u = uleb_back bytes from at h.0 stop h.1 in record { end = u.end; same = u.same; is = (h.0, u.is, h.2) }

catches_back : (bytes : List ℕ) (from at : ℕ) (c : Catches) (stop : ℕ) → AreCatches bytes (from + at) (c, stop) → Back (AreCatches (drop from bytes) at) from c stop
catches_back bytes from at c stop h =
    let s = sleb_back bytes from at h.size h.begin h.is_size in
    let p = chain_back (IsPair bytes) (IsPair (drop from bytes)) from (pair_back bytes from) s.end c.pairs h.mid (subst (λ (n : ℕ). ChainOf (IsPair bytes) n c.pairs h.mid) s.same h.pairs) in
    let r = rest_back bytes from h.size p.0 c.rest stop (subst (λ (n : ℕ). IsRestAt bytes h.size n c.rest stop) p.1 h.rest) in
    record {
      end = r.end;
      same = r.same;
      is = record { size = h.size; begin = s.end; mid = p.0; is_size = s.is; many = h.many; pairs = p.2; rest = r.is };
    }

-- ---- what stands is read

number_is : (bytes : List ℕ) (at n stop : ℕ) → IsUlebAt bytes at (n, stop) → number_at bytes at ≡ Some (n, stop)
number_is bytes at n stop h = ap (λ (r : Result (ℕ × ℕ) BaseFault). result_ok r) ((is_uleb bytes at).again (n, stop) h)

size_is : (bytes : List ℕ) (at : ℕ) (z : ℤ) (stop : ℕ) → IsSlebAt bytes at (z, stop) → size_at bytes at ≡ Some (z, stop)
size_is bytes at z stop h = ap (λ (r : Result (ℤ × ℕ) BaseFault). result_ok r) ((is_sleb bytes at).again (z, stop) h)

skip_pairs : (bytes : List ℕ) (pairs : List (ℕ × ℕ)) (at mid more : ℕ) → ChainOf (IsPair bytes) at pairs mid → skip_numbers bytes (2 * length pairs + more) at ≡ skip_numbers bytes more mid
skip_pairs bytes [] at mid more h =
    let none : 2 * 0 + more ≡ more = omega arith in
    ap (λ (n : ℕ). skip_numbers bytes n at) none ∙ ap (λ (m : ℕ). skip_numbers bytes more m) (sym h)
skip_pairs bytes (x ∷ xs) at mid more h =
    let m : ℕ = 2 * length xs + more in
    let two : 2 * suc (length xs) + more ≡ suc (suc m) = omega arith in
    let pair : IsPair bytes at (x, h.0) = h.1 in
    ap (λ (n : ℕ). skip_numbers bytes n at) two
    ∙ ap (λ (o : Option (ℕ × ℕ)). o >?= λ read. skip_numbers bytes (suc m) read.1) (number_is bytes at x.0 pair.mid pair.kind)
    ∙ ap (λ (o : Option (ℕ × ℕ)). o >?= λ read. skip_numbers bytes m read.1) (number_is bytes pair.mid x.1 h.0 pair.unit)
    ∙ skip_pairs bytes xs h.0 mid more h.2

positive : (n : ℕ) → has_rest (pos (suc n)) ≡ false
positive n = grind arith

skip_rest : (bytes : List ℕ) (size : ℤ) (at : ℕ) (rest : Option ℕ) (stop : ℕ) → IsRestAt bytes size at rest stop → skip_numbers bytes (cond (has_rest size) 1 0) at ≡ Some stop
skip_rest bytes (pos (suc n)) at rest stop h = ap (λ (b : Bool). skip_numbers bytes (cond b 1 0) at) (positive n) ∙ ap (λ (m : ℕ). Some m) (sym h.1)
skip_rest bytes (pos zero) at rest stop h = ap (λ (o : Option (ℕ × ℕ)). o >?= λ read. skip_numbers bytes 0 read.1) (number_is bytes at h.0 stop h.1)
skip_rest bytes (negsuc n) at rest stop h = ap (λ (o : Option (ℕ × ℕ)). o >?= λ read. skip_numbers bytes 0 read.1) (number_is bytes at h.0 stop h.1)

magnitude_is : (z : ℤ) → unsigned_abs z ≡ magnitude z
magnitude_is (pos n) = refl
magnitude_is (negsuc n) = refl

many_is : (bytes : List ℕ) (at : ℕ) (c : Catches) (stop : ℕ) (h : AreCatches bytes at (c, stop)) → unsigned_abs h.size ≡ length c.pairs
many_is bytes at c stop h = magnitude_is h.size ∙ sym h.many

pub list_end_is : (bytes : List ℕ) (at : ℕ) (c : Catches) (stop : ℕ) → AreCatches bytes at (c, stop) → list_end bytes at ≡ Some stop
unfolding list_end
list_end_is bytes at c stop h = ap (λ (o : Option (ℤ × ℕ)). o >?= λ read. skip_numbers bytes (numbers_behind read.0) read.1) (size_is bytes at h.size h.begin h.is_size)
    ∙ ap (λ (n : ℕ). skip_numbers bytes (2 * n + cond (has_rest h.size) 1 0) h.begin) (many_is bytes at c stop h)
    ∙ skip_pairs bytes c.pairs h.begin h.mid (cond (has_rest h.size) 1 0) h.pairs ∙ skip_rest bytes h.size h.mid c.rest stop h.rest

-- ---- a list that stands is among those that are counted

reached : (bytes : List ℕ) (before : List Catches) (n at target : ℕ) → length before < n → ChainOf (AreCatches bytes) at before target → list_any (λ place. eqb place target) (lists_from n bytes at) ≡ true
reached bytes before zero at target less h = absurd (omega (arith, less))
reached bytes [] (suc m) at target less h = or_left (eqb at target) (list_any (λ place. eqb place target) (lists_behind (list_end bytes at) (λ next. lists_from m bytes next))) (eq-eqb at target (sym h))
reached bytes (c ∷ cs) (suc m) at target less h = or_right (eqb at target) (list_any (λ place. eqb place target) (lists_behind (list_end bytes at) (λ next. lists_from m bytes next)))
    (ap (λ (o : Option ℕ). list_any (λ place. eqb place target) (lists_behind o (λ next. lists_from m bytes next))) (list_end_is bytes at c h.0 h.1) ∙ reached bytes cs m h.0 target (omega (arith, less)) h.2)

pub record IsFound (bytes : List ℕ) (offset : ℕ) (c : Catches) : Type 0 where
  pub listed : has_list bytes offset ≡ true
  pub end : ℕ
  pub is : AreCatches bytes offset (c, end)

pub is_found : (bytes : List ℕ) (lists offset : ℕ) (c : Catches) → AreCatchesAt bytes lists offset c → IsFound (drop lists bytes) offset c
unfolding lists_in
is_found bytes lists offset c h =
    let bs : List ℕ = drop lists bytes in
    let zeroth : lists ≡ lists + 0 = omega arith in
    let n = uleb_back bytes lists 0 h.count h.begin (subst (λ (k : ℕ). IsUlebAt bytes k (h.count, h.begin)) zeroth h.is_count) in
    let b = chain_back (AreCatches bytes) (AreCatches bs) lists (catches_back bytes lists) n.end h.before (lists + offset) (subst (λ (k : ℕ). ChainOf (AreCatches bytes) k h.before (lists + offset)) n.same h.behind) in
    let is : b.0 ≡ offset = omega (arith, b.1) in
    let own = catches_back bytes lists offset c h.stop h.are in
    record {
      listed = ap (λ (o : Option (ℕ × ℕ)). list_any (λ place. eqb place offset) (counted_lists bs o)) (number_is bs 0 h.count n.end n.is)
          ∙ reached bs h.before h.count n.end offset h.fewer (subst (λ (k : ℕ). ChainOf (AreCatches bs) n.end h.before k) is b.2);
      end = own.end;
      is = own.is;
    }

-- ---- what is not read of a list is wrong

pub any_got : {X : Type 0} (p : X → Bool) (xs : List X) → list_any p xs ≡ true → (k : ℕ) × (x : X) × (slice_get xs k ≡ Some x) × (p x ≡ true)
any_got p [] h = absurd cc
any_got {X = X} p (x ∷ xs) h = by_first (or_cases (p x) (list_any p xs) h) (any_got p xs)
  where
    by_first : (p x ≡ true) ⊎ (list_any p xs ≡ true) → (list_any p xs ≡ true → (k : ℕ) × (y : X) × (slice_get xs k ≡ Some y) × (p y ≡ true)) → (k : ℕ) × (y : X) × (slice_get (x ∷ xs) k ≡ Some y) × (p y ≡ true)
    by_first (inl e) rest = (0, x, refl, e)
    by_first (inr e) rest = let r = rest e in (suc r.0, r.1, r.2, r.3)

none_position : (starts : List ℕ) (unit : ℕ) → position_of starts unit ≡ None → list_any (λ u. eqb u unit) starts ≡ false
none_position starts unit none = untrue (list_any (λ u. eqb u unit) starts) (λ any.
    let g = any_got (λ u. eqb u unit) starts any in
    let less = found_first (λ s. eqb s unit) starts g.0 g.1 g.2 g.3 in
    let at : ℕ = position_or_len (λ s. eqb s unit) starts in
    let is : position_of starts unit ≡ Some at = ap (λ (b : Bool). cond b (Some at) None) (lt-ltb at (length starts) less) in
    none_is at (sym none ∙ is))
  where
    none_is : (n : ℕ) → None ≡ Some n → ⊥
    none_is n e = absurd cc

-- a pair of a list whose type or unit is none
abbrev WrongPair : Places → ℕ → List (ℕ × ℕ) → Type 0
WrongPair places types pairs = (i kind unit : ℕ) × (slice_get pairs i ≡ Some (kind, unit)) × ((types ≤ kind) ⊎ NoPosition places unit)

cond_none : {X : Type 0} (b : Bool) (x : X) → cond b (Some x) None ≡ None → b ≡ false
cond_none true x h = absurd cc
cond_none false x h = refl

cond_some : {X : Type 0} (b : Bool) (x y : X) → cond b (Some x) None ≡ Some y → x ≡ y
cond_some true x y h = some_same x y h
cond_some false x y h = absurd cc

then_none : {X Y : Type 0} (o : Option X) (f : X → Y) → (o >?= λ x. Some (f x)) ≡ None → o ≡ None
then_none None f h = refl
then_none (Some x) f h = absurd cc

module _ (bytes : List ℕ) (places : Places) (types : ℕ) where
  abbrev starts : List ℕ
  starts = places.starts

  -- what a handler is by its pair
  abbrev paired : ℕ × ℕ → ℕ → Option ℕ → Option (Handler × ℕ)
  paired x stop o = o >?= λ position. cond (ltb x.0 types) (Some (handler x.0 position, stop)) None

  abbrev address_by : Option (ℕ × ℕ) → Option (ℕ × ℕ)
  address_by o = o >?= λ read. position_of starts read.0 >?= λ position. Some (position, read.1)

  abbrev handler_by : ℕ → Option (ℕ × ℕ) → Option (Handler × ℕ)
  handler_by kind o = o >?= λ address. cond (ltb kind types) (Some (handler kind address.0, address.1)) None

  abbrev located : ℕ → Option ℕ → Option (ℕ × ℕ)
  located stop o = o >?= λ position. Some (position, stop)

  handler_is : (at : ℕ) (x : ℕ × ℕ) (stop : ℕ) → IsPair bytes at (x, stop) → handler_at bytes starts types at ≡ paired x stop (position_of starts x.1)
  unfolding handler_at address_at
  handler_is at x stop p =
      ap (λ (o : Option (ℕ × ℕ)). o >?= λ read. handler_by read.0 (address_at bytes starts read.1)) (number_is bytes at x.0 p.mid p.kind)
      ∙ ap (λ (o : Option (ℕ × ℕ)). handler_by x.0 (address_by o)) (number_is bytes p.mid x.1 stop p.unit)
      ∙ by_position (position_of starts x.1)
    where
      by_position : (o : Option ℕ) → handler_by x.0 (located stop o) ≡ paired x stop o
      by_position None = refl
      by_position (Some k) = refl

  pair_wrong : (x : ℕ × ℕ) (stop : ℕ) (o : Option ℕ) → position_of starts x.1 ≡ o → paired x stop o ≡ None → (types ≤ x.0) ⊎ NoPosition places x.1
  pair_wrong x stop None e h = inr (none_position starts x.1 e)
  pair_wrong x stop (Some k) e h = inl (ltb-false x.0 types (cond_none (ltb x.0 types) (handler x.0 k, stop) h))

  pair_right : (x : ℕ × ℕ) (stop : ℕ) (o : Option ℕ) (r : Handler × ℕ) → paired x stop o ≡ Some r → r.1 ≡ stop
  pair_right x stop None r h = absurd cc
  pair_right x stop (Some k) r h = ap (λ (y : Handler × ℕ). y.1) (sym (cond_some (ltb x.0 types) (handler x.0 k, stop) r h))

  abbrev more : ℕ → Handler × ℕ → Option (List Handler × ℕ)
  more n h = handlers_at bytes starts types n h.1 >?= λ hs. Some (h.0 ∷ hs.0, hs.1)

  handlers_wrong : (pairs : List (ℕ × ℕ)) (n at mid : ℕ) → length pairs ≡ n → ChainOf (IsPair bytes) at pairs mid → handlers_at bytes starts types n at ≡ None → WrongPair places types pairs
  handlers_wrong [] zero at mid many h none = absurd cc
  handlers_wrong [] (suc n) at mid many h none = absurd cc
  handlers_wrong (x ∷ xs) zero at mid many h none = absurd cc
  handlers_wrong (x ∷ xs) (suc n) at mid many h none = by_first (handler_at bytes starts types at) refl none (handlers_wrong xs n h.0 mid (omega (arith, many)) h.2)
    where
      by_first : (o : Option (Handler × ℕ)) → handler_at bytes starts types at ≡ o → (o >?= λ r. more n r) ≡ None → (handlers_at bytes starts types n h.0 ≡ None → WrongPair places types xs) → WrongPair places types (x ∷ xs)
      by_first None e g later = (0, x.0, x.1, refl, pair_wrong x h.0 (position_of starts x.1) refl (sym (handler_is at x h.0 h.1) ∙ e))
      by_first (Some r) e g later =
          let behind : r.1 ≡ h.0 = pair_right x h.0 (position_of starts x.1) r (sym (handler_is at x h.0 h.1) ∙ e) in
          let rest = later (subst (λ (a : ℕ). handlers_at bytes starts types n a ≡ None) behind (then_none {Y = List Handler × ℕ} (handlers_at bytes starts types n r.1) (λ hs. (r.0 ∷ hs.0, hs.1)) g)) in
          (suc rest.0, rest.1, rest.2, rest.3, rest.4)

  handlers_right : (pairs : List (ℕ × ℕ)) (n at mid : ℕ) (hs : List Handler × ℕ) → length pairs ≡ n → ChainOf (IsPair bytes) at pairs mid → handlers_at bytes starts types n at ≡ Some hs → hs.1 ≡ mid
  handlers_right [] zero at mid hs many h got = ap (λ (y : List Handler × ℕ). y.1) (sym (some_same ([], at) hs got)) ∙ sym h
  handlers_right [] (suc n) at mid hs many h got = absurd cc
  handlers_right (x ∷ xs) zero at mid hs many h got = absurd cc
  handlers_right (x ∷ xs) (suc n) at mid hs many h got = by_first (handler_at bytes starts types at) refl got (λ gs. handlers_right xs n h.0 mid gs (omega (arith, many)) h.2)
    where
      by_rest : ((gs : List Handler × ℕ) → handlers_at bytes starts types n h.0 ≡ Some gs → gs.1 ≡ mid)
          → (r : Handler × ℕ) → r.1 ≡ h.0 → (o : Option (List Handler × ℕ)) → handlers_at bytes starts types n r.1 ≡ o → (o >?= λ gs. Some (r.0 ∷ gs.0, gs.1)) ≡ Some hs → hs.1 ≡ mid
      by_rest later r behind None e g = absurd cc
      by_rest later r behind (Some gs) e g = ap (λ (y : List Handler × ℕ). y.1) (sym (some_same (r.0 ∷ gs.0, gs.1) hs g))
          ∙ later gs (subst (λ (a : ℕ). handlers_at bytes starts types n a ≡ Some gs) behind e)

      by_first : (o : Option (Handler × ℕ)) → handler_at bytes starts types at ≡ o → (o >?= λ r. more n r) ≡ Some hs → ((gs : List Handler × ℕ) → handlers_at bytes starts types n h.0 ≡ Some gs → gs.1 ≡ mid) → hs.1 ≡ mid
      by_first None e g later = absurd cc
      by_first (Some r) e g later = by_rest later r (pair_right x h.0 (position_of starts x.1) r (sym (handler_is at x h.0 h.1) ∙ e)) (handlers_at bytes starts types n r.1) refl g

  abbrev WrongRest : Option ℕ → Type 0
  WrongRest rest = (unit : ℕ) × (rest ≡ Some unit) × NoPosition places unit

  last_wrong : (at unit stop : ℕ) → IsUlebAt bytes at (unit, stop) → rest_at bytes starts true at ≡ None → NoPosition places unit
  unfolding address_at
  last_wrong at unit stop h none =
      let address : address_at bytes starts at ≡ None = then_none (address_at bytes starts at) (λ (address : ℕ × ℕ). Some address.0) none in
      let named : located stop (position_of starts unit) ≡ None = sym (ap (λ (o : Option (ℕ × ℕ)). address_by o) (number_is bytes at unit stop h)) ∙ address in
      none_position starts unit (then_none {Y = ℕ × ℕ} (position_of starts unit) (λ position. (position, stop)) named)

  rest_wrong : (size : ℤ) (at : ℕ) (rest : Option ℕ) (stop : ℕ) → IsRestAt bytes size at rest stop → rest_at bytes starts (has_rest size) at ≡ None → WrongRest rest
  rest_wrong (pos (suc n)) at rest stop h none = absurd (some_none (sym (ap (λ (b : Bool). rest_at bytes starts b at) (positive n)) ∙ none))
    where
      some_none : {X : Type 0} {x : X} → Some x ≡ None → ⊥
      some_none e = absurd cc
  rest_wrong (pos zero) at rest stop h none = (h.0, h.2, last_wrong at h.0 stop h.1 none)
  rest_wrong (negsuc n) at rest stop h none = (h.0, h.2, last_wrong at h.0 stop h.1 none)

  by_pair : (c : Catches) → WrongPair places types c.pairs → BadCatches places types c
  by_pair c w = by_kind w.4
    where
      by_kind : (types ≤ w.1) ⊎ NoPosition places w.2 → BadCatches places types c
      by_kind (inl e) = bad.Kind w.0 w.1 w.2 w.3 e
      by_kind (inr e) = bad.Unit w.0 w.1 w.2 w.3 e

  abbrev caught_by : List Handler × ℕ → Option (Option ℕ) → Option (List Handler × Option ℕ)
  caught_by hs o = o >?= λ rest. Some (hs.0, rest)

  abbrev handlers_by : ℤ → Option (List Handler × ℕ) → Option (List Handler × Option ℕ)
  handlers_by size o = o >?= λ hs. caught_by hs (rest_at bytes starts (has_rest size) hs.1)

  pub caught_wrong : (at : ℕ) (c : Catches) (stop : ℕ) → AreCatches bytes at (c, stop) → caught_at bytes starts types at ≡ None → BadCatches places types c
  unfolding caught_at
  caught_wrong at c stop h none = by_handlers (handlers_at bytes starts types (unsigned_abs h.size) h.begin) refl
      (sym (ap (λ (o : Option (ℤ × ℕ)). o >?= λ size. handlers_by size.0 (handlers_at bytes starts types (unsigned_abs size.0) size.1)) (size_is bytes at h.size h.begin h.is_size)) ∙ none)
    where
      many : length c.pairs ≡ unsigned_abs h.size
      many = sym (many_is bytes at c stop h)

      by_handlers : (o : Option (List Handler × ℕ)) → handlers_at bytes starts types (unsigned_abs h.size) h.begin ≡ o → handlers_by h.size o ≡ None → BadCatches places types c
      by_handlers None e g = by_pair c (handlers_wrong c.pairs (unsigned_abs h.size) h.begin h.mid many h.pairs e)
      by_handlers (Some hs) e g =
          let behind : hs.1 ≡ h.mid = handlers_right c.pairs (unsigned_abs h.size) h.begin h.mid hs many h.pairs e in
          let w = rest_wrong h.size h.mid c.rest stop h.rest (subst (λ (a : ℕ). rest_at bytes starts (has_rest h.size) a ≡ None) behind (then_none {Y = List Handler × Option ℕ} (rest_at bytes starts (has_rest h.size) hs.1) (λ rest. (hs.0, rest)) g)) in
          bad.Rest w.0 w.1 w.2
