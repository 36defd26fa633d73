-- The regions that were read cover positions, lie one behind another and go on at positions where a handler may begin.
use Rattle.std.proofs.Common.{◌≡◌, ℕ, zero, suc, ◌≤◌, ◌<◌, ◌+◌, ◌-◌, ◌*◌, Bool, true, false, cond, ltb, eqb, List, [], ◌∷◌, length, drop, refl, ap, subst, ◌∙◌, arith}
use Rattle.std.specs.Prelude.{◌&&◌, ◌||◌, not, nat_eq, nat_lt, nat_le, is_some, ℤ, pos, negsuc, unsigned_abs, Option, Some, None, slice_get, Result, Ok, Err}
use Rattle.std.specs.List.{list_all}
use Rattle.std.proofs.lemmas.Bool.{ltb-true, lt-ltb, leb-true, ne_eqb}
use Rattle.std.proofs.lemmas.List.Quantifiers.{position-Some}
use Rattle.program_model.specs.RegionRules as rule
use Rattle.program_model.specs.declared.body.Handler.{Handler}
use Rattle.program_model.specs.declared.body.Region.{Region}
use Rattle.code_read.specs.Handlers.{◌>?=◌, has_list, number_at, size_at, has_rest, address_at, handler, handler_at, handlers_at, rest_at, caught_at, caught_count}
use Rattle.code_read.specs.Positions.{position_of, count_below, begins_with}
use Rattle.code_read.specs.Regions as read
use Rattle.code_read.specs.declared.fault.CodeFault.{CodeFault}
use Rattle.code_read.specs.declared.fault.CodeFault.TheVariants as fault
use Rattle.std.specs.Result.{result_ok}
use Rattle.lemmas.proofs.Bools.{and_both, and_right, or_true}
use Rattle.lemmas.proofs.Options.{none_some, some_same}
use Rattle.dex_base.specs.Word.{u16_at, u32_at}
use Rattle.code_read.specs.declared.sizes.Sizes.{Sizes}
use Rattle.code_read.specs.Sweep.{Places}
use Rattle.read_laws.proofs.BodyLists.{Found, weaker, done, failed, when, either, next}

-- ---- look-ups that find something

pub record Sees {Y : Type 0} (Is : Y → Type 0) (o : Option Y) : Type 0 where
  pub seen : (y : Y) → o ≡ Some y → Is y

seeing : {Y : Type 0} {Is Is' : Y → Type 0} (o : Option Y) → Sees Is o → ((y : Y) → Is y → Is' y) → Sees Is' o
seeing o d to = record { seen = λ y h. to y (d.seen y h) }

here : {Y : Type 0} (v : Y) → Sees (λ y. v ≡ y) (Some v)
here v = record { seen = λ y h. some_same v y h }

nothing : {Y : Type 0} {Is : Y → Type 0} → Sees Is None
nothing = record { seen = λ y h. none_some y h }

as_seen : {Y : Type 0} (o : Option Y) → Sees (λ y. o ≡ Some y) o
as_seen o = record { seen = λ y h. h }

seen_when : {Y : Type 0} {Is : Y → Type 0} {b : Bool} {o : Option Y} → Sees Is o → Sees (λ y. (b ≡ true) × Is y) (cond b o None)
seen_when {b = true} d = record { seen = λ y h. (refl, d.seen y h) }
seen_when {b = false} d = record { seen = λ y h. none_some y h }

seen_then : {X Y : Type 0} {Is : X → Type 0} {Is' : X → Y → Type 0} {o : Option X} {f : X → Option Y} → Sees Is o → ((x : X) → Is x → Sees (Is' x) (f x)) → Sees (λ y. (x : X) × Is x × Is' x y) (o >?= f)
seen_then {o = Some x} d g = record { seen = λ y h. (x, d.seen x refl, (g x (d.seen x refl)).seen y h) }
seen_then {o = None} d g = record { seen = λ y h. none_some y h }

-- ---- handlers

sees_position : (starts : List ℕ) (unit : ℕ) → Sees (λ k. k < length starts) (position_of starts unit)
sees_position starts unit = record { seen = λ k h. (position-Some (λ s. eqb s unit) starts k 0 h).0 }

sees_address : (bytes starts : List ℕ) (at : ℕ) → Sees (λ a. a.0 < length starts) (address_at bytes starts at)
unfolding address_at
sees_address bytes starts at = seeing (address_at bytes starts at)
    (seen_then (as_seen (number_at bytes at)) (λ read _. seen_then (sees_position starts read.0) (λ k _. here (k, read.1))))
    (λ y p. subst (λ (a : ℕ × ℕ). a.0 < length starts) p.2.2 p.2.1)

sees_handler : (bytes starts : List ℕ) (types at : ℕ) → Sees (λ h. read.handler_inside types (length starts) h.0 ≡ true) (handler_at bytes starts types at)
unfolding handler_at
sees_handler bytes starts types at = seeing (handler_at bytes starts types at)
    (seen_then (as_seen (number_at bytes at)) (λ read _. seen_then (sees_address bytes starts read.1) (λ address _. seen_when (here (handler read.0 address.0, address.1)))))
    (λ y p. subst (λ (h : Handler × ℕ). read.handler_inside types (length starts) h.0 ≡ true) p.2.2.1
    (and_both (ltb p.0.0 types) (ltb p.2.0.0 (length starts)) p.2.2.0 (lt-ltb p.2.0.0 (length starts) p.2.1)))

abbrev AreInside : List ℕ → ℕ → ℕ → List Handler × ℕ → Type 0
AreInside starts types n hs = (list_all (read.handler_inside types (length starts)) hs.0 ≡ true) × (length hs.0 ≡ n)

sees_handlers : (bytes starts : List ℕ) (types n at : ℕ) → Sees (AreInside starts types n) (handlers_at bytes starts types n at)
sees_handlers bytes starts types zero at = seeing (handlers_at bytes starts types zero at) (here ([], at)) (λ y p. subst (AreInside starts types 0) p (refl, refl))
sees_handlers bytes starts types (suc n) at = seeing (handlers_at bytes starts types (suc n) at)
    (seen_then (sees_handler bytes starts types at) (λ h _. seen_then (sees_handlers bytes starts types n h.1) (λ hs _. here (h.0 ∷ hs.0, hs.1))))
    (λ y p. subst (AreInside starts types (suc n)) p.2.2
    (and_both (read.handler_inside types (length starts) p.0.0) (list_all (read.handler_inside types (length starts)) p.2.0.0) p.1 p.2.1.0, ap suc p.2.1.1))

abbrev IsRest : List ℕ → Bool → Option ℕ → Type 0
IsRest starts has rest = (read.rest_inside (length starts) rest ≡ true) × (is_some rest ≡ has)

sees_rest : (bytes starts : List ℕ) (has : Bool) (at : ℕ) → Sees (IsRest starts has) (rest_at bytes starts has at)
sees_rest bytes starts true at = seeing (rest_at bytes starts true at) (seen_then (sees_address bytes starts at) (λ address _. here (Some address.0)))
    (λ y p. subst (IsRest starts true) p.2 (lt-ltb p.0.0 (length starts) p.1, refl))
sees_rest bytes starts false at = seeing (rest_at bytes starts false at) (here None) (λ y p. subst (IsRest starts false) p (refl, refl))

-- a list without a catch-all has a size that is positive
sized : (z : ℤ) (n : ℕ) (has : Bool) → n ≡ unsigned_abs z → has ≡ has_rest z → (not (nat_eq n 0) || has) ≡ true
sized (pos zero) n has e f = rw (e, f) refl
sized (pos (suc k)) n has e f = ap (λ (b : Bool). not b || has) (ap (λ (m : ℕ). nat_eq m 0) e ∙ ne_eqb (suc k) 0 (λ h. omega (arith, h)))
sized (negsuc k) n has e f = ap (λ (b : Bool). not (nat_eq n 0) || b) f ∙ or_true (not (nat_eq n 0))

abbrev pub IsCaught : List ℕ → ℕ → List Handler × Option ℕ → Type 0
IsCaught starts types c = (list_all (read.handler_inside types (length starts)) c.0 ≡ true) × (read.rest_inside (length starts) c.1 ≡ true) × ((not (nat_eq (length c.0) 0) || is_some c.1) ≡ true)

pub sees_caught : (bytes starts : List ℕ) (types at : ℕ) → Sees (IsCaught starts types) (caught_at bytes starts types at)
unfolding caught_at
sees_caught bytes starts types at = seeing (caught_at bytes starts types at)
    (seen_then (as_seen (size_at bytes at)) (λ size _. seen_then (sees_handlers bytes starts types (unsigned_abs size.0) size.1) (λ hs _. seen_then (sees_rest bytes starts (has_rest size.0) hs.1) (λ rest _. here (hs.0, rest)))))
    (λ y p. let hs = p.2.0 in let inside = p.2.1 in let rest = p.2.2.0 in let rests = p.2.2.1 in
    subst (IsCaught starts types) p.2.2.2 (inside.0, rests.0, sized p.0.0 (length hs.0) (is_some rest) inside.1 rests.1))

-- ---- regions

below_length : (unit : ℕ) (starts : List ℕ) → count_below unit starts ≤ length starts
below_length unit [] = omega arith
below_length unit (s ∷ ss) = by (nat_lt s unit) (below_length unit ss)
  where
    by : (b : Bool) → count_below unit ss ≤ length ss → cond b (suc (count_below unit ss)) 0 ≤ suc (length ss)
    by true h = omega (arith, h)
    by false h = omega arith

-- a region that was read: it lies behind this position
pub record Right (starts : List ℕ) (types from : ℕ) (r : Region) : Type 0 where
  pub behind : from ≤ r.first
  pub covers : r.first < r.end
  pub ends : r.end ≤ length starts
  pub handlers : list_all (read.handler_inside types (length starts)) r.handlers ≡ true
  pub rest : read.rest_inside (length starts) r.rest ≡ true
  pub catches : rule.catches r ≡ true

abbrev Kept : List ℕ → ℕ → ℕ → Option Region → Type 0
Kept starts types from None = Unit {0}
Kept starts types from (Some r) = Right starts types from r

founds_with : (starts : List ℕ) (types from place first end left : ℕ) → from ≤ first → first < end → end ≤ length starts → (o : Option (List Handler × Option ℕ)) → Sees (IsCaught starts types) o → Found (Kept starts types from) (read.with_handlers place first end left o)
founds_with starts types from place first end left behind lt le None d = failed _
founds_with starts types from place first end left behind lt le (Some c) d =
    let is = d.seen c refl in
    weaker (read.with_handlers place first end left (Some c)) (when _ (done (Some (read.region first end c.0 c.1))))
    (λ y p. subst (Kept starts types from) p.1 (record { behind = behind; covers = lt; ends = le; handlers = is.0; rest = is.1; catches = is.2 }))

founds_item : (lists : List ℕ) (types : ℕ) (places : Places) (place from left start count offset : ℕ) → Found (Kept places.starts types from) (read.region_of lists types places place from left (Some (read.try_item start count offset)))
founds_item lists types places place from left start count offset =
    let first : ℕ = count_below start places.starts in
    let end : ℕ = count_below (start + count) places.starts in
    either
    (λ lt. either
    (λ lies. either {b = has_list lists offset} {other = Err (fault.Handler place)}
    (λ has. founds_with places.starts types from place first end left
    (leb-true from first (and_right (nat_le (start + count) (length places.units)) (nat_le from first) (and_right (begins_with (slice_get places.starts first) start) (nat_le (start + count) (length places.units) && nat_le from first) lies)))
    (ltb-true first end lt)
    (below_length (start + count) places.starts)
    (caught_at lists places.starts types offset) (sees_caught lists places.starts types offset))
    (λ no. failed _))
    (λ no. failed _))
    (λ no. weaker (Ok None) (done None) (λ y p. subst (Kept places.starts types from) p tt))

founds_parts : (lists : List ℕ) (types : ℕ) (places : Places) (place from left : ℕ) (a b c : Option ℕ) → Found (Kept places.starts types from) (read.region_of lists types places place from left (a >?= λ start. b >?= λ count. c >?= λ offset. Some (read.try_item start count offset)))
founds_parts lists types places place from left None b c = failed _
founds_parts lists types places place from left (Some s) None c = failed _
founds_parts lists types places place from left (Some s) (Some k) None = failed _
founds_parts lists types places place from left (Some s) (Some k) (Some o) = founds_item lists types places place from left s k o

founds_region_at : (tries lists : List ℕ) (types : ℕ) (places : Places) (place from left : ℕ) → Found (Kept places.starts types from) (read.region_at tries lists types places place from left)
unfolding read.region_at read.try_at
founds_region_at tries lists types places place from left = founds_parts lists types places place from left (result_ok (u32_at tries (8 * place))) (result_ok (u16_at tries (8 * place + 4))) (result_ok (u16_at tries (8 * place + 6)))

-- the regions, the first of which lies behind this position
abbrev pub AllRight : List ℕ → ℕ → ℕ → List Region → Type 0
AllRight starts types from [] = Unit {0}
AllRight starts types from (r ∷ rs) = Right starts types from r × AllRight starts types r.end rs

founds_keep : (starts : List ℕ) (types : ℕ) (o : Option Region) (more : ℕ → ℕ → Result (List Region) CodeFault) (from left : ℕ) → Kept starts types from o → ((f l : ℕ) → Found (AllRight starts types f) (more f l)) → Found (AllRight starts types from) (read.keep o more from left)
founds_keep starts types None more from left k h = h from left
founds_keep starts types (Some r) more from left k h = weaker (read.keep (Some r) more from left)
    (next (h r.end (left - caught_count r.handlers r.rest)) (λ rs _. done (r ∷ rs)))
    (λ y p. subst (AllRight starts types from) p.2 (k, p.1))

founds_from : (tries lists : List ℕ) (types : ℕ) (places : Places) (n place from left : ℕ) → Found (AllRight places.starts types from) (read.regions_from tries lists types places n place from left)
founds_from tries lists types places zero place from left = weaker (Ok []) (done []) (λ y p. subst (AllRight places.starts types from) p tt)
founds_from tries lists types places (suc n) place from left = weaker (read.regions_from tries lists types places (suc n) place from left)
    (next (founds_region_at tries lists types places place from left) (λ kept is. founds_keep places.starts types kept (λ f l. read.regions_from tries lists types places n (suc place) f l) from left is (λ f l. founds_from tries lists types places n (suc place) f l)))
    (λ y p. p.2)

pub all_right : (tries : List ℕ) (sizes : Sizes) (places : Places) (rs : List Region) → read.regions_of tries sizes places ≡ Ok rs → AllRight places.starts sizes.types 0 rs
unfolding read.regions_of
all_right tries sizes places rs h = (founds_from tries (drop (8 * sizes.tries) tries) sizes.types places sizes.tries 0 0 sizes.items).found rs h
