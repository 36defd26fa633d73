-- The bodies of a well-formed program fit when they are laid out.
use Rattle.std.proofs.Common.{◌≡◌, ◌<◌, ◌≤◌, ◌+◌, ◌*◌, ◌-◌, ◌%◌, ◌^◌, ◌⊎◌, inl, inr, ℕ, zero, suc, pos, Bool, true, false, List, [], ◌∷◌, ◌++◌, length, map, replicate, Option, Some, None, refl, sym, ap, subst, ◌∙◌, arith, length-append, ltb-true, All}
use Rattle.std.specs.Prelude.{slice_get, slice_index_or, is_some, nat_lt, nat_le, nat_eq, not, ◌&&◌, ◌||◌, if◌then◌else◌, sum_by}
use Rattle.std.specs.List.{AllByRecursion, flat_map, list_all, list_any, enumerate_from}
use Rattle.std.proofs.Math.Nat.{suc-mul, mul-suc}
use Rattle.std.proofs.lemmas.Bool.{and_parts, leb-true, eq-eqb}
use Rattle.std.proofs.lemmas.List.{length-replicate}
use Rattle.std.proofs.lemmas.List.Elements.{All-head, All-tail}
use Rattle.std.proofs.lemmas.List.Sums.{sum_by-cons}
use Rattle.std.proofs.lemmas.Option.{slice_get_within}
use Rattle.lemmas.proofs.Bools.{clash, not_true, or_cases}
use Rattle.insn_set.specs.Flow.{goes_on, targets_of}
use Rattle.insn_set.specs.Spelling.{shortest, shortest_string, is_encodable, fit_call, fit_nibbles, are_adjacent}
use Rattle.insn_set.specs.declared.form.Insn.{Insn}
use Rattle.insn_set.specs.declared.form.Insn.TheVariants.{Nop, ConstString, ConstClass, CheckCast, InstanceOf, NewInstance, NewArray, FilledNewArray, FillArray, Goto, PackedSwitch, SparseSwitch, If, IfZero, InstanceGet, InstancePut, StaticGet, StaticPut, Invoke}
use Rattle.program_model.specs.Cells.{entries_of, body_cells}
use Rattle.program_model.specs.OperandRules.{registers_fit, numbers_fit}
use Rattle.program_model.specs.RegionRules.{may_begin, handler_fits, rest_fits, catches, region_fits, are_apart, regions_fit}
use Rattle.program_model.specs.BodyRules.{ends, may_enter, targets_fit, leaves, is_caught, insn_fits, follows, body_fits}
use Rattle.program_model.specs.Neighbours.{neighbours}
use Rattle.program_model.specs.Texts.{has_type}
use Rattle.program_model.specs.declared.pass.Renumber.{Renumber}
use Rattle.program_model.specs.declared.body.Handler.{Handler}
use Rattle.program_model.specs.declared.body.Region.{Region}
use Rattle.program_model.specs.declared.body.Body.{Body}
use Rattle.program_model.specs.declared.program.Program.{Program}
use Rattle.dex_pools.specs.declared.interner.Interner.{Interner}
use Rattle.dex_pools.specs.declared.used.Named.{Named}
use Rattle.dex_pools.specs.declared.used.Named.TheVariants as named
use Rattle.dex_pools.specs.Interned.{IsInterned}
use Rattle.dex_pools.specs.Numbering.{used_in, IsNumbered, places_of}
use Rattle.dex_pools.specs.Used.{insn_names, region_names, handler_names, body_names}
use Rattle.relax.specs.Steps.{step_of}
use Rattle.relax.specs.declared.step.Step.{Step}
use Rattle.relax.specs.declared.layout.Layout.{Layout}
use Rattle.relax.specs.Sizes.{start, cap, IsLeast}
use Rattle.relax.specs.Far.{is_far, first_far}
use Rattle.relax.specs.Layouts.{IsLaidOut, IsFarAt}
use Rattle.relax.proofs.Least.{need_cap}
use Rattle.relax.proofs.Units.{few_units}
use Rattle.dex_defs.specs.LaysOut.{step_of as new_step, AreSizes, LaysOutBody, catches_text, distinct, by_length, written_lists, list_begins, IsNear}
use Rattle.dex_defs.specs.LaysOut as kept
use Rattle.dex_defs.specs.CodeTexts.{payload_text, evenly, payloads_text, words_passed, most_passed, place_of, list_offset, target_units, signed_units}
use Rattle.dex_defs.specs.Written.{new_insn, new_handler, new_region, new_body, written_by}
use Rattle.write_laws.specs.Used.{IsUsed, IsShort}
use Rattle.write_laws.proofs.Marking.{all_left, all_right}
use Rattle.write_laws.proofs.Placed.{places_long}
use Rattle.write_laws.proofs.Ranges.{ranges_kept}
use Rattle.widths.specs.Code.{WideBody}
use Rattle.written_code.proofs.Forms.{InWidth, Renamed, NumbersFit}
use Rattle.written_code.proofs.Tables.{Fit, item_bytes, bytes_long, units_many, keys_long, units_long, one_of}
use Rattle.written_code.proofs.Standing.{fill_fits, fit_sparse}
use Rattle.written_code.proofs.Least.{needs, least_needs, least_long, least_one, steps_same, AllSome, needs_some}
use Rattle.written_code.proofs.Units.{fill_parts}
use Rattle.written_code.proofs.Bodies.{next_unit, NearAt, AllFine, LastStops}
use Rattle.written_code.proofs.Handlers.{FitRegion}
use Rattle.written_code.proofs.Frames.{FitBody}

-- ---- sums

pub sum_in : {X : Type 0} (f : X → ℕ) (xs : List X) (k : ℕ) (x : X) → slice_get xs k ≡ Some x → f x ≤ sum_by f xs
sum_in f [] k x e = absurd cc
sum_in {X} f (y ∷ ys) zero x e = let same : f y ≡ f x = ap (λ (o : Option X). elim o [ Some z ↦ f z | None ↦ 0 ]) e in omega (arith, same, sum_by-cons f y ys)
sum_in f (y ∷ ys) (suc k) x e = omega (arith, sum_in f ys k x e, sum_by-cons f y ys)

-- ---- new numbers

index_any : (t : List ℕ) (n a b : ℕ) → n < length t → slice_index_or t n a ≡ slice_index_or t n b
index_any [] n a b lt = absurd (omega (arith, lt))
index_any (x ∷ t) zero a b lt = refl
index_any (x ∷ t) (suc n) a b lt = index_any t n a b (omega (arith, lt))

numbers_long : (flags : List Bool) (key : ℕ → List ℕ) (count : ℕ) (order numbers : List ℕ) → IsNumbered key flags count order numbers → length numbers ≡ count
unfolding places_of
numbers_long flags key count order numbers h = ap (λ (l : List ℕ). length l) h.placed ∙ (places_long 0 (replicate count 4294967295) order ∙ length-replicate {A = ℕ} count 4294967295)

-- how long the tables are
pub record FewEntries (p q : Program) : Type 0 where
  pub strings : length q.strings < 2 ^ 32
  pub types : length q.types ≤ 65536
  pub fields : length q.fields ≤ 65536
  pub methods : length q.methods ≤ 65536

module _ (p : Program) (i : Interner) (few : IsShort p) (h : IsInterned p i) (fit : FewEntries p (written_by i p)) where
  abbrev r : Renumber
  r = i.numbers

  pub kind_renamed : (n : ℕ) → nat_lt n (length p.types) ≡ true → IsUsed (used_in p) (named.Kind n) → Renamed r.types.items n 65536
  kind_renamed n lt used =
      let inside : n < length p.types = ltb-true n (length p.types) lt in
      let low = ranges_kept p i few h (named.Kind n) used inside in
      record { same = index_any r.types.items n n 4294967295 (omega (arith, inside, numbers_long _ _ _ _ _ h.types)); low = omega (arith, low, fit.types) }

  string_renamed : (n : ℕ) → nat_lt n (length p.strings) ≡ true → IsUsed (used_in p) (named.Text n) → Renamed r.strings.items n (2 ^ 32)
  string_renamed n lt used =
      let inside : n < length p.strings = ltb-true n (length p.strings) lt in
      let low = ranges_kept p i few h (named.Text n) used inside in
      record { same = index_any r.strings.items n n 4294967295 (omega (arith, inside, numbers_long _ _ _ _ _ h.strings)); low = omega (arith, low, fit.strings) }

  field_renamed : (n : ℕ) → nat_lt n (length p.fields) ≡ true → IsUsed (used_in p) (named.Field n) → Renamed r.fields.items n 65536
  field_renamed n lt used =
      let inside : n < length p.fields = ltb-true n (length p.fields) lt in
      let low = ranges_kept p i few h (named.Field n) used inside in
      record { same = index_any r.fields.items n n 4294967295 (omega (arith, inside, numbers_long _ _ _ _ _ h.fields)); low = omega (arith, low, fit.fields) }

  method_renamed : (n : ℕ) → nat_lt n (length p.methods) ≡ true → IsUsed (used_in p) (named.Method n) → Renamed r.methods.items n 65536
  method_renamed n lt used =
      let inside : n < length p.methods = ltb-true n (length p.methods) lt in
      let low = ranges_kept p i few h (named.Method n) used inside in
      record { same = index_any r.methods.items n n 4294967295 (omega (arith, inside, numbers_long _ _ _ _ _ h.methods)); low = omega (arith, low, fit.methods) }

  abbrev AllNamed : List Named → Type 0
  AllNamed ns = AllByRecursion (IsUsed (used_in p)) ns

  numbers_are : (x : Insn) → numbers_fit x p ≡ true → AllNamed (insn_names x) → NumbersFit r x
  unfolding numbers_fit
  numbers_are (ConstString to n) e u = string_renamed n e u.0
  numbers_are (ConstClass to n) e u = kind_renamed n e u.0
  numbers_are (CheckCast on n) e u = kind_renamed n e u.0
  numbers_are (InstanceOf to from n) e u = kind_renamed n e u.0
  numbers_are (NewInstance to n) e u = kind_renamed n e u.0
  numbers_are (NewArray to size n) e u = kind_renamed n e u.0
  numbers_are (FilledNewArray n args) e u = kind_renamed n e u.0
  numbers_are (InstanceGet item to on n) e u = field_renamed n e u.0
  numbers_are (InstancePut item from on n) e u = field_renamed n e u.0
  numbers_are (StaticGet item to n) e u = field_renamed n e u.0
  numbers_are (StaticPut item from n) e u = field_renamed n e u.0
  numbers_are (Invoke kind n args) e u = method_renamed n e u.0
  numbers_are x e u = tt

  -- ---- the instructions

  target_in : (insns : List Insn) (t : ℕ) → may_enter (slice_get insns t) ≡ true → t < length insns
  target_in insns t e = by (slice_get insns t) refl
    where
      by : (o : Option Insn) → slice_get insns t ≡ o → t < length insns
      by None g = clash (may_enter (slice_get insns t)) e (ap may_enter g)
      by (Some x) g = slice_get_within insns t x g

  targets_in : (insns : List Insn) (ts : List ℕ) → list_all (λ t. may_enter (slice_get insns t)) ts ≡ true → AllByRecursion (λ t. t < length insns) ts
  targets_in insns [] e = tt
  targets_in insns (t ∷ ts) e = let both = and_parts (may_enter (slice_get insns t)) (list_all (λ t. may_enter (slice_get insns t)) ts) e in (target_in insns t both.0, targets_in insns ts both.1)

  near_at : (sizes : List ℕ) (at : ℕ) (x : Insn) → is_far sizes at x ≡ false → leaves at x ≡ true → NearAt sizes at x
  near_at sizes at (If test a b target) e l = (e, λ same. clash (nat_eq target at) (eq_is target at (sym same)) (not_true (nat_eq target at) l))
    where
      eq_is : (a b : ℕ) → a ≡ b → nat_eq a b ≡ true
      eq_is a b same = eq-eqb a b same
  near_at sizes at (IfZero test a target) e l = (e, λ same. clash (nat_eq target at) (eq_is target at (sym same)) (not_true (nat_eq target at) l))
    where
      eq_is : (a b : ℕ) → a ≡ b → nat_eq a b ≡ true
      eq_is a b same = eq-eqb a b same
  near_at sizes at x e l = tt

  not_far : (sizes : List ℕ) (at : ℕ) (x : Insn) (xs : List Insn) → first_far sizes at (x ∷ xs) ≡ None → (is_far sizes at x ≡ false) × (first_far sizes (suc at) xs ≡ None)
  not_far sizes at x xs e = by (is_far sizes at x) refl
    where
      by : (b : Bool) → is_far sizes at x ≡ b → (is_far sizes at x ≡ false) × (first_far sizes (suc at) xs ≡ None)
      by true f = absurd (some_none at (sym (ap (λ (b : Bool). if b then Some at else first_far sizes (suc at) xs) f) ∙ e))
        where
          some_none : (n : ℕ) → Some n ≡ None → ⊥
          some_none n g = cc
      by false f = (f, sym (ap (λ (b : Bool). if b then Some at else first_far sizes (suc at) xs) f) ∙ e)

  pub numbers_from : (b : Body) (at : ℕ) (xs : List Insn) → list_all (insn_fits p b) (enumerate_from at xs) ≡ true → AllNamed (flat_map insn_names xs) → AllByRecursion (NumbersFit r) xs
  unfolding insn_fits
  numbers_from b at [] e u = tt
  numbers_from b at (x ∷ xs) e u =
      let after : at + 1 ≡ suc at = omega arith in
      let both = and_parts (insn_fits p b (at, x)) (list_all (insn_fits p b) (enumerate_from (suc at) xs)) (subst (λ n. (insn_fits p b (at, x) && list_all (insn_fits p b) (enumerate_from n xs)) ≡ true) after e) in
      let one = and_parts (is_encodable x && (registers_fit x b.registers && numbers_fit x p)) (targets_fit b.insns x && (leaves at x && is_caught b.regions at x)) both.0 in
      let two = and_parts (is_encodable x) (registers_fit x b.registers && numbers_fit x p) one.0 in
      let three = and_parts (registers_fit x b.registers) (numbers_fit x p) two.1 in
      (numbers_are x three.1 (all_left (IsUsed (used_in p)) (insn_names x) (flat_map insn_names xs) u), numbers_from b (suc at) xs both.1 (all_right (IsUsed (used_in p)) (insn_names x) (flat_map insn_names xs) u))

  fine_from : (b : Body) (sizes : List ℕ) (at : ℕ) (xs : List Insn) → length sizes ≡ length b.insns → list_all (insn_fits p b) (enumerate_from at xs) ≡ true → first_far sizes at xs ≡ None → AllByRecursion InWidth xs → AllNamed (flat_map insn_names xs) → AllFine r sizes at xs
  unfolding insn_fits
  fine_from b sizes at [] long e far w u = tt
  fine_from b sizes at (x ∷ xs) long e far w u =
      let after : at + 1 ≡ suc at = omega arith in
      let both = and_parts (insn_fits p b (at, x)) (list_all (insn_fits p b) (enumerate_from (suc at) xs)) (subst (λ n. (insn_fits p b (at, x) && list_all (insn_fits p b) (enumerate_from n xs)) ≡ true) after e) in
      let one = and_parts (is_encodable x && (registers_fit x b.registers && numbers_fit x p)) (targets_fit b.insns x && (leaves at x && is_caught b.regions at x)) both.0 in
      let two = and_parts (is_encodable x) (registers_fit x b.registers && numbers_fit x p) one.0 in
      let three = and_parts (registers_fit x b.registers) (numbers_fit x p) two.1 in
      let four = and_parts (targets_fit b.insns x) (leaves at x && is_caught b.regions at x) one.1 in
      let five = and_parts (leaves at x) (is_caught b.regions at x) four.1 in
      let nay = not_far sizes at x xs far in (
        record {
          enc = two.0;
          width = w.0;
          numbers = numbers_are x three.1 (all_left (IsUsed (used_in p)) (insn_names x) (flat_map insn_names xs) u);
          near = near_at sizes at x nay.0 five.0;
          targets = subst (λ n. AllByRecursion (λ t. t < n) (targets_of x)) (sym long) (targets_in b.insns (targets_of x) four.0);
        },
        fine_from b sizes (suc at) xs long both.1 nay.1 w.1 (all_right (IsUsed (used_in p)) (insn_names x) (flat_map insn_names xs) u),
      )

  -- ---- the regions

  handlers_in : (sizes : List ℕ) (insns : List Insn) (hs : List Handler) → length sizes ≡ length insns → list_all (handler_fits p insns) hs ≡ true → AllNamed (flat_map handler_names hs) → AllByRecursion (λ h. (h.kind < length (written_by i p).types) × (h.position < length sizes)) (map (new_handler r) hs)
  handlers_in sizes insns [] long e u = tt
  handlers_in sizes insns (x ∷ hs) long e u =
      let both = and_parts (handler_fits p insns x) (list_all (handler_fits p insns) hs) e in
      let one = and_parts (has_type p x.kind) (may_begin (slice_get insns x.position)) both.0 in
      let low = ranges_kept p i few h (named.Kind x.kind) u.0 (ltb-true x.kind (length p.types) one.0) in
      ((low, omega (arith, long, begin_in insns x.position one.1)), handlers_in sizes insns hs long both.1 u.1)
    where
      begin_in : (insns : List Insn) (t : ℕ) → may_begin (slice_get insns t) ≡ true → t < length insns
      begin_in insns t e = by (slice_get insns t) refl
        where
          by : (o : Option Insn) → slice_get insns t ≡ o → t < length insns
          by None g = clash (may_begin (slice_get insns t)) e (ap may_begin g)
          by (Some x) g = slice_get_within insns t x g

  rest_in : (insns : List Insn) (o : Option ℕ) (position : ℕ) → rest_fits insns o ≡ true → o ≡ Some position → position < length insns
  rest_in insns None position e g = absurd cc
  rest_in insns (Some n) position e g =
      let same : n ≡ position = some_same n position g in
      by (slice_get insns n) refl same
    where
      some_same : (a b : ℕ) → Some a ≡ Some b → a ≡ b
      some_same a b s = cc

      by : (o : Option Insn) → slice_get insns n ≡ o → n ≡ position → position < length insns
      by None g same = clash (may_begin (slice_get insns n)) e (ap may_begin g)
      by (Some x) g same = omega (arith, slice_get_within insns n x g, same)

  map_size : {X Y : Type 0} (f : X → Y) (xs : List X) → length (map f xs) ≡ length xs
  map_size f [] = refl
  map_size f (x ∷ xs) = ap suc (map_size f xs)

  region_in : (sizes : List ℕ) (insns : List Insn) (x : Region) → length sizes ≡ length insns → region_fits p insns x ≡ true → AllNamed (region_names x) → length x.handlers < 2 ^ 31 → IsNear sizes (new_region r x) → FitRegion sizes (length (written_by i p).types) (new_region r x)
  region_in sizes insns x long e u small near =
      let a = and_parts (nat_lt x.first x.end && nat_le x.end (length insns)) (catches x && (list_all (handler_fits p insns) x.handlers && rest_fits insns x.rest)) e in
      let b = and_parts (nat_lt x.first x.end) (nat_le x.end (length insns)) a.0 in
      let c = and_parts (catches x) (list_all (handler_fits p insns) x.handlers && rest_fits insns x.rest) a.1 in
      let d = and_parts (list_all (handler_fits p insns) x.handlers) (rest_fits insns x.rest) c.1 in
      record {
        some = ltb-true x.first x.end b.0;
        inside = omega (arith, long, leb-true x.end (length insns) b.1);
        catches_some = ap (λ (n : ℕ). not (nat_eq n 0) || is_some x.rest) (map_size (new_handler r) x.handlers) ∙ c.0;
        handlers = handlers_in sizes insns x.handlers long d.0 u;
        few = omega (arith, small, map_size (new_handler r) x.handlers);
        rest = λ position g. omega (arith, long, rest_in insns x.rest position d.1 g);
        near = near;
      }

  regions_in : (sizes : List ℕ) (insns : List Insn) (xs : List Region) → length sizes ≡ length insns → list_all (region_fits p insns) xs ≡ true → AllNamed (flat_map region_names xs) → AllByRecursion (λ x. length x.handlers < 2 ^ 31) xs → AllByRecursion (IsNear sizes) (map (new_region r) xs)
      → AllByRecursion (FitRegion sizes (length (written_by i p).types)) (map (new_region r) xs)
  regions_in sizes insns [] long e u small near = tt
  regions_in sizes insns (x ∷ xs) long e u small near =
      let both = and_parts (region_fits p insns x) (list_all (region_fits p insns) xs) e in
      (region_in sizes insns x long both.0 (all_left (IsUsed (used_in p)) (region_names x) (flat_map region_names xs) u) small.0 near.0, regions_in sizes insns xs long both.1 (all_right (IsUsed (used_in p)) (region_names x) (flat_map region_names xs) u) small.1 near.1)

-- ---- the last instruction

last_stops : (xs : List Insn) (k : ℕ) → suc k ≡ length xs → ends (slice_get xs k) ≡ true → LastStops xs
last_stops [] k e h = absurd (omega (arith, e))
last_stops (x ∷ []) zero e h = not_true (goes_on x) h
last_stops (x ∷ []) (suc k) e h = absurd (omega (arith, e))
last_stops (x ∷ y ∷ xs) zero e h = absurd (omega (arith, e))
last_stops (x ∷ y ∷ xs) (suc k) e h = last_stops (y ∷ xs) k (omega (arith, e)) h

pub last_of : (xs : List Insn) → ends (slice_get xs (length xs - 1)) ≡ true → LastStops xs
last_of [] h = absurd cc
last_of (x ∷ xs) h = last_stops (x ∷ xs) (length (x ∷ xs) - 1) (omega arith) h

-- ---- room

cap_five : (r : Renumber) (x : Insn) → cap (step_of r x) ≤ 5
cap_five r (Goto target) = omega arith
cap_five r (ConstString to n) = few_units (shortest_string _)
cap_five r x = few_units (shortest x (pos 0))

needs_five : (r : Renumber) (sizes : List ℕ) (at : ℕ) (xs : List Insn) → AllByRecursion (λ s. s ≤ 5) (needs sizes at (map (step_of r) xs))
needs_five r sizes at [] = tt
needs_five r sizes at (x ∷ xs) = (omega (arith, need_cap sizes at (step_of r x), cap_five r x), needs_five r sizes (suc at) xs)

start_five : (ss : List ℕ) (k : ℕ) → AllByRecursion (λ s. s ≤ 5) ss → start ss k ≤ 5 * k
start_five ss zero a = omega arith
start_five [] (suc k) a = omega arith
start_five (s ∷ ss) (suc k) a = omega (arith, a.0, start_five ss k a.1)

two_each : (sizes : List ℕ) (from n : ℕ) → length (target_units sizes from n) ≡ 2
two_each sizes from n = refl

eight : (width n : ℕ) → width ≤ 8 → width * n ≤ 8 * n
eight width zero le = omega arith
eight width (suc n) le = omega (arith, le, eight width n le, mul-suc width n)

width_eight : (width : ℕ) → ((width ≡ 1) ⊎ (width ≡ 2)) ⊎ ((width ≡ 4) ⊎ (width ≡ 8)) → width ≤ 8
width_eight width h = elim h [
  | inl a ↦ elim a [ inl e ↦ omega (arith, e) | inr e ↦ omega (arith, e) ]
  | inr a ↦ elim a [ inl e ↦ omega (arith, e) | inr e ↦ omega (arith, e) ]
]

payload_room : (sizes : List ℕ) (from : ℕ) (x : Insn) → is_encodable x ≡ true → InWidth x → length (payload_text sizes from x) ≤ 5 + 4 * entries_of x
payload_room sizes from (PackedSwitch on first targets) enc w = omega (arith, units_long (target_units sizes from) (two_each sizes from) targets)
payload_room sizes from (SparseSwitch on keys targets) enc w = omega (arith, length-append (flat_map signed_units keys) (flat_map (target_units sizes from) targets), keys_long keys, units_long (target_units sizes from) (two_each sizes from) targets, (fit_sparse on keys targets enc).same)
payload_room sizes from (FillArray on width items) enc w =
    let fit : Fit width items = fill_fits on width items enc w in
    let bytes : List ℕ = flat_map (item_bytes width) items in
    omega (arith, units_many bytes, bytes_long width items fit, eight width (length items) (width_eight width (one_of width (fill_parts on width items enc).width_is)))
payload_room sizes from x enc w = omega arith

evenly_room : (at : ℕ) (text : List ℕ) → length (evenly at text) ≤ 1 + length text
evenly_room at [] = omega arith
evenly_room at (u ∷ us) = omega (arith, length-append (replicate (at % 2) 0) (u ∷ us), zeros (at % 2))
  where
    zeros : (m : ℕ) → length {A = ℕ} (replicate m 0) ≡ m
    zeros zero = refl
    zeros (suc m) = ap suc (zeros m)

payloads_room : (r : Renumber) (sizes : List ℕ) (unit at : ℕ) (xs : List Insn) → AllFine r sizes at xs → length (payloads_text sizes unit at xs) ≤ 6 * length xs + 4 * sum_by entries_of xs
payloads_room r sizes unit at [] f = omega arith
payloads_room r sizes unit at (x ∷ xs) f =
    let text : List ℕ = payload_text sizes (start sizes at) x in
    let more : List ℕ = payloads_text sizes (next_unit sizes unit at x) (suc at) xs in
    omega (arith, length-append (evenly unit text) more, evenly_room unit text, payload_room sizes (start sizes at) x f.0.enc f.0.width, payloads_room r sizes (next_unit sizes unit at x) (suc at) xs f.1, sum_by-cons entries_of x xs)

few_insns : (b : Body) → body_cells b ≤ 67108864 → (length b.insns ≤ 67108864) × (sum_by entries_of b.insns ≤ 67108864)
few_insns b le =
    let one : (b.registers + 1) * length b.insns ≡ b.registers * length b.insns + length b.insns = ap (λ (k : ℕ). k * length b.insns) (let e : b.registers + 1 ≡ suc b.registers = omega arith in e) ∙ suc-mul b.registers (length b.insns) in
    (omega (arith, le, one), omega (arith, le, one))

-- ---- calls

pub call_few : (args : List ℕ) → fit_call args ≡ true → length args < 256
call_few args e = elim (or_cases (fit_nibbles args) (nat_lt (length args) 256 && are_adjacent args) e) [
  | inl t ↦ omega (arith, leb-true (length args) 5 (and_parts (nat_le (length args) 5) (list_all (λ a. nat_lt a 16) args) t).0)
  | inr t ↦ ltb-true (length args) 256 (and_parts (nat_lt (length args) 256) (are_adjacent args) t).0
]

passed_few : (r : Renumber) (x : Insn) → is_encodable x ≡ true → words_passed (new_insn r x) < 256
passed_few r (Invoke kind n args) e = call_few args e
passed_few r x e = omega arith

most_few : (r : Renumber) (sizes : List ℕ) (at : ℕ) (xs : List Insn) → AllFine r sizes at xs → most_passed (map (new_insn r) xs) < 256
most_few r sizes at [] f = omega arith
most_few r sizes at (x ∷ xs) f = omega (arith, passed_few r x f.0.enc, most_few r sizes (suc at) xs f.1)

-- ---- offsets of lists

pub all_rec : {X : Type 0} (P : X → Type 0) (xs : List X) → All P xs → AllByRecursion P xs
all_rec P [] a = tt
all_rec P (x ∷ xs) a = (All-head P x xs a, all_rec P xs (All-tail P x xs a))

place_low : (ts : List (List ℕ)) (begins x : List ℕ) → AllByRecursion (λ at. at ≤ 65535) begins → place_of ts begins x ≤ 65535
place_low [] begins x a = omega arith
place_low (t ∷ ts) [] x a = omega arith
place_low (t ∷ ts) (at ∷ begins) x a = by (kept.is_same t x) (place_low ts begins x a.1)
  where
    by : (b : Bool) → place_of ts begins x ≤ 65535 → (if b then at else place_of ts begins x) ≤ 65535
    by true rest = a.0
    by false rest = rest

offsets_low : (sizes : List ℕ) (all rs : List Region) → AllByRecursion (λ at. at ≤ 65535) (list_begins sizes all) → AllByRecursion (λ x. list_offset sizes all x < 65536) rs
offsets_low sizes all [] a = tt
offsets_low sizes all (x ∷ rs) a =
    let low = place_low (written_lists sizes all) (list_begins sizes all) (catches_text sizes x) a in
    (omega (arith, low), offsets_low sizes all rs a)

insert_many : (x : List ℕ) (ys : List (List ℕ)) → length (kept.insert x ys) ≡ suc (length ys)
insert_many x [] = refl
insert_many x (y ∷ ys) = by (nat_lt (length x) (length y)) (insert_many x ys)
  where
    by : (b : Bool) → length (kept.insert x ys) ≡ suc (length ys) → length (if b then x ∷ (y ∷ ys) else y ∷ kept.insert x ys) ≡ suc (suc (length ys))
    by true e = refl
    by false e = ap suc e

pub sorted_many : (s xs : List (List ℕ)) → length (by_length s xs) ≡ length s + length xs
sorted_many s [] = let e : length s ≡ length s + 0 = omega arith in e
sorted_many s (x ∷ xs) = sorted_many (kept.insert x s) xs ∙ omega (arith, insert_many x s)

distinct_few : (before xs : List (List ℕ)) → length (distinct before xs) ≤ length before + length xs
distinct_few before [] = omega arith
distinct_few before (x ∷ xs) = by (list_any (kept.is_same x) before) (distinct_few before xs) (distinct_few (before ++ x ∷ []) xs)
  where
    by : (b : Bool) → length (distinct before xs) ≤ length before + length xs → length (distinct (before ++ x ∷ []) xs) ≤ length (before ++ x ∷ []) + length xs → length (if b then distinct before xs else distinct (before ++ x ∷ []) xs) ≤ length before + suc (length xs)
    by true e f = omega (arith, e)
    by false e f = omega (arith, f, length-append before (x ∷ []))

map_many : {X Y : Type 0} (f : X → Y) (xs : List X) → length (map f xs) ≡ length xs
map_many f [] = refl
map_many f (x ∷ xs) = ap suc (map_many f xs)

pub lists_few : (sizes : List ℕ) (rs : List Region) → length (written_lists sizes rs) ≤ length rs
lists_few sizes rs = omega (arith, sorted_many [] (distinct [] (map (catches_text sizes) rs)), distinct_few [] (map (catches_text sizes) rs), map_many (catches_text sizes) rs)

-- ---- a body that fits

-- the layout of a body is that of its written one
steps_all : (r : Renumber) (xs : List Insn) → AllByRecursion (NumbersFit r) xs → map (step_of r) xs ≡ map new_step (map (new_insn r) xs)
steps_all r [] n = refl
steps_all r (x ∷ xs) n = ap (λ (f : Step). f ∷ map (step_of r) xs) (steps_same r x n.0) ∙ ap (λ (l : List Step). new_step (new_insn r x) ∷ l) (steps_all r xs n.1)

far_new : (r : Renumber) (sizes : List ℕ) (at : ℕ) (x : Insn) → is_far sizes at (new_insn r x) ≡ is_far sizes at x
far_new r sizes at Nop = refl
far_new r sizes at x = refl

far_same : (r : Renumber) (sizes : List ℕ) (at : ℕ) (xs : List Insn) → first_far sizes at (map (new_insn r) xs) ≡ first_far sizes at xs
far_same r sizes at [] = refl
far_same r sizes at (x ∷ xs) = ap (λ (b : Bool). if b then Some at else first_far sizes (suc at) (map (new_insn r) xs)) (far_new r sizes at x) ∙ ap (λ (o : Option ℕ). if is_far sizes at x then Some at else o) (far_same r sizes (suc at) xs)

body_numbers : (p : Program) (i : Interner) (few : IsShort p) (h : IsInterned p i) → FewEntries p (written_by i p) → (b : Body) → body_fits p b ≡ true → AllByRecursion (IsUsed (used_in p)) (body_names b) → AllByRecursion (NumbersFit i.numbers) b.insns
unfolding body_fits body_names
body_numbers p i few h entries b fits used =
    let a = and_parts (may_begin (slice_get b.insns 0) && ends (slice_get b.insns (length b.insns - 1))) (list_all follows (neighbours b.insns) && (list_all (insn_fits p b) (enumerate_from 0 b.insns) && regions_fit p b.insns b.regions)) fits in
    let d = and_parts (list_all follows (neighbours b.insns)) (list_all (insn_fits p b) (enumerate_from 0 b.insns) && regions_fit p b.insns b.regions) a.1 in
    let e = and_parts (list_all (insn_fits p b) (enumerate_from 0 b.insns)) (regions_fit p b.insns b.regions) d.1 in
    numbers_from p i few h entries b 0 b.insns e.0 (all_left (IsUsed (used_in p)) (flat_map insn_names b.insns) (flat_map region_names b.regions) used)

-- the least sizes of a body are those of its written one
pub same_sizes : (p : Program) (i : Interner) (few : IsShort p) (h : IsInterned p i) → FewEntries p (written_by i p) → (b : Body) → body_fits p b ≡ true → AllByRecursion (IsUsed (used_in p)) (body_names b) → (sizes : List ℕ) → IsLeast (map (step_of i.numbers) b.insns) sizes → (lays : LaysOutBody (new_body i.numbers b)) → lays.sizes ≡ sizes
same_sizes p i few h entries b fits used sizes least lays =
    let same = steps_all i.numbers b.insns (body_numbers p i few h entries b fits used) in
    least_one (map (step_of i.numbers) b.insns) lays.sizes sizes (subst (λ l. IsLeast l lays.sizes) (sym same) lays.least) least

pub written_sizes : (p : Program) (i : Interner) (few : IsShort p) (h : IsInterned p i) → FewEntries p (written_by i p) → (b : Body) → body_fits p b ≡ true → AllByRecursion (IsUsed (used_in p)) (body_names b) → (sizes : List ℕ) → IsLeast (map (step_of i.numbers) b.insns) sizes → AreSizes (new_body i.numbers b) sizes
written_sizes p i few h entries b fits used sizes least = subst (λ l. IsLeast l sizes) (steps_all i.numbers b.insns (body_numbers p i few h entries b fits used)) least

-- what lays out has no branch that goes too far
pub none_far : (p : Program) (i : Interner) (few : IsShort p) (h : IsInterned p i) → FewEntries p (written_by i p) → (b : Body) (position : ℕ) → body_fits p b ≡ true → AllByRecursion (IsUsed (used_in p)) (body_names b) → LaysOutBody (new_body i.numbers b) → IsFarAt i.numbers b position → ⊥
none_far p i few h entries b position fits used lays far =
    let same : lays.sizes ≡ far.sizes = same_sizes p i few h entries b fits used far.sizes far.least lays in
    some_none far.place (sym far.far ∙ (ap (λ (l : List ℕ). first_far l 0 b.insns) (sym same) ∙ (sym (far_same i.numbers lays.sizes 0 b.insns) ∙ lays.branches)))
  where
    some_none : (n : ℕ) → Some n ≡ None → ⊥
    some_none n e = cc

pub fit_body : (p : Program) (i : Interner) (few : IsShort p) (h : IsInterned p i) → FewEntries p (written_by i p) → (b : Body) (layout : Layout) → body_fits p b ≡ true → body_cells b ≤ 67108864 → WideBody b → AllByRecursion (IsUsed (used_in p)) (body_names b) → AllByRecursion (λ x. length x.handlers < 2 ^ 31) b.regions
    → (laid : IsLaidOut i.numbers b layout) → (lays : LaysOutBody (new_body i.numbers b)) → lays.sizes ≡ laid.sizes → FitBody i.numbers laid.sizes (length (written_by i p).types) b
unfolding body_fits regions_fit body_names
fit_body p i few h entries b layout fits cells wide used small laid lays same =
    let r : Renumber = i.numbers in
    let sizes : List ℕ = laid.sizes in
    let steps : List Step = map (step_of r) b.insns in
    let a = and_parts (may_begin (slice_get b.insns 0) && ends (slice_get b.insns (length b.insns - 1))) (list_all follows (neighbours b.insns) && (list_all (insn_fits p b) (enumerate_from 0 b.insns) && regions_fit p b.insns b.regions)) fits in
    let c = and_parts (may_begin (slice_get b.insns 0)) (ends (slice_get b.insns (length b.insns - 1))) a.0 in
    let d = and_parts (list_all follows (neighbours b.insns)) (list_all (insn_fits p b) (enumerate_from 0 b.insns) && regions_fit p b.insns b.regions) a.1 in
    let e = and_parts (list_all (insn_fits p b) (enumerate_from 0 b.insns)) (regions_fit p b.insns b.regions) d.1 in
    let f = and_parts (list_all (region_fits p b.insns) b.regions) (list_all are_apart (neighbours b.regions)) e.1 in
    let is : sizes ≡ needs sizes 0 steps = least_needs steps sizes laid.least in
    let long : length sizes ≡ length b.insns = least_long steps sizes laid.least ∙ map_many (step_of r) b.insns in
    let fine : AllFine r sizes 0 b.insns = fine_from p i few h entries b sizes 0 b.insns long e.0 laid.near wide.insns (all_left (IsUsed (used_in p)) (flat_map insn_names b.insns) (flat_map region_names b.regions) used) in
    let five : AllByRecursion (λ s. s ≤ 5) sizes = subst (λ l. AllByRecursion (λ s. s ≤ 5) l) (sym is) (needs_five r sizes 0 b.insns) in
    let cells_few = few_insns b cells in
    let near : AllByRecursion (IsNear sizes) (map (new_region r) b.regions) = subst (λ l. AllByRecursion (IsNear l) (map (new_region r) b.regions)) same (all_rec (IsNear lays.sizes) (map (new_region r) b.regions) lays.regions) in
    let begins : AllByRecursion (λ at. at ≤ 65535) (list_begins sizes (map (new_region r) b.regions)) = subst (λ l. AllByRecursion (λ at. at ≤ 65535) (list_begins l (map (new_region r) b.regions))) same (all_rec (λ at. at ≤ 65535) (list_begins lays.sizes (map (new_region r) b.regions)) lays.lists) in
    record {
      is = is;
      long = long;
      some = subst AllSome (sym is) (needs_some r sizes 0 b.insns);
      fine = fine;
      last = last_of b.insns c.1;
      room = omega (arith, start_five sizes (length sizes) five, payloads_room r sizes (start sizes (length sizes)) 0 b.insns fine, cells_few.0, cells_few.1, long);
      registers = wide.registers;
      ins = wide.ins;
      passed = omega (arith, most_few r sizes 0 b.insns fine);
      regions = regions_in p i few h entries sizes b.insns b.regions long f.0 (all_right (IsUsed (used_in p)) (flat_map insn_names b.insns) (flat_map region_names b.regions) used) small near;
      few_regions = omega (arith, lays.few, map_many (new_region r) b.regions);
      offsets = offsets_low sizes (map (new_region r) b.regions) (map (new_region r) b.regions) begins;
      lists = omega (arith, lists_few sizes (map (new_region r) b.regions), lays.few);
    }
