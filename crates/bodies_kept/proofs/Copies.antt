-- Originals have the kinds of their copies in the least typing.
use Rattle.std.proofs.Common.{◌≡◌, ℕ, suc, ◌+◌, ◌-◌, ◌<◌, Bool, true, false, true≢false, nat_eq, List, [], ◌∷◌, ◌++◌, map, length, Option, Some, None, inl, inr, refl, sym, ap, ◌∙◌, subst, arith, eqb-true, eq-eqb}
use Rattle.std.specs.Prelude.{◌&&◌, ◌||◌, if◌then◌else◌, slice_get, option_and_then, option_to_list, All, Contains}
use Rattle.std.proofs.lemmas.List.Elements.{All-weaker, All-contains_itself, Contains-append_left, Contains-append_right, Contains-append_cases}
use Rattle.lemmas.proofs.Bools.{and_both, and_left, and_right, clash, neither_of, or_left, or_right, untrue}
use Rattle.lemmas.proofs.Options.{some_same}
use Rattle.insn_set.specs.Flow.{throws, targets_of}
use Rattle.insn_set.specs.Registers.{in_operand, reads_of, writes_of}
use Rattle.insn_set.specs.Widths.{is_wide_slot}
use Rattle.insn_set.specs.declared.form.Insn.{Insn}
use Rattle.insn_set.specs.declared.form.Insn.TheVariants as insn
use Rattle.insn_set.specs.declared.ops.Slot.{Slot}
use Rattle.insn_set.specs.declared.ops.Slot.TheVariants as slots
use Rattle.program_model.specs.declared.body.Body.{Body}
use Rattle.program_model.specs.declared.body.Handler.{Handler}
use Rattle.program_model.specs.declared.body.Region.{Region}
use Rattle.flow_cfg.specs.Walks.{handlers_in, handlers_at, covers, next_of, successors_of}
use Rattle.body_graph.specs.Walks.{insn_at, onward, caught, Walk, IsReached}
use Rattle.body_graph.proofs.Links.{step_on, step_caught}
use Rattle.copy_prop.specs.Stale.{IsCopy, in_copy, in_either, overlaps, casts, IsSpoilt}
use Rattle.verify.specs.declared.kinds.Kind.{Kind}
use Rattle.verify.specs.declared.kinds.Kind.TheVariants.{WideLow, WideHigh}
use Rattle.verify.specs.declared.setting.Setting.{Setting}
use Rattle.verify.specs.declared.tables.Tables.{Tables}
use Rattle.verify.specs.After.{moved}
use Rattle.verify.specs.Faults.{fault_of}
use Rattle.verify.specs.Flow.{raised_kinds, place_at, form_after}
use Rattle.verify.specs.Frames.{Kinds, kind_at, is_pair, written_kinds}
use Rattle.verify.specs.Joins.{joined}
use Rattle.verify.specs.Kinds.{same_kind, is_initialised, is_moved}
use Rattle.verify.specs.Meeting.{IsMeeting}
use Rattle.verify.specs.Types.{kind_of}
use Rattle.verify.specs.Typings.{Below, IsLattice, IsBelow, Table, IsTyping, IsLeastTyping, IsMonotone, catches_in, catch_rest, first_covering, place_covering, catches}
use Rattle.verify.specs.Typings as flow
use Rattle.verify.proofs.Lattice.{joins, alike as same_kinds, numbers, objects, apart, same_is}
use Rattle.verify.proofs.Raises.{raised_one_at, is_joined}
use Rattle.verify.proofs.Leaving.{monotone}
use Rattle.verify.proofs.Ranks.{lattice_of}
use Rattle.verify.proofs.Reaches.{all_unmap}
use Rattle.verify.proofs.Reading.{unless_true, no_fault}
use Rattle.bodies_kept.specs.Alike.{is_half, IsNarrow, IsAlike, AreAlike}
use Rattle.bodies_kept.proofs.Least.{Edge, onward_all, least_has}
use Rattle.bodies_kept.proofs.Shifts.{touches, Shifts, shifts}
use Rattle.bodies_kept.proofs.Writes.{is_low, IsLeft, one_is, pair_is, one_here, pair_low, pair_high, written_at}

-- ---- halves

made_whole : (k : Kind) → is_initialised k ≡ true → is_half k ≡ false
made_whole WideLow e = absurd (true≢false (sym e))
made_whole WideHigh e = absurd (true≢false (sym e))
made_whole k e = refl

moved_whole : (k : Kind) → is_moved k ≡ true → is_half k ≡ false
moved_whole WideLow e = absurd (true≢false (sym e))
moved_whole WideHigh e = absurd (true≢false (sym e))
moved_whole k e = refl

whole_low : (k : Kind) → is_half k ≡ false → same_kind k WideLow ≡ false
whole_low k e = untrue (same_kind k WideLow) (λ z. clash (is_half k) (ap is_half (same_is k WideLow z)) e)

whole_high : (k : Kind) → is_half k ≡ false → same_kind k WideHigh ≡ false
whole_high k e = untrue (same_kind k WideHigh) (λ z. clash (is_half k) (ap is_half (same_is k WideHigh z)) e)

whole_width : (k : Kind) → is_half k ≡ false → is_low k ≡ false
whole_width WideLow e = absurd (true≢false e)
whole_width k e = refl

whole_joined : (t : Tables) (a b : Kind) → is_half a ≡ false → is_half b ≡ false → is_half (joined t a b) ≡ false
whole_joined t a b p q = elim (joins t a b) [
  | same_kinds e j ↦ ap is_half j ∙ p
  | numbers e f g j ↦ ap is_half j
  | objects e f g j o ↦ made_whole (joined t a b) o.made
  | apart e f g j ↦ ap is_half j
]

-- ---- where a throw goes

walk_more : (next : ℕ → List ℕ) (n m k : ℕ) → Walk next n m → Contains (next m) k → Walk next n k
walk_more next n m k (Walk.Stays _) c = Walk.Goes n k k c (Walk.Stays k)
walk_more next n m k (Walk.Goes _ j _ i w) c = Walk.Goes n j k i (walk_more next j m k w c)

module _ (t : Tables) where
  firsts : (hs : List Handler) (o : Option ℕ) → map (λ h. h.0) (map (λ h. (h.position, kind_of t h.kind)) hs ++ catch_rest o) ≡ map (λ h. h.position) hs ++ option_to_list o
  firsts [] None = refl
  firsts [] (Some q) = refl
  firsts (h ∷ hs) o = ap (λ l. h.position ∷ l) (firsts hs o)

  caught_in : (all rs : List Region) (k n : ℕ) → ((j : ℕ) → slice_get all (k + j) ≡ slice_get rs j) → map (λ h. h.0) (catches_in t (option_and_then (λ j. slice_get all j) (first_covering n k rs))) ≡ handlers_at rs n
  caught_in all [] k n h = refl
  caught_in all (r ∷ rs) k n h = by (covers n r) (caught_in all rs (k + 1) n (λ j. let e : k + 1 + j ≡ k + suc j = omega arith in ap (slice_get all) e ∙ h (suc j)))
    where
      first : slice_get all k ≡ Some r
      first = let e : k ≡ k + 0 = omega arith in ap (slice_get all) e ∙ h 0

      by : (b : Bool) → map (λ h. h.0) (catches_in t (option_and_then (λ j. slice_get all j) (first_covering n (k + 1) rs))) ≡ handlers_at rs n
          → map (λ h. h.0) (catches_in t (option_and_then (λ j. slice_get all j) (if b then Some k else first_covering n (k + 1) rs))) ≡ (if b then handlers_in r else handlers_at rs n)
      by true more = ap (λ o. map (λ (h : ℕ × Kind). h.0) (catches_in t o)) first ∙ firsts r.handlers r.rest
      by false more = more

  pub caught_places : (b : Body) (i : Insn) (n : ℕ) → map (λ h. h.0) (catches t b i n) ≡ caught b i n
  caught_places b i n = by (throws i)
    where
      by : (v : Bool) → map (λ h. h.0) (if v then catches_in t (flow.region_at b (place_covering b n)) else []) ≡ (if v then handlers_at b.regions n else [])
      by true = caught_in b.regions b.regions 0 n (λ j. let e : 0 + j ≡ j = omega arith in ap (slice_get b.regions) e)
      by false = refl

-- ---- a Move

in_first : (v : Bool) (r : ℕ) → in_operand v r r ≡ true
in_first true r = or_left (nat_eq r r) (nat_eq r (r + 1)) (eq-eqb r r refl)
in_first false r = eq-eqb r r refl

in_second : (r : ℕ) → in_operand true r (r + 1) ≡ true
in_second r = or_right (nat_eq (r + 1) r) (nat_eq (r + 1) (r + 1)) (eq-eqb (r + 1) (r + 1) refl)

-- two pairs that don't overlap
second_out : (to from : ℕ) → in_operand true to from ≡ false → in_operand true from to ≡ false → in_operand true to (from + 1) ≡ false
second_out to from e f = untrue (in_operand true to (from + 1)) (λ z. by (nat_eq (from + 1) to) refl z)
  where
    by : (v : Bool) → nat_eq (from + 1) to ≡ v → (v || nat_eq (from + 1) (to + 1)) ≡ true → ⊥
    by true i z = clash (in_operand true from to) (or_right (nat_eq to from) (nat_eq to (from + 1)) (eq-eqb to (from + 1) (sym (eqb-true (from + 1) to i)))) f
    by false i z = let u = eqb-true (from + 1) (to + 1) z in clash (in_operand true to from) (or_left (nat_eq from to) (nat_eq from (to + 1)) (eq-eqb from to (omega (arith, u)))) e

module _ (to from : ℕ) (ks : List Kind) where
  one_moves : (k : Kind) → kind_at ks from ≡ k → is_moved k ≡ true → in_operand false to from ≡ false → to < length ks → (kind_at (written_kinds to k ks) from ≡ kind_at (written_kinds to k ks) to) × (is_half (kind_at (written_kinds to k ks) to) ≡ false)
  one_moves k e mv out lt =
      let whole = moved_whole k mv in
      let width = whole_width k whole in
      let there : kind_at (written_kinds to k ks) to ≡ k = ap (λ l. kind_at l to) (one_is to k ks width) ∙ one_here to k ks lt in
      let here : kind_at (written_kinds to k ks) from ≡ kind_at ks from = written_at false to k ks from width (record {
        here = out;
        low = λ z. clash (same_kind k WideLow) (sym (ap (λ x. same_kind x WideLow) e) ∙ z) (whole_low k whole);
        high = λ z. clash (same_kind k WideHigh) (sym (ap (λ x. same_kind x WideHigh) e) ∙ z) (whole_high k whole);
      }) in
      (here ∙ e ∙ sym there, ap is_half there ∙ whole)

  abbrev pair : List Kind
  pair = written_kinds to WideLow ks

  low_first : is_low WideLow ≡ true
  low_first = refl

  two_move : is_pair ks from ≡ true → in_operand true to from ≡ false → in_operand true from to ≡ false → to + 1 < length ks → ((kind_at pair to ≡ WideLow) × (kind_at pair (to + 1) ≡ WideHigh)) × ((kind_at pair from ≡ WideLow) × (kind_at pair (from + 1) ≡ WideHigh))
  two_move e out back lt =
      let low = same_is (kind_at ks from) WideLow (and_left (same_kind (kind_at ks from) WideLow) (same_kind (kind_at ks (from + 1)) WideHigh) e) in
      let high = same_is (kind_at ks (from + 1)) WideHigh (and_right (same_kind (kind_at ks from) WideLow) (same_kind (kind_at ks (from + 1)) WideHigh) e) in
      let second = second_out to from out back in
      let back_one : from + 1 - 1 ≡ from = omega arith in (
        (ap (λ l. kind_at l to) (pair_is to WideLow ks low_first) ∙ pair_low to ks (omega (arith, lt)), ap (λ l. kind_at l (to + 1)) (pair_is to WideLow ks low_first) ∙ pair_high to ks lt),
        (
          written_at true to WideLow ks from low_first (record {
            here = out;
            low = λ z. second;
            high = λ z. clash (same_kind WideLow WideHigh) (sym (ap (λ x. same_kind x WideHigh) low) ∙ z) refl;
          }) ∙ low,
          written_at true to WideLow ks (from + 1) low_first (record {
            here = second;
            low = λ z. clash (same_kind WideHigh WideLow) (sym (ap (λ x. same_kind x WideLow) high) ∙ z) refl;
            high = λ z. subst (λ y. in_operand true to y ≡ false) (sym back_one) out;
          }) ∙ high,
        ),
      )

module _ (s : Setting) (b : Body) (m : IsMeeting s.tables.now) (narrow : IsNarrow s b) where
  -- a position that is reached, and at which originals have the kinds of copies
  record Fine (n : ℕ) (ks : List Kind) : Type 0 where
    reached : IsReached b n
    alike : (at : ℕ) (slot : Slot) (to from : ℕ) → IsCopy b at slot to from → overlaps slot to from ≡ false → (IsSpoilt b at slot to from n → ⊥) → IsAlike slot to from ks

  abbrev P : ℕ → Kinds → Type 0
  P n a = Fine n a.registers

  -- ---- the entry and joins

  begins : (a : Kinds) → P 0 a
  begins a = record { reached = Walk.Stays 0; alike = λ at slot to from c o k. absurd (k IsSpoilt.Begins) }

  joins_fine : (l : IsLattice s.tables.now) (n : ℕ) (a o : Kinds) → length a.registers ≡ b.registers → length o.registers ≡ b.registers → P n a → P n o → P n (raised_kinds s.tables.now a o)
  joins_fine l n a o wa wo p q = record {
    reached = p.reached;
    alike = λ at slot to from c apart kept. by slot to from (p.alike at slot to from c apart kept) (q.alike at slot to from c apart kept);
  }
    where
      new : List Kind
      new = (raised_kinds s.tables.now a o).registers

      at_new : (r : ℕ) → kind_at (raised_kinds s.tables.now a o).registers r ≡ joined s.tables.now (kind_at o.registers r) (kind_at a.registers r)
      at_new r = raised_one_at s.tables.now a.registers o.registers r (wa ∙ sym wo) ∙ is_joined s.tables.now l (kind_at a.registers r) (kind_at o.registers r)

      both_are : (r : ℕ) (k : Kind) → joined s.tables.now k k ≡ k → kind_at a.registers r ≡ k → kind_at o.registers r ≡ k → kind_at (raised_kinds s.tables.now a o).registers r ≡ k
      both_are r k j e f = at_new r ∙ ap (λ x. joined s.tables.now x (kind_at a.registers r)) f ∙ ap (joined s.tables.now k) e ∙ j

      by : (slot : Slot) (to from : ℕ) → IsAlike slot to from a.registers → IsAlike slot to from o.registers → IsAlike slot to from (raised_kinds s.tables.now a o).registers
      by slot to from x y = record {
        narrow = λ w. let u = x.narrow w in let v = y.narrow w in (
          at_new from ∙ ap (λ k. joined s.tables.now k (kind_at a.registers from)) v.0 ∙ ap (joined s.tables.now (kind_at o.registers to)) u.0 ∙ sym (at_new to),
          ap is_half (at_new to) ∙ whole_joined s.tables.now (kind_at o.registers to) (kind_at a.registers to) v.1 u.1,
        );
        wide = λ w. let u = x.wide w in let v = y.wide w in
            ((both_are to WideLow refl u.0.0 v.0.0, both_are (to + 1) WideHigh refl u.0.1 v.0.1), (both_are from WideLow refl u.1.0 v.1.0, both_are (from + 1) WideHigh refl u.1.1 v.1.1));
      }

  -- ---- edges

  module _ (n : ℕ) (i : Insn) (a : Kinds) (is : insn_at b n ≡ Some i) (width : length a.registers ≡ b.registers) (allowed : fault_of s n a i ≡ None) (p : P n a) where
    abbrev ks : List Kind
    ks = a.registers

    abbrev new : List Kind
    new = (form_after s n i a).registers

    shift : Shifts (touches i) ks new
    shift = shifts s m narrow.class n a i (λ method k args e. narrow.calls n method k args (is ∙ ap Some e)) allowed

    -- behind the Move
    moves : (slot : Slot) (to from : ℕ) → i ≡ insn.Move slot to from → overlaps slot to from ≡ false → IsAlike slot to from new
    moves slot to from e o = subst (λ j. IsAlike slot to from (form_after s n j a).registers) (sym e) (by slot (subst (λ j. fault_of s n a j ≡ None) e allowed) (subst (λ j. insn_at b n ≡ Some j) e is) o)
      where
        in_room : (v : Slot) (r : ℕ) → insn_at b n ≡ Some (insn.Move v to from) → in_operand (is_wide_slot v) to r ≡ true → r < length ks
        in_room v r h e = let lt = narrow.room n r (insn.Move v to from) h (or_right (reads_of (insn.Move v to from) r) (writes_of (insn.Move v to from) r) e) in omega (arith, lt, width)

        by : (v : Slot) → fault_of s n a (insn.Move v to from) ≡ None → insn_at b n ≡ Some (insn.Move v to from) → overlaps v to from ≡ false → IsAlike v to from (written_kinds to (moved v (kind_at ks from)) ks)
        by slots.Wide f h o =
            let e = unless_true (is_pair ks from) from (no_fault s n a (insn.Move slots.Wide to from) f).1 in
            let out = neither_of (in_operand true to from) (in_operand true from to) o in
            record { narrow = λ w. absurd (true≢false w); wide = λ w. two_move to from ks e out.0 out.1 (in_room slots.Wide (to + 1) h (in_second to)) }
        by slots.Word f h o =
            let e = unless_true (is_moved (kind_at ks from)) from (no_fault s n a (insn.Move slots.Word to from) f).1 in
            let out = neither_of (in_operand false to from) (in_operand false from to) o in
            record { narrow = λ w. one_moves to from ks (kind_at ks from) refl e out.0 (in_room slots.Word to h (in_first false to)); wide = λ w. absurd (true≢false (sym w)) }
        by slots.Object f h o =
            let e = unless_true (is_moved (kind_at ks from)) from (no_fault s n a (insn.Move slots.Object to from) f).1 in
            let out = neither_of (in_operand false to from) (in_operand false from to) o in
            record { narrow = λ w. one_moves to from ks (kind_at ks from) refl e out.0 (in_room slots.Object to h (in_first false to)); wide = λ w. absurd (true≢false (sym w)) }

    -- registers of a copy that aren't touched
    stays : (slot : Slot) (to from : ℕ) → ((r : ℕ) → in_either slot to from r ≡ true → touches i r ≡ false) → IsAlike slot to from ks → IsAlike slot to from new
    stays slot to from none x = record {
      narrow = λ w. (let u = x.narrow w in
          let t = shift.at to (left_whole to (none to (of_to to (in_first (is_wide_slot slot) to))) u.1) in
          let f = shift.at from (left_whole from (none from (of_from from (in_first (is_wide_slot slot) from))) (ap is_half u.0 ∙ u.1)) in
          (f ∙ ap shift.by u.0 ∙ sym t, ap is_half t ∙ shift.whole (kind_at ks to) u.1));
      wide = λ w. (let u = x.wide w in (
        (
          low_stays to u.0.0 (none to (of_to to (in_first (is_wide_slot slot) to))) (none (to + 1) (of_to (to + 1) (second w to))),
          high_stays to u.0.1 (none to (of_to to (in_first (is_wide_slot slot) to))) (none (to + 1) (of_to (to + 1) (second w to))),
        ),
        (
          low_stays from u.1.0 (none from (of_from from (in_first (is_wide_slot slot) from))) (none (from + 1) (of_from (from + 1) (second w from))),
          high_stays from u.1.1 (none from (of_from from (in_first (is_wide_slot slot) from))) (none (from + 1) (of_from (from + 1) (second w from))),
        ),
      ));
    }
      where
        of_to : (r : ℕ) → in_copy slot to r ≡ true → in_either slot to from r ≡ true
        of_to r e = or_left (in_copy slot to r) (in_copy slot from r) e

        of_from : (r : ℕ) → in_copy slot from r ≡ true → in_either slot to from r ≡ true
        of_from r e = or_right (in_copy slot to r) (in_copy slot from r) e

        second : is_wide_slot slot ≡ true → (r : ℕ) → in_copy slot r (r + 1) ≡ true
        second w r = subst (λ v. in_operand v r (r + 1) ≡ true) (sym w) (in_second r)

        left_whole : (q : ℕ) → touches i q ≡ false → is_half (kind_at ks q) ≡ false → IsLeft (touches i) ks q
        left_whole q e h = record {
          here = e;
          low = λ z. clash (same_kind (kind_at ks q) WideLow) z (whole_low (kind_at ks q) h);
          high = λ z. clash (same_kind (kind_at ks q) WideHigh) z (whole_high (kind_at ks q) h);
        }

        low_stays : (q : ℕ) → kind_at ks q ≡ WideLow → touches i q ≡ false → touches i (q + 1) ≡ false → kind_at new q ≡ WideLow
        low_stays q e h k = shift.at q (record { here = h; low = λ z. k; high = λ z. clash (same_kind WideLow WideHigh) (sym (ap (λ x. same_kind x WideHigh) e) ∙ z) refl }) ∙ ap shift.by e ∙ shift.low

        high_stays : (q : ℕ) → kind_at ks (q + 1) ≡ WideHigh → touches i q ≡ false → touches i (q + 1) ≡ false → kind_at new (q + 1) ≡ WideHigh
        high_stays q e h k =
            let one : q + 1 - 1 ≡ q = omega arith in
            shift.at (q + 1) (record { here = k; low = λ z. clash (same_kind WideHigh WideLow) (sym (ap (λ x. same_kind x WideLow) e) ∙ z) refl; high = λ z. subst (λ y. touches i y ≡ false) (sym one) h }) ∙ ap shift.by e ∙ shift.high

    -- to the next position, or to a target
    goes_fine : (q : ℕ) → Contains (onward i n) q → Fine q new
    goes_fine q j = record {
      reached = walk_more (successors_of b) 0 n q p.reached (step_on b n q i is j);
      alike = λ at slot to from c o kept. by at slot to from c o kept (nat_eq n at) refl;
    }
      where
        by : (at : ℕ) (slot : Slot) (to from : ℕ) → IsCopy b at slot to from → overlaps slot to from ≡ false → (IsSpoilt b at slot to from q → ⊥) → (v : Bool) → nat_eq n at ≡ v → IsAlike slot to from new
        by at slot to from c o kept true e = moves slot to from (some_same i (insn.Move slot to from) (sym is ∙ ap (insn_at b) (eqb-true n at e) ∙ c)) o
        by at slot to from c o kept false e = stays slot to from none (p.alike at slot to from c o (λ k. kept (IsSpoilt.Stays n q e k (step_on b n q i is j))))
          where
            none : (r : ℕ) → in_either slot to from r ≡ true → touches i r ≡ false
            none r z = untrue (touches i r) (λ y. touched (writes_of i r) refl y)
              where
                touched : (v : Bool) → writes_of i r ≡ v → (v || casts i r) ≡ true → ⊥
                touched true w y = kept (IsSpoilt.Written n q r i e p.reached is (and_both (in_either slot to from r) (writes_of i r) z w) j)
                touched false w y = kept (IsSpoilt.Cast n q r i p.reached is (and_both (in_either slot to from r) (casts i r) z y) (step_on b n q i is j))

    -- to a handler
    caught_fine : (q : ℕ) → Contains (caught b i n) q → Fine q ks
    caught_fine q j = record {
      reached = walk_more (successors_of b) 0 n q p.reached (step_caught b n q i is j);
      alike = λ at slot to from c o kept. by at slot to from c o kept (nat_eq n at) refl;
    }
      where
        nothing : (k : ℕ) → Contains [] k → ⊥
        nothing k c = absurd (let lt = c.1 in omega (arith, lt))

        by : (at : ℕ) (slot : Slot) (to from : ℕ) → IsCopy b at slot to from → overlaps slot to from ≡ false → (IsSpoilt b at slot to from q → ⊥) → (v : Bool) → nat_eq n at ≡ v → IsAlike slot to from ks
        by at slot to from c o kept true e = absurd (nothing q (subst (λ f. Contains (caught b f n) q) (some_same i (insn.Move slot to from) (sym is ∙ ap (insn_at b) (eqb-true n at e) ∙ c)) j))
        by at slot to from c o kept false e = p.alike at slot to from c o (λ k. kept (IsSpoilt.Stays n q e k (step_caught b n q i is j)))

    swapped : (q : ℕ) → Contains (flow.onward i n) q → Contains (onward i n) q
    swapped q c = elim (Contains-append_cases (targets_of i) (next_of n i) q c) [ inl t ↦ Contains-append_right (next_of n i) (targets_of i) q t | inr k ↦ Contains-append_left (next_of n i) (targets_of i) q k ]

    goes_all : All (λ q. P q (form_after s n i a)) (flow.onward i n)
    goes_all = All-weaker (Contains (flow.onward i n)) (λ q. P q (form_after s n i a)) (λ q c. goes_fine q (swapped q c)) (flow.onward i n) (All-contains_itself (flow.onward i n))

    caught_all : All (λ h. P h.0 (record a { caught = h.1 })) (catches s.tables.now b i n)
    caught_all = all_unmap (λ q. Fine q ks) (λ (h : ℕ × Kind). h.0) (catches s.tables.now b i n)
        (subst (All (λ q. Fine q ks)) (sym (caught_places s.tables.now b i n)) (All-weaker (Contains (caught b i n)) (λ q. Fine q ks) caught_fine (caught b i n) (All-contains_itself (caught b i n))))

  -- ---- the least typing

  same_at : (l : IsLattice s.tables.now) (j k : Kind) → Below s.tables.now j k → Below s.tables.now k j → j ≡ k
  same_at l j k p q = sym q ∙ l.swaps k j ∙ p

pub alike : (s : Setting) (b : Body) (entry : Kinds) (x : Table) → IsMeeting s.tables.now → IsNarrow s b → length entry.registers ≡ b.registers → IsLeastTyping s b entry x → (n : ℕ) (a : Kinds) → place_at x n ≡ Some a → AreAlike b n a
alike s b entry x m narrow width least n a at =
    let l = lattice_of s.tables.now m in
    let mono = monotone s m in
    let r = least_has s b entry x l mono width least (P s b m narrow) (begins s b m narrow entry) (joins_fine s b m narrow l)
    (λ k i c is w e p. onward_all s b entry x l mono width least.typing (λ (d : Edge). P s b m narrow d.0 d.1) k i c (goes_all s b m narrow k i c is w e p) (caught_all s b m narrow k i c is w e p)) n a at in
    λ place slot to from c o kept. by slot to from r.frame.registers (λ q. same_at s b m narrow l (kind_at a.registers q) (kind_at r.frame.registers q) (r.up.registers q) (r.down.registers q)) (r.has.alike place slot to from c o kept)
  where
    by : (slot : Slot) (to from : ℕ) (ks : List Kind) → ((q : ℕ) → kind_at a.registers q ≡ kind_at ks q) → IsAlike slot to from ks → IsAlike slot to from a.registers
    by slot to from ks e x = record {
      narrow = λ w. let u = x.narrow w in (e from ∙ u.0 ∙ sym (e to), ap is_half (e to) ∙ u.1);
      wide = λ w. let u = x.wide w in ((e to ∙ u.0.0, e (to + 1) ∙ u.0.1), (e from ∙ u.1.0, e (from + 1) ∙ u.1.1));
    }
