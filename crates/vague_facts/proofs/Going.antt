-- Where instructions of a body go on: at positions of it, with registers that hold nothing past a count.
use Rattle.std.proofs.Common.{◌≡◌, ℕ, zero, suc, ◌+◌, ◌<◌, ◌≤◌, Bool, true, false, List, [], ◌∷◌, ◌++◌, length, Option, Some, None, refl, subst, arith}
use Rattle.std.specs.Prelude.{ℤ, take, ◌&&◌, nat_lt, nat_le, map, slice_get, option_to_list, Contains, if◌then◌else◌}
use Rattle.std.specs.List.{list_all}
use Rattle.std.specs.Option.{option_map}
use Rattle.std.specs.Int.{w32, w64, cast_unsigned}
use Rattle.lemmas.proofs.Bools.{and_left, and_right, clash}
use Rattle.lemmas.proofs.Lists.{got_short}
use Rattle.insn_set.specs.declared.ops.InvokeKind.{InvokeKind}
use Rattle.insn_set.specs.declared.ops.InvokeKind.TheVariants as call
use Rattle.insn_set.specs.declared.form.Insn.{Insn}
use Rattle.insn_set.specs.declared.form.Insn.TheVariants as insn
use Rattle.insn_set.specs.Flow.{throws, goes_on}
use Rattle.insn_set.specs.Widths.{is_wide_slot, is_wide_item, compares_wide, unary_reads_wide, unary_writes_wide, binary_is_wide, second_is_wide}
use Rattle.program_model.specs.OperandRules.{has_room, are_registers, registers_fit}
use Rattle.program_model.specs.Texts.{has_type}
use Rattle.program_model.specs.RegionRules.{may_begin, handler_fits, rest_fits, catches, region_fits}
use Rattle.program_model.specs.BodyRules.{may_enter, targets_fit}
use Rattle.program_model.specs.Lookups.{class_place}
use Rattle.program_model.specs.declared.body.Handler.{Handler}
use Rattle.program_model.specs.declared.body.Region.{Region}
use Rattle.program_model.specs.declared.program.Program.{Program}
use Rattle.flow_cfg.specs.Walks.{handlers_in, covers, handlers_at, thrown_to}
use Rattle.domains.specs.Values.{Parts, any_value, constant_value, wide_value}
use Rattle.value_ops.specs.Left.{goes_on as holds_on, held_value, any_object, of_class}
use Rattle.value_ops.specs.Numbers.{binary_value, literal_value, unary_value, compared_value}
use Rattle.value_ops.specs.Tests.{tested_values, keyed_value, unkeyed_value, unpacked_value, key_at}
use Rattle.dom_frame.specs.Classes.{cast_value}
use Rattle.dom_frame.specs.Registers.{Registers, value_at, put, put_wide, put_sized, moved, then_put}
use Rattle.dom_frame.specs.Steps.{truth, array_length, used, receiver, called, branched, switched, unswitched, at_key}
use Rattle.facts.specs.declared.facts.Facts.{Facts}
use Rattle.closed_facts.specs.Edges.{given, arm, cases_from, both_ways, edges}
use Rattle.vague_facts.proofs.Registers.{Short, ShortIf, put_short, refined_short, both_short, some_put, low, sized_short, then_short, some_sized, moved_short}

-- ---- positions of a body

entered_low : (is : List Insn) (t : ℕ) → may_enter (slice_get is t) ≡ true → t < length is
entered_low is t h = by (slice_get is t) refl h
  where
    by : (o : Option Insn) → slice_get is t ≡ o → may_enter o ≡ true → t < length is
    by None e k = clash false k refl
    by (Some i) e k = got_short is t i e

begun_low : (is : List Insn) (t : ℕ) → may_begin (slice_get is t) ≡ true → t < length is
begun_low is t h = by (slice_get is t) refl h
  where
    by : (o : Option Insn) → slice_get is t ≡ o → may_begin o ≡ true → t < length is
    by None e k = clash false k refl
    by (Some i) e k = got_short is t i e

-- ---- where a throw goes

module _ (p : Program) (is : List Insn) where
  abbrev EachLow : List ℕ → Type 0
  EachLow [] = Unit {0}
  EachLow (q ∷ qs) = (q < length is) × EachLow qs

  both_low : (qs rs : List ℕ) → EachLow qs → EachLow rs → EachLow (qs ++ rs)
  both_low [] rs h l = l
  both_low (q ∷ qs) rs h l = (h.0, both_low qs rs h.1 l)

  one_low : (qs : List ℕ) (q : ℕ) → EachLow qs → Contains qs q → q < length is
  one_low [] q h (j, lt, e) = absurd (omega arith)
  one_low (r ∷ rs) q h (zero, lt, e) = subst (λ q. q < length is) e h.0
  one_low (r ∷ rs) q h (suc j, lt, e) = one_low rs q h.1 (j, omega arith, e)

  handlers_low : (hs : List Handler) → list_all (handler_fits p is) hs ≡ true → EachLow (map (λ h. h.position) hs)
  handlers_low [] h = tt
  handlers_low (x ∷ xs) h =
      let one = and_right (has_type p x.kind) (may_begin (slice_get is x.position)) (and_left (handler_fits p is x) (list_all (handler_fits p is) xs) h) in
      (begun_low is x.position one, handlers_low xs (and_right (handler_fits p is x) (list_all (handler_fits p is) xs) h))

  rest_low : (o : Option ℕ) → rest_fits is o ≡ true → EachLow (option_to_list o)
  rest_low None h = tt
  rest_low (Some q) h = (begun_low is q h, tt)

  region_low : (r : Region) → region_fits p is r ≡ true → EachLow (handlers_in r)
  region_low r h =
      let ways = and_right (catches r) (list_all (handler_fits p is) r.handlers && rest_fits is r.rest)
      (and_right (nat_lt r.first r.end && nat_le r.end (length is)) (catches r && (list_all (handler_fits p is) r.handlers && rest_fits is r.rest)) h) in
      both_low (map (λ h. h.position) r.handlers) (option_to_list r.rest) (handlers_low r.handlers (and_left (list_all (handler_fits p is) r.handlers) (rest_fits is r.rest) ways))
      (rest_low r.rest (and_right (list_all (handler_fits p is) r.handlers) (rest_fits is r.rest) ways))

  found_low : (rs : List Region) (n : ℕ) → list_all (region_fits p is) rs ≡ true → EachLow (handlers_at rs n)
  found_low [] n h = tt
  found_low (r ∷ rs) n h = by (region_low r (and_left (region_fits p is r) (list_all (region_fits p is) rs) h)) (found_low rs n (and_right (region_fits p is r) (list_all (region_fits p is) rs) h)) (covers n r)
    where
      by : EachLow (handlers_in r) → EachLow (handlers_at rs n) → (b : Bool) → EachLow (if b then handlers_in r else handlers_at rs n)
      by own others true = own
      by own others false = others

  pub thrown_low : (rs : List Region) (n : ℕ) (i : Insn) (q : ℕ) → list_all (region_fits p is) rs ≡ true → Contains (thrown_to rs n i) q → q < length is
  thrown_low rs n i q h c = one_low (thrown_to rs n i) q (by (throws i)) c
    where
      by : (b : Bool) → EachLow (if b then handlers_at rs n else [])
      by true = found_low rs n h
      by false = tt

-- ---- where an instruction goes that doesn't throw

module _ (p : Program) (t : Facts) (size count : ℕ) (some : 1 ≤ size) (fits : count ≤ size) (is : List Insn) where
  abbrev IsGood : ℕ × Registers → Type 0
  IsGood q = (q.0 < length is) × Short size q.1

  abbrev AllGood : List (ℕ × Registers) → Type 0
  AllGood [] = Unit {0}
  AllGood (q ∷ qs) = IsGood q × AllGood qs

  good_both : (qs rs : List (ℕ × Registers)) → AllGood qs → AllGood rs → AllGood (qs ++ rs)
  good_both [] rs h l = l
  good_both (q ∷ qs) rs h l = (h.0, good_both qs rs h.1 l)

  one_good : (qs : List (ℕ × Registers)) (q : ℕ × Registers) → AllGood qs → Contains qs q → IsGood q
  one_good [] q h (j, lt, e) = absurd (omega arith)
  one_good (r ∷ rs) q h (zero, lt, e) = subst IsGood e h.0
  one_good (r ∷ rs) q h (suc j, lt, e) = one_good rs q h.1 (j, omega arith, e)

  arm_good : (q : ℕ) (o : Option Registers) → q < length is → ShortIf size o → AllGood (arm q o)
  arm_good q None l h = tt
  arm_good q (Some x) l h = ((l, h), tt)

  fit : (r : ℕ) → nat_lt r count ≡ true → r < size
  fit = low size count fits

  used_good : (r : ℕ) (x : Registers) → r < size → Short size x → ShortIf size (used r x)
  used_good r x l h = refined_short size r (holds_on (held_value (value_at x r))) x l h

  receiver_low : (args : List ℕ) → are_registers args count ≡ true → receiver args < size
  receiver_low [] h = omega (arith, some)
  receiver_low (r ∷ rs) h = fit r (and_left (nat_lt r count) (list_all (λ r. nat_lt r count) rs) h)

  called_good : (kind : InvokeKind) (args : List ℕ) (x : Registers) → are_registers args count ≡ true → Short size x → ShortIf size (called kind args x)
  called_good call.Static args x h s = s
  called_good call.Virtual args x h s = used_good (receiver args) x (receiver_low args h) s
  called_good call.Super args x h s = used_good (receiver args) x (receiver_low args h) s
  called_good call.Direct args x h s = used_good (receiver args) x (receiver_low args h) s
  called_good call.Interface args x h s = used_good (receiver args) x (receiver_low args h) s

  key_good : (on : ℕ) (o : Option ℤ) (x : Registers) → on < size → Short size x → ShortIf size (at_key on o x)
  key_good on None x l s = tt
  key_good on (Some key) x l s = refined_short size on (keyed_value key (value_at x on)) x l s

  cases_good : (place : ℕ) (i : Insn) (targets : List ℕ) (x : Registers) → ((j : ℕ) → ShortIf size (switched j i x)) → list_all (λ t. may_enter (slice_get is t)) targets ≡ true → AllGood (cases_from place i targets x)
  cases_good place i [] x h e = tt
  cases_good place i (t ∷ ts) x h e = good_both (arm t (switched place i x)) (cases_from (place + 1) i ts x)
      (arm_good t (switched place i x) (entered_low is t (and_left (may_enter (slice_get is t)) (list_all (λ t. may_enter (slice_get is t)) ts) e)) (h place))
      (cases_good (place + 1) i ts x h (and_right (may_enter (slice_get is t)) (list_all (λ t. may_enter (slice_get is t)) ts) e))

  only_target : (t : ℕ) → list_all (λ t. may_enter (slice_get is t)) (t ∷ []) ≡ true → t < length is
  only_target t e = entered_low is t (and_left (may_enter (slice_get is t)) true e)

  module _ (n : ℕ) (x : Registers) (s : Short size x) where
    on : (o : Option Registers) → n + 1 < length is → ShortIf size o → AllGood (arm (n + 1) o)
    on o l h = arm_good (n + 1) o l h

    -- a register is written
    puts : (to : ℕ) (v : Parts) → n + 1 < length is → nat_lt to count ≡ true → AllGood (arm (n + 1) (Some (put to v x)))
    puts to v l h = on (Some (put to v x)) l (put_short size to v x (fit to h) s)

    uses : (r : ℕ) → n + 1 < length is → nat_lt r count ≡ true → AllGood (arm (n + 1) (used r x))
    uses r l h = on (used r x) l (used_good r x (fit r h) s)

    ways : (i : Insn) (target : ℕ) → n + 1 < length is → target < length is → ShortIf size (branched false i x) → ShortIf size (branched true i x) → AllGood (both_ways n i target x)
    ways i target l m h k = good_both (arm (n + 1) (branched false i x)) (arm target (branched true i x)) (on (branched false i x) l h) (arm_good target (branched true i x) m k)

    goes : (i : Insn) → registers_fit i count ≡ true → targets_fit is i ≡ true → (goes_on i ≡ true → n + 1 < length is) → AllGood (edges p t n i x)
    unfolding registers_fit
    goes insn.Nop r f l = on (Some x) (l refl) s
    goes (insn.Move slot to from) r f l = on (Some (moved slot to from x)) (l refl) (moved_short size count fits slot to from x (and_left (has_room (is_wide_slot slot) to count) (has_room (is_wide_slot slot) from count) r) s)
    goes (insn.MoveResult slot to) r f l = tt
    goes (insn.MoveException to) r f l = puts to any_object (l refl) r
    goes insn.ReturnVoid r f l = tt
    goes (insn.Return slot from) r f l = tt
    goes (insn.Const to value) r f l = puts to (constant_value (cast_unsigned w32 value)) (l refl) r
    goes (insn.ConstWide to value) r f l = on (Some (put_wide to (wide_value (cast_unsigned w64 value)) x)) (l refl) (sized_short size count fits true to (wide_value (cast_unsigned w64 value)) x r s)
    goes (insn.ConstString to string) r f l = puts to any_object (l refl) r
    goes (insn.ConstClass to kind) r f l = puts to any_object (l refl) r
    goes (insn.MonitorEnter on) r f l = uses on (l refl) r
    goes (insn.MonitorExit on) r f l = uses on (l refl) r
    goes (insn.CheckCast on kind) r f l = puts on (cast_value p kind (value_at x on)) (l refl) r
    goes (insn.InstanceOf to from kind) r f l = puts to truth (l refl) (and_left (nat_lt to count) (nat_lt from count) r)
    goes (insn.ArrayLength to from) r f l = on (then_put false to array_length (used from x)) (l refl)
        (then_short size count fits false to array_length (used from x) (and_left (nat_lt to count) (nat_lt from count) r) (used_good from x (fit from (and_right (nat_lt to count) (nat_lt from count) r)) s))
    goes (insn.NewInstance to kind) r f l = puts to (of_class (class_place p kind)) (l refl) r
    goes (insn.NewArray to size kind) r f l = puts to (of_class (class_place p kind)) (l refl) (and_left (nat_lt to count) (nat_lt size count) r)
    goes (insn.FilledNewArray kind args) r f l = on (Some x) (l refl) s
    goes (insn.FillArray on width items) r f l = uses on (l refl) r
    goes (insn.Throw on) r f l = tt
    goes (insn.Goto target) r f l = ((only_target target f, s), tt)
    goes (insn.PackedSwitch reg first targets) r f l = good_both (arm (n + 1) (unswitched (insn.PackedSwitch reg first targets) x)) (cases_from 0 (insn.PackedSwitch reg first targets) targets x)
        (on (unswitched (insn.PackedSwitch reg first targets) x) (l refl) (refined_short size reg (unpacked_value first (length targets) (value_at x reg)) x (fit reg r) s))
        (cases_good 0 (insn.PackedSwitch reg first targets) targets x (λ j. key_good reg (Some (key_at first j)) x (fit reg r) s) f)
    goes (insn.SparseSwitch reg keys targets) r f l = good_both (arm (n + 1) (unswitched (insn.SparseSwitch reg keys targets) x)) (cases_from 0 (insn.SparseSwitch reg keys targets) targets x)
        (on (unswitched (insn.SparseSwitch reg keys targets) x) (l refl) (refined_short size reg (unkeyed_value (take (length targets) keys) (value_at x reg)) x (fit reg r) s))
        (cases_good 0 (insn.SparseSwitch reg keys targets) targets x (λ j. key_good reg (slice_get keys j) x (fit reg r) s) f)
    goes (insn.Cmp op to a b) r f l = puts to (compared_value op (value_at x a) (value_at x b)) (l refl) (and_left (nat_lt to count) (has_room (compares_wide op) a count && has_room (compares_wide op) b count) r)
    goes (insn.If test a b target) r f l =
        let first = fit a (and_left (nat_lt a count) (nat_lt b count) r) in
        let second = fit b (and_right (nat_lt a count) (nat_lt b count) r) in
        ways (insn.If test a b target) target (l refl) (only_target target f) (both_short size a b (tested_values false test (value_at x a) (value_at x b)) x first second s)
        (both_short size a b (tested_values true test (value_at x a) (value_at x b)) x first second s)
    goes (insn.IfZero test a target) r f l = ways (insn.IfZero test a target) target (l refl) (only_target target f)
        (refined_short size a (option_map (λ v. v.0) (tested_values false test (value_at x a) (constant_value 0))) x (fit a r) s)
        (refined_short size a (option_map (λ v. v.0) (tested_values true test (value_at x a) (constant_value 0))) x (fit a r) s)
    goes (insn.ArrayGet item to array index) r f l = on (then_put (is_wide_item item) to any_value (used array x)) (l refl)
        (let h = and_left (nat_lt array count) (nat_lt index count) (and_right (has_room (is_wide_item item) to count) (nat_lt array count && nat_lt index count) r) in
        then_short size count fits (is_wide_item item) to any_value (used array x) (and_left (has_room (is_wide_item item) to count) (nat_lt array count && nat_lt index count) r) (used_good array x (fit array h) s))
    goes (insn.ArrayPut item from array index) r f l = uses array (l refl) (and_left (nat_lt array count) (nat_lt index count) (and_right (has_room (is_wide_item item) from count) (nat_lt array count && nat_lt index count) r))
    goes (insn.InstanceGet item to reg field) r f l = on (then_put (is_wide_item item) to (given p t (insn.InstanceGet item to reg field)) (used reg x)) (l refl)
        (then_short size count fits (is_wide_item item) to (given p t (insn.InstanceGet item to reg field)) (used reg x) (and_left (has_room (is_wide_item item) to count) (nat_lt reg count) r)
        (used_good reg x (fit reg (and_right (has_room (is_wide_item item) to count) (nat_lt reg count) r)) s))
    goes (insn.InstancePut item from reg field) r f l = uses reg (l refl) (and_right (has_room (is_wide_item item) from count) (nat_lt reg count) r)
    goes (insn.StaticGet item to field) r f l = on (Some (put_sized (is_wide_item item) to (given p t (insn.StaticGet item to field)) x)) (l refl)
        (sized_short size count fits (is_wide_item item) to (given p t (insn.StaticGet item to field)) x r s)
    goes (insn.StaticPut item from field) r f l = on (Some x) (l refl) s
    goes (insn.Invoke kind method args) r f l = on (called kind args x) (l refl) (called_good kind args x r s)
    goes (insn.Unary op to from) r f l = on (Some (put_sized (unary_writes_wide op) to (unary_value op (value_at x from)) x)) (l refl)
        (sized_short size count fits (unary_writes_wide op) to (unary_value op (value_at x from)) x (and_left (has_room (unary_writes_wide op) to count) (has_room (unary_reads_wide op) from count) r) s)
    goes (insn.Binary op to a b) r f l = on (option_map (λ v. put_sized (binary_is_wide op) to v x) (binary_value op (value_at x a) (value_at x b))) (l refl)
        (some_sized size count fits (binary_is_wide op) to (binary_value op (value_at x a) (value_at x b)) x (and_left (has_room (binary_is_wide op) to count) (has_room (binary_is_wide op) a count && has_room (second_is_wide op) b count) r) s)
    goes (insn.Literal op to a value) r f l = on (option_map (λ v. put to v x) (literal_value op (value_at x a) value)) (l refl)
        (some_put size to (literal_value op (value_at x a) value) x (fit to (and_left (nat_lt to count) (nat_lt a count) r)) s)

  pub edge_good : (n : ℕ) (x : Registers) (i : Insn) (q : ℕ × Registers) → Short size x → registers_fit i count ≡ true → targets_fit is i ≡ true → (goes_on i ≡ true → n + 1 < length is) → Contains (edges p t n i x) q → IsGood q
  edge_good n x i q s r f l c = one_good (edges p t n i x) q (goes n x s i r f l) c
