-- Code in which calls became other calls keeps the rules of bodies.
use Rattle.std.proofs.Common.{◌≡◌, ℕ, ◌+◌, ◌*◌, Bool, true, List, [], ◌∷◌, length, map, Option, Some, None, refl, ap, ap₂, ◌∙◌}
use Rattle.std.specs.Prelude.{◌&&◌, ◌-◌, not, nat_le, nat_lt, slice_get}
use Rattle.std.specs.List.{list_all, enumerate_from}
use Rattle.std.specs.Option.{option_map}
use Rattle.lemmas.proofs.Bools.{and_left, and_right, and_both}
use Rattle.lemmas.proofs.Lists.{get_map, map_long}
use Rattle.insn_set.specs.Flow.{goes_on, targets_of}
use Rattle.insn_set.specs.Spelling.{is_encodable}
use Rattle.insn_set.specs.declared.form.Insn.{Insn}
use Rattle.insn_set.specs.declared.form.Insn.TheVariants as insn
use Rattle.insn_set.specs.declared.ops.InvokeKind.{InvokeKind}
use Rattle.insn_set.specs.declared.ops.InvokeKind.TheVariants as call
use Rattle.program_model.specs.BodyRules.{body_fits, ends, follows, has_result, insn_fits, is_caught, leaves, may_enter, may_follow, targets_fit}
use Rattle.program_model.specs.Cells.{body_cells, entries_of}
use Rattle.program_model.specs.Neighbours.{neighbours}
use Rattle.program_model.specs.OperandRules.{numbers_fit, registers_fit}
use Rattle.program_model.specs.ProgramRules.{is_well_formed}
use Rattle.program_model.specs.RegionRules.{are_apart, catches, handler_fits, may_begin, region_fits, regions_fit, rest_fits}
use Rattle.program_model.specs.Texts.{has_method}
use Rattle.program_model.specs.declared.body.Body.{Body}
use Rattle.program_model.specs.declared.body.Handler.{Handler}
use Rattle.program_model.specs.declared.body.Region.{Region}
use Rattle.program_model.specs.declared.program.Program.{Program}
use Rattle.staticise.specs.Loosened.{body_loosened, insn_loosened, target_of}
use Rattle.static_kept.proofs.Extended.{Extends, field_same, method_same, string_kept, type_same}
use Rattle.static_kept.proofs.Lists.{sum_map}

-- a call becomes a call of a method of the table with the same registers, and everything else stays
pub data Turned (q : Program) : Insn → Insn → Type 0 where
  Called : (kind new : InvokeKind) (method target : ℕ) (args : List ℕ) → has_method q target ≡ true → Turned q (insn.Invoke kind method args) (insn.Invoke new target args)
  Stays : (i : Insn) → Turned q i i

module _ (q : Program) where
  same_targets : (i j : Insn) → Turned q i j → targets_of j ≡ targets_of i
  same_targets _ _ (Called kind new method target args h) = refl
  same_targets _ _ (Stays i) = refl

  same_onward : (i j : Insn) → Turned q i j → goes_on j ≡ goes_on i
  same_onward _ _ (Called kind new method target args h) = refl
  same_onward _ _ (Stays i) = refl

  same_result : (i j : Insn) → Turned q i j → has_result j ≡ has_result i
  same_result _ _ (Called kind new method target args h) = refl
  same_result _ _ (Stays i) = refl

  same_begin : (i j : Insn) → Turned q i j → may_begin (Some j) ≡ may_begin (Some i)
  same_begin _ _ (Called kind new method target args h) = refl
  same_begin _ _ (Stays i) = refl

  same_enter : (i j : Insn) → Turned q i j → may_enter (Some j) ≡ may_enter (Some i)
  same_enter _ _ (Called kind new method target args h) = refl
  same_enter _ _ (Stays i) = refl

  same_leaves : (k : ℕ) (i j : Insn) → Turned q i j → leaves k j ≡ leaves k i
  same_leaves k _ _ (Called kind new method target args h) = refl
  same_leaves k _ _ (Stays i) = refl

  same_caught : (rs : List Region) (k : ℕ) (i j : Insn) → Turned q i j → is_caught rs k j ≡ is_caught rs k i
  same_caught rs k _ _ (Called kind new method target args h) = refl
  same_caught rs k _ _ (Stays i) = refl

  pub same_entries : (i j : Insn) → Turned q i j → entries_of j ≡ entries_of i
  same_entries _ _ (Called kind new method target args h) = refl
  same_entries _ _ (Stays i) = refl

  same_spelling : (i j : Insn) → Turned q i j → is_encodable j ≡ is_encodable i
  same_spelling _ _ (Called kind new method target args h) = refl
  same_spelling _ _ (Stays i) = refl

  same_registers : (n : ℕ) (i j : Insn) → Turned q i j → registers_fit j n ≡ registers_fit i n
  unfolding registers_fit
  same_registers n _ _ (Called kind new method target args h) = refl
  same_registers n _ _ (Stays i) = refl

  -- a pair that follows does so with other calls
  same_follow : (i x j y : Insn) → Turned q i x → Turned q j y → may_follow x y ≡ may_follow i j
  same_follow i x _ _ t (Called kind new method target args h) = refl
  same_follow i x _ _ t (Stays j) = by j
    where
      by : (j : Insn) → may_follow x j ≡ may_follow i j
      by (insn.MoveResult slot to) = same_result i x t
      by (insn.MoveException to) = ap not (same_onward i x t)
      by insn.Nop = refl
      by j = refl

module _ (p q : Program) (wf : is_well_formed p ≡ true) (e : Extends p q) where
  numbers_stay : (i : Insn) → numbers_fit i p ≡ true → numbers_fit i q ≡ true
  unfolding numbers_fit
  numbers_stay (insn.ConstString to string) h = string_kept p q wf e string h
  numbers_stay (insn.ConstClass to kind) h = type_same p q wf e kind ∙ h
  numbers_stay (insn.CheckCast on kind) h = type_same p q wf e kind ∙ h
  numbers_stay (insn.InstanceOf to from kind) h = type_same p q wf e kind ∙ h
  numbers_stay (insn.NewInstance to kind) h = type_same p q wf e kind ∙ h
  numbers_stay (insn.NewArray to size kind) h = type_same p q wf e kind ∙ h
  numbers_stay (insn.FilledNewArray kind args) h = type_same p q wf e kind ∙ h
  numbers_stay (insn.InstanceGet item to on field) h = field_same p q wf e field ∙ h
  numbers_stay (insn.InstancePut item from on field) h = field_same p q wf e field ∙ h
  numbers_stay (insn.StaticGet item to field) h = field_same p q wf e field ∙ h
  numbers_stay (insn.StaticPut item from field) h = field_same p q wf e field ∙ h
  numbers_stay (insn.Invoke kind method args) h = method_same p q wf e method ∙ h
  numbers_stay insn.Nop h = refl
  numbers_stay i h = refl

  numbers_kept : (i j : Insn) → Turned q i j → numbers_fit i p ≡ true → numbers_fit j q ≡ true
  unfolding numbers_fit
  numbers_kept _ _ (Called kind new method target args t) h = t
  numbers_kept _ _ (Stays i) h = numbers_stay i h

module _ (p q : Program) (wf : is_well_formed p ≡ true) (e : Extends p q) (given : List (Option ℕ)) (inside : (n t : ℕ) → target_of p given n ≡ Some t → has_method q t ≡ true) where
  abbrev edit : Insn → Insn
  edit = insn_loosened p given

  pub turned : (i : Insn) → Turned q i (insn_loosened p given i)
  turned (insn.Invoke kind method args) = by (target_of p given method) refl
    where
      by : (o : Option ℕ) → target_of p given method ≡ o → Turned q (insn.Invoke kind method args) (elim o as (λ o. Insn) [ Some target ↦ insn.Invoke call.Static target args | None ↦ insn.Invoke kind method args ])
      by None f = Stays (insn.Invoke kind method args)
      by (Some t) f = Called kind call.Static method t args (inside method t f)
  turned i = Stays i

  begins_at : (is : List Insn) (n : ℕ) → may_begin (slice_get (map edit is) n) ≡ may_begin (slice_get is n)
  begins_at is n = ap may_begin (get_map edit is n) ∙ by (slice_get is n)
    where
      by : (o : Option Insn) → may_begin (option_map edit o) ≡ may_begin o
      by None = refl
      by (Some i) = same_begin q i (edit i) (turned i)

  enters_at : (is : List Insn) (n : ℕ) → may_enter (slice_get (map edit is) n) ≡ may_enter (slice_get is n)
  enters_at is n = ap may_enter (get_map edit is n) ∙ by (slice_get is n)
    where
      by : (o : Option Insn) → may_enter (option_map edit o) ≡ may_enter o
      by None = refl
      by (Some i) = same_enter q i (edit i) (turned i)

  ends_at : (is : List Insn) (n : ℕ) → ends (slice_get (map edit is) n) ≡ ends (slice_get is n)
  ends_at is n = ap ends (get_map edit is n) ∙ by (slice_get is n)
    where
      by : (o : Option Insn) → ends (option_map edit o) ≡ ends o
      by None = refl
      by (Some i) = ap not (same_onward q i (edit i) (turned i))

  follow_all : (is : List Insn) → list_all follows (neighbours (map edit is)) ≡ list_all follows (neighbours is)
  follow_all [] = refl
  follow_all (i ∷ []) = refl
  follow_all (i ∷ j ∷ is) = ap₂ (λ a b. a && b) (same_follow q i (edit i) j (edit j) (turned i) (turned j)) (follow_all (j ∷ is))

  all_alike : {A : Type 0} (f g : A → Bool) → ((x : A) → f x ≡ g x) → (xs : List A) → list_all f xs ≡ list_all g xs
  all_alike f g h [] = refl
  all_alike f g h (x ∷ xs) = ap₂ (λ a b. a && b) (h x) (all_alike f g h xs)

  module _ (b : Body) where
    targets_there : (i : Insn) → targets_fit (map edit b.insns) (edit i) ≡ targets_fit b.insns i
    targets_there i =
        ap (list_all (λ t. may_enter (slice_get (map edit b.insns) t))) (same_targets q i (edit i) (turned i))
        ∙ all_alike (λ t. may_enter (slice_get (map edit b.insns) t)) (λ t. may_enter (slice_get b.insns t)) (enters_at b.insns) (targets_of i)

    one_fits : (k : ℕ) (i : Insn) → insn_fits p b (k, i) ≡ true → insn_fits q (body_loosened p given b) (k, edit i) ≡ true
    unfolding insn_fits
    one_fits k i h =
        let j = edit i in
        let t = turned i in
        let operands = and_left (is_encodable i && (registers_fit i b.registers && numbers_fit i p)) (targets_fit b.insns i && (leaves k i && is_caught b.regions k i)) h in
        let places = and_right (is_encodable i && (registers_fit i b.registers && numbers_fit i p)) (targets_fit b.insns i && (leaves k i && is_caught b.regions k i)) h in
        let numbers = and_right (is_encodable i) (registers_fit i b.registers && numbers_fit i p) operands in
        let ways = and_right (targets_fit b.insns i) (leaves k i && is_caught b.regions k i) places in
        and_both (is_encodable j && (registers_fit j b.registers && numbers_fit j q)) (targets_fit (map edit b.insns) j && (leaves k j && is_caught b.regions k j))
        (and_both (is_encodable j) (registers_fit j b.registers && numbers_fit j q) (same_spelling q i j t ∙ and_left (is_encodable i) (registers_fit i b.registers && numbers_fit i p) operands)
        (and_both (registers_fit j b.registers) (numbers_fit j q) (same_registers q b.registers i j t ∙ and_left (registers_fit i b.registers) (numbers_fit i p) numbers)
        (numbers_kept p q wf e i j t (and_right (registers_fit i b.registers) (numbers_fit i p) numbers))))
        (and_both (targets_fit (map edit b.insns) j) (leaves k j && is_caught b.regions k j) (targets_there i ∙ and_left (targets_fit b.insns i) (leaves k i && is_caught b.regions k i) places)
        (and_both (leaves k j) (is_caught b.regions k j) (same_leaves q k i j t ∙ and_left (leaves k i) (is_caught b.regions k i) ways)
        (same_caught q b.regions k i j t ∙ and_right (leaves k i) (is_caught b.regions k i) ways)))

    all_fit : (k : ℕ) (is : List Insn) → list_all (insn_fits p b) (enumerate_from k is) ≡ true → list_all (insn_fits q (body_loosened p given b)) (enumerate_from k (map edit is)) ≡ true
    all_fit k [] h = refl
    all_fit k (i ∷ is) h = and_both (insn_fits q (body_loosened p given b) (k, edit i)) (list_all (insn_fits q (body_loosened p given b)) (enumerate_from (k + 1) (map edit is)))
        (one_fits k i (and_left (insn_fits p b (k, i)) (list_all (insn_fits p b) (enumerate_from (k + 1) is)) h))
        (all_fit (k + 1) is (and_right (insn_fits p b (k, i)) (list_all (insn_fits p b) (enumerate_from (k + 1) is)) h))

    -- ---- regions

    handler_same : (h : Handler) → handler_fits q (map edit b.insns) h ≡ handler_fits p b.insns h
    handler_same h = ap₂ (λ a c. a && c) (type_same p q wf e h.kind) (begins_at b.insns h.position)

    rest_same : (o : Option ℕ) → rest_fits (map edit b.insns) o ≡ rest_fits b.insns o
    rest_same None = refl
    rest_same (Some n) = begins_at b.insns n

    region_same : (x : Region) → region_fits q (map edit b.insns) x ≡ region_fits p b.insns x
    region_same x = ap₂ (λ a c. (nat_lt x.first x.end && nat_le x.end a) && (catches x && c)) (map_long edit b.insns)
        (ap₂ (λ a c. a && c) (all_alike (handler_fits q (map edit b.insns)) (handler_fits p b.insns) handler_same x.handlers) (rest_same x.rest))

    regions_same : regions_fit q (map edit b.insns) b.regions ≡ regions_fit p b.insns b.regions
    unfolding regions_fit
    regions_same = ap (λ x. x && list_all are_apart (neighbours b.regions)) (all_alike (region_fits q (map edit b.insns)) (region_fits p b.insns) region_same b.regions)

    -- ---- the body

    last_same : ends (slice_get (map edit b.insns) (length (map edit b.insns) - 1)) ≡ ends (slice_get b.insns (length b.insns - 1))
    last_same = ends_at b.insns (length (map edit b.insns) - 1) ∙ ap (λ n. ends (slice_get b.insns (n - 1))) (map_long edit b.insns)

    pub body_kept : body_fits p b ≡ true → body_fits q (body_loosened p given b) ≡ true
    unfolding body_fits
    body_kept h =
        let outer = and_left (may_begin (slice_get b.insns 0) && ends (slice_get b.insns (length b.insns - 1))) (list_all follows (neighbours b.insns) && (list_all (insn_fits p b) (enumerate_from 0 b.insns) && regions_fit p b.insns b.regions)) h in
        let inner = and_right (may_begin (slice_get b.insns 0) && ends (slice_get b.insns (length b.insns - 1))) (list_all follows (neighbours b.insns) && (list_all (insn_fits p b) (enumerate_from 0 b.insns) && regions_fit p b.insns b.regions)) h in
        let rest = and_right (list_all follows (neighbours b.insns)) (list_all (insn_fits p b) (enumerate_from 0 b.insns) && regions_fit p b.insns b.regions) inner in
        let is = map edit b.insns in
        and_both (may_begin (slice_get is 0) && ends (slice_get is (length is - 1))) (list_all follows (neighbours is) && (list_all (insn_fits q (body_loosened p given b)) (enumerate_from 0 is) && regions_fit q is b.regions))
        (ap₂ (λ x y. x && y) (begins_at b.insns 0) last_same ∙ outer)
        (and_both (list_all follows (neighbours is)) (list_all (insn_fits q (body_loosened p given b)) (enumerate_from 0 is) && regions_fit q is b.regions)
        (follow_all b.insns ∙ and_left (list_all follows (neighbours b.insns)) (list_all (insn_fits p b) (enumerate_from 0 b.insns) && regions_fit p b.insns b.regions) inner)
        (and_both (list_all (insn_fits q (body_loosened p given b)) (enumerate_from 0 is)) (regions_fit q is b.regions)
        (all_fit 0 b.insns (and_left (list_all (insn_fits p b) (enumerate_from 0 b.insns)) (regions_fit p b.insns b.regions) rest))
        (regions_same ∙ and_right (list_all (insn_fits p b) (enumerate_from 0 b.insns)) (regions_fit p b.insns b.regions) rest)))

    pub cells_same : body_cells (body_loosened p given b) ≡ body_cells b
    cells_same = ap₂ (λ l s. (b.registers + 1) * l + s) (map_long edit b.insns) (sum_map edit entries_of entries_of (λ i. same_entries q i (edit i) (turned i)) b.insns)
