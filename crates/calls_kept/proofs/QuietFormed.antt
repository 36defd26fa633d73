-- A body that keeps the rules of bodies keeps them with nops for instructions that go on and whose results nobody takes.
use Rattle.std.proofs.Common.{◌≡◌, ℕ, zero, suc, ◌+◌, ◌-◌, ◌≤◌, Bool, true, false, true≢false, List, [], ◌∷◌, length, refl, sym, ap, ◌∙◌, subst, arith}
use Rattle.std.specs.Prelude.{◌&&◌, not, Option, Some, None, slice_get, sum_by, nat_lt, nat_le}
use Rattle.std.specs.List.{list_all, enumerate_from}
use Rattle.std.specs.Option.{option_map}
use Rattle.std.proofs.lemmas.Bool.{and_parts, and_from}
use Rattle.std.proofs.lemmas.List.Sums.{sum_by-cons}
use Rattle.insn_set.specs.Flow.{goes_on, targets_of}
use Rattle.insn_set.specs.Spelling.{is_encodable}
use Rattle.insn_set.specs.declared.form.Insn.{Insn}
use Rattle.insn_set.specs.declared.form.Insn.TheVariants as insn
use Rattle.program_model.specs.declared.body.Handler.{Handler}
use Rattle.program_model.specs.declared.body.Region.{Region}
use Rattle.program_model.specs.declared.body.Body.{Body}
use Rattle.program_model.specs.declared.program.Program.{Program}
use Rattle.program_model.specs.Neighbours.{neighbours}
use Rattle.program_model.specs.Cells.{entries_of, body_cells}
use Rattle.program_model.specs.OperandRules.{registers_fit, numbers_fit}
use Rattle.program_model.specs.RegionRules.{may_begin, handler_fits, rest_fits, catches, region_fits, are_apart, regions_fit}
use Rattle.program_model.specs.BodyRules.{ends, may_follow, follows, may_enter, targets_fit, leaves, is_caught, insn_fits, body_fits}
use Rattle.program_model.specs.Texts.{has_type}
use Rattle.calls_kept.specs.Nopped.{nop_for, nopped, body_nopped}
use Rattle.calls_kept.proofs.QuietBodies.{nop_at}

-- an instruction goes on, and what stands behind it may stand behind a nop
pub record Passes (i : Insn) (o : Option Insn) : Type 0 where
  pub onward : goes_on i ≡ true
  pub follows : (j : Insn) → o ≡ Some j → may_follow i j ≡ true → may_follow insn.Nop j ≡ true

abbrev pub AllPass : (ℕ → Bool) → ℕ → List Insn → Type 0
AllPass idle k is = (n : ℕ) (i : Insn) → slice_get is n ≡ Some i → idle (k + n) ≡ true → Passes i (slice_get is (suc n))

all_more : {A : Type 0} (f g : A → Bool) → ((x : A) → f x ≡ true → g x ≡ true) → (xs : List A) → list_all f xs ≡ true → list_all g xs ≡ true
all_more f g h [] e = refl
all_more f g h (x ∷ xs) e = let both = and_parts (f x) (list_all f xs) e in and_from (g x) (list_all g xs) (h x both.0) (all_more f g h xs both.1)

-- what is true of an instruction, and of the nop that takes its place
nop_kept : (t : Insn → Bool) (v : Bool) (i : Insn) → (v ≡ true → t insn.Nop ≡ true) → t i ≡ true → t (nop_for v i) ≡ true
nop_kept t true i nop same = nop refl
nop_kept t false i nop same = same

module _ (idle : ℕ → Bool) where
  passes_on : (i : Insn) (is : List Insn) (k : ℕ) → AllPass idle k (i ∷ is) → AllPass idle (suc k) is
  passes_on i is k h n j at on = let e : suc k + n ≡ k + suc n = omega arith in h (suc n) j at (ap idle (sym e) ∙ on)

  pub long_kept : (is : List Insn) (k : ℕ) → length (nopped idle k is) ≡ length is
  long_kept [] k = refl
  long_kept (i ∷ is) k = ap suc (long_kept is (suc k))

  -- pairs of neighbours
  pair_kept : (v w : Bool) (i j : Insn) → (v ≡ true → may_follow insn.Nop j ≡ true) → may_follow i j ≡ true → may_follow (nop_for v i) (nop_for w j) ≡ true
  pair_kept v true i j nop h = refl
  pair_kept true false i j nop h = nop refl
  pair_kept false false i j nop h = h

  pairs_kept : (is : List Insn) (k : ℕ) → AllPass idle k is → list_all follows (neighbours is) ≡ true → list_all follows (neighbours (nopped idle k is)) ≡ true
  pairs_kept [] k a h = refl
  pairs_kept (i ∷ []) k a h = refl
  pairs_kept (i ∷ (j ∷ rest)) k a h =
      let both = and_parts (may_follow i j) (list_all follows (neighbours (j ∷ rest))) h in
      let at : k ≡ k + 0 = omega arith in
      and_from (may_follow (nop_for (idle k) i) (nop_for (idle (suc k)) j)) (list_all follows (neighbours (nopped idle (suc k) (j ∷ rest))))
      (pair_kept (idle k) (idle (suc k)) i j (λ on. (a 0 i refl (ap idle (sym at) ∙ on)).follows j refl both.0) both.0)
      (pairs_kept (j ∷ rest) (suc k) (passes_on i (j ∷ rest) k a) both.1)

  module _ (p : Program) (b : Body) (all : AllPass idle 0 b.insns) where
    abbrev new : List Insn
    new = nopped idle 0 b.insns

    passes_at : (n : ℕ) (i : Insn) → slice_get b.insns n ≡ Some i → idle n ≡ true → Passes i (slice_get b.insns (suc n))
    passes_at n i at on = let e : 0 + n ≡ n = omega arith in all n i at (ap idle e ∙ on)

    -- a test of what stands at a position
    at_kept : (t : Option Insn → Bool) → ((n : ℕ) (i : Insn) → slice_get b.insns n ≡ Some i → idle n ≡ true → t (Some i) ≡ true → t (Some insn.Nop) ≡ true)
        → (n : ℕ) → t (slice_get b.insns n) ≡ true → t (slice_get new n) ≡ true
    at_kept t nop n h = by (slice_get b.insns n) refl h
      where
        by : (o : Option Insn) → slice_get b.insns n ≡ o → t o ≡ true → t (slice_get new n) ≡ true
        by None e k = ap t (nop_at idle b.insns n ∙ ap (option_map (nop_for (idle n))) e) ∙ k
        by (Some i) e k = ap t (nop_at idle b.insns n ∙ ap (option_map (nop_for (idle n))) e) ∙ one (idle n) refl
          where
            one : (v : Bool) → idle n ≡ v → t (Some (nop_for v i)) ≡ true
            one true on = nop n i e on k
            one false off = k

    begins : (n : ℕ) → may_begin (slice_get b.insns n) ≡ true → may_begin (slice_get new n) ≡ true
    begins n h = at_kept may_begin (λ n i e on k. refl) n h

    enters : (n : ℕ) → may_enter (slice_get b.insns n) ≡ true → may_enter (slice_get new n) ≡ true
    enters n h = at_kept may_enter (λ n i e on k. refl) n h

    ended : (n : ℕ) → ends (slice_get b.insns n) ≡ true → ends (slice_get new n) ≡ true
    ended n h = at_kept ends (λ n i e on k. absurd (true≢false (sym k ∙ ap not (passes_at n i e on).onward))) n h

    nop_fits : (n : ℕ) → insn_fits p (body_nopped idle b) (n, insn.Nop) ≡ true
    unfolding insn_fits registers_fit numbers_fit
    nop_fits n = refl

    still_fits : (n : ℕ) (i : Insn) → insn_fits p b (n, i) ≡ true → insn_fits p (body_nopped idle b) (n, i) ≡ true
    unfolding insn_fits
    still_fits n i h =
        let all = and_parts (is_encodable i && (registers_fit i b.registers && numbers_fit i p)) (targets_fit b.insns i && (leaves n i && is_caught b.regions n i)) h in
        let flow = and_parts (targets_fit b.insns i) (leaves n i && is_caught b.regions n i) all.1 in
        and_from _ _ all.0 (and_from _ _ (all_more (λ t. may_enter (slice_get b.insns t)) (λ t. may_enter (slice_get new t)) enters (targets_of i) flow.0) flow.1)

    all_fit : (is : List Insn) (k n : ℕ) → k ≡ n → list_all (insn_fits p b) (enumerate_from n is) ≡ true → list_all (insn_fits p (body_nopped idle b)) (enumerate_from n (nopped idle k is)) ≡ true
    all_fit [] k n e h = refl
    all_fit (i ∷ is) k n e h =
        let both = and_parts (insn_fits p b (n, i)) (list_all (insn_fits p b) (enumerate_from (n + 1) is)) h in
        let next : suc k ≡ n + 1 = omega (arith, e) in
        and_from _ _ (nop_kept (λ x. insn_fits p (body_nopped idle b) (n, x)) (idle k) i (λ on. nop_fits n) (still_fits n i both.0)) (all_fit is (suc k) (n + 1) next both.1)

    rest_kept : (o : Option ℕ) → rest_fits b.insns o ≡ true → rest_fits new o ≡ true
    rest_kept None h = refl
    rest_kept (Some n) h = begins n h

    handler_kept : (x : Handler) → handler_fits p b.insns x ≡ true → handler_fits p new x ≡ true
    handler_kept x h = let both = and_parts (has_type p x.kind) (may_begin (slice_get b.insns x.position)) h in and_from _ _ both.0 (begins x.position both.1)

    region_kept : (r : Region) → region_fits p b.insns r ≡ true → region_fits p new r ≡ true
    region_kept r h =
        let all = and_parts (nat_lt r.first r.end && nat_le r.end (length b.insns)) (catches r && (list_all (handler_fits p b.insns) r.handlers && rest_fits b.insns r.rest)) h in
        let more = and_parts (catches r) (list_all (handler_fits p b.insns) r.handlers && rest_fits b.insns r.rest) all.1 in
        let two = and_parts (list_all (handler_fits p b.insns) r.handlers) (rest_fits b.insns r.rest) more.1 in
        and_from _ _ (ap (λ n. nat_lt r.first r.end && nat_le r.end n) (long_kept b.insns 0) ∙ all.0)
        (and_from _ _ more.0 (and_from _ _ (all_more (handler_fits p b.insns) (handler_fits p new) handler_kept r.handlers two.0) (rest_kept r.rest two.1)))

    regions_kept : regions_fit p b.insns b.regions ≡ true → regions_fit p new b.regions ≡ true
    unfolding regions_fit
    regions_kept h =
        let both = and_parts (list_all (region_fits p b.insns) b.regions) (list_all are_apart (neighbours b.regions)) h in
        and_from _ _ (all_more (region_fits p b.insns) (region_fits p new) region_kept b.regions both.0) both.1

    pub body_kept : body_fits p b ≡ true → body_fits p (body_nopped idle b) ≡ true
    unfolding body_fits
    body_kept h =
        let outer = and_parts (may_begin (slice_get b.insns 0) && ends (slice_get b.insns (length b.insns - 1))) (list_all follows (neighbours b.insns) && (list_all (insn_fits p b) (enumerate_from 0 b.insns) && regions_fit p b.insns b.regions)) h in
        let edges = and_parts (may_begin (slice_get b.insns 0)) (ends (slice_get b.insns (length b.insns - 1))) outer.0 in
        let more = and_parts (list_all follows (neighbours b.insns)) (list_all (insn_fits p b) (enumerate_from 0 b.insns) && regions_fit p b.insns b.regions) outer.1 in
        let two = and_parts (list_all (insn_fits p b) (enumerate_from 0 b.insns)) (regions_fit p b.insns b.regions) more.1 in
        and_from _ _ (and_from _ _ (begins 0 edges.0) (ap (λ n. ends (slice_get new (n - 1))) (long_kept b.insns 0) ∙ ended (length b.insns - 1) edges.1))
        (and_from _ _ (pairs_kept b.insns 0 all more.0) (and_from _ _ (all_fit b.insns 0 0 refl two.0) (regions_kept two.1)))

  -- ---- cells

  entries_fall : (v : Bool) (i : Insn) → entries_of (nop_for v i) ≤ entries_of i
  entries_fall true i = omega arith
  entries_fall false i = omega arith

  all_entries_fall : (is : List Insn) (k : ℕ) → sum_by entries_of (nopped idle k is) ≤ sum_by entries_of is
  all_entries_fall [] k = omega arith
  all_entries_fall (i ∷ is) k = omega (arith, entries_fall (idle k) i, all_entries_fall is (suc k), sum_by-cons entries_of (nop_for (idle k) i) (nopped idle (suc k) is), sum_by-cons entries_of i is)

  pub cells_fall : (b : Body) → body_cells (body_nopped idle b) ≤ body_cells b
  cells_fall b = rw (long_kept b.insns 0) (omega (arith, all_entries_fall b.insns 0))
