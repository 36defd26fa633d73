-- A body with other registers keeps the rules of bodies.
use Rattle.std.proofs.Common.{◌≡◌, ℕ, zero, suc, ◌+◌, ◌*◌, ◌≤◌, Bool, true, List, [], ◌∷◌, length, refl, sym, ap, ap₂, ◌∙◌, subst, arith}
use Rattle.std.specs.Prelude.{◌&&◌, ◌||◌, not, nat_eq, nat_lt, nat_le, Option, Some, None, is_some, slice_get, ◌-◌, sum_by}
use Rattle.std.specs.List.{list_all, enumerate_from}
use Rattle.std.proofs.lemmas.Nat.{mul-le}
use Rattle.lemmas.proofs.Bools.{and_right}
use Rattle.insn_set.specs.Flow.{goes_on, targets_of}
use Rattle.insn_set.specs.Spelling.{is_encodable}
use Rattle.insn_set.specs.declared.form.Insn.{Insn}
use Rattle.program_model.specs.Neighbours.{neighbours}
use Rattle.program_model.specs.Texts.{has_type}
use Rattle.program_model.specs.BodyRules.{ends, follows, may_follow, may_enter, targets_fit, leaves, is_caught, insn_fits, body_fits}
use Rattle.program_model.specs.OperandRules.{registers_fit, numbers_fit}
use Rattle.program_model.specs.RegionRules.{may_begin, handler_fits, rest_fits, catches, region_fits, are_apart, regions_fit}
use Rattle.program_model.specs.Cells.{entries_of, body_cells}
use Rattle.program_model.specs.declared.body.Body.{Body}
use Rattle.program_model.specs.declared.body.Handler.{Handler}
use Rattle.program_model.specs.declared.body.Region.{Region}
use Rattle.program_model.specs.declared.program.Program.{Program}
use Rattle.program_laws.proofs.ChangedLists.{and_left, and_both}
use Rattle.program_laws.specs.Others.{Pairwise}
use Rattle.thin_laws.proofs.Pairs.{length_pairs, order_pairs, sum_pairs}
use Rattle.thin_laws.specs.Rewritten.{IsRewritten, RewritesBody}
use Rattle.thin_laws.proofs.Shapes.{same_targets, same_goes_on, same_begin, same_enter, same_leaves, same_caught, same_entries, same_numbers, same_follow}

-- a test of what stands at a place says the same of items that are related one by one
module _ {A : Type 0} (R : A → A → Type 0) (test : Option A → Bool) (same : (x y : A) → R x y → test (Some y) ≡ test (Some x)) where
  pub got_pairs : (xs ys : List A) → Pairwise R xs ys → (n : ℕ) → test (slice_get ys n) ≡ test (slice_get xs n)
  got_pairs [] [] r n = refl
  got_pairs [] (y ∷ ys) r n = absurd r
  got_pairs (x ∷ xs) [] r n = absurd r
  got_pairs (x ∷ xs) (y ∷ ys) r zero = same x y r.0
  got_pairs (x ∷ xs) (y ∷ ys) r (suc n) = got_pairs xs ys r.1 n

all_alike : {A : Type 0} (f g : A → Bool) → ((x : A) → f x ≡ g x) → (xs : List A) → list_all f xs ≡ list_all g xs
all_alike f g h [] = refl
all_alike f g h (x ∷ xs) = ap₂ (λ a b. a && b) (h x) (all_alike f g h xs)

same_count : (a b : ℕ) → a ≡ b → b ≤ a
same_count a b e = omega (arith, e)

module _ (p : Program) (b d : Body) (r : RewritesBody b d) where
  abbrev R : Insn → Insn → Type 0
  R = IsRewritten b.registers d.registers

  begin_pair : (i j : Insn) → R i j → may_begin (Some j) ≡ may_begin (Some i)
  begin_pair i j h = ap (λ x. may_begin (Some x)) h.form ∙ same_begin h.reads h.writes i

  enter_pair : (i j : Insn) → R i j → may_enter (Some j) ≡ may_enter (Some i)
  enter_pair i j h = ap (λ x. may_enter (Some x)) h.form ∙ same_enter h.reads h.writes i

  end_pair : (i j : Insn) → R i j → ends (Some j) ≡ ends (Some i)
  end_pair i j h = ap not (ap (λ x. goes_on x) h.form ∙ same_goes_on h.reads h.writes i)

  pub same_long : length d.insns ≡ length b.insns
  same_long = length_pairs R b.insns d.insns r.insns

  begins_at : (n : ℕ) → may_begin (slice_get d.insns n) ≡ may_begin (slice_get b.insns n)
  begins_at n = got_pairs R may_begin begin_pair b.insns d.insns r.insns n

  enters_at : (n : ℕ) → may_enter (slice_get d.insns n) ≡ may_enter (slice_get b.insns n)
  enters_at n = got_pairs R may_enter enter_pair b.insns d.insns r.insns n

  ends_same : ends (slice_get d.insns (length d.insns - 1)) ≡ ends (slice_get b.insns (length b.insns - 1))
  ends_same = got_pairs R ends end_pair b.insns d.insns r.insns (length d.insns - 1) ∙ ap (λ n. ends (slice_get b.insns (n - 1))) same_long

  -- ---- instructions

  follow_pair : (i j x y : Insn) → R i x → R j y → follows (x, y) ≡ follows (i, j)
  follow_pair i j x y h k = ap₂ may_follow h.form k.form ∙ same_follow h.reads h.writes k.reads k.writes i j

  targets_there : (i j : Insn) → R i j → targets_fit d.insns j ≡ targets_fit b.insns i
  targets_there i j h = ap (λ x. list_all (λ t. may_enter (slice_get d.insns t)) (targets_of x)) h.form
      ∙ ap (list_all (λ t. may_enter (slice_get d.insns t))) (same_targets h.reads h.writes i)
      ∙ all_alike (λ t. may_enter (slice_get d.insns t)) (λ t. may_enter (slice_get b.insns t)) enters_at (targets_of i)

  caught_there : (k : ℕ) (i j : Insn) → R i j → is_caught d.regions k j ≡ is_caught b.regions k i
  caught_there k i j h = ap₂ (λ rs x. is_caught rs k x) r.regions h.form ∙ same_caught h.reads h.writes b.regions k i

  one_fits : (k : ℕ) (i j : Insn) → R i j → insn_fits p b (k, i) ≡ true → insn_fits p d (k, j) ≡ true
  unfolding insn_fits
  one_fits k i j h e =
      let operands = and_left (is_encodable i && (registers_fit i b.registers && numbers_fit i p)) (targets_fit b.insns i && (leaves k i && is_caught b.regions k i)) e in
      let places = and_right (is_encodable i && (registers_fit i b.registers && numbers_fit i p)) (targets_fit b.insns i && (leaves k i && is_caught b.regions k i)) e in
      let numbers = and_right (is_encodable i) (registers_fit i b.registers && numbers_fit i p) operands in
      let ways = and_right (targets_fit b.insns i) (leaves k i && is_caught b.regions k i) places in
      and_both (is_encodable j && (registers_fit j d.registers && numbers_fit j p)) (targets_fit d.insns j && (leaves k j && is_caught d.regions k j))
      (and_both (is_encodable j) (registers_fit j d.registers && numbers_fit j p) (h.encodable (and_left (is_encodable i) (registers_fit i b.registers && numbers_fit i p) operands))
      (and_both (registers_fit j d.registers) (numbers_fit j p) (h.registers (and_left (registers_fit i b.registers) (numbers_fit i p) numbers))
      (ap (λ x. numbers_fit x p) h.form ∙ same_numbers h.reads h.writes p i ∙ and_right (registers_fit i b.registers) (numbers_fit i p) numbers)))
      (and_both (targets_fit d.insns j) (leaves k j && is_caught d.regions k j) (targets_there i j h ∙ and_left (targets_fit b.insns i) (leaves k i && is_caught b.regions k i) places)
      (and_both (leaves k j) (is_caught d.regions k j) (ap (leaves k) h.form ∙ same_leaves h.reads h.writes k i ∙ and_left (leaves k i) (is_caught b.regions k i) ways)
      (caught_there k i j h ∙ and_right (leaves k i) (is_caught b.regions k i) ways)))

  all_fit : (k : ℕ) (is js : List Insn) → Pairwise R is js → list_all (insn_fits p b) (enumerate_from k is) ≡ true → list_all (insn_fits p d) (enumerate_from k js) ≡ true
  all_fit k [] [] h e = refl
  all_fit k [] (j ∷ js) h e = absurd h
  all_fit k (i ∷ is) [] h e = absurd h
  all_fit k (i ∷ is) (j ∷ js) h e = and_both (insn_fits p d (k, j)) (list_all (insn_fits p d) (enumerate_from (k + 1) js))
      (one_fits k i j h.0 (and_left (insn_fits p b (k, i)) (list_all (insn_fits p b) (enumerate_from (k + 1) is)) e))
      (all_fit (k + 1) is js h.1 (and_right (insn_fits p b (k, i)) (list_all (insn_fits p b) (enumerate_from (k + 1) is)) e))

  -- ---- regions

  handler_same : (h : Handler) → handler_fits p d.insns h ≡ handler_fits p b.insns h
  handler_same h = ap (λ x. has_type p h.kind && x) (begins_at h.position)

  rest_same : (o : Option ℕ) → rest_fits d.insns o ≡ rest_fits b.insns o
  rest_same None = refl
  rest_same (Some n) = begins_at n

  region_same : (x : Region) → region_fits p d.insns x ≡ region_fits p b.insns x
  region_same x = ap₂ (λ a c. (nat_lt x.first x.end && nat_le x.end a) && (catches x && c)) same_long
      (ap₂ (λ a c. a && c) (all_alike (handler_fits p d.insns) (handler_fits p b.insns) handler_same x.handlers) (rest_same x.rest))

  regions_same : regions_fit p d.insns d.regions ≡ regions_fit p b.insns b.regions
  unfolding regions_fit
  regions_same = ap (λ rs. list_all (region_fits p d.insns) rs && list_all are_apart (neighbours rs)) r.regions
      ∙ ap (λ x. x && list_all are_apart (neighbours b.regions)) (all_alike (region_fits p d.insns) (region_fits p b.insns) region_same b.regions)

  -- ---- the body

  pub rewritten_fits : body_fits p b ≡ true → body_fits p d ≡ true
  unfolding body_fits
  rewritten_fits e =
      let outer = and_left (may_begin (slice_get b.insns 0) && ends (slice_get b.insns (length b.insns - 1))) (list_all follows (neighbours b.insns) && (list_all (insn_fits p b) (enumerate_from 0 b.insns) && regions_fit p b.insns b.regions)) e in
      let inner = and_right (may_begin (slice_get b.insns 0) && ends (slice_get b.insns (length b.insns - 1))) (list_all follows (neighbours b.insns) && (list_all (insn_fits p b) (enumerate_from 0 b.insns) && regions_fit p b.insns b.regions)) e in
      let rest = and_right (list_all follows (neighbours b.insns)) (list_all (insn_fits p b) (enumerate_from 0 b.insns) && regions_fit p b.insns b.regions) inner in
      and_both (may_begin (slice_get d.insns 0) && ends (slice_get d.insns (length d.insns - 1))) (list_all follows (neighbours d.insns) && (list_all (insn_fits p d) (enumerate_from 0 d.insns) && regions_fit p d.insns d.regions))
      (ap₂ (λ x y. x && y) (begins_at 0) ends_same ∙ outer)
      (and_both (list_all follows (neighbours d.insns)) (list_all (insn_fits p d) (enumerate_from 0 d.insns) && regions_fit p d.insns d.regions)
      (order_pairs R follows follow_pair b.insns d.insns r.insns ∙ and_left (list_all follows (neighbours b.insns)) (list_all (insn_fits p b) (enumerate_from 0 b.insns) && regions_fit p b.insns b.regions) inner)
      (and_both (list_all (insn_fits p d) (enumerate_from 0 d.insns)) (regions_fit p d.insns d.regions)
      (all_fit 0 b.insns d.insns r.insns (and_left (list_all (insn_fits p b) (enumerate_from 0 b.insns)) (regions_fit p b.insns b.regions) rest))
      (regions_same ∙ and_right (list_all (insn_fits p b) (enumerate_from 0 b.insns)) (regions_fit p b.insns b.regions) rest)))

  entries_fall : (i j : Insn) → R i j → entries_of j ≤ entries_of i
  entries_fall i j h = let e : entries_of j ≡ entries_of i = ap entries_of h.form ∙ same_entries h.reads h.writes i in omega (arith, e)

  pub cells_fall : body_cells d ≤ body_cells b
  cells_fall = together ((d.registers + 1) * length d.insns) ((b.registers + 1) * length b.insns) (sum_by entries_of d.insns) (sum_by entries_of b.insns)
      (mul-le (d.registers + 1) (length d.insns) (b.registers + 1) (length b.insns) (one_more d.registers b.registers r.registers) (same_count (length b.insns) (length d.insns) (sym same_long)))
      (sum_pairs R entries_of entries_fall b.insns d.insns r.insns)
    where
      one_more : (x y : ℕ) → x ≤ y → x + 1 ≤ y + 1
      one_more x y l = omega (arith, l)

      together : (a b c d : ℕ) → a ≤ b → c ≤ d → a + c ≤ b + d
      together a b c d l m = omega (arith, l, m)
