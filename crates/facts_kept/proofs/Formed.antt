-- A folded program is well-formed.
use Rattle.std.proofs.Common.{◌≡◌, ℕ, zero, suc, ◌+◌, ◌*◌, ◌≤◌, Bool, true, false, true≢false, List, [], ◌∷◌, length, Option, Some, None, ◌⊎◌, inl, inr, refl, sym, ap, ap₂, ◌∙◌, subst, arith, nat_eq}
use Rattle.std.specs.Prelude.{◌&&◌, ◌||◌, not, nat_lt, nat_le, slice_get, ◌-◌, sum_by, if◌then◌else◌}
use Rattle.std.specs.List.{list_all, list_any, enumerate_from}
use Rattle.std.proofs.lemmas.Bool.{eqb-true}
use Rattle.insn_set.specs.Flow.{goes_on, targets_of}
use Rattle.insn_set.specs.Spelling.{is_encodable}
use Rattle.insn_set.specs.declared.form.Insn.{Insn}
use Rattle.insn_set.specs.declared.form.Insn.TheVariants as insn
use Rattle.program_model.specs.Neighbours.{neighbours}
use Rattle.program_model.specs.Texts.{has_type}
use Rattle.program_model.specs.BodyRules.{ends, has_result, follows, may_follow, may_enter, targets_fit, leaves, is_caught, insn_fits, body_fits}
use Rattle.program_model.specs.OperandRules.{has_room, registers_fit, numbers_fit}
use Rattle.program_model.specs.RegionRules.{may_begin, handler_fits, rest_fits, catches, region_fits, are_apart, regions_fit}
use Rattle.program_model.specs.Cells.{entries_of, body_cells}
use Rattle.program_model.specs.declared.body.Body.{Body}
use Rattle.program_model.specs.declared.body.Handler.{Handler}
use Rattle.program_model.specs.declared.body.Region.{Region}
use Rattle.program_model.specs.declared.program.Program.{Program}
use Rattle.domains.specs.Values.{Parts}
use Rattle.dom_frame.specs.declared.frames.Frame.{Frame}
use Rattle.lemmas.proofs.Bools.{and_right}
use Rattle.program_laws.proofs.ChangedLists.{and_left, and_both}
use Rattle.program_laws.specs.Others.{Pairwise}
use Rattle.thin_laws.proofs.Pairs.{length_pairs, all_pairs, sum_pairs}
use Rattle.const_prop.specs.declared.choices.Way.{Way}
use Rattle.const_prop.specs.declared.choices.Way.TheVariants.{Open, Next, To}
use Rattle.const_prop.specs.declared.numbers.Number.{Number}
use Rattle.const_prop.specs.Choices.{is_choice, has_target, goto_or_nop, chosen}
use Rattle.const_prop.specs.Constants.{result_of, constant_result, IsConstantFor, number_written}
use Rattle.const_prop.specs.Known.{way_by}
use Rattle.const_prop.specs.Allowed.{IsAllowed, Constant, Branch}

-- an instruction that goes on and gives no result, and another one that may stand in its place
pub record Turn (f g : Insn) : Type 0 where
  pub onward : goes_on f ≡ true
  pub silent : has_result f ≡ false
  pub behind : (h : Insn) → may_follow h g ≡ true
  pub begins : may_begin (Some g) ≡ true
  pub enters : may_enter (Some g) ≡ true
  pub encodable : is_encodable g ≡ true
  pub registers : (n : ℕ) → registers_fit f n ≡ true → registers_fit g n ≡ true
  pub numbers : (p : Program) → numbers_fit g p ≡ true
  pub targets : (test : ℕ → Bool) → list_all test (targets_of f) ≡ true → list_all test (targets_of g) ≡ true
  pub leaves : (k : ℕ) → leaves k g ≡ true
  pub caught : (rs : List Region) (k : ℕ) → is_caught rs k g ≡ true
  pub entries : entries_of g ≡ 0

-- ---- constants

moved_room : (q r : ℕ × Bool) (n : ℕ) → Some q ≡ Some r → has_room q.1 q.0 n ≡ true → has_room r.1 r.0 n ≡ true
moved_room q r n e h = let k : q ≡ r = cc in subst (λ (z : ℕ × Bool). has_room z.1 z.0 n ≡ true) k h

room_of : (f : Insn) (r : ℕ × Bool) (n : ℕ) → result_of f ≡ Some r → registers_fit f n ≡ true → has_room r.1 r.0 n ≡ true
unfolding registers_fit
room_of (insn.Move slot to from) r n e h = moved_room _ r n e (and_left _ _ h)
room_of (insn.MoveResult slot to) r n e h = moved_room _ r n e h
room_of (insn.MoveException to) r n e h = moved_room _ r n e h
room_of (insn.ConstString to string) r n e h = moved_room _ r n e h
room_of (insn.ConstClass to kind) r n e h = moved_room _ r n e h
room_of (insn.InstanceOf to from kind) r n e h = moved_room _ r n e (and_left _ _ h)
room_of (insn.Cmp op to a b) r n e h = moved_room _ r n e (and_left _ _ h)
room_of (insn.StaticGet item to field) r n e h = moved_room _ r n e h
room_of (insn.Unary op to from) r n e h = moved_room _ r n e (and_left _ _ h)
room_of (insn.Binary op to a b) r n e h = moved_room _ r n e (and_left _ _ h)
room_of (insn.Literal op to a value) r n e h = moved_room _ r n e (and_left _ _ h)
room_of f r n e h = absurd (cc)

result_onward : (f : Insn) (r : ℕ × Bool) → result_of f ≡ Some r → (goes_on f ≡ true) × (has_result f ≡ false)
result_onward (insn.Move slot to from) r e = (refl, refl)
result_onward (insn.MoveResult slot to) r e = (refl, refl)
result_onward (insn.MoveException to) r e = (refl, refl)
result_onward (insn.ConstString to string) r e = (refl, refl)
result_onward (insn.ConstClass to kind) r e = (refl, refl)
result_onward (insn.InstanceOf to from kind) r e = (refl, refl)
result_onward (insn.Cmp op to a b) r e = (refl, refl)
result_onward (insn.StaticGet item to field) r e = (refl, refl)
result_onward (insn.Unary op to from) r e = (refl, refl)
result_onward (insn.Binary op to a b) r e = (refl, refl)
result_onward (insn.Literal op to a value) r e = (refl, refl)
result_onward f r e = absurd (cc)

constant_turn : (f g : Insn) (n : Number) → number_written g ≡ Some n → IsConstantFor f g → Turn f g
unfolding registers_fit numbers_fit
constant_turn f (insn.Const to z) n e c = let o = result_onward f (to, false) (sym c.result) in record {
  onward = o.0;
  silent = o.1;
  behind = λ h. refl;
  begins = refl;
  enters = refl;
  encodable = c.encodable;
  registers = λ n h. room_of f (to, false) n (sym c.result) h;
  numbers = λ p. refl;
  targets = λ t h. refl;
  leaves = λ k. refl;
  caught = λ rs k. refl;
  entries = refl;
}
constant_turn f (insn.ConstWide to z) n e c = let o = result_onward f (to, true) (sym c.result) in record {
  onward = o.0;
  silent = o.1;
  behind = λ h. refl;
  begins = refl;
  enters = refl;
  encodable = c.encodable;
  registers = λ n h. room_of f (to, true) n (sym c.result) h;
  numbers = λ p. refl;
  targets = λ t h. refl;
  leaves = λ k. refl;
  caught = λ rs k. refl;
  entries = refl;
}
constant_turn f g n e c = absurd (cc)

-- ---- branches

choice_onward : (f : Insn) → is_choice f ≡ true → (goes_on f ≡ true) × (has_result f ≡ false)
choice_onward (insn.If test a b target) e = (refl, refl)
choice_onward (insn.IfZero test a target) e = (refl, refl)
choice_onward (insn.PackedSwitch on first targets) e = (refl, refl)
choice_onward (insn.SparseSwitch on keys targets) e = (refl, refl)
choice_onward f e = absurd (true≢false (sym e))

any_test : (ts : List ℕ) (q : ℕ) (test : ℕ → Bool) → list_any (λ t. nat_eq t q) ts ≡ true → list_all test ts ≡ true → test q ≡ true
any_test [] q test e h = absurd (true≢false (sym e))
any_test (t ∷ ts) q test e h = by (any_test ts q test) (nat_eq t q) refl e
  where
    by : (list_any (λ t. nat_eq t q) ts ≡ true → list_all test ts ≡ true → test q ≡ true) → (b : Bool) → nat_eq t q ≡ b → list_any (λ t. nat_eq t q) (t ∷ ts) ≡ true → test q ≡ true
    by more true i k = ap test (sym (eqb-true t q i)) ∙ and_left (test t) (list_all test ts) h
    by more false i k = more (sym (ap (λ c. c || list_any (λ t. nat_eq t q) ts) i) ∙ k) (and_right (test t) (list_all test ts) h)

target_passes : (f : Insn) (q : ℕ) (test : ℕ → Bool) → has_target f q ≡ true → list_all test (targets_of f) ≡ true → test q ≡ true
target_passes (insn.If t a b target) q test e h = ap test (sym (eqb-true target q e)) ∙ and_left (test target) true h
target_passes (insn.IfZero t a target) q test e h = ap test (sym (eqb-true target q e)) ∙ and_left (test target) true h
target_passes (insn.PackedSwitch on first targets) q test e h = any_test targets q test e h
target_passes (insn.SparseSwitch on keys targets) q test e h = any_test targets q test e h
target_passes f q test e h = absurd (true≢false (sym e))

target_chooses : (f : Insn) (q : ℕ) → has_target f q ≡ true → is_choice f ≡ true
target_chooses (insn.If test a b target) q e = refl
target_chooses (insn.IfZero test a target) q e = refl
target_chooses (insn.PackedSwitch on first targets) q e = refl
target_chooses (insn.SparseSwitch on keys targets) q e = refl
target_chooses f q e = absurd (true≢false (sym e))

nop_turn : (f : Insn) → is_choice f ≡ true → Turn f insn.Nop
unfolding registers_fit numbers_fit
nop_turn f e = let o = choice_onward f e in record {
  onward = o.0;
  silent = o.1;
  behind = λ h. refl;
  begins = refl;
  enters = refl;
  encodable = refl;
  registers = λ n h. refl;
  numbers = λ p. refl;
  targets = λ t h. refl;
  leaves = λ k. refl;
  caught = λ rs k. refl;
  entries = refl;
}

goto_turn : (f : Insn) (q : ℕ) → has_target f q ≡ true → Turn f (insn.Goto q)
unfolding registers_fit numbers_fit
goto_turn f q e = let o = choice_onward f (target_chooses f q e) in record {
  onward = o.0;
  silent = o.1;
  behind = λ h. refl;
  begins = refl;
  enters = refl;
  encodable = refl;
  registers = λ n h. refl;
  numbers = λ p. refl;
  targets = λ t h. and_both (t q) true (target_passes f q t e h) refl;
  leaves = λ k. refl;
  caught = λ rs k. refl;
  entries = refl;
}

branch_turn : (f g : Insn) (next : ℕ) (way : Way) → chosen f next way ≡ Some g → Turn f g
branch_turn f g next Open h = absurd (cc)
branch_turn f g next Next h = by (is_choice f) refl h
  where
    by : (v : Bool) → is_choice f ≡ v → (if v then Some insn.Nop else None) ≡ Some g → Turn f g
    by false i e = absurd (cc)
    by true i e = let k : insn.Nop ≡ g = cc in subst (Turn f) k (nop_turn f i)
branch_turn f g next (To q) h = by (has_target f q) refl h
  where
    to : (v : Bool) → has_target f q ≡ true → (if v then insn.Nop else insn.Goto q) ≡ g → Turn f g
    to true i e = subst (Turn f) e (nop_turn f (target_chooses f q i))
    to false i e = subst (Turn f) e (goto_turn f q i)

    by : (v : Bool) → has_target f q ≡ v → (if v then Some (goto_or_nop next q) else None) ≡ Some g → Turn f g
    by false i e = absurd (cc)
    by true i e = let k : goto_or_nop next q ≡ g = cc in to (nat_eq q next) i k

pub allowed_turn : (p : Program) (given : Parts) (frame : Option Frame) (n : ℕ) (f g : Insn) → IsAllowed p given frame n f g → Turn f g
allowed_turn p given frame n f _ (Constant num g e w c) = constant_turn f g num w c
allowed_turn p given frame n f _ (Branch g e) = branch_turn f g (n + 1) (way_by frame f) e

-- ---- bodies

-- an instruction that stays, or that is turned
abbrev pub Turned : Insn → Insn → Type 0
Turned f g = (g ≡ f) ⊎ Turn f g

-- a test of what stands at a place that items keep
module _ {A : Type 0} (R : A → A → Type 0) (test : Option A → Bool) (keeps : (x y : A) → R x y → test (Some x) ≡ true → test (Some y) ≡ true) where
  got_pairs : (xs ys : List A) → Pairwise R xs ys → (n : ℕ) → test (slice_get xs n) ≡ true → test (slice_get ys n) ≡ true
  got_pairs [] [] r n e = e
  got_pairs [] (y ∷ ys) r n e = absurd r
  got_pairs (x ∷ xs) [] r n e = absurd r
  got_pairs (x ∷ xs) (y ∷ ys) r zero e = keeps x y r.0 e
  got_pairs (x ∷ xs) (y ∷ ys) r (suc n) e = got_pairs xs ys r.1 n e

order_kept : {A : Type 0} (R : A → A → Type 0) (f : A × A → Bool) → ((x y a b : A) → R x a → R y b → f (x, y) ≡ true → f (a, b) ≡ true) → (xs ys : List A) → Pairwise R xs ys → list_all f (neighbours xs) ≡ true → list_all f (neighbours ys) ≡ true
order_kept R f h [] [] r e = refl
order_kept R f h [] (y ∷ ys) r e = absurd r
order_kept R f h (x ∷ xs) [] r e = absurd r
order_kept R f h (x ∷ []) (a ∷ []) r e = refl
order_kept R f h (x ∷ []) (a ∷ (b ∷ bs)) r e = absurd r.1
order_kept R f h (x ∷ (y ∷ ys)) (a ∷ []) r e = absurd r.1
order_kept R f h (x ∷ (y ∷ ys)) (a ∷ (b ∷ bs)) r e = and_both (f (a, b)) (list_all f (neighbours (b ∷ bs)))
    (h x y a b r.0 r.1.0 (and_left (f (x, y)) (list_all f (neighbours (y ∷ ys))) e)) (order_kept R f h (y ∷ ys) (b ∷ bs) r.1 (and_right (f (x, y)) (list_all f (neighbours (y ∷ ys))) e))

all_kept : {A : Type 0} (f g : A → Bool) → ((x : A) → f x ≡ true → g x ≡ true) → (xs : List A) → list_all f xs ≡ true → list_all g xs ≡ true
all_kept f g h [] e = refl
all_kept f g h (x ∷ xs) e = and_both (g x) (list_all g xs) (h x (and_left (f x) (list_all f xs) e)) (all_kept f g h xs (and_right (f x) (list_all f xs) e))

-- what follows what goes on and gives no result may follow anything
after_turn : (f g h : Insn) → Turn f g → may_follow f h ≡ true → may_follow g h ≡ true
after_turn f g (insn.MoveResult slot to) t e = absurd (true≢false (sym e ∙ t.silent))
after_turn f g (insn.MoveException to) t e = absurd (true≢false (sym e ∙ ap not t.onward))
after_turn f g h t e = refl

module _ (p : Program) (b d : Body) (r : Pairwise Turned b.insns d.insns) (regions : d.regions ≡ b.regions) (registers : d.registers ≡ b.registers) where
  begin_pair : (i j : Insn) → Turned i j → may_begin (Some i) ≡ true → may_begin (Some j) ≡ true
  begin_pair i j (inl s) e = ap (λ x. may_begin (Some x)) s ∙ e
  begin_pair i j (inr t) e = t.begins

  enter_pair : (i j : Insn) → Turned i j → may_enter (Some i) ≡ true → may_enter (Some j) ≡ true
  enter_pair i j (inl s) e = ap (λ x. may_enter (Some x)) s ∙ e
  enter_pair i j (inr t) e = t.enters

  end_pair : (i j : Insn) → Turned i j → ends (Some i) ≡ true → ends (Some j) ≡ true
  end_pair i j (inl s) e = ap (λ x. not (goes_on x)) s ∙ e
  end_pair i j (inr t) e = absurd (true≢false (sym e ∙ ap not t.onward))

  pub same_long : length d.insns ≡ length b.insns
  same_long = length_pairs Turned b.insns d.insns r

  begins_at : (n : ℕ) → may_begin (slice_get b.insns n) ≡ true → may_begin (slice_get d.insns n) ≡ true
  begins_at n = got_pairs Turned may_begin begin_pair b.insns d.insns r n

  enters_at : (n : ℕ) → may_enter (slice_get b.insns n) ≡ true → may_enter (slice_get d.insns n) ≡ true
  enters_at n = got_pairs Turned may_enter enter_pair b.insns d.insns r n

  follow_pair : (i j x y : Insn) → Turned i x → Turned j y → follows (i, j) ≡ true → follows (x, y) ≡ true
  follow_pair i j x y h (inr t) e = t.behind x
  follow_pair i j x y (inl s) (inl z) e = ap₂ may_follow s z ∙ e
  follow_pair i j x y (inr t) (inl z) e = ap (may_follow x) z ∙ after_turn i x j t e

  targets_there : (i j : Insn) → Turned i j → targets_fit b.insns i ≡ true → targets_fit d.insns j ≡ true
  targets_there i j (inl s) e = ap (λ x. list_all (λ t. may_enter (slice_get d.insns t)) (targets_of x)) s
      ∙ all_kept (λ t. may_enter (slice_get b.insns t)) (λ t. may_enter (slice_get d.insns t)) enters_at (targets_of i) e
  targets_there i j (inr t) e = t.targets (λ t. may_enter (slice_get d.insns t)) (all_kept (λ t. may_enter (slice_get b.insns t)) (λ t. may_enter (slice_get d.insns t)) enters_at (targets_of i) e)

  -- the parts of what an instruction has to be
  record Fits (c : Body) (k : ℕ) (i : Insn) : Type 0 where
    spelled : is_encodable i ≡ true
    roomy : registers_fit i c.registers ≡ true
    numbered : numbers_fit i p ≡ true
    aimed : targets_fit c.insns i ≡ true
    leaving : leaves k i ≡ true
    caught : is_caught c.regions k i ≡ true

  parts : (c : Body) (k : ℕ) (i : Insn) → insn_fits p c (k, i) ≡ true → Fits c k i
  unfolding insn_fits
  parts c k i e =
      let operands = and_left (is_encodable i && (registers_fit i c.registers && numbers_fit i p)) (targets_fit c.insns i && (leaves k i && is_caught c.regions k i)) e in
      let places = and_right (is_encodable i && (registers_fit i c.registers && numbers_fit i p)) (targets_fit c.insns i && (leaves k i && is_caught c.regions k i)) e in
      let numbers = and_right (is_encodable i) (registers_fit i c.registers && numbers_fit i p) operands in
      let ways = and_right (targets_fit c.insns i) (leaves k i && is_caught c.regions k i) places in
      record {
        spelled = and_left (is_encodable i) (registers_fit i c.registers && numbers_fit i p) operands;
        roomy = and_left (registers_fit i c.registers) (numbers_fit i p) numbers;
        numbered = and_right (registers_fit i c.registers) (numbers_fit i p) numbers;
        aimed = and_left (targets_fit c.insns i) (leaves k i && is_caught c.regions k i) places;
        leaving = and_left (leaves k i) (is_caught c.regions k i) ways;
        caught = and_right (leaves k i) (is_caught c.regions k i) ways;
      }

  whole : (c : Body) (k : ℕ) (i : Insn) → Fits c k i → insn_fits p c (k, i) ≡ true
  unfolding insn_fits
  whole c k i f = and_both (is_encodable i && (registers_fit i c.registers && numbers_fit i p)) (targets_fit c.insns i && (leaves k i && is_caught c.regions k i))
      (and_both (is_encodable i) (registers_fit i c.registers && numbers_fit i p) f.spelled (and_both (registers_fit i c.registers) (numbers_fit i p) f.roomy f.numbered))
      (and_both (targets_fit c.insns i) (leaves k i && is_caught c.regions k i) f.aimed (and_both (leaves k i) (is_caught c.regions k i) f.leaving f.caught))

  one_fits : (k : ℕ) (i j : Insn) → Turned i j → insn_fits p b (k, i) ≡ true → insn_fits p d (k, j) ≡ true
  one_fits k i j h e = whole d k j (by h (parts b k i e))
    where
      by : Turned i j → Fits b k i → Fits d k j
      by (inl s) f = record {
        spelled = ap is_encodable s ∙ f.spelled;
        roomy = ap₂ registers_fit s registers ∙ f.roomy;
        numbered = ap (λ x. numbers_fit x p) s ∙ f.numbered;
        aimed = targets_there i j (inl s) f.aimed;
        leaving = ap (leaves k) s ∙ f.leaving;
        caught = ap₂ (λ rs x. is_caught rs k x) regions s ∙ f.caught;
      }
      by (inr t) f = record {
        spelled = t.encodable;
        roomy = ap (registers_fit j) registers ∙ t.registers b.registers f.roomy;
        numbered = t.numbers p;
        aimed = targets_there i j (inr t) f.aimed;
        leaving = t.leaves k;
        caught = t.caught d.regions k;
      }

  all_fit : (k : ℕ) (is js : List Insn) → Pairwise Turned is js → list_all (insn_fits p b) (enumerate_from k is) ≡ true → list_all (insn_fits p d) (enumerate_from k js) ≡ true
  all_fit k [] [] h e = refl
  all_fit k [] (j ∷ js) h e = absurd h
  all_fit k (i ∷ is) [] h e = absurd h
  all_fit k (i ∷ is) (j ∷ js) h e = and_both (insn_fits p d (k, j)) (list_all (insn_fits p d) (enumerate_from (k + 1) js))
      (one_fits k i j h.0 (and_left (insn_fits p b (k, i)) (list_all (insn_fits p b) (enumerate_from (k + 1) is)) e))
      (all_fit (k + 1) is js h.1 (and_right (insn_fits p b (k, i)) (list_all (insn_fits p b) (enumerate_from (k + 1) is)) e))

  handler_kept : (h : Handler) → handler_fits p b.insns h ≡ true → handler_fits p d.insns h ≡ true
  handler_kept h e = and_both (has_type p h.kind) (may_begin (slice_get d.insns h.position)) (and_left (has_type p h.kind) (may_begin (slice_get b.insns h.position)) e)
      (begins_at h.position (and_right (has_type p h.kind) (may_begin (slice_get b.insns h.position)) e))

  rest_kept : (o : Option ℕ) → rest_fits b.insns o ≡ true → rest_fits d.insns o ≡ true
  rest_kept None e = refl
  rest_kept (Some n) e = begins_at n e

  region_kept : (x : Region) → region_fits p b.insns x ≡ true → region_fits p d.insns x ≡ true
  region_kept x e =
      let first = and_left (nat_lt x.first x.end && nat_le x.end (length b.insns)) (catches x && (list_all (handler_fits p b.insns) x.handlers && rest_fits b.insns x.rest)) e in
      let second = and_right (nat_lt x.first x.end && nat_le x.end (length b.insns)) (catches x && (list_all (handler_fits p b.insns) x.handlers && rest_fits b.insns x.rest)) e in
      let third = and_right (catches x) (list_all (handler_fits p b.insns) x.handlers && rest_fits b.insns x.rest) second in
      and_both (nat_lt x.first x.end && nat_le x.end (length d.insns)) (catches x && (list_all (handler_fits p d.insns) x.handlers && rest_fits d.insns x.rest))
      (ap (λ n. nat_lt x.first x.end && nat_le x.end n) same_long ∙ first)
      (and_both (catches x) (list_all (handler_fits p d.insns) x.handlers && rest_fits d.insns x.rest)
      (and_left (catches x) (list_all (handler_fits p b.insns) x.handlers && rest_fits b.insns x.rest) second)
      (and_both (list_all (handler_fits p d.insns) x.handlers) (rest_fits d.insns x.rest)
      (all_kept (handler_fits p b.insns) (handler_fits p d.insns) handler_kept x.handlers (and_left (list_all (handler_fits p b.insns) x.handlers) (rest_fits b.insns x.rest) third))
      (rest_kept x.rest (and_right (list_all (handler_fits p b.insns) x.handlers) (rest_fits b.insns x.rest) third))))

  regions_kept : regions_fit p b.insns b.regions ≡ true → regions_fit p d.insns d.regions ≡ true
  unfolding regions_fit
  regions_kept e = ap (λ rs. list_all (region_fits p d.insns) rs && list_all are_apart (neighbours rs)) regions
      ∙ and_both (list_all (region_fits p d.insns) b.regions) (list_all are_apart (neighbours b.regions))
      (all_kept (region_fits p b.insns) (region_fits p d.insns) region_kept b.regions (and_left (list_all (region_fits p b.insns) b.regions) (list_all are_apart (neighbours b.regions)) e))
      (and_right (list_all (region_fits p b.insns) b.regions) (list_all are_apart (neighbours b.regions)) e)

  pub turned_fits : body_fits p b ≡ true → body_fits p d ≡ true
  unfolding body_fits
  turned_fits e =
      let outer = and_left (may_begin (slice_get b.insns 0) && ends (slice_get b.insns (length b.insns - 1))) (list_all follows (neighbours b.insns) && (list_all (insn_fits p b) (enumerate_from 0 b.insns) && regions_fit p b.insns b.regions)) e in
      let inner = and_right (may_begin (slice_get b.insns 0) && ends (slice_get b.insns (length b.insns - 1))) (list_all follows (neighbours b.insns) && (list_all (insn_fits p b) (enumerate_from 0 b.insns) && regions_fit p b.insns b.regions)) e in
      let rest = and_right (list_all follows (neighbours b.insns)) (list_all (insn_fits p b) (enumerate_from 0 b.insns) && regions_fit p b.insns b.regions) inner in
      and_both (may_begin (slice_get d.insns 0) && ends (slice_get d.insns (length d.insns - 1))) (list_all follows (neighbours d.insns) && (list_all (insn_fits p d) (enumerate_from 0 d.insns) && regions_fit p d.insns d.regions))
      (and_both (may_begin (slice_get d.insns 0)) (ends (slice_get d.insns (length d.insns - 1)))
      (begins_at 0 (and_left (may_begin (slice_get b.insns 0)) (ends (slice_get b.insns (length b.insns - 1))) outer))
      (ap (λ n. ends (slice_get d.insns (n - 1))) same_long ∙ got_pairs Turned ends end_pair b.insns d.insns r (length b.insns - 1) (and_right (may_begin (slice_get b.insns 0)) (ends (slice_get b.insns (length b.insns - 1))) outer)))
      (and_both (list_all follows (neighbours d.insns)) (list_all (insn_fits p d) (enumerate_from 0 d.insns) && regions_fit p d.insns d.regions)
      (order_kept Turned follows follow_pair b.insns d.insns r (and_left (list_all follows (neighbours b.insns)) (list_all (insn_fits p b) (enumerate_from 0 b.insns) && regions_fit p b.insns b.regions) inner))
      (and_both (list_all (insn_fits p d) (enumerate_from 0 d.insns)) (regions_fit p d.insns d.regions)
      (all_fit 0 b.insns d.insns r (and_left (list_all (insn_fits p b) (enumerate_from 0 b.insns)) (regions_fit p b.insns b.regions) rest))
      (regions_kept (and_right (list_all (insn_fits p b) (enumerate_from 0 b.insns)) (regions_fit p b.insns b.regions) rest))))

  entries_fall : (i j : Insn) → Turned i j → entries_of j ≤ entries_of i
  entries_fall i j (inl s) = let e : entries_of j ≡ entries_of i = ap entries_of s in omega (arith, e)
  entries_fall i j (inr t) = let e : entries_of j ≡ 0 = t.entries in omega (arith, e)

  pub cells_fall : body_cells d ≤ body_cells b
  cells_fall = together ((d.registers + 1) * length d.insns) ((b.registers + 1) * length b.insns) (sum_by entries_of d.insns) (sum_by entries_of b.insns)
      (ap₂ (λ x y. (x + 1) * y) registers same_long) (sum_pairs Turned entries_of entries_fall b.insns d.insns r)
    where
      together : (a b c d : ℕ) → a ≡ b → c ≤ d → a + c ≤ b + d
      together a b c d l m = omega (arith, l, m)
