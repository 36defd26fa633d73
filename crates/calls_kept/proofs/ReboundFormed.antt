-- A body in which calls name another method of the table keeps the rules of bodies.
use Rattle.std.proofs.Common.{◌≡◌, ℕ, zero, suc, ◌+◌, ◌*◌, Bool, true, List, [], ◌∷◌, length, Option, Some, None, ◌⊎◌, inl, inr, refl, sym, ap, ap₂, ◌∙◌}
use std.Path.{fun_ext}
use Rattle.std.specs.Prelude.{◌&&◌, ◌-◌, nat_lt, nat_le, slice_get, sum_by}
use Rattle.std.specs.List.{list_all, enumerate_from}
use Rattle.std.proofs.lemmas.List.Sums.{sum_by-cons}
use Rattle.insn_set.specs.Flow.{targets_of}
use Rattle.insn_set.specs.Spelling.{is_encodable}
use Rattle.insn_set.specs.declared.form.Insn.{Insn}
use Rattle.insn_set.specs.declared.form.Insn.TheVariants as insn
use Rattle.insn_set.specs.declared.ops.InvokeKind.{InvokeKind}
use Rattle.program_model.specs.Neighbours.{neighbours}
use Rattle.program_model.specs.Texts.{has_type, has_method}
use Rattle.program_model.specs.BodyRules.{ends, follows, may_follow, may_enter, targets_fit, leaves, is_caught, insn_fits, body_fits}
use Rattle.program_model.specs.OperandRules.{registers_fit, numbers_fit}
use Rattle.program_model.specs.RegionRules.{may_begin, handler_fits, rest_fits, catches, region_fits, are_apart, regions_fit}
use Rattle.program_model.specs.Cells.{entries_of, body_cells}
use Rattle.program_model.specs.declared.body.Body.{Body}
use Rattle.program_model.specs.declared.program.Program.{Program}
use Rattle.lemmas.proofs.Bools.{and_left, and_right, and_both}
use Rattle.program_laws.specs.Others.{Pairwise}
use Rattle.thin_laws.proofs.Pairs.{length_pairs}

-- a call becomes another one, of a method of the table, with the same registers
pub record Recalls (p : Program) (f g : Insn) : Type 0 where
  pub kind : InvokeKind
  pub kind' : InvokeKind
  pub method : ℕ
  pub method' : ℕ
  pub args : List ℕ
  pub old : f ≡ insn.Invoke kind method args
  pub new : g ≡ insn.Invoke kind' method' args
  pub there : has_method p method' ≡ true

abbrev pub Stays : Program → Insn → Insn → Type 0
Stays p f g = (g ≡ f) ⊎ Recalls p f g

-- what doesn't look at the kind and the method of a call
abbrev Blind : {X : Type 0} → (Insn → X) → Type 0
Blind T = (k l : InvokeKind) (m n : ℕ) (args : List ℕ) → T (insn.Invoke k m args) ≡ T (insn.Invoke l n args)

stays_same : {X : Type 0} (p : Program) (T : Insn → X) → Blind T → (f g : Insn) → Stays p f g → T g ≡ T f
stays_same p T h f g (inl e) = ap T e
stays_same p T h f g (inr r) = ap T r.new ∙ (h r.kind' r.kind r.method' r.method r.args ∙ sym (ap T r.old))

-- what may follow one call may follow another
before_same : (h : Insn) → Blind (λ f. may_follow f h)
before_same (insn.MoveResult slot to) k l m n args = refl
before_same (insn.MoveException to) k l m n args = refl
before_same h k l m n args = refl

room_same : (count : ℕ) → Blind (λ f. registers_fit f count)
unfolding registers_fit
room_same count k l m n args = refl

call_numbered : (p : Program) (k : InvokeKind) (m : ℕ) (args : List ℕ) → has_method p m ≡ true → numbers_fit (insn.Invoke k m args) p ≡ true
unfolding numbers_fit
call_numbered p k m args e = e

-- a test of what stands at a place
got_same : {A : Type 0} (R : A → A → Type 0) (T : Option A → Bool) → ((x y : A) → R x y → T (Some y) ≡ T (Some x)) → (xs ys : List A) → Pairwise R xs ys → (n : ℕ) → T (slice_get ys n) ≡ T (slice_get xs n)
got_same R T h [] [] r n = refl
got_same R T h [] (y ∷ ys) r n = absurd r
got_same R T h (x ∷ xs) [] r n = absurd r
got_same R T h (x ∷ xs) (y ∷ ys) r zero = h x y r.0
got_same R T h (x ∷ xs) (y ∷ ys) r (suc n) = got_same R T h xs ys r.1 n

order_same : {A : Type 0} (R : A → A → Type 0) (T : A → A → Bool) → ((x y a b : A) → R x a → R y b → T a b ≡ T x y) → (xs ys : List A) → Pairwise R xs ys → list_all (λ (q : A × A). T q.0 q.1) (neighbours ys) ≡ list_all (λ (q : A × A). T q.0 q.1) (neighbours xs)
order_same R T h [] [] r = refl
order_same R T h [] (y ∷ ys) r = absurd r
order_same R T h (x ∷ xs) [] r = absurd r
order_same R T h (x ∷ []) (a ∷ []) r = refl
order_same R T h (x ∷ []) (a ∷ (b ∷ bs)) r = absurd r.1
order_same R T h (x ∷ (y ∷ ys)) (a ∷ []) r = absurd r.1
order_same R T h (x ∷ (y ∷ ys)) (a ∷ (b ∷ bs)) r = ap₂ (λ u v. u && v) (h x y a b r.0 r.1.0) (order_same R T h (y ∷ ys) (b ∷ bs) r.1)

sum_same : {A : Type 0} (R : A → A → Type 0) (f : A → ℕ) → ((x y : A) → R x y → f y ≡ f x) → (xs ys : List A) → Pairwise R xs ys → sum_by f ys ≡ sum_by f xs
sum_same R f h [] [] r = refl
sum_same R f h [] (y ∷ ys) r = absurd r
sum_same R f h (x ∷ xs) [] r = absurd r
sum_same R f h (x ∷ xs) (y ∷ ys) r = sum_by-cons f y ys ∙ (ap₂ (λ u v. u + v) (h x y r.0) (sum_same R f h xs ys r.1) ∙ sym (sum_by-cons f x xs))

module _ (p : Program) (b d : Body) (r : Pairwise (Stays p) b.insns d.insns) (regions : d.regions ≡ b.regions) (registers : d.registers ≡ b.registers) where
  pub same_long : length d.insns ≡ length b.insns
  same_long = length_pairs (Stays p) b.insns d.insns r

  begins : ◌≡◌ {A = ℕ → Bool} (λ n. may_begin (slice_get d.insns n)) (λ n. may_begin (slice_get b.insns n))
  begins = fun_ext (got_same (Stays p) may_begin (stays_same p (λ f. may_begin (Some f)) (λ k l m n args. refl)) b.insns d.insns r)

  entered : ◌≡◌ {A = ℕ → Bool} (λ n. may_enter (slice_get d.insns n)) (λ n. may_enter (slice_get b.insns n))
  entered = fun_ext (got_same (Stays p) may_enter (stays_same p (λ f. may_enter (Some f)) (λ k l m n args. refl)) b.insns d.insns r)

  ended : (n : ℕ) → ends (slice_get d.insns n) ≡ ends (slice_get b.insns n)
  ended = got_same (Stays p) ends (stays_same p (λ f. ends (Some f)) (λ k l m n args. refl)) b.insns d.insns r

  following : (x y a c : Insn) → Stays p x a → Stays p y c → may_follow a c ≡ may_follow x y
  following x y a c h i = stays_same p (λ f. may_follow f c) (before_same c) x a h ∙ stays_same p (may_follow x) (λ k l m n args. refl) y c i

  -- the parts of what an instruction has to be
  record Fits (c : Body) (k : ℕ) (i : Insn) : Type 0 where
    spelled : is_encodable i ≡ true
    roomy : registers_fit i c.registers ≡ true
    numbered : numbers_fit i p ≡ true
    aimed : targets_fit c.insns i ≡ true
    leaving : leaves k i ≡ true
    caught : is_caught c.regions k i ≡ true

  parts : (c : Body) (k : ℕ) (i : Insn) → insn_fits p c (k, i) ≡ true → Fits c k i
  unfolding insn_fits
  parts c k i e =
      let operands = and_left (is_encodable i && (registers_fit i c.registers && numbers_fit i p)) (targets_fit c.insns i && (leaves k i && is_caught c.regions k i)) e in
      let places = and_right (is_encodable i && (registers_fit i c.registers && numbers_fit i p)) (targets_fit c.insns i && (leaves k i && is_caught c.regions k i)) e in
      let numbers = and_right (is_encodable i) (registers_fit i c.registers && numbers_fit i p) operands in
      let ways = and_right (targets_fit c.insns i) (leaves k i && is_caught c.regions k i) places in
      record {
        spelled = and_left (is_encodable i) (registers_fit i c.registers && numbers_fit i p) operands;
        roomy = and_left (registers_fit i c.registers) (numbers_fit i p) numbers;
        numbered = and_right (registers_fit i c.registers) (numbers_fit i p) numbers;
        aimed = and_left (targets_fit c.insns i) (leaves k i && is_caught c.regions k i) places;
        leaving = and_left (leaves k i) (is_caught c.regions k i) ways;
        caught = and_right (leaves k i) (is_caught c.regions k i) ways;
      }

  whole : (c : Body) (k : ℕ) (i : Insn) → Fits c k i → insn_fits p c (k, i) ≡ true
  unfolding insn_fits
  whole c k i f = and_both (is_encodable i && (registers_fit i c.registers && numbers_fit i p)) (targets_fit c.insns i && (leaves k i && is_caught c.regions k i))
      (and_both (is_encodable i) (registers_fit i c.registers && numbers_fit i p) f.spelled (and_both (registers_fit i c.registers) (numbers_fit i p) f.roomy f.numbered))
      (and_both (targets_fit c.insns i) (leaves k i && is_caught c.regions k i) f.aimed (and_both (leaves k i) (is_caught c.regions k i) f.leaving f.caught))

  one_fits : (k : ℕ) (i j : Insn) → Stays p i j → insn_fits p b (k, i) ≡ true → insn_fits p d (k, j) ≡ true
  one_fits k i j h e = let f : Fits b k i = parts b k i e in whole d k j (record {
    spelled = stays_same p is_encodable (λ k l m n args. refl) i j h ∙ f.spelled;
    roomy = ap (registers_fit j) registers ∙ (stays_same p (λ x. registers_fit x b.registers) (room_same b.registers) i j h ∙ f.roomy);
    numbered = numbers h f.numbered;
    aimed = ap₂ (λ t ts. list_all t ts) entered (stays_same p targets_of (λ k l m n args. refl) i j h) ∙ f.aimed;
    leaving = stays_same p (leaves k) (λ a l m n args. refl) i j h ∙ f.leaving;
    caught = ap (λ rs. is_caught rs k j) regions ∙ (stays_same p (is_caught b.regions k) (λ a l m n args. refl) i j h ∙ f.caught);
  })
    where
      numbers : Stays p i j → numbers_fit i p ≡ true → numbers_fit j p ≡ true
      numbers (inl s) n = ap (λ x. numbers_fit x p) s ∙ n
      numbers (inr s) n = ap (λ x. numbers_fit x p) s.new ∙ call_numbered p s.kind' s.method' s.args s.there

  all_fit : (k : ℕ) (is js : List Insn) → Pairwise (Stays p) is js → list_all (insn_fits p b) (enumerate_from k is) ≡ true → list_all (insn_fits p d) (enumerate_from k js) ≡ true
  all_fit k [] [] h e = refl
  all_fit k [] (j ∷ js) h e = absurd h
  all_fit k (i ∷ is) [] h e = absurd h
  all_fit k (i ∷ is) (j ∷ js) h e = and_both (insn_fits p d (k, j)) (list_all (insn_fits p d) (enumerate_from (k + 1) js))
      (one_fits k i j h.0 (and_left (insn_fits p b (k, i)) (list_all (insn_fits p b) (enumerate_from (k + 1) is)) e))
      (all_fit (k + 1) is js h.1 (and_right (insn_fits p b (k, i)) (list_all (insn_fits p b) (enumerate_from (k + 1) is)) e))

  handlers : handler_fits p d.insns ≡ handler_fits p b.insns
  handlers = fun_ext (λ h. ap (λ t. has_type p h.kind && t h.position) begins)

  rests : (o : Option ℕ) → rest_fits d.insns o ≡ rest_fits b.insns o
  rests None = refl
  rests (Some n) = ap (λ t. t n) begins

  region_same : region_fits p d.insns ≡ region_fits p b.insns
  region_same = fun_ext (λ x. ap₂ (λ n t. (nat_lt x.first x.end && nat_le x.end n) && t) same_long (ap₂ (λ t u. catches x && (list_all t x.handlers && u)) handlers (rests x.rest)))

  regions_kept : regions_fit p b.insns b.regions ≡ true → regions_fit p d.insns d.regions ≡ true
  unfolding regions_fit
  regions_kept e = ap₂ (λ t rs. list_all t rs && list_all are_apart (neighbours rs)) region_same regions ∙ e

  pub stays_fit : body_fits p b ≡ true → body_fits p d ≡ true
  unfolding body_fits
  stays_fit e =
      let outer = and_left (may_begin (slice_get b.insns 0) && ends (slice_get b.insns (length b.insns - 1))) (list_all follows (neighbours b.insns) && (list_all (insn_fits p b) (enumerate_from 0 b.insns) && regions_fit p b.insns b.regions)) e in
      let inner = and_right (may_begin (slice_get b.insns 0) && ends (slice_get b.insns (length b.insns - 1))) (list_all follows (neighbours b.insns) && (list_all (insn_fits p b) (enumerate_from 0 b.insns) && regions_fit p b.insns b.regions)) e in
      let rest = and_right (list_all follows (neighbours b.insns)) (list_all (insn_fits p b) (enumerate_from 0 b.insns) && regions_fit p b.insns b.regions) inner in
      and_both (may_begin (slice_get d.insns 0) && ends (slice_get d.insns (length d.insns - 1))) (list_all follows (neighbours d.insns) && (list_all (insn_fits p d) (enumerate_from 0 d.insns) && regions_fit p d.insns d.regions))
      (ap₂ (λ x y. x && y) (ap (λ t. t 0) begins) (ap (λ n. ends (slice_get d.insns (n - 1))) same_long ∙ ended (length b.insns - 1)) ∙ outer)
      (and_both (list_all follows (neighbours d.insns)) (list_all (insn_fits p d) (enumerate_from 0 d.insns) && regions_fit p d.insns d.regions)
      (order_same (Stays p) may_follow following b.insns d.insns r ∙ and_left (list_all follows (neighbours b.insns)) (list_all (insn_fits p b) (enumerate_from 0 b.insns) && regions_fit p b.insns b.regions) inner)
      (and_both (list_all (insn_fits p d) (enumerate_from 0 d.insns)) (regions_fit p d.insns d.regions)
      (all_fit 0 b.insns d.insns r (and_left (list_all (insn_fits p b) (enumerate_from 0 b.insns)) (regions_fit p b.insns b.regions) rest))
      (regions_kept (and_right (list_all (insn_fits p b) (enumerate_from 0 b.insns)) (regions_fit p b.insns b.regions) rest))))

  pub same_cells : body_cells d ≡ body_cells b
  same_cells = ap₂ (λ m n. m + n) (ap₂ (λ m n. (m + 1) * n) registers same_long) (sum_same (Stays p) entries_of (stays_same p entries_of (λ k l m n args. refl)) b.insns d.insns r)
