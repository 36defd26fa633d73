-- How writes, moves and joins of kinds keep that they hold of values.
use Rattle.std.proofs.Common.{◌≡◌, ℕ, zero, suc, ◌+◌, ◌-◌, Bool, true, false, true≢false, List, [], ◌∷◌, ◌++◌, inl, inr, refl, sym, ap, ◌∙◌, subst, arith}
use Rattle.std.specs.Prelude.{◌&&◌, length, map, replicate, slice_set, slice_index_or, if◌then◌else◌}
use Rattle.dalvik_defs.specs.Names.{Text}
use Rattle.dalvik_defs.specs.State.{World, word_of}
use Rattle.dalvik_defs.specs.declared.state.Value.{Value}
use Rattle.dalvik_defs.specs.declared.state.Value.TheVariants.{Word, Low, High, Object}
use Rattle.dalvik_defs.specs.declared.program.NamedProgram.{NamedProgram}
use Rattle.dalvik_defs.specs.declared.tables.Framework.{Framework}
use Rattle.pass_defs.specs.Kinds.{Kind, kind_eq, is_below}
use Rattle.pass_defs.specs.Kinds as kind
use Rattle.pass_defs.specs.Registers.{kind_at, cleared, split, written_one, written_pair, written_kinds, all_below}
use Rattle.run_laws.specs.Fine.{IsThere}
use Rattle.run_laws.specs.TypedStates.{KindHolds, AllHold, AreHalves, begins_high}

pub and_left : (a b : Bool) → (a && b) ≡ true → a ≡ true
and_left true b e = refl
and_left false b e = e

pub and_right : (a b : Bool) → (a && b) ≡ true → b ≡ true
and_right true b e = e
and_right false b e = absurd (true≢false (sym e))

abbrev is_object : Value → Bool
is_object (Object n) = true
is_object v = false

pub not_word : (n m : ℕ) → Object n ≡ Word m → ⊥
not_word n m e = true≢false (ap is_object e)

pub not_low : (n m : ℕ) → Object n ≡ Low m → ⊥
not_low n m e = true≢false (ap is_object e)

pub not_high : (n m : ℕ) → Object n ≡ High m → ⊥
not_high n m e = true≢false (ap is_object e)

wrong : {A : Type 0} (b : Bool) → b ≡ true → b ≡ false → A
wrong b i j = absurd (true≢false (sym i ∙ j))

-- a kind that is no half of a wide
abbrev pub IsNoHalf : Kind → Type 0
IsNoHalf k = (kind_eq k kind.Low ≡ false) × (kind_eq k kind.High ≡ false)

-- a kind is a half of a wide only where another is the same half
abbrev pub KeepsHalves : Kind → Kind → Type 0
KeepsHalves k l = (kind_eq l kind.Low ≡ true → kind_eq k kind.Low ≡ true) × (kind_eq l kind.High ≡ true → kind_eq k kind.High ≡ true)

pub whole_keeps : (k l : Kind) → IsNoHalf l → KeepsHalves k l
whole_keeps k l h = (λ i. wrong (kind_eq l kind.Low) i h.0, λ i. wrong (kind_eq l kind.High) i h.1)

pub no_low : (k : Kind) (v : Value) (ks : List Kind) (vs : List Value) → kind_eq k kind.Low ≡ false → AreHalves k v ks vs
no_low k v ks vs e i = wrong (kind_eq k kind.Low) (and_left (kind_eq k kind.Low) (begins_high ks) i) e

module _ (p : NamedProgram) (f : Framework) (c : Text) (w : World) where
  abbrev H : Kind → Value → Type 0
  H = KindHolds p f c w

  -- what a kind holds of is there
  pub there_held : (k : Kind) (v : Value) → H k v → IsThere w v
  there_held k (Object n) h = objects k h
    where
      objects : (k : Kind) → H k (Object n) → IsThere w (Object n)
      objects kind.Undefined h = h
      objects kind.Zero h = absurd (not_word n 0 h)
      objects kind.Word h = absurd (not_word n h.0 h.1)
      objects kind.Low h = absurd (not_low n h.0 h.1)
      objects kind.High h = absurd (not_high n h.0 h.1)
      objects kind.Null h = absurd (not_word n 0 h)
      objects (kind.Class t) (inl e) = absurd (not_word n 0 e)
      objects (kind.Class t) (inr h) = h.0
      objects (kind.Array t) (inl e) = absurd (not_word n 0 e)
      objects (kind.Array t) (inr h) = h.0
      objects kind.Reference (inl e) = absurd (not_word n 0 e)
      objects kind.Reference (inr h) = h
      objects (kind.Fresh t m) h = h.0
      objects kind.FreshThis h = h.0
  there_held k v h = tt

  abbrev A : List Kind → List Value → Type 0
  A = AllHold p f c w

  -- as many values as kinds
  pub all_long : (ks : List Kind) (vs : List Value) → A ks vs → length vs ≡ length ks
  all_long [] [] h = refl
  all_long [] (v ∷ vs) h = absurd h
  all_long (k ∷ ks) [] h = absurd h
  all_long (k ∷ ks) (v ∷ vs) h = ap suc (all_long ks vs h.1)

  pub all_at : (ks : List Kind) (vs : List Value) (r : ℕ) → A ks vs → H (kind_at ks r) (slice_index_or vs r (Word 0))
  all_at [] [] r h = tt
  all_at [] (v ∷ vs) r h = absurd h
  all_at (k ∷ ks) [] r h = absurd h
  all_at (k ∷ ks) (v ∷ vs) zero h = h.0
  all_at (k ∷ ks) (v ∷ vs) (suc r) h = all_at ks vs r h.1

  -- ---- halves of one number

  pub all_halves : (ks : List Kind) (vs : List Value) (r : ℕ) → A ks vs → kind_eq (kind_at ks r) kind.Low ≡ true → kind_eq (kind_at ks (suc r)) kind.High ≡ true → word_of (slice_index_or vs r (Word 0)) ≡ word_of (slice_index_or vs (suc r) (Word 0))
  all_halves [] [] r h e i = absurd (true≢false (sym e))
  all_halves [] (v ∷ vs) r h e i = absurd h
  all_halves (k ∷ ks) [] r h e i = absurd h
  all_halves (k ∷ []) (v ∷ vs) zero h e i = absurd (true≢false (sym i))
  all_halves (k ∷ l ∷ ks) (v ∷ []) zero h e i = absurd h.1
  all_halves (k ∷ l ∷ ks) (v ∷ u ∷ vs) zero h e i = h.2 (ap (λ b. b && kind_eq l kind.High) e ∙ i)
  all_halves (k ∷ ks) (v ∷ vs) (suc r) h e i = all_halves ks vs r h.1 e i

  -- what is written to a register is no half that stands beside another's
  pub record Beside (ks : List Kind) (vs : List Value) (r : ℕ) (k : Kind) (v : Value) : Type 0 where
    pub before : (s : ℕ) → r ≡ suc s → kind_eq (kind_at ks s) kind.Low ≡ true → kind_eq k kind.High ≡ true → word_of (slice_index_or vs s (Word 0)) ≡ word_of v
    pub behind : kind_eq k kind.Low ≡ true → kind_eq (kind_at ks (suc r)) kind.High ≡ true → word_of v ≡ word_of (slice_index_or vs (suc r) (Word 0))

  head_halves : (k : Kind) (v : Value) (ks : List Kind) (vs : List Value) → A ks vs → (kind_eq k kind.Low ≡ true → kind_eq (kind_at ks zero) kind.High ≡ true → word_of v ≡ word_of (slice_index_or vs zero (Word 0))) → AreHalves k v ks vs
  head_halves k v [] vs h to e = absurd (true≢false (sym (and_right (kind_eq k kind.Low) false e)))
  head_halves k v (l ∷ ks) [] h to e = absurd h
  head_halves k v (l ∷ ks) (u ∷ vs) h to e = to (and_left (kind_eq k kind.Low) (kind_eq l kind.High) e) (and_right (kind_eq k kind.Low) (kind_eq l kind.High) e)

  set_halves : (l : Kind) (u : Value) (ks : List Kind) (vs : List Value) (r : ℕ) (k : Kind) (v : Value) → A ks vs → AreHalves l u ks vs → (r ≡ 0 → kind_eq l kind.Low ≡ true → kind_eq k kind.High ≡ true → word_of u ≡ word_of v) → AreHalves l u (slice_set ks r k) (slice_set vs r v)
  set_halves l u [] [] r k v h old new = old
  set_halves l u [] (y ∷ vs) r k v h old new = absurd h
  set_halves l u (x ∷ ks) [] r k v h old new = absurd h
  set_halves l u (x ∷ ks) (y ∷ vs) zero k v h old new = λ e. new refl (and_left (kind_eq l kind.Low) (kind_eq k kind.High) e) (and_right (kind_eq l kind.Low) (kind_eq k kind.High) e)
  set_halves l u (x ∷ ks) (y ∷ vs) (suc r) k v h old new = old

  pub all_set : (ks : List Kind) (vs : List Value) (r : ℕ) (k : Kind) (v : Value) → A ks vs → H k v → Beside ks vs r k v → A (slice_set ks r k) (slice_set vs r v)
  all_set [] [] r k v h i b = h
  all_set [] (u ∷ vs) r k v h i b = absurd h
  all_set (l ∷ ks) [] r k v h i b = absurd h
  all_set (l ∷ ks) (u ∷ vs) zero k v h i b = (i, h.1, head_halves k v ks vs h.1 b.behind)
  all_set (l ∷ ks) (u ∷ vs) (suc r) k v h i b = (
    h.0,
    all_set ks vs r k v h.1 i (record { before = λ s e. b.before (suc s) (ap suc e); behind = b.behind }),
    set_halves l u ks vs r k v h.1 h.2 (λ e. b.before 0 (ap suc e)),
  )

  set_itself : (vs : List Value) (r : ℕ) → slice_set vs r (slice_index_or vs r (Word 0)) ≡ vs
  set_itself [] r = refl
  set_itself (v ∷ vs) zero = refl
  set_itself (v ∷ vs) (suc r) = ap (λ us. v ∷ us) (set_itself vs r)

  all_kept : (ks : List Kind) (vs : List Value) (r : ℕ) (k : Kind) → A ks vs → H k (slice_index_or vs r (Word 0)) → Beside ks vs r k (slice_index_or vs r (Word 0)) → A (slice_set ks r k) vs
  all_kept ks vs r k h i b = subst (A (slice_set ks r k)) (set_itself vs r) (all_set ks vs r k (slice_index_or vs r (Word 0)) h i b)

  -- kinds alone are made undefined
  pub all_undefine : (ks : List Kind) (vs : List Value) (r : ℕ) → A ks vs → A (slice_set ks r kind.Undefined) vs
  all_undefine ks vs r h = all_kept ks vs r kind.Undefined h (there_held (kind_at ks r) (slice_index_or vs r (Word 0)) (all_at ks vs r h)) (record { before = λ s e i j. absurd (true≢false (sym j)); behind = λ i j. absurd (true≢false (sym i)) })

  all_cleared : (r : ℕ) (half : Kind) (ks : List Kind) (vs : List Value) → A ks vs → A (cleared r half ks) vs
  all_cleared r half ks vs h = by (kind_eq (kind_at ks r) half)
    where
      by : (b : Bool) → A (if b then slice_set ks r kind.Undefined else ks) vs
      by true = all_undefine ks vs r h
      by false = h

  all_split : (r : ℕ) (ks : List Kind) (vs : List Value) → A ks vs → A (split r ks) vs
  all_split r ks vs h = all_cleared (r - 1) kind.Low (cleared (r + 1) kind.High ks) vs (all_cleared (r + 1) kind.High ks vs h)

  -- ---- what a write leaves of halves beside it

  undefined_set : (ks : List Kind) (q s : ℕ) (k : Kind) → kind_eq kind.Undefined k ≡ false → kind_eq (kind_at ks s) k ≡ false → kind_eq (kind_at (slice_set ks q kind.Undefined) s) k ≡ false
  undefined_set [] q s k u e = e
  undefined_set (l ∷ ks) zero zero k u e = u
  undefined_set (l ∷ ks) zero (suc s) k u e = e
  undefined_set (l ∷ ks) (suc q) zero k u e = e
  undefined_set (l ∷ ks) (suc q) (suc s) k u e = undefined_set ks q s k u e

  undefined_at : (ks : List Kind) (s : ℕ) (k : Kind) → kind_eq kind.Undefined k ≡ false → kind_eq (kind_at (slice_set ks s kind.Undefined) s) k ≡ false
  undefined_at [] s k u = u
  undefined_at (l ∷ ks) zero k u = u
  undefined_at (l ∷ ks) (suc s) k u = undefined_at ks s k u

  cleared_less : (ks : List Kind) (q s : ℕ) (half k : Kind) → kind_eq kind.Undefined k ≡ false → kind_eq (kind_at ks s) k ≡ false → kind_eq (kind_at (cleared q half ks) s) k ≡ false
  cleared_less ks q s half k u e = by (kind_eq (kind_at ks q) half)
    where
      by : (b : Bool) → kind_eq (kind_at (if b then slice_set ks q kind.Undefined else ks) s) k ≡ false
      by true = undefined_set ks q s k u e
      by false = e

  cleared_at : (ks : List Kind) (s : ℕ) (half : Kind) → kind_eq kind.Undefined half ≡ false → kind_eq (kind_at (cleared s half ks) s) half ≡ false
  cleared_at ks s half u = by (kind_eq (kind_at ks s) half) refl
    where
      by : (b : Bool) → kind_eq (kind_at ks s) half ≡ b → kind_eq (kind_at (if b then slice_set ks s kind.Undefined else ks) s) half ≡ false
      by true e = undefined_at ks s half u
      by false e = e

  split_behind : (ks : List Kind) (r : ℕ) → kind_eq (kind_at (split r ks) (suc r)) kind.High ≡ false
  split_behind ks r = cleared_less (cleared (r + 1) kind.High ks) (r - 1) (suc r) kind.Low kind.High refl (subst (λ q. kind_eq (kind_at (cleared q kind.High ks) (suc r)) kind.High ≡ false) next (cleared_at ks (suc r) kind.High refl))
    where
      next : suc r ≡ r + 1
      next = omega arith

  split_before : (ks : List Kind) (r s : ℕ) → r ≡ suc s → kind_eq (kind_at (split r ks) s) kind.Low ≡ false
  split_before ks r s e = subst (λ q. kind_eq (kind_at (cleared q kind.Low (cleared (r + 1) kind.High ks)) s) kind.Low ≡ false) last (cleared_at (cleared (r + 1) kind.High ks) s kind.Low refl)
    where
      last : s ≡ r - 1
      last = omega (arith, e)

  split_less : (ks : List Kind) (q s : ℕ) (k : Kind) → kind_eq kind.Undefined k ≡ false → kind_eq (kind_at ks s) k ≡ false → kind_eq (kind_at (split q ks) s) k ≡ false
  split_less ks q s k u e = cleared_less (cleared (q + 1) kind.High ks) (q - 1) s kind.Low k u (cleared_less ks (q + 1) s kind.High k u e)

  split_beside : (ks : List Kind) (vs : List Value) (r : ℕ) (k : Kind) (v : Value) → Beside (split r ks) vs r k v
  split_beside ks vs r k v = record { before = λ s e i j. wrong (kind_eq (kind_at (split r ks) s) kind.Low) i (split_before ks r s e); behind = λ i j. wrong (kind_eq (kind_at (split r ks) (suc r)) kind.High) j (split_behind ks r) }

  pub all_one : (ks : List Kind) (vs : List Value) (r : ℕ) (k : Kind) (v : Value) → A ks vs → H k v → A (written_one r k ks) (slice_set vs r v)
  all_one ks vs r k v h i = all_set (split r ks) vs r k v (all_split r ks vs h) i (split_beside ks vs r k v)

  low_read : (ks : List Kind) (vs : List Value) (r : ℕ) (u : Value) → A ks vs → kind_eq (kind_at (slice_set ks r kind.Low) r) kind.Low ≡ true → slice_index_or (slice_set vs r u) r (Word 0) ≡ u
  low_read [] [] r u h e = absurd (true≢false (sym e))
  low_read [] (v ∷ vs) r u h e = absurd h
  low_read (k ∷ ks) [] r u h e = absurd h
  low_read (k ∷ ks) (v ∷ vs) zero u h e = refl
  low_read (k ∷ ks) (v ∷ vs) (suc r) u h e = low_read ks vs r u h.1 e

  pub all_pair : (ks : List Kind) (vs : List Value) (r : ℕ) (u v : Value) → A ks vs → H kind.Low u → H kind.High v → word_of u ≡ word_of v → A (written_pair r ks) (slice_set (slice_set vs r u) (r + 1) v)
  all_pair ks vs r u v h i j same = all_set (slice_set free r kind.Low) (slice_set vs r u) (r + 1) kind.High v first j (record { before = λ s e x y. joins s (omega (arith, e)) x; behind = λ x y. absurd (true≢false (sym x)) })
    where
      free : List Kind
      free = split (r + 1) (split r ks)

      freed : A free vs
      freed = all_split (r + 1) (split r ks) vs (all_split r ks vs h)

      first : A (slice_set free r kind.Low) (slice_set vs r u)
      first = all_set free vs r kind.Low u freed i (record { before = λ s e x y. absurd (true≢false (sym y)); behind = λ x y. wrong (kind_eq (kind_at free (suc r)) kind.High) y (split_less (split r ks) (r + 1) (suc r) kind.High refl (split_behind ks r)) })

      joins : (s : ℕ) → r ≡ s → kind_eq (kind_at (slice_set free r kind.Low) s) kind.Low ≡ true → word_of (slice_index_or (slice_set vs r u) s (Word 0)) ≡ word_of v
      joins s e = subst (λ s. kind_eq (kind_at (slice_set free r kind.Low) s) kind.Low ≡ true → word_of (slice_index_or (slice_set vs r u) s (Word 0)) ≡ word_of v) e (λ x. ap word_of (low_read free vs r u freed x) ∙ same)

  -- a kind other than the low half of a wide
  abbrev pub IsSingle : Kind → Type 0
  IsSingle k = (r : ℕ) (ks : List Kind) → written_kinds r k ks ≡ written_one r k ks

  pub all_written : (ks : List Kind) (vs : List Value) (r : ℕ) (k : Kind) (v : Value) → IsSingle k → A ks vs → H k v → A (written_kinds r k ks) (slice_set vs r v)
  all_written ks vs r k v e h i = subst (λ ls. A ls (slice_set vs r v)) (sym (e r ks)) (all_one ks vs r k v h i)

  -- more is known of what a register holds
  pub all_known : (ks : List Kind) (vs : List Value) (r : ℕ) (k : Kind) → IsSingle k → A ks vs → H k (slice_index_or vs r (Word 0)) → A (written_kinds r k ks) vs
  all_known ks vs r k e h i = subst (λ ls. A ls vs) (sym (e r ks)) (all_kept (split r ks) vs r k (all_split r ks vs h) i (split_beside ks vs r k (slice_index_or vs r (Word 0))))

  -- nothing is written where nothing is known
  pub all_unwritten : (ks : List Kind) (vs : List Value) (r : ℕ) → A ks vs → A (written_one r kind.Undefined ks) vs
  all_unwritten ks vs r h = all_undefine (split r ks) vs r (all_split r ks vs h)

  keeps_head : (k l : Kind) (v : Value) (ks ls : List Kind) (vs : List Value) → KeepsHalves k l → (begins_high ls ≡ true → begins_high ks ≡ true) → AreHalves k v ks vs → AreHalves l v ls vs
  keeps_head k l v ks ls vs one more h e = h (ap (λ b. b && begins_high ks) (one.0 (and_left (kind_eq l kind.Low) (begins_high ls) e)) ∙ more (and_right (kind_eq l kind.Low) (begins_high ls) e))

  pub all_map : (g : Kind → Kind) → ((k : Kind) (v : Value) → H k v → H (g k) v × KeepsHalves k (g k)) → (ks : List Kind) (vs : List Value) → A ks vs → A (map g ks) vs
  all_map g to [] [] h = h
  all_map g to [] (v ∷ vs) h = absurd h
  all_map g to (k ∷ ks) [] h = absurd h
  all_map g to (k ∷ ks) (v ∷ vs) h = ((to k v h.0).0, all_map g to ks vs h.1, keeps_head k (g k) v ks (map g ks) vs (to k v h.0).1 (first ks vs h.1) h.2)
    where
      first : (ks : List Kind) (vs : List Value) → A ks vs → begins_high (map g ks) ≡ true → begins_high ks ≡ true
      first [] vs h e = e
      first (l ∷ ks) [] h e = absurd h
      first (l ∷ ks) (u ∷ vs) h e = (to l u h.0).1.1 e

  -- behind registers of which nothing is known
  pub all_behind : (n : ℕ) (ks : List Kind) (vs : List Value) → A ks vs → A (replicate n kind.Undefined ++ ks) (replicate n (Word 0) ++ vs)
  all_behind zero ks vs h = h
  all_behind (suc n) ks vs h = (tt, all_behind n ks vs h, no_low kind.Undefined (Word 0) (replicate n kind.Undefined ++ ks) (replicate n (Word 0) ++ vs) refl)

  below_low : (a : Kind) → is_below p a kind.Low ≡ true → kind_eq a kind.Low ≡ true
  below_low kind.Low e = refl
  below_low a e = e

  below_high : (a : Kind) → is_below p a kind.High ≡ true → kind_eq a kind.High ≡ true
  below_high kind.High e = refl
  below_high a e = e

  -- what stands above is a half only where what stands below is
  below_halves : (a b : Kind) → is_below p a b ≡ true → KeepsHalves a b
  below_halves a kind.Low e = (λ i. below_low a e, λ i. absurd (true≢false (sym i)))
  below_halves a kind.High e = (λ i. absurd (true≢false (sym i)), λ i. below_high a e)
  below_halves a b e = (λ i. absurd (true≢false (sym i)), λ i. absurd (true≢false (sym i)))

  pub all_above : ((a b : Kind) (v : Value) → is_below p a b ≡ true → H a v → H b v) → (ks ls : List Kind) (vs : List Value) → all_below p ks ls ≡ true → A ks vs → A ls vs
  all_above up [] [] vs e h = h
  all_above up [] (l ∷ ls) vs e h = absurd (true≢false (sym e))
  all_above up (k ∷ ks) [] vs e h = absurd (true≢false (sym e))
  all_above up (k ∷ ks) (l ∷ ls) [] e h = absurd h
  all_above up (k ∷ ks) (l ∷ ls) (v ∷ vs) e h = (
    up k l v (and_left (is_below p k l) (all_below p ks ls) e) h.0,
    all_above up ks ls vs (and_right (is_below p k l) (all_below p ks ls) e) h.1,
    keeps_head k l v ks ls vs (below_halves k l (and_left (is_below p k l) (all_below p ks ls) e)) (first ks ls (and_right (is_below p k l) (all_below p ks ls) e)) h.2,
  )
    where
      first : (ks ls : List Kind) → all_below p ks ls ≡ true → begins_high ls ≡ true → begins_high ks ≡ true
      first [] [] e i = i
      first [] (l ∷ ls) e i = absurd (true≢false (sym e))
      first (k ∷ ks) [] e i = absurd (true≢false (sym e))
      first (k ∷ ks) (l ∷ ls) e i = (below_halves k l (and_left (is_below p k l) (all_below p ks ls) e)).1 i

-- what holds in one world of each kind holds of all in another
pub all_later : (p : NamedProgram) (f : Framework) (c : Text) (w w1 : World) → ((k : Kind) (v : Value) → KindHolds p f c w k v → KindHolds p f c w1 k v) → (ks : List Kind) (vs : List Value) → AllHold p f c w ks vs → AllHold p f c w1 ks vs
all_later p f c w w1 to [] [] h = h
all_later p f c w w1 to [] (v ∷ vs) h = absurd h
all_later p f c w w1 to (k ∷ ks) [] h = absurd h
all_later p f c w w1 to (k ∷ ks) (v ∷ vs) h = (to k v h.0, all_later p f c w w1 to ks vs h.1, h.2)
