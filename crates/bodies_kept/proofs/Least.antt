-- What holds at the entry, and is kept along edges and by joins, holds of the least typing.
use Rattle.std.proofs.Common.{◌≡◌, ℕ, zero, suc, ◌+◌, ◌<◌, Bool, true, false, true≢false, List, [], ◌∷◌, ◌++◌, map, replicate, length, Option, Some, None, ◌⊎◌, inl, inr, refl, sym, ◌∙◌, subst, arith, get_or-set_other, get_or-set_same}
use Rattle.std.specs.Prelude.{All, slice_get, slice_index_or, slice_set}
use Rattle.std.specs.List.{sum_by}
use Rattle.std.proofs.Math.ListN.{length-set}
use Rattle.std.proofs.lemmas.Bool.{cases_eq}
use Rattle.std.proofs.lemmas.List.{length-replicate}
use Rattle.std.proofs.lemmas.Option.{slice_get_within, get_or_from_slice_get}
use Rattle.std.proofs.lemmas.List.Elements.{All-nil, All-cons, All-append, All-map}
use Rattle.std.proofs.lemmas.List.Sums.{sum_by-set}
use Rattle.insn_set.specs.declared.form.Insn.{Insn}
use Rattle.program_model.specs.declared.body.Body.{Body}
use Rattle.verify.specs.declared.kinds.Kind.{Kind}
use Rattle.verify.specs.declared.setting.Setting.{Setting}
use Rattle.verify.specs.declared.tables.Tables.{Tables}
use Rattle.verify.specs.Faults.{fault_of}
use Rattle.verify.specs.Flow.{met, raised_kinds, Arrived, arrived_at, arrived, unreached, place_at, form_after}
use Rattle.verify.specs.Frames.{Kinds}
use Rattle.verify.specs.Typings.{IsLattice, IsBelow, AtMost, Table, IsUnder, Arrives, AtEach, IsMonotone, IsTyping, IsLeastTyping, onward, catches}
use Rattle.verify.specs.Waiting.{Waits, one_if, count_of}
use Rattle.verify.proofs.Arrives.{Stands, stands_on, some_same, arrives_on, arrives_below}
use Rattle.verify.proofs.Reaches.{Reaches, reaches_same, reaches_on, arrived_reaches, all_head, all_tail, all_left, all_right, all_unmap, all_from}
use Rattle.verify.proofs.Raises.{below_itself}
use Rattle.verify.proofs.Weights.{weight}
use Rattle.verify.proofs.Wide.{form_after_long}

-- ---- frames arrive along edges

abbrev pub Edge : Type 0
Edge = ℕ × Kinds

abbrev pub Come : Tables → List Edge → Table → Type 0
Come t es y = All (λ e. Arrives t y e.0 e.1) es

abbrev sent : Tables → List Edge → Arrived → Arrived
sent t [] w = w
sent t (e ∷ es) w = sent t es (arrived t e.0 e.1 w)

sent_reaches : (t : Tables) (m : ℕ) (es : List Edge) (w : Arrived) → Stands m w → All (λ e. length e.1.registers ≡ m) es → Reaches t m (Come t es) w (sent t es w)
sent_reaches t m [] w s h = reaches_same t m (Come t []) w s (λ y. All-nil (λ e. Arrives t y e.0 e.1))
sent_reaches t m (e ∷ es) w s h =
    let first = arrived_reaches t m e.0 e.1 w s (all_head (λ (d : Edge). length d.1.registers ≡ m) e es h) in
    reaches_on t m (λ y. Arrives t y e.0 e.1) (Come t es) (Come t (e ∷ es)) w (arrived t e.0 e.1 w) (sent t es (arrived t e.0 e.1 w))
    (λ y p r. All-cons (λ d. Arrives t y d.0 d.1) e es p r) (λ y r. all_head (λ d. Arrives t y d.0 d.1) e es r) (λ y r. all_tail (λ d. Arrives t y d.0 d.1) e es r)
    first (sent_reaches t m es (arrived t e.0 e.1 w) (stands_on t m w (arrived t e.0 e.1 w) s first.grows) (all_tail (λ (d : Edge). length d.1.registers ≡ m) e es h))

-- ---- a property of frames

abbrev pub Property : Type 1
Property = ℕ → Kinds → Type 0

-- a property of all frames of a table
abbrev pub Has : Property → Table → Type 0
Has P x = (n : ℕ) (a : Kinds) → place_at x n ≡ Some a → P n a

abbrev pub Joins : Tables → ℕ → Property → Type 0
Joins t m P = (n : ℕ) (a o : Kinds) → length a.registers ≡ m → length o.registers ≡ m → P n a → P n o → P n (raised_kinds t a o)

module _ (t : Tables) (m : ℕ) (P : Property) (joins : Joins t m P) where
  arrived_has : (q : ℕ) (a : Kinds) (w : Arrived) → Stands m w → length a.registers ≡ m → P q a → Has P w.places → Has P (arrived t q a w).places
  arrived_has q a w s width p h = go (slice_get w.places q) refl
    where
      here : (old : Option Kinds) → place_at w.places q ≡ old → P q (met t a old)
      here None e = p
      here (Some o) e = joins q a o width (s.wide q o e) p (h q o e)

      old_at : (old : Option Kinds) → slice_get w.places q ≡ Some old → place_at w.places q ≡ old
      old_at old e = get_or_from_slice_get w.places q old None e

      go : (o : Option (Option Kinds)) → slice_get w.places q ≡ o → Has P (arrived_at t q a w o).places
      go None e = h
      go (Some old) e = λ n b f. elim (cases_eq n q) [
        | inl k ↦ subst (λ i. P i b) (sym k) (subst (P q) (some_same (met t a old) b (sym (get_or-set_same w.places q (Some (met t a old)) None (slice_get_within w.places q old e)) ∙ subst (λ i. place_at (slice_set w.places q (Some (met t a old))) i ≡ Some b) k f)) (here old (old_at old e)))
        | inr k ↦ h n b (sym (get_or-set_other w.places q n (Some (met t a old)) None k) ∙ f)
      ]

  sent_has : (es : List Edge) (w : Arrived) → Stands m w → All (λ e. length e.1.registers ≡ m) es → All (λ e. P e.0 e.1) es → Has P w.places → Has P (sent t es w).places
  sent_has [] w s h ps k = k
  sent_has (e ∷ es) w s h ps k =
      let width = all_head (λ (d : Edge). length d.1.registers ≡ m) e es h in
      let grows = (arrived_reaches t m e.0 e.1 w s width).grows in
      sent_has es (arrived t e.0 e.1 w) (stands_on t m w (arrived t e.0 e.1 w) s grows) (all_tail (λ (d : Edge). length d.1.registers ≡ m) e es h) (all_tail (λ (d : Edge). P d.0 d.1) e es ps)
      (arrived_has e.0 e.1 w s width (all_head (λ (d : Edge). P d.0 d.1) e es ps) k)

-- ---- which positions wait

first_waiting : (ws : List Bool) → ((n : ℕ) × ((n < length ws) × Waits ws n)) ⊎ ((n : ℕ) → Waits ws n → ⊥)
first_waiting [] = inr (λ n e. absurd (true≢false (sym e)))
first_waiting (true ∷ ws) = inl (0, (omega arith, refl))
first_waiting (false ∷ ws) = by (first_waiting ws)
  where
    none : ((n : ℕ) → Waits ws n → ⊥) → (n : ℕ) → Waits (false ∷ ws) n → ⊥
    none h zero e = true≢false (sym e)
    none h (suc n) e = h n e

    by : ((n : ℕ) × ((n < length ws) × Waits ws n)) ⊎ ((n : ℕ) → Waits ws n → ⊥) → ((n : ℕ) × ((n < length (false ∷ ws)) × Waits (false ∷ ws) n)) ⊎ ((n : ℕ) → Waits (false ∷ ws) n → ⊥)
    by (inl q) = let lt = q.1.0 in inl (suc q.0, (omega (arith, lt), q.1.1))
    by (inr h) = inr (none h)

one_less : (ws : List Bool) (n : ℕ) → n < length ws → Waits ws n → count_of (slice_set ws n false) + 1 ≡ count_of ws
one_less ws n lt e =
    let s : sum_by one_if (slice_set ws n false) + one_if (slice_index_or ws n false) ≡ sum_by one_if ws + one_if false = sum_by-set one_if ws n false false lt in
    let s' : sum_by one_if (slice_set ws n false) + one_if true ≡ sum_by one_if ws + 0 = subst (λ b. sum_by one_if (slice_set ws n false) + one_if b ≡ sum_by one_if ws + 0) e s in
    omega (arith, s')

nothing_at : {X : Type 0} (n k : ℕ) (a : X) → slice_index_or (replicate n None) k None ≡ Some a → ⊥
nothing_at zero k a e = absurd (cc)
nothing_at (suc n) zero a e = absurd (cc)
nothing_at (suc n) (suc k) a e = nothing_at n k a e

none_at : {X : Type 0} (n k : ℕ) → slice_index_or (replicate {A = Option X} n None) k None ≡ None
none_at zero k = refl
none_at (suc n) zero = refl
none_at (suc n) (suc k) = none_at n k

-- ---- a table under a typing that rises until it is one itself

module _ (s : Setting) (b : Body) (entry : Kinds) (x : Table) (l : IsLattice s.tables.now) (mono : IsMonotone s) (width : length entry.registers ≡ b.registers) (typing : IsTyping s b entry x) where
  abbrev pub t : Tables
  t = s.tables.now

  abbrev pub edges : ℕ → Insn → Kinds → List Edge
  edges n i a = map (λ q. (q, form_after s n i a)) (onward i n) ++ map (λ h. (h.0, record a { caught = h.1 })) (catches t b i n)

  pub onward_all : (R : Edge → Type 0) (n : ℕ) (i : Insn) (a : Kinds) → All (λ q. R (q, form_after s n i a)) (onward i n) → All (λ h. R (h.0, record a { caught = h.1 })) (catches t b i n) → All R (edges n i a)
  onward_all R n i a p q = All-append R (map (λ q. (q, form_after s n i a)) (onward i n)) (map (λ h. (h.0, record a { caught = h.1 })) (catches t b i n))
      (All-map R (λ q. (q, form_after s n i a)) (onward i n) p) (All-map R (λ h. (h.0, record a { caught = h.1 })) (catches t b i n) q)

  onward_in : (R : Edge → Type 0) (n : ℕ) (i : Insn) (a : Kinds) → All R (edges n i a) → All (λ q. R (q, form_after s n i a)) (onward i n)
  onward_in R n i a h = all_unmap R (λ q. (q, form_after s n i a)) (onward i n) (all_left R (map (λ q. (q, form_after s n i a)) (onward i n)) (map (λ h. (h.0, record a { caught = h.1 })) (catches t b i n)) h)

  caught_in : (R : Edge → Type 0) (n : ℕ) (i : Insn) (a : Kinds) → All R (edges n i a) → All (λ h. R (h.0, record a { caught = h.1 })) (catches t b i n)
  caught_in R n i a h = all_unmap R (λ h. (h.0, record a { caught = h.1 })) (catches t b i n) (all_right R (map (λ q. (q, form_after s n i a)) (onward i n)) (map (λ h. (h.0, record a { caught = h.1 })) (catches t b i n)) h)

  always : {X : Type 0} (R : X → Type 0) (xs : List X) → ((y : X) → R y) → All R xs
  always R [] h = All-nil R
  always R (y ∷ ys) h = All-cons R y ys (h y) (always R ys h)

  edges_wide : (n : ℕ) (i : Insn) (a : Kinds) → length a.registers ≡ b.registers → All (λ e. length e.1.registers ≡ b.registers) (edges n i a)
  edges_wide n i a w = onward_all (λ e. length e.1.registers ≡ b.registers) n i a
      (always (λ (q : ℕ). length (form_after s n i a).registers ≡ b.registers) (onward i n) (λ q. form_after_long s n i a ∙ w)) (always (λ (h : ℕ × Kind). length a.registers ≡ b.registers) (catches t b i n) (λ h. w))

  caught_below : (a c : Kinds) (k : Kind) → IsBelow t a c → IsBelow t (record a { caught = k }) (record c { caught = k })
  caught_below a c k h = record { long = h.long; registers = h.registers; result = h.result; caught = below_itself t k; receiver = h.receiver }

  -- what is lower than the typing's kinds may read, and sends what arrives there
  record Lower (n : ℕ) (i : Insn) (a : Kinds) : Type 0 where
    reads : fault_of s n a i ≡ None
    come : Come t (edges n i a) x

  lower : (n : ℕ) (i : Insn) (a : Kinds) → slice_get b.insns n ≡ Some i → AtMost t (Some a) (place_at x n) → Lower n i a
  lower n i a is h = by (place_at x n) refl h
    where
      by : (o : Option Kinds) → place_at x n ≡ o → AtMost t (Some a) o → Lower n i a
      by None e h = absurd h
      by (Some c) e h = record {
        reads = mono.reads n i a c h (typing.reads n i c is e);
        come = onward_all (λ e. Arrives t x e.0 e.1) n i a
            (all_from (λ q. Arrives t x q (form_after s n i c)) (λ q. Arrives t x q (form_after s n i a)) (onward i n) (λ q p. arrives_below t l x q (form_after s n i a) (form_after s n i c) (mono.after n i a c h (typing.reads n i c is e)) p) (typing.onward n i c is e))
            (all_from (λ k. Arrives t x k.0 (record c { caught = k.1 })) (λ k. Arrives t x k.0 (record a { caught = k.1 })) (catches t b i n) (λ k p. arrives_below t l x k.0 (record a { caught = k.1 }) (record c { caught = k.1 }) (caught_below a c k.1 h) p) (typing.caught n i c is e));
      }

  module _ (P : Property) (begins : P 0 entry) (joins : Joins t b.registers P)
      (keeps : (n : ℕ) (i : Insn) (a : Kinds) → slice_get b.insns n ≡ Some i → length a.registers ≡ b.registers → fault_of s n a i ≡ None → P n a → All (λ e. P e.0 e.1) (edges n i a)) where
    record Holds (w : Arrived) : Type 0 where
      stands : Stands b.registers w
      long : length w.places ≡ length b.insns
      first : Arrives t w.places 0 entry
      done : AtEach b w.places (λ n i a. Waits w.waits n ⊎ Come t (edges n i a) w.places)
      under : IsUnder t w.places x
      has : Has P w.places

    abbrev size : Arrived → ℕ
    size w = weight t b.registers w.places + count_of w.waits

    module _ (w : Arrived) (h : Holds w) (n : ℕ) (lt : n < length w.waits) (waits : Waits w.waits n) where
      abbrev taken : Arrived
      taken = record { places = w.places; waits = slice_set w.waits n false }

      taken_stands : Stands b.registers taken
      taken_stands = record { wide = h.stands.wide; flags = length-set w.waits n false ∙ h.stands.flags }

      taken_size : size taken + 1 ≡ size w
      taken_size = let e = one_less w.waits n lt waits in more (weight t b.registers w.places) (count_of (slice_set w.waits n false)) (count_of w.waits) e
        where
          more : (k c d : ℕ) → c + 1 ≡ d → k + c + 1 ≡ k + d
          more k c d e = omega (arith, e)

      -- there is nothing to send
      nothing : ((i : Insn) (a : Kinds) → slice_get b.insns n ≡ Some i → place_at w.places n ≡ Some a → ⊥) → Holds taken
      nothing none = record {
        stands = taken_stands;
        long = h.long;
        first = h.first;
        done = λ k i a is at. elim (cases_eq k n) [
          | inl e ↦ absurd (none i a (subst (λ j. slice_get b.insns j ≡ Some i) e is) (subst (λ j. place_at w.places j ≡ Some a) e at))
          | inr e ↦ elim (h.done k i a is at) [ inl v ↦ inl (get_or-set_other w.waits n k false false e ∙ v) | inr c ↦ inr c ]
        ];
        under = h.under;
        has = h.has;
      }

      module _ (i : Insn) (a : Kinds) (is : slice_get b.insns n ≡ Some i) (at : place_at w.places n ≡ Some a) where
        abbrev next : Arrived
        next = sent t (edges n i a) taken

        low : Lower n i a
        low = lower n i a is (subst (λ o. AtMost t o (place_at x n)) at (h.under n))

        wide : All (λ e. length e.1.registers ≡ b.registers) (edges n i a)
        wide = edges_wide n i a (h.stands.wide n a at)

        reaches : Reaches t b.registers (Come t (edges n i a)) taken next
        reaches = sent_reaches t b.registers (edges n i a) taken taken_stands wide

        come_on : (es : List Edge) (y z : Table) → length z ≡ length y → IsUnder t y z → Come t es y → Come t es z
        come_on es y z e u c = all_from (λ d. Arrives t y d.0 d.1) (λ d. Arrives t z d.0 d.1) es (λ d p. arrives_on t l y z d.0 d.1 e u p) c

        done_next : (k : ℕ) (j : Insn) (c : Kinds) → slice_get b.insns k ≡ Some j → place_at next.places k ≡ Some c → Waits next.waits k ⊎ Come t (edges k j c) next.places
        done_next k j c js cs = elim (reaches.grows.woken k) [
          | inr v ↦ inl v
          | inl same ↦ elim (cases_eq k n) [
            | inl e ↦ (
                let ej : Some i ≡ Some j = sym is ∙ subst (λ q. slice_get b.insns q ≡ Some j) e js in
                let ec : Some a ≡ Some c = sym at ∙ subst (λ q. place_at w.places q ≡ Some c) e (sym same ∙ cs) in
                inr (subst (λ q. Come t (edges q j c) next.places) (sym e) (subst (λ q. Come t (edges n q c) next.places) (some_same i j ej) (subst (λ q. Come t (edges n i q) next.places) (some_same a c ec) (reaches.holds l)))))
            | inr e ↦ elim (h.done k j c js (sym same ∙ cs)) [
              | inl v ↦ inl (reaches.grows.kept k (get_or-set_other w.waits n k false false e ∙ v))
              | inr d ↦ inr (come_on (edges k j c) w.places next.places reaches.grows.long (reaches.up l) d)
            ]
          ]
        ]

        visited : Holds next
        visited = record {
          stands = stands_on t b.registers taken next taken_stands reaches.grows;
          long = reaches.grows.long ∙ h.long;
          first = arrives_on t l w.places next.places 0 entry reaches.grows.long (reaches.up l) h.first;
          done = done_next;
          under = reaches.under l x (typing.long ∙ sym h.long) low.come h.under;
          has = sent_has t b.registers P joins (edges n i a) taken taken_stands wide (keeps n i a is (h.stands.wide n a at) low.reads (h.has n a at)) h.has;
        }

      record Steps : Type 0 where
        to : Arrived
        holds : Holds to
        less : size to < size w

      step : Steps
      step = by (slice_get b.insns n) (place_at w.places n) refl refl
        where
          same : Holds taken → Steps
          same k = let e = taken_size in record { to = taken; holds = k; less = omega (arith, e) }

          by : (i : Option Insn) (a : Option Kinds) → slice_get b.insns n ≡ i → place_at w.places n ≡ a → Steps
          by (Some i) (Some a) is at = let e = taken_size in let f = (reaches i a is at).grows.falls in record { to = next i a is at; holds = visited i a is at; less = omega (arith, e, f) }
          by None a is at = same (nothing (λ i c p q. absurd (let z : None ≡ Some i = sym is ∙ p in cc)))
          by (Some j) None is at = same (nothing (λ i c p q. absurd (let z : None ≡ Some c = sym at ∙ q in cc)))

    -- a table at which nothing waits
    record Settled : Type 0 where
      to : Arrived
      holds : Holds to
      rests : (n : ℕ) → Waits to.waits n → ⊥

    settle : (fuel : ℕ) (w : Arrived) → Holds w → size w < fuel → Settled
    settle zero w h lt = absurd (omega (arith, lt))
    settle (suc fuel) w h lt = elim (first_waiting w.waits) [
      | inr none ↦ record { to = w; holds = h; rests = none }
      | inl q ↦ (let r = step w h q.0 q.1.0 q.1.1 in let less = r.less in settle fuel r.to r.holds (omega (arith, lt, less)))
    ]

    abbrev empty : Arrived
    empty = unreached (length b.insns)

    empty_stands : Stands b.registers empty
    empty_stands = record {
      wide = λ n a e. absurd (nothing_at (length b.insns) n a e);
      flags = length-replicate (length b.insns) false ∙ sym (length-replicate (length b.insns) None);
    }

    starts : Reaches t b.registers (λ y. Arrives t y 0 entry) empty (arrived t 0 entry empty)
    starts = arrived_reaches t b.registers 0 entry empty empty_stands width

    started : Holds (arrived t 0 entry empty)
    started = record {
      stands = stands_on t b.registers empty (arrived t 0 entry empty) empty_stands starts.grows;
      long = starts.grows.long ∙ length-replicate (length b.insns) None;
      first = starts.holds l;
      done = λ n i a is at. elim (starts.grows.woken n) [ inr v ↦ inl v | inl same ↦ absurd (nothing_at (length b.insns) n a (sym same ∙ at)) ];
      under = starts.under l x (typing.long ∙ sym (length-replicate (length b.insns) None)) typing.begins (λ n. subst (λ o. AtMost t o (place_at x n)) (sym (none_at (length b.insns) n)) tt);
      has = arrived_has t b.registers P joins 0 entry empty empty_stands width begins (λ n a e. absurd (nothing_at (length b.insns) n a e));
    }

    settled : Settled
    settled = settle (suc (size (arrived t 0 entry empty))) (arrived t 0 entry empty) started (omega arith)

    -- it is a typing under the other one, and all its frames have the property
    pub record Typing : Type 0 where
      pub table : Table
      pub is_typing : IsTyping s b entry table
      pub under : IsUnder t table x
      pub has : Has P table

    pub has_typing : Typing
    has_typing =
        let h = settled.holds in
        let come : AtEach b settled.to.places (λ n i a. Come t (edges n i a) settled.to.places) = λ n i a is at. elim (h.done n i a is at) [ inr c ↦ c | inl v ↦ absurd (settled.rests n v) ] in
        record {
          table = settled.to.places;
          is_typing = record {
            long = h.long;
            wide = h.stands.wide;
            begins = h.first;
            onward = λ n i a is at. onward_in (λ e. Arrives t settled.to.places e.0 e.1) n i a (come n i a is at);
            caught = λ n i a is at. caught_in (λ e. Arrives t settled.to.places e.0 e.1) n i a (come n i a is at);
            reads = λ n i a is at. (lower n i a is (subst (λ o. AtMost t o (place_at x n)) at (h.under n))).reads;
          };
          under = h.under;
          has = h.has;
        }

-- ---- the least typing

module _ (s : Setting) (b : Body) (entry : Kinds) (x : Table) (l : IsLattice s.tables.now) (mono : IsMonotone s) (width : length entry.registers ≡ b.registers) (least : IsLeastTyping s b entry x)
    (P : Property) (begins : P 0 entry) (joins : Joins s.tables.now b.registers P)
    (keeps : (n : ℕ) (i : Insn) (a : Kinds) → slice_get b.insns n ≡ Some i → length a.registers ≡ b.registers → fault_of s n a i ≡ None → P n a → All (λ e. P e.0 e.1) (edges s b entry x l mono width least.typing n i a)) where
  -- a frame of it is one that has the property
  pub record Same (n : ℕ) (a : Kinds) : Type 0 where
    pub frame : Kinds
    pub has : P n frame
    pub up : IsBelow s.tables.now a frame
    pub down : IsBelow s.tables.now frame a

  pub least_has : (n : ℕ) (a : Kinds) → place_at x n ≡ Some a → Same n a
  least_has n a at =
      let r = has_typing s b entry x l mono width least.typing P begins joins keeps in
      by r.table r.has (subst (λ o. AtMost s.tables.now o (place_at r.table n)) at (least.least r.table r.is_typing n)) (r.under n) (place_at r.table n) refl
    where
      by : (y : Table) → Has P y → AtMost s.tables.now (Some a) (place_at y n) → AtMost s.tables.now (place_at y n) (place_at x n) → (o : Option Kinds) → place_at y n ≡ o → Same n a
      by y has u d None e = absurd (subst (AtMost s.tables.now (Some a)) e u)
      by y has u d (Some c) e = record {
        frame = c;
        has = has n c e;
        up = subst (AtMost s.tables.now (Some a)) e u;
        down = subst (AtMost s.tables.now (Some c)) at (subst (λ o. AtMost s.tables.now o (place_at x n)) e d);
      }
