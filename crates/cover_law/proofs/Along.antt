-- A step in a frame goes along an edge of the facts: what a form leaves is seen by what the analysis makes of it.
use Rattle.std.proofs.Common.{◌≡◌, ℕ, zero, suc, ◌+◌, ◌-◌, ◌<◌, ℤ, pos, negsuc, Bool, true, false, true≢false, List, [], ◌∷◌, ◌++◌, Option, Some, None, refl, sym, ap, ◌∙◌, subst, arith}
use Rattle.std.specs.Prelude.{◌≤ℤ◌, ◌||◌, ◌&&◌, not, ◌%◌, ◌^◌, nat_lt, nat_eq, length, map, slice_get, slice_set, slice_index_or, Contains, if◌then◌else◌, int_lt}
use Rattle.std.proofs.lemmas.Bool.{eqb-true, eq-eqb}
use Rattle.std.specs.Option.{option_map}
use Rattle.std.proofs.lemmas.Int.{ints, of_z-to_z}
use Rattle.std.specs.Int.{w32, w64, cast_signed, cast_unsigned}
use Rattle.insn_set.specs.declared.ops.Item.{Item}
use Rattle.insn_set.specs.declared.ops.Item.TheVariants as item
use Rattle.insn_set.specs.declared.ops.Slot.{Slot}
use Rattle.insn_set.specs.declared.ops.Slot.TheVariants as slot
use Rattle.insn_set.specs.declared.ops.BinaryOp.{BinaryOp}
use Rattle.insn_set.specs.declared.ops.BinaryOp.TheVariants as binaries
use Rattle.insn_set.specs.declared.ops.UnaryOp.{UnaryOp}
use Rattle.insn_set.specs.declared.ops.UnaryOp.TheVariants as unary
use Rattle.insn_set.specs.declared.ops.Test.{Test}
use Rattle.dalvik_defs.specs.declared.tables.FloatOp.TheVariants.{NegDouble, IntToDouble, LongToDouble, FloatToLong, FloatToDouble, DoubleToLong}
use Rattle.dalvik_defs.specs.Items.{stored, fill}
use Rattle.insn_set.specs.Widths.{is_wide_item, unary_writes_wide, binary_is_wide}
use Rattle.dalvik_defs.specs.Names.{Text, item_of, array_of}
use Rattle.dalvik_defs.specs.Known.{null_pointer, bad_cast, bad_monitor, out_of_bounds}
use Rattle.dalvik_defs.specs.Arith.{signed, passes, literal_answer, answer}
use Rattle.dalvik_defs.specs.Operators.{unary_answer, Sort, OnWord, OnWide, Shifts, OnFloat, OnDouble, sort_of, comparison, float_word, float_wide}
use Rattle.dalvik_defs.specs.State.{World, Thing, Instance, Items, is_null, kind_of, kind_of_thing, thing_at, put_thing, with_thing, next_object, word_of}
use Rattle.dalvik_defs.specs.declared.state.Value.{Value}
use Rattle.dalvik_defs.specs.declared.state.Value.TheVariants.{Word, Low, High, Object, Literal, Class}
use Rattle.dalvik_defs.specs.declared.state.Frame.{Frame}
use Rattle.dalvik_defs.specs.Effect.{Effect, Goes, Faults, Throws, Gives, Calls, Makes, Reads, Writes, Locks, Unlocks, Stuck, register, write, write_wide, write_item, next, go, sets}
use Rattle.dalvik_defs.specs.ActPlain.{move_slot, exits, is_instance, truth, branch, goes_to, switch_target, packed_target}
use Rattle.dalvik_defs.specs.ActArray.{measures, zeros as zero_items, new_array, fills, item_at, may_store, writes_item, put_item, reads_item, array_get, array_put}
use Rattle.dalvik_defs.specs.ActNumber.{number, word, gives_word, gives_wide, sets_number, binary}
use Rattle.dalvik_defs.specs.Act.{act}
use Rattle.dalvik_defs.specs.declared.forms.Form.{Form}
use Rattle.dalvik_defs.specs.declared.forms.Form.TheVariants as form
use Rattle.dalvik_defs.specs.declared.tables.Floats.{Floats}
use Rattle.dalvik_defs.specs.declared.program.NamedProgram.{NamedProgram}
use Rattle.pass_defs.specs.Facts.{Facts}
use Rattle.insn_set.specs.Widths.{unary_reads_wide, binary_is_wide, second_is_wide, compares_wide}
use Rattle.domains.specs.Ranges.{first_word, last_word}
use Rattle.pass_defs.specs.Demands.{is_equality}
use Rattle.cover_law.specs.Sound.{AreSmall, IsSmall, IsSoundOn, IsWord, NumberOf, TestedOf}
use Rattle.cover_law.proofs.Numbers.{cut}
use Rattle.pass_defs.specs.Analysis.{Analysis, IsRanged, Holds, HoldsBoth, IsNone, IsReference, on_sort, on_number, read_item}
use Rattle.run_facts.specs.Closed.{put, put_wide, put_sized, moved, refined, refined_both, then_put, arm, cases, keys_of, switched, edges, packed_key, packed_keys}
use Rattle.run_laws.specs.Fine.{IsThere}
use Rattle.run_laws.specs.Holds.{Each}
use Rattle.run_laws.specs.Invariant.{Grows}
use Rattle.run_laws.proofs.Growing.{grows_same, grows_with, grows_put, kind_later}
use Rattle.run_laws.proofs.Fine.{each_get}
use Rattle.run_laws.proofs.Climbs.{none_some, some_one}
use Rattle.run_laws.proofs.ArrayForms.{kind_new}
use Rattle.form_laws.specs.Changes.{operands}

-- ---- registers that are written

set_same : (vs : List Value) (n : ℕ) (u z : Value) → slice_get (slice_set vs n u) n ≡ Some z → u ≡ z
set_same [] n u z e = none_some z e
set_same (v ∷ vs) zero u z e = some_one u z e
set_same (v ∷ vs) (suc n) u z e = set_same vs n u z e

set_other : (vs : List Value) (n r : ℕ) (u : Value) → (r ≡ n → ⊥) → slice_get (slice_set vs n u) r ≡ slice_get vs r
set_other [] n r u d = refl
set_other (v ∷ vs) zero zero u d = absurd (d refl)
set_other (v ∷ vs) zero (suc r) u d = refl
set_other (v ∷ vs) (suc n) zero u d = refl
set_other (v ∷ vs) (suc n) (suc r) u d = set_other vs n r u (λ e. d (ap suc e))

pub read : (vs : List Value) (s : ℕ) (v d : Value) → slice_get vs s ≡ Some v → slice_index_or vs s d ≡ v
read [] s v d e = none_some v e
read (u ∷ vs) zero v d e = some_one u v e
read (u ∷ vs) (suc s) v d e = read vs s v d e

small_word : (n : ℕ) → n < 2 ^ 32 → IsSmall (cast_signed w32 n)
small_word n l = (low n l, high n l)
  where
    low : (n : ℕ) → n < 2 ^ 32 → first_word ≤ℤ cast_signed w32 n
    low n l = omega (arith, ints, l)

    high : (n : ℕ) → n < 2 ^ 32 → cast_signed w32 n ≤ℤ last_word
    high n l = omega (arith, ints, l)

small_signed : (n : ℕ) → IsSmall (signed false (n % 2 ^ 32))
small_signed n = by (n % 2 ^ 32) (cut n)
  where
    by : (m : ℕ) → m < 2 ^ 32 → IsSmall (signed false m)
    by m l = subst (λ k. IsSmall (cast_signed w32 k)) (sym (whole m l)) (small_word m l)
      where
        whole : (m : ℕ) → m < 2 ^ 32 → m % 2 ^ 32 ≡ m
        whole m l = omega (arith, l)

-- ---- operands as the typing has them

abbrev pub Suits : Frame → Form → Type 0
Suits f (form.Unary op to from) = NumberOf (unary_reads_wide op) (register f from)
Suits f (form.Binary op to r s) = NumberOf (binary_is_wide op) (register f r) × NumberOf (second_is_wide op) (register f s)
Suits f (form.Literal op to r value) = IsWord (register f r) × IsSmall value
Suits f (form.Cmp op to r s) = NumberOf (compares_wide op) (register f r) × NumberOf (compares_wide op) (register f s)
Suits f (form.If test r s target) = TestedOf (is_equality test) (register f r) × TestedOf (is_equality test) (register f s)
Suits f (form.IfZero test r target) = TestedOf (is_equality test) (register f r)
Suits f (form.PackedSwitch on first targets) = IsWord (register f on)
Suits f (form.SparseSwitch on keys targets) = IsWord (register f on) × AreSmall keys
Suits f y = Unit {0}

module _ {V : Type 0} (a : Analysis V) (p : NamedProgram) (t : Facts V) where
  abbrev See : V → World → Value → Type 0
  See x w v = a.holds x (kind_of w v) v

  abbrev SeeAll : (ℕ → V) → World → List Value → Type 0
  SeeAll x w vs = (r : ℕ) (v : Value) → slice_get vs r ≡ Some v → See (x r) w v

  pub sees_later : (w w1 : World) (x : V) (v : Value) → Grows w w1 → IsThere w v → See x w v → See x w1 v
  sees_later w w1 x v g i h = subst (λ k. a.holds x k v) (sym (kind_later w w1 g v i)) h

  pub sees_put : (x : ℕ → V) (w : World) (vs : List Value) (to : ℕ) (y : V) (u : Value) → SeeAll x w vs → See y w u → SeeAll (put a to y x) w (slice_set vs to u)
  sees_put x w vs to y u h k r v e = by (nat_eq r to) refl
    where
      by : (b : Bool) → nat_eq r to ≡ b → See (if b then y else x r) w v
      by true i = subst (See y w) (set_same vs to u v (ap (λ n. slice_get (slice_set vs to u) n) (sym (eqb-true r to i)) ∙ e)) k
      by false i = h r v (sym (set_other vs to r u (λ j. true≢false (sym (eq-eqb r to j) ∙ i))) ∙ e)

  module _ (under : Text → Text → Bool) (floats : Floats) (sound : IsSoundOn a under floats) where
    -- the low half, and the high half beside it, of which nothing is known
    pub sees_wide : (x : ℕ → V) (w : World) (vs : List Value) (to : ℕ) (y : V) (n : ℕ) → SeeAll x w vs → a.holds y [] (Low n) → SeeAll (put_wide a to y x) w (slice_set (slice_set vs to (Low n)) (to + 1) (High n))
    sees_wide x w vs to y n h k = sees_put (put a to y x) w (slice_set vs to (Low n)) (to + 1) a.any (High n) (sees_put x w vs to y (Low n) h k) (sound.all [] (High n) tt)

    module _ (w : World) (f : Frame) (x : ℕ → V) (all : SeeAll x w f.registers) (there : (r : ℕ) → IsThere w (register f r))
        (arrays : (n : ℕ) (k : Text) (vs : List Value) → slice_get w.heap n ≡ Some (Items k vs) → (length vs < 2 ^ 31) × Each IsRanged vs) where
      -- a step goes along one of some edges
      abbrev pub Along : List (ℕ × (ℕ → V)) → Effect → Type 0
      Along es (Goes w1 f1) = (q : ℕ × (ℕ → V)) × Contains es q × (f1.position ≡ q.0) × SeeAll q.1 w1 f1.registers
      Along es e = Unit {0}

      abbrev pub Seen : ℕ → Type 0
      Seen r = See (x r) w (register f r)

      abbrev pub Looks : List ℕ → Type 0
      Looks [] = Unit {0}
      Looks (r ∷ rs) = Seen r × Looks rs

      here : (q : ℕ × (ℕ → V)) (es : List (ℕ × (ℕ → V))) → Contains (q ∷ es) q
      here q es = (0, omega arith, refl)

      -- along the only edge, to the next position
      onward : (y : ℕ → V) (w1 : World) (vs : List Value) → SeeAll y w1 vs → Along (arm a (f.position + 1) (Some y)) (Goes w1 (next (record f { registers = vs })))
      onward y w1 vs h = ((f.position + 1, y), here (f.position + 1, y) [], refl, h)

      writes_one : (to : ℕ) (y : V) (u : Value) → See y w u → Along (arm a (f.position + 1) (Some (put a to y x))) (Goes w (next (write f to u)))
      writes_one to y u h = onward (put a to y x) w (slice_set f.registers to u) (sees_put x w f.registers to y u all h)

      writes_wide : (to : ℕ) (y : V) (n : ℕ) → a.holds y [] (Low n) → Along (arm a (f.position + 1) (Some (put_wide a to y x))) (Goes w (next (write_wide f to n)))
      writes_wide to y n h = onward (put_wide a to y x) w (slice_set (slice_set f.registers to (Low n)) (to + 1) (High n)) (sees_wide x w f.registers to y n all h)

      moves : (s : Slot) (to from : ℕ) → Looks (operands (form.Move s to from)) → Along (arm a (f.position + 1) (Some (moved a s to from x))) (Goes w (next (move_slot s f to from)))
      moves slot.Word to from h = writes_one to (x from) (register f from) h.0
      moves slot.Object to from h = writes_one to (x from) (register f from) h.0
      moves slot.Wide to from h = onward (moved a slot.Wide to from x) w (slice_set (slice_set f.registers to (register f from)) (to + 1) (register f (from + 1)))
          (sees_put (put a to (x from) x) w (slice_set f.registers to (register f from)) (to + 1) (x (from + 1)) (register f (from + 1)) (sees_put x w f.registers to (x from) (register f from) all h.0) h.1.0)

      -- a register that is seen closer
      closer_all : (x1 : ℕ → V) (r : ℕ) (y : V) → SeeAll x1 w f.registers → a.holds y (kind_of w (register f r)) (register f r) → SeeAll (put a r y x1) w f.registers
      closer_all x1 r y h k s v e = by (nat_eq s r) refl
        where
          by : (b : Bool) → nat_eq s r ≡ b → See (if b then y else x1 s) w v
          by true i = subst (See y w) (ap (register f) (sym (eqb-true s r i)) ∙ read f.registers s v (Word 0) e) k
          by false i = h s v e

      pub closer : (r : ℕ) (o : Option V) → Holds a o (kind_of w (register f r)) (register f r) → Along (arm a (f.position + 1) (refined a r o x)) (Goes w (next f))
      closer r None h = absurd h
      closer r (Some y) h = onward (put a r y x) w f.registers (closer_all x r y all h)

      -- and a number that is written then
      closer_then : (r to : ℕ) (o : Option V) (y : V) (n : ℕ) → Holds a o (kind_of w (register f r)) (register f r) → a.holds y [] (Word n)
          → Along (arm a (f.position + 1) (then_put a false to y (refined a r o x))) (Goes w (next (write f to (Word n))))
      closer_then r to None y n h k = absurd h
      closer_then r to (Some z) y n h k = onward (put a to y (put a r z x)) w (slice_set f.registers to (Word n)) (sees_put (put a r z x) w f.registers to y (Word n) (closer_all x r z all h) k)

      unless : (b : Bool) (es : List (ℕ × (ℕ → V))) (c : Text) (e : Effect) → (b ≡ false → Along es e) → Along es (elim b as (λ b. Effect) [ true ↦ Faults c | false ↦ e ])
      unless true es c e h = tt
      unless false es c e h = h refl

      pub used : (r : ℕ) → Seen r → is_null (register f r) ≡ false → Holds a (a.held (x r)) (kind_of w (register f r)) (register f r)
      used r s e = sound.holders (x r) (kind_of w (register f r)) (register f r) s e

      bounded : (v : Value) (k : Text) (vs : List Value) → thing_at w v ≡ Some (Items k vs) → length vs < 2 ^ 31
      bounded (Object n) k vs i = (arrays n k vs i).0
      bounded v k vs i = none_some (Items k vs) i

      lengths : (from to : ℕ) → Seen from → (o : Option Thing) → thing_at w (register f from) ≡ o → is_null (register f from) ≡ false → Along (arm a (f.position + 1) (then_put a false to a.length (refined a from (a.held (x from)) x))) (measures o w f to)
      lengths from to s (Some (Items k vs)) i e = closer_then from to (a.held (x from)) a.length (length vs) (used from s e) (sound.lengths [] (length vs) (bounded (register f from) k vs i))
      lengths from to s (Some (Instance c fs)) i e = tt
      lengths from to s None i e = tt

      cast : (on : ℕ) (kind : Text) → Seen on → (b d : Bool) → is_null (register f on) ≡ b → under (kind_of w (register f on)) kind ≡ d
          → Along (arm a (f.position + 1) (refined a on (a.cast kind (x on)) x)) (elim (b || (not b && d)) as (λ b. Effect) [ true ↦ Goes w (next f) | false ↦ Faults bad_cast ])
      cast on kind s true d e i = closer on (a.cast kind (x on)) (sound.casts kind (x on) (kind_of w (register f on)) (register f on) s (ap (λ b. b || under (kind_of w (register f on)) kind) e))
      cast on kind s false true e i = closer on (a.cast kind (x on)) (sound.casts kind (x on) (kind_of w (register f on)) (register f on) s (ap (λ b. b || under (kind_of w (register f on)) kind) e ∙ i))
      cast on kind s false false e i = tt

      answers : (to : ℕ) (b : Bool) → Along (arm a (f.position + 1) (Some (put a to a.truth x))) (sets w f to (truth b))
      answers to true = writes_one to a.truth (Word 1) (sound.truths []).1
      answers to false = writes_one to a.truth (Word 0) (sound.truths []).0

      -- ---- branches

      later_in : (q u : ℕ × (ℕ → V)) (es : List (ℕ × (ℕ → V))) → Contains es q → Contains (u ∷ es) q
      later_in q u es h = (suc h.0, omega (arith, h.1), h.2)

      behind : (n : ℕ) (o : Option (ℕ → V)) (es : List (ℕ × (ℕ → V))) (e : Effect) → Along es e → Along (arm a n o ++ es) e
      behind n None es e h = h
      behind n (Some y) es (Goes w1 f1) h = (h.0, later_in h.0 (n, y) es h.1, h.2, h.3)
      behind n (Some y) es (Faults c) h = tt
      behind n (Some y) es (Throws v) h = tt
      behind n (Some y) es (Gives v) h = tt
      behind n (Some y) es (Calls kind k vs) h = tt
      behind n (Some y) es (Makes to c) h = tt
      behind n (Some y) es (Reads i to k on) h = tt
      behind n (Some y) es (Writes k on v) h = tt
      behind n (Some y) es (Locks v) h = tt
      behind n (Some y) es (Unlocks v) h = tt
      behind n (Some y) es Stuck h = tt

      -- along the first edge, to a position
      goes_to_first : (n : ℕ) (y : ℕ → V) (es : List (ℕ × (ℕ → V))) → SeeAll y w f.registers → Along ((n, y) ∷ es) (Goes w (go f n))
      goes_to_first n y es h = ((n, y), here (n, y) es, refl, h)

      arm_first : (n r s : ℕ) (o : Option (V × V)) (es : List (ℕ × (ℕ → V))) → HoldsBoth a o (kind_of w (register f r)) (register f r) (kind_of w (register f s)) (register f s)
          → Along (arm a n (refined_both a r s o x) ++ es) (Goes w (go f n))
      arm_first n r s None es h = absurd h
      arm_first n r s (Some y) es h = goes_to_first n (put a s y.1 (put a r y.0 x)) es (closer_all (put a r y.0 x) s y.1 (closer_all x r y.0 all h.0) h.1)

      one_first : (n r : ℕ) (o : Option V) (es : List (ℕ × (ℕ → V))) → Holds a o (kind_of w (register f r)) (register f r) → Along (arm a n (refined a r o x) ++ es) (Goes w (go f n))
      one_first n r None es h = absurd h
      one_first n r (Some y) es h = goes_to_first n (put a r y x) es (closer_all x r y all h)

      no_more : (es : List (ℕ × (ℕ → V))) → es ++ [] ≡ es
      no_more [] = refl
      no_more (e ∷ es) = ap (λ l. e ∷ l) (no_more es)

      tests : (test : Test) (r s target : ℕ) → TestedOf (is_equality test) (register f r) → TestedOf (is_equality test) (register f s) → Seen r → Seen s → (b : Bool) → passes test (register f r) (register f s) ≡ b
          → Along (arm a (f.position + 1) (refined_both a r s (a.tested false test (x r) (x s)) x) ++ arm a target (refined_both a r s (a.tested true test (x r) (x s)) x)) (branch b w f target)
      tests test r s target or os sr ss b e = by b (subst (λ d. HoldsBoth a (a.tested d test (x r) (x s)) (kind_of w (register f r)) (register f r) (kind_of w (register f s)) (register f s)) e
          (sound.tests test (x r) (x s) (kind_of w (register f r)) (kind_of w (register f s)) (register f r) (register f s) or os sr ss))
        where
          by : (b : Bool) → HoldsBoth a (a.tested b test (x r) (x s)) (kind_of w (register f r)) (register f r) (kind_of w (register f s)) (register f s)
              → Along (arm a (f.position + 1) (refined_both a r s (a.tested false test (x r) (x s)) x) ++ arm a target (refined_both a r s (a.tested true test (x r) (x s)) x)) (branch b w f target)
          by true h = behind (f.position + 1) (refined_both a r s (a.tested false test (x r) (x s)) x) (arm a target (refined_both a r s (a.tested true test (x r) (x s)) x)) (Goes w (go f target))
              (subst (λ es. Along es (Goes w (go f target))) (no_more (arm a target (refined_both a r s (a.tested true test (x r) (x s)) x))) (arm_first target r s (a.tested true test (x r) (x s)) [] h))
          by false h = arm_first (f.position + 1) r s (a.tested false test (x r) (x s)) (arm a target (refined_both a r s (a.tested true test (x r) (x s)) x)) h

      one_of : (o : Option (V × V)) (k l : Text) (v u : Value) → HoldsBoth a o k v l u → Holds a (option_map (λ y. y.0) o) k v
      one_of None k l v u h = h
      one_of (Some y) k l v u h = h.0

      zero_tested : (b : Bool) → TestedOf b (Word 0)
      zero_tested true = omega arith
      zero_tested false = omega arith

      zeros : (test : Test) (r target : ℕ) → TestedOf (is_equality test) (register f r) → Seen r → (b : Bool) → passes test (register f r) (Word 0) ≡ b
          → Along (arm a (f.position + 1) (refined a r (option_map (λ v. v.0) (a.tested false test (x r) (a.known (Word 0)))) x) ++ arm a target (refined a r (option_map (λ v. v.0) (a.tested true test (x r) (a.known (Word 0)))) x)) (branch b w f target)
      zeros test r target or sr b e = by b (subst (λ d. HoldsBoth a (a.tested d test (x r) (a.known (Word 0))) (kind_of w (register f r)) (register f r) [] (Word 0)) e
          (sound.tests test (x r) (a.known (Word 0)) (kind_of w (register f r)) [] (register f r) (Word 0) or (zero_tested (is_equality test)) sr (sound.knows [] (Word 0))))
        where
          by : (b : Bool) → HoldsBoth a (a.tested b test (x r) (a.known (Word 0))) (kind_of w (register f r)) (register f r) [] (Word 0)
              → Along (arm a (f.position + 1) (refined a r (option_map (λ v. v.0) (a.tested false test (x r) (a.known (Word 0)))) x) ++ arm a target (refined a r (option_map (λ v. v.0) (a.tested true test (x r) (a.known (Word 0)))) x)) (branch b w f target)
          by true h = behind (f.position + 1) (refined a r (option_map (λ v. v.0) (a.tested false test (x r) (a.known (Word 0)))) x) (arm a target (refined a r (option_map (λ v. v.0) (a.tested true test (x r) (a.known (Word 0)))) x)) (Goes w (go f target))
              (subst (λ es. Along es (Goes w (go f target))) (no_more (arm a target (refined a r (option_map (λ v. v.0) (a.tested true test (x r) (a.known (Word 0)))) x)))
              (one_first target r (option_map (λ v. v.0) (a.tested true test (x r) (a.known (Word 0)))) [] (one_of (a.tested true test (x r) (a.known (Word 0))) (kind_of w (register f r)) [] (register f r) (Word 0) h)))
          by false h = one_first (f.position + 1) r (option_map (λ v. v.0) (a.tested false test (x r) (a.known (Word 0)))) (arm a target (refined a r (option_map (λ v. v.0) (a.tested true test (x r) (a.known (Word 0)))) x))
              (one_of (a.tested false test (x r) (a.known (Word 0))) (kind_of w (register f r)) [] (register f r) (Word 0) h)

      -- ---- numbers

      unaries : (op : UnaryOp) (to from : ℕ) → NumberOf (unary_reads_wide op) (register f from) → Seen from → Along (arm a (f.position + 1) (Some (put_sized a (unary_writes_wide op) to (a.unary op (x from)) x))) (sets_number (unary_answer floats op (number f from)) w f to)
      unaries op to from o s = by op (a.unary op (x from)) (number f from) (sound.unaries op (x from) (kind_of w (register f from)) [] (register f from) o s)
        where
          by : (op : UnaryOp) (y : V) (n : ℕ) → a.holds y [] (on_number (unary_answer floats op n)) → Along (arm a (f.position + 1) (Some (put_sized a (unary_writes_wide op) to y x))) (sets_number (unary_answer floats op n) w f to)
          by unary.NegLong y n h = writes_wide to y ((2 ^ 64 - n) % 2 ^ 64) h
          by unary.NotLong y n h = writes_wide to y (2 ^ 64 - 1 - n) h
          by unary.NegDouble y n h = writes_wide to y (float_wide floats NegDouble n 0) h
          by unary.IntToLong y n h = writes_wide to y (cast_unsigned w64 (signed false n)) h
          by unary.IntToDouble y n h = writes_wide to y (float_wide floats IntToDouble n 0) h
          by unary.LongToDouble y n h = writes_wide to y (float_wide floats LongToDouble n 0) h
          by unary.FloatToLong y n h = writes_wide to y (float_wide floats FloatToLong n 0) h
          by unary.FloatToDouble y n h = writes_wide to y (float_wide floats FloatToDouble n 0) h
          by unary.DoubleToLong y n h = writes_wide to y (float_wide floats DoubleToLong n 0) h
          by op y n h = writes_one to y (on_number (unary_answer floats op n)) h

      abbrev is_wide_sort : Sort → Bool
      is_wide_sort (OnWord k) = false
      is_wide_sort (OnWide k) = true
      is_wide_sort (Shifts k) = true
      is_wide_sort (OnFloat op) = false
      is_wide_sort (OnDouble op) = true

      sort_wide : (op : BinaryOp) → binary_is_wide op ≡ is_wide_sort (sort_of op)
      sort_wide binaries.AddInt = refl
      sort_wide op = refl

      words : (to : ℕ) (o : Option V) (n : Option ℕ) → ((m : ℕ) → n ≡ Some m → Holds a o [] (Word m)) → Along (arm a (f.position + 1) (option_map (λ v. put a to v x) o)) (gives_word n w f to)
      words to o None h = tt
      words to o (Some m) h = by o (h m refl)
        where
          by : (o : Option V) → Holds a o [] (Word m) → Along (arm a (f.position + 1) (option_map (λ v. put a to v x) o)) (Goes w (next (write f to (Word m))))
          by None h = absurd h
          by (Some y) h = writes_one to y (Word m) h

      wides : (to : ℕ) (o : Option V) (n : Option ℕ) → ((m : ℕ) → n ≡ Some m → Holds a o [] (Low m)) → Along (arm a (f.position + 1) (option_map (λ v. put_wide a to v x) o)) (gives_wide n w f to)
      wides to o None h = tt
      wides to o (Some m) h = by o (h m refl)
        where
          by : (o : Option V) → Holds a o [] (Low m) → Along (arm a (f.position + 1) (option_map (λ v. put_wide a to v x) o)) (Goes w (next (write_wide f to m)))
          by None h = absurd h
          by (Some y) h = writes_wide to y m h

      sorts : (s : Sort) (to r q : ℕ) (o : Option V) → ((z : Value) → on_sort floats s (number f r) (number f q) ≡ Some z → Holds a o [] z)
          → Along (arm a (f.position + 1) (option_map (λ v. put_sized a (is_wide_sort s) to v x) o)) (binary floats s w f to r q)
      sorts (OnWord k) to r q o h = words to o (answer k false (word f r) (word f q)) (λ m e. h (Word m) (ap (λ n. elim n as (λ n. Option Value) [ Some i ↦ Some (Word i) | None ↦ None ]) e))
      sorts (OnWide k) to r q o h = wides to o (answer k true (number f r) (number f q)) (λ m e. h (Low m) (ap (λ n. elim n as (λ n. Option Value) [ Some i ↦ Some (Low i) | None ↦ None ]) e))
      sorts (Shifts k) to r q o h = wides to o (answer k true (number f r) (number f q)) (λ m e. h (Low m) (ap (λ n. elim n as (λ n. Option Value) [ Some i ↦ Some (Low i) | None ↦ None ]) e))
      sorts (OnFloat op) to r q o h = words to o (Some (float_word floats op (number f r) (number f q))) (λ m e. subst (λ i. Holds a o [] (Word i)) (some_one (float_word floats op (number f r) (number f q)) m e) (h (Word (float_word floats op (number f r) (number f q))) refl))
      sorts (OnDouble op) to r q o h = wides to o (Some (float_wide floats op (number f r) (number f q))) (λ m e. subst (λ i. Holds a o [] (Low i)) (some_one (float_wide floats op (number f r) (number f q)) m e) (h (Low (float_wide floats op (number f r) (number f q))) refl))

      -- ---- switches

      same_int : (z k : ℤ) → (int_lt z k || int_lt k z) ≡ false → z ≡ k
      same_int z k e = grind (arith, ints)

      other_int : (z k : ℤ) → (int_lt z k || int_lt k z) ≡ true → k ≡ z → ⊥
      other_int z k e i = grind (arith, ints)

      abbrev Switches : ℕ → List ℤ → List ℕ → Option ℕ → Type 0
      Switches on ks ts None = IsNone (keys_of a ks ts) (signed false (number f on))
      Switches on ks ts (Some q) = Along (cases a on ks ts x) (Goes w (go f q))

      switches : (on : ℕ) → IsWord (register f on) → Seen on → (ks : List ℤ) (ts : List ℕ) → Switches on ks ts (switch_target (signed false (number f on)) ks ts)
      switches on ow s [] ts = tt
      switches on ow s (k ∷ ks) [] = tt
      switches on ow s (k ∷ ks) (t ∷ ts) = by (int_lt (signed false (number f on)) k || int_lt k (signed false (number f on))) refl (switch_target (signed false (number f on)) ks ts) (switches on ow s ks ts)
        where
          by : (b : Bool) → (int_lt (signed false (number f on)) k || int_lt k (signed false (number f on))) ≡ b → (q : Option ℕ) → Switches on ks ts q → Switches on (k ∷ ks) (t ∷ ts) (elim b as (λ b. Option ℕ) [ true ↦ q | false ↦ Some t ])
          by true e None h = (other_int (signed false (number f on)) k e, h)
          by true e (Some q) h = behind t (refined a on (a.keyed k (x on)) x) (cases a on ks ts x) (Goes w (go f q)) h
          by false e q h = one_first t on (a.keyed k (x on)) (cases a on ks ts x) (sound.keys k (x on) (kind_of w (register f on)) (register f on) ow s (same_int (signed false (number f on)) k e))

      small_keys : (ks : List ℤ) (ts : List ℕ) → AreSmall ks → AreSmall (keys_of a ks ts)
      small_keys [] ts h = tt
      small_keys (k ∷ ks) [] h = tt
      small_keys (k ∷ ks) (t ∷ ts) h = (h.0, small_keys ks ts h.1)

      switched_to : (on : ℕ) → IsWord (register f on) → Seen on → (ks : List ℤ) (ts : List ℕ) (q : Option ℕ) → AreSmall ks → Switches on ks ts q → Along (switched a on ks ts f.position x) (goes_to q w f)
      switched_to on ow s ks ts None sm h = one_first (f.position + 1) on (a.unkeyed (keys_of a ks ts) (x on)) (cases a on ks ts x) (sound.others (keys_of a ks ts) (x on) (kind_of w (register f on)) (register f on) ow (small_keys ks ts sm) s h)
      switched_to on ow s ks ts (Some q) sm h = behind (f.position + 1) (refined a on (a.unkeyed (keys_of a ks ts) (x on)) x) (cases a on ks ts x) (Goes w (go f q)) h

      -- ---- arrays

      -- to the next position in a later world, with registers
      pub onward_in : (y : ℕ → V) (w1 : World) (f1 : Frame) → f1.position ≡ f.position + 1 → SeeAll y w1 f1.registers → Along (arm a (f.position + 1) (Some y)) (Goes w1 f1)
      onward_in y w1 f1 e h = ((f.position + 1, y), here (f.position + 1, y) [], e, h)

      later_all : (y : ℕ → V) (w1 : World) → Grows w w1 → SeeAll y w f.registers → SeeAll y w1 f.registers
      later_all y w1 g h r v e = sees_later w w1 (y r) v g (subst (IsThere w) (read f.registers r v (Word 0) e) (there r)) (h r v e)

      -- behind a use of an object, in a later world
      pub held_in : (r : ℕ) (o : Option V) (w1 : World) → Grows w w1 → Holds a o (kind_of w (register f r)) (register f r) → Along (arm a (f.position + 1) (refined a r o x)) (Goes w1 (next f))
      held_in r None w1 g h = absurd h
      held_in r (Some y) w1 g h = onward_in (put a r y x) w1 (next f) refl (later_all (put a r y x) w1 g (closer_all x r y all h))

      pub new_seen : (t : Thing) (k : Text) → kind_of_thing t ≡ k → See (a.made k) (with_thing w t) (next_object w)
      new_seen t k e = subst (λ j. a.holds (a.made k) j (next_object w)) (sym (kind_new w t ∙ e)) (sound.makes k (length w.heap))

      array_made : (z : ℤ) (kind : Text) (to : ℕ) → array_of (item_of kind) ≡ kind → Along (arm a (f.position + 1) (Some (put a to (a.made kind) x))) (new_array z kind w f to)
      array_made (negsuc n) kind to e = tt
      array_made (pos n) kind to e = let t = zero_items (item_of kind) n in let w1 = with_thing w t in
          onward_in (put a to (a.made kind) x) w1 (next (write f to (next_object w))) refl
          (sees_put x w1 f.registers to (a.made kind) (next_object w) (later_all x w1 (grows_with w t) all) (new_seen t kind e))

      fills_seen : (on : ℕ) → Seen on → (ns : List ℕ) (o : Option Thing) → thing_at w (register f on) ≡ o → is_null (register f on) ≡ false → Along (arm a (f.position + 1) (refined a on (a.held (x on)) x)) (fills o w f (register f on) ns)
      fills_seen on s ns (Some (Items k vs)) i e = unless (nat_lt (length vs) (length ns)) (arm a (f.position + 1) (refined a on (a.held (x on)) x)) out_of_bounds (Goes (put_thing w (register f on) (Items k (fill k ns vs))) (next f))
          (λ j. held_in on (a.held (x on)) (put_thing w (register f on) (Items k (fill k ns vs))) (grows_put w (register f on) (Items k vs) (Items k (fill k ns vs)) i refl) (used on s e))
      fills_seen on s ns (Some (Instance c fs)) i e = tt
      fills_seen on s ns None i e = tt

      put_kind : (i : Item) (k : Text) (vs : List Value) (at : ℤ) (v : Value) → kind_of_thing (put_item i k vs at v) ≡ kind_of_thing (Items k vs)
      put_kind i k vs (pos n) v = refl
      put_kind i k vs (negsuc n) v = refl

      stores_seen : (i : Item) (on : ℕ) → Seen on → (v : Value) (at : ℤ) (o : Option Thing) → thing_at w (register f on) ≡ o → is_null (register f on) ≡ false
          → Along (arm a (f.position + 1) (refined a on (a.held (x on)) x)) (array_put under i o w f v (register f on) at)
      stores_seen i on s v at (Some (Items k vs)) j e = by (item_at vs at)
        where
          stored_at : (b : Bool) → Along (arm a (f.position + 1) (refined a on (a.held (x on)) x)) (writes_item b w f (register f on) (put_item i k vs at v))
          stored_at true = held_in on (a.held (x on)) (put_thing w (register f on) (put_item i k vs at v)) (grows_put w (register f on) (Items k vs) (put_item i k vs at v) j (put_kind i k vs at v)) (used on s e)
          stored_at false = tt

          by : (z : Option Value) → Along (arm a (f.position + 1) (refined a on (a.held (x on)) x)) (elim z as (λ z. Effect) [ Some old ↦ writes_item (may_store under w i v k) w f (register f on) (put_item i k vs at v) | None ↦ Faults out_of_bounds ])
          by None = tt
          by (Some old) = stored_at (may_store under w i v k)
      stores_seen i on s v at (Some (Instance c fs)) j e = tt
      stores_seen i on s v at None j e = tt

      -- ---- items that are read

      -- an item, or a field, that is written into registers
      pub item_seen : (i : Item) (to : ℕ) (y : V) (x1 : ℕ → V) (w1 : World) (v : Value) → SeeAll x1 w1 f.registers → a.holds y (kind_of w1 (read_item a i v)) (read_item a i v)
          → SeeAll (put_sized a (is_wide_item i) to y x1) w1 (write_item i f to v).registers
      item_seen item.Wide to y x1 w1 v h k = sees_wide x1 w1 f.registers to y (word_of v) h k
      item_seen item.Plain to y x1 w1 v h k = sees_put x1 w1 f.registers to y v h k
      item_seen item.Object to y x1 w1 v h k = sees_put x1 w1 f.registers to y v h k
      item_seen item.Boolean to y x1 w1 v h k = sees_put x1 w1 f.registers to y v h k
      item_seen item.Byte to y x1 w1 v h k = sees_put x1 w1 f.registers to y v h k
      item_seen item.Char to y x1 w1 v h k = sees_put x1 w1 f.registers to y v h k
      item_seen item.Short to y x1 w1 v h k = sees_put x1 w1 f.registers to y v h k

      item_position : (i : Item) (to : ℕ) (v : Value) → (next (write_item i f to v)).position ≡ f.position + 1
      item_position item.Wide to v = refl
      item_position i to v = refl

      pub item_ranged : (i : Item) (v : Value) → IsRanged v → IsRanged (read_item a i v)
      item_ranged item.Wide v h = tt
      item_ranged i v h = h

      -- behind a use of an object, in a later world
      pub then_item : (r to : ℕ) (o : Option V) (i : Item) (y : V) (w1 : World) (v : Value) → Grows w w1 → Holds a o (kind_of w (register f r)) (register f r) → a.holds y (kind_of w1 (read_item a i v)) (read_item a i v)
          → Along (arm a (f.position + 1) (then_put a (is_wide_item i) to y (refined a r o x))) (Goes w1 (next (write_item i f to v)))
      then_item r to None i y w1 v g h k = absurd h
      then_item r to (Some z) i y w1 v g h k = onward_in (put_sized a (is_wide_item i) to y (put a r z x)) w1 (next (write_item i f to v)) (item_position i to v)
          (item_seen i to y (put a r z x) w1 v (later_all (put a r z x) w1 g (closer_all x r z all h)) k)

      pub just_item : (to : ℕ) (i : Item) (y : V) (w1 : World) (v : Value) → Grows w w1 → a.holds y (kind_of w1 (read_item a i v)) (read_item a i v)
          → Along (arm a (f.position + 1) (Some (put_sized a (is_wide_item i) to y x))) (Goes w1 (next (write_item i f to v)))
      just_item to i y w1 v g k = onward_in (put_sized a (is_wide_item i) to y x) w1 (next (write_item i f to v)) (item_position i to v) (item_seen i to y x w1 v (later_all x w1 g all) k)

      arrays_of : (v : Value) (k : Text) (vs : List Value) → thing_at w v ≡ Some (Items k vs) → (length vs < 2 ^ 31) × Each IsRanged vs
      arrays_of (Object n) k vs i = arrays n k vs i
      arrays_of v k vs i = none_some (Items k vs) i

      gets_seen : (i : Item) (to on : ℕ) → Seen on → (at : ℤ) (o : Option Thing) → thing_at w (register f on) ≡ o → is_null (register f on) ≡ false
          → Along (arm a (f.position + 1) (then_put a (is_wide_item i) to (a.item i) (refined a on (a.held (x on)) x))) (array_get i o w f to at)
      gets_seen i to on s at (Some (Items k vs)) j e = by at
        where
          there_at : (y : Option Value) → ((v : Value) → y ≡ Some v → IsRanged v) → Along (arm a (f.position + 1) (then_put a (is_wide_item i) to (a.item i) (refined a on (a.held (x on)) x))) (reads_item i y w f to)
          there_at None h = tt
          there_at (Some v) h = then_item on to (a.held (x on)) i (a.item i) w v (grows_same w w refl) (used on s e) (sound.items i (kind_of w (read_item a i v)) v (item_ranged i v (h v refl)))

          by : (at : ℤ) → Along (arm a (f.position + 1) (then_put a (is_wide_item i) to (a.item i) (refined a on (a.held (x on)) x))) (reads_item i (item_at vs at) w f to)
          by (pos n) = there_at (slice_get vs n) (λ v l. each_get IsRanged vs n v (arrays_of (register f on) k vs j).1 l)
          by (negsuc n) = tt
      gets_seen i to on s at (Some (Instance c fs)) j e = tt
      gets_seen i to on s at None j e = tt

      -- ---- a packed table

      cut_less : (n : ℕ) → n % 2 ^ 32 < 2 ^ 32
      cut_less n = omega arith

      none_less : (n : ℕ) → 0 + n % 2 ^ 32 < 2 ^ 32
      none_less n = omega arith

      cut_twice : (n : ℕ) → n % 2 ^ 32 % 2 ^ 32 ≡ n % 2 ^ 32
      cut_twice n = omega arith

      one_signed : (n m : ℕ) → signed false n ≡ signed false m → n % 2 ^ 32 ≡ m % 2 ^ 32
      one_signed n m e = sym (of_z-to_z w32 (n % 2 ^ 32) (cut_less n)) ∙ (ap (cast_unsigned w32) e ∙ of_z-to_z w32 (m % 2 ^ 32) (cut_less m))

      apart : (c i d n : ℕ) → i + suc d < 2 ^ 32 → n % 2 ^ 32 ≡ (c + (i + suc d)) % 2 ^ 32 → (c + i) % 2 ^ 32 ≡ n % 2 ^ 32 → ⊥
      apart c i d n l e k = omega (arith, l, e, k)

      -- the operand is the key at a place, which is j steps from the first
      packed_at : (on : ℕ) → IsWord (register f on) → Seen on → (first : ℤ) (ts : List ℕ) (i d : ℕ) → i + d < 2 ^ 32 → number f on % 2 ^ 32 ≡ (cast_unsigned w32 first + (i + d)) % 2 ^ 32 → Switches on (packed_keys first i ts) ts (slice_get ts d)
      packed_at on ow s first [] i d l e = tt
      packed_at on ow s first (q ∷ ts) i zero l e = one_first q on (a.keyed (packed_key first i) (x on)) (cases a on (packed_keys first (suc i) ts) ts x)
          (sound.keys (packed_key first i) (x on) (kind_of w (register f on)) (register f on) ow s (same_key (number f on) i (e ∙ ap (λ j. (cast_unsigned w32 first + j) % 2 ^ 32) (plus_zero i))))
        where
          plus_zero : (i : ℕ) → i + 0 ≡ i
          plus_zero i = omega arith

          same_key : (n i : ℕ) → n % 2 ^ 32 ≡ (cast_unsigned w32 first + i) % 2 ^ 32 → signed false n ≡ packed_key first i
          same_key n i e = ap (cast_signed w32) (e ∙ sym (cut_twice (cast_unsigned w32 first + i)))
      packed_at on ow s first (q ∷ ts) i (suc d) l e = by (slice_get ts d) (packed_at on ow s first ts (suc i) d (omega (arith, l)) (e ∙ ap (λ j. (cast_unsigned w32 first + j) % 2 ^ 32) (step i d)))
        where
          step : (i d : ℕ) → i + suc d ≡ suc i + d
          step i d = omega arith

          other : packed_key first i ≡ signed false (number f on) → ⊥
          other k = apart (cast_unsigned w32 first) i d (number f on) l e (sym (cut_twice (cast_unsigned w32 first + i)) ∙ one_signed ((cast_unsigned w32 first + i) % 2 ^ 32) (number f on) k)

          by : (y : Option ℕ) → Switches on (packed_keys first (suc i) ts) ts y → Switches on (packed_keys first i (q ∷ ts)) (q ∷ ts) y
          by None h = (other, h)
          by (Some r) h = behind q (refined a on (a.keyed (packed_key first i) (x on)) x) (cases a on (packed_keys first (suc i) ts) ts x) (Goes w (go f r)) h

      distance : (c n : ℕ) → c < 2 ^ 32 → n % 2 ^ 32 ≡ (c + (0 + (n + (2 ^ 32 - c)) % 2 ^ 32)) % 2 ^ 32
      distance c n l = omega (arith, l)

      small_packed : (first : ℤ) (i : ℕ) (ts : List ℕ) → AreSmall (packed_keys first i ts)
      small_packed first i [] = tt
      small_packed first i (t ∷ ts) = (small_signed (cast_unsigned w32 first + i), small_packed first (suc i) ts)

      packed_seen : (on : ℕ) → IsWord (register f on) → Seen on → (first : ℤ) (ts : List ℕ) → cast_unsigned w32 first < 2 ^ 32 → Switches on (packed_keys first 0 ts) ts (packed_target (number f on) first ts)
      packed_seen on ow s first ts l = packed_at on ow s first ts 0 ((number f on + (2 ^ 32 - cast_unsigned w32 first)) % 2 ^ 32) (none_less (number f on + (2 ^ 32 - cast_unsigned w32 first))) (distance (cast_unsigned w32 first) (number f on) l)

      -- ---- the forms

      -- a result that is taken isn't along an edge; a new array is of an array type, what was caught is an object, and the
      -- first key of a table has 32 bits
      abbrev pub IsTold : Form → Type 0
      IsTold (form.MoveResult slot to) = ⊥
      IsTold (form.MoveException to) = IsReference f.caught
      IsTold (form.NewArray to size kind) = array_of (item_of kind) ≡ kind
      IsTold (form.PackedSwitch on first targets) = (cast_unsigned w32 first < 2 ^ 32) × Suits f (form.PackedSwitch on first targets)
      IsTold y = Suits f y

      pub act_along : (y : Form) → IsTold y → Looks (operands y) → Along (edges a p t f.position y x) (act under floats y w f)
      act_along form.Nop o h = onward x w f.registers all
      act_along (form.Move slot to from) o h = moves slot to from h
      act_along (form.MoveResult slot to) o h = absurd o
      act_along (form.MoveException to) o h = writes_one to a.caught f.caught (sound.catches (kind_of w f.caught) f.caught o)
      act_along form.ReturnVoid o h = tt
      act_along (form.Return slot from) o h = tt
      act_along (form.Const to value) o h = writes_one to (a.known (Word (cast_unsigned w32 value))) (Word (cast_unsigned w32 value)) (sound.knows [] (Word (cast_unsigned w32 value)))
      act_along (form.ConstWide to value) o h = writes_wide to (a.known (Low (cast_unsigned w64 value))) (cast_unsigned w64 value) (sound.knows [] (Low (cast_unsigned w64 value)))
      act_along (form.ConstString to text) o h = writes_one to (a.known (Literal text)) (Literal text) (sound.knows (kind_of w (Literal text)) (Literal text))
      act_along (form.ConstClass to kind) o h = writes_one to (a.known (Class kind)) (Class kind) (sound.knows (kind_of w (Class kind)) (Class kind))
      act_along (form.MonitorEnter on) o h = unless (is_null (register f on)) (edges a p t f.position (form.MonitorEnter on) x) null_pointer (Locks (register f on)) (λ e. tt)
      act_along (form.MonitorExit on) o h = unless (is_null (register f on)) (edges a p t f.position (form.MonitorExit on) x) null_pointer (exits w (register f on))
          (λ e. unless (nat_eq (w.locks (register f on)) 0) (edges a p t f.position (form.MonitorExit on) x) bad_monitor (Unlocks (register f on)) (λ e. tt))
      act_along (form.CheckCast on kind) o h = cast on kind h.0 (is_null (register f on)) (under (kind_of w (register f on)) kind) refl refl
      act_along (form.InstanceOf to from kind) o h = answers to (is_instance under w (register f from) kind)
      act_along (form.ArrayLength to from) o h = unless (is_null (register f from)) (edges a p t f.position (form.ArrayLength to from) x) null_pointer (measures (thing_at w (register f from)) w f to)
          (λ e. lengths from to h.0 (thing_at w (register f from)) refl e)
      act_along (form.NewInstance to kind) o h = tt
      act_along (form.NewArray to size kind) o h = array_made (signed false (number f size)) kind to o
      act_along (form.FilledNewArray kind args) o h = let t = Items (item_of kind) (map (register f) args) in
          onward_in x (with_thing w t) (next (record f { result = next_object w })) refl (later_all x (with_thing w t) (grows_with w t) all)
      act_along (form.FillArray on width items) o h = unless (is_null (register f on)) (edges a p t f.position (form.FillArray on width items) x) null_pointer (fills (thing_at w (register f on)) w f (register f on) items)
          (λ e. fills_seen on h.0 items (thing_at w (register f on)) refl e)
      act_along (form.Throw on) o h = unless (is_null (register f on)) (edges a p t f.position (form.Throw on) x) null_pointer (Throws (register f on)) (λ e. tt)
      act_along (form.Goto target) o h = goes_to_first target x [] all
      act_along (form.PackedSwitch on first targets) o h = switched_to on o.1 h.0 (packed_keys first 0 targets) targets (packed_target (number f on) first targets) (small_packed first 0 targets) (packed_seen on o.1 h.0 first targets o.0)
      act_along (form.SparseSwitch on keys targets) o h = switched_to on o.0 h.0 keys targets (switch_target (signed false (number f on)) keys targets) o.1 (switches on o.0 h.0 keys targets)
      act_along (form.Cmp op to r s) o h = writes_one to (a.compared op (x r) (x s)) (Word (comparison floats op (number f r) (number f s)))
          (sound.comparisons op (x r) (x s) (kind_of w (register f r)) (kind_of w (register f s)) [] (register f r) (register f s) o.0 o.1 h.0 h.1.0)
      act_along (form.If test r s target) o h = tests test r s target o.0 o.1 h.0 h.1.0 (passes test (register f r) (register f s)) refl
      act_along (form.IfZero test r target) o h = zeros test r target o h.0 (passes test (register f r) (Word 0)) refl
      act_along (form.ArrayGet item to array index) o h = unless (is_null (register f array)) (edges a p t f.position (form.ArrayGet item to array index) x) null_pointer (array_get item (thing_at w (register f array)) w f to (signed false (number f index)))
          (λ e. gets_seen item to array h.0 (signed false (number f index)) (thing_at w (register f array)) refl e)
      act_along (form.ArrayPut item from array index) o h = unless (is_null (register f array)) (edges a p t f.position (form.ArrayPut item from array index) x) null_pointer
          (array_put under item (thing_at w (register f array)) w f (register f from) (register f array) (signed false (number f index)))
          (λ e. stores_seen item array h.1.0 (register f from) (signed false (number f index)) (thing_at w (register f array)) refl e)
      act_along (form.InstanceGet item to on field) o h = unless (is_null (register f on)) (edges a p t f.position (form.InstanceGet item to on field) x) null_pointer (Reads item to field (Some (register f on))) (λ e. tt)
      act_along (form.InstancePut item from on field) o h = unless (is_null (register f on)) (edges a p t f.position (form.InstancePut item from on field) x) null_pointer (Writes field (Some (register f on)) (stored item (register f from))) (λ e. tt)
      act_along (form.StaticGet item to field) o h = tt
      act_along (form.StaticPut item from field) o h = tt
      act_along (form.Invoke kind method args) o h = tt
      act_along (form.Unary op to from) o h = unaries op to from o h.0
      act_along (form.Binary op to r s) o h = subst (λ b. Along (arm a (f.position + 1) (option_map (λ v. put_sized a b to v x) (a.binary op (x r) (x s)))) (binary floats (sort_of op) w f to r s)) (sym (sort_wide op))
          (sorts (sort_of op) to r s (a.binary op (x r) (x s))
          (λ z e. sound.binaries op (x r) (x s) (kind_of w (register f r)) (kind_of w (register f s)) [] (register f r) (register f s) z o.0 o.1 h.0 h.1.0 e))
      act_along (form.Literal op to r value) o h = words to (a.literal op (x r) value) (literal_answer op (word f r) (cast_unsigned w32 value))
          (λ m e. sound.literals op (x r) value (kind_of w (register f r)) [] (register f r) m o.0 o.1 h.0 e)
