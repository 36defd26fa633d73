-- What each form leaves that neither calls, makes an object nor names a field.
use Rattle.std.proofs.Common.{◌≡◌, ℕ, suc, ◌+◌, ◌-◌, ℤ, pos, Bool, true, false, true≢false, List, [], ◌∷◌, Option, Some, None, ◌⊎◌, inl, inr, refl, sym, ap, ◌∙◌, subst, arith}
use Rattle.std.specs.Prelude.{◌||◌, not, nat_eq, length, is_some, Contains, if◌then◌else◌}
use Rattle.std.proofs.lemmas.Bool.{eqb-true}
use Rattle.std.proofs.lemmas.Int.{ints}
use Rattle.std.specs.Int.{w32, w64, cast_unsigned}
use Rattle.std.specs.Ordering.{int_eq}
use Rattle.insn_set.specs.declared.ops.Slot.{Slot}
use Rattle.insn_set.specs.declared.ops.Slot.TheVariants as slot
use Rattle.insn_set.specs.declared.ops.BinaryOp.{BinaryOp}
use Rattle.insn_set.specs.declared.ops.BinaryOp.TheVariants as binaries
use Rattle.insn_set.specs.declared.ops.LiteralOp.{LiteralOp}
use Rattle.insn_set.specs.declared.ops.LiteralOp.TheVariants as literals
use Rattle.insn_set.specs.declared.ops.UnaryOp.{UnaryOp}
use Rattle.insn_set.specs.declared.ops.UnaryOp.TheVariants as unary
use Rattle.insn_set.specs.Widths.{unary_writes_wide, binary_is_wide}
use Rattle.insn_set.specs.Flow.{divides, divides_by_literal}
use Rattle.dalvik_defs.specs.Names.{Text, is_void, is_wide, is_class_type}
use Rattle.dalvik_defs.specs.Known.{null_pointer, bad_cast, bad_monitor, arithmetic_exception}
use Rattle.dalvik_defs.specs.Arith.{Kind as Op, Div, Rem, literal_answer, answer}
use Rattle.dalvik_defs.specs.Operators.{unary_answer, Number, OneWord, OneWide, Sort, OnWord, OnWide, Shifts, OnFloat, OnDouble, sort_of, float_word, float_wide}
use Rattle.dalvik_defs.specs.Face.{face_of, bodies_of}
use Rattle.dalvik_defs.specs.Outer.{Outer}
use Rattle.dalvik_defs.specs.Show.{show}
use Rattle.dalvik_defs.specs.State.{World, Classes, Thing, is_null, word_of, kind_of, kind_of_thing, thing_at, put_thing, put_lock}
use Rattle.dalvik_defs.specs.Effect.{Effect, Goes, Faults, Throws, Locks, Unlocks, register, write, next, go, sets, sets_wide, unless_null}
use Rattle.dalvik_defs.specs.ActPlain.{word_constant, exits, is_instance, truth, branch, goes_to}
use Rattle.dalvik_defs.specs.ActArray.{measures}
use Rattle.dalvik_defs.specs.ActNumber.{number, word, gives_word, gives_wide, sets_number, binary}
use Rattle.dalvik_defs.specs.Outcome.{Outcome, Stays, outcome, need_of, faults, with_lock}
use Rattle.dalvik_defs.specs.Act.{act}
use Rattle.dalvik_defs.specs.declared.state.Value.{Value}
use Rattle.dalvik_defs.specs.declared.state.Value.TheVariants.{Word, Low, High, Literal, Class}
use Rattle.dalvik_defs.specs.declared.state.Frame.{Frame}
use Rattle.dalvik_defs.specs.declared.events.Event.{Event}
use Rattle.dalvik_defs.specs.declared.events.Event.TheVariants as event
use Rattle.dalvik_defs.specs.declared.forms.Form.{Form}
use Rattle.dalvik_defs.specs.declared.forms.Form.TheVariants as form
use Rattle.dalvik_defs.specs.declared.tables.Floats.{Floats}
use Rattle.dalvik_defs.specs.declared.tables.Framework.{Framework}
use Rattle.dalvik_defs.specs.declared.program.NamedProgram.{NamedProgram}
use Rattle.pass_defs.specs.Bare.{may_throw}
use Rattle.pass_defs.specs.Walks.{onward}
use Rattle.pass_defs.specs.Kinds.{Kind, kind_eq, is_number, is_initialised, kind_of_reference, fits}
use Rattle.pass_defs.specs.Kinds as kind
use Rattle.pass_defs.specs.Registers.{Kinds, kind_at, written}
use Rattle.pass_defs.specs.Demands.{Demand, Pair, Fits, of_type, is_moved, meets, is_array_where}
use Rattle.pass_defs.specs.Typed.{after, number_kind, ends_early}
use Rattle.run_laws.specs.Invariant.{Grows}
use Rattle.run_laws.specs.Fine.{IsThere}
use Rattle.run_laws.proofs.Growing.{grows_same, grows_put, show_heap}
use Rattle.run_laws.proofs.Plain.{LeadsPlainly}
use Rattle.run_laws.specs.TypedStates.{KindHolds, ValueOf, StateHolds, TypedFrame, TypedThing, TypedWorld}
use Rattle.run_laws.proofs.Settled.{IsSettled}
use Rattle.run_laws.proofs.Registers.{and_left, and_right, there_held, all_at, all_halves, all_pair, all_written, all_known, IsSingle}
use Rattle.run_laws.proofs.Sorts.{RefSort, AnArray, APlain, AnAny, ref_sort, Sorted, OfWord, OfWide, OfReference, OfNone, sorted}
use Rattle.run_laws.proofs.Climbs.{none_some, or_cases}
use Rattle.run_laws.proofs.Arrays.{true_false, under_fits}
use Rattle.run_laws.proofs.Orders.{kind_sound, reference_held, ref_held, fits_held}
use Rattle.run_laws.proofs.Worlds.{state_later, typed_put, typed_show, typed_lock}
use Rattle.run_laws.proofs.Here.{setting, states, At, go_to, landed, faulted, nonnull}
use Rattle.run_laws.proofs.Values.{moved_single, initialised_single, number_single, ref_single, ArrayThing, demanded_array}

pub first_in : (q : ℕ) (qs : List ℕ) → Contains (q ∷ qs) q
first_in q qs = (0, omega arith, refl)

pub later_in : (q r : ℕ) (qs : List ℕ) → Contains qs q → Contains (r ∷ qs) q
later_in q r qs h = (suc h.0, omega (arith, h.1), h.2)

untrue : (b : Bool) → not b ≡ true → b ≡ false
untrue true i = absurd (true≢false (sym i))
untrue false i = refl

pub or_left : (x y : Bool) → (x || y) ≡ false → x ≡ false
or_left true y e = absurd (true≢false e)
or_left false y e = refl

pub or_right : (x y : Bool) → (x || y) ≡ false → y ≡ false
or_right true y e = absurd (true≢false e)
or_right false y e = e

pub null_is : (v : Value) → is_null v ≡ true → v ≡ Word 0
null_is (Word m) e = ap Word (eqb-true m 0 e)
null_is v e = absurd (true≢false (sym e))

int_zero : (z : ℤ) → int_eq z (pos 0) ≡ true → z ≡ pos 0
int_zero z e = grind (arith, ints)

abbrev pub is_wide_number : Number → Bool
is_wide_number (OneWord m) = false
is_wide_number (OneWide m) = true

abbrev is_wide_sort : Sort → Bool
is_wide_sort (OnWide k) = true
is_wide_sort (Shifts k) = true
is_wide_sort (OnDouble op) = true
is_wide_sort s = false

abbrev pub op_divides : Op → Bool
op_divides Div = true
op_divides Rem = true
op_divides k = false

abbrev pub sort_divides : Sort → Bool
sort_divides (OnWord k) = op_divides k
sort_divides (OnWide k) = op_divides k
sort_divides (Shifts k) = op_divides k
sort_divides s = false

sort_wide : (op : BinaryOp) → binary_is_wide op ≡ is_wide_sort (sort_of op)
sort_wide binaries.AddInt = refl
sort_wide op = refl

pub sort_throws : (op : BinaryOp) → sort_divides (sort_of op) ≡ divides op
sort_throws binaries.AddInt = refl
sort_throws op = refl

number_wide : (floats : Floats) (op : UnaryOp) (m : ℕ) → is_wide_number (unary_answer floats op m) ≡ unary_writes_wide op
number_wide floats unary.NegInt m = refl
number_wide floats op m = refl

some_none : {A : Type 0} (m : ℕ) → Some m ≡ None → A
some_none m e = none_some m (sym e)

pub divides_op : (k : Op) (b : Bool) (x y : ℕ) → answer k b x y ≡ None → op_divides k ≡ true
divides_op Div b x y e = refl
divides_op Rem b x y e = refl
divides_op k b x y e = absurd (true≢false (ap (λ o. is_some o) e))

pub literal_divides : (op : LiteralOp) (x y : ℕ) → literal_answer op x y ≡ None → divides_by_literal op ≡ true
literal_divides literals.DivInt x y e = refl
literal_divides literals.RemInt x y e = refl
literal_divides op x y e = absurd (true≢false (ap (λ o. is_some o) e))

module _ (p : NamedProgram) (f : Framework) (reg : IsSettled p) where
  pub wide_kind : (u : Text) → is_wide u ≡ true → kind.kind_of p u ≡ kind.Low
  wide_kind u e = by (sorted p u)
    where
      by : Sorted p u → kind.kind_of p u ≡ kind.Low
      by (OfWord i x b j l) = true_false e x
      by (OfWide i x b j l) = j
      by (OfReference i x b j l) = true_false e x
      by (OfNone i x b j l) = true_false e x

  pub null_ref : (c : Text) (w : World) (u : Text) (v : Value) → v ≡ Word 0 → KindHolds p f c w (kind_of_reference p u) v
  null_ref c w u v n = by (ref_sort p u)
    where
      by : RefSort p u → KindHolds p f c w (kind_of_reference p u) v
      by (AnArray a e) = subst (λ k. KindHolds p f c w k v) (sym e) (inl n)
      by (APlain a b e) = subst (λ k. KindHolds p f c w k v) (sym e) (inl n)
      by (AnAny a b e) = subst (λ k. KindHolds p f c w k v) (sym e) (inl n)

  -- a type says the same in each class
  pub any_class : (c d : Text) (w : World) (u : Text) (v : Value) → KindHolds p f c w (kind.kind_of p u) v → KindHolds p f d w (kind.kind_of p u) v
  any_class c d w u v h = by (sorted p u)
    where
      ref : RefSort p u → KindHolds p f c w (kind_of_reference p u) v → KindHolds p f d w (kind_of_reference p u) v
      ref (AnArray a e) k = subst (λ k. KindHolds p f d w k v) (sym e) (subst (λ k. KindHolds p f c w k v) e k)
      ref (APlain a b e) k = subst (λ k. KindHolds p f d w k v) (sym e) (subst (λ k. KindHolds p f c w k v) e k)
      ref (AnAny a b e) k = subst (λ k. KindHolds p f d w k v) (sym e) (subst (λ k. KindHolds p f c w k v) e k)

      by : Sorted p u → KindHolds p f d w (kind.kind_of p u) v
      by (OfWord i x b j l) = subst (λ k. KindHolds p f d w k v) (sym j) (subst (λ k. KindHolds p f c w k v) j h)
      by (OfWide i x b j l) = subst (λ k. KindHolds p f d w k v) (sym j) (subst (λ k. KindHolds p f c w k v) j h)
      by (OfReference i x b j l) = subst (λ k. KindHolds p f d w k v) (sym j) (ref (ref_sort p u) (subst (λ k. KindHolds p f c w k v) j h))
      by (OfNone i x b j l) = subst (λ k. KindHolds p f d w k v) (sym j) (subst (λ k. KindHolds p f c w k v) j h)

module _ (p : NamedProgram) (o : Outer) (f : Framework) (floats : Floats) (reg : IsSettled p) where
  module _ (w : World) (cs : Classes) (g : Frame) (tw : TypedWorld p f w) (t : TypedFrame p f w g) where
    abbrev class : Text
    class = t.in_method.class.name

    abbrev a : Kinds
    a = t.kinds

    abbrev n : ℕ
    n = g.position

    abbrev H : Kind → Value → Type 0
    H = KindHolds p f class w

    abbrev pub Leads : Outcome → Type 0
    Leads = LeadsPlainly (setting p o f floats reg) (bodies_of p) (states p o f floats reg) w cs g

    abbrev pub Does : Effect → Type 0
    Does e = Leads (outcome (face_of p f) (need_of (face_of p f) cs) e w g)

    abbrev pub Is : Form → Type 0
    Is x = At p o f floats reg w g t x

    abbrev left : Form → Kinds
    left x = after p t.in_method.class n x a

    -- ---- what registers hold

    pub reg_held : (r : ℕ) → H (kind_at a.registers r) (register g r)
    reg_held r = all_at p f class w a.registers g.registers r t.holds.registers

    pub low_held : (r : ℕ) → meets p t.in_method.class a.registers r Pair ≡ true → (H kind.Low (register g r)) × H kind.High (register g (r + 1))
    low_held r e = (
      subst (λ k. H k (register g r)) (kind_sound (kind_at a.registers r) kind.Low (and_left (kind_eq (kind_at a.registers r) kind.Low) (kind_eq (kind_at a.registers (r + 1)) kind.High) e)) (reg_held r),
      subst (λ k. H k (register g (r + 1))) (kind_sound (kind_at a.registers (r + 1)) kind.High (and_right (kind_eq (kind_at a.registers r) kind.Low) (kind_eq (kind_at a.registers (r + 1)) kind.High) e)) (reg_held (r + 1)),
    )

    -- the two registers of a wide hold halves of one number
    pub halves_held : (r : ℕ) → meets p t.in_method.class a.registers r Pair ≡ true → word_of (register g r) ≡ word_of (register g (r + 1))
    halves_held r e = subst (λ s. kind_eq (kind_at a.registers s) kind.High ≡ true → word_of (register g r) ≡ word_of (register g s)) next
        (all_halves p f class w a.registers g.registers r t.holds.registers (and_left (kind_eq (kind_at a.registers r) kind.Low) (kind_eq (kind_at a.registers (r + 1)) kind.High) e))
        (and_right (kind_eq (kind_at a.registers r) kind.Low) (kind_eq (kind_at a.registers (r + 1)) kind.High) e)
      where
        next : suc r ≡ r + 1
        next = omega arith

    -- ---- frames that go on

    module _ (x : Form) (h : Is x) where
      -- to a position, with what the form leaves
      pub stays : (q : ℕ) → Contains (onward x n) q → (w1 : World) → TypedWorld p f w1 → (g1 : Frame) (e : Option Event) → g1.method ≡ t.key → g1.position ≡ q → StateHolds p f class w1 (left x) g1 → Leads (Stays w1 g1 e)
      stays q i w1 t1 g1 e k l s = (t1, go_to p o f floats reg w g t x h q i w1 g1 k l s)

      pub throws_new : (u : Text) → is_class_type u ≡ true → may_throw x ≡ true → Leads (faults w u)
      throws_new u e k = faulted p o f floats reg w g t x h cs u tw e k

      -- nothing is changed
      pub same : left x ≡ a → (q : ℕ) → Contains (onward x n) q → Does (Goes w (go g q))
      same e q i = stays q i w tw (go g q) None t.of refl (subst (λ b. StateHolds p f class w b (go g q)) (sym e) (record { registers = t.holds.registers; result = t.holds.result; caught = t.holds.caught }))

      -- one register is written in a later world
      pub puts_in : (w1 : World) → Grows w w1 → TypedWorld p f w1 → (e : Option Event) (to : ℕ) (k : Kind) (v : Value) → left x ≡ written to k a → Contains (onward x n) (n + 1) → IsSingle p f class w1 k → KindHolds p f class w1 k v → Leads (Stays w1 (next (write g to v)) e)
      puts_in w1 gr t1 e to k v l i s v_held = let z = state_later p f class w w1 gr a g t.holds in
          stays (n + 1) i w1 t1 (next (write g to v)) e t.of refl (subst (λ b. StateHolds p f class w1 b (next (write g to v))) (sym l) (record { registers = all_written p f class w1 a.registers g.registers to k v s z.registers v_held; result = z.result; caught = z.caught }))

      pub puts : (to : ℕ) (k : Kind) (v : Value) → left x ≡ written to k a → Contains (onward x n) (n + 1) → IsSingle p f class w k → H k v → Does (sets w g to v)
      puts to k v l i s v_held = stays (n + 1) i w tw (next (write g to v)) None t.of refl (subst (λ b. StateHolds p f class w b (next (write g to v))) (sym l) (record { registers = all_written p f class w a.registers g.registers to k v s t.holds.registers v_held; result = t.holds.result; caught = t.holds.caught }))

      pub puts_pair : (to : ℕ) (u v : Value) → left x ≡ written to kind.Low a → Contains (onward x n) (n + 1) → H kind.Low u → H kind.High v → word_of u ≡ word_of v → Does (Goes w (next (write (write g to u) (to + 1) v)))
      puts_pair to u v l i u_held v_held same = stays (n + 1) i w tw (next (write (write g to u) (to + 1) v)) None t.of refl (subst (λ b. StateHolds p f class w b (next (write (write g to u) (to + 1) v))) (sym l)
          (record { registers = all_pair p f class w a.registers g.registers to u v t.holds.registers u_held v_held same; result = t.holds.result; caught = t.holds.caught }))

      pub puts_wide : (to m : ℕ) → left x ≡ written to kind.Low a → Contains (onward x n) (n + 1) → Does (sets_wide w g to m)
      puts_wide to m l i = puts_pair to (Low m) (High m) l i (m, refl) (m, refl) refl

      pub held : (v : Value) (e : Effect) → may_throw x ≡ true → (is_null v ≡ false → Does e) → Does (unless_null v e)
      held v e k more = by (is_null v) refl
        where
          by : (b : Bool) → is_null v ≡ b → Does (elim b as (λ b. Effect) [ true ↦ Faults null_pointer | false ↦ e ])
          by true i = throws_new null_pointer refl k
          by false i = more i

      -- a thing is changed
      pub changes : left x ≡ a → Contains (onward x n) (n + 1) → (v : Value) (old new : Thing) → thing_at w v ≡ Some old → kind_of_thing new ≡ kind_of_thing old → TypedThing p f w new → Does (Goes (put_thing w v new) (next g))
      changes e i v old new at same_kind th = let w1 = put_thing w v new in
          stays (n + 1) i w1 (typed_put p f w v old new at same_kind tw th) (next g) None t.of refl (subst (λ b. StateHolds p f class w1 b (next g)) (sym e) (let z = state_later p f class w w1 (grows_put w v old new at same_kind) a g t.holds in record { registers = z.registers; result = z.result; caught = z.caught }))

      pub shown : left x ≡ a → Contains (onward x n) (n + 1) → (w1 : World) → w1.heap ≡ w.heap → TypedWorld p f w1 → (e : Option Event) → Leads (Stays w1 (next g) e)
      shown e i w1 heap t1 ev = stays (n + 1) i w1 t1 (next g) ev t.of refl (subst (λ b. StateHolds p f class w1 b (next g)) (sym e) (let z = state_later p f class w w1 (grows_same w w1 heap) a g t.holds in record { registers = z.registers; result = z.result; caught = z.caught }))

    -- a value of a type, in a method of any class
    pub typed_value : (r : ℕ) (u : Text) → meets p t.in_method.class a.registers r (of_type u) ≡ true → ValueOf p f w u (register g r)
    typed_value r u e c = any_class p f reg class c w u (register g r) (by (is_wide u) refl e)
      where
        by : (b : Bool) → is_wide u ≡ b → meets p t.in_method.class a.registers r (elim b as (λ b. Demand) [ true ↦ Pair | false ↦ Fits u ]) ≡ true → H (kind.kind_of p u) (register g r)
        by true i k = subst (λ k. H k (register g r)) (sym (wide_kind p f reg u i)) (low_held r k).0
        by false i k = fits_held p f reg class w (kind_at a.registers r) u (register g r) i k (reg_held r)

    own_result : t.in_method.method.signature.result ≡ g.method.signature.result
    own_result = ap (λ k. k.signature.result) (sym (t.of ∙ t.in_method.is_key))

    pub nops : Is form.Nop → Does (act (face_of p f).under floats form.Nop w g)
    nops h = same form.Nop h refl (n + 1) (first_in (n + 1) [])

    pub moves : (s : Slot) (to from : ℕ) → Is (form.Move s to from) → Does (act (face_of p f).under floats (form.Move s to from) w g)
    moves slot.Word to from h = puts (form.Move slot.Word to from) h to (kind_at a.registers from) (register g from) refl (first_in (n + 1) []) (moved_single p f class w (kind_at a.registers from) (and_left (is_moved (kind_at a.registers from)) true h.allowed)) (reg_held from)
    moves slot.Object to from h = puts (form.Move slot.Object to from) h to (kind_at a.registers from) (register g from) refl (first_in (n + 1) []) (moved_single p f class w (kind_at a.registers from) (and_left (is_moved (kind_at a.registers from)) true h.allowed)) (reg_held from)
    moves slot.Wide to from h = let e = and_left (meets p t.in_method.class a.registers from Pair) true h.allowed in let k = low_held from e in
        puts_pair (form.Move slot.Wide to from) h to (register g from) (register g (from + 1)) refl (first_in (n + 1) []) k.0 k.1 (halves_held from e)

    pub results : (s : Slot) (to : ℕ) → Is (form.MoveResult s to) → Does (act (face_of p f).under floats (form.MoveResult s to) w g)
    results slot.Word to h = puts (form.MoveResult slot.Word to) h to a.result g.result refl (first_in (n + 1) []) (number_single p f class w a.result (and_left (is_number a.result) true h.allowed)) t.holds.result
    results slot.Object to h = puts (form.MoveResult slot.Object to) h to a.result g.result refl (first_in (n + 1) []) (initialised_single p f class w a.result (and_left (is_initialised a.result) true h.allowed)) t.holds.result
    results slot.Wide to h = puts_wide (form.MoveResult slot.Wide to) h to (word_of g.result) (ap (λ k. written to k a) (kind_sound a.result kind.Low (and_left (kind_eq a.result kind.Low) true h.allowed))) (first_in (n + 1) [])

    pub exceptions : (to : ℕ) → Is (form.MoveException to) → Does (act (face_of p f).under floats (form.MoveException to) w g)
    exceptions to h = puts (form.MoveException to) h to a.caught g.caught refl (first_in (n + 1) []) (initialised_single p f class w a.caught (and_left (is_initialised a.caught) true h.allowed)) (t.holds.caught.held (and_left (is_initialised a.caught) true h.allowed))

    pub voids : Is form.ReturnVoid → Does (act (face_of p f).under floats form.ReturnVoid w g)
    voids h = subst (λ u. is_void u ≡ true) own_result (by (is_void t.in_method.method.signature.result) (or_left (not (is_void t.in_method.method.signature.result)) (ends_early p t.in_method.class t.in_method.method a) h.right))
      where
        by : (b : Bool) → not b ≡ false → b ≡ true
        by true e = refl
        by false e = absurd (true≢false e)

    pub returns : (s : Slot) (from : ℕ) → Is (form.Return s from) → Does (act (face_of p f).under floats (form.Return s from) w g)
    returns s from h = subst (λ u. ValueOf p f w u (register g from)) own_result (typed_value from t.in_method.method.signature.result (and_left (meets p t.in_method.class a.registers from (of_type t.in_method.method.signature.result)) true h.allowed))

    pub constants : (to : ℕ) (z : ℤ) → Is (form.Const to z) → Does (act (face_of p f).under floats (form.Const to z) w g)
    constants to z h = by (int_eq z (pos 0)) refl
      where
        by : (b : Bool) → int_eq z (pos 0) ≡ b → Does (sets w g to (word_constant z))
        by true e = puts (form.Const to z) h to kind.Zero (word_constant z) (ap (λ b. written to (if b then kind.Zero else kind.Word) a) e) (first_in (n + 1) []) (λ r ks. refl) (ap word_constant (int_zero z e))
        by false e = puts (form.Const to z) h to kind.Word (word_constant z) (ap (λ b. written to (if b then kind.Zero else kind.Word) a) e) (first_in (n + 1) []) (λ r ks. refl) (cast_unsigned w32 z, refl)

    pub wides : (to : ℕ) (z : ℤ) → Is (form.ConstWide to z) → Does (act (face_of p f).under floats (form.ConstWide to z) w g)
    wides to z h = puts_wide (form.ConstWide to z) h to (cast_unsigned w64 z) refl (first_in (n + 1) [])

    pub strings : (to : ℕ) (s : Text) → Is (form.ConstString to s) → Does (act (face_of p f).under floats (form.ConstString to s) w g)
    strings to s h = puts (form.ConstString to s) h to kind.Reference (Literal s) refl (first_in (n + 1) []) (λ r ks. refl) (inr tt)

    pub classes : (to : ℕ) (s : Text) → Is (form.ConstClass to s) → Does (act (face_of p f).under floats (form.ConstClass to s) w g)
    classes to s h = puts (form.ConstClass to s) h to kind.Reference (Class s) refl (first_in (n + 1) []) (λ r ks. refl) (inr tt)

    locked : (x : Form) → Is x → left x ≡ a → Contains (onward x n) (n + 1) → (v : Value) (m : ℕ) (e : Option Event) → IsThere w v → Leads (Stays (with_lock (show w (kind_of w v) v).0 v m) (next g) e)
    locked x h l i v m e there = let w1 = (show w (kind_of w v) v).0 in shown x h l i (with_lock w1 v m) (show_heap w (kind_of w v) v) (typed_lock p f w1 (put_lock v m w1.locks) (typed_show p f w (kind_of w v) v tw there)) e

    pub enters : (on : ℕ) → Is (form.MonitorEnter on) → Does (act (face_of p f).under floats (form.MonitorEnter on) w g)
    enters on h = held (form.MonitorEnter on) h (register g on) (Locks (register g on)) refl (λ e. locked (form.MonitorEnter on) h refl (first_in (n + 1) []) (register g on) (w.locks (register g on) + 1) (Some (event.Lock (show w (kind_of w (register g on)) (register g on)).1)) (there_held p f class w (kind_at a.registers on) (register g on) (reg_held on)))

    pub exits_held : (on : ℕ) → Is (form.MonitorExit on) → Does (act (face_of p f).under floats (form.MonitorExit on) w g)
    exits_held on h = held (form.MonitorExit on) h (register g on) (exits w (register g on)) refl (λ e. by (nat_eq (w.locks (register g on)) 0))
      where
        by : (b : Bool) → Does (elim b as (λ b. Effect) [ true ↦ Faults bad_monitor | false ↦ Unlocks (register g on) ])
        by true = throws_new (form.MonitorExit on) h bad_monitor refl refl
        by false = locked (form.MonitorExit on) h refl (first_in (n + 1) []) (register g on) (w.locks (register g on) - 1) (Some (event.Unlock (show w (kind_of w (register g on)) (register g on)).1)) (there_held p f class w (kind_at a.registers on) (register g on) (reg_held on))

    pub casts_held : (on : ℕ) (u : Text) → Is (form.CheckCast on u) → Does (act (face_of p f).under floats (form.CheckCast on u) w g)
    casts_held on u h = by (is_null (register g on) || is_instance (face_of p f).under w (register g on) u) refl
      where
        kept : H (kind_of_reference p u) (register g on) → Does (Goes w (next g))
        kept k = stays (form.CheckCast on u) h (n + 1) (first_in (n + 1) []) w tw (next g) None t.of refl (record {
          registers = all_known p f class w a.registers g.registers on (kind_of_reference p u) (ref_single p f class w u) t.holds.registers k;
          result = t.holds.result;
          caught = t.holds.caught;
        })

        is_it : (is_null (register g on) ≡ true) ⊎ (is_instance (face_of p f).under w (register g on) u ≡ true) → H (kind_of_reference p u) (register g on)
        is_it (inl e) = null_ref p f reg class w u (register g on) (null_is (register g on) e)
        is_it (inr e) = ref_held p f reg class w u (register g on) (nonnull w (register g on) (untrue (is_null (register g on)) (and_left (not (is_null (register g on))) ((face_of p f).under (kind_of w (register g on)) u) e))
            (reference_held p f reg class w (kind_at a.registers on) (register g on) (and_left (is_initialised (kind_at a.registers on)) true h.allowed) (reg_held on)))
            (under_fits p f reg (kind_of w (register g on)) u (and_right (not (is_null (register g on))) ((face_of p f).under (kind_of w (register g on)) u) e))

        by : (b : Bool) → (is_null (register g on) || is_instance (face_of p f).under w (register g on) u) ≡ b → Does (elim b as (λ b. Effect) [ true ↦ Goes w (next g) | false ↦ Faults bad_cast ])
        by true e = kept (is_it (or_cases (is_null (register g on)) (is_instance (face_of p f).under w (register g on) u) e))
        by false e = throws_new (form.CheckCast on u) h bad_cast refl refl

    pub instances : (to from : ℕ) (u : Text) → Is (form.InstanceOf to from u) → Does (act (face_of p f).under floats (form.InstanceOf to from u) w g)
    instances to from u h = by (is_instance (face_of p f).under w (register g from) u)
      where
        by : (b : Bool) → Does (sets w g to (truth b))
        by true = puts (form.InstanceOf to from u) h to kind.Word (Word 1) refl (first_in (n + 1) []) (λ r ks. refl) (1, refl)
        by false = puts (form.InstanceOf to from u) h to kind.Word (Word 0) refl (first_in (n + 1) []) (λ r ks. refl) (0, refl)

    pub words : (x : Form) → Is x → (to m : ℕ) → left x ≡ written to kind.Word a → Contains (onward x n) (n + 1) → Does (sets w g to (Word m))
    words x h to m l i = puts x h to kind.Word (Word m) l i (λ r ks. refl) (m, refl)

    pub lengths : (to from : ℕ) → Is (form.ArrayLength to from) → Does (act (face_of p f).under floats (form.ArrayLength to from) w g)
    lengths to from h = held (form.ArrayLength to from) h (register g from) (measures (thing_at w (register g from)) w g to) refl
        (λ e. by (demanded_array p f reg w tw class (λ u. true) (kind_at a.registers from) (register g from) (and_left (is_array_where (λ u. true) (kind_at a.registers from)) true h.allowed) (reg_held from) e))
      where
        by : (u : Text) × ((kind_at a.registers from ≡ kind.Array u) × ((true ≡ true) × ArrayThing p f w (register g from) u)) → Does (measures (thing_at w (register g from)) w g to)
        by (u, (k, (d, th))) = subst (λ o. Does (measures o w g to)) (sym th.at) (words (form.ArrayLength to from) h to (length th.items) refl (first_in (n + 1) []))

    pub branches : (x : Form) → Is x → left x ≡ a → (b : Bool) (q : ℕ) → Contains (onward x n) (n + 1) → Contains (onward x n) q → Does (branch b w g q)
    branches x h l true q i j = same x h l q j
    branches x h l false q i j = same x h l (n + 1) i

    pub targets_held : (x : Form) → Is x → left x ≡ a → (y : Option ℕ) → Contains (onward x n) (n + 1) → ((q : ℕ) → y ≡ Some q → Contains (onward x n) q) → Does (goes_to y w g)
    targets_held x h l None i j = same x h l (n + 1) i
    targets_held x h l (Some q) i j = same x h l q (j q refl)

    pub numbers : (x : Form) → Is x → (to : ℕ) (wide : Bool) (m : Number) → is_wide_number m ≡ wide → left x ≡ written to (number_kind wide) a → Contains (onward x n) (n + 1) → Does (sets_number m w g to)
    numbers x h to wide (OneWord m) e l i = words x h to m (l ∙ ap (λ b. written to (number_kind b) a) (sym e)) i
    numbers x h to wide (OneWide m) e l i = puts_wide x h to m (l ∙ ap (λ b. written to (number_kind b) a) (sym e)) i

    pub throws_held : (on : ℕ) → Is (form.Throw on) → Does (act (face_of p f).under floats (form.Throw on) w g)
    throws_held on h = held (form.Throw on) h (register g on) (Throws (register g on)) refl (λ e. let ob = nonnull w (register g on) e (reference_held p f reg class w (kind_at a.registers on) (register g on) (and_left (is_initialised (kind_at a.registers on)) true h.allowed) (reg_held on)) in
        (tw, ob, landed p o f floats reg w g t (form.Throw on) h w cs (grows_same w w refl) (register g on) ob refl))

    -- ---- arithmetic

    give_word : (x : Form) → Is x → (to : ℕ) (y : Option ℕ) → (y ≡ None → may_throw x ≡ true) → left x ≡ written to kind.Word a → Contains (onward x n) (n + 1) → Does (gives_word y w g to)
    give_word x h to None e l i = throws_new x h arithmetic_exception refl (e refl)
    give_word x h to (Some m) e l i = words x h to m l i

    give_wide : (x : Form) → Is x → (to : ℕ) (y : Option ℕ) → (y ≡ None → may_throw x ≡ true) → left x ≡ written to kind.Low a → Contains (onward x n) (n + 1) → Does (gives_wide y w g to)
    give_wide x h to None e l i = throws_new x h arithmetic_exception refl (e refl)
    give_wide x h to (Some m) e l i = puts_wide x h to m l i

    by_sort : (x : Form) → Is x → (s : Sort) (to b c : ℕ) → (sort_divides s ≡ true → may_throw x ≡ true) → left x ≡ written to (number_kind (is_wide_sort s)) a → Contains (onward x n) (n + 1) → Does (binary floats s w g to b c)
    by_sort x h (OnWord k) to b c e l i = give_word x h to (answer k false (word g b) (word g c)) (λ j. e (divides_op k false (word g b) (word g c) j)) l i
    by_sort x h (OnWide k) to b c e l i = give_wide x h to (answer k true (number g b) (number g c)) (λ j. e (divides_op k true (number g b) (number g c) j)) l i
    by_sort x h (Shifts k) to b c e l i = give_wide x h to (answer k true (number g b) (number g c)) (λ j. e (divides_op k true (number g b) (number g c) j)) l i
    by_sort x h (OnFloat op) to b c e l i = give_word x h to (Some (float_word floats op (number g b) (number g c))) (λ j. none_some (float_word floats op (number g b) (number g c)) (sym j)) l i
    by_sort x h (OnDouble op) to b c e l i = give_wide x h to (Some (float_wide floats op (number g b) (number g c))) (λ j. none_some (float_wide floats op (number g b) (number g c)) (sym j)) l i

    pub unaries : (op : UnaryOp) (to from : ℕ) → Is (form.Unary op to from) → Does (act (face_of p f).under floats (form.Unary op to from) w g)
    unaries op to from h = numbers (form.Unary op to from) h to (unary_writes_wide op) (unary_answer floats op (number g from)) (number_wide floats op (number g from)) refl (first_in (n + 1) [])

    pub binaries_held : (op : BinaryOp) (to b c : ℕ) → Is (form.Binary op to b c) → Does (act (face_of p f).under floats (form.Binary op to b c) w g)
    binaries_held op to b c h = by_sort (form.Binary op to b c) h (sort_of op) to b c (λ e. sym (sort_throws op) ∙ e) (ap (λ b. written to (number_kind b) a) (sort_wide op)) (first_in (n + 1) [])

    pub literals_held : (op : LiteralOp) (to b : ℕ) (z : ℤ) → Is (form.Literal op to b z) → Does (act (face_of p f).under floats (form.Literal op to b z) w g)
    literals_held op to b z h = give_word (form.Literal op to b z) h to (literal_answer op (word g b) (cast_unsigned w32 z)) (λ e. literal_divides op (word g b) (cast_unsigned w32 z) e) refl (first_in (n + 1) [])
