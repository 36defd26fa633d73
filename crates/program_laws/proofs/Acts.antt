-- The form congruence: what a form does in a frame, the same form with other registers and targets does in a frame that holds
-- the same where the form reads.
use Rattle.std.proofs.Common.{◌≡◌, ℕ, zero, suc, ◌+◌, ℤ, pos, negsuc, Bool, true, false, true≢false, List, [], ◌∷◌, refl, sym, ap, ◌∙◌, subst}
use Rattle.std.specs.Prelude.{◌||◌, Option, Some, None, nat_lt, nat_eq, length, map, slice_get, int_lt, Contains, ◌%◌, ◌^◌}
use Rattle.std.specs.List.{list_any}
use Rattle.std.specs.Option.{option_map}
use Rattle.std.specs.Int.{w32, w64, cast_unsigned}
use Rattle.lemmas.proofs.Bools.{or_left, or_right}
use Rattle.lemmas.proofs.Lists.{contains_here, contains_there, get_map}
use Rattle.lemmas.proofs.Numbers.{same_number}
use Rattle.lemmas.proofs.Options.{none_some, some_same}
use lib.Dec.{eqb-suc-suc}
use Rattle.insn_set.specs.Registers.{in_operand}
use Rattle.insn_set.specs.Widths.{is_wide_item, is_wide_slot, binary_is_wide, second_is_wide, unary_reads_wide, unary_writes_wide, compares_wide}
use Rattle.insn_set.specs.Flow.{divides, divides_by_literal}
use Rattle.insn_set.specs.declared.ops.Item.{Item}
use Rattle.insn_set.specs.declared.ops.Slot.{Slot}
use Rattle.insn_set.specs.declared.ops.Slot.TheVariants as slot
use Rattle.insn_set.specs.declared.ops.BinaryOp.{BinaryOp}
use Rattle.insn_set.specs.declared.ops.BinaryOp.TheVariants as binaries
use Rattle.insn_set.specs.declared.ops.UnaryOp.{UnaryOp}
use Rattle.insn_set.specs.declared.ops.UnaryOp.TheVariants as unaries
use Rattle.insn_set.specs.declared.ops.LiteralOp.{LiteralOp}
use Rattle.insn_set.specs.declared.ops.LiteralOp.TheVariants as literals
use Rattle.dalvik_defs.specs.Names.{Text, item_of}
use Rattle.dalvik_defs.specs.Known.{null_pointer, bad_cast, negative_size, out_of_bounds, bad_store, bad_monitor, arithmetic_exception}
use Rattle.dalvik_defs.specs.Arith.{Kind, Div, Rem, signed, passes, answer, literal_answer}
use Rattle.dalvik_defs.specs.Operators.{Sort, OnWord, OnWide, Shifts, OnFloat, OnDouble, sort_of, float_word, float_wide, Number, OneWord, OneWide, unary_answer, comparison}
use Rattle.dalvik_defs.specs.Items.{fill, stored}
use Rattle.dalvik_defs.specs.State.{World, Thing, Instance, Items, is_null, thing_at, put_thing, with_thing, next_object, word_of}
use Rattle.dalvik_defs.specs.declared.state.Value.{Value}
use Rattle.dalvik_defs.specs.declared.state.Value.TheVariants.{Word, Low, High}
use Rattle.dalvik_defs.specs.declared.state.Frame.{Frame}
use Rattle.dalvik_defs.specs.Effect.{Effect, Goes, Faults, Throws, Gives, Calls, Reads, Writes, Locks, Unlocks, register, write, write_wide, write_slot, write_item, next, go, sets, sets_wide, unless_null}
use Rattle.dalvik_defs.specs.ActPlain.{move_slot, exits, is_instance, truth, branch, goes_to, switch_target, packed_target}
use Rattle.dalvik_defs.specs.ActArray.{measures, zeros, new_array, fills, item_at, reads_item, array_get, may_store, writes_item, put_item, array_put}
use Rattle.dalvik_defs.specs.ActNumber.{number, word, gives_word, gives_wide, binary, sets_number}
use Rattle.dalvik_defs.specs.Act.{act}
use Rattle.dalvik_defs.specs.declared.forms.Form.{Form}
use Rattle.dalvik_defs.specs.declared.forms.Form.TheVariants as form
use Rattle.dalvik_defs.specs.declared.tables.Floats.{Floats}
use Rattle.pass_defs.specs.Bare.{reads, may_throw, continues, targets}
use Rattle.pass_defs.specs.Remade.{remade}
use Rattle.program_laws.specs.Results.{gives_result}
use Rattle.program_laws.specs.Alike.{Holds, Only, Plain, Nothing, Accepts, Alike, Going, Faulting, Throwing, Giving, Making, Calling, Reading, Writing, Locking, Unlocking, Sticking}
use Rattle.program_laws.proofs.AlikeEffects.{accepts_item}

-- ---- registers that are read

pub own : (wide : Bool) (n : ℕ) → in_operand wide n n ≡ true
own false n = same_number n
own true n = or_left (nat_eq n n) (nat_eq n (n + 1)) (same_number n)

all_same : (f g : Frame) (r : ℕ → ℕ) (ns : List ℕ) → ((n : ℕ) → list_any (λ a. nat_eq a n) ns ≡ true → register g (r n) ≡ register f n) → map (register g) (map r ns) ≡ map (register f) ns
all_same f g r [] h = refl
all_same f g r (n ∷ ns) h = ap (λ v. v ∷ map (register g) (map r ns)) (h n (or_left (nat_eq n n) (list_any (λ a. nat_eq a n) ns) (same_number n)))
    ∙ ap (λ vs. register f n ∷ vs) (all_same f g r ns (λ m e. h m (or_right (nat_eq n m) (list_any (λ a. nat_eq a m) ns) e)))

-- ---- operators

abbrev pub wide_sort : Sort → Bool
wide_sort (OnWord k) = false
wide_sort (OnWide k) = true
wide_sort (Shifts k) = true
wide_sort (OnFloat op) = false
wide_sort (OnDouble op) = true

abbrev pub is_division : Kind → Bool
is_division Div = true
is_division Rem = true
is_division k = false

abbrev pub divides_sort : Sort → Bool
divides_sort (OnWord k) = is_division k
divides_sort (OnWide k) = is_division k
divides_sort (Shifts k) = is_division k
divides_sort (OnFloat op) = false
divides_sort (OnDouble op) = false

pub sort_width : (op : BinaryOp) → wide_sort (sort_of op) ≡ binary_is_wide op
sort_width binaries.AddInt = refl
sort_width op = refl

pub sort_divides : (op : BinaryOp) → divides_sort (sort_of op) ≡ divides op
sort_divides binaries.AddInt = refl
sort_divides op = refl

no_answer : {A : Type 0} (n : ℕ) → Some n ≡ None → A
no_answer n e = absurd (true≢false (ap (λ o. elim o as (λ o. Bool) [ Some z ↦ true | None ↦ false ]) e))

unanswered : (k : Kind) (wide : Bool) (a b : ℕ) → answer k wide a b ≡ None → is_division k ≡ true
unanswered Div wide a b e = refl
unanswered Rem wide a b e = refl
unanswered k wide a b e = no_answer _ e

literal_unanswered : (op : LiteralOp) (a b : ℕ) → literal_answer op a b ≡ None → divides_by_literal op ≡ true
literal_unanswered literals.DivInt a b e = refl
literal_unanswered literals.RemInt a b e = refl
literal_unanswered op a b e = no_answer _ e

abbrev pub wide_number : Number → Bool
wide_number (OneWord n) = false
wide_number (OneWide n) = true

pub unary_width : (floats : Floats) (op : UnaryOp) (n : ℕ) → wide_number (unary_answer floats op n) ≡ unary_writes_wide op
unary_width floats unaries.NegInt n = refl
unary_width floats op n = refl

-- ---- forms

module _ (under : Text → Text → Bool) (floats : Floats) (w : World) (f g : Frame) (r ω t : ℕ → ℕ) (G : Frame → Frame → Type 0) where
  module _ (x : Form) (a : Accepts x ω t f g G) where
    abbrev A : Effect → Effect → Type 0
    A = Alike x f g G

    stays : (v : World) → Plain x → Nothing x → A (Goes v (next f)) (Goes v (next g))
    stays v c k = Going v (next f) (next g) (a.none c k)

    puts : (v : World) (to : ℕ) (y y' : Value) → Plain x → Only x false to → y' ≡ y → A (sets v f to y) (sets v g (ω to) y')
    puts v to y y' c o e = subst (λ z. A (sets v f to y) (sets v g (ω to) z)) (sym e) (Going v (next (write f to y)) (next (write g (ω to) y)) (a.one c to y o))

    puts_wide : (v : World) (to : ℕ) (n : ℕ) → Plain x → Only x true to → A (sets_wide v f to n) (sets_wide v g (ω to) n)
    puts_wide v to n c o = Going v (next (write_wide f to n)) (next (write_wide g (ω to) n)) (a.two c to (Low n) (High n) o)

    puts_slot : (s : Slot) (to : ℕ) (y y' : Value) → Plain x → Only x (is_wide_slot s) to → y' ≡ y → A (Goes w (next (write_slot s f to y))) (Goes w (next (write_slot s g (ω to) y')))
    puts_slot s to y y' c o e = subst (λ z. A (Goes w (next (write_slot s f to y))) (Goes w (next (write_slot s g (ω to) z)))) (sym e) (by s o)
      where
        by : (s : Slot) → Only x (is_wide_slot s) to → A (Goes w (next (write_slot s f to y))) (Goes w (next (write_slot s g (ω to) y)))
        by slot.Word o = Going w (next (write f to y)) (next (write g (ω to) y)) (a.one c to y o)
        by slot.Object o = Going w (next (write f to y)) (next (write g (ω to) y)) (a.one c to y o)
        by slot.Wide o = Going w (next (write_wide f to _)) (next (write_wide g (ω to) _)) (a.two c to _ _ o)

    choice : (b : Bool) (d d' e e' : Effect) → A d d' → A e e' → A (elim b [ true ↦ d | false ↦ e ]) (elim b [ true ↦ d' | false ↦ e' ])
    choice true d d' e e' h k = h
    choice false d d' e e' h k = k

    unless : (y y' : Value) (e e' : Effect) → y' ≡ y → may_throw x ≡ true → A e e' → A (unless_null y e) (unless_null y' e')
    unless y y' e e' h k i = subst (λ z. A (unless_null y e) (unless_null z e')) (sym h) (choice (is_null y) (Faults null_pointer) (Faults null_pointer) e e' (Faulting null_pointer k) i)

    -- ---- numbers and branches

    gives_words : (n n' : Option ℕ) (to : ℕ) → Plain x → Only x false to → (n ≡ None → may_throw x ≡ true) → n' ≡ n → A (gives_word n w f to) (gives_word n' w g (ω to))
    gives_words n n' to c o k e = subst (λ z. A (gives_word n w f to) (gives_word z w g (ω to))) (sym e) (by n k)
      where
        by : (n : Option ℕ) → (n ≡ None → may_throw x ≡ true) → A (gives_word n w f to) (gives_word n w g (ω to))
        by None k = Faulting arithmetic_exception (k refl)
        by (Some n) k = puts w to (Word n) (Word n) c o refl

    gives_wides : (n n' : Option ℕ) (to : ℕ) → Plain x → Only x true to → (n ≡ None → may_throw x ≡ true) → n' ≡ n → A (gives_wide n w f to) (gives_wide n' w g (ω to))
    gives_wides n n' to c o k e = subst (λ z. A (gives_wide n w f to) (gives_wide z w g (ω to))) (sym e) (by n k)
      where
        by : (n : Option ℕ) → (n ≡ None → may_throw x ≡ true) → A (gives_wide n w f to) (gives_wide n w g (ω to))
        by None k = Faulting arithmetic_exception (k refl)
        by (Some n) k = puts_wide w to n c o

    sorted : (s : Sort) (to m n : ℕ) → Plain x → Only x (wide_sort s) to → (divides_sort s ≡ true → may_throw x ≡ true) → register g (r m) ≡ register f m → register g (r n) ≡ register f n
        → A (binary floats s w f to m n) (binary floats s w g (ω to) (r m) (r n))
    sorted (OnWord k) to m n c o h d e = gives_words (answer k false (word f m) (word f n)) (answer k false (word g (r m)) (word g (r n))) to c o (λ z. h (unanswered k false (word f m) (word f n) z))
        (ap (λ v. answer k false (word_of v % 2 ^ 32) (word g (r n))) d ∙ ap (λ v. answer k false (word f m) (word_of v % 2 ^ 32)) e)
    sorted (OnWide k) to m n c o h d e = gives_wides (answer k true (number f m) (number f n)) (answer k true (number g (r m)) (number g (r n))) to c o (λ z. h (unanswered k true (number f m) (number f n) z))
        (ap (λ v. answer k true (word_of v) (number g (r n))) d ∙ ap (λ v. answer k true (number f m) (word_of v)) e)
    sorted (Shifts k) to m n c o h d e = gives_wides (answer k true (number f m) (number f n)) (answer k true (number g (r m)) (number g (r n))) to c o (λ z. h (unanswered k true (number f m) (number f n) z))
        (ap (λ v. answer k true (word_of v) (number g (r n))) d ∙ ap (λ v. answer k true (number f m) (word_of v)) e)
    sorted (OnFloat op) to m n c o h d e = gives_words (Some (float_word floats op (number f m) (number f n))) (Some (float_word floats op (number g (r m)) (number g (r n)))) to c o (λ z. no_answer _ z)
        (ap (λ v. Some (float_word floats op (word_of v) (number g (r n)))) d ∙ ap (λ v. Some (float_word floats op (number f m) (word_of v))) e)
    sorted (OnDouble op) to m n c o h d e = gives_wides (Some (float_wide floats op (number f m) (number f n))) (Some (float_wide floats op (number g (r m)) (number g (r n)))) to c o (λ z. no_answer _ z)
        (ap (λ v. Some (float_wide floats op (word_of v) (number g (r n)))) d ∙ ap (λ v. Some (float_wide floats op (number f m) (word_of v))) e)

    puts_number : (n n' : Number) (to : ℕ) → Plain x → Only x (wide_number n) to → n' ≡ n → A (sets_number n w f to) (sets_number n' w g (ω to))
    puts_number n n' to c o e = subst (λ z. A (sets_number n w f to) (sets_number z w g (ω to))) (sym e) (by n o)
      where
        by : (n : Number) → Only x (wide_number n) to → A (sets_number n w f to) (sets_number n w g (ω to))
        by (OneWord n) o = puts w to (Word n) (Word n) c o refl
        by (OneWide n) o = puts_wide w to n c o

    jumps : (m : ℕ) → Contains (targets x) m → Nothing x → gives_result x ≡ false → A (Goes w (go f m)) (Goes w (go g (t m)))
    jumps m i k o = Going w (go f m) (go g (t m)) (a.jumps m i k o)

    branches : (b b' : Bool) (m : ℕ) → Plain x → Nothing x → Contains (targets x) m → b' ≡ b → A (branch b w f m) (branch b' w g (t m))
    branches b b' m c k i e = subst (λ z. A (branch b w f m) (branch z w g (t m))) (sym e) (by b)
      where
        by : (b : Bool) → A (branch b w f m) (branch b w g (t m))
        by true = jumps m i k c.1
        by false = stays w c k

    goes_there : (m m' : Option ℕ) → Plain x → Nothing x → ((n : ℕ) → m ≡ Some n → Contains (targets x) n) → m' ≡ option_map t m → A (goes_to m w f) (goes_to m' w g)
    goes_there m m' c k i e = subst (λ z. A (goes_to m w f) (goes_to z w g)) (sym e) (by m i)
      where
        by : (m : Option ℕ) → ((n : ℕ) → m ≡ Some n → Contains (targets x) n) → A (goes_to m w f) (goes_to (option_map t m) w g)
        by None i = stays w c k
        by (Some m) i = jumps m (i m refl) k c.1

    exit : (y y' : Value) → may_throw x ≡ true → Plain x → Nothing x → y' ≡ y → A (exits w y) (exits w y')
    exit y y' k c o e = subst (λ z. A (exits w y) (exits w z)) (sym e) (choice (nat_eq (w.locks y) 0) (Faults bad_monitor) (Faults bad_monitor) (Unlocks y) (Unlocks y) (Faulting bad_monitor k) (Unlocking y (a.none c o)))

    -- ---- arrays

    measured : (o o' : Option Thing) (to : ℕ) → Plain x → Only x false to → o' ≡ o → A (measures o w f to) (measures o' w g (ω to))
    measured o o' to c h e = subst (λ z. A (measures o w f to) (measures z w g (ω to))) (sym e) (by o)
      where
        by : (o : Option Thing) → A (measures o w f to) (measures o w g (ω to))
        by (Some (Items k vs)) = puts w to (Word (length vs)) (Word (length vs)) c h refl
        by (Some (Instance k fs)) = Sticking
        by None = Sticking

    made : (z z' : ℤ) (k : Text) (to : ℕ) → may_throw x ≡ true → Plain x → Only x false to → z' ≡ z → A (new_array z k w f to) (new_array z' k w g (ω to))
    made z z' k to h c o e = subst (λ y. A (new_array z k w f to) (new_array y k w g (ω to))) (sym e) (by z)
      where
        by : (z : ℤ) → A (new_array z k w f to) (new_array z k w g (ω to))
        by (negsuc n) = Faulting negative_size h
        by (pos n) = puts (with_thing w (zeros (item_of k) n)) to (next_object w) (next_object w) c o refl

    filled : (k : Text) (vs vs' : List Value) → continues x ≡ true → Nothing x → vs' ≡ vs
        → A (Goes (with_thing w (Items (item_of k) vs)) (next (record f { result = next_object w }))) (Goes (with_thing w (Items (item_of k) vs')) (next (record g { result = next_object w })))
    filled k vs vs' c o e = subst (λ z. A (Goes (with_thing w (Items (item_of k) vs)) (next (record f { result = next_object w }))) (Goes (with_thing w (Items (item_of k) z)) (next (record g { result = next_object w })))) (sym e)
        (Going (with_thing w (Items (item_of k) vs)) (next (record f { result = next_object w })) (next (record g { result = next_object w })) (a.gives c o (next_object w)))

    fill_in : (y y' : Value) (ns : List ℕ) → may_throw x ≡ true → Plain x → Nothing x → y' ≡ y → A (fills (thing_at w y) w f y ns) (fills (thing_at w y') w g y' ns)
    fill_in y y' ns h c o e = subst (λ z. A (fills (thing_at w y) w f y ns) (fills (thing_at w z) w g z ns)) (sym e) (by (thing_at w y))
      where
        by : (o : Option Thing) → A (fills o w f y ns) (fills o w g y ns)
        by (Some (Items k vs)) = choice (nat_lt (length vs) (length ns)) (Faults out_of_bounds) (Faults out_of_bounds) (Goes (put_thing w y (Items k (fill k ns vs))) (next f)) (Goes (put_thing w y (Items k (fill k ns vs))) (next g))
            (Faulting out_of_bounds h) (stays (put_thing w y (Items k (fill k ns vs))) c o)
        by (Some (Instance k fs)) = Sticking
        by None = Sticking

    got : (i : Item) (o o' : Option Thing) (to : ℕ) (z z' : ℤ) → may_throw x ≡ true → Plain x → Only x (is_wide_item i) to → o' ≡ o → z' ≡ z → A (array_get i o w f to z) (array_get i o' w g (ω to) z')
    got i o o' to z z' h c k e d = subst (λ y. A (array_get i o w f to z) (array_get i y w g (ω to) z')) (sym e) (subst (λ y. A (array_get i o w f to z) (array_get i o w g (ω to) y)) (sym d) (by o))
      where
        one_of : (v : Option Value) → A (reads_item i v w f to) (reads_item i v w g (ω to))
        one_of None = Faulting out_of_bounds h
        one_of (Some v) = Going w (next (write_item i f to v)) (next (write_item i g (ω to) v)) (accepts_item x ω t f g G a i to v c k)

        by : (o : Option Thing) → A (array_get i o w f to z) (array_get i o w g (ω to) z)
        by (Some (Items k vs)) = one_of (item_at vs z)
        by (Some (Instance k fs)) = Sticking
        by None = Sticking

    put_in : (i : Item) (v v' on on' : Value) (z z' : ℤ) → may_throw x ≡ true → Plain x → Nothing x → v' ≡ v → on' ≡ on → z' ≡ z → A (array_put under i (thing_at w on) w f v on z) (array_put under i (thing_at w on') w g v' on' z')
    put_in i v v' on on' z z' h c q e d b = subst (λ y. A (array_put under i (thing_at w on) w f v on z) (array_put under i (thing_at w on') w g y on' z')) (sym e)
        (subst (λ y. A (array_put under i (thing_at w on) w f v on z) (array_put under i (thing_at w y) w g v y z')) (sym d)
        (subst (λ y. A (array_put under i (thing_at w on) w f v on z) (array_put under i (thing_at w on) w g v on y)) (sym b) (by (thing_at w on))))
      where
        written : (b : Bool) (u : Thing) → A (writes_item b w f on u) (writes_item b w g on u)
        written true u = stays (put_thing w on u) c q
        written false u = Faulting bad_store h

        at : (k : Text) (vs : List Value) (o : Option Value)
            → A (elim o [ Some old ↦ writes_item (may_store under w i v k) w f on (put_item i k vs z v) | None ↦ Faults out_of_bounds ]) (elim o [ Some old ↦ writes_item (may_store under w i v k) w g on (put_item i k vs z v) | None ↦ Faults out_of_bounds ])
        at k vs (Some old) = written (may_store under w i v k) (put_item i k vs z v)
        at k vs None = Faulting out_of_bounds h

        by : (o : Option Thing) → A (array_put under i o w f v on z) (array_put under i o w g v on z)
        by (Some (Items k vs)) = at k vs (item_at vs z)
        by (Some (Instance k fs)) = Sticking
        by None = Sticking

    -- ---- types

    cast : (y y' : Value) (k : Text) → may_throw x ≡ true → Plain x → Nothing x → y' ≡ y
        → A (elim (is_null y || is_instance under w y k) [ true ↦ Goes w (next f) | false ↦ Faults bad_cast ]) (elim (is_null y' || is_instance under w y' k) [ true ↦ Goes w (next g) | false ↦ Faults bad_cast ])
    cast y y' k h c o e = subst (λ z. A (elim (is_null y || is_instance under w y k) [ true ↦ Goes w (next f) | false ↦ Faults bad_cast ]) (elim (is_null z || is_instance under w z k) [ true ↦ Goes w (next g) | false ↦ Faults bad_cast ])) (sym e)
        (choice (is_null y || is_instance under w y k) (Goes w (next f)) (Goes w (next g)) (Faults bad_cast) (Faults bad_cast) (stays w c o) (Faulting bad_cast h))

-- ---- targets

slice_target : (ts : List ℕ) (i u : ℕ) → slice_get ts i ≡ Some u → Contains ts u
slice_target [] i u e = none_some u e
slice_target (t ∷ ts) zero u e = subst (λ z. Contains (t ∷ ts) z) (some_same t u e) (contains_here t ts)
slice_target (t ∷ ts) (suc i) u e = contains_there t ts u (slice_target ts i u e)

switched : (z : ℤ) (ks : List ℤ) (ts : List ℕ) (u : ℕ) → switch_target z ks ts ≡ Some u → Contains ts u
switched z [] ts u e = none_some u e
switched z (k ∷ ks) [] u e = none_some u e
switched z (k ∷ ks) (t ∷ ts) u e = by (int_lt z k || int_lt k z) e (switched z ks ts u)
  where
    by : (b : Bool) → (elim b as (λ b. Option ℕ) [ true ↦ switch_target z ks ts | false ↦ Some t ]) ≡ Some u → (switch_target z ks ts ≡ Some u → Contains ts u) → Contains (t ∷ ts) u
    by true i h = contains_there t ts u (h i)
    by false i h = subst (λ z. Contains (t ∷ ts) z) (some_same t u i) (contains_here t ts)

switch_moved : (t : ℕ → ℕ) (z : ℤ) (ks : List ℤ) (ts : List ℕ) → switch_target z ks (map t ts) ≡ option_map t (switch_target z ks ts)
switch_moved t z [] ts = refl
switch_moved t z (k ∷ ks) [] = refl
switch_moved t z (k ∷ ks) (u ∷ ts) = by (int_lt z k || int_lt k z) (switch_moved t z ks ts)
  where
    by : (b : Bool) → switch_target z ks (map t ts) ≡ option_map t (switch_target z ks ts)
        → (elim b as (λ b. Option ℕ) [ true ↦ switch_target z ks (map t ts) | false ↦ Some (t u) ]) ≡ option_map t (elim b as (λ b. Option ℕ) [ true ↦ switch_target z ks ts | false ↦ Some u ])
    by true h = h
    by false h = refl

module _ (under : Text → Text → Bool) (floats : Floats) (w : World) (f g : Frame) (r ω t : ℕ → ℕ) (G : Frame → Frame → Type 0) where
  -- the form congruence
  pub acts : (x : Form) → Holds x r f g → Accepts x ω t f g G → Alike x f g G (act under floats x w f) (act under floats (remade r ω t x) w g)
  acts form.Nop h a = stays under floats w f g r ω t G _ a w (refl, refl) (λ n. refl)
  acts (form.Move slot.Word to from) h a = puts under floats w f g r ω t G _ a w to _ _ (refl, refl) (λ n. refl) (h.reads from (own false from))
  acts (form.Move slot.Object to from) h a = puts under floats w f g r ω t G _ a w to _ _ (refl, refl) (λ n. refl) (h.reads from (own false from))
  acts (form.Move slot.Wide to from) h a = subst (λ y. Alike (form.Move slot.Wide to from) f g G (Goes w (next (move_slot slot.Wide f to from))) (Goes w (next (write (write g (ω to) y) (ω to + 1) (register g (r from + 1)))))) (sym (h.reads from (own true from)))
      (subst (λ y. Alike (form.Move slot.Wide to from) f g G (Goes w (next (move_slot slot.Wide f to from))) (Goes w (next (write (write g (ω to) (register f from)) (ω to + 1) y)))) (sym (h.second to from refl))
      (Going w _ _ (a.two (refl, refl) to (register f from) (register f (from + 1)) (λ n. refl))))
  acts (form.MoveResult s to) h a = puts_slot under floats w f g r ω t G _ a s to _ _ (refl, refl) (λ n. refl) (h.result s to refl)
  acts (form.MoveException to) h a = puts under floats w f g r ω t G _ a w to _ _ (refl, refl) (λ n. refl) (h.caught to refl)
  acts form.ReturnVoid h a = Giving None refl
  acts (form.Return s from) h a = subst (λ y. Alike (form.Return s from) f g G (Gives (Some (register f from))) (Gives (Some y))) (sym (h.reads from (own (is_wide_slot s) from))) (Giving (Some (register f from)) refl)
  acts (form.Const to value) h a = puts under floats w f g r ω t G _ a w to _ _ (refl, refl) (λ n. refl) refl
  acts (form.ConstWide to value) h a = puts_wide under floats w f g r ω t G _ a w to (cast_unsigned w64 value) (refl, refl) (λ n. refl)
  acts (form.ConstString to text) h a = puts under floats w f g r ω t G _ a w to _ _ (refl, refl) (λ n. refl) refl
  acts (form.ConstClass to kind) h a = puts under floats w f g r ω t G _ a w to _ _ (refl, refl) (λ n. refl) refl
  acts (form.MonitorEnter on) h a = unless under floats w f g r ω t G _ a (register f on) (register g (r on)) _ _ (h.reads on (own false on)) refl
      (subst (λ y. Alike (form.MonitorEnter on) f g G (Locks (register f on)) (Locks y)) (sym (h.reads on (own false on))) (Locking (register f on) (a.none (refl, refl) (λ n. refl))))
  acts (form.MonitorExit on) h a = unless under floats w f g r ω t G _ a (register f on) (register g (r on)) _ _ (h.reads on (own false on)) refl
      (exit under floats w f g r ω t G _ a (register f on) (register g (r on)) refl (refl, refl) (λ n. refl) (h.reads on (own false on)))
  acts (form.CheckCast on kind) h a = cast under floats w f g r ω t G _ a (register f on) (register g (r on)) kind refl (refl, refl) (λ n. refl) (h.reads on (own false on))
  acts (form.InstanceOf to from kind) h a = puts under floats w f g r ω t G _ a w to _ _ (refl, refl) (λ n. refl) (ap (λ y. truth (is_instance under w y kind)) (h.reads from (own false from)))
  acts (form.ArrayLength to from) h a = unless under floats w f g r ω t G _ a (register f from) (register g (r from)) _ _ (h.reads from (own false from)) refl
      (measured under floats w f g r ω t G _ a (thing_at w (register f from)) (thing_at w (register g (r from))) to (refl, refl) (λ n. refl) (ap (thing_at w) (h.reads from (own false from))))
  acts (form.NewInstance to kind) h a = Making to (ω to) kind refl refl (λ v. a.one (refl, refl) to v (λ n. refl))
  acts (form.NewArray to size kind) h a = made under floats w f g r ω t G _ a _ _ kind to refl (refl, refl) (λ n. refl) (ap (λ y. signed false (word_of y)) (h.reads size (own false size)))
  acts (form.FilledNewArray kind args) h a = filled under floats w f g r ω t G _ a kind _ _ refl (λ n. refl) (all_same f g r args h.reads)
  acts (form.FillArray on width items) h a = unless under floats w f g r ω t G _ a (register f on) (register g (r on)) _ _ (h.reads on (own false on)) refl
      (fill_in under floats w f g r ω t G _ a (register f on) (register g (r on)) items refl (refl, refl) (λ n. refl) (h.reads on (own false on)))
  acts (form.Throw on) h a = unless under floats w f g r ω t G _ a (register f on) (register g (r on)) _ _ (h.reads on (own false on)) refl
      (subst (λ y. Alike (form.Throw on) f g G (Throws (register f on)) (Throws y)) (sym (h.reads on (own false on))) (Throwing (register f on) refl))
  acts (form.Goto target) h a = jumps under floats w f g r ω t G _ a target (contains_here target []) (λ n. refl) refl
  acts (form.PackedSwitch on first targets) h a = goes_there under floats w f g r ω t G _ a (packed_target (number f on) first targets) _ (refl, refl) (λ n. refl) (λ u e. slice_target targets _ u e)
      (ap (λ y. packed_target (word_of y) first (map t targets)) (h.reads on (own false on)) ∙ get_map t targets _)
  acts (form.SparseSwitch on keys targets) h a = goes_there under floats w f g r ω t G _ a (switch_target (signed false (number f on)) keys targets) _ (refl, refl) (λ n. refl) (λ u e. switched (signed false (number f on)) keys targets u e)
      (ap (λ y. switch_target (signed false (word_of y)) keys (map t targets)) (h.reads on (own false on)) ∙ switch_moved t (signed false (number f on)) keys targets)
  acts (form.Cmp op to m n) h a = puts under floats w f g r ω t G _ a w to _ _ (refl, refl) (λ n. refl)
      (ap (λ y. Word (comparison floats op (word_of y) (number g (r n)))) (h.reads m (or_left (in_operand (compares_wide op) m m) (in_operand (compares_wide op) n m) (own (compares_wide op) m)))
      ∙ ap (λ y. Word (comparison floats op (number f m) (word_of y))) (h.reads n (or_right (in_operand (compares_wide op) m n) (in_operand (compares_wide op) n n) (own (compares_wide op) n))))
  acts (form.If test m n target) h a = branches under floats w f g r ω t G _ a _ _ target (refl, refl) (λ n. refl) (contains_here target [])
      (ap (λ y. passes test y (register g (r n))) (h.reads m (or_left (nat_eq m m) (nat_eq m n) (own false m))) ∙ ap (λ y. passes test (register f m) y) (h.reads n (or_right (nat_eq n m) (nat_eq n n) (own false n))))
  acts (form.IfZero test m target) h a = branches under floats w f g r ω t G _ a _ _ target (refl, refl) (λ n. refl) (contains_here target []) (ap (λ y. passes test y (Word 0)) (h.reads m (own false m)))
  acts (form.ArrayGet i to array index) h a = let e = h.reads array (or_left (nat_eq array array) (nat_eq array index) (own false array)) in
      unless under floats w f g r ω t G _ a (register f array) (register g (r array)) _ _ e refl
      (got under floats w f g r ω t G _ a i (thing_at w (register f array)) (thing_at w (register g (r array))) to _ _ refl (refl, refl) (λ n. refl) (ap (thing_at w) e)
      (ap (λ y. signed false (word_of y)) (h.reads index (or_right (nat_eq index array) (nat_eq index index) (own false index)))))
  acts (form.ArrayPut i from array index) h a = let e = h.reads array (or_left (in_operand (is_wide_item i) from array || nat_eq array array) (nat_eq array index) (or_right (in_operand (is_wide_item i) from array) (nat_eq array array) (own false array))) in
      unless under floats w f g r ω t G _ a (register f array) (register g (r array)) _ _ e refl
      (put_in under floats w f g r ω t G _ a i (register f from) (register g (r from)) (register f array) (register g (r array)) _ _ refl (refl, refl) (λ n. refl)
      (h.reads from (or_left (in_operand (is_wide_item i) from from || nat_eq from array) (nat_eq from index) (or_left (in_operand (is_wide_item i) from from) (nat_eq from array) (own (is_wide_item i) from)))) e
      (ap (λ y. signed false (word_of y)) (h.reads index (or_right (in_operand (is_wide_item i) from index || nat_eq index array) (nat_eq index index) (own false index)))))
  acts (form.InstanceGet i to on field) h a = unless under floats w f g r ω t G _ a (register f on) (register g (r on)) _ _ (h.reads on (own false on)) refl
      (subst (λ y. Alike (form.InstanceGet i to on field) f g G (Reads i to field (Some (register f on))) (Reads i (ω to) field (Some y))) (sym (h.reads on (own false on)))
      (Reading i to (ω to) field (Some (register f on)) refl refl refl (λ v. accepts_item _ ω t f g G a i to v (refl, refl) (λ n. refl))))
  acts (form.InstancePut i from on field) h a = let e = h.reads on (or_right (in_operand (is_wide_item i) from on) (nat_eq on on) (own false on)) in
      unless under floats w f g r ω t G _ a (register f on) (register g (r on)) _ _ e refl
      (subst (λ y. Alike (form.InstancePut i from on field) f g G (Writes field (Some (register f on)) (stored i (register f from))) (Writes field (Some y) (stored i (register g (r from))))) (sym e)
      (subst (λ y. Alike (form.InstancePut i from on field) f g G (Writes field (Some (register f on)) (stored i (register f from))) (Writes field (Some (register f on)) (stored i y)))
      (sym (h.reads from (or_left (in_operand (is_wide_item i) from from) (nat_eq from on) (own (is_wide_item i) from))))
      (Writing field (Some (register f on)) (stored i (register f from)) refl refl (a.none (refl, refl) (λ n. refl)))))
  acts (form.StaticGet i to field) h a = Reading i to (ω to) field None refl refl refl (λ v. accepts_item _ ω t f g G a i to v (refl, refl) (λ n. refl))
  acts (form.StaticPut i from field) h a = subst (λ y. Alike (form.StaticPut i from field) f g G (Writes field None (stored i (register f from))) (Writes field None (stored i y))) (sym (h.reads from (own (is_wide_item i) from)))
      (Writing field None (stored i (register f from)) refl refl (a.none (refl, refl) (λ n. refl)))
  acts (form.Invoke kind method args) h a = subst (λ y. Alike (form.Invoke kind method args) f g G (Calls kind method (map (register f) args)) (Calls kind method y)) (sym (all_same f g r args h.reads))
      (Calling kind method (map (register f) args) refl refl tt (λ owes. tt) (λ v. a.gives refl (λ n. refl) v))
  acts (form.Unary op to from) h a = puts_number under floats w f g r ω t G _ a (unary_answer floats op (number f from)) _ to (refl, refl)
      (λ n. ap (λ b. in_operand b to n) (sym (unary_width floats op (number f from)))) (ap (λ y. unary_answer floats op (word_of y)) (h.reads from (own (unary_reads_wide op) from)))
  acts (form.Binary op to m n) h a = sorted under floats w f g r ω t G _ a (sort_of op) to m n (refl, refl) (λ k. ap (λ b. in_operand b to k) (sym (sort_width op))) (λ e. sym (sort_divides op) ∙ e)
      (h.reads m (or_left (in_operand (binary_is_wide op) m m) (in_operand (second_is_wide op) n m) (own (binary_is_wide op) m)))
      (h.reads n (or_right (in_operand (binary_is_wide op) m n) (in_operand (second_is_wide op) n n) (own (second_is_wide op) n)))
  acts (form.Literal op to m value) h a = gives_words under floats w f g r ω t G _ a (literal_answer op (word f m) (cast_unsigned w32 value)) _ to (refl, refl) (λ n. refl) (λ e. literal_unanswered op (word f m) (cast_unsigned w32 value) e)
      (ap (λ y. literal_answer op (word_of y % 2 ^ 32) (cast_unsigned w32 value)) (h.reads m (own false m)))
