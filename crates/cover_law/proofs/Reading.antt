-- A typed frame has all registers that its form reads, so that facts which hold of its registers hold of what is read.
use Rattle.std.proofs.Common.{◌≡◌, ℕ, zero, suc, ◌+◌, Bool, true, false, true≢false, List, [], ◌∷◌, ◌++◌, Some, ◌⊎◌, inl, inr, refl, sym, subst, arith, nat_eq}
use Rattle.std.specs.Prelude.{◌&&◌, ◌||◌, not, length, map, drop, slice_get, slice_index_or, if◌then◌else◌}
use Rattle.std.proofs.lemmas.Bool.{eqb-true}
use Rattle.std.specs.List.{list_all}
use Rattle.insn_set.specs.declared.ops.Slot.{Slot}
use Rattle.insn_set.specs.declared.ops.Slot.TheVariants as slot
use Rattle.insn_set.specs.declared.ops.Item.{Item}
use Rattle.insn_set.specs.declared.ops.Item.TheVariants as item
use Rattle.insn_set.specs.declared.ops.InvokeKind.{InvokeKind}
use Rattle.insn_set.specs.declared.ops.InvokeKind.TheVariants as call
use Rattle.insn_set.specs.Widths.{compares_wide, unary_reads_wide, binary_is_wide, second_is_wide}
use Rattle.dalvik_defs.specs.Names.{Text, is_word, is_wide, is_array, item_of}
use Rattle.dalvik_defs.specs.Items.{item_of_type}
use Rattle.dalvik_defs.specs.Outer.{Outer}
use Rattle.dalvik_defs.specs.State.{World}
use Rattle.dalvik_defs.specs.Effect.{register}
use Rattle.dalvik_defs.specs.Find.{finds_super}
use Rattle.dalvik_defs.specs.declared.forms.Form.{Form}
use Rattle.dalvik_defs.specs.declared.forms.Form.TheVariants as form
use Rattle.dalvik_defs.specs.declared.names.MethodKey.{MethodKey}
use Rattle.dalvik_defs.specs.declared.names.FieldKey.{FieldKey}
use Rattle.dalvik_defs.specs.declared.state.Value.{Value}
use Rattle.dalvik_defs.specs.declared.state.Value.TheVariants.{Word}
use Rattle.dalvik_defs.specs.declared.state.Frame.{Frame}
use Rattle.dalvik_defs.specs.declared.program.NamedClass.{NamedClass}
use Rattle.dalvik_defs.specs.declared.program.NamedProgram.{NamedProgram}
use Rattle.dalvik_defs.specs.declared.tables.Floats.{Floats}
use Rattle.dalvik_defs.specs.declared.tables.Framework.{Framework}
use Rattle.form_laws.specs.Changes.{operands}
use Rattle.pass_defs.specs.Analysis.{Analysis}
use Rattle.pass_defs.specs.Facts.{Facts}
use Rattle.pass_defs.specs.Kinds.{Kind, kind_eq, is_number, is_initialised, is_plain, is_below, is_program_interface, is_null, fits, fits_holder, fits_array}
use Rattle.pass_defs.specs.Kinds as kind
use Rattle.pass_defs.specs.Registers.{kind_at}
use Rattle.pass_defs.specs.Demands.{Demand, Moved, Number, Pair, Behind, Initialised, Either, Fits, Receiver, Holder, Constructed, AnArray, ArrayOf, Filled, is_moved, is_array_where, is_constructed, holds_field, item_eq, has_width, meets, wide_or, number_or_pair, of_type, slot_demand, is_equality, tested, second_tested, like, put_item, passed, passed_wide, is_constructor_name, found_class}
use Rattle.pass_defs.specs.Typed.{passed_words, wrong_method, wrong_super, words_of}
use Rattle.run_facts.specs.Covered.{Sees, SeesAll}
use Rattle.run_laws.specs.TypedStates.{TypedFrame}
use Rattle.run_laws.proofs.Settled.{IsSettled}
use Rattle.run_laws.proofs.Registers.{and_left, and_right, all_long}
use Rattle.run_laws.proofs.Climbs.{or_cases}
use Rattle.run_laws.proofs.Here.{At}
use Rattle.run_laws.proofs.Forms.{or_right}

-- ---- kinds that meet a demand are known

abbrev known : Kind → Bool
known kind.Undefined = false
known k = true

moved_known : (k : Kind) → is_moved k ≡ true → known k ≡ true
moved_known kind.Undefined e = e
moved_known k e = refl

number_known : (k : Kind) → is_number k ≡ true → known k ≡ true
number_known kind.Undefined e = e
number_known k e = refl

initialised_known : (k : Kind) → is_initialised k ≡ true → known k ≡ true
initialised_known kind.Undefined e = e
initialised_known k e = refl

low_known : (k : Kind) → kind_eq k kind.Low ≡ true → known k ≡ true
low_known kind.Undefined e = e
low_known k e = refl

high_known : (k : Kind) → kind_eq k kind.High ≡ true → known k ≡ true
high_known kind.Undefined e = e
high_known k e = refl

array_known : (of : Text → Bool) (k : Kind) → is_array_where of k ≡ true → known k ≡ true
array_known of kind.Undefined e = e
array_known of k e = refl

made_known : (c : NamedClass) (u : Text) (k : Kind) → is_constructed c u k ≡ true → known k ≡ true
made_known c u kind.Undefined e = e
made_known c u k e = refl

fits_known : (p : NamedProgram) (k : Kind) (u : Text) → fits p k u ≡ true → known k ≡ true
fits_known p kind.Undefined u e = by (is_word u) (is_array u) (is_plain p u) e
  where
    by : (x y z : Bool) → (if x then false else if y then false else if z then false else false) ≡ true → false ≡ true
    by true y z e = e
    by false true z e = e
    by false false true e = e
    by false false false e = e
fits_known p k u e = refl

holder_known : (p : NamedProgram) (k : Kind) (u : Text) → fits_holder p k u ≡ true → known k ≡ true
holder_known p k u e = fits_known p k u (and_left (fits p k u) (not (is_program_interface p u) || is_null k) e)

field_known : (p : NamedProgram) (c : NamedClass) (j : FieldKey) (k : Kind) → holds_field p c j k ≡ true → known k ≡ true
field_known p c j kind.Undefined e = holder_known p kind.Undefined j.class e
field_known p c j k e = refl

abbrev IsOwn : Demand → Type 0
IsOwn (Behind q) = ⊥
IsOwn d = Unit {0}

met_known : (p : NamedProgram) (c : NamedClass) (ks : List Kind) (r : ℕ) (d : Demand) → IsOwn d → meets p c ks r d ≡ true → known (kind_at ks r) ≡ true
met_known p c ks r Moved o e = moved_known (kind_at ks r) e
met_known p c ks r Number o e = number_known (kind_at ks r) e
met_known p c ks r Pair o e = low_known (kind_at ks r) (and_left (kind_eq (kind_at ks r) kind.Low) (kind_eq (kind_at ks (r + 1)) kind.High) e)
met_known p c ks r (Behind q) o e = absurd o
met_known p c ks r Initialised o e = initialised_known (kind_at ks r) e
met_known p c ks r Either o e = by (or_cases (is_number (kind_at ks r)) (is_initialised (kind_at ks r)) e)
  where
    by : (is_number (kind_at ks r) ≡ true) ⊎ (is_initialised (kind_at ks r) ≡ true) → known (kind_at ks r) ≡ true
    by (inl i) = number_known (kind_at ks r) i
    by (inr i) = initialised_known (kind_at ks r) i
met_known p c ks r (Fits u) o e = fits_known p (kind_at ks r) u e
met_known p c ks r (Receiver u) o e = holder_known p (kind_at ks r) u e
met_known p c ks r (Holder k) o e = field_known p c k (kind_at ks r) e
met_known p c ks r (Constructed u) o e = made_known c u (kind_at ks r) e
met_known p c ks r AnArray o e = array_known (λ u. true) (kind_at ks r) e
met_known p c ks r (ArrayOf i) o e = by (kind_at ks r) e
  where
    by : (k : Kind) → is_array_where (λ u. item_eq (item_of_type u) i) k ≡ true → known k ≡ true
    by k e = array_known (λ u. item_eq (item_of_type u) i) k e
met_known p c ks r (Filled n) o e = by (kind_at ks r) e
  where
    by : (k : Kind) → is_array_where (λ u. has_width n (item_of_type u)) k ≡ true → known k ≡ true
    by k e = array_known (λ u. has_width n (item_of_type u)) k e

-- what is known is in range
kept_at : (ks : List Kind) (vs : List Value) (r : ℕ) → length vs ≡ length ks → known (kind_at ks r) ≡ true → slice_get vs r ≡ Some (slice_index_or vs r (Word 0))
kept_at [] vs r l e = absurd (true≢false (sym e))
kept_at (k ∷ ks) [] r l e = absurd (omega (arith, l))
kept_at (k ∷ ks) (v ∷ vs) zero l e = refl
kept_at (k ∷ ks) (v ∷ vs) (suc r) l e = kept_at ks vs r (omega (arith, l)) e

own_or : (b : Bool) (d : Demand) → IsOwn d → IsOwn (wide_or b d)
own_or true d o = tt
own_or false d o = o

own_slot : (s : Slot) → IsOwn (slot_demand s)
own_slot slot.Wide = tt
own_slot s = tt

own_like : (k : Kind) → IsOwn (like k)
own_like kind.Zero = tt
own_like kind.Word = tt
own_like k = tt

own_tested : (b : Bool) → IsOwn (tested b)
own_tested true = tt
own_tested false = tt

own_second : (b : Bool) (k : Kind) → IsOwn (second_tested b k)
own_second true k = own_like k
own_second false k = tt

own_put : (i : Item) → IsOwn (put_item i)
own_put item.Wide = tt
own_put item.Object = tt
own_put i = tt

module _ {V : Type 0} (a : Analysis V) (p : NamedProgram) (o : Outer) (f : Framework) (floats : Floats) (reg : IsSettled p) (facts : Facts V) where
  module _ (w : World) (g : Frame) (t : TypedFrame p f w g) (x : ℕ → V) (all : SeesAll a p o facts x w g.registers) where
    abbrev ks : List Kind
    ks = t.kinds.registers

    abbrev S : ℕ → Type 0
    S r = Sees a p o facts (x r) w (register g r)

    abbrev pub Ss : List ℕ → Type 0
    Ss [] = Unit {0}
    Ss (r ∷ rs) = S r × Ss rs

    abbrev met : (ℕ × Demand) → Bool
    met d = meets p t.in_method.class ks d.0 d.1

    known_seen : (r : ℕ) → known (kind_at ks r) ≡ true → S r
    known_seen r e = all r (register g r) (kept_at ks g.registers r (all_long p f t.in_method.class.name w ks g.registers t.holds.registers) e)

    met_seen : (r : ℕ) (d : Demand) → IsOwn d → meets p t.in_method.class ks r d ≡ true → S r
    met_seen r d i e = known_seen r (met_known p t.in_method.class ks r d i e)

    pair_seen : (r : ℕ) → meets p t.in_method.class ks r Pair ≡ true → S r × S (r + 1)
    pair_seen r e = (met_seen r Pair tt e, known_seen (r + 1) (high_known (kind_at ks (r + 1)) (and_right (kind_eq (kind_at ks r) kind.Low) (kind_eq (kind_at ks (r + 1)) kind.High) e)))

    -- ---- arguments

    fitting_seen : (u : Text) (rs : List ℕ) → list_all met (map (λ r. (r, Fits u)) rs) ≡ true → Ss rs
    fitting_seen u [] e = tt
    fitting_seen u (r ∷ rs) e = (met_seen r (Fits u) tt (and_left (fits p (kind_at ks r) u) (list_all met (map (λ r. (r, Fits u)) rs)) e), fitting_seen u rs (and_right (fits p (kind_at ks r) u) (list_all met (map (λ r. (r, Fits u)) rs)) e))

    pub passed_seen : (ts : List Text) (rs : List ℕ) → list_all met (passed ts rs) ≡ true → length rs ≡ words_of ts → Ss rs
    passed_seen [] [] e l = tt
    passed_seen [] (r ∷ rs) e l = absurd (omega (arith, l))
    passed_seen (u ∷ ts) [] e l = tt
    passed_seen (u ∷ ts) (r ∷ rs) e l = by (is_wide u) refl e l (λ qs i j. passed_seen ts qs i j)
      where
        wide : (rs : List ℕ) → list_all met (passed_wide r rs ++ passed ts (drop 1 rs)) ≡ true → suc (length rs) ≡ 2 + words_of ts → ((qs : List ℕ) → list_all met (passed ts qs) ≡ true → length qs ≡ words_of ts → Ss qs) → Ss (r ∷ rs)
        wide [] i j more = absurd (omega (arith, j))
        wide (s ∷ rs) i j more = let pr = pair_seen r (and_left (meets p t.in_method.class ks r Pair) (nat_eq s (r + 1) && list_all met (passed ts rs)) i) in
            let rest = and_right (meets p t.in_method.class ks r Pair) (nat_eq s (r + 1) && list_all met (passed ts rs)) i in
            (pr.0, (subst S (sym (eqb-true s (r + 1) (and_left (nat_eq s (r + 1)) (list_all met (passed ts rs)) rest))) pr.1, more rs (and_right (nat_eq s (r + 1)) (list_all met (passed ts rs)) rest) (omega (arith, j))))

        by : (b : Bool) → is_wide u ≡ b → list_all met (elim b as (λ b. List (ℕ × Demand)) [ true ↦ passed_wide r rs ++ passed ts (drop 1 rs) | false ↦ (r, Fits u) ∷ passed ts rs ]) ≡ true → suc (length rs) ≡ (if b then 2 else 1) + words_of ts
            → ((qs : List ℕ) → list_all met (passed ts qs) ≡ true → length qs ≡ words_of ts → Ss qs) → Ss (r ∷ rs)
        by true k i j more = wide rs i j more
        by false k i j more = (met_seen r (Fits u) tt (and_left (fits p (kind_at ks r) u) (list_all met (passed ts rs)) i), more rs (and_right (fits p (kind_at ks r) u) (list_all met (passed ts rs)) i) (omega (arith, j)))

    abbrev I : Form → Type 0
    I y = At p o f floats reg w g t y

    pub enough : (ik : InvokeKind) (k : MethodKey) (args : List ℕ) → I (form.Invoke ik k args) → length args ≡ passed_words ik k
    enough ik k args h = eqb-true (length args) (passed_words ik k) (untrue (nat_eq (length args) (passed_words ik k)) (or_right (wrong_method p ik k || wrong_super p t.in_method.class ik k) (not (nat_eq (length args) (passed_words ik k))) h.right))
      where
        untrue : (b : Bool) → not b ≡ false → b ≡ true
        untrue true e = refl
        untrue false e = absurd (true≢false e)

    calls_seen : (ik : InvokeKind) (k : MethodKey) (args : List ℕ) → I (form.Invoke ik k args) → Ss args
    calls_seen call.Static k args h = passed_seen k.signature.parameters args h.allowed (let l = enough call.Static k args h in omega (arith, l))
    calls_seen ik k [] h = tt
    calls_seen call.Super k (r ∷ rs) h = let params = list_all met (passed k.signature.parameters rs) in (
      met_seen r (Fits k.class) tt (and_left (fits p (kind_at ks r) k.class) (list_all met (map (λ q. (r, q)) (map Fits (found_class (finds_super p t.in_method.class.name k))) ++ passed k.signature.parameters rs)) h.allowed),
      passed_seen k.signature.parameters rs (by (found_class (finds_super p t.in_method.class.name k)) (and_right (fits p (kind_at ks r) k.class) (list_all met (map (λ q. (r, q)) (map Fits (found_class (finds_super p t.in_method.class.name k))) ++ passed k.signature.parameters rs)) h.allowed))
          (let l = enough call.Super k (r ∷ rs) h in omega (arith, l)),
    )
      where
        by : (us : List Text) → list_all met (map (λ q. (r, q)) (map Fits us) ++ passed k.signature.parameters rs) ≡ true → list_all met (passed k.signature.parameters rs) ≡ true
        by [] e = e
        by (u ∷ us) e = by us (and_right (fits p (kind_at ks r) u) (list_all met (map (λ q. (r, q)) (map Fits us) ++ passed k.signature.parameters rs)) e)
    calls_seen call.Direct k (r ∷ rs) h = one call.Direct k r rs h.allowed (let l = enough call.Direct k (r ∷ rs) h in omega (arith, l))
      where
        one : (ik : InvokeKind) (k : MethodKey) (r : ℕ) (rs : List ℕ) → list_all met (map (λ q. (r, q)) ((if is_constructor_name k.name then Constructed k.class else Fits k.class) ∷ []) ++ passed k.signature.parameters rs) ≡ true → length rs ≡ words_of k.signature.parameters → Ss (r ∷ rs)
        one ik k r rs e l = two (is_constructor_name k.name) e
          where
            two : (b : Bool) → list_all met (map (λ q. (r, q)) ((if b then Constructed k.class else Fits k.class) ∷ []) ++ passed k.signature.parameters rs) ≡ true → Ss (r ∷ rs)
            two true e = (met_seen r (Constructed k.class) tt (and_left (meets p t.in_method.class ks r (Constructed k.class)) (list_all met (passed k.signature.parameters rs)) e), passed_seen k.signature.parameters rs (and_right (meets p t.in_method.class ks r (Constructed k.class)) (list_all met (passed k.signature.parameters rs)) e) l)
            two false e = (met_seen r (Fits k.class) tt (and_left (meets p t.in_method.class ks r (Fits k.class)) (list_all met (passed k.signature.parameters rs)) e), passed_seen k.signature.parameters rs (and_right (meets p t.in_method.class ks r (Fits k.class)) (list_all met (passed k.signature.parameters rs)) e) l)
    calls_seen call.Virtual k (r ∷ rs) h = two (is_constructor_name k.name) h.allowed (let l = enough call.Virtual k (r ∷ rs) h in omega (arith, l))
      where
        two : (b : Bool) → list_all met (map (λ q. (r, q)) ((if b then Constructed k.class else Fits k.class) ∷ []) ++ passed k.signature.parameters rs) ≡ true → length rs ≡ words_of k.signature.parameters → Ss (r ∷ rs)
        two true e l = (met_seen r (Constructed k.class) tt (and_left (meets p t.in_method.class ks r (Constructed k.class)) (list_all met (passed k.signature.parameters rs)) e), passed_seen k.signature.parameters rs (and_right (meets p t.in_method.class ks r (Constructed k.class)) (list_all met (passed k.signature.parameters rs)) e) l)
        two false e l = (met_seen r (Fits k.class) tt (and_left (meets p t.in_method.class ks r (Fits k.class)) (list_all met (passed k.signature.parameters rs)) e), passed_seen k.signature.parameters rs (and_right (meets p t.in_method.class ks r (Fits k.class)) (list_all met (passed k.signature.parameters rs)) e) l)
    calls_seen call.Interface k (r ∷ rs) h = two (is_constructor_name k.name) h.allowed (let l = enough call.Interface k (r ∷ rs) h in omega (arith, l))
      where
        two : (b : Bool) → list_all met (map (λ q. (r, q)) ((if b then Constructed k.class else Fits k.class) ∷ []) ++ passed k.signature.parameters rs) ≡ true → length rs ≡ words_of k.signature.parameters → Ss (r ∷ rs)
        two true e l = (met_seen r (Constructed k.class) tt (and_left (meets p t.in_method.class ks r (Constructed k.class)) (list_all met (passed k.signature.parameters rs)) e), passed_seen k.signature.parameters rs (and_right (meets p t.in_method.class ks r (Constructed k.class)) (list_all met (passed k.signature.parameters rs)) e) l)
        two false e l = (met_seen r (Fits k.class) tt (and_left (meets p t.in_method.class ks r (Fits k.class)) (list_all met (passed k.signature.parameters rs)) e), passed_seen k.signature.parameters rs (and_right (meets p t.in_method.class ks r (Fits k.class)) (list_all met (passed k.signature.parameters rs)) e) l)

    -- ---- the forms

    one_seen : (r : ℕ) (d : Demand) → IsOwn d → (rest : Bool) → (meets p t.in_method.class ks r d && rest) ≡ true → S r
    one_seen r d i rest e = met_seen r d i (and_left (meets p t.in_method.class ks r d) rest e)

    two_seen : (r s : ℕ) (d q : Demand) → IsOwn d → IsOwn q → (rest : Bool) → (meets p t.in_method.class ks r d && (meets p t.in_method.class ks s q && rest)) ≡ true → Ss (r ∷ s ∷ [])
    two_seen r s d q i j rest e = (one_seen r d i (meets p t.in_method.class ks s q && rest) e, (one_seen s q j rest (and_right (meets p t.in_method.class ks r d) (meets p t.in_method.class ks s q && rest) e), tt))

    -- what a form reads is seen
    pub reads_seen : (y : Form) → I y → Ss (operands y)
    reads_seen (form.Move slot.Wide to from) h = let k = pair_seen from (and_left (meets p t.in_method.class ks from Pair) true h.allowed) in (k.0, (k.1, tt))
    reads_seen (form.Move slot.Word to from) h = (one_seen from Moved tt true h.allowed, tt)
    reads_seen (form.Move slot.Object to from) h = (one_seen from Moved tt true h.allowed, tt)
    reads_seen (form.Return slot from) h = (one_seen from (of_type t.in_method.method.signature.result) (own_or (is_wide t.in_method.method.signature.result) (Fits t.in_method.method.signature.result) tt) true h.allowed, tt)
    reads_seen (form.MonitorEnter on) h = (one_seen on Initialised tt true h.allowed, tt)
    reads_seen (form.MonitorExit on) h = (one_seen on Initialised tt true h.allowed, tt)
    reads_seen (form.CheckCast on kind) h = (one_seen on Initialised tt true h.allowed, tt)
    reads_seen (form.InstanceOf to from kind) h = (one_seen from Initialised tt true h.allowed, tt)
    reads_seen (form.ArrayLength to from) h = (one_seen from AnArray tt true h.allowed, tt)
    reads_seen (form.NewArray to size kind) h = (one_seen size Number tt true h.allowed, tt)
    reads_seen (form.FilledNewArray kind args) h = fitting_seen (item_of kind) args h.allowed
    reads_seen (form.FillArray on width items) h = (one_seen on (Filled width) tt true h.allowed, tt)
    reads_seen (form.Throw on) h = (one_seen on Initialised tt true h.allowed, tt)
    reads_seen (form.PackedSwitch on first targets) h = (one_seen on Number tt true h.allowed, tt)
    reads_seen (form.SparseSwitch on keys targets) h = (one_seen on Number tt true h.allowed, tt)
    reads_seen (form.Cmp op to b c) h = two_seen b c (number_or_pair (compares_wide op)) (number_or_pair (compares_wide op)) (own_or (compares_wide op) Number tt) (own_or (compares_wide op) Number tt) true h.allowed
    reads_seen (form.If test b c target) h = two_seen b c (tested (is_equality test)) (second_tested (is_equality test) (kind_at ks b)) (own_tested (is_equality test)) (own_second (is_equality test) (kind_at ks b)) true h.allowed
    reads_seen (form.IfZero test b target) h = (one_seen b (tested (is_equality test)) (own_tested (is_equality test)) true h.allowed, tt)
    reads_seen (form.ArrayGet item to array index) h = two_seen array index (ArrayOf item) Number tt tt true h.allowed
    reads_seen (form.ArrayPut item from array index) h = let second = meets p t.in_method.class ks array (ArrayOf item) && (meets p t.in_method.class ks index Number && true) in
        (one_seen from (put_item item) (own_put item) second h.allowed, two_seen array index (ArrayOf item) Number tt tt true (and_right (meets p t.in_method.class ks from (put_item item)) second h.allowed))
    reads_seen (form.InstanceGet item to on field) h = (one_seen on (Receiver field.class) tt true h.allowed, tt)
    reads_seen (form.InstancePut item from on field) h = two_seen from on (of_type field.kind) (Holder field) (own_or (is_wide field.kind) (Fits field.kind) tt) tt true h.allowed
    reads_seen (form.StaticPut item from field) h = (one_seen from (of_type field.kind) (own_or (is_wide field.kind) (Fits field.kind) tt) true h.allowed, tt)
    reads_seen (form.Invoke kind method args) h = calls_seen kind method args h
    reads_seen (form.Unary op to from) h = (one_seen from (number_or_pair (unary_reads_wide op)) (own_or (unary_reads_wide op) Number tt) true h.allowed, tt)
    reads_seen (form.Binary op to b c) h = two_seen b c (number_or_pair (binary_is_wide op)) (number_or_pair (second_is_wide op)) (own_or (binary_is_wide op) Number tt) (own_or (second_is_wide op) Number tt) true h.allowed
    reads_seen (form.Literal op to b value) h = (one_seen b Number tt true h.allowed, tt)
    reads_seen y h = tt
