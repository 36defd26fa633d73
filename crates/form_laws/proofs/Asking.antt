-- What a form asks of registers it asks of those that they stand for.
use Rattle.std.proofs.Common.{◌≡◌, ℕ, ◌+◌, Bool, true, false, List, [], ◌∷◌, refl, sym, ap, ◌∙◌, subst, eqb-true}
use Rattle.std.specs.Prelude.{nat_eq, if◌then◌else◌}
use Rattle.std.specs.List.{list_any, list_all}
use Rattle.lemmas.proofs.Bools.{and_left, clash, or_left}
use Rattle.lemmas.proofs.Numbers.{same_number}
use Rattle.dalvik_defs.specs.Names.{Text, is_word, is_array}
use Rattle.dalvik_defs.specs.Items.{item_of_type}
use Rattle.dalvik_defs.specs.declared.names.FieldKey.{FieldKey}
use Rattle.dalvik_defs.specs.declared.forms.Form.{Form}
use Rattle.dalvik_defs.specs.declared.forms.Form.TheVariants as form
use Rattle.dalvik_defs.specs.declared.program.NamedClass.{NamedClass}
use Rattle.dalvik_defs.specs.declared.program.NamedMethod.{NamedMethod}
use Rattle.dalvik_defs.specs.declared.program.NamedProgram.{NamedProgram}
use Rattle.pass_defs.specs.Bare.{reads}
use Rattle.pass_defs.specs.Packed.{wides_read}
use Rattle.pass_defs.specs.Typed.{is_wrong}
use Rattle.pass_defs.specs.Remade.{remade}
use Rattle.pass_defs.specs.Kinds.{Kind, Undefined, Zero, Word, Low, High, Class, FreshThis, kind_eq, is_number, is_initialised, is_plain, is_below, fits, fits_holder}
use Rattle.pass_defs.specs.Registers.{Kinds, kind_at}
use Rattle.pass_defs.specs.Demands.{Demand, Moved, Number, Pair, Behind, Initialised, Either, Fits, Receiver, Holder, Constructed, AnArray, ArrayOf, Filled, item_eq, has_width, is_constructed, is_equality, holds_field, is_moved, is_array_where, meets, tested, demands, place_allowed, is_allowed}
use Rattle.form_laws.specs.Changes.{In, here, there}
use Rattle.form_laws.specs.Kinds.{AtFirst, SameKinds, AllSame, IsAsked, HasNarrowClass, is_whole, Held}
use Rattle.form_laws.proofs.Demanded.{allowed_named, and_behind}
use Rattle.form_laws.proofs.Asked.{either, all_in, asked_read}

pub moved_whole : (k : Kind) → is_moved k ≡ true → is_whole k ≡ true
moved_whole Undefined e = e
moved_whole Low e = e
moved_whole High e = e
moved_whole k e = refl

pub number_whole : (k : Kind) → is_number k ≡ true → is_whole k ≡ true
number_whole Zero e = refl
number_whole Word e = refl
number_whole k e = clash false e refl

pub initialised_whole : (k : Kind) → is_initialised k ≡ true → is_whole k ≡ true
initialised_whole Undefined e = e
initialised_whole Low e = e
initialised_whole High e = e
initialised_whole k e = refl

pub array_whole : (of : Text → Bool) (k : Kind) → is_array_where of k ≡ true → is_whole k ≡ true
array_whole of Undefined e = e
array_whole of Low e = e
array_whole of High e = e
array_whole of k e = refl

pub low_is : (k : Kind) → kind_eq k Low ≡ true → k ≡ Low
low_is Low e = refl
low_is k e = clash false e refl

pub high_is : (k : Kind) → kind_eq k High ≡ true → k ≡ High
high_is High e = refl
high_is k e = clash false e refl

-- a kind that fits a type is whole
pub fits_whole : (p : NamedProgram) (k : Kind) (t : Text) → fits p k t ≡ true → is_whole k ≡ true
fits_whole p Undefined t e = by (is_word t) (is_array t) (is_plain p t) e
  where
    by : (a b c : Bool) → (if a then false else if b then false else if c then is_below p Undefined (Class t) else false) ≡ true → false ≡ true
    by true b c e = e
    by false true c e = e
    by false false true e = e
    by false false false e = e
fits_whole p Low t e = by (is_word t) (is_array t) (is_plain p t) e
  where
    by : (a b c : Bool) → (if a then false else if b then false else if c then is_below p Low (Class t) else false) ≡ true → false ≡ true
    by true b c e = e
    by false true c e = e
    by false false true e = e
    by false false false e = e
fits_whole p High t e = by (is_word t) (is_array t) (is_plain p t) e
  where
    by : (a b c : Bool) → (if a then false else if b then false else if c then is_below p High (Class t) else false) ≡ true → false ≡ true
    by true b c e = e
    by false true c e = e
    by false false true e = e
    by false false false e = e
fits_whole p k t e = refl

pub holder_whole : (p : NamedProgram) (k : Kind) (t : Text) → fits_holder p k t ≡ true → is_whole k ≡ true
holder_whole p k t e = fits_whole p k t (and_left (fits p k t) _ e)

pub field_whole : (p : NamedProgram) (c : NamedClass) (q : FieldKey) (k : Kind) → holds_field p c q k ≡ true → is_whole k ≡ true
field_whole p c q FreshThis e = refl
field_whole p c q k e = holder_whole p k q.class e

pub constructed_whole : (c : NamedClass) (t : Text) (k : Kind) → is_constructed c t k ≡ true → is_whole k ≡ true
constructed_whole c t Undefined e = e
constructed_whole c t Low e = e
constructed_whole c t High e = e
constructed_whole c t k e = refl

-- ---- demands

module _ (p : NamedProgram) (c : NamedClass) (m : NamedMethod) (f : Form) (new : ℕ → ℕ) (live : ℕ → Bool) (a a' : Kinds) (held : Held new live a.registers a'.registers)
    (used : (o : ℕ) → reads f o ≡ true → live o ≡ true) (allowed : is_allowed p c m a f ≡ true)
    (narrow : HasNarrowClass f) (right : is_wrong p c m a f ≡ false) (side : (w : ℕ) → In (w, Pair) (demands p c m a.registers f) → list_any (nat_eq w) (wides_read f) ≡ true → new (w + 1) ≡ new w + 1) where
  abbrev asks : List (ℕ × Demand)
  asks = demands p c m a.registers f

  kept : (x : ℕ) (q : Demand) → In (x, q) asks → IsAsked f asks x q
  kept = asked_read p c m a f narrow allowed right

  pub all_met : list_all (λ d. meets p c a.registers d.0 d.1) asks ≡ true
  all_met = and_behind (place_allowed a f) (list_all (λ d. meets p c a.registers d.0 d.1) asks) allowed

  -- the kinds of a register that is read whole
  plain : (x : ℕ) (q : Demand) → (q ≡ Pair → ⊥) → ((y : ℕ) → q ≡ Behind y → ⊥) → reads f x ≡ true → is_whole (kind_at a.registers x) ≡ true → SameKinds new a.registers a'.registers (x, q)
  plain x q single apart r w = record { first = held.whole x (used x r) w; second = λ e. absurd (single e); behind = λ y e. absurd (apart y e) }

  -- both halves of a wide that is read
  halves : (x : ℕ) → In (x, Pair) asks → (kind_at a.registers x ≡ Low) × ((kind_at a.registers (x + 1) ≡ High) × ((kind_at a'.registers (new x) ≡ Low) × (kind_at a'.registers (new x + 1) ≡ High)))
  halves x i =
      let k = kept x Pair i in
      let e = all_in (λ d. meets p c a.registers d.0 d.1) asks (x, Pair) all_met i in
      let low = low_is (kind_at a.registers x) (and_left (kind_eq (kind_at a.registers x) Low) (kind_eq (kind_at a.registers (x + 1)) High) e) in
      let high = high_is (kind_at a.registers (x + 1)) (and_behind (kind_eq (kind_at a.registers x) Low) (kind_eq (kind_at a.registers (x + 1)) High) e) in
      let h = held.pairs x (used x k.1.0) (used (x + 1) k.1.1) (side x i k.0) low high in
      (low, (high, (h.0, h.1)))

  is_pair : Demand → Bool
  is_pair Pair = true
  is_pair q = false

  is_behind : Demand → Bool
  is_behind (Behind y) = true
  is_behind q = false

  one_same : (x : ℕ) (q : Demand) → In (x, q) asks → IsAsked f asks x q → meets p c a.registers x q ≡ true → SameKinds new a.registers a'.registers (x, q)
  unfolding is_pair is_behind
  one_same x Pair i k e = let h = halves x i in record {
    first = h.1.1.0 ∙ sym h.0;
    second = λ z. h.1.1.1 ∙ sym h.1.0;
    behind = λ y z. clash true refl (sym (ap is_behind z));
  }
  one_same x (Behind y) i k e =
      let h = halves y k in let beside = side y k (kept y Pair k).0 in let z = eqb-true x (y + 1) e in record {
        first = ap (λ x. kind_at a'.registers (new x)) z ∙ ap (kind_at a'.registers) beside ∙ h.1.1.1 ∙ sym h.1.0 ∙ ap (kind_at a.registers) (sym z);
        second = λ w. clash true refl (ap is_behind w);
        behind = λ u w. subst (λ v. new (v + 1) ≡ new v + 1) (ap (λ q. elim q as (λ q. ℕ) [ Behind v ↦ v | Moved ↦ y | Number ↦ y | Pair ↦ y | Initialised ↦ y | Either ↦ y | Fits t ↦ y | Receiver t ↦ y | Holder t ↦ y | Constructed t ↦ y | AnArray ↦ y | ArrayOf t ↦ y | Filled t ↦ y ]) w) beside;
      }
  one_same x Moved i k e = plain x Moved (λ z. clash true refl (ap is_pair (sym z))) (λ y z. clash true refl (ap is_behind (sym z))) k (moved_whole (kind_at a.registers x) e)
  one_same x Number i k e = plain x Number (λ z. clash true refl (ap is_pair (sym z))) (λ y z. clash true refl (ap is_behind (sym z))) k (number_whole (kind_at a.registers x) e)
  one_same x Initialised i k e = plain x Initialised (λ z. clash true refl (ap is_pair (sym z))) (λ y z. clash true refl (ap is_behind (sym z))) k (initialised_whole (kind_at a.registers x) e)
  one_same x Either i k e = plain x Either (λ z. clash true refl (ap is_pair (sym z))) (λ y z. clash true refl (ap is_behind (sym z))) k
      (either (is_number (kind_at a.registers x)) (is_initialised (kind_at a.registers x)) e (number_whole (kind_at a.registers x)) (initialised_whole (kind_at a.registers x)))
  one_same x (Fits t) i k e = plain x (Fits t) (λ z. clash true refl (ap is_pair (sym z))) (λ y z. clash true refl (ap is_behind (sym z))) k (fits_whole p (kind_at a.registers x) t e)
  one_same x (Receiver t) i k e = plain x (Receiver t) (λ z. clash true refl (ap is_pair (sym z))) (λ y z. clash true refl (ap is_behind (sym z))) k (holder_whole p (kind_at a.registers x) t e)
  one_same x (Holder t) i k e = plain x (Holder t) (λ z. clash true refl (ap is_pair (sym z))) (λ y z. clash true refl (ap is_behind (sym z))) k (field_whole p c t (kind_at a.registers x) e)
  one_same x (Constructed t) i k e = plain x (Constructed t) (λ z. clash true refl (ap is_pair (sym z))) (λ y z. clash true refl (ap is_behind (sym z))) k (constructed_whole c t (kind_at a.registers x) e)
  one_same x AnArray i k e = plain x AnArray (λ z. clash true refl (ap is_pair (sym z))) (λ y z. clash true refl (ap is_behind (sym z))) k (array_whole (λ t. true) (kind_at a.registers x) e)
  one_same x (ArrayOf t) i k e = plain x (ArrayOf t) (λ z. clash true refl (ap is_pair (sym z))) (λ y z. clash true refl (ap is_behind (sym z))) k (array_whole (λ u. item_eq (item_of_type u) t) (kind_at a.registers x) e)
  one_same x (Filled t) i k e = plain x (Filled t) (λ z. clash true refl (ap is_pair (sym z))) (λ y z. clash true refl (ap is_behind (sym z))) k (array_whole (λ u. has_width t (item_of_type u)) (kind_at a.registers x) e)

  pub all_same : (ds : List (ℕ × Demand)) → ((x : ℕ) (q : Demand) → In (x, q) ds → In (x, q) asks) → AllSame new a.registers a'.registers ds
  all_same [] h = tt
  all_same (d ∷ ds) h = let i = h d.0 d.1 (here ds) in
      (one_same d.0 d.1 i (kept d.0 d.1 i) (all_in (λ d. meets p c a.registers d.0 d.1) asks (d.0, d.1) all_met i), all_same ds (λ x q j. h x q (there d ds j)))

-- the first operand of an If has the kind that it had
pub first_same : (p : NamedProgram) (c : NamedClass) (m : NamedMethod) (f : Form) (new : ℕ → ℕ) (live : ℕ → Bool) (a a' : Kinds) → Held new live a.registers a'.registers → ((o : ℕ) → reads f o ≡ true → live o ≡ true)
    → is_allowed p c m a f ≡ true → AtFirst new a.registers a'.registers f
first_same p c m (form.If test x y target) new live a a' held used allowed = held.whole x (used x (or_left (nat_eq x x) (nat_eq x y) (same_number x))) (by (is_equality test) (and_left (meets p c a.registers x (tested (is_equality test))) _ allowed))
  where
    by : (b : Bool) → meets p c a.registers x (tested b) ≡ true → is_whole (kind_at a.registers x) ≡ true
    by true e = either (is_number (kind_at a.registers x)) (is_initialised (kind_at a.registers x)) e (number_whole (kind_at a.registers x)) (initialised_whole (kind_at a.registers x))
    by false e = number_whole (kind_at a.registers x) e
first_same p c m f new live a a' held used allowed = tt

-- what is allowed of a form is allowed of it with the registers that stand for its same_number
pub allowed_held : (p : NamedProgram) (c : NamedClass) (m : NamedMethod) (f : Form) (new : ℕ → ℕ) (live : ℕ → Bool) (a a' : Kinds) → Held new live a.registers a'.registers → a'.result ≡ a.result → a'.caught ≡ a.caught
    → ((o : ℕ) → reads f o ≡ true → live o ≡ true) → HasNarrowClass f → is_wrong p c m a f ≡ false → ((w : ℕ) → In (w, Pair) (demands p c m a.registers f) → list_any (nat_eq w) (wides_read f) ≡ true → new (w + 1) ≡ new w + 1)
    → is_allowed p c m a f ≡ true → is_allowed p c m a' (remade new new (λ t. t) f) ≡ true
allowed_held p c m f new live a a' held i j used narrow right side allowed =
    allowed_named p c m new new (λ t. t) a a' f i j (first_same p c m f new live a a' held used allowed) (all_same p c m f new live a a' held used allowed narrow right side (demands p c m a.registers f) (λ x q h. h)) allowed
