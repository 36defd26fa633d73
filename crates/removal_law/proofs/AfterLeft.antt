-- What a form leaves in what is left of a program stands for what it left before.
use Rattle.std.proofs.Common.{◌≡◌, ℕ, ◌+◌, Bool, true, false, List, [], ◌∷◌, length, refl, sym, ap, ◌∙◌, subst, arith}
use Rattle.std.specs.Prelude.{◌&&◌, ◌||◌, not, nat_eq, ℤ, pos, map, if◌then◌else◌, codes}
use Rattle.std.specs.List.{list_any, list_all}
use Rattle.std.specs.Ordering.{int_eq}
use Rattle.std.proofs.lemmas.Bool.{eqb-true}
use Rattle.insn_set.specs.Widths.{is_wide_item, unary_writes_wide, binary_is_wide}
use Rattle.insn_set.specs.declared.ops.Slot.{Slot}
use Rattle.insn_set.specs.declared.ops.Slot.TheVariants as slot
use Rattle.insn_set.specs.declared.ops.Item.{Item}
use Rattle.insn_set.specs.declared.ops.Item.TheVariants as item
use Rattle.insn_set.specs.declared.ops.InvokeKind.{InvokeKind}
use Rattle.insn_set.specs.declared.ops.InvokeKind.TheVariants as call
use Rattle.dalvik_defs.specs.Names.{Text, object_type, is_word, is_wide, is_array, is_reference, item_of}
use Rattle.dalvik_defs.specs.Under.{defines}
use Rattle.dalvik_defs.specs.Items.{small_item, item_of_type}
use Rattle.dalvik_defs.specs.Find.{finds_super}
use Rattle.dalvik_defs.specs.declared.names.MethodKey.{MethodKey}
use Rattle.dalvik_defs.specs.declared.forms.Form.{Form}
use Rattle.dalvik_defs.specs.declared.forms.Form.TheVariants as form
use Rattle.dalvik_defs.specs.declared.program.NamedMethod.{NamedMethod}
use Rattle.dalvik_defs.specs.declared.program.NamedClass.{NamedClass}
use Rattle.dalvik_defs.specs.declared.program.NamedProgram.{NamedProgram}
use Rattle.dalvik_defs.proofs.Calm.{text_sound}
use Rattle.pass_defs.specs.Kinds.{Kind, Undefined, Zero, Word, Low, Null, Class, Array, Reference, Fresh, FreshThis, is_plain, kind_of_reference, kind_of}
use Rattle.pass_defs.specs.Registers.{Kinds, kind_at, written, replace, forget}
use Rattle.pass_defs.specs.Demands.{Demand, Number, Fits, Constructed, item_eq, is_array_where, is_constructed, meets, is_constructor_name, passed, is_allowed}
use Rattle.pass_defs.specs.Typed.{number_kind, constant_kind, got, moved, constructed, receiver_register, is_static_call, called, after, wrong_method, finds_static, passed_words, words_of, is_wrong}
use Rattle.pass_defs.specs.Live.{Family, KeepsAbove}
use Rattle.removal_law.specs.Left.{left_in, left_of, here, there}
use Rattle.removal_law.specs.Reach.{IsRegular, OkType}
use Rattle.removal_law.proofs.Lists.{clash, and_left}
use Rattle.removal_law.proofs.Classes.{Kept}
use Rattle.removal_law.proofs.Faces.{item_base}
use Rattle.removal_law.proofs.TypedCode.{not_not}
use Rattle.removal_law.proofs.KindsLeft.{null_if, is_lost, left_kind, at_left, array_left, array_stays, reference_left, kind_left, is_object}
use Rattle.removal_law.proofs.DemandsLeft.{FormLeft}
use Rattle.removal_law.proofs.AllowedLeft.{filled_array}
use Rattle.removal_law.proofs.WritesLeft.{left_kinds, written_left, replace_left, forget_left, Stands, stands_same, null_stands}

-- ---- items that are objects

bracket_or_class : (x : ℕ) → (nat_eq x 76 || nat_eq x 91) ≡ true → (F : ℕ → Bool) → F 76 ≡ false → F 91 ≡ false → F x ≡ false
bracket_or_class x e F a b = by (nat_eq x 76) refl e
  where
    by : (c : Bool) → nat_eq x 76 ≡ c → (c || nat_eq x 91) ≡ true → F x ≡ false
    by true i e = ap F (eqb-true x 76 i) ∙ a
    by false i e = ap F (eqb-true x 91 e) ∙ b

no_word : (t : Text) → is_reference t ≡ true → is_word t ≡ false
no_word [] e = refl
no_word (x ∷ t) e = bracket_or_class x e (λ x. list_any (nat_eq x) (codes "ZBSCIF")) refl refl

no_wide : (t : Text) → is_reference t ≡ true → is_wide t ≡ false
no_wide [] e = refl
no_wide (x ∷ t) e = bracket_or_class x e (λ x. nat_eq x 74 || nat_eq x 68) refl refl

object_kind : (p : NamedProgram) (t : Text) → is_reference t ≡ true → is_object (kind_of p t) ≡ true
object_kind p t e =
    ap (λ b. is_object (if b then Word else if is_wide t then Low else if is_reference t then kind_of_reference p t else Undefined)) (no_word t e)
    ∙ ap (λ b. is_object (if b then Low else if is_reference t then kind_of_reference p t else Undefined)) (no_wide t e)
    ∙ ap (λ b. is_object (if b then kind_of_reference p t else Undefined)) e
    ∙ by (is_array t) (is_plain p t)
  where
    by : (a b : Bool) → is_object (if a then Array t else if b then Class t else Reference) ≡ true
    by true b = refl
    by false true = refl
    by false false = refl

small_plain : (x : ℕ) → item_eq (small_item x) item.Object ≡ false
small_plain x = by (nat_eq x 90) (nat_eq x 66) (nat_eq x 67) (nat_eq x 83)
  where
    by : (a b c d : Bool) → item_eq (if a then item.Boolean else if b then item.Byte else if c then item.Char else if d then item.Short else item.Plain) item.Object ≡ false
    by true b c d = refl
    by false true c d = refl
    by false false true d = refl
    by false false false true = refl
    by false false false false = refl

object_item : (t : Text) → item_eq (item_of_type t) item.Object ≡ true → is_reference t ≡ true
object_item [] e = clash false e refl
object_item (x ∷ t) e = by (is_wide (x ∷ t)) (is_reference (x ∷ t)) e
  where
    by : (a b : Bool) → item_eq (if a then item.Wide else if b then item.Object else small_item x) item.Object ≡ true → b ≡ true
    by a true e = refl
    by true false e = clash false e refl
    by false false e = clash (item_eq (small_item x) item.Object) e (small_plain x)

module _ (p : NamedProgram) (s : Family) (above : KeepsAbove p s) (regular : IsRegular p) (none : defines p object_type ≡ false) (c : NamedClass) (m : NamedMethod) where
  abbrev q : NamedProgram
  q = left_of s p

  abbrev left : Kind → Kind
  left = left_kind p s

  abbrev lefts : Kinds → Kinds
  lefts = left_kinds p s

  abbrev put : ℕ → Kinds → Kind → Kinds
  put r a k = written r k (lefts a)

  -- a kind that is written as it is left
  wrote : (r : ℕ) (a : Kinds) (k k' : Kind) → k' ≡ left k → written r k' (lefts a) ≡ lefts (written r k a)
  wrote r a k k' e = ap (put r a) e ∙ written_left p s r k a

  number_left : (b : Bool) → number_kind b ≡ left (number_kind b)
  number_left true = refl
  number_left false = refl

  constant_left : (z : ℤ) → constant_kind z ≡ left (constant_kind z)
  constant_left z = by (int_eq z (pos 0))
    where
      by : (b : Bool) → (if b then Zero else Word) ≡ left (if b then Zero else Word)
      by true = refl
      by false = refl

  moved_left : (x : Slot) (a : Kinds) (r : ℕ) → moved x (kind_at (map left a.registers) r) ≡ left (moved x (kind_at a.registers r))
  moved_left slot.Wide a r = refl
  moved_left slot.Word a r = at_left p s a.registers r
  moved_left slot.Object a r = at_left p s a.registers r

  -- ---- calls

  -- a call with a receiver passes it
  unpassed : (x y : Bool) (n : ℕ) {A : Type 0} → not (x || y || not (nat_eq 0 (1 + n))) ≡ true → A
  unpassed true y n e = clash false e refl
  unpassed false true n e = clash false e refl
  unpassed false false n e = let i = eqb-true 0 (1 + n) (not_not (nat_eq 0 (1 + n)) e) in absurd (omega (arith, i))

  first_met : (k : MethodKey) (r : ℕ) (a : Kinds) (ds : List (ℕ × Demand)) → is_constructor_name k.name ≡ true
      → list_all (λ d. meets p c a.registers d.0 d.1) ((r, if is_constructor_name k.name then Constructed k.class else Fits k.class) ∷ ds) ≡ true → is_constructed c k.class (kind_at a.registers r) ≡ true
  first_met k r a ds i e = subst (λ b. meets p c a.registers r (if b then Constructed k.class else Fits k.class) ≡ true) i
      (and_left (meets p c a.registers r (if is_constructor_name k.name then Constructed k.class else Fits k.class)) (list_all (λ d. meets p c a.registers d.0 d.1) ds) e)

  -- the receiver of a constructor hasn't been constructed before
  receiver_new : (kind : InvokeKind) (k : MethodKey) (args : List ℕ) (a : Kinds) → is_allowed p c m a (form.Invoke kind k args) ≡ true → not (is_wrong p c m a (form.Invoke kind k args)) ≡ true
      → (is_constructor_name k.name && not (is_static_call kind)) ≡ true → is_constructed c k.class (kind_at a.registers (receiver_register args)) ≡ true
  receiver_new call.Static k args a e w i = static (is_constructor_name k.name) i
    where
      static : (b : Bool) → (b && false) ≡ true → is_constructed c k.class (kind_at a.registers (receiver_register args)) ≡ true
      static true i = clash false i refl
      static false i = clash false i refl
  receiver_new call.Super k args a e w i = super (wrong_method p call.Super k) (is_constructor_name k.name) i w
    where
      super : (x b : Bool) → (b && true) ≡ true → not (x || (b || finds_static (finds_super p c.name k)) || not (nat_eq (length args) (passed_words call.Super k))) ≡ true → is_constructed c k.class (kind_at a.registers (receiver_register args)) ≡ true
      super true b i w = clash false w refl
      super false true i w = clash false w refl
      super false false i w = clash false i refl
  receiver_new call.Direct k [] a e w i = unpassed (wrong_method p call.Direct k) false (words_of k.signature.parameters) w
  receiver_new call.Virtual k [] a e w i = unpassed (wrong_method p call.Virtual k) false (words_of k.signature.parameters) w
  receiver_new call.Interface k [] a e w i = unpassed (wrong_method p call.Interface k) false (words_of k.signature.parameters) w
  receiver_new call.Direct k (r ∷ rs) a e w i = first_met k r a (passed k.signature.parameters rs) (and_left (is_constructor_name k.name) true i) e
  receiver_new call.Virtual k (r ∷ rs) a e w i = first_met k r a (passed k.signature.parameters rs) (and_left (is_constructor_name k.name) true i) e
  receiver_new call.Interface k (r ∷ rs) a e w i = first_met k r a (passed k.signature.parameters rs) (and_left (is_constructor_name k.name) true i) e

  constructed_left : (k : Kind) (t : Text) (a : Kinds) → OkType p s t → OkType p s c.name → is_constructed c t k ≡ true → constructed q (left_in s c) (left k) (lefts a) ≡ lefts (constructed p c k a)
  constructed_left (Fresh u n) t a h k e =
      let i = text_sound u t e in
      ap (λ x. replace (Fresh u n) x (lefts a)) (kind_left p s above regular none u (subst (OkType p s) (sym i) h)) ∙ replace_left p s (Fresh u n) (kind_of p u) a ((λ t. refl), (λ t. refl))
  constructed_left FreshThis t a h k e = ap (λ x. replace FreshThis x (lefts a)) (kind_left p s above regular none c.name k) ∙ replace_left p s FreshThis (kind_of p c.name) a ((λ t. refl), (λ t. refl))
  constructed_left x t a h k e = clash false e refl

  called_left : (kind : InvokeKind) (k : MethodKey) (args : List ℕ) (a : Kinds) → FormLeft p s c m (form.Invoke kind k args) → is_allowed p c m a (form.Invoke kind k args) ≡ true
      → not (is_wrong p c m a (form.Invoke kind k args)) ≡ true → called q (left_in s c) kind k args (lefts a) ≡ lefts (called p c kind k args a)
  called_left kind k args a h e w =
      ap {A = Kinds} (λ b. record b { result = kind_of q k.signature.result }) (made (is_constructor_name k.name && not (is_static_call kind)) refl)
      ∙ ap (λ x. record (lefts (if is_constructor_name k.name && not (is_static_call kind) then constructed p c (kind_at a.registers (receiver_register args)) a else a)) { result = x })
      (kind_left p s above regular none k.signature.result (h.types k.signature.result (there k.class (k.signature.result ∷ k.signature.parameters) (here k.signature.parameters))))
    where
      made : (b : Bool) → (is_constructor_name k.name && not (is_static_call kind)) ≡ b
          → (if b then constructed q (left_in s c) (kind_at (map left a.registers) (receiver_register args)) (lefts a) else lefts a) ≡ lefts (if b then constructed p c (kind_at a.registers (receiver_register args)) a else a)
      made true i = ap (λ x. constructed q (left_in s c) x (lefts a)) (at_left p s a.registers (receiver_register args))
          ∙ constructed_left (kind_at a.registers (receiver_register args)) k.class a (h.types k.class (here (k.signature.result ∷ k.signature.parameters))) h.class (receiver_new kind k args a e w i)
      made false i = refl

  -- ---- what is got from an array

  object_left : (r : ℕ) (a : Kinds) (k : Kind) → is_array_where (λ t. item_eq (item_of_type t) item.Object) k ≡ true → Stands p s above regular none (written r (got p item.Object k) a) (written r (got q item.Object (left k)) (lefts a))
  object_left r a (Array t) e = by (is_lost p s t) refl
    where
      gone : Stands p s above regular none (written r (kind_of p (item_of t)) a) (written r Null (lefts a))
      gone = null_stands p s above regular none r (kind_of p (item_of t)) a (object_kind p (item_of t) (object_item (item_of t) e))

      stays : is_lost p s t ≡ false → Stands p s above regular none (written r (kind_of p (item_of t)) a) (written r (kind_of q (item_of t)) (lefts a))
      stays i =
          let h = array_left p s t i in
          stands_same p s above regular none (written r (kind_of p (item_of t)) a) (written r (kind_of q (item_of t)) (lefts a))
          (wrote r a (kind_of p (item_of t)) (kind_of q (item_of t)) (kind_left p s above regular none (item_of t) (subst (Kept s p) (sym (item_base t h.array)) h.ok)))

      by : (b : Bool) → is_lost p s t ≡ b → Stands p s above regular none (written r (kind_of p (item_of t)) a) (written r (got q item.Object (null_if p s b (Array t))) (lefts a))
      by true i = gone
      by false i = stays i
  object_left r a Zero e = stands_same p s above regular none (written r Null a) (written r Null (lefts a)) (written_left p s r Null a)
  object_left r a Null e = stands_same p s above regular none (written r Null a) (written r Null (lefts a)) (written_left p s r Null a)
  object_left r a k e = clash false e refl

  plain_left : (i : Item) (r : ℕ) (a : Kinds) → Stands p s above regular none (written r (number_kind (is_wide_item i)) a) (written r (number_kind (is_wide_item i)) (lefts a))
  plain_left i r a = stands_same p s above regular none (written r (number_kind (is_wide_item i)) a) (written r (number_kind (is_wide_item i)) (lefts a))
      (wrote r a (number_kind (is_wide_item i)) (number_kind (is_wide_item i)) (number_left (is_wide_item i)))

  got_left : (i : Item) (to array index : ℕ) (a : Kinds) → is_allowed p c m a (form.ArrayGet i to array index) ≡ true
      → Stands p s above regular none (written to (got p i (kind_at a.registers array)) a) (written to (got q i (kind_at (map left a.registers) array)) (lefts a))
  got_left item.Object to array index a e = subst (λ k. Stands p s above regular none (written to (got p item.Object (kind_at a.registers array)) a) (written to (got q item.Object k) (lefts a))) (sym (at_left p s a.registers array))
      (object_left to a (kind_at a.registers array) (and_left (is_array_where (λ t. item_eq (item_of_type t) item.Object) (kind_at a.registers array)) (list_all {X = ℕ × Demand} (λ d. meets p c a.registers d.0 d.1) ((index, Number) ∷ [])) e))
  got_left item.Plain to array index a e = plain_left item.Plain to a
  got_left item.Wide to array index a e = plain_left item.Wide to a
  got_left item.Boolean to array index a e = plain_left item.Boolean to a
  got_left item.Byte to array index a e = plain_left item.Byte to a
  got_left item.Char to array index a e = plain_left item.Char to a
  got_left item.Short to array index a e = plain_left item.Short to a

  -- ---- all forms

  abbrev is_got : Form → Bool
  is_got (form.ArrayGet i to array index) = true
  is_got f = false

  abbrev Same : ℕ → Form → Kinds → Type 0
  Same n f a = after q (left_in s c) n f (lefts a) ≡ lefts (after p c n f a)

  array_same : (t : Text) → OkType p s t → is_array t ≡ true → Array t ≡ left (Array t)
  array_same t h e = sym (array_stays p s t (record { ok = h; array = e }))

  number_same : (r : ℕ) (b : Bool) (a : Kinds) → written r (number_kind b) (lefts a) ≡ lefts (written r (number_kind b) a)
  number_same r b a = wrote r a (number_kind b) (number_kind b) (number_left b)

  same_after : (n : ℕ) (f : Form) (a : Kinds) → FormLeft p s c m f → is_allowed p c m a f ≡ true → not (is_wrong p c m a f) ≡ true → is_got f ≡ false → Same n f a
  same_after n (form.Move x to from) a h e w g = wrote to a (moved x (kind_at a.registers from)) (moved x (kind_at (map left a.registers) from)) (moved_left x a from)
  same_after n (form.MoveResult x to) a h e w g = written_left p s to a.result a
  same_after n (form.MoveException to) a h e w g = written_left p s to a.caught a
  same_after n (form.Const to value) a h e w g = wrote to a (constant_kind value) (constant_kind value) (constant_left value)
  same_after n (form.ConstWide to value) a h e w g = written_left p s to Low a
  same_after n (form.ConstString to text) a h e w g = written_left p s to Reference a
  same_after n (form.ConstClass to kind) a h e w g = written_left p s to Reference a
  same_after n (form.CheckCast on kind) a h e w g = wrote on a (kind_of_reference p kind) (kind_of_reference q kind) (reference_left p s above regular none kind (h.types kind (here [])))
  same_after n (form.InstanceOf to from kind) a h e w g = written_left p s to Word a
  same_after n (form.ArrayLength to from) a h e w g = written_left p s to Word a
  same_after n (form.NewInstance to kind) a h e w g = ap (written to (Fresh kind n)) (forget_left p s n a) ∙ written_left p s to (Fresh kind n) (forget n a)
  same_after n (form.NewArray to size kind) a h e w g = wrote to a (Array kind) (Array kind) (array_same kind (h.types kind (here [])) (not_not (is_array kind) w))
  same_after n (form.FilledNewArray kind args) a h e w g = ap {A = Kind} (λ k. record (lefts a) { result = k }) (array_same kind (h.types kind (here [])) (filled_array kind w))
  same_after n (form.Cmp op to x y) a h e w g = written_left p s to Word a
  same_after n (form.ArrayGet i to array index) a h e w g = clash true refl g
  same_after n (form.InstanceGet i to on field) a h e w g = wrote to a (kind_of p field.kind) (kind_of q field.kind) (kind_left p s above regular none field.kind (h.types field.kind (there field.class (field.kind ∷ []) (here []))))
  same_after n (form.StaticGet i to field) a h e w g = wrote to a (kind_of p field.kind) (kind_of q field.kind) (kind_left p s above regular none field.kind (h.types field.kind (there field.class (field.kind ∷ []) (here []))))
  same_after n (form.Invoke kind k args) a h e w g = called_left kind k args a h e w
  same_after n (form.Unary op to from) a h e w g = number_same to (unary_writes_wide op) a
  same_after n (form.Binary op to x y) a h e w g = number_same to (binary_is_wide op) a
  same_after n (form.Literal op to x value) a h e w g = written_left p s to Word a
  same_after n f a h e w g = refl

  pub after_left : (n : ℕ) (f : Form) (a : Kinds) → FormLeft p s c m f → is_allowed p c m a f ≡ true → not (is_wrong p c m a f) ≡ true
      → Stands p s above regular none (after p c n f a) (after q (left_in s c) n f (lefts a))
  after_left n (form.ArrayGet i to array index) a h e w = got_left i to array index a e
  after_left n f a h e w = stands_same p s above regular none (after p c n f a) (after q (left_in s c) n f (lefts a)) (same_after n f a h e w refl)
