-- What a form does in a frame is the same for two faces that agree, and keeps to things of known kinds.
use Rattle.std.proofs.Common.{◌≡◌, ℕ, zero, suc, ◌+◌, ℤ, pos, negsuc, Bool, true, false, List, [], ◌∷◌, ◌++◌, refl, sym, ap, subst}
use Rattle.std.specs.Prelude.{◌||◌, ◌&&◌, not, Option, Some, None, nat_lt, nat_eq, length, map, slice_get, int_lt}
use Rattle.insn_set.specs.declared.ops.Item.{Item}
use Rattle.insn_set.specs.declared.ops.Item.TheVariants as item
use Rattle.insn_set.specs.declared.ops.Slot.{Slot}
use Rattle.insn_set.specs.declared.ops.Slot.TheVariants as slot
use Rattle.dalvik_defs.specs.Names.{Text, string_type, class_type, item_of}
use Rattle.dalvik_defs.specs.Known.{null_pointer, bad_cast, negative_size, out_of_bounds, bad_store, bad_monitor, arithmetic_exception}
use Rattle.dalvik_defs.specs.Arith.{signed, passes}
use Rattle.dalvik_defs.specs.Operators.{Number, OneWord, OneWide, unary_answer}
use Rattle.dalvik_defs.specs.Items.{fill, stored}
use Rattle.dalvik_defs.specs.Face.{Face, Bodies}
use Rattle.dalvik_defs.specs.Outer.{Outer}
use Rattle.dalvik_defs.specs.State.{World, Thing, Instance, Items, is_null, kind_of, kind_of_thing, thing_at, put_thing, with_thing, next_object}
use Rattle.dalvik_defs.specs.declared.state.Value.{Value}
use Rattle.dalvik_defs.specs.declared.state.Value.TheVariants.{Word}
use Rattle.dalvik_defs.specs.declared.state.Frame.{Frame}
use Rattle.dalvik_defs.specs.Effect.{Effect, Goes, Faults, Throws, Gives, Calls, Makes, Reads, Writes, Locks, Unlocks, Stuck, register, write, write_wide, write_slot, write_item, next, go, sets, unless_null}
use Rattle.dalvik_defs.specs.ActPlain.{move_slot, exits, is_instance, casts, truth, branch, goes_to, switch_target, packed_target}
use Rattle.dalvik_defs.specs.ActArray.{measures, zeros, new_array, filled_array, fills, item_at, reads_item, array_get, may_store, writes_item, put_item, array_put}
use Rattle.dalvik_defs.specs.ActNumber.{number, gives_word, gives_wide, sets_number}
use Rattle.dalvik_defs.specs.Act.{act}
use Rattle.dalvik_defs.specs.declared.names.MethodKey.{MethodKey}
use Rattle.dalvik_defs.specs.declared.names.FieldKey.{FieldKey}
use Rattle.dalvik_defs.specs.declared.forms.Form.{Form}
use Rattle.dalvik_defs.specs.declared.forms.Form.TheVariants as form
use Rattle.dalvik_defs.specs.declared.tables.Floats.{Floats}
use Rattle.dalvik_defs.specs.declared.program.NamedProgram.{NamedProgram}
use Rattle.insn_set.specs.declared.ops.BinaryOp.{BinaryOp}
use Rattle.insn_set.specs.declared.ops.BinaryOp.TheVariants as binaries
use Rattle.insn_set.specs.declared.ops.LiteralOp.{LiteralOp}
use Rattle.insn_set.specs.declared.ops.LiteralOp.TheVariants as literals
use Rattle.pass_defs.specs.Bare.{may_throw, continues, targets}
use Rattle.pass_defs.specs.Walks.{next_position, onward}
use Rattle.removal_law.specs.Left.{In, here, there}
use Rattle.removal_law.specs.Agree.{AgreeOnField, Agree}
use Rattle.removal_law.proofs.Lists.{clash, in_back}
use Rattle.removal_law.proofs.Worlds.{Kinds, kinds_append, kinds_put, kinds_at, kind_known, item_method, item_position}

module _ (ok made : Text → Type 0) (live : MethodKey → Type 0) (says : MethodKey → Form → Type 0) (stands : MethodKey → ℕ → Type 0) (calm : Text → Bool) (p : NamedProgram) (o : Outer) (F G : Face) (find other : Bodies)
    (agree : Agree ok made live says stands calm p o F G find other) where
  -- things of kinds that a run comes to, and that objects may have
  pub record Sound (w : World) : Type 0 where
    pub kinds : Kinds ok w.heap
    pub mades : Kinds made w.heap

  pub sound_heap : (w v : World) → v.heap ≡ w.heap → Sound w → Sound v
  sound_heap w v e h = record { kinds = subst (Kinds ok) (sym e) h.kinds; mades = subst (Kinds made) (sym e) h.mades }

  pub sound_with : (w : World) (t : Thing) → Sound w → ok (kind_of_thing t) × made (kind_of_thing t) → Sound (with_thing w t)
  sound_with w t h k = record { kinds = kinds_append ok w.heap t h.kinds k.0; mades = kinds_append made w.heap t h.mades k.1 }

  pub sound_put : (w : World) (v : Value) (t : Thing) → Sound w → ok (kind_of_thing t) × made (kind_of_thing t) → Sound (put_thing w v t)
  sound_put w v t h k = record { kinds = kinds_put ok w v t h.kinds k.0; mades = kinds_put made w v t h.mades k.1 }

  pub sound_at : (w : World) (v : Value) (t : Thing) → Sound w → thing_at w v ≡ Some t → ok (kind_of_thing t) × made (kind_of_thing t)
  sound_at w v t h e = (kinds_at ok w v t h.kinds e, kinds_at made w v t h.mades e)

  string_known : ok string_type × made string_type
  string_known = agree.known string_type refl

  class_known : ok class_type × made class_type
  class_known = agree.known class_type refl

  pub kind_ok : (w : World) (v : Value) → Kinds ok w.heap → ok (kind_of w v)
  kind_ok w v h = kind_known ok agree.empty.0 string_known.0 class_known.0 w v h

  pub kind_made : (w : World) (v : Value) → Kinds made w.heap → made (kind_of w v)
  kind_made w v h = kind_known made agree.empty.1 string_known.1 class_known.1 w v h

  -- ---- effects

  abbrev pub OnField : FieldKey → Type 0
  OnField k = AgreeOnField ok made live k (F.field k) (G.field k)

  -- a form that goes on at the next position, and that may throw
  abbrev pub Waits : Form → Type 0
  Waits x = (continues x ≡ true) × (may_throw x ≡ true)

  -- what a form does in a frame of a method at a position
  abbrev pub EffectOk : MethodKey → ℕ → Form → Effect → Type 0
  EffectOk m n x (Goes w f) = Sound w × ((f.method ≡ m) × In f.position (onward x n))
  EffectOk m n x (Faults c) = (ok c × made c) × (may_throw x ≡ true)
  EffectOk m n x (Throws v) = may_throw x ≡ true
  EffectOk m n x (Gives v) = Unit {0}
  EffectOk m n x (Calls kind k vs) = Waits x × ((args : List ℕ) × says m (form.Invoke kind k args))
  EffectOk m n x (Makes to c) = Waits x × says m (form.NewInstance to c)
  EffectOk m n x (Reads i to k on) = Waits x × OnField k
  EffectOk m n x (Writes k on v) = Waits x × OnField k
  EffectOk m n x (Locks v) = continues x ≡ true
  EffectOk m n x (Unlocks v) = continues x ≡ true
  EffectOk m n x Stuck = Unit {0}

  pub record Acts (m : MethodKey) (n : ℕ) (x : Form) (a b : Effect) : Type 0 where
    pub same : a ≡ b
    pub good : EffectOk m n x a

  -- the next position, and a target
  pub goes_next : (x : Form) (n : ℕ) → continues x ≡ true → In (n + 1) (onward x n)
  goes_next x n e = subst (λ b. In (n + 1) (next_position b n ++ targets x)) (sym e) (here (targets x))

  goes_there : (x : Form) (n t : ℕ) → In t (targets x) → In t (onward x n)
  goes_there x n t i = in_back t (next_position (continues x) n) (targets x) i

  module _ (w : World) (f : Frame) (h : Sound w) (x : Form) where
    abbrev Does : Effect → Effect → Type 0
    Does a b = Acts f.method f.position x a b

    one : (a : Effect) → EffectOk f.method f.position x a → Acts f.method f.position x a a
    one a g = record { same = refl; good = g }

    does_if : (b : Bool) (a a' d d' : Effect) → Does a a' → Does d d' → Does (elim b [ true ↦ a | false ↦ d ]) (elim b [ true ↦ a' | false ↦ d' ])
    does_if true a a' d d' g k = g
    does_if false a a' d d' g k = k

    -- by a test on which both agree
    does_by : (b c : Bool) (a d : Effect) → b ≡ c → EffectOk f.method f.position x a → EffectOk f.method f.position x d → Does (elim b [ true ↦ a | false ↦ d ]) (elim c [ true ↦ a | false ↦ d ])
    does_by b c a d e g k = subst (λ z. Does (elim b [ true ↦ a | false ↦ d ]) (elim z [ true ↦ a | false ↦ d ])) e (does_if b a a d d (one a g) (one d k))

    goes : (f' : Frame) → f'.method ≡ f.method → f'.position ≡ f.position + 1 → continues x ≡ true → Does (Goes w f') (Goes w f')
    goes f' i j c = one (Goes w f') (h, (i, subst (λ n. In n (onward x f.position)) (sym j) (goes_next x f.position c)))

    goes_to_target : (t : ℕ) → In t (targets x) → Does (Goes w (go f t)) (Goes w (go f t))
    goes_to_target t i = one (Goes w (go f t)) (h, (refl, goes_there x f.position t i))

    unless : (v : Value) (a d : Effect) → may_throw x ≡ true → Does a d → Does (unless_null v a) (unless_null v d)
    unless v a d y g = does_if (is_null v) (Faults null_pointer) (Faults null_pointer) a d (one (Faults null_pointer) (agree.known null_pointer refl, y)) g

    slot_method : (s : Slot) (r : ℕ) (v : Value) → (write_slot s f r v).method ≡ f.method
    slot_method slot.Word r v = refl
    slot_method slot.Object r v = refl
    slot_method slot.Wide r v = refl

    slot_position : (s : Slot) (r : ℕ) (v : Value) → (next (write_slot s f r v)).position ≡ f.position + 1
    slot_position slot.Word r v = refl
    slot_position slot.Object r v = refl
    slot_position slot.Wide r v = refl

    move_method : (s : Slot) (to from : ℕ) → (move_slot s f to from).method ≡ f.method
    move_method slot.Word to from = refl
    move_method slot.Object to from = refl
    move_method slot.Wide to from = refl

    move_position : (s : Slot) (to from : ℕ) → (next (move_slot s f to from)).position ≡ f.position + 1
    move_position slot.Word to from = refl
    move_position slot.Object to from = refl
    move_position slot.Wide to from = refl

    -- ---- numbers and branches

    word_given : (n : Option ℕ) (to : ℕ) → continues x ≡ true → (n ≡ None → may_throw x ≡ true) → Does (gives_word n w f to) (gives_word n w f to)
    word_given None to c y = one (Faults arithmetic_exception) (agree.known arithmetic_exception refl, y refl)
    word_given (Some n) to c y = goes (next (write f to (Word n))) refl refl c

    wide_given : (n : Option ℕ) (to : ℕ) → continues x ≡ true → (n ≡ None → may_throw x ≡ true) → Does (gives_wide n w f to) (gives_wide n w f to)
    wide_given None to c y = one (Faults arithmetic_exception) (agree.known arithmetic_exception refl, y refl)
    wide_given (Some n) to c y = goes (next (write_wide f to n)) refl refl c

    number_does : (n : Number) (to : ℕ) → continues x ≡ true → Does (sets_number n w f to) (sets_number n w f to)
    number_does (OneWord n) to c = goes (next (write f to (Word n))) refl refl c
    number_does (OneWide n) to c = goes (next (write_wide f to n)) refl refl c

    branch_does : (b : Bool) (target : ℕ) → continues x ≡ true → In target (targets x) → Does (branch b w f target) (branch b w f target)
    branch_does true target c i = goes_to_target target i
    branch_does false target c i = goes (next f) refl refl c

    target_does : (t : Option ℕ) → continues x ≡ true → ((u : ℕ) → t ≡ Some u → In u (targets x)) → Does (goes_to t w f) (goes_to t w f)
    target_does None c i = goes (next f) refl refl c
    target_does (Some t) c i = goes_to_target t (i t refl)

    exit_does : (v : Value) → Waits x → Does (exits w v) (exits w v)
    exit_does v y = does_if (nat_eq (w.locks v) 0) (Faults bad_monitor) (Faults bad_monitor) (Unlocks v) (Unlocks v) (one (Faults bad_monitor) (agree.known bad_monitor refl, y.1)) (one (Unlocks v) y.0)

    -- ---- types

    under_same : (v : Value) (t : Text) → F.under (kind_of w v) t ≡ G.under (kind_of w v) t
    under_same v t = agree.under (kind_of w v) t (kind_ok w v h.kinds)

    instance_same : (v : Value) (t : Text) → is_instance F.under w v t ≡ is_instance G.under w v t
    instance_same v t = ap (λ b. not (is_null v) && b) (under_same v t)

    cast_does : (on : ℕ) (t : Text) → Waits x → Does (casts F.under w f on t) (casts G.under w f on t)
    cast_does on t y = does_by (is_null (register f on) || is_instance F.under w (register f on) t) (is_null (register f on) || is_instance G.under w (register f on) t)
        (Goes w (next f)) (Faults bad_cast) (ap (λ b. is_null (register f on) || b) (instance_same (register f on) t)) (h, (refl, goes_next x f.position y.0)) (agree.known bad_cast refl, y.1)

    instance_does : (to from : ℕ) (t : Text) → continues x ≡ true → Does (sets w f to (truth (is_instance F.under w (register f from) t))) (sets w f to (truth (is_instance G.under w (register f from) t)))
    instance_does to from t c = record { same = ap (λ b. sets w f to (truth b)) (instance_same (register f from) t); good = (h, (refl, goes_next x f.position c)) }

    -- ---- arrays

    items_known : (k : Text) (vs us : List Value) (v : Value) → thing_at w v ≡ Some (Items k vs) → Sound (put_thing w v (Items k us))
    items_known k vs us v i = sound_put w v (Items k us) h (sound_at w v (Items k vs) h i)

    measure_does : (to : ℕ) (t : Option Thing) → continues x ≡ true → Does (measures t w f to) (measures t w f to)
    measure_does to (Some (Items k vs)) c = goes (next (write f to (Word (length vs)))) refl refl c
    measure_does to (Some (Instance d fs)) c = one Stuck tt
    measure_does to None c = one Stuck tt

    -- with another world
    goes_in : (u : World) (f' : Frame) → Sound u → f'.method ≡ f.method → f'.position ≡ f.position + 1 → continues x ≡ true → Does (Goes u f') (Goes u f')
    goes_in u f' k i j c = one (Goes u f') (k, (i, subst (λ n. In n (onward x f.position)) (sym j) (goes_next x f.position c)))

    array_does : (to : ℕ) (z : ℤ) (t : Text) → ok (item_of t) → Waits x → Does (new_array z t w f to) (new_array z t w f to)
    array_does to (negsuc n) t k y = one (Faults negative_size) (agree.known negative_size refl, y.1)
    array_does to (pos n) t k y = goes_in (with_thing w (zeros (item_of t) n)) (next (write f to (next_object w))) (sound_with w (zeros (item_of t) n) h (agree.array (item_of t) k)) refl refl y.0

    filled_does : (args : List ℕ) (t : Text) → ok (item_of t) → continues x ≡ true → Does (filled_array t args w f) (filled_array t args w f)
    filled_does args t k c = goes_in (with_thing w (Items (item_of t) (map (register f) args))) (next (record f { result = next_object w }))
        (sound_with w (Items (item_of t) (map (register f) args)) h (agree.array (item_of t) k)) refl refl c

    fill_does : (v : Value) (ns : List ℕ) (t : Option Thing) → thing_at w v ≡ t → Waits x → Does (fills t w f v ns) (fills t w f v ns)
    fill_does v ns (Some (Items k vs)) i y = does_if (nat_lt (length vs) (length ns)) (Faults out_of_bounds) (Faults out_of_bounds) (Goes (put_thing w v (Items k (fill k ns vs))) (next f)) (Goes (put_thing w v (Items k (fill k ns vs))) (next f))
        (one (Faults out_of_bounds) (agree.known out_of_bounds refl, y.1))
        (goes_in (put_thing w v (Items k (fill k ns vs))) (next f) (items_known k vs (fill k ns vs) v i) refl refl y.0)
    fill_does v ns (Some (Instance d fs)) i y = one Stuck tt
    fill_does v ns None i y = one Stuck tt

    read_does : (i : Item) (to : ℕ) (v : Option Value) → Waits x → Does (reads_item i v w f to) (reads_item i v w f to)
    read_does i to None y = one (Faults out_of_bounds) (agree.known out_of_bounds refl, y.1)
    read_does i to (Some v) y = goes (next (write_item i f to v)) (item_method f i to v) (item_position f i to v) y.0

    get_does : (i : Item) (to : ℕ) (z : ℤ) (t : Option Thing) → Waits x → Does (array_get i t w f to z) (array_get i t w f to z)
    get_does i to z (Some (Items k vs)) y = read_does i to (item_at vs z) y
    get_does i to z (Some (Instance d fs)) y = one Stuck tt
    get_does i to z None y = one Stuck tt

    store_same : (i : Item) (v : Value) (k : Text) → may_store F.under w i v k ≡ may_store G.under w i v k
    store_same item.Object v k = ap (λ b. is_null v || b) (under_same v k)
    store_same item.Wide v k = refl
    store_same item.Plain v k = refl
    store_same item.Boolean v k = refl
    store_same item.Byte v k = refl
    store_same item.Char v k = refl
    store_same item.Short v k = refl

    put_sound : (i : Item) (k : Text) (vs : List Value) (z : ℤ) (v on : Value) → thing_at w on ≡ Some (Items k vs) → Sound (put_thing w on (put_item i k vs z v))
    put_sound i k vs (pos n) v on j = items_known k vs _ on j
    put_sound i k vs (negsuc n) v on j = items_known k vs _ on j

    written_does : (b d : Bool) (on : Value) (t : Thing) → b ≡ d → Sound (put_thing w on t) → Waits x → Does (writes_item b w f on t) (writes_item d w f on t)
    written_does b d on t i k y = subst (λ z. Does (writes_item b w f on t) (writes_item z w f on t)) i (by b)
      where
        by : (b : Bool) → Does (writes_item b w f on t) (writes_item b w f on t)
        by true = goes_in (put_thing w on t) (next f) k refl refl y.0
        by false = one (Faults bad_store) (agree.known bad_store refl, y.1)

    put_does : (i : Item) (v on : Value) (z : ℤ) (t : Option Thing) → thing_at w on ≡ t → Waits x → Does (array_put F.under i t w f v on z) (array_put G.under i t w f v on z)
    put_does i v on z (Some (Items k vs)) j y = by (item_at vs z)
      where
        by : (d : Option Value) → Does (elim d [ Some old ↦ writes_item (may_store F.under w i v k) w f on (put_item i k vs z v) | None ↦ Faults out_of_bounds ])
            (elim d [ Some old ↦ writes_item (may_store G.under w i v k) w f on (put_item i k vs z v) | None ↦ Faults out_of_bounds ])
        by (Some old) = written_does (may_store F.under w i v k) (may_store G.under w i v k) on (put_item i k vs z v) (store_same i v k) (put_sound i k vs z v on j) y
        by None = one (Faults out_of_bounds) (agree.known out_of_bounds refl, y.1)
    put_does i v on z (Some (Instance d fs)) j y = one Stuck tt
    put_does i v on z None j y = one Stuck tt

  sure : {A : Type 0} (n : ℕ) → Some n ≡ None → A
  sure n e = clash true refl (ap (λ o. elim o as (λ o. Bool) [ Some z ↦ true | None ↦ false ]) e)

  -- ---- targets

  slice_target : (ts : List ℕ) (i u : ℕ) → slice_get ts i ≡ Some u → In u ts
  slice_target [] i u e = clash true refl (ap (λ o. elim o as (λ o. Bool) [ Some z ↦ false | None ↦ true ]) e)
  slice_target (t ∷ ts) zero u e = subst (λ z. In z (t ∷ ts)) (ap (λ o. elim o as (λ o. ℕ) [ Some z ↦ z | None ↦ t ]) e) (here ts)
  slice_target (t ∷ ts) (suc i) u e = there t ts (slice_target ts i u e)

  switched : (z : ℤ) (ks : List ℤ) (ts : List ℕ) (u : ℕ) → switch_target z ks ts ≡ Some u → In u ts
  switched z [] ts u e = clash true refl (ap (λ o. elim o as (λ o. Bool) [ Some z ↦ false | None ↦ true ]) e)
  switched z (k ∷ ks) [] u e = clash true refl (ap (λ o. elim o as (λ o. Bool) [ Some z ↦ false | None ↦ true ]) e)
  switched z (k ∷ ks) (t ∷ ts) u e = by (int_lt z k || int_lt k z) e (switched z ks ts u)
    where
      by : (b : Bool) → (elim b as (λ b. Option ℕ) [ true ↦ switch_target z ks ts | false ↦ Some t ]) ≡ Some u → (switch_target z ks ts ≡ Some u → In u ts) → In u (t ∷ ts)
      by true i h = there t ts (h i)
      by false i h = subst (λ z. In z (t ∷ ts)) (ap (λ o. elim o as (λ o. ℕ) [ Some z ↦ z | None ↦ t ]) i) (here ts)

  module _ (w : World) (f : Frame) (h : Sound w) (floats : Floats) where
    abbrev Comes : Form → Type 0
    Comes x = Acts f.method f.position x (act F.under floats x w f) (act G.under floats x w f)

    -- ---- operators

    binary_does : (op : BinaryOp) (to a b : ℕ) → Comes (form.Binary op to a b)
    binary_does binaries.AddInt to a b = word_given w f h (form.Binary binaries.AddInt to a b) _ to refl (λ e. sure _ e)
    binary_does binaries.SubInt to a b = word_given w f h (form.Binary binaries.SubInt to a b) _ to refl (λ e. sure _ e)
    binary_does binaries.MulInt to a b = word_given w f h (form.Binary binaries.MulInt to a b) _ to refl (λ e. sure _ e)
    binary_does binaries.DivInt to a b = word_given w f h (form.Binary binaries.DivInt to a b) _ to refl (λ e. refl)
    binary_does binaries.RemInt to a b = word_given w f h (form.Binary binaries.RemInt to a b) _ to refl (λ e. refl)
    binary_does binaries.AndInt to a b = word_given w f h (form.Binary binaries.AndInt to a b) _ to refl (λ e. sure _ e)
    binary_does binaries.OrInt to a b = word_given w f h (form.Binary binaries.OrInt to a b) _ to refl (λ e. sure _ e)
    binary_does binaries.XorInt to a b = word_given w f h (form.Binary binaries.XorInt to a b) _ to refl (λ e. sure _ e)
    binary_does binaries.ShlInt to a b = word_given w f h (form.Binary binaries.ShlInt to a b) _ to refl (λ e. sure _ e)
    binary_does binaries.ShrInt to a b = word_given w f h (form.Binary binaries.ShrInt to a b) _ to refl (λ e. sure _ e)
    binary_does binaries.UshrInt to a b = word_given w f h (form.Binary binaries.UshrInt to a b) _ to refl (λ e. sure _ e)
    binary_does binaries.AddLong to a b = wide_given w f h (form.Binary binaries.AddLong to a b) _ to refl (λ e. sure _ e)
    binary_does binaries.SubLong to a b = wide_given w f h (form.Binary binaries.SubLong to a b) _ to refl (λ e. sure _ e)
    binary_does binaries.MulLong to a b = wide_given w f h (form.Binary binaries.MulLong to a b) _ to refl (λ e. sure _ e)
    binary_does binaries.DivLong to a b = wide_given w f h (form.Binary binaries.DivLong to a b) _ to refl (λ e. refl)
    binary_does binaries.RemLong to a b = wide_given w f h (form.Binary binaries.RemLong to a b) _ to refl (λ e. refl)
    binary_does binaries.AndLong to a b = wide_given w f h (form.Binary binaries.AndLong to a b) _ to refl (λ e. sure _ e)
    binary_does binaries.OrLong to a b = wide_given w f h (form.Binary binaries.OrLong to a b) _ to refl (λ e. sure _ e)
    binary_does binaries.XorLong to a b = wide_given w f h (form.Binary binaries.XorLong to a b) _ to refl (λ e. sure _ e)
    binary_does binaries.ShlLong to a b = wide_given w f h (form.Binary binaries.ShlLong to a b) _ to refl (λ e. sure _ e)
    binary_does binaries.ShrLong to a b = wide_given w f h (form.Binary binaries.ShrLong to a b) _ to refl (λ e. sure _ e)
    binary_does binaries.UshrLong to a b = wide_given w f h (form.Binary binaries.UshrLong to a b) _ to refl (λ e. sure _ e)
    binary_does binaries.AddFloat to a b = word_given w f h (form.Binary binaries.AddFloat to a b) _ to refl (λ e. sure _ e)
    binary_does binaries.SubFloat to a b = word_given w f h (form.Binary binaries.SubFloat to a b) _ to refl (λ e. sure _ e)
    binary_does binaries.MulFloat to a b = word_given w f h (form.Binary binaries.MulFloat to a b) _ to refl (λ e. sure _ e)
    binary_does binaries.DivFloat to a b = word_given w f h (form.Binary binaries.DivFloat to a b) _ to refl (λ e. sure _ e)
    binary_does binaries.RemFloat to a b = word_given w f h (form.Binary binaries.RemFloat to a b) _ to refl (λ e. sure _ e)
    binary_does binaries.AddDouble to a b = wide_given w f h (form.Binary binaries.AddDouble to a b) _ to refl (λ e. sure _ e)
    binary_does binaries.SubDouble to a b = wide_given w f h (form.Binary binaries.SubDouble to a b) _ to refl (λ e. sure _ e)
    binary_does binaries.MulDouble to a b = wide_given w f h (form.Binary binaries.MulDouble to a b) _ to refl (λ e. sure _ e)
    binary_does binaries.DivDouble to a b = wide_given w f h (form.Binary binaries.DivDouble to a b) _ to refl (λ e. sure _ e)
    binary_does binaries.RemDouble to a b = wide_given w f h (form.Binary binaries.RemDouble to a b) _ to refl (λ e. sure _ e)

    literal_does : (op : LiteralOp) (to a : ℕ) (value : ℤ) → Comes (form.Literal op to a value)
    literal_does literals.AddInt to a value = word_given w f h (form.Literal literals.AddInt to a value) _ to refl (λ e. sure _ e)
    literal_does literals.RsubInt to a value = word_given w f h (form.Literal literals.RsubInt to a value) _ to refl (λ e. sure _ e)
    literal_does literals.MulInt to a value = word_given w f h (form.Literal literals.MulInt to a value) _ to refl (λ e. sure _ e)
    literal_does literals.DivInt to a value = word_given w f h (form.Literal literals.DivInt to a value) _ to refl (λ e. refl)
    literal_does literals.RemInt to a value = word_given w f h (form.Literal literals.RemInt to a value) _ to refl (λ e. refl)
    literal_does literals.AndInt to a value = word_given w f h (form.Literal literals.AndInt to a value) _ to refl (λ e. sure _ e)
    literal_does literals.OrInt to a value = word_given w f h (form.Literal literals.OrInt to a value) _ to refl (λ e. sure _ e)
    literal_does literals.XorInt to a value = word_given w f h (form.Literal literals.XorInt to a value) _ to refl (λ e. sure _ e)
    literal_does literals.ShlInt to a value = word_given w f h (form.Literal literals.ShlInt to a value) _ to refl (λ e. sure _ e)
    literal_does literals.ShrInt to a value = word_given w f h (form.Literal literals.ShrInt to a value) _ to refl (λ e. sure _ e)
    literal_does literals.UshrInt to a value = word_given w f h (form.Literal literals.UshrInt to a value) _ to refl (λ e. sure _ e)

    -- ---- a form

    pub acts : (x : Form) → says f.method x → Comes x
    acts form.Nop s = goes w f h form.Nop (next f) refl refl refl
    acts (form.Move slot to from) s = goes w f h (form.Move slot to from) (next (move_slot slot f to from)) (move_method w f h (form.Move slot to from) slot to from) (move_position w f h (form.Move slot to from) slot to from) refl
    acts (form.MoveResult slot to) s = goes w f h (form.MoveResult slot to) (next (write_slot slot f to f.result)) (slot_method w f h (form.MoveResult slot to) slot to f.result) (slot_position w f h (form.MoveResult slot to) slot to f.result) refl
    acts (form.MoveException to) s = goes w f h (form.MoveException to) _ refl refl refl
    acts form.ReturnVoid s = one w f h form.ReturnVoid (Gives None) tt
    acts (form.Return slot from) s = one w f h (form.Return slot from) (Gives (Some (register f from))) tt
    acts (form.Const to value) s = goes w f h (form.Const to value) _ refl refl refl
    acts (form.ConstWide to value) s = goes w f h (form.ConstWide to value) _ refl refl refl
    acts (form.ConstString to text) s = goes w f h (form.ConstString to text) _ refl refl refl
    acts (form.ConstClass to kind) s = goes w f h (form.ConstClass to kind) _ refl refl refl
    acts (form.MonitorEnter on) s = unless w f h (form.MonitorEnter on) (register f on) _ _ refl (one w f h (form.MonitorEnter on) (Locks (register f on)) refl)
    acts (form.MonitorExit on) s = unless w f h (form.MonitorExit on) (register f on) _ _ refl (exit_does w f h (form.MonitorExit on) (register f on) (refl, refl))
    acts (form.CheckCast on kind) s = cast_does w f h (form.CheckCast on kind) on kind (refl, refl)
    acts (form.InstanceOf to from kind) s = instance_does w f h (form.InstanceOf to from kind) to from kind refl
    acts (form.ArrayLength to from) s = unless w f h (form.ArrayLength to from) (register f from) _ _ refl (measure_does w f h (form.ArrayLength to from) to (thing_at w (register f from)) refl)
    acts (form.NewInstance to kind) s = one w f h (form.NewInstance to kind) (Makes to kind) ((refl, refl), s)
    acts (form.NewArray to size kind) s = array_does w f h (form.NewArray to size kind) to (signed false (number f size)) kind (agree.arrays f.method to size kind s) (refl, refl)
    acts (form.FilledNewArray kind args) s = filled_does w f h (form.FilledNewArray kind args) args kind (agree.filled f.method args kind s) refl
    acts (form.FillArray on width items) s = unless w f h (form.FillArray on width items) (register f on) _ _ refl (fill_does w f h (form.FillArray on width items) (register f on) items (thing_at w (register f on)) refl (refl, refl))
    acts (form.Throw on) s = unless w f h (form.Throw on) (register f on) _ _ refl (one w f h (form.Throw on) (Throws (register f on)) refl)
    acts (form.Goto target) s = goes_to_target w f h (form.Goto target) target (here [])
    acts (form.PackedSwitch on first targets) s = target_does w f h (form.PackedSwitch on first targets) (packed_target (number f on) first targets) refl (λ u e. slice_target targets _ u e)
    acts (form.SparseSwitch on keys targets) s = target_does w f h (form.SparseSwitch on keys targets) (switch_target (signed false (number f on)) keys targets) refl (λ u e. switched (signed false (number f on)) keys targets u e)
    acts (form.Cmp op to a b) s = goes w f h (form.Cmp op to a b) _ refl refl refl
    acts (form.If test a b target) s = branch_does w f h (form.If test a b target) (passes test (register f a) (register f b)) target refl (here [])
    acts (form.IfZero test a target) s = branch_does w f h (form.IfZero test a target) (passes test (register f a) (Word 0)) target refl (here [])
    acts (form.ArrayGet item to array index) s = unless w f h (form.ArrayGet item to array index) (register f array) _ _ refl
        (get_does w f h (form.ArrayGet item to array index) item to (signed false (number f index)) (thing_at w (register f array)) (refl, refl))
    acts (form.ArrayPut item from array index) s = unless w f h (form.ArrayPut item from array index) (register f array) _ _ refl
        (put_does w f h (form.ArrayPut item from array index) item (register f from) (register f array) (signed false (number f index)) (thing_at w (register f array)) refl (refl, refl))
    acts (form.InstanceGet item to on field) s = unless w f h (form.InstanceGet item to on field) (register f on) _ _ refl
        (one w f h (form.InstanceGet item to on field) (Reads item to field (Some (register f on))) ((refl, refl), agree.fields f.method (form.InstanceGet item to on field) field s (here [])))
    acts (form.InstancePut item from on field) s = unless w f h (form.InstancePut item from on field) (register f on) _ _ refl
        (one w f h (form.InstancePut item from on field) (Writes field (Some (register f on)) (stored item (register f from))) ((refl, refl), agree.fields f.method (form.InstancePut item from on field) field s (here [])))
    acts (form.StaticGet item to field) s = one w f h (form.StaticGet item to field) (Reads item to field None) ((refl, refl), agree.fields f.method (form.StaticGet item to field) field s (here []))
    acts (form.StaticPut item from field) s = one w f h (form.StaticPut item from field) (Writes field None (stored item (register f from))) ((refl, refl), agree.fields f.method (form.StaticPut item from field) field s (here []))
    acts (form.Invoke kind method args) s = one w f h (form.Invoke kind method args) (Calls kind method (map (register f) args)) ((refl, refl), (args, s))
    acts (form.Unary op to from) s = number_does w f h (form.Unary op to from) (unary_answer floats op (number f from)) to refl
    acts (form.Binary op to a b) s = binary_does op to a b
    acts (form.Literal op to a value) s = literal_does op to a value
