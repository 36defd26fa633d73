-- What is lower leaves what is lower.
use Rattle.std.proofs.Common.{◌≡◌, ℕ, zero, suc, ◌+◌, Bool, true, false, ◌||◌, not, nat_eq, List, [], ◌∷◌, map, length, None, refl, sym, ap, ◌∙◌, subst, arith}
use Rattle.std.specs.Prelude.{if◌then◌else◌}
use Rattle.std.proofs.lemmas.Bool.{ne_eqb}
use Rattle.insn_set.specs.declared.form.Insn.{Insn}
use Rattle.insn_set.specs.declared.form.Insn.TheVariants as insn
use Rattle.insn_set.specs.declared.ops.InvokeKind.{InvokeKind}
use Rattle.insn_set.specs.declared.ops.InvokeKind.TheVariants as call
use Rattle.insn_set.specs.declared.ops.Item.{Item}
use Rattle.insn_set.specs.declared.ops.Item.TheVariants as item
use Rattle.insn_set.specs.declared.ops.Slot.{Slot}
use Rattle.insn_set.specs.declared.ops.Slot.TheVariants as slot
use Rattle.insn_set.specs.Widths.{unary_writes_wide, binary_is_wide}
use Rattle.verify.specs.declared.kinds.Kind.{Kind}
use Rattle.verify.specs.declared.kinds.Kind.TheVariants.{Undefined, Word, WideLow, Fresh, FreshThis, Reference}
use Rattle.verify.specs.declared.setting.Setting.{Setting}
use Rattle.verify.specs.declared.tables.Tables.{Tables}
use Rattle.verify.specs.After.{constant_kind, moved, got_object, got, constructed, begun_call, called_by}
use Rattle.verify.specs.Demands.{unless, is_movable, is_result}
use Rattle.verify.specs.Faults.{fault_of}
use Rattle.verify.specs.Flow.{form_after}
use Rattle.verify.specs.Fits.{fits}
use Rattle.verify.specs.Frames.{Kinds, kind_at, written, replace, forget}
use Rattle.verify.specs.Kinds.{same_kind, is_number, is_initialised, is_moved, number_kind, replaced, forgotten}
use Rattle.verify.specs.Meeting.{IsMeeting}
use Rattle.verify.specs.Names.{field_kind, method_class, parameters_of, result_of}
use Rattle.verify.specs.Reads.{found_at, is_array_of, is_constructed, is_receiver, refused_arguments, refused_received, refused_call, refused_array, refused}
use Rattle.verify.specs.Types.{kind_of, cast_kind, is_constructor}
use Rattle.verify.specs.Typings.{Below, IsBelow, IsMonotone}
use Rattle.verify.specs.Wrong.{differ, finds_static, wrong_super, static_method, is_static_call, parameter_words, passed_words, wrong_call, is_wrong}
use Rattle.verify.proofs.Getting.{under_undefined, got_below, got_moved}
use Rattle.verify.proofs.Holding.{Each, moved_number, moved_made, low_below, moved_below, array_of_stored, constructed_same}
use Rattle.verify.proofs.Lattice.{same_is}
use Rattle.verify.proofs.Orders.{number_below, made_below, bare_below}
use Rattle.verify.proofs.Raises.{below_itself}
use Rattle.verify.proofs.Reading.{unless_true, lower_left, no_fault, reads_on}
use Rattle.verify.proofs.Writes.{written_below, moved_on}

-- ---- every register changes by one rule

kind_map : (f : Kind → Kind) (ks : List Kind) (r : ℕ) → f Undefined ≡ Undefined → kind_at (map f ks) r ≡ f (kind_at ks r)
kind_map f [] r e = sym e
kind_map f (k ∷ ks) zero e = refl
kind_map f (k ∷ ks) (suc r) e = kind_map f ks r e

map_long : (f : Kind → Kind) (ks : List Kind) → length (map f ks) ≡ length ks
map_long f [] = refl
map_long f (k ∷ ks) = ap suc (map_long f ks)

-- numbers, objects and undefined kinds stay
record Stays (f : Kind → Kind) : Type 0 where
  keeps : (k : Kind) → (is_number k || is_initialised k) ≡ true → f k ≡ k
  unknown : f Undefined ≡ Undefined

or_left : (a b : Bool) → a ≡ true → (a || b) ≡ true
or_left true b e = refl
or_left false b e = absurd (cc)

or_right : (a b : Bool) → b ≡ true → (a || b) ≡ true
or_right true b e = refl
or_right false b e = e

sort_below : (t : Tables) (k l : Kind) → Below t k l → (is_number l || is_initialised l) ≡ true → (is_number k || is_initialised k) ≡ true
sort_below t k l h e = go (is_number l) refl e
  where
    go : (x : Bool) → is_number l ≡ x → (x || is_initialised l) ≡ true → (is_number k || is_initialised k) ≡ true
    go true p e = or_left (is_number k) (is_initialised k) (number_below t k l h p)
    go false p e = or_right (is_number k) (is_initialised k) (made_below t k l h e)

or_false : (x y : Bool) → (x || y) ≡ false → (x ≡ false) × (y ≡ false)
or_false false y e = (refl, e)
or_false true y e = absurd (cc)

mapped_below : (t : Tables) (f : Kind → Kind) (w : Stays f) (k l : Kind) → Below t k l → Below t (f k) (f l)
mapped_below t f w k l h = go (is_number l || is_initialised l) (same_kind l Undefined) refl refl
  where
    go : (x y : Bool) → (is_number l || is_initialised l) ≡ x → same_kind l Undefined ≡ y → Below t (f k) (f l)
    go true y p q = subst (λ x. Below t x (f l)) (sym (w.keeps k (sort_below t k l h p))) (subst (Below t k) (sym (w.keeps l p)) h)
    go false true p q =
        let e : f l ≡ Undefined = ap f (same_is l Undefined q) ∙ w.unknown in
        subst (Below t (f k)) (sym e) (under_undefined t (f k))
    go false false p q =
        let g = or_false (is_number l) (is_initialised l) p in
        let e : k ≡ l = bare_below t k l h g.0 g.1 q in
        subst (λ x. Below t (f x) (f l)) (sym e) (below_itself t (f l))

each_mapped : (t : Tables) (f : Kind → Kind) (w : Stays f) (ks ls : List Kind) → Each t ks ls → Each t (map f ks) (map f ls)
each_mapped t f w ks ls h r = subst (λ x. Below t x (kind_at (map f ls) r)) (sym (kind_map f ks r w.unknown)) (subst (Below t (f (kind_at ks r))) (sym (kind_map f ls r w.unknown)) (mapped_below t f w (kind_at ks r) (kind_at ls r) (h r)))

long_mapped : (f : Kind → Kind) (ks ls : List Kind) → length ks ≡ length ls → length (map f ks) ≡ length (map f ls)
long_mapped f ks ls e = map_long f ks ∙ e ∙ sym (map_long f ls)

forgotten_keeps : (n : ℕ) (k : Kind) → (is_number k || is_initialised k) ≡ true → forgotten n k ≡ k
forgotten_keeps n (Fresh c m) e = absurd (cc)
forgotten_keeps n k e = refl

forget_on : (t : Tables) (n : ℕ) (a b : Kinds) → IsBelow t a b → IsBelow t (forget n a) (forget n b)
forget_on t n a b h = record {
  long = long_mapped (forgotten n) a.registers b.registers h.long;
  registers = each_mapped t (forgotten n) (record { keeps = forgotten_keeps n; unknown = refl }) a.registers b.registers h.registers;
  result = h.result;
  caught = h.caught;
  receiver = h.receiver;
}

-- a kind of an object that no constructor was called on
record IsFresh (k : Kind) : Type 0 where
  number : is_number k ≡ false
  made : is_initialised k ≡ false
  known : same_kind Undefined k ≡ false

differs : (old k : Kind) → IsFresh old → (is_number k || is_initialised k) ≡ true → same_kind k old ≡ false
differs old k w e = go (same_kind k old) refl
  where
    go : (x : Bool) → same_kind k old ≡ x → x ≡ false
    go false p = refl
    go true p =
        let q : (is_number old || is_initialised old) ≡ true = subst (λ x. (is_number x || is_initialised x) ≡ true) (same_is k old p) e in
        let a = w.number in
        let b = w.made in
        let u : (false || false) ≡ true = rw a at (rw b at q) in
        absurd (cc)

replace_stays : (old new : Kind) → IsFresh old → Stays (replaced old new)
replace_stays old new w = record {
  keeps = λ k e. let d = differs old k w e in rw d refl;
  unknown = (let d = w.known in rw d refl);
}

replace_on : (t : Tables) (old new : Kind) (a b : Kinds) → IsFresh old → IsBelow t a b → IsBelow t (replace old new a) (replace old new b)
replace_on t old new a b w h = record {
  long = long_mapped (replaced old new) a.registers b.registers h.long;
  registers = each_mapped t (replaced old new) (replace_stays old new w) a.registers b.registers h.registers;
  result = h.result;
  caught = h.caught;
  receiver = mapped_below t (replaced old new) (replace_stays old new w) a.receiver b.receiver h.receiver;
}

constructed_on : (t : Tables) (class : ℕ) (k : Kind) (a b : Kinds) → IsBelow t a b → IsBelow t (constructed t class k a) (constructed t class k b)
constructed_on t class (Fresh c n) a b h = replace_on t (Fresh c n) (kind_of t c) a b (record { number = refl; made = refl; known = refl }) h
constructed_on t class FreshThis a b h = replace_on t FreshThis (kind_of t class) a b (record { number = refl; made = refl; known = refl }) h
constructed_on t class k a b h = h

result_on : (t : Tables) (k : Kind) (a b : Kinds) → IsBelow t a b → IsBelow t (record a { result = k }) (record b { result = k })
result_on t k a b h = record { long = h.long; registers = h.registers; result = below_itself t k; caught = h.caught; receiver = h.receiver }

-- ---- moves and arrays

low_on : (t : Tables) (r : ℕ) (k l : Kind) (a b : Kinds) → Below t k l → same_kind l WideLow ≡ true → IsBelow t a b → IsBelow t (written r k a) (written r l b)
low_on t r k l a b e p h =
    let u : l ≡ WideLow = same_is l WideLow p in
    let v : k ≡ WideLow = same_is k WideLow (low_below t k l e p) in
    subst (λ x. IsBelow t (written r x a) (written r l b)) (sym v) (subst (λ x. IsBelow t (written r WideLow a) (written r x b)) (sym u) (written_below t r WideLow a b h))

module _ (s : Setting) (m : IsMeeting s.tables.now) (a b : Kinds) (h : IsBelow s.tables.now a b) where
  keeps_moved : (r : ℕ) (k l : Kind) → Below s.tables.now k l → is_moved l ≡ true → IsBelow s.tables.now (written r k a) (written r l b)
  keeps_moved r k l e p = moved_on s.tables.now r k l a b (moved_below s.tables.now k l e p) p e h

  move_on : (v : Slot) (to from : ℕ) → unless (is_movable v b.registers from) from ≡ None → IsBelow s.tables.now (written to (moved v (kind_at a.registers from)) a) (written to (moved v (kind_at b.registers from)) b)
  move_on slot.Wide to from e = written_below s.tables.now to WideLow a b h
  move_on slot.Word to from e = keeps_moved to (kind_at a.registers from) (kind_at b.registers from) (h.registers from) (unless_true (is_moved (kind_at b.registers from)) from e)
  move_on slot.Object to from e = keeps_moved to (kind_at a.registers from) (kind_at b.registers from) (h.registers from) (unless_true (is_moved (kind_at b.registers from)) from e)

  last_on : (v : Slot) (to : ℕ) → unless (is_result v b.result) to ≡ None → IsBelow s.tables.now (written to a.result a) (written to b.result b)
  last_on slot.Wide to e = low_on s.tables.now to a.result b.result a b h.result (unless_true (same_kind b.result WideLow) to e) h
  last_on slot.Word to e = keeps_moved to a.result b.result h.result (moved_number b.result (unless_true (is_number b.result) to e))
  last_on slot.Object to e = keeps_moved to a.result b.result h.result (moved_made b.result (unless_true (is_initialised b.result) to e))

  caught_on : (to : ℕ) → unless (is_initialised b.caught) to ≡ None → IsBelow s.tables.now (written to a.caught a) (written to b.caught b)
  caught_on to e = keeps_moved to a.caught b.caught h.caught (moved_made b.caught (unless_true (is_initialised b.caught) to e))

  fixed_on : (to : ℕ) (k : Kind) → IsBelow s.tables.now (written to k a) (written to k b)
  fixed_on to k = written_below s.tables.now to k a b h

  get_on : (i : Item) (to array index : ℕ) → refused_array s b.registers i array index ≡ None → IsBelow s.tables.now (written to (got s.tables.now i (kind_at a.registers array)) a) (written to (got s.tables.now i (kind_at b.registers array)) b)
  get_on item.Object to array index e =
      let p : is_array_of s (kind_at b.registers array) item.Object ≡ true = unless_true (is_array_of s (kind_at b.registers array) item.Object) array (lower_left (unless (is_array_of s (kind_at b.registers array) item.Object) array) (unless (is_number (kind_at b.registers index)) index) e) in
      let q = array_of_stored s (kind_at b.registers array) item.Object p in
      keeps_moved to (got_object s.tables.now (kind_at a.registers array)) (got_object s.tables.now (kind_at b.registers array)) (got_below s.tables.now m (kind_at a.registers array) (kind_at b.registers array) (h.registers array) q) (got_moved s.tables.now m (kind_at b.registers array) q)
  get_on item.Wide to array index e = fixed_on to WideLow
  get_on item.Plain to array index e = fixed_on to Word
  get_on item.Boolean to array index e = fixed_on to Word
  get_on item.Byte to array index e = fixed_on to Word
  get_on item.Char to array index e = fixed_on to Word
  get_on item.Short to array index e = fixed_on to Word

  -- ---- calls

  more_words : (x y : ℕ) → y ≡ x + 1 → nat_eq 0 y ≡ false
  more_words x y e = ne_eqb 0 y (λ q. omega (arith, q, e))

  -- a call on a receiver passes a register
  passes : (n : ℕ) (k : InvokeKind) (method : ℕ) → is_static_call k ≡ false → wrong_call s n k method 0 ≡ false → ⊥
  passes n k method p e =
      let g = or_false (differ (is_static_call k) (static_method s method) || wrong_super s n k method) (not (nat_eq 0 (passed_words s k method))) e in
      let w : passed_words s k method ≡ parameter_words s method + 1 = ap (λ x. parameter_words s method + (if x then 0 else 1)) p in
      let z : nat_eq 0 (passed_words s k method) ≡ false = more_words (parameter_words s method) (passed_words s k method) w in
      let u : not (nat_eq 0 (passed_words s k method)) ≡ true = rw z refl in
      absurd (let v = g.1 in cc)

  begun_from : (method : ℕ) (k l : Kind) (x : Bool) → (x ≡ true → k ≡ l) → IsBelow s.tables.now (if x then constructed s.tables.now s.kind k a else a) (if x then constructed s.tables.now s.kind l b else b)
  begun_from method k l true f = subst (λ y. IsBelow s.tables.now (constructed s.tables.now s.kind k a) (constructed s.tables.now s.kind y b)) (f refl) (constructed_on s.tables.now s.kind k a b h)
  begun_from method k l false f = h

  begun_on : (n : ℕ) (k : InvokeKind) (method : ℕ) (rs : List ℕ) → is_static_call k ≡ false → wrong_call s n k method (length rs) ≡ false
      → ((r : ℕ) → is_receiver s n b.registers k method r ≡ true → is_constructor s.tables.now method ≡ true → is_constructed s (kind_at b.registers r) (method_class s.program.now method) ≡ true)
      → refused_received s n b.registers k method rs ≡ None → IsBelow s.tables.now (begun_call s.tables.now s.kind method rs a) (begun_call s.tables.now s.kind method rs b)
  begun_on n k method [] p w c e = absurd (passes n k method p w)
  begun_on n k method (r ∷ rs) p w c e =
      let q : is_receiver s n b.registers k method r ≡ true = unless_true (is_receiver s n b.registers k method r) r (lower_left (unless (is_receiver s n b.registers k method r) r) (refused_arguments s b.registers (parameters_of s.program.now method) rs) e) in
      begun_from method (kind_at a.registers r) (kind_at b.registers r) (is_constructor s.tables.now method) (λ x. constructed_same s (kind_at a.registers r) (kind_at b.registers r) (method_class s.program.now method) (h.registers r) (c r q x))

  plain_constructed : (method r : ℕ) → (if is_constructor s.tables.now method then is_constructed s (kind_at b.registers r) (method_class s.program.now method) else fits s.tables.now (kind_at b.registers r) (method_class s.program.now method)) ≡ true → is_constructor s.tables.now method ≡ true → is_constructed s (kind_at b.registers r) (method_class s.program.now method) ≡ true
  plain_constructed method r e x = go (is_constructor s.tables.now method) x e
    where
      go : (y : Bool) → y ≡ true → (if y then is_constructed s (kind_at b.registers r) (method_class s.program.now method) else fits s.tables.now (kind_at b.registers r) (method_class s.program.now method)) ≡ true → is_constructed s (kind_at b.registers r) (method_class s.program.now method) ≡ true
      go true x e = e
      go false x e = absurd (cc)

  super_constructed : (n method words : ℕ) → wrong_call s n call.Super method words ≡ false → is_constructor s.tables.now method ≡ true → ⊥
  super_constructed n method words e x =
      let f = or_false (differ false (static_method s method) || wrong_super s n call.Super method) (not (nat_eq words (passed_words s call.Super method))) e in
      let g = or_false (differ false (static_method s method)) (is_constructor s.tables.now method || finds_static (found_at s n)) f.0 in
      let k = or_false (is_constructor s.tables.now method) (finds_static (found_at s n)) g.1 in
      absurd (let v = k.0 in cc)

  call_on : (n : ℕ) (k : InvokeKind) (method : ℕ) (rs : List ℕ) → wrong_call s n k method (length rs) ≡ false → refused_call s n b.registers k method rs ≡ None → IsBelow s.tables.now (called_by k s.program.now s.tables.now s.kind method rs a) (called_by k s.program.now s.tables.now s.kind method rs b)
  call_on n call.Static method rs w e = result_on s.tables.now (kind_of s.tables.now (result_of s.program.now method)) a b h
  call_on n call.Super method rs w e = result_on s.tables.now (kind_of s.tables.now (result_of s.program.now method)) (begun_call s.tables.now s.kind method rs a) (begun_call s.tables.now s.kind method rs b) (begun_on n call.Super method rs refl w (λ r q x. absurd (super_constructed n method (length rs) w x)) e)
  call_on n call.Virtual method rs w e = result_on s.tables.now (kind_of s.tables.now (result_of s.program.now method)) (begun_call s.tables.now s.kind method rs a) (begun_call s.tables.now s.kind method rs b) (begun_on n call.Virtual method rs refl w (λ r q x. plain_constructed method r q x) e)
  call_on n call.Direct method rs w e = result_on s.tables.now (kind_of s.tables.now (result_of s.program.now method)) (begun_call s.tables.now s.kind method rs a) (begun_call s.tables.now s.kind method rs b) (begun_on n call.Direct method rs refl w (λ r q x. plain_constructed method r q x) e)
  call_on n call.Interface method rs w e = result_on s.tables.now (kind_of s.tables.now (result_of s.program.now method)) (begun_call s.tables.now s.kind method rs a) (begun_call s.tables.now s.kind method rs b) (begun_on n call.Interface method rs refl w (λ r q x. plain_constructed method r q x) e)

  -- ---- forms

  leaves : (n : ℕ) (i : Insn) → is_wrong s n b i ≡ false → refused s n b i ≡ None → IsBelow s.tables.now (form_after s n i a) (form_after s n i b)
  leaves n (insn.Move v to from) w e = move_on v to from e
  leaves n (insn.MoveResult v to) w e = last_on v to e
  leaves n (insn.MoveException to) w e = caught_on to e
  leaves n (insn.Const to value) w e = fixed_on to (constant_kind value)
  leaves n (insn.ConstWide to value) w e = fixed_on to WideLow
  leaves n (insn.ConstString to string) w e = fixed_on to Reference
  leaves n (insn.ConstClass to type) w e = fixed_on to Reference
  leaves n (insn.InstanceOf to from type) w e = fixed_on to Word
  leaves n (insn.ArrayLength to from) w e = fixed_on to Word
  leaves n (insn.Cmp op to x y) w e = fixed_on to Word
  leaves n (insn.Literal op to x value) w e = fixed_on to Word
  leaves n (insn.Unary op to from) w e = fixed_on to (number_kind (unary_writes_wide op))
  leaves n (insn.Binary op to x y) w e = fixed_on to (number_kind (binary_is_wide op))
  leaves n (insn.CheckCast on type) w e = fixed_on on (cast_kind s.tables.now type)
  leaves n (insn.NewInstance to type) w e = written_below s.tables.now to (Fresh type n) (forget n a) (forget n b) (forget_on s.tables.now n a b h)
  leaves n (insn.NewArray to size type) w e = fixed_on to (kind_of s.tables.now type)
  leaves n (insn.FilledNewArray type args) w e = result_on s.tables.now (kind_of s.tables.now type) a b h
  leaves n (insn.ArrayGet i to array index) w e = get_on i to array index e
  leaves n (insn.InstanceGet i to on field) w e = fixed_on to (kind_of s.tables.now (field_kind s.program.now field))
  leaves n (insn.StaticGet i to field) w e = fixed_on to (kind_of s.tables.now (field_kind s.program.now field))
  leaves n (insn.Invoke k method args) w e = call_on n k method args w e
  leaves n i w e = h

  pub leaves_on : (n : ℕ) (i : Insn) → fault_of s n b i ≡ None → IsBelow s.tables.now (form_after s n i a) (form_after s n i b)
  leaves_on n i e = let f = no_fault s n b i e in leaves n i f.0 f.1

pub monotone : (s : Setting) → IsMeeting s.tables.now → IsMonotone s
monotone s m = record {
  reads = λ n i a b h e. reads_on s m a b h n i e;
  after = λ n i a b h e. leaves_on s m a b h n i e;
}
