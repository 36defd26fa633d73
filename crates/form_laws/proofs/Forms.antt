-- The law of forms.
use Rattle.std.proofs.Common.{◌≡◌, ℕ, zero, suc, ◌+◌, Bool, true, false, List, [], ◌∷◌, length, Option, Some, None, refl, sym, ap, ap₂, ◌∙◌, subst, true≢false}
use Rattle.std.specs.Prelude.{ℤ, pos, negsuc, nat_eq, map, ◌||◌, ◌%◌, ◌^◌, ◌-◌, slice_get, int_lt, nat_lt}
use Rattle.std.specs.Int.{w32, cast_unsigned}
use Rattle.insn_set.specs.Widths.{unary_writes_wide, binary_is_wide, is_wide_item}
use Rattle.insn_set.specs.Flow.{divides, divides_by_literal}
use Rattle.insn_set.specs.declared.ops.Slot.TheVariants as slot
use Rattle.insn_set.specs.declared.ops.Item.{Item}
use Rattle.insn_set.specs.declared.ops.Item.TheVariants as item
use Rattle.insn_set.specs.declared.ops.UnaryOp.{UnaryOp}
use Rattle.insn_set.specs.declared.ops.UnaryOp.TheVariants as unary
use Rattle.insn_set.specs.declared.ops.BinaryOp.{BinaryOp}
use Rattle.insn_set.specs.declared.ops.BinaryOp.TheVariants as binary
use Rattle.insn_set.specs.declared.ops.LiteralOp.{LiteralOp}
use Rattle.insn_set.specs.declared.ops.LiteralOp.TheVariants as literal
use Rattle.dalvik_defs.specs.Names.{Text, item_of}
use Rattle.dalvik_defs.specs.Known.{out_of_bounds, null_pointer, bad_cast, bad_monitor}
use Rattle.std.specs.Option.{option_map}
use Rattle.lemmas.proofs.Lists.{get_map}
use Rattle.dalvik_defs.specs.Arith.{Kind, Div, Rem, signed, passes, answer, literal_answer}
use Rattle.dalvik_defs.specs.Operators.{sort_of, unary_answer, comparison, Sort, OnWord, OnWide, Shifts, OnFloat, OnDouble, float_word, float_wide, Number, OneWord, OneWide}
use Rattle.dalvik_defs.specs.Items.{stored, fill}
use Rattle.dalvik_defs.specs.State.{World, Thing, Instance, Items, word_of, is_null, thing_at, put_thing, with_thing, next_object}
use Rattle.dalvik_defs.specs.declared.state.Value.{Value}
use Rattle.dalvik_defs.specs.declared.state.Value.TheVariants.{Word, Low, High}
use Rattle.dalvik_defs.specs.declared.state.Frame.{Frame}
use Rattle.dalvik_defs.specs.declared.tables.Floats.{Floats}
use Rattle.dalvik_defs.specs.Effect.{Effect, Goes, Faults, Throws, Gives, Calls, Reads, Writes, Locks, Unlocks, register, write, write_item, next, go, sets, sets_wide, unless_null}
use Rattle.dalvik_defs.specs.ActPlain.{exits, is_instance, casts, truth, branch, goes_to, switch_target, packed_target}
use Rattle.dalvik_defs.specs.ActArray.{measures, new_array, fills, item_at, reads_item, array_get, may_store, writes_item, put_item, array_put}
use Rattle.dalvik_defs.specs.ActNumber.{number, word, gives_word, gives_wide, binary, literal, sets_number}
use Rattle.dalvik_defs.specs.Act.{act}
use Rattle.dalvik_defs.specs.declared.forms.Form.{Form}
use Rattle.dalvik_defs.specs.declared.forms.Form.TheVariants as form
use Rattle.pass_defs.specs.Bare.{writes, may_throw, continues, targets}
use Rattle.pass_defs.specs.Remade.{remade}
use Rattle.form_laws.specs.Changes.{In, here, there, operands, destination, Sets, Jumps, Results, width_if, width, Waits, Same, Alike}

waits : (f : Form) → may_throw f ≡ true → continues f ≡ true → Waits f
waits f a b = record { throws = a; continues = b }

-- the same in two lists of registers
same_values : (g g' : Frame) (r : ℕ → ℕ) (xs : List ℕ) → Same g g' xs (map r xs) → map (register g') (map r xs) ≡ map (register g) xs
same_values g g' r [] h = refl
same_values g g' r (x ∷ xs) h = ap₂ (λ v vs. v ∷ vs) h.0 (same_values g g' r xs h.1)

-- ---- numbers

abbrev is_wide_number : Number → Bool
is_wide_number (OneWord n) = false
is_wide_number (OneWide n) = true

abbrev is_wide_sort : Sort → Bool
is_wide_sort (OnWord k) = false
is_wide_sort (OnWide k) = true
is_wide_sort (Shifts k) = true
is_wide_sort (OnFloat op) = false
is_wide_sort (OnDouble op) = true

abbrev kind_divides : Kind → Bool
kind_divides Div = true
kind_divides Rem = true
kind_divides k = false

abbrev can_fail : Sort → Bool
can_fail (OnWord k) = kind_divides k
can_fail (OnWide k) = kind_divides k
can_fail (Shifts k) = kind_divides k
can_fail (OnFloat op) = false
can_fail (OnDouble op) = false

wide_sort : (op : BinaryOp) → binary_is_wide op ≡ is_wide_sort (sort_of op)
wide_sort binary.AddInt = refl
wide_sort op = refl

failing_sort : (op : BinaryOp) → divides op ≡ can_fail (sort_of op)
failing_sort binary.AddInt = refl
failing_sort op = refl

wide_unary : (floats : Floats) (op : UnaryOp) (n : ℕ) → unary_writes_wide op ≡ is_wide_number (unary_answer floats op n)
wide_unary floats unary.NegInt n = refl
wide_unary floats op n = refl

some_none : {A : Type 0} {B : Type 0} (x : A) → Some x ≡ None → B
some_none x e = absurd (true≢false (ap (λ o. elim o as (λ o. Bool) [ Some y ↦ true | None ↦ false ]) e))

answer_none : (k : Kind) (wide : Bool) (a b : ℕ) → answer k wide a b ≡ None → kind_divides k ≡ true
answer_none Div wide a b e = refl
answer_none Rem wide a b e = refl
answer_none k wide a b e = some_none _ e

literal_none : (op : LiteralOp) (a b : ℕ) → literal_answer op a b ≡ None → divides_by_literal op ≡ true
literal_none literal.DivInt a b e = refl
literal_none literal.RemInt a b e = refl
literal_none op a b e = some_none _ e

-- the same by the numbers that are read
abbrev by_values : Floats → Sort → World → Frame → ℕ → ℕ → ℕ → Effect
by_values floats (OnWord k) w g to m n = gives_word (answer k false (m % 2 ^ 32) (n % 2 ^ 32)) w g to
by_values floats (OnWide k) w g to m n = gives_wide (answer k true m n) w g to
by_values floats (Shifts k) w g to m n = gives_wide (answer k true m n) w g to
by_values floats (OnFloat op) w g to m n = gives_word (Some (float_word floats op m n)) w g to
by_values floats (OnDouble op) w g to m n = gives_wide (Some (float_wide floats op m n)) w g to

by_numbers : (floats : Floats) (s : Sort) (w : World) (g : Frame) (to a b : ℕ) → binary floats s w g to a b ≡ by_values floats s w g to (number g a) (number g b)
by_numbers floats (OnWord k) w g to a b = refl
by_numbers floats s w g to a b = refl

same_binary : (floats : Floats) (s : Sort) (w : World) (g : Frame) (to a b m n : ℕ) → number g a ≡ m → number g b ≡ n → binary floats s w g to a b ≡ by_values floats s w g to m n
same_binary floats s w g to a b m n i j = by_numbers floats s w g to a b ∙ ap₂ (λ x y. by_values floats s w g to x y) i j

-- ---- targets

in_targets : (ts : List ℕ) (i n : ℕ) → slice_get ts i ≡ Some n → In n ts
in_targets [] i n e = some_none n (sym e)
in_targets (x ∷ ts) zero n e = subst (λ y. In y (x ∷ ts)) (ap (λ o. elim o as (λ o. ℕ) [ Some y ↦ y | None ↦ x ]) e) (here ts)
in_targets (x ∷ ts) (suc i) n e = there x ts (in_targets ts i n e)

key_map : (t : ℕ → ℕ) (z : ℤ) (ks : List ℤ) (ts : List ℕ) → switch_target z ks (map t ts) ≡ option_map t (switch_target z ks ts)
key_map t z [] ts = refl
key_map t z (k ∷ ks) [] = refl
key_map t z (k ∷ ks) (x ∷ ts) = by (int_lt z k || int_lt k z) (key_map t z ks ts)
  where
    by : (b : Bool) → switch_target z ks (map t ts) ≡ option_map t (switch_target z ks ts) → (elim b as (λ b. Option ℕ) [ true ↦ switch_target z ks (map t ts) | false ↦ Some (t x) ]) ≡ option_map t (elim b as (λ b. Option ℕ) [ true ↦ switch_target z ks ts | false ↦ Some x ])
    by true h = h
    by false h = refl

key_in : (z : ℤ) (ks : List ℤ) (ts : List ℕ) (n : ℕ) → switch_target z ks ts ≡ Some n → In n ts
key_in z [] ts n e = some_none n (sym e)
key_in z (k ∷ ks) [] n e = some_none n (sym e)
key_in z (k ∷ ks) (x ∷ ts) n e = by (int_lt z k || int_lt k z) (key_in z ks ts n) e
  where
    by : (b : Bool) → (switch_target z ks ts ≡ Some n → In n ts) → (elim b as (λ b. Option ℕ) [ true ↦ switch_target z ks ts | false ↦ Some x ]) ≡ Some n → In n (x ∷ ts)
    by true h e = there x ts (h e)
    by false h e = subst (λ y. In y (x ∷ ts)) (ap (λ o. elim o as (λ o. ℕ) [ Some y ↦ y | None ↦ x ]) e) (here ts)

module _ (t : ℕ → ℕ) (f f' : Form) (g g' : Frame) where
  abbrev A : Effect → Effect → Type 0
  A e e' = Alike t f f' g g' e e'

  nothing : (w : World) → continues f ≡ true → width f ≡ 0 → A (Goes w (next g)) (Goes w (next g'))
  nothing w c h = record { change = Sets []; first = refl; second = refl; possible = (c, sym h) }

  one : (w : World) (v v' : Value) → v' ≡ v → continues f ≡ true → width f ≡ 1 → A (sets w g (destination f) v) (sets w g' (destination f') v')
  one w v v' e c h = record { change = Sets (v ∷ []); first = refl; second = ap (λ x. Goes w (next (write g' (destination f') x))) e; possible = (c, sym h) }

  two : (w : World) (u v u' v' : Value) → u' ≡ u → v' ≡ v → continues f ≡ true → width f ≡ 2
      → A (Goes w (next (write (write g (destination f) u) (destination f + 1) v))) (Goes w (next (write (write g' (destination f') u') (destination f' + 1) v')))
  two w u v u' v' e i c h = record { change = Sets (u ∷ v ∷ []); first = refl; second = ap₂ (λ x y. Goes w (next (write (write g' (destination f') x) (destination f' + 1) y))) e i; possible = (c, sym h) }

  pair : (w : World) (n n' : ℕ) → n' ≡ n → continues f ≡ true → width f ≡ 2 → A (sets_wide w g (destination f) n) (sets_wide w g' (destination f') n')
  pair w n n' e c h = two w (Low n) (High n) (Low n') (High n') (ap Low e) (ap High e) c h

  jump : (w : World) (n : ℕ) → In n (targets f) → width f ≡ 0 → A (Goes w (go g n)) (Goes w (go g' (t n)))
  jump w n i h = record { change = Jumps n; first = refl; second = refl; possible = (i, h) }

  null : (v : Value) (e e' : Effect) → may_throw f ≡ true → A e e' → A (unless_null v e) (unless_null v e')
  null v e e' m a = by (is_null v)
    where
      by : (b : Bool) → A (elim b as (λ b. Effect) [ true ↦ Faults null_pointer | false ↦ e ]) (elim b as (λ b. Effect) [ true ↦ Faults null_pointer | false ↦ e' ])
      by true = (refl, m)
      by false = a

  along : (E : Effect) (E' : Value → Effect) (v v' : Value) → v' ≡ v → A E (E' v) → A E (E' v')
  along E E' v v' e a = subst (λ x. A E (E' x)) (sym e) a

  nulled : (v v' : Value) → v' ≡ v → (E : Effect) (E' : Value → Effect) → may_throw f ≡ true → A E (E' v) → A (unless_null v E) (unless_null v' (E' v'))
  nulled v v' h E E' m a = along (unless_null v E) (λ x. unless_null x (E' x)) v v' h (null v E (E' v) m a)

  -- ---- monitors, casts, branches

  plain : Type 0
  plain = (x : ℕ) → writes f x ≡ false

  exited : (w : World) (v : Value) → Waits f → width f ≡ 0 → A (exits w v) (exits w v)
  exited w v ws h = by (nat_eq (w.locks v) 0)
    where
      by : (b : Bool) → A (elim b as (λ b. Effect) [ true ↦ Faults bad_monitor | false ↦ Unlocks v ]) (elim b as (λ b. Effect) [ true ↦ Faults bad_monitor | false ↦ Unlocks v ])
      by true = (refl, ws.throws)
      by false = (refl, (ws, h))

  chosen : (b : Bool) (w : World) (c : Text) → Waits f → width f ≡ 0
      → A (elim b as (λ b. Effect) [ true ↦ Goes w (next g) | false ↦ Faults c ]) (elim b as (λ b. Effect) [ true ↦ Goes w (next g') | false ↦ Faults c ])
  chosen true w c ws h = nothing w ws.continues h
  chosen false w c ws h = (refl, ws.throws)

  branched : (b : Bool) (w : World) (n : ℕ) → In n (targets f) → continues f ≡ true → width f ≡ 0 → A (branch b w g n) (branch b w g' (t n))
  branched true w n i c h = jump w n i h
  branched false w n i c h = nothing w c h

  -- ---- arrays

  measured : (w : World) (o : Option Thing) → Waits f → width f ≡ 1 → A (measures o w g (destination f)) (measures o w g' (destination f'))
  measured w (Some (Items k vs)) ws h = one w (Word (length vs)) (Word (length vs)) refl ws.continues h
  measured w (Some (Instance c fs)) ws h = refl
  measured w None ws h = refl

  arrayed : (w : World) (z : ℤ) (kind : Text) → Waits f → width f ≡ 1 → A (new_array z kind w g (destination f)) (new_array z kind w g' (destination f'))
  arrayed w (negsuc n) kind ws h = (refl, ws.throws)
  arrayed w (pos n) kind ws h = one _ (next_object w) (next_object w) refl ws.continues h

  filling : (w : World) (o : Option Thing) (on : Value) (ns : List ℕ) → Waits f → width f ≡ 0 → A (fills o w g on ns) (fills o w g' on ns)
  filling w (Some (Items k vs)) on ns ws h = by (nat_lt (length vs) (length ns))
    where
      by : (b : Bool) → A (elim b as (λ b. Effect) [ true ↦ Faults out_of_bounds | false ↦ Goes (put_thing w on (Items k (fill k ns vs))) (next g) ])
          (elim b as (λ b. Effect) [ true ↦ Faults out_of_bounds | false ↦ Goes (put_thing w on (Items k (fill k ns vs))) (next g') ])
      by true = (refl, ws.throws)
      by false = nothing _ ws.continues h
  filling w (Some (Instance c fs)) on ns ws h = refl
  filling w None on ns ws h = refl

  itemed : (w : World) (i : Item) (v : Value) → continues f ≡ true → width f ≡ width_if (is_wide_item i) → A (Goes w (next (write_item i g (destination f) v))) (Goes w (next (write_item i g' (destination f') v)))
  itemed w item.Wide v c h = pair w (word_of v) (word_of v) refl c h
  itemed w item.Plain v c h = one w v v refl c h
  itemed w item.Object v c h = one w v v refl c h
  itemed w item.Boolean v c h = one w v v refl c h
  itemed w item.Byte v c h = one w v v refl c h
  itemed w item.Char v c h = one w v v refl c h
  itemed w item.Short v c h = one w v v refl c h

  getting : (w : World) (i : Item) (o : Option Thing) (at : ℤ) → Waits f → width f ≡ width_if (is_wide_item i) → A (array_get i o w g (destination f) at) (array_get i o w g' (destination f') at)
  getting w i (Some (Items k vs)) at ws h = by (item_at vs at)
    where
      by : (o : Option Value) → A (reads_item i o w g (destination f)) (reads_item i o w g' (destination f'))
      by None = (refl, ws.throws)
      by (Some v) = itemed w i v ws.continues h
  getting w i (Some (Instance c fs)) at ws h = refl
  getting w i None at ws h = refl

  putting : (under : Text → Text → Bool) (w : World) (i : Item) (o : Option Thing) (v on : Value) (at : ℤ) → Waits f → width f ≡ 0 → A (array_put under i o w g v on at) (array_put under i o w g' v on at)
  putting under w i (Some (Items k vs)) v on at ws h = by (item_at vs at)
    where
      stores : (b : Bool) (x : Thing) → A (writes_item b w g on x) (writes_item b w g' on x)
      stores true x = nothing _ ws.continues h
      stores false x = (refl, ws.throws)

      by : (o : Option Value) → A (elim o as (λ o. Effect) [ Some old ↦ writes_item (may_store under w i v k) w g on (put_item i k vs at v) | None ↦ Faults out_of_bounds ])
          (elim o as (λ o. Effect) [ Some old ↦ writes_item (may_store under w i v k) w g' on (put_item i k vs at v) | None ↦ Faults out_of_bounds ])
      by None = (refl, ws.throws)
      by (Some old) = stores (may_store under w i v k) (put_item i k vs at v)
  putting under w i (Some (Instance c fs)) v on at ws h = refl
  putting under w i None v on at ws h = refl

  -- ---- numbers

  worded : (w : World) (o : Option ℕ) → continues f ≡ true → (o ≡ None → may_throw f ≡ true) → width f ≡ 1 → A (gives_word o w g (destination f)) (gives_word o w g' (destination f'))
  worded w None c m h = (refl, m refl)
  worded w (Some n) c m h = one w (Word n) (Word n) refl c h

  wided : (w : World) (o : Option ℕ) → continues f ≡ true → (o ≡ None → may_throw f ≡ true) → width f ≡ 2 → A (gives_wide o w g (destination f)) (gives_wide o w g' (destination f'))
  wided w None c m h = (refl, m refl)
  wided w (Some n) c m h = pair w n n refl c h

  numbered : (w : World) (n : Number) → continues f ≡ true → width f ≡ width_if (is_wide_number n) → A (sets_number n w g (destination f)) (sets_number n w g' (destination f'))
  numbered w (OneWord n) c h = one w (Word n) (Word n) refl c h
  numbered w (OneWide n) c h = pair w n n refl c h

  sorted : (floats : Floats) (s : Sort) (w : World) (a b a' b' : ℕ) → register g' a' ≡ register g a → register g' b' ≡ register g b → continues f ≡ true → (can_fail s ≡ true → may_throw f ≡ true)
      → width f ≡ width_if (is_wide_sort s) → A (binary floats s w g (destination f) a b) (binary floats s w g' (destination f') a' b')
  sorted floats s w a b a' b' i j c m h = subst (λ n. A (binary floats s w g (destination f) a b) n) (sym (same_binary floats s w g' (destination f') a' b' (number g a) (number g b) (ap word_of i) (ap word_of j))) (at s m h)
    where
      at : (s : Sort) → (can_fail s ≡ true → may_throw f ≡ true) → width f ≡ width_if (is_wide_sort s) → A (binary floats s w g (destination f) a b) (by_values floats s w g' (destination f') (number g a) (number g b))
      at (OnWord k) m h = worded w (answer k false (word g a) (word g b)) c (λ e. m (answer_none k false (word g a) (word g b) e)) h
      at (OnWide k) m h = wided w (answer k true (number g a) (number g b)) c (λ e. m (answer_none k true (number g a) (number g b) e)) h
      at (Shifts k) m h = wided w (answer k true (number g a) (number g b)) c (λ e. m (answer_none k true (number g a) (number g b) e)) h
      at (OnFloat op) m h = one w (Word (float_word floats op (number g a) (number g b))) (Word (float_word floats op (number g a) (number g b))) refl c h
      at (OnDouble op) m h = pair w (float_wide floats op (number g a) (number g b)) (float_wide floats op (number g a) (number g b)) refl c h

  -- ---- targets

  switched : (w : World) (o : Option ℕ) → continues f ≡ true → width f ≡ 0 → ((n : ℕ) → o ≡ Some n → In n (targets f)) → A (goes_to o w g) (goes_to (option_map t o) w g')
  switched w None c h i = nothing w c h
  switched w (Some n) c h i = jump w n (i n refl) h

-- ---- the law of forms

abbrev packed_place : ℕ → ℤ → ℕ
packed_place n first = (n + (2 ^ 32 - cast_unsigned w32 first)) % 2 ^ 32

module _ (under : Text → Text → Bool) (floats : Floats) (r d t : ℕ → ℕ) (w : World) (g g' : Frame) (result : g'.result ≡ g.result) (caught : g'.caught ≡ g.caught) where
  forms_alike : (f : Form) → Same g g' (operands f) (operands (remade r d t f)) → Alike t f (remade r d t f) g g' (act under floats f w g) (act under floats (remade r d t f) w g')
  forms_alike form.Nop h = nothing t _ _ g g' w refl refl
  forms_alike (form.Move slot.Word to from) h = one t _ _ g g' w _ _ h.0 refl refl
  forms_alike (form.Move slot.Object to from) h = one t _ _ g g' w _ _ h.0 refl refl
  forms_alike (form.Move slot.Wide to from) h = two t _ _ g g' w _ _ _ _ h.0 h.1.0 refl refl
  forms_alike (form.MoveResult slot.Word to) h = one t _ _ g g' w _ _ result refl refl
  forms_alike (form.MoveResult slot.Object to) h = one t _ _ g g' w _ _ result refl refl
  forms_alike (form.MoveResult slot.Wide to) h = pair t _ _ g g' w _ _ (ap word_of result) refl refl
  forms_alike (form.MoveException to) h = one t _ _ g g' w _ _ caught refl refl
  forms_alike form.ReturnVoid h = refl
  forms_alike (form.Return slot from) h = ap (λ v. Gives (Some v)) h.0
  forms_alike (form.Const to value) h = one t _ _ g g' w _ _ refl refl refl
  forms_alike (form.ConstWide to value) h = pair t _ _ g g' w _ _ refl refl refl
  forms_alike (form.ConstString to text) h = one t _ _ g g' w _ _ refl refl refl
  forms_alike (form.ConstClass to kind) h = one t _ _ g g' w _ _ refl refl refl
  forms_alike (form.MonitorEnter on) h = nulled t (form.MonitorEnter on) (form.MonitorEnter (r on)) g g' _ _ h.0 (Locks (register g on)) (λ v. Locks v) refl (refl, (waits _ refl refl, refl))
  forms_alike (form.MonitorExit on) h = let f = form.MonitorExit on in let f' = form.MonitorExit (r on) in
      nulled t f f' g g' _ _ h.0 (exits w (register g on)) (λ v. exits w v) refl (exited t f f' g g' w (register g on) (waits _ refl refl) refl)
  forms_alike (form.CheckCast on kind) h = let f = form.CheckCast on kind in let f' = form.CheckCast (r on) kind in
      along t f f' g g' (casts under w g on kind) (λ v. elim (is_null v || is_instance under w v kind) as (λ b. Effect) [ true ↦ Goes w (next g') | false ↦ Faults bad_cast ]) _ _ h.0
      (chosen t f f' g g' (is_null (register g on) || is_instance under w (register g on) kind) w bad_cast (waits _ refl refl) refl)
  forms_alike (form.InstanceOf to from kind) h = one t _ _ g g' w _ _ (ap (λ v. truth (is_instance under w v kind)) h.0) refl refl
  forms_alike (form.ArrayLength to from) h = let f = form.ArrayLength to from in let f' = form.ArrayLength (d to) (r from) in
      nulled t f f' g g' _ _ h.0 (measures (thing_at w (register g from)) w g to) (λ v. measures (thing_at w v) w g' (d to)) refl
      (measured t f f' g g' w (thing_at w (register g from)) (waits _ refl refl) refl)
  forms_alike (form.NewInstance to kind) h = (refl, (refl, (waits _ refl refl, refl)))
  forms_alike (form.NewArray to size kind) h = let f = form.NewArray to size kind in let f' = form.NewArray (d to) (r size) kind in
      along t f f' g g' (new_array (signed false (number g size)) kind w g to) (λ v. new_array (signed false (word_of v)) kind w g' (d to)) _ _ h.0
      (arrayed t f f' g g' w (signed false (number g size)) kind (waits _ refl refl) refl)
  forms_alike (form.FilledNewArray kind args) h = record {
    change = Results (next_object w);
    first = refl;
    second = ap (λ vs. Goes (with_thing w (Items (item_of kind) vs)) (next (record g' { result = next_object w }))) (same_values g g' r args h);
    possible = (refl, refl);
  }
  forms_alike (form.FillArray on width items) h = let f = form.FillArray on width items in let f' = form.FillArray (r on) width items in
      nulled t f f' g g' _ _ h.0 (fills (thing_at w (register g on)) w g (register g on) items) (λ v. fills (thing_at w v) w g' v items) refl
      (filling t f f' g g' w (thing_at w (register g on)) (register g on) items (waits _ refl refl) refl)
  forms_alike (form.Throw on) h = nulled t (form.Throw on) (form.Throw (r on)) g g' _ _ h.0 (Throws (register g on)) (λ v. Throws v) refl (refl, refl)
  forms_alike (form.Goto target) h = jump t (form.Goto target) (form.Goto (t target)) g g' w target (here []) refl
  forms_alike (form.PackedSwitch on first ts) h = let f = form.PackedSwitch on first ts in let f' = form.PackedSwitch (r on) first (map t ts) in
      along t f f' g g' (goes_to (packed_target (number g on) first ts) w g) (λ v. goes_to (packed_target (word_of v) first (map t ts)) w g') _ _ h.0
      (subst (λ o. Alike t f f' g g' (goes_to (packed_target (number g on) first ts) w g) (goes_to o w g')) (sym (get_map t ts (packed_place (number g on) first)))
      (switched t f f' g g' w (packed_target (number g on) first ts) refl refl (in_targets ts (packed_place (number g on) first))))
  forms_alike (form.SparseSwitch on keys ts) h = let f = form.SparseSwitch on keys ts in let f' = form.SparseSwitch (r on) keys (map t ts) in
      along t f f' g g' (goes_to (switch_target (signed false (number g on)) keys ts) w g) (λ v. goes_to (switch_target (signed false (word_of v)) keys (map t ts)) w g') _ _ h.0
      (subst (λ o. Alike t f f' g g' (goes_to (switch_target (signed false (number g on)) keys ts) w g) (goes_to o w g')) (sym (key_map t (signed false (number g on)) keys ts))
      (switched t f f' g g' w (switch_target (signed false (number g on)) keys ts) refl refl (key_in (signed false (number g on)) keys ts)))
  forms_alike (form.Cmp op to a b) h = one t _ _ g g' w _ _ (ap₂ (λ u v. Word (comparison floats op (word_of u) (word_of v))) h.0 h.1.0) refl refl
  forms_alike (form.If test a b target) h = let f = form.If test a b target in let f' = form.If test (r a) (r b) (t target) in
      along t f f' g g' (branch (passes test (register g a) (register g b)) w g target) (λ v. branch (passes test v (register g' (r b))) w g' (t target)) _ _ h.0
      (along t f f' g g' (branch (passes test (register g a) (register g b)) w g target) (λ v. branch (passes test (register g a) v) w g' (t target)) _ _ h.1.0
      (branched t f f' g g' (passes test (register g a) (register g b)) w target (here []) refl refl))
  forms_alike (form.IfZero test a target) h = let f = form.IfZero test a target in let f' = form.IfZero test (r a) (t target) in
      along t f f' g g' (branch (passes test (register g a) (Word 0)) w g target) (λ v. branch (passes test v (Word 0)) w g' (t target)) _ _ h.0
      (branched t f f' g g' (passes test (register g a) (Word 0)) w target (here []) refl refl)
  forms_alike (form.ArrayGet item to array index) h = let f = form.ArrayGet item to array index in let f' = form.ArrayGet item (d to) (r array) (r index) in
      let e = array_get item (thing_at w (register g array)) w g to (signed false (number g index)) in
      nulled t f f' g g' _ _ h.0 e (λ v. array_get item (thing_at w v) w g' (d to) (signed false (number g' (r index)))) refl
      (along t f f' g g' e (λ v. array_get item (thing_at w (register g array)) w g' (d to) (signed false (word_of v))) _ _ h.1.0
      (getting t f f' g g' w item (thing_at w (register g array)) (signed false (number g index)) (waits _ refl refl) refl))
  forms_alike (form.ArrayPut item from array index) h = let f = form.ArrayPut item from array index in let f' = form.ArrayPut item (r from) (r array) (r index) in
      let e = array_put under item (thing_at w (register g array)) w g (register g from) (register g array) (signed false (number g index)) in
      nulled t f f' g g' _ _ h.1.0 e (λ v. array_put under item (thing_at w v) w g' (register g' (r from)) v (signed false (number g' (r index)))) refl
      (along t f f' g g' e (λ v. array_put under item (thing_at w (register g array)) w g' v (register g array) (signed false (number g' (r index)))) _ _ h.0
      (along t f f' g g' e (λ v. array_put under item (thing_at w (register g array)) w g' (register g from) (register g array) (signed false (word_of v))) _ _ h.1.1.0
      (putting t f f' g g' under w item (thing_at w (register g array)) (register g from) (register g array) (signed false (number g index)) (waits _ refl refl) refl)))
  forms_alike (form.InstanceGet item to on field) h = nulled t (form.InstanceGet item to on field) (form.InstanceGet item (d to) (r on) field) g g' _ _ h.0
      (Reads item to field (Some (register g on))) (λ v. Reads item (d to) field (Some v)) refl (refl, (refl, (waits _ refl refl, (refl, (refl, (λ g v. refl, λ g v. refl))))))
  forms_alike (form.InstancePut item from on field) h = nulled t (form.InstancePut item from on field) (form.InstancePut item (r from) (r on) field) g g' _ _ h.1.0
      (Writes field (Some (register g on)) (stored item (register g from))) (λ v. Writes field (Some v) (stored item (register g' (r from)))) refl
      (ap (λ v. Writes field (Some (register g on)) (stored item v)) h.0, (waits _ refl refl, refl))
  forms_alike (form.StaticGet item to field) h = (refl, (refl, (waits _ refl refl, (refl, (refl, (λ g v. refl, λ g v. refl))))))
  forms_alike (form.StaticPut item from field) h = (ap (λ v. Writes field None (stored item v)) h.0, (waits _ refl refl, refl))
  forms_alike (form.Invoke kind method args) h = (ap (λ vs. Calls kind method vs) (same_values g g' r args h), (waits _ refl refl, (refl, (λ g v. refl, λ g v. refl))))
  forms_alike (form.Unary op to from) h = let f = form.Unary op to from in let f' = form.Unary op (d to) (r from) in
      along t f f' g g' (sets_number (unary_answer floats op (number g from)) w g to) (λ v. sets_number (unary_answer floats op (word_of v)) w g' (d to)) _ _ h.0
      (numbered t f f' g g' w (unary_answer floats op (number g from)) refl (ap width_if (wide_unary floats op (number g from))))
  forms_alike (form.Binary op to a b) h = sorted t (form.Binary op to a b) (form.Binary op (d to) (r a) (r b)) g g' floats (sort_of op) w a b (r a) (r b) h.0 h.1.0 refl
      (λ e. failing_sort op ∙ e) (ap width_if (wide_sort op))
  forms_alike (form.Literal op to a value) h = let f = form.Literal op to a value in let f' = form.Literal op (d to) (r a) value in
      along t f f' g g' (literal op w g to a value) (λ v. gives_word (literal_answer op (word_of v % 2 ^ 32) (cast_unsigned w32 value)) w g' (d to)) _ _ h.0
      (worded t f f' g g' w (literal_answer op (word g a) (cast_unsigned w32 value)) refl (literal_none op (word g a) (cast_unsigned w32 value)) refl)

pub form_law : (under : Text → Text → Bool) (floats : Floats) (r d t : ℕ → ℕ) (f : Form) (w : World) (g g' : Frame) → g'.result ≡ g.result → g'.caught ≡ g.caught
    → Same g g' (operands f) (operands (remade r d t f)) → Alike t f (remade r d t f) g g' (act under floats f w g) (act under floats (remade r d t f) w g')
form_law under floats r d t f w g g' e i h = forms_alike under floats r d t w g g' e i f h
