-- No form may read a register that is undefined.
use Rattle.std.proofs.Common.{◌≡◌, ◌⊎◌, inl, inr, ℕ, zero, suc, ◌+◌, Bool, true, false, true≢false, List, [], ◌∷◌, ◌++◌, length, if◌then◌else◌, refl, sym, ap, ◌∙◌, subst, arith, nat_eq, eq-eqb}
use Rattle.std.specs.Prelude.{◌&&◌, ◌||◌, not, map, drop}
use Rattle.std.specs.List.{list_all, list_any}
use Rattle.std.proofs.lemmas.Bool.{eqb-true, or_cases}
use Rattle.lemmas.proofs.Bools.{and_left, and_right, clash, not_false, neither_of}
use Rattle.lemmas.proofs.Lists.{all_first, all_last}
use Rattle.insn_set.specs.Registers.{in_operand}
use Rattle.insn_set.specs.Widths.{is_wide_slot, is_wide_item, compares_wide, unary_reads_wide, binary_is_wide, second_is_wide}
use Rattle.insn_set.specs.declared.ops.InvokeKind.{InvokeKind}
use Rattle.insn_set.specs.declared.ops.InvokeKind.TheVariants as call
use Rattle.insn_set.specs.declared.ops.Slot.{Slot}
use Rattle.insn_set.specs.declared.ops.Slot.TheVariants as slot
use Rattle.insn_set.specs.declared.ops.Item.{Item}
use Rattle.insn_set.specs.declared.ops.Item.TheVariants as item
use Rattle.dalvik_defs.specs.Items.{item_of_type}
use Rattle.dalvik_defs.specs.Names.{Text, is_wide, item_of}
use Rattle.dalvik_defs.specs.Find.{Search, finds_super}
use Rattle.dalvik_defs.specs.declared.names.MethodKey.{MethodKey}
use Rattle.dalvik_defs.specs.declared.forms.Form.{Form}
use Rattle.dalvik_defs.specs.declared.forms.Form.TheVariants as form
use Rattle.dalvik_defs.specs.declared.program.NamedClass.{NamedClass}
use Rattle.dalvik_defs.specs.declared.program.NamedMethod.{NamedMethod}
use Rattle.dalvik_defs.specs.declared.program.NamedProgram.{NamedProgram}
use Rattle.pass_defs.specs.Bare.{reads}
use Rattle.pass_defs.specs.Kinds.{Kind, Undefined, Zero, Word, Low, High, FreshThis, kind_eq, is_number, is_initialised, fits, fits_holder}
use Rattle.pass_defs.specs.Registers.{Kinds, kind_at}
use Rattle.pass_defs.specs.Demands.{Demand, Moved, Number, Pair, Behind, Initialised, Either, Fits, Receiver, Holder, Constructed, AnArray, ArrayOf, Filled, is_moved, is_array_where, item_eq, has_width, holds_field, is_constructed, meets, wide_or, number_or_pair, of_type, slot_demand, put_item, tested, second_tested, is_equality, is_constructor_name, found_class, receiver_demands, passed_wide, passed, call_demands, demands, place_allowed, is_allowed}
use Rattle.pass_defs.specs.Typed.{is_static_call, words_of, passed_words, wrong_item, wrong_return, ends_early, wrong_field, wrong_method, wrong_super, is_wrong}
use Rattle.form_laws.specs.Kinds.{is_whole}
use Rattle.form_laws.proofs.Asked.{item_width}
use Rattle.form_laws.proofs.Asking.{fits_whole, holder_whole, field_whole, constructed_whole}
use Rattle.inline_law.proofs.Written.{Lacks}

-- a demand that looks at the register's kind
abbrev pub looks : Demand → Bool
looks (Behind q) = false
looks d = true

return_wide : (s : Slot) (t : Text) → wrong_return s t ≡ false → is_wide_slot s ≡ true → is_wide t ≡ true
return_wide slot.Wide t e w = not_false (is_wide t) e
return_wide slot.Word t e w = absurd (true≢false (sym w))
return_wide slot.Object t e w = absurd (true≢false (sym w))

module _ (p : NamedProgram) (c : NamedClass) (ks : List Kind) (r : ℕ) (lacks : Lacks ks r) where
  unmet : (d : Demand) → looks d ≡ true → meets p c ks r d ≡ true → ⊥
  unmet Moved l e = true≢false (sym e ∙ ap is_moved lacks)
  unmet Number l e = true≢false (sym e ∙ ap is_number lacks)
  unmet Pair l e = true≢false (sym (and_left (kind_eq (kind_at ks r) Low) (kind_eq (kind_at ks (r + 1)) High) e) ∙ ap (λ k. kind_eq k Low) lacks)
  unmet (Behind q) l e = true≢false (sym l)
  unmet Initialised l e = true≢false (sym e ∙ ap is_initialised lacks)
  unmet Either l e = true≢false (sym e ∙ ap (λ k. is_number k || is_initialised k) lacks)
  unmet (Fits t) l e = true≢false (sym (fits_whole p (kind_at ks r) t e) ∙ ap is_whole lacks)
  unmet (Receiver t) l e = true≢false (sym (holder_whole p (kind_at ks r) t e) ∙ ap is_whole lacks)
  unmet (Holder k) l e = true≢false (sym (field_whole p c k (kind_at ks r) e) ∙ ap is_whole lacks)
  unmet (Constructed t) l e = true≢false (sym (constructed_whole c t (kind_at ks r) e) ∙ ap is_whole lacks)
  unmet AnArray l e = true≢false (sym e ∙ ap (is_array_where (λ t. true)) lacks)
  unmet (ArrayOf i) l e = true≢false (sym e ∙ ap (is_array_where (λ t. item_eq (item_of_type t) i)) lacks)
  unmet (Filled n) l e = true≢false (sym e ∙ ap (is_array_where (λ t. has_width n (item_of_type t))) lacks)

  -- the second register of a wide
  behind : (x : ℕ) → meets p c ks x Pair ≡ true → r ≡ x + 1 → ⊥
  behind x e d = true≢false (sym (and_right (kind_eq (kind_at ks x) Low) (kind_eq (kind_at ks (x + 1)) High) e) ∙ ap (λ k. kind_eq k High) (ap (kind_at ks) (sym d) ∙ lacks))

  one : (x : ℕ) (d : Demand) → looks d ≡ true → meets p c ks x d ≡ true → nat_eq r x ≡ true → ⊥
  one x d l e i = unmet d l (subst (λ z. meets p c ks z d ≡ true) (sym (eqb-true r x i)) e)

  -- an operand that is asked for as a pair where it is wide
  operand : (w : Bool) (x : ℕ) (d : Demand) → (w ≡ true → d ≡ Pair) → looks d ≡ true → meets p c ks x d ≡ true → in_operand w x r ≡ true → ⊥
  operand false x d h l e i = one x d l e i
  operand true x d h l e i = elim (or_cases (nat_eq r x) (nat_eq r (x + 1)) i) [
    | inl j ↦ one x d l e j
    | inr j ↦ behind x (subst (λ z. meets p c ks x z ≡ true) (h refl) e) (eqb-true r (x + 1) j)
  ]

  -- ---- arguments

  args_unread : (t : Text) (rs : List ℕ) → list_all (λ (d : ℕ × Demand). meets p c ks d.0 d.1) (map (λ x. (x, Fits t)) rs) ≡ true → list_any (λ a. nat_eq a r) rs ≡ true → ⊥
  args_unread t [] e i = true≢false (sym i)
  args_unread t (x ∷ rs) e i = elim (or_cases (nat_eq x r) (list_any (λ a. nat_eq a r) rs) i) [
    | inl j ↦ one x (Fits t) refl (and_left (meets p c ks x (Fits t)) (list_all (λ (d : ℕ × Demand). meets p c ks d.0 d.1) (map (λ x. (x, Fits t)) rs)) e) (eq-eqb r x (sym (eqb-true x r j)))
    | inr j ↦ args_unread t rs (and_right (meets p c ks x (Fits t)) (list_all (λ (d : ℕ × Demand). meets p c ks d.0 d.1) (map (λ x. (x, Fits t)) rs)) e) j
  ]

  passed_unread : (ts : List Text) (rs : List ℕ) → length rs ≡ words_of ts → list_all (λ d. meets p c ks d.0 d.1) (passed ts rs) ≡ true → list_any (λ a. nat_eq a r) rs ≡ true → ⊥
  passed_unread [] [] l e i = true≢false (sym i)
  passed_unread [] (x ∷ rs) l e i = omega (arith, l)
  passed_unread (t ∷ ts) [] l e i = true≢false (sym i)
  passed_unread (t ∷ ts) (x ∷ rs) l e i = by (is_wide t) rs l e i (λ rs. passed_unread ts rs)
    where
      two : (rs : List ℕ) → length (x ∷ rs) ≡ 2 + words_of ts → list_all (λ d. meets p c ks d.0 d.1) (passed_wide x rs ++ passed ts (drop 1 rs)) ≡ true → list_any (λ a. nat_eq a r) (x ∷ rs) ≡ true
          → ((rs : List ℕ) → length rs ≡ words_of ts → list_all (λ d. meets p c ks d.0 d.1) (passed ts rs) ≡ true → list_any (λ a. nat_eq a r) rs ≡ true → ⊥) → ⊥
      two [] l e i more = omega (arith, l)
      two (s ∷ rs) l e i more =
          let pair = and_left (meets p c ks x Pair) (meets p c ks s (Behind x) && list_all (λ d. meets p c ks d.0 d.1) (passed ts rs)) e in
          let rest = and_right (meets p c ks x Pair) (meets p c ks s (Behind x) && list_all (λ d. meets p c ks d.0 d.1) (passed ts rs)) e in
          let next : s ≡ x + 1 = eqb-true s (x + 1) (and_left (nat_eq s (x + 1)) (list_all (λ d. meets p c ks d.0 d.1) (passed ts rs)) rest) in
          elim (or_cases (nat_eq x r) (nat_eq s r || list_any (λ a. nat_eq a r) rs) i) [
            | inl j ↦ one x Pair refl pair (eq-eqb r x (sym (eqb-true x r j)))
            | inr k ↦ elim (or_cases (nat_eq s r) (list_any (λ a. nat_eq a r) rs) k) [
              | inl j ↦ behind x pair (sym (eqb-true s r j) ∙ next)
              | inr j ↦ more rs (omega (arith, l)) (and_right (nat_eq s (x + 1)) (list_all (λ d. meets p c ks d.0 d.1) (passed ts rs)) rest) j
            ]
          ]

      by : (w : Bool) (rs : List ℕ) → length (x ∷ rs) ≡ (if w then 2 else 1) + words_of ts
          → list_all (λ d. meets p c ks d.0 d.1) (elim w as (λ w. List (ℕ × Demand)) [ true ↦ passed_wide x rs ++ passed ts (drop 1 rs) | false ↦ (x, Fits t) ∷ passed ts rs ]) ≡ true → list_any (λ a. nat_eq a r) (x ∷ rs) ≡ true
          → ((rs : List ℕ) → length rs ≡ words_of ts → list_all (λ d. meets p c ks d.0 d.1) (passed ts rs) ≡ true → list_any (λ a. nat_eq a r) rs ≡ true → ⊥) → ⊥
      by true rs l e i more = two rs l e i more
      by false rs l e i more = elim (or_cases (nat_eq x r) (list_any (λ a. nat_eq a r) rs) i) [
        | inl j ↦ one x (Fits t) refl (and_left (meets p c ks x (Fits t)) (list_all (λ d. meets p c ks d.0 d.1) (passed ts rs)) e) (eq-eqb r x (sym (eqb-true x r j)))
        | inr j ↦ more rs (omega (arith, l)) (and_right (meets p c ks x (Fits t)) (list_all (λ d. meets p c ks d.0 d.1) (passed ts rs)) e) j
      ]

module _ (p : NamedProgram) (c : NamedClass) (m : NamedMethod) (a : Kinds) (r : ℕ) (lacks : Lacks a.registers r) where
  abbrev met : ℕ → Demand → Bool
  met x d = meets p c a.registers x d

  abbrev Met : List (ℕ × Demand) → Type 0
  Met ds = list_all (λ d. meets p c a.registers d.0 d.1) ds ≡ true

  first : (x : ℕ) (d : Demand) (ds : List (ℕ × Demand)) → Met ((x, d) ∷ ds) → meets p c a.registers x d ≡ true
  first x d ds e = and_left (meets p c a.registers x d) (list_all (λ d. meets p c a.registers d.0 d.1) ds) e

  more : (x : ℕ) (d : Demand) (ds : List (ℕ × Demand)) → Met ((x, d) ∷ ds) → Met ds
  more x d ds e = and_right (meets p c a.registers x d) (list_all (λ d. meets p c a.registers d.0 d.1) ds) e

  -- ---- demands that look

  wide_looks : (w : Bool) (d : Demand) → looks d ≡ true → looks (wide_or w d) ≡ true
  wide_looks true d l = refl
  wide_looks false d l = l

  wide_pair : (w : Bool) (d : Demand) → w ≡ true → wide_or w d ≡ Pair
  wide_pair true d e = refl
  wide_pair false d e = absurd (true≢false (sym e))

  slot_looks : (s : Slot) → looks (slot_demand s) ≡ true
  slot_looks slot.Wide = refl
  slot_looks slot.Word = refl
  slot_looks slot.Object = refl

  slot_pair : (s : Slot) → is_wide_slot s ≡ true → slot_demand s ≡ Pair
  slot_pair slot.Wide e = refl
  slot_pair slot.Word e = absurd (true≢false (sym e))
  slot_pair slot.Object e = absurd (true≢false (sym e))

  item_looks : (i : Item) → looks (put_item i) ≡ true
  item_looks item.Wide = refl
  item_looks item.Object = refl
  item_looks item.Plain = refl
  item_looks i = refl

  item_pair : (i : Item) → is_wide_item i ≡ true → put_item i ≡ Pair
  item_pair item.Wide e = refl
  item_pair i e = absurd (true≢false (sym e))

  tested_looks : (b : Bool) → looks (tested b) ≡ true
  tested_looks true = refl
  tested_looks false = refl

  second_looks : (b : Bool) (k : Kind) → looks (second_tested b k) ≡ true
  second_looks true Zero = refl
  second_looks true Word = refl
  second_looks true k = refl
  second_looks false k = refl

  abbrev O : (w : Bool) (x : ℕ) (d : Demand) → (w ≡ true → d ≡ Pair) → looks d ≡ true → meets p c a.registers x d ≡ true → in_operand w x r ≡ true → ⊥
  O = operand p c a.registers r lacks

  abbrev S : (x : ℕ) (d : Demand) → looks d ≡ true → meets p c a.registers x d ≡ true → nat_eq r x ≡ true → ⊥
  S = one p c a.registers r lacks

  either : (u v : Bool) → (u || v) ≡ true → (u ≡ true → ⊥) → (v ≡ true → ⊥) → ⊥
  either true v e f g = f refl
  either false v e f g = g e

  -- ---- calls

  receiver_unread : (kind : InvokeKind) (k : MethodKey) (x : ℕ) (rest : List (ℕ × Demand)) → Met (map (λ d. (x, d)) (receiver_demands p c kind k) ++ rest) → nat_eq r x ≡ true → ⊥
  receiver_unread call.Super k x rest e i = S x (Fits k.class) refl (first x (Fits k.class) (map (λ d. (x, d)) (map Fits (found_class (finds_super p c.name k))) ++ rest) e) i
  receiver_unread call.Virtual k x rest e i = plain (is_constructor_name k.name) e
    where
      plain : (b : Bool) → Met (map (λ d. (x, d)) ((if b then Constructed k.class else Fits k.class) ∷ []) ++ rest) → ⊥
      plain true e = S x (Constructed k.class) refl (first x (Constructed k.class) rest e) i
      plain false e = S x (Fits k.class) refl (first x (Fits k.class) rest e) i
  receiver_unread call.Interface k x rest e i = plain (is_constructor_name k.name) e
    where
      plain : (b : Bool) → Met (map (λ d. (x, d)) ((if b then Constructed k.class else Fits k.class) ∷ []) ++ rest) → ⊥
      plain true e = S x (Constructed k.class) refl (first x (Constructed k.class) rest e) i
      plain false e = S x (Fits k.class) refl (first x (Fits k.class) rest e) i
  receiver_unread call.Direct k x rest e i = plain (is_constructor_name k.name) e
    where
      plain : (b : Bool) → Met (map (λ d. (x, d)) ((if b then Constructed k.class else Fits k.class) ∷ []) ++ rest) → ⊥
      plain true e = S x (Constructed k.class) refl (first x (Constructed k.class) rest e) i
      plain false e = S x (Fits k.class) refl (first x (Fits k.class) rest e) i
  receiver_unread call.Static k x rest e i = plain (is_constructor_name k.name) e
    where
      plain : (b : Bool) → Met (map (λ d. (x, d)) ((if b then Constructed k.class else Fits k.class) ∷ []) ++ rest) → ⊥
      plain true e = S x (Constructed k.class) refl (first x (Constructed k.class) rest e) i
      plain false e = S x (Fits k.class) refl (first x (Fits k.class) rest e) i

  with_receiver : (kind : InvokeKind) (k : MethodKey) (rs : List ℕ) → length rs ≡ 1 + words_of k.signature.parameters
      → ((x : ℕ) (xs : List ℕ) → rs ≡ x ∷ xs → Met (map (λ d. (x, d)) (receiver_demands p c kind k) ++ passed k.signature.parameters xs)) → list_any (λ y. nat_eq y r) rs ≡ true → ⊥
  with_receiver kind k [] l e i = true≢false (sym i)
  with_receiver kind k (x ∷ xs) l e i = let h = e x xs refl in either (nat_eq x r) (list_any (λ y. nat_eq y r) xs) i
      (λ j. receiver_unread kind k x (passed k.signature.parameters xs) h (eq-eqb r x (sym (eqb-true x r j))))
      (λ j. passed_unread p c a.registers r lacks k.signature.parameters xs (omega (arith, l))
      (all_last (λ d. meets p c a.registers d.0 d.1) (map (λ d. (x, d)) (receiver_demands p c kind k)) (passed k.signature.parameters xs) h) j)

  call_unread : (kind : InvokeKind) (k : MethodKey) (rs : List ℕ) → length rs ≡ passed_words kind k → Met (call_demands p c kind k rs) → list_any (λ y. nat_eq y r) rs ≡ true → ⊥
  call_unread call.Static k rs l e i = passed_unread p c a.registers r lacks k.signature.parameters rs (omega (arith, l)) e i
  call_unread call.Virtual k [] l e i = true≢false (sym i)
  call_unread call.Virtual k (x ∷ xs) l e i = with_receiver call.Virtual k (x ∷ xs) l (λ y ys d. let h : (x ∷ xs) ≡ (y ∷ ys) = d in subst (λ (zs : List ℕ). Met (call_demands p c call.Virtual k zs)) h e) i
  call_unread call.Interface k [] l e i = true≢false (sym i)
  call_unread call.Interface k (x ∷ xs) l e i = with_receiver call.Interface k (x ∷ xs) l (λ y ys d. subst (λ (zs : List ℕ). Met (call_demands p c call.Interface k zs)) d e) i
  call_unread call.Direct k [] l e i = true≢false (sym i)
  call_unread call.Direct k (x ∷ xs) l e i = with_receiver call.Direct k (x ∷ xs) l (λ y ys d. subst (λ (zs : List ℕ). Met (call_demands p c call.Direct k zs)) d e) i
  call_unread call.Super k [] l e i = true≢false (sym i)
  call_unread call.Super k (x ∷ xs) l e i = with_receiver call.Super k (x ∷ xs) l (λ y ys d. subst (λ (zs : List ℕ). Met (call_demands p c call.Super k zs)) d e) i

  -- ---- all forms

  met_reads : (f : Form) → Met (demands p c m a.registers f) → is_wrong p c m a f ≡ false → reads f r ≡ true → ⊥
  met_reads (form.Move s to from) e w i = O (is_wide_slot s) from (slot_demand s) (slot_pair s) (slot_looks s) (first from (slot_demand s) [] e) i
  met_reads (form.Return s from) e w i = O (is_wide_slot s) from (of_type m.signature.result)
      (λ j. wide_pair (is_wide m.signature.result) (Fits m.signature.result) (return_wide s m.signature.result (neither_of (wrong_return s m.signature.result) (ends_early p c m a) w).0 j))
      (wide_looks (is_wide m.signature.result) (Fits m.signature.result) refl) (first from (of_type m.signature.result) [] e) i
  met_reads (form.MonitorEnter on) e w i = S on Initialised refl (first on Initialised [] e) i
  met_reads (form.MonitorExit on) e w i = S on Initialised refl (first on Initialised [] e) i
  met_reads (form.CheckCast on kind) e w i = S on Initialised refl (first on Initialised [] e) i
  met_reads (form.InstanceOf to from kind) e w i = S from Initialised refl (first from Initialised [] e) i
  met_reads (form.ArrayLength to from) e w i = S from AnArray refl (first from AnArray [] e) i
  met_reads (form.NewArray to size kind) e w i = S size Number refl (first size Number [] e) i
  met_reads (form.FilledNewArray kind args) e w i = args_unread p c a.registers r lacks (item_of kind) args e i
  met_reads (form.FillArray on width items) e w i = S on (Filled width) refl (first on (Filled width) [] e) i
  met_reads (form.Throw on) e w i = S on Initialised refl (first on Initialised [] e) i
  met_reads (form.PackedSwitch on z targets) e w i = S on Number refl (first on Number [] e) i
  met_reads (form.SparseSwitch on keys targets) e w i = S on Number refl (first on Number [] e) i
  met_reads (form.Cmp op to x y) e w i =
      let b = compares_wide op in
      let d = number_or_pair b in
      either (in_operand b x r) (in_operand b y r) i (O b x d (wide_pair b Number) (wide_looks b Number refl) (first x d ((y, d) ∷ []) e))
      (O b y d (wide_pair b Number) (wide_looks b Number refl) (first y d [] (more x d ((y, d) ∷ []) e)))
  met_reads (form.If test x y target) e w i =
      let d = tested (is_equality test) in
      let d' = second_tested (is_equality test) (kind_at a.registers x) in
      either (nat_eq r x) (nat_eq r y) i (S x d (tested_looks (is_equality test)) (first x d ((y, d') ∷ []) e))
      (S y d' (second_looks (is_equality test) (kind_at a.registers x)) (first y d' [] (more x d ((y, d') ∷ []) e)))
  met_reads (form.IfZero test x target) e w i = S x (tested (is_equality test)) (tested_looks (is_equality test)) (first x (tested (is_equality test)) [] e) i
  met_reads (form.ArrayGet t to array index) e w i = either (nat_eq r array) (nat_eq r index) i (S array (ArrayOf t) refl (first array (ArrayOf t) ((index, Number) ∷ []) e))
      (S index Number refl (first index Number [] (more array (ArrayOf t) ((index, Number) ∷ []) e)))
  met_reads (form.ArrayPut t from array index) e w i =
      let rest = more from (put_item t) ((array, ArrayOf t) ∷ (index, Number) ∷ []) e in
      either (in_operand (is_wide_item t) from r || nat_eq r array) (nat_eq r index) i
      (λ j. either (in_operand (is_wide_item t) from r) (nat_eq r array) j (O (is_wide_item t) from (put_item t) (item_pair t) (item_looks t) (first from (put_item t) ((array, ArrayOf t) ∷ (index, Number) ∷ []) e))
      (S array (ArrayOf t) refl (first array (ArrayOf t) ((index, Number) ∷ []) rest)))
      (S index Number refl (first index Number [] (more array (ArrayOf t) ((index, Number) ∷ []) rest)))
  met_reads (form.InstanceGet t to on field) e w i = S on (Receiver field.class) refl (first on (Receiver field.class) [] e) i
  met_reads (form.InstancePut t from on field) e w i =
      let d = of_type field.kind in
      let q = item_width t field.kind (neither_of (wrong_item t field.kind) (wrong_field p false field) w).0 in
      either (in_operand (is_wide_item t) from r) (nat_eq r on) i
      (O (is_wide_item t) from d (λ j. wide_pair (is_wide field.kind) (Fits field.kind) (q ∙ j)) (wide_looks (is_wide field.kind) (Fits field.kind) refl) (first from d ((on, Holder field) ∷ []) e))
      (S on (Holder field) refl (first on (Holder field) [] (more from d ((on, Holder field) ∷ []) e)))
  met_reads (form.StaticPut t from field) e w i =
      let d = of_type field.kind in
      let q = item_width t field.kind (neither_of (wrong_item t field.kind) (wrong_field p true field) w).0 in
      O (is_wide_item t) from d (λ j. wide_pair (is_wide field.kind) (Fits field.kind) (q ∙ j)) (wide_looks (is_wide field.kind) (Fits field.kind) refl) (first from d [] e) i
  met_reads (form.Invoke kind k args) e w i =
      call_unread kind k args (eqb-true (length args) (passed_words kind k) (not_false (nat_eq (length args) (passed_words kind k)) (neither_of (wrong_method p kind k || wrong_super p c kind k) (not (nat_eq (length args) (passed_words kind k))) w).1)) e i
  met_reads (form.Unary op to from) e w i = let b = unary_reads_wide op in O b from (number_or_pair b) (wide_pair b Number) (wide_looks b Number refl) (first from (number_or_pair b) [] e) i
  met_reads (form.Binary op to x y) e w i =
      let b = binary_is_wide op in
      let s = second_is_wide op in
      either (in_operand b x r) (in_operand s y r) i (O b x (number_or_pair b) (wide_pair b Number) (wide_looks b Number refl) (first x (number_or_pair b) ((y, number_or_pair s) ∷ []) e))
      (O s y (number_or_pair s) (wide_pair s Number) (wide_looks s Number refl) (first y (number_or_pair s) [] (more x (number_or_pair b) ((y, number_or_pair s) ∷ []) e)))
  met_reads (form.Literal op to x value) e w i = S x Number refl (first x Number [] e) i
  met_reads f e w i = true≢false (sym i)

  pub unread : (f : Form) → is_allowed p c m a f ≡ true → is_wrong p c m a f ≡ false → reads f r ≡ true → ⊥
  unread f e w i = met_reads f (and_right (place_allowed a f) (list_all (λ d. meets p c a.registers d.0 d.1) (demands p c m a.registers f)) e) w i
