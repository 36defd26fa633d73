-- What a form with other registers asks of them: the same of the same kinds.
use Rattle.std.proofs.Common.{◌≡◌, ℕ, ◌+◌, Bool, true, false, true≢false, List, [], ◌∷◌, ◌++◌, refl, sym, ap, ap₂, ◌∙◌}
use Rattle.std.specs.Prelude.{◌&&◌, ◌||◌, map, drop, if◌then◌else◌}
use Rattle.std.specs.List.{list_all}
use Rattle.std.proofs.lemmas.Bool.{eq-eqb, eqb-true}
use Rattle.lemmas.proofs.Bools.{and_left}
use Rattle.lemmas.proofs.Lists.{map_append}
use Rattle.insn_set.specs.declared.ops.Slot.{Slot}
use Rattle.insn_set.specs.declared.ops.Slot.TheVariants as slot
use Rattle.insn_set.specs.declared.ops.Item.{Item}
use Rattle.insn_set.specs.declared.ops.Item.TheVariants as item
use Rattle.insn_set.specs.Widths.{compares_wide, unary_reads_wide, binary_is_wide, second_is_wide}
use Rattle.dalvik_defs.specs.Items.{item_of_type}
use Rattle.insn_set.specs.declared.ops.InvokeKind.{InvokeKind}
use Rattle.insn_set.specs.declared.ops.InvokeKind.TheVariants as call
use Rattle.dalvik_defs.specs.Names.{Text, is_wide, item_of}
use Rattle.dalvik_defs.specs.Find.{finds_super}
use Rattle.dalvik_defs.specs.declared.names.MethodKey.{MethodKey}
use Rattle.dalvik_defs.specs.declared.forms.Form.{Form}
use Rattle.dalvik_defs.specs.declared.forms.Form.TheVariants as form
use Rattle.dalvik_defs.specs.declared.program.NamedClass.{NamedClass}
use Rattle.dalvik_defs.specs.declared.program.NamedMethod.{NamedMethod}
use Rattle.dalvik_defs.specs.declared.program.NamedProgram.{NamedProgram}
use Rattle.pass_defs.specs.Kinds.{Kind, Low, High, kind_eq, is_number, is_initialised, fits, fits_holder}
use Rattle.pass_defs.specs.Registers.{Kinds, kind_at}
use Rattle.pass_defs.specs.Remade.{remade}
use Rattle.form_laws.specs.Kinds.{renamed, AtFirst, SameKinds, AllSame}
use Rattle.pass_defs.specs.Demands.{wide_or, tested, like, put_item, result_fits, Demand, Moved, Number, Pair, Behind, Initialised, Either, Fits, Receiver, Holder, Constructed, AnArray, ArrayOf, Filled, meets, is_moved, holds_field, is_constructed, is_array_where, item_eq, has_width, slot_demand, second_tested, is_equality, is_constructor_name, passed_wide, passed, found_class, receiver_demands, call_demands, demands, place_allowed, is_allowed}

pub and_behind : (a b : Bool) → (a && b) ≡ true → b ≡ true
and_behind true b e = e
and_behind false b e = absurd (true≢false (sym e))

drop_map : (r : ℕ → ℕ) (rs : List ℕ) → drop 1 (map r rs) ≡ map r (drop 1 rs)
drop_map r [] = refl
drop_map r (x ∷ rs) = refl

module _ (p : NamedProgram) (c : NamedClass) (m : NamedMethod) (r d t : ℕ → ℕ) where
  abbrev named : ℕ × Demand → ℕ × Demand
  named x = (r x.0, renamed r x.1)

  wide_named : (x : ℕ) (rs : List ℕ) → passed_wide (r x) (map r rs) ≡ map named (passed_wide x rs)
  wide_named x [] = refl
  wide_named x (y ∷ rs) = refl

  passed_named : (ts : List Text) (rs : List ℕ) → passed ts (map r rs) ≡ map named (passed ts rs)
  passed_named [] rs = refl
  passed_named (u ∷ ts) [] = refl
  passed_named (u ∷ ts) (x ∷ rs) = by (is_wide u) (passed_named ts (drop 1 rs)) (passed_named ts rs)
    where
      by : (b : Bool) → passed ts (map r (drop 1 rs)) ≡ map named (passed ts (drop 1 rs)) → passed ts (map r rs) ≡ map named (passed ts rs)
          → (elim b as (λ b. List (ℕ × Demand)) [ true ↦ passed_wide (r x) (map r rs) ++ passed ts (drop 1 (map r rs)) | false ↦ (r x, Fits u) ∷ passed ts (map r rs) ])
          ≡ map named (elim b as (λ b. List (ℕ × Demand)) [ true ↦ passed_wide x rs ++ passed ts (drop 1 rs) | false ↦ (x, Fits u) ∷ passed ts rs ])
      by true h k = ap₂ (λ a b. a ++ b) (wide_named x rs) (ap (passed ts) (drop_map r rs) ∙ h) ∙ sym (map_append named (passed_wide x rs) (passed ts (drop 1 rs)))
      by false h k = ap (λ l. (r x, Fits u) ∷ l) k

  fits_named : (x : ℕ) (ts : List Text) → map (λ y. (r x, y)) (map Fits ts) ≡ map named (map (λ y. (x, y)) (map Fits ts))
  fits_named x [] = refl
  fits_named x (u ∷ ts) = ap (λ l. (r x, Fits u) ∷ l) (fits_named x ts)

  receiver_named : (kind : InvokeKind) (k : MethodKey) (x : ℕ) → map (λ y. (r x, y)) (receiver_demands p c kind k) ≡ map named (map (λ y. (x, y)) (receiver_demands p c kind k))
  receiver_named call.Super k x = ap (λ l. (r x, Fits k.class) ∷ l) (fits_named x (found_class (finds_super p c.name k)))
  receiver_named kind k x = by (is_constructor_name k.name)
    where
      by : (b : Bool) → map (λ y. (r x, y)) ((if b then Constructed k.class else Fits k.class) ∷ []) ≡ map named (map (λ y. (x, y)) ((if b then Constructed k.class else Fits k.class) ∷ []))
      by true = refl
      by false = refl

  call_named : (kind : InvokeKind) (k : MethodKey) (rs : List ℕ) → call_demands p c kind k (map r rs) ≡ map named (call_demands p c kind k rs)
  call_named call.Static k rs = passed_named k.signature.parameters rs
  call_named kind k [] = refl
  call_named kind k (x ∷ rs) = ap₂ (λ a b. a ++ b) (receiver_named kind k x) (passed_named k.signature.parameters rs)
      ∙ sym (map_append named (map (λ y. (x, y)) (receiver_demands p c kind k)) (passed k.signature.parameters rs))

  -- the demands are the same, of the other registers
  module _ (ks ks' : List Kind) where
    wide_plain : (b : Bool) (x : Demand) → renamed r x ≡ x → renamed r (wide_or b x) ≡ wide_or b x
    wide_plain true x e = refl
    wide_plain false x e = e

    slot_plain : (i : Slot) → renamed r (slot_demand i) ≡ slot_demand i
    slot_plain slot.Wide = refl
    slot_plain i = refl

    item_plain : (i : Item) → renamed r (put_item i) ≡ put_item i
    item_plain item.Wide = refl
    item_plain i = refl

    tested_plain : (b : Bool) → renamed r (tested b) ≡ tested b
    tested_plain true = refl
    tested_plain false = refl

    like_plain : (k : Kind) → renamed r (like k) ≡ like k
    like_plain Low = refl
    like_plain k = refl

    second_plain : (b : Bool) (k : Kind) → renamed r (second_tested b k) ≡ second_tested b k
    second_plain true k = like_plain k
    second_plain false k = refl

    filled_named : (u : Text) (xs : List ℕ) → map (λ x. (x, Fits u)) (map r xs) ≡ map named (map (λ x. (x, Fits u)) xs)
    filled_named u [] = refl
    filled_named u (x ∷ xs) = ap (λ l. (r x, Fits u) ∷ l) (filled_named u xs)

    pub demands_named : (f : Form) → AtFirst r ks ks' f → demands p c m ks' (remade r d t f) ≡ map named (demands p c m ks f)
    demands_named (form.Move slot to from) h = ap (λ x. (r from, x) ∷ []) (sym (slot_plain slot))
    demands_named (form.Return slot from) h = ap (λ x. (r from, x) ∷ []) (sym (wide_plain (is_wide m.signature.result) (Fits m.signature.result) refl))
    demands_named (form.FilledNewArray kind args) h = filled_named (item_of kind) args
    demands_named (form.Cmp op to a b) h = ap (λ x. (r a, x) ∷ (r b, x) ∷ []) (sym (wide_plain (compares_wide op) Number refl))
    demands_named (form.If test a b target) h = ap₂ (λ x y. (r a, x) ∷ (r b, y) ∷ []) (sym (tested_plain (is_equality test))) (ap (second_tested (is_equality test)) h ∙ sym (second_plain (is_equality test) (kind_at ks a)))
    demands_named (form.IfZero test a target) h = ap (λ x. (r a, x) ∷ []) (sym (tested_plain (is_equality test)))
    demands_named (form.ArrayPut item from array index) h = ap (λ x. (r from, x) ∷ (r array, ArrayOf item) ∷ (r index, Number) ∷ []) (sym (item_plain item))
    demands_named (form.InstancePut item from on field) h = ap (λ x. (r from, x) ∷ (r on, Holder field) ∷ []) (sym (wide_plain (is_wide field.kind) (Fits field.kind) refl))
    demands_named (form.StaticPut item from field) h = ap (λ x. (r from, x) ∷ []) (sym (wide_plain (is_wide field.kind) (Fits field.kind) refl))
    demands_named (form.Invoke kind method args) h = call_named kind method args
    demands_named (form.Unary op to from) h = ap (λ x. (r from, x) ∷ []) (sym (wide_plain (unary_reads_wide op) Number refl))
    demands_named (form.Binary op to a b) h = ap₂ (λ x y. (r a, x) ∷ (r b, y) ∷ []) (sym (wide_plain (binary_is_wide op) Number refl)) (sym (wide_plain (second_is_wide op) Number refl))
    demands_named f h = refl

    -- ---- when they are met

    met : (x : ℕ) (y : Demand) → SameKinds r ks ks' (x, y) → meets p c ks x y ≡ true → meets p c ks' (r x) (renamed r y) ≡ true
    met x Pair h e = ap₂ (λ a b. kind_eq a Low && kind_eq b High) h.first (h.second refl) ∙ e
    met x (Behind q) h e = eq-eqb (r x) (r q + 1) (ap r (eqb-true x (q + 1) e) ∙ h.behind q refl)
    met x Moved h e = ap is_moved h.first ∙ e
    met x Number h e = ap is_number h.first ∙ e
    met x Initialised h e = ap is_initialised h.first ∙ e
    met x Either h e = ap (λ k. is_number k || is_initialised k) h.first ∙ e
    met x (Fits u) h e = ap (λ k. fits p k u) h.first ∙ e
    met x (Receiver u) h e = ap (λ k. fits_holder p k u) h.first ∙ e
    met x (Holder q) h e = ap (holds_field p c q) h.first ∙ e
    met x (Constructed u) h e = ap (is_constructed c u) h.first ∙ e
    met x AnArray h e = ap (is_array_where (λ t. true)) h.first ∙ e
    met x (ArrayOf i) h e = ap (is_array_where (λ t. item_eq (item_of_type t) i)) h.first ∙ e
    met x (Filled n) h e = ap (is_array_where (λ t. has_width n (item_of_type t))) h.first ∙ e

    all_met : (xs : List (ℕ × Demand)) → AllSame r ks ks' xs → list_all (λ x. meets p c ks x.0 x.1) xs ≡ true → list_all (λ x. meets p c ks' x.0 x.1) (map named xs) ≡ true
    all_met [] h e = refl
    all_met (x ∷ xs) h e =
        ap₂ (λ a b. a && b) (met x.0 x.1 h.0 (and_left (meets p c ks x.0 x.1) (list_all (λ x. meets p c ks x.0 x.1) xs) e)) (all_met xs h.1 (and_behind (meets p c ks x.0 x.1) (list_all (λ x. meets p c ks x.0 x.1) xs) e))

  place_same : (a a' : Kinds) (f : Form) → a'.result ≡ a.result → a'.caught ≡ a.caught → place_allowed a' (remade r d t f) ≡ place_allowed a f
  place_same a a' (form.MoveResult slot to) i j = ap (result_fits slot) i
  place_same a a' (form.MoveException to) i j = ap is_initialised j
  place_same a a' f i j = refl

  -- what is allowed of a form is allowed of it with other registers that hold the same kinds
  pub allowed_named : (a a' : Kinds) (f : Form) → a'.result ≡ a.result → a'.caught ≡ a.caught → AtFirst r a.registers a'.registers f → AllSame r a.registers a'.registers (demands p c m a.registers f)
      → is_allowed p c m a f ≡ true → is_allowed p c m a' (remade r d t f) ≡ true
  allowed_named a a' f i j first same e =
      ap₂ (λ x y. x && y) (place_same a a' f i j ∙ and_left (place_allowed a f) _ e)
      (ap (list_all (λ x. meets p c a'.registers x.0 x.1)) (demands_named a.registers a'.registers f first) ∙ all_met a.registers a'.registers (demands p c m a.registers f) same (and_behind (place_allowed a f) _ e))
