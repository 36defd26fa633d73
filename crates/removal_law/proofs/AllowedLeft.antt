-- What a form that is left asks, and whether it is wrong, in what is left of a program.
use Rattle.std.proofs.Common.{◌≡◌, ℕ, Bool, true, false, List, [], ◌∷◌, ◌++◌, refl, sym, ap, ◌∙◌, subst}
use Rattle.std.specs.Prelude.{◌&&◌, ◌||◌, not, map, drop, if◌then◌else◌, codes}
use Rattle.std.specs.List.{list_all}
use Rattle.insn_set.specs.declared.ops.Slot.{Slot}
use Rattle.insn_set.specs.declared.ops.Slot.TheVariants as slot
use Rattle.insn_set.specs.declared.ops.Item.{Item}
use Rattle.insn_set.specs.declared.ops.Item.TheVariants as item
use Rattle.insn_set.specs.declared.ops.InvokeKind.{InvokeKind}
use Rattle.insn_set.specs.declared.ops.InvokeKind.TheVariants as call
use Rattle.insn_set.specs.Widths.{compares_wide, unary_reads_wide, binary_is_wide, second_is_wide}
use Rattle.dalvik_defs.specs.Names.{Text, text_eq, object_type, is_wide, is_array, is_reference, item_of}
use Rattle.dalvik_defs.specs.Under.{defines}
use Rattle.dalvik_defs.specs.Find.{Search, Nothing, Clash, Finds, finds_super}
use Rattle.dalvik_defs.specs.declared.names.MethodKey.{MethodKey}
use Rattle.dalvik_defs.specs.declared.names.FieldKey.{FieldKey}
use Rattle.dalvik_defs.specs.declared.forms.Form.{Form}
use Rattle.dalvik_defs.specs.declared.forms.Form.TheVariants as form
use Rattle.dalvik_defs.specs.declared.program.NamedMethod.{NamedMethod}
use Rattle.dalvik_defs.specs.declared.program.NamedClass.{NamedClass}
use Rattle.dalvik_defs.specs.declared.program.NamedProgram.{NamedProgram}
use Rattle.pass_defs.specs.Kinds.{Kind, Zero, Word, Low, kind_eq, is_number, is_initialised}
use Rattle.pass_defs.specs.Registers.{Kinds, kind_at}
use Rattle.pass_defs.specs.Demands.{Demand, Number, Fits, Constructed, meets, wide_or, number_or_pair, of_type, slot_demand, is_equality, like, tested, second_tested, put_item, is_constructor_name, passed_wide, passed, found_class, call_demands, demands, result_fits, place_allowed, is_allowed}
use Rattle.pass_defs.specs.Typed.{wrong_filled, is_wrong}
use Rattle.pass_defs.specs.Live.{Family, KeepsAbove}
use Rattle.removal_law.specs.Agree.{Each}
use Rattle.removal_law.specs.Left.{left_in, left_of, In, here, there}
use Rattle.removal_law.specs.Reach.{IsRegular, OkType}
use Rattle.removal_law.proofs.Lists.{clash}
use Rattle.removal_law.proofs.Classes.{Kept}
use Rattle.removal_law.proofs.Faces.{item_base, each_in}
use Rattle.removal_law.proofs.TypedCode.{not_not}
use Rattle.removal_law.proofs.KindsLeft.{left_kind, same_left, at_left}
use Rattle.removal_law.proofs.DemandsLeft.{each_all, each_both, each_same, FormLeft, OkDemand, meets_left}
use Rattle.removal_law.proofs.WritesLeft.{left_kinds}

neither : (a b : Bool) → not (a || b) ≡ true → not a ≡ true
neither true b e = e
neither false b e = refl

pub filled_array : (t : Text) → not (wrong_filled t) ≡ true → is_array t ≡ true
filled_array t e = not_not (is_array t) (neither (not (is_array t)) (not (text_eq (item_of t) (codes "I") || is_reference (item_of t))) e)

module _ (p : NamedProgram) (s : Family) (above : KeepsAbove p s) (regular : IsRegular p) (none : defines p object_type ≡ false) (c : NamedClass) (m : NamedMethod) where
  abbrev q : NamedProgram
  q = left_of s p

  abbrev left : Kind → Kind
  left = left_kind p s

  abbrev Ok : ℕ × Demand → Type 0
  Ok d = OkDemand p s above regular none d.1

  -- ---- what a form asks is the same

  call_left : (kind : InvokeKind) (k : MethodKey) (args : List ℕ) → FormLeft p s c m (form.Invoke kind k args) → call_demands q (left_in s c) kind k args ≡ call_demands p c kind k args
  call_left call.Super k [] h = refl
  call_left call.Super k (r ∷ rs) h = ap (λ x. map {A = Demand} {B = ℕ × Demand} (λ d. (r, d)) (Fits k.class ∷ map Fits (found_class x)) ++ passed k.signature.parameters rs) (h.supers k (r ∷ rs) refl)
  call_left call.Static k args h = refl
  call_left call.Direct k [] h = refl
  call_left call.Direct k (r ∷ rs) h = refl
  call_left call.Virtual k [] h = refl
  call_left call.Virtual k (r ∷ rs) h = refl
  call_left call.Interface k [] h = refl
  call_left call.Interface k (r ∷ rs) h = refl

  demands_left : (ks : List Kind) (f : Form) → FormLeft p s c m f → demands q (left_in s c) m (map left ks) f ≡ demands p c m ks f
  demands_left ks (form.If test a b target) h =
      ap {A = Demand} {B = List (ℕ × Demand)} (λ d. (a, tested (is_equality test)) ∷ (b, d) ∷ [])
      (ap (second_tested (is_equality test)) (at_left p s ks a) ∙ ap (λ d. elim (is_equality test) as (λ b. Demand) [ true ↦ d | false ↦ Number ]) (same_left p s like (λ t. refl) (λ t. refl) (kind_at ks a)))
  demands_left ks (form.Invoke kind k args) h = call_left kind k args h
  demands_left ks f h = refl

  -- ---- and of types that are left

  slot_ok : (x : Slot) → OkDemand p s above regular none (slot_demand x)
  slot_ok slot.Wide = tt
  slot_ok slot.Word = tt
  slot_ok slot.Object = tt

  pair_ok : (b : Bool) → OkDemand p s above regular none (number_or_pair b)
  pair_ok true = tt
  pair_ok false = tt

  type_ok : (t : Text) → OkType p s t → OkDemand p s above regular none (of_type t)
  type_ok t h = by (is_wide t)
    where
      by : (b : Bool) → OkDemand p s above regular none (wide_or b (Fits t))
      by true = tt
      by false = h

  tested_ok : (b : Bool) → OkDemand p s above regular none (tested b)
  tested_ok true = tt
  tested_ok false = tt

  like_ok : (k : Kind) → OkDemand p s above regular none (like k)
  like_ok Zero = tt
  like_ok Word = tt
  like_ok k = tt

  second_ok : (b : Bool) (k : Kind) → OkDemand p s above regular none (second_tested b k)
  second_ok true k = like_ok k
  second_ok false k = tt

  put_ok : (i : Item) → OkDemand p s above regular none (put_item i)
  put_ok item.Wide = tt
  put_ok item.Object = tt
  put_ok i = tt

  wide_ok : (r : ℕ) (rs : List ℕ) → Each Ok (passed_wide r rs)
  wide_ok r [] = (tt, tt)
  wide_ok r (x ∷ rs) = (tt, (tt, tt))

  passed_ok : (ts : List Text) (rs : List ℕ) → Each (OkType p s) ts → Each Ok (passed ts rs)
  passed_ok [] rs h = tt
  passed_ok (t ∷ ts) [] h = tt
  passed_ok (t ∷ ts) (r ∷ rs) h = by (is_wide t) (passed_ok ts (drop 1 rs) h.1) (passed_ok ts rs h.1)
    where
      by : (b : Bool) → Each Ok (passed ts (drop 1 rs)) → Each Ok (passed ts rs) → Each Ok (elim b as (λ b. List (ℕ × Demand)) [ true ↦ passed_wide r rs ++ passed ts (drop 1 rs) | false ↦ (r, Fits t) ∷ passed ts rs ])
      by true k l = each_both Ok (passed_wide r rs) (passed ts (drop 1 rs)) (wide_ok r rs) k
      by false k l = (h.0, l)

  parameters_ok : (kind : InvokeKind) (k : MethodKey) (args rs : List ℕ) → FormLeft p s c m (form.Invoke kind k args) → Each Ok (passed k.signature.parameters rs)
  parameters_ok kind k args rs h = passed_ok k.signature.parameters rs (each_in (OkType p s) k.signature.parameters (λ t i. h.types t (there k.class (k.signature.result ∷ k.signature.parameters) (there k.signature.result k.signature.parameters i))))

  receiver_ok : (kind : InvokeKind) (k : MethodKey) (args : List ℕ) → FormLeft p s c m (form.Invoke kind k args) → (b : Bool) → OkDemand p s above regular none (if b then Constructed k.class else Fits k.class)
  receiver_ok kind k args h true = tt
  receiver_ok kind k args h false = h.types k.class (here (k.signature.result ∷ k.signature.parameters))

  super_ok : (k : MethodKey) (args : List ℕ) (r : ℕ) → FormLeft p s c m (form.Invoke call.Super k args) → Each Ok (map {A = Demand} {B = ℕ × Demand} (λ d. (r, d)) (map Fits (found_class (finds_super p c.name k))))
  super_ok k args r h = by (finds_super p c.name k) refl
    where
      by : (x : Search) → finds_super p c.name k ≡ x → Each Ok (map {A = Demand} {B = ℕ × Demand} (λ d. (r, d)) (map Fits (found_class x)))
      by (Finds g) e = (h.found k args g refl e, tt)
      by Nothing e = tt
      by Clash e = tt

  call_ok : (kind : InvokeKind) (k : MethodKey) (args : List ℕ) → FormLeft p s c m (form.Invoke kind k args) → Each Ok (call_demands p c kind k args)
  call_ok call.Static k args h = parameters_ok call.Static k args args h
  call_ok call.Super k [] h = tt
  call_ok call.Super k (r ∷ rs) h = (receiver_ok call.Super k (r ∷ rs) h false, each_both Ok (map {A = Demand} {B = ℕ × Demand} (λ d. (r, d)) (map Fits (found_class (finds_super p c.name k)))) (passed k.signature.parameters rs) (super_ok k (r ∷ rs) r h) (parameters_ok call.Super k (r ∷ rs) rs h))
  call_ok call.Direct k [] h = tt
  call_ok call.Direct k (r ∷ rs) h = (receiver_ok call.Direct k (r ∷ rs) h (is_constructor_name k.name), parameters_ok call.Direct k (r ∷ rs) rs h)
  call_ok call.Virtual k [] h = tt
  call_ok call.Virtual k (r ∷ rs) h = (receiver_ok call.Virtual k (r ∷ rs) h (is_constructor_name k.name), parameters_ok call.Virtual k (r ∷ rs) rs h)
  call_ok call.Interface k [] h = tt
  call_ok call.Interface k (r ∷ rs) h = (receiver_ok call.Interface k (r ∷ rs) h (is_constructor_name k.name), parameters_ok call.Interface k (r ∷ rs) rs h)

  field_class : (k : FieldKey) → In k.class (k.class ∷ k.kind ∷ [])
  field_class k = here (k.kind ∷ [])

  pub field_kind : (k : FieldKey) → In k.kind (k.class ∷ k.kind ∷ [])
  field_kind k = there k.class (k.kind ∷ []) (here [])

  demands_ok : (a : Kinds) (f : Form) → FormLeft p s c m f → not (is_wrong p c m a f) ≡ true → Each Ok (demands p c m a.registers f)
  demands_ok a (form.Move x to from) h w = (slot_ok x, tt)
  demands_ok a (form.Return x from) h w = (type_ok m.signature.result (h.own m.signature.result (here m.signature.parameters)), tt)
  demands_ok a (form.FilledNewArray kind args) h w = each_same {A = ℕ} {B = ℕ × Demand} Ok (λ r. (r, Fits (item_of kind))) (λ r. subst (Kept s p) (sym (item_base kind (filled_array kind w))) (h.types kind (here []))) args
  demands_ok a (form.Cmp op to x y) h w = (pair_ok (compares_wide op), (pair_ok (compares_wide op), tt))
  demands_ok a (form.If test x y target) h w = (tested_ok (is_equality test), (second_ok (is_equality test) (kind_at a.registers x), tt))
  demands_ok a (form.IfZero test x target) h w = (tested_ok (is_equality test), tt)
  demands_ok a (form.ArrayPut i from array index) h w = (put_ok i, (tt, (tt, tt)))
  demands_ok a (form.InstanceGet i to on field) h w = (h.types field.class (field_class field), tt)
  demands_ok a (form.InstancePut i from on field) h w = (type_ok field.kind (h.types field.kind (field_kind field)), ((h.types field.class (field_class field), h.fields field (here [])), tt))
  demands_ok a (form.StaticPut i from field) h w = (type_ok field.kind (h.types field.kind (field_kind field)), tt)
  demands_ok a (form.Invoke kind k args) h w = call_ok kind k args h
  demands_ok a (form.Unary op to from) h w = (pair_ok (unary_reads_wide op), tt)
  demands_ok a (form.Binary op to x y) h w = (pair_ok (binary_is_wide op), (pair_ok (second_is_wide op), tt))
  demands_ok a (form.MonitorEnter on) h w = (tt, tt)
  demands_ok a (form.MonitorExit on) h w = (tt, tt)
  demands_ok a (form.CheckCast on kind) h w = (tt, tt)
  demands_ok a (form.InstanceOf to from kind) h w = (tt, tt)
  demands_ok a (form.ArrayLength to from) h w = (tt, tt)
  demands_ok a (form.NewArray to size kind) h w = (tt, tt)
  demands_ok a (form.FillArray on width items) h w = (tt, tt)
  demands_ok a (form.Throw on) h w = (tt, tt)
  demands_ok a (form.PackedSwitch on first targets) h w = (tt, tt)
  demands_ok a (form.SparseSwitch on keys targets) h w = (tt, tt)
  demands_ok a (form.ArrayGet i to array index) h w = (tt, (tt, tt))
  demands_ok a (form.Literal op to x value) h w = (tt, tt)
  demands_ok a f h w = tt

  -- ---- every read that was allowed is

  result_left : (x : Slot) (k : Kind) → result_fits x (left k) ≡ result_fits x k
  result_left slot.Word k = same_left p s is_number (λ t. refl) (λ t. refl) k
  result_left slot.Wide k = same_left p s (λ k. kind_eq k Low) (λ t. refl) (λ t. refl) k
  result_left slot.Object k = same_left p s is_initialised (λ t. refl) (λ t. refl) k

  place_left : (a : Kinds) (f : Form) → place_allowed (left_kinds p s a) f ≡ place_allowed a f
  place_left a (form.MoveResult x to) = result_left x a.result
  place_left a (form.MoveException to) = same_left p s is_initialised (λ t. refl) (λ t. refl) a.caught
  place_left a f = refl

  pub allowed_left : (a : Kinds) (f : Form) → FormLeft p s c m f → not (is_wrong p c m a f) ≡ true → is_allowed p c m a f ≡ true → is_allowed q (left_in s c) m (left_kinds p s a) f ≡ true
  allowed_left a f h w e =
      ap (λ b. b && list_all (λ d. meets q (left_in s c) (map left a.registers) d.0 d.1) (demands q (left_in s c) m (map left a.registers) f)) (place_left a f)
      ∙ ap (λ ds. place_allowed a f && list_all (λ d. meets q (left_in s c) (map left a.registers) d.0 d.1) ds) (demands_left a.registers f h)
      ∙ by (place_allowed a f) e
    where
      by : (b : Bool) → (b && list_all (λ d. meets p c a.registers d.0 d.1) (demands p c m a.registers f)) ≡ true → (b && list_all (λ d. meets q (left_in s c) (map left a.registers) d.0 d.1) (demands p c m a.registers f)) ≡ true
      by true e = each_all Ok (λ d. meets p c a.registers d.0 d.1) (λ d. meets q (left_in s c) (map left a.registers) d.0 d.1) (λ d k. meets_left p s above regular none c a.registers d.0 d.1 k) (demands p c m a.registers f)
          (demands_ok a f h w) e
      by false e = clash false e refl
