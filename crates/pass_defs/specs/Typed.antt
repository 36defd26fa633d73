-- Typings of a body, and the least flow that looks for one (this project's profile).
use Rattle.std.specs.Prelude.{◌≡◌, ℕ, zero, suc, ◌+◌, ◌-◌, ℤ, pos, Bool, true, false, ◌&&◌, ◌||◌, not, if◌then◌else◌, nat_eq, List, [], ◌∷◌, ◌++◌, map, replicate, length, Option, Some, None, slice_index_or, Contains, codes}
use Rattle.std.specs.List.{list_all}
use Rattle.std.specs.Ordering.{int_eq}
use Rattle.insn_set.specs.declared.ops.Slot.{Slot}
use Rattle.insn_set.specs.declared.ops.Slot.TheVariants as slot
use Rattle.insn_set.specs.declared.ops.Item.{Item}
use Rattle.insn_set.specs.declared.ops.Item.TheVariants as item
use Rattle.insn_set.specs.declared.ops.InvokeKind.{InvokeKind}
use Rattle.insn_set.specs.declared.ops.InvokeKind.TheVariants as call
use Rattle.insn_set.specs.Widths.{is_wide_item, unary_writes_wide, binary_is_wide}
use Rattle.dalvik_defs.specs.Names.{Text, text_eq, is_word, is_wide, is_reference, is_array, is_class_type, is_void, item_of}
use Rattle.dalvik_defs.specs.Flags.{is_static, is_interface, is_abstract}
use Rattle.dalvik_defs.specs.Under.{class_named}
use Rattle.dalvik_defs.specs.Find.{Search, Finds, finds_super, finds_field, resolves_method}
use Rattle.dalvik_defs.specs.Fields.{first_value}
use Rattle.dalvik_defs.specs.declared.state.Value.{Value}
use Rattle.dalvik_defs.specs.declared.state.Value.TheVariants as value
use Rattle.dalvik_defs.specs.declared.names.MethodKey.{MethodKey}
use Rattle.dalvik_defs.specs.declared.names.FieldKey.{FieldKey}
use Rattle.dalvik_defs.specs.declared.forms.Form.{Form}
use Rattle.dalvik_defs.specs.declared.forms.Form.TheVariants as form
use Rattle.dalvik_defs.specs.declared.program.NamedRegion.{NamedRegion}
use Rattle.dalvik_defs.specs.declared.program.NamedBody.{NamedBody}
use Rattle.dalvik_defs.specs.declared.program.NamedField.{NamedField}
use Rattle.dalvik_defs.specs.declared.program.NamedMethod.{NamedMethod}
use Rattle.dalvik_defs.specs.declared.program.NamedClass.{NamedClass}
use Rattle.dalvik_defs.specs.declared.program.NamedProgram.{NamedProgram}
use Rattle.pass_defs.specs.Bare.{may_throw}
use Rattle.pass_defs.specs.Walks.{form_at, region_at, onward}
use Rattle.pass_defs.specs.Kinds.{Kind, Undefined, Zero, Word, Low, High, Null, Class, Array, Reference, Fresh, FreshThis, kind_eq, is_plain, kind_of, kind_of_reference}
use Rattle.pass_defs.specs.Registers.{Kinds, kind_at, written, replace, forget, state_below, tables_below, all_undefined}
use Rattle.pass_defs.specs.Demands.{is_constructor_name, is_allowed, is_refused}

-- ---- the entry

abbrev pub is_constructor : NamedMethod → Bool
is_constructor m = is_constructor_name m.name && not (is_static m.flags)

abbrev pub receiver_kind : NamedClass → NamedMethod → Kind
receiver_kind c m =
    if is_constructor m then FreshThis
    else if is_interface c.flags then Reference
    else Class c.name

abbrev pub halves : Kind → List Kind
halves Low = Low ∷ High ∷ []
halves k = k ∷ []

abbrev pub parameter_kinds : NamedProgram → List Text → List Kind
parameter_kinds p [] = []
parameter_kinds p (t ∷ ts) = halves (kind_of p t) ++ parameter_kinds p ts

abbrev pub argument_kinds : NamedProgram → NamedClass → NamedMethod → List Kind
argument_kinds p c m = elim (is_static m.flags) [
  | true ↦ parameter_kinds p m.signature.parameters
  | false ↦ receiver_kind c m ∷ parameter_kinds p m.signature.parameters
]

abbrev pub begun : NamedProgram → NamedClass → NamedMethod → NamedBody → Kinds
begun p c m b = record {
  registers = replicate (b.registers - b.ins) Undefined ++ argument_kinds p c m;
  result = Undefined;
  caught = Undefined;
  receiver = if is_constructor m then FreshThis else Undefined;
}

-- ---- what a form leaves

abbrev pub number_kind : Bool → Kind
number_kind wide = if wide then Low else Word

abbrev pub constant_kind : ℤ → Kind
constant_kind z = if int_eq z (pos 0) then Zero else Word

-- an object that is got from null is null
abbrev pub got : NamedProgram → Item → Kind → Kind
got p item.Object (Array t) = kind_of p (item_of t)
got p item.Object k = Null
got p i k = number_kind (is_wide_item i)

abbrev pub moved : Slot → Kind → Kind
moved slot.Wide k = Low
moved s k = k

-- a constructor makes an object initialised, in every register
abbrev pub constructed : NamedProgram → NamedClass → Kind → Kinds → Kinds
constructed p c (Fresh t n) a = replace (Fresh t n) (kind_of p t) a
constructed p c FreshThis a = replace FreshThis (kind_of p c.name) a
constructed p c k a = a

abbrev pub receiver_register : List ℕ → ℕ
receiver_register [] = 0
receiver_register (r ∷ rs) = r

abbrev pub is_static_call : InvokeKind → Bool
is_static_call call.Static = true
is_static_call kind = false

-- a static call has no receiver, whatever its name
abbrev pub called : NamedProgram → NamedClass → InvokeKind → MethodKey → List ℕ → Kinds → Kinds
called p c kind k rs a =
    let b : Kinds = if is_constructor_name k.name && not (is_static_call kind) then constructed p c (kind_at a.registers (receiver_register rs)) a else a in
    record b { result = kind_of p k.signature.result }

abbrev pub after : NamedProgram → NamedClass → ℕ → Form → Kinds → Kinds
after p c n (form.Move slot to from) a = written to (moved slot (kind_at a.registers from)) a
after p c n (form.MoveResult slot to) a = written to a.result a
after p c n (form.MoveException to) a = written to a.caught a
after p c n (form.Const to value) a = written to (constant_kind value) a
after p c n (form.ConstWide to value) a = written to Low a
after p c n (form.ConstString to text) a = written to Reference a
after p c n (form.ConstClass to kind) a = written to Reference a
after p c n (form.CheckCast on kind) a = written on (kind_of_reference p kind) a
after p c n (form.InstanceOf to from kind) a = written to Word a
after p c n (form.ArrayLength to from) a = written to Word a
after p c n (form.NewInstance to kind) a = written to (Fresh kind n) (forget n a)
after p c n (form.NewArray to size kind) a = written to (Array kind) a
after p c n (form.FilledNewArray kind args) a = record a { result = Array kind }
after p c n (form.Cmp op to x y) a = written to Word a
after p c n (form.ArrayGet item to array index) a = written to (got p item (kind_at a.registers array)) a
after p c n (form.InstanceGet item to on field) a = written to (kind_of p field.kind) a
after p c n (form.StaticGet item to field) a = written to (kind_of p field.kind) a
after p c n (form.Invoke kind method args) a = called p c kind method args a
after p c n (form.Unary op to from) a = written to (number_kind (unary_writes_wide op)) a
after p c n (form.Binary op to x y) a = written to (number_kind (binary_is_wide op)) a
after p c n (form.Literal op to x value) a = written to Word a
after p c n f a = a

-- ---- positions that no kinds make right

abbrev pub differ : Bool → Bool → Bool
differ true b = not b
differ false b = b

-- a program member with the wrong static flag
abbrev pub wrong_field : NamedProgram → Bool → FieldKey → Bool
wrong_field p static k = elim (finds_field p k) [ Some f ↦ differ static (is_static f.1.flags) | None ↦ false ]

abbrev pub is_text_or_type : Value → Bool
is_text_or_type (value.Literal t) = true
is_text_or_type (value.Class t) = true
is_text_or_type v = false

abbrev pub begins_as_text_or_type : NamedField → Bool
begins_as_text_or_type f = elim f.first [ Some v ↦ is_text_or_type (first_value v) | None ↦ false ]

-- A static field may have a text or a type first, whatever reference type it has. Neither is an array or an object of a
-- program class that is no interface, so a field of such a type that has one first isn't read.
abbrev pub wrong_first : NamedProgram → FieldKey → Bool
wrong_first p k = (is_array k.kind || is_plain p k.kind) && elim (finds_field p k) [ Some f ↦ begins_as_text_or_type f.1 | None ↦ false ]

abbrev pub wrong_method : NamedProgram → InvokeKind → MethodKey → Bool
wrong_method p kind k = elim (resolves_method p k) [ Some g ↦ differ (is_static_call kind) (is_static g.flags) | None ↦ false ]

abbrev pub finds_static : Search → Bool
finds_static (Finds g) = is_static g.flags
finds_static s = false

abbrev pub wrong_super : NamedProgram → NamedClass → InvokeKind → MethodKey → Bool
wrong_super p c call.Super k = is_constructor_name k.name || finds_static (finds_super p c.name k)
wrong_super p c kind k = false

-- how many registers values of these types take
abbrev pub words_of : List Text → ℕ
words_of [] = 0
words_of (t ∷ ts) = (if is_wide t then 2 else 1) + words_of ts

abbrev pub passed_words : InvokeKind → MethodKey → ℕ
passed_words kind k = (if is_static_call kind then 0 else 1) + words_of k.signature.parameters

-- a form of an item for a type of another width
abbrev pub wrong_item : Item → Text → Bool
wrong_item item.Wide t = not (is_wide t)
wrong_item item.Object t = not (is_reference t)
wrong_item i t = is_wide t || is_reference t

abbrev pub wrong_return : Slot → Text → Bool
wrong_return slot.Word t = not (is_word t)
wrong_return slot.Wide t = not (is_wide t)
wrong_return slot.Object t = not (is_reference t)

abbrev pub wrong_instance : NamedProgram → Text → Bool
wrong_instance p t = not (is_class_type t) || elim (class_named p t) [ Some c ↦ is_abstract c.flags || is_interface c.flags | None ↦ false ]

abbrev pub wrong_filled : Text → Bool
wrong_filled t = not (is_array t) || not (text_eq (item_of t) (codes "I") || is_reference (item_of t))

-- a constructor's return before another constructor has been called on its receiver
abbrev pub ends_early : NamedProgram → NamedClass → NamedMethod → Kinds → Bool
ends_early p c m a = is_constructor m && not (kind_eq a.receiver (kind_of p c.name))

abbrev pub is_wrong : NamedProgram → NamedClass → NamedMethod → Kinds → Form → Bool
is_wrong p c m a form.ReturnVoid = not (is_void m.signature.result) || ends_early p c m a
is_wrong p c m a (form.Return slot from) = wrong_return slot m.signature.result || ends_early p c m a
is_wrong p c m a (form.NewInstance to kind) = wrong_instance p kind
is_wrong p c m a (form.NewArray to size kind) = not (is_array kind)
is_wrong p c m a (form.FilledNewArray kind args) = wrong_filled kind
is_wrong p c m a (form.InstanceGet item to on field) = wrong_item item field.kind || wrong_field p false field
is_wrong p c m a (form.InstancePut item from on field) = wrong_item item field.kind || wrong_field p false field
is_wrong p c m a (form.StaticGet item to field) = wrong_item item field.kind || wrong_field p true field || wrong_first p field
is_wrong p c m a (form.StaticPut item from field) = wrong_item item field.kind || wrong_field p true field
is_wrong p c m a (form.Invoke kind method args) =
    wrong_method p kind method || wrong_super p c kind method || not (nat_eq (length args) (passed_words kind method))
is_wrong p c m a f = false

-- ---- edges

-- where a throw goes, with the kind of the caught object: that of the handler's type, any object for a catch-all
abbrev pub catch_all : Option ℕ → List (ℕ × Kind)
catch_all None = []
catch_all (Some n) = (n, Reference) ∷ []

abbrev pub catches_in : NamedProgram → Option NamedRegion → List (ℕ × Kind)
catches_in p None = []
catches_in p (Some r) = map (λ h. (h.position, kind_of p h.kind)) r.handlers ++ catch_all r.rest

abbrev pub catches : NamedProgram → NamedBody → ℕ → Form → List (ℕ × Kind)
catches p b n f = if may_throw f then catches_in p (region_at b n) else []

-- The edges from a position with what they carry: the kinds after the form, to a handler those from before it.
abbrev pub edges : NamedProgram → NamedClass → NamedBody → ℕ → Form → Kinds → List (ℕ × Kinds)
edges p c b n f a = map (λ q. (q, after p c n f a)) (onward f n) ++ map (λ h. (h.0, record a { caught = h.1 })) (catches p b n f)

abbrev pub Table : Type 0
Table = List (Option Kinds)

abbrev pub state_at : Table → ℕ → Option Kinds
state_at t n = slice_index_or t n None

-- ---- typings

-- a test of each number below a bound
abbrev pub each : ℕ → (ℕ → Bool) → Bool
each zero test = true
each (suc n) test = each n test && test n

-- a test of a position that has a state
abbrev pub at_state : NamedBody → Table → (Form → Kinds → Bool) → ℕ → Bool
at_state b t test n = elim (form_at b n) [ Some f ↦ elim (state_at t n) [ Some a ↦ test f a | None ↦ true ] | None ↦ true ]

abbrev pub arrives : NamedProgram → Table → (ℕ × Kinds) → Bool
arrives p t e = state_below p (Some e.1) (state_at t e.0)

pub record IsTyping (p : NamedProgram) (c : NamedClass) (m : NamedMethod) (b : NamedBody) (t : Table) : Type 0 where
  pub long : length t ≡ length b.forms
  pub entry : state_below p (Some (begun p c m b)) (state_at t 0) ≡ true
  pub reads : each (length b.forms) (at_state b t (λ f a. is_allowed p c m a f)) ≡ true
  pub right : each (length b.forms) (at_state b t (λ f a. not (is_wrong p c m a f))) ≡ true
  pub edges : each (length b.forms) (λ n. at_state b t (λ f a. list_all (arrives p t) (edges p c b n f a)) n) ≡ true

-- the typing that is at or below each
pub record IsLeastTyping (p : NamedProgram) (c : NamedClass) (m : NamedMethod) (b : NamedBody) (t : Table) : Type 0 where
  pub typing : IsTyping p c m b t
  pub least : (u : Table) → IsTyping p c m b u → tables_below p t u ≡ true

-- every body has a typing
pub record IsTyped (p : NamedProgram) : Type 0 where
  pub bodies : (c : NamedClass) (m : NamedMethod) (b : NamedBody) → Contains p.classes c → Contains c.methods m → m.body ≡ Some b → (t : Table) × IsTyping p c m b t

-- ---- the least flow

-- an edge from a position with a read that isn't allowed, or that is wrong, carries undefined kinds alone
abbrev pub is_good : NamedProgram → NamedClass → NamedMethod → Kinds → Form → Bool
is_good p c m a f = is_allowed p c m a f && not (is_wrong p c m a f)

abbrev pub guarded : Bool → NamedBody → (ℕ × Kinds) → ℕ × Kinds
guarded good b e = elim good [ true ↦ e | false ↦ (e.0, all_undefined b.registers) ]

abbrev pub flows : NamedProgram → NamedClass → NamedMethod → NamedBody → ℕ → Form → Kinds → List (ℕ × Kinds)
flows p c m b n f a = map (guarded (is_good p c m a f) b) (edges p c b n f a)

pub record IsFlow (p : NamedProgram) (c : NamedClass) (m : NamedMethod) (b : NamedBody) (t : Table) : Type 0 where
  pub long : length t ≡ length b.forms
  pub entry : state_below p (Some (begun p c m b)) (state_at t 0) ≡ true
  pub edges : each (length b.forms) (λ n. at_state b t (λ f a. list_all (arrives p t) (flows p c m b n f a)) n) ≡ true

pub record IsLeastFlow (p : NamedProgram) (c : NamedClass) (m : NamedMethod) (b : NamedBody) (t : Table) : Type 0 where
  pub flow : IsFlow p c m b t
  pub least : (u : Table) → IsFlow p c m b u → tables_below p t u ≡ true

-- a position and a register at which a body is ill typed; for a position that is wrong this is register 0
abbrev pub is_ill_at : NamedProgram → NamedClass → NamedMethod → NamedBody → Table → ℕ → ℕ → Bool
is_ill_at p c m b t n r = not (at_state b t (λ f a. not (is_refused p c m a f r || (is_wrong p c m a f && nat_eq r 0))) n)

pub record IsIllTyped (p : NamedProgram) (c : NamedClass) (m : NamedMethod) (b : NamedBody) (n r : ℕ) : Type 0 where
  pub table : Table
  pub least : IsLeastFlow p c m b table
  pub ill : is_ill_at p c m b table n r ≡ true
