-- Two programs whose look-ups answer alike have the same kinds, demands and edges.
use Rattle.std.proofs.Common.{◌≡◌, ℕ, ◌-◌, Bool, true, false, List, [], ◌∷◌, ◌++◌, length, refl, ap, ◌∙◌}
use std.Path.{fun_ext}
use Rattle.std.specs.Prelude.{◌&&◌, ◌||◌, not, nat_eq, nat_lt, Option, Some, None, map, replicate, if◌then◌else◌}
use Rattle.std.specs.List.{list_all}
use Rattle.insn_set.specs.declared.ops.Item.{Item}
use Rattle.insn_set.specs.declared.ops.Item.TheVariants as item
use Rattle.insn_set.specs.declared.ops.InvokeKind.{InvokeKind}
use Rattle.insn_set.specs.declared.ops.InvokeKind.TheVariants as call
use Rattle.dalvik_defs.specs.Names.{Text, text_eq, is_word, is_wide, is_reference, is_array, is_void, base_of, item_of}
use Rattle.dalvik_defs.specs.Flags.{is_static}
use Rattle.dalvik_defs.specs.Find.{Found, Search, finds_super, finds_field, resolves_method}
use Rattle.dalvik_defs.specs.declared.names.MethodKey.{MethodKey}
use Rattle.dalvik_defs.specs.declared.names.FieldKey.{FieldKey}
use Rattle.dalvik_defs.specs.declared.forms.Form.{Form}
use Rattle.dalvik_defs.specs.declared.forms.Form.TheVariants as form
use Rattle.dalvik_defs.specs.declared.program.NamedField.{NamedField}
use Rattle.dalvik_defs.specs.declared.program.NamedRegion.{NamedRegion}
use Rattle.dalvik_defs.specs.declared.program.NamedBody.{NamedBody}
use Rattle.dalvik_defs.specs.declared.program.NamedMethod.{NamedMethod}
use Rattle.dalvik_defs.specs.declared.program.NamedClass.{NamedClass}
use Rattle.dalvik_defs.specs.declared.program.NamedProgram.{NamedProgram}
use Rattle.program_laws.specs.Bodies.{Code}
use Rattle.pass_defs.specs.Bare.{may_throw}
use Rattle.pass_defs.specs.Walks.{region_at, onward}
use Rattle.pass_defs.specs.Kinds.{Kind, Undefined, Zero, Word, Low, Null, Class, Array, Reference, Fresh, FreshThis, kind_eq, is_number, is_initialised, is_null, depth, is_plain, is_program_interface, kind_of_reference, kind_of, nearest, joined_items, joined_deep, class_or_reference, joined_references, is_below, item_fits, array_fits, fits_array, fits, fits_holder}
use Rattle.pass_defs.specs.Registers.{Kinds, kind_at, written, replace, all_below, kinds_below, state_below}
use Rattle.pass_defs.specs.Demands.{Demand, Fits, Receiver, Holder, Constructed, is_constructed, holds_field, meets, found_class, receiver_demands, passed, call_demands, demands, place_allowed, is_allowed, is_constructor_name}
use Rattle.pass_defs.specs.Typed.{is_constructor, receiver_kind, halves, parameter_kinds, begun, got, constructed, receiver_register, is_static_call, called, after, differ, wrong_field, begins_as_text_or_type, wrong_first, wrong_method, finds_static, wrong_super, passed_words, wrong_item, wrong_return, wrong_instance, ends_early, is_wrong, catch_all, catches_in, catches, edges, Table, state_at, each, at_state, arrives, IsTyping}

pub record Alike (p q : NamedProgram) : Type 0 where
  pub plain : is_plain q ≡ is_plain p
  pub interface : is_program_interface q ≡ is_program_interface p
  pub near : nearest q ≡ nearest p
  pub field : finds_field q ≡ finds_field p
  pub resolves : resolves_method q ≡ resolves_method p
  pub super : finds_super q ≡ finds_super p
  pub instance : wrong_instance q ≡ wrong_instance p

module _ (p q : NamedProgram) (alike : Alike p q) where
  -- ---- kinds

  reference_same : (t : Text) → kind_of_reference q t ≡ kind_of_reference p t
  reference_same t = ap (λ f. if is_array t then Array t else if f t then Class t else Reference) alike.plain

  kind_at_type : (t : Text) → kind_of q t ≡ kind_of p t
  kind_at_type t = ap (λ k. if is_word t then Word else if is_wide t then Low else if is_reference t then k else Undefined) (reference_same t)

  kind_same : kind_of q ≡ kind_of p
  kind_same = fun_ext kind_at_type

  references_same : (a b : Kind) → joined_references q a b ≡ joined_references p a b
  references_same Zero b = refl
  references_same a Zero = refl
  references_same Null b = refl
  references_same a Null = refl
  references_same (Class s) (Class t) = ap (λ (f : Text → Text → Option Text). class_or_reference (f s t)) alike.near
  references_same (Array s) (Array t) = ap (λ (f : Text → Text → Option Text). elim (nat_eq (depth s) (depth t)) as (λ b. Kind) [ true ↦ joined_items s t (f (base_of s) (base_of t)) | false ↦ joined_deep s t ]) alike.near
  references_same a b = refl

  below_at : (a b : Kind) → is_below q a b ≡ is_below p a b
  below_at a b = ap (λ k. kind_eq (if kind_eq a b then a else if is_number a && is_number b then Word else if is_initialised a && is_initialised b then k else Undefined) b) (references_same a b)

  below_same : is_below q ≡ is_below p
  below_same = fun_ext (λ a. fun_ext (below_at a))

  all_below_same : (ks ls : List Kind) → all_below q ks ls ≡ all_below p ks ls
  all_below_same [] [] = refl
  all_below_same [] (l ∷ ls) = refl
  all_below_same (k ∷ ks) [] = refl
  all_below_same (k ∷ ks) (l ∷ ls) = ap (λ b. b && all_below q ks ls) (below_at k l) ∙ ap (λ b. is_below p k l && b) (all_below_same ks ls)

  kinds_below_same : (a b : Kinds) → kinds_below q a b ≡ kinds_below p a b
  kinds_below_same a b =
      ap (λ x. x && is_below q a.result b.result && is_below q a.caught b.caught && is_below q a.receiver b.receiver) (all_below_same a.registers b.registers)
      ∙ ap (λ f. all_below p a.registers b.registers && f a.result b.result && f a.caught b.caught && f a.receiver b.receiver) below_same

  state_same : (a b : Option Kinds) → state_below q a b ≡ state_below p a b
  state_same None b = refl
  state_same (Some a) None = refl
  state_same (Some a) (Some b) = kinds_below_same a b

  -- ---- what fits a type

  item_fits_same : (s t : Text) → item_fits q s t ≡ item_fits p s t
  item_fits_same s t =
      ap (λ f. is_reference s && is_reference t && (not (f t) || is_below q (kind_of q s) (Class t))) alike.plain
      ∙ ap (λ f. is_reference s && is_reference t && (not (is_plain p t) || f (kind_of q s) (Class t))) below_same
      ∙ ap (λ f. is_reference s && is_reference t && (not (is_plain p t) || is_below p (f s) (Class t))) kind_same

  array_fits_same : (s t : Text) → array_fits q s t ≡ array_fits p s t
  array_fits_same s t =
      ap (λ x. if nat_eq (depth s) (depth t) then (text_eq s t || x) else nat_lt (depth t) (depth s) && is_reference (base_of t) && not (is_plain q (base_of t))) (item_fits_same (base_of s) (base_of t))
      ∙ ap (λ f. if nat_eq (depth s) (depth t) then (text_eq s t || item_fits p (base_of s) (base_of t)) else nat_lt (depth t) (depth s) && is_reference (base_of t) && not (f (base_of t))) alike.plain

  fits_array_same : (k : Kind) (t : Text) → fits_array q k t ≡ fits_array p k t
  fits_array_same (Array s) t = array_fits_same s t
  fits_array_same k t = refl

  fits_same : (k : Kind) (t : Text) → fits q k t ≡ fits p k t
  fits_same k t =
      ap (λ x. if is_word t then is_number k else if is_array t then x else if is_plain q t then is_below q k (Class t) else is_initialised k) (fits_array_same k t)
      ∙ ap (λ f. if is_word t then is_number k else if is_array t then fits_array p k t else if f t then is_below q k (Class t) else is_initialised k) alike.plain
      ∙ ap (λ x. if is_word t then is_number k else if is_array t then fits_array p k t else if is_plain p t then x else is_initialised k) (below_at k (Class t))

  holder_same : (k : Kind) (t : Text) → fits_holder q k t ≡ fits_holder p k t
  holder_same k t = ap (λ b. b && (not (is_program_interface q t) || is_null k)) (fits_same k t) ∙ ap (λ f. fits p k t && (not (f t) || is_null k)) alike.interface

  -- ---- a class with other methods

  module _ (c : NamedClass) (ms : List NamedMethod) (m : NamedMethod) (code : Code) where
    abbrev d : NamedClass
    d = record c { methods = ms }

    abbrev n : NamedMethod
    n = record m { body = code.body; lines = code.lines }

    -- ---- demands

    holds_same : (k : FieldKey) (kind : Kind) → holds_field q d k kind ≡ holds_field p c k kind
    holds_same k FreshThis = ap (λ (f : FieldKey → Option (Text × NamedField)). elim (f k) as (λ o. Bool) [ Some f ↦ text_eq f.0 c.name | None ↦ false ]) alike.field
    holds_same k kind = holder_same kind k.class

    meets_same : (ks : List Kind) (r : ℕ) (x : Demand) → meets q d ks r x ≡ meets p c ks r x
    meets_same ks r (Fits t) = fits_same (kind_at ks r) t
    meets_same ks r (Receiver t) = holder_same (kind_at ks r) t
    meets_same ks r (Holder k) = holds_same k (kind_at ks r)
    meets_same ks r (Constructed t) = constructs (kind_at ks r)
      where
        constructs : (k : Kind) → is_constructed d t k ≡ is_constructed c t k
        constructs k = refl
    meets_same ks r x = refl

    receiver_same : (kind : InvokeKind) (k : MethodKey) → receiver_demands q d kind k ≡ receiver_demands p c kind k
    receiver_same call.Super k = ap (λ (f : Text → MethodKey → Search). Fits k.class ∷ map Fits (found_class (f c.name k))) alike.super
    receiver_same kind k = refl

    call_same : (kind : InvokeKind) (k : MethodKey) (rs : List ℕ) → call_demands q d kind k rs ≡ call_demands p c kind k rs
    call_same call.Static k rs = refl
    call_same kind k [] = refl
    call_same kind k (r ∷ rs) = ap (λ ds. map (λ x. (r, x)) ds ++ passed k.signature.parameters rs) (receiver_same kind k)

    demands_same : (ks : List Kind) (f : Form) → demands q d n ks f ≡ demands p c m ks f
    demands_same ks (form.Invoke kind k args) = call_same kind k args
    demands_same ks f = refl

    allowed_same : (a : Kinds) (f : Form) → is_allowed q d n a f ≡ is_allowed p c m a f
    allowed_same a f =
        ap (λ ds. place_allowed a f && list_all (λ x. meets q d a.registers x.0 x.1) ds) (demands_same a.registers f)
        ∙ ap (λ g. place_allowed a f && list_all g (demands p c m a.registers f)) (fun_ext (λ x. meets_same a.registers x.0 x.1))

    -- ---- what is wrong

    wrong_field_same : (static : Bool) (k : FieldKey) → wrong_field q static k ≡ wrong_field p static k
    wrong_field_same static k = ap (λ (f : FieldKey → Option (Text × NamedField)). elim (f k) as (λ o. Bool) [ Some f ↦ differ static (is_static f.1.flags) | None ↦ false ]) alike.field

    wrong_first_same : (k : FieldKey) → wrong_first q k ≡ wrong_first p k
    wrong_first_same k =
        ap (λ f. (is_array k.kind || f k.kind) && elim (finds_field q k) as (λ o. Bool) [ Some f ↦ begins_as_text_or_type f.1 | None ↦ false ]) alike.plain
        ∙ ap (λ (f : FieldKey → Option (Text × NamedField)). (is_array k.kind || is_plain p k.kind) && elim (f k) as (λ o. Bool) [ Some f ↦ begins_as_text_or_type f.1 | None ↦ false ]) alike.field

    wrong_method_same : (kind : InvokeKind) (k : MethodKey) → wrong_method q kind k ≡ wrong_method p kind k
    wrong_method_same kind k = ap (λ (f : MethodKey → Option Found). elim (f k) as (λ o. Bool) [ Some g ↦ differ (is_static_call kind) (is_static g.flags) | None ↦ false ]) alike.resolves

    wrong_super_same : (kind : InvokeKind) (k : MethodKey) → wrong_super q d kind k ≡ wrong_super p c kind k
    wrong_super_same call.Super k = ap (λ (f : Text → MethodKey → Search). is_constructor_name k.name || finds_static (f c.name k)) alike.super
    wrong_super_same kind k = refl

    early_same : (a : Kinds) → ends_early q d n a ≡ ends_early p c m a
    early_same a = ap (λ f. is_constructor m && not (kind_eq a.receiver (f c.name))) kind_same

    wrong_same : (a : Kinds) (f : Form) → is_wrong q d n a f ≡ is_wrong p c m a f
    wrong_same a form.ReturnVoid = ap (λ x. not (is_void m.signature.result) || x) (early_same a)
    wrong_same a (form.Return slot from) = ap (λ x. wrong_return slot m.signature.result || x) (early_same a)
    wrong_same a (form.NewInstance to kind) = ap (λ f. f kind) alike.instance
    wrong_same a (form.InstanceGet item to on field) = ap (λ x. wrong_item item field.kind || x) (wrong_field_same false field)
    wrong_same a (form.InstancePut item from on field) = ap (λ x. wrong_item item field.kind || x) (wrong_field_same false field)
    wrong_same a (form.StaticGet item to field) =
        ap (λ x. wrong_item item field.kind || x || wrong_first q field) (wrong_field_same true field)
        ∙ ap (λ x. wrong_item item field.kind || wrong_field p true field || x) (wrong_first_same field)
    wrong_same a (form.StaticPut item from field) = ap (λ x. wrong_item item field.kind || x) (wrong_field_same true field)
    wrong_same a (form.Invoke kind k args) =
        ap (λ x. x || wrong_super q d kind k || not (nat_eq (length args) (passed_words kind k))) (wrong_method_same kind k)
        ∙ ap (λ x. wrong_method p kind k || x || not (nat_eq (length args) (passed_words kind k))) (wrong_super_same kind k)
    wrong_same a f = refl

    -- ---- what a form leaves

    got_same : (i : Item) (k : Kind) → got q i k ≡ got p i k
    got_same item.Object (Array t) = kind_at_type (item_of t)
    got_same item.Object k = refl
    got_same i k = refl

    constructed_same : (k : Kind) (a : Kinds) → constructed q d k a ≡ constructed p c k a
    constructed_same (Fresh t n) a = ap (λ f. replace (Fresh t n) (f t) a) kind_same
    constructed_same FreshThis a = ap (λ f. replace FreshThis (f c.name) a) kind_same
    constructed_same k a = refl

    called_same : (kind : InvokeKind) (k : MethodKey) (rs : List ℕ) (a : Kinds) → called q d kind k rs a ≡ called p c kind k rs a
    called_same kind k rs a =
        ap (λ (x : Kinds). record (if is_constructor_name k.name && not (is_static_call kind) then x else a) { result = kind_of q k.signature.result }) (constructed_same (kind_at a.registers (receiver_register rs)) a)
        ∙ ap (λ x. record (if is_constructor_name k.name && not (is_static_call kind) then constructed p c (kind_at a.registers (receiver_register rs)) a else a) { result = x }) (kind_at_type k.signature.result)

    after_same : (at : ℕ) (f : Form) (a : Kinds) → after q d at f a ≡ after p c at f a
    after_same at (form.CheckCast on kind) a = ap (λ k. written on k a) (reference_same kind)
    after_same at (form.ArrayGet item to array index) a = ap (λ k. written to k a) (got_same item (kind_at a.registers array))
    after_same at (form.InstanceGet item to on field) a = ap (λ k. written to k a) (kind_at_type field.kind)
    after_same at (form.StaticGet item to field) a = ap (λ k. written to k a) (kind_at_type field.kind)
    after_same at (form.Invoke kind k args) a = called_same kind k args a
    after_same at f a = refl

    -- ---- the entry

    parameters_same : (ts : List Text) → parameter_kinds q ts ≡ parameter_kinds p ts
    parameters_same [] = refl
    parameters_same (t ∷ ts) = ap (λ k. halves k ++ parameter_kinds q ts) (kind_at_type t) ∙ ap (λ ks. halves (kind_of p t) ++ ks) (parameters_same ts)

    begun_same : (b : NamedBody) → begun q d n b ≡ begun p c m b
    begun_same b = ap (λ ks. record (begun p c m b) { registers = replicate (b.registers - b.ins) Undefined ++ elim (is_static m.flags) as (λ b. List Kind) [ true ↦ ks | false ↦ receiver_kind c m ∷ ks ] }) (parameters_same m.signature.parameters)

    -- ---- edges

    catches_in_same : (o : Option NamedRegion) → catches_in q o ≡ catches_in p o
    catches_in_same None = refl
    catches_in_same (Some r) = ap (λ f. map (λ h. (h.position, f h.kind)) r.handlers ++ catch_all r.rest) kind_same

    catches_same : (b : NamedBody) (at : ℕ) (f : Form) → catches q b at f ≡ catches p b at f
    catches_same b at f = ap (λ hs. if may_throw f then hs else []) (catches_in_same (region_at b at))

    edges_same : (b : NamedBody) (at : ℕ) (f : Form) (a : Kinds) → edges q d b at f a ≡ edges p c b at f a
    edges_same b at f a =
        ap (λ x. map (λ y. (y, x)) (onward f at) ++ map (λ h. (h.0, record a { caught = h.1 })) (catches q b at f)) (after_same at f a)
        ∙ ap (λ hs. map (λ y. (y, after p c at f a)) (onward f at) ++ map (λ h. (h.0, record a { caught = h.1 })) hs) (catches_same b at f)

    -- ---- typings

    arrives_same : (t : Table) → arrives q t ≡ arrives p t
    arrives_same t = fun_ext (λ e. state_same (Some e.1) (state_at t e.0))

    pub typing_moved : (b : NamedBody) (t : Table) → IsTyping p c m b t → IsTyping q d n b t
    typing_moved b t h = record {
      long = h.long;
      entry = ap (λ a. state_below q (Some a) (state_at t 0)) (begun_same b) ∙ state_same (Some (begun p c m b)) (state_at t 0) ∙ h.entry;
      reads = ap (λ test. each (length b.forms) (at_state b t test)) (fun_ext (λ f. fun_ext (λ a. allowed_same a f))) ∙ h.reads;
      right = ap (λ test. each (length b.forms) (at_state b t (λ f a. not (test a f)))) (fun_ext (λ a. fun_ext (λ f. wrong_same a f))) ∙ h.right;
      edges = ap (λ to. each (length b.forms) (λ at. at_state b t (λ f a. list_all to (edges q d b at f a)) at)) (arrives_same t)
          ∙ ap (λ es. each (length b.forms) (λ at. at_state b t (λ f a. list_all (arrives p t) (es at f a)) at)) (fun_ext (λ at. fun_ext (λ f. fun_ext (λ a. edges_same b at f a))))
          ∙ h.edges;
    }
